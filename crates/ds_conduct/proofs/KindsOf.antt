-- Each Swap that the guard allows is of its kind.
use Rattle.std.proofs.Common.{◌≡◌, ℕ, ◌+◌, ◌<◌, ◌≤◌, Bool, true, false, Some, refl, sym, ◌∙◌, ap, arith}
use Rattle.std.specs.Prelude.{◌==◌, not}
use Rattle.std.specs.List.{Contains}
use Rattle.std.proofs.lemmas.Bool.{eq-eqb}
use Rattle.ds_base.specs.declared.sectors.Sector.{Sector}
use Rattle.ds_base.specs.declared.commands.Command.TheVariants.{Swap}
use Rattle.ds_marks.specs.Slot.{state_code}
use Rattle.ds_marks.specs.declared.header.Owner.{Owner}
use Rattle.ds_marks.specs.declared.header.Header.{Header}
use Rattle.ds_marks.specs.declared.slot.Slot.{Slot}
use Rattle.ds_marks.specs.declared.slot.Journal.TheVariants.{Idle, Committed}
use Rattle.ds_tree.specs.declared.scenarios.Point.{Point}
use Rattle.ds_tree.specs.declared.scenarios.Point.TheVariants as points
use Rattle.ds_marks.specs.SlotIn.{slot_in, is_idle}
use Rattle.ds_conduct.specs.Digests.{Own, Owed, Digest, own_pair}
use Rattle.ds_conduct.specs.Guards.{MaySwap, Enter, Leave, Beat, Commit, Retire, Break, Clear, Lock, GiveBack, SwapsOwn, SwapsHeader}
use Rattle.ds_marks.specs.HeaderIn.{header_in}
use Rattle.ds_conduct.specs.Headers.{IsOf}
use Rattle.ds_conduct.specs.Settings.{Setting}
use Rattle.ds_conduct.specs.Kinds.{code_of, is_idle_slot, is_busy_slot, is_own, is_slot_kind, is_owner_under, is_header_kind, is_swap_kind, is_kind}
use Rattle.ds_conduct.specs.Marks.{slot_number}
use Rattle.ds_conduct.proofs.Places.{slot_number-of, slot_number-beyond, header-beyond}

-- the kind of a Swap that is allowed
abbrev pub point_of : {setting : Setting} {d : Digest} {now at : ℕ} {verify fresh : Sector} → MaySwap setting d now at verify fresh → Point
point_of (Enter r) = points.Enter
point_of (Leave r) = points.Leave
point_of (Beat r) = points.Beat
point_of (Commit r) = points.Commit
point_of (Retire r) = points.Retire
point_of (Break r) = points.Break
point_of (Clear r) = points.Clear
point_of (Lock r) = points.Lock
point_of (GiveBack r) = points.Free

idle-test : (s : Slot) → s.journal ≡ Idle → is_idle_slot (Some s) ≡ true
idle-test s e = ap is_idle e

busy-test : (s : Slot) (txn count : ℕ) → s.journal ≡ Committed txn count → is_busy_slot (Some s) ≡ true
busy-test s txn count e = ap (λ j. not (is_idle j)) e

code-test : (s : Slot) (n : ℕ) → state_code s.state ≡ n → (code_of (Some s) == n) ≡ true
code-test s n e = eq-eqb (state_code s.state) n e

-- each header that is owed names the generation held
abbrev pub OwedNameOwn : Digest → Type 0
OwedNameOwn d = (own : Own) (owed : Owed) (h : Header) → d.own ≡ Some own → Contains d.owed owed → header_in owed.image.bytes ≡ Some h
    → (owner : Owner) × (h.owner ≡ Some owner) × IsOf owner own.slot own.generation

module _ (setting : Setting) (d : Digest) (now at : ℕ) (verify fresh : Sector) where
  slot-kind : (point : Point) (a : ℕ) (old new : Slot) (b : Bool) → a < setting.geom.slots → at ≡ 2 + a
      → slot_in a verify.bytes ≡ Some old → slot_in a fresh.bytes ≡ Some new
      → is_own (own_pair d.own) a ≡ b → is_slot_kind point b (Some old) (Some new) ≡ true
      → is_kind setting.geom point (own_pair d.own) (Swap at verify fresh) ≡ true
  slot-kind point a old new b within place was is own test =
      ap (λ k. is_swap_kind point (own_pair d.own) k verify fresh) (ap (slot_number setting.geom) place
      ∙ slot_number-of setting.geom a within)
      ∙ ap (λ o. is_slot_kind point (is_own (own_pair d.own) a) o (slot_in a fresh.bytes)) was
      ∙ ap (λ n. is_slot_kind point (is_own (own_pair d.own) a) (Some old) n) is
      ∙ ap (λ k. is_slot_kind point k (Some old) (Some new)) own ∙ test

  own-kind : (point : Point) (w : SwapsOwn setting d now at verify fresh) → is_slot_kind point true (Some w.old) (Some w.new) ≡ true
      → is_kind setting.geom point (own_pair d.own) (Swap at verify fresh) ≡ true
  own-kind point w test =
      slot-kind point w.own.slot w.old w.new true w.within w.place w.was w.is (ap (λ o. is_own (own_pair o) w.own.slot) w.holds
      ∙ eq-eqb w.own.slot w.own.slot refl) test

  header-kind : (point : Point) (w : SwapsHeader setting.geom at verify fresh)
      → is_header_kind point (own_pair d.own) (Some w.old) (Some w.new) ≡ true
      → is_kind setting.geom point (own_pair d.own) (Swap at verify fresh) ≡ true
  header-kind point w test =
      let beyond : 2 + setting.geom.slots ≤ at = (let place = w.place in let b = header-beyond setting.geom w.object in omega arith) in
      ap (λ k. is_swap_kind point (own_pair d.own) k verify fresh) (slot_number-beyond setting.geom at beyond)
      ∙ ap (λ o. is_header_kind point (own_pair d.own) o (header_in fresh.bytes)) w.was
      ∙ ap (λ n. is_header_kind point (own_pair d.own) (Some w.old) n) w.is ∙ test

  pub kind-of : OwedNameOwn d → (may : MaySwap setting d now at verify fresh)
      → is_kind setting.geom (point_of may) (own_pair d.own) (Swap at verify fresh) ≡ true
  kind-of names (Enter r) =
      slot-kind points.Enter r.swap.slot r.swap.old r.swap.new false r.swap.within r.swap.place r.swap.was r.swap.is (ap (λ o. is_own
      (own_pair o) r.swap.slot) r.none)
      (rw (code-test r.swap.old 0 (ap state_code r.was_free), code-test r.swap.new 1 (ap state_code r.live)) refl)
  kind-of names (Leave r) = own-kind points.Leave r.swap (rw (
    code-test r.swap.old 1 (ap state_code r.swap.was_live),
    code-test r.swap.new 0 (ap state_code r.free),
  ) refl)
  kind-of names (Beat r) =
      let w = r.renewal.swap in
      own-kind points.Beat w (rw (
        code-test w.old 1 (ap state_code w.was_live),
        code-test w.new 1 (ap state_code r.renewal.live),
        idle-test w.old r.was_idle,
        idle-test w.new r.idle,
      ) refl)
  kind-of names (Commit r) =
      let w = r.renewal.swap in
      own-kind points.Commit w (rw (
        code-test w.old 1 (ap state_code w.was_live),
        code-test w.new 1 (ap state_code r.renewal.live),
        idle-test w.old r.was_idle,
        busy-test w.new r.txn _ r.committed,
      ) refl)
  kind-of names (Retire r) =
      let w = r.renewal.swap in
      own-kind points.Retire w (rw (
        code-test w.old 1 (ap state_code w.was_live),
        code-test w.new 1 (ap state_code r.renewal.live),
        busy-test w.old r.txn _ r.was_committed,
        idle-test w.new r.idle,
      ) refl)
  kind-of names (Break r) =
      slot-kind points.Break r.swap.slot r.swap.old r.swap.new (is_own
      (own_pair d.own) r.swap.slot) r.swap.within r.swap.place r.swap.was r.swap.is refl (code-test r.swap.new 2
      (ap state_code r.breaking))
  kind-of names (Clear r) =
      slot-kind points.Clear r.swap.slot r.swap.old r.swap.new (is_own
      (own_pair d.own) r.swap.slot) r.swap.within r.swap.place r.swap.was r.swap.is refl
      (rw (code-test r.swap.old 2 (ap state_code r.mine), code-test r.swap.new 0 (ap state_code r.free)) refl)
  kind-of names (Lock r) =
      header-kind points.Lock r.swap
      (ap (λ o. is_owner_under (own_pair o) r.swap.new.owner) r.holds ∙ ap (is_owner_under (Some (r.own.slot, r.own.generation))) r.owned
      ∙ rw (eq-eqb r.own.slot r.own.slot refl, eq-eqb r.own.generation r.own.generation refl) refl)
  kind-of names (GiveBack r) =
      let old = names r.own r.owed r.swap.old r.holds r.taken (ap (λ (x : Sector). header_in x.bytes) (sym r.verified) ∙ r.swap.was) in
      let taken : is_owner_under (own_pair d.own) r.swap.old.owner ≡ true =
      ap (λ o. is_owner_under (own_pair o) r.swap.old.owner) r.holds ∙ ap (is_owner_under (Some (r.own.slot, r.own.generation))) old.1
      ∙ rw (eq-eqb old.0.slot r.own.slot old.2.same_slot, eq-eqb old.0.generation r.own.generation old.2.same_generation) refl in
      header-kind points.Free r.swap (rw (taken, r.none) refl)
