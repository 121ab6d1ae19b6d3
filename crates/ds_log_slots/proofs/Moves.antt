-- What each kind of Swap does to a slot: its phase never falls, and each Live image is a new one.
use Rattle.std.proofs.Common.{◌≡◌, ℕ, ◌+◌, ◌<◌, ◌≤◌, inl, inr, List, sym, ◌∙◌, ap, subst, arith, Some}
use Rattle.ds_base.specs.declared.sectors.Sector.{Sector}
use Rattle.ds_marks.specs.Slot.{state_code}
use Rattle.ds_marks.specs.declared.slot.Slot.{Slot}
use Rattle.ds_marks.specs.declared.slot.SlotState.{SlotState}
use Rattle.ds_marks.specs.declared.slot.SlotState.TheVariants.{Free, Live, Breaking}
use Rattle.ds_marks.specs.SlotIn.{slot_in}
use Rattle.ds_conduct.specs.Digests.{Digest, Own}
use Rattle.ds_conduct.specs.Guards.{MaySwap, Enter, Leave, Beat, Commit, Retire, Break, Clear, Lock, GiveBack, Enters, Leaves, Renews, Breaks, Clears, SwapsHeader, MayBreak, Stale}
use Rattle.ds_conduct.specs.Judging.{IsJudged}
use Rattle.ds_conduct.specs.Settings.{Setting}
use Rattle.ds_conduct.specs.Marks.{phase, rank}
use Rattle.ds_marks.proofs.SlotIn.{slot_in-stamp}
use Rattle.ds_conduct.proofs.Places.{header-beyond}
use Rattle.ds_log.specs.Effects.{SlotMove}

-- a Swap of a slot, with the slots that its images spell
pub record IsMove (d : Digest) (a : ℕ) (verify fresh : Sector) : Type 0 where
  pub old : Slot
  pub new : Slot
  pub was : slot_in a verify.bytes ≡ Some old
  pub is : slot_in a fresh.bytes ≡ Some new
  pub move : SlotMove d a verify old new

-- where the phase rises, the rank does
by-phase : (x y : Slot) → x.stamp < 18446744073709551616 → phase x < phase y → rank x < rank y
by-phase x y fits h = omega arith

code-most : (t : SlotState) → state_code t ≤ 2
code-most Free = omega arith
code-most Live = omega arith
code-most (Breaking by by_generation) = omega arith

module _ (setting : Setting) (d : Digest) (now : ℕ) where
  renew-move : (a : ℕ) (verify fresh : Sector) → a < setting.geom.slots → Renews setting d now (2 + a) verify fresh
      → IsMove d a verify fresh
  renew-move a verify fresh within r =
      let w = r.swap in
      let place : 2 + a ≡ 2 + w.own.slot = w.place in
      let same : w.own.slot ≡ a = omega arith in
      let x = ap state_code w.was_live in
      let y = ap state_code r.live in
      let gens = r.same_generation in
      let own_gen = w.was_own in
      let stamp = r.stamp in
      record {
        old = w.old;
        new = w.new;
        was = subst (λ k. slot_in k verify.bytes ≡ Some w.old) same w.was;
        is = subst (λ k. slot_in k fresh.bytes ≡ Some w.new) same w.is;
        move = record {
          rises = omega arith;
          rank_rises = omega arith;
          newer = λ live. omega arith;
          holder = λ live. inl (record { own = w.own; holds = w.holds; same_slot = same; same_generation = sym w.was_own });
          own_live = λ own holds slot. let e : w.own ≡ own = cc in let f = ap (λ (o : Own). o.generation) e in omega arith;
          enters = λ free. let c = ap state_code free in absurd (omega arith);
        };
      }

  leave-move : (a : ℕ) (verify fresh : Sector) → a < setting.geom.slots → Leaves setting d now (2 + a) verify fresh
      → IsMove d a verify fresh
  leave-move a verify fresh within r =
      let w = r.swap in
      let place : 2 + a ≡ 2 + w.own.slot = w.place in
      let same : w.own.slot ≡ a = omega arith in
      let x = ap state_code w.was_live in
      let y = ap state_code r.free in
      let gens = r.generation in
      let own_gen = w.was_own in
      let fits = slot_in-stamp w.own.slot verify.bytes w.old w.was in
      let up : phase w.old < phase w.new = omega arith in
      let high = by-phase w.old w.new fits up in
      record {
        old = w.old;
        new = w.new;
        was = subst (λ k. slot_in k verify.bytes ≡ Some w.old) same w.was;
        is = subst (λ k. slot_in k fresh.bytes ≡ Some w.new) same w.is;
        move = record {
          rises = omega arith;
          rank_rises = omega arith;
          newer = λ live. high;
          holder = λ live. inl (record { own = w.own; holds = w.holds; same_slot = same; same_generation = sym w.was_own });
          own_live = λ own holds slot. let e : w.own ≡ own = cc in let f = ap (λ (o : Own). o.generation) e in omega arith;
          enters = λ free. let c = ap state_code free in absurd (omega arith);
        };
      }

  enter-move : (a : ℕ) (verify fresh : Sector) → a < setting.geom.slots → Enters setting d now (2 + a) verify fresh
      → IsMove d a verify fresh
  enter-move a verify fresh within r =
      let w = r.swap in
      let place : 2 + a ≡ 2 + w.slot = w.place in
      let same : w.slot ≡ a = omega arith in
      let x = ap state_code r.was_free in
      let y = ap state_code r.live in
      let gens = r.same_generation in
      let fits = slot_in-stamp w.slot verify.bytes w.old w.was in
      let up : phase w.old < phase w.new = omega arith in
      let high = by-phase w.old w.new fits up in
      record {
        old = w.old;
        new = w.new;
        was = subst (λ k. slot_in k verify.bytes ≡ Some w.old) same w.was;
        is = subst (λ k. slot_in k fresh.bytes ≡ Some w.new) same w.is;
        move = record {
          rises = omega arith;
          rank_rises = omega arith;
          newer = λ live. high;
          holder = λ live. let c = ap state_code live in absurd (omega arith);
          own_live = λ own holds slot. let none = r.none in cc;
          enters = λ free live. gens;
        };
      }

  stale-of : (newer : List (ℕ × Sector)) (slot : ℕ) (verify : Sector) (state : SlotState)
      → MayBreak setting d now newer slot verify state → state ≡ Live → IsJudged d.notes slot verify
  stale-of newer slot verify Free may live = elim may [ ]
  stale-of newer slot verify Live (Stale stale) live = stale
  stale-of newer slot verify (Breaking by by_generation) may live = cc

  break-code : (newer : List (ℕ × Sector)) (slot : ℕ) (verify : Sector) (state : SlotState)
      → MayBreak setting d now newer slot verify state → 1 ≤ state_code state
  break-code newer slot verify Free may = elim may [ ]
  break-code newer slot verify Live may = omega arith
  break-code newer slot verify (Breaking by by_generation) may = omega arith

  break-move : (a : ℕ) (verify fresh : Sector) → a < setting.geom.slots → Breaks setting d now (2 + a) verify fresh
      → IsMove d a verify fresh
  break-move a verify fresh within r =
      let w = r.swap in
      let place : 2 + a ≡ 2 + w.slot = w.place in
      let same : w.slot ≡ a = omega arith in
      let y = ap state_code r.breaking in
      let low = code-most w.old.state in
      let from = break-code w.last.newer w.slot verify w.old.state r.may in
      let gens = r.same_generation in
      let stamp = r.same_stamp in
      record {
        old = w.old;
        new = w.new;
        was = subst (λ k. slot_in k verify.bytes ≡ Some w.old) same w.was;
        is = subst (λ k. slot_in k fresh.bytes ≡ Some w.new) same w.is;
        move = record {
          rises = omega arith;
          rank_rises = omega arith;
          newer = λ live. let c = ap state_code live in absurd (omega arith);
          holder = λ live. inr (
            subst (λ k. IsJudged d.notes k verify) same (stale-of w.last.newer w.slot verify w.old.state r.may live),
            omega arith,
          );
          own_live = λ own holds slot. absurd (r.other (let e : r.own ≡ own = cc in ap (λ (o : Own). o.slot) e ∙ slot ∙ sym same));
          enters = λ free. let c = ap state_code free in absurd (omega arith);
        };
      }

  clear-move : (a : ℕ) (verify fresh : Sector) → a < setting.geom.slots → Clears setting d now (2 + a) verify fresh
      → IsMove d a verify fresh
  clear-move a verify fresh within r =
      let w = r.swap in
      let place : 2 + a ≡ 2 + w.slot = w.place in
      let same : w.slot ≡ a = omega arith in
      let x = ap state_code r.mine in
      let y = ap state_code r.free in
      let gens = r.generation in
      let fits = slot_in-stamp w.slot verify.bytes w.old w.was in
      let up : phase w.old < phase w.new = omega arith in
      let high = by-phase w.old w.new fits up in
      record {
        old = w.old;
        new = w.new;
        was = subst (λ k. slot_in k verify.bytes ≡ Some w.old) same w.was;
        is = subst (λ k. slot_in k fresh.bytes ≡ Some w.new) same w.is;
        move = record {
          rises = omega arith;
          rank_rises = omega arith;
          newer = λ live. high;
          holder = λ live. let c = ap state_code live in absurd (omega arith);
          own_live = λ own holds slot. absurd (r.other (let e : r.own ≡ own = cc in ap (λ (o : Own). o.slot) e ∙ slot ∙ sym same));
          enters = λ free. let c = ap state_code free in absurd (omega arith);
        };
      }

  header-none : {A : Type 0} (a : ℕ) (verify fresh : Sector) → a < setting.geom.slots → SwapsHeader setting.geom (2 + a) verify fresh → A
  header-none a verify fresh within w = let place = w.place in let beyond = header-beyond setting.geom w.object in absurd (omega arith)

  pub move-of : (a : ℕ) (verify fresh : Sector) → a < setting.geom.slots → MaySwap setting d now (2 + a) verify fresh
      → IsMove d a verify fresh
  move-of a verify fresh within (Enter r) = enter-move a verify fresh within r
  move-of a verify fresh within (Leave r) = leave-move a verify fresh within r
  move-of a verify fresh within (Beat r) = renew-move a verify fresh within r.renewal
  move-of a verify fresh within (Commit r) = renew-move a verify fresh within r.renewal
  move-of a verify fresh within (Retire r) = renew-move a verify fresh within r.renewal
  move-of a verify fresh within (Break r) = break-move a verify fresh within r
  move-of a verify fresh within (Clear r) = clear-move a verify fresh within r
  move-of a verify fresh within (Lock r) = header-none a verify fresh within r.swap
  move-of a verify fresh within (GiveBack r) = header-none a verify fresh within r.swap
