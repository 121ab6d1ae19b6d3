-- A generation that is held is past where it was broken, and there alone does a Swap of its slot miss: so every history is fenced.
use Rattle.std.proofs.Common.{◌≡◌, ◌≢◌, ℕ, suc, zero, ◌+◌, ◌<◌, ◌⊎◌, inl, inr, Bool, true, false, List, [], ◌∷◌, ◌++◌, take, refl, sym, ◌∙◌, ap, subst, arith, Option, Some}
use Rattle.std.proofs.lemmas.Option.{slice_get_within}
use Rattle.std.proofs.lemmas.Bool.{cases_eq}
use Rattle.std.specs.Prelude.{slice_get, slice_set, slice_index}
use Rattle.ds_base.specs.Device.{holds_image}
use Rattle.ds_base.proofs.DeviceLaws.{found_image}
use Rattle.ds_base.specs.declared.geometry.Geom.{Geom}
use Rattle.ds_base.specs.declared.sectors.Sector.{Sector}
use Rattle.ds_base.specs.declared.commands.Command.TheVariants.{Read, Write, Swap}
use Rattle.ds_base.specs.declared.commands.Response.{Response}
use Rattle.ds_base.specs.declared.commands.Response.TheVariants.{Miscompare}
use Rattle.ds_marks.specs.Slot.{state_code}
use Rattle.ds_marks.specs.declared.slot.Slot.{Slot}
use Rattle.ds_marks.specs.declared.slot.SlotState.TheVariants.{Live, Breaking}
use Rattle.ds_marks.specs.SlotIn.{slot_in}
use Rattle.ds_log.specs.Store.{after_step}
use Rattle.ds_log.specs.declared.logs.Step.{Step}
use Rattle.ds_log.specs.declared.logs.Step.TheVariants.{Local, Sent}
use Rattle.ds_conduct.specs.Digests.{Digest, Own, own_pair}
use Rattle.ds_conduct.specs.Guards.{MaySwap, Enter, Leave, Beat, Commit, Retire, Break, Clear, Lock, GiveBack, SwapsOwn, SwapsHeader}
use Rattle.ds_conduct.specs.Settings.{Setting}
use Rattle.ds_log.specs.Volumes.{Volume, setting_of}
use Rattle.ds_conduct.specs.Marks.{slot_spelled, phase_of, phase_at}
use Rattle.ds_conduct.proofs.Places.{header-beyond}
use Rattle.ds_log.specs.Turns.{Turn, started, digest}
use Rattle.ds_log.specs.Histories.{Obeys, IsSent, IsHistory}
use Rattle.ds_log.specs.Effects.{HoldsGeneration, OwnChange, SameOwn, NoOwn, FreshOwn}
use Rattle.ds_log.specs.Standing.{IsPast}
use Rattle.ds_log.specs.Fences.{TakesSlot, before, IsBrokenBy, PastIsBroken, MissedIsBroken, IsFenced}
use Rattle.ds_log_slots.proofs.Lists.{cond-cases, take-next}
use Rattle.ds_log_slots.proofs.Steps.{write-beyond, phase_at-is}
use Rattle.ds_log_slots.proofs.Growing.{digest-other, own-started}
use Rattle.ds_log_slots.proofs.Slots.{stands-phase, slots-hold}
use Rattle.ds_log_slots.proofs.Fenced.{own_pair-is, before-suc, obeys-at, after-own, none-falls_back, all-stand, no-swap, entered-once, broken-stale, seized-over, no-write, ok-at_own_swap, no-ok}
use Rattle.ds_image_parts.proofs.Journaling.LaidOver.{slice_get-set_other}

-- a slot's sector stays in a step, or a Swap of it takes effect
data AtSlot (g : Geom) (s : List Sector) (step : Step) (a : ℕ) : Type 0 where
  StillAt : slice_get (after_step s step) (2 + a) ≡ slice_get s (2 + a) → AtSlot g s step a
  TookAt : TakesSlot g s step a → AtSlot g s step a

module _ (setting : Setting) (d : Digest) (now : ℕ) (s : List Sector) (a : ℕ) (within : a < setting.geom.slots) where
  swap-at_slot : (under : Option (ℕ × ℕ)) (at : ℕ) (verify fresh : Sector) (r : Response) (took : Bool)
      → AtSlot setting.geom s (Sent under (Swap at verify fresh) r true took) a
  swap-at_slot under at verify fresh r took =
      elim (cond-cases (holds_image (slice_get s at) verify) (slice_set s at fresh) s) [
        | inr h ↦ StillAt (ap (λ x. slice_get x (2 + a)) h.1)
        | inl h ↦ elim (cases_eq at (2 + a)) [
          | inr other ↦ StillAt (ap (λ x. slice_get x (2 + a)) h.1 ∙ slice_get-set_other s at (2 + a) fresh other)
          | inl here ↦ TookAt (record {
            within = within;
            under = under;
            verify = verify;
            fresh = fresh;
            response = r;
            took = took;
            is = ap (λ (k : ℕ). Sent under (Swap k verify fresh) r true took) here;
            found = ap (slice_get s) (sym here) ∙ found_image (slice_get s at) verify h.0;
          })
        ]
      ]

  at-slot : (step : Step) → Obeys setting d now s step → AtSlot setting.geom s step a
  at-slot Local obeys = StillAt refl
  at-slot (Sent under (Read at) r true took) obeys = StillAt refl
  at-slot (Sent under (Read at) r false took) obeys = StillAt refl
  at-slot (Sent under (Write at fresh) r true took) obeys =
      let b = write-beyond setting d now at fresh obeys.sends.may in StillAt (slice_get-set_other s at (2 + a) fresh (λ k. omega arith))
  at-slot (Sent under (Write at fresh) r false took) obeys = StillAt refl
  at-slot (Sent under (Swap at verify fresh) r true took) obeys = swap-at_slot under at verify fresh r took
  at-slot (Sent under (Swap at verify fresh) r false took) obeys = StillAt refl

  -- a Swap that breaks
  record IsBreak (fresh : Sector) : Type 0 where
    new : Slot
    is : slot_in a fresh.bytes ≡ Some new
    by : ℕ
    by_generation : ℕ
    breaking : new.state ≡ Breaking by by_generation

  -- a Live image is turned by its holder, or broken
  module _ (verify fresh : Sector) (x : Slot) (was : slot_in a verify.bytes ≡ Some x) (live : x.state ≡ Live) where
    same-old : (slot : ℕ) (old : Slot) → 2 + a ≡ 2 + slot → slot_in slot verify.bytes ≡ Some old → (slot ≡ a) × (old ≡ x)
    same-old slot old place spelled =
        let same : slot ≡ a = omega arith in
        let w : slot_in a verify.bytes ≡ Some old = subst (λ k. slot_in k verify.bytes ≡ Some old) same spelled in
        (same, cc)

    by-holder : SwapsOwn setting d now (2 + a) verify fresh → HoldsGeneration d a x.generation
    by-holder w =
        let m = same-old w.own.slot w.old w.place w.was in
        record { own = w.own; holds = w.holds; same_slot = m.0; same_generation = sym w.was_own ∙ ap (λ (s : Slot). s.generation) m.1 }

    not-live : {A : Type 0} (slot : ℕ) (old : Slot) → 2 + a ≡ 2 + slot → slot_in slot verify.bytes ≡ Some old → state_code old.state ≢ 1 → A
    not-live slot old place spelled other =
        let m = same-old slot old place spelled in absurd (other (ap (λ (s : Slot). state_code s.state) m.1 ∙ ap state_code live))

    no-header : {A : Type 0} → SwapsHeader setting.geom (2 + a) verify fresh → A
    no-header w = let place = w.place in let b = header-beyond setting.geom w.object in absurd (omega arith)

    live-turned : MaySwap setting d now (2 + a) verify fresh → HoldsGeneration d a x.generation ⊎ IsBreak fresh
    live-turned (Enter r) = not-live r.swap.slot r.swap.old r.swap.place r.swap.was (let c = ap state_code r.was_free in λ e. omega arith)
    live-turned (Leave r) = inl (by-holder r.swap)
    live-turned (Beat r) = inl (by-holder r.renewal.swap)
    live-turned (Commit r) = inl (by-holder r.renewal.swap)
    live-turned (Retire r) = inl (by-holder r.renewal.swap)
    live-turned (Clear r) = not-live r.swap.slot r.swap.old r.swap.place r.swap.was (let c = ap state_code r.mine in λ e. omega arith)
    live-turned (Lock r) = no-header r.swap
    live-turned (GiveBack r) = no-header r.swap
    live-turned (Break r) =
        let m = same-old r.swap.slot r.swap.old r.swap.place r.swap.was in
        inr (record {
          new = r.swap.new;
          is = subst
              (λ k. slot_in k fresh.bytes ≡ Some r.swap.new) m.0 r.swap.is;
          by = r.own.slot;
          by_generation = r.own.generation;
          breaking = r.breaking;
        })

  -- a Swap of the own slot verifies the own image
  own-verified : (verify fresh : Sector) (own : Own) → d.own ≡ Some own → own.slot ≡ a → MaySwap setting d now (2 + a) verify fresh
      → verify ≡ own.image
  own-verified verify fresh own holds slot may = by_kind may
    where
      mine : SwapsOwn setting d now (2 + a) verify fresh → verify ≡ own.image
      mine w = let same : w.own ≡ own = (let p = w.holds in cc) in w.verified ∙ ap (λ (o : Own). o.image) same

      theirs : {A : Type 0} (o : Own) (k : ℕ) → d.own ≡ Some o → 2 + a ≡ 2 + k → o.slot ≢ k → A
      theirs o k holds' place other = let same : o ≡ own = cc in let s = ap (λ (o : Own). o.slot) same in absurd (other (omega arith))

      header : {A : Type 0} → SwapsHeader setting.geom (2 + a) verify fresh → A
      header w = let place = w.place in let b = header-beyond setting.geom w.object in absurd (omega arith)

      by_kind : MaySwap setting d now (2 + a) verify fresh → verify ≡ own.image
      by_kind (Enter r) = (let p = r.none in cc)
      by_kind (Leave r) = mine r.swap
      by_kind (Beat r) = mine r.renewal.swap
      by_kind (Commit r) = mine r.renewal.swap
      by_kind (Retire r) = mine r.renewal.swap
      by_kind (Break r) = theirs r.own r.swap.slot r.holds r.swap.place r.other
      by_kind (Clear r) = theirs r.own r.swap.slot r.holds r.swap.place r.other
      by_kind (Lock r) = header r.swap
      by_kind (GiveBack r) = header r.swap

module _ (volume : Volume) (start : List Sector) (turns : List Turn) (history : IsHistory volume start turns) where
  sooner : (n a generation : ℕ) → IsBrokenBy volume.geom start turns n a generation
      → IsBrokenBy volume.geom start turns (suc n) a generation
  sooner n a generation b = let e = b.earlier in
      record { m = b.m; turn = b.turn; earlier = omega arith; there = b.there; breaks = b.breaks }

  pub past-is_broken : PastIsBroken volume.geom start turns
  past-is_broken zero i a generation last held past = cc
  past-is_broken (suc n) i a generation last held past =
      let e : (t : Turn) × (slice_get turns n ≡ Some t) × (take (suc n) turns ≡ take n turns ++ t ∷ []) = take-next turns n (omega arith) in
      elim (cases_eq e.0.event.host i) [
        | inl is ↦ mover e.0 e.1 (sym is) (λ pair far. past-is_broken n i a generation (omega arith) pair far)
        | inr other ↦ bystander e.0 e.1 e.2 other (λ pair far. past-is_broken n i a generation (omega arith) pair far)
      ]
    where
      -- the same phase before
      same-phase : slice_get (before volume.geom start turns (suc n)) (2 + a) ≡ slice_get (before volume.geom start turns n) (2 + a)
          → IsPast (before volume.geom start turns n) a generation
      same-phase same = let p = ap (λ o. phase_of (slot_spelled a o)) same in omega arith

      mover : (t : Turn) → slice_get turns n ≡ Some t → i ≡ t.event.host
          → (own_pair (digest volume.geom i (take n turns)).own ≡ Some (a, generation)
          → IsPast (before volume.geom start turns n) a generation → IsBrokenBy volume.geom start turns n a generation)
          → IsBrokenBy volume.geom start turns (suc n) a generation
      mover t at is ih =
          let d' : Digest = digest volume.geom t.event.host (take (n + 1) turns) in
          let one : suc n ≡ n + 1 = omega arith in
          let held' : own_pair d'.own ≡ Some (a, generation) = ap (λ k. own_pair (digest volume.geom k (take (n + 1) turns)).own)
          (sym is) ∙ ap (λ k. own_pair (digest volume.geom i (take k turns)).own) (sym one) ∙ held in
          by_change (own_pair-is d' d'.own a generation refl held') (after-own volume start turns history n t at)
        where
          by_change : HoldsGeneration (digest volume.geom t.event.host (take (n + 1) turns)) a generation
              → OwnChange volume.geom t.event.at (before volume.geom start turns n)
              (after_step (before volume.geom start turns n) t.event.step)
              (started (digest volume.geom t.event.host (take n turns)) t.part) (digest volume.geom t.event.host (take (n + 1) turns))
              → IsBrokenBy volume.geom start turns (suc n) a generation
          by_change h (SameOwn same untouched) =
              let d0 : Digest = digest volume.geom t.event.host (take n turns) in
              let holds : (started d0 t.part).own ≡ Some h.own = sym same ∙ h.holds in
              let holds0 : d0.own ≡ Some h.own = sym (own-started d0 t.part) ∙ holds in
              let st = ((slots-hold volume start turns history n (omega arith)).each t.event.host).own h.own holds0 in
              let still : slice_get (before volume.geom start turns (suc n)) (2 + a) ≡ slice_get (before volume.geom start turns n)
              (2 + a) =
              ap (λ x. slice_get x (2 + a)) (before-suc volume start turns history n t at)
              ∙ subst (λ k. slice_get (after_step (before volume.geom start turns n) t.event.step) (2 + k) ≡ slice_get
              (before volume.geom start turns n) (2 + k)) h.same_slot (untouched h.own holds st.within) in
              let pair : own_pair (digest volume.geom i (take n turns)).own ≡ Some (a, generation) =
              ap (λ k. own_pair (digest volume.geom k (take n turns)).own) is ∙ ap own_pair holds0
              ∙ ap (λ k. Some (k, h.own.generation)) h.same_slot ∙ ap (λ k. Some (a, k)) h.same_generation in
              sooner n a generation (ih pair (same-phase still))
          by_change h (NoOwn none) = (let q = h.holds in cc)
          by_change h (FreshOwn o is_o fresh) =
              let same : o ≡ h.own = (let q = h.holds in cc) in
              let slots : o.slot ≡ a = ap (λ (x : Own). x.slot) same ∙ h.same_slot in
              let generations : o.generation ≡ generation = ap (λ (x : Own). x.generation) same ∙ h.same_generation in
              let p = phase_at-is (after_step
              (before volume.geom start turns n) t.event.step) o.slot o.image fresh.slot fresh.there fresh.spelled in
              let q = ap (λ x. phase_at x o.slot) (before-suc volume start turns history n t at) in
              let k = ap (phase_at (before volume.geom start turns (suc n))) slots in
              let c = ap state_code fresh.live in
              let n1 = fresh.generation in
              absurd (omega arith)

      bystander : (t : Turn) → slice_get turns n ≡ Some t → take (suc n) turns ≡ take n turns ++ t ∷ [] → t.event.host ≢ i
          → (own_pair (digest volume.geom i (take n turns)).own ≡ Some (a, generation)
          → IsPast (before volume.geom start turns n) a generation → IsBrokenBy volume.geom start turns n a generation)
          → IsBrokenBy volume.geom start turns (suc n) a generation
      bystander t at push other ih =
          let s : List Sector = before volume.geom start turns n in
          let d : Digest = started (digest volume.geom t.event.host (take n turns)) t.part in
          let k : Digest = digest volume.geom i (take n turns) in
          let pair : own_pair k.own ≡ Some (a, generation) = ap (λ (x : Digest). own_pair x.own)
          (sym (ap (digest volume.geom i) push ∙ digest-other volume.geom i (take n turns) t other)) ∙ held in
          let h = own_pair-is k k.own a generation refl pair in
          let hold = slots-hold volume start turns history n (omega arith) in
          let st = (hold.each i).own h.own h.holds in
          let slots : h.own.slot ≡ a = h.same_slot in
          let within : a < volume.geom.slots = (let w = st.within in omega arith) in
          elim st.there [
            | inr was ↦ sooner n a generation (ih pair (let w = ap (phase_at s) slots in let v = h.same_generation in omega arith))
            | inl here ↦ elim (at-slot (setting_of volume t.event.host) d t.event.at s a within t.event.step
                (obeys-at volume start turns history n t at)) [
                  | StillAt same ↦
                      let w = stands-phase volume.geom s h.own st here in
                      let v = ap (phase_at s) slots in
                      let u = h.same_generation in
                      let p = ap (λ x. phase_at x a) (before-suc volume start turns history n t at) in
                      let q = ap (λ o. phase_of (slot_spelled a o)) same in
                      absurd (omega arith)
                  | TookAt x ↦
                      let sent : IsSent (setting_of volume t.event.host) d t.event.at s x.under
                      (Swap (2 + a) x.verify x.fresh) x.response true x.took =
                      subst (Obeys (setting_of volume t.event.host) d t.event.at s) x.is (obeys-at volume start turns history n t at) in
                      let there : slice_get s (2 + a) ≡ Some h.own.image = subst (λ k. slice_get s (2 + k) ≡ Some h.own.image) slots here in
                      let same : h.own.image ≡ x.verify = (let f = x.found in cc) in
                      let was : slot_in a x.verify.bytes ≡ Some st.slot =
                      ap (λ (z : Sector). slot_in a z.bytes) (sym same)
                      ∙ subst (λ k. slot_in k h.own.image.bytes ≡ Some st.slot) slots st.spelled in
                      let generations : st.slot.generation ≡ generation = st.generation ∙ h.same_generation in
                      let apart : (o : Own) → d.own ≡ Some o → o.slot ≡ a → o.generation ≡ generation → ⊥ =
                      λ o is_o slot_o generation_o. hold.apart t.event.host i other o h.own
                      (sym (own-started (digest volume.geom t.event.host (take n turns)) t.part) ∙ is_o) h.holds (slot_o ∙ sym slots)
                      (generation_o ∙ sym h.same_generation) in
                      elim (live-turned (setting_of volume t.event.host) d t.event.at s a within
                      x.verify x.fresh st.slot was st.live sent.sends.may) [
                        | inl m ↦ absurd (apart m.own m.holds m.same_slot (m.same_generation ∙ generations))
                        | inr b ↦ record {
                          m = n;
                          turn = t;
                          earlier = omega arith;
                          there = at;
                          breaks = record {
                            turns = record { swap = x; old = st.slot; new = b.new; was = was; is = b.is };
                            other = λ under. let m = own_pair-is d d.own a generation refl (sym sent.held ∙ under) in
                                apart m.own m.holds m.same_slot m.same_generation;
                            live = st.live;
                            same_generation = generations;
                            by = b.by;
                            by_generation = b.by_generation;
                            breaking = b.breaking;
                          };
                        }
                      ]
                ]
          ]

  pub missed-is_broken : MissedIsBroken volume.geom start turns
  missed-is_broken n a generation t under verify fresh offset landed took at step held =
      let last = slice_get_within turns n t at in
      let s : List Sector = before volume.geom start turns n in
      let d0 : Digest = digest volume.geom t.event.host (take n turns) in
      let d : Digest = started d0 t.part in
      let sent : IsSent (setting_of volume t.event.host) d t.event.at s under (Swap (2 + a) verify fresh)
      (Miscompare offset) landed took = subst (Obeys (setting_of volume t.event.host) d t.event.at s) step
      (obeys-at volume start turns history n t at) in
      let h = own_pair-is d d.own a generation refl (sym sent.held ∙ held) in
      let holds0 : d0.own ≡ Some h.own = sym (own-started d0 t.part) ∙ h.holds in
      let pair : own_pair d0.own ≡ Some (a, generation) = ap own_pair holds0 ∙ ap (λ k. Some (k, h.own.generation)) h.same_slot
      ∙ ap (λ k. Some (a, k)) h.same_generation in
      let st = ((slots-hold volume start turns history n (omega arith)).each t.event.host).own h.own holds0 in
      let slots : h.own.slot ≡ a = h.same_slot in
      let within : a < volume.geom.slots = (let w = st.within in omega arith) in
      let image = own-verified (setting_of volume t.event.host) d t.event.at s a within verify fresh h.own h.holds slots sent.sends.may in
      elim st.there [
        | inr was ↦ past-is_broken n t.event.host a generation (omega arith) pair
            (let w = ap (phase_at s) slots in let v = h.same_generation in omega arith)
        | inl here ↦ elim sent.responds [
          | inr fault ↦ cc
          | inl ok ↦
              let found : slice_get s (2 + a) ≡ Some verify = subst (λ k. slice_get s (2 + k) ≡ Some h.own.image) slots here
              ∙ ap Some (sym image) in
              let s' : Sector = ok.1.0 in
              let there : slice_get s (2 + a) ≡ Some s' = ok.1.1 in
              let same : s' ≡ verify = cc in
              absurd (ok.1.2.differs (ap (λ (z : Sector). slice_index z.bytes offset) same))
        ]
      ]

  -- every history is fenced
  pub fenced : IsFenced volume.geom start turns
  fenced = record {
    none_falls_back = none-falls_back volume start turns history;
    all_stand = all-stand volume start turns history;
    no_swap = no-swap volume start turns history;
    entered_once = entered-once volume start turns history;
    broken_stale = broken-stale volume start turns history;
    seized_over = seized-over volume start turns history;
    no_write = no-write volume start turns history;
    ok_at_own_swap = ok-at_own_swap volume start turns history;
    no_ok = no-ok volume start turns history;
    past_is_broken = past-is_broken;
    missed_is_broken = missed-is_broken;
  }
