-- Once a generation was broken, nothing is done under it any more.
use Rattle.std.proofs.Common.{◌≡◌, ◌≢◌, ℕ, suc, zero, ◌+◌, ◌-◌, ◌<◌, ◌≤◌, inl, inr, true, List, [], ◌∷◌, ◌++◌, length, take, refl, sym, ◌∙◌, ap, subst, arith, Option, Some, None}
use Rattle.std.proofs.lemmas.Option.{slice_get_within}
use Rattle.std.proofs.lemmas.List.Elements.{Contains-append_left}
use Rattle.std.specs.Prelude.{slice_get, slice_set}
use Rattle.std.specs.List.{Contains}
use Rattle.ds_base.specs.declared.sectors.Sector.{Sector}
use Rattle.ds_base.specs.declared.commands.Command.TheVariants.{Write, Swap}
use Rattle.ds_marks.specs.Slot.{state_code}
use Rattle.ds_marks.specs.declared.slot.Slot.{Slot}
use Rattle.ds_marks.specs.declared.slot.SlotState.{SlotState}
use Rattle.ds_marks.specs.declared.slot.SlotState.TheVariants.{Free, Live, Breaking}
use Rattle.ds_marks.specs.SlotIn.{slot_in}
use Rattle.ds_log.specs.Store.{after_step}
use Rattle.ds_conduct.specs.Digests.{Digest, Own, own_pair}
use Rattle.ds_base.specs.Exchanges.{seen_of}
use Rattle.ds_conduct.specs.Guards.{MaySwap, Enter, Leave, Beat, Commit, Retire, Break, Clear, Lock, GiveBack, MayBreak, Seized, SawOver, MayWrite, Journalling, Indexing, Placing, Replaying, Filling, HasLease, Renews}
use Rattle.ds_conduct.specs.Settings.{Setting}
use Rattle.ds_log.specs.Volumes.{Volume, setting_of}
use Rattle.ds_conduct.specs.Marks.{phase, phase_of, phase_at}
use Rattle.ds_conduct.proofs.Places.{header-beyond}
use Rattle.ds_log.specs.Turns.{Turn, sectors_after, last_tick, started, digest}
use Rattle.ds_log.specs.Histories.{Obeys, IsSent, IsHistory}
use Rattle.ds_log.specs.Effects.{HoldsGeneration, OwnChange, SameOwn, NoOwn, FreshOwn}
use Rattle.ds_log.specs.Standing.{IsPast}
use Rattle.ds_log.specs.Fences.{TakesSlot, before, IsBrokenBy, NoneFallsBack, AllStand, NoSwapOnceBroken, EnteredOnce, BrokenStale, SeizedOver, NoWriteOnceBroken, IsOk, OkAtOwnSwap, NoOkOnceBroken}
use Rattle.ds_log_slots.proofs.OkAnswers.{ok-step}
use Rattle.ds_log_slots.proofs.Changes.{own-change}
use Rattle.ds_log_slots.proofs.Lists.{slice_get-set_found, take-next}
use Rattle.ds_log_slots.proofs.Moves.{IsMove, move-of}
use Rattle.ds_log_slots.proofs.Steps.{sector-effect, slot-effect, phase-kept, phase_at-is, stored-found}
use Rattle.ds_log_slots.proofs.Growing.{sectors_after-push, own-started, notes-started, digest-mover}
use Rattle.ds_log_slots.proofs.Slots.{slots-hold, Stands-started}
use Rattle.ds_log_slots.proofs.Leases.{leases-hold}
use Rattle.ds_conduct.specs.Judging.{IsJudged}

pub own_pair-is : (d : Digest) (own : Option Own) (a generation : ℕ) → d.own ≡ own → own_pair own ≡ Some (a, generation)
    → HoldsGeneration d a generation
own_pair-is d None a generation holds e = cc
own_pair-is d (Some o) a generation holds e =
    let pair : (o.slot, o.generation) ≡ (a, generation) = cc in
    record { own = o; holds = holds; same_slot = ap (λ (p : ℕ × ℕ). p.0) pair; same_generation = ap (λ (p : ℕ × ℕ). p.1) pair }

module _ (setting : Setting) (d : Digest) (now : ℕ) where
  lease-of : (at : ℕ) (fresh : Sector) → MayWrite setting d now at fresh → HasLease setting d now at
  lease-of at fresh (Journalling w) = w.lease
  lease-of at fresh (Indexing w) = w.lease
  lease-of at fresh (Placing w) = w.lease
  lease-of at fresh (Replaying w) = w.lease
  lease-of at fresh (Filling w) = w.lease

  over-of : (newer : List (ℕ × Sector)) (slot : ℕ) (verify : Sector) (state : SlotState) (by by_generation : ℕ)
      → MayBreak setting d now newer slot verify state → state ≡ Breaking by by_generation
      → SawOver setting.geom newer by by_generation
  over-of newer slot verify Free by by_generation may is = elim may [ ]
  over-of newer slot verify Live by by_generation may is = cc
  over-of newer slot verify (Breaking b h) by by_generation (Seized b' h' saw) is =
      let codes : (b, h) ≡ (by, by_generation) = (let e : Breaking b h ≡ Breaking by by_generation = is in cc) in
      subst (λ (p : ℕ × ℕ). SawOver setting.geom newer p.0 p.1) codes saw

  -- what a seizure has seen of the breaker before
  pub record HasSeenOver (by by_generation : ℕ) : Type 0 where
    pub newer : List (ℕ × Sector)
    pub among : (p : ℕ × Sector) → Contains newer p → Contains (seen_of d.exchanges) p
    pub saw : SawOver setting.geom newer by by_generation

  module _ (a : ℕ) (verify fresh : Sector) (x y : Slot) (by by_generation next next_generation : ℕ)
      (was : slot_in a verify.bytes ≡ Some x) (is : slot_in a fresh.bytes ≡ Some y)
      (was_breaking : x.state ≡ Breaking by by_generation) (breaking : y.state ≡ Breaking next next_generation) where
    -- the image that is verified is Breaking, and so is the fresh one
    not-from : {A : Type 0} (slot : ℕ) (old : Slot) → 2 + a ≡ 2 + slot → slot_in slot verify.bytes ≡ Some old → state_code old.state ≢ 2 → A
    not-from slot old place spelled other =
        let same : slot ≡ a = omega arith in
        let w : slot_in a verify.bytes ≡ Some old = subst (λ k. slot_in k verify.bytes ≡ Some old) same spelled in
        let slots : old ≡ x = cc in
        absurd (other (ap (λ (s : Slot). state_code s.state) slots ∙ ap state_code was_breaking))

    not-to : {A : Type 0} (slot : ℕ) (new : Slot) → 2 + a ≡ 2 + slot → slot_in slot fresh.bytes ≡ Some new → state_code new.state ≢ 2 → A
    not-to slot new place spelled other =
        let same : slot ≡ a = omega arith in
        let w : slot_in a fresh.bytes ≡ Some new = subst (λ k. slot_in k fresh.bytes ≡ Some new) same spelled in
        let slots : new ≡ y = cc in
        absurd (other (ap (λ (s : Slot). state_code s.state) slots ∙ ap state_code breaking))

    renew-none : {A : Type 0} → Renews setting d now (2 + a) verify fresh → A
    renew-none r = not-from r.swap.own.slot r.swap.old r.swap.place r.swap.was (let c = ap state_code r.swap.was_live in λ e. omega arith)

    pub seizes-over : a < setting.geom.slots → MaySwap setting d now (2 + a) verify fresh → HasSeenOver by by_generation
    seizes-over within (Enter r) = not-from r.swap.slot r.swap.old r.swap.place r.swap.was
        (let c = ap state_code r.was_free in λ e. omega arith)
    seizes-over within (Leave r) = not-from r.swap.own.slot r.swap.old r.swap.place r.swap.was
        (let c = ap state_code r.swap.was_live in λ e. omega arith)
    seizes-over within (Beat r) = renew-none r.renewal
    seizes-over within (Commit r) = renew-none r.renewal
    seizes-over within (Retire r) = renew-none r.renewal
    seizes-over within (Clear r) = not-to r.swap.slot r.swap.new r.swap.place r.swap.is (let c = ap state_code r.free in λ e. omega arith)
    seizes-over within (Lock r) = let place = r.swap.place in let b = header-beyond setting.geom r.swap.object in absurd (omega arith)
    seizes-over within (GiveBack r) = let place = r.swap.place in let b = header-beyond setting.geom r.swap.object in absurd (omega arith)
    seizes-over within (Break r) =
        let place : 2 + a ≡ 2 + r.swap.slot = r.swap.place in
        let same : r.swap.slot ≡ a = omega arith in
        let w : slot_in a verify.bytes ≡ Some r.swap.old = subst (λ k. slot_in k verify.bytes ≡ Some r.swap.old) same r.swap.was in
        let slots : r.swap.old ≡ x = cc in
        record {
          newer = r.swap.last.newer;
          among = λ p has. subst (λ l. Contains l p) (sym r.swap.last.parts)
              (Contains-append_left r.swap.last.newer ((2 + a, verify) ∷ r.swap.last.older) p has);
          saw = over-of r.swap.last.newer r.swap.slot verify r.swap.old.state by by_generation r.may
              (ap (λ (s : Slot). s.state) slots ∙ was_breaking);
        }

module _ (volume : Volume) (start : List Sector) (turns : List Turn) (history : IsHistory volume start turns) where
  pub obeys-at : (n : ℕ) (t : Turn) → slice_get turns n ≡ Some t
      → Obeys (setting_of volume t.event.host) (started (digest volume.geom t.event.host (take n turns)) t.part) t.event.at
      (before volume.geom start turns n) t.event.step
  obeys-at n t at = (history.each n t at).obeys

  pub before-suc : (n : ℕ) (t : Turn) → slice_get turns n ≡ Some t
      → before volume.geom start turns (suc n) ≡ after_step (before volume.geom start turns n) t.event.step
  before-suc n t at =
      let p : (t : Turn) × (slice_get turns n ≡ Some t) × (take (suc n) turns ≡ take n turns ++ t ∷ []) = take-next turns n
      (slice_get_within turns n t at) in
      let same : p.0 ≡ t = cc in
      ap (sectors_after start) p.2 ∙ sectors_after-push start (take n turns) p.0
      ∙ ap (λ (x : Turn). after_step (sectors_after start (take n turns)) x.event.step) same

  phase-step : (n a : ℕ) → a < volume.geom.slots → n < length turns
      → phase_at (before volume.geom start turns n) a ≤ phase_at (before volume.geom start turns (suc n)) a
  phase-step n a within h =
      let p : (t : Turn) × (slice_get turns n ≡ Some t) × (take (suc n) turns ≡ take n turns ++ t ∷ []) = take-next turns n h in
      let t : Turn = p.0 in
      let d : Digest = started (digest volume.geom t.event.host (take n turns)) t.part in
      let s : List Sector = before volume.geom start turns n in
      let same = ap (λ s. phase_at s a) (before-suc n t p.1) in
      let up = phase-kept d s (after_step s t.event.step) a
      (slot-effect (setting_of volume t.event.host) d t.event.at s (after_step s t.event.step) a within
      (sector-effect (setting_of volume t.event.host) d t.event.at s t.event.step (obeys-at n t p.1) (2 + a))) in
      omega arith

  phase-rises : (m k a : ℕ) → a < volume.geom.slots → m + k ≤ length turns
      → phase_at (before volume.geom start turns m) a ≤ phase_at (before volume.geom start turns (m + k)) a
  phase-rises m zero a within h = let e : m + 0 ≡ m = omega arith in
      let same = ap (λ n. phase_at (before volume.geom start turns n) a) e in omega arith
  phase-rises m (suc k) a within h =
      let e : m + suc k ≡ suc (m + k) = omega arith in
      let same = ap (λ n. phase_at (before volume.geom start turns n) a) e in
      let more = phase-rises m k a within (omega arith) in
      let step = phase-step (m + k) a within (omega arith) in
      omega arith

  pub none-falls_back : NoneFallsBack volume.geom start turns
  none-falls_back m n a within le last =
      let e : m + (n - m) ≡ n = omega arith in
      let same = ap (λ n. phase_at (before volume.geom start turns n) a) e in
      let up = phase-rises m (n - m) a within (omega arith) in
      omega arith

  -- what a Swap of a slot that takes effect is
  record IsSwap (n a : ℕ) (t : Turn) (x : TakesSlot volume.geom (before volume.geom start turns n) t.event.step a) : Type 0 where
    may : MaySwap (setting_of volume t.event.host) (started (digest volume.geom t.event.host (take n turns)) t.part) t.event.at
        (2 + a) x.verify x.fresh
    held : x.under ≡ own_pair (started (digest volume.geom t.event.host (take n turns)) t.part).own
    move : IsMove (started (digest volume.geom t.event.host (take n turns)) t.part) a x.verify x.fresh

  swap-at : (n a : ℕ) (t : Turn) → slice_get turns n ≡ Some t
      → (x : TakesSlot volume.geom (before volume.geom start turns n) t.event.step a) → IsSwap n a t x
  swap-at n a t at x =
      let d : Digest = started (digest volume.geom t.event.host (take n turns)) t.part in
      let sent : IsSent (setting_of volume t.event.host) d t.event.at (before volume.geom start turns n) x.under
      (Swap (2 + a) x.verify x.fresh) x.response true x.took =
      subst (Obeys (setting_of volume t.event.host) d t.event.at (before volume.geom start turns n)) x.is (obeys-at n t at) in
      record {
        may = sent.sends.may;
        held = sent.held;
        move = move-of
            (setting_of volume t.event.host) d t.event.at a x.verify x.fresh x.within sent.sends.may;
      }

  -- the slot right after it
  swap-after : (n a : ℕ) (t : Turn) → slice_get turns n ≡ Some t
      → (x : TakesSlot volume.geom (before volume.geom start turns n) t.event.step a) (y : Slot) → slot_in a x.fresh.bytes ≡ Some y
      → phase_at (before volume.geom start turns (suc n)) a ≡ phase y
  swap-after n a t at x y spelled =
      let s : List Sector = before volume.geom start turns n in
      let new : List Sector = slice_set s (2 + a) x.fresh in
      let same : before volume.geom start turns (suc n) ≡ new = before-suc n t at ∙ ap (after_step s) x.is
      ∙ stored-found s (2 + a) x.verify x.fresh x.found in
      ap (λ s. phase_at s a) same ∙ phase_at-is new a x.fresh y (slice_get-set_found s (2 + a) x.verify x.fresh x.found) spelled

  -- later, the slot has come as far as it wrote, or further
  later : (m n a : ℕ) (t : Turn) → m < n → n ≤ length turns → slice_get turns m ≡ Some t
      → (x : TakesSlot volume.geom (before volume.geom start turns m) t.event.step a) (y : Slot) → slot_in a x.fresh.bytes ≡ Some y
      → phase y ≤ phase_at (before volume.geom start turns n) a
  later m n a t less last at x y spelled =
      let now = swap-after m a t at x y spelled in
      let up = none-falls_back (suc m) n a x.within (omega arith) last in
      omega arith

  -- a generation that was broken is past
  pub past : (n a generation : ℕ) → n ≤ length turns → (b : IsBrokenBy volume.geom start turns n a generation)
      → (a < volume.geom.slots) × IsPast (before volume.geom start turns n) a generation
  past n a generation last b =
      let k = b.breaks in
      let far = later b.m n a b.turn b.earlier last b.there k.turns.swap k.turns.new k.turns.is in
      let s = swap-at b.m a b.turn b.there k.turns.swap in
      let x : s.move.old ≡ k.turns.old = (let p = s.move.was in let q = k.turns.was in cc) in
      let y : s.move.new ≡ k.turns.new = (let p = s.move.is in let q = k.turns.is in cc) in
      let rose = s.move.move.rises in
      let px = ap phase x in
      let py = ap phase y in
      let c1 = ap state_code k.live in
      let c2 = ap state_code k.breaking in
      let generations = k.same_generation in
      (k.turns.swap.within, omega arith)

  pub no-swap : NoSwapOnceBroken volume.geom start turns
  no-swap n a generation t broken at x under =
      let last = slice_get_within turns n t at in
      let far = (past n a generation (omega arith) broken).1 in
      let s = swap-at n a t at x in
      let own = own_pair-is (started (digest volume.geom t.event.host (take n turns)) t.part)
      (started (digest volume.geom t.event.host (take n turns)) t.part).own a generation refl (sym s.held ∙ under) in
      let live = s.move.move.own_live own.own own.holds own.same_slot in
      let g1 = own.same_generation in
      let found = phase_at-is (before volume.geom start turns n) a x.verify s.move.old x.found s.move.was in
      omega (arith, far)

  pub entered-once : EnteredOnce volume.geom start turns
  entered-once m n a generation t u less at at' e f =
      let last = slice_get_within turns n u at' in
      let far = later m n a t less (omega arith) at e.turns.swap e.turns.new e.turns.is in
      let s = swap-at n a u at' f.turns.swap in
      let x : s.move.old ≡ f.turns.old = (let p = s.move.was in let q = f.turns.was in cc) in
      let y : s.move.new ≡ f.turns.new = (let p = s.move.is in let q = f.turns.is in cc) in
      let found = phase_at-is (before volume.geom start turns n) a f.turns.swap.verify f.turns.old f.turns.swap.found f.turns.was in
      let generations = s.move.move.enters (ap (λ (z : Slot). z.state) x ∙ f.was_free) (ap (λ (z : Slot). z.state) y ∙ f.live) in
      let gx = ap (λ (z : Slot). z.generation) x in
      let gy = ap (λ (z : Slot). z.generation) y in
      let c1 = ap state_code e.live in
      let c2 = ap state_code f.was_free in
      let g1 = e.same_generation in
      let g2 = f.same_generation in
      omega arith

  pub broken-stale : BrokenStale volume.geom start turns
  broken-stale n a generation t at b =
      let s = swap-at n a t at b.turns.swap in
      let x : s.move.old ≡ b.turns.old = (let p = s.move.was in let q = b.turns.was in cc) in
      let gx : s.move.old.generation ≡ generation = ap (λ (z : Slot). z.generation) x ∙ b.same_generation in
      elim (s.move.move.holder (ap (λ (z : Slot). z.state) x ∙ b.live)) [
        | inl h ↦
            let own : h.own.slot ≡ a = h.same_slot in
            let generations : h.own.generation ≡ generation = h.same_generation ∙ gx in
            absurd (b.other (s.held ∙ ap own_pair h.holds ∙ ap (λ k. Some (k, h.own.generation)) own ∙ ap (λ k. Some (a, k)) generations))
        | inr stale ↦ subst (λ notes. IsJudged notes a b.turns.swap.verify)
            (notes-started (digest volume.geom t.event.host (take n turns)) t.part) stale.0
      ]

  pub seized-over : SeizedOver volume.geom start turns
  seized-over n a by by_generation t at z =
      let last = slice_get_within turns n t at in
      let d : Digest = started (digest volume.geom t.event.host (take n turns)) t.part in
      let s = swap-at n a t at z.turns.swap in
      let h = seizes-over (setting_of volume t.event.host) d t.event.at a z.turns.swap.verify
      z.turns.swap.fresh z.turns.old z.turns.new by by_generation z.next z.next_generation z.turns.was z.turns.is z.was_breaking z.breaking
      z.turns.swap.within s.may in
      let stands = Stands-started volume.geom (before volume.geom start turns n)
      (digest volume.geom t.event.host (take n turns)) t.part
      ((slots-hold volume start turns history n (omega arith)).each t.event.host) in
      let shown = stands.seen by h.saw.sector h.saw.within (h.among (2 + by, h.saw.sector) h.saw.shown) in
      let p = ap phase_of h.saw.spelled in
      let up = h.saw.above in
      omega arith

  pub no-write : NoWriteOnceBroken volume.geom start turns
  no-write n a generation at fresh response landed took t broken there step =
      let last = slice_get_within turns n t there in
      let far = (past n a generation (omega arith) broken).1 in
      let d0 : Digest = digest volume.geom t.event.host (take n turns) in
      let d : Digest = started d0 t.part in
      let sent : IsSent (setting_of volume t.event.host) d t.event.at (before volume.geom start turns n) (Some (a, generation))
      (Write at fresh) response landed took =
      subst (Obeys (setting_of volume t.event.host) d t.event.at (before volume.geom start turns n)) step (obeys-at n t there) in
      let lease = lease-of (setting_of volume t.event.host) d t.event.at at fresh sent.sends.may in
      let own = own_pair-is d d.own a generation refl (sym sent.held) in
      let same : lease.own ≡ own.own = (let p = lease.holds in let q = own.holds in cc) in
      let lasts = ((leases-hold volume start turns history n (omega arith)).last t.event.host own.own
      (sym (own-started d0 t.part) ∙ own.holds)).1 in
      let s1 = ap (phase_at (before volume.geom start turns n)) own.same_slot in
      let g1 = own.same_generation in
      let over : own.own.last + 16 ≤ last_tick (take n turns) = lasts (omega (arith, far)) in
      let in_time = (history.each n t there).in_time in
      let l = ap (λ (o : Own). o.last) same in
      let fits = lease.in_time in
      omega arith

  pub all-stand : AllStand volume.geom start turns
  all-stand n h = let s = slots-hold volume start turns history n h in (s.each, s.apart)

  pub ok-at_own_swap : OkAtOwnSwap volume.geom start turns
  ok-at_own_swap n t at ok =
      let next = history.each n t at in
      ok-step (setting_of volume t.event.host) (digest volume.geom t.event.host (take n turns)) t.event.at
      (before volume.geom start turns n) t.part t.event.step next.obeys t.answer next.tells next.is_part ok

  -- what the host of turn n holds after it
  pub after-own : (n : ℕ) (t : Turn) → slice_get turns n ≡ Some t
      → OwnChange volume.geom t.event.at (before volume.geom start turns n)
      (after_step (before volume.geom start turns n) t.event.step)
      (started (digest volume.geom t.event.host (take n turns)) t.part) (digest volume.geom t.event.host (take (n + 1) turns))
  after-own n t at =
      let p : (t : Turn) × (slice_get turns n ≡ Some t) × (take (suc n) turns ≡ take n turns ++ t ∷ []) = take-next turns n
      (slice_get_within turns n t at) in
      let same : p.0 ≡ t = cc in
      let one : n + 1 ≡ suc n = omega arith in
      let is : take (n + 1) turns ≡ take n turns ++ t ∷ [] = ap (λ k. take k turns) one ∙ p.2
      ∙ ap (λ (x : Turn). take n turns ++ x ∷ []) same in
      subst (OwnChange volume.geom t.event.at (before volume.geom start turns n)
      (after_step (before volume.geom start turns n) t.event.step) (started (digest volume.geom t.event.host (take n turns)) t.part))
      (sym (ap (digest volume.geom t.event.host) is ∙ digest-mover volume.geom t.event.host (take n turns) t refl))
      (own-change (setting_of volume t.event.host) (before volume.geom start turns n)
      (digest volume.geom t.event.host (take n turns)) t (obeys-at n t at))

  -- a generation that was broken isn't held with an Ok
  no-ok_before : (n a generation : ℕ) (t : Turn) → IsBrokenBy volume.geom start turns n a generation → slice_get turns n ≡ Some t
      → IsOk t.answer → HoldsGeneration (started (digest volume.geom t.event.host (take n turns)) t.part) a generation → ⊥
  no-ok_before n a generation t broken at ok h =
      let d0 : Digest = digest volume.geom t.event.host (take n turns) in
      let d : Digest = started d0 t.part in
      let o = ok-at_own_swap n t at ok in
      elim o.own [
        | inl (own, holds, slot) ↦
            let same : own ≡ h.own = (let p = own-started d0 t.part in let q = h.holds in cc) in
            let here : o.a ≡ a = sym slot ∙ ap (λ (x : Own). x.slot) same ∙ h.same_slot in
            let s = swap-at n o.a t at o.swap in
            let live = s.move.move.own_live h.own h.holds (h.same_slot ∙ sym here) in
            let found = phase_at-is (before volume.geom start turns n) o.a o.swap.verify s.move.old o.swap.found s.move.was in
            let last = slice_get_within turns n t at in
            let far = (past n a generation (omega arith) broken).1 in
            let k = ap (phase_at (before volume.geom start turns n)) here in
            let g1 = h.same_generation in
            omega (arith, far)
        | inr none ↦ (let p = own-started d0 t.part in let q = h.holds in cc)
      ]

  pub no-ok : NoOkOnceBroken volume.geom start turns
  no-ok n a generation t broken at ok (inl held) =
      let d0 : Digest = digest volume.geom t.event.host (take n turns) in
      no-ok_before n a generation t broken at ok (own_pair-is (started d0 t.part) d0.own a generation (own-started d0 t.part) held)
  no-ok n a generation t broken at ok (inr held) =
      let d' : Digest = digest volume.geom t.event.host (take (n + 1) turns) in
      by_change (own_pair-is d' d'.own a generation refl held) (after-own n t at)
    where
      by_change : HoldsGeneration (digest volume.geom t.event.host (take (n + 1) turns)) a generation
          → OwnChange volume.geom t.event.at (before volume.geom start turns n)
          (after_step (before volume.geom start turns n) t.event.step)
          (started (digest volume.geom t.event.host (take n turns)) t.part) (digest volume.geom t.event.host (take (n + 1) turns)) → ⊥
      by_change h (SameOwn same untouched) = no-ok_before n a generation t broken at ok
          (record { own = h.own; holds = sym same ∙ h.holds; same_slot = h.same_slot; same_generation = h.same_generation })
      by_change h (NoOwn none) = (let q = h.holds in cc)
      by_change h (FreshOwn o is fresh) =
          let same : o ≡ h.own = (let q = h.holds in cc) in
          let slots : o.slot ≡ a = ap (λ (x : Own). x.slot) same ∙ h.same_slot in
          let generations : o.generation ≡ generation = ap (λ (x : Own). x.generation) same ∙ h.same_generation in
          elim fresh.from [
            | inl b ↦ no-ok_before n a generation t broken at ok
                (record {
                  own = b.own;
                  holds = b.holds;
                  same_slot = b.same_slot ∙ slots;
                  same_generation = b.same_generation
                      ∙ generations;
                })
            | inr free ↦
                let last = slice_get_within turns n t at in
                let far = (past n a generation (omega arith) broken).1 in
                let k = ap (phase_at (before volume.geom start turns n)) slots in
                omega (arith, far, k, generations, free.1)
          ]
