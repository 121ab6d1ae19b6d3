-- What one step does to each sector, and to slots.
use Rattle.std.proofs.Common.{◌≡◌, ℕ, ◌+◌, ◌%◌, ◌<◌, ◌≤◌, inl, inr, Bool, true, false, List, refl, sym, ◌∙◌, ap, subst, arith, Option, Some, None}
use Rattle.std.specs.Prelude.{slice_get, slice_set, slice_index}
use Rattle.std.proofs.lemmas.Bool.{cases_eq}
use Rattle.ds_base.specs.declared.sectors.Sector.{Sector}
use Rattle.ds_base.specs.declared.commands.Command.{Command}
use Rattle.ds_base.specs.declared.commands.Command.TheVariants.{Read, Write, Swap}
use Rattle.ds_base.specs.declared.commands.Response.{Response}
use Rattle.ds_base.specs.declared.commands.Response.TheVariants.{Done, Miscompare}
use Rattle.ds_base.specs.Device.{stored, Answers, holds_image}
use Rattle.ds_base.proofs.DeviceLaws.{found_image, holds_image-found, stored-swap_holds}
use Rattle.ds_marks.specs.declared.slot.Slot.{Slot}
use Rattle.ds_marks.specs.SlotIn.{slot_in}
use Rattle.ds_log.specs.declared.logs.Step.{Step}
use Rattle.ds_log.specs.declared.logs.Step.TheVariants.{Local, Sent}
use Rattle.ds_log.specs.Store.{after_step}
use Rattle.ds_conduct.specs.Digests.{Digest}
use Rattle.ds_conduct.specs.Guards.{MaySend, MaySwap, MayWrite, Journalling, Indexing, Placing, Replaying, Filling}
use Rattle.ds_conduct.specs.Settings.{Setting}
use Rattle.ds_conduct.specs.Marks.{slot_spelled, phase_of, phase_at, rank_of, rank_at}
use Rattle.ds_conduct.proofs.Places.{journal-beyond, block-beyond, metadata-beyond}
use Rattle.ds_log.specs.Histories.{Obeys}
use Rattle.ds_log.specs.Effects.{SectorEffect, Untouched, Swapped, Written, SlotEffect, Still, Moved}
use Rattle.ds_image_parts.proofs.Journaling.LaidOver.{slice_get-set_other}
use Rattle.ds_log_slots.proofs.Lists.{slice_get-set_found, slice_get-set_none, cond-cases}
use Rattle.ds_log_slots.proofs.Moves.{move-of}

-- the sectors stay, or one is written, by a Swap that found its image or by a Write
pub data Effect (old new : List Sector) : Command → Type 0 where
  Stays : (c : Command) → new ≡ old → Effect old new c
  Swaps : (at : ℕ) (verify fresh : Sector) → slice_get old at ≡ Some verify → new ≡ slice_set old at fresh
      → Effect old new (Swap at verify fresh)
  Writes : (at : ℕ) (fresh : Sector) → new ≡ slice_set old at fresh → Effect old new (Write at fresh)

stored-effect : (s : List Sector) (c : Command) → Effect s (stored s c) c
stored-effect s (Read at) = Stays (Read at) refl
stored-effect s (Write at fresh) = Writes at fresh refl
stored-effect s (Swap at verify fresh) =
    elim (cond-cases (holds_image (slice_get s at) verify) (slice_set s at fresh) s) [
      | inl h ↦ Swaps at verify fresh (found_image (slice_get s at) verify h.0) h.1
      | inr h ↦ Stays (Swap at verify fresh) h.1
    ]

pub effect-of : (s : List Sector) (under : Option (ℕ × ℕ)) (c : Command) (r : Response) (landed took : Bool)
    → Effect s (after_step s (Sent under c r landed took)) c
effect-of s under c r true took = stored-effect s c
effect-of s under c r false took = Stays c refl

-- a Swap that was answered Done took effect
pub done-effect : (s : List Sector) (at : ℕ) (verify fresh : Sector) → Answers s (Swap at verify fresh) Done
    → (slice_get s at ≡ Some verify) × (stored s (Swap at verify fresh) ≡ slice_set s at fresh)
done-effect s at verify fresh h = (found_image (slice_get s at) verify h, stored-swap_holds s at verify fresh h)

-- one that missed did not
pub missed-effect : (s : List Sector) (at : ℕ) (verify fresh : Sector) (offset : ℕ) → Answers s (Swap at verify fresh) (Miscompare offset)
    → stored s (Swap at verify fresh) ≡ s
missed-effect s at verify fresh offset h =
    let held : Sector = h.0 in
    elim (cond-cases (holds_image (slice_get s at) verify) (slice_set s at fresh) s) [
      | inl is ↦
          let found = found_image (slice_get s at) verify is.0 in
          let there : slice_get s at ≡ Some held = h.1 in
          let same : held ≡ verify = cc in
          absurd (h.2.differs (ap (λ (x : Sector). slice_index x.bytes offset) same))
      | inr is ↦ is.1
    ]

pub stored-found : (s : List Sector) (at : ℕ) (verify fresh : Sector) → slice_get s at ≡ Some verify
    → stored s (Swap at verify fresh) ≡ slice_set s at fresh
stored-found s at verify fresh found = stored-swap_holds s at verify fresh (holds_image-found (slice_get s at) verify found)

module _ (setting : Setting) (d : Digest) (now : ℕ) where
  pub write-beyond : (at : ℕ) (fresh : Sector) → MayWrite setting d now at fresh → 2 + setting.geom.slots ≤ at
  write-beyond at fresh (Journalling w) = let place = w.place in let b = journal-beyond setting.geom w.lease.own.slot w.i in omega arith
  write-beyond at fresh (Indexing w) = let place = w.place in let b = journal-beyond setting.geom w.lease.own.slot 31 in omega arith
  write-beyond at fresh (Placing w) = metadata-beyond setting.geom at w.metadata
  write-beyond at fresh (Replaying w) = metadata-beyond setting.geom at w.metadata
  write-beyond at fresh (Filling w) = let place = w.place in let b = block-beyond setting.geom w.block
      (w.sector % setting.geom.block) in omega arith

  -- no plain write is one of a slot
  pub write-no_slot : (a : ℕ) (fresh : Sector) → a < setting.geom.slots → MayWrite setting d now (2 + a) fresh → ⊥
  write-no_slot a fresh within w = let b = write-beyond (2 + a) fresh w in omega arith

  effect-sector : (old new : List Sector) (c : Command) → MaySend setting d now c → Effect old new c → (k : ℕ)
      → SectorEffect setting d now old new k
  effect-sector old new c may (Stays c' same) k = Untouched (ap (λ s. slice_get s k) same)
  effect-sector old new (Swap at verify fresh) may (Swaps at' verify' fresh' found is) k =
      elim (cases_eq at k) [
        | inl here ↦ Swapped verify fresh (subst (λ i. slice_get old i ≡ Some verify) here found)
            (subst (λ i. slice_get new i ≡ Some fresh) here (ap (λ s. slice_get s at) is ∙ slice_get-set_found old at verify fresh found))
            (subst (λ i. MaySwap setting d now i verify fresh) here may)
        | inr other ↦ Untouched (ap (λ s. slice_get s k) is ∙ slice_get-set_other old at k fresh other)
      ]
  effect-sector old new (Write at fresh) may (Writes at' fresh' is) k =
      elim (cases_eq at k) [
        | inl here ↦ by_old (slice_get old at) refl here
        | inr other ↦ Untouched (ap (λ s. slice_get s k) is ∙ slice_get-set_other old at k fresh other)
      ]
    where
      by_old : (o : Option Sector) → slice_get old at ≡ o → at ≡ k → SectorEffect setting d now old new k
      by_old None none here = Untouched (subst (λ i. slice_get new i ≡ slice_get old i) here (ap (λ s. slice_get s at) is
          ∙ slice_get-set_none old at fresh none ∙ sym none))
      by_old (Some s) some here = Written fresh (subst (λ i. slice_get new i ≡ Some fresh) here (ap (λ s. slice_get s at) is
          ∙ slice_get-set_found old at s fresh some))
          (subst (λ i. MayWrite setting d now i fresh) here may)

  -- any sector after a step
  pub sector-effect : (s : List Sector) (step : Step) → Obeys setting d now s step → (k : ℕ)
      → SectorEffect setting d now s (after_step s step) k
  sector-effect s Local obeys k = Untouched refl
  sector-effect s (Sent under c r landed took) obeys k = effect-sector s (after_step s (Sent under c r landed took)) c obeys.sends.may
      (effect-of s under c r landed took) k

  -- and a slot
  pub slot-effect : (old new : List Sector) (a : ℕ) → a < setting.geom.slots → SectorEffect setting d now old new (2 + a)
      → SlotEffect d old new a
  slot-effect old new a within (Untouched same) = Still same
  slot-effect old new a within (Swapped verify fresh was is may) =
      let m = move-of setting d now a verify fresh within may in Moved verify fresh m.old m.new was is m.was m.is m.move
  slot-effect old new a within (Written fresh is may) = absurd (write-no_slot a fresh within may)

spelled-at : (s : List Sector) (a : ℕ) (image : Sector) (x : Slot) → slice_get s (2 + a) ≡ Some image → slot_in a image.bytes ≡ Some x
    → slot_spelled a (slice_get s (2 + a)) ≡ Some x
spelled-at s a image x there spelled = ap (slot_spelled a) there ∙ spelled

pub phase_at-is : (s : List Sector) (a : ℕ) (image : Sector) (x : Slot) → slice_get s (2 + a) ≡ Some image
    → slot_in a image.bytes ≡ Some x → phase_at s a ≡ phase_of (Some x)
phase_at-is s a image x there spelled = ap phase_of (spelled-at s a image x there spelled)

pub rank_at-is : (s : List Sector) (a : ℕ) (image : Sector) (x : Slot) → slice_get s (2 + a) ≡ Some image
    → slot_in a image.bytes ≡ Some x → rank_at s a ≡ rank_of (Some x)
rank_at-is s a image x there spelled = ap rank_of (spelled-at s a image x there spelled)

-- no slot falls back
pub phase-kept : (d : Digest) (old new : List Sector) (a : ℕ) → SlotEffect d old new a → phase_at old a ≤ phase_at new a
phase-kept d old new a (Still same) = let e = ap (λ o. phase_of (slot_spelled a o)) same in omega arith
phase-kept d old new a (Moved verify fresh x y was is was_x is_y move) =
    let o = phase_at-is old a verify x was was_x in let n = phase_at-is new a fresh y is is_y in let r = move.rises in omega arith

pub rank-kept : (d : Digest) (old new : List Sector) (a : ℕ) → SlotEffect d old new a → rank_at old a ≤ rank_at new a
rank-kept d old new a (Still same) = let e = ap (λ o. rank_of (slot_spelled a o)) same in omega arith
rank-kept d old new a (Moved verify fresh x y was is was_x is_y move) =
    let o = rank_at-is old a verify x was was_x in let n = rank_at-is new a fresh y is is_y in let r = move.rank_rises in omega arith
