-- The image of a store whose sectors are written one after another, each as a host may write it.
use Rattle.std.proofs.Common.{◌≡◌, ◌≢◌, ℕ, ◌<◌, ◌≤◌, true, false, List, [], length, slice_get, slice_set, Some, refl, sym, ap, subst, ◌∙◌, inl, inr, length-set, arith}
use Rattle.std.proofs.lemmas.Bool.{cases_eq, false≢true}
use Rattle.std.proofs.lemmas.List.Elements.{All-nil}
use Rattle.ds_base.specs.Decoding.{IsDecoded}
use Rattle.ds_base.specs.Geometry.{IsGeom}
use Rattle.ds_base.specs.declared.geometry.Geom.{Geom}
use Rattle.ds_base.specs.declared.sectors.Sector.{Sector}
use Rattle.ds_tree.specs.Nodes.{FileTree}
use Rattle.ds_layout.specs.Places.{blocks_at, IsPlace, place_sector}
use Rattle.ds_layout.specs.declared.places.Place.{Place}
use Rattle.ds_layout.specs.declared.places.Place.TheVariants as places
use Rattle.ds_marks.specs.declared.slot.Slot.{Slot}
use Rattle.ds_marks.specs.declared.slot.Journal.{Journal}
use Rattle.ds_marks.specs.declared.slot.Journal.TheVariants.{Idle}
use Rattle.ds_image_parts.specs.Logical.{laid_over}
use Rattle.ds_layout.specs.Metadata.{IsMetadata, is_metadata}
use Rattle.ds_image_parts.specs.Pending.{Pair, AreOfJournal, ArePending}
use Rattle.ds_image_parts.specs.Readings.{SpellsSlot}
use Rattle.ds_image_parts.proofs.Journaling.OneLogical.{pending_once}
use Rattle.ds_image_laws.specs.Kept.{is_target}
use Rattle.ds_image_laws.specs.Owners.{Names}
use Rattle.ds_image_laws.specs.Shown.{SameMetadata, AreInPlace, IsIdle, IsHarmless, MakesImage, HoldsImage}
use Rattle.ds_image_laws.proofs.Images.{holds-committed, holds-retired, holds-kept, holds-placed, holds-renamed}
use Rattle.ds_image_laws.proofs.KeptPending.{place-kept, pending-elsewhere, pending-harmless, pending-slot_written, pending-of_journal, pending-metadata, idle-pending}
use Rattle.ds_image_laws.proofs.PickedPairs.{target-at, target-holds}
use Rattle.ds_image_laws.proofs.Owners.{owners-apart, names-kept, names-renewed, is_header-or}

-- a write of what is no metadata leaves them
pub metadata-elsewhere : (g : Geom) (is : IsGeom g) (sectors : List Sector) (place : Place) (inside : IsPlace g place) (s : Sector) → is_metadata place ≡ false
    → SameMetadata g sectors (slice_set sectors (place_sector g place) s)
metadata-elsewhere g is sectors place inside s not at metadata =
    let apart : metadata.place ≢ place = λ e. false≢true (sym not ∙ ap is_metadata (sym e) ∙ metadata.kept) in
    subst (λ n. slice_get (slice_set sectors (place_sector g place) s) n ≡ slice_get sectors n) metadata.here
    (sym (place-kept g is sectors place inside s metadata.place metadata.is_place apart))

-- a place of metadata is harmless
pub harmless-metadata : (g : Geom) (sectors : List Sector) (place : Place) → is_metadata place ≡ true → IsHarmless g sectors place
harmless-metadata g sectors places.VolInfo is = tt
harmless-metadata g sectors places.FsInfo is = tt
harmless-metadata g sectors (places.Slot n) is = absurd (false≢true is)
harmless-metadata g sectors (places.Journal n i) is = absurd (false≢true is)
harmless-metadata g sectors (places.Header o) is = tt
harmless-metadata g sectors (places.Bitmap kind c) is = tt
harmless-metadata g sectors (places.Body o) is = tt
harmless-metadata g sectors (places.SubBlock n) is = tt
harmless-metadata g sectors (places.PtrBlock n) is = tt
harmless-metadata g sectors (places.Block b i) is = tt

harmless-slot : (g : Geom) (sectors : List Sector) (place : Place) (n : ℕ) → IsHarmless g sectors place → places.Slot n ≢ place
harmless-slot g sectors place n harmless e = subst (IsHarmless g sectors) (sym e) harmless

module _ (g : Geom) (is : IsGeom g) (sectors image : List Sector) (t : FileTree) (whole : blocks_at g ≤ length sectors)
    (holds : HoldsImage g sectors (Names g sectors) image t) where
  whole-after : (at : ℕ) (s : Sector) → blocks_at g ≤ length (slice_set sectors at s)
  whole-after at s = omega (arith, whole, length-set sectors at s)

  -- where the lock objects that protect pending targets are still their slots', after a harmless write
  names-after : (place : Place) (inside : IsPlace g place) (s : Sector) → IsHarmless g sectors place
      → ((n object : ℕ) → places.Header object ≡ place → Names g sectors n object → IsIdle g sectors n)
      → HoldsImage g (slice_set sectors (place_sector g place) s) (Names g sectors) image t
      → HoldsImage g (slice_set sectors (place_sector g place) s) (Names g (slice_set sectors (place_sector g place) s)) image t
  names-after place inside s harmless idle =
      holds-renamed g (slice_set sectors (place_sector g place) s) image (Names g sectors) (Names g (slice_set sectors (place_sector g place) s)) t
      (λ n object pairs at within are found guard names. elim (is_header-or place object) [
        | inl here ↦
            let rest : IsIdle g sectors n = idle n object here names in
            let none : [] ≡ pairs = pending_once g (slice_set sectors (place_sector g place) s) n [] pairs
            (pending-harmless g is sectors place inside s n [] within harmless (idle-pending g sectors n rest)) are in
            absurd (false≢true (ap (λ ps. is_target ps at) none ∙ found))
        | inr apart ↦ names-kept g is sectors place inside s n object (harmless-slot g sectors place n harmless) apart names
      ])

  -- volume information, a header, the journal of an idle slot, a file block
  pub step-elsewhere : (place : Place) (inside : IsPlace g place) (s : Sector) → is_metadata place ≡ false → IsHarmless g sectors place
      → ((n object : ℕ) → places.Header object ≡ place → Names g sectors n object → IsIdle g sectors n)
      → HoldsImage g (slice_set sectors (place_sector g place) s) (Names g (slice_set sectors (place_sector g place) s)) image t
  step-elsewhere place inside s not harmless idle =
      names-after place inside s harmless idle
      (holds-kept g sectors (slice_set sectors (place_sector g place) s) image (Names g sectors) t holds
      (λ n pairs within are. pending-harmless g is sectors place inside s n pairs within harmless are) whole (whole-after (place_sector g place) s)
      (metadata-elsewhere g is sectors place inside s not))

  -- a target of pending pairs
  pub step-placed : (place : Place) (inside : IsPlace g place) (s : Sector) (slot : ℕ) (pairs : List Pair) → is_metadata place ≡ true → slot < g.slots
      → ArePending g sectors slot pairs → is_target pairs (place_sector g place) ≡ true
      → HoldsImage g (slice_set sectors (place_sector g place) s) (Names g (slice_set sectors (place_sector g place) s)) image t
  step-placed place inside s slot pairs metadata within are target =
      let harmless : IsHarmless g sectors place = harmless-metadata g sectors place metadata in
      names-after place inside s harmless
      (λ n object here names. absurd (false≢true (ap is_metadata here ∙ metadata)))
      (holds-placed g sectors image (Names g sectors) t holds slot (place_sector g place) pairs s within
      (λ n qs inside_too pending. pending-harmless g is sectors place inside s n qs inside_too harmless pending) are target)

  -- a pair of the pending ones
  pub step-put : (slot : ℕ) (pairs : List Pair) (i : ℕ) (pair : Pair) → slot < g.slots → ArePending g sectors slot pairs → slice_get pairs i ≡ Some pair
      → HoldsImage g (slice_set sectors pair.0 pair.1) (Names g (slice_set sectors pair.0 pair.1)) image t
  step-put slot pairs i pair within are got =
      let target : is_target pairs pair.0 ≡ true = target-at pairs i pair got in
      let metadata : IsMetadata g pair.0 = target-holds (IsMetadata g) pairs pair.0 (pending-metadata g sectors slot pairs are).metadata target in
      subst (λ n. HoldsImage g (slice_set sectors n pair.1) (Names g (slice_set sectors n pair.1)) image t) metadata.here
      (step-placed metadata.place metadata.is_place pair.1 slot pairs metadata.kept within are (subst (λ n. is_target pairs n ≡ true) (sym metadata.here) target))

  -- the slots

  module _ (slot : ℕ) (within : slot < g.slots) (s : Sector) (old new : Slot) (was : IsDecoded (Some old) (SpellsSlot g (slice_get sectors) slot))
      (now : IsDecoded (Some new) (SpellsSlot g (slice_get (slice_set sectors (place_sector g (places.Slot slot)) s)) slot)) where
    abbrev after : List Sector
    after = slice_set sectors (place_sector g (places.Slot slot)) s

    slot-whole : blocks_at g ≤ length after
    slot-whole = whole-after (place_sector g (places.Slot slot)) s

    slot-metadata : SameMetadata g sectors after
    slot-metadata = metadata-elsewhere g is sectors (places.Slot slot) within s refl

    others-kept : (n : ℕ) (pairs : List Pair) → n < g.slots → n ≢ slot → ArePending g sectors n pairs → ArePending g after n pairs
    others-kept n pairs inside apart are =
        pending-elsewhere g is sectors (places.Slot slot) within s n pairs inside (λ e. apart (let same : n ≡ slot = cc in same)) (λ i e. absurd (cc)) are

    -- the lock objects of slots that are pending are still theirs, where the generation of this one stays or it has no pending pairs
    slot-names : (image' : List Sector) (u : FileTree)
        → ((pairs : List Pair) (at : ℕ) → ArePending g after slot pairs → is_target pairs at ≡ true → new.generation ≡ old.generation)
        → HoldsImage g after (Names g sectors) image' u → HoldsImage g after (Names g after) image' u
    slot-names image' u same =
        holds-renamed g after image' (Names g sectors) (Names g after) u
        (λ n object pairs at inside are found guard names. elim (cases_eq n slot) [
          | inl here ↦
              let generation = same pairs at (subst (λ k. ArePending g after k pairs) here are) found in
              subst (λ k. Names g after k object) (sym here)
              (names-renewed g is sectors slot object s old new within was now generation (subst (λ k. Names g sectors k object) here names))
          | inr apart ↦
              names-kept g is sectors (places.Slot slot) within s n object (λ e. apart (let same : n ≡ slot = cc in same)) (λ e. absurd (cc)) names
        ])

    old-pending : (pairs : List Pair) → ArePending g sectors slot pairs → AreOfJournal g sectors slot old.generation old.journal pairs
    old-pending pairs are = pending-of_journal g sectors slot old pairs was are

    -- Idle to Committed: the image with the pairs over it
    pub step-committed : (redo : List Pair) (u : FileTree) → old.journal ≡ Idle → new.generation ≡ old.generation
        → AreOfJournal g sectors slot new.generation new.journal redo → MakesImage g (Names g sectors slot) image redo u
        → HoldsImage g after (Names g after) (laid_over image redo) u
    step-committed redo u idle same journal change =
        slot-names (laid_over image redo) u (λ pairs at are found. same)
        (holds-committed g is sectors image (Names g sectors) t holds (owners-apart g sectors) slot redo u change after within whole slot-whole slot-metadata others-kept
        (idle-pending g sectors slot record { slot = old; decoded = was; idle = idle })
        (pending-slot_written g is sectors slot s new redo within now journal))

    -- to Idle, in whatever generation, once the pairs stand at their sectors
    pub step-retired : (redo : List Pair) → ArePending g sectors slot redo → AreInPlace sectors redo → new.journal ≡ Idle
        → HoldsImage g after (Names g after) image t
    step-retired redo are stand idle =
        let none : ArePending g after slot [] = idle-pending g after slot record { slot = new; decoded = now; idle = idle } in
        slot-names image t
        (λ pairs at pending found. absurd (false≢true (ap (λ ps. is_target ps at) (pending_once g after slot [] pairs none pending) ∙ found)))
        (holds-retired g is sectors image (Names g sectors) t holds (owners-apart g sectors) after slot redo within whole slot-whole slot-metadata others-kept are none stand)

    -- the generation and the journal stay
    pub step-renewed : new.generation ≡ old.generation → new.journal ≡ old.journal → HoldsImage g after (Names g after) image t
    step-renewed generation journal =
        slot-names image t (λ pairs at are found. generation)
        (holds-kept g sectors after image (Names g sectors) t holds
        (λ n pairs inside are. elim (cases_eq n slot) [
          | inl here ↦
              let mine : AreOfJournal g sectors slot old.generation old.journal pairs = old-pending pairs (subst (λ k. ArePending g sectors k pairs) here are) in
              let still : AreOfJournal g sectors slot new.generation new.journal pairs =
              subst (λ k. AreOfJournal g sectors slot k new.journal pairs) (sym generation) (subst (λ (j : Journal). AreOfJournal g sectors slot old.generation j pairs) (sym journal) mine) in
              subst (λ k. ArePending g after k pairs) (sym here) (pending-slot_written g is sectors slot s new pairs within now still)
          | inr apart ↦ others-kept n pairs inside apart are
        ])
        whole slot-whole slot-metadata)

    -- Idle to Idle, in whatever generation
    pub step-idle : old.journal ≡ Idle → new.journal ≡ Idle → HoldsImage g after (Names g after) image t
    step-idle idle idle' = step-retired [] (idle-pending g sectors slot record { slot = old; decoded = was; idle = idle }) (All-nil (λ (pair : Pair). slice_get sectors pair.0 ≡ Some pair.1)) idle'
