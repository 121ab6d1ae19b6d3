-- What every event keeps of a slot whose pairs are pending, and of a journal that is ready.
use Rattle.std.proofs.Common.{◌≡◌, ℕ, ◌<◌, ◌≤◌, true, List, length, slice_get, slice_set, Option, Some, refl, sym, ap, subst, ◌∙◌, inl, inr, arith}
use Rattle.std.proofs.lemmas.Bool.{cases_eq}
use Rattle.std.proofs.lemmas.Option.{slice_get_within}
use Rattle.ds_base.specs.Geometry.{IsGeom}
use Rattle.ds_base.specs.declared.geometry.Geom.{Geom}
use Rattle.ds_base.specs.declared.sectors.Sector.{Sector}
use Rattle.ds_jrnl.specs.Index.{index_bytes}
use Rattle.ds_layout.specs.Places.{blocks_at, place_sector}
use Rattle.ds_layout.specs.declared.places.Place.TheVariants as places
use Rattle.ds_tree.specs.Nodes.{FileTree}
use Rattle.ds_layout.specs.Metadata.{IsMetadata}
use Rattle.ds_image_parts.specs.Pending.{Pair, ArePending}
use Rattle.ds_layout.proofs.MetadataPlaces.{metadata-before_blocks}
use Rattle.ds_image_parts.proofs.Journaling.OneLogical.{pending_once}
use Rattle.ds_image.proofs.Spelling.SoundParts.{all-at, all-from_at}
use Rattle.ds_image_laws.specs.Kept.{is_target}
use Rattle.ds_image_laws.specs.HostWrites.{IsReady}
use Rattle.ds_image_laws.specs.ImageSteps.{Commit, ImageStep, Elsewhere, Placed, Renewed, Retired, Committed}
use Rattle.ds_image_laws.specs.Owners.{Names}
use Rattle.ds_image_laws.specs.Shown.{SameMetadata, AreInPlace, IsIdle, HoldsImage}
use Rattle.ds_image_laws.proofs.Images.{pairs-apart}
use Rattle.ds_image_laws.proofs.InPlace.{HasOnly, in_place-written, only-rising}
use Rattle.ds_image_laws.proofs.KeptPending.{slot-kept, pending-metadata}
use Rattle.ds_image_laws.proofs.Owners.{owners-apart}
use Rattle.ds_image_laws.proofs.PickedPairs.{target-at, target-holds}
use Rattle.ds_image.proofs.SameSectors.{has-same}
use Rattle.ds_image_laws.proofs.Steps.{metadata-elsewhere}

-- a slot whose sector stays is idle still, and a journal whose sectors stay is ready still
pub idle-kept : (g : Geom) (sectors sectors' : List Sector) (n : ℕ)
    → slice_get sectors (place_sector g (places.Slot n)) ≡ slice_get sectors' (place_sector g (places.Slot n)) → IsIdle g sectors n → IsIdle g sectors' n
idle-kept g sectors sectors' n same idle = record {
  slot = idle.slot;
  decoded = slot-kept g sectors sectors' n (Some idle.slot) same idle.decoded;
  idle = idle.idle;
}

pub ready-kept : (g : Geom) (sectors sectors' : List Sector) (n generation txn : ℕ) (pairs : List Pair) → length pairs ≤ 31
    → ((i : ℕ) → i < 32 → slice_get sectors (place_sector g (places.Journal n i)) ≡ slice_get sectors' (place_sector g (places.Journal n i)))
    → IsReady g sectors n generation txn pairs → IsReady g sectors' n generation txn pairs
ready-kept g sectors sectors' n generation txn pairs few stays ready = record {
  index = ready.index;
  spells = (ready.spells.0, has-same (slice_get sectors) (slice_get sectors') (place_sector g (places.Journal n 31)) (index_bytes ready.index) (stays 31 (omega arith)) ready.spells.1);
  same_slot = ready.same_slot;
  same_generation = ready.same_generation;
  same_txn = ready.same_txn;
  targets = ready.targets;
  have_sectors = λ i pair got. sym (stays i (omega (arith, slice_get_within pairs i pair got, few))) ∙ ready.have_sectors i pair got;
}

-- Pairs that stand at their sectors stay there

-- where no metadata is written
in_place-same : (g : Geom) (sectors sectors' : List Sector) (pairs : List Pair) → SameMetadata g sectors sectors'
    → ((i : ℕ) (pair : Pair) → slice_get pairs i ≡ Some pair → IsMetadata g pair.0) → AreInPlace sectors pairs → AreInPlace sectors' pairs
in_place-same g sectors sectors' pairs same metadata stand =
    all-from_at (λ (p : Pair). slice_get sectors' p.0 ≡ Some p.1) pairs
    (λ i pair got. same pair.0 (metadata i pair got) ∙ all-at (λ (p : Pair). slice_get sectors p.0 ≡ Some p.1) pairs stand i pair got)

-- some of a slot's pending pairs, by their places
pub record AreSome (all some : List Pair) : Type 0 where
  pub each : (i : ℕ) (pair : Pair) → slice_get some i ≡ Some pair → (j : ℕ) × (slice_get all j ≡ Some pair)

module _ (g : Geom) (is : IsGeom g) (sectors image : List Sector) (t : FileTree) (whole : blocks_at g ≤ length sectors)
    (holds : HoldsImage g sectors (Names g sectors) image t) (number : ℕ) (all some : List Pair) (within : number < g.slots) (are : ArePending g sectors number all)
    (among : AreSome all some) (stand : AreInPlace sectors some) where
  some-metadata : (i : ℕ) (pair : Pair) → slice_get some i ≡ Some pair → IsMetadata g pair.0
  some-metadata i pair got =
      let at = among.each i pair got in
      target-holds (IsMetadata g) all pair.0 (pending-metadata g sectors number all are).metadata (target-at all at.0 pair at.1)

  slot-write : (slot : ℕ) (s : Sector) → slot < g.slots → AreInPlace (slice_set sectors (place_sector g (places.Slot slot)) s) some
  slot-write slot s inside =
      in_place-same g sectors (slice_set sectors (place_sector g (places.Slot slot)) s) some
      (metadata-elsewhere g is sectors (places.Slot slot) inside s refl) some-metadata stand

  -- every pair for the sector that is written has that content: another slot has no pair for it, and the slot itself no other one
  only-here : (slot : ℕ) (pairs : List Pair) (i : ℕ) (pair : Pair) → slot < g.slots → ArePending g sectors slot pairs → slice_get pairs i ≡ Some pair
      → HasOnly pair.0 pair.1 some
  only-here slot pairs i pair inside theirs got k other there same =
      let at = among.each k other there in
      elim (cases_eq number slot) [
        | inl here ↦
            let one : all ≡ pairs = pending_once g sectors number all pairs are (subst (λ n. ArePending g sectors n pairs) (sym here) theirs) in
            only-rising pairs i pair (pending-metadata g sectors slot pairs theirs).rising got at.0 other (ap (λ (ps : List Pair). slice_get ps at.0) (sym one) ∙ at.1) same
        | inr apart ↦
            absurd
            (pairs-apart g is sectors image (Names g sectors) t holds (owners-apart g sectors) slot pairs (holds.guarded slot pairs inside theirs) number all pair.0 within apart are
            (target-at pairs i pair got) (subst (λ n. is_target all n ≡ true) same (target-at all at.0 other at.1)))
      ]

  pub step-in_place : (commit : Option Commit) (sectors' image' : List Sector) (u : FileTree) → ImageStep g sectors image t commit sectors' image' u
      → AreInPlace sectors' some
  step-in_place _ _ _ _ (Elsewhere place s inside not harmless idle) =
      in_place-same g sectors (slice_set sectors (place_sector g place) s) some (metadata-elsewhere g is sectors place inside s not) some-metadata stand
  step-in_place _ _ _ _ (Placed slot pairs i pair inside theirs got) =
      let metadata : IsMetadata g pair.0 = target-holds (IsMetadata g) pairs pair.0 (pending-metadata g sectors slot pairs theirs).metadata (target-at pairs i pair got) in
      let below : pair.0 < blocks_at g = metadata-before_blocks g pair.0 metadata in
      in_place-written sectors some pair.0 pair.1 (omega (arith, below, whole)) (only-here slot pairs i pair inside theirs got) stand
  step-in_place _ _ _ _ (Renewed slot s old new written generation journal) = slot-write slot s written.within
  step-in_place _ _ _ _ (Retired slot s old new pairs written theirs stand' idle) = slot-write slot s written.within
  step-in_place _ _ _ _ (Committed slot s old new call pairs reply written idle generation journal commits) = slot-write slot s written.within
