-- A logical image in which nothing is found stands for the tree that its parts spell.
use Rattle.std.proofs.Common.{◌≡◌, ℕ, ◌<◌, true, List, [], ◌∷◌, length, map, slice_get, Some, IsSome, is_some, refl, ap, ◌∙◌, subst, inl, inr, arith}
use Rattle.std.specs.Prelude.{Contains}
use Rattle.ds_base.specs.Geometry.{items_of}
use Rattle.ds_base.specs.declared.geometry.Geom.{Geom}
use Rattle.ds_base.specs.declared.geometry.Kind.TheVariants.{Pb}
use Rattle.ds_base.specs.declared.sectors.Sector.{Sector}
use Rattle.ds_tree.specs.WellFormed.{Reached}
use Rattle.ds_image_parts.specs.BadSectors.{HasNoBad}
use Rattle.ds_image_parts.specs.ImageValues.{IsImage}
use Rattle.ds_image_parts.specs.Logical.{IsLogical}
use Rattle.ds_image_parts.specs.Objects.{addresses_in, is_used, tree_of, subs_of, ptrs_of}
use Rattle.ds_image_parts.specs.Parts.{Parts, part_at}
use Rattle.ds_image_parts.specs.Readings.{ReadsParts}
use Rattle.ds_image.specs.ReadTrees.{StandsForNone}
use Rattle.ds_image.specs.Rooted.{IsRooted}
use Rattle.ds_image.specs.Sound.{IsSound, IsNamedRight, rooms_used_by, StandsFor}
use Rattle.ds_image.specs.SoundObjects.{IsSoundObject}
use Rattle.ds_image.proofs.Spelling.SoundParts.{sound-from, all-from_at}
use Rattle.ds_image.proofs.FileTrees.TreesThatStand.{tree-from_rooted}
use Rattle.ds_check.specs.Checks.{StandsForTree, VolumeStands}
use Rattle.ds_check.specs.Findings.{AreLost, AreFoundOrLost, AreFoundIn, found_in}
use Rattle.ds_check.specs.Metadata.{metadata_stage}
use Rattle.ds_check.specs.Addresses.{addresses_stage}
use Rattle.ds_check.specs.Sharing.{sharing_stage}
use Rattle.ds_check.specs.Marking.{marking_stage}
use Rattle.ds_check.specs.Names.{naming_stage}
use Rattle.ds_check.specs.Rows.{first_found}
use Rattle.ds_check.specs.Volumes.{AreOfVolume}
use Rattle.ds_check.specs.declared.findings.Find.{Find}
use Rattle.ds_check.specs.declared.findings.Find.TheVariants.{Lost}
use Rattle.ds_check.proofs.CleanAddresses.{subs-listed, ptrs-listed, blocks-listed, tails-zero, subs-spelled}
use Rattle.ds_check.proofs.CleanItems.{items-marked}
use Rattle.ds_check.proofs.CleanMetadata.{bodies-spelled, maps-spelled, root-is}
use Rattle.ds_check.proofs.CleanNames.{entries-right, names-apart, names-owned}
use Rattle.ds_check.proofs.OneAnswer.{volume-once}
use Rattle.ds_check.proofs.RisingLists.{in-none}
use Rattle.ds_check.proofs.SpelledPointers.{pointer-there}

-- where the first stage that has findings has none, no stage has any
first-none : (stage : List Find) (stages : List (List Find)) → first_found (stage ∷ stages) ≡ [] → (stage ≡ []) × (first_found stages ≡ [])
first-none [] stages none = (refl, none)
first-none (find ∷ finds) stages none = absurd (cc)

record AreClean (g : Geom) (p : Parts) : Type 0 where
  metadata : metadata_stage g p ≡ []
  addresses : addresses_stage g p ≡ []
  sharing : sharing_stage g p ≡ []
  marking : marking_stage g p ≡ []
  naming : naming_stage g p ≡ []

all-clean : (g : Geom) (p : Parts) → found_in g p ≡ [] → AreClean g p
all-clean g p none =
    let one = first-none (metadata_stage g p) (addresses_stage g p ∷ sharing_stage g p ∷ marking_stage g p ∷ naming_stage g p ∷ []) none in
    let two = first-none (addresses_stage g p) (sharing_stage g p ∷ marking_stage g p ∷ naming_stage g p ∷ []) one.1 in
    let three = first-none (sharing_stage g p) (marking_stage g p ∷ naming_stage g p ∷ []) two.1 in
    let four = first-none (marking_stage g p) (naming_stage g p ∷ []) three.1 in
    record { metadata = one.0; addresses = two.0; sharing = three.0; marking = four.0; naming = (first-none (naming_stage g p) [] four.1).0 }

nothing-before : (p : Parts) (before : List Find) → AreFoundOrLost p before [] → (before ≡ []) × AreLost p []
nothing-before p [] lost = (refl, lost)
nothing-before p (first ∷ more) is = absurd (cc)

nothing-told : (objects : List ℕ) → [] ≡ map Lost objects → (o : ℕ) → Contains objects o → ⊥
nothing-told [] told o has = in-none o has
nothing-told (x ∷ xs) told o has = absurd (cc)

-- where no object is lost each is reached
nothing-lost : (p : Parts) → AreLost p [] → (o : ℕ) → is_used (part_at p.bodies o) ≡ true → Reached (tree_of p) o
nothing-lost p lost o used = elim (lost.rest o used) [
  | inl told ↦ absurd (nothing-told lost.objects lost.told o told)
  | inr reached ↦ reached
]

module _ (g : Geom) (image : List Sector) (p : Parts) (is : IsImage g image) (reads : ReadsParts g (slice_get image) p) (clean : AreClean g p) where
  pointers : (n : ℕ) → n < items_of g Pb → length (addresses_in (part_at p.ptrs n)) ≡ 128
  pointers n within = let there = pointer-there g image p is reads n within in ap (λ r. length (addresses_in r)) there.1 ∙ there.2

  ptrs-in : (o i n : ℕ) → slice_get (ptrs_of (part_at p.bodies o)) i ≡ Some n → n < items_of g Pb
  ptrs-in o i n at = ptrs-listed g (slice_get image) p reads clean.addresses pointers o i n at

  ptr-spelled : (n : ℕ) → n < items_of g Pb → IsSome (part_at p.ptrs n)
  ptr-spelled n within = let there = pointer-there g image p is reads n within in ap is_some there.1

  object-sound : (o : ℕ) → IsSoundObject p (part_at p.bodies o)
  object-sound o = record {
    subs = all-from_at (λ n. IsSome (part_at p.subs n)) (subs_of (part_at p.bodies o)) (subs-spelled g (slice_get image) p reads clean.addresses pointers o);
    ptrs = all-from_at (λ n. IsSome (part_at p.ptrs n)) (ptrs_of (part_at p.bodies o)) (λ i n at. ptr-spelled n (ptrs-in o i n at));
    names = names-apart g p reads.bodies.len clean.naming o;
    entries = all-from_at (IsNamedRight p) (rooms_used_by p o) (entries-right g p reads.bodies.len clean.naming o);
    tails = tails-zero g (slice_get image) p reads clean.addresses pointers o;
  }

  parts-sound : IsSound p
  parts-sound =
      let maps = maps-spelled g (slice_get image) p reads clean.metadata in
      sound-from p (bodies-spelled g (slice_get image) p reads clean.metadata) maps object-sound
      (items-marked g (slice_get image) p reads maps clean.sharing clean.marking
      (subs-listed g (slice_get image) p reads clean.addresses pointers) ptrs-in
      (blocks-listed g (slice_get image) p reads clean.addresses pointers))

  stands-clean : AreLost p [] → StandsFor g image (tree_of p)
  stands-clean lost =
      let rooted : IsRooted p = record {
        root = root-is g (slice_get image) p reads clean.metadata;
        named = names-owned g p reads.bodies.len clean.naming;
        reached = nothing-lost p lost;
      } in
      record { parts = p; whole = omega (arith, is.size); reads = reads; sound = parts-sound; tree = refl; is_tree = tree-from_rooted g (slice_get image) p reads parts-sound rooted }

pub stands-found : (g : Geom) (sectors image : List Sector) (p : Parts) (finds : List Find) → HasNoBad g sectors → IsLogical g sectors image → IsImage g image
    → ReadsParts g (slice_get image) p → AreFoundIn g p finds → finds ≡ [] → StandsForTree g sectors
stands-found g sectors image p finds good logical is reads found none =
    let nothing = nothing-before p (found_in g p) (subst (AreFoundIn g p) none found) in
    record { good = good; image = image; is_logical = logical; tree = tree_of p; stands = stands-clean g image p is reads (all-clean g p nothing.0) nothing.1 }

-- which is the tree of the volume that the sectors are
pub stands-once : (sectors : List Sector) (g : Geom) (id : List ℕ) → AreOfVolume sectors g id → StandsForTree g sectors → VolumeStands sectors
stands-once sectors g id volume stands h other is =
    subst (λ (k : Geom). StandsForTree k sectors) (volume-once sectors g h id other volume.spelled is.spelled).0 stands

-- so the one logical image that these sectors have is read as a tree
pub tree-read : (sectors : List Sector) (g : Geom) (id : List ℕ) (image : List Sector) → VolumeStands sectors → AreOfVolume sectors g id
    → ((other : List Sector) → IsLogical g sectors other → other ≡ image) → StandsForNone g image → ⊥
tree-read sectors g id image stands volume only none =
    let it = stands g id volume in
    none it.tree (subst (λ (s : List Sector). StandsFor g s it.tree) (only it.image it.is_logical) it.stands)
