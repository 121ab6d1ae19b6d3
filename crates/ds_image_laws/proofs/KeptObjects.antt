-- An object whose lock nobody else holds is in the tree after a change what it was before: its body stays, and so do the sub-blocks and
-- the pointer blocks that it lists.
use Rattle.std.proofs.Common.{◌≡◌, ℕ, suc, ◌*◌, ◌<◌, nat_le, if◌then◌else◌, List, [], ◌∷◌, ◌++◌, map, take, Option, Some, None, slice_get, refl, sym, ap, subst, ◌∙◌, inl, inr, arith}
use Rattle.std.specs.List.{flat_map, filter_map}
use Rattle.std.specs.FinMap as finite
use Rattle.std.proofs.lemmas.Bool.{cases_lt}
use Rattle.std.proofs.lemmas.List.{get_or_past}
use Rattle.ds_base.specs.Geometry.{items_of}
use Rattle.ds_base.specs.declared.geometry.Geom.{Geom}
use Rattle.ds_base.specs.declared.geometry.Kind.TheVariants.{Fd, Sb, Pb}
use Rattle.ds_base.specs.declared.names.NodeKind.{NodeKind}
use Rattle.ds_base.specs.declared.names.NodeKind.TheVariants as kinds
use Rattle.ds_base.specs.declared.sectors.Sector.{Sector}
use Rattle.ds_dir.specs.declared.sub_block.Entry.{Entry}
use Rattle.ds_fd.specs.declared.body.Body.{Body}
use Rattle.ds_layout.specs.Places.{place_sector}
use Rattle.ds_layout.specs.declared.places.Place.TheVariants as places
use Rattle.ds_tree.specs.Nodes.{FileTree, Node, Dir, File, object_at}
use Rattle.ds_image.specs.Guards.{IsGuard}
use Rattle.ds_image_parts.specs.Looks.{Look}
use Rattle.ds_image_parts.specs.Objects.{subs_by, ptrs_by, addresses_in, rooms_in, rooms_of, node_by, object_of, tree_of, subs_of, ptrs_of}
use Rattle.ds_image_tables.specs.Owns.{IsAt}
use Rattle.ds_image_parts.specs.Parts.{Parts, part_at}
use Rattle.ds_image_parts.specs.Readings.{SpellsSub, SpellsPtr, ReadsParts}
use Rattle.ds_image.specs.Sound.{IsSound, StandsFor, sub_lists, ptr_lists}
use Rattle.ds_image_parts.proofs.Spelling.Decoded.{decoded_same, decoded_as}
use Rattle.ds_image.proofs.Ownership.Listed.{sub_listed_within, ptr_listed_within}
use Rattle.ds_image.proofs.Spelling.SoundParts.{list-is}
use Rattle.ds_image.proofs.FileTrees.TreeParts.{object-is}
use Rattle.ds_image.proofs.SectorGuards.{guard-sub_listed, guard-ptr_listed}
use Rattle.ds_image_laws.proofs.KeptGuards.{body-same}
use Rattle.ds_image.proofs.SameSectors.{sub-as, ptr-as}
use Rattle.ds_image_laws.proofs.Apart.{AgreeOutside}

flat_map-same : {X A : Type 0} (f h : X → List A) (xs : List X) → ((i : ℕ) (x : X) → slice_get xs i ≡ Some x → f x ≡ h x) → flat_map f xs ≡ flat_map h xs
flat_map-same f h [] same = refl
flat_map-same f h (x ∷ xs) same =
    ap (λ ys. ys ++ flat_map f xs) (same 0 x refl) ∙ ap (λ ys. h x ++ ys) (flat_map-same f h xs (λ i y at. same (suc i) y at))

-- a node is determined by the parts that its body lists
module _ (p q : Parts) where
  abbrev SameSubs : List ℕ → Type 0
  SameSubs subs = (i n : ℕ) → slice_get subs i ≡ Some n → part_at q.subs n ≡ part_at p.subs n

  abbrev SamePtrs : List ℕ → Type 0
  SamePtrs ptrs = (i n : ℕ) → slice_get ptrs i ≡ Some n → part_at q.ptrs n ≡ part_at p.ptrs n

  rooms-same : (subs : List ℕ) → SameSubs subs → rooms_of q subs ≡ rooms_of p subs
  rooms-same subs same = flat_map-same (λ n. rooms_in (part_at q.subs n)) (λ n. rooms_in (part_at p.subs n)) subs (λ i n at. ap rooms_in (same i n at))

  node-same : (b : Body) (kind : Option NodeKind) → SameSubs (subs_by b kind) → SamePtrs (ptrs_by b kind) → node_by q b kind ≡ node_by p b kind
  node-same b None subs ptrs = refl
  node-same b (Some kinds.Dir) subs ptrs =
      ap (λ rooms. Some (Dir (finite.from_entries (map (λ (e : Entry). (e.name, e.key.object)) (filter_map (λ room. room) rooms))) (4 * b.count)))
      (rooms-same (subs_by b (Some kinds.Dir)) subs)
  node-same b (Some kinds.File) subs ptrs =
      ap (λ pointed. Some (File (take b.count (if nat_le b.count 96 then b.addresses else pointed))))
      (flat_map-same (λ n. addresses_in (part_at q.ptrs n)) (λ n. addresses_in (part_at p.ptrs n)) (ptrs_by b (Some kinds.File)) (λ i n at. ap addresses_in (ptrs i n at)))

  object-same : (body : Option Body) → SameSubs (subs_of body) → SamePtrs (ptrs_of body) → object_of q body ≡ object_of p body
  object-same None subs ptrs = refl
  object-same (Some b) subs ptrs = ap (λ (node : Option Node). record { birth = b.birth; node = node }) (node-same b b.kind subs ptrs)

module _ (g : Geom) (look look' : Look) (p p' : Parts) (reads : ReadsParts g look p) (reads' : ReadsParts g look' p') (sound : IsSound p) (sound' : IsSound p')
    (Others : ℕ → Type 0) (same : (at object : ℕ) → IsGuard g look at object → ¬ Others object → look' at ≡ look at) (object : ℕ) (free : ¬ Others object) where
  sub-same : (i n : ℕ) → IsAt (sub_lists p) object i n → part_at p'.subs n ≡ part_at p.subs n
  sub-same i n at =
      let within : n < items_of g Sb = sub_listed_within g look p object i n reads sound at in
      let stays : look' (place_sector g (places.SubBlock n)) ≡ look (place_sector g (places.SubBlock n)) =
      same (place_sector g (places.SubBlock n)) object (guard-sub_listed g look p reads object i n within sound.sub_owners at) free in
      decoded_same (part_at p'.subs n) (part_at p.subs n) (SpellsSub g look' n) (reads'.subs.each n within)
      (decoded_as (part_at p.subs n) (SpellsSub g look n) (SpellsSub g look' n) (sub-as g look look' n (sym stays)) (sub-as g look' look n stays) (reads.subs.each n within))

  ptr-same : (i n : ℕ) → IsAt (ptr_lists p) object i n → part_at p'.ptrs n ≡ part_at p.ptrs n
  ptr-same i n at =
      let within : n < items_of g Pb = ptr_listed_within g look p object i n reads sound at in
      let stays : look' (place_sector g (places.PtrBlock n)) ≡ look (place_sector g (places.PtrBlock n)) =
      same (place_sector g (places.PtrBlock n)) object (guard-ptr_listed g look p reads object i n within sound.ptr_owners at) free in
      decoded_same (part_at p'.ptrs n) (part_at p.ptrs n) (SpellsPtr g look' n) (reads'.ptrs.each n within)
      (decoded_as (part_at p.ptrs n) (SpellsPtr g look n) (SpellsPtr g look' n) (ptr-as g look look' n (sym stays)) (ptr-as g look' look n stays) (reads.ptrs.each n within))

  object-kept_by : object_at (tree_of p') object ≡ object_at (tree_of p) object
  object-kept_by =
      let body : Option Body = part_at p.bodies object in
      let stays : part_at p'.bodies object ≡ body = elim (cases_lt object (items_of g Fd)) [
        | inl within ↦ body-same g look look' p p' reads reads' sound sound' Others same object within free
        | inr past ↦ get_or_past p'.bodies object None (omega (arith, past, reads'.bodies.len)) ∙ sym (get_or_past p.bodies object None (omega (arith, past, reads.bodies.len)))
      ] in
      object-is p' object
      ∙ ap (object_of p') stays
      ∙ object-same p p' body
      (λ i n at. sub-same i n (subst (λ l. slice_get l i ≡ Some n) (sym (list-is subs_of p.bodies refl object)) at))
      (λ i n at. ptr-same i n (subst (λ l. slice_get l i ≡ Some n) (sym (list-is ptrs_of p.bodies refl object)) at))
      ∙ sym (object-is p object)

-- so a change under lock objects of others leaves every other object as it was
pub object-kept : (g : Geom) (image after : List Sector) (t u : FileTree) (Others : ℕ → Type 0) (object : ℕ) → StandsFor g image t → StandsFor g after u
    → AgreeOutside g Others image after → ¬ Others object → object_at u object ≡ object_at t object
object-kept g image after t u Others object before later same free =
    ap (λ (x : FileTree). object_at x object) later.tree
    ∙ object-kept_by g (slice_get image) (slice_get after) before.parts later.parts before.reads later.reads before.sound later.sound Others same object free
    ∙ sym (ap (λ (x : FileTree). object_at x object) before.tree)
