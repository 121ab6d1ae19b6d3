-- A lock object that nobody else holds protects after a change what it did before: what it lists is in a body of its own or is
-- marked in a bitmap of its own.
use Rattle.std.proofs.Common.{◌≡◌, ℕ, ◌/◌, ◌<◌, false, List, [], length, map, Option, Some, None, slice_get, refl, sym, ap, subst, ◌∙◌, inl, inr, arith}
use Rattle.std.proofs.lemmas.Bool.{cases_Bool, cases_lt, false≢true}
use Rattle.std.proofs.lemmas.List.{get_or-map, get_or_past, length-map}
use Rattle.std.proofs.lemmas.Nat.{div-mul-add}
use Rattle.std.proofs.lemmas.Option.{same_Some}
use Rattle.ds_base.specs.Geometry.{clusters_of, per_cluster, items_of}
use Rattle.ds_base.specs.declared.geometry.Geom.{Geom}
use Rattle.ds_base.specs.declared.geometry.Kind.{Kind}
use Rattle.ds_base.specs.declared.geometry.Kind.TheVariants.{Fd, Sb, Pb}
use Rattle.ds_base.specs.declared.sectors.Sector.{Sector}
use Rattle.ds_fd.specs.declared.body.Body.{Body}
use Rattle.ds_layout.specs.Places.{cluster_lock, place_sector}
use Rattle.ds_layout.specs.declared.places.Place.{Place}
use Rattle.ds_layout.specs.declared.places.Place.TheVariants as places
use Rattle.ds_tree.specs.Nodes.{FileTree}
use Rattle.ds_image.specs.Guards.{guard_of, lister_or, IsGuard}
use Rattle.ds_image_parts.specs.Looks.{Look}
use Rattle.ds_image_parts.specs.Objects.{subs_of, ptrs_of}
use Rattle.ds_image_tables.specs.Owns.{Owns, IsAt, list_of, bit}
use Rattle.ds_image_parts.specs.Parts.{Parts, part_at, maps_of, bits_in, used_bits}
use Rattle.ds_image_parts.specs.Readings.{SpellsBody, SpellsBits, ReadsParts}
use Rattle.ds_image.specs.Sound.{IsSound, StandsFor}
use Rattle.ds_image_parts.proofs.Spelling.Decoded.{decoded_same, decoded_as}
use Rattle.ds_image_parts.proofs.Spelling.Readings.{parts_same}
use Rattle.ds_image.proofs.SectorGuards.{lister-listed, lister-unlisted, guard-body, guard-map}
use Rattle.ds_image.proofs.MarksByCluster.{each-item}
use Rattle.ds_image.proofs.SameSectors.{body-as, bits-as}
use Rattle.ds_image_laws.proofs.Apart.{AgreeOutside}

module _ (g : Geom) (look look' : Look) (p p' : Parts) (reads : ReadsParts g look p) (reads' : ReadsParts g look' p') (sound : IsSound p) (sound' : IsSound p')
    (Others : ℕ → Type 0) (same : (at object : ℕ) → IsGuard g look at object → ¬ Others object → look' at ≡ look at) where
  -- the bodies and the bitmaps of objects that nobody else holds
  pub body-same : (o : ℕ) → o < items_of g Fd → ¬ Others o → part_at p'.bodies o ≡ part_at p.bodies o
  body-same o within free =
      let stays : look' (place_sector g (places.Body o)) ≡ look (place_sector g (places.Body o)) =
      same (place_sector g (places.Body o)) o (guard-body g look p reads o within) free in
      decoded_same (part_at p'.bodies o) (part_at p.bodies o) (SpellsBody g look' o) (reads'.bodies.each o within)
      (decoded_as (part_at p.bodies o) (SpellsBody g look o) (SpellsBody g look' o) (body-as g look look' o (sym stays)) (body-as g look' look o stays) (reads.bodies.each o within))

  map-same : (kind : Kind) (c : ℕ) → c < clusters_of g kind → ¬ Others (cluster_lock kind c) → part_at (maps_of p' kind) c ≡ part_at (maps_of p kind) c
  map-same kind c within free =
      let stays : look' (place_sector g (places.Bitmap kind c)) ≡ look (place_sector g (places.Bitmap kind c)) =
      same (place_sector g (places.Bitmap kind c)) (cluster_lock kind c) (guard-map g look p reads kind c within) free in
      decoded_same (part_at (maps_of p' kind) c) (part_at (maps_of p kind) c) (SpellsBits g look' kind c) ((reads'.maps kind).each c within)
      (decoded_as (part_at (maps_of p kind) c) (SpellsBits g look kind c) (SpellsBits g look' kind c) (bits-as g look look' kind c (sym stays)) (bits-as g look' look kind c stays) ((reads.maps kind).each c within))

  -- what such a descriptor lists
  list-same : (f : Option Body → List ℕ) (o : ℕ) → o < items_of g Fd → ¬ Others o → list_of (map f p'.bodies) o ≡ list_of (map f p.bodies) o
  list-same f o within free =
      get_or-map f p'.bodies o None [] (omega (arith, within, reads'.bodies.len))
      ∙ ap f (body-same o within free)
      ∙ sym (get_or-map f p.bodies o None [] (omega (arith, within, reads.bodies.len)))

  -- whether an item of such a cluster is marked
  bit-same : (kind : Kind) (n : ℕ) → ¬ Others (cluster_lock kind (n / per_cluster g kind)) → bit (bits_in (maps_of p' kind)) n ≡ bit (bits_in (maps_of p kind)) n
  bit-same kind n free =
      each-item g look look' kind (maps_of p kind) (maps_of p' kind) (reads.maps kind) (sound.maps kind) (reads'.maps kind) (sound'.maps kind)
      (λ x was is. x ≡ n → is ≡ was)
      (λ c it cluster small here.
      let number : n / per_cluster g kind ≡ c = ap (λ k. k / per_cluster g kind) (sym here) ∙ div-mul-add c (per_cluster g kind) it small in
      ap (λ m. bit (used_bits m) it) (map-same kind c cluster (subst (λ k. ¬ Others (cluster_lock kind k)) number free)))
      (λ x past here. refl) n refl

  -- so an item has the guard that it had
  item-kept : (f : Option Body → List ℕ) (kind : Kind) (n object : ℕ) → Owns (map f p.bodies) (bits_in (maps_of p kind))
      → Owns (map f p'.bodies) (bits_in (maps_of p' kind)) → ¬ Others object
      → lister_or (map f p.bodies) n (cluster_lock kind (n / per_cluster g kind)) ≡ object
      → lister_or (map f p'.bodies) n (cluster_lock kind (n / per_cluster g kind)) ≡ object
  item-kept f kind n object owns owns' free was =
      let lists : List (List ℕ) = map f p.bodies in
      let lists' : List (List ℕ) = map f p'.bodies in
      let cluster : ℕ = cluster_lock kind (n / per_cluster g kind) in
      elim (cases_Bool (bit (bits_in (maps_of p kind)) n)) [
        | inl marked ↦
            let at = owns.listed n marked in
            let owner : at.0 ≡ object = sym (lister-listed lists (bits_in (maps_of p kind)) at.0 at.1.0 n cluster owns at.1.1) ∙ was in
            let within : at.0 < items_of g Fd = elim (cases_lt at.0 (length lists)) [
              | inl below ↦ omega (arith, below, length-map p.bodies f, reads.bodies.len)
              | inr past ↦ absurd (let nothing : slice_get [] at.1.0 ≡ Some n = subst (λ l. slice_get l at.1.0 ≡ Some n) (get_or_past lists at.0 [] past) at.1.1 in cc)
            ] in
            let free' : ¬ Others at.0 = subst (λ k. ¬ Others k) (sym owner) free in
            let at' : IsAt lists' at.0 at.1.0 n = subst (λ l. slice_get l at.1.0 ≡ Some n) (sym (list-same f at.0 within free')) at.1.1 in
            lister-listed lists' (bits_in (maps_of p' kind)) at.0 at.1.0 n cluster owns' at' ∙ owner
        | inr clear ↦
            let none : (k i : ℕ) → ¬ IsAt lists k i n = λ k i at. false≢true (sym clear ∙ owns.marked k i n at) in
            let here : cluster ≡ object = sym (lister-unlisted lists n cluster none) ∙ was in
            let clear' : bit (bits_in (maps_of p' kind)) n ≡ false = bit-same kind n (subst (λ k. ¬ Others k) (sym here) free) ∙ clear in
            let none' : (k i : ℕ) → ¬ IsAt lists' k i n = λ k i at. false≢true (sym clear' ∙ owns'.marked k i n at) in
            lister-unlisted lists' n cluster none' ∙ here
      ]

  place-kept : (place : Place) (object : ℕ) → ¬ Others object → guard_of g p place ≡ Some object → guard_of g p' place ≡ Some object
  place-kept places.VolInfo object free is = is
  place-kept places.FsInfo object free is = is
  place-kept (places.Slot slot) object free is = is
  place-kept (places.Journal slot index) object free is = is
  place-kept (places.Header n) object free is = is
  place-kept (places.Bitmap kind cluster) object free is = is
  place-kept (places.Body n) object free is = is
  place-kept (places.SubBlock n) object free is =
      ap Some (item-kept subs_of Sb n object sound.sub_owners sound'.sub_owners free (same_Some _ object is))
  place-kept (places.PtrBlock n) object free is =
      ap Some (item-kept ptrs_of Pb n object sound.ptr_owners sound'.ptr_owners free (same_Some _ object is))
  place-kept (places.Block block index) object free is = is

  guard-kept_by : (at object : ℕ) → ¬ Others object → IsGuard g look at object → IsGuard g look' at object
  guard-kept_by at object free guard = record {
    parts = p';
    reads = reads';
    place = guard.place;
    is_place = guard.is_place;
    here = guard.here;
    guards = place-kept guard.place object free
        (subst (λ (q : Parts). guard_of g q guard.place ≡ Some object) (parts_same g look guard.parts p guard.reads reads) guard.guards);
  }

-- where both images stand for trees, and differ only in what others protect in the first, an object of nobody else protects in
-- the second what it does in the first
pub guard-kept : (g : Geom) (image after : List Sector) {t u : FileTree} (Others : ℕ → Type 0) (at object : ℕ) → StandsFor g image t → StandsFor g after u
    → AgreeOutside g Others image after → ¬ Others object → IsGuard g (slice_get image) at object → IsGuard g (slice_get after) at object
guard-kept g image after Others at object before later same free guard =
    guard-kept_by g (slice_get image) (slice_get after) before.parts later.parts before.reads later.reads before.sound later.sound Others same at object free guard
