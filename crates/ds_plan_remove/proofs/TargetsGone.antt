-- The sectors that are written to take an object away are metadata and stand in their order.
use Rattle.std.proofs.Common.{◌≡◌, ℕ, zero, suc, ◌+◌, ◌<◌, ◌≤◌, inl, inr, List, [], ◌∷◌, ◌++◌, length, map, Option, None, Some, refl, sym, ap, subst, ◌∙◌, arith, slice_get, length-append}
use Rattle.std.specs.Prelude.{slice_index, option_map}
use Rattle.std.specs.List.Sorted.{IsStrictlyIncreasing}
use Rattle.std.proofs.lemmas.List.{length-map}
use Rattle.std.proofs.lemmas.Option.{slice_get-map, slice_get-get_or, slice_get_within}
use Rattle.ds_base.specs.Geometry.{clusters_of, items_of}
use Rattle.ds_base.specs.declared.geometry.Geom.{Geom}
use Rattle.ds_base.specs.declared.geometry.Kind.{Kind}
use Rattle.ds_base.specs.declared.geometry.Kind.TheVariants.{Fd, Sb, Pb, Fb}
use Rattle.ds_base.specs.declared.sectors.Sector.{Sector}
use Rattle.ds_layout.proofs.MetadataPlaces.{body-metadata, map-metadata, sub-metadata}
use Rattle.ds_plan_laws_gone.specs.MapWrites.{MapWrite, map_pairs}
use Rattle.ds_plan_laws_gone.proofs.StandsGone.{gone-pairs}
use Rattle.ds_image.specs.Asking.{AreTargets, targets_of}
use Rattle.ds_layout.specs.Metadata.{IsMetadata}
use Rattle.ds_image_parts.specs.Pending.{Pair}
use Rattle.ds_image_tables.proofs.Spelling.Places.{at-append}
use Rattle.ds_image.proofs.Spelling.SoundParts.{all-from_at}
use Rattle.ds_layout.specs.Places.{place_sector}
use Rattle.ds_layout.specs.declared.places.Place.TheVariants as places

-- numbers of which each is below all that are behind it
rising-from : (xs : List ℕ) → ((i j x y : ℕ) → i < j → slice_get xs i ≡ Some x → slice_get xs j ≡ Some y → x < y) → IsStrictlyIncreasing xs
rising-from xs each k l =
    each k (k + 1) (slice_index xs k) (slice_index xs (k + 1)) (omega arith) (slice_get-get_or xs k 0 (omega (arith, l))) (slice_get-get_or xs (k + 1) 0 l)

abbrev pub write_at : Geom → MapWrite → ℕ
write_at g w = place_sector g (places.Bitmap w.kind w.cluster)

targets-are : (g : Geom) (writes : List MapWrite) (rest : List Pair) → targets_of (map_pairs g writes ++ rest) ≡ map (write_at g) writes ++ targets_of rest
targets-are g [] rest = refl
targets-are g (w ∷ writes) rest = ap (λ xs. write_at g w ∷ xs) (targets-are g writes rest)

-- a bitmap stands before each body
map-before_body : (g : Geom) (kind : Kind) (c o : ℕ) → c < clusters_of g kind → place_sector g (places.Bitmap kind c) < place_sector g (places.Body o)
map-before_body g Fd c o l = omega (arith, l)
map-before_body g Sb c o l = omega (arith, l)
map-before_body g Pb c o l = omega (arith, l)
map-before_body g Fb c o l = omega (arith, l)

module _ (g : Geom) (writes : List MapWrite) (few : length writes ≤ 24)
    (inside : (i : ℕ) (w : MapWrite) → slice_get writes i ≡ Some w → w.cluster < clusters_of g w.kind)
    (rising : (i j : ℕ) (w v : MapWrite) → i < j → slice_get writes i ≡ Some w → slice_get writes j ≡ Some v → write_at g w < write_at g v)
    (o n : ℕ) (object : o < items_of g Fd) (sub : n < items_of g Sb) (body_sector block_sector : Sector) where
  abbrev body_at : ℕ
  body_at = place_sector g (places.Body o)

  abbrev sub_at : ℕ
  sub_at = place_sector g (places.SubBlock n)

  abbrev targets : List ℕ
  targets = map (write_at g) writes ++ body_at ∷ sub_at ∷ []

  body-before_sub : body_at < sub_at
  body-before_sub = omega (arith, object)

  -- a target is that of a bitmap, or the body, or the sub-block
  data IsTarget (i x : ℕ) : Type 0 where
    of_map : (w : MapWrite) → slice_get writes i ≡ Some w → write_at g w ≡ x → IsTarget i x
    of_body : i ≡ length writes → body_at ≡ x → IsTarget i x
    of_sub : i ≡ length writes + 1 → sub_at ≡ x → IsTarget i x

  which : (i x : ℕ) → slice_get targets i ≡ Some x → IsTarget i x
  which i x at = elim (at-append (map (write_at g) writes) (body_at ∷ sub_at ∷ []) i x at) [
    | inl front ↦ mapped (slice_get writes i) refl (sym (slice_get-map (write_at g) writes i) ∙ front)
    | inr back ↦ last back.0 back.1 back.2
  ]
    where
      mapped : (r : Option MapWrite) → slice_get writes i ≡ r → option_map (write_at g) r ≡ Some x → IsTarget i x
      mapped None e is = absurd cc
      mapped (Some w) e is = of_map w e (let same : write_at g w ≡ x = cc in same)

      last : (j : ℕ) → i ≡ length (map (write_at g) writes) + j → slice_get (body_at ∷ sub_at ∷ []) j ≡ Some x → IsTarget i x
      last zero e at = of_body (omega (arith, e, length-map writes (write_at g))) (let same : body_at ≡ x = cc in same)
      last (suc zero) e at = of_sub (omega (arith, e, length-map writes (write_at g))) (let same : sub_at ≡ x = cc in same)
      last (suc (suc j)) e at = absurd cc

  below : (i j x y : ℕ) → i < j → IsTarget i x → IsTarget j y → x < y
  below i j x y l (of_map w at a) (of_map v at' b) = omega (arith, a, b, rising i j w v l at at')
  below i j x y l (of_map w at a) (of_body e b) = omega (arith, a, b, map-before_body g w.kind w.cluster o (inside i w at))
  below i j x y l (of_map w at a) (of_sub e b) = omega (arith, a, b, map-before_body g w.kind w.cluster o (inside i w at), body-before_sub)
  below i j x y l (of_body e a) (of_map v at' b) = absurd (omega (arith, l, e, slice_get_within writes j v at'))
  below i j x y l (of_body e a) (of_body e' b) = absurd (omega (arith, l, e, e'))
  below i j x y l (of_body e a) (of_sub e' b) = omega (arith, a, b, body-before_sub)
  below i j x y l (of_sub e a) (of_map v at' b) = absurd (omega (arith, l, e, slice_get_within writes j v at'))
  below i j x y l (of_sub e a) (of_body e' b) = absurd (omega (arith, l, e, e'))
  below i j x y l (of_sub e a) (of_sub e' b) = absurd (omega (arith, l, e, e'))

  is-metadata : (i x : ℕ) → IsTarget i x → IsMetadata g x
  is-metadata i x (of_map w at a) = subst (IsMetadata g) a (map-metadata g w.kind w.cluster (inside i w at))
  is-metadata i x (of_body e a) = subst (IsMetadata g) a (body-metadata g o object)
  is-metadata i x (of_sub e a) = subst (IsMetadata g) a (sub-metadata g n sub)

  pub gone-targets : AreTargets g (targets_of (gone-pairs g writes o n body_sector block_sector))
  gone-targets =
      subst (AreTargets g) (sym (targets-are g writes ((body_at, body_sector) ∷ (sub_at, block_sector) ∷ [])))
      (record {
        some = omega (arith, length-append (map (write_at g) writes) (body_at ∷ sub_at ∷ []));
        most = omega (arith, few, length-append (map (write_at g) writes) (body_at ∷ sub_at ∷ []), length-map writes (write_at g));
        rising = rising-from targets (λ i j x y l one two. below i j x y l (which i x one) (which j y two));
        metadata = all-from_at (IsMetadata g) targets (λ i x at. is-metadata i x (which i x at));
      })
