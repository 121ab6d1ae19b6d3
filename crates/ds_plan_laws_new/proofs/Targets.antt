-- The sectors that are written to make an object, or to rename an entry, are metadata and stand in their order.
use Rattle.std.proofs.Common.{◌≡◌, ℕ, zero, suc, ◌+◌, ◌<◌, Bool, true, false, List, [], ◌∷◌, refl, sym, subst, arith}
use Rattle.std.specs.Prelude.{slice_index}
use Rattle.std.specs.List.Sorted.{IsStrictlyIncreasing}
use Rattle.std.proofs.lemmas.List.Elements.{All-nil, All-cons}
use Rattle.ds_base.specs.Geometry.{clusters_of, items_of}
use Rattle.ds_base.specs.declared.geometry.Geom.{Geom}
use Rattle.ds_base.specs.declared.geometry.Kind.{Kind}
use Rattle.ds_base.specs.declared.geometry.Kind.TheVariants.{Fd, Sb}
use Rattle.ds_base.specs.declared.sectors.Sector.{Sector}
use Rattle.ds_layout.proofs.MetadataPlaces.{body-metadata, map-metadata, sub-metadata}
use Rattle.ds_layout.specs.Places.{place_sector}
use Rattle.ds_layout.specs.declared.places.Place.TheVariants as places
use Rattle.ds_image.specs.Asking.{AreTargets, targets_of}
use Rattle.ds_plan_laws_new.specs.Redos.{filled_pairs, grown_pairs, AreInOrder}
use Rattle.ds_layout.specs.Metadata.{IsMetadata}

-- Numbers that rise

pub rising-one : (x : ℕ) → IsStrictlyIncreasing (x ∷ [])
rising-one x k l = absurd (omega (arith, l))

pub rising-cons : (x y : ℕ) (xs : List ℕ) → x < y → IsStrictlyIncreasing (y ∷ xs) → IsStrictlyIncreasing (x ∷ y ∷ xs)
rising-cons x y xs below rest zero l = below
rising-cons x y xs below rest (suc k) l =
    let next : suc k + 1 ≡ suc (k + 1) = omega arith in
    subst (λ j. slice_index (y ∷ xs) k < slice_index (x ∷ y ∷ xs) j) (sym next) (rest k (omega (arith, l)))

-- Sectors in their order

module _ (g : Geom) where
  -- bitmaps of descriptors stand before those of sub-blocks, and bitmaps before bodies, and bodies before sub-blocks
  map-before_map : (c c' : ℕ) → c < clusters_of g Fd → place_sector g (places.Bitmap Fd c) < place_sector g (places.Bitmap Sb c')
  map-before_map c c' within = omega (arith, within)

  fd_map-before_body : (c o : ℕ) → c < clusters_of g Fd → place_sector g (places.Bitmap Fd c) < place_sector g (places.Body o)
  fd_map-before_body c o within = omega (arith, within)

  sb_map-before_body : (c o : ℕ) → c < clusters_of g Sb → place_sector g (places.Bitmap Sb c) < place_sector g (places.Body o)
  sb_map-before_body c o within = omega (arith, within)

  body-before_body : (o o' : ℕ) → o < o' → place_sector g (places.Body o) < place_sector g (places.Body o')
  body-before_body o o' below = omega (arith, below)

  body-before_sub : (o n : ℕ) → o < items_of g Fd → place_sector g (places.Body o) < place_sector g (places.SubBlock n)
  body-before_sub o n within = omega (arith, within)

  module _ (c o n : ℕ) (cluster : c < clusters_of g Fd) (object : o < items_of g Fd) (sub : n < items_of g Sb) where
    pub filled-targets : (map_sector new_sector block_sector : Sector) → AreTargets g (targets_of (filled_pairs g c o n map_sector new_sector block_sector))
    filled-targets map_sector new_sector block_sector =
        let a : ℕ = place_sector g (places.Bitmap Fd c) in
        let b : ℕ = place_sector g (places.Body o) in
        let s : ℕ = place_sector g (places.SubBlock n) in
        record {
          some = omega arith;
          most = omega arith;
          rising = rising-cons a b (s ∷ []) (fd_map-before_body c o cluster) (rising-cons b s [] (body-before_sub o n object) (rising-one s));
          metadata = All-cons (IsMetadata g) a (b ∷ s ∷ []) (map-metadata g Fd c cluster) (All-cons (IsMetadata g) b (s ∷ []) (body-metadata g o object)
              (All-cons (IsMetadata g) s [] (sub-metadata g n sub) (All-nil (IsMetadata g))));
        }

    module _ (c' d : ℕ) (sub_cluster : c' < clusters_of g Sb) (directory : d < items_of g Fd) (map_sector sub_map_sector dir_sector new_sector block_sector : Sector) where
      five : (x y : ℕ) → x < items_of g Fd → y < items_of g Fd → x < y
          → AreTargets g (place_sector g (places.Bitmap Fd c) ∷ place_sector g (places.Bitmap Sb c') ∷ place_sector g (places.Body x) ∷ place_sector g (places.Body y) ∷ place_sector g (places.SubBlock n) ∷ [])
      five x y x_within y_within below =
          let a : ℕ = place_sector g (places.Bitmap Fd c) in
          let b : ℕ = place_sector g (places.Bitmap Sb c') in
          let f : ℕ = place_sector g (places.Body x) in
          let h : ℕ = place_sector g (places.Body y) in
          let s : ℕ = place_sector g (places.SubBlock n) in
          let Is = IsMetadata g in
          record {
            some = omega arith;
            most = omega arith;
            rising =
                rising-cons a b (f ∷ h ∷ s ∷ []) (map-before_map c c' cluster)
                (rising-cons b f (h ∷ s ∷ []) (sb_map-before_body c' x sub_cluster)
                (rising-cons f h (s ∷ []) (body-before_body x y below) (rising-cons h s [] (body-before_sub y n y_within) (rising-one s))));
            metadata =
                All-cons Is a (b ∷ f ∷ h ∷ s ∷ []) (map-metadata g Fd c cluster) (All-cons Is b (f ∷ h ∷ s ∷ []) (map-metadata g Sb c' sub_cluster)
                (All-cons Is f (h ∷ s ∷ []) (body-metadata g x x_within) (All-cons Is h (s ∷ []) (body-metadata g y y_within)
                (All-cons Is s [] (sub-metadata g n sub) (All-nil Is)))));
          }

      pub grown-targets : (swapped : Bool) → AreInOrder swapped d o
          → AreTargets g (targets_of (grown_pairs g swapped c c' d o n map_sector sub_map_sector dir_sector new_sector block_sector))
      grown-targets false ordered = five d o directory object ordered
      grown-targets true ordered = five o d object directory ordered
