-- The sectors that are written to rename an entry are metadata and stand in their order.
use Rattle.std.proofs.Common.{ℕ, ◌<◌, Bool, true, false, [], ◌∷◌, arith}
use Rattle.std.proofs.lemmas.List.Elements.{All-nil, All-cons}
use Rattle.ds_base.specs.Geometry.{clusters_of, items_of}
use Rattle.ds_base.specs.declared.geometry.Geom.{Geom}
use Rattle.ds_base.specs.declared.geometry.Kind.TheVariants.{Fd, Sb}
use Rattle.ds_base.specs.declared.sectors.Sector.{Sector}
use Rattle.ds_layout.proofs.MetadataPlaces.{body-metadata, map-metadata, sub-metadata}
use Rattle.ds_plan_laws_new.proofs.Targets.{rising-one, rising-cons}
use Rattle.ds_plan_laws_new.specs.Redos.{AreInOrder}
use Rattle.ds_plan_laws_gone.proofs.StandsCrossed.{crossed-pairs}
use Rattle.ds_plan_laws_gone.proofs.StandsCrossedGrown.{crossed_grown-pairs}
use Rattle.ds_image.specs.Asking.{AreTargets, targets_of}
use Rattle.ds_layout.specs.Metadata.{IsMetadata}
use Rattle.ds_layout.specs.Places.{place_sector}
use Rattle.ds_layout.specs.declared.places.Place.TheVariants as places

module _ (g : Geom) (n : ℕ) (inside : n < items_of g Sb) where
  abbrev a : ℕ
  a = place_sector g (places.SubBlock n)

  pub kept-targets : AreTargets g (place_sector g (places.SubBlock n) ∷ [])
  kept-targets = record {
    some = omega arith;
    most = omega arith;
    rising = rising-one a;
    metadata = All-cons (IsMetadata g) a [] (sub-metadata g n inside) (All-nil (IsMetadata g));
  }

module _ (g : Geom) where
  two : (x y : ℕ) → x < items_of g Sb → y < items_of g Sb → x < y → AreTargets g (place_sector g (places.SubBlock x) ∷ place_sector g (places.SubBlock y) ∷ [])
  two x y x_within y_within below =
      let Is = IsMetadata g in
      let a : ℕ = place_sector g (places.SubBlock x) in
      let b : ℕ = place_sector g (places.SubBlock y) in
      record {
        some = omega arith;
        most = omega arith;
        rising = rising-cons a b [] (omega (arith, below)) (rising-one b);
        metadata = All-cons Is a (b ∷ []) (sub-metadata g x x_within) (All-cons Is b [] (sub-metadata g y y_within) (All-nil Is));
      }

  four : (c r x y : ℕ) → c < clusters_of g Sb → r < items_of g Fd → x < items_of g Sb → y < items_of g Sb → x < y
      → AreTargets g (place_sector g (places.Bitmap Sb c) ∷ place_sector g (places.Body r) ∷ place_sector g (places.SubBlock x) ∷ place_sector g (places.SubBlock y) ∷ [])
  four c r x y cluster body x_within y_within below =
      let Is = IsMetadata g in
      let m : ℕ = place_sector g (places.Bitmap Sb c) in
      let d : ℕ = place_sector g (places.Body r) in
      let a : ℕ = place_sector g (places.SubBlock x) in
      let b : ℕ = place_sector g (places.SubBlock y) in
      record {
        some = omega arith;
        most = omega arith;
        rising =
            rising-cons m d (a ∷ b ∷ []) (omega (arith, cluster))
            (rising-cons d a (b ∷ []) (omega (arith, body)) (rising-cons a b [] (omega (arith, below)) (rising-one b)));
        metadata =
            All-cons Is m (d ∷ a ∷ b ∷ []) (map-metadata g Sb c cluster) (All-cons Is d (a ∷ b ∷ []) (body-metadata g r body)
            (All-cons Is a (b ∷ []) (sub-metadata g x x_within) (All-cons Is b [] (sub-metadata g y y_within) (All-nil Is))));
      }

  module _ (n m : ℕ) (inside : n < items_of g Sb) (other : m < items_of g Sb) where
    pub crossed-targets : (swapped : Bool) → AreInOrder swapped n m → (from_sector to_sector : Sector)
        → AreTargets g (targets_of (crossed-pairs g swapped n m from_sector to_sector))
    crossed-targets false ordered from_sector to_sector = two n m inside other ordered
    crossed-targets true ordered from_sector to_sector = two m n other inside ordered

    pub grown-targets : (c r : ℕ) → c < clusters_of g Sb → r < items_of g Fd → (swapped : Bool) → AreInOrder swapped n m
        → (map_sector body_sector from_sector to_sector : Sector)
        → AreTargets g (targets_of (crossed_grown-pairs g swapped c r n m map_sector body_sector from_sector to_sector))
    grown-targets c r cluster body false ordered map_sector body_sector from_sector to_sector = four c r n m cluster body inside other ordered
    grown-targets c r cluster body true ordered map_sector body_sector from_sector to_sector = four c r m n cluster body other inside ordered
