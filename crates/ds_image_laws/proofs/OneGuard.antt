-- A sector has at most one guard, and only metadata have one.
use Rattle.std.proofs.Common.{◌≡◌, ℕ, true, Some, refl, sym, subst, ◌∙◌}
use Rattle.std.proofs.lemmas.Option.{same_Some}
use Rattle.ds_base.specs.Geometry.{IsGeom}
use Rattle.ds_base.specs.declared.geometry.Geom.{Geom}
use Rattle.ds_layout.proofs.SamePlace.{same_place}
use Rattle.ds_layout.specs.Places.{IsPlace, place_sector}
use Rattle.ds_layout.specs.declared.places.Place.{Place}
use Rattle.ds_layout.specs.declared.places.Place.TheVariants as places
use Rattle.ds_image.specs.Guards.{guard_of, IsGuard}
use Rattle.ds_image_parts.specs.Looks.{Look}
use Rattle.ds_layout.specs.Metadata.{IsMetadata, is_metadata}
use Rattle.ds_image_parts.specs.Parts.{Parts}
use Rattle.ds_image_parts.specs.Readings.{ReadsParts}
use Rattle.ds_image_parts.proofs.Spelling.Readings.{parts_same}

-- the guard of a place's sector, by the parts that are known
pub guard-by_place : (g : Geom) (look : Look) (p : Parts) (place : Place) (object : ℕ) → IsGeom g → ReadsParts g look p → IsPlace g place
    → IsGuard g look (place_sector g place) object → guard_of g p place ≡ Some object
guard-by_place g look p place object is reads inside guard =
    let parts : guard.parts ≡ p = parts_same g look guard.parts p guard.reads reads in
    let same : guard.place ≡ place = same_place g guard.place place is guard.is_place inside guard.here in
    subst (λ (q : Parts). guard_of g q place ≡ Some object) parts (subst (λ (q : Place). guard_of g guard.parts q ≡ Some object) same guard.guards)

pub guard-once : (g : Geom) (look : Look) (at a b : ℕ) → IsGeom g → IsGuard g look at a → IsGuard g look at b → a ≡ b
guard-once g look at a b is one two =
    let again : guard_of g one.parts one.place ≡ Some b =
    guard-by_place g look one.parts one.place b is one.reads one.is_place (subst (λ n. IsGuard g look n b) (sym one.here) two) in
    same_Some a b (sym one.guards ∙ again)

guarded-place : (g : Geom) (p : Parts) (place : Place) (object : ℕ) → guard_of g p place ≡ Some object → is_metadata place ≡ true
guarded-place g p places.VolInfo object is = absurd (cc)
guarded-place g p places.FsInfo object is = absurd (cc)
guarded-place g p (places.Slot slot) object is = absurd (cc)
guarded-place g p (places.Journal slot index) object is = absurd (cc)
guarded-place g p (places.Header n) object is = absurd (cc)
guarded-place g p (places.Bitmap kind cluster) object is = refl
guarded-place g p (places.Body n) object is = refl
guarded-place g p (places.SubBlock n) object is = refl
guarded-place g p (places.PtrBlock n) object is = refl
guarded-place g p (places.Block block index) object is = absurd (cc)

pub guard-of_metadata : (g : Geom) (look : Look) (at object : ℕ) → IsGuard g look at object → IsMetadata g at
guard-of_metadata g look at object guard = record {
  place = guard.place;
  is_place = guard.is_place;
  here = guard.here;
  kept = guarded-place g guard.parts guard.place object guard.guards;
}
