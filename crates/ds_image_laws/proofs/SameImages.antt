-- Images with the same metadata stand for the same tree, and have the same guards.
use Rattle.std.proofs.Common.{◌≡◌, ℕ, ◌≤◌, List, length, slice_get, refl, sym, ap, ◌∙◌}
use Rattle.ds_base.specs.Geometry.{clusters_of, items_of}
use Rattle.ds_base.specs.declared.geometry.Geom.{Geom}
use Rattle.ds_base.specs.declared.geometry.Kind.TheVariants.{Fd, Sb, Pb}
use Rattle.ds_base.specs.declared.sectors.Sector.{Sector}
use Rattle.ds_tree.specs.Nodes.{FileTree}
use Rattle.ds_layout.specs.Places.{blocks_at, place_sector}
use Rattle.ds_layout.specs.declared.places.Place.TheVariants as places
use Rattle.ds_image.specs.Guards.{IsGuard}
use Rattle.ds_image_parts.specs.Logical.{IsLogical}
use Rattle.ds_image_parts.specs.Parts.{Parts, maps_of}
use Rattle.ds_image_parts.specs.Readings.{SpellsBody, SpellsBits, SpellsSub, SpellsPtr, ReadsParts}
use Rattle.ds_image.specs.Sound.{StandsFor}
use Rattle.ds_image_parts.proofs.Journaling.OneLogical.{logical_once}
use Rattle.ds_layout.proofs.MetadataPlaces.{body-metadata, map-metadata, sub-metadata, ptr-metadata}
use Rattle.ds_image_laws.specs.Shown.{SameMetadata, Shows}
use Rattle.ds_image.proofs.SameSectors.{reading-as, body-as, bits-as, sub-as, ptr-as}

module _ (g : Geom) (image other : List Sector) (same : SameMetadata g image other) where
  pub reads-same : (p : Parts) → ReadsParts g (slice_get image) p → ReadsParts g (slice_get other) p
  reads-same p reads = record {
    bodies = reading-as (items_of g Fd) (SpellsBody g (slice_get image)) (SpellsBody g (slice_get other)) p.bodies
        (λ o l. body-as g (slice_get image) (slice_get other) o (sym (same (place_sector g (places.Body o)) (body-metadata g o l))))
        (λ o l. body-as g (slice_get other) (slice_get image) o (same (place_sector g (places.Body o)) (body-metadata g o l))) reads.bodies;
    maps = λ kind. reading-as (clusters_of g kind) (SpellsBits g (slice_get image) kind) (SpellsBits g (slice_get other) kind) (maps_of p kind)
        (λ c l. bits-as g (slice_get image) (slice_get other) kind c (sym (same (place_sector g (places.Bitmap kind c)) (map-metadata g kind c l))))
        (λ c l. bits-as g (slice_get other) (slice_get image) kind c (same (place_sector g (places.Bitmap kind c)) (map-metadata g kind c l))) (reads.maps kind);
    subs = reading-as (items_of g Sb) (SpellsSub g (slice_get image)) (SpellsSub g (slice_get other)) p.subs
        (λ n l. sub-as g (slice_get image) (slice_get other) n (sym (same (place_sector g (places.SubBlock n)) (sub-metadata g n l))))
        (λ n l. sub-as g (slice_get other) (slice_get image) n (same (place_sector g (places.SubBlock n)) (sub-metadata g n l))) reads.subs;
    ptrs = reading-as (items_of g Pb) (SpellsPtr g (slice_get image)) (SpellsPtr g (slice_get other)) p.ptrs
        (λ n l. ptr-as g (slice_get image) (slice_get other) n (sym (same (place_sector g (places.PtrBlock n)) (ptr-metadata g n l))))
        (λ n l. ptr-as g (slice_get other) (slice_get image) n (same (place_sector g (places.PtrBlock n)) (ptr-metadata g n l))) reads.ptrs;
  }

  pub guard-same : (at object : ℕ) → IsGuard g (slice_get image) at object → IsGuard g (slice_get other) at object
  guard-same at object guard = record {
    parts = guard.parts;
    reads = reads-same guard.parts guard.reads;
    place = guard.place;
    is_place = guard.is_place;
    here = guard.here;
    guards = guard.guards;
  }

  pub stands-same : (t : FileTree) → blocks_at g ≤ length other → StandsFor g image t → StandsFor g other t
  stands-same t whole stands = record {
    parts = stands.parts;
    whole = whole;
    reads = reads-same stands.parts stands.reads;
    sound = stands.sound;
    tree = stands.tree;
    is_tree = stands.is_tree;
  }

-- the logical image of a store shows itself
pub shows-logical : (g : Geom) (sectors logical : List Sector) → IsLogical g sectors logical → Shows g sectors logical
shows-logical g sectors logical is = record { logical = logical; is_logical = is; same = λ at is_metadata. refl }

-- what an image that is shown stands for, the logical image stands for
pub logical-stands : (g : Geom) (sectors image logical : List Sector) (t : FileTree) → Shows g sectors image → IsLogical g sectors logical
    → blocks_at g ≤ length logical → StandsFor g image t → StandsFor g logical t
logical-stands g sectors image logical t shows is whole stands =
    let one : shows.logical ≡ logical = logical_once g sectors shows.logical logical shows.is_logical is in
    stands-same g image logical
    (λ at is_metadata. ap (λ (l : List Sector). slice_get l at) (sym one) ∙ sym (shows.same at is_metadata)) t whole stands
