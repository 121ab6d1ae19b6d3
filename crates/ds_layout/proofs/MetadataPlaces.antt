-- Which sectors are metadata, and that they stand in front of the file blocks.
use Rattle.std.proofs.Common.{◌≡◌, ℕ, ◌+◌, ◌<◌, true, refl, subst, arith}
use Rattle.std.proofs.lemmas.Bool.{false≢true}
use Rattle.ds_base.specs.Geometry.{clusters_of, items_of}
use Rattle.ds_base.specs.declared.geometry.Geom.{Geom}
use Rattle.ds_base.specs.declared.geometry.Kind.{Kind}
use Rattle.ds_base.specs.declared.geometry.Kind.TheVariants.{Fd, Sb, Pb, Fb}
use Rattle.ds_layout.specs.Metadata.{IsMetadata, is_metadata}
use Rattle.ds_layout.specs.Places.{cluster_at, blocks_at, IsPlace, place_sector}
use Rattle.ds_layout.specs.declared.places.Place.{Place}
use Rattle.ds_layout.specs.declared.places.Place.TheVariants as places

bitmap_within : (g : Geom) (kind : Kind) (cluster : ℕ) → cluster < clusters_of g kind → cluster_at g kind cluster + 1 < blocks_at g
bitmap_within g Fd cluster h = omega arith
bitmap_within g Sb cluster h = omega arith
bitmap_within g Pb cluster h = omega arith
bitmap_within g Fb cluster h = omega arith

pub metadata_within : (g : Geom) (place : Place) → IsPlace g place → is_metadata place ≡ true → place_sector g place < blocks_at g
metadata_within g places.VolInfo is kept = absurd (false≢true kept)
metadata_within g places.FsInfo is kept = absurd (false≢true kept)
metadata_within g (places.Slot slot) is kept = absurd (false≢true kept)
metadata_within g (places.Journal slot index) is kept = absurd (false≢true kept)
metadata_within g (places.Header object) is kept = absurd (false≢true kept)
metadata_within g (places.Bitmap kind cluster) is kept = bitmap_within g kind cluster is
metadata_within g (places.Body object) is kept = omega arith
metadata_within g (places.SubBlock n) is kept = omega arith
metadata_within g (places.PtrBlock n) is kept = omega arith
metadata_within g (places.Block block index) is kept = absurd (false≢true kept)

-- a sector of metadata stands in front of the file blocks
pub metadata-before_blocks : (g : Geom) (at : ℕ) → IsMetadata g at → at < blocks_at g
metadata-before_blocks g at is = subst (λ n. n < blocks_at g) is.here (metadata_within g is.place is.is_place is.kept)

module _ (g : Geom) where
  pub body-metadata : (o : ℕ) → o < items_of g Fd → IsMetadata g (place_sector g (places.Body o))
  body-metadata o within = record { place = places.Body o; is_place = within; here = refl; kept = refl }

  pub map-metadata : (kind : Kind) (c : ℕ) → c < clusters_of g kind → IsMetadata g (place_sector g (places.Bitmap kind c))
  map-metadata kind c within = record { place = places.Bitmap kind c; is_place = within; here = refl; kept = refl }

  pub sub-metadata : (n : ℕ) → n < items_of g Sb → IsMetadata g (place_sector g (places.SubBlock n))
  sub-metadata n within = record { place = places.SubBlock n; is_place = within; here = refl; kept = refl }

  pub ptr-metadata : (n : ℕ) → n < items_of g Pb → IsMetadata g (place_sector g (places.PtrBlock n))
  ptr-metadata n within = record { place = places.PtrBlock n; is_place = within; here = refl; kept = refl }
