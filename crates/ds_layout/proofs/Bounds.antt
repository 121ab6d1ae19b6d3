-- What the ranges of a geometry make of the sizes of a volume's regions.
use Rattle.std.proofs.Common.{◌≡◌, ℕ, ◌+◌, ◌-◌, ◌*◌, ◌/◌, ◌%◌, ◌<◌, ◌≤◌, false, nat_lt, arith, refl}
use Rattle.std.proofs.Math.Nat.{mul-le-mul, div-lt_iff_lt-mul}
use Rattle.std.proofs.lemmas.Bool.Decides.{nat_tests}
use Rattle.std.proofs.lemmas.Nat.{mul-add-lt}
use Rattle.ds_base.specs.declared.geometry.Geom.{Geom}
use Rattle.ds_base.specs.declared.geometry.Kind.{Kind}
use Rattle.ds_base.specs.declared.geometry.Kind.TheVariants.{Fd, Sb, Pb, Fb}
use Rattle.ds_base.specs.declared.geometry.GeomField.TheVariants.{Slots, Block, Clusters, Items}
use Rattle.ds_base.specs.Geometry.{IsGeom, kind_number, clusters_of, items_of, most_items}
use Rattle.ds_layout.specs.Places.{kind_numbered, cluster_at, cluster_lock, header_sector}
use Rattle.ds_layout.specs.Regions.{HasBounds}

pub most_items_of : (g : Geom) (kind : Kind) → IsGeom g → items_of g kind ≤ 8 * most_items kind
most_items_of g kind is = mul-le-mul (is (Clusters kind)).1 (is (Items kind)).1

pub bounds : (g : Geom) → IsGeom g → HasBounds g
bounds g is =
    let fb : items_of g Fb ≤ 30720 = most_items_of g Fb is in
    record {
      slots = (is Slots).1;
      block_from = (is Block).0;
      block_to = (is Block).1;
      fd_clusters = (is (Clusters Fd)).1;
      sb_clusters = (is (Clusters Sb)).1;
      pb_clusters = (is (Clusters Pb)).1;
      fb_clusters = (is (Clusters Fb)).1;
      fd_items = most_items_of g Fd is;
      sb_items = most_items_of g Sb is;
      pb_items = most_items_of g Pb is;
      fb_items = fb;
      block_sectors = mul-le-mul (is Block).1 fb;
    }

-- a sector of a block lies within the blocks
pub block_within : (width count block index : ℕ) → block < count → index < width → width * block + index < width * count
block_within width count block index p q = omega (arith, mul-add-lt block width index count p q)

-- a sector of the blocks lies within one of them
pub block_numbered : (width count at : ℕ) → 1 ≤ width → at < width * count → at / width < count
block_numbered width count at p q =
    let below : at < count * width = grind arith in
    (div-lt_iff_lt-mul {k = width} {x = at} {y = count} p).1 below

-- a cluster's kind and place are those in its lock object's number
pub number_of_lock : (kind : Kind) (cluster : ℕ) → cluster < 8 → ((cluster_lock kind cluster - 2048) / 8 ≡ kind_number kind) × ((cluster_lock kind cluster - 2048) % 8 ≡ cluster)
number_of_lock Fd cluster h = (omega arith, omega arith)
number_of_lock Sb cluster h = (omega arith, omega arith)
number_of_lock Pb cluster h = (omega arith, omega arith)
number_of_lock Fb cluster h = (omega arith, omega arith)

kind_again : (kind : Kind) → kind_numbered (kind_number kind) ≡ kind
kind_again Fd = refl
kind_again Sb = refl
kind_again Pb = refl
kind_again Fb = refl

clusters_most : (g : Geom) (kind : Kind) → HasBounds g → clusters_of g kind ≤ 8
clusters_most g Fd h = h.fd_clusters
clusters_most g Sb h = h.sb_clusters
clusters_most g Pb h = h.pb_clusters
clusters_most g Fb h = h.fb_clusters

not_descriptor : (object : ℕ) → 2048 ≤ object → nat_lt object 2048 ≡ false
not_descriptor object h = grind (arith, nat_tests)

pub header_of_lock : (g : Geom) (kind : Kind) (cluster : ℕ) → cluster < 8 → header_sector g (cluster_lock kind cluster) ≡ cluster_at g kind cluster
header_of_lock g kind cluster h =
    let number = number_of_lock kind cluster h in
    let large : 2048 ≤ cluster_lock kind cluster = omega arith in
    rw (not_descriptor (cluster_lock kind cluster) large, number.0, number.1, kind_again kind) refl

-- the header of a cluster's lock object begins the cluster
pub header_of_cluster : (g : Geom) (kind : Kind) (cluster object : ℕ) → HasBounds g → cluster < clusters_of g kind → object ≡ cluster_lock kind cluster → header_sector g object ≡ cluster_at g kind cluster
header_of_cluster g kind cluster object b h e =
    let most : clusters_of g kind ≤ 8 = clusters_most g kind b in
    let small : cluster < 8 = omega arith in
    rw e (header_of_lock g kind cluster small)
