-- Where the places of a volume are: its regions follow one another without gaps.
use Rattle.std.specs.Prelude.{◌≡◌, ℕ, zero, suc, ◌+◌, ◌-◌, ◌*◌, ◌/◌, ◌%◌, ◌<◌, ◌⊎◌, nat_lt, if◌then◌else◌}
use Rattle.ds_base.specs.declared.geometry.Geom.{Geom}
use Rattle.ds_base.specs.declared.geometry.Kind.{Kind}
use Rattle.ds_base.specs.declared.geometry.Kind.TheVariants.{Fd, Sb, Pb, Fb}
use Rattle.ds_base.specs.Geometry.{kind_number, clusters_of, items_of}
use Rattle.ds_layout.specs.declared.places.Place.{Place}
use Rattle.ds_layout.specs.declared.places.Place.TheVariants.{VolInfo, FsInfo, Slot, Journal, Header, Bitmap, Body, SubBlock, PtrBlock, Block}

-- the clusters of the kinds before this one
abbrev pub clusters_before : Geom → Kind → ℕ
clusters_before g Fd = 0
clusters_before g Sb = clusters_of g Fd
clusters_before g Pb = clusters_of g Fd + clusters_of g Sb
clusters_before g Fb = clusters_of g Fd + clusters_of g Sb + clusters_of g Pb

-- the clusters of all kinds
abbrev pub all_clusters : Geom → ℕ
all_clusters g = clusters_before g Fb + clusters_of g Fb

-- the first sector of the journals, behind the two first sectors and the slots
abbrev pub journals_at : Geom → ℕ
journals_at g = 2 + g.slots

-- the first sector of the clusters, behind the journals of 32 sectors each
abbrev pub clusters_at : Geom → ℕ
clusters_at g = 2 + 33 * g.slots

-- the first sector of the descriptors, behind the clusters of two sectors each
abbrev pub descriptors_at : Geom → ℕ
descriptors_at g = clusters_at g + 2 * all_clusters g

-- the first sector of the sub-blocks, behind the descriptors of two sectors each
abbrev pub sub_blocks_at : Geom → ℕ
sub_blocks_at g = descriptors_at g + 2 * items_of g Fd

-- the first sector of the pointer blocks
abbrev pub ptr_blocks_at : Geom → ℕ
ptr_blocks_at g = sub_blocks_at g + items_of g Sb

-- the first sector of the file blocks
abbrev pub blocks_at : Geom → ℕ
blocks_at g = ptr_blocks_at g + items_of g Pb

-- the number of all sectors
abbrev pub total_of : Geom → ℕ
total_of g = blocks_at g + g.block * items_of g Fb

-- the kind with this place in the order of kinds
abbrev pub kind_numbered : ℕ → Kind
kind_numbered zero = Fd
kind_numbered (suc zero) = Sb
kind_numbered (suc (suc zero)) = Pb
kind_numbered (suc (suc (suc _))) = Fb

-- the first sector of a cluster
abbrev pub cluster_at : Geom → Kind → ℕ → ℕ
cluster_at g kind cluster = clusters_at g + 2 * (clusters_before g kind + cluster)

-- the lock object that a cluster is; descriptor n is lock object n
abbrev pub cluster_lock : Kind → ℕ → ℕ
cluster_lock kind cluster = 2048 + 8 * kind_number kind + cluster

-- the sector of a lock object's header
abbrev pub header_sector : Geom → ℕ → ℕ
header_sector g object =
    if nat_lt object 2048 then descriptors_at g + 2 * object
    else cluster_at g (kind_numbered ((object - 2048) / 8)) ((object - 2048) % 8)

-- a lock object that is a cluster
pub record IsClusterLock (g : Geom) (object : ℕ) : Type 0 where
  pub kind : Kind
  pub cluster : ℕ
  pub within : cluster < clusters_of g kind
  pub number : object ≡ cluster_lock kind cluster

-- the number of a lock object of the volume: a descriptor's or a cluster's
abbrev pub IsLock : Geom → ℕ → Type 0
IsLock g object = (object < items_of g Fd) ⊎ IsClusterLock g object

-- the place is one of the volume's
abbrev pub IsPlace : Geom → Place → Type 0
IsPlace g VolInfo = Unit {0}
IsPlace g FsInfo = Unit {0}
IsPlace g (Slot slot) = slot < g.slots
IsPlace g (Journal slot index) = (slot < g.slots) × (index < 32)
IsPlace g (Header object) = IsLock g object
IsPlace g (Bitmap kind cluster) = cluster < clusters_of g kind
IsPlace g (Body object) = object < items_of g Fd
IsPlace g (SubBlock n) = n < items_of g Sb
IsPlace g (PtrBlock n) = n < items_of g Pb
IsPlace g (Block block index) = (block < items_of g Fb) × (index < g.block)

-- the sector of a place
abbrev pub place_sector : Geom → Place → ℕ
place_sector g VolInfo = 0
place_sector g FsInfo = 1
place_sector g (Slot slot) = 2 + slot
place_sector g (Journal slot index) = journals_at g + 32 * slot + index
place_sector g (Header object) = header_sector g object
place_sector g (Bitmap kind cluster) = cluster_at g kind cluster + 1
place_sector g (Body object) = descriptors_at g + 2 * object + 1
place_sector g (SubBlock n) = sub_blocks_at g + n
place_sector g (PtrBlock n) = ptr_blocks_at g + n
place_sector g (Block block index) = blocks_at g + g.block * block + index
