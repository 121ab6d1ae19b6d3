-- What the sectors that control a volume spell: its file system information, its slots and headers, and the indexes of
-- committed journals.
use Rattle.std.specs.Prelude.{◌≡◌, ℕ, List, Option, slice_get}
use Rattle.ds_base.specs.Decoding.{IsDecoded}
use Rattle.ds_base.specs.declared.geometry.Geom.{Geom}
use Rattle.ds_base.specs.declared.geometry.Kind.{Kind}
use Rattle.ds_base.specs.declared.geometry.Kind.TheVariants.{Fd, Sb, Pb, Fb}
use Rattle.ds_base.specs.declared.sectors.Sector.{Sector}
use Rattle.ds_base.specs.Geometry.{clusters_of, items_of}
use Rattle.ds_jrnl.specs.declared.index.Index.{Index}
use Rattle.ds_layout.specs.Places.{cluster_lock, place_sector}
use Rattle.ds_layout.specs.Volume.{IsId, fs_bytes}
use Rattle.ds_layout.specs.declared.places.Place.TheVariants as places
use Rattle.ds_marks.specs.declared.header.Header.{Header}
use Rattle.ds_marks.specs.declared.header.Owner.{Owner}
use Rattle.ds_marks.specs.declared.slot.Journal.TheVariants.{Committed}
use Rattle.ds_marks.specs.declared.slot.Slot.{Slot}
use Rattle.ds_image_parts.specs.Looks.{Look, HasBytes}
use Rattle.ds_image_parts.specs.Pending.{IsIndexOf}
use Rattle.ds_image_parts.specs.Readings.{SpellsSlot, SpellsHeader, IsReading}

-- the volume's id, the slots, the owners in the headers of descriptors and of each kind's clusters, and for each slot its
-- pending index; what a sector doesn't spell is None, and a header without owner has the owner None
pub record Controls : Type 0 where
  pub volume : Option (List ℕ)
  pub slots : List (Option Slot)
  pub descriptors : List (Option (Option Owner))
  pub fd_clusters : List (Option (Option Owner))
  pub sb_clusters : List (Option (Option Owner))
  pub pb_clusters : List (Option (Option Owner))
  pub fb_clusters : List (Option (Option Owner))
  pub pending : List (Option Index)

-- the owners in the headers of a kind's clusters
abbrev pub owners_of : Controls → Kind → List (Option (Option Owner))
owners_of c Fd = c.fd_clusters
owners_of c Sb = c.sb_clusters
owners_of c Pb = c.pb_clusters
owners_of c Fb = c.fb_clusters

-- the header of a lock object has this owner
abbrev pub SpellsOwner : Geom → Look → ℕ → Option Owner → Type 0
SpellsOwner g look object owner = (h : Header) × SpellsHeader g look object h × (h.owner ≡ owner)

-- the header of a kind's cluster has this owner
abbrev pub SpellsCluster : Geom → Look → Kind → ℕ → Option Owner → Type 0
SpellsCluster g look kind n = SpellsOwner g look (cluster_lock kind n)

-- sector 1 spells this id
abbrev pub SpellsId : Geom → Look → List ℕ → Type 0
SpellsId g look id = IsId id × HasBytes look (place_sector g places.FsInfo) (fs_bytes id)

-- the slot is committed, and its journal's index is that of this transaction, all its targets metadata
abbrev pub SpellsPending : Geom → List Sector → ℕ → Index → Type 0
SpellsPending g sectors number x = (s : Slot) × (txn : ℕ) × (count : ℕ) × SpellsSlot g (slice_get sectors) number s
    × (s.journal ≡ Committed txn count) × IsIndexOf g sectors number s.generation txn count x

-- these are the controls of the volume with these sectors
pub record ReadsControls (g : Geom) (sectors : List Sector) (c : Controls) : Type 0 where
  pub volume : IsDecoded c.volume (SpellsId g (slice_get sectors))
  pub slots : IsReading g.slots (SpellsSlot g (slice_get sectors)) c.slots
  pub descriptors : IsReading (items_of g Fd) (SpellsOwner g (slice_get sectors)) c.descriptors
  pub clusters : (kind : Kind) → IsReading (clusters_of g kind) (SpellsCluster g (slice_get sectors) kind) (owners_of c kind)
  pub pending : IsReading g.slots (SpellsPending g sectors) c.pending
