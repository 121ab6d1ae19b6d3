-- The sectors of a volume that was just formatted.
use Rattle.std.specs.Prelude.{◌≡◌, ℕ, zero, suc, false, true, List, length, replicate, slice_get, slice_set, Some, None}
use Rattle.ds_base.specs.Geometry.{per_cluster}
use Rattle.ds_base.specs.declared.geometry.Geom.{Geom}
use Rattle.ds_base.specs.declared.geometry.Kind.{Kind}
use Rattle.ds_base.specs.declared.geometry.Kind.TheVariants.{Fd, Sb, Pb, Fb}
use Rattle.ds_base.specs.declared.names.NodeKind.TheVariants.{Dir}
use Rattle.ds_base.specs.declared.sectors.Sector.{Sector}
use Rattle.ds_bitmap.specs.Bits.{Bitmap, clear_bits, bits_bytes}
use Rattle.ds_fd.specs.Body.{body_bytes}
use Rattle.ds_fd.specs.declared.body.Body.{Body}
use Rattle.ds_layout.specs.Places.{IsPlace, place_sector, total_of}
use Rattle.ds_layout.specs.Volume.{vol_bytes, fs_bytes}
use Rattle.ds_layout.specs.declared.places.Place.{Place}
use Rattle.ds_layout.specs.declared.places.Place.TheVariants as places
use Rattle.ds_marks.specs.Header.{header_bytes}
use Rattle.ds_marks.specs.Slot.{slot_bytes}
use Rattle.ds_marks.specs.declared.header.Header.{Header}
use Rattle.ds_marks.specs.declared.slot.Slot.{Slot}
use Rattle.ds_marks.specs.declared.slot.SlotState.TheVariants.{Free}
use Rattle.ds_marks.specs.declared.slot.Journal.TheVariants.{Idle}
use Rattle.ds_image_parts.specs.Looks.{HasBytes}

-- a slot that nobody has, in generation 1
abbrev pub fresh_slot : Slot
fresh_slot = record { state = Free; generation = 1; host = replicate 16 0; stamp = 0; journal = Idle }

-- the header of a lock that nobody owns, in generation 0
abbrev pub fresh_header : ℕ → Header
fresh_header object = record { object = object; generation = 0; owner = None }

-- the body of a descriptor: descriptor 0 is the root, a directory with birth 1 and no sub-blocks, and no other was ever in use
abbrev pub fresh_body : ℕ → Body
fresh_body zero = record { object = 0; kind = Some Dir; links = 0; birth = 1; count = 0; addresses = replicate 96 0 }
fresh_body (suc n) = record { object = suc n; kind = None; links = 0; birth = 0; count = 0; addresses = replicate 96 0 }

-- the bitmap of a cluster: of all items the root's descriptor alone is used, item 0 of the first cluster of descriptors
abbrev pub fresh_bits : Geom → Kind → ℕ → Bitmap
fresh_bits g Fd zero = record { kind = Fd; cluster = 0; used = slice_set (replicate (per_cluster g Fd) false) 0 true }
fresh_bits g Fd (suc cluster) = clear_bits g Fd (suc cluster)
fresh_bits g Sb cluster = clear_bits g Sb cluster
fresh_bits g Pb cluster = clear_bits g Pb cluster
fresh_bits g Fb cluster = clear_bits g Fb cluster

-- the bytes of a place of the formatted volume with an id: journals, sub-blocks, pointer blocks and file blocks are zero
abbrev pub formatted_at : Geom → List ℕ → Place → List ℕ
formatted_at g volume places.VolInfo = vol_bytes g volume
formatted_at g volume places.FsInfo = fs_bytes volume
formatted_at g volume (places.Slot number) = slot_bytes number fresh_slot
formatted_at g volume (places.Header object) = header_bytes (fresh_header object)
formatted_at g volume (places.Bitmap kind cluster) = bits_bytes (fresh_bits g kind cluster)
formatted_at g volume (places.Body object) = body_bytes (fresh_body object)
formatted_at g volume (places.Journal slot index) = replicate 512 0
formatted_at g volume (places.SubBlock n) = replicate 512 0
formatted_at g volume (places.PtrBlock n) = replicate 512 0
formatted_at g volume (places.Block block index) = replicate 512 0

-- these are the sectors of the formatted volume with an id
pub record IsFormatted (g : Geom) (volume : List ℕ) (sectors : List Sector) : Type 0 where
  pub size : length sectors ≡ total_of g
  pub each : (place : Place) → IsPlace g place → HasBytes (slice_get sectors) (place_sector g place) (formatted_at g volume place)
