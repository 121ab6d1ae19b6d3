-- What the sectors of a volume spell.
use Rattle.std.specs.Prelude.{◌≡◌, ℕ, ◌<◌, List, length, Option}
use Rattle.ds_base.specs.Decoding.{IsDecoded}
use Rattle.ds_base.specs.declared.geometry.Geom.{Geom}
use Rattle.ds_base.specs.declared.geometry.Kind.{Kind}
use Rattle.ds_base.specs.declared.geometry.Kind.TheVariants.{Fd, Sb, Pb}
use Rattle.ds_base.specs.Geometry.{clusters_of, items_of}
use Rattle.ds_jrnl.specs.Index.{IsIndex, index_bytes}
use Rattle.ds_jrnl.specs.declared.index.Index.{Index}
use Rattle.ds_layout.specs.Places.{place_sector}
use Rattle.ds_layout.specs.declared.places.Place.TheVariants as places
use Rattle.ds_marks.specs.Slot.{IsSlot, slot_bytes}
use Rattle.ds_marks.specs.Header.{IsHeader, header_bytes}
use Rattle.ds_marks.specs.declared.slot.Slot.{Slot}
use Rattle.ds_marks.specs.declared.header.Header.{Header}
use Rattle.ds_bitmap.specs.Bits.{Bitmap, IsBits, bits_bytes}
use Rattle.ds_dir.specs.SubBlock.{IsSubBlock, sub_bytes}
use Rattle.ds_dir.specs.declared.sub_block.SubBlock.{SubBlock}
use Rattle.ds_fd.specs.Body.{IsBody, body_bytes}
use Rattle.ds_fd.specs.declared.body.Body.{Body}
use Rattle.ds_ptr.specs.PtrBlock.{IsPtrBlock, ptr_bytes}
use Rattle.ds_ptr.specs.declared.ptr_block.PtrBlock.{PtrBlock}
use Rattle.ds_image_parts.specs.Looks.{Look, HasBytes}
use Rattle.ds_image_parts.specs.Parts.{Parts, part_at, maps_of}

-- the sector of a slot spells this
abbrev pub SpellsSlot : Geom → Look → ℕ → Slot → Type 0
SpellsSlot g look number s = IsSlot s × HasBytes look (place_sector g (places.Slot number)) (slot_bytes number s)

-- the last sector of a slot's journal spells this
abbrev pub SpellsIndex : Geom → Look → ℕ → Index → Type 0
SpellsIndex g look slot x = IsIndex x × HasBytes look (place_sector g (places.Journal slot 31)) (index_bytes x)

-- the sector of a lock object's header spells this
abbrev pub SpellsHeader : Geom → Look → ℕ → Header → Type 0
SpellsHeader g look object h = (h.object ≡ object) × IsHeader h × HasBytes look (place_sector g (places.Header object)) (header_bytes h)

-- the sector of a descriptor's body spells this
abbrev pub SpellsBody : Geom → Look → ℕ → Body → Type 0
SpellsBody g look object b = (b.object ≡ object) × IsBody b × HasBytes look (place_sector g (places.Body object)) (body_bytes b)

-- the sector of a cluster's bitmap spells this
abbrev pub SpellsBits : Geom → Look → Kind → ℕ → Bitmap → Type 0
SpellsBits g look kind cluster b = IsBits g kind cluster b × HasBytes look (place_sector g (places.Bitmap kind cluster)) (bits_bytes b)

-- the sector of a sub-block spells this
abbrev pub SpellsSub : Geom → Look → ℕ → SubBlock → Type 0
SpellsSub g look n b = IsSubBlock b × HasBytes look (place_sector g (places.SubBlock n)) (sub_bytes b)

-- the sector of a pointer block spells this
abbrev pub SpellsPtr : Geom → Look → ℕ → PtrBlock → Type 0
SpellsPtr g look n b = IsPtrBlock b × HasBytes look (place_sector g (places.PtrBlock n)) (ptr_bytes b)

-- n parts, and each is exactly what its sector spells
pub record IsReading {V : Type 0} (n : ℕ) (Spells : ℕ → V → Type 0) (parts : List (Option V)) : Type 0 where
  pub len : length parts ≡ n
  pub each : (i : ℕ) → i < n → IsDecoded (part_at parts i) (Spells i)

-- these are the parts of the volume that is looked at
pub record ReadsParts (g : Geom) (look : Look) (p : Parts) : Type 0 where
  pub bodies : IsReading (items_of g Fd) (SpellsBody g look) p.bodies
  pub maps : (kind : Kind) → IsReading (clusters_of g kind) (SpellsBits g look kind) (maps_of p kind)
  pub subs : IsReading (items_of g Sb) (SpellsSub g look) p.subs
  pub ptrs : IsReading (items_of g Pb) (SpellsPtr g look) p.ptrs
