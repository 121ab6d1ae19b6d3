-- What digests say of sectors, as the spellings of the image's definitions.
use Rattle.std.proofs.Common.{◌≡◌, ℕ, ◌+◌, ◌<◌, List, Option, Some, None, refl, sym, ap, ◌∙◌}
use Rattle.std.specs.Prelude.{slice_get}
use Rattle.ds_base.specs.Decoding.{IsDecoded}
use Rattle.ds_base.specs.declared.geometry.Geom.{Geom}
use Rattle.ds_base.specs.declared.sectors.Sector.{Sector}
use Rattle.ds_layout.specs.Places.{place_sector}
use Rattle.ds_layout.specs.declared.places.Place.TheVariants as places
use Rattle.ds_marks.specs.declared.header.Header.{Header}
use Rattle.ds_marks.specs.declared.slot.Slot.{Slot}
use Rattle.ds_image_parts.specs.Looks.{Look, IsBlock, AreBlocks}
use Rattle.ds_image_parts.specs.Readings.{SpellsSlot, SpellsHeader}
use Rattle.ds_marks.specs.SlotIn.{slot_in}
use Rattle.ds_marks.specs.HeaderIn.{header_in}
use Rattle.ds_conduct.specs.Marks.{slot_spelled, slot_at}
use Rattle.ds_marks.proofs.HeaderIn.{header_in-is, header_in-IsDecoded}
use Rattle.ds_marks.proofs.SlotIn.{slot_in-is, slot_in-IsDecoded}

-- a slot's sector that stands
pub slot-spells : (g : Geom) (look : Look) (a : ℕ) (s : Sector) (x : Slot) → look (place_sector g (places.Slot a)) ≡ Some s
    → slot_in a s.bytes ≡ Some x → SpellsSlot g look a x
slot-spells g look a s x there spelled = let d = slot_in-is a s.bytes x spelled in (d.0, (s, there, d.1))

pub slot-spelled : (g : Geom) (look : Look) (a : ℕ) (x : Slot) → a < 256 → AreBlocks look → SpellsSlot g look a x
    → slot_spelled a (look (place_sector g (places.Slot a))) ≡ Some x
slot-spelled g look a x small blocks spells =
    let s : Sector = spells.1.0 in
    let there : look (place_sector g (places.Slot a)) ≡ Some s = spells.1.1 in
    let block : IsBlock s.bytes = blocks (place_sector g (places.Slot a)) s there in
    ap (slot_spelled a) there ∙ (slot_in-IsDecoded a s.bytes small block.size block.below x).1 (spells.0, spells.1.2)

-- the slot of a store is the one that its sector spells
pub slot_at-decoded : (g : Geom) (sectors : List Sector) (a : ℕ) → a < 256 → AreBlocks (slice_get sectors)
    → IsDecoded (slot_at sectors a) (SpellsSlot g (slice_get sectors) a)
slot_at-decoded g sectors a small blocks x = (
  λ e. by_there (slice_get sectors (2 + a)) refl e,
  λ d. slot-spelled g (slice_get sectors) a x small blocks d,
)
  where
    by_there : (o : Option Sector) → slice_get sectors (2 + a) ≡ o → slot_spelled a o ≡ Some x → SpellsSlot g (slice_get sectors) a x
    by_there None there e = absurd (cc)
    by_there (Some s) there e = slot-spells g (slice_get sectors) a s x there e

-- a header's sector that stands
pub header-spells : (g : Geom) (look : Look) (object : ℕ) (s : Sector) (h : Header)
    → look (place_sector g (places.Header object)) ≡ Some s → header_in s.bytes ≡ Some h → h.object ≡ object
    → SpellsHeader g look object h
header-spells g look object s h there spelled same = let d = header_in-is s.bytes h spelled in (same, d.0, (s, there, d.1))

pub header-spelled : (g : Geom) (look : Look) (object : ℕ) (h : Header) (s : Sector) → AreBlocks look → SpellsHeader g look object h
    → look (place_sector g (places.Header object)) ≡ Some s
    → header_in s.bytes ≡ Some h
header-spelled g look object h s blocks spells there =
    let t : Sector = spells.2.0 in
    let there' : look (place_sector g (places.Header object)) ≡ Some t = spells.2.1 in
    let same : t ≡ s = cc in
    let block : IsBlock s.bytes = blocks (place_sector g (places.Header object)) s there in
    (header_in-IsDecoded s.bytes block.size block.below h).1 (spells.1, ap (λ (x : Sector). x.bytes) (sym same) ∙ spells.2.2)
