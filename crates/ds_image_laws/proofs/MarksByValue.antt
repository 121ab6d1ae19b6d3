-- The slots and headers that sectors spell are those that their bytes give.
use Rattle.std.proofs.Common.{◌≡◌, ℕ, List, Option, None, Some, refl, subst}
use Rattle.std.specs.Option.{option_and_then}
use Rattle.ds_base.specs.Decoding.{IsDecoded}
use Rattle.ds_base.specs.declared.sectors.Sector.{Sector}
use Rattle.ds_layout.specs.Places.{place_sector}
use Rattle.ds_layout.specs.declared.places.Place.TheVariants as places
use Rattle.ds_marks.specs.Header.{IsHeader, header_bytes}
use Rattle.ds_marks.specs.HeaderIn.{header_if_of, header_in}
use Rattle.ds_marks.specs.Slot.{IsSlot, slot_bytes}
use Rattle.ds_marks.specs.SlotIn.{slot_in}
use Rattle.ds_marks.specs.declared.header.Header.{Header}
use Rattle.ds_marks.specs.declared.slot.Slot.{Slot}
use Rattle.ds_marks.proofs.HeaderIn.{header_in-IsDecoded, header_if_of-IsDecoded}
use Rattle.ds_marks.proofs.SlotIn.{slot_in-IsDecoded}
use Rattle.ds_image_parts.specs.Readings.{SpellsHeader, SpellsSlot}
use Rattle.ds_image_parts.proofs.Spelling.Decoded.{decoded_as}
use Rattle.ds_image_laws.specs.Laws.{SlotsByValue, HeadersByValue}

-- what is read of a sector's bytes is read of the sector that is there
read-there : {V : Type 0} (o : Option Sector) (read : List ℕ → Option V) (Describes : List ℕ → V → Type 0)
    → ((s : Sector) → o ≡ Some s → IsDecoded (read s.bytes) (Describes s.bytes))
    → IsDecoded (option_and_then (λ (s : Sector). read s.bytes) o) (λ v. (s : Sector) × (o ≡ Some s) × Describes s.bytes v)
read-there None read Describes each v = (λ e. absurd cc, λ d. let none : None ≡ Some d.0 = d.1 in absurd cc)
read-there (Some s) read Describes each v = (
  λ e. (s, refl, (each s refl v).0 e),
  λ d. (each s refl v).1 (let same : d.0 ≡ s = cc in subst (λ (t : Sector). Describes t.bytes v) same d.2),
)

pub slots-by_value : SlotsByValue
slots-by_value g look number small blocks =
    let at : ℕ = place_sector g (places.Slot number) in
    let Describes : List ℕ → Slot → Type 0 = λ bytes s. IsSlot s × (bytes ≡ slot_bytes number s) in
    decoded_as (option_and_then (λ (s : Sector). slot_in number s.bytes) (look at)) (λ v. (s : Sector) × (look at ≡ Some s) × Describes s.bytes v)
    (SpellsSlot g look number) (λ v d. (d.2.0, (d.0, d.1, d.2.1))) (λ v d. (d.1.0, d.1.1, (d.0, d.1.2)))
    (read-there (look at) (slot_in number) Describes
    (λ s there. let block = blocks at s there in slot_in-IsDecoded number s.bytes small block.size block.below))

pub headers-by_value : HeadersByValue
headers-by_value g look object blocks =
    let at : ℕ = place_sector g (places.Header object) in
    let read : List ℕ → Option Header = λ bytes. header_if_of object (header_in bytes) in
    let Describes : List ℕ → Header → Type 0 = λ bytes h. (h.object ≡ object) × IsHeader h × (bytes ≡ header_bytes h) in
    decoded_as (option_and_then (λ (s : Sector). read s.bytes) (look at)) (λ v. (s : Sector) × (look at ≡ Some s) × Describes s.bytes v)
    (SpellsHeader g look object) (λ v d. (d.2.0, d.2.1, (d.0, d.1, d.2.2))) (λ v d. (d.2.0, d.2.1, (d.0, d.1, d.2.2)))
    (read-there (look at) read Describes
    (λ s there.
    let block = blocks at s there in
    header_if_of-IsDecoded object s.bytes (header_in s.bytes) (header_in-IsDecoded s.bytes block.size block.below)))
