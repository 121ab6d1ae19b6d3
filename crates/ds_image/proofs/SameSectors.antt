-- What a sector that stays spells.
use Rattle.std.proofs.Common.{◌≡◌, ℕ, ◌<◌, List, Option, Some, subst}
use Rattle.ds_base.specs.declared.geometry.Geom.{Geom}
use Rattle.ds_base.specs.declared.geometry.Kind.{Kind}
use Rattle.ds_base.specs.declared.sectors.Sector.{Sector}
use Rattle.ds_bitmap.specs.Bits.{Bitmap, bits_bytes}
use Rattle.ds_dir.specs.SubBlock.{sub_bytes}
use Rattle.ds_dir.specs.declared.sub_block.SubBlock.{SubBlock}
use Rattle.ds_fd.specs.Body.{body_bytes}
use Rattle.ds_fd.specs.declared.body.Body.{Body}
use Rattle.ds_layout.specs.Places.{place_sector}
use Rattle.ds_layout.specs.declared.places.Place.TheVariants as places
use Rattle.ds_marks.specs.Slot.{slot_bytes}
use Rattle.ds_marks.specs.declared.slot.Slot.{Slot}
use Rattle.ds_ptr.specs.PtrBlock.{ptr_bytes}
use Rattle.ds_ptr.specs.declared.ptr_block.PtrBlock.{PtrBlock}
use Rattle.ds_marks.specs.Header.{header_bytes}
use Rattle.ds_marks.specs.declared.header.Header.{Header}
use Rattle.ds_image_parts.specs.Looks.{Look, HasBytes}
use Rattle.ds_image_parts.specs.Readings.{SpellsSlot, SpellsHeader, SpellsBody, SpellsBits, SpellsSub, SpellsPtr, IsReading}
use Rattle.ds_image_parts.specs.Parts.{part_at}
use Rattle.ds_image_parts.proofs.Spelling.Decoded.{decoded_as}

pub has-same : (look look' : Look) (at : ℕ) (bytes : List ℕ) → look at ≡ look' at → HasBytes look at bytes → HasBytes look' at bytes
has-same look look' at bytes same has = subst (λ (o : Option Sector). (s : Sector) × (o ≡ Some s) × (s.bytes ≡ bytes)) same has

module _ (g : Geom) (look look' : Look) where
  pub slot-as : (n : ℕ) → look (place_sector g (places.Slot n)) ≡ look' (place_sector g (places.Slot n)) → (s : Slot) → SpellsSlot g look n s → SpellsSlot g look' n s
  slot-as n same s spells = (spells.0, has-same look look' (place_sector g (places.Slot n)) (slot_bytes n s) same spells.1)

  pub header-as : (object : ℕ) → look (place_sector g (places.Header object)) ≡ look' (place_sector g (places.Header object)) → (h : Header)
      → SpellsHeader g look object h → SpellsHeader g look' object h
  header-as object same h spells = (spells.0, spells.1, has-same look look' (place_sector g (places.Header object)) (header_bytes h) same spells.2)

  pub body-as : (o : ℕ) → look (place_sector g (places.Body o)) ≡ look' (place_sector g (places.Body o)) → (b : Body) → SpellsBody g look o b → SpellsBody g look' o b
  body-as o same b spells = (spells.0, spells.1, has-same look look' (place_sector g (places.Body o)) (body_bytes b) same spells.2)

  pub bits-as : (kind : Kind) (c : ℕ) → look (place_sector g (places.Bitmap kind c)) ≡ look' (place_sector g (places.Bitmap kind c)) → (b : Bitmap)
      → SpellsBits g look kind c b → SpellsBits g look' kind c b
  bits-as kind c same b spells = (spells.0, has-same look look' (place_sector g (places.Bitmap kind c)) (bits_bytes b) same spells.1)

  pub sub-as : (n : ℕ) → look (place_sector g (places.SubBlock n)) ≡ look' (place_sector g (places.SubBlock n)) → (b : SubBlock) → SpellsSub g look n b → SpellsSub g look' n b
  sub-as n same b spells = (spells.0, has-same look look' (place_sector g (places.SubBlock n)) (sub_bytes b) same spells.1)

  pub ptr-as : (n : ℕ) → look (place_sector g (places.PtrBlock n)) ≡ look' (place_sector g (places.PtrBlock n)) → (b : PtrBlock) → SpellsPtr g look n b → SpellsPtr g look' n b
  ptr-as n same b spells = (spells.0, has-same look look' (place_sector g (places.PtrBlock n)) (ptr_bytes b) same spells.1)

-- and what many sectors that stay spell
pub reading-as : {V : Type 0} (n : ℕ) (Spells Then : ℕ → V → Type 0) (xs : List (Option V))
    → ((i : ℕ) → i < n → (v : V) → Spells i v → Then i v) → ((i : ℕ) → i < n → (v : V) → Then i v → Spells i v)
    → IsReading n Spells xs → IsReading n Then xs
reading-as n Spells Then xs to from read = record {
  len = read.len;
  each = λ i l. decoded_as (part_at xs i) (Spells i) (Then i) (to i l) (from i l) (read.each i l);
}
