-- The sub-blocks and pointer blocks that sectors spell are those that are read.
use Rattle.std.proofs.Common.{◌≡◌, ℕ, ◌+◌, List, map, slice_get, Option, None, Some, refl, sym, subst, ◌∙◌, arith}
use Rattle.std.proofs.lemmas.List.FromFn.{length-map-range_with_len, get_or-map-range_with_len}
use Rattle.std.specs.List.{range_with_len}
use Rattle.ds_base.specs.Decoding.{IsDecoded}
use Rattle.ds_base.specs.Geometry.{items_of}
use Rattle.ds_base.specs.declared.geometry.Geom.{Geom}
use Rattle.ds_base.specs.declared.geometry.Kind.TheVariants.{Sb, Pb}
use Rattle.ds_base.specs.declared.sectors.Sector.{Sector}
use Rattle.ds_dir.proofs.Readings.{sub_reading}
use Rattle.ds_dir.specs.SubBlock.{IsSubBlock, sub_bytes}
use Rattle.ds_layout.specs.Places.{place_sector}
use Rattle.ds_layout.specs.declared.places.Place.TheVariants as places
use Rattle.ds_ptr.proofs.Laws.{ptr_decoded}
use Rattle.ds_ptr.specs.PtrBlock.{IsPtrBlock, ptr_bytes}
use Rattle.ds_image_parts.specs.ImageValues.{IsImage}
use Rattle.ds_image_parts.specs.Looks.{Look, HasBytes, IsBlock}
use Rattle.ds_image_parts.specs.Readings.{SpellsSub, SpellsPtr, IsReading}
use Rattle.ds_image_parts.specs.SpelledParts.{sub_in, ptr_in, spelled_subs, spelled_ptrs}
use Rattle.ds_image_parts.proofs.Spelling.Decoded.{spelled_at}

sub_in-read : (look : Look) (at : ℕ) (o : Option Sector) (blocks : (s : Sector) → o ≡ Some s → IsBlock s.bytes) → look at ≡ o
    → IsDecoded (sub_in o blocks) (λ b. IsSubBlock b × HasBytes look at (sub_bytes b))
sub_in-read look at None blocks is = λ v. (λ e. absurd cc, λ d. let none : None ≡ Some d.1.0 = sym is ∙ d.1.1 in absurd cc)
sub_in-read look at (Some s) blocks is =
    let reading = sub_reading s.bytes (blocks s refl).size (blocks s refl).below in
    spelled_at look at s IsSubBlock sub_bytes reading.0 is reading.1

ptr_in-read : (look : Look) (at : ℕ) (o : Option Sector) (blocks : (s : Sector) → o ≡ Some s → IsBlock s.bytes) → look at ≡ o
    → IsDecoded (ptr_in o blocks) (λ b. IsPtrBlock b × HasBytes look at (ptr_bytes b))
ptr_in-read look at None blocks is = λ v. (λ e. absurd cc, λ d. let none : None ≡ Some d.1.0 = sym is ∙ d.1.1 in absurd cc)
ptr_in-read look at (Some s) blocks is =
    let reading = ptr_decoded s.bytes (blocks s refl).size (blocks s refl).below in
    spelled_at look at s IsPtrBlock ptr_bytes reading.0 is reading.1

-- a list of what is read for each number is a list of parts
each_read : {V : Type 0} (n : ℕ) (Spells : ℕ → V → Type 0) (read : ℕ → Option V) → ((i : ℕ) → IsDecoded (read i) (Spells i))
    → IsReading n Spells (map read (range_with_len 0 n))
each_read n Spells read decoded = record {
  len = length-map-range_with_len read 0 n;
  each = λ i l.
      subst (λ (r : _). IsDecoded r (Spells i)) (sym (get_or-map-range_with_len read 0 n i i None l (let same : 0 + i ≡ i = omega arith in same))) (decoded i);
}

pub subs-read : (g : Geom) (sectors : List Sector) (is : IsImage g sectors) → IsReading (items_of g Sb) (SpellsSub g (slice_get sectors)) (spelled_subs g sectors is)
unfolding spelled_subs
subs-read g sectors is =
    each_read (items_of g Sb) (SpellsSub g (slice_get sectors)) _
    (λ n. sub_in-read (slice_get sectors) (place_sector g (places.SubBlock n)) (slice_get sectors (place_sector g (places.SubBlock n))) (is.blocks (place_sector g (places.SubBlock n))) refl)

pub ptrs-read : (g : Geom) (sectors : List Sector) (is : IsImage g sectors) → IsReading (items_of g Pb) (SpellsPtr g (slice_get sectors)) (spelled_ptrs g sectors is)
unfolding spelled_ptrs
ptrs-read g sectors is =
    each_read (items_of g Pb) (SpellsPtr g (slice_get sectors)) _
    (λ n. ptr_in-read (slice_get sectors) (place_sector g (places.PtrBlock n)) (slice_get sectors (place_sector g (places.PtrBlock n))) (is.blocks (place_sector g (places.PtrBlock n))) refl)
