-- The bits of a kind, item by item, as its clusters' bitmaps say them.
use Rattle.std.proofs.Common.{◌≡◌, ℕ, zero, suc, ◌+◌, ◌*◌, ◌/◌, ◌%◌, ◌<◌, Bool, true, false, List, length, Option, Some, None, IsSome, refl, sym, ap, subst, ◌∙◌, arith}
use Rattle.std.specs.Prelude.{Contains, ◌↔◌}
use Rattle.std.proofs.Math.Nat.{mod-lt, div-lt_iff_lt-mul}
use Rattle.std.proofs.lemmas.Bool.{false≢true}
use Rattle.std.proofs.lemmas.Nat.{div-add-mod'}
use Rattle.ds_base.specs.Geometry.{clusters_of, per_cluster, items_of}
use Rattle.ds_base.specs.declared.geometry.Geom.{Geom}
use Rattle.ds_base.specs.declared.geometry.Kind.{Kind}
use Rattle.ds_bitmap.specs.Bits.{Bitmap}
use Rattle.ds_image_parts.specs.Looks.{Look}
use Rattle.ds_image_tables.specs.Owns.{bit}
use Rattle.ds_image_parts.specs.Parts.{part_at, AllSpelled, bits_in}
use Rattle.ds_image_parts.specs.Readings.{SpellsBits, IsReading}
use Rattle.ds_image.proofs.Ownership.Listed.{bits_length}
use Rattle.ds_image_tables.proofs.Spelling.Places.{marked-within}
use Rattle.ds_image.proofs.Bits.{bits-get}
use Rattle.ds_image_tables.proofs.Ownership.Marking.{ClearsMarks}

pub some-is : {V : Type 0} (r : Option V) → IsSome r → (v : V) × (r ≡ Some v)
some-is None some = absurd (false≢true some)
some-is (Some v) some = (v, refl)

-- an item has its cluster, and its place there
pub item-place : (n clusters width : ℕ) → n < clusters * width → (n / width < clusters) × (n % width < width) × (n / width * width + n % width ≡ n)
item-place n clusters width within =
    let some : 0 < width = positive width within in
    let small : n % width < width = mod-lt n some in
    let at : n / width * width + n % width ≡ n = div-add-mod' n width in
    ((div-lt_iff_lt-mul some).1 within, small, at)
  where
    positive : (w : ℕ) → n < clusters * w → 0 < w
    positive zero l = absurd (let none : clusters * 0 ≡ 0 = omega arith in omega (arith, none, l))
    positive (suc w) l = omega arith

module _ (g : Geom) (look look' : Look) (kind : Kind) (maps maps' : List (Option Bitmap))
    (reads : IsReading (clusters_of g kind) (SpellsBits g look kind) maps) (all : AllSpelled maps)
    (reads' : IsReading (clusters_of g kind) (SpellsBits g look' kind) maps') (all' : AllSpelled maps') where
  -- what holds of each item's bits in its cluster's bitmaps holds of its bits in the kind
  pub bits-each : (P : ℕ → Bool → Bool → Type 0)
      → ((c it : ℕ) (b b' : Bitmap) → part_at maps c ≡ Some b → part_at maps' c ≡ Some b' → it < per_cluster g kind
      → P (c * per_cluster g kind + it) (bit b.used it) (bit b'.used it))
      → (n : ℕ) → n < items_of g kind → P n (bit (bits_in maps) n) (bit (bits_in maps') n)
  bits-each P each n within =
      let width : ℕ = per_cluster g kind in
      let place = item-place n (clusters_of g kind) width within in
      let c : ℕ = n / width in
      let it : ℕ = n % width in
      let one = some-is (part_at maps c) (all c (omega (arith, place.0, reads.len))) in
      let two = some-is (part_at maps' c) (all' c (omega (arith, place.0, reads'.len))) in
      let old : bit (bits_in maps) n ≡ bit one.0.used it =
      ap (bit (bits_in maps)) (sym place.2) ∙ bits-get g look kind maps c it one.0 false reads all one.1 place.1 in
      let new : bit (bits_in maps') n ≡ bit two.0.used it =
      ap (bit (bits_in maps')) (sym place.2) ∙ bits-get g look' kind maps' c it two.0 false reads' all' two.1 place.1 in
      subst (λ k. P k (bit (bits_in maps) n) (bit (bits_in maps') n)) place.2
      (subst (λ b. P (c * width + it) b (bit (bits_in maps') n)) (sym old)
      (subst (λ b. P (c * width + it) (bit one.0.used it) b) (sym new) (each c it one.0 two.0 one.1 two.1 place.1)))

  pub bits-count : length (bits_in maps') ≡ length (bits_in maps)
  bits-count = bits_length g look' kind maps' reads' all' ∙ sym (bits_length g look kind maps reads all)

  -- items that each cluster's bitmap clears
  pub clears-each : (items : List ℕ)
      → ((n : ℕ) → n < items_of g kind → (bit (bits_in maps') n ≡ true) ↔ ((bit (bits_in maps) n ≡ true) × ¬ Contains items n))
      → ClearsMarks (bits_in maps) items (bits_in maps')
  clears-each items each = record {
    count = bits-count;
    marks = λ n. (
      λ marked. (each n (omega (arith, marked-within (bits_in maps') n marked, bits_length g look' kind maps' reads' all'))).0 marked,
      λ both. (each n (omega (arith, marked-within (bits_in maps) n both.0, bits_length g look kind maps reads all))).1 both,
    );
  }
