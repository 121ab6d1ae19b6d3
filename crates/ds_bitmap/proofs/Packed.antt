-- Truth values that were packed are unpacked again.
use Rattle.std.proofs.Common.{◌≡◌, ℕ, zero, suc, ◌+◌, ◌*◌, ◌/◌, ◌%◌, ◌^◌, ◌<◌, ◌≤◌, Bool, true, false, cond, eqb, List, [], ◌∷◌, ◌++◌, length, map, get_or, set, slice_get, take, Some, slice_index_or, refl, sym, ap, ◌∙◌, arith}
use Rattle.std.specs.List.{range_with_len}
use Rattle.std.proofs.lemmas.List.{append_assoc, append-nil, ext_get_or, get_or-take, length-take, length-take-le}
use Rattle.std.proofs.lemmas.List.FromFn.{get_or-map-range_with_len, length-map-range_with_len, map-range_with_len_more}
use Rattle.std.proofs.lemmas.Option.{slice_get_within}
use Rattle.std.proofs.Math.Seq.{take-set-lt}
use Rattle.ds_base.specs.declared.geometry.Kind.{Kind}
use Rattle.ds_base.specs.declared.geometry.Kind.TheVariants.{Fd, Sb, Pb, Fb}
use Rattle.ds_base.specs.Geometry.{kind_number}
use Rattle.ds_bytes.specs.Fields.{little, front, spelled, FieldsFit}
use Rattle.ds_bytes.proofs.Fronts.{front-padded}
use Rattle.ds_bytes.proofs.Little.{little_1, length-zeros}
use Rattle.ds_bytes.proofs.SameFields.{length-spelled, read_same}
use Rattle.ds_bitmap.specs.Bits.{Bitmap, bit_of, byte_of, packed, bits_fields, bits_bytes}
use Rattle.ds_bitmap.specs.BitsParts.{part_fields, bit_at}
use Rattle.ds_bitmap.specs.declared.bits.BitsParts.{BitsParts}

bit_most : (used : List Bool) (i : ℕ) → bit_of used i ≤ 1
bit_most used i = elim (slice_index_or used i false) as (λ v. cond v 1 0 ≤ 1) [ true ↦ omega arith | false ↦ omega arith ]

-- the bits of a number of eight bits
record EightBits (x a b c d e f g h : ℕ) : Type 0 where
  bit_0 : x / 1 % 2 ≡ a
  bit_1 : x / 2 % 2 ≡ b
  bit_2 : x / 4 % 2 ≡ c
  bit_3 : x / 8 % 2 ≡ d
  bit_4 : x / 16 % 2 ≡ e
  bit_5 : x / 32 % 2 ≡ f
  bit_6 : x / 64 % 2 ≡ g
  bit_7 : x / 128 % 2 ≡ h
  below : x < 256

eight_bits : (a b c d e f g h : ℕ) → a ≤ 1 → b ≤ 1 → c ≤ 1 → d ≤ 1 → e ≤ 1 → f ≤ 1 → g ≤ 1 → h ≤ 1 → EightBits (a + 2 * b + 4 * c + 8 * d + 16 * e + 32 * f + 64 * g + 128 * h) a b c d e f g h
eight_bits a b c d e f g h p q r s t u v w = record {
  bit_0 = omega arith;
  bit_1 = omega arith;
  bit_2 = omega arith;
  bit_3 = omega arith;
  bit_4 = omega arith;
  bit_5 = omega arith;
  bit_6 = omega arith;
  bit_7 = omega arith;
  below = omega arith;
}

bits_of_byte : (used : List Bool) (k : ℕ) → EightBits (byte_of used k) (bit_of used (8 * k)) (bit_of used (8 * k + 1)) (bit_of used (8 * k + 2)) (bit_of used (8 * k + 3)) (bit_of used (8 * k + 4)) (bit_of used (8 * k + 5)) (bit_of used (8 * k + 6)) (bit_of used (8 * k + 7))
bits_of_byte used k =
    eight_bits (bit_of used (8 * k)) (bit_of used (8 * k + 1)) (bit_of used (8 * k + 2)) (bit_of used (8 * k + 3)) (bit_of used (8 * k + 4)) (bit_of used (8 * k + 5)) (bit_of used (8 * k + 6)) (bit_of used (8 * k + 7))
    (bit_most used (8 * k)) (bit_most used (8 * k + 1)) (bit_most used (8 * k + 2)) (bit_most used (8 * k + 3)) (bit_most used (8 * k + 4)) (bit_most used (8 * k + 5)) (bit_most used (8 * k + 6)) (bit_most used (8 * k + 7))

pub byte_below : (used : List Bool) (k : ℕ) → byte_of used k < 256
byte_below used k = (bits_of_byte used k).below

byte_bit : (used : List Bool) (k r : ℕ) → r < 8 → byte_of used k / 2 ^ r % 2 ≡ bit_of used (8 * k + r)
byte_bit used k zero h = (bits_of_byte used k).bit_0 ∙ ap (bit_of used) (let e : 8 * k ≡ 8 * k + 0 = omega arith in e)
byte_bit used k (suc zero) h = (bits_of_byte used k).bit_1
byte_bit used k (suc (suc zero)) h = (bits_of_byte used k).bit_2
byte_bit used k (suc (suc (suc zero))) h = (bits_of_byte used k).bit_3
byte_bit used k (suc (suc (suc (suc zero)))) h = (bits_of_byte used k).bit_4
byte_bit used k (suc (suc (suc (suc (suc zero))))) h = (bits_of_byte used k).bit_5
byte_bit used k (suc (suc (suc (suc (suc (suc zero)))))) h = (bits_of_byte used k).bit_6
byte_bit used k (suc (suc (suc (suc (suc (suc (suc zero))))))) h = (bits_of_byte used k).bit_7
byte_bit used k (suc (suc (suc (suc (suc (suc (suc (suc r)))))))) h = absurd (omega arith)

is_one : (v : Bool) → eqb (cond v 1 0) 1 ≡ v
is_one true = refl
is_one false = refl

-- a bit of what was packed
pub bit_again : (used : List Bool) (n i : ℕ) → i < 8 * n → bit_at (packed n used) i ≡ slice_index_or used i false
unfolding packed
bit_again used n i h =
    let byte : get_or (map (byte_of used) (range_with_len 0 n)) (i / 8) 0 ≡ byte_of used (i / 8) = get_or-map-range_with_len (byte_of used) 0 n (i / 8) (i / 8) 0 (omega arith) (omega arith) in
    let place : 8 * (i / 8) + i % 8 ≡ i = omega arith in
    let bit : byte_of used (i / 8) / 2 ^ (i % 8) % 2 ≡ bit_of used i = byte_bit used (i / 8) (i % 8) (omega arith) ∙ ap (bit_of used) place in
    ap (λ b. eqb (b / 2 ^ (i % 8) % 2) 1) byte ∙ ap (λ b. eqb b 1) bit ∙ is_one (slice_index_or used i false)

pub length-packed : (n : ℕ) (used : List Bool) → length (packed n used) ≡ n
unfolding packed
length-packed n used = length-map-range_with_len (byte_of used) 0 n

-- one byte more
pub packed_more : (start old new : List ℕ) (used : List Bool) (k b : ℕ) → old ≡ start ++ packed k used → new ≡ old ++ little 1 b → b ≡ byte_of used k → new ≡ start ++ packed (k + 1) used
unfolding packed
packed_more start old new used k b before after value =
    let byte : little 1 b ≡ byte_of used k ∷ [] = ap (little 1) value ∙ little_1 (byte_of used k) (byte_below used k) in
    after ∙ ap (λ r. r ++ little 1 b) before ∙ ap (λ r. start ++ packed k used ++ r) byte ∙ append_assoc start (packed k used) (byte_of used k ∷ [])
    ∙ ap (λ r. start ++ r) (sym (map-range_with_len_more (byte_of used) 0 k k (omega arith)))

pub packed_none : (start : List ℕ) (used : List Bool) → start ≡ start ++ packed 0 used
unfolding packed
packed_none start used = sym (append-nil start)

kind_fits : (kind : Kind) → kind_number kind < 256
kind_fits Fd = omega arith
kind_fits Sb = omega arith
kind_fits Pb = omega arith
kind_fits Fb = omega arith

pub kind_same : (a b : Kind) → kind_number a ≡ kind_number b → a ≡ b
kind_same Fd Fd e = refl
kind_same Fd Sb e = absurd (cc)
kind_same Fd Pb e = absurd (cc)
kind_same Fd Fb e = absurd (cc)
kind_same Sb Fd e = absurd (cc)
kind_same Sb Sb e = refl
kind_same Sb Pb e = absurd (cc)
kind_same Sb Fb e = absurd (cc)
kind_same Pb Fd e = absurd (cc)
kind_same Pb Sb e = absurd (cc)
kind_same Pb Pb e = refl
kind_same Pb Fb e = absurd (cc)
kind_same Fb Fd e = absurd (cc)
kind_same Fb Sb e = absurd (cc)
kind_same Fb Pb e = absurd (cc)
kind_same Fb Fb e = refl

pub bits_fields_fit : (b : Bitmap) → b.cluster < 256 → length b.used ≤ 3840 → FieldsFit (bits_fields b)
bits_fields_fit b below most = (refl, (kind_fits b.kind, (below, (omega arith, (length-zeros 24, (length-packed 480 b.used, tt))))))

pub names_bits : (bytes : List ℕ) (p : BitsParts) (b : Bitmap) → FieldsFit (part_fields p) → b.cluster < 256 → length b.used ≤ 3840 → front 512 bytes ≡ spelled (part_fields p) → bytes ≡ bits_bytes b → p.bits ≡ packed 480 b.used
unfolding bits_bytes
names_bits bytes p b fits below most read e =
    let same : part_fields p ≡ bits_fields b = read_same 512 (part_fields p) (bits_fields b) bytes refl refl fits (bits_fields_fit b below most) read e in
    cc

-- what was unpacked, as far as there are items
pub unpacked_same : (bits : List ℕ) (used all : List Bool) (n : ℕ) → bits ≡ packed 480 used → length used ≡ n → n ≤ 3840 → length all ≡ 3840 → ((i : ℕ) → i < 3840 → slice_index_or all i false ≡ bit_at bits i) → take n all ≡ used
unpacked_same bits used all n e len most size each =
    let front_size : length (take n all) ≡ n = length-take-le n all (omega arith) in
    ext_get_or false (take n all) used (front_size ∙ sym len) (λ i h.
    let below : i < n = omega arith in
    get_or-take n all i false below ∙ each i (omega arith) ∙ ap (λ b. bit_at b i) e ∙ bit_again used 480 i (omega arith))

-- one item changed, as far as there are items
pub put_front : (n : ℕ) (all used : List Bool) (i : ℕ) (v w : Bool) → take n all ≡ used → slice_get used i ≡ Some w → take n (set all i v) ≡ set used i v
put_front n all used i v w e h =
    let within : i < length used = slice_get_within used i w h in
    let size : length (take n all) ≡ length used = ap length e in
    let below : i < n = omega (arith, length-take n all) in
    take-set-lt n all i v below ∙ ap (λ xs. set xs i v) e

pub same_bitmap : (a b : Bitmap) → a.kind ≡ b.kind → a.cluster ≡ b.cluster → a.used ≡ b.used → a ≡ b
same_bitmap a b p q r =
    let made : Bitmap = record { kind = a.kind; cluster = a.cluster; used = a.used } in
    let same : made ≡ b = rw (p, q, r) refl in
    same

-- two bitmaps of one cluster that are spelled alike are one
pub bits_same : (a b : Bitmap) → a.cluster < 256 → b.cluster < 256 → length a.used ≤ 3840 → length b.used ≤ 3840 → bits_bytes a ≡ bits_bytes b → a ≡ b
unfolding bits_bytes
bits_same a b p q m n e =
    let fits = bits_fields_fit a p m in
    let read = front-padded 512 (spelled (bits_fields a)) (length-spelled (bits_fields a) fits) in
    let same : bits_fields a ≡ bits_fields b = read_same 512 (bits_fields a) (bits_fields b) (bits_bytes a) refl refl fits (bits_fields_fit b q n) read e in
    let code : kind_number a.kind ≡ kind_number b.kind = cc in
    let cluster : a.cluster ≡ b.cluster = cc in
    let count : length a.used ≡ length b.used = cc in
    let bits : packed 480 a.used ≡ packed 480 b.used = cc in
    same_bitmap a b (kind_same a.kind b.kind code) cluster (ext_get_or false a.used b.used count (λ i h.
    let below : i < 8 * 480 = omega arith in
    sym (bit_again a.used 480 i below) ∙ ap (λ bs. bit_at bs i) bits ∙ bit_again b.used 480 i below))
