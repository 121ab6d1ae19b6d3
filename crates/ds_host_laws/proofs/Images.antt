-- The sector that a slot or a header is encoded in spells it.
use Rattle.std.proofs.Common.{◌≡◌, ℕ, zero, suc, ◌-◌, ◌/◌, ◌<◌, true, inl, inr, List, [], ◌∷◌, ◌++◌, length}
use Rattle.std.proofs.Common.{replicate, Some, refl, sym, subst, arith}
use Rattle.std.specs.Prelude.{codes, nat_lt}
use Rattle.std.specs.List.{list_all}
use Rattle.std.proofs.lemmas.Bool.{and_parts, cases_lt}
use Rattle.std.proofs.lemmas.Bool.Decides.{nat_tests}
use Rattle.std.proofs.lemmas.List.{get_or_append_left, get_or-append_right}
use Rattle.ds_bytes.specs.Fields.{AllBelow, Field, field_bytes, little, padded, spelled, spelled_after, zeros}
use Rattle.ds_bytes.proofs.Fronts.{length-padded}
use Rattle.ds_bytes.proofs.SameFields.{length-spelled}
use Rattle.ds_marks.specs.Slot.{IsSlot, slot_bytes, slot_fields}
use Rattle.ds_marks.specs.SlotIn.{slot_in}
use Rattle.ds_marks.specs.declared.slot.Slot.{Slot}
use Rattle.ds_marks.specs.Header.{IsHeader, header_bytes, header_fields, written_owner}
use Rattle.ds_marks.specs.HeaderIn.{header_in}
use Rattle.ds_marks.specs.declared.header.Header.{Header}
use Rattle.ds_marks.proofs.HeaderIn.{header_in-IsDecoded}
use Rattle.ds_marks.proofs.Headers.{header_fields_fit}
use Rattle.ds_marks.proofs.SlotIn.{slot_in-IsDecoded}
use Rattle.ds_marks.proofs.Slots.{slot_fields_fit}

below-append : (xs ys : List ℕ) → AllBelow 256 xs → AllBelow 256 ys → AllBelow 256 (xs ++ ys)
below-append xs ys first second i = elim (cases_lt i (length xs)) [
  | inl front ↦ subst (λ n. n < 256) (sym (get_or_append_left xs ys 0 i front)) (first i)
  | inr back ↦ subst (λ n. n < 256) (sym (get_or-append_right xs ys (length xs) i 0 refl back)) (second (i - length xs))
]

below-little : (n x : ℕ) → AllBelow 256 (little n x)
unfolding little
below-little zero x i = omega arith
below-little (suc n) x zero = omega arith
below-little (suc n) x (suc i) = below-little n (x / 256) i

pub below-replicate : (n : ℕ) → AllBelow 256 (replicate n 0)
below-replicate zero i = omega arith
below-replicate (suc n) zero = omega arith
below-replicate (suc n) (suc i) = below-replicate n i

below-zeros : (n : ℕ) → AllBelow 256 (zeros n)
unfolding zeros
below-zeros n = below-replicate n

below-tested : (xs : List ℕ) → list_all (λ x. nat_lt x 256) xs ≡ true → AllBelow 256 xs
below-tested [] test i = omega arith
below-tested (x ∷ xs) test zero =
    let first : nat_lt x 256 ≡ true = (and_parts (nat_lt x 256) (list_all (λ y. nat_lt y 256) xs) test).0 in grind (arith, nat_tests)
below-tested (x ∷ xs) test (suc i) = below-tested xs (and_parts (nat_lt x 256) (list_all (λ y. nat_lt y 256) xs) test).1 i

abbrev AreBytes : List Field → Type 0
AreBytes [] = Unit {0}
AreBytes (f ∷ fs) = AllBelow 256 (field_bytes f) × AreBytes fs

below-spelled : (bytes : List ℕ) (fs : List Field) → AllBelow 256 bytes → AreBytes fs → AllBelow 256 (spelled_after bytes fs)
below-spelled bytes [] below are = below
below-spelled bytes (f ∷ fs) below are = below-spelled (bytes ++ field_bytes f) fs (below-append bytes (field_bytes f) below are.0) are.1

below-padded : (bytes : List ℕ) → AllBelow 256 bytes → AllBelow 256 (padded bytes)
unfolding padded
below-padded bytes below = below-append bytes (zeros (512 - length bytes)) below (below-zeros (512 - length bytes))

module _ (number : ℕ) (s : Slot) (small : number < 256) (is_slot : IsSlot s) (host : AllBelow 256 s.host) where
  pub below-slot : AllBelow 256 (slot_bytes number s)
  unfolding slot_bytes
  below-slot = below-padded (spelled (slot_fields number s)) (below-spelled [] (slot_fields number s) (below-tested [] refl) (
    below-tested (codes "DSHB") refl,
    (
      below-little 1 _,
      (
        below-little 1 _,
        (
          below-little 1 _,
          (
            below-little 1 _,
            (
              below-little 8 _,
              (host, (below-little 8 _, (below-little 8 _, (below-little 8 _, (below-little 4 _, tt))))),
            ),
          ),
        ),
      ),
    ),
  ))

  pub length-slot : length (slot_bytes number s) ≡ 512
  unfolding slot_bytes
  length-slot =
      let size = length-spelled (slot_fields number s) (slot_fields_fit number s small is_slot) in
      length-padded (spelled (slot_fields number s)) (omega (arith, size))

  pub slot_in-encoded : slot_in number (slot_bytes number s) ≡ Some s
  slot_in-encoded = (slot_in-IsDecoded number (slot_bytes number s) small length-slot below-slot s).1 (is_slot, refl)

module _ (h : Header) (is_header : IsHeader h) (host : AllBelow 256 (written_owner h.owner).host) where
  pub below-header : AllBelow 256 (header_bytes h)
  unfolding header_bytes
  below-header = below-padded (spelled (header_fields h)) (below-spelled [] (header_fields h) (below-tested [] refl) (
    below-tested (codes "DSLK") refl,
    (
      below-little 1 _,
      (
        below-little 1 _,
        (
          below-zeros 2,
          (below-little 4 _, (below-zeros 4, (below-little 8 _, (below-little 8 _, (host, tt))))),
        ),
      ),
    ),
  ))

  pub length-header : length (header_bytes h) ≡ 512
  unfolding header_bytes
  length-header =
      let size = length-spelled (header_fields h) (header_fields_fit h is_header) in
      length-padded (spelled (header_fields h)) (omega (arith, size))

  pub header_in-encoded : header_in (header_bytes h) ≡ Some h
  header_in-encoded = (header_in-IsDecoded (header_bytes h) length-header below-header h).1 (is_header, refl)
