-- The first page of a list of blocks, and those behind it.
use Rattle.std.proofs.Common.{◌≡◌, ℕ, ◌-◌, inl, inr, List, length, take, drop, min, sym, ap, ◌∙◌, length-drop, arith}
use Rattle.std.proofs.lemmas.Bool.{cases_lt}
use Rattle.std.proofs.lemmas.List.{take_all, drop_all}

pub later-pages : (m : ℕ) (xs : List ℕ) → m ≡ min 128 (length xs) → take (length xs - m) (drop m xs) ≡ drop 128 xs
later-pages m xs is = elim (cases_lt (length xs) 128) [
  | inl short ↦
      let none : length xs - m ≡ 0 = omega (arith, is, short) in
      ap (λ n. take n (drop m xs)) none ∙ sym (drop_all 128 xs (omega (arith, short)))
  | inr long ↦
      let same : m ≡ 128 = omega (arith, is, long) in
      ap (λ n. take (length xs - n) (drop n xs)) same ∙ take_all (length xs - 128) (drop 128 xs) (omega (arith, length-drop 128 xs))
]
