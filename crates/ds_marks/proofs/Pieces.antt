-- Bytes spell the numbers that are read of them.
use Rattle.std.proofs.Common.{◌≡◌, ℕ, suc, ◌+◌, ◌*◌, ◌/◌, ◌%◌, ◌^◌, ◌<◌, List, [], ◌∷◌, ◌++◌, length, take, drop, refl, sym, ap, subst, ◌∙◌, arith}
use Rattle.std.proofs.Math.Nat.{pow-suc}
use Rattle.std.proofs.lemmas.List.{length-take-le, length-drop}
use Rattle.ds_bytes.specs.Fields.{little, front, AllBelow}
use Rattle.ds_bytes.proofs.Fronts.{front_read}
use Rattle.ds_bytes.proofs.Readings.{CanRead, AllBelow-take, AllBelow-drop}
use Rattle.ds_marks.specs.Pieces.{number_of, piece_at, number_at}

-- bytes spell the number that is read of them
number_spelled : (bs : List ℕ) → AllBelow 256 bs → (number_of bs < 256 ^ length bs) × (little (length bs) (number_of bs) ≡ bs)
unfolding little
number_spelled [] h = (omega arith, refl)
number_spelled (b ∷ bs) h =
    let rest = number_spelled bs (λ i. h (suc i)) in
    let b_below : b < 256 = h 0 in
    let below : number_of bs < 256 ^ length bs = rest.0 in
    let low : (b + 256 * number_of bs) % 256 ≡ b = omega arith in
    let high : (b + 256 * number_of bs) / 256 ≡ number_of bs = omega arith in
    let cells : (b + 256 * number_of bs) % 256 ∷ little (length bs) ((b + 256 * number_of bs) / 256) ≡ b ∷ bs = rw (low, high) (ap (λ t. b ∷ t) rest.1) in
    (omega (arith, pow-suc 256 (length bs)), cells)

pub piece_size : (at n : ℕ) (bytes : List ℕ) → CanRead at n bytes → length (piece_at at n bytes) ≡ n
piece_size at n bytes h = length-take-le n (drop at bytes) (omega (arith, length-drop at bytes, h.within))

pub piece_read : (at n : ℕ) (bytes : List ℕ) → front (at + n) bytes ≡ front at bytes ++ piece_at at n bytes
piece_read at n bytes = front_read at n bytes (take n (drop at bytes)) refl

-- a number of so many bytes
pub record IsNumberAt (at n : ℕ) (bytes : List ℕ) : Type 0 where
  pub below : number_at at n bytes < 256 ^ n
  pub read : front (at + n) bytes ≡ front at bytes ++ little n (number_at at n bytes)

pub number_read : (at n : ℕ) (bytes : List ℕ) → CanRead at n bytes → IsNumberAt at n bytes
number_read at n bytes h =
    let piece = piece_at at n bytes in
    let size = piece_size at n bytes h in
    let number = number_spelled piece (AllBelow-take 256 n (drop at bytes) (omega arith) (AllBelow-drop 256 at bytes h.are_bytes)) in
    let spells : little n (number_of piece) ≡ piece = ap (λ k. little k (number_of piece)) (sym size) ∙ number.1 in
    record {
      below = subst (λ (k : ℕ). number_of piece < 256 ^ k) size number.0;
      read = piece_read at n bytes ∙ ap (λ r. front at bytes ++ r) (sym spells);
    }
