-- The sectors of the pairs so far are fewer than all.
use Rattle.std.proofs.Common.{◌≡◌, ℕ, ◌<◌, ◌≤◌, List, length, map, take, ap, ◌∙◌, arith}
use Rattle.std.proofs.lemmas.List.{length-map, length-take-le}
use Rattle.ds_txn.specs.Changing.{Pair}

pub fewer : (pairs : List Pair) (items : List ℕ) (i : ℕ) → items ≡ map (λ (p : Pair). p.0) (take i pairs) → i < length pairs
    → length pairs ≤ 31
    → length items < 31
fewer pairs items i is within few =
    let count : length items ≡ i = ap length is ∙ (length-map (take i pairs) (λ (p : Pair). p.0) ∙ length-take-le i pairs (omega (
      arith,
      within,
    ))) in
    omega (arith, count, within, few)
