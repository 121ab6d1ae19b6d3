-- How a list is read piece by piece.
use Rattle.std.proofs.Common.{◌≡◌, ℕ, ◌+◌, List, ◌++◌, take, drop, sym, ap, ◌∙◌}
use Rattle.std.proofs.lemmas.List.{take-append-drop, drop-drop}

-- the rest of a list is the piece that was copied and what follows it
pub drop_split : (xs ys : List ℕ) (at n : ℕ) → take n ys ≡ take n (drop at xs) → drop at xs ≡ take n ys ++ drop (at + n) xs
drop_split xs ys at n copied =
    sym (take-append-drop n (drop at xs)) ∙ (ap (λ front. front ++ drop n (drop at xs)) (sym copied) ∙ ap (λ rest. take n ys ++ rest) (drop-drop n at xs))
