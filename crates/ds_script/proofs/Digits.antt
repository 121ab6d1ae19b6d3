-- What digits write, from the front.
use Rattle.std.proofs.Common.{◌≡◌, ℕ, zero, suc, ◌+◌, ◌-◌, ◌*◌, ◌≤◌, ◌<◌, List, [], ◌∷◌, length, get_or, drop, refl, arith}
use Rattle.ds_tree.specs.Lines.{value_from}

-- more digits don't make a number smaller
pub least_value : (n : ℕ) (bs : List ℕ) → n ≤ value_from n bs
unfolding value_from
least_value n [] = omega arith
least_value n (b ∷ bs) = omega (arith, least_value (10 * n + (b - 48)) bs)

pub value_from-none : (n i : ℕ) (bs : List ℕ) → length bs ≤ i → value_from n (drop i bs) ≡ n
unfolding value_from
value_from-none n zero [] end = refl
value_from-none n (suc i) [] end = refl
value_from-none n zero (b ∷ bs) end = absurd (omega (arith, end))
value_from-none n (suc i) (b ∷ bs) end = value_from-none n i bs (omega (arith, end))

-- one digit more
pub value_from-next : (n i : ℕ) (bs : List ℕ) (d : ℕ) → i < length bs
    → value_from n (drop i bs) ≡ value_from (10 * n + (get_or bs i d - 48)) (drop (i + 1) bs)
unfolding value_from
value_from-next n i [] d within = absurd (omega (arith, within))
value_from-next n zero (b ∷ bs) d within = refl
value_from-next n (suc i) (b ∷ bs) d within =
    let next : suc i + 1 ≡ suc (i + 1) = omega arith in
    rw next (value_from-next n i bs d (omega (arith, within)))

pub least_next : (n i : ℕ) (bs : List ℕ) (d : ℕ) → i < length bs
    → 10 * n + (get_or bs i d - 48) ≤ value_from n (drop i bs)
least_next n i bs d within =
    omega (arith, value_from-next n i bs d within, least_value (10 * n + (get_or bs i d - 48)) (drop (i + 1) bs))

pub ruleset digit_steps = (least_next, value_from-none, value_from-next)
