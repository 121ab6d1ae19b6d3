-- A pair that is put where the first stands that isn't below it is put in its place.
use Rattle.std.proofs.Common.{◌≡◌, ℕ, suc, ◌+◌, ◌≤◌, ◌==◌, Bool, true, false, nat_lt, if◌then◌else◌, List, [], ◌∷◌, length, refl, sym, ap, ◌∙◌, slice_get, arith}
use Rattle.std.specs.Prelude.{insert, remove}
use Rattle.std.proofs.lemmas.Bool.{false≢true}
use Rattle.ds_image_parts.specs.Pending.{Pair}
use Rattle.ds_plan_resize.specs.Ordered.{put_in, put_all_in, place_from, is_for}

place-shift : (k at : ℕ) (pairs : List Pair) → place_from (suc k) at pairs ≡ suc (place_from k at pairs)
place-shift k at [] = refl
place-shift k at (q ∷ pairs) = by (nat_lt q.0 at) (place-shift (suc k) at pairs)
  where
    by : (b : Bool) → place_from (suc (suc k)) at pairs ≡ suc (place_from (suc k) at pairs)
        → (if b then place_from (suc (suc k)) at pairs else suc k) ≡ suc (if b then place_from (suc k) at pairs else k)
    by true later = later
    by false later = refl

-- where there is a pair for the sector it goes
pub put-same : (pair : Pair) (pairs : List Pair) → is_for pair.0 (slice_get pairs (place_from 0 pair.0 pairs)) ≡ true
    → insert (remove pairs (place_from 0 pair.0 pairs)) (place_from 0 pair.0 pairs) pair ≡ put_in pair pairs
put-same pair [] there = absurd (false≢true there)
put-same pair (o ∷ pairs) there = by (nat_lt o.0 pair.0) there (put-same pair pairs)
  where
    by : (b : Bool) → is_for pair.0 (slice_get (o ∷ pairs) (if b then place_from 1 pair.0 pairs else 0)) ≡ true
        → (is_for pair.0 (slice_get pairs (place_from 0 pair.0 pairs)) ≡ true
        → insert (remove pairs (place_from 0 pair.0 pairs)) (place_from 0 pair.0 pairs) pair ≡ put_in pair pairs)
        → insert (remove (o ∷ pairs) (if b then place_from 1 pair.0 pairs else 0)) (if b then place_from 1 pair.0 pairs else 0) pair
        ≡ (if b then o ∷ put_in pair pairs else if o.0 == pair.0 then pair ∷ pairs else pair ∷ o ∷ pairs)
    by true there later =
        let shift = place-shift 0 pair.0 pairs in
        ap (λ n. insert (remove (o ∷ pairs) n) n pair) shift
        ∙ ap (λ l. o ∷ l) (later (sym (ap (λ n. is_for pair.0 (slice_get (o ∷ pairs) n)) shift) ∙ there))
    by false there later = sym (ap (λ b. if b then pair ∷ pairs else pair ∷ o ∷ pairs) there)

pub put-other : (pair : Pair) (pairs : List Pair) → is_for pair.0 (slice_get pairs (place_from 0 pair.0 pairs)) ≡ false
    → insert pairs (place_from 0 pair.0 pairs) pair ≡ put_in pair pairs
put-other pair [] other = refl
put-other pair (o ∷ pairs) other = by (nat_lt o.0 pair.0) other (put-other pair pairs)
  where
    by : (b : Bool) → is_for pair.0 (slice_get (o ∷ pairs) (if b then place_from 1 pair.0 pairs else 0)) ≡ false
        → (is_for pair.0 (slice_get pairs (place_from 0 pair.0 pairs)) ≡ false → insert pairs (place_from 0 pair.0 pairs) pair ≡ put_in pair pairs)
        → insert (o ∷ pairs) (if b then place_from 1 pair.0 pairs else 0) pair
        ≡ (if b then o ∷ put_in pair pairs else if o.0 == pair.0 then pair ∷ pairs else pair ∷ o ∷ pairs)
    by true other later =
        let shift = place-shift 0 pair.0 pairs in
        ap (λ n. insert (o ∷ pairs) n pair) shift ∙ ap (λ l. o ∷ l) (later (sym (ap (λ n. is_for pair.0 (slice_get (o ∷ pairs) n)) shift) ∙ other))
    by false other later = sym (ap (λ b. if b then pair ∷ pairs else pair ∷ o ∷ pairs) other)

-- the place is one of the pairs, or behind them
pub place-within : (at : ℕ) (pairs : List Pair) → place_from 0 at pairs ≤ length pairs
place-within at [] = omega arith
place-within at (o ∷ pairs) = by (nat_lt o.0 at) (place-within at pairs)
  where
    by : (b : Bool) → place_from 0 at pairs ≤ length pairs → (if b then place_from 1 at pairs else 0) ≤ length (o ∷ pairs)
    by true few = omega (arith, few, place-shift 0 at pairs)
    by false few = omega arith

-- with one pair more there are at most one more
pub length-put_in : (pair : Pair) (pairs : List Pair) → length (put_in pair pairs) ≤ length pairs + 1
length-put_in pair [] = omega arith
length-put_in pair (o ∷ pairs) = by (nat_lt o.0 pair.0) (o.0 == pair.0) (length-put_in pair pairs)
  where
    by : (b c : Bool) → length (put_in pair pairs) ≤ length pairs + 1
        → length (if b then o ∷ put_in pair pairs else if c then pair ∷ pairs else pair ∷ o ∷ pairs) ≤ length (o ∷ pairs) + 1
    by true c few = omega (arith, few)
    by false true few = omega arith
    by false false few = omega arith

pub length-put_all_in : (into pairs : List Pair) → length (put_all_in into pairs) ≤ length into + length pairs
length-put_all_in into [] = omega arith
length-put_all_in into (pair ∷ pairs) = omega (arith, length-put_all_in (put_in pair into) pairs, length-put_in pair into)
