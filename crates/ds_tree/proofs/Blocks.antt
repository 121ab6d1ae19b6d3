-- Which blocks files have.
use Rattle.std.proofs.Common.{◌≡◌, ℕ, ◌+◌, ◌<◌, ◌≤◌, ◌-◌, suc, zero, min, cond, Bool, true, false, List, [], ◌∷◌, ◌++◌, length, take, drop, filter, add-one, length-append, sym, ap, ◌∙◌, arith, slice_index_or}
use Rattle.std.specs.Prelude.{Result, Ok, Err, IsOk, OnOk}
use Rattle.std.specs.List.{range_with_len, slice_range}
use Rattle.std.proofs.lemmas.List.{take_min, drop_min, length-take, length-drop, take_all, take-append-le, append-nil, get_or_default}
use Rattle.std.proofs.lemmas.List.Elements.{filter-append}
use Rattle.std.proofs.Math.Nat.{min_comm}

-- a page of a list, cut within its bounds
pub page-cut : (xs : List ℕ) (from : ℕ)
    → slice_range xs (min (length xs) from) (min (length xs) (min (length xs) from + 128)) ≡ take 128 (drop from xs)
page-cut xs from =
    let low = min (length xs) from in
    let rest = drop low xs in
    let same : rest ≡ drop from xs = ap (λ n. drop n xs) (min_comm (length xs) from) ∙ drop_min from xs in
    let left : length rest ≡ length xs - low = length-drop low xs in
    let cut : min (length xs) (low + 128) - low ≡ min 128 (length rest) = omega (arith, left) in
    ap (λ n. take n rest) cut ∙ take_min 128 rest ∙ ap (take 128) same

range-push : (a n : ℕ) → range_with_len a (n + 1) ≡ range_with_len a n ++ (a + n) ∷ []
range-push a n = rw add-one (go a n)
  where
    go : (a n : ℕ) → range_with_len a (suc n) ≡ range_with_len a n ++ (a + n) ∷ []
    go a zero = ap (λ k. k ∷ []) (let e : a ≡ a + 0 = omega arith in e)
    go a (suc n) = ap (λ ks. a ∷ ks) (go (a + 1) n ∙ ap (λ k. range_with_len (a + 1) n ++ k ∷ []) (let e : a + 1 + n ≡ a + suc n = omega arith in e))

module _ (p : ℕ → Bool) (count n : ℕ) where
  abbrev found : ℕ → List ℕ
  found m = filter p (range_with_len 0 m)

  found-push : found (n + 1) ≡ found n ++ filter p (n ∷ [])
  found-push = ap (filter p) (range-push 0 n ∙ ap (λ k. range_with_len 0 n ++ k ∷ []) (let e : 0 + n ≡ n = omega arith in e)) ∙ filter-append p (range_with_len 0 n) (n ∷ [])

  -- the next number is taken
  pub take-next : (xs : List ℕ) → xs ≡ take count (found n) → length xs < count → p n ≡ true → xs ++ n ∷ [] ≡ take count (found (n + 1))
  take-next xs is short passes =
      let len : length xs ≡ min count (length (found n)) = ap length is ∙ length-take count (found n) in
      let all : take count (found n) ≡ found n = take_all count (found n) (omega arith) in
      let grown : found (n + 1) ≡ found n ++ n ∷ [] = found-push ∙ ap (λ b. found n ++ cond b (n ∷ []) []) passes in
      let more : length (found n ++ n ∷ []) ≤ count = omega (arith, length-append (found n) (n ∷ [])) in
      ap (λ ys. ys ++ n ∷ []) (is ∙ all) ∙ sym (take_all count (found n ++ n ∷ []) more) ∙ ap (take count) (sym grown)

  -- the next number does not pass
  pub skip-next : (xs : List ℕ) → xs ≡ take count (found n) → p n ≡ false → xs ≡ take count (found (n + 1))
  skip-next xs is fails = is ∙ ap (take count) (sym (found-push ∙ ap (λ b. found n ++ cond b (n ∷ []) []) fails ∙ append-nil (found n)))

  -- there are enough
  pub enough : (xs : List ℕ) → xs ≡ take count (found n) → count ≤ length xs → xs ≡ take count (found (n + 1))
  enough xs is full =
      let len : length xs ≡ min count (length (found n)) = ap length is ∙ length-take count (found n) in
      is ∙ sym (ap (take count) found-push ∙ take-append-le count (found n) (filter p (n ∷ [])) (omega arith))

-- what a read of a table tells, whatever the read's default
pub tested : (xs : List Bool) (i : ℕ) (r q : Bool) → i < length xs → r ≡ slice_index_or xs i r → slice_index_or xs i false ≡ q → r ≡ q
tested xs i r q h e is = e ∙ get_or_default xs i r false h ∙ is

pub on_ok : {T E P : Type 0} (r : Result T E) → IsOk r → OnOk r P → P
on_ok (Ok v) is p = p
on_ok (Err e) is p = absurd (cc)
