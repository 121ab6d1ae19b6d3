-- Sums over numbers below a bound, also in the order in which clusters are tried.
use Rattle.std.proofs.Common.{◌≡◌, ℕ, zero, suc, ◌+◌, ◌*◌, ◌/◌, ◌%◌, ◌<◌, ◌≤◌, inl, inr, List, [], ◌∷◌, ◌++◌, length, refl, sym, ap, ◌∙◌, arith}
use Rattle.std.specs.List.{sum_by, range_with_len}
use Rattle.std.specs.Prelude.{slice_index_or}
use Rattle.std.proofs.Math.Nat.{add-mod_right, div-add-mod, mod-eq_of_lt, mul-le-mul_left}
use Rattle.std.proofs.lemmas.Bool.{cases_lt}
use Rattle.std.proofs.lemmas.List.Sums.{sum_by-cons, sum_by_push}

range-more : (a n : ℕ) → range_with_len a (suc n) ≡ range_with_len a n ++ (a + n) ∷ []
range-more a zero = let none : a ≡ a + 0 = omega arith in ap (λ k. k ∷ []) none
range-more a (suc n) =
    let place : a + 1 + n ≡ a + suc n = omega arith in
    ap (λ l. a ∷ l) (range-more (a + 1) n ∙ ap (λ k. range_with_len (a + 1) n ++ k ∷ []) place)

-- the sum of what comes of the numbers below n
abbrev pub total : (ℕ → ℕ) → ℕ → ℕ
total f n = sum_by f (range_with_len 0 n)

pub total-more : (f : ℕ → ℕ) (n : ℕ) → total f (suc n) ≡ total f n + f n
total-more f n =
    let place : 0 + n ≡ n = omega arith in
    ap (sum_by f) (range-more 0 n) ∙ sum_by_push f (range_with_len 0 n) (0 + n) ∙ ap (λ k. total f n + f k) place

pub total-rises : (f : ℕ → ℕ) (m n : ℕ) → m ≤ n → total f m ≤ total f n
total-rises f m zero l = let none : m ≡ 0 = omega (arith, l) in omega (arith, ap (total f) none)
total-rises f m (suc n) l = elim (cases_lt n m) [
  | inl above ↦ let all : m ≡ suc n = omega (arith, l, above) in omega (arith, ap (total f) all)
  | inr below ↦ omega (arith, total-rises f m n below, total-more f n)
]

pub total-same : (f h : ℕ → ℕ) (n : ℕ) → ((i : ℕ) → i < n → f i ≡ h i) → total f n ≡ total h n
total-same f h zero same = refl
total-same f h (suc n) same =
    omega (arith, total-more f n, total-more h n, same n (omega arith), total-same f h n (λ i l. same i (omega (arith, l))))

total-front : (f : ℕ → ℕ) (n : ℕ) → total f (suc n) ≡ f 0 + total (λ i. f (suc i)) n
total-front f zero = omega (arith, total-more f 0)
total-front f (suc n) = omega (arith, total-more f (suc n), total-front f n, total-more (λ i. f (suc i)) n)

-- the clusters that are tried from one on and round are all clusters
pub total-tried : (f : ℕ → ℕ) (n slot : ℕ) → total (λ i. f ((slot + i) % n)) n ≡ total f n
total-tried f n zero = total-same (λ i. f ((0 + i) % n)) f n (λ i l.
    let none : 0 + i ≡ i = omega arith in
    ap (λ k. f (k % n)) none ∙ ap f (mod-eq_of_lt l))
total-tried f n (suc slot) =
    let h : ℕ → ℕ = λ i. f ((slot + i) % n) in
    let moved = total-same (λ i. f ((suc slot + i) % n)) (λ i. h (suc i)) n (λ i l. let one : suc slot + i ≡ slot + suc i = omega arith in ap (λ k. f (k % n)) one) in
    let none : slot + 0 ≡ slot = omega arith in
    let round : h n ≡ h 0 = ap f (add-mod_right slot n) ∙ ap (λ k. f (k % n)) (sym none) in
    moved ∙ (let same : total (λ i. h (suc i)) n ≡ total h n = omega (arith, total-front h n, total-more h n, round) in same) ∙ total-tried f n slot

-- a sum over a list
pub total-list : {X : Type 0} (f : X → ℕ) (d : X) (xs : List X) → sum_by f xs ≡ total (λ i. f (slice_index_or xs i d)) (length xs)
total-list f d [] = refl
total-list f d (x ∷ xs) =
    sum_by-cons f x xs ∙ ap (λ n. f x + n) (total-list f d xs)
    ∙ sym (total-front (λ i. f (slice_index_or (x ∷ xs) i d)) (length xs))

-- no cluster is tried twice
pub tried-apart : (n slot i j : ℕ) → j < n → i < j → (slot + i) % n ≡ (slot + j) % n → ⊥
tried-apart n slot i j l less same =
    let a : ℕ = slot + i in
    let b : ℕ = slot + j in
    let one : n * (a / n) + a % n ≡ a = div-add-mod a n in
    let two : n * (b / n) + b % n ≡ b = div-add-mod b n in
    elim (cases_lt (a / n) (b / n)) [
      | inl above ↦
          let step : a / n + 1 ≤ b / n = omega (arith, above) in
          let more : n * (a / n + 1) ≤ n * (b / n) = mul-le-mul_left n step in
          absurd (omega (arith, more, one, two, same, l, less))
      | inr below ↦
          let fewer : n * (b / n) ≤ n * (a / n) = mul-le-mul_left n below in
          absurd (omega (arith, fewer, one, two, same, less))
    ]
