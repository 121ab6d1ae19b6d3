-- Numbers that are spelled with their lowest byte first.
use Rattle.std.proofs.Common.{◌≡◌, ℕ, zero, suc, ◌+◌, ◌*◌, ◌/◌, ◌%◌, ◌^◌, ◌<◌, List, [], ◌∷◌, ◌++◌, length, refl, sym, ap, ◌∙◌, arith}
use Rattle.std.proofs.Math.Nat.{pow-suc, div-div-eq-div-mul}
use Rattle.std.proofs.lemmas.List.{append_assoc, append-nil, length-append, length-replicate, replicate-append-replicate}
use Rattle.std.specs.Int.{bytes_low_first}
use Rattle.ds_bytes.specs.Fields.{little, littles, zeros, AllBelow}

pub length-little : (n x : ℕ) → length (little n x) ≡ n
unfolding little
length-little zero x = refl
length-little (suc n) x = ap suc (length-little n (x / 256))

-- two numbers of n bytes that are spelled alike are one
pub little_same : (n x y : ℕ) → x < 256 ^ n → y < 256 ^ n → little n x ≡ little n y → x ≡ y
unfolding little
little_same zero x y p q e = omega arith
little_same (suc n) x y p q e =
    let cells : x % 256 ∷ little n (x / 256) ≡ y % 256 ∷ little n (y / 256) = e in
    let low : x % 256 ≡ y % 256 = cc in
    let rest : little n (x / 256) ≡ little n (y / 256) = cc in
    let x_below : x < 256 ^ n * 256 = omega (arith, pow-suc 256 n) in
    let y_below : y < 256 ^ n * 256 = omega (arith, pow-suc 256 n) in
    let high : x / 256 ≡ y / 256 = little_same n (x / 256) (y / 256) (omega arith) (omega arith) rest in
    omega arith

bytes_from : (i k x : ℕ) → bytes_low_first (suc i) k x ≡ little k (x / 256 ^ suc i)
unfolding little
bytes_from i zero x = refl
bytes_from i (suc k) x =
    let step : x / 256 ^ suc i / 256 ≡ x / 256 ^ suc (suc i) = div-div-eq-div-mul x (256 ^ suc i) 256 ∙ ap (λ d. x / d) (sym (pow-suc 256 (suc i))) in
    ap (λ r. (x / 256 ^ suc i % 256) ∷ r) (bytes_from (suc i) k x ∙ ap (little k) (sym step))

-- std's spelling of a number of n bytes
pub low_first : (n x : ℕ) → bytes_low_first 0 n x ≡ little n x
unfolding little
low_first zero x = refl
low_first (suc n) x = ap (λ r. (x % 256) ∷ r) (bytes_from 0 n x)

-- a number of one byte
pub little_1 : (x : ℕ) → x < 256 → little 1 x ≡ x ∷ []
unfolding little
little_1 x h = let e : x % 256 ≡ x = omega arith in ap (λ r. r ∷ []) e

-- every list of bytes spells a number
pub little_reading : (bs : List ℕ) → AllBelow 256 bs → (x : ℕ) × (x < 256 ^ length bs) × (little (length bs) x ≡ bs)
unfolding little
little_reading [] h = (0, (omega arith), refl)
little_reading (b ∷ bs) h =
    let r = little_reading bs (λ i. h (suc i)) in
    let b_below : b < 256 = h 0 in
    let below : r.0 < 256 ^ length bs = r.1 in
    let low : (b + 256 * r.0) % 256 ≡ b = omega arith in
    let high : (b + 256 * r.0) / 256 ≡ r.0 = omega arith in
    let cells : (b + 256 * r.0) % 256 ∷ little (length bs) ((b + 256 * r.0) / 256) ≡ b ∷ bs = rw (low, high) (ap (λ t. b ∷ t) r.2) in
    (b + 256 * r.0, omega (arith, pow-suc 256 (length bs)), cells)

pub littles-nil : (n : ℕ) → littles n [] ≡ []
unfolding littles
littles-nil n = refl

pub littles-cons : (n x : ℕ) (xs : List ℕ) → littles n (x ∷ xs) ≡ little n x ++ littles n xs
unfolding littles
littles-cons n x xs = refl

pub length-littles : (n : ℕ) (xs : List ℕ) → length (littles n xs) ≡ n * length xs
length-littles n [] = rw littles-nil (omega arith)
length-littles n (x ∷ xs) =
    rw (littles-cons, length-append, length-little, length-littles n xs) (grind arith)

pub littles-append : (n : ℕ) (xs ys : List ℕ) → littles n (xs ++ ys) ≡ littles n xs ++ littles n ys
littles-append n [] ys = rw littles-nil refl
littles-append n (x ∷ xs) ys =
    littles-cons n x (xs ++ ys) ∙ ap (λ r. little n x ++ r) (littles-append n xs ys)
    ∙ sym (append_assoc (little n x) (littles n xs) (littles n ys)) ∙ ap (λ r. r ++ littles n ys) (sym (littles-cons n x xs))

pub littles_push : (n : ℕ) (xs : List ℕ) (x : ℕ) → littles n (xs ++ x ∷ []) ≡ littles n xs ++ little n x
littles_push n xs x =
    littles-append n xs (x ∷ []) ∙ ap (λ r. littles n xs ++ r) (littles-cons n x [] ∙ ap (λ r. little n x ++ r) (littles-nil n) ∙ append-nil (little n x))

-- the first parts of two equal lists are equal where they are equally long, and so are the rests
pub append_parts : (a b c d : List ℕ) → length a ≡ length c → a ++ b ≡ c ++ d → (a ≡ c) × (b ≡ d)
append_parts [] b [] d h e = (refl, e)
append_parts [] b (y ∷ c) d h e = absurd (omega arith)
append_parts (x ∷ a) b [] d h e = absurd (omega arith)
append_parts (x ∷ a) b (y ∷ c) d h e =
    let cells : x ∷ (a ++ b) ≡ y ∷ (c ++ d) = e in
    let head : x ≡ y = cc in
    let tail : a ++ b ≡ c ++ d = cc in
    let same = append_parts a b c d (omega arith) tail in
    (rw (head, same.0) refl, same.1)

pub littles_same : (n : ℕ) (xs ys : List ℕ) → length xs ≡ length ys → AllBelow (256 ^ n) xs → AllBelow (256 ^ n) ys → littles n xs ≡ littles n ys → xs ≡ ys
littles_same n [] [] h p q e = refl
littles_same n [] (y ∷ ys) h p q e = absurd (omega arith)
littles_same n (x ∷ xs) [] h p q e = absurd (omega arith)
littles_same n (x ∷ xs) (y ∷ ys) h p q e =
    let parts = append_parts (little n x) (littles n xs) (little n y) (littles n ys)
    (length-little n x ∙ sym (length-little n y)) (sym (littles-cons n x xs) ∙ e ∙ littles-cons n y ys) in
    let head : x ≡ y = little_same n x y (p 0) (q 0) parts.0 in
    let tail : xs ≡ ys = littles_same n xs ys (omega arith) (λ i. p (suc i)) (λ i. q (suc i)) parts.1 in
    rw (head, tail) refl

pub length-zeros : (n : ℕ) → length (zeros n) ≡ n
unfolding zeros
length-zeros n = length-replicate n 0

pub zeros-append : (n m : ℕ) → zeros n ++ zeros m ≡ zeros (n + m)
unfolding zeros
zeros-append n m = replicate-append-replicate n m 0

pub little-zero : (n : ℕ) → little n 0 ≡ zeros n
unfolding little zeros
little-zero zero = refl
little-zero (suc n) = ap (λ r. 0 ∷ r) (little-zero n)

zeros-suc : (n : ℕ) → zeros (suc n) ≡ 0 ∷ zeros n
unfolding zeros
zeros-suc n = refl

pub littles-zeros : (n k : ℕ) → littles n (zeros k) ≡ zeros (n * k)
unfolding zeros
littles-zeros n zero = littles-nil n ∙ ap zeros (let e : 0 ≡ n * 0 = omega arith in e)
littles-zeros n (suc k) =
    littles-cons n 0 (zeros k) ∙ ap (λ r. r ++ littles n (zeros k)) (little-zero n) ∙ ap (λ r. zeros n ++ r) (littles-zeros n k)
    ∙ zeros-append n (n * k) ∙ ap zeros (let e : n + n * k ≡ n * suc k = grind arith in e)
