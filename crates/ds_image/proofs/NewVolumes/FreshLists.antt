-- Lists of parts that are made one for each number.
use Rattle.std.proofs.Common.{◌≡◌, ℕ, zero, suc, ◌+◌, ◌-◌, ◌*◌, ◌<◌, ◌≤◌, ⊎_elim, Bool, true, false, List, [], ◌∷◌, ◌++◌, map, length, replicate, get_or, slice_get, slice_set, Option, Some, None, IsSome, refl, sym, ap, subst, ◌∙◌, arith}
use Rattle.std.proofs.lemmas.Bool.{false≢true, cases_lt}
use Rattle.std.proofs.lemmas.List.{get_or_past, get_or-replicate, length-replicate, replicate-append-replicate}
use Rattle.std.proofs.lemmas.List.FromFn.{length-map-range_with_len, get_or-map-range_with_len}
use Rattle.std.specs.List.{flat_map, range_with_len}
use Rattle.ds_base.specs.Decoding.{IsDecoded}
use Rattle.ds_bitmap.specs.Bits.{Bitmap}
use Rattle.ds_image_tables.specs.Owns.{Owns, list_of, bit}
use Rattle.ds_image_parts.specs.Parts.{part_at, AllSpelled, used_bits, bits_in}
use Rattle.ds_image_parts.specs.Readings.{IsReading}

-- the parts with the numbers below n
abbrev pub made : {V : Type 0} → (ℕ → V) → ℕ → List (Option V)
made f n = map (λ i. Some (f i)) (range_with_len 0 n)

pub length-made : {V : Type 0} (f : ℕ → V) (n : ℕ) → length (made f n) ≡ n
length-made {V = V} f n = let some : ℕ → Option V = λ i. Some (f i) in length-map-range_with_len some 0 n

pub made_at : {V : Type 0} (f : ℕ → V) (n i : ℕ) → i < n → part_at (made f n) i ≡ Some (f i)
made_at {V = V} f n i l = let some : ℕ → Option V = λ k. Some (f k) in get_or-map-range_with_len some 0 n i i None l (omega arith)

-- what holds of none and of each part holds at each number
pub each_made : {V : Type 0} (f : ℕ → V) (n : ℕ) (P : Option V → Type 0) → P None → ((i : ℕ) → P (Some (f i))) → (i : ℕ) → P (part_at (made f n) i)
each_made f n P none some i =
    ⊎_elim
    (λ (below : i < n). subst P (sym (made_at f n i below)) (some i))
    (λ (past : n ≤ i). subst P (sym (get_or_past (made f n) i None (omega (arith, length-made f n)))) none)
    (cases_lt i n)

pub all_made : {V : Type 0} (f : ℕ → V) (n : ℕ) → AllSpelled (made f n)
all_made {V = V} f n i l =
    let Spelled : Option V → Type 0 = λ part. IsSome part in
    subst Spelled (sym (made_at f n i (omega (arith, length-made f n)))) refl

-- they are what their sectors spell where each of them is
pub reading_made : {V : Type 0} (n : ℕ) (Spells : ℕ → V → Type 0) (f : ℕ → V) → ((i : ℕ) → i < n → IsDecoded (Some (f i)) (Spells i)) → IsReading n Spells (made f n)
reading_made {V = V} n Spells f each = record {
  len = length-made f n;
  each = λ i l. let P : Option V → Type 0 = λ part. IsDecoded part (Spells i) in subst P (sym (made_at f n i l)) (each i l);
}

-- a value that alone is described is what is decoded
pub decoded_one : {V : Type 0} (v : V) (Describes : V → Type 0) → Describes v → ((w : V) → Describes w → w ≡ v) → IsDecoded (Some v) Describes
decoded_one v Describes is only w = (λ e. let same : v ≡ w = cc in subst Describes same is, λ d. ap Some (sym (only w d)))

-- what is the same of all parts from a number on makes a list of this alone
same_from : {V X : Type 0} (g : Option V → X) (f : ℕ → V) (c : X) (a n : ℕ) → ((i : ℕ) → a ≤ i → g (Some (f i)) ≡ c) → map g (map (λ i. Some (f i)) (range_with_len a n)) ≡ replicate n c
same_from g f c a zero same = refl
same_from g f c a (suc n) same =
    let here : g (Some (f a)) ≡ c = same a (omega arith) in
    let rest : map g (map (λ i. Some (f i)) (range_with_len (a + 1) n)) ≡ replicate n c = same_from g f c (a + 1) n (λ i l. same i (omega arith)) in
    ap (λ x. x ∷ map g (map (λ i. Some (f i)) (range_with_len (a + 1) n))) here ∙ ap (λ xs. c ∷ xs) rest

-- and where this is so of all but the first, the first stands before it
pub first_and_same : {V X : Type 0} (g : Option V → X) (f : ℕ → V) (c : X) (n : ℕ) → 1 ≤ n → ((i : ℕ) → 1 ≤ i → g (Some (f i)) ≡ c) → map g (made f n) ≡ g (Some (f 0)) ∷ replicate (n - 1) c
first_and_same g f c zero one same = absurd (omega arith)
first_and_same g f c (suc n) one same =
    let less : suc n - 1 ≡ n = omega arith in
    ap (λ xs. g (Some (f 0)) ∷ xs) (same_from g f c (0 + 1) n (λ i l. same i (omega arith)) ∙ ap (λ k. replicate k c) (sym less))

-- the bits of clear bitmaps
clear_from : (f : ℕ → Bitmap) (per a n : ℕ) → ((i : ℕ) → a ≤ i → (f i).used ≡ replicate per false) → flat_map used_bits (map (λ i. Some (f i)) (range_with_len a n)) ≡ replicate (n * per) false
clear_from f per a zero clear = let none : 0 * per ≡ 0 = omega arith in ap (λ k. replicate k false) (sym none)
clear_from f per a (suc n) clear =
    let rest = clear_from f per (a + 1) n (λ i l. clear i (omega arith)) in
    let here : (f a).used ≡ replicate per false = clear a (omega arith) in
    let size : per + n * per ≡ suc n * per = grind arith in
    ap (λ xs. xs ++ flat_map used_bits (map (λ i. Some (f i)) (range_with_len (a + 1) n))) here
    ∙ ap (λ xs. replicate per false ++ xs) rest
    ∙ replicate-append-replicate per (n * per) false
    ∙ ap (λ k. replicate k false) size

pub clear_bits_in : (f : ℕ → Bitmap) (per n : ℕ) → ((i : ℕ) → (f i).used ≡ replicate per false) → bits_in (made f n) ≡ replicate (n * per) false
clear_bits_in f per n clear = clear_from f per 0 n (λ i l. clear i)

-- the bits where the first item alone is used
pub first_bit_in : (f : ℕ → Bitmap) (per n : ℕ) → 1 ≤ n → 1 ≤ per → (f 0).used ≡ slice_set (replicate per false) 0 true → ((i : ℕ) → 1 ≤ i → (f i).used ≡ replicate per false) → bits_in (made f n) ≡ true ∷ replicate (n * per - 1) false
first_bit_in f per zero one some first clear = absurd (omega arith)
first_bit_in f zero (suc n) one some first clear = absurd (omega arith)
first_bit_in f (suc per) (suc n) one some first clear =
    let size : per + n * suc per ≡ suc n * suc per - 1 = grind arith in
    ap (λ xs. xs ++ flat_map used_bits (map (λ i. Some (f i)) (range_with_len (0 + 1) n))) first
    ∙ ap (λ xs. (true ∷ replicate per false) ++ xs) (clear_from f (suc per) (0 + 1) n (λ i l. clear i (omega arith)))
    ∙ ap (λ xs. true ∷ xs) (replicate-append-replicate per (n * suc per) false ∙ ap (λ k. replicate k false) size)

-- a list of one value alone has it everywhere
pub get_or-replicate_same : {X : Type 0} (n i : ℕ) (x : X) → get_or (replicate n x) i x ≡ x
get_or-replicate_same n i x =
    ⊎_elim
    (λ (below : i < n). get_or-replicate n i x x below)
    (λ (past : n ≤ i). get_or_past (replicate n x) i x (omega (arith, length-replicate n x)))
    (cases_lt i n)

-- nothing stands in an empty list
pub none_there : {X : Type 0} (xs : List X) (i : ℕ) (x : X) → xs ≡ [] → ¬ (slice_get xs i ≡ Some x)
none_there {X = X} xs i x e h =
    let none : slice_get xs i ≡ None = ap (λ (ys : List X). slice_get ys i) e in
    absurd cc

-- where nothing is listed and no bit is set, each item is owned as it has to be
pub owns_nothing : (lists : List (List ℕ)) (bits : List Bool) → ((o : ℕ) → list_of lists o ≡ []) → ((x : ℕ) → bit bits x ≡ false) → Owns lists bits
owns_nothing lists bits none clear = record {
  once = λ o i p j x a b. absurd (none_there (list_of lists o) i x (none o) a);
  marked = λ o i x a. absurd (none_there (list_of lists o) i x (none o) a);
  listed = λ x set. absurd (false≢true (sym (clear x) ∙ set));
}
