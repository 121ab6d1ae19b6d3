-- Rooms of directories, and the objects that they name.
use Rattle.std.proofs.Common.{◌≡◌, ◌≢◌, ℕ, ◌+◌, ◌<◌, ◌≤◌, cond, Bool, eqb, List, [], ◌∷◌, ◌++◌, length, take, get_or, Option, None, Some, refl, sym, ap, ◌∙◌, append_assoc, arith}
use Rattle.std.specs.List.{flat_map, filter_map, range_with_len}
use Rattle.std.proofs.lemmas.Bool.{ne_eqb}
use Rattle.std.proofs.lemmas.Grind.{flat_map-append}
use Rattle.std.proofs.lemmas.List.{append-nil, take_more}
use Rattle.std.proofs.lemmas.List.Elements.{filter_map-append}
use Rattle.std.proofs.lemmas.List.Sums.{sum_by_push}
use Rattle.ds_image_tables.specs.NameCounts.{CountsNames}
use Rattle.ds_image_parts.specs.Parts.{Parts}
use Rattle.ds_check.specs.Entries.{rooms_at}
use Rattle.ds_check.specs.Names.{named_in}
use Rattle.ds_check.proofs.Rows.{range-more}

-- the objects that the rooms of the first directories name
abbrev pub named_below : Parts → ℕ → List ℕ
named_below p n = flat_map (λ o. filter_map (named_in p) (rooms_at p o)) (range_with_len 0 n)

-- those of one more directory
pub named-more : (p : Parts) (n : ℕ) → named_below p (n + 1) ≡ named_below p n ++ filter_map (named_in p) (rooms_at p n)
named-more p n =
    let f : ℕ → List ℕ = λ o. filter_map (named_in p) (rooms_at p o) in
    ap (flat_map f) (range-more n) ∙ flat_map-append f (range_with_len 0 n) (n ∷ []) ∙ ap (λ rest. flat_map f (range_with_len 0 n) ++ rest) (append-nil (f n))

-- no more are kept than there were
kept-first : {A B : Type 0} (f : A → Option B) (x : A) (xs : List A) (r : Option B) → f x ≡ r → length (filter_map f xs) ≤ length xs
    → length (filter_map f (x ∷ xs)) ≤ length (x ∷ xs)
kept-first f x xs None is few = rw is (omega (arith, few))
kept-first f x xs (Some y) is few = rw is (omega (arith, few))

pub kept-few : {A B : Type 0} (f : A → Option B) (xs : List A) → length (filter_map f xs) ≤ length xs
kept-few f [] = omega arith
kept-few f (x ∷ xs) = kept-first f x xs (f x) refl (kept-few f xs)

-- the names in one more room
pub kept-more : {A B : Type 0} (f : A → Option B) (before : List B) (xs : List A) (i : ℕ) (d : A) → i < length xs
    → (before ++ filter_map f (take i xs)) ++ filter_map f (get_or xs i d ∷ []) ≡ before ++ filter_map f (take (i + 1) xs)
kept-more f before xs i d within =
    append_assoc before (filter_map f (take i xs)) (filter_map f (get_or xs i d ∷ []))
    ∙ ap (λ rest. before ++ rest) (sym (filter_map-append f (take i xs) (get_or xs i d ∷ [])) ∙ ap (filter_map f) (sym (take_more xs i d within)))

abbrev one : Bool → ℕ
one b = cond b 1 0

-- a name of an object that the table doesn't have
pub counts-past : (table named : List ℕ) (object : ℕ) → length table ≤ object → CountsNames table named → CountsNames table (named ++ object ∷ [])
counts-past table named object past counts = λ n within.
    let other : object ≢ n = λ same. absurd (omega (arith, same, past, within)) in
    let none : one (eqb object n) ≡ 0 = ap one (ne_eqb object n other) in
    let more = sum_by_push (λ o. one (eqb o n)) named object in
    counts n within ∙ omega (arith, none, more)
