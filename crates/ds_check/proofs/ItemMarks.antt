-- Whether items are used, item by item, and rows of findings that go by it.
use Rattle.std.proofs.Common.{◌≡◌, ℕ, zero, suc, ◌+◌, ◌<◌, Bool, true, false, List, [], ◌∷◌, ◌++◌, length, map, refl, sym, ap, ◌∙◌, append_assoc, arith}
use Rattle.std.specs.Prelude.{not, nat_lt, is_some, slice_get, ◌&&◌, Result, Ok, Err, OnOk}
use Rattle.std.specs.List.{flat_map, range_with_len}
use Rattle.std.proofs.lemmas.Bool.Decides.{nat_tests}
use Rattle.std.proofs.lemmas.List.Concat.{flat_map-cons}
use Rattle.std.proofs.lemmas.List.FromFn.{get_or-map-range_with_len, map-range_with_len_more}
use Rattle.ds_base.specs.Geometry.{items_of}
use Rattle.ds_base.specs.declared.geometry.Geom.{Geom}
use Rattle.ds_base.specs.declared.geometry.Kind.{Kind}
use Rattle.ds_image_tables.specs.Owns.{bit}
use Rattle.ds_image_parts.specs.Parts.{Parts, bits_in, maps_of}
use Rattle.ds_check.specs.declared.findings.Find.{Find}
use Rattle.ds_check.specs.declared.findings.Find.TheVariants.{Marked, Unmarked}
use Rattle.ds_check.specs.Marking.{is_in_use, mismarked}
use Rattle.ds_check.specs.Rows.{find_if, row}

-- an item has a first user where it has users
pub has-first : (users : List ℕ) → is_some (slice_get users 0) ≡ nat_lt 0 (length users)
has-first [] = refl
has-first (a ∷ us) = let test : nat_lt 0 (suc (length us)) ≡ true = grind (arith, nat_tests) in sym test

-- a list that tells of the numbers below one, and then of that number
pub told-more : (f : ℕ → Bool) (n : ℕ) (before after : List Bool) (now : Bool)
    → before ≡ map f (range_with_len 0 n) → now ≡ f n → after ≡ before ++ now ∷ []
    → after ≡ map f (range_with_len 0 (n + 1))
told-more f n before after now so_far here more =
    more ∙ ap (λ xs. xs ++ now ∷ []) so_far ∙ ap (λ x. map f (range_with_len 0 n) ++ x ∷ []) here
    ∙ sym (map-range_with_len_more f 0 n n (let same : 0 + n ≡ n = omega arith in same))

-- what it tells of a number
told-at : (f : ℕ → Bool) (count n : ℕ) → n < count → bit (map f (range_with_len 0 count)) n ≡ f n
told-at f count n below = get_or-map-range_with_len f 0 count n n false below (let same : 0 + n ≡ n = omega arith in same)

alike-from : (f g : ℕ → List Find) (a n : ℕ) → ((k : ℕ) → k < a + n → f k ≡ g k)
    → flat_map f (range_with_len a n) ≡ flat_map g (range_with_len a n)
alike-from f g a zero alike = refl
alike-from f g a (suc n) alike =
    flat_map-cons f a (range_with_len (a + 1) n)
    ∙ ap (λ xs. xs ++ flat_map f (range_with_len (a + 1) n)) (alike a (omega arith))
    ∙ ap (λ xs. g a ++ xs) (alike-from f g (a + 1) n (λ k below. alike k (omega (arith, below))))
    ∙ sym (flat_map-cons g a (range_with_len (a + 1) n))

-- rows of the same findings are the same
row-alike : (count : ℕ) (f g : ℕ → List Find) → ((k : ℕ) → k < count → f k ≡ g k) → row count f ≡ row count g
row-alike count f g alike = alike-from f g 0 count (λ k below. alike k (omega (arith, below)))

-- what follows where there is a value
pub on_ok_then : {T E P Q : Type 0} (r : Result T E) → (P → Q) → OnOk r P → OnOk r Q
on_ok_then (Ok value) then holds = then holds
on_ok_then (Err fault) then holds = holds

-- the findings by lists of bits are those of the items
pub mismarked-noted : (g : Geom) (p : Parts) (kind : Kind) (marked used : List Bool) (first mid last : List Find)
    → marked ≡ bits_in (maps_of p kind)
    → used ≡ map (is_in_use g p kind) (range_with_len 0 (items_of g kind))
    → mid ≡ first ++ row (items_of g kind) (λ n. find_if (bit marked n && not (bit used n)) (Marked kind n))
    → last ≡ mid ++ row (items_of g kind) (λ n. find_if (bit used n && not (bit marked n)) (Unmarked kind n))
    → last ≡ first ++ mismarked g p kind
mismarked-noted g p kind marked used first mid last bits uses before after =
    let count = items_of g kind in
    let in_use : (n : ℕ) → n < count → bit used n ≡ is_in_use g p kind n =
    λ n below. ap (λ us. bit us n) uses ∙ told-at (is_in_use g p kind) count n below in
    let is_marked : (n : ℕ) → bit marked n ≡ bit (bits_in (maps_of p kind)) n = λ n. ap (λ ms. bit ms n) bits in
    let marked_finds : ℕ → List Find = λ n. find_if (bit (bits_in (maps_of p kind)) n && not (is_in_use g p kind n)) (Marked kind n) in
    let unmarked_finds : ℕ → List Find = λ n. find_if (is_in_use g p kind n && not (bit (bits_in (maps_of p kind)) n)) (Unmarked kind n) in
    let here : row count (λ n. find_if (bit marked n && not (bit used n)) (Marked kind n)) ≡ row count marked_finds =
    row-alike count (λ n. find_if (bit marked n && not (bit used n)) (Marked kind n)) marked_finds (λ n below.
    ap (λ m. find_if (m && not (bit used n)) (Marked kind n)) (is_marked n)
    ∙ ap (λ u. find_if (bit (bits_in (maps_of p kind)) n && not u) (Marked kind n)) (in_use n below)) in
    let there : row count (λ n. find_if (bit used n && not (bit marked n)) (Unmarked kind n)) ≡ row count unmarked_finds =
    row-alike count (λ n. find_if (bit used n && not (bit marked n)) (Unmarked kind n)) unmarked_finds (λ n below.
    ap (λ m. find_if (bit used n && not m) (Unmarked kind n)) (is_marked n)
    ∙ ap (λ u. find_if (u && not (bit (bits_in (maps_of p kind)) n)) (Unmarked kind n)) (in_use n below)) in
    after ∙ ap (λ xs. mid ++ xs) there ∙ ap (λ xs. xs ++ row count unmarked_finds) (before ∙ ap (λ xs. first ++ xs) here)
    ∙ append_assoc first (row count marked_finds) (row count unmarked_finds)
