-- The pages that are written hold the blocks of the file from the first that changes on.
use Rattle.std.proofs.Common.{◌≡◌, ℕ, zero, suc, ◌+◌, ◌-◌, ◌*◌, ◌^◌, ◌<◌, ◌≤◌, inl, inr, List, [], ◌∷◌, length, take, drop, Some, refl, sym, ap, subst, ◌∙◌, slice_get, length-append, length-take, arith}
use Rattle.std.specs.Prelude.{slice_index}
use Rattle.std.proofs.lemmas.Bool.{cases_lt}
use Rattle.std.proofs.lemmas.List.{get_or_append_left, get_or-append_right, get_or-take, get_or-drop, get_or_past, length-replicate}
use Rattle.ds_bytes.specs.Fields.{zeros, AllBelow}
use Rattle.ds_fd.specs.declared.body.Body.{Body}
use Rattle.ds_ptr.specs.declared.ptr_block.PtrBlock.{PtrBlock}
use Rattle.ds_plan_laws_size.specs.Pages.{ptrs_in, IsPage}
use Rattle.ds_plan_laws_size.specs.Pointers.{WritesPages}
use Rattle.ds_plan_resize.proofs.Below.{below-take, below-padded, zeros-at}
use Rattle.ds_plan_resize.specs.Redos.{padded, pages_of}

-- page number i of a list of blocks
abbrev pub page_at : List ℕ → ℕ → PtrBlock
page_at blocks i = record { addresses = padded 128 (take 128 (drop (128 * i) blocks)) }

drop-128 : (i : ℕ) (blocks : List ℕ) → drop (128 * i) (drop 128 blocks) ≡ drop (128 * suc i) blocks
drop-128 i blocks = drop-twice 128 (128 * i) blocks ∙ (let sum : 128 + 128 * i ≡ 128 * suc i = omega arith in ap (λ n. drop n blocks) sum)
  where
    drop-twice : (m n : ℕ) (xs : List ℕ) → drop n (drop m xs) ≡ drop (m + n) xs
    drop-twice zero n xs = let none : n ≡ 0 + n = omega arith in ap (λ k. drop k xs) none
    drop-twice (suc m) zero [] = let sum : suc m ≡ suc m + 0 = omega arith in ap (λ k. drop k []) sum
    drop-twice (suc m) (suc n) [] = let sum : suc (m + suc n) ≡ suc m + suc n = omega arith in ap (λ k. drop k []) sum
    drop-twice (suc m) n (x ∷ xs) = let sum : suc (m + n) ≡ suc m + n = omega arith in drop-twice m n xs ∙ ap (λ k. drop k (x ∷ xs)) sum

-- the pages are those of the list, one for each of the pointer blocks
pub pages-at : (blocks pointers : List ℕ) (i : ℕ) (x : ℕ × PtrBlock) → slice_get (pages_of blocks pointers) i ≡ Some x
    → (slice_get pointers i ≡ Some x.0) × (x.1 ≡ page_at blocks i)
pages-at blocks [] i x at = absurd cc
pages-at blocks (n ∷ pointers) zero x at =
    let same : (n, page_at blocks 0) ≡ x = cc in
    (ap (λ (y : ℕ × PtrBlock). Some y.0) same, sym (ap (λ (y : ℕ × PtrBlock). y.1) same))
pages-at blocks (n ∷ pointers) (suc i) x at =
    let rest = pages-at (drop 128 blocks) pointers i x at in
    (rest.0, rest.1 ∙ ap (λ l. record { addresses = padded 128 (take 128 l) }) (drop-128 i blocks))

pub at-pages : (blocks pointers : List ℕ) (i n : ℕ) → slice_get pointers i ≡ Some n → slice_get (pages_of blocks pointers) i ≡ Some (n, page_at blocks i)
at-pages blocks [] i n at = absurd cc
at-pages blocks (m ∷ pointers) zero n at = let same : m ≡ n = cc in ap (λ k. Some (k, page_at blocks 0)) same
at-pages blocks (m ∷ pointers) (suc i) n at =
    at-pages (drop 128 blocks) pointers i n at ∙ ap (λ (l : List ℕ). Some (n, record { addresses = padded 128 (take 128 l) })) (drop-128 i blocks)

length-padded : (n : ℕ) (xs : List ℕ) → length xs ≤ n → length (padded n xs) ≡ n
unfolding zeros
length-padded n xs l = omega (arith, length-append xs (zeros (n - length xs)), length-replicate {A = ℕ} (n - length xs) 0, l)

padded-at : (n : ℕ) (xs : List ℕ) (i : ℕ) → slice_index (padded n xs) i ≡ slice_index xs i
padded-at n xs i = elim (cases_lt i (length xs)) [
  | inl front ↦ get_or_append_left xs (zeros (n - length xs)) 0 i front
  | inr back ↦
      get_or-append_right xs (zeros (n - length xs)) (length xs) i 0 refl back ∙ zeros-at (n - length xs) (i - length xs) ∙ sym (get_or_past xs i 0 back)
]

-- pages of the end of a list are pages of the list
pub page-is : (all : List ℕ) (first i : ℕ) → IsPage all (first + i) (page_at (drop (128 * first) all) i).addresses
page-is all first i = record {
  count = length-padded 128 (take 128 (drop (128 * i) (drop (128 * first) all))) (omega (arith, length-take 128 (drop (128 * i) (drop (128 * first) all))));
  each = λ j small.
      let place : 128 * first + (128 * i + j) ≡ 128 * (first + i) + j = omega arith in
      padded-at 128 (take 128 (drop (128 * i) (drop (128 * first) all))) j
      ∙ get_or-take 128 (drop (128 * i) (drop (128 * first) all)) j 0 small
      ∙ get_or-drop (128 * i) (drop (128 * first) all) j 0
      ∙ get_or-drop (128 * first) all (128 * i + j) 0
      ∙ ap (slice_index all) place;
}

pub dropped-at : (xs : List ℕ) (first k n : ℕ) → slice_get (drop first xs) k ≡ Some n → slice_get xs (first + k) ≡ Some n
dropped-at xs zero k n at = let none : 0 + k ≡ k = omega arith in ap (slice_get xs) none ∙ at
dropped-at [] (suc first) k n at = absurd cc
dropped-at (x ∷ xs) (suc first) k n at =
    let next : suc first + k ≡ suc (first + k) = omega arith in
    ap (slice_get (x ∷ xs)) next ∙ dropped-at xs first k n at

at-dropped : (xs : List ℕ) (first k n : ℕ) → slice_get xs (first + k) ≡ Some n → slice_get (drop first xs) k ≡ Some n
at-dropped xs zero k n at = let none : k ≡ 0 + k = omega arith in ap (slice_get xs) none ∙ at
at-dropped [] (suc first) k n at = absurd (nothing (suc first + k) at)
  where
    nothing : (j : ℕ) → slice_get {X = ℕ} [] j ≡ Some n → ⊥
    nothing j at = cc
at-dropped (x ∷ xs) (suc first) k n at =
    let next : suc (first + k) ≡ suc first + k = omega arith in
    at-dropped xs first k n (ap (slice_get (x ∷ xs)) next ∙ at)

-- so they are written
pub pages-write : (b b' : Body) (all : List ℕ) (first : ℕ) → 128 * first ≤ b.count → 128 * first ≤ b'.count → AllBelow (2 ^ 32) (drop (128 * first) all)
    → ((k l n : ℕ) → slice_get (ptrs_in b') k ≡ Some n → slice_get (ptrs_in b') l ≡ Some n → k ≡ l)
    → WritesPages b b' all first (pages_of (drop (128 * first) all) (drop first (ptrs_in b')))
pages-write b b' all first before after below once =
    let list : List ℕ = drop (128 * first) all in
    let pointers : List ℕ = drop first (ptrs_in b') in
    record {
      full_before = before;
      full_after = after;
      once = λ i j x y one two same.
          let at = dropped-at (ptrs_in b') first i x.0 (pages-at list pointers i x one).0 in
          let at' = dropped-at (ptrs_in b') first j y.0 (pages-at list pointers j y two).0 in
          let places = once (first + i) (first + j) y.0 (at ∙ ap Some same) at' in
          omega (arith, places);
      each = λ i x at.
          let is = pages-at list pointers i x at in
          let page : IsPage all (first + i) x.1.addresses = subst (λ (p : PtrBlock). IsPage all (first + i) p.addresses) (sym is.1) (page-is all first i) in
          record {
            place = first + i;
            late = omega arith;
            listed = dropped-at (ptrs_in b') first i x.0 is.0;
            is_block = record {
              count = page.count;
              below = subst (λ (p : PtrBlock). AllBelow (2 ^ 32) p.addresses) (sym is.1)
                  (below-padded (2 ^ 32) 128 (take 128 (drop (128 * i) list)) (omega arith) (below-take (2 ^ 32) 128 (drop (128 * i) list) (below-drop list (128 * i) below)));
            };
            page = page;
          };
      all = λ k n late at.
          let place : first + (k - first) ≡ k = omega (arith, late) in
          let there = at-dropped (ptrs_in b') first (k - first) n (ap (slice_get (ptrs_in b')) place ∙ at) in
          (k - first, ((n, page_at list (k - first)), at-pages list pointers (k - first) n there, refl));
    }
  where
    below-drop : (xs : List ℕ) (m : ℕ) → AllBelow (2 ^ 32) xs → AllBelow (2 ^ 32) (drop m xs)
    below-drop xs m all i = subst (λ n. n < 2 ^ 32) (sym (get_or-drop m xs i 0)) (all (m + i))
