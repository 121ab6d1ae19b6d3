-- The first bytes of a list, field by field.
use Rattle.std.proofs.Common.{◌≡◌, ℕ, zero, suc, ◌+◌, ◌-◌, ◌*◌, ◌<◌, ◌≤◌, Bool, true, false, ◌==◌, ◌&&◌, List, [], ◌∷◌, ◌++◌, length, get_or, slice_index, set, take, drop, refl, sym, ap, ◌∙◌, arith}
use Rattle.std.proofs.Math.Seq.{take-add}
use Rattle.std.proofs.lemmas.Bool.Decides.{Decides-eqb}
use Rattle.std.proofs.lemmas.List.{append_assoc, append-nil, length-append, take_all, take_at, length-take-le, drop_more, take_more_set}
use Rattle.std.proofs.lemmas.Nat.{le_bytes_2, le_bytes_4, le_bytes_8}
use Rattle.std.specs.Int.{w16, w32, w64, from_le_bytes}
use Rattle.std.specs.List.{list_all}
use Rattle.ds_bytes.specs.Fields.{little, littles, zeros, front, padded, AllBelow}
use Rattle.ds_bytes.proofs.Little.{length-zeros, little_1, littles-nil, littles_push, low_first}

pub front_none : (bytes : List ℕ) → front 0 bytes ≡ []
unfolding front
front_none bytes = refl

pub front_all : (bytes : List ℕ) → front (length bytes) bytes ≡ bytes
unfolding front
front_all bytes = take_all (length bytes) bytes (omega arith)

pub length-front : (n : ℕ) (bytes : List ℕ) → n ≤ length bytes → length (front n bytes) ≡ n
unfolding front
length-front n bytes h = length-take-le n bytes h

-- what is read next is put to the front
pub front_read : (at n : ℕ) (bytes part : List ℕ) → part ≡ take n (drop at bytes) → front (at + n) bytes ≡ front at bytes ++ part
unfolding front
front_read at n bytes part e = take-add at n bytes ∙ ap (λ r. take at bytes ++ r) (sym e)

pub front-padded : (n : ℕ) (bytes : List ℕ) → length bytes ≡ n → front n (padded bytes) ≡ bytes
unfolding front padded
front-padded n bytes e = take_at bytes (zeros (512 - length bytes)) n e

pub length-padded : (bytes : List ℕ) → length bytes ≤ 512 → length (padded bytes) ≡ 512
unfolding padded
length-padded bytes h = omega (arith, length-append bytes (zeros (512 - length bytes)), length-zeros (512 - length bytes))

-- 512 bytes are a sector as they are
pub padded_full : (bytes : List ℕ) → length bytes ≡ 512 → padded bytes ≡ bytes
unfolding padded zeros
padded_full bytes e = rw e (append-nil bytes)

-- one byte that is read next
pub front_byte : (at : ℕ) (bytes : List ℕ) → at < length bytes → get_or bytes at 0 < 256 → front (at + 1) bytes ≡ front at bytes ++ little 1 (get_or bytes at 0)
front_byte at bytes h below =
    let next : take 1 (drop at bytes) ≡ get_or bytes at 0 ∷ [] = ap (take 1) (drop_more bytes at 0 h) in
    front_read at 1 bytes (little 1 (get_or bytes at 0)) (little_1 (get_or bytes at 0) below ∙ sym next)

-- one number of four bytes more
pub front_numbers : (at i v : ℕ) (bytes out : List ℕ) → i < length out → front (at + 4 * i) bytes ≡ front at bytes ++ littles 4 (take i out) → front (at + 4 * i + 4) bytes ≡ front (at + 4 * i) bytes ++ little 4 v → front (at + 4 * (i + 1)) bytes ≡ front at bytes ++ littles 4 (take (i + 1) (set out i v))
front_numbers at i v bytes out h before next =
    let places : at + 4 * (i + 1) ≡ at + 4 * i + 4 = omega arith in
    ap (λ n. front n bytes) places ∙ next ∙ ap (λ r. r ++ little 4 v) before ∙ append_assoc (front at bytes) (littles 4 (take i out)) (little 4 v)
    ∙ ap (λ r. front at bytes ++ r) (sym (littles_push 4 (take i out) v) ∙ ap (littles 4) (sym (take_more_set out i v h)))

pub front_no_numbers : (at : ℕ) (bytes : List ℕ) → front (at + 4 * 0) bytes ≡ front at bytes ++ littles 4 []
front_no_numbers at bytes =
    ap (λ n. front n bytes) (let e : at + 4 * 0 ≡ at = omega arith in e) ∙ sym (append-nil (front at bytes))
    ∙ ap (λ r. front at bytes ++ r) (sym (littles-nil 4))

pub AllBelow-push : (limit : ℕ) (xs : List ℕ) (x : ℕ) → AllBelow limit xs → x < limit → AllBelow limit (xs ++ x ∷ [])
AllBelow-push limit [] x h below = λ i. elim i as (λ k. slice_index (x ∷ []) k < limit) [ zero ↦ below | suc k ↦ omega (arith, below) ]
AllBelow-push limit (y ∷ xs) x h below =
    λ i. elim i as (λ k. slice_index (y ∷ (xs ++ x ∷ [])) k < limit) [ zero ↦ h 0 | suc k ↦ AllBelow-push limit xs x (λ j. h (suc j)) below k ]

-- what std reads as a number is how the number is spelled
pub spells_2 : (bs : List ℕ) (n : ℕ) → length bs ≡ 2 → AllBelow 256 bs → n ≡ from_le_bytes w16 bs → bs ≡ little 2 n
spells_2 bs n len below e = sym (le_bytes_2 bs n len below e) ∙ low_first 2 n

pub spells_4 : (bs : List ℕ) (n : ℕ) → length bs ≡ 4 → AllBelow 256 bs → n ≡ from_le_bytes w32 bs → bs ≡ little 4 n
spells_4 bs n len below e = sym (le_bytes_4 bs n len below e) ∙ low_first 4 n

pub spells_8 : (bs : List ℕ) (n : ℕ) → length bs ≡ 8 → AllBelow 256 bs → n ≡ from_le_bytes w64 bs → bs ≡ little 8 n
spells_8 bs n len below e = sym (le_bytes_8 bs n len below e) ∙ low_first 8 n

and_true : (a b : Bool) → (a && b) ≡ true → (a ≡ true) × (b ≡ true)
and_true true b h = (refl, h)
and_true false b h = absurd (cc)

-- every number is zero exactly where the list is zeros
pub all_zero : (xs : List ℕ) → list_all (λ x. x == 0) xs ≡ true → xs ≡ zeros (length xs)
unfolding zeros
all_zero [] h = refl
all_zero (x ∷ xs) h =
    let both = and_true (x == 0) (list_all (λ y. y == 0) xs) h in
    let head : x ≡ 0 = (Decides-eqb x 0).0 both.0 in
    let tail : xs ≡ zeros (length xs) = all_zero xs both.1 in
    rw head (ap (λ r. 0 ∷ r) tail)

pub zero_all : (n : ℕ) → list_all (λ x. x == 0) (zeros n) ≡ true
unfolding zeros
zero_all zero = refl
zero_all (suc n) = zero_all n
