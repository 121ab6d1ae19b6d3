-- Every list of bytes has a reading: what a decoder answers is there, also where no program decodes.
use Rattle.std.proofs.Common.{◌≡◌, ℕ, zero, suc, ◌+◌, ◌*◌, ◌^◌, ◌<◌, ◌≤◌, ◌⊎◌, inl, inr, Bool, true, false, ltb, eqb, List, [], ◌∷◌, ◌++◌, length, slice_index, take, drop, Option, Some, None, All, Decides, refl, sym, ap, subst, ◌∙◌, arith}
use Rattle.std.proofs.lemmas.Bool.Decides.{Decides-eqb, Decides-ltb}
use Rattle.std.proofs.lemmas.List.{append-nil, append_assoc, length-take-le, length-drop, length_push, get_or-drop}
use Rattle.std.proofs.lemmas.List.Elements.{All-nil, All-cons, All-head, All-tail}
use Rattle.std.proofs.lemmas.Slice.Eq.{bytes_eq-Decides}
use Rattle.std.specs.Str.{bytes_eq}
use Rattle.ds_base.specs.Decoding.{IsDecoded}
use Rattle.ds_bytes.specs.Fields.{little, littles, front, AllBelow}
use Rattle.ds_bytes.proofs.Fronts.{front_read, AllBelow-push}
use Rattle.ds_bytes.proofs.Little.{little_reading, littles-nil, littles_push}

-- a fact, or what contradicts it
abbrev pub Decided : Type 0 → Type 0
Decided P = P ⊎ (P → ⊥)

pub decided_by : {P : Type 0} (b : Bool) → Decides b P → Decided P
decided_by true d = inl (d.0 refl)
decided_by false d = inr (λ p. absurd (let e : false ≡ true = d.1 p in cc))

pub decided_same : {P Q : Type 0} → (P → Q) → (Q → P) → Decided P → Decided Q
decided_same there back (inl p) = inl (there p)
decided_same there back (inr n) = inr (λ q. n (back q))

pub decided_eq : (m n : ℕ) → Decided (m ≡ n)
decided_eq m n = decided_by (eqb m n) (Decides-eqb m n)

pub decided_lt : (m n : ℕ) → Decided (m < n)
decided_lt m n = decided_by (ltb m n) (Decides-ltb m n)

pub decided_le : (m n : ℕ) → Decided (m ≤ n)
decided_le m n = decided_same (λ below. omega arith) (λ most. omega arith) (decided_lt m (suc n))

pub decided_bytes : (xs ys : List ℕ) → Decided (xs ≡ ys)
decided_bytes xs ys = decided_by (bytes_eq xs ys) (bytes_eq-Decides xs ys)

pub decided_true : (b : Bool) → Decided (b ≡ true)
decided_true true = inl refl
decided_true false = inr (λ e. absurd (cc))

pub decided_not : {P : Type 0} → Decided P → Decided (P → ⊥)
decided_not (inl p) = inr (λ n. n p)
decided_not (inr n) = inl n

pub decided_both : {P Q : Type 0} → Decided P → Decided Q → Decided (P × Q)
decided_both (inl p) (inl q) = inl (p, q)
decided_both (inl p) (inr n) = inr (λ b. n b.1)
decided_both (inr n) q = inr (λ b. n b.0)

pub decided_all : {X : Type 0} (P : X → Type 0) → ((x : X) → Decided (P x)) → (xs : List X) → Decided (All P xs)
decided_all P each [] = inl (All-nil P)
decided_all P each (x ∷ xs) =
    decided_same (λ b. All-cons P x xs b.0 b.1) (λ all. (All-head P x xs all, All-tail P x xs all)) (decided_both (each x) (decided_all P each xs))

pub decided_below : (limit : ℕ) (xs : List ℕ) → 0 < limit → Decided (AllBelow limit xs)
decided_below limit [] h = inl (λ i. h)
decided_below limit (x ∷ xs) h =
    decided_same
    (λ b i. elim i as (λ k. slice_index (x ∷ xs) k < limit) [ zero ↦ b.0 | suc k ↦ b.1 k ])
    (λ all. (all 0, λ i. all (suc i)))
    (decided_both (decided_lt x limit) (decided_below limit xs h))

-- a decoder's answer is there where one candidate is the only value that can meet the description
pub reading_of : {V : Type 0} (candidate : Option V) (Describes : V → Type 0) → ((v : V) → Describes v → candidate ≡ Some v) → ((v : V) → Decided (Describes v)) → (r : Option V) × IsDecoded r Describes
reading_of None Describes only test = (None, λ v. (λ e. absurd (cc), λ d. only v d))
reading_of {V} (Some w) Describes only test =
    elim (test w) as (λ _. (r : Option V) × IsDecoded r Describes) [
      | inl d ↦ (Some w, λ v. (λ e. subst Describes (let same : w ≡ v = cc in same) d, λ d'. only v d'))
      | inr n ↦ (None, λ v. (λ e. absurd (cc), λ d'. absurd (n (subst Describes (let e : Some w ≡ Some v = only v d' in let same : v ≡ w = cc in same) d'))))
    ]

pub AllBelow-take : (limit n : ℕ) (xs : List ℕ) → 0 < limit → AllBelow limit xs → AllBelow limit (take n xs)
AllBelow-take limit zero xs h all = λ i. h
AllBelow-take limit (suc n) [] h all = λ i. h
AllBelow-take limit (suc n) (x ∷ xs) h all =
    λ i. elim i as (λ k. slice_index (x ∷ take n xs) k < limit) [ zero ↦ all 0 | suc k ↦ AllBelow-take limit n xs h (λ j. all (suc j)) k ]

pub AllBelow-drop : (limit n : ℕ) (xs : List ℕ) → AllBelow limit xs → AllBelow limit (drop n xs)
AllBelow-drop limit n xs all = λ i. rw (get_or-drop n xs i 0) (all (n + i))

-- bytes that can be read
pub record CanRead (at n : ℕ) (bytes : List ℕ) : Type 0 where
  pub within : at + n ≤ length bytes
  pub are_bytes : AllBelow 256 bytes

-- so many bytes, read as they are
pub record PieceAt (at n : ℕ) (bytes : List ℕ) : Type 0 where
  pub items : List ℕ
  pub size : length items ≡ n
  pub below : AllBelow 256 items
  pub read : front (at + n) bytes ≡ front at bytes ++ items

pub piece_at : (at n : ℕ) (bytes : List ℕ) → CanRead at n bytes → PieceAt at n bytes
piece_at at n bytes h = record {
  items = take n (drop at bytes);
  size = length-take-le n (drop at bytes) (omega (arith, length-drop at bytes, h.within));
  below = AllBelow-take 256 n (drop at bytes) (omega arith) (AllBelow-drop 256 at bytes h.are_bytes);
  read = front_read at n bytes (take n (drop at bytes)) refl;
}

-- a number of so many bytes
pub record NumberAt (at n : ℕ) (bytes : List ℕ) : Type 0 where
  pub value : ℕ
  pub below : value < 256 ^ n
  pub read : front (at + n) bytes ≡ front at bytes ++ little n value

pub number_at : (at n : ℕ) (bytes : List ℕ) → CanRead at n bytes → NumberAt at n bytes
number_at at n bytes h =
    let piece = piece_at at n bytes h in
    let number = little_reading piece.items piece.below in
    let spelled : little n number.0 ≡ piece.items = ap (λ k. little k number.0) (sym piece.size) ∙ number.2 in
    record {
      value = number.0;
      below = rw piece.size at number.1;
      read = piece.read ∙ ap (λ r. front at bytes ++ r) (sym spelled);
    }

-- so many numbers of n bytes each
pub record NumbersAt (at n k : ℕ) (bytes : List ℕ) : Type 0 where
  pub values : List ℕ
  pub count : length values ≡ k
  pub below : AllBelow (256 ^ n) values
  pub read : front (at + n * k) bytes ≡ front at bytes ++ littles n values

none_at : (at n : ℕ) (bytes : List ℕ) → front (at + n * 0) bytes ≡ front at bytes ++ littles n []
none_at at n bytes =
    ap (λ k. front k bytes) (let e : at + n * 0 ≡ at = omega arith in e) ∙ sym (append-nil (front at bytes))
    ∙ ap (λ r. front at bytes ++ r) (sym (littles-nil n))

one_more_at : (at n k v : ℕ) (bytes vs : List ℕ) → front (at + n * k) bytes ≡ front at bytes ++ littles n vs → front (at + n * k + n) bytes ≡ front (at + n * k) bytes ++ little n v → front (at + n * suc k) bytes ≡ front at bytes ++ littles n (vs ++ v ∷ [])
one_more_at at n k v bytes vs before next =
    ap (λ m. front m bytes) (let e : at + n * suc k ≡ at + n * k + n = grind arith in e) ∙ next ∙ ap (λ r. r ++ little n v) before
    ∙ append_assoc (front at bytes) (littles n vs) (little n v) ∙ ap (λ r. front at bytes ++ r) (sym (littles_push n vs v))

pub numbers_at : (at n k : ℕ) (bytes : List ℕ) → 0 < 256 ^ n → CanRead at (n * k) bytes → NumbersAt at n k bytes
numbers_at at n zero bytes some h = record { values = []; count = refl; below = λ i. some; read = none_at at n bytes }
numbers_at at n (suc k) bytes some h =
    let more : n * suc k ≡ n * k + n = grind arith in
    let before = numbers_at at n k bytes some (record { within = omega (arith, h.within); are_bytes = h.are_bytes }) in
    let next = number_at (at + n * k) n bytes (record { within = omega (arith, h.within); are_bytes = h.are_bytes }) in
    record {
      values = before.values ++ next.value ∷ [];
      count = length_push before.values next.value ∙ (let e : length before.values + 1 ≡ suc k = omega (arith, before.count) in e);
      below = AllBelow-push (256 ^ n) before.values next.value before.below next.below;
      read = one_more_at at n k next.value bytes before.values before.read next.read;
    }
