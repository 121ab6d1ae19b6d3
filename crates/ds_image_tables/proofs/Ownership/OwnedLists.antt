-- Ownership by the lists of all descriptors, list after list.
use Rattle.std.proofs.Common.{◌≡◌, ℕ, ◌+◌, ◌<◌, ◌≤◌, ◌↔◌, Bool, true, false, List, [], ◌∷◌, ◌++◌, length, take, map, get_or, Some, inl, inr, sym, ap, subst, ◌∙◌, arith, slice_get}
use Rattle.std.proofs.lemmas.Bool.{cases_lt, cases_Bool}
use Rattle.std.proofs.lemmas.List.{length-take, get_or-take, get_or_past, take_all, map_more, take-map, get_or-map}
use Rattle.ds_image_tables.specs.Owned.{CanMark}
use Rattle.ds_image_tables.specs.Owns.{Owns, IsAt, list_of, bit}
use Rattle.ds_image_tables.proofs.Ownership.Owning.{owns-same_bits}
use Rattle.ds_image_tables.proofs.Spelling.Places.{marked-within, bit-at}

-- the lists before one list what they list in all, and the others nothing
before-at : (lists : List (List ℕ)) (n o i x : ℕ) → IsAt (take n lists) o i x → (o < n) × IsAt lists o i x
before-at lists n o i x at = elim (cases_lt o n) [
  | inl below ↦ (below, subst (λ l. slice_get l i ≡ Some x) (get_or-take n lists o [] below) at)
  | inr past ↦ absurd (let nothing : slice_get [] i ≡ Some x = subst (λ l. slice_get l i ≡ Some x) (past_taken past) at in cc)
]
  where
    past_taken : n ≤ o → list_of (take n lists) o ≡ []
    past_taken past = get_or_past (take n lists) o [] (omega (arith, length-take n lists))

-- where all lists own their items, those of one can be marked behind those of the lists before
pub can-from_all : (lists : List (List ℕ)) (n : ℕ) (marks bits : List Bool) → Owns (take n lists) marks → Owns lists bits
    → length marks ≡ length bits → CanMark marks (list_of lists n)
can-from_all lists n marks bits before all count = record {
  clear = λ i x at.
      let within : x < length marks = omega (arith, marked-within bits x (all.marked n i x at), count) in
      let clear : bit marks x ≡ false = elim (cases_Bool (bit marks x)) [
        | inl marked ↦
            let was = before.listed x marked in
            let at' = before-at lists n was.0 was.1.0 x was.1.1 in
            absurd (let same = all.once was.0 was.1.0 n i x at'.1 at in omega (arith, same.0, at'.0))
        | inr clear ↦ clear
      ] in
      bit-at marks x within ∙ ap Some clear;
  once = λ i j x one two. (all.once n i n j x one two).1;
}

pub owned-more : {B : Type 0} (f : B → List ℕ) (bodies : List B) (n : ℕ) (d : B) (items : List ℕ) (marks : List Bool) → n < length bodies
    → items ≡ f (get_or bodies n d)
    → Owns (map f (take n bodies) ++ items ∷ []) marks → Owns (map f (take (n + 1) bodies)) marks
owned-more f bodies n d items marks within is owns =
    subst (λ lists. Owns lists marks) (ap (λ l. map f (take n bodies) ++ l ∷ []) is ∙ sym (map_more f bodies n d within)) owns

pub owned-not : {B : Type 0} (f : B → List ℕ) (bodies : List B) (n : ℕ) (d : B) (items : List ℕ) (marks bits : List Bool)
    → n < length bodies → items ≡ f (get_or bodies n d)
    → Owns (map f (take n bodies)) marks → length marks ≡ length bits → ¬ CanMark marks items → ¬ Owns (map f bodies) bits
owned-not f bodies n d items marks bits within is before count cannot all =
    cannot (subst (CanMark marks) (get_or-map f bodies n d [] within ∙ sym is)
    (can-from_all (map f bodies) n marks bits (subst (λ lists. Owns lists marks) (sym (take-map f n bodies)) before) all count))

pub owned-all : {B : Type 0} (f : B → List ℕ) (bodies : List B) (n : ℕ) (marks bits : List Bool) (r : Bool) → length bodies ≤ n
    → Owns (map f (take n bodies)) marks → length marks ≡ length bits
    → (r ≡ true) ↔ (marks ≡ bits) → (r ≡ true) ↔ Owns (map f bodies) bits
owned-all f bodies n marks bits r past owns count same =
    let all : Owns (map f bodies) marks = subst (λ bs. Owns (map f bs) marks) (take_all n bodies past) owns in
    (λ yes. subst (Owns (map f bodies)) (same.0 yes) all, λ owns'. same.1 (owns-same_bits (map f bodies) marks bits count all owns'))
