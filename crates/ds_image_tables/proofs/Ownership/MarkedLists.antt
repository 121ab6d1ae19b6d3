-- One more item marked, and what a list that is marked or isn't says of ownership.
use Rattle.std.proofs.Common.{arith, ◌≡◌, ℕ, ◌+◌, ◌<◌, ◌≤◌, Bool, true, false, List, [], ◌∷◌, ◌++◌, length, take, drop, get_or, set, min, ◌-◌, refl, sym, ap, ◌∙◌, subst}
use Rattle.std.specs.Prelude.{Some, slice_get, ◌↔◌}
use Rattle.std.specs.Bool.{Decides}
use Rattle.std.specs.Cmp.Lexicographic.{pointwise}
use Rattle.std.proofs.lemmas.Slice.Eq.{slice_eq-Decides}
use mathlib.Core.Bool.{beq}
use Rattle.std.proofs.lemmas.List.{take_more, take_all, take_rest, take-append-drop, take-take, drop-take, drop_min}
use Rattle.std.proofs.lemmas.Option.{slice_get_within}
use Rattle.ds_image_tables.specs.Owns.{Owns}
use Rattle.ds_image_tables.specs.Owned.{CanMark, AddsMarks, StopsMarking}
use Rattle.ds_image_tables.proofs.Ownership.Marking.{adds-none, adds-one, adds-joined, can-none, can-one, can-front, can-back, can-joined}
use Rattle.ds_image_tables.proofs.Ownership.Owning.{adds-last, owns-adds, can-from_owns}

-- the items before number n of a list are marked
pub record MarkedFront (old : List Bool) (items : List ℕ) (n : ℕ) (now : List Bool) : Type 0 where
  pub can : CanMark old (take n items)
  pub adds : AddsMarks old (take n items) now

pub front-none : (old : List Bool) (items : List ℕ) → MarkedFront old items 0 old
front-none old items = record { can = can-none old; adds = adds-none old }

module _ (old : List Bool) (items : List ℕ) (n x : ℕ) (now : List Bool) (within : n < length items) (read : x ≡ get_or items n 0)
    (front : MarkedFront old items n now) where
  more : take (n + 1) items ≡ take n items ++ x ∷ []
  more = take_more items n 0 within ∙ ap (λ y. take n items ++ y ∷ []) (sym read)

  pub front-more : slice_get now x ≡ Some false → MarkedFront old items (n + 1) (set now x true)
  front-more free = record {
    can = subst (CanMark old) (sym more) (can-joined old now (take n items) (x ∷ []) front.can front.adds (can-one now x free));
    adds = subst (λ l. AddsMarks old l (set now x true)) (sym more)
        (adds-joined old now (set now x true) (take n items) (x ∷ []) front.adds (adds-one now x (slice_get_within now x false free)));
  }

  pub front-stops : ¬ (slice_get now x ≡ Some false) → StopsMarking old items n now
  front-stops not_free = record {
    within = within;
    before = front.can;
    marked = front.adds;
    at_fault = λ can. not_free ((can-back old now (take n items) (x ∷ []) (subst (CanMark old) more can) front.adds).clear 0 x refl);
  }

-- a list at which marking stops can't be marked
pub stops-cannot : (old : List Bool) (items : List ℕ) (n : ℕ) (now : List Bool) → StopsMarking old items n now → ¬ CanMark old items
stops-cannot old items n now stops can =
    stops.at_fault (can-front old (take (n + 1) items) (drop (n + 1) items) (subst (CanMark old) (sym (take-append-drop (n + 1) items)) can))

pub marked-owns : (old : List Bool) (items : List ℕ) (now : List Bool) → CanMark old items → AddsMarks old items now
    → (lists : List (List ℕ)) → Owns lists old → Owns (lists ++ items ∷ []) now
marked-owns old items now can adds lists owns = owns-adds lists (length lists) items (lists ++ items ∷ [])
    (adds-last lists items) old now can adds owns

pub unmarked-owns : (old : List Bool) (items : List ℕ) → ¬ CanMark old items
    → (lists : List (List ℕ)) (bits : List Bool) → Owns lists old → length bits ≡ length old → ¬ Owns (lists ++ items ∷ []) bits
unmarked-owns old items cannot lists bits owns count owns' =
    cannot (can-from_owns lists (length lists) items (lists ++ items ∷ []) (adds-last lists items) old bits owns owns' count)

pub front-all : (old : List Bool) (items : List ℕ) (n : ℕ) (now : List Bool) → length items ≤ n → MarkedFront old items n now
    → CanMark old items × AddsMarks old items now
front-all old items n now past front =
    let whole = take_all n items past in
    (subst (CanMark old) whole front.can, subst (λ l. AddsMarks old l now) whole front.adds)

decides-beq : (a b : Bool) → Decides (beq a b) (a ≡ b)
decides-beq true true = (λ same. refl, λ same. refl)
decides-beq true false = (λ no. absurd (cc), λ no. absurd (cc))
decides-beq false true = (λ no. absurd (cc), λ no. absurd (cc))
decides-beq false false = (λ same. refl, λ same. refl)

-- two rows of marks that compare equal are the same
pub same-marks : (xs ys marks : List Bool) (r : Bool) → xs ≡ marks → r ≡ pointwise beq xs ys → (r ≡ true) ↔ (marks ≡ ys)
same-marks xs ys marks r same is =
    let decides = slice_eq-Decides decides-beq xs ys r is in
    (λ yes. sym same ∙ decides.0 yes, λ alike. decides.1 (same ∙ alike))

-- what stands from a place on, or nothing past the end
pub rest-from : (marks : List Bool) (first at n : ℕ) → at ≡ min first (length marks)
    → take n (take (length marks - at) (drop at marks)) ≡ take n (drop first marks)
rest-from marks first at n is = ap (take n) (take_rest marks at ∙ ap (λ k. drop k marks) is ∙ drop_min first marks)

take-add : (n m : ℕ) (xs : List Bool) → take (n + m) xs ≡ take n xs ++ take m (drop n xs)
take-add n m xs =
    sym (take-append-drop n (take (n + m) xs))
    ∙ ap (λ l. l ++ drop n (take (n + m) xs)) (take-take n (n + m) xs (omega arith))
    ∙ ap (λ l. take n xs ++ l) (drop-take n m xs)

-- marks that begin with some and go on with others, as cluster after cluster
pub marks-go_on : (marks before bits : List Bool) (n : ℕ) → take n marks ≡ before → take (length bits) (drop n marks) ≡ bits
    → take (n + length bits) marks ≡ before ++ bits
marks-go_on marks before bits n front next =
    take-add n (length bits) marks ∙ ap (λ l. l ++ take (length bits) (drop n marks)) front ∙ ap (λ l. before ++ l) next
