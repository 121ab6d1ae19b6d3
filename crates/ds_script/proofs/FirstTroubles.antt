-- A text has at most one first line that can't stand, and for one cause.
use Rattle.std.proofs.Common.{◌≡◌, ℕ, zero, suc, inl, inr, Bool, true, false, List, [], ◌∷◌, Option, Some, None, refl, sym, subst, ◌∙◌, arith}
use Rattle.std.specs.Prelude.{slice_index_or, if◌then◌else◌, cond, not}
use Rattle.std.proofs.lemmas.Bool.{cases_order, false≢true}
use Rattle.ds_tree.specs.Lines.{words_of, is_comment, kept}
use Rattle.ds_script.specs.declared.faults.LineFault.{LineFault}
use Rattle.ds_script.specs.declared.faults.What.{What}
use Rattle.ds_script.proofs.Fronts.{words_of-none}
use Rattle.ds_script.specs.Faults.{Judge, Trouble, Bad, Large, trouble_at, IsFirst, LacksVolume, IsFirstBad, PassesLimit}

-- no line is one that can't stand, and the volume line isn't wanting
pub record IsGood (judge : Judge) (lines : List (List ℕ)) : Type 0 where
  pub stands : (k : ℕ) → trouble_at judge lines k ≡ None
  pub some : kept lines ≡ [] → ⊥

module _ (judge : Judge) (lines : List (List ℕ)) where
  apart : (t : Trouble) (o : Option Trouble) → o ≡ None → o ≡ Some t → ⊥
  apart t o none some = absurd cc

  pub first_same : (k i : ℕ) (t u : Trouble) → IsFirst judge lines k t → IsFirst judge lines i u → (k ≡ i) × (t ≡ u)
  first_same k i t u first other =
      elim (cases_order k i) [
        | inl same ↦
            let here : trouble_at judge lines i ≡ Some t = subst (λ j. trouble_at judge lines j ≡ Some t) same first.stands_not in
            let both : t ≡ u = cc in
            (same, both)
        | inr (inl less) ↦ absurd (apart t _ (other.first k less) first.stands_not)
        | inr (inr more) ↦ absurd (apart u _ (first.first i more) other.stands_not)
      ]

  none_good : (k : ℕ) (t : Trouble) → IsGood judge lines → IsFirst judge lines k t → ⊥
  none_good k t good first = apart t _ (good.stands k) first.stands_not

kept_here : (ws : List (List ℕ)) (others : List (List (List ℕ))) (comment : Bool) → is_comment ws ≡ comment
    → cond (not (is_comment ws)) (ws ∷ others) others ≡ [] → (comment ≡ true) × (others ≡ [])
kept_here ws others true e none = (refl, rw e at none)
kept_here ws others false e none = let wrong : ws ∷ others ≡ [] = rw e at none in absurd cc

-- a line that isn't passed over is among those that are kept
kept_one : (lines : List (List ℕ)) (k : ℕ) → is_comment (words_of (slice_index_or lines k [])) ≡ false → kept lines ≡ [] → ⊥
kept_one [] k other none = let empty : is_comment (words_of []) ≡ true = rw (words_of-none [] refl) refl in absurd (false≢true (sym other ∙ empty))
kept_one (line ∷ lines) zero other none =
    let parts = kept_here (words_of line) (kept lines) false other none in absurd (false≢true parts.0)
kept_one (line ∷ lines) (suc k) other none =
    let parts = kept_here (words_of line) (kept lines) (is_comment (words_of line)) refl none in kept_one lines k other parts.1

module _ (judge : Judge) (lines : List (List ℕ)) where
  trouble_kept : (comment : Bool) (o : Option Trouble) (t : Trouble) → (if comment then None else o) ≡ Some t → comment ≡ false
  trouble_kept true o t e = absurd cc
  trouble_kept false o t e = refl

  none_lacks : (k number : ℕ) (t : Trouble) (why : LineFault) → IsFirst judge lines k t → LacksVolume lines number why → ⊥
  none_lacks k number t why first lacks =
      kept_one lines k (trouble_kept (is_comment (words_of (slice_index_or lines k []))) _ t first.stands_not) lacks.none

  pub good_not_bad : (number : ℕ) (why : LineFault) → IsGood judge lines → IsFirstBad judge lines number why → ⊥
  good_not_bad number why good (inl bad) = none_good judge lines bad.0 (Bad why) good bad.2
  good_not_bad number why good (inr lacks) = good.some lacks.none

  pub good_not_large : (what : What) → IsGood judge lines → PassesLimit judge lines what → ⊥
  good_not_large what good large = none_good judge lines large.0 (Large what) good large.1

  pub bad_not_large : (number : ℕ) (why : LineFault) (what : What) → IsFirstBad judge lines number why → PassesLimit judge lines what → ⊥
  bad_not_large number why what (inl bad) large =
      let same = (first_same judge lines bad.0 large.0 (Bad why) (Large what) bad.2 large.1).1 in absurd cc
  bad_not_large number why what (inr lacks) large = none_lacks large.0 number (Large what) why large.1 lacks

  pub same_large : (what other : What) → PassesLimit judge lines what → PassesLimit judge lines other → what ≡ other
  same_large what other a b = let same = (first_same judge lines a.0 b.0 (Large what) (Large other) a.1 b.1).1 in cc

  pub same_bad : (number other : ℕ) (why because : LineFault) → IsFirstBad judge lines number why → IsFirstBad judge lines other because
      → (number ≡ other) × (why ≡ because)
  same_bad number other why because (inl a) (inl b) =
      let same = first_same judge lines a.0 b.0 (Bad why) (Bad because) a.2 b.2 in
      let causes : why ≡ because = let e = same.1 in cc in
      (omega (arith, a.1, b.1, same.0), causes)
  same_bad number other why because (inl a) (inr lacks) = absurd (none_lacks a.0 other (Bad why) because a.2 lacks)
  same_bad number other why because (inr lacks) (inl b) = absurd (none_lacks b.0 number (Bad because) why b.2 lacks)
  same_bad number other why because (inr a) (inr b) = (a.at_end ∙ sym b.at_end, a.volume ∙ sym b.volume)
