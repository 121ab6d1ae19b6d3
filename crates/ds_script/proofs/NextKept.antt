-- The next line that isn't passed over, for whatever goes on from one line to the next over those that are.
use Rattle.std.proofs.Common.{◌≡◌, ℕ, ◌+◌, ◌≤◌, ◌<◌, ◌⊎◌, inl, inr, Bool, true, false, List, [], ◌∷◌, ◌++◌, length, get_or, take, drop, refl, ap, sym, ◌∙◌, subst, arith, length-drop}
use Rattle.std.proofs.lemmas.Bool.{cases_eq}
use Rattle.std.proofs.lemmas.List.{take_all, take-append-drop, get_or_past}
use Rattle.ds_tree.specs.Lines.{Words, words_of, is_comment, kept}
use Rattle.ds_script.proofs.Fronts.{words_of-none}
use Rattle.ds_script.proofs.LineOrder.{IsAt, line_at, kept-append, kept_passed, kept_line, append_none}

-- the line at this place is passed over
abbrev pub IsPassed : List (List ℕ) → ℕ → Type 0
IsPassed lines k = is_comment (words_of (get_or lines k [])) ≡ true

-- all lines from this place on are passed over
pub record NoneKept (X : Type 0) (walk : ℕ → List (List ℕ) → X) (lines suffix : List (List ℕ)) (n : ℕ) : Type 0 where
  pub front : kept lines ≡ kept (take n lines)
  pub passed : (j : ℕ) → n ≤ j → IsPassed lines j
  pub walked : walk (n + 1) suffix ≡ walk (length lines + 1) []

-- this line is the next that isn't
pub record NextKept (X : Type 0) (walk : ℕ → List (List ℕ) → X) (lines suffix : List (List ℕ)) (n : ℕ) : Type 0 where
  pub k : ℕ
  pub line : List ℕ
  pub behind : List (List ℕ)
  pub at : drop k lines ≡ line ∷ behind
  pub keeps : is_comment (words_of line) ≡ false
  pub from : n ≤ k
  pub front : kept (take k lines) ≡ kept (take n lines)
  pub passed : (j : ℕ) → n ≤ j → j < k → IsPassed lines j
  pub walked : walk (n + 1) suffix ≡ walk (k + 1) (line ∷ behind)

from_here : (P : ℕ → Type 0) (n : ℕ) → P n → ((j : ℕ) → n + 1 ≤ j → P j) → (j : ℕ) → n ≤ j → P j
from_here P n here rest j from = elim (cases_eq n j) [
  | inl same ↦ subst P same here
  | inr other ↦ rest j (omega (arith, other, from))
]

pub is_inside : (lines : List (List ℕ)) (n : ℕ) (line : List ℕ) (behind : List (List ℕ)) → drop n lines ≡ line ∷ behind → n < length lines
is_inside lines n line behind at = omega (arith, length-drop n lines, ap (λ (ls : List (List ℕ)). length ls) at)

module _ (X : Type 0) (walk : ℕ → List (List ℕ) → X)
    (passes : (n : ℕ) (line : List ℕ) (behind : List (List ℕ)) → is_comment (words_of line) ≡ true → walk n (line ∷ behind) ≡ walk (n + 1) behind)
    (lines : List (List ℕ)) where
  at_end : (n : ℕ) → n ≡ length lines → NoneKept X walk lines [] n
  at_end n all = record {
    front = ap kept (sym (take_all n lines (omega (arith, all))));
    passed = λ j from.
        ap (λ (line : List ℕ). is_comment (words_of line)) (get_or_past lines j [] (omega (arith, all, from))) ∙ ap is_comment (words_of-none [] refl);
    walked = ap (λ (n : ℕ). walk (n + 1) []) all;
  }

  module _ (n : ℕ) (line : List ℕ) (behind : List (List ℕ)) (place : IsAt lines n line behind) (is : is_comment (words_of line) ≡ true) where
    here : IsPassed lines n
    here = ap (λ (line : List ℕ). is_comment (words_of line)) place.here ∙ is

    front_same : kept (take (n + 1) lines) ≡ kept (take n lines)
    front_same = place.kept_more ∙ (ap (λ (ks : List Words). kept (take n lines) ++ ks) (kept_passed line is) ∙ append_none (kept (take n lines)))

    none_later : NoneKept X walk lines behind (n + 1) → NoneKept X walk lines (line ∷ behind) n
    none_later h = record {
      front = h.front ∙ front_same;
      passed = from_here (IsPassed lines) n here h.passed;
      walked = passes (n + 1) line behind is ∙ h.walked;
    }

    next_later : NextKept X walk lines behind (n + 1) → NextKept X walk lines (line ∷ behind) n
    next_later h = record {
      k = h.k;
      line = h.line;
      behind = h.behind;
      at = h.at;
      keeps = h.keeps;
      from = omega (arith, h.from);
      front = h.front ∙ front_same;
      passed = from_here (λ j. j < h.k → IsPassed lines j) n (λ less. here) h.passed;
      walked = passes (n + 1) line behind is ∙ h.walked;
    }

    later : NoneKept X walk lines behind (n + 1) ⊎ NextKept X walk lines behind (n + 1)
        → NoneKept X walk lines (line ∷ behind) n ⊎ NextKept X walk lines (line ∷ behind) n
    later (inl h) = inl (none_later h)
    later (inr h) = inr (next_later h)

  found : (n : ℕ) (line : List ℕ) (behind : List (List ℕ)) → drop n lines ≡ line ∷ behind → is_comment (words_of line) ≡ false
      → NextKept X walk lines (line ∷ behind) n
  found n line behind at keeps = record {
    k = n;
    line = line;
    behind = behind;
    at = at;
    keeps = keeps;
    from = omega arith;
    front = refl;
    passed = λ j from less. absurd (omega (arith, from, less));
    walked = refl;
  }

  by_comment : (n : ℕ) (line : List ℕ) (behind : List (List ℕ)) → drop n lines ≡ line ∷ behind
      → (NoneKept X walk lines behind (n + 1) ⊎ NextKept X walk lines behind (n + 1)) → (b : Bool) → is_comment (words_of line) ≡ b
      → NoneKept X walk lines (line ∷ behind) n ⊎ NextKept X walk lines (line ∷ behind) n
  by_comment n line behind at rest true is = later n line behind (line_at lines n line behind at) is rest
  by_comment n line behind at rest false is = inr (found n line behind at is)

  -- the lines from this place on have a next one that is kept, or none
  pub next_kept : (suffix : List (List ℕ)) (n : ℕ) → drop n lines ≡ suffix → n ≤ length lines
      → NoneKept X walk lines suffix n ⊎ NextKept X walk lines suffix n
  next_kept [] n at within = inl (at_end n (omega (arith, within, length-drop n lines, ap (λ (ls : List (List ℕ)). length ls) at)))
  next_kept (line ∷ behind) n at within =
      by_comment n line behind at
      (next_kept behind (n + 1) (line_at lines n line behind at).later (omega (arith, is_inside lines n line behind at)))
      (is_comment (words_of line)) refl

-- the lines that are kept, up to one of them
pub kept_to : (lines : List (List ℕ)) (n : ℕ) (line : List ℕ) (behind : List (List ℕ)) (before : List Words) → IsAt lines n line behind
    → kept (take n lines) ≡ before → is_comment (words_of line) ≡ false → kept (take (n + 1) lines) ≡ before ++ words_of line ∷ []
kept_to lines n line behind before place front keeps =
    place.kept_more
    ∙ (ap (λ (ks : List Words). ks ++ kept (line ∷ [])) front
    ∙ ap (λ (ks : List Words). before ++ ks) (kept_line line keeps))

-- and all of them
pub kept_around : (lines : List (List ℕ)) (n : ℕ) (line : List ℕ) (behind : List (List ℕ)) (before : List Words) → IsAt lines n line behind
    → kept (take n lines) ≡ before → is_comment (words_of line) ≡ false → kept lines ≡ (before ++ words_of line ∷ []) ++ kept behind
kept_around lines n line behind before place front keeps =
    ap kept (sym (take-append-drop (n + 1) lines))
    ∙ (kept-append (take (n + 1) lines) (drop (n + 1) lines)
    ∙ (ap (λ (ks : List Words). ks ++ kept (drop (n + 1) lines)) (kept_to lines n line behind before place front keeps)
    ∙ ap (λ (ls : List (List ℕ)). (before ++ words_of line ∷ []) ++ kept ls) place.later))
