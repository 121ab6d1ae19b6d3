-- Which words are variables, and what a test that fails tells.
use Rattle.std.proofs.Common.{◌≡◌, ℕ, Option, Some, None, Bool, true, false, List, [], ◌∷◌, length, refl, arith}
use Rattle.std.specs.Prelude.{codes, ◌↔◌, ◌&&◌, not, nat_le, IsTrue}
use Rattle.std.specs.List.{list_all}
use Rattle.std.specs.Str.{bytes_eq}
use Rattle.std.proofs.lemmas.Bool.{and_parts, and_from, leb-true, le-leb, both_ways, not-true, false≢true}
use Rattle.std.proofs.lemmas.Slice.Eq.{bytes_eq-Decides}
use Rattle.ds_tree.specs.Grammar.{is_label}
use Rattle.ds_tree.specs.Variables.{IsVariable, is_lower_or_digit}
use Rattle.ds_script.specs.Faults.{is_variable}

not_true_from : (t : Bool) → (t ≡ true → ⊥) → not t ≡ true
not_true_from true wrong = absurd (wrong refl)
not_true_from false wrong = refl

-- the tests of a variable, and what they tell
variable_parts : (b : ℕ) (bs : List ℕ) → is_variable (b ∷ bs) ≡ true → IsVariable (b ∷ bs)
variable_parts b bs e =
    let outer = and_parts (is_label (b ∷ bs)) (not (bytes_eq (b ∷ bs) (codes "root"))) e in
    let inner = and_parts (nat_le 97 b && list_all is_lower_or_digit (b ∷ bs)) (nat_le (length (b ∷ bs)) 16) outer.0 in
    let first = and_parts (nat_le 97 b) (list_all is_lower_or_digit (b ∷ bs)) inner.0 in
    record {
      nonempty = omega arith;
      short = leb-true _ _ inner.1;
      letter = leb-true _ _ first.0;
      of_these = first.1;
      not_root = λ same. both_ways _ (not-true _ outer.1) ((bytes_eq-Decides (b ∷ bs) (codes "root")).1 same);
    }

variable_from : (b : ℕ) (bs : List ℕ) → IsVariable (b ∷ bs) → is_variable (b ∷ bs) ≡ true
variable_from b bs v =
    let other : not (bytes_eq (b ∷ bs) (codes "root")) ≡ true =
    not_true_from (bytes_eq (b ∷ bs) (codes "root")) (λ e. v.not_root ((bytes_eq-Decides (b ∷ bs) (codes "root")).0 e)) in
    and_from _ _ (and_from _ _ (and_from _ _ (le-leb _ _ v.letter) v.of_these) (le-leb _ _ v.short)) other

pub is_variable_tells : (w : List ℕ) → IsTrue (is_variable w) ↔ IsVariable w
is_variable_tells [] = (λ e. absurd (false≢true e), λ v. absurd (omega (arith, v.nonempty)))
is_variable_tells (b ∷ bs) = (variable_parts b bs, variable_from b bs)

pub none_since : {A : Type 0} (o : Option A) → ((x : A) × (o ≡ Some x) → ⊥) → o ≡ None
none_since None never = refl
none_since (Some x) never = absurd (never (x, refl))
