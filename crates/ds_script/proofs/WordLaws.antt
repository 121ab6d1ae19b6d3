-- The words that are numbers, labels and variables.
use Rattle.std.proofs.Common.{◌≡◌, ◌≢◌, ℕ, ◌^◌, ◌≤◌, ◌<◌, ◌⊎◌, inl, inr, Bool, true, false, not, ◌&&◌, List, [], ◌∷◌, length, get_or, refl, ap, sym, ◌∙◌, arith, rules}
use Rattle.std.specs.Prelude.{decimal, codes, nat_le}
use Rattle.std.specs.List.{list_all}
use Rattle.std.specs.Str.{bytes_eq}
use Rattle.std.proofs.lemmas.Bool.{and_parts, and_from, false≢true, le-leb, false_from_ne_true, not_from_false, not-true, cases_eq}
use Rattle.std.proofs.lemmas.Bool.Decides.{nat_tests}
use Rattle.std.proofs.lemmas.Fmt.{digits_decimal, digits_value-decimal, decimal-digits_value, decimal_nonempty, first_decimal, length-decimal-le, decimal_digit}
use Rattle.std.proofs.lemmas.Slice.Eq.{bytes_eq-Decides}
use Rattle.std.proofs.lemmas.Str.Parse.{IsNumeralModel, numerals_by_fold}
use Rattle.ds_tree.specs.Lines.{is_visible, is_word, is_digit, is_number, value_from, number_of, is_number_in}
use Rattle.ds_tree.specs.Grammar.{is_label}
use Rattle.ds_tree.specs.Variables.{IsVariable, is_lower_or_digit}
use Rattle.ds_script.specs.Faults.{is_variable}

-- Numbers.

numerals : IsNumeralModel (λ ds. list_all is_digit ds ≡ true) (value_from 0)
unfolding value_from
numerals = numerals_by_fold _ (search rules) value_from (search rules)

-- the word for a number in this range
pub record IsNumberWord (low high : ℕ) (w : List ℕ) (n : ℕ) : Type 0 where
  pub is : w ≡ decimal n
  pub least : low ≤ n
  pub most : n ≤ high

pub all_like : (p q : ℕ → Bool) → ((b : ℕ) → p b ≡ true → q b ≡ true) → (w : List ℕ) → list_all p w ≡ true → list_all q w ≡ true
all_like p q like [] all = refl
all_like p q like (b ∷ bs) all =
    let parts = and_parts (p b) (list_all p bs) all in
    and_from (q b) (list_all q bs) (like b parts.0) (all_like p q like bs parts.1)

pub is_word-from : (w : List ℕ) → list_all is_visible w ≡ true → 1 ≤ length w → length w ≤ 255 → is_word w ≡ true
is_word-from w run some few = rw (run, le-leb 1 (length w) some, le-leb (length w) 255 few) refl

digit_visible : (b : ℕ) → is_digit b ≡ true → is_visible b ≡ true
digit_visible b h = grind (arith, nat_tests)

number_from : (w : List ℕ) → list_all is_digit w ≡ true → 0 < length w → (48 < get_or w 0 0) ⊎ (length w ≡ 1) → is_number w ≡ true
number_from [] digits some first = absurd (omega (arith, some))
number_from (b ∷ []) digits some first = rw digits (grind (arith, nat_tests))
number_from (b ∷ c ∷ cs) digits some (inl above) = rw digits (grind (arith, nat_tests, above))
number_from (b ∷ c ∷ cs) digits some (inr one) = absurd (omega (arith, one))

number_first : (w : List ℕ) → is_number w ≡ true → (list_all is_digit w ≡ true) × (0 < length w) × (get_or w 0 0 ≡ 48 → length w ≡ 1)
number_first [] is = absurd (false≢true is)
number_first (b ∷ []) is = ((and_parts (list_all is_digit (b ∷ [])) _ is).0, omega arith, λ e. refl)
number_first (b ∷ c ∷ cs) is =
    let parts = and_parts (list_all is_digit (b ∷ c ∷ cs)) _ is in
    (parts.0, omega arith, λ e. absurd (grind (arith, nat_tests, e, parts.1)))

decimal_first : (n : ℕ) → n < 2 ^ 64 → (48 < get_or (decimal n) 0 0) ⊎ (length (decimal n) ≡ 1)
decimal_first n small = elim (cases_eq n 0) [
  | inl none ↦ inr (ap length (ap decimal none ∙ decimal_digit 0 (omega arith)))
  | inr some ↦ inl (first_decimal n (omega (arith, some)) small)
]

pub is_number-decimal : (n : ℕ) → n < 2 ^ 64 → is_number (decimal n) ≡ true
is_number-decimal n small =
    number_from (decimal n) (digits_decimal numerals n small) (decimal_nonempty n small) (decimal_first n small)

pub number_of-decimal : (n : ℕ) → n < 2 ^ 64 → number_of (decimal n) ≡ n
number_of-decimal n small = digits_value-decimal numerals n small

pub is_word-decimal : (n : ℕ) → n < 2 ^ 64 → is_word (decimal n) ≡ true
is_word-decimal n small =
    is_word-from (decimal n) (all_like is_digit is_visible digit_visible (decimal n) (digits_decimal numerals n small))
    (omega (arith, decimal_nonempty n small))
    (omega (arith, length-decimal-le 20 n (omega arith) (omega (arith, small)) small))

pub decimal-number_of : (w : List ℕ) → is_number w ≡ true → number_of w < 2 ^ 64 → decimal (number_of w) ≡ w
decimal-number_of w is small =
    let first = number_first w is in decimal-digits_value numerals w first.0 first.1 first.2 small

-- a number in a range
pub is_number_in-means : (low high : ℕ) → high < 2 ^ 64 → (w : List ℕ) → is_number_in low high w ≡ true → IsNumberWord low high w (number_of w)
is_number_in-means low high small w is =
    let parts : (is_number w ≡ true) × (low ≤ number_of w) × (number_of w ≤ high) = grind (arith, nat_tests, is) in
    record { is = sym (decimal-number_of w parts.0 (omega (arith, small, parts.2))); least = parts.1; most = parts.2 }

pub is_number_in-decimal : (low high : ℕ) → high < 2 ^ 64 → (n : ℕ) → low ≤ n → n ≤ high → is_number_in low high (decimal n) ≡ true
is_number_in-decimal low high small n least most =
    let below : n < 2 ^ 64 = omega (arith, small, most) in
    rw (is_number-decimal n below, number_of-decimal n below, le-leb low n least, le-leb n high most) refl

-- Labels and variables.

label_visible : (b : ℕ) → is_lower_or_digit b ≡ true → is_visible b ≡ true
label_visible b h = grind (arith, nat_tests)

pub record IsLabel (w : List ℕ) : Type 0 where
  pub some : 1 ≤ length w
  pub few : length w ≤ 16
  pub letter : 97 ≤ get_or w 0 0
  pub of_these : list_all is_lower_or_digit w ≡ true

pub label_means : (w : List ℕ) → is_label w ≡ true → IsLabel w
label_means [] is = absurd (false≢true is)
label_means (b ∷ bs) is =
    let parts : (97 ≤ b) × (list_all is_lower_or_digit (b ∷ bs) ≡ true) × (length (b ∷ bs) ≤ 16) = grind (arith, nat_tests, is) in
    record { some = omega arith; few = parts.2; letter = parts.0; of_these = parts.1 }

pub label_from : (w : List ℕ) → IsLabel w → is_label w ≡ true
label_from [] label = absurd (omega (arith, label.some))
label_from (b ∷ bs) label =
    let all = list_all is_lower_or_digit (b ∷ bs) in
    let few = nat_le (length (b ∷ bs)) 16 in
    and_from (nat_le 97 b && all) few (and_from (nat_le 97 b) all (le-leb 97 b label.letter) label.of_these)
    (le-leb (length (b ∷ bs)) 16 label.few)

pub is_word-label : (w : List ℕ) → IsLabel w → is_word w ≡ true
is_word-label w label =
    is_word-from w (all_like is_lower_or_digit is_visible label_visible w label.of_these) label.some (omega (arith, label.few))

pub bytes_eq-same : (w : List ℕ) → bytes_eq w w ≡ true
bytes_eq-same w = (bytes_eq-Decides w w).1 refl

pub bytes_eq-means : (v w : List ℕ) → bytes_eq v w ≡ true → v ≡ w
bytes_eq-means v w e = (bytes_eq-Decides v w).0 e

pub bytes_eq-other : (v w : List ℕ) → v ≢ w → bytes_eq v w ≡ false
bytes_eq-other v w other = false_from_ne_true (bytes_eq v w) (λ e. other (bytes_eq-means v w e))

pub variable_means : (w : List ℕ) → is_variable w ≡ true → IsVariable w
variable_means w is =
    let parts = and_parts (is_label w) (not (bytes_eq w (codes "root"))) is in
    let label = label_means w parts.0 in
    record {
      nonempty = label.some;
      short = label.few;
      letter = label.letter;
      of_these = label.of_these;
      not_root = λ e. false≢true (sym (not-true (bytes_eq w (codes "root")) parts.1) ∙ (bytes_eq-Decides w (codes "root")).1 e);
    }

pub label-variable : (w : List ℕ) → IsVariable w → IsLabel w
label-variable w v = record { some = v.nonempty; few = v.short; letter = v.letter; of_these = v.of_these }

pub variable_from : (w : List ℕ) → IsVariable w → is_variable w ≡ true
variable_from w v =
    and_from (is_label w) (not (bytes_eq w (codes "root"))) (label_from w (label-variable w v))
    (not_from_false (bytes_eq w (codes "root")) (bytes_eq-other w (codes "root") v.not_root))
