-- A table of users after one more use.
use Rattle.std.proofs.Common.{◌≡◌, ℕ, ◌<◌, cond, Bool, true, false, eqb, List, [], ◌∷◌, ◌++◌, length, take, map, filter, set, refl, sym, ap, ◌∙◌, inl, inr, arith}
use Rattle.std.proofs.lemmas.Bool.{cases_eq, eq-eqb, ne_eqb}
use Rattle.std.proofs.lemmas.List.{map-append, append-nil, length-set, get_or-set_same, get_or-set_other}
use Rattle.std.proofs.lemmas.List.Elements.{filter-append}
use Rattle.ds_image_tables.specs.Users.{users, users_in, KnowsUsers}

users-push : (uses : List (ℕ × ℕ)) (item object n : ℕ) → users (uses ++ (item, object) ∷ []) n ≡ users uses n ++ users ((item, object) ∷ []) n
users-push uses item object n =
    ap (map (λ (u : ℕ × ℕ). u.1)) (filter-append (λ (u : ℕ × ℕ). eqb u.0 n) uses ((item, object) ∷ []))
    ∙ map-append (λ (u : ℕ × ℕ). u.1) (filter (λ (u : ℕ × ℕ). eqb u.0 n) uses) (filter (λ (u : ℕ × ℕ). eqb u.0 n) ((item, object) ∷ []))

one-use : (item object n : ℕ) (b : Bool) → eqb item n ≡ b → users ((item, object) ∷ []) n ≡ cond b (object ∷ []) []
one-use item object n true is = ap (λ t. map (λ (u : ℕ × ℕ). u.1) (cond t ((item, object) ∷ []) [])) is
one-use item object n false is = ap (λ t. map (λ (u : ℕ × ℕ). u.1) (cond t ((item, object) ∷ []) [])) is

first-two : (xs : List ℕ) (y : ℕ) → take 2 (take 2 xs ++ y ∷ []) ≡ take 2 (xs ++ y ∷ [])
first-two [] y = refl
first-two (a ∷ []) y = refl
first-two (a ∷ b ∷ xs) y = refl

pub knows-none : (table : List (List ℕ)) → ((n : ℕ) → users_in table n ≡ []) → KnowsUsers table []
knows-none table none = λ n within. none n

pub knows-more : (table : List (List ℕ)) (item object : ℕ) → item < length table → (uses : List (ℕ × ℕ)) → KnowsUsers table uses
    → KnowsUsers (set table item (take 2 (users_in table item ++ object ∷ []))) (uses ++ (item, object) ∷ [])
knows-more table item object there uses knows = λ n within.
    let in_table : n < length table = omega (arith, length-set table item (take 2 (users_in table item ++ object ∷ []))) in
    elim (cases_eq n item) [
      | inl same ↦
          ap (users_in (set table item (take 2 (users_in table item ++ object ∷ [])))) same
          ∙ get_or-set_same table item (take 2 (users_in table item ++ object ∷ [])) [] there
          ∙ ap (λ l. take 2 (l ++ object ∷ [])) (knows item there)
          ∙ first-two (users uses item) object
          ∙ ap (λ l. take 2 (users uses item ++ l)) (sym (one-use item object item true (eq-eqb item item refl)))
          ∙ ap (take 2) (sym (users-push uses item object item))
          ∙ ap (λ m. take 2 (users (uses ++ (item, object) ∷ []) m)) (sym same)
      | inr apart ↦
          get_or-set_other table item n (take 2 (users_in table item ++ object ∷ [])) [] apart
          ∙ knows n in_table
          ∙ ap (take 2) (sym (append-nil (users uses n)))
          ∙ ap (λ l. take 2 (users uses n ++ l)) (sym (one-use item object n false (ne_eqb item n (λ same. apart (sym same)))))
          ∙ ap (take 2) (sym (users-push uses item object n))
    ]
