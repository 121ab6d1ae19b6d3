-- A table of counts after one more name.
use Rattle.std.proofs.Common.{◌≡◌, ℕ, ◌+◌, ◌-◌, ◌^◌, ◌<◌, cond, Bool, true, false, eqb, List, [], ◌∷◌, ◌++◌, length, set, get_or, refl, sym, ap, ◌∙◌, inl, inr, arith}
use Rattle.std.specs.Prelude.{count_by, slice_index}
use Rattle.std.proofs.lemmas.Bool.{cases_eq, eq-eqb, ne_eqb}
use Rattle.std.proofs.lemmas.List.{length-set, get_or-set_same, get_or-set_other, get_or_read}
use Rattle.std.proofs.lemmas.List.Sums.{sum_by_push, count_by-le-length}
use Rattle.ds_base.specs.Outside.{risen}
use Rattle.ds_image_tables.specs.NameCounts.{CountsNames}

abbrev times : ℕ → List ℕ → ℕ
times object named = count_by (λ o. eqb o object) named

abbrev one : Bool → ℕ
one b = cond b 1 0

times-push : (named : List ℕ) (object n : ℕ) (b : Bool) → eqb object n ≡ b → times n (named ++ object ∷ []) ≡ times n named + cond b 1 0
times-push named object n b is = sum_by_push (λ o. cond (eqb o n) 1 0) named object ∙ ap (λ t. times n named + one t) is

pub counts-more : (table : List ℕ) (object : ℕ) → object < length table → (named : List ℕ) → length named < 2 ^ 64 - 1 → CountsNames table named
    → CountsNames (set table object (risen (slice_index table object))) (named ++ object ∷ [])
counts-more table object there named few counts = λ n within.
    let in_table : n < length table = omega (arith, length-set table object (risen (slice_index table object))) in
    elim (cases_eq n object) [
      | inl same ↦
          let count = counts object there in
          let most = count_by-le-length (λ o. eqb o object) named in
          let rises : risen (slice_index table object) ≡ slice_index table object + 1 = omega (arith, count, most, few) in
          ap (slice_index (set table object (risen (slice_index table object)))) same
          ∙ get_or-set_same table object (risen (slice_index table object)) 0 there
          ∙ rises
          ∙ ap (λ c. c + 1) count
          ∙ sym (times-push named object object true (eq-eqb object object refl))
          ∙ ap (λ m. times m (named ++ object ∷ [])) (sym same)
      | inr apart ↦
          get_or-set_other table object n (risen (slice_index table object)) 0 apart
          ∙ counts n in_table
          ∙ sym (times-push named object n false (ne_eqb object n (λ same. apart (sym same))) ∙ omega arith)
    ]

-- a count that was read is the table's
pub count-read : (counts : List ℕ) (object count : ℕ) (table : List ℕ) → counts ≡ table → object < length table
    → count ≡ get_or counts object count
    → count ≡ slice_index table object
count-read counts object count table is within read =
    let there : object < length counts = omega (arith, within, ap (length {A = ℕ}) is) in
    get_or_read counts object count there read 0 ∙ ap (λ t. slice_index t object) is
