-- What holds of a row of findings that is empty.
use Rattle.std.proofs.Common.{◌≡◌, ℕ, zero, suc, ◌+◌, ◌<◌, Bool, true, false, List, [], ◌∷◌, ◌++◌, refl, sym, ap, ◌∙◌, arith}
use Rattle.std.specs.List.{flat_map, range_with_len}
use Rattle.std.proofs.lemmas.List.Concat.{flat_map-cons}
use Rattle.ds_check.specs.declared.findings.Find.{Find}
use Rattle.ds_check.specs.Rows.{find_if, row}

pub both-none : (xs ys : List Find) → xs ++ ys ≡ [] → (xs ≡ []) × (ys ≡ [])
both-none [] ys none = (refl, none)
both-none (x ∷ xs) ys none = absurd (cc)

pub not-found : (b : Bool) (find : Find) → find_if b find ≡ [] → b ≡ false
not-found true find none = absurd (cc)
not-found false find none = refl

each-none : (each : ℕ → List Find) (a n k : ℕ) → flat_map each (range_with_len a n) ≡ [] → k < n → each (a + k) ≡ []
each-none each a zero k none within = absurd (omega (arith, within))
each-none each a (suc n) zero none within =
    let first = both-none (each a) (flat_map each (range_with_len (a + 1) n)) (sym (flat_map-cons each a (range_with_len (a + 1) n)) ∙ none) in
    ap each (let same : a + 0 ≡ a = omega arith in same) ∙ first.0
each-none each a (suc n) (suc k) none within =
    let rest = both-none (each a) (flat_map each (range_with_len (a + 1) n)) (sym (flat_map-cons each a (range_with_len (a + 1) n)) ∙ none) in
    ap each (let same : a + suc k ≡ a + 1 + k = omega arith in same) ∙ each-none each (a + 1) n k rest.1 (omega (arith, within))

pub row-none : (n : ℕ) (each : ℕ → List Find) → row n each ≡ [] → (k : ℕ) → k < n → each k ≡ []
row-none n each none k within = ap each (let same : k ≡ 0 + k = omega arith in same) ∙ each-none each 0 n k none within
