-- Rows of findings that grow number by number.
use Rattle.std.proofs.Common.{◌≡◌, ℕ, zero, suc, ◌+◌, List, [], ◌∷◌, ◌++◌, sym, ap, ◌∙◌, arith}
use Rattle.std.specs.List.{flat_map, range_with_len}
use Rattle.std.proofs.lemmas.List.{flat_map_more}
use Rattle.ds_check.specs.declared.findings.Find.{Find}
use Rattle.ds_check.specs.Rows.{row}

-- the numbers below n, and then n
from-more : (a n : ℕ) → range_with_len a (suc n) ≡ range_with_len a n ++ (a + n) ∷ []
from-more a zero = ap (λ k. k ∷ []) (let same : a ≡ a + 0 = omega arith in same)
from-more a (suc n) =
    ap (λ xs. a ∷ xs) (from-more (a + 1) n ∙ ap (λ k. range_with_len (a + 1) n ++ k ∷ []) (let same : a + 1 + n ≡ a + suc n = omega arith in same))

pub range-more : (n : ℕ) → range_with_len 0 (n + 1) ≡ range_with_len 0 n ++ n ∷ []
range-more n =
    let next : n + 1 ≡ suc n = omega arith in
    let here : 0 + n ≡ n = omega arith in
    ap (range_with_len 0) next ∙ from-more 0 n ∙ ap (λ k. range_with_len 0 n ++ k ∷ []) here

-- what is found up to a number, and then what is found at it
pub row_step : (first mid last : List Find) (each : ℕ → List Find) (n : ℕ) → mid ≡ first ++ row n each → last ≡ mid ++ each n → last ≡ first ++ row (n + 1) each
row_step first mid last each n before now =
    now ∙ ap (λ xs. xs ++ each n) before ∙ flat_map_more each first (range_with_len 0 n) n ∙ ap (λ xs. first ++ flat_map each xs) (sym (range-more n))

-- what is found of the same two things is the same
pub same_finds : {A B : Type 0} (finds : A → B → List Find) (a b : A) (x y : B) (mid last : List Find) → a ≡ b → x ≡ y → last ≡ mid ++ finds a x → last ≡ mid ++ finds b y
same_finds finds a b x y mid last p q now = now ∙ ap (λ c. mid ++ finds c x) p ∙ ap (λ z. mid ++ finds b z) q
