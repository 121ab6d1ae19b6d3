-- Numbers that are written one after another over zeros.
use Rattle.std.proofs.Common.{◌≡◌, ℕ, suc, ◌+◌, ◌-◌, ◌<◌, List, [], ◌∷◌, ◌++◌, length, take, get_or, replicate, slice_set, refl, sym, ap, ◌∙◌, length-take-le, append_assoc, arith}
use Rattle.std.proofs.lemmas.List.{set_at, take_more}
use Rattle.ds_bytes.specs.Fields.{zeros}

-- with so many numbers written, the next one is written
pub padded-step : (n i : ℕ) (numbers : List ℕ) (x : ℕ) → i < n → i < length numbers → x ≡ get_or numbers i 0
    → slice_set (take i numbers ++ replicate (n - i) 0) i x ≡ take (i + 1) numbers ++ replicate (n - (i + 1)) 0
padded-step n i numbers x l within is =
    let rest : n - i ≡ suc (n - (i + 1)) = omega (arith, l) in
    ap (λ k. slice_set (take i numbers ++ replicate k 0) i x) rest
    ∙ set_at (take i numbers) 0 (replicate (n - (i + 1)) 0) x i (length-take-le i numbers (omega (arith, within)))
    ∙ ap (λ y. take i numbers ++ y ∷ replicate (n - (i + 1)) 0) is
    ∙ sym (append_assoc (take i numbers) (get_or numbers i 0 ∷ []) (replicate (n - (i + 1)) 0))
    ∙ sym (ap (λ l. l ++ replicate (n - (i + 1)) 0) (take_more numbers i 0 within))

pub zeros-are : (n : ℕ) → replicate n 0 ≡ zeros n
unfolding zeros
zeros-are n = refl
