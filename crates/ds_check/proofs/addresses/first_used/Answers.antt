-- The first number that isn't zero, or none is one.
use Rattle.std.proofs.Common.{◌≡◌, ◌≢◌, ℕ, Bool, true, false, not, eqb, length, sym, ap, refl, arith}
use Rattle.std.proofs.lemmas.Bool.Decides.{nat_tests}
use Rattle.std.proofs.lemmas.List.Sums.{position_or_len_is}
use Rattle.ds_check.proofs.addresses.first_used.Goals as goal

zero_fails : (n : ℕ) → n ≡ 0 → not (eqb n 0) ≡ false
zero_fails n zero = ap (λ k. not (eqb k 0)) zero

other_passes : (t : Bool) (n : ℕ) → eqb n 0 ≡ t → n ≢ 0 → not t ≡ true
other_passes true n is other = absurd (other (grind (arith, nat_tests)))
other_passes false n is other = refl

pub returns-then-number-ne0 : goal.returns-then-number-ne0
returns-then-number-ne0 c =
    sym (position_or_len_is (λ x. not (eqb x 0)) c.args.numbers.now c.loop-i.i 0 (omega arith) (λ k below. zero_fails _ (c.loop-i.invariant k below))
    (λ _. other_passes _ _ refl c.if-number-ne0.true))

pub returns : goal.returns
returns c =
    sym (position_or_len_is (λ x. not (eqb x 0)) c.args.numbers.now (length c.args.numbers.now) 0 (omega arith)
    (λ k below. zero_fails _ (c.loop-i.invariant k (omega arith))) (λ past. absurd (omega arith)))
