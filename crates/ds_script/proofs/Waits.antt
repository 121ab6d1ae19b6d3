-- Whether a host's next directive can pass, from whether the host for which it waits has come far enough.
use Rattle.std.proofs.Common.{◌≡◌, ℕ, Option, ◌≤◌, ◌<◌, Bool, true, false, List, length, min, Some, MatchBool, subst, sym, ap, ◌∙◌, arith}
use Rattle.std.specs.Prelude.{nat_le, slice_index, slice_index_or}
use Rattle.std.proofs.lemmas.Bool.{leb-true, leb-false}
use Rattle.std.proofs.lemmas.Option.{slice_get-get_or}
use Rattle.ds_tree.specs.declared.scenarios.HostPlan.{HostPlan}
use Rattle.ds_tree.specs.PlainPass.{list_at, directives_of, wait_at}
use Rattle.ds_script.specs.Passing.{IsFree, Rests}

-- the directives of a host that is there
pub list_at-within : (plans : List HostPlan) (host : ℕ) (plan : HostPlan) → host < length plans
    → list_at plans host ≡ (slice_index_or plans host plan).list
list_at-within plans host plan within = ap directives_of (slice_get-get_or plans host plan within)

module _ (plans : List HostPlan) (passed : List ℕ) (host other number : ℕ)
    (left : slice_index passed host < length (list_at plans host))
    (waits : wait_at (list_at plans host) (slice_index passed host) ≡ Some (other, number)) where
  same_wait : (o n : ℕ) → wait_at (list_at plans host) (slice_index passed host) ≡ Some (o, n) → (o ≡ other) × (n ≡ number)
  same_wait o n e = let same : ◌≡◌ {A = Option (ℕ × ℕ)} (Some (o, n)) (Some (other, number)) = sym e ∙ waits in grind arith

  far_enough : min number (length (list_at plans other)) ≤ slice_index passed other → IsFree plans passed host
  far_enough far o i needs =
      let same = same_wait o needs.number needs.waits in
      let P : ℕ → Type 0 = λ h. i < length (list_at plans h) → i < slice_index passed h in
      subst P (sym same.0) (λ listed. omega (arith, same.1, needs.counted)) needs.listed

  not_yet : slice_index passed other < min number (length (list_at plans other)) → Rests plans passed host
  not_yet short _ = record {
    other = other;
    i = slice_index passed other;
    needs = record { number = number; waits = waits; counted = omega arith; listed = omega arith };
    ahead = omega arith;
  }

  pub waits_tell : (r : Bool) → r ≡ nat_le (min number (length (list_at plans other))) (slice_index passed other)
      → MatchBool r ((slice_index passed host < length (list_at plans host)) × IsFree plans passed host) (Rests plans passed host)
  waits_tell true e = (left, far_enough (leb-true _ _ (sym e)))
  waits_tell false e = not_yet (leb-false _ _ (sym e))
