-- What a plain pass keeps and tells on its way.
use Rattle.std.specs.Prelude.{◌≡◌, ℕ, ◌+◌, ◌^◌, ◌≤◌, ◌<◌, List, length, slice_index, Option, Some, None}
use Rattle.ds_tree.specs.declared.scenarios.Directive.{Directive}
use Rattle.ds_tree.specs.declared.scenarios.Directive.TheVariants as directives
use Rattle.ds_tree.specs.declared.scenarios.HostPlan.{HostPlan}
use Rattle.ds_tree.specs.PlainPass.{list_at, Needs, Passes, PassesAll, IsHeldUp, IsStuck}
use Rattle.ds_script.specs.declared.passing.Pass.{Pass}
use Rattle.ds_script.specs.declared.passing.Pass.TheVariants.{Passed, Stuck}

-- what a hold makes the call behind it wait for
abbrev pub hold_of : Directive → Option (ℕ × ℕ)
hold_of (directives.Hold point host number) = Some (host, number)
hold_of before = None

-- the hosts and the directives of each are few enough to be numbered in an answer
pub record AreNumbered (plans : List HostPlan) : Type 0 where
  pub hosts : length plans ≤ 2 ^ 8
  pub directives : (host : ℕ) → length (list_at plans host) < 2 ^ 32

-- what a pass tells of a scenario is so
abbrev pub IsSo : List HostPlan → Pass → Type 0
IsSo plans Passed = PassesAll plans
IsSo plans (Stuck host directive) = IsStuck plans host directive

-- so many directives of each host are passed, all of ranks below a bound
pub record HasPassed (plans : List HostPlan) (passed : List ℕ) : Type 0 where
  pub hosts : length passed ≡ length plans
  pub passes : Passes plans (slice_index passed)
  pub bound : ℕ
  pub below : (host n : ℕ) → n < slice_index passed host → passes.rank host n < bound

-- the next directive of a host needs nothing that isn't passed
abbrev pub IsFree : List HostPlan → List ℕ → ℕ → Type 0
IsFree plans passed host =
    (other i : ℕ) → Needs plans host (slice_index passed host) other i → i < slice_index passed other

-- a host is at its end, or its next directive needs one that isn't passed
abbrev pub Rests : List HostPlan → List ℕ → ℕ → Type 0
Rests plans passed host = slice_index passed host < length (list_at plans host) → IsHeldUp plans (slice_index passed) host

-- what is told of these counts: that each host is at its end, or the first that isn't, and the number of its next directive
pub record IsFirstLeft (plans : List HostPlan) (passed : List ℕ) (host directive : ℕ) : Type 0 where
  pub left : slice_index passed host < length (list_at plans host)
  pub next : directive ≡ slice_index passed host + 1
  pub first : (before : ℕ) → before < host → slice_index passed before ≡ length (list_at plans before)

abbrev pub TellsLeft : List HostPlan → List ℕ → Pass → Type 0
TellsLeft plans passed Passed = (host : ℕ) → slice_index passed host ≡ length (list_at plans host)
TellsLeft plans passed (Stuck host directive) = IsFirstLeft plans passed host directive
