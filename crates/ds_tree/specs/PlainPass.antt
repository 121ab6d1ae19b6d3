-- The plain pass of a scenario: which directives can pass at all, when each host passes its directives in order and waits as
-- they say. Hosts are counted from 0, and so are the directives of a host here; where a scenario names a directive by its
-- number, and in what is told of a stuck one, they are counted from 1.
use Rattle.std.specs.Prelude.{◌≡◌, ℕ, zero, suc, ◌+◌, ◌≤◌, ◌<◌, List, [], length, slice_get, Option, Some, None}
use Rattle.ds_tree.specs.declared.scenarios.Directive.{Directive}
use Rattle.ds_tree.specs.declared.scenarios.Directive.TheVariants as directives
use Rattle.ds_tree.specs.declared.scenarios.HostPlan.{HostPlan}

-- the directives of a host that may be there
abbrev pub directives_of : Option HostPlan → List Directive
directives_of None = []
directives_of (Some plan) = plan.list

-- the directives of the host with this number; one that isn't there has none
abbrev pub list_at : List HostPlan → ℕ → List Directive
list_at plans host = directives_of (slice_get plans host)

-- the directive before the one at this index
abbrev pub one_before : List Directive → ℕ → Option Directive
one_before list zero = None
one_before list (suc n) = slice_get list n

-- the host for which a directive waits, and the number of its directive: a wait does, and a call behind a hold, but not the
-- hold itself
abbrev pub wait_of : Option Directive → Option Directive → Option (ℕ × ℕ)
wait_of before (Some (directives.Wait host number)) = Some (host, number)
wait_of (Some (directives.Hold point host number)) (Some (directives.Call call bind)) = Some (host, number)
wait_of before this = None

abbrev pub wait_at : List Directive → ℕ → Option (ℕ × ℕ)
wait_at list n = wait_of (one_before list n) (slice_get list n)

-- a directive can pass only after this directive of another host, or of its own: after all up to the number for which it
-- waits, or after the whole list where that is shorter
pub record Needs (plans : List HostPlan) (host n other i : ℕ) : Type 0 where
  pub number : ℕ
  pub waits : wait_at (list_at plans host) n ≡ Some (other, number)
  pub counted : i < number
  pub listed : i < length (list_at plans other)

-- each host can pass so many of its directives: in the order of their ranks each comes after the one before it on its host,
-- and after all that it needs
pub record Passes (plans : List HostPlan) (passed : ℕ → ℕ) : Type 0 where
  pub rank : ℕ → ℕ → ℕ
  pub within : (host : ℕ) → passed host ≤ length (list_at plans host)
  pub rises : (host n : ℕ) → n + 1 < passed host → rank host n < rank host (n + 1)
  pub behind : (host n other i : ℕ) → n < passed host → Needs plans host n other i → (i < passed other) × (rank other i < rank host n)

-- all directives can pass
abbrev pub PassesAll : List HostPlan → Type 0
PassesAll plans = Passes plans (λ host. length (list_at plans host))

-- all directives have ranks: each comes after those before it on its host, and after all that it needs
pub record IsRanked (plans : List HostPlan) (rank : ℕ → ℕ → ℕ) : Type 0 where
  pub rises : (host n m : ℕ) → n < m → m < length (list_at plans host) → rank host n < rank host m
  pub behind : (host n other i : ℕ) → n < length (list_at plans host) → Needs plans host n other i → rank other i < rank host n

-- the next directive of a host needs one that isn't passed
pub record IsHeldUp (plans : List HostPlan) (passed : ℕ → ℕ) (host : ℕ) : Type 0 where
  pub other : ℕ
  pub i : ℕ
  pub needs : Needs plans host (passed host) other i
  pub ahead : passed other ≤ i

-- no host can pass a directive more
abbrev pub IsStopped : List HostPlan → (ℕ → ℕ) → Type 0
IsStopped plans passed = (host : ℕ) → passed host < length (list_at plans host) → IsHeldUp plans passed host

-- the hosts come to a stop, and this is the first of those that aren't at their end, with the number of its next directive
pub record IsStuck (plans : List HostPlan) (host directive : ℕ) : Type 0 where
  pub passed : ℕ → ℕ
  pub passes : Passes plans passed
  pub stops : IsStopped plans passed
  pub left : passed host < length (list_at plans host)
  pub next : directive ≡ passed host + 1
  pub first : (before : ℕ) → before < host → passed before ≡ length (list_at plans before)
