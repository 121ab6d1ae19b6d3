-- The form of the scenarios that can be run now: a volume of one geometry, and at most one host, which registers and then
-- creates and looks up files in the root directory.
use Rattle.std.specs.Prelude.{◌≡◌, ◌≢◌, ℕ, ◌≤◌, ◌<◌, ◌⊎◌, Bool, true, false, List, [], ◌∷◌, ◌++◌, length, take, slice_get, count_by, Some, None}
use Rattle.std.specs.List.{AllByRecursion}
use Rattle.ds_base.specs.declared.geometry.Geom.{Geom}
use Rattle.ds_base.specs.Names.{IsName}
use Rattle.ds_tree.specs.declared.calls.CallOf.TheVariants as calls
use Rattle.ds_tree.specs.declared.calls.HostCallOf.TheVariants as host_calls
use Rattle.ds_tree.specs.declared.scenarios.Directive.{Directive}
use Rattle.ds_tree.specs.declared.scenarios.Directive.TheVariants as directives
use Rattle.ds_tree.specs.declared.scenarios.HostPlan.{HostPlan}
use Rattle.ds_tree.specs.declared.scenarios.Scenario.{Scenario}
use Rattle.ds_tree.specs.declared.variables.Spoken.TheVariants.{Root}

abbrev pub first_geom : Geom
first_geom = record { slots = 4; block = 1; clusters = 1 ∷ 1 ∷ 1 ∷ 1 ∷ []; items = 16 ∷ 8 ∷ 8 ∷ 64 ∷ [] }

abbrev pub register : Directive
register = directives.Call host_calls.Register None

-- a directive that creates or looks up a name in the root
abbrev pub IsFirstDirective : Directive → Type 0
IsFirstDirective (directives.Call (host_calls.Tree (calls.Create Root name)) None) = IsName name
IsFirstDirective (directives.Call (host_calls.Tree (calls.Lookup Root name)) None) = IsName name
IsFirstDirective _ = ⊥

abbrev pub is_create : Directive → Bool
is_create (directives.Call (host_calls.Tree (calls.Create dir name)) bind) = true
is_create _ = false

-- the list of a host that registers, and then creates and looks up names in the root: at most four creates, and at most
-- 4,096 directives
pub record IsFirstList (list : List Directive) : Type 0 where
  pub calls : List Directive
  pub all : list ≡ register ∷ calls
  pub built : AllByRecursion IsFirstDirective calls
  pub creates : count_by is_create calls ≤ 4
  pub few : length list ≤ 4096

-- a scenario that can be run now; with at most one host its `step` lines change nothing
pub record IsFirstForm (s : Scenario) : Type 0 where
  pub geom : s.geom ≡ first_geom
  pub one : length s.hosts ≤ 1
  pub lists : (host : ℕ) (plan : HostPlan) → slice_get s.hosts host ≡ Some plan → IsFirstList plan.list
  pub steps : AllByRecursion (λ step. step.0 < length s.hosts) s.steps

-- some list of the form begins with these directives
abbrev pub BeginsFirst : List Directive → Type 0
BeginsFirst front = (rest : List Directive) × IsFirstList (front ++ rest)

-- a list of the form begins with the directives before this one, and none begins with those up to it
pub record IsFirstBreak (list : List Directive) (directive : ℕ) : Type 0 where
  pub before : (n : ℕ) → n < directive → BeginsFirst (take n list)
  pub breaks : BeginsFirst (take directive list) → ⊥

-- the first directive of a list that breaks the form, counted from 1; an empty list breaks it at 1
abbrev pub BreaksAt : List Directive → ℕ → Type 0
BreaksAt [] directive = directive ≡ 1
BreaksAt (d ∷ list) directive = IsFirstBreak (d ∷ list) directive

-- another geometry is told at 0 and 0
pub record HasOtherGeometry (s : Scenario) (host directive : ℕ) : Type 0 where
  pub other : s.geom ≢ first_geom
  pub host_is : host ≡ 0
  pub directive_is : directive ≡ 0

-- a second host is told at 1 and 0
pub record HasSecondHost (s : Scenario) (host directive : ℕ) : Type 0 where
  pub geom : s.geom ≡ first_geom
  pub second : 2 ≤ length s.hosts
  pub host_is : host ≡ 1
  pub directive_is : directive ≡ 0

-- the one host's list breaks the form at this directive
pub record HasOtherList (s : Scenario) (host directive : ℕ) : Type 0 where
  pub geom : s.geom ≡ first_geom
  pub one : length s.hosts ≤ 1
  pub plan : HostPlan
  pub there : slice_get s.hosts host ≡ Some plan
  pub breaks : BreaksAt plan.list directive

-- a scenario that can't be run now, and where that is told: at its geometry, else at its second host, else at the first
-- directive of its one host that breaks the form
abbrev pub NotBuiltAt : Scenario → ℕ → ℕ → Type 0
NotBuiltAt s host directive = HasOtherGeometry s host directive ⊎ (HasSecondHost s host directive ⊎ HasOtherList s host directive)
