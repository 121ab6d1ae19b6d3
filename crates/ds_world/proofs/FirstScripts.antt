-- What a scenario of the first form asks for.
use Rattle.std.proofs.Common.{◌≡◌, ℕ, zero, suc, ◌+◌, ◌≤◌, ◌⊎◌, inl, inr, cond, List, [], ◌∷◌, length, refl, sym, ap, subst, ◌∙◌, add-one, arith, Option, Some, None}
use Rattle.std.specs.Prelude.{slice_get, count_by}
use Rattle.std.specs.List.{AllByRecursion}
use Rattle.std.proofs.lemmas.List.Sums.{sum_by-cons}
use Rattle.ds_base.specs.declared.names.Key.{Key}
use Rattle.ds_tree.specs.declared.calls.CallOf.TheVariants as calls
use Rattle.ds_tree.specs.declared.scenarios.Directive.{Directive}
use Rattle.ds_tree.specs.declared.scenarios.Directive.TheVariants as directives
use Rattle.ds_tree.specs.declared.scenarios.HostPlan.{HostPlan}
use Rattle.ds_tree.specs.declared.scenarios.Scenario.{Scenario}
use Rattle.ds_tree.specs.declared.variables.Spoken.{Spoken}
use Rattle.ds_tree.specs.declared.variables.Spoken.TheVariants.{Root}
use Rattle.ds_tree.specs.FirstForm.{register, is_create, IsFirstDirective, IsFirstList, IsFirstForm}
use Rattle.ds_host.specs.declared.first_host.RootCall.{RootCall}
use Rattle.ds_host.specs.declared.first_host.RootCall.TheVariants.{Create, Lookup}
use Rattle.ds_host.specs.FirstConduct.{tree_call}
use Rattle.ds_log.specs.declared.logs.Event.{Event}
use Rattle.ds_log.specs.declared.logs.Reply.{Reply}
use Rattle.ds_log.specs.Scripts.{list_of, directive_at, key_of, call_of, calls_of, ticks_of}
use Rattle.ds_log.specs.Follows.{clock}
use Rattle.ds_world.specs.FirstWorlds.{root_directive}

abbrev pub plan_list : Option HostPlan → List Directive
plan_list None = []
plan_list (Some plan) = plan.list

-- a host has no directives, or a list of the form
pub host_list : (s : Scenario) (form : IsFirstForm s) (host : ℕ) → (list_of s host ≡ []) ⊎ IsFirstList (list_of s host)
host_list s form host = by_plan (slice_get s.hosts host) refl where
  by_plan : (plan : Option HostPlan) → slice_get s.hosts host ≡ plan → (plan_list plan ≡ []) ⊎ IsFirstList (plan_list plan)
  by_plan None at = inl refl
  by_plan (Some plan) at = inr (form.lists host plan at)

none_behind : (hosts : List HostPlan) (host : ℕ) → length hosts ≤ 1 → plan_list (slice_get hosts (suc host)) ≡ []
none_behind [] host one = refl
none_behind (plan ∷ []) host one = refl
none_behind (plan ∷ second ∷ hosts) host one = absurd (omega arith)

-- there is no second host
pub no_list : (s : Scenario) (form : IsFirstForm s) (host : ℕ) → list_of s (suc host) ≡ []
no_list s form host = none_behind s.hosts host form.one

-- a directive of a list of the form is the registration, or one of those that come after it
pub listed_directive : (calls : List Directive) (n : ℕ) (d : Directive) → AllByRecursion IsFirstDirective calls → slice_get calls n ≡ Some d → IsFirstDirective d
listed_directive [] n d all at = absurd (cc at)
listed_directive (c ∷ calls) zero d all at = let same : c ≡ d = cc at in subst IsFirstDirective same all.0
listed_directive (c ∷ calls) (suc n) d all at = listed_directive calls n d all.1 at

any_directive : (calls : List Directive) (n : ℕ) (d : Directive) → AllByRecursion IsFirstDirective calls → slice_get (register ∷ calls) n ≡ Some d → (d ≡ register) ⊎ IsFirstDirective d
any_directive calls zero d all at = inl (sym (cc at))
any_directive calls (suc n) d all at = inr (listed_directive calls n d all at)

pub directive_of_list : (list : List Directive) → (list ≡ []) ⊎ IsFirstList list → (n : ℕ) (d : Directive) → slice_get list n ≡ Some d → (d ≡ register) ⊎ IsFirstDirective d
directive_of_list list (inl none) n d at = absurd (cc (sym (ap (λ (xs : List Directive). slice_get xs n) none) ∙ at))
directive_of_list list (inr first) n d at = any_directive first.calls n d first.built (sym (ap (λ (xs : List Directive). slice_get xs n) first.all) ∙ at)

-- the first directive of a host is its registration
pub head_of_list : (list : List Directive) → (list ≡ []) ⊎ IsFirstList list → (d : Directive) → slice_get list 0 ≡ Some d → d ≡ register
head_of_list list (inl none) d at = absurd (cc (sym (ap (λ (xs : List Directive). slice_get xs 0) none) ∙ at))
head_of_list list (inr first) d at = let head : Some d ≡ Some register = sym at ∙ ap (λ (xs : List Directive). slice_get xs 0) first.all in cc

pub list_is_short : (list : List Directive) → (list ≡ []) ⊎ IsFirstList list → length list ≤ 4096
list_is_short list (inl none) = omega (arith, ap (λ (xs : List Directive). length xs) none)
list_is_short list (inr first) = first.few

pub few_creates : (list : List Directive) → (list ≡ []) ⊎ IsFirstList list → count_by is_create list ≤ 4
few_creates list (inl none) = omega (arith, ap (count_by is_create) none)
few_creates list (inr first) =
    omega (arith, ap (count_by is_create) first.all, sum_by-cons (λ (d : Directive). cond {A = ℕ} (is_create d) 1 0) register first.calls, first.creates)

pub directive_at-next : (s : Scenario) (host n : ℕ) → directive_at s host (n + 1) ≡ slice_get (list_of s host) n
directive_at-next s host n = ap (λ (k : ℕ). directive_at s host k) (add-one n)

-- the tree call of a directive in the root, whatever variables stand for
pub call_of-root : (key : Spoken → Key) (call : RootCall) → key Root ≡ record { object = 0; birth = 1 } → call_of key (Some (root_directive call)) ≡ Some (tree_call call)
call_of-root key (Create name) root = ap (λ (k : Key). Some (calls.Create k name)) root
call_of-root key (Lookup name) root = ap (λ (k : Key). Some (calls.Lookup k name)) root

pub calls_of-next : (s : Scenario) (replies : List Reply) (n : ℕ) (call : RootCall) → slice_get (list_of s 0) n ≡ Some (root_directive call)
    → calls_of s replies 0 (n + 1) ≡ Some (tree_call call)
calls_of-next s replies n call due =
    ap (call_of (key_of s replies 0 (n + 1))) (directive_at-next s 0 n ∙ due) ∙ call_of-root (key_of s replies 0 (n + 1)) call refl

-- a registration is no tree call
pub calls_of-register : (s : Scenario) (replies : List Reply) (n : ℕ) → slice_get (list_of s 0) n ≡ Some register → calls_of s replies 0 (n + 1) ≡ None
calls_of-register s replies n due = ap (call_of (key_of s replies 0 (n + 1))) (directive_at-next s 0 n ∙ due)

no_ticks : (d : Directive) → (d ≡ register) ⊎ IsFirstDirective d → ticks_of (Some d) ≡ 0
no_ticks d (inl is) = ap (λ (x : Directive). ticks_of (Some x)) is
no_ticks (directives.Call call bind) (inr is) = refl
no_ticks (directives.Tick ticks) (inr is) = absurd is
no_ticks (directives.Wait host directive) (inr is) = refl
no_ticks (directives.Hold point host directive) (inr is) = refl
no_ticks (directives.Crash point) (inr is) = refl
no_ticks (directives.Fail point landed) (inr is) = refl
no_ticks directives.Die (inr is) = refl
no_ticks directives.Return (inr is) = refl

no_ticks_in : (list : List Directive) → (list ≡ []) ⊎ IsFirstList list → (n : ℕ) (d : Option Directive) → slice_get list n ≡ d → ticks_of d ≡ 0
no_ticks_in list first n None at = refl
no_ticks_in list first n (Some d) at = no_ticks d (directive_of_list list first n d at)

no_ticks_at : (s : Scenario) (form : IsFirstForm s) (host n : ℕ) → ticks_of (directive_at s host n) ≡ 0
no_ticks_at s form host zero = refl
no_ticks_at s form host (suc n) = no_ticks_in (list_of s host) (host_list s form host) n (slice_get (list_of s host) n) refl

zeros : ◌≡◌ {A = ℕ} (0 + 0) 0
zeros = refl

-- the clock stands
pub clock-first : (s : Scenario) (form : IsFirstForm s) (past : List Event) → clock s past ≡ 0
clock-first s form [] = refl
clock-first s form (e ∷ past) =
    let here : ticks_of (directive_at s e.host e.directive) ≡ 0 = no_ticks_at s form e.host e.directive in
    let rest : clock s past ≡ 0 = clock-first s form past in
    sum_by-cons (λ (d : Event). ticks_of (directive_at s d.host d.directive)) e past ∙ (λ i. here i + rest i) ∙ zeros
