-- Which scenarios have the form that can be run now, and where the others break it.
use Rattle.std.proofs.Common.{◌≡◌, ℕ, zero, suc, ◌+◌, ◌≤◌, ◌<◌, ◌⊎◌, inl, inr, ◌==◌, true, false, List, [], ◌∷◌, ◌++◌, length, take, drop, take-take, length-take, get_or, cond, add-one, refl, sym, ap, subst, ◌∙◌, arith, Option, Some, None}
use Rattle.std.specs.Prelude.{slice_get, count_by, MatchOption}
use Rattle.std.specs.List.{AllByRecursion, sum_by}
use Rattle.std.proofs.lemmas.Bool.Decides.{nat_tests}
use Rattle.std.proofs.lemmas.List.{take-append-drop, take_all}
use Rattle.std.proofs.lemmas.Option.{slice_get_read}
use Rattle.std.proofs.lemmas.List.Sums.{sum_by-append, sum_by-cons, sum_by_more}
use Rattle.ds_tree.specs.declared.calls.CallOf.{CallOf}
use Rattle.ds_tree.specs.declared.calls.CallOf.TheVariants as calls
use Rattle.ds_tree.specs.declared.calls.HostCallOf.TheVariants as host_calls
use Rattle.ds_tree.specs.declared.scenarios.Directive.{Directive}
use Rattle.ds_tree.specs.declared.scenarios.Directive.TheVariants as directives
use Rattle.ds_tree.specs.declared.scenarios.HostPlan.{HostPlan}
use Rattle.ds_tree.specs.declared.scenarios.Scenario.{Scenario}
use Rattle.ds_tree.specs.declared.variables.Spoken.{Spoken}
use Rattle.ds_tree.specs.declared.variables.Spoken.TheVariants.{Root}
use Rattle.ds_tree.specs.FirstForm.{register, first_geom, is_create, IsFirstDirective, IsFirstList, IsFirstForm, BeginsFirst, IsFirstBreak, BreaksAt, HasOtherList, NotBuiltAt}
use Rattle.ds_tree.specs.Grammar.{IsScenario, IsStep}
use Rattle.ds_log.proofs.Pushes.{get-within}
use Rattle.ds_world.proofs.FirstScripts.{listed_directive}

-- Lists

-- each front of a list of the form is the beginning of one
pub front_begins : (list : List Directive) (n : ℕ) → IsFirstList list → BeginsFirst (take n list)
front_begins list n first = (drop n list, subst IsFirstList (sym (take-append-drop n list)) first)

-- so are the fronts of a list that begins as one of the form does
fronts_begin : (list : List Directive) (m n : ℕ) → IsFirstList (take m list) → n ≤ m → BeginsFirst (take n list)
fronts_begin list m n first le = subst BeginsFirst (take-take n m list le) (front_begins (take m list) n first)

-- a registration, and calls on the root
pub registered_list : (calls : List Directive) → AllByRecursion IsFirstDirective calls → count_by is_create calls ≤ 4 → length calls < 4096 → IsFirstList (register ∷ calls)
registered_list calls built creates few = record { calls = calls; all = refl; built = built; creates = creates; few = omega arith }

front_get : (list rest : List Directive) (n : ℕ) (d : Directive) → slice_get list n ≡ Some d → slice_get (take (suc n) list ++ rest) n ≡ Some d
front_get [] rest n d at = absurd (cc at)
front_get (x ∷ list) rest zero d at = at
front_get (x ∷ list) rest (suc n) d at = front_get list rest n d at

-- what a list of the form has behind its registration
pub record BeginsCalls (front : List Directive) : Type 0 where
  pub rest : List Directive
  pub built : AllByRecursion IsFirstDirective (front ++ rest)
  pub creates : count_by is_create front ≤ 4

begun_calls : (front : List Directive) → BeginsFirst (register ∷ front) → BeginsCalls front
begun_calls front begins =
    let first = begins.1 in
    let same : first.calls ≡ front ++ begins.0 = cc (first.all) in
    let creates : count_by is_create (front ++ begins.0) ≤ 4 = subst (λ (list : List Directive). count_by is_create list ≤ 4) same first.creates in
    record {
      rest = begins.0;
      built = subst (AllByRecursion IsFirstDirective) same first.built;
      creates = omega (arith, creates, sum_by-append (λ (d : Directive). cond {A = ℕ} (is_create d) 1 0) front begins.0);
    }

-- a directive that is no call on the root, or the fifth create, breaks the form
pub call_breaks : (list : List Directive) (n : ℕ) (d : Directive) → slice_get list n ≡ Some d → AllByRecursion IsFirstDirective (take n list) → count_by is_create (take n list) ≤ 4 → length list < 4096
    → (IsFirstDirective d → ⊥) ⊎ (4 < count_by is_create (take (suc n) list)) → IsFirstBreak (register ∷ list) (suc (suc n))
call_breaks list n d at built creates few why = record {
  before = λ m less. fronts_begin (register ∷ list) (suc n) m (registered_list (take n list) built creates short) (omega arith);
  breaks = λ begins. breaks_by why (begun_calls (take (suc n) list) begins);
} where
  short : length (take n list) < 4096
  short = omega (arith, length-take n list, few)

  breaks_by : (IsFirstDirective d → ⊥) ⊎ (4 < count_by is_create (take (suc n) list)) → BeginsCalls (take (suc n) list) → ⊥
  breaks_by (inl other) calls = other (listed_directive (take (suc n) list ++ calls.rest) n d calls.built (front_get list calls.rest n d at))
  breaks_by (inr more) calls = absurd (omega (arith, more, calls.creates))

-- one directive more

built_next : (list : List Directive) (n : ℕ) (d : Directive) → slice_get list n ≡ Some d → AllByRecursion IsFirstDirective (take n list) → IsFirstDirective d
    → AllByRecursion IsFirstDirective (take (suc n) list)
built_next [] n d at built is = absurd (cc at)
built_next (x ∷ list) zero d at built is = let same : d ≡ x = cc at in (subst IsFirstDirective same is, tt)
built_next (x ∷ list) (suc n) d at built is = (built.0, built_next list n d at built.1 is)

pub built_more : (list : List Directive) (n : ℕ) (d : Directive) → n < length list → d ≡ get_or list n d → AllByRecursion IsFirstDirective (take n list) → IsFirstDirective d
    → AllByRecursion IsFirstDirective (take (n + 1) list)
built_more list n d less same built is =
    subst (λ (k : ℕ). AllByRecursion IsFirstDirective (take k list)) (sym (add-one n)) (built_next list n d (slice_get_read list (length list) n d refl less same) built is)

pub created_more : (list : List Directive) (n : ℕ) (d : Directive) (creates more : ℕ) → n < length list → d ≡ get_or list n d → creates ≡ count_by is_create (take n list)
    → more ≡ cond {A = ℕ} (is_create d) 1 0 → creates + more ≡ count_by is_create (take (n + 1) list)
created_more list n d creates more less same counted one =
    let f : Directive → ℕ = λ x. cond {A = ℕ} (is_create x) 1 0 in
    omega (arith, counted, one, ap f same, sum_by_more f list n d less)

-- the whole list
pub whole_list : (list : List Directive) (n : ℕ) → length list ≤ n → AllByRecursion IsFirstDirective (take n list) → count_by is_create (take n list) ≤ 4 → length list < 4096
    → IsFirstList (register ∷ list)
whole_list list n over built creates few =
    let all : take n list ≡ list = take_all n list over in
    registered_list list (subst (AllByRecursion IsFirstDirective) all built) (subst (λ (xs : List Directive). count_by is_create xs ≤ 4) all creates) few

-- the directive behind so many that don't break the form does
pub more_breaks : (list : List Directive) (n : ℕ) (d : Directive) → n < length list → d ≡ get_or list n d → AllByRecursion IsFirstDirective (take n list) → count_by is_create (take n list) ≤ 4
    → length list < 4096 → (IsFirstDirective d → ⊥) ⊎ (4 < count_by is_create (take (n + 1) list)) → IsFirstBreak (register ∷ list) (n + 2)
more_breaks list n d less same built creates few why =
    let Why : ℕ → Type 0 = λ k. (IsFirstDirective d → ⊥) ⊎ (4 < count_by is_create (take k list)) in
    let two : suc (suc n) ≡ n + 2 = omega arith in
    subst (IsFirstBreak (register ∷ list)) two
    (call_breaks list n d (slice_get_read list (length list) n d refl less same) built creates few (subst Why (add-one n) why))

-- a list that doesn't begin by registering breaks the form at once
pub first_breaks : (d : Directive) (list : List Directive) → (d ≡ register → ⊥) → BreaksAt (d ∷ list) 1
first_breaks d list other = record {
  before = λ n less. none_begins n less;
  breaks = λ begins. other (let head : d ≡ register = cc (begins.1.all) in head);
} where
  none_begins : (n : ℕ) → n < 1 → BeginsFirst (take n (d ∷ list))
  none_begins zero less = (register ∷ [], registered_list [] tt (omega arith) (omega arith))
  none_begins (suc n) less = absurd (omega (arith, less))

pub empty_breaks : (list : List Directive) → length list ≡ 0 → BreaksAt list 1
empty_breaks [] none = refl
empty_breaks (d ∷ list) none = absurd (omega arith)

-- what is told of the directives behind a registration is told of the list
pub list_told : (list calls : List Directive) (first : Directive) (told : Option ℕ) → list ≡ first ∷ calls → first ≡ register
    → MatchOption told (IsFirstList (register ∷ calls)) (λ directive. IsFirstBreak (register ∷ calls) directive)
    → MatchOption told (IsFirstList list) (λ directive. BreaksAt list directive)
list_told list calls first told is registers tells =
    let P : List Directive → Type 0 = λ xs. MatchOption told (IsFirstList xs) (λ directive. BreaksAt xs directive) in
    let same : register ∷ calls ≡ list = ap (λ (d : Directive). d ∷ calls) (sym registers) ∙ sym is in
    subst P same tells

-- a list of the form breaks nowhere
breaks_nowhere : (list : List Directive) (n : ℕ) → IsFirstList list → BreaksAt list n → ⊥
breaks_nowhere [] n first breaks = absurd (cc (first.all))
breaks_nowhere (d ∷ list) n first breaks = breaks.breaks (front_begins (d ∷ list) n first)

-- the first break is one
one_break : (list : List Directive) (m n : ℕ) → BreaksAt list m → BreaksAt list n → m ≡ n
one_break [] m n first second = first ∙ sym second
one_break (d ∷ list) m n first second = by_order (le_or_gt m n) where
  le_or_gt : (m n : ℕ) → (m < n) ⊎ (n ≤ m)
  le_or_gt m n = grind arith

  by_order : (m < n) ⊎ (n ≤ m) → m ≡ n
  by_order (inl less) = absurd (first.breaks (second.before m less))
  by_order (inr le) = by_other (le_or_gt n m) where
    by_other : (n < m) ⊎ (m ≤ n) → m ≡ n
    by_other (inl less) = absurd (second.breaks (first.before n less))
    by_other (inr ge) = omega arith

-- Scenarios

-- each `step` line names a host of the scenario
steps_named : (hosts : ℕ) (steps : List (ℕ × ℕ)) → AllByRecursion (IsStep hosts) steps → AllByRecursion (λ (step : ℕ × ℕ). step.0 < hosts) steps
steps_named hosts [] all = tt
steps_named hosts (step ∷ steps) all = (all.0.0, steps_named hosts steps all.1)

one_list : (hosts : List HostPlan) (plan : HostPlan) → hosts ≡ plan ∷ [] → IsFirstList plan.list → (host : ℕ) (other : HostPlan) → slice_get hosts host ≡ Some other → IsFirstList other.list
one_list hosts plan is first host other at = by_number host (sym (ap (λ (xs : List HostPlan). slice_get xs host) is) ∙ at) where
  by_number : (n : ℕ) → slice_get (plan ∷ []) n ≡ Some other → IsFirstList other.list
  by_number zero here = let same : plan ≡ other = cc here in subst (λ (p : HostPlan). IsFirstList p.list) same first
  by_number (suc n) here = absurd (cc here)

-- a scenario of the form with no host
pub form_of_none : (s : Scenario) → IsScenario s → s.geom ≡ first_geom → s.hosts ≡ [] → IsFirstForm s
form_of_none s is geom none = record {
  geom = geom;
  one = omega (arith, ap (λ (hosts : List HostPlan). length hosts) none);
  lists = λ host plan at. absurd (cc (sym (ap (λ (hosts : List HostPlan). slice_get hosts host) none) ∙ at));
  steps = steps_named (length s.hosts) s.steps is.steps;
}

-- a scenario of the form with one host
pub form_of_one : (s : Scenario) (plan : HostPlan) → IsScenario s → s.geom ≡ first_geom → s.hosts ≡ plan ∷ [] → IsFirstList plan.list → IsFirstForm s
form_of_one s plan is geom one first = record {
  geom = geom;
  one = omega (arith, ap (λ (hosts : List HostPlan). length hosts) one);
  lists = one_list s.hosts plan one first;
  steps = steps_named (length s.hosts) s.steps is.steps;
}

-- the list of a scenario's one host is short
pub one_short : (s : Scenario) (plan : HostPlan) (others : List HostPlan) → IsScenario s → s.hosts ≡ plan ∷ others → length plan.list ≤ 4096
one_short s plan others is one =
    omega (arith, is.few_directives, ap (sum_by (λ (p : HostPlan). length p.list)) one, sum_by-cons (λ (p : HostPlan). length p.list) plan others)

some_left : (n : ℕ) → true ≡ (suc n == 0) → ⊥
some_left n is = grind (arith, nat_tests)

none_left : (others : List HostPlan) → true ≡ (length others == 0) → others ≡ []
none_left [] is = refl
none_left (plan ∷ others) is = absurd (some_left (length others) is)

-- a scenario of one host whose list breaks the form
pub list_not_built : (s : Scenario) (plan : HostPlan) (others : List HostPlan) (list : List Directive) (directive : ℕ) → s.geom ≡ first_geom → s.hosts ≡ plan ∷ others
    → true ≡ (length others == 0) → list ≡ plan.list → BreaksAt list directive → NotBuiltAt s 0 directive
list_not_built s plan others list directive geom hosts alone is breaks = inr (inr (record {
  geom = geom;
  one = omega (arith, ap (λ (plans : List HostPlan). length plans) hosts, ap (λ (plans : List HostPlan). length plans) (none_left others alone));
  plan = plan;
  there = ap (λ (plans : List HostPlan). slice_get plans 0) hosts;
  breaks = subst (λ (xs : List Directive). BreaksAt xs directive) is breaks;
}))

pub one_built : (s : Scenario) (plan : HostPlan) (others : List HostPlan) (list : List Directive) → IsScenario s → s.geom ≡ first_geom → s.hosts ≡ plan ∷ others
    → true ≡ (length others == 0) → list ≡ plan.list → IsFirstList list → IsFirstForm s
one_built s plan others list scenario geom hosts alone is first =
    form_of_one s plan scenario geom (hosts ∙ ap (λ (plans : List HostPlan). plan ∷ plans) (none_left others alone)) (subst IsFirstList is first)

pub second_not_built : (s : Scenario) (plan : HostPlan) (others : List HostPlan) → s.geom ≡ first_geom → s.hosts ≡ plan ∷ others → false ≡ (length others == 0) → NotBuiltAt s 1 0
second_not_built s plan others geom hosts more = inr (inl (record { geom = geom; second = second others hosts more; host_is = refl; directive_is = refl })) where
  second : (rest : List HostPlan) → s.hosts ≡ plan ∷ rest → false ≡ (length rest == 0) → 2 ≤ length s.hosts
  second [] is none = absurd (cc none)
  second (other ∷ rest) is none = omega (arith, ap (λ (plans : List HostPlan). length plans) is)

pub other_not_built : (s : Scenario) → (s.geom ≡ first_geom → ⊥) → NotBuiltAt s 0 0
other_not_built s other = inl (record { other = other; host_is = refl; directive_is = refl })

pub none_built : (s : Scenario) → IsScenario s → s.geom ≡ first_geom → length s.hosts ≡ 0 → IsFirstForm s
none_built s scenario geom none = form_of_none s scenario geom (no_plans s.hosts none) where
  no_plans : (hosts : List HostPlan) → length hosts ≡ 0 → hosts ≡ []
  no_plans [] is = refl
  no_plans (plan ∷ hosts) is = absurd (omega arith)

-- a scenario of the form can be run
built_nowhere : (s : Scenario) (host directive : ℕ) → IsFirstForm s → NotBuiltAt s host directive → ⊥
built_nowhere s host directive form (inl other) = other.other form.geom
built_nowhere s host directive form (inr (inl second)) = absurd (omega (arith, second.second, form.one))
built_nowhere s host directive form (inr (inr list)) = breaks_nowhere list.plan.list directive (form.lists host list.plan list.there) list.breaks

same_list : (s : Scenario) (host directive other number : ℕ) → HasOtherList s host directive → HasOtherList s other number → (host ≡ other) × (directive ≡ number)
same_list s host directive other number first second =
    let here : host ≡ 0 = omega (arith, first.one, get-within s.hosts host first.plan first.there) in
    let there : other ≡ 0 = omega (arith, first.one, get-within s.hosts other second.plan second.there) in
    let plans : Some first.plan ≡ Some second.plan = sym first.there ∙ ap (λ (n : ℕ). slice_get s.hosts n) (here ∙ sym there) ∙ second.there in
    let same : first.plan ≡ second.plan = cc plans in
    let breaks : BreaksAt second.plan.list directive = subst (λ (p : HostPlan). BreaksAt p.list directive) same first.breaks in
    (here ∙ sym there, one_break second.plan.list directive number breaks second.breaks)

-- where a scenario can't be run is one place
one_place : (s : Scenario) (host directive other number : ℕ) → NotBuiltAt s host directive → NotBuiltAt s other number → (host ≡ other) × (directive ≡ number)
one_place s host directive other number (inl a) (inl b) = (a.host_is ∙ sym b.host_is, a.directive_is ∙ sym b.directive_is)
one_place s host directive other number (inl a) (inr (inl b)) = absurd (a.other b.geom)
one_place s host directive other number (inl a) (inr (inr b)) = absurd (a.other b.geom)
one_place s host directive other number (inr (inl a)) (inl b) = absurd (b.other a.geom)
one_place s host directive other number (inr (inl a)) (inr (inl b)) = (a.host_is ∙ sym b.host_is, a.directive_is ∙ sym b.directive_is)
one_place s host directive other number (inr (inl a)) (inr (inr b)) = absurd (omega (arith, a.second, b.one))
one_place s host directive other number (inr (inr a)) (inl b) = absurd (b.other a.geom)
one_place s host directive other number (inr (inr a)) (inr (inl b)) = absurd (omega (arith, b.second, a.one))
one_place s host directive other number (inr (inr a)) (inr (inr b)) = same_list s host directive other number a b

abbrev TellsPlace : Scenario → Option (ℕ × ℕ) → Type 0
TellsPlace s told = MatchOption told (IsFirstForm s) (λ at. NotBuiltAt s at.0 at.1)

pub tells_none : (s : Scenario) (told : Option (ℕ × ℕ)) → told ≡ None → IsFirstForm s → TellsPlace s told
tells_none s told none form = subst (TellsPlace s) (sym none) form

-- what is told is the one place
pub told_only : (s : Scenario) (told : Option (ℕ × ℕ)) → TellsPlace s told → (host directive : ℕ) → NotBuiltAt s host directive → told ≡ Some (host, directive)
told_only s None form host directive not = absurd (built_nowhere s host directive form not)
told_only s (Some at) tells host directive not =
    let same = one_place s at.0 at.1 host directive tells not in λ i. Some (same.0 i, same.1 i)

pub told_none : (s : Scenario) (told : Option (ℕ × ℕ)) → TellsPlace s told → IsFirstForm s → told ≡ None
told_none s None tells form = refl
told_none s (Some at) tells form = absurd (built_nowhere s at.0 at.1 form tells)

-- Calls on the root

bound_none : (call : CallOf Spoken) (var : List ℕ) → IsFirstDirective (directives.Call (host_calls.Tree call) (Some var)) → ⊥
bound_none (calls.Create Root name) var is = is
bound_none (calls.Lookup Root name) var is = is
bound_none _ var is = is
