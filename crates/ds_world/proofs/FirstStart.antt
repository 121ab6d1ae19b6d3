-- The first world before its first turn, and what its log promises.
use Rattle.std.proofs.Common.{◌≡◌, ℕ, zero, suc, ◌≤◌, ◌<◌, ◌⊎◌, inl, inr, ◌∙◌, Bool, get_or, List, [], ◌∷◌, length, length-drop, take, drop, refl, ap, sym, subst, arith, cond, false, Option, Some, None}
use Rattle.std.specs.Prelude.{slice_get, min, count_by}
use Rattle.std.proofs.lemmas.List.Elements.{All-drop, All-take}
use Rattle.std.specs.List.{AllByRecursion}
use Rattle.std.proofs.lemmas.List.Sums.{sum_by-cons}
use Rattle.ds_base.specs.declared.names.Key.{Key}
use Rattle.ds_base.specs.declared.geometry.GeomField.TheVariants.{Slots, Block, Clusters, Items}
use Rattle.ds_base.specs.declared.geometry.Kind.TheVariants.{Fd, Sb, Pb, Fb}
use Rattle.ds_base.specs.Geometry.{IsGeom}
use Rattle.ds_tree.specs.declared.calls.CallOf.TheVariants as calls
use Rattle.ds_tree.specs.declared.calls.HostCallOf.TheVariants as host_calls
use Rattle.ds_tree.specs.declared.scenarios.Directive.{Directive}
use Rattle.ds_tree.specs.declared.scenarios.Directive.TheVariants as directives
use Rattle.ds_tree.specs.declared.scenarios.HostPlan.{HostPlan}
use Rattle.ds_tree.specs.declared.scenarios.Scenario.{Scenario}
use Rattle.ds_tree.specs.declared.variables.Spoken.{Spoken}
use Rattle.ds_tree.specs.declared.variables.Spoken.TheVariants.{Root}
use Rattle.ds_tree.specs.FirstForm.{register, is_create, first_geom, IsFirstDirective, IsFirstList, IsFirstForm}
use Rattle.ds_tree.proofs.FreshTree.{fresh-is_tree}
use Rattle.ds_dir.proofs.Laws.{empty_sub, sub_bytes-empty, IsSubBlock-empty}
use Rattle.ds_host.specs.declared.first_host.Stage.TheVariants.{Rest}
use Rattle.std.proofs.Math.Seq.{drop-length}
use Rattle.std.proofs.lemmas.Option.{slice_get-get_or}
use Rattle.std.proofs.lemmas.Bool.Decides.{nat_tests}
use Rattle.ds_log.specs.declared.logs.Event.{Event}
use Rattle.ds_log.specs.declared.logs.Reply.{Reply}
use Rattle.ds_log.specs.History.{Calls}
use Rattle.ds_log.specs.Headline.{StandsAfter, Headline}
use Rattle.ds_log.specs.Scripts.{list_of, key_of, call_of, calls_of}
use Rattle.ds_log.specs.Store.{change_count}
use Rattle.ds_log.specs.Commits.{commits}
use Rattle.ds_log.specs.Follows.{is_reply_before, finished, IsNext, IsAtEnd, AreOf, NoneOf, InReplayOrder}
use Rattle.ds_log.specs.Moments.{EachEvent}
use Rattle.ds_world.specs.FirstRules.{zero_sector, first_rules, tree_of}
use Rattle.ds_world.specs.FirstWorlds.{FirstWorldValue, FirstHolds}
use Rattle.ds_world.proofs.FirstScripts.{plan_list, host_list, no_list, directive_of_list, few_creates}

same_call : (key other : Spoken → Key) → key Root ≡ other Root → (d : Directive) → IsFirstDirective d → call_of key (Some d) ≡ call_of other (Some d)
same_call key other same (directives.Call (host_calls.Tree (calls.Create Root name)) None) is = ap (λ (k : Key). Some (calls.Create k name)) same
same_call key other same (directives.Call (host_calls.Tree (calls.Lookup Root name)) None) is = ap (λ (k : Key). Some (calls.Lookup k name)) same
same_call key other same _ is = absurd is

same_first : (key other : Spoken → Key) → key Root ≡ other Root → (d : Directive) → (d ≡ register) ⊎ IsFirstDirective d → call_of key (Some d) ≡ call_of other (Some d)
same_first key other same d (inl is) = ap (λ (x : Directive). call_of key (Some x)) is ∙ sym (ap (λ (x : Directive). call_of other (Some x)) is)
same_first key other same d (inr is) = same_call key other same d is

same_in : (key other : Spoken → Key) → key Root ≡ other Root → (list : List Directive) → (list ≡ []) ⊎ IsFirstList list → (n : ℕ) (d : Option Directive) → slice_get list n ≡ d
    → call_of key d ≡ call_of other d
same_in key other same list first n None at = refl
same_in key other same list first n (Some d) at = same_first key other same d (directive_of_list list first n d at)

-- the calls of such a scenario don't depend on replies
calls_same : (s : Scenario) (form : IsFirstForm s) (replies : List Reply) (host n : ℕ) → calls_of s [] host n ≡ calls_of s replies host n
calls_same s form replies host zero = refl
calls_same s form replies host (suc n) =
    same_in (key_of s [] host (suc n)) (key_of s replies host (suc n)) refl (list_of s host) (host_list s form host) n (slice_get (list_of s host) n) refl

-- what holds of the first world is the headline of its log
pub headline_of : (w : FirstWorldValue) → FirstHolds w → Headline first_rules first_geom (calls_of w.scenario w.log.replies) w.log.events w.log.replies
headline_of w h =
    let path : calls_of w.scenario [] ≡ calls_of w.scenario w.log.replies = λ i host n. calls_same w.scenario h.form w.log.replies host n i in
    let P : Calls → Type 0 = λ calls. Headline first_rules first_geom calls w.log.events w.log.replies in
    subst P path (record { trees = h.trees; changes = h.changes; whole = h.whole; legal = h.legal; image = h.image })

nothing : {A : Type 0} (n : ℕ) → take {A = A} n [] ≡ []
nothing zero = refl
nothing (suc n) = refl

abbrev pub first_value : Scenario → FirstWorldValue
first_value s = record {
  scenario = s;
  position = 0;
  host = record { registered = false; stage = Rest };
  device = zero_sector ∷ [];
  commits = 0;
  log = record { events = []; replies = []; spare = 0 };
  room = 0;
}

at_first : (s : Scenario) → StandsAfter first_rules (tree_of first_geom [] ∷ []) []
at_first s = record {
  tree = tree_of first_geom [];
  there = refl;
  stands = record { sector = zero_sector; block = empty_sub; there = refl; spelled = (IsSubBlock-empty, sym sub_bytes-empty); tree = refl };
}

pub first_geom-is : IsGeom first_geom
first_geom-is Slots = (omega arith, omega arith)
first_geom-is Block = (omega arith, omega arith)
first_geom-is (Clusters Fd) = (omega arith, omega arith)
first_geom-is (Clusters Sb) = (omega arith, omega arith)
first_geom-is (Clusters Pb) = (omega arith, omega arith)
first_geom-is (Clusters Fb) = (omega arith, omega arith)
first_geom-is (Items Fd) = (omega arith, omega arith)
first_geom-is (Items Sb) = (omega arith, omega arith)
first_geom-is (Items Pb) = (omega arith, omega arith)
first_geom-is (Items Fb) = (omega arith, omega arith)

pub first_holds : (s : Scenario) → IsFirstForm s → FirstHolds (first_value s)
first_holds s form =
    let P : List Event → Type 0 = StandsAfter first_rules (tree_of first_geom [] ∷ []) in
    let few : count_by is_create (drop 0 (list_of s 0)) ≤ 4 = few_creates (list_of s 0) (host_list s form 0) in
    record {
      form = form;
      within = omega arith;
      sector = zero_sector;
      block = empty_sub;
      entries = [];
      free = 4;
      holds = record { one = refl; spelled = (IsSubBlock-empty, sym sub_bytes-empty); packed = refl; four = refl };
      numbered = tt;
      rules = fresh-is_tree first_geom first_geom-is;
      room = omega (arith, few);
      is_store = refl;
      trees = tree_of first_geom [] ∷ [];
      changes = [];
      latest = refl;
      changed = refl;
      counted = refl;
      taken = refl;
      whole = record { count = refl; each = λ n e at commits. absurd (cc at) };
      legal = record {
        steps = record { first = refl; count = refl; each = λ k c at. absurd (cc at) };
        given = λ i r at. absurd (cc at);
        stands = λ i r at. absurd (cc at);
        in_order = λ i j r q m n less at there host place after. absurd (cc at);
        one_reply = λ i j r q at there host directive. absurd (cc at);
        one_change = λ i j c d at there host directive. absurd (cc at);
      };
      image = λ n le. subst P (sym (nothing n)) (at_first s);
      follows = record {
        next = λ n e at. absurd (cc at);
        given = λ i r at. absurd (cc at);
        rising = λ i j q r less at there. absurd (cc at);
      };
      done = λ n le. refl;
      own = λ n le. refl;
      registered = refl;
      reached = record { events_reach = λ i e at. absurd (cc at); replies_reach = λ i r at. absurd (cc at); changes_reach = λ i c at. absurd (cc at) };
      sent = refl;
      stage = tt;
    }

-- Ends and orders

not_before : (host n : ℕ) (r : Reply) → r.host ≡ 0 → is_reply_before (suc host) n r ≡ false
not_before host n r first = grind (arith, nat_tests)

none_of_others : (replies : List Reply) (host n : ℕ) → ((i : ℕ) (r : Reply) → slice_get replies i ≡ Some r → r.host ≡ 0) → finished replies (suc host) n ≡ 0
none_of_others [] host n all = refl
none_of_others (r ∷ replies) host n all =
    let first : r.host ≡ 0 = all 0 r refl in
    let here : cond {A = ℕ} (is_reply_before (suc host) n r) 1 0 ≡ 0 = ap (λ (b : Bool). cond {A = ℕ} b 1 0) (not_before host n r first) in
    let rest = none_of_others replies host n (λ i q at. all (suc i) q at) in
    omega (arith, sum_by-cons (λ (q : Reply). cond {A = ℕ} (is_reply_before (suc host) n q) 1 0) r replies, here, rest)

-- a world whose host is at the end of its list: so is every host of the scenario
pub is_at_end : (w : FirstWorldValue) (h : FirstHolds w) → length (list_of w.scenario 0) ≤ w.position → IsAtEnd w.scenario w.log.events w.log.replies
is_at_end w h ended zero = omega (arith, h.done (length w.log.events) (omega arith), h.within, ended)
is_at_end w h ended (suc host) =
    none_of_others w.log.replies host (length w.log.events) (λ i r at. (h.reached.replies_reach i r at).0)
    ∙ sym (ap (λ (list : List Directive). length list) (no_list w.scenario h.form host))

all_of_first : (events : List Event) → ((i : ℕ) (e : Event) → slice_get events i ≡ Some e → e.host ≡ 0) → AreOf 0 events
all_of_first events all i d less =
    let item = slice_get-get_or events i d less in all i (get_or events i d) item

all_of_rest : (events : List Event) (n : ℕ) → AreOf 0 events → AreOf 0 (drop n events)
all_of_rest events n all = All-drop (λ (e : Event). e.host ≡ 0) n events all

all_of_front : (events : List Event) (n : ℕ) → AreOf 0 events → AreOf 0 (take n events)
all_of_front events n all = All-take (λ (e : Event). e.host ≡ 0) n events all

-- no event is left of a log that is over
none_of_rest : (events : List Event) (n : ℕ) → length events ≤ n → NoneOf 0 (drop n events)
none_of_rest events n over i d less = absurd (omega (arith, less, length-drop n events))

-- one host makes all turns, whatever the `step` lines are
ordered : (steps : List (ℕ × ℕ)) (events : List Event) → AllByRecursion (λ (step : ℕ × ℕ). step.0 < 1) steps → AreOf 0 events → InReplayOrder 1 steps events
ordered [] events first all = (
  length events,
  all_of_front events (length events) all,
  none_of_rest events (length events) (omega arith),
  drop-length events,
)
ordered (step ∷ steps) events first all =
    let host : 0 ≡ step.0 = omega (arith, first.0) in
    let n = min step.1 (length events) in (
      n,
      omega arith,
      subst (λ (h : ℕ). AreOf h (take n events)) host (all_of_front events n all),
      λ less. subst (λ (h : ℕ). NoneOf h (drop n events)) host (none_of_rest events n (omega arith)),
      ordered steps (drop n events) first.1 (all_of_rest events n all),
    )

-- without a host there are no `step` lines, and no events
unordered : (steps : List (ℕ × ℕ)) → AllByRecursion (λ (step : ℕ × ℕ). step.0 < 0) steps → InReplayOrder 0 steps []
unordered [] none = refl
unordered (step ∷ steps) none = absurd (omega (arith, none.0))

-- without directives nothing happens
no_events : (w : FirstWorldValue) (h : FirstHolds w) → ((host : ℕ) → list_of w.scenario host ≡ []) → w.log.events ≡ []
no_events w h empty = by_events w.log.events h.follows.next where
  by_events : (events : List Event) → EachEvent (IsNext first_rules.start w.scenario w.log.replies) events → events ≡ []
  by_events [] next = refl
  by_events (e ∷ events) next =
      let is = next 0 e refl in
      absurd (cc (sym (ap (λ (list : List Directive). slice_get list (finished w.log.replies e.host 0)) (empty e.host)) ∙ is.due))

order_by : (w : FirstWorldValue) (h : FirstHolds w) (hosts : List HostPlan) → w.scenario.hosts ≡ hosts → length hosts ≤ 1 → AllByRecursion (λ (step : ℕ × ℕ). step.0 < length hosts) w.scenario.steps
    → InReplayOrder (length hosts) w.scenario.steps w.log.events
order_by w h [] is one steps =
    let empty : (host : ℕ) → list_of w.scenario host ≡ [] = λ host. ap (λ (hosts : List HostPlan). plan_list (slice_get hosts host)) is in
    subst (InReplayOrder 0 w.scenario.steps) (sym (no_events w h empty)) (unordered w.scenario.steps steps)
order_by w h (plan ∷ []) is one steps = ordered w.scenario.steps w.log.events steps (all_of_first w.log.events (λ i e at. (h.reached.events_reach i e at).0))
order_by w h (plan ∷ second ∷ hosts) is one steps = absurd (omega arith)

pub is_in_order : (w : FirstWorldValue) (h : FirstHolds w) → InReplayOrder (length w.scenario.hosts) w.scenario.steps w.log.events
is_in_order w h = order_by w h w.scenario.hosts refl h.form.one h.form.steps

-- what is told of Swaps counts the commits
pub changes_counted : (w : FirstWorldValue) (h : FirstHolds w) → change_count w.log.events ≡ commits first_rules w.log.events
changes_counted w h = h.taken ∙ h.whole.count
