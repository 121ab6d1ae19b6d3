-- Each kind of turn keeps what holds of the first world.
use Rattle.std.proofs.Common.{◌≡◌, ℕ, suc, ◌+◌, ◌<◌, inl, inr, Bool, true, false, cond, List, [], ◌∷◌, ◌++◌, drop, refl, ap, sym, subst, ◌∙◌, arith, Some, None}
use Rattle.std.specs.Prelude.{slice_get, count_by, if◌then◌else◌}
use Rattle.std.proofs.lemmas.Bool.Decides.{nat_tests}
use Rattle.std.proofs.lemmas.List.Sums.{sum_by-cons, sum_by-drop_more}
use Rattle.std.proofs.lemmas.Option.{get_or_from_slice_get}
use Rattle.ds_tree.specs.declared.scenarios.Directive.{Directive}
use Rattle.ds_tree.specs.FirstForm.{is_create}
use Rattle.ds_host.specs.declared.first_host.Stage.{Stage}
use Rattle.ds_host.specs.declared.first_host.Stage.TheVariants.{Rest, Reading, Filling}
use Rattle.ds_log.specs.declared.logs.Event.{Event}
use Rattle.ds_log.specs.declared.logs.Reply.{Reply}
use Rattle.ds_log.specs.Commits.{commits}
use Rattle.ds_log.specs.History.{Change}
use Rattle.ds_log.specs.Follows.{is_reply_before, finished, holding, held, generation_given, is_event_of}
use Rattle.ds_world.specs.FirstWorlds.{FirstWorldValue, StageHolds, AreReached, FirstHolds}
use Rattle.ds_log.proofs.Pushes.{get-push_cases, get-within, count_by-push, fold-push}

-- The room of the log doesn't matter

with_spare : FirstWorldValue → ℕ → ℕ → FirstWorldValue
with_spare w spare room = record {
  scenario = w.scenario;
  position = w.position;
  host = w.host;
  device = w.device;
  commits = w.commits;
  log = record { events = w.log.events; replies = w.log.replies; spare = spare };
  room = room;
}

StageHolds-spare : (w : FirstWorldValue) (spare room : ℕ) (h : FirstHolds w) (stage : Stage) → StageHolds w h.sector h.block stage → StageHolds (with_spare w spare room) h.sector h.block stage
unfolding with_spare
StageHolds-spare w spare room h Rest holds = tt
StageHolds-spare w spare room h (Reading call) holds = record { due = holds.due; registered = holds.registered; is_name = holds.is_name }
StageHolds-spare w spare room h (Filling name key verify fresh) holds = (
  holds.0,
  record {
    under_way = record { due = holds.1.under_way.due; registered = holds.1.under_way.registered; is_name = holds.1.under_way.is_name };
    verified = holds.1.verified;
    absent = holds.1.absent;
    spelled = holds.1.spelled;
  },
)

FirstHolds-spare : (w : FirstWorldValue) (spare room : ℕ) → FirstHolds w → FirstHolds (with_spare w spare room)
unfolding with_spare
FirstHolds-spare w spare room h = record {
  form = h.form;
  within = h.within;
  sector = h.sector;
  block = h.block;
  entries = h.entries;
  free = h.free;
  holds = h.holds;
  numbered = h.numbered;
  rules = h.rules;
  room = h.room;
  is_store = h.is_store;
  trees = h.trees;
  changes = h.changes;
  latest = h.latest;
  changed = h.changed;
  counted = h.counted;
  taken = h.taken;
  whole = h.whole;
  legal = h.legal;
  image = h.image;
  follows = h.follows;
  done = h.done;
  own = h.own;
  registered = h.registered;
  reached = h.reached;
  sent = h.sent;
  stage = StageHolds-spare w spare room h w.host.stage h.stage;
}

-- a world with the same values, but for room, holds the same
pub FirstHolds-as : (v w : FirstWorldValue) → v.scenario ≡ w.scenario → v.position ≡ w.position → v.host ≡ w.host → v.device ≡ w.device → v.commits ≡ w.commits
    → v.log.events ≡ w.log.events → v.log.replies ≡ w.log.replies → FirstHolds v → FirstHolds w
unfolding with_spare
FirstHolds-as v w scenario position host device commits events replies h =
    let path : with_spare v w.log.spare w.room ≡ w = λ i. record {
      scenario = scenario i;
      position = position i;
      host = host i;
      device = device i;
      commits = commits i;
      log = record { events = events i; replies = replies i; spare = w.log.spare };
      room = w.room;
    } in
    subst FirstHolds path (FirstHolds-spare v w.log.spare w.room h)

-- Counts

is_not_of : (d : ℕ) (e : Event) → e.directive < d → is_event_of 0 d e ≡ false
is_not_of d e less = grind (arith, nat_tests)

-- no event is of a later directive
pub none_later : (events : List Event) (d : ℕ) → ((i : ℕ) (e : Event) → slice_get events i ≡ Some e → e.directive < d) → count_by (is_event_of 0 d) events ≡ 0
none_later [] d below = refl
none_later (e ∷ events) d below =
    let here : cond {A = ℕ} (is_event_of 0 d e) 1 0 ≡ 0 = ap (λ (b : Bool). cond {A = ℕ} b 1 0) (is_not_of d e (below 0 e refl)) in
    let rest : count_by (is_event_of 0 d) events ≡ 0 = none_later events d (λ i x at. below (suc i) x at) in
    omega (arith, sum_by-cons (λ (x : Event). cond {A = ℕ} (is_event_of 0 d x) 1 0) e events, here, rest)

-- the creates that are left, with a directive and after it
pub creates_left : (list : List Directive) (i : ℕ) (d : Directive) → slice_get list i ≡ Some d
    → count_by is_create (drop i list) ≡ cond {A = ℕ} (is_create d) 1 0 + count_by is_create (drop (i + 1) list)
creates_left list i d at =
    let f : Directive → ℕ = λ x. cond {A = ℕ} (is_create x) 1 0 in
    let item = get_or_from_slice_get list i d d at in
    sum_by-drop_more f list i d (get-within list i d at) ∙ ap (λ (x : Directive). f x + count_by is_create (drop (i + 1) list)) item

before_next : (r : Reply) (n : ℕ) → r.host ≡ 0 → r.event < n → is_reply_before 0 n r ≡ true
before_next r n host less = grind (arith, nat_tests)

-- one more reply of the host is one more directive that it has finished
pub done-push : (replies : List Reply) (r : Reply) (n position : ℕ) → r.host ≡ 0 → r.event < n → finished replies 0 n ≡ position → finished (replies ++ r ∷ []) 0 n ≡ position + 1
done-push replies r n position host less before =
    omega (arith, count_by-push (is_reply_before 0 n) replies r, ap (λ (b : Bool). cond {A = ℕ} b 1 0) (before_next r n host less), before)

pub own-push : (replies : List Reply) (r : Reply) (n : ℕ) → r.host ≡ 0 → r.event < n → held (replies ++ r ∷ []) 0 n ≡ generation_given r.answer (held replies 0 n)
own-push replies r n host less =
    fold-push (holding 0 n) None replies r ∙ ap (λ (b : Bool). if b then generation_given r.answer (held replies 0 n) else held replies 0 n) (before_next r n host less)

pub reached-event : (position : ℕ) (events : List Event) (replies : List Reply) (changes : List Change) (e : Event) → e.host ≡ 0 → e.directive ≡ position + 1
    → AreReached position events replies changes → AreReached position (events ++ e ∷ []) replies changes
reached-event position events replies changes e host directive reached = record {
  events_reach = λ i d at. elim (get-push_cases events e d i at) [
    | inl old ↦ reached.events_reach i d old
    | inr now ↦ (sym (ap (λ (x : Event). x.host) now.1) ∙ host, omega (arith, ap (λ (x : Event). x.directive) now.1, directive))
  ];
  replies_reach = reached.replies_reach;
  changes_reach = reached.changes_reach;
}

pub reached-reply : (position : ℕ) (events : List Event) (replies : List Reply) (changes : List Change) (r : Reply) → r.host ≡ 0 → r.directive ≡ position + 1
    → AreReached position events replies changes → AreReached (position + 1) events (replies ++ r ∷ []) changes
reached-reply position events replies changes r host directive reached = record {
  events_reach = λ i d at. ((reached.events_reach i d at).0, omega (arith, (reached.events_reach i d at).1));
  replies_reach = λ i q at. elim (get-push_cases replies r q i at) [
    | inl old ↦ ((reached.replies_reach i q old).0, omega (arith, (reached.replies_reach i q old).1))
    | inr now ↦ (sym (ap (λ (x : Reply). x.host) now.1) ∙ host, omega (arith, ap (λ (x : Reply). x.directive) now.1, directive))
  ];
  changes_reach = λ i c at. ((reached.changes_reach i c at).0, omega (arith, (reached.changes_reach i c at).1));
}

pub reached-change : (position : ℕ) (events : List Event) (replies : List Reply) (changes : List Change) (c : Change) → c.host ≡ 0 → c.directive ≡ position
    → AreReached position events replies changes → AreReached position events replies (changes ++ c ∷ [])
reached-change position events replies changes c host directive reached = record {
  events_reach = reached.events_reach;
  replies_reach = reached.replies_reach;
  changes_reach = λ i b at. elim (get-push_cases changes c b i at) [
    | inl old ↦ reached.changes_reach i b old
    | inr now ↦ (sym (ap (λ (x : Change). x.host) now.1) ∙ host, omega (arith, ap (λ (x : Change). x.directive) now.1, directive))
  ];
}
