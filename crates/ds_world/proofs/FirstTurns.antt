-- What each kind of turn of the first world makes of it.
use Rattle.std.proofs.Common.{◌≡◌, ℕ, zero, suc, ◌+◌, ◌-◌, ◌≤◌, ◌<◌, inl, inr, Bool, true, false, cond, List, [], ◌∷◌, ◌++◌, length, drop, refl, ap, sym, subst, ◌∙◌, arith, Option, Some, None}
use Rattle.std.specs.Prelude.{slice_get, slice_set, count_by, nat_lt, replicate, map, if◌then◌else◌}
use Rattle.std.proofs.lemmas.Bool.Decides.{nat_tests}
use Rattle.std.proofs.Math.Seq.{take-length}
use Rattle.ds_base.specs.declared.sectors.Sector.{Sector}
use Rattle.ds_base.specs.declared.commands.Command.{Command}
use Rattle.ds_base.specs.declared.commands.Command.TheVariants.{Read, Swap}
use Rattle.ds_base.specs.declared.commands.Response.{Response}
use Rattle.ds_base.specs.declared.commands.Response.TheVariants.{Got, Done}
use Rattle.ds_base.specs.Device.{Answers, takes_effect, stored}
use Rattle.ds_base.specs.declared.names.Key.{Key}
use Rattle.ds_base.proofs.DeviceLaws.{holds_image-found, stored-swap_holds}
use Rattle.ds_tree.specs.declared.calls.CallOf.TheVariants as calls
use Rattle.ds_tree.specs.declared.calls.TreeReply.{TreeReply}
use Rattle.ds_tree.specs.declared.calls.TreeReply.TheVariants.{Made}
use Rattle.ds_tree.specs.declared.scenarios.Directive.{Directive}
use Rattle.ds_tree.specs.FirstForm.{is_create, first_geom, register}
use Rattle.ds_tree.specs.Nodes.{FileTree, root_key}
use Rattle.ds_tree.specs.Steps.{Does}
use Rattle.ds_tree.proofs.StepKeeps.{step-keeps}
use Rattle.ds_conduct.specs.declared.answers.HostAnswer.{HostAnswer}
use Rattle.ds_conduct.specs.declared.answers.HostAnswer.TheVariants.{Tree, Registered}
use Rattle.ds_host.specs.declared.first_host.RootCall.{RootCall}
use Rattle.ds_host.specs.declared.first_host.RootCall.TheVariants.{Create, Lookup}
use Rattle.ds_host.specs.declared.first_host.Stage.{Stage}
use Rattle.ds_host.specs.declared.first_host.Stage.TheVariants.{Rest, Reading, Filling}
use Rattle.ds_host.specs.Rooms.{entries_in, entry_named, with_entry, next_key, file_entry}
use Rattle.ds_host.specs.FirstConduct.{SpellsRooms, tree_call, at_stage}
use Rattle.ds_dir.specs.declared.sub_block.Entry.{Entry}
use Rattle.ds_dir.specs.declared.sub_block.SubBlock.{SubBlock}
use Rattle.ds_log.specs.declared.logs.Step.TheVariants.{Sent}
use Rattle.ds_log.specs.declared.logs.Event.{Event}
use Rattle.ds_log.specs.declared.logs.Reply.{Reply}
use Rattle.ds_log.specs.Store.{store, after_step, is_change, change_count}
use Rattle.ds_log.specs.Commits.{commits, commits_next}
use Rattle.ds_log.specs.Moments.{AtEveryMoment}
use Rattle.ds_log.specs.History.{Change, Stands}
use Rattle.ds_log.specs.Headline.{StandsAfter}
use Rattle.ds_log.specs.Scripts.{list_of, calls_of}
use Rattle.ds_log.specs.Follows.{finished, held, is_event_of, IsCommand, Carries, IsNext}
use Rattle.ds_world.specs.FirstRules.{first_rules, tree_of}
use Rattle.ds_world.specs.FirstWorlds.{FirstWorldValue, root_directive, IsUnderWay, IsFilling, StageHolds, sent_at, stepped, sent_event, local_event, reply_now, FirstHolds}
use Rattle.ds_log.proofs.Pushes.{length-push, get-push_last, get-push_cases, get-within, take-push_whole, count_by-push}
use Rattle.ds_log.proofs.Growing.{store-push, commits-take, commits-push_none, commits-push_one, AtEveryMoment-push, AtEveryMoment-map}
use Rattle.ds_log.proofs.Legal.{IsLegal-event, IsLegal-change, IsLegal-reply}
use Rattle.ds_log.proofs.Whole.{whole-reply, whole-event, whole-commit, StandsAfter-tree}
use Rattle.ds_log.proofs.Following.{finished-later, held-later, follows-event, follows-answered}
use Rattle.ds_world.proofs.FirstScripts.{calls_of-next, calls_of-register, clock-first}
use Rattle.ds_world.proofs.FirstDoes.{named, numbered-push, does_create}
use Rattle.ds_world.proofs.FirstSteps.{none_later, creates_left, done-push, own-push, reached-event, reached-reply, reached-change}

carries_command : (start : List Sector) (replies : List Reply) (past : List Event) (e : Event) (call : RootCall) (under : Option (ℕ × ℕ)) (command : Command) (response : Response) (landed took : Bool)
    → IsCommand start replies past e under command response landed took → Carries start replies past e (root_directive call) (Sent under command response landed took)
carries_command start replies past e (Create name) under command response landed took is = is
carries_command start replies past e (Lookup name) under command response landed took is = is

-- a command of the call under way is the next event of its host
next_command : (w : FirstWorldValue) (h : FirstHolds w) (call : RootCall) (replies : List Reply) (command : Command) (response : Response) (took : Bool)
    → IsUnderWay w call → finished replies 0 (length w.log.events) ≡ w.position → held replies 0 (length w.log.events) ≡ Some (0, 1)
    → Answers (store first_rules.start w.log.events) command response → took ≡ takes_effect (store first_rules.start w.log.events) command
    → count_by (is_event_of 0 (w.position + 1)) w.log.events < 4096
    → IsNext first_rules.start w.scenario replies w.log.events (sent_event w command response took)
next_command w h call replies command response took under_way done own answers effect few = record {
  directive = root_directive call;
  due = ap (λ (n : ℕ). slice_get (list_of w.scenario 0) n) done ∙ under_way.due;
  number = sym (ap (λ (n : ℕ). n + 1) done);
  carries = carries_command first_rules.start replies w.log.events (sent_event w command response took) call (Some (0, 1)) command response true took
      (record { holds = sym own; lands = refl; answers = answers; effect = effect; few = few });
  tick = sym (clock-first w.scenario h.form w.log.events);
  lives = refl;
}

own_now : (w : FirstWorldValue) (h : FirstHolds w) (n : ℕ) → w.host.registered ≡ true → length w.log.events ≤ n → held w.log.replies 0 n ≡ Some (0, 1)
own_now w h n registered le = h.own n le ∙ ap (λ (b : Bool). if b then Some (0, 1) else None) registered

-- the device is one sector, which a Read finds
read_answers : (w : FirstWorldValue) (h : FirstHolds w) → Answers (store first_rules.start w.log.events) (Read 0) (Got h.sector)
read_answers w h = ap (λ (sectors : List Sector). slice_get sectors 0) (sym h.is_store ∙ h.holds.one)

-- what holds of the whole log
at_the_end : (P : List Event → Type 0) (events : List Event) → AtEveryMoment P events → P events
at_the_end P events every = subst P (take-length events) (every (length events) (omega arith))

-- nothing of the file tree changes with an event that commits nothing
same_image : (w : FirstWorldValue) (h : FirstHolds w) (e : Event) → commits_next first_rules w.log.events e ≡ false → after_step (store first_rules.start w.log.events) e.step ≡ store first_rules.start w.log.events
    → AtEveryMoment (StandsAfter first_rules h.trees) (w.log.events ++ e ∷ [])
same_image w h e none same =
    let now = at_the_end (StandsAfter first_rules h.trees) w.log.events h.image in
    AtEveryMoment-push (StandsAfter first_rules h.trees) w.log.events e h.image (record {
      tree = now.tree;
      there = ap (λ (n : ℕ). slice_get h.trees n) (commits-push_none first_rules w.log.events e none) ∙ now.there;
      stands =
          let P : List Sector → Type 0 = λ sectors. first_rules.StandsFor sectors now.tree in
          subst P (sym (store-push first_rules.start w.log.events e ∙ same)) now.stands;
    })

-- a reply of this directive can't be there yet
no_reply_yet : (w : FirstWorldValue) (h : FirstHolds w) (i : ℕ) (q : Reply) → slice_get w.log.replies i ≡ Some q → q.directive ≡ w.position + 1 → ⊥
no_reply_yet w h i q at same = absurd (omega (arith, (h.reached.replies_reach i q at).1, same))

no_change_yet : (w : FirstWorldValue) (h : FirstHolds w) (i : ℕ) (c : Change) → slice_get h.changes i ≡ Some c → c.directive ≡ w.position + 1 → ⊥
no_change_yet w h i c at same = absurd (omega (arith, (h.reached.changes_reach i c at).1, same))

option_same : (m n : ℕ) → Some m ≡ Some n → m ≡ n
option_same m n e = cc

-- the places of earlier replies aren't past the commits so far
place_bound : (w : FirstWorldValue) (h : FirstHolds w) (q : Reply) (m : ℕ) (answer : HostAnswer) → q.place ≡ Some m
    → Stands first_rules first_geom (calls_of w.scenario []) w.log.events h.trees h.changes q answer → m ≤ commits first_rules w.log.events
place_bound w h q m (Tree x) place stands =
    let same : m ≡ stands.p = cc (place, stands.place) in
    omega (arith, same, stands.to, commits-take first_rules w.log.events (q.event + 1))
place_bound w h q m (Registered slot generation) place stands = absurd (cc (place, stands.0))
place_bound w h q m _ place stands = absurd stands

places_before : (w : FirstWorldValue) (h : FirstHolds w) (i : ℕ) (q : Reply) (m : ℕ) → slice_get w.log.replies i ≡ Some q → q.place ≡ Some m
    → m ≤ commits first_rules w.log.events
places_before w h i q m at place = place_bound w h q m q.answer place (h.legal.stands i q at)

-- each reply was given in an event before
given_before : (w : FirstWorldValue) (h : FirstHolds w) (i : ℕ) (q : Reply) → slice_get w.log.replies i ≡ Some q → q.event < length w.log.events
given_before w h i q at = let given = h.follows.given i q at in get-within w.log.events q.event given.event given.there

-- the events so far are of directives that aren't past the next
none_sent_next : (w : FirstWorldValue) (h : FirstHolds w) (e : Event) → e.directive ≡ w.position + 1
    → count_by (is_event_of 0 (w.position + 1 + 1)) (w.log.events ++ e ∷ []) ≡ 0
none_sent_next w h e directive = none_later (w.log.events ++ e ∷ []) (w.position + 1 + 1) (λ i d at. elim (get-push_cases w.log.events e d i at) [
  | inl old ↦ omega (arith, (h.reached.events_reach i d old).1)
  | inr now ↦ omega (arith, ap (λ (x : Event). x.directive) now.1, directive)
])

less_creates : (w : FirstWorldValue) (h : FirstHolds w) (d : Directive) → slice_get (list_of w.scenario 0) w.position ≡ Some d
    → length h.entries + count_by is_create (drop (w.position + 1) (list_of w.scenario 0)) ≤ 4
less_creates w h d due = omega (arith, h.room, creates_left (list_of w.scenario 0) w.position d due)

positive : (n : ℕ) → true ≡ nat_lt 0 (n + 1)
positive n = grind (arith, nat_tests)

longer : (events : List Event) (e : Event) (n : ℕ) → length (events ++ e ∷ []) ≤ n → (length events ≤ n) × (length events < n)
longer events e n le = (omega (arith, length-push events e), omega (arith, length-push events e))

-- an event that takes nothing leaves the count of changes
not_taken : (w : FirstWorldValue) (h : FirstHolds w) (e : Event) → is_change e.step ≡ false → change_count (w.log.events ++ e ∷ []) ≡ length h.changes
not_taken w h e none =
    omega (arith, count_by-push (λ (x : Event). is_change x.step) w.log.events e, ap (λ (b : Bool). cond {A = ℕ} b 1 0) none, h.taken)

-- a registration
pub turn-registered : (w : FirstWorldValue) (h : FirstHolds w) → w.host.stage ≡ Rest → slice_get (list_of w.scenario 0) w.position ≡ Some register
    → FirstHolds (stepped w (w.position + 1) (record { registered = true; stage = Rest }) w.device w.commits
    (w.log.events ++ local_event w ∷ []) (w.log.replies ++ reply_now w (Registered 0 1) None ∷ []))
turn-registered w h rest due =
    let e = local_event w in
    let r = reply_now w (Registered 0 1) None in
    let events = w.log.events in
    let replies = w.log.replies in
    let here : length events ≤ length events = omega arith in
    let calls = calls_of w.scenario [] in
    record {
      form = h.form;
      within = omega (arith, get-within (list_of w.scenario 0) w.position register due);
      sector = h.sector;
      block = h.block;
      entries = h.entries;
      free = h.free;
      holds = h.holds;
      numbered = h.numbered;
      rules = h.rules;
      room = less_creates w h register due;
      is_store = h.is_store ∙ sym (store-push first_rules.start events e);
      trees = h.trees;
      changes = h.changes;
      latest = h.latest;
      changed = h.changed;
      counted = h.counted;
      taken = not_taken w h e refl;
      whole = whole-reply first_rules calls (events ++ e ∷ []) replies h.changes r (whole-event first_rules calls events replies h.changes e refl h.whole);
      legal = IsLegal-reply first_rules first_geom calls (events ++ e ∷ []) replies h.trees h.changes r
          (record { event = e; there = get-push_last events e; is_of = (refl, refl) })
          (refl, calls_of-register w.scenario [] w.position due)
          (λ i q at host directive. no_reply_yet w h i q at directive)
          (λ i q m n at host place now. absurd (cc now))
          (IsLegal-event first_rules first_geom calls events replies h.trees h.changes e h.legal);
      image = same_image w h e refl refl;
      follows = follows-answered first_rules.start w.scenario events replies e r refl refl refl (record {
        directive = register;
        due = ap (λ (n : ℕ). slice_get (list_of w.scenario 0) n) (finished-later replies r 0 (length events) here ∙ h.done (length events) here) ∙ due;
        number = sym (ap (λ (n : ℕ). n + 1) (finished-later replies r 0 (length events) here ∙ h.done (length events) here));
        carries = (length replies, (r, get-push_last replies r, refl));
        tick = sym (clock-first w.scenario h.form events);
        lives = refl;
      }) h.follows;
      done = λ n le. done-push replies r n w.position refl (longer events e n le).1 (h.done n (longer events e n le).0);
      own = λ n le. own-push replies r n refl (longer events e n le).1;
      registered = positive w.position;
      reached = reached-reply w.position (events ++ e ∷ []) replies h.changes r refl refl (reached-event w.position events replies h.changes e refl refl h.reached);
      sent = none_sent_next w h e refl;
      stage = tt;
    }

-- a call begins
pub turn-begun : (w : FirstWorldValue) (h : FirstHolds w) (call : RootCall) → w.host.stage ≡ Rest → IsUnderWay w call
    → FirstHolds (stepped w w.position (at_stage w.host (Reading call)) w.device w.commits w.log.events w.log.replies)
turn-begun w h call rest under_way = record {
  form = h.form;
  within = h.within;
  sector = h.sector;
  block = h.block;
  entries = h.entries;
  free = h.free;
  holds = h.holds;
  numbered = h.numbered;
  rules = h.rules;
  room = h.room;
  is_store = h.is_store;
  trees = h.trees;
  changes = h.changes;
  latest = h.latest;
  changed = h.changed;
  counted = h.counted;
  taken = h.taken;
  whole = h.whole;
  legal = h.legal;
  image = h.image;
  follows = h.follows;
  done = h.done;
  own = h.own;
  registered = h.registered;
  reached = h.reached;
  sent = h.sent ∙ ap sent_at rest;
  stage = record { due = under_way.due; registered = under_way.registered; is_name = under_way.is_name };
}

-- what is under way at a stage
pub under_way_at : (w : FirstWorldValue) (h : FirstHolds w) (call : RootCall) → w.host.stage ≡ Reading call → IsUnderWay w call
under_way_at w h call reading = let P : Stage → Type 0 = λ stage. StageHolds w h.sector h.block stage in subst P reading h.stage

-- a call that has read is answered, and changes nothing
pub turn-answered : (w : FirstWorldValue) (h : FirstHolds w) (call : RootCall) (x : TreeReply) → w.host.stage ≡ Reading call
    → Does first_geom (tree_of first_geom h.entries) (tree_call call) x (tree_of first_geom h.entries)
    → FirstHolds (stepped w (w.position + 1) (at_stage w.host Rest) w.device w.commits
    (w.log.events ++ sent_event w (Read 0) (Got h.sector) false ∷ []) (w.log.replies ++ reply_now w (Tree x) (Some w.commits) ∷ []))
turn-answered w h call x reading does =
    let under_way = under_way_at w h call reading in
    let e = sent_event w (Read 0) (Got h.sector) false in
    let r = reply_now w (Tree x) (Some w.commits) in
    let events = w.log.events in
    let replies = w.log.replies in
    let here : length events ≤ length events = omega arith in
    let calls = calls_of w.scenario [] in
    let none : count_by (is_event_of 0 (w.position + 1)) events ≡ 0 = h.sent ∙ ap sent_at reading in
    let same : commits first_rules (events ++ e ∷ []) ≡ commits first_rules events = commits-push_none first_rules events e refl in
    let place : w.commits ≡ commits first_rules events = h.counted ∙ sym h.changed ∙ h.whole.count in
    record {
      form = h.form;
      within = omega (arith, get-within (list_of w.scenario 0) w.position (root_directive call) under_way.due);
      sector = h.sector;
      block = h.block;
      entries = h.entries;
      free = h.free;
      holds = h.holds;
      numbered = h.numbered;
      rules = h.rules;
      room = less_creates w h (root_directive call) under_way.due;
      is_store = h.is_store ∙ sym (store-push first_rules.start events e);
      trees = h.trees;
      changes = h.changes;
      latest = h.latest;
      changed = h.changed;
      counted = h.counted;
      taken = not_taken w h e refl;
      whole = whole-reply first_rules calls (events ++ e ∷ []) replies h.changes r (whole-event first_rules calls events replies h.changes e refl h.whole);
      legal = IsLegal-reply first_rules first_geom calls (events ++ e ∷ []) replies h.trees h.changes r
          (record { event = e; there = get-push_last events e; is_of = (refl, refl) })
          (record {
            p = w.commits;
            call = tree_call call;
            place = refl;
            is_call = calls_of-next w.scenario [] w.position call under_way.due;
            stands = inr (record {
              no_change = λ k c at host directive. no_change_yet w h k c at directive;
              tree = tree_of first_geom h.entries;
              there = ap (λ (n : ℕ). slice_get h.trees n) (h.counted ∙ sym h.changed) ∙ h.latest;
              right = does;
            });
            from = λ n first. omega (arith, commits-take first_rules (events ++ e ∷ []) n, same, place);
            to = omega (arith, same, place, ap (commits first_rules) (take-push_whole events e (length events + 1) refl));
          })
          (λ i q at host directive. no_reply_yet w h i q at directive)
          (λ i q m n at host earlier now. omega (arith, places_before w h i q m at earlier, place, option_same w.commits n now))
          (IsLegal-event first_rules first_geom calls events replies h.trees h.changes e h.legal);
      image = same_image w h e refl refl;
      follows = follows-answered first_rules.start w.scenario events replies e r refl refl refl
          (next_command w h call (replies ++ r ∷ []) (Read 0) (Got h.sector) false under_way
          (finished-later replies r 0 (length events) here ∙ h.done (length events) here)
          (held-later replies r 0 (length events) here ∙ own_now w h (length events) under_way.registered here)
          (read_answers w h) refl (omega (arith, none)))
          h.follows;
      done = λ n le. done-push replies r n w.position refl (longer events e n le).1 (h.done n (longer events e n le).0);
      own = λ n le. own-push replies r n refl (longer events e n le).1 ∙ h.own n (longer events e n le).0;
      registered = under_way.registered ∙ positive w.position;
      reached = reached-reply w.position (events ++ e ∷ []) replies h.changes r refl refl (reached-event w.position events replies h.changes e refl refl h.reached);
      sent = none_sent_next w h e refl;
      stage = tt;
    }

is_of_it : (d : ℕ) (e : Event) → e.host ≡ 0 → e.directive ≡ d → is_event_of 0 d e ≡ true
is_of_it d e host directive = grind (arith, nat_tests)

one_sent : (w : FirstWorldValue) (h : FirstHolds w) (e : Event) → count_by (is_event_of 0 (w.position + 1)) w.log.events ≡ 0 → e.host ≡ 0 → e.directive ≡ w.position + 1
    → count_by (is_event_of 0 (w.position + 1)) (w.log.events ++ e ∷ []) ≡ 1
one_sent w h e none host directive =
    omega (
      arith,
      count_by-push (is_event_of 0 (w.position + 1)) w.log.events e,
      none,
      ap (λ (b : Bool). cond {A = ℕ} b 1 0) (is_of_it (w.position + 1) e host directive),
    )

-- a call has read that its name is new, and is about to swap in the sub-block with one entry more
pub turn-filling : (w : FirstWorldValue) (h : FirstHolds w) (name : List ℕ) (fresh : Sector) → w.host.stage ≡ Reading (Create name)
    → entry_named name h.block.rooms ≡ None → SpellsRooms fresh (record { rooms = with_entry (file_entry name (next_key h.block.rooms)) h.block.rooms })
    → FirstHolds (stepped w w.position (at_stage w.host (Filling name (next_key h.block.rooms) h.sector fresh)) w.device w.commits
    (w.log.events ++ sent_event w (Read 0) (Got h.sector) false ∷ []) w.log.replies)
turn-filling w h name fresh reading absent spelled =
    let under_way = under_way_at w h (Create name) reading in
    let e = sent_event w (Read 0) (Got h.sector) false in
    let events = w.log.events in
    let replies = w.log.replies in
    let here : length events ≤ length events = omega arith in
    let calls = calls_of w.scenario [] in
    let none : count_by (is_event_of 0 (w.position + 1)) events ≡ 0 = h.sent ∙ ap sent_at reading in
    record {
      form = h.form;
      within = h.within;
      sector = h.sector;
      block = h.block;
      entries = h.entries;
      free = h.free;
      holds = h.holds;
      numbered = h.numbered;
      rules = h.rules;
      room = h.room;
      is_store = h.is_store ∙ sym (store-push first_rules.start events e);
      trees = h.trees;
      changes = h.changes;
      latest = h.latest;
      changed = h.changed;
      counted = h.counted;
      taken = not_taken w h e refl;
      whole = whole-event first_rules calls events replies h.changes e refl h.whole;
      legal = IsLegal-event first_rules first_geom calls events replies h.trees h.changes e h.legal;
      image = same_image w h e refl refl;
      follows = follows-event first_rules.start w.scenario events replies e
          (next_command w h (Create name) replies (Read 0) (Got h.sector) false under_way (h.done (length events) here)
          (own_now w h (length events) under_way.registered here) (read_answers w h) refl (omega (arith, none)))
          h.follows;
      done = λ n le. h.done n (longer events e n le).0;
      own = λ n le. h.own n (longer events e n le).0;
      registered = h.registered;
      reached = reached-event w.position events replies h.changes e refl refl h.reached;
      sent = one_sent w h e none refl refl;
      stage = (
        refl,
        record {
          under_way = record { due = under_way.due; registered = under_way.registered; is_name = under_way.is_name };
          verified = refl;
          absent = absent;
          spelled = spelled;
        },
      );
    }

-- The rooms of the entries so far

entries_packed : (es : List Entry) (free : ℕ) → entries_in (map Some es ++ replicate free None) ≡ es
entries_packed [] zero = refl
entries_packed [] (suc free) = entries_packed [] free
entries_packed (e ∷ es) free = ap (λ rest. e ∷ rest) (entries_packed es free)

pub entries_held : (w : FirstWorldValue) (h : FirstHolds w) → entries_in h.block.rooms ≡ h.entries
entries_held w h = ap entries_in h.holds.packed ∙ entries_packed h.entries h.free

filled_packed : (e : Entry) (es : List Entry) (free : ℕ) → with_entry e (map Some es ++ replicate (suc free) None) ≡ map Some (es ++ e ∷ []) ++ replicate free None
filled_packed e [] free = refl
filled_packed e (x ∷ es) free = ap (λ rest. Some x ∷ rest) (filled_packed e es free)

abbrev filled_block : SubBlock → List ℕ → SubBlock
filled_block block name = record { rooms = with_entry (file_entry name (next_key block.rooms)) block.rooms }

new_change : FirstWorldValue → List ℕ → Key → Change
new_change w name key = record { host = 0; directive = w.position + 1; call = calls.Create root_key name; reply = Made key }

swap_found : (w : FirstWorldValue) (h : FirstHolds w) (verify fresh : Sector) → verify ≡ h.sector → takes_effect (store first_rules.start w.log.events) (Swap 0 verify fresh) ≡ true
swap_found w h verify fresh same =
    holds_image-found (slice_get (store first_rules.start w.log.events) 0) verify
    (ap (λ (sectors : List Sector). slice_get sectors 0) (sym h.is_store ∙ h.holds.one) ∙ ap Some (sym same))

pub swap_stored : (w : FirstWorldValue) (h : FirstHolds w) (verify fresh : Sector) → verify ≡ h.sector → stored (store first_rules.start w.log.events) (Swap 0 verify fresh) ≡ fresh ∷ []
swap_stored w h verify fresh same =
    stored-swap_holds (store first_rules.start w.log.events) 0 verify fresh (swap_found w h verify fresh same)
    ∙ ap (λ (sectors : List Sector). slice_set sectors 0 fresh) (sym h.is_store ∙ h.holds.one)

-- the entries of a sub-block with one more
entries_filled : (w : FirstWorldValue) (h : FirstHolds w) (name : List ℕ) (k : ℕ) → h.free ≡ suc k
    → (filled_block h.block name).rooms ≡ map Some (h.entries ++ file_entry name (next_key h.block.rooms) ∷ []) ++ replicate k None
entries_filled w h name k free =
    let e = file_entry name (next_key h.block.rooms) in
    ap (with_entry e) (h.holds.packed ∙ ap (λ (n : ℕ). map Some h.entries ++ replicate n None) free) ∙ filled_packed e h.entries k

committed : (w : FirstWorldValue) (h : FirstHolds w) (name : List ℕ) (verify fresh : Sector) (k : ℕ) → w.host.stage ≡ Filling name (next_key h.block.rooms) verify fresh
    → IsFilling w h.sector h.block name verify fresh → h.free ≡ suc k
    → FirstHolds (stepped w (w.position + 1) (at_stage w.host Rest) (fresh ∷ []) (w.commits + 1)
    (w.log.events ++ sent_event w (Swap 0 verify fresh) Done true ∷ []) (w.log.replies ++ reply_now w (Tree (Made (next_key h.block.rooms))) (Some (w.commits + 1)) ∷ []))
unfolding new_change
committed w h name verify fresh k filling is free =
    let key = next_key h.block.rooms in
    let new : Entry = file_entry name key in
    let entries' : List Entry = h.entries ++ new ∷ [] in
    let u : FileTree = tree_of first_geom entries' in
    let c = new_change w name key in
    let e = sent_event w (Swap 0 verify fresh) Done true in
    let r = reply_now w (Tree (Made key)) (Some (w.commits + 1)) in
    let events = w.log.events in
    let replies = w.log.replies in
    let here : length events ≤ length events = omega arith in
    let calls' = calls_of w.scenario [] in
    let under_way = is.under_way in
    let directive = root_directive (Create name) in
    let one : count_by (is_event_of 0 (w.position + 1)) events ≡ 1 = h.sent ∙ ap sent_at filling in
    let four = h.holds.four in
    let few : length h.entries < 4 = omega (arith, four, free) in
    let number : key ≡ record { object = 1 + length h.entries; birth = 1 } = ap (λ (es : List Entry). record { object = 1 + length es; birth = 1 }) (entries_held w h) in
    let absent : named name h.entries ≡ None = sym (ap (named name) (entries_held w h)) ∙ is.absent in
    let does = does_create h.entries new h.numbered few absent number refl in
    let takes : takes_effect (store first_rules.start events) (Swap 0 verify fresh) ≡ true = swap_found w h verify fresh is.verified in
    let after : store first_rules.start (events ++ e ∷ []) ≡ fresh ∷ [] = store-push first_rules.start events e ∙ swap_stored w h verify fresh is.verified in
    let packed = entries_filled w h name k free in
    let more : commits first_rules (events ++ e ∷ []) ≡ commits first_rules events + 1 = commits-push_one first_rules events e takes in
    let place : w.commits ≡ commits first_rules events = h.counted ∙ sym h.changed ∙ h.whole.count in
    let last : length h.trees ≡ length h.changes + 1 = h.legal.steps.count in
    let len = length-push h.entries new in
    let whole' = whole-reply first_rules calls' events replies h.changes r h.whole in
    let legal' = IsLegal-event first_rules first_geom calls' events replies (h.trees ++ u ∷ []) (h.changes ++ c ∷ []) e
    (IsLegal-change first_rules first_geom calls' events replies h.trees h.changes c (tree_of first_geom h.entries) u h.latest does
    (λ i q at host directive'. no_reply_yet w h i q at (sym directive'))
    (λ i b at host directive'. no_change_yet w h i b at directive')
    h.legal) in
    record {
      form = h.form;
      within = omega (arith, get-within (list_of w.scenario 0) w.position directive under_way.due);
      sector = fresh;
      block = filled_block h.block name;
      entries = entries';
      free = k;
      holds = record { one = refl; spelled = is.spelled; packed = packed; four = omega (arith, four, free, len) };
      numbered = numbered-push 1 h.entries new h.numbered number refl;
      rules = step-keeps first_geom (tree_of first_geom h.entries) h.rules (calls.Create root_key name) (Made key) u under_way.is_name does;
      room = omega (arith, h.room, creates_left (list_of w.scenario 0) w.position directive under_way.due, len);
      is_store = sym after;
      trees = h.trees ++ u ∷ [];
      changes = h.changes ++ c ∷ [];
      latest = ap (λ (n : ℕ). slice_get (h.trees ++ u ∷ []) n) (length-push h.changes c ∙ sym last) ∙ get-push_last h.trees u;
      changed = omega (arith, length-push h.changes c, h.changed, len);
      counted = omega (arith, h.counted, len);
      taken = omega (arith, count_by-push (λ (x : Event). is_change x.step) events e, h.taken, length-push h.changes c);
      whole = whole-commit first_rules calls' events (replies ++ r ∷ []) h.changes e c takes (record {
        host = refl;
        directive = refl;
        call = calls_of-next w.scenario [] w.position (Create name) under_way.due;
        given = (length replies, (r, get-push_last replies r, refl, refl, refl));
      }) whole';
      legal = IsLegal-reply first_rules first_geom calls' (events ++ e ∷ []) replies (h.trees ++ u ∷ []) (h.changes ++ c ∷ []) r
          (record { event = e; there = get-push_last events e; is_of = (refl, refl) })
          (record {
            p = w.commits + 1;
            call = calls.Create root_key name;
            place = refl;
            is_call = calls_of-next w.scenario [] w.position (Create name) under_way.due;
            stands = inl (record {
              before = length h.changes;
              change = c;
              place = omega (arith, h.counted, h.changed);
              there = get-push_last h.changes c;
              host = refl;
              directive = refl;
              reply = refl;
            });
            from = λ n first. omega (arith, commits-take first_rules (events ++ e ∷ []) n, more, place);
            to = omega (arith, more, place, ap (commits first_rules) (take-push_whole events e (length events + 1) refl));
          })
          (λ i q at host directive'. no_reply_yet w h i q at directive')
          (λ i q m n at host earlier now. omega (arith, places_before w h i q m at earlier, place, option_same (w.commits + 1) n now))
          legal';
      image = AtEveryMoment-push (StandsAfter first_rules (h.trees ++ u ∷ [])) events e
          (AtEveryMoment-map (StandsAfter first_rules h.trees) (StandsAfter first_rules (h.trees ++ u ∷ [])) events (λ past stands. StandsAfter-tree first_rules h.trees u past stands) h.image)
          (record {
            tree = u;
            there = ap (λ (n : ℕ). slice_get (h.trees ++ u ∷ []) n) (more ∙ ap (λ (n : ℕ). n + 1) (sym h.whole.count) ∙ sym last) ∙ get-push_last h.trees u;
            stands = record {
              sector = fresh;
              block = filled_block h.block name;
              there = ap (λ (sectors : List Sector). slice_get sectors 0) after;
              spelled = is.spelled;
              tree = ap (tree_of first_geom) (sym (ap entries_in packed ∙ entries_packed entries' k));
            };
          });
      follows = follows-answered first_rules.start w.scenario events replies e r refl refl refl
          (next_command w h (Create name) (replies ++ r ∷ []) (Swap 0 verify fresh) Done true under_way
          (finished-later replies r 0 (length events) here ∙ h.done (length events) here)
          (held-later replies r 0 (length events) here ∙ own_now w h (length events) under_way.registered here)
          takes (sym takes) (omega (arith, one)))
          h.follows;
      done = λ n le. done-push replies r n w.position refl (longer events e n le).1 (h.done n (longer events e n le).0);
      own = λ n le. own-push replies r n refl (longer events e n le).1 ∙ h.own n (longer events e n le).0;
      registered = under_way.registered ∙ positive w.position;
      reached = reached-change (w.position + 1) (events ++ e ∷ []) (replies ++ r ∷ []) h.changes c refl refl
          (reached-reply w.position (events ++ e ∷ []) replies h.changes r refl refl (reached-event w.position events replies h.changes e refl refl h.reached));
      sent = none_sent_next w h e refl;
      stage = tt;
    }

-- what is known at a filling
pub filling_at : (w : FirstWorldValue) (h : FirstHolds w) (name : List ℕ) (key : Key) (verify fresh : Sector) → w.host.stage ≡ Filling name key verify fresh
    → (key ≡ next_key h.block.rooms) × IsFilling w h.sector h.block name verify fresh
filling_at w h name key verify fresh filling = let P : Stage → Type 0 = λ stage. StageHolds w h.sector h.block stage in subst P filling h.stage

-- the swap takes effect: the change is committed, and the call is answered
pub turn-committed : (w : FirstWorldValue) (h : FirstHolds w) (name : List ℕ) (key : Key) (verify fresh : Sector) → w.host.stage ≡ Filling name key verify fresh
    → FirstHolds (stepped w (w.position + 1) (at_stage w.host Rest) (fresh ∷ []) (w.commits + 1)
    (w.log.events ++ sent_event w (Swap 0 verify fresh) Done true ∷ []) (w.log.replies ++ reply_now w (Tree (Made key)) (Some (w.commits + 1)) ∷ []))
turn-committed w h name key verify fresh filling =
    let at = filling_at w h name key verify fresh filling in
    let is = at.1 in
    let created = creates_left (list_of w.scenario 0) w.position (root_directive (Create name)) is.under_way.due in
    let four = h.holds.four in
    let free : h.free ≡ suc (h.free - 1) = omega (arith, h.room, created, four) in
    let P : Key → Type 0 = λ k. FirstHolds (stepped w (w.position + 1) (at_stage w.host Rest) (fresh ∷ []) (w.commits + 1)
    (w.log.events ++ sent_event w (Swap 0 verify fresh) Done true ∷ []) (w.log.replies ++ reply_now w (Tree (Made k)) (Some (w.commits + 1)) ∷ [])) in
    subst P (sym at.0) (committed w h name verify fresh (h.free - 1) (filling ∙ ap (λ (k : Key). Filling name k verify fresh) at.0) is free)
