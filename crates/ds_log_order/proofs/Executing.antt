-- A world after a turn that is an event.
use Rattle.std.proofs.Common.{
  ◌≡◌,
  ℕ,
  suc,
  ◌+◌,
  ◌^◌,
  ◌<◌,
  Bool,
  false,
  List,
  [],
  ◌∷◌,
  ◌++◌,
  length,
  set,
  refl,
  ap,
  sym,
  subst,
  ◌∙◌,
  arith,
  Option,
  Some,
  None,
}
use Rattle.std.specs.Option.{is_some}
use Rattle.std.specs.Prelude.{slice_get}
use Rattle.ds_base.specs.declared.sectors.Sector.{Sector}
use Rattle.ds_tree.specs.PlainPass.{list_at}
use Rattle.ds_tree.specs.declared.calls.HostCallOf.{HostCallOf}
use Rattle.ds_tree.specs.declared.scenarios.Directive.{Directive}
use Rattle.ds_tree.specs.declared.scenarios.Directive.TheVariants as directives
use Rattle.ds_tree.specs.declared.scenarios.Scenario.{Scenario}
use Rattle.ds_tree.specs.declared.variables.Spoken.{Spoken}
use Rattle.ds_conduct.specs.declared.answers.HostAnswer.{HostAnswer}
use Rattle.ds_log.specs.Scripts.{ticks_of}
use Rattle.ds_log.specs.declared.logs.Event.{Event}
use Rattle.ds_log.specs.declared.logs.Reply.{Reply}
use Rattle.ds_log.specs.declared.logs.Step.TheVariants.{Local}
use Rattle.ds_log_order.specs.CallTurns.{IsAsked, IsCallTurn, IsIdle, mark_of_turn, reply_to, turn_event, turn_told}
use Rattle.ds_log_order.specs.Execution.{HasGoneOn, Holds}
use Rattle.ds_log_order.specs.Follows.{Carries, Follows, IsNext, IsReplyIn, is_call, is_death}
use Rattle.ds_log_order.specs.HostFacts.{HostFacts, mark_of}
use Rattle.ds_log_order.specs.KeepsUp.{KeepsUp}
use Rattle.ds_log_order.specs.LogProgress.{moved_own}
use Rattle.ds_log_order.specs.Progress.{advance}
use Rattle.ds_log_order.specs.Told.{Told, and_some, told}
use Rattle.ds_log_order.specs.Waiting.{IsGoing, progress_in}
use Rattle.ds_log_order.specs.declared.hosts.CallTurn.{CallTurn}
use Rattle.ds_log_order.specs.declared.progress.Mark.{Mark}
use Rattle.ds_log_order.specs.declared.progress.Progress.{Progress}
use Rattle.ds_log_order.proofs.KeepingUp.{going-kept, keeps-push, local-advance, local-next}
use Rattle.ds_log_order.proofs.Telling.{follows-answered, follows-event, told-answered, told-event, told-length, with_reply}

reply-in : (host : ℕ) (p : Progress) (event : ℕ) (place : Option ℕ) (answer : Option HostAnswer) (e : Event) (r : Reply) → e.host ≡ host
    → e.directive ≡ suc p.finished
    → reply_to host p event place answer ≡ Some r → IsReplyIn event e r
reply-in host p event place None e r h d is = absurd cc
reply-in host p event place (Some answer) e r h d is =
    let same : ◌≡◌ {A = Reply} (record { event = event; host = host; directive = suc p.finished; answer = answer; place = place }) r = cc in
    record {
      event = sym (ap (λ (x : Reply). x.event) same);
      host = sym (ap (λ (x : Reply). x.host) same) ∙ sym h;
      directive = sym (ap (λ (x : Reply). x.directive) same) ∙ sym d;
    }

replied-some : (host : ℕ) (p : Progress) (event : ℕ) (place : Option ℕ) (answer : Option HostAnswer)
    → is_some (reply_to host p event place answer) ≡ is_some answer
replied-some host p event place None = refl
replied-some host p event place (Some answer) = refl

module _ (facts : HostFacts) (start : List Sector) (s : Scenario) where
  -- a turn of a call is the next event
  pub call-next : (log : List Told) (host : ℕ) (p : Progress) (call : HostCallOf Spoken) (event at : ℕ) (turn : CallTurn)
      (Agrees : List Told → Type 0)
      → IsAsked facts s log host p call event at → IsCallTurn facts start log host p event at turn Agrees
      → IsNext facts start s log (turn_told host p event at turn)
  call-next log host p call event at turn Agrees asked is =
      let t = turn_told host p event at turn in
      record {
        directive = asked.directive;
        going = asked.going;
        number = ap (λ (q : Progress). suc q.finished) asked.progress_is;
        carries = subst (λ (q : Progress). Carries facts start log q t (facts.rests (log ++ t ∷ []) host) asked.directive) asked.progress_is
            (subst (λ (b : Bool). Carries facts start log p t b asked.directive) is.ends_there
            (subst (λ (d : Directive). Carries facts start log p t turn.ends d) (sym asked.calls.1) (is.step, is.once)));
        tick = asked.tick;
        replied = λ r given. subst (λ (n : ℕ). IsReplyIn n t.event r) asked.count
            (reply-in host p event turn.place turn.answer t.event r refl refl given);
      }

  told-added : (events : List Event) (replies : List Reply) (e : Event) (reply : Option Reply) → Follows facts start s events replies
      → IsNext facts start s (told events replies) (with_reply e reply)
      → Follows facts start s (events ++ e ∷ []) (and_some replies reply)
      × (told (events ++ e ∷ []) (and_some replies reply) ≡ told events replies ++ with_reply e reply ∷ [])
  told-added events replies e None follows next =
      (follows-event facts start s events replies e follows next, told-event events replies e follows.given)
  told-added events replies e (Some r) follows next =
      let here : r.event ≡ length events = (next.replied r refl).event ∙ told-length events replies in
      (follows-answered facts start s events replies e r here follows next, told-answered events replies e r follows.given here)

  module _ {H : Type 0} (agrees : H → List Told → Type 0) (kept : List Progress) (tick : ℕ) (hosts hosts_after : H) (events : List Event)
      (replies : List Reply)
      (holds : Holds facts start agrees s kept tick hosts events replies) where
    gone-on : (t : Told) (after : Progress) (later : ℕ) → t.event.host < length s.hosts → IsNext facts start s (told events replies) t
        → after ≡ moved_own facts s.hosts t.event.host (told events replies) (progress_in kept t.event.host) t
        → later ≡ tick + ticks_of (slice_get (list_at s.hosts t.event.host) (progress_in kept t.event.host).finished)
        → ticks_of (slice_get (list_at s.hosts t.event.host) (progress_in kept t.event.host).finished) < 2 ^ 32
        → agrees hosts_after (told events replies ++ t ∷ [])
        → HasGoneOn facts start agrees s t.event.host (told events replies) (set kept t.event.host after) later hosts_after
        (events ++ t.event ∷ []) (and_some replies t.reply)
    gone-on t after later within next moves ticks small agree =
        let added = told-added events replies t.event t.reply holds.follows next in
        record {
          holds = record {
            keeps = subst (KeepsUp facts s (set kept t.event.host after) later) (sym added.1)
                (keeps-push facts start s kept tick (told events replies) holds.keeps t after later
                (omega (arith, holds.keeps.count)) next moves ticks small);
            follows = added.0;
            agree = subst (agrees hosts_after) (sym added.1) agree;
            short = holds.short;
          };
          event = t;
          of_host = refl;
          next = next;
          grows = added.1;
        }

    -- a turn of a call
    pub call-gone-on : (host : ℕ) (call : HostCallOf Spoken) (bind : Option (List ℕ)) (d : Directive) (event : ℕ) (turn : CallTurn)
        (after : Progress) → host < length s.hosts
        → IsGoing s.hosts (progress_in kept) host d → d ≡ directives.Call call bind → event ≡ length events
        → ((s : Scenario) (log : List Told) → agrees hosts log → IsAsked facts s log host (progress_in kept host) call event tick
        → IsCallTurn facts start log host (progress_in kept host) event tick turn (agrees hosts_after))
        → after ≡ advance (list_at s.hosts host) (slice_get (list_at s.hosts host) (progress_in kept host).finished) (progress_in kept host)
        (mark_of_turn turn)
        → HasGoneOn facts start agrees s host (told events replies) (set kept host after) tick hosts_after
        (events ++ turn_event host (progress_in kept host) tick turn ∷ [])
        (and_some replies (reply_to host (progress_in kept host) event turn.place turn.answer))
    call-gone-on host call bind d event turn after within going calls count turns moves =
        let p = progress_in kept host in
        let log = told events replies in
        let t = turn_told host p event tick turn in
        let asked : IsAsked facts s log host p call event tick = record {
          progress_is = holds.keeps.each host;
          directive = d;
          going = going-kept facts start s kept tick log holds.keeps host d going;
          calls = (bind, calls);
          count = count ∙ sym (told-length events replies);
          tick = holds.keeps.ticked;
        } in
        let is : IsCallTurn facts start log host p event tick turn (agrees hosts_after) = turns s log holds.agree asked in
        let mark : mark_of_turn turn ≡ mark_of facts log p t =
        (λ i. record {
          hit = is.hit_is i;
          done = (mark_of_turn turn).done;
          dies = turn.dies;
          ends = is.ends_there i;
          replied = sym (replied-some host p event turn.place turn.answer) i;
        }) in
        let here : slice_get (list_at s.hosts host) p.finished ≡ Some (directives.Call call bind) = going.is_due ∙ ap Some calls in
        let no_ticks : ticks_of (slice_get (list_at s.hosts host) p.finished) ≡ 0 = ap ticks_of here in
        gone-on t after tick within (call-next log host p call event tick turn (agrees hosts_after) asked is)
        (moves ∙ ap (advance (list_at s.hosts host) (slice_get (list_at s.hosts host) p.finished) p) mark)
        (omega (arith, no_ticks)) (omega (arith, no_ticks)) is.agrees

    -- a turn in another directive
    pub local-gone-on : (host : ℕ) (d : Directive) (e : Event) (m : Mark) (after : Progress) (later : ℕ) → host < length s.hosts
        → IsGoing s.hosts (progress_in kept) host d → is_call d ≡ false
        → e ≡ record { host = host; at = tick; directive = suc (progress_in kept host).finished; step = Local; dies = is_death d }
        → ((log : List Told) (e : Event) → agrees hosts log → IsIdle host (is_death d) e
        → agrees hosts_after (log ++ record { event = e; reply = None } ∷ []))
        → after ≡ advance (list_at s.hosts host) (slice_get (list_at s.hosts host) (progress_in kept host).finished)
        (progress_in kept host) m
        → later ≡ tick + ticks_of (Some d) → ticks_of (Some d) < 2 ^ 32
        → HasGoneOn facts start agrees s host (told events replies) (set kept host after) later hosts_after (events ++ e ∷ []) replies
    local-gone-on host d e m after later within going no_call is idles moves ticks small =
        let p = progress_in kept host in
        let log = told events replies in
        let f : Event = record { host = host; at = tick; directive = suc p.finished; step = Local; dies = is_death d } in
        let t = with_reply f None in
        let here : slice_get (list_at s.hosts host) p.finished ≡ Some d = going.is_due in
        let next : IsNext facts start s log t =
        local-next facts start s log f d (going-kept facts start s kept tick log holds.keeps host d going) no_call
        (ap (λ (q : Progress). suc q.finished) (holds.keeps.each host)) holds.keeps.ticked refl refl in
        let moves_there : after ≡ moved_own facts s.hosts host log p t =
        moves ∙ subst
        (λ (o : Option Directive). advance (list_at s.hosts host) o p m ≡ advance (list_at s.hosts host) o p (mark_of facts log p t))
        (sym here)
        (local-advance (list_at s.hosts host) d p m (mark_of facts log p t) no_call) in
        let done = gone-on t after later within next moves_there (ticks ∙ ap (λ (o : Option Directive). tick + ticks_of o) (sym here))
        (omega (arith, small, ap ticks_of here))
        (idles log f holds.agree (record { of_host = refl; local = refl; death = refl })) in
        subst (λ (x : Event). HasGoneOn facts start agrees s host log (set kept host after) later hosts_after (events ++ x ∷ []) replies)
        (sym is) done

    -- the arms of a turn, by what the code's calls ensure
    arm_kept : (host : ℕ) (after : Progress) (later : ℕ) (kept' : List Progress) (events' events2 : List Event)
        (replies' replies2 : List Reply)
        → kept' ≡ set kept host after → events' ≡ events2 → replies' ≡ replies2
        → HasGoneOn facts start agrees s host (told events replies) (set kept host after) later hosts_after events2 replies2
        → HasGoneOn facts start agrees s host (told events replies) kept' later hosts_after events' replies'
    arm_kept host after later kept' events' events2 replies' replies2 x y z h =
        subst (λ (cs : List Progress). HasGoneOn facts start agrees s host (told events replies) cs later hosts_after events' replies')
        (sym x)
        (subst (λ (es : List Event). HasGoneOn facts start agrees s host (told events replies)
        (set kept host after) later hosts_after es replies') (sym y)
        (subst (λ (rs : List Reply). HasGoneOn facts start agrees s host (told events replies)
        (set kept host after) later hosts_after events2 rs) (sym z) h))

    due-is : (list : List Directive) (p : Progress) (host : ℕ) (d e : Directive) → list ≡ list_at s.hosts host → p ≡ progress_in kept host
        → slice_get list p.finished ≡ Some d
        → IsGoing s.hosts (progress_in kept) host e → e ≡ d
    due-is list p host d e is_list is_p here going =
        let same : slice_get list p.finished ≡ slice_get (list_at s.hosts host) (progress_in kept host).finished =
        ap (λ (l : List Directive). slice_get l p.finished) is_list
        ∙ ap (λ (q : Progress). slice_get (list_at s.hosts host) q.finished) is_p in
        let two : ◌≡◌ {A = Option Directive} (Some e) (Some d) = sym going.is_due ∙ (sym same ∙ here) in
        cc

    advance-is : (list : List Directive) (p : Progress) (host : ℕ) (m : Mark) (after : Progress) → list ≡ list_at s.hosts host
        → p ≡ progress_in kept host
        → after ≡ advance list (slice_get list p.finished) p m
        → after ≡ advance (list_at s.hosts host) (slice_get (list_at s.hosts host) (progress_in kept host).finished)
        (progress_in kept host) m
    advance-is list p host m after is_list is_p moves =
        moves ∙ ap (λ (l : List Directive). advance l (slice_get l p.finished) p m) is_list
        ∙ ap (λ (q : Progress). advance (list_at s.hosts host) (slice_get (list_at s.hosts host) q.finished) q m) is_p

    pub call-arm : (host : ℕ) (list : List Directive) (p : Progress) (d e : Directive) (call : HostCallOf Spoken) (bind : Option (List ℕ))
        (event : ℕ) (turn : CallTurn) (m : Mark) (after : Progress)
        (kept' : List Progress) (events' : List Event) (replies' : List Reply)
        → host < length s.hosts → IsGoing s.hosts (progress_in kept) host e → list ≡ list_at s.hosts host → p ≡ progress_in kept host
        → slice_get list p.finished ≡ Some d
        → d ≡ directives.Call call bind → event ≡ length events
        → ((s : Scenario) (log : List Told) → agrees hosts log → IsAsked facts s log host p call event tick
        → IsCallTurn facts start log host p event tick turn (agrees hosts_after))
        → m ≡ mark_of_turn turn → after ≡ advance list (slice_get list p.finished) p m
        → kept' ≡ set kept host after → events' ≡ events ++ turn_event host p tick turn ∷ []
        → replies' ≡ and_some replies (reply_to host p event turn.place turn.answer)
        → HasGoneOn facts start agrees s host (told events replies) kept' tick hosts_after events' replies'
    call-arm host list p d e call bind event turn m after kept' events' replies' within going is_list is_p here calls count turns marks
        moves x y z =
        arm_kept host after tick kept' events' (events ++ turn_event host (progress_in kept host) tick turn ∷ []) replies'
        (and_some replies (reply_to host (progress_in kept host) event turn.place turn.answer))
        x (y ∙ ap (λ (q : Progress). events ++ turn_event host q tick turn ∷ []) is_p)
        (z ∙ ap (λ (q : Progress). and_some replies (reply_to host q event turn.place turn.answer)) is_p)
        (call-gone-on host call bind e event turn after within going (due-is list p host d e is_list is_p here going ∙ calls) count
        (subst (λ (q : Progress). (s : Scenario) (log : List Told) → agrees hosts log → IsAsked facts s log host q call event tick
        → IsCallTurn facts start log host q event tick turn (agrees hosts_after)) is_p turns)
        (advance-is list p host m after is_list is_p moves
        ∙ ap (advance (list_at s.hosts host) (slice_get (list_at s.hosts host) (progress_in kept host).finished)
        (progress_in kept host)) marks))

    pub local-arm : (host : ℕ) (list : List Directive) (p : Progress) (d e : Directive) (dies : Bool) (m : Mark) (after : Progress)
        (ticks : ℕ) (event : Event)
        (kept' : List Progress) (events' : List Event) (replies' : List Reply)
        → host < length s.hosts → IsGoing s.hosts (progress_in kept) host e → list ≡ list_at s.hosts host → p ≡ progress_in kept host
        → slice_get list p.finished ≡ Some d
        → is_call d ≡ false → dies ≡ is_death d
        → ((log : List Told) (e : Event) → agrees hosts log → IsIdle host dies e
        → agrees hosts_after (log ++ record { event = e; reply = None } ∷ []))
        → after ≡ advance list (slice_get list p.finished) p m → ticks ≡ ticks_of (Some d) → ticks < 2 ^ 32
        → event ≡ record { host = host; at = tick; directive = suc p.finished; step = Local; dies = dies }
        → kept' ≡ set kept host after → events' ≡ events ++ event ∷ [] → replies' ≡ replies
        → HasGoneOn facts start agrees s host (told events replies) kept' (tick + ticks) hosts_after events' replies'
    local-arm host list p d e dies m after ticks event kept' events' replies' within going is_list is_p here no_call deadly idles moves
        ticking small is x y z =
        let same : e ≡ d = due-is list p host d e is_list is_p here going in
        let here_going : IsGoing s.hosts (progress_in kept) host d =
        subst (λ (k : Directive). IsGoing s.hosts (progress_in kept) host k) same going in
        let is_event : event
        ≡ record { host = host; at = tick; directive = suc (progress_in kept host).finished; step = Local; dies = is_death d } =
        is ∙ (λ i. record { host = host; at = tick; directive = suc (is_p i).finished; step = Local; dies = deadly i }) in
        let idle : (log : List Told) (e : Event) → agrees hosts log → IsIdle host (is_death d) e
        → agrees hosts_after (log ++ record { event = e; reply = None } ∷ []) =
        subst (λ (b : Bool). (log : List Told) (e : Event) → agrees hosts log → IsIdle host b e
        → agrees hosts_after (log ++ record { event = e; reply = None } ∷ [])) deadly idles in
        arm_kept host after (tick + ticks) kept' events' (events ++ event ∷ []) replies' replies x y z
        (local-gone-on host d event m after (tick + ticks) within here_going no_call is_event idle
        (advance-is list p host m after is_list is_p moves) (ap (λ (n : ℕ). tick + n) ticking) (omega (arith, small, ticking)))
