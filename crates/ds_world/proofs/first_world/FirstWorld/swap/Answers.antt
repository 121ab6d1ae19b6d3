use Rattle.std.specs.Prelude.{min}
use Rattle.std.proofs.Common.{inr, ◌≡◌, ◌+◌, ◌++◌, ◌∷◌, [], true, false, length, refl, sym, ap, subst, ◌∙◌, arith, Option}
use Rattle.ds_base.specs.declared.commands.Command.TheVariants.{Swap}
use Rattle.ds_conduct.specs.declared.answers.HostAnswer.{HostAnswer}
use Rattle.ds_host.specs.declared.first_host.Stage.TheVariants.{Filling}
use Rattle.ds_log.specs.declared.logs.Event.{Event}
use Rattle.ds_log.specs.declared.logs.Reply.{Reply}
use Rattle.ds_log.specs.Scripts.{list_of}
use Rattle.ds_world.specs.FirstWorlds.{FirstWorldValue, FirstHolds, AddsEvent, sent_event, reply_now, place_of, turns_at, stepped}
use Rattle.ds_world.proofs.FirstSteps.{FirstHolds-as}
use Rattle.ds_world.proofs.FirstMoves.{short_list, was_due_filling, moved-swap, IsSwapped, IsCommitted, swap_due, fewer_committed}
use Rattle.ds_base.specs.declared.commands.Command.{Command}
use Rattle.ds_base.specs.Device.{Answers, stored}
use Rattle.ds_world.proofs.first_world.FirstWorld.swap.Goals as goal

pub event_of-event-requires : goal.event_of-event-requires
event_of-event-requires c =
    let w : FirstWorldValue = record { scenario = c.self.inside.scenario; position = c.self.inside.position; host = c.self.inside.host; device = c.self.inside.device.sectors; commits = c.self.inside.commits; log = c.self.inside.log; room = min c.self.inside.log.spare c.self.inside.device.spare } in
    let h : FirstHolds w = c.self.invariant in
    let stage : w.host.stage ≡ Filling c.requires.swapping.0 c.requires.swapping.1.0 c.requires.swapping.1.1.0 c.requires.swapping.1.1.1.0 = ap (λ (v : FirstWorldValue). v.host.stage) c.self.view_is ∙ c.requires.swapping.1.1.1.1 in
    omega (arith, was_due_filling w h c.requires.swapping.0 c.requires.swapping.1.0 c.requires.swapping.1.1.0 c.requires.swapping.1.1.1.0 stage, short_list w h)

pub reply_of-reply-requires : goal.reply_of-reply-requires
reply_of-reply-requires c =
    let w : FirstWorldValue = record { scenario = c.self.inside.scenario; position = c.self.inside.position; host = c.self.inside.host; device = c.self.inside.device.sectors; commits = c.self.inside.commits; log = c.self.inside.log; room = min c.self.inside.log.spare c.self.inside.device.spare } in
    let h : FirstHolds w = c.self.invariant in
    let stage : w.host.stage ≡ Filling c.requires.swapping.0 c.requires.swapping.1.0 c.requires.swapping.1.1.0 c.requires.swapping.1.1.1.0 = ap (λ (v : FirstWorldValue). v.host.stage) c.self.view_is ∙ c.requires.swapping.1.1.1.1 in
    omega (arith, was_due_filling w h c.requires.swapping.0 c.requires.swapping.1.0 c.requires.swapping.1.1.0 c.requires.swapping.1.1.1.0 stage, short_list w h)

pub invariant_of-self : goal.invariant_of-self
invariant_of-self c =
    let w : FirstWorldValue = record { scenario = c.self.inside.scenario; position = c.self.inside.position; host = c.self.inside.host; device = c.self.inside.device.sectors; commits = c.self.inside.commits; log = c.self.inside.log; room = min c.self.inside.log.spare c.self.inside.device.spare } in
    let h : FirstHolds w = c.self.invariant in
    let name = c.requires.swapping.0 in
    let key = c.requires.swapping.1.0 in
    let verify = c.requires.swapping.1.1.0 in
    let fresh = c.requires.swapping.1.1.1.0 in
    let stage : w.host.stage ≡ Filling name key verify fresh = ap (λ (v : FirstWorldValue). v.host.stage) c.self.view_is ∙ c.requires.swapping.1.1.1.1 in
    let command : c.args.command ≡ Swap 0 verify fresh = swap_due c.args.self.now.host name key verify fresh c.args.command c.requires.swapping.1.1.1.1 c.requires.due in
    let response = c.send-response.result in
    let found : Answers w.device (Swap 0 verify fresh) response = subst (λ (x : Command). Answers w.device x response) command c.send-response.ensures.answer in
    let new = c.take.new.self in
    let answer = c.in-Some.answer in
    let moved = moved-swap w h name key verify fresh response new c.take.result stage found c.take.ensures.registered c.take.ensures.takes in
    let is : IsCommitted w verify fresh response new answer = subst (λ (x : Option HostAnswer). IsSwapped w verify fresh response new x) c.in-Some.is moved in
    let event : c.event_of-event.result ≡ sent_event w (Swap 0 verify fresh) response true =
    c.event_of-event.ensures ∙ (λ i. record { host = 0; at = 0; directive = w.position + 1; step = c.sent.ensures i; dies = false })
    ∙ ap (λ (x : Command). sent_event w x response true) command in
    let reply : c.reply_of-reply.result ≡ reply_now w answer (place_of answer (w.commits + 1)) =
    c.reply_of-reply.ensures ∙ (λ i. record { event = c.len.ensures i; host = 0; directive = w.position + 1; answer = answer; place = place_of answer (w.commits + 1) }) in
    let events : c.add_answered.new.self.events ≡ w.log.events ++ sent_event w (Swap 0 verify fresh) response true ∷ [] =
    c.add_answered.ensures.events ∙ ap (λ (e : Event). w.log.events ++ e ∷ []) event in
    let device : c.send-response.new.lun.sectors ≡ stored w.device (Swap 0 verify fresh) = c.send-response.ensures.stored ∙ ap (stored w.device) command in
    FirstHolds-as (stepped w (w.position + 1) new (stored w.device (Swap 0 verify fresh)) (w.commits + 1) (w.log.events ++ sent_event w (Swap 0 verify fresh) response true ∷ [])
    (w.log.replies ++ reply_now w answer (place_of answer (w.commits + 1)) ∷ [])) _
    refl refl refl (sym device) refl (sym events) (sym (c.add_answered.ensures.replies ∙ ap (λ (r : Reply). w.log.replies ++ r ∷ []) reply)) is.holds

pub returns : goal.returns
returns c =
    let w : FirstWorldValue = record { scenario = c.self.inside.scenario; position = c.self.inside.position; host = c.self.inside.host; device = c.self.inside.device.sectors; commits = c.self.inside.commits; log = c.self.inside.log; room = min c.self.inside.log.spare c.self.inside.device.spare } in
    let h : FirstHolds w = c.self.invariant in
    let name = c.requires.swapping.0 in
    let key = c.requires.swapping.1.0 in
    let verify = c.requires.swapping.1.1.0 in
    let fresh = c.requires.swapping.1.1.1.0 in
    let stage : w.host.stage ≡ Filling name key verify fresh = ap (λ (v : FirstWorldValue). v.host.stage) c.self.view_is ∙ c.requires.swapping.1.1.1.1 in
    let command : c.args.command ≡ Swap 0 verify fresh = swap_due c.args.self.now.host name key verify fresh c.args.command c.requires.swapping.1.1.1.1 c.requires.due in
    let response = c.send-response.result in
    let found : Answers w.device (Swap 0 verify fresh) response = subst (λ (x : Command). Answers w.device x response) command c.send-response.ensures.answer in
    let new = c.take.new.self in
    let answer = c.in-Some.answer in
    let moved = moved-swap w h name key verify fresh response new c.take.result stage found c.take.ensures.registered c.take.ensures.takes in
    let is : IsCommitted w verify fresh response new answer = subst (λ (x : Option HostAnswer). IsSwapped w verify fresh response new x) c.in-Some.is moved in
    let event : c.event_of-event.result ≡ sent_event w (Swap 0 verify fresh) response true =
    c.event_of-event.ensures ∙ (λ i. record { host = 0; at = 0; directive = w.position + 1; step = c.sent.ensures i; dies = false })
    ∙ ap (λ (x : Command). sent_event w x response true) command in
    let reply : c.reply_of-reply.result ≡ reply_now w answer (place_of answer (w.commits + 1)) =
    c.reply_of-reply.ensures ∙ (λ i. record { event = c.len.ensures i; host = 0; directive = w.position + 1; answer = answer; place = place_of answer (w.commits + 1) }) in
    let events : c.add_answered.new.self.events ≡ w.log.events ++ sent_event w (Swap 0 verify fresh) response true ∷ [] =
    c.add_answered.ensures.events ∙ ap (λ (e : Event). w.log.events ++ e ∷ []) event in
    let device : c.send-response.new.lun.sectors ≡ stored w.device (Swap 0 verify fresh) = c.send-response.ensures.stored ∙ ap (stored w.device) command in
    let after : FirstWorldValue = record { scenario = w.scenario; position = w.position + 1; host = new; device = c.send-response.new.lun.sectors; commits = w.commits + 1; log = c.add_answered.new.self; room = min c.add_answered.new.self.spare c.send-response.new.lun.spare } in
    let P : FirstWorldValue → Type 0 = λ v. AddsEvent v after in
    let due = was_due_filling w h name key verify fresh stage in
    subst P c.self.view_is (record {
      was_due = due;
      event = sent_event w (Swap 0 verify fresh) response true;
      added = events;
      replied = inr (c.reply_of-reply.result, c.add_answered.ensures.replies);
      same_scenario = refl;
      fewer = fewer_committed (length (list_of w.scenario 0)) w.position (turns_at w.host.stage) (turns_at new.stage) due (ap turns_at stage) is.turns;
    })
