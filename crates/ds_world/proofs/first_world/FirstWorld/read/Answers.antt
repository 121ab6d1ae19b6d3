use Rattle.std.specs.Prelude.{min}
use Rattle.std.proofs.Common.{inl, inr, ◌≡◌, ◌+◌, ◌++◌, ◌∷◌, [], false, length, refl, sym, ap, subst, ◌∙◌, arith, Option}
use Rattle.ds_base.specs.declared.commands.Command.TheVariants.{Read}
use Rattle.ds_conduct.specs.declared.answers.HostAnswer.{HostAnswer}
use Rattle.ds_host.specs.declared.first_host.Stage.TheVariants.{Reading}
use Rattle.ds_log.specs.declared.logs.Event.{Event}
use Rattle.ds_log.specs.declared.logs.Reply.{Reply}
use Rattle.ds_log.specs.Scripts.{list_of}
use Rattle.ds_world.specs.FirstWorlds.{FirstWorldValue, FirstHolds, AddsEvent, sent_event, reply_now, place_of, turns_at, stepped}
use Rattle.ds_world.proofs.FirstSteps.{FirstHolds-as}
use Rattle.ds_world.proofs.FirstMoves.{short_list, was_due, may_take_read, moved-read, IsRead, GoesOn, IsAnswered, fewer_answered, fewer_filling}
use Rattle.ds_world.proofs.first_world.FirstWorld.read.Goals as goal

pub take-answer-requires : goal.take-answer-requires
take-answer-requires c =
    let w : FirstWorldValue = record { scenario = c.self.inside.scenario; position = c.self.inside.position; host = c.self.inside.host; device = c.self.inside.device.sectors; commits = c.self.inside.commits; log = c.self.inside.log; room = min c.self.inside.log.spare c.self.inside.device.spare } in
    let h : FirstHolds w = c.self.invariant in
    let call = c.requires.reading.0 in
    let stage : w.host.stage ≡ Reading call = ap (λ (v : FirstWorldValue). v.host.stage) c.self.view_is ∙ c.requires.reading.1 in
    may_take_read w h call c.send-response.result stage c.send-response.ensures.answer

pub event_of-event-requires : goal.event_of-event-requires
event_of-event-requires c =
    let w : FirstWorldValue = record { scenario = c.self.inside.scenario; position = c.self.inside.position; host = c.self.inside.host; device = c.self.inside.device.sectors; commits = c.self.inside.commits; log = c.self.inside.log; room = min c.self.inside.log.spare c.self.inside.device.spare } in
    let h : FirstHolds w = c.self.invariant in
    let call = c.requires.reading.0 in
    let stage : w.host.stage ≡ Reading call = ap (λ (v : FirstWorldValue). v.host.stage) c.self.view_is ∙ c.requires.reading.1 in
    omega (arith, was_due w h call stage, short_list w h)

pub reply_of-reply-requires : goal.reply_of-reply-requires
reply_of-reply-requires c =
    let w : FirstWorldValue = record { scenario = c.self.inside.scenario; position = c.self.inside.position; host = c.self.inside.host; device = c.self.inside.device.sectors; commits = c.self.inside.commits; log = c.self.inside.log; room = min c.self.inside.log.spare c.self.inside.device.spare } in
    let h : FirstHolds w = c.self.invariant in
    let call = c.requires.reading.0 in
    let stage : w.host.stage ≡ Reading call = ap (λ (v : FirstWorldValue). v.host.stage) c.self.view_is ∙ c.requires.reading.1 in
    omega (arith, was_due w h call stage, short_list w h)

pub invariant_of-self : goal.invariant_of-self
invariant_of-self c =
    let w : FirstWorldValue = record { scenario = c.self.inside.scenario; position = c.self.inside.position; host = c.self.inside.host; device = c.self.inside.device.sectors; commits = c.self.inside.commits; log = c.self.inside.log; room = min c.self.inside.log.spare c.self.inside.device.spare } in
    let h : FirstHolds w = c.self.invariant in
    let call = c.requires.reading.0 in
    let stage : w.host.stage ≡ Reading call = ap (λ (v : FirstWorldValue). v.host.stage) c.self.view_is ∙ c.requires.reading.1 in
    let response = c.send-response.result in
    let new = c.take-answer.new.self in
    let moved = moved-read w h call response new c.take-answer.result stage c.send-response.ensures.answer c.take-answer.ensures.registered c.take-answer.ensures.takes in
    let event : c.event_of-event.result ≡ sent_event w (Read 0) response false =
    c.event_of-event.ensures ∙ (λ i. record { host = 0; at = 0; directive = w.position + 1; step = c.sent.ensures i; dies = false }) in
    let a = c.in-Some.answer in
    let is : IsAnswered w response new a = subst (λ (x : Option HostAnswer). IsRead w response new x) c.in-Some.is moved in
    let reply : c.reply_of-reply.result ≡ reply_now w a (place_of a w.commits) =
    c.reply_of-reply.ensures ∙ (λ i. record { event = c.len.ensures i; host = 0; directive = w.position + 1; answer = a; place = place_of a w.commits }) in
    let events : c.add_answered.new.self.events ≡ w.log.events ++ sent_event w (Read 0) response false ∷ [] =
    c.add_answered.ensures.events ∙ ap (λ (e : Event). w.log.events ++ e ∷ []) event in
    FirstHolds-as (stepped w (w.position + 1) new w.device w.commits (w.log.events ++ sent_event w (Read 0) response false ∷ []) (w.log.replies ++ reply_now w a (place_of a w.commits) ∷ [])) _
    refl refl refl (sym c.send-response.ensures.stored) refl (sym events) (sym (c.add_answered.ensures.replies ∙ ap (λ (r : Reply). w.log.replies ++ r ∷ []) reply)) is.holds

pub invariant_of-self-in-None : goal.invariant_of-self-in-None
invariant_of-self-in-None c =
    let w : FirstWorldValue = record { scenario = c.self.inside.scenario; position = c.self.inside.position; host = c.self.inside.host; device = c.self.inside.device.sectors; commits = c.self.inside.commits; log = c.self.inside.log; room = min c.self.inside.log.spare c.self.inside.device.spare } in
    let h : FirstHolds w = c.self.invariant in
    let call = c.requires.reading.0 in
    let stage : w.host.stage ≡ Reading call = ap (λ (v : FirstWorldValue). v.host.stage) c.self.view_is ∙ c.requires.reading.1 in
    let response = c.send-response.result in
    let new = c.take-answer.new.self in
    let moved = moved-read w h call response new c.take-answer.result stage c.send-response.ensures.answer c.take-answer.ensures.registered c.take-answer.ensures.takes in
    let event : c.event_of-event.result ≡ sent_event w (Read 0) response false =
    c.event_of-event.ensures ∙ (λ i. record { host = 0; at = 0; directive = w.position + 1; step = c.sent.ensures i; dies = false }) in
    let is : GoesOn w response new = subst (λ (x : Option HostAnswer). IsRead w response new x) c.in-None.is moved in
    let events : c.add.new.self.events ≡ w.log.events ++ sent_event w (Read 0) response false ∷ [] =
    c.add.ensures.events ∙ ap (λ (e : Event). w.log.events ++ e ∷ []) event in
    FirstHolds-as (stepped w w.position new w.device w.commits (w.log.events ++ sent_event w (Read 0) response false ∷ []) w.log.replies) _
    refl refl refl (sym c.send-response.ensures.stored) refl (sym events) (sym c.add.ensures.replies) is.holds

pub returns-in-Some : goal.returns-in-Some
returns-in-Some c =
    let w : FirstWorldValue = record { scenario = c.self.inside.scenario; position = c.self.inside.position; host = c.self.inside.host; device = c.self.inside.device.sectors; commits = c.self.inside.commits; log = c.self.inside.log; room = min c.self.inside.log.spare c.self.inside.device.spare } in
    let h : FirstHolds w = c.self.invariant in
    let call = c.requires.reading.0 in
    let stage : w.host.stage ≡ Reading call = ap (λ (v : FirstWorldValue). v.host.stage) c.self.view_is ∙ c.requires.reading.1 in
    let response = c.send-response.result in
    let new = c.take-answer.new.self in
    let moved = moved-read w h call response new c.take-answer.result stage c.send-response.ensures.answer c.take-answer.ensures.registered c.take-answer.ensures.takes in
    let event : c.event_of-event.result ≡ sent_event w (Read 0) response false =
    c.event_of-event.ensures ∙ (λ i. record { host = 0; at = 0; directive = w.position + 1; step = c.sent.ensures i; dies = false }) in
    let a = c.in-Some.answer in
    let is : IsAnswered w response new a = subst (λ (x : Option HostAnswer). IsRead w response new x) c.in-Some.is moved in
    let reply : c.reply_of-reply.result ≡ reply_now w a (place_of a w.commits) =
    c.reply_of-reply.ensures ∙ (λ i. record { event = c.len.ensures i; host = 0; directive = w.position + 1; answer = a; place = place_of a w.commits }) in
    let events : c.add_answered.new.self.events ≡ w.log.events ++ sent_event w (Read 0) response false ∷ [] =
    c.add_answered.ensures.events ∙ ap (λ (e : Event). w.log.events ++ e ∷ []) event in
    let after : FirstWorldValue = record { scenario = w.scenario; position = w.position + 1; host = new; device = c.send-response.new.lun.sectors; commits = w.commits; log = c.add_answered.new.self; room = min c.add_answered.new.self.spare c.send-response.new.lun.spare } in
    let P : FirstWorldValue → Type 0 = λ v. AddsEvent v after in
    subst P c.self.view_is (record {
      was_due = was_due w h call stage;
      event = sent_event w (Read 0) response false;
      added = events;
      replied = inr (c.reply_of-reply.result, c.add_answered.ensures.replies);
      same_scenario = refl;
      fewer = fewer_answered (length (list_of w.scenario 0)) w.position (turns_at w.host.stage) (turns_at new.stage) (was_due w h call stage) (ap turns_at stage) is.turns;
    })

pub returns-in-None : goal.returns-in-None
returns-in-None c =
    let w : FirstWorldValue = record { scenario = c.self.inside.scenario; position = c.self.inside.position; host = c.self.inside.host; device = c.self.inside.device.sectors; commits = c.self.inside.commits; log = c.self.inside.log; room = min c.self.inside.log.spare c.self.inside.device.spare } in
    let h : FirstHolds w = c.self.invariant in
    let call = c.requires.reading.0 in
    let stage : w.host.stage ≡ Reading call = ap (λ (v : FirstWorldValue). v.host.stage) c.self.view_is ∙ c.requires.reading.1 in
    let response = c.send-response.result in
    let new = c.take-answer.new.self in
    let moved = moved-read w h call response new c.take-answer.result stage c.send-response.ensures.answer c.take-answer.ensures.registered c.take-answer.ensures.takes in
    let event : c.event_of-event.result ≡ sent_event w (Read 0) response false =
    c.event_of-event.ensures ∙ (λ i. record { host = 0; at = 0; directive = w.position + 1; step = c.sent.ensures i; dies = false }) in
    let is : GoesOn w response new = subst (λ (x : Option HostAnswer). IsRead w response new x) c.in-None.is moved in
    let events : c.add.new.self.events ≡ w.log.events ++ sent_event w (Read 0) response false ∷ [] =
    c.add.ensures.events ∙ ap (λ (e : Event). w.log.events ++ e ∷ []) event in
    let after : FirstWorldValue = record { scenario = w.scenario; position = w.position; host = new; device = c.send-response.new.lun.sectors; commits = w.commits; log = c.add.new.self; room = min c.add.new.self.spare c.send-response.new.lun.spare } in
    let P : FirstWorldValue → Type 0 = λ v. AddsEvent v after in
    subst P c.self.view_is (record {
      was_due = was_due w h call stage;
      event = sent_event w (Read 0) response false;
      added = events;
      replied = inl c.add.ensures.replies;
      same_scenario = refl;
      fewer = fewer_filling _ (turns_at w.host.stage) (turns_at new.stage) (ap turns_at stage) is.turns;
    })
