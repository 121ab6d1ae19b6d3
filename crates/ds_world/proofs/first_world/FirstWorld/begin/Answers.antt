use Rattle.std.specs.Prelude.{min}
use Rattle.std.proofs.Common.{inr, ◌≡◌, ◌+◌, ◌++◌, ◌∷◌, [], length, refl, sym, ap, subst, ◌∙◌, arith, Some}
use Rattle.ds_host.specs.declared.first_host.Stage.TheVariants.{Rest}
use Rattle.ds_log.specs.declared.logs.Event.{Event}
use Rattle.ds_log.specs.declared.logs.Reply.{Reply}
use Rattle.ds_log.specs.Scripts.{list_of}
use Rattle.ds_world.specs.FirstWorlds.{FirstWorldValue, FirstHolds, AddsEvent, local_event, reply_now, place_of, turns_at, stepped}
use Rattle.ds_world.proofs.FirstSteps.{FirstHolds-as}
use Rattle.ds_world.proofs.FirstMoves.{fewer_answered}
use Rattle.std.specs.Prelude.{slice_get}
use Rattle.ds_host.specs.FirstStates.{FirstState}
use Rattle.ds_log.proofs.Pushes.{get-within}
use Rattle.ds_world.proofs.FirstMoves.{short_list, may_begin, begun, begun_answered, moved-begun, moved-registered}
use Rattle.ds_world.proofs.first_world.FirstWorld.begin.Goals as goal

pub begin-requires-clause-built : goal.begin-requires-clause-built
begin-requires-clause-built c =
    let w : FirstWorldValue = record { scenario = c.self.inside.scenario; position = c.self.inside.position; host = c.self.inside.host; device = c.self.inside.device.sectors; commits = c.self.inside.commits; log = c.self.inside.log; room = min c.self.inside.log.spare c.self.inside.device.spare } in
    let h : FirstHolds w = c.self.invariant in
    let d = c.in-Some.ensures.0 in
    let at : slice_get (list_of w.scenario 0) w.position ≡ Some d = ap (λ (v : FirstWorldValue). slice_get (list_of v.scenario 0) v.position) c.self.view_is ∙ c.in-Some.ensures.1 in
    may_begin w h c.in-Some.call d at c.in-Some.ensures.2

pub event_of-event-requires : goal.event_of-event-requires
event_of-event-requires c =
    let w : FirstWorldValue = record { scenario = c.self.inside.scenario; position = c.self.inside.position; host = c.self.inside.host; device = c.self.inside.device.sectors; commits = c.self.inside.commits; log = c.self.inside.log; room = min c.self.inside.log.spare c.self.inside.device.spare } in
    let h : FirstHolds w = c.self.invariant in
    let d = c.in-Some.ensures.0 in
    let at : slice_get (list_of w.scenario 0) w.position ≡ Some d = ap (λ (v : FirstWorldValue). slice_get (list_of v.scenario 0) v.position) c.self.view_is ∙ c.in-Some.ensures.1 in
    omega (arith, get-within (list_of w.scenario 0) w.position d at, short_list w h)

pub reply_of-reply-requires : goal.reply_of-reply-requires
reply_of-reply-requires c =
    let w : FirstWorldValue = record { scenario = c.self.inside.scenario; position = c.self.inside.position; host = c.self.inside.host; device = c.self.inside.device.sectors; commits = c.self.inside.commits; log = c.self.inside.log; room = min c.self.inside.log.spare c.self.inside.device.spare } in
    let h : FirstHolds w = c.self.invariant in
    let d = c.in-Some.ensures.0 in
    let at : slice_get (list_of w.scenario 0) w.position ≡ Some d = ap (λ (v : FirstWorldValue). slice_get (list_of v.scenario 0) v.position) c.self.view_is ∙ c.in-Some.ensures.1 in
    omega (arith, get-within (list_of w.scenario 0) w.position d at, short_list w h)

pub invariant_of-self-in-None : goal.invariant_of-self-in-None
invariant_of-self-in-None c =
    let w : FirstWorldValue = record { scenario = c.self.inside.scenario; position = c.self.inside.position; host = c.self.inside.host; device = c.self.inside.device.sectors; commits = c.self.inside.commits; log = c.self.inside.log; room = min c.self.inside.log.spare c.self.inside.device.spare } in
    let h : FirstHolds w = c.self.invariant in
    let d = c.in-Some.ensures.0 in
    let at : slice_get (list_of w.scenario 0) w.position ≡ Some d = ap (λ (v : FirstWorldValue). slice_get (list_of v.scenario 0) v.position) c.self.view_is ∙ c.in-Some.ensures.1 in
    let rests : w.host.stage ≡ Rest = ap (λ (v : FirstWorldValue). v.host.stage) c.self.view_is ∙ c.requires.rests in
    let new = c.begin.new.self in
    let is = begun w.host new c.in-Some.call d c.in-Some.ensures.2 c.in-None.ensures in
    FirstHolds-as (stepped w w.position new w.device w.commits w.log.events w.log.replies) _ refl refl refl refl refl refl refl (moved-begun w h new d rests at is)

pub invariant_of-self : goal.invariant_of-self
invariant_of-self c =
    let w : FirstWorldValue = record { scenario = c.self.inside.scenario; position = c.self.inside.position; host = c.self.inside.host; device = c.self.inside.device.sectors; commits = c.self.inside.commits; log = c.self.inside.log; room = min c.self.inside.log.spare c.self.inside.device.spare } in
    let h : FirstHolds w = c.self.invariant in
    let rests : w.host.stage ≡ Rest = ap (λ (v : FirstWorldValue). v.host.stage) c.self.view_is ∙ c.requires.rests in
    let d = c.in-Some.ensures.0 in
    let at : slice_get (list_of w.scenario 0) w.position ≡ Some d = ap (λ (v : FirstWorldValue). slice_get (list_of v.scenario 0) v.position) c.self.view_is ∙ c.in-Some.ensures.1 in
    let asks = c.in-Some.ensures.2 in
    let new = c.begin.new.self in
    let answer = c.in-Some-begin.answer in
    let is = begun_answered w.host new c.in-Some.call d answer asks c.in-Some-begin.ensures in
    let event : c.event_of-event.result ≡ local_event w = c.event_of-event.ensures in
    let reply : c.reply_of-reply.result ≡ reply_now w answer (place_of answer w.commits) =
    c.reply_of-reply.ensures ∙ (λ i. record { event = c.len.ensures i; host = 0; directive = w.position + 1; answer = answer; place = place_of answer w.commits }) in
    let events : c.add_answered.new.self.events ≡ w.log.events ++ local_event w ∷ [] = c.add_answered.ensures.events ∙ ap (λ (e : Event). w.log.events ++ e ∷ []) event in
    FirstHolds-as (stepped w (w.position + 1) new w.device w.commits (w.log.events ++ local_event w ∷ []) (w.log.replies ++ reply_now w answer (place_of answer w.commits) ∷ [])) _
    refl refl refl refl refl (sym events) (sym (c.add_answered.ensures.replies ∙ ap (λ (r : Reply). w.log.replies ++ r ∷ []) reply)) (moved-registered w h new d answer rests at is)

pub returns-in-Some-begin : goal.returns-in-Some-begin
returns-in-Some-begin c =
    let w : FirstWorldValue = record { scenario = c.self.inside.scenario; position = c.self.inside.position; host = c.self.inside.host; device = c.self.inside.device.sectors; commits = c.self.inside.commits; log = c.self.inside.log; room = min c.self.inside.log.spare c.self.inside.device.spare } in
    let h : FirstHolds w = c.self.invariant in
    let rests : w.host.stage ≡ Rest = ap (λ (v : FirstWorldValue). v.host.stage) c.self.view_is ∙ c.requires.rests in
    let d = c.in-Some.ensures.0 in
    let at : slice_get (list_of w.scenario 0) w.position ≡ Some d = ap (λ (v : FirstWorldValue). slice_get (list_of v.scenario 0) v.position) c.self.view_is ∙ c.in-Some.ensures.1 in
    let asks = c.in-Some.ensures.2 in
    let new = c.begin.new.self in
    let answer = c.in-Some-begin.answer in
    let is = begun_answered w.host new c.in-Some.call d answer asks c.in-Some-begin.ensures in
    let event : c.event_of-event.result ≡ local_event w = c.event_of-event.ensures in
    let reply : c.reply_of-reply.result ≡ reply_now w answer (place_of answer w.commits) =
    c.reply_of-reply.ensures ∙ (λ i. record { event = c.len.ensures i; host = 0; directive = w.position + 1; answer = answer; place = place_of answer w.commits }) in
    let events : c.add_answered.new.self.events ≡ w.log.events ++ local_event w ∷ [] = c.add_answered.ensures.events ∙ ap (λ (e : Event). w.log.events ++ e ∷ []) event in
    let after : FirstWorldValue = record { scenario = w.scenario; position = w.position + 1; host = new; device = w.device; commits = w.commits; log = c.add_answered.new.self; room = min c.add_answered.new.self.spare c.self.inside.device.spare } in
    let P : FirstWorldValue → Type 0 = λ v. AddsEvent v after in
    let due = get-within (list_of w.scenario 0) w.position d at in
    subst P c.self.view_is (record {
      was_due = due;
      event = local_event w;
      added = events;
      replied = inr (c.reply_of-reply.result, c.add_answered.ensures.replies);
      same_scenario = refl;
      fewer = fewer_answered (length (list_of w.scenario 0)) w.position (turns_at w.host.stage) (turns_at new.stage) due (ap turns_at rests) (ap (λ (s : FirstState). turns_at s.stage) is.2);
    })
