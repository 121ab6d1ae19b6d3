use Rattle.ds_log_order.proofs.Executing.{call-arm, local-arm}
use Rattle.ds_log_order.proofs.execution.Execution.next_event.Goals as goal

pub returns-in-Some-clause-gone : goal.returns-in-Some-clause-gone
returns-in-Some-clause-gone g c =
    let w = c.args.self.now in
    call-arm g.H.Hosts.facts g.H.Hosts.start w.scenario g.H.Hosts.agrees w.progress.items w.tick w.hosts c.turn-turn.new.self w.log.events
    w.log.replies c.requires.holds
    c.args.host c.list_of-list.result.now c.progress_at-progress.result c.directive_at-directive.result.now c.requires.going.0
    c.in-Some.call.now c.in-Some.ensures.0
    c.len-event.result c.turn-turn.result c.mark.result c.advance-next.result c.put.new.kept.items c.add_turn.new.log.events
    c.add_turn.new.log.replies
    c.requires.known c.requires.going.1 c.list_of-list.ensures c.progress_at-progress.ensures c.directive_at-directive.ensures
    c.in-Some.ensures.1 c.len-event.ensures
    c.turn-turn.ensures c.mark.ensures c.advance-next.ensures c.put.ensures c.add_turn.ensures.events c.add_turn.ensures.replies

pub returns-in-None-clause-gone : goal.returns-in-None-clause-gone
returns-in-None-clause-gone g c =
    let w = c.args.self.now in
    local-arm g.H.Hosts.facts g.H.Hosts.start w.scenario g.H.Hosts.agrees w.progress.items w.tick w.hosts c.idle.new.self w.log.events
    w.log.replies c.requires.holds
    c.args.host c.list_of-list.result.now c.progress_at-progress.result c.directive_at-directive.result.now c.requires.going.0
    c.is_death-dies.result c.no_mark.result c.advance-next-in-None.result c.ticks_of.result c.local_event.result
    c.put-in-None.new.kept.items c.add.new.self.events c.add.new.self.replies
    c.requires.known c.requires.going.1 c.list_of-list.ensures c.progress_at-progress.ensures c.directive_at-directive.ensures
    c.in-None.ensures c.is_death-dies.ensures
    c.idle.ensures c.advance-next-in-None.ensures c.ticks_of.ensures.is c.ticks_of.ensures.small c.local_event.ensures
    c.put-in-None.ensures c.add.ensures.events c.add.ensures.replies
