use Rattle.std.proofs.Common.{Option, sym, subst}
use Rattle.ds_log.specs.LogValues.{LogValue}
use Rattle.ds_top.specs.Runs.{Ends, bytes_in}
use Rattle.ds_top.proofs.RunLaws.{ends_written}
use Rattle.ds_top.proofs.running.execute.Goals as goal

pub returns-in-Ok-clause-ends : goal.returns-in-Ok-clause-ends
returns-in-Ok-clause-ends g c =
    let command = c.args.command in
    let left = g.S.Source.left c.args.source.now in
    let left' = g.S.Source.left c.make_output.new.source in
    let faults = g.S.Source.faults c.args.source.now in
    let faults' = g.S.Source.faults c.make_output.new.source in
    let taken = g.K.Sink.taken c.args.sink.now in
    let taken' = g.K.Sink.taken c.write_output.new.sink in
    let failed = g.K.Sink.faults c.args.sink.now in
    let failed' = g.K.Sink.faults c.write_output.new.sink in
    let output = c.in-Ok.output in
    subst (λ (log : Option LogValue). Ends command left left' faults faults' taken taken' failed failed' c.write_output.result.why log) (sym c.write_output.ensures.log)
    (ends_written command left left' faults faults' taken taken' failed failed' output.why c.write_output.result.why output.log (bytes_in output.body) c.in-Ok.ensures c.write_output.ensures.writes)
