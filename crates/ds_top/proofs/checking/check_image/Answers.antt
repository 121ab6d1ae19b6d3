use Rattle.std.proofs.Common.{sym, subst}
use Rattle.ds_top.specs.declared.outcome.Why.{Why}
use Rattle.ds_top.specs.declared.output.Output.{Output}
use Rattle.ds_top.specs.Runs.{IsRefusedOfImage, bytes_in}
use Rattle.ds_top.proofs.CheckLaws.{finds_made, memory_refused_image}
use Rattle.ds_top.proofs.RunLaws.{result_map}
use Rattle.ds_top.proofs.checking.check_image.Goals as goal

pub returns-in-Ok : goal.returns-in-Ok
returns-in-Ok c =
    let sectors = c.args.image.now.sectors.items in
    let left_over = c.args.image.now.left_over in
    result_map _ _ _ _ _ (λ (it : Output) made. finds_made sectors left_over c.in-Ok.report it.why it.log (bytes_in it.body) c.in-Ok.ensures made)
    (λ why is. subst (λ (w : Why). IsRefusedOfImage sectors left_over w) (sym is) (memory_refused_image sectors left_over)) c.tell.ensures
