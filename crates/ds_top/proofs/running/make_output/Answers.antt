use Rattle.std.proofs.Common.{◌≡◌, subst}
use Rattle.std.specs.Prelude.{MatchResult}
use Rattle.ds_top.specs.declared.commands.Command.{Command}
use Rattle.ds_top.specs.declared.commands.Command.TheVariants.{Check, Tree}
use Rattle.ds_top.specs.declared.outcome.Why.{Why}
use Rattle.ds_top.specs.declared.output.Output.{Output}
use Rattle.ds_top.specs.Runs.{IsMade, IsRefused, bytes_in}
use Rattle.ds_top.proofs.CheckLaws.{image_made, image_refused, image_listed, tree_refused}
use Rattle.ds_top.proofs.RunLaws.{result_map}
use Rattle.ds_top.proofs.running.make_output.Goals as goal

pub returns-in_ok-image-in-Check : goal.returns-in_ok-image-in-Check
returns-in_ok-image-in-Check g c =
    let left = g.S.Source.left c.args.source.now in
    let left' = g.S.Source.left c.read_image.new.source in
    let faults = g.S.Source.faults c.args.source.now in
    let faults' = g.S.Source.faults c.read_image.new.source in
    let image = c.in_ok-image-in-Check.image in
    let read = c.in_ok-image-in-Check.ensures.whole in
    let is : Check ≡ c.args.command = cc in
    subst (λ (command : Command). MatchResult c.check_image.result
    (λ (it : Output). IsMade command left left' it.why it.log (bytes_in it.body)) (λ (why : Why). IsRefused command left left' faults faults' why)) is
    (result_map _ _ _ _ _ (λ (it : Output) made. image_made left left' image.sectors.items image.left_over it.why it.log (bytes_in it.body) read made)
    (λ why refused. image_refused left left' faults faults' image.sectors.items image.left_over why read refused) c.check_image.ensures)

pub returns-in_ok-image-in-Tree : goal.returns-in_ok-image-in-Tree
returns-in_ok-image-in-Tree g c =
    let left = g.S.Source.left c.args.source.now in
    let left' = g.S.Source.left c.read_image-in-Tree.new.source in
    let faults = g.S.Source.faults c.args.source.now in
    let faults' = g.S.Source.faults c.read_image-in-Tree.new.source in
    let image = c.in_ok-image-in-Tree.image in
    let read = c.in_ok-image-in-Tree.ensures.whole in
    let is : Tree ≡ c.args.command = cc in
    subst (λ (command : Command). MatchResult c.list_image.result
    (λ (it : Output). IsMade command left left' it.why it.log (bytes_in it.body)) (λ (why : Why). IsRefused command left left' faults faults' why)) is
    (result_map _ _ _ _ _ (λ (it : Output) made. image_listed left left' image.sectors.items image.left_over it.why it.log (bytes_in it.body) read made)
    (λ why refused. tree_refused left left' faults faults' why (image_refused left left' faults faults' image.sectors.items image.left_over why read refused))
    c.list_image.ensures)
