use Rattle.std.specs.Prelude.{min}
use Rattle.std.proofs.Common.{◌≡◌, List, length, Some, refl, sym, ap, ◌∙◌}
use Rattle.std.specs.Prelude.{slice_get}
use Rattle.std.proofs.lemmas.Option.{slice_get_read}
use Rattle.ds_world.specs.FirstWorlds.{FirstWorldValue, FirstHolds}
use Rattle.ds_tree.specs.declared.scenarios.Directive.{Directive}
use Rattle.ds_log.specs.Scripts.{list_of}
use Rattle.ds_world.proofs.FirstMoves.{directive_listed}
use Rattle.ds_world.proofs.first_world.FirstWorld.call_due.Goals as goal

pub call_of-requires : goal.call_of-requires
call_of-requires c =
    let w : FirstWorldValue = record { scenario = c.self.inside.scenario; position = c.self.inside.position; host = c.self.inside.host; device = c.self.inside.device.sectors; commits = c.self.inside.commits; log = c.self.inside.log; room = min c.self.inside.log.spare c.self.inside.device.spare } in
    let h : FirstHolds w = c.self.invariant in
    let d = c.in_ok-directive.directive.now in
    let item = c.in_ok-directive.ensures.lookup in
    let list = c.list.result.now in
    let at : slice_get list w.position ≡ Some d = slice_get_read list (length list) w.position d refl item.3.0 item.1 in
    let same : list_of w.scenario 0 ≡ list = ap (λ (v : FirstWorldValue). list_of v.scenario 0) c.self.view_is ∙ sym c.list.ensures in
    directive_listed w h w.position d (ap (λ (xs : List Directive). slice_get xs w.position) same ∙ at)

pub returns : goal.returns
returns c =
    let d = c.in_ok-directive.directive.now in
    let item = c.in_ok-directive.ensures.lookup in
    let list = c.list.result.now in
    let at : slice_get list c.self.inside.position ≡ Some d = slice_get_read list (length list) c.self.inside.position d refl item.3.0 item.1 in
    let place : c.args.self.now.position ≡ c.self.inside.position = sym (ap (λ (w : FirstWorldValue). w.position) c.self.view_is) in
    (d, (λ i. slice_get (sym c.list.ensures i) (place i)) ∙ at, c.call_of.ensures)
