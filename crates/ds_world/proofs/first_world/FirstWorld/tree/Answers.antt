use Rattle.std.specs.Prelude.{min}
use Rattle.std.proofs.Common.{◌≡◌, List, subst, Some}
use Rattle.std.specs.Prelude.{slice_get}
use Rattle.ds_tree.specs.Nodes.{FileTree}
use Rattle.ds_tree.specs.FirstForm.{first_geom}
use Rattle.ds_tree.specs.WellFormed.{IsTree}
use Rattle.ds_dir.specs.declared.sub_block.Entry.{Entry}
use Rattle.ds_host.specs.FirstConduct.{SpellsRooms}
use Rattle.ds_log.specs.Store.{store}
use Rattle.ds_world.specs.FirstRules.{NumberedFrom, first_rules, tree_of, IsTreeOf}
use Rattle.ds_world.specs.FirstWorlds.{FirstWorldValue, FirstHolds}
use Rattle.ds_world.proofs.FirstMoves.{block_entries, tree_stands, tree_only}
use Rattle.ds_world.proofs.first_world.FirstWorld.tree.Goals as goal

pub tree_of_block-requires-clause-numbered : goal.tree_of_block-requires-clause-numbered
tree_of_block-requires-clause-numbered c =
    let w : FirstWorldValue = record { scenario = c.self.inside.scenario; position = c.self.inside.position; host = c.self.inside.host; device = c.self.inside.device.sectors; commits = c.self.inside.commits; log = c.self.inside.log; room = min c.self.inside.log.spare c.self.inside.device.spare } in
    let h : FirstHolds w = c.self.invariant in
    let block = c.block_of-block.result in
    let sector = c.block_of-block.ensures.0 in
    let at : slice_get w.device 0 ≡ Some sector = c.block_of-block.ensures.1 in
    let spelled : SpellsRooms sector block = c.block_of-block.ensures.2 in
    subst (NumberedFrom 1) (block_entries w h sector block at spelled) h.numbered

pub tree_of_block-requires-clause-rules : goal.tree_of_block-requires-clause-rules
tree_of_block-requires-clause-rules c =
    let w : FirstWorldValue = record { scenario = c.self.inside.scenario; position = c.self.inside.position; host = c.self.inside.host; device = c.self.inside.device.sectors; commits = c.self.inside.commits; log = c.self.inside.log; room = min c.self.inside.log.spare c.self.inside.device.spare } in
    let h : FirstHolds w = c.self.invariant in
    let block = c.block_of-block.result in
    let sector = c.block_of-block.ensures.0 in
    let at : slice_get w.device 0 ≡ Some sector = c.block_of-block.ensures.1 in
    let spelled : SpellsRooms sector block = c.block_of-block.ensures.2 in
    subst (λ (es : List Entry). IsTree first_geom (tree_of first_geom es)) (block_entries w h sector block at spelled) h.rules

pub returns : goal.returns
returns c =
    let w : FirstWorldValue = record { scenario = c.self.inside.scenario; position = c.self.inside.position; host = c.self.inside.host; device = c.self.inside.device.sectors; commits = c.self.inside.commits; log = c.self.inside.log; room = min c.self.inside.log.spare c.self.inside.device.spare } in
    let h : FirstHolds w = c.self.invariant in
    let block = c.block_of-block.result in
    let sector = c.block_of-block.ensures.0 in
    let at : slice_get w.device 0 ≡ Some sector = c.block_of-block.ensures.1 in
    let spelled : SpellsRooms sector block = c.block_of-block.ensures.2 in
    let tree = c.in_ok-tree.tree.tree in
    let P : FirstWorldValue → Type 0 = λ v. IsTreeOf first_geom (store first_rules.start v.log.events) tree in
    let Q : FirstWorldValue → Type 0 = λ v. (u : FileTree) → IsTreeOf first_geom (store first_rules.start v.log.events) u → u ≡ tree in
    record {
      stands = subst P c.self.view_is (tree_stands w h sector block tree at spelled c.in_ok-tree.ensures);
      only = subst Q c.self.view_is (λ u stands. tree_only w h sector block tree u at spelled c.in_ok-tree.ensures stands);
    }
