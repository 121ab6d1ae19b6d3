use Rattle.std.proofs.Common.{◌-◌, ℕ, List, length, take, map, sym, ap, ◌∙◌, refl, slice_index_or}
use Rattle.std.specs.Prelude.{Some, None}
use Rattle.std.proofs.lemmas.Option.{slice_get-get_or}
use Rattle.ds_base.specs.declared.names.Key.{Key}
use Rattle.ds_tree.specs.Nodes.{birth_at, node_at, blocks_of}
use Rattle.ds_tree.specs.Lowest.{free_blocks}
use Rattle.ds_tree.specs.Steps.{entries_above, refuses_resize}
use Rattle.ds_tree.specs.Trees.{entries_of, rooms_of}
use Rattle.ds_tree.proofs.FreeBlocks.{free-in_range, free-not_held, free-apart, free-length}
use Rattle.ds_tree.proofs.Granted.{in_dir-granted, in_file-granted, resize-granted, at-granted}
use Rattle.ds_tree.proofs.ObjectLists.{dir_parts, file_parts}
use Rattle.ds_tree.proofs.tables.Table.carry_out.Goals as goal

pub returns-in_ok-names-in-List-clause-succeeds : goal.returns-in_ok-names-in-List-clause-succeeds
returns-in_ok-names-in-List-clause-succeeds c =
    let t = c.args.self.now.tree in
    let dir = node_at t c.in-List.dir.object in
    let granted = in_dir-granted t c.in-List.dir (λ entries rooms. None) (rw c.in-List.is at c.requires.granted) in
    rw c.in-List.is (
      record {
        entries = entries_of dir;
        rooms = rooms_of dir;
        in_dir = dir_parts dir granted.is;
        all = c.entry_count-total.ensures;
        page = c.in_ok-names-in-List.ensures ∙ ap (λ after. map (λ (e : List ℕ × ℕ). let pair : List ℕ × Key = (e.0, record { object = e.1; birth = birth_at t e.1 }) in pair)
            (take 32 (entries_above (entries_of dir) after))) (c.as_ref.ensures.value ∙ c.after_of.ensures);
      },
      refl,
    )

pub returns-in_ok-resize-in-Resize-clause-succeeds : goal.returns-in_ok-resize-in-Resize-clause-succeeds
returns-in_ok-resize-in-Resize-clause-succeeds c =
    let g = c.args.self.now.geom in
    let t = c.args.self.now.tree in
    let node = node_at t c.in-Resize.file.object in
    let size : ℕ = c.in-Resize.size in
    let growth : ℕ = size - length (blocks_of node) in
    let granted = in_file-granted t c.in-Resize.file (refuses_resize g t size) (rw c.in-Resize.is at c.requires.granted) in
    let room = (resize-granted g t size (blocks_of node) granted.next).1 in
    rw c.in-Resize.is (
      refl,
      record {
        blocks = blocks_of node;
        added = take growth (free_blocks g t);
        in_file = file_parts node granted.is;
        grows = free-length g t growth room;
        in_range = free-in_range g t growth;
        free = free-not_held g t growth;
        distinct = free-apart g t growth;
        resized = c.in_ok-resize-in-Resize.ensures.resized;
      },
    )

pub returns-in-At-clause-succeeds : goal.returns-in-At-clause-succeeds
returns-in-At-clause-succeeds c =
    let t = c.args.self.now.tree in
    let node = node_at t c.in-At.file.object in
    let granted = in_file-granted t c.in-At.file _ (rw c.in-At.is at c.requires.granted) in
    let blocks : List ℕ = blocks_of node in
    let within = at-granted blocks c.in-At.index granted.next in
    rw c.in-At.is (
      blocks,
      file_parts node granted.is,
      slice_get-get_or blocks c.in-At.index 0 within ∙ ap (λ bs. Some (slice_index_or bs c.in-At.index 0)) (sym c.blocks-in-At.ensures),
      refl,
    )
