-- The directory has the entries so far.
use Rattle.std.proofs.Common.{◌≡◌, take, Some}
use Rattle.std.specs.FinMap as maps
use Rattle.ds_tree.specs.Nodes.{Dir, with_object}
use Rattle.ds_image.proofs.FileTrees.EntryNames.{pairs}
use Rattle.ds_image.proofs.building.put_dir.Given as goal

abbrev pub invariant-loop-entry : goal.invariant-loop-entry
invariant-loop-entry _ l = record {
  geom : l.builder.geom ≡ l.fn.builder.geom;
  tree : l.builder.tree ≡ with_object l.fn.builder.tree l.key.object
      (record { birth = l.key.birth; node = Some (Dir (maps.from_entries (pairs (take l.entry-index l.entry-items))) l.rooms) });
}
