-- The objects so far are those that the parts spell, and the others are as in a new tree.
use Rattle.std.proofs.Common.{◌≡◌, ◌++◌, take, drop, map}
use Rattle.ds_tree.specs.Nodes.{fresh_tree}
use Rattle.ds_image_parts.specs.Objects.{object_of}
use Rattle.ds_image.proofs.building.tree_of.Given as goal

abbrev pub invariant-loop-object : goal.invariant-loop-object
invariant-loop-object _ l = record {
  geom : l.builder.geom ≡ l.geom;
  objects : l.builder.tree.objects ≡ map (object_of l.parts) (take l.object l.parts.bodies) ++ drop l.object (fresh_tree l.geom).objects;
}
