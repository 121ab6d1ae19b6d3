-- The parents are those of the directories so far.
use Rattle.std.proofs.Common.{◌≡◌, length}
use Rattle.ds_image_parts.specs.Listings.{lists_by}
use Rattle.ds_image_parts.specs.declared.listings.Listed.TheVariants as listed
use Rattle.ds_image.specs.ListParents.{AreParentsOf}
use Rattle.ds_image.proofs.rooted.parents_of.Given as goal

abbrev pub invariant-loop-dir : goal.invariant-loop-dir
invariant-loop-dir _ l = record {
  count : length l.parents.items ≡ length l.bodies;
  are : AreParentsOf (lists_by l.parts listed.Names) l.dir l.parents.items;
}
