-- The marks are those of the lists so far.
use Rattle.std.proofs.Common.{◌≡◌, length, take, map}
use Rattle.ds_image_parts.specs.Listings.{listed_by}
use Rattle.ds_image_tables.specs.Owns.{Owns}
use Rattle.ds_image.proofs.owners.owns.Given as goal

abbrev pub invariant-loop-body : goal.invariant-loop-body
invariant-loop-body _ l = record {
  owns : Owns (map (listed_by l.parts l.what) (take l.body-index l.bodies)) l.marks;
  count : length l.marks ≡ length l.bits;
}
