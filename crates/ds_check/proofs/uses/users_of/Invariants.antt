-- The uses by the objects so far are noted.
use Rattle.std.proofs.Common.{◌≡◌, length}
use Rattle.std.specs.List.{flat_map, range_with_len}
use Rattle.ds_image_parts.specs.Parts.{part_at}
use Rattle.ds_image_tables.specs.Users.{uses_by, KnowsUsers}
use Rattle.ds_check.specs.Uses.{items_by}
use Rattle.ds_check.proofs.uses.users_of.Given as goal

abbrev pub invariant-loop-object : goal.invariant-loop-object
invariant-loop-object l = record {
  count : length l.table ≡ l.count;
  knows : KnowsUsers l.table (flat_map (λ o. uses_by o (items_by l.parts l.kind (part_at l.parts.bodies o))) (range_with_len 0 l.object));
}
