-- The uses of the items so far are noted.
use Rattle.std.proofs.Common.{◌≡◌, ℕ, List, ◌++◌, length, take}
use Rattle.ds_image_tables.specs.Users.{uses_by, KnowsUsers}
use Rattle.ds_check.proofs.uses.note_uses.Given as goal

abbrev pub invariant-loop-item : goal.invariant-loop-item
invariant-loop-item l = record {
  count : length l.table ≡ length l.initial.table;
  knows : (uses : List (ℕ × ℕ)) → KnowsUsers l.initial.table uses → KnowsUsers l.table (uses ++ uses_by l.object (take l.item-index l.items));
}
