-- The findings of the rooms so far are noted, and the set has just their names.
use Rattle.std.proofs.Common.{◌≡◌, ◌++◌, ℕ, List, take}
use Rattle.std.specs.BTreeSet.{contains}
use Rattle.std.specs.Cmp.Lexicographic.{slice_cmp}
use Rattle.std.specs.List.{list_any}
use Rattle.std.specs.Ordering.{nat_cmp}
use Rattle.ds_check.specs.Entries.{repeated_room, has_name}
use Rattle.ds_check.specs.Rows.{row}
use Rattle.ds_check.proofs.entries.note_repeated_in.Given as goal

abbrev pub invariant-loop-room : goal.invariant-loop-room
invariant-loop-room l = record {
  told : l.report ≡ l.initial.report ++ row l.room (repeated_room l.object l.rooms);
  known : (name : List ℕ) → contains (slice_cmp nat_cmp) l.names name ≡ list_any (has_name name) (take l.room l.rooms);
}
