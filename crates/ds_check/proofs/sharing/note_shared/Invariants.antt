-- The items so far that are listed twice are noted.
use Rattle.std.proofs.Common.{◌≡◌, ◌++◌}
use Rattle.ds_image_tables.specs.Users.{users}
use Rattle.ds_check.specs.Uses.{uses_of}
use Rattle.ds_check.specs.Sharing.{twice}
use Rattle.ds_check.specs.Rows.{row}
use Rattle.ds_check.proofs.sharing.note_shared.Given as goal

abbrev pub invariant-loop-item : goal.invariant-loop-item
invariant-loop-item l = l.report ≡ l.initial.report ++ row l.item (λ n. twice l.kind n (users (uses_of l.geom l.parts l.kind) n))
