-- The findings of the numbers so far are noted.
use Rattle.std.proofs.Common.{◌≡◌, ◌++◌}
use Rattle.ds_check.specs.Breakers.{slot_breaker}
use Rattle.ds_check.specs.Rows.{row}
use Rattle.ds_check.proofs.breakers.note_misbroken.Given as goal

abbrev pub invariant-loop-number : goal.invariant-loop-number
invariant-loop-number l = l.report ≡ l.initial.report ++ row l.number (slot_breaker l.geom l.controls)
