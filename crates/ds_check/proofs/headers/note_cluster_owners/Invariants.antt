-- The findings of the numbers so far are noted.
use Rattle.std.proofs.Common.{◌≡◌, ◌++◌}
use Rattle.ds_check.specs.Headers.{cluster_owner}
use Rattle.ds_check.specs.Rows.{row}
use Rattle.ds_check.proofs.headers.note_cluster_owners.Given as goal

abbrev pub invariant-loop-number : goal.invariant-loop-number
invariant-loop-number l = l.report ≡ l.initial.report ++ row l.number (cluster_owner l.controls l.kind)
