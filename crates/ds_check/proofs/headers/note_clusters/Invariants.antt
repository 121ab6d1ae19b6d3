-- The findings of the numbers so far are noted.
use Rattle.std.proofs.Common.{◌≡◌, ◌++◌}
use Rattle.ds_check.specs.Headers.{cluster_form}
use Rattle.ds_check.specs.Rows.{row}
use Rattle.ds_check.proofs.headers.note_clusters.Given as goal

abbrev pub invariant-loop-number : goal.invariant-loop-number
invariant-loop-number l = l.report ≡ l.initial.report ++ row l.number (cluster_form l.geom l.controls l.kind)
