-- The findings of the numbers so far are noted.
use Rattle.std.proofs.Common.{◌≡◌, ◌++◌}
use Rattle.ds_check.specs.Metadata.{bitmap_form}
use Rattle.ds_check.specs.Rows.{row}
use Rattle.ds_check.proofs.metadata.note_bitmaps.Given as goal

abbrev pub invariant-loop-cluster : goal.invariant-loop-cluster
invariant-loop-cluster l = l.report ≡ l.initial.report ++ row l.cluster (bitmap_form l.geom l.parts l.kind)
