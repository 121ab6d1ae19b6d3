-- The targets so far that the others have are noted.
use Rattle.std.proofs.Common.{◌≡◌, ◌++◌, take}
use Rattle.ds_check.specs.Journals.{shares}
use Rattle.ds_check.proofs.journals.note_shares.Given as goal

abbrev pub invariant-loop-target : goal.invariant-loop-target
invariant-loop-target l = l.report ≡ l.initial.report ++ shares l.first l.second (take l.target-index l.targets) l.others
