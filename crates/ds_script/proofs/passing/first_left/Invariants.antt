use Rattle.std.proofs.Common.{◌≡◌, ℕ, ◌<◌, length}
use Rattle.std.specs.Prelude.{slice_index}
use Rattle.ds_tree.specs.PlainPass.{list_at}
use Rattle.ds_script.proofs.passing.first_left.Given as goal

abbrev pub invariant-loop-host : goal.invariant-loop-host
invariant-loop-host l = (h : ℕ) → h < l.host → slice_index l.passed h ≡ length (list_at l.plans h)
