use Rattle.std.proofs.Common.{◌≡◌, ◌^◌, ◌<◌, drop}
use Rattle.ds_tree.specs.Lines.{value_from}
use Rattle.ds_script.proofs.numbers.value.Given as goal

abbrev pub invariant-loop-b : goal.invariant-loop-b
invariant-loop-b l = (value_from 0 l.word ≡ value_from l.n (drop l.b-index l.word)) × (l.n < 2 ^ 32)
