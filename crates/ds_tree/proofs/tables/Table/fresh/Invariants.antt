use Rattle.std.proofs.Common.{◌≡◌, ◌-◌, ◌∷◌, Some, replicate}
use Rattle.std.specs.FinMap as maps
use Rattle.ds_tree.specs.Nodes.{Dir, unborn}
use Rattle.ds_tree.proofs.tables.Table.fresh.Given as goal

abbrev pub invariant-loop-number : goal.invariant-loop-number
invariant-loop-number l = l.objects.items ≡ record { birth = 1; node = Some (Dir maps.empty 0) } ∷ replicate (l.number - 1) unborn
