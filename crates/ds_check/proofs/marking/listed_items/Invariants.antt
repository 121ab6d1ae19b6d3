-- The list tells of the items so far.
use Rattle.std.proofs.Common.{◌≡◌, length, map}
use Rattle.std.specs.Prelude.{nat_lt}
use Rattle.std.specs.List.{range_with_len}
use Rattle.ds_image_tables.specs.Users.{users}
use Rattle.ds_check.specs.Uses.{uses_of}
use Rattle.ds_check.proofs.marking.listed_items.Given as goal

abbrev pub invariant-loop-item : goal.invariant-loop-item
invariant-loop-item l = l.used.items ≡ map (λ n. nat_lt 0 (length (users (uses_of l.geom l.parts l.fn.kind) n))) (range_with_len 0 l.item)
