-- No room so far has the name.
use Rattle.std.proofs.Common.{◌≡◌, drop}
use Rattle.ds_plan_base.specs.Entries.{named_among}
use Rattle.ds_plan_base.proofs.entries.named_among.Given as goal

abbrev pub invariant-loop-room : goal.invariant-loop-room
invariant-loop-room l = named_among 0 l.name l.rooms ≡ named_among l.room l.name (drop l.room l.rooms)
