-- The numbers so far are written, and zeros stand behind them.
use Rattle.std.proofs.Common.{◌≡◌, ◌-◌, ◌++◌, take, replicate}
use Rattle.ds_plan_resize.proofs.pages.padded.Given as goal

abbrev pub invariant-loop-i : goal.invariant-loop-i
invariant-loop-i g l = l.list ≡ take l.i l.numbers ++ replicate (g.row.N - l.i) 0
