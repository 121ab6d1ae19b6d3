use Rattle.std.proofs.Common.{◌≡◌, ℕ, ◌<◌, true, slice_get, Some}
use Rattle.ds_bitmap.proofs.searching.first_free.Given as goal

abbrev pub invariant-loop-item : goal.invariant-loop-item
invariant-loop-item l = (before : ℕ) → before < l.item → slice_get l.used before ≡ Some true
