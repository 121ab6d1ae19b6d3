use Rattle.std.proofs.Common.{◌≡◌, ◌≤◌, take, count_by}
use Rattle.std.specs.List.{AllByRecursion}
use Rattle.ds_tree.specs.FirstForm.{IsFirstDirective, is_create}
use Rattle.ds_world.proofs.first_forms.call_break.Given as goal

-- the directives so far don't break the form
abbrev pub invariant-loop-i : goal.invariant-loop-i
invariant-loop-i l = record {
  counted : l.creates ≡ count_by is_create (take l.i l.calls);
  few : l.creates ≤ 4;
  built : AllByRecursion IsFirstDirective (take l.i l.calls);
}
