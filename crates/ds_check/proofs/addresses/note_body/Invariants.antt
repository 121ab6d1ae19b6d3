-- The findings of the addresses so far are noted, and the pointer block of the last is kept.
use Rattle.std.proofs.Common.{◌≡◌, ◌++◌, ◌<◌, ◌/◌, ◌%◌}
use Rattle.ds_check.specs.Addresses.{address_at}
use Rattle.ds_check.specs.AddressSteps.{pointer_block}
use Rattle.ds_check.specs.Rows.{row}
use Rattle.ds_check.proofs.addresses.note_body.Given as goal

abbrev pub invariant-loop-index : goal.invariant-loop-index
invariant-loop-index l = record {
  noted : l.report ≡ l.initial.report ++ row l.index (address_at l.geom l.parts l.object l.body);
  block : 0 < l.index % 128 → l.block ≡ pointer_block l.parts l.body (l.index / 128);
}
