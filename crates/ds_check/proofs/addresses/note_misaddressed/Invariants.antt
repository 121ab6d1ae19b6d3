-- The findings of the numbers so far are noted.
use Rattle.std.proofs.Common.{◌≡◌, ◌++◌}
use Rattle.ds_image_parts.specs.Parts.{part_at}
use Rattle.ds_check.specs.Addresses.{address_finds}
use Rattle.ds_check.specs.Rows.{row}
use Rattle.ds_check.proofs.addresses.note_misaddressed.Given as goal

abbrev pub invariant-loop-object : goal.invariant-loop-object
invariant-loop-object l = l.report ≡ l.initial.report ++ row l.object (λ o. address_finds l.geom l.parts o (part_at l.parts.bodies o))
