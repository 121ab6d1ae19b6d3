-- The breakers of slots, which end the first stage.
use Rattle.std.specs.Prelude.{ℕ, Bool, false, not, nat_lt, List, [], Option, Some, None}
use Rattle.ds_base.specs.declared.geometry.Geom.{Geom}
use Rattle.ds_marks.specs.declared.slot.Slot.{Slot}
use Rattle.ds_marks.specs.declared.slot.SlotState.{SlotState}
use Rattle.ds_marks.specs.declared.slot.SlotState.TheVariants.{Breaking}
use Rattle.ds_image_parts.specs.Parts.{part_at}
use Rattle.ds_check.specs.declared.findings.Find.{Find}
use Rattle.ds_check.specs.declared.findings.Find.TheVariants.{SlotBreaker}
use Rattle.ds_check.specs.Controls.{Controls}
use Rattle.ds_check.specs.Rows.{find_if, row}

-- whether a slot's breaker is a slot that isn't there
abbrev pub has_no_breaker : ℕ → SlotState → Bool
has_no_breaker slots (Breaking by generation) = not (nat_lt by slots)
has_no_breaker slots _ = false

abbrev pub breaker_finds : ℕ → ℕ → Option Slot → List Find
breaker_finds slots number None = []
breaker_finds slots number (Some s) = find_if (has_no_breaker slots s.state) (SlotBreaker number)

abbrev pub slot_breaker : Geom → Controls → ℕ → List Find
slot_breaker g c n = breaker_finds g.slots n (part_at c.slots n)

-- the slots whose breaker isn't there, by rising number
abbrev pub misbroken : Geom → Controls → List Find
misbroken g c = row g.slots (slot_breaker g c)
