-- The sectors of a device after the events of a log.
use Rattle.std.specs.Prelude.{ℕ, ◌+◌, ◌==◌, ◌&&◌, ◌||◌, Bool, false, List, [], ◌∷◌, count_by, Option, Some, None, if◌then◌else◌}
use Rattle.ds_base.specs.declared.sectors.Sector.{Sector}
use Rattle.ds_base.specs.declared.commands.Command.TheVariants.{Swap}
use Rattle.ds_base.specs.Device.{stored}
use Rattle.ds_marks.specs.SlotIn.{slot_in}
use Rattle.ds_conduct.specs.Marks.{has_committed, has_idle}
use Rattle.ds_log.specs.declared.logs.Step.{Step}
use Rattle.ds_log.specs.declared.logs.Step.TheVariants.{Local, Sent}
use Rattle.ds_log.specs.declared.logs.Event.{Event}

abbrev pub after_step : List Sector → Step → List Sector
after_step sectors Local = sectors
after_step sectors (Sent under command response landed took) = if landed then stored sectors command else sectors

-- the sectors after the landed commands of these events
abbrev pub store : List Sector → List Event → List Sector
store sectors [] = sectors
store sectors (e ∷ events) = store (after_step sectors e.step) events

-- whether a Swap at this sector is one of the host's own slot, and from an idle journal to a committed transaction
abbrev pub commits_at : Option (ℕ × ℕ) → ℕ → Sector → Sector → Bool
commits_at None at verify fresh = false
commits_at (Some own) at verify fresh =
    (at == 2 + own.0) && has_idle (slot_in own.0 verify.bytes) && has_committed (slot_in own.0 fresh.bytes)

-- whether a step is told as a commit: a Swap that took effect, of sector 0, which is all of the first world's device and is
-- never swapped in a whole volume, or of the slot under which it is sent, from an idle journal to a committed transaction
abbrev pub is_change : Step → Bool
is_change (Sent under (Swap at verify fresh) response landed took) = took && (at == 0 || commits_at under at verify fresh)
is_change _ = false

-- how many events are told as commits
abbrev pub change_count : List Event → ℕ
change_count events = count_by (λ e. is_change e.step) events
