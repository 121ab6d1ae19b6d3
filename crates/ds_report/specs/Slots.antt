-- What a Swap tells of a slot.
use Rattle.std.specs.Prelude.{ℕ, ◌-◌, ◌&&◌, ◌==◌, true, nat_lt, if◌then◌else◌, List, [], ◌++◌, codes, Option, Some, None}
use Rattle.ds_base.specs.declared.commands.Command.TheVariants.{Swap}
use Rattle.ds_base.specs.declared.geometry.Geom.{Geom}
use Rattle.ds_base.specs.declared.sectors.Sector.{Sector}
use Rattle.ds_layout.specs.Places.{place_sector}
use Rattle.ds_layout.specs.declared.places.Place.TheVariants as places
use Rattle.ds_marks.specs.declared.slot.Slot.{Slot}
use Rattle.ds_marks.specs.declared.slot.SlotState.{SlotState}
use Rattle.ds_marks.specs.declared.slot.SlotState.TheVariants.{Free, Live, Breaking}
use Rattle.ds_tree.specs.declared.scenarios.Scenario.{Scenario}
use Rattle.ds_text.specs.Lines.{line}
use Rattle.ds_log.specs.declared.logs.Event.{Event}
use Rattle.ds_log.specs.declared.logs.Step.{Step}
use Rattle.ds_log.specs.declared.logs.Step.TheVariants.{Sent}
use Rattle.ds_marks.specs.SlotIn.{slot_in}
use Rattle.ds_report.specs.Answers.{pair_text}
use Rattle.ds_report.specs.Hosts.{host_name}

-- the slot whose sector this is, if it is a slot's
abbrev pub slot_at : Geom → ℕ → Option ℕ
slot_at g at = if nat_lt (at - 2) g.slots && (place_sector g (places.Slot (at - 2)) == at) then Some (at - 2) else None

-- the word for what became of a slot, if there is one: its live host is broken, its breaker's place is taken, or it is freed
abbrev pub turn_word : SlotState → SlotState → Option (List ℕ)
turn_word Live (Breaking by generation) = Some (codes "breaks")
turn_word (Breaking by generation) (Breaking by' generation') = Some (codes "seizes")
turn_word (Breaking by generation) Free = Some (codes "frees")
turn_word _ _ = None

-- what a host did to a slot in a generation
abbrev pub turn_line : List ℕ → ℕ → ℕ → Option (List ℕ) → List ℕ
turn_line host slot generation None = []
turn_line host slot generation (Some word) = line (host ++ codes " " ++ word ++ codes " " ++ pair_text slot generation)

-- what is told of a slot that was this before and is that after, in the generation before
abbrev pub turned_line : List ℕ → ℕ → Option Slot → Option Slot → List ℕ
turned_line host slot (Some before) (Some after) = turn_line host slot before.generation (turn_word before.state after.state)
turned_line host slot _ _ = []

-- what is told of a Swap of these sectors, if they are a slot's
abbrev pub swap_line : List ℕ → Option ℕ → Sector → Sector → List ℕ
swap_line host None verify fresh = []
swap_line host (Some slot) verify fresh = turned_line host slot (slot_in slot verify.bytes) (slot_in slot fresh.bytes)

-- what is told of a step: a Swap that took effect
abbrev pub step_line : Scenario → ℕ → Step → List ℕ
step_line s host (Sent under (Swap at verify fresh) response landed true) = swap_line (host_name s host) (slot_at s.geom at) verify fresh
step_line s host _ = []

abbrev pub slot_line : Scenario → Event → List ℕ
slot_line s e = step_line s e.host e.step
