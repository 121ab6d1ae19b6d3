-- What is told of slots, in terms of the images that their sectors spell.
use Rattle.std.specs.Prelude.{◌≡◌, ℕ, ◌<◌, true, List, [], length}
use Rattle.ds_base.specs.declared.commands.Command.TheVariants.{Swap}
use Rattle.ds_base.specs.declared.geometry.Geom.{Geom}
use Rattle.ds_base.specs.declared.sectors.Sector.{Sector}
use Rattle.ds_bytes.specs.Fields.{AllBelow}
use Rattle.ds_layout.specs.Places.{place_sector}
use Rattle.ds_layout.specs.declared.places.Place.TheVariants as places
use Rattle.ds_marks.specs.Slot.{IsSlot, slot_bytes}
use Rattle.ds_marks.specs.declared.slot.Slot.{Slot}
use Rattle.ds_tree.specs.declared.scenarios.Scenario.{Scenario}
use Rattle.ds_log.specs.declared.logs.Event.{Event}
use Rattle.ds_log.specs.declared.logs.Step.{Step}
use Rattle.ds_log.specs.declared.logs.Step.TheVariants.{Sent}
use Rattle.ds_report.specs.Hosts.{host_name}
use Rattle.ds_report.specs.Slots.{turn_word, turn_line, slot_line}

-- 512 numbers below 256
pub record IsBlock (bytes : List ℕ) : Type 0 where
  pub size : length bytes ≡ 512
  pub below : AllBelow 256 bytes

-- the images of a Swap are sectors of bytes
abbrev pub AreBlocks : Step → Type 0
AreBlocks (Sent under (Swap at verify fresh) response landed took) = IsBlock verify.bytes × IsBlock fresh.bytes
AreBlocks _ = Unit {0}

abbrev pub Spells : ℕ → Slot → Sector → Type 0
Spells number s sector = IsSlot s × (sector.bytes ≡ slot_bytes number s)

-- a step is a Swap that took effect on the sector of this slot, from one image of it to another
abbrev pub IsTurn : Geom → Step → ℕ → Slot → Slot → Type 0
IsTurn g (Sent under (Swap at verify fresh) response landed true) slot before after =
    (slot < g.slots) × (at ≡ place_sector g (places.Slot slot)) × Spells slot before verify × Spells slot after fresh
IsTurn g _ slot before after = ⊥

-- what an event did to a slot is told by the word for both of its states, in the generation before; and nothing is told of any
-- other event
pub record TellsTurns (s : Scenario) (e : Event) : Type 0 where
  pub turned : AreBlocks e.step → (slot : ℕ) (before after : Slot) → IsTurn s.geom e.step slot before after
      → slot_line s e ≡ turn_line (host_name s e.host) slot before.generation (turn_word before.state after.state)
  pub none : AreBlocks e.step → ((slot : ℕ) (before after : Slot) → IsTurn s.geom e.step slot before after → ⊥) → slot_line s e ≡ []
