-- What is told of a slot is what the images of its Swap spell.
use Rattle.std.proofs.Common.{◌≡◌, ℕ, ◌-◌, ◌<◌, ◌≤◌, Bool, true, false, cond, ◌&&◌, List, [], Option, Some, None, refl, arith}
use Rattle.std.specs.Prelude.{◌==◌, nat_lt}
use Rattle.std.proofs.lemmas.Bool.Decides.{nat_tests}
use Rattle.ds_base.specs.declared.commands.Command.TheVariants.{Swap}
use Rattle.ds_base.specs.declared.geometry.Geom.{Geom}
use Rattle.ds_base.specs.declared.geometry.GeomField.TheVariants.{Slots}
use Rattle.ds_base.specs.declared.sectors.Sector.{Sector}
use Rattle.ds_base.specs.Geometry.{IsGeom}
use Rattle.ds_layout.specs.Places.{place_sector}
use Rattle.ds_layout.specs.declared.places.Place.TheVariants as places
use Rattle.ds_marks.specs.declared.slot.Slot.{Slot}
use Rattle.ds_tree.specs.declared.scenarios.Scenario.{Scenario}
use Rattle.ds_log.specs.declared.logs.Event.{Event}
use Rattle.ds_log.specs.declared.logs.Step.{Step}
use Rattle.ds_log.specs.declared.logs.Step.TheVariants.{Sent}
use Rattle.ds_marks.specs.SlotIn.{slot_in}
use Rattle.ds_report.specs.Hosts.{host_name}
use Rattle.ds_report.specs.Slots.{slot_at, turn_word, turn_line, turned_line, swap_line, step_line}
use Rattle.ds_report.specs.Turns.{IsBlock, AreBlocks, Spells, IsTurn, TellsTurns}
use Rattle.ds_marks.proofs.SlotIn.{slot_in-IsDecoded}

slot_at-there : (g : Geom) (at slot : ℕ) → slot < g.slots → at ≡ place_sector g (places.Slot slot) → slot_at g at ≡ Some slot
slot_at-there g at slot within there =
    let same : at - 2 ≡ slot = omega (arith, there) in
    let few : nat_lt (at - 2) g.slots ≡ true = grind (arith, nat_tests) in
    let here : (place_sector g (places.Slot (at - 2)) == at) ≡ true = grind (arith, nat_tests) in
    rw (few, here, same) refl

-- the place that a test found
found_at : (g : Geom) (at slot : ℕ) (few here : Bool) → nat_lt (at - 2) g.slots ≡ few → (place_sector g (places.Slot (at - 2)) == at) ≡ here
    → cond (few && here) (Some (at - 2)) None ≡ Some slot → (slot < g.slots) × (at ≡ place_sector g (places.Slot slot))
found_at g at slot true true p q e =
    let same : at - 2 ≡ slot = cc in
    (grind (arith, nat_tests), grind (arith, nat_tests))
found_at g at slot true false p q e = absurd (cc)
found_at g at slot false here p q e = absurd (cc)

slot_at-is : (g : Geom) (at slot : ℕ) → slot_at g at ≡ Some slot → (slot < g.slots) × (at ≡ place_sector g (places.Slot slot))
slot_at-is g at slot e = found_at g at slot (nat_lt (at - 2) g.slots) (place_sector g (places.Slot (at - 2)) == at) refl refl e

few_slots : (g : Geom) (slot : ℕ) → IsGeom g → slot < g.slots → slot < 256
few_slots g slot geom within =
    let most : g.slots ≤ 16 = (geom Slots).1 in
    omega arith

turned_told : (s : Scenario) (host : ℕ) (step : Step) (slot : ℕ) (before after : Slot) → IsGeom s.geom → AreBlocks step → IsTurn s.geom step slot before after
    → step_line s host step ≡ turn_line (host_name s host) slot before.generation (turn_word before.state after.state)
turned_told s host (Sent under (Swap at verify fresh) response landed true) slot before after geom blocks turn =
    let small = few_slots s.geom slot geom turn.0 in
    let there : slot_at s.geom at ≡ Some slot = slot_at-there s.geom at slot turn.0 turn.1 in
    let was : slot_in slot verify.bytes ≡ Some before = (slot_in-IsDecoded slot verify.bytes small blocks.0.size blocks.0.below before).1 turn.2 in
    let is : slot_in slot fresh.bytes ≡ Some after = (slot_in-IsDecoded slot fresh.bytes small blocks.1.size blocks.1.below after).1 turn.3 in
    rw (there, was, is) refl
turned_told s host _ slot before after geom blocks turn = absurd turn

-- nothing is told where the two images don't both spell slots
none_in : (host : List ℕ) (slot : ℕ) (verify fresh : Sector) (was is : Option Slot) → slot < 256 → IsBlock verify.bytes → IsBlock fresh.bytes
    → slot_in slot verify.bytes ≡ was → slot_in slot fresh.bytes ≡ is → ((before after : Slot) → Spells slot before verify → Spells slot after fresh → ⊥)
    → turned_line host slot was is ≡ []
none_in host slot verify fresh None is small v f p q never = refl
none_in host slot verify fresh (Some before) None small v f p q never = refl
none_in host slot verify fresh (Some before) (Some after) small v f p q never =
    absurd (never before after ((slot_in-IsDecoded slot verify.bytes small v.size v.below before).0 p) ((slot_in-IsDecoded slot fresh.bytes small f.size f.below after).0 q))

none_at : (g : Geom) (host : List ℕ) (at : ℕ) (verify fresh : Sector) (found : Option ℕ) → IsGeom g → IsBlock verify.bytes → IsBlock fresh.bytes → slot_at g at ≡ found
    → ((slot : ℕ) (before after : Slot) → slot < g.slots → at ≡ place_sector g (places.Slot slot) → Spells slot before verify → Spells slot after fresh → ⊥)
    → swap_line host found verify fresh ≡ []
none_at g host at verify fresh None geom v f e never = refl
none_at g host at verify fresh (Some slot) geom v f e never =
    let place = slot_at-is g at slot e in
    none_in host slot verify fresh (slot_in slot verify.bytes) (slot_in slot fresh.bytes) (few_slots g slot geom place.0) v f refl refl
    (λ before after. never slot before after place.0 place.1)

none_told : (s : Scenario) (host : ℕ) (step : Step) → IsGeom s.geom → AreBlocks step → ((slot : ℕ) (before after : Slot) → IsTurn s.geom step slot before after → ⊥)
    → step_line s host step ≡ []
none_told s host (Sent under (Swap at verify fresh) response landed true) geom blocks never =
    none_at s.geom (host_name s host) at verify fresh (slot_at s.geom at) geom blocks.0 blocks.1 refl
    (λ slot before after within there was is. never slot before after (within, there, was, is))
none_told s host _ geom blocks never = refl

pub turns_told : (s : Scenario) → IsGeom s.geom → (e : Event) → TellsTurns s e
turns_told s geom e = record {
  turned = λ blocks slot before after turn. turned_told s e.host e.step slot before after geom blocks turn;
  none = λ blocks never. none_told s e.host e.step geom blocks never;
}
