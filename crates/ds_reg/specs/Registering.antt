-- What a run has sent and heard when it ends so: its exchanges, the newest first.
use Rattle.std.specs.Prelude.{◌≡◌, ◌≢◌, ℕ, ◌+◌, ◌<◌, List, [], ◌∷◌, ◌++◌, replicate, Some, None}
use Rattle.std.specs.List.{Contains}
use Rattle.ds_base.specs.Exchanges.{Exchange, IsLast, missed_at, seen_of}
use Rattle.ds_base.specs.declared.commands.Command.TheVariants.{Read, Swap}
use Rattle.ds_base.specs.declared.commands.Response.{Response}
use Rattle.ds_base.specs.declared.commands.Response.TheVariants.{Got, Done, Miscompare, Fault}
use Rattle.ds_base.specs.declared.geometry.Geom.{Geom}
use Rattle.ds_base.specs.declared.sectors.Sector.{Sector}
use Rattle.ds_layout.specs.Places.{place_sector}
use Rattle.ds_layout.specs.declared.places.Place.TheVariants as places
use Rattle.ds_marks.specs.Slot.{slot_bytes}
use Rattle.ds_marks.specs.SlotIn.{slot_in}
use Rattle.ds_marks.specs.declared.slot.Journal.TheVariants.{Idle}
use Rattle.ds_marks.specs.declared.slot.Slot.{Slot}
use Rattle.ds_marks.specs.declared.slot.SlotState.TheVariants.{Free, Live}
use Rattle.ds_reg.specs.declared.calls.RegCall.{RegCall}
use Rattle.ds_reg.specs.declared.calls.RegCall.TheVariants as calls
use Rattle.ds_reg.specs.declared.calls.RegEnd.{RegEnd}
use Rattle.ds_reg.specs.declared.calls.RegEnd.TheVariants as ends

abbrev pub slot_sector : Geom → ℕ → ℕ
slot_sector g slot = place_sector g (places.Slot slot)

-- a free slot that a host enters: in the same generation, with its id, stamp 1 and an idle journal
abbrev pub entered_from : List ℕ → Slot → Slot
entered_from host found = record { state = Live; generation = found.generation; host = host; stamp = 1; journal = Idle }

-- the own slot with the next stamp
abbrev pub beaten_from : Slot → Slot
beaten_from image = record {
  state = image.state;
  generation = image.generation;
  host = image.host;
  stamp = image.stamp + 1;
  journal = image.journal;
}

-- the own slot left: free, in the next generation
abbrev pub left_from : Slot → Slot
left_from image = record { state = Free; generation = image.generation + 1; host = replicate 16 0; stamp = 0; journal = Idle }

-- the slot was shown, and wasn't free when it was shown last
pub record IsPassed (g : Geom) (xs : List Exchange) (slot : ℕ) : Type 0 where
  pub sector : Sector
  pub last : IsLast (seen_of xs) (slot_sector g slot) sector
  pub image : Slot
  pub spelled : slot_in slot sector.bytes ≡ Some image
  pub taken : image.state ≢ Free

-- what was shown last of the slot is free, and becomes live for the host
pub record Enters (g : Geom) (host : List ℕ) (xs : List Exchange) (slot : ℕ) (verify fresh : Sector) : Type 0 where
  pub within : slot < g.slots
  pub last : IsLast (seen_of xs) (slot_sector g slot) verify
  pub old : Slot
  pub was : slot_in slot verify.bytes ≡ Some old
  pub free : old.state ≡ Free
  pub is : fresh.bytes ≡ slot_bytes slot (entered_from host old)

-- the newest exchange entered the slot
pub record Entered (g : Geom) (host : List ℕ) (xs : List Exchange) (slot generation : ℕ) : Type 0 where
  pub verify : Sector
  pub fresh : Sector
  pub tick : ℕ
  pub earlier : List Exchange
  pub newest : xs ≡ record { command = Swap (slot_sector g slot) verify fresh; response = Done; tick = tick } ∷ earlier
  pub enters : Enters g host earlier slot verify fresh
  pub same_generation : generation ≡ enters.old.generation

-- a Swap of the slot that verified what was shown there last found another image in place
pub record Missed (g : Geom) (xs : List Exchange) (slot : ℕ) : Type 0 where
  pub later : List Exchange
  pub verify : Sector
  pub fresh : Sector
  pub offset : ℕ
  pub tick : ℕ
  pub earlier : List Exchange
  pub parts : xs ≡ later ++ record { command = Swap (slot_sector g slot) verify fresh; response = Miscompare offset; tick = tick } ∷ earlier
  pub last : IsLast (seen_of earlier) (slot_sector g slot) verify

-- this is the second such Swap, and what it verified was shown after the first
pub record MissedTwice (g : Geom) (xs : List Exchange) (slot : ℕ) : Type 0 where
  pub second : Missed g xs slot
  pub newest : second.later ≡ []
  pub first : Missed g second.earlier slot
  pub again : Contains (seen_of first.later) (slot_sector g slot, second.verify)
  pub two : missed_at (slot_sector g slot) xs ≡ 2

-- the newest exchange read a slot, and its sector spells none
pub record IsDamaged (g : Geom) (xs : List Exchange) (at : ℕ) : Type 0 where
  pub slot : ℕ
  pub within : slot < g.slots
  pub here : at ≡ slot_sector g slot
  pub sector : Sector
  pub tick : ℕ
  pub earlier : List Exchange
  pub newest : xs ≡ record { command = Read at; response = Got sector; tick = tick } ∷ earlier
  pub none : slot_in slot sector.bytes ≡ None

-- the newest exchange is a Swap of the own slot from one image to another
pub record SwapsOwn (g : Geom) (xs : List Exchange) (slot : ℕ) (old new : Slot) (response : Response) : Type 0 where
  pub verify : Sector
  pub fresh : Sector
  pub tick : ℕ
  pub newest : xs ≡ record { command = Swap (slot_sector g slot) verify fresh; response = response; tick = tick } ∷ []
  pub was : verify.bytes ≡ slot_bytes slot old
  pub is : fresh.bytes ≡ slot_bytes slot new

-- the newest exchange failed
pub record HasFaulted (xs : List Exchange) : Type 0 where
  pub newest : Exchange
  pub earlier : List Exchange
  pub parts : xs ≡ newest ∷ earlier
  pub failed : newest.response ≡ Fault

-- how each call may end, and what was sent and heard then
abbrev pub Told : Geom → List ℕ → RegCall → List Exchange → RegEnd → Type 0
Told g host calls.Enter xs (ends.Registered slot generation) = Entered g host xs slot generation
Told g host calls.Enter xs ends.NoSlot = (slot : ℕ) → slot < g.slots → IsPassed g xs slot
Told g host calls.Enter xs (ends.Raced slot) = MissedTwice g xs slot
Told g host calls.Enter xs (ends.Damaged sector) = IsDamaged g xs sector
Told g host (calls.Beat slot image) xs ends.Beaten = SwapsOwn g xs slot image (beaten_from image) Done
Told g host (calls.Beat slot image) xs (ends.Fenced offset) = SwapsOwn g xs slot image (beaten_from image) (Miscompare offset)
Told g host (calls.Leave slot image) xs ends.Left = SwapsOwn g xs slot image (left_from image) Done
Told g host (calls.Leave slot image) xs (ends.Fenced offset) = SwapsOwn g xs slot image (left_from image) (Miscompare offset)
Told g host call xs ends.Faulted = HasFaulted xs
Told g host call xs end = ⊥
