-- The images that a break writes are slots.
use Rattle.std.proofs.Common.{◌≢◌, ◌^◌, ◌≤◌, refl, arith}
use Rattle.ds_base.specs.declared.geometry.GeomField.TheVariants.{Slots}
use Rattle.ds_break.specs.Breaking.{Break, IsBreak, broken}
use Rattle.ds_marks.specs.Slot.{InRanges, IsOfState}
use Rattle.ds_marks.specs.declared.slot.Slot.{Slot}
use Rattle.ds_marks.specs.declared.slot.SlotState.{SlotState}
use Rattle.ds_marks.specs.declared.slot.SlotState.TheVariants.{Free, Live, Breaking}

-- a slot that isn't free has a stamp
has_stamp : (state : SlotState) (s : Slot) → state ≢ Free → IsOfState state s → (1 ≤ s.stamp) × (s.stamp ≤ 2 ^ 62)
has_stamp Free s taken is = absurd (taken refl)
has_stamp Live s taken is = is
has_stamp (Breaking by generation) s taken is = is.0

pub broken-is : (b : Break) → IsBreak b → InRanges (broken b.own b.image)
broken-is b is =
    let few : b.geom.slots ≤ 16 = (is.is_geom Slots).1 in
    record {
      generation_from = is.is_image.ranges.generation_from;
      generation_to = is.is_image.ranges.generation_to;
      is_of_state = (
        has_stamp b.image.state b.image is.lost is.is_image.ranges.is_of_state,
        (
          omega (arith, is.own_within, few),
          is.is_owner.0,
          is.is_owner.1,
        ),
      );
      is_of_journal = is.is_image.ranges.is_of_journal;
    }
