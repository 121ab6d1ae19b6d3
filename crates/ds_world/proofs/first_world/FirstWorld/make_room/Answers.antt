use Rattle.std.proofs.Common.{refl, sym}
use Rattle.ds_world.proofs.FirstSteps.{FirstHolds-as}
use Rattle.ds_world.proofs.first_world.FirstWorld.make_room.Goals as goal

pub invariant_of-self : goal.invariant_of-self
invariant_of-self c =
    FirstHolds-as _ _ refl refl refl (sym c.make_room.ensures.sectors) refl refl refl c.self.invariant

pub invariant_of-self-2 : goal.invariant_of-self-2
invariant_of-self-2 c =
    FirstHolds-as _ _ refl refl refl (sym c.make_room.ensures.sectors) refl (sym c.make_room-2.ensures.events) (sym c.make_room-2.ensures.replies) c.self.invariant
