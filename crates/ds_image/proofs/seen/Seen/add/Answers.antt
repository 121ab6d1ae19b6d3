-- One more sector of 512 bytes is seen.
use Rattle.std.proofs.Common.{rules, ◌<◌, length, arith}
use Rattle.ds_image_parts.specs.Looks.{IsBlock}
use Rattle.ds_image.specs.SeenValues.{SeenValue}
use Rattle.ds_image.proofs.Seeing.{seen_sector}
use Rattle.ds_image.proofs.seen.Seen.add.Goals as goal

pub invariant_of-self : goal.invariant_of-self
invariant_of-self c =
    let block : IsBlock c.args.sector.bytes = search rules in
    let before : SeenValue = record { locks = c.self.inside.locks.items; sectors = c.self.inside.sectors.items } in
    let room : length before.sectors < 256 = rw (← c.self.view_is) at c.requires in (
      rw c.push_reserved.ensures.items (seen_sector before c.args.at c.args.sector c.self.invariant.0 room block),
      c.self.invariant.1,
      omega (arith, c.push_reserved.ensures.capacity, c.self.invariant.2),
    )
