use Rattle.std.proofs.Common.{◌≡◌, map, take}
use Rattle.ds_image_parts.specs.Objects.{is_used}
use Rattle.ds_image.proofs.soundness.used_of.Given as goal

abbrev pub invariant-loop-body : goal.invariant-loop-body
invariant-loop-body l = l.used.items ≡ map is_used (take l.body-index l.bodies)
