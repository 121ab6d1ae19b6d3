-- The descriptors so far are sound.
use Rattle.std.proofs.Common.{ℕ, ◌<◌}
use Rattle.ds_image_parts.specs.Parts.{part_at}
use Rattle.ds_image.specs.SoundObjects.{IsSoundObject}
use Rattle.ds_image.proofs.sound_objects.are_sound_objects.Given as goal

abbrev pub invariant-loop-body : goal.invariant-loop-body
invariant-loop-body _ l = (o : ℕ) → o < l.body-index → IsSoundObject l.parts (part_at l.bodies o)
