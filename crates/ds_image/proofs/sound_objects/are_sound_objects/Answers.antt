use Rattle.std.proofs.Common.{refl, subst, length, ◌≤◌}
use Rattle.ds_image_parts.specs.Parts.{part_at}
use Rattle.ds_image.specs.SoundObjects.{IsSoundObject}
use Rattle.ds_image.proofs.Spelling.ObjectSound.{all-sound}
use Rattle.ds_image.proofs.sound_objects.are_sound_objects.Goals as goal

pub returns : goal.returns
returns _ c =
    let p = c.args.parts.now in
    let all = all-sound p c.loop-body.body-index (subst (λ bodies. length bodies ≤ c.loop-body.body-index) c.bodies-bodies.ensures c.loop-body-test.false)
    (λ o below. subst (λ bodies. IsSoundObject p (part_at bodies o)) c.bodies-bodies.ensures (c.loop-body.invariant o below)) in
    (λ _. all, λ _. refl)
