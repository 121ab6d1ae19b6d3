use Rattle.std.proofs.Common.{◌≡◌, length, min, ap, subst, sym, ◌∙◌}
use Rattle.ds_image.specs.Sound.{AreZero}
use Rattle.ds_image.specs.SoundObjects.{count_in}
use Rattle.ds_image.proofs.Spelling.ObjectSound.{rest-from_min}
use Rattle.ds_image.proofs.sound_objects.is_tail_zero.Goals as goal
use Rattle.ds_image.proofs.sound_objects.is_tail_zero.Goals.{in-Some, in-None}

pub returns : goal.returns
returns c =
    let count : c.match-body.count ≡ count_in c.args.body.now = elim c.match-body.branch [ in-Some w ↦ w.count-is ∙ sym (ap count_in w.in-Some.is) | in-None w ↦ w.count-is ∙ sym (ap count_in w.in-None.is) ] in
    let rest = rest-from_min c.args.pointed.now c.min.result (count_in c.args.body.now) (c.min.ensures ∙ ap (λ n. min n (length c.args.pointed.now)) count) in
    (λ yes. subst AreZero rest (c.are_zero.ensures.0 yes), λ zero. c.are_zero.ensures.1 (subst AreZero (sym rest) zero))
