use Rattle.std.proofs.Common.{sym, ◌∙◌, subst}
use Rattle.std.specs.Prelude.{IsTrue, ◌↔◌}
use Rattle.std.proofs.lemmas.Bool.{false≢true}
use Rattle.std.proofs.lemmas.Result.{IfOk-weaker}
use Rattle.ds_image_parts.specs.Parts.{AllSpelled}
use Rattle.ds_image.specs.Sound.{IsSound}
use Rattle.ds_image.specs.SoundObjects.{IsMarked}
use Rattle.ds_image.proofs.Spelling.SoundParts.{short_rows, sound-from, objects-of, marked-of}
use Rattle.ds_image.proofs.soundness.is_sound.Goals as goal

pub returns-then-not-branch : goal.returns-then-not-branch
returns-then-not-branch _ c = (
  λ wrong. absurd (false≢true wrong),
  λ sound. absurd (false≢true (sym c.if-not-branch.true ∙ c.in_ok-are_sound_objects.ensures.1 (objects-of c.args.parts.now sound))),
)

pub is_marked-requires : goal.is_marked-requires
is_marked-requires _ c =
    short_rows c.requires.geom c.requires.look c.args.parts.now c.requires.is_geom c.requires.reads (c.are_maps_spelled.ensures.0 c.if-not-are_maps_spelled.false)

pub returns : goal.returns
returns _ c =
    let p = c.args.parts.now in
    IfOk-weaker c.is_marked.result (λ yes. IsTrue yes ↔ IsMarked p) (λ yes. IsTrue yes ↔ IsSound p)
    (λ yes exact. (
      λ y. sound-from p (subst (λ bodies. AllSpelled bodies) c.bodies.ensures (c.are_spelled.ensures.0 c.if-not-are_spelled.false))
          (c.are_maps_spelled.ensures.0 c.if-not-are_maps_spelled.false) (c.in_ok-are_sound_objects.ensures.0 c.if-not-branch.false) (exact.0 y),
      λ sound. exact.1 (marked-of p sound),
    ))
    c.is_marked.ensures
