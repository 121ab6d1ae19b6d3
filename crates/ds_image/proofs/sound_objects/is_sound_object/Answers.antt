use Rattle.std.proofs.Common.{◌≡◌, drop, ◌∙◌, sym, ap, subst}
use Rattle.std.specs.Prelude.{IsSome, IsTrue, All, ◌↔◌}
use Rattle.std.specs.List.{flat_map}
use Rattle.std.proofs.lemmas.Bool.{false≢true}
use Rattle.std.proofs.lemmas.Result.{IfOk-weaker}
use Rattle.ds_image_parts.specs.Objects.{addresses_in, subs_of, ptrs_of, tail_of, used_rooms}
use Rattle.ds_image_parts.specs.Parts.{part_at}
use Rattle.ds_image.specs.Sound.{IsNamedRight, AreZero}
use Rattle.ds_image.specs.SoundObjects.{AreNamesApart, count_in, IsSoundObject}
use Rattle.ds_image.proofs.Spelling.ObjectSound.{tail-is}
use Rattle.ds_image.proofs.sound_objects.is_sound_object.Goals as goal

pub returns-then-not-is_tail_zero : goal.returns-then-not-is_tail_zero
returns-then-not-is_tail_zero _ c =
    let p = c.args.parts.now in
    let body = c.args.body.now in
    let pointed : c.deref.result.now ≡ flat_map (λ n. addresses_in (part_at p.ptrs n)) (ptrs_of body) =
    c.deref.ensures.value ∙ c.in_ok-pointed.ensures ∙ ap (flat_map (λ n. addresses_in (part_at p.ptrs n))) c.ptrs_of-ptrs.ensures in
    let tail : drop (count_in body) c.deref.result.now ≡ tail_of p body = ap (drop (count_in body)) pointed ∙ sym (tail-is p body) in
    (λ wrong. absurd (false≢true wrong), λ sound. absurd (false≢true (sym c.if-not-is_tail_zero.true ∙ c.is_tail_zero.ensures.1 (subst AreZero (sym tail) sound.tails))))

pub returns : goal.returns
returns _ c =
    let p = c.args.parts.now in
    let body = c.args.body.now in
    let pointed : c.deref.result.now ≡ flat_map (λ n. addresses_in (part_at p.ptrs n)) (ptrs_of body) =
    c.deref.ensures.value ∙ c.in_ok-pointed.ensures ∙ ap (flat_map (λ n. addresses_in (part_at p.ptrs n))) c.ptrs_of-ptrs.ensures in
    let tail : drop (count_in body) c.deref.result.now ≡ tail_of p body = ap (drop (count_in body)) pointed ∙ sym (tail-is p body) in
    let entries : c.in_ok-entries.entries.items ≡ used_rooms p (subs_of body) = c.in_ok-entries.ensures ∙ ap (used_rooms p) c.subs_of-subs.ensures.exact in
    IfOk-weaker c.are_names_apart.result (λ yes. IsTrue yes ↔ AreNamesApart c.deref-3.result.now) (λ yes. IsTrue yes ↔ IsSoundObject p body) (λ yes exact. (
      λ y. record {
        subs = subst (All (λ n. IsSome (part_at p.subs n))) c.subs_of-subs.ensures.exact
            (c.are_subs_spelled.ensures.0 c.if-not-are_subs_spelled.false);
        ptrs = subst (All (λ n. IsSome (part_at p.ptrs n))) c.ptrs_of-ptrs.ensures
            (c.are_ptrs_spelled.ensures.0 c.if-not-are_ptrs_spelled.false);
        names = subst AreNamesApart (c.deref-3.ensures.value ∙ entries) (exact.0 y);
        entries = subst (All (IsNamedRight p)) (c.deref-2.ensures.value ∙ entries) (c.are_named_right.ensures.0 c.if-not-are_named_right.false);
        tails = subst AreZero tail (c.is_tail_zero.ensures.0 c.if-not-is_tail_zero.false);
      },
      λ sound. exact.1 (subst AreNamesApart (sym (c.deref-3.ensures.value ∙ entries)) sound.names),
    )) c.are_names_apart.ensures
