-- A file that shrinks is known, and can be written.
use Rattle.std.proofs.Common.{◌≡◌, ◌≤◌, ◌%◌, ◌^◌, length, drop, sym, ap, subst, ◌∙◌, arith}
use Rattle.ds_base.specs.declared.geometry.Kind.TheVariants.{Pb, Fb}
use Rattle.ds_bytes.specs.Fields.{AllBelow}
use Rattle.ds_image_parts.specs.Pending.{Pair}
use Rattle.ds_plan_base.specs.Giving.{given_up}
use Rattle.ds_plan_resize.specs.Blocks.{pointers_from}
use Rattle.ds_plan_resize.specs.Writable.{IsWritable}
use Rattle.ds_plan_resize.specs.declared.resized.Resized.{Resized}
use Rattle.ds_plan_resize.proofs.KnownSizes.{behind, shrunk-is}
use Rattle.ds_plan_resize.proofs.ShrunkFacts.{shrunk-writable}
use Rattle.ds_plan_resize.proofs.shrinking.shrink_known.Goals as goal
use Rattle.ds_tree.specs.Counts.{pointer_blocks}

pub returns-clause-answer : goal.returns-clause-answer
returns-clause-answer c p reads =
    let g = c.args.geom.now in
    let seen = c.args.seen.now in
    let b = c.args.body.now in
    let size = c.args.size in
    let old = c.in_ok-old.old in
    let pointers : c.pointers_from-pointers.result.now ≡ pointers_from b (pointer_blocks size) =
    c.pointers_from-pointers.ensures ∙ ap (pointers_from b) c.pointer_blocks.ensures in
    let given = behind (size % 128) c.as_slice.result.now ∙ ap (drop (size % 128)) c.as_slice.ensures.value in
    shrunk-is g seen p b size old c.in_ok-pointer_maps.pointer_maps c.in_ok-maps.maps c.shrunk.result
    (sym (c.blocks_seen.ensures.answer p reads) ∙ c.in_ok-old.was)
    (sym (λ i. given_up g seen p Pb (pointers i) (c.sector_of-listed.ensures i) (record { pairs = record { items = c.new.ensures i } }))
    ∙ sym (c.give_up.ensures.answer p reads) ∙ c.in_ok-pointer_maps.was)
    (sym (λ i. given_up g seen p Fb (given i) (c.sector_of-listed.ensures i) c.in_ok-pointer_maps.pointer_maps)
    ∙ sym (c.give_up-2.ensures.answer p reads) ∙ c.in_ok-maps.was)
    c.shrunk.ensures.shrunk

pub returns-clause-writable : goal.returns-clause-writable
returns-clause-writable c =
    let g = c.args.geom.now in
    let few : length c.in_ok-maps.maps.pairs.items ≤ 16 = omega (arith, c.in_ok-maps.ensures.few, c.in_ok-pointer_maps.ensures.few, ap (length {A = Pair}) c.new.ensures) in
    subst (IsWritable g) (sym c.shrunk.ensures.shrunk)
    (shrunk-writable g c.args.size c.args.body.now c.in_ok-old.old c.in_ok-maps.maps c.requires.can c.requires.shrinks
    c.in_ok-old.ensures.count c.in_ok-old.ensures.inside few
    (subst (λ (r : Resized). AllBelow (2 ^ 32) r.body.addresses) c.shrunk.ensures.shrunk c.shrunk.ensures.fits))
