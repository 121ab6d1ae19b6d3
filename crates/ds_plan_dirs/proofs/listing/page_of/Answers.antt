-- One more sub-block is known, and its entries are in the page.
use Rattle.std.proofs.Common.{length, length-append, take, sym, ap, ◌∙◌, arith, refl}
use Rattle.std.specs.List.{filter_map}
use Rattle.ds_image_parts.specs.Objects.{used_rooms}
use Rattle.ds_plan_dirs.specs.Pages.{page_names}
use Rattle.ds_plan_dirs.proofs.PageSteps.{empty_page, known_more, entries_more, page_whole}
use Rattle.ds_plan_dirs.proofs.listing.page_of.Goals as goal

pub loop-number-init : goal.loop-number-init
loop-number-init c = record {
  most = omega arith;
  known = λ p reads. refl;
  total = λ p reads. refl;
  names = λ p reads. rw c.new-names.ensures (empty_page c.args.after.now);
}

pub loop-number-preserved : goal.loop-number-preserved
loop-number-preserved c =
    let g = c.args.geom.now in
    let seen = c.args.seen.now in
    let subs = c.args.subs.now in
    let i = c.loop-number.number-index in
    let entries = filter_map (λ room. room) c.in_ok-block.block.rooms in
    record {
      most = omega (arith, c.add_rooms-total.ensures.most, c.loop-number.invariant.most);
      known = λ p reads.
          c.loop-number.invariant.known p reads
          ∙ known_more g seen p c.args.dir.now subs i c.loop-number-test.true c.in_ok-block.block (sym (c.sub_block.ensures.answer p reads) ∙ c.in_ok-block.was);
      total = λ p reads.
          let more = entries_more g seen p c.args.dir.now subs i c.loop-number-test.true c.in_ok-block.block (sym (c.sub_block.ensures.answer p reads) ∙ c.in_ok-block.was) in
          omega (arith, c.loop-number.invariant.total p reads, c.add_rooms-total.ensures.count, ap length more ∙ length-append (used_rooms p (take i subs)) entries);
      names = λ p reads.
          let more = entries_more g seen p c.args.dir.now subs i c.loop-number-test.true c.in_ok-block.block (sym (c.sub_block.ensures.answer p reads) ∙ c.in_ok-block.was) in
          c.add_rooms-total.ensures.names (used_rooms p (take i subs)) (c.loop-number.invariant.names p reads) ∙ ap (page_names c.args.after.now) (sym more);
    }

pub returns : goal.returns
returns c p reads =
    page_whole c.args.geom.now c.args.seen.now p c.args.dir.now c.args.subs.now c.loop-number.number-index c.args.after.now c.loop-number.total c.loop-number.names.items
    c.loop-number-test.false (c.loop-number.invariant.known p reads) (c.loop-number.invariant.total p reads) (c.loop-number.invariant.names p reads)
