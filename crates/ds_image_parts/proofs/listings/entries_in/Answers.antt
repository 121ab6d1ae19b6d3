-- The entries of one more sub-block are behind the others.
use Rattle.std.proofs.Common.{◌++◌, take, ap, sym, ◌∙◌}
use Rattle.std.specs.List.{filter_map}
use Rattle.ds_image_parts.specs.Objects.{rooms_in, used_rooms}
use Rattle.ds_image_parts.proofs.Ownership.ListedItems.{used_rooms-more}
use Rattle.ds_image_parts.proofs.listings.entries_in.Goals as goal

pub loop-number-preserved : goal.loop-number-preserved
loop-number-preserved _ c =
    let before = used_rooms c.args.parts.now (take c.loop-number.number-index c.args.subs.now) in
    let more = used_rooms-more c.args.parts.now c.args.subs.now c.loop-number.number-index c.loop-number-test.true in
    c.in_ok-push_entries.ensures ∙ ap (λ entries. entries ++ filter_map (λ room. room) c.rooms_in.result.now) c.loop-number.invariant
    ∙ ap (λ rooms. before ++ filter_map (λ room. room) rooms) c.rooms_in.ensures
    ∙ ap (λ block. before ++ filter_map (λ room. room) (rooms_in block)) c.sub-block.ensures ∙ sym more
