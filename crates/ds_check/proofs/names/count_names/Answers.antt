-- The names in one more directory are counted.
use Rattle.std.proofs.Common.{◌≡◌, ◌≤◌, ◌<◌, ◌+◌, ◌-◌, ◌^◌, ◌++◌, length, subst, ap, sym, ◌∙◌, arith}
use Rattle.std.proofs.lemmas.List.{length-append}
use Rattle.std.specs.List.{filter_map}
use Rattle.ds_base.specs.declared.geometry.Kind.TheVariants.{Fd}
use Rattle.ds_image_tables.specs.NameCounts.{CountsNames}
use Rattle.ds_layout.proofs.Bounds.{most_items_of}
use Rattle.ds_check.specs.Names.{named_in}
use Rattle.ds_check.specs.Entries.{rooms_at}
use Rattle.ds_check.proofs.NamedRooms.{named_below, named-more, kept-few}
use Rattle.ds_check.proofs.names.count_names.Goals as goal

pub loop-object-preserved : goal.loop-object-preserved
loop-object-preserved c =
    let p = c.args.parts.now in
    let n = c.loop-object.object in
    let names = named_in p in
    let rooms : c.deref.result.now ≡ rooms_at p n = c.deref.ensures.value ∙ c.in_ok-rooms.ensures.exact in
    let short : length c.deref.result.now ≤ 384 = omega (arith, c.in_ok-rooms.ensures.few, ap length c.deref.ensures.value) in
    let more : named_below p n ++ filter_map names c.deref.result.now ≡ named_below p (n + 1) =
    ap (λ r. named_below p n ++ filter_map names r) rooms ∙ sym (named-more p n) in
    let bound : length (named_below p n) + length c.deref.result.now < 2 ^ 64 - 1 =
    omega (arith, short, c.loop-object.invariant.few, c.loop-object-test.true, c.descriptor_count-count.ensures, most_items_of c.args.geom.now Fd c.requires) in
    record {
      count = c.count_rooms.ensures.count ∙ c.loop-object.invariant.count;
      few = omega (arith, ap length more, length-append (named_below p n) (filter_map names c.deref.result.now), kept-few names c.deref.result.now, short, c.loop-object.invariant.few);
      counted = subst (CountsNames c.count_rooms.new.counts) more (c.count_rooms.ensures.counted (named_below p n) bound c.loop-object.invariant.counted);
    }
