-- One cluster more was tried.
use Rattle.std.proofs.Common.{◌≡◌, ℕ, ◌+◌, ◌-◌, ◌<◌, ◌≤◌, [], length, sym, ap, subst, ◌∙◌, arith}
use Rattle.ds_base.specs.Geometry.{clusters_of}
use Rattle.ds_base.specs.declared.geometry.GeomField.TheVariants.{Clusters}
use Rattle.ds_image_tables.specs.Owned.{CanMark}
use Rattle.ds_image_parts.specs.Pending.{Pair}
use Rattle.ds_plan_base.proofs.Bitmaps.{err-handed}
use Rattle.ds_plan_resize.specs.Blocks.{AreItems}
use Rattle.ds_plan_resize.proofs.LowestItems.{lowest-can}
use Rattle.ds_plan_resize.specs.Taking.{items_from, items_wanted, lowest_clear, taken_of, taken_more}
use Rattle.ds_plan_resize.specs.declared.taking.Taken.{Taken}
use Rattle.ds_plan_resize.proofs.Clusters.{items-enough, items-none, items-err, items-more, more-maps, more-numbers, more-items}
use Rattle.ds_plan_resize.proofs.taking.items_wanted.Goals as goal

pub loop-tried-init : goal.loop-tried-init
loop-tried-init c =
    let g = c.args.geom.now in
    let n : ℕ = clusters_of g c.args.kind in
    let none : n - 0 ≡ n = omega arith in
    let start : Taken = record { numbers = c.new.result; maps = c.new-2.result } in
    let made : taken_of [] [] ≡ start = (λ i. record { numbers = record { items = (sym c.new.ensures) i }; maps = record { items = (sym c.new-2.ensures) i } }) in
    let no_numbers : length c.new.result.items ≡ 0 = ap (length {A = ℕ}) c.new.ensures in
    let no_maps : length c.new-2.result.items ≡ 0 = ap (length {A = Pair}) c.new-2.ensures in
    record {
      known = λ p reads.
          ap (λ (t : Taken). items_from g c.args.slot c.args.seen.now p c.args.kind c.args.count t 0 n) made
          ∙ ap (λ k. items_from g c.args.slot c.args.seen.now p c.args.kind c.args.count start 0 k) (sym none);
      few = omega (arith, no_numbers);
      items = λ i l. absurd (omega (arith, l, no_numbers));
      maps = omega (arith, no_maps);
    }

pub returns-then-len-count-clause-answer : goal.returns-then-len-count-clause-answer
returns-then-len-count-clause-answer c p reads =
    let enough : c.args.count ≤ length c.loop-tried.taken.numbers.items = omega (arith, c.if-len-count.true, c.len.ensures.value) in
    sym (c.loop-tried.invariant.known p reads
    ∙ items-enough c.args.geom.now c.args.slot c.args.seen.now p c.args.kind c.args.count c.loop-tried.taken c.loop-tried.tried
    (clusters_of c.args.geom.now c.args.kind - c.loop-tried.tried) enough)

pub returns-then-len-count-clause-taken : goal.returns-then-len-count-clause-taken
returns-then-len-count-clause-taken c = record {
  many = omega (arith, c.loop-tried.invariant.few, c.if-len-count.true, c.len.ensures.value);
  items = c.loop-tried.invariant.items;
  few_maps = omega (arith, c.loop-tried.invariant.maps, c.loop-tried-test.true, c.clusters-tried-end.ensures, (c.requires.geom (Clusters c.args.kind)).1);
}

pub returns-in_err-map-clause-answer : goal.returns-in_err-map-clause-answer
returns-in_err-map-clause-answer c p reads =
    let g = c.args.geom.now in
    let few : length c.loop-tried.taken.numbers.items < c.args.count = omega (arith, c.if-len-count.false, c.len.ensures.value) in
    let inside : c.loop-tried.tried < clusters_of g c.args.kind = omega (arith, c.loop-tried-test.true, c.clusters-tried-end.ensures) in
    err-handed c.from_residual.result (items_wanted g c.args.slot c.args.seen.now p c.args.kind c.args.count) c.in_err-map.field-0.0 c.from_residual.ensures.1
    (c.loop-tried.invariant.known p reads
    ∙ items-err g c.args.slot c.args.seen.now p c.args.kind c.args.count c.loop-tried.taken c.loop-tried.tried c.cluster_tried-cluster.result few inside
    c.cluster_tried-cluster.ensures.exact c.in_err-map.field-0.0 (sym (c.map_seen.ensures.answer p reads) ∙ c.in_err-map.was))

pub taken_more-taken-requires-clause-can : goal.taken_more-taken-requires-clause-can
taken_more-taken-requires-clause-can c =
    subst (CanMark c.in_ok-map.map.used) (sym (c.deref.ensures.0 ∙ c.lowest_clear-items.ensures.items))
    (lowest-can (c.args.count - c.len-in-loop-tried.result) c.in_ok-map.map.used)

pub taken_more-taken-requires-clause-room_for_map : goal.taken_more-taken-requires-clause-room_for_map
taken_more-taken-requires-clause-room_for_map c =
    omega (arith, c.loop-tried.invariant.maps, c.loop-tried-test.true, c.clusters-tried-end.ensures, (c.requires.geom (Clusters c.args.kind)).1)

pub loop-tried-preserved : goal.loop-tried-preserved
loop-tried-preserved c =
    let g = c.args.geom.now in
    let kind = c.args.kind in
    let count = c.args.count in
    let cluster = c.cluster_tried-cluster.result in
    let map = c.in_ok-map.map in
    let taken = c.loop-tried.taken in
    let items = c.deref.result.now in
    let few : length taken.numbers.items < count = omega (arith, c.if-len-count.false, c.len.ensures.value) in
    let inside : c.loop-tried.tried < clusters_of g kind = omega (arith, c.loop-tried-test.true, c.clusters-tried-end.ensures) in
    let are : items ≡ lowest_clear (count - length taken.numbers.items) map.used =
    c.deref.ensures.0 ∙ c.lowest_clear-items.ensures.items ∙ ap (λ n. lowest_clear (count - n) map.used) c.len-in-loop-tried.ensures.value in
    let made : c.taken_more-taken.result ≡ taken_more g kind cluster map (lowest_clear (count - length taken.numbers.items) map.used) taken =
    c.taken_more-taken.ensures ∙ ap (λ l. taken_more g kind cluster map l taken) are in
    record {
      known = λ p reads.
          c.loop-tried.invariant.known p reads
          ∙ items-more g c.args.slot c.args.seen.now p kind count taken c.loop-tried.tried cluster few inside c.cluster_tried-cluster.ensures.exact map
          (sym (c.map_seen.ensures.answer p reads) ∙ c.in_ok-map.was)
          ∙ ap (λ (t : Taken). items_from g c.args.slot c.args.seen.now p kind count t (c.loop-tried.tried + 1) (clusters_of g kind - (c.loop-tried.tried + 1))) (sym made);
      few = omega (
        arith,
        ap (λ (t : Taken). length t.numbers.items) c.taken_more-taken.ensures,
        more-numbers g kind cluster map items taken,
        ap (length {A = ℕ}) c.deref.ensures.0,
        c.lowest_clear-items.ensures.few,
        c.len-in-loop-tried.ensures.value,
        few,
      );
      items = subst (λ (t : Taken). AreItems g kind t.numbers.items) (sym c.taken_more-taken.ensures)
          (more-items g kind cluster map items taken c.cluster_tried-cluster.ensures.within c.in_ok-map.ensures.is_bits.count
          (subst (CanMark map.used) (sym are) (lowest-can (count - length taken.numbers.items) map.used)) c.loop-tried.invariant.items);
      maps = omega (
        arith,
        ap (λ (t : Taken). length t.maps.items) c.taken_more-taken.ensures,
        more-maps g kind cluster map items taken,
        c.loop-tried.invariant.maps,
      );
    }

pub returns-then-len-count-2-clause-taken : goal.returns-then-len-count-2-clause-taken
returns-then-len-count-2-clause-taken c = record {
  many = omega (arith, c.loop-tried.invariant.few, c.if-len-count-2.true, c.len-2.ensures.value);
  items = c.loop-tried.invariant.items;
  few_maps = omega (arith, c.loop-tried.invariant.maps, c.loop-tried.auto.tried-end, c.clusters-tried-end.ensures, (c.requires.geom (Clusters c.args.kind)).1);
}

pub returns-clause-answer : goal.returns-clause-answer
returns-clause-answer c p reads =
    let few : length c.loop-tried.taken.numbers.items < c.args.count = omega (arith, c.if-len-count-2.false, c.len-2.ensures.value) in
    let all : clusters_of c.args.geom.now c.args.kind ≤ c.loop-tried.tried = omega (arith, c.loop-tried-test.false, c.clusters-tried-end.ensures) in
    sym (c.loop-tried.invariant.known p reads
    ∙ items-none c.args.geom.now c.args.slot c.args.seen.now p c.args.kind c.args.count c.loop-tried.taken c.loop-tried.tried few all)
