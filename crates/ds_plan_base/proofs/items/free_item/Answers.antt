-- One more cluster is known, and has a free item or none.
use Rattle.std.proofs.Common.{sym, ◌∙◌, arith}
use Rattle.ds_plan_base.proofs.Bitmaps.{err-handed, free-err, free-some, free-more, first_clear-free}
use Rattle.ds_plan_base.specs.Items.{free_item}
use Rattle.ds_plan_base.proofs.items.free_item.Goals as goal

pub returns-in_err-map-clause-answer : goal.returns-in_err-map-clause-answer
returns-in_err-map-clause-answer c p reads =
    err-handed c.from_residual.result (free_item c.args.geom.now c.args.slot c.args.seen.now p c.args.kind) c.in_err-map.field-0.0 c.from_residual.ensures.1
    (c.loop-tried.invariant p reads
    ∙ free-err c.args.geom.now c.args.slot c.args.seen.now p c.args.kind c.loop-tried.tried c.cluster_tried-cluster.result
    (omega (arith, c.loop-tried-test.true, c.clusters-tried-end.ensures)) c.cluster_tried-cluster.ensures.exact c.in_err-map.field-0.0
    (sym (c.map_seen.ensures.answer p reads) ∙ c.in_err-map.was))

pub returns-in-Some-clause-answer : goal.returns-in-Some-clause-answer
returns-in-Some-clause-answer c p reads =
    sym (c.loop-tried.invariant p reads
    ∙ free-some c.args.geom.now c.args.slot c.args.seen.now p c.args.kind c.loop-tried.tried c.cluster_tried-cluster.result
    (omega (arith, c.loop-tried-test.true, c.clusters-tried-end.ensures)) c.cluster_tried-cluster.ensures.exact c.in_ok-map.map c.in-Some.item
    (sym (c.map_seen.ensures.answer p reads) ∙ c.in_ok-map.was) (sym c.first_free.ensures ∙ c.in-Some.is))

pub returns-in-Some-clause-is_free : goal.returns-in-Some-clause-is_free
returns-in-Some-clause-is_free c = record {
  cluster = c.cluster_tried-cluster.ensures.within;
  is_bits = c.in_ok-map.ensures.is_bits;
  is_free = first_clear-free c.in_ok-map.map.used c.in-Some.item (sym c.first_free.ensures ∙ c.in-Some.is);
}

pub loop-tried-preserved : goal.loop-tried-preserved
loop-tried-preserved c p reads =
    c.loop-tried.invariant p reads
    ∙ free-more c.args.geom.now c.args.slot c.args.seen.now p c.args.kind c.loop-tried.tried c.cluster_tried-cluster.result
    (omega (arith, c.loop-tried-test.true, c.clusters-tried-end.ensures)) c.cluster_tried-cluster.ensures.exact c.in_ok-map.map
    (sym (c.map_seen.ensures.answer p reads) ∙ c.in_ok-map.was) (sym c.first_free.ensures ∙ c.in_default.is)
