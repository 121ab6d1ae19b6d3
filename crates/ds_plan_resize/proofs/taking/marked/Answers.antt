-- The next item is clear, and is marked.
use Rattle.std.proofs.Common.{◌+◌, true, drop, sym, ap, subst, ◌∙◌, slice_get, arith}
use Rattle.std.specs.Prelude.{slice_index}
use Rattle.std.proofs.lemmas.Option.{slice_get_within, slice_get-get_or}
use Rattle.ds_image_tables.specs.Owned.{CanMark, with_marks}
use Rattle.ds_plan_resize.proofs.LowestItems.{can-next, drop-step}
use Rattle.ds_plan_resize.proofs.taking.marked.Goals as goal

pub overflow_cast-item : goal.overflow_cast-item
overflow_cast-item c =
    let items = c.args.items.now in
    let i = c.loop-item.item-index in
    let at = slice_get-get_or items i 0 c.loop-item-test.true in
    omega (arith, slice_get_within c.args.map.used (slice_index items i) _ (c.requires.can.clear i (slice_index items i) at), c.requires.small)

pub take-requires : goal.take-requires
take-requires c =
    let items = c.args.items.now in
    let i = c.loop-item.item-index in
    c.loop-item.invariant.can.clear 0 (slice_index items i) (ap (λ l. slice_get l 0) (drop-step items i c.loop-item-test.true))

pub loop-item-preserved : goal.loop-item-preserved
loop-item-preserved c =
    let items = c.args.items.now in
    let i = c.loop-item.item-index in
    let was = c.loop-item.marked in
    let step = drop-step items i c.loop-item-test.true in
    record {
      used = ap (λ u. with_marks u (drop (i + 1) items) true) c.take.ensures.taken ∙ sym (ap (λ l. with_marks was.used l true) step) ∙ c.loop-item.invariant.used;
      can = subst (λ u. CanMark u (drop (i + 1) items)) (sym c.take.ensures.taken)
          (can-next was.used (slice_index items i) (drop (i + 1) items) (subst (CanMark was.used) step c.loop-item.invariant.can));
      same_kind = c.take.ensures.kind ∙ c.loop-item.invariant.same_kind;
      same_cluster = c.take.ensures.cluster ∙ c.loop-item.invariant.same_cluster;
    }
