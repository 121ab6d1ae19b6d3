-- The bitmap of one more cluster is written, where some of the items are in it.
use Rattle.std.proofs.Common.{◌≡◌, ℕ, ◌+◌, List, [], ◌∷◌, ◌++◌, length, sym, ap, ◌∙◌, arith}
use Rattle.ds_base.specs.declared.geometry.GeomField.TheVariants.{Clusters}
use Rattle.ds_bitmap.specs.Bits.{Bitmap}
use Rattle.ds_image_parts.specs.Pending.{Pair}
use Rattle.ds_jrnl.specs.declared.redo.Redo.{Redo}
use Rattle.ds_layout.specs.Places.{place_sector}
use Rattle.ds_layout.specs.declared.places.Place.TheVariants as places
use Rattle.ds_plan_base.specs.Giving.{given_up, map_sector}
use Rattle.ds_plan_base.proofs.Bitmaps.{err-handed}
use Rattle.ds_plan_base.proofs.GivingSteps.{written_from, give-err, give-more, give-skip, give-end, give-start}
use Rattle.ds_plan_base.proofs.giving.give_up.Goals as goal
use Rattle.ds_plan_base.proofs.giving.give_up.Goals.{then-is_touched+in_ok-left, else-is_touched}

pub loop-cluster-init : goal.loop-cluster-init
loop-cluster-init c = record {
  most = (c.requires.geom (Clusters c.args.kind)).1;
  few = omega arith;
  known = λ p reads. give-start c.args.geom.now c.args.seen.now p c.args.kind c.args.items.now c.args.listed c.args.redo (sym c.some_outside.ensures ∙ c.if-some_outside.false);
}

pub returns-in_err-left-clause-answer : goal.returns-in_err-left-clause-answer
returns-in_err-left-clause-answer c p reads =
    err-handed c.from_residual.result (given_up c.args.geom.now c.args.seen.now p c.args.kind c.args.items.now c.args.listed c.args.redo) c.in_err-left.field-0.0 c.from_residual.ensures.1
    (c.loop-cluster.invariant.known p reads
    ∙ give-err c.args.geom.now c.args.seen.now p c.args.kind c.args.items.now c.loop-cluster.written c.loop-cluster.cluster
    (omega (arith, c.loop-cluster-test.true, c.clusters-cluster-end.ensures)) c.in_err-left.field-0.0 (sym c.is_touched.ensures ∙ c.if-is_touched.true)
    (sym (c.map_left.ensures p reads) ∙ c.in_err-left.was))

pub loop-cluster-preserved : goal.loop-cluster-preserved
loop-cluster-preserved c =
    let items : Redo → List Pair = λ r. r.pairs.items in
    record {
      most = c.loop-cluster.invariant.most;
      few = elim c.if-is_touched.branch [
        | then-is_touched+in_ok-left w ↦ omega (arith, ap (λ (r : Redo). length r.pairs.items) w.written-is, w.push.ensures.len, c.loop-cluster.invariant.few)
        | else-is_touched w ↦ omega (arith, ap (λ (r : Redo). length r.pairs.items) w.written-is, c.loop-cluster.invariant.few)
      ];
      known = λ p reads. elim c.if-is_touched.branch [
        | then-is_touched+in_ok-left w ↦
            let g = c.args.geom.now in
            let m : ℕ × Bitmap = (c.loop-cluster.cluster, w.in_ok-left.left) in
            let pair : ◌≡◌ {A = Pair} (w.sector_of-at.result, w.encode.result) (map_sector g c.args.kind m) =
            ap (λ (at : ℕ). (at, w.encode.result)) w.sector_of-at.ensures
            ∙ ap (λ (bytes : List ℕ). (place_sector g (places.Bitmap c.args.kind c.loop-cluster.cluster), record { bytes = bytes })) w.encode.ensures in
            let more : c.if-is_touched.written.pairs.items ≡ c.loop-cluster.written.pairs.items ++ map_sector g c.args.kind m ∷ [] =
            ap items w.written-is ∙ w.push.ensures.items ∙ ap (λ (x : Pair). c.loop-cluster.written.pairs.items ++ x ∷ []) pair in
            c.loop-cluster.invariant.known p reads
            ∙ give-more g c.args.seen.now p c.args.kind c.args.items.now c.loop-cluster.written c.loop-cluster.cluster
            (omega (arith, c.loop-cluster-test.true, c.clusters-cluster-end.ensures)) w.in_ok-left.left c.if-is_touched.written (sym c.is_touched.ensures ∙ w.if-is_touched.true)
            (sym (w.map_left.ensures p reads) ∙ w.in_ok-left.was) more
        | else-is_touched w ↦
            c.loop-cluster.invariant.known p reads
            ∙ give-skip c.args.geom.now c.args.seen.now p c.args.kind c.args.items.now c.loop-cluster.written c.loop-cluster.cluster
            (omega (arith, c.loop-cluster-test.true, c.clusters-cluster-end.ensures)) (sym c.is_touched.ensures ∙ w.if-is_touched.false)
            ∙ ap (λ (r : Redo). written_from c.args.geom.now c.args.seen.now p c.args.kind c.args.items.now r (c.loop-cluster.cluster + 1)) (sym w.written-is)
      ];
    }

pub returns-clause-answer : goal.returns-clause-answer
returns-clause-answer c p reads =
    sym (c.loop-cluster.invariant.known p reads
    ∙ give-end c.args.geom.now c.args.seen.now p c.args.kind c.args.items.now c.loop-cluster.written c.loop-cluster.cluster
    (omega (arith, c.loop-cluster-test.false, c.clusters-cluster-end.ensures)))

pub returns-clause-few : goal.returns-clause-few
returns-clause-few c = omega (arith, c.loop-cluster.invariant.few, c.loop-cluster.invariant.most, c.loop-cluster.auto.cluster-end, c.clusters-cluster-end.ensures)
