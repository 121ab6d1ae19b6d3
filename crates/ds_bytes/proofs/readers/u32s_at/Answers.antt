use Rattle.std.proofs.Common.{◌+◌, ◌*◌, ◌++◌, ◌≡◌, ◌^◌, take, length, arith, ap, ◌∙◌}
use Rattle.std.proofs.lemmas.List.{take_all, take_more_set}
use Rattle.ds_bytes.specs.Fields.{littles, front}
use Rattle.ds_bytes.proofs.Fronts.{front_numbers, front_no_numbers, AllBelow-push}
use Rattle.ds_bytes.proofs.readers.u32s_at.Goals as goal

pub loop-i-init : goal.loop-i-init
loop-i-init c = record { read = front_no_numbers c.args.at c.args.bytes.now; below = λ i. omega arith }

pub loop-i-preserved : goal.loop-i-preserved
loop-i-preserved c = record {
  read = front_numbers c.args.at c.loop-i.i c.u32_at.result c.args.bytes.now c.loop-i.out (omega arith) c.loop-i.invariant.read c.u32_at.ensures;
  below = rw (take_more_set c.loop-i.out c.loop-i.i c.u32_at.result (omega arith)) (AllBelow-push (2 ^ 32) (take c.loop-i.i c.loop-i.out) c.u32_at.result c.loop-i.invariant.below (omega arith));
}

pub returns-clause-items : goal.returns-clause-items
returns-clause-items c =
    let all_read : length c.args.out.now ≡ c.loop-i.i = omega arith in
    ap (λ n. front (c.args.at + 4 * n) c.args.bytes.now) all_read ∙ c.loop-i.invariant.read
    ∙ ap (λ r. front c.args.at c.args.bytes.now ++ littles 4 r) (take_all c.loop-i.i c.loop-i.out (omega arith))

pub returns-clause-below : goal.returns-clause-below
returns-clause-below c = rw (take_all c.loop-i.i c.loop-i.out (omega arith)) at c.loop-i.invariant.below
