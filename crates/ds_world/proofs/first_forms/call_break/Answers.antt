use Rattle.std.proofs.Common.{◌≡◌, ◌+◌, ◌≤◌, take, count_by, inl, inr, arith}
use Rattle.ds_tree.specs.FirstForm.{is_create}
use Rattle.ds_world.proofs.FirstForms.{built_more, created_more, whole_list, more_breaks}
use Rattle.ds_world.proofs.first_forms.call_break.Goals as goal
use Rattle.ds_world.proofs.first_forms.call_break.Goals.{then-creates-gt4-via-then-creates-gt4, then-creates-gt4-via-else-creates-gt4+then-not-is_root_call}

pub loop-i-preserved : goal.loop-i-preserved
loop-i-preserved c =
    let calls = c.args.calls.now in
    let kept = c.loop-i.invariant in
    record {
      counted = created_more calls c.loop-i.i c.index-calls-i.result c.loop-i.creates c.creates_of-creates.result c.loop-i-test.true c.index-calls-i.is kept.counted c.creates_of-creates.ensures;
      few = c.if-creates-gt4.false;
      built = built_more calls c.loop-i.i c.index-calls-i.result c.loop-i-test.true c.index-calls-i.is kept.built (c.is_root_call.ensures.0 c.if-not-is_root_call.false);
    }

pub returns-then-creates-gt4 : goal.returns-then-creates-gt4
returns-then-creates-gt4 c =
    let calls = c.args.calls.now in
    let kept = c.loop-i.invariant in
    let d = c.index-calls-i.result in
    let few : count_by is_create (take c.loop-i.i calls) ≤ 4 = omega (arith, kept.counted, kept.few) in
    let more : c.loop-i.creates + c.creates_of-creates.result ≡ count_by is_create (take (c.loop-i.i + 1) calls) =
    created_more calls c.loop-i.i d c.loop-i.creates c.creates_of-creates.result c.loop-i-test.true c.index-calls-i.is kept.counted c.creates_of-creates.ensures in
    more_breaks calls c.loop-i.i d c.loop-i-test.true c.index-calls-i.is kept.built few c.requires (elim c.then-creates-gt4.branch [
      | then-creates-gt4-via-then-creates-gt4 w ↦ inr (omega (arith, more, w.if-creates-gt4.true))
      | then-creates-gt4-via-else-creates-gt4+then-not-is_root_call w ↦ inl (λ is. absurd (cc (w.if-not-is_root_call.ensures.1 is)))
    ])

pub returns : goal.returns
returns c =
    let kept = c.loop-i.invariant in
    let few : count_by is_create (take c.loop-i.i c.args.calls.now) ≤ 4 = omega (arith, kept.counted, kept.few) in
    whole_list c.args.calls.now c.loop-i.i c.loop-i-test.false kept.built few c.requires
