-- The findings of one more address are noted; behind the last nothing is found.
use Rattle.std.proofs.Common.{◌≡◌, ◌+◌, ◌++◌, ◌/◌, ◌%◌, min, length, drop, ap, ◌∙◌, arith}
use Rattle.ds_check.specs.Addresses.{address_at, past_last, most_addresses}
use Rattle.ds_check.specs.AddressSteps.{pointer_block, is_bad_number}
use Rattle.ds_check.specs.Rows.{find_if, row}
use Rattle.ds_check.specs.declared.findings.Find.TheVariants.{Address}
use Rattle.ds_check.proofs.LastAddresses.{all_addresses}
use Rattle.ds_check.proofs.PointedNumbers.{past_rest, bad_number, same_block}
use Rattle.ds_check.proofs.Rows.{row_step}
use Rattle.ds_check.proofs.addresses.note_body.Goals as goal

pub loop-index-preserved : goal.loop-index-preserved
loop-index-preserved c =
    let g = c.args.geom.now in
    let p = c.args.parts.now in
    let b = c.args.body.now in
    let i = c.loop-index.index in
    let past : c.rest-past.result.now ≡ past_last p b =
    past_rest p b c.pointer_block-last.result c.rest-past.result.now c.pointer_block-last.ensures (c.rest-past.ensures ∙ ap (λ xs. drop (b.count % 128) xs) c.addresses_in.ensures) in
    let one : c.note_address.new.report ≡ c.loop-index.report ++ address_at g p c.args.object b i =
    c.in_ok-note_address.ensures
    ∙ ap (λ block. c.loop-index.report ++ find_if (is_bad_number g b b.kind block c.rest-past.result.now i) (Address c.args.object i)) c.next_block-block.ensures
    ∙ ap (λ xs. c.loop-index.report ++ find_if (is_bad_number g b b.kind (pointer_block p b (i / 128)) xs i) (Address c.args.object i)) past
    ∙ ap (λ bad. c.loop-index.report ++ find_if bad (Address c.args.object i)) (bad_number g p b b.kind i) in
    record {
      noted = row_step c.args.report.now c.loop-index.report c.note_address.new.report (address_at g p c.args.object b) i c.loop-index.invariant.noted one;
      block = λ inner. same_block p b i c.next_block-block.result c.next_block-block.ensures inner;
    }

pub returns : goal.returns
returns c =
    let p = c.args.parts.now in
    let b = c.args.body.now in
    let each = address_at c.args.geom.now p c.args.object b in
    let past : c.rest-past.result.now ≡ past_last p b =
    past_rest p b c.pointer_block-last.result c.rest-past.result.now c.pointer_block-last.ensures (c.rest-past.ensures ∙ ap (λ xs. drop (b.count % 128) xs) c.addresses_in.ensures) in
    let end : c.loop-index.index ≡ c.address_end-index-end.result = omega arith in
    c.loop-index.invariant.noted
    ∙ ap (λ n. c.args.report.now ++ row n each) (end ∙ c.address_end-index-end.ensures ∙ ap (λ xs. min (b.count + length xs) most_addresses) past)
    ∙ ap (λ xs. c.args.report.now ++ xs) (all_addresses c.args.geom.now p c.args.object b)
