-- The pair stands in its place.
use Rattle.std.proofs.Common.{◌≡◌, ◌≤◌, true, false, length, sym, ap, ◌∙◌, slice_get, arith, lit<}
use Rattle.std.specs.Prelude.{insert, remove}
use Rattle.ds_plan_resize.specs.Ordered.{is_for, place_from}
use Rattle.ds_plan_resize.proofs.Ordering.{put-same, put-other, place-within}
use Rattle.ds_plan_resize.proofs.pages.put_in.Goals as goal

pub returns-then-is_for-clause-put : goal.returns-then-is_for-clause-put
returns-then-is_for-clause-put c =
    let pair = c.args.pair in
    let pairs = c.args.pairs.now.items in
    let place = c.first_from-place.result in
    let here : place ≡ place_from 0 pair.0 pairs = c.first_from-place.ensures ∙ ap (place_from 0 pair.0) c.as_slice.ensures.value in
    let there : is_for pair.0 (slice_get pairs (place_from 0 pair.0 pairs)) ≡ true =
    ap (λ n. is_for pair.0 (slice_get pairs n)) (sym here) ∙ ap (λ l. is_for pair.0 (slice_get l place)) (sym c.as_slice-2.ensures.value)
    ∙ sym c.is_for.ensures ∙ c.if-is_for.true in
    c.insert.ensures.items ∙ ap (λ l. insert l place pair) c.remove.ensures.items ∙ ap (λ n. insert (remove pairs n) n pair) here ∙ put-same pair pairs there

pub insert-requires-2 : goal.insert-requires-2
insert-requires-2 c =
    let pair = c.args.pair in
    let pairs = c.args.pairs.now.items in
    let here : c.first_from-place.result ≡ place_from 0 pair.0 pairs = c.first_from-place.ensures ∙ ap (place_from 0 pair.0) c.as_slice.ensures.value in
    let within : c.first_from-place.result ≤ length pairs = omega (arith, here, place-within pair.0 pairs) in
    (lit< tt, (within, c.requires))

pub returns-clause-put : goal.returns-clause-put
returns-clause-put c =
    let pair = c.args.pair in
    let pairs = c.args.pairs.now.items in
    let place = c.first_from-place.result in
    let here : place ≡ place_from 0 pair.0 pairs = c.first_from-place.ensures ∙ ap (place_from 0 pair.0) c.as_slice.ensures.value in
    let other : is_for pair.0 (slice_get pairs (place_from 0 pair.0 pairs)) ≡ false =
    ap (λ n. is_for pair.0 (slice_get pairs n)) (sym here) ∙ ap (λ l. is_for pair.0 (slice_get l place)) (sym c.as_slice-2.ensures.value)
    ∙ sym c.is_for.ensures ∙ c.if-is_for.false in
    c.insert-2.ensures.items ∙ ap (λ n. insert pairs n pair) here ∙ put-other pair pairs other
