use Rattle.std.proofs.Common.{◌≡◌, ◌*◌, ◌∙◌, ◌≤◌, ◌+◌, ◌++◌, ap, List, ℕ, min, length, take, drop, arith}
use Rattle.std.proofs.lemmas.List.{length-take}
use Rattle.std.specs.List.{slice_range}
use Rattle.ds_tree.proofs.Blocks.{page-cut, on_ok}
use Rattle.ds_tree.proofs.tables.Table.page_of.Goals as goal

pub returns : goal.returns
returns c =
    let xs : List ℕ = c.blocks-blocks.result.now in
    let from : ℕ = 128 * c.args.page in
    let part : List ℕ = slice_range xs c.min-from.result c.min-end.result in
    let is : part ≡ take 128 (drop from xs) =
    ap (λ n. slice_range xs c.min-from.result n) c.min-end.ensures
    ∙ ap (λ n. slice_range xs n (min (length xs) (n + 128))) c.min-from.ensures ∙ page-cut xs from in
    let len : length part ≡ min 128 (length (drop from xs)) = ap length is ∙ length-take 128 (drop from xs) in
    let empty : length c.new-list.result.items ≡ 0 = ap length c.new-list.ensures in
    let fits : length c.new-list.result.items + length part ≤ 128 = omega (arith, len, empty) in
    on_ok c.try_extend_from_slice.result (c.try_extend_from_slice.ensures.variant.1 fits) c.try_extend_from_slice.ensures.ok
    ∙ ap (λ ys. ys ++ part) c.new-list.ensures ∙ is ∙ ap (λ bs. take 128 (drop from bs)) c.blocks-blocks.ensures
