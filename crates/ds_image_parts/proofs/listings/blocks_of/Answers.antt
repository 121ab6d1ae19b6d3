-- The blocks of a large file are the first in its pointer blocks.
use Rattle.std.proofs.Common.{◌≡◌, Some, take, ap, ◌∙◌, rules, arith}
use Rattle.ds_base.specs.declared.names.NodeKind.TheVariants as kinds
use Rattle.std.specs.List.{flat_map}
use Rattle.ds_image_parts.specs.Objects.{addresses_in, ptrs_of}
use Rattle.ds_image_parts.specs.Parts.{part_at}
use Rattle.ds_image_parts.proofs.Ownership.ListedItems.{blocks-pointed}
use Rattle.ds_image_parts.proofs.listings.blocks_of.Goals as goal

pub returns : goal.returns
returns _ c =
    let p = c.args.parts.now in
    let it = c.in-Some.it in
    let kind : it.kind ≡ Some kinds.File = search rules in
    let read : c.in_ok-blocks.blocks.items ≡ flat_map (λ n. addresses_in (part_at p.ptrs n)) (ptrs_of c.args.body.now) =
    c.in_ok-blocks.ensures ∙ ap (flat_map (λ n. addresses_in (part_at p.ptrs n))) c.ptrs_of.ensures in
    c.truncate.ensures.items ∙ ap (take it.count) read ∙ blocks-pointed p c.args.body.now it c.in-Some.is kind (omega arith)
