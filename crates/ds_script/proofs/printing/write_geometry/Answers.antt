use Rattle.std.proofs.Common.{[], ◌∷◌, codes, decimal}
use Rattle.std.proofs.lemmas.Result.{on_ok_weaker}
use Rattle.ds_base.specs.declared.geometry.Kind.TheVariants.{Fd, Sb, Pb, Fb}
use Rattle.ds_tree.specs.Grammar.{kind_part}
use Rattle.ds_script.proofs.PrintedParts.{five_behind}
use Rattle.ds_script.proofs.printing.write_geometry.Goals as goal

pub returns : goal.returns
returns c =
    let g = c.args.geom.now in
    on_ok_weaker c.write_kind-4.result
    (λ last. five_behind c.args.text.now c.write_sizes.new.text c.write_kind.new.text c.write_kind-2.new.text c.write_kind-3.new.text c.write_kind-4.new.text
    (codes "slots" ∷ decimal g.slots ∷ codes "block" ∷ decimal g.block ∷ [])
    (codes "fd" ∷ kind_part g Fd) (codes "sb" ∷ kind_part g Sb) (codes "pb" ∷ kind_part g Pb) (codes "fb" ∷ kind_part g Fb)
    c.in_ok-write_sizes.ensures c.in_ok-write_kind.ensures c.in_ok-write_kind-2.ensures c.in_ok-write_kind-3.ensures last)
    c.write_kind-4.ensures
