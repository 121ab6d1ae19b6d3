use Rattle.std.proofs.Common.{◌≡◌, ◌-◌, ◌∷◌, true, Some, length, replicate, subst, sym, ap, ◌∙◌, arith}
use Rattle.std.specs.Prelude.{is_ok}
use Rattle.std.specs.FinMap as maps
use Rattle.ds_tree.specs.Nodes.{Dir, unborn, Object}
use Rattle.ds_tree.specs.WellFormed.{IsTree}
use Rattle.ds_tree.proofs.FreshTree.{fresh-is_tree}
use Rattle.ds_tree.proofs.GeometryBounds.{items_of-positive, length-first_and_rest, push-first_and_rest}
use Rattle.ds_base.specs.declared.geometry.Kind.TheVariants as kinds
use Rattle.ds_base.specs.Geometry.{items_of}
use Rattle.ds_tree.proofs.tables.Table.fresh.Goals as goal

abbrev root : Object
root = record { birth = 1; node = Some (Dir maps.empty 0) }

pub loop-number-preserved : goal.loop-number-preserved
loop-number-preserved c =
    let ok : is_ok c.push-in-loop-number.result ≡ true = ap is_ok c.in_ok-push-2.was in
    rw (c.push-in-loop-number.ensures.items, ok, c.loop-number.invariant, c.free.ensures) (push-first_and_rest c.loop-number.number root unborn c.loop-number.auto.number)

pub invariant_of-result : goal.invariant_of-result
invariant_of-result c =
    let one = items_of-positive c.args.geom.now kinds.Fd c.requires in
    let end : c.loop-number.number ≡ items_of c.args.geom.now kinds.Fd = omega (arith, c.items-count.ensures) in
    ap length c.loop-number.invariant ∙ length-first_and_rest c.loop-number.number root unborn c.loop-number.auto.number ∙ end

pub returns-clause-tree : goal.returns-clause-tree
returns-clause-tree c =
    let one = items_of-positive c.args.geom.now kinds.Fd c.requires in
    let end : c.loop-number.number ≡ items_of c.args.geom.now kinds.Fd = omega (arith, c.items-count.ensures) in
    λ i. record { objects = (c.loop-number.invariant ∙ ap (λ n. root ∷ replicate (n - 1) unborn) end) i }

pub returns-clause-rules : goal.returns-clause-rules
returns-clause-rules c = subst (IsTree c.args.geom.now) (sym (returns-clause-tree c)) (fresh-is_tree c.args.geom.now c.requires)
