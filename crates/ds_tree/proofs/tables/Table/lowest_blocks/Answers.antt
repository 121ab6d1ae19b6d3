use Rattle.std.proofs.Common.{◌≡◌, ◌<◌, ℕ, Bool, true, sym, ap, ◌∙◌, nat_eq, arith, List, Vec, Global, length}
use Rattle.std.specs.Prelude.{not, is_ok}
use Rattle.std.specs.List.{list_any}
use Rattle.ds_base.specs.declared.geometry.Kind.TheVariants as kinds
use Rattle.ds_base.specs.Geometry.{items_of}
use Rattle.ds_tree.specs.Nodes.{all_blocks}
use Rattle.ds_tree.proofs.Blocks.{take-next, skip-next, enough, tested}
use Rattle.ds_tree.proofs.tables.Table.lowest_blocks.Goals as goal
use Rattle.ds_tree.proofs.tables.Table.lowest_blocks.Goals.{then-len-count+then-not-index+in_ok-push, else-len-count, else-len-count-via-then-len-count+else-not-index, else-len-count-via-else-len-count}

pub loop-block-preserved : goal.loop-block-preserved
loop-block-preserved c =
    let p : ℕ → Bool = λ b. not (list_any (nat_eq b) (all_blocks c.args.self.now.tree)) in
    let block : ℕ = c.loop-block.block in
    let free : List ℕ = c.loop-block.free.items in
    let used : List Bool = c.in_ok-used.used.items in
    let has : Bool = list_any (nat_eq block) (all_blocks c.args.self.now.tree) in
    let within : block < items_of c.args.self.now.geom kinds.Fb = omega (arith, c.items-block-end.ensures.value, c.loop-block-test.true) in
    let inside : block < length used = omega (arith, c.in_ok-used.ensures.len, within) in
    elim c.if-len-count.branch [
      | then-len-count+then-not-index+in_ok-push w ↦
          let ok : is_ok w.push.result ≡ true = ap is_ok w.in_ok-push.was in
          let is = tested used block w.index.result.now has inside w.index.ensures (c.in_ok-used.ensures.used block within) in
          ap (λ (v : Vec ℕ Global). v.items) w.free-is ∙ rw (w.push.ensures.items, ok) (take-next p c.args.count block free c.loop-block.invariant
          (omega (arith, c.loop-block.free.ok.0, c.len.ensures, w.if-len-count.true)) (ap not (sym is ∙ w.if-not-index.true)))
      | else-len-count w ↦ ap (λ (v : Vec ℕ Global). v.items) w.free-is ∙ elim w.else-len-count.branch [
        | else-len-count-via-then-len-count+else-not-index w' ↦
            let is = tested used block w'.index.result.now has inside w'.index.ensures (c.in_ok-used.ensures.used block within) in
            skip-next p c.args.count block free c.loop-block.invariant (ap not (sym is ∙ w'.if-not-index.false))
        | else-len-count-via-else-len-count w' ↦
            enough p c.args.count block free c.loop-block.invariant (omega (arith, c.loop-block.free.ok.0, c.len.ensures, w'.if-len-count.false))
      ]
    ]
