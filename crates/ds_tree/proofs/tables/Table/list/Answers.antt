use Rattle.std.proofs.Common.{◌≡◌, ℕ, List, ◌∷◌, ◌++◌, [], map, sym, ap, ◌∙◌, arith}
use Rattle.std.proofs.lemmas.Bool.Decides.{nat_tests}
use Rattle.std.specs.Prelude.{option_copied}
use Rattle.ds_base.specs.declared.names.Key.{Key}
use Rattle.ds_tree.specs.Nodes.{FileTree, node_at, birth_at}
use Rattle.ds_tree.specs.Steps.{entries_above}
use Rattle.ds_tree.specs.Trees.{entries_of}
use Rattle.ds_tree.proofs.Pages.{paged-end, paged-full, paged-more}
use Rattle.ds_tree.proofs.tables.Table.list.Goals as goal

with_key : FileTree → List ℕ × ℕ → List ℕ × Key
with_key t e = (e.0, record { object = e.1; birth = birth_at t e.1 })

pub returns-then-is_full : goal.returns-then-is_full
unfolding with_key
returns-then-is_full c =
    let t = c.args.self.now.tree in
    let all = entries_above (entries_of (node_at t c.args.dir)) (option_copied c.args.after) in
    let e : List ℕ × ℕ = (c.in-Some.name.now, c.in-Some.object.now) in
    let page : List (List ℕ × Key) = c.loop-name.page.items in
    let pair : (let p : List ℕ × Key = (c.copy-name.result, c.key_of.result) in p) ≡ with_key t e = λ i. (c.copy-name.ensures.same i, c.key_of.ensures i) in
    let pushed : c.push.new.self.items ≡ page ++ with_key t e ∷ [] = c.push.ensures.items ∙ ap (λ p. page ++ p ∷ []) pair in
    let more = paged-more (with_key t) all 32 page c.loop-name.rest c.loop-name.invariant.split e c.next.new.self c.in-Some.ensures.steps in
    let split : map (with_key t) all ≡ c.push.new.self.items ++ map (with_key t) c.next.new.self =
    more ∙ ap (λ ys. ys ++ map (with_key t) c.next.new.self) (sym pushed) in
    paged-full (with_key t) all 32 c.push.new.self.items c.next.new.self split (grind (arith, nat_tests)) (omega (arith, c.is_full.ensures.fits))

pub loop-name-preserved : goal.loop-name-preserved
unfolding with_key
loop-name-preserved c =
    let t = c.args.self.now.tree in
    let all = entries_above (entries_of (node_at t c.args.dir)) (option_copied c.args.after) in
    let e : List ℕ × ℕ = (c.in-Some.name.now, c.in-Some.object.now) in
    let page : List (List ℕ × Key) = c.loop-name.page.items in
    let pair : (let p : List ℕ × Key = (c.copy-name.result, c.key_of.result) in p) ≡ with_key t e = λ i. (c.copy-name.ensures.same i, c.key_of.ensures i) in
    let pushed : c.push.new.self.items ≡ page ++ with_key t e ∷ [] = c.push.ensures.items ∙ ap (λ p. page ++ p ∷ []) pair in
    let more = paged-more (with_key t) all 32 page c.loop-name.rest c.loop-name.invariant.split e c.next.new.self c.in-Some.ensures.steps in
    record {
      split = more ∙ ap (λ ys. ys ++ map (with_key t) c.next.new.self) (sym pushed);
      short = grind (arith, nat_tests);
    }

pub returns : goal.returns
unfolding with_key
returns c =
    let t = c.args.self.now.tree in
    paged-end (with_key t) (entries_above (entries_of (node_at t c.args.dir)) (option_copied c.args.after)) 32
    c.loop-name.page.items c.loop-name.rest c.loop-name.invariant c.in_default-next.ensures.steps.0
