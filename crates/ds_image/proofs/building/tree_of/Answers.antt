-- One more object is put where it belongs, and all objects make the tree.
use Rattle.std.proofs.Common.{◌≡◌, ℕ, ◌<◌, ◌≤◌, ◌++◌, List, Option, None, length, take, drop, map, inl, inr, sym, ap, ◌∙◌, subst, arith}
use Rattle.std.proofs.lemmas.Bool.{false≢true, cases_eq}
use Rattle.ds_base.specs.Geometry.{IsGeom}
use Rattle.ds_base.specs.declared.geometry.Geom.{Geom}
use Rattle.ds_fd.specs.declared.body.Body.{Body}
use Rattle.ds_tree.proofs.FreshTree.{fresh-is_tree}
use Rattle.ds_tree.specs.Nodes.{FileTree, Object, fresh_tree}
use Rattle.ds_tree.specs.Trees.{TreeValue}
use Rattle.ds_tree.specs.WellFormed.{IsTree}
use Rattle.ds_image_parts.specs.Looks.{Look}
use Rattle.ds_image_parts.specs.Objects.{is_used, object_of, tree_of}
use Rattle.ds_image_parts.specs.Parts.{Parts, part_at}
use Rattle.ds_image_parts.specs.Readings.{ReadsParts}
use Rattle.ds_image.proofs.FileTrees.BuiltTrees.{object-next, objects-more, objects-all, fresh-free, built}
use Rattle.ds_image.proofs.FileTrees.RootedTrees.{root-from_tree, root-used}
use Rattle.ds_image.proofs.Spelling.Sizes.{body_is}
use Rattle.ds_image.proofs.building.tree_of.Goals as goal

within : (xs ys : List (Option Body)) (n : ℕ) → xs ≡ ys → n < length xs → n < length ys
within xs ys n same below = subst (λ l. n < length l) same below

pub put_object-requires-clause-free : goal.put_object-requires-clause-free
put_object-requires-clause-free _ c = λ unused.
    let g = c.args.geom.now in
    let p = c.args.parts.now in
    let n = c.loop-object.object in
    let count : length p.bodies ≡ length (fresh_tree g).objects = c.requires.reads.1.bodies.len ∙ sym (fresh-is_tree g c.requires.geom).count in
    let below = within c.bodies-bodies.result.now p.bodies n c.bodies-bodies.ensures c.loop-object-test.true in
    elim (cases_eq n 0) [
      | inl first ↦
          let used = root-used p (root-from_tree g p c.requires.tree) in
          absurd (false≢true (sym unused ∙ ap (λ o. is_used (part_at p.bodies o)) first ∙ used))
      | inr other ↦
          ap (λ (o : Object). o.node)
          (object-next (object_of p) p.bodies (fresh_tree g).objects n c.loop-object.builder.tree.objects below count c.loop-object.invariant.objects ∙ fresh-free g n (omega (arith, other)))
    ]

pub put_object-requires-clause-body : goal.put_object-requires-clause-body
put_object-requires-clause-body _ c = λ b there. body_is c.args.geom.now c.requires.reads.0 c.args.parts.now c.loop-object.object b c.requires.reads.1 there

pub loop-object-preserved : goal.loop-object-preserved
loop-object-preserved _ c =
    let g = c.args.geom.now in
    let p = c.args.parts.now in
    let n = c.loop-object.object in
    let count : length p.bodies ≡ length (fresh_tree g).objects = c.requires.reads.1.bodies.len ∙ sym (fresh-is_tree g c.requires.geom).count in
    let below = within c.bodies-bodies.result.now p.bodies n c.bodies-bodies.ensures c.loop-object-test.true in
    record {
      geom = c.put_object.ensures.geom ∙ c.loop-object.invariant.geom;
      objects = ap (λ (t : FileTree). t.objects) c.in_ok-put_object.ensures.tree
          ∙ objects-more (object_of p) p.bodies (fresh_tree g).objects n c.loop-object.builder.tree.objects below count c.loop-object.invariant.objects None;
    }

-- the objects of all descriptors make the tree
all-put : (g : Geom) (look : Look) (p : Parts) (bodies : List (Option Body)) (n : ℕ) (t : FileTree) → IsGeom g → ReadsParts g look p
    → bodies ≡ p.bodies → length bodies ≤ n
    → t.objects ≡ map (object_of p) (take n p.bodies) ++ drop n (fresh_tree g).objects → t ≡ tree_of p
all-put g look p bodies n t is reads same past so_far =
    let count : length p.bodies ≡ length (fresh_tree g).objects = reads.bodies.len ∙ sym (fresh-is_tree g is).count in
    built p t (objects-all (object_of p) p.bodies (fresh_tree g).objects n t.objects (subst (λ (bs : List (Option Body)). length bs ≤ n) same past) count so_far)

pub finish-requires : goal.finish-requires
finish-requires _ c =
    let all = all-put c.args.geom.now c.requires.reads.0 c.args.parts.now c.bodies-bodies.result.now c.loop-object.object c.loop-object.builder.tree c.requires.geom c.requires.reads.1
    c.bodies-bodies.ensures c.loop-object-test.false c.loop-object.invariant.objects in
    subst (λ (g : Geom). IsTree g c.loop-object.builder.tree) (sym c.loop-object.invariant.geom)
    (subst (λ (t : FileTree). IsTree c.args.geom.now t) (sym all) c.requires.tree)

pub returns-clause-tree : goal.returns-clause-tree
returns-clause-tree _ c =
    ap (λ (t : TreeValue). t.tree) c.finish.ensures
    ∙ all-put c.args.geom.now c.requires.reads.0 c.args.parts.now c.bodies-bodies.result.now c.loop-object.object c.loop-object.builder.tree c.requires.geom c.requires.reads.1
    c.bodies-bodies.ensures c.loop-object-test.false c.loop-object.invariant.objects
