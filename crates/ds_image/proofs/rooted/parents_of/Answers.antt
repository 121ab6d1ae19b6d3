-- One more directory's objects have their parent.
use Rattle.std.proofs.Common.{◌≡◌, ◌+◌, ◌++◌, None, length, take, drop, refl, ap, sym, ◌∙◌, subst, arith}
use Rattle.std.proofs.lemmas.List.{get_or_default}
use Rattle.ds_base.specs.declared.geometry.Kind.TheVariants as kinds
use Rattle.ds_layout.proofs.Bounds.{most_items_of}
use Rattle.ds_image_parts.specs.Listings.{named_by, lists_by}
use Rattle.ds_image_parts.specs.declared.listings.Listed.TheVariants as listed
use Rattle.ds_image.specs.ListParents.{SetsParents, AreParentsOf}
use Rattle.ds_image_tables.specs.Owns.{list_of}
use Rattle.ds_image_parts.specs.Parts.{part_at}
use Rattle.ds_image.specs.Rooted.{named_bits}
use Rattle.ds_image.proofs.Parenthood.ListParents.{parents-more, written-all}
use Rattle.ds_image.proofs.Spelling.SoundParts.{list-is}
use Rattle.ds_image.proofs.rooted.parents_of.Goals as goal

pub overflow_cast-dir-end : goal.overflow_cast-dir-end
overflow_cast-dir-end _ c =
    omega (arith, ap length c.bodies-bodies.ensures, c.requires.read.reads.bodies.len, most_items_of c.requires.read.geom kinds.Fd c.requires.read.is_geom)

pub loop-dir-preserved : goal.loop-dir-preserved
loop-dir-preserved _ c =
    let p = c.args.parts.now in
    let bodies = c.bodies-bodies.result.now in
    let new = c.set_parents.new.parents in
    let old = c.loop-dir.parents.items in
    let kept : length new ≡ length old = c.set_parents.ensures.count ∙ ap length c.deref_mut.ensures.value in
    let all : take c.loop-dir.parents.len (new ++ drop (length new) old) ≡ new = written-all c.loop-dir.parents.len new old (omega (arith, c.loop-dir.parents.ok.0)) kept in
    let named : c.deref.result.now ≡ list_of (lists_by p listed.Names) c.loop-dir.dir =
    c.deref.ensures.value ∙ c.in_ok-named.ensures ∙ ap (named_by p) (get_or_default bodies c.loop-dir.dir _ None c.loop-dir-test.true)
    ∙ ap (λ bs. named_by p (part_at bs c.loop-dir.dir)) c.bodies-bodies.ensures ∙ sym (list-is (named_by p) p.bodies refl c.loop-dir.dir) in
    let sets : SetsParents old (list_of (lists_by p listed.Names) c.loop-dir.dir) c.loop-dir.dir new =
    subst (λ before. SetsParents before (list_of (lists_by p listed.Names) c.loop-dir.dir) c.loop-dir.dir new) c.deref_mut.ensures.value
    (subst (λ l. SetsParents c.deref_mut.result.now l c.loop-dir.dir new) named c.set_parents.ensures) in
    let are = parents-more (lists_by p listed.Names) (named_bits p) c.loop-dir.dir old new c.requires.named c.loop-dir.invariant.are sets in
    record {
      count = ap length all ∙ kept ∙ c.loop-dir.invariant.count;
      are = subst (AreParentsOf (lists_by p listed.Names) (c.loop-dir.dir + 1)) (sym all) are;
    }
