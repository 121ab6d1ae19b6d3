-- The descriptors in use are reached exactly where their parents lead to the root.
use Rattle.std.proofs.Common.{◌≡◌, ℕ, ◌↔◌, true, false, slice_index_or, Bool, List, length, ap, ◌∙◌, subst, arith}
use Rattle.std.specs.Prelude.{Option}
use Rattle.ds_base.specs.declared.geometry.Kind.TheVariants as kinds
use Rattle.ds_fd.specs.declared.body.Body.{Body}
use Rattle.ds_layout.proofs.Bounds.{most_items_of}
use Rattle.ds_image_parts.specs.Listings.{lists_by}
use Rattle.ds_image_parts.specs.declared.listings.Listed.TheVariants as listed
use Rattle.ds_image_parts.specs.Objects.{is_used}
use Rattle.ds_image_tables.specs.Owns.{Owns}
use Rattle.ds_image_tables.specs.Parents.{AreReached}
use Rattle.ds_image_parts.specs.Parts.{part_at}
use Rattle.ds_image.specs.Rooted.{named_bits}
use Rattle.ds_image.proofs.FileTrees.RootedTrees.{named-count}
use Rattle.ds_image.proofs.Parenthood.ReachedObjects.{rooted-where_reached}
use Rattle.ds_image.proofs.rooted.is_rooted.Goals as goal

pub owns-requires : goal.owns-requires
owns-requires _ c =
    omega (arith, ap length (c.deref.ensures.value ∙ c.in_ok-named.ensures), named-count c.args.parts.now, c.requires.read.reads.bodies.len, most_items_of c.requires.read.geom kinds.Fd c.requires.read.is_geom)

pub returns : goal.returns
returns _ c =
    let p = c.args.parts.now in
    let bits : c.deref.result.now ≡ named_bits p = c.deref.ensures.value ∙ c.in_ok-named.ensures in
    let named : Owns (lists_by p listed.Names) (named_bits p) = subst (Owns (lists_by p listed.Names)) bits (c.in_ok-owns.ensures.0 c.if-not-branch.false) in
    let parents = c.in_ok-parents.parents.items in
    let reached = c.in_ok-reached.reached.items in
    let known : AreReached parents reached = subst (λ ps. AreReached ps reached) c.deref-2.ensures.value c.in_ok-reached.ensures in
    let Used : List (Option Body) → List Bool → Type 0 = λ bodies rs. (o : ℕ) → is_used (part_at bodies o) ≡ true → slice_index_or rs o false ≡ true in
    let test : (c.are_reached.result ≡ true) ↔ Used p.bodies reached =
    subst (λ rs. (c.are_reached.result ≡ true) ↔ Used p.bodies rs) c.deref-3.ensures.value
    (subst (λ bodies. (c.are_reached.result ≡ true) ↔ Used bodies c.deref-3.result.now) c.bodies.ensures c.are_reached.ensures) in
    rooted-where_reached p parents reached c.are_reached.result c.requires.sound (c.has_root.ensures.0 c.if-not-has_root.false) named
    c.in_ok-parents.ensures.count c.in_ok-parents.ensures.parents known test
