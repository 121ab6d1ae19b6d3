-- A tree that parts spell uses no more items of a kind than the volume has.
use Rattle.std.proofs.Common.{◌≡◌, ℕ, suc, ◌≤◌, Bool, true, false, cond, List, [], ◌∷◌, length, map, Option, None, Some, slice_get, refl, ap, subst, arith, length-take-le}
use Rattle.std.specs.Prelude.{count_by}
use Rattle.std.specs.List.{sum_by}
use Rattle.std.proofs.lemmas.List.Sums.{sum_by-cons}
use Rattle.std.proofs.lemmas.Option.{get_or_from_slice_get}
use Rattle.ds_base.specs.Geometry.{items_of}
use Rattle.ds_base.specs.declared.geometry.Geom.{Geom}
use Rattle.ds_base.specs.declared.geometry.Kind.{Kind}
use Rattle.ds_base.specs.declared.geometry.Kind.TheVariants.{Fd, Sb, Pb, Fb}
use Rattle.ds_base.specs.declared.names.NodeKind.{NodeKind}
use Rattle.ds_base.specs.declared.names.NodeKind.TheVariants as kinds
use Rattle.ds_fd.specs.Body.{IsBody, most_count}
use Rattle.ds_fd.specs.declared.body.Body.{Body}
use Rattle.ds_tree.specs.Counts.{node_uses, used_of, pointer_blocks}
use Rattle.ds_tree.specs.Nodes.{Object}
use Rattle.ds_image_parts.specs.Looks.{Look}
use Rattle.ds_image_parts.specs.Objects.{subs_by, ptrs_by, blocks_by, node_by, object_of, tree_of, subs_of, ptrs_of, blocks_of}
use Rattle.ds_image_tables.specs.Owns.{Owns}
use Rattle.ds_image_parts.specs.Parts.{Parts, maps_of, bits_in}
use Rattle.ds_image_parts.specs.Readings.{ReadsParts}
use Rattle.ds_image.specs.Sound.{IsSound}
use Rattle.ds_image.proofs.Ownership.Listed.{bits_length}
use Rattle.ds_image_tables.proofs.Ownership.OwnedCounts.{used_are}
use Rattle.ds_image.proofs.Spelling.Sizes.{body_is, file_size, many_pointers}
use Rattle.ds_image.proofs.FileTrees.TreeParts.{objects-are}

-- no more are marked than there are
marked-most : (bits : List Bool) → count_by (λ b. b) bits ≤ length bits
marked-most [] = omega arith
marked-most (true ∷ bits) = omega (arith, sum_by-cons (λ (b : Bool). cond b 1 0) true bits, marked-most bits)
marked-most (false ∷ bits) = omega (arith, sum_by-cons (λ (b : Bool). cond b 1 0) false bits, marked-most bits)

-- sums whose terms are no more than the lengths of lists
sum-most : {B A : Type 0} (u : A → ℕ) (made : B → A) (f : B → List ℕ) (bodies : List B)
    → ((i : ℕ) (b : B) → slice_get bodies i ≡ Some b → u (made b) ≤ length (f b))
    → sum_by u (map made bodies) ≤ sum_by length (map f bodies)
sum-most u made f [] each = omega arith
sum-most u made f (b ∷ bodies) each =
    omega (arith, sum_by-cons u (made b) (map made bodies), sum_by-cons (length {A = ℕ}) (f b) (map f bodies), each 0 b refl, sum-most u made f bodies (λ i x at. each (suc i) x at))

-- what a node uses, by the kind of its body
subs-used : (p : Parts) (b : Body) (kind : Option NodeKind) → IsBody b → b.kind ≡ kind
    → node_uses Sb (node_by p b kind) ≤ length (subs_by b kind)
subs-used p b None is kind = omega arith
subs-used p b (Some kinds.Dir) is kind =
    let few : b.count ≤ 96 = subst (λ k. b.count ≤ most_count k) kind is.ranges.count_to in
    omega (arith, length-take-le b.count b.addresses (omega (arith, few, is.widths.address_count)))
subs-used p b (Some kinds.File) is kind = omega arith

ptrs-used : (p : Parts) (b : Body) (kind : Option NodeKind) → IsBody b → b.kind ≡ kind
    → (kind ≡ Some kinds.File → length (blocks_by p b (Some kinds.File)) ≡ b.count)
    → node_uses Pb (node_by p b kind) ≤ length (ptrs_by b kind)
ptrs-used p b None is kind size = omega arith
ptrs-used p b (Some kinds.Dir) is kind size = omega arith
ptrs-used p b (Some kinds.File) is kind size =
    let most : b.count ≤ 12288 = subst (λ k. b.count ≤ most_count k) kind is.ranges.count_to in
    let listed = length-take-le (pointer_blocks b.count) b.addresses (omega (arith, many_pointers b.count most, is.widths.address_count)) in
    omega (arith, ap pointer_blocks (size refl), listed)

blocks-used : (p : Parts) (b : Body) (kind : Option NodeKind) → node_uses Fb (node_by p b kind) ≤ length (blocks_by p b kind)
blocks-used p b None = omega arith
blocks-used p b (Some kinds.Dir) = omega arith
blocks-used p b (Some kinds.File) = omega arith

one-used : (p : Parts) (b : Body) (kind : Option NodeKind) → node_uses Fd (node_by p b kind) ≤ 1
one-used p b None = omega arith
one-used p b (Some kinds.Dir) = omega arith
one-used p b (Some kinds.File) = omega arith

module _ (g : Geom) (look : Look) (p : Parts) (reads : ReadsParts g look p) (sound : IsSound p) where
  is-body : (i : ℕ) (b : Body) → slice_get p.bodies i ≡ Some (Some b) → IsBody b
  is-body i b at = body_is g look p i b reads (get_or_from_slice_get p.bodies i (Some b) None at)

  -- of lists that own their items no more are used than there are
  owned-most : (kind : Kind) (f : Option Body → List ℕ) → Owns (map f p.bodies) (bits_in (maps_of p kind))
      → ((i : ℕ) (body : Option Body) → slice_get p.bodies i ≡ Some body → node_uses kind (object_of p body).node ≤ length (f body)) → used_of (tree_of p) kind ≤ items_of g kind
  owned-most kind f owns each =
      let uses : Object → ℕ = λ o. node_uses kind o.node in
      omega (
        arith,
        ap (sum_by uses) (objects-are p),
        sum-most uses (object_of p) f p.bodies each,
        used_are (map f p.bodies) (bits_in (maps_of p kind)) owns,
        marked-most (bits_in (maps_of p kind)),
        bits_length g look kind (maps_of p kind) (reads.maps kind) (sound.maps kind),
      )

  subs-each : (i : ℕ) (body : Option Body) → slice_get p.bodies i ≡ Some body → node_uses Sb (object_of p body).node ≤ length (subs_of body)
  subs-each i None at = omega arith
  subs-each i (Some b) at = subs-used p b b.kind (is-body i b at) refl

  ptrs-each : (i : ℕ) (body : Option Body) → slice_get p.bodies i ≡ Some body → node_uses Pb (object_of p body).node ≤ length (ptrs_of body)
  ptrs-each i None at = omega arith
  ptrs-each i (Some b) at =
      ptrs-used p b b.kind (is-body i b at) refl (λ kind. file_size g look p i b reads sound (get_or_from_slice_get p.bodies i (Some b) None at) kind)

  blocks-each : (i : ℕ) (body : Option Body) → slice_get p.bodies i ≡ Some body
      → node_uses Fb (object_of p body).node ≤ length (blocks_of p body)
  blocks-each i None at = omega arith
  blocks-each i (Some b) at = blocks-used p b b.kind

  one-each : (body : Option Body) → node_uses Fd (object_of p body).node ≤ 1
  one-each None = omega arith
  one-each (Some b) = one-used p b b.kind

  ones : (bodies : List (Option Body)) → sum_by (λ (o : Object). node_uses Fd o.node) (map (object_of p) bodies) ≤ length bodies
  ones [] = omega arith
  ones (b ∷ bodies) =
      omega (arith, sum_by-cons (λ (o : Object). node_uses Fd o.node) (object_of p b) (map (object_of p) bodies), one-each b, ones bodies)

  pub within : (kind : Kind) → used_of (tree_of p) kind ≤ items_of g kind
  within Fd = omega (arith, ap (sum_by (λ (o : Object). node_uses Fd o.node)) (objects-are p), ones p.bodies, reads.bodies.len)
  within Sb = owned-most Sb subs_of sound.sub_owners subs-each
  within Pb = owned-most Pb ptrs_of sound.ptr_owners ptrs-each
  within Fb = owned-most Fb (blocks_of p) sound.block_owners blocks-each
