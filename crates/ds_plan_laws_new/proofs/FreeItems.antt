-- The clear bits of a kind are the items that a tree leaves free.
use Rattle.std.proofs.Common.{◌≡◌, ◌≢◌, ℕ, suc, ◌*◌, ◌/◌, ◌≤◌, cond, Bool, false, List, [], ◌∷◌, length, map, slice_get, Option, None, Some, refl, sym, ap, subst, ◌∙◌, length-take-le, arith}
use Rattle.std.specs.List.{sum_by}
use Rattle.std.proofs.lemmas.List.Sums.{sum_by-cons}
use Rattle.std.proofs.lemmas.Option.{get_or_from_slice_get}
use Rattle.ds_base.specs.declared.geometry.Geom.{Geom}
use Rattle.ds_base.specs.declared.geometry.Kind.{Kind}
use Rattle.ds_base.specs.declared.geometry.Kind.TheVariants.{Fd, Sb, Pb, Fb}
use Rattle.ds_base.specs.declared.names.NodeKind.{NodeKind}
use Rattle.ds_base.specs.declared.names.NodeKind.TheVariants as kinds
use Rattle.ds_fd.specs.Body.{IsBody, most_count}
use Rattle.ds_fd.specs.declared.body.Body.{Body}
use Rattle.ds_tree.specs.Counts.{node_uses, used_of, free_of, pointer_blocks}
use Rattle.ds_tree.specs.Nodes.{Object}
use Rattle.ds_image_parts.specs.Looks.{Look}
use Rattle.ds_image_parts.specs.Objects.{subs_by, ptrs_by, blocks_by, node_by, object_of, tree_of, subs_of, ptrs_of, blocks_of, is_used}
use Rattle.ds_image_tables.specs.Owns.{Owns}
use Rattle.ds_image_parts.specs.Parts.{Parts, maps_of, bits_in}
use Rattle.ds_image_parts.specs.Readings.{ReadsParts}
use Rattle.ds_image.specs.Sound.{IsSound}
use Rattle.ds_image.proofs.Ownership.Listed.{bits_length}
use Rattle.ds_image_tables.proofs.Ownership.OwnedCounts.{marked_count, used_are}
use Rattle.ds_image.proofs.Spelling.Sizes.{body_is, file_size, many_pointers}
use Rattle.ds_image.proofs.FileTrees.TreeParts.{objects-are}
use Rattle.ds_image.proofs.Bits.{clear_count, clear-and_marked, clear-some}

-- sums whose terms are the lengths of lists
sum-same : {B A : Type 0} (u : A → ℕ) (made : B → A) (f : B → List ℕ) (bodies : List B)
    → ((i : ℕ) (b : B) → slice_get bodies i ≡ Some b → u (made b) ≡ length (f b))
    → sum_by u (map made bodies) ≡ sum_by length (map f bodies)
sum-same u made f [] each = refl
sum-same u made f (b ∷ bodies) each =
    omega (arith, sum_by-cons u (made b) (map made bodies), sum_by-cons (length {A = ℕ}) (f b) (map f bodies), each 0 b refl, sum-same u made f bodies (λ i x at. each (suc i) x at))

-- what a node uses, by the kind of its body
subs-used : (p : Parts) (b : Body) (kind : Option NodeKind) → IsBody b → b.kind ≡ kind → node_uses Sb (node_by p b kind) ≡ length (subs_by b kind)
subs-used p b None is kind = refl
subs-used p b (Some kinds.Dir) is kind =
    let few : b.count ≤ 96 = subst (λ k. b.count ≤ most_count k) kind is.ranges.count_to in
    let fours : 4 * b.count / 4 ≡ b.count = omega arith in
    fours ∙ sym (length-take-le b.count b.addresses (omega (arith, few, is.widths.address_count)))
subs-used p b (Some kinds.File) is kind = refl

ptrs-used : (p : Parts) (b : Body) (kind : Option NodeKind) → IsBody b → b.kind ≡ kind
    → (kind ≡ Some kinds.File → length (blocks_by p b (Some kinds.File)) ≡ b.count)
    → node_uses Pb (node_by p b kind) ≡ length (ptrs_by b kind)
ptrs-used p b None is kind size = refl
ptrs-used p b (Some kinds.Dir) is kind size = refl
ptrs-used p b (Some kinds.File) is kind size =
    let most : b.count ≤ 12288 = subst (λ k. b.count ≤ most_count k) kind is.ranges.count_to in
    ap pointer_blocks (size refl) ∙ sym (length-take-le (pointer_blocks b.count) b.addresses (omega (arith, many_pointers b.count most, is.widths.address_count)))

blocks-used : (p : Parts) (b : Body) (kind : Option NodeKind) → node_uses Fb (node_by p b kind) ≡ length (blocks_by p b kind)
blocks-used p b None = refl
blocks-used p b (Some kinds.Dir) = refl
blocks-used p b (Some kinds.File) = refl

one-used : (p : Parts) (b : Body) (kind : Option NodeKind) → b.kind ≡ kind → node_uses Fd (node_by p b kind) ≡ cond (is_used (Some b)) 1 0
one-used p b None is = rw is refl
one-used p b (Some kinds.Dir) is = rw is refl
one-used p b (Some kinds.File) is = rw is refl

one-each : (p : Parts) (body : Option Body) → node_uses Fd (object_of p body).node ≡ cond (is_used body) 1 0
one-each p None = refl
one-each p (Some b) = one-used p b b.kind refl

ones : (p : Parts) (bodies : List (Option Body)) → sum_by (λ (o : Object). node_uses Fd o.node) (map (object_of p) bodies) ≡ marked_count (map is_used bodies)
ones p [] = refl
ones p (b ∷ bodies) =
    omega (
      arith,
      sum_by-cons (λ (o : Object). node_uses Fd o.node) (object_of p b) (map (object_of p) bodies),
      sum_by-cons (λ (c : Bool). cond c 1 0) (is_used b) (map is_used bodies),
      one-each p b,
      ones p bodies,
    )

module _ (g : Geom) (look : Look) (p : Parts) (reads : ReadsParts g look p) (sound : IsSound p) where
  is-body : (i : ℕ) (b : Body) → slice_get p.bodies i ≡ Some (Some b) → IsBody b
  is-body i b at = body_is g look p i b reads (get_or_from_slice_get p.bodies i (Some b) None at)

  subs-each : (i : ℕ) (body : Option Body) → slice_get p.bodies i ≡ Some body → node_uses Sb (object_of p body).node ≡ length (subs_of body)
  subs-each i None at = refl
  subs-each i (Some b) at = subs-used p b b.kind (is-body i b at) refl

  ptrs-each : (i : ℕ) (body : Option Body) → slice_get p.bodies i ≡ Some body → node_uses Pb (object_of p body).node ≡ length (ptrs_of body)
  ptrs-each i None at = refl
  ptrs-each i (Some b) at =
      ptrs-used p b b.kind (is-body i b at) refl (λ kind. file_size g look p i b reads sound (get_or_from_slice_get p.bodies i (Some b) None at) kind)

  blocks-each : (i : ℕ) (body : Option Body) → slice_get p.bodies i ≡ Some body → node_uses Fb (object_of p body).node ≡ length (blocks_of p body)
  blocks-each i None at = refl
  blocks-each i (Some b) at = blocks-used p b b.kind

  owned-used : (kind : Kind) (f : Option Body → List ℕ) → Owns (map f p.bodies) (bits_in (maps_of p kind))
      → ((i : ℕ) (body : Option Body) → slice_get p.bodies i ≡ Some body → node_uses kind (object_of p body).node ≡ length (f body))
      → used_of (tree_of p) kind ≡ marked_count (bits_in (maps_of p kind))
  owned-used kind f owns each =
      let uses : Object → ℕ = λ o. node_uses kind o.node in
      ap (sum_by uses) (objects-are p) ∙ sum-same uses (object_of p) f p.bodies each ∙ sym (used_are (map f p.bodies) (bits_in (maps_of p kind)) owns)

  -- the marked items of a kind are those that the tree uses
  pub used-marked : (kind : Kind) → used_of (tree_of p) kind ≡ marked_count (bits_in (maps_of p kind))
  used-marked Fd = ap (sum_by (λ (o : Object). node_uses Fd o.node)) (objects-are p) ∙ ones p p.bodies ∙ ap marked_count (sym sound.used)
  used-marked Sb = owned-used Sb subs_of sound.sub_owners subs-each
  used-marked Pb = owned-used Pb ptrs_of sound.ptr_owners ptrs-each
  used-marked Fb = owned-used Fb (blocks_of p) sound.block_owners blocks-each

  -- and the clear ones those that it leaves free
  pub free-clear : (kind : Kind) → free_of g (tree_of p) kind ≡ clear_count (bits_in (maps_of p kind))
  free-clear kind =
      omega (arith, used-marked kind, clear-and_marked (bits_in (maps_of p kind)), bits_length g look kind (maps_of p kind) (reads.maps kind) (sound.maps kind))

  -- so an item whose bit is clear is free
  pub free-some : (kind : Kind) (x : ℕ) → slice_get (bits_in (maps_of p kind)) x ≡ Some false → free_of g (tree_of p) kind ≢ 0
  free-some kind x clear none = omega (arith, free-clear kind, none, clear-some (bits_in (maps_of p kind)) x clear)
