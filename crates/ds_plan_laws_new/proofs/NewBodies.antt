-- A body that counts nothing lists nothing, and a directory lists no pointer blocks.
use Rattle.std.proofs.Common.{◌≡◌, ℕ, zero, suc, ◌*◌, nat_le, if◌then◌else◌, [], take, drop, Option, Some, None, refl, ap}
use Rattle.std.specs.List.{flat_map}
use Rattle.ds_base.specs.declared.names.NodeKind.{NodeKind}
use Rattle.ds_base.specs.declared.names.NodeKind.TheVariants as kinds
use Rattle.ds_fd.specs.declared.body.Body.{Body}
use Rattle.ds_tree.specs.Nodes.{Dir, File}
use Rattle.ds_tree.specs.Trees.{empty_node}
use Rattle.ds_image_parts.specs.Objects.{subs_by, ptrs_by, blocks_by, tail_by, node_by, subs_of, blocks_of, tail_of, addresses_in, used_rooms, object_of}
use Rattle.ds_image_parts.specs.Parts.{Parts, part_at}
use Rattle.ds_plan_laws_new.proofs.Names.{by_name}

-- what such a body lists
pub record ListsNothing (p : Parts) (b : Body) (kind : Option NodeKind) : Type 0 where
  pub subs : subs_by b kind ≡ []
  pub ptrs : ptrs_by b kind ≡ []
  pub blocks : blocks_by p b kind ≡ []
  pub tail : tail_by p b kind ≡ []

drop-nothing : (n : ℕ) → drop {A = ℕ} n [] ≡ []
drop-nothing zero = refl
drop-nothing (suc n) = refl

-- an unused descriptor lists nothing
pub unused-lists_nothing : (p : Parts) (b : Body) → ListsNothing p b None
unused-lists_nothing p b = record { subs = refl; ptrs = refl; blocks = refl; tail = drop-nothing b.count }

pub empty-lists_nothing : (p : Parts) (b : Body) (kind : NodeKind) → b.count ≡ 0 → ListsNothing p b (Some kind)
empty-lists_nothing p b kinds.Dir none = record { subs = rw none refl; ptrs = refl; blocks = refl; tail = drop-nothing b.count }
empty-lists_nothing p b kinds.File none = record { subs = refl; ptrs = rw none refl; blocks = rw none refl; tail = rw none refl }

-- a directory lists no pointer blocks and no blocks
pub dir-lists_none : (p : Parts) (b : Body) → (ptrs_by b (Some kinds.Dir) ≡ []) × (blocks_by p b (Some kinds.Dir) ≡ []) × (tail_by p b (Some kinds.Dir) ≡ [])
dir-lists_none p b = (refl, refl, drop-nothing b.count)

-- and its node is empty
pub empty-node : (p : Parts) (b : Body) (kind : NodeKind) → b.count ≡ 0 → node_by p b (Some kind) ≡ Some (empty_node kind)
empty-node p b kinds.Dir none = rw none refl
empty-node p b kinds.File none = rw none refl

-- What an object is stays where its pointer blocks and its entries do

pub blocks-same : (p q : Parts) (body : Option Body) → q.ptrs ≡ p.ptrs → blocks_of q body ≡ blocks_of p body
blocks-same p q None same = refl
blocks-same p q (Some b) same = by b.kind
  where
    by : (kind : Option NodeKind) → blocks_by q b kind ≡ blocks_by p b kind
    by None = refl
    by (Some kinds.Dir) = refl
    by (Some kinds.File) =
        ap (λ ptrs. take b.count (if nat_le b.count 96 then b.addresses else flat_map (λ n. addresses_in (part_at ptrs n)) (ptrs_by b (Some kinds.File)))) same

pub tail-same : (p q : Parts) (body : Option Body) → q.ptrs ≡ p.ptrs → tail_of q body ≡ tail_of p body
tail-same p q None same = refl
tail-same p q (Some b) same = ap (λ ptrs. drop b.count (flat_map (λ n. addresses_in (part_at ptrs n)) (ptrs_by b b.kind))) same

pub object-same : (p q : Parts) (body : Option Body) → q.ptrs ≡ p.ptrs → used_rooms q (subs_of body) ≡ used_rooms p (subs_of body)
    → object_of q body ≡ object_of p body
object-same p q None ptrs rooms = refl
object-same p q (Some b) ptrs rooms = λ i. record { birth = b.birth; node = by b.kind rooms (blocks-same p q (Some b) ptrs) i }
  where
    by : (kind : Option NodeKind) → used_rooms q (subs_by b kind) ≡ used_rooms p (subs_by b kind) → blocks_by q b kind ≡ blocks_by p b kind
        → node_by q b kind ≡ node_by p b kind
    by None rooms blocks = refl
    by (Some kinds.Dir) rooms blocks = ap (λ es. Some (Dir (by_name es) (4 * b.count))) rooms
    by (Some kinds.File) rooms blocks = ap (λ bs. Some (File bs)) blocks
