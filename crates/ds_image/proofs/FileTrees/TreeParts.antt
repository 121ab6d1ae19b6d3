-- The tree that parts spell, object by object.
use Rattle.std.proofs.Common.{◌≡◌, ℕ, true, List, length, map, Option, None, Some, slice_get, refl, sym, ap, ◌∙◌, subst, inl, inr, arith}
use Rattle.std.specs.Prelude.{IsSome, option_map}
use Rattle.std.specs.FinMap as maps
use Rattle.std.proofs.lemmas.Bool.{false≢true, cases_lt}
use Rattle.std.proofs.lemmas.List.{get_or-map, get_or_past, length-map}
use Rattle.std.proofs.lemmas.Option.{slice_get-map}
use Rattle.ds_base.specs.declared.names.NodeKind.{NodeKind}
use Rattle.ds_base.specs.declared.names.NodeKind.TheVariants as kinds
use Rattle.ds_dir.specs.declared.sub_block.Entry.{Entry}
use Rattle.ds_fd.specs.declared.body.Body.{Body}
use Rattle.ds_tree.specs.Nodes.{Entries, Node, Dir, File, Object, unborn, object_at, node_at}
use Rattle.ds_tree.specs.Nodes as nodes
use Rattle.ds_tree.specs.Trees as trees
use Rattle.ds_tree.specs.WellFormed.{Names}
use Rattle.ds_image_parts.specs.Listings.{named_by, lists_by}
use Rattle.ds_image_parts.specs.declared.listings.Listed.TheVariants as listed
use Rattle.ds_image_parts.specs.Objects.{subs_by, blocks_by, node_by, object_of, tree_of, subs_of, blocks_of, entries_of, is_used}
use Rattle.ds_image_tables.specs.Owns.{IsAt, list_of}
use Rattle.ds_image_parts.specs.Parts.{Parts, part_at}
use Rattle.ds_image.specs.Sound.{IsSound, rooms_used_by}
use Rattle.ds_image.proofs.FileTrees.EntryNames.{find-some, find-at, get-entries}
use Rattle.ds_image.proofs.Spelling.SoundParts.{list-is}

-- the object of each number, also past the last
pub object-is : (p : Parts) (o : ℕ) → object_at (tree_of p) o ≡ object_of p (part_at p.bodies o)
unfolding tree_of
object-is p o = elim (cases_lt o (length p.bodies)) [
  | inl below ↦ get_or-map (object_of p) p.bodies o None unborn below
  | inr past ↦ get_or_past (map (object_of p) p.bodies) o unborn (omega (arith, length-map p.bodies (object_of p))) ∙ ap (object_of p) (sym (get_or_past p.bodies o None past))
]

pub objects-are : (p : Parts) → (tree_of p).objects ≡ map (object_of p) p.bodies
unfolding tree_of
objects-are p = refl

pub node-is : (p : Parts) (o : ℕ) → node_at (tree_of p) o ≡ (object_of p (part_at p.bodies o)).node
node-is p o = ap (λ (x : Object). x.node) (object-is p o)

-- what a node has, by the kind of its body
entries-by : (p : Parts) (b : Body) (kind : Option NodeKind) → trees.entries_of (node_by p b kind) ≡ entries_of p (subs_by b kind)
entries-by p b None = refl
entries-by p b (Some kinds.Dir) = refl
entries-by p b (Some kinds.File) = refl

pub entries-of : (p : Parts) (body : Option Body) → trees.entries_of (object_of p body).node ≡ entries_of p (subs_of body)
entries-of p None = refl
entries-of p (Some b) = entries-by p b b.kind

pub entries-are : (p : Parts) (o : ℕ) → trees.entries_of (node_at (tree_of p) o) ≡ entries_of p (subs_of (part_at p.bodies o))
entries-are p o = ap trees.entries_of (node-is p o) ∙ entries-of p (part_at p.bodies o)

file_blocks-by : (p : Parts) (b : Body) (kind : Option NodeKind) → nodes.blocks_of (node_by p b kind) ≡ blocks_by p b kind
file_blocks-by p b None = refl
file_blocks-by p b (Some kinds.Dir) = refl
file_blocks-by p b (Some kinds.File) = refl

file_blocks-of : (p : Parts) (body : Option Body) → nodes.blocks_of (object_of p body).node ≡ blocks_of p body
file_blocks-of p None = refl
file_blocks-of p (Some b) = file_blocks-by p b b.kind

pub blocks-are : (p : Parts) (o : ℕ) → nodes.blocks_of (node_at (tree_of p) o) ≡ blocks_of p (part_at p.bodies o)
blocks-are p o = ap nodes.blocks_of (node-is p o) ∙ file_blocks-of p (part_at p.bodies o)

-- a node stands where a body is in use
used-by : (p : Parts) (b : Body) (kind : Option NodeKind) → b.kind ≡ kind → IsSome (node_by p b kind) → is_used (Some b) ≡ true
used-by p b None is some = absurd (false≢true some)
used-by p b (Some kind) is some = rw is refl

node-by : (p : Parts) (b : Body) (kind : Option NodeKind) → b.kind ≡ kind → is_used (Some b) ≡ true → IsSome (node_by p b kind)
node-by p b None is used = absurd (false≢true (rw is at used))
node-by p b (Some kinds.Dir) is used = refl
node-by p b (Some kinds.File) is used = refl

pub used-from_node : (p : Parts) (body : Option Body) → IsSome (object_of p body).node → is_used body ≡ true
used-from_node p None some = absurd (false≢true some)
used-from_node p (Some b) some = used-by p b b.kind refl some

pub node-from_used : (p : Parts) (body : Option Body) → is_used body ≡ true → IsSome (object_of p body).node
node-from_used p None used = absurd (false≢true used)
node-from_used p (Some b) used = node-by p b b.kind refl used

pub used-at : (p : Parts) (o : ℕ) → IsSome (node_at (tree_of p) o) → is_used (part_at p.bodies o) ≡ true
used-at p o some = used-from_node p (part_at p.bodies o) (subst (λ (n : Option Node). IsSome n) (node-is p o) some)

pub node-at : (p : Parts) (o : ℕ) → is_used (part_at p.bodies o) ≡ true → IsSome (node_at (tree_of p) o)
node-at p o used = subst (λ (n : Option Node). IsSome n) (sym (node-is p o)) (node-from_used p (part_at p.bodies o) used)

-- a name in the tree is that of an entry
pub entry-from_name : (p : Parts) (o : ℕ) (name : List ℕ) (x : ℕ) → Names (tree_of p) o name x
    → (i : ℕ) × ((e : Entry) × (slice_get (rooms_used_by p o) i ≡ Some e) × (e.name ≡ name) × (e.key.object ≡ x))
entry-from_name p o name x names =
    find-some (rooms_used_by p o) name x
    (sym (get-entries (rooms_used_by p o) name) ∙ ap (λ (m : Entries). maps.get m name) (sym (entries-are p o)) ∙ names)

pub name-from_entry : (p : Parts) → IsSound p → (o i : ℕ) (e : Entry) → slice_get (rooms_used_by p o) i ≡ Some e
    → Names (tree_of p) o e.name e.key.object
name-from_entry p sound o i e at =
    ap (λ (m : Entries). maps.get m e.name) (entries-are p o) ∙ get-entries (rooms_used_by p o) e.name ∙ find-at (rooms_used_by p o) (sound.names o) i e at

-- and the objects that are listed by name are those of the entries
named-list : (p : Parts) (o : ℕ) → list_of (lists_by p listed.Names) o ≡ map (λ (e : Entry). e.key.object) (rooms_used_by p o)
named-list p o = list-is (named_by p) p.bodies refl o

mapped : (r : Option Entry) (x : ℕ) → option_map (λ (e : Entry). e.key.object) r ≡ Some x → (e : Entry) × (r ≡ Some e) × (e.key.object ≡ x)
mapped None x is = absurd (cc)
mapped (Some e) x is = let object : e.key.object ≡ x = cc in (e, refl, object)

pub entry-from_list : (p : Parts) (o i x : ℕ) → IsAt (lists_by p listed.Names) o i x
    → (e : Entry) × (slice_get (rooms_used_by p o) i ≡ Some e) × (e.key.object ≡ x)
entry-from_list p o i x at =
    mapped (slice_get (rooms_used_by p o) i) x
    (sym (slice_get-map (λ (e : Entry). e.key.object) (rooms_used_by p o) i) ∙ ap (λ l. slice_get l i) (sym (named-list p o)) ∙ at)

pub list-from_entry : (p : Parts) (o i x : ℕ) (e : Entry) → slice_get (rooms_used_by p o) i ≡ Some e → e.key.object ≡ x
    → IsAt (lists_by p listed.Names) o i x
list-from_entry p o i x e at is =
    ap (λ l. slice_get l i) (named-list p o) ∙ slice_get-map (λ (e : Entry). e.key.object) (rooms_used_by p o) i
    ∙ ap (option_map (λ (e : Entry). e.key.object)) at ∙ ap Some is

pub list-from_name : (p : Parts) (o : ℕ) (name : List ℕ) (x : ℕ) → Names (tree_of p) o name x
    → (i : ℕ) × ((e : Entry) × (slice_get (rooms_used_by p o) i ≡ Some e) × (e.name ≡ name) × IsAt (lists_by p listed.Names) o i x)
list-from_name p o name x names =
    let at = entry-from_name p o name x names in
    (at.0, (at.1.0, at.1.1, at.1.2, list-from_entry p o at.0 x at.1.0 at.1.1 at.1.3))
