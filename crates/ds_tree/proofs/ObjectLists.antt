-- Objects of a tree, by number.
use Rattle.std.proofs.lemmas.List.{get_or-set_same, get_or-set_other, set-set, set_comm}
use Rattle.std.proofs.lemmas.Option.{slice_get_cases, unwrap_or-slice_get}
use Rattle.std.proofs.lemmas.List.Sums.{sum_by-cons}
use Rattle.std.proofs.lemmas.List.Elements.{All-head, All-tail, All-from_get_or}
use Rattle.std.proofs.Common.{◌≡◌, ◌≢◌, ℕ, ◌<◌, true, false, List, [], ◌∷◌, length, inl, inr, refl, sym, ap, ◌∙◌, arith}
use Rattle.std.specs.Prelude.{Option, Some, None, IsSome, option_map, is_some, unwrap_or, All}
use Rattle.std.specs.List.{sum_by}
use Rattle.ds_base.specs.declared.geometry.Geom.{Geom}
use Rattle.ds_base.specs.declared.geometry.Kind.TheVariants.{Fd}
use Rattle.ds_base.specs.declared.names.NodeKind.{NodeKind}
use Rattle.ds_base.specs.Geometry.{items_of}
use Rattle.ds_tree.specs.Nodes.{Node, Dir, File, Object, FileTree, unborn, object_at, node_at, with_object, kind_of, blocks_of}
use Rattle.ds_tree.specs.Counts.{node_uses, free_of}
use Rattle.ds_tree.specs.Steps.{is_dir, is_file}
use Rattle.ds_tree.specs.Trees.{entries_of, rooms_of}

one_each : (node : Option Node) → IsSome node → node_uses Fd node ≡ 1
one_each None h = absurd (cc)
one_each (Some node) h = refl

uses_one_each : (objects : List Object) → All (λ o. IsSome o.node) objects → sum_by (λ o. node_uses Fd o.node) objects ≡ length objects
uses_one_each [] all = refl
uses_one_each (o ∷ os) all =
    let first = one_each o.node (All-head (λ (o : Object). IsSome o.node) o os all) in
    let rest = uses_one_each os (All-tail (λ (o : Object). IsSome o.node) o os all) in
    sum_by-cons (λ (o : Object). node_uses Fd o.node) o os ∙ omega (arith, first, rest)

-- a tree whose numbers are all used has no free descriptor
pub none_free : (g : Geom) (t : FileTree) → length t.objects ≡ items_of g Fd → ((n : ℕ) → n < length t.objects → IsSome (node_at t n)) → free_of g t Fd ≡ 0
none_free g t count all = omega (arith, uses_one_each t.objects (All-from_get_or (λ (o : Object). IsSome o.node) t.objects unborn all))

-- a directory by its parts
pub dir_parts : (node : Option Node) → is_dir node ≡ true → node ≡ Some (Dir (entries_of node) (rooms_of node))
dir_parts (Some (Dir entries rooms)) h = refl
dir_parts (Some (File blocks)) h = absurd (cc)
dir_parts None h = absurd (cc)

past : (node : Option Node) → node ≡ None → ¬ IsSome node
past None e h = absurd (cc)
past (Some node) e h = absurd (cc)

pub in_range : (t : FileTree) (n : ℕ) → IsSome (node_at t n) → n < length t.objects
in_range t n h =
    elim (slice_get_cases t.objects n).1 [
      | inl p ↦ p.1
      | inr p ↦ absurd (past (node_at t n) (ap (λ (o : Object). o.node) (sym (unwrap_or-slice_get t.objects n unborn) ∙ ap (λ o. unwrap_or o unborn) p.1)) h)
    ]

pub with_object-here : (t : FileTree) (n : ℕ) (o : Object) → n < length t.objects → object_at (with_object t n o) n ≡ o
with_object-here t n o h = get_or-set_same t.objects n o unborn h

pub with_object-there : (t : FileTree) (n m : ℕ) (o : Object) → m ≢ n → object_at (with_object t n o) m ≡ object_at t m
with_object-there t n m o apart = get_or-set_other t.objects n m o unborn apart

same_tree : (xs ys : List Object) → xs ≡ ys → (let t : FileTree = record { objects = xs } in t) ≡ (let u : FileTree = record { objects = ys } in u)
same_tree xs ys e = λ i. record { objects = e i }

pub with_object-twice : (t : FileTree) (n : ℕ) (a b : Object) → with_object (with_object t n a) n b ≡ with_object t n b
with_object-twice t n a b = same_tree _ _ (set-set t.objects n a b)

pub with_object-swap : (t : FileTree) (m n : ℕ) (a b : Object) → m ≢ n → with_object (with_object t m a) n b ≡ with_object (with_object t n b) m a
with_object-swap t m n a b apart = same_tree _ _ (set_comm t.objects m n a b apart)

pub none_from : {A : Type 0} (o : Option A) → is_some o ≡ false → o ≡ None
none_from None h = refl
none_from (Some x) h = absurd (cc)

-- a directory stands at a number of the tree
pub dir_in_range : (t : FileTree) (n : ℕ) → is_dir (node_at t n) ≡ true → n < length t.objects
dir_in_range t n h = in_range t n (ap is_some (dir_parts (node_at t n) h))

pub kind_is : (n : Option Node) (kind : NodeKind) → option_map kind_of n ≡ Some kind → (node : Node) × (n ≡ Some node) × (kind ≡ kind_of node)
kind_is None kind h = absurd (cc)
kind_is (Some node) kind h = let e : kind ≡ kind_of node = cc in (node, refl, e)

-- a file by its parts
pub file_parts : (node : Option Node) → is_file node ≡ true → node ≡ Some (File (blocks_of node))
file_parts (Some (Dir entries rooms)) h = absurd (cc)
file_parts (Some (File blocks)) h = refl
file_parts None h = absurd (cc)
