-- An entry that stands under another name.
use Rattle.std.proofs.Common.{◌≡◌, ◌≢◌, ℕ, ◌<◌, List, length, sym, ap, ◌∙◌}
use Rattle.std.specs.Prelude.{Some, None}
use Rattle.std.specs.FinMap as maps
use Rattle.ds_tree.specs.Nodes.{Entries, Node, Dir, Object, FileTree, object_at, node_at, birth_at, with_object, with_node}
use Rattle.ds_tree.specs.Trees.{entries_of, rooms_of}
use Rattle.ds_tree.proofs.EntryLists.{remove-insert}
use Rattle.ds_tree.proofs.ObjectLists.{with_object-here, with_object-there, with_object-twice, with_object-swap}

-- an object without the entry of this name
without : Object → List ℕ → Object
without o name = record { birth = o.birth; node = Some (Dir (maps.remove (entries_of o.node) name) (rooms_of o.node)) }

-- in one directory, first put and then taken
pub renamed-inside : (t : FileTree) (dir : ℕ) (entries : Entries) (rooms : ℕ) (name fresh : List ℕ) (object : ℕ)
    → dir < length t.objects → maps.get entries name ≡ Some object → maps.get entries fresh ≡ None
    → (t1 t2 : FileTree) → t1 ≡ with_node t dir (Dir (maps.insert entries fresh object) rooms)
    → t2 ≡ with_node t1 dir (Dir (maps.remove (entries_of (node_at t1 dir)) name) (rooms_of (node_at t1 dir)))
    → t2 ≡ with_node t dir (Dir (maps.insert (maps.remove entries name) fresh object) rooms)
unfolding without
renamed-inside t dir entries rooms name fresh object within there absent t1 t2 is1 is2 =
    let put : Object = record { birth = birth_at t dir; node = Some (Dir (maps.insert entries fresh object) rooms) } in
    let here : object_at t1 dir ≡ put = ap (λ u. object_at u dir) is1 ∙ with_object-here t dir put within in
    is2 ∙ ap (λ o. with_object t1 dir (without o name)) here ∙ ap (λ u. with_object u dir (without put name)) is1
    ∙ with_object-twice t dir put (without put name)
    ∙ ap (λ (m : Entries). with_node t dir (Dir m rooms)) (remove-insert entries name fresh object object there absent)

-- from one directory to another, first put and then taken
pub renamed-across : (t : FileTree) (dir to : ℕ) (entries : Entries) (rooms : ℕ) (name : List ℕ) (node : Node)
    → dir ≢ to → node_at t dir ≡ Some (Dir entries rooms)
    → (t1 t2 : FileTree) → t1 ≡ with_node t to node
    → t2 ≡ with_node t1 dir (Dir (maps.remove (entries_of (node_at t1 dir)) name) (rooms_of (node_at t1 dir)))
    → t2 ≡ with_node (with_node t dir (Dir (maps.remove entries name) rooms)) to node
unfolding without
renamed-across t dir to entries rooms name node apart in_dir t1 t2 is1 is2 =
    let put : Object = record { birth = birth_at t to; node = Some node } in
    let left : Object = record { birth = birth_at t dir; node = Some (Dir (maps.remove entries name) rooms) } in
    let there : object_at t1 dir ≡ object_at t dir = ap (λ u. object_at u dir) is1 ∙ with_object-there t to dir put apart in
    let is_left : without (object_at t dir) name ≡ left =
    ap (λ n. record { birth = birth_at t dir; node = Some (Dir (maps.remove (entries_of n) name) (rooms_of n)) }) in_dir in
    let back : birth_at t to ≡ birth_at (with_object t dir left) to =
    ap (λ (o : Object). o.birth) (sym (with_object-there t dir to left (λ e. apart (sym e)))) in
    is2 ∙ ap (λ o. with_object t1 dir (without o name)) there ∙ ap (λ o. with_object t1 dir o) is_left
    ∙ ap (λ u. with_object u dir left) is1
    ∙ with_object-swap t to dir put left (λ e. apart (sym e))
    ∙ ap (λ b. with_object (with_object t dir left) to (record { birth = b; node = Some node })) back
