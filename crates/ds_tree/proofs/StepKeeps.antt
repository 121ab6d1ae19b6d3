-- A step keeps the rules of a tree.
use Rattle.std.proofs.Common.{◌≡◌, ℕ, false, inl, inr, List, refl, sym, ap, subst, ◌∙◌}
use Rattle.std.specs.Prelude.{Option, Some, None, MatchOption, Result, Ok, Err, IfOk, OnErr, ◌==◌, if◌then◌else◌}
use Rattle.std.proofs.lemmas.Bool.Decides.{eqb_tells}
use Rattle.std.specs.FinMap as maps
use Rattle.ds_base.specs.declared.geometry.Geom.{Geom}
use Rattle.ds_base.specs.declared.names.Key.{Key}
use Rattle.ds_base.specs.declared.names.NodeKind.{NodeKind}
use Rattle.ds_base.specs.declared.names.NodeKind.TheVariants as nodes
use Rattle.ds_base.specs.declared.outside.NoMemory.{NoMemory}
use Rattle.ds_base.specs.Names.{IsName}
use Rattle.ds_tree.specs.declared.calls.CallOf.{CallOf}
use Rattle.ds_tree.specs.declared.calls.CallOf.TheVariants as calls
use Rattle.ds_tree.specs.declared.calls.TreeReply.{TreeReply}
use Rattle.ds_tree.specs.declared.calls.TreeReply.TheVariants as replies
use Rattle.ds_tree.specs.CallNames.{HasNames}
use Rattle.ds_tree.specs.Nodes.{Entries, Dir, Object, FileTree, node_at, birth_at, blocks_of, with_object, with_node}
use Rattle.ds_tree.specs.Steps.{is_dir, refusal, refuses_new, refuses_remove, refuses_rmdir, refuses_rename, refuses_resize, Makes, Removes, Renames, Resizes, rooms_with_one_more, Succeeds, Does}
use Rattle.ds_tree.specs.Trees.{entries_of, rooms_of, empty_node}
use Rattle.ds_tree.specs.WellFormed.{IsTree}
use Rattle.ds_tree.proofs.Granted.{New, InDir, in_dir-granted, in_file-granted, new-granted, move-granted, resize-granted, remove-granted, rmdir-granted, entry-is}
use Rattle.ds_tree.proofs.MakeKeeps.{make-keeps}
use Rattle.ds_tree.proofs.ObjectLists.{none_from, with_object-there}
use Rattle.ds_tree.proofs.RemoveKeeps.{remove-keeps}
use Rattle.ds_tree.proofs.RenameAcrossKeeps.{rename-across-keeps}
use Rattle.ds_tree.proofs.RenameInsideKeeps.{rename-inside-keeps}
use Rattle.ds_tree.proofs.ResizeKeeps.{resize-keeps}

module _ (g : Geom) (t : FileTree) (is : IsTree g t) where
  made : (dir key : Key) (name : List ℕ) (kind : NodeKind) (u : FileTree) → IsName name
      → InDir t dir (refuses_new g t name) → Makes g t dir name (empty_node kind) key u → IsTree g u
  made dir key name kind u named granted m =
      let new = new-granted g t name _ _ granted.next in
      let n : New g t name m.entries m.rooms = subst (λ node. New g t name (entries_of node) (rooms_of node)) m.in_dir new in
      subst (IsTree g) (sym m.made)
      (make-keeps g t is dir.object key.object key.birth m.entries m.rooms name kind m.in_dir m.in_range m.free m.later
      (none_from _ n.absent) n.few named n.object n.room)

  gone : (dir key : Key) (name : List ℕ) (u : FileTree) (r : Removes t dir name key u) → entries_of (node_at t key.object) ≡ maps.empty → IsTree g u
  gone dir key name u r bare =
      subst (IsTree g) (sym (r.removed ∙ ap (λ b. with_object (with_node t dir.object (Dir (maps.remove r.entries name) r.rooms)) key.object (record { birth = b; node = None })) (sym r.life)))
      (remove-keeps g t is dir.object key.object r.entries r.rooms name r.in_dir r.entry bare)

  removed : (dir key : Key) (name : List ℕ) (u : FileTree) → InDir t dir (refuses_remove t name) → Removes t dir name key u → IsTree g u
  removed dir key name u granted r =
      let next : refuses_remove t name r.entries r.rooms ≡ None = subst (λ n. refuses_remove t name (entries_of n) (rooms_of n) ≡ None) r.in_dir granted.next in
      gone dir key name u r (remove-granted t name r.entries r.rooms key.object next r.entry)

  removed_dir : (dir key : Key) (name : List ℕ) (u : FileTree) → InDir t dir (refuses_rmdir t name) → Removes t dir name key u → IsTree g u
  removed_dir dir key name u granted r =
      let next : refuses_rmdir t name r.entries r.rooms ≡ None = subst (λ n. refuses_rmdir t name (entries_of n) (rooms_of n) ≡ None) r.in_dir granted.next in
      gone dir key name u r (rmdir-granted t name r.entries r.rooms key.object next r.entry)

  moved : (dir to key : Key) (name fresh : List ℕ) (u : FileTree) → IsName fresh → (r : Renames t dir name to fresh key u)
      → refuses_rename g t (dir.object == to.object) name fresh r.entries r.entries' r.rooms' ≡ None → IsTree g u
  moved dir to key name fresh u named r h =
      let move = move-granted g t (dir.object == to.object) name fresh r.entries r.entries' r.rooms' h in
      elim (eqb_tells dir.object to.object) [
        | inl p ↦
            let same : Some (Dir r.entries r.rooms) ≡ Some (Dir r.entries' r.rooms') = sym r.in_dir ∙ ap (node_at t) p.1 ∙ r.in_to in
            let entries_same : r.entries' ≡ r.entries = cc in
            let absent : maps.get r.entries fresh ≡ None = ap (λ (m : Entries). maps.get m fresh) (sym entries_same) ∙ none_from _ move.absent in
            subst (IsTree g) (sym (r.moved ∙ ap (λ b. if b
            then with_node t dir.object (Dir (maps.insert (maps.remove r.entries name) fresh key.object) r.rooms)
            else with_node (with_node t dir.object (Dir (maps.remove r.entries name) r.rooms)) to.object (Dir (maps.insert r.entries' fresh key.object) (rooms_with_one_more r.entries' r.rooms'))) p.0))
            (rename-inside-keeps g t is dir.object key.object r.entries r.rooms name fresh r.in_dir r.entry absent named)
        | inr p ↦
            let file : is_dir (node_at t key.object) ≡ false = sym (ap is_dir (entry-is t r.entries name key.object r.entry)) ∙ move.file p.0 in
            let x : Object = record { birth = birth_at t dir.object; node = Some (Dir (maps.remove r.entries name) r.rooms) } in
            let birth : birth_at (with_object t dir.object x) to.object ≡ birth_at t to.object =
            ap (λ (o : Object). o.birth) (with_object-there t dir.object to.object x (λ e. p.1 (sym e))) in
            subst (IsTree g) (sym (r.moved ∙ ap (λ b. if b
            then with_node t dir.object (Dir (maps.insert (maps.remove r.entries name) fresh key.object) r.rooms)
            else with_node (with_node t dir.object (Dir (maps.remove r.entries name) r.rooms)) to.object (Dir (maps.insert r.entries' fresh key.object) (rooms_with_one_more r.entries' r.rooms'))) p.0
            ∙ ap (λ b. with_object (with_object t dir.object x) to.object (record { birth = b; node = Some (Dir (maps.insert r.entries' fresh key.object) (rooms_with_one_more r.entries' r.rooms')) })) birth))
            (rename-across-keeps g t is dir.object key.object to.object r.entries r.rooms r.entries' r.rooms' name fresh r.in_dir r.in_to p.1 r.entry file
            (none_from _ move.absent) named (move.few p.0) (move.room p.0))
      ]

  resized : (file : Key) (size : ℕ) (u : FileTree) (r : Resizes g t file size u) → refuses_resize g t size r.blocks ≡ None → IsTree g u
  resized file size u r h =
      let granted = resize-granted g t size r.blocks h in
      subst (IsTree g) (sym r.resized)
      (resize-keeps g t is file.object size r.blocks r.added r.in_file granted.0 r.grows r.in_range r.free r.distinct granted.1 granted.2)

  -- a call that isn't refused keeps the rules
  pub success-keeps : (call : CallOf Key) (reply : TreeReply) (u : FileTree) → HasNames call → refusal g t call ≡ None → Succeeds g t call reply u → IsTree g u
  success-keeps (calls.Mkdir dir name) (replies.Made key) u names h s = made dir key name nodes.Dir u names (in_dir-granted t dir (refuses_new g t name) h) s
  success-keeps (calls.Mkdir dir name) _ u names h s = absurd s
  success-keeps (calls.Create dir name) (replies.Made key) u names h s = made dir key name nodes.File u names (in_dir-granted t dir (refuses_new g t name) h) s
  success-keeps (calls.Create dir name) _ u names h s = absurd s
  success-keeps (calls.Lookup dir name) (replies.Found key kind) u names h s = subst (IsTree g) (sym s.3) is
  success-keeps (calls.Lookup dir name) _ u names h s = absurd s
  success-keeps (calls.List dir after) (replies.Page total page) u names h s = subst (IsTree g) (sym s.1) is
  success-keeps (calls.List dir after) _ u names h s = absurd s
  success-keeps (calls.Stat key) (replies.Info kind size) u names h s = subst (IsTree g) (sym s.4) is
  success-keeps (calls.Stat key) _ u names h s = absurd s
  success-keeps (calls.Map file page) (replies.Blocks list) u names h s = subst (IsTree g) (sym s.3) is
  success-keeps (calls.Map file page) _ u names h s = absurd s
  success-keeps (calls.Resize file size) (replies.Sized blocks) u names h s =
      let granted = in_file-granted t file (refuses_resize g t size) h in
      resized file size u s.1 (subst (λ n. refuses_resize g t size (blocks_of n) ≡ None) s.1.in_file granted.next)
  success-keeps (calls.Resize file size) _ u names h s = absurd s
  success-keeps (calls.Remove dir name) (replies.Gone key) u names h s = removed dir key name u (in_dir-granted t dir (refuses_remove t name) h) s
  success-keeps (calls.Remove dir name) _ u names h s = absurd s
  success-keeps (calls.Rmdir dir name) (replies.Gone key) u names h s = removed_dir dir key name u (in_dir-granted t dir (refuses_rmdir t name) h) s
  success-keeps (calls.Rmdir dir name) _ u names h s = absurd s
  success-keeps (calls.Rename dir name to fresh) (replies.Moved key) u names h s =
      let outer = in_dir-granted t dir _ h in
      let inner = in_dir-granted t to _ outer.next in
      let at_dir = subst (λ n. refuses_rename g t (dir.object == to.object) name fresh (entries_of n) (entries_of (node_at t to.object)) (rooms_of (node_at t to.object)) ≡ None) s.in_dir inner.next in
      moved dir to key name fresh u names.1 s
      (subst (λ n. refuses_rename g t (dir.object == to.object) name fresh s.entries (entries_of n) (rooms_of n) ≡ None) s.in_to at_dir)
  success-keeps (calls.Rename dir name to fresh) _ u names h s = absurd s
  success-keeps (calls.OpenFile file) (replies.Opened size) u names h s = subst (IsTree g) (sym s.3) is
  success-keeps (calls.OpenFile file) _ u names h s = absurd s
  success-keeps (calls.At file index) (replies.AtBlock block) u names h s = subst (IsTree g) (sym s.3) is
  success-keeps (calls.At file index) _ u names h s = absurd s

  -- a step keeps the rules
  pub step-keeps : (call : CallOf Key) (reply : TreeReply) (u : FileTree) → HasNames call → Does g t call reply u → IsTree g u
  step-keeps call reply u names does = go (refusal g t call) refl does
    where
      go : (refused : Option TreeReply) → refusal g t call ≡ refused → MatchOption refused (Succeeds g t call reply u) (λ r. (reply ≡ r) × (u ≡ t)) → IsTree g u
      go None e s = success-keeps call reply u names e s
      go (Some r) e s = subst (IsTree g) (sym s.1) is

  -- what a call comes to keeps the rules, also where there is no memory
  pub outcome-keeps : (call : CallOf Key) (u : FileTree) (result : Result TreeReply NoMemory) → HasNames call → refusal g t call ≡ None
      → IfOk result (λ reply. Succeeds g t call reply u) → OnErr result (u ≡ t) → IsTree g u
  outcome-keeps call u (Ok reply) names granted succeeds same = success-keeps call reply u names granted succeeds
  outcome-keeps call u (Err e) names granted succeeds same = subst (IsTree g) (sym same) is
