-- No refusal holds where an object without entries can go with its entry: so the call takes them away, and the tree keeps
-- the rules.
use Rattle.std.proofs.Common.{◌≡◌, ℕ, false, not, nat_lt, List, [], Option, Some, None, MatchOption, refl, sym, ap, subst, ◌∙◌}
use Rattle.std.specs.Prelude.{is_some}
use Rattle.std.specs.FinMap as maps
use Rattle.std.specs.Ordering.{nat_cmp}
use Rattle.std.specs.Cmp.Lexicographic.{slice_cmp}
use Rattle.ds_base.specs.Names.{IsName}
use Rattle.ds_base.specs.declared.geometry.Geom.{Geom}
use Rattle.ds_base.specs.declared.names.Key.{Key}
use Rattle.ds_base.specs.declared.names.NodeKind.{NodeKind}
use Rattle.ds_base.specs.declared.names.NodeKind.TheVariants as kinds
use Rattle.ds_fd.specs.declared.body.Body.{Body}
use Rattle.ds_tree.proofs.StepKeeps.{step-keeps}
use Rattle.ds_tree.specs.CallNames.{HasNames}
use Rattle.ds_tree.specs.Nodes.{Entries, Node, Dir, FileTree, node_at, node_of_key}
use Rattle.ds_tree.specs.Steps.{in_dir, entry_node, is_dir, is_file, has_entries, refusal, refuses_remove, refuses_rmdir, Removes, Succeeds, Does}
use Rattle.ds_tree.specs.WellFormed.{IsTree}
use Rattle.ds_tree.specs.declared.calls.TreeReply.TheVariants.{Gone}
use Rattle.ds_image_parts.specs.Objects.{subs_of, subs_by, used_rooms, node_by}
use Rattle.ds_image_parts.specs.Parts.{Parts}
use Rattle.ds_plan_laws_new.specs.Entering.{subs_in}
use Rattle.ds_plan_laws_new.proofs.Names.{by_name}
use Rattle.ds_plan_laws_gone.specs.Leaving.{go_call}

-- the node of an entry that is there
pub entry-node : (t : FileTree) (entries : Entries) (name : List ℕ) (object : ℕ) → maps.get entries name ≡ Some object
    → entry_node t entries name ≡ node_at t object
entry-node t entries name object there = go (maps.get entries name) there
  where
    go : (found : Option ℕ) → found ≡ Some object → (elim found [ None ↦ None | Some n ↦ node_at t n ]) ≡ node_at t object
    go None e = absurd (cc)
    go (Some n) e = let is : n ≡ object = cc in ap (node_at t) is

-- what a node of each kind must be so that it can go: a file, or a directory without entries
abbrev pub CanGo : NodeKind → Option Node → Type 0
CanGo kinds.File node = is_dir node ≡ false
CanGo kinds.Dir node = (is_file node ≡ false) × (has_entries node ≡ false)

-- the node of a body without entries can go
pub bare-can_go : (p : Parts) (b : Body) (kind : NodeKind) → b.kind ≡ Some kind → used_rooms p (subs_of (Some b)) ≡ [] → CanGo kind (node_by p b (Some kind))
bare-can_go p b kinds.File is bare = refl
bare-can_go p b kinds.Dir is bare =
    let none : used_rooms p (subs_in b) ≡ [] = ap (λ k. used_rooms p (subs_by b k)) (sym is) ∙ bare in
    let count : maps.len (by_name (used_rooms p (subs_in b))) ≡ 0 = ap (λ es. maps.len (by_name es)) none ∙ maps.len-empty (slice_cmp nat_cmp) ℕ in
    (refl, ap (λ n. nat_lt 0 n) count)

module _ (g : Geom) (t : FileTree) (dir : Key) (name : List ℕ) (entries : Entries) (rooms object : ℕ) (dir_is : node_of_key t dir ≡ Some (Dir entries rooms))
    (found : maps.get entries name ≡ Some object) where
  known : not (maps.contains_key entries name) ≡ false
  known = ap (λ (r : Option ℕ). not (is_some r)) found

  -- the call isn't refused
  pub go-granted : (kind : NodeKind) → CanGo kind (node_at t object) → refusal g t (go_call kind dir name) ≡ None
  go-granted kinds.File can =
      let file : is_dir (entry_node t entries name) ≡ false = ap is_dir (entry-node t entries name object found) ∙ can in
      let granted : refuses_remove t name entries rooms ≡ None = rw (known, file) refl in
      ap (λ node. in_dir node (refuses_remove t name)) dir_is ∙ granted
  go-granted kinds.Dir can =
      let first : is_file (entry_node t entries name) ≡ false = ap is_file (entry-node t entries name object found) ∙ can.0 in
      let second : has_entries (entry_node t entries name) ≡ false = ap has_entries (entry-node t entries name object found) ∙ can.1 in
      let granted : refuses_rmdir t name entries rooms ≡ None = rw (known, first, second) refl in
      ap (λ node. in_dir node (refuses_rmdir t name)) dir_is ∙ granted

  gone-succeeds : (kind : NodeKind) (key : Key) (u : FileTree) → Removes t dir name key u → Succeeds g t (go_call kind dir name) (Gone key) u
  gone-succeeds kinds.Dir key u removes = removes
  gone-succeeds kinds.File key u removes = removes

  -- so it takes the object away
  pub go-does : (kind : NodeKind) → CanGo kind (node_at t object) → (key : Key) (u : FileTree) → Removes t dir name key u → Does g t (go_call kind dir name) (Gone key) u
  go-does kind can key u removes =
      subst (λ r. MatchOption r (Succeeds g t (go_call kind dir name) (Gone key) u) (λ refused. (Gone key ≡ refused) × (u ≡ t))) (sym (go-granted kind can))
      (gone-succeeds kind key u removes)

  has-names : (kind : NodeKind) → IsName name → HasNames (go_call kind dir name)
  has-names kinds.Dir is = is
  has-names kinds.File is = is

  -- and what it leaves keeps the rules
  pub go-is_tree : IsTree g t → IsName name → (kind : NodeKind) → CanGo kind (node_at t object) → (key : Key) (u : FileTree) → Removes t dir name key u → IsTree g u
  go-is_tree is named kind can key u removes =
      step-keeps g t is (go_call kind dir name) (Gone key) u (has-names kind named) (go-does kind can key u removes)
