-- How a call that takes an object away is refused.
use Rattle.std.proofs.Common.{◌≡◌, ℕ, true, false, not, nat_lt, List, Option, None, Some, refl, ap, ◌∙◌, is_some}
use Rattle.std.specs.FinMap as maps
use Rattle.ds_base.specs.declared.geometry.Geom.{Geom}
use Rattle.ds_base.specs.declared.names.Key.{Key}
use Rattle.ds_base.specs.declared.names.NodeKind.{NodeKind}
use Rattle.ds_base.specs.declared.names.NodeKind.TheVariants as kinds
use Rattle.ds_plan_laws_gone.specs.Leaving.{go_call}
use Rattle.ds_plan_laws_gone.proofs.Going.{entry-node}
use Rattle.ds_tree.specs.Nodes.{Entries, Dir, File, FileTree, node_at, node_of_key}
use Rattle.ds_tree.specs.Steps.{Does, refuses_remove, refuses_rmdir, entry_node, has_entries, is_dir, is_file}
use Rattle.ds_tree.specs.declared.calls.TreeReply.{TreeReply}
use Rattle.ds_tree.specs.declared.calls.TreeReply.TheVariants as replies

pub go-missing : (g : Geom) (kind : NodeKind) (dir : Key) (name : List ℕ) (t : FileTree) → node_of_key t dir ≡ None → Does g t (go_call kind dir name) replies.NoObject t
go-missing g kinds.Dir dir name t none = rw none (refl, refl)
go-missing g kinds.File dir name t none = rw none (refl, refl)

pub go-no_dir : (g : Geom) (kind : NodeKind) (dir : Key) (name : List ℕ) (t : FileTree) (blocks : List ℕ) → node_of_key t dir ≡ Some (File blocks) → Does g t (go_call kind dir name) replies.NotDir t
go-no_dir g kinds.Dir dir name t blocks file = rw file (refl, refl)
go-no_dir g kinds.File dir name t blocks file = rw file (refl, refl)

-- the refusals for what stands in the directory
abbrev pub refuses_go : NodeKind → FileTree → List ℕ → Entries → ℕ → Option TreeReply
refuses_go kinds.Dir t name entries rooms = refuses_rmdir t name entries rooms
refuses_go kinds.File t name entries rooms = refuses_remove t name entries rooms

pub go-refused : (g : Geom) (kind : NodeKind) (dir : Key) (name : List ℕ) (t : FileTree) (entries : Entries) (rooms : ℕ) (reply : TreeReply) → node_of_key t dir ≡ Some (Dir entries rooms)
    → refuses_go kind t name entries rooms ≡ Some reply → Does g t (go_call kind dir name) reply t
go-refused g kinds.Dir dir name t entries rooms reply is refused = rw (is, refused) (refl, refl)
go-refused g kinds.File dir name t entries rooms reply is refused = rw (is, refused) (refl, refl)

-- there is no entry of the name
pub not_found : (kind : NodeKind) (t : FileTree) (name : List ℕ) (entries : Entries) (rooms : ℕ) → maps.get entries name ≡ None → refuses_go kind t name entries rooms ≡ Some replies.NotFound
not_found kinds.Dir t name entries rooms none =
    let absent : not (maps.contains_key entries name) ≡ true = ap (λ (r : Option ℕ). not (is_some r)) none in
    rw absent refl
not_found kinds.File t name entries rooms none =
    let absent : not (maps.contains_key entries name) ≡ true = ap (λ (r : Option ℕ). not (is_some r)) none in
    rw absent refl

module _ (t : FileTree) (name : List ℕ) (entries : Entries) (rooms object : ℕ) (there : maps.get entries name ≡ Some object) where
  present : not (maps.contains_key entries name) ≡ false
  present = ap (λ (r : Option ℕ). not (is_some r)) there

  -- a directory isn't removed as a file, nor a file as a directory
  pub not_file : (below : Entries) (more : ℕ) → node_at t object ≡ Some (Dir below more) → refuses_go kinds.File t name entries rooms ≡ Some replies.NotFile
  not_file below more is =
      let dir : is_dir (entry_node t entries name) ≡ true = ap is_dir (entry-node t entries name object there ∙ is) in
      rw (present, dir) refl

  pub not_dir : (blocks : List ℕ) → node_at t object ≡ Some (File blocks) → refuses_go kinds.Dir t name entries rooms ≡ Some replies.NotDir
  not_dir blocks is =
      let file : is_file (entry_node t entries name) ≡ true = ap is_file (entry-node t entries name object there ∙ is) in
      rw (present, file) refl

  -- a directory that has an entry isn't removed
  pub not_empty : (below : Entries) (more : ℕ) → node_at t object ≡ Some (Dir below more) → nat_lt 0 (maps.len below) ≡ true → refuses_go kinds.Dir t name entries rooms ≡ Some replies.NotEmpty
  not_empty below more is some =
      let no_file : is_file (entry_node t entries name) ≡ false = ap is_file (entry-node t entries name object there ∙ is) in
      let full : has_entries (entry_node t entries name) ≡ true = ap has_entries (entry-node t entries name object there ∙ is) ∙ some in
      rw (present, no_file, full) refl
