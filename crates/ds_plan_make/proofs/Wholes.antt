-- What the tree says of a call that makes an object.
use Rattle.std.proofs.Common.{◌≡◌, ℕ, List, None, Some, refl, arith}
use Rattle.std.specs.List.{Contains}
use Rattle.ds_base.specs.declared.geometry.Geom.{Geom}
use Rattle.ds_base.specs.declared.names.Key.{Key}
use Rattle.ds_base.specs.declared.names.NodeKind.{NodeKind}
use Rattle.ds_base.specs.declared.names.NodeKind.TheVariants as kinds
use Rattle.ds_plan_laws_new.specs.Entering.{make_call}
use Rattle.ds_image.specs.Locks.{keys_of}
use Rattle.ds_tree.specs.Nodes.{Entries, Dir, File, FileTree, node_of_key}
use Rattle.ds_tree.specs.Steps.{Does, refuses_new}
use Rattle.ds_tree.specs.declared.calls.TreeReply.{TreeReply}
use Rattle.ds_tree.specs.declared.calls.TreeReply.TheVariants as replies

-- the directory of a call
pub has-key : (kind : NodeKind) (dir : Key) (name : List ℕ) → Contains (keys_of (make_call kind dir name)) dir
has-key kinds.Dir dir name = (0, omega arith, refl)
has-key kinds.File dir name = (0, omega arith, refl)

-- how a call is refused
pub make-missing : (g : Geom) (kind : NodeKind) (dir : Key) (name : List ℕ) (t : FileTree) → node_of_key t dir ≡ None → Does g t (make_call kind dir name) replies.NoObject t
make-missing g kinds.Dir dir name t none = rw none (refl, refl)
make-missing g kinds.File dir name t none = rw none (refl, refl)

pub make-no_dir : (g : Geom) (kind : NodeKind) (dir : Key) (name : List ℕ) (t : FileTree) (blocks : List ℕ) → node_of_key t dir ≡ Some (File blocks) → Does g t (make_call kind dir name) replies.NotDir t
make-no_dir g kinds.Dir dir name t blocks file = rw file (refl, refl)
make-no_dir g kinds.File dir name t blocks file = rw file (refl, refl)

pub make-refused : (g : Geom) (kind : NodeKind) (dir : Key) (name : List ℕ) (t : FileTree) (entries : Entries) (rooms : ℕ) (reply : TreeReply) → node_of_key t dir ≡ Some (Dir entries rooms)
    → refuses_new g t name entries rooms ≡ Some reply → Does g t (make_call kind dir name) reply t
make-refused g kinds.Dir dir name t entries rooms reply is refused = rw (is, refused) (refl, refl)
make-refused g kinds.File dir name t entries rooms reply is refused = rw (is, refused) (refl, refl)
