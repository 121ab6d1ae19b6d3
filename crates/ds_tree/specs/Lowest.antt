-- The free choices that a tree in memory makes: the lowest free object number with the birth after its last, and the
-- lowest free blocks, in order.
use Rattle.std.specs.Prelude.{◌≡◌, ℕ, ◌+◌, ◌-◌, ◌<◌, not, nat_eq, List, ◌++◌, length, take, filter, IsSome}
use Rattle.std.specs.List.{list_any, range_with_len}
use Rattle.ds_base.specs.declared.geometry.Geom.{Geom}
use Rattle.ds_base.specs.declared.geometry.Kind.TheVariants.{Fb}
use Rattle.ds_base.specs.declared.names.Key.{Key}
use Rattle.ds_base.specs.Geometry.{items_of}
use Rattle.ds_tree.specs.declared.calls.CallOf.{CallOf}
use Rattle.ds_tree.specs.declared.calls.CallOf.TheVariants as calls
use Rattle.ds_tree.specs.declared.calls.TreeReply.{TreeReply}
use Rattle.ds_tree.specs.declared.calls.TreeReply.TheVariants as replies
use Rattle.ds_tree.specs.Nodes.{FileTree, node_at, birth_at, blocks_of, all_blocks}

-- the least free object number, and the birth one above its last
pub record IsLowestKey (t : FileTree) (key : Key) : Type 0 where
  pub used_below : (n : ℕ) → n < key.object → IsSome (node_at t n)
  pub next_birth : key.birth ≡ birth_at t key.object + 1

-- the blocks that no file has, in order
abbrev pub free_blocks : Geom → FileTree → List ℕ
free_blocks g t = filter (λ b. not (list_any (nat_eq b) (all_blocks t))) (range_with_len 0 (items_of g Fb))

-- the blocks of a file that is resized: its first ones, and then the lowest free ones that it needs
abbrev pub resized : Geom → FileTree → List ℕ → ℕ → List ℕ
resized g t blocks size = take size blocks ++ take (size - length blocks) (free_blocks g t)

-- a call's free choices are the lowest
abbrev pub TakesLowest : Geom → FileTree → CallOf Key → TreeReply → FileTree → Type 0
TakesLowest g t (calls.Mkdir dir name) (replies.Made key) u = IsLowestKey t key
TakesLowest g t (calls.Create dir name) (replies.Made key) u = IsLowestKey t key
TakesLowest g t (calls.Resize file size) (replies.Sized blocks) u =
    blocks_of (node_at u file.object) ≡ resized g t (blocks_of (node_at t file.object)) size
TakesLowest g t _ _ u = Unit {0}
