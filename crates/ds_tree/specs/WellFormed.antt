-- The rules of a file tree.
use Rattle.std.specs.Prelude.{◌≡◌, ℕ, ◌≤◌, ◌<◌, ◌%◌, true, List, length, slice_get, All, Some, IsSome}
use Rattle.std.specs.FinMap as maps
use Rattle.ds_base.specs.declared.geometry.Geom.{Geom}
use Rattle.ds_base.specs.declared.geometry.Kind.{Kind}
use Rattle.ds_base.specs.declared.geometry.Kind.TheVariants.{Fd, Fb}
use Rattle.ds_base.specs.Geometry.{items_of}
use Rattle.ds_base.specs.Names.{IsName}
use Rattle.ds_tree.specs.Nodes.{Entries, Dir, File, FileTree, node_at, birth_at, blocks_of}
use Rattle.ds_tree.specs.Counts.{used_of}
use Rattle.ds_tree.specs.Steps.{is_dir}
use Rattle.ds_tree.specs.Trees.{entries_of}

-- the entry of this name in this directory is this object
abbrev pub Names : FileTree → ℕ → List ℕ → ℕ → Type 0
Names t dir name object = maps.get (entries_of (node_at t dir)) name ≡ Some object

-- an object is reached from the root: it is the root, or an entry of a directory that is reached
pub data Reached (t : FileTree) : ℕ → Type 0 where
  root : Reached t 0
  entry : (dir : ℕ) (name : List ℕ) (object : ℕ) → Reached t dir → Names t dir name object → Reached t object

-- the rules of each directory: its entries' names are names, and they have rooms, which stand in sub-blocks of four
pub record IsDir (entries : Entries) (rooms : ℕ) : Type 0 where
  pub names : (name : List ℕ) (object : ℕ) → maps.get entries name ≡ Some object → IsName name
  pub have_rooms : maps.len entries ≤ rooms
  pub most : rooms ≤ 384
  pub by_four : rooms % 4 ≡ 0

-- each used object but the root has exactly one name; free ones and the root have none
pub record AreNamedOnce (t : FileTree) : Type 0 where
  pub used : (dir : ℕ) (name : List ℕ) (object : ℕ) → Names t dir name object → IsSome (node_at t object)
  pub not_root : (dir : ℕ) (name : List ℕ) → ¬ Names t dir name 0
  pub once : (dir dir' : ℕ) (name name' : List ℕ) (object : ℕ) → Names t dir name object → Names t dir' name' object
      → (dir ≡ dir') × (name ≡ name')

-- no block stands in two places
abbrev pub AreApart : FileTree → Type 0
AreApart t = (n m i j b : ℕ) → slice_get (blocks_of (node_at t n)) i ≡ Some b → slice_get (blocks_of (node_at t m)) j ≡ Some b
    → (n ≡ m) × (i ≡ j)

pub record IsTree (g : Geom) (t : FileTree) : Type 0 where
  pub count : length t.objects ≡ items_of g Fd
  pub root_dir : is_dir (node_at t 0) ≡ true
  pub root_birth : birth_at t 0 ≡ 1
  pub born : (n : ℕ) → IsSome (node_at t n) → 1 ≤ birth_at t n
  pub dirs : (n : ℕ) (entries : Entries) (rooms : ℕ) → node_at t n ≡ Some (Dir entries rooms) → IsDir entries rooms
  pub files : (n : ℕ) (blocks : List ℕ) → node_at t n ≡ Some (File blocks) → length blocks ≤ 12288
  pub named_once : AreNamedOnce t
  pub reached : (n : ℕ) → IsSome (node_at t n) → Reached t n
  pub blocks_apart : AreApart t
  pub blocks_in_range : (n : ℕ) → All (λ b. b < items_of g Fb) (blocks_of (node_at t n))
  pub within : (kind : Kind) → used_of t kind ≤ items_of g kind
