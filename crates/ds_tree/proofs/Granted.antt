-- What holds where a call isn't refused.
use Rattle.std.proofs.Common.{◌≡◌, ◌≢◌, ℕ, ◌-◌, ◌<◌, ◌≤◌, Bool, true, false, List, length, refl, sym, ap, ◌∙◌, arith}
use Rattle.std.specs.Prelude.{Option, Some, None, IsSome, is_some, is_none, not, ◌==◌, ◌&&◌, nat_le, nat_lt, if◌then◌else◌}
use Rattle.std.proofs.lemmas.Bool.Decides.{nat_tests}
use Rattle.std.proofs.lemmas.Bool.{eqb-false}
use Rattle.std.specs.FinMap as maps
use Rattle.ds_base.specs.declared.geometry.Geom.{Geom}
use Rattle.ds_base.specs.declared.geometry.Kind.TheVariants.{Fd, Sb, Pb, Fb}
use Rattle.ds_base.specs.declared.names.Key.{Key}
use Rattle.ds_tree.specs.declared.calls.TreeReply.{TreeReply}
use Rattle.ds_tree.specs.declared.calls.TreeReply.TheVariants as replies
use Rattle.ds_tree.specs.Nodes.{Entries, Node, Dir, File, FileTree, node_at, birth_at, node_of_key, blocks_of}
use Rattle.ds_tree.specs.Counts.{pointer_blocks, free_of}
use Rattle.ds_tree.specs.Steps.{refuse, in_dir, in_file, is_dir, is_file, refuses_room, is_full, entry_node, has_entries, refuses_new, refuses_missing, refuses_remove, refuses_rmdir, refuses_rename, refuses_resize}
use Rattle.ds_tree.specs.Trees.{entries_of, rooms_of}

refuse-none : (b : Bool) (reply : TreeReply) (next : Option TreeReply) → refuse b reply next ≡ None → (b ≡ false) × (next ≡ None)
refuse-none true reply next h = absurd (cc)
refuse-none false reply next h = (refl, h)

in_dir-none : (n : Option Node) (next : Entries → ℕ → Option TreeReply) → in_dir n next ≡ None → (is_dir n ≡ true) × (next (entries_of n) (rooms_of n) ≡ None)
in_dir-none None next h = absurd (cc)
in_dir-none (Some (Dir entries rooms)) next h = (refl, h)
in_dir-none (Some (File blocks)) next h = absurd (cc)

in_file-none : (n : Option Node) (next : List ℕ → Option TreeReply) → in_file n next ≡ None → (is_file n ≡ true) × (next (blocks_of n) ≡ None)
in_file-none None next h = absurd (cc)
in_file-none (Some (Dir entries rooms)) next h = absurd (cc)
in_file-none (Some (File blocks)) next h = (refl, h)

not_false : (b : Bool) → not b ≡ false → b ≡ true
not_false true h = refl
not_false false h = absurd (cc)

is_some_dir : (n : Option Node) → is_dir n ≡ true → IsSome n
is_some_dir (Some node) h = refl
is_some_dir None h = absurd (cc)

is_some_file : (n : Option Node) → is_file n ≡ true → IsSome n
is_some_file (Some node) h = refl
is_some_file None h = absurd (cc)

-- the node that a key names is that of its object
pub node_of_key-is : (t : FileTree) (key : Key) → IsSome (node_of_key t key) → node_of_key t key ≡ node_at t key.object
node_of_key-is t key = go (birth_at t key.object == key.birth) (node_at t key.object)
  where
    go : (b : Bool) (n : Option Node) → IsSome (if b then n else None) → (if b then n else None) ≡ n
    go true n h = refl
    go false n h = absurd (cc)

-- the node of an entry that is there
pub entry-is : (t : FileTree) (entries : Entries) (name : List ℕ) (object : ℕ) → maps.get entries name ≡ Some object → entry_node t entries name ≡ node_at t object
entry-is t entries name object there = go (maps.get entries name) there
  where
    go : (o : Option ℕ) → o ≡ Some object → (elim o [ None ↦ None | Some n ↦ node_at t n ]) ≡ node_at t object
    go None e = absurd (cc)
    go (Some n) e = let is : n ≡ object = cc in ap (node_at t) is

-- what is no directory has no entries
pub file_names : (n : Option Node) → is_dir n ≡ false → entries_of n ≡ maps.empty
file_names None h = refl
file_names (Some (File blocks)) h = refl
file_names (Some (Dir entries rooms)) h = absurd (cc)

-- the directory of a call that isn't refused
pub record InDir (t : FileTree) (key : Key) (rest : Entries → ℕ → Option TreeReply) : Type 0 where
  pub is : is_dir (node_at t key.object) ≡ true
  pub next : rest (entries_of (node_at t key.object)) (rooms_of (node_at t key.object)) ≡ None

pub in_dir-granted : (t : FileTree) (dir : Key) (next : Entries → ℕ → Option TreeReply) → in_dir (node_of_key t dir) next ≡ None → InDir t dir next
in_dir-granted t dir next h =
    let g = in_dir-none (node_of_key t dir) next h in
    let e = node_of_key-is t dir (is_some_dir _ g.0) in
    record { is = ap is_dir (sym e) ∙ g.0; next = ap (λ n. next (entries_of n) (rooms_of n)) (sym e) ∙ g.1 }

pub record InFile (t : FileTree) (key : Key) (rest : List ℕ → Option TreeReply) : Type 0 where
  pub is : is_file (node_at t key.object) ≡ true
  pub next : rest (blocks_of (node_at t key.object)) ≡ None

pub in_file-granted : (t : FileTree) (file : Key) (next : List ℕ → Option TreeReply) → in_file (node_of_key t file) next ≡ None → InFile t file next
in_file-granted t file next h =
    let g = in_file-none (node_of_key t file) next h in
    let e = node_of_key-is t file (is_some_file _ g.0) in
    record { is = ap is_file (sym e) ∙ g.0; next = ap (λ n. next (blocks_of n)) (sym e) ∙ g.1 }

both_false : (a b : Bool) → (a && b) ≡ false → a ≡ true → b ≡ false
both_false true b h e = h
both_false false b h e = absurd (cc)

-- a room is granted
pub room-granted : (g : Geom) (t : FileTree) (entries : Entries) (rooms : ℕ) → refuses_room g t entries rooms ≡ None → is_full entries rooms ≡ true → free_of g t Sb ≢ 0
room-granted g t entries rooms h full = eqb-false _ _ (both_false _ _ (refuse-none _ _ _ h).0 full)

-- a new object is granted
pub record New (g : Geom) (t : FileTree) (name : List ℕ) (entries : Entries) (rooms : ℕ) : Type 0 where
  pub absent : maps.contains_key entries name ≡ false
  pub few : maps.len entries < 384
  pub object : free_of g t Fd ≢ 0
  pub room : is_full entries rooms ≡ true → free_of g t Sb ≢ 0

pub new-granted : (g : Geom) (t : FileTree) (name : List ℕ) (entries : Entries) (rooms : ℕ) → refuses_new g t name entries rooms ≡ None → New g t name entries rooms
new-granted g t name entries rooms h =
    let a = refuse-none _ _ _ h in
    let b = refuse-none _ _ _ a.1 in
    let c = refuse-none _ _ _ b.1 in
    record { absent = a.0; few = few (maps.len entries) b.0; object = eqb-false _ _ c.0; room = room-granted g t entries rooms c.1 }
  where
    few : (n : ℕ) → nat_le 384 n ≡ false → n < 384
    few n h = grind (arith, nat_tests)

pub found-granted : (entries : Entries) (name : List ℕ) (next : Option TreeReply) → refuses_missing entries name next ≡ None → maps.contains_key entries name ≡ true
found-granted entries name next h = not_false _ (refuse-none _ _ _ h).0

pub record Move (g : Geom) (t : FileTree) (same : Bool) (name fresh : List ℕ) (entries entries' : Entries) (rooms' : ℕ) : Type 0 where
  pub found : maps.contains_key entries name ≡ true
  pub absent : maps.contains_key entries' fresh ≡ false
  pub file : same ≡ false → is_dir (entry_node t entries name) ≡ false
  pub few : same ≡ false → maps.len entries' < 384
  pub room : same ≡ false → is_full entries' rooms' ≡ true → free_of g t Sb ≢ 0

pub move-granted : (g : Geom) (t : FileTree) (same : Bool) (name fresh : List ℕ) (entries entries' : Entries) (rooms' : ℕ)
    → refuses_rename g t same name fresh entries entries' rooms' ≡ None → Move g t same name fresh entries entries' rooms'
move-granted g t same name fresh entries entries' rooms' h =
    let a = refuse-none _ _ _ h in
    let b = refuse-none _ _ _ a.1 in
    let c = refuse-none _ _ _ b.1 in
    record {
      found = not_false _ a.0;
      absent = c.0;
      file = λ e. moved_file same _ e b.0;
      few = λ e. few (maps.len entries') (refuse-none _ _ _ (across same _ e c.1)).0;
      room = λ e. room-granted g t entries' rooms' (refuse-none _ _ _ (across same _ e c.1)).1;
    }
  where
    moved_file : (same dir : Bool) → same ≡ false → (dir && not same) ≡ false → dir ≡ false
    moved_file true dir e h = absurd (cc)
    moved_file false true e h = absurd (cc)
    moved_file false false e h = refl

    across : (same : Bool) (next : Option TreeReply) → same ≡ false → (if same then None else next) ≡ None → next ≡ None
    across true next e h = absurd (cc)
    across false next e h = h

    few : (n : ℕ) → nat_le 384 n ≡ false → n < 384
    few n h = grind (arith, nat_tests)

pub resize-granted : (g : Geom) (t : FileTree) (size : ℕ) (blocks : List ℕ) → refuses_resize g t size blocks ≡ None
    → (size ≤ 12288) × (size - length blocks ≤ free_of g t Fb) × (pointer_blocks size - pointer_blocks (length blocks) ≤ free_of g t Pb)
resize-granted g t size blocks h =
    let a = refuse-none _ _ _ h in
    let b = refuse-none _ _ _ a.1 in
    let c = refuse-none _ _ _ b.1 in
    let d = refuse-none _ _ _ c.1 in
    (within size a.0, not_less _ _ c.0, not_less _ _ d.0)
  where
    within : (n : ℕ) → nat_lt 12288 n ≡ false → n ≤ 12288
    within n h = grind (arith, nat_tests)

    not_less : (m n : ℕ) → nat_lt m n ≡ false → n ≤ m
    not_less m n h = grind (arith, nat_tests)

pub stat-granted : (t : FileTree) (key : Key) → refuse (is_none (node_of_key t key)) replies.NoObject None ≡ None → IsSome (node_at t key.object)
stat-granted t key h =
    let some : IsSome (node_of_key t key) = there (node_of_key t key) (refuse-none _ _ _ h).0 in
    ap is_some (sym (node_of_key-is t key some)) ∙ some
  where
    there : (n : Option Node) → is_none n ≡ false → IsSome n
    there (Some node) h = refl
    there None h = absurd (cc)

pub at-granted : (blocks : List ℕ) (index : ℕ) → refuse (nat_le (length blocks) index) replies.NoBlock None ≡ None → index < length blocks
at-granted blocks index h = above _ _ (refuse-none _ _ _ h).0
  where
    above : (m n : ℕ) → nat_le m n ≡ false → n < m
    above m n h = grind (arith, nat_tests)

-- the entry that goes names no directory
pub remove-granted : (t : FileTree) (name : List ℕ) (entries : Entries) (rooms object : ℕ) → refuses_remove t name entries rooms ≡ None
    → maps.get entries name ≡ Some object → entries_of (node_at t object) ≡ maps.empty
remove-granted t name entries rooms object h there =
    let no_dir = (refuse-none _ _ _ (refuse-none _ _ _ h).1).0 in
    file_names (node_at t object) (sym (ap is_dir (entry-is t entries name object there)) ∙ no_dir)

-- the directory that goes is empty
pub rmdir-granted : (t : FileTree) (name : List ℕ) (entries : Entries) (rooms object : ℕ) → refuses_rmdir t name entries rooms ≡ None
    → maps.get entries name ≡ Some object → entries_of (node_at t object) ≡ maps.empty
rmdir-granted t name entries rooms object h there =
    let a = refuse-none (not (maps.contains_key entries name)) replies.NotFound _ h in
    let b = refuse-none (is_file (entry_node t entries name)) replies.NotDir _ a.1 in
    let c = refuse-none (has_entries (entry_node t entries name)) replies.NotEmpty None b.1 in
    none (node_at t object) (sym (ap has_entries (entry-is t entries name object there)) ∙ c.0)
  where
    zero_length : (n : ℕ) → nat_lt 0 n ≡ false → n ≡ 0
    zero_length n h = grind (arith, nat_tests)

    none : (n : Option Node) → has_entries n ≡ false → entries_of n ≡ maps.empty
    none None h = refl
    none (Some (File blocks)) h = refl
    none (Some (Dir entries rooms)) h = maps.empty_of_len entries (zero_length (maps.len entries) h)
