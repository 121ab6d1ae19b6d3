-- A call whose reply is no refusal is not refused.
use Rattle.std.proofs.Common.{◌≡◌, ℕ, ◌+◌, ◌-◌, ◌==◌, ◌&&◌, Bool, true, false, not, nat_le, nat_lt, is_none, if◌then◌else◌, List, length, Option, Some, None, refl, sym, ap, ◌∙◌}
use Rattle.std.proofs.lemmas.Option.{same_Some}
use Rattle.std.specs.FinMap as maps
use Rattle.std.specs.Prelude.{MatchOption}
use Rattle.ds_base.specs.declared.geometry.Geom.{Geom}
use Rattle.ds_base.specs.declared.geometry.Kind.TheVariants.{Fd, Sb, Pb, Fb}
use Rattle.ds_base.specs.declared.names.Key.{Key}
use Rattle.ds_tree.specs.Counts.{free_of, pointer_blocks}
use Rattle.ds_tree.specs.Nodes.{Dir, Entries, File, FileTree, Node, node_of_key}
use Rattle.ds_tree.specs.Steps.{Does, Succeeds, entry_node, has_entries, in_dir, in_file, is_dir, is_file, is_full, is_refusal, refusal, refuse, refuses_new, refuses_room}
use Rattle.ds_tree.specs.declared.calls.CallOf.{CallOf}
use Rattle.ds_tree.specs.declared.calls.CallOf.TheVariants as calls
use Rattle.ds_tree.specs.declared.calls.TreeReply.{TreeReply}
use Rattle.ds_tree.specs.declared.calls.TreeReply.TheVariants as replies

-- what is given is a refusal
abbrev Refuses : Option TreeReply → Type 0
Refuses given = (reply : TreeReply) → given ≡ Some reply → is_refusal reply ≡ true

none-given : Refuses None
none-given reply is = absurd cc

one-given : (reply : TreeReply) → is_refusal reply ≡ true → Refuses (Some reply)
one-given reply is other same = sym (ap is_refusal (same_Some reply other same)) ∙ is

refuse-given : (condition : Bool) (reply : TreeReply) (next : Option TreeReply) → is_refusal reply ≡ true → Refuses next
    → Refuses (refuse condition reply next)
refuse-given true reply next is rest = one-given reply is
refuse-given false reply next is rest = rest

unless-given : (condition : Bool) (next : Option TreeReply) → Refuses next → Refuses (if condition then None else next)
unless-given true next rest = none-given
unless-given false next rest = rest

dir-given : (node : Option Node) (next : Entries → ℕ → Option TreeReply) → ((entries : Entries) (rooms : ℕ) → Refuses (next entries rooms))
    → Refuses (in_dir node next)
dir-given None next rest = one-given _ refl
dir-given (Some (File blocks)) next rest = one-given _ refl
dir-given (Some (Dir entries rooms)) next rest = rest entries rooms

file-given : (node : Option Node) (next : List ℕ → Option TreeReply) → ((blocks : List ℕ) → Refuses (next blocks)) → Refuses (in_file node next)
file-given None next rest = one-given _ refl
file-given (Some (Dir entries rooms)) next rest = one-given _ refl
file-given (Some (File blocks)) next rest = rest blocks

room-given : (g : Geom) (t : FileTree) (entries : Entries) (rooms : ℕ) → Refuses (refuses_room g t entries rooms)
room-given g t entries rooms =
    refuse-given (is_full entries rooms && free_of g t Sb == 0) (replies.NoSpace Sb) None refl none-given

new-given : (g : Geom) (t : FileTree) (name : List ℕ) (entries : Entries) (rooms : ℕ) → Refuses (refuses_new g t name entries rooms)
new-given g t name entries rooms =
    refuse-given (maps.contains_key entries name) replies.Exists _ refl
    (refuse-given (nat_le 384 (maps.len entries)) replies.DirFull _ refl
    (refuse-given (free_of g t Fd == 0) (replies.NoSpace Fd) _ refl (room-given g t entries rooms)))

given : (g : Geom) (t : FileTree) (call : CallOf Key) → Refuses (refusal g t call)
given g t (calls.Mkdir dir name) = dir-given _ _ (new-given g t name)
given g t (calls.Create dir name) = dir-given _ _ (new-given g t name)
given g t (calls.Lookup dir name) =
    dir-given _ _ (λ entries rooms. refuse-given (not (maps.contains_key entries name)) replies.NotFound None refl none-given)
given g t (calls.List dir after) = dir-given _ _ (λ entries rooms. none-given)
given g t (calls.Stat key) = refuse-given (is_none (node_of_key t key)) replies.NoObject None refl none-given
given g t (calls.Map file page) = file-given _ _ (λ blocks. none-given)
given g t (calls.Resize file size) =
    file-given _ _ (λ blocks.
    refuse-given (nat_lt 12288 size) replies.TooBig _ refl
    (refuse-given (nat_lt 1024 ((size - length blocks) + (length blocks - size))) replies.TooMuch _ refl
    (refuse-given (nat_lt (free_of g t Fb) (size - length blocks)) (replies.NoSpace Fb) _ refl
    (refuse-given (nat_lt (free_of g t Pb) (pointer_blocks size - pointer_blocks (length blocks))) (replies.NoSpace Pb) None refl none-given))))
given g t (calls.Remove dir name) =
    dir-given _ _ (λ entries rooms.
    refuse-given (not (maps.contains_key entries name)) replies.NotFound _ refl
    (refuse-given (is_dir (entry_node t entries name)) replies.NotFile None refl none-given))
given g t (calls.Rmdir dir name) =
    dir-given _ _ (λ entries rooms.
    refuse-given (not (maps.contains_key entries name)) replies.NotFound _ refl
    (refuse-given (is_file (entry_node t entries name)) replies.NotDir _ refl
    (refuse-given (has_entries (entry_node t entries name)) replies.NotEmpty None refl none-given)))
given g t (calls.Rename dir name to fresh) =
    dir-given (node_of_key t dir) _ (λ entries rooms. dir-given (node_of_key t to) _ (λ entries' rooms'.
    refuse-given (not (maps.contains_key entries name)) replies.NotFound _ refl
    (refuse-given (is_dir (entry_node t entries name) && not (dir.object == to.object)) replies.CrossDir _ refl
    (refuse-given (maps.contains_key entries' fresh) replies.Exists _ refl
    (unless-given (dir.object == to.object) _
    (refuse-given (nat_le 384 (maps.len entries')) replies.DirFull _ refl (room-given g t entries' rooms')))))))
given g t (calls.OpenFile file) = file-given _ _ (λ blocks. none-given)
given g t (calls.At file index) = file-given _ _ (λ blocks. refuse-given (nat_le (length blocks) index) replies.NoBlock None refl none-given)

none-by : (o : Option TreeReply) (reply : TreeReply) (Succeeded : Type 0) (Left : Type 0) → Refuses o
    → MatchOption o Succeeded (λ refused. (reply ≡ refused) × Left) → is_refusal reply ≡ false → o ≡ None
none-by None reply Succeeded Left refuses does not = refl
none-by (Some refused) reply Succeeded Left refuses does not =
    let one : is_refusal reply ≡ true = ap is_refusal does.0 ∙ refuses refused refl in
    absurd cc

pub not-refused : (g : Geom) (t : FileTree) (call : CallOf Key) (reply : TreeReply) (u : FileTree) → Does g t call reply u
    → is_refusal reply ≡ false → refusal g t call ≡ None
not-refused g t call reply u does not =
    none-by (refusal g t call) reply (Succeeds g t call reply u) (u ≡ t) (given g t call) does not
