-- What the calls do that only read an object, by the node that their key names.
use Rattle.std.proofs.Common.{◌≡◌, ℕ, ◌*◌, ◌<◌, ◌≤◌, ◌==◌, true, false, nat_le, if◌then◌else◌, List, length, take, drop, Option, Some, None, refl, ap, ◌∙◌, slice_get, arith}
use Rattle.std.proofs.lemmas.Bool.Decides.{nat_tests}
use Rattle.std.proofs.lemmas.Cmp.{nat_eq_equiv}
use Rattle.std.proofs.lemmas.Option.{slice_get_within}
use Rattle.ds_base.specs.declared.geometry.Geom.{Geom}
use Rattle.ds_base.specs.declared.names.Key.{Key}
use Rattle.ds_plan_reads.specs.Answers.{call_by}
use Rattle.ds_plan_reads.specs.Blocks.{blocks_reply}
use Rattle.ds_plan_reads.specs.declared.questions.Question.{Question}
use Rattle.ds_plan_reads.specs.declared.questions.Question.TheVariants.{Stat, Map, OpenFile, At}
use Rattle.ds_tree.specs.Nodes.{Entries, Node, Dir, File, Object, FileTree, object_at, node_at, node_of_key, kind_of}
use Rattle.ds_tree.specs.Steps.{Does, size_of}
use Rattle.ds_tree.specs.declared.calls.CallOf.TheVariants as calls
use Rattle.ds_tree.specs.declared.calls.TreeReply.TheVariants as replies

-- what a key names, by the object of its number
pub named_of : (t : FileTree) (key : Key) (node : Option Node) → object_at t key.object ≡ record { birth = key.birth; node = node } → node_of_key t key ≡ node
named_of t key node is =
    ap (λ (x : Object). if x.birth == key.birth then x.node else None) is ∙ ap (λ b. if b then node else None) (nat_eq_equiv.refl key.birth)

module _ (g : Geom) (t : FileTree) (key : Key) where
  pub missing : (question : Question) → node_of_key t key ≡ None → Does g t (call_by key question) replies.NoObject t
  missing Stat none = rw none (refl, refl)
  missing (Map page) none = rw none (refl, refl)
  missing OpenFile none = rw none (refl, refl)
  missing (At index) none = rw none (refl, refl)

  pub does_stat : (node : Node) → object_at t key.object ≡ record { birth = key.birth; node = Some node } → Does g t (calls.Stat key) (replies.Info (kind_of node) (size_of node)) t
  does_stat node is = rw (named_of t key (Some node) is) (node, ap (λ (x : Object). x.node) is, refl, refl, refl)

  -- the calls on a file refuse a directory
  module _ (entries : Entries) (rooms : ℕ) (is : node_of_key t key ≡ Some (Dir entries rooms)) where
    pub map_no_file : (page : ℕ) → Does g t (calls.Map key page) replies.NotFile t
    map_no_file page = rw is (refl, refl)

    pub open_no_file : Does g t (calls.OpenFile key) replies.NotFile t
    open_no_file = rw is (refl, refl)

    pub at_no_file : (index : ℕ) → Does g t (calls.At key index) replies.NotFile t
    at_no_file index = rw is (refl, refl)

  module _ (blocks : List ℕ) (is : object_at t key.object ≡ record { birth = key.birth; node = Some (File blocks) }) where
    named : node_of_key t key ≡ Some (File blocks)
    named = named_of t key (Some (File blocks)) is

    here : node_at t key.object ≡ Some (File blocks)
    here = ap (λ (x : Object). x.node) is

    pub does_open : (size : ℕ) → size ≡ length blocks → Does g t (calls.OpenFile key) (replies.Opened size) t
    does_open size same = rw named (blocks, here, same, refl)

    pub does_map : (page : ℕ) (list : List ℕ) → list ≡ take 128 (drop (128 * page) blocks) → Does g t (calls.Map key page) (blocks_reply list) t
    does_map page list same = rw named (blocks, here, same, refl)

    pub does_no_block : (index : ℕ) → length blocks ≤ index → Does g t (calls.At key index) replies.NoBlock t
    does_no_block index past =
        let test : nat_le (length blocks) index ≡ true = grind (arith, nat_tests, past) in
        rw (named, test) (refl, refl)

    pub does_at : (index block : ℕ) → slice_get blocks index ≡ Some block → Does g t (calls.At key index) (replies.AtBlock block) t
    does_at index block at =
        let within : index < length blocks = slice_get_within blocks index block at in
        let test : nat_le (length blocks) index ≡ false = grind (arith, nat_tests, within) in
        rw (named, test) (blocks, here, at, refl)
