-- No refusal holds where a new object and its entry can be made: so the call makes them, and the tree keeps the rules.
use Rattle.std.proofs.Common.{◌≡◌, ◌≢◌, ℕ, ◌<◌, ◌==◌, ◌&&◌, true, false, nat_le, if◌then◌else◌, List, Some, None, MatchOption, refl, sym, ap, subst, ◌∙◌, inl, inr, ne_eqb, eq-eqb, arith}
use Rattle.std.specs.Prelude.{is_some}
use Rattle.std.specs.FinMap as maps
use Rattle.std.proofs.lemmas.Bool.{cases_Bool}
use Rattle.std.proofs.lemmas.Bool.Decides.{nat_tests}
use Rattle.ds_base.specs.Names.{IsName}
use Rattle.ds_base.specs.declared.geometry.Geom.{Geom}
use Rattle.ds_base.specs.declared.geometry.Kind.TheVariants.{Fd, Sb}
use Rattle.ds_base.specs.declared.names.Key.{Key}
use Rattle.ds_base.specs.declared.names.NodeKind.{NodeKind}
use Rattle.ds_base.specs.declared.names.NodeKind.TheVariants as kinds
use Rattle.ds_tree.proofs.StepKeeps.{step-keeps}
use Rattle.ds_tree.specs.CallNames.{HasNames}
use Rattle.ds_tree.specs.Counts.{free_of}
use Rattle.ds_tree.specs.Nodes.{Entries, Dir, FileTree, node_at, birth_at, node_of_key}
use Rattle.ds_tree.specs.Steps.{is_full, refusal, in_dir, refuses_new, Makes, Succeeds, Does}
use Rattle.ds_tree.specs.Trees.{empty_node}
use Rattle.ds_tree.specs.WellFormed.{IsTree}
use Rattle.ds_tree.specs.declared.calls.TreeReply.TheVariants.{Made}
use Rattle.ds_plan_laws_new.specs.Entering.{make_call}

-- the node of a key whose life is the object's
pub key-node : (t : FileTree) (key : Key) (birth : ℕ) → birth_at t key.object ≡ birth → birth ≡ key.birth → node_of_key t key ≡ node_at t key.object
key-node t key birth at same =
    ap (λ b. if b then node_at t key.object else None) (eq-eqb (birth_at t key.object) key.birth (at ∙ same))

module _ (g : Geom) (t : FileTree) (dir : Key) (name : List ℕ) (entries : Entries) (rooms : ℕ) (dir_is : node_of_key t dir ≡ Some (Dir entries rooms))
    (absent : maps.get entries name ≡ None) (few : maps.len entries < 384) (object : free_of g t Fd ≢ 0)
    (room : is_full entries rooms ≡ true → free_of g t Sb ≢ 0) where
  no-room_refusal : (is_full entries rooms && free_of g t Sb == 0) ≡ false
  no-room_refusal = elim (cases_Bool (is_full entries rooms)) [
    | inl full ↦ ap (λ b. b && free_of g t Sb == 0) full ∙ ne_eqb (free_of g t Sb) 0 (room full)
    | inr roomy ↦ ap (λ b. b && free_of g t Sb == 0) roomy
  ]

  new-granted : refuses_new g t name entries rooms ≡ None
  new-granted =
      let first : maps.contains_key entries name ≡ false = ap is_some absent in
      let second : nat_le 384 (maps.len entries) ≡ false = grind (arith, nat_tests) in
      let third : (free_of g t Fd == 0) ≡ false = ne_eqb (free_of g t Fd) 0 object in
      rw (first, second, third, no-room_refusal) refl

  -- the call isn't refused
  pub make-granted : (kind : NodeKind) → refusal g t (make_call kind dir name) ≡ None
  make-granted kinds.Dir = ap (λ node. in_dir node (refuses_new g t name)) dir_is ∙ new-granted
  make-granted kinds.File = ap (λ node. in_dir node (refuses_new g t name)) dir_is ∙ new-granted

  made-succeeds : (kind : NodeKind) (key : Key) (u : FileTree) → Makes g t dir name (empty_node kind) key u → Succeeds g t (make_call kind dir name) (Made key) u
  made-succeeds kinds.Dir key u makes = makes
  made-succeeds kinds.File key u makes = makes

  -- so it makes the object
  pub make-does : (kind : NodeKind) (key : Key) (u : FileTree) → Makes g t dir name (empty_node kind) key u → Does g t (make_call kind dir name) (Made key) u
  make-does kind key u makes =
      subst (λ r. MatchOption r (Succeeds g t (make_call kind dir name) (Made key) u) (λ refused. (Made key ≡ refused) × (u ≡ t))) (sym (make-granted kind))
      (made-succeeds kind key u makes)

  has-names : (kind : NodeKind) → IsName name → HasNames (make_call kind dir name)
  has-names kinds.Dir is = is
  has-names kinds.File is = is

  -- and what it leaves keeps the rules
  pub make-is_tree : IsTree g t → IsName name → (kind : NodeKind) (key : Key) (u : FileTree) → Makes g t dir name (empty_node kind) key u → IsTree g u
  make-is_tree is named kind key u makes =
      step-keeps g t is (make_call kind dir name) (Made key) u (has-names kind named) (make-does kind key u makes)
