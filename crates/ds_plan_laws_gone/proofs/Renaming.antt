-- No refusal holds where an entry can stand under another name: so the call renames it, and the tree keeps the rules.
use Rattle.std.proofs.Common.{◌≡◌, ◌≢◌, ℕ, ◌<◌, ◌==◌, ◌&&◌, Bool, true, false, not, nat_le, if◌then◌else◌, List, Option, Some, None, MatchOption, refl, sym, ap, subst, ◌∙◌, inl, inr, eq-eqb, ne_eqb, arith}
use Rattle.std.specs.Prelude.{is_some}
use Rattle.std.specs.FinMap as maps
use Rattle.std.proofs.lemmas.Bool.{cases_Bool}
use Rattle.std.proofs.lemmas.Bool.Decides.{nat_tests}
use Rattle.ds_base.specs.Names.{IsName}
use Rattle.ds_base.specs.declared.geometry.Geom.{Geom}
use Rattle.ds_base.specs.declared.geometry.Kind.TheVariants.{Sb}
use Rattle.ds_base.specs.declared.names.Key.{Key}
use Rattle.ds_tree.proofs.StepKeeps.{step-keeps}
use Rattle.ds_tree.specs.Counts.{free_of}
use Rattle.ds_tree.specs.Nodes.{Entries, Dir, FileTree, node_at, birth_at, node_of_key, with_node}
use Rattle.ds_tree.specs.Steps.{in_dir, entry_node, is_dir, is_full, refusal, refuses_rename, rooms_with_one_more, Renames, Succeeds, Does}
use Rattle.ds_tree.specs.WellFormed.{IsTree}
use Rattle.ds_tree.specs.declared.calls.CallOf.TheVariants.{Rename}
use Rattle.ds_tree.specs.declared.calls.TreeReply.TheVariants.{Moved}
use Rattle.ds_plan_laws_gone.proofs.Going.{entry-node}

and-false : (b : Bool) → (b && false) ≡ false
and-false true = refl
and-false false = refl

-- a call that isn't refused renames, and the tree keeps the rules
pub rename-does : (g : Geom) (t : FileTree) (dir to : Key) (name fresh : List ℕ) (key : Key) (u : FileTree)
    → refusal g t (Rename dir name to fresh) ≡ None → Renames t dir name to fresh key u → Does g t (Rename dir name to fresh) (Moved key) u
rename-does g t dir to name fresh key u granted renames =
    subst (λ r. MatchOption r (Succeeds g t (Rename dir name to fresh) (Moved key) u) (λ refused. (Moved key ≡ refused) × (u ≡ t))) (sym granted) renames

pub rename-is_tree : (g : Geom) (t : FileTree) (dir to : Key) (name fresh : List ℕ) (key : Key) (u : FileTree) → IsTree g t → IsName name → IsName fresh
    → refusal g t (Rename dir name to fresh) ≡ None → Renames t dir name to fresh key u → IsTree g u
rename-is_tree g t dir to name fresh key u is named named' granted renames =
    step-keeps g t is (Rename dir name to fresh) (Moved key) u (named, named') (rename-does g t dir to name fresh key u granted renames)

module _ (g : Geom) (t : FileTree) (dir to : Key) (name fresh : List ℕ) (object : ℕ) where
  -- in one directory
  module _ (entries : Entries) (rooms : ℕ) (same : dir.object ≡ to.object)
      (dir_is : node_of_key t dir ≡ Some (Dir entries rooms)) (to_is : node_of_key t to ≡ Some (Dir entries rooms))
      (found : maps.get entries name ≡ Some object) (absent : maps.get entries fresh ≡ None) where
    one-dir : (dir.object == to.object) ≡ true
    one-dir = eq-eqb dir.object to.object same

    pub inside-granted : refusal g t (Rename dir name to fresh) ≡ None
    inside-granted =
        let first : not (maps.contains_key entries name) ≡ false = ap (λ (r : Option ℕ). not (is_some r)) found in
        let second : (is_dir (entry_node t entries name) && false) ≡ false = and-false (is_dir (entry_node t entries name)) in
        let third : maps.contains_key entries fresh ≡ false = ap is_some absent in
        let granted : refuses_rename g t true name fresh entries entries rooms ≡ None = rw (first, second, third) refl in
        ap (λ node. in_dir node (λ es rs. in_dir (node_of_key t to) (λ es' rs'. refuses_rename g t (dir.object == to.object) name fresh es es' rs'))) dir_is
        ∙ ap (λ node. in_dir node (λ es' rs'. refuses_rename g t (dir.object == to.object) name fresh entries es' rs')) to_is
        ∙ ap (λ b. refuses_rename g t b name fresh entries entries rooms) one-dir ∙ granted

    pub inside-renames : (key : Key) (u : FileTree) → key.object ≡ object → birth_at t object ≡ key.birth
        → node_at t dir.object ≡ Some (Dir entries rooms)
        → u ≡ with_node t dir.object (Dir (maps.insert (maps.remove entries name) fresh object) rooms) → Renames t dir name to fresh key u
    inside-renames key u is life in-dir left = record {
      entries = entries;
      rooms = rooms;
      entries' = entries;
      rooms' = rooms;
      in_dir = in-dir;
      in_to = ap (node_at t) (sym same) ∙ in-dir;
      entry = found ∙ ap Some (sym is);
      life = ap (birth_at t) is ∙ life;
      moved =
          left ∙ ap (λ o. with_node t dir.object (Dir (maps.insert (maps.remove entries name) fresh o) rooms)) (sym is)
          ∙ sym (ap (λ b. if b
          then with_node t dir.object (Dir (maps.insert (maps.remove entries name) fresh key.object) rooms)
          else with_node (with_node t dir.object (Dir (maps.remove entries name) rooms)) to.object (Dir (maps.insert entries fresh key.object) (rooms_with_one_more entries rooms))) one-dir);
    }

  -- from one directory into another one
  module _ (entries : Entries) (rooms : ℕ) (entries' : Entries) (rooms' : ℕ) (differ : dir.object ≢ to.object)
      (dir_is : node_of_key t dir ≡ Some (Dir entries rooms)) (to_is : node_of_key t to ≡ Some (Dir entries' rooms'))
      (found : maps.get entries name ≡ Some object) (file : is_dir (node_at t object) ≡ false) (absent : maps.get entries' fresh ≡ None)
      (few : maps.len entries' < 384) (room : is_full entries' rooms' ≡ true → free_of g t Sb ≢ 0) where
    two-dirs : (dir.object == to.object) ≡ false
    two-dirs = ne_eqb dir.object to.object differ

    no-room_refusal : (is_full entries' rooms' && free_of g t Sb == 0) ≡ false
    no-room_refusal = elim (cases_Bool (is_full entries' rooms')) [
      | inl full ↦ ap (λ b. b && free_of g t Sb == 0) full ∙ ne_eqb (free_of g t Sb) 0 (room full)
      | inr roomy ↦ ap (λ b. b && free_of g t Sb == 0) roomy
    ]

    pub across-granted : refusal g t (Rename dir name to fresh) ≡ None
    across-granted =
        let first : not (maps.contains_key entries name) ≡ false = ap (λ (r : Option ℕ). not (is_some r)) found in
        let second : (is_dir (entry_node t entries name) && true) ≡ false =
        ap (λ b. b && true) (ap is_dir (entry-node t entries name object found) ∙ file) in
        let third : maps.contains_key entries' fresh ≡ false = ap is_some absent in
        let fourth : nat_le 384 (maps.len entries') ≡ false = grind (arith, nat_tests) in
        let granted : refuses_rename g t false name fresh entries entries' rooms' ≡ None = rw (first, second, third, fourth, no-room_refusal) refl in
        ap (λ node. in_dir node (λ es rs. in_dir (node_of_key t to) (λ es' rs'. refuses_rename g t (dir.object == to.object) name fresh es es' rs'))) dir_is
        ∙ ap (λ node. in_dir node (λ es' rs'. refuses_rename g t (dir.object == to.object) name fresh entries es' rs')) to_is
        ∙ ap (λ b. refuses_rename g t b name fresh entries entries' rooms') two-dirs ∙ granted

    pub across-renames : (key : Key) (u : FileTree) → key.object ≡ object → birth_at t object ≡ key.birth
        → node_at t dir.object ≡ Some (Dir entries rooms) → node_at t to.object ≡ Some (Dir entries' rooms')
        → u ≡ with_node (with_node t dir.object (Dir (maps.remove entries name) rooms)) to.object (Dir (maps.insert entries' fresh object) (rooms_with_one_more entries' rooms'))
        → Renames t dir name to fresh key u
    across-renames key u is life in-dir in-to left = record {
      entries = entries;
      rooms = rooms;
      entries' = entries';
      rooms' = rooms';
      in_dir = in-dir;
      in_to = in-to;
      entry = found ∙ ap Some (sym is);
      life = ap (birth_at t) is ∙ life;
      moved =
          left ∙ ap (λ o. with_node (with_node t dir.object (Dir (maps.remove entries name) rooms)) to.object (Dir (maps.insert entries' fresh o) (rooms_with_one_more entries' rooms'))) (sym is)
          ∙ sym (ap (λ b. if b
          then with_node t dir.object (Dir (maps.insert (maps.remove entries name) fresh key.object) rooms)
          else with_node (with_node t dir.object (Dir (maps.remove entries name) rooms)) to.object (Dir (maps.insert entries' fresh key.object) (rooms_with_one_more entries' rooms'))) two-dirs);
    }
