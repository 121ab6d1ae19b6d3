-- One line more of a text.
use Rattle.std.proofs.Common.{◌≡◌, ℕ, ◌+◌, true, false, List, [], ◌∷◌, Ok, Err, refl}
use Rattle.ds_base.specs.declared.geometry.Geom.{Geom}
use Rattle.ds_tree.specs.declared.scenarios.Scenario.{Scenario}
use Rattle.ds_tree.specs.Lines.{words_of, is_comment}
use Rattle.ds_script.specs.declared.faults.LineFault.TheVariants as faults
use Rattle.ds_script.specs.declared.faults.ScriptFault.{ScriptFault}
use Rattle.ds_script.specs.declared.faults.ScriptFault.TheVariants.{BadLine}
use Rattle.ds_script.specs.Reading.{first_read, none_read, volume_read, read_from, line_read}

pub first_read-none : (n : ℕ) (ls : List (List ℕ)) → ls ≡ [] → first_read n ls ≡ Err (BadLine n faults.Volume)
unfolding first_read
first_read-none n ls e = rw e refl

pub first_read-passed : (n : ℕ) (ls : List (List ℕ)) (line : List ℕ) (behind : List (List ℕ)) → ls ≡ line ∷ behind
    → is_comment (words_of line) ≡ true → first_read n ls ≡ first_read (n + 1) behind
unfolding first_read
first_read-passed n ls line behind e comment = rw (e, comment) refl

pub first_read-ok : (n : ℕ) (ls : List (List ℕ)) (line : List ℕ) (behind : List (List ℕ)) (volume : List ℕ × Geom) → ls ≡ line ∷ behind
    → is_comment (words_of line) ≡ false → volume_read n (words_of line) ≡ Ok volume → first_read n ls ≡ Ok (volume, n + 1, behind)
unfolding first_read
first_read-ok n ls line behind volume e kept read = rw (e, kept, read) refl

pub first_read-err : (n : ℕ) (ls : List (List ℕ)) (line : List ℕ) (behind : List (List ℕ)) (fault : ScriptFault) → ls ≡ line ∷ behind
    → is_comment (words_of line) ≡ false → volume_read n (words_of line) ≡ Err fault → first_read n ls ≡ Err fault
unfolding first_read
first_read-err n ls line behind fault e kept read = rw (e, kept, read) refl

pub read_from-none : (s : Scenario) (n : ℕ) (ls : List (List ℕ)) → ls ≡ [] → read_from s n ls ≡ Ok s
unfolding read_from
read_from-none s n ls e = rw e refl

pub read_from-passed : (s : Scenario) (n : ℕ) (ls : List (List ℕ)) (line : List ℕ) (behind : List (List ℕ)) → ls ≡ line ∷ behind
    → is_comment (words_of line) ≡ true → read_from s n ls ≡ read_from s (n + 1) behind
unfolding read_from
read_from-passed s n ls line behind e comment = rw (e, comment) refl

pub read_from-ok : (s : Scenario) (n : ℕ) (ls : List (List ℕ)) (line : List ℕ) (behind : List (List ℕ)) (next : Scenario)
    → ls ≡ line ∷ behind → is_comment (words_of line) ≡ false → line_read s n (words_of line) behind ≡ Ok next
    → read_from s n ls ≡ read_from next (n + 1) behind
unfolding read_from
read_from-ok s n ls line behind next e kept read = rw (e, kept, read) refl

pub read_from-err : (s : Scenario) (n : ℕ) (ls : List (List ℕ)) (line : List ℕ) (behind : List (List ℕ)) (fault : ScriptFault)
    → ls ≡ line ∷ behind → is_comment (words_of line) ≡ false → line_read s n (words_of line) behind ≡ Err fault
    → read_from s n ls ≡ Err fault
unfolding read_from
read_from-err s n ls line behind fault e kept read = rw (e, kept, read) refl

pub none_read-none : (n : ℕ) (ls : List (List ℕ)) → ls ≡ [] → none_read n ls ≡ Ok tt
unfolding none_read
none_read-none n ls e = rw e refl

pub none_read-passed : (n : ℕ) (ls : List (List ℕ)) (line : List ℕ) (behind : List (List ℕ)) → ls ≡ line ∷ behind
    → is_comment (words_of line) ≡ true → none_read n ls ≡ none_read (n + 1) behind
unfolding none_read
none_read-passed n ls line behind e comment = rw (e, comment) refl

pub none_read-kept : (n : ℕ) (ls : List (List ℕ)) (line : List ℕ) (behind : List (List ℕ)) → ls ≡ line ∷ behind
    → is_comment (words_of line) ≡ false → none_read n ls ≡ Err (BadLine n faults.Volume)
unfolding none_read
none_read-kept n ls line behind e kept = rw (e, kept) refl

pub ruleset line_steps = (
  first_read-none,
  first_read-passed,
  first_read-ok,
  first_read-err,
  none_read-none,
  none_read-passed,
  none_read-kept,
  read_from-none,
  read_from-passed,
  read_from-ok,
  read_from-err,
)
