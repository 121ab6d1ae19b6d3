-- What ends a line, seen in another way.
use Rattle.std.proofs.Common.{◌≡◌, Result, Bool, true, false, [], ◌∷◌, Ok, Err, ap, sym, ◌∙◌}
use Rattle.std.specs.Prelude.{if◌then◌else◌}
use Rattle.std.specs.Result.{IsErrAnd}
use Rattle.ds_tree.specs.Lines.{Words, is_word}
use Rattle.ds_script.specs.declared.faults.LineFault.{LineFault}
use Rattle.ds_script.specs.declared.faults.LineFault.TheVariants as faults
use Rattle.ds_script.specs.Reading.{end_at, Reads}
use Rattle.ds_script.specs.Results.{Gives}

module _ {A B : Type 0} (f : A → B) where
  read_seen : (x : A) (r : Reads A) → Gives (λ y. y) r (Ok x) → Gives f r (Ok (f x))
  read_seen x (Ok y) e = let same : x ≡ y = cc in ap (λ z. Ok (f z)) same
  read_seen x (Err why) e = absurd cc

  fault_seen : (why : LineFault) (r : Reads A) → Gives (λ y. y) r (Err why) → Gives f r (Err why)
  fault_seen why (Ok y) e = absurd cc
  fault_seen why (Err other) e = let same : why ≡ other = cc in ap Err same

  end_fault : (t : Bool) (r : Reads A) → Gives (λ y. y) r (if t then Err faults.Count else Err faults.Word)
      → Gives f r (if t then Err faults.Count else Err faults.Word)
  end_fault true r e = fault_seen faults.Count r e
  end_fault false r e = fault_seen faults.Word r e

  pub end_seen : (x : A) (ws : Words) (r : Reads A) → Gives (λ y. y) r (end_at x ws) → Gives f r (end_at (f x) ws)
  unfolding end_at
  end_seen x [] r e = read_seen x r e
  end_seen x (w ∷ ws) r e = end_fault (is_word w) r e

-- a fault that is handed on
pub gives_fault : {A B F : Type 0} (view : A → B) (r : Result A F) (read : Result B F) (fault : F)
    → IsErrAnd r (λ e. e ≡ fault) → read ≡ Err fault → Gives view r read
gives_fault view (Ok x) read fault err e = absurd err
gives_fault view (Err other) read fault err e = e ∙ ap Err (sym err)
