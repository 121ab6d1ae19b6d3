-- A text is answered in one way, where its reading tells what is so of it.
use Rattle.std.proofs.Common.{◌≡◌, ℕ, ◌<◌, ◌≤◌, inl, inr, true, false, List, length, Result, Ok, Err, refl, ap, sym, ◌∙◌}
use Rattle.std.specs.Prelude.{nat_lt}
use Rattle.std.proofs.lemmas.Bool.{cases_lt, le-ltb, lt-ltb}
use Rattle.ds_tree.specs.Lines.{lines_of}
use Rattle.ds_tree.specs.Grammar.{most_bytes}
use Rattle.ds_script.specs.declared.faults.LineFault.{LineFault}
use Rattle.ds_script.specs.declared.faults.ScriptFault.{ScriptFault}
use Rattle.ds_script.specs.declared.faults.ScriptFault.TheVariants.{BadLine, TooLarge, Stuck, NoMemory}
use Rattle.ds_script.specs.declared.faults.What.{What}
use Rattle.ds_script.specs.declared.faults.What.TheVariants.{Bytes, Hosts, Directives, Steps, Volume}
use Rattle.ds_script.specs.Answers.{HasBadLine, HasLimitPassed, IsTooLarge}
use Rattle.ds_script.specs.Faults.{Judge, IsFirstBad, PassesLimit}
use Rattle.ds_script.specs.Reading.{within_bytes}
use Rattle.ds_script.proofs.FirstTroubles.{IsGood, good_not_bad, good_not_large, bad_not_large, same_large, same_bad}

-- what is read of a text is what it is, and what is told in its place is so
pub record ReadsRightly {V : Type 0} (judge : Judge) (bytes : List ℕ) (read : Result V ScriptFault) (IsText : V → Type 0) : Type 0 where
  pub takes : (v : V) → read ≡ Ok v → IsText v
  pub again : (v : V) → IsText v → read ≡ Ok v
  pub good : (v : V) → read ≡ Ok v → IsGood judge (lines_of bytes)
  pub bad : (number : ℕ) (why : LineFault) → read ≡ Err (BadLine number why) → IsFirstBad judge (lines_of bytes) number why
  pub not_bytes : read ≡ Err (TooLarge Bytes) → ⊥
  pub large : (what : What) → read ≡ Err (TooLarge what) → PassesLimit judge (lines_of bytes) what
  pub not_stuck : (host directive : ℕ) → read ≡ Err (Stuck host directive) → ⊥
  pub not_memory : read ≡ Err NoMemory → ⊥

-- the faults that the lines of a text have, or its length
abbrev pub IsFault : Judge → List ℕ → ScriptFault → Type 0
IsFault judge bytes (BadLine number why) = HasBadLine judge bytes number why
IsFault judge bytes (TooLarge what) = IsTooLarge judge bytes what
IsFault judge bytes (Stuck host directive) = ⊥
IsFault judge bytes NoMemory = ⊥

module _ {V : Type 0} (judge : Judge) (bytes : List ℕ) (read : Result V ScriptFault) (IsText : V → Type 0)
    (rightly : length bytes ≤ most_bytes → ReadsRightly judge bytes read IsText) where
  pub within : length bytes ≤ most_bytes → within_bytes bytes read ≡ read
  within few = let e : nat_lt most_bytes (length bytes) ≡ false = le-ltb _ _ few in rw e refl

  pub without : most_bytes < length bytes → within_bytes bytes read ≡ Err (TooLarge Bytes)
  without many = let e : nat_lt most_bytes (length bytes) ≡ true = lt-ltb _ _ many in rw e refl

  limit_so : (what : What) → length bytes ≤ most_bytes → read ≡ Err (TooLarge what) → IsTooLarge judge bytes what
  limit_so Bytes few e = absurd ((rightly few).not_bytes e)
  limit_so Hosts few e = (few, (rightly few).large Hosts e)
  limit_so Directives few e = (few, (rightly few).large Directives e)
  limit_so Steps few e = (few, (rightly few).large Steps e)
  limit_so Volume few e = (few, (rightly few).large Volume e)

  few_so : (fault : ScriptFault) → length bytes ≤ most_bytes → read ≡ Err fault → IsFault judge bytes fault
  few_so (BadLine number why) few e = (few, (rightly few).bad number why e)
  few_so (TooLarge what) few e = limit_so what few e
  few_so (Stuck host directive) few e = (rightly few).not_stuck host directive e
  few_so NoMemory few e = (rightly few).not_memory e

  many_so : (fault : ScriptFault) → most_bytes < length bytes → TooLarge Bytes ≡ fault → IsFault judge bytes fault
  many_so (BadLine number why) many e = absurd cc
  many_so (TooLarge Bytes) many e = many
  many_so (TooLarge Hosts) many e = absurd cc
  many_so (TooLarge Directives) many e = absurd cc
  many_so (TooLarge Steps) many e = absurd cc
  many_so (TooLarge Volume) many e = absurd cc
  many_so (Stuck host directive) many e = absurd cc
  many_so NoMemory many e = absurd cc

  -- a fault that is told is so
  pub fault_so : (fault : ScriptFault) → within_bytes bytes read ≡ Err fault → IsFault judge bytes fault
  fault_so fault e =
      elim (cases_lt most_bytes (length bytes)) [
        | inl many ↦ let same : ◌≡◌ {A = Result V ScriptFault} (Err (TooLarge Bytes)) (Err fault) = sym (without many) ∙ e in
            let faults : TooLarge Bytes ≡ fault = cc in many_so fault many faults
        | inr few ↦ few_so fault few (sym (within few) ∙ e)
      ]

  -- what is told without a fault is so, and then there aren't too many bytes
  pub text_so : (v : V) → within_bytes bytes read ≡ Ok v → (length bytes ≤ most_bytes) × IsText v
  text_so v e =
      elim (cases_lt most_bytes (length bytes)) [
        | inl many ↦ let wrong : ◌≡◌ {A = Result V ScriptFault} (Err (TooLarge Bytes)) (Ok v) = sym (without many) ∙ e in absurd cc
        | inr few ↦ (few, (rightly few).takes v (sym (within few) ∙ e))
      ]

  bad_read : (number : ℕ) (why : LineFault) → length bytes ≤ most_bytes → IsFirstBad judge (lines_of bytes) number why
      → (r : Result V ScriptFault) → read ≡ r → r ≡ Err (BadLine number why)
  bad_read number why few first (Ok v) e = absurd (good_not_bad judge (lines_of bytes) number why ((rightly few).good v e) first)
  bad_read number why few first (Err (BadLine other because)) e =
      let same = same_bad judge (lines_of bytes) other number because why ((rightly few).bad other because e) first in
      ap (λ n. Err (BadLine n because)) same.0 ∙ ap (λ w. Err (BadLine number w)) same.1
  bad_read number why few first (Err (TooLarge what)) e =
      absurd (bad_not_large judge (lines_of bytes) number why what first ((rightly few).large what e))
  bad_read number why few first (Err (Stuck host directive)) e = absurd ((rightly few).not_stuck host directive e)
  bad_read number why few first (Err NoMemory) e = absurd ((rightly few).not_memory e)

  large_read : (what : What) → length bytes ≤ most_bytes → PassesLimit judge (lines_of bytes) what
      → (r : Result V ScriptFault) → read ≡ r → r ≡ Err (TooLarge what)
  large_read what few passes (Ok v) e = absurd (good_not_large judge (lines_of bytes) what ((rightly few).good v e) passes)
  large_read what few passes (Err (BadLine number why)) e =
      absurd (bad_not_large judge (lines_of bytes) number why what ((rightly few).bad number why e) passes)
  large_read what few passes (Err (TooLarge other)) e =
      ap (λ w. Err (TooLarge w)) (same_large judge (lines_of bytes) other what ((rightly few).large other e) passes)
  large_read what few passes (Err (Stuck host directive)) e = absurd ((rightly few).not_stuck host directive e)
  large_read what few passes (Err NoMemory) e = absurd ((rightly few).not_memory e)

  limit_read : (what : What) → HasLimitPassed judge bytes what → within_bytes bytes read ≡ Err (TooLarge what)
  limit_read what (few, passes) = within few ∙ large_read what few passes read refl

  -- a fault that is so is told
  pub fault_read : (fault : ScriptFault) → IsFault judge bytes fault → within_bytes bytes read ≡ Err fault
  fault_read (BadLine number why) (few, first) = within few ∙ bad_read number why few first read refl
  fault_read (TooLarge Bytes) many = without many
  fault_read (TooLarge Hosts) passed = limit_read Hosts passed
  fault_read (TooLarge Directives) passed = limit_read Directives passed
  fault_read (TooLarge Steps) passed = limit_read Steps passed
  fault_read (TooLarge Volume) passed = limit_read Volume passed
  fault_read (Stuck host directive) never = absurd never
  fault_read NoMemory never = absurd never

  pub text_read_so : (v : V) → length bytes ≤ most_bytes → IsText v → within_bytes bytes read ≡ Ok v
  text_read_so v few is = within few ∙ (rightly few).again v is
