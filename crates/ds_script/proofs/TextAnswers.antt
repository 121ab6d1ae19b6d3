-- What is told of a text is its one answer, where its reading tells what is so of it.
use Rattle.std.proofs.Common.{◌≡◌, ℕ, ◌≤◌, ◌⊎◌, inl, inr, List, length, Result, Ok, Err, refl, ap, sym, subst, ◌∙◌}
use Rattle.ds_base.specs.declared.geometry.Geom.{Geom}
use Rattle.ds_tree.specs.declared.scenarios.Scenario.{Scenario}
use Rattle.ds_tree.specs.Grammar.{most_bytes}
use Rattle.ds_tree.specs.PlainPass.{PassesAll, IsStuck}
use Rattle.ds_tree.proofs.PlainPasses.{one_answer, same_stuck}
use Rattle.ds_script.specs.declared.faults.ScriptFault.{ScriptFault}
use Rattle.ds_script.specs.declared.faults.ScriptFault.TheVariants.{BadLine, TooLarge, Stuck, NoMemory}
use Rattle.ds_script.specs.Answers.{IsInOrder, IsStuckText, IsVolumeText, IsAnswer, IsVolumeAnswer, OrNoMemory}
use Rattle.ds_script.specs.Faults.{in_scenario, in_volume}
use Rattle.ds_script.specs.Reading.{text_read, volume_text_read, within_bytes}
use Rattle.ds_script.specs.Results.{IsReadStuck, TellsPassing}
use Rattle.ds_script.proofs.Rightly.{ReadsRightly, IsFault, fault_so, fault_read, text_so, text_read_so}

-- what is told, when it isn't want of memory
abbrev TellsSurely : Result Scenario ScriptFault → Result Scenario ScriptFault → Type 0
TellsSurely (Ok s) read = (read ≡ Ok s) × PassesAll s.hosts
TellsSurely (Err fault) read = (read ≡ Err fault) ⊎ IsReadStuck read fault

-- there is one answer to what is read
module _ (read : Result Scenario ScriptFault) where
  same_scenario : (s t : Scenario) → read ≡ Ok s → read ≡ Ok t → s ≡ t
  same_scenario s t a b = cc

  no_both : (s : Scenario) (fault : ScriptFault) → read ≡ Ok s → read ≡ Err fault → ⊥
  no_both s fault a b = absurd cc

  not_passing : (s : Scenario) (fault : ScriptFault) → TellsSurely (Ok s) read → TellsSurely (Err fault) read → ⊥
  not_passing s fault (reads, passes) (inl e) = no_both s fault reads e
  not_passing s fault (reads, passes) (inr stuck) =
      let P : Scenario → Type 0 = λ t. IsStuck t.hosts stuck.host stuck.directive in
      one_answer s.hosts stuck.host stuck.directive passes (subst P (same_scenario stuck.scenario s stuck.reads reads) stuck.stuck)

  stuck_same : (fault other : ScriptFault) → IsReadStuck read fault → IsReadStuck read other → fault ≡ other
  stuck_same fault other a b =
      let P : Scenario → Type 0 = λ t. IsStuck t.hosts a.host a.directive in
      let here : IsStuck b.scenario.hosts a.host a.directive = subst P (same_scenario a.scenario b.scenario a.reads b.reads) a.stuck in
      let same = same_stuck b.scenario.hosts a.host a.directive b.host b.directive here b.stuck in
      a.told ∙ ap (λ h. Stuck h a.directive) same.0 ∙ ap (λ d. Stuck b.host d) same.1 ∙ sym b.told

  fault_same : (fault other : ScriptFault) → TellsSurely (Err fault) read → TellsSurely (Err other) read → fault ≡ other
  fault_same fault other (inl a) (inl b) = cc
  fault_same fault other (inl a) (inr b) = absurd (no_both b.scenario fault b.reads a)
  fault_same fault other (inr a) (inl b) = absurd (no_both a.scenario other a.reads b)
  fault_same fault other (inr a) (inr b) = stuck_same fault other a b

  told_same : (a b : Result Scenario ScriptFault) → TellsSurely a read → TellsSurely b read → a ≡ b
  told_same (Ok s) (Ok t) a b = ap Ok (same_scenario s t a.0 b.0)
  told_same (Ok s) (Err other) a b = absurd (not_passing s other a b)
  told_same (Err fault) (Ok t) a b = absurd (not_passing t fault b a)
  told_same (Err fault) (Err other) a b = ap Err (fault_same fault other a b)

module _ (bytes : List ℕ) (rightly : length bytes ≤ most_bytes → ReadsRightly in_scenario bytes (text_read bytes) (IsInOrder bytes)) where
  fault_answer : (fault : ScriptFault) → IsFault in_scenario bytes fault → IsAnswer bytes (Err fault)
  fault_answer (BadLine number why) is = is
  fault_answer (TooLarge what) is = is
  fault_answer (Stuck host directive) is = absurd is
  fault_answer NoMemory is = absurd is

  stuck_answer : (fault : ScriptFault) → IsReadStuck (within_bytes bytes (text_read bytes)) fault → IsAnswer bytes (Err fault)
  stuck_answer fault stuck =
      let so = text_so in_scenario bytes (text_read bytes) (IsInOrder bytes) rightly stuck.scenario stuck.reads in
      let is : IsStuckText bytes stuck.host stuck.directive = record { scenario = stuck.scenario; in_order = so.1; stuck = stuck.stuck } in
      let P : ScriptFault → Type 0 = λ f. IsAnswer bytes (Err f) in
      subst P (sym stuck.told) is

  -- what is told is the answer, or memory was wanting
  pub answered : (r : Result Scenario ScriptFault) → TellsPassing r (within_bytes bytes (text_read bytes)) → OrNoMemory r (IsAnswer bytes r)
  answered (Ok s) (reads, passes) =
      inr (record { in_order = (text_so in_scenario bytes (text_read bytes) (IsInOrder bytes) rightly s reads).1; passes = passes })
  answered (Err fault) (inl e) = inl (ap Err e)
  answered (Err fault) (inr (inl e)) =
      inr (fault_answer fault (fault_so in_scenario bytes (text_read bytes) (IsInOrder bytes) rightly fault e))
  answered (Err fault) (inr (inr stuck)) = inr (stuck_answer fault stuck)

  in_order_read : (s : Scenario) → IsInOrder bytes s → within_bytes bytes (text_read bytes) ≡ Ok s
  in_order_read s is = text_read_so in_scenario bytes (text_read bytes) (IsInOrder bytes) rightly s is.spells.few_bytes is

  fault_told : (fault : ScriptFault) → IsFault in_scenario bytes fault → TellsSurely (Err fault) (within_bytes bytes (text_read bytes))
  fault_told fault is = inl (fault_read in_scenario bytes (text_read bytes) (IsInOrder bytes) rightly fault is)

  answer_told : (r : Result Scenario ScriptFault) → IsAnswer bytes r → TellsSurely r (within_bytes bytes (text_read bytes))
  answer_told (Ok s) is = (in_order_read s is.in_order, is.passes)
  answer_told (Err (BadLine number why)) is = fault_told (BadLine number why) is
  answer_told (Err (TooLarge what)) is = fault_told (TooLarge what) is
  answer_told (Err (Stuck host directive)) is =
      inr (record {
        scenario = is.scenario;
        host = host;
        directive = directive;
        reads = in_order_read is.scenario is.in_order;
        stuck = is.stuck;
        told = refl;
      })
  answer_told (Err NoMemory) is = absurd is

  -- and the only one
  pub only_answered : (r : Result Scenario ScriptFault) → TellsPassing r (within_bytes bytes (text_read bytes))
      → (answer : Result Scenario ScriptFault) → IsAnswer bytes answer → OrNoMemory r (r ≡ answer)
  only_answered r told answer is =
      elim (answered r told) [
        | inl memory ↦ inl memory
        | inr so ↦ inr (told_same (within_bytes bytes (text_read bytes)) r answer (answer_told r so) (answer_told answer is))
      ]

  -- two answers to a text are one
  pub same_answer : (a b : Result Scenario ScriptFault) → IsAnswer bytes a → IsAnswer bytes b → a ≡ b
  same_answer a b is other = told_same (within_bytes bytes (text_read bytes)) a b (answer_told a is) (answer_told b other)

module _ (bytes : List ℕ)
    (rightly : length bytes ≤ most_bytes → ReadsRightly in_volume bytes (volume_text_read bytes) (λ v. IsVolumeText bytes v.0 v.1)) where
  volume_fault : (fault : ScriptFault) → IsFault in_volume bytes fault → IsVolumeAnswer bytes (Err fault)
  volume_fault (BadLine number why) is = is
  volume_fault (TooLarge what) is = is
  volume_fault (Stuck host directive) is = absurd is
  volume_fault NoMemory is = absurd is

  fault_volume : (fault : ScriptFault) → IsVolumeAnswer bytes (Err fault) → IsFault in_volume bytes fault
  fault_volume (BadLine number why) is = is
  fault_volume (TooLarge what) is = is
  fault_volume (Stuck host directive) is = absurd is
  fault_volume NoMemory is = absurd is

  -- what is read of a volume is the answer
  pub volume_answered : (r : Result (List ℕ × Geom) ScriptFault) → r ≡ within_bytes bytes (volume_text_read bytes) → IsVolumeAnswer bytes r
  volume_answered (Ok v) e = (text_so in_volume bytes (volume_text_read bytes) (λ v. IsVolumeText bytes v.0 v.1) rightly v (sym e)).1
  volume_answered (Err fault) e =
      volume_fault fault (fault_so in_volume bytes (volume_text_read bytes) (λ v. IsVolumeText bytes v.0 v.1) rightly fault (sym e))

  -- and the only one
  pub only_volume_answered : (r : Result (List ℕ × Geom) ScriptFault) → r ≡ within_bytes bytes (volume_text_read bytes)
      → (answer : Result (List ℕ × Geom) ScriptFault) → IsVolumeAnswer bytes answer → r ≡ answer
  only_volume_answered r e (Ok v) is =
      e ∙ text_read_so in_volume bytes (volume_text_read bytes) (λ v. IsVolumeText bytes v.0 v.1) rightly v is.spells.few_bytes is
  only_volume_answered r e (Err fault) is =
      e ∙ fault_read in_volume bytes (volume_text_read bytes) (λ v. IsVolumeText bytes v.0 v.1) rightly fault (fault_volume fault is)
