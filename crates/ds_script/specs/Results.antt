-- What a function answers, beside what is read by definition.
use Rattle.std.specs.Prelude.{◌≡◌, ◌⊎◌, ℕ, Result, Ok, Err}
use Rattle.ds_tree.specs.declared.scenarios.Scenario.{Scenario}
use Rattle.ds_tree.specs.PlainPass.{PassesAll, IsStuck}
use Rattle.ds_script.specs.declared.faults.ScriptFault.{ScriptFault}
use Rattle.ds_script.specs.declared.faults.ScriptFault.TheVariants.{Stuck, NoMemory}

-- a function answers what is read, seen so, or the same fault
abbrev pub Gives : {A B F : Type 0} → (A → B) → Result A F → Result B F → Type 0
Gives view (Ok x) read = read ≡ Ok (view x)
Gives view (Err e) read = read ≡ Err e

-- the same, but for want of memory, of which nothing is read
abbrev pub Tells : {A B : Type 0} → (A → B) → Result A ScriptFault → Result B ScriptFault → Type 0
Tells view (Ok x) read = read ≡ Ok (view x)
Tells view (Err fault) read = (fault ≡ NoMemory) ⊎ (read ≡ Err fault)

-- a scenario is read whose hosts wait for one another for ever
pub record IsReadStuck (read : Result Scenario ScriptFault) (fault : ScriptFault) : Type 0 where
  pub scenario : Scenario
  pub host : ℕ
  pub directive : ℕ
  pub reads : read ≡ Ok scenario
  pub stuck : IsStuck scenario.hosts host directive
  pub told : fault ≡ Stuck host directive

-- what is told of a text that is read so: the scenario where its directives can all pass
abbrev pub TellsPassing : Result Scenario ScriptFault → Result Scenario ScriptFault → Type 0
TellsPassing (Ok s) read = (read ≡ Ok s) × PassesAll s.hosts
TellsPassing (Err fault) read = (fault ≡ NoMemory) ⊎ (read ≡ Err fault) ⊎ IsReadStuck read fault
