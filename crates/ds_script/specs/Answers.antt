-- What is answered for a text: the scenario or the volume that it is, or why it is none.
use Rattle.std.specs.Prelude.{◌≡◌, ℕ, ◌≤◌, ◌<◌, ◌⊎◌, List, length, Result, Ok, Err}
use Rattle.ds_base.specs.declared.geometry.Geom.{Geom}
use Rattle.ds_layout.specs.Places.{total_of}
use Rattle.ds_tree.specs.declared.scenarios.Scenario.{Scenario}
use Rattle.ds_tree.specs.Lines.{lines_of}
use Rattle.ds_tree.specs.Grammar.{most_bytes, SpellsText, SpellsVolume}
use Rattle.ds_tree.specs.PlainPass.{PassesAll, IsStuck}
use Rattle.ds_script.specs.declared.faults.LineFault.{LineFault}
use Rattle.ds_script.specs.declared.faults.ScriptFault.{ScriptFault}
use Rattle.ds_script.specs.declared.faults.ScriptFault.TheVariants.{BadLine, TooLarge, Stuck, NoMemory}
use Rattle.ds_script.specs.declared.faults.What.{What}
use Rattle.ds_script.specs.declared.faults.What.TheVariants.{Bytes, Hosts, Directives, Steps, Volume}
use Rattle.ds_script.specs.Faults.{Judge, most_sectors, in_scenario, in_volume, IsFirstBad, PassesLimit}

-- the text is this scenario, of a volume that isn't too large, and its lines are in order
pub record IsInOrder (bytes : List ℕ) (s : Scenario) : Type 0 where
  pub spells : SpellsText bytes s
  pub few_sectors : total_of s.geom ≤ most_sectors

-- and its hosts don't wait for one another for ever
pub record IsScenarioText (bytes : List ℕ) (s : Scenario) : Type 0 where
  pub in_order : IsInOrder bytes s
  pub passes : PassesAll s.hosts

-- the text is that of a volume that isn't too large, with this id and this geometry
pub record IsVolumeText (bytes id : List ℕ) (g : Geom) : Type 0 where
  pub spells : SpellsVolume bytes id g
  pub few_sectors : total_of g ≤ most_sectors

-- lines are looked at only where there aren't too many bytes
abbrev pub HasBadLine : Judge → List ℕ → ℕ → LineFault → Type 0
HasBadLine judge bytes number why = (length bytes ≤ most_bytes) × IsFirstBad judge (lines_of bytes) number why

abbrev pub HasLimitPassed : Judge → List ℕ → What → Type 0
HasLimitPassed judge bytes what = (length bytes ≤ most_bytes) × PassesLimit judge (lines_of bytes) what

abbrev pub IsTooLarge : Judge → List ℕ → What → Type 0
IsTooLarge judge bytes Bytes = most_bytes < length bytes
IsTooLarge judge bytes Hosts = HasLimitPassed judge bytes Hosts
IsTooLarge judge bytes Directives = HasLimitPassed judge bytes Directives
IsTooLarge judge bytes Steps = HasLimitPassed judge bytes Steps
IsTooLarge judge bytes Volume = HasLimitPassed judge bytes Volume

-- the lines are in order, and this host is the first that doesn't come to its end, with its next directive
pub record IsStuckText (bytes : List ℕ) (host directive : ℕ) : Type 0 where
  pub scenario : Scenario
  pub in_order : IsInOrder bytes scenario
  pub stuck : IsStuck scenario.hosts host directive

-- the answer for a text of a scenario; want of memory is none
abbrev pub IsAnswer : List ℕ → Result Scenario ScriptFault → Type 0
IsAnswer bytes (Ok s) = IsScenarioText bytes s
IsAnswer bytes (Err (BadLine number why)) = HasBadLine in_scenario bytes number why
IsAnswer bytes (Err (TooLarge what)) = IsTooLarge in_scenario bytes what
IsAnswer bytes (Err (Stuck host directive)) = IsStuckText bytes host directive
IsAnswer bytes (Err NoMemory) = ⊥

-- the answer for a text of one volume line
abbrev pub IsVolumeAnswer : List ℕ → Result (List ℕ × Geom) ScriptFault → Type 0
IsVolumeAnswer bytes (Ok volume) = IsVolumeText bytes volume.0 volume.1
IsVolumeAnswer bytes (Err (BadLine number why)) = HasBadLine in_volume bytes number why
IsVolumeAnswer bytes (Err (TooLarge what)) = IsTooLarge in_volume bytes what
IsVolumeAnswer bytes (Err (Stuck host directive)) = ⊥
IsVolumeAnswer bytes (Err NoMemory) = ⊥

-- a fact of what was answered, which yields to want of memory alone
abbrev pub OrNoMemory : {V : Type 0} → Result V ScriptFault → Type 0 → Type 0
OrNoMemory result P = (result ≡ Err NoMemory) ⊎ P
