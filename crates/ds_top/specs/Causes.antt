-- Which outcome the bytes of the input cause. Want of memory, and faults in reading and writing, are caused by no bytes.
use Rattle.std.specs.Prelude.{ℕ, ◌<◌, ◌⊎◌, List, length}
use Rattle.ds_base.specs.declared.geometry.Geom.{Geom}
use Rattle.ds_base.specs.declared.sectors.Sector.{Sector}
use Rattle.ds_tree.specs.declared.scenarios.Scenario.{Scenario}
use Rattle.ds_tree.specs.FirstForm.{IsFirstForm, NotBuiltAt}
use Rattle.ds_script.specs.declared.faults.What.TheVariants.{Bytes}
use Rattle.ds_script.specs.Answers.{IsScenarioText, IsStuckText, IsVolumeText, HasBadLine, IsTooLarge}
use Rattle.ds_script.specs.Faults.{in_scenario, in_volume}
use Rattle.ds_top.specs.declared.commands.Command.{Command}
use Rattle.ds_top.specs.declared.commands.Command.TheVariants.{Replay, Format, Check, Tree}
use Rattle.ds_top.specs.Images.{IsImage, CausesImage, most_image_bytes}
use Rattle.ds_top.specs.declared.outcome.Why.{Why}
use Rattle.ds_top.specs.declared.outcome.Why.TheVariants.{Done, BadLine, TooLarge, Stuck, NotBuilt, ReadFault, WriteFault, Memory, Findings}

-- the bytes are the text of this scenario, and it can be run now
pub record IsRunnable (bytes : List ℕ) (s : Scenario) : Type 0 where
  pub is_text : IsScenarioText bytes s
  pub form : IsFirstForm s

-- the bytes are the text of a scenario that can't be run now, which is told there
pub record IsNotBuilt (bytes : List ℕ) (host directive : ℕ) : Type 0 where
  pub scenario : Scenario
  pub is_text : IsScenarioText bytes scenario
  pub here : NotBuiltAt scenario host directive

abbrev pub CausesReplay : List ℕ → Why → Type 0
CausesReplay bytes Done = (s : Scenario) × IsRunnable bytes s
CausesReplay bytes (BadLine line why) = HasBadLine in_scenario bytes line why
CausesReplay bytes (TooLarge what) = IsTooLarge in_scenario bytes what
CausesReplay bytes (Stuck host directive) = IsStuckText bytes host directive
CausesReplay bytes (NotBuilt host directive) = IsNotBuilt bytes host directive
CausesReplay bytes _ = ⊥

-- the bytes are the text of a volume
pub record NamesVolume (bytes : List ℕ) : Type 0 where
  pub id : List ℕ
  pub geom : Geom
  pub is_text : IsVolumeText bytes id geom

abbrev pub CausesFormat : List ℕ → Why → Type 0
CausesFormat bytes Done = NamesVolume bytes
CausesFormat bytes (BadLine line why) = HasBadLine in_volume bytes line why
CausesFormat bytes (TooLarge what) = IsTooLarge in_volume bytes what
CausesFormat bytes _ = ⊥

-- the bytes are those of an image that causes the outcome
pub record IsOfImage (bytes : List ℕ) (why : Why) : Type 0 where
  pub sectors : List Sector
  pub left_over : ℕ
  pub image : IsImage bytes sectors left_over
  pub causes : CausesImage sectors left_over why

-- of an image that is checked or listed
abbrev pub CausesCheck : List ℕ → Why → Type 0
CausesCheck bytes (TooLarge Bytes) = most_image_bytes < length bytes
CausesCheck bytes why = IsOfImage bytes why

-- the outcome that a command has on these bytes
abbrev pub Causes : Command → List ℕ → Why → Type 0
Causes Replay bytes why = CausesReplay bytes why
Causes Format bytes why = CausesFormat bytes why
Causes Check bytes why = CausesCheck bytes why
Causes Tree bytes why = CausesCheck bytes why

-- the outcomes that the bytes alone don't decide
abbrev pub IsFree : Why → Type 0
IsFree Memory = Unit {0}
IsFree ReadFault = Unit {0}
IsFree WriteFault = Unit {0}
IsFree _ = ⊥

-- a fact that yields to these outcomes alone
abbrev pub OrFree : Why → Type 0 → Type 0
OrFree why P = IsFree why ⊎ P

-- an outcome of a run that wrote all its output
abbrev pub IsWritten : Why → Type 0
IsWritten Done = Unit {0}
IsWritten (Findings count) = Unit {0}
IsWritten _ = ⊥

-- the bytes cause output
abbrev pub CausesOutput : Command → List ℕ → Type 0
CausesOutput command bytes = (why : Why) × IsWritten why × Causes command bytes why
