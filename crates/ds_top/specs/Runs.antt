-- The parts of a run of a command: its work, from the input to the output, and the writing of that.
use Rattle.std.specs.Prelude.{◌≡◌, ◌≢◌, ℕ, ◌⊎◌, List, [], Option, Some, None, IfSome}
use Rattle.ds_base.specs.Outside.{Extends, HasRisen}
use Rattle.ds_tree.specs.declared.scenarios.Scenario.{Scenario}
use Rattle.ds_base.specs.declared.geometry.Geom.{Geom}
use Rattle.ds_base.specs.declared.sectors.Sector.{Sector}
use Rattle.ds_log.specs.LogValues.{LogValue}
use Rattle.ds_image.specs.Formatted.{IsFormatted}
use Rattle.ds_script.specs.Answers.{IsVolumeText}
use Rattle.ds_check.specs.declared.findings.Find.{Find}
use Rattle.ds_check.specs.Checks.{AreFindingsOf, VolumeStands, StandsForTree}
use Rattle.ds_check.specs.Volumes.{AreOfVolume}
use Rattle.ds_check.specs.Texts.{report_text}
use Rattle.ds_top.specs.declared.commands.Command.{Command}
use Rattle.ds_top.specs.declared.commands.Command.TheVariants.{Replay, Format, Check, Tree}
use Rattle.ds_top.specs.declared.output.Body.{Body}
use Rattle.ds_top.specs.declared.output.Body.TheVariants.{Text, Sectors}
use Rattle.ds_top.specs.declared.outcome.Why.{Why}
use Rattle.ds_top.specs.declared.outcome.Why.TheVariants.{Done, BadWords, ReadFault, WriteFault}
use Rattle.ds_top.specs.Causes.{IsRunnable, Causes, CausesOutput, OrFree, IsWritten}
use Rattle.ds_top.specs.Edges.{ExtendsByPart}
use Rattle.ds_top.specs.Images.{IsImage, CausesImage, IsListing, bytes_of, why_of_finds}
use Rattle.ds_top.specs.Outcomes.{status_of}
use Rattle.ds_top.specs.Promise.{IsReplayOf, OfInput, Wrote, HasOutput, HasReadAll, IsRefusal}

-- the log and the text are those of a replay of the scenario that the bytes are
pub record MakesReport (input : List ℕ) (log : Option LogValue) (text : List ℕ) : Type 0 where
  pub scenario : Scenario
  pub kept : LogValue
  pub runnable : IsRunnable input scenario
  pub is_log : log ≡ Some kept
  pub replay : IsReplayOf scenario kept text

-- the text is the bytes of the sectors of the volume that the bytes name
pub record MakesVolume (input text : List ℕ) : Type 0 where
  pub id : List ℕ
  pub geom : Geom
  pub sectors : List Sector
  pub is_text : IsVolumeText input id geom
  pub formatted : IsFormatted geom id sectors
  pub is_bytes : text ≡ bytes_of sectors

-- the text is that of what is found in the sectors, and says so
pub record TellsFindings (sectors : List Sector) (why : Why) (text : List ℕ) : Type 0 where
  pub finds : List Find
  pub findings : AreFindingsOf sectors finds
  pub told : why ≡ why_of_finds finds
  pub is_report : text ≡ report_text finds

-- the text is the listing of the tree of the sectors, or that of what is found in them, and says so
pub record TellsTree (sectors : List Sector) (why : Why) (text : List ℕ) : Type 0 where
  pub finds : List Find
  pub findings : AreFindingsOf sectors finds
  pub told : why ≡ why_of_finds finds
  pub is_listing : IsListing sectors finds text

-- the bytes are whole sectors, and this is so of them
pub record OfSectors (input : List ℕ) (P : List Sector → Type 0) : Type 0 where
  pub sectors : List Sector
  pub image : IsImage input sectors 0
  pub holds : P sectors

-- what a command makes of its input: how the run ends once all is written, its log, and the text to be written
abbrev pub Makes : Command → List ℕ → Why → Option LogValue → List ℕ → Type 0
Makes Replay input why log text = (why ≡ Done) × MakesReport input log text
Makes Format input why log text = (why ≡ Done) × (log ≡ None) × MakesVolume input text
Makes Check input why log text = (log ≡ None) × OfSectors input (λ sectors. TellsFindings sectors why text)
Makes Tree input why log text = (log ≡ None) × OfSectors input (λ sectors. TellsTree sectors why text)

-- the outcome so far is the one that the bytes cause, and no other is caused
pub record IsCaused (command : Command) (bytes : List ℕ) (why : Why) : Type 0 where
  pub cause : OrFree why (Causes command bytes why)
  pub only : (other : Why) → Causes command bytes other → OrFree why (why ≡ other)

-- the work of a command made this output of these bytes
pub record IsMadeOf (command : Command) (bytes : List ℕ) (why : Why) (log : Option LogValue) (text : List ℕ) : Type 0 where
  pub makes : Makes command bytes why log text
  pub caused : IsCaused command bytes why
  pub written : IsWritten why

-- the work of a command made none of these bytes
pub record IsRefusedOf (command : Command) (bytes : List ℕ) (why : Why) : Type 0 where
  pub caused : IsCaused command bytes why
  pub refusal : IsRefusal why
  pub words : why ≢ BadWords
  pub read : why ≢ ReadFault

-- the outcome so far is the one that the image causes, and no other is caused
pub record IsCausedByImage (sectors : List Sector) (left_over : ℕ) (why : Why) : Type 0 where
  pub cause : OrFree why (CausesImage sectors left_over why)
  pub only : (other : Why) → CausesImage sectors left_over other → OrFree why (why ≡ other)

-- what is found in an image without bytes left over; its volume stands for a tree where that is nothing
pub record AreFound (sectors : List Sector) (left_over : ℕ) (finds : List Find) : Type 0 where
  pub none_behind : left_over ≡ 0
  pub findings : AreFindingsOf sectors finds
  pub sound : finds ≡ [] → VolumeStands sectors
  pub caused : IsCausedByImage sectors left_over (why_of_finds finds)

-- the work on an image made this text, which tells something of its sectors
pub record IsMadeOfImage (Tells : List Sector → Why → List ℕ → Type 0) (sectors : List Sector) (left_over : ℕ) (why : Why) (log : Option LogValue) (text : List ℕ) : Type 0 where
  pub none_behind : left_over ≡ 0
  pub no_log : log ≡ None
  pub tells : Tells sectors why text
  pub written : IsWritten why
  pub caused : IsCausedByImage sectors left_over why

-- the work on an image made none
pub record IsRefusedOfImage (sectors : List Sector) (left_over : ℕ) (why : Why) : Type 0 where
  pub caused : IsCausedByImage sectors left_over why
  pub refusal : IsRefusal why
  pub words : why ≢ BadWords
  pub read : why ≢ ReadFault

-- the sectors are those of a volume, and these stand for a tree
pub record StandVolume (sectors : List Sector) : Type 0 where
  pub geom : Geom
  pub id : List ℕ
  pub volume : AreOfVolume sectors geom id
  pub stands : StandsForTree geom sectors

-- the bytes of an output
abbrev pub bytes_in : Body → List ℕ
bytes_in (Text text) = text.items
bytes_in (Sectors sectors) = bytes_of sectors.items

-- the work of a command made this output of the whole input
pub record IsMade (command : Command) (left left' : Option (List ℕ)) (why : Why) (log : Option LogValue) (text : List ℕ) : Type 0 where
  pub made : OfInput left left' (λ input. Makes command input why log text)
  pub caused : IfSome left (λ bytes. IsCaused command bytes why)
  pub written : IsWritten why

-- the work of a command made none of the input
pub record IsRefused (command : Command) (left left' : Option (List ℕ)) (faults faults' : ℕ) (why : Why) : Type 0 where
  pub caused : IfSome left (λ bytes. IsCaused command bytes why)
  pub refusal : IsRefusal why
  pub words : why ≢ BadWords
  pub read_fault : why ≡ ReadFault → HasRisen faults faults'
  pub whole : HasReadAll why → IfSome left (λ bytes. left' ≡ Some [])

-- all of an output was written, or a front of it until a fault
abbrev pub Writes : Why → List ℕ → Option (List ℕ) → Option (List ℕ) → ℕ → ℕ → Why → Type 0
Writes made text taken taken' faults faults' why =
    ((why ≡ made) × Extends taken taken' text) ⊎ ((why ≡ WriteFault) × ExtendsByPart taken taken' text × HasRisen faults faults')

-- a run wrote what its command makes of the input
pub record Outputs (command : Command) (input : List ℕ) (taken taken' : Option (List ℕ)) (why : Why) (log : Option LogValue) : Type 0 where
  pub made : Why
  pub text : List ℕ
  pub makes : Makes command input made log text
  pub written : Wrote why taken taken' text
  pub told : (why ≡ made) ⊎ (why ≡ WriteFault)

-- a run of a command ended so
pub record Ends (command : Command) (left left' : Option (List ℕ)) (faults faults' : ℕ) (taken taken' : Option (List ℕ)) (failed failed' : ℕ) (why : Why) (log : Option LogValue) : Type 0 where
  pub output : HasOutput (status_of why) → OfInput left left' (λ input. Outputs command input taken taken' why log)
  pub caused : IfSome left (λ bytes. OrFree why (Causes command bytes why))
  pub only : IfSome left (λ bytes. (other : Why) → Causes command bytes other → OrFree why (why ≡ other))
  pub written : why ≡ WriteFault → IfSome left (λ bytes. CausesOutput command bytes)
  pub words : why ≢ BadWords
  pub read_fault : why ≡ ReadFault → HasRisen faults faults'
  pub write_fault : why ≡ WriteFault → HasRisen failed failed'
  pub whole : HasReadAll why → IfSome left (λ bytes. left' ≡ Some [])
  pub refused : IsRefusal why → (taken' ≡ taken) × (log ≡ None)
  pub no_log : (command ≡ Replay → ⊥) → log ≡ None
