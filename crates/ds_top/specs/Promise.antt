-- What the program promises of a command, from the bytes that it reads to the bytes that it writes.
use Rattle.std.specs.Prelude.{◌≡◌, ℕ, ◌⊎◌, List, length, slice_get, Option, Some}
use Rattle.ds_base.specs.declared.geometry.Geom.{Geom}
use Rattle.ds_base.specs.declared.sectors.Sector.{Sector}
use Rattle.ds_base.specs.Outside.{Extends}
use Rattle.ds_tree.specs.declared.scenarios.Scenario.{Scenario}
use Rattle.ds_tree.specs.Nodes.{FileTree}
use Rattle.ds_log.specs.LogValues.{LogValue}
use Rattle.ds_log.specs.Commits.{commits}
use Rattle.ds_log.specs.Store.{change_count}
use Rattle.ds_log.specs.Headline.{Headline}
use Rattle.ds_log.specs.Scripts.{calls_of}
use Rattle.ds_log.specs.Follows.{Follows, IsAtEnd, InReplayOrder}
use Rattle.ds_world.specs.FirstRules.{first_rules}
use Rattle.ds_report.specs.Report.{report_of}
use Rattle.ds_image.specs.Formatted.{IsFormatted}
use Rattle.ds_check.specs.declared.findings.Find.{Find}
use Rattle.ds_check.specs.Checks.{AreFindingsOf}
use Rattle.ds_check.specs.Texts.{report_text}
use Rattle.ds_script.specs.Answers.{IsVolumeText}
use Rattle.ds_script.specs.declared.faults.What.{What}
use Rattle.ds_script.specs.declared.faults.What.TheVariants as whats
use Rattle.ds_top.specs.declared.outcome.Why.{Why}
use Rattle.ds_top.specs.declared.outcome.Why.TheVariants.{Done, BadLine, TooLarge, Stuck, NotBuilt, BadImage, BadWords, ReadFault, WriteFault, Memory, Findings}
use Rattle.ds_top.specs.Causes.{IsRunnable}
use Rattle.ds_top.specs.Edges.{IsReadWhole, ExtendsByPart}
use Rattle.ds_top.specs.Images.{IsImage, IsListing, bytes_of, why_of_finds}

-- the log is that of a whole replay of the scenario, and the text is its report
pub record IsReplayOf (s : Scenario) (log : LogValue) (text : List ℕ) : Type 0 where
  pub follows : Follows first_rules.start s log.events log.replies
  pub at_end : IsAtEnd s log.events log.replies
  pub in_order : InReplayOrder (length s.hosts) s.steps log.events
  pub headline : Headline first_rules s.geom (calls_of s log.replies) log.events log.replies
  pub last : FileTree
  pub is_last : slice_get headline.trees (commits first_rules log.events) ≡ Some last
  pub changes : change_count log.events ≡ commits first_rules log.events
  pub is_report : text ≡ report_of s log.events log.replies last

-- a run that met a fault in writing wrote a front of the text, where the sink tells it, and another the whole text
abbrev pub Wrote : Why → Option (List ℕ) → Option (List ℕ) → List ℕ → Type 0
Wrote WriteFault old new text = ExtendsByPart old new text
Wrote _ old new text = Extends old new text

-- the bytes are the text of a scenario that can be run; the log is that of a whole replay of it; what was written is its report;
-- and the run is done, or the sink failed
pub record IsRunOn (input : List ℕ) (taken taken' : Option (List ℕ)) (why : Why) (log : Option LogValue) : Type 0 where
  pub scenario : Scenario
  pub kept : LogValue
  pub text : List ℕ
  pub runnable : IsRunnable input scenario
  pub is_log : log ≡ Some kept
  pub replay : IsReplayOf scenario kept text
  pub told : (why ≡ Done) ⊎ (why ≡ WriteFault)
  pub written : Wrote why taken taken' text

-- all bytes of the source were read, and this holds of them
pub record OfInput (left left' : Option (List ℕ)) (P : List ℕ → Type 0) : Type 0 where
  pub input : List ℕ
  pub read : IsReadWhole left left' input
  pub holds : P input

-- the bytes are the text of a volume, what was written is the bytes of its sectors, and the run is done, or the sink failed
pub record IsFormatOn (input : List ℕ) (taken taken' : Option (List ℕ)) (why : Why) : Type 0 where
  pub id : List ℕ
  pub geom : Geom
  pub sectors : List Sector
  pub is_text : IsVolumeText input id geom
  pub formatted : IsFormatted geom id sectors
  pub told : (why ≡ Done) ⊎ (why ≡ WriteFault)
  pub written : Wrote why taken taken' (bytes_of sectors)

-- the bytes are the sectors of a volume, and what was written is the text of what is found in them
pub record IsCheckOn (input : List ℕ) (taken taken' : Option (List ℕ)) (why : Why) : Type 0 where
  pub sectors : List Sector
  pub finds : List Find
  pub image : IsImage input sectors 0
  pub findings : AreFindingsOf sectors finds
  pub told : (why ≡ why_of_finds finds) ⊎ (why ≡ WriteFault)
  pub written : Wrote why taken taken' (report_text finds)

-- the bytes are the sectors of a volume, and what was written is the listing of the tree for which its logical image stands, or
-- the text of what is found in them
pub record IsListOn (input : List ℕ) (taken taken' : Option (List ℕ)) (why : Why) : Type 0 where
  pub sectors : List Sector
  pub finds : List Find
  pub text : List ℕ
  pub image : IsImage input sectors 0
  pub findings : AreFindingsOf sectors finds
  pub is_listing : IsListing sectors finds text
  pub told : (why ≡ why_of_finds finds) ⊎ (why ≡ WriteFault)
  pub written : Wrote why taken taken' text

-- all bytes of the source were read, and the run is on them
abbrev pub IsRunOf : Option (List ℕ) → Option (List ℕ) → Option (List ℕ) → Option (List ℕ) → Why → Option LogValue → Type 0
IsRunOf left left' taken taken' why log = OfInput left left' (λ input. IsRunOn input taken taken' why log)

-- the statuses with which there is output
abbrev pub HasOutput : ℕ → Type 0
HasOutput status = (status ≡ 0) ⊎ ((status ≡ 4) ⊎ (status ≡ 6))

-- the count of anything but bytes is known once all is read
abbrev pub IsCountedLate : What → Type 0
IsCountedLate whats.Bytes = ⊥
IsCountedLate _ = Unit {0}

-- an outcome that says that the input was read to its end
abbrev pub HasReadAll : Why → Type 0
HasReadAll Done = Unit {0}
HasReadAll WriteFault = Unit {0}
HasReadAll (BadLine line why) = Unit {0}
HasReadAll (Stuck host directive) = Unit {0}
HasReadAll (NotBuilt host directive) = Unit {0}
HasReadAll (BadImage sector) = Unit {0}
HasReadAll (Findings count) = Unit {0}
HasReadAll (TooLarge what) = IsCountedLate what
HasReadAll BadWords = ⊥
HasReadAll ReadFault = ⊥
HasReadAll Memory = ⊥

-- an outcome of a run that was refused before it wrote anything
abbrev pub IsRefusal : Why → Type 0
IsRefusal Done = ⊥
IsRefusal (Findings count) = ⊥
IsRefusal WriteFault = ⊥
IsRefusal _ = Unit {0}
