-- How a run of the program ends: its exit status, and what it says on standard error.
use Rattle.std.specs.Prelude.{ℕ, List, [], ◌++◌, codes, decimal}
use Rattle.ds_check.specs.declared.checking.CheckFault.{CheckFault}
use Rattle.ds_check.specs.declared.checking.CheckFault.TheVariants as checks
use Rattle.ds_script.specs.declared.faults.ScriptFault.{ScriptFault}
use Rattle.ds_script.specs.declared.faults.ScriptFault.TheVariants as scripts
use Rattle.ds_script.specs.declared.faults.What.TheVariants.{Bytes}
use Rattle.ds_script.specs.FaultTexts.{fault_text, what_text}
use Rattle.ds_top.specs.declared.input.InputFault.{InputFault}
use Rattle.ds_top.specs.declared.input.InputFault.TheVariants as inputs
use Rattle.ds_top.specs.declared.outcome.Why.{Why}
use Rattle.ds_top.specs.declared.outcome.Why.TheVariants.{Done, BadLine, TooLarge, Stuck, NotBuilt, BadImage, BadWords, ReadFault, WriteFault, Memory, Findings}

-- 0 for a run that is done, and a number of its own for each kind of cause: the input, the words of the call, reading, writing, memory, findings
abbrev pub status_of : Why → ℕ
status_of Done = 0
status_of (BadLine line why) = 1
status_of (TooLarge what) = 1
status_of (Stuck host directive) = 1
status_of (NotBuilt host directive) = 1
status_of (BadImage sector) = 1
status_of BadWords = 2
status_of ReadFault = 3
status_of WriteFault = 4
status_of Memory = 5
status_of (Findings count) = 6

-- a directive of a host, by the numbers of both
abbrev pub place_text : ℕ → ℕ → List ℕ
place_text host directive = codes "host " ++ decimal host ++ codes " at " ++ decimal directive

-- what standard error is to say
abbrev pub why_text : Why → List ℕ
why_text Done = []
why_text (BadLine line why) = codes "bad line " ++ decimal line ++ codes ": " ++ fault_text why
why_text (TooLarge what) = codes "too large: " ++ what_text what
why_text (Stuck host directive) = codes "stuck: " ++ place_text host directive
why_text (NotBuilt host directive) = codes "not built: " ++ place_text host directive
why_text (BadImage sector) = codes "bad image: sector " ++ decimal sector
why_text BadWords = codes "bad words"
why_text ReadFault = codes "read fault"
why_text WriteFault = codes "write fault"
why_text Memory = codes "out of memory"
why_text (Findings count) = codes "findings: " ++ decimal count

-- the outcome where not all input was read
abbrev pub why_of_input : InputFault → Why
why_of_input inputs.Fault = ReadFault
why_of_input inputs.TooLarge = TooLarge Bytes
why_of_input inputs.NoMemory = Memory

-- the outcome where a text wasn't read
abbrev pub why_of_script : ScriptFault → Why
why_of_script (scripts.BadLine line why) = BadLine line why
why_of_script (scripts.TooLarge what) = TooLarge what
why_of_script (scripts.Stuck host directive) = Stuck host directive
why_of_script scripts.NoMemory = Memory

-- the outcome where sectors weren't checked
abbrev pub why_of_check : CheckFault → Why
why_of_check (checks.BadImage sector) = BadImage sector
why_of_check checks.NoMemory = Memory
