-- Which outcome the text of a volume causes, and that it causes no other.
use Rattle.std.proofs.Common.{◌≡◌, ℕ, ◌<◌, inr, List, length, refl, ap, arith}
use Rattle.std.specs.Prelude.{Result, Ok, Err}
use Rattle.ds_base.specs.declared.geometry.Geom.{Geom}
use Rattle.ds_script.specs.declared.faults.ScriptFault.{ScriptFault}
use Rattle.ds_script.specs.declared.faults.ScriptFault.TheVariants as scripts
use Rattle.ds_script.specs.declared.faults.What.TheVariants.{Bytes, Hosts, Directives, Steps, Volume}
use Rattle.ds_script.specs.Answers.{IsVolumeAnswer, IsVolumeText}
use Rattle.ds_tree.specs.Grammar.{most_bytes}
use Rattle.ds_top.specs.declared.commands.Command.TheVariants.{Format}
use Rattle.ds_top.specs.declared.outcome.Why.{Why}
use Rattle.ds_top.specs.declared.outcome.Why.TheVariants.{Done, BadLine, TooLarge}
use Rattle.ds_top.specs.Causes.{CausesFormat, OrFree}
use Rattle.ds_top.specs.Outcomes.{why_of_script}
use Rattle.ds_top.specs.Runs.{IsCaused, IsRefusedOf}
use Rattle.ds_top.proofs.CauseLaws.{fault_refusal, fault_words, fault_read}

abbrev VolumeResult : Type 0
VolumeResult = Result (List ℕ × Geom) ScriptFault

abbrev ok : List ℕ × Geom → VolumeResult
ok volume = Ok volume

abbrev err : ScriptFault → VolumeResult
err fault = Err fault

-- no other answer than this one is an answer for the bytes
abbrev pub IsOnlyVolume : List ℕ → VolumeResult → Type 0
IsOnlyVolume bytes result = (answer : VolumeResult) → IsVolumeAnswer bytes answer → result ≡ answer

fault_caused : (bytes : List ℕ) (fault : ScriptFault) → IsVolumeAnswer bytes (err fault) → CausesFormat bytes (why_of_script fault)
fault_caused bytes (scripts.BadLine line why) h = h
fault_caused bytes (scripts.TooLarge what) h = h
fault_caused bytes (scripts.Stuck host directive) h = absurd h
fault_caused bytes scripts.NoMemory h = absurd h

same_fault : (fault other : ScriptFault) → err fault ≡ err other → why_of_script fault ≡ why_of_script other
same_fault fault other e = let same : fault ≡ other = cc in ap why_of_script same

fault_only : (bytes : List ℕ) (fault : ScriptFault) (other : Why) → IsOnlyVolume bytes (err fault) → CausesFormat bytes other
    → OrFree (why_of_script fault) (why_of_script fault ≡ other)
fault_only bytes fault Done only h = let other : err fault ≡ ok (h.id, h.geom) = only (ok (h.id, h.geom)) h.is_text in absurd (cc)
fault_only bytes fault (BadLine line why) only h = inr (same_fault fault (scripts.BadLine line why) (only (err (scripts.BadLine line why)) h))
fault_only bytes fault (TooLarge what) only h = inr (same_fault fault (scripts.TooLarge what) (only (err (scripts.TooLarge what)) h))
fault_only bytes fault _ only h = absurd h

-- a text that isn't that of a volume
pub volume_refused : (bytes : List ℕ) (fault : ScriptFault) → IsVolumeAnswer bytes (err fault) → IsOnlyVolume bytes (err fault)
    → IsRefusedOf Format bytes (why_of_script fault)
volume_refused bytes fault answer only = record {
  caused = record { cause = inr (fault_caused bytes fault answer); only = λ other h. fault_only bytes fault other only h };
  refusal = fault_refusal fault;
  words = fault_words fault;
  read = fault_read fault;
}

volume_only : (bytes : List ℕ) (volume : List ℕ × Geom) (other : Why) → IsOnlyVolume bytes (ok volume) → CausesFormat bytes other → OrFree Done (Done ≡ other)
volume_only bytes volume Done only h = inr refl
volume_only bytes volume (BadLine line why) only h = let e : ok volume ≡ err (scripts.BadLine line why) = only (err (scripts.BadLine line why)) h in absurd (cc)
volume_only bytes volume (TooLarge what) only h = let e : ok volume ≡ err (scripts.TooLarge what) = only (err (scripts.TooLarge what)) h in absurd (cc)
volume_only bytes volume _ only h = absurd h

-- the text of a volume
pub volume_caused : (bytes : List ℕ) (volume : List ℕ × Geom) → IsVolumeText bytes volume.0 volume.1 → IsOnlyVolume bytes (ok volume) → IsCaused Format bytes Done
volume_caused bytes volume is_text only = record {
  cause = inr (record { id = volume.0; geom = volume.1; is_text = is_text });
  only = λ other h. volume_only bytes volume other only h;
}

few_only : (bytes : List ℕ) (why : Why) → most_bytes < length bytes → CausesFormat bytes why → OrFree (TooLarge Bytes) (TooLarge Bytes ≡ why)
few_only bytes Done over h = absurd (omega (arith, over, h.is_text.spells.few_bytes))
few_only bytes (BadLine line why) over h = absurd (omega (arith, over, h.0))
few_only bytes (TooLarge Bytes) over h = inr refl
few_only bytes (TooLarge Hosts) over h = absurd (omega (arith, over, h.0))
few_only bytes (TooLarge Directives) over h = absurd (omega (arith, over, h.0))
few_only bytes (TooLarge Steps) over h = absurd (omega (arith, over, h.0))
few_only bytes (TooLarge Volume) over h = absurd (omega (arith, over, h.0))
few_only bytes _ over h = absurd h

-- a text of too many bytes
pub volume_too_large : (bytes : List ℕ) → most_bytes < length bytes → IsCaused Format bytes (TooLarge Bytes)
volume_too_large bytes over = record { cause = inr over; only = λ other h. few_only bytes other over h }
