-- Which outcome bytes cause, and that they cause no other.
use Rattle.std.proofs.Common.{◌≡◌, ◌≢◌, ℕ, ◌<◌, ⊎_elim, inl, inr, List, length, refl, sym, ap, subst, arith}
use Rattle.std.specs.Prelude.{Result, Ok, Err}
use Rattle.ds_tree.specs.Grammar.{most_bytes}
use Rattle.ds_tree.specs.declared.scenarios.Scenario.{Scenario}
use Rattle.ds_tree.specs.FirstForm.{IsFirstForm, NotBuiltAt}
use Rattle.ds_script.specs.declared.faults.ScriptFault.{ScriptFault}
use Rattle.ds_script.specs.declared.faults.ScriptFault.TheVariants as scripts
use Rattle.ds_script.specs.declared.faults.What.TheVariants.{Bytes, Hosts, Directives, Steps, Volume}
use Rattle.ds_script.specs.Answers.{IsAnswer, IsScenarioText, OrNoMemory}
use Rattle.ds_top.specs.declared.commands.Command.TheVariants.{Replay}
use Rattle.ds_top.specs.declared.outcome.Why.{Why}
use Rattle.ds_top.specs.declared.outcome.Why.TheVariants.{Done, BadLine, TooLarge, Stuck, NotBuilt, BadWords, ReadFault}
use Rattle.ds_top.specs.Causes.{IsRunnable, CausesReplay, IsFree, OrFree}
use Rattle.ds_top.specs.Outcomes.{why_of_script}
use Rattle.ds_top.specs.Promise.{IsRefusal}
use Rattle.ds_top.specs.Runs.{IsCaused, IsRefusedOf}

-- what is read of a text: a scenario, or what is wrong
abbrev pub ok : Scenario → Result Scenario ScriptFault
ok s = Ok s

abbrev pub err : ScriptFault → Result Scenario ScriptFault
err fault = Err fault

-- no other answer than this one is an answer for the bytes, but for want of memory
abbrev pub IsOnly : List ℕ → Result Scenario ScriptFault → Type 0
IsOnly bytes result = (answer : Result Scenario ScriptFault) → IsAnswer bytes answer → OrNoMemory result (result ≡ answer)

-- an answer for the bytes that goes with an outcome that they cause
record AnswerFor (bytes : List ℕ) (why : Why) : Type 0 where
  answer : Result Scenario ScriptFault
  is_answer : IsAnswer bytes answer
  told : (fault : ScriptFault) → answer ≡ err fault → why_of_script fault ≡ why

told_as : (fault other : ScriptFault) → err fault ≡ err other → why_of_script other ≡ why_of_script fault
told_as fault other e = let same : fault ≡ other = cc in ap why_of_script (sym same)

no_fault : (s : Scenario) (fault : ScriptFault) (P : Type 0) → ok s ≡ err fault → P
no_fault s fault P e = absurd (cc)

answer_for : (bytes : List ℕ) (why : Why) → CausesReplay bytes why → AnswerFor bytes why
answer_for bytes Done h = record { answer = ok h.0; is_answer = h.1.is_text; told = λ fault e. no_fault h.0 fault _ e }
answer_for bytes (NotBuilt host directive) h =
    record { answer = ok h.scenario; is_answer = h.is_text; told = λ fault e. no_fault h.scenario fault _ e }
answer_for bytes (BadLine line why) h = record { answer = err (scripts.BadLine line why); is_answer = h; told = told_as (scripts.BadLine line why) }
answer_for bytes (TooLarge what) h = record { answer = err (scripts.TooLarge what); is_answer = h; told = told_as (scripts.TooLarge what) }
answer_for bytes (Stuck host directive) h =
    record { answer = err (scripts.Stuck host directive); is_answer = h; told = told_as (scripts.Stuck host directive) }
answer_for bytes _ h = absurd h

-- what is wrong with a text is caused by it
fault_caused : (bytes : List ℕ) (fault : ScriptFault) → OrNoMemory (err fault) (IsAnswer bytes (err fault))
    → OrFree (why_of_script fault) (CausesReplay bytes (why_of_script fault))
fault_caused bytes (scripts.BadLine line why) (inl e) = absurd (cc)
fault_caused bytes (scripts.BadLine line why) (inr h) = inr h
fault_caused bytes (scripts.TooLarge what) (inl e) = absurd (cc)
fault_caused bytes (scripts.TooLarge what) (inr h) = inr h
fault_caused bytes (scripts.Stuck host directive) (inl e) = absurd (cc)
fault_caused bytes (scripts.Stuck host directive) (inr h) = inr h
fault_caused bytes scripts.NoMemory h = inl tt

is_free : (fault : ScriptFault) → fault ≡ scripts.NoMemory → IsFree (why_of_script fault)
is_free fault e = subst (λ (f : ScriptFault). IsFree (why_of_script f)) (sym e) tt

fault_only : (bytes : List ℕ) (fault : ScriptFault) (other : Why) → IsOnly bytes (err fault) → CausesReplay bytes other
    → OrFree (why_of_script fault) (why_of_script fault ≡ other)
fault_only bytes fault other only h =
    let found = answer_for bytes other h in
    ⊎_elim
    (λ (e : err fault ≡ err scripts.NoMemory). let free : fault ≡ scripts.NoMemory = cc in inl (is_free fault free))
    (λ (e : err fault ≡ found.answer). inr (found.told fault (sym e)))
    (only found.answer found.is_answer)

pub fault_refusal : (fault : ScriptFault) → IsRefusal (why_of_script fault)
fault_refusal (scripts.BadLine line why) = tt
fault_refusal (scripts.TooLarge what) = tt
fault_refusal (scripts.Stuck host directive) = tt
fault_refusal scripts.NoMemory = tt

pub fault_words : (fault : ScriptFault) → why_of_script fault ≢ BadWords
fault_words (scripts.BadLine line why) e = absurd (cc)
fault_words (scripts.TooLarge what) e = absurd (cc)
fault_words (scripts.Stuck host directive) e = absurd (cc)
fault_words scripts.NoMemory e = absurd (cc)

pub fault_read : (fault : ScriptFault) → why_of_script fault ≢ ReadFault
fault_read (scripts.BadLine line why) e = absurd (cc)
fault_read (scripts.TooLarge what) e = absurd (cc)
fault_read (scripts.Stuck host directive) e = absurd (cc)
fault_read scripts.NoMemory e = absurd (cc)

-- a text that isn't read
pub text_refused : (bytes : List ℕ) (fault : ScriptFault) → OrNoMemory (err fault) (IsAnswer bytes (err fault)) → IsOnly bytes (err fault)
    → IsRefusedOf Replay bytes (why_of_script fault)
text_refused bytes fault answer only = record {
  caused = record { cause = fault_caused bytes fault answer; only = λ other h. fault_only bytes fault other only h };
  refusal = fault_refusal fault;
  words = fault_words fault;
  read = fault_read fault;
}

-- a text that is read is that of the scenario
pub text_read : (bytes : List ℕ) (s : Scenario) → OrNoMemory (ok s) (IsAnswer bytes (ok s)) → IsScenarioText bytes s
text_read bytes s (inl e) = absurd (cc)
text_read bytes s (inr h) = h

-- which outcomes a scenario has that was read
abbrev HasOutcome : Scenario → Why → Type 0
HasOutcome s Done = IsFirstForm s
HasOutcome s (NotBuilt host directive) = NotBuiltAt s host directive
HasOutcome s _ = ⊥

same_scenario : (bytes : List ℕ) (s other : Scenario) → IsOnly bytes (ok s) → IsScenarioText bytes other → other ≡ s
same_scenario bytes s other only h =
    ⊎_elim (λ (e : ok s ≡ err scripts.NoMemory). no_fault s scripts.NoMemory _ e) (λ (e : ok s ≡ ok other). let same : s ≡ other = cc in sym same) (only (ok other) h)

no_answer : (bytes : List ℕ) (s : Scenario) (fault : ScriptFault) → IsOnly bytes (ok s) → IsAnswer bytes (err fault) → ⊥
no_answer bytes s fault only h =
    ⊎_elim (λ (e : ok s ≡ err scripts.NoMemory). no_fault s scripts.NoMemory _ e) (λ (e : ok s ≡ err fault). no_fault s fault _ e) (only (err fault) h)

outcome_of : (bytes : List ℕ) (s : Scenario) (why : Why) → IsOnly bytes (ok s) → CausesReplay bytes why → HasOutcome s why
outcome_of bytes s Done only h = subst IsFirstForm (same_scenario bytes s h.0 only h.1.is_text) h.1.form
outcome_of bytes s (NotBuilt host directive) only h =
    subst (λ (x : Scenario). NotBuiltAt x host directive) (same_scenario bytes s h.scenario only h.is_text) h.here
outcome_of bytes s (BadLine line why) only h = no_answer bytes s (scripts.BadLine line why) only h
outcome_of bytes s (TooLarge what) only h = no_answer bytes s (scripts.TooLarge what) only h
outcome_of bytes s (Stuck host directive) only h = no_answer bytes s (scripts.Stuck host directive) only h
outcome_of bytes s _ only h = h

done_only : (s : Scenario) (why : Why) → ((host directive : ℕ) → NotBuiltAt s host directive → ⊥) → HasOutcome s why → OrFree Done (Done ≡ why)
done_only s Done none h = inr refl
done_only s (NotBuilt host directive) none h = absurd (none host directive h)
done_only s _ none h = absurd h

-- the text of a scenario that can be run
pub text_runs : (bytes : List ℕ) (s : Scenario) → IsScenarioText bytes s → IsFirstForm s → IsOnly bytes (ok s) → ((host directive : ℕ) → NotBuiltAt s host directive → ⊥)
    → IsRunnable bytes s × IsCaused Replay bytes Done
text_runs bytes s text form only none =
    let runnable : IsRunnable bytes s = record { is_text = text; form = form } in
    (runnable, record { cause = inr (s, runnable); only = λ other h. done_only s other none (outcome_of bytes s other only h) })

built_only : (s : Scenario) (host directive : ℕ) (why : Why) → (IsFirstForm s → ⊥) → ((h d : ℕ) → NotBuiltAt s h d → (h ≡ host) × (d ≡ directive))
    → HasOutcome s why → OrFree (NotBuilt host directive) (NotBuilt host directive ≡ why)
built_only s host directive Done none same h = absurd (none h)
built_only s host directive (NotBuilt other next) none same h =
    let at : (other ≡ host) × (next ≡ directive) = same other next h in
    let first : other ≡ host = at.0 in
    let second : next ≡ directive = at.1 in
    inr (cc)
built_only s host directive _ none same h = absurd h

-- the text of a scenario that can't be run
pub text_not_built : (bytes : List ℕ) (s : Scenario) (host directive : ℕ) → IsScenarioText bytes s → NotBuiltAt s host directive → IsOnly bytes (ok s)
    → (IsFirstForm s → ⊥) → ((h d : ℕ) → NotBuiltAt s h d → (h ≡ host) × (d ≡ directive)) → IsRefusedOf Replay bytes (NotBuilt host directive)
text_not_built bytes s host directive text here only none same = record {
  caused = record {
    cause = inr (record { scenario = s; is_text = text; here = here });
    only = λ other h. built_only s host directive other none same (outcome_of bytes s other only h);
  };
  refusal = tt;
  words = λ e. absurd (cc);
  read = λ e. absurd (cc);
}

few_only : (bytes : List ℕ) (why : Why) → most_bytes < length bytes → CausesReplay bytes why → OrFree (TooLarge Bytes) (TooLarge Bytes ≡ why)
few_only bytes Done over h = absurd (omega (arith, over, h.1.is_text.in_order.spells.few_bytes))
few_only bytes (NotBuilt host directive) over h = absurd (omega (arith, over, h.is_text.in_order.spells.few_bytes))
few_only bytes (BadLine line why) over h = absurd (omega (arith, over, h.0))
few_only bytes (TooLarge Bytes) over h = inr refl
few_only bytes (TooLarge Hosts) over h = absurd (omega (arith, over, h.0))
few_only bytes (TooLarge Directives) over h = absurd (omega (arith, over, h.0))
few_only bytes (TooLarge Steps) over h = absurd (omega (arith, over, h.0))
few_only bytes (TooLarge Volume) over h = absurd (omega (arith, over, h.0))
few_only bytes (Stuck host directive) over h = absurd (omega (arith, over, h.in_order.spells.few_bytes))
few_only bytes _ over h = absurd h

-- a text of too many bytes
pub text_too_large : (bytes : List ℕ) → most_bytes < length bytes → IsCaused Replay bytes (TooLarge Bytes)
text_too_large bytes over = record { cause = inr over; only = λ other h. few_only bytes other over h }
