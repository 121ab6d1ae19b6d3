-- What the work of a command and the writing of its output come to.
use Rattle.std.proofs.Common.{◌≡◌, ◌≢◌, ℕ, ◌<◌, ⊎_elim, inl, inr, List, [], length, refl, sym, subst, ◌∙◌, arith, Option, Some, None}
use Rattle.std.specs.Prelude.{IfSome, Result, Ok, Err, MatchResult}
use Rattle.ds_script.specs.declared.faults.What.TheVariants.{Bytes}
use Rattle.ds_top.specs.declared.input.InputFault.{InputFault}
use Rattle.ds_top.specs.declared.input.InputFault.TheVariants as inputs
use Rattle.ds_base.specs.Outside.{Extends, HasRisen}
use Rattle.ds_log.specs.LogValues.{LogValue}
use Rattle.ds_top.specs.declared.commands.Command.{Command}
use Rattle.ds_top.specs.declared.commands.Command.TheVariants.{Replay, Format, Check, Tree}
use Rattle.ds_top.specs.declared.outcome.Why.{Why}
use Rattle.ds_top.specs.declared.outcome.Why.TheVariants.{Done, TooLarge, BadWords, ReadFault, WriteFault, Memory, Findings}
use Rattle.ds_top.specs.Causes.{Causes, CausesOutput, IsFree, OrFree, IsWritten}
use Rattle.ds_top.specs.Commands.{AskFor}
use Rattle.ds_top.specs.Edges.{IsReadWhole}
use Rattle.ds_top.specs.Outcomes.{status_of, why_of_input}
use Rattle.ds_top.specs.Promise.{OfInput, Wrote, IsRunOn, IsRunOf, IsFormatOn, IsCheckOn, IsListOn, HasOutput, IsRefusal}
use Rattle.ds_top.specs.Runs.{Makes, IsCaused, IsMadeOf, IsRefusedOf, IsMade, IsRefused, Writes, Outputs, Ends}

-- a run that wrote its output isn't free, no refusal, and no fault
not_free : (why : Why) → IsWritten why → IsFree why → ⊥
not_free Done written free = free
not_free (Findings count) written free = free
not_free _ written free = written

not_refused : (why : Why) → IsWritten why → IsRefusal why → ⊥
not_refused Done written refusal = refusal
not_refused (Findings count) written refusal = refusal
not_refused _ written refusal = written

is_not : (why other : Why) → IsWritten why → (IsWritten other → ⊥) → why ≢ other
is_not why other written unwritten same = unwritten (subst IsWritten same written)

-- a refusal has no output
no_output : (why : Why) → IsRefusal why → HasOutput (status_of why) → ⊥
no_output Done refusal has = refusal
no_output WriteFault refusal has = refusal
no_output (Findings count) refusal has = refusal
no_output _ refusal has = ⊎_elim (λ e. omega (arith, e)) (λ h. ⊎_elim (λ e. omega (arith, e)) (λ e. omega (arith, e)) h) has

-- want of memory
pub memory_refused : (command : Command) (bytes : List ℕ) → IsRefusedOf command bytes Memory
memory_refused command bytes = record {
  caused = record { cause = inl tt; only = λ other h. inl tt };
  refusal = tt;
  words = λ e. absurd (cc);
  read = λ e. absurd (cc);
}

-- a result that is so is also so, where each of its values is
pub result_map : {T E : Type 0} (r : Result T E) (P P' : T → Type 0) (Q Q' : E → Type 0) → ((x : T) → P x → P' x) → ((e : E) → Q e → Q' e)
    → MatchResult r P Q → MatchResult r P' Q'
result_map (Ok x) P P' Q Q' f h m = f x m
result_map (Err e) P P' Q Q' f h m = h e m

large_caused : (command : Command) (limit : ℕ) (left : Option (List ℕ)) → ((bytes : List ℕ) → limit < length bytes → IsCaused command bytes (TooLarge Bytes))
    → IfSome left (λ bytes. limit < length bytes) → IfSome left (λ bytes. IsCaused command bytes (TooLarge Bytes))
large_caused command limit None caused large = tt
large_caused command limit (Some bytes) caused large = caused bytes large

free_fault : (command : Command) (left : Option (List ℕ)) (why : Why) → IsFree why → IfSome left (λ bytes. IsCaused command bytes why)
free_fault command None why free = tt
free_fault command (Some bytes) why free = record { cause = inl free; only = λ other h. inl free }

-- input that wasn't read to its end
pub input_refused : (command : Command) (limit : ℕ) (left left' : Option (List ℕ)) (faults faults' : ℕ) (fault : InputFault)
    → (fault ≡ inputs.TooLarge → IfSome left (λ bytes. limit < length bytes)) → (fault ≡ inputs.Fault → HasRisen faults faults')
    → ((bytes : List ℕ) → limit < length bytes → IsCaused command bytes (TooLarge Bytes))
    → IsRefused command left left' faults faults' (why_of_input fault)
input_refused command limit left left' faults faults' inputs.Fault large failed caused = record {
  caused = free_fault command left ReadFault tt;
  refusal = tt;
  words = λ e. absurd (cc);
  read_fault = λ e. failed refl;
  whole = λ h. absurd h;
}
input_refused command limit left left' faults faults' inputs.TooLarge large failed caused = record {
  caused = large_caused command limit left caused (large refl);
  refusal = tt;
  words = λ e. absurd (cc);
  read_fault = λ e. absurd (cc);
  whole = λ h. absurd h;
}
input_refused command limit left left' faults faults' inputs.NoMemory large failed caused = record {
  caused = free_fault command left Memory tt;
  refusal = tt;
  words = λ e. absurd (cc);
  read_fault = λ e. absurd (cc);
  whole = λ h. absurd h;
}

-- what is so of the bytes that were read is so of all that was left
caused_whole : (command : Command) (left left' : Option (List ℕ)) (bytes : List ℕ) (why : Why) → IsReadWhole left left' bytes → IsCaused command bytes why
    → IfSome left (λ all. IsCaused command all why)
caused_whole command None left' bytes why read caused = tt
caused_whole command (Some all) left' bytes why read caused = subst (λ (xs : List ℕ). IsCaused command xs why) (sym read.0) caused

pub at_end : (left left' : Option (List ℕ)) (bytes : List ℕ) → IsReadWhole left left' bytes → IfSome left (λ all. left' ≡ Some [])
at_end None left' bytes read = tt
at_end (Some all) left' bytes read = read.1

pub made_whole : (command : Command) (left left' : Option (List ℕ)) (bytes : List ℕ) (why : Why) (log : Option LogValue) (text : List ℕ)
    → IsReadWhole left left' bytes → IsMadeOf command bytes why log text → IsMade command left left' why log text
made_whole command left left' bytes why log text read it = record {
  made = record { input = bytes; read = read; holds = it.makes };
  caused = caused_whole command left left' bytes why read it.caused;
  written = it.written;
}

pub refused_whole : (command : Command) (left left' : Option (List ℕ)) (faults faults' : ℕ) (bytes : List ℕ) (why : Why)
    → IsReadWhole left left' bytes → IsRefusedOf command bytes why → IsRefused command left left' faults faults' why
refused_whole command left left' faults faults' bytes why read it = record {
  caused = caused_whole command left left' bytes why read it.caused;
  refusal = it.refusal;
  words = it.words;
  read_fault = λ e. absurd (it.read e);
  whole = λ h. at_end left left' bytes read;
}

causes : (command : Command) (left : Option (List ℕ)) (why : Why) → IfSome left (λ bytes. IsCaused command bytes why)
    → IfSome left (λ bytes. OrFree why (Causes command bytes why))
causes command None why h = tt
causes command (Some bytes) why h = h.cause

causes_only : (command : Command) (left : Option (List ℕ)) (why : Why) → IfSome left (λ bytes. IsCaused command bytes why)
    → IfSome left (λ bytes. (other : Why) → Causes command bytes other → OrFree why (why ≡ other))
causes_only command None why h = tt
causes_only command (Some bytes) why h = h.only

-- a run that was refused
pub ends_refused : (command : Command) (left left' : Option (List ℕ)) (faults faults' : ℕ) (taken taken' : Option (List ℕ)) (failed failed' : ℕ) (why : Why)
    → IsRefused command left left' faults faults' why → taken' ≡ taken → Ends command left left' faults faults' taken taken' failed failed' why None
ends_refused command left left' faults faults' taken taken' failed failed' why it same = record {
  output = λ has. absurd (no_output why it.refusal has);
  caused = causes command left why it.caused;
  only = causes_only command left why it.caused;
  written = λ e. absurd (subst IsRefusal e it.refusal);
  words = it.words;
  read_fault = it.read_fault;
  write_fault = λ e. absurd (subst IsRefusal e it.refusal);
  whole = it.whole;
  refused = λ h. (same, refl);
  no_log = λ h. refl;
}

output_caused : (command : Command) (left : Option (List ℕ)) (why : Why) → IsWritten why → IfSome left (λ bytes. IsCaused command bytes why)
    → IfSome left (λ bytes. CausesOutput command bytes)
output_caused command None why written h = tt
output_caused command (Some bytes) why written h =
    ⊎_elim (λ (free : IsFree why). absurd (not_free why written free)) (λ (cause : Causes command bytes why). (why, written, cause)) h.cause

wrote_all : (why : Why) (taken taken' : Option (List ℕ)) (text : List ℕ) → IsWritten why → Extends taken taken' text → Wrote why taken taken' text
wrote_all Done taken taken' text written all = all
wrote_all (Findings count) taken taken' text written all = all
wrote_all _ taken taken' text written all = absurd written

pub read_to_end : (left left' : Option (List ℕ)) (P : List ℕ → Type 0) → OfInput left left' P → IfSome left (λ bytes. left' ≡ Some [])
read_to_end left left' P it = at_end left left' it.input it.read

-- a replay alone has a log
makes_no_log : (command : Command) (input : List ℕ) (why : Why) (log : Option LogValue) (text : List ℕ) → Makes command input why log text
    → (command ≡ Replay → ⊥) → log ≡ None
makes_no_log Replay input why log text makes other = absurd (other refl)
makes_no_log Format input why log text makes other = makes.1
makes_no_log Check input why log text makes other = makes.0
makes_no_log Tree input why log text makes other = makes.0

-- a run that wrote all its output
ends_whole : (command : Command) (left left' : Option (List ℕ)) (faults faults' : ℕ) (taken taken' : Option (List ℕ)) (failed failed' : ℕ) (why : Why)
    (log : Option LogValue) (text : List ℕ) → IsMade command left left' why log text → Extends taken taken' text
    → Ends command left left' faults faults' taken taken' failed failed' why log
ends_whole command left left' faults faults' taken taken' failed failed' why log text it all = record {
  output = λ has. record {
    input = it.made.input;
    read = it.made.read;
    holds = record { made = why; text = text; makes = it.made.holds; written = wrote_all why taken taken' text it.written all; told = inl refl };
  };
  caused = causes command left why it.caused;
  only = causes_only command left why it.caused;
  written = λ e. absurd (is_not why WriteFault it.written (λ h. h) e);
  words = is_not why BadWords it.written (λ h. h);
  read_fault = λ e. absurd (is_not why ReadFault it.written (λ h. h) e);
  write_fault = λ e. absurd (is_not why WriteFault it.written (λ h. h) e);
  whole = λ h. read_to_end left left' _ it.made;
  refused = λ h. absurd (not_refused why it.written h);
  no_log = makes_no_log command it.made.input why log text it.made.holds;
}

-- a run that wrote a front of its output
ends_part : (command : Command) (left left' : Option (List ℕ)) (faults faults' : ℕ) (taken taken' : Option (List ℕ)) (failed failed' : ℕ) (made : Why)
    (log : Option LogValue) (text : List ℕ) → IsMade command left left' made log text → Wrote WriteFault taken taken' text → HasRisen failed failed'
    → Ends command left left' faults faults' taken taken' failed failed' WriteFault log
ends_part command left left' faults faults' taken taken' failed failed' made log text it part risen = record {
  output = λ has. record {
    input = it.made.input;
    read = it.made.read;
    holds = record { made = made; text = text; makes = it.made.holds; written = part; told = inr refl };
  };
  caused = causes command left WriteFault (free_fault command left WriteFault tt);
  only = causes_only command left WriteFault (free_fault command left WriteFault tt);
  written = λ e. output_caused command left made it.written it.caused;
  words = λ e. absurd (cc);
  read_fault = λ e. absurd (cc);
  write_fault = λ e. risen;
  whole = λ h. read_to_end left left' _ it.made;
  refused = λ h. absurd h;
  no_log = makes_no_log command it.made.input made log text it.made.holds;
}

pub ends_written : (command : Command) (left left' : Option (List ℕ)) (faults faults' : ℕ) (taken taken' : Option (List ℕ)) (failed failed' : ℕ) (made why : Why)
    (log : Option LogValue) (text : List ℕ) → IsMade command left left' made log text → Writes made text taken taken' failed failed' why
    → Ends command left left' faults faults' taken taken' failed failed' why log
ends_written command left left' faults faults' taken taken' failed failed' made why log text it (inl all) =
    subst (λ (w : Why). Ends command left left' faults faults' taken taken' failed failed' w log) (sym all.0)
    (ends_whole command left left' faults faults' taken taken' failed failed' made log text it all.1)
ends_written command left left' faults faults' taken taken' failed failed' made why log text it (inr part) =
    subst (λ (w : Why). Ends command left left' faults faults' taken taken' failed failed' w log) (sym part.0)
    (ends_part command left left' faults faults' taken taken' failed failed' made log text it part.1 part.2)

-- what a run of the command that was asked for says of each command that is asked for
pub asked_causes : (left : Option (List ℕ)) (words : List (List ℕ)) (command : Command) (why : Why)
    → ((other : Command) → AskFor words other → command ≡ other) → IfSome left (λ bytes. OrFree why (Causes command bytes why))
    → IfSome left (λ bytes. (other : Command) → AskFor words other → OrFree why (Causes other bytes why))
asked_causes None words command why same h = tt
asked_causes (Some bytes) words command why same h = λ other asks. subst (λ (c : Command). OrFree why (Causes c bytes why)) (same other asks) h

pub asked_only : (left : Option (List ℕ)) (words : List (List ℕ)) (command : Command) (why : Why)
    → ((other : Command) → AskFor words other → command ≡ other)
    → IfSome left (λ bytes. (other : Why) → Causes command bytes other → OrFree why (why ≡ other))
    → IfSome left (λ bytes. (asked : Command) (other : Why) → AskFor words asked → Causes asked bytes other → OrFree why (why ≡ other))
asked_only None words command why same h = tt
asked_only (Some bytes) words command why same h =
    λ asked other asks cause. h other (subst (λ (c : Command). Causes c bytes other) (sym (same asked asks)) cause)

pub asked_output : (left : Option (List ℕ)) (words : List (List ℕ)) (command : Command)
    → ((other : Command) → AskFor words other → command ≡ other) → IfSome left (λ bytes. CausesOutput command bytes)
    → IfSome left (λ bytes. (other : Command) → AskFor words other → CausesOutput other bytes)
asked_output None words command same h = tt
asked_output (Some bytes) words command same h = λ other asks. subst (λ (c : Command). CausesOutput c bytes) (same other asks) h

-- words that ask for nothing
pub unasked : (left : Option (List ℕ)) (words : List (List ℕ)) (P : List ℕ → Command → Type 0) → ((other : Command) → AskFor words other → ⊥)
    → IfSome left (λ bytes. (other : Command) → AskFor words other → P bytes other)
unasked None words P none = tt
unasked (Some bytes) words P none = λ other asks. absurd (none other asks)

pub unasked_only : (left : Option (List ℕ)) (words : List (List ℕ)) (why : Why) → ((other : Command) → AskFor words other → ⊥)
    → IfSome left (λ bytes. (asked : Command) (other : Why) → AskFor words asked → Causes asked bytes other → OrFree why (why ≡ other))
unasked_only None words why none = tt
unasked_only (Some bytes) words why none = λ asked other asks cause. absurd (none asked asks)

-- the run of a replay
run_on : (input : List ℕ) (taken taken' : Option (List ℕ)) (why : Why) (log : Option LogValue) → Outputs Replay input taken taken' why log
    → IsRunOn input taken taken' why log
run_on input taken taken' why log it = record {
  scenario = it.makes.1.scenario;
  kept = it.makes.1.kept;
  text = it.text;
  runnable = it.makes.1.runnable;
  is_log = it.makes.1.is_log;
  replay = it.makes.1.replay;
  told = ⊎_elim (λ (e : why ≡ it.made). inl (e ∙ it.makes.0)) (λ e. inr e) it.told;
  written = it.written;
}

-- a run of the command that was asked for
ends_as : (command other : Command) (left left' : Option (List ℕ)) (faults faults' : ℕ) (taken taken' : Option (List ℕ)) (failed failed' : ℕ) (why : Why)
    (log : Option LogValue) → command ≡ other → Ends command left left' faults faults' taken taken' failed failed' why log
    → Ends other left left' faults faults' taken taken' failed failed' why log
ends_as command other left left' faults faults' taken taken' failed failed' why log same it =
    subst (λ (c : Command). Ends c left left' faults faults' taken taken' failed failed' why log) same it

pub run_of : (command : Command) (left left' : Option (List ℕ)) (faults faults' : ℕ) (taken taken' : Option (List ℕ)) (failed failed' : ℕ) (why : Why)
    (log : Option LogValue) → command ≡ Replay → Ends command left left' faults faults' taken taken' failed failed' why log → HasOutput (status_of why)
    → IsRunOf left left' taken taken' why log
run_of command left left' faults faults' taken taken' failed failed' why log same it has =
    let of = (ends_as command Replay left left' faults faults' taken taken' failed failed' why log same it).output has in
    record { input = of.input; read = of.read; holds = run_on of.input taken taken' why log of.holds }

-- the run of a formatting
format_on : (input : List ℕ) (taken taken' : Option (List ℕ)) (why : Why) (log : Option LogValue) → Outputs Format input taken taken' why log
    → IsFormatOn input taken taken' why
format_on input taken taken' why log it = record {
  id = it.makes.2.id;
  geom = it.makes.2.geom;
  sectors = it.makes.2.sectors;
  is_text = it.makes.2.is_text;
  formatted = it.makes.2.formatted;
  told = ⊎_elim (λ (e : why ≡ it.made). inl (e ∙ it.makes.0)) (λ e. inr e) it.told;
  written = subst (λ (text : List ℕ). Wrote why taken taken' text) it.makes.2.is_bytes it.written;
}

pub format_of : (command : Command) (left left' : Option (List ℕ)) (faults faults' : ℕ) (taken taken' : Option (List ℕ)) (failed failed' : ℕ) (why : Why)
    (log : Option LogValue) → command ≡ Format → Ends command left left' faults faults' taken taken' failed failed' why log → HasOutput (status_of why)
    → OfInput left left' (λ input. IsFormatOn input taken taken' why)
format_of command left left' faults faults' taken taken' failed failed' why log same it has =
    let of = (ends_as command Format left left' faults faults' taken taken' failed failed' why log same it).output has in
    record { input = of.input; read = of.read; holds = format_on of.input taken taken' why log of.holds }

-- the run of a check
check_on : (input : List ℕ) (taken taken' : Option (List ℕ)) (why : Why) (log : Option LogValue) → Outputs Check input taken taken' why log
    → IsCheckOn input taken taken' why
check_on input taken taken' why log it =
    let of = it.makes.1 in
    record {
      sectors = of.sectors;
      finds = of.holds.finds;
      image = of.image;
      findings = of.holds.findings;
      told = ⊎_elim (λ (e : why ≡ it.made). inl (e ∙ of.holds.told)) (λ e. inr e) it.told;
      written = subst (λ (text : List ℕ). Wrote why taken taken' text) of.holds.is_report it.written;
    }

pub check_of : (command : Command) (left left' : Option (List ℕ)) (faults faults' : ℕ) (taken taken' : Option (List ℕ)) (failed failed' : ℕ) (why : Why)
    (log : Option LogValue) → command ≡ Check → Ends command left left' faults faults' taken taken' failed failed' why log → HasOutput (status_of why)
    → OfInput left left' (λ input. IsCheckOn input taken taken' why)
check_of command left left' faults faults' taken taken' failed failed' why log same it has =
    let of = (ends_as command Check left left' faults faults' taken taken' failed failed' why log same it).output has in
    record { input = of.input; read = of.read; holds = check_on of.input taken taken' why log of.holds }

-- the run of a listing
list_on : (input : List ℕ) (taken taken' : Option (List ℕ)) (why : Why) (log : Option LogValue) → Outputs Tree input taken taken' why log
    → IsListOn input taken taken' why
list_on input taken taken' why log it =
    let of = it.makes.1 in
    record {
      sectors = of.sectors;
      finds = of.holds.finds;
      text = it.text;
      image = of.image;
      findings = of.holds.findings;
      is_listing = of.holds.is_listing;
      told = ⊎_elim (λ (e : why ≡ it.made). inl (e ∙ of.holds.told)) (λ e. inr e) it.told;
      written = it.written;
    }

pub list_of : (command : Command) (left left' : Option (List ℕ)) (faults faults' : ℕ) (taken taken' : Option (List ℕ)) (failed failed' : ℕ) (why : Why)
    (log : Option LogValue) → command ≡ Tree → Ends command left left' faults faults' taken taken' failed failed' why log → HasOutput (status_of why)
    → OfInput left left' (λ input. IsListOn input taken taken' why)
list_of command left left' faults faults' taken taken' failed failed' why log same it has =
    let of = (ends_as command Tree left left' faults faults' taken taken' failed failed' why log same it).output has in
    record { input = of.input; read = of.read; holds = list_on of.input taken taken' why log of.holds }
