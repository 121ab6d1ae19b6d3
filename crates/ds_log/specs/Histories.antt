-- A history: each turn does what its host may do by its own turns before, and is answered as the device does.
use Rattle.std.specs.Prelude.{◌≡◌, ℕ, ◌≤◌, ◌⊎◌, ◌&&◌, Bool, true, List, take, slice_get, Option, Some, None, ⊤}
use Rattle.ds_base.specs.declared.names.Key.{Key}
use Rattle.ds_base.specs.declared.sectors.Sector.{Sector}
use Rattle.ds_base.specs.declared.commands.Command.{Command}
use Rattle.ds_base.specs.declared.commands.Response.{Response}
use Rattle.ds_base.specs.declared.commands.Response.TheVariants.{Fault}
use Rattle.ds_base.specs.Device as device
use Rattle.ds_base.specs.Device.{takes_effect}
use Rattle.ds_tree.specs.declared.calls.HostCallOf.{HostCallOf}
use Rattle.ds_conduct.specs.Begins.{BeginsWith}
use Rattle.ds_conduct.specs.Conducts.{Answers, IsTooLate, Sends, TellsLate}
use Rattle.ds_conduct.specs.Digests.{Digest, begun, own_pair}
use Rattle.ds_conduct.specs.Resting.{rests}
use Rattle.ds_conduct.specs.Settings.{Setting}
use Rattle.ds_conduct.specs.declared.answers.HostAnswer.{HostAnswer}
use Rattle.ds_log.specs.declared.logs.Step.{Step}
use Rattle.ds_log.specs.declared.logs.Step.TheVariants.{Local, Sent}
use Rattle.ds_log.specs.Turns.{Part, Begins, Goes, Aside, Turn, digest, last_tick, sectors_after, started}
use Rattle.ds_log.specs.Volumes.{Volume, setting_of}

-- a command that may be sent, under the generation held, with the response of the device or with Fault; a command that landed has
-- its effect
pub record IsSent (setting : Setting) (d : Digest) (now : ℕ) (sectors : List Sector) (under : Option (ℕ × ℕ)) (command : Command)
    (response : Response) (landed took : Bool) : Type 0 where
  pub sends : Sends setting d now command
  pub held : under ≡ own_pair d.own
  pub responds : ((landed ≡ true) × device.Answers sectors command response) ⊎ (response ≡ Fault)
  pub effect : took ≡ (landed && takes_effect sectors command)

-- a plain write is due too late, and the answer is the one that is owed then
pub record IsLate (setting : Setting) (d : Digest) (now : ℕ) (answer : Option HostAnswer) : Type 0 where
  pub at : ℕ
  pub last : ℕ
  pub due : IsTooLate setting d now at last
  pub tells : TellsLate d now answer

-- the command of a step, if it has one, is rightly sent
abbrev pub Obeys : Setting → Digest → ℕ → List Sector → Step → Type 0
Obeys setting d now sectors Local = ⊤
Obeys setting d now sectors (Sent under command response landed took) =
    IsSent setting d now sectors under command response landed took

-- and rightly answered
abbrev pub Tells : Setting → Digest → ℕ → Step → Option HostAnswer → Type 0
Tells setting d now Local answer = ⊤
Tells setting d now (Sent under command response landed took) answer = Answers setting d now command response answer

-- a call begins where its host rests
abbrev pub BeginsAtRest : Setting → Digest → Part → Type 0
BeginsAtRest setting d (Begins call) = rests setting.geom d ≡ true
BeginsAtRest setting d Goes = ⊤
BeginsAtRest setting d Aside = ⊤

-- a call is answered at its beginning, or its first write is due too late
pub data EndsAtOnce (setting : Setting) (d : Digest) (now : ℕ) : HostCallOf Key → Option HostAnswer → Type 0 where
  Refused : (call : HostCallOf Key) (answer : HostAnswer) → BeginsWith d call (Some answer)
      → EndsAtOnce setting d now call (Some answer)
  TooLate : (call : HostCallOf Key) (answer : Option HostAnswer) → BeginsWith d call None → IsLate setting (begun d call) now answer
      → EndsAtOnce setting d now call answer

-- the step and the answer are of this part of a call
abbrev pub IsPart : Setting → Digest → ℕ → Part → Step → Option HostAnswer → Type 0
IsPart setting d now (Begins call) Local answer = EndsAtOnce setting d now call answer
IsPart setting d now (Begins call) (Sent under command response landed took) answer = BeginsWith d call None
IsPart setting d now Goes Local answer = IsLate setting d now answer
IsPart setting d now Goes (Sent under command response landed took) answer = ⊤
IsPart setting d now Aside Local answer = answer ≡ None
IsPart setting d now Aside (Sent under command response landed took) answer = ⊥

module _ (volume : Volume) (start : List Sector) where
  -- a turn after these: the clock doesn't fall, and its host does what it may by its own turns
  pub record IsNext (past : List Turn) (t : Turn) : Type 0 where
    pub in_time : last_tick past ≤ t.event.at
    pub at_rest : BeginsAtRest (setting_of volume t.event.host) (digest volume.geom t.event.host past) t.part
    pub obeys : Obeys (setting_of volume t.event.host) (started (digest volume.geom t.event.host past) t.part) t.event.at
        (sectors_after start past) t.event.step
    pub tells : Tells (setting_of volume t.event.host) (started (digest volume.geom t.event.host past) t.part) t.event.at t.event.step
        t.answer
    pub is_part : IsPart (setting_of volume t.event.host) (digest volume.geom t.event.host past) t.event.at t.part t.event.step t.answer

  pub record IsHistory (turns : List Turn) : Type 0 where
    pub each : (n : ℕ) (t : Turn) → slice_get turns n ≡ Some t → IsNext (take n turns) t
