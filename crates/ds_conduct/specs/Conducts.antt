-- What a host owes to those who carry out its commands, in terms of its digest.
use Rattle.std.specs.Prelude.{◌≡◌, ℕ, ◌+◌, ◌<◌, ◌≤◌, true, false, length, Option, None, Some}
use Rattle.ds_base.specs.declared.commands.Command.{Command}
use Rattle.ds_base.specs.declared.commands.Next.{Next}
use Rattle.ds_base.specs.declared.commands.Next.TheVariants.{Rest, Send, Late}
use Rattle.ds_base.specs.declared.commands.Response.{Response}
use Rattle.ds_conduct.specs.Answers.{TellsSent}
use Rattle.ds_conduct.specs.Digests.{Digest, Own, noted, told}
use Rattle.ds_conduct.specs.Guards.{MaySend}
use Rattle.ds_conduct.specs.Resting.{rests}
use Rattle.ds_conduct.specs.Settings.{Setting}
use Rattle.ds_conduct.specs.declared.answers.HostAnswer.{HostAnswer}
use Rattle.ds_conduct.specs.declared.answers.HostAnswer.TheVariants.{LeaseLost}

-- the command of a call may be sent, and isn't the 4,097th
pub record Sends (setting : Setting) (d : Digest) (now : ℕ) (command : Command) : Type 0 where
  pub goes_on : rests setting.geom d ≡ false
  pub few : length d.exchanges < 4096
  pub may : MaySend setting d now command

-- a plain write is due 16 ticks or more after the last Swap of the own slot
pub record IsTooLate (setting : Setting) (d : Digest) (now at last : ℕ) : Type 0 where
  pub goes_on : rests setting.geom d ≡ false
  pub same_tick : at ≡ now
  pub own : Own
  pub holds : d.own ≡ Some own
  pub since : last ≡ own.last
  pub late : own.last + 16 ≤ now

-- what a host does next: it rests exactly between calls
abbrev pub IsDue : Setting → Digest → ℕ → Next → Type 0
IsDue setting d now Rest = rests setting.geom d ≡ true
IsDue setting d now (Send command) = Sends setting d now command
IsDue setting d now (Late at last) = IsTooLate setting d now at last

-- the digest after a command, its response and the answer
abbrev pub after : Setting → Digest → ℕ → Command → Response → Option HostAnswer → Digest
after setting d now command response answer = told answer (noted setting.geom d now command response)

-- what was answered to a command and its response is right
pub record Answers (setting : Setting) (d : Digest) (now : ℕ) (command : Command) (response : Response)
    (answer : Option HostAnswer) : Type 0 where
  pub may : MaySend setting d now command
  pub tells : TellsSent setting d now command may response (noted setting.geom d now command response).notes
      (noted setting.geom d now command response).exchanges answer

-- a late write is told as a lease that is lost, exactly before the answer
abbrev pub TellsLate : Digest → ℕ → Option HostAnswer → Type 0
TellsLate d now answer = tells_late d.answer d.own where
  tells_late : Option HostAnswer → Option Own → Type 0
  tells_late None (Some own) = answer ≡ Some (LeaseLost now own.last)
  tells_late None None = ⊥
  tells_late (Some before) own = answer ≡ None
