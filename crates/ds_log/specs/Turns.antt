-- The events of a log, each with its part in a call, and what they make of the device and of the hosts.
use Rattle.std.specs.Prelude.{ℕ, ◌==◌, if◌then◌else◌, List, [], ◌∷◌, map, Option}
use Rattle.ds_base.specs.declared.geometry.Geom.{Geom}
use Rattle.ds_base.specs.declared.names.Key.{Key}
use Rattle.ds_base.specs.declared.sectors.Sector.{Sector}
use Rattle.ds_tree.specs.declared.calls.HostCallOf.{HostCallOf}
use Rattle.ds_conduct.specs.declared.answers.HostAnswer.{HostAnswer}
use Rattle.ds_conduct.specs.Digests.{Digest, fresh_digest, noted, begun, told, stood_still, lost}
use Rattle.ds_log.specs.declared.logs.Event.{Event}
use Rattle.ds_log.specs.declared.logs.Step.{Step}
use Rattle.ds_log.specs.declared.logs.Step.TheVariants.{Local, Sent}
use Rattle.ds_log.specs.Store.{store}

-- an event begins a call, goes on with it or with its tail, or is of a directive that is no call
pub data Part : Type 0 where
  Begins : HostCallOf Key → Part
  Goes : Part
  Aside : Part

-- an event of a log with its part, and with the answer that is given in it
pub record Turn : Type 0 where
  pub event : Event
  pub part : Part
  pub answer : Option HostAnswer

abbrev pub events_of : List Turn → List Event
events_of turns = map (λ (t : Turn). t.event) turns

-- the sectors of the device after these turns
abbrev pub sectors_after : List Sector → List Turn → List Sector
sectors_after start turns = store start (events_of turns)

abbrev pub last_tick_from : ℕ → List Turn → ℕ
last_tick_from now [] = now
last_tick_from now (t ∷ turns) = last_tick_from t.event.at turns

-- the tick of the last turn, and 0 where there is none
abbrev pub last_tick : List Turn → ℕ
last_tick turns = last_tick_from 0 turns

-- the digest with which the step of a turn is made
abbrev pub started : Digest → Part → Digest
started d (Begins call) = begun d call
started d Goes = d
started d Aside = d

-- the digest after a step without a command
abbrev pub stood : Digest → Part → Digest
stood d (Begins call) = d
stood d Goes = stood_still d
stood d Aside = d

module _ (g : Geom) where
  -- the digest after a step
  abbrev pub stepped : Digest → Part → ℕ → Step → Digest
  stepped d part now Local = stood d part
  stepped d part now (Sent under command response landed took) = noted g d now command response

  -- the digest of a turn's host after the turn
  abbrev pub turned : Digest → Turn → Digest
  turned d t = lost t.event.dies (told t.answer (stepped (started d t.part) t.part t.event.at t.event.step))

  abbrev pub digest_from : ℕ → Digest → List Turn → Digest
  digest_from host d [] = d
  digest_from host d (t ∷ turns) = digest_from host (if t.event.host == host then turned d t else d) turns

  -- what a host's own turns come to
  abbrev pub digest : ℕ → List Turn → Digest
  digest host turns = digest_from host fresh_digest turns
