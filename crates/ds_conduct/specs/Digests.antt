-- What the list of a host's own commands, responses, ticks and answers so far comes to.
use Rattle.std.specs.Prelude.{ℕ, ◌+◌, ◌&&◌, ◌==◌, Bool, true, false, not, if◌then◌else◌, List, [], ◌∷◌, filter, Option, None, Some}
use Rattle.ds_base.specs.declared.geometry.Geom.{Geom}
use Rattle.ds_base.specs.declared.names.Key.{Key}
use Rattle.ds_base.specs.declared.sectors.Sector.{Sector}
use Rattle.ds_base.specs.declared.commands.Command.{Command}
use Rattle.ds_base.specs.declared.commands.Command.TheVariants.{Read, Write, Swap}
use Rattle.ds_base.specs.declared.commands.Response.{Response}
use Rattle.ds_base.specs.declared.commands.Response.TheVariants.{Got, Done, Miscompare}
use Rattle.ds_marks.specs.declared.header.Header.{Header}
use Rattle.ds_marks.specs.declared.header.Owner.{Owner}
use Rattle.ds_marks.specs.declared.slot.Slot.{Slot}
use Rattle.ds_marks.specs.declared.slot.SlotState.{SlotState}
use Rattle.ds_marks.specs.declared.slot.SlotState.TheVariants.{Free, Live, Breaking}
use Rattle.ds_tree.specs.declared.calls.HostCallOf.{HostCallOf}
use Rattle.ds_tree.specs.declared.calls.HostCallOf.TheVariants as calls
use Rattle.ds_tree.specs.declared.calls.CallOf.TheVariants.{OpenFile}
use Rattle.ds_tree.specs.declared.calls.TreeReply.{TreeReply}
use Rattle.ds_tree.specs.declared.calls.TreeReply.TheVariants.{Opened, Gone}
use Rattle.ds_conduct.specs.declared.answers.HostAnswer.{HostAnswer}
use Rattle.ds_conduct.specs.declared.answers.HostAnswer.TheVariants.{Tree, Plain, LeaseLost}
use Rattle.ds_marks.specs.SlotIn.{slot_in}
use Rattle.ds_base.specs.Exchanges.{Exchange}
use Rattle.ds_marks.specs.HeaderIn.{header_in}
use Rattle.ds_watch.specs.Notes.{Note}
use Rattle.ds_conduct.specs.Marks.{has_idle, has_committed, slot_number}

-- a generation held: its slot, the image that the last Swap of the slot wrote and when, and the commits since the enter
pub record Own : Type 0 where
  pub slot : ℕ
  pub generation : ℕ
  pub image : Sector
  pub last : ℕ
  pub commits : ℕ

abbrev pub own_pair : Option Own → Option (ℕ × ℕ)
own_pair None = None
own_pair (Some own) = Some (own.slot, own.generation)

-- a header that was taken and not given back: its sector, the image that the Swap which took it wrote, and whether the call
-- under way took it
pub record Owed : Type 0 where
  pub at : ℕ
  pub image : Sector
  pub is_new : Bool

pub record Digest : Type 0 where
  pub own : Option Own
  pub owed : List Owed
  -- the files that are held open
  pub files : List Key
  -- images of slots that weren't held, the newest first
  pub notes : List Note
  -- the call under way, or the last one
  pub call : Option (HostCallOf Key)
  -- its commands so far, the newest first
  pub exchanges : List Exchange
  pub answer : Option HostAnswer

abbrev pub fresh_digest : Digest
fresh_digest = record { own = None; owed = []; files = []; notes = []; call = None; exchanges = []; answer = None }

abbrev pub is_some : {X : Type 0} → Option X → Bool
is_some None = false
is_some (Some x) = true

-- the list, unless the generation was dropped
abbrev pub kept_under : {X : Type 0} → Option Own → List X → List X
kept_under None list = []
kept_under (Some own) list = list

-- the generation after a Swap of its slot was done: a Live image stays held
abbrev pub renewed_in : Own → ℕ → Sector → ℕ → SlotState → Option Own
renewed_in own now fresh commits Live = Some
    (record { slot = own.slot; generation = own.generation; image = fresh; last = now; commits = commits })
renewed_in own now fresh commits Free = None
renewed_in own now fresh commits (Breaking by by_gen) = None

abbrev pub renewed : Own → ℕ → Sector → ℕ → Option Slot → Option Own
renewed own now fresh commits None = None
renewed own now fresh commits (Some s) = renewed_in own now fresh commits s.state

-- the generation after a Swap by a host without one was done: a Live image was entered
abbrev pub entered_in : ℕ → ℕ → Sector → ℕ → SlotState → Option Own
entered_in a now fresh gen Live = Some (record { slot = a; generation = gen; image = fresh; last = now; commits = 0 })
entered_in a now fresh gen Free = None
entered_in a now fresh gen (Breaking by by_gen) = None

abbrev pub entered : ℕ → ℕ → Sector → Option Slot → Option Own
entered a now fresh None = None
entered a now fresh (Some s) = entered_in a now fresh s.generation s.state

-- one commit more, where the Swap is one
abbrev pub commits_with : ℕ → ℕ → Sector → Sector → ℕ
commits_with a commits verify fresh = if has_idle (slot_in a verify.bytes) && has_committed
    (slot_in a fresh.bytes) then commits + 1 else commits

-- the generation after a Swap of slot a was done
abbrev pub own_swapped_at : Option Own → ℕ → ℕ → Sector → Sector → Option Own
own_swapped_at None a now verify fresh = entered a now fresh (slot_in a fresh.bytes)
own_swapped_at (Some own) a now verify fresh =
    if own.slot == a then renewed own now fresh (commits_with a own.commits verify fresh) (slot_in a fresh.bytes) else Some own

-- and of any sector
abbrev pub own_swapped : Option Own → Option ℕ → ℕ → Sector → Sector → Option Own
own_swapped own None now verify fresh = own
own_swapped own (Some a) now verify fresh = own_swapped_at own a now verify fresh

-- the generation after a Swap of slot a missed: one of the own slot drops it
abbrev pub own_missed_at : Option Own → ℕ → Option Own
own_missed_at None a = None
own_missed_at (Some own) a = if own.slot == a then None else Some own

abbrev pub own_missed : Option Own → Option ℕ → Option Own
own_missed own None = own
own_missed own (Some a) = own_missed_at own a

-- the generation after a command: a Fault drops it, and so does a Swap that misses in a tail
abbrev pub own_after : Geom → Option Own → Bool → ℕ → Command → Response → Option Own
own_after g own in_tail now (Read at) (Got s) = own
own_after g own in_tail now (Write at fresh) Done = own
own_after g own in_tail now (Swap at verify fresh) Done = own_swapped own (slot_number g at) now verify fresh
own_after g own in_tail now (Swap at verify fresh) (Miscompare offset) = if in_tail then None else own_missed own (slot_number g at)
own_after g own in_tail now command response = None

-- the headers that are owed, without that of a sector
abbrev pub owed_without : ℕ → List Owed → List Owed
owed_without at owed = filter (λ (o : Owed). not (o.at == at)) owed

-- the headers that are owed after a Swap of a header: taken to an owner, or given back
abbrev pub owed_by : List Owed → ℕ → Sector → Option Owner → List Owed
owed_by owed at fresh (Some owner) = record { at = at; image = fresh; is_new = true } ∷ owed_without at owed
owed_by owed at fresh None = owed_without at owed

abbrev pub owed_in : List Owed → ℕ → Sector → Option Header → List Owed
owed_in owed at fresh None = owed
owed_in owed at fresh (Some h) = owed_by owed at fresh h.owner

abbrev pub owed_swapped : List Owed → Option ℕ → ℕ → Sector → List Owed
owed_swapped owed None at fresh = owed_in owed at fresh (header_in fresh.bytes)
owed_swapped owed (Some a) at fresh = owed

abbrev pub owed_after : Geom → List Owed → Command → Response → List Owed
owed_after g owed (Swap at verify fresh) Done = owed_swapped owed (slot_number g at) at fresh
owed_after g owed command response = owed

-- an image that was read is noted, unless it is the own slot's
abbrev pub noted_at : Option Own → ℕ → ℕ → Sector → List Note → List Note
noted_at None a now s notes = record { slot = a; image = s; tick = now } ∷ notes
noted_at (Some own) a now s notes = if own.slot == a then notes else record { slot = a; image = s; tick = now } ∷ notes

abbrev pub noted_of : Option Own → Option ℕ → ℕ → Sector → List Note → List Note
noted_of own None now s notes = notes
noted_of own (Some a) now s notes = noted_at own a now s notes

abbrev pub notes_after : Geom → Option Own → ℕ → Command → Response → List Note → List Note
notes_after g own now (Read at) (Got s) notes = noted_of own (slot_number g at) now s notes
notes_after g own now command response notes = notes

-- the digest after a command and its response
abbrev pub noted : Geom → Digest → ℕ → Command → Response → Digest
noted g d now command response = record {
  own = own_after g d.own (is_some d.answer) now command response;
  owed = kept_under (own_after g d.own (is_some d.answer) now command response) (owed_after g d.owed command response);
  files = kept_under (own_after g d.own (is_some d.answer) now command response) d.files;
  notes = notes_after g d.own now command response d.notes;
  call = d.call;
  exchanges = record { command = command; response = response; tick = now } ∷ d.exchanges;
  answer = d.answer;
}

-- a host that drops its generation
abbrev pub dropped : Digest → Digest
dropped d = record { own = None; owed = []; files = []; notes = d.notes; call = d.call; exchanges = d.exchanges; answer = d.answer }

-- no header was taken in a call that begins
abbrev pub olds : List Owed → List Owed
olds [] = []
olds (o ∷ os) = record { at = o.at; image = o.image; is_new = false } ∷ olds os

-- a call begins
abbrev pub begun : Digest → HostCallOf Key → Digest
begun d call = record { own = d.own; owed = olds d.owed; files = d.files; notes = d.notes; call = Some call; exchanges = []; answer = None }

abbrev pub without_file : Key → List Key → List Key
without_file key files = filter (λ (k : Key). not ((k.object == key.object) && (k.birth == key.birth))) files

abbrev pub files_by_reply : List Key → HostCallOf Key → TreeReply → List Key
files_by_reply files (calls.Tree (OpenFile file)) (Opened blocks) = file ∷ files
files_by_reply files call (Gone key) = without_file key files
files_by_reply files call reply = files

-- the files that are open after an answer
abbrev pub files_after : List Key → Option (HostCallOf Key) → HostAnswer → List Key
files_after files None answer = files
files_after files (Some call) (Tree reply) = files_by_reply files call reply
files_after files (Some (calls.Close file)) Plain = without_file file files
files_after files (Some call) answer = files

abbrev pub is_lease_lost : HostAnswer → Bool
is_lease_lost (LeaseLost now last) = true
is_lease_lost answer = false

abbrev pub told_by : HostAnswer → Digest → Digest
told_by answer d = record {
  own = d.own;
  owed = d.owed;
  files = files_after d.files d.call answer;
  notes = d.notes;
  call = d.call;
  exchanges = d.exchanges;
  answer = Some answer;
}

-- a call is answered: a lease that is lost drops the generation
abbrev pub told : Option HostAnswer → Digest → Digest
told None d = d
told (Some answer) d = if is_lease_lost answer then dropped (told_by answer d) else told_by answer d

-- an event of a call without a command: in a tail it drops the generation
abbrev pub stood_still : Digest → Digest
stood_still d = if is_some d.answer then dropped d else d

-- the host dies, or doesn't
abbrev pub lost : Bool → Digest → Digest
lost false d = d
lost true d = fresh_digest
