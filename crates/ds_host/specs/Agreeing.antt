-- What a host has sent and heard, by what it keeps.
use Rattle.std.specs.Prelude.{AllPairs, ◌≡◌, ◌≢◌, ℕ, ◌+◌, ◌*◌, ◌<◌, ◌≤◌, ◌||◌, true, not, List, [], ◌∷◌, ◌++◌, length, drop, Option, None, Some, option_map}
use Rattle.std.specs.List.{Contains}
use Rattle.ds_base.specs.Exchanges.{Exchange}
use Rattle.ds_base.specs.declared.commands.Command.{Command}
use Rattle.ds_base.specs.declared.commands.Response.{Response}
use Rattle.ds_base.specs.declared.geometry.Geom.{Geom}
use Rattle.ds_base.specs.declared.names.Key.{Key}
use Rattle.ds_conduct.specs.Answers.{TellsBeat}
use Rattle.ds_conduct.specs.Causes.{header_sector}
use Rattle.ds_conduct.specs.Conducts as conducts
use Rattle.ds_conduct.specs.Digests.{Digest, Owed, Own, is_some}
use Rattle.ds_conduct.specs.Headers.{owner_of}
use Rattle.ds_conduct.specs.Journals.{Sees}
use Rattle.ds_conduct.specs.Resting.{opened_file}
use Rattle.ds_conduct.specs.Settings.{Setting}
use Rattle.ds_conduct.specs.declared.answers.HostAnswer.{HostAnswer}
use Rattle.ds_image.specs.Asking.{Reached}
use Rattle.ds_image.specs.Planning.{Answers, Asks}
use Rattle.ds_image.specs.SeenValues.{IsSeen, SeenValue}
use Rattle.ds_image.specs.declared.asks.Ask.TheVariants as asks
use Rattle.ds_image_parts.specs.Parts.{Parts}
use Rattle.ds_lock.specs.Stages as locking
use Rattle.ds_marks.specs.Header.{header_bytes}
use Rattle.ds_marks.specs.Slot.{slot_bytes}
use Rattle.ds_reg.specs.Stages as registering
use Rattle.ds_reg.specs.declared.calls.RegCall.TheVariants as regs
use Rattle.ds_reg.specs.declared.steps.Stage.TheVariants as reg_stages
use Rattle.ds_tree.specs.CallNames.{HasNames}
use Rattle.ds_tree.specs.declared.calls.CallOf.{CallOf}
use Rattle.ds_tree.specs.declared.calls.HostCallOf.TheVariants as calls
use Rattle.ds_watch.specs.Remembering.{Remembers}
use Rattle.ds_host.specs.Hosts.{HostValue}
use Rattle.ds_host.specs.Reading.{IsReading}
use Rattle.ds_host.specs.declared.stages.Held.{Held}
use Rattle.ds_host.specs.declared.stages.Stage.{Stage}
use Rattle.ds_host.specs.declared.stages.Stage.TheVariants as stages
use Rattle.ds_host.specs.declared.stages.Taken.{Taken}

-- the generation that is held, as long as nothing was committed under it
abbrev pub own_of : Held → Own
own_of held = record {
  slot = held.slot;
  generation = held.image.generation;
  image = record { bytes = slot_bytes held.slot held.image };
  last = held.last;
  commits = 0;
}

-- a lock that was taken, as a header that is owed
abbrev pub owed_of : Setting → Held → Taken → Owed
owed_of setting held t = record {
  at = header_sector setting.geom t.object;
  image = record {
    bytes = header_bytes (record {
      object = t.object;
      generation = t.generation;
      owner = Some (owner_of setting
          (own_of held));
    });
  };
  is_new = true;
}

-- locks in the order in which they were taken, as headers, the newest first
abbrev pub owed_list : Setting → Held → List Taken → List Owed
owed_list setting held [] = []
owed_list setting held (t ∷ ts) = owed_list setting held ts ++ owed_of setting held t ∷ []

-- no lock was taken twice
abbrev pub AreApart : List Taken → Type 0
AreApart taken = AllPairs (λ (t u : Taken). t.object ≢ u.object) taken

-- locks that are owed under the generation that is held
abbrev pub Owes : Setting → Option Held → List Taken → List Owed → Type 0
Owes setting None taken owed = owed ≡ []
Owes setting (Some held) taken owed = (owed ≡ owed_list setting held taken) × AreApart taken

module _ {X : Type 0} (geom_of : X → Geom) (answers : X → Answers) (plans : Geom → ℕ → CallOf Key → Answers) where
  -- what the host acts by
  abbrev pub setting_of : HostValue X → Setting
  setting_of h = record { geom = h.geom; host = h.host; plans = plans h.geom }

  -- a call is under way
  pub record IsUnderWay (d : Digest) : Type 0 where
    pub begun : is_some d.call ≡ true
    pub unanswered : d.answer ≡ None
    pub few : length d.exchanges ≤ 2048

  pub record IsEntering (h : HostValue X) (d : Digest) (run : registering.RegValue) : Type 0 where
    pub call : d.call ≡ Some calls.Register
    pub unanswered : d.answer ≡ None
    pub none : h.own ≡ None
    pub same_geom : run.geom ≡ h.geom
    pub same_host : run.host ≡ h.host
    pub enters : run.call ≡ regs.Enter
    pub agrees : registering.Agrees run d.exchanges
    pub few : length d.exchanges + registering.left_of run ≤ 64

  -- a renewal is due, at which an answer is right
  pub record IsRenewing (h : HostValue X) (d : Digest) (run : registering.RegValue) (answer : HostAnswer) : Type 0 where
    pub under_way : IsUnderWay d
    pub held : Held
    pub holds : h.own ≡ Some held
    pub same_geom : run.geom ≡ h.geom
    pub beats : run.call ≡ regs.Beat held.slot held.image
    pub due : run.stage ≡ reg_stages.Own
    pub right : TellsBeat (setting_of h) d 0 (own_of held) (Some answer)
    pub opens_nothing : opened_file d.call (Some answer) ≡ None
    pub owed : Owes (setting_of h) h.own h.taken d.owed

  pub record IsLeaving (h : HostValue X) (d : Digest) (run : registering.RegValue) : Type 0 where
    pub call : d.call ≡ Some calls.Unregister
    pub under_way : IsUnderWay d
    pub held : Held
    pub holds : h.own ≡ Some held
    pub same_geom : run.geom ≡ h.geom
    pub leaves : run.call ≡ regs.Leave held.slot held.image
    pub due : run.stage ≡ reg_stages.Own
    pub owed : Owes (setting_of h) h.own h.taken d.owed

  -- a call on the tree is under way, and its planner was shown what these exchanges gave
  pub record IsPlanning (h : HostValue X) (d : Digest) (xs : List Exchange) : Type 0 where
    pub call : CallOf Key
    pub is_call : d.call ≡ Some (calls.Tree call)
    pub unanswered : d.answer ≡ None
    pub names : HasNames call
    pub reading : IsReading call
    pub held : Held
    pub holds : h.own ≡ Some held
    pub room : held.image.stamp < 4611686018427387904
    pub plan : X
    pub planned : h.plan ≡ Some plan
    pub same_geom : geom_of plan ≡ h.geom
    pub same : (seen : SeenValue) (p : Parts) → answers plan seen p ≡ plans h.geom held.slot call seen p
    pub sees : Sees h.geom (own_of held) (plans h.geom held.slot call) [] xs h.seen
    pub is_seen : IsSeen h.seen
    pub reached : Reached (Asks h.geom (plans h.geom held.slot call)) h.seen
    pub few : length xs ≤ 8 * length h.seen.locks + length h.seen.sectors
    pub locked : (t : Taken) → Contains h.taken t → Contains h.seen.locks t.object
    pub owed : Owes (setting_of h) h.own h.taken d.owed

  pub record IsLocking (h : HostValue X) (d : Digest) (run : locking.LockValue) : Type 0 where
    pub sent : List Exchange
    pub before : List Exchange
    pub parts : d.exchanges ≡ sent ++ before
    pub planning : IsPlanning h d before
    pub asks : Asks h.geom (plans h.geom planning.held.slot planning.call) h.seen (asks.Lock run.wanted.object)
    pub same_geom : run.wanted.geom ≡ h.geom
    pub same_owner : run.wanted.own ≡ owner_of (setting_of h) (own_of planning.held)
    pub agrees : locking.Agrees run sent
    pub going : locking.IsGoing run.stage
    pub few : length sent + locking.left_of run ≤ 8

  pub record IsReadingSector (h : HostValue X) (d : Digest) (at : ℕ) : Type 0 where
    pub planning : IsPlanning h d d.exchanges
    pub asks : Asks h.geom (plans h.geom planning.held.slot planning.call) h.seen (asks.Read at)

  -- locks are given back in the tail of a call, this one next
  pub record IsGiving (h : HostValue X) (d : Digest) (i : ℕ) : Type 0 where
    pub answer : HostAnswer
    pub answered : d.answer ≡ Some answer
    pub opens_nothing : opened_file d.call d.answer ≡ None
    pub held : Held
    pub holds : h.own ≡ Some held
    pub owed : Owes (setting_of h) h.own (drop i h.taken) d.owed
    pub few : length d.exchanges + length (drop i h.taken) ≤ 4096

  -- nothing is under way
  pub record IsAtRest (h : HostValue X) (d : Digest) : Type 0 where
    pub ended : (not (is_some d.call) || is_some d.answer) ≡ true
    pub none : d.owed ≡ []

  abbrev pub StageAgrees : HostValue X → Digest → Stage → Type 0
  StageAgrees h d stages.Rest = IsAtRest h d
  StageAgrees h d (stages.Entering run) = IsEntering h d run
  StageAgrees h d (stages.Renewing run answer) = IsRenewing h d run answer
  StageAgrees h d (stages.Leaving run) = IsLeaving h d run
  StageAgrees h d (stages.Locking run) = IsLocking h d run
  StageAgrees h d (stages.Reading at) = IsReadingSector h d at
  StageAgrees h d (stages.Giving i) = IsGiving h d i

  -- what the host keeps beside its stage
  pub record Knows (h : HostValue X) (d : Digest) : Type 0 where
    pub own : d.own ≡ option_map own_of h.own
    pub files : d.files ≡ []
    pub notes : Remembers h.watch d.notes

  pub record Agrees (h : HostValue X) (d : Digest) : Type 0 where
    pub knows : Knows h d
    pub stage : StageAgrees h d h.stage

  -- a response was answered rightly, and the host agrees with what it has sent and heard then
  pub record Goes (old : HostValue X) (d : Digest) (now : ℕ) (command : Command) (response : Response) (answer : Option HostAnswer)
      (new : HostValue X) : Type 0 where
    pub right : conducts.Answers (setting_of old) d now command response answer
    pub agrees : Agrees new (conducts.after (setting_of old) d now command response answer)
