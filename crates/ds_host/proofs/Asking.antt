-- What follows of what a planner asks for.
use Rattle.std.proofs.Common.{◌≡◌, ℕ, ◌+◌, ◌≤◌, [], length, Option, Some, None, refl, sym, ap, ◌∙◌, arith, inl, subst}
use Rattle.std.specs.Prelude.{IsSome, if◌then◌else◌, Bool, true, false}
use Rattle.ds_base.specs.Geometry.{IsGeom}
use Rattle.ds_base.specs.declared.geometry.Geom.{Geom}
use Rattle.ds_base.specs.declared.names.Key.{Key}
use Rattle.ds_base.specs.declared.sectors.Sector.{Sector}
use Rattle.ds_conduct.specs.Answers.{OfTree, UnderLocks, TellsBeat}
use Rattle.ds_conduct.specs.Causes.{BadSight, WornObject}
use Rattle.ds_conduct.specs.Digests.{Digest, is_some}
use Rattle.ds_conduct.specs.Resting.{opened_file}
use Rattle.ds_conduct.specs.declared.answers.HostAnswer.{HostAnswer}
use Rattle.ds_conduct.specs.declared.answers.HostAnswer.TheVariants.{Damaged, Tree, WornOut}
use Rattle.ds_image.proofs.Seeing.{seen_read}
use Rattle.ds_image.specs.Asking.{IsFew, Keeps}
use Rattle.ds_image.specs.Planning.{AllAreFew, AllKeep, Answers, Asks}
use Rattle.ds_image.specs.SeenValues.{look_of}
use Rattle.ds_image.specs.declared.asks.Ask.{Ask}
use Rattle.ds_image.specs.declared.asks.Ask.TheVariants as asks
use Rattle.ds_image_parts.specs.Parts.{Parts}
use Rattle.ds_image_parts.specs.Readings.{ReadsParts}
use Rattle.ds_jrnl.specs.declared.redo.Redo.{Redo}
use Rattle.ds_tree.specs.CallNames.{HasNames}
use Rattle.ds_tree.specs.declared.calls.CallOf.{CallOf}
use Rattle.ds_tree.specs.declared.calls.CallOf.TheVariants as tree_calls
use Rattle.ds_tree.specs.declared.calls.HostCallOf.TheVariants as calls
use Rattle.ds_tree.specs.declared.calls.TreeReply.{TreeReply}
use Rattle.ds_host.specs.Agreeing.{IsLocking, IsPlanning, IsReadingSector, IsRenewing, IsUnderWay, own_of, setting_of}
use Rattle.ds_host.specs.declared.stages.Stage.{Stage}
use Rattle.ds_host.specs.declared.stages.Stage.TheVariants as stages
use Rattle.ds_lock.specs.Stages as locking
use Rattle.ds_lock.specs.declared.steps.Stage as locks
use Rattle.ds_lock.specs.declared.steps.Stage.TheVariants as locks_stages
use Rattle.ds_lock.specs.declared.steps.Wanted.{Wanted}
use Rattle.ds_reg.specs.Stages as registering
use Rattle.ds_reg.specs.declared.calls.RegCall.TheVariants as regs
use Rattle.ds_reg.specs.declared.steps.Stage.TheVariants as reg_stages
use Rattle.ds_conduct.specs.Headers.{owner_of}
use Rattle.ds_host.specs.Hosts.{HostValue, with_stage}
use Rattle.ds_host.specs.Reading.{IsReading, NeverChanges}

few-stage : (stage : locks.Stage) → locking.left_at stage ≤ 4
few-stage locks_stages.Header = omega arith
few-stage (locks_stages.Owner h o) = omega arith
few-stage (locks_stages.Breaker h slot s by generation) = omega arith
few-stage (locks_stages.Taking h) = omega arith
few-stage (locks_stages.Broken h slot s) = omega arith
few-stage locks_stages.Over = omega arith

pub some-same : {Y : Type 0} (x y : Y) → Some x ≡ Some y → x ≡ y
some-same x y e = cc

-- a call that only reads opens no file
pub opens-nothing : (call : CallOf Key) (answer : HostAnswer) → IsReading call → opened_file (Some (calls.Tree call)) (Some answer) ≡ None
opens-nothing (tree_calls.Lookup dir name) answer is = refl
opens-nothing (tree_calls.List dir after) answer is = refl
opens-nothing (tree_calls.Stat key) answer is = refl
opens-nothing (tree_calls.Map file page) answer is = refl
opens-nothing (tree_calls.Mkdir dir name) answer is = absurd is
opens-nothing (tree_calls.Create dir name) answer is = absurd is
opens-nothing (tree_calls.Resize file blocks) answer is = absurd is
opens-nothing (tree_calls.Remove dir name) answer is = absurd is
opens-nothing (tree_calls.Rmdir dir name) answer is = absurd is
opens-nothing (tree_calls.Rename dir name to fresh) answer is = absurd is
opens-nothing (tree_calls.OpenFile file) answer is = absurd is
opens-nothing (tree_calls.At file index) answer is = absurd is

module _ {X : Type 0} (geom_of : X → Geom) (answers : X → Answers) (plans : Geom → ℕ → CallOf Key → Answers)
    (all_keep : (g : Geom) (slot : ℕ) (call : CallOf Key) → IsGeom g → HasNames call → AllKeep g call (plans g slot call))
    (all_few : (g : Geom) (slot : ℕ) (call : CallOf Key) → IsGeom g → HasNames call → AllAreFew g (plans g slot call))
    (all_read : (g : Geom) (slot : ℕ) (call : CallOf Key) → IsReading call → NeverChanges (plans g slot call)) where
  module _ (h : HostValue X) (d : Digest) (planning : IsPlanning geom_of answers plans h d d.exchanges) (is_geom : IsGeom h.geom) where
    abbrev planner : Answers
    planner = plans h.geom planning.held.slot planning.call

    -- what the planner asks for, by the parts that were seen
    pub record IsAsked (ask : Ask) : Type 0 where
      pub asks : Asks h.geom planner h.seen ask
      pub keeps : Keeps h.geom planning.call h.seen asks.parts ask
      pub few : IsFew h.seen ask

    pub is-asked : (ask : Ask) (plan : X) → h.plan ≡ Some plan
        → ((p : Parts) → ReadsParts (geom_of plan) (look_of h.seen) p → ask ≡ answers plan h.seen p) → IsAsked ask
    is-asked ask plan there is =
        let read = seen_read h.geom h.seen is_geom planning.is_seen in
        let one : planning.plan ≡ plan = some-same planning.plan plan (sym planning.planned ∙ there) in
        let geom : h.geom ≡ geom_of plan = sym planning.same_geom ∙ ap geom_of one in
        let reads = subst (λ (k : Geom). ReadsParts k (look_of h.seen) read.0) geom read.1 in
        let same : ask ≡ planner h.seen read.0 =
        is read.0 reads ∙ (ap (λ (x : X). answers x h.seen read.0) (sym one) ∙ planning.same h.seen read.0) in
        let P : Ask → Type 0 = λ a. Keeps h.geom planning.call h.seen read.0 a in
        let F : Ask → Type 0 = λ a. IsFew h.seen a in
        record {
          asks = record { parts = read.0; reads = read.1; answered = same };
          keeps = subst P (sym same) (all_keep h.geom planning.held.slot planning.call is_geom planning.names h.seen read.0 read.1);
          few = subst F (sym same)
              (all_few h.geom planning.held.slot planning.call is_geom planning.names h.seen read.0 read.1 planning.reached);
        }

    -- no change is asked for
    pub no-change : (redo : Redo) (reply : TreeReply) → IsAsked (asks.Change redo reply) → ⊥
    no-change redo reply asked =
        all_read h.geom planning.held.slot planning.call planning.reading h.seen asked.asks.parts redo reply (sym asked.asks.answered)

    under-way : length h.seen.locks ≤ 24 → length h.seen.sectors ≤ 256 → IsUnderWay geom_of answers plans d
    under-way locks sectors = record {
      begun = ap is_some planning.is_call;
      unanswered = planning.unanswered;
      few = omega (arith, planning.few, locks, sectors);
    }

    -- the answer is right once the own slot was renewed
    pub record IsRight (answer : HostAnswer) : Type 0 where
      pub under_way : IsUnderWay geom_of answers plans d
      pub right : TellsBeat (setting_of geom_of answers plans h) d 0 (own_of planning.held) (Some answer)
      pub opens_nothing : opened_file d.call (Some answer) ≡ None

    nothing-opened : (answer : HostAnswer) → opened_file d.call (Some answer) ≡ None
    nothing-opened answer = ap (λ c. opened_file c (Some answer)) planning.is_call ∙ opens-nothing planning.call answer planning.reading

    pub done-right : (reply : TreeReply) → IsAsked (asks.Done reply) → IsRight (Tree reply)
    done-right reply asked = record {
      under_way = under-way asked.few.0 asked.few.1;
      right = UnderLocks planning.call planning.is_call (record {
        seen = h.seen;
        sees = planning.sees;
        parts = asked.asks.parts;
        reads = asked.asks.reads;
        planned = sym asked.asks.answered;
      });
      opens_nothing = nothing-opened (Tree reply);
    }

    shown-by : (o : Option Sector) → IsSome o → (s : Sector) × (o ≡ Some s)
    shown-by None is = absurd cc
    shown-by (Some s) is = (s, refl)

    pub odd-right : (at : ℕ) → IsAsked (asks.Odd at) → IsRight (Damaged at)
    odd-right at asked = record {
      under_way = under-way asked.few.0 asked.few.1;
      right = BadSight planning.call [] (OfTree planning.call planning.is_call) (record {
        seen = h.seen;
        sees = planning.sees;
        shown = shown-by (look_of h.seen at) asked.keeps.form;
        none = asked.keeps.right;
      });
      opens_nothing = nothing-opened (Damaged at);
    }

    pub worn-right : (object : ℕ) → IsAsked (asks.Worn object) → IsRight WornOut
    worn-right object asked = record {
      under_way = under-way asked.few.0 asked.few.1;
      right = inl (WornObject planning.call [] (OfTree planning.call planning.is_call) (record {
        seen = h.seen;
        sees = planning.sees;
        parts = asked.asks.parts;
        reads = asked.asks.reads;
        object = object;
        planned = sym asked.asks.answered;
      }));
      opens_nothing = nothing-opened WornOut;
    }

    -- the host at another stage of the call
    abbrev pub restaged : (stage : Stage) → IsPlanning geom_of answers plans (with_stage h stage) d d.exchanges
    restaged stage = record {
      call = planning.call;
      is_call = planning.is_call;
      unanswered = planning.unanswered;
      names = planning.names;
      reading = planning.reading;
      held = planning.held;
      holds = planning.holds;
      room = planning.room;
      plan = planning.plan;
      planned = planning.planned;
      same_geom = planning.same_geom;
      same = planning.same;
      sees = planning.sees;
      is_seen = planning.is_seen;
      reached = planning.reached;
      few = planning.few;
      locked = planning.locked;
      owed = planning.owed;
    }

    few-left : (missed : Bool) (stage : locks.Stage) → locking.left_at stage + (if missed then 0 else 4) ≤ 8
    few-left true stage = omega (arith, few-stage stage)
    few-left false stage = omega (arith, few-stage stage)

    pub lock-leads : (object : ℕ) (run : locking.LockValue) → IsAsked (asks.Lock object)
        → run.wanted ≡ record { geom = h.geom; own = owner_of (setting_of geom_of answers plans h) (own_of planning.held); object = object }
        → locking.Agrees run [] → locking.IsGoing run.stage → IsLocking geom_of answers plans (with_stage h (stages.Locking run)) d run
    lock-leads object run asked wanted agrees going = record {
      sent = [];
      before = d.exchanges;
      parts = refl;
      planning = restaged (stages.Locking run);
      asks = subst (λ (o : ℕ). Asks h.geom planner h.seen (asks.Lock o)) (sym (ap (λ (w : Wanted). w.object) wanted)) asked.asks;
      same_geom = ap (λ (w : Wanted). w.geom) wanted;
      same_owner = ap (λ (w : Wanted). w.own) wanted;
      agrees = agrees;
      going = going;
      few = omega (arith, few-left run.missed run.stage);
    }

    pub read-leads : (at : ℕ) → IsAsked (asks.Read at) → IsReadingSector geom_of answers plans (with_stage h (stages.Reading at)) d at
    read-leads at asked = record { planning = restaged (stages.Reading at); asks = asked.asks }

    -- the renewal for an answer is due
    pub record IsRun (run : registering.RegValue) : Type 0 where
      pub same_geom : run.geom ≡ h.geom
      pub beats : run.call ≡ regs.Beat planning.held.slot planning.held.image
      pub due : run.stage ≡ reg_stages.Own

    pub renew-leads : (answer : HostAnswer) (run : registering.RegValue) → IsRight answer → IsRun run
        → IsRenewing geom_of answers plans (with_stage h (stages.Renewing run answer)) d run answer
    renew-leads answer run right is = record {
      under_way = right.under_way;
      held = planning.held;
      holds = planning.holds;
      same_geom = is.same_geom;
      beats = is.beats;
      due = is.due;
      right = right.right;
      opens_nothing = right.opens_nothing;
      owed = planning.owed;
    }
