-- The law of a run that takes a lock, as the conduct of the host whose call it serves.
use Rattle.std.proofs.Common.{◌≡◌, ◌≢◌, ℕ, Bool, true, false, List, ◌∷◌, ◌++◌}
use Rattle.std.proofs.Common.{Option, Some, None, refl, sym, ap, subst, ◌∙◌, append_assoc}
use Rattle.ds_base.specs.Device.{Fits}
use Rattle.ds_base.specs.Exchanges.{Exchange}
use Rattle.ds_base.specs.declared.commands.Command.{Command}
use Rattle.ds_base.specs.declared.commands.Next.TheVariants as nexts
use Rattle.ds_base.specs.declared.commands.Response.{Response}
use Rattle.ds_base.specs.declared.commands.Response.TheVariants.{Fault}
use Rattle.ds_base.specs.declared.sectors.Sector.{Sector}
use Rattle.ds_conduct.specs.Answers.{TellsRead}
use Rattle.ds_conduct.specs.Causes as causes
use Rattle.ds_conduct.specs.Conducts.{Answers}
use Rattle.ds_conduct.specs.Digests as digests
use Rattle.ds_conduct.specs.Digests.{Digest, Own, noted}
use Rattle.ds_conduct.specs.Guards.{MaySend}
use Rattle.ds_conduct.specs.Settings.{Setting}
use Rattle.ds_conduct.specs.declared.answers.HostAnswer.{HostAnswer}
use Rattle.ds_conduct.specs.declared.answers.HostAnswer.TheVariants.{Busy, DeviceFault}
use Rattle.ds_conduct.specs.declared.answers.Spot.TheVariants as spots
use Rattle.ds_lock.specs.Locking.{Cause, HasNoMiss, IsAfterMiss, IsRaced, read_of, slot_image, slot_sector}
use Rattle.ds_lock.specs.Stages.{HasEnded, HasSeen, IsPass, IsWanted, Leads, LockValue, due, due_at, notes_after, noted_at}
use Rattle.ds_lock.specs.declared.ends.LockEnd.{LockEnd}
use Rattle.ds_lock.specs.declared.ends.LockEnd.TheVariants as ends
use Rattle.ds_lock.specs.declared.how.How.{How}
use Rattle.ds_lock.specs.declared.how.How.TheVariants.{Held, Recovering, Raced}
use Rattle.ds_lock.specs.declared.steps.Wanted.{Wanted}
use Rattle.ds_marks.specs.declared.slot.Slot.{Slot}
use Rattle.ds_watch.specs.Notes.{Note}
use Rattle.ds_host_laws.proofs.LockCauses.{held-cause, raced-cause, recovering-cause, wanted_by}
use Rattle.ds_host_laws.proofs.LockPasses.{has-missed, head-same, pass-front, tail-same}
use Rattle.ds_host_laws.proofs.LockSteps.{Step, fault-step, may-step, missed-step, none-step, notes-step, read-step, step}
use Rattle.ds_host_laws.specs.Locks.{HasBegun, IsTaking}

-- a pass that ends so
abbrev pub EndsBy : Wanted → Bool → List Note → ℕ → List Exchange → LockEnd → Type 0
EndsBy w missed notes now xs end = (pass : List Exchange) × IsPass w missed xs pass × Cause w notes now pass end

module _ (setting : Setting) (d : Digest) (own : Own) (run : LockValue) (xs ys : List Exchange)
    (taking : IsTaking setting d own run xs ys) where
  abbrev pub w : Wanted
  w = wanted_by setting own run.wanted.object

  pub wanted-is : run.wanted ≡ w
  wanted-is = ap (λ g. record { geom = g; own = run.wanted.own; object = run.wanted.object }) taking.geom
      ∙ ap (λ o. record { geom = setting.geom; own = o; object = run.wanted.object }) taking.owner

  pub is-wanted : IsWanted w
  is-wanted = subst IsWanted wanted-is taking.is_wanted

  abbrev pub pass : List Exchange
  pass = taking.agrees.pass

  pub has-seen : HasSeen w run.stage pass
  has-seen = subst (λ v. HasSeen v run.stage pass) wanted-is taking.agrees.seen

  pub is-pass : IsPass w run.missed xs pass
  is-pass = subst (λ v. IsPass v run.missed xs pass) wanted-is taking.agrees.is_pass

  -- what was sent and heard before a pass
  pub all-parts : (missed : Bool) (all front : List Exchange) → IsPass w missed all front
      → (rest : List Exchange) × (all ++ ys ≡ front ++ rest)
  all-parts missed all front is =
      let older = pass-front w missed all front is in
      (older.0 ++ ys, ap (λ (l : List Exchange). l ++ ys) older.1 ∙ append_assoc front older.0 ys)

  pub rest : (rest : List Exchange) × (d.exchanges ≡ pass ++ rest)
  rest = let all = all-parts run.missed xs pass is-pass in (all.0, taking.parts ∙ all.1)

  module _ (now : ℕ) (command : Command) (due : due run ≡ nexts.Send command) where
    pub due-at : due_at w run.stage ≡ nexts.Send command
    due-at = subst (λ v. due_at v run.stage ≡ nexts.Send command) wanted-is due

    abbrev pub IsStep : Type 0
    IsStep = Step setting own run.wanted.object is-wanted d now taking.host_size taking.holds taking.unanswered pass rest.0 rest.1 command

    pub is-step : IsStep
    is-step = step setting own run.wanted.object is-wanted d now taking.host_size taking.holds taking.unanswered pass rest.0 rest.1
        run.stage command due-at has-seen

    -- the run sends what the host may send
    pub may : MaySend setting d now command
    may = may-step setting own run.wanted.object is-wanted d now taking.host_size taking.holds taking.unanswered pass rest.0 rest.1
        command is-step

    -- the host needn't answer yet
    pub answers-none : (response : Response) → Fits command response → response ≢ Fault → Answers setting d now command response None
    answers-none response = none-step setting own run.wanted.object is-wanted d now taking.host_size taking.holds taking.unanswered pass
        rest.0 rest.1 command response is-step

    -- it tells a fault
    pub answers-fault : Answers setting d now command Fault (Some DeviceFault)
    answers-fault = fault-step setting own run.wanted.object is-wanted d now taking.host_size taking.holds taking.unanswered pass
        rest.0 rest.1 command is-step

    module _ (response : Response) where
      abbrev pub x : Exchange
      x = record { command = command; response = response; tick = now }

      -- the host notes what the run does
      pub notes-same : (noted setting.geom d now command response).notes ≡ notes_after run response now d.notes
      notes-same =
          ap (λ o. notes_of o) taking.holds
          ∙ (notes-step setting own run.wanted.object is-wanted now d.notes pass run.stage command response due-at has-seen
          ∙ ap (λ v. noted_at v run.stage response now d.notes) (sym wanted-is))
        where
          notes_of : Option Own → List Note
          notes_of o = digests.notes_after setting.geom o now command response d.notes

      -- what ended the run
      pub ended-by : (run' : LockValue) (end : LockEnd) (notes : List Note) → run'.wanted ≡ run.wanted
          → HasEnded run' notes now (x ∷ xs) end
          → EndsBy w run'.missed notes now (x ∷ xs) end
      ended-by run' end notes same ended = subst (λ v. EndsBy v run'.missed notes now (x ∷ xs) end) (same ∙ wanted-is)
          (ended.pass, ended.is_pass, ended.cause)

      pub exchanges-are : (missed : Bool) (after : List Exchange) → IsPass w missed (x ∷ xs) after
          → (rest : List Exchange) × (x ∷ d.exchanges ≡ after ++ rest)
      exchanges-are missed after is =
          let all = all-parts missed (x ∷ xs) after is in
          (all.0, ap (λ (l : List Exchange). x ∷ l) taking.parts ∙ all.1)

      read-told : (at : ℕ) (sector : Sector) (answer : HostAnswer) → x ≡ read_of at sector now
          → TellsRead setting d now (Some own) (noted setting.geom d now command response).notes (x ∷ d.exchanges) (Some answer)
          → Answers setting d now command response (Some answer)
      read-told at sector answer is = read-step setting own run.wanted.object is-wanted d now taking.host_size taking.holds
          taking.unanswered pass rest.0 rest.1 command response at sector (Some answer) is-step (ap (λ (y : Exchange). y.command) is)
          (ap (λ (y : Exchange). y.response) is)

      held : (run' : LockValue) (slot : ℕ) (s : Slot) → run'.wanted ≡ run.wanted
          → HasEnded run' (notes_after run response now d.notes) now (x ∷ xs) (ends.Busy (Held slot s))
          → Answers setting d now command response (Some (Busy (spots.Object run.wanted.object) (Held slot s)))
      held run' slot s same ended =
          let notes : List Note = notes_after run response now d.notes in
          let by_pass = ended-by run' (ends.Busy (Held slot s)) notes same ended in
          let all = exchanges-are run'.missed by_pass.0 by_pass.1 in
          let newest = by_pass.2.read in
          let is : x ≡ read_of (slot_sector setting.geom slot) (slot_image slot s) now =
          head-same d.exchanges (newest.earlier ++ all.0) x (read_of (slot_sector setting.geom slot) (slot_image slot s) now)
          (all.1 ∙ ap (λ (l : List Exchange). l ++ all.0) newest.newest) in
          let told = held-cause setting own run.wanted.object is-wanted notes now by_pass.0 all.0 slot s by_pass.2 in
          read-told (slot_sector setting.geom slot) (slot_image slot s) (Busy (spots.Object run.wanted.object) (Held slot s)) is
          (subst (λ n. causes.IsHeld setting.geom own n now (x ∷ d.exchanges) run.wanted.object slot s) (sym notes-same)
          (subst (λ l. causes.IsHeld setting.geom own notes now l run.wanted.object slot s) (sym all.1) told))

      recovering : (run' : LockValue) (slot : ℕ) (s breaker : Slot) → run'.wanted ≡ run.wanted
          → HasEnded run' (notes_after run response now d.notes) now (x ∷ xs) (ends.Busy (Recovering slot s breaker))
          → Answers setting d now command response (Some (Busy (spots.Object run.wanted.object) (Recovering slot s breaker)))
      recovering run' slot s breaker same ended =
          let notes : List Note = notes_after run response now d.notes in
          let by_pass = ended-by run' (ends.Busy (Recovering slot s breaker)) notes same ended in
          let all = exchanges-are run'.missed by_pass.0 by_pass.1 in
          let number : ℕ = by_pass.2.by in
          let newest = by_pass.2.read.read in
          let is : x ≡ read_of (slot_sector setting.geom number) (slot_image number breaker) now =
          head-same d.exchanges (newest.earlier ++ all.0) x (read_of (slot_sector setting.geom number) (slot_image number breaker) now)
          (all.1 ∙ ap (λ (l : List Exchange). l ++ all.0) newest.newest) in
          let told = recovering-cause setting own run.wanted.object is-wanted notes now by_pass.0 all.0 slot s breaker by_pass.2 in
          read-told (slot_sector setting.geom number) (slot_image number breaker)
          (Busy (spots.Object run.wanted.object) (Recovering slot s breaker)) is
          (subst (λ l. causes.IsRecovering setting.geom own l run.wanted.object slot s breaker) (sym all.1) told)

      has-begun : (raced : IsRaced w (x ∷ xs)) → HasBegun w raced.rest
      has-begun raced =
          subst (HasBegun w) (tail-same xs raced.rest x raced.second raced.newest)
          (by_missed run.missed refl is-pass (subst (λ l. IsAfterMiss w l raced.pass) (sym (tail-same xs raced.rest x raced.second
          raced.newest)) raced.since))
        where
          by_missed : (missed : Bool) → run.missed ≡ missed → IsPass w missed xs pass → IsAfterMiss w xs raced.pass → HasBegun w xs
          by_missed false e is since = absurd (has-missed w xs raced.pass since (subst HasNoMiss (sym is.0) is.1))
          by_missed true e is since = subst (λ v. HasBegun v xs) wanted-is (taking.begun e)

      raced : (run' : LockValue) → run'.wanted ≡ run.wanted → IsRaced run'.wanted (x ∷ xs)
          → Answers setting d now command response (Some (Busy (spots.Object run.wanted.object) Raced))
      raced run' same is =
          let raced = subst (λ v. IsRaced v (x ∷ xs)) (same ∙ wanted-is) is in
          let misses = raced.misses in
          let missed = head-same xs raced.rest x raced.second raced.newest ∙ misses.is in
          missed-step setting own run.wanted.object is-wanted d now taking.host_size taking.holds taking.unanswered pass rest.0 rest.1
          command response misses.at misses.offset misses.verify misses.fresh is-step (ap (λ (y : Exchange). y.command) missed)
          (ap (λ (y : Exchange). y.response) missed)
          (subst (λ l. causes.IsLockRaced setting.geom (x ∷ l) run.wanted.object) (sym taking.parts)
          (raced-cause setting own run.wanted.object is-wanted (x ∷ xs) ys raced (has-begun raced)))

      -- it tells that the lock is held, or was raced for
      pub answers-busy : (run' : LockValue) (how : How) → run'.wanted ≡ run.wanted
          → Leads run' (Some (ends.Busy how)) (notes_after run response now d.notes) now (x ∷ xs)
          → Answers setting d now command response (Some (Busy (spots.Object run.wanted.object) how))
      answers-busy run' (Held slot s) same leads = held run' slot s same leads.0
      answers-busy run' (Recovering slot s breaker) same leads = recovering run' slot s breaker same leads.0
      answers-busy run' Raced same leads = raced run' same leads.0

      faulted : (run' : LockValue) → run'.wanted ≡ run.wanted
          → HasEnded run' (notes_after run response now d.notes) now (x ∷ xs) ends.Faulted → response ≡ Fault
      faulted run' same ended =
          let by_pass = ended-by run' ends.Faulted (notes_after run response now d.notes) same ended in
          let all = exchanges-are run'.missed by_pass.0 by_pass.1 in
          let newest = head-same d.exchanges (by_pass.2.earlier ++ all.0) x by_pass.2.newest
          (all.1 ∙ ap (λ (l : List Exchange). l ++ all.0) by_pass.2.parts) in
          ap (λ (y : Exchange). y.response) newest ∙ by_pass.2.failed

      -- it tells a fault where the run ends by one
      pub answers-faulted : (run' : LockValue) → run'.wanted ≡ run.wanted
          → Leads run' (Some ends.Faulted) (notes_after run response now d.notes) now (x ∷ xs)
          → Answers setting d now command response (Some DeviceFault)
      answers-faulted run' same leads =
          subst (λ r. Answers setting d now command r (Some DeviceFault)) (sym (faulted run' same leads.0)) answers-fault
