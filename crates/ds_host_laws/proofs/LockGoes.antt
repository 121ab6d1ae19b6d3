-- How the taking of a lock begins in a call, goes on, and is taken up after a break.
use Rattle.std.proofs.Common.{◌≡◌, ◌≢◌, ℕ, Bool, true, false, List, [], ◌∷◌, ◌++◌}
use Rattle.std.proofs.Common.{length, Some, None, refl, sym, ap, subst, ◌∙◌, append_assoc}
use Rattle.ds_base.specs.Device.{Fits}
use Rattle.ds_base.specs.Exchanges.{Exchange}
use Rattle.ds_base.specs.declared.commands.Command.{Command}
use Rattle.ds_base.specs.declared.commands.Command.TheVariants.{Read, Swap}
use Rattle.ds_base.specs.declared.commands.Next.TheVariants as nexts
use Rattle.ds_base.specs.declared.commands.Response.{Response}
use Rattle.ds_base.specs.declared.commands.Response.TheVariants.{Got, Done, Miscompare, Fault}
use Rattle.ds_base.specs.declared.sectors.Sector.{Sector}
use Rattle.ds_conduct.proofs.Places.{header-beyond, slot_number-beyond}
use Rattle.ds_conduct.specs.Causes.{IsLockRaced}
use Rattle.ds_conduct.specs.Conducts.{after}
use Rattle.ds_conduct.specs.Digests.{Digest, Own, is_some, noted, own_after, own_missed, own_swapped}
use Rattle.ds_conduct.specs.Headers.{owner_of}
use Rattle.ds_conduct.specs.Settings.{Setting}
use Rattle.ds_lock.specs.Locking.{HasNoMiss, IsNoMiss, IsRaced, IsShown, Misses, header_image, lock_sector, read_of, taken_from}
use Rattle.ds_lock.specs.Stages.{Agrees, Awaits, HasSeen, IsPass, IsWanted, Leads, LockValue, due}
use Rattle.ds_lock.specs.declared.ends.LockEnd.TheVariants as ends
use Rattle.ds_lock.specs.declared.how.How.TheVariants.{Raced}
use Rattle.ds_lock.specs.declared.steps.Wanted.{Wanted}
use Rattle.ds_marks.specs.declared.header.Header.{Header}
use Rattle.ds_marks.specs.declared.slot.Slot.{Slot}
use Rattle.ds_watch.specs.Notes.{Note}
use Rattle.ds_host_laws.proofs.LockCauses.{raced-cause, wanted_by}
use Rattle.ds_host_laws.proofs.LockPasses.{has-missed, last-behind}
use Rattle.ds_host_laws.proofs.LockSteps.{Looks, Step, Takes}
use Rattle.ds_host_laws.proofs.Locks.{is-pass, is-step, is-wanted, rest, wanted-is}
use Rattle.ds_host_laws.specs.Locks.{HasBegun, IsTaking}

module _ (w : Wanted) where
  pub begun-more : (front xs : List Exchange) → HasBegun w xs → HasBegun w (front ++ xs)
  begun-more front xs begun = record {
    later = front ++ begun.later;
    sector = begun.sector;
    tick = begun.tick;
    parts = ap (λ (l : List Exchange). front ++ l) begun.parts ∙ sym (append_assoc front begun.later (read_of (lock_sector w.geom w.object)
        begun.sector begun.tick ∷ []));
  }

  -- a pass that shows the header began with it
  pass-begun : (missed : Bool) (xs pass : List Exchange) (h : Header) → IsPass w missed xs pass → IsShown w pass h
      → (missed ≡ true → HasBegun w xs) → HasBegun w xs
  pass-begun false xs pass h is shown before = record {
    later = shown.later;
    sector = header_image h;
    tick = shown.tick;
    parts = is.0 ∙ shown.parts;
  }
  pass-begun true xs pass h is shown before = before refl

  -- a Swap that missed wasn't the first
  begun-behind : (x : Exchange) (xs earlier : List Exchange) → Misses w x earlier → HasBegun w (x ∷ xs) → HasBegun w xs
  begun-behind x xs earlier misses begun =
      let header : Exchange = read_of (lock_sector w.geom w.object) begun.sector begun.tick in
      let apart : x ≢ header = λ same. absurd (let c : Swap misses.at misses.verify misses.fresh ≡ Read (lock_sector w.geom w.object) =
      sym (ap (λ (y : Exchange). y.command) misses.is) ∙ ap (λ (y : Exchange). y.command) same in cc) in
      let behind = last-behind [] xs begun.later x header apart begun.parts in
      record { later = behind.0; sector = begun.sector; tick = begun.tick; parts = behind.1 }

none-sent : {X : Type 0} (pass earlier : List X) (first : X) → [] ≡ pass ++ first ∷ earlier → ⊥
none-sent [] earlier first same = absurd cc
none-sent (x ∷ pass) earlier first same = absurd cc

none-begun : (w : Wanted) (missed : Bool) (pass : List Exchange) → IsPass w missed [] pass → missed ≡ true → HasBegun w []
none-begun w false pass is same = absurd cc
none-begun w true pass is same = absurd (none-sent pass is.earlier is.first is.parts)

-- a run that has sent nothing yet
pub begins : (setting : Setting) (d : Digest) (own : Own) (run : LockValue) (object : ℕ)
    → run.wanted ≡ wanted_by setting own object → IsWanted run.wanted → length setting.host ≡ 16 → d.own ≡ Some own → d.answer ≡ None
    → Agrees run []
    → IsTaking setting d own run [] d.exchanges
begins setting d own run object same is size holds unanswered agrees = record {
  geom = ap (λ (w : Wanted). w.geom) same;
  owner = ap (λ (w : Wanted). w.own) same;
  is_wanted = is;
  host_size = size;
  holds = holds;
  unanswered = unanswered;
  parts = refl;
  agrees = agrees;
  begun = none-begun run.wanted run.missed agrees.pass agrees.is_pass;
}

module _ (setting : Setting) (own : Own) (object : ℕ) (is_wanted : IsWanted (wanted_by setting own object)) (d : Digest) (now : ℕ)
    (size : length setting.host ≡ 16) (holds : d.own ≡ Some own) (unanswered : d.answer ≡ None) (pass rest : List Exchange)
    (parts : d.exchanges ≡ pass ++ rest) where
  abbrev IsStep : Command → Type 0
  IsStep command = Step setting own object is_wanted d now size holds unanswered pass rest parts command

  own-read : (at : ℕ) (response : Response) → Fits (Read at) response → response ≢ Fault
      → own_after setting.geom (Some own) false now (Read at) response ≡ Some own
  own-read at (Got s) fits sound = refl
  own-read at Done fits sound = absurd fits
  own-read at (Miscompare offset) fits sound = absurd fits
  own-read at Fault fits sound = absurd (sound refl)

  own-swap : (verify fresh : Sector) (response : Response) → Fits (Swap (lock_sector setting.geom object) verify fresh) response
      → response ≢ Fault
      → own_after setting.geom (Some own) false now (Swap (lock_sector setting.geom object) verify fresh) response ≡ Some own
  own-swap verify fresh (Got s) fits sound = absurd fits
  own-swap verify fresh Done fits sound = ap (λ n. own_swapped (Some own) n now verify fresh)
      (slot_number-beyond setting.geom (lock_sector setting.geom object) (header-beyond setting.geom object))
  own-swap verify fresh (Miscompare offset) fits sound = ap (λ n. own_missed (Some own) n)
      (slot_number-beyond setting.geom (lock_sector setting.geom object) (header-beyond setting.geom object))
  own-swap verify fresh Fault fits sound = absurd (sound refl)

  own-step : (command : Command) (response : Response) → IsStep command → Fits command response → response ≢ Fault
      → own_after setting.geom (Some own) false now command response ≡ Some own
  own-step command response (Looks at e may) fits sound =
      ap (λ c. own_after setting.geom (Some own) false now c response) e
      ∙ own-read at response (subst (λ c. Fits c response) e fits) sound
  own-step command response (Takes h e shown loose room) fits sound =
      ap (λ c. own_after setting.geom (Some own) false now c response) e
      ∙ own-swap (header_image h) (header_image (taken_from (owner_of setting own) h)) response (subst (λ c. Fits c response) e fits)
      sound

  -- the generation stays held
  pub own-stays : (command : Command) (response : Response) → IsStep command → Fits command response → response ≢ Fault
      → (noted setting.geom d now command response).own ≡ Some own
  own-stays command response step fits sound =
      ap (λ o. own_after setting.geom o (is_some d.answer) now command response) holds
      ∙ (ap (λ a. own_after setting.geom (Some own) (is_some a) now command response) unanswered
      ∙ own-step command response step fits sound)

  read-unmissed : (at : ℕ) (response : Response) → Fits (Read at) response → IsNoMiss response
  read-unmissed at (Got s) fits = tt
  read-unmissed at Done fits = absurd fits
  read-unmissed at (Miscompare offset) fits = absurd fits
  read-unmissed at Fault fits = tt

  -- where the run reads the header anew, it had begun with it
  pub begun-step : (command : Command) (response : Response) (xs : List Exchange) (missed missed' : Bool) (after : List Exchange)
      → IsStep command → Fits command response
      → IsPass (wanted_by setting own object) missed xs pass → (missed ≡ true → HasBegun (wanted_by setting own object) xs)
      → IsPass (wanted_by setting own object) missed' (record { command = command; response = response; tick = now } ∷ xs) after
      → missed' ≡ true
      → HasBegun (wanted_by setting own object) (record { command = command; response = response; tick = now } ∷ xs)
  begun-step command response xs missed false after step fits before begun is again = absurd cc
  begun-step command response xs true true after step fits before begun is again =
      begun-more (wanted_by setting own object) (record { command = command; response = response; tick = now } ∷ []) xs (begun refl)
  begun-step command response xs false true after (Looks at e may) fits before begun is again =
      absurd (has-missed (wanted_by setting own object) (record { command = command; response = response; tick = now } ∷ xs) after is
      (read-unmissed at response (subst (λ c. Fits c response) e fits), subst HasNoMiss (sym before.0) before.1))
  begun-step command response xs false true after (Takes h e shown loose room) fits before begun is again =
      begun-more (wanted_by setting own object) (record { command = command; response = response; tick = now } ∷ []) xs
      (pass-begun (wanted_by setting own object) false xs pass h before shown begun)

module _ (setting : Setting) (d : Digest) (own : Own) (run : LockValue) (xs ys : List Exchange)
    (taking : IsTaking setting d own run xs ys) where
  abbrev w : Wanted
  w = wanted_by setting own run.wanted.object

  abbrev pub exchange : Command → Response → ℕ → Exchange
  exchange command response now = record { command = command; response = response; tick = now }

  -- one exchange more
  pub goes-on : (now : ℕ) (command : Command) → due run ≡ nexts.Send command → (response : Response) → Fits command response
      → response ≢ Fault → (run' : LockValue) → run'.wanted ≡ run.wanted
      → Agrees run' (exchange command response now ∷ xs)
      → IsTaking setting (after setting d now command response None) own run' (exchange command response now ∷ xs) ys
  goes-on now command due response fits sound run' same agrees =
      let x : Exchange = record { command = command; response = response; tick = now } in
      let step = is-step setting d own run xs ys taking now command due in
      let before = rest setting d own run xs ys taking in
      let is = is-wanted setting d own run xs ys taking in
      let wanted = wanted-is setting d own run xs ys taking in
      record {
        geom = ap (λ (v : Wanted). v.geom) same ∙ taking.geom;
        owner = ap (λ (v : Wanted). v.own) same ∙ taking.owner;
        is_wanted = subst IsWanted (sym same) taking.is_wanted;
        host_size = taking.host_size;
        holds = own-stays setting own run.wanted.object is d now taking.host_size taking.holds taking.unanswered
            taking.agrees.pass before.0 before.1 command response step fits sound;
        unanswered = taking.unanswered;
        parts = ap (λ (l : List Exchange). x ∷ l) taking.parts;
        agrees = agrees;
        begun = λ again. subst (λ v. HasBegun v (x ∷ xs)) (sym (same ∙ wanted))
            (begun-step setting own run.wanted.object is d now taking.host_size taking.holds taking.unanswered taking.agrees.pass before.0
            before.1 command response xs run.missed run'.missed agrees.pass step fits (is-pass setting d own run xs ys taking)
            (λ missed. subst (λ v. HasBegun v xs) wanted (taking.begun missed))
            (subst (λ v. IsPass v run'.missed (x ∷ xs) agrees.pass) (same ∙ wanted) agrees.is_pass) again);
      }

  -- the run had begun with the header where a break is awaited
  awaiting-begun : (slot : ℕ) (s : Slot) → Awaits run.stage slot s → HasBegun run.wanted xs
  awaiting-begun slot s awaits =
      let seen = subst (λ v. HasSeen run.wanted v taking.agrees.pass) awaits.1 taking.agrees.seen in
      pass-begun run.wanted run.missed xs taking.agrees.pass awaits.0 taking.agrees.is_pass seen.0.names.shown taking.begun

  module _ (slot : ℕ) (s : Slot) (awaits : Awaits run.stage slot s) (broke : List Exchange) (run' : LockValue)
      (same : run'.wanted ≡ run.wanted) where
    -- the exchanges of the break are added
    pub resumed : (d' : Digest) → d'.own ≡ Some own → d'.answer ≡ None → d'.exchanges ≡ (broke ++ xs) ++ ys → Agrees run' (broke ++ xs)
        → IsTaking setting d' own run' (broke ++ xs) ys
    resumed d' holds unanswered parts agrees = record {
      geom = ap (λ (v : Wanted). v.geom) same ∙ taking.geom;
      owner = ap (λ (v : Wanted). v.own) same ∙ taking.owner;
      is_wanted = subst IsWanted (sym same) taking.is_wanted;
      host_size = taking.host_size;
      holds = holds;
      unanswered = unanswered;
      parts = parts;
      agrees = agrees;
      begun = λ again. subst (λ v. HasBegun v (broke ++ xs)) (sym same) (begun-more run.wanted broke xs (awaiting-begun slot s awaits));
    }

    -- and it may have been the second miss
    pub resumed-raced : (notes : List Note) (now : ℕ) → Leads run' (Some (ends.Busy Raced)) notes now (broke ++ xs)
        → IsLockRaced setting.geom ((broke ++ xs) ++ ys) run.wanted.object
    resumed-raced notes now leads =
        let wanted = wanted-is setting d own run xs ys taking in
        let raced = subst (λ v. IsRaced v (broke ++ xs)) (same ∙ wanted) leads.0 in
        let begun = subst (λ v. HasBegun v (broke ++ xs)) wanted (begun-more run.wanted broke xs (awaiting-begun slot s awaits)) in
        raced-cause setting own run.wanted.object (is-wanted setting d own run xs ys taking) (broke ++ xs) ys raced
        (begun-behind w raced.second raced.rest raced.pass raced.misses (subst (HasBegun w) raced.newest begun))
