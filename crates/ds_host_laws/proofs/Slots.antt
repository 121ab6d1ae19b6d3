-- What a host sends and tells while it has a run for its slot: entering one, renewing the own one, and leaving it.
use Rattle.std.proofs.Common.{◌≡◌, ℕ, zero, suc, ◌+◌, ◌^◌, ◌<◌, ◌≤◌, Bool, true, false, List, [], ◌∷◌, ◌++◌, length}
use Rattle.std.proofs.Common.{Option, Some, None, refl, sym, ◌∙◌, ap, subst, arith}
use Rattle.std.specs.Prelude.{⊤}
use Rattle.std.specs.List.{Contains}
use Rattle.ds_base.specs.Exchanges.{Exchange}
use Rattle.ds_base.specs.Geometry.{IsGeom}
use Rattle.ds_base.specs.declared.commands.Command.{Command}
use Rattle.ds_base.specs.declared.commands.Command.TheVariants.{Read, Write, Swap}
use Rattle.ds_base.specs.declared.commands.Next.TheVariants.{Send}
use Rattle.ds_base.specs.declared.commands.Response.{Response}
use Rattle.ds_base.specs.declared.commands.Response.TheVariants.{Got, Done, Miscompare, Fault}
use Rattle.ds_base.specs.declared.geometry.Geom.{Geom}
use Rattle.ds_base.specs.declared.geometry.GeomField.TheVariants.{Slots}
use Rattle.ds_base.specs.declared.sectors.Sector.{Sector}
use Rattle.ds_bytes.specs.Fields.{AllBelow}
use Rattle.ds_layout.specs.Places.{place_sector, total_of}
use Rattle.ds_layout.specs.declared.places.Place.TheVariants as places
use Rattle.ds_lock.specs.declared.how.How.TheVariants as hows
use Rattle.ds_marks.specs.Slot.{IsOfState, IsSlot, slot_bytes}
use Rattle.ds_marks.specs.SlotIn.{slot_in}
use Rattle.ds_marks.specs.declared.slot.Journal.TheVariants.{Idle}
use Rattle.ds_marks.specs.declared.slot.Slot.{Slot}
use Rattle.ds_marks.specs.declared.slot.SlotState.TheVariants.{Live}
use Rattle.ds_reg.specs.Registering as reg
use Rattle.ds_reg.specs.Stages.{Agrees, IsRun, Leads, RegValue, Takes, due}
use Rattle.ds_reg.specs.Stages.{image_sector, told_by}
use Rattle.ds_reg.specs.declared.calls.RegCall.TheVariants as wants
use Rattle.ds_reg.specs.declared.calls.RegEnd.{RegEnd}
use Rattle.ds_reg.specs.declared.calls.RegEnd.TheVariants as ends
use Rattle.ds_reg.specs.declared.steps.Stage.{Stage}
use Rattle.ds_reg.specs.declared.steps.Stage.TheVariants as stages
use Rattle.ds_reg.specs.declared.steps.Went.TheVariants as went
use Rattle.ds_tree.specs.declared.calls.HostCallOf.TheVariants as calls
use Rattle.ds_conduct.specs.Answers.{TellsFault, TellsRead}
use Rattle.ds_conduct.specs.Causes.{HasNoSlot, IsBadSlot, IsSlotRaced}
use Rattle.ds_conduct.specs.Conducts.{Answers}
use Rattle.ds_conduct.specs.Digests.{Digest, Own, begun, is_some, noted, own_after, own_missed}
use Rattle.ds_conduct.specs.Exchanges.{MissAt}
use Rattle.ds_conduct.specs.Guards.{Enter, Enters, MaySend}
use Rattle.ds_conduct.specs.Marks.{slot_number}
use Rattle.ds_conduct.specs.Settings.{Setting}
use Rattle.ds_conduct.specs.declared.answers.HostAnswer.{HostAnswer}
use Rattle.ds_conduct.specs.declared.answers.HostAnswer.TheVariants as answers
use Rattle.ds_conduct.specs.declared.answers.Spot.TheVariants as spots
use Rattle.ds_conduct.proofs.Places.{block-beyond}
use Rattle.ds_host_laws.proofs.Digests.{enter-done, exchanged, went_on}
use Rattle.ds_host_laws.proofs.Images.{slot_in-encoded}

-- the id of a host: 16 bytes
pub record IsId (host : List ℕ) : Type 0 where
  pub size : length host ≡ 16
  pub below : AllBelow 256 host

-- no exchange was answered by Done
abbrev pub HasDoneNothing : List Exchange → Type 0
HasDoneNothing xs = (x : Exchange) → Contains xs x → x.response ≡ Done → ⊥

-- a host without a generation is at work on a call for one, and its run has sent and heard what the digest tells
pub record Registers (setting : Setting) (d : Digest) (run : RegValue) : Type 0 where
  pub is_run : IsRun run
  pub geom : run.geom ≡ setting.geom
  pub host : run.host ≡ setting.host
  pub wants : run.call ≡ wants.Enter
  pub agrees : Agrees run d.exchanges
  pub none : d.own ≡ None
  pub call : d.call ≡ Some calls.Register
  pub unanswered : d.answer ≡ None
  pub nothing_done : HasDoneNothing d.exchanges

-- a step of a run
pub record Steps (now : ℕ) (run after : RegValue) (command : Command) (response : Response) (result : Option RegEnd) : Type 0 where
  pub is_due : due run run.stage ≡ Send command
  pub geom : after.geom ≡ run.geom
  pub host : after.host ≡ run.host
  pub wants : after.call ≡ run.call
  pub whole : IsRun after
  pub takes : Takes run.geom run.call run.stage response (told_by result after.stage)
  pub leads : (xs : List Exchange) → Agrees run xs
      → Leads after result (record { command = command; response = response; tick = now } ∷ xs)

-- the step enters no slot
abbrev pub EntersNone : Option RegEnd → Type 0
EntersNone (Some (ends.Registered slot generation)) = ⊥
EntersNone result = ⊤

-- how a run that is to enter a slot may end
abbrev pub IsEnterEnd : RegEnd → Type 0
IsEnterEnd ends.Beaten = ⊥
IsEnterEnd ends.Left = ⊥
IsEnterEnd (ends.Fenced offset) = ⊥
IsEnterEnd end = ⊤

-- how an end is told
abbrev pub answer_of : Option RegEnd → Option HostAnswer
answer_of None = None
answer_of (Some (ends.Registered slot generation)) = Some (answers.Registered slot generation)
answer_of (Some ends.NoSlot) = Some answers.NoSlot
answer_of (Some (ends.Raced slot)) = Some (answers.Busy (spots.Slot slot) hows.Raced)
answer_of (Some ends.Beaten) = None
answer_of (Some ends.Left) = Some answers.Plain
answer_of (Some (ends.Fenced offset)) = Some (answers.Fenced offset)
answer_of (Some (ends.Damaged at)) = Some (answers.Damaged at)
answer_of (Some ends.Faulted) = Some answers.DeviceFault

-- a call for a slot begins with a run that has sent nothing
pub registers-begun : (setting : Setting) (d : Digest) (run : RegValue) → IsRun run → run.geom ≡ setting.geom → run.host ≡ setting.host
    → run.call ≡ wants.Enter → Agrees run [] → d.own ≡ None → Registers setting (begun d calls.Register) run
registers-begun setting d run is_run geom host wants agrees none = record {
  is_run = is_run;
  geom = geom;
  host = host;
  wants = wants;
  agrees = agrees;
  none = none;
  call = refl;
  unanswered = refl;
  nothing_done = λ x has done. (let f : ⊥ = omega (arith, has.1) in f);
}

-- each slot is a sector of the volume
slot-within : (g : Geom) (slot : ℕ) → slot < g.slots → 2 + slot < total_of g
slot-within g slot within =
    let from : 2 + g.slots ≤ place_sector g (places.Block 0 0) = block-beyond g 0 0 in omega (arith, from, within)

pub few-slots : (g : Geom) (slot : ℕ) → IsGeom g → slot < g.slots → slot < 256
few-slots g slot is within = let most : g.slots ≤ 16 = (is Slots).1 in omega (arith, most, within)

-- a slot that is entered, renewed or left is one

pub is_slot-entered : (host : List ℕ) (found : Slot) → IsId host → IsSlot found → IsSlot (reg.entered_from host found)
is_slot-entered host found id is = record {
  widths = record { host_size = id.size; txn_fits = omega arith };
  ranges = record {
    generation_from = is.ranges.generation_from;
    generation_to = is.ranges.generation_to;
    is_of_state = (omega arith, omega arith);
    is_of_journal = tt;
  };
}

pub is_slot-beaten : (image : Slot) → IsSlot image → image.state ≡ Live → image.stamp < 2 ^ 62 → IsSlot (reg.beaten_from image)
is_slot-beaten image is live less = record {
  widths = record { host_size = is.widths.host_size; txn_fits = is.widths.txn_fits };
  ranges = record {
    generation_from = is.ranges.generation_from;
    generation_to = is.ranges.generation_to;
    is_of_state = subst (λ t. IsOfState t (reg.beaten_from image)) (sym live) (omega arith, omega (arith, less));
    is_of_journal = is.ranges.is_of_journal;
  };
}

pub is_slot-left : (image : Slot) → IsSlot image → image.generation < 2 ^ 62 → IsSlot (reg.left_from image)
is_slot-left image is less = record {
  widths = record { host_size = refl; txn_fits = omega arith };
  ranges = record {
    generation_from = omega arith;
    generation_to = omega (arith, less);
    is_of_state = (refl, refl, refl);
    is_of_journal = tt;
  };
}

same-newest : (x y : Exchange) (xs ys : List Exchange) → x ∷ xs ≡ y ∷ ys → x ≡ y
same-newest x y xs ys is = cc

same-command : (x y : Exchange) (xs ys : List Exchange) → x ∷ xs ≡ y ∷ ys → x.command ≡ y.command
same-command x y xs ys is = ap (λ (z : Exchange). z.command) (same-newest x y xs ys is)

same-response : (x y : Exchange) (xs ys : List Exchange) → x ∷ xs ≡ y ∷ ys → x.response ≡ y.response
same-response x y xs ys is = ap (λ (z : Exchange). z.response) (same-newest x y xs ys is)

-- what the run shows is what the answers tell

none-shown : (g : Geom) (xs : List Exchange) → ((slot : ℕ) → slot < g.slots → reg.IsPassed g xs slot) → HasNoSlot g xs
none-shown g xs passed slot within =
    let is = passed slot within in
    record { sector = is.sector; last = is.last; image = is.image; spelled = is.spelled; taken = is.taken }

bad-shown : (g : Geom) (xs : List Exchange) (at : ℕ) → reg.IsDamaged g xs at → IsBadSlot g xs at
bad-shown g xs at is = record {
  slot = is.slot;
  within = is.within;
  here = is.here;
  sector = is.sector;
  read = record {
    later = [];
    exchange = record { command = Read at; response = Got is.sector; tick = is.tick };
    earlier = is.earlier;
    is_at = record { parts = is.newest };
    got = record { command = refl; response = refl };
  };
  newest = refl;
  none = is.none;
}

abbrev miss-shown : (g : Geom) (xs : List Exchange) (slot : ℕ) → reg.Missed g xs slot → MissAt xs (reg.slot_sector g slot)
miss-shown g xs slot is = record {
  later = is.later;
  exchange = record {
    command = Swap (reg.slot_sector g slot) is.verify is.fresh;
    response = Miscompare is.offset;
    tick = is.tick;
  };
  earlier = is.earlier;
  is_at = record { parts = is.parts };
  verify = is.verify;
  fresh = is.fresh;
  offset = is.offset;
  missed = record { command = refl; response = refl };
  last = is.last;
}

race-shown : (g : Geom) (xs : List Exchange) (slot : ℕ) → slot < g.slots → reg.MissedTwice g xs slot → IsSlotRaced g xs slot
race-shown g xs slot within is = (
  within,
  record {
    at = reg.slot_sector g slot;
    contended = refl;
    second = miss-shown g xs slot is.second;
    newest = is.newest;
    before = reg.slot_sector g slot;
    contended_before = refl;
    first = miss-shown g is.second.earlier slot is.first;
    again = is.again;
  },
)

module _ (setting : Setting) (d : Digest) (now : ℕ) where
  abbrev run_at : Stage → RegValue
  run_at stage = record { geom = setting.geom; host = setting.host; call = wants.Enter; stage = stage }

  same-run : (run : RegValue) → Registers setting d run → run ≡ run_at run.stage
  same-run run registers =
      let made : RegValue = record { geom = run.geom; host = run.host; call = run.call; stage = run.stage } in
      let same : made ≡ run_at run.stage = rw (registers.geom, registers.host, registers.wants) refl in
      same

  module _ (id : IsId setting.host) (slot : ℕ) (image : Sector) (found : Slot) (missed : Bool) where
    abbrev entered : Slot
    entered = reg.entered_from setting.host found

    -- the Swap of a free slot that a run found
    abbrev enters : Registers setting d (run_at (stages.Entering slot image found missed))
        → Enters setting d now (2 + slot) image (image_sector slot entered)
    enters registers = record {
      call = registers.call;
      unanswered = registers.unanswered;
      none = registers.none;
      nothing_done = registers.nothing_done;
      swap = record {
        slot = slot;
        within = registers.is_run.fits.0;
        place = refl;
        last = registers.agrees.0.last;
        old = found;
        new = entered;
        was = registers.agrees.0.spelled;
        is = slot_in-encoded slot entered (few-slots setting.geom slot registers.is_run.is_geom registers.is_run.fits.0)
            (is_slot-entered setting.host found id registers.is_run.fits.1) id.below;
      };
      was_free = registers.agrees.0.free;
      live = refl;
      same_generation = refl;
      same_host = refl;
      stamp = refl;
      idle = refl;
    }

  -- what is due may be sent
  sends-at : (stage : Stage) (command : Command) → IsId setting.host → Registers setting d (run_at stage)
      → due (run_at stage) stage ≡ Send command → MaySend setting d now command
  sends-at (stages.Looking slot missed) command id registers is =
      let same : Read (2 + slot) ≡ command = cc in
      let may : MaySend setting d now (Read (2 + slot)) = record {
        unanswered = registers.unanswered;
        within = slot-within setting.geom slot registers.is_run.fits.0;
      } in
      subst (MaySend setting d now) same may
  sends-at (stages.Entering slot image found missed) command id registers is =
      let same : Swap (2 + slot) image (image_sector slot (reg.entered_from setting.host found)) ≡ command = cc in
      subst (MaySend setting d now) same (Enter (enters id slot image found missed registers))
  sends-at stages.Own command id registers is = absurd registers.is_run.fits
  sends-at stages.Over command id registers is = absurd (cc)

  pub registers-sends : (run : RegValue) (command : Command) → IsId setting.host → Registers setting d run
      → due run run.stage ≡ Send command → MaySend setting d now command
  registers-sends run command id registers is =
      let same = same-run run registers in
      sends-at run.stage command id (subst (Registers setting d) same registers)
      (subst (λ (r : RegValue). due r run.stage ≡ Send command) same is)

  told-end : (result : Option RegEnd) (stage : Stage) (end : RegEnd) → told_by result stage ≡ went.Ended end → result ≡ Some end
  told-end None stage end is = absurd (cc)
  told-end (Some other) stage end is = cc

  told-on : (result : Option RegEnd) (stage next : Stage) → told_by result stage ≡ went.On next → result ≡ None
  told-on None stage next is = refl
  told-on (Some other) stage next is = absurd (cc)

  abbrev shown : Command → Response → List Exchange
  shown command response = record { command = command; response = response; tick = now } ∷ d.exchanges

  -- at the Read of a slot
  read-tells : (after : RegValue) (at : ℕ) (s : Sector) (own : Option Own) (result : Option RegEnd) → own ≡ None → after.geom ≡ setting.geom
      → after.call ≡ wants.Enter → Leads after result (shown (Read at) (Got s))
      → TellsRead setting d now own (noted setting.geom d now (Read at) (Got s)).notes (shown (Read at) (Got s)) (answer_of result)
  read-tells after at s (Some own) result none geom call leads = absurd (cc)
  read-tells after at s None None none geom call leads = tt
  read-tells after at s None (Some end) none geom call leads = by_end end (subst (λ w. reg.Told after.geom after.host w
      (shown (Read at) (Got s)) end) call leads.0)
    where
      by_end : (end : RegEnd) → reg.Told after.geom after.host wants.Enter (shown (Read at) (Got s)) end
          → TellsRead setting d now None (noted setting.geom d now (Read at) (Got s)).notes (shown (Read at) (Got s)) (answer_of (Some end))
      by_end (ends.Registered slot generation) told =
          let clash = same-command _ _ _ _ told.newest in absurd (let f : ⊥ = cc in f)
      by_end ends.NoSlot told = none-shown setting.geom (shown (Read at) (Got s)) (λ slot within. subst (λ g. reg.IsPassed g
          (shown (Read at) (Got s)) slot) geom (told slot (subst (λ (g : Geom). slot < g.slots) (sym geom) within)))
      by_end (ends.Raced slot) told =
          let second = told.second in
          let missed : Exchange = record {
            command = Swap (reg.slot_sector after.geom slot) second.verify second.fresh;
            response = Miscompare second.offset;
            tick = second.tick;
          } in
          let first : record { command = Read at; response = Got s; tick = now } ∷ d.exchanges ≡ missed ∷ second.earlier =
          second.parts ∙ ap (λ l. l ++ missed ∷ second.earlier) told.newest in
          let clash = same-command _ _ _ _ first in absurd (let f : ⊥ = cc in f)
      by_end ends.Beaten told = absurd told
      by_end ends.Left told = absurd told
      by_end (ends.Fenced offset) told = absurd told
      by_end (ends.Damaged at') told = bad-shown setting.geom (shown (Read at) (Got s)) at' (subst (λ g. reg.IsDamaged g
          (shown (Read at) (Got s)) at') geom told)
      by_end ends.Faulted told =
          let clash = same-response _ _ _ _ told.parts in let failed = told.failed in absurd (let f : ⊥ = cc in f)

  -- a Fault before the answer
  fault-tells : (response : Option HostAnswer) → response ≡ None → TellsFault response answers.DeviceFault (Some answers.DeviceFault)
  fault-tells None none = refl
  fault-tells (Some answer) none = absurd (cc)

  read-answers : (slot : ℕ) (missed : Bool) (after : RegValue) (command : Command) (response : Response) (result : Option RegEnd)
      → IsId setting.host → Registers setting d (run_at (stages.Looking slot missed))
      → Steps now (run_at (stages.Looking slot missed)) after command response result
      → Answers setting d now (Read (2 + slot)) response (answer_of result)
  read-answers slot missed after command (Got s) result id registers steps =
      let same : Read (2 + slot) ≡ command = (let due = steps.is_due in cc) in
      let leads = steps.leads d.exchanges registers.agrees in
      record {
        may = record { unanswered = registers.unanswered; within = slot-within setting.geom slot registers.is_run.fits.0 };
        tells = read-tells after (2 + slot) s d.own result registers.none steps.geom steps.wants
            (subst (λ c. Leads after result (shown c (Got s))) (sym same) leads);
      }
  read-answers slot missed after command Done result id registers steps = absurd steps.takes
  read-answers slot missed after command (Miscompare offset) result id registers steps = absurd steps.takes
  read-answers slot missed after command Fault result id registers steps =
      let ended : result ≡ Some ends.Faulted = told-end result after.stage ends.Faulted steps.takes in
      subst (λ r. Answers setting d now (Read (2 + slot)) Fault (answer_of r)) (sym ended) (record {
        may = record { unanswered = registers.unanswered; within = slot-within setting.geom slot registers.is_run.fits.0 };
        tells = fault-tells d.answer registers.unanswered;
      })

  module _ (slot : ℕ) (image : Sector) (found : Slot) where
    abbrev enter_swap : Command
    enter_swap = Swap (2 + slot) image (image_sector slot (reg.entered_from setting.host found))

    swap-answers : (missed : Bool) (after : RegValue) (command : Command) (response : Response) (result : Option RegEnd)
        → IsId setting.host → Registers setting d (run_at (stages.Entering slot image found missed))
        → Steps now (run_at (stages.Entering slot image found missed)) after command response result
        → Answers setting d now enter_swap response (answer_of result)
    swap-answers missed after command (Got s) result id registers steps = absurd steps.takes
    swap-answers missed after command Done result id registers steps =
        let ended : result ≡ Some (ends.Registered slot found.generation) =
        told-end result after.stage (ends.Registered slot found.generation) steps.takes in
        subst (λ r. Answers setting d now enter_swap Done (answer_of r)) (sym ended)
        (record { may = Enter (enters id slot image found missed registers); tells = refl })
    swap-answers false after command (Miscompare offset) result id registers steps =
        let on : result ≡ None = told-on result after.stage (stages.Looking slot true) steps.takes in
        subst (λ r. Answers setting d now enter_swap (Miscompare offset) (answer_of r)) (sym on)
        (record { may = Enter (enters id slot image found false registers); tells = tt })
    swap-answers true after command (Miscompare offset) result id registers steps =
        let same : enter_swap ≡ command = (let due = steps.is_due in cc) in
        let ended : result ≡ Some (ends.Raced slot) = told-end result after.stage (ends.Raced slot) steps.takes in
        let leads = subst (λ r. Leads after r (shown command (Miscompare offset))) ended (steps.leads d.exchanges registers.agrees) in
        let told : reg.Told setting.geom after.host wants.Enter (shown enter_swap (Miscompare offset)) (ends.Raced slot) =
        subst (λ c. reg.Told setting.geom after.host wants.Enter (shown c (Miscompare offset)) (ends.Raced slot)) (sym same)
        (subst (λ w. reg.Told setting.geom after.host w (shown command (Miscompare offset)) (ends.Raced slot)) steps.wants
        (subst (λ g. reg.Told g after.host after.call (shown command (Miscompare offset)) (ends.Raced slot)) steps.geom leads.0)) in
        subst (λ r. Answers setting d now enter_swap (Miscompare offset) (answer_of r)) (sym ended) (record {
          may = Enter (enters id slot image found true registers);
          tells = race-shown setting.geom (shown enter_swap (Miscompare offset)) slot registers.is_run.fits.0 told;
        })
    swap-answers missed after command Fault result id registers steps =
        let ended : result ≡ Some ends.Faulted = told-end result after.stage ends.Faulted steps.takes in
        subst (λ r. Answers setting d now enter_swap Fault (answer_of r)) (sym ended) (record {
          may = Enter (enters id slot image found missed registers);
          tells = fault-tells d.answer registers.unanswered;
        })

  answers-at : (stage : Stage) (after : RegValue) (command : Command) (response : Response) (result : Option RegEnd) → IsId setting.host
      → Registers setting d (run_at stage) → Steps now (run_at stage) after command response result
      → Answers setting d now command response (answer_of result)
  answers-at (stages.Looking slot missed) after command response result id registers steps =
      let same : Read (2 + slot) ≡ command = (let due = steps.is_due in cc) in
      subst (λ c. Answers setting d now c response (answer_of result)) same
      (read-answers slot missed after command response result id registers steps)
  answers-at (stages.Entering slot image found missed) after command response result id registers steps =
      let same : enter_swap slot image found ≡ command = (let due = steps.is_due in cc) in
      subst (λ c. Answers setting d now c response (answer_of result)) same
      (swap-answers slot image found missed after command response result id registers steps)
  answers-at stages.Own after command response result id registers steps = absurd registers.is_run.fits
  answers-at stages.Over after command response result id registers steps = absurd steps.takes

  module _ (run after : RegValue) (command : Command) (response : Response) where
    at-stage : (result : Option RegEnd) (registers : Registers setting d run) → Steps now run after command response result
        → Registers setting d (run_at run.stage) × Steps now (run_at run.stage) after command response result
    at-stage result registers steps =
        let same = same-run run registers in
        (subst (Registers setting d) same registers, subst (λ r. Steps now r after command response result) same steps)

    -- what a step leads to is told so
    pub registers-answers : (result : Option RegEnd) → IsId setting.host → Registers setting d run
        → Steps now run after command response result → Answers setting d now command response (answer_of result)
    registers-answers result id registers steps =
        let is = at-stage result registers steps in answers-at run.stage after command response result id is.0 is.1

  not-done : (stage : Stage) (after : RegValue) (command : Command) (response : Response) (result : Option RegEnd)
      → Registers setting d (run_at stage) → Steps now (run_at stage) after command response result → EntersNone result
      → response ≡ Done → ⊥
  not-done (stages.Looking slot missed) after command (Got s) result registers steps on done = let f : ⊥ = cc in f
  not-done (stages.Looking slot missed) after command Done result registers steps on done = steps.takes
  not-done (stages.Looking slot missed) after command (Miscompare offset) result registers steps on done = steps.takes
  not-done (stages.Looking slot missed) after command Fault result registers steps on done = let f : ⊥ = cc in f
  not-done (stages.Entering slot image found missed) after command (Got s) result registers steps on done = steps.takes
  not-done (stages.Entering slot image found missed) after command Done result registers steps on done =
      subst EntersNone (told-end result after.stage (ends.Registered slot found.generation) steps.takes) on
  not-done (stages.Entering slot image found missed) after command (Miscompare offset) result registers steps on done = let f : ⊥ = cc in f
  not-done (stages.Entering slot image found missed) after command Fault result registers steps on done = let f : ⊥ = cc in f
  not-done stages.Own after command response result registers steps on done = registers.is_run.fits
  not-done stages.Over after command response result registers steps on done = steps.takes

  none-missed : (slot : Option ℕ) → own_missed None slot ≡ None
  none-missed None = refl
  none-missed (Some a) = refl

  none-stays : (b : Bool) (own : Option Own) (command : Command) (response : Response) → own ≡ None → (response ≡ Done → ⊥)
      → own_after setting.geom own b now command response ≡ None
  none-stays b (Some own) command response none undone = absurd (cc)
  none-stays b None (Read at) (Got s) none undone = refl
  none-stays b None (Read at) Done none undone = refl
  none-stays b None (Read at) (Miscompare offset) none undone = refl
  none-stays b None (Read at) Fault none undone = refl
  none-stays b None (Write at fresh) response none undone = by_response response undone
    where
      by_response : (r : Response) → (r ≡ Done → ⊥) → own_after setting.geom None b now (Write at fresh) r ≡ None
      by_response (Got s) not = refl
      by_response Done not = refl
      by_response (Miscompare offset) not = refl
      by_response Fault not = refl
  none-stays b None (Swap at verify fresh) (Got s) none undone = refl
  none-stays b None (Swap at verify fresh) Done none undone = absurd (undone refl)
  none-stays true None (Swap at verify fresh) (Miscompare offset) none undone = refl
  none-stays false None (Swap at verify fresh) (Miscompare offset) none undone = none-missed (slot_number setting.geom at)
  none-stays b None (Swap at verify fresh) Fault none undone = refl

  nothing-more : (command : Command) (response : Response) → (response ≡ Done → ⊥) → HasDoneNothing d.exchanges
      → HasDoneNothing (shown command response)
  nothing-more command response undone nothing x (zero, within, is) done =
      undone (ap (λ (z : Exchange). z.response) is ∙ done)
  nothing-more command response undone nothing x (suc k, within, is) done = nothing x (k, omega (arith, within), is) done

  module _ (run after : RegValue) (command : Command) (response : Response) where
    undone-by : (result : Option RegEnd) → Registers setting d run → Steps now run after command response result → EntersNone result
        → response ≡ Done → ⊥
    undone-by result registers steps on = let is = at-stage run after command response result registers steps in
        not-done run.stage after command response result is.0 is.1 on

    -- a host that enters no slot has no generation
    pub registers-none : (result : Option RegEnd) → Registers setting d run → Steps now run after command response result
        → EntersNone result → (noted setting.geom d now command response).own ≡ None
    registers-none result registers steps on =
        none-stays (is_some d.answer) d.own command response registers.none (undone-by result registers steps on)

    -- a run that goes on is at work on the call as before
    pub registers-on : Registers setting d run → Steps now run after command response None
        → Registers setting (noted setting.geom d now command response) after
    registers-on registers steps = record {
      is_run = steps.whole;
      geom = steps.geom ∙ registers.geom;
      host = steps.host ∙ registers.host;
      wants = steps.wants ∙ registers.wants;
      agrees = (steps.leads d.exchanges registers.agrees).0;
      none = registers-none None registers steps tt;
      call = registers.call;
      unanswered = registers.unanswered;
      nothing_done = nothing-more command response (undone-by None registers steps tt) registers.nothing_done;
    }

  -- the own slot when it was entered
  abbrev pub entered_image : ℕ → Slot
  entered_image generation =
      record { state = Live; generation = generation; host = setting.host; stamp = 1; journal = Idle }

  -- a host has the slot that it entered
  pub record HasEntered (e : Digest) (command : Command) (slot generation : ℕ) : Type 0 where
    pub within : slot < setting.geom.slots
    pub is_slot : IsSlot (entered_image generation)
    pub spelled : slot_in slot (slot_bytes slot (entered_image generation)) ≡ Some (entered_image generation)
    pub turned : e ≡ went_on d (exchanged setting.geom d now command Done)
        (Some
        (record { slot = slot; generation = generation; image = image_sector slot (entered_image generation); last = now; commits = 0 }))
        d.owed d.files d.notes

  has-entered : (slot : ℕ) (image : Sector) (found : Slot) (missed : Bool) → IsId setting.host
      → Registers setting d (run_at (stages.Entering slot image found missed))
      → HasEntered (noted setting.geom d now (enter_swap slot image found) Done) (enter_swap slot image found) slot found.generation
  has-entered slot image found missed id registers =
      let is = is_slot-entered setting.host found id registers.is_run.fits.1 in
      let within = registers.is_run.fits.0 in
      let spelled = slot_in-encoded slot (entered_image found.generation) (few-slots setting.geom slot registers.is_run.is_geom within) is
      id.below in
      record {
        within = within;
        is_slot = is;
        spelled = spelled;
        turned = enter-done setting.geom d now slot within image (image_sector slot (entered_image found.generation))
            (entered_image found.generation) registers.none spelled refl;
      }

  swap-enters : (slot : ℕ) (image : Sector) (found : Slot) (missed : Bool) (response : Response) (into generation : ℕ)
      → IsId setting.host → Registers setting d (run_at (stages.Entering slot image found missed))
      → Takes setting.geom wants.Enter (stages.Entering slot image found missed) response
      (went.Ended (ends.Registered into generation))
      → HasEntered (noted setting.geom d now (enter_swap slot image found) response) (enter_swap slot image found) into generation
  swap-enters slot image found missed (Got s) into generation id registers takes = absurd takes
  swap-enters slot image found missed Done into generation id registers takes =
      let same : slot ≡ into = cc in
      let of : found.generation ≡ generation = cc in
      subst (λ n. HasEntered (noted setting.geom d now (enter_swap slot image found) Done) (enter_swap slot image found) into n) of
      (subst (λ n. HasEntered (noted setting.geom d now (enter_swap slot image found) Done) (enter_swap slot image found) n
      found.generation) same (has-entered slot image found missed id registers))
  swap-enters slot image found false (Miscompare offset) into generation id registers takes = let f : ⊥ = cc in absurd f
  swap-enters slot image found true (Miscompare offset) into generation id registers takes = let f : ⊥ = cc in absurd f
  swap-enters slot image found missed Fault into generation id registers takes = let f : ⊥ = cc in absurd f

  enters-at : (stage : Stage) (after : RegValue) (command : Command) (response : Response) (slot generation : ℕ) → IsId setting.host
      → Registers setting d (run_at stage) → Steps now (run_at stage) after command response (Some (ends.Registered slot generation))
      → HasEntered (noted setting.geom d now command response) command slot generation
  enters-at (stages.Looking other missed) after command response slot generation id registers steps =
      let same : Read (2 + other) ≡ command = (let due = steps.is_due in cc) in
      let told : reg.Told after.geom after.host wants.Enter (shown command response) (ends.Registered slot generation) =
      subst (λ w. reg.Told after.geom after.host w (shown command response) (ends.Registered slot generation)) steps.wants
      (steps.leads d.exchanges registers.agrees).0 in
      let clash = same-command _ _ _ _ told.newest in absurd (let f : ⊥ = cc in f)
  enters-at (stages.Entering other image found missed) after command response slot generation id registers steps =
      let same : enter_swap other image found ≡ command = (let due = steps.is_due in cc) in
      subst (λ c. HasEntered (noted setting.geom d now c response) c slot generation) same
      (swap-enters other image found missed response slot generation id registers steps.takes)
  enters-at stages.Own after command response slot generation id registers steps = absurd registers.is_run.fits
  enters-at stages.Over after command response slot generation id registers steps = absurd steps.takes

  pub registers-enters : (run after : RegValue) (command : Command) (response : Response) (slot generation : ℕ) → IsId setting.host
      → Registers setting d run → Steps now run after command response (Some (ends.Registered slot generation))
      → HasEntered (noted setting.geom d now command response) command slot generation
  registers-enters run after command response slot generation id registers steps =
      let is = at-stage run after command response (Some (ends.Registered slot generation)) registers steps in
      enters-at run.stage after command response slot generation id is.0 is.1

  -- and ends in no other way than these
  pub registers-ends : (run after : RegValue) (command : Command) (response : Response) (end : RegEnd)
      → Registers setting d run → Steps now run after command response (Some end) → IsEnterEnd end
  registers-ends run after command response end registers steps =
      by_end end (subst (λ w. reg.Told after.geom after.host w (shown command response) end) (steps.wants ∙ registers.wants)
      (steps.leads d.exchanges registers.agrees).0)
    where
      by_end : (end : RegEnd) → reg.Told after.geom after.host wants.Enter (shown command response) end → IsEnterEnd end
      by_end (ends.Registered slot generation) told = tt
      by_end ends.NoSlot told = tt
      by_end (ends.Raced slot) told = tt
      by_end ends.Beaten told = told
      by_end ends.Left told = told
      by_end (ends.Fenced offset) told = told
      by_end (ends.Damaged at) told = tt
      by_end ends.Faulted told = tt
