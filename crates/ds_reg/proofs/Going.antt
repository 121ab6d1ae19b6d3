-- Where each response leads.
use Rattle.std.proofs.Common.{◌≡◌, ◌≢◌, ℕ, ◌+◌, ◌<◌, inl, inr, Bool, true, false, List, [], ◌∷◌, Some, None}
use Rattle.std.proofs.Common.{refl, sym, ap, subst, ◌∙◌, arith}
use Rattle.std.specs.List.{Contains}
use Rattle.std.proofs.lemmas.Bool.{cases_eq, cases_lt}
use Rattle.ds_base.specs.Exchanges.{Exchange, missed_at, seen_of}
use Rattle.ds_base.specs.declared.commands.Command.{Command}
use Rattle.ds_base.specs.declared.commands.Command.TheVariants.{Read, Swap}
use Rattle.ds_base.specs.declared.commands.Response.{Response}
use Rattle.ds_base.specs.declared.commands.Response.TheVariants.{Got, Done, Miscompare, Fault}
use Rattle.ds_base.specs.Geometry.{IsGeom}
use Rattle.ds_base.specs.declared.geometry.Geom.{Geom}
use Rattle.ds_base.specs.declared.geometry.GeomField.TheVariants.{Slots}
use Rattle.ds_base.specs.declared.sectors.Sector.{Sector}
use Rattle.ds_marks.specs.SlotIn.{slot_in}
use Rattle.ds_marks.specs.declared.slot.Slot.{Slot}
use Rattle.ds_marks.specs.declared.slot.SlotState.TheVariants.{Free}
use Rattle.ds_reg.specs.Registering.{Entered, HasFaulted, IsDamaged, IsPassed, Missed, MissedTwice, entered_from, slot_sector}
use Rattle.ds_marks.proofs.SlotIn.{slot_in-is}
use Rattle.ds_reg.specs.declared.calls.RegCall.{RegCall}
use Rattle.ds_reg.specs.Stages.{FitsGoing, GoesTo, HasStage, Passes, HasMissed, HasMissedBefore, image_sector}
use Rattle.ds_reg.specs.Stages.{IsEntering, IsLooking, IsUntried, MissedBefore}
use Rattle.ds_reg.specs.declared.calls.RegCall.TheVariants as calls
use Rattle.ds_reg.specs.declared.steps.Stage.TheVariants as stages
use Rattle.ds_reg.specs.declared.steps.Went.{Went}
use Rattle.ds_reg.specs.declared.steps.Went.TheVariants as went
use Rattle.ds_reg.proofs.Showing.{Contains-first, Contains-none, count-missed, last-now, missed-later, passed-missed, passed-now}
use Rattle.ds_reg.proofs.Showing.{passed-read, sectors-apart, undone-past, untried-past, untried-unmissed}

pub faulted : (command : Command) (tick : ℕ) (xs : List Exchange) → HasFaulted (record { command = command; response = Fault; tick = tick }
    ∷ xs)
faulted command tick xs = record {
  newest = record { command = command; response = Fault; tick = tick };
  earlier = xs;
  parts = refl;
  failed = refl;
}

-- at first no slot was passed
pub begun : (g : Geom) → IsGeom g → IsLooking g [] 0
begun g is = record {
  within = omega (arith, (is Slots).0);
  passed = λ before less. absurd (let none : ⊥ = omega (
    arith,
    less,
  ) in none);
  untried = λ after less x has. absurd (Contains-none x has);
  nothing_done = λ x has. absurd (Contains-none x has);
}

pub begun-fits : (g : Geom) (call : RegCall) → IsGeom g → call ≡ calls.Enter → (0 < g.slots) × (call ≡ calls.Enter)
begun-fits g call is e = (omega (arith, (is Slots).0), e)

pub begun-by : (g : Geom) (call : RegCall) → IsGeom g → call ≡ calls.Enter → HasStage g call (stages.Looking 0 false) []
begun-by g call is e = subst (λ (c : RegCall). HasStage g c (stages.Looking 0 false) []) (sym e) (
  begun g is,
  λ x has. absurd
      (Contains-none x has),
)

-- a free slot that was read can be entered
pub enters-fits : (g : Geom) (slot : ℕ) (s : Sector) (found : Slot) (missed : Bool) → slot < g.slots → slot_in slot s.bytes ≡ Some found
    → found.state ≡ Free
    → FitsGoing g calls.Enter (went.On (stages.Entering slot s found missed))
enters-fits g slot s found missed within spelled free =
    ((within, (slot_in-is slot s.bytes found spelled).0, free, refl), λ same. absurd cc)

module _ (g : Geom) (xs : List Exchange) (slot tick : ℕ) where
  abbrev read : Sector → List Exchange
  read s = record { command = Read (slot_sector g slot); response = Got s; tick = tick } ∷ xs

  pub damaged : (s : Sector) → slot < g.slots → slot_in slot s.bytes ≡ None → IsDamaged g (read s) (slot_sector g slot)
  damaged s within none = record {
    slot = slot;
    within = within;
    here = refl;
    sector = s;
    tick = tick;
    earlier = xs;
    newest = refl;
    none = none;
  }

  untried-read : (s : Sector) (after : ℕ) → slot < after → IsLooking g xs slot → IsUntried (read s) (slot_sector g after)
  untried-read s after less looking =
      untried-past xs (record { command = Read (slot_sector g slot); response = Got s; tick = tick }) (slot_sector g after)
      (sectors-apart g slot after (λ same. omega (arith, same, less))) (looking.untried after less)

  undone-read : (s : Sector) → IsLooking g xs slot → (x : Exchange) → Contains (read s) x → x.response ≢ Done
  undone-read s looking =
      undone-past xs (record { command = Read (slot_sector g slot); response = Got s; tick = tick }) (λ done. absurd cc)
      looking.nothing_done

  looking-on : (s : Sector) → IsLooking g xs slot → IsLooking g (read s) slot
  looking-on s looking = record {
    within = looking.within;
    passed = λ before less. passed-read g xs tick before slot s less (looking.passed before less);
    untried = λ after less. untried-read s after less looking;
    nothing_done = undone-read s looking;
  }

  missed-before : (s : Sector) (missed : Bool) → HasMissed g xs slot missed → HasMissedBefore g (read s) slot s missed
  missed-before s false none = untried-unmissed (slot_sector g slot) xs none
  missed-before s true has = record {
    one = has.0;
    first = missed-later g xs tick (record { command = Read (slot_sector g slot); response = Got s; tick = tick }) slot has.1;
    again = Contains-first (slot_sector g slot, s) (seen_of has.1.later);
  }

  -- a free slot is entered next
  pub enters-next : (s : Sector) (found : Slot) (missed : Bool) → slot_in slot s.bytes ≡ Some found → found.state ≡ Free
      → IsLooking g xs slot → HasMissed g xs slot missed → IsEntering g (read s) slot s found × HasMissedBefore g (read s) slot s missed
  enters-next s found missed spelled free looking has = (
    record { looking = looking-on s looking; last = last-now (seen_of xs) (slot_sector g slot) s; spelled = spelled; free = free },
    missed-before s missed has,
  )

  passed-all : (s : Sector) (found : Slot) → slot_in slot s.bytes ≡ Some found → found.state ≢ Free → IsLooking g xs slot
      → (other : ℕ) → other < slot + 1 → IsPassed g (read s) other
  passed-all s found spelled taken looking other less = elim (cases_lt other slot) [
    | inl before ↦ passed-read g xs tick other slot s before (looking.passed other before)
    | inr from ↦
        let same : slot ≡ other = omega (arith, from, less) in
        subst (IsPassed g (read s)) same (passed-now g xs tick slot s found spelled taken)
  ]

  -- where it was the last slot, none is free
  pub none-free : (s : Sector) (found : Slot) → slot_in slot s.bytes ≡ Some found → found.state ≢ Free → slot + 1 ≡ g.slots
      → IsLooking g xs slot
      → (other : ℕ) → other < g.slots → IsPassed g (read s) other
  none-free s found spelled taken end looking other less = passed-all s found spelled taken looking other (omega (arith, less, end))

  -- otherwise the next slot is read
  pub looks-next : (s : Sector) (found : Slot) → slot_in slot s.bytes ≡ Some found → found.state ≢ Free → slot + 1 ≢ g.slots
      → IsLooking g xs slot
      → IsLooking g (read s) (slot + 1) × HasMissed g (read s) (slot + 1) false
  looks-next s found spelled taken more looking = (
    record {
      within = omega (arith, looking.within, more);
      passed = λ other less. passed-all s found spelled taken looking other less;
      untried = λ after less. untried-read s after (omega (arith, less)) looking;
      nothing_done = undone-read s looking;
    },
    untried-read s (slot + 1) (omega arith) looking,
  )

  -- past a slot that isn't free
  pub passes : (host : List ℕ) (s : Sector) (found : Slot) (next : Went) → slot_in slot s.bytes ≡ Some found → found.state ≢ Free
      → IsLooking g xs slot
      → Passes g slot next → GoesTo g host calls.Enter next (read s)
  passes host s found next spelled taken looking is = elim (cases_eq (slot + 1) g.slots) [
    | inl end ↦ subst (λ n. GoesTo g host calls.Enter n (read s)) (sym (is.last end)) (none-free s found spelled taken end looking)
    | inr more ↦ subst (λ n. GoesTo g host calls.Enter n (read s)) (sym (is.more more)) (looks-next s found spelled taken more looking)
  ]

  module _ (host : List ℕ) (image : Sector) (found : Slot) (entering : IsEntering g xs slot image found) where
    abbrev fresh : Sector
    fresh = image_sector slot (entered_from host found)

    abbrev swapped : Response → List Exchange
    swapped response = record { command = Swap (slot_sector g slot) image fresh; response = response; tick = tick } ∷ xs

    pub has-entered : Entered g host (swapped Done) slot found.generation
    has-entered = record {
      verify = image;
      fresh = fresh;
      tick = tick;
      earlier = xs;
      newest = refl;
      enters = record {
        within = entering.looking.within;
        last = entering.last;
        old = found;
        was = entering.spelled;
        free = entering.free;
        is = refl;
      };
      same_generation = refl;
    }

    module _ (offset : ℕ) where
      abbrev missed-now : Missed g (swapped (Miscompare offset)) slot
      missed-now = record {
        later = [];
        verify = image;
        fresh = fresh;
        offset = offset;
        tick = tick;
        earlier = xs;
        parts = refl;
        last = entering.last;
      }

      -- the second that misses ends the run
      pub missed-twice : MissedBefore g xs slot image → MissedTwice g (swapped (Miscompare offset)) slot
      missed-twice before = record {
        second = missed-now;
        newest = refl;
        first = before.first;
        again = before.again;
        two = count-missed g xs tick (slot_sector g slot) offset image fresh ∙ ap (λ (n : ℕ). n + 1) before.one;
      }

      -- after the first the slot is read again
      pub looks-again : missed_at (slot_sector g slot) xs ≡ 0
          → IsLooking g (swapped (Miscompare offset)) slot × HasMissed g (swapped (Miscompare offset)) slot true
      looks-again none = (
        record {
          within = entering.looking.within;
          passed = λ before less. passed-missed g xs tick (slot_sector g slot) before offset image fresh (entering.looking.passed before
              less);
          untried = λ after less.
              untried-past xs (record { command = Swap (slot_sector g slot) image fresh; response = Miscompare offset; tick = tick })
              (slot_sector g after)
              (sectors-apart g slot after (λ same. omega (arith, same, less))) (entering.looking.untried after less);
          nothing_done =
              undone-past xs (record { command = Swap (slot_sector g slot) image fresh; response = Miscompare offset; tick = tick })
              (λ done. absurd cc) entering.looking.nothing_done;
        },
        (count-missed g xs tick (slot_sector g slot) offset image fresh ∙ ap (λ (n : ℕ). n + 1) none, missed-now),
      )

    -- the same of the response that came

    pub entered-by : (response : Response) → response ≡ Done → Entered g host (swapped response) slot found.generation
    entered-by response is = subst (λ r. Entered g host (swapped r) slot found.generation) (sym is) has-entered

    pub twice-by : (response : Response) (offset : ℕ) → response ≡ Miscompare offset → (missed : Bool) → missed ≡ true
        → HasMissedBefore g xs slot image missed → MissedTwice g (swapped response) slot
    twice-by response offset is true e before = subst (λ r. MissedTwice g (swapped r) slot) (sym is) (missed-twice offset before)
    twice-by response offset is false e before = absurd cc

    pub again-by : (response : Response) (offset : ℕ) → response ≡ Miscompare offset → (missed : Bool) → missed ≡ false
        → HasMissedBefore g xs slot image missed → IsLooking g (swapped response) slot × HasMissed g (swapped response) slot true
    again-by response offset is false e none =
        subst (λ r. IsLooking g (swapped r) slot × HasMissed g (swapped r) slot true) (sym is) (looks-again offset none)
    again-by response offset is true e none = absurd cc
