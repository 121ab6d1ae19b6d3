-- How a pass grows, and what a Swap that misses makes of it.
use Rattle.std.proofs.Common.{◌≡◌, ℕ, ◌^◌, ◌<◌, ◌⊎◌, inl, inr, Bool, true, false, List, [], ◌∷◌, ◌++◌, Option, Some, None, refl, sym, ap, subst, ◌∙◌, append_assoc}
use Rattle.ds_base.specs.Exchanges.{Exchange, IsLast, seen_of}
use Rattle.ds_base.specs.declared.commands.Command.TheVariants.{Swap}
use Rattle.ds_base.specs.declared.commands.Response.TheVariants.{Miscompare}
use Rattle.ds_marks.specs.declared.header.Header.{Header}
use Rattle.ds_marks.specs.declared.slot.Slot.{Slot}
use Rattle.ds_watch.specs.Notes.{Note}
use Rattle.ds_lock.specs.Locking.{Cause, HasNoMiss, IsNoMiss, IsOwnedBy, IsRaced, IsSlotShown, IsToBreak, IsUnshown, Misses, Over, slot_image, slot_sector}
use Rattle.ds_lock.specs.Stages.{Agrees, FitsWent, HasEnded, HasFreed, HasMissed, HasSeen, IsPass, Leads, LockValue, StandsAfter, Told}
use Rattle.ds_lock.specs.declared.ends.LockEnd.{LockEnd}
use Rattle.ds_lock.specs.declared.ends.LockEnd.TheVariants as ends
use Rattle.ds_lock.specs.declared.how.How.TheVariants as hows
use Rattle.ds_lock.specs.declared.steps.Stage.{Stage}
use Rattle.ds_lock.specs.declared.steps.Stage.TheVariants as stages
use Rattle.ds_lock.specs.declared.steps.Wanted.{Wanted}
use Rattle.ds_lock.specs.declared.steps.Went.TheVariants as went
use Rattle.ds_lock.proofs.Shown.{last-lifts, last-stays, read-shown, shown-more}

none-missed : (xs ys : List Exchange) → HasNoMiss xs → HasNoMiss ys → HasNoMiss (xs ++ ys)
none-missed [] ys none nor = nor
none-missed (x ∷ xs) ys none nor = (none.0, none-missed xs ys none.1 nor)

-- exchanges of which none missed lengthen the pass
pub grown : (w : Wanted) (missed : Bool) (more xs pass : List Exchange) → HasNoMiss more → IsPass w missed xs pass
    → IsPass w missed (more ++ xs) (more ++ pass)
grown w false more xs pass none is = (ap (λ (l : List Exchange). more ++ l) is.0, none-missed more pass none is.1)
grown w true more xs pass none is = record {
  first = is.first;
  earlier = is.earlier;
  parts = ap (λ (l : List Exchange). more ++ l) is.parts ∙ sym (append_assoc more pass (is.first ∷ is.earlier));
  misses = is.misses;
  none_before = is.none_before;
  none_since = none-missed more pass none is.none_since;
}

-- what the first and the second Swap that misses make of a run
abbrev pub First : Bool → LockValue → Option LockEnd → Type 0
First missed run result = missed ≡ false → (run.missed ≡ true) × (run.stage ≡ stages.Header) × (result ≡ None)

abbrev pub Second : Bool → LockValue → Option LockEnd → Type 0
Second missed run result = missed ≡ true → (run.stage ≡ stages.Over) × (result ≡ Some (ends.Busy hows.Raced))

module _ (w : Wanted) (notes : List Note) (now : ℕ) (x : Exchange) (xs pass : List Exchange) where
  longer : (missed : Bool) → IsNoMiss x.response → IsPass w missed xs pass → IsPass w missed (x ∷ xs) (x ∷ pass)
  longer missed none is = grown w missed (x ∷ []) xs pass (none, tt) is

  pub on-leads : (missed : Bool) (stage : Stage) → IsPass w missed xs pass → IsNoMiss x.response × HasSeen w stage (x ∷ pass)
      → Agrees (record { wanted = w; missed = missed; stage = stage }) (x ∷ xs)
  on-leads missed stage is seen = record { pass = x ∷ pass; is_pass = longer missed seen.0 is; seen = seen.1 }

  abbrev over : Bool → LockValue
  over missed = record { wanted = w; missed = missed; stage = stages.Over }

  has-ended : (missed : Bool) (end : LockEnd) → IsPass w missed xs pass → IsNoMiss x.response × Cause w notes now (x ∷ pass) end
      → HasEnded (over missed) notes now (x ∷ xs) end
  has-ended missed end is cause = record { pass = x ∷ pass; is_pass = longer missed cause.0 is; cause = cause.1 }

  pub ended-leads : (missed : Bool) (end : LockEnd) → IsPass w missed xs pass → FitsWent w (went.Ended end)
      → IsNoMiss x.response × Cause w notes now (x ∷ pass) end
      → Told (over missed) notes now (x ∷ xs) end × StandsAfter (over missed) (x ∷ xs) end
  ended-leads missed ends.Got is fits cause = (has-ended missed ends.Got is cause, refl)
  ended-leads missed (ends.Busy (hows.Held slot s)) is fits cause = (has-ended missed (ends.Busy (hows.Held slot s)) is cause, refl)
  ended-leads missed (ends.Busy (hows.Recovering slot s breaker)) is fits cause =
      (has-ended missed (ends.Busy (hows.Recovering slot s breaker)) is cause, refl)
  ended-leads missed (ends.Busy hows.Raced) is fits cause = absurd cause.1
  ended-leads missed (ends.Damaged sector) is fits cause = (has-ended missed (ends.Damaged sector) is cause, refl)
  ended-leads missed ends.WornOut is fits cause = (has-ended missed ends.WornOut is cause, refl)
  ended-leads missed ends.Faulted is fits cause = (has-ended missed ends.Faulted is cause, refl)
  ended-leads missed (ends.NeedsBreak slot s) is fits cause = absurd fits

  breaks : (missed : Bool) (h : Header) (slot : ℕ) (s : Slot) → IsPass w missed xs pass → IsNoMiss x.response × IsToBreak w notes now (x
      ∷ pass) h slot s
      → Leads (record { wanted = w; missed = missed; stage = stages.Broken h slot s }) (Some (ends.NeedsBreak slot s)) notes now (x ∷ xs)
  breaks missed h slot s is to = (
    record { pass = x ∷ pass; is_pass = longer missed to.0 is; cause = (h, to.1) },
    ((h, refl), record { pass = x ∷ pass; is_pass = longer missed to.0 is; seen = (to.1.by, to.1.room) }),
  )

  pub breaks-leads : (missed : Bool) (h : Header) (slot : ℕ) (s : Slot) (run : LockValue) (result : Option LockEnd) → run.wanted ≡ w
      → run.missed ≡ missed
      → run.stage ≡ stages.Broken h slot s → result ≡ Some (ends.NeedsBreak slot s) → IsPass w missed xs pass
      → IsNoMiss x.response × IsToBreak w notes now (x ∷ pass) h slot s → Leads run result notes now (x ∷ xs)
  breaks-leads missed h slot s run result e0 e1 e2 e3 is to =
      subst (λ v. Leads (record { wanted = v; missed = run.missed; stage = run.stage }) result notes now (x ∷ xs)) (sym e0)
      (subst (λ v. Leads (record { wanted = w; missed = v; stage = run.stage }) result notes now (x ∷ xs)) (sym e1)
      (subst (λ v. Leads (record { wanted = w; missed = missed; stage = v }) result notes now (x ∷ xs)) (sym e2)
      (subst (λ v. Leads (record { wanted = w; missed = missed; stage = stages.Broken h slot s }) v notes now (x ∷ xs)) (sym e3)
      (breaks missed h slot s is to))))

  first-missed : IsPass w false xs pass → Misses w x pass → Leads (record { wanted = w; missed = true; stage = stages.Header }) None notes
      now (x ∷ xs)
  first-missed is misses = (
    record {
      pass = [];
      is_pass = record {
        first = x;
        earlier = xs;
        parts = refl;
        misses = subst (Misses w x) (sym is.0) misses;
        none_before = subst HasNoMiss (sym is.0) is.1;
        none_since = tt;
      };
      seen = refl;
    },
    tt,
  )

  raced : IsPass w true xs pass → Misses w x pass → IsRaced w (x ∷ xs)
  raced is misses = record { second = x; rest = xs; newest = refl; pass = pass; since = is; misses = misses }

  pub miss-leads : (missed : Bool) (run : LockValue) (result : Option LockEnd) → run.wanted ≡ w → First missed run result
      → Second missed run result
      → IsPass w missed xs pass → Misses w x pass → Leads run result notes now (x ∷ xs)
  miss-leads false run result e0 first second is misses =
      let e = first refl in
      subst (λ v. Leads (record { wanted = v; missed = run.missed; stage = run.stage }) result notes now (x ∷ xs)) (sym e0)
      (subst (λ v. Leads (record { wanted = w; missed = v; stage = run.stage }) result notes now (x ∷ xs)) (sym e.0)
      (subst (λ v. Leads (record { wanted = w; missed = true; stage = v }) result notes now (x ∷ xs)) (sym e.1)
      (subst (λ v. Leads (record { wanted = w; missed = true; stage = stages.Header }) v notes now (x ∷ xs)) (sym e.2)
      (first-missed is misses))))
  miss-leads true run result e0 first second is misses =
      let e = second refl in
      subst (λ v. Leads (record { wanted = v; missed = run.missed; stage = run.stage }) result notes now (x ∷ xs)) (sym e0)
      (subst (λ v. Leads (record { wanted = w; missed = run.missed; stage = v }) result notes now (x ∷ xs)) (sym e.0)
      (subst (λ v. Leads (record { wanted = w; missed = run.missed; stage = stages.Over }) v notes now (x ∷ xs)) (sym e.1)
      (raced is misses, refl)))

module _ (w : Wanted) (slot : ℕ) (s : Slot) (xs pass broke : List Exchange) (missed : Bool) (is : IsPass w missed xs pass) where
  -- the break of the slot turned it free
  pub freed-agrees : (h : Header) → IsOwnedBy w pass h slot s × (h.generation < 2 ^ 62) → HasFreed w slot s broke
      → Agrees (record { wanted = w; missed = missed; stage = stages.Taking h }) (broke ++ xs)
  freed-agrees h seen freed = record {
    pass = broke ++ pass;
    is_pass = grown w missed broke xs pass freed.none_missed is;
    seen = (
      shown-more w broke pass h freed.apart seen.0.names.shown,
      Over seen.0.owner freed.image seen.0.names.owned
          (subst (λ n. IsSlotShown w (broke ++ pass) n freed.image) (sym seen.0.same_slot) (record {
            within = seen.0.read.within;
            last = last-lifts broke pass (slot_sector w.geom slot) (slot_image slot freed.image) freed.last;
            is_slot = freed.is_slot;
          }))
          (subst (λ g. g < freed.image.generation) seen.0.same_generation freed.over),
      seen.1,
    );
  }

  -- or a Swap of it missed
  pub missed-leads : (h : Header) (run : LockValue) (result : Option LockEnd) → run.wanted ≡ w → First missed run result
      → Second missed run result
      → IsOwnedBy w pass h slot s × (h.generation < 2 ^ 62) → HasMissed w slot s broke → Leads run result [] 0 (broke ++ xs)
  missed-leads h run result e0 first second seen miss =
      subst (λ b. Leads run result [] 0 (b ++ xs)) (sym miss.newest)
      (miss-leads w [] 0 swap (miss.earlier ++ xs) (miss.earlier ++ pass) missed run result e0 first second
      (grown w missed miss.earlier xs pass miss.none_before is)
      (record {
        at = slot_sector w.geom slot;
        verify = miss.verify;
        fresh = miss.fresh;
        offset = miss.offset;
        tick = miss.tick;
        is = refl;
        contended = inr (slot, seen.0.read.within, refl);
        last = verified miss.verified;
      }))
    where
      swap : Exchange
      swap = record { command = Swap (slot_sector w.geom slot) miss.verify miss.fresh; response = Miscompare miss.offset; tick = miss.tick }

      verified : (IsLast (seen_of miss.earlier) (slot_sector w.geom slot) miss.verify)
          ⊎ ((miss.verify ≡ slot_image slot s) × IsUnshown miss.earlier (slot_sector w.geom slot))
          → IsLast (seen_of (miss.earlier ++ pass)) (slot_sector w.geom slot) miss.verify
      verified (inl last) = last-lifts miss.earlier pass (slot_sector w.geom slot) miss.verify last
      verified (inr begun) = last-stays miss.earlier pass (slot_sector w.geom slot) miss.verify begun.1
          (subst (IsLast (seen_of pass) (slot_sector w.geom slot)) (sym begun.0) (read-shown w pass slot s seen.0.read).last)

abbrev header_of : Stage → Header → Header
header_of (stages.Broken h slot s) other = h
header_of stage other = other

-- one break is awaited
pub one-header : (stage : Stage) (h other : Header) (slot at : ℕ) (s image : Slot) → stage ≡ stages.Broken h slot s
    → stage ≡ stages.Broken other at image → h ≡ other
one-header stage h other slot at s image e0 e1 = ap (λ v. header_of v h) (sym e0 ∙ e1)
