-- What a turn changes of what its host holds, has noted and owes: made once, for all that is kept.
use Rattle.std.proofs.Common.{◌≡◌, ◌≢◌, ℕ, ◌+◌, ◌*◌, ◌<◌, ◌≤◌, ◌⊎◌, inl, inr, Bool, true, false, cond, List, [], ◌∷◌, refl, sym, ◌∙◌, ap, subst, arith, Option, Some, None}
use Rattle.std.specs.Prelude.{slice_get, slice_set, ◌==◌}
use Rattle.std.proofs.lemmas.Bool.{eq-eqb, ne_eqb}
use Rattle.ds_base.specs.declared.geometry.Geom.{Geom}
use Rattle.ds_base.specs.declared.sectors.Sector.{Sector}
use Rattle.ds_base.specs.declared.commands.Command.{Command}
use Rattle.ds_base.specs.declared.commands.Command.TheVariants.{Read, Write, Swap}
use Rattle.ds_base.specs.declared.commands.Response.{Response}
use Rattle.ds_base.specs.declared.commands.Response.TheVariants.{Got, Done, Miscompare, Fault}
use Rattle.ds_base.specs.Device.{stored}
use Rattle.ds_marks.specs.Slot.{state_code}
use Rattle.ds_marks.specs.declared.slot.Slot.{Slot}
use Rattle.ds_marks.specs.declared.slot.SlotState.TheVariants.{Free, Live}
use Rattle.ds_conduct.specs.declared.answers.HostAnswer.{HostAnswer}
use Rattle.ds_marks.specs.SlotIn.{slot_in}
use Rattle.ds_log.specs.declared.logs.Step.{Step}
use Rattle.ds_log.specs.declared.logs.Step.TheVariants.{Local, Sent}
use Rattle.ds_log.specs.Store.{after_step}
use Rattle.ds_conduct.specs.Digests.{Digest, Own, is_some, own_after, own_swapped, own_swapped_at, own_missed, renewed, entered, commits_with, noted_of, noted_at, owed_swapped, owed_in, owed_by, kept_under, noted, dropped, told, told_by, is_lease_lost, lost}
use Rattle.ds_base.specs.Exchanges.{seen_of}
use Rattle.ds_conduct.specs.Guards.{MaySwap, Enter, Leave, Beat, Commit, Retire, Break, Clear, Lock, GiveBack, Enters, Leaves, Renews, SwapsHeader, SwapsSlot}
use Rattle.ds_marks.specs.HeaderIn.{header_in}
use Rattle.ds_conduct.specs.Settings.{Setting}
use Rattle.ds_conduct.specs.Marks.{slot_number, phase_at}
use Rattle.ds_conduct.proofs.Places.{header-beyond, slot_number-of, slot_number-beyond, slot_number-is}
use Rattle.ds_log.specs.Turns.{Part, Begins, Goes, Aside, Turn, started, stood, stepped, turned}
use Rattle.ds_log.specs.Histories.{Obeys, IsSent}
use Rattle.ds_log.specs.Effects.{SlotMove, HoldsGeneration, IsFresh, OwnChange, SameOwn, NoOwn, FreshOwn, NoteChange, SameNotes, NoNotes, OneNote, OwedChange, SameOwed, NoOwed, OneOwed, LessOwed, SeenChange, SameSeen, NoSeen, OneSeen}
use Rattle.ds_image_parts.proofs.Journaling.LaidOver.{slice_get-set_other}
use Rattle.ds_log_slots.proofs.Lists.{slice_get-set_found}
use Rattle.ds_log_slots.proofs.Moves.{move-of}
use Rattle.ds_log_slots.proofs.Steps.{write-beyond, done-effect, missed-effect, phase_at-is, rank_at-is}

module _ (setting : Setting) (d : Digest) (now : ℕ) where
  -- a Swap at a slot's sector that isn't the own one leaves the own sector
  other-slot : (old new : List Sector) (at a : ℕ) (fresh : Sector) (own : Own) → d.own ≡ Some own → own.slot ≢ a → at ≡ 2 + a
      → new ≡ slice_set old at fresh
      → (o : Own) → d.own ≡ Some o → slice_get new (2 + o.slot) ≡ slice_get old (2 + o.slot)
  other-slot old new at a fresh own holds other place is o e =
      ap (λ s. slice_get s (2 + o.slot)) is
      ∙ slice_get-set_other old at (2 + o.slot) fresh (λ k. other (let x : own
      ≡ o = cc in let s = ap (λ (o : Own). o.slot) x in omega arith))

  -- a header's Swap leaves all slots
  off-slots : (old new : List Sector) (at : ℕ) (fresh : Sector) → 2 + setting.geom.slots ≤ at → new ≡ slice_set old at fresh → (a : ℕ)
      → a < setting.geom.slots → slice_get new (2 + a) ≡ slice_get old (2 + a)
  off-slots old new at fresh beyond is a within = ap (λ s. slice_get s (2 + a)) is
      ∙ slice_get-set_other old at (2 + a) fresh (λ k. omega arith)

  header-at : (at : ℕ) (verify fresh : Sector) → SwapsHeader setting.geom at verify fresh → 2 + setting.geom.slots ≤ at
  header-at at verify fresh w = let place = w.place in let b = header-beyond setting.geom w.object in omega arith

  -- own_after at a Swap of a slot's sector that was done
  pub at-slot : (own : Option Own) (at a : ℕ) (verify fresh : Sector) → a < setting.geom.slots → at ≡ 2 + a
      → own_swapped own (slot_number setting.geom at) now verify fresh ≡ own_swapped_at own a now verify fresh
  at-slot own at a verify fresh within place = ap (λ k. own_swapped own k now verify fresh) (ap (slot_number setting.geom) place
      ∙ slot_number-of setting.geom a within)

  at-beyond : (own : Option Own) (at : ℕ) (verify fresh : Sector) → 2 + setting.geom.slots ≤ at
      → own_swapped own (slot_number setting.geom at) now verify fresh ≡ own
  at-beyond own at verify fresh beyond = ap (λ k. own_swapped own k now verify fresh) (slot_number-beyond setting.geom at beyond)

  -- the own slot's image after a Swap
  own-at : (own : Own) (verify fresh : Sector) (s : Slot) → slot_in own.slot fresh.bytes ≡ Some s
      → own_swapped_at (Some own) own.slot now verify fresh ≡ renewed own now fresh (commits_with own.slot own.commits verify fresh)
      (Some s)
  own-at own verify fresh s spelled =
      ap (λ b. cond b (renewed own now fresh (commits_with own.slot own.commits verify fresh) (slot_in own.slot fresh.bytes))
      (Some own)) (eq-eqb own.slot own.slot refl)
      ∙ ap (renewed own now fresh (commits_with own.slot own.commits verify fresh)) spelled

  renewed-live : (own : Own) (fresh : Sector) (commits : ℕ) (s : Slot) → s.state ≡ Live
      → renewed own now fresh commits (Some s)
      ≡ Some (record { slot = own.slot; generation = own.generation; image = fresh; last = now; commits = commits })
  renewed-live own fresh commits s live = ap (λ t. renewed own now fresh commits (Some
      (record { state = t; generation = s.generation; host = s.host; stamp = s.stamp; journal = s.journal }))) live

  renewed-free : (own : Own) (fresh : Sector) (commits : ℕ) (s : Slot) → s.state ≡ Free → renewed own now fresh commits (Some s) ≡ None
  renewed-free own fresh commits s free = ap (λ t. renewed own now fresh commits (Some
      (record { state = t; generation = s.generation; host = s.host; stamp = s.stamp; journal = s.journal }))) free

  pub entered-live : (a : ℕ) (fresh : Sector) (s : Slot) → s.state ≡ Live
      → entered a now fresh (Some s) ≡ Some (record { slot = a; generation = s.generation; image = fresh; last = now; commits = 0 })
  entered-live a fresh s live = ap (λ t. entered a now fresh (Some
      (record { state = t; generation = s.generation; host = s.host; stamp = s.stamp; journal = s.journal }))) live

  module _ (old new : List Sector) (at : ℕ) (verify fresh : Sector) (found : slice_get old at ≡ Some verify)
      (set : new ≡ slice_set old at fresh) (d' : Digest)
      (after : d'.own ≡ own_swapped d.own (slot_number setting.geom at) now verify fresh) where
    there-at : (a : ℕ) → at ≡ 2 + a → slice_get new (2 + a) ≡ Some fresh
    there-at a place = ap (slice_get new) (sym place) ∙ ap (λ s. slice_get s at) set ∙ slice_get-set_found old at verify fresh found

    found-at : (a : ℕ) → at ≡ 2 + a → slice_get old (2 + a) ≡ Some verify
    found-at a place = ap (slice_get old) (sym place) ∙ found

    fresh-own : (o : Own) (x y : Slot) → o.slot < setting.geom.slots → at ≡ 2 + o.slot → o.image ≡ fresh → o.last ≡ now
        → slot_in o.slot verify.bytes ≡ Some x → slot_in o.slot fresh.bytes ≡ Some y
        → y.state ≡ Live → y.generation ≡ o.generation → SlotMove d o.slot verify x y
        → (HoldsGeneration d o.slot o.generation ⊎ ((d.own ≡ None) × (phase_at old o.slot ≡ 3 * o.generation)))
        → IsFresh setting.geom d now old new o
    fresh-own o x y within place image last was is live gens move from =
        let r = rank_at-is old o.slot verify x (found-at o.slot place) was in
        let n = move.newer live in
        record {
          within = within;
          last = last;
          slot = y;
          spelled = ap (λ (s : Sector). slot_in o.slot s.bytes) image ∙ is;
          live = live;
          generation = gens;
          higher = omega arith;
          there = there-at o.slot place ∙ ap Some (sym image);
          from = from;
        }

    renew-change : MaySwap setting d now at verify fresh → Renews setting d now at verify fresh → OwnChange setting.geom now old new d d'
    renew-change may r =
        let w = r.swap in
        let own = w.own in
        let commits = commits_with own.slot own.commits verify fresh in
        let o : Own = record { slot = own.slot; generation = own.generation; image = fresh; last = now; commits = commits } in
        let m = move-of setting d now own.slot verify fresh w.within (subst (λ k. MaySwap setting d now k verify fresh) w.place may) in
        let x : m.old ≡ w.old = (let p = m.was in let q = w.was in cc) in
        let y : m.new ≡ w.new = (let p = m.is in let q = w.is in cc) in
        FreshOwn o
        (after ∙ at-slot d.own at own.slot verify fresh w.within w.place ∙ ap (λ o. own_swapped_at o own.slot now verify fresh) w.holds
        ∙ own-at own verify fresh w.new w.is ∙ renewed-live own fresh commits w.new r.live)
        (fresh-own o m.old m.new w.within w.place refl refl m.was m.is (ap (λ (s : Slot). s.state) y ∙ r.live)
        (ap (λ (s : Slot). s.generation) y ∙ r.same_generation
        ∙ w.was_own) m.move (inl (record { own = own; holds = w.holds; same_slot = refl; same_generation = refl })))

    enter-change : MaySwap setting d now at verify fresh → Enters setting d now at verify fresh → OwnChange setting.geom now old new d d'
    enter-change may r =
        let w = r.swap in
        let o : Own = record { slot = w.slot; generation = w.new.generation; image = fresh; last = now; commits = 0 } in
        let m = move-of setting d now w.slot verify fresh w.within (subst (λ k. MaySwap setting d now k verify fresh) w.place may) in
        let x : m.old ≡ w.old = (let p = m.was in let q = w.was in cc) in
        let y : m.new ≡ w.new = (let p = m.is in let q = w.is in cc) in
        let p = phase_at-is old w.slot verify w.old (found-at w.slot w.place) w.was in
        let free = ap state_code r.was_free in
        let gens = r.same_generation in
        FreshOwn o
        (after ∙ at-slot d.own at w.slot verify fresh w.within w.place ∙ ap (λ o. own_swapped_at o w.slot now verify fresh) r.none
        ∙ ap (entered w.slot now fresh) w.is ∙ entered-live w.slot fresh w.new r.live)
        (fresh-own o m.old m.new w.within w.place refl refl m.was m.is (ap (λ (s : Slot). s.state) y ∙ r.live)
        (ap (λ (s : Slot). s.generation) y) m.move (inr (r.none, omega arith)))

    leave-change : Leaves setting d now at verify fresh → OwnChange setting.geom now old new d d'
    leave-change r =
        let w = r.swap in
        NoOwn (after ∙ at-slot d.own at w.own.slot verify fresh w.within w.place
        ∙ ap (λ o. own_swapped_at o w.own.slot now verify fresh) w.holds
        ∙ own-at w.own verify fresh w.new w.is ∙ renewed-free w.own fresh (commits_with w.own.slot w.own.commits verify fresh) w.new r.free)

    other-change : (own : Own) → d.own ≡ Some own → (w : SwapsSlot setting.geom d.exchanges at verify fresh) → own.slot ≢ w.slot
        → OwnChange setting.geom now old new d d'
    other-change own holds w other =
        SameOwn
        (after ∙ at-slot d.own at w.slot verify fresh w.within w.place ∙ ap (λ o. own_swapped_at o w.slot now verify fresh) holds
        ∙ ap (λ b. cond b (renewed own now fresh (commits_with w.slot own.commits verify fresh) (slot_in w.slot fresh.bytes))
        (Some own)) (ne_eqb own.slot w.slot other) ∙ sym holds)
        (λ o e within. other-slot old new at w.slot fresh own holds other w.place set o e)

    header-change : SwapsHeader setting.geom at verify fresh → OwnChange setting.geom now old new d d'
    header-change w =
        let beyond = header-at at verify fresh w in
        SameOwn (after ∙ at-beyond d.own at verify fresh beyond) (λ o e within. off-slots old new at fresh beyond set o.slot within)

    swap-change : MaySwap setting d now at verify fresh → OwnChange setting.geom now old new d d'
    swap-change (Enter r) = enter-change (Enter r) r
    swap-change (Leave r) = leave-change r
    swap-change (Beat r) = renew-change (Beat r) r.renewal
    swap-change (Commit r) = renew-change (Commit r) r.renewal
    swap-change (Retire r) = renew-change (Retire r) r.renewal
    swap-change (Break r) = other-change r.own r.holds r.swap r.other
    swap-change (Clear r) = other-change r.own r.holds r.swap r.other
    swap-change (Lock r) = header-change r.swap
    swap-change (GiveBack r) = header-change r.swap

  cond-change : (old new : List Sector) (b : Bool) (own : Option Own) (d' : Digest) → new ≡ old → d'.own ≡ cond b None own
      → own ≡ d.own → OwnChange setting.geom now old new d d'
  cond-change old new true own d' same after is = NoOwn after
  cond-change old new false own d' same after is = SameOwn (after ∙ is) (λ o e within. ap (λ s. slice_get s (2 + o.slot)) same)

  missed-change : (old new : List Sector) (own : Option Own) (slot : Option ℕ) (d' : Digest) → new ≡ old → own ≡ d.own
      → d'.own ≡ own_missed own slot → OwnChange setting.geom now old new d d'
  missed-change old new own None d' same is after = SameOwn (after ∙ is) (λ o e within. ap (λ s. slice_get s (2 + o.slot)) same)
  missed-change old new None (Some a) d' same is after = NoOwn after
  missed-change old new (Some own) (Some a) d' same is after = cond-change old new (own.slot == a) (Some own) d' same after is

  miss-change : (old new : List Sector) (in_tail : Bool) (slot : Option ℕ) (d' : Digest) → new ≡ old
      → d'.own ≡ cond in_tail None (own_missed d.own slot) → OwnChange setting.geom now old new d d'
  miss-change old new true slot d' same after = NoOwn after
  miss-change old new false slot d' same after = missed-change old new d.own slot d' same refl after

  -- a step of a call
  sent-change : (old : List Sector) (under : Option (ℕ × ℕ)) (c : Command) (r : Response) (landed took : Bool)
      → IsSent setting d now old under c r landed took
      → OwnChange setting.geom now old (after_step old (Sent under c r landed took)) d (noted setting.geom d now c r)
  sent-change old under (Read at) (Got s) true took sent = SameOwn refl (λ o e within. refl)
  sent-change old under (Read at) (Got s) false took sent = SameOwn refl (λ o e within. refl)
  sent-change old under (Read at) Done landed took sent = NoOwn refl
  sent-change old under (Read at) (Miscompare offset) landed took sent = NoOwn refl
  sent-change old under (Read at) Fault landed took sent = NoOwn refl
  sent-change old under (Write at fresh) Done landed took sent =
      SameOwn refl (λ o e within. write-untouched landed o.slot within)
    where
      write-untouched : (landed : Bool) (a : ℕ) → a < setting.geom.slots
          → slice_get (after_step old (Sent under (Write at fresh) Done landed took)) (2 + a) ≡ slice_get old (2 + a)
      write-untouched false a within = refl
      write-untouched true a within = let b = write-beyond setting d now at fresh sent.sends.may in slice_get-set_other old at
          (2 + a) fresh (λ k. omega arith)
  sent-change old under (Write at fresh) (Got s) landed took sent = NoOwn refl
  sent-change old under (Write at fresh) (Miscompare offset) landed took sent = NoOwn refl
  sent-change old under (Write at fresh) Fault landed took sent = NoOwn refl
  sent-change old under (Swap at verify fresh) (Got s) landed took sent = NoOwn refl
  sent-change old under (Swap at verify fresh) Fault landed took sent = NoOwn refl
  sent-change old under (Swap at verify fresh) (Miscompare offset) false took sent = miss-change old old (is_some d.answer)
      (slot_number setting.geom at) (noted setting.geom d now (Swap at verify fresh) (Miscompare offset)) refl refl
  sent-change old under (Swap at verify fresh) (Miscompare offset) true took sent =
      elim sent.responds [
        | inl h ↦ miss-change old (stored old (Swap at verify fresh)) (is_some d.answer) (slot_number setting.geom at)
            (noted setting.geom d now (Swap at verify fresh) (Miscompare offset)) (missed-effect old at verify fresh offset h.1) refl
        | inr h ↦ cc
      ]
  sent-change old under (Swap at verify fresh) Done false took sent = absurd (elim sent.responds [ inl h ↦ cc | inr h ↦ cc ])
  sent-change old under (Swap at verify fresh) Done true took sent =
      elim sent.responds [
        | inl h ↦ let e = done-effect old at verify fresh h.1 in
            swap-change old (stored old (Swap at verify fresh)) at verify fresh e.0 e.1 (noted setting.geom d now
            (Swap at verify fresh) Done) refl sent.sends.may
        | inr h ↦ cc
      ]

-- what an answer, a death and an event without a command leave of a digest
pub data Ending (x y : Digest) : Type 0 where
  Stayed : y.own ≡ x.own → y.owed ≡ x.owed → y.notes ≡ x.notes → y.exchanges ≡ x.exchanges → Ending x y
  WentDown : y.own ≡ None → y.owed ≡ [] → y.notes ≡ x.notes → y.exchanges ≡ x.exchanges → Ending x y
  Died : y.own ≡ None → y.owed ≡ [] → y.notes ≡ [] → y.exchanges ≡ [] → Ending x y

cond-ending : (x z : Digest) (b : Bool) → z.own ≡ x.own → z.owed ≡ x.owed → z.notes ≡ x.notes → z.exchanges ≡ x.exchanges
    → Ending x (cond b (dropped z) z)
cond-ending x z true own owed notes exchanges = WentDown refl refl notes exchanges
cond-ending x z false own owed notes exchanges = Stayed own owed notes exchanges

told-ending : (x : Digest) (answer : Option HostAnswer) → Ending x (told answer x)
told-ending x None = Stayed refl refl refl refl
told-ending x (Some answer) = cond-ending x (told_by answer x) (is_lease_lost answer) refl refl refl refl

pub ending-of : (x : Digest) (answer : Option HostAnswer) (dies : Bool) → Ending x (lost dies (told answer x))
ending-of x answer true = Died refl refl refl refl
ending-of x answer false = told-ending x answer

stood-ending : (x : Digest) (part : Part) → Ending x (stood x part)
stood-ending x (Begins call) = Stayed refl refl refl refl
stood-ending x Goes = cond-ending x x (is_some x.answer) refl refl refl refl
stood-ending x Aside = Stayed refl refl refl refl

ended-own : (g : Geom) (now : ℕ) (old new : List Sector) (d x y : Digest) → Ending x y → OwnChange g now old new d x
    → OwnChange g now old new d y
ended-own g now old new d x y (Stayed own owed notes exchanges) (SameOwn same untouched) = SameOwn (own ∙ same) untouched
ended-own g now old new d x y (Stayed own owed notes exchanges) (NoOwn none) = NoOwn (own ∙ none)
ended-own g now old new d x y (Stayed own owed notes exchanges) (FreshOwn o is fresh) = FreshOwn o (own ∙ is) fresh
ended-own g now old new d x y (WentDown own owed notes exchanges) change = NoOwn own
ended-own g now old new d x y (Died own owed notes exchanges) change = NoOwn own

ended-notes : (now : ℕ) (old : List Sector) (d x y : Digest) → Ending x y → NoteChange now old d x → NoteChange now old d y
ended-notes now old d x y (Stayed own owed notes exchanges) (SameNotes same) = SameNotes (notes ∙ same)
ended-notes now old d x y (Stayed own owed notes exchanges) (NoNotes none) = NoNotes (notes ∙ none)
ended-notes now old d x y (Stayed own owed notes exchanges) (OneNote a image found other is) = OneNote a image found other (notes ∙ is)
ended-notes now old d x y (WentDown own owed notes exchanges) (SameNotes same) = SameNotes (notes ∙ same)
ended-notes now old d x y (WentDown own owed notes exchanges) (NoNotes none) = NoNotes (notes ∙ none)
ended-notes now old d x y (WentDown own owed notes exchanges) (OneNote a image found other is) = OneNote a image found other (notes ∙ is)
ended-notes now old d x y (Died own owed notes exchanges) change = NoNotes notes

ended-owed : (setting : Setting) (now : ℕ) (old new : List Sector) (d x y : Digest) → Ending x y → OwedChange setting now old new d x
    → OwedChange setting now old new d y
ended-owed setting now old new d x y (Stayed own owed notes exchanges) (SameOwed same) = SameOwed (owed ∙ same)
ended-owed setting now old new d x y (Stayed own owed notes exchanges) (NoOwed none nothing) = NoOwed (own ∙ none) (owed ∙ nothing)
ended-owed setting now old new d x y (Stayed own owed notes exchanges)
    (OneOwed at verify fresh found there may is) = OneOwed at verify fresh found there may (owed ∙ is)
ended-owed setting now old new d x y (Stayed own owed notes exchanges)
    (LessOwed at verify fresh found there may is) = LessOwed at verify fresh found there may (owed ∙ is)
ended-owed setting now old new d x y (WentDown own owed notes exchanges) change = NoOwed own owed
ended-owed setting now old new d x y (Died own owed notes exchanges) change = NoOwed own owed

ended-seen : (new : List Sector) (d x y : Digest) → Ending x y → SeenChange new d x → SeenChange new d y
ended-seen new d x y (Stayed own owed notes exchanges) (SameSeen same) = SameSeen (ap seen_of exchanges ∙ same)
ended-seen new d x y (Stayed own owed notes exchanges) (NoSeen none) = NoSeen (ap seen_of exchanges ∙ none)
ended-seen new d x y (Stayed own owed notes exchanges) (OneSeen at image there is) = OneSeen at image there (ap seen_of exchanges ∙ is)
ended-seen new d x y (WentDown own owed notes exchanges) (SameSeen same) = SameSeen (ap seen_of exchanges ∙ same)
ended-seen new d x y (WentDown own owed notes exchanges) (NoSeen none) = NoSeen (ap seen_of exchanges ∙ none)
ended-seen new d x y (WentDown own owed notes exchanges) (OneSeen at image there is) = OneSeen at image there (ap seen_of exchanges ∙ is)
ended-seen new d x y (Died own owed notes exchanges) change = NoSeen (ap seen_of exchanges)

module _ (setting : Setting) (d : Digest) (now : ℕ) where
  read-note : (old : List Sector) (at : ℕ) (s : Sector) (slot : Option ℕ) → slot_number setting.geom at ≡ slot
      → slice_get old at ≡ Some s → (d' : Digest) → d'.notes ≡ noted_of d.own slot now s d.notes
      → NoteChange now old d d'
  read-note old at s None number found d' is = SameNotes is
  read-note old at s (Some a) number found d' is = by_own d.own refl is
    where
      there : slice_get old (2 + a) ≡ Some s
      there = let w = slot_number-is setting.geom at a number in ap (slice_get old) (sym w.here) ∙ found

      by_tests : (own : Own) (b : Bool) → d.own ≡ Some own → (own.slot == a) ≡ b
          → d'.notes ≡ cond b d.notes (record { slot = a; image = s; tick = now } ∷ d.notes) → NoteChange now old d d'
      by_tests own true holds test is = SameNotes is
      by_tests own false holds test is =
          OneNote a s there (λ o e same. let x : own ≡ o = cc in let t = eq-eqb own.slot a (ap (λ (o : Own). o.slot) x ∙ same) in cc) is

      by_own : (own : Option Own) → d.own ≡ own → d'.notes ≡ noted_at own a now s d.notes → NoteChange now old d d'
      by_own None holds is = OneNote a s there (λ o e. cc) is
      by_own (Some own) holds is = by_tests own (own.slot == a) holds refl is

  -- what a command adds to the notes
  sent-notes : (old : List Sector) (under : Option (ℕ × ℕ)) (c : Command) (r : Response) (landed took : Bool)
      → IsSent setting d now old under c r landed took
      → NoteChange now old d (noted setting.geom d now c r)
  sent-notes old under (Read at) (Got s) landed took sent =
      elim sent.responds [
        | inl h ↦ read-note old at s (slot_number setting.geom at) refl h.1 (noted setting.geom d now (Read at)
            (Got s)) refl
        | inr h ↦ cc
      ]
  sent-notes old under (Read at) Done landed took sent = SameNotes refl
  sent-notes old under (Read at) (Miscompare offset) landed took sent = SameNotes refl
  sent-notes old under (Read at) Fault landed took sent = SameNotes refl
  sent-notes old under (Write at fresh) (Got s) landed took sent = SameNotes refl
  sent-notes old under (Write at fresh) Done landed took sent = SameNotes refl
  sent-notes old under (Write at fresh) (Miscompare offset) landed took sent = SameNotes refl
  sent-notes old under (Write at fresh) Fault landed took sent = SameNotes refl
  sent-notes old under (Swap at verify fresh) (Got s) landed took sent = SameNotes refl
  sent-notes old under (Swap at verify fresh) Done landed took sent = SameNotes refl
  sent-notes old under (Swap at verify fresh) (Miscompare offset) landed took sent = SameNotes refl
  sent-notes old under (Swap at verify fresh) Fault landed took sent = SameNotes refl

  -- the headers owed, unless the generation is dropped
  kept-owed : (old new : List Sector) (own : Option Own) (d' : Digest) → d'.own ≡ own → d'.owed ≡ kept_under own d.owed
      → OwedChange setting now old new d d'
  kept-owed old new None d' is owed = NoOwed is owed
  kept-owed old new (Some own) d' is owed = SameOwed owed

  header-owed : (old new : List Sector) (at : ℕ) (verify fresh : Sector) (w : SwapsHeader setting.geom at verify fresh) (own : Own)
      → d.own ≡ Some own
      → own_swapped d.own (slot_number setting.geom at) now verify fresh ≡ Some own
  header-owed old new at verify fresh w own holds = at-beyond setting d now d.own at verify fresh
      (header-at setting d now at verify fresh w) ∙ holds

  owed-at : (at : ℕ) (verify fresh : Sector) (w : SwapsHeader setting.geom at verify fresh) (own : Own) → d.own ≡ Some own
      → kept_under (own_swapped d.own (slot_number setting.geom at) now verify fresh)
      (owed_swapped d.owed (slot_number setting.geom at) at fresh) ≡ owed_by d.owed at fresh w.new.owner
  owed-at at verify fresh w own holds =
      let beyond = header-at setting d now at verify fresh w in
      let none = slot_number-beyond setting.geom at beyond in
      ap (λ (k : Option ℕ). kept_under (own_swapped d.own k now verify fresh) (owed_swapped d.owed k at fresh)) none
      ∙ ap (λ (o : Option Own). kept_under o (owed_in d.owed at fresh (header_in fresh.bytes))) holds
      ∙ ap (owed_in d.owed at fresh) w.is

  slot-owed : (old new : List Sector) (at a : ℕ) (verify fresh : Sector) → a < setting.geom.slots → at ≡ 2 + a
      → OwedChange setting now old new d (noted setting.geom d now (Swap at verify fresh) Done)
  slot-owed old new at a verify fresh within place =
      let number : slot_number setting.geom at ≡ Some a = ap (slot_number setting.geom) place ∙ slot_number-of setting.geom a within in
      kept-owed old new (own_swapped d.own (slot_number setting.geom at) now verify fresh)
      (noted setting.geom d now (Swap at verify fresh) Done) refl
      (ap (λ (k : Option ℕ). kept_under (own_swapped d.own (slot_number setting.geom at) now verify fresh)
      (owed_swapped d.owed k at fresh)) number)

  done-owed : (old : List Sector) (at : ℕ) (verify fresh : Sector) → slice_get old at ≡ Some verify → MaySwap setting d now at verify fresh
      → OwedChange setting now old (slice_set old at fresh) d (noted setting.geom d now (Swap at verify fresh) Done)
  done-owed old at verify fresh found (Enter r) = slot-owed old
      (slice_set old at fresh) at r.swap.slot verify fresh r.swap.within r.swap.place
  done-owed old at verify fresh found (Leave r) = slot-owed old
      (slice_set old at fresh) at r.swap.own.slot verify fresh r.swap.within r.swap.place
  done-owed old at verify fresh found (Beat r) = slot-owed old
      (slice_set old at fresh) at r.renewal.swap.own.slot verify fresh r.renewal.swap.within r.renewal.swap.place
  done-owed old at verify fresh found (Commit r) = slot-owed old
      (slice_set old at fresh) at r.renewal.swap.own.slot verify fresh r.renewal.swap.within r.renewal.swap.place
  done-owed old at verify fresh found (Retire r) = slot-owed old
      (slice_set old at fresh) at r.renewal.swap.own.slot verify fresh r.renewal.swap.within r.renewal.swap.place
  done-owed old at verify fresh found (Break r) = slot-owed old
      (slice_set old at fresh) at r.swap.slot verify fresh r.swap.within r.swap.place
  done-owed old at verify fresh found (Clear r) = slot-owed old
      (slice_set old at fresh) at r.swap.slot verify fresh r.swap.within r.swap.place
  done-owed old at verify fresh found (Lock r) =
      OneOwed at verify fresh found (slice_get-set_found old at verify fresh found) r (owed-at at verify fresh r.swap r.own r.holds
      ∙ ap (owed_by d.owed at fresh) r.owned)
  done-owed old at verify fresh found (GiveBack r) =
      LessOwed at verify fresh found (slice_get-set_found old at verify fresh found) r (owed-at at verify fresh r.swap r.own r.holds
      ∙ ap (owed_by d.owed at fresh) r.none)

  sent-owed : (old : List Sector) (under : Option (ℕ × ℕ)) (c : Command) (r : Response) (landed took : Bool)
      → IsSent setting d now old under c r landed took
      → OwedChange setting now old (after_step old (Sent under c r landed took)) d (noted setting.geom d now c r)
  sent-owed old under (Read at) r landed took sent = kept-owed old _ (own_after setting.geom d.own (is_some d.answer) now (Read at) r)
      (noted setting.geom d now (Read at) r) refl refl
  sent-owed old under (Write at fresh) r landed took sent = kept-owed old _ (own_after setting.geom d.own (is_some d.answer) now
      (Write at fresh) r) (noted setting.geom d now (Write at fresh) r) refl refl
  sent-owed old under (Swap at verify fresh) (Got s) landed took sent = NoOwed refl refl
  sent-owed old under (Swap at verify fresh) Fault landed took sent = NoOwed refl refl
  sent-owed old under (Swap at verify fresh) (Miscompare offset) landed took sent =
      kept-owed old _ (own_after setting.geom d.own (is_some d.answer) now (Swap at verify fresh) (Miscompare offset))
      (noted setting.geom d now (Swap at verify fresh) (Miscompare offset)) refl refl
  sent-owed old under (Swap at verify fresh) Done false took sent = absurd (elim sent.responds [ inl h ↦ cc | inr h ↦ cc ])
  sent-owed old under (Swap at verify fresh) Done true took sent =
      elim sent.responds [
        | inl h ↦ let e = done-effect old at verify fresh h.1 in
            subst (λ x. OwedChange setting now old x d (noted setting.geom d now (Swap at verify fresh) Done)) (sym e.1)
            (done-owed old at verify fresh e.0 sent.sends.may)
        | inr h ↦ cc
      ]

module _ (setting : Setting) (d : Digest) (now : ℕ) where
  sent-seen : (old : List Sector) (under : Option (ℕ × ℕ)) (c : Command) (r : Response) (landed took : Bool)
      → IsSent setting d now old under c r landed took
      → SeenChange (after_step old (Sent under c r landed took)) d (noted setting.geom d now c r)
  sent-seen old under (Read at) (Got s) true took sent = elim sent.responds [ inl h ↦ OneSeen at s h.1 refl | inr h ↦ cc ]
  sent-seen old under (Read at) (Got s) false took sent = elim sent.responds [ inl h ↦ OneSeen at s h.1 refl | inr h ↦ cc ]
  sent-seen old under (Read at) Done landed took sent = SameSeen refl
  sent-seen old under (Read at) (Miscompare offset) landed took sent = SameSeen refl
  sent-seen old under (Read at) Fault landed took sent = SameSeen refl
  sent-seen old under (Write at fresh) (Got s) landed took sent = SameSeen refl
  sent-seen old under (Write at fresh) Done landed took sent = SameSeen refl
  sent-seen old under (Write at fresh) (Miscompare offset) landed took sent = SameSeen refl
  sent-seen old under (Write at fresh) Fault landed took sent = SameSeen refl
  sent-seen old under (Swap at verify fresh) (Got s) landed took sent = SameSeen refl
  sent-seen old under (Swap at verify fresh) (Miscompare offset) landed took sent = SameSeen refl
  sent-seen old under (Swap at verify fresh) Fault landed took sent = SameSeen refl
  sent-seen old under (Swap at verify fresh) Done false took sent = absurd (elim sent.responds [ inl h ↦ cc | inr h ↦ cc ])
  sent-seen old under (Swap at verify fresh) Done true took sent =
      elim sent.responds [
        | inl h ↦ let e = done-effect old at verify fresh h.1 in
            OneSeen at fresh (ap (λ s. slice_get s at) e.1 ∙ slice_get-set_found old at verify fresh e.0) refl
        | inr h ↦ cc
      ]

-- the changes of a whole turn, from the digest with which it is made
module _ (setting : Setting) (old : List Sector) where
  step-own : (d : Digest) (part : Part) (now : ℕ) (step : Step) → Obeys setting d now old step
      → OwnChange setting.geom now old (after_step old step) d (stepped setting.geom d part now step)
  step-own d part now Local obeys = ended-own setting.geom now old old d d (stood d part) (stood-ending d part)
      (SameOwn refl (λ o e within. refl))
  step-own d part now (Sent under c r landed took) obeys = sent-change setting d now old under c r landed took obeys

  step-notes : (d : Digest) (part : Part) (now : ℕ) (step : Step) → Obeys setting d now old step
      → NoteChange now old d (stepped setting.geom d part now step)
  step-notes d part now Local obeys = ended-notes now old d d (stood d part) (stood-ending d part) (SameNotes refl)
  step-notes d part now (Sent under c r landed took) obeys = sent-notes setting d now old under c r landed took obeys

  step-owed : (d : Digest) (part : Part) (now : ℕ) (step : Step) → Obeys setting d now old step
      → OwedChange setting now old (after_step old step) d (stepped setting.geom d part now step)
  step-owed d part now Local obeys = ended-owed setting now old old d d (stood d part) (stood-ending d part) (SameOwed refl)
  step-owed d part now (Sent under c r landed took) obeys = sent-owed setting d now old under c r landed took obeys

  step-seen : (d : Digest) (part : Part) (now : ℕ) (step : Step) → Obeys setting d now old step
      → SeenChange (after_step old step) d (stepped setting.geom d part now step)
  step-seen d part now Local obeys = ended-seen old d d (stood d part) (stood-ending d part) (SameSeen refl)
  step-seen d part now (Sent under c r landed took) obeys = sent-seen setting d now old under c r landed took obeys

  module _ (d : Digest) (t : Turn) (obeys : Obeys setting (started d t.part) t.event.at old t.event.step) where
    after : Digest
    after = stepped setting.geom (started d t.part) t.part t.event.at t.event.step

    pub own-change : OwnChange setting.geom t.event.at old (after_step old t.event.step) (started d t.part) (turned setting.geom d t)
    unfolding after
    own-change = ended-own setting.geom t.event.at old (after_step old t.event.step) (started d t.part) after (turned setting.geom d t)
        (ending-of after t.answer t.event.dies) (step-own (started d t.part) t.part t.event.at t.event.step obeys)

    pub note-change : NoteChange t.event.at old (started d t.part) (turned setting.geom d t)
    unfolding after
    note-change = ended-notes t.event.at old (started d t.part) after (turned setting.geom d t) (ending-of after t.answer t.event.dies)
        (step-notes (started d t.part) t.part t.event.at t.event.step obeys)

    pub owed-change : OwedChange setting t.event.at old (after_step old t.event.step) (started d t.part) (turned setting.geom d t)
    unfolding after
    owed-change = ended-owed setting t.event.at old (after_step old t.event.step) (started d t.part) after (turned setting.geom d t)
        (ending-of after t.answer t.event.dies) (step-owed (started d t.part) t.part t.event.at t.event.step obeys)

    pub seen-change : SeenChange (after_step old t.event.step) (started d t.part) (turned setting.geom d t)
    unfolding after
    seen-change = ended-seen (after_step old t.event.step) (started d t.part) after (turned setting.geom d t)
        (ending-of after t.answer t.event.dies) (step-seen (started d t.part) t.part t.event.at t.event.step obeys)
