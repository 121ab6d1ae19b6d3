-- What the taking of a lock sends keeps the guards of a host, and what is answered to it is right.
use Rattle.std.proofs.Common.{◌≡◌, ◌≢◌, ℕ, ◌^◌, ◌<◌, cond, List, [], ◌∷◌, ◌++◌, length}
use Rattle.std.proofs.Common.{Option, Some, None, refl, sym, ap, subst, ◌∙◌, append_assoc, arith}
use Rattle.std.specs.Prelude.{◌==◌}
use Rattle.std.proofs.lemmas.Bool.Decides.{nat_tests}
use Rattle.std.proofs.lemmas.Option.{same_Some}
use Rattle.ds_base.specs.Device.{Fits}
use Rattle.ds_base.specs.Exchanges.{Exchange, seen_of}
use Rattle.ds_base.specs.declared.commands.Command.{Command}
use Rattle.ds_base.specs.declared.commands.Command.TheVariants.{Read, Swap}
use Rattle.ds_base.specs.declared.commands.Next.{Next}
use Rattle.ds_base.specs.declared.commands.Next.TheVariants as nexts
use Rattle.ds_base.specs.declared.commands.Response.{Response}
use Rattle.ds_base.specs.declared.commands.Response.TheVariants.{Got, Done, Miscompare, Fault}
use Rattle.ds_base.specs.declared.sectors.Sector.{Sector}
use Rattle.ds_conduct.proofs.Places.{header-beyond, slot_number-beyond, slot_number-of}
use Rattle.ds_conduct.specs.Answers.{TellsFault, TellsRead}
use Rattle.ds_conduct.specs.Causes.{IsLockRaced}
use Rattle.ds_conduct.specs.Conducts.{Answers}
use Rattle.ds_conduct.specs.declared.answers.HostAnswer.{HostAnswer}
use Rattle.ds_conduct.specs.declared.answers.HostAnswer.TheVariants.{Busy, DeviceFault}
use Rattle.ds_conduct.specs.declared.answers.Spot.TheVariants as spots
use Rattle.ds_conduct.specs.Digests as digests
use Rattle.ds_conduct.specs.Digests.{Digest, Own, noted}
use Rattle.ds_conduct.specs.Guards.{Lock, Locks, MayRead, MaySend, SawOver}
use Rattle.ds_conduct.specs.Settings.{Setting}
use Rattle.ds_layout.proofs.SamePlace.{place_within}
use Rattle.ds_layout.specs.declared.places.Place.TheVariants as places
use Rattle.ds_lock.proofs.Order.{slot-later}
use Rattle.ds_lock.proofs.Shown.{few-slots, seen_of-append}
use Rattle.ds_lock.specs.Locking.{IsLoose, IsShown, Over, Unowned, header_image}
use Rattle.ds_lock.specs.Locking.{lock_sector, read_of, slot_image, slot_sector, taken_from}
use Rattle.ds_lock.specs.Stages.{HasSeen, IsWanted, due_at, noted_at, with_note}
use Rattle.ds_lock.specs.declared.how.How.TheVariants.{Raced}
use Rattle.ds_lock.specs.declared.steps.Stage.{Stage}
use Rattle.ds_lock.specs.declared.steps.Stage.TheVariants as stages
use Rattle.ds_lock.specs.declared.steps.Wanted.{Wanted}
use Rattle.ds_marks.specs.Header.{IsHeader}
use Rattle.ds_marks.specs.declared.header.Header.{Header}
use Rattle.ds_marks.specs.declared.header.Owner.{Owner}
use Rattle.ds_watch.specs.Notes.{Note}
use Rattle.ds_host_laws.proofs.LockCauses.{contains-last, wanted_by}
use Rattle.ds_host_laws.proofs.LockSights.{slot-spelled}
use Rattle.ds_host_laws.proofs.Spelled.{header-again}

abbrev command_of : Next → Command
command_of (nexts.Send command) = command
command_of nexts.Rest = Read 0
command_of (nexts.Late now last) = Read 0

read-swap : (at to : ℕ) (verify fresh : Sector) → Read at ≡ Swap to verify fresh → ⊥
read-swap at to verify fresh same = absurd cc

eq-comm : (a b : ℕ) → (a == b) ≡ (b == a)
eq-comm a b = grind (arith, nat_tests)

module _ (setting : Setting) (own : Own) (object : ℕ) (is_wanted : IsWanted (wanted_by setting own object)) where
  abbrev w : Wanted
  w = wanted_by setting own object

  -- the header that a Swap writes is one
  pub taken-is : (h : Header) → length setting.host ≡ 16 → IsHeader h → h.generation < 2 ^ 62 → IsHeader (taken_from w.own h)
  taken-is h size is room =
      let few : own.slot < 16 = few-slots setting.geom own.slot is_wanted.is_geom is_wanted.within in
      record {
        widths = record { object_fits = is.widths.object_fits; owner_fits = (omega (arith, few), size) };
        ranges = record { generation_to = omega (arith, room); is_owner = is_wanted.is_owner };
      }

  read-notes : (stage : Stage) (slot now : ℕ) (notes : List Note) (response : Response) → slot < setting.geom.slots
      → ((sector : Sector) → noted_at w stage (Got sector) now notes ≡ with_note w slot sector now notes)
      → noted_at w stage Done now notes ≡ notes → ((offset : ℕ) → noted_at w stage (Miscompare offset) now notes ≡ notes)
      → noted_at w stage Fault now notes ≡ notes
      → digests.notes_after setting.geom (Some own) now (Read (slot_sector setting.geom slot)) response notes
      ≡ noted_at w stage response now notes
  read-notes stage slot now notes (Got sector) within got done missed faulted =
      ap (λ n. digests.noted_of (Some own) n now sector notes) (slot_number-of setting.geom slot within)
      ∙ (ap (λ b. cond b notes (record { slot = slot; image = sector; tick = now } ∷ notes)) (eq-comm own.slot slot) ∙ sym (got sector))
  read-notes stage slot now notes Done within got done missed faulted = sym done
  read-notes stage slot now notes (Miscompare offset) within got done missed faulted = sym (missed offset)
  read-notes stage slot now notes Fault within got done missed faulted = sym faulted

  header-notes : (now : ℕ) (notes : List Note) (response : Response)
      → digests.notes_after setting.geom (Some own) now (Read (lock_sector setting.geom object)) response notes ≡ notes
  header-notes now notes (Got sector) =
      ap (λ n. digests.noted_of (Some own) n now sector notes)
      (slot_number-beyond setting.geom (lock_sector setting.geom object) (header-beyond setting.geom object))
  header-notes now notes Done = refl
  header-notes now notes (Miscompare offset) = refl
  header-notes now notes Fault = refl

  abbrev AreNoted : ℕ → List Note → Stage → Response → Command → Type 0
  AreNoted now notes stage response command =
      digests.notes_after setting.geom (Some own) now command response notes ≡ noted_at w stage response now notes

  -- both note alike
  pub notes-step : (now : ℕ) (notes : List Note) (pass : List Exchange) (stage : Stage) (command : Command) (response : Response)
      → due_at w stage ≡ nexts.Send command → HasSeen w stage pass → AreNoted now notes stage response command
  notes-step now notes pass stages.Header command response due seen =
      subst (AreNoted now notes stages.Header response) (ap command_of due) (header-notes now notes response)
  notes-step now notes pass (stages.Owner h o) command response due seen =
      subst (AreNoted now notes (stages.Owner h o) response) (ap command_of due)
      (read-notes (stages.Owner h o) o.slot now notes response seen.1 (λ sector. refl) refl (λ offset. refl) refl)
  notes-step now notes pass (stages.Breaker h slot s by' generation) command response due seen =
      subst (AreNoted now notes (stages.Breaker h slot s by' generation) response) (ap command_of due)
      (read-notes (stages.Breaker h slot s by' generation) by' now notes response seen.2 (λ sector. refl) refl (λ offset. refl) refl)
  notes-step now notes pass (stages.Taking h) command response due seen =
      subst (AreNoted now notes (stages.Taking h) response) (ap command_of due) refl
  notes-step now notes pass (stages.Broken h slot s) command response due seen = absurd cc
  notes-step now notes pass stages.Over command response due seen = absurd cc

  module _ (d : Digest) (now : ℕ) (host_size : length setting.host ≡ 16) (holds : d.own ≡ Some own) (unanswered : d.answer ≡ None)
      (pass rest : List Exchange) (parts : d.exchanges ≡ pass ++ rest) where
    -- the header was shown last, and what was shown since
    last-parts : (h : Header) (shown : IsShown w pass h)
        → seen_of d.exchanges ≡ seen_of shown.later ++ (lock_sector setting.geom object, header_image h) ∷ seen_of rest
    last-parts h shown =
        let header : Exchange = read_of (lock_sector setting.geom object) (header_image h) shown.tick in
        ap seen_of (parts ∙ (ap (λ (l : List Exchange). l ++ rest) shown.parts ∙ append_assoc shown.later (header ∷ []) rest))
        ∙ seen_of-append shown.later (header ∷ rest)

    over : (h : Header) (shown : IsShown w pass h) → IsLoose w pass h → (owner : Owner) → h.owner ≡ Some owner
        → SawOver setting.geom (seen_of shown.later) owner.slot owner.generation
    over h shown (Unowned none) owner owned = absurd cc
    over h shown (Over o s owned' there above) owner owned =
        let same : o ≡ owner = same_Some o owner (sym owned' ∙ owned) in
        subst (λ (v : Owner). SawOver setting.geom (seen_of shown.later) v.slot v.generation) same (record {
          within = there.within;
          sector = slot_image o.slot s;
          shown = contains-last (seen_of shown.later) (slot_sector setting.geom o.slot) (slot_image o.slot s)
              (slot-later w pass h shown o.slot s there).last;
          image = s;
          spelled = slot-spelled w is_wanted.is_geom o.slot s there.within there.is_slot;
          above = above;
        })

    -- the Swap that takes a header that nobody has
    locks : (h : Header) → IsShown w pass h → IsLoose w pass h → h.generation < 2 ^ 62
        → Locks setting d now (lock_sector setting.geom object) (header_image h) (header_image (taken_from w.own h))
    locks h shown loose room = record {
      own = own;
      holds = holds;
      unanswered = unanswered;
      swap = record {
        object = object;
        is_lock = is_wanted.is_lock;
        place = refl;
        old = h;
        new = taken_from w.own h;
        was = header-again h shown.is_header;
        is = header-again (taken_from w.own h) (taken-is h host_size shown.is_header room);
        was_object = shown.same_object;
        same_object = shown.same_object;
      };
      last = record {
        newer = seen_of shown.later;
        older = seen_of rest;
        parts = last-parts h shown;
        newest = shown.apart;
      };
      free = over h shown loose;
      owned = refl;
      generation = refl;
    }

    -- what is sent: a Read, or that Swap
    pub data Step (command : Command) : Type 0 where
      Looks : (at : ℕ) → command ≡ Read at → MayRead setting d now at → Step command
      Takes : (h : Header) → command ≡ Swap (lock_sector setting.geom object) (header_image h) (header_image (taken_from w.own h))
          → IsShown w pass h → IsLoose w pass h → h.generation < 2 ^ 62 → Step command

    reads-slot : (slot : ℕ) → slot < setting.geom.slots → MayRead setting d now (slot_sector setting.geom slot)
    reads-slot slot within = record {
      unanswered = unanswered;
      within = place_within setting.geom (places.Slot slot) is_wanted.is_geom within;
    }

    pub step : (stage : Stage) (command : Command) → due_at w stage ≡ nexts.Send command → HasSeen w stage pass → Step command
    step stages.Header command due seen = Looks (lock_sector setting.geom object) (sym (ap command_of due)) (record {
      unanswered = unanswered;
      within = place_within setting.geom (places.Header object) is_wanted.is_geom is_wanted.is_lock;
    })
    step (stages.Owner h o) command due seen =
        Looks (slot_sector setting.geom o.slot) (sym (ap command_of due)) (reads-slot o.slot seen.1)
    step (stages.Breaker h slot s by' generation) command due seen =
        Looks (slot_sector setting.geom by') (sym (ap command_of due)) (reads-slot by' seen.2)
    step (stages.Taking h) command due seen = Takes h (sym (ap command_of due)) seen.0 seen.1 seen.2
    step (stages.Broken h slot s) command due seen = absurd cc
    step stages.Over command due seen = absurd cc

    pub may-step : (command : Command) → Step command → MaySend setting d now command
    may-step command (Looks at e may) = subst (λ c. MaySend setting d now c) (sym e) may
    may-step command (Takes h e shown loose room) = subst (λ c. MaySend setting d now c) (sym e) (Lock (locks h shown loose room))

    none-read : (at : ℕ) (response : Response) → MayRead setting d now at → Fits (Read at) response → response ≢ Fault
        → Answers setting d now (Read at) response None
    none-read at (Got s) may fits sound = record { may = may; tells = tt }
    none-read at Done may fits sound = absurd fits
    none-read at (Miscompare offset) may fits sound = absurd fits
    none-read at Fault may fits sound = absurd (sound refl)

    none-swap : (at : ℕ) (verify fresh : Sector) (response : Response) → Locks setting d now at verify fresh
        → Fits (Swap at verify fresh) response → response ≢ Fault → Answers setting d now (Swap at verify fresh) response None
    none-swap at verify fresh (Got s) may fits sound = absurd fits
    none-swap at verify fresh Done may fits sound = record { may = Lock may; tells = refl }
    none-swap at verify fresh (Miscompare offset) may fits sound = record { may = Lock may; tells = tt }
    none-swap at verify fresh Fault may fits sound = absurd (sound refl)

    pub none-step : (command : Command) (response : Response) → Step command → Fits command response → response ≢ Fault
        → Answers setting d now command response None
    none-step command response (Looks at e may) fits sound = subst (λ c. Answers setting d now c response None) (sym e)
        (none-read at response may (subst (λ c. Fits c response) e fits) sound)
    none-step command response (Takes h e shown loose room) fits sound = subst (λ c. Answers setting d now c response None) (sym e)
        (none-swap (lock_sector setting.geom object) (header_image h) (header_image (taken_from w.own h)) response
        (locks h shown loose room) (subst (λ c. Fits c response) e fits) sound)

    fault-told : TellsFault d.answer DeviceFault (Some DeviceFault)
    fault-told = subst (λ v. TellsFault v DeviceFault (Some DeviceFault)) (sym unanswered) refl

    pub fault-step : (command : Command) → Step command → Answers setting d now command Fault (Some DeviceFault)
    fault-step command (Looks at e may) = subst (λ c. Answers setting d now c Fault (Some DeviceFault)) (sym e)
        (record { may = may; tells = fault-told })
    fault-step command (Takes h e shown loose room) = subst (λ c. Answers setting d now c Fault (Some DeviceFault)) (sym e)
        (record { may = Lock (locks h shown loose room); tells = fault-told })

    abbrev exchange : Command → Response → Exchange
    exchange command response = record { command = command; response = response; tick = now }

    -- what is told by a Read under the generation that is held
    abbrev IsTold : Option HostAnswer → Command → Response → Type 0
    IsTold answer command response = TellsRead setting d now (Some own) (noted setting.geom d now command response).notes
        (exchange command response ∷ d.exchanges) answer

    pub read-step : (command : Command) (response : Response) (at : ℕ) (sector : Sector) (answer : Option HostAnswer) → Step command
        → command ≡ Read at → response ≡ Got sector → IsTold answer command response → Answers setting d now command response answer
    read-step command response at sector answer (Takes h e shown loose room) is got =
        absurd (read-swap at (lock_sector setting.geom object) (header_image h) (header_image (taken_from w.own h)) (sym is ∙ e))
    read-step command response at sector answer (Looks at' e may) is got =
        subst (λ c. IsTold answer c response → Answers setting d now c response answer) (sym e)
        (subst (λ r. IsTold answer (Read at') r → Answers setting d now (Read at') r answer) (sym got)
        (λ told. record {
          may = may;
          tells = subst (λ o. TellsRead setting d now o (noted setting.geom d now (Read at') (Got sector)).notes
              (exchange (Read at') (Got sector) ∷ d.exchanges) answer) (sym holds) told;
        }))

    -- what is told where the Swap finds another header in place
    pub missed-step : (command : Command) (response : Response) (at offset : ℕ) (verify fresh : Sector) → Step command
        → command ≡ Swap at verify fresh → response ≡ Miscompare offset
        → IsLockRaced setting.geom (exchange command response ∷ d.exchanges) object
        → Answers setting d now command response (Some (Busy (spots.Object object) Raced))
    missed-step command response at offset verify fresh (Looks at' e may) is missed =
        absurd (read-swap at' at verify fresh (sym e ∙ is))
    missed-step command response at offset verify fresh (Takes h e shown loose room) is missed =
        let from = lock_sector setting.geom object in
        let to = header_image (taken_from w.own h) in
        subst (λ c. IsLockRaced setting.geom (exchange c response ∷ d.exchanges) object
        → Answers setting d now c response (Some (Busy (spots.Object object) Raced))) (sym e)
        (subst (λ r. IsLockRaced setting.geom (exchange (Swap from (header_image h) to) r ∷ d.exchanges) object
        → Answers setting d now (Swap from (header_image h) to) r (Some (Busy (spots.Object object) Raced))) (sym missed)
        (λ raced. record { may = Lock (locks h shown loose room); tells = raced }))
