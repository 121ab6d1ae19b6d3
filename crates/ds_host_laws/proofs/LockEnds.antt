-- What the end of a lock's taking gives to the call that it serves.
use Rattle.std.proofs.Common.{◌≡◌, ◌≢◌, ℕ, ◌^◌, ◌<◌, ◌⊎◌, inl, inr, List, [], ◌∷◌}
use Rattle.std.proofs.Common.{◌++◌, Some, None, refl, sym, ap, subst, ◌∙◌, append_assoc, length, arith}
use Rattle.std.proofs.lemmas.Option.{same_Some}
use Rattle.ds_base.specs.Device.{Fits}
use Rattle.ds_base.specs.Exchanges.{Exchange, seen_of}
use Rattle.ds_base.specs.declared.commands.Command.{Command}
use Rattle.ds_base.specs.declared.commands.Command.TheVariants.{Read, Swap}
use Rattle.ds_base.specs.declared.commands.Next.TheVariants as nexts
use Rattle.ds_base.specs.declared.commands.Response.{Response}
use Rattle.ds_base.specs.declared.commands.Response.TheVariants.{Got, Done, Miscompare, Fault}
use Rattle.ds_base.specs.declared.geometry.Geom.{Geom}
use Rattle.ds_base.specs.declared.names.Key.{Key}
use Rattle.ds_base.specs.declared.sectors.Sector.{Sector}
use Rattle.ds_conduct.specs.Causes as causes
use Rattle.ds_conduct.specs.Digests.{Digest, Own}
use Rattle.ds_conduct.specs.Journals.{Found, Passed, Sees, Took}
use Rattle.ds_conduct.specs.Settings.{Setting}
use Rattle.ds_image.specs.Planning as planning
use Rattle.ds_image.specs.SeenValues.{SeenValue, with_lock}
use Rattle.ds_lock.proofs.Order.{slot-later}
use Rattle.ds_lock.specs.Locking as locks
use Rattle.ds_lock.specs.Locking.{IsNoMiss, IsShown, header_image, lock_sector, read_of, taken_from}
use Rattle.ds_lock.specs.Stages.{HasSeen, IsPass, IsWanted, Leads, LockValue, due, due_at, notes_after}
use Rattle.ds_lock.specs.declared.ends.LockEnd.TheVariants as ends
use Rattle.ds_lock.specs.declared.steps.Stage.{Stage}
use Rattle.ds_lock.specs.declared.steps.Stage.TheVariants as stages
use Rattle.ds_lock.specs.declared.steps.Wanted.{Wanted}
use Rattle.ds_marks.specs.declared.header.Header.{Header}
use Rattle.ds_marks.specs.declared.header.Owner.{Owner}
use Rattle.ds_marks.specs.declared.slot.Slot.{Slot}
use Rattle.ds_tree.specs.declared.calls.CallOf.{CallOf}
use Rattle.ds_watch.specs.Notes.{Note}
use Rattle.ds_host_laws.proofs.LockCauses.{Contains-head, IsNotOwn, breakable-cause, damaged-cause, other-owner, wanted_by, worn-cause}
use Rattle.ds_host_laws.proofs.LockPasses.{Anew, IsPassAfter, Longer, head-same, pass-after, pass-front, shown-same}
use Rattle.ds_host_laws.proofs.LockSteps.{Looks, Step, Takes, taken-is}
use Rattle.ds_host_laws.proofs.Locks.{due-at, ended-by, exchanges-are, has-seen, is-pass, is-step, is-wanted, rest, wanted-is}
use Rattle.ds_host_laws.proofs.Spelled.{header-again}
use Rattle.ds_host_laws.specs.Locks.{IsGot, IsTaking, ReadsBreakable, Taken}
use Rattle.ds_host_laws.specs.Locks as gots

-- what was seen stays so
pub kept : (g : Geom) (own : Own) (plan : planning.Answers) (first : List ℕ) (xs ys : List Exchange) (seen : SeenValue)
    → Sees g own plan first ys seen → Sees g own plan first (xs ++ ys) seen
kept g own plan first [] ys seen sees = sees
kept g own plan first (x ∷ xs) ys seen sees = Passed (xs ++ ys) seen x (kept g own plan first xs ys seen sees)

none-shown : {X : Type 0} (later : List X) (y : X) → [] ≡ later ++ y ∷ [] → ⊥
none-shown [] y same = absurd cc
none-shown (z ∷ later) y same = absurd cc

only-shown : {X : Type 0} (later : List X) (x y : X) → x ∷ [] ≡ later ++ y ∷ [] → later ≡ []
only-shown [] x y same = refl
only-shown (z ∷ []) x y same = absurd cc
only-shown (z ∷ u ∷ later) x y same = absurd cc

none-last : {X : Type 0} (newer older : List X) (y : X) → [] ≡ newer ++ y ∷ older → ⊥
none-last [] older y same = absurd cc
none-last (z ∷ newer) older y same = absurd cc

module _ (setting : Setting) (own : Own) (object : ℕ) (is_wanted : IsWanted (wanted_by setting own object)) where
  abbrev w : Wanted
  w = wanted_by setting own object

  module _ (size : length setting.host ≡ 16) (plan : planning.Answers) (first : List ℕ) (seen : SeenValue) (pass rest : List Exchange) where
    abbrev SeesIt : List Exchange → SeenValue → Type 0
    SeesIt xs seen = Sees setting.geom own plan first xs seen

    found-sees : locks.HasLock w pass → SeesIt rest seen → SeesIt (pass ++ rest) (with_lock seen object)
    found-sees has sees =
        let shown = has.names.shown in
        let x : Exchange = read_of (lock_sector setting.geom object) (header_image has.header) shown.tick in
        subst (λ l. SeesIt l (with_lock seen object))
        (sym (ap (λ (l : List Exchange). l ++ rest) shown.parts ∙ append_assoc shown.later (x ∷ []) rest))
        (kept setting.geom own plan first shown.later (x ∷ rest) (with_lock seen object)
        (Found rest seen x object sees (record {
          sector = header_image has.header;
          got = record { command = refl; response = refl };
          is_lock = is_wanted.is_lock;
          names = record {
            header = has.header;
            spelled = header-again has.header shown.is_header;
            same_object = shown.same_object;
            owner = has.owner;
            owned = has.names.owned;
            is_of = record { same_slot = has.same_slot; same_generation = has.same_generation };
          };
        })))

    took-sees : locks.TakesLock w pass → SeesIt rest seen → SeesIt (pass ++ rest) (with_lock seen object)
    took-sees takes sees =
        let h = takes.header in
        let x : Exchange = record {
          command = Swap (lock_sector setting.geom object) (header_image h) (header_image (taken_from w.own h));
          response = Done;
          tick = takes.tick;
        } in
        subst (λ l. SeesIt (l ++ rest) (with_lock seen object)) (sym takes.newest)
        (Took (takes.earlier ++ rest) seen x object (kept setting.geom own plan first takes.earlier rest seen sees) (record {
          verify = header_image h;
          fresh = header_image (taken_from w.own h);
          swap = record { command = refl; response = refl };
          is_lock = is_wanted.is_lock;
          names = record {
            header = taken_from w.own h;
            spelled = header-again (taken_from w.own h)
                (taken-is setting own object is_wanted h size takes.shown.is_header takes.room);
            same_object = takes.shown.same_object;
            owner = w.own;
            owned = refl;
            is_of = record { same_slot = refl; same_generation = refl };
          };
        }))

    pub got-sees-it : locks.HasLock w pass ⊎ locks.TakesLock w pass → SeesIt rest seen → SeesIt (pass ++ rest) (with_lock seen object)
    got-sees-it (inl has) = found-sees has
    got-sees-it (inr takes) = took-sees takes

  abbrev exchange : Command → Response → ℕ → Exchange
  exchange command response now = record { command = command; response = response; tick = now }

  -- a Swap that took the header has shown it
  swap-shown : (now : ℕ) (verify fresh : Sector) (pass : List Exchange) (k : Header) (later : List Exchange) (tick : ℕ)
      → exchange (Swap (lock_sector setting.geom object) verify fresh) Done now ∷ pass
      ≡ later ++ read_of (lock_sector setting.geom object) (header_image k) tick ∷ []
      → locks.IsUnshown later (lock_sector setting.geom object) → ⊥
  swap-shown now verify fresh pass k [] tick same apart =
      let e : exchange (Swap (lock_sector setting.geom object) verify fresh) Done now
      ≡ read_of (lock_sector setting.geom object) (header_image k) tick = cc in
      absurd (let c : Swap (lock_sector setting.geom object) verify fresh ≡ Read (lock_sector setting.geom object) = ap (λ (y : Exchange).
      y.command) e in cc)
  swap-shown now verify fresh pass k (y ∷ later) tick same apart =
      let e : exchange (Swap (lock_sector setting.geom object) verify fresh) Done now ≡ y = cc in
      subst (λ (z : Exchange). locks.IsUnshown (z ∷ later) (lock_sector setting.geom object)) (sym e) apart fresh
      (Contains-head (lock_sector setting.geom object, fresh) (seen_of later))

  module _ (d : Digest) (now : ℕ) (size : length setting.host ≡ 16) (holds : d.own ≡ Some own) (unanswered : d.answer ≡ None)
      (pass rest : List Exchange) (parts : d.exchanges ≡ pass ++ rest) where
    -- where the header is the host's and wasn't taken just now, it was read just now
    pub found-by : (command : Command) (response : Response)
        → Step setting own object is_wanted d now size holds unanswered pass rest parts command
        → Fits command response → response ≢ Fault → IsNoMiss response → (k : Header)
        → IsShown w (exchange command response now ∷ pass) k → IsGot w (exchange command response now)
    found-by command (Got s) step fits sound none k shown = gots.Found s refl
    found-by command Done (Looks at e may) fits sound none k shown = absurd (subst (λ c. Fits c Done) e fits)
    found-by command Done (Takes h e shown' loose room) fits sound none k shown =
        let there = subst (λ c. IsShown w (exchange c Done now ∷ pass) k) e shown in
        absurd (swap-shown now (header_image h) (header_image (taken_from w.own h)) pass k there.later there.tick there.parts there.apart)
    found-by command (Miscompare offset) step fits sound none k shown = absurd none
    found-by command Fault step fits sound none k shown = absurd (sound refl)

  -- what was read in this pass doesn't name the generation held, where the header is to be taken
  module _ (notes : List Note) (now : ℕ) (x : Exchange) (pass rest : List Exchange) where
    not-own-longer : (stage : Stage) (command : Command) → due_at w stage ≡ nexts.Send command → HasSeen w stage pass
        → IsNotOwn setting own object is_wanted notes now (x ∷ pass) rest
    not-own-longer stage command due seen h o shown (locks.Unowned none) most owned is = absurd cc
    not-own-longer stages.Header command due seen h o shown (locks.Over o' s owned' there above) most owned is =
        let alone = subst (λ l. IsShown w (x ∷ l) h) seen shown in
        let none = only-shown alone.later x (read_of (lock_sector setting.geom object) (header_image h) alone.tick) alone.parts in
        let there' = subst (λ l. locks.IsSlotShown w (x ∷ l) o'.slot s) seen there in
        let last = (slot-later w (x ∷ []) h alone o'.slot s there').last in
        absurd (none-last last.newer last.older (locks.slot_sector setting.geom o'.slot, locks.slot_image o'.slot s) (sym (ap seen_of none)
        ∙ last.parts))
    not-own-longer (stages.Owner k p) command due seen h o shown (locks.Over o' s owned' there above) most owned is =
        let same = shown-same w x pass k h seen.0.shown shown in
        let owner : p ≡ o = same_Some p o (sym seen.0.owned ∙ (ap (λ (v : Header). v.owner) same ∙ owned)) in
        let less : o.generation < own.generation = subst (λ (v : Owner). v.generation < own.generation) owner
        (seen.2 (ap (λ (v : Owner). v.slot) owner ∙ is.same_slot)) in
        absurd (omega (arith, less, is.same_generation))
    not-own-longer (stages.Breaker k slot t by' generation) command due seen h o shown (locks.Over o' s owned' there above) most owned is =
        let same = shown-same w x pass k h seen.0.names.shown shown in
        other-owner setting own object is_wanted notes now pass rest k slot t seen.0 o
        (ap (λ (v : Header). v.owner) same ∙ owned) is
    not-own-longer (stages.Taking k) command due seen h o shown (locks.Over o' s owned' there above) most owned is =
        let same = shown-same w x pass k h seen.0 shown in
        let less : h.generation < 2 ^ 62 = subst (λ (v : Header). v.generation < 2 ^ 62) same seen.2 in
        absurd (omega (arith, less, most))
    not-own-longer (stages.Broken k slot t) command due seen h o shown (locks.Over o' s owned' there above) most owned is = absurd cc
    not-own-longer stages.Over command due seen h o shown (locks.Over o' s owned' there above) most owned is = absurd cc

    pub not-own : (stage : Stage) (command : Command) (after : List Exchange) → due_at w stage ≡ nexts.Send command
        → HasSeen w stage pass → IsPassAfter x pass after → IsNotOwn setting own object is_wanted notes now after rest
    not-own stage command after due seen (Longer e none) =
        subst (λ l. IsNotOwn setting own object is_wanted notes now l rest) (sym e) (not-own-longer stage command due seen)
    not-own stage command after due seen (Anew e missed) = λ h o shown loose most owned is.
        let there = subst (λ l. IsShown w l h) e shown in
        absurd (none-shown there.later (read_of (lock_sector setting.geom object) (header_image h) there.tick) there.parts)

module _ (setting : Setting) (d : Digest) (own : Own) (run : LockValue) (xs ys : List Exchange) (taking : IsTaking setting d own run xs ys)
    (now : ℕ) (command : Command) (due : due run ≡ nexts.Send command) (response : Response) (run' : LockValue)
    (same : run'.wanted ≡ run.wanted) where
  abbrev pub x : Exchange
  x = record { command = command; response = response; tick = now }

  abbrev notes : List Note
  notes = notes_after run response now d.notes

  abbrev wanted : Wanted
  wanted = wanted_by setting own run.wanted.object

  pass-is : (after : List Exchange) → IsPass wanted run'.missed (x ∷ xs) after → IsPassAfter x taking.agrees.pass after
  pass-is after is = pass-after wanted x xs taking.agrees.pass run.missed run'.missed after (is-pass setting d own run xs ys taking) is

  -- a lock that was got is held by the call
  pub got-sees : (plan : planning.Answers) (first : List ℕ) (seen : SeenValue) → Leads run' (Some ends.Got) notes now (x ∷ xs)
      → Sees setting.geom own plan first ys seen
      → Sees setting.geom own plan first (x ∷ d.exchanges) (with_lock seen run.wanted.object)
  got-sees plan first seen leads sees =
      let by_pass = ended-by setting d own run xs ys taking now command due response run' ends.Got notes same leads.0 in
      let older = pass-front wanted run'.missed (x ∷ xs) by_pass.0 by_pass.1 in
      subst (λ l. Sees setting.geom own plan first l (with_lock seen run.wanted.object))
      (sym (ap (λ (l : List Exchange). x ∷ l) taking.parts ∙ (ap (λ (l : List Exchange). l ++ ys) older.1
      ∙ append_assoc by_pass.0 older.0 ys)))
      (got-sees-it setting own run.wanted.object (is-wanted setting d own run xs ys taking) taking.host_size plan first seen
      by_pass.0 (older.0 ++ ys) by_pass.2 (kept setting.geom own plan first older.0 ys seen sees))

  got-by : Fits command response → response ≢ Fault → (after : List Exchange) → IsPassAfter x taking.agrees.pass after
      → locks.HasLock wanted after ⊎ locks.TakesLock wanted after → (older : List Exchange) → x ∷ xs ≡ after ++ older → IsGot wanted x
  got-by fits sound after (Longer e none) (inl has) older parts =
      let step = is-step setting d own run xs ys taking now command due in
      let before = rest setting d own run xs ys taking in
      found-by setting own run.wanted.object (is-wanted setting d own run xs ys taking) d now taking.host_size taking.holds
      taking.unanswered taking.agrees.pass before.0 before.1 command response step fits sound none has.header
      (subst (λ l. IsShown wanted l has.header) e has.names.shown)
  got-by fits sound after (Anew e missed) (inl has) older parts =
      let there = subst (λ l. IsShown wanted l has.header) e has.names.shown in
      let header : Exchange = read_of (lock_sector setting.geom run.wanted.object) (header_image has.header) there.tick in
      absurd (none-shown there.later header there.parts)
  got-by fits sound after is (inr takes) older parts =
      let h = takes.header in
      let swap : Exchange = record {
        command = Swap (lock_sector setting.geom run.wanted.object) (header_image h) (header_image (taken_from wanted.own h));
        response = Done;
        tick = takes.tick;
      } in
      let e : x ≡ swap = head-same xs (takes.earlier ++ older) x swap (parts ∙ ap (λ (l : List Exchange). l ++ older) takes.newest) in
      Taken h takes.shown.is_header takes.shown.same_object takes.room (record {
        command = ap (λ (y : Exchange). y.command) e;
        response = ap (λ (y : Exchange). y.response) e;
      })

  -- and how it was got
  pub got-how : Fits command response → response ≢ Fault → Leads run' (Some ends.Got) notes now (x ∷ xs) → IsGot run.wanted x
  got-how fits sound leads =
      let by_pass = ended-by setting d own run xs ys taking now command due response run' ends.Got notes same leads.0 in
      let older = pass-front wanted run'.missed (x ∷ xs) by_pass.0 by_pass.1 in
      subst (λ v. IsGot v x) (sym (wanted-is setting d own run xs ys taking))
      (got-by fits sound by_pass.0 (pass-is by_pass.0 by_pass.1) by_pass.2 older.0 older.1)

  -- what is damaged
  pub damaged-shown : (IsPlanned : CallOf Key → List ℕ → Type 0) (at : ℕ) → Leads run' (Some (ends.Damaged at)) notes now (x ∷ xs)
      → causes.IsDamaged setting own notes (x ∷ d.exchanges) IsPlanned at
  damaged-shown IsPlanned at leads =
      let by_pass = ended-by setting d own run xs ys taking now command due response run' (ends.Damaged at) notes same leads.0 in
      let all = exchanges-are setting d own run xs ys taking now command due response run'.missed by_pass.0 by_pass.1 in
      subst (λ l. causes.IsDamaged setting own notes l IsPlanned at) (sym all.1)
      (damaged-cause setting own run.wanted.object (is-wanted setting d own run xs ys taking) notes now by_pass.0 all.0 IsPlanned at
      by_pass.2)

  -- what is worn out
  pub worn-shown : (IsPlanned : CallOf Key → List ℕ → Type 0) → Leads run' (Some ends.WornOut) notes now (x ∷ xs)
      → causes.IsWornOut setting own (x ∷ d.exchanges) IsPlanned
  worn-shown IsPlanned leads =
      let by_pass = ended-by setting d own run xs ys taking now command due response run' ends.WornOut notes same leads.0 in
      let all = exchanges-are setting d own run xs ys taking now command due response run'.missed by_pass.0 by_pass.1 in
      let is = is-wanted setting d own run xs ys taking in
      subst (λ l. causes.IsWornOut setting own l IsPlanned) (sym all.1)
      (worn-cause setting own run.wanted.object is notes now by_pass.0 all.0 IsPlanned
      (not-own setting own run.wanted.object is notes now x taking.agrees.pass all.0 run.stage command by_pass.0
      (due-at setting d own run xs ys taking now command due) (has-seen setting d own run xs ys taking) (pass-is by_pass.0 by_pass.1))
      by_pass.2)

  -- what is to be broken
  pub break-needed : (slot : ℕ) (s : Slot) → Leads run' (Some (ends.NeedsBreak slot s)) notes now (x ∷ xs)
      → ReadsBreakable setting.geom own (x ∷ d.exchanges) slot s
  break-needed slot s leads =
      let by_pass = ended-by setting d own run xs ys taking now command due response run' (ends.NeedsBreak slot s) notes same leads.0 in
      let all = exchanges-are setting d own run xs ys taking now command due response run'.missed by_pass.0 by_pass.1 in
      subst (λ l. ReadsBreakable setting.geom own l slot s) (sym all.1)
      (breakable-cause setting own run.wanted.object (is-wanted setting d own run xs ys taking) notes now by_pass.0 all.0 by_pass.2.0 slot s
      by_pass.2.1)
