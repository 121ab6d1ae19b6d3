-- Ok is answered at Swaps of the own slot alone.
use Rattle.std.proofs.Common.{◌≡◌, ℕ, ◌+◌, ◌<◌, ◌⊎◌, inl, inr, Bool, true, List, refl, sym, ◌∙◌, ap, subst, Option, Some, None}
use Rattle.std.specs.Prelude.{slice_get}
use Rattle.ds_base.specs.Exchanges.{Exchange}
use Rattle.ds_base.specs.declared.names.Key.{Key}
use Rattle.ds_base.specs.declared.sectors.Sector.{Sector}
use Rattle.ds_base.specs.declared.commands.Command.{Command}
use Rattle.ds_base.specs.declared.commands.Command.TheVariants.{Read, Write, Swap}
use Rattle.ds_base.specs.declared.commands.Response.{Response}
use Rattle.ds_base.specs.declared.commands.Response.TheVariants.{Got, Done, Miscompare, Fault}
use Rattle.ds_base.specs.Device.{Answers}
use Rattle.ds_tree.specs.declared.calls.HostCallOf.{HostCallOf}
use Rattle.ds_watch.specs.Notes.{Note}
use Rattle.ds_conduct.specs.declared.answers.HostAnswer.{HostAnswer}
use Rattle.ds_conduct.specs.declared.answers.HostAnswer.TheVariants as answers
use Rattle.ds_conduct.specs.Answers.{TellsFault, TellsMiss, TellsRace, TellsRead, TellsSwap, TellsSent}
use Rattle.ds_conduct.specs.Begins.{BeginsWith}
use Rattle.ds_conduct.specs.Conducts.{TellsLate}
use Rattle.ds_conduct.specs.Digests.{Digest, Own, Owed}
use Rattle.ds_conduct.specs.Guards.{MaySend, MaySwap, Enter, Leave, Beat, Commit, Retire, Break, Clear, Lock, GiveBack, SwapsOwn}
use Rattle.ds_conduct.specs.Settings.{Setting}
use Rattle.ds_log.specs.declared.logs.Step.{Step}
use Rattle.ds_log.specs.declared.logs.Step.TheVariants.{Local, Sent}
use Rattle.ds_log.specs.Turns.{Part, Begins, Goes, Aside, started}
use Rattle.ds_log.specs.Histories.{EndsAtOnce, Refused, TooLate, IsPart, IsSent, Obeys, Tells}
use Rattle.ds_log.specs.Fences.{IsOk, IsOwnSwap}
use Rattle.ds_log_slots.proofs.Growing.{own-started}
use Rattle.ds_log_slots.proofs.Steps.{done-effect}

no-none : {A : Type 0} (answer : Option HostAnswer) → answer ≡ None → IsOk answer → A
no-none answer none ok = elim (subst IsOk none ok) [ ]

fault-not : {A : Type 0} (before : Option HostAnswer) (fault : HostAnswer) (answer : Option HostAnswer) → (IsOk (Some fault) → ⊥)
    → TellsFault before fault answer → IsOk answer → A
fault-not None fault answer not is ok = absurd (not (subst IsOk is ok))
fault-not (Some told) fault answer not is ok = no-none answer is ok

miss-not : {A : Type 0} (setting : Setting) (d : Digest) (now : ℕ) (before : Option HostAnswer) (offset : ℕ) (answer : Option HostAnswer)
    → TellsMiss setting d now before offset answer → IsOk answer → A
miss-not setting d now None offset answer is ok = elim (subst IsOk is ok) [ ]
miss-not setting d now (Some told) offset answer is ok = no-none answer is ok

race-not : {A : Type 0} (setting : Setting) (d : Digest) (now : ℕ) (xs : List Exchange) (answer : Option HostAnswer)
    → TellsRace setting d now xs answer → IsOk answer → A
race-not setting d now xs None told ok = elim ok [ ]
race-not setting d now xs (Some (answers.Tree reply)) told ok = elim told [ ]
race-not setting d now xs (Some (answers.Registered slot generation)) told ok = elim told [ ]
race-not setting d now xs (Some answers.Plain) told ok = elim told [ ]
race-not setting d now xs (Some answers.BadName) told ok = elim ok [ ]
race-not setting d now xs (Some answers.Unregistered) told ok = elim ok [ ]
race-not setting d now xs (Some answers.NotOpen) told ok = elim ok [ ]
race-not setting d now xs (Some answers.StillOpen) told ok = elim ok [ ]
race-not setting d now xs (Some answers.OpenFull) told ok = elim ok [ ]
race-not setting d now xs (Some (answers.Busy spot how)) told ok = elim ok [ ]
race-not setting d now xs (Some answers.NoSlot) told ok = elim ok [ ]
race-not setting d now xs (Some (answers.Fenced offset)) told ok = elim ok [ ]
race-not setting d now xs (Some (answers.LeaseLost tick last)) told ok = elim ok [ ]
race-not setting d now xs (Some answers.DeviceFault) told ok = elim ok [ ]
race-not setting d now xs (Some answers.InDoubt) told ok = elim ok [ ]
race-not setting d now xs (Some (answers.Damaged sector)) told ok = elim ok [ ]
race-not setting d now xs (Some answers.WornOut) told ok = elim ok [ ]

read-not : {A : Type 0} (setting : Setting) (d : Digest) (now : ℕ) (own : Option Own) (notes : List Note) (xs : List Exchange)
    (answer : Option HostAnswer)
    → TellsRead setting d now own notes xs answer → IsOk answer → A
read-not setting d now None notes xs None told ok = elim ok [ ]
read-not setting d now None notes xs (Some (answers.Tree reply)) told ok = elim told [ ]
read-not setting d now None notes xs (Some (answers.Registered slot generation)) told ok = elim told [ ]
read-not setting d now None notes xs (Some answers.Plain) told ok = elim told [ ]
read-not setting d now None notes xs (Some answers.BadName) told ok = elim ok [ ]
read-not setting d now None notes xs (Some answers.Unregistered) told ok = elim ok [ ]
read-not setting d now None notes xs (Some answers.NotOpen) told ok = elim ok [ ]
read-not setting d now None notes xs (Some answers.StillOpen) told ok = elim ok [ ]
read-not setting d now None notes xs (Some answers.OpenFull) told ok = elim ok [ ]
read-not setting d now None notes xs (Some (answers.Busy spot how)) told ok = elim ok [ ]
read-not setting d now None notes xs (Some answers.NoSlot) told ok = elim ok [ ]
read-not setting d now None notes xs (Some (answers.Fenced offset)) told ok = elim ok [ ]
read-not setting d now None notes xs (Some (answers.LeaseLost tick last)) told ok = elim ok [ ]
read-not setting d now None notes xs (Some answers.DeviceFault) told ok = elim ok [ ]
read-not setting d now None notes xs (Some answers.InDoubt) told ok = elim ok [ ]
read-not setting d now None notes xs (Some (answers.Damaged sector)) told ok = elim ok [ ]
read-not setting d now None notes xs (Some answers.WornOut) told ok = elim ok [ ]
read-not setting d now (Some own) notes xs None told ok = elim ok [ ]
read-not setting d now (Some own) notes xs (Some (answers.Tree reply)) told ok = elim told [ ]
read-not setting d now (Some own) notes xs (Some (answers.Registered slot generation)) told ok = elim told [ ]
read-not setting d now (Some own) notes xs (Some answers.Plain) told ok = elim told [ ]
read-not setting d now (Some own) notes xs (Some answers.BadName) told ok = elim ok [ ]
read-not setting d now (Some own) notes xs (Some answers.Unregistered) told ok = elim ok [ ]
read-not setting d now (Some own) notes xs (Some answers.NotOpen) told ok = elim ok [ ]
read-not setting d now (Some own) notes xs (Some answers.StillOpen) told ok = elim ok [ ]
read-not setting d now (Some own) notes xs (Some answers.OpenFull) told ok = elim ok [ ]
read-not setting d now (Some own) notes xs (Some (answers.Busy spot how)) told ok = elim ok [ ]
read-not setting d now (Some own) notes xs (Some answers.NoSlot) told ok = elim ok [ ]
read-not setting d now (Some own) notes xs (Some (answers.Fenced offset)) told ok = elim ok [ ]
read-not setting d now (Some own) notes xs (Some (answers.LeaseLost tick last)) told ok = elim ok [ ]
read-not setting d now (Some own) notes xs (Some answers.DeviceFault) told ok = elim ok [ ]
read-not setting d now (Some own) notes xs (Some answers.InDoubt) told ok = elim ok [ ]
read-not setting d now (Some own) notes xs (Some (answers.Damaged sector)) told ok = elim ok [ ]
read-not setting d now (Some own) notes xs (Some answers.WornOut) told ok = elim ok [ ]

begun-not : {A : Type 0} (d : Digest) (call : HostCallOf Key) (answer : HostAnswer) → BeginsWith d call (Some answer)
    → IsOk (Some answer) → A
begun-not d call (answers.Tree reply) told ok = elim told [ ]
begun-not d call (answers.Registered slot generation) told ok = elim told [ ]
begun-not d call answers.Plain told ok = elim told [ ]
begun-not d call answers.BadName told ok = elim ok [ ]
begun-not d call answers.Unregistered told ok = elim ok [ ]
begun-not d call answers.NotOpen told ok = elim ok [ ]
begun-not d call answers.StillOpen told ok = elim ok [ ]
begun-not d call answers.OpenFull told ok = elim ok [ ]
begun-not d call (answers.Busy spot how) told ok = elim ok [ ]
begun-not d call answers.NoSlot told ok = elim ok [ ]
begun-not d call (answers.Fenced offset) told ok = elim ok [ ]
begun-not d call (answers.LeaseLost tick last) told ok = elim ok [ ]
begun-not d call answers.DeviceFault told ok = elim ok [ ]
begun-not d call answers.InDoubt told ok = elim ok [ ]
begun-not d call (answers.Damaged sector) told ok = elim ok [ ]
begun-not d call answers.WornOut told ok = elim ok [ ]

late-not : {A : Type 0} (own : Option Own) (owed : List Owed) (files : List Key) (notes : List Note) (call : Option (HostCallOf Key))
    (exchanges : List Exchange) (before : Option HostAnswer) (now : ℕ)
    (answer : Option HostAnswer)
    → TellsLate
    (record { own = own; owed = owed; files = files; notes = notes; call = call; exchanges = exchanges; answer = before }) now answer
    → IsOk answer → A
late-not (Some own) owed files notes call exchanges None now answer told ok = elim (subst IsOk told ok) [ ]
late-not None owed files notes call exchanges None now answer told ok = elim told [ ]
late-not own owed files notes call exchanges (Some before) now answer told ok = no-none answer told ok

late-no_ok : {A : Type 0} (d : Digest) (now : ℕ) (answer : Option HostAnswer) → TellsLate d now answer → IsOk answer → A
late-no_ok d now answer told ok = late-not d.own d.owed d.files d.notes d.call d.exchanges d.answer now answer told ok

module _ (setting : Setting) (d : Digest) (now : ℕ) where
  once-not : {A : Type 0} (call : HostCallOf Key) (answer : Option HostAnswer) → EndsAtOnce setting d now call answer → IsOk answer → A
  once-not call answer (Refused c told begins) ok = begun-not d call told begins ok
  once-not call answer (TooLate c told begins late) ok = late-no_ok (started d (Begins call)) now answer late.tells ok

  -- no Ok is answered without a command
  local-not : {A : Type 0} (part : Part) (answer : Option HostAnswer) → IsPart setting d now part Local answer → IsOk answer → A
  local-not (Begins call) answer part ok = once-not call answer part ok
  local-not Goes answer part ok = late-no_ok d now answer part.tells ok
  local-not Aside answer part ok = no-none answer part ok

  -- a Swap of a slot that the host holds or enters
  pub record IsOwnSlot (at : ℕ) : Type 0 where
    pub a : ℕ
    pub within : a < setting.geom.slots
    pub place : at ≡ 2 + a
    pub own : ((own : Own) × (d.own ≡ Some own) × (own.slot ≡ a)) ⊎ (d.own ≡ None)

  of-own : (at : ℕ) (verify fresh : Sector) → SwapsOwn setting d now at verify fresh → IsOwnSlot at
  of-own at verify fresh w = record { a = w.own.slot; within = w.within; place = w.place; own = inl (w.own, w.holds, refl) }

  ok-swap : (at : ℕ) (verify fresh : Sector) (may : MaySwap setting d now at verify fresh) (r : Response) (xs : List Exchange)
      (answer : Option HostAnswer) → TellsSwap setting d now at verify fresh may r xs answer
      → IsOk answer → (r ≡ Done) × IsOwnSlot at
  ok-swap at verify fresh (Enter e) Done xs answer told ok = (
    refl,
    record { a = e.swap.slot; within = e.swap.within; place = e.swap.place; own = inr e.none },
  )
  ok-swap at verify fresh (Enter e) (Got s) xs answer told ok = elim told [ ]
  ok-swap at verify fresh (Enter e) (Miscompare offset) xs answer told ok = race-not setting d now xs answer told ok
  ok-swap at verify fresh (Enter e) Fault xs answer told ok = fault-not d.answer answers.DeviceFault answer (λ e. elim e [ ]) told ok
  ok-swap at verify fresh (Leave l) Done xs answer told ok = (refl, of-own at verify fresh l.swap)
  ok-swap at verify fresh (Leave l) (Got s) xs answer told ok = elim told [ ]
  ok-swap at verify fresh (Leave l) (Miscompare offset) xs answer told ok = miss-not setting d now d.answer offset answer told ok
  ok-swap at verify fresh (Leave l) Fault xs answer told ok = fault-not d.answer answers.DeviceFault answer (λ e. elim e [ ]) told ok
  ok-swap at verify fresh (Beat b) Done xs answer told ok = (refl, of-own at verify fresh b.renewal.swap)
  ok-swap at verify fresh (Beat b) (Got s) xs answer told ok = elim told [ ]
  ok-swap at verify fresh (Beat b) (Miscompare offset) xs answer told ok = miss-not setting d now d.answer offset answer told ok
  ok-swap at verify fresh (Beat b) Fault xs answer told ok = fault-not d.answer answers.DeviceFault answer (λ e. elim e [ ]) told ok
  ok-swap at verify fresh (Commit c) Done xs answer told ok = (refl, of-own at verify fresh c.renewal.swap)
  ok-swap at verify fresh (Commit c) (Got s) xs answer told ok = elim told [ ]
  ok-swap at verify fresh (Commit c) (Miscompare offset) xs answer told ok = miss-not setting d now d.answer offset answer told ok
  ok-swap at verify fresh (Commit c) Fault xs answer told ok = fault-not d.answer answers.InDoubt answer (λ e. elim e [ ]) told ok
  ok-swap at verify fresh (Retire r) Done xs answer told ok = no-none answer told ok
  ok-swap at verify fresh (Retire r) (Got s) xs answer told ok = elim told [ ]
  ok-swap at verify fresh (Retire r) (Miscompare offset) xs answer told ok = miss-not setting d now d.answer offset answer told ok
  ok-swap at verify fresh (Retire r) Fault xs answer told ok = fault-not d.answer answers.DeviceFault answer (λ e. elim e [ ]) told ok
  ok-swap at verify fresh (Break b) Done xs answer told ok = no-none answer told ok
  ok-swap at verify fresh (Break b) (Got s) xs answer told ok = elim told [ ]
  ok-swap at verify fresh (Break b) (Miscompare offset) xs answer told ok = race-not setting d now xs answer told ok
  ok-swap at verify fresh (Break b) Fault xs answer told ok = fault-not d.answer answers.DeviceFault answer (λ e. elim e [ ]) told ok
  ok-swap at verify fresh (Clear c) Done xs answer told ok = no-none answer told ok
  ok-swap at verify fresh (Clear c) (Got s) xs answer told ok = elim told [ ]
  ok-swap at verify fresh (Clear c) (Miscompare offset) xs answer told ok = race-not setting d now xs answer told ok
  ok-swap at verify fresh (Clear c) Fault xs answer told ok = fault-not d.answer answers.DeviceFault answer (λ e. elim e [ ]) told ok
  ok-swap at verify fresh (Lock l) Done xs answer told ok = no-none answer told ok
  ok-swap at verify fresh (Lock l) (Got s) xs answer told ok = elim told [ ]
  ok-swap at verify fresh (Lock l) (Miscompare offset) xs answer told ok = race-not setting d now xs answer told ok
  ok-swap at verify fresh (Lock l) Fault xs answer told ok = fault-not d.answer answers.DeviceFault answer (λ e. elim e [ ]) told ok
  ok-swap at verify fresh (GiveBack f) Done xs answer told ok = no-none answer told ok
  ok-swap at verify fresh (GiveBack f) (Got s) xs answer told ok = elim told [ ]
  ok-swap at verify fresh (GiveBack f) (Miscompare offset) xs answer told ok = miss-not setting d now d.answer offset answer told ok
  ok-swap at verify fresh (GiveBack f) Fault xs answer told ok = fault-not d.answer answers.DeviceFault answer (λ e. elim e [ ]) told ok

  ok-sent : (s : List Sector) (under : Option (ℕ
      × ℕ)) (c : Command) (r : Response) (landed took : Bool) (sent : IsSent setting d now s under c r landed took)
      (may : MaySend setting d now c) (notes : List Note)
      (xs : List Exchange) (answer : Option HostAnswer) → TellsSent setting d now c may r notes xs answer → IsOk answer
      → IsOwnSwap setting.geom s d (Sent under c r landed took)
  ok-sent s under (Read at) Done landed took sent may notes xs answer told ok = elim told [ ]
  ok-sent s under (Read at) (Got x) landed took sent may notes xs answer told ok = read-not setting d now d.own notes xs answer told ok
  ok-sent s under (Read at) (Miscompare offset) landed took sent may notes xs answer told ok = elim told [ ]
  ok-sent s under (Read at) Fault landed took sent may notes xs answer told ok = fault-not d.answer answers.DeviceFault answer
      (λ e. elim e [ ]) told ok
  ok-sent s under (Write at fresh) Done landed took sent may notes xs answer told ok = no-none answer told ok
  ok-sent s under (Write at fresh) (Got x) landed took sent may notes xs answer told ok = elim told [ ]
  ok-sent s under (Write at fresh) (Miscompare offset) landed took sent may notes xs answer told ok = elim told [ ]
  ok-sent s under (Write at fresh) Fault landed took sent may notes xs answer told ok = fault-not d.answer answers.DeviceFault answer
      (λ e. elim e [ ]) told ok
  ok-sent s under (Swap at verify fresh) r landed took sent may notes xs answer told ok =
      let own = ok-swap at verify fresh may r xs answer told ok in
      by_place at own.1.a own.1.within own.1.place own.1.own own.0 sent.responds
    where
      by_place : (at a : ℕ) → a < setting.geom.slots → at ≡ 2 + a
          → (((own : Own) × (d.own ≡ Some own) × (own.slot ≡ a)) ⊎ (d.own ≡ None)) → r ≡ Done
          → ((landed ≡ true) × Answers s (Swap at verify fresh) r) ⊎ (r ≡ Fault)
          → IsOwnSwap setting.geom s d (Sent under (Swap at verify fresh) r landed took)
      by_place at a within place own done (inr fault) = absurd (let e : Done ≡ Fault = sym done ∙ fault in cc)
      by_place at a within place own done (inl h) =
          record {
            a = a;
            swap = record {
              within = within;
              under = under;
              verify = verify;
              fresh = fresh;
              response = r;
              took = took;
              is = ap (λ (k : ℕ). Sent under (Swap k verify fresh) r landed took) place
                  ∙ ap (λ (b : Bool). Sent under (Swap (2 + a) verify fresh) r b took) h.0;
              found = ap (slice_get s) (sym place) ∙ (done-effect s at verify fresh (subst (Answers s (Swap at verify fresh)) done h.1)).0;
            };
            done = done;
            own = own;
          }

module _ (setting : Setting) (d : Digest) (now : ℕ) (s : List Sector) where
  of-started : (part : Part) (step : Step) → IsOwnSwap setting.geom s (started d part) step → IsOwnSwap setting.geom s d step
  of-started part step own = record {
    a = own.a;
    swap = own.swap;
    done = own.done;
    own = elim own.own [
      | inl held ↦ inl (held.0, sym (own-started d part) ∙ held.1, held.2)
      | inr none ↦ inr (sym (own-started d part)
          ∙ none)
    ];
  }

  -- an Ok is answered at a Swap of the own slot
  pub ok-step : (part : Part) (step : Step) → Obeys setting (started d part) now s step → (answer : Option HostAnswer)
      → Tells setting (started d part) now step answer
      → IsPart setting d now part step answer → IsOk answer → IsOwnSwap setting.geom s d step
  ok-step part Local obeys answer tells is_part ok = local-not setting d now part answer is_part ok
  ok-step part (Sent under c r landed took) obeys answer tells is_part ok =
      of-started part (Sent under c r landed took)
      (ok-sent setting (started d part) now s under c r landed took obeys tells.may _ _ answer tells.tells ok)
