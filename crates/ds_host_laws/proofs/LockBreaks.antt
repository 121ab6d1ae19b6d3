-- A slot that has to be broken before a lock is taken may be broken.
use Rattle.std.proofs.Common.{◌≡◌, ◌≢◌, ℕ, ◌<◌, inl, inr, false, cond, List, []}
use Rattle.std.proofs.Common.{◌∷◌, ◌++◌, Some, sym, ap, subst, ◌∙◌, append_assoc, arith}
use Rattle.std.specs.Prelude.{◌==◌}
use Rattle.std.specs.List.{Contains}
use Rattle.std.proofs.lemmas.Bool.Decides.{nat_tests}
use Rattle.ds_base.specs.Exchanges.{Exchange, IsLast, seen_of}
use Rattle.ds_base.specs.declared.commands.Command.{Command}
use Rattle.ds_base.specs.declared.commands.Next.TheVariants as nexts
use Rattle.ds_base.specs.declared.commands.Response.{Response}
use Rattle.ds_base.specs.declared.sectors.Sector.{Sector}
use Rattle.ds_conduct.proofs.Places.{slot_number-of}
use Rattle.ds_conduct.specs.Digests as digests
use Rattle.ds_conduct.specs.Digests.{Digest, Own, noted}
use Rattle.ds_conduct.specs.Guards.{MayBreak, SawOver}
use Rattle.ds_conduct.specs.Guards as guards
use Rattle.ds_conduct.specs.Marks.{slot_number}
use Rattle.ds_conduct.specs.Settings.{Setting}
use Rattle.ds_lock.proofs.Shown.{Contains-cases, Contains-none, seen_of-append, slots-apart}
use Rattle.ds_lock.specs.Locking as locks
use Rattle.ds_lock.specs.Locking.{read_of, slot_image, slot_sector}
use Rattle.ds_lock.specs.Stages.{IsWanted, Leads, LockValue, due, notes_after}
use Rattle.ds_lock.specs.declared.ends.LockEnd.TheVariants as ends
use Rattle.ds_lock.specs.declared.steps.Wanted.{Wanted}
use Rattle.ds_marks.specs.declared.header.Header.{Header}
use Rattle.ds_marks.specs.declared.slot.Slot.{Slot}
use Rattle.ds_marks.specs.declared.slot.SlotState.TheVariants as states
use Rattle.ds_watch.specs.Notes.{IsStale, Note}
use Rattle.ds_host_laws.proofs.LockCauses.{Contains-head, wanted_by}
use Rattle.ds_host_laws.proofs.LockPasses.{head-same}
use Rattle.ds_host_laws.proofs.LockSights.{slot-spelled}
use Rattle.ds_host_laws.proofs.Locks.{ended-by, exchanges-are, is-wanted, notes-same}
use Rattle.ds_host_laws.specs.Locks.{IsTaking, MayBeBroken}

apart-test : (a b : ℕ) → b ≢ a → (a == b) ≡ false
apart-test a b differs = grind (arith, nat_tests)

-- a slot that was read and not shown since was shown last
abbrev last-read : (all later earlier : List Exchange) (at tick : ℕ) (s : Sector) → all ≡ later ++ read_of at s tick ∷ earlier
    → locks.IsUnshown later at
    → IsLast (seen_of all) at s
last-read all later earlier at tick s parts apart = record {
  newer = seen_of later;
  older = seen_of earlier;
  parts = ap seen_of parts ∙ seen_of-append later (read_of at s tick ∷ earlier);
  newest = apart;
}

module _ (setting : Setting) (own : Own) (object : ℕ) (is_wanted : IsWanted (wanted_by setting own object)) (d : Digest) (now slot : ℕ)
    (s : Slot) (pass rest : List Exchange) (parts : d.exchanges ≡ pass ++ rest) where
  abbrev w : Wanted
  w = wanted_by setting own object

  -- it was noted, and is stale
  broken-stale : (older : List Note) → d.notes ≡ record { slot = slot; image = slot_image slot s; tick = now } ∷ older
      → locks.IsSlotNewest w now pass slot s
      → s.state ≡ states.Live → IsStale d.notes slot (slot_image slot s) now → MayBeBroken setting d now slot s
  broken-stale older noted' newest live stale =
      let note : Note = record { slot = slot; image = slot_image slot s; tick = now } in
      let x : Exchange = read_of (slot_sector setting.geom slot) (slot_image slot s) now in
      record {
        last = last-read d.exchanges [] (newest.earlier ++ rest) (slot_sector setting.geom slot) now (slot_image slot s)
            (parts ∙ ap (λ (l : List Exchange). l ++ rest) newest.newest) (λ other has. Contains-none (slot_sector setting.geom slot, other)
            has);
        may = subst (λ state. MayBreak setting d now [] slot (slot_image slot s) state) (sym live) (guards.Stale (record {
          newer = [];
          last = now;
          older = older;
          parts = noted';
          stale = subst (λ n. IsStale n slot (slot_image slot s) now) noted' stale;
          same = λ other has. absurd (no-note other has);
        }));
      }
    where
      no-note : (other : Note) → Contains [] other → ⊥
      no-note other has = omega (arith, has.1)

  -- its breaker is over
  broken-seized : (h : Header) (by' generation : ℕ) (breaker : Slot) → locks.IsBreakerRead w now pass h slot s by' generation breaker
      → generation < breaker.generation → MayBeBroken setting d now slot s
  broken-seized h by' generation breaker is over =
      let read = is.owned.read in
      let slot_read : Exchange = read_of (slot_sector setting.geom slot) (slot_image slot s) read.tick in
      let breaker_read : Exchange = read_of (slot_sector setting.geom by') (slot_image by' breaker) now in
      let whole : d.exchanges ≡ (breaker_read ∷ read.later) ++ slot_read ∷ (read.earlier ++ rest) =
      parts ∙ (ap (λ (l : List Exchange). l ++ rest) is.read.newest
      ∙ (ap (λ (l : List Exchange). breaker_read ∷ (l ++ rest)) read.parts
      ∙ ap (λ (l : List Exchange). breaker_read ∷ l) (append_assoc read.later (slot_read ∷ read.earlier) rest))) in
      record {
        last = last-read d.exchanges (breaker_read ∷ read.later) (read.earlier ++ rest) (slot_sector setting.geom slot) read.tick
            (slot_image slot s) whole (apart read.later read.apart);
        may = subst (λ state. MayBreak setting d now ((slot_sector setting.geom by', slot_image by' breaker) ∷ seen_of read.later) slot
            (slot_image slot s) state) (sym is.breaking) (guards.Seized by' generation (record {
              within = is.read.within;
              sector = slot_image by' breaker;
              shown = Contains-head (slot_sector setting.geom by', slot_image by' breaker) (seen_of read.later);
              image = breaker;
              spelled = slot-spelled w is_wanted.is_geom by' breaker is.read.within is.read.is_slot;
              above = over;
            }));
      }
    where
      apart : (later : List Exchange) → locks.IsUnshown later (slot_sector setting.geom slot)
          → locks.IsUnshown (read_of (slot_sector setting.geom by') (slot_image by' breaker) now ∷ later) (slot_sector setting.geom slot)
      apart later none other has = elim (Contains-cases (seen_of later) (slot_sector setting.geom by', slot_image by' breaker)
          (slot_sector setting.geom slot, other) has) [
            | inl same ↦ slots-apart setting.geom by' slot is.other (ap (λ (p : ℕ × Sector). p.0) same)
            | inr there ↦ none other there
          ]

module _ (setting : Setting) (d : Digest) (own : Own) (run : LockValue) (xs ys : List Exchange) (taking : IsTaking setting d own run xs ys)
    (now : ℕ) (command : Command) (due : due run ≡ nexts.Send command) (response : Response) (run' : LockValue)
    (same : run'.wanted ≡ run.wanted) where
  abbrev x : Exchange
  x = record { command = command; response = response; tick = now }

  abbrev after : Digest
  after = noted setting.geom d now command response

  abbrev wanted : Wanted
  wanted = wanted_by setting own run.wanted.object

  -- what is noted where a slot of others was read
  slot-noted : (slot : ℕ) (s : Sector) → slot < setting.geom.slots → slot ≢ own.slot → x ≡ read_of (slot_sector setting.geom slot) s now
      → after.notes ≡ record { slot = slot; image = s; tick = now } ∷ d.notes
  slot-noted slot s within other is =
      ap (λ (y : Exchange). digests.notes_after setting.geom d.own now y.command y.response d.notes) is
      ∙ (ap (λ o. digests.noted_of o (slot_number setting.geom (slot_sector setting.geom slot)) now s d.notes) taking.holds
      ∙ (ap (λ n. digests.noted_of (Some own) n now s d.notes) (slot_number-of setting.geom slot within)
      ∙ ap (λ b. cond b d.notes (record { slot = slot; image = s; tick = now } ∷ d.notes)) (apart-test own.slot slot other)))

  by-loss : (slot : ℕ) (s : Slot) (pass rest : List Exchange) (h : Header) → x ∷ d.exchanges ≡ pass ++ rest
      → locks.IsOwnedBy wanted pass h slot s
      → locks.IsLost wanted (notes_after run response now d.notes) now pass h slot s → MayBeBroken setting after now slot s
  by-loss slot s pass rest h parts by' (locks.Stale newest live stale) =
      let read = read_of (slot_sector setting.geom slot) (slot_image slot s) now in
      let is : x ≡ read = head-same d.exchanges (newest.earlier ++ rest) x read
      (parts ∙ ap (λ (l : List Exchange). l ++ rest) newest.newest) in
      broken-stale setting own run.wanted.object (is-wanted setting d own run xs ys taking) after now slot s pass rest parts d.notes
      (slot-noted slot (slot_image slot s) newest.within by'.other is) newest live
      (subst (λ n. IsStale n slot (slot_image slot s) now) (sym (notes-same setting d own run xs ys taking now command due response)) stale)
  by-loss slot s pass rest h parts by' (locks.Seized by_slot generation breaker is over) =
      broken-seized setting own run.wanted.object (is-wanted setting d own run xs ys taking) after now slot s pass rest parts h by_slot
      generation breaker is over

  -- the slot that has to be broken may be broken
  pub may-be-broken : (slot : ℕ) (s : Slot) → Leads run' (Some (ends.NeedsBreak slot s)) (notes_after run response now d.notes) now (x ∷ xs)
      → MayBeBroken setting after now slot s
  may-be-broken slot s leads =
      let notes : List Note = notes_after run response now d.notes in
      let by_pass = ended-by setting d own run xs ys taking now command due response run' (ends.NeedsBreak slot s) notes same leads.0 in
      let all = exchanges-are setting d own run xs ys taking now command due response run'.missed by_pass.0 by_pass.1 in
      by-loss slot s by_pass.0 all.0 by_pass.2.0 all.1 by_pass.2.1.by by_pass.2.1.lost
