-- The ends of a lock's taking, as causes of answers.
use Rattle.std.proofs.Common.{◌≡◌, ◌≢◌, ℕ, ◌^◌, ◌≤◌, ◌⊎◌, inl, inr, List, []}
use Rattle.std.proofs.Common.{◌∷◌, ◌++◌, Some, refl, sym, ap, subst, ◌∙◌, append_assoc, arith}
use Rattle.std.specs.List.{Contains}
use Rattle.std.proofs.lemmas.List.Elements.{Contains-append_right}
use Rattle.std.proofs.lemmas.Option.{same_Some}
use Rattle.ds_base.specs.Exchanges.{Exchange, IsLast, seen_of}
use Rattle.ds_base.specs.declared.commands.Command.TheVariants.{Read, Swap}
use Rattle.ds_base.specs.declared.names.Key.{Key}
use Rattle.ds_base.specs.declared.sectors.Sector.{Sector}
use Rattle.ds_conduct.specs.Causes as causes
use Rattle.ds_conduct.specs.Digests.{Own}
use Rattle.ds_conduct.specs.Exchanges.{MissAt, ReadAt}
use Rattle.ds_conduct.specs.Headers.{IsOf, owner_of}
use Rattle.ds_conduct.specs.Settings.{Setting}
use Rattle.ds_lock.proofs.Order.{read-after}
use Rattle.ds_lock.proofs.Shown.{last-lifts, newest-read}
use Rattle.ds_lock.specs.Locking as locks
use Rattle.ds_lock.specs.Locking.{header_image, lock_sector, read_of, slot_image, slot_sector}
use Rattle.ds_lock.specs.Stages.{IsWanted}
use Rattle.ds_lock.specs.declared.steps.Wanted.{Wanted}
use Rattle.ds_marks.specs.declared.header.Header.{Header}
use Rattle.ds_marks.specs.declared.header.Owner.{Owner}
use Rattle.ds_marks.specs.declared.slot.Slot.{Slot}
use Rattle.ds_tree.specs.declared.calls.CallOf.{CallOf}
use Rattle.ds_watch.specs.Notes.{Note}
use Rattle.ds_host_laws.proofs.LockPasses.{last-behind}
use Rattle.ds_host_laws.proofs.LockSights.{read-at, reads-header, reads-slot, regrouped, shown-header, shown-other, shown-owner}
use Rattle.ds_host_laws.specs.Locks.{HasBegun, IsBreakable, OfBreaking, OfLive, ReadsBreakable}

abbrev Pair : Type 0
Pair = ℕ × Sector

pub Contains-head : (x : Pair) (xs : List Pair) → Contains (x ∷ xs) x
Contains-head x xs = (0, omega arith, refl)

pub contains-last : (list : List Pair) (at : ℕ) (s : Sector) → IsLast list at s → Contains list (at, s)
contains-last list at s last = subst (λ (l : List Pair). Contains l (at, s)) (sym last.parts)
    (Contains-append_right last.newer ((at, s) ∷ last.older) (at, s) (Contains-head (at, s) last.older))

-- what a host wants that takes a lock under the generation that it holds
abbrev pub wanted_by : Setting → Own → ℕ → Wanted
wanted_by setting own object = record { geom = setting.geom; own = owner_of setting own; object = object }

module _ (setting : Setting) (own : Own) (object : ℕ) (is_wanted : IsWanted (wanted_by setting own object)) where
  abbrev w : Wanted
  w = wanted_by setting own object

  module _ (notes : List Note) (now : ℕ) (pass rest : List Exchange) where
    -- the owner, of whose slot the newest exchange is a Read
    abbrev newest-owned : (h : Header) (slot : ℕ) (s : Slot) → locks.IsOwnedBy w pass h slot s → locks.IsSlotNewest w now pass slot s
        → locks.IsOwnedBy w pass h slot s
    newest-owned h slot s by' newest = record {
      owner = by'.owner;
      names = by'.names;
      same_slot = by'.same_slot;
      read = newest-read w now pass slot s newest;
      same_generation = by'.same_generation;
      other = by'.other;
    }

    pub held-cause : (slot : ℕ) (s : Slot) → locks.IsHeld w notes now pass slot s
        → causes.IsHeld setting.geom own notes now (pass ++ rest) object slot s
    held-cause slot s held = record {
      by = shown-other w is_wanted.is_geom own refl [] pass rest held.header slot s
          (newest-owned held.header slot s held.by held.read);
      newest = refl;
      live = held.live;
      alive = held.alive;
    }

    pub recovering-cause : (slot : ℕ) (s breaker : Slot) → locks.IsRecovering w now pass slot s breaker
        → causes.IsRecovering setting.geom own (pass ++ rest) object slot s breaker
    recovering-cause slot s breaker is =
        let by_read : Exchange = read_of (slot_sector w.geom is.by) (slot_image is.by breaker) now in
        let read = is.read.read in
        let owned = is.read.owned in
        subst (λ (l : List Exchange). causes.IsRecovering setting.geom own (l ++ rest) object slot s breaker) (sym read.newest)
        (record {
          owner = shown-other w is_wanted.is_geom own refl (by_read ∷ []) read.earlier rest is.header slot s owned;
          by = is.by;
          generation = is.generation;
          breaking = is.read.breaking;
          shown = reads-slot w is_wanted.is_geom (by_read ∷ owned.read.later) [] owned.read.later now is.by breaker read.within read.is_slot
              refl;
          newest = refl;
          stands = is.stands;
        })

    -- a sector that was read just now
    newest-at : (at number : ℕ) (sector : Sector) → at ≡ number → locks.IsRead pass number sector → ReadAt (pass ++ rest) at sector
    newest-at at number sector e read = subst (λ n. ReadAt (pass ++ rest) n sector) (sym e)
        (read-at (pass ++ rest) [] (read.earlier ++ rest) number read.tick sector (ap (λ (l : List Exchange). l ++ rest) read.newest))

    -- a slot that was read and not shown since
    read-slot : (slot : ℕ) (s : Slot) → locks.IsSlotRead w pass slot s → causes.ReadsSlot setting.geom (pass ++ rest) slot s
    read-slot slot s read =
        let x : Exchange = read_of (slot_sector setting.geom slot) (slot_image slot s) read.tick in
        reads-slot w is_wanted.is_geom (pass ++ rest) read.later (read.earlier ++ rest) read.tick slot s read.within read.is_slot
        (ap (λ (l : List Exchange). l ++ rest) read.parts ∙ append_assoc read.later (x ∷ read.earlier) rest)

    nobody : (o : Owner) → locks.NamesNobody w o → causes.NamesNobody setting.geom own o
    nobody o (locks.Outside beyond) = causes.Outside beyond
    nobody o (locks.Later same later) = causes.Later same later

    at-odds : (o : Owner) (s : Slot) → locks.IsAtOdds w o s → causes.IsAtOdds own o s
    at-odds o s (locks.Own same earlier stays) = causes.Itself same stays
    at-odds o s (locks.Behind less) = causes.Behind less
    at-odds o s (locks.Empty same free) = causes.Empty same free

    breaks-nothing : (slot by' : ℕ) → locks.BreaksNothing w slot by' → (setting.geom.slots ≤ by') ⊎ (by' ≡ slot)
    breaks-nothing slot by' (locks.Beyond beyond) = inl beyond
    breaks-nothing slot by' (locks.Itself same) = inr same

    -- a slot that was read just now, after the header
    owner-slot : (h : Header) (o : Owner) (s : Slot) (tick : ℕ) → (owned : locks.IsOwned w pass h o)
        → locks.IsSlotNewest w tick pass o.slot s
        → (named : causes.ReadsOwner setting.geom (pass ++ rest) object o)
        × causes.ReadsSlot setting.geom named.reads.read.later o.slot s
    owner-slot h o s tick owned newest =
        let order = read-after w pass h owned.shown o.slot s (newest-read w tick pass o.slot s newest) in
        let header : Exchange = read_of (lock_sector setting.geom object) (header_image h) owned.shown.tick in
        let slot : Exchange = read_of (slot_sector setting.geom o.slot) (slot_image o.slot s) tick in (
          record {
            header = h;
            reads = reads-header w is_wanted.is_geom (pass ++ rest) (slot ∷ order.0) rest owned.shown.tick h owned.shown.is_header
                owned.shown.same_object (regrouped [] pass [] order.0 rest slot header order.1);
            owned = owned.owned;
          },
          reads-slot w is_wanted.is_geom (slot ∷ order.0) [] order.0 tick o.slot s newest.within newest.is_slot refl,
        )

    pub damaged-cause : (IsPlanned : CallOf Key → List ℕ → Type 0) (at : ℕ) → locks.IsDamaged w pass at
        → causes.IsDamaged setting own notes (pass ++ rest) IsPlanned at
    damaged-cause IsPlanned at (locks.BadHeader e spells) =
        causes.BadHeader object spells.sector is_wanted.is_lock e
        (newest-at at (lock_sector setting.geom object) spells.sector e spells.read) spells.none
    damaged-cause IsPlanned at (locks.BadSlot slot e spells) =
        causes.BadSlot slot spells.sector spells.within e
        (newest-at at (slot_sector setting.geom slot) spells.sector e spells.read) spells.none
    damaged-cause IsPlanned at (locks.BadOwner h o e owned names) =
        causes.BadOwner object o e (shown-owner w is_wanted.is_geom own refl [] pass rest h o owned) (nobody o names)
    damaged-cause IsPlanned at (locks.BadOwnerSlot h o s tick e owned newest odds) =
        let reads = owner-slot h o s tick owned newest in
        causes.BadOwnerSlot object o s reads.0 e reads.1 (at-odds o s odds)
    damaged-cause IsPlanned at (locks.BadBreaker h slot by' generation s e owned breaking nothing) =
        causes.BadBreaker slot by' generation s e (read-slot slot s owned.read) breaking (breaks-nothing slot by' nothing)

    -- the header that is to be taken doesn't name the generation held
    abbrev pub IsNotOwn : Type 0
    IsNotOwn = (h : Header) (o : Owner) → locks.IsShown w pass h → locks.IsLoose w pass h → 2 ^ 62 ≤ h.generation → h.owner ≡ Some o
        → IsOf o own.slot own.generation → ⊥

    pub other-owner : (h : Header) (slot : ℕ) (s : Slot) → locks.IsOwnedBy w pass h slot s → (o : Owner) → h.owner ≡ Some o
        → IsOf o own.slot own.generation → ⊥
    other-owner h slot s by' o owned is =
        let same : by'.owner ≡ o = same_Some by'.owner o (sym by'.names.owned ∙ owned) in
        by'.other (sym by'.same_slot ∙ (ap (λ (v : Owner). v.slot) same ∙ is.same_slot))

    pub worn-cause : (IsPlanned : CallOf Key → List ℕ → Type 0) → IsNotOwn → locks.IsSpent w notes now pass
        → causes.IsWornOut setting own (pass ++ rest) IsPlanned
    worn-cause IsPlanned not_own (locks.Untaken h shown loose most) =
        causes.WornHeader object h (shown-header w is_wanted.is_geom own refl [] pass rest h shown)
        (λ o owned is. not_own h o shown loose most owned is) most
    worn-cause IsPlanned not_own (locks.Unbroken h slot s by' lost (inl most)) =
        causes.WornHeader object h (shown-header w is_wanted.is_geom own refl [] pass rest h by'.names.shown)
        (other-owner h slot s by') most
    worn-cause IsPlanned not_own (locks.Unbroken h slot s by' lost (inr most)) = causes.WornSlot slot s (read-slot slot s by'.read) most

    breakable : (h : Header) (slot : ℕ) (s : Slot) → locks.IsLost w notes now pass h slot s → IsBreakable s.state
    breakable h slot s (locks.Stale newest live stale) = subst IsBreakable (sym live) OfLive
    breakable h slot s (locks.Seized by' generation breaker read over) = subst IsBreakable (sym read.breaking) (OfBreaking by' generation)

    pub breakable-cause : (h : Header) (slot : ℕ) (s : Slot) → locks.IsToBreak w notes now pass h slot s
        → ReadsBreakable setting.geom own (pass ++ rest) slot s
    breakable-cause h slot s is = record {
      reads = read-slot slot s is.by.read;
      other = is.by.other;
      breakable = breakable h slot s is.lost;
      room = is.slot_room;
    }

  -- a Swap that missed, with what came later and before
  abbrev miss-at : (all later behind earlier tail : List Exchange) (x : Exchange) → all ≡ later ++ x ∷ behind → behind ≡ earlier ++ tail
      → (m : locks.Misses w x earlier) → MissAt all m.at
  miss-at all later behind earlier tail x parts behind_is m = record {
    later = later;
    exchange = x;
    earlier = behind;
    is_at = record { parts = parts };
    verify = m.verify;
    fresh = m.fresh;
    offset = m.offset;
    missed = record { command = ap (λ (y : Exchange). y.command) m.is; response = ap (λ (y : Exchange). y.response) m.is };
    last = subst (λ (l : List Exchange). IsLast (seen_of l) m.at m.verify) (sym behind_is) (last-lifts earlier tail m.at m.verify m.last);
  }

  pub raced-cause : (xs older : List Exchange) (raced : locks.IsRaced w xs) → HasBegun w raced.rest
      → causes.IsLockRaced setting.geom (xs ++ older) object
  raced-cause xs older raced begun =
      let first : Exchange = raced.since.first in
      let header : Exchange = read_of (lock_sector setting.geom object) begun.sector begun.tick in
      let behind : raced.rest ++ older ≡ raced.pass ++ first ∷ (raced.since.earlier ++ older) =
      ap (λ (l : List Exchange). l ++ older) raced.since.parts ∙ append_assoc raced.pass (first ∷ raced.since.earlier) older in
      let apart : first ≢ header = λ same. absurd (let c : Swap raced.since.misses.at raced.since.misses.verify raced.since.misses.fresh
      ≡ Read (lock_sector setting.geom object) = sym (ap (λ (y : Exchange). y.command) raced.since.misses.is)
      ∙ ap (λ (y : Exchange). y.command) same in cc) in
      let begins = last-behind raced.pass raced.since.earlier begun.later first header apart (sym raced.since.parts ∙ begun.parts) in
      record {
        raced = record {
          at = raced.misses.at;
          contended = raced.misses.contended;
          second = miss-at (xs ++ older) [] (raced.rest ++ older) raced.pass (first ∷ (raced.since.earlier ++ older)) raced.second
              (ap (λ (l : List Exchange). l ++ older) raced.newest) behind raced.misses;
          newest = refl;
          before = raced.since.misses.at;
          contended_before = raced.since.misses.contended;
          first = miss-at (raced.rest ++ older) raced.pass (raced.since.earlier ++ older) raced.since.earlier older first behind refl
              raced.since.misses;
          again = contains-last (seen_of raced.pass) raced.misses.at raced.misses.verify raced.misses.last;
        };
        sector = begun.sector;
        begun = read-at (raced.since.earlier ++ older) begins.0 older (lock_sector setting.geom object) begun.tick begun.sector
            (ap (λ (l : List Exchange). l ++ older) begins.1 ∙ append_assoc begins.0 (header ∷ []) older);
      }
