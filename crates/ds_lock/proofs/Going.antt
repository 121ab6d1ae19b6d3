-- Where what was read leads.
use Rattle.std.proofs.Common.{◌≡◌, ℕ, ◌<◌, List, [], ◌∷◌, Some, None, refl, sym, ap, subst, arith}
use Rattle.ds_base.specs.Exchanges.{Exchange}
use Rattle.ds_base.specs.declared.sectors.Sector.{Sector}
use Rattle.ds_marks.specs.Header.{IsHeader, header_bytes}
use Rattle.ds_marks.specs.HeaderIn.{header_if_of, header_in}
use Rattle.ds_marks.specs.Slot.{IsSlot, slot_bytes}
use Rattle.ds_marks.specs.SlotIn.{slot_in}
use Rattle.ds_marks.specs.declared.header.Header.{Header}
use Rattle.ds_marks.specs.declared.header.Owner.{Owner}
use Rattle.ds_marks.specs.declared.slot.Slot.{Slot}
use Rattle.ds_marks.specs.declared.slot.SlotState.TheVariants as states
use Rattle.ds_watch.specs.Notes.{Note}
use Rattle.ds_lock.specs.Locking.{BadBreaker, BadHeader, BadOwner, BadOwnerSlot, BadSlot, BreaksNothing, Empty, IsAtOdds, IsDamaged, IsOwned, IsOwnedBy, IsShown, IsSlotNewest, NamesNobody, header_image, lock_sector, read_of, slot_image, slot_sector}
use Rattle.ds_lock.specs.Stages.{Goes}
use Rattle.ds_lock.specs.declared.ends.LockEnd.TheVariants as ends
use Rattle.ds_lock.specs.declared.steps.Wanted.{Wanted}
use Rattle.ds_lock.specs.declared.steps.Went.{Went}
use Rattle.ds_lock.specs.declared.steps.Went.TheVariants as went
use Rattle.ds_lock.proofs.Shown.{Contains-none}

pub same_sector : (a b : Sector) → a.bytes ≡ b.bytes → a ≡ b
same_sector a b e = grind (arith, e)

module _ (w : Wanted) (notes : List Note) (now : ℕ) (pass : List Exchange) where
  pub damaged : (next : Went) (at : ℕ) → next ≡ went.Ended (ends.Damaged at) → IsDamaged w pass at → Goes w notes now pass next
  damaged next at is d = subst (Goes w notes now pass) (sym is) d

  -- the header names nobody
  pub bad-owner : (next : Went) (h : Header) (o : Owner) → next ≡ went.Ended (ends.Damaged (lock_sector w.geom w.object))
      → h.owner ≡ Some o → NamesNobody w o
      → IsShown w pass h → Goes w notes now pass next
  bad-owner next h o is owned nobody shown =
      damaged next (lock_sector w.geom w.object) is (BadOwner h o refl (record { shown = shown; owned = owned }) nobody)

  -- its slot is at odds
  pub bad-slot : (next : Went) (h : Header) (o : Owner) (s : Slot) → next ≡ went.Ended (ends.Damaged (lock_sector w.geom w.object))
      → IsAtOdds w o s
      → IsOwned w pass h o → IsSlotNewest w now pass o.slot s → Goes w notes now pass next
  bad-slot next h o s is odds owned read = damaged next (lock_sector w.geom w.object) is (BadOwnerSlot h o s now refl owned read odds)

  pub empty-slot : (next : Went) (h : Header) (slot : ℕ) (s : Slot) → next ≡ went.Ended (ends.Damaged (lock_sector w.geom w.object))
      → s.state ≡ states.Free
      → IsOwnedBy w pass h slot s → IsSlotNewest w now pass slot s → Goes w notes now pass next
  empty-slot next h slot s is free by read =
      bad-slot next h by.owner s is (Empty by.same_generation free) by.names (subst (λ n. IsSlotNewest w now pass n s)
      (sym by.same_slot) read)

  -- the breaker is none
  pub bad-breaker : (next : Went) (h : Header) (slot by generation : ℕ) (s : Slot)
      → next ≡ went.Ended (ends.Damaged (slot_sector w.geom slot))
      → s.state ≡ states.Breaking by generation → BreaksNothing w slot by → IsOwnedBy w pass h slot s → Goes w notes now pass next
  bad-breaker next h slot by generation s is breaking nothing owned =
      damaged next (slot_sector w.geom slot) is (BadBreaker h slot by generation s refl owned breaking nothing)

module _ (w : Wanted) (notes : List Note) (now tick : ℕ) (pass : List Exchange) (sector : Sector) where
  abbrev read : ℕ → List Exchange
  read at = read_of at sector tick ∷ pass

  pub no-header : (next : Went) → next ≡ went.Ended (ends.Damaged (lock_sector w.geom w.object))
      → header_if_of w.object (header_in sector.bytes) ≡ None
      → Goes w notes now (read (lock_sector w.geom w.object)) next
  no-header next is none = damaged w notes now (read (lock_sector w.geom w.object)) next (lock_sector w.geom w.object) is
      (BadHeader refl (record { sector = sector; read = record { tick = tick; earlier = pass; newest = refl }; none = none }))

  pub no-slot : (next : Went) (slot : ℕ) → slot < w.geom.slots → next ≡ went.Ended (ends.Damaged (slot_sector w.geom slot))
      → slot_in slot sector.bytes ≡ None
      → Goes w notes now (read (slot_sector w.geom slot)) next
  no-slot next slot within is none = damaged w notes now (read (slot_sector w.geom slot)) next (slot_sector w.geom slot) is
      (BadSlot slot refl (record {
        within = within;
        sector = sector;
        read = record { tick = tick; earlier = pass; newest = refl };
        none = none;
      }))

  -- what was read is shown
  pub header-now : (h : Header) → (h.object ≡ w.object) × IsHeader h × (sector.bytes ≡ header_bytes h)
      → IsShown w (read_of (lock_sector w.geom w.object) sector tick ∷ []) h
  header-now h spelled = record {
    later = [];
    tick = tick;
    parts = ap (λ t. read_of (lock_sector w.geom w.object) t tick ∷ []) (same_sector sector (header_image h) spelled.2);
    apart = λ other has. Contains-none (lock_sector w.geom w.object, other) has;
    is_header = spelled.1;
    same_object = spelled.0;
  }

  abbrev pub slot-now : (slot : ℕ) (s : Slot) → slot < w.geom.slots → IsSlot s × (sector.bytes ≡ slot_bytes slot s)
      → IsSlotNewest w tick (read (slot_sector w.geom slot)) slot s
  slot-now slot s within spelled = record {
    within = within;
    earlier = pass;
    newest = ap (λ t. read_of (slot_sector w.geom slot) t tick ∷ pass) (same_sector sector (slot_image slot s) spelled.1);
    is_slot = spelled.0;
  }

pub same-image : (slot : ℕ) (sector : Sector) (s : Slot) → sector.bytes ≡ slot_bytes slot s → sector ≡ slot_image slot s
same-image slot sector s e = same_sector sector (slot_image slot s) e
