-- What the taking of a lock has sent and heard when it ends so. A pass is what was sent and heard since it began, or since a Swap missed;
-- the newest exchange stands first.
use Rattle.std.specs.Prelude.{◌≡◌, ◌≢◌, ℕ, ◌+◌, ◌^◌, ◌<◌, ◌≤◌, ◌⊎◌, List, [], ◌∷◌, ◌++◌, Some, None, ⊤}
use Rattle.std.specs.List.{Contains}
use Rattle.ds_base.specs.Exchanges.{Exchange, IsLast, seen_of}
use Rattle.ds_base.specs.declared.commands.Command.TheVariants.{Read, Swap}
use Rattle.ds_base.specs.declared.commands.Response.{Response}
use Rattle.ds_base.specs.declared.commands.Response.TheVariants.{Got, Done, Miscompare, Fault}
use Rattle.ds_base.specs.declared.geometry.Geom.{Geom}
use Rattle.ds_base.specs.declared.sectors.Sector.{Sector}
use Rattle.ds_layout.specs.Places.{place_sector}
use Rattle.ds_layout.specs.declared.places.Place.TheVariants as places
use Rattle.ds_marks.specs.Header.{IsHeader, header_bytes}
use Rattle.ds_marks.specs.HeaderIn.{header_if_of, header_in}
use Rattle.ds_marks.specs.Slot.{IsSlot, slot_bytes}
use Rattle.ds_marks.specs.SlotIn.{slot_in}
use Rattle.ds_marks.specs.declared.header.Header.{Header}
use Rattle.ds_marks.specs.declared.header.Owner.{Owner}
use Rattle.ds_marks.specs.declared.slot.Slot.{Slot}
use Rattle.ds_marks.specs.declared.slot.SlotState.TheVariants as states
use Rattle.ds_watch.specs.Notes.{IsStale, Note}
use Rattle.ds_lock.specs.declared.ends.LockEnd.{LockEnd}
use Rattle.ds_lock.specs.declared.ends.LockEnd.TheVariants as ends
use Rattle.ds_lock.specs.declared.how.How.TheVariants.{Held, Recovering, Raced}
use Rattle.ds_lock.specs.declared.steps.Wanted.{Wanted}

abbrev pub lock_sector : Geom → ℕ → ℕ
lock_sector g object = place_sector g (places.Header object)

abbrev pub slot_sector : Geom → ℕ → ℕ
slot_sector g slot = place_sector g (places.Slot slot)

abbrev pub header_image : Header → Sector
header_image h = record { bytes = header_bytes h }

abbrev pub slot_image : ℕ → Slot → Sector
slot_image slot s = record { bytes = slot_bytes slot s }

-- the header with the host as its owner, in the next generation
abbrev pub taken_from : Owner → Header → Header
taken_from own h = record { object = h.object; generation = h.generation + 1; owner = Some own }

-- a Read of this sector that gave this
abbrev pub read_of : ℕ → Sector → ℕ → Exchange
read_of at sector tick = record { command = Read at; response = Got sector; tick = tick }

-- nothing was shown of this sector
abbrev pub IsUnshown : List Exchange → ℕ → Type 0
IsUnshown xs at = (sector : Sector) → Contains (seen_of xs) (at, sector) → ⊥

-- the pass began with a Read that gave this header, and the header wasn't shown since
pub record IsShown (w : Wanted) (pass : List Exchange) (h : Header) : Type 0 where
  pub later : List Exchange
  pub tick : ℕ
  pub parts : pass ≡ later ++ read_of (lock_sector w.geom w.object) (header_image h) tick ∷ []
  pub apart : IsUnshown later (lock_sector w.geom w.object)
  pub is_header : IsHeader h
  pub same_object : h.object ≡ w.object

-- it names this owner
pub record IsOwned (w : Wanted) (pass : List Exchange) (h : Header) (o : Owner) : Type 0 where
  pub shown : IsShown w pass h
  pub owned : h.owner ≡ Some o

-- the slot showed this last
pub record IsSlotShown (w : Wanted) (pass : List Exchange) (slot : ℕ) (s : Slot) : Type 0 where
  pub within : slot < w.geom.slots
  pub last : IsLast (seen_of pass) (slot_sector w.geom slot) (slot_image slot s)
  pub is_slot : IsSlot s

-- a Read of the slot gave this, and the slot wasn't shown since
pub record IsSlotRead (w : Wanted) (pass : List Exchange) (slot : ℕ) (s : Slot) : Type 0 where
  pub within : slot < w.geom.slots
  pub later : List Exchange
  pub tick : ℕ
  pub earlier : List Exchange
  pub parts : pass ≡ later ++ read_of (slot_sector w.geom slot) (slot_image slot s) tick ∷ earlier
  pub apart : IsUnshown later (slot_sector w.geom slot)
  pub is_slot : IsSlot s

-- the newest exchange is a Read of the slot, at this tick, that gave this
pub record IsSlotNewest (w : Wanted) (tick : ℕ) (pass : List Exchange) (slot : ℕ) (s : Slot) : Type 0 where
  pub within : slot < w.geom.slots
  pub earlier : List Exchange
  pub newest : pass ≡ read_of (slot_sector w.geom slot) (slot_image slot s) tick ∷ earlier
  pub is_slot : IsSlot s

-- nobody has the lock: the header names no owner, or one whose slot is in a later generation
pub data IsLoose (w : Wanted) (pass : List Exchange) (h : Header) : Type 0 where
  Unowned : h.owner ≡ None → IsLoose w pass h
  Over : (o : Owner) (s : Slot) → h.owner ≡ Some o → IsSlotShown w pass o.slot s → o.generation < s.generation → IsLoose w pass h

-- the generation in which the slot is, another one than the host's, has the lock
pub record IsOwnedBy (w : Wanted) (pass : List Exchange) (h : Header) (slot : ℕ) (s : Slot) : Type 0 where
  pub owner : Owner
  pub names : IsOwned w pass h owner
  pub same_slot : owner.slot ≡ slot
  pub read : IsSlotRead w pass slot s
  pub same_generation : s.generation ≡ owner.generation
  pub other : slot ≢ w.own.slot

-- the slot that breaks this one was read just now, after this one was read in the generation that has the lock
pub record IsBreakerRead (w : Wanted) (now : ℕ) (pass : List Exchange) (h : Header) (slot : ℕ) (s : Slot) (by generation : ℕ)
    (breaker : Slot) : Type 0 where
  pub read : IsSlotNewest w now pass by breaker
  pub owned : IsOwnedBy w read.earlier h slot s
  pub breaking : s.state ≡ states.Breaking by generation
  pub other : by ≢ slot

-- that generation is lost: its slot is stale, or the generation that was breaking it is over
pub data IsLost (w : Wanted) (notes : List Note) (now : ℕ) (pass : List Exchange) (h : Header) (slot : ℕ) (s : Slot) : Type 0 where
  Stale : IsSlotNewest w now pass slot s → s.state ≡ states.Live → IsStale notes slot (slot_image slot s) now
      → IsLost w notes now pass h slot s
  Seized : (by generation : ℕ) (breaker : Slot) → IsBreakerRead w now pass h slot s by generation breaker
      → generation < breaker.generation → IsLost w notes now pass h slot s

-- the header names the host's own generation
pub record HasLock (w : Wanted) (pass : List Exchange) : Type 0 where
  pub header : Header
  pub owner : Owner
  pub names : IsOwned w pass header owner
  pub same_slot : owner.slot ≡ w.own.slot
  pub same_generation : owner.generation ≡ w.own.generation

-- the newest exchange took a lock that nobody had
pub record TakesLock (w : Wanted) (pass : List Exchange) : Type 0 where
  pub header : Header
  pub tick : ℕ
  pub earlier : List Exchange
  pub newest : pass ≡ record {
    command = Swap (lock_sector w.geom w.object) (header_image header) (header_image (taken_from w.own header));
    response = Done;
    tick = tick;
  } ∷ earlier
  pub shown : IsShown w earlier header
  pub loose : IsLoose w earlier header
  pub room : header.generation < 2 ^ 62

-- the slot, read just now, is live in the generation that has the lock, and isn't stale
pub record IsHeld (w : Wanted) (notes : List Note) (now : ℕ) (pass : List Exchange) (slot : ℕ) (s : Slot) : Type 0 where
  pub header : Header
  pub by : IsOwnedBy w pass header slot s
  pub read : IsSlotNewest w now pass slot s
  pub live : s.state ≡ states.Live
  pub alive : IsStale notes slot (slot_image slot s) now → ⊥

-- the generation that has the lock is being broken, by one that isn't over
pub record IsRecovering (w : Wanted) (now : ℕ) (pass : List Exchange) (slot : ℕ) (s breaker : Slot) : Type 0 where
  pub header : Header
  pub by : ℕ
  pub generation : ℕ
  pub read : IsBreakerRead w now pass header slot s by generation breaker
  pub stands : breaker.generation ≤ generation

-- the generation that has the lock is lost, and its slot can be turned free
pub record IsToBreak (w : Wanted) (notes : List Note) (now : ℕ) (pass : List Exchange) (h : Header) (slot : ℕ) (s : Slot) : Type 0 where
  pub by : IsOwnedBy w pass h slot s
  pub lost : IsLost w notes now pass h slot s
  pub room : h.generation < 2 ^ 62
  pub slot_room : s.generation < 2 ^ 62

-- a generation that would be raised is at its end
pub data IsSpent (w : Wanted) (notes : List Note) (now : ℕ) (pass : List Exchange) : Type 0 where
  Untaken : (h : Header) → IsShown w pass h → IsLoose w pass h → 2 ^ 62 ≤ h.generation → IsSpent w notes now pass
  Unbroken : (h : Header) (slot : ℕ) (s : Slot) → IsOwnedBy w pass h slot s → IsLost w notes now pass h slot s
      → (2 ^ 62 ≤ h.generation) ⊎ (2 ^ 62 ≤ s.generation) → IsSpent w notes now pass

-- the newest exchange read this
pub record IsRead (pass : List Exchange) (at : ℕ) (sector : Sector) : Type 0 where
  pub tick : ℕ
  pub earlier : List Exchange
  pub newest : pass ≡ read_of at sector tick ∷ earlier

-- the header spells nothing
pub record SpellsNoHeader (w : Wanted) (pass : List Exchange) : Type 0 where
  pub sector : Sector
  pub read : IsRead pass (lock_sector w.geom w.object) sector
  pub none : header_if_of w.object (header_in sector.bytes) ≡ None

-- this slot spells nothing
pub record SpellsNoSlot (w : Wanted) (pass : List Exchange) (slot : ℕ) : Type 0 where
  pub within : slot < w.geom.slots
  pub sector : Sector
  pub read : IsRead pass (slot_sector w.geom slot) sector
  pub none : slot_in slot sector.bytes ≡ None

-- the header names an owner that there can't be: a slot outside the volume, or the own one in a later generation
pub data NamesNobody (w : Wanted) (o : Owner) : Type 0 where
  Outside : w.geom.slots ≤ o.slot → NamesNobody w o
  Later : o.slot ≡ w.own.slot → w.own.generation < o.generation → NamesNobody w o

-- where the header names the host's own slot, it names an earlier generation
abbrev pub IsEarlier : Wanted → Owner → Type 0
IsEarlier w o = o.slot ≡ w.own.slot → o.generation < w.own.generation

-- its slot isn't as an owner's can be: it is the own one and not over, or it isn't in that generation yet, or it is free in it
pub data IsAtOdds (w : Wanted) (o : Owner) (s : Slot) : Type 0 where
  Own : o.slot ≡ w.own.slot → o.generation < w.own.generation → s.generation ≤ o.generation → IsAtOdds w o s
  Behind : s.generation < o.generation → IsAtOdds w o s
  Empty : s.generation ≡ o.generation → s.state ≡ states.Free → IsAtOdds w o s

-- the slot that breaks this one can't be: it is outside the volume, or this one
pub data BreaksNothing (w : Wanted) (slot by : ℕ) : Type 0 where
  Beyond : w.geom.slots ≤ by → BreaksNothing w slot by
  Itself : by ≡ slot → BreaksNothing w slot by

-- which sector is damaged, and by what
pub data IsDamaged (w : Wanted) (pass : List Exchange) (at : ℕ) : Type 0 where
  BadHeader : at ≡ lock_sector w.geom w.object → SpellsNoHeader w pass → IsDamaged w pass at
  BadSlot : (slot : ℕ) → at ≡ slot_sector w.geom slot → SpellsNoSlot w pass slot → IsDamaged w pass at
  BadOwner : (h : Header) (o : Owner) → at ≡ lock_sector w.geom w.object → IsOwned w pass h o → NamesNobody w o → IsDamaged w pass at
  BadOwnerSlot : (h : Header) (o : Owner) (s : Slot) (tick : ℕ) → at ≡ lock_sector w.geom w.object → IsOwned w pass h o
      → IsSlotNewest w tick pass o.slot s → IsAtOdds w o s → IsDamaged w pass at
  BadBreaker : (h : Header) (slot by generation : ℕ) (s : Slot) → at ≡ slot_sector w.geom slot → IsOwnedBy w pass h slot s
      → s.state ≡ states.Breaking by generation → BreaksNothing w slot by → IsDamaged w pass at

-- the newest exchange failed
pub record HasFaulted (pass : List Exchange) : Type 0 where
  pub newest : Exchange
  pub earlier : List Exchange
  pub parts : pass ≡ newest ∷ earlier
  pub failed : newest.response ≡ Fault

-- why a pass ends so
abbrev pub Cause : Wanted → List Note → ℕ → List Exchange → LockEnd → Type 0
Cause w notes now pass ends.Got = HasLock w pass ⊎ TakesLock w pass
Cause w notes now pass (ends.Busy (Held slot s)) = IsHeld w notes now pass slot s
Cause w notes now pass (ends.Busy (Recovering slot s breaker)) = IsRecovering w now pass slot s breaker
Cause w notes now pass (ends.Busy Raced) = ⊥
Cause w notes now pass (ends.Damaged sector) = IsDamaged w pass sector
Cause w notes now pass ends.WornOut = IsSpent w notes now pass
Cause w notes now pass ends.Faulted = HasFaulted pass
Cause w notes now pass (ends.NeedsBreak slot s) = (h : Header) × IsToBreak w notes now pass h slot s

-- the header or a slot, whose Swaps count as missed
abbrev pub IsContended : Wanted → ℕ → Type 0
IsContended w at = (at ≡ lock_sector w.geom w.object) ⊎ ((slot : ℕ) × (slot < w.geom.slots) × (at ≡ slot_sector w.geom slot))

-- a Swap that verified what was shown there last found another image in place
pub record Misses (w : Wanted) (x : Exchange) (earlier : List Exchange) : Type 0 where
  pub at : ℕ
  pub verify : Sector
  pub fresh : Sector
  pub offset : ℕ
  pub tick : ℕ
  pub is : x ≡ record { command = Swap at verify fresh; response = Miscompare offset; tick = tick }
  pub contended : IsContended w at
  pub last : IsLast (seen_of earlier) at verify

abbrev pub IsNoMiss : Response → Type 0
IsNoMiss (Miscompare offset) = ⊥
IsNoMiss response = ⊤

-- no Swap missed
abbrev pub HasNoMiss : List Exchange → Type 0
HasNoMiss [] = ⊤
HasNoMiss (x ∷ xs) = IsNoMiss x.response × HasNoMiss xs

-- one Swap missed, and this pass came after it
pub record IsAfterMiss (w : Wanted) (xs pass : List Exchange) : Type 0 where
  pub first : Exchange
  pub earlier : List Exchange
  pub parts : xs ≡ pass ++ first ∷ earlier
  pub misses : Misses w first earlier
  pub none_before : HasNoMiss earlier
  pub none_since : HasNoMiss pass

-- two Swaps missed, and what the second verified was shown after the first
pub record IsRaced (w : Wanted) (xs : List Exchange) : Type 0 where
  pub second : Exchange
  pub rest : List Exchange
  pub newest : xs ≡ second ∷ rest
  pub pass : List Exchange
  pub since : IsAfterMiss w rest pass
  pub misses : Misses w second pass
