-- What a host may send, by what it sent and heard before: a record for each kind of command.
use Rattle.std.specs.Prelude.{◌≡◌, ◌≢◌, ℕ, ◌+◌, ◌/◌, ◌%◌, ◌<◌, true, List, [], ◌∷◌, length, replicate, slice_get, None, Some, ◌⊎◌, Option}
use Rattle.std.specs.List.{Contains}
use Rattle.ds_base.specs.declared.geometry.Geom.{Geom}
use Rattle.ds_base.specs.declared.names.Key.{Key}
use Rattle.ds_base.specs.declared.sectors.Sector.{Sector}
use Rattle.ds_base.specs.declared.commands.Command.{Command}
use Rattle.ds_base.specs.declared.commands.Command.TheVariants.{Read, Write, Swap}
use Rattle.ds_base.specs.declared.commands.Response.TheVariants as responses
use Rattle.ds_base.specs.Device.{target_of}
use Rattle.ds_jrnl.specs.Index.{IsIndex, index_bytes}
use Rattle.ds_jrnl.specs.declared.index.Index.{Index}
use Rattle.ds_layout.specs.Places.{place_sector, total_of, IsLock}
use Rattle.ds_layout.specs.declared.places.Place.TheVariants as places
use Rattle.ds_marks.specs.declared.header.Header.{Header}
use Rattle.ds_marks.specs.declared.header.Owner.{Owner}
use Rattle.ds_marks.specs.declared.slot.Slot.{Slot}
use Rattle.ds_marks.specs.declared.slot.Journal.{Journal}
use Rattle.ds_marks.specs.declared.slot.Journal.TheVariants.{Idle, Committed}
use Rattle.ds_marks.specs.declared.slot.SlotState.{SlotState}
use Rattle.ds_marks.specs.declared.slot.SlotState.TheVariants.{Free, Live, Breaking}
use Rattle.ds_tree.specs.declared.calls.CallOf.{CallOf}
use Rattle.ds_tree.specs.declared.calls.CallOf.TheVariants.{OpenFile, At}
use Rattle.ds_tree.specs.declared.calls.HostCallOf.TheVariants as calls
use Rattle.ds_tree.specs.declared.calls.TreeReply.{TreeReply}
use Rattle.ds_tree.specs.declared.calls.TreeReply.TheVariants.{Opened, Gone, AtBlock}
use Rattle.ds_conduct.specs.declared.answers.HostAnswer.{HostAnswer}
use Rattle.ds_conduct.specs.declared.answers.HostAnswer.TheVariants.{Tree, Plain}
use Rattle.ds_layout.specs.Metadata.{IsMetadata}
use Rattle.ds_image_parts.specs.Pending.{Pair}
use Rattle.ds_marks.specs.SlotIn.{slot_in}
use Rattle.ds_conduct.specs.Digests.{Own, Owed, Digest}
use Rattle.ds_base.specs.Exchanges.{Exchange, IsLast, seen_of}
use Rattle.ds_conduct.specs.Exchanges.{IsAt, SwapOf, WroteOf, GotOf, written_of}
use Rattle.ds_marks.specs.HeaderIn.{header_in}
use Rattle.ds_conduct.specs.Headers.{owner_of}
use Rattle.ds_conduct.specs.Settings.{Setting}
use Rattle.ds_conduct.specs.Judging.{IsJudged}
use Rattle.ds_conduct.specs.Journals.{PlansChange, PlansReply, Journalled, HasCommitted, HasBroken, HasReadIndex, HasReadPair}

-- the header of this file's object
abbrev pub IsHeaderOf : Geom → Key → ℕ → Type 0
IsHeaderOf g file at = at ≡ place_sector g (places.Header file.object)

-- among these, the slot was shown in a generation above this
pub record SawOver (g : Geom) (newer : List Pair) (slot generation : ℕ) : Type 0 where
  pub within : slot < g.slots
  pub sector : Sector
  pub shown : Contains newer (place_sector g (places.Slot slot), sector)
  pub image : Slot
  pub spelled : slot_in slot sector.bytes ≡ Some image
  pub above : generation < image.generation

-- a Swap of a slot that isn't the own one verifies the image that this call saw there last
pub record SwapsSlot (g : Geom) (xs : List Exchange) (at : ℕ) (verify fresh : Sector) : Type 0 where
  pub slot : ℕ
  pub within : slot < g.slots
  pub place : at ≡ place_sector g (places.Slot slot)
  pub last : IsLast (seen_of xs) at verify
  pub old : Slot
  pub new : Slot
  pub was : slot_in slot verify.bytes ≡ Some old
  pub is : slot_in slot fresh.bytes ≡ Some new

-- a Swap of a header, which keeps its object
pub record SwapsHeader (g : Geom) (at : ℕ) (verify fresh : Sector) : Type 0 where
  pub object : ℕ
  pub is_lock : IsLock g object
  pub place : at ≡ place_sector g (places.Header object)
  pub old : Header
  pub new : Header
  pub was : header_in verify.bytes ≡ Some old
  pub is : header_in fresh.bytes ≡ Some new
  pub was_object : old.object ≡ object
  pub same_object : new.object ≡ object

module _ (setting : Setting) (d : Digest) (now : ℕ) where
  abbrev pub g : Geom
  g = setting.geom

  abbrev pub IsUnanswered : Type 0
  IsUnanswered = d.answer ≡ None

  abbrev pub IsAnswered : Type 0
  IsAnswered = (answer : HostAnswer) × (d.answer ≡ Some answer)

  -- a Swap of the own slot verifies the image that the last one wrote, which is Live in the own generation
  pub record SwapsOwn (at : ℕ) (verify fresh : Sector) : Type 0 where
    pub own : Own
    pub holds : d.own ≡ Some own
    pub within : own.slot < g.slots
    pub place : at ≡ place_sector g (places.Slot own.slot)
    pub verified : verify ≡ own.image
    pub old : Slot
    pub new : Slot
    pub was : slot_in own.slot verify.bytes ≡ Some old
    pub is : slot_in own.slot fresh.bytes ≡ Some new
    pub was_live : old.state ≡ Live
    pub was_own : old.generation ≡ own.generation

  -- from a Free image to a Live one, with the same generation, the own id, stamp 1 and an idle journal
  pub record Enters (at : ℕ) (verify fresh : Sector) : Type 0 where
    pub call : d.call ≡ Some calls.Register
    pub unanswered : IsUnanswered
    pub none : d.own ≡ None
    -- the call has done nothing before
    pub nothing_done : (x : Exchange) → Contains d.exchanges x → x.response ≡ responses.Done → ⊥
    pub swap : SwapsSlot g d.exchanges at verify fresh
    pub was_free : swap.old.state ≡ Free
    pub live : swap.new.state ≡ Live
    pub same_generation : swap.new.generation ≡ swap.old.generation
    pub same_host : swap.new.host ≡ setting.host
    pub stamp : swap.new.stamp ≡ 1
    pub idle : swap.new.journal ≡ Idle

  -- from Live and idle to Free in the next generation
  pub record Leaves (at : ℕ) (verify fresh : Sector) : Type 0 where
    pub call : d.call ≡ Some calls.Unregister
    pub unanswered : IsUnanswered
    pub none_open : d.files ≡ []
    pub swap : SwapsOwn at verify fresh
    pub was_idle : swap.old.journal ≡ Idle
    pub free : swap.new.state ≡ Free
    pub generation : swap.new.generation ≡ swap.old.generation + 1

  -- Live before and after, with the next stamp; the journal as the kinds below say
  pub record Renews (at : ℕ) (verify fresh : Sector) : Type 0 where
    pub swap : SwapsOwn at verify fresh
    pub live : swap.new.state ≡ Live
    pub same_generation : swap.new.generation ≡ swap.old.generation
    pub same_host : swap.new.host ≡ swap.old.host
    pub stamp : swap.new.stamp ≡ swap.old.stamp + 1

  pub record Beats (at : ℕ) (verify fresh : Sector) : Type 0 where
    pub renewal : Renews at verify fresh
    pub unanswered : IsUnanswered
    pub was_idle : renewal.swap.old.journal ≡ Idle
    pub idle : renewal.swap.new.journal ≡ Idle

  -- the planner's redo, which the call wrote into the own journal with its index last, becomes pending
  pub record Commits (at : ℕ) (verify fresh : Sector) : Type 0 where
    pub renewal : Renews at verify fresh
    pub call : CallOf Key
    pub is_call : d.call ≡ Some (calls.Tree call)
    pub unanswered : IsUnanswered
    pub pairs : List Pair
    pub reply : TreeReply
    pub planned : PlansChange g renewal.swap.own (setting.plans renewal.swap.own.slot call) d.exchanges pairs reply
    pub txn : ℕ
    pub next : txn ≡ renewal.swap.own.commits + 1
    pub journalled : Journalled g renewal.swap.own txn pairs d.exchanges
    pub was_idle : renewal.swap.old.journal ≡ Idle
    pub committed : renewal.swap.new.journal ≡ Committed txn (length pairs)

  -- after each pair was written in place
  pub record Retires (at : ℕ) (verify fresh : Sector) : Type 0 where
    pub renewal : Renews at verify fresh
    pub answered : IsAnswered
    pub txn : ℕ
    pub pairs : List Pair
    pub has_committed : HasCommitted g renewal.swap.own d.exchanges txn pairs
    pub placed : (pair : Pair) → Contains pairs pair → Contains (written_of has_committed.later) pair
    pub was_committed : renewal.swap.old.journal ≡ Committed txn (length pairs)
    pub idle : renewal.swap.new.journal ≡ Idle

  -- a slot is broken where its Live image was judged stale, and seized where its breaker was shown to be over
  pub data MayBreak (newer : List Pair) (slot : ℕ) (verify : Sector) : SlotState → Type 0 where
    Stale : IsJudged d.notes slot verify → MayBreak newer slot verify Live
    Seized : (by by_generation : ℕ) → SawOver g newer by by_generation → MayBreak newer slot verify (Breaking by by_generation)

  pub record Breaks (at : ℕ) (verify fresh : Sector) : Type 0 where
    pub own : Own
    pub holds : d.own ≡ Some own
    pub unanswered : IsUnanswered
    pub swap : SwapsSlot g d.exchanges at verify fresh
    pub other : own.slot ≢ swap.slot
    pub may : MayBreak swap.last.newer swap.slot verify swap.old.state
    pub breaking : swap.new.state ≡ Breaking own.slot own.generation
    pub same_generation : swap.new.generation ≡ swap.old.generation
    pub same_host : swap.new.host ≡ swap.old.host
    pub same_stamp : swap.new.stamp ≡ swap.old.stamp
    pub same_journal : swap.new.journal ≡ swap.old.journal

  -- each pair of the broken slot's journal was read after it was broken, and written in place
  pub record HasReplayed (own : Own) (slot : ℕ) (image : Sector) (broken : Slot) (txn count : ℕ) : Type 0 where
    pub has_broken : HasBroken g own d.exchanges slot image broken
    pub index : Index
    pub has_index : HasReadIndex g has_broken.later slot broken.generation txn count index
    pub placed : (i at : ℕ) → slice_get index.targets.items i ≡ Some at
        → (s : Sector) × HasReadPair g has_broken.later slot index i at s × Contains (written_of has_broken.later) (at, s)

  pub data MayClear (own : Own) (slot : ℕ) (image : Sector) (broken : Slot) : Journal → Type 0 where
    ClearIdle : MayClear own slot image broken Idle
    ClearReplayed : (txn count : ℕ) → HasReplayed own slot image broken txn count → MayClear own slot image broken (Committed txn count)

  -- from Breaking by the own generation to Free in the next
  pub record Clears (at : ℕ) (verify fresh : Sector) : Type 0 where
    pub own : Own
    pub holds : d.own ≡ Some own
    pub unanswered : IsUnanswered
    pub swap : SwapsSlot g d.exchanges at verify fresh
    pub other : own.slot ≢ swap.slot
    pub mine : swap.old.state ≡ Breaking own.slot own.generation
    pub may : MayClear own swap.slot verify swap.old swap.old.journal
    pub free : swap.new.state ≡ Free
    pub generation : swap.new.generation ≡ swap.old.generation + 1

  -- a header without owner, or of an owner that was shown to be over after it, is taken in the next generation
  pub record Locks (at : ℕ) (verify fresh : Sector) : Type 0 where
    pub own : Own
    pub holds : d.own ≡ Some own
    pub unanswered : IsUnanswered
    pub swap : SwapsHeader g at verify fresh
    pub last : IsLast (seen_of d.exchanges) at verify
    pub free : (owner : Owner) → swap.old.owner ≡ Some owner → SawOver g last.newer owner.slot owner.generation
    pub owned : swap.new.owner ≡ Some (owner_of setting own)
    pub generation : swap.new.generation ≡ swap.old.generation + 1

  -- the file of an OpenFile that was answered by Opened
  pub record IsOpened (file : Key) : Type 0 where
    pub call : d.call ≡ Some (calls.Tree (OpenFile file))
    pub blocks : ℕ
    pub answer : d.answer ≡ Some (Tree (Opened blocks))

  -- the file of a Close that was answered by Plain, or one that was held open and removed
  pub data IsClosed (file : Key) : Type 0 where
    ByClose : d.call ≡ Some (calls.Close file) → d.answer ≡ Some Plain → IsClosed file
    ByRemove : (call : CallOf Key) → d.call ≡ Some (calls.Tree call) → d.answer ≡ Some (Tree (Gone file)) → IsClosed file

  -- the headers that a tail gives back
  pub data MayGive (owed : Owed) : Type 0 where
    Taken : owed.is_new ≡ true → ((file : Key) → IsOpened file → IsHeaderOf g file owed.at → ⊥) → MayGive owed
    Closed : (file : Key) → IsClosed file → IsHeaderOf g file owed.at → MayGive owed

  -- the own journal is idle
  pub record OwnIdle (own : Own) : Type 0 where
    pub slot : Slot
    pub spelled : slot_in own.slot own.image.bytes ≡ Some slot
    pub idle : slot.journal ≡ Idle

  -- a header that is owed is given back as it was taken
  pub record Frees (at : ℕ) (verify fresh : Sector) : Type 0 where
    pub own : Own
    pub holds : d.own ≡ Some own
    pub answered : IsAnswered
    pub idle : OwnIdle own
    pub owed : Owed
    pub taken : Contains d.owed owed
    pub may : MayGive owed
    pub same_place : owed.at ≡ at
    pub verified : verify ≡ owed.image
    pub swap : SwapsHeader g at verify fresh
    pub none : swap.new.owner ≡ None
    pub same_generation : swap.new.generation ≡ swap.old.generation

  -- the kinds of Swap
  pub data MaySwap (at : ℕ) (verify fresh : Sector) : Type 0 where
    Enter : Enters at verify fresh → MaySwap at verify fresh
    Leave : Leaves at verify fresh → MaySwap at verify fresh
    Beat : Beats at verify fresh → MaySwap at verify fresh
    Commit : Commits at verify fresh → MaySwap at verify fresh
    Retire : Retires at verify fresh → MaySwap at verify fresh
    Break : Breaks at verify fresh → MaySwap at verify fresh
    Clear : Clears at verify fresh → MaySwap at verify fresh
    Lock : Locks at verify fresh → MaySwap at verify fresh
    GiveBack : Frees at verify fresh → MaySwap at verify fresh

  -- a plain write, or a Read of the journal of the slot that is broken, if one is
  pub data IsPlainStep (broken : Option ℕ) (x : Exchange) : Type 0 where
    Wrote : (at : ℕ) (s : Sector) → WroteOf x at s → IsPlainStep broken x
    Looked : (slot i : ℕ) (s : Sector) → broken ≡ Some slot → GotOf x (place_sector g (places.Journal slot i)) s → IsPlainStep broken x

  -- a plain write comes fewer than 16 ticks after the last Swap of the own slot, with only plain writes and Reads of a broken slot's
  -- journal between, none of which is of its sector
  pub record HasLease (at : ℕ) : Type 0 where
    pub own : Own
    pub holds : d.own ≡ Some own
    pub within : own.slot < g.slots
    pub in_time : now < own.last + 16
    pub later : List Exchange
    pub exchange : Exchange
    pub earlier : List Exchange
    pub is_at : IsAt d.exchanges later exchange earlier
    pub verify : Sector
    pub swap : SwapOf exchange (place_sector g (places.Slot own.slot)) verify own.image
    pub broken : Option ℕ
    pub only : (x : Exchange) → Contains later x → IsPlainStep broken x
    pub other : (x : Exchange) → Contains later x → target_of x.command ≢ at

  -- a sector of the own journal, while it is idle
  pub record WritesJournal (at : ℕ) (fresh : Sector) : Type 0 where
    pub lease : HasLease at
    pub alone : lease.broken ≡ None
    pub unanswered : IsUnanswered
    pub idle : OwnIdle lease.own
    pub i : ℕ
    pub within : i < 31
    pub place : at ≡ place_sector g (places.Journal lease.own.slot i)

  -- the index of the own journal, while it is idle
  pub record WritesIndex (at : ℕ) (fresh : Sector) : Type 0 where
    pub lease : HasLease at
    pub alone : lease.broken ≡ None
    pub unanswered : IsUnanswered
    pub idle : OwnIdle lease.own
    pub place : at ≡ place_sector g (places.Journal lease.own.slot 31)
    pub index : Index
    pub is_index : IsIndex index
    pub spelled : fresh.bytes ≡ index_bytes index
    pub same_slot : index.slot ≡ lease.own.slot
    pub same_generation : index.generation ≡ lease.own.generation

  -- a pair of the own commit, before the retire
  pub record PlacesOwn (at : ℕ) (fresh : Sector) : Type 0 where
    pub lease : HasLease at
    pub alone : lease.broken ≡ None
    pub answered : IsAnswered
    pub txn : ℕ
    pub pairs : List Pair
    pub has_committed : HasCommitted g lease.own d.exchanges txn pairs
    pub pair : Contains pairs (at, fresh)
    pub metadata : IsMetadata g at
    pub slot : Slot
    pub spelled : slot_in lease.own.slot lease.own.image.bytes ≡ Some slot
    pub committed : slot.journal ≡ Committed txn (length pairs)

  -- a pair of a slot's journal, read after the slot was broken, while it is the last that the call saw of the slot
  pub record PlacesBroken (at : ℕ) (fresh : Sector) : Type 0 where
    pub lease : HasLease at
    pub unanswered : IsUnanswered
    pub slot : ℕ
    pub within : slot < g.slots
    pub other : lease.own.slot ≢ slot
    pub looks : lease.broken ≡ Some slot
    pub image : Sector
    pub broken : Slot
    pub last : IsLast (seen_of d.exchanges) (place_sector g (places.Slot slot)) image
    pub has_broken : HasBroken g lease.own d.exchanges slot image broken
    pub txn : ℕ
    pub count : ℕ
    pub committed : broken.journal ≡ Committed txn count
    pub index : Index
    pub has_index : HasReadIndex g has_broken.later slot broken.generation txn count index
    pub i : ℕ
    pub has_pair : HasReadPair g has_broken.later slot index i at fresh
    pub metadata : IsMetadata g at

  -- the one data write of a Put, into the block that the planner names
  pub record WritesData (at : ℕ) (fresh : Sector) : Type 0 where
    pub lease : HasLease at
    pub alone : lease.broken ≡ None
    pub unanswered : IsUnanswered
    pub file : Key
    pub sector : ℕ
    pub fill : ℕ
    pub call : d.call ≡ Some (calls.Put file sector fill)
    pub is_open : Contains d.files file
    pub block : ℕ
    pub planned : PlansReply g lease.own (setting.plans lease.own.slot (At file (sector / g.block)))
        (file.object ∷ []) d.exchanges (AtBlock block)
    pub place : at ≡ place_sector g (places.Block block (sector % g.block))
    pub filled : fresh.bytes ≡ replicate 512 fill
    pub first : written_of d.exchanges ≡ []

  -- the kinds of plain write
  pub data MayWrite (at : ℕ) (fresh : Sector) : Type 0 where
    Journalling : WritesJournal at fresh → MayWrite at fresh
    Indexing : WritesIndex at fresh → MayWrite at fresh
    Placing : PlacesOwn at fresh → MayWrite at fresh
    Replaying : PlacesBroken at fresh → MayWrite at fresh
    Filling : WritesData at fresh → MayWrite at fresh

  -- a Read of any sector of the volume, before the answer
  pub record MayRead (at : ℕ) : Type 0 where
    pub unanswered : IsUnanswered
    pub within : at < total_of g

  abbrev pub MaySend : Command → Type 0
  MaySend (Read at) = MayRead at
  MaySend (Write at fresh) = MayWrite at fresh
  MaySend (Swap at verify fresh) = MaySwap at verify fresh

  -- between two calls: the journal is idle, and of the headers that the call took only that of a file that it opened is owed
  pub record MayRest : Type 0 where
    pub ended : (d.call ≡ None) ⊎ IsAnswered
    pub idle : (own : Own) → d.own ≡ Some own → OwnIdle own
    pub given : (owed : Owed) → Contains d.owed owed → owed.is_new ≡ true → (file : Key) × IsOpened file × IsHeaderOf g file owed.at
    pub closed : (owed : Owed) (file : Key) → Contains d.owed owed → IsClosed file → IsHeaderOf g file owed.at → ⊥
