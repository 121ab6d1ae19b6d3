-- What a change sends, in which order.
use Rattle.std.specs.Prelude.{◌≡◌, ℕ, zero, suc, ◌+◌, ◌^◌, ◌<◌, ◌≤◌, List, [], ◌∷◌, length, map, get_or}
use Rattle.std.specs.List.Sorted.{IsStrictlyIncreasing}
use Rattle.ds_base.specs.Geometry.{IsGeom}
use Rattle.ds_base.specs.declared.commands.Command.{Command}
use Rattle.ds_base.specs.declared.commands.Command.TheVariants.{Write, Swap}
use Rattle.ds_base.specs.declared.geometry.Geom.{Geom}
use Rattle.ds_base.specs.declared.sectors.Sector.{Sector}
use Rattle.ds_jrnl.specs.Index.{index_bytes}
use Rattle.ds_jrnl.specs.declared.index.Index.{Index}
use Rattle.ds_layout.specs.Places.{place_sector}
use Rattle.ds_layout.specs.declared.places.Place.TheVariants as places
use Rattle.ds_marks.specs.Slot.{IsSlot, slot_bytes}
use Rattle.ds_marks.specs.declared.header.Owner.{Owner}
use Rattle.ds_marks.specs.declared.slot.Journal.TheVariants.{Idle, Committed}
use Rattle.ds_marks.specs.declared.slot.Slot.{Slot}
use Rattle.ds_marks.specs.declared.slot.SlotState.TheVariants.{Live}

-- a sector and what it is to hold
abbrev pub Pair : Type 0
Pair = ℕ × Sector

-- a change: the volume, the host, its slot as it was written last, the number of the transaction, and the pairs
pub record Change : Type 0 where
  pub geom : Geom
  pub own : Owner
  pub image : Slot
  pub txn : ℕ
  pub pairs : List Pair

-- the own slot is live in the own generation and idle, with room for three stamps; and there are 1 to 31 pairs, with rising sectors
pub record IsChange (c : Change) : Type 0 where
  pub is_geom : IsGeom c.geom
  pub within : c.own.slot < c.geom.slots
  pub is_slot : IsSlot c.image
  pub live : c.image.state ≡ Live
  pub idle : c.image.journal ≡ Idle
  pub same_generation : c.own.generation ≡ c.image.generation
  pub room : c.image.stamp + 3 ≤ 2 ^ 62
  pub numbered : 1 ≤ c.txn
  pub some : 1 ≤ length c.pairs
  pub most : length c.pairs ≤ 31
  pub rising : IsStrictlyIncreasing (map (λ (p : Pair). p.0) c.pairs)

-- the own slot after each of the three Swaps of it
abbrev pub beaten : Slot → Slot
beaten s = record { state = s.state; generation = s.generation; host = s.host; stamp = s.stamp + 1; journal = s.journal }

abbrev pub committed : ℕ → ℕ → Slot → Slot
committed txn count s =
    record { state = s.state; generation = s.generation; host = s.host; stamp = s.stamp + 2; journal = Committed txn count }

abbrev pub retired : Slot → Slot
retired s = record { state = s.state; generation = s.generation; host = s.host; stamp = s.stamp + 3; journal = Idle }

-- a Swap of the own slot from one image to the next
abbrev pub own_swap : Change → Slot → Slot → Command
own_swap c from to =
    Swap (place_sector c.geom (places.Slot c.own.slot)) (record { bytes = slot_bytes c.own.slot from }) (record
    { bytes = slot_bytes c.own.slot to })

abbrev pub beat : Change → Command
beat c = own_swap c c.image (beaten c.image)

abbrev pub commit : Change → Command
commit c = own_swap c (beaten c.image) (committed c.txn (length c.pairs) c.image)

abbrev pub retire : Change → Command
retire c = own_swap c (committed c.txn (length c.pairs) c.image) (retired c.image)

-- the pair of a number
abbrev pub pair_at : Change → ℕ → Pair
pair_at c i = get_or c.pairs i (0, record { bytes = [] })

abbrev pub journal_sector : Change → ℕ → ℕ
journal_sector c i = place_sector c.geom (places.Journal c.own.slot i)

-- its Write into the journal, and in place
abbrev pub journal_write : Change → ℕ → Command
journal_write c i = Write (journal_sector c i) (pair_at c i).1

abbrev pub place_write : Change → ℕ → Command
place_write c i = Write (pair_at c i).0 (pair_at c i).1

-- the index names the own generation, the transaction and the sectors of the pairs
abbrev pub index_of : Change → Index
index_of c = record {
  slot = c.own.slot;
  generation = c.own.generation;
  txn = c.txn;
  targets = record { items = map (λ (p : Pair). p.0) c.pairs };
}

abbrev pub index_write : Change → Command
index_write c = Write (journal_sector c 31) (record { bytes = index_bytes (index_of c) })

-- what was sent, the newest first, once this many pairs are in the journal
abbrev pub journalled : Change → ℕ → List Command
journalled c zero = beat c ∷ []
journalled c (suc i) = journal_write c i ∷ journalled c i

-- and once this many are in place
abbrev pub placed : Change → ℕ → List Command
placed c zero = commit c ∷ index_write c ∷ journalled c (length c.pairs)
placed c (suc i) = place_write c i ∷ placed c i
