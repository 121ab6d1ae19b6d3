-- What a break sends and hears, in which order.
use Rattle.std.specs.Prelude.{◌≡◌, ◌≢◌, ℕ, zero, suc, ◌+◌, ◌^◌, ◌<◌, ◌≤◌, ◌⊎◌, List, [], ◌∷◌, length, get_or, replicate}
use Rattle.std.specs.List.{All}
use Rattle.ds_base.specs.Geometry.{IsGeom}
use Rattle.ds_base.specs.declared.commands.Command.{Command}
use Rattle.ds_base.specs.declared.commands.Command.TheVariants.{Read, Write, Swap}
use Rattle.ds_base.specs.declared.commands.Response.{Response}
use Rattle.ds_base.specs.declared.commands.Response.TheVariants.{Got, Done}
use Rattle.ds_base.specs.declared.geometry.Geom.{Geom}
use Rattle.ds_base.specs.declared.sectors.Sector.{Sector}
use Rattle.ds_jrnl.specs.Index.{IsIndex, index_bytes}
use Rattle.ds_jrnl.specs.declared.index.Index.{Index}
use Rattle.ds_layout.specs.Metadata.{IsMetadata}
use Rattle.ds_layout.specs.Places.{place_sector}
use Rattle.ds_layout.specs.declared.places.Place.TheVariants as places
use Rattle.ds_marks.specs.Header.{IsOwner}
use Rattle.ds_marks.specs.Slot.{IsSlot, slot_bytes}
use Rattle.ds_marks.specs.declared.header.Owner.{Owner}
use Rattle.ds_marks.specs.declared.slot.Journal.TheVariants.{Idle, Committed}
use Rattle.ds_marks.specs.declared.slot.Slot.{Slot}
use Rattle.ds_marks.specs.declared.slot.SlotState.TheVariants.{Free, Live, Breaking}
use Rattle.std.specs.Prelude.{Some}

-- a break: the volume, the host, its slot as it was written last, and the slot of the lost generation as it was shown last
pub record Break : Type 0 where
  pub geom : Geom
  pub own : Owner
  pub mine : Slot
  pub slot : ℕ
  pub image : Slot

-- the own slot has room for one more stamp; the other one is another slot, isn't free, and has room for one more generation
pub record IsBreak (b : Break) : Type 0 where
  pub is_geom : IsGeom b.geom
  pub own_within : b.own.slot < b.geom.slots
  pub is_owner : IsOwner (Some b.own)
  pub is_mine : IsSlot b.mine
  pub live : b.mine.state ≡ Live
  pub room : b.mine.stamp < 2 ^ 62
  pub within : b.slot < b.geom.slots
  pub other : b.slot ≢ b.own.slot
  pub is_image : IsSlot b.image
  pub lost : b.image.state ≢ Free
  pub slot_room : b.image.generation < 2 ^ 62

-- the own slot with the next stamp
abbrev pub beaten : Slot → Slot
beaten s = record { state = s.state; generation = s.generation; host = s.host; stamp = s.stamp + 1; journal = s.journal }

-- the slot broken by an owner, all else kept; and free, in the next generation
abbrev pub broken : Owner → Slot → Slot
broken own s = record {
  state = Breaking own.slot own.generation;
  generation = s.generation;
  host = s.host;
  stamp = s.stamp;
  journal = s.journal;
}

abbrev pub cleared : Slot → Slot
cleared s = record { state = Free; generation = s.generation + 1; host = replicate 16 0; stamp = 0; journal = Idle }

abbrev pub slot_swap : Geom → ℕ → Slot → Slot → Command
slot_swap g slot from to = Swap (place_sector g (places.Slot slot)) (record { bytes = slot_bytes slot from }) (record
    { bytes = slot_bytes slot to })

abbrev pub break_swap : Break → Command
break_swap b = slot_swap b.geom b.slot b.image (broken b.own b.image)

abbrev pub beat : Break → Command
beat b = slot_swap b.geom b.own.slot b.mine (beaten b.mine)

abbrev pub clear_swap : Break → Command
clear_swap b = slot_swap b.geom b.slot (broken b.own b.image) (cleared b.image)

-- a sector of the slot's journal; the last one is its index
abbrev pub journal_sector : Break → ℕ → ℕ
journal_sector b i = place_sector b.geom (places.Journal b.slot i)

abbrev pub index_read : Break → Command
index_read b = Read (journal_sector b 31)

-- an index is of what the slot has committed: it names the slot's generation and transaction, and as many targets, all metadata
abbrev pub IsFor : Break → Index → Type 0
IsFor b x =
    (x.slot ≡ b.slot) × (x.generation ≡ b.image.generation) × (b.image.journal ≡ Committed x.txn (length x.targets.items))
    × All (IsMetadata b.geom) x.targets.items

-- the sector spells such an index, with these targets
pub record IsIndexOf (b : Break) (sector : Sector) (targets : List ℕ) : Type 0 where
  pub index : Index
  pub is_index : IsIndex index
  pub spelled : sector.bytes ≡ index_bytes index
  pub is_for : IsFor b index
  pub has_targets : index.targets.items ≡ targets

-- a pair is read from the journal, and written in place
abbrev pub fetch : Break → ℕ → Command
fetch b i = Read (journal_sector b i)

abbrev pub place_write : List ℕ → ℕ → Sector → Command
place_write targets i s = Write (get_or targets i 0) s

-- what was sent and answered, the newest first
abbrev pub Steps : Type 0
Steps = List (Command × Response)

abbrev pub broke : Break → Steps
broke b = (break_swap b, Done) ∷ []

-- this many pairs were read and written, after the break, the index and the renewal
abbrev pub HasReplayed : Break → List ℕ → ℕ → Steps → Type 0
HasReplayed b targets zero steps = (sector : Sector) × IsIndexOf b sector targets × (steps ≡ (beat b, Done) ∷ (index_read b, Got sector)
    ∷ broke b)
HasReplayed b targets (suc i) steps =
    (s : Sector) × (rest : Steps) × HasReplayed b targets i rest × (steps ≡ (place_write targets i s, Done) ∷ (fetch b i, Got s) ∷ rest)

-- nothing is left to be replayed
abbrev pub IsReplayed : Break → List ℕ → Steps → Type 0
IsReplayed b targets steps =
    ((b.image.journal ≡ Idle) × (steps ≡ broke b)) ⊎ ((1 ≤ length targets) × HasReplayed b targets (length targets) steps)
