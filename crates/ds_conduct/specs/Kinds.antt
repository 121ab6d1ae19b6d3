-- The kinds of command that a scenario names, by the command and the host's slot alone.
use Rattle.std.specs.Prelude.{ℕ, ◌-◌, ◌%◌, ◌&&◌, ◌||◌, ◌==◌, Bool, true, false, not, nat_le, nat_lt, Option, None, Some}
use Rattle.ds_base.specs.declared.geometry.Geom.{Geom}
use Rattle.ds_base.specs.declared.sectors.Sector.{Sector}
use Rattle.ds_base.specs.declared.commands.Command.{Command}
use Rattle.ds_base.specs.declared.commands.Command.TheVariants.{Read, Write, Swap}
use Rattle.ds_layout.specs.Places.{place_sector, clusters_at, sub_blocks_at}
use Rattle.ds_layout.specs.declared.places.Place.TheVariants as places
use Rattle.ds_marks.specs.Slot.{state_code}
use Rattle.ds_marks.specs.declared.header.Header.{Header}
use Rattle.ds_marks.specs.declared.header.Owner.{Owner}
use Rattle.ds_marks.specs.declared.slot.Slot.{Slot}
use Rattle.ds_tree.specs.declared.scenarios.Point.{Point}
use Rattle.ds_tree.specs.declared.scenarios.Point.TheVariants as points
use Rattle.ds_marks.specs.SlotIn.{slot_in, is_idle}
use Rattle.ds_marks.specs.HeaderIn.{header_in}
use Rattle.ds_conduct.specs.Marks.{slot_number}

-- what a slot's state is, and 3 where there is no slot
abbrev pub code_of : Option Slot → ℕ
code_of None = 3
code_of (Some s) = state_code s.state

abbrev pub is_idle_slot : Option Slot → Bool
is_idle_slot None = false
is_idle_slot (Some s) = is_idle s.journal

abbrev pub is_busy_slot : Option Slot → Bool
is_busy_slot None = false
is_busy_slot (Some s) = not (is_idle s.journal)

abbrev pub is_own : Option (ℕ × ℕ) → ℕ → Bool
is_own None a = false
is_own (Some own) a = own.0 == a

-- a Swap of slot a from one value to another
abbrev pub is_slot_kind : Point → Bool → Option Slot → Option Slot → Bool
is_slot_kind points.Enter own old new = not own && (code_of old == 0) && (code_of new == 1)
is_slot_kind points.Leave own old new = own && (code_of old == 1) && (code_of new == 0)
is_slot_kind points.Beat own old new = own && (code_of old == 1) && (code_of new == 1) && is_idle_slot old && is_idle_slot new
is_slot_kind points.Commit own old new = own && (code_of old == 1) && (code_of new == 1) && is_idle_slot old && is_busy_slot new
is_slot_kind points.Retire own old new = own && (code_of old == 1) && (code_of new == 1) && is_busy_slot old && is_idle_slot new
is_slot_kind points.Break own old new = code_of new == 2
is_slot_kind points.Clear own old new = (code_of old == 2) && (code_of new == 0)
is_slot_kind point own old new = false

-- whether a header's owner is this generation
abbrev pub is_owner_under : Option (ℕ × ℕ) → Option Owner → Bool
is_owner_under None owner = false
is_owner_under (Some own) None = false
is_owner_under (Some own) (Some owner) = (owner.slot == own.0) && (owner.generation == own.1)

abbrev pub is_taken_under : Option (ℕ × ℕ) → Option Header → Bool
is_taken_under under None = false
is_taken_under under (Some h) = is_owner_under under h.owner

abbrev pub has_no_owner : Option Owner → Bool
has_no_owner None = true
has_no_owner (Some owner) = false

abbrev pub is_unowned : Option Header → Bool
is_unowned None = false
is_unowned (Some h) = has_no_owner h.owner

-- a Swap of a header from one value to another
abbrev pub is_header_kind : Point → Option (ℕ × ℕ) → Option Header → Option Header → Bool
is_header_kind points.Lock under old new = is_taken_under under new
is_header_kind points.Free under old new = is_taken_under under old && is_unowned new
is_header_kind point under old new = false

abbrev pub is_swap_kind : Point → Option (ℕ × ℕ) → Option ℕ → Sector → Sector → Bool
is_swap_kind point under None verify fresh = is_header_kind point under (header_in verify.bytes) (header_in fresh.bytes)
is_swap_kind point under (Some a) verify fresh = is_slot_kind point (is_own under a) (slot_in a verify.bytes) (slot_in a fresh.bytes)

-- whether the sector is a header's: the first of two, in the clusters and descriptors
abbrev pub is_header_at : Geom → ℕ → Bool
is_header_at g at = nat_le (clusters_at g) at && nat_lt at (sub_blocks_at g) && ((at - clusters_at g) % 2 == 0)

abbrev pub is_index_at : Geom → Option (ℕ × ℕ) → ℕ → Bool
is_index_at g None at = false
is_index_at g (Some own) at = at == place_sector g (places.Journal own.0 31)

abbrev pub is_write_kind : Point → Geom → Option (ℕ × ℕ) → ℕ → Bool
is_write_kind points.Index g under at = is_index_at g under at
is_write_kind points.Place g under at = nat_le (clusters_at g) at || nat_lt at 2
is_write_kind point g under at = false

abbrev pub is_read_kind : Point → Geom → ℕ → Bool
is_read_kind points.Read g at = is_header_at g at
is_read_kind point g at = false

-- whether the command that is sent under this generation is of the kind
abbrev pub is_kind : Geom → Point → Option (ℕ × ℕ) → Command → Bool
is_kind g point under (Read at) = is_read_kind point g at
is_kind g point under (Write at fresh) = is_write_kind point g under at
is_kind g point under (Swap at verify fresh) = is_swap_kind point under (slot_number g at) verify fresh
