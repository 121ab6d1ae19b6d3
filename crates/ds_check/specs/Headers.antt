-- The first stage: the file system information, the slots and the headers.
use Rattle.std.specs.Prelude.{ℕ, Bool, true, false, not, ◌==◌, ◌&&◌, ◌||◌, nat_lt, is_none, if◌then◌else◌, List, [], ◌++◌, length, Option, Some, None, bytes_eq}
use Rattle.ds_base.specs.declared.geometry.Geom.{Geom}
use Rattle.ds_base.specs.declared.geometry.Kind.{Kind}
use Rattle.ds_base.specs.declared.geometry.Kind.TheVariants.{Fd}
use Rattle.ds_base.specs.Geometry.{clusters_of, items_of}
use Rattle.ds_layout.specs.Places.{cluster_lock, place_sector}
use Rattle.ds_layout.specs.declared.places.Place.TheVariants as places
use Rattle.ds_marks.specs.declared.header.Owner.{Owner}
use Rattle.ds_marks.specs.declared.slot.Slot.{Slot}
use Rattle.ds_marks.specs.declared.slot.SlotState.{SlotState}
use Rattle.ds_marks.specs.declared.slot.SlotState.TheVariants.{Free}
use Rattle.ds_image_parts.specs.Parts.{part_at}
use Rattle.ds_check.specs.declared.findings.Find.{Find}
use Rattle.ds_check.specs.declared.findings.Find.TheVariants.{SectorForm, HeaderOwner}
use Rattle.ds_check.specs.Controls.{Controls, owners_of}
use Rattle.ds_check.specs.Rows.{find_if, row, row_of_kinds}
use Rattle.ds_check.specs.Breakers.{misbroken}

-- whether the file system information is that of this volume
abbrev pub names_volume : List ℕ → Option (List ℕ) → Bool
names_volume id None = false
names_volume id (Some named) = bytes_eq named id

-- the file system information without its form, or with another volume's id
abbrev pub info_form : Geom → List ℕ → Controls → List Find
info_form g id c = find_if (not (names_volume id c.volume)) (SectorForm (place_sector g places.FsInfo))

-- a slot without its form
abbrev pub slot_form : Geom → Controls → ℕ → List Find
slot_form g c n = find_if (is_none (part_at c.slots n)) (SectorForm (place_sector g (places.Slot n)))

-- the header of a lock object without its form
abbrev pub header_form : Geom → ℕ → Option (Option Owner) → List Find
header_form g object owner = find_if (is_none owner) (SectorForm (place_sector g (places.Header object)))

abbrev pub cluster_form : Geom → Controls → Kind → ℕ → List Find
cluster_form g c kind n = header_form g (cluster_lock kind n) (part_at (owners_of c kind) n)

abbrev pub descriptor_form : Geom → Controls → ℕ → List Find
descriptor_form g c o = header_form g o (part_at c.descriptors o)

-- the sectors without their form, by rising number
abbrev pub unformed : Geom → List ℕ → Controls → List Find
unformed g id c =
    info_form g id c
    ++ row g.slots (slot_form g c)
    ++ row_of_kinds (λ kind. row (clusters_of g kind) (cluster_form g c kind))
    ++ row (items_of g Fd) (descriptor_form g c)

abbrev pub is_free : SlotState → Bool
is_free Free = true
is_free _ = false

-- whether a slot can't have been in this generation: it is in a lower one, or it is free in it; a slot without its form tells
-- nothing
abbrev pub is_before : Option Slot → ℕ → Bool
is_before None generation = false
is_before (Some s) generation = nat_lt s.generation generation || (is_free s.state && (s.generation == generation))

-- whether a header's owner is at odds with the slots
abbrev pub is_astray : List (Option Slot) → Option Owner → Bool
is_astray slots None = false
is_astray slots (Some o) = if nat_lt o.slot (length slots) then is_before (part_at slots o.slot) o.generation else true

-- a header whose owner is; one without its form tells nothing
abbrev pub owner_finds : List (Option Slot) → ℕ → Option (Option Owner) → List Find
owner_finds slots object None = []
owner_finds slots object (Some owner) = find_if (is_astray slots owner) (HeaderOwner object)

abbrev pub cluster_owner : Controls → Kind → ℕ → List Find
cluster_owner c kind n = owner_finds c.slots (cluster_lock kind n) (part_at (owners_of c kind) n)

abbrev pub descriptor_owner : Controls → ℕ → List Find
descriptor_owner c o = owner_finds c.slots o (part_at c.descriptors o)

-- the headers whose owners are at odds with the slots, by rising lock object: descriptors, then clusters
abbrev pub misowned : Geom → Controls → List Find
misowned g c =
    row (items_of g Fd) (descriptor_owner c)
    ++ row_of_kinds (λ kind. row (clusters_of g kind) (cluster_owner c kind))

abbrev pub headers_stage : Geom → List ℕ → Controls → List Find
headers_stage g id c = unformed g id c ++ misowned g c ++ misbroken g c
