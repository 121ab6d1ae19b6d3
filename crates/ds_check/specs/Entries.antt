-- Entries of directories: their objects, and names that stand twice.
use Rattle.std.specs.Prelude.{ℕ, Bool, true, false, not, ◌==◌, ◌&&◌, List, length, Option, Some, None, bytes_eq, take, slice_index_or}
use Rattle.std.specs.List.{list_any}
use Rattle.ds_base.specs.declared.geometry.Geom.{Geom}
use Rattle.ds_base.specs.declared.geometry.Kind.TheVariants.{Fd}
use Rattle.ds_base.specs.Geometry.{items_of}
use Rattle.ds_base.specs.declared.names.NodeKind.{NodeKind}
use Rattle.ds_base.specs.declared.names.NodeKind.TheVariants as kinds
use Rattle.ds_dir.specs.declared.sub_block.Entry.{Entry}
use Rattle.ds_fd.specs.declared.body.Body.{Body}
use Rattle.ds_image_parts.specs.Parts.{part_at, Parts}
use Rattle.ds_image_parts.specs.Objects.{subs_of, rooms_of}
use Rattle.ds_check.specs.declared.findings.Find.{Find}
use Rattle.ds_check.specs.Rows.{find_if, row}
use Rattle.ds_check.specs.declared.findings.Find.TheVariants.{Dangling, Again}

-- the rooms of an object, where it is a directory
abbrev pub rooms_at : Parts → ℕ → List (Option Entry)
rooms_at p o = rooms_of p (subs_of (part_at p.bodies o))

abbrev pub same_kind : NodeKind → Option NodeKind → Bool
same_kind kinds.File (Some kinds.File) = true
same_kind kinds.Dir (Some kinds.Dir) = true
same_kind _ _ = false

-- whether this is the body of an entry's object: in use in that life, and of that kind
abbrev pub is_body_of : Entry → Option Body → Bool
is_body_of e None = false
is_body_of e (Some b) = same_kind e.kind b.kind && (b.birth == e.key.birth)

abbrev pub is_dangling : Parts → Option Entry → Bool
is_dangling p None = false
is_dangling p (Some e) = not (is_body_of e (part_at p.bodies e.key.object))

-- a room whose entry's object isn't there
abbrev pub dangling_room : Parts → ℕ → List (Option Entry) → ℕ → List Find
dangling_room p o rooms r = find_if (is_dangling p (slice_index_or rooms r None)) (Dangling o r)

-- the rooms of one directory whose entry's object isn't there
abbrev pub dangling_in : Parts → ℕ → List (Option Entry) → List Find
dangling_in p o rooms = row (length rooms) (dangling_room p o rooms)

-- the rooms whose entry's object isn't there, by object and room
abbrev pub dangling : Geom → Parts → List Find
dangling g p = row (items_of g Fd) (λ o. dangling_in p o (rooms_at p o))

abbrev pub has_name : List ℕ → Option Entry → Bool
has_name name None = false
has_name name (Some e) = bytes_eq e.name name

-- whether one of these rooms has the name of this one
abbrev pub is_named_in : List (Option Entry) → Option Entry → Bool
is_named_in rooms None = false
is_named_in rooms (Some e) = list_any (has_name e.name) rooms

-- a room whose name stands in an earlier room of the directory
abbrev pub repeated_room : ℕ → List (Option Entry) → ℕ → List Find
repeated_room o rooms r = find_if (is_named_in (take r rooms) (slice_index_or rooms r None)) (Again o r)

-- the rooms of one directory whose name stands in an earlier room
abbrev pub repeated_in : ℕ → List (Option Entry) → List Find
repeated_in o rooms = row (length rooms) (repeated_room o rooms)

-- the rooms whose name stands in an earlier room of the directory, by object and room
abbrev pub repeated : Geom → Parts → List Find
repeated g p = row (items_of g Fd) (λ o. repeated_in o (rooms_at p o))

-- whether the name of a room's entry is among those that are known
abbrev pub is_known : (List ℕ → Bool) → Option Entry → Bool
is_known known None = false
is_known known (Some e) = known e.name
