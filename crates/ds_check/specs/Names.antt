-- The seventh stage: entries, and how many names an object has.
use Rattle.std.specs.Prelude.{ℕ, not, ◌==◌, ◌&&◌, if◌then◌else◌, List, ◌++◌, Option, Some, None, count_by}
use Rattle.std.specs.List.{flat_map, filter_map, range_with_len}
use Rattle.ds_base.specs.declared.geometry.Geom.{Geom}
use Rattle.ds_base.specs.declared.geometry.Kind.TheVariants.{Fd}
use Rattle.ds_base.specs.Geometry.{items_of}
use Rattle.ds_dir.specs.declared.sub_block.Entry.{Entry}
use Rattle.ds_image_parts.specs.Parts.{part_at, Parts}
use Rattle.ds_image_parts.specs.Objects.{is_used}
use Rattle.ds_check.specs.declared.findings.Find.{Find}
use Rattle.ds_check.specs.Rows.{find_if, row}
use Rattle.ds_check.specs.declared.findings.Find.TheVariants.{Names}
use Rattle.ds_check.specs.Entries.{rooms_at, is_body_of, dangling, repeated}

-- the object that a room names, where the object is there
abbrev pub named_in : Parts → Option Entry → Option ℕ
named_in p None = None
named_in p (Some e) = if is_body_of e (part_at p.bodies e.key.object) then Some e.key.object else None

-- the objects that the rooms of all directories name, as often as they do
abbrev pub all_named : Geom → Parts → List ℕ
all_named g p = flat_map (λ o. filter_map (named_in p) (rooms_at p o)) (range_with_len 0 (items_of g Fd))

-- how many names an object has
abbrev pub names_of : Geom → Parts → ℕ → ℕ
names_of g p o = count_by (λ named. named == o) (all_named g p)

-- how many names an object is to have
abbrev pub wanted_names : ℕ → ℕ
wanted_names o = if o == 0 then 0 else 1

-- a used object with another number of names
abbrev pub misnamed_at : Geom → Parts → ℕ → List Find
misnamed_at g p o = find_if (is_used (part_at p.bodies o) && not (names_of g p o == wanted_names o)) (Names o (names_of g p o))

-- the used objects with another number of names
abbrev pub misnamed : Geom → Parts → List Find
misnamed g p = row (items_of g Fd) (misnamed_at g p)

abbrev pub naming_stage : Geom → Parts → List Find
naming_stage g p = dangling g p ++ repeated g p ++ misnamed g p
