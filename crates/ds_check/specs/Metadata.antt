-- The third stage: bitmaps, bodies and the root.
use Rattle.std.specs.Prelude.{ℕ, Bool, true, false, not, ◌==◌, ◌&&◌, is_none, List, ◌++◌, Option, Some, None}
use Rattle.ds_base.specs.declared.geometry.Geom.{Geom}
use Rattle.ds_base.specs.declared.geometry.Kind.{Kind}
use Rattle.ds_base.specs.declared.geometry.Kind.TheVariants.{Fd}
use Rattle.ds_base.specs.Geometry.{clusters_of, items_of}
use Rattle.ds_base.specs.declared.names.NodeKind.{NodeKind}
use Rattle.ds_base.specs.declared.names.NodeKind.TheVariants as kinds
use Rattle.ds_layout.specs.Places.{place_sector}
use Rattle.ds_layout.specs.declared.places.Place.TheVariants as places
use Rattle.ds_fd.specs.declared.body.Body.{Body}
use Rattle.ds_image_parts.specs.Parts.{part_at, Parts, maps_of}
use Rattle.ds_check.specs.declared.findings.Find.{Find}
use Rattle.ds_check.specs.Rows.{find_if, row, row_of_kinds}
use Rattle.ds_check.specs.declared.findings.Find.TheVariants.{MetaForm, Root}

-- a bitmap without its form
abbrev pub bitmap_form : Geom → Parts → Kind → ℕ → List Find
bitmap_form g p kind n = find_if (is_none (part_at (maps_of p kind) n)) (MetaForm (place_sector g (places.Bitmap kind n)))

-- a body without its form
abbrev pub body_form : Geom → Parts → ℕ → List Find
body_form g p o = find_if (is_none (part_at p.bodies o)) (MetaForm (place_sector g (places.Body o)))

-- the bitmaps and bodies without their form, by rising sector
abbrev pub unread : Geom → Parts → List Find
unread g p = row_of_kinds (λ kind. row (clusters_of g kind) (bitmap_form g p kind)) ++ row (items_of g Fd) (body_form g p)

abbrev pub is_dir : Option NodeKind → Bool
is_dir (Some kinds.Dir) = true
is_dir _ = false

-- whether this is the body of a root: a directory with birth 1
abbrev pub is_root : Option Body → Bool
is_root None = false
is_root (Some b) = is_dir b.kind && (b.birth == 1)

-- a root that is none
abbrev pub root_finds : Parts → List Find
root_finds p = find_if (not (is_root (part_at p.bodies 0))) Root

abbrev pub metadata_stage : Geom → Parts → List Find
metadata_stage g p = unread g p ++ root_finds p
