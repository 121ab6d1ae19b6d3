-- The sixth stage: items whose bits differ from their use.
use Rattle.std.specs.Prelude.{ℕ, Bool, not, ◌&&◌, nat_lt, List, ◌++◌, length}
use Rattle.ds_base.specs.declared.geometry.Geom.{Geom}
use Rattle.ds_base.specs.declared.geometry.Kind.{Kind}
use Rattle.ds_base.specs.declared.geometry.Kind.TheVariants.{Fd}
use Rattle.ds_base.specs.Geometry.{items_of}
use Rattle.ds_image_parts.specs.Parts.{part_at, Parts, maps_of, bits_in}
use Rattle.ds_image_parts.specs.Objects.{is_used}
use Rattle.ds_image_tables.specs.Owns.{bit}
use Rattle.ds_image_tables.specs.Users.{users}
use Rattle.ds_check.specs.declared.findings.Find.{Find}
use Rattle.ds_check.specs.Rows.{find_if, row, row_of_kinds}
use Rattle.ds_check.specs.declared.findings.Find.TheVariants.{Marked, Unmarked}
use Rattle.ds_check.specs.Uses.{uses_of}

-- whether an item is used: a descriptor that is in use, or an item that an object lists
abbrev pub is_in_use : Geom → Parts → Kind → ℕ → Bool
is_in_use g p Fd n = is_used (part_at p.bodies n)
is_in_use g p kind n = nat_lt 0 (length (users (uses_of g p kind) n))

abbrev pub is_marked : Parts → Kind → ℕ → Bool
is_marked p kind n = bit (bits_in (maps_of p kind)) n

-- the items of a kind that are marked and not used, and then those that are used and not marked
abbrev pub mismarked : Geom → Parts → Kind → List Find
mismarked g p kind =
    row (items_of g kind) (λ n. find_if (is_marked p kind n && not (is_in_use g p kind n)) (Marked kind n))
    ++ row (items_of g kind) (λ n. find_if (is_in_use g p kind n && not (is_marked p kind n)) (Unmarked kind n))

abbrev pub marking_stage : Geom → Parts → List Find
marking_stage g p = row_of_kinds (mismarked g p)
