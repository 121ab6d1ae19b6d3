-- The fifth stage: items that are used twice.
use Rattle.std.specs.Prelude.{ℕ, List, [], ◌∷◌}
use Rattle.ds_base.specs.declared.geometry.Geom.{Geom}
use Rattle.ds_base.specs.declared.geometry.Kind.{Kind}
use Rattle.ds_base.specs.Geometry.{items_of}
use Rattle.ds_image_tables.specs.Users.{users}
use Rattle.ds_image_parts.specs.Parts.{Parts}
use Rattle.ds_check.specs.declared.findings.Find.{Find}
use Rattle.ds_check.specs.Rows.{row, row_of_kinds}
use Rattle.ds_check.specs.declared.findings.Find.TheVariants.{Twice}
use Rattle.ds_check.specs.Uses.{uses_of}

-- an item that is used twice, by the two least objects
abbrev pub twice : Kind → ℕ → List ℕ → List Find
twice kind n (first ∷ (second ∷ more)) = Twice kind n first second ∷ []
twice kind n _ = []

-- the items of a kind that are listed twice
abbrev pub shared_items : Geom → Parts → Kind → List Find
shared_items g p kind = row (items_of g kind) (λ n. twice kind n (users (uses_of g p kind) n))

abbrev pub sharing_stage : Geom → Parts → List Find
sharing_stage g p = row_of_kinds (shared_items g p)
