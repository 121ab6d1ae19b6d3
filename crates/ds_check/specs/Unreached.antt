-- Objects that aren't reached, and the parents of objects as they are put down.
use Rattle.std.specs.Prelude.{ℕ, Bool, false, not, ◌==◌, ◌&&◌, List, length, Option, Some, None, slice_index_or, count_by, ◌≡◌, ◌<◌, ◌≤◌, ◌⊎◌, slice_set}
use Rattle.std.specs.List.{filter_map}
use Rattle.ds_image_parts.specs.Parts.{part_at, Parts}
use Rattle.ds_image_parts.specs.Objects.{is_used}
use Rattle.ds_image_tables.specs.Parents.{parent_of}
use Rattle.ds_check.specs.declared.findings.Find.{Find}
use Rattle.ds_check.specs.Rows.{find_if}
use Rattle.ds_check.specs.declared.findings.Find.TheVariants.{Lost}
use Rattle.ds_check.specs.Entries.{rooms_at}
use Rattle.ds_check.specs.Names.{named_in}

-- whether an object is in use and not among those that are reached
abbrev pub is_unreached : Parts → List Bool → ℕ → Bool
is_unreached p reached o = is_used (part_at p.bodies o) && not (slice_index_or reached o false)

abbrev pub unreached_at : Parts → List Bool → ℕ → List Find
unreached_at p reached o = find_if (is_unreached p reached o) (Lost o)

-- the objects that a directory names, as often as it does
abbrev pub named_at : Parts → ℕ → List ℕ
named_at p dir = filter_map (named_in p) (rooms_at p dir)

-- how often an object stands in a list
abbrev pub times : ℕ → List ℕ → ℕ
times o named = count_by (λ x. x == o) named

-- the parents with this one for an object, where there is one
abbrev pub set_named : List (Option ℕ) → Option ℕ → ℕ → List (Option ℕ)
set_named parents None dir = parents
set_named parents (Some o) dir = slice_set parents o (Some dir)

-- just these objects get this parent
pub record GivesParents (old : List (Option ℕ)) (named : List ℕ) (dir : ℕ) (new : List (Option ℕ)) : Type 0 where
  pub count : length new ≡ length old
  pub from : (o parent : ℕ) → parent_of new o ≡ Some parent → ((parent ≡ dir) × (1 ≤ times o named)) ⊎ (parent_of old o ≡ Some parent)
  pub none : (o : ℕ) → parent_of new o ≡ None → (parent_of old o ≡ None) × (o < length old → times o named ≡ 0)

-- an object's parent is one of the first n directories that names it, and what has none is named by none of them
pub record AreNamers (p : Parts) (n : ℕ) (parents : List (Option ℕ)) : Type 0 where
  pub named : (o dir : ℕ) → parent_of parents o ≡ Some dir → (dir < n) × (1 ≤ times o (named_at p dir))
  pub none : (o dir : ℕ) → o < length parents → dir < n → parent_of parents o ≡ None → times o (named_at p dir) ≡ 0
