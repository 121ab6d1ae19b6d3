-- Rows of findings: one number after another, each with its findings.
use Rattle.std.specs.Prelude.{ℕ, Bool, if◌then◌else◌, List, [], ◌∷◌}
use Rattle.std.specs.List.{flat_map, range_with_len}
use Rattle.ds_base.specs.declared.geometry.Kind.{Kind}
use Rattle.ds_base.specs.declared.geometry.Kind.TheVariants.{Fd, Sb, Pb, Fb}
use Rattle.ds_check.specs.declared.findings.Find.{Find}

abbrev pub find_if : Bool → Find → List Find
find_if found find = if found then find ∷ [] else []

-- the findings of the numbers below a count, in their order
abbrev pub row : ℕ → (ℕ → List Find) → List Find
row count each = flat_map each (range_with_len 0 count)

-- the findings of the kinds, in their order
abbrev pub row_of_kinds : (Kind → List Find) → List Find
row_of_kinds each = flat_map each (Fd ∷ Sb ∷ Pb ∷ Fb ∷ [])

-- the first of these lists that has findings
abbrev pub first_found : List (List Find) → List Find
first_found [] = []
first_found ([] ∷ stages) = first_found stages
first_found ((find ∷ finds) ∷ stages) = find ∷ finds
