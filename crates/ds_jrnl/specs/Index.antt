-- Which indexes there are, and the sectors that spell them.
use Rattle.std.specs.Prelude.{ℕ, ◌-◌, ◌^◌, ◌<◌, ◌≤◌, List, [], ◌∷◌, ◌++◌, length, codes}
use Rattle.std.specs.List.Sorted.{IsStrictlyIncreasing}
use Rattle.ds_bytes.specs.Fields.{zeros, AllBelow, Field, Num, Raw, Nums, sector_of_fields}
use Rattle.ds_jrnl.specs.declared.index.Index.{Index}

-- the fields have the widths of their types
pub record HasWidths (x : Index) : Type 0 where
  pub slot_fits : x.slot < 2 ^ 8
  pub generation_fits : x.generation < 2 ^ 64
  pub txn_fits : x.txn < 2 ^ 64
  pub targets_fit : AllBelow (2 ^ 32) x.targets.items

-- 1 to 31 targets, each below the next
pub record InRanges (x : Index) : Type 0 where
  pub some : 1 ≤ length x.targets.items
  pub most : length x.targets.items ≤ 31
  pub rising : IsStrictlyIncreasing x.targets.items

-- an index
pub record IsIndex (x : Index) : Type 0 where
  pub widths : HasWidths x
  pub ranges : InRanges x

abbrev pub index_fields : Index → List Field
index_fields x =
    Raw 4 (codes "DSJI") ∷ Num 1 x.slot ∷ Num 1 (length x.targets.items) ∷ Raw 2 (zeros 2) ∷ Num 8 x.generation ∷ Num 8 x.txn
    ∷ Nums 4 31 (x.targets.items ++ zeros (31 - length x.targets.items)) ∷ []

-- the sector of an index
unfoldable pub index_bytes : Index → List ℕ
index_bytes x = sector_of_fields (index_fields x)
