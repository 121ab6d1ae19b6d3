-- Which bodies there are, and the sectors that spell them.
use Rattle.std.specs.Prelude.{◌≡◌, ℕ, ◌+◌, ◌-◌, ◌/◌, ◌^◌, ◌<◌, ◌≤◌, nat_le, if◌then◌else◌, List, [], ◌∷◌, length, drop, codes, Option, Some, None}
use Rattle.ds_base.specs.declared.names.NodeKind.{NodeKind}
use Rattle.ds_base.specs.declared.names.NodeKind.TheVariants.{File, Dir}
use Rattle.ds_bytes.specs.Fields.{zeros, AllBelow, Field, Num, Raw, Nums, sector_of_fields}
use Rattle.ds_bytes.specs.NodeKinds.{kind_code}
use Rattle.ds_fd.specs.declared.body.Body.{Body}

-- a file has one link, and nothing else has any
abbrev pub links_of : Option NodeKind → ℕ
links_of None = 0
links_of (Some File) = 1
links_of (Some Dir) = 0

-- the most blocks of a file, and the most sub-blocks of a directory
abbrev pub most_count : Option NodeKind → ℕ
most_count None = 0
most_count (Some File) = 12288
most_count (Some Dir) = 96

-- births begin at 1 where a descriptor is in use
abbrev pub least_birth : Option NodeKind → ℕ
least_birth None = 0
least_birth (Some kind) = 1

-- how many addresses are in use: one for each sub-block or block, and above 96 blocks one for each 128 of them
abbrev pub addresses_used : Option NodeKind → ℕ → ℕ
addresses_used None count = 0
addresses_used (Some Dir) count = count
addresses_used (Some File) count = if nat_le count 96 then count else (count + 127) / 128

-- the fields have the widths of their types
pub record HasWidths (b : Body) : Type 0 where
  pub object_fits : b.object < 2 ^ 32
  pub links_fit : b.links < 2 ^ 32
  pub birth_fits : b.birth < 2 ^ 64
  pub count_fits : b.count < 2 ^ 32
  pub address_count : length b.addresses ≡ 96
  pub addresses_fit : AllBelow (2 ^ 32) b.addresses

-- the links, the count and the birth are those of the kind, and the addresses past those in use are zero
pub record InRanges (b : Body) : Type 0 where
  pub links_are : b.links ≡ links_of b.kind
  pub count_to : b.count ≤ most_count b.kind
  pub birth_from : least_birth b.kind ≤ b.birth
  pub birth_to : b.birth ≤ 2 ^ 62
  pub rest_is_zero : drop (addresses_used b.kind b.count) b.addresses ≡ zeros (96 - addresses_used b.kind b.count)

-- a body of a descriptor
pub record IsBody (b : Body) : Type 0 where
  pub widths : HasWidths b
  pub ranges : InRanges b

abbrev pub body_fields : Body → List Field
body_fields b =
    Raw 4 (codes "DSFD") ∷ Num 1 (kind_code b.kind) ∷ Raw 3 (zeros 3) ∷ Num 4 b.object ∷ Num 4 b.links ∷ Num 8 b.birth
    ∷ Num 4 b.count ∷ Raw 4 (zeros 4) ∷ Nums 4 96 b.addresses ∷ []

-- the sector of a body
unfoldable pub body_bytes : Body → List ℕ
body_bytes b = sector_of_fields (body_fields b)
