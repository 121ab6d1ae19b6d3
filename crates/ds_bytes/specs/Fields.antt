-- How values are spelled as bytes: a table of fields, one after another, each number with its lowest byte first.
use Rattle.std.specs.Prelude.{◌≡◌, ℕ, zero, suc, ◌+◌, ◌-◌, ◌*◌, ◌/◌, ◌%◌, ◌^◌, ◌<◌, List, [], ◌∷◌, ◌++◌, length, take, replicate, slice_index}
use Rattle.std.specs.List.{flat_map}

-- the lowest n bytes of a number, the lowest first
unfoldable pub little : ℕ → ℕ → List ℕ
little zero x = []
little (suc n) x = x % 256 ∷ little n (x / 256)

-- numbers of n bytes each, one after another
unfoldable pub littles : ℕ → List ℕ → List ℕ
littles n xs = flat_map (little n) xs

-- so many zeros
unfoldable pub zeros : ℕ → List ℕ
zeros n = replicate n 0

-- the first n bytes
unfoldable pub front : ℕ → List ℕ → List ℕ
front n bytes = take n bytes

-- the bytes of a sector that begins with these and is zero from there on
unfoldable pub padded : List ℕ → List ℕ
padded bytes = bytes ++ zeros (512 - length bytes)

-- every number of the list is below the limit
abbrev pub AllBelow : ℕ → List ℕ → Type 0
AllBelow limit xs = (i : ℕ) → slice_index xs i < limit

-- a field: a number of n bytes, n bytes as they are, or k numbers of n bytes each (n, k, the numbers)
pub data Field : Type 0 where
  Num : ℕ → ℕ → Field
  Raw : ℕ → List ℕ → Field
  Nums : ℕ → ℕ → List ℕ → Field

-- how a field is spelled
abbrev pub field_bytes : Field → List ℕ
field_bytes (Num n x) = little n x
field_bytes (Raw n xs) = xs
field_bytes (Nums n k xs) = littles n xs

-- how many bytes a field has
abbrev pub field_size : Field → ℕ
field_size (Num n x) = n
field_size (Raw n xs) = n
field_size (Nums n k xs) = n * k

-- the field with nothing in it
abbrev pub kind_of : Field → Field
kind_of (Num n x) = Num n 0
kind_of (Raw n xs) = Raw n []
kind_of (Nums n k xs) = Nums n k []

-- what the field holds has its width
abbrev pub FieldFits : Field → Type 0
FieldFits (Num n x) = x < 256 ^ n
FieldFits (Raw n xs) = length xs ≡ n
FieldFits (Nums n k xs) = (length xs ≡ k) × AllBelow (256 ^ n) xs

-- bytes, and after them the fields one after another
abbrev pub spelled_after : List ℕ → List Field → List ℕ
spelled_after bytes [] = bytes
spelled_after bytes (f ∷ fs) = spelled_after (bytes ++ field_bytes f) fs

-- the fields, one after another
abbrev pub spelled : List Field → List ℕ
spelled fs = spelled_after [] fs

-- the sector that begins with the fields and is zero from there on
abbrev pub sector_of_fields : List Field → List ℕ
sector_of_fields fs = padded (spelled fs)

-- the table with nothing in its fields
abbrev pub kinds : List Field → List Field
kinds [] = []
kinds (f ∷ fs) = kind_of f ∷ kinds fs

-- how many bytes the fields have together
abbrev pub fields_size : List Field → ℕ
fields_size [] = 0
fields_size (f ∷ fs) = field_size f + fields_size fs

-- each field holds what has its width
abbrev pub FieldsFit : List Field → Type 0
FieldsFit [] = Unit {0}
FieldsFit (f ∷ fs) = FieldFits f × FieldsFit fs
