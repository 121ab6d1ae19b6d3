-- Which headers there are, and the sectors that spell them.
use Rattle.std.specs.Prelude.{◌≡◌, ℕ, ◌^◌, ◌<◌, ◌≤◌, List, [], ◌∷◌, length, replicate, codes, Option, Some, None}
use Rattle.ds_bytes.specs.Fields.{zeros, Field, Num, Raw, sector_of_fields}
use Rattle.ds_marks.specs.declared.header.Header.{Header}
use Rattle.ds_marks.specs.declared.header.Owner.{Owner}

-- the byte that says whether there is an owner
abbrev pub owned_code : Option Owner → ℕ
owned_code None = 0
owned_code (Some o) = 1

-- the owner as it is written, with zeros where there is none
abbrev pub written_owner : Option Owner → Owner
written_owner None = record { slot = 0; generation = 0; host = replicate 16 0 }
written_owner (Some o) = o

-- an owner has a generation from 1 to 2^62
abbrev pub IsOwner : Option Owner → Type 0
IsOwner None = Unit {0}
IsOwner (Some o) = (1 ≤ o.generation) × (o.generation ≤ 2 ^ 62)

-- an owner's fields have the widths of their types
abbrev pub HasOwnerWidths : Option Owner → Type 0
HasOwnerWidths None = Unit {0}
HasOwnerWidths (Some o) = (o.slot < 256) × (length o.host ≡ 16)

-- the fields have the widths of their types
pub record HasWidths (h : Header) : Type 0 where
  pub object_fits : h.object < 2 ^ 32
  pub owner_fits : HasOwnerWidths h.owner

-- each field is in its range
pub record InRanges (h : Header) : Type 0 where
  pub generation_to : h.generation ≤ 2 ^ 62
  pub is_owner : IsOwner h.owner

-- a header
pub record IsHeader (h : Header) : Type 0 where
  pub widths : HasWidths h
  pub ranges : InRanges h

abbrev pub header_fields : Header → List Field
header_fields h =
    Raw 4 (codes "DSLK") ∷ Num 1 (owned_code h.owner) ∷ Num 1 (written_owner h.owner).slot ∷ Raw 2 (zeros 2)
    ∷ Num 4 h.object ∷ Raw 4 (zeros 4) ∷ Num 8 h.generation ∷ Num 8 (written_owner h.owner).generation
    ∷ Raw 16 (written_owner h.owner).host ∷ []

-- the sector of a header
unfoldable pub header_bytes : Header → List ℕ
header_bytes h = sector_of_fields (header_fields h)
