-- Sense data (SPC-4, 4.5.3 "Fixed format sense data"; the sense keys and the additional sense codes are those of its tables). That a
-- mismatch is told with VALID and the offset of the first difference in INFORMATION is SBC-3's rule for COMPARE AND WRITE.
use Rattle.std.specs.Prelude.{ℕ, ◌<◌, ◌^◌, List, [], ◌∷◌, ◌++◌}
use Rattle.std.specs.Int.{w32, to_be_bytes}
use Rattle.ds_scsi.specs.declared.sense_data.Sense.{Sense}
use Rattle.ds_scsi.specs.declared.sense_data.Sense.TheVariants.{Miscompare, BadOpcode, BadField, OutOfRange}

-- the 18 bytes with this first byte (VALID and RESPONSE CODE), SENSE KEY, INFORMATION and ADDITIONAL SENSE CODE: the
-- ADDITIONAL SENSE LENGTH is 10, and all else is zero
unfoldable pub fixed_format : ℕ → ℕ → ℕ → ℕ → List ℕ
fixed_format first key information additional =
    first ∷ 0 ∷ key ∷ []
    ++ to_be_bytes w32 information
    ++ 10 ∷ 0 ∷ 0 ∷ 0 ∷ 0 ∷ additional ∷ 0 ∷ 0 ∷ 0 ∷ 0 ∷ 0 ∷ []

-- the sense data of a cause: MISCOMPARE with VALID set, or ILLEGAL REQUEST
unfoldable pub sense_bytes : Sense → List ℕ
sense_bytes (Miscompare offset) = fixed_format 0xf0 0x0e offset 0x1d
sense_bytes BadOpcode = fixed_format 0x70 0x05 0 0x20
sense_bytes BadField = fixed_format 0x70 0x05 0 0x24
sense_bytes OutOfRange = fixed_format 0x70 0x05 0 0x21

-- an offset has room in INFORMATION
abbrev pub FitsInformation : Sense → Type 0
FitsInformation (Miscompare offset) = offset < 2 ^ 32
FitsInformation BadOpcode = Unit {0}
FitsInformation BadField = Unit {0}
FitsInformation OutOfRange = Unit {0}
