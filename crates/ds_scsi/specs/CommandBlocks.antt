-- Command descriptor blocks (CDBs). The operation codes and the places of the fields are those of SBC-3, the sections
-- "READ (16) command", "WRITE (16) command" and "COMPARE AND WRITE command". What is refused, in which order, and what is
-- ignored, is this project's profile.
use Rattle.std.specs.Prelude.{◌≡◌, ℕ, ◌*◌, ◌/◌, ◌≤◌, ◌==◌, nat_lt, Bool, not, ◌||◌, List, length, slice_index, slice_range, Result, Ok, Err, if◌then◌else◌}
use Rattle.std.specs.Int.{w32, w64, from_be_bytes}
use Rattle.ds_scsi.specs.declared.command_blocks.Cdb.{Cdb}
use Rattle.ds_scsi.specs.declared.command_blocks.Cdb.TheVariants.{Read, Write, Swap}
use Rattle.ds_scsi.specs.declared.command_blocks.CdbFault.{CdbFault}
use Rattle.ds_scsi.specs.declared.command_blocks.CdbFault.TheVariants.{ShortCdb, BadOpcode, BadField}

-- whether a byte is the operation code of READ (16), WRITE (16) or COMPARE AND WRITE
abbrev pub is_operation : ℕ → Bool
is_operation code = code == 0x88 || code == 0x8a || code == 0x89

-- the LOGICAL BLOCK ADDRESS, bytes 2 to 9
abbrev pub lba_at : List ℕ → ℕ
lba_at bytes = from_be_bytes w64 (slice_range bytes 2 10)

-- the TRANSFER LENGTH of READ (16) and WRITE (16), bytes 10 to 13
abbrev pub transfer_length_at : List ℕ → ℕ
transfer_length_at bytes = from_be_bytes w32 (slice_range bytes 10 14)

-- the NUMBER OF LOGICAL BLOCKS of COMPARE AND WRITE, byte 13
abbrev pub number_of_blocks_at : List ℕ → ℕ
number_of_blocks_at bytes = slice_index bytes 13

-- the RDPROTECT or WRPROTECT field, bits 7 to 5 of byte 1
abbrev pub protection_at : List ℕ → ℕ
protection_at bytes = slice_index bytes 1 / 32

-- this fault where the condition holds, and else what follows
abbrev pub refuse : Bool → CdbFault → Result Cdb CdbFault → Result Cdb CdbFault
refuse condition fault next = if condition then Err fault else next

-- what a READ or a WRITE asks for: at most 256 logical blocks
abbrev pub transfer_at : List ℕ → Result Cdb CdbFault
transfer_at bytes =
    refuse (nat_lt 256 (transfer_length_at bytes)) (BadField 10)
    (Ok (if slice_index bytes 0 == 0x88
    then Read (lba_at bytes) (transfer_length_at bytes)
    else Write (lba_at bytes) (transfer_length_at bytes)))

-- what a COMPARE AND WRITE asks for: at most one logical block
abbrev pub compare_and_write_at : List ℕ → Result Cdb CdbFault
compare_and_write_at bytes =
    refuse (nat_lt 1 (number_of_blocks_at bytes)) (BadField 13)
    (Ok (Swap (lba_at bytes) (number_of_blocks_at bytes)))

-- what a list of bytes asks for, or why it is refused: the causes are looked for in this order
unfoldable pub cdb_at : List ℕ → Result Cdb CdbFault
cdb_at bytes =
    refuse (length bytes == 0) ShortCdb
    (refuse (not (is_operation (slice_index bytes 0))) BadOpcode
    (refuse (nat_lt (length bytes) 16) ShortCdb
    (refuse (not (protection_at bytes == 0)) (BadField 1)
    (if slice_index bytes 0 == 0x89 then compare_and_write_at bytes else transfer_at bytes))))

-- the most logical blocks that the profile lets one command ask for
abbrev pub IsWithinProfile : Cdb → Type 0
IsWithinProfile (Read lba count) = count ≤ 256
IsWithinProfile (Write lba count) = count ≤ 256
IsWithinProfile (Swap lba count) = count ≤ 1

-- the length of the Data-Out buffer: of COMPARE AND WRITE the verify instance and then the write instance
abbrev pub out_len_of : Cdb → ℕ
out_len_of (Read lba count) = 0
out_len_of (Write lba count) = 512 * count
out_len_of (Swap lba count) = 1024 * count

-- the length of the Data-In buffer
abbrev pub in_len_of : Cdb → ℕ
in_len_of (Read lba count) = 512 * count
in_len_of (Write lba count) = 0
in_len_of (Swap lba count) = 0

-- what a block has, whatever it asks for: sixteen bytes or more, this operation code, no protection, this LBA
pub record IsBlock (bytes : List ℕ) (code lba : ℕ) : Type 0 where
  pub long : 16 ≤ length bytes
  pub operation : slice_index bytes 0 ≡ code
  pub unprotected : protection_at bytes ≡ 0
  pub address : lba_at bytes ≡ lba

-- the bytes ask for this command, which is within the profile
abbrev pub Asks : List ℕ → Cdb → Type 0
Asks bytes (Read lba count) = IsBlock bytes 0x88 lba × (transfer_length_at bytes ≡ count) × (count ≤ 256)
Asks bytes (Write lba count) = IsBlock bytes 0x8a lba × (transfer_length_at bytes ≡ count) × (count ≤ 256)
Asks bytes (Swap lba count) = IsBlock bytes 0x89 lba × (number_of_blocks_at bytes ≡ count) × (count ≤ 1)
