-- What a command does to the sectors of a device, and how it is answered: SBC-3, the sections "READ (16) command",
-- "WRITE (16) command" and "COMPARE AND WRITE command"; the statuses are those of SAM-5, 5.3 "Status". The order in which
-- the causes of a refusal are looked for is this project's profile; the sense key and the additional sense code of each
-- are those of SPC-4's tables of them.
use Rattle.std.specs.Prelude.{◌≡◌, ℕ, ◌+◌, ◌*◌, ◌<◌, ◌==◌, nat_lt, Bool, true, not, ◌&&◌, List, [], length, take, drop, Some, None, Result, Ok, Err, MatchBool, if◌then◌else◌}
use Rattle.std.specs.Str.{bytes_eq}
use Rattle.ds_base.specs.declared.sectors.Sector.{Sector}
use Rattle.ds_base.specs.Device.{IsFirstDifference}
use Rattle.ds_scsi.specs.declared.command_blocks.Cdb.{Cdb}
use Rattle.ds_scsi.specs.declared.command_blocks.Cdb.TheVariants.{Read, Write, Swap}
use Rattle.ds_scsi.specs.declared.command_blocks.CdbFault.{CdbFault}
use Rattle.ds_scsi.specs.declared.command_blocks.CdbFault.TheVariants.{ShortCdb, BadOpcode, BadField}
use Rattle.ds_scsi.specs.declared.sense_data.Sense.{Sense}
use Rattle.ds_scsi.specs.declared.sense_data.Sense.TheVariants.{Miscompare, OutOfRange, BadOpcode as InvalidOpcode, BadField as InvalidField}
use Rattle.ds_scsi.specs.CommandBlocks.{in_len_of}
use Rattle.ds_scsi.specs.SenseData.{sense_bytes}
use Rattle.ds_target.specs.declared.execution.ScsiReply.{ScsiReply}
use Rattle.ds_target.specs.Blocks.{bytes_from, images_in, overwritten}

-- the first logical block that a command asks for
abbrev pub lba_of : Cdb → ℕ
lba_of (Read lba count) = lba
lba_of (Write lba count) = lba
lba_of (Swap lba count) = lba

-- how many logical blocks it asks for
abbrev pub count_of : Cdb → ℕ
count_of (Read lba count) = count
count_of (Write lba count) = count
count_of (Swap lba count) = count

-- how many logical blocks it writes where it is carried out
abbrev pub room_of : Cdb → ℕ
room_of (Read lba count) = 0
room_of (Write lba count) = count
room_of (Swap lba count) = count

-- whether it asks for a sector that isn't there; one that asks for none does not
abbrev pub is_out_of_range : List Sector → Cdb → Bool
is_out_of_range sectors cdb = not (count_of cdb == 0) && nat_lt (length sectors) (lba_of cdb + count_of cdb)

-- whether the sectors hold what the command verifies: COMPARE AND WRITE's verify instance, the front of its Data-Out buffer
abbrev pub is_verified : List Sector → Cdb → List ℕ → Bool
is_verified sectors (Read lba count) out = true
is_verified sectors (Write lba count) out = true
is_verified sectors (Swap lba count) out = bytes_eq (bytes_from sectors lba count) (take (512 * count) out)

-- the sectors after a command that was carried out: a WRITE puts its Data-Out buffer, a COMPARE AND WRITE the write instance
abbrev pub written : List Sector → Cdb → List ℕ → List Sector
written sectors (Read lba count) out = sectors
written sectors (Write lba count) out = overwritten sectors lba (images_in count out)
written sectors (Swap lba count) out = overwritten sectors lba (images_in count (drop (512 * count) out))

-- GOOD, with this many bytes sent
abbrev pub good : ℕ → ScsiReply
good sent = record { status = 0x00; sense = None; sent = sent }

-- CHECK CONDITION, with the sense data of its cause
abbrev pub check_condition : Sense → ScsiReply
check_condition cause = record { status = 0x02; sense = Some (sense_bytes cause); sent = 0 }

-- the cause that is told of bytes that are no command descriptor block
abbrev pub cause_of : CdbFault → Sense
cause_of BadOpcode = InvalidOpcode
cause_of ShortCdb = InvalidField
cause_of (BadField byte) = InvalidField

-- the reply to a mismatch tells the first byte of the verify instance that differs from the sectors
abbrev pub TellsMismatch : List Sector → Cdb → List ℕ → ScsiReply → Type 0
TellsMismatch sectors cdb out reply =
    (offset : ℕ)
    × (offset < 512 * count_of cdb)
    × IsFirstDifference (bytes_from sectors (lba_of cdb) (count_of cdb)) out offset
    × (reply ≡ check_condition (Miscompare offset))

-- how a command is answered: whether it could be read comes first, then the range, then the comparison
abbrev pub Replies : List Sector → Result Cdb CdbFault → List ℕ → ScsiReply → Type 0
Replies sectors (Err fault) out reply = reply ≡ check_condition (cause_of fault)
Replies sectors (Ok cdb) out reply =
    MatchBool (is_out_of_range sectors cdb)
    (reply ≡ check_condition OutOfRange)
    (MatchBool (is_verified sectors cdb out)
    (reply ≡ good (in_len_of cdb))
    (TellsMismatch sectors cdb out reply))

-- whatever replies to a command is this reply
abbrev pub IsTheReply : List Sector → Result Cdb CdbFault → List ℕ → ScsiReply → Type 0
IsTheReply sectors read out reply = (other : ScsiReply) → Replies sectors read out other → reply ≡ other

-- the sectors after a command: as before, unless it could be read, its sectors are there and what it verifies is held
abbrev pub sectors_after : List Sector → Result Cdb CdbFault → List ℕ → List Sector
sectors_after sectors (Err fault) out = sectors
sectors_after sectors (Ok cdb) out =
    if not (is_out_of_range sectors cdb) && is_verified sectors cdb out then written sectors cdb out else sectors

-- how many blocks a command writes
abbrev pub blocks_written : List Sector → Result Cdb CdbFault → List ℕ → ℕ
blocks_written sectors (Err fault) out = 0
blocks_written sectors (Ok cdb) out =
    if not (is_out_of_range sectors cdb) && is_verified sectors cdb out then room_of cdb else 0

-- the bytes that a command reads: those of the sectors that a READ asks for
abbrev pub bytes_read : List Sector → Cdb → List ℕ
bytes_read sectors (Read lba count) = bytes_from sectors lba count
bytes_read sectors (Write lba count) = []
bytes_read sectors (Swap lba count) = []

-- the bytes that are sent: what a command that could be read, and whose sectors are there, reads
abbrev pub data_in : List Sector → Result Cdb CdbFault → List ℕ
data_in sectors (Err fault) = []
data_in sectors (Ok cdb) = if is_out_of_range sectors cdb then [] else bytes_read sectors cdb
