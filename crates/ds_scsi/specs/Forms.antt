-- The command descriptor block of a command of one logical block.
use Rattle.std.specs.Prelude.{ℕ, List, [], ◌∷◌, ◌++◌}
use Rattle.std.specs.Int.{w64, to_be_bytes}
use Rattle.ds_base.specs.declared.commands.Command.{Command}
use Rattle.ds_base.specs.declared.commands.Command.TheVariants.{Read, Write, Swap}
use Rattle.ds_scsi.specs.declared.command_blocks.Cdb.{Cdb}
use Rattle.ds_scsi.specs.declared.command_blocks.Cdb.TheVariants.{Read as ReadBlocks, Write as WriteBlocks, Swap as SwapBlocks}

-- what a command asks for: one logical block
abbrev pub form_of : Command → Cdb
form_of (Read at) = ReadBlocks at 1
form_of (Write at fresh) = WriteBlocks at 1
form_of (Swap at verify fresh) = SwapBlocks at 1

-- the block with this operation code and LBA, of one logical block, and zero elsewhere
unfoldable pub cdb_bytes : ℕ → ℕ → List ℕ
cdb_bytes code lba = code ∷ 0 ∷ [] ++ to_be_bytes w64 lba ++ 0 ∷ 0 ∷ 0 ∷ 1 ∷ 0 ∷ 0 ∷ []

-- the block of a command
abbrev pub command_bytes : Command → List ℕ
command_bytes (Read at) = cdb_bytes 0x88 at
command_bytes (Write at fresh) = cdb_bytes 0x8a at
command_bytes (Swap at verify fresh) = cdb_bytes 0x89 at
