-- The block of each command of one logical block reads as what it asks for.
use Rattle.std.proofs.Common.{◌≡◌, ℕ, ◌<◌, ◌^◌, Result, Ok, ap}
use Rattle.std.proofs.lemmas.Nat.{from_be_bytes-to_be_bytes_8}
use Rattle.ds_scsi.specs.declared.command_blocks.Cdb.{Cdb}
use Rattle.ds_scsi.specs.declared.command_blocks.Cdb.TheVariants.{Read, Write, Swap}
use Rattle.ds_scsi.specs.declared.command_blocks.CdbFault.{CdbFault}
use Rattle.ds_scsi.specs.CommandBlocks.{cdb_at}
use Rattle.ds_scsi.specs.Forms.{cdb_bytes}

pub reads_again : (lba : ℕ) → lba < 2 ^ 64
    → (cdb_at (cdb_bytes 0x88 lba) ≡ Ok (Read lba 1))
    × (cdb_at (cdb_bytes 0x8a lba) ≡ Ok (Write lba 1))
    × (cdb_at (cdb_bytes 0x89 lba) ≡ Ok (Swap lba 1))
unfolding cdb_at cdb_bytes
reads_again lba fits =
    let same = from_be_bytes-to_be_bytes_8 lba fits in
    let read : ℕ → Result Cdb CdbFault = λ n. Ok (Read n 1) in
    let write : ℕ → Result Cdb CdbFault = λ n. Ok (Write n 1) in
    let swap : ℕ → Result Cdb CdbFault = λ n. Ok (Swap n 1) in
    (ap read same, ap write same, ap swap same)
