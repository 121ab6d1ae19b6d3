-- A command has one reply.
use Rattle.std.proofs.Common.{◌≡◌, ℕ, Bool, true, false, List, ap, sym, ◌∙◌}
use Rattle.std.specs.Prelude.{Result, Ok, Err, MatchBool}
use Rattle.ds_base.specs.declared.sectors.Sector.{Sector}
use Rattle.ds_base.proofs.DeviceLaws.{one_first_difference}
use Rattle.ds_scsi.specs.declared.command_blocks.Cdb.{Cdb}
use Rattle.ds_scsi.specs.declared.command_blocks.CdbFault.{CdbFault}
use Rattle.ds_scsi.specs.declared.sense_data.Sense.TheVariants.{Miscompare, OutOfRange}
use Rattle.ds_scsi.specs.CommandBlocks.{in_len_of}
use Rattle.ds_target.specs.declared.execution.ScsiReply.{ScsiReply}
use Rattle.ds_target.specs.Execution.{is_out_of_range, is_verified, TellsMismatch, Replies, IsTheReply, good, check_condition}

one_of : (past held : Bool) (sectors : List Sector) (cdb : Cdb) (out : List ℕ) (reply other : ScsiReply)
    → MatchBool past (reply ≡ check_condition OutOfRange) (MatchBool held (reply ≡ good (in_len_of cdb)) (TellsMismatch sectors cdb out reply))
    → MatchBool past (other ≡ check_condition OutOfRange) (MatchBool held (other ≡ good (in_len_of cdb)) (TellsMismatch sectors cdb out other))
    → reply ≡ other
one_of true held sectors cdb out reply other is also = is ∙ sym also
one_of false true sectors cdb out reply other is also = is ∙ sym also
one_of false false sectors cdb out reply other (i, small, first, is) (j, smaller, second, also) =
    is ∙ ap (λ (offset : ℕ). check_condition (Miscompare offset)) (one_first_difference _ _ i j first second) ∙ sym also

-- whatever replies to a command is the same
pub one_reply : (sectors : List Sector) (read : Result Cdb CdbFault) (out : List ℕ) (reply : ScsiReply) → Replies sectors read out reply → IsTheReply sectors read out reply
one_reply sectors (Err fault) out reply is other also = is ∙ sym also
one_reply sectors (Ok cdb) out reply is other also = one_of (is_out_of_range sectors cdb) (is_verified sectors cdb out) sectors cdb out reply other is also
