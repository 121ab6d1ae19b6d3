use Rattle.std.proofs.Common.{sym, ap, ◌∙◌, ◌++◌}
use Rattle.ds_dir.specs.SubBlock.{room_bytes}
use Rattle.ds_dir.proofs.Rooms.{free_written}
use Rattle.ds_dir.proofs.room.put_room.Goals as goal

pub returns-in-None-clause-items : goal.returns-in-None-clause-items
returns-in-None-clause-items c =
    c.zeros.ensures.items ∙ free_written c.args.writer.now ∙ ap (λ r. c.args.writer.now ++ room_bytes r) (sym c.in-None.is)
