use Rattle.std.proofs.Common.{◌∙◌}
use Rattle.ds_dir.proofs.Rooms.{all_written, entry_written}
use Rattle.ds_dir.proofs.room.put_entry.Goals as goal

pub returns-clause-items : goal.returns-clause-items
returns-clause-items c =
    let all = all_written c.args.writer.now c.u8.new.self c.u8-2.new.self c.zeros.new.self c.u32.new.self c.u64.new.self c.bytes.new.self c.zeros-2.new.self
    _ _ _ _ _ _ _ c.u8.ensures.items c.u8-2.ensures.items c.zeros.ensures.items c.u32.ensures.items c.u64.ensures.items c.bytes.ensures.items c.zeros-2.ensures.items in
    (rw (c.code_of_kind.ensures, c.bytes-name.ensures.value) at all) ∙ entry_written c.args.writer.now c.args.entry.now
