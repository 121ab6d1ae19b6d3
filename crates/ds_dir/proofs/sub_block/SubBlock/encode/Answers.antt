use Rattle.std.proofs.Common.{◌∙◌, arith}
use Rattle.ds_dir.proofs.FourRooms.{four_items, four_written}
use Rattle.ds_dir.proofs.sub_block.SubBlock.encode.Goals as goal

pub returns : goal.returns
returns c =
    let s = c.args.self.now in
    let rooms = four_items s.rooms c.index-self-0.result c.index-self-1.result c.index-self-2.result c.index-self-3.result c.requires.four in
    c.finish.ensures ∙ four_written s _ _ _ _ c.new-writer.result c.put_room.new.writer c.put_room-2.new.writer c.put_room-3.new.writer c.put_room-4.new.writer
    rooms c.new-writer.ensures.items c.put_room.ensures.items c.put_room-2.ensures.items c.put_room-3.ensures.items c.put_room-4.ensures.items (omega arith)
