use Rattle.std.proofs.Common.{sym, ◌∙◌}
use Rattle.ds_host.specs.Rooms.{file_entry}
use Rattle.ds_host.proofs.RoomLaws.{IsSubBlock-with_entry, IsEntry-file, fills}
use Rattle.ds_host.proofs.first_host.created.Goals as goal

pub encode-fresh-requires : goal.encode-fresh-requires
encode-fresh-requires c =
    let is = IsEntry-file c.copy_of.result c.next_key-key.result c.args.block.rooms c.copy_of.ensures.name c.next_key-key.ensures.key c.next_key-key.ensures.small in
    IsSubBlock-with_entry (file_entry c.copy_of.result c.next_key-key.result) c.args.block c.put_file.new.block is c.requires.sound c.put_file.ensures

pub returns : goal.returns
returns c =
    let is = IsEntry-file c.copy_of.result c.next_key-key.result c.args.block.rooms c.copy_of.ensures.name c.next_key-key.ensures.key c.next_key-key.ensures.small in
    let sub = IsSubBlock-with_entry (file_entry c.copy_of.result c.next_key-key.result) c.args.block c.put_file.new.block is c.requires.sound c.put_file.ensures in
    fills c.args.name c.copy_of.result c.args.image.now c.encode-fresh.result c.args.block c.put_file.new.block c.next_key-key.result c.entry_named.result c.entry_named.ensures (sym c.if-is_some.false ∙ c.is_some.ensures) c.next_key-key.ensures.key c.copy_of.ensures.same c.put_file.ensures sub c.encode-fresh.ensures
