use Rattle.std.proofs.Common.{Some, ap}
use Rattle.ds_dir.proofs.FourRooms.{four_rooms, four_same}
use Rattle.ds_dir.proofs.Rooms.{none_or_some, some_same}
use Rattle.ds_dir.proofs.sub_block.SubBlock.named.Goals as goal

pub returns-in_err-first : goal.returns-in_err-first
returns-in_err-first c = λ b h e.
    let rooms = four_rooms c.args.sector.now.bytes b h e in
    absurd (none_or_some c.room_named.result rooms.first c.in_err-first.was (c.room_named.ensures rooms.first rooms.is_first rooms.first_bytes))

pub returns-in_err-second : goal.returns-in_err-second
returns-in_err-second c = λ b h e.
    let rooms = four_rooms c.args.sector.now.bytes b h e in
    absurd (none_or_some c.room_named-2.result rooms.second c.in_err-second.was (c.room_named-2.ensures rooms.second rooms.is_second rooms.second_bytes))

pub returns-in_err-third : goal.returns-in_err-third
returns-in_err-third c = λ b h e.
    let rooms = four_rooms c.args.sector.now.bytes b h e in
    absurd (none_or_some c.room_named-3.result rooms.third c.in_err-third.was (c.room_named-3.ensures rooms.third rooms.is_third rooms.third_bytes))

pub returns-in_err-fourth : goal.returns-in_err-fourth
returns-in_err-fourth c = λ b h e.
    let rooms = four_rooms c.args.sector.now.bytes b h e in
    absurd (none_or_some c.room_named-4.result rooms.fourth c.in_err-fourth.was (c.room_named-4.ensures rooms.fourth rooms.is_fourth rooms.fourth_bytes))

pub returns : goal.returns
returns c = λ b h e.
    let rooms = four_rooms c.args.sector.now.bytes b h e in
    let first = some_same c.room_named.result c.in_ok-first.first rooms.first c.in_ok-first.was (c.room_named.ensures rooms.first rooms.is_first rooms.first_bytes) in
    let second = some_same c.room_named-2.result c.in_ok-second.second rooms.second c.in_ok-second.was (c.room_named-2.ensures rooms.second rooms.is_second rooms.second_bytes) in
    let third = some_same c.room_named-3.result c.in_ok-third.third rooms.third c.in_ok-third.was (c.room_named-3.ensures rooms.third rooms.is_third rooms.third_bytes) in
    let fourth = some_same c.room_named-4.result c.in_ok-fourth.fourth rooms.fourth c.in_ok-fourth.was (c.room_named-4.ensures rooms.fourth rooms.is_fourth rooms.fourth_bytes) in
    ap Some (four_same b rooms.first rooms.second rooms.third rooms.fourth c.in_ok-first.first c.in_ok-second.second c.in_ok-third.third c.in_ok-fourth.fourth rooms.are_all first second third fourth)
