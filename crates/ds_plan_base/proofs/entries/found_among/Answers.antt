-- The room that was found has the entry.
use Rattle.std.proofs.Common.{sym, ◌∙◌}
use Rattle.ds_plan_base.proofs.Founds.{among-room}
use Rattle.ds_plan_base.proofs.entries.found_among.Goals as goal

pub returns-clause-is_room : goal.returns-clause-is_room
returns-clause-is_room c =
    let among = among-room c.args.name.now c.args.block.rooms c.in_ok-named.named (sym c.named_among.ensures ∙ c.in_ok-named.was) in
    record { is_sub = c.requires; entry = among.entry; used = among.here; key = among.key }
