-- One more room is added and counted.
use Rattle.std.proofs.Common.{◌≡◌, ◌++◌, length, length-append, append_assoc, sym, ap, ◌∙◌, arith, take, ◌+◌}
use Rattle.std.specs.Prelude.{option_to_list}
use Rattle.std.specs.List.{filter_map}
use Rattle.std.proofs.lemmas.List.{append-nil, take_all}
use Rattle.ds_plan_dirs.specs.Pages.{page_names}
use Rattle.ds_plan_dirs.proofs.PageSteps.{rooms_more}
use Rattle.ds_plan_dirs.proofs.listing.add_rooms.Goals as goal

pub loop-room-init : goal.loop-room-init
loop-room-init c = record {
  count = omega arith;
  most = omega arith;
  names = λ es are. are ∙ ap (page_names c.args.after.now) (sym (append-nil es));
}

pub loop-room-preserved : goal.loop-room-preserved
loop-room-preserved c =
    let i = c.loop-room.room-index in
    let rooms = c.args.rooms.now in
    let before = filter_map (λ room. room) (take i rooms) in
    let more : filter_map (λ room. room) (take (i + 1) rooms) ≡ before ++ option_to_list c.room-item.result =
    rooms_more rooms i c.room-item.result c.loop-room-test.true ∙ ap (λ room. before ++ option_to_list room) (sym c.room-item.is) in
    record {
      count = omega (arith, c.loop-room.invariant.count, c.add_room-count.ensures.count, ap length more ∙ length-append before (option_to_list c.room-item.result));
      most = omega (arith, c.add_room-count.ensures.most, c.loop-room.invariant.most);
      names = λ es are.
          c.add_room-count.ensures.names (es ++ before) (c.loop-room.invariant.names es are)
          ∙ ap (page_names c.args.after.now) (append_assoc es before (option_to_list c.room-item.result) ∙ ap (λ l. es ++ l) (sym more));
    }

pub returns-clause-names : goal.returns-clause-names
returns-clause-names c es are =
    c.loop-room.invariant.names es are
    ∙ ap (λ l. page_names c.args.after.now (es ++ filter_map (λ room. room) l)) (take_all c.loop-room.room-index c.args.rooms.now c.loop-room-test.false)
