-- The name in one more room is counted.
use Rattle.std.proofs.Common.{◌≡◌, ◌<◌, ◌+◌, ◌-◌, ◌^◌, ◌++◌, [], ◌∷◌, None, take, get_or, length, subst, ap, ◌∙◌, arith}
use Rattle.std.proofs.lemmas.List.{get_or_default, length-append, length-take-le}
use Rattle.std.specs.List.{filter_map}
use Rattle.ds_image_tables.specs.NameCounts.{CountsNames}
use Rattle.ds_check.specs.Names.{named_in}
use Rattle.ds_check.proofs.NamedRooms.{kept-few, kept-more}
use Rattle.ds_check.proofs.names.count_rooms.Goals as goal

pub loop-room-preserved : goal.loop-room-preserved
loop-room-preserved c =
    let rooms = c.args.rooms.now in
    let i = c.loop-room.room-index in
    let within = c.loop-room-test.true in
    let names = named_in c.args.parts.now in
    let room : c.room-item.result ≡ get_or rooms i None = c.room-item.is ∙ get_or_default rooms i _ None within in
    record {
      count = c.count_room.ensures.count ∙ c.loop-room.invariant.count;
      counted = λ named few before.
          let met = filter_map names (take i rooms) in
          let more : (named ++ met) ++ filter_map names (c.room-item.result ∷ []) ≡ named ++ filter_map names (take (i + 1) rooms) =
          ap (λ r. (named ++ met) ++ filter_map names (r ∷ [])) room ∙ kept-more names named rooms i None within in
          let bound : length (named ++ met) < 2 ^ 64 - 1 = omega (arith, few, within, length-append named met, kept-few names (take i rooms), length-take-le i rooms (omega (arith, within))) in
          subst (CountsNames c.count_room.new.counts) more (c.count_room.ensures.counted (named ++ met) bound (c.loop-room.invariant.counted named few before));
    }
