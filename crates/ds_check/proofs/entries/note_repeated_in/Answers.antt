-- What is found of one more room is noted, and its name is in the set.
use Rattle.std.proofs.Common.{◌≡◌, ◌++◌, ◌||◌, None, take, slice_index_or, ap, sym, ◌∙◌}
use Rattle.std.proofs.lemmas.List.{get_or_default}
use Rattle.std.proofs.lemmas.List.Folds.{list_any_more}
use Rattle.std.specs.BTreeSet.{contains}
use Rattle.std.specs.Cmp.Lexicographic.{slice_cmp}
use Rattle.std.specs.List.{list_any}
use Rattle.std.specs.Ordering.{nat_cmp}
use Rattle.ds_check.specs.declared.findings.Find.TheVariants.{Again}
use Rattle.ds_check.specs.Entries.{repeated_room, is_known, has_name, is_named_in}
use Rattle.ds_check.specs.Rows.{find_if}
use Rattle.ds_check.proofs.MetNames.{known-named}
use Rattle.ds_check.proofs.Rows.{row_step}
use Rattle.ds_check.proofs.entries.note_repeated_in.Goals as goal

pub loop-room-preserved : goal.loop-room-preserved
loop-room-preserved c =
    let rooms = c.args.rooms.now in
    let r = c.loop-room.room in
    let known = contains (slice_cmp nat_cmp) c.loop-room.names in
    let room : c.index-rooms-room.result ≡ slice_index_or rooms r None = c.index-rooms-room.is ∙ get_or_default rooms r _ None c.loop-room-test.true in
    let tested : c.in_ok-is_again.is_again ≡ is_named_in (take r rooms) (slice_index_or rooms r None) =
    c.in_ok-is_again.ensures.known ∙ ap (is_known known) room ∙ known-named known (take r rooms) (slice_index_or rooms r None) c.loop-room.invariant.known in
    record {
      told = row_step c.args.report.now c.loop-room.report c.note_if.new.self (repeated_room c.args.object rooms) r c.loop-room.invariant.told
          (c.in_ok-note_if.ensures ∙ ap (λ b. c.loop-room.report ++ find_if b (Again c.args.object r)) tested);
      known = λ name.
          c.in_ok-is_again.ensures.met name ∙ ap (λ b. b || has_name name c.index-rooms-room.result) (c.loop-room.invariant.known name)
          ∙ sym (list_any_more (has_name name) rooms r c.index-rooms-room.result c.loop-room-test.true
          ∙ ap (λ x. list_any (has_name name) (take r rooms) || has_name name x) (sym c.index-rooms-room.is));
    }
