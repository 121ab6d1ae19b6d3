-- The bits say which items are marked, and the list which are used.
use Rattle.std.proofs.Common.{◌≡◌, Bool, List, ◌++◌, map, ap, ◌∙◌}
use Rattle.std.specs.Prelude.{◌&&◌, not}
use Rattle.std.specs.List.{range_with_len}
use Rattle.ds_base.specs.Geometry.{items_of}
use Rattle.ds_image_tables.specs.Owns.{bit}
use Rattle.ds_image_parts.specs.Parts.{bits_in, maps_of}
use Rattle.ds_check.specs.Marking.{is_in_use}
use Rattle.ds_check.specs.declared.findings.Find.{Find}
use Rattle.ds_check.specs.declared.findings.Find.TheVariants as finds
use Rattle.ds_check.specs.Rows.{find_if, row}
use Rattle.ds_check.proofs.ItemMarks.{mismarked-noted, on_ok_then}
use Rattle.ds_check.proofs.marking.note_mismarked.Goals as goal

pub returns : goal.returns
returns c =
    let g = c.args.geom.now in
    let p = c.args.parts.now in
    let kind = c.args.kind in
    let marked : c.deref.result.now ≡ bits_in (maps_of p kind) = c.deref.ensures.value ∙ c.in_ok-marked.ensures ∙ ap bits_in c.maps.ensures in
    let used : c.deref-2.result.now ≡ map (is_in_use g p kind) (range_with_len 0 (items_of g kind)) = c.deref-2.ensures.value ∙ c.in_ok-used.ensures in
    let same_marked : c.deref-3.result.now ≡ c.deref.result.now = cc in
    let same_used : c.deref-4.result.now ≡ c.deref-2.result.now = cc in
    let before = c.note_marked.new.report in
    let after = c.note_unmarked.new.report in
    let unmarked : List Bool → List Bool → List Find = λ ms us. row (items_of g kind) (λ n. find_if (bit us n && not (bit ms n)) (finds.Unmarked kind n)) in
    on_ok_then c.note_unmarked.result
    (λ (noted : after ≡ before ++ unmarked c.deref-3.result.now c.deref-4.result.now).
    mismarked-noted g p kind c.deref.result.now c.deref-2.result.now c.args.report.now before after marked used c.in_ok-note_marked.ensures
    (noted ∙ ap (λ ms. before ++ unmarked ms c.deref-4.result.now) same_marked ∙ ap (λ us. before ++ unmarked c.deref.result.now us) same_used))
    c.note_unmarked.ensures
