-- The directory has one more entry.
use Rattle.std.proofs.Common.{◌≡◌, ◌+◌, Some, take, slice_get, sym, ap, ◌∙◌, subst}
use Rattle.std.specs.Cmp.Lexicographic.{slice_cmp}
use Rattle.std.specs.FinMap as maps
use Rattle.std.specs.Ordering.{nat_cmp}
use Rattle.std.proofs.lemmas.Option.{slice_get-get_or}
use Rattle.ds_tree.specs.Nodes.{Entries, Dir, with_object}
use Rattle.ds_image.specs.SoundObjects.{AreNamesApart}
use Rattle.ds_image.proofs.FileTrees.BuiltTrees.{entries-more, dir-more}
use Rattle.ds_image.proofs.FileTrees.EntryNames.{pairs}
use Rattle.ds_image.proofs.building.put_dir.Goals as goal

pub loop-entry-preserved : goal.loop-entry-preserved
loop-entry-preserved _ c =
    let es = c.deref-entry-items.result.now in
    let n = c.loop-entry.entry-index in
    let e = c.entry-item.result in
    let key = c.args.key in
    let apart : AreNamesApart es = subst AreNamesApart (sym (c.deref-entry-items.ensures.value ∙ c.in_ok-entries.ensures)) c.requires.apart in
    let at : slice_get es n ≡ Some e = slice_get-get_or es n e c.loop-entry-test.true ∙ ap Some (sym c.entry-item.is) in
    let m : Entries = maps.from_entries {R = slice_cmp nat_cmp} (pairs (take n es)) in
    let more = entries-more es n e apart at c.loop-entry-test.true c.entry-item.is in
    let put = dir-more c.args.builder.now.tree c.loop-entry.builder.tree c.put_entry.new.self.tree key.object key.birth c.args.rooms m c.copy.result e.key.object
    c.requires.within c.loop-entry.invariant.tree c.in_ok-put_entry.ensures.ok in
    let entries : maps.insert m c.copy.result e.key.object ≡ maps.from_entries (pairs (take (n + 1) es)) =
    ap (λ name. maps.insert m name e.key.object) c.copy.ensures.same ∙ sym more in
    record {
      geom = c.put_entry.ensures.geom ∙ c.loop-entry.invariant.geom;
      tree = put ∙ ap (λ (entries : Entries). with_object c.args.builder.now.tree key.object (record { birth = key.birth; node = Some (Dir entries c.args.rooms) })) entries;
    }
