use Rattle.std.proofs.Common.{◌≡◌, set, sym, ap, ◌∙◌, subst, ◌++◌, ◌∷◌, []}
use Rattle.std.specs.Prelude.{slice_index}
use Rattle.ds_base.specs.Outside.{risen}
use Rattle.ds_image_tables.specs.NameCounts.{CountsNames}
use Rattle.ds_image_tables.proofs.FileTrees.CountedNames.{count-read, counts-more}
use Rattle.ds_image_tables.proofs.name_counts.NameCounts.note.Goals as goal

noted : (c : goal.After-self-1) → set c.self.inside.counts.items c.args.object c.saturating_add.result
    ≡ set c.args.self.now c.args.object (risen (slice_index c.args.self.now c.args.object))
noted c =
    let read = count-read c.self.inside.counts.items c.args.object c.index-count.result.now c.args.self.now
    c.self.view_is c.requires c.index-count.ensures in
    ap (set c.self.inside.counts.items c.args.object) (c.saturating_add.ensures ∙ ap risen read)
    ∙ ap (λ t. set t c.args.object (risen (slice_index c.args.self.now c.args.object))) c.self.view_is

pub returns-clause-counts : goal.returns-clause-counts
returns-clause-counts c = λ named few counts.
    subst (λ t. CountsNames t (named ++ c.args.object ∷ [])) (sym (noted c))
    (counts-more c.args.self.now c.args.object c.requires named few counts)
