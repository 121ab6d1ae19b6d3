use Rattle.std.proofs.Common.{subst}
use Rattle.ds_watch.proofs.Runs.{stale_by}
use Rattle.ds_watch.specs.Notes.{IsStale, Note}
use Rattle.ds_watch.specs.Remembering.{Remembers}
use Rattle.std.specs.Prelude.{IsTrue, List, ◌↔◌}
use Rattle.ds_watch.proofs.watch.Watch.stale.Goals as goal

pub returns : goal.returns
returns c =
    subst (λ kept. (notes : List Note) → Remembers kept notes → IsTrue c.is_stale.result ↔ IsStale notes c.args.slot c.args.image.now c.args.now)
    c.self.view_is (stale_by c.self.inside.shown c.args.slot c.args.image.now c.args.now _ c.requires c.is_stale.ensures)
