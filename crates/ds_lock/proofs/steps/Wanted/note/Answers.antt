use Rattle.ds_lock.proofs.Shown.{few-slots}
use Rattle.ds_lock.proofs.steps.Wanted.note.Goals as goal

pub note-requires : goal.note-requires
note-requires c = few-slots c.args.self.now.geom c.args.slot c.requires.wanted.is_geom c.requires.within

pub stale-requires : goal.stale-requires
stale-requires c = few-slots c.args.self.now.geom c.args.slot c.requires.wanted.is_geom c.requires.within
