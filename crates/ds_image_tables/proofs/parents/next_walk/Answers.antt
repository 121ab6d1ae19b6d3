use Rattle.std.proofs.Common.{length, sym}
use Rattle.ds_image_tables.specs.ParentWalks.{walk_to}
use Rattle.ds_image_tables.proofs.Parenthood.WalkingParents.{settled-passes, some-tested}
use Rattle.ds_image_tables.proofs.parents.next_walk.Goals as goal

pub returns-then-is_some : goal.returns-then-is_some
returns-then-is_some c =
    let seen_by = some-tested (walk_to c.args.seen.now (length c.args.leads.now)) c.is_some.result (sym c.is_some.ensures) c.if-is_some.true in
    settled-passes c.args.parents.now c.args.seen.now c.args.leads.now seen_by.0 c.requires.settled seen_by.1
