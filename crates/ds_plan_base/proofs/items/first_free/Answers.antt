-- The first free item is the first whose bit is clear.
use Rattle.ds_plan_base.proofs.Bitmaps.{first_clear-is}
use Rattle.ds_plan_base.proofs.items.first_free.Goals as goal

pub returns : goal.returns
returns c = first_clear-is c.args.map.now.used c.first_free.result c.first_free.ensures
