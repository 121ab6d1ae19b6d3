-- What is behind the first 128.
use Rattle.ds_plan_resize.proofs.PageLists.{later-pages}
use Rattle.ds_plan_resize.proofs.pages.later_pages_of.Goals as goal

pub returns : goal.returns
returns c = later-pages c.min.result c.args.blocks.now c.min.ensures
