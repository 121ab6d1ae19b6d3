use Rattle.ds_image_parts.proofs.Journaling.Laying.{first_block}
use Rattle.ds_image.proofs.formatting.first_block.Goals as goal

pub sector_of-requires-clause-inside : goal.sector_of-requires-clause-inside
sector_of-requires-clause-inside c = first_block c.args.geom.now c.requires
