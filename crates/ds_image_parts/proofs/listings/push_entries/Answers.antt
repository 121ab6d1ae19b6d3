use Rattle.std.proofs.Common.{arith}
use Rattle.std.proofs.lemmas.Grind.{common_steps}
use Rattle.std.proofs.lemmas.List.Elements.{filter_map-append}
use Rattle.ds_image_parts.proofs.listings.push_entries.Goals as goal

pub loop-room-preserved : goal.loop-room-preserved
loop-room-preserved c = grind (arith, common_steps, filter_map-append)
