-- What of a file with its new size can be written.
use Rattle.std.specs.Prelude.{◌≤◌, ◌<◌, length}
use Rattle.ds_base.specs.Geometry.{items_of}
use Rattle.ds_base.specs.declared.geometry.Geom.{Geom}
use Rattle.ds_base.specs.declared.geometry.Kind.TheVariants.{Fd, Pb}
use Rattle.ds_fd.specs.Body.{IsBody}
use Rattle.ds_plan_resize.specs.Blocks.{AreItems, pointers_from}
use Rattle.ds_plan_resize.specs.declared.resized.Resized.{Resized}

-- its body can be spelled, and few pointer blocks of the volume are written
pub record IsWritable (g : Geom) (r : Resized) : Type 0 where
  pub inside : r.body.object < items_of g Fd
  pub is_body : IsBody r.body
  pub pointers : AreItems g Pb (pointers_from r.body r.first)
  pub few : length (pointers_from r.body r.first) ≤ 9
  pub few_maps : length r.maps.pairs.items ≤ 16
