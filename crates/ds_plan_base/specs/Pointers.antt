-- Pointer blocks of files as a planner sees them.
use Rattle.std.specs.Prelude.{ℕ, nat_lt, if◌then◌else◌, Result, Err}
use Rattle.ds_base.specs.Geometry.{items_of}
use Rattle.ds_base.specs.declared.geometry.Geom.{Geom}
use Rattle.ds_base.specs.declared.geometry.Kind.TheVariants.{Pb}
use Rattle.ds_fd.specs.declared.body.Body.{Body}
use Rattle.ds_image_parts.specs.Parts.{Parts, part_at}
use Rattle.ds_image.specs.SeenValues.{SeenValue, look_of}
use Rattle.ds_layout.specs.Places.{place_sector}
use Rattle.ds_layout.specs.declared.places.Place.TheVariants as places
use Rattle.ds_plan_base.specs.Bodies.{part_seen}
use Rattle.ds_plan_base.specs.declared.stops.Stop.{Stop}
use Rattle.ds_plan_base.specs.declared.stops.Stop.TheVariants.{Odd}
use Rattle.ds_ptr.specs.declared.ptr_block.PtrBlock.{PtrBlock}

-- a pointer block that a body lists, once it was read; the body is odd where there is no such pointer block
abbrev pub pointer_seen : Geom → SeenValue → Parts → Body → ℕ → Result PtrBlock Stop
pointer_seen g seen p b n =
    if nat_lt n (items_of g Pb)
    then part_seen (place_sector g (places.PtrBlock n)) (look_of seen (place_sector g (places.PtrBlock n))) (part_at p.ptrs n)
    else Err (Odd (place_sector g (places.Body b.object)))
