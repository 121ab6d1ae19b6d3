-- The blocks of a file, as a planner reads them from its body and its pointer blocks.
use Rattle.std.specs.Prelude.{ℕ, nat_le, if◌then◌else◌, List, [], ◌∷◌, ◌++◌, take, Some, Result, Ok}
use Rattle.arrayvec.specs.ArrayVec.{ArrayVec}
use Rattle.ds_base.specs.declared.geometry.Geom.{Geom}
use Rattle.ds_fd.specs.declared.body.Body.{Body}
use Rattle.ds_image_parts.specs.Objects.{ptrs_of}
use Rattle.ds_image_parts.specs.Parts.{Parts}
use Rattle.ds_image.specs.SeenValues.{SeenValue}
use Rattle.ds_plan_base.specs.Pointers.{pointer_seen}
use Rattle.ds_plan_base.specs.Steps.{after}
use Rattle.ds_plan_base.specs.declared.stops.Stop.{Stop}

-- the addresses so far, and those in these pointer blocks of a body
abbrev pub pointed_from : Geom → SeenValue → Parts → Body → List ℕ → List ℕ → Result (List ℕ) Stop
pointed_from g seen p b found [] = Ok found
pointed_from g seen p b found (n ∷ ptrs) =
    after (pointer_seen g seen p b n) (λ block. pointed_from g seen p b (found ++ block.addresses) ptrs)

-- all addresses in a file's pointer blocks
abbrev pub pointed_in : Geom → SeenValue → Parts → Body → Result (ArrayVec ℕ) Stop
pointed_in g seen p b = after (pointed_from g seen p b [] (ptrs_of (Some b))) (λ found. Ok (record { items = found }))

-- the blocks of a file: up to 96 its own first addresses, and else the first in its pointer blocks
abbrev pub blocks_known : Geom → SeenValue → Parts → Body → Result (ArrayVec ℕ) Stop
blocks_known g seen p b =
    if nat_le b.count 96 then Ok (record { items = take b.count b.addresses })
    else after (pointed_in g seen p b) (λ found. Ok (record { items = take b.count found.items }))
