-- The file of a key, and whether it may get a size.
use Rattle.std.specs.Prelude.{◌≡◌, ℕ, ◌+◌, ◌-◌, ◌≤◌, ◌<◌, ◌==◌, nat_lt, if◌then◌else◌, Option, Some, Result, Ok, Err}
use Rattle.ds_base.specs.Geometry.{items_of}
use Rattle.ds_base.specs.declared.geometry.Geom.{Geom}
use Rattle.ds_base.specs.declared.geometry.Kind.TheVariants.{Fd}
use Rattle.ds_base.specs.declared.names.Key.{Key}
use Rattle.ds_base.specs.declared.names.NodeKind.{NodeKind}
use Rattle.ds_base.specs.declared.names.NodeKind.TheVariants as kinds
use Rattle.ds_fd.specs.Body.{IsBody}
use Rattle.ds_fd.specs.declared.body.Body.{Body}
use Rattle.ds_image_parts.specs.Parts.{Parts}
use Rattle.ds_image.specs.SeenValues.{SeenValue}
use Rattle.ds_plan_base.specs.Bodies.{body_of_key}
use Rattle.ds_plan_base.specs.Steps.{after}
use Rattle.ds_plan_base.specs.declared.stops.Ending.TheVariants as endings
use Rattle.ds_plan_base.specs.declared.stops.Stop.{Stop}
use Rattle.ds_plan_base.specs.declared.stops.Stop.TheVariants.{Done}

-- the body, where it is of a file
abbrev pub file_by : Body → Option NodeKind → Result Body Stop
file_by b (Some kinds.File) = Ok b
file_by b _ = Err (Done endings.NotFile)

abbrev pub body_of_file : Body → Result Body Stop
body_of_file b = file_by b b.kind

-- by how many blocks two sizes differ
abbrev pub difference : ℕ → ℕ → ℕ
difference size count = (size - count) + (count - size)

-- the body, where its file may get the size and has another
abbrev pub body_to_size : ℕ → Body → Result Body Stop
body_to_size size b =
    if nat_lt 12288 size then Err (Done endings.TooBig)
    else if nat_lt 1024 (difference size b.count) then Err (Done endings.TooMuch)
    else if size == b.count then Err (Done (endings.Sized size)) else Ok b

-- the body of a key's file, where it may get the size
abbrev pub file_to_size : Geom → SeenValue → Parts → Key → ℕ → Result Body Stop
file_to_size g seen p key size = after (body_of_key g seen p key) (λ b. after (body_of_file b) (body_to_size size))

-- a file that may get the size
pub record CanResize (g : Geom) (size : ℕ) (b : Body) : Type 0 where
  pub inside : b.object < items_of g Fd
  pub is_body : IsBody b
  pub is_file : b.kind ≡ Some kinds.File
  pub most : size ≤ 12288
  pub near : difference size b.count ≤ 1024
