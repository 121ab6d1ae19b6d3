-- What the planner of Resize asks for and answers, by what was seen and by the parts that it spells.
use Rattle.std.specs.Prelude.{ℕ, nat_lt, if◌then◌else◌, Result, Ok, Err}
use Rattle.ds_base.specs.declared.geometry.Geom.{Geom}
use Rattle.ds_base.specs.declared.names.Key.{Key}
use Rattle.ds_fd.specs.declared.body.Body.{Body}
use Rattle.ds_image_parts.specs.Parts.{Parts}
use Rattle.ds_image.specs.Planning.{Answers}
use Rattle.ds_image.specs.SeenValues.{SeenValue}
use Rattle.ds_image.specs.declared.asks.Ask.{Ask}
use Rattle.ds_image.specs.declared.asks.Ask.TheVariants.{Change}
use Rattle.ds_plan_base.specs.Steps.{after}
use Rattle.ds_plan_base.specs.Stops.{ask_of}
use Rattle.ds_plan_base.specs.declared.stops.Stop.{Stop}
use Rattle.ds_plan_resize.specs.Files.{file_to_size}
use Rattle.ds_plan_resize.specs.Growing.{growth_known}
use Rattle.ds_plan_resize.specs.Redos.{redo_of}
use Rattle.ds_plan_resize.specs.Shrinking.{shrink_known}
use Rattle.ds_plan_resize.specs.declared.resized.Resized.{Resized}
use Rattle.ds_tree.specs.declared.calls.CallOf.{CallOf}
use Rattle.ds_tree.specs.declared.calls.CallOf.TheVariants.{Resize}
use Rattle.ds_tree.specs.declared.calls.TreeReply.TheVariants.{Sized}

-- a planner: the shape of its volume, its host's slot, the file's key, and the size that the file is to get
pub record ResizeValue : Type 0 where
  pub geom : Geom
  pub slot : ℕ
  pub file : Key
  pub size : ℕ

abbrev pub call_of : ResizeValue → CallOf Key
call_of plan = Resize plan.file plan.size

-- a Resize is what the planner is for
abbrev pub IsResize : CallOf Key → Type 0
IsResize (Resize file size) = Unit {0}
IsResize _ = ⊥

-- a file that may get the size grows or shrinks
abbrev pub resized_by : Geom → ℕ → SeenValue → Parts → ℕ → Body → Result Resized Stop
resized_by g slot seen p size b = if nat_lt b.count size then growth_known g slot seen p b size else shrink_known g seen p b size

abbrev pub resize_known : Geom → ℕ → SeenValue → Parts → Key → ℕ → Result Resized Stop
resize_known g slot seen p file size = after (file_to_size g seen p file size) (resized_by g slot seen p size)

abbrev pub changed : Geom → ℕ → Result Resized Stop → Ask
changed g size (Ok resized) = Change (redo_of g resized) (Sized size)
changed g size (Err stop) = ask_of stop

-- what the planner asks for
abbrev pub answers_of : ResizeValue → Answers
answers_of plan seen p = changed plan.geom plan.size (resize_known plan.geom plan.slot seen p plan.file plan.size)
