-- The planner of Resize keeps the law of planners.
use Rattle.std.proofs.Common.{◌≡◌, ℕ, ◌≤◌, nat_lt, sym, subst, arith}
use Rattle.std.specs.Prelude.{Result, Ok, Err}
use Rattle.std.proofs.lemmas.Bool.Decides.{nat_tests}
use Rattle.ds_base.specs.Geometry.{IsGeom}
use Rattle.ds_base.specs.declared.geometry.Geom.{Geom}
use Rattle.ds_base.specs.declared.names.Key.{Key}
use Rattle.ds_image_parts.specs.Parts.{Parts}
use Rattle.ds_image.specs.Planning.{AllAreAllowed, AllAreFew, AllKeep}
use Rattle.ds_image_parts.specs.Readings.{ReadsParts}
use Rattle.ds_image.specs.SeenValues.{SeenValue, look_of}
use Rattle.ds_image.specs.declared.asks.Ask.{Ask}
use Rattle.ds_plan_base.proofs.Goes.{Goes}
use Rattle.ds_image.specs.Locks.{IsAllowed}
use Rattle.ds_plan_base.proofs.PlanAsks.{PlanAsks, IsPlanChange}
use Rattle.ds_plan_base.proofs.Going.{goes-after, goes-if}
use Rattle.ds_plan_base.proofs.PlanLaws.{plan_keeps, plan_allowed, plan_few}
use Rattle.ds_plan_base.specs.declared.stops.Stop.{Stop}
use Rattle.ds_plan_resize.specs.Answers.{ResizeValue, call_of, resized_by, resize_known, changed, answers_of}
use Rattle.ds_plan_resize.specs.Files.{file_to_size}
use Rattle.ds_plan_resize.proofs.FileWalk.{HasFile, file_goes}
use Rattle.ds_plan_resize.specs.Growing.{growth_known}
use Rattle.ds_plan_resize.proofs.GrowWalk.{growth_goes}
use Rattle.ds_plan_resize.proofs.Holding.{MayHold, MayRead, holds-stay, reads-stay, lock_list, sector_list, in-lock_list, in-sector_list, few_locks, few_sectors}
use Rattle.ds_plan_resize.specs.Redos.{redo_of}
use Rattle.ds_plan_resize.specs.Shrinking.{shrink_known}
use Rattle.ds_plan_resize.proofs.ShrinkWalk.{shrink_goes}
use Rattle.ds_plan_resize.specs.declared.resized.Resized.{Resized}
use Rattle.ds_tree.specs.CallNames.{HasNames}
use Rattle.ds_tree.specs.declared.calls.CallOf.{CallOf}
use Rattle.ds_tree.specs.declared.calls.CallOf.TheVariants.{Resize}
use Rattle.ds_tree.specs.declared.calls.TreeReply.TheVariants.{Sized}

module _ (g : Geom) (is_geom : IsGeom g) (slot : ℕ) (key : Key) (size : ℕ) (seen : SeenValue) (p : Parts) (reads : ReadsParts g (look_of seen) p) where
  abbrev call : CallOf Key
  call = Resize key size

  abbrev Good : Ask → Type 0
  Good = PlanAsks g slot call (MayHold key.object) (MayRead g key.object) seen p

  abbrev Well : Resized → Type 0
  Well r = IsPlanChange g call seen (redo_of g r).pairs.items (Sized size)

  resize_goes : Goes Good (resize_known g slot seen p key size) Well
  resize_goes =
      goes-after Good (HasFile g seen p key size) Well (file_to_size g seen p key size) (resized_by g slot seen p size) (file_goes g slot key size seen p reads)
      (λ b has.
      goes-if Good Well (nat_lt b.count size) (growth_known g slot seen p b size) (shrink_known g seen p b size)
      (λ less. growth_goes g is_geom slot key size seen p reads b has (let grows : b.count ≤ size = grind (arith, nat_tests, less) in grows))
      (λ more. shrink_goes g is_geom slot key size seen p reads b has (let shrinks : size ≤ b.count = grind (arith, nat_tests, more) in shrinks)))

  changed-good : (r : Result Resized Stop) → Goes Good r Well → Good (changed g size r)
  changed-good (Ok r) well = well
  changed-good (Err stop) good = good

  -- all that is asked for is good
  resize_asks : Good (changed g size (resize_known g slot seen p key size))
  resize_asks = changed-good (resize_known g slot seen p key size) resize_goes

asks_of : (plan : ResizeValue) → IsGeom plan.geom → (seen : SeenValue) (p : Parts) → ReadsParts plan.geom (look_of seen) p
    → PlanAsks plan.geom plan.slot (call_of plan) (MayHold plan.file.object) (MayRead plan.geom plan.file.object) seen p (answers_of plan seen p)
asks_of plan is seen p reads = resize_asks plan.geom is plan.slot plan.file plan.size seen p reads

-- each answer has its form and is right
pub resize_keeps : (plan : ResizeValue) → IsGeom plan.geom → HasNames (call_of plan) → AllKeep plan.geom (call_of plan) (answers_of plan)
resize_keeps plan is names seen p reads =
    plan_keeps plan.geom plan.slot (call_of plan) (MayHold plan.file.object) (MayRead plan.geom plan.file.object) seen p (answers_of plan seen p) (asks_of plan is seen p reads)

-- only allowed locks are asked for
pub resize_allowed : (plan : ResizeValue) → IsGeom plan.geom → HasNames (call_of plan) → AllAreAllowed plan.geom plan.slot (call_of plan) (answers_of plan)
resize_allowed plan is names seen p reads =
    plan_allowed plan.geom plan.slot (call_of plan) (MayHold plan.file.object) (MayRead plan.geom plan.file.object) seen p (answers_of plan seen p)
    (asks_of plan is seen p reads)

-- few locks are held, and few sectors read
pub resize_few : (plan : ResizeValue) → IsGeom plan.geom → HasNames (call_of plan) → AllAreFew plan.geom (answers_of plan)
resize_few plan is names =
    let g = plan.geom in
    let file = plan.file.object in
    plan_few g plan.slot (call_of plan) (MayHold file) (MayRead g file) (answers_of plan) (asks_of plan is)
    (λ seen next p q grows reads reads' object may. holds-stay file seen next p q object may)
    (λ seen next p q grows reads reads' at may. reads-stay g file seen next p q grows reads reads' at may)
    (lock_list file) (sector_list g file)
    (λ seen p reads k may. in-lock_list file seen p k may)
    (λ seen p reads k may. in-sector_list g file seen p k may)
    (λ seen p reads. few_locks file seen p)
    (λ seen p reads. few_sectors g file seen p reads)
