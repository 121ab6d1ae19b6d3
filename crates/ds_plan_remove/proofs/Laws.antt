-- The planner of Remove and Rmdir keeps the law of planners.
use Rattle.std.proofs.Common.{◌≡◌, ℕ, List, Some, sym, subst}
use Rattle.std.specs.Prelude.{Result, Ok, Err}
use Rattle.ds_base.specs.Geometry.{IsGeom}
use Rattle.ds_base.specs.Names.{IsName}
use Rattle.ds_base.specs.declared.geometry.Geom.{Geom}
use Rattle.ds_base.specs.declared.names.Key.{Key}
use Rattle.ds_base.specs.declared.names.NodeKind.{NodeKind}
use Rattle.ds_fd.specs.declared.body.Body.{Body}
use Rattle.ds_plan_laws_gone.specs.Leaving.{go_call}
use Rattle.ds_image_parts.specs.Objects.{subs_of}
use Rattle.ds_image_parts.specs.Parts.{Parts}
use Rattle.ds_image.specs.Planning.{AllAreAllowed, AllAreFew, AllKeep}
use Rattle.ds_image_parts.specs.Readings.{ReadsParts}
use Rattle.ds_image.specs.SeenValues.{SeenValue, look_of}
use Rattle.ds_image.specs.declared.asks.Ask.{Ask}
use Rattle.ds_plan_base.specs.Bodies.{dir_of_key}
use Rattle.ds_plan_base.proofs.DirSeen.{HasDir, IsFoundIn}
use Rattle.ds_plan_base.proofs.Goes.{Goes}
use Rattle.ds_image.specs.Locks.{IsAllowed}
use Rattle.ds_plan_base.proofs.PlanAsks.{PlanAsks, IsPlanChange}
use Rattle.ds_plan_base.specs.Steps.{after}
use Rattle.ds_plan_base.specs.declared.entries.Found.{Found}
use Rattle.ds_plan_base.proofs.Going.{goes-after}
use Rattle.ds_plan_base.proofs.ItemWalk.{goes-known}
use Rattle.ds_plan_base.proofs.PlanLaws.{plan_keeps, plan_allowed, plan_few}
use Rattle.ds_plan_base.specs.declared.stops.Stop.{Stop}
use Rattle.ds_plan_remove.specs.Answers.{RemoveValue, call_of, object_given, with_ended, change_known, changed, answers_of}
use Rattle.ds_plan_remove.proofs.ChangeWalk.{gone-good}
use Rattle.ds_plan_remove.specs.Entries.{entry_known, body_named}
use Rattle.ds_plan_remove.proofs.EntryWalk.{HasObject, key_goes, entry_goes, object_goes}
use Rattle.ds_plan_remove.proofs.EntryWalk as walk
use Rattle.ds_plan_remove.proofs.ObjectWalk.{given_goes, Known}
use Rattle.ds_plan_remove.proofs.Staying.{MayHold, MayRead, lock_list, sector_list, holds-stay, reads-stay, few-locks, few-sectors}
use Rattle.ds_plan_remove.specs.declared.removing.Removing.{Removing}
use Rattle.ds_tree.specs.CallNames.{HasNames}
use Rattle.ds_tree.specs.declared.calls.CallOf.{CallOf}
use Rattle.ds_tree.specs.declared.calls.TreeReply.TheVariants as replies

module _ (g : Geom) (is_geom : IsGeom g) (slot : ℕ) (key : Key) (name : List ℕ) (kind : NodeKind) (seen : SeenValue) (p : Parts) (reads : ReadsParts g (look_of seen) p) where
  abbrev call : CallOf Key
  call = go_call kind key name

  abbrev Good : Ask → Type 0
  Good = PlanAsks g slot call (MayHold g key name kind) (MayRead g key name kind) seen p

  abbrev Done_well : Removing → Type 0
  Done_well removing = IsPlanChange g call seen removing.redo.pairs.items (replies.Gone removing.key)

  module _ (dir : Body) (has : HasDir g seen p key dir) (is_dir : dir_of_key g seen p key ≡ Ok dir) (f : Found) (found : IsFoundIn g seen (subs_of (Some dir)) name (Some f))
      (is_f : entry_known g seen p dir name kind ≡ Ok f) where
    found_goes : Goes Good (after (body_named g seen p kind f.key f.sub) (λ b. after (object_given g seen p kind b) (λ redo. Ok (record { redo = with_ended g redo b f; key = f.key })))) Done_well
    found_goes =
        goes-after Good (HasObject g seen p kind f.key) Done_well (body_named g seen p kind f.key f.sub) _
        (object_goes g is_geom slot key name kind seen p reads dir has is_dir f is_f found)
        (λ b obj.
        goes-after Good (Known g is_geom slot key name kind seen p reads dir has is_dir f is_f found b obj) Done_well (object_given g seen p kind b) _
        (given_goes g is_geom slot key name kind seen p reads dir has is_dir f is_f found b obj)
        (λ redo known.
        gone-good g is_geom key name kind seen p reads dir has f (walk.at g is_geom slot key name kind seen p reads dir has is_dir f is_f found)
        (walk.is_kind g is_geom slot key name kind seen p reads dir has is_dir f is_f found) b obj redo known.0 known.1))

  known_goes : Goes Good (change_known g seen p key name kind) Done_well
  known_goes =
      goes-after Good (λ dir. HasDir g seen p key dir × (dir_of_key g seen p key ≡ Ok dir)) Done_well (dir_of_key g seen p key) _
      (goes-known Good (HasDir g seen p key) (dir_of_key g seen p key) (key_goes g is_geom slot key name kind seen p reads))
      (λ dir is.
      goes-after Good (λ f. IsFoundIn g seen (subs_of (Some dir)) name (Some f) × (entry_known g seen p dir name kind ≡ Ok f)) Done_well (entry_known g seen p dir name kind) _
      (goes-known Good (λ f. IsFoundIn g seen (subs_of (Some dir)) name (Some f)) (entry_known g seen p dir name kind)
      (entry_goes g is_geom slot key name kind seen p reads dir is.0))
      (λ f found. found_goes dir is.0 is.1 f found.0 found.1))

  settled-good : (r : Result Removing Stop) → Goes Good r Done_well → Good (changed r)
  settled-good (Ok removing) is = is
  settled-good (Err stop) good = good

  -- all that is asked for is good
  pub remove_asks : Good (changed (change_known g seen p key name kind))
  remove_asks = settled-good (change_known g seen p key name kind) known_goes

-- The laws

asks_of : (plan : RemoveValue) → IsGeom plan.geom → (seen : SeenValue) (p : Parts) → ReadsParts plan.geom (look_of seen) p
    → PlanAsks plan.geom plan.slot (call_of plan) (MayHold plan.geom plan.dir plan.name plan.kind) (MayRead plan.geom plan.dir plan.name plan.kind) seen p (answers_of plan seen p)
asks_of plan is seen p reads = remove_asks plan.geom is plan.slot plan.dir plan.name plan.kind seen p reads

-- each answer has its form, and is right
pub remove_keeps : (plan : RemoveValue) → IsGeom plan.geom → HasNames (call_of plan) → AllKeep plan.geom (call_of plan) (answers_of plan)
remove_keeps plan is names seen p reads =
    plan_keeps plan.geom plan.slot (call_of plan) (MayHold plan.geom plan.dir plan.name plan.kind) (MayRead plan.geom plan.dir plan.name plan.kind) seen p (answers_of plan seen p)
    (asks_of plan is seen p reads)

-- only allowed locks are asked for
pub remove_allowed : (plan : RemoveValue) → IsGeom plan.geom → HasNames (call_of plan) → AllAreAllowed plan.geom plan.slot (call_of plan) (answers_of plan)
remove_allowed plan is names seen p reads =
    plan_allowed plan.geom plan.slot (call_of plan) (MayHold plan.geom plan.dir plan.name plan.kind) (MayRead plan.geom plan.dir plan.name plan.kind) seen p (answers_of plan seen p)
    (asks_of plan is seen p reads)

-- few locks are held, and few sectors read
pub remove_few : (plan : RemoveValue) → IsGeom plan.geom → HasNames (call_of plan) → AllAreFew plan.geom (answers_of plan)
remove_few plan is names =
    let g = plan.geom in
    let key = plan.dir in
    let name = plan.name in
    let kind = plan.kind in
    plan_few g plan.slot (call_of plan) (MayHold g key name kind) (MayRead g key name kind) (answers_of plan) (asks_of plan is)
    (λ seen next p q grows reads reads' object may. holds-stay g seen next p q grows reads reads' key name kind object may)
    (λ seen next p q grows reads reads' at may. reads-stay g seen next p q grows reads reads' key name kind at may)
    (lock_list g key name kind) (sector_list g key name kind)
    (λ seen p reads k may. may)
    (λ seen p reads k may. may)
    (λ seen p reads. few-locks g key name kind seen p)
    (λ seen p reads. few-sectors g key name kind seen p reads)
