-- What a log says of its moments: the guards of pending targets, what is noted, and objects that a host holds open.
use Rattle.std.proofs.Common.{◌≡◌, ℕ, ◌≤◌, true, ◌==◌, if◌then◌else◌, List, length, slice_get, Option, Some, None, sym, ap, subst}
use Rattle.ds_base.specs.Geometry.{IsGeom}
use Rattle.ds_base.specs.declared.geometry.Geom.{Geom}
use Rattle.ds_base.specs.declared.names.Key.{Key}
use Rattle.ds_base.specs.declared.sectors.Sector.{Sector}
use Rattle.ds_layout.specs.Places.{blocks_at}
use Rattle.ds_tree.specs.Nodes.{FileTree, Object, node_of_key}
use Rattle.ds_image.specs.Guards.{GuardedBy, IsGuard}
use Rattle.ds_image_parts.specs.Logical.{laid_over, IsLogical}
use Rattle.ds_image_parts.specs.Looks.{Look}
use Rattle.ds_image_parts.specs.Pending.{Pair}
use Rattle.ds_image_laws.specs.Kept.{is_target}
use Rattle.ds_image_laws.specs.ImageSteps.{Commit, IsFree, ImageStep}
use Rattle.ds_image_laws.specs.Owners.{Names}
use Rattle.ds_image_laws.specs.Shown.{MakesImage, HoldsImage}
use Rattle.ds_image_laws.proofs.Calls.{guard-shown, unowned-names}
use Rattle.ds_image_laws.proofs.ImageSteps.{step-knows, step-object}
use Rattle.ds_image_laws.proofs.OneGuard.{guard-once}
use Rattle.ds_image_laws.proofs.PickedPairs.{target-holds}
use Rattle.ds_image_laws.proofs.Apart.{IsUnownedIn, NotedHolds}

-- at a commit the headers of each target's guard in the logical images before and after name the slot
module _ (g : Geom) (is : IsGeom g) (sectors image : List Sector) (t : FileTree) (whole : blocks_at g ≤ length sectors)
    (holds : HoldsImage g sectors (Names g sectors) image t) (slot : ℕ) (pairs : List Pair) (u : FileTree) (changes : MakesImage g (Names g sectors slot) image pairs u)
    (at object : ℕ) (target : is_target pairs at ≡ true) where
  pub commit-guarded_before : (logical : List Sector) → IsLogical g sectors logical → IsGuard g (slice_get logical) at object → Names g sectors slot object
  commit-guarded_before logical is_logical guard =
      let held = target-holds (GuardedBy g (slice_get image) (Names g sectors slot)) pairs at changes.before target in
      subst (Names g sectors slot)
      (guard-once g (slice_get image) at held.object object is held.guards (guard-shown g is sectors image t whole holds logical at object is_logical guard)) held.held

  pub commit-guarded_after : (sectors' : List Sector) → blocks_at g ≤ length sectors' → HoldsImage g sectors' (Names g sectors') (laid_over image pairs) u
      → (logical : List Sector) → IsLogical g sectors' logical → IsGuard g (slice_get logical) at object → Names g sectors slot object
  commit-guarded_after sectors' whole' holds' logical is_logical guard =
      let held = target-holds (GuardedBy g (slice_get (laid_over image pairs)) (Names g sectors slot)) pairs at changes.after target in
      subst (Names g sectors slot)
      (guard-once g (slice_get (laid_over image pairs)) at held.object object is held.guards
      (guard-shown g is sectors' (laid_over image pairs) u whole' holds' logical at object is_logical guard)) held.held

module _ (g : Geom) (is : IsGeom g) (sectors image : List Sector) (t : FileTree) (whole : blocks_at g ≤ length sectors)
    (holds : HoldsImage g sectors (Names g sectors) image t) (commit : Option Commit) (sectors' image' : List Sector) (u : FileTree)
    (step : ImageStep g sectors image t commit sectors' image' u) where
  -- what is noted, where no header has an image again that it had
  pub step-noted : (object generation : ℕ) (look : Look) → (IsUnownedIn g sectors' object generation → IsUnownedIn g sectors object generation)
      → NotedHolds g sectors image object generation look → NotedHolds g sectors' image' object generation look
  step-noted object generation look back noted later =
      let before = back later in
      step-knows g is sectors image t commit sectors' image' u (λ other. other ≡ object) look holds step
      (λ other same. subst (IsFree g sectors commit) (sym same) (free commit before)) (noted before)
    where
      free : (c : Option Commit) → IsUnownedIn g sectors object generation → IsFree g sectors c object
      free None before = tt
      free (Some c) before = unowned-names g is sectors image t whole holds object before.unowned c.slot

  -- a key of an object that isn't the committer's
  pub step-key : (key : Key) → IsFree g sectors commit key.object → node_of_key u key ≡ node_of_key t key
  step-key key free =
      ap (λ (o : Object). if o.birth == key.birth then o.node else None)
      (step-object g is sectors image t commit sectors' image' u key.object holds step free)
