-- What a call under way knows, and what its commit makes.
use Rattle.std.specs.Prelude.{◌≡◌, ℕ, true, List, None}
use Rattle.ds_base.specs.declared.geometry.Geom.{Geom}
use Rattle.ds_base.specs.declared.names.Key.{Key}
use Rattle.ds_base.specs.declared.sectors.Sector.{Sector}
use Rattle.ds_tree.specs.Nodes.{FileTree}
use Rattle.ds_tree.specs.Steps.{Does, IsNextLife, has_change, refusal}
use Rattle.ds_tree.specs.declared.calls.CallOf.{CallOf}
use Rattle.ds_tree.specs.declared.calls.TreeReply.{TreeReply}
use Rattle.ds_image.specs.SeenValues.{HoldsLock, SeenValue, look_of}
use Rattle.ds_image_parts.specs.Pending.{Pair}
use Rattle.ds_image_laws.specs.Kept.{Knows}
use Rattle.ds_image_laws.specs.Owners.{Names}
use Rattle.ds_image_laws.specs.Shown.{MakesImage}

-- the locks that a call of the slot's host holds name the slot, and it knows of the image what it has seen
pub record CallKnows (g : Geom) (sectors image : List Sector) (number : ℕ) (seen : SeenValue) : Type 0 where
  pub locks : (object : ℕ) → HoldsLock seen object → Names g sectors number object
  pub knows : Knows g (HoldsLock seen) (look_of seen) image

-- the call is not refused at t, and makes u of it, which is another tree; a new object has the next life of its number
pub record IsChange (g : Geom) (t : FileTree) (call : CallOf Key) (reply : TreeReply) (u : FileTree) : Type 0 where
  pub does : Does g t call reply u
  pub unrefused : refusal g t call ≡ None
  pub changes : has_change t call ≡ true
  pub next_life : IsNextLife t reply

-- what a commit makes: the pairs are what the call does, under lock objects of the slot
pub record Commits (g : Geom) (sectors image : List Sector) (t : FileTree) (number : ℕ) (call : CallOf Key) (pairs : List Pair) (reply : TreeReply) : Type 0 where
  pub u : FileTree
  pub change : IsChange g t call reply u
  pub lays : MakesImage g (Names g sectors number) image pairs u
