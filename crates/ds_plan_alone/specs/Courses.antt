-- How a call is carried out alone: each lock that it asks for is free, and each sector that it asks for is that of one image.
use Rattle.std.specs.Prelude.{◌≡◌, ℕ, ◌^◌, true, List, [], ◌∷◌, ◌++◌, slice_get, Some, None, ⊤}
use Rattle.ds_base.specs.declared.geometry.Geom.{Geom}
use Rattle.ds_base.specs.declared.names.Key.{Key}
use Rattle.ds_base.specs.declared.sectors.Sector.{Sector}
use Rattle.ds_image.specs.Asking.{makes_object}
use Rattle.ds_image_parts.specs.Logical.{laid_over}
use Rattle.ds_image_parts.specs.Pending.{Pair}
use Rattle.ds_image.specs.Planning.{Answers, Asks}
use Rattle.ds_image.specs.Planning.{AllGuarded}
use Rattle.ds_image.specs.SeenValues.{SeenValue, with_lock, with_sector}
use Rattle.ds_image.specs.Sound.{StandsFor}
use Rattle.ds_image.specs.declared.asks.Ask.{Ask}
use Rattle.ds_image.specs.declared.asks.Ask.TheVariants.{Lock, Read, Worn, Done, Change}
use Rattle.ds_tree.specs.Nodes.{FileTree, birth_at, node_at}
use Rattle.ds_tree.specs.Steps.{Does, IsNextLife, has_change, refusal}
use Rattle.ds_tree.specs.declared.calls.CallOf.{CallOf}
use Rattle.ds_tree.specs.declared.calls.TreeReply.{TreeReply}
use Rattle.ds_plan_alone.specs.declared.courses.Asked.{Asked}
use Rattle.ds_plan_alone.specs.declared.courses.Asked.TheVariants as asked_for

-- a call with these answers asked for these, one after another, and has seen this then
pub data HasAsked (g : Geom) (answers : Answers) (image : List Sector) : SeenValue → List Asked → Type 0 where
  Begun : HasAsked g answers image (record { locks = []; sectors = [] }) []
  WithLock : (seen : SeenValue) (asked : List Asked) (object : ℕ) → HasAsked g answers image seen asked → Asks g answers seen (Lock object)
      → HasAsked g answers image (with_lock seen object) (asked ++ asked_for.Lock object ∷ [])
  WithSector : (seen : SeenValue) (asked : List Asked) (at : ℕ) (s : Sector) → HasAsked g answers image seen asked → Asks g answers seen (Read at)
      → slice_get image at ≡ Some s → HasAsked g answers image (with_sector seen at s) (asked ++ asked_for.Read at ∷ [])

-- nothing more is asked for
abbrev pub IsEnd : Ask → Type 0
IsEnd (Lock object) = ⊥
IsEnd (Read at) = ⊥
IsEnd _ = ⊤

-- the call asked for these, and ended so; it held the guard of all that it had read
pub record IsCourse (g : Geom) (answers : Answers) (image : List Sector) (asked : List Asked) (end : Ask) : Type 0 where
  pub seen : SeenValue
  pub has_asked : HasAsked g answers image seen asked
  pub answered : Asks g answers seen end
  pub guarded : AllGuarded g seen
  pub ended : IsEnd end

-- the call, which is not refused, makes this tree of t, where a new object has the next life of its number, and these pairs make an
-- image of it
pub record ChangesTo (g : Geom) (call : CallOf Key) (image : List Sector) (t : FileTree) (pairs : List Pair) (reply : TreeReply) : Type 0 where
  pub u : FileTree
  pub stands : StandsFor g (laid_over image pairs) u
  pub does : Does g t call reply u
  pub unrefused : refusal g t call ≡ None
  pub changes : has_change t call ≡ true
  pub next_life : IsNextLife t reply

-- no object has this number, and its last birth is the greatest that there is
pub record IsUsedUp (t : FileTree) (object : ℕ) : Type 0 where
  pub free : node_at t object ≡ None
  pub last : birth_at t object ≡ 2 ^ 62

-- the call ends as it does at the tree for which the image stands: with a reply, with pairs that make of the image one which stands for
-- what the call makes of the tree, or, if it makes an object, because the births of a free number are used up
abbrev pub EndsRight : Geom → CallOf Key → List Sector → FileTree → Ask → Type 0
EndsRight g call image t (Done reply) = Does g t call reply t
EndsRight g call image t (Change redo reply) = ChangesTo g call image t redo.pairs.items reply
EndsRight g call image t (Worn object) = (makes_object call ≡ true) × IsUsedUp t object
EndsRight g call image t _ = ⊥
