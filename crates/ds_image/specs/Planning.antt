-- The law of planners: what holds of all their answers.
use Rattle.std.specs.Prelude.{◌≡◌, ℕ, false, List, None, Some, ⊤}
use Rattle.ds_base.specs.declared.geometry.Geom.{Geom}
use Rattle.ds_base.specs.declared.names.Key.{Key}
use Rattle.ds_tree.specs.declared.calls.CallOf.{CallOf}
use Rattle.ds_base.specs.declared.sectors.Sector.{Sector}
use Rattle.ds_tree.specs.Nodes.{FileTree}
use Rattle.ds_image.specs.Asking.{Agrees, IsFew, IsGuarded, Keeps, Reached}
use Rattle.ds_image.specs.Locks.{IsAllowed}
use Rattle.ds_image_parts.specs.Parts.{Parts}
use Rattle.ds_image_parts.specs.Readings.{ReadsParts}
use Rattle.ds_image.specs.SeenValues.{SeenValue, has_lock, look_of}
use Rattle.ds_image.specs.Sound.{StandsFor}
use Rattle.ds_image.specs.declared.asks.Ask.{Ask}
use Rattle.ds_image.specs.declared.asks.Ask.TheVariants.{Lock, Read}

-- how a planner answers: by what was seen and by the parts that it spells
abbrev pub Answers : Type 0
Answers = SeenValue → Parts → Ask

-- a planner with these answers asks for this
pub record Asks (g : Geom) (answers : Answers) (seen : SeenValue) (ask : Ask) : Type 0 where
  pub parts : Parts
  pub reads : ReadsParts g (look_of seen) parts
  pub answered : ask ≡ answers seen parts

-- each answer has its form and is right
abbrev pub AllKeep : Geom → CallOf Key → Answers → Type 0
AllKeep g call answers = (seen : SeenValue) (p : Parts) → ReadsParts g (look_of seen) p → Keeps g call seen p (answers seen p)

-- nowhere too much is asked for
abbrev pub AllAreFew : Geom → Answers → Type 0
AllAreFew g answers = (seen : SeenValue) (p : Parts) → ReadsParts g (look_of seen) p → Reached (Asks g answers) seen → IsFew seen (answers seen p)

-- only the locks that the call may take are asked for, for a host with this slot
abbrev pub AllAreAllowed : Geom → ℕ → CallOf Key → Answers → Type 0
AllAreAllowed g slot call answers =
    (seen : SeenValue) (p : Parts) → ReadsParts g (look_of seen) p → IsAllowed g slot call p (answers seen p)

-- the call holds the guard of each sector that it has read, by each image that stands for a tree and agrees with what was seen
abbrev pub AllGuarded : Geom → SeenValue → Type 0
AllGuarded g seen =
    (image : List Sector) (t : FileTree) → StandsFor g image t → Agrees seen image
    → (at : ℕ) (s : Sector) → look_of seen at ≡ Some s → IsGuarded g seen image at

-- what is asked for was not seen before
abbrev pub IsFresh : SeenValue → Ask → Type 0
IsFresh seen (Lock object) = has_lock seen object ≡ false
IsFresh seen (Read at) = look_of seen at ≡ None
IsFresh seen _ = ⊤
