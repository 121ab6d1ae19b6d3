-- What a planner asks for whose call reads one directory and changes nothing.
use Rattle.std.specs.Prelude.{◌≡◌, ℕ, ◌<◌, true, false, nat_eq, List, ◌∷◌, map, IsSome}
use Rattle.std.specs.List.{list_any}
use Rattle.ds_base.specs.Geometry.{items_of}
use Rattle.ds_base.specs.declared.geometry.Geom.{Geom}
use Rattle.ds_base.specs.declared.geometry.Kind.TheVariants.{Fd}
use Rattle.ds_base.specs.declared.names.Key.{Key}
use Rattle.ds_base.specs.declared.sectors.Sector.{Sector}
use Rattle.ds_image.specs.Asking.{Agrees, HasItsBlock, IsReadable}
use Rattle.ds_image_parts.specs.Objects.{subs_of}
use Rattle.ds_image_parts.specs.Parts.{Parts, part_at}
use Rattle.ds_image.specs.SeenValues.{SeenValue, has_lock, look_of}
use Rattle.ds_image.specs.Sound.{StandsFor}
use Rattle.ds_image.specs.declared.asks.Ask.{Ask}
use Rattle.ds_image.specs.declared.asks.Ask.TheVariants.{Lock, Read, Odd, Done}
use Rattle.ds_layout.specs.Places.{place_sector}
use Rattle.ds_layout.specs.declared.places.Place.TheVariants as places
use Rattle.ds_tree.specs.Nodes.{FileTree}
use Rattle.ds_tree.specs.Steps.{Does}
use Rattle.ds_tree.specs.declared.calls.CallOf.{CallOf}
use Rattle.ds_tree.specs.declared.calls.TreeReply.{TreeReply}

-- the sectors of a directory: its body's, and those of the sub-blocks that it lists
abbrev pub dir_sectors : Geom → Parts → ℕ → List ℕ
dir_sectors g p dir = place_sector g (places.Body dir) ∷ map (λ n. place_sector g (places.SubBlock n)) (subs_of (part_at p.bodies dir))

-- the sector is one of the directory's that can be read now
pub record IsDirRead (g : Geom) (dir : ℕ) (seen : SeenValue) (p : Parts) (at : ℕ) : Type 0 where
  pub inside : dir < items_of g Fd
  pub readable : IsReadable g seen at
  pub one : list_any (nat_eq at) (dir_sectors g p dir) ≡ true

-- the sector was read, and no image that stands for a tree agrees with what was seen
pub record FitsNone (g : Geom) (seen : SeenValue) (at : ℕ) : Type 0 where
  pub read : IsSome (look_of seen at)
  pub none : (image : List Sector) (t : FileTree) → StandsFor g image t → Agrees seen image → ⊥

-- the reply is what the call answers at each tree whose image agrees with what was seen
pub record IsKnown (g : Geom) (call : CallOf Key) (seen : SeenValue) (reply : TreeReply) : Type 0 where
  pub block : HasItsBlock g reply
  pub does : (image : List Sector) (t : FileTree) → StandsFor g image t → Agrees seen image → Does g t call reply t

-- the directory's lock, where it isn't held; then sectors of the directory, which weren't read; then a reply
abbrev pub DirAsks : Geom → CallOf Key → ℕ → SeenValue → Parts → Ask → Type 0
DirAsks g call dir seen p (Lock object) = (object ≡ dir) × (dir < items_of g Fd) × (has_lock seen dir ≡ false)
DirAsks g call dir seen p (Read at) = IsDirRead g dir seen p at
DirAsks g call dir seen p (Odd at) = FitsNone g seen at
DirAsks g call dir seen p (Done reply) = IsKnown g call seen reply
DirAsks g call dir seen p _ = ⊥
