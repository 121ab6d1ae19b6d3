-- What a planner knows of a directory, and of its sub-blocks and entries.
use Rattle.std.specs.Prelude.{◌≡◌, ℕ, ◌<◌, true, List, option_map, Option, Some, IsSome}
use Rattle.ds_base.specs.Geometry.{items_of}
use Rattle.ds_base.specs.declared.geometry.Geom.{Geom}
use Rattle.ds_base.specs.declared.geometry.Kind.TheVariants.{Fd, Sb}
use Rattle.ds_base.specs.declared.names.Key.{Key}
use Rattle.ds_base.specs.declared.names.NodeKind.{NodeKind}
use Rattle.ds_base.specs.declared.names.NodeKind.TheVariants as kinds
use Rattle.ds_base.specs.declared.sectors.Sector.{Sector}
use Rattle.ds_dir.specs.declared.sub_block.Entry.{Entry}
use Rattle.ds_dir.specs.declared.sub_block.SubBlock.{SubBlock}
use Rattle.ds_fd.specs.declared.body.Body.{Body}
use Rattle.ds_image.specs.Asking.{Agrees}
use Rattle.ds_image_parts.specs.Objects.{used_rooms}
use Rattle.ds_image_parts.specs.Parts.{Parts, part_at}
use Rattle.ds_image.specs.SeenValues.{SeenValue, has_lock, look_of}
use Rattle.ds_image.specs.Sound.{StandsFor}
use Rattle.ds_layout.specs.Places.{place_sector}
use Rattle.ds_layout.specs.declared.places.Place.TheVariants as places
use Rattle.ds_image_parts.specs.Objects.{entry_named}
use Rattle.ds_image.specs.Locks.{SeesBody}
use Rattle.ds_plan_base.specs.declared.entries.Found.{Found}
use Rattle.ds_tree.specs.Nodes.{FileTree}

-- the call holds the directory, and has read its body
pub record HasDir (g : Geom) (seen : SeenValue) (p : Parts) (dir : Key) (b : Body) : Type 0 where
  pub inside : dir.object < items_of g Fd
  pub held : has_lock seen dir.object ≡ true
  pub read : IsSome (look_of seen (place_sector g (places.Body dir.object)))
  pub sees : SeesBody p dir kinds.Dir b

-- the call has read a sub-block
pub record HasSub (g : Geom) (seen : SeenValue) (p : Parts) (n : ℕ) (block : SubBlock) : Type 0 where
  pub inside : n < items_of g Sb
  pub read : IsSome (look_of seen (place_sector g (places.SubBlock n)))
  pub there : part_at p.subs n ≡ Some block

-- what an entry says
abbrev pub said_found : Option Found → Option (Key × NodeKind)
said_found = option_map (λ (f : Found). (f.key, f.kind))

abbrev pub said_entry : Option Entry → Option (Key × NodeKind)
said_entry = option_map (λ (e : Entry). (e.key, e.kind))

-- what was found is what the first entry of the name says in each image that agrees with what was seen
abbrev pub IsFoundIn : Geom → SeenValue → List ℕ → List ℕ → Option Found → Type 0
IsFoundIn g seen subs name found =
    (image : List Sector) (t : FileTree) (stands : StandsFor g image t) → Agrees seen image
    → said_found found ≡ said_entry (entry_named (used_rooms stands.parts subs) name)

-- the entries that were seen are those of each image that agrees with what was seen
abbrev pub AreAllIn : Geom → SeenValue → Parts → List ℕ → Type 0
AreAllIn g seen p subs =
    (image : List Sector) (t : FileTree) (stands : StandsFor g image t) → Agrees seen image → used_rooms p subs ≡ used_rooms stands.parts subs
