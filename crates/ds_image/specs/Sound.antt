-- For which tree an image stands.
use Rattle.std.specs.Prelude.{◌≡◌, ℕ, ◌≤◌, List, length, map, slice_get, slice_index, Some, IsSome, bytes_eq}
use Rattle.std.specs.List.{IsDistinct}
use Rattle.ds_base.specs.declared.geometry.Geom.{Geom}
use Rattle.ds_base.specs.declared.geometry.Kind.{Kind}
use Rattle.ds_base.specs.declared.sectors.Sector.{Sector}
use Rattle.ds_dir.specs.declared.sub_block.Entry.{Entry}
use Rattle.ds_fd.specs.declared.body.Body.{Body}
use Rattle.ds_layout.specs.Places.{blocks_at}
use Rattle.ds_tree.specs.Nodes.{FileTree}
use Rattle.ds_tree.specs.WellFormed.{IsTree}
use Rattle.ds_image_parts.specs.Objects.{is_used, subs_of, ptrs_of, blocks_of, tail_of, used_rooms, tree_of}
use Rattle.ds_image_tables.specs.Owns.{Owns, IsAt}
use Rattle.ds_image_parts.specs.Parts.{Parts, part_at, AllSpelled, maps_of, bits_in}
use Rattle.ds_image_parts.specs.Readings.{ReadsParts}

-- the items that each descriptor lists
abbrev pub sub_lists : Parts → List (List ℕ)
sub_lists p = map subs_of p.bodies

abbrev pub ptr_lists : Parts → List (List ℕ)
ptr_lists p = map ptrs_of p.bodies

abbrev pub block_lists : Parts → List (List ℕ)
block_lists p = map (blocks_of p) p.bodies

-- the entries in the used rooms of an object, where it is a directory
abbrev pub rooms_used_by : Parts → ℕ → List Entry
rooms_used_by p object = used_rooms p (subs_of (part_at p.bodies object))

-- the object of an entry is in use, in the life and of the kind that the entry says
pub record IsNamedRight (p : Parts) (e : Entry) : Type 0 where
  pub body : Body
  pub there : part_at p.bodies e.key.object ≡ Some body
  pub birth : body.birth ≡ e.key.birth
  pub kind : body.kind ≡ Some e.kind

-- every number is zero
abbrev pub AreZero : List ℕ → Type 0
AreZero xs = (i : ℕ) → slice_index xs i ≡ 0

-- the parts agree with one another
pub record IsSound (p : Parts) : Type 0 where
  -- all bodies and bitmaps are spelled, and so are the sub-blocks and pointer blocks that are listed
  pub bodies : AllSpelled p.bodies
  pub maps : (kind : Kind) → AllSpelled (maps_of p kind)
  pub subs : (o i n : ℕ) → IsAt (sub_lists p) o i n → IsSome (part_at p.subs n)
  pub ptrs : (o i n : ℕ) → IsAt (ptr_lists p) o i n → IsSome (part_at p.ptrs n)
  -- no name stands twice in a directory, and each entry says the life and the kind of its object
  pub names : (o : ℕ) → IsDistinct bytes_eq (map (λ (e : Entry). e.name) (rooms_used_by p o))
  pub entries : (o i : ℕ) (e : Entry) → slice_get (rooms_used_by p o) i ≡ Some e → IsNamedRight p e
  -- the addresses past a file's last block are zero
  pub tails : (o : ℕ) → AreZero (tail_of p (part_at p.bodies o))
  -- no item is listed twice, and a bit is set exactly where an object uses the item
  pub used : bits_in p.fd_maps ≡ map is_used p.bodies
  pub sub_owners : Owns (sub_lists p) (bits_in p.sb_maps)
  pub ptr_owners : Owns (ptr_lists p) (bits_in p.pb_maps)
  pub block_owners : Owns (block_lists p) (bits_in p.fb_maps)

-- the image, a list of sectors by number, stands for the tree that its parts spell
pub record StandsFor (g : Geom) (image : List Sector) (t : FileTree) : Type 0 where
  pub parts : Parts
  -- the image has the sectors of all bodies, bitmaps, sub-blocks and pointer blocks, also of items that nobody lists
  pub whole : blocks_at g ≤ length image
  pub reads : ReadsParts g (slice_get image) parts
  pub sound : IsSound parts
  pub tree : t ≡ tree_of parts
  pub is_tree : IsTree g t
