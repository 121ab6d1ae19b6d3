-- When what one descriptor says agrees with the other parts of an image, apart from which items are used.
use Rattle.std.specs.Prelude.{◌≡◌, ℕ, ◌<◌, ◌^◌, List, length, map, All, Option, Some, None, IsSome, bytes_eq}
use Rattle.std.specs.List.{IsDistinct}
use Rattle.ds_base.specs.Geometry.{IsGeom}
use Rattle.ds_base.specs.declared.geometry.Geom.{Geom}
use Rattle.ds_base.specs.declared.geometry.Kind.{Kind}
use Rattle.ds_dir.specs.declared.sub_block.Entry.{Entry}
use Rattle.ds_fd.specs.declared.body.Body.{Body}
use Rattle.ds_image_parts.specs.Looks.{Look}
use Rattle.ds_image_parts.specs.Objects.{is_used, subs_of, ptrs_of, tail_of, used_rooms}
use Rattle.ds_image_tables.specs.Owns.{Owns}
use Rattle.ds_image_parts.specs.Parts.{Parts, part_at, maps_of, bits_in}
use Rattle.ds_image_parts.specs.Readings.{ReadsParts}
use Rattle.ds_image.specs.Sound.{IsNamedRight, AreZero, sub_lists, ptr_lists, block_lists}

-- these are the parts of some volume
pub record AreRead (p : Parts) : Type 0 where
  pub geom : Geom
  pub look : Look
  pub is_geom : IsGeom geom
  pub reads : ReadsParts geom look p

-- no two entries have one name
abbrev pub AreNamesApart : List Entry → Type 0
AreNamesApart entries = IsDistinct bytes_eq (map (λ (e : Entry). e.name) entries)

-- what a body counts
abbrev pub count_in : Option Body → ℕ
count_in None = 0
count_in (Some b) = b.count

-- the sub-blocks and pointer blocks that it lists are spelled, its entries have names of their own and say the life and the
-- kind of their objects, and the addresses past a file's last block are zero
pub record IsSoundObject (p : Parts) (body : Option Body) : Type 0 where
  pub subs : All (λ n. IsSome (part_at p.subs n)) (subs_of body)
  pub ptrs : All (λ n. IsSome (part_at p.ptrs n)) (ptrs_of body)
  pub names : AreNamesApart (used_rooms p (subs_of body))
  pub entries : All (IsNamedRight p) (used_rooms p (subs_of body))
  pub tails : AreZero (tail_of p body)

-- a bit is set exactly where an object uses the item, and no item is listed twice
pub record IsMarked (p : Parts) : Type 0 where
  pub used : bits_in p.fd_maps ≡ map is_used p.bodies
  pub sub_owners : Owns (sub_lists p) (bits_in p.sb_maps)
  pub ptr_owners : Owns (ptr_lists p) (bits_in p.pb_maps)
  pub block_owners : Owns (block_lists p) (bits_in p.fb_maps)

-- the bits of each kind are fewer than four bytes can count
abbrev pub HasShortRows : Parts → Type 0
HasShortRows p = (kind : Kind) → length (bits_in (maps_of p kind)) < 2 ^ 32
