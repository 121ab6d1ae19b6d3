-- Which lock object protects which metadata.
use Rattle.std.specs.Prelude.{◌≡◌, ℕ, ◌/◌, ◌==◌, nat_lt, if◌then◌else◌, List, length, Option, Some, None}
use Rattle.std.specs.List.{list_any, position_or_len}
use Rattle.ds_base.specs.declared.geometry.Geom.{Geom}
use Rattle.ds_base.specs.declared.geometry.Kind.TheVariants.{Sb, Pb}
use Rattle.ds_base.specs.Geometry.{per_cluster}
use Rattle.ds_layout.specs.Places.{cluster_lock, IsPlace, place_sector}
use Rattle.ds_layout.specs.declared.places.Place.{Place}
use Rattle.ds_layout.specs.declared.places.Place.TheVariants.{Bitmap, Body, SubBlock, PtrBlock}
use Rattle.ds_image_parts.specs.Looks.{Look}
use Rattle.ds_image_parts.specs.Parts.{Parts}
use Rattle.ds_image_parts.specs.Readings.{ReadsParts}
use Rattle.ds_image.specs.Sound.{sub_lists, ptr_lists}

-- the least descriptor that lists an item, or the number of descriptors where none does
abbrev pub least_lister : List (List ℕ) → ℕ → ℕ
least_lister lists n = position_or_len (λ list. list_any (λ x. x == n) list) lists

-- that descriptor, which is a lock object, or else this one
abbrev pub lister_or : List (List ℕ) → ℕ → ℕ → ℕ
lister_or lists n cluster = if nat_lt (least_lister lists n) (length lists) then least_lister lists n else cluster

-- the lock object that protects a place: a body's descriptor, a bitmap's cluster, and for a sub-block or a pointer block the
-- least descriptor that lists it, or else its cluster; nothing protects the other places
abbrev pub guard_of : Geom → Parts → Place → Option ℕ
guard_of g p (Body object) = Some object
guard_of g p (Bitmap kind cluster) = Some (cluster_lock kind cluster)
guard_of g p (SubBlock n) = Some (lister_or (sub_lists p) n (cluster_lock Sb (n / per_cluster g Sb)))
guard_of g p (PtrBlock n) = Some (lister_or (ptr_lists p) n (cluster_lock Pb (n / per_cluster g Pb)))
guard_of g p _ = None

-- the lock object protects the sector of an image
pub record IsGuard (g : Geom) (look : Look) (at object : ℕ) : Type 0 where
  pub parts : Parts
  pub reads : ReadsParts g look parts
  pub place : Place
  pub is_place : IsPlace g place
  pub here : place_sector g place ≡ at
  pub guards : guard_of g parts place ≡ Some object

-- the sector is protected by a lock object of which this holds
pub record GuardedBy (g : Geom) (look : Look) (Held : ℕ → Type 0) (at : ℕ) : Type 0 where
  pub object : ℕ
  pub guards : IsGuard g look at object
  pub held : Held object
