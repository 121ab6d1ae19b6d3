-- The sectors of pointer blocks: who guards those that a file lists, and which images have them.
use Rattle.std.proofs.Common.{◌≡◌, ℕ, ◌<◌, ◌≤◌, List, length, slice_get, Some, ap, ◌∙◌, arith}
use Rattle.ds_base.specs.Geometry.{items_of}
use Rattle.ds_base.specs.declared.geometry.Geom.{Geom}
use Rattle.ds_base.specs.declared.geometry.Kind.TheVariants.{Pb}
use Rattle.ds_base.specs.declared.names.NodeKind.TheVariants as kinds
use Rattle.ds_base.specs.declared.sectors.Sector.{Sector}
use Rattle.ds_fd.specs.declared.body.Body.{Body}
use Rattle.ds_image.specs.Guards.{IsGuard}
use Rattle.ds_image_parts.specs.Looks.{Look}
use Rattle.ds_image_tables.specs.Owns.{IsAt}
use Rattle.ds_image_parts.specs.Parts.{Parts, part_at}
use Rattle.ds_image_parts.specs.Readings.{ReadsParts}
use Rattle.ds_image.specs.Sound.{IsSound, ptr_lists}
use Rattle.ds_image.proofs.Ownership.Listed.{ptr_listed_within}
use Rattle.ds_layout.specs.Places.{place_sector, blocks_at}
use Rattle.ds_layout.specs.declared.places.Place.TheVariants as places
use Rattle.ds_image.proofs.SectorGuards.{guard-ptr_listed}
use Rattle.ds_plan_laws_size.specs.Pages.{ptrs_in}
use Rattle.ds_plan_laws_size.proofs.FileLists.{ptr_list-is}

module _ (g : Geom) (look : Look) (p : Parts) (o : ℕ) (b : Body) (reads : ReadsParts g look p) (sound : IsSound p) (there : part_at p.bodies o ≡ Some b)
    (file : b.kind ≡ Some kinds.File) (k n : ℕ) (at : slice_get (ptrs_in b) k ≡ Some n) where
  pub pointer-listed : IsAt (ptr_lists p) o k n
  pointer-listed = ap (λ l. slice_get l k) (ptr_list-is p o b there file) ∙ at

  pub pointer-in_range : n < items_of g Pb
  pointer-in_range = ptr_listed_within g look p o k n reads sound pointer-listed

  -- the file's lock object protects it
  pub pointer-guard : IsGuard g look (place_sector g (places.PtrBlock n)) o
  pointer-guard = guard-ptr_listed g look p reads o k n pointer-in_range sound.ptr_owners pointer-listed

-- an image that goes up to the file blocks has all pointer blocks
pub pointers-in_image : (g : Geom) (image : List Sector) → blocks_at g ≤ length image → (n : ℕ) → n < items_of g Pb
    → place_sector g (places.PtrBlock n) < length image
pointers-in_image g image long n within = omega (arith, long, within)
