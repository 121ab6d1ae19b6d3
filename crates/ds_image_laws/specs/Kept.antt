-- What is known of an image under locks.
use Rattle.std.specs.Prelude.{◌≡◌, ℕ, ◌==◌, Bool, List, slice_get, Some}
use Rattle.std.specs.List.{list_any}
use Rattle.ds_base.specs.declared.geometry.Geom.{Geom}
use Rattle.ds_base.specs.declared.sectors.Sector.{Sector}
use Rattle.ds_image.specs.Guards.{GuardedBy}
use Rattle.ds_image_parts.specs.Looks.{Look}
use Rattle.ds_image_parts.specs.Pending.{Pair}

-- whether a pair is for this sector
abbrev pub is_target : List Pair → ℕ → Bool
is_target pairs at = list_any (λ (pair : Pair). pair.0 == at) pairs

-- the sectors that are known are those of the image, and such lock objects protect them
pub record Knows (g : Geom) (Held : ℕ → Type 0) (look : Look) (image : List Sector) : Type 0 where
  pub agrees : (at : ℕ) (s : Sector) → look at ≡ Some s → slice_get image at ≡ Some s
  pub guarded : (at : ℕ) (s : Sector) → look at ≡ Some s → GuardedBy g (slice_get image) Held at
