-- Sectors of which some are replaced.
use Rattle.std.specs.Prelude.{ℕ, suc, List, [], ◌∷◌, Option, None, Some}
use Rattle.ds_base.specs.declared.geometry.Geom.{Geom}
use Rattle.ds_base.specs.declared.sectors.Sector.{Sector}
use Rattle.ds_image_parts.specs.Looks.{Look}
use Rattle.ds_layout.specs.Metadata.{front_of}

-- this sector, unless another is there
abbrev pub or_sector : Option Sector → Sector → Sector
or_sector None s = s
or_sector (Some fresh) s = fresh

-- sectors with these numbers and on, with those that are pending in their places
abbrev pub replaced_from : Look → ℕ → List Sector → List Sector
replaced_from pending at [] = []
replaced_from pending at (s ∷ sectors) = or_sector (pending at) s ∷ replaced_from pending (suc at) sectors

-- the sectors of a store in front of its file blocks, with those that are pending in their places
abbrev pub image_of : Geom → List Sector → Look → List Sector
image_of g sectors pending = replaced_from pending 0 (front_of g sectors)
