-- Runs of logical blocks as bytes.
use Rattle.std.specs.Prelude.{ℕ, ◌+◌, zero, suc, List, [], ◌∷◌, ◌++◌, length, take, drop}
use Rattle.std.specs.List.{flat_map}
use Rattle.ds_base.specs.declared.sectors.Sector.{Sector}

-- the bytes of `count` sectors from `lba` on
abbrev pub bytes_from : List Sector → ℕ → ℕ → List ℕ
bytes_from sectors lba count = flat_map (λ (s : Sector). s.bytes) (take count (drop lba sectors))

-- the first `count` blocks of 512 bytes
unfoldable pub images_in : ℕ → List ℕ → List Sector
images_in zero bytes = []
images_in (suc n) bytes = record { bytes = take 512 bytes } ∷ images_in n (drop 512 bytes)

-- the sectors with these images in the place of those from `lba` on
abbrev pub overwritten : List Sector → ℕ → List Sector → List Sector
overwritten sectors lba images = take lba sectors ++ images ++ drop (lba + length images) sectors
