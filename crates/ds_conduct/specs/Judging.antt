-- When a host has judged a slot to be stale.
use Rattle.std.specs.Prelude.{◌≡◌, ℕ, List, ◌∷◌, ◌++◌}
use Rattle.std.specs.List.{Contains}
use Rattle.ds_base.specs.declared.sectors.Sector.{Sector}
use Rattle.ds_watch.specs.Notes.{IsStale, Note}

-- a Read of the slot gave this image, it was stale then, and no other image of the slot was noted since
pub record IsJudged (notes : List Note) (slot : ℕ) (image : Sector) : Type 0 where
  pub newer : List Note
  pub last : ℕ
  pub older : List Note
  pub parts : notes ≡ newer ++ record { slot = slot; image = image; tick = last } ∷ older
  pub stale : IsStale (record { slot = slot; image = image; tick = last } ∷ older) slot image last
  pub same : (note : Note) → Contains newer note → note.slot ≡ slot → note.image ≡ image
