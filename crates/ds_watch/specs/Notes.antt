-- Images of slots that were noted, and when an image counts as stale.
use Rattle.std.specs.Prelude.{◌≡◌, ◌≢◌, ℕ, ◌+◌, ◌≤◌, List, [], ◌∷◌}
use Rattle.ds_base.specs.declared.sectors.Sector.{Sector}

-- an image that a slot showed, and when
pub record Note : Type 0 where
  pub slot : ℕ
  pub image : Sector
  pub tick : ℕ

-- the newest note of a slot, if there is one, shows another image; the newest note stands first
pub data ShowsOther (slot : ℕ) (image : Sector) : List Note → Type 0 where
  Nothing : ShowsOther slot image []
  Other : (note : Note) (notes : List Note) → note.slot ≡ slot → note.image ≢ image → ShowsOther slot image (note ∷ notes)
  Elsewhere : (note : Note) (notes : List Note) → note.slot ≢ slot → ShowsOther slot image notes → ShowsOther slot image (note ∷ notes)

-- the newest notes of a slot are a run of this image, as long as there can be, of which the first was made at this tick
pub data IsRun (slot : ℕ) (image : Sector) (since : ℕ) : List Note → Type 0 where
  Begun : (note : Note) (notes : List Note) → note.slot ≡ slot → note.image ≡ image → note.tick ≡ since → ShowsOther slot image notes
      → IsRun slot image since (note ∷ notes)
  Again : (note : Note) (notes : List Note) → note.slot ≡ slot → note.image ≡ image → IsRun slot image since notes → IsRun slot image since (note ∷ notes)
  Passed : (note : Note) (notes : List Note) → note.slot ≢ slot → IsRun slot image since notes → IsRun slot image since (note ∷ notes)

-- the notes of a slot end with a run of the image that began 16 ticks ago or earlier
pub record IsStale (notes : List Note) (slot : ℕ) (image : Sector) (now : ℕ) : Type 0 where
  pub since : ℕ
  pub run : IsRun slot image since notes
  pub old : since + 16 ≤ now
