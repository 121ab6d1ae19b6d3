-- What is kept of the notes.
use Rattle.std.specs.Prelude.{◌≡◌, ◌≢◌, ℕ, ◌+◌, ◌<◌, ◌≤◌, if◌then◌else◌, List, get_or, Option, Some, None}
use Rattle.std.specs.List.{Contains}
use Rattle.std.specs.Str.{bytes_eq}
use Rattle.ds_base.specs.declared.sectors.Sector.{Sector}
use Rattle.ds_watch.specs.Notes.{IsRun, Note}
use Rattle.ds_watch.specs.declared.watch.Shown.{Shown}

-- no note is of this slot
abbrev pub HasNoNote : ℕ → List Note → Type 0
HasNoNote slot notes = (note : Note) → Contains notes note → note.slot ≢ slot

-- what is kept of a slot: the run with which its notes end, or that there are none
abbrev pub Keeps : ℕ → List Note → Option Shown → Type 0
Keeps slot notes None = HasNoNote slot notes
Keeps slot notes (Some shown) = IsRun slot shown.image shown.since notes

-- that of each slot is kept
pub record Remembers (kept : List (Option Shown)) (notes : List Note) : Type 0 where
  pub each : (slot : ℕ) → slot < 16 → Keeps slot notes (get_or kept slot None)

-- since when an image is shown that is noted now
abbrev pub since_of : Option Shown → Sector → ℕ → ℕ
since_of None image now = now
since_of (Some shown) image now = if bytes_eq shown.image.bytes image.bytes then shown.since else now

-- the run is of this image, and began 16 ticks ago or earlier
abbrev pub IsOld : Option Shown → Sector → ℕ → Type 0
IsOld None image now = ⊥
IsOld (Some shown) image now = (shown.image ≡ image) × (shown.since + 16 ≤ now)
