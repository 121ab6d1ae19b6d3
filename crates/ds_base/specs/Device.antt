-- What a command does to a device of 512-byte blocks, and what it answers (SBC-3: READ, WRITE, COMPARE AND WRITE). At a
-- mismatch SBC-3, "COMPARE AND WRITE command", has the INFORMATION field of the sense data tell the offset of the first
-- byte that differs.
use Rattle.std.specs.Prelude.{◌≡◌, ◌≢◌, ℕ, ◌<◌, Bool, true, false, List, length, take, slice_get, slice_set, slice_index, if◌then◌else◌, Option, Some, None}
use Rattle.std.specs.Str.{bytes_eq}
use Rattle.ds_base.specs.declared.sectors.Sector.{Sector}
use Rattle.ds_base.specs.declared.commands.Command.{Command}
use Rattle.ds_base.specs.declared.commands.Command.TheVariants.{Read, Write, Swap}
use Rattle.ds_base.specs.declared.commands.Response.{Response}
use Rattle.ds_base.specs.declared.commands.Response.TheVariants.{Got, Done, Miscompare, Fault}

-- the two lists differ at this offset, and at none before it
pub record IsFirstDifference (xs ys : List ℕ) (offset : ℕ) : Type 0 where
  pub within : offset < length xs
  pub differs : slice_index xs offset ≢ slice_index ys offset
  pub same_before : take offset xs ≡ take offset ys

-- whether a sector is there and holds this image
abbrev pub holds_image : Option Sector → Sector → Bool
holds_image None image = false
holds_image (Some s) image = bytes_eq s.bytes image.bytes

-- whether a command is a Swap that finds its image in place
abbrev pub takes_effect : List Sector → Command → Bool
takes_effect sectors (Read at) = false
takes_effect sectors (Write at fresh) = false
takes_effect sectors (Swap at verify fresh) = holds_image (slice_get sectors at) verify

-- the sectors after a command that landed
abbrev pub stored : List Sector → Command → List Sector
stored sectors (Read at) = sectors
stored sectors (Write at fresh) = slice_set sectors at fresh
stored sectors (Swap at verify fresh) =
    if holds_image (slice_get sectors at) verify then slice_set sectors at fresh else sectors

-- the sector that a command names
abbrev pub target_of : Command → ℕ
target_of (Read at) = at
target_of (Write at fresh) = at
target_of (Swap at verify fresh) = at

-- what a landed command may answer: a Read its sector, a Write that it is done, a Swap that it took effect, or else the
-- least offset at which the sector and the image to be found differ
abbrev pub Answers : List Sector → Command → Response → Type 0
Answers sectors (Read at) (Got s) = slice_get sectors at ≡ Some s
Answers sectors (Write at fresh) Done = at < length sectors
Answers sectors (Swap at verify fresh) Done = holds_image (slice_get sectors at) verify ≡ true
Answers sectors (Swap at verify fresh) (Miscompare offset) =
    (s : Sector) × (slice_get sectors at ≡ Some s) × IsFirstDifference s.bytes verify.bytes offset
Answers sectors _ _ = ⊥

-- whatever answers a command is this response
abbrev pub IsTheAnswer : List Sector → Command → Response → Type 0
IsTheAnswer sectors command response = (other : Response) → Answers sectors command other → response ≡ other

-- a response that fits a command, whatever the device holds
abbrev pub Fits : Command → Response → Type 0
Fits (Read at) (Got s) = Unit {0}
Fits (Write at fresh) Done = Unit {0}
Fits (Swap at verify fresh) Done = Unit {0}
Fits (Swap at verify fresh) (Miscompare offset) = Unit {0}
Fits command Fault = Unit {0}
Fits _ _ = ⊥
