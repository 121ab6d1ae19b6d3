-- What is known of the sectors of a volume: all of an image's, or those that a call has read.
use Rattle.std.specs.Prelude.{◌≡◌, ℕ, List, length, Option, Some}
use Rattle.ds_base.specs.declared.sectors.Sector.{Sector}
use Rattle.ds_bytes.specs.Fields.{AllBelow}

-- the sector with each number, where it is known
abbrev pub Look : Type 0
Look = ℕ → Option Sector

-- the sector at this number is known and has these bytes
abbrev pub HasBytes : Look → ℕ → List ℕ → Type 0
HasBytes look at bytes = (s : Sector) × (look at ≡ Some s) × (s.bytes ≡ bytes)

-- 512 numbers below 256
pub record IsBlock (bytes : List ℕ) : Type 0 where
  pub size : length bytes ≡ 512
  pub below : AllBelow 256 bytes

-- each sector that is known has 512 bytes
abbrev pub AreBlocks : Look → Type 0
AreBlocks look = (at : ℕ) (s : Sector) → look at ≡ Some s → IsBlock s.bytes
