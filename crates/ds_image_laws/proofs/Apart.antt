-- What the proofs say of pairs and lock objects of different slots, of images that agree, and of lock objects without owner.
use Rattle.std.specs.Prelude.{◌≡◌, ◌≢◌, ℕ, ◌<◌, true, false, List, slice_get, None}
use Rattle.ds_base.specs.declared.geometry.Geom.{Geom}
use Rattle.ds_base.specs.declared.sectors.Sector.{Sector}
use Rattle.ds_marks.specs.declared.header.Header.{Header}
use Rattle.ds_image.specs.Guards.{IsGuard}
use Rattle.ds_image_parts.specs.Logical.{laid_over}
use Rattle.ds_image_parts.specs.Looks.{Look}
use Rattle.ds_image_parts.specs.Pending.{Pair, ArePending}
use Rattle.ds_image_parts.specs.Readings.{SpellsHeader}
use Rattle.ds_image_laws.specs.Kept.{Knows, is_target}

-- no sector is a target of one slot's pairs and of pairs of another
abbrev pub AreApart : Geom → List Sector → ℕ → List Pair → Type 0
AreApart g sectors slot pairs = (other : ℕ) (theirs : List Pair) (at : ℕ) → other < g.slots → other ≢ slot → ArePending g sectors other theirs
    → is_target pairs at ≡ true → is_target theirs at ≡ true → ⊥

-- no lock object is one of two slots
abbrev pub AreOwnersApart : (ℕ → ℕ → Type 0) → Type 0
AreOwnersApart Names = (one other object : ℕ) → Names one object → Names other object → one ≡ other

-- the second image holds what the first does, but for sectors that these lock objects protect in the first
abbrev pub AgreeOutside : Geom → (ℕ → Type 0) → List Sector → List Sector → Type 0
AgreeOutside g Others image after = (at object : ℕ) → IsGuard g (slice_get image) at object → ¬ Others object → slice_get after at ≡ slice_get image at

-- a sector that pairs leave, with the lock object that protects it before and after
pub record IsLeft (g : Geom) (image : List Sector) (pairs : List Pair) (at object : ℕ) : Type 0 where
  pub no_target : is_target pairs at ≡ false
  pub same : slice_get (laid_over image pairs) at ≡ slice_get image at
  pub before : IsGuard g (slice_get image) at object
  pub after : IsGuard g (slice_get (laid_over image pairs)) at object

-- the lock object has no owner
pub record IsUnowned (g : Geom) (sectors : List Sector) (object : ℕ) : Type 0 where
  pub header : Header
  pub spells : SpellsHeader g (slice_get sectors) object header
  pub none : header.owner ≡ None

-- the lock object has this header generation and no owner
pub record IsUnownedIn (g : Geom) (sectors : List Sector) (object generation : ℕ) : Type 0 where
  pub unowned : IsUnowned g sectors object
  pub same_generation : unowned.header.generation ≡ generation

-- while the object has this header generation and no owner, these sectors are the image's and it protects them
abbrev pub NotedHolds : Geom → List Sector → List Sector → ℕ → ℕ → Look → Type 0
NotedHolds g sectors image object generation look = IsUnownedIn g sectors object generation → Knows g (λ other. other ≡ object) look image
