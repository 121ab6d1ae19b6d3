-- What is known of sectors after one more is read.
use Rattle.std.proofs.Common.{◌≡◌, ℕ, ◌<◌, ◌==◌, Bool, true, false, if◌then◌else◌, List, [], ◌∷◌, ◌++◌, length, Option, Some, None, refl, sym, ap, subst, ◌∙◌, arith}
use Rattle.std.proofs.lemmas.List.{length_push}
use Rattle.std.proofs.lemmas.Option.{same_Some}
use Rattle.std.specs.Option.{option_or}
use Rattle.ds_base.specs.Geometry.{IsGeom}
use Rattle.ds_base.specs.declared.geometry.Geom.{Geom}
use Rattle.ds_base.specs.declared.sectors.Sector.{Sector}
use Rattle.ds_image_parts.specs.Looks.{AreBlocks, IsBlock}
use Rattle.ds_image_parts.specs.Pending.{Pair}
use Rattle.ds_image_parts.specs.Parts.{Parts}
use Rattle.ds_image_parts.specs.Readings.{ReadsParts}
use Rattle.ds_image.specs.SeenValues.{SeenValue, look_of, sector_in, with_sector, IsSeen}
use Rattle.ds_image_parts.proofs.Spelling.Readings.{parts_there}

choice : {X : Type 0} (test : Bool) (x : X) (rest others : Option X)
    → (if test then Some x else option_or rest others) ≡ option_or (if test then Some x else rest) others
choice true x rest others = refl
choice false x rest others = refl

-- a sector is looked for in the first pairs, and then in the others
pub sector_in-append : (xs ys : List Pair) (at : ℕ) → sector_in (xs ++ ys) at ≡ option_or (sector_in xs at) (sector_in ys at)
sector_in-append [] ys at = refl
sector_in-append (x ∷ xs) ys at =
    ap (λ rest. if x.0 == at then Some x.1 else rest) (sector_in-append xs ys at) ∙ choice (x.0 == at) x.1 (sector_in xs at) (sector_in ys at)

-- what holds of either of two holds of the one that is taken
either_holds : {X : Type 0} (P : X → Type 0) (one other : Option X) → ((x : X) → one ≡ Some x → P x) → ((x : X) → other ≡ Some x → P x)
    → (x : X) → option_or one other ≡ Some x → P x
either_holds P None other first second x got = second x got
either_holds P (Some y) other first second x got = first x got

one_holds : {X : Type 0} (P : X → Type 0) (test : Bool) (y : X) → P y → (x : X) → (if test then Some y else None) ≡ Some x → P x
one_holds P true y holds x got = subst P (same_Some y x got) holds
one_holds P false y holds x got = absurd cc

pub blocks_seen : (pairs : List Pair) (at : ℕ) (s : Sector) → AreBlocks (sector_in pairs) → IsBlock s.bytes
    → AreBlocks (sector_in (pairs ++ (at, s) ∷ []))
blocks_seen pairs at s before block k t got =
    let P : Sector → Type 0 = λ u. IsBlock u.bytes in
    either_holds P (sector_in pairs k) (sector_in ((at, s) ∷ []) k) (before k) (one_holds P (at == k) s block) t
    (sym (sector_in-append pairs ((at, s) ∷ []) k) ∙ got)

-- one more sector of 512 bytes
pub seen_sector : (seen : SeenValue) (at : ℕ) (s : Sector) → IsSeen seen → length seen.sectors < 256 → IsBlock s.bytes
    → IsSeen (with_sector seen at s)
seen_sector seen at s is room block = record {
  few_locks = is.few_locks;
  few_sectors = omega (arith, length_push seen.sectors (at, s));
  blocks = blocks_seen seen.sectors at s is.blocks block;
}

-- what a call has seen spells parts
pub seen_read : (g : Geom) (seen : SeenValue) → IsGeom g → IsSeen seen → (p : Parts) × ReadsParts g (look_of seen) p
seen_read g seen is_geom is = parts_there g (look_of seen) is_geom is.blocks
