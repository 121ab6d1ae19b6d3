-- Which sectors are slots: no header, no journal and no metadata is one.
use Rattle.std.proofs.Common.{◌≡◌, ℕ, ◌+◌, ◌-◌, ◌*◌, ◌/◌, ◌%◌, ◌<◌, ◌≤◌, ◌&&◌, Bool, true, false, cond, Some, None, refl, arith}
use Rattle.std.specs.Prelude.{nat_le, nat_lt}
use Rattle.std.proofs.lemmas.Bool.Decides.{nat_tests}
use Rattle.ds_base.specs.declared.geometry.Geom.{Geom}
use Rattle.ds_base.specs.declared.geometry.Kind.{Kind}
use Rattle.ds_base.specs.declared.geometry.Kind.TheVariants.{Fd, Sb, Pb}
use Rattle.ds_base.specs.Geometry.{items_of}
use Rattle.ds_layout.specs.Places.{clusters_before, all_clusters, clusters_at, descriptors_at, sub_blocks_at, ptr_blocks_at, blocks_at, cluster_at, kind_numbered, place_sector}
use Rattle.ds_layout.specs.declared.places.Place.{Place}
use Rattle.ds_layout.specs.declared.places.Place.TheVariants.{VolInfo, FsInfo, Slot, Journal, Header, Bitmap, Body, SubBlock, PtrBlock, Block}
use Rattle.ds_layout.specs.Metadata.{is_metadata, IsMetadata}
use Rattle.ds_conduct.specs.Marks.{slot_number}

more : (a b c : ℕ) → c ≤ a → c ≤ a + b
more a b c h = omega arith

at-clusters : (g : Geom) → 2 + g.slots ≤ clusters_at g
at-clusters g = omega arith

at-cluster : (g : Geom) (kind : Kind) (cluster : ℕ) → 2 + g.slots ≤ cluster_at g kind cluster
at-cluster g kind cluster = more (clusters_at g) (2 * (clusters_before g kind + cluster)) (2 + g.slots) (at-clusters g)

at-descriptors : (g : Geom) → 2 + g.slots ≤ descriptors_at g
at-descriptors g = more (clusters_at g) (2 * all_clusters g) (2 + g.slots) (at-clusters g)

at-sub_blocks : (g : Geom) → 2 + g.slots ≤ sub_blocks_at g
at-sub_blocks g = more (descriptors_at g) (2 * items_of g Fd) (2 + g.slots) (at-descriptors g)

at-ptr_blocks : (g : Geom) → 2 + g.slots ≤ ptr_blocks_at g
at-ptr_blocks g = more (sub_blocks_at g) (items_of g Sb) (2 + g.slots) (at-sub_blocks g)

at-blocks : (g : Geom) → 2 + g.slots ≤ blocks_at g
at-blocks g = more (ptr_blocks_at g) (items_of g Pb) (2 + g.slots) (at-ptr_blocks g)

chosen : (b : Bool) (x y c : ℕ) → c ≤ x → c ≤ y → c ≤ cond b x y
chosen true x y c p q = p
chosen false x y c p q = q

pub header-beyond : (g : Geom) (object : ℕ) → 2 + g.slots ≤ place_sector g (Header object)
header-beyond g object =
    chosen (nat_lt object 2048) (descriptors_at g + 2 * object) (cluster_at g (kind_numbered ((object - 2048) / 8))
    ((object - 2048) % 8)) (2 + g.slots)
    (more (descriptors_at g) (2 * object) (2 + g.slots) (at-descriptors g))
    (at-cluster g (kind_numbered ((object - 2048) / 8)) ((object - 2048) % 8))

pub journal-beyond : (g : Geom) (slot i : ℕ) → 2 + g.slots ≤ place_sector g (Journal slot i)
journal-beyond g slot i = omega arith

pub block-beyond : (g : Geom) (block i : ℕ) → 2 + g.slots ≤ place_sector g (Block block i)
block-beyond g block i = more (blocks_at g + g.block * block) i (2 + g.slots) (more (blocks_at g) (g.block * block) (2 + g.slots)
    (at-blocks g))

kept-beyond : (g : Geom) (place : Place) → is_metadata place ≡ true → 2 + g.slots ≤ place_sector g place
kept-beyond g VolInfo e = absurd (cc)
kept-beyond g FsInfo e = absurd (cc)
kept-beyond g (Slot slot) e = absurd (cc)
kept-beyond g (Journal slot index) e = absurd (cc)
kept-beyond g (Header object) e = absurd (cc)
kept-beyond g (Bitmap kind cluster) e = more (cluster_at g kind cluster) 1 (2 + g.slots) (at-cluster g kind cluster)
kept-beyond g (Body object) e = more (descriptors_at g + 2 * object) 1 (2 + g.slots) (more (descriptors_at g) (2 * object) (2 + g.slots)
    (at-descriptors g))
kept-beyond g (SubBlock n) e = more (sub_blocks_at g) n (2 + g.slots) (at-sub_blocks g)
kept-beyond g (PtrBlock n) e = more (ptr_blocks_at g) n (2 + g.slots) (at-ptr_blocks g)
kept-beyond g (Block block index) e = absurd (cc)

pub metadata-beyond : (g : Geom) (at : ℕ) → IsMetadata g at → 2 + g.slots ≤ at
metadata-beyond g at m = let e : place_sector g m.place ≡ at = m.here in let h = kept-beyond g m.place m.kept in omega arith

-- a slot's sector has its number, and no other has
pub slot_number-of : (g : Geom) (a : ℕ) → a < g.slots → slot_number g (2 + a) ≡ Some a
slot_number-of g a h =
    let from : nat_le 2 (2 + a) ≡ true = grind (arith, nat_tests) in
    let to : nat_lt (2 + a) (2 + g.slots) ≡ true = grind (arith, nat_tests) in
    let n : 2 + a - 2 ≡ a = omega arith in
    rw (from, to, n) refl

pub slot_number-beyond : (g : Geom) (at : ℕ) → 2 + g.slots ≤ at → slot_number g at ≡ None
slot_number-beyond g at h =
    let to : nat_lt at (2 + g.slots) ≡ false = grind (arith, nat_tests) in
    by_first (nat_le 2 at) to
  where
    by_first : (b : Bool) → nat_lt at (2 + g.slots) ≡ false → cond (b && nat_lt at (2 + g.slots)) (Some (at - 2)) None ≡ None
    by_first true to = rw to refl
    by_first false to = refl

-- the slot that a number names is one, and the sector is its
pub record IsSlotSector (g : Geom) (at a : ℕ) : Type 0 where
  pub within : a < g.slots
  pub here : at ≡ 2 + a

pub slot_number-is : (g : Geom) (at a : ℕ) → slot_number g at ≡ Some a → IsSlotSector g at a
slot_number-is g at a e = by_tests (nat_le 2 at) (nat_lt at (2 + g.slots)) refl refl e
  where
    by_tests : (p q : Bool) → nat_le 2 at ≡ p → nat_lt at (2 + g.slots) ≡ q → cond (p && q) (Some (at - 2)) None ≡ Some a
        → IsSlotSector g at a
    by_tests true true from to e =
        let low : 2 ≤ at = grind (arith, nat_tests) in
        let high : at < 2 + g.slots = grind (arith, nat_tests) in
        let n : at - 2 ≡ a = cc in
        record { within = omega arith; here = omega arith }
    by_tests true false from to e = absurd (cc)
    by_tests false q from to e = absurd (cc)
