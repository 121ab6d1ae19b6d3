-- Which sectors are bad.
use Rattle.std.proofs.Common.{◌≡◌, ℕ, ◌<◌, ◌↔◌, inl, inr, nat_lt, Bool, true, false, not, List, slice_get, Option, Some, None, IsTrue, is_some, refl, sym, arith}
use Rattle.std.proofs.lemmas.Bool.{false≢true}
use Rattle.std.proofs.lemmas.Bool.Decides.{nat_tests}
use Rattle.ds_base.specs.Decoding.{IsDecoded}
use Rattle.ds_base.specs.Geometry.{IsGeom, clusters_of}
use Rattle.ds_base.specs.declared.geometry.Geom.{Geom}
use Rattle.ds_base.specs.declared.geometry.Kind.{Kind}
use Rattle.ds_base.specs.declared.geometry.Kind.TheVariants.{Fd, Sb, Pb, Fb}
use Rattle.ds_base.specs.declared.sectors.Sector.{Sector}
use Rattle.ds_jrnl.specs.declared.index.Index.{Index}
use Rattle.ds_layout.specs.Places.{cluster_at, header_sector, blocks_at, IsLock, IsPlace, place_sector}
use Rattle.ds_layout.specs.declared.places.Place.{Place}
use Rattle.ds_layout.specs.declared.places.Place.TheVariants as places
use Rattle.ds_layout.proofs.Bounds.{bounds, header_of_cluster}
use Rattle.ds_marks.specs.declared.slot.Slot.{Slot}
use Rattle.ds_marks.specs.declared.slot.Journal.TheVariants.{Committed}
use Rattle.ds_image_parts.specs.BadSectors.{HasBadIndex, IsBad, IsBadPlace}
use Rattle.ds_image_parts.specs.Pending.{IsIndexOf}
use Rattle.ds_image_parts.specs.Readings.{SpellsSlot}

-- nothing is decoded exactly where no value is described
pub no_value : {V : Type 0} (r : Option V) (none : Bool) (Describes : V → Type 0) → is_some r ≡ not none → IsDecoded r Describes → IsTrue none ↔ ((v : V) → ¬ Describes v)
no_value None true Describes e d = (λ _ v h. let some : None ≡ Some v = (d v).1 h in absurd cc, λ _. refl)
no_value None false Describes e d = absurd (false≢true e)
no_value (Some x) true Describes e d = absurd (false≢true (sym e))
no_value (Some x) false Describes e d = (λ wrong. absurd (false≢true wrong), λ nothing. absurd (nothing x ((d x).0 refl)))

-- the index of a committed slot is bad exactly where no index is the one that it has to be
pub bad_index : (g : Geom) (sectors : List Sector) (number : ℕ) (r : Option Slot) (slot : Slot) (txn count : ℕ) (x : Option Index) (none : Bool)
    → IsDecoded r (SpellsSlot g (slice_get sectors) number) → r ≡ Some slot → slot.journal ≡ Committed txn count
    → IsDecoded x (IsIndexOf g sectors number slot.generation txn count) → is_some x ≡ not none → IsTrue none ↔ HasBadIndex g sectors number
bad_index g sectors number r slot txn count x none read is committed index e = (
  λ is_none. record {
    slot = slot;
    txn = txn;
    count = count;
    spelled = (read slot).0 is;
    committed = committed;
    no_index = (no_value x none (IsIndexOf g sectors number slot.generation txn count) e index).0 is_none;
  },
  λ bad. (no_value x none (IsIndexOf g sectors number slot.generation txn count) e index).1 (λ v good.
      let read_again : r ≡ Some bad.slot = (read bad.slot).1 bad.spelled in
      let same_slot : bad.slot ≡ slot = cc in
      let bad_journal : bad.slot.journal ≡ Committed bad.txn bad.count = bad.committed in
      let same_txn : bad.txn ≡ txn = cc in
      let same_count : bad.count ≡ count = cc in
      bad.no_index v (rw (same_slot, same_txn, same_count) good)),
)

cluster_within : (g : Geom) (kind : Kind) (cluster : ℕ) → cluster < clusters_of g kind → cluster_at g kind cluster < blocks_at g
cluster_within g Fd cluster h = omega arith
cluster_within g Sb cluster h = omega arith
cluster_within g Pb cluster h = omega arith
cluster_within g Fb cluster h = omega arith

-- headers stand in front of the file blocks
header_within : (g : Geom) (object : ℕ) → IsGeom g → IsLock g object → header_sector g object < blocks_at g
header_within g object is (inl h) =
    let b = bounds g is in
    let small : nat_lt object 2048 ≡ true = grind (arith, nat_tests, b.fd_items) in
    rw small (omega arith)
header_within g object is (inr h) =
    rw (header_of_cluster g h.kind h.cluster object (bounds g is) h.within h.number) (cluster_within g h.kind h.cluster h.within)

-- bad sectors stand in front of the file blocks
bad_place_within : (g : Geom) (sectors : List Sector) (place : Place) → IsGeom g → IsPlace g place → IsBadPlace g sectors place → place_sector g place < blocks_at g
bad_place_within g sectors (places.Slot number) is h bad = omega arith
bad_place_within g sectors (places.Header object) is h bad = header_within g object is h
bad_place_within g sectors (places.Journal number index) is h bad = omega arith
bad_place_within g sectors places.VolInfo is h bad = absurd bad
bad_place_within g sectors places.FsInfo is h bad = absurd bad
bad_place_within g sectors (places.Bitmap kind cluster) is h bad = absurd bad
bad_place_within g sectors (places.Body object) is h bad = absurd bad
bad_place_within g sectors (places.SubBlock n) is h bad = absurd bad
bad_place_within g sectors (places.PtrBlock n) is h bad = absurd bad
bad_place_within g sectors (places.Block block index) is h bad = absurd bad

pub bad_within : (g : Geom) (sectors : List Sector) (at : ℕ) → IsGeom g → IsBad g sectors at → at < blocks_at g
bad_within g sectors at is bad =
    omega (arith, bad.here, bad_place_within g sectors bad.place is bad.is_place bad.bad)
