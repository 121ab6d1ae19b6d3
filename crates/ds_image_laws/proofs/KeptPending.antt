-- The pending pairs of a slot stay where its sector and the sectors of its journal stay; an idle slot's, where its sector stays.
use Rattle.std.proofs.Common.{◌≡◌, ◌≢◌, ℕ, ◌<◌, ◌≤◌, List, [], length, Option, Some, None, slice_get, slice_set, refl, sym, ap, subst, ◌∙◌, inl, inr, arith}
use Rattle.std.proofs.lemmas.Bool.{cases_eq}
use Rattle.std.proofs.lemmas.List.{length-map}
use Rattle.std.proofs.lemmas.List.Elements.{All-nil}
use Rattle.std.proofs.lemmas.Option.{slice_get_within}
use Rattle.std.specs.Prelude.{All}
use Rattle.std.specs.List.Sorted.{IsStrictlyIncreasing}
use Rattle.ds_base.specs.Decoding.{IsDecoded}
use Rattle.ds_base.specs.Geometry.{IsGeom}
use Rattle.ds_base.specs.declared.geometry.Geom.{Geom}
use Rattle.ds_base.specs.declared.sectors.Sector.{Sector}
use Rattle.ds_jrnl.specs.Index.{index_bytes}
use Rattle.ds_layout.proofs.SamePlace.{same_place}
use Rattle.ds_layout.specs.Places.{IsPlace, place_sector}
use Rattle.ds_layout.specs.declared.places.Place.{Place}
use Rattle.ds_layout.specs.declared.places.Place.TheVariants as places
use Rattle.ds_marks.specs.Slot.{IsSlot, slot_bytes}
use Rattle.ds_marks.proofs.Slots.{slot_same}
use Rattle.ds_marks.specs.declared.slot.Slot.{Slot}
use Rattle.ds_marks.specs.declared.slot.Journal.{Journal}
use Rattle.ds_marks.specs.declared.slot.Journal.TheVariants.{Idle, Committed}
use Rattle.ds_image.specs.Asking.{targets_of}
use Rattle.ds_image_parts.specs.Looks.{Look, HasBytes}
use Rattle.ds_layout.specs.Metadata.{IsMetadata}
use Rattle.ds_image_parts.specs.Pending.{Pair, AreOfJournal, AreOfSlot, ArePending}
use Rattle.ds_image_parts.specs.Readings.{SpellsSlot}
use Rattle.ds_image_parts.proofs.Spelling.Decoded.{decoded_same, decoded_as}
use Rattle.ds_image.proofs.NewVolumes.FreshLists.{decoded_one}
use Rattle.ds_image.proofs.NewVolumes.FreshVolume.{same_bytes}
use Rattle.ds_image_parts.proofs.Journaling.OneLogical.{pending_once}
use Rattle.ds_image_parts.proofs.Journaling.LaidOver.{slice_get-set_other, slice_get-set_same}
use Rattle.ds_image_laws.specs.Shown.{IsIdle, IsHarmless}
use Rattle.ds_image.proofs.SameSectors.{has-same, slot-as}

-- every sector of the slot's journal stays
abbrev JournalStays : Geom → List Sector → List Sector → ℕ → Type 0
JournalStays g sectors sectors' n = (i : ℕ) → i < 32 → slice_get sectors (place_sector g (places.Journal n i)) ≡ slice_get sectors' (place_sector g (places.Journal n i))

pub of_journal-kept : (g : Geom) (sectors sectors' : List Sector) (n generation : ℕ) (j : Journal) (pairs : List Pair) → JournalStays g sectors sectors' n
    → AreOfJournal g sectors n generation j pairs → AreOfJournal g sectors' n generation j pairs
of_journal-kept g sectors sectors' n generation Idle pairs stays are = are
of_journal-kept g sectors sectors' n generation (Committed txn count) pairs stays are =
    let x = are.0 in
    let is = are.1 in
    let journalled = are.2 in
    let many : length pairs ≡ length x.targets.items = sym (length-map pairs (λ (p : Pair). p.0)) ∙ ap length journalled.have_targets in (
      x,
      record {
        spelled = (is.spelled.0, has-same (slice_get sectors) (slice_get sectors') (place_sector g (places.Journal n 31)) (index_bytes x) (stays 31 (omega arith)) is.spelled.1);
        same_slot = is.same_slot;
        same_generation = is.same_generation;
        same_txn = is.same_txn;
        same_count = is.same_count;
        metadata = is.metadata;
      },
      record {
        have_targets = journalled.have_targets;
        have_sectors = λ i pair got.
            let most : length x.targets.items ≤ 31 = is.spelled.0.ranges.most in
            sym (stays i (omega (arith, slice_get_within pairs i pair got, many, most))) ∙ journalled.have_sectors i pair got;
      },
    )

of_slot-kept : (g : Geom) (sectors sectors' : List Sector) (n : ℕ) (r : Option Slot) (pairs : List Pair) → JournalStays g sectors sectors' n
    → AreOfSlot g sectors n r pairs → AreOfSlot g sectors' n r pairs
of_slot-kept g sectors sectors' n None pairs stays are = are
of_slot-kept g sectors sectors' n (Some s) pairs stays are = of_journal-kept g sectors sectors' n s.generation s.journal pairs stays are

pub slot-kept : (g : Geom) (sectors sectors' : List Sector) (n : ℕ) (r : Option Slot)
    → slice_get sectors (place_sector g (places.Slot n)) ≡ slice_get sectors' (place_sector g (places.Slot n))
    → IsDecoded r (SpellsSlot g (slice_get sectors) n) → IsDecoded r (SpellsSlot g (slice_get sectors') n)
slot-kept g sectors sectors' n r same read =
    decoded_as r (SpellsSlot g (slice_get sectors) n) (SpellsSlot g (slice_get sectors') n) (slot-as g (slice_get sectors) (slice_get sectors') n same)
    (slot-as g (slice_get sectors') (slice_get sectors) n (sym same)) read

pub pending-kept : (g : Geom) (sectors sectors' : List Sector) (n : ℕ) (pairs : List Pair)
    → slice_get sectors (place_sector g (places.Slot n)) ≡ slice_get sectors' (place_sector g (places.Slot n)) → JournalStays g sectors sectors' n
    → ArePending g sectors n pairs → ArePending g sectors' n pairs
pending-kept g sectors sectors' n pairs same stays are = record {
  slot = are.slot;
  decoded = slot-kept g sectors sectors' n are.slot same are.decoded;
  of_slot = of_slot-kept g sectors sectors' n are.slot pairs stays are.of_slot;
}

-- the pending pairs of a slot that is spelled are those of its journal
pub pending-of_journal : (g : Geom) (sectors : List Sector) (n : ℕ) (s : Slot) (pairs : List Pair) → IsDecoded (Some s) (SpellsSlot g (slice_get sectors) n)
    → ArePending g sectors n pairs → AreOfJournal g sectors n s.generation s.journal pairs
pending-of_journal g sectors n s pairs read are =
    subst (λ (r : Option Slot). AreOfSlot g sectors n r pairs) (decoded_same are.slot (Some s) (SpellsSlot g (slice_get sectors) n) are.decoded read) are.of_slot

-- pending pairs are for metadata, each sector's number below the next
pub record AreForMetadata (g : Geom) (pairs : List Pair) : Type 0 where
  pub metadata : All (IsMetadata g) (targets_of pairs)
  pub rising : IsStrictlyIncreasing (targets_of pairs)

of_journal-metadata : (g : Geom) (sectors : List Sector) (n generation : ℕ) (j : Journal) (pairs : List Pair) → AreOfJournal g sectors n generation j pairs
    → AreForMetadata g pairs
of_journal-metadata g sectors n generation Idle pairs are = subst (AreForMetadata g) (sym are) record {
  metadata = All-nil (IsMetadata g);
  rising = λ k l. absurd (omega (arith, l));
}
of_journal-metadata g sectors n generation (Committed txn count) pairs are =
    let same : are.0.targets.items ≡ targets_of pairs = sym are.2.have_targets in
    record {
      metadata = subst (λ xs. All (IsMetadata g) xs) same are.1.metadata;
      rising = subst IsStrictlyIncreasing same are.1.spelled.0.ranges.rising;
    }

of_slot-metadata : (g : Geom) (sectors : List Sector) (n : ℕ) (r : Option Slot) (pairs : List Pair) → AreOfSlot g sectors n r pairs → AreForMetadata g pairs
of_slot-metadata g sectors n None pairs are = of_journal-metadata g sectors n 0 Idle pairs are
of_slot-metadata g sectors n (Some s) pairs are = of_journal-metadata g sectors n s.generation s.journal pairs are

pub pending-metadata : (g : Geom) (sectors : List Sector) (n : ℕ) (pairs : List Pair) → ArePending g sectors n pairs → AreForMetadata g pairs
pending-metadata g sectors n pairs are = of_slot-metadata g sectors n are.slot pairs are.of_slot

-- an idle slot has no pending pairs
pub idle-pending : (g : Geom) (sectors : List Sector) (n : ℕ) → IsIdle g sectors n → ArePending g sectors n []
idle-pending g sectors n idle = record {
  slot = Some idle.slot;
  decoded = idle.decoded;
  of_slot = subst (λ (j : Journal). AreOfJournal g sectors n idle.slot.generation j []) (sym idle.idle) refl;
}

-- Writes

module _ (g : Geom) (is : IsGeom g) (sectors : List Sector) (place : Place) (inside : IsPlace g place) (s : Sector) where
  abbrev after : List Sector
  after = slice_set sectors (place_sector g place) s

  -- what stands elsewhere stays
  pub place-kept : (other : Place) → IsPlace g other → other ≢ place → slice_get sectors (place_sector g other) ≡ slice_get after (place_sector g other)
  place-kept other there apart =
      sym (slice_get-set_other sectors (place_sector g place) (place_sector g other) s (λ e. apart (same_place g other place is there inside (sym e))))

  -- the pending pairs of a slot stay where neither its sector nor its journal is written
  pub pending-elsewhere : (n : ℕ) (pairs : List Pair) → n < g.slots → places.Slot n ≢ place → ((i : ℕ) → places.Journal n i ≢ place)
      → ArePending g sectors n pairs → ArePending g after n pairs
  pending-elsewhere n pairs within slot journal are =
      pending-kept g sectors after n pairs (place-kept (places.Slot n) within slot) (λ i small. place-kept (places.Journal n i) (within, small) (journal i)) are

  -- an idle slot stays idle where its sector isn't written
  pub idle-elsewhere : (n : ℕ) → n < g.slots → places.Slot n ≢ place → IsIdle g sectors n → IsIdle g after n
  idle-elsewhere n within slot idle = record {
    slot = idle.slot;
    decoded = slot-kept g sectors after n (Some idle.slot) (place-kept (places.Slot n) within slot) idle.decoded;
    idle = idle.idle;
  }

  -- so an idle slot's pairs stay where its sector isn't written
  pub pending-idle : (n : ℕ) (pairs : List Pair) → n < g.slots → places.Slot n ≢ place → IsIdle g sectors n → ArePending g sectors n pairs
      → ArePending g after n pairs
  pending-idle n pairs within slot idle are =
      subst (λ (ps : List Pair). ArePending g after n ps) (pending_once g sectors n [] pairs (idle-pending g sectors n idle) are)
      (idle-pending g after n (idle-elsewhere n within slot idle))

-- the pairs of a slot whose sector is written are those of the new journal
pub pending-slot_written : (g : Geom) (is : IsGeom g) (sectors : List Sector) (n : ℕ) (s : Sector) (slot : Slot) (pairs : List Pair) → n < g.slots
    → IsDecoded (Some slot) (SpellsSlot g (slice_get (slice_set sectors (place_sector g (places.Slot n)) s)) n)
    → AreOfJournal g sectors n slot.generation slot.journal pairs → ArePending g (slice_set sectors (place_sector g (places.Slot n)) s) n pairs
pending-slot_written g is sectors n s slot pairs within read are = record {
  slot = Some slot;
  decoded = read;
  of_slot =
      of_journal-kept g sectors (slice_set sectors (place_sector g (places.Slot n)) s) n slot.generation slot.journal pairs
      (λ i small. place-kept g is sectors (places.Slot n) within s (places.Journal n i) (within, small) (λ e. absurd (cc))) are;
}

-- a slot that is written is spelled
pub slot-written : (g : Geom) (is : IsGeom g) (sectors : List Sector) (n : ℕ) (s : Sector) (slot : Slot) → n < g.slots → g.slots ≤ 256
    → place_sector g (places.Slot n) < length sectors → IsSlot slot → s.bytes ≡ slot_bytes n slot
    → IsDecoded (Some slot) (SpellsSlot g (slice_get (slice_set sectors (place_sector g (places.Slot n)) s)) n)
slot-written g is sectors n s slot within few there is_slot spelled =
    let look : Look = slice_get (slice_set sectors (place_sector g (places.Slot n)) s) in
    let has : HasBytes look (place_sector g (places.Slot n)) (slot_bytes n slot) = (s, slice_get-set_same sectors (place_sector g (places.Slot n)) s there, spelled) in
    decoded_one slot (SpellsSlot g look n) (is_slot, has)
    (λ other spells. (slot_same n n other slot (omega (arith, within, few)) (omega (arith, within, few)) spells.0 is_slot
    (same_bytes look (place_sector g (places.Slot n)) (slot_bytes n other) (slot_bytes n slot) spells.1 has)).1)

-- a write that changes no pending pairs
pub pending-harmless : (g : Geom) (is : IsGeom g) (sectors : List Sector) (place : Place) (inside : IsPlace g place) (s : Sector) (n : ℕ) (pairs : List Pair)
    → n < g.slots → IsHarmless g sectors place → ArePending g sectors n pairs → ArePending g (slice_set sectors (place_sector g place) s) n pairs
pending-harmless g is sectors places.VolInfo inside s n pairs within harmless are =
    pending-elsewhere g is sectors places.VolInfo inside s n pairs within (λ e. absurd (cc)) (λ i e. absurd (cc)) are
pending-harmless g is sectors places.FsInfo inside s n pairs within harmless are =
    pending-elsewhere g is sectors places.FsInfo inside s n pairs within (λ e. absurd (cc)) (λ i e. absurd (cc)) are
pending-harmless g is sectors (places.Slot m) inside s n pairs within harmless are = absurd harmless
pending-harmless g is sectors (places.Journal m i) inside s n pairs within harmless are = elim (cases_eq n m) [
  | inl same ↦
      pending-idle g is sectors (places.Journal m i) inside s n pairs within (λ e. absurd (cc)) (subst (IsIdle g sectors) (sym same) harmless) are
  | inr apart ↦
      pending-elsewhere g is sectors (places.Journal m i) inside s n pairs within (λ e. absurd (cc)) (λ j e. apart (let same : n ≡ m = cc in same)) are
]
pending-harmless g is sectors (places.Header o) inside s n pairs within harmless are =
    pending-elsewhere g is sectors (places.Header o) inside s n pairs within (λ e. absurd (cc)) (λ i e. absurd (cc)) are
pending-harmless g is sectors (places.Bitmap kind c) inside s n pairs within harmless are =
    pending-elsewhere g is sectors (places.Bitmap kind c) inside s n pairs within (λ e. absurd (cc)) (λ i e. absurd (cc)) are
pending-harmless g is sectors (places.Body o) inside s n pairs within harmless are =
    pending-elsewhere g is sectors (places.Body o) inside s n pairs within (λ e. absurd (cc)) (λ i e. absurd (cc)) are
pending-harmless g is sectors (places.SubBlock m) inside s n pairs within harmless are =
    pending-elsewhere g is sectors (places.SubBlock m) inside s n pairs within (λ e. absurd (cc)) (λ i e. absurd (cc)) are
pending-harmless g is sectors (places.PtrBlock m) inside s n pairs within harmless are =
    pending-elsewhere g is sectors (places.PtrBlock m) inside s n pairs within (λ e. absurd (cc)) (λ i e. absurd (cc)) are
pending-harmless g is sectors (places.Block b i) inside s n pairs within harmless are =
    pending-elsewhere g is sectors (places.Block b i) inside s n pairs within (λ e. absurd (cc)) (λ j e. absurd (cc)) are
