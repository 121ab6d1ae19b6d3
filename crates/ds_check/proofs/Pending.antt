-- The pending index of a slot, by what its journal is; the owner in a header.
use Rattle.std.proofs.Common.{◌≡◌, ℕ, List, Option, Some, None, slice_get, ap, ◌∙◌, subst}
use Rattle.ds_base.specs.Decoding.{IsDecoded}
use Rattle.ds_base.specs.declared.geometry.Geom.{Geom}
use Rattle.ds_base.specs.declared.sectors.Sector.{Sector}
use Rattle.ds_jrnl.specs.declared.index.Index.{Index}
use Rattle.ds_marks.specs.declared.header.Header.{Header}
use Rattle.ds_marks.specs.declared.slot.Journal.TheVariants.{Idle, Committed}
use Rattle.ds_marks.specs.declared.slot.Slot.{Slot}
use Rattle.ds_image_parts.specs.Pending.{IsIndexOf}
use Rattle.ds_image_parts.specs.Looks.{Look}
use Rattle.ds_image_parts.specs.Readings.{SpellsSlot, SpellsHeader}
use Rattle.ds_check.specs.Controls.{SpellsOwner, SpellsPending}

-- a sector that spells no slot has none
pub pending_unread : (g : Geom) (sectors : List Sector) (number : ℕ) (slot : Option Slot) → IsDecoded slot (SpellsSlot g (slice_get sectors) number)
    → slot ≡ None → IsDecoded None (SpellsPending g sectors number)
pending_unread g sectors number slot read none x = (λ e. absurd cc, λ d. let there : slot ≡ Some d.0 = (read d.0).1 d.3 in absurd cc)

-- an idle journal has none
pub pending_idle : (g : Geom) (sectors : List Sector) (number : ℕ) (slot : Option Slot) (s : Slot) → IsDecoded slot (SpellsSlot g (slice_get sectors) number)
    → slot ≡ Some s → s.journal ≡ Idle → IsDecoded None (SpellsPending g sectors number)
pending_idle g sectors number slot s read some idle x = (
  λ e. absurd cc,
  λ d.
      let there : slot ≡ Some d.0 = (read d.0).1 d.3 in
      let same : s ≡ d.0 = cc in
      let journal : d.0.journal ≡ Idle = subst (λ (t : Slot). t.journal ≡ Idle) same idle in
      let committed : d.0.journal ≡ Committed d.1 d.2 = d.4 in
      absurd cc,
)

-- the index of a committed one
pub pending_committed : (g : Geom) (sectors : List Sector) (number : ℕ) (slot : Option Slot) (s : Slot) (txn count : ℕ) (index : Option Index)
    → IsDecoded slot (SpellsSlot g (slice_get sectors) number) → slot ≡ Some s → s.journal ≡ Committed txn count
    → IsDecoded index (IsIndexOf g sectors number s.generation txn count) → IsDecoded index (SpellsPending g sectors number)
pending_committed g sectors number slot s txn count index read some committed found x = (
  λ e. (s, txn, count, (read s).0 some, committed, (found x).0 e),
  λ d.
      let there : slot ≡ Some d.0 = (read d.0).1 d.3 in
      let same : d.0 ≡ s = cc in
      let journal : s.journal ≡ Committed d.1 d.2 = subst (λ (t : Slot). t.journal ≡ Committed d.1 d.2) same d.4 in
      let same_txn : d.1 ≡ txn = cc in
      let same_count : d.2 ≡ count = cc in
      let here = subst (λ (t : Slot). IsIndexOf g sectors number t.generation d.1 d.2 x) same d.5 in
      let of_txn = subst (λ (n : ℕ). IsIndexOf g sectors number s.generation n d.2 x) same_txn here in
      let of_count = subst (λ (n : ℕ). IsIndexOf g sectors number s.generation txn n x) same_count of_txn in
      (found x).1 of_count,
)

-- a sector that spells no header has no owner
pub owner_unread : (g : Geom) (look : Look) (object : ℕ) (r : Option Header) → IsDecoded r (SpellsHeader g look object) → r ≡ None
    → IsDecoded None (SpellsOwner g look object)
owner_unread g look object r read none x = (λ e. absurd cc, λ d. let there : r ≡ Some d.0 = (read d.0).1 d.1 in absurd cc)

-- the owner in a header
pub owner_read : (g : Geom) (look : Look) (object : ℕ) (r : Option Header) (h : Header) → IsDecoded r (SpellsHeader g look object) → r ≡ Some h
    → IsDecoded (Some h.owner) (SpellsOwner g look object)
owner_read g look object r h read some x = (
  λ e. (h, (read h).0 some, let same : h.owner ≡ x = cc in same),
  λ d.
      let there : r ≡ Some d.0 = (read d.0).1 d.1 in
      let same : h ≡ d.0 = cc in
      ap Some (ap (λ (t : Header). t.owner) same ∙ d.2),
)
