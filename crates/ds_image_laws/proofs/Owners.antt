-- A lock object is of one slot at most, and stays its where neither header nor slot is written.
use Rattle.std.proofs.Common.{◌≡◌, ◌≢◌, ℕ, ◌<◌, ◌⊎◌, inl, inr, List, Some, slice_get, slice_set, refl, sym, ap, ◌∙◌}
use Rattle.std.proofs.lemmas.Bool.{cases_eq}
use Rattle.std.proofs.lemmas.Option.{same_Some}
use Rattle.ds_base.specs.Decoding.{IsDecoded}
use Rattle.ds_base.specs.Geometry.{IsGeom}
use Rattle.ds_base.specs.declared.geometry.Geom.{Geom}
use Rattle.ds_base.specs.declared.sectors.Sector.{Sector}
use Rattle.ds_layout.specs.Places.{IsPlace, place_sector}
use Rattle.ds_layout.specs.declared.places.Place.{Place}
use Rattle.ds_layout.specs.declared.places.Place.TheVariants as places
use Rattle.ds_marks.proofs.Headers.{header_same}
use Rattle.ds_marks.specs.Header.{header_bytes}
use Rattle.ds_marks.specs.declared.header.Header.{Header}
use Rattle.ds_marks.specs.declared.header.Owner.{Owner}
use Rattle.ds_marks.specs.declared.slot.Slot.{Slot}
use Rattle.ds_image_parts.specs.Looks.{Look}
use Rattle.ds_image_parts.specs.Readings.{SpellsHeader, SpellsSlot}
use Rattle.ds_image.proofs.NewVolumes.FreshVolume.{same_bytes}
use Rattle.ds_image_laws.specs.Owners.{Names}
use Rattle.ds_image_laws.proofs.KeptPending.{place-kept}
use Rattle.ds_image.proofs.SameSectors.{has-same, slot-as}
use Rattle.ds_image_laws.proofs.Apart.{AreOwnersApart}

pub header-once : (g : Geom) (look : Look) (object : ℕ) (a b : Header) → SpellsHeader g look object a → SpellsHeader g look object b → a ≡ b
header-once g look object a b one two =
    header_same a b one.1 two.1 (same_bytes look (place_sector g (places.Header object)) (header_bytes a) (header_bytes b) one.2 two.2)

pub owners-apart : (g : Geom) (sectors : List Sector) → AreOwnersApart (Names g sectors)
owners-apart g sectors one other object a b =
    let header : a.header ≡ b.header = header-once g (slice_get sectors) object a.header b.header a.spells b.spells in
    let owner : a.owner ≡ b.owner = same_Some a.owner b.owner (sym a.owned ∙ ap (λ (h : Header). h.owner) header ∙ b.owned) in
    sym a.same_slot ∙ ap (λ (o : Owner). o.slot) owner ∙ b.same_slot

module _ (g : Geom) (is : IsGeom g) (sectors : List Sector) (place : Place) (inside : IsPlace g place) (s : Sector) where
  abbrev after : List Sector
  after = slice_set sectors (place_sector g place) s

  header-still : (object : ℕ) (h : Header) → IsPlace g (places.Header object) → places.Header object ≢ place → SpellsHeader g (slice_get sectors) object h
      → SpellsHeader g (slice_get after) object h
  header-still object h there apart spells = (
    spells.0,
    spells.1,
    has-same (slice_get sectors) (slice_get after) (place_sector g (places.Header object)) (header_bytes h)
        (place-kept g is sectors place inside s (places.Header object) there apart) spells.2,
  )

  -- neither is written
  pub names-kept : (number object : ℕ) → places.Slot number ≢ place → places.Header object ≢ place → Names g sectors number object → Names g after number object
  names-kept number object slot header names = record {
    is_lock = names.is_lock;
    is_slot = names.is_slot;
    header = names.header;
    spells = header-still object names.header names.is_lock header names.spells;
    slot = names.slot;
    spells_slot =
        slot-as g (slice_get sectors) (slice_get after) number (place-kept g is sectors place inside s (places.Slot number) names.is_slot slot) names.slot
        names.spells_slot;
    owner = names.owner;
    owned = names.owned;
    same_slot = names.same_slot;
    same_generation = names.same_generation;
  }

-- the slot is written in the same generation
pub names-renewed : (g : Geom) (is : IsGeom g) (sectors : List Sector) (number object : ℕ) (s : Sector) (old new : Slot) → number < g.slots
    → IsDecoded (Some old) (SpellsSlot g (slice_get sectors) number)
    → IsDecoded (Some new) (SpellsSlot g (slice_get (slice_set sectors (place_sector g (places.Slot number)) s)) number) → new.generation ≡ old.generation
    → Names g sectors number object → Names g (slice_set sectors (place_sector g (places.Slot number)) s) number object
names-renewed g is sectors number object s old new within was now same names =
    let one : old ≡ names.slot = same_Some old names.slot ((was names.slot).1 names.spells_slot) in
    record {
      is_lock = names.is_lock;
      is_slot = names.is_slot;
      header = names.header;
      spells = header-still g is sectors (places.Slot number) within s object names.header names.is_lock (λ e. absurd (cc)) names.spells;
      slot = new;
      spells_slot = (now new).0 refl;
      owner = names.owner;
      owned = names.owned;
      same_slot = names.same_slot;
      same_generation = names.same_generation ∙ ap (λ (x : Slot). x.generation) (sym one) ∙ sym same;
    }

-- whether a place is the header of an object
pub is_header-or : (place : Place) (object : ℕ) → (places.Header object ≡ place) ⊎ (places.Header object ≢ place)
is_header-or places.VolInfo object = inr (λ e. absurd (cc))
is_header-or places.FsInfo object = inr (λ e. absurd (cc))
is_header-or (places.Slot n) object = inr (λ e. absurd (cc))
is_header-or (places.Journal n i) object = inr (λ e. absurd (cc))
is_header-or (places.Header o) object = elim (cases_eq object o) [
  | inl same ↦ inl (ap places.Header same)
  | inr apart ↦ inr (λ e. apart (let same : object ≡ o = cc in same))
]
is_header-or (places.Bitmap kind c) object = inr (λ e. absurd (cc))
is_header-or (places.Body o) object = inr (λ e. absurd (cc))
is_header-or (places.SubBlock n) object = inr (λ e. absurd (cc))
is_header-or (places.PtrBlock n) object = inr (λ e. absurd (cc))
is_header-or (places.Block b i) object = inr (λ e. absurd (cc))
