-- Where nothing is found in front of the logical image, no sector is bad.
use Rattle.std.proofs.Common.{◌≡◌, ℕ, ◌<◌, Bool, true, false, ◌&&◌, is_none, List, [], ◌∷◌, ◌++◌, length, slice_get, Option, Some, None, inl, inr, refl, sym, ap, ◌∙◌, subst, arith}
use Rattle.ds_base.specs.Geometry.{clusters_of, items_of}
use Rattle.ds_base.specs.declared.geometry.Geom.{Geom}
use Rattle.ds_base.specs.declared.geometry.Kind.{Kind}
use Rattle.ds_base.specs.declared.geometry.Kind.TheVariants.{Fd, Sb, Pb, Fb}
use Rattle.ds_base.specs.declared.sectors.Sector.{Sector}
use Rattle.ds_jrnl.specs.declared.index.Index.{Index}
use Rattle.ds_layout.specs.Places.{IsLock, IsPlace}
use Rattle.ds_layout.specs.declared.places.Place.{Place}
use Rattle.ds_layout.specs.declared.places.Place.TheVariants as places
use Rattle.ds_marks.specs.declared.header.Owner.{Owner}
use Rattle.ds_marks.specs.declared.slot.Slot.{Slot}
use Rattle.ds_marks.specs.declared.slot.Journal.TheVariants.{Committed}
use Rattle.ds_image_parts.specs.BadSectors.{HasBadIndex, IsBadPlace, HasNoBad}
use Rattle.ds_image_parts.specs.Parts.{part_at}
use Rattle.ds_image_parts.specs.Pending.{IsIndexOf}
use Rattle.ds_image_parts.specs.Readings.{SpellsSlot, IsReading}
use Rattle.ds_check.specs.declared.findings.Find.{Find}
use Rattle.ds_check.specs.Controls.{Controls, owners_of, SpellsOwner, SpellsCluster, SpellsPending, ReadsControls}
use Rattle.ds_check.specs.Findings.{AreFoundInFront}
use Rattle.ds_check.specs.Journals.{has_pairs, is_committed, journal_form, unindexed, overlaid, journals_stage}
use Rattle.ds_check.specs.Headers.{info_form, slot_form, cluster_form, descriptor_form, unformed, misowned, headers_stage}
use Rattle.ds_check.specs.Breakers.{misbroken}
use Rattle.ds_check.specs.Rows.{row, row_of_kinds, first_found}
use Rattle.ds_check.proofs.NoFinds.{both-none, not-found, row-none}

-- what is there
there : {V : Type 0} (r : Option V) → is_none r ≡ false → (v : V) × (r ≡ Some v)
there None some = absurd (cc)
there (Some v) some = (v, refl)

-- a part of a reading that is there is spelled
part_spelled : {V : Type 0} (n : ℕ) (Spells : ℕ → V → Type 0) (parts : List (Option V)) (i : ℕ) → IsReading n Spells parts → i < n → is_none (part_at parts i) ≡ false
    → (v : V) × Spells i v
part_spelled n Spells parts i read within some =
    let part = there (part_at parts i) some in
    (part.0, (read.each i within part.0).0 part.1)

-- two stages without findings
both_stages : (a b : List Find) → first_found (a ∷ b ∷ []) ≡ [] → (a ≡ []) × (b ≡ [])
both_stages [] [] none = (refl, refl)
both_stages [] (find ∷ finds) none = absurd (cc)
both_stages (find ∷ finds) b none = absurd (cc)

second_false : (a b : Bool) → (a && b) ≡ false → a ≡ true → b ≡ false
second_false true b none is = none
second_false false b none is = absurd (cc)

-- no kind has findings where all have none
pub each_kind : (each : Kind → List Find) (kind : Kind) → row_of_kinds each ≡ [] → each kind ≡ []
each_kind each Fd none = (both-none (each Fd) _ none).0
each_kind each Sb none = (both-none (each Sb) _ (both-none (each Fd) _ none).1).0
each_kind each Pb none = (both-none (each Pb) _ (both-none (each Sb) _ (both-none (each Fd) _ none).1).1).0
each_kind each Fb none = (both-none (each Fb) _ (both-none (each Pb) _ (both-none (each Sb) _ (both-none (each Fd) _ none).1).1).1).0

-- what is not found in front
record NoneFound (g : Geom) (c : Controls) : Type 0 where
  slots : row g.slots (slot_form g c) ≡ []
  clusters : (kind : Kind) → row (clusters_of g kind) (cluster_form g c kind) ≡ []
  descriptors : row (items_of g Fd) (descriptor_form g c) ≡ []
  journals : unindexed g c ≡ []

none_found : (g : Geom) (id : List ℕ) (c : Controls) → headers_stage g id c ≡ [] → journals_stage g c ≡ [] → NoneFound g c
none_found g id c marks journals =
    let slots = row g.slots (slot_form g c) in
    let clusters = row_of_kinds (λ kind. row (clusters_of g kind) (cluster_form g c kind)) in
    let descriptors = row (items_of g Fd) (descriptor_form g c) in
    let forms = both-none (unformed g id c) (misowned g c) (both-none (unformed g id c ++ misowned g c) (misbroken g c) marks).0 in
    let before = both-none ((info_form g id c ++ slots) ++ clusters) descriptors forms.0 in
    let headers = both-none (info_form g id c ++ slots) clusters before.0 in
    record {
      slots = (both-none (info_form g id c) slots headers.0).1;
      clusters = λ kind. each_kind (λ kind. row (clusters_of g kind) (cluster_form g c kind)) kind headers.1;
      descriptors = before.1;
      journals = (both-none (unindexed g c) (overlaid g c) journals).0;
    }

slot_good : (g : Geom) (sectors : List Sector) (c : Controls) (n : ℕ) → ReadsControls g sectors c → NoneFound g c → n < g.slots → (s : Slot) × SpellsSlot g (slice_get sectors) n s
slot_good g sectors c n reads none within =
    part_spelled g.slots (SpellsSlot g (slice_get sectors)) c.slots n reads.slots within (not-found (is_none (part_at c.slots n)) _ (row-none g.slots (slot_form g c) none.slots n within))

owner_good : (g : Geom) (sectors : List Sector) (c : Controls) (object : ℕ) → ReadsControls g sectors c → NoneFound g c → IsLock g object
    → (owner : Option Owner) × SpellsOwner g (slice_get sectors) object owner
owner_good g sectors c object reads none (inl within) =
    part_spelled (items_of g Fd) (SpellsOwner g (slice_get sectors)) c.descriptors object reads.descriptors within
    (not-found (is_none (part_at c.descriptors object)) _ (row-none (items_of g Fd) (descriptor_form g c) none.descriptors object within))
owner_good g sectors c object reads none (inr lock) =
    let owner = part_spelled (clusters_of g lock.kind) (SpellsCluster g (slice_get sectors) lock.kind) (owners_of c lock.kind) lock.cluster (reads.clusters lock.kind) lock.within
    (not-found (is_none (part_at (owners_of c lock.kind) lock.cluster)) _ (row-none (clusters_of g lock.kind) (cluster_form g c lock.kind) (none.clusters lock.kind) lock.cluster lock.within)) in
    (owner.0, subst (λ o. SpellsOwner g (slice_get sectors) o owner.0) (sym lock.number) owner.1)

is_pending : (r : Option Slot) (s : Slot) (txn count : ℕ) → r ≡ Some s → s.journal ≡ Committed txn count → is_committed r ≡ true
is_pending r s txn count there committed = ap is_committed there ∙ ap has_pairs committed

-- the index of one slot in one transaction
same_index : (g : Geom) (sectors : List Sector) (n : ℕ) (s other : Slot) (txn other_txn count other_count : ℕ) (x : Index) → s ≡ other
    → s.journal ≡ Committed txn count → other.journal ≡ Committed other_txn other_count → IsIndexOf g sectors n s.generation txn count x
    → IsIndexOf g sectors n other.generation other_txn other_count x
same_index g sectors n s other txn other_txn count other_count x same journal other_journal is =
    let journals : s.journal ≡ other.journal = ap (λ (z : Slot). z.journal) same in
    let same_txn : txn ≡ other_txn = cc in
    let same_count : count ≡ other_count = cc in
    subst (λ k. IsIndexOf g sectors n other.generation other_txn k x) same_count
    (subst (λ t. IsIndexOf g sectors n other.generation t count x) same_txn (subst (λ (z : Slot). IsIndexOf g sectors n z.generation txn count x) same is))

index_good : (g : Geom) (sectors : List Sector) (c : Controls) (n : ℕ) → ReadsControls g sectors c → NoneFound g c → n < g.slots → ¬ HasBadIndex g sectors n
index_good g sectors c n reads none within bad =
    let slot : part_at c.slots n ≡ Some bad.slot = (reads.slots.each n within bad.slot).1 bad.spelled in
    let form = not-found (is_committed (part_at c.slots n) && is_none (part_at c.pending n)) _ (row-none g.slots (journal_form c) none.journals n within) in
    let index = part_spelled g.slots (SpellsPending g sectors) c.pending n reads.pending within (second_false _ _ form (is_pending _ bad.slot bad.txn bad.count slot bad.committed)) in
    let other : part_at c.slots n ≡ Some index.1.0 = (reads.slots.each n within index.1.0).1 index.1.3 in
    let same_slot : index.1.0 ≡ bad.slot = cc in
    bad.no_index index.0
    (same_index g sectors n index.1.0 bad.slot index.1.1 bad.txn index.1.2 bad.count index.0 same_slot index.1.4 bad.committed index.1.5)

good_place : (g : Geom) (sectors : List Sector) (c : Controls) (place : Place) → ReadsControls g sectors c → NoneFound g c → IsPlace g place → ¬ IsBadPlace g sectors place
good_place g sectors c (places.Slot n) reads none within bad = let slot = slot_good g sectors c n reads none within in bad slot.0 slot.1
good_place g sectors c (places.Header object) reads none lock bad = let owner = owner_good g sectors c object reads none lock in bad owner.1.0 owner.1.1
good_place g sectors c (places.Journal n index) reads none within bad = index_good g sectors c n reads none within.0 bad.1
good_place g sectors c places.VolInfo reads none within bad = bad
good_place g sectors c places.FsInfo reads none within bad = bad
good_place g sectors c (places.Bitmap kind cluster) reads none within bad = bad
good_place g sectors c (places.Body object) reads none within bad = bad
good_place g sectors c (places.SubBlock n) reads none within bad = bad
good_place g sectors c (places.PtrBlock n) reads none within bad = bad
good_place g sectors c (places.Block block index) reads none within bad = bad

pub nothing : (finds : List Find) → length finds ≡ 0 → finds ≡ []
nothing [] none = refl
nothing (find ∷ finds) none = absurd (omega arith)

pub no_bad : (g : Geom) (id : List ℕ) (sectors : List Sector) (finds : List Find) → AreFoundInFront g id sectors finds → length finds ≡ 0 → HasNoBad g sectors
no_bad g id sectors finds front none at bad =
    let stages = both_stages (headers_stage g id front.controls) (journals_stage g front.controls) (sym front.found ∙ nothing finds none) in
    good_place g sectors front.controls bad.place front.reads (none_found g id front.controls stages.0 stages.1) bad.is_place bad.bad
