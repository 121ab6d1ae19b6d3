-- A store has at most one logical image.
use Rattle.std.proofs.Common.{◌≡◌, ℕ, ◌<◌, List, [], length, map, get_or, slice_get, Option, Some, None, sym, ap, subst, ◌∙◌, arith}
use Rattle.std.proofs.lemmas.List.{length-map, get_or-map, same_lists, ext_get_or}
use Rattle.std.proofs.lemmas.Option.{slice_get-get_or, same_Some}
use Rattle.std.specs.List.{flat_map}
use Rattle.ds_base.specs.declared.geometry.Geom.{Geom}
use Rattle.ds_base.specs.declared.sectors.Sector.{Sector}
use Rattle.ds_jrnl.specs.Index.{index_bytes}
use Rattle.ds_jrnl.specs.declared.index.Index.{Index}
use Rattle.ds_jrnl.proofs.Indexes.{index_same}
use Rattle.ds_layout.specs.Places.{place_sector}
use Rattle.ds_layout.specs.declared.places.Place.TheVariants as places
use Rattle.ds_marks.specs.declared.slot.Slot.{Slot}
use Rattle.ds_marks.specs.declared.slot.Journal.{Journal}
use Rattle.ds_marks.specs.declared.slot.Journal.TheVariants.{Idle, Committed}
use Rattle.ds_image_parts.specs.Logical.{IsLogical, laid_over}
use Rattle.ds_image_parts.specs.Looks.{Look, HasBytes}
use Rattle.ds_layout.specs.Metadata.{front_of}
use Rattle.ds_image_parts.specs.Pending.{Pair, IsIndexOf, AreJournalled, AreOfJournal, AreOfSlot, ArePending}
use Rattle.ds_image_parts.specs.Readings.{SpellsSlot}
use Rattle.ds_image_parts.proofs.Spelling.Decoded.{decoded_same}

-- the bytes at a number are determined
bytes_once : (look : Look) (at : ℕ) (xs ys : List ℕ) → HasBytes look at xs → HasBytes look at ys → xs ≡ ys
bytes_once look at xs ys a b =
    let same : a.0 ≡ b.0 = same_Some a.0 b.0 (sym a.1 ∙ b.1) in
    sym a.2 ∙ ap (λ (s : Sector). s.bytes) same ∙ b.2

index_once : (g : Geom) (sectors : List Sector) (slot generation txn count : ℕ) (x y : Index)
    → IsIndexOf g sectors slot generation txn count x → IsIndexOf g sectors slot generation txn count y → x ≡ y
index_once g sectors slot generation txn count x y a b =
    index_same x y a.spelled.0 b.spelled.0
    (bytes_once (slice_get sectors) (place_sector g (places.Journal slot 31)) (index_bytes x) (index_bytes y) a.spelled.1 b.spelled.1)

pairs_once : (g : Geom) (sectors : List Sector) (slot : ℕ) (targets : List ℕ) (ps qs : List Pair)
    → AreJournalled g sectors slot targets ps → AreJournalled g sectors slot targets qs → ps ≡ qs
pairs_once g sectors slot targets ps qs a b =
    let numbers : map (λ (p : Pair). p.0) ps ≡ map (λ (p : Pair). p.0) qs = a.have_targets ∙ sym b.have_targets in
    let count : length ps ≡ length qs = sym (length-map ps (λ (p : Pair). p.0)) ∙ ap length numbers ∙ length-map qs (λ (p : Pair). p.0) in
    same_lists ps qs count
    (λ k d l.
    let p = get_or ps k d in
    let q = get_or qs k d in
    let number : p.0 ≡ q.0 =
    sym (get_or-map (λ (r : Pair). r.0) ps k d 0 l) ∙ ap (λ ns. get_or ns k 0) numbers ∙ get_or-map (λ (r : Pair). r.0) qs k d 0 (omega (arith, l, count)) in
    let sector : p.1 ≡ q.1 =
    same_Some p.1 q.1 (sym (a.have_sectors k p (slice_get-get_or ps k d l)) ∙ b.have_sectors k q (slice_get-get_or qs k d (omega (arith, l, count)))) in
    λ i. (number i, sector i))

of_journal_once : (g : Geom) (sectors : List Sector) (slot generation : ℕ) (j : Journal) (ps qs : List Pair)
    → AreOfJournal g sectors slot generation j ps → AreOfJournal g sectors slot generation j qs → ps ≡ qs
of_journal_once g sectors slot generation Idle ps qs a b = a ∙ sym b
of_journal_once g sectors slot generation (Committed txn count) ps qs a b =
    let same : a.0 ≡ b.0 = index_once g sectors slot generation txn count a.0 b.0 a.1 b.1 in
    pairs_once g sectors slot b.0.targets.items ps qs (subst (λ (x : Index). AreJournalled g sectors slot x.targets.items ps) same a.2) b.2

of_slot_once : (g : Geom) (sectors : List Sector) (number : ℕ) (r : Option Slot) (ps qs : List Pair) → AreOfSlot g sectors number r ps
    → AreOfSlot g sectors number r qs → ps ≡ qs
of_slot_once g sectors number None ps qs a b = a ∙ sym b
of_slot_once g sectors number (Some s) ps qs a b = of_journal_once g sectors number s.generation s.journal ps qs a b

-- the pending pairs of a slot are determined
pub pending_once : (g : Geom) (sectors : List Sector) (number : ℕ) (ps qs : List Pair) → ArePending g sectors number ps
    → ArePending g sectors number qs → ps ≡ qs
pending_once g sectors number ps qs a b =
    let same : a.slot ≡ b.slot = decoded_same a.slot b.slot (SpellsSlot g (slice_get sectors) number) a.decoded b.decoded in
    of_slot_once g sectors number b.slot ps qs (subst (λ (r : Option Slot). AreOfSlot g sectors number r ps) same a.of_slot) b.of_slot

pub logical_once : (g : Geom) (sectors a b : List Sector) → IsLogical g sectors a → IsLogical g sectors b → a ≡ b
logical_once g sectors a b p q =
    let same : p.pairs ≡ q.pairs =
    ext_get_or [] p.pairs q.pairs (p.all_pending.one_each ∙ sym q.all_pending.one_each)
    (λ n l.
    let inside : n < g.slots = omega (arith, l, p.all_pending.one_each) in
    pending_once g sectors n (get_or p.pairs n []) (get_or q.pairs n []) (p.all_pending.pending n inside) (q.all_pending.pending n inside)) in
    p.laid ∙ ap (λ pairs. laid_over (front_of g sectors) (flat_map (λ (list : List Pair). list) pairs)) same ∙ sym q.laid
