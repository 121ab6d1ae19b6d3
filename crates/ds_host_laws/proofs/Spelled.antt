-- A sector that spells a header or a slot spells it to each reader, whatever bytes its host has.
use Rattle.std.proofs.Common.{◌≡◌, ℕ, zero, suc, ◌+◌, ◌-◌, ◌*◌, ◌/◌, ◌%◌, ◌^◌, ◌<◌, Bool, true, cond, ◌&&◌, List, []}
use Rattle.std.proofs.Common.{◌∷◌, ◌++◌, length, take, drop, replicate, Option, Some, None, refl, sym, ap, subst, ◌∙◌, append_assoc, arith}
use Rattle.std.specs.Prelude.{◌==◌, nat_le, nat_lt}
use Rattle.std.specs.Str.{bytes_eq}
use Rattle.std.proofs.Math.Nat.{pow-suc}
use Rattle.std.proofs.Math.Seq.{drop-append_seam, take-append_seam}
use Rattle.std.proofs.lemmas.List.{drop-drop}
use Rattle.std.proofs.lemmas.Slice.Eq.{bytes_eq-Decides}
use Rattle.ds_bytes.specs.Fields.{Field, FieldFits, FieldsFit, Num, Nums, Raw, field_bytes}
use Rattle.ds_bytes.specs.Fields.{field_size, front, little, padded, spelled, zeros}
use Rattle.ds_bytes.proofs.Fronts.{front-padded}
use Rattle.ds_bytes.proofs.SameFields.{joined, length-field_bytes, length-spelled, spelled-joined}
use Rattle.ds_marks.proofs.Deciding.{both, decides_count, decides_eq, decides_le, decides_lt}
use Rattle.ds_marks.proofs.Headers.{header_fields_fit, names_header}
use Rattle.ds_marks.proofs.Slots.{names_slot, slot_fields_fit}
use Rattle.ds_marks.specs.Header as headers
use Rattle.ds_marks.specs.HeaderIn.{header_in, header_parts_in, header_spelled_by, is_header, is_owner}
use Rattle.ds_marks.specs.HeaderParts as header_parts
use Rattle.ds_marks.specs.Pieces.{number_at, number_of, piece_at}
use Rattle.ds_marks.specs.Slot as slots
use Rattle.ds_marks.specs.SlotIn.{fits_journal, fits_state, is_count, is_idle, is_slot, parts_in, slot_in, spelled_by}
use Rattle.ds_marks.specs.SlotParts as slot_parts
use Rattle.ds_marks.specs.declared.header.Header.{Header}
use Rattle.ds_marks.specs.declared.header.Owner.{Owner}
use Rattle.ds_marks.specs.declared.slot.Journal.{Journal}
use Rattle.ds_marks.specs.declared.slot.Journal.TheVariants.{Idle, Committed}
use Rattle.ds_marks.specs.declared.slot.Slot.{Slot}
use Rattle.ds_marks.specs.declared.slot.SlotState.{SlotState}
use Rattle.ds_marks.specs.declared.slot.SlotState.TheVariants.{Free, Live, Breaking}

-- a number is read as it is spelled
number-little : (n x : ℕ) → x < 256 ^ n → number_of (little n x) ≡ x
unfolding little
number-little zero x below = omega arith
number-little (suc n) x below =
    let bound : x < 256 ^ n * 256 = omega (arith, pow-suc 256 n) in
    let rest : number_of (little n (x / 256)) ≡ x / 256 = number-little n (x / 256) (omega arith) in
    rw rest (let e : x % 256 + 256 * (x / 256) ≡ x = omega arith in e)

-- a field like this one, as it is read at an offset
abbrev read_field : ℕ → Field → List ℕ → Field
read_field at (Num n x) bytes = Num n (number_at at n bytes)
read_field at (Raw n xs) bytes = Raw n (piece_at at n bytes)
read_field at (Nums n k xs) bytes = Nums n k xs

abbrev read_fields : ℕ → List Field → List ℕ → List Field
read_fields at [] bytes = []
read_fields at (f ∷ fs) bytes = read_field at f bytes ∷ read_fields (at + field_size f) fs bytes

piece-here : (at n : ℕ) (bytes piece rest : List ℕ) → length piece ≡ n → drop at bytes ≡ piece ++ rest → piece_at at n bytes ≡ piece
piece-here at n bytes piece rest size here =
    ap (take n) here ∙ (ap (λ k. take k (piece ++ rest)) (sym size) ∙ take-append_seam piece rest)

field-again : (at : ℕ) (bytes rest : List ℕ) (f : Field) → FieldFits f → drop at bytes ≡ field_bytes f ++ rest → read_field at f bytes ≡ f
field-again at bytes rest (Num n x) fits here =
    ap (Num n) (ap number_of (piece-here at n bytes (little n x) rest (length-field_bytes (Num n x) fits) here) ∙ number-little n x fits)
field-again at bytes rest (Raw n xs) fits here = ap (Raw n) (piece-here at n bytes xs rest fits here)
field-again at bytes rest (Nums n k xs) fits here = refl

-- fields are read as they are spelled
fields-again : (at : ℕ) (bytes rest : List ℕ) (fs : List Field) → FieldsFit fs → drop at bytes ≡ joined fs ++ rest
    → read_fields at fs bytes ≡ fs
fields-again at bytes rest [] fits here = refl
fields-again at bytes rest (f ∷ fs) fits here =
    let stand : drop at bytes ≡ field_bytes f ++ (joined fs ++ rest) = here ∙ append_assoc (field_bytes f) (joined fs) rest in
    let behind : drop (at + field_size f) bytes ≡ joined fs ++ rest =
    sym (drop-drop (field_size f) at bytes) ∙ (ap (drop (field_size f)) stand
    ∙ (ap (λ k. drop k (field_bytes f ++ (joined fs ++ rest))) (sym (length-field_bytes f fits.0))
    ∙ drop-append_seam (field_bytes f) (joined fs ++ rest))) in
    ap (λ g. g ∷ read_fields (at + field_size f) fs bytes) (field-again at bytes (joined fs ++ rest) f fits.0 stand)
    ∙ ap (λ gs. f ∷ gs) (fields-again (at + field_size f) bytes rest fs fits.1 behind)

padded-again : (fs : List Field) → FieldsFit fs → read_fields 0 fs (padded (spelled fs)) ≡ fs
unfolding padded
padded-again fs fits = fields-again 0 (spelled fs ++ zeros (512 - length (spelled fs))) (zeros (512 - length (spelled fs))) fs fits
    (ap (λ bytes. bytes ++ zeros (512 - length (spelled fs))) (spelled-joined fs))

owner-passes : (o : Option Owner) → headers.HasOwnerWidths o → headers.IsOwner o → is_owner o ≡ true
owner-passes None widths range = refl
owner-passes (Some o) widths range =
    both (nat_lt o.slot 256 && (length o.host == 16)) (is_count o.generation)
    (both (nat_lt o.slot 256) (length o.host == 16) ((decides_lt o.slot 256).1 widths.0) ((decides_eq (length o.host) 16).1 widths.1))
    ((decides_count o.generation).1 (range.0, range.1))

header-passes : (h : Header) → headers.IsHeader h → is_header h ≡ true
header-passes h is =
    both (nat_lt h.object (2 ^ 32) && nat_le h.generation (2 ^ 62)) (is_owner h.owner)
    (both (nat_lt h.object (2 ^ 32)) (nat_le h.generation (2 ^ 62)) ((decides_lt h.object (2 ^ 32)).1 is.widths.object_fits)
    ((decides_le h.generation (2 ^ 62)).1 is.ranges.generation_to))
    (owner-passes h.owner is.widths.owner_fits is.ranges.is_owner)

header-parts : (h : Header) → headers.IsHeader h
    → header_parts.part_fields (header_parts_in (headers.header_bytes h)) ≡ headers.header_fields h
unfolding headers.header_bytes
header-parts h is = padded-again (headers.header_fields h) (header_fields_fit h is)

header-front : (h : Header) → headers.IsHeader h → front 48 (headers.header_bytes h) ≡ spelled (headers.header_fields h)
unfolding headers.header_bytes
header-front h is =
    front-padded 48 (spelled (headers.header_fields h)) (length-spelled (headers.header_fields h) (header_fields_fit h is))

-- the sector of a header spells it
pub header-again : (h : Header) → headers.IsHeader h → header_in (headers.header_bytes h) ≡ Some h
unfolding header_in
header-again h is =
    let bytes : List ℕ = headers.header_bytes h in
    let parts = header-parts h is in
    let named = names_header bytes (header_parts_in bytes) h (subst FieldsFit (sym parts) (header_fields_fit h is)) is
    (header-front h is ∙ ap spelled (sym parts)) refl in
    let passes = both (is_header h) (bytes_eq bytes bytes) (header-passes h is) ((bytes_eq-Decides bytes bytes).1 refl) in
    ap (header_spelled_by bytes) named ∙ ap (λ (b : Bool). cond b (Some h) None) passes

state-passes : (t : SlotState) (s : Slot) → slots.IsOfState t s → fits_state t s ≡ true
state-passes Free s is =
    both (bytes_eq s.host (replicate 16 0) && (s.stamp == 0)) (is_idle s.journal)
    (both (bytes_eq s.host (replicate 16 0)) (s.stamp == 0) ((bytes_eq-Decides s.host (replicate 16 0)).1 is.0)
    ((decides_eq s.stamp 0).1 is.1)) (ap is_idle is.2)
state-passes Live s is = (decides_count s.stamp).1 (is.0, is.1)
state-passes (Breaking by' generation) s is =
    both (is_count s.stamp && nat_lt by' 16) (is_count generation)
    (both (is_count s.stamp) (nat_lt by' 16) ((decides_count s.stamp).1 (is.0.0, is.0.1)) ((decides_lt by' 16).1 is.1.0))
    ((decides_count generation).1 (is.1.1, is.1.2))

journal-passes : (j : Journal) → slots.IsOfJournal j → slots.txn_of j < 2 ^ 64 → fits_journal j ≡ true
journal-passes Idle is below = refl
journal-passes (Committed txn count) is below =
    both (nat_le 1 txn && nat_lt txn (2 ^ 64) && nat_le 1 count) (nat_le count 31)
    (both (nat_le 1 txn && nat_lt txn (2 ^ 64)) (nat_le 1 count)
    (both (nat_le 1 txn) (nat_lt txn (2 ^ 64)) ((decides_le 1 txn).1 is.0) ((decides_lt txn (2 ^ 64)).1 below))
    ((decides_le 1 count).1 is.1))
    ((decides_le count 31).1 is.2)

slot-passes : (s : Slot) → slots.IsSlot s → is_slot s ≡ true
slot-passes s is =
    both ((length s.host == 16) && is_count s.generation && fits_state s.state s) (fits_journal s.journal)
    (both ((length s.host == 16) && is_count s.generation) (fits_state s.state s)
    (both (length s.host == 16) (is_count s.generation) ((decides_eq (length s.host) 16).1 is.widths.host_size)
    ((decides_count s.generation).1 (is.ranges.generation_from, is.ranges.generation_to)))
    (state-passes s.state s is.ranges.is_of_state))
    (journal-passes s.journal is.ranges.is_of_journal is.widths.txn_fits)

slot-parts : (number : ℕ) (s : Slot) → number < 256 → slots.IsSlot s
    → slot_parts.part_fields (parts_in (slots.slot_bytes number s)) ≡ slots.slot_fields number s
unfolding slots.slot_bytes
slot-parts number s small is = padded-again (slots.slot_fields number s) (slot_fields_fit number s small is)

slot-front : (number : ℕ) (s : Slot) → number < 256 → slots.IsSlot s
    → front 60 (slots.slot_bytes number s) ≡ spelled (slots.slot_fields number s)
unfolding slots.slot_bytes
slot-front number s small is =
    front-padded 60 (spelled (slots.slot_fields number s))
    (length-spelled (slots.slot_fields number s) (slot_fields_fit number s small is))

-- the sector of a slot spells it
pub slot-again : (number : ℕ) (s : Slot) → number < 256 → slots.IsSlot s → slot_in number (slots.slot_bytes number s) ≡ Some s
unfolding slot_in
slot-again number s small is =
    let bytes : List ℕ = slots.slot_bytes number s in
    let parts = slot-parts number s small is in
    let named = names_slot number bytes (parts_in bytes) s small (subst FieldsFit (sym parts) (slot_fields_fit number s small is)) is
    (slot-front number s small is ∙ ap spelled (sym parts)) refl in
    let passes = both (is_slot s) (bytes_eq bytes bytes) (slot-passes s is) ((bytes_eq-Decides bytes bytes).1 refl) in
    ap (spelled_by number bytes) named ∙ ap (λ (b : Bool). cond b (Some s) None) passes
