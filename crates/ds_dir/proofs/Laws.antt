-- What layers above rest on of sub-blocks and their sectors.
use Rattle.std.proofs.Common.{Bool, Decides, ◌≡◌, ℕ, List, [], ◌∷◌, get_or, replicate, slice_get, Option, Some, None, Contains, refl, sym, ap, ◌∙◌}
use Rattle.std.proofs.lemmas.List.Elements.{All-cons, All-nil, All-contains}
use Rattle.std.proofs.lemmas.Slice.Eq.{slice_eq-Decides}
use Rattle.std.specs.Cmp.Lexicographic.{pointwise}
use Rattle.std.specs.Option.{option_eq}
use Rattle.std.proofs.lemmas.Option.{get_or_from_slice_get, slice_get_within}
use Rattle.ds_bytes.specs.Fields.{zeros}
use Rattle.ds_dir.specs.SubBlock.{IsEntry, IsRoom, IsSubBlock, room_bytes, sub_bytes}
use Rattle.ds_dir.specs.declared.sub_block.Entry.{Entry}
use Rattle.ds_dir.specs.declared.sub_block.SubBlock.{SubBlock}
use Rattle.ds_dir.proofs.FourRooms.{FourRooms, four_rooms}
use Rattle.ds_dir.proofs.Rooms.{room_same}

same_rooms : (bytes : List ℕ) (xs ys : List (Option Entry)) → FourRooms bytes xs → FourRooms bytes ys → xs ≡ ys
same_rooms bytes xs ys p q =
    let first : p.first ≡ q.first = room_same p.first q.first p.is_first q.is_first (sym p.first_bytes ∙ q.first_bytes) in
    let second : p.second ≡ q.second = room_same p.second q.second p.is_second q.is_second (sym p.second_bytes ∙ q.second_bytes) in
    let third : p.third ≡ q.third = room_same p.third q.third p.is_third q.is_third (sym p.third_bytes ∙ q.third_bytes) in
    let fourth : p.fourth ≡ q.fourth = room_same p.fourth q.fourth p.is_fourth q.is_fourth (sym p.fourth_bytes ∙ q.fourth_bytes) in
    let all : p.first ∷ p.second ∷ p.third ∷ p.fourth ∷ [] ≡ q.first ∷ q.second ∷ q.third ∷ q.fourth ∷ [] = rw (first, second, third, fourth) refl in
    p.are_all ∙ all ∙ sym q.are_all

-- two sub-blocks that are spelled alike are one
pub sub_same : (a b : SubBlock) → IsSubBlock a → IsSubBlock b → sub_bytes a ≡ sub_bytes b → a ≡ b
sub_same a b h k e =
    let made : List (Option Entry) → SubBlock = λ rooms. record { rooms = rooms } in
    ap made (same_rooms (sub_bytes a) a.rooms b.rooms (four_rooms (sub_bytes a) a h refl) (four_rooms (sub_bytes a) b k e))

-- the sub-block with no entry
abbrev pub empty_sub : SubBlock
empty_sub = record { rooms = None ∷ None ∷ None ∷ None ∷ [] }

-- its sector is all zero
pub sub_bytes-empty : sub_bytes empty_sub ≡ replicate 512 0
unfolding sub_bytes room_bytes zeros
sub_bytes-empty = refl

pub IsSubBlock-empty : IsSubBlock empty_sub
IsSubBlock-empty =
    let none : IsRoom None = tt in
    record { four = refl; are_rooms = All-cons IsRoom None (None ∷ None ∷ None ∷ []) none (All-cons IsRoom None (None ∷ None ∷ []) none (All-cons IsRoom None (None ∷ []) none (All-cons IsRoom None [] none (All-nil IsRoom)))) }

-- an entry of a sub-block has a name and a birth in its range
pub IsEntry-contained : (b : SubBlock) (e : Entry) → IsSubBlock b → Contains b.rooms (Some e) → IsEntry e
IsEntry-contained b e h found = All-contains IsRoom b.rooms (Some e) h.are_rooms found

pub IsEntry-room : (b : SubBlock) (e : Entry) (i : ℕ) → IsSubBlock b → slice_get b.rooms i ≡ Some (Some e) → IsEntry e
IsEntry-room b e i h found =
    let item : get_or b.rooms i None ≡ Some e = get_or_from_slice_get b.rooms i (Some e) None found in
    rw item at (h.are_rooms i None (slice_get_within b.rooms i (Some e) found))

option_eq-Decides : {X : Type 0} {E : X → X → Bool} → ((a b : X) → Decides (E a b) (a ≡ b)) → (o p : Option X) → Decides (option_eq E o p) (o ≡ p)
option_eq-Decides each None None = (λ e. refl, λ e. refl)
option_eq-Decides each None (Some y) = (λ e. absurd (cc), λ e. absurd (cc))
option_eq-Decides each (Some x) None = (λ e. absurd (cc), λ e. absurd (cc))
option_eq-Decides each (Some x) (Some y) =
    let item = each x y in
    (λ e. ap Some (item.0 e), λ e. item.1 (let same : x ≡ y = cc in same))

-- `==` of sub-blocks, where `==` of entries decides `≡`
pub sub_eq : {E : Entry → Entry → Bool} → ((a b : Entry) → Decides (E a b) (a ≡ b)) → (a b : SubBlock) (r : Bool) → r ≡ pointwise (option_eq E) a.rooms b.rooms → Decides r (a ≡ b)
sub_eq each a b r e =
    let rooms = slice_eq-Decides (option_eq-Decides each) a.rooms b.rooms r e in
    let made : List (Option Entry) → SubBlock = λ rooms. record { rooms = rooms } in
    (λ h. ap made (rooms.0 h), λ h. rooms.1 (ap (λ (s : SubBlock). s.rooms) h))
