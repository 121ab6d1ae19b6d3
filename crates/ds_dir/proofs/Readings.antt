-- Every 512 bytes have a reading as a sub-block.
use Rattle.std.proofs.Common.{◌≡◌, ℕ, ◌+◌, ◌^◌, ◌≤◌, inl, List, [], ◌∷◌, ◌++◌, length, take, drop, Option, Some, None, refl, sym, ap, ◌∙◌, arith}
use Rattle.std.proofs.lemmas.List.{length-take-le, length-drop}
use Rattle.std.specs.List.{list_all}
use Rattle.ds_base.specs.Decoding.{IsDecoded}
use Rattle.ds_base.specs.Names.{IsName, is_name_byte}
use Rattle.ds_base.specs.declared.names.NodeKind.{NodeKind}
use Rattle.ds_bytes.specs.Fields.{front, AllBelow}
use Rattle.ds_bytes.proofs.Fronts.{front_none}
use Rattle.ds_bytes.proofs.Readings.{Decided, decided_eq, decided_le, decided_lt, decided_bytes, decided_true, decided_not, decided_all, decided_both, decided_same, reading_of, CanRead, number_at, piece_at, AllBelow-drop, AllBelow-take}
use Rattle.ds_bytes.specs.NodeKinds.{kind_of_code}
use Rattle.ds_dir.specs.SubBlock.{IsEntry, IsRoom, IsSubBlock, room_bytes, sub_bytes}
use Rattle.ds_dir.specs.declared.room.RoomParts.{RoomParts}
use Rattle.ds_dir.specs.declared.sub_block.Entry.{Entry}
use Rattle.ds_dir.specs.declared.sub_block.SubBlock.{SubBlock}
use Rattle.ds_dir.proofs.FourRooms.{four_rooms, four_same}
use Rattle.ds_dir.proofs.Rooms.{IsRead, kind_in, kind_named, named_free, named_used, same_entry}

-- what is read of a room, field by field
record PartsOf (bytes : List ℕ) : Type 0 where
  parts : RoomParts
  is_read : IsRead bytes parts

chained : (bytes a b c d e f : List ℕ) → front 1 bytes ≡ front 0 bytes ++ a → front 2 bytes ≡ front 1 bytes ++ b → front 4 bytes ≡ front 2 bytes ++ c → front 8 bytes ≡ front 4 bytes ++ d → front 16 bytes ≡ front 8 bytes ++ e → front 128 bytes ≡ front 16 bytes ++ f → front 128 bytes ≡ a ++ b ++ c ++ d ++ e ++ f
chained bytes a b c d e f p q r s t u = rw (u, t, s, r, q, p, front_none bytes) refl

parts_of : (bytes : List ℕ) → length bytes ≡ 128 → AllBelow 256 bytes → PartsOf bytes
parts_of bytes len below =
    let can : (at n : ℕ) → at + n ≤ 128 → CanRead at n bytes = λ at n h. record { within = omega arith; are_bytes = below } in
    let kind = number_at 0 1 bytes (can 0 1 (omega arith)) in
    let count = number_at 1 1 bytes (can 1 1 (omega arith)) in
    let gap = piece_at 2 2 bytes (can 2 2 (omega arith)) in
    let object = number_at 4 4 bytes (can 4 4 (omega arith)) in
    let birth = number_at 8 8 bytes (can 8 8 (omega arith)) in
    let name = piece_at 16 112 bytes (can 16 112 (omega arith)) in
    record {
      parts = record { kind = kind.value; length = count.value; gap = gap.items; object = object.value; birth = birth.value; name = name.items };
      is_read = record {
        size = len;
        parts = chained bytes _ _ _ _ _ _ kind.read count.read gap.read object.read birth.read name.read;
        fits = (kind.below, (count.below, (gap.size, (object.below, (birth.below, (name.size, tt))))));
      };
    }

-- the room that was read, where its kind is one
abbrev room_of : Option (Option NodeKind) → RoomParts → Option (Option Entry)
room_of None p = None
room_of (Some None) p = Some None
room_of (Some (Some kind)) p =
    Some (Some (record { name = take p.length p.name; key = record { object = p.object; birth = p.birth }; kind = kind }))

room_of_kind : (bytes : List ℕ) (p : RoomParts) (room : Option Entry) (kind : Option NodeKind) → IsRead bytes p → IsRoom room → bytes ≡ room_bytes room → kind_in room ≡ kind → room_of (Some kind) p ≡ Some room
room_of_kind bytes p room None r h b e = ap Some (sym (named_free room e))
room_of_kind bytes p room (Some kind) r h b e =
    let u = named_used bytes p room kind r e h b in
    let held = u.holds in
    ap Some (ap Some (same_entry u.entry (take p.length p.name) p.object p.birth kind held.same_name held.same_object held.same_birth u.has_kind) ∙ sym u.is_some)

only_room_is : (bytes : List ℕ) (p : RoomParts) (room : Option Entry) → IsRead bytes p → IsRoom room → bytes ≡ room_bytes room → room_of (kind_of_code p.kind) p ≡ Some room
only_room_is bytes p room r h b =
    ap (λ k. room_of k p) (kind_named bytes p room r h b) ∙ room_of_kind bytes p room (kind_in room) r h b refl

-- the only room that the bytes can spell
record OnlyRoom (bytes : List ℕ) : Type 0 where
  room : Option (Option Entry)
  only : (r : Option Entry) → IsRoom r → bytes ≡ room_bytes r → room ≡ Some r

only_room : (bytes : List ℕ) → length bytes ≡ 128 → AllBelow 256 bytes → OnlyRoom bytes
only_room bytes len below =
    let read = parts_of bytes len below in
    let p : RoomParts = read.parts in
    record { room = room_of (kind_of_code p.kind) p; only = λ r h b. only_room_is bytes p r read.is_read h b }

room_at : (at : ℕ) (bytes : List ℕ) → at + 128 ≤ length bytes → AllBelow 256 bytes → OnlyRoom (take 128 (drop at bytes))
room_at at bytes len below =
    only_room (take 128 (drop at bytes)) (length-take-le 128 (drop at bytes) (omega (arith, length-drop at bytes)))
    (AllBelow-take 256 128 (drop at bytes) (omega arith) (AllBelow-drop 256 at bytes below))

-- the sub-block of four rooms, where there are four
abbrev block_of : Option (Option Entry) → Option (Option Entry) → Option (Option Entry) → Option (Option Entry) → Option SubBlock
block_of (Some a) (Some b) (Some c) (Some d) = Some (record { rooms = a ∷ b ∷ c ∷ d ∷ [] })
block_of _ _ _ _ = None

block_is : (a b c d : Option (Option Entry)) (s : SubBlock) (p q r t : Option Entry) → s.rooms ≡ p ∷ q ∷ r ∷ t ∷ [] → a ≡ Some p → b ≡ Some q → c ≡ Some r → d ≡ Some t → block_of a b c d ≡ Some s
block_is a b c d s p q r t rooms e f g h = rw (e, f, g, h) (ap Some (four_same s p q r t p q r t rooms refl refl refl refl))

only_block : (bytes : List ℕ) (s : SubBlock) (a : OnlyRoom (take 128 (drop 0 bytes))) (b : OnlyRoom (take 128 (drop 128 bytes))) (c : OnlyRoom (take 128 (drop 256 bytes))) (d : OnlyRoom (take 128 (drop 384 bytes))) → IsSubBlock s → bytes ≡ sub_bytes s → block_of a.room b.room c.room d.room ≡ Some s
only_block bytes s a b c d h e =
    let rooms = four_rooms bytes s h e in
    block_is a.room b.room c.room d.room s rooms.first rooms.second rooms.third rooms.fourth rooms.are_all
    (a.only rooms.first rooms.is_first rooms.first_bytes) (b.only rooms.second rooms.is_second rooms.second_bytes)
    (c.only rooms.third rooms.is_third rooms.third_bytes) (d.only rooms.fourth rooms.is_fourth rooms.fourth_bytes)

decided_name : (name : List ℕ) → Decided (IsName name)
decided_name name =
    decided_same
    (λ d. record { nonempty = d.0; short = d.1.0; of_name_bytes = d.1.1.0; no_dot = d.1.1.1.0; no_dots = d.1.1.1.1 })
    (λ h. (h.nonempty, (h.short, (h.of_name_bytes, (h.no_dot, h.no_dots)))))
    (decided_both (decided_le 1 (length name)) (decided_both (decided_le (length name) 100) (decided_both (decided_true (list_all is_name_byte name))
    (decided_both (decided_not (decided_bytes name (46 ∷ []))) (decided_not (decided_bytes name (46 ∷ 46 ∷ [])))))))

decided_entry : (e : Entry) → Decided (IsEntry e)
decided_entry e =
    decided_same
    (λ d. record { is_name = d.0; object_fits = d.1.0; birth_from = d.1.1.0; birth_to = d.1.1.1 })
    (λ h. (h.is_name, (h.object_fits, (h.birth_from, h.birth_to))))
    (decided_both (decided_name e.name) (decided_both (decided_lt e.key.object (2 ^ 32)) (decided_both (decided_le 1 e.key.birth) (decided_le e.key.birth (2 ^ 62)))))

decided_room : (room : Option Entry) → Decided (IsRoom room)
decided_room None = inl tt
decided_room (Some e) = decided_entry e

decided_block : (s : SubBlock) → Decided (IsSubBlock s)
decided_block s =
    decided_same (λ d. record { four = d.0; are_rooms = d.1 }) (λ h. (h.four, h.are_rooms))
    (decided_both (decided_eq (length s.rooms) 4) (decided_all IsRoom decided_room s.rooms))

pub sub_reading : (bytes : List ℕ) → length bytes ≡ 512 → AllBelow 256 bytes → (r : Option SubBlock) × IsDecoded r (λ b. IsSubBlock b × (bytes ≡ sub_bytes b))
sub_reading bytes len below =
    let a = room_at 0 bytes (omega arith) below in
    let b = room_at 128 bytes (omega arith) below in
    let c = room_at 256 bytes (omega arith) below in
    let d = room_at 384 bytes (omega arith) below in
    reading_of (block_of a.room b.room c.room d.room) (λ s. IsSubBlock s × (bytes ≡ sub_bytes s))
    (λ s h. only_block bytes s a b c d h.0 h.1) (λ s. decided_both (decided_block s) (decided_bytes bytes (sub_bytes s)))
