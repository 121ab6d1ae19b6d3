-- The four rooms of a sub-block, and the four parts of its sector.
use Rattle.std.proofs.Common.{◌≡◌, ℕ, List, [], ◌∷◌, ◌++◌, length, get_or, take, drop, Option, All, refl, sym, ap, ◌∙◌, arith}
use Rattle.std.proofs.lemmas.List.{append_assoc, append-nil, length-append, take_all, take_at, drop_at}
use Rattle.std.specs.List.{flat_map}
use Rattle.ds_bytes.specs.Fields.{padded}
use Rattle.ds_bytes.proofs.Fronts.{padded_full}
use Rattle.ds_dir.specs.SubBlock.{IsRoom, IsSubBlock, room_bytes, sub_bytes}
use Rattle.ds_dir.specs.declared.sub_block.Entry.{Entry}
use Rattle.ds_dir.specs.declared.sub_block.SubBlock.{SubBlock}
use Rattle.ds_dir.proofs.Rooms.{length-room_bytes}

-- a list of four, by its items
pub four_items : {X : Type 0} (xs : List X) (a b c d : X) → length xs ≡ 4 → xs ≡ get_or xs 0 a ∷ get_or xs 1 b ∷ get_or xs 2 c ∷ get_or xs 3 d ∷ []
four_items [] a b c d n = absurd (omega arith)
four_items (x ∷ []) a b c d n = absurd (omega arith)
four_items (x ∷ y ∷ []) a b c d n = absurd (omega arith)
four_items (x ∷ y ∷ z ∷ []) a b c d n = absurd (omega arith)
four_items (x ∷ y ∷ z ∷ w ∷ []) a b c d n = refl
four_items (x ∷ y ∷ z ∷ w ∷ v ∷ xs) a b c d n = absurd (omega arith)

in_a_row : (a b c d : List ℕ) → a ++ b ++ c ++ d ++ [] ≡ a ++ (b ++ (c ++ (d ++ [])))
in_a_row a b c d = simp append_assoc

rooms_bytes : (rooms : List (Option Entry)) (a b c d : Option Entry) → rooms ≡ a ∷ b ∷ c ∷ d ∷ [] → flat_map room_bytes rooms ≡ room_bytes a ++ room_bytes b ++ room_bytes c ++ room_bytes d
rooms_bytes rooms a b c d e =
    ap (flat_map room_bytes) e ∙ sym (in_a_row (room_bytes a) (room_bytes b) (room_bytes c) (room_bytes d))
    ∙ append-nil (room_bytes a ++ room_bytes b ++ room_bytes c ++ room_bytes d)

-- four rooms written one after another are the sector
pub four_written : (s : SubBlock) (a b c d : Option Entry) (v w x y z : List ℕ) → s.rooms ≡ a ∷ b ∷ c ∷ d ∷ [] → v ≡ [] → w ≡ v ++ room_bytes a → x ≡ w ++ room_bytes b → y ≡ x ++ room_bytes c → z ≡ y ++ room_bytes d → length z ≡ 512 → padded z ≡ sub_bytes s
unfolding sub_bytes
four_written s a b c d v w x y z rooms e f g h i len =
    let first : w ≡ room_bytes a = f ∙ ap (λ t. t ++ room_bytes a) e in
    let second : x ≡ room_bytes a ++ room_bytes b = g ∙ ap (λ t. t ++ room_bytes b) first in
    let third : y ≡ room_bytes a ++ room_bytes b ++ room_bytes c = h ∙ ap (λ t. t ++ room_bytes c) second in
    padded_full z len ∙ i ∙ ap (λ t. t ++ room_bytes d) third ∙ sym (rooms_bytes s.rooms a b c d rooms)

-- the four rooms, and where the sector holds them
pub record FourRooms (bytes : List ℕ) (rooms : List (Option Entry)) : Type 0 where
  pub first : Option Entry
  pub second : Option Entry
  pub third : Option Entry
  pub fourth : Option Entry
  pub are_all : rooms ≡ first ∷ second ∷ third ∷ fourth ∷ []
  pub is_first : IsRoom first
  pub is_second : IsRoom second
  pub is_third : IsRoom third
  pub is_fourth : IsRoom fourth
  pub first_bytes : take 128 bytes ≡ room_bytes first
  pub second_bytes : take 128 (drop 128 bytes) ≡ room_bytes second
  pub third_bytes : take 128 (drop 256 bytes) ≡ room_bytes third
  pub fourth_bytes : take 128 (drop 384 bytes) ≡ room_bytes fourth

-- four lists of 128, cut out of the list that they make
record Cut (bytes a b c d : List ℕ) : Type 0 where
  first : take 128 bytes ≡ a
  second : take 128 (drop 128 bytes) ≡ b
  third : take 128 (drop 256 bytes) ≡ c
  fourth : take 128 (drop 384 bytes) ≡ d

cut : (bytes a b c d : List ℕ) → length a ≡ 128 → length b ≡ 128 → length c ≡ 128 → length d ≡ 128 → bytes ≡ a ++ b ++ c ++ d → Cut bytes a b c d
cut bytes a b c d m n o p e =
    let after_one : bytes ≡ a ++ (b ++ (c ++ d)) = e ∙ simp append_assoc in
    let after_two : bytes ≡ (a ++ b) ++ (c ++ d) = e ∙ append_assoc (a ++ b) c d in
    let two : length (a ++ b) ≡ 256 = omega (arith, length-append a b) in
    let three : length (a ++ b ++ c) ≡ 384 = omega (arith, length-append a b, length-append (a ++ b) c) in
    let rest_of_one : drop 128 bytes ≡ b ++ (c ++ d) = ap (drop 128) after_one ∙ drop_at a (b ++ (c ++ d)) 128 m in
    let rest_of_two : drop 256 bytes ≡ c ++ d = ap (drop 256) after_two ∙ drop_at (a ++ b) (c ++ d) 256 two in
    let rest_of_three : drop 384 bytes ≡ d = ap (drop 384) e ∙ drop_at (a ++ b ++ c) d 384 three in
    record {
      first = ap (take 128) after_one ∙ take_at a (b ++ (c ++ d)) 128 m;
      second = ap (take 128) rest_of_one ∙ take_at b (c ++ d) 128 n;
      third = ap (take 128) rest_of_two ∙ take_at c d 128 o;
      fourth = ap (take 128) rest_of_three ∙ take_all 128 d (omega arith);
    }

rooms_of : (bytes : List ℕ) (rooms : List (Option Entry)) → length rooms ≡ 4 → All IsRoom rooms → bytes ≡ flat_map room_bytes rooms → FourRooms bytes rooms
rooms_of bytes [] n h e = absurd (omega arith)
rooms_of bytes (a ∷ []) n h e = absurd (omega arith)
rooms_of bytes (a ∷ b ∷ []) n h e = absurd (omega arith)
rooms_of bytes (a ∷ b ∷ c ∷ []) n h e = absurd (omega arith)
rooms_of bytes (a ∷ b ∷ c ∷ d ∷ []) n h e =
    let is_a : IsRoom a = h 0 a (omega arith) in
    let is_b : IsRoom b = h 1 a (omega arith) in
    let is_c : IsRoom c = h 2 a (omega arith) in
    let is_d : IsRoom d = h 3 a (omega arith) in
    let parts = cut bytes (room_bytes a) (room_bytes b) (room_bytes c) (room_bytes d) (length-room_bytes a is_a) (length-room_bytes b is_b) (length-room_bytes c is_c) (length-room_bytes d is_d) (e ∙ rooms_bytes (a ∷ b ∷ c ∷ d ∷ []) a b c d refl) in
    record {
      first = a;
      second = b;
      third = c;
      fourth = d;
      are_all = refl;
      is_first = is_a;
      is_second = is_b;
      is_third = is_c;
      is_fourth = is_d;
      first_bytes = parts.first;
      second_bytes = parts.second;
      third_bytes = parts.third;
      fourth_bytes = parts.fourth;
    }
rooms_of bytes (a ∷ b ∷ c ∷ d ∷ x ∷ rooms) n h e = absurd (omega arith)

pub four_rooms : (bytes : List ℕ) (s : SubBlock) → IsSubBlock s → bytes ≡ sub_bytes s → FourRooms bytes s.rooms
unfolding sub_bytes
four_rooms bytes s h e = rooms_of bytes s.rooms h.four h.are_rooms e

-- the four rooms, put together, are the sub-block
pub four_same : (s : SubBlock) (a b c d p q r t : Option Entry) → s.rooms ≡ a ∷ b ∷ c ∷ d ∷ [] → p ≡ a → q ≡ b → r ≡ c → t ≡ d → (let made : SubBlock = record { rooms = p ∷ q ∷ r ∷ t ∷ [] } in made) ≡ s
four_same s a b c d p q r t e f g h i =
    let made : List (Option Entry) → SubBlock = λ rooms. record { rooms = rooms } in
    ap made (let rooms : p ∷ q ∷ r ∷ t ∷ [] ≡ s.rooms = rw (f, g, h, i) (sym e) in rooms)
