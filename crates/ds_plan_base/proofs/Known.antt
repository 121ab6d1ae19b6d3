-- What is known of a directory once it was seen whole.
use Rattle.std.proofs.Common.{◌≡◌, ℕ, suc, ◌+◌, ◌*◌, ◌<◌, ◌≤◌, ◌==◌, ◌&&◌, Bool, true, false, nat_le, nat_lt, if◌then◌else◌, List, [], ◌∷◌, length, slice_get, Option, None, Some, refl, sym, ap, subst, ◌∙◌, arith, length-take-le, is_some}
use Rattle.std.specs.Prelude.{Result, Ok, Err, IsSome, option_map}
use Rattle.std.proofs.lemmas.Bool.Decides.{nat_tests}
use Rattle.ds_base.specs.Geometry.{items_of}
use Rattle.ds_base.specs.declared.geometry.Geom.{Geom}
use Rattle.ds_base.specs.declared.geometry.Kind.TheVariants.{Fd, Sb}
use Rattle.ds_base.specs.declared.names.Key.{Key}
use Rattle.ds_base.specs.declared.names.NodeKind.{NodeKind}
use Rattle.ds_base.specs.declared.names.NodeKind.TheVariants as kinds
use Rattle.ds_dir.specs.declared.sub_block.Entry.{Entry}
use Rattle.ds_dir.specs.declared.sub_block.SubBlock.{SubBlock}
use Rattle.ds_dir.specs.SubBlock.{IsSubBlock}
use Rattle.ds_fd.specs.Body.{IsBody, most_count}
use Rattle.ds_fd.specs.declared.body.Body.{Body}
use Rattle.ds_image_parts.specs.Objects.{subs_by, subs_of}
use Rattle.ds_image_parts.specs.Parts.{Parts, part_at}
use Rattle.ds_image_parts.specs.Readings.{ReadsParts}
use Rattle.ds_image.specs.SeenValues.{SeenValue, has_lock, look_of}
use Rattle.ds_image.proofs.Spelling.Sizes.{body_is}
use Rattle.ds_layout.specs.Places.{place_sector}
use Rattle.ds_layout.specs.declared.places.Place.TheVariants as places
use Rattle.ds_plan_base.proofs.Limits.{after-ok, part-known, if-ok}
use Rattle.ds_plan_base.specs.Objects.{CanGrow, IsFreeRoom}
use Rattle.ds_plan_base.specs.Rooms.{used_count, count_from, count_in, first_room, free_at, room_from, room_in, lacks_by, not_full, entries_before, room_for}
use Rattle.ds_plan_base.specs.declared.rooms.FreeRoom.{FreeRoom}
use Rattle.ds_plan_base.specs.Bodies.{part_seen, body_seen, body_alive, body_of_key, dir_by, body_of_dir, dir_of_key, sub_seen}
use Rattle.ds_plan_base.specs.Entries.{found_in}
use Rattle.ds_plan_base.specs.Steps.{after, or_later}
use Rattle.ds_plan_base.specs.declared.entries.Found.{Found}
use Rattle.ds_plan_base.specs.declared.stops.Ending.TheVariants as endings
use Rattle.ds_plan_base.specs.declared.stops.Stop.{Stop}
use Rattle.ds_plan_base.specs.declared.stops.Stop.TheVariants.{Lock, Done}

-- Rooms

-- a room that is found is free
pub first_room-free : (from : ℕ) (rooms : List (Option Entry)) (room : ℕ) → first_room from rooms ≡ Some room → (i : ℕ) × (room ≡ from + i) × (slice_get rooms i ≡ Some None)
first_room-free from [] room is = absurd cc
first_room-free from (None ∷ rooms) room is = let same : from ≡ room = cc in (0, omega (arith, same), refl)
first_room-free from (Some e ∷ rooms) room is =
    let rest = first_room-free (suc from) rooms room is in (suc rest.0, omega (arith, rest.1), rest.2)

-- where none is found all are used
pub first_room-full : (from : ℕ) (rooms : List (Option Entry)) → first_room from rooms ≡ None → used_count rooms ≡ length rooms
first_room-full from [] is = refl
first_room-full from (None ∷ rooms) is = absurd cc
first_room-full from (Some e ∷ rooms) is = ap suc (first_room-full (suc from) rooms is)

-- a sub-block that was seen
pub record HasBlock (g : Geom) (seen : SeenValue) (p : Parts) (n : ℕ) (block : SubBlock) : Type 0 where
  pub inside : n < items_of g Sb
  pub read : IsSome (look_of seen (place_sector g (places.SubBlock n)))
  pub there : part_at p.subs n ≡ Some block
  pub is_sub : IsSubBlock block

module _ (g : Geom) (seen : SeenValue) (p : Parts) (reads : ReadsParts g (look_of seen) p) where
  pub block-known : (b : Body) (n : ℕ) (block : SubBlock) → sub_seen g seen p b n ≡ Ok block → HasBlock g seen p n block
  block-known b n block is =
      let at = place_sector g (places.SubBlock n) in
      let test = if-ok (nat_lt n (items_of g Sb)) (part_seen at (look_of seen at) (part_at p.subs n)) _ block is in
      let inside : n < items_of g Sb = grind (arith, nat_tests, test.0) in
      let known = part-known at (look_of seen at) (part_at p.subs n) block test.1 in
      let there = known.2 in
      record { inside = inside; read = ap is_some known.1; there = there; is_sub = ((reads.subs.each n inside block).0 there).0 }

  -- a free room of a directory
  pub room-free : (b : Body) (subs : List ℕ) (free : FreeRoom) → room_from g seen p b subs ≡ Ok (Some free) → IsFreeRoom free × (free.sub < items_of g Sb)
  room-free b [] free is = absurd cc
  room-free b (n ∷ subs) free is =
      let known = after-ok (sub_seen g seen p b n) _ (Some free) is in
      chosen known.0 (block-known b n known.0 known.1) (first_room 0 known.0.rooms) refl known.2 (room-free b subs free)
    where
      chosen : (block : SubBlock) → HasBlock g seen p n block → (r : Option ℕ) → first_room 0 block.rooms ≡ r
          → or_later (option_map (free_at n block) r) (room_from g seen p b subs) ≡ Ok (Some free) → (room_from g seen p b subs ≡ Ok (Some free) → IsFreeRoom free × (free.sub < items_of g Sb))
          → IsFreeRoom free × (free.sub < items_of g Sb)
      chosen block has None first found later = later found
      chosen block has (Some room) first found later =
          let same : free_at n block room ≡ free = cc in
          let at = first_room-free 0 block.rooms room first in
          let here : slice_get block.rooms room ≡ Some None = ap (slice_get block.rooms) (at.1 ∙ (let none : 0 + at.0 ≡ at.0 = omega arith in none)) ∙ at.2 in
          subst (λ (free : FreeRoom). IsFreeRoom free × (free.sub < items_of g Sb)) same (record { is_sub = has.is_sub; is_free = here }, has.inside)

  -- where a directory has no free room, four for each sub-block are used
  pub rooms-full : (b : Body) (subs : List ℕ) (count total : ℕ) → room_from g seen p b subs ≡ Ok None → count_from g seen p b count subs ≡ Ok total
      → total ≡ count + 4 * length subs
  rooms-full b [] count total none counted = let same : count ≡ total = cc in omega (arith, same)
  rooms-full b (n ∷ subs) count total none counted =
      let known = after-ok (sub_seen g seen p b n) _ None none in
      let block = known.0 in
      let rest : count_from g seen p b (count + used_count block.rooms) subs ≡ Ok total =
      sym (ap (λ r. after r (λ (block : SubBlock). count_from g seen p b (count + used_count block.rooms) subs)) known.1) ∙ counted in
      chosen block (block-known b n block known.1) (first_room 0 block.rooms) refl known.2
      (λ none. rooms-full b subs (count + used_count block.rooms) total none rest)
    where
      chosen : (block : SubBlock) → HasBlock g seen p n block → (r : Option ℕ) → first_room 0 block.rooms ≡ r → or_later (option_map (free_at n block) r) (room_from g seen p b subs) ≡ Ok None
          → (room_from g seen p b subs ≡ Ok None → total ≡ count + used_count block.rooms + 4 * length subs) → total ≡ count + 4 * length (n ∷ subs)
      chosen block has None first found later =
          omega (arith, later found, first_room-full 0 block.rooms first, has.is_sub.four)
      chosen block has (Some room) first found later = absurd cc

  -- the body of a directory
  pub dir-known : (key : Key) (b : Body) → dir_of_key g seen p key ≡ Ok b → (part_at p.bodies key.object ≡ Some b) × (b.kind ≡ Some kinds.Dir) × IsBody b
  dir-known key b is =
      let at = place_sector g (places.Body key.object) in
      let whole = after-ok (body_of_key g seen p key) body_of_dir b is in
      let inside = if-ok (nat_lt key.object (items_of g Fd)) _ _ whole.0 whole.1 in
      let held = if-ok (has_lock seen key.object) (after (body_seen g seen p key.object) (body_alive key)) _ whole.0 inside.1 in
      let read = after-ok (body_seen g seen p key.object) (body_alive key) whole.0 held.1 in
      let alive = if-ok ((read.0.birth == key.birth) && is_some read.0.kind) (Ok read.0) _ whole.0 read.2 in
      let one : read.0 ≡ whole.0 = cc in
      let kind = dir-kind whole.0 whole.0.kind refl b whole.2 in
      let there : part_at p.bodies key.object ≡ Some b = (part-known at (look_of seen at) (part_at p.bodies key.object) read.0 read.1).2 ∙ ap Some (one ∙ kind.0) in
      (there, ap (λ (x : Body). x.kind) (sym kind.0) ∙ kind.1, body_is g (look_of seen) p key.object b reads there)
    where
      dir-kind : (x : Body) (kind : Option NodeKind) → x.kind ≡ kind → (b : Body) → dir_by x kind ≡ Ok b → (x ≡ b) × (x.kind ≡ Some kinds.Dir)
      dir-kind x None e b is = absurd cc
      dir-kind x (Some kinds.File) e b is = absurd cc
      dir-kind x (Some kinds.Dir) e b is = ((let same : x ≡ b = cc in same), e)

  -- that of another key of the same object, which is alive where it is in the same life
  pub dir-beside : (key other : Key) (b : Body) → dir_of_key g seen p key ≡ Ok b → other.object ≡ key.object
      → dir_of_key g seen p other ≡ (if b.birth == other.birth then Ok b else Err (Done endings.NoObject))
  dir-beside key other b is same =
      let whole = after-ok (body_of_key g seen p key) body_of_dir b is in
      let inside = if-ok (nat_lt key.object (items_of g Fd)) _ _ whole.0 whole.1 in
      let held = if-ok (has_lock seen key.object) (after (body_seen g seen p key.object) (body_alive key)) _ whole.0 inside.1 in
      let read = after-ok (body_seen g seen p key.object) (body_alive key) whole.0 held.1 in
      let alive = if-ok ((read.0.birth == key.birth) && is_some read.0.kind) (Ok read.0) _ whole.0 read.2 in
      let one : read.0 ≡ whole.0 = cc in
      let dir = dir-is whole.0 whole.0.kind refl whole.2 in
      let body : body_seen g seen p key.object ≡ Ok b = read.1 ∙ ap Ok (one ∙ dir.0) in
      ap (λ o. after (if nat_lt o (items_of g Fd) then (if has_lock seen o then after (body_seen g seen p o) (body_alive other) else Err (Lock o)) else Err (Done endings.NoObject)) body_of_dir) same
      ∙ ap (λ t. after (if t then (if has_lock seen key.object then after (body_seen g seen p key.object) (body_alive other) else Err (Lock key.object)) else Err (Done endings.NoObject)) body_of_dir) inside.0
      ∙ ap (λ t. after (if t then after (body_seen g seen p key.object) (body_alive other) else Err (Lock key.object)) body_of_dir) held.0
      ∙ ap (λ r. after (after r (body_alive other)) body_of_dir) body
      ∙ ap (λ t. after (if (b.birth == other.birth) && t then Ok b else Err (Done endings.NoObject)) body_of_dir) (ap is_some dir.1)
      ∙ by (b.birth == other.birth) dir.1
    where
      dir-is : (x : Body) (kind : Option NodeKind) → x.kind ≡ kind → dir_by x kind ≡ Ok b → (x ≡ b) × (b.kind ≡ Some kinds.Dir)
      dir-is x None e is = absurd cc
      dir-is x (Some kinds.File) e is = absurd cc
      dir-is x (Some kinds.Dir) e is = let same : x ≡ b = cc in (same, ap (λ (x : Body). x.kind) (sym same) ∙ e)

      by : (t : Bool) → b.kind ≡ Some kinds.Dir
          → after (if t && true then Ok b else Err (Done endings.NoObject)) body_of_dir ≡ (if t then Ok b else Err (Done endings.NoObject))
      by true kind = ap (dir_by b) kind
      by false kind = refl

  few-of : (count n : ℕ) → not_full count ≡ Ok n → count < 384
  few-of count n is = by (nat_le 384 count) refl is
    where
      by : (test : Bool) → nat_le 384 count ≡ test → ◌≡◌ {A = Result ℕ Stop} (if test then Err (Done endings.DirFull) else Ok count) (Ok n) → count < 384
      by true e is = absurd cc
      by false e is = grind (arith, nat_tests, e)

  -- the entries of a directory that may get one more are counted
  pub entries-known : (b : Body) (name : List ℕ) (n : ℕ) → entries_before g seen p b name ≡ Ok n
      → (found_in g seen p b name ≡ Ok None) × ((count : ℕ) × (count_in g seen p b ≡ Ok count) × (count < 384))
  entries-known b name n is =
      let whole = after-ok (found_in g seen p b name) _ n is in
      by whole.0 whole.1 whole.2
    where
      by : (found : Option Found) → found_in g seen p b name ≡ Ok found → lacks_by found (after (count_in g seen p b) not_full) ≡ Ok n
          → (found_in g seen p b name ≡ Ok None) × ((count : ℕ) × (count_in g seen p b ≡ Ok count) × (count < 384))
      by (Some f) e is = absurd cc
      by None e is = let counted = after-ok (count_in g seen p b) not_full n is in (e, (counted.0, counted.1, few-of counted.0 n counted.2))

  -- a free room is known once the entries are
  pub room-known : (b : Body) (name : List ℕ) (r : Option FreeRoom) → room_for g seen p b name ≡ Ok r → (n : ℕ) × (entries_before g seen p b name ≡ Ok n) × (room_in g seen p b ≡ Ok r)
  room-known b name r is = after-ok (entries_before g seen p b name) (λ count. room_in g seen p b) r is

  -- a directory without a free room, which may get an entry, can grow
  pub can-grow : (b : Body) (name : List ℕ) (n : ℕ) → IsBody b → b.kind ≡ Some kinds.Dir → entries_before g seen p b name ≡ Ok n → room_in g seen p b ≡ Ok None → CanGrow b
  can-grow b name n is_body is_dir entries none =
      let counted = (entries-known b name n entries).1 in
      let subs : subs_of (Some b) ≡ subs_by b (Some kinds.Dir) = ap (subs_by b) is_dir in
      let most : b.count ≤ 96 = subst (λ k. b.count ≤ most_count k) is_dir is_body.ranges.count_to in
      let full = rooms-full b (subs_of (Some b)) 0 counted.0 none counted.1 in
      record {
        is_body = is_body;
        is_dir = is_dir;
        few = omega (arith, full, counted.2, ap (length {A = ℕ}) subs, length-take-le b.count b.addresses (omega (arith, most, is_body.widths.address_count)));
      }

  pub grow-known : (key : Key) (b : Body) (name : List ℕ) (n : ℕ) → dir_of_key g seen p key ≡ Ok b → entries_before g seen p b name ≡ Ok n → room_in g seen p b ≡ Ok None → CanGrow b
  grow-known key b name n is entries none =
      let dir = dir-known key b is in
      can-grow b name n dir.2 dir.1 entries none

-- Free rooms

-- a free room of a directory, whose sub-block was seen
pub record HasRoom (g : Geom) (seen : SeenValue) (p : Parts) (subs : List ℕ) (free : FreeRoom) : Type 0 where
  pub place : ℕ
  pub listed : slice_get subs place ≡ Some free.sub
  pub has : HasBlock g seen p free.sub free.block
  pub is_free : slice_get free.block.rooms free.room ≡ Some None

pub room-place : (g : Geom) (seen : SeenValue) (p : Parts) → ReadsParts g (look_of seen) p → (b : Body) (subs : List ℕ) (free : FreeRoom) → room_from g seen p b subs ≡ Ok (Some free) → HasRoom g seen p subs free
room-place g seen p reads b [] free is = absurd cc
room-place g seen p reads b (n ∷ subs) free is =
    let known = after-ok (sub_seen g seen p b n) _ (Some free) is in
    chosen known.0 (block-known g seen p reads b n known.0 known.1) (first_room 0 known.0.rooms) refl known.2 (room-place g seen p reads b subs free)
  where
    chosen : (block : SubBlock) → HasBlock g seen p n block → (r : Option ℕ) → first_room 0 block.rooms ≡ r → or_later (option_map (free_at n block) r) (room_from g seen p b subs) ≡ Ok (Some free)
        → (room_from g seen p b subs ≡ Ok (Some free) → HasRoom g seen p subs free) → HasRoom g seen p (n ∷ subs) free
    chosen block has None first found later =
        let rest = later found in
        record { place = suc rest.place; listed = rest.listed; has = rest.has; is_free = rest.is_free }
    chosen block has (Some room) first found later =
        let same : free_at n block room ≡ free = cc in
        let at = first_room-free 0 block.rooms room first in
        let here : slice_get block.rooms room ≡ Some None = ap (slice_get block.rooms) (at.1 ∙ (let none : 0 + at.0 ≡ at.0 = omega arith in none)) ∙ at.2 in
        subst (HasRoom g seen p (n ∷ subs)) same (record { place = 0; listed = refl; has = has; is_free = here })
