-- A directory that may get an entry: what is asked for before it is known, and what the tree says of it.
use Rattle.std.proofs.Common.{◌≡◌, ℕ, nat_eq, zero, suc, ◌+◌, ◌*◌, ◌<◌, true, false, nat_le, List, [], ◌∷◌, length, Option, None, Some, inl, refl, sym, ap, subst, ◌∙◌, arith, slice_get, is_some, length-append}
use Rattle.std.specs.Prelude.{Result, Ok, Err, option_map}
use Rattle.std.specs.List.{list_any, filter_map, Contains}
use Rattle.std.specs.FinMap as maps
use Rattle.std.proofs.lemmas.Bool.Decides.{nat_tests}
use Rattle.ds_base.specs.Geometry.{items_of}
use Rattle.ds_base.specs.declared.geometry.Geom.{Geom}
use Rattle.ds_base.specs.declared.geometry.Kind.TheVariants.{Fd}
use Rattle.ds_base.specs.declared.names.Key.{Key}
use Rattle.ds_base.specs.declared.names.NodeKind.TheVariants as kinds
use Rattle.ds_base.specs.declared.sectors.Sector.{Sector}
use Rattle.ds_plan_laws_new.proofs.Granting.{key-node}
use Rattle.ds_plan_laws_new.proofs.Names.{by_name-length}
use Rattle.ds_plan_laws_new.proofs.Rooms.{used-same}
use Rattle.ds_dir.specs.declared.sub_block.Entry.{Entry}
use Rattle.ds_dir.specs.declared.sub_block.SubBlock.{SubBlock}
use Rattle.ds_fd.specs.declared.body.Body.{Body}
use Rattle.ds_image.specs.Asking.{Agrees}
use Rattle.ds_image_parts.specs.Objects.{subs_by, subs_of, used_rooms, entries_of}
use Rattle.ds_image_parts.specs.Parts.{Parts, part_at}
use Rattle.ds_image_parts.specs.Readings.{ReadsParts}
use Rattle.ds_image.specs.SeenValues.{SeenValue, has_lock, look_of}
use Rattle.ds_image.specs.Sound.{StandsFor}
use Rattle.ds_image.specs.SoundObjects.{AreNamesApart}
use Rattle.ds_image.specs.declared.asks.Ask.{Ask}
use Rattle.ds_image.specs.declared.asks.Ask.TheVariants as asks
use Rattle.ds_image.proofs.FileTrees.EntryNames.{get-entries}
use Rattle.ds_image.proofs.Spelling.SoundParts.{objects-of}
use Rattle.ds_layout.specs.Places.{place_sector}
use Rattle.ds_layout.specs.declared.places.Place.TheVariants as places
use Rattle.ds_plan_base.proofs.ItemWalk.{goes-known}
use Rattle.ds_plan_base.proofs.Known.{block-known}
use Rattle.ds_plan_base.proofs.Limits.{after-ok}
use Rattle.ds_plan_base.proofs.PlanAsks.{PlanAsks, HasWhole}
use Rattle.ds_plan_base.specs.Rooms.{used_count, count_from, count_in, lacks_by, not_full, entries_before, free_in, room_from, room_in, room_for}
use Rattle.ds_plan_base.specs.Stops.{ask_of}
use Rattle.ds_plan_base.specs.declared.rooms.FreeRoom.{FreeRoom}
use Rattle.ds_plan_base.specs.Bodies.{dir_of_key, sub_seen}
use Rattle.ds_plan_base.proofs.DirAsks.{dir_sectors, DirAsks}
use Rattle.ds_plan_base.proofs.DirSeen.{HasDir, HasSub, IsFoundIn, said_found, said_entry}
use Rattle.ds_plan_base.specs.Entries.{named_among, found_at, found_from, found_in}
use Rattle.ds_image_parts.specs.Objects.{entry_named}
use Rattle.ds_plan_base.proofs.Goes.{Goes}
use Rattle.ds_image.specs.Locks.{MayLock, of_key, keys_of, TakesName}
use Rattle.ds_plan_base.specs.Steps.{after, or_later}
use Rattle.ds_plan_base.specs.declared.entries.Found.{Found}
use Rattle.ds_plan_base.specs.declared.entries.Named.{Named}
use Rattle.ds_plan_base.proofs.Alike.{sub_alike, some-there}
use Rattle.ds_plan_base.proofs.Dirs.{dir_goes, dir_in}
use Rattle.ds_plan_base.proofs.Finding.{find_goes, named-find, none-among, used_seen}
use Rattle.ds_plan_base.proofs.Going.{goes-after, goes-if}
use Rattle.ds_plan_base.specs.declared.stops.Ending.TheVariants as endings
use Rattle.ds_plan_base.specs.declared.stops.Stop.{Stop}
use Rattle.ds_plan_base.specs.declared.stops.Stop.TheVariants as stops
use Rattle.ds_tree.specs.Nodes.{Entries, Dir, File, FileTree, Object, node_of_key}
use Rattle.ds_tree.specs.Steps.{Does}
use Rattle.ds_tree.specs.declared.calls.CallOf.{CallOf}
use Rattle.ds_tree.specs.declared.calls.TreeReply.TheVariants as replies

-- what is good for one is good for the other
pub goes-other : {V : Type 0} (Good Other : Ask → Type 0) (Is : V → Type 0) (r : Result V Stop) → ((ask : Ask) → Good ask → Other ask) → Goes Good r Is → Goes Other r Is
goes-other Good Other Is (Ok v) each is = is
goes-other Good Other Is (Err stop) each good = each (ask_of stop) good

-- what a planner asks for that reads one directory, which is that of a key of its call
pub as-plan : (g : Geom) (slot : ℕ) (call : CallOf Key) (MayHold MayRead : SeenValue → Parts → ℕ → Type 0) (dir : Key) (seen : SeenValue) (p : Parts) → Contains (keys_of call) dir
    → MayHold seen p dir.object → ((at : ℕ) → list_any (nat_eq at) (dir_sectors g p dir.object) ≡ true → MayRead seen p at)
    → (ask : Ask) → DirAsks g call dir.object seen p ask → PlanAsks g slot call MayHold MayRead seen p ask
as-plan g slot call MayHold MayRead dir seen p named may_hold may_read (asks.Lock object) is = record {
  is_lock = inl (subst (λ o. o < items_of g Fd) (sym is.0) is.1);
  free = subst (λ o. has_lock seen o ≡ false) (sym is.0) is.2;
  allowed = subst (MayLock g slot call p) (sym is.0) (of_key dir named is.1);
  one = subst (MayHold seen p) (sym is.0) may_hold;
}
as-plan g slot call MayHold MayRead dir seen p named may_hold may_read (asks.Read at) is = record { readable = is.readable; one = may_read at is.one }
as-plan g slot call MayHold MayRead dir seen p named may_hold may_read (asks.Odd at) is = is
as-plan g slot call MayHold MayRead dir seen p named may_hold may_read (asks.Worn object) is = absurd is
as-plan g slot call MayHold MayRead dir seen p named may_hold may_read (asks.Done reply) is = is
as-plan g slot call MayHold MayRead dir seen p named may_hold may_read (asks.Change redo reply) is = absurd is

-- where no name was found, all sub-blocks were seen
module _ (g : Geom) (seen : SeenValue) (p : Parts) (reads : ReadsParts g (look_of seen) p) (b : Body) (name : List ℕ) where
  found-split : (n : ℕ) (subs : List ℕ) → found_from g seen p b name (n ∷ subs) ≡ Ok None
      → (block : SubBlock) × (sub_seen g seen p b n ≡ Ok block) × (named_among 0 name block.rooms ≡ None) × (found_from g seen p b name subs ≡ Ok None)
  found-split n subs is =
      let known = after-ok (sub_seen g seen p b n) _ None is in
      let rest = by known.0 (named_among 0 name known.0.rooms) refl known.2 in
      (known.0, known.1, rest.0, rest.1)
    where
      by : (block : SubBlock) (named : Option Named) → named_among 0 name block.rooms ≡ named → or_later (option_map (found_at n block) named) (found_from g seen p b name subs) ≡ Ok None
          → (named_among 0 name block.rooms ≡ None) × (found_from g seen p b name subs ≡ Ok None)
      by block None e is = (e, is)
      by block (Some x) e is = absurd cc

  pub subs-known : (subs : List ℕ) → found_from g seen p b name subs ≡ Ok None → (i n : ℕ) → slice_get subs i ≡ Some n → (block : SubBlock) × HasSub g seen p n block
  subs-known [] none i n at = absurd cc
  subs-known (m ∷ subs) none zero n at =
      let split = found-split m subs none in
      let has = block-known g seen p reads b m split.0 split.1 in
      let same : m ≡ n = cc in
      (split.0, subst (λ k. HasSub g seen p k split.0) same (record { inside = has.inside; read = has.read; there = has.there }))
  subs-known (m ∷ subs) none (suc i) n at = subs-known subs (found-split m subs none).3 i n at

  pub names-lack : (subs : List ℕ) → found_from g seen p b name subs ≡ Ok None → entry_named (used_rooms p subs) name ≡ None
  names-lack [] none = refl
  names-lack (n ∷ subs) none =
      let split = found-split n subs none in
      let has = block-known g seen p reads b n split.0 split.1 in
      ap (λ es. entry_named es name) (used_seen p n split.0 subs has.there)
      ∙ none-among 0 name split.0.rooms (used_rooms p subs) split.2 ∙ names-lack subs split.3

  -- and their used rooms can be counted
  pub counts-known : (count : ℕ) (subs : List ℕ) → found_from g seen p b name subs ≡ Ok None → count_from g seen p b count subs ≡ Ok (count + length (used_rooms p subs))
  counts-known count [] none = ap Ok (let same : count ≡ count + 0 = omega arith in same)
  counts-known count (n ∷ subs) none =
      let split = found-split n subs none in
      let block = split.0 in
      let has = block-known g seen p reads b n block split.1 in
      let total : count + used_count block.rooms + length (used_rooms p subs) ≡ count + length (used_rooms p (n ∷ subs)) =
      omega (arith, ap (length {A = Entry}) (used_seen p n block subs has.there), length-append (filter_map (λ room. room) block.rooms) (used_rooms p subs)) in
      ap (λ r. after r (λ (block : SubBlock). count_from g seen p b (count + used_count block.rooms) subs)) split.1
      ∙ counts-known (count + used_count block.rooms) subs split.3 ∙ ap Ok total

  -- and a free room be looked for
  pub rooms-known : (subs : List ℕ) → found_from g seen p b name subs ≡ Ok None → (r : Option FreeRoom) × (room_from g seen p b subs ≡ Ok r)
  rooms-known [] none = (None, refl)
  rooms-known (n ∷ subs) none =
      let split = found-split n subs none in
      let block = split.0 in
      let rest = rooms-known subs split.3 in
      let here = by (free_in n block) rest.0 rest.1 in
      (here.0, ap (λ r. after r (λ (block : SubBlock). or_later (free_in n block) (room_from g seen p b subs))) split.1 ∙ here.1)
    where
      by : (free r : Option FreeRoom) → room_from g seen p b subs ≡ Ok r → (r : Option FreeRoom) × (or_later free (room_from g seen p b subs) ≡ Ok r)
      by None r is = (r, is)
      by (Some free) r is = (Some free, refl)

-- What the tree says

module _ (g : Geom) (dir : Key) (seen : SeenValue) (p : Parts) (reads : ReadsParts g (look_of seen) p) (b : Body) (has : HasDir g seen p dir b) where
  abbrev subs : List ℕ
  subs = subs_of (Some b)

  subs-are : subs_of (Some b) ≡ subs_by b (Some kinds.Dir)
  subs-are = ap (subs_by b) has.sees.is_kind

  pub dir-node : (image : List Sector) (t : FileTree) (stands : StandsFor g image t) → Agrees seen image → node_of_key t dir ≡ Some (Dir (entries_of stands.parts subs) (4 * b.count))
  dir-node image t stands agrees =
      let in_tree = (dir_in g seen p dir b image t stands reads agrees has).1 in
      key-node t dir dir.birth (ap (λ (x : Object). x.birth) in_tree) refl ∙ ap (λ (x : Object). x.node) in_tree
      ∙ ap (λ l. Some (Dir (entries_of stands.parts l) (4 * b.count))) (sym subs-are)

  pub subs-same : ((i n : ℕ) → slice_get subs i ≡ Some n → (block : SubBlock) × HasSub g seen p n block) → (image : List Sector) (t : FileTree) (stands : StandsFor g image t) → Agrees seen image
      → (i n : ℕ) → slice_get subs i ≡ Some n → part_at stands.parts.subs n ≡ part_at p.subs n
  subs-same all image t stands agrees i n at =
      let is = (all i n at).1 in
      let known = some-there (look_of seen (place_sector g (places.SubBlock n))) is.read in
      sub_alike g (slice_get image) (look_of seen) stands.parts p n is.inside (agrees (place_sector g (places.SubBlock n)) known.0 known.1 ∙ sym known.1) stands.reads reads

  pub rooms-same : ((i n : ℕ) → slice_get subs i ≡ Some n → (block : SubBlock) × HasSub g seen p n block) → (image : List Sector) (t : FileTree) (stands : StandsFor g image t) → Agrees seen image
      → used_rooms stands.parts subs ≡ used_rooms p subs
  rooms-same all image t stands agrees = used-same p stands.parts subs (subs-same all image t stands agrees)

  pub entries-count : ((i n : ℕ) → slice_get subs i ≡ Some n → (block : SubBlock) × HasSub g seen p n block) → (image : List Sector) (t : FileTree) (stands : StandsFor g image t) → Agrees seen image
      → maps.len (entries_of stands.parts subs) ≡ length (used_rooms p subs)
  entries-count all image t stands agrees =
      let q = stands.parts in
      let body = (dir_in g seen p dir b image t stands reads agrees has).0 in
      let names : AreNamesApart (used_rooms q subs) = subst (λ r. AreNamesApart (used_rooms q (subs_of r))) body (objects-of q stands.sound dir.object).names in
      by_name-length (used_rooms q subs) names ∙ ap (length {A = Entry}) (rooms-same all image t stands agrees)

  pub entries-absent : (name : List ℕ) → ((i n : ℕ) → slice_get subs i ≡ Some n → (block : SubBlock) × HasSub g seen p n block) → entry_named (used_rooms p subs) name ≡ None
      → (image : List Sector) (t : FileTree) (stands : StandsFor g image t) → Agrees seen image → maps.get (entries_of stands.parts subs) name ≡ None
  entries-absent name all lacks image t stands agrees =
      let es = used_rooms stands.parts subs in
      get-entries es name ∙ named-find es name ∙ ap (option_map (λ (e : Entry). e.key.object)) (ap (λ es. entry_named es name) (rooms-same all image t stands agrees) ∙ lacks)

  -- a name may be looked for then
  pub takes : (name : List ℕ) → HasWhole g seen p dir name b → TakesName p dir name b
  takes name whole = record {
    lacks = record { whole = record { body = has.sees; subs = λ i n at. ap is_some (whole.subs i n at).1.there }; none = whole.lacks };
    not_full = whole.few;
  }

-- A directory that may get an entry of a name: where it has one, and where it is full, the call is refused

module _ (g : Geom) (slot : ℕ) (call : CallOf Key) (MayHold MayRead : SeenValue → Parts → ℕ → Type 0) (dir : Key) (name : List ℕ) (seen : SeenValue) (p : Parts) (reads : ReadsParts g (look_of seen) p)
    (b : Body) (has : HasDir g seen p dir b) (named : Contains (keys_of call) dir) (may_hold : MayHold seen p dir.object)
    (may_read : (at : ℕ) → list_any (nat_eq at) (dir_sectors g p dir.object) ≡ true → MayRead seen p at)
    (exists : (image : List Sector) (t : FileTree) → StandsFor g image t → Agrees seen image → (entries : Entries) (rooms : ℕ) → node_of_key t dir ≡ Some (Dir entries rooms)
    → maps.contains_key entries name ≡ true → Does g t call replies.Exists t)
    (is_full : (image : List Sector) (t : FileTree) → StandsFor g image t → Agrees seen image → (entries : Entries) (rooms : ℕ) → node_of_key t dir ≡ Some (Dir entries rooms)
    → maps.contains_key entries name ≡ false → nat_le 384 (maps.len entries) ≡ true → Does g t call replies.DirFull t) where
  abbrev Good : Ask → Type 0
  Good = PlanAsks g slot call MayHold MayRead seen p

  abbrev listed : List ℕ
  listed = subs_of (Some b)

  abbrev Whole : ℕ → Type 0
  Whole count = HasWhole g seen p dir name b × (found_in g seen p b name ≡ Ok None)

  -- the name is there
  exists_good : (f : Found) → IsFoundIn g seen listed name (Some f) → Good (asks.Done replies.Exists)
  exists_good f found = record {
    block = tt;
    does = λ image t stands agrees.
        let es = used_rooms stands.parts listed in
        let there = in_tree (entry_named es name) (found image t stands agrees) in
        let get : maps.get (entries_of stands.parts listed) name ≡ Some there.0.key.object =
        get-entries es name ∙ named-find es name ∙ ap (option_map (λ (e : Entry). e.key.object)) there.1 in
        exists image t stands agrees (entries_of stands.parts listed) (4 * b.count) (dir-node g dir seen p reads b has image t stands agrees) (ap is_some get);
  }
    where
      in_tree : (r : Option Entry) → said_found (Some f) ≡ said_entry r → (e : Entry) × (r ≡ Some e)
      in_tree None is = absurd cc
      in_tree (Some e) is = (e, refl)

  -- the directory is full
  full_good : ((i n : ℕ) → slice_get listed i ≡ Some n → (block : SubBlock) × HasSub g seen p n block) → entry_named (used_rooms p listed) name ≡ None
      → nat_le 384 (length (used_rooms p listed)) ≡ true → Good (asks.Done replies.DirFull)
  full_good all lacks full = record {
    block = tt;
    does = λ image t stands agrees.
        is_full image t stands agrees (entries_of stands.parts listed) (4 * b.count) (dir-node g dir seen p reads b has image t stands agrees)
        (ap is_some (entries-absent g dir seen p reads b has name all lacks image t stands agrees))
        (ap (nat_le 384) (entries-count g dir seen p reads b has all image t stands agrees) ∙ full);
  }

  -- so the directory is known, or what is asked for is good
  pub whole_goes : Goes Good (entries_before g seen p b name) Whole
  whole_goes =
      let Is : Option Found → Type 0 = IsFoundIn g seen listed name in
      goes-after Good (λ found. Is found × (found_in g seen p b name ≡ Ok found)) Whole (found_in g seen p b name) _
      (goes-known Good Is (found_in g seen p b name)
      (goes-other (DirAsks g call dir.object seen p) Good Is (found_in g seen p b name) (as-plan g slot call MayHold MayRead dir seen p named may_hold may_read) (find_goes g call dir seen p reads b has name)))
      (λ found is. ended found is.0 is.1)
    where
      ended : (found : Option Found) → IsFoundIn g seen (subs_of (Some b)) name found → found_in g seen p b name ≡ Ok found
          → Goes (PlanAsks g slot call MayHold MayRead seen p) (lacks_by found (after (count_in g seen p b) not_full)) (λ count. HasWhole g seen p dir name b × (found_in g seen p b name ≡ Ok None))
      ended (Some f) is e = exists_good f is
      ended None is e =
          let all = subs-known g seen p reads b name (subs_of (Some b)) e in
          let lacks = names-lack g seen p reads b name (subs_of (Some b)) e in
          let count = length (used_rooms p (subs_of (Some b))) in
          let counted : count_in g seen p b ≡ Ok count = counts-known g seen p reads b name 0 (subs_of (Some b)) e ∙ ap Ok (let none : 0 + count ≡ count = omega arith in none) in
          let Then : ℕ → Type 0 = λ count. HasWhole g seen p dir name b × (found_in g seen p b name ≡ Ok None) in
          subst (λ r. Goes (PlanAsks g slot call MayHold MayRead seen p) (after r not_full) Then) (sym counted)
          (goes-if (PlanAsks g slot call MayHold MayRead seen p) Then (nat_le 384 count) (Err (stops.Done endings.DirFull)) (Ok count)
          (full_good all lacks)
          (λ few. (record { has = has; subs = all; lacks = lacks; few = grind (arith, nat_tests, few) }, e)))

  -- and so are its free rooms
  pub room_goes : Goes Good (room_for g seen p b name) (λ r. HasWhole g seen p dir name b × (found_in g seen p b name ≡ Ok None) × (room_in g seen p b ≡ Ok r))
  room_goes =
      let Then : Option FreeRoom → Type 0 = λ r. HasWhole g seen p dir name b × (found_in g seen p b name ≡ Ok None) × (room_in g seen p b ≡ Ok r) in
      goes-after Good Whole Then (entries_before g seen p b name) _ whole_goes
      (λ count is.
      let known = rooms-known g seen p reads b name listed is.1 in
      subst (λ r. Goes Good r Then) (sym known.1) (is.0, is.1, known.1))

-- the directory itself is known, or what is asked for is good
pub dir_known-goes : (g : Geom) (slot : ℕ) (call : CallOf Key) (MayHold MayRead : SeenValue → Parts → ℕ → Type 0) (dir : Key) (seen : SeenValue) (p : Parts) → ReadsParts g (look_of seen) p
    → Contains (keys_of call) dir → MayHold seen p dir.object → ((at : ℕ) → list_any (nat_eq at) (dir_sectors g p dir.object) ≡ true → MayRead seen p at)
    → ((t : FileTree) → node_of_key t dir ≡ None → Does g t call replies.NoObject t)
    → ((t : FileTree) (blocks : List ℕ) → node_of_key t dir ≡ Some (File blocks) → Does g t call replies.NotDir t)
    → Goes (PlanAsks g slot call MayHold MayRead seen p) (dir_of_key g seen p dir) (HasDir g seen p dir)
dir_known-goes g slot call MayHold MayRead dir seen p reads named may_hold may_read missing no_dir =
    goes-other (DirAsks g call dir.object seen p) (PlanAsks g slot call MayHold MayRead seen p) (HasDir g seen p dir) (dir_of_key g seen p dir)
    (as-plan g slot call MayHold MayRead dir seen p named may_hold may_read) (dir_goes g call dir seen p reads missing no_dir)
