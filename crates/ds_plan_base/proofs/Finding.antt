-- Finding a name in a directory: what is asked for before it is known, and what the tree says of it.
use Rattle.std.proofs.Common.{◌≡◌, ℕ, zero, suc, ◌+◌, ◌/◌, ◌<◌, ◌==◌, ◌||◌, Bool, true, false, nat_eq, nat_lt, if◌then◌else◌, List, [], ◌∷◌, ◌++◌, map, Option, None, Some, inl, inr, refl, sym, ap, subst, ◌∙◌, arith, slice_get, is_some}
use Rattle.std.specs.Prelude.{IsSome, Result, Ok, Err, bytes_eq, option_map, slice_index_or}
use Rattle.std.specs.List.{list_any, filter_map}
use Rattle.std.specs.Cmp.Lexicographic.{slice_cmp}
use Rattle.std.specs.FinMap as maps
use Rattle.std.specs.Ordering.{nat_cmp}
use Rattle.std.proofs.lemmas.Bool.{false≢true, cases_Bool}
use Rattle.std.proofs.lemmas.Bool.Decides.{nat_tests}
use Rattle.std.proofs.lemmas.Cmp.{nat_eq_equiv}
use Rattle.std.proofs.lemmas.List.Elements.{filter_map-append}
use Rattle.std.proofs.lemmas.Map.Text.{is_eq-slice_cmp}
use Rattle.std.proofs.lemmas.Slice.Eq.{bytes_eq-Decides}
use Rattle.ds_base.specs.Geometry.{items_of, per_cluster}
use Rattle.ds_base.specs.declared.geometry.Geom.{Geom}
use Rattle.ds_base.specs.declared.geometry.Kind.TheVariants.{Sb}
use Rattle.ds_base.specs.declared.names.Key.{Key}
use Rattle.ds_base.specs.declared.names.NodeKind.{NodeKind}
use Rattle.ds_base.specs.declared.names.NodeKind.TheVariants as kinds
use Rattle.ds_base.specs.declared.sectors.Sector.{Sector}
use Rattle.ds_dir.specs.declared.sub_block.Entry.{Entry}
use Rattle.ds_dir.specs.declared.sub_block.SubBlock.{SubBlock}
use Rattle.ds_fd.specs.declared.body.Body.{Body}
use Rattle.ds_image.specs.Asking.{Agrees}
use Rattle.ds_image.specs.Guards.{lister_or}
use Rattle.ds_image_parts.specs.Objects.{subs_by, subs_of, rooms_in, rooms_of, used_rooms}
use Rattle.ds_image_tables.specs.Owns.{IsAt}
use Rattle.ds_image_parts.specs.Parts.{Parts, part_at}
use Rattle.ds_image_parts.specs.Readings.{ReadsParts}
use Rattle.ds_image.specs.SeenValues.{SeenValue, look_of}
use Rattle.ds_image.specs.Sound.{StandsFor, sub_lists}
use Rattle.ds_image.specs.declared.asks.Ask.{Ask}
use Rattle.ds_image.specs.declared.asks.Ask.TheVariants as asks
use Rattle.ds_image.proofs.FileTrees.EntryNames.{pairs}
use Rattle.ds_image.proofs.Guarding.{lister_found}
use Rattle.ds_image.proofs.Ownership.Listed.{sub_listed_within}
use Rattle.ds_image.proofs.Spelling.SoundParts.{list-is}
use Rattle.ds_layout.specs.Places.{place_sector, cluster_lock}
use Rattle.ds_layout.specs.declared.places.Place.TheVariants as places
use Rattle.ds_plan_base.specs.Bodies.{part_seen, sub_seen}
use Rattle.ds_plan_base.proofs.DirAsks.{DirAsks}
use Rattle.ds_plan_base.proofs.DirSeen.{HasDir, HasSub, said_entry, IsFoundIn, AreAllIn}
use Rattle.ds_plan_base.specs.Entries.{named_among, found_at, found_from, found_in, subs_known}
use Rattle.ds_image_parts.specs.Objects.{entry_named}
use Rattle.ds_plan_base.proofs.Goes.{Goes}
use Rattle.ds_plan_base.specs.Steps.{or_later}
use Rattle.ds_plan_base.specs.declared.entries.Named.{Named}
use Rattle.ds_plan_base.proofs.Alike.{sub_alike}
use Rattle.ds_plan_base.proofs.Dirs.{dir_in}
use Rattle.ds_plan_base.proofs.Going.{goes-after, goes-weaker, goes-if, goes-part}
use Rattle.ds_plan_base.specs.declared.stops.Stop.{Stop}
use Rattle.ds_plan_base.specs.declared.stops.Stop.TheVariants as stops
use Rattle.ds_tree.specs.Nodes.{FileTree}
use Rattle.ds_tree.specs.declared.calls.CallOf.{CallOf}

-- Items of a list

pub any-at : (xs : List ℕ) (n : ℕ) → list_any (λ x. x == n) xs ≡ true → (i : ℕ) × (slice_get xs i ≡ Some n)
any-at [] n any = absurd (false≢true any)
any-at (x ∷ xs) n any = elim (cases_Bool (x == n)) [
  | inl here ↦ let same : x ≡ n = grind (arith, nat_tests, here) in (0, ap Some same)
  | inr other ↦ let rest = any-at xs n (sym (ap (λ b. b || list_any (λ y. y == n) xs) other) ∙ any) in (suc rest.0, rest.1)
]

or-true : (b : Bool) → (b || true) ≡ true
or-true true = refl
or-true false = refl

pub at-any : (xs : List ℕ) (i n : ℕ) → slice_get xs i ≡ Some n → list_any (λ x. x == n) xs ≡ true
at-any [] i n at = absurd cc
at-any (x ∷ xs) zero n at =
    let same : x ≡ n = cc in
    ap (λ b. b || list_any (λ y. y == n) xs) (ap (λ y. y == n) same ∙ nat_eq_equiv.refl n)
at-any (x ∷ xs) (suc i) n at = ap (λ b. (x == n) || b) (at-any xs i n at) ∙ or-true (x == n)

mapped-any : (f : ℕ → ℕ) (xs : List ℕ) (i n : ℕ) → slice_get xs i ≡ Some n → list_any (nat_eq (f n)) (map f xs) ≡ true
mapped-any f [] i n at = absurd cc
mapped-any f (x ∷ xs) zero n at =
    let same : n ≡ x = cc in
    ap (λ b. b || list_any (nat_eq (f n)) (map f xs)) (ap (λ y. nat_eq (f n) (f y)) (sym same) ∙ nat_eq_equiv.refl (f n))
mapped-any f (x ∷ xs) (suc i) n at = ap (λ b. nat_eq (f n) (f x) || b) (mapped-any f xs i n at) ∙ or-true (nat_eq (f n) (f x))

-- Entries by name

-- where no room of a sub-block has the name, the first entry that has it is one behind these rooms
pub none-among : (room : ℕ) (name : List ℕ) (rooms : List (Option Entry)) (others : List Entry) → named_among room name rooms ≡ None
    → entry_named (filter_map (λ room. room) rooms ++ others) name ≡ entry_named others name
none-among room name [] others none = refl
none-among room name (None ∷ rooms) others none = none-among (suc room) name rooms others none
none-among room name (Some e ∷ rooms) others none = elim (cases_Bool (bytes_eq name e.name)) [
  | inl here ↦
      let wrong : ◌≡◌ {A = Option Named} (Some (record { room = room; key = e.key; kind = e.kind })) None =
      sym (ap (λ b. elim (if b then Some (record { room = room; key = e.key; kind = e.kind }) else None) [
        | None ↦ named_among (suc room) name rooms
        | Some named ↦ Some named
      ]) here) ∙ none in
      absurd cc
  | inr other ↦
      ap (λ b. if b then Some e else entry_named (filter_map (λ room. room) rooms ++ others) name) other
      ∙ none-among (suc room) name rooms others
      (sym (ap (λ b. elim (if b then Some (record { room = room; key = e.key; kind = e.kind }) else None) [
        | None ↦ named_among (suc room) name rooms
        | Some named ↦ Some named
      ]) other) ∙ none)
]

-- and else it is the one that was found
pub record IsAmong (room : ℕ) (name : List ℕ) (rooms : List (Option Entry)) (named : Named) : Type 0 where
  pub place : ℕ
  pub entry : Entry
  pub room_is : named.room ≡ room + place
  pub used : slice_get rooms place ≡ Some (Some entry)
  pub key : named.key ≡ entry.key
  pub kind : named.kind ≡ entry.kind
  pub is_named : entry.name ≡ name
  pub first : (others : List Entry) → entry_named (filter_map (λ room. room) rooms ++ others) name ≡ Some entry

pub among-known : (room : ℕ) (name : List ℕ) (rooms : List (Option Entry)) (named : Named) → named_among room name rooms ≡ Some named → IsAmong room name rooms named
among-known room name [] named found = absurd cc
among-known room name (None ∷ rooms) named found =
    let rest = among-known (suc room) name rooms named found in
    record {
      place = suc rest.place;
      entry = rest.entry;
      room_is = omega (arith, rest.room_is);
      used = rest.used;
      key = rest.key;
      kind = rest.kind;
      is_named = rest.is_named;
      first = rest.first;
    }
among-known room name (Some e ∷ rooms) named found = elim (cases_Bool (bytes_eq name e.name)) [
  | inl here ↦
      let is : ◌≡◌ {A = Option Named} (Some (record { room = room; key = e.key; kind = e.kind })) (Some named) =
      sym (ap (λ b. elim (if b then Some (record { room = room; key = e.key; kind = e.kind }) else None) [
        | None ↦ named_among (suc room) name rooms
        | Some named ↦ Some named
      ]) here) ∙ found in
      let same : ◌≡◌ {A = Named} (record { room = room; key = e.key; kind = e.kind }) named = cc in
      let none : room ≡ room + 0 = omega arith in
      record {
        place = 0;
        entry = e;
        room_is = ap (λ (n : Named). n.room) (sym same) ∙ none;
        used = refl;
        key = ap (λ (n : Named). n.key) (sym same);
        kind = ap (λ (n : Named). n.kind) (sym same);
        is_named = sym ((bytes_eq-Decides name e.name).0 here);
        first = λ others. ap (λ b. if b then Some e else entry_named (filter_map (λ room. room) rooms ++ others) name) here;
      }
  | inr other ↦
      let rest = among-known (suc room) name rooms named
      (sym (ap (λ b. elim (if b then Some (record { room = room; key = e.key; kind = e.kind }) else None) [
        | None ↦ named_among (suc room) name rooms
        | Some named ↦ Some named
      ]) other) ∙ found) in
      record {
        place = suc rest.place;
        entry = rest.entry;
        room_is = omega (arith, rest.room_is);
        used = rest.used;
        key = rest.key;
        kind = rest.kind;
        is_named = rest.is_named;
        first = λ others.
            ap (λ b. if b then Some e else entry_named (filter_map (λ room. room) rooms ++ others) name) other ∙ rest.first others;
      }
]

-- the first entry of a name stands among the entries, and has the name
pub named-at : (es : List Entry) (name : List ℕ) (e : Entry) → entry_named es name ≡ Some e → (i : ℕ) × (slice_get es i ≡ Some e) × (e.name ≡ name)
named-at [] name e found = absurd cc
named-at (x ∷ es) name e found = elim (cases_Bool (bytes_eq name x.name)) [
  | inl here ↦
      let is : Some x ≡ Some e = sym (ap (λ b. if b then Some x else entry_named es name) here) ∙ found in
      let same : x ≡ e = cc in
      (0, is, sym (ap (λ (y : Entry). y.name) same) ∙ sym ((bytes_eq-Decides name x.name).0 here))
  | inr other ↦
      let rest = named-at es name e (sym (ap (λ b. if b then Some x else entry_named es name) other) ∙ found) in
      (suc rest.0, rest.1, rest.2)
]

-- a directory's map has it under its name
pub named-find : (es : List Entry) (name : List ℕ) → maps.find (slice_cmp nat_cmp) name (pairs es) ≡ option_map (λ (e : Entry). e.key.object) (entry_named es name)
named-find [] name = refl
named-find (e ∷ es) name =
    ap (λ b. if b then Some e.key.object else maps.find (slice_cmp nat_cmp) name (pairs es)) (is_eq-slice_cmp name e.name)
    ∙ (elim (bytes_eq name e.name) as (λ b. (if b then Some e.key.object else maps.find (slice_cmp nat_cmp) name (pairs es)) ≡ option_map (λ (e : Entry). e.key.object) (if b then Some e else entry_named es name)) [
      | true ↦ refl
      | false ↦ named-find es name
    ])

-- the entries of a sub-block that was seen, and those of the others
pub used_seen : (p : Parts) (n : ℕ) (block : SubBlock) (subs : List ℕ) → part_at p.subs n ≡ Some block
    → used_rooms p (n ∷ subs) ≡ filter_map (λ room. room) block.rooms ++ used_rooms p subs
used_seen p n block subs there =
    filter_map-append (λ room. room) (rooms_in (part_at p.subs n)) (rooms_of p subs)
    ∙ ap (λ (r : Option SubBlock). filter_map (λ room. room) (rooms_in r) ++ used_rooms p subs) there

-- a sub-block that is known was seen
pub seen-there : {V : Type 0} (at : ℕ) (look : Option Sector) (part : Option V) (v : V) → part_seen at look part ≡ Ok v → part ≡ Some v
seen-there at None part v is = absurd cc
seen-there at (Some s) None v is = absurd cc
seen-there at (Some s) (Some w) v is = let same : w ≡ v = cc in ap Some same

pub sub-there : (g : Geom) (seen : SeenValue) (p : Parts) (b : Body) (n : ℕ) (block : SubBlock) → sub_seen g seen p b n ≡ Ok block
    → part_at p.subs n ≡ Some block
sub-there g seen p b n block is = elim (cases_Bool (nat_lt n (items_of g Sb))) [
  | inl inside ↦
      seen-there (place_sector g (places.SubBlock n)) (look_of seen (place_sector g (places.SubBlock n))) (part_at p.subs n) block
      (sym (ap (λ test. if test then part_seen (place_sector g (places.SubBlock n)) (look_of seen (place_sector g (places.SubBlock n))) (part_at p.subs n) else Err (stops.Odd (place_sector g (places.Body b.object)))) inside) ∙ is)
  | inr past ↦
      let wrong : ◌≡◌ {A = Result SubBlock Stop} (Err (stops.Odd (place_sector g (places.Body b.object)))) (Ok block) =
      sym (ap (λ test. if test then part_seen (place_sector g (places.SubBlock n)) (look_of seen (place_sector g (places.SubBlock n))) (part_at p.subs n) else Err (stops.Odd (place_sector g (places.Body b.object)))) past) ∙ is in
      absurd cc
]

module _ (g : Geom) (call : CallOf Key) (dir : Key) (seen : SeenValue) (p : Parts) (reads : ReadsParts g (look_of seen) p) (b : Body) (has : HasDir g seen p dir b) where
  abbrev Good : Ask → Type 0
  Good = DirAsks g call dir.object seen p

  subs-are : subs_of (Some b) ≡ subs_by b (Some kinds.Dir)
  subs-are = ap (subs_by b) has.sees.is_kind

  -- the sub-block is listed by the directory of the image too
  listed_in : (image : List Sector) (t : FileTree) (stands : StandsFor g image t) → Agrees seen image → (i n : ℕ) → slice_get (subs_of (Some b)) i ≡ Some n
      → IsAt (sub_lists stands.parts) dir.object i n
  listed_in image t stands agrees i n at =
      let body = (dir_in g seen p dir b image t stands reads agrees has).0 in
      ap (λ l. slice_get l i) (list-is subs_of stands.parts.bodies refl dir.object ∙ ap subs_of body) ∙ at

  -- and by no other
  lister_is : (image : List Sector) (t : FileTree) (stands : StandsFor g image t) → Agrees seen image → (i n : ℕ) → slice_get (subs_of (Some b)) i ≡ Some n
      → dir.object ≡ lister_or (sub_lists stands.parts) n (cluster_lock Sb (n / per_cluster g Sb))
  lister_is image t stands agrees i n at =
      let q = stands.parts in
      let here = listed_in image t stands agrees i n at in
      let list : (o : ℕ) → subs_of (part_at q.bodies o) ≡ slice_index_or (map subs_of q.bodies) o [] = λ o. sym (list-is subs_of q.bodies refl o) in
      lister_found g (slice_get image) kinds.Dir q n dir.object (cluster_lock Sb (n / per_cluster g Sb)) stands.reads has.inside
      (λ o before. elim (cases_Bool (list_any (λ x. x == n) (subs_of (part_at q.bodies o)))) [
        | inl any ↦
            let other = any-at (subs_of (part_at q.bodies o)) n any in
            let same = stands.sound.sub_owners.once o other.0 dir.object i n (ap (λ l. slice_get l other.0) (sym (list o)) ∙ other.1) here in
            absurd (omega (arith, before, same.0))
        | inr none ↦ none
      ])
      (at-any (subs_of (part_at q.bodies dir.object)) i n (ap (λ l. slice_get l i) (list dir.object) ∙ here))

  sub_past : (i n : ℕ) → slice_get (subs_of (Some b)) i ≡ Some n → nat_lt n (items_of g Sb) ≡ false → Good (asks.Odd (place_sector g (places.Body b.object)))
  sub_past i n at past =
      let object : b.object ≡ dir.object = ((reads.bodies.each dir.object has.inside b).0 has.sees.there).0 in
      record {
        read = subst (λ o. IsSome (look_of seen (place_sector g (places.Body o)))) (sym object) has.read;
        none = λ image t stands agrees.
            let within = sub_listed_within g (slice_get image) stands.parts dir.object i n stands.reads stands.sound (listed_in image t stands agrees i n at) in
            absurd (grind (arith, nat_tests, past, within));
      }

  sub_unread : (i n : ℕ) → slice_get (subs_of (Some b)) i ≡ Some n → n < items_of g Sb → look_of seen (place_sector g (places.SubBlock n)) ≡ None
      → Good (asks.Read (place_sector g (places.SubBlock n)))
  sub_unread i n at inside unread = record {
    inside = has.inside;
    readable = record {
      metadata = record { place = places.SubBlock n; is_place = inside; here = refl; kept = refl };
      unread = unread;
      guarded = λ image t stands agrees. record {
        object = dir.object;
        guards = record { parts = stands.parts; reads = stands.reads; place = places.SubBlock n; is_place = inside; here = refl; guards = ap Some (sym (lister_is image t stands agrees i n at)) };
        held = has.held;
      };
    };
    one =
        let sector : ℕ → ℕ = λ n. place_sector g (places.SubBlock n) in
        let body : part_at p.bodies dir.object ≡ Some b = has.sees.there in
        ap (λ (r : Option Body). list_any (nat_eq (sector n)) (place_sector g (places.Body dir.object) ∷ map sector (subs_of r))) body
        ∙ ap (λ x. nat_eq (sector n) (place_sector g (places.Body dir.object)) || x) (mapped-any sector (subs_of (Some b)) i n at)
        ∙ or-true (nat_eq (sector n) (place_sector g (places.Body dir.object)));
  }

  same_sub : (image : List Sector) (t : FileTree) (stands : StandsFor g image t) → Agrees seen image → (n : ℕ) → n < items_of g Sb
      → IsSome (look_of seen (place_sector g (places.SubBlock n))) → part_at stands.parts.subs n ≡ part_at p.subs n
  same_sub image t stands agrees n inside read =
      let at = place_sector g (places.SubBlock n) in
      let same : (r : Option Sector) → look_of seen at ≡ r → IsSome r → slice_get image at ≡ r =
      λ r is some. (elim r as (λ (r : Option Sector). look_of seen at ≡ r → IsSome r → slice_get image at ≡ r) [
        | None ↦ λ is some. absurd (false≢true some)
        | Some s ↦ λ is some. agrees at s is
      ]) is some in
      sub_alike g (slice_get image) (look_of seen) stands.parts p n inside (same (look_of seen at) refl read) stands.reads reads

  sub_odd : (i n : ℕ) (s : Sector) → slice_get (subs_of (Some b)) i ≡ Some n → n < items_of g Sb → look_of seen (place_sector g (places.SubBlock n)) ≡ Some s
      → part_at p.subs n ≡ None → Good (asks.Odd (place_sector g (places.SubBlock n)))
  sub_odd i n s at inside there none =
      let read : IsSome (look_of seen (place_sector g (places.SubBlock n))) = ap is_some there in
      record {
        read = read;
        none = λ image t stands agrees.
            let some : IsSome (part_at stands.parts.subs n) = stands.sound.subs dir.object i n (listed_in image t stands agrees i n at) in
            false≢true (sym (ap is_some (same_sub image t stands agrees n inside read ∙ none)) ∙ some);
      }

  -- a sub-block is known, or what is asked for is good
  pub sub_goes : (i n : ℕ) → slice_get (subs_of (Some b)) i ≡ Some n → Goes Good (sub_seen g seen p b n) (HasSub g seen p n)
  sub_goes i n at =
      goes-if Good (HasSub g seen p n) (nat_lt n (items_of g Sb)) _ _
      (λ below.
      let inside : n < items_of g Sb = grind (arith, nat_tests, below) in
      goes-part Good (HasSub g seen p n) (place_sector g (places.SubBlock n)) (look_of seen (place_sector g (places.SubBlock n))) (part_at p.subs n)
      (sub_unread i n at inside) (λ s there none. sub_odd i n s at inside there none)
      (λ s block there is. record { inside = inside; read = ap is_some there; there = is }))
      (sub_past i n at)

  -- the rooms of a sub-block that is known are those of the image
  pub rooms_known : (image : List Sector) (t : FileTree) (stands : StandsFor g image t) → Agrees seen image → (n : ℕ) (block : SubBlock)
      → HasSub g seen p n block → rooms_in (part_at stands.parts.subs n) ≡ block.rooms
  rooms_known image t stands agrees n block is = ap rooms_in (same_sub image t stands agrees n is.inside is.read ∙ is.there)

  pub used_more : (image : List Sector) (t : FileTree) (stands : StandsFor g image t) → Agrees seen image → (n : ℕ) (block : SubBlock) (subs : List ℕ)
      → HasSub g seen p n block → used_rooms stands.parts (n ∷ subs) ≡ filter_map (λ room. room) block.rooms ++ used_rooms stands.parts subs
  used_more image t stands agrees n block subs is =
      filter_map-append (λ room. room) (rooms_in (part_at stands.parts.subs n)) (rooms_of stands.parts subs)
      ∙ ap (λ rooms. filter_map (λ room. room) rooms ++ used_rooms stands.parts subs) (rooms_known image t stands agrees n block is)

  chosen : (name : List ℕ) (n : ℕ) (subs : List ℕ) (block : SubBlock) → HasSub g seen p n block
      → Goes Good (found_from g seen p b name subs) (IsFoundIn g seen subs name) → (r : Option Named) → named_among 0 name block.rooms ≡ r
      → Goes Good (or_later (option_map (found_at n block) r) (found_from g seen p b name subs)) (IsFoundIn g seen (n ∷ subs) name)
  chosen name n subs block is later None none =
      goes-weaker Good (IsFoundIn g seen subs name) (IsFoundIn g seen (n ∷ subs) name) (found_from g seen p b name subs) later
      (λ r said image t stands agrees.
      said image t stands agrees
      ∙ ap said_entry (sym (ap (λ es. entry_named es name) (used_more image t stands agrees n block subs is)
      ∙ none-among 0 name block.rooms (used_rooms stands.parts subs) none)))
  chosen name n subs block is later (Some named) found = λ image t stands agrees.
      let among = among-known 0 name block.rooms named found in
      let said : ◌≡◌ {A = Key × NodeKind} (named.key, named.kind) (among.entry.key, among.entry.kind) =
      ap (λ (k : Key). (k, named.kind)) among.key ∙ ap (λ (k : NodeKind). (among.entry.key, k)) among.kind in
      ap Some said
      ∙ ap said_entry (sym (among.first (used_rooms stands.parts subs)))
      ∙ ap (λ es. said_entry (entry_named es name)) (sym (used_more image t stands agrees n block subs is))

  found_goes : (name : List ℕ) (before : ℕ) (subs : List ℕ) → ((i n : ℕ) → slice_get subs i ≡ Some n → slice_get (subs_of (Some b)) (before + i) ≡ Some n)
      → Goes Good (found_from g seen p b name subs) (IsFoundIn g seen subs name)
  found_goes name before [] are = λ image t stands agrees. refl
  found_goes name before (n ∷ subs) are =
      let at : slice_get (subs_of (Some b)) before ≡ Some n = let same : before + 0 ≡ before = omega arith in subst (λ k. slice_get (subs_of (Some b)) k ≡ Some n) same (are 0 n refl) in
      let later = found_goes name (suc before) subs
      (λ i m at. let same : suc before + i ≡ before + suc i = omega arith in subst (λ k. slice_get (subs_of (Some b)) k ≡ Some m) (sym same) (are (suc i) m at)) in
      goes-after Good (HasSub g seen p n) (IsFoundIn g seen (n ∷ subs) name) (sub_seen g seen p b n) _ (sub_goes before n at)
      (λ block is. chosen name n subs block is later (named_among 0 name block.rooms) refl)

  -- the entry is known, or what is asked for is good
  pub find_goes : (name : List ℕ) → Goes Good (found_in g seen p b name) (IsFoundIn g seen (subs_of (Some b)) name)
  find_goes name = found_goes name 0 (subs_of (Some b)) (λ i n at. let same : 0 + i ≡ i = omega arith in subst (λ k. slice_get (subs_of (Some b)) k ≡ Some n) (sym same) at)

  known_goes : (before : ℕ) (subs : List ℕ) → ((i n : ℕ) → slice_get subs i ≡ Some n → slice_get (subs_of (Some b)) (before + i) ≡ Some n)
      → Goes Good (subs_known g seen p b subs) (λ c. AreAllIn g seen p subs)
  known_goes before [] are = λ image t stands agrees. refl
  known_goes before (n ∷ subs) are =
      let at : slice_get (subs_of (Some b)) before ≡ Some n = let same : before + 0 ≡ before = omega arith in subst (λ k. slice_get (subs_of (Some b)) k ≡ Some n) same (are 0 n refl) in
      let later = known_goes (suc before) subs
      (λ i m at. let same : suc before + i ≡ before + suc i = omega arith in subst (λ k. slice_get (subs_of (Some b)) k ≡ Some m) (sym same) (are (suc i) m at)) in
      let Known : Body → Type 0 = λ c. AreAllIn g seen p (n ∷ subs) in
      goes-after Good (HasSub g seen p n) Known (sub_seen g seen p b n) _ (sub_goes before n at)
      (λ block is.
      goes-weaker Good (λ c. AreAllIn g seen p subs) Known (subs_known g seen p b subs) later
      (λ c same image t stands agrees.
      used_seen p n block subs is.there ∙ ap (λ es. filter_map (λ room. room) block.rooms ++ es) (same image t stands agrees)
      ∙ sym (used_more image t stands agrees n block subs is)))

  -- all sub-blocks are known, or what is asked for is good
  pub whole_goes : Goes Good (subs_known g seen p b (subs_of (Some b))) (λ c. AreAllIn g seen p (subs_of (Some b)))
  whole_goes = known_goes 0 (subs_of (Some b)) (λ i n at. let same : 0 + i ≡ i = omega arith in subst (λ k. slice_get (subs_of (Some b)) k ≡ Some n) (sym same) at)
