-- What is written to rename an entry is right.
use Rattle.std.proofs.Common.{◌≡◌, ◌≢◌, ℕ, ◌*◌, ◌<◌, Bool, true, false, not, nat_lt, if◌then◌else◌, List, [], ◌∷◌, length, None, Some, inl, inr, refl, sym, ap, subst, ◌∙◌, arith, slice_get}
use Rattle.std.specs.Prelude.{Ok, IsSome}
use Rattle.std.specs.FinMap as maps
use Rattle.std.proofs.lemmas.Bool.{cases_Bool}
use Rattle.std.proofs.lemmas.Bool.Decides.{nat_tests}
use Rattle.ds_base.specs.Geometry.{IsGeom, items_of}
use Rattle.ds_base.specs.Names.{IsName}
use Rattle.ds_base.specs.declared.geometry.Geom.{Geom}
use Rattle.ds_base.specs.declared.geometry.Kind.TheVariants.{Sb}
use Rattle.ds_base.specs.declared.names.Key.{Key}
use Rattle.ds_base.specs.declared.names.NodeKind.TheVariants as kinds
use Rattle.ds_base.specs.declared.sectors.Sector.{Sector}
use Rattle.ds_bitmap.specs.Bits.{bits_bytes}
use Rattle.ds_plan_laws_new.specs.Entering.{subs_in, FillsRoom}
use Rattle.ds_image.specs.SeenValues.{HoldsLock}
use Rattle.ds_plan_laws_new.specs.Redos.{two_pairs, AreInOrder}
use Rattle.ds_plan_laws_new.proofs.RightChanges.{right-change}
use Rattle.ds_dir.specs.SubBlock.{sub_bytes}
use Rattle.ds_dir.specs.declared.sub_block.Entry.{Entry}
use Rattle.ds_dir.specs.declared.sub_block.SubBlock.{SubBlock}
use Rattle.ds_fd.specs.Body.{body_bytes}
use Rattle.ds_fd.specs.declared.body.Body.{Body}
use Rattle.ds_plan_laws_gone.specs.Moving.{IsRenamed, ReadyToRename, ReadyToLeave, ReadyToAdd}
use Rattle.ds_plan_laws_gone.proofs.Crossing as crossing
use Rattle.ds_plan_laws_gone.proofs.CrossingGrown as growing
use Rattle.ds_plan_laws_gone.proofs.StandsCrossed.{crossed-pairs, crossed-leaves, crossed-guarded_before, crossed-guarded_after}
use Rattle.ds_plan_laws_gone.proofs.StandsCrossedGrown.{crossed_grown-pairs, crossed_grown-leaves, crossed_grown-guarded_before, crossed_grown-guarded_after}
use Rattle.ds_plan_laws_gone.proofs.StandsRenamed.{renamed-leaves, renamed-guarded_before, renamed-guarded_after}
use Rattle.ds_image.specs.Asking.{Agrees}
use Rattle.ds_image_parts.specs.Objects.{subs_by, subs_of, used_rooms, entries_of}
use Rattle.ds_image_parts.specs.Parts.{Parts, part_at, maps_of}
use Rattle.ds_image_parts.specs.Pending.{Pair}
use Rattle.ds_image_parts.specs.Readings.{ReadsParts}
use Rattle.ds_image.specs.SeenValues.{SeenValue, look_of}
use Rattle.ds_image.specs.Sound.{StandsFor}
use Rattle.ds_layout.proofs.Bounds.{most_items_of}
use Rattle.ds_layout.specs.Places.{place_sector}
use Rattle.ds_layout.specs.declared.places.Place.TheVariants as places
use Rattle.ds_plan_base.proofs.DirAsks.{FitsNone}
use Rattle.ds_plan_base.proofs.DirSeen.{HasDir}
use Rattle.ds_plan_base.specs.Entries.{found_in}
use Rattle.ds_plan_base.specs.Items.{number_of, map_taken}
use Rattle.ds_plan_base.specs.Objects.{CanGrow}
use Rattle.ds_plan_base.proofs.PlanAsks.{IsPlanChange, HasItem, HasWhole}
use Rattle.ds_plan_base.specs.Redos.{block_emptied, body_grown, block_filled, block_alone, body_pair, map_pair, sub_pair}
use Rattle.ds_plan_base.specs.declared.entries.Found.{Found}
use Rattle.ds_plan_base.specs.declared.items.FreeItem.{FreeItem}
use Rattle.ds_plan_base.specs.declared.rooms.FreeRoom.{FreeRoom}
use Rattle.ds_plan_base.proofs.Founds.{HasFound}
use Rattle.ds_plan_base.proofs.Alike.{sub_alike, some-there}
use Rattle.ds_plan_base.proofs.Dirs.{dir_in}
use Rattle.ds_plan_base.proofs.Known.{HasBlock, HasRoom}
use Rattle.ds_plan_base.proofs.Limits.{map_alike}
use Rattle.ds_plan_base.proofs.NewBodies.{item-within, grown-is_body}
use Rattle.ds_plan_base.proofs.Wholes.{subs-known, names-lack, rooms-same, entries-absent}
use Rattle.ds_plan_rename.specs.Redos.{entry_moved, block_renamed, subs_in_order, pairs_kept, pairs_moved, pairs_grown}
use Rattle.ds_plan_rename.proofs.Targets.{kept-targets, crossed-targets, grown-targets}
use Rattle.ds_tree.specs.Nodes.{FileTree}
use Rattle.ds_tree.specs.declared.calls.CallOf.{CallOf}
use Rattle.ds_tree.specs.declared.calls.CallOf.TheVariants as calls
use Rattle.ds_tree.specs.declared.calls.TreeReply.TheVariants.{Moved}

-- which of two sub-blocks comes first
record IsOrdered (n m : ℕ) : Type 0 where
  swapped : Bool
  ordered : AreInOrder swapped n m
  test : nat_lt n m ≡ not swapped

in-order : (n m : ℕ) → n ≢ m → IsOrdered n m
in-order n m apart = elim (cases_Bool (nat_lt n m)) [
  | inl below ↦
      let less : n < m = grind (arith, nat_tests, below) in
      record { swapped = false; ordered = less; test = below }
  | inr past ↦
      let less : m < n = grind (arith, nat_tests, past, apart) in
      record { swapped = true; ordered = less; test = past }
]

subs-as : (g : Geom) (n : ℕ) (a : SubBlock) (m : ℕ) (b : SubBlock) (swapped : Bool) → nat_lt n m ≡ not swapped
    → subs_in_order g n a m b ≡ two_pairs swapped (sub_pair g n a) (sub_pair g m b) []
subs-as g n a m b false e =
    ap (λ test. if test then sub_pair g n a ∷ sub_pair g m b ∷ [] else sub_pair g m b ∷ sub_pair g n a ∷ []) e
subs-as g n a m b true e =
    ap (λ test. if test then sub_pair g n a ∷ sub_pair g m b ∷ [] else sub_pair g m b ∷ sub_pair g n a ∷ []) e

module _ (g : Geom) (is_geom : IsGeom g) (key : Key) (name : List ℕ) (to_key : Key) (fresh : List ℕ) (named : IsName fresh)
    (seen : SeenValue) (p : Parts) (reads : ReadsParts g (look_of seen) p) (dir : Body) (has : HasDir g seen p key dir) (from : Found) (room : HasFound g seen p dir name (subs_of (Some dir)) from) where
  abbrev call : CallOf Key
  call = calls.Rename key name to_key fresh

  abbrev old : Entry
  old = room.entry

  abbrev new : Entry
  new = entry_moved from fresh

  abbrev Changes : List Pair → Type 0
  Changes pairs = IsPlanChange g (calls.Rename key old.name to_key fresh) seen pairs (Moved old.key)

  -- the entry that was found is the one that the call names
  as-called : (pairs : List Pair) → Changes pairs → IsPlanChange g call seen pairs (Moved from.key)
  as-called pairs is =
      subst (λ n. IsPlanChange g (calls.Rename key n to_key fresh) seen pairs (Moved from.key)) room.named
      (subst (λ k. IsPlanChange g (calls.Rename key old.name to_key fresh) seen pairs (Moved k)) (sym room.key) is)

  renamed : IsRenamed old new
  renamed = record { same_key = room.key; same_kind = room.kind; named = named }

  abbrev subs : List ℕ
  subs = subs_of (Some dir)

  subs-are : subs_of (Some dir) ≡ subs_in dir
  subs-are = ap (subs_by dir) has.sees.is_kind

  listed : slice_get (subs_in dir) room.place ≡ Some from.sub
  listed = ap (λ l. slice_get l room.place) (sym subs-are) ∙ room.listed

  -- a sub-block that was seen is that of each image that agrees
  sub-same : (n : ℕ) (block : SubBlock) → HasBlock g seen p n block → (image : List Sector) (t : FileTree) (stands : StandsFor g image t) → Agrees seen image
      → part_at stands.parts.subs n ≡ Some block
  sub-same n block is image t stands agrees =
      let at = place_sector g (places.SubBlock n) in
      let known = some-there (look_of seen at) is.read in
      sub_alike g (slice_get image) (look_of seen) stands.parts p n is.inside (agrees at known.0 known.1 ∙ sym known.1) stands.reads reads ∙ is.there

  -- Inside one directory

  module _ (has_to : HasDir g seen p to_key dir) (same : key.object ≡ to_key.object) (lacks : found_in g seen p dir fresh ≡ Ok None) where
    ready : (image : List Sector) (t : FileTree) (stands : StandsFor g image t) → Agrees seen image
        → ReadyToRename stands.parts key to_key dir old new from.sub (block_renamed from fresh)
    ready image t stands agrees = record {
      same_object = sym same;
      lacks = record {
        there = (dir_in g seen p key dir image t stands reads agrees has).0;
        is_dir = has.sees.is_kind;
        absent = subst (λ l. maps.get (entries_of stands.parts l) fresh ≡ None) subs-are
            (entries-absent g key seen p reads dir has fresh (subs-known g seen p reads dir fresh subs lacks) (names-lack g seen p reads dir fresh subs lacks) image t stands agrees);
      };
      life = has.sees.life;
      to_life = has_to.sees.life;
      rewrites = record {
        place = room.place;
        room = from.room;
        before = from.block;
        listed = listed;
        there = sub-same from.sub from.block room.has image t stands agrees;
        used = room.used;
        rewritten = refl;
      };
      renamed = renamed;
    }

    pub kept-good : IsPlanChange g call seen (pairs_kept g from fresh) (Moved from.key)
    kept-good =
        let n = from.sub in
        let block = block_renamed from fresh in
        let sector : Sector = record { bytes = sub_bytes block } in
        as-called (pairs_kept g from fresh)
        (record {
          targets = kept-targets g n room.has.inside;
          right = λ image t stands agrees.
              let rename = ready image t stands agrees in
              right-change g (calls.Rename key old.name to_key fresh) seen image t (pairs_kept g from fresh) (Moved old.key) refl refl tt
              (renamed-leaves g is_geom image t stands key to_key dir old new n block rename sector refl)
              (renamed-guarded_before g is_geom image t stands key to_key dir old new n block rename sector refl (HoldsLock seen) has.held)
              (renamed-guarded_after g is_geom image t stands key to_key dir old new n block rename sector refl (HoldsLock seen) has.held);
        })

  -- Into another directory

  module _ (to : Body) (whole : HasWhole g seen p to_key fresh to) (apart : key.object ≢ to_key.object) (is_file : from.kind ≡ kinds.File) where
    to-are : subs_of (Some to) ≡ subs_in to
    to-are = ap (subs_by to) whole.has.sees.is_kind

    abbrev emptied : SubBlock
    emptied = block_emptied from

    abbrev from_sector : Sector
    from_sector = record { bytes = sub_bytes emptied }

    leaves : (image : List Sector) (t : FileTree) (stands : StandsFor g image t) → Agrees seen image
        → ReadyToLeave stands.parts key to_key dir to old new from.sub emptied
    leaves image t stands agrees = record {
      apart = apart;
      in_dir = record { there = (dir_in g seen p key dir image t stands reads agrees has).0; is_dir = has.sees.is_kind };
      life = has.sees.life;
      empties = record {
        place = room.place;
        room = from.room;
        before = from.block;
        listed = listed;
        there = sub-same from.sub from.block room.has image t stands agrees;
        used = room.used;
        emptied = refl;
      };
      lacks = record {
        there = (dir_in g seen p to_key to image t stands reads agrees whole.has).0;
        is_dir = whole.has.sees.is_kind;
        absent = subst (λ l. maps.get (entries_of stands.parts l) fresh ≡ None) to-are
            (entries-absent g to_key seen p reads to whole.has fresh whole.subs whole.lacks image t stands agrees);
      };
      to_life = whole.has.sees.life;
      renamed = renamed;
      is_file = sym room.kind ∙ is_file;
    }

    -- where it has a free room
    module _ (free : FreeRoom) (place : HasRoom g seen p (subs_of (Some to)) free) where
      abbrev filled : SubBlock
      filled = block_filled free new

      abbrev to_sector : Sector
      to_sector = record { bytes = sub_bytes filled }

      fills : (image : List Sector) (t : FileTree) (stands : StandsFor g image t) → Agrees seen image → FillsRoom stands.parts to free.sub new filled
      fills image t stands agrees = record {
        place = place.place;
        room = free.room;
        before = free.block;
        listed = ap (λ l. slice_get l place.place) (sym to-are) ∙ place.listed;
        there = sub-same free.sub free.block place.has image t stands agrees;
        free = place.is_free;
        filled = refl;
      }

      -- its sub-block isn't that of the entry
      pub room-odd : from.sub ≡ free.sub → FitsNone g seen (place_sector g (places.SubBlock free.sub))
      room-odd same = record {
        read = place.has.read;
        none = λ image t stands agrees.
            crossing.subs-differ stands.parts stands.sound key to_key dir to old new from.sub emptied (leaves image t stands agrees) free.sub filled (fills image t stands agrees) same;
      }

      ordered-good : (swapped : Bool) → AreInOrder swapped from.sub free.sub → Changes (crossed-pairs g swapped from.sub free.sub from_sector to_sector)
      ordered-good swapped ordered = record {
        targets = crossed-targets g from.sub free.sub room.has.inside place.has.inside swapped ordered from_sector to_sector;
        right = λ image t stands agrees.
            let leave = leaves image t stands agrees in
            let fill = fills image t stands agrees in
            right-change g (calls.Rename key old.name to_key fresh) seen image t (crossed-pairs g swapped from.sub free.sub from_sector to_sector) (Moved old.key) refl refl tt
            (crossed-leaves g is_geom image t stands key to_key dir to old new from.sub emptied leave free.sub filled fill from_sector to_sector refl refl swapped)
            (crossed-guarded_before g is_geom image t stands key to_key dir to old new from.sub emptied leave free.sub filled fill from_sector to_sector refl refl
            (HoldsLock seen) has.held whole.has.held swapped)
            (crossed-guarded_after g is_geom image t stands key to_key dir to old new from.sub emptied leave free.sub filled fill from_sector to_sector refl refl
            (HoldsLock seen) has.held whole.has.held swapped);
      }

      pub moved-good : from.sub ≢ free.sub → IsPlanChange g call seen (pairs_moved g from free fresh) (Moved from.key)
      moved-good differ =
          let order = in-order from.sub free.sub differ in
          as-called (pairs_moved g from free fresh)
          (subst Changes (sym (subs-as g from.sub emptied free.sub filled order.swapped order.test)) (ordered-good order.swapped order.ordered))

    -- where it gets a sub-block
    module _ (sub : FreeItem) (has_sub : HasItem g seen p Sb sub) (can : CanGrow to) (full : length (used_rooms p (subs_of (Some to))) ≡ 4 * to.count) where
      abbrev n : ℕ
      n = number_of g Sb sub

      n-within : n < items_of g Sb
      n-within = item-within g Sb sub has_sub.is_free

      abbrev grown : Body
      grown = body_grown to n

      abbrev alone : SubBlock
      alone = block_alone new

      abbrev map_sector : Sector
      map_sector = record { bytes = bits_bytes (map_taken sub) }

      abbrev body_sector : Sector
      body_sector = record { bytes = body_bytes grown }

      abbrev new_sector : Sector
      new_sector = record { bytes = sub_bytes alone }

      map-same : (image : List Sector) (t : FileTree) (stands : StandsFor g image t) → Agrees seen image → part_at (maps_of stands.parts Sb) sub.cluster ≡ Some sub.map
      map-same image t stands agrees =
          let at = place_sector g (places.Bitmap Sb sub.cluster) in
          let known = some-there (look_of seen at) has_sub.has.read in
          map_alike g (slice_get image) (look_of seen) stands.parts p Sb sub.cluster has_sub.has.inside (agrees at known.0 known.1 ∙ sym known.1) stands.reads reads ∙ has_sub.has.there

      adds : (image : List Sector) (t : FileTree) (stands : StandsFor g image t) → Agrees seen image → ReadyToAdd g stands.parts to n new grown sub.cluster (map_taken sub) alone
      adds image t stands agrees = record {
        item = sub.item;
        is_item = refl;
        marks = record {
          before = sub.map;
          there = map-same image t stands agrees;
          was = has_sub.is_free.is_free;
          changed = refl;
          same_kind = refl;
          same_cluster = refl;
        };
        adds = record {
          full = ap (λ l. length (used_rooms stands.parts l)) (sym to-are)
              ∙ ap (length {A = Entry}) (rooms-same g to_key seen p reads to whole.has whole.subs image t stands agrees) ∙ full;
          is_body = grown-is_body to n can (omega (arith, n-within, most_items_of g Sb is_geom));
          object = refl;
          kind = refl;
          birth = refl;
          count = refl;
          addresses = refl;
          alone = refl;
        };
      }

      -- it isn't that of the entry
      pub item-odd : from.sub ≡ n → FitsNone g seen (place_sector g (places.SubBlock n))
      item-odd same = record {
        read = subst (λ m. IsSome (look_of seen (place_sector g (places.SubBlock m)))) same room.has.read;
        none = λ image t stands agrees.
            growing.subs-differ g (slice_get image) stands.parts stands.reads stands.sound key to_key dir to old new from.sub emptied (leaves image t stands agrees)
            n grown sub.cluster (map_taken sub) alone (adds image t stands agrees) same;
      }

      abbrev pairs_by : Bool → List Pair
      pairs_by swapped = crossed_grown-pairs g swapped sub.cluster to_key.object from.sub n map_sector body_sector from_sector new_sector

      grown_ordered-good : (swapped : Bool) → AreInOrder swapped from.sub n → Changes (pairs_by swapped)
      grown_ordered-good swapped ordered = record {
        targets = grown-targets g from.sub n room.has.inside n-within sub.cluster to_key.object has_sub.has.inside whole.has.inside swapped ordered
            map_sector body_sector from_sector new_sector;
        right = λ image t stands agrees.
            let leave = leaves image t stands agrees in
            let add = adds image t stands agrees in
            right-change g (calls.Rename key old.name to_key fresh) seen image t (pairs_by swapped) (Moved old.key) refl refl tt
            (crossed_grown-leaves g is_geom image t stands key to_key dir to old new from.sub emptied leave n grown sub.cluster (map_taken sub) alone add
            map_sector body_sector from_sector new_sector refl refl refl refl swapped)
            (crossed_grown-guarded_before g is_geom image t stands key to_key dir to old new from.sub emptied leave n grown sub.cluster (map_taken sub) alone add
            map_sector body_sector from_sector new_sector refl refl refl refl (HoldsLock seen) has_sub.has.held has.held whole.has.held swapped)
            (crossed_grown-guarded_after g is_geom image t stands key to_key dir to old new from.sub emptied leave n grown sub.cluster (map_taken sub) alone add
            map_sector body_sector from_sector new_sector refl refl refl refl (HoldsLock seen) has_sub.has.held has.held whole.has.held swapped);
      }

      to-object : to.object ≡ to_key.object
      to-object = ((reads.bodies.each to_key.object whole.has.inside to).0 whole.has.sees.there).0

      pairs-in : (swapped : Bool) → nat_lt from.sub n ≡ not swapped → pairs_grown g from to sub fresh ≡ pairs_by swapped
      pairs-in swapped test =
          ap (λ rest. map_pair g Sb sub ∷ body_pair g grown ∷ rest) (subs-as g from.sub emptied n alone swapped test)
          ∙ ap (λ o. map_pair g Sb sub ∷ (place_sector g (places.Body o), body_sector) ∷ two_pairs swapped (sub_pair g from.sub emptied) (sub_pair g n alone) []) to-object

      pub grown-good : from.sub ≢ n → IsPlanChange g call seen (pairs_grown g from to sub fresh) (Moved from.key)
      grown-good differ =
          let order = in-order from.sub n differ in
          as-called (pairs_grown g from to sub fresh)
          (subst Changes (sym (pairs-in order.swapped order.test)) (grown_ordered-good order.swapped order.ordered))
