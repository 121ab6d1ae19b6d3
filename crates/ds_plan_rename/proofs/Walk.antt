-- Step by step the planner of Rename asks for what it may, until it knows the change.
use Rattle.std.proofs.Common.{◌≡◌, ◌≢◌, ℕ, ◌+◌, ◌*◌, ◌≤◌, ◌==◌, true, false, nat_le, List, length, Option, None, Some, refl, sym, ap, subst, ◌∙◌, eq-eqb, arith, is_some, length-take-le}
use Rattle.std.specs.Prelude.{Result, Ok, Err, option_map, if◌then◌else◌}
use Rattle.std.specs.FinMap as maps
use Rattle.std.specs.List.{Contains}
use Rattle.std.proofs.lemmas.Bool.{false≢true}
use Rattle.std.proofs.lemmas.Bool.Decides.{nat_tests}
use Rattle.std.proofs.lemmas.Option.{same_Some}
use Rattle.ds_base.specs.Geometry.{IsGeom}
use Rattle.ds_base.specs.Names.{IsName}
use Rattle.ds_base.specs.declared.geometry.Geom.{Geom}
use Rattle.ds_base.specs.declared.geometry.GeomField.TheVariants.{Clusters}
use Rattle.ds_base.specs.declared.geometry.Kind.TheVariants.{Sb}
use Rattle.ds_base.specs.declared.names.Key.{Key}
use Rattle.ds_base.specs.declared.names.NodeKind.{NodeKind}
use Rattle.ds_base.specs.declared.names.NodeKind.TheVariants as kinds
use Rattle.ds_base.specs.declared.sectors.Sector.{Sector}
use Rattle.ds_dir.specs.declared.sub_block.Entry.{Entry}
use Rattle.ds_fd.specs.Body.{most_count}
use Rattle.ds_fd.specs.declared.body.Body.{Body}
use Rattle.ds_image.specs.Asking.{Agrees}
use Rattle.ds_image_parts.specs.Objects.{subs_by, subs_of, used_rooms, entries_of}
use Rattle.ds_image_parts.specs.Parts.{Parts, part_at}
use Rattle.ds_image_parts.specs.Pending.{Pair}
use Rattle.ds_image_parts.specs.Readings.{ReadsParts}
use Rattle.ds_image.specs.SeenValues.{SeenValue, look_of}
use Rattle.ds_image.specs.Sound.{StandsFor}
use Rattle.ds_image.specs.declared.asks.Ask.{Ask}
use Rattle.ds_image.specs.declared.asks.Ask.TheVariants as asks
use Rattle.ds_image.proofs.FileTrees.EntryNames.{get-entries}
use Rattle.ds_image.proofs.Spelling.Sizes.{body_is}
use Rattle.ds_layout.specs.Places.{place_sector}
use Rattle.ds_layout.specs.declared.places.Place.TheVariants as places
use Rattle.ds_plan_base.specs.Bodies.{dir_of_key}
use Rattle.ds_plan_base.proofs.DirAsks.{DirAsks, FitsNone}
use Rattle.ds_plan_base.proofs.DirSeen.{HasDir, IsFoundIn, said_found, said_entry}
use Rattle.ds_plan_base.specs.Entries.{found_in, entry_by, wanted_entry}
use Rattle.ds_image_parts.specs.Objects.{entry_named}
use Rattle.ds_plan_base.proofs.Goes.{Goes}
use Rattle.ds_plan_base.specs.Items.{free_item, number_of, wanted_item}
use Rattle.ds_image.specs.Locks.{Needs, keys_of, sub_block_for_name}
use Rattle.ds_plan_base.specs.Objects.{CanGrow}
use Rattle.ds_plan_base.proofs.PlanAsks.{PlanAsks, IsPlanChange, HasItem, HasWhole}
use Rattle.ds_plan_base.specs.Rooms.{room_in, room_for}
use Rattle.ds_plan_base.specs.Steps.{after}
use Rattle.ds_plan_base.specs.declared.entries.Found.{Found}
use Rattle.ds_plan_base.specs.declared.rooms.FreeRoom.{FreeRoom}
use Rattle.ds_plan_base.proofs.Dirs.{dir_goes_in, dir_in}
use Rattle.ds_plan_base.proofs.Finding.{find_goes, named-find}
use Rattle.ds_plan_base.proofs.Founds.{HasFound, found-known}
use Rattle.ds_plan_base.proofs.Going.{goes-after, goes-if}
use Rattle.ds_plan_base.proofs.ItemWalk.{goes-known, wanted_goes}
use Rattle.ds_plan_base.proofs.Known.{room-place, rooms-full}
use Rattle.ds_plan_base.proofs.Wholes.{goes-other, as-plan, dir-node, entries-count, entries-absent, counts-known, takes, room_goes, dir_known-goes}
use Rattle.ds_plan_base.specs.declared.stops.Stop.{Stop}
use Rattle.ds_plan_rename.specs.Answers.{moving, kept_known, other_sub, moved_by, moved_known, change_known, changed}
use Rattle.ds_plan_rename.proofs.Changes.{kept-good, room-odd, moved-good, item-odd, grown-good}
use Rattle.ds_plan_rename.specs.Entries.{kept_by, entry_kept}
use Rattle.ds_plan_rename.proofs.Holding.{MayHold, the_dir, the_other, a_cluster, MayRead, of_dir, of_other, of_cluster}
use Rattle.ds_plan_rename.specs.Redos.{pairs_moved, pairs_grown}
use Rattle.ds_plan_rename.proofs.Refusals.{HasNamed, entry-in_tree, missing, no_dir, to-missing, to-no_dir, no-entry, crosses, there-inside, there-across, full-across, no-room}
use Rattle.ds_plan_rename.specs.declared.renaming.Moving.{Moving}
use Rattle.ds_tree.specs.Counts.{free_of}
use Rattle.ds_tree.specs.Nodes.{Entries, Dir, FileTree, node_of_key}
use Rattle.ds_tree.specs.Steps.{Does, is_full}
use Rattle.ds_tree.specs.declared.calls.CallOf.{CallOf}
use Rattle.ds_tree.specs.declared.calls.CallOf.TheVariants as calls
use Rattle.ds_tree.specs.declared.calls.TreeReply.TheVariants as replies

differ : (a b : ℕ) → (a == b) ≡ false → a ≢ b
differ a b other same = false≢true (sym other ∙ eq-eqb a b same)

module _ (g : Geom) (is_geom : IsGeom g) (slot : ℕ) (key : Key) (name : List ℕ) (to_key : Key) (fresh : List ℕ) (named : IsName fresh)
    (seen : SeenValue) (p : Parts) (reads : ReadsParts g (look_of seen) p) where
  abbrev call : CallOf Key
  call = calls.Rename key name to_key fresh

  abbrev Holds : SeenValue → Parts → ℕ → Type 0
  Holds = MayHold key.object to_key.object

  abbrev HasRead : SeenValue → Parts → ℕ → Type 0
  HasRead = MayRead g key.object to_key.object

  abbrev Good : Ask → Type 0
  Good = PlanAsks g slot call Holds HasRead seen p

  abbrev Done_well : Moving → Type 0
  Done_well moving = IsPlanChange g call seen moving.redo.pairs.items (replies.Moved moving.key)

  names_dir : Contains (keys_of call) key
  names_dir = (0, omega arith, refl)

  names_to : Contains (keys_of call) to_key
  names_to = (1, omega arith, refl)

  -- both directories

  dir-goes : Goes Good (dir_of_key g seen p key) (HasDir g seen p key)
  dir-goes =
      dir_known-goes g slot call Holds HasRead key seen p reads names_dir the_dir (λ at any. of_dir at any)
      (λ t none. missing g t key name to_key fresh none) (λ t blocks file. no_dir g t key name to_key fresh blocks file)

  module _ (dir : Body) (has : HasDir g seen p key dir) where
    abbrev subs : List ℕ
    subs = subs_of (Some dir)

    dir-is : (image : List Sector) (t : FileTree) (stands : StandsFor g image t) → Agrees seen image → node_of_key t key ≡ Some (Dir (entries_of stands.parts subs) (4 * dir.count))
    dir-is = dir-node g key seen p reads dir has

    to-goes : Goes Good (dir_of_key g seen p to_key) (HasDir g seen p to_key)
    to-goes =
        goes-other (DirAsks g call to_key.object seen p) Good (HasDir g seen p to_key) (dir_of_key g seen p to_key)
        (as-plan g slot call Holds HasRead to_key seen p names_to the_other (λ at any. of_other at any))
        (dir_goes_in g call to_key seen p reads
        (λ image t stands agrees none.
        to-missing g t key name to_key fresh (entries_of stands.parts subs) (4 * dir.count) (dir-is image t stands agrees) none)
        (λ image t blocks stands agrees file.
        to-no_dir g t key name to_key fresh (entries_of stands.parts subs) (4 * dir.count) (dir-is image t stands agrees) blocks file))

    -- a name in the entry's directory

    abbrev Finds : List ℕ → Option Found → Type 0
    Finds sought found = IsFoundIn g seen subs sought found × (found_in g seen p dir sought ≡ Ok found)

    find-goes : (sought : List ℕ) → Goes Good (found_in g seen p dir sought) (Finds sought)
    find-goes sought =
        goes-known Good (IsFoundIn g seen subs sought) (found_in g seen p dir sought)
        (goes-other (DirAsks g call key.object seen p) Good (IsFoundIn g seen subs sought) (found_in g seen p dir sought)
        (as-plan g slot call Holds HasRead key seen p names_dir the_dir (λ at any. of_dir at any)) (find_goes g call key seen p reads dir has sought))

    -- what was found is in the tree
    named-by : (sought : List ℕ) (f : Found) (image : List Sector) (t : FileTree) (stands : StandsFor g image t) → Agrees seen image → (r : Option Entry)
        → entry_named (used_rooms stands.parts subs) sought ≡ r → said_found (Some f) ≡ said_entry r → HasNamed t (entries_of stands.parts subs) sought f.kind
    named-by sought f image t stands agrees None e said = absurd cc
    named-by sought f image t stands agrees (Some x) e said =
        let pair : ◌≡◌ {A = Key × NodeKind} (f.key, f.kind) (x.key, x.kind) = same_Some (f.key, f.kind) (x.key, x.kind) said in
        let kind : f.kind ≡ x.kind = ap (λ (pair : Key × NodeKind). pair.1) pair in
        subst (HasNamed t (entries_of stands.parts subs) sought) (sym kind)
        (entry-in_tree g image t stands key.object dir sought x (dir_in g seen p key dir image t stands reads agrees has).0 e)

    named-in : (sought : List ℕ) (f : Found) → IsFoundIn g seen subs sought (Some f) → (image : List Sector) (t : FileTree) (stands : StandsFor g image t) → Agrees seen image
        → HasNamed t (entries_of stands.parts subs) sought f.kind
    named-in sought f found image t stands agrees =
        named-by sought f image t stands agrees (entry_named (used_rooms stands.parts subs) sought) refl (found image t stands agrees)

    -- what wasn't isn't
    absent-by : (parts : Parts) (r : Option Entry) → entry_named (used_rooms parts subs) name ≡ r → said_found None ≡ said_entry r
        → maps.contains_key (entries_of parts subs) name ≡ false
    absent-by parts None e said =
        let es = used_rooms parts subs in
        ap is_some (get-entries es name ∙ named-find es name ∙ ap (option_map (λ (e : Entry). e.key.object)) e)
    absent-by parts (Some x) e said = absurd cc

    module _ (to : Body) (has_to : HasDir g seen p to_key to) where
      to-is : (image : List Sector) (t : FileTree) (stands : StandsFor g image t) → Agrees seen image
          → node_of_key t to_key ≡ Some (Dir (entries_of stands.parts (subs_of (Some to))) (4 * to.count))
      to-is = dir-node g to_key seen p reads to has_to

      -- the entry

      abbrev IsSaid : Found → Type 0
      IsSaid from =
          (image : List Sector) (t : FileTree) (stands : StandsFor g image t) → Agrees seen image → HasNamed t (entries_of stands.parts subs) name from.kind

      abbrev Knows : Found → Type 0
      Knows from = HasFound g seen p dir name subs from × IsSaid from

      entry-by : (found : Option Found) → IsFoundIn g seen subs name found → found_in g seen p dir name ≡ Ok found → Goes Good (entry_by found) Knows
      entry-by None none e = record {
        block = tt;
        does = λ image t stands agrees.
            no-entry g t key name to_key fresh (entries_of stands.parts subs) (4 * dir.count) (dir-is image t stands agrees)
            (entries_of stands.parts (subs_of (Some to))) (4 * to.count) (to-is image t stands agrees)
            (absent-by stands.parts (entry_named (used_rooms stands.parts subs) name) refl (none image t stands agrees));
      }
      entry-by (Some f) found e = (found-known g seen p reads dir name subs f e, named-in name f found)

      entry-goes : Goes Good (wanted_entry g seen p dir name) Knows
      entry-goes = goes-after Good (Finds name) Knows (found_in g seen p dir name) _ (find-goes name) (λ found is. entry-by found is.0 is.1)

      -- Inside one directory

      abbrev Stays : Found → Type 0
      Stays from = Knows from × (found_in g seen p dir fresh ≡ Ok None)

      kept-by : (has_same : HasDir g seen p to_key dir) → key.object ≡ to_key.object → (from : Found) → Knows from → (found : Option Found) → Finds fresh found
          → Goes Good (kept_by from found) Stays
      kept-by has_same same from known None is = (known, is.1)
      kept-by has_same same from known (Some f) is = record {
        block = tt;
        does = λ image t stands agrees.
            there-inside g t key name to_key fresh (entries_of stands.parts subs) (4 * dir.count) (dir-is image t stands agrees)
            (entries_of stands.parts subs) (4 * dir.count) (dir-node g to_key seen p reads dir has_same image t stands agrees)
            from.kind (known.1 image t stands agrees) same (named-in fresh f is.0 image t stands agrees).there;
      }

      kept-goes : key.object ≡ to_key.object → Goes Good (kept_known g seen p dir name fresh) Done_well
      kept-goes same =
          let bodies : Some to ≡ Some dir = sym has_to.sees.there ∙ ap (λ o. part_at p.bodies o) (sym same) ∙ has.sees.there in
          let one : to ≡ dir = cc in
          let has_same : HasDir g seen p to_key dir = subst (HasDir g seen p to_key) one has_to in
          goes-after Good Stays Done_well (entry_kept g seen p dir name fresh) _
          (goes-after Good Knows Stays (wanted_entry g seen p dir name) _ entry-goes
          (λ from known.
          goes-after Good (Finds fresh) Stays (found_in g seen p dir fresh) _ (find-goes fresh) (λ found is. kept-by has_same same from known found is)))
          (λ from is.
          kept-good g is_geom key name to_key fresh named seen p reads dir has from is.0.0 has_same same is.1)

      module _ (from : Found) (room : HasFound g seen p dir name subs from) (said : IsSaid from) where
        -- Into another directory

        -- a sub-block for the entry is another than its own
        other-goes : (n : ℕ) (pairs : List Pair) → (from.sub ≡ n → FitsNone g seen (place_sector g (places.SubBlock n)))
            → (from.sub ≢ n → IsPlanChange g call seen pairs (replies.Moved from.key)) → Goes Good (after (other_sub g from n) (λ m. Ok (moving from pairs))) Done_well
        other-goes n pairs odd good =
            goes-after Good (λ m. from.sub ≢ n) Done_well (other_sub g from n) _
            (goes-if Good (λ m. from.sub ≢ n) (from.sub == n) _ _
            (λ same. odd (let one : from.sub ≡ n = grind (arith, nat_tests, same) in one))
            (λ other. differ from.sub n other))
            (λ m apart. good apart)

        module _ (apart : key.object ≢ to_key.object) where
          crosses-good : from.kind ≡ kinds.Dir → Good (asks.Done replies.CrossDir)
          crosses-good is = record {
            block = tt;
            does = λ image t stands agrees.
                crosses g t key name to_key fresh (entries_of stands.parts subs) (4 * dir.count) (dir-is image t stands agrees)
                (entries_of stands.parts (subs_of (Some to))) (4 * to.count) (to-is image t stands agrees)
                (subst (HasNamed t (entries_of stands.parts subs) name) is (said image t stands agrees)) apart;
          }

          module _ (is_file : from.kind ≡ kinds.File) where
            file-said : (image : List Sector) (t : FileTree) (stands : StandsFor g image t) → Agrees seen image → HasNamed t (entries_of stands.parts subs) name kinds.File
            file-said image t stands agrees = subst (HasNamed t (entries_of stands.parts subs) name) is_file (said image t stands agrees)

            abbrev HasPlace : Option FreeRoom → Type 0
            HasPlace r = HasWhole g seen p to_key fresh to × (found_in g seen p to fresh ≡ Ok None) × (room_in g seen p to ≡ Ok r)

            place-goes : Goes Good (room_for g seen p to fresh) HasPlace
            place-goes =
                room_goes g slot call Holds HasRead to_key fresh seen p reads to has_to names_to the_other (λ at any. of_other at any)
                (λ image t stands agrees entries rooms is there.
                there-across g t key name to_key fresh (entries_of stands.parts subs) (4 * dir.count) (dir-is image t stands agrees) entries rooms is
                (file-said image t stands agrees) apart there)
                (λ image t stands agrees entries rooms is absent full.
                full-across g t key name to_key fresh (entries_of stands.parts subs) (4 * dir.count) (dir-is image t stands agrees) entries rooms is
                (file-said image t stands agrees) apart absent full)

            module _ (whole : HasWhole g seen p to_key fresh to) (lacks : found_in g seen p to fresh ≡ Ok None) where
              abbrev others : List ℕ
              others = subs_of (Some to)

              module _ (none : room_in g seen p to ≡ Ok None) where
                -- every room is used
                full : length (used_rooms p others) ≡ 4 * to.count
                full =
                    let count = length (used_rooms p others) in
                    let counted = rooms-full g seen p reads to others 0 (0 + count) none (counts-known g seen p reads to fresh 0 others lacks) in
                    let body = body_is g (look_of seen) p to_key.object to reads has_to.sees.there in
                    let are : others ≡ subs_by to (Some kinds.Dir) = ap (subs_by to) has_to.sees.is_kind in
                    let most : to.count ≤ 96 = subst (λ k. to.count ≤ most_count k) has_to.sees.is_kind body.ranges.count_to in
                    omega (arith, counted, ap (length {A = ℕ}) are, length-take-le to.count to.addresses (omega (arith, most, body.widths.address_count)))

                can_grow : CanGrow to
                can_grow = record {
                  is_body = body_is g (look_of seen) p to_key.object to reads has_to.sees.there;
                  is_dir = has_to.sees.is_kind;
                  few = omega (arith, full, whole.few);
                }

                no_sub_block : (image : List Sector) (t : FileTree) → StandsFor g image t → Agrees seen image → free_of g t Sb ≡ 0 → Does g t call (replies.NoSpace Sb) t
                no_sub_block image t stands agrees out =
                    let entries : Entries = entries_of stands.parts others in
                    let count = entries-count g to_key seen p reads to has_to whole.subs image t stands agrees in
                    let absent : maps.contains_key entries fresh ≡ false =
                    ap is_some (entries-absent g to_key seen p reads to has_to fresh whole.subs whole.lacks image t stands agrees) in
                    let few : nat_le 384 (maps.len entries) ≡ false = grind (arith, nat_tests, count, whole.few) in
                    let used : is_full entries (4 * to.count) ≡ true = grind (arith, nat_tests, count, full) in
                    no-room g t key name to_key fresh (entries_of stands.parts subs) (4 * dir.count) (dir-is image t stands agrees) entries (4 * to.count) (to-is image t stands agrees)
                    (file-said image t stands agrees) apart absent few used out

                needs_sub_block : Needs p call Sb 1
                needs_sub_block =
                    sub_block_for_name room.entry to apart (record { body = dir; in_dir = has.sees; first = room.first }) (sym room.kind ∙ is_file)
                    (takes g to_key seen p reads to has_to fresh whole) (omega (arith, full))

                grown-goes : Goes Good (moved_by g slot seen p to from fresh None) Done_well
                grown-goes =
                    goes-after Good (λ sub. HasItem g seen p Sb sub × (free_item g slot seen p Sb ≡ Ok (Some sub))) Done_well (wanted_item g slot seen p Sb) _
                    (wanted_goes g slot call Holds HasRead seen p is_geom reads Sb
                    (λ c l. a_cluster c (omega (arith, l, (is_geom (Clusters Sb)).1))) (λ c l. of_cluster c (omega (arith, l, (is_geom (Clusters Sb)).1)))
                    needs_sub_block no_sub_block)
                    (λ sub is.
                    other-goes (number_of g Sb sub) (pairs_grown g from to sub fresh)
                    (item-odd g is_geom key name to_key fresh named seen p reads dir has from room to whole apart is_file sub is.0 can_grow full)
                    (grown-good g is_geom key name to_key fresh named seen p reads dir has from room to whole apart is_file sub is.0 can_grow full))

              moved-room : (r : Option FreeRoom) → room_in g seen p to ≡ Ok r → Goes Good (moved_by g slot seen p to from fresh r) Done_well
              moved-room None is = grown-goes is
              moved-room (Some free) is =
                  let place = room-place g seen p reads to others free is in
                  other-goes free.sub (pairs_moved g from free fresh)
                  (room-odd g is_geom key name to_key fresh named seen p reads dir has from room to whole apart is_file free place)
                  (moved-good g is_geom key name to_key fresh named seen p reads dir has from room to whole apart is_file free place)

          moved-goes : (kind : NodeKind) → from.kind ≡ kind → Goes Good (moved_known g slot seen p to from fresh kind) Done_well
          moved-goes kinds.Dir is = crosses-good is
          moved-goes kinds.File is =
              goes-after Good (HasPlace is) Done_well (room_for g seen p to fresh) _ (place-goes is) (λ free known. moved-room is known.0 known.1 free known.2)

      known-by : Goes Good (if key.object == to_key.object then kept_known g seen p dir name fresh else after (wanted_entry g seen p dir name) (λ from. moved_known g slot seen p to from fresh from.kind)) Done_well
      known-by =
          goes-if Good Done_well (key.object == to_key.object) _ _
          (λ same. kept-goes (let one : key.object ≡ to_key.object = grind (arith, nat_tests, same) in one))
          (λ other.
          goes-after Good Knows Done_well (wanted_entry g seen p dir name) _ entry-goes
          (λ from is. moved-goes from is.0 is.1 (differ key.object to_key.object other) from.kind refl))

  known-goes : Goes Good (change_known g slot seen p key name to_key fresh) Done_well
  known-goes =
      goes-after Good (HasDir g seen p key) Done_well (dir_of_key g seen p key) _ dir-goes
      (λ dir has.
      goes-after Good (HasDir g seen p to_key) Done_well (dir_of_key g seen p to_key) _ (to-goes dir has) (λ to has_to. known-by dir has to has_to))

  settled : (r : Result Moving Stop) → Goes Good r Done_well → Good (changed r)
  settled (Ok moving) is = is
  settled (Err stop) good = good

  -- all that is asked for is good
  pub rename_asks : Good (changed (change_known g slot seen p key name to_key fresh))
  rename_asks = settled (change_known g slot seen p key name to_key fresh) known-goes
