-- The planner of Mkdir and Create keeps the law of planners.
use Rattle.std.proofs.Common.{◌≡◌, ◌≢◌, ℕ, zero, suc, ◌+◌, ◌*◌, ◌<◌, ◌≤◌, ◌==◌, true, false, nat_le, List, [], ◌∷◌, length, Option, None, Some, refl, sym, ap, subst, ◌∙◌, arith, slice_get, is_some, ne_eqb, eq-eqb, length-take-le}
use Rattle.std.specs.Prelude.{Result, Ok, Err}
use Rattle.std.specs.FinMap as maps
use Rattle.std.specs.List.{sum_by}
use Rattle.std.proofs.lemmas.Bool.Decides.{nat_tests}
use Rattle.std.proofs.lemmas.List.Sums.{sum_by-cons}
use Rattle.std.proofs.lemmas.Option.{slice_get-get_or}
use Rattle.ds_base.specs.Geometry.{IsGeom, clusters_of, kind_number}
use Rattle.ds_base.specs.Names.{IsName}
use Rattle.ds_base.specs.declared.geometry.Geom.{Geom}
use Rattle.ds_base.specs.declared.geometry.GeomField.TheVariants.{Clusters}
use Rattle.ds_base.specs.declared.geometry.Kind.{Kind}
use Rattle.ds_base.specs.declared.geometry.Kind.TheVariants.{Fd, Sb}
use Rattle.ds_base.specs.declared.names.Key.{Key}
use Rattle.ds_base.specs.declared.names.NodeKind.{NodeKind}
use Rattle.ds_base.specs.declared.names.NodeKind.TheVariants as kinds
use Rattle.ds_base.specs.declared.sectors.Sector.{Sector}
use Rattle.ds_plan_laws_new.specs.Entering.{make_call}
use Rattle.ds_image.proofs.Bits.{bits-at, clear-some}
use Rattle.ds_plan_laws_new.proofs.FreeItems.{free-some}
use Rattle.ds_fd.specs.Body.{most_count}
use Rattle.ds_fd.specs.declared.body.Body.{Body}
use Rattle.ds_image.specs.Asking.{Agrees, makes_object}
use Rattle.ds_image_parts.specs.Objects.{subs_by, subs_of, used_rooms, entries_of}
use Rattle.ds_image_parts.specs.Parts.{Parts}
use Rattle.ds_image.specs.Planning.{AllAreAllowed, AllAreFew, AllKeep}
use Rattle.ds_image_parts.specs.Readings.{ReadsParts}
use Rattle.ds_image.specs.SeenValues.{SeenValue, look_of}
use Rattle.ds_image.specs.Sound.{StandsFor}
use Rattle.ds_image.specs.declared.asks.Ask.{Ask}
use Rattle.ds_image.proofs.Spelling.Sizes.{body_is, part_within}
use Rattle.ds_layout.specs.Places.{cluster_lock, clusters_before, place_sector}
use Rattle.ds_layout.specs.declared.places.Place.TheVariants as places
use Rattle.ds_plan_make.specs.Answers.{MakeValue, call_of, unused_body, object_known, change_by, change_known, changed, answers_of}
use Rattle.ds_plan_make.proofs.ChangeWalk.{filled-good, grown-good}
use Rattle.ds_plan_base.proofs.ItemWalk.{wanted_goes}
use Rattle.ds_plan_base.specs.Items.{number_of, free_item, wanted_item}
use Rattle.ds_plan_make.proofs.Limits.{MayHold, MayRead, the_dir, a_cluster, of_dir, of_cluster, holds-stay, reads-stay, lock_list, sector_list, in-lock_list, in-sector_list, few_locks, few_sectors}
use Rattle.ds_plan_base.proofs.PlanAsks.{PlanAsks, IsPlanChange, HasItem, HasWhole}
use Rattle.ds_plan_make.proofs.ObjectWalk.{HasNew, unused_goes}
use Rattle.ds_plan_base.specs.Objects.{CanGrow}
use Rattle.ds_plan_make.specs.Redos.{new_object}
use Rattle.ds_plan_base.specs.Rooms.{room_in, room_for}
use Rattle.ds_plan_make.proofs.Wholes.{has-key, make-missing, make-no_dir, make-refused}
use Rattle.ds_plan_base.specs.declared.items.FreeItem.{FreeItem}
use Rattle.ds_plan_make.specs.declared.making.Making.{Making}
use Rattle.ds_plan_make.specs.declared.objects.NewObject.{NewObject}
use Rattle.ds_plan_base.specs.declared.rooms.FreeRoom.{FreeRoom}
use Rattle.ds_plan_base.specs.Bodies.{dir_of_key}
use Rattle.ds_plan_base.proofs.DirSeen.{HasDir}
use Rattle.ds_plan_base.specs.Entries.{found_in}
use Rattle.ds_plan_base.proofs.Goes.{Goes}
use Rattle.ds_image.specs.Locks.{IsAllowed, Needs, NeedsForNew, one_descriptor, one_sub_block, WantsDescriptor, SeesFree, clear_in}
use Rattle.ds_plan_base.specs.Steps.{after}
use Rattle.ds_plan_base.proofs.Going.{goes-after}
use Rattle.ds_plan_base.proofs.Known.{rooms-full, room-place}
use Rattle.ds_plan_base.proofs.Limits.{map_alike}
use Rattle.ds_plan_base.proofs.PlanLaws.{plan_allowed, plan_few, plan_keeps}
use Rattle.ds_plan_base.proofs.Wholes.{dir-node, entries-count, entries-absent, counts-known, takes, room_goes, dir_known-goes}
use Rattle.ds_plan_base.specs.declared.stops.Stop.{Stop}
use Rattle.ds_plan_base.proofs.Alike.{some-there}
use Rattle.ds_tree.specs.CallNames.{HasNames}
use Rattle.ds_tree.specs.Counts.{free_of}
use Rattle.ds_tree.specs.Nodes.{FileTree}
use Rattle.ds_tree.specs.Steps.{Does, is_full}
use Rattle.ds_tree.specs.declared.calls.CallOf.{CallOf}
use Rattle.ds_tree.specs.declared.calls.TreeReply.TheVariants as replies

-- what the call needs, whatever object it makes
needs-by : (p : Parts) (kind : NodeKind) (dir : Key) (name : List ℕ) (of : Kind) (count : ℕ) → NeedsForNew p dir name of count → Needs p (make_call kind dir name) of count
needs-by p kinds.Dir dir name of count needs = needs
needs-by p kinds.File dir name of count needs = needs

wants-by : (p : Parts) (kind : NodeKind) (dir : Key) (name : List ℕ) → NeedsForNew p dir name Fd 1 → WantsDescriptor p (make_call kind dir name)
wants-by p kinds.Dir dir name needs = needs
wants-by p kinds.File dir name needs = needs

makes-by : (kind : NodeKind) (dir : Key) (name : List ℕ) → makes_object (make_call kind dir name) ≡ true
makes-by kinds.Dir dir name = refl
makes-by kinds.File dir name = refl

names-by : (kind : NodeKind) (dir : Key) (name : List ℕ) → HasNames (make_call kind dir name) → IsName name
names-by kinds.Dir dir name is = is
names-by kinds.File dir name is = is

name-of : (kind : NodeKind) (dir : Key) (name : List ℕ) → IsName name → HasNames (make_call kind dir name)
name-of kinds.Dir dir name is = is
name-of kinds.File dir name is = is

sum-some : {X : Type 0} (f : X → ℕ) (xs : List X) (i : ℕ) (x : X) → slice_get xs i ≡ Some x → f x ≤ sum_by f xs
sum-some f [] i x at = absurd cc
sum-some f (y ∷ xs) zero x at = let same : y ≡ x = cc in omega (arith, sum_by-cons f y xs, ap f same)
sum-some f (y ∷ xs) (suc i) x at = omega (arith, sum_by-cons f y xs, sum-some f xs i x at)

-- clusters of descriptors and of sub-blocks may be locked, and their bitmaps be read
module _ (g : Geom) (slot dir : ℕ) (seen : SeenValue) (p : Parts) (kind : Kind)
    (small : (c : ℕ) → c < clusters_of g kind → (8 * kind_number kind + c < 16) × (clusters_before g kind + c < 16)) where
  hold_cluster : (c : ℕ) → c < clusters_of g kind → MayHold g slot dir seen p (cluster_lock kind c)
  hold_cluster c l =
      let number : 2048 + (8 * kind_number kind + c) ≡ cluster_lock kind c = omega arith in
      subst (MayHold g slot dir seen p) number (a_cluster (8 * kind_number kind + c) (small c l).0)

  read_map : (c : ℕ) → c < clusters_of g kind → MayRead g slot dir seen p (place_sector g (places.Bitmap kind c))
  read_map c l = of_cluster (clusters_before g kind + c) (small c l).1

few-fd : (g : Geom) → IsGeom g → (c : ℕ) → c < clusters_of g Fd → (8 * kind_number Fd + c < 16) × (clusters_before g Fd + c < 16)
few-fd g is c l = (omega (arith, l, (is (Clusters Fd)).1), omega (arith, l, (is (Clusters Fd)).1))

few-sb : (g : Geom) → IsGeom g → (c : ℕ) → c < clusters_of g Sb → (8 * kind_number Sb + c < 16) × (clusters_before g Sb + c < 16)
few-sb g is c l = (omega (arith, l, (is (Clusters Sb)).1), omega (arith, l, (is (Clusters Sb)).1, (is (Clusters Fd)).1))

module _ (g : Geom) (is_geom : IsGeom g) (slot : ℕ) (key : Key) (name : List ℕ) (named : IsName name) (kind : NodeKind) (seen : SeenValue) (p : Parts) (reads : ReadsParts g (look_of seen) p) where
  abbrev call : CallOf Key
  call = make_call kind key name

  abbrev Good : Ask → Type 0
  Good = PlanAsks g slot call (MayHold g slot key.object) (MayRead g slot key.object) seen p

  abbrev Done_well : Making → Type 0
  Done_well making = IsPlanChange g call seen making.redo.pairs.items (replies.Made making.key)

  module _ (dir : Body) (whole : HasWhole g seen p key name dir) (found : found_in g seen p dir name ≡ Ok None) where
    abbrev subs : List ℕ
    subs = subs_of (Some dir)

    -- the refusals before those for want of space don't hold
    not-full : (image : List Sector) (t : FileTree) (stands : StandsFor g image t) → Agrees seen image
        → (maps.contains_key (entries_of stands.parts subs) name ≡ false) × (nat_le 384 (maps.len (entries_of stands.parts subs)) ≡ false)
    not-full image t stands agrees =
        let count = entries-count g key seen p reads dir whole.has whole.subs image t stands agrees in (
          ap is_some (entries-absent g key seen p reads dir whole.has name whole.subs whole.lacks image t stands agrees),
          grind (arith, nat_tests, count, whole.few),
        )

    no_descriptor : (image : List Sector) (t : FileTree) → StandsFor g image t → Agrees seen image → free_of g t Fd ≡ 0 → Does g t call (replies.NoSpace Fd) t
    no_descriptor image t stands agrees none =
        let before = not-full image t stands agrees in
        let empty : (free_of g t Fd == 0) ≡ true = eq-eqb (free_of g t Fd) 0 none in
        make-refused g kind key name t (entries_of stands.parts subs) (4 * dir.count) (replies.NoSpace Fd) (dir-node g key seen p reads dir whole.has image t stands agrees)
        (rw (before.0, before.1, empty) refl)

    needs_descriptor : NeedsForNew p key name Fd 1
    needs_descriptor = one_descriptor dir (takes g key seen p reads dir whole.has name whole)

    abbrev Known : NewObject → Type 0
    Known new = (item : FreeItem) × HasItem g seen p Fd item × ((before : Body) × HasNew g seen p (number_of g Fd item) before × (new ≡ new_object item before kind name))

    object_goes : Goes Good (object_known g slot seen p kind name) Known
    object_goes =
        let Item : FreeItem → Type 0 = λ item. HasItem g seen p Fd item × (free_item g slot seen p Fd ≡ Ok (Some item)) in
        goes-after Good Item Known (wanted_item g slot seen p Fd) _
        (wanted_goes g slot call (MayHold g slot key.object) (MayRead g slot key.object) seen p is_geom reads Fd (hold_cluster g slot key.object seen p Fd (few-fd g is_geom)) (read_map g slot key.object seen p Fd (few-fd g is_geom))
        (needs-by p kind key name Fd 1 needs_descriptor) no_descriptor)
        (λ item is.
        goes-after Good (HasNew g seen p (number_of g Fd item)) Known (unused_body g seen p (number_of g Fd item)) _
        (unused_goes g slot call key.object seen p reads (makes-by kind key name) (wants-by p kind key name needs_descriptor) item is.0 is.1)
        (λ before new. (item, is.0, (before, new, refl))))

    module _ (item : FreeItem) (has : HasItem g seen p Fd item) (before : Body) (new : HasNew g seen p (number_of g Fd item) before) where
      -- a descriptor is free
      sees_free : SeesFree p Fd 1
      sees_free =
          let at : slice_get p.fd_maps item.cluster ≡ Some (Some item.map) =
          slice_get-get_or p.fd_maps item.cluster None (part_within p.fd_maps item.cluster item.map has.has.there) ∙ ap Some has.has.there in
          omega (arith, sum-some clear_in p.fd_maps item.cluster (Some item.map) at, clear-some item.map.used item.item has.is_free.is_free)

      some_descriptor : (image : List Sector) (t : FileTree) (stands : StandsFor g image t) → Agrees seen image → free_of g t Fd ≢ 0
      some_descriptor image t stands agrees =
          let q = stands.parts in
          let at = place_sector g (places.Bitmap Fd item.cluster) in
          let known = some-there (look_of seen at) has.has.read in
          let there = map_alike g (slice_get image) (look_of seen) q p Fd item.cluster has.has.inside (agrees at known.0 known.1 ∙ sym known.1) stands.reads reads ∙ has.has.there in
          let bit = bits-at g (slice_get image) Fd q.fd_maps item.cluster item.item item.map false (stands.reads.maps Fd) (stands.sound.maps Fd) there has.is_free.is_free in
          subst (λ u. free_of g u Fd ≢ 0) (sym stands.tree) (free-some g (slice_get image) q stands.reads stands.sound Fd (number_of g Fd item) bit)

      module _ (none : room_in g seen p dir ≡ Ok None) where
        filled : length (used_rooms p subs) ≡ 4 * dir.count
        filled =
            let count = length (used_rooms p subs) in
            let counted = rooms-full g seen p reads dir subs 0 (0 + count) none (counts-known g seen p reads dir name 0 subs found) in
            let body = body_is g (look_of seen) p key.object dir reads whole.has.sees.there in
            let are : subs_of (Some dir) ≡ subs_by dir (Some kinds.Dir) = ap (subs_by dir) whole.has.sees.is_kind in
            let most : dir.count ≤ 96 = subst (λ k. dir.count ≤ most_count k) whole.has.sees.is_kind body.ranges.count_to in
            omega (arith, counted, ap (length {A = ℕ}) are, length-take-le dir.count dir.addresses (omega (arith, most, body.widths.address_count)))

        can_grow : CanGrow dir
        can_grow = record {
          is_body = body_is g (look_of seen) p key.object dir reads whole.has.sees.there;
          is_dir = whole.has.sees.is_kind;
          few = omega (arith, filled, whole.few);
        }

        no_sub_block : (image : List Sector) (t : FileTree) → StandsFor g image t → Agrees seen image → free_of g t Sb ≡ 0 → Does g t call (replies.NoSpace Sb) t
        no_sub_block image t stands agrees out =
            let refused = not-full image t stands agrees in
            let some : (free_of g t Fd == 0) ≡ false = ne_eqb (free_of g t Fd) 0 (some_descriptor image t stands agrees) in
            let empty : (free_of g t Sb == 0) ≡ true = eq-eqb (free_of g t Sb) 0 out in
            let count = entries-count g key seen p reads dir whole.has whole.subs image t stands agrees in
            let full : is_full (entries_of stands.parts subs) (4 * dir.count) ≡ true = grind (arith, nat_tests, count, filled) in
            make-refused g kind key name t (entries_of stands.parts subs) (4 * dir.count) (replies.NoSpace Sb) (dir-node g key seen p reads dir whole.has image t stands agrees)
            (rw (refused.0, refused.1, some, full, empty) refl)

        needs_sub_block : NeedsForNew p key name Sb 1
        needs_sub_block = one_sub_block dir (takes g key seen p reads dir whole.has name whole) sees_free (omega (arith, filled))

        grown_goes : Goes Good (change_by g slot seen p dir (new_object item before kind name) None) Done_well
        grown_goes =
            goes-after Good (λ sub. HasItem g seen p Sb sub × (free_item g slot seen p Sb ≡ Ok (Some sub))) Done_well (wanted_item g slot seen p Sb) _
            (wanted_goes g slot call (MayHold g slot key.object) (MayRead g slot key.object) seen p is_geom reads Sb (hold_cluster g slot key.object seen p Sb (few-sb g is_geom)) (read_map g slot key.object seen p Sb (few-sb g is_geom))
            (needs-by p kind key name Sb 1 needs_sub_block) no_sub_block)
            (λ sub is. grown-good g is_geom slot key name named kind seen p reads dir whole item has before new sub is.0 can_grow filled)

      change_goes : (room : Option FreeRoom) → room_in g seen p dir ≡ Ok room → Goes Good (change_by g slot seen p dir (new_object item before kind name) room) Done_well
      change_goes None is = grown_goes is
      change_goes (Some free) is = filled-good g is_geom slot key name named kind seen p reads dir whole item has before new free (room-place g seen p reads dir subs free is)

    rest_goes : (free : Option FreeRoom) → room_in g seen p dir ≡ Ok free
        → Goes Good (after (object_known g slot seen p kind name) (λ new. change_by g slot seen p dir new free)) Done_well
    rest_goes free room =
        goes-after Good Known Done_well (object_known g slot seen p kind name) _ object_goes
        (λ new is.
        subst (λ new. Goes Good (change_by g slot seen p dir new free) Done_well) (sym is.2.2) (change_goes is.0 is.1 is.2.0 is.2.1 free room))

  known_goes : Goes Good (change_known g slot seen p key name kind) Done_well
  known_goes =
      goes-after Good (HasDir g seen p key) Done_well (dir_of_key g seen p key) _
      (dir_known-goes g slot call (MayHold g slot key.object) (MayRead g slot key.object) key seen p reads (has-key kind key name) the_dir of_dir (make-missing g kind key name) (make-no_dir g kind key name))
      (λ dir has.
      goes-after Good (λ free. HasWhole g seen p key name dir × (found_in g seen p dir name ≡ Ok None) × (room_in g seen p dir ≡ Ok free)) Done_well (room_for g seen p dir name) _
      (room_goes g slot call (MayHold g slot key.object) (MayRead g slot key.object) key name seen p reads dir has (has-key kind key name) the_dir of_dir
      (λ image t stands agrees entries rooms node present. make-refused g kind key name t entries rooms replies.Exists node (rw present refl))
      (λ image t stands agrees entries rooms node absent many. make-refused g kind key name t entries rooms replies.DirFull node (rw (absent, many) refl)))
      (λ free is. rest_goes dir is.0 is.1 free is.2))

  settled-good : (r : Result Making Stop) → Goes Good r Done_well → Good (changed r)
  settled-good (Ok making) is = is
  settled-good (Err stop) good = good

  -- all that is asked for is good
  pub make_asks : Good (changed (change_known g slot seen p key name kind))
  make_asks = settled-good (change_known g slot seen p key name kind) known_goes

-- The laws

asks_of : (plan : MakeValue) → IsGeom plan.geom → HasNames (call_of plan) → (seen : SeenValue) (p : Parts) → ReadsParts plan.geom (look_of seen) p
    → PlanAsks plan.geom plan.slot (call_of plan) (MayHold plan.geom plan.slot plan.dir.object) (MayRead plan.geom plan.slot plan.dir.object) seen p (answers_of plan seen p)
asks_of plan is names seen p reads = make_asks plan.geom is plan.slot plan.dir plan.name (names-by plan.kind plan.dir plan.name names) plan.kind seen p reads

-- each answer has its form, and is right
pub make_keeps : (plan : MakeValue) → IsGeom plan.geom → HasNames (call_of plan) → AllKeep plan.geom (call_of plan) (answers_of plan)
make_keeps plan is names seen p reads =
    plan_keeps plan.geom plan.slot (call_of plan) (MayHold plan.geom plan.slot plan.dir.object) (MayRead plan.geom plan.slot plan.dir.object) seen p (answers_of plan seen p)
    (asks_of plan is names seen p reads)

-- only allowed locks are asked for
pub make_allowed : (plan : MakeValue) → IsGeom plan.geom → HasNames (call_of plan) → AllAreAllowed plan.geom plan.slot (call_of plan) (answers_of plan)
make_allowed plan is names seen p reads =
    plan_allowed plan.geom plan.slot (call_of plan) (MayHold plan.geom plan.slot plan.dir.object) (MayRead plan.geom plan.slot plan.dir.object) seen p (answers_of plan seen p)
    (asks_of plan is names seen p reads)

-- few locks are held, and few sectors read
pub make_few : (plan : MakeValue) → IsGeom plan.geom → HasNames (call_of plan) → AllAreFew plan.geom (answers_of plan)
make_few plan is names =
    let g = plan.geom in
    let slot = plan.slot in
    let dir = plan.dir.object in
    plan_few g slot (call_of plan) (MayHold g slot dir) (MayRead g slot dir) (answers_of plan) (asks_of plan is names)
    (λ seen next p q grows reads reads' object may. holds-stay g slot seen next p q is grows reads reads' dir object may)
    (λ seen next p q grows reads reads' at may. reads-stay g slot seen next p q is grows reads reads' dir at may)
    (lock_list g slot dir) (sector_list g slot dir)
    (λ seen p reads k may. in-lock_list g slot dir seen p k may)
    (λ seen p reads k may. in-sector_list g slot dir seen p k may)
    (λ seen p reads. few_locks g slot dir seen p)
    (λ seen p reads. few_sectors g slot dir seen p reads)
