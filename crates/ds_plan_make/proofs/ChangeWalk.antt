-- What is written to make an object is right.
use Rattle.std.proofs.Common.{◌≡◌, ℕ, ◌+◌, ◌*◌, ◌<◌, ◌≤◌, Bool, true, false, not, nat_lt, if◌then◌else◌, List, [], ◌∷◌, length, None, Some, inl, inr, refl, sym, ap, subst, ◌∙◌, arith, slice_get}
use Rattle.std.specs.FinMap as maps
use Rattle.std.proofs.lemmas.Bool.{cases_Bool, cases_lt}
use Rattle.std.proofs.lemmas.Bool.Decides.{nat_tests}
use Rattle.ds_base.specs.Geometry.{IsGeom, items_of}
use Rattle.ds_base.specs.Names.{IsName}
use Rattle.ds_base.specs.declared.geometry.Geom.{Geom}
use Rattle.ds_base.specs.declared.geometry.Kind.{Kind}
use Rattle.ds_base.specs.declared.geometry.Kind.TheVariants.{Fd, Sb}
use Rattle.ds_base.specs.declared.names.Key.{Key}
use Rattle.ds_base.specs.declared.names.NodeKind.{NodeKind}
use Rattle.ds_base.specs.declared.names.NodeKind.TheVariants as kinds
use Rattle.ds_base.specs.declared.sectors.Sector.{Sector}
use Rattle.ds_bitmap.specs.Bits.{Bitmap, bits_bytes}
use Rattle.ds_plan_laws_new.specs.Beginning.{SetsBit}
use Rattle.ds_plan_laws_new.specs.Entering.{subs_in, FillsRoom, make_call}
use Rattle.ds_plan_laws_new.specs.Making.{ReadyToMake, ReadyToGrow}
use Rattle.ds_plan_laws_new.proofs.GuardedFills.{filled-guarded_before, filled-guarded_after}
use Rattle.ds_plan_laws_new.proofs.GuardedGrowths.{grown-guarded_before, grown-guarded_after}
use Rattle.ds_image.specs.SeenValues.{HoldsLock}
use Rattle.ds_plan_laws_new.specs.Redos.{grown_pairs}
use Rattle.ds_plan_laws_new.proofs.RightChanges.{right-change}
use Rattle.ds_plan_laws_new.proofs.StandsFilled.{filled-leaves}
use Rattle.ds_plan_laws_new.proofs.StandsGrown.{grown-leaves}
use Rattle.ds_plan_laws_new.proofs.Targets.{filled-targets, grown-targets}
use Rattle.ds_dir.specs.SubBlock.{sub_bytes}
use Rattle.ds_dir.specs.declared.sub_block.Entry.{Entry}
use Rattle.ds_fd.specs.Body.{body_bytes}
use Rattle.ds_fd.specs.declared.body.Body.{Body}
use Rattle.ds_image.specs.Asking.{Agrees, AreTargets, targets_of}
use Rattle.ds_image_parts.specs.Objects.{subs_by, subs_of, used_rooms, entries_of}
use Rattle.ds_image_parts.specs.Parts.{Parts, part_at, maps_of}
use Rattle.ds_image_parts.specs.Pending.{Pair}
use Rattle.ds_image_parts.specs.Readings.{ReadsParts}
use Rattle.ds_image.specs.SeenValues.{SeenValue, has_lock, look_of}
use Rattle.ds_image.specs.Sound.{StandsFor}
use Rattle.ds_layout.proofs.Bounds.{most_items_of}
use Rattle.ds_layout.specs.Places.{place_sector}
use Rattle.ds_layout.specs.declared.places.Place.TheVariants as places
use Rattle.ds_plan_base.specs.Items.{number_of, map_taken}
use Rattle.ds_plan_base.proofs.PlanAsks.{IsPlanChange, HasItem, HasMap, HasWhole}
use Rattle.ds_plan_make.proofs.NewBodies.{begun-is_body}
use Rattle.ds_plan_make.proofs.ObjectWalk.{HasNew}
use Rattle.ds_plan_make.specs.Redos.{new_object, pairs_filled, pairs_grown}
use Rattle.ds_plan_base.specs.declared.items.FreeItem.{FreeItem}
use Rattle.ds_plan_make.specs.declared.objects.NewObject.{NewObject}
use Rattle.ds_plan_base.specs.declared.rooms.FreeRoom.{FreeRoom}
use Rattle.ds_plan_base.specs.Objects.{CanGrow}
use Rattle.ds_plan_base.specs.Redos.{body_grown, block_filled, block_alone, body_pair, map_pair, sub_pair}
use Rattle.ds_plan_base.proofs.Dirs.{body_in, dir_in, object_in}
use Rattle.ds_plan_base.proofs.Known.{HasRoom}
use Rattle.ds_plan_base.proofs.Limits.{map_alike}
use Rattle.ds_plan_base.proofs.NewBodies.{grown-is_body, item-within}
use Rattle.ds_plan_base.proofs.Wholes.{subs-same, rooms-same, entries-absent}
use Rattle.ds_plan_base.proofs.Alike.{some-there}
use Rattle.ds_tree.specs.Nodes.{FileTree, Object, birth_at}
use Rattle.ds_tree.specs.Steps.{IsNextLife, has_change}
use Rattle.ds_tree.specs.declared.calls.CallOf.{CallOf}
use Rattle.ds_tree.specs.declared.calls.TreeReply.TheVariants.{Made}

-- a call that makes an object changes the tree
made-changes : (t : FileTree) (kind : NodeKind) (dir : Key) (name : List ℕ) → has_change t (make_call kind dir name) ≡ true
made-changes t kinds.Dir dir name = refl
made-changes t kinds.File dir name = refl

module _ (g : Geom) (is_geom : IsGeom g) (slot : ℕ) (key : Key) (name : List ℕ) (named : IsName name) (kind : NodeKind) (seen : SeenValue) (p : Parts) (reads : ReadsParts g (look_of seen) p)
    (dir : Body) (whole : HasWhole g seen p key name dir) (item : FreeItem) (has : HasItem g seen p Fd item) (before : Body) (new : HasNew g seen p (number_of g Fd item) before) where
  abbrev call : CallOf Key
  call = make_call kind key name

  abbrev made : NewObject
  made = new_object item before kind name

  abbrev o : ℕ
  o = before.object

  o-is : number_of g Fd item ≡ o
  o-is = sym new.can.object

  o-within : o < items_of g Fd
  o-within = subst (λ n. n < items_of g Fd) o-is (item-within g Fd item has.is_free)

  o-held : has_lock seen o ≡ true
  o-held = subst (λ n. has_lock seen n ≡ true) o-is new.held

  abbrev subs : List ℕ
  subs = subs_of (Some dir)

  subs-are : subs_of (Some dir) ≡ subs_in dir
  subs-are = ap (subs_by dir) whole.has.sees.is_kind

  map-same : (kind : Kind) (cluster : ℕ) (map : Bitmap) → HasMap g seen p kind cluster map → (image : List Sector) (t : FileTree) (stands : StandsFor g image t) → Agrees seen image
      → part_at (maps_of stands.parts kind) cluster ≡ Some map
  map-same kind cluster map has image t stands agrees =
      let at = place_sector g (places.Bitmap kind cluster) in
      let known = some-there (look_of seen at) has.read in
      map_alike g (slice_get image) (look_of seen) stands.parts p kind cluster has.inside (agrees at known.0 known.1 ∙ sym known.1) stands.reads reads ∙ has.there

  marks : (kind : Kind) (free : FreeItem) → HasItem g seen p kind free → (image : List Sector) (t : FileTree) (stands : StandsFor g image t) → Agrees seen image
      → SetsBit stands.parts kind free.cluster free.item true (map_taken free)
  marks kind free has image t stands agrees = record {
    before = free.map;
    there = map-same kind free.cluster free.map has.has image t stands agrees;
    was = has.is_free.is_free;
    changed = refl;
    same_kind = refl;
    same_cluster = refl;
  }

  -- the object's number has the birth of the body that was read
  next-life : (image : List Sector) (t : FileTree) → StandsFor g image t → Agrees seen image → IsNextLife t (Made made.entry.key)
  next-life image t stands agrees =
      let number = number_of g Fd item in
      let there = body_in g seen p number image t stands (item-within g Fd item has.is_free) reads agrees new.read ∙ new.there in
      let born = ap (λ (o : Object). o.birth) (object_in g image t number (Some before) stands there) in
      ap (λ birth. birth + 1) (sym (subst (λ n. birth_at t n ≡ before.birth) o-is born))

  -- the object can be made in each image that agrees
  ready : (image : List Sector) (t : FileTree) (stands : StandsFor g image t) → Agrees seen image
      → ReadyToMake g stands.parts key dir o made.entry made.body item.cluster (map_taken item)
  ready image t stands agrees =
      let number = number_of g Fd item in
      let there = body_in g seen p number image t stands (item-within g Fd item has.is_free) reads agrees new.read ∙ new.there in
      record {
        item = item.item;
        is_item = o-is;
        marks = marks Fd item has image t stands agrees;
        begins = record {
          before = before;
          there = subst (λ n. part_at stands.parts.bodies n ≡ Some before) o-is there;
          unused = new.can.unused;
          is_body = begun-is_body number before kind new.can;
          object = refl;
          kind = refl;
          birth = refl;
          empty = refl;
          named_object = refl;
          named_birth = refl;
        };
        lacks = record {
          there = (dir_in g seen p key dir image t stands reads agrees whole.has).0;
          is_dir = whole.has.sees.is_kind;
          absent = subst (λ l. maps.get (entries_of stands.parts l) name ≡ None) subs-are (entries-absent g key seen p reads dir whole.has name whole.subs whole.lacks image t stands agrees);
        };
        life = whole.has.sees.life;
        named = named;
      }

  -- Where the directory has a free room

  module _ (free : FreeRoom) (room : HasRoom g seen p subs free) where
    fills : (image : List Sector) (t : FileTree) (stands : StandsFor g image t) → Agrees seen image → FillsRoom stands.parts dir free.sub made.entry (block_filled free made.entry)
    fills image t stands agrees = record {
      place = room.place;
      room = free.room;
      before = free.block;
      listed = ap (λ l. slice_get l room.place) (sym subs-are) ∙ room.listed;
      there = subs-same g key seen p reads dir whole.has whole.subs image t stands agrees room.place free.sub room.listed ∙ room.has.there;
      free = room.is_free;
      filled = refl;
    }

    pub filled-good : IsPlanChange g call seen (pairs_filled g made free) (Made made.entry.key)
    filled-good =
        let c = item.cluster in
        let n = free.sub in
        let block = block_filled free made.entry in
        let map_sector : Sector = record { bytes = bits_bytes (map_taken item) } in
        let new_sector : Sector = record { bytes = body_bytes made.body } in
        let block_sector : Sector = record { bytes = sub_bytes block } in
        record {
          targets = filled-targets g c o n has.has.inside o-within room.has.inside map_sector new_sector block_sector;
          right = λ image t stands agrees.
              let make = ready image t stands agrees in
              let fill = fills image t stands agrees in
              right-change g call seen image t (pairs_filled g made free) (Made made.entry.key) refl (made-changes t kind key name) (next-life image t stands agrees)
              (filled-leaves g is_geom image t stands key dir o made.entry made.body c (map_taken item) n block make fill map_sector new_sector block_sector refl refl refl)
              (filled-guarded_before g is_geom image t stands key dir o made.entry made.body c (map_taken item) n block make fill map_sector new_sector block_sector refl refl refl
              (HoldsLock seen) has.has.held o-held whole.has.held)
              (filled-guarded_after g is_geom image t stands key dir o made.entry made.body c (map_taken item) n block make fill map_sector new_sector block_sector refl refl refl
              (HoldsLock seen) has.has.held o-held whole.has.held);
        }

  -- Where it gets a sub-block

  module _ (sub : FreeItem) (has_sub : HasItem g seen p Sb sub) (can : CanGrow dir) (full : length (used_rooms p subs) ≡ 4 * dir.count) where
    abbrev n : ℕ
    n = number_of g Sb sub

    n-within : n < items_of g Sb
    n-within = item-within g Sb sub has_sub.is_free

    abbrev grown : Body
    grown = body_grown dir n

    adds : (image : List Sector) (t : FileTree) (stands : StandsFor g image t) → Agrees seen image → ReadyToGrow g stands.parts dir n made.entry grown sub.cluster (map_taken sub) (block_alone made.entry)
    adds image t stands agrees = record {
      item = sub.item;
      is_item = refl;
      marks = marks Sb sub has_sub image t stands agrees;
      adds = record {
        full = ap (λ l. length (used_rooms stands.parts l)) (sym subs-are) ∙ ap (length {A = Entry}) (rooms-same g key seen p reads dir whole.has whole.subs image t stands agrees) ∙ full;
        is_body = grown-is_body dir n can (omega (arith, n-within, most_items_of g Sb is_geom));
        object = refl;
        kind = refl;
        birth = refl;
        count = refl;
        addresses = refl;
        alone = refl;
      };
    }

    dir-object : dir.object ≡ key.object
    dir-object = ((reads.bodies.each key.object whole.has.inside dir).0 whole.has.sees.there).0

    -- the two bodies are of two descriptors
    apart : o ≡ key.object → ⊥
    apart same =
        let there : part_at p.bodies key.object ≡ Some before = subst (λ n. part_at p.bodies n ≡ Some before) (o-is ∙ same) new.there in
        let one : Some before ≡ Some dir = sym there ∙ whole.has.sees.there in
        let wrong : None ≡ Some kinds.Dir = sym new.can.unused ∙ ap (λ (b : Body). b.kind) (let same : before ≡ dir = cc in same) ∙ whole.has.sees.is_kind in
        absurd cc

    abbrev map_sector : Sector
    map_sector = record { bytes = bits_bytes (map_taken item) }

    abbrev sub_map_sector : Sector
    sub_map_sector = record { bytes = bits_bytes (map_taken sub) }

    abbrev dir_sector : Sector
    dir_sector = record { bytes = body_bytes grown }

    abbrev new_sector : Sector
    new_sector = record { bytes = body_bytes made.body }

    abbrev block_sector : Sector
    block_sector = record { bytes = sub_bytes (block_alone made.entry) }

    abbrev pairs_by : Bool → List Pair
    pairs_by swapped = grown_pairs g swapped item.cluster sub.cluster key.object o n map_sector sub_map_sector dir_sector new_sector block_sector

    -- in this order the pairs are good
    ordered-good : (swapped : Bool) → AreTargets g (targets_of (pairs_by swapped)) → IsPlanChange g call seen (pairs_by swapped) (Made made.entry.key)
    ordered-good swapped targets = record {
      targets = targets;
      right = λ image t stands agrees.
          let make = ready image t stands agrees in
          let grow = adds image t stands agrees in
          right-change g call seen image t (pairs_by swapped) (Made made.entry.key) refl (made-changes t kind key name) (next-life image t stands agrees)
          (grown-leaves g is_geom image t stands key dir o made.entry made.body item.cluster (map_taken item) n grown sub.cluster (map_taken sub) (block_alone made.entry) make grow
          map_sector sub_map_sector dir_sector new_sector block_sector refl refl refl refl refl swapped)
          (grown-guarded_before g is_geom image t stands key dir o made.entry made.body item.cluster (map_taken item) n grown sub.cluster (map_taken sub) (block_alone made.entry) make grow
          map_sector sub_map_sector dir_sector new_sector block_sector refl refl refl refl refl (HoldsLock seen) has.has.held has_sub.has.held o-held whole.has.held swapped)
          (grown-guarded_after g is_geom image t stands key dir o made.entry made.body item.cluster (map_taken item) n grown sub.cluster (map_taken sub) (block_alone made.entry) make grow
          map_sector sub_map_sector dir_sector new_sector block_sector refl refl refl refl refl (HoldsLock seen) has.has.held has_sub.has.held o-held whole.has.held swapped);
    }

    pairs-in : (swapped : Bool) → nat_lt dir.object o ≡ not swapped → pairs_grown g dir made sub ≡ pairs_by swapped
    pairs-in false e =
        ap (λ test. map_pair g Fd item ∷ map_pair g Sb sub ∷ (if test then body_pair g grown ∷ body_pair g made.body ∷ sub_pair g n (block_alone made.entry) ∷ []
        else body_pair g made.body ∷ body_pair g grown ∷ sub_pair g n (block_alone made.entry) ∷ [])) e
        ∙ ap (λ d. map_pair g Fd item ∷ map_pair g Sb sub ∷ (place_sector g (places.Body d), dir_sector) ∷ body_pair g made.body ∷ sub_pair g n (block_alone made.entry) ∷ []) dir-object
    pairs-in true e =
        ap (λ test. map_pair g Fd item ∷ map_pair g Sb sub ∷ (if test then body_pair g grown ∷ body_pair g made.body ∷ sub_pair g n (block_alone made.entry) ∷ []
        else body_pair g made.body ∷ body_pair g grown ∷ sub_pair g n (block_alone made.entry) ∷ [])) e
        ∙ ap (λ d. map_pair g Fd item ∷ map_pair g Sb sub ∷ body_pair g made.body ∷ (place_sector g (places.Body d), dir_sector) ∷ sub_pair g n (block_alone made.entry) ∷ []) dir-object

    pub grown-good : IsPlanChange g call seen (pairs_grown g dir made sub) (Made made.entry.key)
    grown-good = elim (cases_Bool (nat_lt dir.object o)) [
      | inl below ↦
          let order : key.object < o = subst (λ d. d < o) dir-object (grind (arith, nat_tests, below)) in
          subst (λ pairs. IsPlanChange g call seen pairs (Made made.entry.key)) (sym (pairs-in false below))
          (ordered-good false (grown-targets g item.cluster o n has.has.inside o-within n-within sub.cluster key.object has_sub.has.inside whole.has.inside map_sector sub_map_sector dir_sector new_sector block_sector false order))
      | inr past ↦
          let order : o < key.object = above past in
          subst (λ pairs. IsPlanChange g call seen pairs (Made made.entry.key)) (sym (pairs-in true past))
          (ordered-good true (grown-targets g item.cluster o n has.has.inside o-within n-within sub.cluster key.object has_sub.has.inside whole.has.inside map_sector sub_map_sector dir_sector new_sector block_sector true order))
    ]
      where
        above : nat_lt dir.object o ≡ false → o < key.object
        above past =
            let most : o ≤ dir.object = grind (arith, nat_tests, past) in
            elim (cases_lt o key.object) [
              | inl below ↦ below
              | inr same ↦ absurd (apart (omega (arith, most, same, dir-object)))
            ]
