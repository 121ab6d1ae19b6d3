-- A planner of Resize whose file grows asks for what it may, and what it writes is right.
use Rattle.std.proofs.Common.{◌≡◌, ℕ, ◌+◌, ◌-◌, ◌*◌, ◌/◌, ◌^◌, ◌<◌, ◌≤◌, Bool, true, false, inl, inr, nat_le, if◌then◌else◌, List, [], ◌∷◌, ◌++◌, length, map, take, drop, Some, refl, sym, ap, subst, ◌∙◌, slice_get, arith}
use Rattle.std.specs.Prelude.{All, slice_index}
use Rattle.std.proofs.lemmas.Bool.{cases_lt}
use Rattle.std.proofs.lemmas.Bool.Decides.{nat_tests}
use Rattle.std.proofs.lemmas.List.{take_all, append-nil, drop-append-le}
use Rattle.std.proofs.lemmas.List.Elements.{All-nil}
use Rattle.std.proofs.lemmas.Option.{slice_get-get_or}
use Rattle.ds_base.specs.Geometry.{IsGeom, clusters_of, items_of}
use Rattle.ds_base.specs.declared.geometry.Geom.{Geom}
use Rattle.ds_base.specs.declared.geometry.Kind.{Kind}
use Rattle.ds_base.specs.declared.geometry.Kind.TheVariants.{Fd, Pb, Fb}
use Rattle.ds_base.specs.declared.names.Key.{Key}
use Rattle.ds_base.specs.declared.names.NodeKind.TheVariants as kinds
use Rattle.ds_base.specs.declared.sectors.Sector.{Sector}
use Rattle.ds_bitmap.specs.Bits.{Bitmap}
use Rattle.ds_bytes.specs.Fields.{AllBelow}
use Rattle.ds_fd.specs.Body.{IsBody}
use Rattle.ds_fd.specs.declared.body.Body.{Body}
use Rattle.ds_image.specs.Asking.{Agrees, targets_of, IsRightChange}
use Rattle.ds_layout.specs.Metadata.{IsMetadata}
use Rattle.ds_image_tables.specs.Owned.{CanMark}
use Rattle.ds_image_parts.specs.Parts.{Parts, part_at, bits_in}
use Rattle.ds_image_parts.specs.Pending.{Pair}
use Rattle.ds_image_parts.specs.Readings.{ReadsParts}
use Rattle.ds_image.specs.SeenValues.{SeenValue, has_lock, look_of}
use Rattle.ds_image.specs.Sound.{StandsFor}
use Rattle.ds_image.specs.declared.asks.Ask.{Ask}
use Rattle.ds_image.proofs.Spelling.Sizes.{body_is}
use Rattle.ds_layout.specs.Places.{cluster_lock, place_sector}
use Rattle.ds_layout.specs.declared.places.Place.TheVariants as places
use Rattle.ds_plan_base.proofs.Goes.{Goes}
use Rattle.ds_image.specs.Locks.{MayGrow, blocks_for_size, pointers_for_size}
use Rattle.ds_plan_base.proofs.PlanAsks.{PlanAsks, IsPlanChange}
use Rattle.ds_plan_base.proofs.Dirs.{body_in}
use Rattle.ds_plan_base.proofs.GivingWalk.{map-in}
use Rattle.ds_plan_base.proofs.Going.{goes-after}
use Rattle.ds_plan_laws_size.specs.Pages.{ptrs_in, blocks_in}
use Rattle.ds_plan_laws_size.specs.Planned.{GrowsFile, HasSize}
use Rattle.ds_plan_laws_size.specs.Pointers.{WritesPages}
use Rattle.ds_plan_laws_size.specs.Ready.{ReadyToResize, resize_parts}
use Rattle.ds_plan_laws_size.specs.Resizing.{blocks_after}
use Rattle.ds_plan_laws_size.specs.Takes.{Take, items_taken, maps_taken, Takes}
use Rattle.ds_plan_laws_size.specs.Written.{ArePairsOf}
use Rattle.ds_plan_laws_size.proofs.BuiltPages.{sized-body, sized-pointers, sized-no_pointers}
use Rattle.ds_plan_laws_size.proofs.Paged.{ptrs-length}
use Rattle.ds_plan_laws_size.proofs.ReadyFiles.{grown-ready, pointers-rise}
use Rattle.ds_plan_laws_size.proofs.Refused.{resize-no_blocks, resize-no_pointers}
use Rattle.ds_plan_laws_size.proofs.SpelledBlocks.{size-is}
use Rattle.ds_plan_laws_size.proofs.TakenItems.{takes-can}
use Rattle.ds_plan_laws_size.proofs.WrittenPages.{pointers-once}
use Rattle.ds_plan_resize.proofs.Below.{below-append, below-take, below-padded, below-items}
use Rattle.ds_plan_resize.specs.Blocks.{AreItems, blocks_seen, pointers_in, pointers_from}
use Rattle.ds_plan_resize.proofs.BlocksWalk.{HasOld, blocks_goes}
use Rattle.ds_plan_resize.specs.Files.{CanResize}
use Rattle.ds_plan_resize.proofs.FileWalk.{HasFile}
use Rattle.ds_plan_resize.specs.Growing.{grown, growth_known}
use Rattle.ds_plan_resize.proofs.GrownFacts.{grown-writable, has-size, pointers-length}
use Rattle.ds_plan_resize.proofs.Holding.{MayHold, MayRead, holds-pb, holds-fb, reads-pb, reads-fb}
use Rattle.ds_plan_resize.proofs.InOrder.{put_all_by, put_all-map, put_all-behind, sorted-from}
use Rattle.ds_plan_resize.proofs.ItemsWalk.{HasTaken, take_pair, items_goes, sees-free, enough-in, taken-is}
use Rattle.ds_plan_resize.specs.Ordered.{put_all_in, in_order}
use Rattle.ds_plan_resize.proofs.OrderedPairs.{put_all-rises, put_all-all}
use Rattle.ds_plan_resize.proofs.PagesWritten.{pages-write}
use Rattle.ds_plan_resize.specs.Redos.{pages_of, pairs_of, redo_of, used_by}
use Rattle.ds_plan_resize.proofs.RightSizes.{at-map, sector_of, in-order-are, marks-sorted, pages-sorted, size-right}
use Rattle.ds_plan_resize.proofs.SizeTargets.{maps-metadata, size-targets}
use Rattle.ds_plan_resize.specs.Taking.{items_wanted, IsTaken}
use Rattle.ds_plan_resize.specs.Writable.{IsWritable}
use Rattle.ds_plan_resize.specs.declared.blocks.Blocks.{Blocks}
use Rattle.ds_plan_resize.specs.declared.resized.Resized.{Resized}
use Rattle.ds_plan_resize.specs.declared.taking.Taken.{Taken}
use Rattle.ds_tree.specs.Counts.{pointer_blocks}
use Rattle.ds_tree.specs.Nodes.{FileTree}
use Rattle.ds_tree.specs.declared.calls.CallOf.{CallOf}
use Rattle.ds_tree.specs.declared.calls.CallOf.TheVariants.{Resize}
use Rattle.ds_tree.specs.declared.calls.TreeReply.TheVariants.{Sized}

-- the sectors of the bitmaps of what is taken
pairs-taken : (g : Geom) (kind : Kind) (takes : List Take) → map (take_pair g kind) takes ≡ map (sector_of g kind) (maps_taken takes)
pairs-taken g kind [] = refl
pairs-taken g kind (part ∷ takes) = ap (λ l. take_pair g kind part ∷ l) (pairs-taken g kind takes)

module _ (g : Geom) (is_geom : IsGeom g) (slot : ℕ) (key : Key) (size : ℕ) (seen : SeenValue) (p : Parts) (reads : ReadsParts g (look_of seen) p) (b : Body) (has : HasFile g seen p key size b) where
  abbrev call : CallOf Key
  call = Resize key size

  abbrev Good : Ask → Type 0
  Good = PlanAsks g slot call (MayHold key.object) (MayRead g key.object) seen p

  file : b.kind ≡ Some kinds.File
  file = has.sees.is_kind

  body-is : IsBody b
  body-is = body_is g (look_of seen) p key.object b reads has.sees.there

  object-is : b.object ≡ key.object
  object-is = ((reads.bodies.each key.object has.inside b).0 has.sees.there).0

  can : CanResize g size b
  can = record {
    inside = subst (λ o. o < items_of g Fd) (sym object-is) has.inside;
    is_body = body-is;
    is_file = file;
    most = has.most;
    near = has.near;
  }

  there-in : (image : List Sector) (t : FileTree) (stands : StandsFor g image t) → Agrees seen image → part_at stands.parts.bodies key.object ≡ Some b
  there-in image t stands agrees = body_in g seen p key.object image t stands has.inside reads agrees has.read ∙ has.sees.there

  -- the pointer blocks that were read are those of the volume
  pub old-items : (first : ℕ) (old : Blocks) → HasOld g seen p b first old → AreItems g Pb (pointers_from b first)
  old-items first old is i l =
      let n = slice_index (pointers_from b first) i in
      (is.pointers i n (slice_get-get_or (pointers_from b first) i 0 l)).1.inside

  -- what is taken is taken of each image that agrees
  takes-in : (kind : Kind) (count tried : ℕ) (taken : Taken) (was : HasTaken g slot seen p kind count tried taken) → (image : List Sector) (t : FileTree) (stands : StandsFor g image t)
      → Agrees seen image → Takes stands.parts kind was.takes
  takes-in kind count tried taken was image t stands agrees = record {
    once = was.once;
    sets = λ i part at.
        let is = was.each i part at in
        record {
          before = is.before;
          there = map-in g seen p reads kind part.cluster is.before is.has image t stands agrees;
          same_kind = ap (λ (m : Bitmap). m.kind) is.marked;
          same_cluster = ap (λ (m : Bitmap). m.cluster) is.marked;
          changed = ap (λ (m : Bitmap). m.used) is.marked;
        };
    can = λ i part at. (was.each i part at).can;
  }

  maps-within : (kind : Kind) (count tried : ℕ) (taken : Taken) (was : HasTaken g slot seen p kind count tried taken) → (i : ℕ) (m : ℕ × Bitmap)
      → slice_get (maps_taken was.takes) i ≡ Some m → (m.0 < clusters_of g kind) × (has_lock seen (cluster_lock kind m.0) ≡ true)
  maps-within kind count tried taken was i m at =
      let part = at-map (λ (x : Take). (x.cluster, x.map)) was.takes i m at in
      let is = was.each i part.0 part.1 in
      subst (λ c. (c < clusters_of g kind) × (has_lock seen (cluster_lock kind c) ≡ true)) (ap (λ (x : ℕ × Bitmap). x.0) part.2) (is.has.inside, is.has.held)

  module _ (grows : b.count ≤ size) (old : Blocks) (has_old : HasOld g seen p b (b.count / 128) old)
      (added : Taken) (tried : ℕ) (has_added : HasTaken g slot seen p Fb (size - b.count) tried added) (all_added : length added.numbers.items ≡ size - b.count)
      (fresh : Taken) (tried' : ℕ) (has_fresh : HasTaken g slot seen p Pb (pointer_blocks size - pointer_blocks b.count) tried' fresh)
      (all_fresh : length fresh.numbers.items ≡ pointer_blocks size - pointer_blocks b.count) where
    abbrev first : ℕ
    first = b.count / 128

    abbrev r : Resized
    r = grown b size old added fresh

    abbrev list : List ℕ
    list = old.list.items ++ added.numbers.items

    abbrev pointers : List ℕ
    pointers = pointers_in b ++ fresh.numbers.items

    old-in : AreItems g Pb (pointers_from b first)
    old-in = old-items first old has_old

    added-is : IsTaken g Fb (size - b.count) added
    added-is = taken-is g is_geom slot seen p Fb (size - b.count) tried added has_added all_added

    fresh-is : IsTaken g Pb (pointer_blocks size - pointer_blocks b.count) fresh
    fresh-is = taken-is g is_geom slot seen p Pb (pointer_blocks size - pointer_blocks b.count) tried' fresh has_fresh all_fresh

    list-below : AllBelow (2 ^ 32) list
    list-below = below-append (2 ^ 32) old.list.items added.numbers.items has_old.below (below-items g Fb added.numbers.items is_geom added-is.items)

    pointers-below : AllBelow (2 ^ 32) pointers
    pointers-below =
        below-append (2 ^ 32) (pointers_in b) fresh.numbers.items (below-take (2 ^ 32) (pointer_blocks b.count) b.addresses body-is.widths.addresses_fit)
        (below-items g Pb fresh.numbers.items is_geom fresh-is.items)

    below : AllBelow (2 ^ 32) r.body.addresses
    below = below-padded (2 ^ 32) 96 (used_by size list pointers) (omega arith) (by (nat_le size 96))
      where
        by : (test : Bool) → AllBelow (2 ^ 32) (if test then list else pointers)
        by true = list-below
        by false = pointers-below

    writable : IsWritable g r
    writable = grown-writable g size b old added fresh can grows has_old.count old-in added-is fresh-is below

    sized : HasSize b r.body size (used_by size list pointers)
    sized = has-size g size b old added fresh can grows has_old.count old-in added-is fresh-is below

    abbrev pb : List (ℕ × Bitmap)
    pb = maps_taken has_fresh.takes

    abbrev fb : List (ℕ × Bitmap)
    fb = maps_taken has_added.takes

    -- the bitmaps in their order
    maps-are : r.maps.pairs.items ≡ map (sector_of g Pb) (put_all_by [] pb) ++ map (sector_of g Fb) (put_all_by [] fb)
    maps-are =
        let one : in_order fresh.maps.items ≡ map (sector_of g Pb) (put_all_by [] pb) =
        ap in_order (has_fresh.maps ∙ pairs-taken g Pb has_fresh.takes)
        ∙ put_all-map (λ c. place_sector g (places.Bitmap Pb c)) (λ a c less. omega (arith, less)) (sector_of g Pb) (λ m. refl) [] pb in
        let two : in_order added.maps.items ≡ map (sector_of g Fb) (put_all_by [] fb) =
        ap in_order (has_added.maps ∙ pairs-taken g Fb has_added.takes)
        ∙ put_all-map (λ c. place_sector g (places.Bitmap Fb c)) (λ a c less. omega (arith, less)) (sector_of g Fb) (λ m. refl) [] fb in
        ap (λ l. put_all_in l added.maps.items) (one ∙ sym (append-nil (map (sector_of g Pb) (put_all_by [] pb))))
        ∙ put_all-behind (map (sector_of g Pb) (put_all_by [] pb)) [] added.maps.items
        (λ i pair at j q here.
        let later = at-map (sector_of g Fb) fb i pair (subst (λ l. slice_get l i ≡ Some pair) (has_added.maps ∙ pairs-taken g Fb has_added.takes) at) in
        let front = at-map (sector_of g Pb) (put_all_by [] pb) j q here in
        let from = sorted-from pb j front.0 front.1 in
        omega (
          arith,
          ap (λ (x : Pair). x.0) later.2,
          ap (λ (x : Pair). x.0) front.2,
          (maps-within Pb (pointer_blocks size - pointer_blocks b.count) tried' fresh has_fresh from.0 front.0 from.1).0,
        ))
        ∙ ap (λ l. map (sector_of g Pb) (put_all_by [] pb) ++ l) two

    sorted-within : (i : ℕ) (m : ℕ × Bitmap) → slice_get (put_all_by [] pb) i ≡ Some m → (m.0 < clusters_of g Pb) × (has_lock seen (cluster_lock Pb m.0) ≡ true)
    sorted-within i m at = let from = sorted-from pb i m at in maps-within Pb (pointer_blocks size - pointer_blocks b.count) tried' fresh has_fresh from.0 m from.1

    sorted-within' : (i : ℕ) (m : ℕ × Bitmap) → slice_get (put_all_by [] fb) i ≡ Some m → (m.0 < clusters_of g Fb) × (has_lock seen (cluster_lock Fb m.0) ≡ true)
    sorted-within' i m at = let from = sorted-from fb i m at in maps-within Fb (size - b.count) tried added has_added from.0 m from.1

    maps-all : All (IsMetadata g) (targets_of r.maps.pairs.items)
    maps-all =
        put_all-all (IsMetadata g) (in_order fresh.maps.items) added.maps.items
        (put_all-all (IsMetadata g) [] fresh.maps.items (All-nil (IsMetadata g))
        (λ i pair at. maps-metadata g Pb pb (λ j m here. (maps-within Pb (pointer_blocks size - pointer_blocks b.count) tried' fresh has_fresh j m here).0) i pair
        (subst (λ l. slice_get l i ≡ Some pair) (has_fresh.maps ∙ pairs-taken g Pb has_fresh.takes) at)))
        (λ i pair at. maps-metadata g Fb fb (λ j m here. (maps-within Fb (size - b.count) tried added has_added j m here).0) i pair
        (subst (λ l. slice_get l i ≡ Some pair) (has_added.maps ∙ pairs-taken g Fb has_added.takes) at))

    module _ (image : List Sector) (t : FileTree) (stands : StandsFor g image t) (agrees : Agrees seen image) where
      abbrev q : Parts
      q = stands.parts

      there : part_at q.bodies key.object ≡ Some b
      there = there-in image t stands agrees

      size-as : length (blocks_in q b) ≡ b.count
      size-as = size-is g (slice_get image) q key.object b stands.reads stands.sound there file

      pointers-are : ptrs_in r.body ≡ take (pointer_blocks size) (ptrs_in b) ++ items_taken g Pb has_fresh.takes
      pointers-are =
          let kept : take (pointer_blocks size) (ptrs_in b) ≡ ptrs_in b =
          take_all (pointer_blocks size) (ptrs_in b) (omega (arith, ptrs-length b body-is file, pointers-rise b.count size grows)) in
          let all : pointers ≡ take (pointer_blocks size) (ptrs_in b) ++ items_taken g Pb has_fresh.takes =
          (λ i. (sym kept) i ++ has_fresh.numbers i) in
          elim (cases_lt 96 size) [
            | inl large ↦
                let test : nat_le size 96 ≡ false = grind (arith, nat_tests, large) in
                sized-pointers b r.body size (used_by size list pointers) body-is file sized large ∙ ap (λ x. if x then list else pointers) test ∙ all
            | inr small ↦
                let none : length pointers ≡ 0 =
                pointers-length g size b old added fresh can grows has_old.count old-in added-is fresh-is ∙ few-none small in
                sized-no_pointers b r.body size (used_by size list pointers) body-is file sized small ∙ sym (nothing pointers none) ∙ all
          ]
        where
          few-none : size ≤ 96 → pointer_blocks size ≡ 0
          few-none small = let test : nat_le size 96 ≡ true = grind (arith, nat_tests, small) in ap (λ x. if x then 0 else (size + 127) / 128) test

          nothing : (xs : List ℕ) → length xs ≡ 0 → xs ≡ []
          nothing [] none = refl
          nothing (x ∷ xs) none = absurd (omega (arith, none))

      list-is : drop (128 * first) (blocks_after q b size (items_taken g Fb has_added.takes)) ≡ list
      list-is =
          let kept : take size (blocks_in q b) ≡ blocks_in q b = take_all size (blocks_in q b) (omega (arith, size-as, grows)) in
          ap (λ l. drop (128 * first) (l ++ items_taken g Fb has_added.takes)) kept
          ∙ drop-append-le (128 * first) (blocks_in q b) (items_taken g Fb has_added.takes) (omega (arith, size-as))
          ∙ (λ i. sym (has_old.are image t stands agrees) i ++ sym has_added.numbers i)

      fresh-can : CanMark (bits_in q.pb_maps) (items_taken g Pb has_fresh.takes)
      fresh-can = takes-can g (slice_get image) q Pb stands.reads (stands.sound.maps Pb) has_fresh.takes
          (takes-in Pb (pointer_blocks size - pointer_blocks b.count) tried' fresh has_fresh image t stands agrees)

      pages-are : WritesPages b r.body (blocks_after q b size (items_taken g Fb has_added.takes)) first (pages_of list (pointers_from r.body first))
      pages-are =
          subst (λ l. WritesPages b r.body (blocks_after q b size (items_taken g Fb has_added.takes)) first (pages_of l (pointers_from r.body first))) list-is
          (pages-write b r.body (blocks_after q b size (items_taken g Fb has_added.takes)) first (omega arith) (omega (arith, grows))
          (subst (AllBelow (2 ^ 32)) (sym list-is) list-below)
          (pointers-once g (slice_get image) q stands.reads stands.sound key.object b r.body size (items_taken g Pb has_fresh.takes)
          (sized-body b r.body size (used_by size list pointers) body-is file sized q key.object there) pointers-are fresh-can))

      grows-file : GrowsFile g q key.object b r.body size has_added.takes has_fresh.takes first (pages_of list (pointers_from r.body first))
      grows-file = record {
        there = there;
        file = file;
        more = grows;
        block_takes = takes-in Fb (size - b.count) tried added has_added image t stands agrees;
        block_count = ap (length {A = ℕ}) (sym has_added.numbers) ∙ all_added;
        pointer_takes = takes-in Pb (pointer_blocks size - pointer_blocks b.count) tried' fresh has_fresh image t stands agrees;
        pointer_count = ap (length {A = ℕ}) (sym has_fresh.numbers) ∙ all_fresh;
        used = used_by size list pointers;
        has = sized;
        few = λ small.
            let test : nat_le size 96 ≡ true = grind (arith, nat_tests, small) in
            let zero-first : first ≡ 0 = omega (arith, small, grows) in
            ap (λ x. if x then list else pointers) test
            ∙ (λ i. (has_old.are image t stands agrees ∙ ap (λ n. drop (128 * n) (blocks_in q b)) zero-first) i ++ has_added.numbers i);
        many = λ large.
            let test : nat_le size 96 ≡ false = grind (arith, nat_tests, large) in
            ap (λ x. if x then list else pointers) test ∙ ap (λ l. pointers_in b ++ l) has_fresh.numbers;
        pages = pages-are;
      }

      ready : ReadyToResize g q key.object b r.body size (items_taken g Fb has_added.takes) (items_taken g Pb has_fresh.takes) first (put_all_by [] pb) (put_all_by [] fb)
          (put_all_by [] (pages_of list (pointers_from r.body first)))
      ready =
          let was = grown-ready g (slice_get image) q stands.reads stands.sound key.object b r.body size first (pages_of list (pointers_from r.body first)) has_added.takes has_fresh.takes grows-file in
          record {
            body = was.body;
            grows = was.grows;
            blocks_free = was.blocks_free;
            pointers_free = was.pointers_free;
            direct = was.direct;
            lists = was.lists;
            pages = pages-sorted b r.body (blocks_after q b size (items_taken g Fb has_added.takes)) first (pages_of list (pointers_from r.body first)) was.pages;
            pointer_marks = marks-sorted g q Pb _ (items_taken g Pb has_fresh.takes) pb was.pointer_marks;
            block_marks = marks-sorted g q Fb _ (items_taken g Fb has_added.takes) fb was.block_marks;
          }

      right : IsRightChange g call seen image t (redo_of g r).pairs.items (Sized size)
      right =
          size-right g is_geom seen image t stands key b r.body size (items_taken g Fb has_added.takes) (items_taken g Pb has_fresh.takes) first (put_all_by [] pb) (put_all_by [] fb)
          (put_all_by [] (pages_of list (pointers_from r.body first))) ready (redo_of g r).pairs.items
          (subst (λ maps. ArePairsOf g (put_all_in maps (pairs_of g r)) (resize_parts key.object r.body (put_all_by [] pb) (put_all_by [] fb) (put_all_by [] (pages_of list (pointers_from r.body first)))))
          (sym maps-are)
          (in-order-are g key.object r.body object-is has.inside (put_all_by [] pb) (put_all_by [] fb) (λ i m at. (sorted-within i m at).0) (λ i m at. (sorted-within' i m at).0)
          (pages_of list (pointers_from r.body first))))
          has.held (λ i m at. (sorted-within i m at).1) (λ i m at. (sorted-within' i m at).1) has.sees.life has.near has.differs

    -- what is written is right
    pub grown-good : IsPlanChange g call seen (redo_of g r).pairs.items (Sized size)
    grown-good = record {
      targets = size-targets g r writable (put_all-rises (in_order fresh.maps.items) added.maps.items (put_all-rises [] fresh.maps.items tt)) maps-all;
      right = right;
    }

  -- The walk

  abbrev Well : Resized → Type 0
  Well r = IsPlanChange g call seen (redo_of g r).pairs.items (Sized size)

  module _ (grows : b.count ≤ size) where
    may : MayGrow p key size b
    may = record { in_file = has.sees; not_too_big = has.most; not_too_much = omega (arith, has.near) }

    abbrev KnownOf : Kind → ℕ → Taken → Type 0
    KnownOf kind count taken = (tried : ℕ) × HasTaken g slot seen p kind count tried taken × (length taken.numbers.items ≡ count)

    added_goes : Goes Good (items_wanted g slot seen p Fb (size - b.count)) (KnownOf Fb (size - b.count))
    added_goes =
        items_goes g slot call (MayHold key.object) (MayRead g key.object) seen p is_geom reads Fb (size - b.count)
        (holds-fb g key.object seen p is_geom) (reads-fb g key.object seen p is_geom) (blocks_for_size b may)
        (λ image t stands agrees few.
        resize-no_blocks g image t stands key size b (there-in image t stands agrees) file has.sees.life has.most has.near few)

    fresh_goes : (added : Taken) → KnownOf Fb (size - b.count) added
        → Goes Good (items_wanted g slot seen p Pb (pointer_blocks size - pointer_blocks b.count)) (KnownOf Pb (pointer_blocks size - pointer_blocks b.count))
    fresh_goes added known =
        items_goes g slot call (MayHold key.object) (MayRead g key.object) seen p is_geom reads Pb (pointer_blocks size - pointer_blocks b.count)
        (holds-pb g key.object seen p is_geom) (reads-pb g key.object seen p is_geom)
        (pointers_for_size b may (sees-free g slot seen p is_geom reads Fb (size - b.count) added known))
        (λ image t stands agrees few.
        resize-no_pointers g image t stands key size b (there-in image t stands agrees) file has.sees.life has.most has.near
        (enough-in g slot seen p is_geom reads Fb (size - b.count) added known image t stands agrees) few)

    -- the change is known and right, or what is asked for is good
    pub growth_goes : Goes Good (growth_known g slot seen p b size) Well
    growth_goes =
        let first : ℕ = b.count / 128 in
        goes-after Good (HasOld g seen p b first) Well (blocks_seen g seen p b first) _
        (blocks_goes g slot key size seen p reads b has first (omega arith))
        (λ old has_old.
        goes-after Good (KnownOf Fb (size - b.count)) Well (items_wanted g slot seen p Fb (size - b.count)) _ added_goes
        (λ added known.
        goes-after Good (KnownOf Pb (pointer_blocks size - pointer_blocks b.count)) Well (items_wanted g slot seen p Pb (pointer_blocks size - pointer_blocks b.count)) _
        (fresh_goes added known)
        (λ fresh known'. grown-good grows old has_old added known.0 known.1 known.2 fresh known'.0 known'.1 known'.2)))
