-- A planner of Resize whose file shrinks asks for what it may, and what it writes is right.
use Rattle.std.proofs.Common.{◌≡◌, ℕ, zero, suc, ◌+◌, ◌*◌, ◌/◌, ◌%◌, ◌^◌, ◌<◌, ◌≤◌, Bool, true, false, inl, inr, nat_le, if◌then◌else◌, List, [], ◌∷◌, ◌++◌, length, map, take, drop, Some, refl, sym, ap, subst, ◌∙◌, slice_get, is_some, length-append, arith}
use Rattle.std.specs.Prelude.{All, IsSome}
use Rattle.std.proofs.lemmas.Bool.{cases_lt}
use Rattle.std.proofs.lemmas.Bool.Decides.{nat_tests}
use Rattle.std.proofs.lemmas.List.{append-nil, drop-take, length-map}
use Rattle.std.proofs.lemmas.List.Elements.{All-nil, All-cons}
use Rattle.std.proofs.lemmas.Option.{slice_get_within}
use Rattle.ds_base.specs.Geometry.{IsGeom, clusters_of, items_of, per_cluster}
use Rattle.ds_base.specs.declared.geometry.Geom.{Geom}
use Rattle.ds_base.specs.declared.geometry.GeomField.TheVariants.{Clusters}
use Rattle.ds_base.specs.declared.geometry.Kind.{Kind}
use Rattle.ds_base.specs.declared.geometry.Kind.TheVariants.{Fd, Pb, Fb}
use Rattle.ds_base.specs.declared.names.Key.{Key}
use Rattle.ds_base.specs.declared.names.NodeKind.TheVariants as kinds
use Rattle.ds_base.specs.declared.sectors.Sector.{Sector}
use Rattle.ds_bitmap.specs.Bits.{Bitmap}
use Rattle.ds_bytes.specs.Fields.{AllBelow}
use Rattle.ds_fd.specs.Body.{IsBody}
use Rattle.ds_fd.specs.declared.body.Body.{Body}
use Rattle.ds_image.specs.Asking.{Agrees, targets_of, IsRightChange}
use Rattle.ds_layout.specs.Metadata.{IsMetadata}
use Rattle.ds_image_parts.specs.Objects.{ptrs_by}
use Rattle.ds_image_tables.specs.Owns.{IsAt}
use Rattle.ds_image_parts.specs.Parts.{Parts, part_at, bits_in}
use Rattle.ds_image_parts.specs.Pending.{Pair}
use Rattle.ds_image_parts.specs.Readings.{ReadsParts}
use Rattle.ds_image.specs.SeenValues.{SeenValue, has_lock, look_of}
use Rattle.ds_image.specs.Sound.{StandsFor, block_lists}
use Rattle.ds_image.specs.declared.asks.Ask.{Ask}
use Rattle.ds_image_tables.proofs.Ownership.Marking.{can-none}
use Rattle.ds_image_tables.proofs.Spelling.Places.{at-append, Contains-from_at}
use Rattle.ds_image.proofs.Spelling.Sizes.{body_is}
use Rattle.ds_jrnl.specs.declared.redo.Redo.{Redo}
use Rattle.ds_layout.specs.Places.{cluster_lock, place_sector}
use Rattle.ds_layout.specs.declared.places.Place.TheVariants as places
use Rattle.ds_plan_base.specs.Giving.{Maps, map_sectors, maps_left, with_maps_left, given_up}
use Rattle.ds_plan_base.proofs.Goes.{Goes}
use Rattle.ds_image.specs.Locks.{GivesUp, block_past, pointer_past}
use Rattle.ds_plan_base.proofs.PlanAsks.{PlanAsks, IsPlanChange}
use Rattle.ds_plan_base.proofs.Cleared.{left-clears, ClearsKind}
use Rattle.ds_plan_base.proofs.Dirs.{body_in}
use Rattle.ds_plan_base.proofs.GivingWalk.{AreMarked, give_goes, map-known}
use Rattle.ds_plan_base.proofs.Going.{goes-after}
use Rattle.ds_plan_base.proofs.MapsLeft.{AreLeft}
use Rattle.ds_plan_laws_size.specs.Pages.{ptrs_in, blocks_in}
use Rattle.ds_plan_laws_size.specs.Planned.{ShrinksFile, HasSize}
use Rattle.ds_plan_laws_size.specs.Pointers.{WritesPages}
use Rattle.ds_plan_laws_size.specs.Ready.{ReadyToResize}
use Rattle.ds_plan_laws_size.specs.Resizing.{blocks_after}
use Rattle.ds_plan_laws_size.specs.Takes.{Gives}
use Rattle.ds_plan_laws_size.proofs.BuiltPages.{sized-body, sized-pointers, sized-no_pointers}
use Rattle.ds_plan_laws_size.proofs.FileLists.{block_list-is}
use Rattle.ds_plan_laws_size.proofs.PointerSectors.{pointer-listed}
use Rattle.ds_plan_laws_size.proofs.ReadyFiles.{shrunk-ready}
use Rattle.ds_plan_laws_size.proofs.WrittenPages.{pointers-once}
use Rattle.ds_plan_resize.proofs.Below.{below-take, below-padded}
use Rattle.ds_plan_resize.specs.Blocks.{AreItems, blocks_seen, pointers_in, pointers_from}
use Rattle.ds_plan_resize.proofs.BlocksWalk.{HasOld, blocks_goes}
use Rattle.ds_plan_resize.specs.Files.{CanResize}
use Rattle.ds_plan_resize.proofs.FileWalk.{HasFile}
use Rattle.ds_plan_resize.proofs.GrowWalk.{old-items}
use Rattle.ds_plan_resize.proofs.Holding.{MayHold, MayRead, holds-pb, holds-fb, reads-pb, reads-fb}
use Rattle.ds_plan_resize.proofs.InOrder.{put_all_by}
use Rattle.ds_plan_resize.proofs.OrderedPairs.{AreRising}
use Rattle.ds_plan_resize.proofs.PagesWritten.{dropped-at, pages-write}
use Rattle.ds_plan_resize.specs.Redos.{pages_of, redo_of, used_by}
use Rattle.ds_plan_resize.proofs.RightSizes.{at-map, sector_of, in-order-are, pages-sorted, size-right}
use Rattle.ds_plan_resize.specs.Shrinking.{shrunk, shrink_known, no_maps}
use Rattle.ds_plan_resize.proofs.ShrunkFacts.{shrunk-writable, has-size}
use Rattle.ds_plan_resize.proofs.SizeTargets.{maps-metadata, size-targets}
use Rattle.ds_plan_resize.specs.Writable.{IsWritable}
use Rattle.ds_plan_resize.specs.declared.blocks.Blocks.{Blocks}
use Rattle.ds_plan_resize.specs.declared.resized.Resized.{Resized}
use Rattle.ds_tree.specs.Counts.{pointer_blocks}
use Rattle.ds_tree.specs.Nodes.{FileTree}
use Rattle.ds_tree.specs.declared.calls.CallOf.{CallOf}
use Rattle.ds_tree.specs.declared.calls.CallOf.TheVariants.{Resize}
use Rattle.ds_tree.specs.declared.calls.TreeReply.TheVariants.{Sized}

-- bitmaps by rising clusters have rising sectors
rising-from : (low : ℕ) (s : ℕ → ℕ) (f : ℕ × Bitmap → Pair) → ((x : ℕ × Bitmap) → (f x).0 ≡ s x.0) → ((a b : ℕ) → a < b → s a < s b) → (maps : List (ℕ × Bitmap))
    → ((i j : ℕ) (m n : ℕ × Bitmap) → i < j → slice_get maps i ≡ Some m → slice_get maps j ≡ Some n → m.0 < n.0)
    → ((i : ℕ) (m : ℕ × Bitmap) → slice_get maps i ≡ Some m → low ≤ s m.0) → AreRising low (map f maps)
rising-from low s f at rises [] up from = tt
rising-from low s f at rises (m ∷ maps) up from = (
  omega (arith, at m, from 0 m refl),
  rising-from (suc (f m).0) s f at rises maps (λ i j x y l one two. up (suc i) (suc j) x y (omega (arith, l)) one two)
      (λ i x here. omega (arith, at m, rises m.0 x.0 (up 0 (suc i) m x (omega arith) refl here))),
)

rising-joined : (low bound : ℕ) (xs ys : List Pair) → low ≤ bound → ((i : ℕ) (q : Pair) → slice_get xs i ≡ Some q → q.0 < bound) → AreRising low xs → AreRising bound ys → AreRising low (xs ++ ys)
rising-joined low bound [] ys l below one two = lower low bound ys l two
  where
    lower : (low bound : ℕ) (ys : List Pair) → low ≤ bound → AreRising bound ys → AreRising low ys
    lower low bound [] l up = tt
    lower low bound (y ∷ ys) l up = (omega (arith, l, up.0), up.1)
rising-joined low bound (x ∷ xs) ys l below one two =
    (one.0, rising-joined (suc x.0) bound xs ys (below 0 x refl) (λ i q at. below (suc i) q at) one.1 two)

all-from : (P : ℕ → Type 0) (pairs : List Pair) → ((i : ℕ) (q : Pair) → slice_get pairs i ≡ Some q → P q.0) → All P (targets_of pairs)
all-from P [] each = All-nil P
all-from P (q ∷ pairs) each = All-cons P q.0 (targets_of pairs) (each 0 q refl) (all-from P pairs (λ i x at. each (suc i) x at))

all-joined : (P : ℕ → Type 0) (xs ys : List Pair) → ((i : ℕ) (q : Pair) → slice_get xs i ≡ Some q → P q.0) → ((i : ℕ) (q : Pair) → slice_get ys i ≡ Some q → P q.0)
    → (i : ℕ) (q : Pair) → slice_get (xs ++ ys) i ≡ Some q → P q.0
all-joined P xs ys one two i q at = elim (at-append xs ys i q at) [
  | inl front ↦ one i q front
  | inr back ↦ two back.0 q back.2
]

module _ (g : Geom) (is_geom : IsGeom g) (slot : ℕ) (key : Key) (size : ℕ) (seen : SeenValue) (p : Parts) (reads : ReadsParts g (look_of seen) p) (b : Body) (has : HasFile g seen p key size b)
    (shrinks : size ≤ b.count) where
  abbrev call : CallOf Key
  call = Resize key size

  abbrev Good : Ask → Type 0
  Good = PlanAsks g slot call (MayHold key.object) (MayRead g key.object) seen p

  file : b.kind ≡ Some kinds.File
  file = has.sees.is_kind

  body-is : IsBody b
  body-is = body_is g (look_of seen) p key.object b reads has.sees.there

  object-is : b.object ≡ key.object
  object-is = ((reads.bodies.each key.object has.inside b).0 has.sees.there).0

  can : CanResize g size b
  can = record {
    inside = subst (λ o. o < items_of g Fd) (sym object-is) has.inside;
    is_body = body-is;
    is_file = file;
    most = has.most;
    near = has.near;
  }

  abbrev first : ℕ
  first = size / 128

  abbrev listed : ℕ
  listed = place_sector g (places.Body b.object)

  read-listed : IsSome (look_of seen listed)
  read-listed = ap (λ o. is_some (look_of seen (place_sector g (places.Body o)))) object-is ∙ has.read

  there-in : (image : List Sector) (t : FileTree) (stands : StandsFor g image t) → Agrees seen image → part_at stands.parts.bodies key.object ≡ Some b
  there-in image t stands agrees = body_in g seen p key.object image t stands has.inside reads agrees has.read ∙ has.sees.there

  -- The pointer blocks that are given up

  abbrev given_pb : List ℕ
  given_pb = pointers_from b (pointer_blocks size)

  pb-marked : (image : List Sector) (t : FileTree) (stands : StandsFor g image t) → Agrees seen image → AreMarked stands.parts Pb given_pb
  pb-marked image t stands agrees =
      let q = stands.parts in
      let at-listed = λ (i n : ℕ) (at : slice_get given_pb i ≡ Some n).
      pointer-listed g (slice_get image) q key.object b stands.reads stands.sound (there-in image t stands agrees) file (pointer_blocks size + i) n
      (dropped-at (pointers_in b) (pointer_blocks size) i n at) in
      record {
        marked = λ i n at. stands.sound.ptr_owners.marked key.object (pointer_blocks size + i) n (at-listed i n at);
        once = λ i j n one two.
            let same = stands.sound.ptr_owners.once key.object (pointer_blocks size + i) key.object (pointer_blocks size + j) n (at-listed i n one) (at-listed j n two) in
            omega (arith, same.1);
      }

  pb-gives : (i n : ℕ) → slice_get given_pb i ≡ Some n → GivesUp p call Pb n
  pb-gives i n at = record {
    body = b;
    in_file = has.sees;
    not_too_much = omega (arith, has.near);
    past = pointer_past (pointer_blocks size + i) n (omega arith)
        (ap (λ kind. slice_get (ptrs_by b kind) (pointer_blocks size + i)) file ∙ dropped-at (pointers_in b) (pointer_blocks size) i n at);
  }

  pb_goes : Goes Good (maps_left g seen p Pb given_pb listed) (AreLeft g seen p Pb given_pb 0)
  pb_goes =
      give_goes g is_geom slot call (MayHold key.object) (MayRead g key.object) seen p reads Pb given_pb listed read-listed pb-marked pb-gives
      (λ i n at inside. holds-pb g key.object seen p is_geom (n / per_cluster g Pb) inside)
      (λ i n at inside. reads-pb g key.object seen p is_geom (n / per_cluster g Pb) inside)

  module _ (old : Blocks) (has_old : HasOld g seen p b first old) where
    -- The blocks that are given up

    abbrev given_fb : List ℕ
    given_fb = drop (size % 128) old.list.items

    split : 128 * first + size % 128 ≡ size
    split = omega arith

    drop-twice : (m n : ℕ) (xs : List ℕ) → drop n (drop m xs) ≡ drop (m + n) xs
    drop-twice zero n xs = let none : n ≡ 0 + n = omega arith in ap (λ k. drop k xs) none
    drop-twice (suc m) zero [] = let sum : suc m ≡ suc m + 0 = omega arith in ap (λ k. drop k []) sum
    drop-twice (suc m) (suc n) [] = let sum : suc (m + suc n) ≡ suc m + suc n = omega arith in ap (λ k. drop k []) sum
    drop-twice (suc m) n (x ∷ xs) = let sum : suc (m + n) ≡ suc m + n = omega arith in drop-twice m n xs ∙ ap (λ k. drop k (x ∷ xs)) sum

    given-in : (image : List Sector) (t : FileTree) (stands : StandsFor g image t) → Agrees seen image → given_fb ≡ drop size (blocks_in stands.parts b)
    given-in image t stands agrees =
        ap (drop (size % 128)) (has_old.are image t stands agrees) ∙ drop-twice (128 * first) (size % 128) (blocks_in stands.parts b)
        ∙ ap (λ n. drop n (blocks_in stands.parts b)) split

    fb-marked : (image : List Sector) (t : FileTree) (stands : StandsFor g image t) → Agrees seen image → AreMarked stands.parts Fb given_fb
    fb-marked image t stands agrees =
        let q = stands.parts in
        let at-listed : (i n : ℕ) → slice_get given_fb i ≡ Some n → IsAt (block_lists q) key.object (size + i) n =
        λ i n at.
        ap (λ l. slice_get l (size + i)) (block_list-is q key.object b (there-in image t stands agrees) file)
        ∙ dropped-at (blocks_in q b) size i n (ap (λ l. slice_get l i) (sym (given-in image t stands agrees)) ∙ at) in
        record {
          marked = λ i n at. stands.sound.block_owners.marked key.object (size + i) n (at-listed i n at);
          once = λ i j n one two.
              let same = stands.sound.block_owners.once key.object (size + i) key.object (size + j) n (at-listed i n one) (at-listed j n two) in
              omega (arith, same.1);
        }

    fb-gives : (i n : ℕ) → slice_get given_fb i ≡ Some n → GivesUp p call Fb n
    fb-gives i n at =
        let place = dropped-at old.list.items (size % 128) i n at in
        let within = slice_get_within old.list.items (size % 128 + i) n place in
        record {
          body = b;
          in_file = has.sees;
          not_too_much = omega (arith, has.near);
          past = block_past (128 * first + (size % 128 + i)) n (omega (arith, split)) (omega (arith, within, has_old.count)) (has_old.seen_at (size % 128 + i) n place);
        }

    fb_goes : Goes Good (maps_left g seen p Fb given_fb listed) (AreLeft g seen p Fb given_fb 0)
    fb_goes =
        give_goes g is_geom slot call (MayHold key.object) (MayRead g key.object) seen p reads Fb given_fb listed read-listed fb-marked fb-gives
        (λ i n at inside. holds-fb g key.object seen p is_geom (n / per_cluster g Fb) inside)
        (λ i n at inside. reads-fb g key.object seen p is_geom (n / per_cluster g Fb) inside)

    -- The change

    module _ (pb : Maps) (left_pb : AreLeft g seen p Pb given_pb 0 pb) (fb : Maps) (left_fb : AreLeft g seen p Fb given_fb 0 fb) where
      abbrev maps : Redo
      maps = with_maps_left g Fb (with_maps_left g Pb no_maps pb) fb

      abbrev r : Resized
      r = shrunk b size old maps

      abbrev blocks : List ℕ
      blocks = take (size % 128) old.list.items

      abbrev pointers : List ℕ
      pointers = take (pointer_blocks size) (pointers_in b)

      old-in : AreItems g Pb (pointers_from b first)
      old-in = old-items g is_geom slot key size seen p reads b has first old has_old

      few-maps : length maps.pairs.items ≤ 16
      few-maps =
          omega (
            arith,
            length-append (map_sectors g Pb pb) (map_sectors g Fb fb),
            length-map pb (sector_of g Pb),
            length-map fb (sector_of g Fb),
            left_pb.few,
            left_fb.few,
            (is_geom (Clusters Pb)).1,
            (is_geom (Clusters Fb)).1,
          )

      below : AllBelow (2 ^ 32) r.body.addresses
      below = below-padded (2 ^ 32) 96 (used_by size blocks pointers) (omega arith) (by (nat_le size 96))
        where
          by : (test : Bool) → AllBelow (2 ^ 32) (if test then blocks else pointers)
          by true = below-take (2 ^ 32) (size % 128) old.list.items has_old.below
          by false = below-take (2 ^ 32) (pointer_blocks size) (pointers_in b) (below-take (2 ^ 32) (pointer_blocks b.count) b.addresses body-is.widths.addresses_fit)

      writable : IsWritable g r
      writable = shrunk-writable g size b old maps can shrinks has_old.count old-in few-maps below

      sized : HasSize b r.body size (used_by size blocks pointers)
      sized = has-size g size b old maps can shrinks has_old.count old-in few-maps below

      pb-within : (i : ℕ) (m : ℕ × Bitmap) → slice_get pb i ≡ Some m → m.0 < clusters_of g Pb
      pb-within i m at = (left_pb.each i m at).inside

      fb-within : (i : ℕ) (m : ℕ × Bitmap) → slice_get fb i ≡ Some m → m.0 < clusters_of g Fb
      fb-within i m at = (left_fb.each i m at).inside

      pb-held : (i : ℕ) (m : ℕ × Bitmap) → slice_get pb i ≡ Some m → has_lock seen (cluster_lock Pb m.0) ≡ true
      pb-held i m at = let is = left_pb.each i m at in (map-known g seen p reads Pb m.0 is.before is.inside is.is_seen).held

      fb-held : (i : ℕ) (m : ℕ × Bitmap) → slice_get fb i ≡ Some m → has_lock seen (cluster_lock Fb m.0) ≡ true
      fb-held i m at = let is = left_fb.each i m at in (map-known g seen p reads Fb m.0 is.before is.inside is.is_seen).held

      maps-rise : AreRising 0 maps.pairs.items
      maps-rise =
          let bound : ℕ = place_sector g (places.Bitmap Fb 0) in
          rising-joined 0 bound (map_sectors g Pb pb) (map_sectors g Fb fb) (omega arith)
          (λ i q at.
          let m = at-map (sector_of g Pb) pb i q at in
          omega (arith, pb-within i m.0 m.1, ap (λ (x : Pair). x.0) m.2))
          (rising-from 0 (λ c. place_sector g (places.Bitmap Pb c)) (sector_of g Pb) (λ m. refl) (λ a c less. omega (arith, less)) pb left_pb.rising (λ i m at. omega arith))
          (rising-from bound (λ c. place_sector g (places.Bitmap Fb c)) (sector_of g Fb) (λ m. refl) (λ a c less. omega (arith, less)) fb left_fb.rising (λ i m at. omega arith))

      maps-all : All (IsMetadata g) (targets_of maps.pairs.items)
      maps-all =
          all-from (IsMetadata g) maps.pairs.items
          (all-joined (IsMetadata g) (map_sectors g Pb pb) (map_sectors g Fb fb) (maps-metadata g Pb pb pb-within) (maps-metadata g Fb fb fb-within))

      module _ (image : List Sector) (t : FileTree) (stands : StandsFor g image t) (agrees : Agrees seen image) where
        abbrev q : Parts
        q = stands.parts

        there : part_at q.bodies key.object ≡ Some b
        there = there-in image t stands agrees

        gives-of : (kind : Kind) (items : List ℕ) (cleared : Maps) → ClearsKind g q kind items cleared → Gives g q kind items cleared
        gives-of kind items cleared clears = record {
          once = λ i j m n one two same. clears.once i j m n one two same;
          sets = λ i m at.
              let is = clears.before i m at in
              record { before = is.0; there = is.1; same_kind = is.2.same_kind; same_cluster = is.2.same_cluster; changed = is.2.marks };
          all = λ i x at. clears.whole x (Contains-from_at items i x at);
        }

        pb-gone : Gives g q Pb given_pb pb
        pb-gone = gives-of Pb given_pb pb (left-clears g is_geom seen p reads Pb given_pb pb left_pb image t stands agrees (pb-marked image t stands agrees))

        fb-gone : Gives g q Fb (drop size (blocks_in q b)) fb
        fb-gone =
            subst (λ items. Gives g q Fb items fb) (given-in image t stands agrees)
            (gives-of Fb given_fb fb (left-clears g is_geom seen p reads Fb given_fb fb left_fb image t stands agrees (fb-marked image t stands agrees)))

        pointers-are : ptrs_in r.body ≡ take (pointer_blocks size) (ptrs_in b) ++ []
        pointers-are = elim (cases_lt 96 size) [
          | inl large ↦
              let test : nat_le size 96 ≡ false = grind (arith, nat_tests, large) in
              sized-pointers b r.body size (used_by size blocks pointers) body-is file sized large ∙ ap (λ x. if x then blocks else pointers) test ∙ sym (append-nil pointers)
          | inr small ↦
              let test : nat_le size 96 ≡ true = grind (arith, nat_tests, small) in
              let none : pointer_blocks size ≡ 0 = ap (λ x. if x then 0 else (size + 127) / 128) test in
              sized-no_pointers b r.body size (used_by size blocks pointers) body-is file sized small ∙ sym (ap (λ n. take n (ptrs_in b) ++ []) none)
        ]

        list-is : drop (128 * first) (blocks_after q b size []) ≡ blocks
        list-is =
            ap (drop (128 * first)) (append-nil (take size (blocks_in q b)) ∙ ap (λ n. take n (blocks_in q b)) (sym split))
            ∙ drop-take (128 * first) (size % 128) (blocks_in q b) ∙ ap (take (size % 128)) (sym (has_old.are image t stands agrees))

        pages-are : WritesPages b r.body (blocks_after q b size []) first (pages_of blocks (pointers_from r.body first))
        pages-are =
            subst (λ l. WritesPages b r.body (blocks_after q b size []) first (pages_of l (pointers_from r.body first))) list-is
            (pages-write b r.body (blocks_after q b size []) first (omega (arith, split, shrinks)) (omega (arith, split))
            (subst (AllBelow (2 ^ 32)) (sym list-is) (below-take (2 ^ 32) (size % 128) old.list.items has_old.below))
            (pointers-once g (slice_get image) q stands.reads stands.sound key.object b r.body size []
            (sized-body b r.body size (used_by size blocks pointers) body-is file sized q key.object there) pointers-are (can-none (bits_in q.pb_maps))))

        shrinks-file : ShrinksFile g q key.object b r.body size first pb fb (pages_of blocks (pointers_from r.body first))
        shrinks-file = record {
          there = there;
          file = file;
          less = shrinks;
          block_gives = fb-gone;
          pointer_gives = pb-gone;
          used = used_by size blocks pointers;
          has = sized;
          few = λ small.
              let test : nat_le size 96 ≡ true = grind (arith, nat_tests, small) in
              let zero-first : first ≡ 0 = omega (arith, small) in
              let same : size % 128 ≡ size = omega (arith, small) in
              ap (λ x. if x then blocks else pointers) test
              ∙ (λ i. take (same i) ((has_old.are image t stands agrees ∙ ap (λ n. drop (128 * n) (blocks_in q b)) zero-first) i));
          many = λ large.
              let test : nat_le size 96 ≡ false = grind (arith, nat_tests, large) in
              ap (λ x. if x then blocks else pointers) test;
          pages = pages-are;
        }

        ready : ReadyToResize g q key.object b r.body size [] [] first pb fb (put_all_by [] (pages_of blocks (pointers_from r.body first)))
        ready =
            let was = shrunk-ready g (slice_get image) q stands.reads stands.sound key.object b r.body size first (pages_of blocks (pointers_from r.body first)) pb fb is_geom shrinks-file in
            record {
              body = was.body;
              grows = was.grows;
              blocks_free = was.blocks_free;
              pointers_free = was.pointers_free;
              direct = was.direct;
              lists = was.lists;
              pages = pages-sorted b r.body (blocks_after q b size []) first (pages_of blocks (pointers_from r.body first)) was.pages;
              pointer_marks = was.pointer_marks;
              block_marks = was.block_marks;
            }

        right : IsRightChange g call seen image t (redo_of g r).pairs.items (Sized size)
        right =
            size-right g is_geom seen image t stands key b r.body size [] [] first pb fb (put_all_by [] (pages_of blocks (pointers_from r.body first))) ready (redo_of g r).pairs.items
            (in-order-are g key.object r.body object-is has.inside pb fb pb-within fb-within (pages_of blocks (pointers_from r.body first)))
            has.held pb-held fb-held has.sees.life has.near has.differs

      -- what is written is right
      pub shrunk-good : IsPlanChange g call seen (redo_of g r).pairs.items (Sized size)
      shrunk-good = record { targets = size-targets g r writable maps-rise maps-all; right = right }

  -- The walk

  abbrev Well : Resized → Type 0
  Well r = IsPlanChange g call seen (redo_of g r).pairs.items (Sized size)

  abbrev Left : Kind → List ℕ → Redo → Redo → Type 0
  Left kind items redo after_it = (maps : Maps) × AreLeft g seen p kind items 0 maps × (after_it ≡ with_maps_left g kind redo maps)

  given_goes : (kind : Kind) (items : List ℕ) (redo : Redo) → Goes Good (maps_left g seen p kind items listed) (AreLeft g seen p kind items 0)
      → Goes Good (given_up g seen p kind items listed redo) (Left kind items redo)
  given_goes kind items redo goes =
      goes-after Good (AreLeft g seen p kind items 0) (Left kind items redo) (maps_left g seen p kind items listed) _ goes (λ maps left. (maps, left, refl))

  -- the change is known and right, or what is asked for is good
  pub shrink_goes : Goes Good (shrink_known g seen p b size) Well
  shrink_goes =
      goes-after Good (HasOld g seen p b first) Well (blocks_seen g seen p b first) _
      (blocks_goes g slot key size seen p reads b has first (omega (arith, shrinks)))
      (λ old has_old.
      goes-after Good (Left Pb given_pb no_maps) Well (given_up g seen p Pb given_pb listed no_maps) _ (given_goes Pb given_pb no_maps pb_goes)
      (λ pointer_maps one.
      goes-after Good (Left Fb (drop (size % 128) old.list.items) pointer_maps) Well (given_up g seen p Fb (drop (size % 128) old.list.items) listed pointer_maps) _
      (given_goes Fb (drop (size % 128) old.list.items) pointer_maps (fb_goes old has_old))
      (λ maps two.
      subst (λ (maps : Redo). Well (shrunk b size old maps)) (sym (two.2 ∙ ap (λ (redo : Redo). with_maps_left g Fb redo two.0) one.2))
      (shrunk-good old has_old one.0 one.1 two.0 two.1))))
