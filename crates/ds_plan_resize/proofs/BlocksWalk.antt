-- A planner that wants the blocks of a file from one page on asks for what it may.
use Rattle.std.proofs.Common.{◌≡◌, ℕ, zero, suc, ◌+◌, ◌-◌, ◌*◌, ◌/◌, ◌^◌, ◌<◌, ◌≤◌, true, false, nat_eq, nat_le, nat_lt, if◌then◌else◌, List, [], ◌∷◌, ◌++◌, length, take, drop, None, Some, refl, sym, ap, subst, ◌∙◌, slice_get, is_some, append_assoc, length-append, length-take, length-drop, arith}
use Rattle.std.specs.Prelude.{Result, Ok, Err, IsSome}
use Rattle.std.specs.List.{flat_map, list_any}
use Rattle.std.proofs.lemmas.Bool.{false≢true}
use Rattle.std.proofs.lemmas.Bool.Decides.{nat_tests}
use Rattle.std.proofs.lemmas.Cmp.{nat_eq_equiv}
use Rattle.ds_base.specs.Geometry.{items_of}
use Rattle.ds_base.specs.declared.geometry.Geom.{Geom}
use Rattle.ds_base.specs.declared.geometry.Kind.TheVariants.{Pb}
use Rattle.ds_base.specs.declared.names.Key.{Key}
use Rattle.ds_base.specs.declared.names.NodeKind.TheVariants as kinds
use Rattle.ds_base.specs.declared.sectors.Sector.{Sector}
use Rattle.ds_bytes.specs.Fields.{AllBelow}
use Rattle.ds_fd.specs.declared.body.Body.{Body}
use Rattle.ds_image.specs.Asking.{Agrees}
use Rattle.ds_image_parts.specs.Objects.{addresses_in, ptrs_by, ptrs_of}
use Rattle.ds_image_parts.specs.Parts.{Parts, part_at}
use Rattle.ds_image_parts.specs.Readings.{ReadsParts}
use Rattle.ds_image.specs.SeenValues.{SeenValue, look_of}
use Rattle.ds_image.specs.Sound.{StandsFor}
use Rattle.ds_image.specs.declared.asks.Ask.{Ask}
use Rattle.ds_image.specs.declared.asks.Ask.TheVariants as asks
use Rattle.ds_image.proofs.Spelling.Sizes.{body_is}
use Rattle.ds_layout.specs.Places.{place_sector}
use Rattle.ds_layout.specs.declared.places.Place.TheVariants as places
use Rattle.ds_plan_base.specs.Bodies.{part_seen}
use Rattle.ds_plan_base.proofs.Goes.{Goes}
use Rattle.ds_image.specs.Locks.{block_seen}
use Rattle.ds_plan_base.proofs.PlanAsks.{PlanAsks}
use Rattle.ds_plan_base.proofs.Dirs.{body_in}
use Rattle.ds_plan_base.proofs.Going.{goes-after, goes-if, goes-part}
use Rattle.ds_plan_base.proofs.Limits.{or-left, or-right}
use Rattle.ds_plan_base.specs.declared.stops.Stop.{Stop}
use Rattle.ds_ptr.specs.declared.ptr_block.PtrBlock.{PtrBlock}
use Rattle.ds_plan_laws_size.specs.Pages.{ptrs_in, blocks_in}
use Rattle.ds_plan_laws_size.proofs.BuiltPages.{pages-joined}
use Rattle.ds_plan_laws_size.proofs.Paged.{ptrs-length, some-pointers}
use Rattle.ds_plan_laws_size.proofs.PointerSectors.{pointer-listed, pointer-in_range, pointer-guard}
use Rattle.ds_plan_laws_size.proofs.SpelledBlocks.{size-is, spelled-blocks}
use Rattle.ds_plan_resize.proofs.Below.{below-take, below-flat}
use Rattle.ds_plan_base.specs.Pointers.{pointer_seen}
use Rattle.ds_plan_base.proofs.Alike.{ptr_alike}
use Rattle.ds_plan_resize.specs.Blocks.{addresses_seen, blocks_of, blocks_seen, cut, pointers_in, pointers_from}
use Rattle.ds_plan_resize.proofs.FileWalk.{HasFile}
use Rattle.ds_plan_resize.proofs.Holding.{MayHold, MayRead, of_pointer}
use Rattle.ds_plan_resize.proofs.PagesWritten.{dropped-at}
use Rattle.ds_plan_resize.proofs.SeenBlocks.{small-seen, large-seen}
use Rattle.ds_plan_resize.specs.declared.blocks.Blocks.{Blocks}
use Rattle.ds_tree.specs.Nodes.{FileTree}
use Rattle.ds_tree.specs.declared.calls.CallOf.TheVariants.{Resize}

listed-any : (xs : List ℕ) (k n : ℕ) → slice_get xs k ≡ Some n → list_any (nat_eq n) xs ≡ true
listed-any [] k n at = absurd cc
listed-any (x ∷ xs) zero n at =
    let same : x ≡ n = cc in
    or-left (nat_eq n x) (list_any (nat_eq n) xs) (ap (nat_eq n) same ∙ nat_eq_equiv.refl n)
listed-any (x ∷ xs) (suc k) n at = or-right (nat_eq n x) (list_any (nat_eq n) xs) (listed-any xs k n at)

-- a pointer block that was read
pub record HasPtr (g : Geom) (seen : SeenValue) (p : Parts) (n : ℕ) (block : PtrBlock) : Type 0 where
  pub inside : n < items_of g Pb
  pub read : (s : Sector) × (look_of seen (place_sector g (places.PtrBlock n)) ≡ Some s)
  pub there : part_at p.ptrs n ≡ Some block

-- the blocks of a file from a page on are known, and so are the pointer blocks in which they stand
pub record HasOld (g : Geom) (seen : SeenValue) (p : Parts) (b : Body) (first : ℕ) (old : Blocks) : Type 0 where
  pub pointers : (i n : ℕ) → slice_get (pointers_from b first) i ≡ Some n → (block : PtrBlock) × HasPtr g seen p n block
  pub below : AllBelow (2 ^ 32) old.list.items
  pub count : length old.list.items ≡ b.count - 128 * first
  pub seen_at : (j n : ℕ) → slice_get old.list.items j ≡ Some n → block_seen p b (128 * first + j) ≡ Some n
  pub are : (image : List Sector) (t : FileTree) (stands : StandsFor g image t) → Agrees seen image → old.list.items ≡ drop (128 * first) (blocks_in stands.parts b)

module _ (g : Geom) (slot : ℕ) (key : Key) (size : ℕ) (seen : SeenValue) (p : Parts) (reads : ReadsParts g (look_of seen) p) (b : Body) (has : HasFile g seen p key size b) where
  abbrev Good : Ask → Type 0
  Good = PlanAsks g slot (Resize key size) (MayHold key.object) (MayRead g key.object) seen p

  file : b.kind ≡ Some kinds.File
  file = has.sees.is_kind

  there-in : (image : List Sector) (t : FileTree) (stands : StandsFor g image t) → Agrees seen image → part_at stands.parts.bodies key.object ≡ Some b
  there-in image t stands agrees = body_in g seen p key.object image t stands has.inside reads agrees has.read ∙ has.sees.there

  object-is : b.object ≡ key.object
  object-is = ((reads.bodies.each key.object has.inside b).0 has.sees.there).0

  listed-in : (k n : ℕ) → slice_get (ptrs_in b) k ≡ Some n → list_any (nat_eq n) (ptrs_of (part_at p.bodies key.object)) ≡ true
  listed-in k n at =
      ap (λ r. list_any (nat_eq n) (ptrs_of r)) has.sees.there ∙ ap (λ kind. list_any (nat_eq n) (ptrs_by b kind)) file ∙ listed-any (ptrs_in b) k n at

  module _ (k n : ℕ) (at : slice_get (ptrs_in b) k ≡ Some n) where
    abbrev ptr_at : ℕ
    ptr_at = place_sector g (places.PtrBlock n)

    outside_good : nat_lt n (items_of g Pb) ≡ false → Good (asks.Odd (place_sector g (places.Body b.object)))
    outside_good outside = record {
      read = ap (λ o. is_some (look_of seen (place_sector g (places.Body o)))) object-is ∙ has.read;
      none = λ image t stands agrees.
          let within = pointer-in_range g (slice_get image) stands.parts key.object b stands.reads stands.sound (there-in image t stands agrees) file k n at in
          let past : items_of g Pb ≤ n = grind (arith, nat_tests, outside) in
          absurd (omega (arith, within, past));
    }

    module _ (inside : n < items_of g Pb) where
      unread_good : look_of seen ptr_at ≡ None → Good (asks.Read ptr_at)
      unread_good unread = record {
        readable = record {
          metadata = record { place = places.PtrBlock n; is_place = inside; here = refl; kept = refl };
          unread = unread;
          guarded = λ image t stands agrees. record {
            object = key.object;
            guards = pointer-guard g (slice_get image) stands.parts key.object b stands.reads stands.sound (there-in image t stands agrees) file k n at;
            held = has.held;
          };
        };
        one = of_pointer n (listed-in k n at);
      }

      odd_good : (s : Sector) → look_of seen ptr_at ≡ Some s → part_at p.ptrs n ≡ None → Good (asks.Odd ptr_at)
      odd_good s there none = record {
        read = ap is_some there;
        none = λ image t stands agrees.
            let q = stands.parts in
            let same = ptr_alike g (slice_get image) (look_of seen) q p n inside (agrees ptr_at s there ∙ sym there) stands.reads reads in
            let some : IsSome (part_at q.ptrs n) =
            stands.sound.ptrs key.object k n (pointer-listed g (slice_get image) q key.object b stands.reads stands.sound (there-in image t stands agrees) file k n at) in
            false≢true (sym (ap is_some (same ∙ none)) ∙ some);
      }

    pointer_goes : Goes Good (pointer_seen g seen p b n) (HasPtr g seen p n)
    pointer_goes =
        goes-if Good (HasPtr g seen p n) (nat_lt n (items_of g Pb)) (part_seen ptr_at (look_of seen ptr_at) (part_at p.ptrs n)) _
        (λ test.
        let inside : n < items_of g Pb = grind (arith, nat_tests, test) in
        goes-part Good (HasPtr g seen p n) ptr_at (look_of seen ptr_at) (part_at p.ptrs n) (unread_good inside) (odd_good inside)
        (λ s block there is. record { inside = inside; read = (s, there); there = is }))
        outside_good

  -- what is read of these pointer blocks
  abbrev pointed : ℕ → List ℕ
  pointed n = addresses_in (part_at p.ptrs n)

  abbrev Pointed : List ℕ → List ℕ → Blocks → Type 0
  Pointed found ns blocks = ((i n : ℕ) → slice_get ns i ≡ Some n → (block : PtrBlock) × HasPtr g seen p n block) × (blocks.list.items ≡ found ++ flat_map pointed ns)

  addresses_go : (ns : List ℕ) → ((i n : ℕ) → slice_get ns i ≡ Some n → (k : ℕ) × (slice_get (ptrs_in b) k ≡ Some n)) → (found : List ℕ)
      → Goes Good (addresses_seen g seen p b found ns) (Pointed found ns)
  addresses_go [] listed found = (λ i n at. absurd cc, sym (append-none found))
    where
      append-none : (xs : List ℕ) → xs ++ [] ≡ xs
      append-none [] = refl
      append-none (x ∷ xs) = ap (λ l. x ∷ l) (append-none xs)
  addresses_go (n ∷ ns) listed found =
      let here = listed 0 n refl in
      goes-after Good (HasPtr g seen p n) (Pointed found (n ∷ ns)) (pointer_seen g seen p b n) _ (pointer_goes here.0 n here.1)
      (λ block got.
      more block got (addresses_seen g seen p b (found ++ block.addresses) ns) (addresses_go ns (λ i m at. listed (suc i) m at) (found ++ block.addresses)))
    where
      each : (block : PtrBlock) → HasPtr g seen p n block → ((i m : ℕ) → slice_get ns i ≡ Some m → (block : PtrBlock) × HasPtr g seen p m block)
          → (i m : ℕ) → slice_get (n ∷ ns) i ≡ Some m → (block : PtrBlock) × HasPtr g seen p m block
      each block got rest zero m at = let same : n ≡ m = cc in subst (λ m. (block : PtrBlock) × HasPtr g seen p m block) same (block, got)
      each block got rest (suc i) m at = rest i m at

      more : (block : PtrBlock) → HasPtr g seen p n block → (r : Result Blocks Stop) → Goes Good r (Pointed (found ++ block.addresses) ns) → Goes Good r (Pointed found (n ∷ ns))
      more block got (Err stop) good = good
      more block got (Ok blocks) is = (
        each block got is.0,
        is.1 ∙ append_assoc found block.addresses (flat_map pointed ns) ∙ ap (λ r. found ++ (addresses_in r ++ flat_map pointed ns)) (sym got.there),
      )

  wide-flat : (ns : List ℕ) → ((i n : ℕ) → slice_get ns i ≡ Some n → (block : PtrBlock) × HasPtr g seen p n block) → length (flat_map pointed ns) ≡ 128 * length ns
  wide-flat [] each = omega arith
  wide-flat (n ∷ ns) each =
      let got = (each 0 n refl).1 in
      let one : length (pointed n) ≡ 128 = ap (λ r. length (addresses_in r)) got.there ∙ (((reads.ptrs.each n got.inside (each 0 n refl).0).0 got.there).0.count) in
      omega (arith, length-append (pointed n) (flat_map pointed ns), one, wide-flat ns (λ i m at. each (suc i) m at))

  -- in an image the pointer blocks are the same
  pointed-same : (ns : List ℕ) → ((i n : ℕ) → slice_get ns i ≡ Some n → (block : PtrBlock) × HasPtr g seen p n block) → (image : List Sector) (t : FileTree) (stands : StandsFor g image t)
      → Agrees seen image → flat_map pointed ns ≡ flat_map (λ n. addresses_in (part_at stands.parts.ptrs n)) ns
  pointed-same [] each image t stands agrees = refl
  pointed-same (n ∷ ns) each image t stands agrees =
      let got = (each 0 n refl).1 in
      let at = place_sector g (places.PtrBlock n) in
      let same = ptr_alike g (slice_get image) (look_of seen) stands.parts p n got.inside (agrees at got.read.0 got.read.1 ∙ sym got.read.1) stands.reads reads in
      ap (λ r. addresses_in r ++ flat_map pointed ns) (sym same)
      ∙ ap (λ l. addresses_in (part_at stands.parts.ptrs n) ++ l) (pointed-same ns (λ i m at. each (suc i) m at) image t stands agrees)

  module _ (first : ℕ) (full : 128 * first ≤ b.count) where
    large-are : 96 < b.count → (found : Blocks) → Pointed [] (pointers_from b first) found → HasOld g seen p b first (cut (b.count - 128 * first) found)
    large-are large found is = record {
      pointers = is.0;
      below = below-take (2 ^ 32) (b.count - 128 * first) found.list.items (subst (AllBelow (2 ^ 32)) (sym is.1)
          (below-flat (2 ^ 32) pointed (pointers_from b first) (omega arith) (λ i n at.
          let got = is.0 i n at in
          subst (λ r. AllBelow (2 ^ 32) (addresses_in r)) (sym got.1.there) (((reads.ptrs.each n got.1.inside got.0).0 got.1.there).0.below))));
      count = (
          let wide = wide-flat (pointers_from b first) is.0 in
          let all = ptrs-length b (body_is g (look_of seen) p key.object b reads has.sees.there) file in
          omega (arith, length-take (b.count - 128 * first) found.list.items, ap (length {A = ℕ}) is.1, wide, length-drop first (pointers_in b), all, some-pointers b.count large)
          );
      seen_at = λ j n at.
          large-seen p b first (b.count - 128 * first) j n large
          (λ i m here.
          let got = is.0 i m here in
          ap (λ r. length (addresses_in r)) got.1.there ∙ (((reads.ptrs.each m got.1.inside got.0).0 got.1.there).0.count))
          (subst (λ l. slice_get (take (b.count - 128 * first) l) j ≡ Some n) is.1 at);
      are = λ image t stands agrees.
          let q = stands.parts in
          let look = slice_get image in
          let there = there-in image t stands agrees in
          let blocks = blocks_in q b in
          let size-as : length blocks ≡ b.count = size-is g look q key.object b stands.reads stands.sound there file in
          let spelled = spelled-blocks g look q key.object b stands.reads stands.sound there file in
          let count = ptrs-length b (body_is g look q key.object b stands.reads there) file in
          ap (take (b.count - 128 * first)) (is.1 ∙ pointed-same (pointers_from b first) is.0 image t stands agrees)
          ∙ ap (λ n. take (n - 128 * first) (flat_map (λ n. addresses_in (part_at q.ptrs n)) (drop first (ptrs_in b)))) (sym size-as)
          ∙ pages-joined (λ n. addresses_in (part_at q.ptrs n)) (ptrs_in b) blocks first
          (omega (arith, size-as, count, some-pointers b.count large))
          (λ k n late at. spelled.paged (omega (arith, size-as, large)) k n at);
    }

    small-are : b.count ≤ 96 → HasOld g seen p b first (blocks_of (take b.count b.addresses))
    small-are small =
        let zero-first : first ≡ 0 = omega (arith, full, small) in
        let test : nat_le b.count 96 ≡ true = grind (arith, nat_tests, small) in
        record {
          pointers = λ i n at.
              let none : pointers_in b ≡ [] = ap (λ t. take (if t then 0 else (b.count + 127) / 128) b.addresses) test in
              let at' : slice_get (ptrs_in b) (first + i) ≡ Some n = dropped-at (pointers_in b) first i n at in
              let wrong : None ≡ Some n = ap (λ l. slice_get l (first + i)) (sym none) ∙ at' in
              absurd cc;
          below = below-take (2 ^ 32) b.count b.addresses (body_is g (look_of seen) p key.object b reads has.sees.there).widths.addresses_fit;
          count = omega (
            arith,
            zero-first,
            length-take b.count b.addresses,
            (body_is g (look_of seen) p key.object b reads has.sees.there).widths.address_count,
            small,
          );
          seen_at = λ j n at.
              let place : j ≡ 128 * first + j = omega (arith, zero-first) in
              ap (block_seen p b) (sym place) ∙ small-seen p b j n small at;
          are = λ image t stands agrees.
              ap (λ t. take b.count (if t then b.addresses else flat_map (λ n. addresses_in (part_at stands.parts.ptrs n)) (ptrs_in b))) (sym test)
              ∙ ap (λ k. drop (128 * k) (blocks_in stands.parts b)) (sym zero-first);
        }

    -- the blocks are known, or what is asked for is good
    pub blocks_goes : Goes Good (blocks_seen g seen p b first) (HasOld g seen p b first)
    blocks_goes =
        goes-if Good (HasOld g seen p b first) (nat_le b.count 96) (Ok (blocks_of (take b.count b.addresses))) _
        (λ test. small-are (grind (arith, nat_tests, test)))
        (λ test.
        goes-after Good (Pointed [] (pointers_from b first)) (HasOld g seen p b first) (addresses_seen g seen p b [] (pointers_from b first)) _
        (addresses_go (pointers_from b first) (λ i n at. (first + i, dropped-at (pointers_in b) first i n at)) [])
        (λ found is. large-are (grind (arith, nat_tests, test)) found is))
