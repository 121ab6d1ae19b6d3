-- A planner that wants blocks of a file asks for what it may: a pointer block of the file, where it has more than 96 blocks.
use Rattle.std.proofs.Common.{◌≡◌, ℕ, ◌+◌, ◌-◌, ◌*◌, ◌/◌, ◌%◌, ◌<◌, ◌≤◌, true, false, nat_le, nat_lt, if◌then◌else◌, List, [], ◌∷◌, length, take, drop, get_or, Option, None, Some, refl, sym, ap, subst, ◌∙◌, is_some, slice_get, length-take, length-drop, arith}
use Rattle.std.specs.List.{Contains}
use Rattle.std.specs.Prelude.{Ok, IsSome, slice_index}
use Rattle.std.proofs.Math.ListN.{drop_of_length-le}
use Rattle.std.proofs.Math.Seq.{take-nil}
use Rattle.std.proofs.lemmas.Bool.{false≢true}
use Rattle.std.proofs.lemmas.Bool.Decides.{nat_tests}
use Rattle.std.proofs.lemmas.List.{take_all, get_or-take, get_or-drop, ext_get_or}
use Rattle.std.proofs.lemmas.Option.{slice_get-get_or}
use Rattle.ds_base.specs.Geometry.{items_of}
use Rattle.ds_base.specs.declared.geometry.Geom.{Geom}
use Rattle.ds_base.specs.declared.geometry.Kind.TheVariants.{Pb, Fb}
use Rattle.ds_base.specs.declared.names.Key.{Key}
use Rattle.ds_base.specs.declared.names.NodeKind.TheVariants as kinds
use Rattle.ds_base.specs.declared.sectors.Sector.{Sector}
use Rattle.ds_fd.specs.declared.body.Body.{Body}
use Rattle.ds_image.specs.Asking.{Agrees}
use Rattle.ds_image_parts.specs.Objects.{addresses_in, pointed_by}
use Rattle.ds_image_parts.specs.Parts.{Parts, part_at}
use Rattle.ds_image_parts.specs.Readings.{ReadsParts}
use Rattle.ds_image.specs.SeenValues.{SeenValue, look_of}
use Rattle.ds_image.specs.Sound.{StandsFor}
use Rattle.ds_image.specs.declared.asks.Ask.{Ask}
use Rattle.ds_image.specs.declared.asks.Ask.TheVariants as asks
use Rattle.ds_image.proofs.Ownership.Listed.{block_listed_within}
use Rattle.ds_image.proofs.Spelling.Sizes.{body_is}
use Rattle.ds_layout.specs.Places.{place_sector}
use Rattle.ds_layout.specs.declared.places.Place.TheVariants as places
use Rattle.ds_plan_base.proofs.Alike.{ptr_alike}
use Rattle.ds_plan_base.proofs.Goes.{Goes}
use Rattle.ds_plan_base.proofs.Going.{goes-after, goes-if, goes-part}
use Rattle.ds_plan_base.proofs.PlanAsks.{PlanAsks}
use Rattle.ds_plan_base.specs.Bodies.{part_seen}
use Rattle.ds_plan_base.specs.Pointers.{pointer_seen}
use Rattle.ds_plan_laws_size.specs.Pages.{ptrs_in, blocks_in, IsPage}
use Rattle.ds_plan_laws_size.proofs.FileLists.{block_list-is}
use Rattle.ds_plan_laws_size.proofs.Paged.{ptrs-length, some-pointers}
use Rattle.ds_plan_laws_size.proofs.PointerSectors.{pointer-listed, pointer-in_range, pointer-guard}
use Rattle.ds_plan_laws_size.proofs.SpelledBlocks.{size-is, spelled-blocks}
use Rattle.ds_plan_reads.specs.Answers.{sectors_by, pointers_by}
use Rattle.ds_plan_reads.specs.Blocks.{pointer_of, page_known, block_in, block_known, blocks_reply}
use Rattle.ds_plan_reads.specs.declared.questions.Question.TheVariants.{Map, At}
use Rattle.ds_plan_reads.proofs.Doing.{does_map, does_no_block, does_at}
use Rattle.ds_plan_reads.proofs.KeyWalk.{HasObject, body_there, object_there}
use Rattle.ds_ptr.specs.declared.ptr_block.PtrBlock.{PtrBlock}
use Rattle.ds_tree.specs.Counts.{pointer_blocks}
use Rattle.ds_tree.specs.Nodes.{FileTree}
use Rattle.ds_tree.specs.declared.calls.CallOf.{CallOf}
use Rattle.ds_tree.specs.declared.calls.CallOf.TheVariants as calls
use Rattle.ds_tree.specs.declared.calls.TreeReply.{TreeReply}
use Rattle.ds_tree.specs.declared.calls.TreeReply.TheVariants as replies

-- a page of a list is cut off where the list ends
page-cut_off : (blocks page : List ℕ) (k : ℕ) → IsPage blocks k page → take (length blocks - 128 * k) page ≡ take 128 (drop (128 * k) blocks)
page-cut_off blocks page k is =
    let left : ℕ = length blocks - 128 * k in
    let len : length (take left page) ≡ length (take 128 (drop (128 * k) blocks)) =
    omega (arith, length-take left page, is.count, length-take 128 (drop (128 * k) blocks), length-drop (128 * k) blocks) in
    ext_get_or 0 (take left page) (take 128 (drop (128 * k) blocks)) len (λ i l.
    let low : i < left = omega (arith, l, length-take left page) in
    let small : i < 128 = omega (arith, l, length-take left page, is.count) in
    get_or-take left page i 0 low ∙ is.each i small ∙ sym (get_or-drop (128 * k) blocks i 0) ∙ sym (get_or-take 128 (drop (128 * k) blocks) i 0 small))

-- nothing is left past the last page
page-past : (blocks : List ℕ) (k : ℕ) → length blocks ≤ 128 * k → [] ≡ take 128 (drop (128 * k) blocks)
page-past blocks k past = sym (ap (take 128) (drop_of_length-le blocks past) ∙ take-nil 128)

-- a pointer block that was read
record HasPtr (g : Geom) (seen : SeenValue) (p : Parts) (n : ℕ) (block : PtrBlock) : Type 0 where
  inside : n < items_of g Pb
  read : (s : Sector) × (look_of seen (place_sector g (places.PtrBlock n)) ≡ Some s)
  there : part_at p.ptrs n ≡ Some block

module _ (g : Geom) (slot : ℕ) (key : Key) (MayHold : SeenValue → Parts → ℕ → Type 0) (seen : SeenValue) (p : Parts) (reads : ReadsParts g (look_of seen) p)
    (b : Body) (has : HasObject g seen p key b) (file : b.kind ≡ Some kinds.File) where
  module _ (image : List Sector) (t : FileTree) (stands : StandsFor g image t) (agrees : Agrees seen image) where
    there : part_at stands.parts.bodies key.object ≡ Some b
    there = body_there g seen p reads key b has image t stands agrees

    size : length (blocks_in stands.parts b) ≡ b.count
    size = size-is g (slice_get image) stands.parts key.object b stands.reads stands.sound there file

    -- a block of the file is one of the volume
    block-in_range : (i block : ℕ) → slice_get (blocks_in stands.parts b) i ≡ Some block → block < items_of g Fb
    block-in_range i block at =
        block_listed_within g (slice_get image) stands.parts key.object i block stands.reads stands.sound
        (ap (λ l. slice_get l i) (block_list-is stands.parts key.object b there file) ∙ at)

    -- up to 96 blocks stand in the body
    small-blocks : b.count ≤ 96 → take b.count b.addresses ≡ blocks_in stands.parts b
    small-blocks small =
        let test : nat_le b.count 96 ≡ true = grind (arith, nat_tests, small) in
        ap (λ c. take b.count (if c then b.addresses else pointed_by stands.parts b (Some kinds.File))) (sym test)

  body_read : IsSome (look_of seen (place_sector g (places.Body b.object)))
  body_read = ap (λ o. is_some (look_of seen (place_sector g (places.Body o)))) (((reads.bodies.each key.object has.inside b).0 has.there).0) ∙ has.read

  -- The pointer block of a page

  module _ (call : CallOf Key) (MayRead : SeenValue → Parts → ℕ → Type 0) (page : ℕ) (large : 96 < b.count) (within : 128 * page < b.count)
      (may_read : MayRead seen p (place_sector g (places.PtrBlock (pointer_of b page)))) where
    abbrev Good : Ask → Type 0
    Good = PlanAsks g slot call MayHold MayRead seen p

    abbrev n : ℕ
    n = pointer_of b page

    abbrev ptr_at : ℕ
    ptr_at = place_sector g (places.PtrBlock n)

    listed : slice_get (ptrs_in b) page ≡ Some n
    listed =
        let len = ptrs-length b (body_is g (look_of seen) p key.object b reads has.there) file in
        let most = some-pointers b.count large in
        slice_get-get_or (ptrs_in b) page 0 (omega (arith, within, len, most))
        ∙ ap Some (get_or-take (pointer_blocks b.count) b.addresses page 0 (omega (arith, within, most)))

    outside_good : nat_lt n (items_of g Pb) ≡ false → Good (asks.Odd (place_sector g (places.Body b.object)))
    outside_good outside = record {
      read = body_read;
      none = λ image t stands agrees.
          let below = pointer-in_range g (slice_get image) stands.parts key.object b stands.reads stands.sound (there image t stands agrees) file page n listed in
          let past : items_of g Pb ≤ n = grind (arith, nat_tests, outside) in
          absurd (omega (arith, below, past));
    }

    unread_good : n < items_of g Pb → look_of seen ptr_at ≡ None → Good (asks.Read ptr_at)
    unread_good inside unread = record {
      readable = record {
        metadata = record { place = places.PtrBlock n; is_place = inside; here = refl; kept = refl };
        unread = unread;
        guarded = λ image t stands agrees. record {
          object = key.object;
          guards = pointer-guard g (slice_get image) stands.parts key.object b stands.reads stands.sound (there image t stands agrees) file page n listed;
          held = has.held;
        };
      };
      one = may_read;
    }

    alike : (s : Sector) → n < items_of g Pb → look_of seen ptr_at ≡ Some s → (image : List Sector) (t : FileTree) (stands : StandsFor g image t)
        → Agrees seen image → part_at stands.parts.ptrs n ≡ part_at p.ptrs n
    alike s inside read image t stands agrees =
        ptr_alike g (slice_get image) (look_of seen) stands.parts p n inside (agrees ptr_at s read ∙ sym read) stands.reads reads

    odd_good : n < items_of g Pb → (s : Sector) → look_of seen ptr_at ≡ Some s → part_at p.ptrs n ≡ None → Good (asks.Odd ptr_at)
    odd_good inside s read none = record {
      read = ap is_some read;
      none = λ image t stands agrees.
          let some : IsSome (part_at stands.parts.ptrs n) = stands.sound.ptrs key.object page n
          (pointer-listed g (slice_get image) stands.parts key.object b stands.reads stands.sound (there image t stands agrees) file page n listed) in
          false≢true (sym (ap is_some (alike s inside read image t stands agrees ∙ none)) ∙ some);
    }

    pointer_goes : Goes Good (pointer_seen g seen p b n) (HasPtr g seen p n)
    pointer_goes =
        goes-if Good (HasPtr g seen p n) (nat_lt n (items_of g Pb)) (part_seen ptr_at (look_of seen ptr_at) (part_at p.ptrs n)) _
        (λ test.
        let inside : n < items_of g Pb = grind (arith, nat_tests, test) in
        goes-part Good (HasPtr g seen p n) ptr_at (look_of seen ptr_at) (part_at p.ptrs n) (unread_good inside) (odd_good inside)
        (λ s block read is. record { inside = inside; read = (s, read); there = is }))
        outside_good

    -- it has the page of the file's blocks
    page-there : (block : PtrBlock) → HasPtr g seen p n block → (image : List Sector) (t : FileTree) (stands : StandsFor g image t) → Agrees seen image
        → IsPage (blocks_in stands.parts b) page block.addresses
    page-there block ptr image t stands agrees =
        let spelled = spelled-blocks g (slice_get image) stands.parts key.object b stands.reads stands.sound (there image t stands agrees) file in
        let many : 96 < length (blocks_in stands.parts b) = omega (arith, large, size image t stands agrees) in
        subst (λ (r : Option PtrBlock). IsPage (blocks_in stands.parts b) page (addresses_in r))
        (alike ptr.read.0 ptr.inside ptr.read.1 image t stands agrees ∙ ptr.there) (spelled.paged many page n listed)

  -- the sector of a pointer block is among those that a call reads
  pointer_in : (page : ℕ) → Contains (place_sector g (places.Body key.object) ∷ pointers_by g (part_at p.bodies key.object) (Some page)) (place_sector g (places.PtrBlock (pointer_of b page)))
  pointer_in page =
      subst (λ (r : Option Body). Contains (place_sector g (places.Body key.object) ∷ pointers_by g r (Some page)) (place_sector g (places.PtrBlock (pointer_of b page))))
      (sym has.there) (1, omega arith, refl)

  -- A page

  module _ (page : ℕ) where
    abbrev MapGood : Ask → Type 0
    MapGood = PlanAsks g slot (calls.Map key page) MayHold (λ seen p at. Contains (sectors_by g key (Map page) p) at) seen p

    map_good : (list : List ℕ)
        → ((image : List Sector) (t : FileTree) (stands : StandsFor g image t) → Agrees seen image → list ≡ take 128 (drop (128 * page) (blocks_in stands.parts b)))
        → MapGood (asks.Done (blocks_reply list))
    map_good list are = record {
      block = tt;
      does = λ image t stands agrees.
          does_map g t key (blocks_in stands.parts b) (object_there g seen p reads key b has (Some kinds.File) file image t stands agrees) page list (are image t stands agrees);
    }

    pub page_goes : Goes MapGood (page_known g seen p b page) (λ reply. MapGood (asks.Done reply))
    page_goes =
        let Replied : TreeReply → Type 0 = λ reply. MapGood (asks.Done reply) in
        goes-if MapGood Replied (nat_le b.count (128 * page)) (Ok (blocks_reply [])) _
        (λ test.
        let past : b.count ≤ 128 * page = grind (arith, nat_tests, test) in
        map_good [] (λ image t stands agrees. page-past (blocks_in stands.parts b) page (omega (arith, past, size image t stands agrees))))
        (λ test.
        let within : 128 * page < b.count = grind (arith, nat_tests, test) in
        goes-if MapGood Replied (nat_le b.count 96) (Ok (blocks_reply (take b.count b.addresses))) _
        (λ test.
        let small : b.count ≤ 96 = grind (arith, nat_tests, test) in
        let first : 128 * page ≡ 0 = omega (arith, small, within) in
        map_good (take b.count b.addresses) (λ image t stands agrees.
        let blocks = blocks_in stands.parts b in
        small-blocks image t stands agrees small ∙ sym (take_all 128 blocks (omega (arith, small, size image t stands agrees))) ∙ ap (λ n. take 128 (drop n blocks)) (sym first)))
        (λ test.
        let large : 96 < b.count = grind (arith, nat_tests, test) in
        let MayRead : SeenValue → Parts → ℕ → Type 0 = λ seen p at. Contains (sectors_by g key (Map page) p) at in
        goes-after MapGood (HasPtr g seen p (pointer_of b page)) Replied (pointer_seen g seen p b (pointer_of b page)) _
        (pointer_goes (calls.Map key page) MayRead page large within (pointer_in page))
        (λ block ptr. map_good (take (b.count - 128 * page) block.addresses) (λ image t stands agrees.
        ap (λ n. take (n - 128 * page) block.addresses) (sym (size image t stands agrees))
        ∙ page-cut_off (blocks_in stands.parts b) block.addresses page
        (page-there (calls.Map key page) MayRead page large within (pointer_in page) block ptr image t stands agrees)))))

  -- A block

  module _ (index : ℕ) where
    abbrev AtGood : Ask → Type 0
    AtGood = PlanAsks g slot (calls.At key index) MayHold (λ seen p at. Contains (sectors_by g key (At index) p) at) seen p

    block_goes_in : (at block : ℕ) → IsSome (look_of seen at)
        → ((image : List Sector) (t : FileTree) (stands : StandsFor g image t) → Agrees seen image → slice_get (blocks_in stands.parts b) index ≡ Some block)
        → Goes AtGood (block_in g at block) (λ reply. AtGood (asks.Done reply))
    block_goes_in at block read is =
        goes-if AtGood (λ reply. AtGood (asks.Done reply)) (nat_lt block (items_of g Fb)) (Ok (replies.AtBlock block)) _
        (λ test. record {
          block = grind (arith, nat_tests, test);
          does = λ image t stands agrees.
              does_at g t key (blocks_in stands.parts b) (object_there g seen p reads key b has (Some kinds.File) file image t stands agrees) index block (is image t stands agrees);
        })
        (λ test. record {
          read = read;
          none = λ image t stands agrees.
              let past : items_of g Fb ≤ block = grind (arith, nat_tests, test) in
              absurd (omega (arith, past, block-in_range image t stands agrees index block (is image t stands agrees)));
        })

    pub block_goes : Goes AtGood (block_known g seen p b index) (λ reply. AtGood (asks.Done reply))
    block_goes =
        let Replied : TreeReply → Type 0 = λ reply. AtGood (asks.Done reply) in
        let page : ℕ = index / 128 in
        goes-if AtGood Replied (nat_le b.count index) (Ok replies.NoBlock) _
        (λ test. record {
          block = tt;
          does = λ image t stands agrees.
              let past : b.count ≤ index = grind (arith, nat_tests, test) in
              does_no_block g t key (blocks_in stands.parts b) (object_there g seen p reads key b has (Some kinds.File) file image t stands agrees) index
              (omega (arith, past, size image t stands agrees));
        })
        (λ test.
        let inside : index < b.count = grind (arith, nat_tests, test) in
        let at : (blocks : List ℕ) → length blocks ≡ b.count → slice_get blocks index ≡ Some (get_or blocks index 0) =
        λ blocks len. slice_get-get_or blocks index 0 (omega (arith, inside, len)) in
        goes-if AtGood Replied (nat_le b.count 96) (block_in g (place_sector g (places.Body b.object)) (slice_index b.addresses index)) _
        (λ test.
        let small : b.count ≤ 96 = grind (arith, nat_tests, test) in
        block_goes_in (place_sector g (places.Body b.object)) (slice_index b.addresses index) body_read (λ image t stands agrees.
        at (blocks_in stands.parts b) (size image t stands agrees)
        ∙ ap (λ l. Some (get_or l index 0)) (sym (small-blocks image t stands agrees small)) ∙ ap Some (get_or-take b.count b.addresses index 0 inside)))
        (λ test.
        let large : 96 < b.count = grind (arith, nat_tests, test) in
        let within : 128 * page < b.count = omega (arith, inside) in
        let place : 128 * page + index % 128 ≡ index = omega arith in
        let MayRead : SeenValue → Parts → ℕ → Type 0 = λ seen p at. Contains (sectors_by g key (At index) p) at in
        goes-after AtGood (HasPtr g seen p (pointer_of b page)) Replied (pointer_seen g seen p b (pointer_of b page)) _
        (pointer_goes (calls.At key index) MayRead page large within (pointer_in page))
        (λ block ptr.
        block_goes_in (place_sector g (places.PtrBlock (pointer_of b page))) (slice_index block.addresses (index % 128)) (ap is_some ptr.read.1) (λ image t stands agrees.
        let pages = page-there (calls.At key index) MayRead page large within (pointer_in page) block ptr image t stands agrees in
        at (blocks_in stands.parts b) (size image t stands agrees)
        ∙ ap (λ k. Some (get_or (blocks_in stands.parts b) k 0)) (sym place) ∙ ap Some (sym (pages.each (index % 128) (omega arith)))))))
