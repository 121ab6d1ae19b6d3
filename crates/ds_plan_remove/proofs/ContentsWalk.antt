-- A planner that reads what an object lists that goes asks for what it may.
use Rattle.std.proofs.Common.{◌≡◌, ℕ, zero, suc, ◌+◌, ◌*◌, ◌/◌, ◌<◌, Bool, true, false, nat_eq, nat_le, nat_lt, if◌then◌else◌, List, [], ◌∷◌, ◌++◌, length, take, map, Option, None, Some, inl, refl, sym, ap, subst, ◌∙◌, arith, slice_get, is_some, append_assoc, append-nil, length-append}
use Rattle.std.specs.Prelude.{IsSome}
use Rattle.std.specs.List.{list_any, filter_map, flat_map}
use Rattle.std.specs.FinMap as maps
use Rattle.std.proofs.lemmas.Bool.{false≢true}
use Rattle.std.proofs.lemmas.Bool.Decides.{nat_tests}
use Rattle.std.proofs.lemmas.Cmp.{nat_eq_equiv}
use Rattle.arrayvec.specs.ArrayVec.{ArrayVec}
use Rattle.ds_base.specs.Geometry.{items_of}
use Rattle.ds_base.specs.declared.geometry.Geom.{Geom}
use Rattle.ds_base.specs.declared.geometry.Kind.TheVariants.{Fd, Pb}
use Rattle.ds_base.specs.declared.names.Key.{Key}
use Rattle.ds_base.specs.declared.names.NodeKind.{NodeKind}
use Rattle.ds_base.specs.declared.names.NodeKind.TheVariants as kinds
use Rattle.ds_base.specs.declared.sectors.Sector.{Sector}
use Rattle.ds_image.proofs.SectorGuards.{guard-ptr_listed}
use Rattle.ds_plan_laws_new.proofs.Names.{by_name-length}
use Rattle.ds_plan_laws_new.proofs.Rooms.{used-append}
use Rattle.ds_dir.specs.declared.sub_block.Entry.{Entry}
use Rattle.ds_dir.specs.declared.sub_block.SubBlock.{SubBlock}
use Rattle.ds_fd.specs.declared.body.Body.{Body}
use Rattle.ds_image.specs.Asking.{Agrees}
use Rattle.ds_image_parts.specs.Objects.{subs_by, subs_of, ptrs_by, ptrs_of, addresses_in, blocks_by, blocks_of, used_rooms, entries_of}
use Rattle.ds_image_tables.specs.Owns.{IsAt}
use Rattle.ds_image_parts.specs.Parts.{Parts, part_at}
use Rattle.ds_image_parts.specs.Readings.{ReadsParts}
use Rattle.ds_image.specs.SeenValues.{SeenValue, has_lock, look_of}
use Rattle.ds_image.specs.Sound.{StandsFor, ptr_lists}
use Rattle.ds_image.specs.SoundObjects.{AreNamesApart}
use Rattle.ds_image.specs.declared.asks.Ask.{Ask}
use Rattle.ds_image.specs.declared.asks.Ask.TheVariants as asks
use Rattle.ds_image.proofs.Ownership.Listed.{ptr_listed_within}
use Rattle.ds_image_tables.proofs.Spelling.Places.{at-append_right}
use Rattle.ds_image.proofs.Spelling.SoundParts.{list-is, objects-of}
use Rattle.ds_layout.specs.Places.{place_sector}
use Rattle.ds_layout.specs.declared.places.Place.TheVariants as places
use Rattle.ds_plan_base.specs.Bodies.{sub_seen}
use Rattle.ds_plan_base.proofs.DirAsks.{DirAsks, dir_sectors}
use Rattle.ds_plan_base.proofs.DirSeen.{HasDir, HasSub}
use Rattle.ds_plan_base.proofs.Goes.{Goes}
use Rattle.ds_image.specs.Locks.{MayLock}
use Rattle.ds_plan_base.proofs.PlanAsks.{PlanAsks}
use Rattle.ds_plan_base.proofs.Dirs.{body_in, dir_in}
use Rattle.ds_plan_base.proofs.Finding.{sub_goes, used_more, used_seen}
use Rattle.ds_plan_base.proofs.Going.{goes-after, goes-if, goes-part, goes-weaker}
use Rattle.ds_plan_base.proofs.Limits.{or-left, in-front, behind, in-mapped}
use Rattle.ds_plan_base.proofs.Wholes.{goes-other}
use Rattle.ds_ptr.specs.declared.ptr_block.PtrBlock.{PtrBlock}
use Rattle.ds_plan_remove.specs.Answers.{has_entry, empty_from}
use Rattle.ds_plan_base.specs.Pointers.{pointer_seen}
use Rattle.ds_plan_base.proofs.Alike.{some-there, ptr_alike}
use Rattle.ds_plan_remove.specs.Blocks.{pointed_from, pointed_in, blocks_known}
use Rattle.ds_plan_remove.proofs.EntryWalk.{HasObject}
use Rattle.ds_plan_remove.proofs.Staying.{object_sectors, listed_sectors}
use Rattle.ds_tree.specs.Nodes.{Entries, Dir, FileTree, Object, node_at}
use Rattle.ds_tree.specs.Steps.{Does}
use Rattle.ds_tree.specs.declared.calls.CallOf.{CallOf}
use Rattle.ds_tree.specs.declared.calls.TreeReply.TheVariants as replies

-- the call has read a pointer block
pub record HasPtr (g : Geom) (seen : SeenValue) (p : Parts) (n : ℕ) (block : PtrBlock) : Type 0 where
  pub inside : n < items_of g Pb
  pub read : IsSome (look_of seen (place_sector g (places.PtrBlock n)))
  pub there : part_at p.ptrs n ≡ Some block

-- all that an object lists was read, and it has no entry
pub record HasContents (g : Geom) (seen : SeenValue) (p : Parts) (b : Body) : Type 0 where
  pub bare : used_rooms p (subs_of (Some b)) ≡ []
  pub subs : (i n : ℕ) → slice_get (subs_of (Some b)) i ≡ Some n → (block : SubBlock) × HasSub g seen p n block
  pub ptrs : (i n : ℕ) → slice_get (ptrs_of (Some b)) i ≡ Some n → (block : PtrBlock) × HasPtr g seen p n block

-- a pointer block that was read is that of each image that agrees
pub ptr-in : (g : Geom) (seen : SeenValue) (p : Parts) → ReadsParts g (look_of seen) p → (n : ℕ) → n < items_of g Pb → IsSome (look_of seen (place_sector g (places.PtrBlock n)))
    → (image : List Sector) (t : FileTree) (stands : StandsFor g image t) → Agrees seen image → part_at stands.parts.ptrs n ≡ part_at p.ptrs n
ptr-in g seen p reads n inside read image t stands agrees =
    let at = place_sector g (places.PtrBlock n) in
    let known = some-there (look_of seen at) read in
    ptr_alike g (slice_get image) (look_of seen) stands.parts p n inside (agrees at known.0 known.1 ∙ sym known.1) stands.reads reads

-- Rooms without an entry

pub no-entries : (rooms : List (Option Entry)) → has_entry rooms ≡ false → filter_map (λ room. room) rooms ≡ []
no-entries [] none = refl
no-entries (None ∷ rooms) none = no-entries rooms none
no-entries (Some e ∷ rooms) none = absurd (false≢true (sym none))

-- and with one
pub some-entries : (rooms : List (Option Entry)) → has_entry rooms ≡ true → 0 < length (filter_map (λ room. room) rooms)
some-entries [] some = absurd (false≢true some)
some-entries (None ∷ rooms) some = some-entries rooms some
some-entries (Some e ∷ rooms) some = omega arith

module _ (g : Geom) (slot : ℕ) (call : CallOf Key) (MayHold MayRead : SeenValue → Parts → ℕ → Type 0) (seen : SeenValue) (p : Parts) (reads : ReadsParts g (look_of seen) p)
    (kind : NodeKind) (key : Key) (b : Body) (obj : HasObject g seen p kind key b)
    (may_lock : MayLock g slot call p key.object) (may_hold : MayHold seen p key.object)
    (may_read : (at : ℕ) → list_any (nat_eq at) (object_sectors g p key.object) ≡ true → MayRead seen p at) where
  abbrev Good : Ask → Type 0
  Good = PlanAsks g slot call MayHold MayRead seen p

  abbrev o : ℕ
  o = key.object

  -- the sectors of the object may be read
  listed-any : (at : ℕ) → list_any (nat_eq at) (listed_sectors g (Some b)) ≡ true → list_any (nat_eq at) (object_sectors g p o) ≡ true
  listed-any at any =
      behind at (place_sector g (places.Body o) ∷ []) (listed_sectors g (part_at p.bodies o)) (ap (λ r. list_any (nat_eq at) (listed_sectors g r)) obj.there ∙ any)

  dir-any : (at : ℕ) → list_any (nat_eq at) (dir_sectors g p o) ≡ true → list_any (nat_eq at) (object_sectors g p o) ≡ true
  dir-any at any =
      in-front at (dir_sectors g p o) (map (λ n. place_sector g (places.PtrBlock n)) (ptrs_of (part_at p.bodies o))) any

  of-held : (ask : Ask) → DirAsks g call o seen p ask → Good ask
  of-held (asks.Lock object) is = record {
    is_lock = inl (subst (λ x. x < items_of g Fd) (sym is.0) is.1);
    free = subst (λ x. has_lock seen x ≡ false) (sym is.0) is.2;
    allowed = subst (MayLock g slot call p) (sym is.0) may_lock;
    one = subst (MayHold seen p) (sym is.0) may_hold;
  }
  of-held (asks.Read at) is = record { readable = is.readable; one = may_read at (dir-any at is.one) }
  of-held (asks.Odd at) is = is
  of-held (asks.Worn object) is = absurd is
  of-held (asks.Done reply) is = is
  of-held (asks.Change redo reply) is = absurd is

  -- A directory

  module _ (dir : b.kind ≡ Some kinds.Dir)
      (refused : (image : List Sector) (t : FileTree) → StandsFor g image t → Agrees seen image → (below : Entries) (more : ℕ) → node_at t o ≡ Some (Dir below more)
      → nat_lt 0 (maps.len below) ≡ true → Does g t call replies.NotEmpty t) where
    abbrev subs : List ℕ
    subs = subs_of (Some b)

    has_dir : HasDir g seen p key b
    has_dir = record { inside = obj.inside; held = obj.held; read = obj.read; sees = record { there = obj.there; life = obj.life; is_kind = dir } }

    not_empty_good : (front rest : List ℕ) (n : ℕ) (block : SubBlock) → subs ≡ front ++ n ∷ rest → HasSub g seen p n block → has_entry block.rooms ≡ true → Good (asks.Done replies.NotEmpty)
    not_empty_good front rest n block split is some = record {
      block = tt;
      does = λ image t stands agrees.
          let q = stands.parts in
          let in_tree = dir_in g seen p key b image t stands reads agrees has_dir in
          let entries = entries_of q (subs_by b (Some kinds.Dir)) in
          let node : node_at t o ≡ Some (Dir entries (4 * b.count)) = ap (λ (x : Object). x.node) in_tree.1 in
          let are : subs ≡ subs_by b (Some kinds.Dir) = ap (subs_by b) dir in
          let names : AreNamesApart (used_rooms q (subs_by b (Some kinds.Dir))) =
          subst (λ l. AreNamesApart (used_rooms q l)) are (subst (λ r. AreNamesApart (used_rooms q (subs_of r))) in_tree.0 (objects-of q stands.sound o).names) in
          let count : maps.len entries ≡ length (used_rooms q (subs_by b (Some kinds.Dir))) = by_name-length (used_rooms q (subs_by b (Some kinds.Dir))) names in
          let whole : used_rooms q (subs_by b (Some kinds.Dir)) ≡ used_rooms q front ++ (filter_map (λ room. room) block.rooms ++ used_rooms q rest) =
          ap (used_rooms q) (sym are ∙ split) ∙ used-append q front (n ∷ rest)
          ∙ ap (λ l. used_rooms q front ++ l) (used_more g call key seen p reads b has_dir image t stands agrees n block rest is) in
          let many : 0 < maps.len entries =
          omega (
            arith,
            count,
            ap (length {A = Entry}) whole,
            length-append (used_rooms q front) (filter_map (λ room. room) block.rooms ++ used_rooms q rest),
            length-append (filter_map (λ room. room) block.rooms) (used_rooms q rest),
            some-entries block.rooms some,
          ) in
          refused image t stands agrees entries (4 * b.count) node (grind (arith, nat_tests, many));
    }

    abbrev Empty : List ℕ → Body → Type 0
    Empty rest c = (used_rooms p rest ≡ []) × ((i n : ℕ) → slice_get rest i ≡ Some n → (block : SubBlock) × HasSub g seen p n block)

    empties_go : (front rest : List ℕ) → subs ≡ front ++ rest → Goes Good (empty_from g seen p b rest) (Empty rest)
    empties_go front [] split = (refl, λ i n at. absurd (let wrong : ◌≡◌ {A = Option ℕ} None (Some n) = at in cc))
    empties_go front (n ∷ rest) split =
        let at : slice_get subs (length front + 0) ≡ Some n = ap (λ l. slice_get l (length front + 0)) split ∙ at-append_right front (n ∷ rest) 0 n refl in
        let next : subs ≡ (front ++ n ∷ []) ++ rest = split ∙ sym (append_assoc front (n ∷ []) rest) in
        goes-after Good (HasSub g seen p n) (Empty (n ∷ rest)) (sub_seen g seen p b n) _
        (goes-other (DirAsks g call o seen p) Good (HasSub g seen p n) (sub_seen g seen p b n) of-held (sub_goes g call key seen p reads b has_dir (length front + 0) n at))
        (λ block is.
        goes-if Good (Empty (n ∷ rest)) (has_entry block.rooms) _ (empty_from g seen p b rest)
        (λ some. not_empty_good front rest n block split is some)
        (λ none.
        goes-weaker Good (Empty rest) (Empty (n ∷ rest)) (empty_from g seen p b rest) (empties_go (front ++ n ∷ []) rest next)
        (λ c later. (
          used_seen p n block rest is.there ∙ ap (λ l. l ++ used_rooms p rest) (no-entries block.rooms none) ∙ later.0,
          λ i m at. each block is later.1 i m at,
        ))))
      where
        each : (block : SubBlock) → HasSub g seen p n block → ((i m : ℕ) → slice_get rest i ≡ Some m → (block : SubBlock) × HasSub g seen p m block)
            → (i m : ℕ) → slice_get (n ∷ rest) i ≡ Some m → (block : SubBlock) × HasSub g seen p m block
        each block is later zero m at = let same : n ≡ m = cc in (block, subst (λ k. HasSub g seen p k block) same is)
        each block is later (suc i) m at = later i m at

    -- the directory is known to be empty, or what is asked for is good
    pub empty_goes : Goes Good (empty_from g seen p b (subs_of (Some b))) (λ c. HasContents g seen p b)
    empty_goes =
        goes-weaker Good (Empty (subs_of (Some b))) (λ c. HasContents g seen p b) (empty_from g seen p b (subs_of (Some b))) (empties_go [] (subs_of (Some b)) refl)
        (λ c is. record {
          bare = is.0;
          subs = is.1;
          ptrs = λ i n at.
              let none : ptrs_of (Some b) ≡ [] = ap (ptrs_by b) dir in
              let wrong : ◌≡◌ {A = Option ℕ} None (Some n) = sym (ap (λ l. slice_get l i) none) ∙ at in
              absurd cc;
        })

  -- A file

  module _ (file : b.kind ≡ Some kinds.File) where
    abbrev ptrs : List ℕ
    ptrs = ptrs_of (Some b)

    body-same : (image : List Sector) (t : FileTree) (stands : StandsFor g image t) → Agrees seen image → part_at stands.parts.bodies o ≡ Some b
    body-same image t stands agrees = body_in g seen p o image t stands obj.inside reads agrees obj.read ∙ obj.there

    listed_in : (image : List Sector) (t : FileTree) (stands : StandsFor g image t) → Agrees seen image → (i n : ℕ) → slice_get ptrs i ≡ Some n → IsAt (ptr_lists stands.parts) o i n
    listed_in image t stands agrees i n at =
        ap (λ l. slice_get l i) (list-is ptrs_of stands.parts.bodies refl o ∙ ap ptrs_of (body-same image t stands agrees)) ∙ at

    object-is : b.object ≡ o
    object-is = ((reads.bodies.each o obj.inside b).0 obj.there).0

    past_good : (i n : ℕ) → slice_get ptrs i ≡ Some n → nat_lt n (items_of g Pb) ≡ false → Good (asks.Odd (place_sector g (places.Body b.object)))
    past_good i n at past = record {
      read = subst (λ x. IsSome (look_of seen (place_sector g (places.Body x)))) (sym object-is) obj.read;
      none = λ image t stands agrees.
          let within = ptr_listed_within g (slice_get image) stands.parts o i n stands.reads stands.sound (listed_in image t stands agrees i n at) in
          absurd (grind (arith, nat_tests, past, within));
    }

    unread_good : (i n : ℕ) → slice_get ptrs i ≡ Some n → n < items_of g Pb → look_of seen (place_sector g (places.PtrBlock n)) ≡ None → Good (asks.Read (place_sector g (places.PtrBlock n)))
    unread_good i n at inside unread =
        let sector : ℕ → ℕ = λ n. place_sector g (places.PtrBlock n) in
        record {
          readable = record {
            metadata = record { place = places.PtrBlock n; is_place = inside; here = refl; kept = refl };
            unread = unread;
            guarded = λ image t stands agrees. record {
              object = o;
              guards = guard-ptr_listed g (slice_get image) stands.parts stands.reads o i n inside stands.sound.ptr_owners (listed_in image t stands agrees i n at);
              held = obj.held;
            };
          };
          one = may_read (sector n) (listed-any (sector n)
              (behind (sector n) (map (λ n. place_sector g (places.SubBlock n)) (subs_of (Some b))) (map sector ptrs) (in-mapped sector n ptrs (among ptrs i at))));
        }
      where
        among : (xs : List ℕ) (i : ℕ) → slice_get xs i ≡ Some n → list_any (nat_eq n) xs ≡ true
        among [] i at = absurd (let wrong : ◌≡◌ {A = Option ℕ} None (Some n) = at in cc)
        among (x ∷ xs) zero at = let same : x ≡ n = cc in or-left (nat_eq n x) (list_any (nat_eq n) xs) (ap (nat_eq n) same ∙ nat_eq_equiv.refl n)
        among (x ∷ xs) (suc i) at = behind n (x ∷ []) xs (among xs i at)

    odd_good : (i n : ℕ) (s : Sector) → slice_get ptrs i ≡ Some n → n < items_of g Pb → look_of seen (place_sector g (places.PtrBlock n)) ≡ Some s → part_at p.ptrs n ≡ None
        → Good (asks.Odd (place_sector g (places.PtrBlock n)))
    odd_good i n s at inside there none = record {
      read = ap is_some there;
      none = λ image t stands agrees.
          let some : IsSome (part_at stands.parts.ptrs n) = stands.sound.ptrs o i n (listed_in image t stands agrees i n at) in
          false≢true (sym (ap is_some (ptr-in g seen p reads n inside (ap is_some there) image t stands agrees ∙ none)) ∙ some);
    }

    ptr_goes : (i n : ℕ) → slice_get ptrs i ≡ Some n → Goes Good (pointer_seen g seen p b n) (HasPtr g seen p n)
    ptr_goes i n at =
        goes-if Good (HasPtr g seen p n) (nat_lt n (items_of g Pb)) _ _
        (λ below.
        let inside : n < items_of g Pb = grind (arith, nat_tests, below) in
        goes-part Good (HasPtr g seen p n) (place_sector g (places.PtrBlock n)) (look_of seen (place_sector g (places.PtrBlock n))) (part_at p.ptrs n)
        (unread_good i n at inside) (λ s there none. odd_good i n s at inside there none)
        (λ s block there is. record { inside = inside; read = ap is_some there; there = is }))
        (past_good i n at)

    abbrev addresses : ℕ → List ℕ
    addresses n = addresses_in (part_at p.ptrs n)

    abbrev Pointed : List ℕ → List ℕ → List ℕ → Type 0
    Pointed found rest r = (r ≡ found ++ flat_map addresses rest) × ((i n : ℕ) → slice_get rest i ≡ Some n → (block : PtrBlock) × HasPtr g seen p n block)

    pointed_go : (front rest found : List ℕ) → ptrs ≡ front ++ rest → Goes Good (pointed_from g seen p b found rest) (Pointed found rest)
    pointed_go front [] found split = (sym (append-nil found), λ i n at. absurd (let wrong : ◌≡◌ {A = Option ℕ} None (Some n) = at in cc))
    pointed_go front (n ∷ rest) found split =
        let at : slice_get ptrs (length front + 0) ≡ Some n = ap (λ l. slice_get l (length front + 0)) split ∙ at-append_right front (n ∷ rest) 0 n refl in
        let next : ptrs ≡ (front ++ n ∷ []) ++ rest = split ∙ sym (append_assoc front (n ∷ []) rest) in
        goes-after Good (HasPtr g seen p n) (Pointed found (n ∷ rest)) (pointer_seen g seen p b n) _ (ptr_goes (length front + 0) n at)
        (λ block is.
        goes-weaker Good (Pointed (found ++ block.addresses) rest) (Pointed found (n ∷ rest)) (pointed_from g seen p b (found ++ block.addresses) rest)
        (pointed_go (front ++ n ∷ []) rest (found ++ block.addresses) next)
        (λ r later. (
          later.0 ∙ append_assoc found block.addresses (flat_map addresses rest)
              ∙ ap (λ (x : Option PtrBlock). found ++ (addresses_in x ++ flat_map addresses rest)) (sym is.there),
          λ i m at. each block is later.1 i m at,
        )))
      where
        each : (block : PtrBlock) → HasPtr g seen p n block → ((i m : ℕ) → slice_get rest i ≡ Some m → (block : PtrBlock) × HasPtr g seen p m block)
            → (i m : ℕ) → slice_get (n ∷ rest) i ≡ Some m → (block : PtrBlock) × HasPtr g seen p m block
        each block is later zero m at = let same : n ≡ m = cc in (block, subst (λ k. HasPtr g seen p k block) same is)
        each block is later (suc i) m at = later i m at

    no-subs : (i n : ℕ) → slice_get (subs_of (Some b)) i ≡ Some n → (block : SubBlock) × HasSub g seen p n block
    no-subs i n at =
        let none : subs_of (Some b) ≡ [] = ap (subs_by b) file in
        let wrong : ◌≡◌ {A = Option ℕ} None (Some n) = sym (ap (λ l. slice_get l i) none) ∙ at in
        absurd cc

    bare : used_rooms p (subs_of (Some b)) ≡ []
    bare = ap (λ k. used_rooms p (subs_by b k)) file

    abbrev Known : ArrayVec ℕ → Type 0
    Known blocks = (blocks.items ≡ blocks_of p (Some b)) × HasContents g seen p b

    blocks-are : (few : Bool) → nat_le b.count 96 ≡ few → take b.count (if few then b.addresses else flat_map addresses (ptrs_by b (Some kinds.File))) ≡ blocks_of p (Some b)
    blocks-are few test =
        ap (λ t. take b.count (if t then b.addresses else flat_map addresses (ptrs_by b (Some kinds.File)))) (sym test) ∙ ap (blocks_by p b) (sym file)

    -- the blocks are known, or what is asked for is good
    pub blocks_goes : Goes Good (blocks_known g seen p b) Known
    blocks_goes =
        goes-if Good Known (nat_le b.count 96) _ _
        (λ few. (
          blocks-are true few,
          record {
            bare = bare;
            subs = no-subs;
            ptrs = λ i n at.
                let none : ptrs_of (Some b) ≡ [] = ap (ptrs_by b) file ∙ ap (λ t. take (if t then 0 else (b.count + 127) / 128) b.addresses) few in
                let wrong : ◌≡◌ {A = Option ℕ} None (Some n) = sym (ap (λ l. slice_get l i) none) ∙ at in
                absurd cc;
          },
        ))
        (λ many.
        goes-after Good (λ (found : ArrayVec ℕ). Pointed [] ptrs found.items) Known (pointed_in g seen p b) _
        (goes-after Good (Pointed [] ptrs) (λ (found : ArrayVec ℕ). Pointed [] ptrs found.items) (pointed_from g seen p b [] ptrs) _ (pointed_go [] ptrs [] refl) (λ r is. is))
        (λ found is. (
          ap (take b.count) (is.0 ∙ ap (λ k. flat_map addresses (ptrs_by b k)) file) ∙ blocks-are false many,
          record { bare = bare; subs = no-subs; ptrs = is.1 },
        )))
