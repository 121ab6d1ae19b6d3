-- A planner that gives up all items of an object asks for what it may.
use Rattle.std.proofs.Common.{◌≡◌, ◌≢◌, ℕ, ◌+◌, ◌*◌, ◌/◌, ◌<◌, ◌⊎◌, true, false, nat_eq, nat_lt, List, [], ◌∷◌, ◌++◌, length, map, Some, inl, inr, refl, sym, ap, subst, ◌∙◌, arith, slice_get}
use Rattle.std.specs.Prelude.{Ok, IsSome}
use Rattle.std.specs.List.{list_any}
use Rattle.std.specs.FinMap as maps
use Rattle.std.proofs.lemmas.Cmp.{nat_eq_equiv}
use Rattle.arrayvec.specs.ArrayVec.{ArrayVec}
use Rattle.ds_base.specs.Geometry.{IsGeom, clusters_of, per_cluster}
use Rattle.ds_base.specs.declared.geometry.Geom.{Geom}
use Rattle.ds_base.specs.declared.geometry.GeomField.TheVariants.{Clusters}
use Rattle.ds_base.specs.declared.geometry.Kind.{Kind}
use Rattle.ds_base.specs.declared.geometry.Kind.TheVariants.{Fd, Sb, Pb, Fb}
use Rattle.ds_base.specs.declared.names.Key.{Key}
use Rattle.ds_base.specs.declared.names.NodeKind.{NodeKind}
use Rattle.ds_base.specs.declared.names.NodeKind.TheVariants as kinds
use Rattle.ds_base.specs.declared.sectors.Sector.{Sector}
use Rattle.ds_plan_laws_new.proofs.Rooms.{used-same}
use Rattle.ds_fd.specs.declared.body.Body.{Body}
use Rattle.ds_plan_laws_gone.specs.Leaving.{go_call}
use Rattle.ds_plan_laws_gone.specs.Leaving as leaving
use Rattle.ds_image.specs.Asking.{Agrees}
use Rattle.ds_image_parts.specs.Objects.{subs_by, ptrs_by, blocks_by, subs_of, ptrs_of, blocks_of, addresses_in, used_rooms, entries_of}
use Rattle.ds_image_parts.specs.Parts.{Parts, part_at}
use Rattle.ds_image_parts.specs.Readings.{ReadsParts}
use Rattle.ds_image.specs.SeenValues.{SeenValue, look_of}
use Rattle.ds_image.specs.Sound.{StandsFor}
use Rattle.ds_image.specs.declared.asks.Ask.{Ask}
use Rattle.ds_image_tables.proofs.Spelling.Places.{at-single}
use Rattle.ds_jrnl.specs.declared.redo.Redo.{Redo}
use Rattle.ds_layout.specs.Places.{cluster_lock, place_sector}
use Rattle.ds_layout.specs.declared.places.Place.TheVariants as places
use Rattle.ds_plan_base.specs.Bodies.{dir_of_key}
use Rattle.ds_plan_base.proofs.DirSeen.{HasDir, IsFoundIn}
use Rattle.ds_plan_base.specs.Giving.{Maps, maps_left, with_maps_left, given_up}
use Rattle.ds_plan_base.proofs.Goes.{Goes}
use Rattle.ds_image.specs.Locks.{MayLock, SeesBody, GivesUp}
use Rattle.ds_plan_base.proofs.PlanAsks.{PlanAsks}
use Rattle.ds_plan_base.specs.declared.entries.Found.{Found}
use Rattle.ds_plan_base.proofs.Alike.{sub_alike, some-there}
use Rattle.ds_plan_base.proofs.Cleared.{map_writes}
use Rattle.ds_plan_base.proofs.Dirs.{body_in}
use Rattle.ds_plan_base.proofs.GivingWalk.{AreMarked, give_goes}
use Rattle.ds_plan_base.proofs.Going.{goes-after, goes-weaker}
use Rattle.ds_plan_base.proofs.Limits.{firsts, or-left, in-front, behind, in-mapped, in-firsts}
use Rattle.ds_plan_base.proofs.MapsLeft.{AreLeft}
use Rattle.ds_plan_remove.specs.Answers.{empty_from, nothing, dir_given, file_given, object_given}
use Rattle.ds_plan_remove.specs.Blocks.{blocks_known}
use Rattle.ds_plan_remove.specs.Entries.{entry_known}
use Rattle.ds_plan_remove.proofs.BlocksSeen.{blocks-alike}
use Rattle.ds_plan_remove.proofs.ContentsWalk.{HasContents, ptr-in, empty_goes, blocks_goes}
use Rattle.ds_plan_remove.proofs.EntryWalk.{HasObject, dir-node, found-get}
use Rattle.ds_plan_remove.proofs.EntryWalk as walk
use Rattle.ds_plan_remove.proofs.GivenUp.{given-marked, object-gives}
use Rattle.ds_plan_remove.proofs.Refusals.{go-refused, not_empty}
use Rattle.ds_plan_remove.proofs.Staying.{MayHold, MayRead, clusters_held, bitmaps_read, object_sectors}
use Rattle.ds_plan_remove.proofs.Written.{Given, AreWritten, nothing-written, more-written, IsGiven, all-written, fd-first, pb-before_fb}
use Rattle.ds_tree.specs.Nodes.{Entries, Dir, FileTree, node_at}
use Rattle.ds_tree.specs.Steps.{Does}
use Rattle.ds_tree.specs.declared.calls.CallOf.{CallOf}
use Rattle.ds_tree.specs.declared.calls.TreeReply.TheVariants as replies

module _ (g : Geom) (is_geom : IsGeom g) (slot : ℕ) (key : Key) (name : List ℕ) (kind : NodeKind) (seen : SeenValue) (p : Parts) (reads : ReadsParts g (look_of seen) p)
    (dir : Body) (has : HasDir g seen p key dir) (is_dir : dir_of_key g seen p key ≡ Ok dir) (f : Found) (is_f : entry_known g seen p dir name kind ≡ Ok f)
    (found : IsFoundIn g seen (subs_of (Some dir)) name (Some f)) (b : Body) (obj : HasObject g seen p kind f.key b) where
  abbrev call : CallOf Key
  call = go_call kind key name

  abbrev Good : Ask → Type 0
  Good = PlanAsks g slot call (MayHold g key name kind) (MayRead g key name kind) seen p

  abbrev o : ℕ
  o = f.key.object

  abbrev listed : ℕ
  listed = place_sector g (places.Body b.object)

  abbrev pub given : Given
  given q = leaving.given_up q o b

  abbrev pub Bare : Type 0
  Bare = (image : List Sector) (t : FileTree) (stands : StandsFor g image t) → Agrees seen image → used_rooms stands.parts (subs_of (Some b)) ≡ []

  abbrev pub Known : Redo → Type 0
  Known redo = IsGiven g seen given redo × Bare

  object-is : b.object ≡ o
  object-is = ((reads.bodies.each o obj.inside b).0 obj.there).0

  body-same : (image : List Sector) (t : FileTree) (stands : StandsFor g image t) → Agrees seen image → part_at stands.parts.bodies o ≡ Some b
  body-same image t stands agrees = body_in g seen p o image t stands obj.inside reads agrees obj.read ∙ obj.there

  may_read_object : (at : ℕ) → list_any (nat_eq at) (object_sectors g p o) ≡ true → MayRead g key name kind seen p at
  may_read_object at any =
      walk.may_read_found g is_geom slot key name kind seen p reads dir has is_dir f is_f found at
      (behind at (place_sector g (places.Bitmap Fd (o / per_cluster g Fd)) ∷ []) (object_sectors g p o) any)

  may_hold_object : MayHold g key name kind seen p o
  may_hold_object =
      walk.may_hold_found g is_geom slot key name kind seen p reads dir has is_dir f is_f found o
      (or-left (nat_eq o o) (list_any (nat_eq o) (cluster_lock Fd (o / per_cluster g Fd) ∷ [])) (nat_eq_equiv.refl o))

  may_lock_object : MayLock g slot call p o
  may_lock_object = walk.lock_allowed g is_geom slot key name kind seen p reads dir has is_dir f is_f found obj.inside

  module _ (contents : HasContents g seen p b) where
    wide : (i n : ℕ) → slice_get (ptrs_of (Some b)) i ≡ Some n → length (addresses_in (part_at p.ptrs n)) ≡ 128
    wide i n at =
        let one = contents.ptrs i n at in
        ap (λ x. length (addresses_in x)) one.1.there ∙ (((reads.ptrs.each n one.1.inside one.0).0 one.1.there).0).count

    -- the items are the same in each image that agrees
    given-in : (of : Kind) (image : List Sector) (t : FileTree) (stands : StandsFor g image t) → Agrees seen image → given stands.parts of ≡ given p of
    given-in Fd image t stands agrees = refl
    given-in Sb image t stands agrees = refl
    given-in Pb image t stands agrees = refl
    given-in Fb image t stands agrees =
        blocks-alike p stands.parts b (λ i n at. let one = contents.ptrs i n at in ptr-in g seen p reads n one.1.inside one.1.read image t stands agrees)

    owned : (of : Kind) (items : List ℕ) → given p of ≡ items → (image : List Sector) (t : FileTree) (stands : StandsFor g image t) → Agrees seen image → AreMarked stands.parts of items
    owned of items same image t stands agrees =
        subst (AreMarked stands.parts of) (given-in of image t stands agrees ∙ same)
        (given-marked stands.parts stands.sound o b (body-same image t stands agrees) kind obj.is_kind of)

    gives : (of : Kind) (items : List ℕ) → given p of ≡ items → (i n : ℕ) → slice_get items i ≡ Some n → GivesUp p call of n
    gives of items same i n at =
        let here = walk.at g is_geom slot key name kind seen p reads dir has is_dir f is_f found in
        let sees = walk.sees g is_geom slot key name kind seen p reads dir has is_dir f is_f found in
        let is_kind = walk.is_kind g is_geom slot key name kind seen p reads dir has is_dir f is_f found in
        let body : SeesBody p f.key kind b = record { there = obj.there; life = obj.life; is_kind = obj.is_kind } in
        object-gives g seen p key name here.entry sees b contents wide kind (sym here.kind ∙ is_kind) (subst (λ k. SeesBody p k kind b) here.key body) of i n
        (subst (λ x. slice_get (leaving.given_up p x b of) i ≡ Some n) (ap (λ (k : Key). k.object) here.key) (ap (λ l. slice_get l i) same ∙ at))

    abbrev Left : Kind → List ℕ → Redo → Redo → Type 0
    Left of items redo after_it = (maps : Maps) × AreLeft g seen p of items 0 maps × (after_it ≡ with_maps_left g of redo maps)

    -- it has no entry in any image that agrees
    bare-in : Bare
    bare-in image t stands agrees =
        used-same p stands.parts (subs_of (Some b))
        (λ i n at.
        let one = (contents.subs i n at).1 in
        let known = some-there (look_of seen (place_sector g (places.SubBlock n))) one.read in
        sub_alike g (slice_get image) (look_of seen) stands.parts p n one.inside (agrees (place_sector g (places.SubBlock n)) known.0 known.1 ∙ sym known.1) stands.reads reads)
        ∙ contents.bare

    -- one kind of items
    kind_goes : (of : Kind) (items : List ℕ) (redo : Redo) → given p of ≡ items
        → ((i n : ℕ) → slice_get items i ≡ Some n → n / per_cluster g of < clusters_of g of → MayHold g key name kind seen p (cluster_lock of (n / per_cluster g of)))
        → ((i n : ℕ) → slice_get items i ≡ Some n → n / per_cluster g of < clusters_of g of → MayRead g key name kind seen p (place_sector g (places.Bitmap of (n / per_cluster g of))))
        → Goes Good (given_up g seen p of items listed redo) (Left of items redo)
    kind_goes of items redo same may_hold may_read =
        goes-after Good (AreLeft g seen p of items 0) (Left of items redo) (maps_left g seen p of items listed) _
        (give_goes g is_geom slot call (MayHold g key name kind) (MayRead g key name kind) seen p reads of items listed
        (subst (λ x. IsSome (look_of seen (place_sector g (places.Body x)))) (sym object-is) obj.read) (owned of items same) (gives of items same) may_hold may_read)
        (λ maps are. (maps, are, refl))

    -- the descriptor itself
    itself_goes : Goes Good (given_up g seen p Fd (b.object ∷ []) listed nothing) (Left Fd (b.object ∷ []) nothing)
    itself_goes =
        let number : (i n : ℕ) → slice_get (b.object ∷ []) i ≡ Some n → o ≡ n = λ i n at. sym object-is ∙ sym (at-single b.object i n at).1 in
        kind_goes Fd (b.object ∷ []) nothing (ap (λ x. x ∷ []) (sym object-is))
        (λ i n at inside.
        subst (λ x. MayHold g key name kind seen p (cluster_lock Fd (x / per_cluster g Fd))) (number i n at)
        (walk.may_hold_found g is_geom slot key name kind seen p reads dir has is_dir f is_f found (cluster_lock Fd (o / per_cluster g Fd))
        (behind (cluster_lock Fd (o / per_cluster g Fd)) (o ∷ []) (cluster_lock Fd (o / per_cluster g Fd) ∷ [])
        (or-left (nat_eq (cluster_lock Fd (o / per_cluster g Fd)) (cluster_lock Fd (o / per_cluster g Fd))) false (nat_eq_equiv.refl (cluster_lock Fd (o / per_cluster g Fd)))))))
        (λ i n at inside.
        subst (λ x. MayRead g key name kind seen p (place_sector g (places.Bitmap Fd (x / per_cluster g Fd)))) (number i n at)
        (let map_at : ℕ = place_sector g (places.Bitmap Fd (o / per_cluster g Fd)) in
        walk.may_read_found g is_geom slot key name kind seen p reads dir has is_dir f is_f found map_at
        (or-left (nat_eq map_at map_at) (list_any (nat_eq map_at) (object_sectors g p o)) (nat_eq_equiv.refl map_at))))

    -- the items of a kind whose clusters an object of this kind may hold
    listed_goes : (of : Kind) (items : List ℕ) (redo : Redo) → given p of ≡ items
        → ((c : ℕ) → c < 8 → list_any (nat_eq (cluster_lock of c)) (clusters_held kind) ≡ true)
        → ((c : ℕ) → c < 8 → list_any (nat_eq (place_sector g (places.Bitmap of c))) (bitmaps_read g kind) ≡ true)
        → Goes Good (given_up g seen p of items listed redo) (Left of items redo)
    listed_goes of items redo same held read =
        kind_goes of items redo same
        (λ i n at inside.
        walk.may_hold_clusters g is_geom slot key name kind seen p reads dir has is_dir f is_f found (cluster_lock of (n / per_cluster g of))
        (held (n / per_cluster g of) (omega (arith, inside, (is_geom (Clusters of)).1))))
        (λ i n at inside.
        walk.may_read_bitmaps g is_geom slot key name kind seen p reads dir has is_dir f is_f found (place_sector g (places.Bitmap of (n / per_cluster g of)))
        (read (n / per_cluster g of) (omega (arith, inside, (is_geom (Clusters of)).1))))

    abbrev First : Kind → Type 0
    First k = ⊥ ⊎ (Fd ≡ k)

    -- the bitmap of the descriptor
    first_written : (maps : Maps) → AreLeft g seen p Fd (b.object ∷ []) 0 maps → AreWritten g seen given First (0 + 8) (with_maps_left g Fd nothing maps) ([] ++ map_writes Fd maps)
    first_written maps left =
        let same : o ∷ [] ≡ b.object ∷ [] = ap (λ x. x ∷ []) (sym object-is) in
        more-written g is_geom seen p reads given (λ k. ⊥) 0 nothing [] Fd (b.object ∷ []) maps (nothing-written g seen given) (λ wrong. wrong) left
        (λ image t stands agrees. same) (owned Fd (b.object ∷ []) same) (λ of done. absurd done)

    -- and those of another kind behind it
    second_written : (one : Maps) → AreLeft g seen p Fd (b.object ∷ []) 0 one → (of : Kind) → of ≢ Fd → (items : List ℕ) → given p of ≡ items → (two : Maps) → AreLeft g seen p of items 0 two
        → AreWritten g seen given (λ k. First k ⊎ (of ≡ k)) (0 + 8 + 8) (with_maps_left g of (with_maps_left g Fd nothing one) two) (([] ++ map_writes Fd one) ++ map_writes of two)
    second_written one first of other items same two left =
        more-written g is_geom seen p reads given First (0 + 8) (with_maps_left g Fd nothing one) ([] ++ map_writes Fd one) of items two (first_written one first)
        (λ done. elim done [ inl wrong ↦ wrong | inr e ↦ other (sym e) ]) left
        (λ image t stands agrees. given-in of image t stands agrees ∙ same) (owned of items same)
        (λ k done c c' l. elim done [
          | inl wrong ↦ absurd wrong
          | inr e ↦
              subst (λ x. place_sector g (places.Bitmap x c) < place_sector g (places.Bitmap of c')) e
              (fd-first g of other c c' (subst (λ x. c < clusters_of g x) (sym e) l))
        ])

  -- A directory

  sb-other : Sb ≢ Fd
  sb-other e = absurd cc

  pb-other : Pb ≢ Fd
  pb-other e = absurd cc

  refused : kind ≡ kinds.Dir → (image : List Sector) (t : FileTree) → StandsFor g image t → Agrees seen image → (below : Entries) (more : ℕ) → node_at t o ≡ Some (Dir below more)
      → nat_lt 0 (maps.len below) ≡ true → Does g t call replies.NotEmpty t
  refused is image t stands agrees below more node some =
      let entries = entries_of stands.parts (subs_of (Some dir)) in
      subst (λ k. Does g t (go_call k key name) replies.NotEmpty t) (sym is)
      (go-refused g kinds.Dir key name t entries (4 * dir.count) replies.NotEmpty (dir-node g is_geom slot key name kind seen p reads dir has image t stands agrees)
      (not_empty t name entries (4 * dir.count) o (found-get g is_geom slot key name kind seen p reads dir has f found image t stands agrees) below more node some))

  dir_goes : kind ≡ kinds.Dir → Goes Good (dir_given g seen p b) Known
  dir_goes is =
      let Then = Known in
      let subs = subs_of (Some b) in
      let is_dir_body : b.kind ≡ Some kinds.Dir = obj.is_kind ∙ ap Some is in
      goes-after Good (λ (c : Body). HasContents g seen p b) Then (empty_from g seen p b subs) _
      (empty_goes g slot call (MayHold g key name kind) (MayRead g key name kind) seen p reads kind f.key b obj may_lock_object may_hold_object may_read_object is_dir_body (refused is))
      (λ c contents.
      goes-after Good (Left contents Fd (b.object ∷ []) nothing) Then (given_up g seen p Fd (b.object ∷ []) listed nothing) _ (itself_goes contents)
      (λ redo one.
      goes-weaker Good (Left contents Sb subs redo) Then (given_up g seen p Sb subs listed redo)
      (listed_goes contents Sb subs redo refl
      (λ c l. subst (λ k. list_any (nat_eq (cluster_lock Sb c)) (clusters_held k) ≡ true) (sym is) (in-mapped (cluster_lock Sb) c (firsts 8) (in-firsts c 8 l)))
      (λ c l. subst (λ k. list_any (nat_eq (place_sector g (places.Bitmap Sb c))) (bitmaps_read g k) ≡ true) (sym is)
      (in-mapped (λ c. place_sector g (places.Bitmap Sb c)) c (firsts 8) (in-firsts c 8 l))))
      (λ more two. (
        subst (IsGiven g seen given) (sym (two.2 ∙ ap (λ r. with_maps_left g Sb r two.0) one.2))
            (all-written g seen given (λ k. First contents k ⊎ (Sb ≡ k)) (0 + 8 + 8) (with_maps_left g Sb (with_maps_left g Fd nothing one.0) two.0) (([] ++ map_writes Fd one.0) ++ map_writes Sb two.0)
            (second_written contents one.0 one.1 Sb sb-other subs refl two.0 two.1) (omega arith) (λ q k. all contents is_dir_body q k)),
        bare-in contents,
      ))))
    where
      all : (contents : HasContents g seen p b) → b.kind ≡ Some kinds.Dir → (q : Parts) (k : Kind) → ((⊥ ⊎ (Fd ≡ k)) ⊎ (Sb ≡ k)) ⊎ (leaving.given_up q f.key.object b k ≡ [])
      all contents is q Fd = inl (inl (inr refl))
      all contents is q Sb = inl (inr refl)
      all contents is q Pb = inr (ap (ptrs_by b) is)
      all contents is q Fb = inr (ap (blocks_by q b) is)

  -- A file

  file_goes : kind ≡ kinds.File → Goes Good (file_given g seen p b) Known
  file_goes is =
      let Then = Known in
      let ptrs = ptrs_of (Some b) in
      let is_file_body : b.kind ≡ Some kinds.File = obj.is_kind ∙ ap Some is in
      goes-after Good (λ (blocks : ArrayVec ℕ). (blocks.items ≡ blocks_of p (Some b)) × HasContents g seen p b) Then (blocks_known g seen p b) _
      (blocks_goes g slot call (MayHold g key name kind) (MayRead g key name kind) seen p reads kind f.key b obj may_lock_object may_hold_object may_read_object is_file_body)
      (λ blocks known.
      let contents = known.1 in
      goes-after Good (Left contents Fd (b.object ∷ []) nothing) Then (given_up g seen p Fd (b.object ∷ []) listed nothing) _ (itself_goes contents)
      (λ redo one.
      goes-after Good (Left contents Pb ptrs redo) Then (given_up g seen p Pb ptrs listed redo) _
      (listed_goes contents Pb ptrs redo refl
      (λ c l. subst (λ k. list_any (nat_eq (cluster_lock Pb c)) (clusters_held k) ≡ true) (sym is)
      (in-front (cluster_lock Pb c) (map (cluster_lock Pb) (firsts 8)) (map (cluster_lock Fb) (firsts 8)) (in-mapped (cluster_lock Pb) c (firsts 8) (in-firsts c 8 l))))
      (λ c l. subst (λ k. list_any (nat_eq (place_sector g (places.Bitmap Pb c))) (bitmaps_read g k) ≡ true) (sym is)
      (in-front (place_sector g (places.Bitmap Pb c)) (map (λ c. place_sector g (places.Bitmap Pb c)) (firsts 8)) (map (λ c. place_sector g (places.Bitmap Fb c)) (firsts 8))
      (in-mapped (λ c. place_sector g (places.Bitmap Pb c)) c (firsts 8) (in-firsts c 8 l)))))
      (λ more two.
      goes-weaker Good (Left contents Fb blocks.items more) Then (given_up g seen p Fb blocks.items listed more)
      (listed_goes contents Fb blocks.items more (sym known.0)
      (λ c l. subst (λ k. list_any (nat_eq (cluster_lock Fb c)) (clusters_held k) ≡ true) (sym is)
      (behind (cluster_lock Fb c) (map (cluster_lock Pb) (firsts 8)) (map (cluster_lock Fb) (firsts 8)) (in-mapped (cluster_lock Fb) c (firsts 8) (in-firsts c 8 l))))
      (λ c l. subst (λ k. list_any (nat_eq (place_sector g (places.Bitmap Fb c))) (bitmaps_read g k) ≡ true) (sym is)
      (behind (place_sector g (places.Bitmap Fb c)) (map (λ c. place_sector g (places.Bitmap Pb c)) (firsts 8)) (map (λ c. place_sector g (places.Bitmap Fb c)) (firsts 8))
      (in-mapped (λ c. place_sector g (places.Bitmap Fb c)) c (firsts 8) (in-firsts c 8 l)))))
      (λ last three.
      let Second : Kind → Type 0 = λ k. First contents k ⊎ (Pb ≡ k) in
      let redo_two = with_maps_left g Pb (with_maps_left g Fd nothing one.0) two.0 in
      let writes_two = ([] ++ map_writes Fd one.0) ++ map_writes Pb two.0 in
      let third = more-written g is_geom seen p reads given Second (0 + 8 + 8) redo_two writes_two Fb blocks.items three.0
      (second_written contents one.0 one.1 Pb pb-other ptrs refl two.0 two.1)
      (λ done. not-fb contents done) three.1
      (λ image t stands agrees. given-in contents Fb image t stands agrees ∙ sym known.0) (owned contents Fb blocks.items (sym known.0))
      (λ k done c c' l. before-fb contents k done c c' l) in (
        subst (IsGiven g seen given) (sym (three.2 ∙ ap (λ r. with_maps_left g Fb r three.0) (two.2 ∙ ap (λ r. with_maps_left g Pb r two.0) one.2)))
            (all-written g seen given (λ k. Second k ⊎ (Fb ≡ k)) (0 + 8 + 8 + 8) (with_maps_left g Fb redo_two three.0) (writes_two ++ map_writes Fb three.0) third (omega arith) (λ q k. all contents is_file_body q k)),
        bare-in contents,
      )))))
    where
      not-fb : HasContents g seen p b → ¬ ((⊥ ⊎ (Fd ≡ Fb)) ⊎ (Pb ≡ Fb))
      not-fb contents (inl (inl wrong)) = wrong
      not-fb contents (inl (inr e)) = absurd cc
      not-fb contents (inr e) = absurd cc

      before-fb : HasContents g seen p b → (k : Kind) → ((⊥ ⊎ (Fd ≡ k)) ⊎ (Pb ≡ k)) → (c c' : ℕ) → c < clusters_of g k → place_sector g (places.Bitmap k c) < place_sector g (places.Bitmap Fb c')
      before-fb contents k (inl (inl wrong)) c c' l = absurd wrong
      before-fb contents k (inl (inr e)) c c' l =
          subst (λ x. place_sector g (places.Bitmap x c) < place_sector g (places.Bitmap Fb c')) e (fd-first g Fb (λ e. absurd cc) c c' (subst (λ x. c < clusters_of g x) (sym e) l))
      before-fb contents k (inr e) c c' l =
          subst (λ x. place_sector g (places.Bitmap x c) < place_sector g (places.Bitmap Fb c')) e (pb-before_fb g c c' (subst (λ x. c < clusters_of g x) (sym e) l))

      all : (contents : HasContents g seen p b) → b.kind ≡ Some kinds.File → (q : Parts) (k : Kind) → (((⊥ ⊎ (Fd ≡ k)) ⊎ (Pb ≡ k)) ⊎ (Fb ≡ k)) ⊎ (leaving.given_up q f.key.object b k ≡ [])
      all contents is q Fd = inl (inl (inl (inr refl)))
      all contents is q Sb = inr (ap (subs_by b) is)
      all contents is q Pb = inl (inl (inr refl))
      all contents is q Fb = inl (inr refl)

  given-by : (k : NodeKind) → kind ≡ k → Goes Good (object_given g seen p k b) Known
  given-by kinds.Dir is = dir_goes is
  given-by kinds.File is = file_goes is

  -- the bitmaps are known, or what is asked for is good
  pub given_goes : Goes Good (object_given g seen p kind b) Known
  given_goes = given-by kind refl
