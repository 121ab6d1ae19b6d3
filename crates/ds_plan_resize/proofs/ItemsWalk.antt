-- A planner that wants several items asks for what it may, and answers that there is no space where there is none.
use Rattle.std.proofs.Common.{◌≡◌, ◌≢◌, ℕ, zero, suc, ◌+◌, ◌-◌, ◌*◌, ◌<◌, ◌≤◌, inl, inr, Bool, true, false, not, nat_le, cond, min, List, [], ◌∷◌, ◌++◌, length, map, None, Some, refl, sym, ap, subst, ◌∙◌, length-append, length-take, slice_get, is_some, arith}
use Rattle.std.specs.Prelude.{Ok, Err}
use Rattle.std.specs.List.{count_by, flat_map}
use Rattle.std.proofs.lemmas.Bool.{cases_lt}
use Rattle.std.proofs.lemmas.Bool.Decides.{nat_tests}
use Rattle.std.proofs.lemmas.List.{length-map, map-append, append-nil}
use Rattle.std.proofs.lemmas.List.Sums.{sum_by-cons}
use Rattle.std.proofs.lemmas.Option.{slice_get_within}
use Rattle.ds_base.specs.Geometry.{IsGeom, clusters_of, per_cluster}
use Rattle.ds_base.specs.declared.geometry.Geom.{Geom}
use Rattle.ds_base.specs.declared.geometry.GeomField.TheVariants.{Clusters}
use Rattle.ds_base.specs.declared.geometry.Kind.{Kind}
use Rattle.ds_base.specs.declared.names.Key.{Key}
use Rattle.ds_base.specs.declared.sectors.Sector.{Sector}
use Rattle.ds_bitmap.specs.Bits.{Bitmap}
use Rattle.ds_image.proofs.Bits.{clear_count, clear-by_cluster}
use Rattle.ds_image.specs.Asking.{Agrees}
use Rattle.ds_image_tables.specs.Owned.{CanMark}
use Rattle.ds_image_parts.specs.Parts.{Parts, part_at, maps_of, bits_in, used_bits}
use Rattle.ds_image_parts.specs.Pending.{Pair}
use Rattle.ds_image_parts.specs.Readings.{ReadsParts}
use Rattle.ds_image.specs.SeenValues.{SeenValue, look_of}
use Rattle.ds_image.specs.Sound.{StandsFor}
use Rattle.ds_image.specs.declared.asks.Ask.{Ask}
use Rattle.ds_image.specs.declared.asks.Ask.TheVariants as asks
use Rattle.ds_image_tables.proofs.Spelling.Places.{at-append, at-single}
use Rattle.ds_layout.specs.Places.{cluster_lock, place_sector}
use Rattle.ds_layout.specs.declared.places.Place.TheVariants as places
use Rattle.ds_plan_base.proofs.Goes.{Goes}
use Rattle.ds_plan_base.specs.Items.{map_seen}
use Rattle.ds_image.specs.Locks.{to_take, Needs, SeesFree, cluster_tried, map_tried, clear_in}
use Rattle.ds_plan_base.proofs.PlanAsks.{PlanAsks, HasMap}
use Rattle.ds_plan_base.proofs.Bitmaps.{tried-within}
use Rattle.ds_plan_base.proofs.GivingWalk.{map-in}
use Rattle.ds_plan_base.proofs.Going.{goes-after, goes-if}
use Rattle.ds_plan_base.proofs.MapWalk.{map_goes}
use Rattle.ds_plan_base.specs.declared.stops.Ending.TheVariants as endings
use Rattle.ds_plan_base.specs.declared.stops.Stop.TheVariants as stops
use Rattle.ds_plan_laws_size.specs.Takes.{Take, items_taken, maps_taken}
use Rattle.ds_plan_laws_size.specs.Written.{AreOnce}
use Rattle.ds_plan_resize.specs.Blocks.{AreItems}
use Rattle.ds_plan_resize.proofs.Clusters.{joined-items, mapped-items}
use Rattle.ds_plan_resize.proofs.LowestItems.{lowest-can}
use Rattle.ds_plan_resize.proofs.Sums.{total, total-more, total-rises, total-same, total-tried, total-list, tried-apart}
use Rattle.ds_plan_resize.specs.Taking.{clear_from, lowest_clear, map_marked, map_pair, taken_of, taken_more, items_from, items_wanted, IsTaken}
use Rattle.ds_plan_resize.specs.declared.taking.Taken.{Taken}
use Rattle.ds_tree.specs.Nodes.{FileTree}
use Rattle.ds_tree.specs.Steps.{Does}
use Rattle.ds_tree.specs.declared.calls.CallOf.{CallOf}
use Rattle.ds_tree.specs.declared.calls.TreeReply.TheVariants as replies

-- Lists

pub once-push : {V : Type 0} (xs : List (ℕ × V)) (y : ℕ × V) → AreOnce xs → ((i : ℕ) (x : ℕ × V) → slice_get xs i ≡ Some x → x.0 ≢ y.0) → AreOnce (xs ++ y ∷ [])
once-push {V} xs y once apart i j u v one two same = elim (at-append xs (y ∷ []) i u one) [
  | inl front ↦ elim (at-append xs (y ∷ []) j v two) [
    | inl front' ↦ once i j u v front front' same
    | inr back' ↦ absurd (apart i u front (same ∙ ap (λ (x : ℕ × V). x.0) (at-single y back'.0 v back'.2).1))
  ]
  | inr back ↦ elim (at-append xs (y ∷ []) j v two) [
    | inl front' ↦ absurd (apart j v front' (sym same ∙ ap (λ (x : ℕ × V). x.0) (at-single y back.0 u back.2).1))
    | inr back' ↦ omega (arith, back.1, back'.1, (at-single y back.0 u back.2).0, (at-single y back'.0 v back'.2).0)
  ]
]

flat-append : {X A : Type 0} (f : X → List A) (xs : List X) (y : X) → flat_map f (xs ++ y ∷ []) ≡ flat_map f xs ++ f y
flat-append f [] y = append-nil (f y)
flat-append f (x ∷ xs) y = ap (λ l. f x ++ l) (flat-append f xs y) ∙ sym (append-three (f x) (flat_map f xs) (f y))
  where
    append-three : {A : Type 0} (a b c : List A) → (a ++ b) ++ c ≡ a ++ (b ++ c)
    append-three [] b c = refl
    append-three (x ∷ a) b c = ap (λ l. x ∷ l) (append-three a b c)

length-clear : (from : ℕ) (used : List Bool) → length (clear_from from used) ≡ count_by not used
length-clear from [] = refl
length-clear from (false ∷ used) = omega (arith, length-clear (suc from) used, count_by-clear used)
  where
    count_by-clear : (used : List Bool) → count_by not (false ∷ used) ≡ 1 + count_by not used
    count_by-clear used = sum_by-cons (λ x. cond (not x) 1 0) false used
length-clear from (true ∷ used) = omega (arith, length-clear (suc from) used, sum_by-cons (λ x. cond (not x) 1 0) true used)

-- What is taken

-- what is taken of one cluster, whose bitmap was read: clear items of it
pub record IsTakeOf (g : Geom) (seen : SeenValue) (p : Parts) (kind : Kind) (part : Take) : Type 0 where
  pub before : Bitmap
  pub has : HasMap g seen p kind part.cluster before
  pub can : CanMark before.used part.items
  pub marked : part.map ≡ map_marked before part.items

-- the sectors of the bitmaps
abbrev pub take_pair : Geom → Kind → Take → Pair
take_pair g kind part = map_pair g kind part.cluster part.map

-- items taken from the clusters that were tried: all that are free there, or as many as are wanted
pub record HasTaken (g : Geom) (slot : ℕ) (seen : SeenValue) (p : Parts) (kind : Kind) (count tried : ℕ) (taken : Taken) : Type 0 where
  pub takes : List Take
  pub numbers : taken.numbers.items ≡ items_taken g kind takes
  pub maps : taken.maps.items ≡ map (take_pair g kind) takes
  pub each : (i : ℕ) (part : Take) → slice_get takes i ≡ Some part → IsTakeOf g seen p kind part
  pub from : (i : ℕ) (part : Take) → slice_get takes i ≡ Some part → (t : ℕ) × (t < tried) × (part.cluster ≡ cluster_tried g slot kind t)
  pub once : AreOnce (maps_taken takes)
  pub before : (i : ℕ) → i < tried → (m : Bitmap) × HasMap g seen p kind (cluster_tried g slot kind i) m
  pub within : tried ≤ clusters_of g kind
  pub few : length takes ≤ tried
  pub many : length taken.numbers.items ≡ min count (total (λ i. clear_in (map_tried g slot p kind i)) tried)

maps-at : (takes : List Take) (i : ℕ) (m : ℕ × Bitmap) → slice_get (maps_taken takes) i ≡ Some m → (part : Take) × (slice_get takes i ≡ Some part) × ((part.cluster, part.map) ≡ m)
maps-at [] i m at = absurd cc
maps-at (t ∷ takes) zero m at = (t, refl, (let same : (t.cluster, t.map) ≡ m = cc in same))
maps-at (t ∷ takes) (suc i) m at = maps-at takes i m at

module _ (g : Geom) (slot : ℕ) (seen : SeenValue) (p : Parts) (kind : Kind) (count tried : ℕ) where
  abbrev tried_at : ℕ → ℕ
  tried_at = cluster_tried g slot kind

  abbrev clear_at : ℕ → ℕ
  clear_at i = clear_in (map_tried g slot p kind i)

  pub none-taken : HasTaken g slot seen p kind count 0 (taken_of [] [])
  none-taken = record {
    takes = [];
    numbers = refl;
    maps = refl;
    each = λ i part at. absurd cc;
    from = λ i part at. absurd cc;
    once = λ i j x y one two same. absurd cc;
    before = λ i l. absurd (omega (arith, l));
    within = omega arith;
    few = omega arith;
    many = omega arith;
  }

  module _ (taken : Taken) (was : HasTaken g slot seen p kind count tried taken) (few : length taken.numbers.items < count) (l : tried < clusters_of g kind)
      (m : Bitmap) (has : HasMap g seen p kind (cluster_tried g slot kind tried) m) where
    abbrev wanted : ℕ
    wanted = count - length taken.numbers.items

    more-before : (i : ℕ) → i < suc tried → (m : Bitmap) × HasMap g seen p kind (tried_at i) m
    more-before i less = elim (cases_lt i tried) [
      | inl below ↦ was.before i below
      | inr past ↦ let same : tried ≡ i = omega (arith, less, past) in subst (λ k. (m : Bitmap) × HasMap g seen p kind (tried_at k) m) same (m, has)
    ]

    here-clear : clear_at tried ≡ count_by not m.used
    here-clear = ap clear_in has.there

    count-lowest : length (lowest_clear wanted m.used) ≡ min wanted (clear_at tried)
    count-lowest = omega (arith, length-take wanted (clear_from 0 m.used), length-clear 0 m.used, here-clear)

    many-more : (n : ℕ) → n ≡ length taken.numbers.items + length (lowest_clear wanted m.used) → n ≡ min count (total clear_at (suc tried))
    many-more n is = omega (arith, is, count-lowest, was.many, few, total-more clear_at tried)

    taken-by : (items : List ℕ) → lowest_clear wanted m.used ≡ items → HasTaken g slot seen p kind count (suc tried) (taken_more g kind (tried_at tried) m items taken)
    taken-by [] is = record {
      takes = was.takes;
      numbers = was.numbers;
      maps = was.maps;
      each = was.each;
      from = λ i part at. let found = was.from i part at in (found.0, omega (arith, found.1), found.2);
      once = was.once;
      before = more-before;
      within = omega (arith, l);
      few = omega (arith, was.few);
      many = many-more (length taken.numbers.items) (omega (arith, ap (length {A = ℕ}) is));
    }
    taken-by (x ∷ items) is =
        let c = tried_at tried in
        let part : Take = record { cluster = c; items = x ∷ items; map = map_marked m (x ∷ items) } in
        let number : ℕ → ℕ = λ item. c * per_cluster g kind + item in
        record {
          takes = was.takes ++ part ∷ [];
          numbers = ap (λ n. n ++ map number (x ∷ items)) was.numbers
              ∙ sym (flat-append (λ (t : Take). map (λ item. t.cluster * per_cluster g kind + item) t.items) was.takes part);
          maps = ap (λ n. n ++ take_pair g kind part ∷ []) was.maps ∙ sym (map-append (take_pair g kind) was.takes (part ∷ []));
          each = λ i other at. elim (at-append was.takes (part ∷ []) i other at) [
            | inl front ↦ was.each i other front
            | inr back ↦ subst (IsTakeOf g seen p kind) (sym (at-single part back.0 other back.2).1)
                (record { before = m; has = has; can = subst (CanMark m.used) is (lowest-can wanted m.used); marked = refl })
          ];
          from = λ i other at. elim (at-append was.takes (part ∷ []) i other at) [
            | inl front ↦ let found = was.from i other front in (found.0, omega (arith, found.1), found.2)
            | inr back ↦ (tried, omega arith, ap (λ (t : Take). t.cluster) (at-single part back.0 other back.2).1)
          ];
          once = subst AreOnce (sym (map-append (λ (t : Take). (t.cluster, t.map)) was.takes (part ∷ [])))
              (once-push (maps_taken was.takes) (part.cluster, part.map) was.once (λ i y at same.
              let found = maps-at was.takes i y at in
              let tried-before = was.from i found.0 found.1 in
              tried-apart (clusters_of g kind) slot tried-before.0 tried l tried-before.1
              (sym tried-before.2 ∙ ap (λ (z : ℕ × Bitmap). z.0) found.2 ∙ same)));
          before = more-before;
          within = omega (arith, l);
          few = omega (arith, was.few, length-append was.takes (part ∷ []));
          many = many-more (length (taken.numbers.items ++ map number (x ∷ items)))
              (omega (arith, length-append taken.numbers.items (map number (x ∷ items)), length-map (x ∷ items) number, ap (length {A = ℕ}) is));
        }

    pub one-more : HasTaken g slot seen p kind count (suc tried) (taken_more g kind (tried_at tried) m (lowest_clear wanted m.used) taken)
    one-more = taken-by (lowest_clear wanted m.used) refl

-- The walk

module _ (g : Geom) (slot : ℕ) (call : CallOf Key) (MayHold MayRead : SeenValue → Parts → ℕ → Type 0) (seen : SeenValue) (p : Parts) (is_geom : IsGeom g) (reads : ReadsParts g (look_of seen) p)
    (kind : Kind) (count : ℕ)
    (may_hold : (c : ℕ) → c < clusters_of g kind → MayHold seen p (cluster_lock kind c))
    (may_read : (c : ℕ) → c < clusters_of g kind → MayRead seen p (place_sector g (places.Bitmap kind c)))
    (needs : Needs p call kind count)
    (refuses : (image : List Sector) (t : FileTree) (stands : StandsFor g image t) → Agrees seen image → clear_count (bits_in (maps_of stands.parts kind)) < count
    → Does g t call (replies.NoSpace kind) t) where
  abbrev Good : Ask → Type 0
  Good = PlanAsks g slot call MayHold MayRead seen p

  abbrev tried_of : ℕ → ℕ
  tried_of = cluster_tried g slot kind

  abbrev clear_of : ℕ → ℕ
  clear_of i = clear_in (map_tried g slot p kind i)

  abbrev Known : Taken → Type 0
  Known taken = (tried : ℕ) × HasTaken g slot seen p kind count tried taken × (length taken.numbers.items ≡ count)

  tried_goes : (tried : ℕ) (taken : Taken) → HasTaken g slot seen p kind count tried taken → length taken.numbers.items < count → tried < clusters_of g kind
      → Goes Good (map_seen g seen p kind (tried_of tried)) (HasMap g seen p kind (tried_of tried))
  tried_goes tried taken was few l =
      let c = tried_of tried in
      let inside = tried-within g kind (slot + tried) is_geom in
      map_goes g slot call MayHold MayRead seen p reads kind c inside (may_read c inside)
      (λ free. record {
        is_lock = inr (record { kind = kind; cluster = c; within = inside; number = refl });
        free = free;
        allowed = to_take kind count c needs (record {
          tried = tried;
          within = l;
          here = refl;
          before = λ i below. ap is_some (was.before i below).1.there;
          too_few = omega (arith, was.many, few);
        });
        one = may_hold c inside;
      })

  -- all clusters that were seen have as many clear items in an image that agrees
  all-clear : (taken : Taken) → HasTaken g slot seen p kind count (clusters_of g kind) taken → (image : List Sector) (t : FileTree) (stands : StandsFor g image t) → Agrees seen image
      → clear_count (bits_in (maps_of stands.parts kind)) ≡ total clear_of (clusters_of g kind)
  all-clear taken was image t stands agrees =
      let n = clusters_of g kind in
      let maps = maps_of stands.parts kind in
      let f : ℕ → ℕ = λ c. clear_in (part_at maps c) in
      clear-by_cluster maps ∙ total-list (λ m. clear_count (used_bits m)) None maps
      ∙ ap (total f) (stands.reads.maps kind).len
      ∙ sym (total-tried f n slot)
      ∙ total-same (λ i. f (tried_of i)) clear_of n (λ i l.
      let seen-map = was.before i l in
      ap clear_in (map-in g seen p reads kind (tried_of i) seen-map.0 seen-map.1 image t stands agrees ∙ sym seen-map.1.there))

  none_good : (taken : Taken) → HasTaken g slot seen p kind count (clusters_of g kind) taken → length taken.numbers.items < count → Good (asks.Done (replies.NoSpace kind))
  none_good taken was few = record {
    block = tt;
    does = λ image t stands agrees. refuses image t stands agrees (omega (arith, all-clear taken was image t stands agrees, was.many, few));
  }

  enough-or : (taken : Taken) (tried : ℕ) → HasTaken g slot seen p kind count tried taken → nat_le count (length taken.numbers.items) ≡ true → Known taken
  enough-or taken tried was enough =
      let all : count ≤ length taken.numbers.items = grind (arith, nat_tests, enough) in
      (tried, was, omega (arith, was.many, all))

  items_go : (left tried : ℕ) (taken : Taken) → tried + left ≡ clusters_of g kind → HasTaken g slot seen p kind count tried taken
      → Goes Good (items_from g slot seen p kind count taken tried left) Known
  items_go zero tried taken all was =
      goes-if Good Known (nat_le count (length taken.numbers.items)) (Ok taken) (Err (stops.Done (endings.NoSpace kind)))
      (enough-or taken tried was)
      (λ few.
      let less : length taken.numbers.items < count = grind (arith, nat_tests, few) in
      let same : tried ≡ clusters_of g kind = omega (arith, all) in
      none_good taken (subst (λ n. HasTaken g slot seen p kind count n taken) same was) less)
  items_go (suc left) tried taken all was =
      goes-if Good Known (nat_le count (length taken.numbers.items)) (Ok taken) _
      (enough-or taken tried was)
      (λ few.
      let less : length taken.numbers.items < count = grind (arith, nat_tests, few) in
      let inside : tried < clusters_of g kind = omega (arith, all) in
      goes-after Good (HasMap g seen p kind (tried_of tried)) Known (map_seen g seen p kind (tried_of tried)) _ (tried_goes tried taken was less inside)
      (λ m has.
      items_go left (suc tried) (taken_more g kind (tried_of tried) m (lowest_clear (count - length taken.numbers.items) m.used) taken) (omega (arith, all))
      (one-more g slot seen p kind count tried taken was less inside m has)))

  -- the items are known, or what is asked for is good
  pub items_goes : Goes Good (items_wanted g slot seen p kind count) Known
  items_goes = items_go (clusters_of g kind) 0 (taken_of [] []) (omega arith) (none-taken g slot seen p kind count 0)

module _ (g : Geom) (slot : ℕ) (seen : SeenValue) (p : Parts) (is_geom : IsGeom g) (reads : ReadsParts g (look_of seen) p) (kind : Kind) (count : ℕ) (taken : Taken)
    (known : (tried : ℕ) × HasTaken g slot seen p kind count tried taken × (length taken.numbers.items ≡ count)) where
  abbrev tried_by : ℕ → ℕ
  tried_by = cluster_tried g slot kind

  abbrev clear_by : ℕ → ℕ
  clear_by i = clear_in (map_tried g slot p kind i)

  -- as many are free as are known
  pub sees-free : SeesFree p kind count
  sees-free =
      let n = clusters_of g kind in
      let f : ℕ → ℕ = λ c. clear_in (part_at (maps_of p kind) c) in
      omega (
        arith,
        known.1.many,
        known.2,
        total-rises clear_by known.0 n known.1.within,
        total-tried f n slot,
        total-list clear_in None (maps_of p kind),
        ap (total f) (reads.maps kind).len,
      )

  -- and in each image that agrees
  pub enough-in : (image : List Sector) (t : FileTree) (stands : StandsFor g image t) → Agrees seen image
      → count ≤ clear_count (bits_in (maps_of stands.parts kind))
  enough-in image t stands agrees =
      let n = clusters_of g kind in
      let maps = maps_of stands.parts kind in
      let f : ℕ → ℕ = λ c. clear_in (part_at maps c) in
      let was = known.1 in
      let same = total-same (λ i. f (tried_by i)) clear_by known.0 (λ i l.
      let seen-map = was.before i l in
      ap clear_in (map-in g seen p reads kind (tried_by i) seen-map.0 seen-map.1 image t stands agrees ∙ sym seen-map.1.there)) in
      omega (
        arith,
        was.many,
        known.2,
        same,
        total-rises (λ i. f (tried_by i)) known.0 n was.within,
        total-tried f n slot,
        clear-by_cluster maps,
        total-list (λ m. clear_count (used_bits m)) None maps,
        ap (total f) (stands.reads.maps kind).len,
      )

-- what is taken are items of the volume

takes-items : (g : Geom) (seen : SeenValue) (p : Parts) (kind : Kind) (takes : List Take) → ((i : ℕ) (part : Take) → slice_get takes i ≡ Some part → IsTakeOf g seen p kind part)
    → AreItems g kind (items_taken g kind takes)
takes-items g seen p kind [] each i l = absurd (omega (arith, l))
takes-items g seen p kind (part ∷ takes) each k l =
    let is = each 0 part refl in
    joined-items g kind (map (λ item. part.cluster * per_cluster g kind + item) part.items) (items_taken g kind takes)
    (mapped-items g kind part.cluster part.items is.has.inside
    (λ i x at. omega (arith, slice_get_within is.before.used x false (is.can.clear i x at), is.has.is_bits.count)))
    (takes-items g seen p kind takes (λ i other at. each (suc i) other at)) k l

pub taken-is : (g : Geom) (is_geom : IsGeom g) (slot : ℕ) (seen : SeenValue) (p : Parts) (kind : Kind) (count tried : ℕ) (taken : Taken) → HasTaken g slot seen p kind count tried taken
    → length taken.numbers.items ≡ count → IsTaken g kind count taken
taken-is g is_geom slot seen p kind count tried taken was all = record {
  many = all;
  items = subst (AreItems g kind) (sym was.numbers) (takes-items g seen p kind was.takes was.each);
  few_maps = omega (arith, ap (length {A = Pair}) was.maps, length-map was.takes (take_pair g kind), was.few, was.within, (is_geom (Clusters kind)).1);
}
