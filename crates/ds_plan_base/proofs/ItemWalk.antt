-- A planner that wants a free item asks for what it may, and answers that there is no space where there is none.
use Rattle.std.proofs.Common.{◌≡◌, ℕ, zero, suc, ◌+◌, ◌-◌, ◌*◌, ◌/◌, ◌%◌, ◌<◌, Bool, true, false, not, List, [], ◌∷◌, Option, None, Some, inl, inr, refl, sym, ap, subst, ◌∙◌, arith, slice_get, is_some}
use Rattle.std.specs.Prelude.{Result, Ok, Err, option_map}
use Rattle.std.specs.List.{count_by, sum_by, range_with_len}
use Rattle.std.proofs.Math.Nat.{div-add-mod, mod-lt}
use Rattle.std.proofs.lemmas.Bool.{cases_lt}
use Rattle.std.proofs.lemmas.List.FromFn.{length-range_with_len, get_or-range_with_len}
use Rattle.std.proofs.lemmas.List.Sums.{sum_by-cons}
use Rattle.std.proofs.lemmas.Nat.{mod-mul-add}
use Rattle.std.proofs.lemmas.Option.{slice_get_within, get_or_from_slice_get}
use Rattle.ds_base.specs.Geometry.{IsGeom, clusters_of}
use Rattle.ds_base.specs.declared.geometry.Geom.{Geom}
use Rattle.ds_base.specs.declared.geometry.Kind.{Kind}
use Rattle.ds_base.specs.declared.names.Key.{Key}
use Rattle.ds_base.specs.declared.sectors.Sector.{Sector}
use Rattle.ds_bitmap.specs.Bits.{Bitmap}
use Rattle.ds_image.proofs.Bits.{clear_count, clear-by_cluster}
use Rattle.ds_plan_laws_new.proofs.FreeItems.{free-clear}
use Rattle.ds_image.specs.Asking.{Agrees}
use Rattle.ds_image_parts.specs.Parts.{Parts, part_at, maps_of, used_bits}
use Rattle.ds_image_parts.specs.Readings.{ReadsParts}
use Rattle.ds_image.specs.SeenValues.{SeenValue, has_lock, look_of}
use Rattle.ds_image.specs.Sound.{StandsFor}
use Rattle.ds_image.specs.declared.asks.Ask.{Ask}
use Rattle.ds_image.specs.declared.asks.Ask.TheVariants as asks
use Rattle.ds_layout.specs.Places.{cluster_lock, place_sector}
use Rattle.ds_layout.specs.declared.places.Place.TheVariants as places
use Rattle.ds_plan_base.proofs.Bitmaps.{tried-within, first_clear-free}
use Rattle.ds_plan_base.specs.Items.{first_clear, map_seen, item_or, item_from, free_item, wanted_by, wanted_item}
use Rattle.ds_plan_base.proofs.Limits.{map_alike}
use Rattle.ds_plan_base.proofs.MapWalk.{map_goes}
use Rattle.ds_plan_base.proofs.PlanAsks.{PlanAsks, HasMap, HasFull, HasItem}
use Rattle.ds_plan_base.specs.declared.items.FreeItem.{FreeItem}
use Rattle.ds_plan_base.proofs.Goes.{Goes}
use Rattle.ds_image.specs.Locks.{to_take, Needs, cluster_tried, map_tried, clear_in}
use Rattle.ds_plan_base.proofs.Going.{goes-after}
use Rattle.ds_plan_base.specs.declared.stops.Stop.{Stop}
use Rattle.ds_plan_base.proofs.Alike.{some-there}
use Rattle.ds_tree.specs.Counts.{free_of}
use Rattle.ds_tree.specs.Nodes.{FileTree}
use Rattle.ds_tree.specs.Steps.{Does}
use Rattle.ds_tree.specs.declared.calls.CallOf.{CallOf}
use Rattle.ds_tree.specs.declared.calls.TreeReply.TheVariants as replies

-- what is known is what was answered
pub goes-known : {V : Type 0} (Good : Ask → Type 0) (Is : V → Type 0) (r : Result V Stop) → Goes Good r Is → Goes Good r (λ v. Is v × (r ≡ Ok v))
goes-known Good Is (Ok v) is = (is, refl)
goes-known Good Is (Err stop) good = good

-- Counts

-- a bitmap without a clear bit has none to count
pub full-none : (used : List Bool) → first_clear used ≡ None → count_by not used ≡ 0
full-none [] full = refl
full-none (false ∷ used) full = absurd cc
full-none (true ∷ used) full = full-behind used (first_clear used) refl full (full-none used)
  where
    full-behind : (used : List Bool) (r : Option ℕ) → first_clear used ≡ r → option_map suc r ≡ None → (first_clear used ≡ None → count_by not used ≡ 0) → count_by not (true ∷ used) ≡ 0
    full-behind used None is e later = later is
    full-behind used (Some k) is e later = absurd cc

pub sum-none : {X : Type 0} (f : X → ℕ) (xs : List X) → ((i : ℕ) (x : X) → slice_get xs i ≡ Some x → f x ≡ 0) → sum_by f xs ≡ 0
sum-none f [] none = refl
sum-none f (x ∷ xs) none = omega (arith, sum_by-cons f x xs, none 0 x refl, sum-none f xs (λ i y at. none (suc i) y at))

pub range-none : (f : ℕ → ℕ) (n : ℕ) → ((i : ℕ) → i < n → f i ≡ 0) → sum_by f (range_with_len 0 n) ≡ 0
range-none f n none = sum-none f (range_with_len 0 n) (λ i x at.
    let within : i < n = omega (arith, slice_get_within (range_with_len 0 n) i x at, length-range_with_len 0 n) in
    let here : x ≡ i = sym (get_or_from_slice_get (range_with_len 0 n) i x 0 at) ∙ get_or-range_with_len 0 n i 0 within ∙ (let none : 0 + i ≡ i = omega arith in none) in
    ap f here ∙ none i within)

-- each cluster is tried
pub all-tried : (n slot c : ℕ) → c < n → (i : ℕ) × (i < n) × (c ≡ (slot + i) % n)
all-tried n slot c l =
    let s : ℕ = slot % n in
    let k : ℕ = slot / n in
    let split : n * k + s ≡ slot = div-add-mod slot n in
    elim (cases_lt c s) [
      | inl before ↦
          let s_within : s < n = omega (arith, rest-within slot n l) in
          let i : ℕ = c + n - s in
          let sum : (k + 1) * n + c ≡ slot + i = omega (arith, split, before, s_within) in
          (i, omega (arith, before), sym (mod-mul-add (k + 1) n c l) ∙ ap (λ x. x % n) sum)
      | inr behind ↦
          let i : ℕ = c - s in
          let sum : k * n + c ≡ slot + i = omega (arith, split, behind) in
          (i, omega (arith, l), sym (mod-mul-add k n c l) ∙ ap (λ x. x % n) sum)
    ]
  where
    rest-within : (a n : ℕ) → c < n → a % n < n
    rest-within a n some = mod-lt a (omega (arith, some))

module _ (g : Geom) (slot : ℕ) (call : CallOf Key) (MayHold MayRead : SeenValue → Parts → ℕ → Type 0) (seen : SeenValue) (p : Parts) (is_geom : IsGeom g) (reads : ReadsParts g (look_of seen) p) (kind : Kind)
    (may_hold : (c : ℕ) → c < clusters_of g kind → MayHold seen p (cluster_lock kind c))
    (may_read : (c : ℕ) → c < clusters_of g kind → MayRead seen p (place_sector g (places.Bitmap kind c)))
    (needs : Needs p call kind 1)
    (refuses : (image : List Sector) (t : FileTree) → StandsFor g image t → Agrees seen image → free_of g t kind ≡ 0 → Does g t call (replies.NoSpace kind) t) where
  abbrev Good : Ask → Type 0
  Good = PlanAsks g slot call MayHold MayRead seen p

  abbrev tried_at : ℕ → ℕ
  tried_at = cluster_tried g slot kind

  abbrev map_at : ℕ → ℕ
  map_at c = place_sector g (places.Bitmap kind c)

  abbrev AllFull : ℕ → Type 0
  AllFull tried = (i : ℕ) → i < tried → HasFull g seen p kind (tried_at i)

  full-clear : (c : ℕ) → HasFull g seen p kind c → clear_in (part_at (maps_of p kind) c) ≡ 0
  full-clear c full = ap clear_in full.has.there ∙ full-none full.map.used full.full

  lock_good : (tried : ℕ) → tried < clusters_of g kind → AllFull tried → has_lock seen (cluster_lock kind (tried_at tried)) ≡ false → Good (asks.Lock (cluster_lock kind (tried_at tried)))
  lock_good tried l before free =
      let c = tried_at tried in
      let inside = tried-within g kind (slot + tried) is_geom in
      record {
        is_lock = inr (record { kind = kind; cluster = c; within = inside; number = refl });
        free = free;
        allowed = to_take kind 1 c needs (record {
          tried = tried;
          within = l;
          here = refl;
          before = λ i below. ap is_some (before i below).has.there;
          too_few = omega (arith, range-none (λ i. clear_in (map_tried g slot p kind i)) tried (λ i below. full-clear (tried_at i) (before i below)));
        });
        one = may_hold c inside;
      }

  tried_goes : (tried : ℕ) → tried < clusters_of g kind → AllFull tried → Goes Good (map_seen g seen p kind (tried_at tried)) (HasMap g seen p kind (tried_at tried))
  tried_goes tried l before =
      let inside = tried-within g kind (slot + tried) is_geom in
      map_goes g slot call MayHold MayRead seen p reads kind (tried_at tried) inside (may_read (tried_at tried) inside) (lock_good tried l before)

  -- all clusters are full, or the first free item is known
  abbrev Found : Option FreeItem → Type 0
  Found None = AllFull (clusters_of g kind)
  Found (Some free) = HasItem g seen p kind free

  one_more : (tried : ℕ) → AllFull tried → HasFull g seen p kind (tried_at tried) → AllFull (suc tried)
  one_more tried before now i l = elim (cases_lt i tried) [
    | inl below ↦ before i below
    | inr past ↦ let same : tried ≡ i = omega (arith, l, past) in subst (λ k. HasFull g seen p kind (tried_at k)) same now
  ]

  chosen : (tried left : ℕ) (map : Bitmap) → HasMap g seen p kind (tried_at tried) map → (r : Option ℕ) → first_clear map.used ≡ r
      → (first_clear map.used ≡ None → Goes Good (item_from g slot seen p kind (suc tried) left) Found)
      → Goes Good (item_or (tried_at tried) map r (item_from g slot seen p kind (suc tried) left)) Found
  chosen tried left map has None first later = later first
  chosen tried left map has (Some item) first later = record {
    has = has;
    first = first;
    is_free = record { cluster = has.inside; is_bits = has.is_bits; is_free = first_clear-free map.used item first };
  }

  items_go : (left tried : ℕ) → tried + left ≡ clusters_of g kind → AllFull tried → Goes Good (item_from g slot seen p kind tried left) Found
  items_go zero tried all before = subst AllFull (let same : tried ≡ clusters_of g kind = omega (arith, all) in same) before
  items_go (suc left) tried all before =
      goes-after Good (HasMap g seen p kind (tried_at tried)) Found (map_seen g seen p kind (tried_at tried)) _ (tried_goes tried (omega (arith, all)) before)
      (λ map has.
      chosen tried left map has (first_clear map.used) refl
      (λ full. items_go left (suc tried) (omega (arith, all)) (one_more tried before (record { map = map; has = has; full = full }))))

  -- where all clusters were seen full, no item is free in an image that agrees
  none-free : AllFull (clusters_of g kind) → (image : List Sector) (t : FileTree) → StandsFor g image t → Agrees seen image → free_of g t kind ≡ 0
  none-free full image t stands agrees =
      let q = stands.parts in
      ap (λ u. free_of g u kind) stands.tree ∙ free-clear g (slice_get image) q stands.reads stands.sound kind ∙ clear-by_cluster (maps_of q kind)
      ∙ sum-none (λ m. clear_count (used_bits m)) (maps_of q kind) (λ c m at.
      let inside : c < clusters_of g kind = omega (arith, slice_get_within (maps_of q kind) c m at, (stands.reads.maps kind).len) in
      let tried = all-tried (clusters_of g kind) slot c inside in
      let is : HasFull g seen p kind c = subst (HasFull g seen p kind) (sym tried.2) (full tried.0 tried.1) in
      let known = some-there (look_of seen (map_at c)) is.has.read in
      let same = map_alike g (slice_get image) (look_of seen) q p kind c inside (agrees (map_at c) known.0 known.1 ∙ sym known.1) stands.reads reads in
      ap (λ m. clear_count (used_bits m)) (sym (get_or_from_slice_get (maps_of q kind) c m None at) ∙ same) ∙ full-clear c is)

  -- a free item is known, or what is asked for is good
  pub wanted_goes : Goes Good (wanted_item g slot seen p kind) (λ free. HasItem g seen p kind free × (free_item g slot seen p kind ≡ Ok (Some free)))
  wanted_goes =
      let Then : FreeItem → Type 0 = λ free. HasItem g seen p kind free × (free_item g slot seen p kind ≡ Ok (Some free)) in
      goes-after Good (λ r. Found r × (free_item g slot seen p kind ≡ Ok r)) Then (free_item g slot seen p kind) (wanted_by kind)
      (goes-known Good Found (free_item g slot seen p kind) (items_go (clusters_of g kind) 0 (omega arith) (λ i l. absurd (omega (arith, l)))))
      (λ r is. ended r is)
    where
      ended : (r : Option FreeItem) → Found r × (free_item g slot seen p kind ≡ Ok r)
          → Goes Good (wanted_by kind r) (λ free. HasItem g seen p kind free × (free_item g slot seen p kind ≡ Ok (Some free)))
      ended None is = record { block = tt; does = λ image t stands agrees. refuses image t stands agrees (none-free is.0 image t stands agrees) }
      ended (Some free) is = is
