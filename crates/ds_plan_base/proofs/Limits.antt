-- What was known stays known when more is seen, and lists of what a planner may come to hold and read.
use Rattle.std.proofs.Common.{◌≡◌, ℕ, zero, suc, ◌+◌, ◌<◌, ◌≤◌, ◌||◌, Bool, true, false, nat_eq, if◌then◌else◌, List, [], ◌∷◌, ◌++◌, length, map, Option, None, Some, inl, inr, refl, sym, ap, subst, ◌∙◌, arith, length-take}
use Rattle.std.specs.Prelude.{Result, Ok, Err}
use Rattle.std.specs.List.{list_any}
use Rattle.std.proofs.lemmas.Bool.{false≢true, cases_Bool}
use Rattle.std.proofs.lemmas.Bool.Decides.{nat_tests}
use Rattle.std.proofs.lemmas.Cmp.{nat_eq_equiv}
use Rattle.std.proofs.lemmas.List.Folds.{list_any-append}
use Rattle.ds_base.specs.Decoding.{IsDecoded}
use Rattle.ds_base.specs.Geometry.{IsGeom, clusters_of, items_of}
use Rattle.ds_base.specs.declared.geometry.Geom.{Geom}
use Rattle.ds_base.specs.declared.geometry.Kind.{Kind}
use Rattle.ds_base.specs.declared.geometry.Kind.TheVariants.{Fd}
use Rattle.ds_base.specs.declared.names.NodeKind.{NodeKind}
use Rattle.ds_base.specs.declared.names.NodeKind.TheVariants as kinds
use Rattle.ds_base.specs.declared.sectors.Sector.{Sector}
use Rattle.ds_bitmap.specs.Bits.{Bitmap, IsBits, bits_bytes}
use Rattle.ds_fd.specs.Body.{IsBody, most_count}
use Rattle.ds_fd.specs.declared.body.Body.{Body}
use Rattle.ds_image_parts.specs.Looks.{Look}
use Rattle.ds_image_parts.specs.Objects.{subs_by, subs_of}
use Rattle.ds_image_parts.specs.Parts.{Parts, part_at, maps_of}
use Rattle.ds_image_parts.specs.Readings.{ReadsParts, SpellsBits}
use Rattle.ds_image.specs.SeenValues.{SeenValue, has_lock, look_of}
use Rattle.ds_image_parts.proofs.Spelling.Decoded.{decoded_same}
use Rattle.ds_image.proofs.Spelling.Sizes.{body_is, part_within}
use Rattle.ds_layout.specs.Places.{cluster_lock, place_sector}
use Rattle.ds_layout.specs.declared.places.Place.TheVariants as places
use Rattle.ds_plan_base.proofs.Bitmaps.{tried-within}
use Rattle.ds_plan_base.proofs.Growing.{Grows}
use Rattle.ds_plan_base.specs.Items.{first_clear, map_read, map_seen, item_or, item_from, free_item}
use Rattle.ds_plan_base.specs.declared.items.FreeItem.{FreeItem}
use Rattle.ds_plan_base.specs.Bodies.{part_seen}
use Rattle.ds_plan_base.proofs.DirAsks.{dir_sectors}
use Rattle.ds_image.specs.Locks.{cluster_tried}
use Rattle.ds_plan_base.specs.Steps.{after}
use Rattle.ds_plan_base.proofs.Alike.{body_alike}
use Rattle.ds_plan_base.specs.declared.stops.Stop.{Stop}
use Rattle.ds_plan_base.specs.declared.stops.Stop.TheVariants as stops

-- What was known stays known

pub after-ok : {V W : Type 0} (r : Result V Stop) (next : V → Result W Stop) (w : W) → after r next ≡ Ok w → (v : V) × (r ≡ Ok v) × (next v ≡ Ok w)
after-ok (Ok v) next w is = (v, refl, is)
after-ok (Err stop) next w is = absurd cc

pub part-known : {V : Type 0} (at : ℕ) (look : Option Sector) (part : Option V) (v : V) → part_seen at look part ≡ Ok v → (s : Sector) × (look ≡ Some s) × (part ≡ Some v)
part-known at None part v is = absurd cc
part-known at (Some s) None v is = absurd cc
part-known at (Some s) (Some w) v is = (s, refl, (let same : w ≡ v = cc in ap Some same))

-- two looks that have the same sector there, or none, have the same bitmap
pub map_alike : (g : Geom) (look other : Look) (p q : Parts) (kind : Kind) (cluster : ℕ) → cluster < clusters_of g kind
    → look (place_sector g (places.Bitmap kind cluster)) ≡ other (place_sector g (places.Bitmap kind cluster)) → ReadsParts g look p → ReadsParts g other q
    → part_at (maps_of p kind) cluster ≡ part_at (maps_of q kind) cluster
map_alike g look other p q kind cluster l same reads others =
    let Spells : Option Sector → Bitmap → Type 0 = λ x b. IsBits g kind cluster b × ((s : Sector) × (x ≡ Some s) × (s.bytes ≡ bits_bytes b)) in
    decoded_same (part_at (maps_of p kind) cluster) (part_at (maps_of q kind) cluster) (SpellsBits g look kind cluster) ((reads.maps kind).each cluster l)
    (subst (λ (x : Option Sector). IsDecoded (part_at (maps_of q kind) cluster) (Spells x)) (sym same) ((others.maps kind).each cluster l))

pub if-ok : {V : Type 0} (test : Bool) (r : Result V Stop) (stop : Stop) (v : V) → (if test then r else Err stop) ≡ Ok v → (test ≡ true) × (r ≡ Ok v)
if-ok true r stop v is = (refl, is)
if-ok false r stop v is = absurd cc

item_or-stays : (cluster : ℕ) (map : Bitmap) (r : Option ℕ) (later other : Result (Option FreeItem) Stop) (free : FreeItem)
    → (later ≡ Ok (Some free) → other ≡ Ok (Some free)) → item_or cluster map r later ≡ Ok (Some free) → item_or cluster map r other ≡ Ok (Some free)
item_or-stays cluster map None later other free stays is = stays is
item_or-stays cluster map (Some item) later other free stays is = is

module _ (g : Geom) (slot : ℕ) (seen next : SeenValue) (p q : Parts) (is_geom : IsGeom g) (grows : Grows seen next) (reads : ReadsParts g (look_of seen) p) (reads' : ReadsParts g (look_of next) q) where
  pub map-stays : (kind : Kind) (cluster : ℕ) (map : Bitmap) → cluster < clusters_of g kind → map_seen g seen p kind cluster ≡ Ok map → map_seen g next q kind cluster ≡ Ok map
  map-stays kind cluster map l is =
      let at = place_sector g (places.Bitmap kind cluster) in
      let held = if-ok (has_lock seen (cluster_lock kind cluster)) (map_read g seen p kind cluster) _ map is in
      let known = part-known at (look_of seen at) (part_at (maps_of p kind) cluster) map held.1 in
      let there = grows.sectors at known.0 known.1 in
      let same = map_alike g (look_of seen) (look_of next) p q kind cluster l (known.1 ∙ sym there) reads reads' in
      ap (λ b. if b then map_read g next q kind cluster else Err (stops.Lock (cluster_lock kind cluster))) (grows.locks (cluster_lock kind cluster) held.0)
      ∙ ap (λ (o : Option Sector). part_seen at o (part_at (maps_of q kind) cluster)) there
      ∙ ap (part_seen at (Some known.0)) (sym same ∙ known.2)

  pub items-stay : (kind : Kind) (free : FreeItem) (tried left : ℕ) → item_from g slot seen p kind tried left ≡ Ok (Some free) → item_from g slot next q kind tried left ≡ Ok (Some free)
  items-stay kind free tried zero is = absurd cc
  items-stay kind free tried (suc left) is =
      let cluster = cluster_tried g slot kind tried in
      let known = after-ok (map_seen g seen p kind cluster) _ (Some free) is in
      let map = known.0 in
      ap (λ r. after r (λ (map : Bitmap). item_or cluster map (first_clear map.used) (item_from g slot next q kind (suc tried) left)))
      (map-stays kind cluster map (tried-within g kind (slot + tried) is_geom) known.1)
      ∙ item_or-stays cluster map (first_clear map.used) (item_from g slot seen p kind (suc tried) left) (item_from g slot next q kind (suc tried) left) free
      (items-stay kind free (suc tried) left) known.2

  -- the free item that was found stays the first
  pub free-stays : (kind : Kind) (free : FreeItem) → free_item g slot seen p kind ≡ Ok (Some free) → free_item g slot next q kind ≡ Ok (Some free)
  free-stays kind free is = items-stay kind free 0 (clusters_of g kind) is

module _ (g : Geom) (seen next : SeenValue) (p q : Parts) (grows : Grows seen next) (reads : ReadsParts g (look_of seen) p) (reads' : ReadsParts g (look_of next) q) where
  -- the directory's sectors stay its sectors
  dir-stays-by : (dir at : ℕ) (r : Option Body) → part_at p.bodies dir ≡ r → list_any (nat_eq at) (place_sector g (places.Body dir) ∷ map (λ n. place_sector g (places.SubBlock n)) (subs_of r)) ≡ true
      → list_any (nat_eq at) (dir_sectors g q dir) ≡ true
  dir-stays-by dir at None is any =
      first (nat_eq at (place_sector g (places.Body dir))) (list_any (nat_eq at) (map (λ n. place_sector g (places.SubBlock n)) (subs_of (part_at q.bodies dir)))) any
    where
      first : (a b : Bool) → (a || false) ≡ true → (a || b) ≡ true
      first true b e = refl
      first false b e = absurd (false≢true e)
  dir-stays-by dir at (Some b) is any =
      let l : dir < items_of g Fd = omega (arith, part_within p.bodies dir b is, reads.bodies.len) in
      let here = ((reads.bodies.each dir l b).0 is).2 in
      let there = grows.sectors (place_sector g (places.Body dir)) here.0 here.1 in
      let same = body_alike g (look_of seen) (look_of next) p q dir l (here.1 ∙ sym there) reads reads' in
      ap (λ (r : Option Body). list_any (nat_eq at) (place_sector g (places.Body dir) ∷ map (λ n. place_sector g (places.SubBlock n)) (subs_of r))) (sym same ∙ is) ∙ any

  pub dir-stays : (dir at : ℕ) → list_any (nat_eq at) (dir_sectors g p dir) ≡ true → list_any (nat_eq at) (dir_sectors g q dir) ≡ true
  dir-stays dir at any = dir-stays-by dir at (part_at p.bodies dir) refl any

-- The lists

-- the numbers below n
abbrev pub firsts : ℕ → List ℕ
firsts zero = []
firsts (suc n) = n ∷ firsts n

pub length-firsts : (n : ℕ) → length (firsts n) ≡ n
length-firsts zero = refl
length-firsts (suc n) = ap suc (length-firsts n)

pub or-left : (a b : Bool) → a ≡ true → (a || b) ≡ true
or-left true b e = refl
or-left false b e = absurd (false≢true e)

pub or-right : (a b : Bool) → b ≡ true → (a || b) ≡ true
or-right true b e = refl
or-right false b e = e

pub in-front : (k : ℕ) (xs ys : List ℕ) → list_any (nat_eq k) xs ≡ true → list_any (nat_eq k) (xs ++ ys) ≡ true
in-front k xs ys is = list_any-append (nat_eq k) xs ys ∙ or-left (list_any (nat_eq k) xs) (list_any (nat_eq k) ys) is

pub behind : (k : ℕ) (xs ys : List ℕ) → list_any (nat_eq k) ys ≡ true → list_any (nat_eq k) (xs ++ ys) ≡ true
behind k xs ys is = list_any-append (nat_eq k) xs ys ∙ or-right (list_any (nat_eq k) xs) (list_any (nat_eq k) ys) is

pub in-mapped : (f : ℕ → ℕ) (k : ℕ) (xs : List ℕ) → list_any (nat_eq k) xs ≡ true → list_any (nat_eq (f k)) (map f xs) ≡ true
in-mapped f k [] any = any
in-mapped f k (x ∷ xs) any = elim (cases_Bool (nat_eq k x)) [
  | inl here ↦
      let same : k ≡ x = grind (arith, nat_tests, here) in
      or-left (nat_eq (f k) (f x)) (list_any (nat_eq (f k)) (map f xs)) (ap (λ y. nat_eq (f k) (f y)) (sym same) ∙ nat_eq_equiv.refl (f k))
  | inr other ↦
      or-right (nat_eq (f k) (f x)) (list_any (nat_eq (f k)) (map f xs)) (in-mapped f k xs (sym (ap (λ b. b || list_any (nat_eq k) xs) other) ∙ any))
]

pub in-firsts : (m n : ℕ) → m < n → list_any (nat_eq m) (firsts n) ≡ true
in-firsts m zero l = absurd (omega (arith, l))
in-firsts m (suc n) l = elim (cases_Bool (nat_eq m n)) [
  | inl same ↦ or-left (nat_eq m n) (list_any (nat_eq m) (firsts n)) same
  | inr other ↦
      let less : m < n = grind (arith, nat_tests, l, other) in
      or-right (nat_eq m n) (list_any (nat_eq m) (firsts n)) (in-firsts m n less)
]

few_subs-by : (b : Body) (kind : Option NodeKind) → IsBody b → b.kind ≡ kind → length (subs_by b kind) ≤ 96
few_subs-by b None is kind = omega arith
few_subs-by b (Some kinds.Dir) is kind = let most : b.count ≤ most_count (Some kinds.Dir) = subst (λ k. b.count ≤ most_count k) kind is.ranges.count_to in
    omega (arith, length-take b.count b.addresses, most)
few_subs-by b (Some kinds.File) is kind = omega arith

pub few_subs : (g : Geom) (look : Look) (p : Parts) (dir : ℕ) (r : Option Body) → ReadsParts g look p → part_at p.bodies dir ≡ r → length (subs_of r) ≤ 96
few_subs g look p dir None reads is = omega arith
few_subs g look p dir (Some b) reads is = few_subs-by b b.kind (body_is g look p dir b reads is) refl
