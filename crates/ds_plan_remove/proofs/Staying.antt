-- What was known of an entry and its object stays known when more is seen, and few locks are held and few sectors read.
use Rattle.std.proofs.Common.{◌≡◌, ℕ, ◌+◌, ◌/◌, ◌<◌, ◌≤◌, ◌||◌, Bool, true, false, nat_eq, nat_lt, if◌then◌else◌, List, [], ◌∷◌, ◌++◌, length, map, Option, None, Some, refl, sym, ap, ◌∙◌, arith, length-append, length-take}
use Rattle.std.specs.Prelude.{Result, Ok, Err}
use Rattle.std.specs.List.{list_any}
use Rattle.std.proofs.lemmas.Bool.{false≢true}
use Rattle.std.proofs.lemmas.Bool.Decides.{nat_tests}
use Rattle.std.proofs.lemmas.List.{length-map}
use Rattle.std.proofs.lemmas.List.Folds.{list_any-append}
use Rattle.ds_base.specs.Geometry.{items_of, per_cluster}
use Rattle.ds_base.specs.declared.geometry.Geom.{Geom}
use Rattle.ds_base.specs.declared.geometry.Kind.TheVariants.{Fd, Sb, Pb, Fb}
use Rattle.ds_base.specs.declared.names.Key.{Key}
use Rattle.ds_base.specs.declared.names.NodeKind.{NodeKind}
use Rattle.ds_base.specs.declared.names.NodeKind.TheVariants as kinds
use Rattle.ds_base.specs.declared.sectors.Sector.{Sector}
use Rattle.ds_dir.specs.declared.sub_block.SubBlock.{SubBlock}
use Rattle.ds_fd.specs.Body.{IsBody}
use Rattle.ds_fd.specs.declared.body.Body.{Body}
use Rattle.ds_image_parts.specs.Looks.{Look}
use Rattle.ds_image_parts.specs.Objects.{subs_by, ptrs_by, subs_of, ptrs_of}
use Rattle.ds_image_parts.specs.Parts.{Parts, part_at}
use Rattle.ds_image_parts.specs.Readings.{ReadsParts}
use Rattle.ds_image.specs.SeenValues.{SeenValue, has_lock, look_of}
use Rattle.ds_image.proofs.Spelling.Sizes.{body_is, part_within}
use Rattle.ds_layout.specs.Places.{cluster_lock, place_sector}
use Rattle.ds_layout.specs.declared.places.Place.TheVariants as places
use Rattle.ds_plan_base.specs.Bodies.{part_seen, body_seen, body_alive, body_of_key, body_of_dir, dir_of_key, sub_seen}
use Rattle.ds_plan_base.proofs.DirAsks.{dir_sectors}
use Rattle.ds_plan_base.specs.Entries.{found_among, found_from, found_in, entry_by, wanted_entry}
use Rattle.ds_plan_base.specs.Steps.{after, or_later}
use Rattle.ds_plan_base.specs.declared.entries.Found.{Found}
use Rattle.ds_plan_base.proofs.Alike.{body_alike, sub_alike}
use Rattle.ds_plan_base.proofs.Founds.{by-known}
use Rattle.ds_plan_base.proofs.Growing.{Grows}
use Rattle.ds_plan_base.proofs.Limits.{after-ok, part-known, if-ok, firsts, length-firsts, in-front, behind}
use Rattle.ds_plan_base.specs.declared.stops.Ending.TheVariants as endings
use Rattle.ds_plan_base.specs.declared.stops.Stop.{Stop}
use Rattle.ds_plan_base.specs.declared.stops.Stop.TheVariants as stops
use Rattle.ds_plan_remove.specs.Entries.{entry_of, entry_known}
use Rattle.ds_tree.specs.Counts.{pointer_blocks}

-- the entry of a name in the directory of a key
abbrev pub entry_of_key : Geom → SeenValue → Parts → Key → List ℕ → NodeKind → Result Found Stop
entry_of_key g seen p key name kind = after (dir_of_key g seen p key) (λ dir. entry_known g seen p dir name kind)

-- the sectors of an object: its body's, and those of the sub-blocks and pointer blocks that it lists
abbrev pub listed_sectors : Geom → Option Body → List ℕ
listed_sectors g r = map (λ n. place_sector g (places.SubBlock n)) (subs_of r) ++ map (λ n. place_sector g (places.PtrBlock n)) (ptrs_of r)

abbrev pub object_sectors : Geom → Parts → ℕ → List ℕ
object_sectors g p o = place_sector g (places.Body o) ∷ listed_sectors g (part_at p.bodies o)

-- the clusters in which an object of a kind may have items, and their bitmaps
abbrev pub clusters_held : NodeKind → List ℕ
clusters_held kinds.Dir = map (cluster_lock Sb) (firsts 8)
clusters_held kinds.File = map (cluster_lock Pb) (firsts 8) ++ map (cluster_lock Fb) (firsts 8)

abbrev pub bitmaps_read : Geom → NodeKind → List ℕ
bitmaps_read g kinds.Dir = map (λ c. place_sector g (places.Bitmap Sb c)) (firsts 8)
bitmaps_read g kinds.File = map (λ c. place_sector g (places.Bitmap Pb c)) (firsts 8) ++ map (λ c. place_sector g (places.Bitmap Fb c)) (firsts 8)

-- the locks and the sectors of the entry's object, once it was found
abbrev pub locks_found : Geom → Result Found Stop → List ℕ
locks_found g (Ok f) = f.key.object ∷ cluster_lock Fd (f.key.object / per_cluster g Fd) ∷ []
locks_found g (Err stop) = []

abbrev pub sectors_found : Geom → Parts → Result Found Stop → List ℕ
sectors_found g p (Ok f) = place_sector g (places.Bitmap Fd (f.key.object / per_cluster g Fd)) ∷ object_sectors g p f.key.object
sectors_found g p (Err stop) = []

-- all locks that a planner may come to hold, and all sectors that it may come to read
abbrev pub lock_list : Geom → Key → List ℕ → NodeKind → SeenValue → Parts → List ℕ
lock_list g key name kind seen p = (key.object ∷ []) ++ (clusters_held kind ++ locks_found g (entry_of_key g seen p key name kind))

abbrev pub sector_list : Geom → Key → List ℕ → NodeKind → SeenValue → Parts → List ℕ
sector_list g key name kind seen p = dir_sectors g p key.object ++ (bitmaps_read g kind ++ sectors_found g p (entry_of_key g seen p key name kind))

abbrev pub MayHold : Geom → Key → List ℕ → NodeKind → SeenValue → Parts → ℕ → Type 0
MayHold g key name kind seen p object = list_any (nat_eq object) (lock_list g key name kind seen p) ≡ true

abbrev pub MayRead : Geom → Key → List ℕ → NodeKind → SeenValue → Parts → ℕ → Type 0
MayRead g key name kind seen p at = list_any (nat_eq at) (sector_list g key name kind seen p) ≡ true

-- Members of lists put together

either : (k : ℕ) (xs ys others : List ℕ) → (list_any (nat_eq k) xs ≡ true → list_any (nat_eq k) others ≡ true)
    → (list_any (nat_eq k) ys ≡ true → list_any (nat_eq k) others ≡ true) → list_any (nat_eq k) (xs ++ ys) ≡ true → list_any (nat_eq k) others ≡ true
either k xs ys others one two any = by (list_any (nat_eq k) xs) refl (sym (list_any-append (nat_eq k) xs ys) ∙ any)
  where
    by : (b : Bool) → list_any (nat_eq k) xs ≡ b → (b || list_any (nat_eq k) ys) ≡ true → list_any (nat_eq k) others ≡ true
    by true e is = one e
    by false e is = two is

-- What was known stays known

module _ (g : Geom) (seen next : SeenValue) (p q : Parts) (grows : Grows seen next) (reads : ReadsParts g (look_of seen) p) (reads' : ReadsParts g (look_of next) q) where
  part-stays : {V : Type 0} (at : ℕ) (part part' : Option V) (v : V) → (look_of seen at ≡ look_of next at → part ≡ part')
      → part_seen at (look_of seen at) part ≡ Ok v → part_seen at (look_of next at) part' ≡ Ok v
  part-stays at part part' v alike is =
      let known = part-known at (look_of seen at) part v is in
      let there = grows.sectors at known.0 known.1 in
      ap (λ (o : Option Sector). part_seen at o part') there ∙ ap (part_seen at (Some known.0)) (sym (alike (known.1 ∙ sym there)) ∙ known.2)

  body-stays : (o : ℕ) (b : Body) → o < items_of g Fd → body_seen g seen p o ≡ Ok b → body_seen g next q o ≡ Ok b
  body-stays o b l is = part-stays (place_sector g (places.Body o)) (part_at p.bodies o) (part_at q.bodies o) b (λ same. body_alike g (look_of seen) (look_of next) p q o l same reads reads') is

  sub-stays : (b : Body) (n : ℕ) (block : SubBlock) → sub_seen g seen p b n ≡ Ok block → sub_seen g next q b n ≡ Ok block
  sub-stays b n block is =
      let at = place_sector g (places.SubBlock n) in
      let test = if-ok (nat_lt n (items_of g Sb)) (part_seen at (look_of seen at) (part_at p.subs n)) (stops.Odd (place_sector g (places.Body b.object))) block is in
      let l : n < items_of g Sb = let e = test.0 in grind (arith, nat_tests, e) in
      ap (λ t. if t then part_seen at (look_of next at) (part_at q.subs n) else Err (stops.Odd (place_sector g (places.Body b.object)))) test.0
      ∙ part-stays at (part_at p.subs n) (part_at q.subs n) block (λ same. sub_alike g (look_of seen) (look_of next) p q n l same reads reads') test.1

  key-stays : (key : Key) (b : Body) → body_of_key g seen p key ≡ Ok b → body_of_key g next q key ≡ Ok b
  key-stays key b is =
      let outer = if-ok (nat_lt key.object (items_of g Fd)) (if has_lock seen key.object then after (body_seen g seen p key.object) (body_alive key) else Err (stops.Lock key.object)) (stops.Done endings.NoObject) b is in
      let inner = if-ok (has_lock seen key.object) (after (body_seen g seen p key.object) (body_alive key)) (stops.Lock key.object) b outer.1 in
      let known = after-ok (body_seen g seen p key.object) (body_alive key) b inner.1 in
      let l : key.object < items_of g Fd = let e = outer.0 in grind (arith, nat_tests, e) in
      ap (λ t. if t then (if has_lock next key.object then after (body_seen g next q key.object) (body_alive key) else Err (stops.Lock key.object)) else Err (stops.Done endings.NoObject)) outer.0
      ∙ ap (λ t. if t then after (body_seen g next q key.object) (body_alive key) else Err (stops.Lock key.object)) (grows.locks key.object inner.0)
      ∙ ap (λ r. after r (body_alive key)) (body-stays key.object known.0 l known.1) ∙ known.2

  dir_key-stays : (key : Key) (b : Body) → dir_of_key g seen p key ≡ Ok b → dir_of_key g next q key ≡ Ok b
  dir_key-stays key b is =
      let known = after-ok (body_of_key g seen p key) body_of_dir b is in
      ap (λ r. after r body_of_dir) (key-stays key known.0 known.1) ∙ known.2

  found-stays : (b : Body) (name : List ℕ) (subs : List ℕ) (f : Found) → found_from g seen p b name subs ≡ Ok (Some f) → found_from g next q b name subs ≡ Ok (Some f)
  found-stays b name [] f is = absurd cc
  found-stays b name (n ∷ subs) f is =
      let known = after-ok (sub_seen g seen p b n) _ (Some f) is in
      ap (λ r. after r (λ (block : SubBlock). or_later (found_among n block name) (found_from g next q b name subs))) (sub-stays b n known.0 known.1)
      ∙ by (found_among n known.0 name) known.2 (λ e. found-stays b name subs f e)
    where
      by : (r : Option Found) → or_later r (found_from g seen p b name subs) ≡ Ok (Some f)
          → (found_from g seen p b name subs ≡ Ok (Some f) → found_from g next q b name subs ≡ Ok (Some f)) → or_later r (found_from g next q b name subs) ≡ Ok (Some f)
      by None is later = later is
      by (Some found) is later = is

  pub entry-stays : (key : Key) (name : List ℕ) (kind : NodeKind) (f : Found) → entry_of_key g seen p key name kind ≡ Ok f → entry_of_key g next q key name kind ≡ Ok f
  entry-stays key name kind f is =
      let dir = after-ok (dir_of_key g seen p key) _ f is in
      let wanted = after-ok (wanted_entry g seen p dir.0 name) (entry_of kind) f dir.2 in
      let found = after-ok (found_in g seen p dir.0 name) entry_by wanted.0 wanted.1 in
      ap (λ r. after r (λ dir. entry_known g next q dir name kind)) (dir_key-stays key dir.0 dir.1)
      ∙ ap (λ r. after (after r entry_by) (entry_of kind)) (found-stays dir.0 name (subs_of (Some dir.0)) wanted.0 (found.1 ∙ ap Ok (by-known found.0 wanted.0 found.2)))
      ∙ wanted.2

  -- the sectors of an object stay its sectors
  listed-stay : (Lists : Option Body → List ℕ) → Lists None ≡ [] → (o at : ℕ) → list_any (nat_eq at) (place_sector g (places.Body o) ∷ Lists (part_at p.bodies o)) ≡ true
      → list_any (nat_eq at) (place_sector g (places.Body o) ∷ Lists (part_at q.bodies o)) ≡ true
  listed-stay Lists none o at any = by (part_at p.bodies o) refl any
    where
      first : (a b : Bool) → (a || false) ≡ true → (a || b) ≡ true
      first true b e = refl
      first false b e = absurd (false≢true e)

      by : (r : Option Body) → part_at p.bodies o ≡ r → list_any (nat_eq at) (place_sector g (places.Body o) ∷ Lists r) ≡ true
          → list_any (nat_eq at) (place_sector g (places.Body o) ∷ Lists (part_at q.bodies o)) ≡ true
      by None is any =
          first (nat_eq at (place_sector g (places.Body o))) (list_any (nat_eq at) (Lists (part_at q.bodies o)))
          (sym (ap (λ l. list_any (nat_eq at) (place_sector g (places.Body o) ∷ l)) none) ∙ any)
      by (Some b) is any =
          let l : o < items_of g Fd = omega (arith, part_within p.bodies o b is, reads.bodies.len) in
          let here = ((reads.bodies.each o l b).0 is).2 in
          let there = grows.sectors (place_sector g (places.Body o)) here.0 here.1 in
          let same = body_alike g (look_of seen) (look_of next) p q o l (here.1 ∙ sym there) reads reads' in
          ap (λ (r : Option Body). list_any (nat_eq at) (place_sector g (places.Body o) ∷ Lists r)) (sym same ∙ is) ∙ any

  locks_found-stay : (key : Key) (name : List ℕ) (kind : NodeKind) (k : ℕ) (r : Result Found Stop) → entry_of_key g seen p key name kind ≡ r → list_any (nat_eq k) (locks_found g r) ≡ true
      → list_any (nat_eq k) (locks_found g (entry_of_key g next q key name kind)) ≡ true
  locks_found-stay key name kind k (Ok f) is any = ap (λ r. list_any (nat_eq k) (locks_found g r)) (entry-stays key name kind f is) ∙ any
  locks_found-stay key name kind k (Err stop) is any = absurd (false≢true any)

  sectors_found-stay : (key : Key) (name : List ℕ) (kind : NodeKind) (k : ℕ) (r : Result Found Stop) → entry_of_key g seen p key name kind ≡ r → list_any (nat_eq k) (sectors_found g p r) ≡ true
      → list_any (nat_eq k) (sectors_found g q (entry_of_key g next q key name kind)) ≡ true
  sectors_found-stay key name kind k (Ok f) is any =
      let map_at : ℕ = place_sector g (places.Bitmap Fd (f.key.object / per_cluster g Fd)) in
      ap (λ r. list_any (nat_eq k) (sectors_found g q r)) (entry-stays key name kind f is)
      ∙ either k (map_at ∷ []) (object_sectors g p f.key.object) (map_at ∷ object_sectors g q f.key.object)
      (in-front k (map_at ∷ []) (object_sectors g q f.key.object))
      (λ e. behind k (map_at ∷ []) (object_sectors g q f.key.object) (listed-stay (listed_sectors g) refl f.key.object k e)) any
  sectors_found-stay key name kind k (Err stop) is any = absurd (false≢true any)

  pub holds-stay : (key : Key) (name : List ℕ) (kind : NodeKind) (k : ℕ) → MayHold g key name kind seen p k → MayHold g key name kind next q k
  holds-stay key name kind k any =
      let found = locks_found g (entry_of_key g seen p key name kind) in
      let found' = locks_found g (entry_of_key g next q key name kind) in
      either k (key.object ∷ []) (clusters_held kind ++ found) (lock_list g key name kind next q)
      (in-front k (key.object ∷ []) (clusters_held kind ++ found'))
      (λ e. behind k (key.object ∷ []) (clusters_held kind ++ found')
      (either k (clusters_held kind) found (clusters_held kind ++ found')
      (in-front k (clusters_held kind) found')
      (λ e. behind k (clusters_held kind) found' (locks_found-stay key name kind k (entry_of_key g seen p key name kind) refl e)) e)) any

  pub reads-stay : (key : Key) (name : List ℕ) (kind : NodeKind) (k : ℕ) → MayRead g key name kind seen p k → MayRead g key name kind next q k
  reads-stay key name kind k any =
      let found = sectors_found g p (entry_of_key g seen p key name kind) in
      let found' = sectors_found g q (entry_of_key g next q key name kind) in
      let dir : ℕ → List ℕ = λ o. dir_sectors g q o in
      either k (dir_sectors g p key.object) (bitmaps_read g kind ++ found) (sector_list g key name kind next q)
      (λ e. in-front k (dir_sectors g q key.object) (bitmaps_read g kind ++ found') (listed-stay (λ r. map (λ n. place_sector g (places.SubBlock n)) (subs_of r)) refl key.object k e))
      (λ e. behind k (dir_sectors g q key.object) (bitmaps_read g kind ++ found')
      (either k (bitmaps_read g kind) found (bitmaps_read g kind ++ found')
      (in-front k (bitmaps_read g kind) found')
      (λ e. behind k (bitmaps_read g kind) found' (sectors_found-stay key name kind k (entry_of_key g seen p key name kind) refl e)) e)) any

-- The lists are short

few-subs_by : (b : Body) (kind : Option NodeKind) → IsBody b → b.kind ≡ kind → length (subs_by b kind) + length (ptrs_by b kind) ≤ 96
few-subs_by b None is kind = omega arith
few-subs_by b (Some kinds.Dir) is kind =
    omega (arith, length-take b.count b.addresses, is.widths.address_count)
few-subs_by b (Some kinds.File) is kind = omega (arith, length-take (pointer_blocks b.count) b.addresses, is.widths.address_count)

few-listed : (g : Geom) (look : Look) (p : Parts) → ReadsParts g look p → (o : ℕ) (r : Option Body) → part_at p.bodies o ≡ r → length (subs_of r) + length (ptrs_of r) ≤ 96
few-listed g look p reads o None is = omega arith
few-listed g look p reads o (Some b) is = few-subs_by b b.kind (body_is g look p o b reads is) refl

few-clusters : (kind : NodeKind) → length (clusters_held kind) ≤ 16
few-clusters kinds.Dir = omega (arith, length-map (firsts 8) (cluster_lock Sb), length-firsts 8)
few-clusters kinds.File = omega (arith, length-append (map (cluster_lock Pb) (firsts 8)) (map (cluster_lock Fb) (firsts 8)), length-map (firsts 8) (cluster_lock Pb), length-map (firsts 8) (cluster_lock Fb), length-firsts 8)

few-bitmaps : (g : Geom) (kind : NodeKind) → length (bitmaps_read g kind) ≤ 16
few-bitmaps g kinds.Dir = omega (arith, length-map (firsts 8) (λ c. place_sector g (places.Bitmap Sb c)), length-firsts 8)
few-bitmaps g kinds.File =
    let pb : ℕ → ℕ = λ c. place_sector g (places.Bitmap Pb c) in
    let fb : ℕ → ℕ = λ c. place_sector g (places.Bitmap Fb c) in
    omega (arith, length-append (map pb (firsts 8)) (map fb (firsts 8)), length-map (firsts 8) pb, length-map (firsts 8) fb, length-firsts 8)

few-locks_found : (g : Geom) (r : Result Found Stop) → length (locks_found g r) ≤ 2
few-locks_found g (Ok f) = omega arith
few-locks_found g (Err stop) = omega arith

few-object : (g : Geom) (look : Look) (p : Parts) → ReadsParts g look p → (o : ℕ) → length (object_sectors g p o) ≤ 97
few-object g look p reads o =
    let r = part_at p.bodies o in
    let subs = map (λ n. place_sector g (places.SubBlock n)) (subs_of r) in
    let ptrs = map (λ n. place_sector g (places.PtrBlock n)) (ptrs_of r) in
    omega (arith, length-append subs ptrs, length-map (subs_of r) (λ n. place_sector g (places.SubBlock n)), length-map (ptrs_of r) (λ n. place_sector g (places.PtrBlock n)), few-listed g look p reads o r refl)

few-sectors_found : (g : Geom) (look : Look) (p : Parts) → ReadsParts g look p → (r : Result Found Stop) → length (sectors_found g p r) ≤ 98
few-sectors_found g look p reads (Ok f) = omega (arith, few-object g look p reads f.key.object)
few-sectors_found g look p reads (Err stop) = omega arith

pub few-locks : (g : Geom) (key : Key) (name : List ℕ) (kind : NodeKind) (seen : SeenValue) (p : Parts) → length (lock_list g key name kind seen p) ≤ 22
few-locks g key name kind seen p =
    let r = entry_of_key g seen p key name kind in
    omega (arith, length-append (clusters_held kind) (locks_found g r), few-clusters kind, few-locks_found g r)

pub few-sectors : (g : Geom) (key : Key) (name : List ℕ) (kind : NodeKind) (seen : SeenValue) (p : Parts) → ReadsParts g (look_of seen) p
    → length (sector_list g key name kind seen p) ≤ 255
few-sectors g key name kind seen p reads =
    let r = entry_of_key g seen p key name kind in
    let subs = subs_of (part_at p.bodies key.object) in
    omega (
      arith,
      length-append (dir_sectors g p key.object) (bitmaps_read g kind ++ sectors_found g p r),
      length-append (bitmaps_read g kind) (sectors_found g p r),
      few-bitmaps g kind,
      few-sectors_found g (look_of seen) p reads r,
      length-map subs (λ n. place_sector g (places.SubBlock n)),
      few-listed g (look_of seen) p reads key.object (part_at p.bodies key.object) refl,
    )
