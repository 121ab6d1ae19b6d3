-- Which locks and sectors a planner of Mkdir or Create comes to hold and read: few, and once that it may, always.
use Rattle.std.proofs.Common.{◌≡◌, ℕ, ◌+◌, ◌*◌, ◌<◌, ◌≤◌, true, false, nat_eq, List, [], ◌∷◌, ◌++◌, length, map, Option, None, Some, refl, ap, ◌∙◌, arith, length-append}
use Rattle.std.specs.Prelude.{Result, Ok, Err}
use Rattle.std.specs.List.{list_any}
use Rattle.std.proofs.lemmas.Cmp.{nat_eq_equiv}
use Rattle.std.proofs.lemmas.List.{length-map}
use Rattle.ds_base.specs.Geometry.{IsGeom}
use Rattle.ds_base.specs.declared.geometry.Geom.{Geom}
use Rattle.ds_base.specs.declared.geometry.Kind.TheVariants.{Fd}
use Rattle.ds_image_parts.specs.Objects.{subs_of}
use Rattle.ds_image_parts.specs.Parts.{Parts, part_at}
use Rattle.ds_image_parts.specs.Readings.{ReadsParts}
use Rattle.ds_image.specs.SeenValues.{SeenValue, look_of}
use Rattle.ds_layout.specs.Places.{clusters_at, place_sector}
use Rattle.ds_layout.specs.declared.places.Place.TheVariants as places
use Rattle.ds_plan_base.proofs.DirAsks.{dir_sectors}
use Rattle.ds_plan_base.specs.Items.{free_item, number_of}
use Rattle.ds_plan_base.specs.declared.items.FreeItem.{FreeItem}
use Rattle.ds_plan_base.proofs.Growing.{Grows}
use Rattle.ds_plan_base.proofs.Limits.{free-stays, dir-stays, firsts, length-firsts, or-left, in-front, behind, in-mapped, in-firsts, few_subs}
use Rattle.ds_plan_base.specs.declared.stops.Stop.{Stop}

-- the directory, the clusters of descriptors and sub-blocks, and the descriptor that was found
pub data MayHold (g : Geom) (slot dir : ℕ) (seen : SeenValue) (p : Parts) : ℕ → Type 0 where
  the_dir : MayHold g slot dir seen p dir
  a_cluster : (m : ℕ) → m < 16 → MayHold g slot dir seen p (2048 + m)
  the_new : (free : FreeItem) → free_item g slot seen p Fd ≡ Ok (Some free) → MayHold g slot dir seen p (number_of g Fd free)

-- the directory's sectors, the bitmaps of those clusters, and the body of that descriptor
pub data MayRead (g : Geom) (slot dir : ℕ) (seen : SeenValue) (p : Parts) : ℕ → Type 0 where
  of_dir : (at : ℕ) → list_any (nat_eq at) (dir_sectors g p dir) ≡ true → MayRead g slot dir seen p at
  of_cluster : (m : ℕ) → m < 16 → MayRead g slot dir seen p (clusters_at g + 2 * m + 1)
  of_new : (free : FreeItem) → free_item g slot seen p Fd ≡ Ok (Some free) → MayRead g slot dir seen p (place_sector g (places.Body (number_of g Fd free)))

-- What was known stays known

module _ (g : Geom) (slot : ℕ) (seen next : SeenValue) (p q : Parts) (is_geom : IsGeom g) (grows : Grows seen next) (reads : ReadsParts g (look_of seen) p) (reads' : ReadsParts g (look_of next) q) where
  pub holds-stay : (dir object : ℕ) → MayHold g slot dir seen p object → MayHold g slot dir next q object
  holds-stay dir _ the_dir = the_dir
  holds-stay dir _ (a_cluster m l) = a_cluster m l
  holds-stay dir _ (the_new free is) = the_new free (free-stays g slot seen next p q is_geom grows reads reads' Fd free is)

  pub reads-stay : (dir at : ℕ) → MayRead g slot dir seen p at → MayRead g slot dir next q at
  reads-stay dir _ (of_dir at any) = of_dir at (dir-stays g seen next p q grows reads reads' dir at any)
  reads-stay dir _ (of_cluster m l) = of_cluster m l
  reads-stay dir _ (of_new free is) = of_new free (free-stays g slot seen next p q is_geom grows reads reads' Fd free is)

-- The lists

-- what is known of a free item, as a list of at most one number
abbrev known_new : Geom → Result (Option FreeItem) Stop → List ℕ
known_new g (Ok (Some free)) = number_of g Fd free ∷ []
known_new g (Ok None) = []
known_new g (Err stop) = []

few-new : (g : Geom) (r : Result (Option FreeItem) Stop) → length (known_new g r) ≤ 1
few-new g (Ok (Some free)) = omega arith
few-new g (Ok None) = omega arith
few-new g (Err stop) = omega arith

abbrev pub lock_list : Geom → ℕ → ℕ → SeenValue → Parts → List ℕ
lock_list g slot dir seen p = (dir ∷ []) ++ (map (λ m. 2048 + m) (firsts 16) ++ known_new g (free_item g slot seen p Fd))

abbrev pub sector_list : Geom → ℕ → ℕ → SeenValue → Parts → List ℕ
sector_list g slot dir seen p =
    dir_sectors g p dir ++ (map (λ m. clusters_at g + 2 * m + 1) (firsts 16) ++ map (λ n. place_sector g (places.Body n)) (known_new g (free_item g slot seen p Fd)))

new-listed : (g : Geom) (r : Result (Option FreeItem) Stop) (free : FreeItem) → r ≡ Ok (Some free) → list_any (nat_eq (number_of g Fd free)) (known_new g r) ≡ true
new-listed g r free is = ap (λ r. list_any (nat_eq (number_of g Fd free)) (known_new g r)) is ∙ or-left (nat_eq (number_of g Fd free) (number_of g Fd free)) false (nat_eq_equiv.refl (number_of g Fd free))

-- the numbers of the clusters' locks, and of their bitmaps' sectors
abbrev cluster_locks : List ℕ
cluster_locks = map (λ m. 2048 + m) (firsts 16)

abbrev bitmap_at : Geom → ℕ → ℕ
bitmap_at g m = clusters_at g + 2 * m + 1

abbrev bodies_known : Geom → ℕ → SeenValue → Parts → List ℕ
bodies_known g slot seen p = map (λ n. place_sector g (places.Body n)) (known_new g (free_item g slot seen p Fd))

pub in-lock_list : (g : Geom) (slot dir : ℕ) (seen : SeenValue) (p : Parts) (k : ℕ) → MayHold g slot dir seen p k → list_any (nat_eq k) (lock_list g slot dir seen p) ≡ true
in-lock_list g slot dir seen p _ the_dir =
    in-front dir (dir ∷ []) (cluster_locks ++ known_new g (free_item g slot seen p Fd)) (or-left (nat_eq dir dir) false (nat_eq_equiv.refl dir))
in-lock_list g slot dir seen p _ (a_cluster m l) =
    behind (2048 + m) (dir ∷ []) (cluster_locks ++ known_new g (free_item g slot seen p Fd))
    (in-front (2048 + m) cluster_locks (known_new g (free_item g slot seen p Fd)) (in-mapped (λ m. 2048 + m) m (firsts 16) (in-firsts m 16 l)))
in-lock_list g slot dir seen p _ (the_new free is) =
    behind (number_of g Fd free) (dir ∷ []) (cluster_locks ++ known_new g (free_item g slot seen p Fd))
    (behind (number_of g Fd free) cluster_locks (known_new g (free_item g slot seen p Fd)) (new-listed g (free_item g slot seen p Fd) free is))

pub in-sector_list : (g : Geom) (slot dir : ℕ) (seen : SeenValue) (p : Parts) (k : ℕ) → MayRead g slot dir seen p k → list_any (nat_eq k) (sector_list g slot dir seen p) ≡ true
in-sector_list g slot dir seen p _ (of_dir at any) = in-front at (dir_sectors g p dir) (map (bitmap_at g) (firsts 16) ++ bodies_known g slot seen p) any
in-sector_list g slot dir seen p _ (of_cluster m l) =
    behind (bitmap_at g m) (dir_sectors g p dir) (map (bitmap_at g) (firsts 16) ++ bodies_known g slot seen p)
    (in-front (bitmap_at g m) (map (bitmap_at g) (firsts 16)) (bodies_known g slot seen p) (in-mapped (bitmap_at g) m (firsts 16) (in-firsts m 16 l)))
in-sector_list g slot dir seen p _ (of_new free is) =
    let f : ℕ → ℕ = λ n. place_sector g (places.Body n) in
    let n = number_of g Fd free in
    behind (f n) (dir_sectors g p dir) (map (bitmap_at g) (firsts 16) ++ bodies_known g slot seen p)
    (behind (f n) (map (bitmap_at g) (firsts 16)) (bodies_known g slot seen p)
    (in-mapped f n (known_new g (free_item g slot seen p Fd)) (new-listed g (free_item g slot seen p Fd) free is)))

pub few_locks : (g : Geom) (slot dir : ℕ) (seen : SeenValue) (p : Parts) → length (lock_list g slot dir seen p) ≤ 22
few_locks g slot dir seen p =
    let new = known_new g (free_item g slot seen p Fd) in
    omega (arith, length-append (map (λ m. 2048 + m) (firsts 16)) new, length-map (firsts 16) (λ m. 2048 + m), length-firsts 16, few-new g (free_item g slot seen p Fd))

pub few_sectors : (g : Geom) (slot dir : ℕ) (seen : SeenValue) (p : Parts) → ReadsParts g (look_of seen) p → length (sector_list g slot dir seen p) ≤ 255
few_sectors g slot dir seen p reads =
    let new = known_new g (free_item g slot seen p Fd) in
    let maps = map (λ m. clusters_at g + 2 * m + 1) (firsts 16) in
    let bodies = map (λ n. place_sector g (places.Body n)) new in
    let subs = subs_of (part_at p.bodies dir) in
    omega (
      arith,
      length-append (dir_sectors g p dir) (maps ++ bodies),
      length-append maps bodies,
      length-map (firsts 16) (λ m. clusters_at g + 2 * m + 1),
      length-firsts 16,
      length-map new (λ n. place_sector g (places.Body n)),
      few-new g (free_item g slot seen p Fd),
      length-map subs (λ n. place_sector g (places.SubBlock n)),
      few_subs g (look_of seen) p dir (part_at p.bodies dir) reads refl,
    )
