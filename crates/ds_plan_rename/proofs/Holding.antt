-- Which locks and sectors the planner of Rename comes to hold and read: few, and once that it may, always.
use Rattle.std.proofs.Common.{◌≡◌, ℕ, ◌<◌, ◌≤◌, true, false, nat_eq, List, [], ◌∷◌, ◌++◌, length, map, refl, arith, length-append}
use Rattle.std.specs.List.{list_any}
use Rattle.std.proofs.lemmas.Cmp.{nat_eq_equiv}
use Rattle.std.proofs.lemmas.List.{length-map}
use Rattle.ds_base.specs.declared.geometry.Geom.{Geom}
use Rattle.ds_base.specs.declared.geometry.Kind.TheVariants.{Sb}
use Rattle.ds_image_parts.specs.Objects.{subs_of}
use Rattle.ds_image_parts.specs.Parts.{Parts, part_at}
use Rattle.ds_image_parts.specs.Readings.{ReadsParts}
use Rattle.ds_image.specs.SeenValues.{SeenValue, look_of}
use Rattle.ds_layout.specs.Places.{cluster_lock, place_sector}
use Rattle.ds_layout.specs.declared.places.Place.TheVariants as places
use Rattle.ds_plan_base.proofs.DirAsks.{dir_sectors}
use Rattle.ds_plan_base.proofs.Growing.{Grows}
use Rattle.ds_plan_base.proofs.Limits.{dir-stays, firsts, length-firsts, or-left, in-front, behind, in-mapped, in-firsts, few_subs}

-- both directories, and the clusters of sub-blocks
pub data MayHold (dir to : ℕ) (seen : SeenValue) (p : Parts) : ℕ → Type 0 where
  the_dir : MayHold dir to seen p dir
  the_other : MayHold dir to seen p to
  a_cluster : (c : ℕ) → c < 8 → MayHold dir to seen p (cluster_lock Sb c)

-- the sectors of both directories, and the bitmaps of those clusters
pub data MayRead (g : Geom) (dir to : ℕ) (seen : SeenValue) (p : Parts) : ℕ → Type 0 where
  of_dir : (at : ℕ) → list_any (nat_eq at) (dir_sectors g p dir) ≡ true → MayRead g dir to seen p at
  of_other : (at : ℕ) → list_any (nat_eq at) (dir_sectors g p to) ≡ true → MayRead g dir to seen p at
  of_cluster : (c : ℕ) → c < 8 → MayRead g dir to seen p (place_sector g (places.Bitmap Sb c))

pub holds-stay : (dir to : ℕ) (seen next : SeenValue) (p q : Parts) (object : ℕ) → MayHold dir to seen p object → MayHold dir to next q object
holds-stay dir to seen next p q _ the_dir = the_dir
holds-stay dir to seen next p q _ the_other = the_other
holds-stay dir to seen next p q _ (a_cluster c l) = a_cluster c l

pub reads-stay : (g : Geom) (dir to : ℕ) (seen next : SeenValue) (p q : Parts) → Grows seen next → ReadsParts g (look_of seen) p → ReadsParts g (look_of next) q
    → (at : ℕ) → MayRead g dir to seen p at → MayRead g dir to next q at
reads-stay g dir to seen next p q grows reads reads' _ (of_dir at any) = of_dir at (dir-stays g seen next p q grows reads reads' dir at any)
reads-stay g dir to seen next p q grows reads reads' _ (of_other at any) = of_other at (dir-stays g seen next p q grows reads reads' to at any)
reads-stay g dir to seen next p q grows reads reads' _ (of_cluster c l) = of_cluster c l

-- The lists

abbrev cluster_locks : List ℕ
cluster_locks = map (λ c. cluster_lock Sb c) (firsts 8)

abbrev bitmaps : Geom → List ℕ
bitmaps g = map (λ c. place_sector g (places.Bitmap Sb c)) (firsts 8)

abbrev pub lock_list : ℕ → ℕ → SeenValue → Parts → List ℕ
lock_list dir to seen p = (dir ∷ to ∷ []) ++ map (λ c. cluster_lock Sb c) (firsts 8)

abbrev pub sector_list : Geom → ℕ → ℕ → SeenValue → Parts → List ℕ
sector_list g dir to seen p = dir_sectors g p dir ++ (dir_sectors g p to ++ map (λ c. place_sector g (places.Bitmap Sb c)) (firsts 8))

pub in-lock_list : (dir to : ℕ) (seen : SeenValue) (p : Parts) (k : ℕ) → MayHold dir to seen p k → list_any (nat_eq k) (lock_list dir to seen p) ≡ true
in-lock_list dir to seen p _ the_dir =
    in-front dir (dir ∷ to ∷ []) cluster_locks (or-left (nat_eq dir dir) (list_any (nat_eq dir) (to ∷ [])) (nat_eq_equiv.refl dir))
in-lock_list dir to seen p _ the_other =
    in-front to (dir ∷ to ∷ []) cluster_locks
    (behind to (dir ∷ []) (to ∷ []) (or-left (nat_eq to to) false (nat_eq_equiv.refl to)))
in-lock_list dir to seen p _ (a_cluster c l) =
    behind (cluster_lock Sb c) (dir ∷ to ∷ []) cluster_locks (in-mapped (λ c. cluster_lock Sb c) c (firsts 8) (in-firsts c 8 l))

pub in-sector_list : (g : Geom) (dir to : ℕ) (seen : SeenValue) (p : Parts) (k : ℕ) → MayRead g dir to seen p k → list_any (nat_eq k) (sector_list g dir to seen p) ≡ true
in-sector_list g dir to seen p _ (of_dir at any) = in-front at (dir_sectors g p dir) (dir_sectors g p to ++ bitmaps g) any
in-sector_list g dir to seen p _ (of_other at any) =
    behind at (dir_sectors g p dir) (dir_sectors g p to ++ bitmaps g) (in-front at (dir_sectors g p to) (bitmaps g) any)
in-sector_list g dir to seen p _ (of_cluster c l) =
    let f : ℕ → ℕ = λ c. place_sector g (places.Bitmap Sb c) in
    behind (f c) (dir_sectors g p dir) (dir_sectors g p to ++ bitmaps g)
    (behind (f c) (dir_sectors g p to) (bitmaps g) (in-mapped f c (firsts 8) (in-firsts c 8 l)))

pub few_locks : (dir to : ℕ) (seen : SeenValue) (p : Parts) → length (lock_list dir to seen p) ≤ 22
few_locks dir to seen p =
    omega (arith, length-append (dir ∷ to ∷ []) cluster_locks, length-map (firsts 8) (λ c. cluster_lock Sb c), length-firsts 8)

pub few_sectors : (g : Geom) (dir to : ℕ) (seen : SeenValue) (p : Parts) → ReadsParts g (look_of seen) p → length (sector_list g dir to seen p) ≤ 255
few_sectors g dir to seen p reads =
    let subs = subs_of (part_at p.bodies dir) in
    let others = subs_of (part_at p.bodies to) in
    let at : ℕ → ℕ = λ n. place_sector g (places.SubBlock n) in
    omega (
      arith,
      length-append (dir_sectors g p dir) (dir_sectors g p to ++ bitmaps g),
      length-append (dir_sectors g p to) (bitmaps g),
      length-map (firsts 8) (λ c. place_sector g (places.Bitmap Sb c)),
      length-firsts 8,
      length-map subs at,
      length-map others at,
      few_subs g (look_of seen) p dir (part_at p.bodies dir) reads refl,
      few_subs g (look_of seen) p to (part_at p.bodies to) reads refl,
    )
