-- Which locks and sectors a planner of Resize comes to hold and read: few, and once that it may, always.
use Rattle.std.proofs.Common.{◌≡◌, ℕ, ◌+◌, ◌*◌, ◌<◌, ◌≤◌, true, false, nat_eq, List, [], ◌∷◌, ◌++◌, length, map, Option, None, Some, refl, sym, ap, subst, ◌∙◌, arith, length-append, length-take}
use Rattle.std.specs.List.{list_any}
use Rattle.std.proofs.lemmas.Bool.{false≢true}
use Rattle.std.proofs.lemmas.Cmp.{nat_eq_equiv}
use Rattle.std.proofs.lemmas.List.{length-map}
use Rattle.ds_base.specs.Geometry.{IsGeom, clusters_of, items_of}
use Rattle.ds_base.specs.declared.geometry.Geom.{Geom}
use Rattle.ds_base.specs.declared.geometry.GeomField.TheVariants.{Clusters}
use Rattle.ds_base.specs.declared.geometry.Kind.TheVariants.{Fd, Pb, Fb}
use Rattle.ds_base.specs.declared.names.NodeKind.{NodeKind}
use Rattle.ds_base.specs.declared.names.NodeKind.TheVariants as kinds
use Rattle.ds_fd.specs.Body.{IsBody}
use Rattle.ds_fd.specs.declared.body.Body.{Body}
use Rattle.ds_image_parts.specs.Looks.{Look}
use Rattle.ds_image_parts.specs.Objects.{ptrs_by, ptrs_of}
use Rattle.ds_image_parts.specs.Parts.{Parts, part_at}
use Rattle.ds_image_parts.specs.Readings.{ReadsParts}
use Rattle.ds_image.specs.SeenValues.{SeenValue, look_of}
use Rattle.ds_image.proofs.Spelling.Sizes.{body_is, part_within}
use Rattle.ds_layout.specs.Places.{cluster_lock, clusters_at, clusters_before, place_sector}
use Rattle.ds_layout.specs.declared.places.Place.TheVariants as places
use Rattle.ds_plan_base.proofs.Alike.{body_alike}
use Rattle.ds_plan_base.proofs.Growing.{Grows}
use Rattle.ds_plan_base.proofs.Limits.{firsts, length-firsts, or-left, in-front, behind, in-mapped, in-firsts}
use Rattle.ds_tree.specs.Counts.{pointer_blocks}

-- the file, and the clusters of pointer blocks and of file blocks
pub data MayHold (file : ℕ) (seen : SeenValue) (p : Parts) : ℕ → Type 0 where
  the_file : MayHold file seen p file
  a_cluster : (m : ℕ) → m < 16 → MayHold file seen p (2064 + m)

-- the file's body, the bitmaps of those clusters, and the file's pointer blocks
pub data MayRead (g : Geom) (file : ℕ) (seen : SeenValue) (p : Parts) : ℕ → Type 0 where
  of_file : MayRead g file seen p (place_sector g (places.Body file))
  of_cluster : (m : ℕ) → m < 16 → MayRead g file seen p (clusters_at g + 2 * (clusters_before g Pb + m) + 1)
  of_pointer : (n : ℕ) → list_any (nat_eq n) (ptrs_of (part_at p.bodies file)) ≡ true → MayRead g file seen p (place_sector g (places.PtrBlock n))

-- clusters of both kinds are among these
pub holds-pb : (g : Geom) (file : ℕ) (seen : SeenValue) (p : Parts) → IsGeom g → (c : ℕ) → c < clusters_of g Pb → MayHold file seen p (cluster_lock Pb c)
holds-pb g file seen p is c l =
    let small : c < 16 = omega (arith, l, (is (Clusters Pb)).1) in
    subst (MayHold file seen p) (let same : 2064 + c ≡ cluster_lock Pb c = omega arith in same) (a_cluster c small)

pub holds-fb : (g : Geom) (file : ℕ) (seen : SeenValue) (p : Parts) → IsGeom g → (c : ℕ) → c < clusters_of g Fb → MayHold file seen p (cluster_lock Fb c)
holds-fb g file seen p is c l =
    let small : 8 + c < 16 = omega (arith, l, (is (Clusters Fb)).1) in
    subst (MayHold file seen p) (let same : 2064 + (8 + c) ≡ cluster_lock Fb c = omega arith in same) (a_cluster (8 + c) small)

pub reads-pb : (g : Geom) (file : ℕ) (seen : SeenValue) (p : Parts) → IsGeom g → (c : ℕ) → c < clusters_of g Pb → MayRead g file seen p (place_sector g (places.Bitmap Pb c))
reads-pb g file seen p is c l = of_cluster c (omega (arith, l, (is (Clusters Pb)).1))

pub reads-fb : (g : Geom) (file : ℕ) (seen : SeenValue) (p : Parts) → IsGeom g → (c : ℕ) → c < clusters_of g Fb → MayRead g file seen p (place_sector g (places.Bitmap Fb c))
reads-fb g file seen p is c l =
    let small : clusters_of g Pb + c < 16 = omega (arith, l, (is (Clusters Fb)).1, (is (Clusters Pb)).1) in
    let place : clusters_before g Pb + (clusters_of g Pb + c) ≡ clusters_before g Fb + c = omega arith in
    subst (λ n. MayRead g file seen p (clusters_at g + 2 * n + 1)) place (of_cluster (clusters_of g Pb + c) small)

-- What was known stays known

pub holds-stay : (file : ℕ) (seen next : SeenValue) (p q : Parts) (object : ℕ) → MayHold file seen p object → MayHold file next q object
holds-stay file seen next p q _ the_file = the_file
holds-stay file seen next p q _ (a_cluster m l) = a_cluster m l

module _ (g : Geom) (file : ℕ) (seen next : SeenValue) (p q : Parts) (grows : Grows seen next) (reads : ReadsParts g (look_of seen) p) (reads' : ReadsParts g (look_of next) q) where
  pointer-stays : (n : ℕ) (r : Option Body) → part_at p.bodies file ≡ r → list_any (nat_eq n) (ptrs_of r) ≡ true → list_any (nat_eq n) (ptrs_of (part_at q.bodies file)) ≡ true
  pointer-stays n None is any = absurd (false≢true any)
  pointer-stays n (Some b) is any =
      let l : file < items_of g Fd = omega (arith, part_within p.bodies file b is, reads.bodies.len) in
      let here = ((reads.bodies.each file l b).0 is).2 in
      let there = grows.sectors (place_sector g (places.Body file)) here.0 here.1 in
      let same = body_alike g (look_of seen) (look_of next) p q file l (here.1 ∙ sym there) reads reads' in
      ap (λ (r : Option Body). list_any (nat_eq n) (ptrs_of r)) (sym same ∙ is) ∙ any

  pub reads-stay : (at : ℕ) → MayRead g file seen p at → MayRead g file next q at
  reads-stay _ of_file = of_file
  reads-stay _ (of_cluster m l) = of_cluster m l
  reads-stay _ (of_pointer n any) = of_pointer n (pointer-stays n (part_at p.bodies file) refl any)

-- The lists

abbrev cluster_locks : List ℕ
cluster_locks = map (λ m. 2064 + m) (firsts 16)

abbrev bitmap_at : Geom → ℕ → ℕ
bitmap_at g m = clusters_at g + 2 * (clusters_before g Pb + m) + 1

abbrev ptr_at : Geom → ℕ → ℕ
ptr_at g n = place_sector g (places.PtrBlock n)

abbrev pub lock_list : ℕ → SeenValue → Parts → List ℕ
lock_list file seen p = file ∷ map (λ m. 2064 + m) (firsts 16)

abbrev pub sector_list : Geom → ℕ → SeenValue → Parts → List ℕ
sector_list g file seen p =
    (place_sector g (places.Body file) ∷ [])
    ++ (map (λ m. clusters_at g + 2 * (clusters_before g Pb + m) + 1) (firsts 16) ++ map (λ n. place_sector g (places.PtrBlock n)) (ptrs_of (part_at p.bodies file)))

pub in-lock_list : (file : ℕ) (seen : SeenValue) (p : Parts) (k : ℕ) → MayHold file seen p k → list_any (nat_eq k) (lock_list file seen p) ≡ true
in-lock_list file seen p _ the_file = or-left (nat_eq file file) (list_any (nat_eq file) cluster_locks) (nat_eq_equiv.refl file)
in-lock_list file seen p _ (a_cluster m l) = behind (2064 + m) (file ∷ []) cluster_locks (in-mapped (λ m. 2064 + m) m (firsts 16) (in-firsts m 16 l))

pub in-sector_list : (g : Geom) (file : ℕ) (seen : SeenValue) (p : Parts) (k : ℕ) → MayRead g file seen p k → list_any (nat_eq k) (sector_list g file seen p) ≡ true
in-sector_list g file seen p _ of_file =
    let at = place_sector g (places.Body file) in
    in-front at (at ∷ []) (map (bitmap_at g) (firsts 16) ++ map (ptr_at g) (ptrs_of (part_at p.bodies file))) (or-left (nat_eq at at) false (nat_eq_equiv.refl at))
in-sector_list g file seen p _ (of_cluster m l) =
    behind (bitmap_at g m) (place_sector g (places.Body file) ∷ []) (map (bitmap_at g) (firsts 16) ++ map (ptr_at g) (ptrs_of (part_at p.bodies file)))
    (in-front (bitmap_at g m) (map (bitmap_at g) (firsts 16)) (map (ptr_at g) (ptrs_of (part_at p.bodies file))) (in-mapped (bitmap_at g) m (firsts 16) (in-firsts m 16 l)))
in-sector_list g file seen p _ (of_pointer n any) =
    behind (ptr_at g n) (place_sector g (places.Body file) ∷ []) (map (bitmap_at g) (firsts 16) ++ map (ptr_at g) (ptrs_of (part_at p.bodies file)))
    (behind (ptr_at g n) (map (bitmap_at g) (firsts 16)) (map (ptr_at g) (ptrs_of (part_at p.bodies file))) (in-mapped (ptr_at g) n (ptrs_of (part_at p.bodies file)) any))

few_ptrs-by : (b : Body) (kind : Option NodeKind) → IsBody b → b.kind ≡ kind → length (ptrs_by b kind) ≤ 96
few_ptrs-by b None is kind = omega arith
few_ptrs-by b (Some kinds.Dir) is kind = omega arith
few_ptrs-by b (Some kinds.File) is kind =
    omega (arith, length-take (pointer_blocks b.count) b.addresses, is.widths.address_count)

few_ptrs : (g : Geom) (look : Look) (p : Parts) (file : ℕ) (r : Option Body) → ReadsParts g look p → part_at p.bodies file ≡ r → length (ptrs_of r) ≤ 96
few_ptrs g look p file None reads is = omega arith
few_ptrs g look p file (Some b) reads is = few_ptrs-by b b.kind (body_is g look p file b reads is) refl

pub few_locks : (file : ℕ) (seen : SeenValue) (p : Parts) → length (lock_list file seen p) ≤ 22
few_locks file seen p = omega (arith, length-map (firsts 16) (λ m. 2064 + m), length-firsts 16)

pub few_sectors : (g : Geom) (file : ℕ) (seen : SeenValue) (p : Parts) → ReadsParts g (look_of seen) p → length (sector_list g file seen p) ≤ 255
few_sectors g file seen p reads =
    let ptrs = ptrs_of (part_at p.bodies file) in
    omega (
      arith,
      length-append (map (bitmap_at g) (firsts 16)) (map (ptr_at g) ptrs),
      length-map (firsts 16) (bitmap_at g),
      length-firsts 16,
      length-map ptrs (ptr_at g),
      few_ptrs g (look_of seen) p file (part_at p.bodies file) reads refl,
    )
