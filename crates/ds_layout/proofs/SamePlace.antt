-- A volume is runs of items of so many sectors each, one after another; so each sector is that of one place.
use Rattle.std.proofs.Common.{◌≡◌, ℕ, zero, suc, ◌+◌, ◌*◌, ◌<◌, ◌≤◌, inl, inr, nat_lt, true, List, [], ◌∷◌, Option, Some, None, MatchOption, refl, sym, ap, ◌∙◌, arith}
use Rattle.std.proofs.lemmas.Bool.Decides.{nat_tests}
use Rattle.ds_base.specs.declared.geometry.Geom.{Geom}
use Rattle.ds_base.specs.declared.geometry.Kind.{Kind}
use Rattle.ds_base.specs.declared.geometry.Kind.TheVariants.{Fd, Sb, Pb, Fb}
use Rattle.ds_base.specs.Geometry.{IsGeom, clusters_of, items_of}
use Rattle.ds_layout.specs.Places.{descriptors_at, cluster_lock, header_sector, IsLock, IsPlace, place_sector, total_of}
use Rattle.ds_layout.specs.Regions.{HasBounds}
use Rattle.ds_layout.specs.declared.places.Place.{Place}
use Rattle.ds_layout.specs.declared.places.Place.TheVariants.{VolInfo, FsInfo, Slot, Journal, Header, Bitmap, Body, SubBlock, PtrBlock, Block}
use Rattle.ds_layout.proofs.Bounds.{bounds, block_within, header_of_cluster}

-- so many items of so many sectors each
data Run : Type 0 where
  run : ℕ → ℕ → Run

-- the sector j of item i of run k
abbrev sector_in : List Run → ℕ → ℕ → ℕ → ℕ
sector_in [] k i j = 0
sector_in (run count width ∷ rs) zero i j = width * i + j
sector_in (run count width ∷ rs) (suc k) i j = width * count + sector_in rs k i j

abbrev IsIn : List Run → ℕ → ℕ → ℕ → Type 0
IsIn [] k i j = ⊥
IsIn (run count width ∷ rs) zero i j = (i < count) × (j < width)
IsIn (run count width ∷ rs) (suc k) i j = IsIn rs k i j

abbrev size : List Run → ℕ
size [] = 0
size (run count width ∷ rs) = width * count + size rs

in_within : (rs : List Run) (k i j : ℕ) → IsIn rs k i j → sector_in rs k i j < size rs
in_within [] k i j h = absurd h
in_within (run count width ∷ rs) zero i j h = omega (arith, block_within width count i j h.0 h.1)
in_within (run count width ∷ rs) (suc k) i j h = omega (arith, in_within rs k i j h)

record Same (k l i m j n : ℕ) : Type 0 where
  run_same : k ≡ l
  item_same : i ≡ m
  part_same : j ≡ n

item_same : (width i m j n : ℕ) → j < width → n < width → width * i + j ≡ width * m + n → (i ≡ m) × (j ≡ n)
item_same width i m j n p q e =
    let not_below : i < m → m ≤ i = λ h. omega (arith, block_within width m i j h p) in
    let not_above : m < i → i ≤ m = λ h. omega (arith, block_within width i m n h q) in
    let same : i ≡ m = grind arith in
    let again : width * i + j ≡ width * i + n = e ∙ ap (λ x. width * x + n) (sym same) in
    (same, omega arith)

in_same : (rs : List Run) (k l i m j n : ℕ) → IsIn rs k i j → IsIn rs l m n → sector_in rs k i j ≡ sector_in rs l m n → Same k l i m j n
in_same [] k l i m j n h g e = absurd h
in_same (run count width ∷ rs) zero zero i m j n h g e =
    let both = item_same width i m j n h.1 g.1 e in
    record { run_same = refl; item_same = both.0; part_same = both.1 }
in_same (run count width ∷ rs) zero (suc l) i m j n h g e = absurd (omega (arith, block_within width count i j h.0 h.1))
in_same (run count width ∷ rs) (suc k) zero i m j n h g e = absurd (omega (arith, block_within width count m n g.0 g.1))
in_same (run count width ∷ rs) (suc k) (suc l) i m j n h g e =
    let rest : sector_in rs k i j ≡ sector_in rs l m n = omega arith in
    let same = in_same rs k l i m j n h g rest in
    record { run_same = ap suc same.run_same; item_same = same.item_same; part_same = same.part_same }

-- a volume, run by run
abbrev runs : Geom → List Run
runs g =
    run 1 1 ∷ run 1 1 ∷ run g.slots 1 ∷ run g.slots 32
    ∷ run (clusters_of g Fd) 2 ∷ run (clusters_of g Sb) 2 ∷ run (clusters_of g Pb) 2 ∷ run (clusters_of g Fb) 2
    ∷ run (items_of g Fd) 2 ∷ run (items_of g Sb) 1 ∷ run (items_of g Pb) 1 ∷ run (items_of g Fb) g.block ∷ []

-- what stands in a cluster
abbrev in_cluster : Kind → ℕ → ℕ → Place
in_cluster kind i zero = Header (cluster_lock kind i)
in_cluster kind i (suc _) = Bitmap kind i

-- what stands in a descriptor
abbrev in_descriptor : ℕ → ℕ → Place
in_descriptor i zero = Header i
in_descriptor i (suc _) = Body i

-- what stands in each run
abbrev in_run : ℕ → ℕ → ℕ → Place
in_run zero i j = VolInfo
in_run (suc zero) i j = FsInfo
in_run (suc (suc zero)) i j = Slot i
in_run (suc (suc (suc zero))) i j = Journal i j
in_run (suc (suc (suc (suc zero)))) i j = in_cluster Fd i j
in_run (suc (suc (suc (suc (suc zero))))) i j = in_cluster Sb i j
in_run (suc (suc (suc (suc (suc (suc zero)))))) i j = in_cluster Pb i j
in_run (suc (suc (suc (suc (suc (suc (suc zero))))))) i j = in_cluster Fb i j
in_run (suc (suc (suc (suc (suc (suc (suc (suc zero)))))))) i j = in_descriptor i j
in_run (suc (suc (suc (suc (suc (suc (suc (suc (suc zero))))))))) i j = SubBlock i
in_run (suc (suc (suc (suc (suc (suc (suc (suc (suc (suc zero)))))))))) i j = PtrBlock i
in_run (suc (suc (suc (suc (suc (suc (suc (suc (suc (suc (suc _))))))))))) i j = Block i j

-- where a place stands
record Stands (g : Geom) (p : Place) : Type 0 where
  run_number : ℕ
  item : ℕ
  part : ℕ
  is_in : IsIn (runs g) run_number item part
  here : place_sector g p ≡ sector_in (runs g) run_number item part
  again : in_run run_number item part ≡ p

descriptor_header : (g : Geom) (object : ℕ) → object < 2048 → header_sector g object ≡ descriptors_at g + 2 * object
descriptor_header g object h =
    let small : nat_lt object 2048 ≡ true = grind (arith, nat_tests) in
    rw small refl

cluster_stands : (g : Geom) (kind : Kind) (i : ℕ) → HasBounds g → i < clusters_of g kind → Stands g (Header (cluster_lock kind i))
cluster_stands g Fd i b h =
    let head = header_of_cluster g Fd i (cluster_lock Fd i) b h refl in
    record { run_number = 4; item = i; part = 0; is_in = (h, omega arith); here = head ∙ omega arith; again = refl }
cluster_stands g Sb i b h =
    let head = header_of_cluster g Sb i (cluster_lock Sb i) b h refl in
    record { run_number = 5; item = i; part = 0; is_in = (h, omega arith); here = head ∙ omega arith; again = refl }
cluster_stands g Pb i b h =
    let head = header_of_cluster g Pb i (cluster_lock Pb i) b h refl in
    record { run_number = 6; item = i; part = 0; is_in = (h, omega arith); here = head ∙ omega arith; again = refl }
cluster_stands g Fb i b h =
    let head = header_of_cluster g Fb i (cluster_lock Fb i) b h refl in
    record { run_number = 7; item = i; part = 0; is_in = (h, omega arith); here = head ∙ omega arith; again = refl }

bitmap_stands : (g : Geom) (kind : Kind) (i : ℕ) → i < clusters_of g kind → Stands g (Bitmap kind i)
bitmap_stands g Fd i h = record { run_number = 4; item = i; part = 1; is_in = (h, omega arith); here = omega arith; again = refl }
bitmap_stands g Sb i h = record { run_number = 5; item = i; part = 1; is_in = (h, omega arith); here = omega arith; again = refl }
bitmap_stands g Pb i h = record { run_number = 6; item = i; part = 1; is_in = (h, omega arith); here = omega arith; again = refl }
bitmap_stands g Fb i h = record { run_number = 7; item = i; part = 1; is_in = (h, omega arith); here = omega arith; again = refl }

header_stands : (g : Geom) (object : ℕ) → HasBounds g → IsLock g object → Stands g (Header object)
header_stands g object b (inl h) =
    let most : items_of g Fd ≤ 2048 = b.fd_items in
    let head = descriptor_header g object (omega arith) in
    record { run_number = 8; item = object; part = 0; is_in = (h, omega arith); here = head ∙ omega arith; again = refl }
header_stands g object b (inr h) = rw h.number (cluster_stands g h.kind h.cluster b h.within)

stands : (g : Geom) (p : Place) → HasBounds g → IsPlace g p → Stands g p
stands g VolInfo b h = record { run_number = 0; item = 0; part = 0; is_in = (omega arith, omega arith); here = refl; again = refl }
stands g FsInfo b h = record { run_number = 1; item = 0; part = 0; is_in = (omega arith, omega arith); here = refl; again = refl }
stands g (Slot i) b h = record { run_number = 2; item = i; part = 0; is_in = (h, omega arith); here = omega arith; again = refl }
stands g (Journal i j) b h = record { run_number = 3; item = i; part = j; is_in = h; here = omega arith; again = refl }
stands g (Header object) b h = header_stands g object b h
stands g (Bitmap kind i) b h = bitmap_stands g kind i h
stands g (Body i) b h = record { run_number = 8; item = i; part = 1; is_in = (h, omega arith); here = omega arith; again = refl }
stands g (SubBlock i) b h = record { run_number = 9; item = i; part = 0; is_in = (h, omega arith); here = omega arith; again = refl }
stands g (PtrBlock i) b h = record { run_number = 10; item = i; part = 0; is_in = (h, omega arith); here = omega arith; again = refl }
stands g (Block i j) b h = record { run_number = 11; item = i; part = j; is_in = h; here = omega arith; again = refl }

-- two places at one sector are one place
pub same_place : (g : Geom) (p q : Place) → IsGeom g → IsPlace g p → IsPlace g q → place_sector g p ≡ place_sector g q → p ≡ q
same_place g p q is h k e =
    let b = bounds g is in
    let a = stands g p b h in
    let c = stands g q b k in
    let same = in_same (runs g) a.run_number c.run_number a.item c.item a.part c.part a.is_in c.is_in (sym a.here ∙ e ∙ c.here) in
    let there : in_run a.run_number a.item a.part ≡ in_run c.run_number c.item c.part = rw (same.run_same, same.item_same, same.part_same) refl in
    sym a.again ∙ there ∙ c.again

-- the sectors of places are those of the volume
pub place_within : (g : Geom) (p : Place) → IsGeom g → IsPlace g p → place_sector g p < total_of g
place_within g p is h =
    let a = stands g p (bounds g is) h in
    let all : size (runs g) ≡ total_of g = omega arith in
    omega (arith, in_within (runs g) a.run_number a.item a.part a.is_in, a.here)

-- what is found at a place's sector is the place
pub only_place : (g : Geom) (at : ℕ) (r : Option Place) → IsGeom g → MatchOption r (total_of g ≤ at) (λ place. IsPlace g place × (place_sector g place ≡ at)) → (p : Place) → IsPlace g p → place_sector g p ≡ at → r ≡ Some p
only_place g at None is past p h e = absurd (omega (arith, place_within g p is h))
only_place g at (Some q) is found p h e = ap Some (same_place g q p is found.0 h (found.1 ∙ sym e))
