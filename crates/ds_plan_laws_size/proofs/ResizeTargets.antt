-- The sectors that are written to resize a file are metadata and stand in their order.
use Rattle.std.proofs.Common.{◌≡◌, ℕ, zero, suc, ◌+◌, ◌<◌, ◌≤◌, List, [], ◌∷◌, ◌++◌, length, map, slice_get, Some, refl, sym, ap, subst, ◌∙◌, length-append, arith}
use Rattle.std.specs.Prelude.{slice_index, slice_index_or}
use Rattle.std.specs.List.Sorted.{IsStrictlyIncreasing}
use Rattle.std.proofs.lemmas.List.{length-map, map-append}
use Rattle.ds_base.specs.Geometry.{clusters_of, items_of}
use Rattle.ds_base.specs.declared.geometry.Geom.{Geom}
use Rattle.ds_base.specs.declared.geometry.Kind.TheVariants.{Fd, Pb, Fb}
use Rattle.ds_bitmap.specs.Bits.{Bitmap}
use Rattle.ds_fd.specs.declared.body.Body.{Body}
use Rattle.ds_image.specs.Asking.{AreTargets, targets_of}
use Rattle.ds_layout.specs.Metadata.{IsMetadata}
use Rattle.ds_image_parts.specs.Pending.{Pair}
use Rattle.ds_layout.specs.Places.{place_sector, cluster_at, descriptors_at}
use Rattle.ds_layout.specs.declared.places.Place.TheVariants as places
use Rattle.ds_ptr.specs.declared.ptr_block.PtrBlock.{PtrBlock}
use Rattle.ds_plan_laws_size.specs.Ready.{resize_parts}
use Rattle.ds_plan_laws_size.specs.Written.{Written, MapPart, BodyPart, PtrPart, place_of, ArePairsOf, AreOnce}
use Rattle.ds_plan_laws_size.proofs.GuardedResizes.{all-targets, of-joined, of-mapped, of-first}

-- Numbers that rise, from one on

abbrev Rises : ℕ → List ℕ → Type 0
Rises low [] = Unit {0}
Rises low (x ∷ xs) = (low ≤ x) × Rises (suc x) xs

rises-below : (low lower : ℕ) (xs : List ℕ) → lower ≤ low → Rises low xs → Rises lower xs
rises-below low lower [] l rises = tt
rises-below low lower (x ∷ xs) l rises = (omega (arith, l, rises.0), rises.1)

rises-increasing : (low : ℕ) (xs : List ℕ) → Rises low xs → IsStrictlyIncreasing xs
rises-increasing low [] rises k l = absurd (omega (arith, l))
rises-increasing low (x ∷ []) rises k l = absurd (omega (arith, l))
rises-increasing low (x ∷ y ∷ xs) rises zero l = omega (arith, rises.1.0)
rises-increasing low (x ∷ y ∷ xs) rises (suc k) l =
    let next : suc k + 1 ≡ suc (k + 1) = omega arith in
    subst (λ j. slice_index (y ∷ xs) k < slice_index (x ∷ y ∷ xs) j) (sym next) (rises-increasing (suc x) (y ∷ xs) rises.1 k (omega (arith, l)))

-- the first of them says where they begin
increasing-rises : (low : ℕ) (xs : List ℕ) → IsStrictlyIncreasing xs → low ≤ slice_index_or xs 0 low → Rises low xs
increasing-rises low [] rises from = tt
increasing-rises low (x ∷ []) rises from = (from, tt)
increasing-rises low (x ∷ y ∷ xs) rises from = (from, increasing-rises (suc x) (y ∷ xs) tail (rises 0 (omega arith)))
  where
    tail : IsStrictlyIncreasing (y ∷ xs)
    tail k l =
        let next : suc k + 1 ≡ suc (k + 1) = omega arith in
        subst (λ j. slice_index (y ∷ xs) k < slice_index (x ∷ y ∷ xs) j) next (rises (suc k) (omega (arith, l)))

rises-joined : (low bound : ℕ) (xs ys : List ℕ) → low ≤ bound → ((i x : ℕ) → slice_get xs i ≡ Some x → x < bound) → Rises low xs → Rises bound ys → Rises low (xs ++ ys)
rises-joined low bound [] ys l below rises rest = rises-below bound low ys l rest
rises-joined low bound (x ∷ xs) ys l below rises rest =
    (rises.0, rises-joined (suc x) bound xs ys (below 0 x refl) (λ i y at. below (suc i) y at) rises.1 rest)

rises-least : (low : ℕ) (xs : List ℕ) → Rises low xs → (i x : ℕ) → slice_get xs i ≡ Some x → low ≤ x
rises-least low [] rises i x at = absurd (cc)
rises-least low (y ∷ ys) rises zero x at = let same : y ≡ x = cc in omega (arith, rises.0, same)
rises-least low (y ∷ ys) rises (suc i) x at = omega (arith, rises.0, rises-least (suc y) ys rises.1 i x at)

-- numbers that rise stand once
pub rising-once : {V : Type 0} (writes : List (ℕ × V)) → IsStrictlyIncreasing (map (λ (w : ℕ × V). w.0) writes) → AreOnce writes
rising-once {V} writes rises = once 0 writes (increasing-rises 0 (map (λ (w : ℕ × V). w.0) writes) rises (omega arith))
  where
    number-at : (xs : List (ℕ × V)) (i : ℕ) (w : ℕ × V) → slice_get xs i ≡ Some w → slice_get (map (λ (w : ℕ × V). w.0) xs) i ≡ Some w.0
    number-at [] i w at = absurd (cc)
    number-at (v ∷ xs) zero w at = let same : v ≡ w = cc in ap (λ (x : ℕ × V). Some x.0) same
    number-at (v ∷ xs) (suc i) w at = number-at xs i w at

    once : (low : ℕ) (xs : List (ℕ × V)) → Rises low (map (λ (w : ℕ × V). w.0) xs) → AreOnce xs
    once low [] rises i j x y one two same = absurd (cc)
    once low (v ∷ xs) rises zero zero x y one two same = refl
    once low (v ∷ xs) rises zero (suc j) x y one two same =
        let here : v ≡ x = cc in
        let number : v.0 ≡ x.0 = ap (λ (w : ℕ × V). w.0) here in
        absurd (omega (arith, number, same, rises-least (suc v.0) (map (λ (w : ℕ × V). w.0) xs) rises.1 j y.0 (number-at xs j y two)))
    once low (v ∷ xs) rises (suc i) zero x y one two same =
        let here : v ≡ y = cc in
        let number : v.0 ≡ y.0 = ap (λ (w : ℕ × V). w.0) here in
        absurd (omega (arith, number, same, rises-least (suc v.0) (map (λ (w : ℕ × V). w.0) xs) rises.1 i x.0 (number-at xs i x one)))
    once low (v ∷ xs) rises (suc i) (suc j) x y one two same = ap suc (once (suc v.0) xs rises.1 i j x y one two same)

-- numbers of parts of one kind give sectors in the same order
sectors-rise : {V : Type 0} (f : ℕ → ℕ) → ((a b : ℕ) → a < b → f a < f b) → (low : ℕ) (writes : List (ℕ × V)) → Rises low (map (λ (w : ℕ × V). w.0) writes)
    → (start : ℕ) → ((a : ℕ) → low ≤ a → start ≤ f a) → Rises start (map (λ (w : ℕ × V). f w.0) writes)
sectors-rise f rises-f low [] rises start from = tt
sectors-rise f rises-f low (w ∷ writes) rises start from =
    (from w.0 rises.0, sectors-rise f rises-f (suc w.0) writes rises.1 (suc (f w.0)) (λ a above. rises-f w.0 a above))

targets-are : (g : Geom) (pairs : List Pair) (parts : List Written) → ArePairsOf g pairs parts → targets_of pairs ≡ map (λ part. place_sector g (place_of part)) parts
targets-are g [] [] are = refl
targets-are g [] (part ∷ parts) are = absurd are
targets-are g (pair ∷ pairs) [] are = absurd are
targets-are g (pair ∷ pairs) (part ∷ parts) are = λ i. are.0.target i ∷ targets-are g pairs parts are.1 i

fused : {X Y Z : Type 0} (f : Y → Z) (h : X → Y) (xs : List X) → map f (map h xs) ≡ map (λ x. f (h x)) xs
fused f h [] = refl
fused f h (x ∷ xs) = ap (λ l. f (h x) ∷ l) (fused f h xs)

mapped-below : {X : Type 0} (f : X → ℕ) (bound : ℕ) (xs : List X) → ((i : ℕ) (x : X) → slice_get xs i ≡ Some x → f x < bound)
    → (i n : ℕ) → slice_get (map f xs) i ≡ Some n → n < bound
mapped-below f bound [] each i n at = absurd (cc)
mapped-below f bound (x ∷ xs) each zero n at = let same : f x ≡ n = cc in omega (arith, each 0 x refl, same)
mapped-below f bound (x ∷ xs) each (suc i) n at = mapped-below f bound xs (λ j y at. each (suc j) y at) i n at

module _ (g : Geom) (o : ℕ) (b' : Body) (pb_maps fb_maps : List (ℕ × Bitmap)) (ptrs : List (ℕ × PtrBlock)) (pairs : List Pair)
    (are : ArePairsOf g pairs (resize_parts o b' pb_maps fb_maps ptrs))
    (object : o < items_of g Fd)
    (pb_within : (i : ℕ) (m : ℕ × Bitmap) → slice_get pb_maps i ≡ Some m → m.0 < clusters_of g Pb)
    (fb_within : (i : ℕ) (m : ℕ × Bitmap) → slice_get fb_maps i ≡ Some m → m.0 < clusters_of g Fb)
    (ptr_within : (i : ℕ) (x : ℕ × PtrBlock) → slice_get ptrs i ≡ Some x → x.0 < items_of g Pb) where
  abbrev pbs : List ℕ
  pbs = map (λ (m : ℕ × Bitmap). place_sector g (places.Bitmap Pb m.0)) pb_maps

  abbrev fbs : List ℕ
  fbs = map (λ (m : ℕ × Bitmap). place_sector g (places.Bitmap Fb m.0)) fb_maps

  abbrev rest : List ℕ
  rest = map (λ (x : ℕ × PtrBlock). place_sector g (places.PtrBlock x.0)) ptrs

  abbrev sector : Written → ℕ
  sector part = place_sector g (place_of part)

  targets-joined : targets_of pairs ≡ pbs ++ (fbs ++ (place_sector g (places.Body o) ∷ rest))
  targets-joined =
      let a = map (λ (m : ℕ × Bitmap). MapPart Pb m.0 m.1) pb_maps in
      let b = map (λ (m : ℕ × Bitmap). MapPart Fb m.0 m.1) fb_maps in
      let c = map (λ (x : ℕ × PtrBlock). PtrPart x.0 x.1) ptrs in
      let one : map sector a ≡ pbs = fused sector (λ (m : ℕ × Bitmap). MapPart Pb m.0 m.1) pb_maps in
      let two : map sector b ≡ fbs = fused sector (λ (m : ℕ × Bitmap). MapPart Fb m.0 m.1) fb_maps in
      let three : map sector c ≡ rest = fused sector (λ (x : ℕ × PtrBlock). PtrPart x.0 x.1) ptrs in
      targets-are g pairs (resize_parts o b' pb_maps fb_maps ptrs) are
      ∙ map-append sector a (b ++ (BodyPart o b' ∷ c)) ∙ ap (λ l. map sector a ++ l) (map-append sector b (BodyPart o b' ∷ c))
      ∙ (λ i. one i ++ (two i ++ (place_sector g (places.Body o) ∷ three i)))

  rises-all : IsStrictlyIncreasing (map (λ (m : ℕ × Bitmap). m.0) pb_maps) → IsStrictlyIncreasing (map (λ (m : ℕ × Bitmap). m.0) fb_maps)
      → IsStrictlyIncreasing (map (λ (x : ℕ × PtrBlock). x.0) ptrs) → Rises 0 (pbs ++ (fbs ++ (place_sector g (places.Body o) ∷ rest)))
  rises-all pb_rise fb_rise ptr_rise =
      let from-fb : ℕ = cluster_at g Fb 0 in
      let from-body : ℕ = descriptors_at g in
      rises-joined 0 from-fb pbs (fbs ++ (place_sector g (places.Body o) ∷ rest)) (omega arith)
      (mapped-below (λ (m : ℕ × Bitmap). place_sector g (places.Bitmap Pb m.0)) from-fb pb_maps (λ i m at. let low = pb_within i m at in omega (arith, low)))
      (sectors-rise (λ c. place_sector g (places.Bitmap Pb c)) (λ a b below. omega (arith, below)) 0 pb_maps
      (increasing-rises 0 (map (λ (m : ℕ × Bitmap). m.0) pb_maps) pb_rise (omega arith)) 0 (λ a _. omega arith))
      (rises-joined from-fb from-body fbs (place_sector g (places.Body o) ∷ rest) (omega arith)
      (mapped-below (λ (m : ℕ × Bitmap). place_sector g (places.Bitmap Fb m.0)) from-body fb_maps (λ i m at. let low = fb_within i m at in omega (arith, low)))
      (sectors-rise (λ c. place_sector g (places.Bitmap Fb c)) (λ a b below. omega (arith, below)) 0 fb_maps
      (increasing-rises 0 (map (λ (m : ℕ × Bitmap). m.0) fb_maps) fb_rise (omega arith)) from-fb (λ a _. omega arith)) (
        omega arith,
        sectors-rise (λ n. place_sector g (places.PtrBlock n)) (λ a b below. omega (arith, below)) 0 ptrs
            (increasing-rises 0 (map (λ (x : ℕ × PtrBlock). x.0) ptrs) ptr_rise (omega arith)) (suc (place_sector g (places.Body o))) (λ a _. omega (arith, object)),
      ))

  -- so they are targets of a redo, where they are few enough
  pub resize-targets : IsStrictlyIncreasing (map (λ (m : ℕ × Bitmap). m.0) pb_maps) → IsStrictlyIncreasing (map (λ (m : ℕ × Bitmap). m.0) fb_maps)
      → IsStrictlyIncreasing (map (λ (x : ℕ × PtrBlock). x.0) ptrs) → length pb_maps + length fb_maps + length ptrs ≤ 30 → AreTargets g (targets_of pairs)
  resize-targets pb_rise fb_rise ptr_rise few =
      let count : length (targets_of pairs) ≡ length pb_maps + (length fb_maps + suc (length ptrs)) =
      ap length targets-joined ∙ omega (
        arith,
        length-append pbs (fbs ++ (place_sector g (places.Body o) ∷ rest)),
        length-append fbs (place_sector g (places.Body o) ∷ rest),
        length-map pb_maps (λ (m : ℕ × Bitmap). place_sector g (places.Bitmap Pb m.0)),
        length-map fb_maps (λ (m : ℕ × Bitmap). place_sector g (places.Bitmap Fb m.0)),
        length-map ptrs (λ (x : ℕ × PtrBlock). place_sector g (places.PtrBlock x.0)),
      ) in
      let Is = IsMetadata g in
      let a = map (λ (m : ℕ × Bitmap). MapPart Pb m.0 m.1) pb_maps in
      let b = map (λ (m : ℕ × Bitmap). MapPart Fb m.0 m.1) fb_maps in
      let c = map (λ (x : ℕ × PtrBlock). PtrPart x.0 x.1) ptrs in
      record {
        some = omega (arith, count);
        most = omega (arith, count, few);
        rising = subst IsStrictlyIncreasing (sym targets-joined)
            (rises-increasing 0 (pbs ++ (fbs ++ (place_sector g (places.Body o) ∷ rest))) (rises-all pb_rise fb_rise ptr_rise));
        metadata = all-targets g Is pairs (resize_parts o b' pb_maps fb_maps ptrs) are
            (of-joined g Is a (b ++ (BodyPart o b' ∷ c))
            (of-mapped g Is (λ (m : ℕ × Bitmap). MapPart Pb m.0 m.1) pb_maps
            (λ i m at. record { place = places.Bitmap Pb m.0; is_place = pb_within i m at; here = refl; kept = refl }))
            (of-joined g Is b (BodyPart o b' ∷ c)
            (of-mapped g Is (λ (m : ℕ × Bitmap). MapPart Fb m.0 m.1) fb_maps
            (λ i m at. record { place = places.Bitmap Fb m.0; is_place = fb_within i m at; here = refl; kept = refl }))
            (of-first g Is (BodyPart o b') c (record { place = places.Body o; is_place = object; here = refl; kept = refl })
            (of-mapped g Is (λ (x : ℕ × PtrBlock). PtrPart x.0 x.1) ptrs
            (λ i x at. record { place = places.PtrBlock x.0; is_place = ptr_within i x at; here = refl; kept = refl })))));
      }
