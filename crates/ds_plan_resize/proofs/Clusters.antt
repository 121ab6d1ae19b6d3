-- The clusters that are left, one after another.
use Rattle.std.proofs.Common.{◌≡◌, ℕ, zero, suc, ◌+◌, ◌-◌, ◌*◌, ◌<◌, ◌≤◌, ◌==◌, inl, inr, true, false, nat_le, Some, List, [], ◌∷◌, ◌++◌, length, map, refl, sym, ap, subst, ◌∙◌, length-append, slice_get, arith}
use Rattle.std.specs.Prelude.{Result, Ok, Err, slice_index}
use Rattle.std.proofs.lemmas.Bool.{cases_lt, false≢true}
use Rattle.std.proofs.Math.Nat.{mul-le-mul_right}
use Rattle.std.proofs.lemmas.Bool.Decides.{nat_tests}
use Rattle.std.proofs.lemmas.List.{length-map, get_or_append_left, get_or-append_right, get_or-map}
use Rattle.std.proofs.lemmas.Nat.{mul-add-lt}
use Rattle.std.proofs.lemmas.Option.{slice_get-get_or, slice_get_within}
use Rattle.ds_base.specs.Geometry.{IsGeom, clusters_of, items_of, per_cluster}
use Rattle.ds_base.specs.declared.geometry.Geom.{Geom}
use Rattle.ds_base.specs.declared.geometry.GeomField.TheVariants.{Items}
use Rattle.ds_base.specs.declared.geometry.Kind.{Kind}
use Rattle.ds_base.specs.declared.geometry.Kind.TheVariants.{Fd, Sb, Pb, Fb}
use Rattle.ds_bitmap.specs.Bits.{Bitmap, IsBits}
use Rattle.ds_image_tables.specs.Owned.{CanMark}
use Rattle.ds_image_parts.specs.Parts.{Parts}
use Rattle.ds_image.specs.SeenValues.{SeenValue}
use Rattle.ds_layout.proofs.Bounds.{most_items_of}
use Rattle.ds_plan_base.specs.Items.{map_seen}
use Rattle.ds_image.specs.Locks.{cluster_tried}
use Rattle.ds_plan_base.specs.Steps.{after}
use Rattle.ds_plan_base.specs.declared.stops.Ending.TheVariants as endings
use Rattle.ds_plan_base.specs.declared.stops.Stop.{Stop}
use Rattle.ds_plan_base.specs.declared.stops.Stop.TheVariants.{Done}
use Rattle.ds_plan_resize.specs.Blocks.{AreItems}
use Rattle.ds_plan_resize.specs.Taking.{items_from, lowest_clear, map_marked, map_pair, taken_more}
use Rattle.ds_plan_resize.specs.declared.taking.Taken.{Taken}

module _ (g : Geom) (slot : ℕ) (seen : SeenValue) (p : Parts) (kind : Kind) (count : ℕ) (taken : Taken) where
  abbrev numbers : ℕ
  numbers = length taken.numbers.items

  abbrev left : ℕ → Result Taken Stop
  left tried = items_from g slot seen p kind count taken tried (clusters_of g kind - tried)

  -- where enough are taken no more clusters are tried
  pub items-enough : (tried n : ℕ) → count ≤ numbers → items_from g slot seen p kind count taken tried n ≡ Ok taken
  items-enough tried n enough = by n (let test : nat_le count numbers ≡ true = grind (arith, nat_tests, enough) in test)
    where
      by : (n : ℕ) → nat_le count numbers ≡ true → items_from g slot seen p kind count taken tried n ≡ Ok taken
      by zero test = rw test refl
      by (suc n) test = rw test refl

  -- where all were tried there is no space
  pub items-none : (tried : ℕ) → numbers < count → clusters_of g kind ≤ tried → left tried ≡ Err (Done (endings.NoSpace kind))
  items-none tried few all =
      let none : clusters_of g kind - tried ≡ 0 = omega (arith, all) in
      let test : nat_le count numbers ≡ false = grind (arith, nat_tests, few) in
      ap (items_from g slot seen p kind count taken tried) none ∙ (rw test refl)

  module _ (tried cluster : ℕ) (few : numbers < count) (l : tried < clusters_of g kind) (here : cluster ≡ cluster_tried g slot kind tried) where
    abbrev next : Bitmap → Result Taken Stop
    next map = items_from g slot seen p kind count
        (taken_more g kind (cluster_tried g slot kind tried) map (lowest_clear (count - numbers) map.used) taken) (suc tried) (clusters_of g kind - suc tried)

    items-step : left tried ≡ after (map_seen g seen p kind (cluster_tried g slot kind tried)) next
    items-step =
        let more : clusters_of g kind - tried ≡ suc (clusters_of g kind - suc tried) = omega (arith, l) in
        let test : nat_le count numbers ≡ false = grind (arith, nat_tests, few) in
        ap (items_from g slot seen p kind count taken tried) more ∙ (rw test refl)

    pub items-err : (stop : Stop) → map_seen g seen p kind cluster ≡ Err stop → left tried ≡ Err stop
    items-err ask is = items-step ∙ ap (λ r. after r next) (ap (map_seen g seen p kind) (sym here) ∙ is)

    pub items-more : (map : Bitmap) → map_seen g seen p kind cluster ≡ Ok map
        → left tried ≡ items_from g slot seen p kind count (taken_more g kind cluster map (lowest_clear (count - numbers) map.used) taken) (tried + 1) (clusters_of g kind - (tried + 1))
    items-more map is =
        let one : suc tried ≡ tried + 1 = omega arith in
        items-step ∙ ap (λ r. after r next) (ap (map_seen g seen p kind) (sym here) ∙ is)
        ∙ ap (λ c. items_from g slot seen p kind count (taken_more g kind c map (lowest_clear (count - numbers) map.used) taken) (suc tried) (clusters_of g kind - suc tried)) (sym here)
        ∙ ap (λ t. items_from g slot seen p kind count (taken_more g kind cluster map (lowest_clear (count - numbers) map.used) taken) t (clusters_of g kind - t)) one

-- What is taken with one cluster more

pub more-maps : (g : Geom) (kind : Kind) (cluster : ℕ) (map_before : Bitmap) (items : List ℕ) (taken : Taken)
    → length (taken_more g kind cluster map_before items taken).maps.items ≤ length taken.maps.items + 1
more-maps g kind cluster map_before [] taken = omega arith
more-maps g kind cluster map_before (x ∷ items) taken =
    omega (arith, length-append taken.maps.items (map_pair g kind cluster (map_marked map_before (x ∷ items)) ∷ []))

pub more-numbers : (g : Geom) (kind : Kind) (cluster : ℕ) (map_before : Bitmap) (items : List ℕ) (taken : Taken)
    → length (taken_more g kind cluster map_before items taken).numbers.items ≡ length taken.numbers.items + length items
more-numbers g kind cluster map_before [] taken = omega arith
more-numbers g kind cluster map_before (x ∷ items) taken =
    omega (
      arith,
      length-append taken.numbers.items (map (λ item. cluster * per_cluster g kind + item) (x ∷ items)),
      length-map (x ∷ items) (λ item. cluster * per_cluster g kind + item),
    )

-- they are items of the volume
pub joined-items : (g : Geom) (kind : Kind) (xs ys : List ℕ) → AreItems g kind xs → AreItems g kind ys → AreItems g kind (xs ++ ys)
joined-items g kind xs ys one two i l = elim (cases_lt i (length xs)) [
  | inl front ↦ subst (λ n. n < items_of g kind) (sym (get_or_append_left xs ys 0 i front)) (one i front)
  | inr back ↦
      subst (λ n. n < items_of g kind) (sym (get_or-append_right xs ys (length xs) i 0 refl back))
      (two (i - length xs) (omega (arith, l, back, length-append xs ys)))
]

pub mapped-items : (g : Geom) (kind : Kind) (cluster : ℕ) (items : List ℕ) → cluster < clusters_of g kind → ((i x : ℕ) → slice_get items i ≡ Some x → x < per_cluster g kind)
    → AreItems g kind (map (λ item. cluster * per_cluster g kind + item) items)
mapped-items g kind cluster items inside small i l =
    let within : i < length items = omega (arith, l, length-map items (λ item. cluster * per_cluster g kind + item)) in
    let x : ℕ = slice_index items i in
    let less : x < per_cluster g kind = small i x (slice_get-get_or items i 0 within) in
    subst (λ n. n < items_of g kind) (sym (get_or-map (λ item. cluster * per_cluster g kind + item) items i 0 0 within))
    (omega (arith, mul-add-lt cluster (per_cluster g kind) x (clusters_of g kind) inside less))

pub more-items : (g : Geom) (kind : Kind) (cluster : ℕ) (map_before : Bitmap) (items : List ℕ) (taken : Taken) → cluster < clusters_of g kind
    → length map_before.used ≡ per_cluster g kind → CanMark map_before.used items → AreItems g kind taken.numbers.items
    → AreItems g kind (taken_more g kind cluster map_before items taken).numbers.items
more-items g kind cluster map_before [] taken inside is can are = are
more-items g kind cluster map_before (x ∷ items) taken inside is can are =
    joined-items g kind taken.numbers.items (map (λ item. cluster * per_cluster g kind + item) (x ∷ items)) are
    (mapped-items g kind cluster (x ∷ items) inside (λ i y at. omega (arith, slice_get_within map_before.used y false (can.clear i y at), is)))

-- Bounds

pub first-few : (g : Geom) (kind : Kind) (cluster : ℕ) → IsGeom g → cluster < clusters_of g kind → cluster * per_cluster g kind ≤ 30720
first-few g kind cluster is inside =
    let less : cluster ≤ clusters_of g kind = omega (arith, inside) in
    omega (arith, mul-le-mul_right (per_cluster g kind) less, few kind)
  where
    few : (kind : Kind) → items_of g kind ≤ 30720
    few Fd = omega (arith, most_items_of g Fd is)
    few Sb = most_items_of g Sb is
    few Pb = most_items_of g Pb is
    few Fb = most_items_of g Fb is

pub few-items : (g : Geom) (kind : Kind) (cluster : ℕ) (map_before : Bitmap) → IsGeom g → IsBits g kind cluster map_before → length map_before.used ≤ 3840
few-items g kind cluster map_before is bits = omega (arith, bits.count, few kind)
  where
    few : (kind : Kind) → per_cluster g kind ≤ 3840
    few Fd = omega (arith, (is (Items Fd)).1)
    few Sb = (is (Items Sb)).1
    few Pb = (is (Items Pb)).1
    few Fb = (is (Items Fb)).1

pub small-items : (g : Geom) (kind : Kind) (cluster : ℕ) (map_before : Bitmap) (items : List ℕ) → IsGeom g → IsBits g kind cluster map_before → CanMark map_before.used items
    → (i n : ℕ) → slice_get items i ≡ Some n → n < 3840
small-items g kind cluster map_before items is bits can i n at =
    omega (arith, few-items g kind cluster map_before is bits, slice_get_within map_before.used n false (can.clear i n at))

-- what was put together is what is taken with one cluster more
pub more-is : (g : Geom) (kind : Kind) (cluster : ℕ) (map_before : Bitmap) (items : List ℕ) (taken made : Taken) → (length items == 0) ≡ false
    → made.numbers.items ≡ taken.numbers.items ++ map (λ item. cluster * per_cluster g kind + item) items
    → made.maps.items ≡ taken.maps.items ++ map_pair g kind cluster (map_marked map_before items) ∷ [] → made ≡ taken_more g kind cluster map_before items taken
more-is g kind cluster map_before [] taken made some are_numbers are_maps = absurd (false≢true (sym some))
more-is g kind cluster map_before (x ∷ items) taken made some are_numbers are_maps =
    (λ i. record { numbers = record { items = are_numbers i }; maps = record { items = are_maps i } })
