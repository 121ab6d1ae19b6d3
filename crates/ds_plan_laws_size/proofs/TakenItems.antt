-- Items taken from clusters can be marked, and items given up or taken change the bitmaps of their clusters and no others.
use Rattle.std.proofs.Common.{◌≡◌, ℕ, zero, suc, ◌+◌, ◌*◌, ◌/◌, ◌%◌, ◌<◌, ◌==◌, inl, inr, Bool, true, false, List, [], ◌∷◌, ◌++◌, length, map, filter, slice_get, Some, refl, sym, ap, subst, ◌∙◌, eq-eqb, arith}
use Rattle.std.specs.Prelude.{Contains, if◌then◌else◌}
use Rattle.std.proofs.lemmas.Bool.{cases_Bool}
use Rattle.std.proofs.lemmas.Bool.Decides.{nat_tests}
use Rattle.std.proofs.lemmas.Nat.{div-mul-add, mod-mul-add}
use Rattle.std.proofs.lemmas.Option.{slice_get_within}
use Rattle.ds_base.specs.Geometry.{clusters_of, per_cluster}
use Rattle.ds_base.specs.declared.geometry.Geom.{Geom}
use Rattle.ds_base.specs.declared.geometry.Kind.{Kind}
use Rattle.ds_bitmap.specs.Bits.{Bitmap}
use Rattle.ds_image_parts.specs.Looks.{Look}
use Rattle.ds_image_tables.specs.Owned.{CanMark, AddsMarks}
use Rattle.ds_image_tables.specs.Owns.{bit}
use Rattle.ds_image_parts.specs.Parts.{Parts, AllSpelled, maps_of, bits_in}
use Rattle.ds_image_parts.specs.Readings.{ReadsParts}
use Rattle.ds_image_tables.proofs.Ownership.Marking.{adds-many, clears-many}
use Rattle.ds_image_tables.proofs.Spelling.Places.{at-append, at-append_left, at-append_right, Contains-from_at, at-from_Contains}
use Rattle.ds_image.proofs.Spelling.Sizes.{part_within}
use Rattle.ds_image.proofs.Bits.{bit-within, bits-at}
use Rattle.ds_plan_laws_size.specs.Clusters.{MarksCluster, MarksClusters}
use Rattle.ds_plan_laws_size.specs.Takes.{Take, items_taken, maps_taken, Takes, items_in_cluster, Gives}
use Rattle.ds_image_tables.proofs.Ownership.Marking.{ClearsMarks}

-- Places of mapped and joined lists

at-map : {X Y : Type 0} (f : X → Y) (xs : List X) (i : ℕ) (y : Y) → slice_get (map f xs) i ≡ Some y → (x : X) × (slice_get xs i ≡ Some x) × (f x ≡ y)
at-map f [] i y at = absurd (cc)
at-map f (x ∷ xs) zero y at = (x, refl, (let same : f x ≡ y = cc in same))
at-map f (x ∷ xs) (suc i) y at = at-map f xs i y at

map-at : {X Y : Type 0} (f : X → Y) (xs : List X) (i : ℕ) (x : X) → slice_get xs i ≡ Some x → slice_get (map f xs) i ≡ Some (f x)
map-at f [] i x at = absurd (cc)
map-at f (y ∷ xs) zero x at = let same : y ≡ x = cc in ap (λ z. Some (f z)) same
map-at f (y ∷ xs) (suc i) x at = map-at f xs i x at

-- marks that are the same one way and the other
same-bit : (a b : Bool) → (a ≡ true → b ≡ true) → (b ≡ true → a ≡ true) → a ≡ b
same-bit true b to from = sym (to refl)
same-bit false true to from = from refl
same-bit false false to from = refl

false-bit : (a : Bool) → (a ≡ true → ⊥) → a ≡ false
false-bit true none = absurd (none refl)
false-bit false none = refl

-- which items a filter leaves
filter-keeps : {X : Type 0} (f : X → Bool) (xs : List X) (i : ℕ) (x : X) → slice_get xs i ≡ Some x → f x ≡ true → (j : ℕ) × (slice_get (filter f xs) j ≡ Some x)
filter-keeps f [] i x at holds = absurd (cc)
filter-keeps f (y ∷ ys) zero x at holds =
    let same : y ≡ x = cc in
    (0, ap (λ b. slice_get (if b then y ∷ filter f ys else filter f ys) 0) (ap f same ∙ holds) ∙ ap Some same)
filter-keeps f (y ∷ ys) (suc i) x at holds =
    let rest = filter-keeps f ys i x at holds in
    elim (cases_Bool (f y)) [
      | inl kept ↦ (suc rest.0, ap (λ b. slice_get (if b then y ∷ filter f ys else filter f ys) (suc rest.0)) kept ∙ rest.1)
      | inr gone ↦ (rest.0, ap (λ b. slice_get (if b then y ∷ filter f ys else filter f ys) rest.0) gone ∙ rest.1)
    ]

filter-left : {X : Type 0} (f : X → Bool) (xs : List X) (i : ℕ) (x : X) → slice_get (filter f xs) i ≡ Some x → (f x ≡ true) × ((j : ℕ) × (slice_get xs j ≡ Some x))
filter-left f [] i x at = absurd (cc)
filter-left {X} f (y ∷ ys) i x at = elim (cases_Bool (f y)) [
  | inl kept ↦ first (λ k here. filter-left f ys k x here) kept i (sym (ap (λ b. slice_get (if b then y ∷ filter f ys else filter f ys) i) kept) ∙ at)
  | inr gone ↦ later (λ k here. filter-left f ys k x here) i (sym (ap (λ b. slice_get (if b then y ∷ filter f ys else filter f ys) i) gone) ∙ at)
]
  where
    later : ((k : ℕ) → slice_get (filter f ys) k ≡ Some x → (f x ≡ true) × ((j : ℕ) × (slice_get ys j ≡ Some x)))
        → (k : ℕ) → slice_get (filter f ys) k ≡ Some x → (f x ≡ true) × ((j : ℕ) × (slice_get (y ∷ ys) j ≡ Some x))
    later rest k here = let found = rest k here in (found.0, (suc found.1.0, found.1.1))

    first : ((k : ℕ) → slice_get (filter f ys) k ≡ Some x → (f x ≡ true) × ((j : ℕ) × (slice_get ys j ≡ Some x))) → f y ≡ true
        → (k : ℕ) → slice_get (y ∷ filter f ys) k ≡ Some x → (f x ≡ true) × ((j : ℕ) × (slice_get (y ∷ ys) j ≡ Some x))
    first rest holds zero here = let same : y ≡ x = cc in (ap f (sym same) ∙ holds, (0, ap Some same))
    first rest holds (suc k) here = later rest k here

-- Items taken

-- an item that is taken is one of a cluster
record IsTaken (g : Geom) (kind : Kind) (takes : List Take) (x : ℕ) : Type 0 where
  index : ℕ
  from : Take
  at : slice_get takes index ≡ Some from
  place : ℕ
  item : ℕ
  there : slice_get from.items place ≡ Some item
  is : from.cluster * per_cluster g kind + item ≡ x

taken-from : (g : Geom) (kind : Kind) (takes : List Take) (i x : ℕ) → slice_get (items_taken g kind takes) i ≡ Some x → IsTaken g kind takes x
taken-from g kind [] i x at = absurd (cc)
taken-from g kind (t ∷ ts) i x at =
    elim (at-append (map (λ item. t.cluster * per_cluster g kind + item) t.items) (items_taken g kind ts) i x at) [
      | inl here ↦
          let found = at-map (λ item. t.cluster * per_cluster g kind + item) t.items i x here in
          record { index = 0; from = t; at = refl; place = i; item = found.0; there = found.1; is = found.2 }
      | inr past ↦
          let rest = taken-from g kind ts past.0 x past.2 in
          record { index = suc rest.index; from = rest.from; at = rest.at; place = rest.place; item = rest.item; there = rest.there; is = rest.is }
    ]

from-taken : (g : Geom) (kind : Kind) (takes : List Take) (k : ℕ) (t : Take) (j item : ℕ) → slice_get takes k ≡ Some t → slice_get t.items j ≡ Some item
    → (i : ℕ) × (slice_get (items_taken g kind takes) i ≡ Some (t.cluster * per_cluster g kind + item))
from-taken g kind [] k t j item at there = absurd (cc)
from-taken g kind (s ∷ ts) zero t j item at there =
    let same : s ≡ t = cc in
    let number = λ (u : Take) (n : ℕ). u.cluster * per_cluster g kind + n in (
      j,
      ap (λ u. slice_get (map (number u) u.items ++ items_taken g kind ts) j) same
          ∙ at-append_left (map (number t) t.items) (items_taken g kind ts) j (number t item) (map-at (number t) t.items j item there),
    )
from-taken g kind (s ∷ ts) (suc k) t j item at there =
    let rest = from-taken g kind ts k t j item at there in
    let front : List ℕ = map (λ n. s.cluster * per_cluster g kind + n) s.items in
    (length front + rest.0, at-append_right front (items_taken g kind ts) rest.0 (t.cluster * per_cluster g kind + item) rest.1)

takes-rest : (p : Parts) (kind : Kind) (t : Take) (ts : List Take) → Takes p kind (t ∷ ts) → Takes p kind ts
takes-rest p kind t ts are = record {
  once = λ i j x y one two same. omega (arith, are.once (suc i) (suc j) x y one two same);
  sets = λ i u at. are.sets (suc i) u at;
  can = λ i u at. are.can (suc i) u at;
}

module _ (g : Geom) (look : Look) (p : Parts) (kind : Kind) (reads : ReadsParts g look p) (all : AllSpelled (maps_of p kind)) where
  abbrev per : ℕ
  per = per_cluster g kind

  item-within : (takes : List Take) (are : Takes p kind takes) (i : ℕ) (t : Take) (at : slice_get takes i ≡ Some t) (j item : ℕ) → slice_get t.items j ≡ Some item → item < per
  item-within takes are i t at j item there =
      let sets = are.sets i t at in
      bit-within g look kind (maps_of p kind) t.cluster item sets.before false (reads.maps kind) sets.there ((are.can i t at).clear j item there)

  taken-clear : (takes : List Take) → Takes p kind takes → (x : ℕ) → IsTaken g kind takes x → slice_get (bits_in (maps_of p kind)) x ≡ Some false
  taken-clear takes are x taken =
      let sets = are.sets taken.index taken.from taken.at in
      ap (slice_get (bits_in (maps_of p kind))) (sym taken.is)
      ∙ bits-at g look kind (maps_of p kind) taken.from.cluster taken.item sets.before false (reads.maps kind) all sets.there
      ((are.can taken.index taken.from taken.at).clear taken.place taken.item taken.there)

  -- a number says the cluster and the item in it
  cluster-of : (c c' it it' : ℕ) → it < per → it' < per → c * per + it ≡ c' * per + it' → (c ≡ c') × (it ≡ it')
  cluster-of c c' it it' small small' same = (
    sym (div-mul-add c per it small) ∙ ap (λ n. n / per) same ∙ div-mul-add c' per it' small',
    sym (mod-mul-add c per it small) ∙ ap (λ n. n % per) same ∙ mod-mul-add c' per it' small',
  )

  taken-once : (takes : List Take) → Takes p kind takes → (i j x : ℕ) → slice_get (items_taken g kind takes) i ≡ Some x → slice_get (items_taken g kind takes) j ≡ Some x
      → i ≡ j
  taken-once [] are i j x one two = absurd (cc)
  taken-once (t ∷ ts) are i j x one two =
      let front : List ℕ = map (λ item. t.cluster * per + item) t.items in
      elim (at-append front (items_taken g kind ts) i x one) [
        | inl here ↦ elim (at-append front (items_taken g kind ts) j x two) [
          | inl here' ↦
              let a = at-map (λ item. t.cluster * per + item) t.items i x here in
              let b = at-map (λ item. t.cluster * per + item) t.items j x here' in
              let same : a.0 ≡ b.0 = omega (arith, a.2, b.2) in
              (are.can 0 t refl).once i j b.0 (a.1 ∙ ap Some same) b.1
          | inr past' ↦ absurd (apart i here past'.0 past'.2)
        ]
        | inr past ↦ elim (at-append front (items_taken g kind ts) j x two) [
          | inl here' ↦ absurd (apart j here' past.0 past.2)
          | inr past' ↦ past.1 ∙ ap (λ n. length front + n) (taken-once ts (takes-rest p kind t ts are) past.0 past'.0 x past.2 past'.2) ∙ sym past'.1
        ]
      ]
    where
      apart : (i : ℕ) → slice_get (map (λ item. t.cluster * per + item) t.items) i ≡ Some x → (j : ℕ) → slice_get (items_taken g kind ts) j ≡ Some x → ⊥
      apart i here j later =
          let a = at-map (λ item. t.cluster * per + item) t.items i x here in
          let b = taken-from g kind ts j x later in
          let small = item-within (t ∷ ts) are 0 t refl i a.0 a.1 in
          let small' = item-within (t ∷ ts) are (suc b.index) b.from b.at b.place b.item b.there in
          let same = cluster-of t.cluster b.from.cluster a.0 b.item small small' (a.2 ∙ sym b.is) in
          let places : 0 ≡ suc b.index =
          are.once 0 (suc b.index) (t.cluster, t.map) (b.from.cluster, b.from.map) refl (map-at (λ (u : Take). (u.cluster, u.map)) ts b.index b.from b.at) same.0 in
          absurd (omega (arith, places))

  -- what is taken can be marked
  pub takes-can : (takes : List Take) → Takes p kind takes → CanMark (bits_in (maps_of p kind)) (items_taken g kind takes)
  takes-can takes are = record {
    clear = λ i x at. taken-clear takes are x (taken-from g kind takes i x at);
    once = taken-once takes are;
  }

  module _ (takes : List Take) (are : Takes p kind takes) where
    cluster-marked : (k : ℕ) (t : Take) (at : slice_get takes k ≡ Some t) → MarksCluster g p kind [] (items_taken g kind takes) t.cluster t.map
    cluster-marked k t at =
        let sets = are.sets k t at in
        let adds : AddsMarks sets.before.used t.items t.map.used =
        subst (AddsMarks sets.before.used t.items) (sym sets.changed)
        (adds-many sets.before.used t.items (λ j item there. slice_get_within sets.before.used item false ((are.can k t at).clear j item there))) in
        record {
          before = sets.before;
          there = sets.there;
          same_kind = sets.same_kind;
          same_cluster = sets.same_cluster;
          count = adds.count;
          gone = λ item small held. absurd (let at = at-from_Contains [] _ held in nothing at.0 at.1);
          come = λ item small held. (adds.marks item).1 (inr (own item small held));
          kept = λ item small _ fresh. same-bit (bit t.map.used item) (bit sets.before.used item)
              (λ marked. elim ((adds.marks item).0 marked) [
                | inl was ↦ was
                | inr held ↦
                    let here = at-from_Contains t.items item held in
                    let there = from-taken g kind takes k t here.0 item at here.1 in
                    absurd (fresh (Contains-from_at (items_taken g kind takes) there.0 (t.cluster * per + item) there.1))
              ])
              (λ was. (adds.marks item).1 (inl was));
        }
      where
        nothing : {x : ℕ} (i : ℕ) → slice_get [] i ≡ Some x → ⊥
        nothing i at = absurd (cc)

        own : (item : ℕ) → item < per → Contains (items_taken g kind takes) (t.cluster * per + item) → Contains t.items item
        own item small held =
            let somewhere = at-from_Contains (items_taken g kind takes) (t.cluster * per + item) held in
            let b = taken-from g kind takes somewhere.0 (t.cluster * per + item) somewhere.1 in
            let small' = item-within takes are b.index b.from b.at b.place b.item b.there in
            let same = cluster-of b.from.cluster t.cluster b.item item small' small b.is in
            let index : b.index ≡ k =
            are.once b.index k (b.from.cluster, b.from.map) (t.cluster, t.map) (map-at (λ (u : Take). (u.cluster, u.map)) takes b.index b.from b.at)
            (map-at (λ (u : Take). (u.cluster, u.map)) takes k t at) same.0 in
            let from : b.from ≡ t = (let both : Some b.from ≡ Some t = sym b.at ∙ ap (slice_get takes) index ∙ at in cc) in
            Contains-from_at t.items b.place item (ap (λ (u : Take). slice_get u.items b.place) (sym from) ∙ b.there ∙ ap Some same.1)

    -- and the bitmaps of the clusters follow
    pub takes-marks : MarksClusters g p kind [] (items_taken g kind takes) (maps_taken takes)
    takes-marks = record {
      once = are.once;
      each = λ i m at.
          let found = at-map (λ (u : Take). (u.cluster, u.map)) takes i m at in
          subst (λ (n : ℕ × Bitmap). MarksCluster g p kind [] (items_taken g kind takes) n.0 n.1) found.2 (cluster-marked i found.0 found.1);
      all = λ x either. elim either [
        | inl held ↦ absurd (omega (arith, held.1))
        | inr held ↦
            let somewhere = at-from_Contains (items_taken g kind takes) x held in
            let b = taken-from g kind takes somewhere.0 x somewhere.1 in
            let small = item-within takes are b.index b.from b.at b.place b.item b.there in (
              b.index,
              (
                (b.from.cluster, b.from.map),
                map-at (λ (u : Take). (u.cluster, u.map)) takes b.index b.from b.at,
                sym (div-mul-add b.from.cluster per b.item small) ∙ ap (λ n. n / per) b.is,
              ),
            )
      ];
    }

  -- Items given up

  module _ (some : 0 < per) (given : List ℕ) (maps : List (ℕ × Bitmap)) (gives : Gives g p kind given maps) where
    -- the items of a cluster, by their numbers in it
    in-cluster : (c item : ℕ) → item < per → Contains given (c * per + item) → Contains (items_in_cluster g kind c given) item
    in-cluster c item small held =
        let x : ℕ = c * per + item in
        let somewhere = at-from_Contains given x held in
        let cluster : x / per ≡ c = div-mul-add c per item small in
        let kept = filter-keeps (λ n. (n / per) == c) given somewhere.0 x somewhere.1 (eq-eqb (x / per) c cluster) in
        let place : x % per ≡ item = mod-mul-add c per item small in
        Contains-from_at (items_in_cluster g kind c given) kept.0 item
        (map-at (λ n. n % per) (filter (λ n. (n / per) == c) given) kept.0 x kept.1 ∙ ap Some place)

    from-cluster : (c i item : ℕ) → slice_get (items_in_cluster g kind c given) i ≡ Some item → (item < per) × Contains given (c * per + item)
    from-cluster c i item at =
        let found = at-map (λ n. n % per) (filter (λ n. (n / per) == c) given) i item at in
        let x : ℕ = found.0 in
        let left = filter-left (λ n. (n / per) == c) given i x found.1 in
        let cluster : x / per ≡ c = grind (arith, nat_tests, left.0) in
        let small : x % per < per = grind (arith, some) in
        let place : x / per * per + x % per ≡ x = grind (arith, some) in
        let number : c * per + item ≡ x = ap (λ k. k * per + item) (sym cluster) ∙ ap (λ k. x / per * per + k) (sym found.2) ∙ place in
        (omega (arith, small, found.2), subst (Contains given) (sym number) (Contains-from_at given left.1.0 x left.1.1))

    cluster-cleared : (i : ℕ) (m : ℕ × Bitmap) → slice_get maps i ≡ Some m → MarksCluster g p kind given [] m.0 m.1
    cluster-cleared i m at =
        let sets = gives.sets i m at in
        let low : m.0 < clusters_of g kind = omega (arith, part_within (maps_of p kind) m.0 sets.before sets.there, (reads.maps kind).len) in
        let count : length sets.before.used ≡ per = (((reads.maps kind).each m.0 low sets.before).0 sets.there).0.count in
        let locals : List ℕ = items_in_cluster g kind m.0 given in
        let clears : ClearsMarks sets.before.used locals m.1.used =
        subst (ClearsMarks sets.before.used locals) (sym sets.changed)
        (clears-many sets.before.used locals (λ j item there. omega (arith, (from-cluster m.0 j item there).0, count))) in
        record {
          before = sets.before;
          there = sets.there;
          same_kind = sets.same_kind;
          same_cluster = sets.same_cluster;
          count = clears.count;
          gone = λ item small held. false-bit (bit m.1.used item) (λ marked. ((clears.marks item).0 marked).1 (in-cluster m.0 item small held));
          come = λ item small held. absurd (omega (arith, held.1));
          kept = λ item small stays _. same-bit (bit m.1.used item) (bit sets.before.used item)
              (λ marked. ((clears.marks item).0 marked).0)
              (λ was. (clears.marks item).1 (was, λ held. let here = at-from_Contains locals item held in stays (from-cluster m.0 here.0 item here.1).1));
        }

    -- the bitmaps of their clusters follow
    pub gives-marks : MarksClusters g p kind given [] maps
    gives-marks = record {
      once = gives.once;
      each = cluster-cleared;
      all = λ x either. elim either [
        | inl held ↦ let at = at-from_Contains given x held in gives.all at.0 x at.1
        | inr held ↦ absurd (omega (arith, held.1))
      ];
    }
