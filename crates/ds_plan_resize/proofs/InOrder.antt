-- Parts that are put in the order of their numbers, and their sectors.
use Rattle.std.proofs.Common.{◌≡◌, ◌≢◌, ℕ, zero, suc, ◌+◌, ◌<◌, ◌≤◌, ◌==◌, inl, inr, ◌⊎◌, Bool, true, false, nat_lt, if◌then◌else◌, List, [], ◌∷◌, ◌++◌, map, fold, Some, refl, sym, ap, subst, ◌∙◌, slice_get, eq-eqb, ne_eqb, arith}
use Rattle.std.specs.Prelude.{slice_index}
use Rattle.std.specs.List.Sorted.{IsStrictlyIncreasing}
use Rattle.std.proofs.lemmas.Bool.{cases_lt}
use Rattle.std.proofs.lemmas.Bool.Decides.{nat_tests}
use Rattle.ds_image_parts.specs.Pending.{Pair}
use Rattle.ds_plan_laws_size.specs.Written.{AreOnce}
use Rattle.ds_plan_resize.specs.Ordered.{put_in, put_all_in}

-- parts by rising numbers with one more in its place; of two with one number the later one counts
abbrev pub put_by : {V : Type 0} → ℕ × V → List (ℕ × V) → List (ℕ × V)
put_by x [] = x ∷ []
put_by x (y ∷ ys) = if nat_lt y.0 x.0 then y ∷ put_by x ys else if y.0 == x.0 then x ∷ ys else x ∷ y ∷ ys

abbrev pub put_all_by : {V : Type 0} → List (ℕ × V) → List (ℕ × V) → List (ℕ × V)
put_all_by into xs = fold (λ into x. put_by x into) into xs

-- Their sectors

module _ {V : Type 0} (s : ℕ → ℕ) (rises : (a b : ℕ) → a < b → s a < s b) (f : ℕ × V → Pair) (at : (x : ℕ × V) → (f x).0 ≡ s x.0) where
  same-less : (x y : ℕ × V) → nat_lt (f y).0 (f x).0 ≡ nat_lt y.0 x.0
  same-less x y = elim (cases_lt y.0 x.0) [
    | inl less ↦
        let less' : (f y).0 < (f x).0 = omega (arith, rises y.0 x.0 less, at x, at y) in
        let one : nat_lt (f y).0 (f x).0 ≡ true = grind (arith, nat_tests, less') in
        let two : nat_lt y.0 x.0 ≡ true = grind (arith, nat_tests, less) in
        one ∙ sym two
    | inr more ↦
        let more' : (f x).0 ≤ (f y).0 = at-least x y more in
        let one : nat_lt (f y).0 (f x).0 ≡ false = grind (arith, nat_tests, more') in
        let two : nat_lt y.0 x.0 ≡ false = grind (arith, nat_tests, more) in
        one ∙ sym two
  ]
    where
      at-least : (x y : ℕ × V) → x.0 ≤ y.0 → (f x).0 ≤ (f y).0
      at-least x y l = elim (cases_lt x.0 y.0) [
        | inl less ↦ omega (arith, rises x.0 y.0 less, at x, at y)
        | inr same ↦ let equal : x.0 ≡ y.0 = omega (arith, l, same) in omega (arith, at x, at y, ap s equal)
      ]

  same-number : (x y : ℕ × V) → ((f y).0 == (f x).0) ≡ (y.0 == x.0)
  same-number x y = elim (cases_lt y.0 x.0) [
    | inl less ↦ ne_eqb (f y).0 (f x).0 (λ e. absurd (omega (arith, rises y.0 x.0 less, at x, at y, e))) ∙ sym (ne_eqb y.0 x.0 (λ e. absurd (omega (arith, less, e))))
    | inr more ↦ elim (cases_lt x.0 y.0) [
      | inl less ↦ ne_eqb (f y).0 (f x).0 (λ e. absurd (omega (arith, rises x.0 y.0 less, at x, at y, e))) ∙ sym (ne_eqb y.0 x.0 (λ e. absurd (omega (arith, less, e))))
      | inr other ↦
          let equal : y.0 ≡ x.0 = omega (arith, more, other) in
          eq-eqb (f y).0 (f x).0 (at y ∙ ap s equal ∙ sym (at x)) ∙ sym (eq-eqb y.0 x.0 equal)
    ]
  ]

  put-map : (x : ℕ × V) (ys : List (ℕ × V)) → put_in (f x) (map f ys) ≡ map f (put_by x ys)
  put-map x [] = refl
  put-map x (y ∷ ys) =
      ap (λ b. if b then f y ∷ put_in (f x) (map f ys) else if (f y).0 == (f x).0 then f x ∷ map f ys else f x ∷ f y ∷ map f ys) (same-less x y)
      ∙ ap (λ c. if nat_lt y.0 x.0 then f y ∷ put_in (f x) (map f ys) else if c then f x ∷ map f ys else f x ∷ f y ∷ map f ys) (same-number x y)
      ∙ by (nat_lt y.0 x.0) (y.0 == x.0) (put-map x ys)
    where
      by : (b c : Bool) → put_in (f x) (map f ys) ≡ map f (put_by x ys)
          → (if b then f y ∷ put_in (f x) (map f ys) else if c then f x ∷ map f ys else f x ∷ f y ∷ map f ys)
          ≡ map f (if b then y ∷ put_by x ys else if c then x ∷ ys else x ∷ y ∷ ys)
      by true c later = ap (λ l. f y ∷ l) later
      by false true later = refl
      by false false later = refl

  pub put_all-map : (into xs : List (ℕ × V)) → put_all_in (map f into) (map f xs) ≡ map f (put_all_by into xs)
  put_all-map into [] = refl
  put_all-map into (x ∷ xs) = ap (λ l. put_all_in l (map f xs)) (put-map x into) ∙ put_all-map (put_by x into) xs

-- Pairs past others

abbrev pub AreBelow : ℕ → List Pair → Type 0
AreBelow n pairs = (i : ℕ) (q : Pair) → slice_get pairs i ≡ Some q → q.0 < n

put-behind : (pair : Pair) (xs ys : List Pair) → AreBelow pair.0 xs → put_in pair (xs ++ ys) ≡ xs ++ put_in pair ys
put-behind pair [] ys below = refl
put-behind pair (x ∷ xs) ys below =
    let less : x.0 < pair.0 = below 0 x refl in
    let test : nat_lt x.0 pair.0 ≡ true = grind (arith, nat_tests, less) in
    ap (λ b. if b then x ∷ put_in pair (xs ++ ys) else if x.0 == pair.0 then pair ∷ (xs ++ ys) else pair ∷ x ∷ (xs ++ ys)) test
    ∙ ap (λ l. x ∷ l) (put-behind pair xs ys (λ i q at. below (suc i) q at))

pub put_all-behind : (xs ys pairs : List Pair) → ((i : ℕ) (pair : Pair) → slice_get pairs i ≡ Some pair → AreBelow pair.0 xs)
    → put_all_in (xs ++ ys) pairs ≡ xs ++ put_all_in ys pairs
put_all-behind xs ys [] below = refl
put_all-behind xs ys (pair ∷ pairs) below =
    ap (λ l. put_all_in l pairs) (put-behind pair xs ys (below 0 pair refl)) ∙ put_all-behind xs (put_in pair ys) pairs (λ i q at. below (suc i) q at)

-- The same parts

module _ {V : Type 0} where
  put-from : (x : ℕ × V) (ys : List (ℕ × V)) (i : ℕ) (z : ℕ × V) → slice_get (put_by x ys) i ≡ Some z → (z ≡ x) ⊎ ((j : ℕ) × (slice_get ys j ≡ Some z))
  put-from x [] zero z at = inl (let same : x ≡ z = cc in sym same)
  put-from x [] (suc i) z at = absurd cc
  put-from x (y ∷ ys) i z at = by (nat_lt y.0 x.0) (y.0 == x.0) (put-from x ys) i at
    where
      behind : (ys : List (ℕ × V)) (i : ℕ) → slice_get (x ∷ ys) i ≡ Some z → (z ≡ x) ⊎ ((j : ℕ) × (slice_get ys j ≡ Some z))
      behind ys zero at = inl (let same : x ≡ z = cc in sym same)
      behind ys (suc i) at = inr (i, at)

      later : ((z ≡ x) ⊎ ((j : ℕ) × (slice_get ys j ≡ Some z))) → (z ≡ x) ⊎ ((j : ℕ) × (slice_get (y ∷ ys) j ≡ Some z))
      later (inl here) = inl here
      later (inr there) = inr (suc there.0, there.1)

      first : ((i : ℕ) (z : ℕ × V) → slice_get (put_by x ys) i ≡ Some z → (z ≡ x) ⊎ ((j : ℕ) × (slice_get ys j ≡ Some z)))
          → (i : ℕ) → slice_get (y ∷ put_by x ys) i ≡ Some z → (z ≡ x) ⊎ ((j : ℕ) × (slice_get (y ∷ ys) j ≡ Some z))
      first rest zero at = inr (0, at)
      first rest (suc i) at = later (rest i z at)

      by : (b c : Bool) → ((i : ℕ) (z : ℕ × V) → slice_get (put_by x ys) i ≡ Some z → (z ≡ x) ⊎ ((j : ℕ) × (slice_get ys j ≡ Some z)))
          → (i : ℕ) → slice_get (if b then y ∷ put_by x ys else if c then x ∷ ys else x ∷ y ∷ ys) i ≡ Some z → (z ≡ x) ⊎ ((j : ℕ) × (slice_get (y ∷ ys) j ≡ Some z))
      by true c rest i at = first rest i at
      by false true rest i at = later (behind ys i at)
      by false false rest i at = behind (y ∷ ys) i at

  pub put_all-from : (into xs : List (ℕ × V)) (i : ℕ) (z : ℕ × V) → slice_get (put_all_by into xs) i ≡ Some z
      → ((j : ℕ) × (slice_get into j ≡ Some z)) ⊎ ((j : ℕ) × (slice_get xs j ≡ Some z))
  put_all-from into [] i z at = inl (i, at)
  put_all-from into (x ∷ xs) i z at = elim (put_all-from (put_by x into) xs i z at) [
    | inl old ↦ elim (put-from x into old.0 z old.1) [
      | inl here ↦ inr (0, ap Some (sym here))
      | inr there ↦ inl there
    ]
    | inr new ↦ inr (suc new.0, new.1)
  ]

  -- one that is put in is there, and others stay
  put-there : (x : ℕ × V) (ys : List (ℕ × V)) → (i : ℕ) × (slice_get (put_by x ys) i ≡ Some x)
  put-there x [] = (0, refl)
  put-there x (y ∷ ys) = by (nat_lt y.0 x.0) (y.0 == x.0) (put-there x ys)
    where
      by : (b c : Bool) → (i : ℕ) × (slice_get (put_by x ys) i ≡ Some x) → (i : ℕ) × (slice_get (if b then y ∷ put_by x ys else if c then x ∷ ys else x ∷ y ∷ ys) i ≡ Some x)
      by true c rest = (suc rest.0, rest.1)
      by false true rest = (0, refl)
      by false false rest = (0, refl)

  put-stays : (x : ℕ × V) (ys : List (ℕ × V)) (j : ℕ) (z : ℕ × V) → slice_get ys j ≡ Some z → z.0 ≢ x.0 → (i : ℕ) × (slice_get (put_by x ys) i ≡ Some z)
  put-stays x [] j z at other = absurd cc
  put-stays x (y ∷ ys) j z at other = by (nat_lt y.0 x.0) (y.0 == x.0) refl (λ j at. put-stays x ys j z at other) j at
    where
      kept : (c : Bool) → (y.0 == x.0) ≡ c → (j : ℕ) → slice_get (y ∷ ys) j ≡ Some z → (i : ℕ) × (slice_get (if c then x ∷ ys else x ∷ y ∷ ys) i ≡ Some z)
      kept true e zero at =
          let same : y ≡ z = cc in
          let equal : y.0 ≡ x.0 = grind (arith, nat_tests, e) in
          absurd (other (ap (λ (w : ℕ × V). w.0) (sym same) ∙ equal))
      kept true e (suc j) at = (suc j, at)
      kept false e j at = (suc j, at)

      first : ((j : ℕ) → slice_get ys j ≡ Some z → (i : ℕ) × (slice_get (put_by x ys) i ≡ Some z)) → (j : ℕ) → slice_get (y ∷ ys) j ≡ Some z → (i : ℕ) × (slice_get (y ∷ put_by x ys) i ≡ Some z)
      first rest zero at = (0, at)
      first rest (suc j) at = let found = rest j at in (suc found.0, found.1)

      by : (b c : Bool) → (y.0 == x.0) ≡ c → ((j : ℕ) → slice_get ys j ≡ Some z → (i : ℕ) × (slice_get (put_by x ys) i ≡ Some z)) → (j : ℕ) → slice_get (y ∷ ys) j ≡ Some z
          → (i : ℕ) × (slice_get (if b then y ∷ put_by x ys else if c then x ∷ ys else x ∷ y ∷ ys) i ≡ Some z)
      by true c e rest j at = first rest j at
      by false c e rest j at = kept c e j at

  old-stays : (into xs : List (ℕ × V)) (j : ℕ) (z : ℕ × V) → slice_get into j ≡ Some z → ((i : ℕ) (x : ℕ × V) → slice_get xs i ≡ Some x → z.0 ≢ x.0)
      → (i : ℕ) × (slice_get (put_all_by into xs) i ≡ Some z)
  old-stays into [] j z at apart = (j, at)
  old-stays into (x ∷ xs) j z at apart =
      let kept = put-stays x into j z at (apart 0 x refl) in
      old-stays (put_by x into) xs kept.0 z kept.1 (λ i y at. apart (suc i) y at)

  pub put_all-there : (into xs : List (ℕ × V)) → AreOnce xs → (j : ℕ) (z : ℕ × V) → slice_get xs j ≡ Some z → (i : ℕ) × (slice_get (put_all_by into xs) i ≡ Some z)
  put_all-there into [] once j z at = absurd cc
  put_all-there into (x ∷ xs) once zero z at =
      let same : x ≡ z = cc in
      let there = put-there x into in
      old-stays (put_by x into) xs there.0 z (there.1 ∙ ap Some same)
      (λ i y at' equal. absurd (let places : 0 ≡ suc i = once 0 (suc i) x y refl at' (ap (λ (w : ℕ × V). w.0) same ∙ equal) in omega (arith, places)))
  put_all-there into (x ∷ xs) once (suc j) z at =
      put_all-there (put_by x into) xs (λ i k a b one two same. omega (arith, once (suc i) (suc k) a b one two same)) j z at

  -- and all rise
  abbrev AreUp : ℕ → List (ℕ × V) → Type 0
  AreUp low [] = Unit {0}
  AreUp low (y ∷ ys) = (low ≤ y.0) × AreUp (suc y.0) ys

  put-up : (low : ℕ) (x : ℕ × V) (ys : List (ℕ × V)) → low ≤ x.0 → AreUp low ys → AreUp low (put_by x ys)
  put-up low x [] l up = (l, tt)
  put-up low x (y ∷ ys) l up = by (nat_lt y.0 x.0) (y.0 == x.0) refl refl (λ above. put-up (suc y.0) x ys above up.1)
    where
      by : (b c : Bool) → nat_lt y.0 x.0 ≡ b → (y.0 == x.0) ≡ c → (suc y.0 ≤ x.0 → AreUp (suc y.0) (put_by x ys))
          → AreUp low (if b then y ∷ put_by x ys else if c then x ∷ ys else x ∷ y ∷ ys)
      by true c e f later = (up.0, later (let less : y.0 < x.0 = grind (arith, nat_tests, e) in omega (arith, less)))
      by false true e f later = (l, subst (λ n. AreUp (suc n) ys) (let same : y.0 ≡ x.0 = grind (arith, nat_tests, f) in same) up.1)
      by false false e f later =
          let above : x.0 < y.0 = grind (arith, nat_tests, e, f) in
          (l, (omega (arith, above), up.1))

  all-up : (into xs : List (ℕ × V)) → AreUp 0 into → AreUp 0 (put_all_by into xs)
  all-up into [] up = up
  all-up into (x ∷ xs) up = all-up (put_by x into) xs (put-up 0 x into (omega arith) up)

  up-increasing : (low : ℕ) (ys : List (ℕ × V)) → AreUp low ys → IsStrictlyIncreasing (map (λ (w : ℕ × V). w.0) ys)
  up-increasing low [] up k l = absurd (omega (arith, l))
  up-increasing low (y ∷ []) up k l = absurd (omega (arith, l))
  up-increasing low (y ∷ z ∷ ys) up zero l = omega (arith, up.1.0)
  up-increasing low (y ∷ z ∷ ys) up (suc k) l =
      let next : suc k + 1 ≡ suc (k + 1) = omega arith in
      subst (λ j. slice_index (map (λ (w : ℕ × V). w.0) (z ∷ ys)) k < slice_index (map (λ (w : ℕ × V). w.0) (y ∷ z ∷ ys)) j) (sym next)
      (up-increasing (suc y.0) (z ∷ ys) up.1 k (omega (arith, l)))

  pub sorted-rises : (xs : List (ℕ × V)) → IsStrictlyIncreasing (map (λ (w : ℕ × V). w.0) (put_all_by [] xs))
  sorted-rises xs = up-increasing 0 (put_all_by [] xs) (all-up [] xs tt)

  pub sorted-from : (xs : List (ℕ × V)) (i : ℕ) (z : ℕ × V) → slice_get (put_all_by [] xs) i ≡ Some z → (j : ℕ) × (slice_get xs j ≡ Some z)
  sorted-from xs i z at = elim (put_all-from [] xs i z at) [
    | inl none ↦ absurd (let wrong : slice_get {X = ℕ × V} [] none.0 ≡ Some z = none.1 in cc)
    | inr there ↦ there
  ]

  pub sorted-there : (xs : List (ℕ × V)) → AreOnce xs → (j : ℕ) (z : ℕ × V) → slice_get xs j ≡ Some z → (i : ℕ) × (slice_get (put_all_by [] xs) i ≡ Some z)
  sorted-there xs once j z at = put_all-there [] xs once j z at
