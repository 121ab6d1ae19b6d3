-- Pairs that are put in one after another rise.
use Rattle.std.proofs.Common.{◌≡◌, ℕ, zero, suc, ◌+◌, ◌<◌, ◌≤◌, ◌==◌, Bool, true, false, nat_lt, if◌then◌else◌, List, [], ◌∷◌, length, Some, refl, sym, subst, slice_get, arith}
use Rattle.std.specs.Prelude.{slice_index, All}
use Rattle.std.specs.List.Sorted.{IsStrictlyIncreasing}
use Rattle.std.proofs.lemmas.Bool.Decides.{nat_tests}
use Rattle.std.proofs.lemmas.List.Elements.{All-nil, All-cons}
use Rattle.ds_image.specs.Asking.{targets_of}
use Rattle.ds_image_parts.specs.Pending.{Pair}
use Rattle.ds_plan_resize.specs.Ordered.{put_in, put_all_in}

-- sectors that rise, from one on
abbrev pub AreRising : ℕ → List Pair → Type 0
AreRising low [] = Unit {0}
AreRising low (q ∷ pairs) = (low ≤ q.0) × AreRising (suc q.0) pairs

put-rises : (low : ℕ) (pair : Pair) (pairs : List Pair) → low ≤ pair.0 → AreRising low pairs → AreRising low (put_in pair pairs)
put-rises low pair [] l rise = (l, tt)
put-rises low pair (q ∷ pairs) l rise =
    by (nat_lt q.0 pair.0) (q.0 == pair.0) refl refl (λ above. put-rises (suc q.0) pair pairs above rise.1)
  where
    by : (b c : Bool) → nat_lt q.0 pair.0 ≡ b → (q.0 == pair.0) ≡ c → (suc q.0 ≤ pair.0 → AreRising (suc q.0) (put_in pair pairs))
        → AreRising low (if b then q ∷ put_in pair pairs else if c then pair ∷ pairs else pair ∷ q ∷ pairs)
    by true c e f later = (rise.0, later (let less : q.0 < pair.0 = grind (arith, nat_tests, e) in omega (arith, less)))
    by false true e f later = (l, subst (λ n. AreRising (suc n) pairs) (let same : q.0 ≡ pair.0 = grind (arith, nat_tests, f) in same) rise.1)
    by false false e f later =
        let above : pair.0 < q.0 = grind (arith, nat_tests, e, f) in
        (l, (omega (arith, above), rise.1))

pub put_all-rises : (into pairs : List Pair) → AreRising 0 into → AreRising 0 (put_all_in into pairs)
put_all-rises into [] rise = rise
put_all-rises into (pair ∷ pairs) rise = put_all-rises (put_in pair into) pairs (put-rises 0 pair into (omega arith) rise)

pub rising-increasing : (low : ℕ) (pairs : List Pair) → AreRising low pairs → IsStrictlyIncreasing (targets_of pairs)
rising-increasing low [] rise k l = absurd (omega (arith, l))
rising-increasing low (q ∷ []) rise k l = absurd (omega (arith, l))
rising-increasing low (q ∷ r ∷ pairs) rise zero l = omega (arith, rise.1.0)
rising-increasing low (q ∷ r ∷ pairs) rise (suc k) l =
    let next : suc k + 1 ≡ suc (k + 1) = omega arith in
    subst (λ j. slice_index (targets_of (r ∷ pairs)) k < slice_index (targets_of (q ∷ r ∷ pairs)) j) (sym next)
    (rising-increasing (suc q.0) (r ∷ pairs) rise.1 k (omega (arith, l)))

-- what holds of the sectors of all pairs holds of theirs
put-all : (P : ℕ → Type 0) (pair : Pair) (pairs : List Pair) → P pair.0 → All P (targets_of pairs) → All P (targets_of (put_in pair pairs))
put-all P pair [] here all = All-cons P pair.0 [] here (All-nil P)
put-all P pair (q ∷ pairs) here all =
    by (nat_lt q.0 pair.0) (q.0 == pair.0) (put-all P pair pairs here (rest all))
  where
    rest : All P (targets_of (q ∷ pairs)) → All P (targets_of pairs)
    rest all k d l = all (suc k) d (omega (arith, l))

    first : All P (targets_of (q ∷ pairs)) → P q.0
    first all = all 0 0 (omega arith)

    by : (b c : Bool) → All P (targets_of (put_in pair pairs)) → All P (targets_of (if b then q ∷ put_in pair pairs else if c then pair ∷ pairs else pair ∷ q ∷ pairs))
    by true c later = All-cons P q.0 (targets_of (put_in pair pairs)) (first all) later
    by false true later = All-cons P pair.0 (targets_of pairs) here (rest all)
    by false false later = All-cons P pair.0 (targets_of (q ∷ pairs)) here all

pub put_all-all : (P : ℕ → Type 0) (into pairs : List Pair) → All P (targets_of into) → ((i : ℕ) (pair : Pair) → slice_get pairs i ≡ Some pair → P pair.0)
    → All P (targets_of (put_all_in into pairs))
put_all-all P into [] all each = all
put_all-all P into (pair ∷ pairs) all each =
    put_all-all P (put_in pair into) pairs (put-all P pair into (each 0 pair refl) all) (λ i q at. each (suc i) q at)

-- none gets lost
put-some : (pair : Pair) (pairs : List Pair) → (1 ≤ length (put_in pair pairs)) × (length pairs ≤ length (put_in pair pairs))
put-some pair [] = (omega arith, omega arith)
put-some pair (q ∷ pairs) = by (nat_lt q.0 pair.0) (q.0 == pair.0) (put-some pair pairs)
  where
    by : (b c : Bool) → (1 ≤ length (put_in pair pairs)) × (length pairs ≤ length (put_in pair pairs))
        → (1 ≤ length (if b then q ∷ put_in pair pairs else if c then pair ∷ pairs else pair ∷ q ∷ pairs))
        × (length (q ∷ pairs) ≤ length (if b then q ∷ put_in pair pairs else if c then pair ∷ pairs else pair ∷ q ∷ pairs))
    by true c later = (omega arith, omega (arith, later.1))
    by false true later = (omega arith, omega arith)
    by false false later = (omega arith, omega arith)

pub put_all-some : (into pairs : List Pair) → length into ≤ length (put_all_in into pairs)
put_all-some into [] = omega arith
put_all-some into (pair ∷ pairs) = omega (arith, put_all-some (put_in pair into) pairs, put-some pair into)

pub put_all-one : (into : List Pair) (pair : Pair) (pairs : List Pair) → 1 ≤ length (put_all_in into (pair ∷ pairs))
put_all-one into pair pairs = omega (arith, put_all-some (put_in pair into) pairs, put-some pair into)
