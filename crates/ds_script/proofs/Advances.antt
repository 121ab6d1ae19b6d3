-- The counts of a plain pass: none at first, and one more of a host whose next directive is free to pass.
use Rattle.std.proofs.Common.{◌≡◌, ℕ, suc, ◌+◌, ◌≤◌, ◌<◌, ◌≢◌, ◌⊎◌, inl, inr, true, false, List, [], ◌∷◌, length, replicate, Bool, refl, ap, ◌∙◌, subst, arith, get_or-set_same, get_or-set_other, length-set}
use Rattle.std.specs.Prelude.{slice_index, slice_set, sum, ◌==◌, ◌&&◌, if◌then◌else◌}
use Rattle.std.specs.List.{sum_by}
use Rattle.std.proofs.lemmas.Bool.{cases_lt, cases_eq}
use Rattle.std.proofs.lemmas.Bool.Decides.{nat_tests}
use Rattle.std.proofs.lemmas.List.{get_or-replicate, get_or_past, length-replicate}
use Rattle.std.proofs.lemmas.List.Sums.{sum_by-set, sum_by-cons}
use Rattle.ds_tree.specs.declared.scenarios.HostPlan.{HostPlan}
use Rattle.ds_tree.specs.PlainPass.{list_at, Needs, Passes}
use Rattle.ds_script.specs.Passing.{HasPassed, IsFree}

-- the ranks, with one for a directive that passes now
ranks_with : (ℕ → ℕ → ℕ) → ℕ → ℕ → ℕ → ℕ → ℕ → ℕ
ranks_with rank bound host next h n = if (h == host) && (n == next) then bound else rank h n

ranks_with-next : (rank : ℕ → ℕ → ℕ) (bound host next h n : ℕ) → h ≡ host → n ≡ next → ranks_with rank bound host next h n ≡ bound
unfolding ranks_with
ranks_with-next rank bound host next h n e f = grind (arith, nat_tests)

ranks_with-old : (rank : ℕ → ℕ → ℕ) (bound host next h n : ℕ) → (h ≡ host → n < next) → ranks_with rank bound host next h n ≡ rank h n
unfolding ranks_with
ranks_with-old rank bound host next h n before = grind (arith, nat_tests)

-- the directives passed by one step of a host
module _ (plans : List HostPlan) (old new : ℕ → ℕ) (host : ℕ) where
  pub record Steps : Type 0 where
    pub at : new host ≡ old host + 1
    pub others : (h : ℕ) → h ≢ host → new h ≡ old h

  -- what is passed then was passed before, or is the host's next directive
  passed_cases : Steps → (h n : ℕ) → n < new h → (n < old h) ⊎ ((h ≡ host) × (n ≡ old host))
  passed_cases steps h n less = elim (cases_eq h host) [
    | inl same ↦ elim (cases_lt n (old h)) [
      | inl before ↦ inl before
      | inr behind ↦ inr (same, omega (arith, behind, steps.at, ap new same, ap old same))
    ]
    | inr other ↦ inl (omega (arith, steps.others h other))
  ]

  grows : Steps → (h : ℕ) → old h ≤ new h
  grows steps h = elim (cases_eq h host) [
    | inl same ↦ omega (arith, steps.at, ap new same, ap old same)
    | inr other ↦ omega (arith, steps.others h other)
  ]

  module _ (steps : Steps) (p : Passes plans old) (bound : ℕ) (below : (h n : ℕ) → n < old h → p.rank h n < bound)
      (left : old host < length (list_at plans host))
      (free : (other i : ℕ) → Needs plans host (old host) other i → i < old other) where
    rank : ℕ → ℕ → ℕ
    rank = ranks_with p.rank bound host (old host)

    rank-old : (h n : ℕ) → n < old h → rank h n ≡ p.rank h n
    unfolding rank
    rank-old h n less = ranks_with-old p.rank bound host (old host) h n (λ e. let f = ap old e in omega arith)

    rank-next : (h n : ℕ) → h ≡ host → n ≡ old host → rank h n ≡ bound
    unfolding rank
    rank-next h n e f = ranks_with-next p.rank bound host (old host) h n e f

    ranks_below : (h n : ℕ) → n < new h → rank h n < bound + 1
    ranks_below h n less = elim (passed_cases steps h n less) [
      | inl before ↦ omega (arith, rank-old h n before, below h n before)
      | inr now ↦ omega (arith, rank-next h n now.0 now.1)
    ]

    ranks_rise : (h n : ℕ) → n + 1 < new h → rank h n < rank h (n + 1)
    ranks_rise h n less = elim (passed_cases steps h (n + 1) less) [
      | inl before ↦ omega (arith, rank-old h n (omega arith), rank-old h (n + 1) before, p.rises h n before)
      | inr now ↦
          let f = ap old now.0 in
          omega (arith, rank-old h n (omega (arith, now.1)), below h n (omega (arith, now.1)), rank-next h (n + 1) now.0 now.1)
    ]

    ranks_behind : (h n other i : ℕ) → n < new h → Needs plans h n other i → (i < new other) × (rank other i < rank h n)
    ranks_behind h n other i less needs = elim (passed_cases steps h n less) [
      | inl before ↦
          let was = p.behind h n other i before needs in
          (omega (arith, was.0, grows steps other), omega (arith, was.1, rank-old other i was.0, rank-old h n before))
      | inr now ↦
          let P : ℕ → Type 0 = λ g. Needs plans g n other i in
          let Q : ℕ → Type 0 = λ m. Needs plans host m other i in
          let is = free other i (subst Q now.1 (subst P now.0 needs)) in (
            omega (arith, is, grows steps other),
            omega (arith, rank-old other i is, below other i is, rank-next h n now.0 now.1),
          )
    ]

    within : (h : ℕ) → new h ≤ length (list_at plans h)
    within h = elim (cases_eq h host) [
      | inl same ↦ omega (arith, left, steps.at, ap new same, ap (λ g. length (list_at plans g)) same)
      | inr other ↦ omega (arith, steps.others h other, p.within h)
    ]

    pub passes_more : (q : Passes plans new) × ((h n : ℕ) → n < new h → q.rank h n < bound + 1)
    passes_more = (record { rank = rank; within = within; rises = ranks_rise; behind = ranks_behind }, ranks_below)

zero_at : (n i : ℕ) → slice_index (replicate n 0) i ≡ 0
zero_at n i = elim (cases_lt i n) [
  | inl there ↦ get_or-replicate n i 0 0 there
  | inr past ↦ get_or_past (replicate n 0) i 0 (omega (arith, past, length-replicate {A = ℕ} n 0))
]

-- at first nothing is passed
pub HasPassed-none : (plans : List HostPlan) → HasPassed plans (replicate (length plans) 0)
HasPassed-none plans = let n = length plans in record {
  hosts = length-replicate n 0;
  passes = record {
    rank = λ h m. 0;
    within = λ h. omega (arith, zero_at n h);
    rises = λ h m less. absurd (omega (arith, less, zero_at n h));
    behind = λ h m other i less needs. absurd (omega (arith, less, zero_at n h));
  };
  bound = 0;
  below = λ h m less. absurd (omega (arith, less, zero_at n h));
}

-- a host passes its next directive, which is free
pub HasPassed-more : (plans : List HostPlan) (passed : List ℕ) (host : ℕ) → host < length plans → HasPassed plans passed
    → slice_index passed host < length (list_at plans host) → IsFree plans passed host
    → HasPassed plans (slice_set passed host (slice_index passed host + 1))
HasPassed-more plans passed host within has left free =
    let now = slice_set passed host (slice_index passed host + 1) in
    let steps : Steps plans (slice_index passed) (slice_index now) host = record {
      at = get_or-set_same passed host (slice_index passed host + 1) 0 (omega (arith, within, has.hosts));
      others = λ h ne. get_or-set_other passed host h (slice_index passed host + 1) 0 ne;
    } in
    let more = passes_more plans (slice_index passed) (slice_index now) host steps has.passes has.bound has.below left free in
    record {
      hosts = length-set passed host (slice_index passed host + 1) ∙ has.hosts;
      passes = more.0;
      bound = has.bound + 1;
      below = more.1;
    }

-- and the sum of the counts grows by one
pub sum-more : (passed : List ℕ) (host : ℕ) → host < length passed → sum (slice_set passed host (slice_index passed host + 1)) ≡ sum passed + 1
sum-more passed host within = omega (arith, sum_by-set (λ x. x) passed host (slice_index passed host + 1) 0 within)

-- where a host passes a directive, more are passed than at the start, whether any were or none
pub sum_risen : (any : Bool) (start passed : List ℕ) (host : ℕ) → host < length passed → (any ≡ false → passed ≡ start)
    → (any ≡ true → sum start < sum passed) → sum start < sum (slice_set passed host (slice_index passed host + 1))
sum_risen true start passed host within none some = omega (arith, sum-more passed host within, some refl)
sum_risen false start passed host within none some = omega (arith, sum-more passed host within, ap sum (none refl))

-- no more directives are passed than the hosts have
pub sum_within : (plans : List HostPlan) (passed : List ℕ) → length passed ≡ length plans
    → ((host : ℕ) → slice_index passed host ≤ length (list_at plans host)) → sum passed ≤ sum_by (λ plan. length plan.list) plans
sum_within [] [] e few = omega arith
sum_within [] (x ∷ xs) e few = absurd (omega arith)
sum_within (plan ∷ plans) [] e few = absurd (omega arith)
sum_within (plan ∷ plans) (x ∷ xs) e few =
    let rest = sum_within plans xs (omega arith) (λ h. few (suc h)) in
    let here : x ≤ length plan.list = few 0 in
    omega (arith, rest, here, sum_by-cons (λ (n : ℕ). n) x xs, sum_by-cons (λ (p : HostPlan). length p.list) plan plans)
