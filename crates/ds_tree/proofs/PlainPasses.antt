-- Laws of the plain pass: what can pass doesn't depend on the order in which the hosts are gone through.
use Rattle.std.proofs.Common.{◌≡◌, ℕ, zero, suc, ◌+◌, ◌-◌, ◌≤◌, ◌<◌, inl, inr, List, length, ap, sym, ◌∙◌, arith}
use Rattle.std.proofs.lemmas.Bool.{cases_lt}
use Rattle.ds_tree.specs.declared.scenarios.HostPlan.{HostPlan}
use Rattle.ds_tree.specs.PlainPass.{list_at, Passes, PassesAll, IsStopped, IsStuck, IsRanked}

module _ (plans : List HostPlan) where
  -- ranks rise along a host's directives
  rank_along : (passed : ℕ → ℕ) (p : Passes plans passed) (host n more : ℕ) → n + more < passed host → p.rank host n ≤ p.rank host (n + more)
  rank_along passed p host n zero less = let e : n + 0 ≡ n = omega arith in omega (arith, ap (p.rank host) e)
  rank_along passed p host n (suc more) less =
      let e : n + suc more ≡ n + more + 1 = omega arith in
      omega (arith, rank_along passed p host n more (omega arith), p.rises host (n + more) (omega arith), ap (p.rank host) e)

  rank_rises : (passed : ℕ → ℕ) (p : Passes plans passed) (host n m : ℕ) → n ≤ m → m < passed host → p.rank host n ≤ p.rank host m
  rank_rises passed p host n m le less =
      let e : n + (m - n) ≡ m = omega arith in
      omega (arith, rank_along passed p host n (m - n) (omega arith), ap (p.rank host) e)

  -- every directive that can pass, of a rank below a bound, is passed wherever the hosts come to a stop
  reached : (passed stop : ℕ → ℕ) (p : Passes plans passed) → IsStopped plans stop
      → (bound host n : ℕ) → n < passed host → p.rank host n < bound → n < stop host
  reached passed stop p stops zero host n less low = absurd (omega arith)
  reached passed stop p stops (suc bound) host n less low = elim (cases_lt n (stop host)) [
    | inl there ↦ there
    | inr short ↦
        let held = stops host (omega (arith, p.within host)) in
        let behind = p.behind host (stop host) held.other held.i (omega arith) held.needs in
        let along = rank_rises passed p host (stop host) n short less in
        absurd (omega (arith, reached passed stop p stops bound held.other held.i behind.0 (omega (arith, behind.1)), held.ahead))
  ]

  pub within_stop : (passed stop : ℕ → ℕ) → Passes plans passed → IsStopped plans stop → (host : ℕ) → passed host ≤ stop host
  within_stop passed stop p stops host = elim (cases_lt (stop host) (passed host)) [
    | inl more ↦ absurd (omega (arith, reached passed stop p stops (p.rank host (stop host) + 1) host (stop host) more (omega arith)))
    | inr within ↦ within
  ]

  -- a scenario isn't both passed and stuck
  pub one_answer : (host directive : ℕ) → PassesAll plans → IsStuck plans host directive → ⊥
  one_answer host directive all stuck =
      omega (arith, within_stop (λ h. length (list_at plans h)) stuck.passed all stuck.stops host, stuck.left)

  -- the hosts come to one stop
  pub same_stop : (passed stop : ℕ → ℕ) → Passes plans passed → IsStopped plans passed → Passes plans stop → IsStopped plans stop
      → (host : ℕ) → passed host ≡ stop host
  same_stop passed stop p stopped q stops host =
      omega (arith, within_stop passed stop p stops host, within_stop stop passed q stopped host)

  -- the counts at which a stuck scenario stops are the same in each of its answers
  pub same_passed : (host directive host' directive' : ℕ) (a : IsStuck plans host directive) (b : IsStuck plans host' directive') → (h : ℕ)
      → a.passed h ≡ b.passed h
  same_passed host directive host' directive' a b = same_stop a.passed b.passed a.passes a.stops b.passes b.stops

  -- the first host that isn't at its end isn't behind another such host
  none_before : (host directive host' directive' : ℕ) → IsStuck plans host directive → IsStuck plans host' directive' → host ≤ host'
  none_before host directive host' directive' a b = elim (cases_lt host' host) [
    | inl before ↦ absurd (omega (arith, a.first host' before, b.left, same_passed host directive host' directive' a b host'))
    | inr within ↦ within
  ]

  -- a stuck scenario is stuck at one directive
  pub same_stuck : (host directive host' directive' : ℕ) → IsStuck plans host directive → IsStuck plans host' directive'
      → (host ≡ host') × (directive ≡ directive')
  same_stuck host directive host' directive' a b =
      let hosts : host ≡ host' =
      omega (arith, none_before host directive host' directive' a b, none_before host' directive' host directive b a) in
      (hosts, a.next ∙ ap (λ n. n + 1) (same_passed host directive host' directive' a b host ∙ ap b.passed hosts) ∙ sym b.next)

  -- the directives of a scenario that passes have ranks
  pub ranked : (all : PassesAll plans) → IsRanked plans all.rank
  ranked all = record {
    rises = λ host n m less within.
        omega (arith, all.rises host n (omega arith), rank_rises (λ h. length (list_at plans h)) all host (n + 1) m (omega arith) within);
    behind = λ host n other i within needs. (all.behind host n other i within needs).1;
  }

  -- and a scenario whose directives have ranks passes
  pub passes_ranked : (rank : ℕ → ℕ → ℕ) → IsRanked plans rank → PassesAll plans
  passes_ranked rank r = record {
    rank = rank;
    within = λ host. omega arith;
    rises = λ host n less. r.rises host n (n + 1) (omega arith) less;
    behind = λ host n other i less needs. (needs.listed, r.behind host n other i less needs);
  }
