-- A log with one event more: how far its hosts have come.
use Rattle.std.proofs.Common.{◌≡◌, ℕ, ◌==◌, inl, inr, Bool, true, false, List, [], ◌∷◌, ◌++◌, refl, ap, sym, ◌∙◌}
use Rattle.std.proofs.lemmas.Bool.Decides.{eqb_tells}
use Rattle.std.proofs.lemmas.List.{append_assoc, append-nil}
use Rattle.std.specs.Prelude.{if◌then◌else◌}
use Rattle.ds_tree.specs.declared.scenarios.HostPlan.{HostPlan}
use Rattle.ds_log_order.specs.HostFacts.{HostFacts}
use Rattle.ds_log_order.specs.LogProgress.{moved, moved_own, progress, progress_from}
use Rattle.ds_log_order.specs.Progress.{at_start}
use Rattle.ds_log_order.specs.Told.{Told}
use Rattle.ds_log_order.specs.declared.progress.Progress.{Progress}

-- the second of two where the test fails, and the first where it passes
pub choose : {A : Type 0} (b : Bool) (p q : A) → b ≡ false → (if b then p else q) ≡ q
choose true p q e = absurd cc
choose false p q e = refl

pub choose_first : {A : Type 0} (b : Bool) (p q : A) → b ≡ true → (if b then p else q) ≡ p
choose_first true p q e = refl
choose_first false p q e = absurd cc

module _ (facts : HostFacts) (plans : List HostPlan) (host : ℕ) where
  from-push : (past : List Told) (p : Progress) (log : List Told) (t : Told)
      → progress_from facts plans host past p (log ++ t ∷ [])
      ≡ moved facts plans host (past ++ log) (progress_from facts plans host past p log) t
  from-push past p [] t = ap (λ (ps : List Told). moved facts plans host ps p t) (sym (append-nil past))
  from-push past p (u ∷ log) t =
      let q = moved facts plans host past p u in
      let last = progress_from facts plans host (past ++ u ∷ []) q log in
      from-push (past ++ u ∷ []) q log t
      ∙ ap (λ (ps : List Told). moved facts plans host ps last t) (append_assoc past (u ∷ []) log)

  pub progress-push : (log : List Told) (t : Told)
      → progress facts plans host (log ++ t ∷ []) ≡ moved facts plans host log (progress facts plans host log) t
  progress-push log t = from-push [] at_start log t

  -- a host has come no further by an event of another
  pub progress-other : (log : List Told) (t : Told) → (t.event.host ≡ host → ⊥)
      → progress facts plans host (log ++ t ∷ []) ≡ progress facts plans host log
  progress-other log t other =
      progress-push log t ∙ (elim (eqb_tells t.event.host host) [
        | inl same ↦ absurd (other same.1)
        | inr differs ↦ choose {A = Progress} (t.event.host == host) (moved_own facts plans host log (progress facts plans host log) t)
            (progress facts plans host log) differs.0
      ])

  pub progress-own : (log : List Told) (t : Told) → t.event.host ≡ host
      → progress facts plans host (log ++ t ∷ []) ≡ moved_own facts plans host log (progress facts plans host log) t
  progress-own log t own =
      progress-push log t ∙ (elim (eqb_tells t.event.host host) [
        | inl same ↦ choose_first {A = Progress} (t.event.host == host) (moved_own facts plans host log (progress facts plans host log) t)
            (progress facts plans host log) same.0
        | inr differs ↦ absurd (differs.1 own)
      ])

  -- what a start has, and each event keeps
  pub progress-keeps : (P : Progress → Type 0) → P at_start
      → ((past : List Told) (p : Progress) (t : Told) → P p → P (moved_own facts plans host past p t)) → (log : List Told)
      → P (progress facts plans host log)
  progress-keeps P start step log = from [] at_start log start where
    one : (past : List Told) (p : Progress) (t : Told) → P p → P (moved facts plans host past p t)
    one past p t h =
        elim (t.event.host == host) as (λ (b : Bool). P (if b then moved_own facts plans host past p t else p))
        [ true ↦ step past p t h | false ↦ h ]

    from : (past : List Told) (p : Progress) (ts : List Told) → P p → P (progress_from facts plans host past p ts)
    from past p [] h = h
    from past p (t ∷ ts) h = from (past ++ t ∷ []) (moved facts plans host past p t) ts (one past p t h)
