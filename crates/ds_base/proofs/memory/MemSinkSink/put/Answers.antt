use Rattle.std.proofs.Common.{◌≡◌, ℕ, ◌+◌, ◌≤◌, ◌⊎◌, inl, inr, List, length, take, Contains, vec_len, vec_capacity, ap, subst, sym, refl, ◌∙◌, length-take, arith}
use Rattle.ds_base.proofs.memory.MemSinkSink.put.Goals as goal
use Rattle.ds_base.proofs.memory.MemSinkSink.put.Goals.{then-n-eq0-via-then-n-eq0, then-n-eq0-via-else-n-eq0+then-is_listed, then-n-eq0-via-else-n-eq0+else-is_listed+then-is_err}

Contains-same : (xs ys : List ℕ) (x y : ℕ) → xs ≡ ys → x ≡ y → Contains xs x → Contains ys y
Contains-same xs ys x y lists numbers found = subst (λ zs. Contains zs y) lists (subst (λ z. Contains xs z) numbers found)

pub returns-then-n-eq0-clause-fails : goal.returns-then-n-eq0-clause-fails
returns-then-n-eq0-clause-fails c =
    let self = c.self.inside in
    let room : self.room ≡ c.args.self.now.room = ap (λ s. s.room) c.self.view_is in
    let taken : length self.bytes.items ≡ length c.args.self.now.taken = ap (λ s. length s.taken) c.self.view_is in
    let failing : self.failing.items ≡ c.args.self.now.failing = ap (λ s. s.failing) c.self.view_is in (
      λ _. elim c.then-n-eq0.branch as (λ _. Contains c.args.self.now.failing c.then-n-eq0.self-inside.calls ⊎ (c.args.self.now.room ≤ length c.args.self.now.taken)) [
        | then-n-eq0-via-then-n-eq0 w ↦ inr (omega (arith, c.self.inside.bytes.ok.0))
        | then-n-eq0-via-else-n-eq0+then-is_listed w ↦
            inl (Contains-same _ _ _ _ (w.deref.ensures.value ∙ failing) (sym (ap (λ s. s.calls) w.self-inside-is)) (w.is_listed.ensures.0 w.if-is_listed.true))
        | then-n-eq0-via-else-n-eq0+else-is_listed+then-is_err w ↦
            let fits : vec_len self.bytes + length (take c.min-n.result c.args.piece.now) ≤ vec_capacity self.bytes =
            omega (arith, length-take c.min-n.result c.args.piece.now, c.self.inside.bytes.ok.0) in
            let ok = w.extend_from_slice.ensures.succeeds fits in
            absurd (grind (arith, ok, w.is_err.ensures.value, w.is_err.ensures.negation, w.if-is_err.true))
      ],
      λ _. refl,
    )
