-- Each header that a host owes names the generation that it holds.
use Rattle.std.proofs.Common.{◌≡◌, ℕ, suc, zero, ◌≤◌, inl, inr, Bool, true, false, cond, List, [], ◌∷◌, ◌++◌, length, take, Option, Some, None, refl, sym, ◌∙◌, ap, subst, arith}
use Rattle.std.specs.Prelude.{◌==◌, not, filter}
use Rattle.std.specs.List.{Contains}
use Rattle.std.proofs.lemmas.Bool.{cases_eq}
use Rattle.ds_base.specs.declared.sectors.Sector.{Sector}
use Rattle.ds_base.specs.declared.commands.Command.TheVariants.{Swap}
use Rattle.ds_marks.specs.declared.header.Header.{Header}
use Rattle.ds_marks.specs.declared.header.Owner.{Owner}
use Rattle.ds_log.specs.Store.{after_step}
use Rattle.ds_conduct.specs.Digests.{Digest, Own, Owed, olds, owed_without, own_pair}
use Rattle.ds_conduct.specs.Guards.{MaySwap}
use Rattle.ds_marks.specs.HeaderIn.{header_in}
use Rattle.ds_conduct.specs.Headers.{IsOf, owner_of}
use Rattle.ds_conduct.specs.Settings.{Setting}
use Rattle.ds_conduct.specs.Kinds.{is_kind}
use Rattle.ds_conduct.proofs.KindsOf.{OwedNameOwn, point_of, kind-of}
use Rattle.ds_log.specs.Turns.{Part, Begins, Goes, Aside, Turn, sectors_after, started, turned, digest}
use Rattle.ds_log.specs.Histories.{IsNext, IsHistory}
use Rattle.ds_log.specs.Volumes.{Volume, setting_of}
use Rattle.ds_log.specs.Effects.{OwnChange, SameOwn, NoOwn, FreshOwn, OwedChange, SameOwed, NoOwed, OneOwed, LessOwed}
use Rattle.ds_log_slots.proofs.Lists.{Contains-cases, Contains-none, take-next}
use Rattle.ds_log_slots.proofs.Changes.{own-change, owed-change}
use Rattle.ds_log_slots.proofs.Growing.{digest-mover, digest-other}
use Rattle.ds_log_slots.proofs.NoneOwed.{NoneOwed, none-owed, started-owed}

filter-kept : (p : Owed → Bool) (xs : List Owed) (x : Owed) → Contains (filter p xs) x → Contains xs x
filter-kept p [] x has = absurd (Contains-none x has)
filter-kept p (y ∷ ys) x has = by_test (filter-kept p ys x) (p y) has
  where
    more : Contains ys x → Contains (y ∷ ys) x
    more h = (suc h.0, omega (arith, h.1), h.2)

    by_test : (Contains (filter p ys) x → Contains ys x) → (b : Bool) → Contains (cond b (y ∷ filter p ys) (filter p ys)) x
        → Contains (y ∷ ys) x
    by_test rest true has = elim (Contains-cases (filter p ys) y x has) [ inl is ↦ (0, omega arith, is) | inr later ↦ more (rest later) ]
    by_test rest false has = more (rest has)

-- an owed header of a call that begins was owed before, with the same image
olds-has : (xs : List Owed) (x : Owed) → Contains (olds xs) x → (y : Owed) × Contains xs y × (y.image ≡ x.image)
olds-has [] x has = absurd (Contains-none x has)
olds-has (y ∷ ys) x has =
    elim (Contains-cases (olds ys) (record { at = y.at; image = y.image; is_new = false }) x has) [
      | inl is ↦ (y, (0, omega arith, refl), ap (λ (o : Owed). o.image) is)
      | inr later ↦ let r = olds-has ys x later in (r.0, (suc r.1.0, omega (arith, r.1.1), r.1.2), r.2)
    ]

names-started : (d : Digest) (part : Part) → OwedNameOwn d → OwedNameOwn (started d part)
names-started d (Begins call) names own owed h holds has spelled =
    let r = olds-has d.owed owed has in names own r.0 h holds r.1 (ap (λ (s : Sector). header_in s.bytes) r.2 ∙ spelled)
names-started d Goes names own owed h holds has spelled = names own owed h holds has spelled
names-started d Aside names own owed h holds has spelled = names own owed h holds has spelled

module _ (setting : Setting) (now : ℕ) (old new : List Sector) (d d' : Digest) where
  -- a generation that was held, and one that is, are the same
  same-generation : OwnChange setting.geom now old new d d' → (own own' : Own) → d.own ≡ Some own → d'.own ≡ Some own'
      → (own.slot ≡ own'.slot) × (own.generation ≡ own'.generation)
  same-generation (SameOwn same untouched) own own' holds holds' =
      let e : own ≡ own' = cc in (ap (λ (o : Own). o.slot) e, ap (λ (o : Own). o.generation) e)
  same-generation (NoOwn none) own own' holds holds' = cc
  same-generation (FreshOwn o is fresh) own own' holds holds' =
      let e : o ≡ own' = cc in
      elim fresh.from [
        | inr none ↦ (let n = none.0 in cc)
        | inl h ↦
            let k : own ≡ h.own = (let p = h.holds in cc) in (
              ap (λ (x : Own). x.slot) k ∙ h.same_slot ∙ ap (λ (x : Own). x.slot) e,
              ap (λ (x : Own). x.generation) k ∙ h.same_generation ∙ ap (λ (x : Own). x.generation) e,
            )
      ]

  names-kept : OwnChange setting.geom now old new d d' → NoneOwed d → OwedNameOwn d → (own' : Own) (owed : Owed) (h : Header)
      → d'.own ≡ Some own' → Contains d.owed owed
      → header_in owed.image.bytes ≡ Some h → (owner : Owner) × (h.owner ≡ Some owner) × IsOf owner own'.slot own'.generation
  names-kept change none names own' owed h holds' has spelled = by_own d.own refl
    where
      by_own : (own : Option Own) → d.own ≡ own → (owner : Owner) × (h.owner ≡ Some owner) × IsOf owner own'.slot own'.generation
      by_own None holds = absurd (Contains-none owed (subst (λ l. Contains l owed) (none holds) has))
      by_own (Some own) holds =
          let r = names own owed h holds has spelled in
          let same = same-generation change own own' holds holds' in
          (r.0, r.1, record { same_slot = r.2.same_slot ∙ same.0; same_generation = r.2.same_generation ∙ same.1 })

  names-mover : OwnChange setting.geom now old new d d' → OwedChange setting now old new d d' → NoneOwed d → OwedNameOwn d → OwedNameOwn d'
  names-mover change (SameOwed same) none names own' owed h holds' has spelled =
      names-kept change none names own' owed h holds' (subst (λ l. Contains l owed) same has) spelled
  names-mover change (NoOwed no_own nothing) none names own' owed h holds' has spelled = cc
  names-mover change (OneOwed at verify fresh found there r is) none names own' owed h holds' has spelled =
      elim (Contains-cases (owed_without at d.owed)
      (record { at = at; image = fresh; is_new = true }) owed (subst (λ l. Contains l owed) is has)) [
        | inl e ↦
            let images : fresh ≡ owed.image = ap (λ (o : Owed). o.image) e in
            let spelled' : header_in fresh.bytes ≡ Some h = ap (λ (s : Sector). header_in s.bytes) images ∙ spelled in
            let same : r.swap.new ≡ h = (let p = r.swap.is in cc) in
            let generations = same-generation change r.own own' r.holds holds' in (
              owner_of setting r.own,
              ap (λ (x : Header). x.owner) (sym same) ∙ r.owned,
              record { same_slot = generations.0; same_generation = generations.1 },
            )
        | inr before ↦ names-kept change none names own' owed h holds'
            (filter-kept (λ (o : Owed). not (o.at == at)) d.owed owed before) spelled
      ]
  names-mover change (LessOwed at verify fresh found there r is) none names own' owed h holds' has spelled =
      names-kept change none names own' owed h holds'
      (filter-kept (λ (o : Owed). not (o.at == at)) d.owed owed (subst (λ l. Contains l owed) is has)) spelled

module _ (volume : Volume) (start : List Sector) where
  names-push : (ts : List Turn) (t : Turn) → ((i : ℕ) → OwedNameOwn (digest volume.geom i ts)) → IsNext volume start ts t → (i : ℕ)
      → OwedNameOwn (digest volume.geom i (ts ++ t ∷ []))
  names-push ts t names next i =
      let setting : Setting = setting_of volume t.event.host in
      let s : List Sector = sectors_after start ts in
      let d0 : Digest = digest volume.geom t.event.host ts in
      elim (cases_eq t.event.host i) [
        | inl is ↦ subst OwedNameOwn (sym (digest-mover volume.geom i ts t is))
            (names-mover setting t.event.at s (after_step s t.event.step) (started d0 t.part) (turned volume.geom d0 t)
            (own-change setting s d0 t next.obeys) (owed-change setting s d0 t next.obeys)
            (started-owed d0 t.part (none-owed volume.geom t.event.host ts)) (names-started d0 t.part (names t.event.host)))
        | inr other ↦ subst OwedNameOwn (sym (digest-other volume.geom i ts t other)) (names i)
      ]

  module _ (turns : List Turn) (history : IsHistory volume start turns) where
    -- at every moment
    pub owed-names : (n : ℕ) → n ≤ length turns → (i : ℕ) → OwedNameOwn (digest volume.geom i (take n turns))
    owed-names zero h = λ i own owed header holds has spelled. absurd (Contains-none owed has)
    owed-names (suc n) h =
        let e = take-next turns n (omega arith) in
        λ i. subst (λ l. OwedNameOwn (digest volume.geom i l)) (sym e.2)
        (names-push (take n turns) e.0 (owed-names n (omega arith)) (history.each n e.0 e.1) i)

    -- so each Swap that is sent is of its kind
    pub swap-kind : (n : ℕ) (t : Turn) (at : ℕ) (verify fresh : Sector) → n ≤ length turns
        → (may : MaySwap (setting_of volume t.event.host)
        (started (digest volume.geom t.event.host (take n turns)) t.part) t.event.at at verify fresh)
        → is_kind volume.geom (point_of may) (own_pair (started (digest volume.geom t.event.host (take n turns)) t.part).own)
        (Swap at verify fresh) ≡ true
    swap-kind n t at verify fresh h may =
        kind-of (setting_of volume t.event.host)
        (started (digest volume.geom t.event.host (take n turns)) t.part) t.event.at at verify fresh (names-started
        (digest volume.geom t.event.host (take n turns)) t.part (owed-names n h t.event.host)) may
