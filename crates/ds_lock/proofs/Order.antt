-- In which order a pass was shown what it was shown.
use Rattle.std.proofs.Common.{◌≡◌, ◌≢◌, ℕ, inl, inr, List, [], ◌∷◌, ◌++◌, sym, ap, subst, ◌∙◌}
use Rattle.std.specs.List.{Contains}
use Rattle.std.proofs.lemmas.List.Elements.{Contains-append_cases, Contains-append_right}
use Rattle.ds_base.specs.Exchanges.{Exchange, IsLast, seen_of}
use Rattle.ds_base.specs.declared.commands.Command.{Command}
use Rattle.ds_base.specs.declared.commands.Command.TheVariants.{Read, Write, Swap}
use Rattle.ds_base.specs.declared.sectors.Sector.{Sector}
use Rattle.ds_marks.specs.declared.header.Header.{Header}
use Rattle.ds_marks.specs.declared.slot.Slot.{Slot}
use Rattle.ds_lock.specs.Locking.{IsShown, IsSlotRead, IsSlotShown, header_image, lock_sector, read_of, slot_image, slot_sector}
use Rattle.ds_lock.specs.declared.steps.Wanted.{Wanted}
use Rattle.ds_lock.proofs.Shown.{Contains-cases, Contains-none, header-apart, seen_of-append}

abbrev Pair : Type 0
Pair = ℕ × Sector

-- another element of a list stands before its last one
before-last : {X : Type 0} → (front newer older : List X) (x y : X) → x ≢ y → front ++ x ∷ [] ≡ newer ++ y ∷ older
    → (middle : List X) × (older ≡ middle ++ x ∷ []) × (front ≡ newer ++ y ∷ middle)
before-last [] [] older x y differs same = absurd (differs (cc))
before-last [] (b ∷ []) older x y differs same = cc
before-last [] (b ∷ c ∷ newer) older x y differs same = cc
before-last (a ∷ front) [] older x y differs same = (front, (cc), (cc))
before-last (a ∷ front) (b ∷ newer) older x y differs same =
    let rest = before-last front newer older x y differs (cc) in
    (rest.0, rest.1, cc (rest.2))

module _ (w : Wanted) (pass : List Exchange) (h : Header) (shown : IsShown w pass h) where
  abbrev header_read : Exchange
  header_read = read_of (lock_sector w.geom w.object) (header_image h) shown.tick

  seen : seen_of pass ≡ seen_of shown.later ++ (lock_sector w.geom w.object, header_image h) ∷ []
  seen = ap seen_of shown.parts ∙ seen_of-append shown.later (header_read ∷ [])

  -- what was shown of other sectors was shown after the header
  pub seen-later : (at : ℕ) (s : Sector) → at ≢ lock_sector w.geom w.object → Contains (seen_of pass) (at, s)
      → Contains (seen_of shown.later) (at, s)
  seen-later at s differs has = elim (Contains-append_cases (seen_of shown.later)
      ((lock_sector w.geom w.object, header_image h) ∷ []) (at, s) (subst (λ (ps : List Pair). Contains ps (at, s)) seen has)) [
        | inl after ↦ after
        | inr first ↦ elim (Contains-cases [] (lock_sector w.geom w.object, header_image h) (at, s) first) [
          | inl same ↦ absurd (differs (sym (ap (λ (p : Pair). p.0) same)))
          | inr none ↦ absurd (Contains-none (at, s) none)
        ]
      ]

  pub last-later : (at : ℕ) (s : Sector) → at ≢ lock_sector w.geom w.object → IsLast (seen_of pass) at s
      → IsLast (seen_of shown.later) at s
  last-later at s differs last =
      let split = before-last (seen_of shown.later) last.newer last.older (lock_sector w.geom w.object, header_image h) (at, s)
      (λ same. differs (sym (ap (λ (p : Pair). p.0) same))) (sym seen ∙ last.parts) in
      record { newer = last.newer; older = split.0; parts = split.2; newest = last.newest }

  -- so a slot that was shown was shown after it
  pub slot-later : (slot : ℕ) (s : Slot) → IsSlotShown w pass slot s → IsSlotShown w shown.later slot s
  slot-later slot s there = record {
    within = there.within;
    last = last-later (slot_sector w.geom slot) (slot_image slot s) (header-apart w.geom w.object slot there.within) there.last;
    is_slot = there.is_slot;
  }

  module _ (slot : ℕ) (s : Slot) (read : IsSlotRead w pass slot s) where
    abbrev slot_read : Exchange
    slot_read = read_of (slot_sector w.geom slot) (slot_image slot s) read.tick

    abbrev sector_of : Exchange → ℕ
    sector_of x = sector_by x.command
      where
        sector_by : Command → ℕ
        sector_by (Read at) = at
        sector_by (Write at fresh) = at
        sector_by (Swap at verify fresh) = at

    between : (middle : List Exchange) × (read.earlier ≡ middle ++ header_read ∷ []) × (shown.later ≡ read.later ++ slot_read ∷ middle)
    between = before-last shown.later read.later read.earlier header_read slot_read
        (λ same. header-apart w.geom w.object slot read.within (sym (ap sector_of same))) (sym shown.parts ∙ read.parts)

    -- a slot that was read was read after the header
    pub read-after : (middle : List Exchange) × (pass ≡ read.later ++ slot_read ∷ (middle ++ header_read ∷ []))
    read-after = (
      between.0,
      read.parts ∙ ap (λ (l : List Exchange). read.later ++ slot_read ∷ l) between.1,
    )

    -- and what was sent before that had shown the header
    pub shown-before : IsShown w read.earlier h
    shown-before = record {
      later = between.0;
      tick = shown.tick;
      parts = between.1;
      apart = λ sector has. shown.apart sector
          (subst (λ (l : List Exchange). Contains (seen_of l) (lock_sector w.geom w.object, sector)) (sym between.2)
          (subst (λ (ps : List Pair). Contains ps (lock_sector w.geom w.object, sector)) (sym (seen_of-append read.later (slot_read
          ∷ between.0)))
          (Contains-append_right (seen_of read.later) (seen_of (slot_read ∷ between.0)) (lock_sector w.geom w.object, sector)
          (Contains-append_right ((slot_sector w.geom slot, slot_image slot s) ∷ []) (seen_of between.0)
          (lock_sector w.geom w.object, sector) has))));
      is_header = shown.is_header;
      same_object = shown.same_object;
    }
