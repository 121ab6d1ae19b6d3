-- A response leads to one place.
use Rattle.std.proofs.Common.{◌≡◌, ◌≢◌, ℕ, ◌+◌, inl, inr, Bool, true, false, Option, Some, None, refl, sym, ◌∙◌}
use Rattle.std.proofs.lemmas.Bool.{cases_eq}
use Rattle.ds_base.specs.declared.commands.Response.{Response}
use Rattle.ds_base.specs.declared.commands.Response.TheVariants.{Got, Done, Miscompare, Fault}
use Rattle.ds_base.specs.declared.geometry.Geom.{Geom}
use Rattle.ds_base.specs.declared.sectors.Sector.{Sector}
use Rattle.ds_marks.specs.SlotIn.{slot_in}
use Rattle.ds_marks.specs.declared.slot.Slot.{Slot}
use Rattle.ds_marks.specs.declared.slot.SlotState.{SlotState}
use Rattle.ds_marks.specs.declared.slot.SlotState.TheVariants.{Free, Live, Breaking}
use Rattle.ds_reg.specs.Registering.{slot_sector}
use Rattle.ds_reg.specs.Stages.{EndsOwn, Misses, Passes, Reads, Takes}
use Rattle.ds_reg.specs.declared.calls.RegCall.{RegCall}
use Rattle.ds_reg.specs.declared.calls.RegEnd.{RegEnd}
use Rattle.ds_reg.specs.declared.calls.RegEnd.TheVariants as ends
use Rattle.ds_reg.specs.declared.steps.Stage.{Stage}
use Rattle.ds_reg.specs.declared.steps.Stage.TheVariants as stages
use Rattle.ds_reg.specs.declared.steps.Went.{Went}
use Rattle.ds_reg.specs.declared.steps.Went.TheVariants as went

module _ (g : Geom) (slot : ℕ) where
  passes-one : (a b : Went) → Passes g slot a → Passes g slot b → a ≡ b
  passes-one a b p q = elim (cases_eq (slot + 1) g.slots) [
    | inl end ↦ p.last end ∙ sym (q.last end)
    | inr more ↦ p.more more ∙ sym (q.more more)
  ]

  module _ (missed : Bool) (image : Sector) where
    -- a sector that spells none is told
    pub reads-none : (next : Went) → slot_in slot image.bytes ≡ None → next ≡ went.Ended (ends.Damaged (slot_sector g slot))
        → Reads g slot missed image next
    reads-none next none is = record {
      damaged = λ _. is;
      free = λ found spelled free. absurd (let bad : None ≡ Some found = sym none ∙ spelled in let f : ⊥ = cc in f);
      taken = λ found spelled taken. absurd (let bad : None ≡ Some found = sym none ∙ spelled in let f : ⊥ = cc in f);
    }

    -- a free slot is entered
    pub reads-free : (next : Went) (found : Slot) → slot_in slot image.bytes ≡ Some found → found.state ≡ Free
        → next ≡ went.On (stages.Entering slot image found missed) → Reads g slot missed image next
    reads-free next found spelled free is = record {
      damaged = λ none. absurd (let bad : None ≡ Some found = sym none ∙ spelled in let f : ⊥ = cc in f);
      free = λ other was _. (let same : other ≡ found = cc in cc);
      taken = λ other was taken. absurd (taken (let same : other ≡ found = cc in cc));
    }

    -- any other is passed
    pub reads-taken : (next : Went) (found : Slot) → slot_in slot image.bytes ≡ Some found → found.state ≢ Free
        → Passes g slot next → Reads g slot missed image next
    reads-taken next found spelled taken is = record {
      damaged = λ none. absurd (let bad : None ≡ Some found = sym none ∙ spelled in let f : ⊥ = cc in f);
      free = λ other was free. absurd (taken (let same : other ≡ found = cc in cc));
      taken = λ other was _. is;
    }

    found-one : (a b : Went) (found : Slot) → slot_in slot image.bytes ≡ Some found → (state : SlotState) → found.state ≡ state
        → Reads g slot missed image a → Reads g slot missed image b → a ≡ b
    found-one a b found is Free e p q = p.free found is e ∙ sym (q.free found is e)
    found-one a b found is Live e p q =
        let taken : found.state ≢ Free = λ free. (let f : ⊥ = cc in f) in passes-one a b (p.taken found is taken) (q.taken found is taken)
    found-one a b found is (Breaking by generation) e p q =
        let taken : found.state ≢ Free = λ free. (let f : ⊥ = cc in f) in passes-one a b (p.taken found is taken) (q.taken found is taken)

    spelled-one : (a b : Went) (spelled : Option Slot) → slot_in slot image.bytes ≡ spelled → Reads g slot missed image a
        → Reads g slot missed image b
        → a ≡ b
    spelled-one a b None is p q = p.damaged is ∙ sym (q.damaged is)
    spelled-one a b (Some found) is p q = found-one a b found is found.state refl p q

    pub reads-one : (a b : Went) → Reads g slot missed image a → Reads g slot missed image b → a ≡ b
    reads-one a b p q = spelled-one a b (slot_in slot image.bytes) refl p q

own-one : (call : RegCall) (response : Response) (a b : Went) → EndsOwn call response a → EndsOwn call response b → a ≡ b
own-one call (Got s) a b p q = absurd p
own-one call Done a b p q = p ∙ sym q
own-one call (Miscompare offset) a b p q = p ∙ sym q
own-one call Fault a b p q = p ∙ sym q

misses-one : (slot : ℕ) (missed : Bool) (a b : Went) → Misses slot missed a → Misses slot missed b → a ≡ b
misses-one slot false a b p q = p ∙ sym q
misses-one slot true a b p q = p ∙ sym q

-- a response leads to one place
pub takes-one : (g : Geom) (call : RegCall) (stage : Stage) (response : Response) (a b : Went)
    → Takes g call stage response a → Takes g call stage response b → a ≡ b
takes-one g call (stages.Looking slot missed) (Got s) a b p q = reads-one g slot missed s a b p q
takes-one g call (stages.Looking slot missed) Done a b p q = absurd p
takes-one g call (stages.Looking slot missed) (Miscompare offset) a b p q = absurd p
takes-one g call (stages.Looking slot missed) Fault a b p q = p ∙ sym q
takes-one g call (stages.Entering slot image found missed) (Got s) a b p q = absurd p
takes-one g call (stages.Entering slot image found missed) Done a b p q = p ∙ sym q
takes-one g call (stages.Entering slot image found missed) (Miscompare offset) a b p q = misses-one slot missed a b p q
takes-one g call (stages.Entering slot image found missed) Fault a b p q = p ∙ sym q
takes-one g call stages.Own response a b p q = own-one call response a b p q
takes-one g call stages.Over response a b p q = absurd p

-- so a run that goes on doesn't end
pub goes-on-apart : (g : Geom) (call : RegCall) (stage : Stage) (response : Response) (next : Stage) (end : RegEnd)
    → Takes g call stage response (went.On next) → Takes g call stage response (went.Ended end) → ⊥
goes-on-apart g call stage response next end p q =
    let same : went.On next ≡ went.Ended end = takes-one g call stage response (went.On next) (went.Ended end) p q in
    let none : ⊥ = cc in
    none
