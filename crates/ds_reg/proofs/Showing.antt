-- What one more exchange shows.
use Rattle.std.proofs.Common.{◌≡◌, ◌≢◌, ℕ, zero, suc, ◌+◌, ◌<◌, ◌⊎◌, inl, inr, false, cond, List, [], ◌∷◌, Some}
use Rattle.std.proofs.Common.{refl, ap, subst, ◌∙◌, arith}
use Rattle.std.specs.List.{Contains}
use Rattle.std.proofs.lemmas.Bool.{eq-eqb, ne_eqb}
use Rattle.ds_base.specs.Device.{target_of}
use Rattle.ds_base.specs.Exchanges.{Exchange, IsLast, is_missed, missed_at, seen_of}
use Rattle.ds_base.specs.declared.commands.Command.{Command}
use Rattle.ds_base.specs.declared.commands.Command.TheVariants.{Read, Write, Swap}
use Rattle.ds_base.specs.declared.commands.Response.{Response}
use Rattle.ds_base.specs.declared.commands.Response.TheVariants.{Got, Done, Miscompare, Fault}
use Rattle.ds_base.specs.declared.geometry.Geom.{Geom}
use Rattle.ds_base.specs.declared.sectors.Sector.{Sector}
use Rattle.ds_marks.specs.SlotIn.{slot_in}
use Rattle.ds_marks.specs.declared.slot.Slot.{Slot}
use Rattle.ds_marks.specs.declared.slot.SlotState.TheVariants.{Free}
use Rattle.ds_reg.specs.Registering.{IsPassed, Missed, slot_sector}
use Rattle.ds_reg.specs.Stages.{IsUntried}

Contains-cases : {X : Type 0} (xs : List X) (y x : X) → Contains (y ∷ xs) x → (y ≡ x) ⊎ Contains xs x
Contains-cases xs y x (zero, within, is) = inl is
Contains-cases xs y x (suc k, within, is) = inr (k, omega (arith, within), is)

pub Contains-none : {X : Type 0} (x : X) → Contains [] x → ⊥
Contains-none x (k, within, is) = omega (arith, within)

pub Contains-first : {X : Type 0} (x : X) (xs : List X) → Contains (x ∷ xs) x
Contains-first x xs = (0, omega arith, refl)

Contains-more : {X : Type 0} (y : X) (xs : List X) (x : X) → Contains xs x → Contains (y ∷ xs) x
Contains-more y xs x (k, within, is) = (suc k, omega (arith, within), is)

-- what holds for the first and for those behind it holds for all
all-past : {X : Type 0} (P : X → Type 0) (xs : List X) (x : X) → P x → ((y : X) → Contains xs y → P y)
    → (y : X) → Contains (x ∷ xs) y → P y
all-past P xs x first all y has = elim (Contains-cases xs x y has) [
  | inl is ↦ subst P is first
  | inr there ↦ all y there
]

-- what is shown now is the last
pub last-now : (list : List (ℕ × Sector)) (at : ℕ) (s : Sector) → IsLast ((at, s) ∷ list) at s
last-now list at s = record { newer = []; older = list; parts = refl; newest = λ other has. Contains-none (at, other) has }

-- what was shown last stays so while another sector is shown
pub last-past : (list : List (ℕ × Sector)) (at other : ℕ) (s t : Sector) → other ≢ at → IsLast list at s → IsLast ((other, t) ∷ list) at s
last-past list at other s t differs last = record {
  newer = (other, t) ∷ last.newer;
  older = last.older;
  parts = ap (λ (l : List (ℕ × Sector)). (other, t) ∷ l) last.parts;
  newest = λ u has. elim (Contains-cases last.newer (other, t) (at, u) has) [
    | inl is ↦ differs (ap (λ (p : ℕ × Sector). p.0) is)
    | inr there ↦ last.newest u there
  ];
}

pub sectors-apart : (g : Geom) (one other : ℕ) → one ≢ other → slot_sector g one ≢ slot_sector g other
sectors-apart g one other differs same = differs (omega (arith, same))

-- a sector that no command named stays so while another is named
pub untried-past : (xs : List Exchange) (x : Exchange) (at : ℕ) → target_of x.command ≢ at → IsUntried xs at → IsUntried (x ∷ xs) at
untried-past xs x at differs untried = all-past (λ (y : Exchange). target_of y.command ≢ at) xs x differs untried

-- after an exchange that did nothing, nothing was done still
pub undone-past : (xs : List Exchange) (x : Exchange) → x.response ≢ Done → ((y : Exchange) → Contains xs y → y.response ≢ Done)
    → (y : Exchange) → Contains (x ∷ xs) y → y.response ≢ Done
undone-past xs x differs undone = all-past (λ (y : Exchange). y.response ≢ Done) xs x differs undone

untried-one : (at : ℕ) (command : Command) (response : Response) → target_of command ≢ at → is_missed at command response ≡ false
untried-one at (Swap target verify fresh) (Miscompare offset) differs = ne_eqb target at differs
untried-one at (Swap target verify fresh) (Got s) differs = refl
untried-one at (Swap target verify fresh) Done differs = refl
untried-one at (Swap target verify fresh) Fault differs = refl
untried-one at (Read target) response differs = refl
untried-one at (Write target fresh) response differs = refl

-- and no Swap of it missed
pub untried-unmissed : (at : ℕ) (xs : List Exchange) → IsUntried xs at → missed_at at xs ≡ 0
untried-unmissed at [] untried = refl
untried-unmissed at (x ∷ xs) untried =
    ap (λ test. cond test (missed_at at xs + 1) (missed_at at xs)) (untried-one at x.command x.response (untried x (Contains-first x xs)))
    ∙ untried-unmissed at xs (λ y has. untried y (Contains-more x xs y has))

module _ (g : Geom) (xs : List Exchange) (tick : ℕ) where
  -- slots that were passed stay so while another slot is read
  pub passed-read : (before slot : ℕ) (s : Sector) → before < slot → IsPassed g xs before
      → IsPassed g (record { command = Read (slot_sector g slot); response = Got s; tick = tick } ∷ xs) before
  passed-read before slot s less passed = record {
    sector = passed.sector;
    last = last-past (seen_of xs) (slot_sector g before) (slot_sector g slot) passed.sector s (sectors-apart g slot before (λ same. omega
        (arith, same, less))) passed.last;
    image = passed.image;
    spelled = passed.spelled;
    taken = passed.taken;
  }

  -- a slot is passed that was read just now
  pub passed-now : (slot : ℕ) (s : Sector) (image : Slot) → slot_in slot s.bytes ≡ Some image → image.state ≢ Free
      → IsPassed g (record { command = Read (slot_sector g slot); response = Got s; tick = tick } ∷ xs) slot
  passed-now slot s image spelled taken = record {
    sector = s;
    last = last-now (seen_of xs) (slot_sector g slot) s;
    image = image;
    spelled = spelled;
    taken = taken;
  }

  -- and while a Swap misses
  pub passed-missed : (at before offset : ℕ) (verify fresh : Sector) → IsPassed g xs before
      → IsPassed g (record { command = Swap at verify fresh; response = Miscompare offset; tick = tick } ∷ xs) before
  passed-missed at before offset verify fresh passed = record {
    sector = passed.sector;
    last = passed.last;
    image = passed.image;
    spelled = passed.spelled;
    taken = passed.taken;
  }

  -- a Swap that missed is still among the exchanges after one more
  abbrev pub missed-later : (x : Exchange) (slot : ℕ) → Missed g xs slot → Missed g (x ∷ xs) slot
  missed-later x slot missed = record {
    later = x ∷ missed.later;
    verify = missed.verify;
    fresh = missed.fresh;
    offset = missed.offset;
    tick = missed.tick;
    earlier = missed.earlier;
    parts = ap (λ (l : List Exchange). x ∷ l) missed.parts;
    last = missed.last;
  }

  pub count-missed : (at offset : ℕ) (verify fresh : Sector)
      → missed_at at (record { command = Swap at verify fresh; response = Miscompare offset; tick = tick } ∷ xs) ≡ missed_at at xs + 1
  count-missed at offset verify fresh = ap (λ test. cond test (missed_at at xs + 1) (missed_at at xs)) (eq-eqb at at refl)
