-- What one more exchange shows, and what stays shown.
use Rattle.std.proofs.Common.{◌≡◌, ◌≢◌, ℕ, zero, suc, ◌+◌, ◌*◌, ◌-◌, ◌/◌, ◌%◌, ◌<◌, ◌≤◌, ◌⊎◌, inl, inr, cond, true, false, List, [], ◌∷◌, ◌++◌, refl, sym, ap, subst, ◌∙◌, append_assoc, arith}
use Rattle.std.specs.Prelude.{nat_lt}
use Rattle.std.specs.List.{Contains}
use Rattle.std.proofs.lemmas.Bool.{cases_Bool}
use Rattle.std.proofs.lemmas.List.Elements.{Contains-append_cases}
use Rattle.ds_base.specs.Exchanges.{Exchange, IsLast, seen_of, seen_with}
use Rattle.ds_base.specs.Geometry.{IsGeom}
use Rattle.ds_base.specs.declared.geometry.GeomField.TheVariants.{Slots}
use Rattle.ds_base.specs.declared.commands.Command.{Command}
use Rattle.ds_base.specs.declared.commands.Command.TheVariants.{Read, Write, Swap}
use Rattle.ds_base.specs.declared.commands.Response.{Response}
use Rattle.ds_base.specs.declared.commands.Response.TheVariants.{Got, Done, Miscompare, Fault}
use Rattle.ds_base.specs.declared.geometry.Geom.{Geom}
use Rattle.ds_base.specs.declared.sectors.Sector.{Sector}
use Rattle.ds_layout.specs.Places.{cluster_at, clusters_at, descriptors_at, header_sector, kind_numbered}
use Rattle.ds_lock.specs.Locking.{IsBreakerRead, IsOwned, IsOwnedBy, IsShown, IsSlotNewest, IsSlotRead, IsSlotShown, IsUnshown, header_image, lock_sector, read_of, slot_image, slot_sector}
use Rattle.ds_lock.specs.declared.steps.Wanted.{Wanted}
use Rattle.ds_marks.specs.declared.header.Header.{Header}
use Rattle.ds_marks.specs.declared.header.Owner.{Owner}
use Rattle.ds_marks.specs.declared.slot.Slot.{Slot}

abbrev Pair : Type 0
Pair = ℕ × Sector

-- a volume has at most 16 slots
pub few-slots : (g : Geom) (slot : ℕ) → IsGeom g → slot < g.slots → slot < 16
few-slots g slot is within = let most : g.slots ≤ 16 = (is Slots).1 in omega (arith, most, within)

pub Contains-cases : (xs : List Pair) (y x : Pair) → Contains (y ∷ xs) x → (y ≡ x) ⊎ Contains xs x
Contains-cases xs y x (zero, within, is) = inl is
Contains-cases xs y x (suc k, within, is) = inr (k, omega (arith, within), is)

pub Contains-none : (x : Pair) → Contains [] x → ⊥
Contains-none x (k, within, is) = omega (arith, within)

-- what is shown now is the last
pub last-now : (list : List Pair) (at : ℕ) (s : Sector) → IsLast ((at, s) ∷ list) at s
last-now list at s = record { newer = []; older = list; parts = refl; newest = λ other has. Contains-none (at, other) has }

abbrev below : Geom → ℕ → ℕ
below g object = descriptors_at g + 2 * object

abbrev above : Geom → ℕ → ℕ
above g object = cluster_at g (kind_numbered ((object - 2048) / 8)) ((object - 2048) % 8)

header_above : (g : Geom) (object : ℕ) → clusters_at g ≤ header_sector g object
header_above g object = by (cases_Bool (nat_lt object 2048))
  where
    by : (nat_lt object 2048 ≡ true) ⊎ (nat_lt object 2048 ≡ false) → clusters_at g ≤ header_sector g object
    by (inl is) = subst (λ t. clusters_at g ≤ cond t (below g object) (above g object)) (sym is) (omega arith)
    by (inr is) = subst (λ t. clusters_at g ≤ cond t (below g object) (above g object)) (sym is) (omega arith)

-- a header is no slot
pub header-apart : (g : Geom) (object slot : ℕ) → slot < g.slots → slot_sector g slot ≢ lock_sector g object
header-apart g object slot within same = omega (arith, header_above g object, within, same)

pub slots-apart : (g : Geom) (one other : ℕ) → one ≢ other → slot_sector g one ≢ slot_sector g other
slots-apart g one other differs same = differs (omega (arith, same))

seen_with-append : (command : Command) (response : Response) (ps qs : List Pair) → seen_with command response (ps
    ++ qs) ≡ seen_with command response ps ++ qs
seen_with-append (Read at) (Got s) ps qs = refl
seen_with-append (Read at) Done ps qs = refl
seen_with-append (Read at) (Miscompare o) ps qs = refl
seen_with-append (Read at) Fault ps qs = refl
seen_with-append (Write at f) (Got s) ps qs = refl
seen_with-append (Write at f) Done ps qs = refl
seen_with-append (Write at f) (Miscompare o) ps qs = refl
seen_with-append (Write at f) Fault ps qs = refl
seen_with-append (Swap at v f) (Got s) ps qs = refl
seen_with-append (Swap at v f) Done ps qs = refl
seen_with-append (Swap at v f) (Miscompare o) ps qs = refl
seen_with-append (Swap at v f) Fault ps qs = refl

pub seen_of-append : (xs ys : List Exchange) → seen_of (xs ++ ys) ≡ seen_of xs ++ seen_of ys
seen_of-append [] ys = refl
seen_of-append (x ∷ xs) ys =
    ap (seen_with x.command x.response) (seen_of-append xs ys) ∙ seen_with-append x.command x.response (seen_of xs) (seen_of ys)

-- what was shown last stays so with what came before it
pub last-lifts : (xs ys : List Exchange) (at : ℕ) (s : Sector) → IsLast (seen_of xs) at s → IsLast (seen_of (xs ++ ys)) at s
last-lifts xs ys at s last = record {
  newer = last.newer;
  older = last.older ++ seen_of ys;
  parts = seen_of-append xs ys ∙ (ap (λ (ps : List Pair). ps ++ seen_of ys) last.parts ∙ append_assoc last.newer ((at, s)
      ∷ last.older) (seen_of ys));
  newest = last.newest;
}

-- what was shown last stays so while others are shown
pub last-stays : (xs ys : List Exchange) (at : ℕ) (s : Sector) → IsUnshown xs at → IsLast (seen_of ys) at s
    → IsLast (seen_of (xs ++ ys)) at s
last-stays xs ys at s none last = record {
  newer = seen_of xs ++ last.newer;
  older = last.older;
  parts = seen_of-append xs ys ∙ (ap (λ (ps : List Pair). seen_of xs ++ ps) last.parts ∙ sym (append_assoc (seen_of xs) last.newer ((at, s)
      ∷ last.older)));
  newest = λ other has. elim (Contains-append_cases (seen_of xs) last.newer (at, other) has) [
    | inl front ↦ none other front
    | inr back ↦ last.newest other back
  ];
}

-- a Read of another sector doesn't show it
unshown-other : (at other tick : ℕ) (sector : Sector) → other ≢ at → IsUnshown (read_of other sector tick ∷ []) at
unshown-other at other tick sector differs s has = elim (Contains-cases [] (other, sector) (at, s) has) [
  | inl is ↦ differs (ap (λ (p : Pair). p.0) is)
  | inr there ↦ Contains-none (at, s) there
]

pub unshown-more : (xs ys : List Exchange) (at : ℕ) → IsUnshown xs at → IsUnshown ys at → IsUnshown (xs ++ ys) at
unshown-more xs ys at none nor s has = elim (Contains-append_cases (seen_of xs) (seen_of ys) (at, s)
    (subst (λ ps. Contains ps (at, s)) (seen_of-append xs ys) has)) [
      | inl front ↦ none s front
      | inr back ↦ nor s back
    ]

-- a header stays shown while others are
pub shown-more : (w : Wanted) (xs pass : List Exchange) (h : Header) → IsUnshown xs (lock_sector w.geom w.object) → IsShown w pass h
    → IsShown w (xs ++ pass) h
shown-more w xs pass h none shown = record {
  later = xs ++ shown.later;
  tick = shown.tick;
  parts = ap (λ (l : List Exchange). xs ++ l) shown.parts ∙ sym (append_assoc xs shown.later (read_of (lock_sector w.geom w.object)
      (header_image h) shown.tick ∷ []));
  apart = unshown-more xs shown.later (lock_sector w.geom w.object) none shown.apart;
  is_header = shown.is_header;
  same_object = shown.same_object;
}

-- what was read and not shown since was shown last
read-last : (later earlier : List Exchange) (at tick : ℕ) (s : Sector) → IsUnshown later at
    → IsLast (seen_of (later ++ read_of at s tick ∷ earlier)) at s
read-last later earlier at tick s none = last-stays later (read_of at s tick ∷ earlier) at s none (last-now (seen_of earlier) at s)

-- a header that was shown was shown last
pub shown-last : (w : Wanted) (pass : List Exchange) (h : Header) → IsShown w pass h
    → IsLast (seen_of pass) (lock_sector w.geom w.object) (header_image h)
shown-last w pass h shown = subst (λ p. IsLast (seen_of p) (lock_sector w.geom w.object) (header_image h)) (sym shown.parts)
    (read-last shown.later [] (lock_sector w.geom w.object) shown.tick (header_image h) shown.apart)

-- and so was a slot that was read
pub read-shown : (w : Wanted) (pass : List Exchange) (slot : ℕ) (s : Slot) → IsSlotRead w pass slot s → IsSlotShown w pass slot s
read-shown w pass slot s read = record {
  within = read.within;
  last = subst (λ p. IsLast (seen_of p) (slot_sector w.geom slot) (slot_image slot s)) (sym read.parts)
      (read-last read.later read.earlier (slot_sector w.geom slot) read.tick (slot_image slot s) read.apart);
  is_slot = read.is_slot;
}

-- and a slot whose Read is the newest exchange was read and not shown since
abbrev pub newest-read : (w : Wanted) (tick : ℕ) (pass : List Exchange) (slot : ℕ) (s : Slot) → IsSlotNewest w tick pass slot s
    → IsSlotRead w pass slot s
newest-read w tick pass slot s newest = record {
  within = newest.within;
  later = [];
  tick = tick;
  earlier = newest.earlier;
  parts = newest.newest;
  apart = λ other has. Contains-none (slot_sector w.geom slot, other) has;
  is_slot = newest.is_slot;
}

module _ (w : Wanted) (pass : List Exchange) (tick slot : ℕ) (sector : Sector) (within : slot < w.geom.slots) where
  abbrev read : List Exchange
  read = read_of (slot_sector w.geom slot) sector tick ∷ pass

  -- a header stays shown while a slot is read
  shown-past : (h : Header) → IsShown w pass h → IsShown w read h
  shown-past h shown = shown-more w (read_of (slot_sector w.geom slot) sector tick ∷ []) pass h
      (unshown-other (lock_sector w.geom w.object) (slot_sector w.geom slot) tick sector (header-apart w.geom w.object slot within)) shown

  pub owned-past : (h : Header) (o : Owner) → IsOwned w pass h o → IsOwned w read h o
  owned-past h o owned = record { shown = shown-past h owned.shown; owned = owned.owned }

  -- and so does another slot
  slot-past : (other : ℕ) (s : Slot) → slot ≢ other → IsSlotRead w pass other s → IsSlotRead w read other s
  slot-past other s differs there = record {
    within = there.within;
    later = read_of (slot_sector w.geom slot) sector tick ∷ there.later;
    tick = there.tick;
    earlier = there.earlier;
    parts = ap (λ (l : List Exchange). read_of (slot_sector w.geom slot) sector tick ∷ l) there.parts;
    apart = unshown-more (read_of (slot_sector w.geom slot) sector tick ∷ []) there.later (slot_sector w.geom other)
        (unshown-other (slot_sector w.geom other) (slot_sector w.geom slot) tick sector (slots-apart w.geom slot other differs))
        there.apart;
    is_slot = there.is_slot;
  }

  -- and so does the owner while the slot is read that breaks its own
  owned-by-past : (h : Header) (other : ℕ) (s : Slot) → slot ≢ other → IsOwnedBy w pass h other s → IsOwnedBy w read h other s
  owned-by-past h other s differs owned = record {
    owner = owned.owner;
    names = owned-past h owned.owner owned.names;
    same_slot = owned.same_slot;
    read = slot-past other s differs owned.read;
    same_generation = owned.same_generation;
    other = owned.other;
  }

-- the owner is still shown once the slot was read that breaks its own
pub breaker-owned : (w : Wanted) (now : ℕ) (pass : List Exchange) (h : Header) (slot : ℕ) (s : Slot) (by generation : ℕ) (breaker : Slot)
    → IsBreakerRead w now pass h slot s by generation breaker → IsOwnedBy w pass h slot s
breaker-owned w now pass h slot s by' generation breaker is = subst (λ p. IsOwnedBy w p h slot s) (sym is.read.newest)
    (owned-by-past w is.read.earlier now by' (slot_image by' breaker) is.read.within h slot s is.other is.owned)
