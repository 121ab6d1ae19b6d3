-- What a planner has seen grows: what was known stays known, and all that it asked for is in short lists.
use Rattle.std.proofs.Common.{◌≡◌, ℕ, ◌≤◌, ◌==◌, ◌||◌, Bool, true, false, nat_eq, if◌then◌else◌, List, [], ◌∷◌, ◌++◌, length, map, None, Some, inl, inr, refl, sym, ap, subst, ◌∙◌, arith, length-append, ◌⊎◌, append_assoc}
use Rattle.std.specs.List.{list_any, IsDistinct}
use Rattle.std.specs.Option.{option_or}
use Rattle.std.proofs.lemmas.Bool.{false≢true, cases_Bool}
use Rattle.std.proofs.lemmas.Bool.Decides.{nat_tests}
use Rattle.std.proofs.lemmas.Cmp.{nat_eq_equiv}
use Rattle.std.proofs.lemmas.List.{length-map, map-append}
use Rattle.std.proofs.lemmas.List.Folds.{list_any-append}
use Rattle.std.proofs.lemmas.Map.Keys.{IsDistinct-push}
use Rattle.std.proofs.lemmas.Map.Made.{length-le_from_is_member}
use Rattle.ds_base.specs.declared.geometry.Geom.{Geom}
use Rattle.ds_base.specs.declared.sectors.Sector.{Sector}
use Rattle.ds_image.specs.Asking.{Reached, Start, Locked, Given, IsFew}
use Rattle.ds_image_parts.specs.Parts.{Parts}
use Rattle.ds_image_parts.specs.Pending.{Pair}
use Rattle.ds_image.specs.Planning.{Answers, Asks, AllAreFew}
use Rattle.ds_image_parts.specs.Readings.{ReadsParts}
use Rattle.ds_image.specs.SeenValues.{SeenValue, has_lock, sector_in, look_of, with_lock, with_sector}
use Rattle.ds_image.specs.declared.asks.Ask.{Ask}
use Rattle.ds_image.specs.declared.asks.Ask.TheVariants as asks
use Rattle.ds_image.proofs.Seeing.{sector_in-append}

-- whatever was locked or read still is
pub record Grows (before after : SeenValue) : Type 0 where
  pub locks : (object : ℕ) → has_lock before object ≡ true → has_lock after object ≡ true
  pub sectors : (at : ℕ) (s : Sector) → look_of before at ≡ Some s → look_of after at ≡ Some s

or-true : (b : Bool) → (b || true) ≡ true
or-true true = refl
or-true false = refl

pub either : (a b : Bool) → (a || b) ≡ true → (a ≡ true) ⊎ (b ≡ true)
either true b e = inl refl
either false b e = inr e

grows-lock : (seen : SeenValue) (object : ℕ) → Grows seen (with_lock seen object)
grows-lock seen object = record {
  locks = λ o held. list_any-append (λ x. x == o) seen.locks (object ∷ []) ∙ ap (λ b. b || list_any (λ x. x == o) (object ∷ [])) held;
  sectors = λ at s there. there;
}

grows-sector : (seen : SeenValue) (at : ℕ) (s : Sector) → Grows seen (with_sector seen at s)
grows-sector seen at s = record {
  locks = λ o held. held;
  sectors = λ k t there. sector_in-append seen.sectors ((at, s) ∷ []) k ∙ ap (λ x. option_or x (sector_in ((at, s) ∷ []) k)) there;
}

-- the numbers of the sectors that were read
abbrev pub numbers_read : List Pair → List ℕ
numbers_read = map (λ (pair : Pair). pair.0)

pub unread-is_new : (pairs : List Pair) (at : ℕ) → sector_in pairs at ≡ None → list_any (nat_eq at) (numbers_read pairs) ≡ false
unread-is_new [] at none = refl
unread-is_new (pair ∷ pairs) at none = elim (cases_Bool (pair.0 == at)) [
  | inl here ↦ let wrong : Some pair.1 ≡ None = sym (ap (λ b. if b then Some pair.1 else sector_in pairs at) here) ∙ none in absurd cc
  | inr other ↦
      let rest : sector_in pairs at ≡ None = sym (ap (λ b. if b then Some pair.1 else sector_in pairs at) other) ∙ none in
      let differ : nat_eq at pair.0 ≡ false = nat_eq_equiv.symm at pair.0 ∙ other in
      ap (λ b. b || list_any (nat_eq at) (numbers_read pairs)) differ ∙ unread-is_new pairs at rest
]

pub any-one : (k at : ℕ) → list_any (nat_eq k) (at ∷ []) ≡ true → k ≡ at
any-one k at any = elim (cases_Bool (nat_eq k at)) [
  | inl same ↦ grind (arith, nat_tests, same)
  | inr other ↦ absurd (false≢true (sym (ap (λ b. b || false) other) ∙ any))
]

any-last : (k at : ℕ) (xs : List ℕ) → list_any (nat_eq k) (xs ++ at ∷ []) ≡ true → (list_any (nat_eq k) xs ≡ true) ⊎ (k ≡ at)
any-last k at xs any = elim (either (list_any (nat_eq k) xs) (list_any (nat_eq k) (at ∷ [])) (sym (list_any-append (nat_eq k) xs (at ∷ [])) ∙ any)) [
  | inl old ↦ inl old
  | inr new ↦ inr (any-one k at new)
]

flipped : (k : ℕ) (xs : List ℕ) → list_any (nat_eq k) xs ≡ list_any (λ x. x == k) xs
flipped k [] = refl
flipped k (x ∷ xs) = ap (λ b. b || list_any (nat_eq k) xs) (nat_eq_equiv.symm k x) ∙ ap (λ b. (x == k) || b) (flipped k xs)

none-left : (a b : Bool) → (a || b) ≡ false → b ≡ false
none-left true b e = absurd (false≢true (sym e))
none-left false b e = e

pub nothing_twice : IsDistinct nat_eq []
unfolding IsDistinct
nothing_twice = tt

-- a planner asks for locks and sectors of which these hold, none of them twice
pub record AsksFor (g : Geom) (answers : Answers) (MayHold MayRead : SeenValue → Parts → ℕ → Type 0) : Type 0 where
  pub locks : (seen : SeenValue) (p : Parts) → ReadsParts g (look_of seen) p → (object : ℕ) → asks.Lock object ≡ answers seen p
      → (has_lock seen object ≡ false) × MayHold seen p object
  pub sectors : (seen : SeenValue) (p : Parts) → ReadsParts g (look_of seen) p → (at : ℕ) → asks.Read at ≡ answers seen p
      → (look_of seen at ≡ None) × MayRead seen p at
  pub locks_stay : (seen next : SeenValue) (p q : Parts) → Grows seen next → ReadsParts g (look_of seen) p → ReadsParts g (look_of next) q
      → (object : ℕ) → MayHold seen p object → MayHold next q object
  pub sectors_stay : (seen next : SeenValue) (p q : Parts) → Grows seen next → ReadsParts g (look_of seen) p → ReadsParts g (look_of next) q
      → (at : ℕ) → MayRead seen p at → MayRead next q at

module _ (g : Geom) (answers : Answers) (MayHold MayRead : SeenValue → Parts → ℕ → Type 0) (asks_for : AsksFor g answers MayHold MayRead) where
  -- at most one lock, and others that were asked for, each once; and sectors that were asked for, each once
  record IsSmall (seen : SeenValue) : Type 0 where
    first : List ℕ
    asked : List ℕ
    split : seen.locks ≡ first ++ asked
    one : length first ≤ 1
    once : IsDistinct nat_eq asked
    held : (p : Parts) → ReadsParts g (look_of seen) p → (k : ℕ) → list_any (nat_eq k) asked ≡ true → MayHold seen p k
    read_once : IsDistinct nat_eq (numbers_read seen.sectors)
    read : (p : Parts) → ReadsParts g (look_of seen) p → (k : ℕ) → list_any (nat_eq k) (numbers_read seen.sectors) ≡ true → MayRead seen p k

  small : (seen : SeenValue) → Reached (Asks g answers) seen → IsSmall seen
  small _ (Start locks few) = record {
    first = locks;
    asked = [];
    split = sym (append-none locks);
    one = few;
    once = nothing_twice;
    held = λ p reads k any. absurd (false≢true any);
    read_once = nothing_twice;
    read = λ p reads k any. absurd (false≢true any);
  }
    where
      append-none : (xs : List ℕ) → xs ++ [] ≡ xs
      append-none [] = refl
      append-none (x ∷ xs) = ap (λ ys. x ∷ ys) (append-none xs)
  small _ (Locked seen object before came) =
      let was = small seen before in
      let is = asks_for.locks seen came.parts came.reads object came.answered in
      let next : SeenValue = with_lock seen object in
      let new : list_any (nat_eq object) was.asked ≡ false =
      none-left (list_any (λ x. x == object) was.first) (list_any (nat_eq object) was.asked)
      (ap (λ b. list_any (λ x. x == object) was.first || b) (flipped object was.asked) ∙ sym (list_any-append (λ x. x == object) was.first was.asked)
      ∙ ap (λ l. list_any (λ x. x == object) l) (sym was.split) ∙ is.0) in
      record {
        first = was.first;
        asked = was.asked ++ object ∷ [];
        split = ap (λ l. l ++ object ∷ []) was.split ∙ append_assoc was.first was.asked (object ∷ []);
        one = was.one;
        once = IsDistinct-push nat_eq_equiv was.asked object was.once new;
        held = λ p reads k any. elim (any-last k object was.asked any) [
          | inl old ↦ asks_for.locks_stay seen next p p (grows-lock seen object) reads reads k (was.held p reads k old)
          | inr same ↦ asks_for.locks_stay seen next came.parts p (grows-lock seen object) came.reads reads k (subst (MayHold seen came.parts) (sym same) is.1)
        ];
        read_once = was.read_once;
        read = λ p reads k any. asks_for.sectors_stay seen next p p (grows-lock seen object) reads reads k (was.read p reads k any);
      }
  small _ (Given seen at s before came block) =
      let was = small seen before in
      let is = asks_for.sectors seen came.parts came.reads at came.answered in
      let next : SeenValue = with_sector seen at s in
      let numbers : numbers_read next.sectors ≡ numbers_read seen.sectors ++ at ∷ [] = map-append (λ (pair : Pair). pair.0) seen.sectors ((at, s) ∷ []) in
      record {
        first = was.first;
        asked = was.asked;
        split = was.split;
        one = was.one;
        once = was.once;
        held = λ p reads k any. asks_for.locks_stay seen next came.parts p (grows-sector seen at s) came.reads reads k (was.held came.parts came.reads k any);
        read_once = rw numbers (IsDistinct-push nat_eq_equiv (numbers_read seen.sectors) at was.read_once (unread-is_new seen.sectors at is.0));
        read = λ p reads k any. elim (any-last k at (numbers_read seen.sectors) (ap (list_any (nat_eq k)) (sym numbers) ∙ any)) [
          | inl old ↦ asks_for.sectors_stay seen next came.parts p (grows-sector seen at s) came.reads reads k (was.read came.parts came.reads k old)
          | inr same ↦ asks_for.sectors_stay seen next came.parts p (grows-sector seen at s) came.reads reads k (subst (MayRead seen came.parts) (sym same) is.1)
        ];
      }

  few_by : (seen : SeenValue) (ask : Ask) → length seen.locks ≤ 23 → length seen.sectors ≤ 255 → IsFew seen ask
  few_by seen (asks.Lock object) locks sectors = (omega (arith, locks), omega (arith, sectors))
  few_by seen (asks.Read at) locks sectors = (omega (arith, locks), omega (arith, sectors))
  few_by seen (asks.Odd at) locks sectors = (omega (arith, locks), omega (arith, sectors))
  few_by seen (asks.Worn object) locks sectors = (omega (arith, locks), omega (arith, sectors))
  few_by seen (asks.Done reply) locks sectors = (omega (arith, locks), omega (arith, sectors))
  few_by seen (asks.Change redo reply) locks sectors = (omega (arith, locks), omega (arith, sectors))

  -- where both lists are short, few locks and sectors are asked for
  pub few_of : (lock_list sector_list : SeenValue → Parts → List ℕ)
      → ((seen : SeenValue) (p : Parts) → ReadsParts g (look_of seen) p → (k : ℕ) → MayHold seen p k → list_any (nat_eq k) (lock_list seen p) ≡ true)
      → ((seen : SeenValue) (p : Parts) → ReadsParts g (look_of seen) p → (k : ℕ) → MayRead seen p k → list_any (nat_eq k) (sector_list seen p) ≡ true)
      → ((seen : SeenValue) (p : Parts) → ReadsParts g (look_of seen) p → length (lock_list seen p) ≤ 22)
      → ((seen : SeenValue) (p : Parts) → ReadsParts g (look_of seen) p → length (sector_list seen p) ≤ 255)
      → AllAreFew g answers
  few_of lock_list sector_list in_locks in_sectors few_locks few_sectors seen p reads come =
      let is = small seen come in
      let locks = length-le_from_is_member nat_eq_equiv is.asked (lock_list seen p) is.once (λ k any. in_locks seen p reads k (is.held p reads k any)) in
      let sectors = length-le_from_is_member nat_eq_equiv (numbers_read seen.sectors) (sector_list seen p) is.read_once (λ k any. in_sectors seen p reads k (is.read p reads k any)) in
      few_by seen (answers seen p)
      (omega (arith, locks, is.one, few_locks seen p reads, length-append is.first is.asked, ap (length {A = ℕ}) is.split))
      (omega (arith, sectors, few_sectors seen p reads, length-map seen.sectors (λ (pair : Pair). pair.0)))
