-- A planner whose call reads one directory keeps the law of planners.
use Rattle.std.proofs.Common.{◌≡◌, ℕ, suc, ◌<◌, ◌≤◌, ◌==◌, ◌||◌, Bool, true, false, nat_eq, if◌then◌else◌, List, [], ◌∷◌, ◌++◌, length, map, Option, None, Some, inl, inr, refl, sym, ap, subst, ◌∙◌, arith, length-append}
use Rattle.std.specs.List.{list_any, IsDistinct, Contains}
use Rattle.std.specs.Option.{option_or}
use Rattle.std.proofs.lemmas.Bool.{false≢true, cases_Bool}
use Rattle.std.proofs.lemmas.Bool.Decides.{nat_tests}
use Rattle.std.proofs.lemmas.Cmp.{nat_eq_equiv}
use Rattle.std.proofs.lemmas.List.{length-map, map-append}
use Rattle.std.proofs.lemmas.List.Folds.{list_any-append}
use Rattle.std.proofs.lemmas.Map.Keys.{IsDistinct-push}
use Rattle.std.proofs.lemmas.Map.Made.{length-le_from_is_member}
use Rattle.ds_base.specs.Geometry.{items_of}
use Rattle.ds_base.specs.declared.geometry.Geom.{Geom}
use Rattle.ds_base.specs.declared.geometry.Kind.TheVariants.{Fd}
use Rattle.ds_base.specs.declared.names.Key.{Key}
use Rattle.ds_base.specs.declared.sectors.Sector.{Sector}
use Rattle.ds_fd.specs.declared.body.Body.{Body}
use Rattle.ds_image.specs.Asking.{Agrees, HasForm, IsRight, Keeps, Reached, Start, Locked, Given, IsFew}
use Rattle.ds_image_parts.specs.Objects.{subs_of}
use Rattle.ds_image_parts.specs.Parts.{Parts, part_at}
use Rattle.ds_image_parts.specs.Pending.{Pair}
use Rattle.ds_image.specs.Planning.{Answers, Asks, AllAreFew}
use Rattle.ds_image_parts.specs.Readings.{ReadsParts}
use Rattle.ds_image.specs.SeenValues.{SeenValue, has_lock, look_of, with_lock, with_sector}
use Rattle.ds_image.specs.Sound.{StandsFor}
use Rattle.ds_image.specs.declared.asks.Ask.{Ask}
use Rattle.ds_image.specs.declared.asks.Ask.TheVariants as asks
use Rattle.ds_image.proofs.Seeing.{sector_in-append}
use Rattle.ds_layout.specs.Places.{place_sector}
use Rattle.ds_layout.specs.declared.places.Place.TheVariants as places
use Rattle.ds_plan_base.proofs.DirAsks.{dir_sectors, DirAsks}
use Rattle.ds_image.specs.Locks.{MayLock, IsAllowed, keys_of, of_key}
use Rattle.ds_plan_base.proofs.Alike.{body_alike, body_unread}
use Rattle.ds_plan_base.proofs.Growing.{numbers_read, unread-is_new, any-one, nothing_twice, either}
use Rattle.ds_plan_base.proofs.Limits.{few_subs}
use Rattle.ds_tree.specs.Nodes.{FileTree}
use Rattle.ds_tree.specs.declared.calls.CallOf.{CallOf}

-- each answer is of its form, and right
form_of : (g : Geom) (call : CallOf Key) (dir : ℕ) (seen : SeenValue) (p : Parts) (ask : Ask) → DirAsks g call dir seen p ask → HasForm g call seen p ask
form_of g call dir seen p (asks.Lock object) is = (
  inl (subst (λ o. o < items_of g Fd) (sym is.0) is.1),
  subst (λ o. has_lock seen o ≡ false) (sym is.0) is.2,
)
form_of g call dir seen p (asks.Read at) is = is.readable
form_of g call dir seen p (asks.Odd at) is = is.read
form_of g call dir seen p (asks.Worn object) is = absurd is
form_of g call dir seen p (asks.Done reply) is = is.block
form_of g call dir seen p (asks.Change redo reply) is = absurd is

right_of : (g : Geom) (call : CallOf Key) (dir : ℕ) (seen : SeenValue) (p : Parts) (ask : Ask) → DirAsks g call dir seen p ask
    → (image : List Sector) (t : FileTree) → StandsFor g image t → Agrees seen image → IsRight g call seen image t ask
right_of g call dir seen p (asks.Lock object) is image t stands agrees = tt
right_of g call dir seen p (asks.Read at) is image t stands agrees = tt
right_of g call dir seen p (asks.Odd at) is image t stands agrees = is.none image t stands agrees
right_of g call dir seen p (asks.Worn object) is image t stands agrees = tt
right_of g call dir seen p (asks.Done reply) is image t stands agrees = is.does image t stands agrees
right_of g call dir seen p (asks.Change redo reply) is image t stands agrees = absurd is

pub dir_keeps : (g : Geom) (call : CallOf Key) (dir : ℕ) (seen : SeenValue) (p : Parts) (ask : Ask) → DirAsks g call dir seen p ask
    → Keeps g call seen p ask
dir_keeps g call dir seen p ask is = record { form = form_of g call dir seen p ask is; right = right_of g call dir seen p ask is }

-- the only lock is that of the directory
pub dir_allowed : (g : Geom) (slot : ℕ) (call : CallOf Key) (dir : Key) (seen : SeenValue) (p : Parts) (ask : Ask) → Contains (keys_of call) dir
    → DirAsks g call dir.object seen p ask → IsAllowed g slot call p ask
dir_allowed g slot call dir seen p (asks.Lock object) named is = subst (MayLock g slot call p) (sym is.0) (of_key dir named is.1)
dir_allowed g slot call dir seen p (asks.Read at) named is = tt
dir_allowed g slot call dir seen p (asks.Odd at) named is = tt
dir_allowed g slot call dir seen p (asks.Worn object) named is = tt
dir_allowed g slot call dir seen p (asks.Done reply) named is = tt
dir_allowed g slot call dir seen p (asks.Change redo reply) named is = tt

or-none : {X : Type 0} (x : Option X) → option_or x None ≡ x
or-none None = refl
or-none (Some x) = refl

look_other : (seen : SeenValue) (at : ℕ) (s : Sector) (k : ℕ) → nat_eq at k ≡ false → look_of (with_sector seen at s) k ≡ look_of seen k
look_other seen at s k other =
    sector_in-append seen.sectors ((at, s) ∷ []) k
    ∙ ap (λ (b : Bool). option_or (look_of seen k) (if b then Some s else None)) other ∙ or-none (look_of seen k)

-- a sector of the directory stays one when one more is read
stays : (g : Geom) (dir : ℕ) (seen : SeenValue) (at : ℕ) (s : Sector) (p q : Parts) (k : ℕ) → dir < items_of g Fd → look_of seen at ≡ None
    → ReadsParts g (look_of seen) q → ReadsParts g (look_of (with_sector seen at s)) p → list_any (nat_eq k) (dir_sectors g q dir) ≡ true
    → list_any (nat_eq k) (dir_sectors g p dir) ≡ true
stays g dir seen at s p q k inside none reads after any = elim (cases_Bool (nat_eq at (place_sector g (places.Body dir)))) [
  | inl body ↦
      let same : at ≡ place_sector g (places.Body dir) = grind (arith, nat_tests, body) in
      let unread : part_at q.bodies dir ≡ None =
      body_unread g (look_of seen) q dir (part_at q.bodies dir) inside (ap (look_of seen) (sym same) ∙ none) reads refl in
      let alone : list_any (nat_eq k) (place_sector g (places.Body dir) ∷ []) ≡ true =
      sym (ap (λ (b : Option Body). list_any (nat_eq k) (place_sector g (places.Body dir) ∷ map (λ n. place_sector g (places.SubBlock n)) (subs_of b))) unread) ∙ any in
      let is : k ≡ place_sector g (places.Body dir) = any-one k (place_sector g (places.Body dir)) alone in
      let here : nat_eq k (place_sector g (places.Body dir)) ≡ true = ap (nat_eq k) (sym is) ∙ nat_eq_equiv.refl k in
      ap (λ b. b || list_any (nat_eq k) (map (λ n. place_sector g (places.SubBlock n)) (subs_of (part_at p.bodies dir)))) here
  | inr other ↦
      let same : part_at p.bodies dir ≡ part_at q.bodies dir =
      body_alike g (look_of (with_sector seen at s)) (look_of seen) p q dir inside (look_other seen at s (place_sector g (places.Body dir)) other) after reads in
      ap (λ (b : Option Body). list_any (nat_eq k) (place_sector g (places.Body dir) ∷ map (λ n. place_sector g (places.SubBlock n)) (subs_of b))) same ∙ any
]

-- what was seen so far is at most one lock beside the directory's, and sectors of the directory, each once
record IsSmall (g : Geom) (dir : ℕ) (seen : SeenValue) : Type 0 where
  at_first : has_lock seen dir ≡ false → length seen.locks ≤ 1
  locks : length seen.locks ≤ 2
  once : IsDistinct nat_eq (numbers_read seen.sectors)
  of_dir : (p : Parts) → ReadsParts g (look_of seen) p → (k : ℕ) → list_any (nat_eq k) (numbers_read seen.sectors) ≡ true
      → list_any (nat_eq k) (dir_sectors g p dir) ≡ true

last-any : (x : ℕ) (xs : List ℕ) → list_any (λ y. y == x) (xs ++ x ∷ []) ≡ true
last-any x [] = ap (λ b. b || false) (nat_eq_equiv.refl x)
last-any x (y ∷ xs) = ap (λ b. (y == x) || b) (last-any x xs) ∙ or-true (y == x)
  where
    or-true : (b : Bool) → (b || true) ≡ true
    or-true true = refl
    or-true false = refl

more : (xs : List ℕ) (x : ℕ) → length (xs ++ x ∷ []) ≡ suc (length xs)
more xs x = length-append xs (x ∷ []) ∙ omega arith

module _ (g : Geom) (call : CallOf Key) (dir : ℕ) (answers : Answers)
    (each : (seen : SeenValue) (p : Parts) → ReadsParts g (look_of seen) p → DirAsks g call dir seen p (answers seen p)) where
  asked_so : (seen : SeenValue) (ask : Ask) (asked : Asks g answers seen ask) → DirAsks g call dir seen asked.parts ask
  asked_so seen ask asked = subst (DirAsks g call dir seen asked.parts) (sym asked.answered) (each seen asked.parts asked.reads)

  small : (seen : SeenValue) → Reached (Asks g answers) seen → IsSmall g dir seen
  small _ (Start locks few) = record {
    at_first = λ _. few;
    locks = omega (arith, few);
    once = nothing_twice;
    of_dir = λ p reads k any. absurd (false≢true any);
  }
  small _ (Locked seen object before asked) =
      let was = small seen before in
      let is = asked_so seen (asks.Lock object) asked in
      let held : has_lock (with_lock seen object) dir ≡ true = subst (λ o. has_lock (with_lock seen o) dir ≡ true) (sym is.0) (last-any dir seen.locks) in
      record {
        at_first = λ free. absurd (false≢true (sym free ∙ held));
        locks = omega (arith, was.at_first is.2, more seen.locks object);
        once = was.once;
        of_dir = was.of_dir;
      }
  small _ (Given seen at s before asked block) =
      let was = small seen before in
      let is = asked_so seen (asks.Read at) asked in
      let numbers : numbers_read (with_sector seen at s).sectors ≡ numbers_read seen.sectors ++ at ∷ [] = map-append (λ (pair : Pair). pair.0) seen.sectors ((at, s) ∷ []) in
      record {
        at_first = was.at_first;
        locks = was.locks;
        once = rw numbers (IsDistinct-push nat_eq_equiv (numbers_read seen.sectors) at was.once (unread-is_new seen.sectors at is.readable.unread));
        of_dir = λ p after k any.
            let split : (list_any (nat_eq k) (numbers_read seen.sectors) || list_any (nat_eq k) (at ∷ [])) ≡ true =
            sym (list_any-append (nat_eq k) (numbers_read seen.sectors) (at ∷ [])) ∙ ap (list_any (nat_eq k)) (sym numbers) ∙ any in
            stays g dir seen at s p asked.parts k is.inside is.readable.unread asked.reads after
            (elim (either (list_any (nat_eq k) (numbers_read seen.sectors)) (list_any (nat_eq k) (at ∷ [])) split) [
              | inl old ↦ was.of_dir asked.parts asked.reads k old
              | inr new ↦ subst (λ x. list_any (nat_eq x) (dir_sectors g asked.parts dir) ≡ true) (sym (any-one k at new)) is.one
            ]);
      }

  few_sectors : (seen : SeenValue) (p : Parts) → ReadsParts g (look_of seen) p → IsSmall g dir seen → length seen.sectors ≤ 97
  few_sectors seen p reads is =
      let within = length-le_from_is_member nat_eq_equiv (numbers_read seen.sectors) (dir_sectors g p dir) is.once (is.of_dir p reads) in
      let subs = subs_of (part_at p.bodies dir) in
      omega (arith, within, length-map seen.sectors (λ (pair : Pair). pair.0), length-map subs (λ n. place_sector g (places.SubBlock n)), few_subs g (look_of seen) p dir (part_at p.bodies dir) reads refl)

  few_by : (seen : SeenValue) (p : Parts) (ask : Ask) → DirAsks g call dir seen p ask → IsSmall g dir seen → length seen.sectors ≤ 97 → IsFew seen ask
  few_by seen p (asks.Lock object) is small sectors = (omega (arith, small.at_first is.2), omega (arith, sectors))
  few_by seen p (asks.Read at) is small sectors = (omega (arith, small.locks), omega (arith, sectors))
  few_by seen p (asks.Odd at) is small sectors = (omega (arith, small.locks), omega (arith, sectors))
  few_by seen p (asks.Worn object) is small sectors = absurd is
  few_by seen p (asks.Done reply) is small sectors = (omega (arith, small.locks), omega (arith, sectors))
  few_by seen p (asks.Change redo reply) is small sectors = absurd is

  -- a call on one directory holds at most two locks, and reads at most 97 sectors
  pub dir_few : AllAreFew g answers
  dir_few seen p reads come =
      let is = small seen come in
      few_by seen p (answers seen p) (each seen p reads) is (few_sectors seen p reads is)
