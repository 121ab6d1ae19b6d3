-- Entries of a directory by name, and the objects that its rooms name.
use Rattle.std.proofs.Common.{◌≡◌, ℕ, zero, suc, ◌+◌, ◌≤◌, Bool, true, false, cond, eqb, ◌||◌, List, [], ◌∷◌, take, map, Option, None, Some, slice_get, refl, sym, ap, ◌∙◌, inl, inr, arith}
use Rattle.std.specs.Prelude.{bytes_eq}
use Rattle.std.specs.Cmp.Lexicographic.{slice_cmp, nat_list_eq_equiv}
use Rattle.std.specs.FinMap as maps
use Rattle.std.specs.List.{filter_map, list_any}
use Rattle.std.specs.Ordering.{nat_cmp, is_eq}
use Rattle.std.proofs.lemmas.Bool.{cases_Bool, cases_eq, eq-eqb, ne_eqb}
use Rattle.std.proofs.lemmas.List.Sums.{sum_by-cons}
use Rattle.std.proofs.lemmas.Map.Text.{is_eq-slice_cmp}
use Rattle.ds_dir.specs.declared.sub_block.Entry.{Entry}
use Rattle.ds_check.specs.Unreached.{times}
use Rattle.ds_check.specs.Entries.{has_name}

-- the object of a name in these rooms
abbrev pub found_in : List ℕ → List (Option Entry) → Option ℕ
found_in name rooms = maps.find (slice_cmp nat_cmp) name (map (λ (e : Entry). (e.name, e.key.object)) (filter_map (λ room. room) rooms))

or-none : (a b : Bool) → (a || b) ≡ false → (a ≡ false) × (b ≡ false)
or-none true b none = absurd (cc)
or-none false b none = (refl, none)

-- an entry is found by its name, where no earlier room has it
pub find-first : (rooms : List (Option Entry)) (r : ℕ) (e : Entry) → slice_get rooms r ≡ Some (Some e)
    → list_any (has_name e.name) (take r rooms) ≡ false → found_in e.name rooms ≡ Some e.key.object
find-first [] r e at new = absurd (cc)
find-first (None ∷ rooms) zero e at new = absurd (cc)
find-first (Some a ∷ rooms) zero e at new =
    let same : a ≡ e = cc in
    let here : is_eq (slice_cmp nat_cmp e.name a.name) ≡ true =
    is_eq-slice_cmp e.name a.name ∙ ap (λ (y : Entry). bytes_eq e.name y.name) same ∙ nat_list_eq_equiv.refl e.name in
    ap (λ b. cond b (Some a.key.object) (found_in e.name rooms)) here ∙ ap (λ (y : Entry). Some y.key.object) same
find-first (None ∷ rooms) (suc r) e at new = find-first rooms r e at new
find-first (Some a ∷ rooms) (suc r) e at new =
    let apart = or-none (bytes_eq a.name e.name) (list_any (has_name e.name) (take r rooms)) new in
    let other : is_eq (slice_cmp nat_cmp e.name a.name) ≡ false = is_eq-slice_cmp e.name a.name ∙ nat_list_eq_equiv.symm e.name a.name ∙ apart.0 in
    ap (λ b. cond b (Some a.key.object) (found_in e.name rooms)) other ∙ find-first rooms r e at apart.1

-- what is found stands in a room
pub room-found : (rooms : List (Option Entry)) (name : List ℕ) (x : ℕ) → found_in name rooms ≡ Some x
    → (r : ℕ) × ((e : Entry) × (slice_get rooms r ≡ Some (Some e)) × (e.key.object ≡ x))
room-found [] name x found = absurd (cc)
room-found (None ∷ rooms) name x found = let rest = room-found rooms name x found in (suc rest.0, rest.1)
room-found (Some a ∷ rooms) name x found = elim (cases_Bool (is_eq (slice_cmp nat_cmp name a.name))) [
  | inl here ↦
      let is : Some a.key.object ≡ Some x = ap (λ b. cond b (Some a.key.object) (found_in name rooms)) (sym here) ∙ found in
      let object : a.key.object ≡ x = cc in
      (0, (a, refl, object))
  | inr other ↦
      let rest = room-found rooms name x (ap (λ b. cond b (Some a.key.object) (found_in name rooms)) (sym other) ∙ found) in
      (suc rest.0, rest.1)
]

abbrev one : Bool → ℕ
one b = cond b 1 0

times-cons : (x y : ℕ) (ys : List ℕ) → times x (y ∷ ys) ≡ one (eqb y x) + times x ys
times-cons x y ys = sum_by-cons (λ z. one (eqb z x)) y ys

module _ {A : Type 0} (f : A → Option ℕ) where
  kept-none : (a : A) (rooms : List A) → f a ≡ None → filter_map f (a ∷ rooms) ≡ filter_map f rooms
  kept-none a rooms is = rw is refl

  pub kept-some : (a : A) (rooms : List A) (y : ℕ) → f a ≡ Some y → filter_map f (a ∷ rooms) ≡ y ∷ filter_map f rooms
  kept-some a rooms y is = rw is refl

  first-more : (a : A) (rooms : List A) (r : Option ℕ) → f a ≡ r → (x : ℕ) → times x (filter_map f rooms) ≤ times x (filter_map f (a ∷ rooms))
  first-more a rooms None is x = omega (arith, ap (times x) (kept-none a rooms is))
  first-more a rooms (Some y) is x = omega (arith, ap (times x) (kept-some a rooms y is), times-cons x y (filter_map f rooms))

  -- what a room gives is counted
  pub room-counts : (rooms : List A) (r : ℕ) (room : A) (x : ℕ) → slice_get rooms r ≡ Some room → f room ≡ Some x → 1 ≤ times x (filter_map f rooms)
  room-counts [] r room x at gives = absurd (cc)
  room-counts (a ∷ rooms) zero room x at gives =
      let same : a ≡ room = cc in
      omega (arith, ap (times x) (kept-some a rooms x (ap f same ∙ gives)), times-cons x x (filter_map f rooms), ap one (eq-eqb x x refl))
  room-counts (a ∷ rooms) (suc r) room x at gives = omega (arith, room-counts rooms r room x at gives, first-more a rooms (f a) refl x)

  abbrev IsGiven : List A → ℕ → Type 0
  IsGiven rooms x = (r : ℕ) × ((room : A) × (slice_get rooms r ≡ Some room) × (f room ≡ Some x))

  first-given : (a : A) (rooms : List A) (x : ℕ) (r : Option ℕ) → f a ≡ r → 1 ≤ times x (filter_map f (a ∷ rooms))
      → (1 ≤ times x (filter_map f rooms) → IsGiven rooms x) → IsGiven (a ∷ rooms) x
  first-given a rooms x None is some rest =
      let later = rest (omega (arith, some, ap (times x) (kept-none a rooms is))) in
      (suc later.0, later.1)
  first-given a rooms x (Some y) is some rest = elim (cases_eq y x) [
    | inl same ↦ (0, (a, refl, is ∙ ap Some same))
    | inr apart ↦
        let later = rest (omega (arith, some, ap (times x) (kept-some a rooms y is), times-cons x y (filter_map f rooms), ap one (ne_eqb y x apart))) in
        (suc later.0, later.1)
  ]

  -- and what is counted is given by a room
  pub given-counted : (rooms : List A) (x : ℕ) → 1 ≤ times x (filter_map f rooms) → IsGiven rooms x
  given-counted [] x some = absurd (omega (arith, some))
  given-counted (a ∷ rooms) x some = first-given a rooms x (f a) refl some (given-counted rooms x)
