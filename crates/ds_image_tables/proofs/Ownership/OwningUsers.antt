-- Lists own the marked items exactly where no item has two users, and those that have one are marked.
use Rattle.std.proofs.Common.{◌≡◌, ◌≢◌, ℕ, zero, suc, ◌+◌, ◌≤◌, cond, Bool, true, false, eqb, List, [], ◌∷◌, ◌++◌, length, map, filter, inl, inr, refl, sym, ap, ◌∙◌, subst, arith}
use Rattle.std.specs.Prelude.{Some, slice_get, count_by, ◌↔◌, ◌<◌}
use Rattle.std.specs.List.{sum_by, flat_map, range_with_len}
use Rattle.std.proofs.lemmas.Bool.{cases_eq, cases_lt, cases_Bool, eq-eqb, eqb-true}
use Rattle.std.proofs.lemmas.List.{map-append, length-append}
use Rattle.std.proofs.lemmas.List.Elements.{filter-append}
use Rattle.std.proofs.lemmas.List.Folds.{fold-map}
use Rattle.std.proofs.lemmas.List.FromFn.{fill_by_all}
use Rattle.std.proofs.lemmas.List.Sums.{sum_by-cons}
use Rattle.ds_image_tables.specs.Owns.{list_of, IsAt, Owns, bit}
use Rattle.ds_image_tables.specs.Users.{users, uses_by}

-- all uses of items, object by object, each in the order of its list
abbrev pub uses_of : List (List ℕ) → List (ℕ × ℕ)
uses_of lists = flat_map (λ object. uses_by object (list_of lists object)) (range_with_len 0 (length lists))

-- no item has two users, and just those that have one are marked
pub record AreUsedOnce (lists : List (List ℕ)) (bits : List Bool) : Type 0 where
  pub few : (x : ℕ) → length (users (uses_of lists) x) ≤ 1
  pub used : (x : ℕ) → (bit bits x ≡ true) ↔ (0 < length (users (uses_of lists) x))

-- how often an item stands in a list
abbrev times : ℕ → List ℕ → ℕ
times x items = count_by (λ y. eqb y x) items

abbrev one : Bool → ℕ
one b = cond b 1 0

times-cons : (x y : ℕ) (ys : List ℕ) → times x (y ∷ ys) ≡ one (eqb y x) + times x ys
times-cons x y ys = sum_by-cons (λ z. cond (eqb z x) 1 0) y ys

times-here : (x y : ℕ) (ys : List ℕ) → y ≡ x → times x (y ∷ ys) ≡ 1 + times x ys
times-here x y ys same = times-cons x y ys ∙ ap (λ b. one b + times x ys) (eq-eqb y x same)

-- Users counted

users-append : (a b : List (ℕ × ℕ)) (x : ℕ) → users (a ++ b) x ≡ users a x ++ users b x
users-append a b x =
    ap (map (λ (u : ℕ × ℕ). u.1)) (filter-append (λ (u : ℕ × ℕ). eqb u.0 x) a b)
    ∙ map-append (λ (u : ℕ × ℕ). u.1) (filter (λ (u : ℕ × ℕ). eqb u.0 x) a) (filter (λ (u : ℕ × ℕ). eqb u.0 x) b)

users-of_one : (o x : ℕ) (items : List ℕ) → length (users (uses_by o items) x) ≡ times x items
users-of_one o x [] = refl
users-of_one o x (y ∷ ys) = first (eqb y x) refl ∙ ap (λ n. one (eqb y x) + n) (users-of_one o x ys) ∙ sym (times-cons x y ys)
  where
    first : (b : Bool) → eqb y x ≡ b → length (users (uses_by o (y ∷ ys)) x) ≡ one (eqb y x) + length (users (uses_by o ys) x)
    first true is = rw (is) (omega arith)
    first false is = rw (is) (omega arith)

users-of_each : (g : ℕ → List (ℕ × ℕ)) (x : ℕ) (os : List ℕ) → length (users (flat_map g os) x) ≡ sum_by (λ o. length (users (g o) x)) os
users-of_each g x [] = refl
users-of_each g x (o ∷ os) =
    ap (length {A = ℕ}) (users-append (g o) (flat_map g os) x)
    ∙ length-append (users (g o) x) (users (flat_map g os) x)
    ∙ ap (λ n. length (users (g o) x) + n) (users-of_each g x os)
    ∙ sym (sum_by-cons (λ p. length (users (g p) x)) o os)

sums-alike : (f g : ℕ → ℕ) → ((o : ℕ) → f o ≡ g o) → (os : List ℕ) → sum_by f os ≡ sum_by g os
sums-alike f g same [] = refl
sums-alike f g same (o ∷ os) = omega (arith, sum_by-cons f o os, sum_by-cons g o os, same o, sums-alike f g same os)

-- an item has as many users as it stands in lists
pub users-count : (lists : List (List ℕ)) (x : ℕ) → length (users (uses_of lists) x) ≡ sum_by (times x) lists
users-count lists x =
    let os = range_with_len 0 (length lists) in
    users-of_each (λ o. uses_by o (list_of lists o)) x os
    ∙ sums-alike (λ o. length (users (uses_by o (list_of lists o)) x)) (λ o. times x (list_of lists o)) (λ o. users-of_one o x (list_of lists o)) os
    ∙ sym (fold-map (λ n l. n + times x l) (list_of lists) 0 os)
    ∙ ap (sum_by (times x)) (sym (fill_by_all (list_of lists) lists (length lists) [] refl (λ k within. refl)))

-- Places and counts

counted : (x : ℕ) (l : List ℕ) (i : ℕ) → slice_get l i ≡ Some x → 1 ≤ times x l
counted x [] i at = absurd (cc)
counted x (y ∷ ys) zero at = let same : y ≡ x = cc in omega (arith, times-here x y ys same)
counted x (y ∷ ys) (suc i) at = omega (arith, times-cons x y ys, counted x ys i at)

counted-twice : (x : ℕ) (l : List ℕ) (i j : ℕ) → slice_get l i ≡ Some x → slice_get l j ≡ Some x → i ≢ j → 2 ≤ times x l
counted-twice x [] i j at there apart = absurd (cc)
counted-twice x (y ∷ ys) zero zero at there apart = absurd (apart refl)
counted-twice x (y ∷ ys) zero (suc j) at there apart = let same : y ≡ x = cc in omega (arith, times-here x y ys same, counted x ys j there)
counted-twice x (y ∷ ys) (suc i) zero at there apart = let same : y ≡ x = cc in omega (arith, times-here x y ys same, counted x ys i at)
counted-twice x (y ∷ ys) (suc i) (suc j) at there apart =
    omega (arith, times-cons x y ys, counted-twice x ys i j at there (λ same. apart (ap suc same)))

not-eqb : (a b : ℕ) → a ≢ b → eqb a b ≡ false
not-eqb a b differ = elim (cases_Bool (eqb a b)) [ inl same ↦ absurd (differ (eqb-true a b same)) | inr unlike ↦ unlike ]

placed : (x : ℕ) (l : List ℕ) → 1 ≤ times x l → (i : ℕ) × (slice_get l i ≡ Some x)
placed x [] some = absurd (omega (arith, some))
placed x (y ∷ ys) some = elim (cases_eq y x) [
  | inl same ↦ (0, ap Some same)
  | inr apart ↦ let rest = placed x ys (omega (arith, some, times-cons x y ys, ap one (not-eqb y x apart))) in (suc rest.0, rest.1)
]

placed-twice : (x : ℕ) (l : List ℕ) → 2 ≤ times x l → (i : ℕ) × ((j : ℕ) × (i ≢ j) × (slice_get l i ≡ Some x) × (slice_get l j ≡ Some x))
placed-twice x [] some = absurd (omega (arith, some))
placed-twice x (y ∷ ys) some = elim (cases_eq y x) [
  | inl same ↦
      let rest = placed x ys (omega (arith, some, times-here x y ys same)) in
      let apart : 0 ≢ suc rest.0 = λ e. absurd (omega (arith, e)) in
      (0, (suc rest.0, apart, ap Some same, rest.1))
  | inr apart ↦
      let rest = placed-twice x ys (omega (arith, some, times-cons x y ys, ap one (not-eqb y x apart))) in
      let differ : suc rest.0 ≢ suc rest.1.0 = λ e. rest.1.1 (let less : rest.0 ≡ rest.1.0 = omega (arith, e) in less) in
      (suc rest.0, (suc rest.1.0, differ, rest.1.2, rest.1.3))
]

-- Lists and counts

among : (x : ℕ) (lists : List (List ℕ)) (o i : ℕ) → IsAt lists o i x → times x (list_of lists o) ≤ sum_by (times x) lists
among x [] o i at = absurd (cc)
among x (l ∷ ls) zero i at = omega (arith, sum_by-cons (times x) l ls)
among x (l ∷ ls) (suc o) i at = omega (arith, sum_by-cons (times x) l ls, among x ls o i at)

among-two : (x : ℕ) (lists : List (List ℕ)) (o i p j : ℕ) → IsAt lists o i x → IsAt lists p j x → o ≢ p → 2 ≤ sum_by (times x) lists
among-two x [] o i p j at there apart = absurd (cc)
among-two x (l ∷ ls) zero i zero j at there apart = absurd (apart refl)
among-two x (l ∷ ls) zero i (suc p) j at there apart =
    omega (arith, sum_by-cons (times x) l ls, counted x l i at, among x ls p j there, counted x (list_of ls p) j there)
among-two x (l ∷ ls) (suc o) i zero j at there apart =
    omega (arith, sum_by-cons (times x) l ls, counted x l j there, among x ls o i at, counted x (list_of ls o) i at)
among-two x (l ∷ ls) (suc o) i (suc p) j at there apart =
    omega (arith, sum_by-cons (times x) l ls, among-two x ls o i p j at there (λ same. apart (ap suc same)))

found : (x : ℕ) (lists : List (List ℕ)) → 1 ≤ sum_by (times x) lists → (o : ℕ) × ((i : ℕ) × IsAt lists o i x)
found x [] some = absurd (omega (arith, some))
found x (l ∷ ls) some = elim (cases_lt 0 (times x l)) [
  | inl here ↦ (0, placed x l (omega (arith, here)))
  | inr none ↦ let rest = found x ls (omega (arith, some, none, sum_by-cons (times x) l ls)) in (suc rest.0, rest.1)
]

-- an item listed at two places
abbrev IsTwice : List (List ℕ) → ℕ → Type 0
IsTwice lists x = (o : ℕ) × ((i : ℕ) × ((p : ℕ) × ((j : ℕ) × IsAt lists o i x × IsAt lists p j x × ((o ≡ p) × (i ≡ j) → ⊥))))

found-twice : (x : ℕ) (lists : List (List ℕ)) → 2 ≤ sum_by (times x) lists → IsTwice lists x
found-twice x [] some = absurd (omega (arith, some))
found-twice x (l ∷ ls) some = elim (cases_lt 1 (times x l)) [
  | inl two ↦
      let here = placed-twice x l (omega (arith, two)) in
      (0, (here.0, (0, (here.1.0, here.1.2, here.1.3, λ same. here.1.1 same.1))))
  | inr few ↦ elim (cases_lt 0 (times x l)) [
    | inl once ↦
        let here = placed x l (omega (arith, once)) in
        let there = found x ls (omega (arith, some, few, sum_by-cons (times x) l ls)) in
        (0, (here.0, (suc there.0, (there.1.0, here.1, there.1.1, λ same. absurd (omega (arith, same.0))))))
    | inr none ↦
        let rest = found-twice x ls (omega (arith, some, none, sum_by-cons (times x) l ls)) in
        let p = rest.1.1.0 in
        let differ : ((suc rest.0 ≡ suc p) × (rest.1.0 ≡ rest.1.1.1.0) → ⊥) =
        λ same. rest.1.1.1.3 (let less : rest.0 ≡ p = omega (arith, same.0) in (less, same.1)) in
        (suc rest.0, (rest.1.0, (suc p, (rest.1.1.1.0, rest.1.1.1.1, rest.1.1.1.2, differ))))
  ]
]

pub owns-from_users : (lists : List (List ℕ)) (bits : List Bool) → AreUsedOnce lists bits → Owns lists bits
owns-from_users lists bits once = record {
  once = λ o i p j x at there.
      let few = once.few x in
      let count = users-count lists x in
      elim (cases_eq o p) [
        | inr apart ↦ absurd (omega (arith, few, count, among-two x lists o i p j at there apart))
        | inl same ↦ elim (cases_eq i j) [
          | inl alike ↦ (same, alike)
          | inr differ ↦
              let here : IsAt lists o j x = subst (λ q. IsAt lists q j x) (sym same) there in
              absurd (omega (arith, few, count, among x lists o i at, counted-twice x (list_of lists o) i j at here differ))
        ]
      ];
  marked = λ o i x at. (once.used x).1 (omega (arith, users-count lists x, among x lists o i at, counted x (list_of lists o) i at));
  listed = λ x marked. found x lists (omega (arith, users-count lists x, (once.used x).0 marked));
}

pub users-from_owns : (lists : List (List ℕ)) (bits : List Bool) → Owns lists bits → AreUsedOnce lists bits
users-from_owns lists bits owns = record {
  few = λ x. elim (cases_lt 1 (length (users (uses_of lists) x))) [
    | inl many ↦
        let twice = found-twice x lists (omega (arith, many, users-count lists x)) in
        let rest = twice.1.1.1 in
        absurd (rest.3 (owns.once twice.0 twice.1.0 twice.1.1.0 rest.0 x rest.1 rest.2))
    | inr few ↦ few
  ];
  used = λ x. (
    λ marked.
        let at = owns.listed x marked in
        omega (arith, users-count lists x, among x lists at.0 at.1.0 at.1.1, counted x (list_of lists at.0) at.1.0 at.1.1),
    λ some. let at = found x lists (omega (arith, some, users-count lists x)) in owns.marked at.0 at.1.0 x at.1.1,
  );
}
