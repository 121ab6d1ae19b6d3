-- The used objects that aren't reached, as a row.
use Rattle.std.proofs.Common.{◌≡◌, ℕ, zero, suc, ◌+◌, ◌<◌, Bool, true, false, not, ◌&&◌, List, [], ◌∷◌, ◌++◌, length, map, filter, Option, slice_index_or, refl, sym, ap, ◌∙◌, subst, inl, inr, arith}
use Rattle.std.specs.Prelude.{Contains}
use Rattle.std.specs.List.{flat_map, range_with_len}
use Rattle.std.specs.List.Sorted.{IsStrictlyIncreasing}
use Rattle.std.proofs.lemmas.Bool.{cases_Bool, false≢true}
use Rattle.std.proofs.lemmas.List.Concat.{flat_map-cons}
use Rattle.std.proofs.lemmas.List.Elements.{filter_passes}
use Rattle.std.proofs.lemmas.List.FromFn.{get_or-range_with_len, length-range_with_len}
use Rattle.std.proofs.lemmas.List.Kept.{IsStrictlyIncreasing-filter}
use Rattle.ds_base.specs.Geometry.{items_of}
use Rattle.ds_base.specs.declared.geometry.Geom.{Geom}
use Rattle.ds_base.specs.declared.geometry.Kind.TheVariants.{Fd}
use Rattle.ds_image_parts.specs.Objects.{is_used, tree_of}
use Rattle.ds_image_tables.specs.Parents.{AreReached}
use Rattle.ds_image_parts.specs.Parts.{Parts, part_at}
use Rattle.ds_image_tables.proofs.Parenthood.ReachedParents.{leads-iff_reached}
use Rattle.ds_image.proofs.Parenthood.ReachedObjects.{used-within}
use Rattle.ds_check.specs.declared.findings.Find.{Find}
use Rattle.ds_check.specs.declared.findings.Find.TheVariants.{Lost}
use Rattle.ds_check.specs.Findings.{AreLost}
use Rattle.ds_check.specs.Unreached.{is_unreached, unreached_at, AreNamers}
use Rattle.ds_check.specs.Names.{naming_stage}
use Rattle.ds_check.specs.Rows.{find_if, row}
use Rattle.ds_check.proofs.NamedOnce.{namers-parents}

-- a finding for each element that passes a test

module _ (test : ℕ → Bool) (find : ℕ → Find) where
  found-first : (x : ℕ) (xs : List ℕ) (b : Bool) → test x ≡ b → flat_map (λ n. find_if (test n) (find n)) xs ≡ map find (filter test xs)
      → flat_map (λ n. find_if (test n) (find n)) (x ∷ xs) ≡ map find (filter test (x ∷ xs))
  found-first x xs true is rest =
      let kept : filter test (x ∷ xs) ≡ x ∷ filter test xs = rw is refl in
      let here : find_if (test x) (find x) ≡ find x ∷ [] = rw is refl in
      flat_map-cons (λ n. find_if (test n) (find n)) x xs ∙ ap (λ l. l ++ flat_map (λ n. find_if (test n) (find n)) xs) here
      ∙ ap (λ l. find x ∷ l) rest ∙ sym (ap (map find) kept)
  found-first x xs false is rest =
      let kept : filter test (x ∷ xs) ≡ filter test xs = rw is refl in
      let here : find_if (test x) (find x) ≡ [] = rw is refl in
      flat_map-cons (λ n. find_if (test n) (find n)) x xs ∙ ap (λ l. l ++ flat_map (λ n. find_if (test n) (find n)) xs) here
      ∙ rest ∙ sym (ap (map find) kept)

  pub found-passing : (xs : List ℕ) → flat_map (λ n. find_if (test n) (find n)) xs ≡ map find (filter test xs)
  found-passing [] = refl
  found-passing (x ∷ xs) = found-first x xs (test x) refl (found-passing xs)

  contains-first : (y x : ℕ) (ys : List ℕ) (b : Bool) → test y ≡ b → Contains (filter test ys) x → Contains (filter test (y ∷ ys)) x
  contains-first y x ys true is has =
      let kept : filter test (y ∷ ys) ≡ y ∷ filter test ys = rw is refl in
      subst (λ l. Contains l x) (sym kept) (suc has.0, omega (arith, has.1), has.2)
  contains-first y x ys false is has =
      let kept : filter test (y ∷ ys) ≡ filter test ys = rw is refl in
      subst (λ l. Contains l x) (sym kept) has

  pub passing-kept : (xs : List ℕ) (x k : ℕ) → k < length xs → slice_index_or xs k x ≡ x → test x ≡ true → Contains (filter test xs) x
  passing-kept [] x k within at is = absurd (omega (arith, within))
  passing-kept (y ∷ ys) x zero within at is =
      let passes : test y ≡ true = ap test at ∙ is in
      let kept : filter test (y ∷ ys) ≡ y ∷ filter test ys = rw passes refl in
      subst (λ l. Contains l x) (sym kept) (0, omega arith, at)
  passing-kept (y ∷ ys) x (suc k) within at is = contains-first y x ys (test y) refl (passing-kept ys x k (omega (arith, within)) at is)

  pub kept-passing : (xs : List ℕ) (x : ℕ) → Contains (filter test xs) x → test x ≡ true
  kept-passing xs x has = ap test (sym has.2) ∙ filter_passes test xs has.0 x has.1

rising-range : (n : ℕ) → IsStrictlyIncreasing (range_with_len 0 n)
rising-range n = λ k within.
    let len = length-range_with_len 0 n in
    omega (arith, within, len, get_or-range_with_len 0 n k 0 (omega (arith, within, len)), get_or-range_with_len 0 n (k + 1) 0 (omega (arith, within, len)))

and-both : (a b : Bool) → (a && not b) ≡ true → (a ≡ true) × (b ≡ false)
and-both true true is = absurd (cc)
and-both true false is = (refl, refl)
and-both false b is = absurd (cc)

both-and : (a b : Bool) → a ≡ true → b ≡ false → (a && not b) ≡ true
both-and a b is isnt = rw (is, isnt) refl

-- the used objects that aren't among those that are reached are lost
pub lost-unreached : (g : Geom) (p : Parts) → length p.bodies ≡ items_of g Fd → naming_stage g p ≡ [] → (parents : List (Option ℕ)) (reached : List Bool)
    → length parents ≡ items_of g Fd → AreNamers p (items_of g Fd) parents → AreReached parents reached
    → AreLost p (row (items_of g Fd) (unreached_at p reached))
lost-unreached g p count none parents reached len are known =
    let n = items_of g Fd in
    let leads = leads-iff_reached (tree_of p) parents (namers-parents g p count none parents len are) in
    let told : (o : ℕ) → is_used (part_at p.bodies o) ≡ true → slice_index_or reached o false ≡ false → Contains (filter (is_unreached p reached) (range_with_len 0 n)) o =
    λ o used isnt.
    let below : o < n = omega (arith, count, used-within p o used) in
    let at : slice_index_or (range_with_len 0 n) o o ≡ o = get_or-range_with_len 0 n o o below ∙ (let same : 0 + o ≡ o = omega arith in same) in
    passing-kept (is_unreached p reached) Lost (range_with_len 0 n) o o (omega (arith, below, length-range_with_len 0 n)) at
    (both-and (is_used (part_at p.bodies o)) (slice_index_or reached o false) used isnt) in
    record {
      objects = filter (is_unreached p reached) (range_with_len 0 n);
      told = found-passing (is_unreached p reached) Lost (range_with_len 0 n);
      rising = IsStrictlyIncreasing-filter (is_unreached p reached) (range_with_len 0 n) (rising-range n);
      exact = λ o. (
        λ has.
            let is = and-both (is_used (part_at p.bodies o)) (slice_index_or reached o false) (kept-passing (is_unreached p reached) Lost (range_with_len 0 n) o has) in (
              is.0,
              λ reaches.
                  let there = (known.exact o (omega (arith, len, count, used-within p o is.0))).1 ((leads o).1 reaches) in
                  false≢true (sym is.1 ∙ there),
            ),
        λ lost.
            let below : o < n = omega (arith, count, used-within p o lost.0) in
            let isnt : slice_index_or reached o false ≡ false = elim (cases_Bool (slice_index_or reached o false)) [
              | inl there ↦ absurd (lost.1 ((leads o).0 ((known.exact o (omega (arith, len, below))).0 there)))
              | inr absent ↦ absent
            ] in
            told o lost.0 isnt,
      );
      rest = λ o used.
          let below : o < n = omega (arith, count, used-within p o used) in
          elim (cases_Bool (slice_index_or reached o false)) [
            | inl there ↦ inr ((leads o).0 ((known.exact o (omega (arith, len, below))).0 there))
            | inr absent ↦ inl (told o used absent)
          ];
    }
