-- Lists of numbers below a limit.
use Rattle.std.proofs.Common.{◌≡◌, ℕ, zero, suc, ◌-◌, ◌^◌, ◌<◌, ◌≤◌, inl, inr, List, [], ◌∷◌, ◌++◌, length, take, replicate, Some, refl, sym, subst, slice_get, length-take, arith}
use Rattle.std.specs.Prelude.{slice_index}
use Rattle.std.specs.List.{flat_map}
use Rattle.std.proofs.lemmas.Bool.{cases_lt}
use Rattle.std.proofs.lemmas.List.{get_or_append_left, get_or-append_right, get_or-take, get_or_past}
use Rattle.ds_base.specs.Geometry.{IsGeom, items_of}
use Rattle.ds_base.specs.declared.geometry.Geom.{Geom}
use Rattle.ds_base.specs.declared.geometry.Kind.{Kind}
use Rattle.ds_base.specs.declared.geometry.Kind.TheVariants.{Fd, Sb, Pb, Fb}
use Rattle.ds_bytes.specs.Fields.{zeros, AllBelow}
use Rattle.ds_layout.proofs.Bounds.{most_items_of}
use Rattle.ds_plan_resize.specs.Blocks.{AreItems}
use Rattle.ds_plan_resize.specs.Redos.{padded}

pub below-append : (limit : ℕ) (xs ys : List ℕ) → AllBelow limit xs → AllBelow limit ys → AllBelow limit (xs ++ ys)
below-append limit xs ys one two i = elim (cases_lt i (length xs)) [
  | inl front ↦ subst (λ n. n < limit) (sym (get_or_append_left xs ys 0 i front)) (one i)
  | inr back ↦ subst (λ n. n < limit) (sym (get_or-append_right xs ys (length xs) i 0 refl back)) (two (i - length xs))
]

pub below-take : (limit count : ℕ) (xs : List ℕ) → AllBelow limit xs → AllBelow limit (take count xs)
below-take limit count xs all i = elim (cases_lt i count) [
  | inl front ↦ subst (λ n. n < limit) (sym (get_or-take count xs i 0 front)) (all i)
  | inr back ↦
      let some : 0 < limit = omega (arith, all i) in
      subst (λ n. n < limit) (sym (get_or_past (take count xs) i 0 (omega (arith, length-take count xs, back)))) some
]

pub below-flat : (limit : ℕ) (f : ℕ → List ℕ) (ns : List ℕ) → 0 < limit → ((i n : ℕ) → slice_get ns i ≡ Some n → AllBelow limit (f n)) → AllBelow limit (flat_map f ns)
below-flat limit f [] some each i = some
below-flat limit f (n ∷ ns) some each i = below-append limit (f n) (flat_map f ns) (each 0 n refl) (below-flat limit f ns some (λ j m at. each (suc j) m at)) i

pub below-zeros : (limit n : ℕ) → 0 < limit → AllBelow limit (zeros n)
unfolding zeros
below-zeros limit n some i = subst (λ x. x < limit) (sym (zero-at n i)) some
  where
    zero-at : (n i : ℕ) → slice_index (replicate n 0) i ≡ 0
    zero-at zero i = refl
    zero-at (suc n) zero = refl
    zero-at (suc n) (suc i) = zero-at n i

pub zeros-at : (n i : ℕ) → slice_index (zeros n) i ≡ 0
unfolding zeros
zeros-at zero i = refl
zeros-at (suc n) zero = refl
zeros-at (suc n) (suc i) = zeros-at n i

pub below-padded : (limit n : ℕ) (xs : List ℕ) → 0 < limit → AllBelow limit xs → AllBelow limit (padded n xs)
below-padded limit n xs some all = below-append limit xs (zeros (n - length xs)) all (below-zeros limit (n - length xs) some)

few-of : (g : Geom) (kind : Kind) → IsGeom g → items_of g kind ≤ 30720
few-of g Fd is = omega (arith, most_items_of g Fd is)
few-of g Sb is = most_items_of g Sb is
few-of g Pb is = most_items_of g Pb is
few-of g Fb is = most_items_of g Fb is

pub below-items : (g : Geom) (kind : Kind) (xs : List ℕ) → IsGeom g → AreItems g kind xs → AllBelow (2 ^ 32) xs
below-items g kind xs is are i = elim (cases_lt i (length xs)) [
  | inl front ↦ omega (arith, are i front, few-of g kind is)
  | inr back ↦ subst (λ n. n < 2 ^ 32) (sym (get_or_past xs i 0 back)) (omega arith)
]
