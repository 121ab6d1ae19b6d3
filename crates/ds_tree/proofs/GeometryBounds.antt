-- What the ranges of a geometry add up to.
use Rattle.std.proofs.Common.{◌≡◌, ℕ, ◌+◌, ◌-◌, ◌≤◌, [], ◌∷◌, ◌++◌, length, replicate, ap, ◌∙◌, arith}
use Rattle.std.proofs.lemmas.List.{length-replicate, replicate_more}
use Rattle.std.proofs.Math.Nat.{one-le-mul}
use Rattle.ds_base.specs.declared.geometry.Geom.{Geom}
use Rattle.ds_base.specs.declared.geometry.Kind.{Kind}
use Rattle.ds_base.specs.declared.geometry.GeomField.TheVariants.{Clusters, Items}
use Rattle.ds_base.specs.Geometry.{IsGeom, items_of}

-- each kind has an item
pub items_of-positive : (g : Geom) (kind : Kind) → IsGeom g → 1 ≤ items_of g kind
items_of-positive g kind is = one-le-mul (is (Clusters kind)).0 (is (Items kind)).0

-- one object and then the rest of so many
pub length-first_and_rest : {A : Type 0} (n : ℕ) (x y : A) → 1 ≤ n → length (x ∷ replicate (n - 1) y) ≡ n
length-first_and_rest n x y h = omega (arith, length-replicate (n - 1) y)

pub push-first_and_rest : {A : Type 0} (n : ℕ) (x y : A) → 1 ≤ n → (x ∷ replicate (n - 1) y) ++ y ∷ [] ≡ x ∷ replicate (n + 1 - 1) y
push-first_and_rest n x y h =
    let e : n - 1 + 1 ≡ n + 1 - 1 = omega arith in
    ap (λ ys. x ∷ ys) (replicate_more (n - 1) y ∙ ap (λ k. replicate k y) e)
