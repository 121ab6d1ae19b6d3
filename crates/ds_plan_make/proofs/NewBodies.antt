-- The body of a new object can be spelled.
use Rattle.std.proofs.Common.{◌≡◌, ℕ, zero, suc, ◌-◌, ◌^◌, ◌<◌, List, drop, replicate, Some, refl, sym, subst, arith}
use Rattle.std.specs.Prelude.{slice_index}
use Rattle.ds_base.specs.Geometry.{items_of}
use Rattle.ds_base.specs.Names.{IsName}
use Rattle.ds_base.specs.declared.geometry.Geom.{Geom}
use Rattle.ds_base.specs.declared.geometry.Kind.TheVariants.{Fd}
use Rattle.ds_base.specs.declared.names.NodeKind.{NodeKind}
use Rattle.ds_base.specs.declared.names.NodeKind.TheVariants as kinds
use Rattle.ds_bytes.specs.Fields.{zeros, AllBelow}
use Rattle.ds_fd.specs.Body.{IsBody, links_of, addresses_used}
use Rattle.ds_fd.specs.declared.body.Body.{Body}
use Rattle.ds_plan_make.specs.Objects.{CanBegin, IsNewObject}
use Rattle.ds_plan_make.specs.Redos.{begun, new_object}
use Rattle.ds_plan_base.specs.Items.{IsFreeItem, number_of}
use Rattle.ds_plan_base.specs.declared.items.FreeItem.{FreeItem}
use Rattle.ds_plan_base.proofs.NewBodies.{item-within, zeros-are}

zero-below : (n limit : ℕ) → 0 < limit → AllBelow limit (replicate n 0)
zero-below n limit some i = subst (λ x. x < limit) (sym (zero-at n i)) some
  where
    zero-at : (n i : ℕ) → slice_index (replicate n 0) i ≡ 0
    zero-at zero i = refl
    zero-at (suc n) zero = refl
    zero-at (suc n) (suc i) = zero-at n i

begun-rest : (kind : NodeKind) → drop (addresses_used (Some kind) 0) (replicate 96 0) ≡ zeros (96 - addresses_used (Some kind) 0)
begun-rest kinds.Dir = zeros-are 96
begun-rest kinds.File = zeros-are 96

few-links : (kind : NodeKind) → links_of (Some kind) < 2 ^ 32
few-links kinds.Dir = omega arith
few-links kinds.File = omega arith

-- a body that begins its next life
pub begun-is_body : (number : ℕ) (before : Body) (kind : NodeKind) → CanBegin number before → IsBody (begun before kind)
begun-is_body number before kind can = record {
  widths = record {
    object_fits = can.is_body.widths.object_fits;
    links_fit = few-links kind;
    birth_fits = omega (arith, can.has_birth);
    count_fits = omega arith;
    address_count = refl;
    addresses_fit = zero-below 96 (2 ^ 32) (omega arith);
  };
  ranges = record {
    links_are = refl;
    count_to = omega arith;
    birth_from = omega arith;
    birth_to = omega (arith, can.has_birth);
    rest_is_zero = begun-rest kind;
  };
}

-- an object that begins with it can be written
pub new-is : (g : Geom) (item : FreeItem) (before : Body) (kind : NodeKind) (name : List ℕ) → IsName name → IsFreeItem g Fd item
    → CanBegin (number_of g Fd item) before → IsNewObject g (new_object item before kind name)
new-is g item before kind name named is can = record {
  is_free = is;
  inside = subst (λ o. o < items_of g Fd) (sym can.object) (item-within g Fd item is);
  is_body = begun-is_body (number_of g Fd item) before kind can;
  is_entry = record {
    is_name = named;
    object_fits = can.is_body.widths.object_fits;
    birth_from = omega arith;
    birth_to = omega (arith, can.has_birth);
  };
}
