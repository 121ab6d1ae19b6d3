-- Which sub-blocks descriptors list.
use Rattle.std.proofs.Common.{◌≡◌, ℕ, ◌<◌, Bool, false, List, length, slice_get, slice_set, Option, Some, None, IsSome, is_some, refl, sym, ap, subst, ◌∙◌, get_or-set_same, get_or-set_other, inl, inr}
use Rattle.std.proofs.lemmas.Bool.{cases_eq, false≢true}
use Rattle.ds_base.specs.declared.names.NodeKind.TheVariants as kinds
use Rattle.ds_fd.specs.declared.body.Body.{Body}
use Rattle.ds_image_parts.specs.Objects.{subs_by, subs_of}
use Rattle.ds_image_tables.specs.Owns.{Owns, IsAt, bit}
use Rattle.ds_image_parts.specs.Parts.{Parts, part_at}
use Rattle.ds_image.specs.Sound.{sub_lists}
use Rattle.ds_image.proofs.Spelling.SoundParts.{list-is}
use Rattle.ds_plan_laws_new.specs.Entering.{subs_in}

pub listed-by : (p : Parts) (k i n : ℕ) → slice_get (subs_of (part_at p.bodies k)) i ≡ Some n → IsAt (sub_lists p) k i n
listed-by p k i n at = subst (λ l. slice_get l i ≡ Some n) (sym (list-is subs_of p.bodies refl k)) at

pub listed-in : (p : Parts) (d i n : ℕ) (dir : Body) → part_at p.bodies d ≡ Some dir → dir.kind ≡ Some kinds.Dir → slice_get (subs_in dir) i ≡ Some n
    → IsAt (sub_lists p) d i n
listed-in p d i n dir there kind_is at =
    listed-by p d i n (subst (λ l. slice_get l i ≡ Some n) (sym (ap subs_of there ∙ ap (subs_by dir) kind_is)) at)

-- an item whose bit is clear is listed nowhere
pub listed-nowhere : (lists : List (List ℕ)) (bits : List Bool) (n : ℕ) → Owns lists bits → bit bits n ≡ false → (o i : ℕ) → ¬ IsAt lists o i n
listed-nowhere lists bits n owns clear o i at = false≢true (sym clear ∙ owns.marked o i n at)

-- a part that was put in the place of another, or where there was one
pub part-put : {V : Type 0} (xs : List (Option V)) (n : ℕ) (v : V) → n < length xs → (m : ℕ) → IsSome (part_at xs m) → IsSome (part_at (slice_set xs n (Some v)) m)
part-put xs n v within m some = elim (cases_eq m n) [
  | inl here ↦ ap is_some (ap (part_at (slice_set xs n (Some v))) here ∙ get_or-set_same xs n (Some v) None within)
  | inr other ↦ ap is_some (get_or-set_other xs n m (Some v) None other) ∙ some
]
