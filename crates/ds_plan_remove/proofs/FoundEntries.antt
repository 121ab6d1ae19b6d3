-- The entry of a name that was found, and is of the kind that goes.
use Rattle.std.proofs.Common.{◌≡◌, ℕ, List, Some, refl, sym, ap, subst, ◌∙◌}
use Rattle.std.specs.Prelude.{Ok}
use Rattle.ds_base.specs.declared.geometry.Geom.{Geom}
use Rattle.ds_base.specs.declared.names.NodeKind.{NodeKind}
use Rattle.ds_base.specs.declared.names.NodeKind.TheVariants as kinds
use Rattle.ds_fd.specs.declared.body.Body.{Body}
use Rattle.ds_image_parts.specs.Objects.{subs_of}
use Rattle.ds_image_parts.specs.Parts.{Parts}
use Rattle.ds_image_parts.specs.Readings.{ReadsParts}
use Rattle.ds_image.specs.SeenValues.{SeenValue, look_of}
use Rattle.ds_plan_base.specs.Entries.{wanted_entry}
use Rattle.ds_plan_base.specs.declared.entries.Found.{Found}
use Rattle.ds_plan_base.proofs.Founds.{HasFound, entry-known}
use Rattle.ds_plan_base.proofs.Limits.{after-ok}
use Rattle.ds_plan_remove.specs.Entries.{of_kind, entry_of, entry_known}

pub entry-of : (kind : NodeKind) (found f : Found) → entry_of kind found ≡ Ok f → (found ≡ f) × (f.kind ≡ kind)
entry-of kind found f is = by kind found.kind refl is
  where
    by : (kind of : NodeKind) → found.kind ≡ of → of_kind kind found of ≡ Ok f → (found ≡ f) × (f.kind ≡ kind)
    by kinds.Dir kinds.Dir e is = let same : found ≡ f = cc in (same, ap (λ (f : Found). f.kind) (sym same) ∙ e)
    by kinds.File kinds.File e is = let same : found ≡ f = cc in (same, ap (λ (f : Found). f.kind) (sym same) ∙ e)
    by kinds.Dir kinds.File e is = absurd cc
    by kinds.File kinds.Dir e is = absurd cc

pub entry-found : (g : Geom) (seen : SeenValue) (p : Parts) → ReadsParts g (look_of seen) p → (dir : Body) (name : List ℕ) (kind : NodeKind) (f : Found) → entry_known g seen p dir name kind ≡ Ok f
    → (f.kind ≡ kind) × HasFound g seen p dir name (subs_of (Some dir)) f
entry-found g seen p reads dir name kind f is =
    let known = after-ok (wanted_entry g seen p dir name) (entry_of kind) f is in
    let of = entry-of kind known.0 f known.2 in
    (of.1, subst (HasFound g seen p dir name (subs_of (Some dir))) of.0 (entry-known g seen p reads dir name known.0 known.1).1)
