-- The change is known once its parts are.
use Rattle.std.proofs.Common.{◌≡◌, ℕ, List, None, refl}
use Rattle.std.specs.Prelude.{Result, Ok}
use Rattle.ds_base.specs.declared.geometry.Geom.{Geom}
use Rattle.ds_base.specs.declared.geometry.Kind.TheVariants.{Sb}
use Rattle.ds_base.specs.declared.names.Key.{Key}
use Rattle.ds_base.specs.declared.names.NodeKind.{NodeKind}
use Rattle.ds_fd.specs.declared.body.Body.{Body}
use Rattle.ds_image_parts.specs.Parts.{Parts}
use Rattle.ds_image.specs.SeenValues.{SeenValue}
use Rattle.ds_jrnl.specs.declared.redo.Redo.{Redo}
use Rattle.ds_plan_make.specs.Answers.{object_known, change_known}
use Rattle.ds_plan_make.specs.Redos.{pairs_grown}
use Rattle.ds_plan_make.specs.declared.making.Making.{Making}
use Rattle.ds_plan_make.specs.declared.objects.NewObject.{NewObject}
use Rattle.ds_plan_base.specs.Bodies.{dir_of_key}
use Rattle.ds_plan_base.specs.Items.{wanted_item}
use Rattle.ds_plan_base.specs.Redos.{redo_of}
use Rattle.ds_plan_base.specs.Rooms.{room_for}
use Rattle.ds_plan_base.specs.declared.items.FreeItem.{FreeItem}
use Rattle.ds_plan_base.specs.declared.stops.Stop.{Stop}

-- so the change is known once all this is
pub grown-is : (g : Geom) (slot : ℕ) (seen : SeenValue) (p : Parts) (key : Key) (name : List ℕ) (kind : NodeKind) (dir : Body) (new : NewObject) (sub : FreeItem) (redo : Redo)
    → dir_of_key g seen p key ≡ Ok dir → room_for g seen p dir name ≡ Ok None → object_known g slot seen p kind name ≡ Ok new
    → wanted_item g slot seen p Sb ≡ Ok sub → redo ≡ redo_of (pairs_grown g dir new sub)
    → ◌≡◌ {A = Result Making Stop} (Ok (record { redo = redo; key = new.entry.key })) (change_known g slot seen p key name kind)
grown-is g slot seen p key name kind dir new sub redo a b c d e = rw (a, b, c, d, e) refl
