-- What is known of a new object.
use Rattle.std.specs.Prelude.{◌≡◌, ℕ, ◌^◌, ◌<◌, None}
use Rattle.ds_base.specs.Geometry.{items_of}
use Rattle.ds_base.specs.declared.geometry.Geom.{Geom}
use Rattle.ds_base.specs.declared.geometry.Kind.TheVariants.{Fd}
use Rattle.ds_dir.specs.SubBlock.{IsEntry}
use Rattle.ds_fd.specs.Body.{IsBody}
use Rattle.ds_fd.specs.declared.body.Body.{Body}
use Rattle.ds_plan_make.specs.declared.objects.NewObject.{NewObject}
use Rattle.ds_plan_base.specs.Items.{IsFreeItem}

-- a body of this descriptor that is not in use and has a birth left
pub record CanBegin (number : ℕ) (b : Body) : Type 0 where
  pub is_body : IsBody b
  pub object : b.object ≡ number
  pub unused : b.kind ≡ None
  pub has_birth : b.birth < 2 ^ 62

-- a new object that can be written: its descriptor is free, and its body and its entry can be spelled
pub record IsNewObject (g : Geom) (new : NewObject) : Type 0 where
  pub is_free : IsFreeItem g Fd new.item
  pub inside : new.body.object < items_of g Fd
  pub is_body : IsBody new.body
  pub is_entry : IsEntry new.entry
