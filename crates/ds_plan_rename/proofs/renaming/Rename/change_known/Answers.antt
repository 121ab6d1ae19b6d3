-- Inside one directory the change is what is known there.
use Rattle.std.proofs.Common.{◌≡◌, ℕ, ◌==◌, true, List, eq-eqb}
use Rattle.std.specs.Prelude.{Result, Ok}
use Rattle.ds_base.specs.declared.geometry.Geom.{Geom}
use Rattle.ds_base.specs.declared.names.Key.{Key}
use Rattle.ds_fd.specs.declared.body.Body.{Body}
use Rattle.ds_image_parts.specs.Parts.{Parts}
use Rattle.ds_image.specs.SeenValues.{SeenValue}
use Rattle.ds_plan_base.specs.Bodies.{dir_of_key}
use Rattle.ds_plan_base.specs.declared.stops.Stop.{Stop}
use Rattle.ds_plan_rename.specs.Answers.{kept_known, change_known}
use Rattle.ds_plan_rename.specs.declared.renaming.Moving.{Moving}

kept-is : (g : Geom) (slot : ℕ) (seen : SeenValue) (p : Parts) (key : Key) (name : List ℕ) (to_key : Key) (fresh : List ℕ) (dir : Body) (r : Result Moving Stop)
    → dir_of_key g seen p key ≡ Ok dir → dir_of_key g seen p to_key ≡ Ok dir → key.object ≡ to_key.object
    → r ≡ kept_known g seen p dir name fresh → r ≡ change_known g slot seen p key name to_key fresh
kept-is g slot seen p key name to_key fresh dir r a b same e =
    let one : (key.object == to_key.object) ≡ true = eq-eqb key.object to_key.object same in
    rw (a, b, one) e
