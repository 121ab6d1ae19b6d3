-- The change is known once its parts are.
use Rattle.std.proofs.Common.{◌≡◌, ℕ, List, [], ◌∷◌, ◌++◌, refl, ap, ◌∙◌}
use Rattle.std.specs.Prelude.{Result, Ok}
use Rattle.ds_base.specs.declared.geometry.Geom.{Geom}
use Rattle.ds_base.specs.declared.names.Key.{Key}
use Rattle.ds_base.specs.declared.names.NodeKind.{NodeKind}
use Rattle.ds_fd.specs.declared.body.Body.{Body}
use Rattle.ds_image_parts.specs.Parts.{Parts}
use Rattle.ds_image_parts.specs.Pending.{Pair}
use Rattle.ds_image.specs.SeenValues.{SeenValue}
use Rattle.ds_jrnl.specs.declared.redo.Redo.{Redo}
use Rattle.ds_plan_base.specs.Bodies.{dir_of_key}
use Rattle.ds_plan_base.specs.Redos.{block_emptied, body_pair, sub_pair}
use Rattle.ds_plan_base.specs.declared.entries.Found.{Found}
use Rattle.ds_plan_base.specs.declared.stops.Stop.{Stop}
use Rattle.ds_plan_remove.specs.Answers.{object_given, ended, with_ended, change_known}
use Rattle.ds_plan_remove.specs.Entries.{entry_known, body_named}
use Rattle.ds_plan_remove.specs.declared.removing.Removing.{Removing}

-- so the change is known once all this is
pub removed-is : (g : Geom) (seen : SeenValue) (p : Parts) (key : Key) (name : List ℕ) (kind : NodeKind) (dir : Body) (f : Found) (b : Body) (redo written : Redo)
    → dir_of_key g seen p key ≡ Ok dir → entry_known g seen p dir name kind ≡ Ok f → body_named g seen p kind f.key f.sub ≡ Ok b
    → object_given g seen p kind b ≡ Ok redo → written ≡ with_ended g redo b f
    → ◌≡◌ {A = Result Removing Stop} (Ok (record { redo = written; key = f.key })) (change_known g seen p key name kind)
removed-is g seen p key name kind dir f b redo written one two three four five = rw (one, two, three, four, five) refl

-- what is written with two sectors more
pub written-is : (g : Geom) (redo : Redo) (b : Body) (f : Found) (x y : Pair) (one two : List Pair) → x ≡ body_pair g (ended b) → y ≡ sub_pair g f.sub (block_emptied f)
    → one ≡ redo.pairs.items ++ x ∷ [] → two ≡ one ++ y ∷ [] → ◌≡◌ {A = Redo} (record { pairs = record { items = two } }) (with_ended g redo b f)
written-is g redo b f x y one two body sub first second =
    ap (λ (xs : List Pair). record { pairs = record { items = xs } })
    (second ∙ ap (λ (xs : List Pair). xs ++ y ∷ []) first ∙ ap (λ (x : Pair). (redo.pairs.items ++ x ∷ []) ++ y ∷ []) body
    ∙ ap (λ (y : Pair). (redo.pairs.items ++ body_pair g (ended b) ∷ []) ++ y ∷ []) sub)
