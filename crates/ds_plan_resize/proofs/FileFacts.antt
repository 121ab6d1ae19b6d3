-- A file that is known to get a size may get it.
use Rattle.std.proofs.Common.{◌≡◌, ℕ, ◌<◌, ◌==◌, Bool, true, false, nat_lt, if◌then◌else◌, Option, Some, None, refl, sym, subst, arith}
use Rattle.std.specs.Prelude.{Result, Ok, Err, IfOk}
use Rattle.std.proofs.lemmas.Bool.Decides.{nat_tests}
use Rattle.ds_base.specs.Geometry.{items_of}
use Rattle.ds_base.specs.declared.geometry.Geom.{Geom}
use Rattle.ds_base.specs.declared.geometry.Kind.TheVariants.{Fd}
use Rattle.ds_base.specs.declared.names.NodeKind.{NodeKind}
use Rattle.ds_base.specs.declared.names.NodeKind.TheVariants as kinds
use Rattle.ds_fd.specs.Body.{IsBody}
use Rattle.ds_fd.specs.declared.body.Body.{Body}
use Rattle.ds_plan_base.specs.declared.stops.Ending.TheVariants as endings
use Rattle.ds_plan_base.specs.declared.stops.Stop.{Stop}
use Rattle.ds_plan_base.specs.declared.stops.Stop.TheVariants.{Done}
use Rattle.ds_plan_resize.specs.Files.{CanResize, difference, file_by, body_of_file, body_to_size}

-- what is taken for a file is the body of one
file-is : (b : Body) (kind : Option NodeKind) (c : Body) → b.kind ≡ kind → file_by b kind ≡ Ok c → (b ≡ c) × (b.kind ≡ Some kinds.File)
file-is b None c is ok = absurd cc
file-is b (Some kinds.Dir) c is ok = absurd cc
file-is b (Some kinds.File) c is ok = ((let same : b ≡ c = cc in same), is)

can-by : (g : Geom) (size : ℕ) (b : Body) → b.object < items_of g Fd → IsBody b → b.kind ≡ Some kinds.File → IfOk (body_to_size size b) (CanResize g size)
can-by g size b inside is file = by (nat_lt 12288 size) (nat_lt 1024 (difference size b.count)) (size == b.count) refl refl
  where
    by : (one two three : Bool) → nat_lt 12288 size ≡ one → nat_lt 1024 (difference size b.count) ≡ two
        → IfOk (if one then Err (Done endings.TooBig) else if two then Err (Done endings.TooMuch) else if three then Err (Done (endings.Sized size)) else Ok b) (CanResize g size)
    by true two three e f = tt
    by false true three e f = tt
    by false false true e f = tt
    by false false false e f = record { inside = inside; is_body = is; is_file = file; most = grind (arith, nat_tests, e); near = grind (arith, nat_tests, f) }

pub can-resize : (g : Geom) (size : ℕ) (b c : Body) (r : Result Body Stop) → b.object < items_of g Fd → IsBody b → body_of_file b ≡ Ok c → r ≡ body_to_size size c
    → IfOk r (CanResize g size)
can-resize g size b c r inside is ok same =
    let file = file-is b b.kind c refl ok in
    subst (λ (r : Result Body Stop). IfOk r (CanResize g size)) (sym same)
    (subst (λ (x : Body). IfOk (body_to_size size x) (CanResize g size)) file.0 (can-by g size b inside is file.1))
