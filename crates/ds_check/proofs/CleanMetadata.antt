-- Where bodies and bitmaps have no findings they are spelled, and the root is there.
use Rattle.std.proofs.Common.{◌≡◌, Bool, true, false, not, ◌&&◌, is_none, [], Option, None, Some, IsSome, refl, arith}
use Rattle.std.specs.Prelude.{◌==◌}
use Rattle.std.proofs.lemmas.Bool.{false≢true, eqb-true}
use Rattle.ds_base.specs.Geometry.{clusters_of, items_of}
use Rattle.ds_base.specs.declared.geometry.Geom.{Geom}
use Rattle.ds_base.specs.declared.geometry.Kind.{Kind}
use Rattle.ds_base.specs.declared.geometry.Kind.TheVariants.{Fd}
use Rattle.ds_base.specs.declared.names.NodeKind.{NodeKind}
use Rattle.ds_base.specs.declared.names.NodeKind.TheVariants as kinds
use Rattle.ds_fd.specs.declared.body.Body.{Body}
use Rattle.ds_image_parts.specs.Looks.{Look}
use Rattle.ds_image_parts.specs.Parts.{Parts, part_at, maps_of, AllSpelled}
use Rattle.ds_image_parts.specs.Readings.{ReadsParts}
use Rattle.ds_image.specs.Rooted.{HasRoot}
use Rattle.ds_check.specs.declared.findings.Find.TheVariants.{Root}
use Rattle.ds_check.specs.Metadata.{bitmap_form, body_form, unread, is_dir, is_root, root_finds, metadata_stage}
use Rattle.ds_check.specs.Rows.{row, row_of_kinds}
use Rattle.ds_check.proofs.NoBad.{each_kind}
use Rattle.ds_check.proofs.NoFinds.{both-none, not-found, row-none}

-- what isn't missing is there
pub some-there : {V : Type 0} (r : Option V) → is_none r ≡ false → IsSome r
some-there None some = absurd (cc)
some-there (Some v) some = refl

pub not-false : (b : Bool) → not b ≡ false → b ≡ true
not-false true is = refl
not-false false is = absurd (cc)

pub both-true : (a b : Bool) → (a && b) ≡ true → (a ≡ true) × (b ≡ true)
both-true true b is = (refl, is)
both-true false b is = absurd (false≢true is)

dir-kind : (kind : Option NodeKind) → is_dir kind ≡ true → kind ≡ Some kinds.Dir
dir-kind None is = absurd (false≢true is)
dir-kind (Some kinds.Dir) is = refl
dir-kind (Some kinds.File) is = absurd (false≢true is)

root-there : (p : Parts) (r : Option Body) → part_at p.bodies 0 ≡ r → is_root r ≡ true → HasRoot p
root-there p None there is = absurd (false≢true is)
root-there p (Some b) there is =
    let both = both-true (is_dir b.kind) (b.birth == 1) is in
    record { body = b; there = there; kind = dir-kind b.kind both.0; birth = eqb-true b.birth 1 both.1 }

module _ (g : Geom) (look : Look) (p : Parts) (reads : ReadsParts g look p) (none : metadata_stage g p ≡ []) where
  unread-none : unread g p ≡ []
  unread-none = (both-none (unread g p) (root_finds p) none).0

  pub bodies-spelled : AllSpelled p.bodies
  bodies-spelled i within =
      let forms = (both-none (row_of_kinds (λ kind. row (clusters_of g kind) (bitmap_form g p kind))) (row (items_of g Fd) (body_form g p)) unread-none).1 in
      some-there (part_at p.bodies i)
      (not-found (is_none (part_at p.bodies i)) _ (row-none (items_of g Fd) (body_form g p) forms i (omega (arith, within, reads.bodies.len))))

  pub maps-spelled : (kind : Kind) → AllSpelled (maps_of p kind)
  maps-spelled kind i within =
      let forms = (both-none (row_of_kinds (λ kind. row (clusters_of g kind) (bitmap_form g p kind))) (row (items_of g Fd) (body_form g p)) unread-none).0 in
      let here = each_kind (λ kind. row (clusters_of g kind) (bitmap_form g p kind)) kind forms in
      some-there (part_at (maps_of p kind) i)
      (not-found (is_none (part_at (maps_of p kind) i)) _ (row-none (clusters_of g kind) (bitmap_form g p kind) here i (omega (arith, within, (reads.maps kind).len))))

  pub root-is : HasRoot p
  root-is =
      root-there p (part_at p.bodies 0) refl
      (not-false (is_root (part_at p.bodies 0)) (not-found (not (is_root (part_at p.bodies 0))) Root (both-none (unread g p) (root_finds p) none).1))
