-- What is noted are the lost objects.
use Rattle.std.proofs.Common.{◌≡◌, ◌++◌, List, length, sym, ap, ◌∙◌, subst}
use Rattle.std.specs.Prelude.{OnOk, Result, Ok, Err}
use Rattle.ds_base.specs.Geometry.{items_of}
use Rattle.ds_base.specs.declared.geometry.Kind.TheVariants.{Fd}
use Rattle.ds_image_tables.specs.Parents.{AreReached}
use Rattle.ds_check.specs.declared.findings.Find.{Find}
use Rattle.ds_check.specs.Findings.{AreLost}
use Rattle.ds_check.specs.Unreached.{unreached_at, AreNamers}
use Rattle.ds_check.specs.Rows.{row}
use Rattle.ds_check.proofs.LostObjects.{lost-unreached}
use Rattle.ds_check.proofs.unreached.note_lost.Goals as goal

on-ok : {A E : Type 0} (r : Result A E) (P Q : Type 0) → (P → Q) → OnOk r P → OnOk r Q
on-ok (Ok x) P Q then is = then is
on-ok (Err e) P Q then is = is

pub returns : goal.returns
returns c =
    let g = c.args.geom.now in
    let p = c.args.parts.now in
    let n = items_of g Fd in
    let parents = c.deref.result.now in
    let reached = c.deref-2.result.now in
    let len : length parents ≡ n = ap length c.deref.ensures.value ∙ c.in_ok-parents.ensures.count in
    let are : AreNamers p n parents = subst (AreNamers p n) (sym c.deref.ensures.value) c.in_ok-parents.ensures.namers in
    let known : AreReached parents reached = subst (AreReached parents) (sym c.deref-2.ensures.value) c.in_ok-reached.ensures in
    let finds = row n (unreached_at p reached) in
    on-ok c.note_unreached.result (c.note_unreached.new.report ≡ c.args.report.now ++ finds)
    ((x : List Find) × AreLost p x × (c.note_unreached.new.report ≡ c.args.report.now ++ x))
    (λ told. (finds, lost-unreached g p c.requires.count c.requires.named parents reached len are known, told)) c.note_unreached.ensures
