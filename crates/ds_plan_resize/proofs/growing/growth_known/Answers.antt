-- A file that grows can be written.
use Rattle.std.proofs.Common.{◌-◌, ◌^◌, sym, subst}
use Rattle.ds_base.specs.declared.geometry.Kind.TheVariants.{Pb}
use Rattle.ds_bytes.specs.Fields.{AllBelow}
use Rattle.ds_plan_resize.specs.Taking.{IsTaken}
use Rattle.ds_plan_resize.specs.Writable.{IsWritable}
use Rattle.ds_plan_resize.specs.declared.resized.Resized.{Resized}
use Rattle.ds_plan_resize.proofs.GrownFacts.{grown-writable}
use Rattle.ds_plan_resize.proofs.growing.growth_known.Goals as goal

pub returns-clause-writable : goal.returns-clause-writable
returns-clause-writable c =
    let g = c.args.geom.now in
    let fresh = c.in_ok-fresh.fresh in
    subst (IsWritable g) (sym c.grown.ensures.grown)
    (grown-writable g c.args.size c.args.body.now c.in_ok-old.old c.in_ok-added.added fresh c.requires.can c.requires.grows
    c.in_ok-old.ensures.count c.in_ok-old.ensures.inside c.in_ok-added.ensures.taken
    (subst (λ n. IsTaken g Pb n fresh) (λ i. c.pointer_blocks.ensures i - c.pointer_blocks-2.ensures i) c.in_ok-fresh.ensures.taken)
    (subst (λ (r : Resized). AllBelow (2 ^ 32) r.body.addresses) c.grown.ensures.grown c.grown.ensures.fits))
