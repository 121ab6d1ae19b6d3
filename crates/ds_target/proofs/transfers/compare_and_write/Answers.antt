use Rattle.std.proofs.Common.{◌≤◌, ◌+◌, Bool, refl, sym, subst, ◌∙◌}
use Rattle.std.specs.Prelude.{Some, if◌then◌else◌}
use Rattle.ds_target.proofs.Comparing.{is_verified_one, stored_one, told_one}
use Rattle.ds_target.proofs.transfers.compare_and_write.Goals as goal

pub returns-in-Done-clause-sectors : goal.returns-in-Done-clause-sectors
returns-in-Done-clause-sectors c =
    c.do_command.ensures.stored
    ∙ stored_one c.args.lun.now.sectors c.args.at c.args.out.now c.image_at-verify.result c.image_at-fresh.result
    c.requires.range c.image_at-verify.ensures c.image_at-fresh.ensures

pub returns-in-Miscompare-clause-sectors : goal.returns-in-Miscompare-clause-sectors
returns-in-Miscompare-clause-sectors c =
    c.do_command.ensures.stored
    ∙ stored_one c.args.lun.now.sectors c.args.at c.args.out.now c.image_at-verify.result c.image_at-fresh.result
    c.requires.range c.image_at-verify.ensures c.image_at-fresh.ensures

pub returns-in-Done-clause-answer : goal.returns-in-Done-clause-answer
returns-in-Done-clause-answer c =
    is_verified_one c.args.lun.now.sectors c.args.at c.args.out.now c.image_at-verify.result c.requires.range c.image_at-verify.ensures
    ∙ c.in-Done.ensures.answer

pub returns-in-Miscompare-clause-answer : goal.returns-in-Miscompare-clause-answer
returns-in-Miscompare-clause-answer c =
    told_one c.args.lun.now.sectors c.args.at c.args.out.now c.image_at-verify.result (Some c.in-Miscompare.offset)
    c.requires.range c.image_at-verify.ensures c.in-Miscompare.ensures.answer (c.in-Miscompare.ensures.within c.in-Miscompare.offset refl)

pub returns-in-Done-clause-spare : goal.returns-in-Done-clause-spare
returns-in-Done-clause-spare c =
    let P : Bool → Type 0 = λ b. c.args.lun.now.spare ≤ c.do_command.new.self.spare + (if b then 1 else 0) in
    subst P (sym (is_verified_one c.args.lun.now.sectors c.args.at c.args.out.now c.image_at-verify.result c.requires.range c.image_at-verify.ensures))
    c.do_command.ensures.spare

pub returns-in-Miscompare-clause-spare : goal.returns-in-Miscompare-clause-spare
returns-in-Miscompare-clause-spare c =
    let P : Bool → Type 0 = λ b. c.args.lun.now.spare ≤ c.do_command.new.self.spare + (if b then 1 else 0) in
    subst P (sym (is_verified_one c.args.lun.now.sectors c.args.at c.args.out.now c.image_at-verify.result c.requires.range c.image_at-verify.ensures))
    c.do_command.ensures.spare
