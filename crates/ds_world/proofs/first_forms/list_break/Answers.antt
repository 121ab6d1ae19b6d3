use Rattle.std.proofs.Common.{◌≡◌, sym, subst}
use Rattle.ds_tree.specs.FirstForm.{BreaksAt, register}
use Rattle.ds_world.proofs.FirstForms.{empty_breaks, first_breaks, list_told}
use Rattle.ds_world.proofs.first_forms.list_break.Goals as goal

pub returns-in-None : goal.returns-in-None
returns-in-None c = empty_breaks c.args.list.now c.in-None.ensures.cases

pub returns-then-is_register : goal.returns-then-is_register
returns-then-is_register c =
    list_told c.args.list.now c.in-Some.calls.now c.in-Some.first.now c.call_break.result c.in-Some.ensures.cases.0
    (c.is_register.ensures.0 c.if-is_register.true) c.call_break.ensures

pub returns-else-is_register : goal.returns-else-is_register
returns-else-is_register c =
    let other : c.in-Some.first.now ≡ register → ⊥ = λ is. cc (c.if-is_register.ensures.1 is) in
    subst (λ list. BreaksAt list 1) (sym c.in-Some.ensures.cases.0) (first_breaks c.in-Some.first.now c.in-Some.calls.now other)
