use Rattle.std.proofs.Common.{◌≡◌, ℕ, length, Some, ap, sym, ◌∙◌, arith}
use Rattle.std.specs.Prelude.{slice_index}
use Rattle.ds_tree.specs.PlainPass.{list_at, wait_at}
use Rattle.ds_script.proofs.Waits.{list_at-within, waits_tell}
use Rattle.ds_script.proofs.passing.can_pass.Goals as goal

pub returns-in-Some : goal.returns-in-Some
returns-in-Some c =
    let plans = c.args.plans.now in
    let passed = c.args.passed.now in
    let host = c.args.host in
    let list : list_at plans host ≡ c.as_slice-list.result.now =
    list_at-within plans host c.index-plans-host.result c.requires.within ∙ sym c.as_slice-list.ensures in
    let waits : wait_at (list_at plans host) (slice_index passed host) ≡ Some (c.from.result, c.in-Some.number) =
    ap (λ l. wait_at l (slice_index passed host)) list ∙ sym c.wait_of.ensures ∙ c.in-Some.is
    ∙ ap (λ (h : ℕ). Some (h, c.in-Some.number)) (sym c.from.ensures) in
    waits_tell plans passed host c.from.result c.in-Some.number (omega (arith, ap length list, c.if-next-list.false)) waits
    c.has_passed.result c.has_passed.ensures
