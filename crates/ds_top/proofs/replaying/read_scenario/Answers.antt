use Rattle.std.proofs.Common.{◌≡◌, ℕ, Some, None, sym, ap, subst}
use Rattle.ds_script.specs.Answers.{IsScenarioText}
use Rattle.ds_top.specs.declared.commands.Command.TheVariants.{Replay}
use Rattle.ds_top.specs.declared.outcome.Why.{Why}
use Rattle.ds_top.specs.Runs.{IsRefusedOf}
use Rattle.ds_top.proofs.CauseLaws.{text_refused, text_read, text_runs, text_not_built}
use Rattle.ds_top.proofs.replaying.read_scenario.Goals as goal

pub returns-in-Err : goal.returns-in-Err
returns-in-Err c =
    subst (λ (w : Why). IsRefusedOf Replay c.args.bytes.now w) (sym c.from.ensures)
    (text_refused c.args.bytes.now c.in-Err.fault c.in-Err.ensures.answer c.in-Err.ensures.only)

pub returns-in-Some : goal.returns-in-Some
returns-in-Some c =
    let s = c.in-Ok.scenario in
    let at = c.in-Some.at in
    let text : IsScenarioText c.args.bytes.now s = text_read c.args.bytes.now s c.in-Ok.ensures.answer in
    text_not_built c.args.bytes.now s at.0 at.1 text c.in-Some.ensures.told c.in-Ok.ensures.only
    (λ form. let none : Some at ≡ None = c.in-Some.ensures.none form in absurd (cc))
    (λ h d here.
    let same : Some at ≡ Some (h, d) = c.in-Some.ensures.only h d here in
    let is : at ≡ (h, d) = cc in
    (ap (λ (x : ℕ × ℕ). x.0) (sym is), ap (λ (x : ℕ × ℕ). x.1) (sym is)))

pub returns-in-None : goal.returns-in-None
returns-in-None c =
    let s = c.in-Ok.scenario in
    let text : IsScenarioText c.args.bytes.now s = text_read c.args.bytes.now s c.in-Ok.ensures.answer in
    text_runs c.args.bytes.now s text c.in-None.ensures.told c.in-Ok.ensures.only
    (λ h d here. let some : None ≡ Some (h, d) = c.in-None.ensures.only h d here in absurd (cc))
