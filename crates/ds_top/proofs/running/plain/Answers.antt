use Rattle.std.proofs.Common.{◌≡◌, ℕ, List, Some, map, subst}
use Rattle.std.specs.String.{string_bytes}
use Rattle.ds_top.specs.Commands.{AskFor}
use Rattle.ds_top.specs.Promise.{HasOutput}
use Rattle.ds_top.specs.declared.commands.Command.{Command}
use Rattle.ds_top.specs.declared.commands.Command.TheVariants.{Replay, Format, Check, Tree}
use Rattle.ds_top.proofs.RunLaws.{run_of, format_of, check_of, list_of, asked_causes, asked_only, asked_output}
use Rattle.ds_top.proofs.running.plain.Goals as goal

pub returns-in-Some-clause-run : goal.returns-in-Some-clause-run
returns-in-Some-clause-run g c = λ asks has.
    let some : Some c.in-Some.command ≡ Some Replay = (c.in-Some.ensures Replay).1 asks in
    run_of c.in-Some.command _ _ _ _ _ _ _ _ c.execute.result.why c.execute.result.log (cc) c.execute.ensures.ends (subst HasOutput c.execute.ensures.status has)

pub returns-in-Some-clause-formatted : goal.returns-in-Some-clause-formatted
returns-in-Some-clause-formatted g c = λ asks has.
    let some : Some c.in-Some.command ≡ Some Format = (c.in-Some.ensures Format).1 asks in
    format_of c.in-Some.command _ _ _ _ _ _ _ _ c.execute.result.why c.execute.result.log (cc) c.execute.ensures.ends (subst HasOutput c.execute.ensures.status has)

pub returns-in-Some-clause-checked : goal.returns-in-Some-clause-checked
returns-in-Some-clause-checked g c = λ asks has.
    let some : Some c.in-Some.command ≡ Some Check = (c.in-Some.ensures Check).1 asks in
    check_of c.in-Some.command _ _ _ _ _ _ _ _ c.execute.result.why c.execute.result.log (cc) c.execute.ensures.ends (subst HasOutput c.execute.ensures.status has)

pub returns-in-Some-clause-listed : goal.returns-in-Some-clause-listed
returns-in-Some-clause-listed g c = λ asks has.
    let some : Some c.in-Some.command ≡ Some Tree = (c.in-Some.ensures Tree).1 asks in
    list_of c.in-Some.command _ _ _ _ _ _ _ _ c.execute.result.why c.execute.result.log (cc) c.execute.ensures.ends (subst HasOutput c.execute.ensures.status has)

pub returns-in-Some-clause-log : goal.returns-in-Some-clause-log
returns-in-Some-clause-log g c = λ none.
    let asked : List (List ℕ) = map (λ w. string_bytes w) c.args.words.now in
    let asks : AskFor asked c.in-Some.command = (c.in-Some.ensures c.in-Some.command).0 (cc) in
    c.execute.ensures.ends.no_log (λ is. none (subst (λ (command : Command). AskFor asked command) is asks))

pub returns-in-Some-clause-words : goal.returns-in-Some-clause-words
returns-in-Some-clause-words g c = (
  λ is. absurd (c.execute.ensures.ends.words is),
  λ none. absurd (none c.in-Some.command ((c.in-Some.ensures c.in-Some.command).0 (cc))),
)

pub returns-in-Some-clause-cause : goal.returns-in-Some-clause-cause
returns-in-Some-clause-cause g c =
    asked_causes _ (map (λ w. string_bytes w) c.args.words.now) c.in-Some.command c.execute.result.why
    (λ other asks. let some : Some c.in-Some.command ≡ Some other = (c.in-Some.ensures other).1 asks in cc) c.execute.ensures.ends.caused

pub returns-in-Some-clause-only : goal.returns-in-Some-clause-only
returns-in-Some-clause-only g c =
    asked_only _ (map (λ w. string_bytes w) c.args.words.now) c.in-Some.command c.execute.result.why
    (λ other asks. let some : Some c.in-Some.command ≡ Some other = (c.in-Some.ensures other).1 asks in cc) c.execute.ensures.ends.only

pub returns-in-Some-clause-written : goal.returns-in-Some-clause-written
returns-in-Some-clause-written g c = λ is.
    asked_output _ (map (λ w. string_bytes w) c.args.words.now) c.in-Some.command
    (λ other asks. let some : Some c.in-Some.command ≡ Some other = (c.in-Some.ensures other).1 asks in cc) (c.execute.ensures.ends.written is)
