-- What is read of a text is its answer, and the only one.
use Rattle.ds_script.proofs.ScenarioTexts.{is_answer, only_answer}
use Rattle.ds_script.proofs.reading.read.Goals as goal

pub returns-clause-answer : goal.returns-clause-answer
returns-clause-answer c = is_answer c.args.bytes.now c.read_passing.result c.read_passing.ensures

pub returns-clause-only : goal.returns-clause-only
returns-clause-only c = only_answer c.args.bytes.now c.read_passing.result c.read_passing.ensures
