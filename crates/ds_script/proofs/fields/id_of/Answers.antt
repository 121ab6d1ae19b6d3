use Rattle.std.proofs.Common.{refl}
use Rattle.std.proofs.lemmas.Bool.{false≢true}
use Rattle.uuid.specs.Text.{parsed}
use Rattle.ds_script.proofs.Labels.{none_since}
use Rattle.ds_script.proofs.fields.id_of.Goals as goal

pub returns-in-Err : goal.returns-in-Err
returns-in-Err c = (none_since (parsed c.args.word.now) (λ some. false≢true (c.in-Err.ensures.ok.1 some)), refl)
