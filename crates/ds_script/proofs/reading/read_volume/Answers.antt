use Rattle.ds_script.proofs.VolumeTexts.{is_answer, only_answer}
use Rattle.ds_script.proofs.reading.read_volume.Goals as goal

pub returns-clause-answer : goal.returns-clause-answer
returns-clause-answer c = is_answer c.args.bytes.now c.read_volume_text.result c.read_volume_text.ensures

pub returns-clause-only : goal.returns-clause-only
returns-clause-only c = only_answer c.args.bytes.now c.read_volume_text.result c.read_volume_text.ensures
