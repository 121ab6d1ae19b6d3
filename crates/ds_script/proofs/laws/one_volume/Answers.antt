use Rattle.ds_script.proofs.VolumeTexts.{same_volume, one_answer, spelled_not_bad, spelled_within}
use Rattle.ds_script.proofs.laws.one_volume.Goals as goal

pub returns-clause-one : goal.returns-clause-one
returns-clause-one c = same_volume

pub returns-clause-not_bad : goal.returns-clause-not_bad
returns-clause-not_bad c = spelled_not_bad

pub returns-clause-within : goal.returns-clause-within
returns-clause-within c = spelled_within

pub returns-clause-answer : goal.returns-clause-answer
returns-clause-answer c = one_answer
