use Rattle.ds_reg.proofs.Taking.{takes-one}
use Rattle.ds_reg.specs.declared.steps.Went.TheVariants as went
use Rattle.ds_reg.proofs.runs.RegRun.take.Goals as goal

pub returns-in-On-clause-one : goal.returns-in-On-clause-one
returns-in-On-clause-one c = λ other takes.
    takes-one c.args.self.now.geom c.args.self.now.call c.args.self.now.stage c.args.response.now other (went.On c.in-On.stage) takes
    c.in-On.ensures.takes

pub returns-in-Ended-clause-one : goal.returns-in-Ended-clause-one
returns-in-Ended-clause-one c = λ other takes.
    takes-one c.args.self.now.geom c.args.self.now.call c.args.self.now.stage c.args.response.now other (went.Ended c.in-Ended.end) takes
    c.in-Ended.ensures.takes
