-- What was asked for so far, one after another, and what is seen then; and room for what is asked for yet.
use Rattle.std.proofs.Common.{◌-◌, ◌≤◌, length, vec_capacity}
use Rattle.ds_plan_alone.specs.Courses.{HasAsked}
use Rattle.ds_plan_alone.proofs.Alone.{IsPlanned}
use Rattle.ds_plan_alone.proofs.courses.carry_out.Given as goal

abbrev pub invariant-asks : goal.invariant-asks
invariant-asks g l = record {
  planned : IsPlanned (g.P.Plan.geom l.plan) (g.P.Plan.call l.plan) (g.P.Plan.answers l.plan) l.image.sectors;
  has_asked : HasAsked (g.P.Plan.geom l.plan) (g.P.Plan.answers l.plan) l.image.sectors l.seen l.asked.items;
  room : 280 ≤ vec_capacity l.asked;
}

abbrev pub decreases-asks : goal.decreases-asks
decreases-asks g l = 280 - length l.asked.items
