-- Each turn is one more lock or one more sector, and the end is that of the course.
use Rattle.std.proofs.Common.{◌≡◌, [], subst, arith, rules}
use Rattle.ds_layout.specs.Metadata.{IsMetadata}
use Rattle.ds_plan_alone.specs.Courses.{Begun, IsCourse}
use Rattle.ds_plan_alone.proofs.Alone.{guarded, planned, lock_step, read_step, ends_right, most, asks_of, is_end}
use Rattle.ds_plan_alone.proofs.courses.carry_out.Goals as goal

pub asks-init : goal.asks-init
asks-init g c =
    let none : c.in_ok-asked.asked.items ≡ [] = search rules in
    record {
      planned = planned _ _ _ _ _ c.requires.geom c.geom-geom.ensures.whole c.requires.names (g.met.P.Plan.keeps c.args.plan.now) (g.met.P.Plan.few c.args.plan.now);
      has_asked = rw (c.in_ok-seen.ensures.locks, c.in_ok-seen.ensures.sectors, none) Begun;
      room = search rules;
    }

pub lock-requires-clause-fresh : goal.lock-requires-clause-fresh
lock-requires-clause-fresh g c =
    (lock_step _ _ _ _ c.asks.invariant.planned _ _ _ c.asks.invariant.has_asked c.in-Lock.ensures).fresh

pub lock-requires-clause-room : goal.lock-requires-clause-room
lock-requires-clause-room g c =
    (lock_step _ _ _ _ c.asks.invariant.planned _ _ _ c.asks.invariant.has_asked c.in-Lock.ensures).room

pub push_reserved-requires : goal.push_reserved-requires
push_reserved-requires g c =
    omega (arith, (lock_step _ _ _ _ c.asks.invariant.planned _ _ _ c.asks.invariant.has_asked c.in-Lock.ensures).more, c.asks.invariant.room)

pub asks-smaller-in-Lock : goal.asks-smaller-in-Lock
asks-smaller-in-Lock g c =
    rw c.push_reserved.ensures.items (lock_step _ _ _ _ c.asks.invariant.planned _ _ _ c.asks.invariant.has_asked c.in-Lock.ensures).less

pub asks-preserved-in-Lock : goal.asks-preserved-in-Lock
asks-preserved-in-Lock g c =
    record {
      planned = c.asks.invariant.planned;
      has_asked = rw (c.lock.ensures, c.push_reserved.ensures.items) (lock_step _ _ _ _ c.asks.invariant.planned _ _ _ c.asks.invariant.has_asked c.in-Lock.ensures).next;
      room = search rules;
    }

pub unreachable-requires : goal.unreachable-requires
unreachable-requires g c =
    c.in_default-sector.ensures (subst (λ k. IsMetadata k c.in-Read.at) c.requires.geom (read_step _ _ _ _ c.asks.invariant.planned _ _ _ c.asks.invariant.has_asked c.in-Read.ensures).metadata)

pub put-requires-clause-fresh : goal.put-requires-clause-fresh
put-requires-clause-fresh g c =
    (read_step _ _ _ _ c.asks.invariant.planned _ _ _ c.asks.invariant.has_asked c.in-Read.ensures).fresh

pub put-requires-clause-room : goal.put-requires-clause-room
put-requires-clause-room g c =
    (read_step _ _ _ _ c.asks.invariant.planned _ _ _ c.asks.invariant.has_asked c.in-Read.ensures).room

pub push_reserved-requires-in-Read : goal.push_reserved-requires-in-Read
push_reserved-requires-in-Read g c =
    omega (arith, (read_step _ _ _ _ c.asks.invariant.planned _ _ _ c.asks.invariant.has_asked c.in-Read.ensures).more, c.asks.invariant.room)

pub asks-smaller : goal.asks-smaller
asks-smaller g c =
    rw c.push_reserved-in-Read.ensures.items (read_step _ _ _ _ c.asks.invariant.planned _ _ _ c.asks.invariant.has_asked c.in-Read.ensures).less

pub asks-preserved : goal.asks-preserved
asks-preserved g c =
    record {
      planned = c.asks.invariant.planned;
      has_asked = rw (c.put.ensures, c.push_reserved-in-Read.ensures.items) ((read_step _ _ _ _ c.asks.invariant.planned _ _ _ c.asks.invariant.has_asked c.in-Read.ensures).next c.in-Some.sector c.in-Some.ensures.1);
      room = search rules;
    }

pub returns-in_default : goal.returns-in_default
returns-in_default g c =
    let is = c.asks.invariant in
    let course : IsCourse (g.P.Plan.geom c.args.plan.now) (g.P.Plan.answers c.args.plan.now) c.args.image.now.sectors c.asks.asked.items c.ask.result = record {
      seen = c.asks.seen;
      has_asked = is.has_asked;
      answered = asks_of _ _ _ _ is.planned _ _ _ is.has_asked c.ask.ensures;
      guarded = guarded _ _ _ _ is.planned _ _ is.has_asked;
      ended = is_end c.ask.result c.in_default.not-Lock c.in_default.not-Read;
    } in
    record {
      course = course;
      right = ends_right _ _ _ _ is.planned _ _ course;
      few = most _ _ _ _ is.planned _ _ is.has_asked;
    }
