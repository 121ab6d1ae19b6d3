-- How an event moves a host on in its directives.
use Rattle.std.specs.Prelude.{ℕ, suc, ◌+◌, ◌&&◌, ◌||◌, Bool, true, false, List, drop, Option, Some, None, if◌then◌else◌}
use Rattle.std.specs.List.{position_or_len}
use Rattle.ds_tree.specs.declared.scenarios.Directive.{Directive}
use Rattle.ds_tree.specs.declared.scenarios.Directive.TheVariants as directives
use Rattle.ds_tree.specs.declared.scenarios.Point.{Point}
use Rattle.ds_log_order.specs.declared.progress.Arm.{Arm}
use Rattle.ds_log_order.specs.declared.progress.Arm.TheVariants as arms
use Rattle.ds_log_order.specs.declared.progress.Mark.{Mark}
use Rattle.ds_log_order.specs.declared.progress.Progress.{Progress}

-- that of a host that has done nothing
abbrev pub at_start : Progress
at_start = record { finished = 0; calling = false; answered = false; sent = 0; arm = arms.Nothing; alive = true }

-- whether a directive is a return
abbrev pub is_return : Directive → Bool
is_return directives.Return = true
is_return _ = false

-- how many directives stand before the first return
abbrev pub before_return : List Directive → ℕ
before_return list = position_or_len is_return list

-- how many directives are finished after a death in the one at this index: those up to the next return
abbrev pub after_death : List Directive → ℕ → ℕ
after_death list n = suc n + before_return (drop (suc n) list)

-- the kind of command at which what is set bites
abbrev pub point_of : Arm → Option Point
point_of (arms.Hold point host directive) = Some point
point_of (arms.Crash point) = Some point
point_of (arms.Fail point landed) = Some point
point_of _ = None

-- what is set after an event of the call: `hit` tells whether its command is of that kind, `done` whether it answered Got or Done
abbrev pub arm_after : Arm → Bool → Bool → Arm
arm_after (arms.Hold point host directive) hit done = if hit && done then arms.Bitten host directive else arms.Hold point host directive
arm_after (arms.Fail point landed) hit done = if hit then arms.Nothing else arms.Fail point landed
arm_after arm hit done = arm

-- whether the host dies at this event of a call
abbrev pub crashes : Arm → Bool → Bool → Bool
crashes (arms.Crash point) hit done = hit && done
crashes arm hit done = false

-- whether a fault bites at this event, and then whether its command lands
abbrev pub fails : Arm → Bool → Option Bool
fails (arms.Fail point landed) hit = if hit then Some landed else None
fails arm hit = None

-- at the next directive
abbrev pub gone_on : Progress → Arm → Bool → Progress
gone_on p arm alive = record { finished = suc p.finished; calling = false; answered = false; sent = 0; arm = arm; alive = alive }

-- after a death
abbrev pub died : List Directive → Progress → Progress
died list p = record {
  finished = after_death list p.finished;
  calling = false;
  answered = false;
  sent = 0;
  arm = arms.Nothing;
  alive = false;
}

-- in a call that goes on
abbrev pub called : Progress → Mark → Progress
called p mark = record {
  finished = p.finished;
  calling = true;
  answered = p.answered || mark.replied;
  sent = suc p.sent;
  arm = arm_after p.arm mark.hit mark.done;
  alive = p.alive;
}

-- after an event of a call: the host has died, or the call and its tail have ended, or it goes on
abbrev pub after_call : List Directive → Progress → Mark → Progress
after_call list p mark = if mark.dies then died list p else (if mark.ends then gone_on p arms.Nothing p.alive else called p mark)

-- after an event in this directive
abbrev pub advance : List Directive → Option Directive → Progress → Mark → Progress
advance list None p mark = p
advance list (Some (directives.Call call bind)) p mark = after_call list p mark
advance list (Some (directives.Hold point host number)) p mark = gone_on p (arms.Hold point host number) p.alive
advance list (Some (directives.Crash point)) p mark = gone_on p (arms.Crash point) p.alive
advance list (Some (directives.Fail point landed)) p mark = gone_on p (arms.Fail point landed) p.alive
advance list (Some directives.Die) p mark = died list p
advance list (Some directives.Return) p mark = gone_on p arms.Nothing true
advance list (Some _) p mark = gone_on p arms.Nothing p.alive
