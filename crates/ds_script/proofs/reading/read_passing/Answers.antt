use Rattle.std.proofs.Common.{◌≡◌, false, length, refl, inr}
use Rattle.std.specs.Prelude.{nat_lt}
use Rattle.std.proofs.lemmas.Bool.{le-ltb}
use Rattle.ds_tree.specs.Grammar.{most_bytes}
use Rattle.ds_script.proofs.reading.read_passing.Goals as goal

pub returns-in-Stuck : goal.returns-in-Stuck
returns-in-Stuck c =
    let few : nat_lt most_bytes (length c.args.bytes.now) ≡ false = le-ltb _ _ c.if-bytes-gt-MOST_BYTES.false in
    inr (inr (record {
      scenario = c.in_ok-scenario.scenario;
      host = c.in-Stuck.host;
      directive = c.in-Stuck.directive;
      reads = rw few c.in_ok-scenario.ensures.read;
      stuck = (c.in_ok-plain_pass.ensures.stuck c.in-Stuck.host c.in-Stuck.directive).0 c.in-Stuck.is;
      told = refl;
    }))
