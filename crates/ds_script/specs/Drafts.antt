-- What is kept beside a scenario of which some lines are read.
use Rattle.std.specs.Prelude.{◌≡◌, ℕ, ◌≤◌, length}
use Rattle.ds_tree.specs.declared.scenarios.Scenario.{Scenario}
use Rattle.ds_tree.specs.Grammar.{most_hosts, most_directives, most_steps}
use Rattle.ds_script.specs.Reading.{count_of_directives, count_of_turns}

-- so many directives and turns, within the limits
pub record IsCounted (s : Scenario) (directives turns : ℕ) : Type 0 where
  pub all_directives : directives ≡ count_of_directives s
  pub all_turns : turns ≡ count_of_turns s
  pub few_hosts : length s.hosts ≤ most_hosts
  pub few_directives : directives ≤ most_directives
  pub few_turns : turns ≤ most_steps
