-- A scenario that grows by lines that stand keeps within its limits, and its hosts keep apart.
use Rattle.std.proofs.Common.{◌≡◌, ℕ, ◌+◌, ◌≤◌, ◌<◌, Bool, true, false, List, [], ◌∷◌, length, Some, None, refl, arith}
use Rattle.std.specs.Prelude.{nat_le, nat_lt, if◌then◌else◌}
use Rattle.std.proofs.lemmas.Bool.{leb-false, ltb-false}
use Rattle.ds_tree.specs.declared.scenarios.Scenario.{Scenario}
use Rattle.ds_tree.specs.Lines.{Words, words_of}
use Rattle.ds_tree.specs.Grammar.{most_hosts, most_directives, most_steps, names_of, Item, Volume, Host, Does, Step}
use Rattle.ds_script.specs.declared.faults.What.{What}
use Rattle.ds_script.specs.declared.faults.What.TheVariants as whats
use Rattle.ds_script.specs.Reading.{count_of_directives, count_of_turns, is_begun, limit_at, with_item}
use Rattle.ds_script.proofs.LookupLaws.{AreNames}
use Rattle.ds_script.proofs.ItemLaws.{SaysItem}
use Rattle.ds_script.proofs.StateLaws.{has_host, hosts_more, directives_more, turns_more, are_more}
use Rattle.ds_script.proofs.LineOrder.{Continues, done, passed, more}

-- within the limits, and no two hosts have the same name
pub record IsWithinLimits (s : Scenario) : Type 0 where
  pub few_hosts : length s.hosts ≤ most_hosts
  pub few_directives : count_of_directives s ≤ most_directives
  pub few_turns : count_of_turns s ≤ most_steps
  pub are : AreNames (names_of s.hosts)

limit_none : (what : What) (b : Bool) → (if b then Some what else None) ≡ None → b ≡ false
limit_none what true e = absurd cc
limit_none what false e = refl

within_more : (s : Scenario) (item : Item) → (ws : Words) → SaysItem (names_of s.hosts) (is_begun s) ws item → limit_at s item ≡ None
    → IsWithinLimits s → IsWithinLimits (with_item s item)
within_more s (Volume id g) ws says limit h = absurd says.stands
within_more s (Host name) ws says limit h =
    let more : length s.hosts < most_hosts = leb-false most_hosts (length s.hosts) (limit_none whats.Hosts (nat_le most_hosts (length s.hosts)) limit) in
    record {
      few_hosts = omega (arith, hosts_more s (Host name), more);
      few_directives = omega (arith, directives_more s (Host name) tt, h.few_directives);
      few_turns = h.few_turns;
      are = are_more s (Host name) h.are says.stands;
    }
within_more s (Does host d) ws says limit h =
    let more : count_of_directives s < most_directives =
    leb-false most_directives (count_of_directives s) (limit_none whats.Directives (nat_le most_directives (count_of_directives s)) limit) in
    record {
      few_hosts = omega (arith, hosts_more s (Does host d), h.few_hosts);
      few_directives = omega (arith, directives_more s (Does host d) (has_host s (is_begun s) ws (Does host d) says), more);
      few_turns = h.few_turns;
      are = are_more s (Does host d) h.are says.stands;
    }
within_more s (Step host count) ws says limit h =
    let more : count_of_turns s + count ≤ most_steps =
    ltb-false most_steps (count_of_turns s + count) (limit_none whats.Steps (nat_lt most_steps (count_of_turns s + count)) limit) in
    record {
      few_hosts = h.few_hosts;
      few_directives = h.few_directives;
      few_turns = omega (arith, turns_more s (Step host count), more);
      are = h.are;
    }

pub stays_within : (s t : Scenario) (suffix : List (List ℕ)) → Continues s suffix t → IsWithinLimits s → IsWithinLimits t
stays_within s t [] done h = h
stays_within s t (line ∷ behind) (passed is rest) h = stays_within s t behind rest h
stays_within s t (line ∷ behind) (more item is taken rest) h =
    stays_within (with_item s item) t behind rest (within_more s item (words_of line) taken.says taken.within h)
