-- What is printed of a scenario: its items in order, each of them as one line.
use Rattle.std.specs.Prelude.{◌≡◌, ℕ, List, [], ◌∷◌, ◌++◌, map, slice_index_or, codes, decimal, Some}
use Rattle.std.specs.List.{flat_map, join_by, enumerate_from}
use Rattle.uuid.specs.Text.{hyphenated_text, lower, parsed}
use Rattle.ds_tree.specs.declared.scenarios.Directive.{Directive}
use Rattle.ds_tree.specs.declared.scenarios.Directive.TheVariants as directives
use Rattle.ds_tree.specs.declared.scenarios.HostPlan.{HostPlan}
use Rattle.ds_tree.specs.declared.scenarios.Scenario.{Scenario}
use Rattle.ds_tree.specs.Lines.{Words}
use Rattle.ds_tree.specs.Grammar.{point_word, landing_word, as_part, call_words, geometry_part, names_of, Item, Volume, Host, Does, Step}

-- The words of a line.

-- the name of the host with this number, where the hosts have these names; none where there is no such host
abbrev pub name_at : Words → ℕ → List ℕ
name_at names host = slice_index_or names host []

-- the words of a directive, where the hosts have these names
abbrev pub directive_words : Words → Directive → Words
directive_words names (directives.Call call bind) = call_words call ++ as_part bind
directive_words names (directives.Tick ticks) = codes "tick" ∷ decimal ticks ∷ []
directive_words names (directives.Wait host directive) = codes "wait" ∷ name_at names host ∷ decimal directive ∷ []
directive_words names (directives.Hold point host directive) =
    codes "hold" ∷ point_word point ∷ name_at names host ∷ decimal directive ∷ []
directive_words names (directives.Crash point) = codes "crash" ∷ point_word point ∷ []
directive_words names (directives.Fail point landed) = codes "fail" ∷ point_word point ∷ landing_word landed ∷ []
directive_words names directives.Die = codes "die" ∷ []
directive_words names directives.Return = codes "return" ∷ []

-- the words of an item; an id is written in lower case with hyphens
abbrev pub item_words : Words → Item → Words
item_words names (Volume id g) = codes "volume" ∷ hyphenated_text lower id ∷ geometry_part g
item_words names (Host name) = codes "host" ∷ name ∷ []
item_words names (Does host d) = name_at names host ∷ directive_words names d
item_words names (Step host count) = codes "step" ∷ name_at names host ∷ decimal count ∷ []

-- The text.

-- words, each behind a blank
abbrev pub behind_blanks : Words → List ℕ
behind_blanks ws = flat_map (λ w. codes " " ++ w) ws

-- words with single blanks between them, and a line feed at the end
abbrev pub line_text : Words → List ℕ
line_text ws = join_by (λ w. w) (codes " ") ws ++ codes "\n"

-- the line of an item
abbrev pub item_text : Words → Item → List ℕ
item_text names item = line_text (item_words names item)

-- the lines of a host's directives
abbrev pub list_text : Words → HostPlan → List ℕ
list_text names plan = flat_map (λ d. line_text (plan.name ∷ directive_words names d)) plan.list

-- the directives of all hosts, host by host
abbrev pub directive_items : List HostPlan → List Item
directive_items plans = flat_map (λ e. map (Does e.0) e.1.list) (enumerate_from 0 plans)

abbrev pub step_items : List (ℕ × ℕ) → List Item
step_items steps = map (λ step. Step step.0 step.1) steps

-- the items of a scenario in the order in which they are printed: the volume, the hosts, the directives, the steps
abbrev pub printed_items : Scenario → List Item
printed_items s = Volume s.volume s.geom ∷ map Host (names_of s.hosts) ++ (directive_items s.hosts ++ step_items s.steps)

-- what is printed of a scenario
abbrev pub printed_text : Scenario → List ℕ
printed_text s = flat_map (item_text (names_of s.hosts)) (printed_items s)

-- the bytes are what is printed of the scenario, and its id is read from the form in which it is written
pub record IsPrinted (bytes : List ℕ) (s : Scenario) : Type 0 where
  pub is : bytes ≡ printed_text s
  pub id : parsed (hyphenated_text lower s.volume) ≡ Some s.volume
