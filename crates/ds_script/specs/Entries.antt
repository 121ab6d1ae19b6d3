-- What an entry of the code says.
use Rattle.std.specs.Prelude.{ℕ, ◌<◌}
use Rattle.ds_tree.specs.Grammar.{Item, Host, Does, Step}
use Rattle.ds_script.specs.declared.items.Entry.{Entry}
use Rattle.ds_script.specs.declared.items.Entry.TheVariants as entries

abbrev pub item_of : Entry → Item
item_of (entries.Host name) = Host name
item_of (entries.Does host directive) = Does host directive
item_of (entries.Step host turns) = Step host turns

-- the host of an item is one of so many
abbrev pub IsOfHosts : ℕ → Item → Type 0
IsOfHosts hosts (Does host directive) = host < hosts
IsOfHosts hosts _ = Unit {0}
