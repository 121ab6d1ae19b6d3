-- The words of the command line.
use Rattle.std.specs.Prelude.{◌≡◌, ℕ, List, [], ◌∷◌, codes}
use Rattle.ds_top.specs.declared.commands.Command.{Command}
use Rattle.ds_top.specs.declared.commands.Command.TheVariants.{Replay, Format, Check, Tree}

abbrev pub word_of : Command → List ℕ
word_of Replay = codes "replay"
word_of Format = codes "format"
word_of Check = codes "check"
word_of Tree = codes "tree"

-- these words ask for the command
abbrev pub AskFor : List (List ℕ) → Command → Type 0
AskFor words command = words ≡ word_of command ∷ []
