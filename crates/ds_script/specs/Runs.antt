-- The words of a line that are runs of visible bytes, whatever else stands in it.
use Rattle.std.specs.Prelude.{ℕ, List, filter}
use Rattle.ds_tree.specs.Lines.{Words, words_of, is_run}

abbrev pub runs_of : List ℕ → Words
runs_of line = filter is_run (words_of line)
