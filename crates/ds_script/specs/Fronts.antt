-- How a line or a word begins a text.
use Rattle.std.specs.Prelude.{ℕ, Bool, false, ◌==◌, List, [], ◌∷◌}
use Rattle.ds_tree.specs.Lines.{is_blank}

abbrev pub is_line_feed : ℕ → Bool
is_line_feed b = b == 10

abbrev pub begins_blank : List ℕ → Bool
begins_blank [] = false
begins_blank (b ∷ bs) = is_blank b
