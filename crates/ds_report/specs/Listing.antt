-- The listing of a file tree.
use Rattle.std.specs.Prelude.{ℕ, zero, suc, List, [], ◌∷◌, ◌++◌, length, codes, decimal, Option, Some, None}
use Rattle.std.specs.List.{flat_map}
use Rattle.std.specs.FinMap as maps
use Rattle.ds_text.specs.Lines.{line}
use Rattle.ds_tree.specs.Nodes.{Node, Dir, File, FileTree, node_at, birth_at}
use Rattle.ds_report.specs.Answers.{pair_text}

-- the path of an object as it is shown: that of the root is a slash
abbrev pub shown_path : List ℕ → List ℕ
shown_path [] = codes "/"
shown_path (b ∷ path) = b ∷ path

-- the path of an entry of a directory
abbrev pub path_in : List ℕ → List ℕ → List ℕ
path_in dir name = dir ++ codes "/" ++ name

-- the key of the last life of a number
abbrev pub key_text_at : FileTree → ℕ → List ℕ
key_text_at t object = pair_text object (birth_at t object)

-- the lines of an object with this node: its own, and for a directory those that `below` gives for the path and the number of
-- each entry, names in byte order
abbrev pub node_lines : (List ℕ → ℕ → List ℕ) → FileTree → List ℕ → ℕ → Option Node → List ℕ
node_lines below t path object None = []
node_lines below t path object (Some (File blocks)) =
    line (shown_path path ++ codes " " ++ key_text_at t object ++ codes " file " ++ decimal (length blocks))
node_lines below t path object (Some (Dir entries rooms)) =
    line (shown_path path ++ codes " " ++ key_text_at t object ++ codes " dir")
    ++ flat_map (λ e. below (path_in path e.0) e.1) (maps.entries entries)

-- the lines of an object and of all below it, so many levels at most
abbrev pub listing_below : ℕ → FileTree → List ℕ → ℕ → List ℕ
listing_below zero t path object = []
listing_below (suc levels) t path object = node_lines (λ p o. listing_below levels t p o) t path object (node_at t object)

-- the tree from its root, depth first; no way down has more objects than there are
abbrev pub listing_of : FileTree → List ℕ
listing_of t = listing_below (length t.objects) t [] 0
