-- A page of a directory: its first names above one, in byte order.
use Rattle.std.specs.Prelude.{ℕ, ◌+◌, List, [], ◌∷◌, length, take, map, Option, Some, None, option_map}
use Rattle.std.specs.List.{filter}
use Rattle.std.specs.Cmp.Lexicographic.{slice_cmp}
use Rattle.std.specs.FinMap as maps
use Rattle.std.specs.Ordering.{nat_cmp}
use Rattle.std.specs.declared.cmp.Ordering.{Ordering}
use Rattle.std.specs.declared.cmp.Ordering.TheVariants.{Less, Equal, Greater}
use Rattle.ds_base.specs.declared.names.Key.{Key}
use Rattle.ds_dir.specs.declared.sub_block.Entry.{Entry}
use Rattle.ds_tree.specs.Steps.{is_above}
use Rattle.ds_tree.specs.declared.calls.TreeReply.{TreeReply}
use Rattle.ds_tree.specs.declared.calls.TreeReply.TheVariants as replies

-- the order of the bytes of names
abbrev pub name_cmp : List ℕ → List ℕ → Ordering
name_cmp = slice_cmp nat_cmp

-- an entry's name with its key
abbrev pub name_key : Entry → List ℕ × Key
name_key e = (e.name, e.key)

-- the entries above a name
abbrev pub entries_past : Option (List ℕ) → List Entry → List Entry
entries_past after es = filter (λ (e : Entry). is_above after e.name) es

-- the keys of entries, by name
abbrev pub keys_by_name : List Entry → maps.FinMap name_cmp Key
keys_by_name es = maps.from_entries (map name_key es)

-- the first 32 names above one, in byte order, each with its key
abbrev pub page_names : Option (List ℕ) → List Entry → List (List ℕ × Key)
page_names after es = take 32 (maps.entries (keys_by_name (entries_past after es)))

-- the number of all entries, and those names
abbrev pub page_of : Option (List ℕ) → List Entry → TreeReply
page_of after es = replies.Page (length es) (record { items = page_names after es })

-- the place of a new name in names in byte order; none where it is there
abbrev pub place_by : Ordering → Option ℕ → Option ℕ
place_by Less later = Some 0
place_by Equal later = None
place_by Greater later = later

abbrev pub place_in : List (List ℕ × Key) → List ℕ → Option ℕ
place_in [] name = Some 0
place_in (e ∷ es) name = place_by (name_cmp name e.0) (option_map (λ i. 1 + i) (place_in es name))

-- a name put at its place with a key, where it isn't there
abbrev pub put_by : Ordering → List ℕ × Key → List ℕ × Key → List (List ℕ × Key) → List (List ℕ × Key) → List (List ℕ × Key)
put_by Less new e es later = new ∷ e ∷ es
put_by Equal new e es later = e ∷ es
put_by Greater new e es later = e ∷ later

abbrev pub put_new : List ℕ → Key → List (List ℕ × Key) → List (List ℕ × Key)
put_new name key [] = (name, key) ∷ []
put_new name key (e ∷ es) = put_by (name_cmp name e.0) (name, key) e es (put_new name key es)
