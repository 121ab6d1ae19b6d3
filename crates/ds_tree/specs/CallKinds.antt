-- The table of the calls that a directive can be: the word with which each begins.
use Rattle.std.specs.Prelude.{ℕ, List, [], ◌∷◌, codes, find, Option, Some, None}
use Rattle.std.specs.Option.{option_map_or}
use Rattle.std.specs.Str.{bytes_eq}
use Rattle.ds_tree.specs.declared.call_kinds.CallKind.{CallKind}
use Rattle.ds_tree.specs.declared.call_kinds.CallKind.TheVariants as kinds
use Rattle.ds_tree.specs.declared.calls.CallOf.{CallOf}
use Rattle.ds_tree.specs.declared.calls.CallOf.TheVariants as calls
use Rattle.ds_tree.specs.declared.calls.HostCallOf.{HostCallOf}
use Rattle.ds_tree.specs.declared.calls.HostCallOf.TheVariants as host_calls
use Rattle.ds_tree.specs.declared.variables.Spoken.{Spoken}

abbrev pub all_kinds : List CallKind
all_kinds =
    kinds.Register ∷ kinds.Unregister ∷ kinds.Beat ∷ kinds.Scan ∷ kinds.Mkdir ∷ kinds.Create ∷ kinds.Lookup ∷ kinds.List ∷ kinds.Stat
    ∷ kinds.Map ∷ kinds.Resize ∷ kinds.Remove ∷ kinds.Rmdir ∷ kinds.Rename ∷ kinds.Open ∷ kinds.Close ∷ kinds.Put ∷ kinds.Get ∷ []

-- the first word of a directive that is such a call
abbrev pub kind_word : CallKind → List ℕ
kind_word kinds.Register = codes "register"
kind_word kinds.Unregister = codes "unregister"
kind_word kinds.Beat = codes "beat"
kind_word kinds.Scan = codes "scan"
kind_word kinds.Mkdir = codes "mkdir"
kind_word kinds.Create = codes "create"
kind_word kinds.Lookup = codes "lookup"
kind_word kinds.List = codes "list"
kind_word kinds.Stat = codes "stat"
kind_word kinds.Map = codes "map"
kind_word kinds.Resize = codes "resize"
kind_word kinds.Remove = codes "remove"
kind_word kinds.Rmdir = codes "rmdir"
kind_word kinds.Rename = codes "rename"
kind_word kinds.Open = codes "open"
kind_word kinds.Close = codes "close"
kind_word kinds.Put = codes "put"
kind_word kinds.Get = codes "get"

-- the kind whose directives begin with this word
unfoldable pub kind_named : List ℕ → Option CallKind
kind_named w = find (λ kind. bytes_eq w (kind_word kind)) all_kinds

-- the kind of a call on the file tree; no directive reads a block's number
abbrev pub kind_of_tree_call : CallOf Spoken → Option CallKind
kind_of_tree_call (calls.Mkdir dir name) = Some kinds.Mkdir
kind_of_tree_call (calls.Create dir name) = Some kinds.Create
kind_of_tree_call (calls.Lookup dir name) = Some kinds.Lookup
kind_of_tree_call (calls.List dir after) = Some kinds.List
kind_of_tree_call (calls.Stat key) = Some kinds.Stat
kind_of_tree_call (calls.Map file page) = Some kinds.Map
kind_of_tree_call (calls.Resize file blocks) = Some kinds.Resize
kind_of_tree_call (calls.Remove dir name) = Some kinds.Remove
kind_of_tree_call (calls.Rmdir dir name) = Some kinds.Rmdir
kind_of_tree_call (calls.Rename dir name to fresh) = Some kinds.Rename
kind_of_tree_call (calls.OpenFile file) = Some kinds.Open
kind_of_tree_call (calls.At file index) = None

abbrev pub kind_of_call : HostCallOf Spoken → Option CallKind
kind_of_call (host_calls.Tree call) = kind_of_tree_call call
kind_of_call host_calls.Register = Some kinds.Register
kind_of_call host_calls.Unregister = Some kinds.Unregister
kind_of_call host_calls.Beat = Some kinds.Beat
kind_of_call host_calls.Scan = Some kinds.Scan
kind_of_call (host_calls.Close file) = Some kinds.Close
kind_of_call (host_calls.Put file sector fill) = Some kinds.Put
kind_of_call (host_calls.Get file sector) = Some kinds.Get

-- the first word of a call's directive; empty where no directive is this call
abbrev pub call_word : HostCallOf Spoken → List ℕ
call_word call = option_map_or kind_word (kind_of_call call) []
