-- The words of a call.
use Rattle.std.specs.Prelude.{IfSome}
use Rattle.ds_base.specs.declared.names.Key.{Key}
use Rattle.ds_base.specs.Names.{IsName}
use Rattle.ds_tree.specs.declared.calls.CallOf.{CallOf}
use Rattle.ds_tree.specs.declared.calls.CallOf.TheVariants as calls

-- each word of a call is a name
abbrev pub HasNames : CallOf Key → Type 0
HasNames (calls.Mkdir dir name) = IsName name
HasNames (calls.Create dir name) = IsName name
HasNames (calls.Lookup dir name) = IsName name
HasNames (calls.List dir after) = IfSome after IsName
HasNames (calls.Stat key) = Unit {0}
HasNames (calls.Map file page) = Unit {0}
HasNames (calls.Resize file size) = Unit {0}
HasNames (calls.Remove dir name) = IsName name
HasNames (calls.Rmdir dir name) = IsName name
HasNames (calls.Rename dir name to fresh) = IsName name × IsName fresh
HasNames (calls.OpenFile file) = Unit {0}
HasNames (calls.At file index) = Unit {0}
