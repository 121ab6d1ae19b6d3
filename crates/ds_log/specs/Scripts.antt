-- What the hosts of a scenario are to do, with variables as their own replies have bound them.
use Rattle.std.specs.Prelude.{ℕ, zero, suc, ◌==◌, ◌&&◌, Bool, false, nat_lt, List, fold, slice_get, Option, Some, None, if◌then◌else◌}
use Rattle.std.specs.Str.{bytes_eq}
use Rattle.ds_base.specs.declared.names.Key.{Key}
use Rattle.ds_tree.specs.declared.calls.CallOf.{CallOf}
use Rattle.ds_tree.specs.declared.calls.CallOf.TheVariants as calls
use Rattle.ds_tree.specs.declared.calls.HostCallOf.TheVariants as host_calls
use Rattle.ds_tree.specs.declared.calls.TreeReply.TheVariants.{Made, Found}
use Rattle.ds_tree.specs.declared.scenarios.Directive.{Directive}
use Rattle.ds_tree.specs.declared.scenarios.Directive.TheVariants as directives
use Rattle.ds_tree.specs.declared.scenarios.Scenario.{Scenario}
use Rattle.ds_tree.specs.declared.variables.Spoken.{Spoken}
use Rattle.ds_tree.specs.declared.variables.Spoken.TheVariants as spoken
use Rattle.ds_tree.specs.Nodes.{root_key}
use Rattle.ds_tree.specs.PlainPass.{list_at}
use Rattle.ds_conduct.specs.declared.answers.HostAnswer.{HostAnswer}
use Rattle.ds_conduct.specs.declared.answers.HostAnswer.TheVariants.{Tree}
use Rattle.ds_log.specs.declared.logs.Reply.{Reply}
use Rattle.ds_log.specs.History.{Calls}

-- the directives of a host
abbrev pub list_of : Scenario → ℕ → List Directive
list_of s host = list_at s.hosts host

-- the directive with this number, counted from 1
abbrev pub directive_at : Scenario → ℕ → ℕ → Option Directive
directive_at s host zero = None
directive_at s host (suc n) = slice_get (list_of s host) n

-- by how many ticks a directive moves the clock on
abbrev pub ticks_of : Option Directive → ℕ
ticks_of (Some (directives.Tick ticks)) = ticks
ticks_of _ = 0

-- whether a directive binds this variable
abbrev pub binds : Option Directive → List ℕ → Bool
binds (Some (directives.Call call (Some var))) name = bytes_eq var name
binds _ name = false

-- the key that an answer gives to a variable, or the one before
abbrev pub key_given : HostAnswer → Key → Key
key_given (Tree (Made key)) before = key
key_given (Tree (Found key kind)) before = key
key_given _ before = before

-- the key of no object
abbrev pub no_key : Key
no_key = record { object = 0; birth = 0 }

-- what a variable stands for in a directive of a host: the key that the last reply to an earlier directive gave it
abbrev pub bound_key : Scenario → List Reply → ℕ → ℕ → List ℕ → Key
bound_key s replies host n name = fold bind no_key replies where
  bind : Key → Reply → Key
  bind key r =
      if r.host == host && nat_lt r.directive n && binds (directive_at s host r.directive) name then key_given r.answer key else key

abbrev pub key_of : Scenario → List Reply → ℕ → ℕ → Spoken → Key
key_of s replies host n spoken.Root = root_key
key_of s replies host n (spoken.Var name) = bound_key s replies host n name

-- a call with other keys
abbrev pub with_keys : {K L : Type 0} → (K → L) → CallOf K → CallOf L
with_keys key (calls.Mkdir dir name) = calls.Mkdir (key dir) name
with_keys key (calls.Create dir name) = calls.Create (key dir) name
with_keys key (calls.Lookup dir name) = calls.Lookup (key dir) name
with_keys key (calls.List dir after) = calls.List (key dir) after
with_keys key (calls.Stat k) = calls.Stat (key k)
with_keys key (calls.Map file page) = calls.Map (key file) page
with_keys key (calls.Resize file blocks) = calls.Resize (key file) blocks
with_keys key (calls.Remove dir name) = calls.Remove (key dir) name
with_keys key (calls.Rmdir dir name) = calls.Rmdir (key dir) name
with_keys key (calls.Rename dir name to fresh) = calls.Rename (key dir) name (key to) fresh
with_keys key (calls.OpenFile file) = calls.OpenFile (key file)
with_keys key (calls.At file index) = calls.At (key file) index

-- the tree call of a directive, if it is one, with the keys for which its variables stand
abbrev pub call_of : (Spoken → Key) → Option Directive → Option (CallOf Key)
call_of key (Some (directives.Call (host_calls.Tree call) bind)) = Some (with_keys key call)
call_of key _ = None

-- the tree calls of a scenario, under these replies
abbrev pub calls_of : Scenario → List Reply → Calls
calls_of s replies host n = call_of (key_of s replies host n) (directive_at s host n)
