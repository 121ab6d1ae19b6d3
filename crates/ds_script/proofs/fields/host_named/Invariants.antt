use Rattle.std.proofs.Common.{◌≡◌, ◌+◌, drop}
use Rattle.std.specs.List.{position_or_len}
use Rattle.std.specs.Str.{bytes_eq}
use Rattle.ds_tree.specs.Grammar.{names_of}
use Rattle.ds_script.proofs.fields.host_named.Given as goal

abbrev pub invariant-loop-host : goal.invariant-loop-host
invariant-loop-host l =
    position_or_len (bytes_eq l.word) (names_of l.hosts) ≡ l.host + position_or_len (bytes_eq l.word) (names_of (drop l.host l.hosts))
