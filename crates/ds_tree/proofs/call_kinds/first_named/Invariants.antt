use Rattle.std.proofs.Common.{◌≡◌, drop}
use Rattle.std.specs.Prelude.{find}
use Rattle.std.specs.Str.{bytes_eq}
use Rattle.ds_tree.specs.CallKinds.{kind_word}
use Rattle.ds_tree.proofs.call_kinds.first_named.Given as goal

abbrev pub invariant-loop-kind : goal.invariant-loop-kind
invariant-loop-kind l =
    find (λ kind. bytes_eq l.word (kind_word kind)) l.kinds ≡ find (λ kind. bytes_eq l.word (kind_word kind)) (drop l.kind-index l.kinds)
