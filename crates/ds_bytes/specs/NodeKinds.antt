-- The byte that says what a node is.
use Rattle.std.specs.Prelude.{ℕ, zero, suc, Option, Some, None}
use Rattle.ds_base.specs.declared.names.NodeKind.{NodeKind}
use Rattle.ds_base.specs.declared.names.NodeKind.TheVariants.{File, Dir}

-- 0 where there is no node, 1 for a file and 2 for a directory
abbrev pub kind_code : Option NodeKind → ℕ
kind_code None = 0
kind_code (Some File) = 1
kind_code (Some Dir) = 2

-- what the byte says, if it says anything
abbrev pub kind_of_code : ℕ → Option (Option NodeKind)
kind_of_code zero = Some None
kind_of_code (suc zero) = Some (Some File)
kind_of_code (suc (suc zero)) = Some (Some Dir)
kind_of_code (suc (suc (suc n))) = None
