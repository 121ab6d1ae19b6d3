-- The byte that says what a node is, written and read.
use Rattle.std.proofs.Common.{◌≡◌, ◌<◌, Option, Some, None, refl, sym, ap, ◌∙◌, arith}
use Rattle.ds_base.specs.declared.names.NodeKind.{NodeKind}
use Rattle.ds_base.specs.declared.names.NodeKind.TheVariants.{File, Dir}
use Rattle.ds_bytes.specs.NodeKinds.{kind_code, kind_of_code}

pub kind_code_below : (k : Option NodeKind) → kind_code k < 256
kind_code_below None = omega arith
kind_code_below (Some File) = omega arith
kind_code_below (Some Dir) = omega arith

pub kind_of_code-kind_code : (k : Option NodeKind) → kind_of_code (kind_code k) ≡ Some k
kind_of_code-kind_code None = refl
kind_of_code-kind_code (Some File) = refl
kind_of_code-kind_code (Some Dir) = refl

pub kind_code_same : (k l : Option NodeKind) → kind_code k ≡ kind_code l → k ≡ l
kind_code_same k l e =
    let same : Some k ≡ Some l = sym (kind_of_code-kind_code k) ∙ ap kind_of_code e ∙ kind_of_code-kind_code l in
    cc
