-- What the descriptors of a kind list.
use Rattle.std.specs.Prelude.{ℕ, List, map, Option}
use Rattle.ds_base.specs.declared.names.NodeKind.{NodeKind}
use Rattle.ds_base.specs.declared.names.NodeKind.TheVariants as kinds
use Rattle.ds_fd.specs.declared.body.Body.{Body}
use Rattle.ds_image_parts.specs.Objects.{subs_of, ptrs_of}
use Rattle.ds_image_parts.specs.Parts.{Parts}

-- a directory lists sub-blocks, and a file pointer blocks
abbrev pub listed_of : NodeKind → Option Body → List ℕ
listed_of kinds.Dir body = subs_of body
listed_of kinds.File body = ptrs_of body

-- the items that each descriptor of the kind lists
abbrev pub listed_lists : NodeKind → Parts → List (List ℕ)
listed_lists kind p = map (listed_of kind) p.bodies
