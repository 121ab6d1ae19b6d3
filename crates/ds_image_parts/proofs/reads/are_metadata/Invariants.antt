-- The targets so far are metadata.
use Rattle.std.proofs.Common.{ℕ, ◌<◌, slice_index}
use Rattle.ds_layout.specs.Metadata.{IsMetadata}
use Rattle.ds_image_parts.proofs.reads.are_metadata.Given as goal

abbrev pub invariant-loop-target : goal.invariant-loop-target
invariant-loop-target l = (i : ℕ) → i < l.target-index → IsMetadata l.geom (slice_index l.targets i)
