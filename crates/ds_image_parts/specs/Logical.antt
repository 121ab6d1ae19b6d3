-- The logical image of a store: its metadata with all pending pairs laid over them.
use Rattle.std.specs.Prelude.{◌≡◌, ℕ, ◌<◌, List, [], length, fold, slice_set, slice_index_or}
use Rattle.std.specs.List.{flat_map}
use Rattle.ds_base.specs.declared.geometry.Geom.{Geom}
use Rattle.ds_base.specs.declared.sectors.Sector.{Sector}
use Rattle.ds_layout.specs.Metadata.{front_of}
use Rattle.ds_image_parts.specs.Pending.{Pair, ArePending}

-- the sectors with pairs laid over them, one after another
abbrev pub laid_over : List Sector → List Pair → List Sector
laid_over sectors pairs = fold (λ image pair. slice_set image pair.0 pair.1) sectors pairs

-- the pending pairs of all slots, in the order of the slots
pub record AreAllPending (g : Geom) (sectors : List Sector) (pairs : List (List Pair)) : Type 0 where
  pub one_each : length pairs ≡ g.slots
  pub pending : (number : ℕ) → number < g.slots → ArePending g sectors number (slice_index_or pairs number [])

-- the logical image of a store
pub record IsLogical (g : Geom) (sectors image : List Sector) : Type 0 where
  pub pairs : List (List Pair)
  pub all_pending : AreAllPending g sectors pairs
  pub laid : image ≡ laid_over (front_of g sectors) (flat_map (λ list. list) pairs)
