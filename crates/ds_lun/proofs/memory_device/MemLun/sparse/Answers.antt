use Rattle.std.proofs.Common.{ap, List, ℕ, ◌∙◌}
use Rattle.std.specs.Prelude.{nat_eq, slice_get}
use Rattle.std.specs.Option.{option_or}
use Rattle.std.specs.HashMap.{get}
use Rattle.std.specs.Map.{lookup}
use Rattle.ds_base.specs.declared.sectors.Sector.{Sector}
use Rattle.ds_lun.proofs.KeptSectors.{sectors_of-none}
use Rattle.ds_lun.proofs.memory_device.MemLun.sparse.Goals as goal

pub returns : goal.returns
returns c = sectors_of-none _ c.args.len (λ at.
    ap (λ (front : List Sector). option_or (slice_get front at) (get nat_eq c.new-2.result at)) c.new.ensures.items
    ∙ ap (λ (entries : List (ℕ × Sector)). lookup (nat_eq at) entries) c.new-2.ensures.empty)
