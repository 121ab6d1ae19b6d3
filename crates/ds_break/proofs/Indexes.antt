-- Where a break has no index.
use Rattle.std.proofs.Common.{◌≡◌, ℕ, List, Option, Some, sym, ap, subst}
use Rattle.ds_base.specs.declared.sectors.Sector.{Sector}
use Rattle.ds_base.specs.declared.commands.Response.TheVariants.{Got}
use Rattle.ds_break.specs.Breaking.{IsIndexOf, journal_sector}
use Rattle.ds_break.specs.Runs.{BreakValue, Ends, Leads}
use Rattle.ds_break.specs.declared.ends.BreakEnd.{BreakEnd}
use Rattle.ds_break.specs.declared.ends.BreakEnd.TheVariants as ends
use Rattle.ds_break.specs.declared.stages.Stage.TheVariants as stages

-- where there is none, the index is damaged
pub damaged-leads : (old new : BreakValue) (s : Sector) (at : ℕ) (result : Option BreakEnd) → old.stage ≡ stages.Index
    → at ≡ journal_sector old.what 31
    → ((targets : List ℕ) → IsIndexOf old.what s targets → ⊥) → new.stage ≡ stages.Over → result ≡ Some (ends.Damaged at)
    → Leads old (Got s) new result
damaged-leads old new s at result stage is none over end =
    subst (Leads old (Got s) new) (sym end)
    (subst (λ v. Ends old.what v (Got s) (ends.Damaged at)) (sym stage) (none, ap ends.Damaged is), over)
