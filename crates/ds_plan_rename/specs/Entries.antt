-- The entry that a Rename inside one directory changes.
use Rattle.std.specs.Prelude.{ℕ, Bool, if◌then◌else◌, List, Option, Some, None, Result, Ok, Err}
use Rattle.ds_base.specs.declared.geometry.Geom.{Geom}
use Rattle.ds_fd.specs.declared.body.Body.{Body}
use Rattle.ds_image_parts.specs.Parts.{Parts}
use Rattle.ds_image.specs.SeenValues.{SeenValue}
use Rattle.ds_plan_base.specs.Entries.{entry_by, found_from, found_in, wanted_entry}
use Rattle.ds_plan_base.specs.Steps.{after, or_later}
use Rattle.ds_plan_base.specs.declared.entries.Found.{Found}
use Rattle.ds_plan_base.specs.declared.stops.Ending.TheVariants as endings
use Rattle.ds_plan_base.specs.declared.stops.Stop.{Stop}
use Rattle.ds_plan_base.specs.declared.stops.Stop.TheVariants.{Done}

-- no entry may have the new name
abbrev pub kept_by : Found → Option Found → Result Found Stop
kept_by from None = Ok from
kept_by from (Some found) = Err (Done endings.Exists)

-- the entry of a name in a directory where no entry has the new name
abbrev pub entry_kept : Geom → SeenValue → Parts → Body → List ℕ → List ℕ → Result Found Stop
entry_kept g seen p b name fresh = after (wanted_entry g seen p b name) (λ from. after (found_in g seen p b fresh) (kept_by from))

-- the same where sub-blocks before these were looked through: the entry is known, or one of theirs, and the new name was there, or
-- is in these
abbrev pub kept_from : Geom → SeenValue → Parts → Body → List ℕ → Bool → List ℕ → Found → Result Found Stop
kept_from g seen p b fresh taken subs from =
    if taken then Err (Done endings.Exists) else after (found_from g seen p b fresh subs) (kept_by from)

abbrev pub entry_kept_from : Geom → SeenValue → Parts → Body → List ℕ → List ℕ → Option Found → Bool → List ℕ → Result Found Stop
entry_kept_from g seen p b name fresh from taken subs =
    after (after (or_later from (found_from g seen p b name subs)) entry_by) (kept_from g seen p b fresh taken subs)
