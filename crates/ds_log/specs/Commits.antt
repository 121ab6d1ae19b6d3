-- The commits of a log.
use Rattle.std.specs.Prelude.{ℕ, ◌+◌, Bool, List, [], ◌∷◌, if◌then◌else◌}
use Rattle.ds_base.specs.declared.sectors.Sector.{Sector}
use Rattle.ds_log.specs.declared.logs.Event.{Event}
use Rattle.ds_log.specs.Store.{after_step, store}
use Rattle.ds_log.specs.Rules.{Rules}

-- how many of the events commit a change, from these sectors on
abbrev pub commits_from : Rules → List Sector → List Event → ℕ
commits_from rules sectors [] = 0
commits_from rules sectors (e ∷ events) =
    (if rules.is_commit sectors e.step then 1 else 0) + commits_from rules (after_step sectors e.step) events

-- how many changes a log has committed
abbrev pub commits : Rules → List Event → ℕ
commits rules events = commits_from rules rules.start events

-- whether an event that comes after these commits a change
abbrev pub commits_next : Rules → List Event → Event → Bool
commits_next rules past e = rules.is_commit (store rules.start past) e.step
