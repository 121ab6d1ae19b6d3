-- The second stage: the journals of committed slots.
use Rattle.std.specs.Prelude.{ℕ, Bool, true, false, ◌==◌, ◌&&◌, nat_lt, is_none, if◌then◌else◌, List, [], ◌++◌, map, filter, Option, Some, None}
use Rattle.std.specs.List.{list_any}
use Rattle.ds_base.specs.declared.geometry.Geom.{Geom}
use Rattle.ds_jrnl.specs.declared.index.Index.{Index}
use Rattle.ds_marks.specs.declared.slot.Journal.{Journal}
use Rattle.ds_marks.specs.declared.slot.Journal.TheVariants.{Idle, Committed}
use Rattle.ds_marks.specs.declared.slot.Slot.{Slot}
use Rattle.ds_image_parts.specs.Parts.{part_at}
use Rattle.ds_check.specs.declared.findings.Find.{Find}
use Rattle.ds_check.specs.declared.findings.Find.TheVariants.{JournalForm, JournalsShare}
use Rattle.ds_check.specs.Controls.{Controls}
use Rattle.ds_check.specs.Rows.{find_if, row}

abbrev pub has_pairs : Journal → Bool
has_pairs Idle = false
has_pairs (Committed txn count) = true

abbrev pub is_committed : Option Slot → Bool
is_committed None = false
is_committed (Some s) = has_pairs s.journal

-- a committed slot without an index as it has to be
abbrev pub journal_form : Controls → ℕ → List Find
journal_form c n = find_if (is_committed (part_at c.slots n) && is_none (part_at c.pending n)) (JournalForm n)

-- the journals of these slots, by rising number
abbrev pub unindexed : Geom → Controls → List Find
unindexed g c = row g.slots (journal_form c)

-- the targets of a slot's pending pairs
abbrev pub targets_of : Option Index → List ℕ
targets_of None = []
targets_of (Some x) = x.targets.items

-- the targets that two slots have in common, rising
abbrev pub in_common : List ℕ → List ℕ → List ℕ
in_common targets others = filter (λ target. list_any (λ other. other == target) others) targets

-- the targets that two slots have in common, as findings
abbrev pub shares : ℕ → ℕ → List ℕ → List ℕ → List Find
shares first second targets others = map (λ target. JournalsShare first second target) (in_common targets others)

-- those of a slot and of one behind it
abbrev pub shared_targets : Controls → ℕ → ℕ → List Find
shared_targets c first second =
    if nat_lt first second then shares first second (targets_of (part_at c.pending first)) (targets_of (part_at c.pending second))
    else []

-- those of a slot and of all slots behind it, by rising number
abbrev pub shared_by : Geom → Controls → ℕ → List Find
shared_by g c first = row g.slots (shared_targets c first)

-- the targets that two slots have in common, by the first slot, the second and the target
abbrev pub overlaid : Geom → Controls → List Find
overlaid g c = row g.slots (shared_by g c)

abbrev pub journals_stage : Geom → Controls → List Find
journals_stage g c = unindexed g c ++ overlaid g c
