use Rattle.std.proofs.Common.{ap, sym, length, ◌∙◌, arith}
use Rattle.ds_report.proofs.NextEntries.{IsListedTo-start, IsListedTo-next, IsListedTo-end, entries_above-next}
use Rattle.ds_report.proofs.listings.+below.Goals as goal

pub write_entries-loop-name-init : goal.write_entries-loop-name-init
write_entries-loop-name-init t c = IsListedTo-start _ _ _ _ _

pub write_entries-loop-name-smaller : goal.write_entries-loop-name-smaller
write_entries-loop-name-smaller t c =
    let next = entries_above-next _ _ _ _ (sym c.in-Some.ensures) in
    omega (arith, ap length next)

pub write_entries-loop-name-preserved : goal.write_entries-loop-name-preserved
write_entries-loop-name-preserved t c =
    IsListedTo-next _ _ _ _ _ _ _ _ _ _ _ c.loop-name.invariant (sym c.in-Some.ensures) (c.as_slice.ensures.value ∙ c.in_ok-below.ensures)
    c.in_ok-write_below.ensures

pub write_entries-returns : goal.write_entries-returns
write_entries-returns t c = IsListedTo-end _ _ _ _ _ _ _ c.loop-name.invariant (sym c.in_default.ensures)
