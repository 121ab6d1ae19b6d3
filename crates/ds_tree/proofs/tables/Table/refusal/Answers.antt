use Rattle.ds_tree.proofs.tables.Table.refusal.Goals as goal

pub returns-in-Lookup : goal.returns-in-Lookup
returns-in-Lookup c = rw c.in-Lookup.is c.refuses_lookup.ensures

pub returns-in-Rename : goal.returns-in-Rename
returns-in-Rename c = rw c.in-Rename.is c.refuses_rename.ensures

pub returns-in-At : goal.returns-in-At
returns-in-At c = rw c.in-At.is c.refuses_at.ensures
