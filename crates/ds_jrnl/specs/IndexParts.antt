-- The fields of an index as they are read.
use Rattle.std.specs.Prelude.{List, [], ◌∷◌, take}
use Rattle.ds_bytes.specs.Fields.{Field, Num, Raw, Nums}
use Rattle.ds_jrnl.specs.declared.index.Index.{Index}
use Rattle.ds_jrnl.specs.declared.index_parts.IndexParts.{IndexParts}

abbrev pub part_fields : IndexParts → List Field
part_fields p =
    Raw 4 p.magic ∷ Num 1 p.slot ∷ Num 1 p.count ∷ Raw 2 p.gap ∷ Num 8 p.generation ∷ Num 8 p.txn ∷ Nums 4 31 p.words ∷ []

-- the index with these fields, with as many targets as its count says
abbrev pub index_of : IndexParts → Index
index_of p = record { slot = p.slot; generation = p.generation; txn = p.txn; targets = record { items = take p.count p.words } }
