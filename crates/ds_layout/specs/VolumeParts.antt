-- The fields of the first two sectors as they are read.
use Rattle.std.specs.Prelude.{◌%◌, List, [], ◌∷◌}
use Rattle.ds_base.specs.declared.geometry.Geom.{Geom}
use Rattle.ds_bytes.specs.Fields.{Field, Num, Raw}
use Rattle.ds_layout.specs.declared.volume.VolParts.{VolParts}
use Rattle.ds_layout.specs.declared.volume.FsParts.{FsParts}

abbrev pub vol_part_fields : VolParts → List Field
vol_part_fields p =
    Raw 6 p.magic ∷ Raw 2 p.gap ∷ Num 4 p.version ∷ Num 4 p.sectors ∷ Raw 16 p.volume ∷ Num 2 p.slots ∷ Num 2 p.block
    ∷ Num 2 p.fd_clusters ∷ Num 2 p.fd_items ∷ Num 2 p.sb_clusters ∷ Num 2 p.sb_items
    ∷ Num 2 p.pb_clusters ∷ Num 2 p.pb_items ∷ Num 2 p.fb_clusters ∷ Num 2 p.fb_items ∷ []

-- the geometry that was read, with the low bytes of the counts of slots and clusters
abbrev pub geom_of : VolParts → Geom
geom_of p =
    record {
      slots = p.slots % 256;
      block = p.block;
      clusters = p.fd_clusters % 256 ∷ p.sb_clusters % 256 ∷ p.pb_clusters % 256 ∷ p.fb_clusters % 256 ∷ [];
      items = p.fd_items ∷ p.sb_items ∷ p.pb_items ∷ p.fb_items ∷ [];
    }

abbrev pub fs_part_fields : FsParts → List Field
fs_part_fields p = Raw 4 p.magic ∷ Raw 4 p.gap ∷ Num 4 p.version ∷ Num 4 p.none ∷ Raw 16 p.volume ∷ Num 4 p.root ∷ []
