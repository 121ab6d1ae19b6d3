-- Which geometries there are.
use Rattle.std.specs.Prelude.{◌≡◌, ℕ, ◌≤◌, ◌<◌, ◌⊎◌, ◌*◌, slice_index}
use Rattle.ds_base.specs.declared.geometry.Geom.{Geom}
use Rattle.ds_base.specs.declared.geometry.Kind.{Kind}
use Rattle.ds_base.specs.declared.geometry.Kind.TheVariants.{Fd, Sb, Pb, Fb}
use Rattle.ds_base.specs.declared.geometry.GeomField.{GeomField}
use Rattle.ds_base.specs.declared.geometry.GeomField.TheVariants.{Slots, Block, Clusters, Items}

-- the place of a kind in the lists of a geometry
abbrev pub kind_number : Kind → ℕ
kind_number Fd = 0
kind_number Sb = 1
kind_number Pb = 2
kind_number Fb = 3

abbrev pub clusters_of : Geom → Kind → ℕ
clusters_of g kind = slice_index g.clusters (kind_number kind)

-- the items of each cluster of a kind
abbrev pub per_cluster : Geom → Kind → ℕ
per_cluster g kind = slice_index g.items (kind_number kind)

-- all items of a kind
abbrev pub items_of : Geom → Kind → ℕ
items_of g kind = clusters_of g kind * per_cluster g kind

-- the most items that a cluster of a kind has
abbrev pub most_items : Kind → ℕ
most_items Fd = 256
most_items Sb = 3840
most_items Pb = 3840
most_items Fb = 3840

abbrev pub value_of : Geom → GeomField → ℕ
value_of g Slots = g.slots
value_of g Block = g.block
value_of g (Clusters kind) = clusters_of g kind
value_of g (Items kind) = per_cluster g kind

abbrev pub most_of : GeomField → ℕ
most_of Slots = 16
most_of Block = 2048
most_of (Clusters kind) = 8
most_of (Items kind) = most_items kind

-- where a field stands in the order in which they are looked at
abbrev pub rank_of : GeomField → ℕ
rank_of Slots = 0
rank_of Block = 1
rank_of (Clusters Fd) = 2
rank_of (Items Fd) = 3
rank_of (Clusters Sb) = 4
rank_of (Items Sb) = 5
rank_of (Clusters Pb) = 6
rank_of (Items Pb) = 7
rank_of (Clusters Fb) = 8
rank_of (Items Fb) = 9

abbrev pub InRange : Geom → GeomField → Type 0
InRange g field = (1 ≤ value_of g field) × (value_of g field ≤ most_of field)

-- every field is in its range
abbrev pub IsGeom : Geom → Type 0
IsGeom g = (field : GeomField) → InRange g field

abbrev pub OutOfRange : Geom → GeomField → Type 0
OutOfRange g field = (value_of g field < 1) ⊎ (most_of field < value_of g field)

-- this field is out of its range, and every field before it is in its range
pub record IsFirstBadField (g : Geom) (field : GeomField) : Type 0 where
  pub out : OutOfRange g field
  pub before : (other : GeomField) → rank_of other < rank_of field → InRange g other

-- this field is the first of a kind's two that is out of its range
abbrev pub IsFirstBadOfKind : Geom → Kind → GeomField → Type 0
IsFirstBadOfKind g kind field =
    ((field ≡ Clusters kind) × OutOfRange g (Clusters kind))
    ⊎ ((field ≡ Items kind) × InRange g (Clusters kind) × OutOfRange g (Items kind))
