-- Which objects use the items of a kind.
use Rattle.std.specs.Prelude.{ℕ, List, [], Option, map}
use Rattle.std.specs.List.{flat_map, range_with_len}
use Rattle.ds_base.specs.declared.geometry.Geom.{Geom}
use Rattle.ds_base.specs.declared.geometry.Kind.{Kind}
use Rattle.ds_base.specs.declared.geometry.Kind.TheVariants.{Fd, Sb, Pb, Fb}
use Rattle.ds_base.specs.Geometry.{items_of}
use Rattle.ds_fd.specs.declared.body.Body.{Body}
use Rattle.ds_image_parts.specs.Parts.{part_at, Parts}
use Rattle.ds_image_parts.specs.Objects.{subs_of, ptrs_of, blocks_of}

-- the items of a kind that an object lists
abbrev pub items_by : Parts → Kind → Option Body → List ℕ
items_by p Fd body = []
items_by p Sb body = subs_of body
items_by p Pb body = ptrs_of body
items_by p Fb body = blocks_of p body

-- the uses of a kind's items, each with its object, by rising object
abbrev pub uses_of : Geom → Parts → Kind → List (ℕ × ℕ)
uses_of g p kind = flat_map (λ o. map (λ n. (n, o)) (items_by p kind (part_at p.bodies o))) (range_with_len 0 (items_of g Fd))
