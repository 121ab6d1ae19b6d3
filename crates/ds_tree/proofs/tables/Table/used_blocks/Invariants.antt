use Rattle.std.proofs.Common.{◌≡◌, ℕ, ◌<◌, false, length, take, nat_eq, slice_index_or}
use Rattle.std.specs.List.{flat_map, list_any}
use Rattle.ds_base.specs.declared.geometry.Kind.TheVariants as kinds
use Rattle.ds_base.specs.Geometry.{items_of}
use Rattle.ds_tree.specs.Nodes.{blocks_of}
use Rattle.ds_tree.proofs.tables.Table.used_blocks.Given as goal

abbrev pub invariant-loop-object : goal.invariant-loop-object
invariant-loop-object l = (l.object-items ≡ l.self.tree.objects) × (length l.used.items ≡ items_of l.self.geom kinds.Fb) × ((b : ℕ) → b < items_of l.self.geom kinds.Fb → slice_index_or l.used.items b false ≡ list_any (nat_eq b) (flat_map (λ o. blocks_of o.node) (take l.object-index l.object-items)))
