-- How the values that contracts see of objects and trees are stored.
use Rattle.std.specs.Prelude.{ℕ, List, Option, ◌≡◌, refl}
use Rattle.std.proofs.Common.{◌⊎◌, inl, inr}
use Rattle.std.specs.Coded.{Coded, code_by, coded×, coded⊎, coded_ℕ, coded_list, coded_option}
use Rattle.std.specs.FinMap as maps
use Rattle.ds_base.specs.declared.geometry.Geom.{Geom}
use Rattle.ds_tree.specs.Nodes.{Entries, Node, Dir, File, Object, FileTree}
use Rattle.ds_tree.specs.Trees.{TreeValue}

-- a node as a pair or a list
abbrev pub split : Node → (Entries × ℕ) ⊎ List ℕ
split (Dir entries rooms) = inl (entries, rooms)
split (File blocks) = inr blocks

abbrev pub join : (Entries × ℕ) ⊎ List ℕ → Node
join (inl pair) = Dir pair.0 pair.1
join (inr blocks) = File blocks

pub join-split : (node : Node) → join (split node) ≡ node
join-split (Dir entries rooms) = refl
join-split (File blocks) = refl

abbrev pub node_code : Coded Node
node_code = code_by ((Entries × ℕ) ⊎ List ℕ)
    (coded⊎ (coded× (maps.code (coded_list coded_ℕ) coded_ℕ) coded_ℕ) (coded_list coded_ℕ)) split join join-split

abbrev pub object_code : Coded Object
object_code = code_by (ℕ × Option Node) (coded× coded_ℕ (coded_option node_code))
    (λ o. (o.birth, o.node)) (λ p. record { birth = p.0; node = p.1 }) (λ _. refl)

abbrev pub tree_code : Coded FileTree
tree_code = code_by (List Object) (coded_list object_code) (λ t. t.objects) (λ objects. record { objects = objects }) (λ _. refl)

abbrev pub geom_code : Coded Geom
geom_code = code_by (ℕ × (ℕ × (List ℕ × List ℕ))) (coded× coded_ℕ (coded× coded_ℕ (coded× (coded_list coded_ℕ) (coded_list coded_ℕ))))
    (λ g. (g.slots, (g.block, (g.clusters, g.items)))) (λ p. record { slots = p.0; block = p.1.0; clusters = p.1.1.0; items = p.1.1.1 }) (λ _. refl)

abbrev pub value_code : Coded TreeValue
value_code = code_by (Geom × FileTree) (coded× geom_code tree_code)
    (λ v. (v.geom, v.tree)) (λ p. record { geom = p.0; tree = p.1 }) (λ _. refl)
