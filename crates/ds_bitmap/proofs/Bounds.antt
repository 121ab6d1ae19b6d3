-- How many items a cluster has.
use Rattle.std.proofs.Common.{◌≡◌, ℕ, ◌≤◌, false, take, replicate, arith}
use Rattle.std.proofs.lemmas.List.{take-replicate}
use Rattle.ds_base.specs.declared.geometry.Geom.{Geom}
use Rattle.ds_base.specs.declared.geometry.Kind.{Kind}
use Rattle.ds_base.specs.declared.geometry.Kind.TheVariants.{Fd, Sb, Pb, Fb}
use Rattle.ds_base.specs.declared.geometry.GeomField.TheVariants.{Items}
use Rattle.ds_base.specs.Geometry.{IsGeom, per_cluster, most_items}

most_of_kind : (kind : Kind) → most_items kind ≤ 3840
most_of_kind Fd = omega arith
most_of_kind Sb = omega arith
most_of_kind Pb = omega arith
most_of_kind Fb = omega arith

pub most_per_cluster : (g : Geom) (kind : Kind) → IsGeom g → per_cluster g kind ≤ 3840
most_per_cluster g kind is =
    let most : per_cluster g kind ≤ most_items kind = (is (Items kind)).1 in
    omega (arith, most_of_kind kind)

pub clear_front : (n : ℕ) → n ≤ 3840 → take n (replicate 3840 false) ≡ replicate n false
clear_front n h = take-replicate n 3840 false h
