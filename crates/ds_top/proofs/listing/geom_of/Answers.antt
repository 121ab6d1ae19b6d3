use Rattle.std.proofs.Common.{◌≡◌, ℕ, List, Some, None, ap}
use Rattle.ds_base.specs.declared.geometry.Geom.{Geom}
use Rattle.ds_top.proofs.CheckLaws.{first_volume}
use Rattle.ds_top.proofs.listing.geom_of.Goals as goal

pub unreachable-requires : goal.unreachable-requires
unreachable-requires c =
    let v = c.requires in
    let volume : Geom × List ℕ = (v.geom, v.id) in
    let none : None ≡ Some volume = (c.in-None-decode_vol.ensures volume).1 (first_volume c.args.sectors.now c.in-Some.first.now c.in-Some.ensures.value v) in
    absurd (cc)

pub returns : goal.returns
returns c = λ v.
    let volume : Geom × List ℕ = (v.geom, v.id) in
    let some : Some c.in-Some-decode_vol.volume ≡ Some volume =
    (c.in-Some-decode_vol.ensures volume).1 (first_volume c.args.sectors.now c.in-Some.first.now c.in-Some.ensures.value v) in
    let same : c.in-Some-decode_vol.volume ≡ volume = cc in
    ap (λ (x : Geom × List ℕ). x.0) same
