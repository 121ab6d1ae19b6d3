use Rattle.std.proofs.Common.{◌≡◌, ◌<◌, ◌≤◌, ◌++◌, ◌∷◌, [], ℕ, List, cond, HashMap, BuildHasherDefault, FoldHasher, length, refl, ap, sym, ◌∙◌, arith}
use Rattle.std.specs.Prelude.{Some, None, Option, is_some, IsSome, slice_set, nat_eq}
use Rattle.std.specs.Option.{option_or}
use Rattle.std.specs.HashMap.{get}
use Rattle.std.proofs.lemmas.Option.{slice_get_past}
use Rattle.ds_base.specs.declared.sectors.Sector.{Sector}
use Rattle.ds_lun.specs.Devices.{DeviceValue, held_in, sectors_of}
use Rattle.ds_lun.proofs.KeptSectors.{sectors_of-put_zero, length-sectors_of, set_in_front, push_in_front, put_beyond}
use Rattle.ds_lun.proofs.memory_device.MemLun.put.Goals as goal

abbrev Kept : Type 0
Kept = HashMap ℕ Sector (BuildHasherDefault FoldHasher)

pub returns-then-at-len-clause-sectors : goal.returns-then-at-len-clause-sectors
returns-then-at-len-clause-sectors c =
    let front = c.self.inside.front.items in
    let kept = get nat_eq c.self.inside.kept in
    let there : c.args.at < c.self.inside.len = omega (arith, ap (λ (device : DeviceValue). length device.sectors) c.self.view_is, length-sectors_of (held_in front kept) c.self.inside.len) in
    let within : c.args.at < length front = omega arith in
    set_in_front front kept c.self.inside.len c.args.at c.args.fresh.now there within
    ∙ ap (λ (device : DeviceValue). slice_set device.sectors c.args.at c.args.fresh.now) c.self.view_is

pub returns-in-Some-clause-sectors : goal.returns-in-Some-clause-sectors
returns-in-Some-clause-sectors c =
    let front = c.self.inside.front.items in
    let kept = get nat_eq c.self.inside.kept in
    let there : c.args.at < c.self.inside.len = omega (arith, ap (λ (device : DeviceValue). length device.sectors) c.self.view_is, length-sectors_of (held_in front kept) c.self.inside.len) in
    let past : length front ≤ c.args.at = omega arith in
    let found : IsSome (kept c.args.at) = sym (ap (λ (held : Option Sector). is_some held) c.in-Some.ensures.value) in
    put_beyond front kept _ c.self.inside.len c.args.at (Some c.args.fresh.now) c.args.fresh.now there past ((c.get_mut.follows.holds c.args.fresh.now).3 found).0 refl
    ∙ ap (λ (device : DeviceValue). slice_set device.sectors c.args.at c.args.fresh.now) c.self.view_is

pub returns-then-is_zero-clause-sectors : goal.returns-then-is_zero-clause-sectors
returns-then-is_zero-clause-sectors c =
    let front = c.self.inside.front.items in
    let kept = get nat_eq c.self.inside.kept in
    let there : c.args.at < c.self.inside.len = omega (arith, ap (λ (device : DeviceValue). length device.sectors) c.self.view_is, length-sectors_of (held_in front kept) c.self.inside.len) in
    let past : length front ≤ c.args.at = omega arith in
    let none : held_in front kept c.args.at ≡ None = ap (λ (o : Option Sector). option_or o (kept c.args.at)) (slice_get_past front c.args.at past) ∙ sym c.in_default.ensures.value in
    ap (λ (m : Kept). sectors_of (held_in front (get nat_eq m)) c.self.inside.len) c.get_mut.follows.holds-at-none
    ∙ sectors_of-put_zero (held_in front kept) c.self.inside.len c.args.at c.args.fresh.now there none (c.is_zero.ensures c.if-is_zero.true)
    ∙ ap (λ (device : DeviceValue). slice_set device.sectors c.args.at c.args.fresh.now) c.self.view_is

pub returns-then-len-capacity-clause-sectors : goal.returns-then-len-capacity-clause-sectors
returns-then-len-capacity-clause-sectors c =
    let front = c.self.inside.front.items in
    let kept = get nat_eq c.self.inside.kept in
    let there : c.args.at < c.self.inside.len = omega (arith, ap (λ (device : DeviceValue). length device.sectors) c.self.view_is, length-sectors_of (held_in front kept) c.self.inside.len) in
    let next : c.args.at ≡ length front = omega arith in
    ap (λ (items : List Sector). sectors_of (held_in items (get nat_eq c.get_mut.follows.lender-at-none)) c.self.inside.len) c.push_reserved.ensures.items
    ∙ ap (λ (m : Kept). sectors_of (held_in (front ++ c.args.fresh.now ∷ []) (get nat_eq m)) c.self.inside.len) c.get_mut.follows.holds-at-none
    ∙ push_in_front front kept c.self.inside.len c.args.at c.args.fresh.now there next
    ∙ ap (λ (device : DeviceValue). slice_set device.sectors c.args.at c.args.fresh.now) c.self.view_is

pub returns-clause-sectors : goal.returns-clause-sectors
returns-clause-sectors c =
    let front = c.self.inside.front.items in
    let kept = get nat_eq c.self.inside.kept in
    let there : c.args.at < c.self.inside.len = omega (arith, ap (λ (device : DeviceValue). length device.sectors) c.self.view_is, length-sectors_of (held_in front kept) c.self.inside.len) in
    let past : length front ≤ c.args.at = omega arith in
    put_beyond front kept _ c.self.inside.len c.args.at (Some c.args.fresh.now) c.args.fresh.now there past
    (λ q. c.in-Ok.ensures.updates.0 q ∙ ap (λ (m : Kept). cond (nat_eq c.args.at q) (Some c.args.fresh.now) (get nat_eq m q)) c.get_mut.follows.holds-at-none) refl
    ∙ ap (λ (device : DeviceValue). slice_set device.sectors c.args.at c.args.fresh.now) c.self.view_is
