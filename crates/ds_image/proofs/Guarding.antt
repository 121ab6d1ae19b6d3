-- The guard of a sector is found by looking at the descriptors one after another.
use Rattle.std.proofs.Common.{◌≡◌, ℕ, ◌<◌, ◌≤◌, ◌==◌, Bool, true, false, nat_lt, [], length, get_or, Option, Some, None, IsSome, is_some, ◌↔◌, refl, sym, ap, subst, ◌∙◌, arith}
use Rattle.std.proofs.lemmas.Bool.Decides.{nat_tests}
use Rattle.std.proofs.lemmas.List.{length-map, get_or-map}
use Rattle.std.proofs.lemmas.List.Sums.{position_or_len_is}
use Rattle.std.specs.List.{list_any}
use Rattle.ds_base.specs.Decoding.{IsDecoded}
use Rattle.ds_base.specs.Geometry.{IsGeom, items_of}
use Rattle.ds_base.specs.declared.geometry.Geom.{Geom}
use Rattle.ds_base.specs.declared.geometry.Kind.TheVariants.{Fd}
use Rattle.ds_base.specs.declared.names.NodeKind.{NodeKind}
use Rattle.ds_layout.specs.Places.{IsPlace, place_sector}
use Rattle.ds_layout.specs.declared.places.Place.{Place}
use Rattle.ds_layout.specs.declared.places.Place.TheVariants as places
use Rattle.ds_layout.proofs.SamePlace.{same_place}
use Rattle.ds_image.specs.Guards.{least_lister, lister_or, guard_of, IsGuard}
use Rattle.ds_image.specs.Listers.{listed_of, listed_lists}
use Rattle.ds_image_parts.specs.Looks.{Look, AreBlocks}
use Rattle.ds_layout.specs.Metadata.{IsMetadata, is_metadata}
use Rattle.ds_image_parts.specs.Parts.{Parts, part_at}
use Rattle.ds_image_parts.specs.Readings.{ReadsParts}
use Rattle.ds_image_parts.proofs.Spelling.Readings.{parts_there}

-- whether a descriptor of the kind lists the item
abbrev lists_item : NodeKind → Parts → ℕ → ℕ → Bool
lists_item kind p n object = list_any (λ x. x == n) (listed_of kind (part_at p.bodies object))

-- where none before lists the item, the least lister is the first descriptor that does, or else there is none
least_at : (kind : NodeKind) (p : Parts) (n object : ℕ) → object ≤ length p.bodies → ((i : ℕ) → i < object → lists_item kind p n i ≡ false)
    → (object < length p.bodies → lists_item kind p n object ≡ true) → least_lister (listed_lists kind p) n ≡ object
least_at kind p n object most before here =
    let lists = listed_lists kind p in
    let count : length lists ≡ length p.bodies = length-map p.bodies (listed_of kind) in
    let at : (i : ℕ) → i < length p.bodies → get_or lists i [] ≡ listed_of kind (part_at p.bodies i) =
    λ i l. get_or-map (listed_of kind) p.bodies i None [] l in
    position_or_len_is (λ list. list_any (λ x. x == n) list) lists object [] (omega (arith, most, count))
    (λ i l. ap (λ list. list_any (λ x. x == n) list) (at i (omega (arith, l, most))) ∙ before i l)
    (λ l.
    let inside : object < length p.bodies = omega (arith, l, count) in
    ap (λ list. list_any (λ x. x == n) list) (at object inside) ∙ here inside)

-- the first descriptor that lists the item
pub lister_found : (g : Geom) (look : Look) (kind : NodeKind) (p : Parts) (n object cluster : ℕ) → ReadsParts g look p → object < items_of g Fd
    → ((i : ℕ) → i < object → lists_item kind p n i ≡ false) → lists_item kind p n object ≡ true → object ≡ lister_or (listed_lists kind p) n cluster
lister_found g look kind p n object cluster reads l before here =
    let least : least_lister (listed_lists kind p) n ≡ object = least_at kind p n object (omega (arith, l, reads.bodies.len)) before (λ _. here) in
    let count : length (listed_lists kind p) ≡ items_of g Fd = length-map p.bodies (listed_of kind) ∙ reads.bodies.len in
    let within : nat_lt object (length (listed_lists kind p)) ≡ true = grind (arith, nat_tests, l, count) in
    rw (least, within) refl

-- no descriptor lists the item
pub lister_none : (g : Geom) (look : Look) (kind : NodeKind) (p : Parts) (n cluster : ℕ) → ReadsParts g look p
    → ((i : ℕ) → i < items_of g Fd → lists_item kind p n i ≡ false) → cluster ≡ lister_or (listed_lists kind p) n cluster
lister_none g look kind p n cluster reads none =
    let count : length (listed_lists kind p) ≡ length p.bodies = length-map p.bodies (listed_of kind) in
    let least : least_lister (listed_lists kind p) n ≡ length p.bodies =
    least_at kind p n (length p.bodies) (omega arith) (λ i l. none i (omega (arith, l, reads.bodies.len))) (λ l. absurd (omega arith)) in
    let past : nat_lt (length p.bodies) (length (listed_lists kind p)) ≡ false = grind (arith, nat_tests, count) in
    rw (least, past) refl

-- the guard of a place is that of its sector
pub guard_exact : (g : Geom) (look : Look) (place : Place) (at : ℕ) (r : Option ℕ) → IsGeom g → AreBlocks look → IsPlace g place
    → place_sector g place ≡ at
    → ((p : Parts) → ReadsParts g look p → r ≡ guard_of g p place) → IsDecoded r (IsGuard g look at)
guard_exact g look place at r is blocks inside here answer object =
    let there = parts_there g look is blocks in (
      λ e. record {
        parts = there.0;
        reads = there.1;
        place = place;
        is_place = inside;
        here = here;
        guards = sym (answer there.0 there.1) ∙ e;
      },
      λ guard.
          let same : guard.place ≡ place = same_place g guard.place place is guard.is_place inside (guard.here ∙ sym here) in
          answer guard.parts guard.reads ∙ subst (λ (q : Place). guard_of g guard.parts q ≡ Some object) same guard.guards,
    )

-- bodies, bitmaps, sub-blocks and pointer blocks have a guard, and no other place has one
guarded_places : (g : Geom) (p : Parts) (place : Place) → is_some (guard_of g p place) ≡ is_metadata place
guarded_places g p places.VolInfo = refl
guarded_places g p places.FsInfo = refl
guarded_places g p (places.Slot slot) = refl
guarded_places g p (places.Journal slot index) = refl
guarded_places g p (places.Header object) = refl
guarded_places g p (places.Bitmap kind cluster) = refl
guarded_places g p (places.Body object) = refl
guarded_places g p (places.SubBlock n) = refl
guarded_places g p (places.PtrBlock n) = refl
guarded_places g p (places.Block block index) = refl

-- so a sector has a guard exactly where it is one of these
pub guard_there : (g : Geom) (look : Look) (place : Place) (at : ℕ) (r : Option ℕ) → IsGeom g → AreBlocks look → IsPlace g place
    → place_sector g place ≡ at
    → ((p : Parts) → ReadsParts g look p → r ≡ guard_of g p place) → IsSome r ↔ IsMetadata g at
guard_there g look place at r is blocks inside here answer =
    let there = parts_there g look is blocks in
    let same : is_some r ≡ is_metadata place = ap is_some (answer there.0 there.1) ∙ guarded_places g there.0 place in (
      λ some. record { place = place; is_place = inside; here = here; kept = sym same ∙ some },
      λ m.
          let one : m.place ≡ place = same_place g m.place place is m.is_place inside (m.here ∙ sym here) in
          same ∙ ap is_metadata (sym one) ∙ m.kept,
    )
