-- A planner that has found a free descriptor asks for what it may before it knows the new object.
use Rattle.std.proofs.Common.{◌≡◌, ℕ, ◌/◌, ◌%◌, ◌^◌, ◌<◌, true, false, nat_le, if◌then◌else◌, List, map, None, Some, inl, sym, ap, ◌∙◌, arith, slice_get, is_some}
use Rattle.std.specs.Prelude.{Ok, Err, IsSome}
use Rattle.std.proofs.lemmas.Bool.{false≢true}
use Rattle.std.proofs.lemmas.Bool.Decides.{nat_tests}
use Rattle.std.proofs.lemmas.List.{get_or-map}
use Rattle.std.proofs.lemmas.Nat.{div-mul-add, mod-mul-add}
use Rattle.std.proofs.lemmas.Option.{slice_get_within, get_or_from_slice_get}
use Rattle.ds_base.specs.Geometry.{items_of, per_cluster}
use Rattle.ds_base.specs.declared.geometry.Geom.{Geom}
use Rattle.ds_base.specs.declared.geometry.Kind.TheVariants.{Fd}
use Rattle.ds_base.specs.declared.names.Key.{Key}
use Rattle.ds_base.specs.declared.sectors.Sector.{Sector}
use Rattle.ds_image.proofs.Bits.{bits-at}
use Rattle.ds_fd.specs.declared.body.Body.{Body}
use Rattle.ds_image.specs.Asking.{Agrees, makes_object}
use Rattle.ds_image_parts.specs.Objects.{is_used}
use Rattle.ds_image_parts.specs.Parts.{Parts, part_at, used_bits}
use Rattle.ds_image_parts.specs.Readings.{ReadsParts}
use Rattle.ds_image.specs.SeenValues.{SeenValue, has_lock, look_of}
use Rattle.ds_image.specs.Sound.{StandsFor}
use Rattle.ds_image.specs.declared.asks.Ask.{Ask}
use Rattle.ds_image.specs.declared.asks.Ask.TheVariants as asks
use Rattle.ds_image.proofs.Spelling.Sizes.{body_is}
use Rattle.ds_layout.specs.Places.{place_sector}
use Rattle.ds_layout.specs.declared.places.Place.TheVariants as places
use Rattle.ds_plan_make.specs.Answers.{unused_by, unused_body}
use Rattle.ds_plan_base.specs.Items.{free_item, number_of}
use Rattle.ds_plan_make.proofs.Limits.{MayHold, MayRead, the_new, of_new}
use Rattle.ds_plan_base.proofs.PlanAsks.{PlanAsks, HasItem}
use Rattle.ds_plan_make.specs.Objects.{CanBegin}
use Rattle.ds_plan_base.specs.declared.items.FreeItem.{FreeItem}
use Rattle.ds_plan_base.specs.Bodies.{body_seen}
use Rattle.ds_plan_base.proofs.Goes.{Goes}
use Rattle.ds_image.specs.Locks as locks
use Rattle.ds_plan_base.specs.Steps.{after}
use Rattle.ds_plan_base.proofs.BodyWalk.{HasBody, body_goes}
use Rattle.ds_plan_base.proofs.Dirs.{body_in}
use Rattle.ds_plan_base.proofs.Going.{goes-after, goes-if}
use Rattle.ds_plan_base.proofs.Limits.{map_alike}
use Rattle.ds_plan_base.proofs.NewBodies.{item-within}
use Rattle.ds_plan_base.specs.declared.stops.Stop.TheVariants as stops
use Rattle.ds_plan_base.proofs.Alike.{some-there, none-there}
use Rattle.ds_tree.specs.Nodes.{FileTree}
use Rattle.ds_tree.specs.declared.calls.CallOf.{CallOf}

-- the call holds the descriptor, and has read its body, which can begin a new life
pub record HasNew (g : Geom) (seen : SeenValue) (p : Parts) (o : ℕ) (b : Body) : Type 0 where
  pub held : has_lock seen o ≡ true
  pub read : IsSome (look_of seen (place_sector g (places.Body o)))
  pub there : part_at p.bodies o ≡ Some b
  pub can : CanBegin o b

module _ (g : Geom) (slot : ℕ) (call : CallOf Key) (dir : ℕ) (seen : SeenValue) (p : Parts) (reads : ReadsParts g (look_of seen) p) (makes : makes_object call ≡ true)
    (wants : locks.WantsDescriptor p call) (item : FreeItem) (has : HasItem g seen p Fd item) (found : free_item g slot seen p Fd ≡ Ok (Some item)) where
  abbrev Good : Ask → Type 0
  Good = PlanAsks g slot call (MayHold g slot dir) (MayRead g slot dir) seen p

  abbrev o : ℕ
  o = number_of g Fd item

  abbrev at : ℕ
  at = place_sector g (places.Body o)

  o-within : o < items_of g Fd
  o-within = item-within g Fd item has.is_free

  small : item.item < per_cluster g Fd
  small = omega (arith, slice_get_within item.map.used item.item false has.is_free.is_free, has.is_free.is_bits.count)

  clear : locks.IsClear g p o
  clear =
      let cluster : o / per_cluster g Fd ≡ item.cluster = div-mul-add item.cluster (per_cluster g Fd) item.item small in
      let place : o % per_cluster g Fd ≡ item.item = mod-mul-add item.cluster (per_cluster g Fd) item.item small in
      ap (λ c. slice_get (used_bits (part_at p.fd_maps c)) (o % per_cluster g Fd)) cluster
      ∙ ap (λ i. slice_get (used_bits (part_at p.fd_maps item.cluster)) i) place
      ∙ ap (λ m. slice_get (used_bits m) item.item) has.has.there ∙ has.is_free.is_free

  lock_good : has_lock seen o ≡ false → Good (asks.Lock o)
  lock_good free = record { is_lock = inl o-within; free = free; allowed = locks.of_new o wants clear; one = the_new item found }

  -- the descriptor's bit is clear, so it is not in use in an image that agrees
  unused-in : (image : List Sector) (t : FileTree) (stands : StandsFor g image t) → Agrees seen image → is_used (part_at stands.parts.bodies o) ≡ false
  unused-in image t stands agrees =
      let q = stands.parts in
      let c = item.cluster in
      let known = some-there (look_of seen (place_sector g (places.Bitmap Fd c))) has.has.read in
      let same = map_alike g (slice_get image) (look_of seen) q p Fd c has.has.inside (agrees (place_sector g (places.Bitmap Fd c)) known.0 known.1 ∙ sym known.1) stands.reads reads in
      let bit = bits-at g (slice_get image) Fd q.fd_maps c item.item item.map false (stands.reads.maps Fd) (stands.sound.maps Fd) (same ∙ has.has.there) has.is_free.is_free in
      let listed : slice_get (map is_used q.bodies) o ≡ Some false = ap (λ l. slice_get l o) (sym stands.sound.used) ∙ bit in
      sym (get_or-map is_used q.bodies o None true (omega (arith, o-within, stands.reads.bodies.len))) ∙ get_or_from_slice_get (map is_used q.bodies) o false true listed

  used_good : (b : Body) → HasBody g seen p o b → is_some b.kind ≡ true → Good (asks.Odd at)
  used_good b is used = record {
    read = is.read;
    none = λ image t stands agrees.
        let same = body_in g seen p o image t stands o-within reads agrees is.read in
        false≢true (sym (sym (ap is_used (same ∙ is.there)) ∙ unused-in image t stands agrees) ∙ used);
  }

  worn_good : has_lock seen o ≡ true → (b : Body) → part_at p.bodies o ≡ Some b → is_some b.kind ≡ false → nat_le (2 ^ 62) b.birth ≡ true → Good (asks.Worn o)
  worn_good held b is unused last =
      let most = (body_is g (look_of seen) p o b reads is).ranges.birth_to in
      record {
        makes = makes;
        clear = clear;
        held = held;
        body = b;
        there = is;
        unused = none-there b.kind unused;
        last = grind (arith, nat_tests, last, most);
      }

  -- the body is known, or what is asked for is good
  pub unused_goes : Goes Good (unused_body g seen p o) (HasNew g seen p o)
  unused_goes =
      goes-if Good (HasNew g seen p o) (has_lock seen o) (after (body_seen g seen p o) (unused_by at o)) (Err (stops.Lock o))
      (λ held.
      goes-after Good (HasBody g seen p o) (HasNew g seen p o) (body_seen g seen p o) (unused_by at o)
      (body_goes g slot call (MayHold g slot dir) (MayRead g slot dir) seen p reads o o-within held (of_new item found))
      (λ b is.
      goes-if Good (HasNew g seen p o) (is_some b.kind) (Err (stops.Odd at)) (if nat_le (2 ^ 62) b.birth then Err (stops.Worn o) else Ok b)
      (used_good b is)
      (λ unused.
      goes-if Good (HasNew g seen p o) (nat_le (2 ^ 62) b.birth) (Err (stops.Worn o)) (Ok b)
      (worn_good held b is.there unused)
      (λ few. record {
        held = held;
        read = is.read;
        there = is.there;
        can = record {
          is_body = body_is g (look_of seen) p o b reads is.there;
          object = ((reads.bodies.each o o-within b).0 is.there).0;
          unused = none-there b.kind unused;
          has_birth = grind (arith, nat_tests, few);
        };
      }))))
      lock_good
