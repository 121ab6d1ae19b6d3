-- A planner that holds a descriptor and wants its body asks for what it may.
use Rattle.std.proofs.Common.{◌≡◌, ℕ, ◌<◌, true, None, Some, refl, sym, ap, ◌∙◌, arith, is_some}
use Rattle.std.specs.Prelude.{IsSome}
use Rattle.std.proofs.lemmas.Bool.{false≢true}
use Rattle.ds_base.specs.Geometry.{items_of}
use Rattle.ds_base.specs.declared.geometry.Geom.{Geom}
use Rattle.ds_base.specs.declared.geometry.Kind.TheVariants.{Fd}
use Rattle.ds_base.specs.declared.names.Key.{Key}
use Rattle.ds_base.specs.declared.sectors.Sector.{Sector}
use Rattle.ds_fd.specs.declared.body.Body.{Body}
use Rattle.ds_image_parts.specs.Parts.{Parts, part_at}
use Rattle.ds_image_parts.specs.Readings.{ReadsParts}
use Rattle.ds_image.specs.SeenValues.{SeenValue, has_lock, look_of}
use Rattle.ds_image.specs.declared.asks.Ask.{Ask}
use Rattle.ds_image.specs.declared.asks.Ask.TheVariants as asks
use Rattle.ds_layout.specs.Places.{place_sector}
use Rattle.ds_layout.specs.declared.places.Place.TheVariants as places
use Rattle.ds_plan_base.specs.Bodies.{body_seen}
use Rattle.ds_plan_base.proofs.Goes.{Goes}
use Rattle.ds_plan_base.proofs.PlanAsks.{PlanAsks}
use Rattle.ds_plan_base.proofs.Dirs.{body_in}
use Rattle.ds_plan_base.proofs.Going.{goes-part}
use Rattle.ds_tree.specs.declared.calls.CallOf.{CallOf}

-- a body that was read
pub record HasBody (g : Geom) (seen : SeenValue) (p : Parts) (o : ℕ) (b : Body) : Type 0 where
  pub read : IsSome (look_of seen (place_sector g (places.Body o)))
  pub there : part_at p.bodies o ≡ Some b

module _ (g : Geom) (slot : ℕ) (call : CallOf Key) (MayHold MayRead : SeenValue → Parts → ℕ → Type 0) (seen : SeenValue) (p : Parts) (reads : ReadsParts g (look_of seen) p)
    (o : ℕ) (inside : o < items_of g Fd) (held : has_lock seen o ≡ true) (may_read : MayRead seen p (place_sector g (places.Body o))) where
  abbrev Good : Ask → Type 0
  Good = PlanAsks g slot call MayHold MayRead seen p

  abbrev at : ℕ
  at = place_sector g (places.Body o)

  unread_good : look_of seen at ≡ None → Good (asks.Read at)
  unread_good unread = record {
    readable = record {
      metadata = record { place = places.Body o; is_place = inside; here = refl; kept = refl };
      unread = unread;
      guarded = λ image t stands agrees. record {
        object = o;
        guards = record { parts = stands.parts; reads = stands.reads; place = places.Body o; is_place = inside; here = refl; guards = refl };
        held = held;
      };
    };
    one = may_read;
  }

  odd_good : (s : Sector) → look_of seen at ≡ Some s → part_at p.bodies o ≡ None → Good (asks.Odd at)
  odd_good s there none = record {
    read = ap is_some there;
    none = λ image t stands agrees.
        let same = body_in g seen p o image t stands inside reads agrees (ap is_some there) in
        let some : IsSome (part_at stands.parts.bodies o) = stands.sound.bodies o (omega (arith, inside, stands.reads.bodies.len)) in
        false≢true (sym (ap is_some (same ∙ none)) ∙ some);
  }

  -- the body is known, or what is asked for is good
  pub body_goes : Goes Good (body_seen g seen p o) (HasBody g seen p o)
  body_goes = goes-part Good (HasBody g seen p o) at (look_of seen at) (part_at p.bodies o) unread_good odd_good (λ s b there is. record { read = ap is_some there; there = is })
