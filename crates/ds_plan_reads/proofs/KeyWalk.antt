-- A planner that wants the body of a key's object asks for what it may.
use Rattle.std.proofs.Common.{◌≡◌, ℕ, ◌<◌, ◌==◌, ◌&&◌, Bool, true, false, nat_lt, if◌then◌else◌, inl, List, Option, None, Some, refl, sym, ap, ◌∙◌, is_some, arith}
use Rattle.std.specs.List.{Contains}
use Rattle.std.specs.Prelude.{Ok, Err, IsSome}
use Rattle.std.proofs.lemmas.Bool.{false≢true}
use Rattle.std.proofs.lemmas.Bool.Decides.{nat_tests}
use Rattle.std.proofs.lemmas.List.{get_or_past}
use Rattle.ds_base.specs.Geometry.{items_of}
use Rattle.ds_base.specs.declared.geometry.Geom.{Geom}
use Rattle.ds_base.specs.declared.geometry.Kind.TheVariants.{Fd}
use Rattle.ds_base.specs.declared.names.Key.{Key}
use Rattle.ds_base.specs.declared.names.NodeKind.{NodeKind}
use Rattle.ds_base.specs.declared.sectors.Sector.{Sector}
use Rattle.ds_fd.specs.declared.body.Body.{Body}
use Rattle.ds_image.specs.Asking.{Agrees}
use Rattle.ds_image.specs.Locks.{keys_of, of_key}
use Rattle.ds_image_parts.specs.Objects.{node_by}
use Rattle.ds_image_parts.specs.Parts.{Parts, part_at}
use Rattle.ds_image_parts.specs.Readings.{ReadsParts}
use Rattle.ds_image.specs.SeenValues.{SeenValue, has_lock, look_of}
use Rattle.ds_image.specs.Sound.{StandsFor}
use Rattle.ds_image.specs.declared.asks.Ask.{Ask}
use Rattle.ds_image.specs.declared.asks.Ask.TheVariants as asks
use Rattle.ds_layout.specs.Places.{place_sector}
use Rattle.ds_layout.specs.declared.places.Place.TheVariants as places
use Rattle.ds_plan_base.proofs.BodyWalk.{HasBody, body_goes}
use Rattle.ds_plan_base.proofs.Dirs.{body_in, object_in}
use Rattle.ds_plan_base.proofs.Goes.{Goes}
use Rattle.ds_plan_base.proofs.Going.{goes-after, goes-if}
use Rattle.ds_plan_base.proofs.PlanAsks.{PlanAsks}
use Rattle.ds_plan_base.specs.Bodies.{body_seen, body_alive, body_of_key}
use Rattle.ds_plan_base.specs.declared.stops.Ending.TheVariants as endings
use Rattle.ds_plan_base.specs.declared.stops.Stop.TheVariants as stops
use Rattle.ds_tree.specs.Nodes.{FileTree, Node, Object, object_at, node_of_key}
use Rattle.ds_tree.specs.Steps.{Does}
use Rattle.ds_tree.specs.declared.calls.CallOf.{CallOf}
use Rattle.ds_tree.specs.declared.calls.TreeReply.TheVariants as replies

-- the call holds an object that is in use in the key's life, and has read its body
pub record HasObject (g : Geom) (seen : SeenValue) (p : Parts) (key : Key) (b : Body) : Type 0 where
  pub inside : key.object < items_of g Fd
  pub held : has_lock seen key.object ≡ true
  pub read : IsSome (look_of seen (place_sector g (places.Body key.object)))
  pub there : part_at p.bodies key.object ≡ Some b
  pub life : b.birth ≡ key.birth
  pub used : is_some b.kind ≡ true

-- what a key names, by the object of its number
abbrev named_by : Key → Object → Option Node
named_by key x = if x.birth == key.birth then x.node else None

none-unused : (p : Parts) (b : Body) (same : Bool) (kind : Option NodeKind) → (same && is_some kind) ≡ false → (if same then node_by p b kind else None) ≡ None
none-unused p b false kind e = refl
none-unused p b true None e = refl
none-unused p b true (Some kind) e = absurd (false≢true (sym e))

none-either : (test : Bool) → ◌≡◌ {A = Option Node} (if test then None else None) None
none-either true = refl
none-either false = refl

both-true : (a b : Bool) → (a && b) ≡ true → (a ≡ true) × (b ≡ true)
both-true true b e = (refl, e)
both-true false b e = absurd (false≢true e)

module _ (g : Geom) (seen : SeenValue) (p : Parts) (reads : ReadsParts g (look_of seen) p) (key : Key) where
  -- such an object is that of the tree
  pub body_there : (b : Body) → HasObject g seen p key b → (image : List Sector) (t : FileTree) (stands : StandsFor g image t) → Agrees seen image
      → part_at stands.parts.bodies key.object ≡ Some b
  body_there b has image t stands agrees = body_in g seen p key.object image t stands has.inside reads agrees has.read ∙ has.there

  pub object_there : (b : Body) → HasObject g seen p key b → (kind : Option NodeKind) → b.kind ≡ kind → (image : List Sector) (t : FileTree) (stands : StandsFor g image t)
      → Agrees seen image → object_at t key.object ≡ record { birth = key.birth; node = node_by stands.parts b kind }
  object_there b has kind is image t stands agrees =
      object_in g image t key.object (Some b) stands (body_there b has image t stands agrees)
      ∙ ap (λ (n : ℕ). record { birth = n; node = node_by stands.parts b b.kind }) has.life
      ∙ ap (λ (k : Option NodeKind). record { birth = key.birth; node = node_by stands.parts b k }) is

  module _ (slot : ℕ) (call : CallOf Key) (MayHold MayRead : SeenValue → Parts → ℕ → Type 0) (named : Contains (keys_of call) key)
      (may_hold : MayHold seen p key.object) (may_read : MayRead seen p (place_sector g (places.Body key.object)))
      (missing : (t : FileTree) → node_of_key t key ≡ None → Does g t call replies.NoObject t) where
    abbrev Good : Ask → Type 0
    Good = PlanAsks g slot call MayHold MayRead seen p

    lock_good : key.object < items_of g Fd → has_lock seen key.object ≡ false → Good (asks.Lock key.object)
    lock_good inside free = record { is_lock = inl inside; free = free; allowed = of_key key named inside; one = may_hold }

    outside_good : nat_lt key.object (items_of g Fd) ≡ false → Good (asks.Done replies.NoObject)
    outside_good past = record {
      block = tt;
      does = λ image t stands agrees.
          let none : part_at stands.parts.bodies key.object ≡ None =
          get_or_past stands.parts.bodies key.object None (grind (arith, nat_tests, past, stands.reads.bodies.len)) in
          missing t (ap (named_by key) (object_in g image t key.object None stands none) ∙ none-either (0 == key.birth));
    }

    gone_good : (b : Body) → key.object < items_of g Fd → HasBody g seen p key.object b → ((b.birth == key.birth) && is_some b.kind) ≡ false → Good (asks.Done replies.NoObject)
    gone_good b inside has gone = record {
      block = tt;
      does = λ image t stands agrees.
          let there : part_at stands.parts.bodies key.object ≡ Some b = body_in g seen p key.object image t stands inside reads agrees has.read ∙ has.there in
          missing t (ap (named_by key) (object_in g image t key.object (Some b) stands there) ∙ none-unused stands.parts b (b.birth == key.birth) b.kind gone);
    }

    -- the body is known, or what is asked for is good
    pub key_goes : Goes Good (body_of_key g seen p key) (HasObject g seen p key)
    key_goes =
        let Is = HasObject g seen p key in
        goes-if Good Is (nat_lt key.object (items_of g Fd)) _ _
        (λ below.
        let inside : key.object < items_of g Fd = grind (arith, nat_tests, below) in
        goes-if Good Is (has_lock seen key.object) _ _
        (λ held.
        goes-after Good (HasBody g seen p key.object) Is (body_seen g seen p key.object) (body_alive key)
        (body_goes g slot call MayHold MayRead seen p reads key.object inside held may_read)
        (λ b has.
        goes-if Good Is ((b.birth == key.birth) && is_some b.kind) (Ok b) (Err (stops.Done endings.NoObject))
        (λ alive.
        let both = both-true (b.birth == key.birth) (is_some b.kind) alive in
        record {
          inside = inside;
          held = held;
          read = has.read;
          there = has.there;
          life = grind (arith, nat_tests, both.0);
          used = both.1;
        })
        (gone_good b inside has)))
        (lock_good inside))
        outside_good
