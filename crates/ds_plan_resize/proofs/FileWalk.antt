-- A planner of Resize asks for what it may before it knows the file, and refuses where the call does.
use Rattle.std.proofs.Common.{◌≡◌, ◌≢◌, eq-eqb, ℕ, ◌<◌, ◌≤◌, ◌==◌, ◌&&◌, Bool, true, false, nat_lt, if◌then◌else◌, inl, inr, List, Option, None, Some, refl, sym, ap, subst, ◌∙◌, is_some, arith}
use Rattle.std.specs.Prelude.{Result, Ok, Err, IsSome}
use Rattle.std.proofs.lemmas.Bool.{false≢true, cases_Bool}
use Rattle.std.proofs.lemmas.Bool.Decides.{nat_tests}
use Rattle.ds_base.specs.Geometry.{items_of}
use Rattle.ds_base.specs.declared.geometry.Geom.{Geom}
use Rattle.ds_base.specs.declared.geometry.Kind.TheVariants.{Fd}
use Rattle.ds_base.specs.declared.names.Key.{Key}
use Rattle.ds_base.specs.declared.names.NodeKind.{NodeKind}
use Rattle.ds_base.specs.declared.names.NodeKind.TheVariants as kinds
use Rattle.ds_base.specs.declared.sectors.Sector.{Sector}
use Rattle.ds_fd.specs.declared.body.Body.{Body}
use Rattle.ds_image.specs.Asking.{Agrees}
use Rattle.ds_image_parts.specs.Parts.{Parts, part_at}
use Rattle.ds_image_parts.specs.Readings.{ReadsParts}
use Rattle.ds_image.specs.SeenValues.{SeenValue, has_lock, look_of}
use Rattle.ds_image.specs.Sound.{StandsFor}
use Rattle.ds_image.specs.declared.asks.Ask.{Ask}
use Rattle.ds_image.specs.declared.asks.Ask.TheVariants as asks
use Rattle.ds_layout.specs.Places.{place_sector}
use Rattle.ds_layout.specs.declared.places.Place.TheVariants as places
use Rattle.ds_plan_base.specs.Bodies.{body_seen, body_alive}
use Rattle.ds_plan_base.proofs.Goes.{Goes}
use Rattle.ds_image.specs.Locks.{SeesBody, of_key}
use Rattle.ds_plan_base.proofs.PlanAsks.{PlanAsks}
use Rattle.ds_plan_base.specs.Steps.{after}
use Rattle.ds_plan_base.proofs.BodyWalk.{HasBody, body_goes}
use Rattle.ds_plan_base.proofs.Dirs.{body_in}
use Rattle.ds_plan_base.proofs.Going.{goes-after, goes-if}
use Rattle.ds_plan_base.specs.declared.stops.Ending.TheVariants as endings
use Rattle.ds_plan_base.specs.declared.stops.Stop.{Stop}
use Rattle.ds_plan_base.specs.declared.stops.Stop.TheVariants as stops
use Rattle.ds_plan_base.proofs.Alike.{none-there}
use Rattle.ds_plan_laws_size.proofs.Refused.{resize-past, resize-unused, resize-other_life, resize-dir, resize-too_big, resize-too_much, resize-same}
use Rattle.ds_plan_resize.specs.Files.{difference, file_by, body_of_file, body_to_size, file_to_size}
use Rattle.ds_plan_resize.proofs.Holding.{MayHold, the_file, MayRead, of_file}
use Rattle.ds_tree.specs.Nodes.{FileTree}
use Rattle.ds_tree.specs.declared.calls.CallOf.{CallOf}
use Rattle.ds_tree.specs.declared.calls.CallOf.TheVariants.{Resize}
use Rattle.ds_tree.specs.declared.calls.TreeReply.TheVariants as replies

-- the call holds a file, has read its body, and may give it another size
pub record HasFile (g : Geom) (seen : SeenValue) (p : Parts) (key : Key) (size : ℕ) (b : Body) : Type 0 where
  pub inside : key.object < items_of g Fd
  pub held : has_lock seen key.object ≡ true
  pub read : IsSome (look_of seen (place_sector g (places.Body key.object)))
  pub sees : SeesBody p key kinds.File b
  pub most : size ≤ 12288
  pub near : difference size b.count ≤ 1024
  pub differs : size ≢ b.count

both-false : (a b : Bool) → (a && b) ≡ false → a ≡ true → b ≡ false
both-false true b e t = e
both-false false b e t = absurd (false≢true t)

left-true : (a b : Bool) → (a && b) ≡ true → a ≡ true
left-true true b e = refl
left-true false b e = e

right-true : (a b : Bool) → (a && b) ≡ true → b ≡ true
right-true true b e = e
right-true false b e = absurd (false≢true e)

eq-of : (a b : ℕ) → (a == b) ≡ true → a ≡ b
eq-of a b e = grind (arith, nat_tests, e)

module _ (g : Geom) (slot : ℕ) (key : Key) (size : ℕ) (seen : SeenValue) (p : Parts) (reads : ReadsParts g (look_of seen) p) where
  abbrev call : CallOf Key
  call = Resize key size

  abbrev Good : Ask → Type 0
  Good = PlanAsks g slot call (MayHold key.object) (MayRead g key.object) seen p

  module _ (inside : key.object < items_of g Fd) (held : has_lock seen key.object ≡ true) (b : Body) (has : HasBody g seen p key.object b) where
    abbrev Alive : Body → Type 0
    Alive c = (c ≡ b) × (b.birth ≡ key.birth) × (is_some b.kind ≡ true)

    there-in : (image : List Sector) (t : FileTree) (stands : StandsFor g image t) → Agrees seen image → part_at stands.parts.bodies key.object ≡ Some b
    there-in image t stands agrees = body_in g seen p key.object image t stands inside reads agrees has.read ∙ has.there

    dead_good : ((b.birth == key.birth) && is_some b.kind) ≡ false → Good (asks.Done replies.NoObject)
    dead_good dead = record {
      block = tt;
      does = λ image t stands agrees. elim (cases_Bool (b.birth == key.birth)) [
        | inl same ↦
            resize-unused g image t stands key size b (there-in image t stands agrees)
            (none-there b.kind (both-false (b.birth == key.birth) (is_some b.kind) dead same))
        | inr other ↦ resize-other_life g image t stands key size b (there-in image t stands agrees) (grind (arith, nat_tests, other))
      ];
    }

    alive_goes : Goes Good (body_alive key b) Alive
    alive_goes =
        goes-if Good Alive ((b.birth == key.birth) && is_some b.kind) (Ok b) (Err (stops.Done endings.NoObject))
        (λ alive. (refl, eq-of b.birth key.birth (left-true (b.birth == key.birth) (is_some b.kind) alive), right-true (b.birth == key.birth) (is_some b.kind) alive))
        dead_good

    module _ (life : b.birth ≡ key.birth) where
      file-by : (kind : Option NodeKind) → b.kind ≡ kind → is_some b.kind ≡ true → Goes Good (file_by b kind) (λ c. (c ≡ b) × (b.kind ≡ Some kinds.File))
      file-by None is some = absurd (false≢true (sym (ap is_some is) ∙ some))
      file-by (Some kinds.Dir) is some = record {
        block = tt;
        does = λ image t stands agrees. resize-dir g image t stands key size b (there-in image t stands agrees) is life;
      }
      file-by (Some kinds.File) is some = (refl, is)

      module _ (file : b.kind ≡ Some kinds.File) where
        big_good : nat_lt 12288 size ≡ true → Good (asks.Done replies.TooBig)
        big_good big = record {
          block = tt;
          does = λ image t stands agrees.
              resize-too_big g image t stands key size b (there-in image t stands agrees) file life (grind (arith, nat_tests, big));
        }

        much_good : nat_lt 12288 size ≡ false → nat_lt 1024 (difference size b.count) ≡ true → Good (asks.Done replies.TooMuch)
        much_good small much = record {
          block = tt;
          does = λ image t stands agrees.
              let most : size ≤ 12288 = grind (arith, nat_tests, small) in
              resize-too_much g image t stands key size b (there-in image t stands agrees) file life most (grind (arith, nat_tests, much));
        }

        same_good : (size == b.count) ≡ true → Good (asks.Done (replies.Sized size))
        same_good same = record {
          block = tt;
          does = λ image t stands agrees. resize-same g image t stands key size b (there-in image t stands agrees) file life (eq-of size b.count same);
        }

        size_goes : Goes Good (body_to_size size b) (HasFile g seen p key size)
        size_goes =
            goes-if Good (HasFile g seen p key size) (nat_lt 12288 size) (Err (stops.Done endings.TooBig)) _ big_good
            (λ small.
            goes-if Good (HasFile g seen p key size) (nat_lt 1024 (difference size b.count)) (Err (stops.Done endings.TooMuch)) _ (much_good small)
            (λ near.
            goes-if Good (HasFile g seen p key size) (size == b.count) (Err (stops.Done (endings.Sized size))) (Ok b) same_good
            (λ other. record {
              inside = inside;
              held = held;
              read = has.read;
              sees = record { there = has.there; life = life; is_kind = file };
              most = grind (arith, nat_tests, small);
              near = grind (arith, nat_tests, near);
              differs = λ same. false≢true (sym other ∙ eq-eqb size b.count same);
            })))

    rest_goes : Goes Good (after (body_alive key b) (λ c. after (body_of_file c) (body_to_size size))) (HasFile g seen p key size)
    rest_goes =
        let Then = HasFile g seen p key size in
        goes-after Good Alive Then (body_alive key b) _ alive_goes
        (λ c alive.
        subst (λ (c : Body). Goes Good (after (body_of_file c) (body_to_size size)) Then) (sym alive.0)
        (goes-after Good (λ c. (c ≡ b) × (b.kind ≡ Some kinds.File)) Then (body_of_file b) (body_to_size size) (file-by alive.1 b.kind refl alive.2)
        (λ c file. subst (λ (c : Body). Goes Good (body_to_size size c) Then) (sym file.0) (size_goes alive.1 file.1))))

  lock_good : key.object < items_of g Fd → has_lock seen key.object ≡ false → Good (asks.Lock key.object)
  lock_good inside free = record { is_lock = inl inside; free = free; allowed = of_key key (0, omega arith, refl) inside; one = the_file }

  outside_good : nat_lt key.object (items_of g Fd) ≡ false → Good (asks.Done replies.NoObject)
  outside_good outside = record {
    block = tt;
    does = λ image t stands agrees. resize-past g image t stands key size (grind (arith, nat_tests, outside));
  }

  after-twice : (r : Result Body Stop) (f h : Body → Result Body Stop) → after (after r f) h ≡ after r (λ b. after (f b) h)
  after-twice (Ok b) f h = refl
  after-twice (Err stop) f h = refl

  abbrev next_of : Body → Result Body Stop
  next_of b = after (body_of_file b) (body_to_size size)

  held-by : key.object < items_of g Fd → (test : Bool) → has_lock seen key.object ≡ test
      → Goes Good (after (if test then after (body_seen g seen p key.object) (body_alive key) else Err (stops.Lock key.object)) next_of) (HasFile g seen p key size)
  held-by inside false free = lock_good inside free
  held-by inside true held =
      subst (λ r. Goes Good r (HasFile g seen p key size)) (sym (after-twice (body_seen g seen p key.object) (body_alive key) next_of))
      (goes-after Good (HasBody g seen p key.object) (HasFile g seen p key size) (body_seen g seen p key.object) _
      (body_goes g slot call (MayHold key.object) (MayRead g key.object) seen p reads key.object inside held of_file)
      (λ b has. rest_goes inside held b has))

  inside-by : (test : Bool) → nat_lt key.object (items_of g Fd) ≡ test
      → Goes Good (after (if test then (if has_lock seen key.object then after (body_seen g seen p key.object) (body_alive key) else Err (stops.Lock key.object))
      else Err (stops.Done endings.NoObject)) next_of) (HasFile g seen p key size)
  inside-by false outside = outside_good outside
  inside-by true inside = held-by (grind (arith, nat_tests, inside)) (has_lock seen key.object) refl

  -- the file is known, or what is asked for is good
  pub file_goes : Goes Good (file_to_size g seen p key size) (HasFile g seen p key size)
  file_goes = inside-by (nat_lt key.object (items_of g Fd)) refl
