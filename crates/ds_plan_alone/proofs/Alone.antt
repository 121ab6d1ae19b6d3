-- What is known on the way of a call that is carried out alone.
use Rattle.std.proofs.Common.{◌≡◌, ℕ, ◌+◌, ◌-◌, ◌≤◌, ◌<◌, ◌^◌, false, List, [], ◌∷◌, ◌++◌, length, slice_get, Option, Some, None, is_some, refl, sym, ap, subst, ◌∙◌, arith}
use Rattle.std.proofs.lemmas.List.{length_push}
use Rattle.std.specs.Option.{option_or}
use Rattle.ds_base.specs.Geometry.{IsGeom, items_of}
use Rattle.ds_base.specs.declared.geometry.Geom.{Geom}
use Rattle.ds_base.specs.declared.geometry.Kind.TheVariants.{Fd}
use Rattle.ds_base.specs.declared.names.Key.{Key}
use Rattle.ds_base.specs.declared.sectors.Sector.{Sector}
use Rattle.ds_image.specs.Asking.{Agrees, HasForm, IsFew, IsWorn, Keeps, Reached, Start, Locked, Given, IsRight}
use Rattle.ds_image_parts.specs.ImageValues.{IsImage}
use Rattle.ds_layout.specs.Metadata.{IsMetadata}
use Rattle.ds_image_parts.specs.Parts.{Parts, part_at}
use Rattle.ds_image.specs.Planning.{Answers, Asks, AllKeep, AllAreFew}
use Rattle.ds_image.specs.Planning.{AllGuarded}
use Rattle.ds_image_parts.specs.Readings.{ReadsParts}
use Rattle.ds_image.specs.SeenValues.{SeenValue, IsSeen, has_lock, look_of, sector_in, with_lock, with_sector}
use Rattle.ds_image.specs.Sound.{StandsFor}
use Rattle.ds_image.specs.declared.asks.Ask.{Ask}
use Rattle.ds_image.specs.declared.asks.Ask.TheVariants.{Lock, Read, Odd, Worn, Done, Change}
use Rattle.ds_image.proofs.Spelling.Sizes.{part_within}
use Rattle.ds_image.proofs.Reaching.{all-few, all-fresh, all-guarded}
use Rattle.ds_image_parts.specs.Objects.{node_by}
use Rattle.ds_image.proofs.Seeing.{sector_in-append, seen_read}
use Rattle.ds_tree.specs.CallNames.{HasNames}
use Rattle.ds_plan_base.proofs.Dirs.{body_in, object_in}
use Rattle.ds_tree.specs.Nodes.{FileTree, Object, birth_at}
use Rattle.ds_tree.specs.declared.calls.CallOf.{CallOf}
use Rattle.ds_plan_alone.specs.Courses.{IsUsedUp, HasAsked, Begun, WithLock, WithSector, EndsRight, IsCourse, IsEnd}
use Rattle.ds_plan_alone.specs.declared.courses.Asked.{Asked}
use Rattle.ds_plan_alone.specs.declared.courses.Asked.TheVariants as asked_for

-- the sector of either of two looks is the image's
either_is : (one other : Option Sector) (image : Option Sector) → ((s : Sector) → one ≡ Some s → image ≡ Some s)
    → ((s : Sector) → other ≡ Some s → image ≡ Some s) → (s : Sector) → option_or one other ≡ Some s → image ≡ Some s
either_is None other image first second s got = second s got
either_is (Some t) other image first second s got = first s got

one_is : (image : List Sector) (at k : ℕ) (s t : Sector) → slice_get image at ≡ Some s → sector_in ((at, s) ∷ []) k ≡ Some t
    → slice_get image k ≡ Some t
one_is image at k s t there got = grind (arith, there, got)

-- neither a lock nor a sector
pub is_end : (ask : Ask) → ((object : ℕ) → ask ≡ Lock object → ⊥) → ((at : ℕ) → ask ≡ Read at → ⊥) → IsEnd ask
is_end (Lock object) no_lock no_read = no_lock object refl
is_end (Read at) no_lock no_read = no_read at refl
is_end (Odd at) no_lock no_read = tt
is_end (Worn object) no_lock no_read = tt
is_end (Done reply) no_lock no_read = tt
is_end (Change redo reply) no_lock no_read = tt

module _ (g : Geom) (call : CallOf Key) (answers : Answers) (image : List Sector) where
  -- an image, and a planner that keeps the law
  pub record IsPlanned : Type 0 where
    pub is_image : IsImage g image
    pub keeps : AllKeep g call answers
    pub few : AllAreFew g answers

  -- each lock and each sector was asked for
  counted : (seen : SeenValue) (asked : List Asked) → HasAsked g answers image seen asked → length asked ≡ length seen.locks + length seen.sectors
  counted _ _ Begun = refl
  counted _ _ (WithLock seen asked object before asks) =
      omega (arith, counted seen asked before, length_push asked (asked_for.Lock object), length_push seen.locks object)
  counted _ _ (WithSector seen asked at s before asks there) =
      omega (arith, counted seen asked before, length_push asked (asked_for.Read at), length_push seen.sectors (at, s))

  -- what was read are sectors of the image
  agreed : (seen : SeenValue) (asked : List Asked) → HasAsked g answers image seen asked → Agrees seen image
  agreed _ _ Begun = λ k t got. absurd cc
  agreed _ _ (WithLock seen asked object before asks) = agreed seen asked before
  agreed _ _ (WithSector seen asked at s before asks there) = λ k t got.
      either_is (sector_in seen.sectors k) (sector_in ((at, s) ∷ []) k) (slice_get image k) (agreed seen asked before k)
      (λ u read. one_is image at k s u there read) t (sym (sector_in-append seen.sectors ((at, s) ∷ []) k) ∙ got)

  -- an answer has its form, and is right for the image
  kept : IsPlanned → (seen : SeenValue) (ask : Ask) → (asks : Asks g answers seen ask) → Keeps g call seen asks.parts ask
  kept is seen ask asks = subst (Keeps g call seen asks.parts) (sym asks.answered) (is.keeps seen asks.parts asks.reads)

  module _ (is : IsPlanned) where
    reached : (seen : SeenValue) (asked : List Asked) → HasAsked g answers image seen asked → Reached (Asks g answers) seen
    reached _ _ Begun = Start [] (omega arith)
    reached _ _ (WithLock seen asked object before asks) = Locked seen object (reached seen asked before) asks
    reached _ _ (WithSector seen asked at s before asks there) = Given seen at s (reached seen asked before) asks (is.is_image.blocks at s there)

    pub guarded : (seen : SeenValue) (asked : List Asked) → HasAsked g answers image seen asked → AllGuarded g seen
    guarded seen asked has = all-guarded g call answers is.keeps seen (reached seen asked has)

    few_of : (seen : SeenValue) (asked : List Asked) (ask : Ask) → HasAsked g answers image seen asked → Asks g answers seen ask → IsFew seen ask
    few_of seen asked ask has asks = all-few g answers is.few seen ask (reached seen asked has) asks

    -- the lists of what is held and of what was read are short
    record IsShort (seen : SeenValue) : Type 0 where
      locks : length seen.locks ≤ 24
      sectors : length seen.sectors ≤ 256

    short : (seen : SeenValue) (asked : List Asked) → HasAsked g answers image seen asked → IsShort seen
    short _ _ Begun = record { locks = omega arith; sectors = omega arith }
    short _ _ (WithLock seen asked object before asks) =
        let few = few_of seen asked (Lock object) before asks in
        record { locks = omega (arith, few.0, length_push seen.locks object); sectors = few.1 }
    short _ _ (WithSector seen asked at s before asks there) =
        let few = few_of seen asked (Read at) before asks in
        record { locks = few.0; sectors = omega (arith, few.1, length_push seen.sectors (at, s)) }

    pub most : (seen : SeenValue) (asked : List Asked) → HasAsked g answers image seen asked → length asked ≤ 280
    most seen asked has =
        let few = short seen asked has in
        omega (arith, counted seen asked has, few.locks, few.sectors)

    -- what is seen spells parts, so what a planner answers by them is asked for
    pub asks_of : (seen : SeenValue) (asked : List Asked) (ask : Ask) → HasAsked g answers image seen asked
        → ((p : Parts) → ReadsParts g (look_of seen) p → ask ≡ answers seen p) → Asks g answers seen ask
    asks_of seen asked ask has answered =
        let few = short seen asked has in
        let is_seen : IsSeen seen = record {
          few_locks = omega (arith, few.locks);
          few_sectors = few.sectors;
          blocks = λ at s got. is.is_image.blocks at s (agreed seen asked has at s got);
        } in
        let read = seen_read g seen is.is_image.is_geom is_seen in
        record { parts = read.0; reads = read.1; answered = answered read.0 read.1 }

    -- one more lock
    pub record LockStep (seen : SeenValue) (asked : List Asked) (object : ℕ) : Type 0 where
      pub fresh : has_lock seen object ≡ false
      pub room : length seen.locks < 64
      pub next : HasAsked g answers image (with_lock seen object) (asked ++ asked_for.Lock object ∷ [])
      pub more : length asked < 280
      pub less : 280 - length (asked ++ asked_for.Lock object ∷ []) < 280 - length asked

    pub lock_step : (seen : SeenValue) (asked : List Asked) (object : ℕ) → HasAsked g answers image seen asked
        → ((p : Parts) → ReadsParts g (look_of seen) p → Lock object ≡ answers seen p) → LockStep seen asked object
    lock_step seen asked object has answered =
        let asks = asks_of seen asked (Lock object) has answered in
        let few = few_of seen asked (Lock object) has asks in
        record {
          fresh = all-fresh g call answers is.keeps seen (Lock object) asks;
          room = omega (arith, few.0);
          next = WithLock seen asked object has asks;
          more = omega (arith, counted seen asked has, few.0, few.1);
          less = omega (arith, counted seen asked has, few.0, few.1, length_push asked (asked_for.Lock object));
        }

    -- one more sector
    pub record ReadStep (seen : SeenValue) (asked : List Asked) (at : ℕ) : Type 0 where
      pub metadata : IsMetadata g at
      pub fresh : look_of seen at ≡ None
      pub room : length seen.sectors < 256
      pub next : (s : Sector) → slice_get image at ≡ Some s → HasAsked g answers image (with_sector seen at s) (asked ++ asked_for.Read at ∷ [])
      pub more : length asked < 280
      pub less : 280 - length (asked ++ asked_for.Read at ∷ []) < 280 - length asked

    pub read_step : (seen : SeenValue) (asked : List Asked) (at : ℕ) → HasAsked g answers image seen asked
        → ((p : Parts) → ReadsParts g (look_of seen) p → Read at ≡ answers seen p) → ReadStep seen asked at
    read_step seen asked at has answered =
        let asks = asks_of seen asked (Read at) has answered in
        let keeps = kept is seen (Read at) asks in
        let few = few_of seen asked (Read at) has asks in
        record {
          metadata = keeps.form.metadata;
          fresh = all-fresh g call answers is.keeps seen (Read at) asks;
          room = few.1;
          next = λ s there. WithSector seen asked at s has asks there;
          more = omega (arith, counted seen asked has, few.0, few.1);
          less = omega (arith, counted seen asked has, few.0, few.1, length_push asked (asked_for.Read at));
        }

  -- a body that was seen is that of the image, and so of the tree
  used-up : (seen : SeenValue) (p : Parts) (object : ℕ) (t : FileTree) → ReadsParts g (look_of seen) p → Agrees seen image → IsWorn g call seen p object
      → StandsFor g image t → IsUsedUp t object
  used-up seen p object t reads agrees worn stands =
      let inside : object < items_of g Fd = omega (arith, part_within p.bodies object worn.body worn.there, reads.bodies.len) in
      let spelled = (reads.bodies.each object inside worn.body).0 worn.there in
      let body : part_at stands.parts.bodies object ≡ Some worn.body =
      body_in g seen p object image t stands inside reads agrees (ap is_some spelled.2.1) ∙ worn.there in
      let is = object_in g image t object (Some worn.body) stands body in
      record {
        free = ap (λ (o : Object). o.node) is ∙ ap (node_by stands.parts worn.body) worn.unused;
        last = ap (λ (o : Object). o.birth) is ∙ worn.last;
      }

  module _ (seen : SeenValue) (p : Parts) (t : FileTree) (reads : ReadsParts g (look_of seen) p) (agrees : Agrees seen image) (stands : StandsFor g image t) where
    ends : (ask : Ask) → HasForm g call seen p ask → IsRight g call seen image t ask → IsEnd ask → EndsRight g call image t ask
    ends (Lock object) form right ended = absurd ended
    ends (Read at) form right ended = absurd ended
    ends (Odd at) form right ended = right
    ends (Worn object) form right ended = (form.makes, used-up seen p object t reads agrees form stands)
    ends (Done reply) form right ended = right
    ends (Change redo reply) form right ended = record {
      u = right.u;
      stands = right.stands;
      does = right.does;
      unrefused = right.unrefused;
      changes = right.changes;
      next_life = right.next_life;
    }

  pub ends_right : IsPlanned → (asked : List Asked) (ask : Ask) → IsCourse g answers image asked ask → (t : FileTree) → StandsFor g image t
      → EndsRight g call image t ask
  ends_right is asked ask course t stands =
      let keeps = kept is course.seen ask course.answered in
      let agrees = agreed course.seen asked course.has_asked in
      ends course.seen course.answered.parts t course.answered.reads agrees stands ask keeps.form (keeps.right image t stands agrees) course.ended

-- a planner that keeps the law, for an image of its geometry
pub planned : (g h : Geom) (call : CallOf Key) (answers : Answers) (image : List Sector) → g ≡ h → IsImage h image → HasNames call
    → (IsGeom g → HasNames call → AllKeep g call answers) → (IsGeom g → HasNames call → AllAreFew g answers) → IsPlanned g call answers image
planned g h call answers image same is names keeps few =
    let is_image : IsImage g image = subst (λ k. IsImage k image) (sym same) is in
    record { is_image = is_image; keeps = keeps is_image.is_geom names; few = few is_image.is_geom names }
