-- The body of a key's directory: what is asked for before it is known, and what the tree says of it.
use Rattle.std.proofs.Common.{◌≡◌, ℕ, ◌*◌, ◌<◌, ◌==◌, ◌&&◌, Bool, true, false, nat_lt, if◌then◌else◌, List, Option, None, Some, refl, sym, ap, ◌∙◌, arith, slice_get, is_some}
use Rattle.std.specs.Prelude.{IsSome}
use Rattle.std.proofs.lemmas.Bool.{false≢true}
use Rattle.std.proofs.lemmas.Bool.Decides.{nat_tests}
use Rattle.std.proofs.lemmas.Cmp.{nat_eq_equiv}
use Rattle.std.proofs.lemmas.List.{get_or_past}
use Rattle.ds_base.specs.Geometry.{items_of}
use Rattle.ds_base.specs.declared.geometry.Geom.{Geom}
use Rattle.ds_base.specs.declared.geometry.Kind.TheVariants.{Fd}
use Rattle.ds_base.specs.declared.names.Key.{Key}
use Rattle.ds_base.specs.declared.names.NodeKind.{NodeKind}
use Rattle.ds_base.specs.declared.names.NodeKind.TheVariants as kinds
use Rattle.ds_base.specs.declared.sectors.Sector.{Sector}
use Rattle.ds_fd.specs.declared.body.Body.{Body}
use Rattle.ds_image.specs.Asking.{Agrees}
use Rattle.ds_image_parts.specs.Objects.{subs_by, blocks_by, entries_of, node_by, object_of}
use Rattle.ds_image_parts.specs.Parts.{Parts, part_at}
use Rattle.ds_image_parts.specs.Readings.{ReadsParts}
use Rattle.ds_image.specs.SeenValues.{SeenValue, has_lock, look_of}
use Rattle.ds_image.specs.Sound.{StandsFor}
use Rattle.ds_image.specs.declared.asks.Ask.{Ask}
use Rattle.ds_image.specs.declared.asks.Ask.TheVariants as asks
use Rattle.ds_image.proofs.FileTrees.TreeParts.{object-is}
use Rattle.ds_layout.specs.Places.{place_sector}
use Rattle.ds_layout.specs.declared.places.Place.TheVariants as places
use Rattle.ds_plan_base.specs.Bodies.{body_seen, body_alive, body_of_key, dir_by, body_of_dir, dir_of_key}
use Rattle.ds_plan_base.proofs.DirAsks.{DirAsks}
use Rattle.ds_plan_base.proofs.DirSeen.{HasDir}
use Rattle.ds_plan_base.proofs.Goes.{Goes}
use Rattle.ds_plan_base.proofs.Alike.{body_alike}
use Rattle.ds_plan_base.proofs.Going.{goes-after, goes-if, goes-part}
use Rattle.ds_tree.specs.Nodes.{FileTree, Node, Dir, File, Object, object_at, node_of_key}
use Rattle.ds_tree.specs.Steps.{Does}
use Rattle.ds_tree.specs.declared.calls.CallOf.{CallOf}
use Rattle.ds_tree.specs.declared.calls.TreeReply.TheVariants as replies

-- what a key names, by the object of its number
abbrev named_by : Key → Object → Option Node
named_by key x = if x.birth == key.birth then x.node else None

none-unused : (p : Parts) (b : Body) (same : Bool) (kind : Option NodeKind) → (same && is_some kind) ≡ false → (if same then node_by p b kind else None) ≡ None
none-unused p b false kind e = refl
none-unused p b true None e = refl
none-unused p b true (Some kind) e = absurd (false≢true (sym e))

none-either : (test : Bool) → ◌≡◌ {A = Option Node} (if test then None else None) None
none-either true = refl
none-either false = refl

both-true : (a b : Bool) → (a && b) ≡ true → (a ≡ true) × (b ≡ true)
both-true true b e = (refl, e)
both-true false b e = absurd (false≢true e)

some-is : {X : Type 0} (r : Option X) (x : X) → r ≡ Some x → IsSome r
some-is r x is = ap is_some is

-- the object of a number, by the parts of the image
pub object_in : (g : Geom) (image : List Sector) (t : FileTree) (object : ℕ) (r : Option Body) (stands : StandsFor g image t)
    → part_at stands.parts.bodies object ≡ r → object_at t object ≡ object_of stands.parts r
object_in g image t object r stands is =
    ap (λ (u : FileTree). object_at u object) stands.tree ∙ object-is stands.parts object ∙ ap (object_of stands.parts) is

-- the body that was read is that of the image
pub body_in : (g : Geom) (seen : SeenValue) (p : Parts) (object : ℕ) (image : List Sector) (t : FileTree) (stands : StandsFor g image t)
    → object < items_of g Fd → ReadsParts g (look_of seen) p → Agrees seen image
    → IsSome (look_of seen (place_sector g (places.Body object))) → part_at stands.parts.bodies object ≡ part_at p.bodies object
body_in g seen p object image t stands inside reads agrees read =
    let at = place_sector g (places.Body object) in
    let same : (r : Option Sector) → look_of seen at ≡ r → IsSome r → slice_get image at ≡ r =
    λ r is some. (elim r as (λ (r : Option Sector). look_of seen at ≡ r → IsSome r → slice_get image at ≡ r) [
      | None ↦ λ is some. absurd (false≢true some)
      | Some s ↦ λ is some. agrees at s is
    ]) is some in
    body_alike g (slice_get image) (look_of seen) stands.parts p object inside (same (look_of seen at) refl read) stands.reads reads

-- a directory that was seen is the directory of the tree that its key names
pub dir_in : (g : Geom) (seen : SeenValue) (p : Parts) (dir : Key) (b : Body) (image : List Sector) (t : FileTree) (stands : StandsFor g image t)
    → ReadsParts g (look_of seen) p → Agrees seen image → HasDir g seen p dir b
    → (part_at stands.parts.bodies dir.object ≡ Some b) × (object_at t dir.object ≡ record { birth = dir.birth; node = Some (Dir (entries_of stands.parts (subs_by b (Some kinds.Dir))) (4 * b.count)) })
dir_in g seen p dir b image t stands reads agrees is =
    let q = stands.parts in
    let body : part_at q.bodies dir.object ≡ Some b = body_in g seen p dir.object image t stands is.inside reads agrees is.read ∙ is.sees.there in
    let object : object_at t dir.object ≡ record { birth = b.birth; node = node_by q b b.kind } = object_in g image t dir.object (Some b) stands body in (
      body,
      object ∙ ap (λ (birth : ℕ). record { birth = birth; node = node_by q b b.kind }) is.sees.life
          ∙ ap (λ (kind : Option NodeKind). record { birth = dir.birth; node = node_by q b kind }) is.sees.is_kind,
    )

module _ (g : Geom) (call : CallOf Key) (dir : Key) (seen : SeenValue) (p : Parts) (reads : ReadsParts g (look_of seen) p)
    (missing : (image : List Sector) (t : FileTree) → StandsFor g image t → Agrees seen image → node_of_key t dir ≡ None → Does g t call replies.NoObject t)
    (no_dir : (image : List Sector) (t : FileTree) (blocks : List ℕ) → StandsFor g image t → Agrees seen image → node_of_key t dir ≡ Some (File blocks) → Does g t call replies.NotDir t) where
  abbrev Good : Ask → Type 0
  Good = DirAsks g call dir.object seen p

  -- the body is used, and in the key's life
  record IsAlive (b : Body) : Type 0 where
    inside : dir.object < items_of g Fd
    held : has_lock seen dir.object ≡ true
    read : IsSome (look_of seen (place_sector g (places.Body dir.object)))
    there : part_at p.bodies dir.object ≡ Some b
    life : (b.birth == dir.birth) ≡ true
    used : is_some b.kind ≡ true

  key_outside : nat_lt dir.object (items_of g Fd) ≡ false → Good (asks.Done replies.NoObject)
  key_outside past = record {
    block = tt;
    does = λ image t stands agrees.
        let none : part_at stands.parts.bodies dir.object ≡ None =
        get_or_past stands.parts.bodies dir.object None (grind (arith, nat_tests, past, stands.reads.bodies.len)) in
        missing image t stands agrees (ap (named_by dir) (object_in g image t dir.object None stands none) ∙ none-either (0 == dir.birth));
  }

  body_unread : dir.object < items_of g Fd → has_lock seen dir.object ≡ true → look_of seen (place_sector g (places.Body dir.object)) ≡ None
      → Good (asks.Read (place_sector g (places.Body dir.object)))
  body_unread inside held unread =
      let at = place_sector g (places.Body dir.object) in
      record {
        inside = inside;
        readable = record {
          metadata = record { place = places.Body dir.object; is_place = inside; here = refl; kept = refl };
          unread = unread;
          guarded = λ image t stands agrees. record {
            object = dir.object;
            guards = record { parts = stands.parts; reads = stands.reads; place = places.Body dir.object; is_place = inside; here = refl; guards = refl };
            held = held;
          };
        };
        one = rw nat_eq_equiv.refl refl;
      }

  body_odd : dir.object < items_of g Fd → (s : Sector) → look_of seen (place_sector g (places.Body dir.object)) ≡ Some s → part_at p.bodies dir.object ≡ None
      → Good (asks.Odd (place_sector g (places.Body dir.object)))
  body_odd inside s there none = record {
    read = some-is (look_of seen (place_sector g (places.Body dir.object))) s there;
    none = λ image t stands agrees.
        let same = body_in g seen p dir.object image t stands inside reads agrees (some-is (look_of seen (place_sector g (places.Body dir.object))) s there) in
        let some : IsSome (part_at stands.parts.bodies dir.object) = stands.sound.bodies dir.object (omega (arith, inside, stands.reads.bodies.len)) in
        false≢true (sym (ap is_some (same ∙ none)) ∙ some);
  }

  body_gone : dir.object < items_of g Fd → (s : Sector) (b : Body) → look_of seen (place_sector g (places.Body dir.object)) ≡ Some s
      → part_at p.bodies dir.object ≡ Some b → ((b.birth == dir.birth) && is_some b.kind) ≡ false → Good (asks.Done replies.NoObject)
  body_gone inside s b there is gone = record {
    block = tt;
    does = λ image t stands agrees.
        let same = body_in g seen p dir.object image t stands inside reads agrees (some-is (look_of seen (place_sector g (places.Body dir.object))) s there) in
        missing image t stands agrees (ap (named_by dir) (object_in g image t dir.object (Some b) stands (same ∙ is)) ∙ none-unused stands.parts b (b.birth == dir.birth) b.kind gone);
  }

  body_goes : Goes Good (body_of_key g seen p dir) IsAlive
  body_goes =
      let at = place_sector g (places.Body dir.object) in
      goes-if Good IsAlive (nat_lt dir.object (items_of g Fd)) _ _
      (λ below.
      let inside : dir.object < items_of g Fd = grind (arith, nat_tests, below) in
      goes-if Good IsAlive (has_lock seen dir.object) _ _
      (λ held.
      goes-after Good (λ (b : Body). (s : Sector) × (look_of seen at ≡ Some s) × (part_at p.bodies dir.object ≡ Some b)) IsAlive (body_seen g seen p dir.object) (body_alive dir)
      (goes-part Good _ at (look_of seen at) (part_at p.bodies dir.object) (body_unread inside held) (body_odd inside) (λ s b there is. (s, there, is)))
      (λ b is.
      goes-if Good IsAlive ((b.birth == dir.birth) && is_some b.kind) _ _
      (λ alive. record {
        inside = inside;
        held = held;
        read = some-is (look_of seen at) is.0 is.1;
        there = is.2;
        life = (both-true (b.birth == dir.birth) (is_some b.kind) alive).0;
        used = (both-true (b.birth == dir.birth) (is_some b.kind) alive).1;
      })
      (λ gone. body_gone inside is.0 b is.1 is.2 gone)))
      (λ free. (refl, inside, free)))
      key_outside

  is_file : (b : Body) → IsAlive b → b.kind ≡ Some kinds.File → Good (asks.Done replies.NotDir)
  is_file b is kind = record {
    block = tt;
    does = λ image t stands agrees.
        let q = stands.parts in
        let body : part_at q.bodies dir.object ≡ Some b = body_in g seen p dir.object image t stands is.inside reads agrees is.read ∙ is.there in
        no_dir image t (blocks_by q b (Some kinds.File)) stands agrees
        (ap (named_by dir) (object_in g image t dir.object (Some b) stands body) ∙ ap (λ test. if test then node_by q b b.kind else None) is.life ∙ ap (node_by q b) kind);
  }

  dir_by-goes : (b : Body) (kind : Option NodeKind) → b.kind ≡ kind → IsAlive b → Goes Good (dir_by b kind) (HasDir g seen p dir)
  dir_by-goes b None kind is = absurd (false≢true (sym (ap is_some kind) ∙ is.used))
  dir_by-goes b (Some kinds.File) kind is = is_file b is kind
  dir_by-goes b (Some kinds.Dir) kind is = record {
    inside = is.inside;
    held = is.held;
    read = is.read;
    sees = record { there = is.there; life = grind (arith, nat_tests, is.life); is_kind = kind };
  }

  -- the directory is known, or what is asked for is good
  pub dir_goes_in : Goes Good (dir_of_key g seen p dir) (HasDir g seen p dir)
  dir_goes_in = goes-after Good IsAlive (HasDir g seen p dir) (body_of_key g seen p dir) body_of_dir body_goes (λ b is. dir_by-goes b b.kind refl is)

-- where a call is refused for its directory in every tree, and not only in those whose image agrees
pub dir_goes : (g : Geom) (call : CallOf Key) (dir : Key) (seen : SeenValue) (p : Parts) → ReadsParts g (look_of seen) p
    → ((t : FileTree) → node_of_key t dir ≡ None → Does g t call replies.NoObject t)
    → ((t : FileTree) (blocks : List ℕ) → node_of_key t dir ≡ Some (File blocks) → Does g t call replies.NotDir t)
    → Goes (DirAsks g call dir.object seen p) (dir_of_key g seen p dir) (HasDir g seen p dir)
dir_goes g call dir seen p reads missing no_dir =
    dir_goes_in g call dir seen p reads (λ image t stands agrees. missing t) (λ image t blocks stands agrees. no_dir t blocks)
