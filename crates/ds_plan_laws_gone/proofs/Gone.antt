-- Parts of which a directory has an entry less, and the object that it named is no longer in use: what they list, and that
-- they agree.
use Rattle.std.proofs.Common.{◌≡◌, ◌≢◌, ℕ, ◌+◌, ◌<◌, Bool, true, false, inl, inr, List, [], ◌∷◌, length, map, get_or, slice_get, slice_set, Option, Some, None, IsSome, is_some, refl, sym, ap, subst, ◌∙◌, length-set, get_or-set_same, get_or-set_other, arith}
use Rattle.std.specs.Prelude.{All}
use Rattle.std.specs.FinMap as maps
use Rattle.std.proofs.lemmas.Bool.{cases_eq}
use Rattle.std.proofs.lemmas.List.{map-set, ext_get_or, length-map}
use Rattle.std.proofs.lemmas.List.Elements.{All-nil}
use Rattle.ds_base.specs.declared.geometry.Geom.{Geom}
use Rattle.ds_base.specs.declared.geometry.Kind.{Kind}
use Rattle.ds_base.specs.declared.geometry.Kind.TheVariants.{Fd, Sb, Pb, Fb}
use Rattle.ds_dir.specs.declared.sub_block.Entry.{Entry}
use Rattle.ds_fd.specs.declared.body.Body.{Body}
use Rattle.ds_tree.specs.WellFormed.{IsTree}
use Rattle.ds_image_parts.specs.Objects.{subs_by, ptrs_by, blocks_by, tail_by, subs_of, ptrs_of, blocks_of, used_rooms, is_used, tree_of}
use Rattle.ds_image_tables.specs.Owns.{Owns, bit}
use Rattle.ds_image_parts.specs.Parts.{Parts, part_at, AllSpelled, maps_of, bits_in}
use Rattle.ds_image.specs.Sound.{IsSound, IsNamedRight, AreZero, rooms_used_by}
use Rattle.ds_image.specs.SoundObjects.{AreNamesApart, IsSoundObject, IsMarked}
use Rattle.ds_image.proofs.FileTrees.EntryNames.{find-at, get-entries}
use Rattle.ds_image_tables.proofs.Ownership.Marking.{clears-one, ClearsMarks}
use Rattle.ds_image.proofs.FileTrees.NamesApart.{apart-none}
use Rattle.ds_image_tables.proofs.Spelling.Places.{at-append_right}
use Rattle.ds_image.proofs.Spelling.Sizes.{part_within}
use Rattle.ds_image.proofs.Spelling.SoundParts.{all-from_at, list-is, sound-from, objects-of}
use Rattle.ds_image.proofs.FileTrees.TreeParts.{name-from_entry}
use Rattle.ds_plan_laws_new.specs.Entering.{subs_in}
use Rattle.ds_plan_laws_new.specs.Puts.{IsPut}
use Rattle.ds_image.proofs.Bits.{all-put}
use Rattle.ds_plan_laws_new.proofs.Names.{by_name, apart-taken, absent-taken}
use Rattle.ds_plan_laws_new.proofs.NewBodies.{ListsNothing, unused-lists_nothing, blocks-same, tail-same}
use Rattle.ds_plan_laws_new.proofs.Puts.{put-kept, put-length}
use Rattle.ds_plan_laws_gone.specs.Leaving.{HasDir, EndsLife, given_up}
use Rattle.ds_plan_laws_gone.specs.Replaced.{ReplacesItems}
use Rattle.ds_plan_laws_gone.proofs.Replacing.{owns-given_all}

-- bits of which some are cleared are determined
pub clears-same : (bits : List Bool) (items : List ℕ) (a b : List Bool) → ClearsMarks bits items a → ClearsMarks bits items b → a ≡ b
clears-same bits items a b one two =
    ext_get_or false a b (one.count ∙ sym two.count)
    (λ x within. same (bit a x) (bit b x) (λ m. (two.marks x).1 ((one.marks x).0 m)) (λ m. (one.marks x).1 ((two.marks x).0 m)))
  where
    same : (p q : Bool) → (p ≡ true → q ≡ true) → (q ≡ true → p ≡ true) → p ≡ q
    same true q there back = sym (there refl)
    same false true there back = back refl
    same false false there back = refl

-- the item that was put in is there
pub put-here : {X : Type 0} (x : X) (less more : List X) → IsPut x less more → (i : ℕ) × (slice_get more i ≡ Some x)
put-here x less more put =
    (length put.front + 0, subst (λ l. slice_get l (length put.front + 0) ≡ Some x) (sym put.put_in) (at-append_right put.front (x ∷ put.back) 0 x refl))

-- the entry in the directory is gone, its object's body is another one, and the bits of its items are clear
pub record GoesFrom (p q : Parts) (d : ℕ) (dir : Body) (e : Entry) (old new : Body) : Type 0 where
  pub in_dir : HasDir p d dir
  pub ends : EndsLife p e.key.object old new
  pub bodies : q.bodies ≡ slice_set p.bodies e.key.object (Some new)
  pub put : IsPut e (used_rooms q (subs_in dir)) (used_rooms p (subs_in dir))
  pub elsewhere : (k : ℕ) → k ≢ d → used_rooms q (subs_of (part_at p.bodies k)) ≡ used_rooms p (subs_of (part_at p.bodies k))
  pub spelled : (n : ℕ) → IsSome (part_at p.subs n) → IsSome (part_at q.subs n)
  pub ptrs : q.ptrs ≡ p.ptrs
  pub maps : (kind : Kind) → AllSpelled (maps_of q kind)
  pub cleared : (kind : Kind) → ClearsMarks (bits_in (maps_of p kind)) (given_up p e.key.object old kind) (bits_in (maps_of q kind))

-- the body of each descriptor
pub data Where (p q : Parts) (o : ℕ) (new : Body) (k : ℕ) : Type 0 where
  is_gone : k ≡ o → part_at q.bodies k ≡ Some new → Where p q o new k
  is_other : k ≢ o → part_at q.bodies k ≡ part_at p.bodies k → Where p q o new k

module _ (g : Geom) (p q : Parts) (d : ℕ) (dir : Body) (e : Entry) (old new : Body) (sound : IsSound p) (goes : GoesFrom p q d dir e old new) where
  abbrev o : ℕ
  o = e.key.object

  pub o-within : o < length p.bodies
  o-within = part_within p.bodies o old goes.ends.there

  pub d-within : d < length p.bodies
  d-within = part_within p.bodies d dir goes.in_dir.there

  pub count-same : length q.bodies ≡ length p.bodies
  count-same = ap length goes.bodies ∙ length-set p.bodies o (Some new)

  pub at-gone : part_at q.bodies o ≡ Some new
  at-gone = ap (λ bs. part_at bs o) goes.bodies ∙ get_or-set_same p.bodies o (Some new) None o-within

  pub at-other : (k : ℕ) → k ≢ o → part_at q.bodies k ≡ part_at p.bodies k
  at-other k other = ap (λ bs. part_at bs k) goes.bodies ∙ get_or-set_other p.bodies o k (Some new) None other

  pub where-is : (k : ℕ) → Where p q o new k
  where-is k = elim (cases_eq k o) [
    | inl here ↦ is_gone here (ap (part_at q.bodies) here ∙ at-gone)
    | inr other ↦ is_other other (at-other k other)
  ]

  pub dir-rooms : (r : Parts) → used_rooms r (subs_of (part_at p.bodies d)) ≡ used_rooms r (subs_in dir)
  dir-rooms r = ap (λ b. used_rooms r (subs_of b)) goes.in_dir.there ∙ ap (λ kind. used_rooms r (subs_by dir kind)) goes.in_dir.is_dir

  -- the entry is in the directory, and says the life and the kind of the object
  pub entry-at : (i : ℕ) × (slice_get (rooms_used_by p d) i ≡ Some e)
  entry-at =
      let there = put-here e (used_rooms q (subs_in dir)) (used_rooms p (subs_in dir)) goes.put in
      (there.0, subst (λ l. slice_get l there.0 ≡ Some e) (sym (dir-rooms p)) there.1)

  named : IsNamedRight p e
  named = sound.entries d entry-at.0 e entry-at.1

  old-is : named.body ≡ old
  old-is = let both : Some named.body ≡ Some old = sym named.there ∙ goes.ends.there in cc

  pub old-kind : old.kind ≡ Some e.kind
  old-kind = ap (λ (b : Body). b.kind) (sym old-is) ∙ named.kind

  pub old-birth : old.birth ≡ e.key.birth
  old-birth = ap (λ (b : Body). b.birth) (sym old-is) ∙ named.birth

  -- the object isn't the directory, which has an entry
  pub apart : d ≢ o
  apart same =
      let both : Some dir ≡ Some old = sym goes.in_dir.there ∙ ap (part_at p.bodies) same ∙ goes.ends.there in
      let one : dir ≡ old = cc in
      let none : used_rooms p (subs_in dir) ≡ [] =
      ap (λ kind. used_rooms p (subs_by dir kind)) (sym goes.in_dir.is_dir) ∙ ap (λ (b : Body). used_rooms p (subs_of (Some b))) one ∙ goes.ends.bare in
      omega (arith, put-length e (used_rooms q (subs_in dir)) (used_rooms p (subs_in dir)) goes.put, ap length none)

  new-nothing : ListsNothing q new None
  new-nothing = unused-lists_nothing q new

  pub new-subs : subs_of (Some new) ≡ []
  new-subs = ap (subs_by new) goes.ends.unused ∙ new-nothing.subs

  -- the object lists nothing more, and the others what they did
  gives-all : (f f' : Option Body → List ℕ) → f None ≡ [] → f' None ≡ [] → f' (Some new) ≡ [] → ((b : Option Body) → f' b ≡ f b)
      → ReplacesItems (map f p.bodies) o [] (map f' q.bodies)
  gives-all f f' none none' new-none same = record {
    here = list-is f' q.bodies none' o ∙ ap f' at-gone ∙ new-none;
    elsewhere = λ k other. list-is f' q.bodies none' k ∙ ap f' (at-other k other) ∙ same (part_at p.bodies k) ∙ sym (list-is f p.bodies none k);
  }

  gone-owners : (f f' : Option Body → List ℕ) (bits after : List Bool) → f None ≡ [] → f' None ≡ [] → f' (Some new) ≡ [] → ((b : Option Body) → f' b ≡ f b)
      → ClearsMarks bits (f (Some old)) after → Owns (map f p.bodies) bits → Owns (map f' q.bodies) after
  gone-owners f f' bits after none none' new-none same clears owns =
      owns-given_all (map f p.bodies) (map f' q.bodies) bits after o (gives-all f f' none none' new-none same)
      (subst (λ items. ClearsMarks bits items after) (sym (list-is f p.bodies none o ∙ ap f goes.ends.there)) clears) owns

  -- one descriptor less is in use
  used-less : bits_in q.fd_maps ≡ map is_used q.bodies
  used-less =
      let before : o < length (bits_in p.fd_maps) = omega (arith, o-within, ap length sound.used, length-map p.bodies is_used) in
      clears-same (bits_in p.fd_maps) (o ∷ []) (bits_in q.fd_maps) (slice_set (bits_in p.fd_maps) o false) (goes.cleared Fd) (clears-one (bits_in p.fd_maps) o before)
      ∙ ap (λ l. slice_set l o false) sound.used
      ∙ ap (slice_set (map is_used p.bodies) o) (sym (ap is_some goes.ends.unused))
      ∙ sym (ap (map is_used) goes.bodies ∙ map-set is_used p.bodies o (Some new))

  marked-after : IsMarked q
  marked-after = record {
    used = used-less;
    sub_owners = gone-owners subs_of subs_of (bits_in p.sb_maps) (bits_in q.sb_maps) refl refl new-subs (λ b. refl) (goes.cleared Sb) sound.sub_owners;
    ptr_owners = gone-owners ptrs_of ptrs_of (bits_in p.pb_maps) (bits_in q.pb_maps) refl refl (ap (ptrs_by new) goes.ends.unused ∙ new-nothing.ptrs) (λ b. refl)
        (goes.cleared Pb) sound.ptr_owners;
    block_owners = gone-owners (blocks_of p) (blocks_of q) (bits_in p.fb_maps) (bits_in q.fb_maps) refl refl (ap (blocks_by q new) goes.ends.unused ∙ new-nothing.blocks)
        (λ b. blocks-same p q b goes.ptrs) (goes.cleared Fb) sound.block_owners;
  }

  still-named : (x : Entry) → x.key.object ≢ o → IsNamedRight p x → IsNamedRight q x
  still-named x other was = record { body = was.body; there = at-other x.key.object other ∙ was.there; birth = was.birth; kind = was.kind }

  new-after : IsSoundObject q (Some new)
  new-after = record {
    subs = subst (All (λ n. IsSome (part_at q.subs n))) (sym new-subs) (All-nil (λ n. IsSome (part_at q.subs n)));
    ptrs = subst (All (λ n. IsSome (part_at q.ptrs n))) (sym (ap (ptrs_by new) goes.ends.unused ∙ new-nothing.ptrs)) (All-nil (λ n. IsSome (part_at q.ptrs n)));
    names = subst (λ l. AreNamesApart (used_rooms q l)) (sym new-subs) apart-none;
    entries = subst (λ l. All (IsNamedRight q) (used_rooms q l)) (sym new-subs) (All-nil (IsNamedRight q));
    tails = subst AreZero (sym (ap (tail_by q new) goes.ends.unused ∙ new-nothing.tail)) (λ i. refl);
  }

  pub dir-apart : AreNamesApart (used_rooms p (subs_in dir))
  dir-apart = subst AreNamesApart (dir-rooms p) (sound.names d)

  module _ (tree : IsTree g (tree_of p)) where
    -- no other entry names the object
    only : (k i : ℕ) (x : Entry) → slice_get (rooms_used_by p k) i ≡ Some x → x.key.object ≡ o → (k ≡ d) × (x.name ≡ e.name)
    only k i x at same =
        tree.named_once.once k d x.name e.name o
        (name-from_entry p sound k i x at ∙ ap Some same)
        (name-from_entry p sound d entry-at.0 e entry-at.1)

    dir-entry : (i : ℕ) (x : Entry) → slice_get (used_rooms q (subs_in dir)) i ≡ Some x → IsNamedRight q x
    dir-entry i x at =
        let less = used_rooms q (subs_in dir) in
        let more = used_rooms p (subs_in dir) in
        let was = put-kept e less more i x goes.put at in
        let was-at : slice_get (rooms_used_by p d) was.0 ≡ Some x = subst (λ l. slice_get l was.0 ≡ Some x) (sym (dir-rooms p)) was.1 in
        still-named x (λ same.
        let name : x.name ≡ e.name = (only d was.0 x was-at same).1 in
        let there : maps.get (by_name less) e.name ≡ Some x.key.object =
        ap (maps.get (by_name less)) (sym name) ∙ get-entries less x.name ∙ find-at less (apart-taken e less more goes.put dir-apart) i x at in
        let wrong : None ≡ Some x.key.object = sym (absent-taken e less more goes.put dir-apart) ∙ there in
        absurd (cc))
        (sound.entries d was.0 x was-at)

    rooms-after : (k : ℕ) → k ≢ o → AreNamesApart (used_rooms q (subs_of (part_at p.bodies k))) × All (IsNamedRight q) (used_rooms q (subs_of (part_at p.bodies k)))
    rooms-after k past = elim (cases_eq k d) [
      | inl here ↦
          let rooms : used_rooms q (subs_of (part_at p.bodies k)) ≡ used_rooms q (subs_in dir) =
          ap (λ x. used_rooms q (subs_of (part_at p.bodies x))) here ∙ dir-rooms q in (
            subst AreNamesApart (sym rooms) (apart-taken e (used_rooms q (subs_in dir)) (used_rooms p (subs_in dir)) goes.put dir-apart),
            subst (All (IsNamedRight q)) (sym rooms) (all-from_at (IsNamedRight q) (used_rooms q (subs_in dir)) dir-entry),
          )
      | inr other ↦
          let rooms = goes.elsewhere k other in (
            subst AreNamesApart (sym rooms) (sound.names k),
            subst (All (IsNamedRight q)) (sym rooms) (all-from_at (IsNamedRight q) (rooms_used_by p k)
                (λ i x at. still-named x (λ same. other (only k i x at same).0) (sound.entries k i x at))),
          )
    ]

    other-after : (k : ℕ) → k ≢ o → IsSoundObject q (part_at p.bodies k)
    other-after k past =
        let body = part_at p.bodies k in
        let was = objects-of p sound k in
        let rooms = rooms-after k past in
        record {
          subs = λ i n l. goes.spelled (get_or (subs_of body) i n) (was.subs i n l);
          ptrs = subst (λ ptrs. All (λ n. IsSome (part_at ptrs n)) (ptrs_of body)) (sym goes.ptrs) was.ptrs;
          names = rooms.0;
          entries = rooms.1;
          tails = subst AreZero (sym (tail-same p q body goes.ptrs)) was.tails;
        }

    -- the parts agree with one another again
    pub gone-sound : IsSound q
    gone-sound =
        sound-from q
        (subst AllSpelled (sym goes.bodies) (all-put p.bodies o new sound.bodies))
        goes.maps
        (λ k. elim (where-is k) [
          | is_gone here at ↦ subst (IsSoundObject q) (sym at) new-after
          | is_other past at ↦ subst (IsSoundObject q) (sym at) (other-after k past)
        ])
        marked-after
