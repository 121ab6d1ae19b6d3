-- Parts of which a directory has an entry more, and the object that it names is new: what they list, and that they agree.
use Rattle.std.proofs.Common.{◌≡◌, ◌≢◌, ℕ, ◌<◌, true, false, inl, inr, List, [], length, map, get_or, slice_get, slice_set, Option, Some, None, IsSome, is_some, refl, sym, ap, subst, ◌∙◌, length-set, get_or-set_same, get_or-set_other, arith}
use Rattle.std.specs.Prelude.{All}
use Rattle.std.proofs.lemmas.Bool.{cases_eq}
use Rattle.std.proofs.lemmas.List.{get_or-map, map-set, set-get_or}
use Rattle.std.proofs.lemmas.List.Elements.{All-nil}
use Rattle.ds_base.specs.declared.geometry.Kind.{Kind}
use Rattle.ds_base.specs.declared.names.NodeKind.TheVariants as kinds
use Rattle.ds_dir.specs.declared.sub_block.Entry.{Entry}
use Rattle.ds_fd.specs.declared.body.Body.{Body}
use Rattle.ds_image_parts.specs.Objects.{subs_by, ptrs_by, blocks_by, subs_of, ptrs_of, blocks_of, tail_by, used_rooms, is_used}
use Rattle.ds_image_tables.specs.Owns.{Owns, list_of}
use Rattle.ds_image_parts.specs.Parts.{Parts, part_at, AllSpelled, maps_of, bits_in}
use Rattle.ds_image.specs.Sound.{IsSound, IsNamedRight, AreZero, sub_lists, ptr_lists, block_lists}
use Rattle.ds_image.specs.SoundObjects.{AreNamesApart, IsSoundObject, IsMarked}
use Rattle.ds_image.proofs.FileTrees.NamesApart.{apart-none}
use Rattle.ds_image_tables.proofs.Ownership.Owning.{owns-alike}
use Rattle.ds_image.proofs.Spelling.Sizes.{part_within}
use Rattle.ds_image.proofs.Spelling.SoundParts.{all-at, all-from_at, list-is, sound-from, objects-of}
use Rattle.ds_plan_laws_new.specs.Beginning.{Begins}
use Rattle.ds_plan_laws_new.specs.Entering.{subs_in, LacksName}
use Rattle.ds_plan_laws_new.specs.Puts.{IsPut}
use Rattle.ds_image.proofs.Bits.{all-put}
use Rattle.ds_plan_laws_new.proofs.Names.{apart-put}
use Rattle.ds_plan_laws_new.proofs.NewBodies.{ListsNothing, unused-lists_nothing, empty-lists_nothing, dir-lists_none, blocks-same, tail-same}
use Rattle.ds_plan_laws_new.proofs.Puts.{put-at}

-- the directory d has another body, and descriptor o a first one of its next life
pub record EntersBodies (p q : Parts) (d o : ℕ) (dir dir' new : Body) (e : Entry) : Type 0 where
  pub bodies : q.bodies ≡ slice_set (slice_set p.bodies d (Some dir')) o (Some new)
  pub begins : Begins p o e new
  pub lacks : LacksName p d dir e.name
  pub dir_kind : dir'.kind ≡ Some kinds.Dir
  pub dir_birth : dir'.birth ≡ dir.birth

-- the body of each descriptor
pub data Where (p q : Parts) (d o : ℕ) (dir' new : Body) (k : ℕ) : Type 0 where
  is_new : k ≡ o → part_at q.bodies k ≡ Some new → Where p q d o dir' new k
  is_dir : k ≡ d → part_at q.bodies k ≡ Some dir' → Where p q d o dir' new k
  is_other : k ≢ o → k ≢ d → part_at q.bodies k ≡ part_at p.bodies k → Where p q d o dir' new k

module _ (p q : Parts) (d o : ℕ) (dir dir' new : Body) (e : Entry) (en : EntersBodies p q d o dir dir' new e) where
  pub apart : o ≢ d
  apart same =
      let both : Some en.begins.before ≡ Some dir = sym en.begins.there ∙ ap (part_at p.bodies) same ∙ en.lacks.there in
      let one : en.begins.before ≡ dir = cc in
      let wrong : None ≡ Some kinds.Dir = sym en.begins.unused ∙ ap (λ (b : Body). b.kind) one ∙ en.lacks.is_dir in
      absurd (cc)

  pub d-within : d < length p.bodies
  d-within = part_within p.bodies d dir en.lacks.there

  pub o-within : o < length p.bodies
  o-within = part_within p.bodies o en.begins.before en.begins.there

  pub count-same : length q.bodies ≡ length p.bodies
  count-same = ap length en.bodies ∙ length-set (slice_set p.bodies d (Some dir')) o (Some new) ∙ length-set p.bodies d (Some dir')

  pub at-new : part_at q.bodies o ≡ Some new
  at-new =
      ap (λ bs. part_at bs o) en.bodies
      ∙ get_or-set_same (slice_set p.bodies d (Some dir')) o (Some new) None (omega (arith, o-within, length-set p.bodies d (Some dir')))

  at-past : (k : ℕ) → k ≢ o → part_at q.bodies k ≡ part_at (slice_set p.bodies d (Some dir')) k
  at-past k other = ap (λ bs. part_at bs k) en.bodies ∙ get_or-set_other (slice_set p.bodies d (Some dir')) o k (Some new) None other

  pub at-dir : part_at q.bodies d ≡ Some dir'
  at-dir = at-past d (λ same. apart (sym same)) ∙ get_or-set_same p.bodies d (Some dir') None d-within

  pub where-is : (k : ℕ) → Where p q d o dir' new k
  where-is k = elim (cases_eq k o) [
    | inl here ↦ is_new here (ap (part_at q.bodies) here ∙ at-new)
    | inr past ↦ elim (cases_eq k d) [
      | inl here ↦ is_dir here (ap (part_at q.bodies) here ∙ at-dir)
      | inr other ↦ is_other past other (at-past k past ∙ get_or-set_other p.bodies d k (Some dir') None other)
    ]
  ]

  -- lists that are the same at the directory, at the new object, and wherever the body is the same
  pub lists-alike : (f f' : Option Body → List ℕ) → f None ≡ [] → f' None ≡ [] → f' (Some new) ≡ f (Some en.begins.before)
      → f' (Some dir') ≡ f (Some dir) → ((b : Option Body) → f' b ≡ f b) → (k : ℕ) → list_of (map f' q.bodies) k ≡ list_of (map f p.bodies) k
  lists-alike f f' none none' new-same dir-same same k =
      list-is f' q.bodies none' k
      ∙ elim (where-is k) as (λ _. f' (part_at q.bodies k) ≡ f (part_at p.bodies k)) [
        | is_new here at ↦ ap f' at ∙ new-same ∙ ap f (sym (ap (part_at p.bodies) here ∙ en.begins.there))
        | is_dir here at ↦ ap f' at ∙ dir-same ∙ ap f (sym (ap (part_at p.bodies) here ∙ en.lacks.there))
        | is_other past other at ↦ ap f' at ∙ same (part_at p.bodies k)
      ]
      ∙ sym (list-is f p.bodies none k)

  new-nothing : ListsNothing q new (Some e.kind)
  new-nothing = empty-lists_nothing q new e.kind en.begins.empty

  old-nothing : ListsNothing p en.begins.before None
  old-nothing = unused-lists_nothing p en.begins.before

  pub new-subs : subs_of (Some new) ≡ []
  new-subs = ap (subs_by new) en.begins.kind ∙ new-nothing.subs

  pub old-subs : subs_of (Some en.begins.before) ≡ []
  old-subs = ap (subs_by en.begins.before) en.begins.unused ∙ old-nothing.subs

  pub dir-subs : subs_of (Some dir) ≡ subs_in dir
  dir-subs = ap (subs_by dir) en.lacks.is_dir

  pub dir-subs_after : subs_of (Some dir') ≡ subs_in dir'
  dir-subs_after = ap (subs_by dir') en.dir_kind

  -- who lists pointer blocks and blocks stays the same
  pub ptrs-alike : (k : ℕ) → list_of (ptr_lists q) k ≡ list_of (ptr_lists p) k
  ptrs-alike = lists-alike ptrs_of ptrs_of refl refl
      (ap (ptrs_by new) en.begins.kind ∙ new-nothing.ptrs ∙ sym (ap (ptrs_by en.begins.before) en.begins.unused ∙ old-nothing.ptrs))
      (ap (ptrs_by dir') en.dir_kind ∙ (dir-lists_none q dir').0 ∙ sym (ap (ptrs_by dir) en.lacks.is_dir ∙ (dir-lists_none p dir).0))
      (λ b. refl)

  pub blocks-alike : q.ptrs ≡ p.ptrs → (k : ℕ) → list_of (block_lists q) k ≡ list_of (block_lists p) k
  blocks-alike ptrs = lists-alike (blocks_of p) (blocks_of q) refl refl
      (ap (blocks_by q new) en.begins.kind ∙ new-nothing.blocks ∙ sym (ap (blocks_by p en.begins.before) en.begins.unused ∙ old-nothing.blocks))
      (ap (blocks_by q dir') en.dir_kind ∙ (dir-lists_none q dir').1 ∙ sym (ap (blocks_by p dir) en.lacks.is_dir ∙ (dir-lists_none p dir).1))
      (λ b. blocks-same p q b ptrs)

  -- one more descriptor is in use
  pub used-more : map is_used q.bodies ≡ slice_set (map is_used p.bodies) o true
  used-more =
      let used-new : is_used (Some new) ≡ true = ap is_some en.begins.kind in
      let used-dir : is_used (Some dir') ≡ is_used (part_at p.bodies d) = ap is_some en.dir_kind ∙ sym (ap is_some en.lacks.is_dir) ∙ ap is_used (sym en.lacks.there) in
      let dirs : map is_used (slice_set p.bodies d (Some dir')) ≡ map is_used p.bodies =
      map-set is_used p.bodies d (Some dir')
      ∙ ap (slice_set (map is_used p.bodies) d) (used-dir ∙ sym (get_or-map is_used p.bodies d None false d-within))
      ∙ set-get_or (map is_used p.bodies) d false in
      ap (map is_used) en.bodies ∙ map-set is_used (slice_set p.bodies d (Some dir')) o (Some new)
      ∙ ap (λ l. slice_set l o (is_used (Some new))) dirs
      ∙ ap (slice_set (map is_used p.bodies) o) used-new

  -- entries say still the life and the kind of their objects
  pub still-named : (x : Entry) → IsNamedRight p x → IsNamedRight q x
  still-named x named = elim (where-is x.key.object) [
    | is_new here at ↦
        let both : Some named.body ≡ Some en.begins.before = sym named.there ∙ ap (part_at p.bodies) here ∙ en.begins.there in
        let one : named.body ≡ en.begins.before = cc in
        let wrong : Some x.kind ≡ None = sym named.kind ∙ ap (λ (b : Body). b.kind) one ∙ en.begins.unused in
        absurd (cc)
    | is_dir here at ↦
        let both : Some named.body ≡ Some dir = sym named.there ∙ ap (part_at p.bodies) here ∙ en.lacks.there in
        let one : named.body ≡ dir = cc in
        record {
          body = dir';
          there = at;
          birth = en.dir_birth ∙ ap (λ (b : Body). b.birth) (sym one) ∙ named.birth;
          kind = en.dir_kind ∙ sym en.lacks.is_dir ∙ ap (λ (b : Body). b.kind) (sym one) ∙ named.kind;
        }
    | is_other past other at ↦ record { body = named.body; there = at ∙ named.there; birth = named.birth; kind = named.kind }
  ]

  pub new-named : IsNamedRight q e
  new-named = record {
    body = new;
    there = ap (part_at q.bodies) en.begins.named_object ∙ at-new;
    birth = sym en.begins.named_birth;
    kind = en.begins.kind;
  }

-- and the rooms, the other parts and the bits are so too
pub record EntersParts (p q : Parts) (d o : ℕ) (dir dir' new : Body) (e : Entry) : Type 0 where
  pub enters : EntersBodies p q d o dir dir' new e
  pub put : IsPut e (used_rooms p (subs_in dir)) (used_rooms q (subs_in dir'))
  pub elsewhere : (k : ℕ) → k ≢ d → used_rooms q (subs_of (part_at p.bodies k)) ≡ used_rooms p (subs_of (part_at p.bodies k))
  pub spelled : (n : ℕ) → IsSome (part_at p.subs n) → IsSome (part_at q.subs n)
  pub dir_spelled : All (λ n. IsSome (part_at q.subs n)) (subs_in dir')
  pub ptrs : q.ptrs ≡ p.ptrs
  pub maps : (kind : Kind) → AllSpelled (maps_of q kind)
  pub fd_bits : bits_in q.fd_maps ≡ slice_set (bits_in p.fd_maps) o true
  pub pb_maps : q.pb_maps ≡ p.pb_maps
  pub fb_maps : q.fb_maps ≡ p.fb_maps
  pub sub_owners : Owns (sub_lists q) (bits_in q.sb_maps)

module _ (p q : Parts) (d o : ℕ) (dir dir' new : Body) (e : Entry) (sound : IsSound p) (en : EntersParts p q d o dir dir' new e) where
  in-bodies : EntersBodies p q d o dir dir' new e
  in-bodies = en.enters

  dir-sound : IsSoundObject p (Some dir)
  dir-sound = subst (IsSoundObject p) in-bodies.lacks.there (objects-of p sound d)

  dir-apart : AreNamesApart (used_rooms p (subs_in dir))
  dir-apart = subst (λ l. AreNamesApart (used_rooms p l)) (dir-subs p q d o dir dir' new e in-bodies) dir-sound.names

  dir-named : All (IsNamedRight p) (used_rooms p (subs_in dir))
  dir-named = subst (λ l. All (IsNamedRight p) (used_rooms p l)) (dir-subs p q d o dir dir' new e in-bodies) dir-sound.entries

  new-after : IsSoundObject q (Some new)
  new-after =
      let nothing = new-subs p q d o dir dir' new e in-bodies in
      let lists = empty-lists_nothing q new e.kind in-bodies.begins.empty in
      record {
        subs = subst (All (λ n. IsSome (part_at q.subs n))) (sym nothing) (All-nil (λ n. IsSome (part_at q.subs n)));
        ptrs = subst (All (λ n. IsSome (part_at q.ptrs n))) (sym (ap (ptrs_by new) in-bodies.begins.kind ∙ lists.ptrs)) (All-nil (λ n. IsSome (part_at q.ptrs n)));
        names = subst (λ l. AreNamesApart (used_rooms q l)) (sym nothing) apart-none;
        entries = subst (λ l. All (IsNamedRight q) (used_rooms q l)) (sym nothing) (All-nil (IsNamedRight q));
        tails = subst AreZero (sym (ap (tail_by q new) in-bodies.begins.kind ∙ lists.tail)) (λ i. refl);
      }

  dir-after : IsSoundObject q (Some dir')
  dir-after =
      let subs = dir-subs_after p q d o dir dir' new e in-bodies in
      let lists = dir-lists_none q dir' in
      record {
        subs = subst (All (λ n. IsSome (part_at q.subs n))) (sym subs) en.dir_spelled;
        ptrs = subst (All (λ n. IsSome (part_at q.ptrs n))) (sym (ap (ptrs_by dir') in-bodies.dir_kind ∙ lists.0)) (All-nil (λ n. IsSome (part_at q.ptrs n)));
        names = subst (λ l. AreNamesApart (used_rooms q l)) (sym subs)
            (apart-put e (used_rooms p (subs_in dir)) (used_rooms q (subs_in dir')) en.put in-bodies.lacks.absent dir-apart);
        entries = subst (λ l. All (IsNamedRight q) (used_rooms q l)) (sym subs) (all-from_at (IsNamedRight q) (used_rooms q (subs_in dir')) named);
        tails = subst AreZero (sym (ap (tail_by q dir') in-bodies.dir_kind ∙ lists.2)) (λ i. refl);
      }
    where
      named : (i : ℕ) (x : Entry) → slice_get (used_rooms q (subs_in dir')) i ≡ Some x → IsNamedRight q x
      named i x at = elim (put-at e (used_rooms p (subs_in dir)) (used_rooms q (subs_in dir')) i x en.put at) [
        | inl fresh ↦ subst (IsNamedRight q) (sym fresh) (new-named p q d o dir dir' new e in-bodies)
        | inr old ↦ still-named p q d o dir dir' new e in-bodies x (all-at (IsNamedRight p) (used_rooms p (subs_in dir)) dir-named old.0 x old.1)
      ]

  other-after : (k : ℕ) → k ≢ d → IsSoundObject q (part_at p.bodies k)
  other-after k other =
      let body = part_at p.bodies k in
      let was = objects-of p sound k in
      let rooms = en.elsewhere k other in
      record {
        subs = λ i n l. en.spelled (get_or (subs_of body) i n) (was.subs i n l);
        ptrs = subst (λ ptrs. All (λ n. IsSome (part_at ptrs n)) (ptrs_of body)) (sym en.ptrs) was.ptrs;
        names = subst AreNamesApart (sym rooms) was.names;
        entries = subst (All (IsNamedRight q)) (sym rooms) (λ i x l. still-named p q d o dir dir' new e in-bodies (get_or (used_rooms p (subs_of body)) i x) (was.entries i x l));
        tails = subst AreZero (sym (tail-same p q body en.ptrs)) was.tails;
      }

  marked-after : IsMarked q
  marked-after = record {
    used = en.fd_bits ∙ ap (λ l. slice_set l o true) sound.used ∙ sym (used-more p q d o dir dir' new e in-bodies);
    sub_owners = en.sub_owners;
    ptr_owners = subst (λ maps. Owns (ptr_lists q) (bits_in maps)) (sym en.pb_maps)
        (owns-alike (ptr_lists p) (ptr_lists q) (bits_in p.pb_maps) (ptrs-alike p q d o dir dir' new e in-bodies) sound.ptr_owners);
    block_owners = subst (λ maps. Owns (block_lists q) (bits_in maps)) (sym en.fb_maps)
        (owns-alike (block_lists p) (block_lists q) (bits_in p.fb_maps) (blocks-alike p q d o dir dir' new e in-bodies en.ptrs) sound.block_owners);
  }

  -- the parts agree with one another again
  pub entered-sound : IsSound q
  entered-sound =
      sound-from q
      (subst AllSpelled (sym in-bodies.bodies) (all-put (slice_set p.bodies d (Some dir')) o new (all-put p.bodies d dir' sound.bodies)))
      en.maps
      (λ k. elim (where-is p q d o dir dir' new e in-bodies k) [
        | is_new here at ↦ subst (IsSoundObject q) (sym at) new-after
        | is_dir here at ↦ subst (IsSoundObject q) (sym at) dir-after
        | is_other past other at ↦ subst (IsSoundObject q) (sym at) (other-after k other)
      ])
      marked-after
