-- Parts in which entries move: the objects are the same, and one directory may list more sub-blocks than before.
use Rattle.std.proofs.Common.{◌≡◌, ◌≢◌, ℕ, ◌<◌, inl, inr, false, List, [], length, map, get_or, slice_get, slice_set, Option, Some, None, IsSome, is_some, refl, sym, ap, subst, ◌∙◌, length-set, get_or-set_same, get_or-set_other}
use Rattle.std.specs.Prelude.{All}
use Rattle.std.proofs.lemmas.Bool.{cases_eq}
use Rattle.std.proofs.lemmas.List.{get_or-map, map-set, set-get_or}
use Rattle.std.proofs.lemmas.List.Elements.{All-nil}
use Rattle.ds_base.specs.declared.geometry.Kind.{Kind}
use Rattle.ds_base.specs.declared.names.NodeKind.TheVariants as kinds
use Rattle.ds_dir.specs.declared.sub_block.Entry.{Entry}
use Rattle.ds_fd.specs.declared.body.Body.{Body}
use Rattle.ds_image_parts.specs.Objects.{subs_by, ptrs_by, blocks_by, tail_by, subs_of, ptrs_of, blocks_of, used_rooms, is_used}
use Rattle.ds_image_tables.specs.Owns.{Owns, list_of}
use Rattle.ds_image_parts.specs.Parts.{Parts, part_at, AllSpelled, maps_of, bits_in}
use Rattle.ds_image.specs.Sound.{IsSound, IsNamedRight, AreZero, sub_lists, ptr_lists, block_lists, rooms_used_by}
use Rattle.ds_image.specs.SoundObjects.{AreNamesApart, IsSoundObject, IsMarked}
use Rattle.ds_image_tables.proofs.Ownership.Owning.{owns-alike}
use Rattle.ds_image.proofs.Spelling.Sizes.{part_within}
use Rattle.ds_image.proofs.Spelling.SoundParts.{all-from_at, list-is, sound-from, objects-of}
use Rattle.ds_plan_laws_new.specs.Entering.{subs_in}
use Rattle.ds_image.proofs.Bits.{all-put}
use Rattle.ds_plan_laws_new.proofs.NewBodies.{dir-lists_none, blocks-same, tail-same}
use Rattle.ds_plan_laws_gone.specs.Leaving.{HasDir}

-- the directory d has this body in the place of that one, in the same life, and all other objects are the same
pub record KeepsObjects (p q : Parts) (d : ℕ) (dir dir' : Body) : Type 0 where
  pub in_dir : HasDir p d dir
  pub bodies : q.bodies ≡ slice_set p.bodies d (Some dir')
  pub dir_kind : dir'.kind ≡ Some kinds.Dir
  pub dir_birth : dir'.birth ≡ dir.birth
  pub spelled : (n : ℕ) → IsSome (part_at p.subs n) → IsSome (part_at q.subs n)
  pub dir_spelled : All (λ n. IsSome (part_at q.subs n)) (subs_in dir')
  pub ptrs : q.ptrs ≡ p.ptrs
  pub maps : (kind : Kind) → AllSpelled (maps_of q kind)
  pub fd_maps : q.fd_maps ≡ p.fd_maps
  pub pb_maps : q.pb_maps ≡ p.pb_maps
  pub fb_maps : q.fb_maps ≡ p.fb_maps
  pub sub_owners : Owns (sub_lists q) (bits_in q.sb_maps)

-- the entries have names of their own, and say the life and the kind of their objects before
pub record AreEntriesRight (p q : Parts) : Type 0 where
  pub names : (k : ℕ) → AreNamesApart (rooms_used_by q k)
  pub entries : (k i : ℕ) (x : Entry) → slice_get (rooms_used_by q k) i ≡ Some x → IsNamedRight p x

-- the body of each descriptor
pub data Where (p q : Parts) (d : ℕ) (dir' : Body) (k : ℕ) : Type 0 where
  is_dir : k ≡ d → part_at q.bodies k ≡ Some dir' → Where p q d dir' k
  is_other : k ≢ d → part_at q.bodies k ≡ part_at p.bodies k → Where p q d dir' k

module _ (p q : Parts) (d : ℕ) (dir dir' : Body) (keeps : KeepsObjects p q d dir dir') where
  pub d-within : d < length p.bodies
  d-within = part_within p.bodies d dir keeps.in_dir.there

  pub count-same : length q.bodies ≡ length p.bodies
  count-same = ap length keeps.bodies ∙ length-set p.bodies d (Some dir')

  pub at-dir : part_at q.bodies d ≡ Some dir'
  at-dir = ap (λ bs. part_at bs d) keeps.bodies ∙ get_or-set_same p.bodies d (Some dir') None d-within

  pub at-other : (k : ℕ) → k ≢ d → part_at q.bodies k ≡ part_at p.bodies k
  at-other k other = ap (λ bs. part_at bs k) keeps.bodies ∙ get_or-set_other p.bodies d k (Some dir') None other

  pub where-is : (k : ℕ) → Where p q d dir' k
  where-is k = elim (cases_eq k d) [
    | inl here ↦ is_dir here (ap (part_at q.bodies) here ∙ at-dir)
    | inr other ↦ is_other other (at-other k other)
  ]

  pub dir-subs_after : subs_of (Some dir') ≡ subs_in dir'
  dir-subs_after = ap (subs_by dir') keeps.dir_kind

  -- the rooms of the directory before and after, and those of the others
  pub rooms-dir_before : (r : Parts) → used_rooms r (subs_of (part_at p.bodies d)) ≡ used_rooms r (subs_in dir)
  rooms-dir_before r = ap (λ b. used_rooms r (subs_of b)) keeps.in_dir.there ∙ ap (λ kind. used_rooms r (subs_by dir kind)) keeps.in_dir.is_dir

  pub rooms-dir : rooms_used_by q d ≡ used_rooms q (subs_in dir')
  rooms-dir = ap (λ b. used_rooms q (subs_of b)) at-dir ∙ ap (used_rooms q) dir-subs_after

  pub rooms-other : (k : ℕ) → k ≢ d → rooms_used_by q k ≡ used_rooms q (subs_of (part_at p.bodies k))
  rooms-other k other = ap (λ b. used_rooms q (subs_of b)) (at-other k other)

  lists-alike : (f f' : Option Body → List ℕ) → f None ≡ [] → f' None ≡ [] → f' (Some dir') ≡ f (Some dir) → ((b : Option Body) → f' b ≡ f b)
      → (k : ℕ) → list_of (map f' q.bodies) k ≡ list_of (map f p.bodies) k
  lists-alike f f' none none' dir-same same k =
      list-is f' q.bodies none' k
      ∙ elim (where-is k) as (λ _. f' (part_at q.bodies k) ≡ f (part_at p.bodies k)) [
        | is_dir here at ↦ ap f' at ∙ dir-same ∙ ap f (sym (ap (part_at p.bodies) here ∙ keeps.in_dir.there))
        | is_other other at ↦ ap f' at ∙ same (part_at p.bodies k)
      ]
      ∙ sym (list-is f p.bodies none k)

  ptrs-alike : (k : ℕ) → list_of (ptr_lists q) k ≡ list_of (ptr_lists p) k
  ptrs-alike = lists-alike ptrs_of ptrs_of refl refl
      (ap (ptrs_by dir') keeps.dir_kind ∙ (dir-lists_none q dir').0 ∙ sym (ap (ptrs_by dir) keeps.in_dir.is_dir ∙ (dir-lists_none p dir).0)) (λ b. refl)

  blocks-alike : (k : ℕ) → list_of (block_lists q) k ≡ list_of (block_lists p) k
  blocks-alike = lists-alike (blocks_of p) (blocks_of q) refl refl
      (ap (blocks_by q dir') keeps.dir_kind ∙ (dir-lists_none q dir').1 ∙ sym (ap (blocks_by p dir) keeps.in_dir.is_dir ∙ (dir-lists_none p dir).1))
      (λ b. blocks-same p q b keeps.ptrs)

  -- just the same descriptors are in use
  used-same_bodies : map is_used q.bodies ≡ map is_used p.bodies
  used-same_bodies =
      let used-dir : is_used (Some dir') ≡ is_used (part_at p.bodies d) =
      ap is_some keeps.dir_kind ∙ sym (ap is_some keeps.in_dir.is_dir) ∙ ap is_used (sym keeps.in_dir.there) in
      ap (map is_used) keeps.bodies ∙ map-set is_used p.bodies d (Some dir')
      ∙ ap (slice_set (map is_used p.bodies) d) (used-dir ∙ sym (get_or-map is_used p.bodies d None false d-within))
      ∙ set-get_or (map is_used p.bodies) d false

  pub still-named : (x : Entry) → IsNamedRight p x → IsNamedRight q x
  still-named x named = elim (where-is x.key.object) [
    | is_dir here at ↦
        let both : Some named.body ≡ Some dir = sym named.there ∙ ap (part_at p.bodies) here ∙ keeps.in_dir.there in
        let one : named.body ≡ dir = cc in
        record {
          body = dir';
          there = at;
          birth = keeps.dir_birth ∙ ap (λ (b : Body). b.birth) (sym one) ∙ named.birth;
          kind = keeps.dir_kind ∙ sym keeps.in_dir.is_dir ∙ ap (λ (b : Body). b.kind) (sym one) ∙ named.kind;
        }
    | is_other other at ↦ record { body = named.body; there = at ∙ named.there; birth = named.birth; kind = named.kind }
  ]

  module _ (sound : IsSound p) (right : AreEntriesRight p q) where
    marked-after : IsMarked q
    marked-after = record {
      used = ap bits_in keeps.fd_maps ∙ sound.used ∙ sym used-same_bodies;
      sub_owners = keeps.sub_owners;
      ptr_owners = subst (λ maps. Owns (ptr_lists q) (bits_in maps)) (sym keeps.pb_maps) (owns-alike (ptr_lists p) (ptr_lists q) (bits_in p.pb_maps) ptrs-alike sound.ptr_owners);
      block_owners = subst (λ maps. Owns (block_lists q) (bits_in maps)) (sym keeps.fb_maps)
          (owns-alike (block_lists p) (block_lists q) (bits_in p.fb_maps) blocks-alike sound.block_owners);
    }

    entries-after : (k : ℕ) → All (IsNamedRight q) (rooms_used_by q k)
    entries-after k = all-from_at (IsNamedRight q) (rooms_used_by q k) (λ i x at. still-named x (right.entries k i x at))

    dir-after : IsSoundObject q (Some dir')
    dir-after =
        let lists = dir-lists_none q dir' in
        record {
          subs = subst (All (λ n. IsSome (part_at q.subs n))) (sym dir-subs_after) keeps.dir_spelled;
          ptrs = subst (All (λ n. IsSome (part_at q.ptrs n))) (sym (ap (ptrs_by dir') keeps.dir_kind ∙ lists.0)) (All-nil (λ n. IsSome (part_at q.ptrs n)));
          names = subst (λ b. AreNamesApart (used_rooms q (subs_of b))) at-dir (right.names d);
          entries = subst (λ b. All (IsNamedRight q) (used_rooms q (subs_of b))) at-dir (entries-after d);
          tails = subst AreZero (sym (ap (tail_by q dir') keeps.dir_kind ∙ lists.2)) (λ i. refl);
        }

    other-after : (k : ℕ) → k ≢ d → IsSoundObject q (part_at p.bodies k)
    other-after k other =
        let body = part_at p.bodies k in
        let was = objects-of p sound k in
        record {
          subs = λ i n l. keeps.spelled (get_or (subs_of body) i n) (was.subs i n l);
          ptrs = subst (λ ptrs. All (λ n. IsSome (part_at ptrs n)) (ptrs_of body)) (sym keeps.ptrs) was.ptrs;
          names = subst (λ b. AreNamesApart (used_rooms q (subs_of b))) (at-other k other) (right.names k);
          entries = subst (λ b. All (IsNamedRight q) (used_rooms q (subs_of b))) (at-other k other) (entries-after k);
          tails = subst AreZero (sym (tail-same p q body keeps.ptrs)) was.tails;
        }

    -- the parts agree with one another again
    pub kept-sound : IsSound q
    kept-sound =
        sound-from q
        (subst AllSpelled (sym keeps.bodies) (all-put p.bodies d dir' sound.bodies))
        keeps.maps
        (λ k. elim (where-is k) [
          | is_dir here at ↦ subst (IsSoundObject q) (sym at) dir-after
          | is_other other at ↦ subst (IsSoundObject q) (sym at) (other-after k other)
        ])
        marked-after
