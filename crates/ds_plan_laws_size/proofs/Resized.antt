-- Parts of which a file has another size agree with one another.
use Rattle.std.proofs.Common.{◌≡◌, ◌≢◌, ℕ, ◌<◌, false, inl, inr, List, [], length, map, take, drop, slice_get, slice_set, Option, Some, None, IsSome, is_some, refl, sym, ap, subst, ◌∙◌, get_or-set_same, get_or-set_other, arith}
use Rattle.std.specs.Prelude.{All}
use Rattle.std.proofs.lemmas.Bool.{cases_eq, cases_lt}
use Rattle.std.proofs.lemmas.List.{get_or-map, map-set, set-get_or, length-map, take-append-drop}
use Rattle.std.proofs.lemmas.List.Elements.{All-nil}
use Rattle.ds_dir.specs.declared.sub_block.Entry.{Entry}
use Rattle.ds_fd.specs.declared.body.Body.{Body}
use Rattle.ds_ptr.specs.declared.ptr_block.PtrBlock.{PtrBlock}
use Rattle.ds_tree.specs.Counts.{pointer_blocks}
use Rattle.ds_image_parts.specs.Objects.{addresses_in, subs_by, ptrs_by, tail_by, subs_of, ptrs_of, blocks_of, used_rooms, is_used}
use Rattle.ds_image_tables.specs.Owns.{Owns, list_of}
use Rattle.ds_image_parts.specs.Parts.{Parts, part_at, AllSpelled, bits_in}
use Rattle.ds_image.specs.Sound.{IsSound, IsNamedRight, AreZero, sub_lists, ptr_lists, block_lists}
use Rattle.ds_image.specs.SoundObjects.{AreNamesApart, IsSoundObject, IsMarked}
use Rattle.ds_image.proofs.FileTrees.NamesApart.{apart-none}
use Rattle.ds_image_tables.proofs.Ownership.Owning.{owns-alike}
use Rattle.ds_image.proofs.Spelling.Sizes.{part_within}
use Rattle.ds_image.proofs.Spelling.SoundParts.{all-at, all-from_at, list-is, sound-from, objects-of}
use Rattle.ds_image.proofs.Bits.{all-put}
use Rattle.ds_plan_laws_new.proofs.Rooms.{used-same}
use Rattle.ds_plan_laws_size.specs.Pages.{ptrs_in, blocks_in}
use Rattle.ds_plan_laws_size.specs.Resizing.{ResizesParts, blocks_after}
use Rattle.ds_plan_laws_size.proofs.FileLists.{ptr_list-is, block_list-is}
use Rattle.ds_plan_laws_size.proofs.Paged.{few-pointers, blocks-are, tail-is_zero}
use Rattle.ds_plan_laws_size.proofs.Remarked.{owns-remarked}
use Rattle.ds_plan_laws_size.proofs.SamePointers.{blocks-stay, tail-stays}

some-full : (r : Option PtrBlock) → length (addresses_in r) ≡ 128 → IsSome r
some-full None full = absurd (omega (arith, full))
some-full (Some block) full = refl

module _ (p q : Parts) (o : ℕ) (b b' : Body) (size : ℕ) (added pointers : List ℕ) (re : ResizesParts p q o b b' size added pointers) where
  pub o-within : o < length p.bodies
  o-within = part_within p.bodies o b re.body.there

  pub at-file : part_at q.bodies o ≡ Some b'
  at-file = ap (λ bs. part_at bs o) re.bodies ∙ get_or-set_same p.bodies o (Some b') None o-within

  pub at-other : (k : ℕ) → k ≢ o → part_at q.bodies k ≡ part_at p.bodies k
  at-other k other = ap (λ bs. part_at bs k) re.bodies ∙ get_or-set_other p.bodies o k (Some b') None other

  pub blocks-after : blocks_in q b' ≡ blocks_after p b size added
  blocks-after = blocks-are b' re.body.is_body re.body.kind q (blocks_after p b size added) re.spells

  pub size-after : length (blocks_after p b size added) ≡ size
  size-after = sym re.spells.count ∙ re.body.count

  -- the pointer blocks that the file lists then are spelled
  spelled : (i n : ℕ) → slice_get (ptrs_in b') i ≡ Some n → IsSome (part_at q.ptrs n)
  spelled i n at = elim (cases_lt 96 (length (blocks_after p b size added))) [
    | inl many ↦ some-full (part_at q.ptrs n) (re.spells.paged many i n at).count
    | inr few ↦
        let none : ptrs_in b' ≡ [] = ap (λ k. take k b'.addresses) (few-pointers b'.count (omega (arith, few, re.spells.count))) in
        absurd (let nothing : slice_get [] i ≡ Some n = subst (λ l. slice_get l i ≡ Some n) none at in cc)
  ]

  -- lists that other objects have stay
  pub other-ptrs : (k : ℕ) → k ≢ o → (i n : ℕ) → slice_get (ptrs_of (part_at p.bodies k)) i ≡ Some n → part_at q.ptrs n ≡ part_at p.ptrs n
  other-ptrs k other i n at = re.others k i n other (ap (λ l. slice_get l i) (list-is ptrs_of p.bodies refl k) ∙ at)

  pub rooms-same : (subs : List ℕ) → used_rooms q subs ≡ used_rooms p subs
  rooms-same subs = used-same p q subs (λ i n at. ap (λ xs. part_at xs n) re.subs)

  no-subs : subs_of (Some b') ≡ []
  no-subs = ap (subs_by b') re.body.kind

  subs-alike : (k : ℕ) → list_of (sub_lists q) k ≡ list_of (sub_lists p) k
  subs-alike k = list-is subs_of q.bodies refl k ∙ elim (cases_eq k o) as (λ _. subs_of (part_at q.bodies k) ≡ subs_of (part_at p.bodies k)) [
    | inl here ↦ ap (λ n. subs_of (part_at q.bodies n)) here ∙ ap subs_of at-file ∙ no-subs
        ∙ sym (ap (λ n. subs_of (part_at p.bodies n)) here ∙ ap subs_of re.body.there ∙ ap (subs_by b) re.body.file)
    | inr other ↦ ap subs_of (at-other k other)
  ] ∙ sym (list-is subs_of p.bodies refl k)

  -- entries say still the life and the kind of their objects
  still-named : (x : Entry) → IsNamedRight p x → IsNamedRight q x
  still-named x named = elim (cases_eq x.key.object o) [
    | inl here ↦
        let both : Some named.body ≡ Some b = sym named.there ∙ ap (part_at p.bodies) here ∙ re.body.there in
        let one : named.body ≡ b = cc in
        record {
          body = b';
          there = ap (part_at q.bodies) here ∙ at-file;
          birth = re.body.birth ∙ ap (λ (y : Body). y.birth) (sym one) ∙ named.birth;
          kind = re.body.kind ∙ sym re.body.file ∙ ap (λ (y : Body). y.kind) (sym one) ∙ named.kind;
        }
    | inr other ↦ record { body = named.body; there = at-other x.key.object other ∙ named.there; birth = named.birth; kind = named.kind }
  ]

  used-same_bodies : map is_used q.bodies ≡ map is_used p.bodies
  used-same_bodies =
      ap (map is_used) re.bodies ∙ map-set is_used p.bodies o (Some b')
      ∙ ap (slice_set (map is_used p.bodies) o)
      (ap is_some re.body.kind ∙ sym (ap is_some re.body.file) ∙ ap is_used (sym re.body.there) ∙ sym (get_or-map is_used p.bodies o None false o-within))
      ∙ set-get_or (map is_used p.bodies) o false

  module _ (sound : IsSound p) where
    file-after : IsSoundObject q (Some b')
    file-after = record {
      subs = subst (All (λ n. IsSome (part_at q.subs n))) (sym no-subs) (All-nil (λ n. IsSome (part_at q.subs n)));
      ptrs = subst (All (λ n. IsSome (part_at q.ptrs n))) (sym (ap (ptrs_by b') re.body.kind)) (all-from_at (λ n. IsSome (part_at q.ptrs n)) (ptrs_in b') spelled);
      names = subst (λ l. AreNamesApart (used_rooms q l)) (sym no-subs) apart-none;
      entries = subst (λ l. All (IsNamedRight q) (used_rooms q l)) (sym no-subs) (All-nil (IsNamedRight q));
      tails = subst AreZero (sym (ap (tail_by q b') re.body.kind))
          (tail-is_zero b' re.body.is_body re.body.kind q (blocks_after p b size added) re.spells);
    }

    other-after : (k : ℕ) → k ≢ o → IsSoundObject q (part_at p.bodies k)
    other-after k other =
        let body = part_at p.bodies k in
        let was = objects-of p sound k in
        let rooms = rooms-same (subs_of body) in
        record {
          subs = subst (λ subs. All (λ n. IsSome (part_at subs n)) (subs_of body)) (sym re.subs) was.subs;
          ptrs = all-from_at (λ n. IsSome (part_at q.ptrs n)) (ptrs_of body)
              (λ i n at. subst (λ (r : Option PtrBlock). IsSome r) (sym (other-ptrs k other i n at)) (all-at (λ m. IsSome (part_at p.ptrs m)) (ptrs_of body) was.ptrs i n at));
          names = subst AreNamesApart (sym rooms) was.names;
          entries = subst (All (IsNamedRight q)) (sym rooms)
              (all-from_at (IsNamedRight q) (used_rooms p (subs_of body)) (λ i x at. still-named x (all-at (IsNamedRight p) (used_rooms p (subs_of body)) was.entries i x at)));
          tails = subst AreZero (sym (tail-stays p q body (other-ptrs k other))) was.tails;
        }

    ptr-owners : Owns (ptr_lists q) (bits_in q.pb_maps)
    ptr-owners =
        let n : ℕ = pointer_blocks size in
        owns-remarked (ptr_lists p) (ptr_lists q) (bits_in p.pb_maps) (bits_in q.pb_maps) o (take n (ptrs_in b)) (drop n (ptrs_in b)) pointers
        (omega (arith, o-within, length-map p.bodies ptrs_of))
        (ptr_list-is p o b re.body.there re.body.file ∙ sym (take-append-drop n (ptrs_in b)))
        (ptr_list-is q o b' at-file re.body.kind ∙ re.lists)
        (λ k other. list-is ptrs_of q.bodies refl k ∙ ap ptrs_of (at-other k other) ∙ sym (list-is ptrs_of p.bodies refl k))
        re.pointers_free re.pointer_marks sound.ptr_owners

    block-owners : Owns (block_lists q) (bits_in q.fb_maps)
    block-owners =
        owns-remarked (block_lists p) (block_lists q) (bits_in p.fb_maps) (bits_in q.fb_maps) o (take size (blocks_in p b)) (drop size (blocks_in p b)) added
        (omega (arith, o-within, length-map p.bodies (blocks_of p)))
        (block_list-is p o b re.body.there re.body.file ∙ sym (take-append-drop size (blocks_in p b)))
        (block_list-is q o b' at-file re.body.kind ∙ blocks-after)
        (λ k other. list-is (blocks_of q) q.bodies refl k ∙ ap (blocks_of q) (at-other k other) ∙ blocks-stay p q (part_at p.bodies k) (other-ptrs k other)
        ∙ sym (list-is (blocks_of p) p.bodies refl k))
        re.blocks_free re.block_marks sound.block_owners

    marked-after : IsMarked q
    marked-after = record {
      used = ap bits_in re.fd_maps ∙ sound.used ∙ sym used-same_bodies;
      sub_owners = subst (λ maps. Owns (sub_lists q) (bits_in maps)) (sym re.sb_maps)
          (owns-alike (sub_lists p) (sub_lists q) (bits_in p.sb_maps) subs-alike sound.sub_owners);
      ptr_owners = ptr-owners;
      block_owners = block-owners;
    }

    -- the parts agree with one another again
    pub resized-sound : IsSound q
    resized-sound =
        sound-from q
        (subst AllSpelled (sym re.bodies) (all-put p.bodies o b' sound.bodies))
        re.maps
        (λ k. elim (cases_eq k o) [
          | inl here ↦ subst (IsSoundObject q) (sym (ap (part_at q.bodies) here ∙ at-file)) file-after
          | inr other ↦ subst (IsSoundObject q) (sym (at-other k other)) (other-after k other)
        ])
        marked-after
