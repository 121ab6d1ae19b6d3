-- A directory without a free room lists one sub-block more, which has the entry of a new object alone.
use Rattle.std.proofs.Common.{◌≡◌, ◌≢◌, ℕ, ◌+◌, ◌*◌, ◌<◌, ◌≤◌, true, false, List, [], ◌∷◌, ◌++◌, length, take, get_or, slice_get, slice_set, Some, None, IsSome, is_some, refl, sym, ap, subst, ◌∙◌, get_or-set_same, get_or-set_other, inl, inr, arith}
use Rattle.std.specs.Prelude.{All}
use Rattle.std.proofs.lemmas.Bool.{cases_lt, false≢true}
use Rattle.std.proofs.lemmas.List.{get_or_past, get_or_default, length-map, take_more_set}
use Rattle.std.proofs.lemmas.List.Elements.{All-nil, All-cons, All-append}
use Rattle.std.proofs.lemmas.Option.{get_or_from_slice_get}
use Rattle.ds_base.specs.Geometry.{per_cluster, items_of}
use Rattle.ds_base.specs.declared.geometry.Geom.{Geom}
use Rattle.ds_base.specs.declared.geometry.Kind.{Kind}
use Rattle.ds_base.specs.declared.geometry.Kind.TheVariants.{Fd, Sb, Pb, Fb}
use Rattle.ds_bitmap.specs.Bits.{Bitmap}
use Rattle.ds_dir.specs.declared.sub_block.Entry.{Entry}
use Rattle.ds_dir.specs.declared.sub_block.SubBlock.{SubBlock}
use Rattle.ds_fd.specs.Body.{most_count}
use Rattle.ds_fd.specs.declared.body.Body.{Body}
use Rattle.ds_image_parts.specs.Looks.{Look}
use Rattle.ds_image_parts.specs.Objects.{rooms_in, subs_of, used_rooms}
use Rattle.ds_image_tables.specs.Owns.{Owns, IsAt, list_of}
use Rattle.ds_image_parts.specs.Parts.{Parts, part_at, AllSpelled, maps_of, bits_in}
use Rattle.ds_image_parts.specs.Readings.{ReadsParts}
use Rattle.ds_image.specs.Sound.{IsSound, sub_lists}
use Rattle.ds_image.proofs.Ownership.Listed.{bits_length}
use Rattle.ds_image_tables.proofs.Ownership.Owning.{owns-alike, owns-grown}
use Rattle.ds_image.proofs.Spelling.Sizes.{body_is}
use Rattle.ds_image.proofs.Spelling.SoundParts.{each_kind, list-is, objects-of}
use Rattle.ds_plan_laws_new.specs.Beginning.{SetsBit, Begins}
use Rattle.ds_plan_laws_new.specs.Entering.{subs_in, LacksName, AddsRooms}
use Rattle.ds_plan_laws_new.specs.Puts.{IsPut}
use Rattle.ds_image.proofs.Bits.{bits-set, bits-get, all-put, bit-within}
use Rattle.ds_plan_laws_new.proofs.Entered.{EntersBodies, EntersParts, is_new, is_dir, is_other, where-is, apart, d-within, new-subs, old-subs, dir-subs, dir-subs_after}
use Rattle.ds_plan_laws_new.proofs.Listed.{listed-by, listed-in, listed-nowhere, part-put}
use Rattle.ds_plan_laws_new.proofs.Puts.{in_use}
use Rattle.ds_plan_laws_new.specs.ChangedParts.{grown_with}
use Rattle.ds_plan_laws_new.proofs.Rooms.{used_in, used-same, used-added}

module _ (g : Geom) (look : Look) (p : Parts) (reads : ReadsParts g look p) (sound : IsSound p)
    (d o n c it c' it' : ℕ) (dir grown new : Body) (e : Entry) (map map' : Bitmap) (block : SubBlock)
    (is_item : c * per_cluster g Fd + it ≡ o) (marks : SetsBit p Fd c it true map)
    (is_sub : c' * per_cluster g Sb + it' ≡ n) (marks' : SetsBit p Sb c' it' true map') (begins : Begins p o e new)
    (lacks : LacksName p d dir e.name) (adds : AddsRooms p dir n e grown block) where
  abbrev q : Parts
  q = grown_with p c c' d o n map map' grown new block

  bodies-grown : EntersBodies p q d o dir grown new e
  bodies-grown = record {
    bodies = refl;
    begins = begins;
    lacks = lacks;
    dir_kind = adds.kind ∙ lacks.is_dir;
    dir_birth = adds.birth;
  }

  sub-clear : get_or (bits_in p.sb_maps) n true ≡ false
  sub-clear =
      ap (λ k. get_or (bits_in p.sb_maps) k true) (sym is_sub)
      ∙ bits-get g look Sb p.sb_maps c' it' marks'.before true (reads.maps Sb) (sound.maps Sb) marks'.there
      (bit-within g look Sb p.sb_maps c' it' marks'.before false (reads.maps Sb) marks'.there marks'.was)
      ∙ get_or_from_slice_get marks'.before.used it' false true marks'.was

  -- the sub-block is one of the volume, and no object lists it
  bit-there : n < length (bits_in p.sb_maps)
  bit-there = elim (cases_lt n (length (bits_in p.sb_maps))) [
    | inl within ↦ within
    | inr past ↦ absurd (false≢true (sym sub-clear ∙ get_or_past (bits_in p.sb_maps) n true past))
  ]

  pub n-item : n < items_of g Sb
  n-item = omega (arith, bit-there, bits_length g look Sb p.sb_maps (reads.maps Sb) (sound.maps Sb))

  n-within : n < length p.subs
  n-within = omega (arith, n-item, reads.subs.len)

  pub listed-by_none : (k i : ℕ) → ¬ IsAt (sub_lists p) k i n
  listed-by_none = listed-nowhere (sub_lists p) (bits_in p.sb_maps) n sound.sub_owners (get_or_default (bits_in p.sb_maps) n false true bit-there ∙ sub-clear)

  other-sub : (m : ℕ) → m ≢ n → part_at q.subs m ≡ part_at p.subs m
  other-sub m other = get_or-set_other p.subs n m (Some block) None other

  not-there : (k i m : ℕ) → slice_get (subs_of (part_at p.bodies k)) i ≡ Some m → m ≢ n
  not-there k i m at same = listed-by_none k i (listed-by p k i n (at ∙ ap Some same))

  not-in : (i m : ℕ) → slice_get (subs_in dir) i ≡ Some m → m ≢ n
  not-in i m at same = listed-by_none d i (listed-in p d i n dir lacks.there lacks.is_dir (at ∙ ap Some same))

  pub few : grown.count ≤ 96
  few = subst (λ k. grown.count ≤ most_count k) (adds.kind ∙ lacks.is_dir) adds.is_body.ranges.count_to

  -- it stands behind those that the directory listed
  pub subs-grown : subs_in grown ≡ subs_in dir ++ n ∷ []
  subs-grown =
      let wide = (body_is g look p d dir reads lacks.there).widths.address_count in
      ap (λ addresses. take grown.count addresses) adds.addresses
      ∙ ap (λ count. take count (slice_set dir.addresses dir.count n)) adds.count
      ∙ take_more_set dir.addresses dir.count n (omega (arith, few, adds.count, wide))

  block-there : part_at q.subs n ≡ Some block
  block-there = get_or-set_same p.subs n (Some block) None n-within

  single : used_in q n ≡ e ∷ []
  single = ap (λ s. in_use (rooms_in s)) block-there ∙ ap in_use adds.alone

  put-grown : IsPut e (used_rooms p (subs_in dir)) (used_rooms q (subs_in grown))
  put-grown = subst (λ l. IsPut e (used_rooms p (subs_in dir)) (used_rooms q l)) (sym subs-grown)
      (used-added p q (subs_in dir) n e (λ i m at. other-sub m (not-in i m at)) single)

  spelled-grown : All (λ m. IsSome (part_at q.subs m)) (subs_in grown)
  spelled-grown =
      let was = subst (All (λ m. IsSome (part_at p.subs m))) (ap subs_of lacks.there ∙ dir-subs p q d o dir grown new e bodies-grown) (objects-of p sound d).subs in
      let Is = λ (m : ℕ). IsSome (part_at q.subs m) in
      subst (All Is) (sym subs-grown)
      (All-append Is (subs_in dir) (n ∷ []) (λ i m l. part-put p.subs n block n-within (get_or (subs_in dir) i m) (was i m l)) (All-cons Is n [] (ap is_some block-there) (All-nil Is)))

  maps-grown : (kind : Kind) → AllSpelled (maps_of q kind)
  maps-grown = each_kind (λ kind. AllSpelled (maps_of q kind)) (all-put p.fd_maps c map (sound.maps Fd)) (all-put p.sb_maps c' map' (sound.maps Sb)) (sound.maps Pb) (sound.maps Fb)

  fd-grown : bits_in q.fd_maps ≡ slice_set (bits_in p.fd_maps) o true
  fd-grown =
      bits-set g look Fd p.fd_maps c it marks.before map true (reads.maps Fd) (sound.maps Fd) marks.there
      (bit-within g look Fd p.fd_maps c it marks.before false (reads.maps Fd) marks.there marks.was) marks.changed
      ∙ ap (λ k. slice_set (bits_in p.fd_maps) k true) is_item

  sb-grown : bits_in q.sb_maps ≡ slice_set (bits_in p.sb_maps) n true
  sb-grown =
      bits-set g look Sb p.sb_maps c' it' marks'.before map' true (reads.maps Sb) (sound.maps Sb) marks'.there
      (bit-within g look Sb p.sb_maps c' it' marks'.before false (reads.maps Sb) marks'.there marks'.was) marks'.changed
      ∙ ap (λ k. slice_set (bits_in p.sb_maps) k true) is_sub

  abbrev lists : List (List ℕ)
  lists = slice_set (sub_lists p) d (list_of (sub_lists p) d ++ n ∷ [])

  listed-before : (k : ℕ) → list_of (sub_lists p) k ≡ subs_of (part_at p.bodies k)
  listed-before = list-is subs_of p.bodies refl

  lists-grown : (k : ℕ) → list_of (sub_lists q) k ≡ list_of lists k
  lists-grown k =
      list-is subs_of q.bodies refl k
      ∙ elim (where-is p q d o dir grown new e bodies-grown k) as (λ _. subs_of (part_at q.bodies k) ≡ list_of lists k) [
        | is_new here at ↦
            ap subs_of at ∙ new-subs p q d o dir grown new e bodies-grown ∙ sym (old-subs p q d o dir grown new e bodies-grown)
            ∙ ap subs_of (sym (ap (part_at p.bodies) here ∙ bodies-grown.begins.there)) ∙ sym (listed-before k)
            ∙ sym (get_or-set_other (sub_lists p) d k (list_of (sub_lists p) d ++ n ∷ []) [] (λ same. apart p q d o dir grown new e bodies-grown (sym here ∙ same)))
        | is_dir here at ↦
            ap subs_of at ∙ dir-subs_after p q d o dir grown new e bodies-grown ∙ subs-grown
            ∙ ap (λ l. l ++ n ∷ []) (sym (listed-before d ∙ ap subs_of lacks.there ∙ dir-subs p q d o dir grown new e bodies-grown))
            ∙ sym (ap (list_of lists) here ∙ get_or-set_same (sub_lists p) d (list_of (sub_lists p) d ++ n ∷ []) [] (omega (arith, length-map p.bodies subs_of, d-within p q d o dir grown new e bodies-grown)))
        | is_other past other at ↦
            ap subs_of at ∙ sym (listed-before k) ∙ sym (get_or-set_other (sub_lists p) d k (list_of (sub_lists p) d ++ n ∷ []) [] other)
      ]

  owners-grown : Owns (sub_lists q) (bits_in q.sb_maps)
  owners-grown =
      owns-alike lists (sub_lists q) (bits_in q.sb_maps) lists-grown
      (subst (Owns lists) (sym sb-grown)
      (owns-grown (sub_lists p) (bits_in p.sb_maps) d n (omega (arith, length-map p.bodies subs_of, d-within p q d o dir grown new e bodies-grown)) sub-clear sound.sub_owners))

  pub enters-grown : EntersParts p q d o dir grown new e
  enters-grown = record {
    enters = bodies-grown;
    put = put-grown;
    elsewhere = λ k other. used-same p q (subs_of (part_at p.bodies k)) (λ i m at. other-sub m (not-there k i m at));
    spelled = part-put p.subs n block n-within;
    dir_spelled = spelled-grown;
    ptrs = refl;
    maps = maps-grown;
    fd_bits = fd-grown;
    pb_maps = refl;
    fb_maps = refl;
    sub_owners = owners-grown;
  }
