-- One sub-block loses an entry, and another directory lists one sub-block more, which has the entry alone under its new name.
use Rattle.std.proofs.Common.{◌≡◌, ◌≢◌, ℕ, ◌<◌, ◌≤◌, inl, inr, true, false, List, [], ◌∷◌, ◌++◌, length, take, get_or, slice_get, slice_set, Some, None, IsSome, is_some, refl, sym, ap, subst, ◌∙◌, get_or-set_same, get_or-set_other, arith}
use Rattle.std.specs.Prelude.{All}
use Rattle.std.proofs.lemmas.Bool.{cases_eq, cases_lt, false≢true}
use Rattle.std.proofs.lemmas.List.{get_or_past, get_or_default, length-map, take_more_set}
use Rattle.std.proofs.lemmas.List.Elements.{All-nil, All-cons, All-append}
use Rattle.std.proofs.lemmas.Option.{get_or_from_slice_get}
use Rattle.ds_base.specs.Geometry.{items_of}
use Rattle.ds_base.specs.declared.geometry.Geom.{Geom}
use Rattle.ds_base.specs.declared.geometry.Kind.TheVariants.{Fd, Sb, Pb, Fb}
use Rattle.ds_base.specs.declared.names.Key.{Key}
use Rattle.ds_bitmap.specs.Bits.{Bitmap}
use Rattle.ds_dir.specs.declared.sub_block.Entry.{Entry}
use Rattle.ds_dir.specs.declared.sub_block.SubBlock.{SubBlock}
use Rattle.ds_fd.specs.Body.{most_count}
use Rattle.ds_fd.specs.declared.body.Body.{Body}
use Rattle.ds_image_parts.specs.Looks.{Look}
use Rattle.ds_image_parts.specs.Objects.{rooms_in, subs_of, subs_by, used_rooms}
use Rattle.ds_image_tables.specs.Owns.{Owns, IsAt, list_of}
use Rattle.ds_image_parts.specs.Parts.{Parts, part_at, AllSpelled, maps_of, bits_in}
use Rattle.ds_image_parts.specs.Readings.{ReadsParts}
use Rattle.ds_image.specs.Sound.{IsSound, sub_lists}
use Rattle.ds_image.proofs.Ownership.Listed.{bits_length}
use Rattle.ds_image_tables.proofs.Ownership.Owning.{owns-alike, owns-grown}
use Rattle.ds_image.proofs.Spelling.Sizes.{part_within, body_is}
use Rattle.ds_image.proofs.Spelling.SoundParts.{each_kind, list-is, objects-of}
use Rattle.ds_plan_laws_new.specs.Entering.{subs_in}
use Rattle.ds_plan_laws_new.specs.Puts.{IsPut}
use Rattle.ds_image.proofs.Bits.{bits-set, bits-get, all-put, bit-within}
use Rattle.ds_plan_laws_new.proofs.Listed.{listed-by, listed-in, listed-nowhere}
use Rattle.ds_plan_laws_new.proofs.Puts.{in_use}
use Rattle.ds_plan_laws_new.proofs.Rooms.{used_in, used-added}
use Rattle.ds_plan_laws_gone.specs.Moving.{ReadyToLeave, ReadyToAdd}
use Rattle.ds_plan_laws_gone.proofs.Crossing.{crossed_grown, at-second, at-others, n-elsewhere, spelled-crossed, taken-crossed, elsewhere-crossed, to-subs}
use Rattle.ds_plan_laws_gone.proofs.Kept.{KeepsObjects}
use Rattle.ds_plan_laws_gone.proofs.Moved.{MovesParts}

module _ (g : Geom) (look : Look) (p : Parts) (reads : ReadsParts g look p) (sound : IsSound p)
    (key to : Key) (dir to_dir : Body) (e fresh : Entry) (n : ℕ) (block : SubBlock) (ready : ReadyToLeave p key to dir to_dir e fresh n block)
    (m : ℕ) (grown : Body) (c : ℕ) (sub_map : Bitmap) (block' : SubBlock) (add : ReadyToAdd g p to_dir m fresh grown c sub_map block') where
  abbrev r : ℕ
  r = to.object

  abbrev q : Parts
  q = crossed_grown p c sub_map r grown n block m block'

  sub-clear : get_or (bits_in p.sb_maps) m true ≡ false
  sub-clear =
      ap (λ k. get_or (bits_in p.sb_maps) k true) (sym add.is_item)
      ∙ bits-get g look Sb p.sb_maps c add.item add.marks.before true (reads.maps Sb) (sound.maps Sb) add.marks.there
      (bit-within g look Sb p.sb_maps c add.item add.marks.before false (reads.maps Sb) add.marks.there add.marks.was)
      ∙ get_or_from_slice_get add.marks.before.used add.item false true add.marks.was

  -- the new sub-block is one of the volume, and no object lists it
  bit-there : m < length (bits_in p.sb_maps)
  bit-there = elim (cases_lt m (length (bits_in p.sb_maps))) [
    | inl within ↦ within
    | inr past ↦ absurd (false≢true (sym sub-clear ∙ get_or_past (bits_in p.sb_maps) m true past))
  ]

  pub m-item : m < items_of g Sb
  m-item = omega (arith, bit-there, bits_length g look Sb p.sb_maps (reads.maps Sb) (sound.maps Sb))

  m-within : m < length p.subs
  m-within = omega (arith, m-item, reads.subs.len)

  pub listed-by_none : (k i : ℕ) → ¬ IsAt (sub_lists p) k i m
  listed-by_none = listed-nowhere (sub_lists p) (bits_in p.sb_maps) m sound.sub_owners (get_or_default (bits_in p.sb_maps) m false true bit-there ∙ sub-clear)

  not-there : (k i x : ℕ) → slice_get (subs_of (part_at p.bodies k)) i ≡ Some x → x ≢ m
  not-there k i x at same = listed-by_none k i (listed-by p k i m (at ∙ ap Some same))

  pub subs-differ : n ≢ m
  subs-differ same = listed-by_none key.object ready.empties.place
      (subst (λ x. IsAt (sub_lists p) key.object ready.empties.place x) same
      (listed-in p key.object ready.empties.place n dir ready.in_dir.there ready.in_dir.is_dir ready.empties.listed))

  few : grown.count ≤ 96
  few = subst (λ k. grown.count ≤ most_count k) (add.adds.kind ∙ ready.lacks.is_dir) add.adds.is_body.ranges.count_to

  -- it stands behind those that the directory listed
  pub subs-grown : subs_in grown ≡ subs_in to_dir ++ m ∷ []
  subs-grown =
      let wide = (body_is g look p r to_dir reads ready.lacks.there).widths.address_count in
      ap (λ addresses. take grown.count addresses) add.adds.addresses
      ∙ ap (λ count. take count (slice_set to_dir.addresses to_dir.count m)) add.adds.count
      ∙ take_more_set to_dir.addresses to_dir.count m (omega (arith, few, add.adds.count, wide))

  r-within : r < length p.bodies
  r-within = part_within p.bodies r to_dir ready.lacks.there

  pub at-to : part_at q.bodies r ≡ Some grown
  at-to = get_or-set_same p.bodies r (Some grown) None r-within

  to-subs_before : subs_of (part_at p.bodies r) ≡ subs_in to_dir
  to-subs_before = ap subs_of ready.lacks.there ∙ ap (subs_by to_dir) ready.lacks.is_dir

  second : part_at q.subs m ≡ Some block'
  second = at-second p q sound key to dir to_dir e fresh n block ready m block' m-within subs-differ refl

  single : used_in q m ≡ fresh ∷ []
  single = ap (λ s. in_use (rooms_in s)) second ∙ ap in_use add.adds.alone

  spelled : (k : ℕ) → IsSome (part_at p.subs k) → IsSome (part_at q.subs k)
  spelled = spelled-crossed p q sound key to dir to_dir e fresh n block ready m block' m-within subs-differ refl

  entered-grown : IsPut fresh (used_rooms p (subs_in to_dir)) (used_rooms q (subs_in grown))
  entered-grown = subst (λ l. IsPut fresh (used_rooms p (subs_in to_dir)) (used_rooms q l)) (sym subs-grown)
      (used-added p q (subs_in to_dir) m fresh
      (λ i x at.
      let there = to-subs p q sound key to dir to_dir e fresh n block ready m block' m-within subs-differ refl i x at in
      at-others p q sound key to dir to_dir e fresh n block ready m block' m-within subs-differ refl x
      (n-elsewhere p q sound key to dir to_dir e fresh n block ready m block' m-within subs-differ refl r i x there (λ same. ready.apart (sym same)))
      (not-there r i x there))
      single)

  spelled-grown : All (λ x. IsSome (part_at q.subs x)) (subs_in grown)
  spelled-grown =
      let was = subst (All (λ x. IsSome (part_at p.subs x))) to-subs_before (objects-of p sound r).subs in
      let Is = λ (x : ℕ). IsSome (part_at q.subs x) in
      subst (All Is) (sym subs-grown)
      (All-append Is (subs_in to_dir) (m ∷ []) (λ i x l. spelled (get_or (subs_in to_dir) i x) (was i x l)) (All-cons Is m [] (ap is_some second) (All-nil Is)))

  sb-grown : bits_in q.sb_maps ≡ slice_set (bits_in p.sb_maps) m true
  sb-grown =
      bits-set g look Sb p.sb_maps c add.item add.marks.before sub_map true (reads.maps Sb) (sound.maps Sb) add.marks.there
      (bit-within g look Sb p.sb_maps c add.item add.marks.before false (reads.maps Sb) add.marks.there add.marks.was) add.marks.changed
      ∙ ap (λ k. slice_set (bits_in p.sb_maps) k true) add.is_item

  abbrev lists : List (List ℕ)
  lists = slice_set (sub_lists p) r (list_of (sub_lists p) r ++ m ∷ [])

  listed-before : (k : ℕ) → list_of (sub_lists p) k ≡ subs_of (part_at p.bodies k)
  listed-before = list-is subs_of p.bodies refl

  lists-grown : (k : ℕ) → list_of (sub_lists q) k ≡ list_of lists k
  lists-grown k =
      list-is subs_of q.bodies refl k
      ∙ elim (cases_eq k r) as (λ _. subs_of (part_at q.bodies k) ≡ list_of lists k) [
        | inl here ↦
            ap (λ x. subs_of (part_at q.bodies x)) here ∙ ap subs_of at-to ∙ ap (subs_by grown) (add.adds.kind ∙ ready.lacks.is_dir) ∙ subs-grown
            ∙ ap (λ l. l ++ m ∷ []) (sym (listed-before r ∙ to-subs_before))
            ∙ sym (ap (list_of lists) here ∙ get_or-set_same (sub_lists p) r (list_of (sub_lists p) r ++ m ∷ []) [] (omega (arith, length-map p.bodies subs_of, r-within)))
        | inr other ↦
            ap subs_of (get_or-set_other p.bodies r k (Some grown) None other) ∙ sym (listed-before k)
            ∙ sym (get_or-set_other (sub_lists p) r k (list_of (sub_lists p) r ++ m ∷ []) [] other)
      ]

  owners-added : Owns (sub_lists q) (bits_in q.sb_maps)
  owners-added =
      owns-alike lists (sub_lists q) (bits_in q.sb_maps) lists-grown
      (subst (Owns lists) (sym sb-grown)
      (owns-grown (sub_lists p) (bits_in p.sb_maps) r m (omega (arith, length-map p.bodies subs_of, r-within)) sub-clear sound.sub_owners))

  keeps-grown : KeepsObjects p q r to_dir grown
  keeps-grown = record {
    in_dir = record { there = ready.lacks.there; is_dir = ready.lacks.is_dir };
    bodies = refl;
    dir_kind = add.adds.kind ∙ ready.lacks.is_dir;
    dir_birth = add.adds.birth;
    spelled = spelled;
    dir_spelled = spelled-grown;
    ptrs = refl;
    maps = each_kind (λ kind. AllSpelled (maps_of q kind)) (sound.maps Fd) (all-put p.sb_maps c sub_map (sound.maps Sb)) (sound.maps Pb) (sound.maps Fb);
    fd_maps = refl;
    pb_maps = refl;
    fb_maps = refl;
    sub_owners = owners-added;
  }

  pub moves-grown : MovesParts p q key.object r dir to_dir grown e fresh
  moves-grown = record {
    keeps = keeps-grown;
    in_dir = ready.in_dir;
    apart = ready.apart;
    renamed = ready.renamed;
    absent = ready.lacks.absent;
    taken = taken-crossed p q sound key to dir to_dir e fresh n block ready m block' m-within subs-differ refl (λ k i x at other. not-there k i x at);
    entered = entered-grown;
    elsewhere = elsewhere-crossed p q sound key to dir to_dir e fresh n block ready m block' m-within subs-differ refl (λ k i x at other. not-there k i x at);
  }
