-- One sub-block loses an entry, and another directory's sub-block gets it under its new name.
use Rattle.std.proofs.Common.{◌≡◌, ◌≢◌, ℕ, ◌<◌, List, length, get_or, slice_get, slice_set, Option, Some, None, IsSome, refl, sym, ap, subst, ◌∙◌, get_or-set_same, get_or-set_other, length-set, arith}
use Rattle.std.specs.Prelude.{All}
use Rattle.std.proofs.lemmas.List.{set-get_or}
use Rattle.ds_base.specs.declared.names.Key.{Key}
use Rattle.ds_bitmap.specs.Bits.{Bitmap}
use Rattle.ds_dir.specs.declared.sub_block.Entry.{Entry}
use Rattle.ds_dir.specs.declared.sub_block.SubBlock.{SubBlock}
use Rattle.ds_fd.specs.declared.body.Body.{Body}
use Rattle.ds_image_parts.specs.Objects.{rooms_in, subs_of, subs_by, used_rooms}
use Rattle.ds_image_tables.specs.Owns.{IsAt}
use Rattle.ds_image_parts.specs.Parts.{Parts, part_at}
use Rattle.ds_image.specs.Sound.{IsSound, sub_lists}
use Rattle.ds_image.proofs.Spelling.Sizes.{part_within}
use Rattle.ds_image.proofs.Spelling.SoundParts.{objects-of}
use Rattle.ds_plan_laws_new.specs.Entering.{subs_in, FillsRoom}
use Rattle.ds_plan_laws_new.specs.Puts.{IsPut}
use Rattle.ds_plan_laws_new.proofs.Listed.{listed-by, listed-in, part-put}
use Rattle.ds_plan_laws_new.proofs.Puts.{in_use, put-room, put-room_back}
use Rattle.ds_plan_laws_new.proofs.Rooms.{used_in, used-same, used-put}
use Rattle.ds_plan_laws_gone.specs.Moving.{ReadyToLeave}
use Rattle.ds_plan_laws_gone.proofs.Kept.{KeepsObjects}
use Rattle.ds_plan_laws_gone.proofs.Moved.{MovesParts}

-- the sub-blocks with two others
abbrev pub two_subs : Parts → ℕ → SubBlock → ℕ → SubBlock → List (Option SubBlock)
two_subs p n block m block' = slice_set (slice_set p.subs n (Some block)) m (Some block')

-- the parts with two other sub-blocks
abbrev pub crossed : Parts → ℕ → SubBlock → ℕ → SubBlock → Parts
crossed p n block m block' = record p { subs = two_subs p n block m block' }

-- and with another body and a bitmap of sub-blocks
abbrev pub crossed_grown : Parts → ℕ → Bitmap → ℕ → Body → ℕ → SubBlock → ℕ → SubBlock → Parts
crossed_grown p c sub_map r grown n block m block' = record p {
  bodies = slice_set p.bodies r (Some grown);
  sb_maps = slice_set p.sb_maps c (Some sub_map);
  subs = two_subs p n block m block';
}

module _ (p q : Parts) (sound : IsSound p) (key to : Key) (dir to_dir : Body) (e fresh : Entry) (n : ℕ) (block : SubBlock)
    (ready : ReadyToLeave p key to dir to_dir e fresh n block) (m : ℕ) (block' : SubBlock) (m_within : m < length p.subs) (differ : n ≢ m)
    (subs : q.subs ≡ two_subs p n block m block') where
  abbrev d : ℕ
  d = key.object

  abbrev r : ℕ
  r = to.object

  n-within : n < length p.subs
  n-within = part_within p.subs n ready.empties.before ready.empties.there

  pub at-second : part_at q.subs m ≡ Some block'
  at-second =
      ap (λ l. part_at l m) subs
      ∙ get_or-set_same (slice_set p.subs n (Some block)) m (Some block') None (omega (arith, m_within, length-set p.subs n (Some block)))

  at-first : part_at q.subs n ≡ Some block
  at-first = ap (λ l. part_at l n) subs ∙ get_or-set_other (slice_set p.subs n (Some block)) m n (Some block') None differ ∙ get_or-set_same p.subs n (Some block) None n-within

  pub at-others : (k : ℕ) → k ≢ n → k ≢ m → part_at q.subs k ≡ part_at p.subs k
  at-others k not-n not-m =
      ap (λ l. part_at l k) subs ∙ get_or-set_other (slice_set p.subs n (Some block)) m k (Some block') None not-m ∙ get_or-set_other p.subs n k (Some block) None not-n

  pub spelled-crossed : (k : ℕ) → IsSome (part_at p.subs k) → IsSome (part_at q.subs k)
  spelled-crossed k some =
      subst (λ l. IsSome (part_at l k)) (sym subs)
      (part-put (slice_set p.subs n (Some block)) m block' (omega (arith, m_within, length-set p.subs n (Some block))) k (part-put p.subs n block n-within k some))

  pub n-listed : IsAt (sub_lists p) d ready.empties.place n
  n-listed = listed-in p d ready.empties.place n dir ready.in_dir.there ready.in_dir.is_dir ready.empties.listed

  -- the first sub-block stands nowhere else
  pub n-elsewhere : (k i x : ℕ) → slice_get (subs_of (part_at p.bodies k)) i ≡ Some x → k ≢ d → x ≢ n
  n-elsewhere k i x at other same = other (sound.sub_owners.once k i d ready.empties.place n (listed-by p k i n (at ∙ ap Some same)) n-listed).0

  n-once : (i x : ℕ) → slice_get (subs_in dir) i ≡ Some x → i ≢ ready.empties.place → x ≢ n
  n-once i x at other same =
      other (sound.sub_owners.once d i d ready.empties.place n (listed-in p d i n dir ready.in_dir.there ready.in_dir.is_dir (at ∙ ap Some same)) n-listed).1

  pub to-subs : (i x : ℕ) → slice_get (subs_in to_dir) i ≡ Some x → slice_get (subs_of (part_at p.bodies r)) i ≡ Some x
  to-subs i x at = subst (λ l. slice_get l i ≡ Some x) (sym (ap subs_of ready.lacks.there ∙ ap (subs_by to_dir) ready.lacks.is_dir)) at

  from-subs : (i x : ℕ) → slice_get (subs_in dir) i ≡ Some x → slice_get (subs_of (part_at p.bodies d)) i ≡ Some x
  from-subs i x at = subst (λ l. slice_get l i ≡ Some x) (sym (ap subs_of ready.in_dir.there ∙ ap (subs_by dir) ready.in_dir.is_dir)) at

  room-taken : IsPut e (used_in q n) (used_in p n)
  room-taken =
      subst (λ s. IsPut e (used_in q n) (in_use (rooms_in s))) (sym ready.empties.there)
      (subst (λ s. IsPut e (in_use (rooms_in s)) (in_use ready.empties.before.rooms)) (sym at-first)
      (subst (λ rooms. IsPut e (in_use rooms) (in_use ready.empties.before.rooms)) (sym ready.empties.emptied)
      (put-room_back e ready.empties.before.rooms ready.empties.room ready.empties.used)))

  -- where no directory but the other one lists the second sub-block, the entry is gone from the first, and nothing else is
  module _ (m_elsewhere : (k i x : ℕ) → slice_get (subs_of (part_at p.bodies k)) i ≡ Some x → k ≢ r → x ≢ m) where
    pub taken-crossed : IsPut e (used_rooms q (subs_in dir)) (used_rooms p (subs_in dir))
    taken-crossed = used-put q p (subs_in dir) ready.empties.place n e ready.empties.listed
        (λ i x at other. sym (at-others x (n-once i x at other) (m_elsewhere d i x (from-subs i x at) ready.apart))) room-taken

    pub elsewhere-crossed : (k : ℕ) → k ≢ d → k ≢ r → used_rooms q (subs_of (part_at p.bodies k)) ≡ used_rooms p (subs_of (part_at p.bodies k))
    elsewhere-crossed k not-d not-r = used-same p q (subs_of (part_at p.bodies k)) (λ i x at. at-others x (n-elsewhere k i x at not-d) (m_elsewhere k i x at not-r))

-- A free room of the other directory is filled

module _ (p : Parts) (sound : IsSound p) (key to : Key) (dir to_dir : Body) (e fresh : Entry) (n : ℕ) (block : SubBlock)
    (ready : ReadyToLeave p key to dir to_dir e fresh n block) (m : ℕ) (block' : SubBlock) (fills : FillsRoom p to_dir m fresh block') where
  abbrev q : Parts
  q = crossed p n block m block'

  pub m-within : m < length p.subs
  m-within = part_within p.subs m fills.before fills.there

  pub m-listed : IsAt (sub_lists p) to.object fills.place m
  m-listed = listed-in p to.object fills.place m to_dir ready.lacks.there ready.lacks.is_dir fills.listed

  m-elsewhere : (k i x : ℕ) → slice_get (subs_of (part_at p.bodies k)) i ≡ Some x → k ≢ to.object → x ≢ m
  m-elsewhere k i x at other same = other (sound.sub_owners.once k i to.object fills.place m (listed-by p k i m (at ∙ ap Some same)) m-listed).0

  m-once : (i x : ℕ) → slice_get (subs_in to_dir) i ≡ Some x → i ≢ fills.place → x ≢ m
  m-once i x at other same =
      other (sound.sub_owners.once to.object i to.object fills.place m (listed-in p to.object i m to_dir ready.lacks.there ready.lacks.is_dir (at ∙ ap Some same)) m-listed).1

  pub subs-differ : n ≢ m
  subs-differ same =
      ready.apart (sound.sub_owners.once key.object ready.empties.place to.object fills.place m
      (listed-in p key.object ready.empties.place m dir ready.in_dir.there ready.in_dir.is_dir (ready.empties.listed ∙ ap Some same)) m-listed).0

  room-entered : IsPut fresh (used_in p m) (used_in q m)
  room-entered =
      subst (λ s. IsPut fresh (in_use (rooms_in s)) (used_in q m)) (sym fills.there)
      (subst (λ s. IsPut fresh (in_use fills.before.rooms) (in_use (rooms_in s))) (sym (at-second p q sound key to dir to_dir e fresh n block ready m block' m-within subs-differ refl))
      (subst (λ rooms. IsPut fresh (in_use fills.before.rooms) (in_use rooms)) (sym fills.filled) (put-room fresh fills.before.rooms fills.room fills.free)))

  keeps-crossed : KeepsObjects p q to.object to_dir to_dir
  keeps-crossed = record {
    in_dir = record { there = ready.lacks.there; is_dir = ready.lacks.is_dir };
    bodies = sym (ap (slice_set p.bodies to.object) (sym ready.lacks.there) ∙ set-get_or p.bodies to.object None);
    dir_kind = ready.lacks.is_dir;
    dir_birth = refl;
    spelled = spelled-crossed p q sound key to dir to_dir e fresh n block ready m block' m-within subs-differ refl;
    dir_spelled =
        let was = subst (All (λ x. IsSome (part_at p.subs x))) (ap subs_of ready.lacks.there ∙ ap (subs_by to_dir) ready.lacks.is_dir) (objects-of p sound to.object).subs in
        λ i x l. spelled-crossed p q sound key to dir to_dir e fresh n block ready m block' m-within subs-differ refl (get_or (subs_in to_dir) i x) (was i x l);
    ptrs = refl;
    maps = sound.maps;
    fd_maps = refl;
    pb_maps = refl;
    fb_maps = refl;
    sub_owners = sound.sub_owners;
  }

  pub moves-crossed : MovesParts p q key.object to.object dir to_dir to_dir e fresh
  moves-crossed = record {
    keeps = keeps-crossed;
    in_dir = ready.in_dir;
    apart = ready.apart;
    renamed = ready.renamed;
    absent = ready.lacks.absent;
    taken = taken-crossed p q sound key to dir to_dir e fresh n block ready m block' m-within subs-differ refl m-elsewhere;
    entered = used-put p q (subs_in to_dir) fills.place m fresh fills.listed
        (λ i x at other. at-others p q sound key to dir to_dir e fresh n block ready m block' m-within subs-differ refl x
        (n-elsewhere p q sound key to dir to_dir e fresh n block ready m block' m-within subs-differ refl to.object i x
        (to-subs p q sound key to dir to_dir e fresh n block ready m block' m-within subs-differ refl i x at) (λ same. ready.apart (sym same)))
        (m-once i x at other)) room-entered;
    elsewhere = elsewhere-crossed p q sound key to dir to_dir e fresh n block ready m block' m-within subs-differ refl m-elsewhere;
  }
