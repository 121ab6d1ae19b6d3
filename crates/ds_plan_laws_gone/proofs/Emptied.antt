-- A room of a directory is emptied, and the object that its entry named ends its life.
use Rattle.std.proofs.Common.{◌≡◌, ◌≢◌, ℕ, ◌<◌, inl, inr, List, length, slice_get, slice_set, Option, Some, None, IsSome, refl, sym, ap, subst, ◌∙◌, length-set, get_or, get_or-set_same, get_or-set_other, arith}
use Rattle.std.specs.Prelude.{All}
use Rattle.std.proofs.lemmas.Bool.{cases_eq}
use Rattle.ds_base.specs.Geometry.{IsGeom}
use Rattle.ds_base.specs.declared.geometry.Geom.{Geom}
use Rattle.ds_base.specs.declared.geometry.Kind.{Kind}
use Rattle.ds_base.specs.declared.geometry.Kind.TheVariants.{Fd, Sb, Pb, Fb}
use Rattle.ds_base.specs.declared.names.Key.{Key}
use Rattle.ds_base.specs.declared.sectors.Sector.{Sector}
use Rattle.ds_dir.specs.SubBlock.{IsEntry, IsRoom, IsSubBlock}
use Rattle.ds_dir.specs.declared.sub_block.Entry.{Entry}
use Rattle.ds_dir.specs.declared.sub_block.SubBlock.{SubBlock}
use Rattle.ds_fd.specs.declared.body.Body.{Body}
use Rattle.ds_image_parts.specs.Objects.{rooms_in, subs_of}
use Rattle.ds_image_parts.specs.Parts.{Parts, part_at, AllSpelled, maps_of, bits_in}
use Rattle.ds_image_parts.specs.Readings.{ReadsParts}
use Rattle.ds_image.specs.Sound.{IsSound}
use Rattle.ds_image.proofs.Spelling.Sizes.{part_within}
use Rattle.ds_image.proofs.Spelling.SoundParts.{all-at}
use Rattle.ds_plan_laws_new.specs.Entering.{subs_in}
use Rattle.ds_plan_laws_new.specs.Puts.{IsPut}
use Rattle.ds_plan_laws_new.proofs.Listed.{listed-by, listed-in, part-put}
use Rattle.ds_plan_laws_new.proofs.Puts.{in_use, put-room_back}
use Rattle.ds_plan_laws_new.proofs.Rooms.{used_in, used-same, used-put}
use Rattle.ds_plan_laws_gone.specs.Leaving.{ReadyToGo, given_up, changed_parts}
use Rattle.ds_plan_laws_gone.specs.MapWrites.{MapWrite, with_all_maps}
use Rattle.ds_plan_laws_gone.proofs.Gone.{GoesFrom}
use Rattle.ds_plan_laws_gone.proofs.MapWrites.{SameButMaps, same-but_maps, all-written, clears-marks}
use Rattle.ds_image_tables.proofs.Ownership.Marking.{ClearsMarks}

-- a sub-block with a room changed is one
pub room-is_sub : (before after : SubBlock) (room : ℕ) (r : Option Entry) → IsSubBlock before → IsRoom r → after.rooms ≡ slice_set before.rooms room r → IsSubBlock after
room-is_sub before after room r is room_is changed = record {
  four = ap length changed ∙ length-set before.rooms room r ∙ is.four;
  are_rooms = subst (All IsRoom) (sym changed) (rooms-set before.rooms is.are_rooms);
}
  where
    rooms-set : (rooms : List (Option Entry)) → All IsRoom rooms → All IsRoom (slice_set rooms room r)
    rooms-set rooms all i d l =
        let within : i < length rooms = omega (arith, l, length-set rooms room r) in
        elim (cases_eq i room) [
          | inl here ↦ subst IsRoom (sym (ap (λ k. get_or (slice_set rooms room r) k d) here ∙ get_or-set_same rooms room r d (omega (arith, here)))) room_is
          | inr other ↦ subst IsRoom (sym (get_or-set_other rooms room i r d other)) (all i d within)
        ]

-- an entry in a room of a sub-block is one
pub room-is_entry : (b : SubBlock) (room : ℕ) (e : Entry) → IsSubBlock b → slice_get b.rooms room ≡ Some (Some e) → IsEntry e
room-is_entry b room e is at = all-at IsRoom b.rooms is.are_rooms room (Some e) at

-- parts whose bodies and sub-blocks are others have the same bitmaps
pub maps-changed : (p : Parts) (writes : List MapWrite) (o n : ℕ) (body : Body) (block : SubBlock) (kind : Kind)
    → maps_of (changed_parts p writes o body n block) kind ≡ maps_of (with_all_maps p writes) kind
maps-changed p writes o n body block Fd = refl
maps-changed p writes o n body block Sb = refl
maps-changed p writes o n body block Pb = refl
maps-changed p writes o n body block Fb = refl

module _ (g : Geom) (is : IsGeom g) (image : List Sector) (p : Parts) (reads : ReadsParts g (slice_get image) p) (sound : IsSound p)
    (key : Key) (dir : Body) (e : Entry) (old new : Body) (n : ℕ) (block : SubBlock) (writes : List MapWrite)
    (ready : ReadyToGo g p key dir e old new n block writes) where
  abbrev o : ℕ
  o = e.key.object

  abbrev d : ℕ
  d = key.object

  abbrev q : Parts
  q = changed_parts p writes o new n block

  same : SameButMaps p (with_all_maps p writes)
  same = same-but_maps p writes

  n-within : n < length p.subs
  n-within = part_within p.subs n ready.empties.before ready.empties.there

  here-sub : part_at q.subs n ≡ Some block
  here-sub = ap (λ l. part_at (slice_set l n (Some block)) n) same.subs ∙ get_or-set_same p.subs n (Some block) None n-within

  other-sub : (m : ℕ) → m ≢ n → part_at q.subs m ≡ part_at p.subs m
  other-sub m other = ap (λ l. part_at (slice_set l n (Some block)) m) same.subs ∙ get_or-set_other p.subs n m (Some block) None other

  -- the directory lists the sub-block once, and no other object lists it
  not-there : (k i m : ℕ) → slice_get (subs_of (part_at p.bodies k)) i ≡ Some m → k ≢ d → m ≢ n
  not-there k i m at other is_it =
      other (sound.sub_owners.once k i d ready.empties.place n (listed-by p k i n (at ∙ ap Some is_it))
      (listed-in p d ready.empties.place n dir ready.in_dir.there ready.in_dir.is_dir ready.empties.listed)).0

  once-there : (i m : ℕ) → slice_get (subs_in dir) i ≡ Some m → i ≢ ready.empties.place → m ≢ n
  once-there i m at other is_it =
      other (sound.sub_owners.once d i d ready.empties.place n (listed-in p d i n dir ready.in_dir.there ready.in_dir.is_dir (at ∙ ap Some is_it))
      (listed-in p d ready.empties.place n dir ready.in_dir.there ready.in_dir.is_dir ready.empties.listed)).1

  room-taken : IsPut e (used_in q n) (used_in p n)
  room-taken =
      subst (λ s. IsPut e (used_in q n) (in_use (rooms_in s))) (sym ready.empties.there)
      (subst (λ s. IsPut e (in_use (rooms_in s)) (in_use ready.empties.before.rooms)) (sym here-sub)
      (subst (λ rooms. IsPut e (in_use rooms) (in_use ready.empties.before.rooms)) (sym ready.empties.emptied)
      (put-room_back e ready.empties.before.rooms ready.empties.room ready.empties.used)))

  pub goes-emptied : GoesFrom p q d dir e old new
  goes-emptied = record {
    in_dir = ready.in_dir;
    ends = ready.ends;
    bodies = ap (λ l. slice_set l o (Some new)) same.bodies;
    put = used-put q p (subs_in dir) ready.empties.place n e ready.empties.listed (λ i m at other. sym (other-sub m (once-there i m at other))) room-taken;
    elsewhere = λ k other. used-same p q (subs_of (part_at p.bodies k)) (λ i m at. other-sub m (not-there k i m at other));
    spelled = λ m some. subst (λ l. IsSome (part_at (slice_set l n (Some block)) m)) (sym same.subs) (part-put p.subs n block n-within m some);
    ptrs = same.ptrs;
    maps = λ kind. subst AllSpelled (sym (maps-changed p writes o n new block kind)) (all-written p writes sound.maps kind);
    cleared = λ kind. subst (λ maps. ClearsMarks (bits_in (maps_of p kind)) (given_up p o old kind) (bits_in maps)) (sym (maps-changed p writes o n new block kind))
        (clears-marks g is image p reads sound.maps writes (given_up p o old) ready.clears kind);
  }
