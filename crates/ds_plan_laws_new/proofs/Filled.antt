-- A free room of a directory is filled with the entry of a new object.
use Rattle.std.proofs.Common.{◌≡◌, ◌≢◌, ℕ, ◌+◌, ◌*◌, ◌<◌, true, false, length, get_or, slice_get, slice_set, Some, None, IsSome, refl, sym, ap, subst, ◌∙◌, get_or-set_same, get_or-set_other}
use Rattle.std.specs.Prelude.{All}
use Rattle.std.proofs.lemmas.List.{set-get_or}
use Rattle.ds_base.specs.Geometry.{per_cluster}
use Rattle.ds_base.specs.declared.geometry.Geom.{Geom}
use Rattle.ds_base.specs.declared.geometry.Kind.{Kind}
use Rattle.ds_base.specs.declared.geometry.Kind.TheVariants.{Fd, Sb, Pb, Fb}
use Rattle.ds_bitmap.specs.Bits.{Bitmap}
use Rattle.ds_dir.specs.declared.sub_block.Entry.{Entry}
use Rattle.ds_dir.specs.declared.sub_block.SubBlock.{SubBlock}
use Rattle.ds_fd.specs.declared.body.Body.{Body}
use Rattle.ds_image_parts.specs.Looks.{Look}
use Rattle.ds_image_parts.specs.Objects.{rooms_in, subs_of}
use Rattle.ds_image_tables.specs.Owns.{Owns}
use Rattle.ds_image_parts.specs.Parts.{Parts, part_at, AllSpelled, maps_of, bits_in}
use Rattle.ds_image_parts.specs.Readings.{ReadsParts}
use Rattle.ds_image.specs.Sound.{IsSound, sub_lists}
use Rattle.ds_image_tables.proofs.Ownership.Owning.{owns-alike}
use Rattle.ds_image.proofs.Spelling.Sizes.{part_within}
use Rattle.ds_image.proofs.Spelling.SoundParts.{each_kind, objects-of}
use Rattle.ds_plan_laws_new.specs.Beginning.{SetsBit, Begins}
use Rattle.ds_plan_laws_new.specs.Entering.{subs_in, LacksName, FillsRoom}
use Rattle.ds_plan_laws_new.specs.Puts.{IsPut}
use Rattle.ds_image.proofs.Bits.{bits-set, all-put, bit-within}
use Rattle.ds_plan_laws_new.proofs.Entered.{EntersBodies, EntersParts, lists-alike, new-subs, old-subs, dir-subs}
use Rattle.ds_plan_laws_new.proofs.Listed.{listed-by, listed-in, part-put}
use Rattle.ds_plan_laws_new.proofs.Puts.{in_use, put-room}
use Rattle.ds_plan_laws_new.specs.ChangedParts.{filled}
use Rattle.ds_plan_laws_new.proofs.Rooms.{used_in, used-same, used-put}

module _ (g : Geom) (look : Look) (p : Parts) (reads : ReadsParts g look p) (sound : IsSound p)
    (d o n c it : ℕ) (dir new : Body) (e : Entry) (map : Bitmap) (block : SubBlock)
    (is_item : c * per_cluster g Fd + it ≡ o) (marks : SetsBit p Fd c it true map) (begins : Begins p o e new)
    (lacks : LacksName p d dir e.name) (fills : FillsRoom p dir n e block) where
  abbrev q : Parts
  q = filled p c o n map new block

  bodies-filled : EntersBodies p q d o dir dir new e
  bodies-filled = record {
    bodies = ap (λ bs. slice_set bs o (Some new)) (sym (ap (slice_set p.bodies d) (sym lacks.there) ∙ set-get_or p.bodies d None));
    begins = begins;
    lacks = lacks;
    dir_kind = lacks.is_dir;
    dir_birth = refl;
  }

  n-within : n < length p.subs
  n-within = part_within p.subs n fills.before fills.there

  other-sub : (m : ℕ) → m ≢ n → part_at q.subs m ≡ part_at p.subs m
  other-sub m other = get_or-set_other p.subs n m (Some block) None other

  -- the directory lists the sub-block once, and no other object lists it
  not-there : (k i m : ℕ) → slice_get (subs_of (part_at p.bodies k)) i ≡ Some m → k ≢ d → m ≢ n
  not-there k i m at other same =
      other (sound.sub_owners.once k i d fills.place n (listed-by p k i n (at ∙ ap Some same)) (listed-in p d fills.place n dir lacks.there lacks.is_dir fills.listed)).0

  once-there : (i m : ℕ) → slice_get (subs_in dir) i ≡ Some m → i ≢ fills.place → m ≢ n
  once-there i m at other same =
      other (sound.sub_owners.once d i d fills.place n (listed-in p d i n dir lacks.there lacks.is_dir (at ∙ ap Some same)) (listed-in p d fills.place n dir lacks.there lacks.is_dir fills.listed)).1

  room-put : IsPut e (used_in p n) (used_in q n)
  room-put =
      subst (λ s. IsPut e (in_use (rooms_in s)) (used_in q n)) (sym fills.there)
      (subst (λ s. IsPut e (in_use fills.before.rooms) (in_use (rooms_in s))) (sym (get_or-set_same p.subs n (Some block) None n-within))
      (subst (λ rooms. IsPut e (in_use fills.before.rooms) (in_use rooms)) (sym fills.filled) (put-room e fills.before.rooms fills.room fills.free)))

  maps-filled : (kind : Kind) → AllSpelled (maps_of q kind)
  maps-filled = each_kind (λ kind. AllSpelled (maps_of q kind)) (all-put p.fd_maps c map (sound.maps Fd)) (sound.maps Sb) (sound.maps Pb) (sound.maps Fb)

  fd-filled : bits_in q.fd_maps ≡ slice_set (bits_in p.fd_maps) o true
  fd-filled =
      bits-set g look Fd p.fd_maps c it marks.before map true (reads.maps Fd) (sound.maps Fd) marks.there
      (bit-within g look Fd p.fd_maps c it marks.before false (reads.maps Fd) marks.there marks.was) marks.changed
      ∙ ap (λ k. slice_set (bits_in p.fd_maps) k true) is_item

  owners-filled : Owns (sub_lists q) (bits_in q.sb_maps)
  owners-filled =
      owns-alike (sub_lists p) (sub_lists q) (bits_in p.sb_maps)
      (lists-alike p q d o dir dir new e bodies-filled subs_of subs_of refl refl
      (new-subs p q d o dir dir new e bodies-filled ∙ sym (old-subs p q d o dir dir new e bodies-filled)) refl (λ b. refl))
      sound.sub_owners

  pub enters-filled : EntersParts p q d o dir dir new e
  enters-filled = record {
    enters = bodies-filled;
    put = used-put p q (subs_in dir) fills.place n e fills.listed (λ i m at other. other-sub m (once-there i m at other)) room-put;
    elsewhere = λ k other. used-same p q (subs_of (part_at p.bodies k)) (λ i m at. other-sub m (not-there k i m at other));
    spelled = part-put p.subs n block n-within;
    dir_spelled =
        let was = subst (All (λ m. IsSome (part_at p.subs m))) (ap subs_of lacks.there ∙ dir-subs p q d o dir dir new e bodies-filled) (objects-of p sound d).subs in
        λ i m l. part-put p.subs n block n-within (get_or (subs_in dir) i m) (was i m l);
    ptrs = refl;
    maps = maps-filled;
    fd_bits = fd-filled;
    pb_maps = refl;
    fb_maps = refl;
    sub_owners = owners-filled;
  }
