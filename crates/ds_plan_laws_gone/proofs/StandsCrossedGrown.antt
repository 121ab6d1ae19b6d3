-- An image in which an entry of a file has left its directory for a new sub-block of another one stands for the tree that the
-- call leaves.
use Rattle.std.proofs.Common.{◌≡◌, ◌≢◌, ℕ, ◌+◌, ◌*◌, ◌<◌, Bool, true, false, cond, List, [], ◌∷◌, length, slice_get, slice_set, Some, None, refl, sym, ap, subst, ◌∙◌, length-set, arith}
use Rattle.std.specs.Prelude.{All}
use Rattle.std.specs.FinMap as maps
use Rattle.std.proofs.lemmas.Bool.Decides.{nat_tests}
use Rattle.std.proofs.lemmas.List.Elements.{All-nil, All-cons}
use Rattle.ds_base.specs.Geometry.{IsGeom, items_of}
use Rattle.ds_base.specs.declared.geometry.Geom.{Geom}
use Rattle.ds_base.specs.declared.geometry.Kind.TheVariants.{Sb}
use Rattle.ds_base.specs.declared.names.Key.{Key}
use Rattle.ds_base.specs.declared.sectors.Sector.{Sector}
use Rattle.ds_bitmap.specs.Bits.{Bitmap, bits_bytes}
use Rattle.ds_dir.specs.SubBlock.{IsEntry, IsSubBlock, sub_bytes}
use Rattle.ds_dir.specs.declared.sub_block.Entry.{Entry}
use Rattle.ds_dir.specs.declared.sub_block.SubBlock.{SubBlock}
use Rattle.ds_fd.specs.Body.{body_bytes}
use Rattle.ds_fd.specs.declared.body.Body.{Body}
use Rattle.ds_layout.proofs.SamePlace.{same_place}
use Rattle.ds_layout.specs.Places.{cluster_lock, place_sector}
use Rattle.ds_layout.specs.declared.places.Place.TheVariants as places
use Rattle.ds_tree.specs.Counts.{free_of}
use Rattle.ds_tree.specs.Nodes.{FileTree}
use Rattle.ds_tree.specs.Steps.{is_full}
use Rattle.ds_tree.specs.WellFormed.{IsTree}
use Rattle.ds_tree.specs.declared.calls.CallOf.TheVariants.{Rename}
use Rattle.ds_tree.specs.declared.calls.TreeReply.TheVariants.{Moved}
use Rattle.ds_image.specs.Asking.{targets_of}
use Rattle.ds_image_parts.specs.Logical.{laid_over}
use Rattle.ds_image_parts.specs.Looks.{Look}
use Rattle.ds_image_parts.specs.Objects.{entries_of, subs_of, subs_by, tree_of, used_rooms}
use Rattle.ds_image_tables.specs.Owns.{IsAt}
use Rattle.ds_image_parts.specs.Parts.{Parts, bits_in}
use Rattle.ds_image_parts.specs.Pending.{Pair}
use Rattle.ds_image_parts.specs.Readings.{ReadsParts}
use Rattle.ds_image.specs.Sound.{StandsFor, IsSound, sub_lists}
use Rattle.ds_image.specs.SoundObjects.{AreNamesApart}
use Rattle.ds_image_parts.proofs.Journaling.LaidOver.{whole-laid_over}
use Rattle.ds_image_tables.proofs.Spelling.Places.{at-append_right}
use Rattle.ds_image.proofs.Spelling.SoundParts.{objects-of}
use Rattle.ds_plan_laws_new.specs.Entering.{subs_in}
use Rattle.ds_image.specs.Guards.{GuardedBy}
use Rattle.ds_plan_laws_new.specs.Making.{Leaves}
use Rattle.ds_image.proofs.Bits.{bits-at, bit-within}
use Rattle.ds_plan_laws_new.proofs.Frames.{reads-body, reads-map, reads-sub}
use Rattle.ds_plan_laws_new.proofs.FreeItems.{free-some}
use Rattle.ds_image.proofs.SectorGuards.{guard-body, guard-map, guard-sub_listed, guard-sub_unlisted}
use Rattle.ds_plan_laws_new.proofs.Listed.{listed-in}
use Rattle.ds_plan_laws_new.proofs.Names.{by_name-length}
use Rattle.ds_plan_laws_new.proofs.Spelling.{alone-is_sub, body-at, map-at, set-bits, sub-at}
use Rattle.ds_plan_laws_new.proofs.StandsGrown.{two-laid}
use Rattle.ds_plan_laws_new.specs.Redos.{two_pairs}
use Rattle.ds_plan_laws_gone.specs.Moving.{ReadyToLeave, ReadyToAdd}
use Rattle.ds_plan_laws_gone.proofs.Crossing.{crossed_grown}
use Rattle.ds_plan_laws_gone.proofs.CrossingGrown.{at-to, listed-by_none, m-item, moves-grown, subs-differ, subs-grown}
use Rattle.ds_plan_laws_gone.proofs.Emptied.{room-is_sub, room-is_entry}
use Rattle.ds_plan_laws_gone.proofs.Kept.{at-other}
use Rattle.ds_plan_laws_gone.proofs.Moved.{MovesParts}
use Rattle.ds_plan_laws_gone.proofs.MovedLeaves.{leaves-moved, moved-sound}
use Rattle.ds_plan_laws_gone.proofs.StandsCrossed.{sub-read}
use Rattle.ds_plan_laws_gone.proofs.StandsRenamed.{renamed-is_entry}

-- the sectors of the redo: the sub-block that loses the entry stands before the new one, or behind it
abbrev pub crossed_grown-pairs : Geom → Bool → ℕ → ℕ → ℕ → ℕ → Sector → Sector → Sector → Sector → List Pair
crossed_grown-pairs g swapped c r n m map_sector to_body_sector from_sector to_sector =
    (place_sector g (places.Bitmap Sb c), map_sector) ∷ (place_sector g (places.Body r), to_body_sector)
    ∷ two_pairs swapped (place_sector g (places.SubBlock n), from_sector) (place_sector g (places.SubBlock m), to_sector) []

module _ (g : Geom) (is : IsGeom g) (image : List Sector) (t : FileTree) (stands : StandsFor g image t)
    (key to : Key) (dir to_dir : Body) (e fresh : Entry) (n : ℕ) (block : SubBlock) (ready : ReadyToLeave stands.parts key to dir to_dir e fresh n block)
    (m : ℕ) (grown : Body) (c : ℕ) (sub_map : Bitmap) (block' : SubBlock) (add : ReadyToAdd g stands.parts to_dir m fresh grown c sub_map block')
    (map_sector to_body_sector from_sector to_sector : Sector) (spells_map : map_sector.bytes ≡ bits_bytes sub_map) (spells_body : to_body_sector.bytes ≡ body_bytes grown)
    (spells_from : from_sector.bytes ≡ sub_bytes block) (spells_to : to_sector.bytes ≡ sub_bytes block') where
  abbrev p : Parts
  p = stands.parts

  abbrev r : ℕ
  r = to.object

  abbrev q : Parts
  q = crossed_grown p c sub_map r grown n block m block'

  abbrev pairs : Bool → List Pair
  pairs swapped = crossed_grown-pairs g swapped c r n m map_sector to_body_sector from_sector to_sector

  abbrev pub after : Bool → List Sector
  after swapped = laid_over image (pairs swapped)

  abbrev first : List Sector
  first = slice_set image (place_sector g (places.Bitmap Sb c)) map_sector

  abbrev second : List Sector
  second = slice_set first (place_sector g (places.Body r)) to_body_sector

  abbrev third : List Sector
  third = slice_set second (place_sector g (places.SubBlock n)) from_sector

  length-first : length first ≡ length image
  length-first = length-set image (place_sector g (places.Bitmap Sb c)) map_sector

  length-second : length second ≡ length image
  length-second = length-set first (place_sector g (places.Body r)) to_body_sector ∙ length-first

  length-third : length third ≡ length image
  length-third = length-set second (place_sector g (places.SubBlock n)) from_sector ∙ length-second

  moves : MovesParts p q key.object r dir to_dir grown e fresh
  moves = moves-grown g (slice_get image) p stands.reads stands.sound key to dir to_dir e fresh n block ready m grown c sub_map block' add

  m-within : m < items_of g Sb
  m-within = m-item g (slice_get image) p stands.reads stands.sound key to dir to_dir e fresh n block ready m grown c sub_map block' add

  is-sub : IsSubBlock ready.empties.before
  is-sub = sub-read g image p stands.reads n ready.empties.before ready.empties.there

  is-entry : IsEntry e
  is-entry = room-is_entry ready.empties.before ready.empties.room e is-sub ready.empties.used

  grown-object : grown.object ≡ r
  grown-object = add.adds.object ∙ ((stands.reads.bodies.each r (body-at g image p stands.reads r to_dir ready.lacks.there).0 to_dir).0 ready.lacks.there).0

  reads-in_order : ReadsParts g (slice_get (after false)) q
  reads-in_order =
      let at-map = map-at g image p stands.reads Sb c add.marks.before add.marks.there in
      let at-body = body-at g image p stands.reads r to_dir ready.lacks.there in
      let at-first = sub-at g image p stands.reads n ready.empties.before ready.empties.there in
      let p1 : Parts = record p { sb_maps = slice_set p.sb_maps c (Some sub_map) } in
      let p2 : Parts = record p1 { bodies = slice_set p.bodies r (Some grown) } in
      let p3 : Parts = record p2 { subs = slice_set p.subs n (Some block) } in
      let one = reads-map g image p Sb c sub_map map_sector is at-map.0 at-map.1 (set-bits g image p stands.reads Sb c add.item true sub_map add.marks) spells_map stands.reads in
      let two = reads-body g first p1 r grown to_body_sector is at-body.0 (omega (arith, at-body.1, length-first)) grown-object add.adds.is_body spells_body one in
      let three = reads-sub g second p2 n block from_sector is at-first.0 (omega (arith, at-first.1, length-second))
      (room-is_sub ready.empties.before block ready.empties.room None is-sub tt ready.empties.emptied) spells_from two in
      reads-sub g third p3 m block' to_sector is m-within (omega (arith, m-within, stands.whole, length-third))
      (alone-is_sub fresh block' (renamed-is_entry e fresh is-entry ready.renamed) add.adds.alone) spells_to three

  places-apart : place_sector g (places.SubBlock n) ≢ place_sector g (places.SubBlock m)
  places-apart same =
      let here = (sub-at g image p stands.reads n ready.empties.before ready.empties.there).0 in
      let one : places.SubBlock n ≡ places.SubBlock m = same_place g (places.SubBlock n) (places.SubBlock m) is here m-within same in
      subs-differ g (slice_get image) p stands.reads stands.sound key to dir to_dir e fresh n block ready m grown c sub_map block' add (let numbers : n ≡ m = cc in numbers)

  after-same : (swapped : Bool) → after swapped ≡ after false
  after-same swapped = two-laid swapped second (place_sector g (places.SubBlock n), from_sector) (place_sector g (places.SubBlock m), to_sector) [] places-apart

  -- the parts that the image then spells
  pub crossed_grown-reads : (swapped : Bool) → ReadsParts g (slice_get (after swapped)) q
  crossed_grown-reads swapped = subst (λ image'. ReadsParts g (slice_get image') q) (sym (after-same swapped)) reads-in_order

  full : is_full (entries_of p (subs_in to_dir)) (4 * to_dir.count) ≡ true
  full =
      let names : AreNamesApart (used_rooms p (subs_in to_dir)) =
      subst (λ l. AreNamesApart (used_rooms p l)) (ap (λ body. subs_of body) ready.lacks.there ∙ ap (subs_by to_dir) ready.lacks.is_dir) (objects-of p stands.sound r).names in
      let count : maps.len (entries_of p (subs_in to_dir)) ≡ 4 * to_dir.count = by_name-length (used_rooms p (subs_in to_dir)) names ∙ add.adds.full in
      grind (arith, nat_tests, count)

  sub-free : free_of g (tree_of p) Sb ≢ 0
  sub-free = free-some g (slice_get image) p stands.reads stands.sound Sb m
      (ap (slice_get (bits_in p.sb_maps)) (sym add.is_item) ∙ bits-at g (slice_get image) Sb p.sb_maps c add.item add.marks.before false (stands.reads.maps Sb) (stands.sound.maps Sb) add.marks.there add.marks.was)

  -- and it stands for what the call leaves of the tree
  pub crossed_grown-leaves : (swapped : Bool) → Leaves g t (Rename key e.name to fresh.name) (Moved e.key) (after swapped)
  crossed_grown-leaves swapped =
      subst (λ u. Leaves g u (Rename key e.name to fresh.name) (Moved e.key) (after swapped)) (sym stands.tree)
      (leaves-moved g (after swapped) p q (crossed_grown-reads swapped) stands.sound key to dir to_dir grown e fresh moves add.adds.is_body
      ready.life ready.to_life is-entry.is_name ready.is_file (subst (IsTree g) stands.tree stands.is_tree)
      (ap (λ count. 4 * count) add.adds.count ∙ (let more : 4 * (to_dir.count + 1) ≡ 4 * to_dir.count + 4 = omega arith in more)
      ∙ sym (ap (λ b. cond b (4 * to_dir.count + 4) (4 * to_dir.count)) full))
      (λ _. sub-free)
      (whole-laid_over g image (pairs swapped) stands.whole))

  after-sound : (swapped : Bool) → IsSound q
  after-sound swapped = moved-sound g (after swapped) p q (crossed_grown-reads swapped) stands.sound key to dir to_dir grown e fresh moves add.adds.is_body

  -- Whoever holds both directories and the cluster of the new sub-block holds the guards of all these sectors, before and after.

  module _ (Held : ℕ → Type 0) (held_cluster : Held (cluster_lock Sb c)) (held_dir : Held key.object) (held_to : Held r) where
    crossed_grown-guarded : (look : Look) (s : Parts) → ReadsParts g look s → IsSound s → IsAt (sub_lists s) key.object ready.empties.place n
        → GuardedBy g look Held (place_sector g (places.SubBlock m)) → (swapped : Bool) → All (GuardedBy g look Held) (targets_of (pairs swapped))
    crossed_grown-guarded look s reads sound at by_other swapped =
        let Is = GuardedBy g look Held in
        let b : ℕ = place_sector g (places.Bitmap Sb c) in
        let f : ℕ = place_sector g (places.Body r) in
        let a : ℕ = place_sector g (places.SubBlock n) in
        let o : ℕ = place_sector g (places.SubBlock m) in
        let cluster = (map-at g image p stands.reads Sb c add.marks.before add.marks.there).0 in
        let body = (body-at g image p stands.reads r to_dir ready.lacks.there).0 in
        let sub = (sub-at g image p stands.reads n ready.empties.before ready.empties.there).0 in
        let by_dir : Is a = record { object = key.object; guards = guard-sub_listed g look s reads key.object ready.empties.place n sub sound.sub_owners at; held = held_dir } in
        let rest = elim swapped as (λ w. All Is (targets_of (two_pairs w (a, from_sector) (o, to_sector) []))) [
          | false ↦ All-cons Is a (o ∷ []) by_dir (All-cons Is o [] by_other (All-nil Is))
          | true ↦ All-cons Is o (a ∷ []) by_other (All-cons Is a [] by_dir (All-nil Is))
        ] in
        let tail = targets_of (two_pairs swapped (a, from_sector) (o, to_sector) []) in
        All-cons Is b (f ∷ tail) (record { object = cluster_lock Sb c; guards = guard-map g look s reads Sb c cluster; held = held_cluster })
        (All-cons Is f tail (record { object = r; guards = guard-body g look s reads r body; held = held_to }) rest)

    -- before, the new sub-block is its cluster's
    pub crossed_grown-guarded_before : (swapped : Bool) → All (GuardedBy g (slice_get image) Held) (targets_of (pairs swapped))
    crossed_grown-guarded_before =
        let none = listed-by_none g (slice_get image) p stands.reads stands.sound key to dir to_dir e fresh n block ready m grown c sub_map block' add in
        let small = bit-within g (slice_get image) Sb p.sb_maps c add.item add.marks.before false (stands.reads.maps Sb) add.marks.there add.marks.was in
        crossed_grown-guarded (slice_get image) p stands.reads stands.sound
        (listed-in p key.object ready.empties.place n dir ready.in_dir.there ready.in_dir.is_dir ready.empties.listed)
        (record { object = cluster_lock Sb c; guards = guard-sub_unlisted g (slice_get image) p stands.reads m c add.item m-within add.is_item small none; held = held_cluster })

    -- and after, the directory's
    pub crossed_grown-guarded_after : (swapped : Bool) → All (GuardedBy g (slice_get (after swapped)) Held) (targets_of (pairs swapped))
    crossed_grown-guarded_after swapped =
        let reads = crossed_grown-reads swapped in
        let sound = after-sound swapped in
        let subs = subs-grown g (slice_get image) p stands.reads stands.sound key to dir to_dir e fresh n block ready m grown c sub_map block' add in
        let last : slice_get (subs_in grown) (length (subs_in to_dir) + 0) ≡ Some m =
        ap (λ l. slice_get l (length (subs_in to_dir) + 0)) subs ∙ at-append_right (subs_in to_dir) (m ∷ []) 0 m refl in
        let at = listed-in q r (length (subs_in to_dir) + 0) m grown
        (at-to g (slice_get image) p stands.reads stands.sound key to dir to_dir e fresh n block ready m grown c sub_map block' add) (add.adds.kind ∙ ready.lacks.is_dir) last in
        crossed_grown-guarded (slice_get (after swapped)) q reads sound
        (listed-in q key.object ready.empties.place n dir (at-other p q r to_dir grown moves.keeps key.object ready.apart ∙ ready.in_dir.there) ready.in_dir.is_dir ready.empties.listed)
        (record { object = r; guards = guard-sub_listed g (slice_get (after swapped)) q reads r (length (subs_in to_dir) + 0) m m-within sound.sub_owners at; held = held_to })
        swapped
