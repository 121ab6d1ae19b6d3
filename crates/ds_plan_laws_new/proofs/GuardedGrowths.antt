-- Whoever holds the directory, the new descriptor and both clusters holds the guards of all sectors that are written to make an
-- object in a directory that lists one sub-block more, before and after.
use Rattle.std.proofs.Common.{◌≡◌, ℕ, ◌+◌, ◌<◌, Bool, true, false, List, [], ◌∷◌, length, slice_get, Some, refl, ap, ◌∙◌}
use Rattle.std.specs.Prelude.{All}
use Rattle.std.proofs.lemmas.List.Elements.{All-nil, All-cons}
use Rattle.ds_base.specs.Geometry.{IsGeom, items_of}
use Rattle.ds_base.specs.declared.geometry.Geom.{Geom}
use Rattle.ds_base.specs.declared.geometry.Kind.TheVariants.{Fd, Sb}
use Rattle.ds_base.specs.declared.names.Key.{Key}
use Rattle.ds_base.specs.declared.sectors.Sector.{Sector}
use Rattle.ds_bitmap.specs.Bits.{Bitmap, bits_bytes}
use Rattle.ds_dir.specs.SubBlock.{sub_bytes}
use Rattle.ds_dir.specs.declared.sub_block.Entry.{Entry}
use Rattle.ds_dir.specs.declared.sub_block.SubBlock.{SubBlock}
use Rattle.ds_fd.specs.Body.{body_bytes}
use Rattle.ds_fd.specs.declared.body.Body.{Body}
use Rattle.ds_layout.specs.Places.{cluster_lock, place_sector}
use Rattle.ds_layout.specs.declared.places.Place.TheVariants as places
use Rattle.ds_tree.specs.Nodes.{FileTree}
use Rattle.ds_image_tables.proofs.Spelling.Places.{at-append_right}
use Rattle.ds_image.specs.Asking.{targets_of}
use Rattle.ds_image_parts.specs.Looks.{Look}
use Rattle.ds_image_parts.specs.Parts.{Parts}
use Rattle.ds_image_parts.specs.Pending.{Pair}
use Rattle.ds_image_parts.specs.Readings.{ReadsParts}
use Rattle.ds_image.specs.Sound.{StandsFor}
use Rattle.ds_plan_laws_new.specs.Entering.{subs_in}
use Rattle.ds_image.specs.Guards.{GuardedBy}
use Rattle.ds_plan_laws_new.specs.Making.{ReadyToMake, ReadyToGrow}
use Rattle.ds_image.proofs.Bits.{bit-within}
use Rattle.ds_plan_laws_new.proofs.Entered.{at-dir, entered-sound}
use Rattle.ds_plan_laws_new.proofs.Grown.{subs-grown, listed-by_none}
use Rattle.ds_image.proofs.SectorGuards.{guard-body, guard-map, guard-sub_listed, guard-sub_unlisted}
use Rattle.ds_plan_laws_new.proofs.Listed.{listed-in}
use Rattle.ds_plan_laws_new.proofs.Spelling.{body-at, map-at}
use Rattle.ds_plan_laws_new.proofs.StandsGrown.{grown-reads, n-within}
use Rattle.ds_plan_laws_new.specs.Redos.{two_pairs, grown_pairs}
use Rattle.ds_plan_laws_new.proofs.StandsGrown as growings

module _ (g : Geom) (is : IsGeom g) (image : List Sector) (t : FileTree) (stands : StandsFor g image t)
    (key : Key) (dir : Body) (o : ℕ) (e : Entry) (new : Body) (c : ℕ) (map : Bitmap) (n : ℕ) (grown : Body) (c' : ℕ) (sub_map : Bitmap) (block : SubBlock)
    (make : ReadyToMake g stands.parts key dir o e new c map) (grow : ReadyToGrow g stands.parts dir n e grown c' sub_map block)
    (map_sector sub_map_sector dir_sector new_sector block_sector : Sector)
    (spells_map : map_sector.bytes ≡ bits_bytes map) (spells_sub_map : sub_map_sector.bytes ≡ bits_bytes sub_map)
    (spells_dir : dir_sector.bytes ≡ body_bytes grown) (spells_new : new_sector.bytes ≡ body_bytes new) (spells_block : block_sector.bytes ≡ sub_bytes block)
    (Held : ℕ → Type 0) (held_cluster : Held (cluster_lock Fd c)) (held_sub_cluster : Held (cluster_lock Sb c')) (held_object : Held o) (held_dir : Held key.object) where
  abbrev p : Parts
  p = stands.parts

  abbrev grown-after : Bool → List Sector
  grown-after = growings.after g is image t stands key dir o e new c map n grown c' sub_map block make grow map_sector sub_map_sector dir_sector new_sector block_sector spells_map spells_sub_map spells_dir spells_new spells_block

  abbrev pairs : Bool → List Pair
  pairs swapped = grown_pairs g swapped c c' key.object o n map_sector sub_map_sector dir_sector new_sector block_sector

  sub-within : n < items_of g Sb
  sub-within = n-within g is image t stands key dir o e new c map n grown c' sub_map block make grow map_sector sub_map_sector dir_sector new_sector block_sector spells_map spells_sub_map spells_dir spells_new spells_block

  -- all but the sub-block are guarded alike before and after
  grown-guarded : (look : Look) (q : Parts) → ReadsParts g look q → GuardedBy g look Held (place_sector g (places.SubBlock n)) → (swapped : Bool)
      → All (GuardedBy g look Held) (targets_of (pairs swapped))
  grown-guarded look q reads sub_guarded swapped =
      let Is = GuardedBy g look Held in
      let a : ℕ = place_sector g (places.Bitmap Fd c) in
      let b : ℕ = place_sector g (places.Bitmap Sb c') in
      let d : ℕ = place_sector g (places.Body key.object) in
      let f : ℕ = place_sector g (places.Body o) in
      let s : ℕ = place_sector g (places.SubBlock n) in
      let cluster = (map-at g image p stands.reads Fd c make.marks.before make.marks.there).0 in
      let sub_cluster = (map-at g image p stands.reads Sb c' grow.marks.before grow.marks.there).0 in
      let object = (body-at g image p stands.reads o make.begins.before make.begins.there).0 in
      let directory = (body-at g image p stands.reads key.object dir make.lacks.there).0 in
      let by_d : Is d = record { object = key.object; guards = guard-body g look q reads key.object directory; held = held_dir } in
      let by_o : Is f = record { object = o; guards = guard-body g look q reads o object; held = held_object } in
      let last = All-cons Is s [] sub_guarded (All-nil Is) in
      let rest = elim swapped as (λ w. All Is (targets_of (two_pairs w (d, dir_sector) (f, new_sector) ((s, block_sector) ∷ [])))) [
        | false ↦ All-cons Is d (f ∷ s ∷ []) by_d (All-cons Is f (s ∷ []) by_o last)
        | true ↦ All-cons Is f (d ∷ s ∷ []) by_o (All-cons Is d (s ∷ []) by_d last)
      ] in
      let tail = targets_of (two_pairs swapped (d, dir_sector) (f, new_sector) ((s, block_sector) ∷ [])) in
      All-cons Is a (b ∷ tail) (record { object = cluster_lock Fd c; guards = guard-map g look q reads Fd c cluster; held = held_cluster })
      (All-cons Is b tail (record { object = cluster_lock Sb c'; guards = guard-map g look q reads Sb c' sub_cluster; held = held_sub_cluster }) rest)

  -- before, the sub-block is its cluster's
  pub grown-guarded_before : (swapped : Bool) → All (GuardedBy g (slice_get image) Held) (targets_of (pairs swapped))
  grown-guarded_before =
      let none = listed-by_none g (slice_get image) p stands.reads stands.sound key.object o n c make.item c' grow.item dir grown new e map sub_map block
      make.is_item make.marks grow.is_item grow.marks make.begins make.lacks grow.adds in
      let small = bit-within g (slice_get image) Sb p.sb_maps c' grow.item grow.marks.before false (stands.reads.maps Sb) grow.marks.there grow.marks.was in
      grown-guarded (slice_get image) p stands.reads
      (record { object = cluster_lock Sb c'; guards = guard-sub_unlisted g (slice_get image) p stands.reads n c' grow.item sub-within grow.is_item small none; held = held_sub_cluster })

  -- and after, the directory's
  pub grown-guarded_after : (swapped : Bool) → All (GuardedBy g (slice_get (grown-after swapped)) Held) (targets_of (pairs swapped))
  grown-guarded_after swapped =
      let q : Parts = growings.parts-after g is image t stands key dir o e new c map n grown c' sub_map block make grow map_sector sub_map_sector dir_sector new_sector block_sector spells_map spells_sub_map spells_dir spells_new spells_block in
      let reads = grown-reads g is image t stands key dir o e new c map n grown c' sub_map block make grow map_sector sub_map_sector dir_sector new_sector block_sector spells_map spells_sub_map spells_dir spells_new spells_block swapped in
      let enters = growings.enters g is image t stands key dir o e new c map n grown c' sub_map block make grow map_sector sub_map_sector dir_sector new_sector block_sector spells_map spells_sub_map spells_dir spells_new spells_block in
      let sound = entered-sound p q key.object o dir grown new e stands.sound enters in
      let subs = subs-grown g (slice_get image) p stands.reads stands.sound key.object o n c make.item c' grow.item dir grown new e map sub_map block
      make.is_item make.marks grow.is_item grow.marks make.begins make.lacks grow.adds in
      let last : slice_get (subs_in grown) (length (subs_in dir) + 0) ≡ Some n =
      ap (λ l. slice_get l (length (subs_in dir) + 0)) subs ∙ at-append_right (subs_in dir) (n ∷ []) 0 n refl in
      let at = listed-in q key.object (length (subs_in dir) + 0) n grown (at-dir p q key.object o dir grown new e enters.enters) (grow.adds.kind ∙ make.lacks.is_dir) last in
      grown-guarded (slice_get (grown-after swapped)) q reads
      (record { object = key.object; guards = guard-sub_listed g (slice_get (grown-after swapped)) q reads key.object (length (subs_in dir) + 0) n sub-within sound.sub_owners at; held = held_dir })
      swapped
