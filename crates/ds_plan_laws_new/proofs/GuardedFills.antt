-- Whoever holds the directory, the new descriptor and its cluster holds the guards of all sectors that are written to make an
-- object in a free room, before and after.
use Rattle.std.proofs.Common.{◌≡◌, ℕ, List, [], ◌∷◌, slice_get}
use Rattle.std.specs.Prelude.{All}
use Rattle.std.proofs.lemmas.List.Elements.{All-nil, All-cons}
use Rattle.ds_base.specs.Geometry.{IsGeom}
use Rattle.ds_base.specs.declared.geometry.Geom.{Geom}
use Rattle.ds_base.specs.declared.geometry.Kind.TheVariants.{Fd}
use Rattle.ds_base.specs.declared.names.Key.{Key}
use Rattle.ds_base.specs.declared.sectors.Sector.{Sector}
use Rattle.ds_bitmap.specs.Bits.{Bitmap, bits_bytes}
use Rattle.ds_dir.specs.SubBlock.{sub_bytes}
use Rattle.ds_dir.specs.declared.sub_block.Entry.{Entry}
use Rattle.ds_dir.specs.declared.sub_block.SubBlock.{SubBlock}
use Rattle.ds_fd.specs.Body.{body_bytes}
use Rattle.ds_fd.specs.declared.body.Body.{Body}
use Rattle.ds_layout.specs.Places.{cluster_lock, place_sector}
use Rattle.ds_layout.specs.declared.places.Place.TheVariants as places
use Rattle.ds_tree.specs.Nodes.{FileTree}
use Rattle.ds_image.specs.Asking.{targets_of}
use Rattle.ds_image_parts.specs.Looks.{Look}
use Rattle.ds_image_tables.specs.Owns.{IsAt}
use Rattle.ds_image_parts.specs.Parts.{Parts}
use Rattle.ds_image_parts.specs.Readings.{ReadsParts}
use Rattle.ds_image.specs.Sound.{StandsFor, IsSound, sub_lists}
use Rattle.ds_plan_laws_new.specs.Entering.{FillsRoom}
use Rattle.ds_image.specs.Guards.{GuardedBy}
use Rattle.ds_plan_laws_new.specs.Making.{ReadyToMake}
use Rattle.ds_plan_laws_new.proofs.Entered.{at-dir, entered-sound}
use Rattle.ds_image.proofs.SectorGuards.{guard-body, guard-map, guard-sub_listed}
use Rattle.ds_plan_laws_new.proofs.Listed.{listed-in}
use Rattle.ds_plan_laws_new.proofs.Spelling.{body-at, map-at, sub-at}
use Rattle.ds_plan_laws_new.proofs.StandsFilled.{filled-reads}
use Rattle.ds_plan_laws_new.specs.ChangedParts.{filled}
use Rattle.ds_plan_laws_new.specs.Redos.{filled_pairs}
use Rattle.ds_plan_laws_new.proofs.StandsFilled as fillings

module _ (g : Geom) (is : IsGeom g) (image : List Sector) (t : FileTree) (stands : StandsFor g image t)
    (key : Key) (dir : Body) (o : ℕ) (e : Entry) (new : Body) (c : ℕ) (map : Bitmap) (n : ℕ) (block : SubBlock)
    (make : ReadyToMake g stands.parts key dir o e new c map) (fills : FillsRoom stands.parts dir n e block)
    (map_sector new_sector block_sector : Sector)
    (spells_map : map_sector.bytes ≡ bits_bytes map) (spells_new : new_sector.bytes ≡ body_bytes new) (spells_block : block_sector.bytes ≡ sub_bytes block)
    (Held : ℕ → Type 0) (held_cluster : Held (cluster_lock Fd c)) (held_object : Held o) (held_dir : Held key.object) where
  abbrev p : Parts
  p = stands.parts

  abbrev filled-after : List Sector
  filled-after = fillings.after g is image t stands key dir o e new c map n block make fills map_sector new_sector block_sector spells_map spells_new spells_block

  filled-guarded : (look : Look) (q : Parts) → ReadsParts g look q → IsSound q → IsAt (sub_lists q) key.object fills.place n
      → All (GuardedBy g look Held) (targets_of (filled_pairs g c o n map_sector new_sector block_sector))
  filled-guarded look q reads sound at =
      let Is = GuardedBy g look Held in
      let a : ℕ = place_sector g (places.Bitmap Fd c) in
      let b : ℕ = place_sector g (places.Body o) in
      let s : ℕ = place_sector g (places.SubBlock n) in
      let cluster = (map-at g image p stands.reads Fd c make.marks.before make.marks.there).0 in
      let object = (body-at g image p stands.reads o make.begins.before make.begins.there).0 in
      let sub = (sub-at g image p stands.reads n fills.before fills.there).0 in
      All-cons Is a (b ∷ s ∷ []) (record { object = cluster_lock Fd c; guards = guard-map g look q reads Fd c cluster; held = held_cluster })
      (All-cons Is b (s ∷ []) (record { object = o; guards = guard-body g look q reads o object; held = held_object })
      (All-cons Is s [] (record { object = key.object; guards = guard-sub_listed g look q reads key.object fills.place n sub sound.sub_owners at; held = held_dir }) (All-nil Is)))

  pub filled-guarded_before : All (GuardedBy g (slice_get image) Held) (targets_of (filled_pairs g c o n map_sector new_sector block_sector))
  filled-guarded_before = filled-guarded (slice_get image) p stands.reads stands.sound (listed-in p key.object fills.place n dir make.lacks.there make.lacks.is_dir fills.listed)

  pub filled-guarded_after : All (GuardedBy g (slice_get filled-after) Held) (targets_of (filled_pairs g c o n map_sector new_sector block_sector))
  filled-guarded_after =
      let q : Parts = filled p c o n map new block in
      let enters = fillings.enters g is image t stands key dir o e new c map n block make fills map_sector new_sector block_sector spells_map spells_new spells_block in
      filled-guarded (slice_get filled-after) q
      (filled-reads g is image t stands key dir o e new c map n block make fills map_sector new_sector block_sector spells_map spells_new spells_block)
      (entered-sound p q key.object o dir dir new e stands.sound enters)
      (listed-in q key.object fills.place n dir (at-dir p q key.object o dir dir new e enters.enters) make.lacks.is_dir fills.listed)
