-- Whoever holds the directory, the object that goes and the clusters of its items holds the guards of all sectors that are
-- written to take it away, before and after.
use Rattle.std.proofs.Common.{◌≡◌, ℕ, suc, ◌<◌, List, [], ◌∷◌, ◌++◌, slice_get, Some, refl, ◌∙◌}
use Rattle.std.specs.Prelude.{All}
use Rattle.std.proofs.lemmas.List.Elements.{All-nil, All-cons}
use Rattle.ds_base.specs.Geometry.{IsGeom, clusters_of}
use Rattle.ds_base.specs.declared.geometry.Geom.{Geom}
use Rattle.ds_base.specs.declared.names.Key.{Key}
use Rattle.ds_base.specs.declared.sectors.Sector.{Sector}
use Rattle.ds_dir.specs.SubBlock.{sub_bytes}
use Rattle.ds_dir.specs.declared.sub_block.Entry.{Entry}
use Rattle.ds_dir.specs.declared.sub_block.SubBlock.{SubBlock}
use Rattle.ds_fd.specs.Body.{body_bytes}
use Rattle.ds_fd.specs.declared.body.Body.{Body}
use Rattle.ds_layout.specs.Places.{cluster_lock, place_sector}
use Rattle.ds_layout.specs.declared.places.Place.TheVariants as places
use Rattle.ds_tree.specs.Nodes.{FileTree}
use Rattle.ds_image.specs.Asking.{targets_of}
use Rattle.ds_image_parts.specs.Looks.{Look}
use Rattle.ds_image_tables.specs.Owns.{IsAt}
use Rattle.ds_image_parts.specs.Parts.{Parts}
use Rattle.ds_image_parts.specs.Pending.{Pair}
use Rattle.ds_image_parts.specs.Readings.{ReadsParts}
use Rattle.ds_image.specs.Sound.{StandsFor, IsSound, sub_lists}
use Rattle.ds_image.specs.Guards.{GuardedBy}
use Rattle.ds_image.proofs.SectorGuards.{guard-body, guard-map, guard-sub_listed}
use Rattle.ds_plan_laws_new.proofs.Listed.{listed-in}
use Rattle.ds_plan_laws_new.proofs.Spelling.{body-at, map-at, sub-at}
use Rattle.ds_plan_laws_gone.specs.Leaving.{ReadyToGo, changed_parts}
use Rattle.ds_plan_laws_gone.specs.MapWrites.{MapWrite, map_pairs}
use Rattle.ds_plan_laws_gone.proofs.Gone.{apart, at-other, gone-sound}
use Rattle.ds_plan_laws_gone.proofs.StandsGone.{gone-pairs, gone-reads}
use Rattle.ds_plan_laws_gone.proofs.StandsGone as leaving

-- bitmaps that are written before others sectors
pub guarded-maps : (g : Geom) (look : Look) (q : Parts) → ReadsParts g look q → (Held : ℕ → Type 0) (writes : List MapWrite) (rest : List Pair)
    → ((i : ℕ) (w : MapWrite) → slice_get writes i ≡ Some w → (w.cluster < clusters_of g w.kind) × Held (cluster_lock w.kind w.cluster))
    → All (GuardedBy g look Held) (targets_of rest) → All (GuardedBy g look Held) (targets_of (map_pairs g writes ++ rest))
guarded-maps g look q reads Held [] rest each all = all
guarded-maps g look q reads Held (w ∷ writes) rest each all =
    let one = each 0 w refl in
    All-cons (GuardedBy g look Held) (place_sector g (places.Bitmap w.kind w.cluster)) (targets_of (map_pairs g writes ++ rest))
    (record { object = cluster_lock w.kind w.cluster; guards = guard-map g look q reads w.kind w.cluster one.0; held = one.1 })
    (guarded-maps g look q reads Held writes rest (λ i v at. each (suc i) v at) all)

module _ (g : Geom) (is : IsGeom g) (image : List Sector) (t : FileTree) (stands : StandsFor g image t)
    (key : Key) (dir : Body) (e : Entry) (old new : Body) (n : ℕ) (block : SubBlock) (writes : List MapWrite)
    (ready : ReadyToGo g stands.parts key dir e old new n block writes)
    (body_sector block_sector : Sector) (spells_body : body_sector.bytes ≡ body_bytes new) (spells_block : block_sector.bytes ≡ sub_bytes block)
    (Held : ℕ → Type 0) (held_clusters : (i : ℕ) (w : MapWrite) → slice_get writes i ≡ Some w → Held (cluster_lock w.kind w.cluster))
    (held_object : Held e.key.object) (held_dir : Held key.object) where
  abbrev p : Parts
  p = stands.parts

  abbrev gone-after : List Sector
  gone-after = leaving.after g is image t stands key dir e old new n block writes ready body_sector block_sector spells_body spells_block

  gone-guarded : (look : Look) (q : Parts) → ReadsParts g look q → IsSound q → IsAt (sub_lists q) key.object ready.empties.place n
      → All (GuardedBy g look Held) (targets_of (gone-pairs g writes e.key.object n body_sector block_sector))
  gone-guarded look q reads sound at =
      let Is = GuardedBy g look Held in
      let b : ℕ = place_sector g (places.Body e.key.object) in
      let s : ℕ = place_sector g (places.SubBlock n) in
      let object = (body-at g image p stands.reads e.key.object old ready.ends.there).0 in
      let sub = (sub-at g image p stands.reads n ready.empties.before ready.empties.there).0 in
      guarded-maps g look q reads Held writes ((b, body_sector) ∷ (s, block_sector) ∷ [])
      (λ i w there. (let one = ready.clears.each i w there in (map-at g image p stands.reads w.kind w.cluster one.before one.there).0, held_clusters i w there))
      (All-cons Is b (s ∷ []) (record { object = e.key.object; guards = guard-body g look q reads e.key.object object; held = held_object })
      (All-cons Is s [] (record { object = key.object; guards = guard-sub_listed g look q reads key.object ready.empties.place n sub sound.sub_owners at; held = held_dir }) (All-nil Is)))

  pub gone-guarded_before : All (GuardedBy g (slice_get image) Held) (targets_of (gone-pairs g writes e.key.object n body_sector block_sector))
  gone-guarded_before =
      gone-guarded (slice_get image) p stands.reads stands.sound
      (listed-in p key.object ready.empties.place n dir ready.in_dir.there ready.in_dir.is_dir ready.empties.listed)

  pub gone-guarded_after : All (GuardedBy g (slice_get gone-after) Held) (targets_of (gone-pairs g writes e.key.object n body_sector block_sector))
  gone-guarded_after =
      let q : Parts = changed_parts p writes e.key.object new n block in
      let goes = leaving.goes g is image t stands key dir e old new n block writes ready body_sector block_sector spells_body spells_block in
      gone-guarded (slice_get gone-after) q
      (gone-reads g is image t stands key dir e old new n block writes ready body_sector block_sector spells_body spells_block)
      (gone-sound g p q key.object dir e old new stands.sound goes
      (leaving.tree g is image t stands key dir e old new n block writes ready body_sector block_sector spells_body spells_block))
      (listed-in q key.object ready.empties.place n dir
      (at-other g p q key.object dir e old new stands.sound goes key.object (apart g p q key.object dir e old new stands.sound goes) ∙ ready.in_dir.there)
      ready.in_dir.is_dir ready.empties.listed)
