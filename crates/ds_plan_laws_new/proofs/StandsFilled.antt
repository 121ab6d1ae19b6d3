-- An image with an object made for a free room of a directory stands for the tree that the call makes.
use Rattle.std.proofs.Common.{◌≡◌, ℕ, ◌+◌, ◌*◌, true, false, cond, List, length, slice_get, slice_set, Some, sym, ap, subst, ◌∙◌, length-set, arith}
use Rattle.std.proofs.lemmas.Bool.Decides.{nat_tests}
use Rattle.std.proofs.lemmas.Bool.{false≢true}
use Rattle.ds_base.specs.Geometry.{IsGeom}
use Rattle.ds_base.specs.declared.geometry.Geom.{Geom}
use Rattle.ds_base.specs.declared.geometry.Kind.TheVariants.{Fd}
use Rattle.ds_base.specs.declared.names.Key.{Key}
use Rattle.ds_base.specs.declared.sectors.Sector.{Sector}
use Rattle.ds_bitmap.specs.Bits.{Bitmap, bits_bytes}
use Rattle.ds_dir.specs.SubBlock.{sub_bytes}
use Rattle.ds_dir.specs.declared.sub_block.Entry.{Entry}
use Rattle.ds_dir.specs.declared.sub_block.SubBlock.{SubBlock}
use Rattle.ds_fd.specs.Body.{body_bytes}
use Rattle.ds_fd.specs.declared.body.Body.{Body}
use Rattle.ds_layout.specs.Places.{place_sector}
use Rattle.ds_layout.specs.declared.places.Place.TheVariants as places
use Rattle.ds_tree.specs.Nodes.{FileTree}
use Rattle.ds_tree.specs.Steps.{is_full}
use Rattle.ds_tree.specs.WellFormed.{IsTree}
use Rattle.ds_tree.specs.declared.calls.TreeReply.TheVariants.{Made}
use Rattle.ds_image_parts.specs.Logical.{laid_over}
use Rattle.ds_image_parts.specs.Objects.{entries_of}
use Rattle.ds_image_parts.specs.Parts.{Parts}
use Rattle.ds_image_parts.specs.Readings.{ReadsParts}
use Rattle.ds_image.specs.Sound.{StandsFor}
use Rattle.ds_image_parts.proofs.Journaling.LaidOver.{whole-laid_over}
use Rattle.ds_image.proofs.Spelling.Sizes.{body_is}
use Rattle.ds_plan_laws_new.specs.Entering.{subs_in, FillsRoom, make_call}
use Rattle.ds_plan_laws_new.specs.Making.{ReadyToMake, Leaves}
use Rattle.ds_plan_laws_new.proofs.Entered.{EntersParts}
use Rattle.ds_plan_laws_new.proofs.Filled.{enters-filled}
use Rattle.ds_plan_laws_new.proofs.Frames.{reads-body, reads-map, reads-sub}
use Rattle.ds_plan_laws_new.proofs.Makes.{have-room, leaves-made}
use Rattle.ds_plan_laws_new.specs.ChangedParts.{filled}
use Rattle.ds_plan_laws_new.specs.Redos.{filled_pairs}
use Rattle.ds_plan_laws_new.proofs.Spelling.{body-at, map-at, sub-at, set-bits, filled-is_sub, begun-is_entry}

module _ (g : Geom) (is : IsGeom g) (image : List Sector) (t : FileTree) (stands : StandsFor g image t)
    (key : Key) (dir : Body) (o : ℕ) (e : Entry) (new : Body) (c : ℕ) (map : Bitmap) (n : ℕ) (block : SubBlock)
    (make : ReadyToMake g stands.parts key dir o e new c map) (fills : FillsRoom stands.parts dir n e block)
    (map_sector new_sector block_sector : Sector)
    (spells_map : map_sector.bytes ≡ bits_bytes map) (spells_new : new_sector.bytes ≡ body_bytes new) (spells_block : block_sector.bytes ≡ sub_bytes block) where
  abbrev p : Parts
  p = stands.parts

  abbrev pub after : List Sector
  after = laid_over image (filled_pairs g c o n map_sector new_sector block_sector)

  abbrev first : List Sector
  first = slice_set image (place_sector g (places.Bitmap Fd c)) map_sector

  abbrev second : List Sector
  second = slice_set first (place_sector g (places.Body o)) new_sector

  length-first : length first ≡ length image
  length-first = length-set image (place_sector g (places.Bitmap Fd c)) map_sector

  length-second : length second ≡ length image
  length-second = length-set first (place_sector g (places.Body o)) new_sector ∙ length-first

  -- the parts that the image then spells
  pub filled-reads : ReadsParts g (slice_get after) (filled p c o n map new block)
  filled-reads =
      let at-map = map-at g image p stands.reads Fd c make.marks.before make.marks.there in
      let at-body = body-at g image p stands.reads o make.begins.before make.begins.there in
      let at-sub = sub-at g image p stands.reads n fills.before fills.there in
      let one = reads-map g image p Fd c map map_sector is at-map.0 at-map.1 (set-bits g image p stands.reads Fd c make.item true map make.marks) spells_map stands.reads in
      let two = reads-body g first (record p { fd_maps = slice_set p.fd_maps c (Some map) }) o new new_sector is at-body.0 (omega (arith, at-body.1, length-first)) make.begins.object make.begins.is_body spells_new one in
      reads-sub g second (record p { fd_maps = slice_set p.fd_maps c (Some map); bodies = slice_set p.bodies o (Some new) }) n block block_sector is at-sub.0 (omega (arith, at-sub.1, length-second))
      (filled-is_sub g image p stands.reads dir n e block (begun-is_entry p o e new make.begins make.named) fills) spells_block two

  pub enters : EntersParts p (filled p c o n map new block) key.object o dir dir new e
  enters = enters-filled g (slice_get image) p stands.reads stands.sound key.object o n c make.item dir new e map block make.is_item make.marks make.begins make.lacks fills

  not-full : is_full (entries_of p (subs_in dir)) (4 * dir.count) ≡ false
  not-full =
      let room = have-room g image after p (filled p c o n map new block) stands.reads filled-reads stands.sound key o dir dir new e enters
      (body_is g (slice_get image) p key.object dir stands.reads make.lacks.there) in
      grind (arith, nat_tests)

  -- and it stands for what the call makes of the tree
  pub filled-leaves : Leaves g t (make_call e.kind key e.name) (Made e.key) after
  filled-leaves =
      subst (λ u. Leaves g u (make_call e.kind key e.name) (Made e.key) after) (sym stands.tree)
      (leaves-made g image after p (filled p c o n map new block) stands.reads filled-reads stands.sound key o dir dir new e enters
      (body_is g (slice_get image) p key.object dir stands.reads make.lacks.there) make.life make.named
      (subst (IsTree g) stands.tree stands.is_tree)
      (sym (ap (λ b. cond b (4 * dir.count + 4) (4 * dir.count)) not-full))
      (λ full. absurd (false≢true (sym not-full ∙ full)))
      (whole-laid_over g image (filled_pairs g c o n map_sector new_sector block_sector) stands.whole))
