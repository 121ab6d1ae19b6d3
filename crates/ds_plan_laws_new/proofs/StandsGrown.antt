-- An image with an object made for a directory that lists one sub-block more stands for the tree that the call makes.
use Rattle.std.proofs.Common.{◌≡◌, ◌≢◌, ℕ, ◌+◌, ◌*◌, ◌<◌, Bool, true, false, cond, List, [], ◌∷◌, length, slice_get, slice_set, Some, refl, sym, ap, subst, ◌∙◌, length-set, arith}
use Rattle.std.specs.FinMap as maps
use Rattle.std.proofs.lemmas.Bool.Decides.{nat_tests}
use Rattle.std.proofs.lemmas.List.{set_comm}
use Rattle.ds_base.specs.Geometry.{IsGeom, items_of}
use Rattle.ds_base.specs.declared.geometry.Geom.{Geom}
use Rattle.ds_base.specs.declared.geometry.Kind.TheVariants.{Fd, Sb}
use Rattle.ds_base.specs.declared.names.Key.{Key}
use Rattle.ds_base.specs.declared.sectors.Sector.{Sector}
use Rattle.ds_bitmap.specs.Bits.{Bitmap, bits_bytes}
use Rattle.ds_dir.specs.SubBlock.{sub_bytes}
use Rattle.ds_dir.specs.declared.sub_block.Entry.{Entry}
use Rattle.ds_dir.specs.declared.sub_block.SubBlock.{SubBlock}
use Rattle.ds_fd.specs.Body.{body_bytes}
use Rattle.ds_fd.specs.declared.body.Body.{Body}
use Rattle.ds_layout.proofs.SamePlace.{same_place}
use Rattle.ds_layout.specs.Places.{place_sector}
use Rattle.ds_layout.specs.declared.places.Place.TheVariants as places
use Rattle.ds_tree.specs.Counts.{free_of}
use Rattle.ds_tree.specs.Nodes.{FileTree}
use Rattle.ds_tree.specs.Steps.{is_full}
use Rattle.ds_tree.specs.WellFormed.{IsTree}
use Rattle.ds_tree.specs.declared.calls.TreeReply.TheVariants.{Made}
use Rattle.ds_image_parts.specs.Logical.{laid_over}
use Rattle.ds_image_parts.specs.Objects.{subs_by, subs_of, entries_of, used_rooms, tree_of}
use Rattle.ds_image_parts.specs.Parts.{Parts, bits_in}
use Rattle.ds_image_parts.specs.Pending.{Pair}
use Rattle.ds_image_parts.specs.Readings.{ReadsParts}
use Rattle.ds_image.specs.Sound.{StandsFor}
use Rattle.ds_image.specs.SoundObjects.{AreNamesApart}
use Rattle.ds_image_parts.proofs.Journaling.LaidOver.{whole-laid_over}
use Rattle.ds_image.proofs.Spelling.SoundParts.{objects-of}
use Rattle.ds_plan_laws_new.specs.Entering.{subs_in, make_call}
use Rattle.ds_plan_laws_new.specs.Making.{ReadyToMake, ReadyToGrow, Leaves}
use Rattle.ds_image.proofs.Bits.{bits-at}
use Rattle.ds_plan_laws_new.proofs.Entered.{EntersParts, apart}
use Rattle.ds_plan_laws_new.proofs.FreeItems.{free-some}
use Rattle.ds_plan_laws_new.proofs.Frames.{reads-body, reads-map, reads-sub}
use Rattle.ds_plan_laws_new.proofs.Grown.{enters-grown, n-item}
use Rattle.ds_plan_laws_new.proofs.Makes.{leaves-made}
use Rattle.ds_plan_laws_new.proofs.Names.{by_name-length}
use Rattle.ds_plan_laws_new.specs.ChangedParts.{grown_with}
use Rattle.ds_plan_laws_new.specs.Redos.{two_pairs, grown_pairs}
use Rattle.ds_plan_laws_new.proofs.Spelling.{body-at, map-at, set-bits, alone-is_sub, begun-is_entry}

pub two-laid : (swapped : Bool) (image : List Sector) (a b : Pair) (pairs : List Pair) → a.0 ≢ b.0
    → laid_over image (two_pairs swapped a b pairs) ≡ laid_over image (two_pairs false a b pairs)
two-laid false image a b pairs differ = refl
two-laid true image a b pairs differ = ap (λ xs. laid_over xs pairs) (set_comm image b.0 a.0 b.1 a.1 (λ same. differ (sym same)))

module _ (g : Geom) (is : IsGeom g) (image : List Sector) (t : FileTree) (stands : StandsFor g image t)
    (key : Key) (dir : Body) (o : ℕ) (e : Entry) (new : Body) (c : ℕ) (map : Bitmap) (n : ℕ) (grown : Body) (c' : ℕ) (sub_map : Bitmap) (block : SubBlock)
    (make : ReadyToMake g stands.parts key dir o e new c map) (grow : ReadyToGrow g stands.parts dir n e grown c' sub_map block)
    (map_sector sub_map_sector dir_sector new_sector block_sector : Sector)
    (spells_map : map_sector.bytes ≡ bits_bytes map) (spells_sub_map : sub_map_sector.bytes ≡ bits_bytes sub_map)
    (spells_dir : dir_sector.bytes ≡ body_bytes grown) (spells_new : new_sector.bytes ≡ body_bytes new) (spells_block : block_sector.bytes ≡ sub_bytes block) where
  abbrev p : Parts
  p = stands.parts

  abbrev pub parts-after : Parts
  parts-after = grown_with p c c' key.object o n map sub_map grown new block

  abbrev pub after : Bool → List Sector
  after swapped = laid_over image (grown_pairs g swapped c c' key.object o n map_sector sub_map_sector dir_sector new_sector block_sector)

  abbrev first : List Sector
  first = slice_set image (place_sector g (places.Bitmap Fd c)) map_sector

  abbrev second : List Sector
  second = slice_set first (place_sector g (places.Bitmap Sb c')) sub_map_sector

  abbrev third : List Sector
  third = slice_set second (place_sector g (places.Body key.object)) dir_sector

  abbrev fourth : List Sector
  fourth = slice_set third (place_sector g (places.Body o)) new_sector

  length-first : length first ≡ length image
  length-first = length-set image (place_sector g (places.Bitmap Fd c)) map_sector

  length-second : length second ≡ length image
  length-second = length-set first (place_sector g (places.Bitmap Sb c')) sub_map_sector ∙ length-first

  length-third : length third ≡ length image
  length-third = length-set second (place_sector g (places.Body key.object)) dir_sector ∙ length-second

  length-fourth : length fourth ≡ length image
  length-fourth = length-set third (place_sector g (places.Body o)) new_sector ∙ length-third

  pub enters : EntersParts p parts-after key.object o dir grown new e
  enters = enters-grown g (slice_get image) p stands.reads stands.sound key.object o n c make.item c' grow.item dir grown new e map sub_map block
      make.is_item make.marks grow.is_item grow.marks make.begins make.lacks grow.adds

  pub n-within : n < items_of g Sb
  n-within = n-item g (slice_get image) p stands.reads stands.sound key.object o n c make.item c' grow.item dir grown new e map sub_map block
      make.is_item make.marks grow.is_item grow.marks make.begins make.lacks grow.adds

  pub grown-object : grown.object ≡ key.object
  grown-object = grow.adds.object ∙ ((stands.reads.bodies.each key.object (body-at g image p stands.reads key.object dir make.lacks.there).0 dir).0 make.lacks.there).0

  reads-in_order : ReadsParts g (slice_get (after false)) parts-after
  reads-in_order =
      let at-map = map-at g image p stands.reads Fd c make.marks.before make.marks.there in
      let at-sub_map = map-at g image p stands.reads Sb c' grow.marks.before grow.marks.there in
      let at-dir = body-at g image p stands.reads key.object dir make.lacks.there in
      let at-body = body-at g image p stands.reads o make.begins.before make.begins.there in
      let p1 : Parts = record p { fd_maps = slice_set p.fd_maps c (Some map) } in
      let p2 : Parts = record p1 { sb_maps = slice_set p.sb_maps c' (Some sub_map) } in
      let p3 : Parts = record p2 { bodies = slice_set p.bodies key.object (Some grown) } in
      let p4 : Parts = record p2 { bodies = slice_set (slice_set p.bodies key.object (Some grown)) o (Some new) } in
      let one = reads-map g image p Fd c map map_sector is at-map.0 at-map.1 (set-bits g image p stands.reads Fd c make.item true map make.marks) spells_map stands.reads in
      let two = reads-map g first p1 Sb c' sub_map sub_map_sector is at-sub_map.0 (omega (arith, at-sub_map.1, length-first))
      (set-bits g image p stands.reads Sb c' grow.item true sub_map grow.marks) spells_sub_map one in
      let three = reads-body g second p2 key.object grown dir_sector is at-dir.0 (omega (arith, at-dir.1, length-second)) grown-object grow.adds.is_body spells_dir two in
      let four = reads-body g third p3 o new new_sector is at-body.0 (omega (arith, at-body.1, length-third)) make.begins.object make.begins.is_body spells_new three in
      reads-sub g fourth p4 n block block_sector is n-within (omega (arith, n-within, stands.whole, length-fourth))
      (alone-is_sub e block (begun-is_entry p o e new make.begins make.named) grow.adds.alone) spells_block four

  bodies-apart : place_sector g (places.Body key.object) ≢ place_sector g (places.Body o)
  bodies-apart same =
      let at-dir = body-at g image p stands.reads key.object dir make.lacks.there in
      let at-body = body-at g image p stands.reads o make.begins.before make.begins.there in
      let one : places.Body key.object ≡ places.Body o = same_place g (places.Body key.object) (places.Body o) is at-dir.0 at-body.0 same in
      apart p parts-after key.object o dir grown new e enters.enters (let objects : o ≡ key.object = cc in objects)

  after-same : (swapped : Bool) → after swapped ≡ after false
  after-same swapped = two-laid swapped second (place_sector g (places.Body key.object), dir_sector) (place_sector g (places.Body o), new_sector)
      ((place_sector g (places.SubBlock n), block_sector) ∷ []) bodies-apart

  -- the parts that the image then spells
  pub grown-reads : (swapped : Bool) → ReadsParts g (slice_get (after swapped)) parts-after
  grown-reads swapped = subst (λ image'. ReadsParts g (slice_get image') parts-after) (sym (after-same swapped)) reads-in_order

  full : is_full (entries_of p (subs_in dir)) (4 * dir.count) ≡ true
  full =
      let names : AreNamesApart (used_rooms p (subs_in dir)) =
      subst (λ l. AreNamesApart (used_rooms p l)) (ap (λ body. subs_of body) make.lacks.there ∙ ap (subs_by dir) make.lacks.is_dir) (objects-of p stands.sound key.object).names in
      let count : maps.len (entries_of p (subs_in dir)) ≡ 4 * dir.count = by_name-length (used_rooms p (subs_in dir)) names ∙ grow.adds.full in
      grind (arith, nat_tests, count)

  sub-free : free_of g (tree_of p) Sb ≢ 0
  sub-free = free-some g (slice_get image) p stands.reads stands.sound Sb n
      (ap (slice_get (bits_in p.sb_maps)) (sym grow.is_item) ∙ bits-at g (slice_get image) Sb p.sb_maps c' grow.item grow.marks.before false (stands.reads.maps Sb) (stands.sound.maps Sb) grow.marks.there grow.marks.was)

  -- and it stands for what the call makes of the tree
  pub grown-leaves : (swapped : Bool) → Leaves g t (make_call e.kind key e.name) (Made e.key) (after swapped)
  grown-leaves swapped =
      subst (λ u. Leaves g u (make_call e.kind key e.name) (Made e.key) (after swapped)) (sym stands.tree)
      (leaves-made g image (after swapped) p parts-after stands.reads (grown-reads swapped) stands.sound key o dir grown new e enters
      grow.adds.is_body make.life make.named (subst (IsTree g) stands.tree stands.is_tree)
      (ap (λ count. 4 * count) grow.adds.count ∙ (let more : 4 * (dir.count + 1) ≡ 4 * dir.count + 4 = omega arith in more)
      ∙ sym (ap (λ b. cond b (4 * dir.count + 4) (4 * dir.count)) full))
      (λ _. sub-free)
      (whole-laid_over g image (grown_pairs g swapped c c' key.object o n map_sector sub_map_sector dir_sector new_sector block_sector) stands.whole))
