-- An image from which an object went with its entry stands for the tree that the call leaves.
use Rattle.std.proofs.Common.{◌≡◌, ℕ, ◌*◌, List, [], ◌∷◌, ◌++◌, length, slice_get, slice_set, Some, None, refl, sym, ap, subst, ◌∙◌, length-set, arith}
use Rattle.ds_base.specs.Geometry.{IsGeom}
use Rattle.ds_base.specs.declared.geometry.Geom.{Geom}
use Rattle.ds_base.specs.declared.names.Key.{Key}
use Rattle.ds_base.specs.declared.sectors.Sector.{Sector}
use Rattle.ds_dir.specs.SubBlock.{IsEntry, IsSubBlock, sub_bytes}
use Rattle.ds_dir.specs.declared.sub_block.Entry.{Entry}
use Rattle.ds_dir.specs.declared.sub_block.SubBlock.{SubBlock}
use Rattle.ds_fd.specs.Body.{body_bytes}
use Rattle.ds_fd.specs.declared.body.Body.{Body}
use Rattle.ds_layout.specs.Places.{place_sector}
use Rattle.ds_layout.specs.declared.places.Place.TheVariants as places
use Rattle.ds_tree.specs.Nodes.{Dir, Object, FileTree, node_at, node_of_key}
use Rattle.ds_tree.specs.WellFormed.{IsTree}
use Rattle.ds_tree.specs.declared.calls.TreeReply.TheVariants.{Gone}
use Rattle.ds_image_parts.specs.Logical.{laid_over}
use Rattle.ds_image_parts.specs.Objects.{entries_of, tree_of}
use Rattle.ds_image_parts.specs.Parts.{Parts}
use Rattle.ds_image_parts.specs.Pending.{Pair}
use Rattle.ds_image_parts.specs.Readings.{ReadsParts}
use Rattle.ds_image.specs.Sound.{StandsFor}
use Rattle.ds_image_parts.proofs.Journaling.LaidOver.{length-laid_over, laid_over-append, whole-laid_over}
use Rattle.ds_plan_laws_new.specs.Entering.{subs_in}
use Rattle.ds_plan_laws_new.specs.Making.{Leaves}
use Rattle.ds_plan_laws_new.proofs.EnteredTrees.{dir-object}
use Rattle.ds_plan_laws_new.proofs.Frames.{reads-body, reads-sub}
use Rattle.ds_plan_laws_new.proofs.Granting.{key-node}
use Rattle.ds_plan_laws_new.proofs.Spelling.{body-at, sub-at}
use Rattle.ds_plan_laws_gone.specs.Leaving.{ReadyToGo, given_up, changed_parts, go_call}
use Rattle.ds_plan_laws_gone.specs.MapWrites.{MapWrite, map_pairs, with_all_maps, IsClearedOf}
use Rattle.ds_plan_laws_gone.proofs.Emptied.{room-is_sub, room-is_entry, goes-emptied}
use Rattle.ds_plan_laws_gone.proofs.Going.{bare-can_go, CanGo, go-does, go-is_tree}
use Rattle.ds_plan_laws_gone.proofs.Gone.{GoesFrom, gone-sound, old-kind}
use Rattle.ds_plan_laws_gone.proofs.GoneTrees.{found-entry, gone-removes, old-object}
use Rattle.ds_plan_laws_gone.proofs.MapWrites.{clears-change, changes-read}

-- the sectors of the redo, in their order
abbrev pub gone-pairs : Geom → List MapWrite → ℕ → ℕ → Sector → Sector → List Pair
gone-pairs g writes o n body_sector block_sector =
    map_pairs g writes ++ (place_sector g (places.Body o), body_sector) ∷ (place_sector g (places.SubBlock n), block_sector) ∷ []

module _ (g : Geom) (is : IsGeom g) (image : List Sector) (t : FileTree) (stands : StandsFor g image t)
    (key : Key) (dir : Body) (e : Entry) (old new : Body) (n : ℕ) (block : SubBlock) (writes : List MapWrite)
    (ready : ReadyToGo g stands.parts key dir e old new n block writes)
    (body_sector block_sector : Sector) (spells_body : body_sector.bytes ≡ body_bytes new) (spells_block : block_sector.bytes ≡ sub_bytes block) where
  abbrev p : Parts
  p = stands.parts

  abbrev o : ℕ
  o = e.key.object

  abbrev q : Parts
  q = changed_parts p writes o new n block

  abbrev pub after : List Sector
  after = laid_over image (gone-pairs g writes o n body_sector block_sector)

  abbrev first : List Sector
  first = laid_over image (map_pairs g writes)

  abbrev second : List Sector
  second = slice_set first (place_sector g (places.Body o)) body_sector

  length-first : length first ≡ length image
  length-first = length-laid_over image (map_pairs g writes)

  length-second : length second ≡ length image
  length-second = length-set first (place_sector g (places.Body o)) body_sector ∙ length-first

  is-sub : IsSubBlock ready.empties.before
  is-sub = ((stands.reads.subs.each n (sub-at g image p stands.reads n ready.empties.before ready.empties.there).0 ready.empties.before).0 ready.empties.there).0

  is-entry : IsEntry e
  is-entry = room-is_entry ready.empties.before ready.empties.room e is-sub ready.empties.used

  -- the parts that the image then spells
  pub gone-reads : ReadsParts g (slice_get after) q
  gone-reads =
      let changes = clears-change g is image p stands.reads stands.sound.maps writes (given_up p o old) ready.clears in
      let one = changes-read g is image p stands.reads stands.sound.maps writes (IsClearedOf (given_up p o old)) changes in
      let at-body = body-at g image p stands.reads o old ready.ends.there in
      let at-sub = sub-at g image p stands.reads n ready.empties.before ready.empties.there in
      let two = reads-body g first (with_all_maps p writes) o new body_sector is at-body.0 (omega (arith, at-body.1, length-first)) ready.ends.object ready.ends.is_body spells_body one in
      let three = reads-sub g second (record (with_all_maps p writes) { bodies = slice_set (with_all_maps p writes).bodies o (Some new) }) n block block_sector is at-sub.0
      (omega (arith, at-sub.1, length-second)) (room-is_sub ready.empties.before block ready.empties.room None is-sub tt ready.empties.emptied) spells_block two in
      subst (λ sectors. ReadsParts g (slice_get sectors) q)
      (sym (laid_over-append image (map_pairs g writes) ((place_sector g (places.Body o), body_sector) ∷ (place_sector g (places.SubBlock n), block_sector) ∷ []))) three

  pub goes : GoesFrom p q key.object dir e old new
  goes = goes-emptied g is image p stands.reads stands.sound key dir e old new n block writes ready

  pub tree : IsTree g (tree_of p)
  tree = subst (IsTree g) stands.tree stands.is_tree

  dir-is : node_of_key (tree_of p) key ≡ Some (Dir (entries_of p (subs_in dir)) (4 * dir.count))
  dir-is =
      let object = dir-object p key.object dir ready.in_dir.there ready.in_dir.is_dir in
      key-node (tree_of p) key dir.birth (ap (λ (x : Object). x.birth) object) ready.life ∙ ap (λ (x : Object). x.node) object

  can-go : CanGo e.kind (node_at (tree_of p) o)
  can-go =
      subst (CanGo e.kind) (sym (ap (λ (x : Object). x.node) (old-object g p q key.object dir e old new stands.sound goes)))
      (bare-can_go p old e.kind (old-kind g p q key.object dir e old new stands.sound goes) ready.ends.bare)

  -- and it stands for what the call leaves of the tree
  pub gone-leaves : Leaves g t (go_call e.kind key e.name) (Gone e.key) after
  gone-leaves =
      let removes = gone-removes g p q key.object dir e old new stands.sound goes key refl in
      let found = found-entry g p q key.object dir e old new stands.sound goes in
      subst (λ u. Leaves g u (go_call e.kind key e.name) (Gone e.key) after) (sym stands.tree)
      (record {
        u = tree_of q;
        stands = record {
          parts = q;
          whole = whole-laid_over g image (gone-pairs g writes o n body_sector block_sector) stands.whole;
          reads = gone-reads;
          sound = gone-sound g p q key.object dir e old new stands.sound goes tree;
          tree = refl;
          is_tree = go-is_tree g (tree_of p) key e.name (entries_of p (subs_in dir)) (4 * dir.count) o dir-is found tree is-entry.is_name e.kind can-go e.key (tree_of q) removes;
        };
        does = go-does g (tree_of p) key e.name (entries_of p (subs_in dir)) (4 * dir.count) o dir-is found e.kind can-go e.key (tree_of q) removes;
      })
