-- An image of which a sub-block has an entry under another name stands for the tree that the call leaves.
use Rattle.std.proofs.Common.{◌≡◌, ◌≢◌, ℕ, ◌*◌, ◌<◌, List, [], ◌∷◌, length, slice_get, slice_set, Option, Some, None, IsSome, refl, sym, ap, subst, ◌∙◌, get_or, get_or-set_same, get_or-set_other, arith}
use Rattle.std.specs.Prelude.{All}
use Rattle.std.proofs.lemmas.List.{set-get_or, set-set}
use Rattle.std.proofs.lemmas.List.Elements.{All-nil, All-cons}
use Rattle.std.proofs.lemmas.Option.{slice_get_within}
use Rattle.ds_base.specs.Geometry.{IsGeom}
use Rattle.ds_base.specs.declared.geometry.Geom.{Geom}
use Rattle.ds_base.specs.declared.names.Key.{Key}
use Rattle.ds_base.specs.declared.sectors.Sector.{Sector}
use Rattle.ds_base.specs.declared.names.NodeKind.TheVariants as kinds
use Rattle.ds_dir.specs.SubBlock.{IsEntry, IsSubBlock, sub_bytes}
use Rattle.ds_dir.specs.declared.sub_block.Entry.{Entry}
use Rattle.ds_dir.specs.declared.sub_block.SubBlock.{SubBlock}
use Rattle.ds_fd.specs.declared.body.Body.{Body}
use Rattle.ds_layout.specs.Places.{place_sector}
use Rattle.ds_layout.specs.declared.places.Place.TheVariants as places
use Rattle.ds_tree.specs.Nodes.{Dir, Object, FileTree, birth_at, node_of_key}
use Rattle.ds_tree.specs.Steps.{Renames, refusal}
use Rattle.ds_tree.specs.WellFormed.{IsTree}
use Rattle.ds_tree.specs.declared.calls.CallOf.TheVariants.{Rename}
use Rattle.ds_tree.specs.declared.calls.TreeReply.TheVariants.{Moved}
use Rattle.ds_image.specs.Asking.{targets_of}
use Rattle.ds_image_parts.specs.Logical.{laid_over}
use Rattle.ds_image_parts.specs.Looks.{Look}
use Rattle.ds_image_parts.specs.Objects.{object_of, entries_of, rooms_in, subs_of, subs_by, tree_of, used_rooms}
use Rattle.ds_image_tables.specs.Owns.{IsAt}
use Rattle.ds_image_parts.specs.Parts.{Parts, part_at}
use Rattle.ds_image_parts.specs.Pending.{Pair}
use Rattle.ds_image_parts.specs.Readings.{ReadsParts}
use Rattle.ds_image.specs.Sound.{StandsFor, IsSound, IsNamedRight, sub_lists}
use Rattle.ds_image_parts.proofs.Journaling.LaidOver.{whole-laid_over}
use Rattle.ds_image.proofs.Spelling.Sizes.{part_within}
use Rattle.ds_image.proofs.Spelling.SoundParts.{objects-of}
use Rattle.ds_image.proofs.FileTrees.TreeParts.{object-is}
use Rattle.ds_plan_laws_new.specs.Entering.{subs_in}
use Rattle.ds_image.specs.Guards.{GuardedBy}
use Rattle.ds_plan_laws_new.specs.Making.{Leaves}
use Rattle.ds_plan_laws_new.specs.Puts.{IsPut}
use Rattle.ds_plan_laws_new.proofs.EnteredTrees.{dir-object}
use Rattle.ds_image_parts.proofs.Journaling.LaidOver.{slice_get-set_same}
use Rattle.ds_plan_laws_new.proofs.Frames.{reads-sub}
use Rattle.ds_plan_laws_new.proofs.Granting.{key-node}
use Rattle.ds_image.proofs.SectorGuards.{guard-sub_listed}
use Rattle.ds_plan_laws_new.proofs.Listed.{listed-by, listed-in, part-put}
use Rattle.ds_plan_laws_new.proofs.Puts.{in_use, put-room, put-room_back}
use Rattle.ds_plan_laws_new.proofs.Rooms.{used_in, used-same, used-put}
use Rattle.ds_plan_laws_new.proofs.Spelling.{sub-at}
use Rattle.ds_plan_laws_gone.specs.Moving.{IsRenamed, ReadyToRename}
use Rattle.ds_plan_laws_gone.proofs.Emptied.{room-is_sub, room-is_entry}
use Rattle.ds_plan_laws_gone.proofs.Kept.{KeepsObjects, kept-sound}
use Rattle.ds_plan_laws_gone.proofs.Renamed.{RenamesParts, entry-right, renamed-entries, found-entry, tree-renamed}
use Rattle.ds_plan_laws_gone.proofs.Renaming.{rename-does, rename-is_tree, inside-granted, inside-renames}

-- an entry under another name is one
pub renamed-is_entry : (e fresh : Entry) → IsEntry e → IsRenamed e fresh → IsEntry fresh
renamed-is_entry e fresh is renamed =
    let object : fresh.key.object ≡ e.key.object = ap (λ (k : Key). k.object) renamed.same_key in
    let birth : fresh.key.birth ≡ e.key.birth = ap (λ (k : Key). k.birth) renamed.same_key in
    record {
      is_name = renamed.named;
      object_fits = omega (arith, object, is.object_fits);
      birth_from = omega (arith, birth, is.birth_from);
      birth_to = omega (arith, birth, is.birth_to);
    }

-- the object that an entry names, in the life that it says
pub entry-life : (p : Parts) (e : Entry) → IsNamedRight p e → birth_at (tree_of p) e.key.object ≡ e.key.birth
entry-life p e named =
    ap (λ (x : Object). x.birth) (object-is p e.key.object ∙ ap (object_of p) named.there) ∙ named.birth

-- the node of a directory's key
pub dir-node_of_key : (p : Parts) (key : Key) (dir : Body) → part_at p.bodies key.object ≡ Some dir → dir.kind ≡ Some kinds.Dir → dir.birth ≡ key.birth
    → node_of_key (tree_of p) key ≡ Some (Dir (entries_of p (subs_in dir)) (4 * dir.count))
dir-node_of_key p key dir there is_dir life =
    let object = dir-object p key.object dir there is_dir in
    key-node (tree_of p) key dir.birth (ap (λ (x : Object). x.birth) object) life ∙ ap (λ (x : Object). x.node) object

module _ (g : Geom) (is : IsGeom g) (image : List Sector) (t : FileTree) (stands : StandsFor g image t)
    (key to : Key) (dir : Body) (e fresh : Entry) (n : ℕ) (block : SubBlock) (ready : ReadyToRename stands.parts key to dir e fresh n block)
    (block_sector : Sector) (spells_block : block_sector.bytes ≡ sub_bytes block) where
  abbrev p : Parts
  p = stands.parts

  abbrev d : ℕ
  d = key.object

  -- the sector of the redo
  abbrev pub renamed-pairs : List Pair
  renamed-pairs = (place_sector g (places.SubBlock n), block_sector) ∷ []

  abbrev pub after : List Sector
  after = laid_over image renamed-pairs

  abbrev q : Parts
  q = record p { subs = slice_set p.subs n (Some block) }

  abbrev rooms : List (Option Entry)
  rooms = ready.rewrites.before.rooms

  abbrev emptied : SubBlock
  emptied = record ready.rewrites.before { rooms = slice_set rooms ready.rewrites.room None }

  -- the parts in between, without the entry
  abbrev r : Parts
  r = record p { subs = slice_set p.subs n (Some emptied) }

  n-within : n < length p.subs
  n-within = part_within p.subs n ready.rewrites.before ready.rewrites.there

  room-within : ready.rewrites.room < length rooms
  room-within = slice_get_within rooms ready.rewrites.room (Some e) ready.rewrites.used

  other-sub : (b : SubBlock) (m : ℕ) → m ≢ n → part_at (slice_set p.subs n (Some b)) m ≡ part_at p.subs m
  other-sub b m other = get_or-set_other p.subs n m (Some b) None other

  here-sub : (b : SubBlock) → part_at (slice_set p.subs n (Some b)) n ≡ Some b
  here-sub b = get_or-set_same p.subs n (Some b) None n-within

  -- the directory lists the sub-block once, and no other object lists it
  not-there : (k i m : ℕ) → slice_get (subs_of (part_at p.bodies k)) i ≡ Some m → k ≢ d → m ≢ n
  not-there k i m at other same =
      other (stands.sound.sub_owners.once k i d ready.rewrites.place n (listed-by p k i n (at ∙ ap Some same))
      (listed-in p d ready.rewrites.place n dir ready.lacks.there ready.lacks.is_dir ready.rewrites.listed)).0

  once-there : (i m : ℕ) → slice_get (subs_in dir) i ≡ Some m → i ≢ ready.rewrites.place → m ≢ n
  once-there i m at other same =
      other (stands.sound.sub_owners.once d i d ready.rewrites.place n (listed-in p d i n dir ready.lacks.there ready.lacks.is_dir (at ∙ ap Some same))
      (listed-in p d ready.rewrites.place n dir ready.lacks.there ready.lacks.is_dir ready.rewrites.listed)).1

  room-taken : IsPut e (used_in r n) (used_in p n)
  room-taken =
      subst (λ s. IsPut e (used_in r n) (in_use (rooms_in s))) (sym ready.rewrites.there)
      (subst (λ s. IsPut e (in_use (rooms_in s)) (in_use rooms)) (sym (here-sub emptied))
      (put-room_back e rooms ready.rewrites.room ready.rewrites.used))

  room-entered : IsPut fresh (used_in r n) (used_in q n)
  room-entered =
      subst (λ s. IsPut fresh (in_use (rooms_in s)) (used_in q n)) (sym (here-sub emptied))
      (subst (λ s. IsPut fresh (in_use emptied.rooms) (in_use (rooms_in s))) (sym (here-sub block))
      (subst (λ l. IsPut fresh (in_use emptied.rooms) (in_use l)) (set-set rooms ready.rewrites.room None (Some fresh) ∙ sym ready.rewrites.rewritten)
      (put-room fresh emptied.rooms ready.rewrites.room (slice_get-set_same rooms ready.rewrites.room None room-within))))

  keeps-renamed : KeepsObjects p q d dir dir
  keeps-renamed = record {
    in_dir = record { there = ready.lacks.there; is_dir = ready.lacks.is_dir };
    bodies = sym (ap (slice_set p.bodies d) (sym ready.lacks.there) ∙ set-get_or p.bodies d None);
    dir_kind = ready.lacks.is_dir;
    dir_birth = refl;
    spelled = part-put p.subs n block n-within;
    dir_spelled =
        let was = subst (All (λ m. IsSome (part_at p.subs m))) (ap subs_of ready.lacks.there ∙ ap (subs_by dir) ready.lacks.is_dir) (objects-of p stands.sound d).subs in
        λ i m l. part-put p.subs n block n-within (get_or (subs_in dir) i m) (was i m l);
    ptrs = refl;
    maps = stands.sound.maps;
    fd_maps = refl;
    pb_maps = refl;
    fb_maps = refl;
    sub_owners = stands.sound.sub_owners;
  }

  renames : RenamesParts p q d dir e fresh
  renames = record {
    keeps = keeps-renamed;
    renamed = ready.renamed;
    absent = ready.lacks.absent;
    others = used_rooms r (subs_in dir);
    taken = used-put r p (subs_in dir) ready.rewrites.place n e ready.rewrites.listed (λ i m at other. sym (other-sub emptied m (once-there i m at other))) room-taken;
    entered = used-put r q (subs_in dir) ready.rewrites.place n fresh ready.rewrites.listed
        (λ i m at other. other-sub block m (once-there i m at other) ∙ sym (other-sub emptied m (once-there i m at other))) room-entered;
    elsewhere = λ k other. used-same p q (subs_of (part_at p.bodies k)) (λ i m at. other-sub block m (not-there k i m at other));
  }

  is-sub : IsSubBlock ready.rewrites.before
  is-sub = ((stands.reads.subs.each n (sub-at g image p stands.reads n ready.rewrites.before ready.rewrites.there).0 ready.rewrites.before).0 ready.rewrites.there).0

  is-entry : IsEntry e
  is-entry = room-is_entry ready.rewrites.before ready.rewrites.room e is-sub ready.rewrites.used

  -- the parts that the image then spells
  pub renamed-reads : ReadsParts g (slice_get after) q
  renamed-reads =
      let at-sub = sub-at g image p stands.reads n ready.rewrites.before ready.rewrites.there in
      reads-sub g image p n block block_sector is at-sub.0 at-sub.1
      (room-is_sub ready.rewrites.before block ready.rewrites.room (Some fresh) is-sub (renamed-is_entry e fresh is-entry ready.renamed) ready.rewrites.rewritten)
      spells_block stands.reads

  renamed-sound : IsSound q
  renamed-sound = kept-sound p q d dir dir keeps-renamed stands.sound (renamed-entries p q d dir e fresh stands.sound renames)

  granted : refusal g (tree_of p) (Rename key e.name to fresh.name) ≡ None
  granted =
      inside-granted g (tree_of p) key to e.name fresh.name e.key.object (entries_of p (subs_in dir)) (4 * dir.count) (sym ready.same_object)
      (dir-node_of_key p key dir ready.lacks.there ready.lacks.is_dir ready.life)
      (dir-node_of_key p to dir (ap (part_at p.bodies) ready.same_object ∙ ready.lacks.there) ready.lacks.is_dir ready.to_life)
      (found-entry p q d dir e fresh stands.sound renames) ready.lacks.absent

  done : Renames (tree_of p) key e.name to fresh.name e.key (tree_of q)
  done =
      inside-renames g (tree_of p) key to e.name fresh.name e.key.object (entries_of p (subs_in dir)) (4 * dir.count) (sym ready.same_object)
      (dir-node_of_key p key dir ready.lacks.there ready.lacks.is_dir ready.life)
      (dir-node_of_key p to dir (ap (part_at p.bodies) ready.same_object ∙ ready.lacks.there) ready.lacks.is_dir ready.to_life)
      (found-entry p q d dir e fresh stands.sound renames) ready.lacks.absent e.key (tree_of q) refl
      (entry-life p e (entry-right p q d dir e fresh stands.sound renames))
      (ap (λ (x : Object). x.node) (dir-object p d dir ready.lacks.there ready.lacks.is_dir))
      (tree-renamed p q d dir e fresh stands.sound renames)

  -- and it stands for what the call leaves of the tree
  pub renamed-leaves : Leaves g t (Rename key e.name to fresh.name) (Moved e.key) after
  renamed-leaves =
      subst (λ u. Leaves g u (Rename key e.name to fresh.name) (Moved e.key) after) (sym stands.tree)
      (record {
        u = tree_of q;
        stands = record {
          parts = q;
          whole = whole-laid_over g image renamed-pairs stands.whole;
          reads = renamed-reads;
          sound = renamed-sound;
          tree = refl;
          is_tree = rename-is_tree g (tree_of p) key to e.name fresh.name e.key (tree_of q) (subst (IsTree g) stands.tree stands.is_tree) is-entry.is_name ready.renamed.named granted done;
        };
        does = rename-does g (tree_of p) key to e.name fresh.name e.key (tree_of q) granted done;
      })

  -- Whoever holds the directory holds the guard of the sub-block, before and after.

  module _ (Held : ℕ → Type 0) (held_dir : Held key.object) where
    renamed-guarded : (look : Look) (s : Parts) → ReadsParts g look s → IsSound s → IsAt (sub_lists s) d ready.rewrites.place n → All (GuardedBy g look Held) (targets_of renamed-pairs)
    renamed-guarded look s reads sound at =
        let sub = (sub-at g image p stands.reads n ready.rewrites.before ready.rewrites.there).0 in
        All-cons (GuardedBy g look Held) (place_sector g (places.SubBlock n)) []
        (record { object = d; guards = guard-sub_listed g look s reads d ready.rewrites.place n sub sound.sub_owners at; held = held_dir })
        (All-nil (GuardedBy g look Held))

    pub renamed-guarded_before : All (GuardedBy g (slice_get image) Held) (targets_of renamed-pairs)
    renamed-guarded_before =
        renamed-guarded (slice_get image) p stands.reads stands.sound (listed-in p d ready.rewrites.place n dir ready.lacks.there ready.lacks.is_dir ready.rewrites.listed)

    pub renamed-guarded_after : All (GuardedBy g (slice_get after) Held) (targets_of renamed-pairs)
    renamed-guarded_after =
        renamed-guarded (slice_get after) q renamed-reads renamed-sound (listed-in q d ready.rewrites.place n dir ready.lacks.there ready.lacks.is_dir ready.rewrites.listed)
