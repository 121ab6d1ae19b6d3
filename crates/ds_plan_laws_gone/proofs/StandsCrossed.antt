-- An image in which an entry of a file has left its directory for a free room of another one stands for the tree that the
-- call leaves.
use Rattle.std.proofs.Common.{◌≡◌, ◌≢◌, ℕ, ◌+◌, ◌*◌, Bool, true, false, cond, List, [], ◌∷◌, slice_get, slice_set, Some, None, refl, sym, ap, subst, ◌∙◌, length-set, arith}
use Rattle.std.specs.Prelude.{All}
use Rattle.std.proofs.lemmas.Bool.{false≢true}
use Rattle.std.proofs.lemmas.Bool.Decides.{nat_tests}
use Rattle.std.proofs.lemmas.List.Elements.{All-nil, All-cons}
use Rattle.ds_base.specs.Geometry.{IsGeom}
use Rattle.ds_base.specs.declared.geometry.Geom.{Geom}
use Rattle.ds_base.specs.declared.names.Key.{Key}
use Rattle.ds_base.specs.declared.sectors.Sector.{Sector}
use Rattle.ds_dir.specs.SubBlock.{IsEntry, IsSubBlock, sub_bytes}
use Rattle.ds_dir.specs.declared.sub_block.Entry.{Entry}
use Rattle.ds_dir.specs.declared.sub_block.SubBlock.{SubBlock}
use Rattle.ds_fd.specs.Body.{IsBody}
use Rattle.ds_fd.specs.declared.body.Body.{Body}
use Rattle.ds_layout.proofs.SamePlace.{same_place}
use Rattle.ds_layout.specs.Places.{place_sector}
use Rattle.ds_layout.specs.declared.places.Place.TheVariants as places
use Rattle.ds_tree.specs.Nodes.{FileTree}
use Rattle.ds_tree.specs.Steps.{is_full}
use Rattle.ds_tree.specs.WellFormed.{IsTree}
use Rattle.ds_tree.specs.declared.calls.CallOf.TheVariants.{Rename}
use Rattle.ds_tree.specs.declared.calls.TreeReply.TheVariants.{Moved}
use Rattle.ds_image.specs.Asking.{targets_of}
use Rattle.ds_image_parts.specs.Logical.{laid_over}
use Rattle.ds_image_parts.specs.Looks.{Look}
use Rattle.ds_image_parts.specs.Objects.{entries_of}
use Rattle.ds_image_tables.specs.Owns.{IsAt}
use Rattle.ds_image_parts.specs.Parts.{Parts, part_at}
use Rattle.ds_image_parts.specs.Pending.{Pair}
use Rattle.ds_image_parts.specs.Readings.{ReadsParts}
use Rattle.ds_image.specs.Sound.{StandsFor, IsSound, sub_lists}
use Rattle.ds_image_parts.proofs.Journaling.LaidOver.{whole-laid_over}
use Rattle.ds_image.proofs.Spelling.Sizes.{body_is}
use Rattle.ds_plan_laws_new.specs.Entering.{subs_in, FillsRoom}
use Rattle.ds_image.specs.Guards.{GuardedBy}
use Rattle.ds_plan_laws_new.specs.Making.{Leaves}
use Rattle.ds_plan_laws_new.proofs.Frames.{reads-sub}
use Rattle.ds_image.proofs.SectorGuards.{guard-sub_listed}
use Rattle.ds_plan_laws_new.proofs.Listed.{listed-in}
use Rattle.ds_plan_laws_new.proofs.Spelling.{sub-at}
use Rattle.ds_plan_laws_new.proofs.StandsGrown.{two-laid}
use Rattle.ds_plan_laws_new.specs.Redos.{two_pairs}
use Rattle.ds_plan_laws_gone.specs.Moving.{ReadyToLeave}
use Rattle.ds_plan_laws_gone.proofs.Crossing.{crossed, moves-crossed, subs-differ}
use Rattle.ds_plan_laws_gone.proofs.Emptied.{room-is_sub, room-is_entry}
use Rattle.ds_plan_laws_gone.proofs.Moved.{MovesParts}
use Rattle.ds_plan_laws_gone.proofs.MovedLeaves.{have-room, leaves-moved, moved-sound}
use Rattle.ds_plan_laws_gone.proofs.StandsRenamed.{renamed-is_entry}

-- an image with other sectors reads an entry's sub-block
pub sub-read : (g : Geom) (image : List Sector) (p : Parts) → ReadsParts g (slice_get image) p → (n : ℕ) (b : SubBlock) → part_at p.subs n ≡ Some b → IsSubBlock b
sub-read g image p reads n b there = ((reads.subs.each n (sub-at g image p reads n b there).0 b).0 there).0

-- the sectors of the redo: the sub-block that loses the entry stands before the other one, or behind it
abbrev pub crossed-pairs : Geom → Bool → ℕ → ℕ → Sector → Sector → List Pair
crossed-pairs g swapped n m from_sector to_sector =
    two_pairs swapped (place_sector g (places.SubBlock n), from_sector) (place_sector g (places.SubBlock m), to_sector) []

module _ (g : Geom) (is : IsGeom g) (image : List Sector) (t : FileTree) (stands : StandsFor g image t)
    (key to : Key) (dir to_dir : Body) (e fresh : Entry) (n : ℕ) (block : SubBlock) (ready : ReadyToLeave stands.parts key to dir to_dir e fresh n block)
    (m : ℕ) (block' : SubBlock) (fills : FillsRoom stands.parts to_dir m fresh block')
    (from_sector to_sector : Sector) (spells_from : from_sector.bytes ≡ sub_bytes block) (spells_to : to_sector.bytes ≡ sub_bytes block') where
  abbrev p : Parts
  p = stands.parts

  abbrev q : Parts
  q = crossed p n block m block'

  abbrev pub after : Bool → List Sector
  after swapped = laid_over image (crossed-pairs g swapped n m from_sector to_sector)

  moves : MovesParts p q key.object to.object dir to_dir to_dir e fresh
  moves = moves-crossed p stands.sound key to dir to_dir e fresh n block ready m block' fills

  is-sub : IsSubBlock ready.empties.before
  is-sub = sub-read g image p stands.reads n ready.empties.before ready.empties.there

  is-entry : IsEntry e
  is-entry = room-is_entry ready.empties.before ready.empties.room e is-sub ready.empties.used

  reads-in_order : ReadsParts g (slice_get (after false)) q
  reads-in_order =
      let at-first = sub-at g image p stands.reads n ready.empties.before ready.empties.there in
      let at-second = sub-at g image p stands.reads m fills.before fills.there in
      let first = slice_set image (place_sector g (places.SubBlock n)) from_sector in
      let one = reads-sub g image p n block from_sector is at-first.0 at-first.1
      (room-is_sub ready.empties.before block ready.empties.room None is-sub tt ready.empties.emptied) spells_from stands.reads in
      reads-sub g first (record p { subs = slice_set p.subs n (Some block) }) m block' to_sector is at-second.0
      (omega (arith, at-second.1, length-set image (place_sector g (places.SubBlock n)) from_sector))
      (room-is_sub fills.before block' fills.room (Some fresh) (sub-read g image p stands.reads m fills.before fills.there) (renamed-is_entry e fresh is-entry ready.renamed) fills.filled)
      spells_to one

  places-apart : place_sector g (places.SubBlock n) ≢ place_sector g (places.SubBlock m)
  places-apart same =
      let first = (sub-at g image p stands.reads n ready.empties.before ready.empties.there).0 in
      let second = (sub-at g image p stands.reads m fills.before fills.there).0 in
      let one : places.SubBlock n ≡ places.SubBlock m = same_place g (places.SubBlock n) (places.SubBlock m) is first second same in
      subs-differ p stands.sound key to dir to_dir e fresh n block ready m block' fills (let numbers : n ≡ m = cc in numbers)

  after-same : (swapped : Bool) → after swapped ≡ after false
  after-same swapped = two-laid swapped image (place_sector g (places.SubBlock n), from_sector) (place_sector g (places.SubBlock m), to_sector) [] places-apart

  -- the parts that the image then spells
  pub crossed-reads : (swapped : Bool) → ReadsParts g (slice_get (after swapped)) q
  crossed-reads swapped = subst (λ image'. ReadsParts g (slice_get image') q) (sym (after-same swapped)) reads-in_order

  to-body : IsBody to_dir
  to-body = body_is g (slice_get image) p to.object to_dir stands.reads ready.lacks.there

  not-full : is_full (entries_of p (subs_in to_dir)) (4 * to_dir.count) ≡ false
  not-full =
      let room = have-room g (after false) p q reads-in_order stands.sound key to dir to_dir to_dir e fresh moves to-body in
      grind (arith, nat_tests)

  -- and it stands for what the call leaves of the tree
  pub crossed-leaves : (swapped : Bool) → Leaves g t (Rename key e.name to fresh.name) (Moved e.key) (after swapped)
  crossed-leaves swapped =
      subst (λ u. Leaves g u (Rename key e.name to fresh.name) (Moved e.key) (after swapped)) (sym stands.tree)
      (leaves-moved g (after swapped) p q (crossed-reads swapped) stands.sound key to dir to_dir to_dir e fresh moves to-body
      ready.life ready.to_life is-entry.is_name ready.is_file (subst (IsTree g) stands.tree stands.is_tree)
      (sym (ap (λ b. cond b (4 * to_dir.count + 4) (4 * to_dir.count)) not-full))
      (λ full. absurd (false≢true (sym not-full ∙ full)))
      (whole-laid_over g image (crossed-pairs g swapped n m from_sector to_sector) stands.whole))

  -- Whoever holds both directories holds the guards of both sub-blocks, before and after.

  module _ (Held : ℕ → Type 0) (held_dir : Held key.object) (held_to : Held to.object) where
    crossed-guarded : (look : Look) (s : Parts) → ReadsParts g look s → IsSound s → IsAt (sub_lists s) key.object ready.empties.place n → IsAt (sub_lists s) to.object fills.place m
        → (swapped : Bool) → All (GuardedBy g look Held) (targets_of (crossed-pairs g swapped n m from_sector to_sector))
    crossed-guarded look s reads sound at at' swapped =
        let Is = GuardedBy g look Held in
        let a : ℕ = place_sector g (places.SubBlock n) in
        let b : ℕ = place_sector g (places.SubBlock m) in
        let first = (sub-at g image p stands.reads n ready.empties.before ready.empties.there).0 in
        let second = (sub-at g image p stands.reads m fills.before fills.there).0 in
        let by_dir : Is a = record { object = key.object; guards = guard-sub_listed g look s reads key.object ready.empties.place n first sound.sub_owners at; held = held_dir } in
        let by_to : Is b = record { object = to.object; guards = guard-sub_listed g look s reads to.object fills.place m second sound.sub_owners at'; held = held_to } in
        elim swapped as (λ w. All Is (targets_of (crossed-pairs g w n m from_sector to_sector))) [
          | false ↦ All-cons Is a (b ∷ []) by_dir (All-cons Is b [] by_to (All-nil Is))
          | true ↦ All-cons Is b (a ∷ []) by_to (All-cons Is a [] by_dir (All-nil Is))
        ]

    from-listed : (s : Parts) → s.bodies ≡ p.bodies → IsAt (sub_lists s) key.object ready.empties.place n
    from-listed s same =
        listed-in s key.object ready.empties.place n dir (ap (λ bs. part_at bs key.object) same ∙ ready.in_dir.there) ready.in_dir.is_dir ready.empties.listed

    to-listed : (s : Parts) → s.bodies ≡ p.bodies → IsAt (sub_lists s) to.object fills.place m
    to-listed s same = listed-in s to.object fills.place m to_dir (ap (λ bs. part_at bs to.object) same ∙ ready.lacks.there) ready.lacks.is_dir fills.listed

    pub crossed-guarded_before : (swapped : Bool) → All (GuardedBy g (slice_get image) Held) (targets_of (crossed-pairs g swapped n m from_sector to_sector))
    crossed-guarded_before = crossed-guarded (slice_get image) p stands.reads stands.sound (from-listed p refl) (to-listed p refl)

    pub crossed-guarded_after : (swapped : Bool) → All (GuardedBy g (slice_get (after swapped)) Held) (targets_of (crossed-pairs g swapped n m from_sector to_sector))
    crossed-guarded_after swapped =
        crossed-guarded (slice_get (after swapped)) q (crossed-reads swapped)
        (moved-sound g (after swapped) p q (crossed-reads swapped) stands.sound key to dir to_dir to_dir e fresh moves to-body) (from-listed q refl) (to-listed q refl) swapped
