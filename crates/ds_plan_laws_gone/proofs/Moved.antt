-- Parts of which an entry has left its directory for another one.
use Rattle.std.proofs.Common.{◌≡◌, ◌≢◌, ℕ, ◌*◌, ◌<◌, length, slice_get, Some, None, inl, inr, sym, ap, subst, ◌∙◌, get_or-set_same, get_or-set_other, length-set, arith}
use Rattle.std.specs.FinMap as maps
use Rattle.std.proofs.lemmas.Bool.{cases_eq}
use Rattle.ds_base.specs.declared.names.Key.{Key}
use Rattle.ds_dir.specs.declared.sub_block.Entry.{Entry}
use Rattle.ds_fd.specs.declared.body.Body.{Body}
use Rattle.ds_tree.specs.Nodes.{Entries, Node, Dir, Object, FileTree, unborn, object_at, birth_at, with_node}
use Rattle.ds_image_parts.specs.Objects.{node_by, object_of, entries_of, subs_of, subs_by, tree_of, used_rooms}
use Rattle.ds_image_parts.specs.Parts.{Parts, part_at}
use Rattle.ds_image.specs.Sound.{IsSound, IsNamedRight, rooms_used_by}
use Rattle.ds_image.specs.SoundObjects.{AreNamesApart}
use Rattle.ds_image.proofs.FileTrees.EntryNames.{find-at, get-entries}
use Rattle.ds_image.proofs.Spelling.Sizes.{part_within}
use Rattle.ds_image.proofs.FileTrees.TreeParts.{object-is}
use Rattle.ds_plan_laws_new.specs.Entering.{subs_in}
use Rattle.ds_plan_laws_new.specs.Puts.{IsPut}
use Rattle.ds_plan_laws_new.proofs.EnteredTrees.{dir-object}
use Rattle.ds_plan_laws_new.proofs.Names.{by_name-put, by_name-taken, apart-put, apart-taken}
use Rattle.ds_plan_laws_new.proofs.Puts.{put-at, put-kept}
use Rattle.ds_plan_laws_gone.specs.Leaving.{HasDir}
use Rattle.ds_plan_laws_gone.specs.Moving.{IsRenamed}
use Rattle.ds_plan_laws_gone.proofs.Gone.{put-here}
use Rattle.ds_plan_laws_gone.proofs.Kept.{KeepsObjects, AreEntriesRight, at-other, d-within, rooms-dir, rooms-dir_before, rooms-other}
use Rattle.ds_plan_laws_gone.proofs.KeptTrees.{same-trees, count-objects, count-kept, dir-kept, other-kept}
use Rattle.ds_plan_laws_gone.proofs.Renamed.{renamed-right}

-- the directory d has an entry less, and the directory r has the renamed one more
pub record MovesParts (p q : Parts) (d r : ℕ) (dir to_dir to_dir' : Body) (e fresh : Entry) : Type 0 where
  pub keeps : KeepsObjects p q r to_dir to_dir'
  pub in_dir : HasDir p d dir
  pub apart : d ≢ r
  pub renamed : IsRenamed e fresh
  pub absent : maps.get (entries_of p (subs_in to_dir)) fresh.name ≡ None
  pub taken : IsPut e (used_rooms q (subs_in dir)) (used_rooms p (subs_in dir))
  pub entered : IsPut fresh (used_rooms p (subs_in to_dir)) (used_rooms q (subs_in to_dir'))
  pub elsewhere : (k : ℕ) → k ≢ d → k ≢ r → used_rooms q (subs_of (part_at p.bodies k)) ≡ used_rooms p (subs_of (part_at p.bodies k))

module _ (p q : Parts) (d r : ℕ) (dir to_dir to_dir' : Body) (e fresh : Entry) (sound : IsSound p) (moves : MovesParts p q d r dir to_dir to_dir' e fresh) where
  keeps : KeepsObjects p q r to_dir to_dir'
  keeps = moves.keeps

  from-rooms : (s : Parts) → used_rooms s (subs_of (part_at p.bodies d)) ≡ used_rooms s (subs_in dir)
  from-rooms s = ap (λ b. used_rooms s (subs_of b)) moves.in_dir.there ∙ ap (λ kind. used_rooms s (subs_by dir kind)) moves.in_dir.is_dir

  from-apart : AreNamesApart (used_rooms p (subs_in dir))
  from-apart = subst AreNamesApart (from-rooms p) (sound.names d)

  to-apart : AreNamesApart (used_rooms p (subs_in to_dir))
  to-apart = subst AreNamesApart (rooms-dir_before p q r to_dir to_dir' keeps p) (sound.names r)

  from-right : (i : ℕ) (x : Entry) → slice_get (used_rooms p (subs_in dir)) i ≡ Some x → IsNamedRight p x
  from-right i x at = sound.entries d i x (subst (λ l. slice_get l i ≡ Some x) (sym (from-rooms p)) at)

  pub entry-right : IsNamedRight p e
  entry-right =
      let there = put-here e (used_rooms q (subs_in dir)) (used_rooms p (subs_in dir)) moves.taken in
      from-right there.0 e there.1

  from-after : rooms_used_by q d ≡ used_rooms q (subs_in dir)
  from-after = rooms-other p q r to_dir to_dir' keeps d moves.apart ∙ from-rooms q

  to-after : rooms_used_by q r ≡ used_rooms q (subs_in to_dir')
  to-after = rooms-dir p q r to_dir to_dir' keeps

  other-rooms : (k : ℕ) → k ≢ d → k ≢ r → rooms_used_by q k ≡ rooms_used_by p k
  other-rooms k not-d not-r = rooms-other p q r to_dir to_dir' keeps k not-r ∙ moves.elsewhere k not-d not-r

  from-entries : (i : ℕ) (x : Entry) → slice_get (used_rooms q (subs_in dir)) i ≡ Some x → IsNamedRight p x
  from-entries i x at =
      let was = put-kept e (used_rooms q (subs_in dir)) (used_rooms p (subs_in dir)) i x moves.taken at in
      from-right was.0 x was.1

  to-entries : (i : ℕ) (x : Entry) → slice_get (used_rooms q (subs_in to_dir')) i ≡ Some x → IsNamedRight p x
  to-entries i x at = elim (put-at fresh (used_rooms p (subs_in to_dir)) (used_rooms q (subs_in to_dir')) i x moves.entered at) [
    | inl here ↦ subst (IsNamedRight p) (sym here) (renamed-right p e fresh moves.renamed entry-right)
    | inr old ↦ sound.entries r old.0 x (subst (λ l. slice_get l old.0 ≡ Some x) (sym (rooms-dir_before p q r to_dir to_dir' keeps p)) old.1)
  ]

  -- the entries have names of their own again
  pub moved-entries : AreEntriesRight p q
  moved-entries = record {
    names = λ k. elim (cases_eq k r) [
      | inl here ↦ subst AreNamesApart (sym (ap (rooms_used_by q) here ∙ to-after))
          (apart-put fresh (used_rooms p (subs_in to_dir)) (used_rooms q (subs_in to_dir')) moves.entered moves.absent to-apart)
      | inr not-r ↦ elim (cases_eq k d) [
        | inl here ↦ subst AreNamesApart (sym (ap (rooms_used_by q) here ∙ from-after))
            (apart-taken e (used_rooms q (subs_in dir)) (used_rooms p (subs_in dir)) moves.taken from-apart)
        | inr not-d ↦ subst AreNamesApart (sym (other-rooms k not-d not-r)) (sound.names k)
      ]
    ];
    entries = λ k i x at. elim (cases_eq k r) [
      | inl here ↦ to-entries i x (subst (λ l. slice_get l i ≡ Some x) (ap (rooms_used_by q) here ∙ to-after) at)
      | inr not-r ↦ elim (cases_eq k d) [
        | inl here ↦ from-entries i x (subst (λ l. slice_get l i ≡ Some x) (ap (rooms_used_by q) here ∙ from-after) at)
        | inr not-d ↦ sound.entries k i x (subst (λ l. slice_get l i ≡ Some x) (other-rooms k not-d not-r) at)
      ]
    ];
  }

  abbrev pub entries : Entries
  entries = entries_of p (subs_in dir)

  abbrev pub to_entries : Entries
  to_entries = entries_of p (subs_in to_dir)

  abbrev t : FileTree
  t = tree_of p

  abbrev pub from-node : Node
  from-node = Dir (maps.remove entries e.name) (4 * dir.count)

  abbrev pub to-node : Node
  to-node = Dir (maps.insert to_entries fresh.name e.key.object) (4 * to_dir'.count)

  -- the entry of the name is the object
  pub found-entry : maps.get entries e.name ≡ Some e.key.object
  found-entry =
      let there = put-here e (used_rooms q (subs_in dir)) (used_rooms p (subs_in dir)) moves.taken in
      get-entries (used_rooms p (subs_in dir)) e.name ∙ find-at (used_rooms p (subs_in dir)) from-apart there.0 e there.1

  pub entered-names : entries_of q (subs_in to_dir') ≡ maps.insert to_entries fresh.name e.key.object
  entered-names =
      by_name-put fresh (used_rooms p (subs_in to_dir)) (used_rooms q (subs_in to_dir')) moves.entered moves.absent
      ∙ ap (λ (k : Key). maps.insert to_entries fresh.name k.object) moves.renamed.same_key

  taken-names : entries_of q (subs_in dir) ≡ maps.remove entries e.name
  taken-names = by_name-taken e (used_rooms q (subs_in dir)) (used_rooms p (subs_in dir)) moves.taken from-apart

  from-birth : birth_at t d ≡ dir.birth
  from-birth = ap (λ (x : Object). x.birth) (dir-object p d dir moves.in_dir.there moves.in_dir.is_dir)

  to-birth : birth_at t r ≡ to_dir.birth
  to-birth = ap (λ (x : Object). x.birth) (dir-object p r to_dir keeps.in_dir.there keeps.in_dir.is_dir)

  abbrev from-object : Object
  from-object = record { birth = birth_at t d; node = Some from-node }

  abbrev middle : FileTree
  middle = with_node t d from-node

  abbrev to-object : Object
  to-object = record { birth = birth_at middle r; node = Some to-node }

  middle-birth : birth_at middle r ≡ to_dir.birth
  middle-birth = ap (λ (x : Object). x.birth) (get_or-set_other t.objects d r from-object unborn (λ same. moves.apart (sym same))) ∙ to-birth

  from-kept : object_at (tree_of q) d ≡ from-object
  from-kept =
      object-is q d ∙ ap (object_of q) (at-other p q r to_dir to_dir' keeps d moves.apart ∙ moves.in_dir.there)
      ∙ ap (λ kind. record { birth = dir.birth; node = node_by q dir kind }) moves.in_dir.is_dir
      ∙ (λ i. record { birth = sym from-birth i; node = Some (Dir (taken-names i) (4 * dir.count)) })

  to-kept : object_at (tree_of q) r ≡ to-object
  to-kept =
      dir-kept p q r to_dir to_dir' keeps
      ∙ (λ i. record { birth = sym middle-birth i; node = Some (Dir (entered-names i) (4 * to_dir'.count)) })

  d-in : d < length t.objects
  d-in = omega (arith, count-objects p, part_within p.bodies d dir moves.in_dir.there)

  r-in : r < length middle.objects
  r-in = omega (arith, count-objects p, d-within p q r to_dir to_dir' keeps, length-set t.objects d from-object)

  -- just that entry stands elsewhere
  pub tree-moved : tree_of q ≡ with_node middle r to-node
  tree-moved =
      same-trees (tree_of q) (with_node middle r to-node)
      (count-kept p q r to_dir to_dir' keeps ∙ sym (length-set middle.objects r to-object ∙ length-set t.objects d from-object))
      (λ k. elim (cases_eq k r) [
        | inl here ↦
            ap (object_at (tree_of q)) here ∙ to-kept
            ∙ sym (ap (object_at (with_node middle r to-node)) here ∙ get_or-set_same middle.objects r to-object unborn r-in)
        | inr not-r ↦ elim (cases_eq k d) [
          | inl here ↦
              ap (object_at (tree_of q)) here ∙ from-kept
              ∙ sym (ap (object_at (with_node middle r to-node)) here ∙ get_or-set_other middle.objects r d to-object unborn moves.apart
              ∙ get_or-set_same t.objects d from-object unborn d-in)
          | inr not-d ↦
              other-kept p q r to_dir to_dir' keeps k not-r (moves.elsewhere k not-d not-r)
              ∙ sym (get_or-set_other middle.objects r k to-object unborn not-r ∙ get_or-set_other t.objects d k from-object unborn not-d)
        ]
      ])
