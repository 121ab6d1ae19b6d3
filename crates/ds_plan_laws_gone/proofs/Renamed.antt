-- Parts of which an entry stands under another name in its directory.
use Rattle.std.proofs.Common.{◌≡◌, ◌≢◌, ℕ, ◌*◌, Bool, true, false, cond, List, slice_get, Option, Some, None, inl, inr, refl, sym, ap, subst, ◌∙◌, get_or-set_same, get_or-set_other, length-set, arith}
use Rattle.std.specs.Cmp.Lexicographic.{nat_list_cmp_total}
use Rattle.std.specs.FinMap as maps
use Rattle.std.proofs.lemmas.Bool.{cases_eq}
use Rattle.ds_base.specs.declared.names.Key.{Key}
use Rattle.ds_dir.specs.declared.sub_block.Entry.{Entry}
use Rattle.ds_fd.specs.declared.body.Body.{Body}
use Rattle.ds_tree.specs.Nodes.{Entries, Node, Dir, Object, FileTree, unborn, object_at, birth_at, with_node}
use Rattle.ds_image_parts.specs.Objects.{entries_of, subs_of, tree_of, used_rooms}
use Rattle.ds_image_parts.specs.Parts.{Parts, part_at}
use Rattle.ds_image.specs.Sound.{IsSound, IsNamedRight, rooms_used_by}
use Rattle.ds_image.specs.SoundObjects.{AreNamesApart}
use Rattle.ds_image.proofs.FileTrees.EntryNames.{find-at, get-entries}
use Rattle.ds_plan_laws_new.specs.Entering.{subs_in}
use Rattle.ds_plan_laws_new.specs.Puts.{IsPut}
use Rattle.ds_plan_laws_new.proofs.EnteredTrees.{dir-object}
use Rattle.ds_plan_laws_new.proofs.Names.{by_name, same_name, by_name-put, by_name-taken, apart-put, apart-taken}
use Rattle.ds_plan_laws_new.proofs.Puts.{put-at, put-kept}
use Rattle.ds_plan_laws_gone.proofs.Gone.{put-here}
use Rattle.ds_plan_laws_gone.proofs.Kept.{KeepsObjects, AreEntriesRight, d-within, rooms-dir, rooms-dir_before, rooms-other}
use Rattle.ds_plan_laws_gone.proofs.KeptTrees.{same-trees, count-objects, count-kept, dir-kept, other-kept}
use Rattle.ds_plan_laws_gone.specs.Moving.{IsRenamed}

-- an entry of the same object, under whatever name, says its life and kind too
pub renamed-right : (p : Parts) (e fresh : Entry) → IsRenamed e fresh → IsNamedRight p e → IsNamedRight p fresh
renamed-right p e fresh renamed named = record {
  body = named.body;
  there = ap (λ (k : Key). part_at p.bodies k.object) renamed.same_key ∙ named.there;
  birth = named.birth ∙ ap (λ (k : Key). k.birth) (sym renamed.same_key);
  kind = named.kind ∙ ap Some (sym renamed.same_kind);
}

-- a name that is absent is so too when another one was taken away
pub absent-less : (e : Entry) (name : List ℕ) (less more : List Entry) → IsPut e less more → AreNamesApart more → maps.get (by_name more) name ≡ None
    → maps.get (by_name less) name ≡ None
absent-less e name less more put apart absent =
    ap (λ (m : Entries). maps.get m name) (by_name-taken e less more put apart) ∙ maps.get-remove nat_list_cmp_total (by_name more) e.name name
    ∙ ap (cond (same_name name e.name) None) absent ∙ neither (same_name name e.name)
  where
    neither : (b : Bool) → (let n : Option ℕ = cond b None None in n) ≡ None
    neither true = refl
    neither false = refl

-- in the directory one entry stands in the place of another
pub record RenamesParts (p q : Parts) (d : ℕ) (dir : Body) (e fresh : Entry) : Type 0 where
  pub keeps : KeepsObjects p q d dir dir
  pub renamed : IsRenamed e fresh
  pub absent : maps.get (entries_of p (subs_in dir)) fresh.name ≡ None
  pub others : List Entry
  pub taken : IsPut e others (used_rooms p (subs_in dir))
  pub entered : IsPut fresh others (used_rooms q (subs_in dir))
  pub elsewhere : (k : ℕ) → k ≢ d → used_rooms q (subs_of (part_at p.bodies k)) ≡ used_rooms p (subs_of (part_at p.bodies k))

module _ (p q : Parts) (d : ℕ) (dir : Body) (e fresh : Entry) (sound : IsSound p) (renames : RenamesParts p q d dir e fresh) where
  dir-apart : AreNamesApart (used_rooms p (subs_in dir))
  dir-apart = subst AreNamesApart (rooms-dir_before p q d dir dir renames.keeps p) (sound.names d)

  others-apart : AreNamesApart renames.others
  others-apart = apart-taken e renames.others (used_rooms p (subs_in dir)) renames.taken dir-apart

  others-lack : maps.get (by_name renames.others) fresh.name ≡ None
  others-lack = absent-less e fresh.name renames.others (used_rooms p (subs_in dir)) renames.taken dir-apart renames.absent

  was-right : (i : ℕ) (x : Entry) → slice_get (used_rooms p (subs_in dir)) i ≡ Some x → IsNamedRight p x
  was-right i x at = sound.entries d i x (subst (λ l. slice_get l i ≡ Some x) (sym (rooms-dir_before p q d dir dir renames.keeps p)) at)

  pub entry-right : IsNamedRight p e
  entry-right =
      let there = put-here e renames.others (used_rooms p (subs_in dir)) renames.taken in
      was-right there.0 e there.1

  dir-right : (i : ℕ) (x : Entry) → slice_get (used_rooms q (subs_in dir)) i ≡ Some x → IsNamedRight p x
  dir-right i x at = elim (put-at fresh renames.others (used_rooms q (subs_in dir)) i x renames.entered at) [
    | inl here ↦ subst (IsNamedRight p) (sym here) (renamed-right p e fresh renames.renamed entry-right)
    | inr old ↦
        let was = put-kept e renames.others (used_rooms p (subs_in dir)) old.0 x renames.taken old.1 in
        was-right was.0 x was.1
  ]

  other-rooms : (k : ℕ) → k ≢ d → rooms_used_by q k ≡ rooms_used_by p k
  other-rooms k other = rooms-other p q d dir dir renames.keeps k other ∙ renames.elsewhere k other

  -- the entries have names of their own again
  pub renamed-entries : AreEntriesRight p q
  renamed-entries = record {
    names = λ k. elim (cases_eq k d) [
      | inl here ↦ subst AreNamesApart (sym (ap (rooms_used_by q) here ∙ rooms-dir p q d dir dir renames.keeps))
          (apart-put fresh renames.others (used_rooms q (subs_in dir)) renames.entered others-lack others-apart)
      | inr other ↦ subst AreNamesApart (sym (other-rooms k other)) (sound.names k)
    ];
    entries = λ k i x at. elim (cases_eq k d) [
      | inl here ↦ dir-right i x (subst (λ l. slice_get l i ≡ Some x) (ap (rooms_used_by q) here ∙ rooms-dir p q d dir dir renames.keeps) at)
      | inr other ↦ sound.entries k i x (subst (λ l. slice_get l i ≡ Some x) (other-rooms k other) at)
    ];
  }

  abbrev pub entries : Entries
  entries = entries_of p (subs_in dir)

  abbrev t : FileTree
  t = tree_of p

  abbrev pub dir-node : Node
  dir-node = Dir (maps.insert (maps.remove entries e.name) fresh.name e.key.object) (4 * dir.count)

  -- the entry of the name is the object
  pub found-entry : maps.get entries e.name ≡ Some e.key.object
  found-entry =
      let there = put-here e renames.others (used_rooms p (subs_in dir)) renames.taken in
      get-entries (used_rooms p (subs_in dir)) e.name ∙ find-at (used_rooms p (subs_in dir)) dir-apart there.0 e there.1

  renamed-names : entries_of q (subs_in dir) ≡ maps.insert (maps.remove entries e.name) fresh.name e.key.object
  renamed-names =
      by_name-put fresh renames.others (used_rooms q (subs_in dir)) renames.entered others-lack
      ∙ ap (λ (m : Entries). maps.insert m fresh.name fresh.key.object) (by_name-taken e renames.others (used_rooms p (subs_in dir)) renames.taken dir-apart)
      ∙ ap (λ (k : Key). maps.insert (maps.remove entries e.name) fresh.name k.object) renames.renamed.same_key

  dir-birth : birth_at t d ≡ dir.birth
  dir-birth = ap (λ (x : Object). x.birth) (dir-object p d dir renames.keeps.in_dir.there renames.keeps.in_dir.is_dir)

  -- just that entry has another name
  pub tree-renamed : tree_of q ≡ with_node t d dir-node
  tree-renamed =
      same-trees (tree_of q) (with_node t d dir-node)
      (count-kept p q d dir dir renames.keeps ∙ sym (length-set t.objects d (record { birth = birth_at t d; node = Some dir-node })))
      (λ k. elim (cases_eq k d) [
        | inl here ↦
            ap (object_at (tree_of q)) here ∙ dir-kept p q d dir dir renames.keeps
            ∙ (λ i. record { birth = sym dir-birth i; node = Some (Dir (renamed-names i) (4 * dir.count)) })
            ∙ sym (ap (object_at (with_node t d dir-node)) here
            ∙ get_or-set_same t.objects d (record { birth = birth_at t d; node = Some dir-node }) unborn
            (omega (arith, count-objects p, d-within p q d dir dir renames.keeps)))
        | inr other ↦
            other-kept p q d dir dir renames.keeps k other (renames.elsewhere k other)
            ∙ sym (get_or-set_other t.objects d k (record { birth = birth_at t d; node = Some dir-node }) unborn other)
      ])
