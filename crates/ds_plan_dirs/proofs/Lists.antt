-- A List asks for what it may, and answers what the tree says.
use Rattle.std.proofs.Common.{◌≡◌, ℕ, suc, ◌+◌, ◌*◌, ◌&&◌, Bool, true, false, cond, List, [], ◌∷◌, length, take, map, Option, None, Some, refl, sym, ap, subst, ◌∙◌, arith, slice_get}
use Rattle.std.specs.Prelude.{T, option_map, is_some, bytes_eq}
use Rattle.std.specs.List.{take-map}
use Rattle.std.specs.Cmp.Lexicographic.{nat_list_cmp_total}
use Rattle.std.specs.FinMap as maps
use Rattle.std.specs.Ordering.{is_lt, eq_by_cmp}
use Rattle.std.proofs.lemmas.Map.Keys.{IsDistinct-tail}
use Rattle.std.specs.FinMap.Entries.{find, is_sorted, below_all, where_key, find-where_key, is_sorted-where_key, same_entries}
use Rattle.std.specs.declared.cmp.Ordering.TheVariants.{Equal}
use Rattle.ds_base.specs.declared.geometry.Geom.{Geom}
use Rattle.ds_base.specs.declared.names.Key.{Key}
use Rattle.ds_base.specs.declared.names.NodeKind.TheVariants as kinds
use Rattle.ds_base.specs.declared.sectors.Sector.{Sector}
use Rattle.ds_dir.specs.declared.sub_block.Entry.{Entry}
use Rattle.ds_fd.specs.declared.body.Body.{Body}
use Rattle.ds_image_parts.specs.Objects.{subs_by, subs_of, used_rooms, entries_of}
use Rattle.ds_image_parts.specs.Parts.{Parts, part_at}
use Rattle.ds_image_parts.specs.Readings.{ReadsParts}
use Rattle.ds_image.specs.SeenValues.{SeenValue, look_of}
use Rattle.ds_image.specs.Sound.{StandsFor, IsNamedRight}
use Rattle.ds_image.specs.SoundObjects.{AreNamesApart}
use Rattle.ds_image.specs.declared.asks.Ask.{Ask}
use Rattle.ds_image.specs.declared.asks.Ask.TheVariants as asks
use Rattle.ds_image.proofs.FileTrees.EntryNames.{pairs, find-some, apart-index, get-entries}
use Rattle.ds_plan_dirs.specs.Answers.{list_known}
use Rattle.ds_plan_dirs.proofs.Lookups.{dir_named}
use Rattle.ds_plan_dirs.specs.Pages.{name_cmp, name_key, entries_past, keys_by_name, page_names, page_of}
use Rattle.ds_plan_base.specs.Bodies.{dir_of_key}
use Rattle.ds_plan_base.proofs.DirAsks.{DirAsks}
use Rattle.ds_plan_base.proofs.DirSeen.{HasDir, AreAllIn}
use Rattle.ds_plan_base.specs.Entries.{subs_known}
use Rattle.ds_plan_base.specs.Steps.{after, settled}
use Rattle.ds_plan_base.proofs.Dirs.{dir_goes, dir_in, object_in}
use Rattle.ds_plan_base.proofs.Finding.{whole_goes}
use Rattle.ds_plan_base.proofs.Going.{goes-after, goes-settled}
use Rattle.ds_tree.specs.Nodes.{Entries, Dir, File, Object, FileTree, object_at, birth_at, node_of_key}
use Rattle.ds_tree.specs.Steps.{Does, Lists, is_above, entries_above}
use Rattle.ds_tree.specs.declared.calls.CallOf.TheVariants as calls
use Rattle.ds_tree.specs.declared.calls.TreeReply.{TreeReply}
use Rattle.ds_tree.specs.declared.calls.TreeReply.TheVariants as replies

-- Entries and maps of them

-- names that stand once each are as many in the map
new-name : (e : Entry) (es : List Entry) → AreNamesApart (e ∷ es) → (r : Option ℕ) → find name_cmp e.name (pairs es) ≡ r → r ≡ None
new-name e es apart None is = refl
new-name e es apart (Some x) is =
    let was = find-some es e.name x is in
    let wrong : suc was.0 ≡ 0 = apart-index (e ∷ es) apart (suc was.0) 0 was.1.0 e was.1.1 refl was.1.2 in
    absurd (omega (arith, wrong))

count_apart : (es : List Entry) → AreNamesApart es → length es ≡ maps.len (maps.from_entries {R = name_cmp} (pairs es))
count_apart [] apart = sym (maps.len-empty name_cmp ℕ)
count_apart (e ∷ es) apart =
    let m = maps.from_entries {R = name_cmp} (pairs es) in
    let new : maps.get m e.name ≡ None = get-entries es e.name ∙ new-name e es apart (find name_cmp e.name (pairs es)) refl in
    let rest = count_apart es (IsDistinct-tail bytes_eq e.name (map (λ (x : Entry). x.name) es) apart) in
    omega (arith, rest, maps.len-insert nat_list_cmp_total m e.name e.key.object ∙ ap (λ (r : Option ℕ). cond (is_some r) (maps.len m) (maps.len m + 1)) new)

module _ (t : FileTree) where
  -- the key of an object in the tree
  abbrev key_in : ℕ → Key
  key_in object = record { object = object; birth = birth_at t object }

  abbrev keyed : List ℕ × ℕ → List ℕ × Key
  keyed e = (e.0, key_in e.1)

  below-keyed : (x : List ℕ) (es : List (List ℕ × ℕ)) → below_all name_cmp x (map keyed es) ≡ below_all name_cmp x es
  below-keyed x [] = refl
  below-keyed x (e ∷ es) = ap (λ b. is_lt (name_cmp x e.0) && b) (below-keyed x es)

  sorted-keyed : (es : List (List ℕ × ℕ)) → is_sorted name_cmp (map keyed es) ≡ is_sorted name_cmp es
  sorted-keyed [] = refl
  sorted-keyed (e ∷ es) = ap (λ b. b && is_sorted name_cmp (map keyed es)) (below-keyed e.0 es) ∙ ap (λ b. below_all name_cmp e.0 es && b) (sorted-keyed es)

  find-keyed : (q : List ℕ) (es : List (List ℕ × ℕ)) → find name_cmp q (map keyed es) ≡ option_map key_in (find name_cmp q es)
  find-keyed q [] = refl
  find-keyed q (e ∷ es) =
      elim (eq_by_cmp name_cmp q e.0) as (λ b. cond b (Some (key_in e.1)) (find name_cmp q (map keyed es)) ≡ option_map key_in (cond b (Some e.1) (find name_cmp q es))) [
        | true ↦ refl
        | false ↦ find-keyed q es
      ]

  -- entries whose births are those of the tree
  abbrev AreRight : List Entry → Type 0
  AreRight es = (i : ℕ) (e : Entry) → slice_get es i ≡ Some e → birth_at t e.key.object ≡ e.key.birth

  find-right : (q : List ℕ) (es : List Entry) → AreRight es → find name_cmp q (map name_key es) ≡ option_map key_in (find name_cmp q (pairs es))
  find-right q [] right = refl
  find-right q (e ∷ es) right =
      let key : ◌≡◌ {A = Key} e.key (key_in e.key.object) = λ i. record { object = e.key.object; birth = sym (right 0 e refl) i } in
      elim (eq_by_cmp name_cmp q e.name) as (λ b. cond b (Some e.key) (find name_cmp q (map name_key es)) ≡ option_map key_in (cond b (Some e.key.object) (find name_cmp q (pairs es)))) [
        | true ↦ ap Some key
        | false ↦ find-right q es (λ i x at. right (suc i) x at)
      ]

  past-keys : (after : Option (List ℕ)) (es : List Entry) → map name_key (entries_past after es) ≡ where_key name_cmp (is_above after) (map name_key es)
  past-keys after [] = refl
  past-keys after (e ∷ es) =
      elim (is_above after e.name) as (λ b. map name_key (cond b (e ∷ entries_past after es) (entries_past after es)) ≡ cond b (name_key e ∷ where_key name_cmp (is_above after) (map name_key es)) (where_key name_cmp (is_above after) (map name_key es))) [
        | true ↦ ap (λ l. name_key e ∷ l) (past-keys after es)
        | false ↦ past-keys after es
      ]

  alike : (after : Option (List ℕ)) (q x : List ℕ) → name_cmp q x ≡ Equal → is_above after x ≡ is_above after q
  alike after q x same = ap (is_above after) (sym (maps.slice_cmp-IsAntisymmetric maps.nat_cmp-IsAntisymmetric q x same))

  chosen : (b : Bool) (r : Option Key) (s : Option ℕ) → r ≡ option_map key_in s → cond b r None ≡ option_map key_in (cond b s None)
  chosen true r s same = same
  chosen false r s same = refl

  -- the entries above a name with their keys are those of the tree's map
  keys-are : (after : Option (List ℕ)) (es : List Entry) → AreRight es
      → maps.entries (keys_by_name (entries_past after es)) ≡ map keyed (entries_above (maps.from_entries {R = name_cmp} (pairs es)) after)
  keys-are after es right =
      let k = keys_by_name (entries_past after es) in
      let m : Entries = maps.from_entries {R = name_cmp} (pairs es) in
      let ys : List (List ℕ × ℕ) = where_key name_cmp (is_above after) (maps.entries m) in
      let sorted : T (is_sorted name_cmp ys) = is_sorted-where_key name_cmp (is_above after) (maps.entries m) (maps.entries_sorted m) in
      same_entries name_cmp nat_list_cmp_total (maps.slice_cmp-IsAntisymmetric maps.nat_cmp-IsAntisymmetric) (maps.entries k) (map keyed ys) (maps.entries_sorted k)
      (subst T (sym (sorted-keyed ys)) sorted)
      (λ q.
      sym (maps.get-entries k q) ∙ maps.get-from_entries nat_list_cmp_total (map name_key (entries_past after es)) q
      ∙ ap (find name_cmp q) (past-keys after es)
      ∙ find-where_key name_cmp (is_above after) q (alike after q) (map name_key es)
      ∙ chosen (is_above after q) (find name_cmp q (map name_key es)) (find name_cmp q (maps.entries m))
      (find-right q es right ∙ ap (option_map key_in) (sym (get-entries es q) ∙ maps.get-entries m q))
      ∙ sym (ap (option_map key_in) (find-where_key name_cmp (is_above after) q (alike after q) (maps.entries m)))
      ∙ sym (find-keyed q ys))

  page-is : (after : Option (List ℕ)) (es : List Entry) → AreRight es
      → page_names after es ≡ map keyed (take 32 (entries_above (maps.from_entries {R = name_cmp} (pairs es)) after))
  page-is after es right =
      ap (take 32) (keys-are after es right) ∙ take-map keyed 32 (entries_above (maps.from_entries {R = name_cmp} (pairs es)) after)

module _ (g : Geom) (dir : Key) (above : Option (List ℕ)) where
  missing : (t : FileTree) → node_of_key t dir ≡ None → Does g t (calls.List dir above) replies.NoObject t
  missing t none = rw none (refl, refl)

  no_dir : (t : FileTree) (blocks : List ℕ) → node_of_key t dir ≡ Some (File blocks) → Does g t (calls.List dir above) replies.NotDir t
  no_dir t blocks file = rw file (refl, refl)

  does_list : (t : FileTree) (entries : Entries) (rooms : ℕ) (es : List Entry) → node_of_key t dir ≡ Some (Dir entries rooms)
      → Lists t dir above (length es) (page_names above es) → Does g t (calls.List dir above) (page_of above es) t
  does_list t entries rooms es is lists = rw is (lists, refl)

  -- the page of what was seen is the tree's
  page_in : (image : List Sector) (t : FileTree) (stands : StandsFor g image t) (b : Body) → part_at stands.parts.bodies dir.object ≡ Some b
      → object_at t dir.object ≡ record { birth = dir.birth; node = Some (Dir (entries_of stands.parts (subs_of (Some b))) (4 * b.count)) }
      → Does g t (calls.List dir above) (page_of above (used_rooms stands.parts (subs_of (Some b)))) t
  page_in image t stands b body in_tree =
      let q = stands.parts in
      let es : List Entry = used_rooms q (subs_of (Some b)) in
      let entries : Entries = entries_of q (subs_of (Some b)) in
      let apart : AreNamesApart es = subst (λ (r : Option Body). AreNamesApart (used_rooms q (subs_of r))) body (stands.sound.names dir.object) in
      let right : (i : ℕ) (e : Entry) → slice_get es i ≡ Some e → birth_at t e.key.object ≡ e.key.birth =
      λ i e at.
      let named : IsNamedRight q e = stands.sound.entries dir.object i e (ap (λ (r : Option Body). slice_get (used_rooms q (subs_of r)) i) body ∙ at) in
      ap (λ (x : Object). x.birth) (object_in g image t e.key.object (Some named.body) stands named.there) ∙ named.birth in
      does_list t entries (4 * b.count) es (dir_named t dir entries (4 * b.count) in_tree)
      (record {
        entries = entries;
        rooms = 4 * b.count;
        in_dir = ap (λ (x : Object). x.node) in_tree;
        all = count_apart es apart;
        page = page-is t above es right;
      })

  -- all that a List asks for is good
  pub list_asks : (seen : SeenValue) (p : Parts) → ReadsParts g (look_of seen) p
      → DirAsks g (calls.List dir above) dir.object seen p (settled (list_known g seen p dir above))
  list_asks seen p reads =
      let Good : Ask → Type 0 = DirAsks g (calls.List dir above) dir.object seen p in
      let Replied : TreeReply → Type 0 = λ reply. Good (asks.Done reply) in
      goes-settled Good (list_known g seen p dir above)
      (goes-after Good (HasDir g seen p dir) Replied (dir_of_key g seen p dir) _ (dir_goes g (calls.List dir above) dir seen p reads missing no_dir)
      (λ b has.
      goes-after Good (λ (c : Body). AreAllIn g seen p (subs_of (Some b))) Replied (subs_known g seen p b (subs_of (Some b))) _ (whole_goes g (calls.List dir above) dir seen p reads b has)
      (λ c all. record {
        block = tt;
        does = λ image t stands agrees.
            let q = stands.parts in
            let in_tree = dir_in g seen p dir b image t stands reads agrees has in
            let subs : subs_by b (Some kinds.Dir) ≡ subs_of (Some b) = ap (subs_by b) (sym has.sees.is_kind) in
            subst (λ (es : List Entry). Does g t (calls.List dir above) (page_of above es) t) (sym (all image t stands agrees))
            (page_in image t stands b in_tree.0
            (in_tree.1 ∙ ap (λ (l : List ℕ). record { birth = dir.birth; node = Some (Dir (entries_of q l) (4 * b.count)) }) subs));
      })))
