-- A tree that is put together object by object, and a directory entry by entry.
use Rattle.std.proofs.Common.{◌≡◌, ℕ, zero, suc, ◌+◌, ◌-◌, ◌<◌, ◌≤◌, List, [], ◌∷◌, ◌++◌, length, take, drop, map, get_or, set, Some, slice_get, sym, ap, ◌∙◌, inl, inr, arith, append_assoc, length-append, length-drop, length-take-le}
use Rattle.std.specs.Prelude.{replicate}
use Rattle.std.specs.Cmp.Lexicographic.{slice_cmp, nat_list_cmp_total}
use Rattle.std.specs.FinMap as maps
use Rattle.std.specs.Ordering.{nat_cmp}
use Rattle.std.proofs.lemmas.Bool.{cases_lt}
use Rattle.std.proofs.lemmas.List.{append-nil, get_or-set_same, set-set, set_at, drop_more, map_more, length-map, get_or-append_right, get_or-drop, get_or_past, get_or-replicate, take_all, drop_all, length-replicate}
use Rattle.ds_base.specs.Geometry.{items_of}
use Rattle.ds_base.specs.declared.geometry.Geom.{Geom}
use Rattle.ds_base.specs.declared.geometry.Kind.TheVariants.{Fd}
use Rattle.ds_dir.specs.declared.sub_block.Entry.{Entry}
use Rattle.ds_tree.specs.Nodes.{Entries, Dir, Object, FileTree, unborn, object_at, node_at, with_object, with_node, fresh_tree}
use Rattle.ds_tree.specs.Trees.{entries_of, rooms_of}
use Rattle.ds_image_parts.specs.Objects.{object_of, tree_of}
use Rattle.ds_image_parts.specs.Parts.{Parts}
use Rattle.ds_image.specs.SoundObjects.{AreNamesApart}
use Rattle.ds_image.proofs.FileTrees.EntryNames.{pairs, find-new}

abbrev dir_object : ℕ → Entries → ℕ → Object
dir_object birth entries rooms = record { birth = birth; node = Some (Dir entries rooms) }

trees-alike : (xs ys : List Object) → xs ≡ ys
    → (let t : FileTree = record { objects = xs } in t) ≡ (let u : FileTree = record { objects = ys } in u)
trees-alike xs ys e = λ i. record { objects = e i }

here : (old t : FileTree) (n : ℕ) (o : Object) → n < length old.objects → t ≡ with_object old n o → object_at t n ≡ o
here old t n o within is = ap (λ (u : FileTree). object_at u n) is ∙ get_or-set_same old.objects n o unborn within

-- the entries of one more name
pub entries-more : (es : List Entry) (n : ℕ) (e : Entry) → AreNamesApart es → slice_get es n ≡ Some e → n < length es → e ≡ get_or es n e
    → maps.from_entries {R = slice_cmp nat_cmp} (pairs (take (n + 1) es)) ≡ maps.insert (maps.from_entries (pairs (take n es))) e.name e.key.object
entries-more es n e apart at within is =
    ap (maps.from_entries {R = slice_cmp nat_cmp})
    (map_more (λ (x : Entry). (x.name, x.key.object)) es n e within ∙ ap (λ (x : Entry). pairs (take n es) ++ (x.name, x.key.object) ∷ []) (sym is))
    ∙ maps.from_entries_push nat_list_cmp_total (maps.slice_cmp-IsAntisymmetric maps.nat_cmp-IsAntisymmetric) (pairs (take n es)) e.name e.key.object (find-new es apart n e at)

-- a directory with one more entry, in the place of what stood there
pub dir-more : (old t u : FileTree) (n birth rooms : ℕ) (m : Entries) (name : List ℕ) (x : ℕ) → n < length old.objects
    → t ≡ with_object old n (dir_object birth m rooms)
    → u ≡ with_node t n (Dir (maps.insert (entries_of (node_at t n)) name x) (rooms_of (node_at t n)))
    → u ≡ with_object old n (dir_object birth (maps.insert m name x) rooms)
dir-more old t u n birth rooms m name x within is put =
    let it = here old t n (dir_object birth m rooms) within is in
    let node : Dir (maps.insert (entries_of (node_at t n)) name x) (rooms_of (node_at t n)) ≡ Dir (maps.insert m name x) rooms =
    ap (λ (o : Object). Dir (maps.insert (entries_of o.node) name x) (rooms_of o.node)) it in
    let birth_is : (object_at t n).birth ≡ birth = ap (λ (o : Object). o.birth) it in
    let object : (let o : Object = record { birth = (object_at t n).birth; node = Some (Dir (maps.insert (entries_of (node_at t n)) name x) (rooms_of (node_at t n))) } in o)
    ≡ dir_object birth (maps.insert m name x) rooms = λ i. record { birth = birth_is i; node = Some (node i) } in
    put ∙ ap (with_object t n) object ∙ trees-alike (set t.objects n (dir_object birth (maps.insert m name x) rooms)) (set old.objects n (dir_object birth (maps.insert m name x) rooms))
    (ap (λ (v : FileTree). set v.objects n (dir_object birth (maps.insert m name x) rooms)) is ∙ set-set old.objects n (dir_object birth m rooms) (dir_object birth (maps.insert m name x) rooms))

-- the tree is a directory where it was put
pub dir-there : (old t : FileTree) (n birth rooms : ℕ) (m : Entries) → n < length old.objects
    → t ≡ with_object old n (dir_object birth m rooms) → node_at t n ≡ Some (Dir m rooms)
dir-there old t n birth rooms m within is = ap (λ (o : Object). o.node) (here old t n (dir_object birth m rooms) within is)

-- objects put one after another in the place of others
module _ {B : Type 0} (f : B → Object) (bodies : List B) (fresh : List Object) (n : ℕ) (now : List Object) (within : n < length bodies) (count : length bodies ≡ length fresh)
    (so_far : now ≡ map f (take n bodies) ++ drop n fresh) where
  front-length : length (map f (take n bodies)) ≡ n
  front-length = length-map (take n bodies) f ∙ length-take-le n bodies (omega arith)

  pub objects-within : n < length now
  objects-within = omega (arith, ap (length {A = Object}) so_far, length-append (map f (take n bodies)) (drop n fresh), length-drop n fresh, front-length)

  pub object-next : get_or now n unborn ≡ get_or fresh n unborn
  object-next =
      ap (λ l. get_or l n unborn) so_far
      ∙ get_or-append_right (map f (take n bodies)) (drop n fresh) n n unborn front-length (omega arith)
      ∙ get_or-drop n fresh (n - n) unborn ∙ ap (λ k. get_or fresh k unborn) (let same : n + (n - n) ≡ n = omega arith in same)

  pub objects-more : (d : B) → set now n (f (get_or bodies n d)) ≡ map f (take (n + 1) bodies) ++ drop (n + 1) fresh
  objects-more d =
      let o = f (get_or bodies n d) in
      ap (λ l. set l n o) (so_far ∙ ap (λ l. map f (take n bodies) ++ l) (drop_more fresh n unborn (omega (arith, within, count))))
      ∙ set_at (map f (take n bodies)) (get_or fresh n unborn) (drop (n + 1) fresh) o n front-length
      ∙ sym (append_assoc (map f (take n bodies)) (o ∷ []) (drop (n + 1) fresh))
      ∙ ap (λ l. l ++ drop (n + 1) fresh) (sym (map_more f bodies n d within))

pub objects-all : {B : Type 0} (f : B → Object) (bodies : List B) (fresh : List Object) (n : ℕ) (now : List Object) → length bodies ≤ n
    → length bodies ≡ length fresh
    → now ≡ map f (take n bodies) ++ drop n fresh → now ≡ map f bodies
objects-all f bodies fresh n now past count so_far =
    so_far ∙ ap (λ l. map f (take n bodies) ++ l) (drop_all n fresh (omega (arith, past, count))) ∙ append-nil (map f (take n bodies)) ∙ ap (map f) (take_all n bodies past)

-- a new volume's numbers but the root's are free
pub fresh-free : (g : Geom) (n : ℕ) → 0 < n → get_or (fresh_tree g).objects n unborn ≡ unborn
fresh-free g zero after = absurd (omega arith)
fresh-free g (suc n) after = elim (cases_lt n (items_of g Fd - 1)) [
  | inl below ↦ get_or-replicate (items_of g Fd - 1) n unborn unborn below
  | inr past ↦ get_or_past (replicate (items_of g Fd - 1) unborn) n unborn (omega (arith, length-replicate (items_of g Fd - 1) unborn))
]

-- the objects make the tree
pub built : (p : Parts) (t : FileTree) → t.objects ≡ map (object_of p) p.bodies → t ≡ tree_of p
unfolding tree_of
built p t e = λ i. record { objects = e i }
