-- The tree that is built from the rooms is the one of their entries.
use Rattle.std.proofs.Common.{◌≡◌, ℕ, ◌+◌, ◌≤◌, ◌<◌, true, List, [], ◌∷◌, length, refl, ap, sym, ◌∙◌, arith, get_or, get_or-set_same, Option, Some, None}
use Rattle.std.specs.Prelude.{fold, slice_set}
use Rattle.std.specs.FinMap as maps
use Rattle.ds_tree.specs.Nodes.{Entries, Dir, Object, FileTree, unborn, object_at, node_at, birth_at, with_object, with_node, fresh_tree}
use Rattle.ds_tree.specs.Steps.{is_dir}
use Rattle.ds_tree.specs.Trees.{entries_of, rooms_of}
use Rattle.ds_tree.specs.FirstForm.{first_geom}
use Rattle.ds_dir.specs.declared.sub_block.Entry.{Entry}
use Rattle.ds_host.specs.Rooms.{Rooms, entries_in}
use Rattle.ds_world.specs.FirstRules.{NumberedFrom, with_file, entries_map, rooms_for, tree_of}
use Rattle.ds_world.specs.FirstTrees.{with_room, with_name, IsRooted, FitsIn}
use Rattle.ds_world.proofs.FirstTree.{object_is}
use Rattle.ds_world.proofs.FirstDoes.{set-set, birth_of_root}

root_of : (rest : FileTree) (names : Entries) (rooms : ℕ) (t : FileTree) → 0 < length rest.objects → IsRooted rest names rooms t
    → object_at t 0 ≡ record { birth = 1; node = Some (Dir names rooms) }
root_of rest names rooms t some rooted =
    let root : Object = record { birth = 1; node = Some (Dir names rooms) } in
    ap (λ (u : FileTree). object_at u 0) rooted ∙ get_or-set_same rest.objects 0 root unborn some

-- the root is a directory
pub rooted_is_dir : (rest : FileTree) (names : Entries) (rooms : ℕ) (t : FileTree) → 0 < length rest.objects → IsRooted rest names rooms t → is_dir (node_at t 0) ≡ true
rooted_is_dir rest names rooms t some rooted = ap (λ (o : Object). is_dir o.node) (root_of rest names rooms t some rooted)

-- a tree with one name more in its root
pub named_rooted : (rest : FileTree) (names : Entries) (rooms : ℕ) (t u : FileTree) (name : List ℕ) (object : ℕ) → 0 < length rest.objects → IsRooted rest names rooms t
    → u ≡ with_node t 0 (Dir (maps.insert (entries_of (node_at t 0)) name object) (rooms_of (node_at t 0)))
    → IsRooted rest (maps.insert names name object) rooms u
named_rooted rest names rooms t u name object some rooted made =
    let root = root_of rest names rooms t some rooted in
    let old : Object = record { birth = 1; node = Some (Dir names rooms) } in
    let new : Object = record { birth = 1; node = Some (Dir (maps.insert names name object) rooms) } in
    let after : Object → Object = λ o. record { birth = o.birth; node = Some (Dir (maps.insert (entries_of o.node) name object) (rooms_of o.node)) } in
    let objects : u.objects ≡ slice_set rest.objects 0 new =
    ap (λ (v : FileTree). v.objects) made
    ∙ (λ i. slice_set (rooted i).objects 0 (after (root i)))
    ∙ set-set rest.objects 0 old new in
    λ i. record { objects = objects i }

-- the files of rooms, and their names
pub files_of_rooms : (t : FileTree) (rooms : Rooms) → fold with_room t rooms ≡ fold with_file t (entries_in rooms)
files_of_rooms t [] = refl
files_of_rooms t (None ∷ rooms) = files_of_rooms t rooms
files_of_rooms t (Some e ∷ rooms) = files_of_rooms (with_file t e) rooms

names_of_rooms : Rooms → Entries
names_of_rooms [] = maps.empty
names_of_rooms (room ∷ rooms) = with_name (names_of_rooms rooms) room

names_are : (rooms : Rooms) → names_of_rooms rooms ≡ entries_map (entries_in rooms)
unfolding names_of_rooms
names_are [] = refl
names_are (None ∷ rooms) = names_are rooms
names_are (Some e ∷ rooms) = ap (λ (m : Entries). maps.insert m e.name e.key.object) (names_are rooms)

-- the tree of four rooms
pub built : (a b c d : Option Entry) (rooms : ℕ) (files t : FileTree) → NumberedFrom 1 (entries_in (a ∷ b ∷ c ∷ d ∷ []))
    → files ≡ fold with_room (fresh_tree first_geom) (a ∷ b ∷ c ∷ d ∷ []) → rooms ≡ rooms_for (entries_in (a ∷ b ∷ c ∷ d ∷ []))
    → IsRooted files (with_name (with_name (with_name (with_name maps.empty d) c) b) a) rooms t → t ≡ tree_of first_geom (entries_in (a ∷ b ∷ c ∷ d ∷ []))
unfolding names_of_rooms
built a b c d rooms files t numbered filed count rooted =
    let list : Rooms = a ∷ b ∷ c ∷ d ∷ [] in
    let es : List Entry = entries_in list in
    let all : files ≡ fold with_file (fresh_tree first_geom) es = filed ∙ files_of_rooms (fresh_tree first_geom) list in
    let names : with_name (with_name (with_name (with_name maps.empty d) c) b) a ≡ entries_map es = names_are list in
    let born : 1 ≡ birth_at (fold with_file (fresh_tree first_geom) es) 0 = sym (birth_of_root es numbered) in
    rooted ∙ (λ i. with_object (all i) 0 (record { birth = born i; node = Some (Dir (names i) (count i)) }))

abbrev pub FitAll : ℕ → Rooms → Type 0
FitAll count [] = Unit {0}
FitAll count (room ∷ rooms) = FitsIn count room × FitAll count rooms

fit_below : (i : ℕ) (rooms : Rooms) (count : ℕ) → NumberedFrom i (entries_in rooms) → i + length rooms ≤ count → FitAll count rooms
fit_below i [] count numbered room = tt
fit_below i (None ∷ rooms) count numbered room = (tt, fit_below i rooms count numbered (omega arith))
fit_below i (Some e ∷ rooms) count numbered room =
    let number = ap object_is numbered.0 in
    (omega arith, fit_below (i + 1) rooms count numbered.2 (omega arith))

-- the objects of four rooms are among the objects of the tree
pub four_fit : (a b c d : Option Entry) → NumberedFrom 1 (entries_in (a ∷ b ∷ c ∷ d ∷ [])) → FitAll 16 (a ∷ b ∷ c ∷ d ∷ [])
four_fit a b c d numbered = fit_below 1 (a ∷ b ∷ c ∷ d ∷ []) 16 numbered (omega arith)

-- a list of four elements
pub four_are : {A : Type 0} (xs : List A) (a b c d : A) → length xs ≡ 4 → a ≡ get_or xs 0 a → b ≡ get_or xs 1 b → c ≡ get_or xs 2 c → d ≡ get_or xs 3 d → xs ≡ a ∷ b ∷ c ∷ d ∷ []
four_are [] a b c d len p q r s = absurd (omega (arith, len))
four_are (x ∷ []) a b c d len p q r s = absurd (omega (arith, len))
four_are (x ∷ y ∷ []) a b c d len p q r s = absurd (omega (arith, len))
four_are (x ∷ y ∷ z ∷ []) a b c d len p q r s = absurd (omega (arith, len))
four_are (x ∷ y ∷ z ∷ w ∷ []) a b c d len p q r s = λ i. sym p i ∷ sym q i ∷ sym r i ∷ sym s i ∷ []
four_are (x ∷ y ∷ z ∷ w ∷ v ∷ xs) a b c d len p q r s = absurd (omega (arith, len))
