-- What the calls of the first world do to its trees.
use Rattle.std.proofs.Common.{◌≡◌, ◌≢◌, ℕ, zero, suc, ◌+◌, ◌≤◌, ◌<◌, ◌==◌, ◌&&◌, Bool, true, false, not, List, [], ◌∷◌, ◌++◌, length, get_or, map, refl, ap, sym, subst, ◌∙◌, arith, get_or-set_same, get_or-set_other, Option, Some, None}
use Rattle.std.specs.Prelude.{nat_le, is_some, option_map, slice_set, if◌then◌else◌, MatchOption, replicate}
use Rattle.std.specs.List.{find}
use Rattle.std.specs.Str.{bytes_eq}
use Rattle.std.specs.Ordering.{nat_cmp}
use Rattle.std.specs.Cmp.Lexicographic.{slice_cmp}
use Rattle.std.specs.FinMap as maps
use Rattle.std.proofs.lemmas.Cmp.{nat_list_cmp_total}
use Rattle.std.proofs.lemmas.Bool.Decides.{nat_tests}
use Rattle.std.proofs.lemmas.List.Sums.{sum_by-set}
use Rattle.ds_base.specs.declared.geometry.Geom.{Geom}
use Rattle.ds_base.specs.declared.geometry.Kind.TheVariants as kinds
use Rattle.ds_base.specs.declared.names.Key.{Key}
use Rattle.ds_base.specs.declared.names.NodeKind.TheVariants as node_kinds
use Rattle.ds_tree.specs.declared.calls.CallOf.{CallOf}
use Rattle.ds_tree.specs.declared.calls.CallOf.TheVariants as calls
use Rattle.ds_tree.specs.declared.calls.TreeReply.{TreeReply}
use Rattle.ds_tree.specs.declared.calls.TreeReply.TheVariants as replies
use Rattle.ds_tree.specs.Nodes.{Dir, File, Object, FileTree, unborn, root_key, object_at, node_at, birth_at, node_of_key, with_object, with_node, fresh_tree}
use Rattle.ds_tree.specs.Counts.{node_uses, used_of, free_of}
use Rattle.ds_tree.specs.Steps.{refuse, refuses_room, is_full, refusal, Succeeds, Does, rooms_with_one_more}
use Rattle.ds_tree.specs.FirstForm.{first_geom}
use Rattle.ds_dir.specs.declared.sub_block.Entry.{Entry}
use Rattle.ds_host.specs.FirstConduct.{reply_to_lookup}
use Rattle.ds_world.specs.FirstRules.{NumberedFrom, entries_map, rooms_for, file_of, with_file, tree_of}
use Rattle.ds_log.proofs.Pushes.{fold-push}
use Rattle.ds_world.proofs.FirstTree.{files_in, length-files, object_below, object_past, file_found, found_by_name, get-entries_map, len-entries_map, used-files}

pub does_refused : (g : Geom) (t : FileTree) (call : CallOf Key) (reply : TreeReply) → refusal g t call ≡ Some reply → Does g t call reply t
does_refused g t call reply refused =
    let P : Option TreeReply → Type 0 = λ r. MatchOption r (Succeeds g t call reply t) (λ other. (reply ≡ other) × (t ≡ t)) in
    subst P (sym refused) (refl, refl)

pub does_succeed : (g : Geom) (t : FileTree) (call : CallOf Key) (reply : TreeReply) (u : FileTree) → refusal g t call ≡ None → Succeeds g t call reply u → Does g t call reply u
does_succeed g t call reply u none succeeds =
    let P : Option TreeReply → Type 0 = λ r. MatchOption r (Succeeds g t call reply u) (λ other. (reply ≡ other) × (u ≡ t)) in
    subst P (sym none) succeeds

abbrev the_tree : List Entry → FileTree
the_tree es = tree_of first_geom es

abbrev pub the_files : List Entry → FileTree
the_files es = files_in (fresh_tree first_geom) es

abbrev root_with : List Entry → Object
root_with es = record { birth = 1; node = Some (Dir (entries_map es) (rooms_for es)) }

count_files : (es : List Entry) → length (the_files es).objects ≡ 16
count_files es = length-files (fresh_tree first_geom) es

pub birth_of_root : (es : List Entry) → NumberedFrom 1 es → birth_at (the_files es) 0 ≡ 1
birth_of_root es numbered = ap (λ (o : Object). o.birth) (object_below (fresh_tree first_geom) 1 es 0 numbered (omega arith))

root_object : (es : List Entry) → NumberedFrom 1 es → object_at (the_tree es) 0 ≡ root_with es
root_object es numbered =
    let root : Object = record { birth = birth_at (the_files es) 0; node = Some (Dir (entries_map es) (rooms_for es)) } in
    get_or-set_same (the_files es).objects 0 root unborn (omega (arith, count_files es))
    ∙ (λ i. record { birth = birth_of_root es numbered i; node = Some (Dir (entries_map es) (rooms_for es)) })

-- the root is a directory with the entries
root_found : (es : List Entry) → NumberedFrom 1 es → node_of_key (the_tree es) root_key ≡ Some (Dir (entries_map es) (rooms_for es))
root_found es numbered = ap (λ (o : Object). if o.birth == 1 then o.node else None) (root_object es numbered)

root_node : (es : List Entry) → NumberedFrom 1 es → node_at (the_tree es) 0 ≡ Some (Dir (entries_map es) (rooms_for es))
root_node es numbered = ap (λ (o : Object). o.node) (root_object es numbered)

abbrev pub named : List ℕ → List Entry → Option Entry
named name es = find (λ e. bytes_eq e.name name) es

has_name : (name : List ℕ) (es : List Entry) (o : Option Entry) → named name es ≡ o → maps.contains_key (entries_map es) name ≡ is_some (option_map (λ (e : Entry). e.key.object) o)
has_name name es o is = ap is_some (get-entries_map name es) ∙ ap (λ (r : Option Entry). is_some (option_map (λ (e : Entry). e.key.object) r)) is

-- an object of the tree that isn't the root
other_object : (es : List Entry) (n : ℕ) → n ≢ 0 → object_at (the_tree es) n ≡ object_at (the_files es) n
other_object es n other = get_or-set_other (the_files es).objects 0 n _ unborn other

lookup_by : (es : List Entry) (name : List ℕ) (o : Option Entry) → NumberedFrom 1 es → length es ≤ 4 → named name es ≡ o
    → Does first_geom (the_tree es) (calls.Lookup root_key name) (reply_to_lookup o) (the_tree es)
lookup_by es name None numbered few is =
    does_refused first_geom (the_tree es) (calls.Lookup root_key name) replies.NotFound
    (rw (root_found es numbered) (ap (λ (b : Bool). refuse (not b) replies.NotFound None) (has_name name es None is)))
lookup_by es name (Some e) numbered few is =
    let file = file_found (fresh_tree first_geom) 1 es (λ x. bytes_eq x.name name) e numbered (omega arith) is in
    let other : e.key.object ≢ 0 = omega (arith, file.number) in
    let object : object_at (the_tree es) e.key.object ≡ file_of e = other_object es e.key.object other ∙ file.object in
    does_succeed first_geom (the_tree es) (calls.Lookup root_key name) (replies.Found e.key e.kind) (the_tree es)
    (rw (root_found es numbered) (ap (λ (b : Bool). refuse (not b) replies.NotFound None) (has_name name es (Some e) is))) (
      File [],
      record {
        entries = entries_map es;
        rooms = rooms_for es;
        in_dir = root_node es numbered;
        entry = get-entries_map name es ∙ ap (option_map (λ (x : Entry). x.key.object)) is;
        life = ap (λ (x : Object). x.birth) object;
        is_node = ap (λ (x : Object). x.node) object;
      },
      file.kind,
      refl,
    )

-- a lookup answers as the tree does
pub does_lookup : (es : List Entry) (name : List ℕ) → NumberedFrom 1 es → length es ≤ 4
    → Does first_geom (tree_of first_geom es) (calls.Lookup root_key name) (reply_to_lookup (named name es)) (tree_of first_geom es)
does_lookup es name numbered few = lookup_by es name (named name es) numbered few refl

-- the refusals of a create once its name is new
abbrev refuses_past_exists : List Entry → Option TreeReply
refuses_past_exists es =
    refuse (nat_le 384 (maps.len (entries_map es))) replies.DirFull
    (refuse (free_of first_geom (the_tree es) kinds.Fd == 0) (replies.NoSpace kinds.Fd)
    (refuses_room first_geom (the_tree es) (entries_map es) (rooms_for es)))

-- a create of a name that is there
pub does_exist : (es : List Entry) (name : List ℕ) (e : Entry) → NumberedFrom 1 es → named name es ≡ Some e
    → Does first_geom (tree_of first_geom es) (calls.Create root_key name) replies.Exists (tree_of first_geom es)
does_exist es name e numbered is =
    does_refused first_geom (the_tree es) (calls.Create root_key name) replies.Exists
    (rw (root_found es numbered) (ap (λ (b : Bool). refuse b replies.Exists (refuses_past_exists es)) (has_name name es (Some e) is)))

unborn_all : (k m : ℕ) → get_or (replicate k unborn) m unborn ≡ unborn
unborn_all zero m = refl
unborn_all (suc k) zero = refl
unborn_all (suc k) (suc m) = unborn_all k m

-- a new object number is free, and had no life
past_files : (es : List Entry) (n : ℕ) → NumberedFrom 1 es → 1 + length es ≤ n → object_at (the_files es) n ≡ unborn
past_files es zero numbered past = absurd (omega arith)
past_files es (suc n) numbered past = object_past (fresh_tree first_geom) 1 es (suc n) numbered past ∙ unborn_all 15 n

none_from_one : (n : ℕ) → 1 ≤ n → node_at (fresh_tree first_geom) n ≡ None
none_from_one n le = ap (λ (o : Object). o.node) (past_files [] n tt le)

used_descriptors : (es : List Entry) → NumberedFrom 1 es → length es ≤ 4 → used_of (the_tree es) kinds.Fd ≡ 1 + length es
used_descriptors es numbered few =
    let uses : Object → ℕ = λ o. node_uses kinds.Fd o.node in
    let root : Object = record { birth = birth_at (the_files es) 0; node = Some (Dir (entries_map es) (rooms_for es)) } in
    let at_root = sum_by-set uses (the_files es).objects 0 root unborn (omega (arith, count_files es)) in
    let before : uses (object_at (the_files es) 0) ≡ 1 = ap uses (object_below (fresh_tree first_geom) 1 es 0 numbered (omega arith)) in
    let files = used-files kinds.Fd (fresh_tree first_geom) 1 es numbered none_from_one (omega arith) in
    omega (arith, at_root, before, files)

and_false : (b : Bool) → (b && false) ≡ false
and_false true = refl
and_false false = refl

not_more : (m n : ℕ) → n < m → nat_le m n ≡ false
not_more m n less = grind (arith, nat_tests)

not_none : (n : ℕ) → 0 < n → (n == 0) ≡ false
not_none n less = grind (arith, nat_tests)

-- a room is free, or there is a sub-block for four more
room_is_had : (es : List Entry) → length es < 4 → (is_full (entries_map es) (rooms_for es) && free_of first_geom (the_tree es) kinds.Sb == 0) ≡ false
room_is_had [] few = and_false _
room_is_had (e ∷ es) few =
    ap (λ (b : Bool). b && free_of first_geom (the_tree (e ∷ es)) kinds.Sb == 0) (not_more 4 (maps.len (entries_map (e ∷ es))) (omega (arith, len-entries_map (e ∷ es))))

create_refuses_none : (es : List Entry) (name : List ℕ) → NumberedFrom 1 es → length es < 4 → named name es ≡ None
    → refusal first_geom (the_tree es) (calls.Create root_key name) ≡ None
create_refuses_none es name numbered few none =
    let len = len-entries_map es in
    let used = used_descriptors es numbered (omega arith) in
    let free : (free_of first_geom (the_tree es) kinds.Fd == 0) ≡ false = not_none (free_of first_geom (the_tree es) kinds.Fd) (omega arith) in
    rw (root_found es numbered)
    (ap (λ (b : Bool). refuse b replies.Exists (refuses_past_exists es)) (has_name name es None none)
    ∙ ap (λ (b : Bool). refuse b replies.DirFull (refuse (free_of first_geom (the_tree es) kinds.Fd == 0) (replies.NoSpace kinds.Fd) (refuses_room first_geom (the_tree es) (entries_map es) (rooms_for es)))) (not_more 384 (maps.len (entries_map es)) (omega arith))
    ∙ ap (λ (b : Bool). refuse b (replies.NoSpace kinds.Fd) (refuses_room first_geom (the_tree es) (entries_map es) (rooms_for es))) free
    ∙ ap (λ (b : Bool). refuse b (replies.NoSpace kinds.Sb) None) (room_is_had es few))

-- two writes of one place, and of two places
pub set-set : {A : Type 0} (xs : List A) (i : ℕ) (x y : A) → slice_set (slice_set xs i x) i y ≡ slice_set xs i y
set-set [] i x y = refl
set-set (z ∷ xs) zero x y = refl
set-set (z ∷ xs) (suc i) x y = ap (λ zs. z ∷ zs) (set-set xs i x y)

set-commute : {A : Type 0} (xs : List A) (i : ℕ) (x y : A) → slice_set (slice_set xs (suc i) x) zero y ≡ slice_set (slice_set xs zero y) (suc i) x
set-commute [] i x y = refl
set-commute (z ∷ xs) i x y = refl

at_least_none : (n : ℕ) → nat_le 0 n ≡ true
at_least_none n = grind (arith, nat_tests)

rooms_grow : (es : List Entry) (e : Entry) → length es < 4 → rooms_with_one_more (entries_map es) (rooms_for es) ≡ rooms_for (es ++ e ∷ [])
rooms_grow [] e few = ap (λ (b : Bool). if b then 0 + 4 else 0) (at_least_none (maps.len (entries_map [])))
rooms_grow (x ∷ es) e few =
    ap (λ (b : Bool). if b then 4 + 4 else 4) (not_more 4 (maps.len (entries_map (x ∷ es))) (omega (arith, len-entries_map (x ∷ es))))

map-push : {A B : Type 0} (f : A → B) (xs : List A) (x : A) → map f (xs ++ x ∷ []) ≡ map f xs ++ f x ∷ []
map-push f [] x = refl
map-push f (y ∷ xs) x = ap (λ ys. f y ∷ ys) (map-push f xs x)

entries_grow : (es : List Entry) (e : Entry) → named e.name es ≡ None → entries_map (es ++ e ∷ []) ≡ maps.insert (entries_map es) e.name e.key.object
entries_grow es e none =
    let pair : Entry → List ℕ × ℕ = λ x. (x.name, x.key.object) in
    let new : maps.find (slice_cmp nat_cmp) e.name (map pair es) ≡ None =
    found_by_name e.name es ∙ ap (option_map (λ (x : Entry). x.key.object)) none in
    ap maps.from_entries (map-push pair es e)
    ∙ maps.from_entries_push nat_list_cmp_total (maps.slice_cmp-IsAntisymmetric maps.nat_cmp-IsAntisymmetric) (map pair es) e.name e.key.object new

pub numbered-push : (i : ℕ) (es : List Entry) (e : Entry) → NumberedFrom i es → e.key ≡ record { object = i + length es; birth = 1 } → e.kind ≡ node_kinds.File
    → NumberedFrom i (es ++ e ∷ [])
numbered-push i [] e numbered key kind =
    let same : e.key ≡ record { object = i; birth = 1 } = key ∙ (let number : i + 0 ≡ i = omega arith in λ j. record { object = number j; birth = 1 }) in
    (same, kind, tt)
numbered-push i (x ∷ es) e numbered key kind =
    let number : i + length (x ∷ es) ≡ (i + 1) + length es = omega arith in
    (numbered.0, numbered.1, numbered-push (i + 1) es e numbered.2 (key ∙ (λ j. record { object = number j; birth = 1 })) kind)

-- the tree with one entry more is the one that a create makes
tree_grows : (es : List Entry) (e : Entry) (k : ℕ) → NumberedFrom 1 es → NumberedFrom 1 (es ++ e ∷ []) → length es < 4 → named e.name es ≡ None → e.key.object ≡ suc k
    → the_tree (es ++ e ∷ []) ≡ with_object
    (with_node (the_tree es) 0 (Dir (maps.insert (entries_map es) e.name e.key.object) (rooms_with_one_more (entries_map es) (rooms_for es))))
    e.key.object (file_of e)
tree_grows es e k numbered numbered' few none number =
    let xs : List Object = (the_files es).objects in
    let new : List Entry = es ++ e ∷ [] in
    let r0 : Object = record { birth = birth_at (the_files es) 0; node = Some (Dir (entries_map es) (rooms_for es)) } in
    let r1 : Object = record { birth = birth_at (the_tree es) 0; node = Some (Dir (maps.insert (entries_map es) e.name e.key.object) (rooms_with_one_more (entries_map es) (rooms_for es))) } in
    let r2 : Object = record { birth = birth_at (the_files new) 0; node = Some (Dir (entries_map new) (rooms_for new)) } in
    let files : the_files new ≡ with_file (the_files es) e = fold-push with_file (fresh_tree first_geom) es e in
    let born : birth_at (the_files new) 0 ≡ birth_at (the_tree es) 0 =
    birth_of_root new numbered' ∙ sym (ap (λ (o : Object). o.birth) (root_object es numbered)) in
    let roots : r2 ≡ r1 = λ i. record {
      birth = born i;
      node = Some (Dir (entries_grow es e none i) (sym (rooms_grow es e few) i));
    } in
    let left : (the_tree new).objects ≡ slice_set (slice_set xs (suc k) (file_of e)) 0 r1 =
    (λ i. slice_set ((files i).objects) 0 (roots i)) ∙ ap (λ (n : ℕ). slice_set (slice_set xs n (file_of e)) 0 r1) number in
    let right : slice_set (slice_set (slice_set xs 0 r0) 0 r1) e.key.object (file_of e) ≡ slice_set (slice_set xs 0 r1) (suc k) (file_of e) =
    ap (λ (n : ℕ). slice_set (slice_set (slice_set xs 0 r0) 0 r1) n (file_of e)) number
    ∙ ap (λ (ys : List Object). slice_set ys (suc k) (file_of e)) (set-set xs 0 r0 r1) in
    let objects : (the_tree new).objects ≡ slice_set (slice_set (slice_set xs 0 r0) 0 r1) e.key.object (file_of e) =
    left ∙ set-commute xs k (file_of e) r1 ∙ sym right in
    λ i. record { objects = objects i }

makes : (es : List Entry) (e : Entry) (k : ℕ) → NumberedFrom 1 es → NumberedFrom 1 (es ++ e ∷ []) → length es < 4 → named e.name es ≡ None
    → e.key ≡ record { object = suc k; birth = 1 } → k ≡ length es
    → Does first_geom (the_tree es) (calls.Create root_key e.name) (replies.Made e.key) (the_tree (es ++ e ∷ []))
makes es e k numbered numbered' few none key place =
    let number : e.key.object ≡ suc k = ap (λ (x : Key). x.object) key in
    let birth : e.key.birth ≡ 1 = ap (λ (x : Key). x.birth) key in
    let other : e.key.object ≢ 0 = omega (arith, number) in
    let free : object_at (the_tree es) e.key.object ≡ unborn =
    other_object es e.key.object other ∙ past_files es e.key.object numbered (omega (arith, number, place)) in
    does_succeed first_geom (the_tree es) (calls.Create root_key e.name) (replies.Made e.key) (the_tree (es ++ e ∷ []))
    (create_refuses_none es e.name numbered few none)
    (record {
      entries = entries_map es;
      rooms = rooms_for es;
      in_dir = root_node es numbered;
      in_range = omega (arith, number, place);
      free = ap (λ (o : Object). o.node) free;
      later = omega (arith, birth, ap (λ (o : Object). o.birth) free);
      made = tree_grows es e k numbered numbered' few none number;
    })

-- a create of a new name makes the next object
pub does_create : (es : List Entry) (e : Entry) → NumberedFrom 1 es → length es < 4 → named e.name es ≡ None
    → e.key ≡ record { object = 1 + length es; birth = 1 } → e.kind ≡ node_kinds.File
    → Does first_geom (tree_of first_geom es) (calls.Create root_key e.name) (replies.Made e.key) (tree_of first_geom (es ++ e ∷ []))
does_create es e numbered few none key kind =
    let next : 1 + length es ≡ suc (length es) = omega arith in
    makes es e (length es) numbered (numbered-push 1 es e numbered key kind) few none (key ∙ (λ i. record { object = next i; birth = 1 })) refl
