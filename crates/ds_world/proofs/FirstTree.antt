-- The trees of a root directory with up to four empty files.
use Rattle.std.proofs.Common.{◌≡◌, ◌≢◌, ℕ, ◌+◌, ◌*◌, ◌≤◌, ◌<◌, ◌⊎◌, inl, inr, Bool, true, false, cond, List, [], ◌∷◌, length, map, refl, ap, sym, subst, ◌∙◌, arith, length-set, get_or-set_same, get_or-set_other, Option, Some, None}
use Rattle.std.specs.Prelude.{fold, option_map}
use Rattle.std.specs.List.{find}
use Rattle.std.specs.Str.{bytes_eq}
use Rattle.std.specs.Ordering.{nat_cmp, eq_by_cmp}
use Rattle.std.specs.Cmp.Lexicographic.{slice_cmp}
use Rattle.std.specs.FinMap as maps
use Rattle.std.proofs.lemmas.Cmp.{nat_list_cmp_total}
use Rattle.std.proofs.lemmas.Map.Text.{is_eq-slice_cmp}
use Rattle.std.proofs.lemmas.Slice.Eq.{bytes_eq-Decides}
use Rattle.std.proofs.lemmas.Bool.Decides.{same_from_decides}
use Rattle.std.proofs.lemmas.List.Sums.{sum_by-set}
use Rattle.ds_base.specs.declared.geometry.Kind.{Kind}
use Rattle.ds_base.specs.declared.names.Key.{Key}
use Rattle.ds_base.specs.declared.names.NodeKind.TheVariants as node_kinds
use Rattle.ds_tree.specs.Nodes.{File, Object, FileTree, unborn, object_at, node_at}
use Rattle.ds_tree.specs.Counts.{node_uses, used_of}
use Rattle.ds_dir.specs.declared.sub_block.Entry.{Entry}
use Rattle.ds_world.specs.FirstRules.{NumberedFrom, entries_map, file_of, with_file}

abbrev pub object_is : Key → ℕ
object_is key = key.object

abbrev pub files_in : FileTree → List Entry → FileTree
files_in t es = fold with_file t es

pub length-files : (t : FileTree) (es : List Entry) → length (files_in t es).objects ≡ length t.objects
length-files t [] = refl
length-files t (e ∷ es) = length-files (with_file t e) es ∙ length-set t.objects e.key.object (file_of e)

-- the objects below the first number, and past the last, stay
pub object_below : (t : FileTree) (i : ℕ) (es : List Entry) (n : ℕ) → NumberedFrom i es → n < i → object_at (files_in t es) n ≡ object_at t n
object_below t i [] n numbered less = refl
object_below t i (e ∷ es) n numbered less =
    let number = ap object_is numbered.0 in
    let other : n ≢ e.key.object = omega arith in
    object_below (with_file t e) (i + 1) es n numbered.2 (omega arith) ∙ get_or-set_other t.objects e.key.object n (file_of e) unborn other

pub object_past : (t : FileTree) (i : ℕ) (es : List Entry) (n : ℕ) → NumberedFrom i es → i + length es ≤ n → object_at (files_in t es) n ≡ object_at t n
object_past t i [] n numbered past = refl
object_past t i (e ∷ es) n numbered past =
    let number = ap object_is numbered.0 in
    let other : n ≢ e.key.object = omega arith in
    object_past (with_file t e) (i + 1) es n numbered.2 (omega arith) ∙ get_or-set_other t.objects e.key.object n (file_of e) unborn other

-- what is found among the entries is a file of the tree
pub record IsFileIn (t : FileTree) (i : ℕ) (e : Entry) : Type 0 where
  pub object : object_at t e.key.object ≡ file_of e
  pub number : i ≤ e.key.object
  pub kind : e.kind ≡ node_kinds.File

find_split : {A : Type 0} (b : Bool) (x : A) (rest : Option A) (e : A) → cond b (Some x) rest ≡ Some e → (x ≡ e) ⊎ (rest ≡ Some e)
find_split true x rest e h = inl cc
find_split false x rest e h = inr h

pub file_found : (t : FileTree) (i : ℕ) (es : List Entry) (p : Entry → Bool) (e : Entry) → NumberedFrom i es → i + length es ≤ length t.objects → find p es ≡ Some e
    → IsFileIn (files_in t es) i e
file_found t i [] p e numbered room found = absurd cc
file_found t i (x ∷ es) p e numbered room found =
    let number = ap object_is numbered.0 in
    elim (find_split (p x) x (find p es) e found) [
      | inl here ↦
          let stays = object_below (with_file t x) (i + 1) es x.key.object numbered.2 (omega arith) in
          let P : Entry → Type 0 = λ y. IsFileIn (files_in (with_file t x) es) i y in
          subst P here (record {
            object = stays ∙ get_or-set_same t.objects x.key.object (file_of x) unborn (omega arith);
            number = omega arith;
            kind = numbered.1;
          })
      | inr later ↦
          let is = file_found (with_file t x) (i + 1) es p e numbered.2 (omega (arith, length-set t.objects x.key.object (file_of x))) later in
          record { object = is.object; number = omega (arith, is.number); kind = is.kind }
    ]

-- what the map of names finds is what a search of the entries finds
same_test : (name other : List ℕ) → eq_by_cmp (slice_cmp nat_cmp) name other ≡ bytes_eq other name
same_test name other =
    is_eq-slice_cmp name other ∙ same_from_decides (bytes_eq name other) (bytes_eq other name) (bytes_eq-Decides name other) (
      (λ h. sym ((bytes_eq-Decides other name).0 h)),
      (λ e. (bytes_eq-Decides other name).1 (sym e)),
    )

choose : (b c : Bool) (e : Entry) (left : Option ℕ) (right : Option Entry) → b ≡ c → left ≡ option_map (λ (x : Entry). x.key.object) right
    → cond b (Some e.key.object) left ≡ option_map (λ (x : Entry). x.key.object) (cond c (Some e) right)
choose b true e left right same rest = ap (λ (d : Bool). cond d (Some e.key.object) left) same
choose b false e left right same rest = ap (λ (d : Bool). cond d (Some e.key.object) left) same ∙ rest

pub found_by_name : (name : List ℕ) (es : List Entry)
    → maps.find (slice_cmp nat_cmp) name (map (λ (e : Entry). (e.name, e.key.object)) es) ≡ option_map (λ (e : Entry). e.key.object) (find (λ e. bytes_eq e.name name) es)
found_by_name name [] = refl
found_by_name name (e ∷ es) = choose _ (bytes_eq e.name name) e _ (find (λ x. bytes_eq x.name name) es) (same_test name e.name) (found_by_name name es)

pub get-entries_map : (name : List ℕ) (es : List Entry) → maps.get (entries_map es) name ≡ option_map (λ (e : Entry). e.key.object) (find (λ e. bytes_eq e.name name) es)
get-entries_map name es = maps.get-from_entries nat_list_cmp_total _ name ∙ found_by_name name es

one_more : (b : Bool) (n : ℕ) → cond b n (n + 1) ≤ n + 1
one_more true n = omega arith
one_more false n = omega arith

pub len-entries_map : (es : List Entry) → maps.len (entries_map es) ≤ length es
len-entries_map [] = omega (arith, maps.len-empty (slice_cmp nat_cmp))
len-entries_map (e ∷ es) =
    omega (arith, len-entries_map es, maps.len-insert nat_list_cmp_total (entries_map es) e.name e.key.object, one_more (maps.contains_key (entries_map es) e.name) (maps.len (entries_map es)))

-- what an empty file uses of a kind
abbrev file_uses : Kind → ℕ
file_uses kind = node_uses kind (Some (File []))

pub used-files : (kind : Kind) (t : FileTree) (i : ℕ) (es : List Entry) → NumberedFrom i es → ((n : ℕ) → i ≤ n → node_at t n ≡ None) → i + length es ≤ length t.objects
    → used_of (files_in t es) kind ≡ used_of t kind + length es * file_uses kind
used-files kind t i [] numbered none room = omega arith
used-files kind t i (e ∷ es) numbered none room =
    let number = ap object_is numbered.0 in
    let uses : Object → ℕ = λ o. node_uses kind o.node in
    let before : node_uses kind (node_at t e.key.object) ≡ 0 = ap (node_uses kind) (none e.key.object (omega arith)) in
    let here = sum_by-set uses t.objects e.key.object (file_of e) unborn (omega arith) in
    let after : (n : ℕ) → i + 1 ≤ n → node_at (with_file t e) n ≡ None = λ n le.
    let other : n ≢ e.key.object = omega arith in
    ap (λ (o : Object). o.node) (get_or-set_other t.objects e.key.object n (file_of e) unborn other) ∙ none n (omega arith) in
    let rest = used-files kind (with_file t e) (i + 1) es numbered.2 after (omega (arith, length-set t.objects e.key.object (file_of e))) in
    grind arith
