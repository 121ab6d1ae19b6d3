-- A tree that keeps the rules is one whose root is there, and whose objects are each named once and reached.
use Rattle.std.proofs.Common.{◌≡◌, ◌≢◌, ℕ, Bool, true, false, List, [], ◌∷◌, length, map, Option, None, Some, slice_get, set, refl, sym, ap, ◌∙◌, subst, inl, inr, arith}
use Rattle.std.specs.Prelude.{is_some}
use Rattle.std.proofs.lemmas.Bool.{false≢true, cases_lt, cases_eq}
use Rattle.std.proofs.lemmas.List.{get_or-set_other, get_or_past, get_or-map, length-map, length-set}
use Rattle.ds_base.specs.declared.geometry.Geom.{Geom}
use Rattle.ds_base.specs.declared.names.NodeKind.{NodeKind}
use Rattle.ds_base.specs.declared.names.NodeKind.TheVariants as kinds
use Rattle.ds_dir.specs.declared.sub_block.Entry.{Entry}
use Rattle.ds_fd.specs.declared.body.Body.{Body}
use Rattle.ds_tree.specs.Nodes.{Object, node_at, birth_at}
use Rattle.ds_tree.specs.Steps.{is_dir}
use Rattle.ds_tree.specs.WellFormed.{Names, AreNamedOnce, IsTree, Reached, root, entry}
use Rattle.ds_image_parts.specs.Listings.{lists_by}
use Rattle.ds_image_parts.specs.declared.listings.Listed.TheVariants as listed
use Rattle.ds_image_parts.specs.Objects.{node_by, object_of, tree_of, is_used}
use Rattle.ds_image_tables.specs.Owns.{Owns, IsAt, bit}
use Rattle.ds_image_parts.specs.Parts.{Parts, part_at}
use Rattle.ds_image.specs.Rooted.{HasRoot, named_bits, IsRooted}
use Rattle.ds_image.specs.Sound.{IsSound, rooms_used_by, IsNamedRight}
use Rattle.ds_image.proofs.FileTrees.EntryNames.{apart-index}
use Rattle.ds_image.proofs.FileTrees.TreeParts.{object-is, node-is, used-at, node-at, name-from_entry, entry-from_list, list-from_name}

-- whether a descriptor's bit is set: that of each used one but the root
used_bit : (bodies : List (Option Body)) (o : ℕ) → bit (map is_used bodies) o ≡ is_used (part_at bodies o)
used_bit bodies o = elim (cases_lt o (length bodies)) [
  | inl below ↦ get_or-map is_used bodies o None false below
  | inr past ↦ get_or_past (map is_used bodies) o false (omega (arith, length-map bodies is_used)) ∙ ap is_used (sym (get_or_past bodies o None past))
]

root_bit : (bits : List Bool) → bit (set bits 0 false) 0 ≡ false
root_bit [] = refl
root_bit (b ∷ bits) = refl

pub named_bit : (p : Parts) (o : ℕ) → o ≢ 0 → bit (named_bits p) o ≡ is_used (part_at p.bodies o)
named_bit p o other = get_or-set_other (map is_used p.bodies) 0 o false false other ∙ used_bit p.bodies o

pub named-count : (p : Parts) → length (named_bits p) ≡ length p.bodies
named-count p = length-set (map is_used p.bodies) 0 false ∙ length-map p.bodies is_used

-- the object of an entry is in use
right-used : (p : Parts) (e : Entry) → IsNamedRight p e → is_used (part_at p.bodies e.key.object) ≡ true
right-used p e right = ap is_used right.there ∙ ap (λ (k : Option NodeKind). is_some k) right.kind

pub named-once : (p : Parts) → IsSound p → Owns (lists_by p listed.Names) (named_bits p) → AreNamedOnce (tree_of p)
named-once p sound named = record {
  used = λ dir name x names.
      let at = list-from_name p dir name x names in
      node-at p x (used_by x (named.marked dir at.0 x at.1.3));
  not_root = λ dir name names.
      let at = list-from_name p dir name 0 names in
      false≢true (sym (root_bit (map is_used p.bodies)) ∙ named.marked dir at.0 0 at.1.3);
  once = λ dir dir' name name' x names names'.
      let one = list-from_name p dir name x names in
      let two = list-from_name p dir' name' x names' in
      let same = named.once dir one.0 dir' two.0 x one.1.3 two.1.3 in
      (same.0, same_name dir dir' one.0 two.0 one.1.0 two.1.0 name name' same.0 same.1 one.1.1 two.1.1 one.1.2 two.1.2);
}
  where
    used_by : (x : ℕ) → bit (named_bits p) x ≡ true → is_used (part_at p.bodies x) ≡ true
    used_by x marked = elim (cases_eq x 0) [
      | inl same ↦ absurd (false≢true (sym (ap (bit (named_bits p)) same ∙ root_bit (map is_used p.bodies)) ∙ marked))
      | inr other ↦ sym (named_bit p x other) ∙ marked
    ]

    same_name : (dir dir' i j : ℕ) (e f : Entry) (name name' : List ℕ) → dir ≡ dir' → i ≡ j → slice_get (rooms_used_by p dir) i ≡ Some e
        → slice_get (rooms_used_by p dir') j ≡ Some f
        → e.name ≡ name → f.name ≡ name' → name ≡ name'
    same_name dir dir' i j e f name name' dirs places at at' is is' =
        let moved : slice_get (rooms_used_by p dir) i ≡ slice_get (rooms_used_by p dir') j = λ k. slice_get (rooms_used_by p (dirs k)) (places k) in
        let same : e ≡ f = cc in
        sym is ∙ ap (λ (x : Entry). x.name) same ∙ is'

-- where a tree keeps the rules its names are those that each used object but the root has
pub named-from_tree : (g : Geom) (p : Parts) → IsSound p → IsTree g (tree_of p) → Owns (lists_by p listed.Names) (named_bits p)
named-from_tree g p sound tree = record {
  once = λ o i q j x one two.
      let e = entry-from_list p o i x one in
      let f = entry-from_list p q j x two in
      let same = tree.named_once.once o q e.0.name f.0.name x (named o i x e) (named q j x f) in
      (same.0, apart-index (rooms_used_by p o) (sound.names o) i j e.0 f.0 e.1 (subst (λ d. slice_get (rooms_used_by p d) j ≡ Some f.0) (sym same.0) f.1) same.1);
  marked = λ o i x at.
      let e = entry-from_list p o i x at in
      let names = named o i x e in
      let other : x ≢ 0 = λ is. tree.named_once.not_root o e.0.name (subst (Names (tree_of p) o e.0.name) is names) in
      named_bit p x other ∙ used-at p x (tree.named_once.used o e.0.name x names);
  listed = λ x marked.
      let other : x ≢ 0 = λ is. false≢true (sym (ap (bit (named_bits p)) is ∙ root_bit (map is_used p.bodies)) ∙ marked) in
      listed_by x other (tree.reached x (node-at p x (sym (named_bit p x other) ∙ marked)));
}
  where
    named : (o i x : ℕ) → (e : (y : Entry) × (slice_get (rooms_used_by p o) i ≡ Some y) × (y.key.object ≡ x))
        → Names (tree_of p) o e.0.name x
    named o i x e = subst (Names (tree_of p) o e.0.name) e.2 (name-from_entry p sound o i e.0 e.1)

    listed_by : (x : ℕ) → x ≢ 0 → Reached (tree_of p) x → (o : ℕ) × ((i : ℕ) × IsAt (lists_by p listed.Names) o i x)
    listed_by _ other root = absurd (other refl)
    listed_by _ other (entry dir name x up names) = let at = list-from_name p dir name x names in (dir, (at.0, at.1.3))

-- the root
is_dir-by : (p : Parts) (b : Body) (kind : Option NodeKind) → b.kind ≡ kind → is_dir (node_by p b kind) ≡ true → b.kind ≡ Some kinds.Dir
is_dir-by p b None is dir = absurd (false≢true dir)
is_dir-by p b (Some kinds.Dir) is dir = is
is_dir-by p b (Some kinds.File) is dir = absurd (false≢true dir)

root-of : (p : Parts) (body : Option Body) → part_at p.bodies 0 ≡ body → is_dir (object_of p body).node ≡ true
    → (object_of p body).birth ≡ 1 → HasRoot p
root-of p None is dir birth = absurd (false≢true dir)
root-of p (Some b) is dir birth = record { body = b; there = is; kind = is_dir-by p b b.kind refl dir; birth = birth }

pub root-from_tree : (g : Geom) (p : Parts) → IsTree g (tree_of p) → HasRoot p
root-from_tree g p tree =
    root-of p (part_at p.bodies 0) refl (ap is_dir (sym (node-is p 0)) ∙ tree.root_dir) (ap (λ (o : Object). o.birth) (sym (object-is p 0)) ∙ tree.root_birth)

pub root-used : (p : Parts) → HasRoot p → is_used (part_at p.bodies 0) ≡ true
root-used p has = ap is_used has.there ∙ ap (λ (k : Option NodeKind). is_some k) has.kind

pub root-is_dir : (p : Parts) → HasRoot p → is_dir (node_at (tree_of p) 0) ≡ true
root-is_dir p has = ap is_dir (node-is p 0) ∙ ap (λ body. is_dir (object_of p body).node) has.there ∙ ap (λ kind. is_dir (node_by p has.body kind)) has.kind

pub root-birth : (p : Parts) → HasRoot p → birth_at (tree_of p) 0 ≡ 1
root-birth p has = ap (λ (o : Object). o.birth) (object-is p 0) ∙ ap (λ body. (object_of p body).birth) has.there ∙ has.birth

pub rooted-from_tree : (g : Geom) (p : Parts) → IsSound p → IsTree g (tree_of p) → IsRooted p
rooted-from_tree g p sound tree = record {
  root = root-from_tree g p tree;
  named = named-from_tree g p sound tree;
  reached = λ o used. tree.reached o (node-at p o used);
}
