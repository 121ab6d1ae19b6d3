-- A Lookup asks for what it may, and answers what the tree says.
use Rattle.std.proofs.Common.{◌≡◌, ℕ, ◌*◌, ◌==◌, if◌then◌else◌, List, Option, None, Some, refl, sym, ap, subst, ◌∙◌, slice_get}
use Rattle.std.specs.Prelude.{option_map}
use Rattle.std.specs.FinMap as maps
use Rattle.std.proofs.lemmas.Cmp.{nat_eq_equiv}
use Rattle.std.proofs.lemmas.Option.{same_Some}
use Rattle.ds_base.specs.declared.geometry.Geom.{Geom}
use Rattle.ds_base.specs.declared.names.Key.{Key}
use Rattle.ds_base.specs.declared.names.NodeKind.{NodeKind}
use Rattle.ds_base.specs.declared.names.NodeKind.TheVariants as kinds
use Rattle.ds_base.specs.declared.sectors.Sector.{Sector}
use Rattle.ds_dir.specs.declared.sub_block.Entry.{Entry}
use Rattle.ds_fd.specs.declared.body.Body.{Body}
use Rattle.ds_image.specs.Asking.{HasItsBlock}
use Rattle.ds_image_parts.specs.Objects.{subs_by, subs_of, used_rooms, entries_of, node_by}
use Rattle.ds_image_parts.specs.Parts.{Parts, part_at}
use Rattle.ds_image_parts.specs.Readings.{ReadsParts}
use Rattle.ds_image.specs.SeenValues.{SeenValue, look_of}
use Rattle.ds_image.specs.Sound.{StandsFor, IsNamedRight}
use Rattle.ds_image.specs.declared.asks.Ask.{Ask}
use Rattle.ds_image.specs.declared.asks.Ask.TheVariants as asks
use Rattle.ds_image.proofs.FileTrees.EntryNames.{get-entries}
use Rattle.ds_plan_dirs.specs.Answers.{lookup_reply, lookup_known}
use Rattle.ds_plan_base.specs.Bodies.{dir_of_key}
use Rattle.ds_plan_base.proofs.DirAsks.{DirAsks}
use Rattle.ds_plan_base.proofs.DirSeen.{HasDir, said_found, said_entry, IsFoundIn}
use Rattle.ds_plan_base.specs.Entries.{found_in}
use Rattle.ds_image_parts.specs.Objects.{entry_named}
use Rattle.ds_plan_base.specs.Steps.{settled}
use Rattle.ds_plan_base.specs.declared.entries.Found.{Found}
use Rattle.ds_plan_base.proofs.Dirs.{dir_goes, dir_in, object_in}
use Rattle.ds_plan_base.proofs.Finding.{find_goes, named-at, named-find}
use Rattle.ds_plan_base.proofs.Going.{goes-after, goes-settled}
use Rattle.ds_tree.specs.Nodes.{Entries, Node, Dir, File, Object, FileTree, object_at, node_of_key, kind_of}
use Rattle.ds_tree.specs.Steps.{Does, Finds}
use Rattle.ds_tree.specs.declared.calls.CallOf.TheVariants as calls
use Rattle.ds_tree.specs.declared.calls.TreeReply.{TreeReply}
use Rattle.ds_tree.specs.declared.calls.TreeReply.TheVariants as replies

-- what the key of a directory names, by its object
pub dir_named : (t : FileTree) (dir : Key) (entries : Entries) (rooms : ℕ) → object_at t dir.object ≡ record { birth = dir.birth; node = Some (Dir entries rooms) }
    → node_of_key t dir ≡ Some (Dir entries rooms)
dir_named t dir entries rooms is =
    ap (λ (x : Object). if x.birth == dir.birth then x.node else None) is ∙ ap (λ b. if b then Some (Dir entries rooms) else None) (nat_eq_equiv.refl dir.birth)

-- the node of a body has the body's kind
node_kind : (p : Parts) (b : Body) (kind : NodeKind) → (node : Node) × (node_by p b (Some kind) ≡ Some node) × (kind_of node ≡ kind)
node_kind p b kinds.Dir = (Dir (entries_of p (subs_by b (Some kinds.Dir))) (4 * b.count), refl, refl)
node_kind p b kinds.File = (File _, refl, refl)

module _ (g : Geom) (dir : Key) (name : List ℕ) where
  missing : (t : FileTree) → node_of_key t dir ≡ None → Does g t (calls.Lookup dir name) replies.NoObject t
  missing t none = rw none (refl, refl)

  no_dir : (t : FileTree) (blocks : List ℕ) → node_of_key t dir ≡ Some (File blocks) → Does g t (calls.Lookup dir name) replies.NotDir t
  no_dir t blocks file = rw file (refl, refl)

  does_none : (t : FileTree) (entries : Entries) (rooms : ℕ) → node_of_key t dir ≡ Some (Dir entries rooms) → maps.get entries name ≡ None
      → Does g t (calls.Lookup dir name) replies.NotFound t
  does_none t entries rooms is none = rw (is, none) (refl, refl)

  does_find : (t : FileTree) (entries : Entries) (rooms : ℕ) (key : Key) (kind : NodeKind) (node : Node)
      → node_of_key t dir ≡ Some (Dir entries rooms) → Finds t dir name key node → maps.get entries name ≡ Some key.object → kind_of node ≡ kind
      → Does g t (calls.Lookup dir name) (replies.Found key kind) t
  does_find t entries rooms key kind node is finds there same = rw (is, there) (node, finds, sym same, refl)

  -- what the entry of the name says is what the tree has under it
  does_entry : (image : List Sector) (t : FileTree) (stands : StandsFor g image t) (b : Body) (e : Entry)
      → part_at stands.parts.bodies dir.object ≡ Some b
      → object_at t dir.object ≡ record { birth = dir.birth; node = Some (Dir (entries_of stands.parts (subs_of (Some b))) (4 * b.count)) }
      → entry_named (used_rooms stands.parts (subs_of (Some b))) name ≡ Some e
      → Does g t (calls.Lookup dir name) (replies.Found e.key e.kind) t
  does_entry image t stands b e body in_tree named =
      let q = stands.parts in
      let es : List Entry = used_rooms q (subs_of (Some b)) in
      let entries : Entries = entries_of q (subs_of (Some b)) in
      let at = named-at es name e named in
      let get : maps.get entries name ≡ Some e.key.object = get-entries es name ∙ named-find es name ∙ ap (option_map (λ (e : Entry). e.key.object)) named in
      let right : IsNamedRight q e = stands.sound.entries dir.object at.0 e (ap (λ (r : Option Body). slice_get (used_rooms q (subs_of r)) at.0) body ∙ at.1) in
      let object = object_in g image t e.key.object (Some right.body) stands right.there in
      let node = node_kind q right.body e.kind in
      does_find t entries (4 * b.count) e.key e.kind node.0 (dir_named t dir entries (4 * b.count) in_tree)
      (record {
        entries = entries;
        rooms = 4 * b.count;
        in_dir = ap (λ (x : Object). x.node) in_tree;
        entry = get;
        life = ap (λ (x : Object). x.birth) object ∙ right.birth;
        is_node = ap (λ (x : Object). x.node) object ∙ ap (node_by q right.body) right.kind ∙ node.1;
      })
      get node.2

  does_by : (image : List Sector) (t : FileTree) (stands : StandsFor g image t) (b : Body) (r : Option Entry) (found : Option Found)
      → part_at stands.parts.bodies dir.object ≡ Some b
      → object_at t dir.object ≡ record { birth = dir.birth; node = Some (Dir (entries_of stands.parts (subs_of (Some b))) (4 * b.count)) }
      → entry_named (used_rooms stands.parts (subs_of (Some b))) name ≡ r → said_found found ≡ said_entry r
      → Does g t (calls.Lookup dir name) (lookup_reply found) t
  does_by image t stands b None None body in_tree named said =
      let es : List Entry = used_rooms stands.parts (subs_of (Some b)) in
      let entries : Entries = entries_of stands.parts (subs_of (Some b)) in
      does_none t entries (4 * b.count) (dir_named t dir entries (4 * b.count) in_tree)
      (get-entries es name ∙ named-find es name ∙ ap (option_map (λ (e : Entry). e.key.object)) named)
  does_by image t stands b None (Some f) body in_tree named said = absurd cc
  does_by image t stands b (Some e) None body in_tree named said = absurd cc
  does_by image t stands b (Some e) (Some f) body in_tree named said =
      let same : ◌≡◌ {A = Key × NodeKind} (f.key, f.kind) (e.key, e.kind) = same_Some (f.key, f.kind) (e.key, e.kind) said in
      subst (λ (pair : Key × NodeKind). Does g t (calls.Lookup dir name) (replies.Found pair.0 pair.1) t) (sym same)
      (does_entry image t stands b e body in_tree named)

  block_none : (found : Option Found) → HasItsBlock g (lookup_reply found)
  block_none None = tt
  block_none (Some found) = tt

  -- all that a Lookup asks for is good
  pub lookup_asks : (seen : SeenValue) (p : Parts) → ReadsParts g (look_of seen) p
      → DirAsks g (calls.Lookup dir name) dir.object seen p (settled (lookup_known g seen p dir name))
  lookup_asks seen p reads =
      let Good : Ask → Type 0 = DirAsks g (calls.Lookup dir name) dir.object seen p in
      let Replied : TreeReply → Type 0 = λ reply. Good (asks.Done reply) in
      goes-settled Good (lookup_known g seen p dir name)
      (goes-after Good (HasDir g seen p dir) Replied (dir_of_key g seen p dir) _ (dir_goes g (calls.Lookup dir name) dir seen p reads missing no_dir)
      (λ b has.
      goes-after Good (IsFoundIn g seen (subs_of (Some b)) name) Replied (found_in g seen p b name) _ (find_goes g (calls.Lookup dir name) dir seen p reads b has name)
      (λ found said. record {
        block = block_none found;
        does = λ image t stands agrees.
            let q = stands.parts in
            let in_tree = dir_in g seen p dir b image t stands reads agrees has in
            let subs : subs_by b (Some kinds.Dir) ≡ subs_of (Some b) = ap (subs_by b) (sym has.sees.is_kind) in
            does_by image t stands b (entry_named (used_rooms q (subs_of (Some b))) name) found in_tree.0
            (in_tree.1 ∙ ap (λ (l : List ℕ). record { birth = dir.birth; node = Some (Dir (entries_of q l) (4 * b.count)) }) subs)
            refl (said image t stands agrees);
      })))
