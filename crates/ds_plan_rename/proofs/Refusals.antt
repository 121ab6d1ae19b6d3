-- When a Rename is refused, by the nodes of both directories and by the entry.
use Rattle.std.proofs.Common.{◌≡◌, ◌≢◌, ℕ, ◌==◌, ◌&&◌, Bool, true, false, nat_le, List, Option, None, Some, refl, ap, ◌∙◌, eq-eqb, ne_eqb, slice_get}
use Rattle.std.specs.Prelude.{option_map, is_some}
use Rattle.std.specs.FinMap as maps
use Rattle.ds_base.specs.declared.geometry.Geom.{Geom}
use Rattle.ds_base.specs.declared.geometry.Kind.TheVariants.{Sb}
use Rattle.ds_base.specs.declared.names.Key.{Key}
use Rattle.ds_base.specs.declared.names.NodeKind.{NodeKind}
use Rattle.ds_base.specs.declared.names.NodeKind.TheVariants as kinds
use Rattle.ds_base.specs.declared.sectors.Sector.{Sector}
use Rattle.ds_dir.specs.declared.sub_block.Entry.{Entry}
use Rattle.ds_fd.specs.declared.body.Body.{Body}
use Rattle.ds_plan_laws_gone.proofs.Going.{entry-node}
use Rattle.ds_image_parts.specs.Objects.{subs_of, used_rooms, entries_of, node_by}
use Rattle.ds_image_parts.specs.Parts.{Parts, part_at}
use Rattle.ds_image.specs.Sound.{StandsFor, IsNamedRight}
use Rattle.ds_image.proofs.FileTrees.EntryNames.{get-entries}
use Rattle.ds_image_parts.specs.Objects.{entry_named}
use Rattle.ds_plan_base.proofs.Dirs.{object_in}
use Rattle.ds_plan_base.proofs.Finding.{named-at, named-find}
use Rattle.ds_tree.specs.Counts.{free_of}
use Rattle.ds_tree.specs.Nodes.{Entries, Dir, File, Object, FileTree, node_of_key}
use Rattle.ds_tree.specs.Steps.{Does, entry_node, is_dir, is_full, refuses_rename}
use Rattle.ds_tree.specs.declared.calls.CallOf.{CallOf}
use Rattle.ds_tree.specs.declared.calls.CallOf.TheVariants as calls
use Rattle.ds_tree.specs.declared.calls.TreeReply.{TreeReply}
use Rattle.ds_tree.specs.declared.calls.TreeReply.TheVariants as replies

abbrev pub is_dir_kind : NodeKind → Bool
is_dir_kind kinds.Dir = true
is_dir_kind kinds.File = false

-- what a tree has under a name: an object, which is a directory or a file
pub record HasNamed (t : FileTree) (entries : Entries) (name : List ℕ) (kind : NodeKind) : Type 0 where
  pub there : maps.contains_key entries name ≡ true
  pub is_kind : is_dir (entry_node t entries name) ≡ is_dir_kind kind

node-kind : (p : Parts) (b : Body) (kind : NodeKind) → is_dir (node_by p b (Some kind)) ≡ is_dir_kind kind
node-kind p b kinds.Dir = refl
node-kind p b kinds.File = refl

-- the first entry of a name is what the tree has under it
pub entry-in_tree : (g : Geom) (image : List Sector) (t : FileTree) (stands : StandsFor g image t) (object : ℕ) (b : Body) (name : List ℕ) (e : Entry)
    → part_at stands.parts.bodies object ≡ Some b → entry_named (used_rooms stands.parts (subs_of (Some b))) name ≡ Some e
    → HasNamed t (entries_of stands.parts (subs_of (Some b))) name e.kind
entry-in_tree g image t stands object b name e body named =
    let q = stands.parts in
    let es : List Entry = used_rooms q (subs_of (Some b)) in
    let entries : Entries = entries_of q (subs_of (Some b)) in
    let at = named-at es name e named in
    let get : maps.get entries name ≡ Some e.key.object = get-entries es name ∙ named-find es name ∙ ap (option_map (λ (e : Entry). e.key.object)) named in
    let right : IsNamedRight q e = stands.sound.entries object at.0 e (ap (λ (r : Option Body). slice_get (used_rooms q (subs_of r)) at.0) body ∙ at.1) in
    let in_tree = object_in g image t e.key.object (Some right.body) stands right.there in
    record {
      there = ap is_some get;
      is_kind =
          ap is_dir (entry-node t entries name e.key.object get ∙ ap (λ (x : Object). x.node) in_tree ∙ ap (node_by q right.body) right.kind)
          ∙ node-kind q right.body e.kind;
    }

module _ (g : Geom) (t : FileTree) (dir : Key) (name : List ℕ) (to : Key) (fresh : List ℕ) where
  abbrev call : CallOf Key
  call = calls.Rename dir name to fresh

  pub missing : node_of_key t dir ≡ None → Does g t call replies.NoObject t
  missing none = rw none (refl, refl)

  pub no_dir : (blocks : List ℕ) → node_of_key t dir ≡ Some (File blocks) → Does g t call replies.NotDir t
  no_dir blocks file = rw file (refl, refl)

  module _ (entries : Entries) (rooms : ℕ) (dir_is : node_of_key t dir ≡ Some (Dir entries rooms)) where
    pub to-missing : node_of_key t to ≡ None → Does g t call replies.NoObject t
    to-missing none = rw (dir_is, none) (refl, refl)

    pub to-no_dir : (blocks : List ℕ) → node_of_key t to ≡ Some (File blocks) → Does g t call replies.NotDir t
    to-no_dir blocks file = rw (dir_is, file) (refl, refl)

    module _ (entries' : Entries) (rooms' : ℕ) (to_is : node_of_key t to ≡ Some (Dir entries' rooms')) where
      refused : (reply : TreeReply) → refuses_rename g t (dir.object == to.object) name fresh entries entries' rooms' ≡ Some reply → Does g t call reply t
      refused reply is = rw (dir_is, to_is, is) (refl, refl)

      pub no-entry : maps.contains_key entries name ≡ false → Does g t call replies.NotFound t
      no-entry none = refused replies.NotFound (rw none refl)

      -- a directory stays where it is
      pub crosses : HasNamed t entries name kinds.Dir → dir.object ≢ to.object → Does g t call replies.CrossDir t
      crosses has apart =
          let other : (dir.object == to.object) ≡ false = ne_eqb dir.object to.object apart in
          refused replies.CrossDir (rw (has.there, has.is_kind, other) refl)

      -- inside one directory
      pub there-inside : (kind : NodeKind) → HasNamed t entries name kind → dir.object ≡ to.object → maps.contains_key entries' fresh ≡ true → Does g t call replies.Exists t
      there-inside kind has same there =
          let one : (dir.object == to.object) ≡ true = eq-eqb dir.object to.object same in
          let stays : (is_dir (entry_node t entries name) && false) ≡ false = and-false (is_dir (entry_node t entries name)) in
          refused replies.Exists (rw (has.there, one, stays, there) refl)
        where
          and-false : (b : Bool) → (b && false) ≡ false
          and-false true = refl
          and-false false = refl

      -- into another directory
      module _ (has : HasNamed t entries name kinds.File) (apart : dir.object ≢ to.object) where
        pub there-across : maps.contains_key entries' fresh ≡ true → Does g t call replies.Exists t
        there-across there = refused replies.Exists (rw (has.there, has.is_kind, there) refl)

        pub full-across : maps.contains_key entries' fresh ≡ false → nat_le 384 (maps.len entries') ≡ true → Does g t call replies.DirFull t
        full-across absent full =
            let other : (dir.object == to.object) ≡ false = ne_eqb dir.object to.object apart in
            refused replies.DirFull (rw (has.there, has.is_kind, absent, other, full) refl)

        pub no-room : maps.contains_key entries' fresh ≡ false → nat_le 384 (maps.len entries') ≡ false → is_full entries' rooms' ≡ true → free_of g t Sb ≡ 0
            → Does g t call (replies.NoSpace Sb) t
        no-room absent few full none =
            let other : (dir.object == to.object) ≡ false = ne_eqb dir.object to.object apart in
            let empty : (free_of g t Sb == 0) ≡ true = eq-eqb (free_of g t Sb) 0 none in
            refused (replies.NoSpace Sb) (rw (has.there, has.is_kind, absent, other, few, full, empty) refl)
