-- A planner that looks for the entry that goes, and for its object, asks for what it may.
use Rattle.std.proofs.Common.{◌≡◌, ℕ, ◌*◌, ◌/◌, ◌<◌, ◌==◌, ◌&&◌, Bool, true, false, nat_eq, nat_lt, List, [], ◌∷◌, ◌++◌, Option, None, Some, inl, refl, sym, ap, subst, ◌∙◌, arith, slice_get}
use Rattle.std.specs.Prelude.{Ok, IsSome, option_map}
use Rattle.std.specs.List.{Contains, list_any}
use Rattle.std.specs.FinMap as maps
use Rattle.std.proofs.lemmas.Bool.{false≢true}
use Rattle.std.proofs.lemmas.Bool.Decides.{nat_tests}
use Rattle.std.proofs.lemmas.Cmp.{nat_eq_equiv}
use Rattle.ds_base.specs.Geometry.{IsGeom, items_of, per_cluster}
use Rattle.ds_base.specs.declared.geometry.Geom.{Geom}
use Rattle.ds_base.specs.declared.geometry.Kind.TheVariants.{Fd}
use Rattle.ds_base.specs.declared.names.Key.{Key}
use Rattle.ds_base.specs.declared.names.NodeKind.{NodeKind}
use Rattle.ds_base.specs.declared.names.NodeKind.TheVariants as kinds
use Rattle.ds_base.specs.declared.sectors.Sector.{Sector}
use Rattle.ds_plan_laws_new.proofs.Granting.{key-node}
use Rattle.ds_dir.specs.declared.sub_block.Entry.{Entry}
use Rattle.ds_fd.specs.declared.body.Body.{Body}
use Rattle.ds_plan_laws_gone.specs.Leaving.{go_call}
use Rattle.ds_image.specs.Asking.{Agrees}
use Rattle.ds_image_parts.specs.Objects.{subs_by, subs_of, used_rooms, entries_of, blocks_by, node_by}
use Rattle.ds_image_parts.specs.Parts.{Parts, part_at}
use Rattle.ds_image_parts.specs.Readings.{ReadsParts}
use Rattle.ds_image.specs.SeenValues.{SeenValue, has_lock, look_of}
use Rattle.ds_image.specs.Sound.{StandsFor}
use Rattle.ds_image.specs.declared.asks.Ask.{Ask}
use Rattle.ds_image.specs.declared.asks.Ask.TheVariants as asks
use Rattle.ds_image.proofs.FileTrees.EntryNames.{get-entries}
use Rattle.ds_image.proofs.Spelling.Sizes.{part_within}
use Rattle.ds_layout.specs.Places.{cluster_lock, place_sector}
use Rattle.ds_layout.specs.declared.places.Place.TheVariants as places
use Rattle.ds_plan_base.specs.Bodies.{body_seen, dir_of_key}
use Rattle.ds_plan_base.proofs.DirAsks.{DirAsks, dir_sectors}
use Rattle.ds_plan_base.proofs.DirSeen.{HasDir, IsFoundIn, said_found, said_entry}
use Rattle.ds_plan_base.specs.Entries.{found_in, entry_by, wanted_entry}
use Rattle.ds_image_parts.specs.Objects.{entry_named}
use Rattle.ds_plan_base.proofs.Goes.{Goes}
use Rattle.ds_image.specs.Locks.{MayLock, of_entry, keys_of, RemovesEntry, SeesEntry}
use Rattle.ds_plan_base.proofs.PlanAsks.{PlanAsks}
use Rattle.ds_plan_base.specs.Steps.{after}
use Rattle.ds_plan_base.specs.declared.entries.Found.{Found}
use Rattle.ds_plan_base.proofs.BodyWalk.{HasBody, body_goes}
use Rattle.ds_plan_base.proofs.Dirs.{body_in, dir_in, dir_goes, object_in}
use Rattle.ds_plan_base.proofs.Finding.{find_goes, named-at, named-find}
use Rattle.ds_plan_base.proofs.Founds.{HasFound}
use Rattle.ds_plan_base.proofs.Going.{goes-after, goes-if}
use Rattle.ds_plan_base.proofs.Limits.{or-left, in-front, behind}
use Rattle.ds_plan_base.proofs.Wholes.{goes-other, as-plan}
use Rattle.ds_plan_remove.specs.Entries.{of_kind, entry_of, entry_known, is_of, named_by, body_named}
use Rattle.ds_plan_remove.proofs.FoundEntries.{entry-found}
use Rattle.ds_plan_remove.proofs.Refusals.{go-missing, go-no_dir, go-refused, not_found, not_file, not_dir}
use Rattle.ds_plan_remove.proofs.Staying.{entry_of_key, MayHold, MayRead, locks_found, sectors_found, clusters_held, bitmaps_read, object_sectors}
use Rattle.ds_tree.specs.Nodes.{Dir, File, FileTree, Object, node_at, node_of_key}
use Rattle.ds_tree.specs.Steps.{Does}
use Rattle.ds_tree.specs.declared.calls.CallOf.{CallOf}
use Rattle.ds_tree.specs.declared.calls.TreeReply.TheVariants as replies

-- the directory of a call
pub has-key : (kind : NodeKind) (dir : Key) (name : List ℕ) → Contains (keys_of (go_call kind dir name)) dir
has-key kinds.Dir dir name = (0, omega arith, refl)
has-key kinds.File dir name = (0, omega arith, refl)

pub removes-by : (p : Parts) (kind : NodeKind) (dir : Key) (name : List ℕ) (e : Entry) → SeesEntry p dir name e → RemovesEntry p (go_call kind dir name) e
removes-by p kinds.Dir dir name e sees = sees
removes-by p kinds.File dir name e sees = sees

-- the call holds the object of the entry, and has read its body, which is in use as the entry says
pub record HasObject (g : Geom) (seen : SeenValue) (p : Parts) (kind : NodeKind) (key : Key) (b : Body) : Type 0 where
  pub inside : key.object < items_of g Fd
  pub held : has_lock seen key.object ≡ true
  pub read : IsSome (look_of seen (place_sector g (places.Body key.object)))
  pub there : part_at p.bodies key.object ≡ Some b
  pub life : b.birth ≡ key.birth
  pub is_kind : b.kind ≡ Some kind

-- the body of the entry's object in an image
pub record HasNamed (q : Parts) (kind : NodeKind) (key : Key) : Type 0 where
  pub body : Body
  pub there : part_at q.bodies key.object ≡ Some body
  pub life : body.birth ≡ key.birth
  pub is_kind : body.kind ≡ Some kind

pub of-is : (kind : NodeKind) (used : Option NodeKind) → is_of kind used ≡ true → used ≡ Some kind
of-is kinds.Dir (Some kinds.Dir) is = refl
of-is kinds.File (Some kinds.File) is = refl
of-is kinds.Dir (Some kinds.File) is = absurd (false≢true is)
of-is kinds.File (Some kinds.Dir) is = absurd (false≢true is)
of-is kinds.Dir None is = absurd (false≢true is)
of-is kinds.File None is = absurd (false≢true is)

is-of : (kind : NodeKind) → is_of kind (Some kind) ≡ true
is-of kinds.Dir = refl
is-of kinds.File = refl

both-true : (a b : Bool) → (a && b) ≡ true → (a ≡ true) × (b ≡ true)
both-true true b e = (refl, e)
both-true false b e = absurd (false≢true e)

some-entry : (f : Found) (r : Option Entry) → said_found (Some f) ≡ said_entry r → (e : Entry) × (r ≡ Some e) × (e.key ≡ f.key) × (e.kind ≡ f.kind)
some-entry f None said = absurd cc
some-entry f (Some e) said =
    let same : ◌≡◌ {A = Key × NodeKind} (f.key, f.kind) (e.key, e.kind) = cc in
    (e, refl, sym (ap (λ (x : Key × NodeKind). x.0) same), sym (ap (λ (x : Key × NodeKind). x.1) same))

no-entry : (r : Option Entry) → said_found None ≡ said_entry r → r ≡ None
no-entry None said = refl
no-entry (Some e) said = absurd cc

module _ (g : Geom) (is_geom : IsGeom g) (slot : ℕ) (key : Key) (name : List ℕ) (kind : NodeKind) (seen : SeenValue) (p : Parts) (reads : ReadsParts g (look_of seen) p) where
  abbrev call : CallOf Key
  call = go_call kind key name

  abbrev Good : Ask → Type 0
  Good = PlanAsks g slot call (MayHold g key name kind) (MayRead g key name kind) seen p

  may_hold_dir : MayHold g key name kind seen p key.object
  may_hold_dir =
      in-front key.object (key.object ∷ []) (clusters_held kind ++ locks_found g (entry_of_key g seen p key name kind)) (or-left (nat_eq key.object key.object) false (nat_eq_equiv.refl key.object))

  may_read_dir : (at : ℕ) → list_any (nat_eq at) (dir_sectors g p key.object) ≡ true → MayRead g key name kind seen p at
  may_read_dir at any = in-front at (dir_sectors g p key.object) (bitmaps_read g kind ++ sectors_found g p (entry_of_key g seen p key name kind)) any

  of-dir : (ask : Ask) → DirAsks g call key.object seen p ask → Good ask
  of-dir = as-plan g slot call (MayHold g key name kind) (MayRead g key name kind) key seen p (has-key kind key name) may_hold_dir may_read_dir

  -- the directory is known, or what is asked for is good
  pub key_goes : Goes Good (dir_of_key g seen p key) (HasDir g seen p key)
  key_goes =
      goes-other (DirAsks g call key.object seen p) Good (HasDir g seen p key) (dir_of_key g seen p key) of-dir
      (dir_goes g call key seen p reads (go-missing g kind key name) (go-no_dir g kind key name))

  module _ (dir : Body) (has : HasDir g seen p key dir) where
    abbrev subs : List ℕ
    subs = subs_of (Some dir)

    subs-are : subs_of (Some dir) ≡ subs_by dir (Some kinds.Dir)
    subs-are = ap (subs_by dir) has.sees.is_kind

    pub dir-node : (image : List Sector) (t : FileTree) (stands : StandsFor g image t) → Agrees seen image → node_of_key t key ≡ Some (Dir (entries_of stands.parts subs) (4 * dir.count))
    dir-node image t stands agrees =
        let in_tree = (dir_in g seen p key dir image t stands reads agrees has).1 in
        key-node t key key.birth (ap (λ (x : Object). x.birth) in_tree) refl ∙ ap (λ (x : Object). x.node) in_tree
        ∙ ap (λ l. Some (Dir (entries_of stands.parts l) (4 * dir.count))) (sym subs-are)

    get-named : (image : List Sector) (t : FileTree) (stands : StandsFor g image t) (r : Option Entry) → entry_named (used_rooms stands.parts subs) name ≡ r
        → maps.get (entries_of stands.parts subs) name ≡ option_map (λ (e : Entry). e.key.object) r
    get-named image t stands r is =
        let es = used_rooms stands.parts subs in
        get-entries es name ∙ named-find es name ∙ ap (option_map (λ (e : Entry). e.key.object)) is

    -- the object that was found is there in each image that agrees
    pub found-get : (f : Found) → IsFoundIn g seen subs name (Some f) → (image : List Sector) (t : FileTree) (stands : StandsFor g image t) → Agrees seen image
        → maps.get (entries_of stands.parts subs) name ≡ Some f.key.object
    found-get f found image t stands agrees =
        let one = some-entry f (entry_named (used_rooms stands.parts subs) name) (found image t stands agrees) in
        get-named image t stands (Some one.0) one.1 ∙ ap (λ (k : Key). Some k.object) one.2

    pub found-named : (f : Found) → IsFoundIn g seen subs name (Some f) → (image : List Sector) (t : FileTree) (stands : StandsFor g image t) → Agrees seen image
        → HasNamed stands.parts f.kind f.key
    found-named f found image t stands agrees =
        let q = stands.parts in
        let one = some-entry f (entry_named (used_rooms q subs) name) (found image t stands agrees) in
        let at = named-at (used_rooms q subs) name one.0 one.1 in
        let body = (dir_in g seen p key dir image t stands reads agrees has).0 in
        let is = stands.sound.entries key.object at.0 one.0 (ap (λ r. slice_get (used_rooms q (subs_of r)) at.0) body ∙ at.1) in
        record {
          body = is.body;
          there = ap (λ (k : Key). part_at q.bodies k.object) (sym one.2) ∙ is.there;
          life = is.birth ∙ ap (λ (k : Key). k.birth) one.2;
          is_kind = is.kind ∙ ap Some one.3;
        }

    -- the name isn't there
    missing_good : IsFoundIn g seen subs name None → Good (asks.Done replies.NotFound)
    missing_good found = record {
      block = tt;
      does = λ image t stands agrees.
          let es = used_rooms stands.parts subs in
          let none = no-entry (entry_named es name) (found image t stands agrees) in
          go-refused g kind key name t (entries_of stands.parts subs) (4 * dir.count) replies.NotFound (dir-node image t stands agrees)
          (not_found kind t name (entries_of stands.parts subs) (4 * dir.count) (get-named image t stands None none));
    }

    of_kind-goes : (called : NodeKind) → kind ≡ called → (f : Found) (of : NodeKind) → f.kind ≡ of → IsFoundIn g seen subs name (Some f)
        → Goes Good (of_kind called f of) (λ f. IsFoundIn g seen subs name (Some f))
    of_kind-goes kinds.Dir e f kinds.Dir is found = found
    of_kind-goes kinds.File e f kinds.File is found = found
    of_kind-goes kinds.Dir e f kinds.File is found = record {
      block = tt;
      does = λ image t stands agrees.
          let q = stands.parts in
          let named = found-named f found image t stands agrees in
          let node : node_at t f.key.object ≡ Some (File (blocks_by q named.body (Some kinds.File))) =
          ap (λ (x : Object). x.node) (object_in g image t f.key.object (Some named.body) stands named.there) ∙ ap (node_by q named.body) (named.is_kind ∙ ap Some is) in
          subst (λ k. Does g t (go_call k key name) replies.NotDir t) (sym e)
          (go-refused g kinds.Dir key name t (entries_of q subs) (4 * dir.count) replies.NotDir (dir-node image t stands agrees)
          (not_dir t name (entries_of q subs) (4 * dir.count) f.key.object (found-get f found image t stands agrees) (blocks_by q named.body (Some kinds.File)) node));
    }
    of_kind-goes kinds.File e f kinds.Dir is found = record {
      block = tt;
      does = λ image t stands agrees.
          let q = stands.parts in
          let named = found-named f found image t stands agrees in
          let node : node_at t f.key.object ≡ Some (Dir (entries_of q (subs_by named.body (Some kinds.Dir))) (4 * named.body.count)) =
          ap (λ (x : Object). x.node) (object_in g image t f.key.object (Some named.body) stands named.there) ∙ ap (node_by q named.body) (named.is_kind ∙ ap Some is) in
          subst (λ k. Does g t (go_call k key name) replies.NotFile t) (sym e)
          (go-refused g kinds.File key name t (entries_of q subs) (4 * dir.count) replies.NotFile (dir-node image t stands agrees)
          (not_file t name (entries_of q subs) (4 * dir.count) f.key.object (found-get f found image t stands agrees) (entries_of q (subs_by named.body (Some kinds.Dir))) (4 * named.body.count) node));
    }

    -- the entry is known, or what is asked for is good
    pub entry_goes : Goes Good (entry_known g seen p dir name kind) (λ f. IsFoundIn g seen subs name (Some f))
    entry_goes =
        let Is : Found → Type 0 = λ f. IsFoundIn g seen subs name (Some f) in
        goes-after Good Is Is (wanted_entry g seen p dir name) (entry_of kind)
        (goes-after Good (IsFoundIn g seen subs name) Is (found_in g seen p dir name) entry_by
        (goes-other (DirAsks g call key.object seen p) Good (IsFoundIn g seen subs name) (found_in g seen p dir name) of-dir (find_goes g call key seen p reads dir has name))
        (λ r found. by r found))
        (λ f found. of_kind-goes kind refl f f.kind refl found)
      where
        by : (r : Option Found) → IsFoundIn g seen (subs_of (Some dir)) name r
            → Goes (PlanAsks g slot (go_call kind key name) (MayHold g key name kind) (MayRead g key name kind) seen p) (entry_by r) (λ f. IsFoundIn g seen (subs_of (Some dir)) name (Some f))
        by None found = missing_good found
        by (Some f) found = found

    -- The object of the entry

    module _ (is_dir : dir_of_key g seen p key ≡ Ok dir) (f : Found) (is_f : entry_known g seen p dir name kind ≡ Ok f) (found : IsFoundIn g seen subs name (Some f)) where
      pub at : HasFound g seen p dir name (subs_of (Some dir)) f
      at = (entry-found g seen p reads dir name kind f is_f).1

      pub is_kind : f.kind ≡ kind
      is_kind = (entry-found g seen p reads dir name kind f is_f).0

      of_key_is : entry_of_key g seen p key name kind ≡ Ok f
      of_key_is = ap (λ r. after r (λ dir. entry_known g seen p dir name kind)) is_dir ∙ is_f

      abbrev o : ℕ
      o = f.key.object

      locks-are : locks_found g (entry_of_key g seen p key name kind) ≡ o ∷ cluster_lock Fd (o / per_cluster g Fd) ∷ []
      locks-are = ap (locks_found g) of_key_is

      pub may_hold_found : (k : ℕ) → list_any (nat_eq k) (o ∷ cluster_lock Fd (o / per_cluster g Fd) ∷ []) ≡ true → MayHold g key name kind seen p k
      may_hold_found k any =
          behind k (key.object ∷ []) (clusters_held kind ++ locks_found g (entry_of_key g seen p key name kind))
          (behind k (clusters_held kind) (locks_found g (entry_of_key g seen p key name kind)) (ap (list_any (nat_eq k)) locks-are ∙ any))

      pub may_hold_clusters : (k : ℕ) → list_any (nat_eq k) (clusters_held kind) ≡ true → MayHold g key name kind seen p k
      may_hold_clusters k any =
          behind k (key.object ∷ []) (clusters_held kind ++ locks_found g (entry_of_key g seen p key name kind))
          (in-front k (clusters_held kind) (locks_found g (entry_of_key g seen p key name kind)) any)

      pub may_read_found : (k : ℕ) → list_any (nat_eq k) (place_sector g (places.Bitmap Fd (o / per_cluster g Fd)) ∷ object_sectors g p o) ≡ true → MayRead g key name kind seen p k
      may_read_found k any =
          behind k (dir_sectors g p key.object) (bitmaps_read g kind ++ sectors_found g p (entry_of_key g seen p key name kind))
          (behind k (bitmaps_read g kind) (sectors_found g p (entry_of_key g seen p key name kind)) (ap (λ r. list_any (nat_eq k) (sectors_found g p r)) of_key_is ∙ any))

      pub may_read_bitmaps : (k : ℕ) → list_any (nat_eq k) (bitmaps_read g kind) ≡ true → MayRead g key name kind seen p k
      may_read_bitmaps k any =
          behind k (dir_sectors g p key.object) (bitmaps_read g kind ++ sectors_found g p (entry_of_key g seen p key name kind))
          (in-front k (bitmaps_read g kind) (sectors_found g p (entry_of_key g seen p key name kind)) any)

      may_read_object : (k : ℕ) → list_any (nat_eq k) (object_sectors g p o) ≡ true → MayRead g key name kind seen p k
      may_read_object k any = may_read_found k (behind k (place_sector g (places.Bitmap Fd (o / per_cluster g Fd)) ∷ []) (object_sectors g p o) any)

      pub sees : SeesEntry p key name at.entry
      sees = record { body = dir; in_dir = has.sees; first = at.first }

      pub lock_allowed : o < items_of g Fd → MayLock g slot call p o
      lock_allowed inside =
          let same : at.entry.key.object ≡ o = ap (λ (k : Key). k.object) (sym at.key) in
          subst (MayLock g slot call p) same (of_entry at.entry (removes-by p kind key name at.entry sees) (subst (λ x. x < items_of g Fd) (sym same) inside))

      pub named-in : (image : List Sector) (t : FileTree) (stands : StandsFor g image t) → Agrees seen image → HasNamed stands.parts kind f.key
      named-in image t stands agrees = subst (λ k. HasNamed stands.parts k f.key) is_kind (found-named f found image t stands agrees)

      outside_good : nat_lt o (items_of g Fd) ≡ false → Good (asks.Odd (place_sector g (places.SubBlock f.sub)))
      outside_good past = record {
        read = at.has.read;
        none = λ image t stands agrees.
            let named = named-in image t stands agrees in
            let within = part_within stands.parts.bodies o named.body named.there in
            absurd (grind (arith, nat_tests, past, within, stands.reads.bodies.len));
      }

      lock_good : o < items_of g Fd → has_lock seen o ≡ false → Good (asks.Lock o)
      lock_good inside free = record {
        is_lock = inl inside;
        free = free;
        allowed = lock_allowed inside;
        one = may_hold_found o (or-left (nat_eq o o) (list_any (nat_eq o) (cluster_lock Fd (o / per_cluster g Fd) ∷ [])) (nat_eq_equiv.refl o));
      }

      unused_good : (b : Body) → o < items_of g Fd → HasBody g seen p o b → ((b.birth == f.key.birth) && is_of kind b.kind) ≡ false → Good (asks.Odd (place_sector g (places.Body o)))
      unused_good b inside body wrong = record {
        read = body.read;
        none = λ image t stands agrees.
            let named = named-in image t stands agrees in
            let there = body_in g seen p o image t stands inside reads agrees body.read ∙ body.there in
            let both : Some named.body ≡ Some b = sym named.there ∙ there in
            let same : named.body ≡ b = cc in
            let life : (b.birth == f.key.birth) ≡ true = ap (λ (x : Body). x.birth == f.key.birth) (sym same) ∙ ap (λ n. n == f.key.birth) named.life ∙ nat_eq_equiv.refl f.key.birth in
            let of : is_of kind b.kind ≡ true = ap (λ (x : Body). is_of kind x.kind) (sym same) ∙ ap (is_of kind) named.is_kind ∙ is-of kind in
            false≢true (sym wrong ∙ ap (λ x. x && is_of kind b.kind) life ∙ of);
      }

      -- the object is known, or what is asked for is good
      pub object_goes : Goes Good (body_named g seen p kind f.key f.sub) (HasObject g seen p kind f.key)
      object_goes =
          let Then = HasObject g seen p kind f.key in
          goes-if Good Then (nat_lt o (items_of g Fd)) _ _
          (λ below.
          let inside : o < items_of g Fd = grind (arith, nat_tests, below) in
          goes-if Good Then (has_lock seen o) _ _
          (λ held.
          goes-after Good (HasBody g seen p o) Then (body_seen g seen p o) (named_by (place_sector g (places.Body o)) kind f.key)
          (body_goes g slot call (MayHold g key name kind) (MayRead g key name kind) seen p reads o inside held
          (may_read_object (place_sector g (places.Body o)) (or-left (nat_eq (place_sector g (places.Body o)) (place_sector g (places.Body o))) _ (nat_eq_equiv.refl (place_sector g (places.Body o))))))
          (λ b body.
          goes-if Good Then ((b.birth == f.key.birth) && is_of kind b.kind) (Ok b) _
          (λ right.
          let both = both-true (b.birth == f.key.birth) (is_of kind b.kind) right in
          let life = both.0 in
          record {
            inside = inside;
            held = held;
            read = body.read;
            there = body.there;
            life = grind (arith, nat_tests, life);
            is_kind = of-is kind b.kind both.1;
          })
          (unused_good b inside body)))
          (lock_good inside))
          outside_good
