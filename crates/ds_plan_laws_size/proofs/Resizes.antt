-- An image of which a file has another size stands for what the call makes of the tree.
use Rattle.std.proofs.Common.{◌≡◌, ◌≢◌, ℕ, suc, ◌+◌, ◌-◌, ◌<◌, ◌≤◌, false, List, [], ◌∷◌, length, take, nat_eq, nat_lt, slice_get, Some, None, MatchOption, refl, sym, ap, subst, ◌∙◌, length-append, ne_eqb, inl, inr, arith}
use Rattle.std.specs.Prelude.{Contains}
use Rattle.std.specs.List.{AllByRecursion, IsDistinct, flat_map}
use Rattle.std.proofs.lemmas.Bool.{false≢true}
use Rattle.std.proofs.lemmas.Bool.Decides.{nat_tests}
use Rattle.std.proofs.lemmas.List.{length-take}
use Rattle.std.proofs.lemmas.Option.{slice_get_within, get_or_from_slice_get}
use Rattle.ds_base.specs.Geometry.{items_of}
use Rattle.ds_base.specs.declared.geometry.Geom.{Geom}
use Rattle.ds_base.specs.declared.geometry.Kind.TheVariants.{Pb, Fb}
use Rattle.ds_base.specs.declared.names.Key.{Key}
use Rattle.ds_base.specs.declared.sectors.Sector.{Sector}
use Rattle.ds_fd.specs.declared.body.Body.{Body}
use Rattle.ds_layout.specs.Places.{blocks_at}
use Rattle.ds_tree.proofs.StepKeeps.{step-keeps}
use Rattle.ds_tree.specs.Counts.{pointer_blocks, free_of}
use Rattle.ds_tree.specs.Nodes.{File, Object, FileTree, unborn, node_at, node_of_key, all_blocks, with_node}
use Rattle.ds_tree.specs.Nodes as nodes
use Rattle.ds_tree.specs.Steps.{refuses_resize, in_file, Resizes, Succeeds, Does}
use Rattle.ds_tree.specs.WellFormed.{IsTree}
use Rattle.ds_tree.specs.declared.calls.CallOf.TheVariants.{Resize}
use Rattle.ds_tree.specs.declared.calls.TreeReply.TheVariants.{Sized}
use Rattle.ds_image_parts.specs.Objects.{blocks_of, tree_of}
use Rattle.ds_image_tables.specs.Owns.{IsAt}
use Rattle.ds_image_parts.specs.Parts.{Parts, bits_in}
use Rattle.ds_image_parts.specs.Readings.{ReadsParts}
use Rattle.ds_image.specs.Sound.{IsSound, block_lists}
use Rattle.ds_image.proofs.Ownership.Listed.{bits_length}
use Rattle.ds_image_tables.proofs.Spelling.Places.{at-append, at-from_Contains, bit-from_at}
use Rattle.ds_image.proofs.Spelling.Sizes.{body_is}
use Rattle.ds_image.proofs.Spelling.SoundParts.{all-from_at, list-is}
use Rattle.ds_image.proofs.FileTrees.TreeParts.{blocks-are}
use Rattle.ds_plan_laws_new.specs.Making.{Leaves}
use Rattle.ds_plan_laws_new.proofs.FreeItems.{free-clear}
use Rattle.ds_plan_laws_new.proofs.Granting.{key-node}
use Rattle.ds_plan_laws_size.specs.Pages.{ptrs_in, blocks_in}
use Rattle.ds_plan_laws_size.specs.Resizing.{ResizesParts}
use Rattle.ds_plan_laws_size.proofs.Paged.{count-most, ptrs-length}
use Rattle.ds_plan_laws_size.proofs.Remarked.{can-few}
use Rattle.ds_plan_laws_size.proofs.Resized.{size-after, resized-sound}
use Rattle.ds_plan_laws_size.proofs.ResizedTrees.{file-object, tree-resized}
use Rattle.ds_plan_laws_size.proofs.SpelledBlocks.{size-is}

-- Items that were clear

apart-from : (x : ℕ) (ys : List ℕ) → ((i y : ℕ) → slice_get ys i ≡ Some y → x ≢ y) → AllByRecursion (λ y. nat_eq x y ≡ false) ys
apart-from x [] differ = tt
apart-from x (y ∷ ys) differ = (ne_eqb x y (differ 0 y refl), apart-from x ys (λ i z at. differ (suc i) z at))

distinct-from_once : (xs : List ℕ) → ((i j x : ℕ) → slice_get xs i ≡ Some x → slice_get xs j ≡ Some x → i ≡ j) → IsDistinct nat_eq xs
unfolding IsDistinct
distinct-from_once [] once = tt
distinct-from_once (x ∷ xs) once = (
  apart-from x xs (λ i y at same. absurd (let places : 0 ≡ suc i = once 0 (suc i) x refl (at ∙ ap Some (sym same)) in omega (arith, places))),
  distinct-from_once xs (λ i j y at at'. omega (arith, once (suc i) (suc j) y at at')),
)

-- an item of joined lists is one of one of them
flat-at : {X : Type 0} (f : X → List ℕ) (xs : List X) (i x : ℕ) → slice_get (flat_map f xs) i ≡ Some x
    → (k : ℕ) × ((y : X) × (slice_get xs k ≡ Some y) × ((j : ℕ) × (slice_get (f y) j ≡ Some x)))
flat-at f [] i x at = absurd (cc)
flat-at f (y ∷ ys) i x at = elim (at-append (f y) (flat_map f ys) i x at) [
  | inl here ↦ (0, (y, refl, (i, here)))
  | inr past ↦ let later = flat-at f ys past.0 x past.2 in (suc later.0, (later.1.0, later.1.1, later.1.2))
]

-- The call

pub resize-granted : (g : Geom) (t : FileTree) (size : ℕ) (blocks : List ℕ) → size ≤ 12288 → (size - length blocks) + (length blocks - size) ≤ 1024
    → size - length blocks ≤ free_of g t Fb → pointer_blocks size - pointer_blocks (length blocks) ≤ free_of g t Pb → refuses_resize g t size blocks ≡ None
resize-granted g t size blocks most near fb pb =
    let one : nat_lt 12288 size ≡ false = grind (arith, nat_tests) in
    let two : nat_lt 1024 ((size - length blocks) + (length blocks - size)) ≡ false = grind (arith, nat_tests) in
    let three : nat_lt (free_of g t Fb) (size - length blocks) ≡ false = grind (arith, nat_tests) in
    let four : nat_lt (free_of g t Pb) (pointer_blocks size - pointer_blocks (length blocks)) ≡ false = grind (arith, nat_tests) in
    rw (one, two, three, four) refl

pub resize-does : (g : Geom) (t u : FileTree) (file : Key) (size : ℕ) (blocks : List ℕ) → node_of_key t file ≡ Some (File blocks)
    → refuses_resize g t size blocks ≡ None → Resizes g t file size u → Does g t (Resize file size) (Sized size) u
resize-does g t u file size blocks node granted resizes =
    subst (λ r. MatchOption r (Succeeds g t (Resize file size) (Sized size) u) (λ refused. (Sized size ≡ refused) × (u ≡ t)))
    (sym (ap (λ n. in_file n (refuses_resize g t size)) node ∙ granted)) (refl, resizes)

module _ (g : Geom) (image image' : List Sector) (p q : Parts) (reads : ReadsParts g (slice_get image) p) (reads' : ReadsParts g (slice_get image') q) (sound : IsSound p)
    (key : Key) (b b' : Body) (size : ℕ) (added pointers : List ℕ) (re : ResizesParts p q key.object b b' size added pointers) where
  abbrev t : FileTree
  t = tree_of p

  clear-free : (x : ℕ) → slice_get (bits_in p.fb_maps) x ≡ Some false → ¬ Contains (all_blocks t) x
  clear-free x clear held =
      let blocks : Object → List ℕ = λ o. nodes.blocks_of o.node in
      let somewhere = at-from_Contains (all_blocks t) x held in
      let found = flat-at blocks t.objects somewhere.0 x somewhere.1 in
      let k : ℕ = found.0 in
      let is : slice_get (nodes.blocks_of (node_at t k)) found.1.2.0 ≡ Some x =
      ap (λ o. slice_get (blocks o) found.1.2.0) (get_or_from_slice_get t.objects k found.1.0 unborn found.1.1) ∙ found.1.2.1 in
      let listed : IsAt (block_lists p) k found.1.2.0 x =
      ap (λ l. slice_get l found.1.2.0) (list-is (blocks_of p) p.bodies refl k ∙ sym (blocks-are p k)) ∙ is in
      false≢true (sym (bit-from_at (bits_in p.fb_maps) x false clear) ∙ sound.block_owners.marked k found.1.2.0 x listed)

  size-before : length (blocks_in p b) ≡ b.count
  size-before = size-is g (slice_get image) p key.object b reads sound re.body.there re.body.file

  added-count : length added ≡ size - length (blocks_in p b)
  added-count =
      omega (arith, size-after p q key.object b b' size added pointers re, length-append (take size (blocks_in p b)) added, length-take size (blocks_in p b))

  pointer-count : length pointers ≡ pointer_blocks size - pointer_blocks (length (blocks_in p b))
  pointer-count =
      omega (
        arith,
        ap length re.lists,
        length-append (take (pointer_blocks size) (ptrs_in b)) pointers,
        length-take (pointer_blocks size) (ptrs_in b),
        ptrs-length b (body_is g (slice_get image) p key.object b reads re.body.there) re.body.file,
        ptrs-length b' re.body.is_body re.body.kind,
        ap pointer_blocks re.body.count,
        ap pointer_blocks size-before,
      )

  resizes : Resizes g t key size (tree_of q)
  resizes = record {
    blocks = blocks_in p b;
    added = added;
    in_file = ap (λ (x : Object). x.node) (file-object p key.object b re.body.there re.body.file);
    grows = added-count;
    in_range = all-from_at (λ x. x < items_of g Fb) added
        (λ i x at. omega (arith, slice_get_within (bits_in p.fb_maps) x false (re.blocks_free.clear i x at), bits_length g (slice_get image) Fb p.fb_maps (reads.maps Fb) (sound.maps Fb)));
    free = all-from_at (λ x. ¬ Contains (all_blocks t) x) added (λ i x at. clear-free x (re.blocks_free.clear i x at));
    distinct = distinct-from_once added re.blocks_free.once;
    resized = tree-resized p q key.object b b' size added pointers re;
  }

  module _ (life : b.birth ≡ key.birth) (near : (size - b.count) + (b.count - size) ≤ 1024) (tree : IsTree g (tree_of p)) where
    granted : refuses_resize g t size (blocks_in p b) ≡ None
    granted = resize-granted g t size (blocks_in p b)
        (omega (arith, count-most b' re.body.is_body re.body.kind, re.body.count))
        (omega (arith, near, size-before))
        (omega (arith, added-count, can-few (bits_in p.fb_maps) added re.blocks_free, free-clear g (slice_get image) p reads sound Fb))
        (omega (arith, pointer-count, can-few (bits_in p.pb_maps) pointers re.pointers_free, free-clear g (slice_get image) p reads sound Pb))

    does : Does g t (Resize key size) (Sized size) (tree_of q)
    does =
        let object = file-object p key.object b re.body.there re.body.file in
        resize-does g t (tree_of q) key size (blocks_in p b)
        (key-node t key b.birth (ap (λ (x : Object). x.birth) object) life ∙ ap (λ (x : Object). x.node) object) granted resizes

    -- so the image stands for what the call makes
    pub leaves-resized : blocks_at g ≤ length image' → Leaves g t (Resize key size) (Sized size) image'
    leaves-resized whole = record {
      u = tree_of q;
      stands = record {
        parts = q;
        whole = whole;
        reads = reads';
        sound = resized-sound p q key.object b b' size added pointers re sound;
        tree = refl;
        is_tree = step-keeps g t tree (Resize key size) (Sized size) (tree_of q) tt does;
      };
      does = does;
    }
