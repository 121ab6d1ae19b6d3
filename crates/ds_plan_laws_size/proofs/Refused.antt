-- What Resize answers where it changes nothing: the refusals, and a size that the file has already.
use Rattle.std.proofs.Common.{◌≡◌, ◌≢◌, ℕ, ◌+◌, ◌-◌, ◌*◌, ◌<◌, ◌≤◌, ◌==◌, Bool, true, false, nat_lt, if◌then◌else◌, List, [], ◌++◌, length, take, slice_get, slice_set, Option, Some, None, MatchOption, refl, sym, ap, subst, ◌∙◌, ne_eqb, arith}
use Rattle.std.specs.List.{IsDistinct}
use Rattle.std.specs.Prelude.{nat_eq}
use Rattle.std.proofs.lemmas.Bool.Decides.{nat_tests}
use Rattle.std.proofs.lemmas.List.{get_or_past, take_all, append-nil, set-get_or}
use Rattle.ds_base.specs.Geometry.{items_of}
use Rattle.ds_base.specs.declared.geometry.Geom.{Geom}
use Rattle.ds_base.specs.declared.geometry.Kind.TheVariants.{Fd, Pb, Fb}
use Rattle.ds_base.specs.declared.names.Key.{Key}
use Rattle.ds_base.specs.declared.names.NodeKind.TheVariants as kinds
use Rattle.ds_base.specs.declared.sectors.Sector.{Sector}
use Rattle.ds_fd.specs.declared.body.Body.{Body}
use Rattle.ds_tree.specs.Counts.{pointer_blocks, free_of}
use Rattle.ds_tree.specs.Nodes.{Node, Dir, File, Object, FileTree, unborn, object_at, node_at, birth_at, node_of_key, with_node}
use Rattle.ds_tree.specs.Steps.{refusal, refuses_resize, in_file, Succeeds, Does}
use Rattle.ds_tree.specs.declared.calls.CallOf.TheVariants.{Resize}
use Rattle.ds_tree.specs.declared.calls.TreeReply.{TreeReply}
use Rattle.ds_tree.specs.declared.calls.TreeReply.TheVariants.{Sized, NoObject, NotFile, TooBig, TooMuch, NoSpace}
use Rattle.ds_image_parts.specs.Objects.{entries_of, object_of, tree_of}
use Rattle.ds_image_parts.specs.Parts.{Parts, part_at, bits_in}
use Rattle.ds_image.specs.Sound.{StandsFor}
use Rattle.ds_image.proofs.Spelling.Sizes.{body_is}
use Rattle.ds_image.proofs.FileTrees.TreeParts.{object-is}
use Rattle.ds_plan_laws_new.specs.Entering.{subs_in}
use Rattle.ds_image.proofs.Bits.{clear_count}
use Rattle.ds_plan_laws_new.proofs.EnteredTrees.{dir-object, unused-object}
use Rattle.ds_plan_laws_new.proofs.FreeItems.{free-clear}
use Rattle.ds_plan_laws_new.proofs.Granting.{key-node}
use Rattle.ds_plan_laws_size.specs.Pages.{blocks_in}
use Rattle.ds_plan_laws_size.proofs.Paged.{count-most}
use Rattle.ds_plan_laws_size.proofs.Resizes.{resize-granted, resize-does}
use Rattle.ds_plan_laws_size.proofs.ResizedTrees.{file-object}
use Rattle.ds_plan_laws_size.proofs.SpelledBlocks.{size-is}

refused-by : (g : Geom) (t : FileTree) (key : Key) (size : ℕ) (reply : TreeReply) → refusal g t (Resize key size) ≡ Some reply → Does g t (Resize key size) reply t
refused-by g t key size reply refused =
    subst (λ r. MatchOption r (Succeeds g t (Resize key size) reply t) (λ told. (reply ≡ told) × (t ≡ t))) (sym refused) (refl, refl)

-- a number that has no node, in whatever life
no-node : (b : Bool) (n : Option Node) → n ≡ None → (if b then n else None) ≡ None
no-node true n none = none
no-node false n none = refl

empty-distinct : IsDistinct nat_eq []
unfolding IsDistinct
empty-distinct = tt

module _ (g : Geom) (image : List Sector) (t : FileTree) (stands : StandsFor g image t) (key : Key) (size : ℕ) where
  abbrev p : Parts
  p = stands.parts

  abbrev tree : FileTree
  tree = tree_of stands.parts

  back : (reply : TreeReply) → Does g tree (Resize key size) reply tree → Does g t (Resize key size) reply t
  back reply does = subst (λ u. Does g u (Resize key size) reply u) (sym stands.tree) does

  no-object : node_of_key tree key ≡ None → Does g t (Resize key size) NoObject t
  no-object none = back NoObject (refused-by g tree key size NoObject (ap (λ n. in_file n (refuses_resize g tree size)) none))

  -- no object of this number and life is there
  pub resize-past : items_of g Fd ≤ key.object → Does g t (Resize key size) NoObject t
  resize-past past =
      let nothing : object_at tree key.object ≡ unborn =
      object-is p key.object ∙ ap (object_of p) (get_or_past p.bodies key.object None (omega (arith, past, stands.reads.bodies.len))) in
      no-object (no-node (birth_at tree key.object == key.birth) (node_at tree key.object) (ap (λ (x : Object). x.node) nothing))

  pub resize-unused : (b : Body) → part_at p.bodies key.object ≡ Some b → b.kind ≡ None → Does g t (Resize key size) NoObject t
  resize-unused b there unused =
      no-object (no-node (birth_at tree key.object == key.birth) (node_at tree key.object) (ap (λ (x : Object). x.node) (unused-object p key.object b there unused)))

  pub resize-other_life : (b : Body) → part_at p.bodies key.object ≡ Some b → b.birth ≢ key.birth → Does g t (Resize key size) NoObject t
  resize-other_life b there other =
      let birth : birth_at tree key.object ≡ b.birth = ap (λ (x : Object). x.birth) (object-is p key.object ∙ ap (object_of p) there) in
      no-object (ap (λ c. if c then node_at tree key.object else None) (ne_eqb (birth_at tree key.object) key.birth (λ same. other (sym birth ∙ same))))

  -- it is a directory
  pub resize-dir : (b : Body) → part_at p.bodies key.object ≡ Some b → b.kind ≡ Some kinds.Dir → b.birth ≡ key.birth → Does g t (Resize key size) NotFile t
  resize-dir b there dir life =
      let object = dir-object p key.object b there dir in
      let node : node_of_key tree key ≡ Some (Dir (entries_of p (subs_in b)) (4 * b.count)) =
      key-node tree key b.birth (ap (λ (x : Object). x.birth) object) life ∙ ap (λ (x : Object). x.node) object in
      back NotFile (refused-by g tree key size NotFile (ap (λ n. in_file n (refuses_resize g tree size)) node))

  -- it is a file
  module _ (b : Body) (there : part_at p.bodies key.object ≡ Some b) (file : b.kind ≡ Some kinds.File) (life : b.birth ≡ key.birth) where
    abbrev blocks : List ℕ
    blocks = blocks_in p b

    count-is : length blocks ≡ b.count
    count-is = size-is g (slice_get image) p key.object b stands.reads stands.sound there file

    node : node_of_key tree key ≡ Some (File blocks)
    node =
        let object = file-object p key.object b there file in
        key-node tree key b.birth (ap (λ (x : Object). x.birth) object) life ∙ ap (λ (x : Object). x.node) object

    refused : (reply : TreeReply) → refuses_resize g tree size blocks ≡ Some reply → Does g t (Resize key size) reply t
    refused reply told = back reply (refused-by g tree key size reply (ap (λ n. in_file n (refuses_resize g tree size)) node ∙ told))

    pub resize-too_big : 12288 < size → Does g t (Resize key size) TooBig t
    resize-too_big big =
        let one : nat_lt 12288 size ≡ true = grind (arith, nat_tests, big) in
        refused TooBig (rw one refl)

    module _ (most : size ≤ 12288) where
      one : nat_lt 12288 size ≡ false
      one = grind (arith, nat_tests, most)

      pub resize-too_much : 1024 < (size - b.count) + (b.count - size) → Does g t (Resize key size) TooMuch t
      resize-too_much much =
          let two : nat_lt 1024 ((size - length blocks) + (length blocks - size)) ≡ true = grind (arith, nat_tests, much, count-is) in
          refused TooMuch (rw (one, two) refl)

      module _ (near : (size - b.count) + (b.count - size) ≤ 1024) where
        two : nat_lt 1024 ((size - length blocks) + (length blocks - size)) ≡ false
        two = grind (arith, nat_tests, near, count-is)

        -- too few blocks are clear
        pub resize-no_blocks : clear_count (bits_in p.fb_maps) < size - b.count → Does g t (Resize key size) (NoSpace Fb) t
        resize-no_blocks few =
            let free = free-clear g (slice_get image) p stands.reads stands.sound Fb in
            let three : nat_lt (free_of g tree Fb) (size - length blocks) ≡ true = grind (arith, nat_tests, few, count-is, free) in
            refused (NoSpace Fb) (rw (one, two, three) refl)

        -- enough blocks are, but too few pointer blocks
        pub resize-no_pointers : size - b.count ≤ clear_count (bits_in p.fb_maps) → clear_count (bits_in p.pb_maps) < pointer_blocks size - pointer_blocks b.count
            → Does g t (Resize key size) (NoSpace Pb) t
        resize-no_pointers enough few =
            let free = free-clear g (slice_get image) p stands.reads stands.sound Fb in
            let free' = free-clear g (slice_get image) p stands.reads stands.sound Pb in
            let three : nat_lt (free_of g tree Fb) (size - length blocks) ≡ false = grind (arith, nat_tests, enough, count-is, free) in
            let same : pointer_blocks (length blocks) ≡ pointer_blocks b.count = ap pointer_blocks count-is in
            let four : nat_lt (free_of g tree Pb) (pointer_blocks size - pointer_blocks (length blocks)) ≡ true = grind (arith, nat_tests, few, same, free') in
            refused (NoSpace Pb) (rw (one, two, three, four) refl)

    -- the file has this size: nothing changes
    pub resize-same : size ≡ b.count → Does g t (Resize key size) (Sized size) t
    resize-same same =
        let is = body_is g (slice_get image) p key.object b stands.reads there in
        let as-many : length blocks ≡ size = count-is ∙ sym same in
        let none : size - length blocks ≡ 0 = omega (arith, as-many) in
        let object = file-object p key.object b there file in
        let unchanged : tree ≡ with_node tree key.object (File (take size blocks ++ [])) = whole as-many object in
        back (Sized size) (resize-does g tree tree key size blocks node
        (resize-granted g tree size blocks (omega (arith, same, count-most b is file)) (omega (arith, as-many)) (omega (arith, none))
        (omega (arith, ap pointer_blocks as-many)))
        (record {
          blocks = blocks;
          added = [];
          in_file = ap (λ (x : Object). x.node) object;
          grows = sym none;
          in_range = λ i d l. absurd (omega (arith, l));
          free = λ i d l. absurd (omega (arith, l));
          distinct = empty-distinct;
          resized = unchanged;
        }))
      where
        whole : length blocks ≡ size → object_at tree key.object ≡ record { birth = b.birth; node = Some (File blocks) }
            → tree ≡ with_node tree key.object (File (take size blocks ++ []))
        whole as-many object =
            let list : take size blocks ++ [] ≡ blocks = append-nil (take size blocks) ∙ take_all size blocks (omega (arith, as-many)) in
            let here : object_at tree key.object ≡ record { birth = birth_at tree key.object; node = Some (File (take size blocks ++ [])) } =
            (λ i. record { birth = birth_at tree key.object; node = (ap (λ (x : Object). x.node) object ∙ ap (λ l. Some (File l)) (sym list)) i }) in
            (λ i. record { objects = (sym (set-get_or tree.objects key.object unborn) ∙ ap (slice_set tree.objects key.object) here) i })
