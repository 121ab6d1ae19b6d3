-- An image in which a file was given another size stands for the tree that the call makes.
use Rattle.std.proofs.Common.{◌≡◌, ◌≢◌, ne_eqb, not, true, ℕ, zero, suc, ◌+◌, ◌-◌, ◌≤◌, inl, inr, List, [], ◌∷◌, ◌++◌, length, map, take, slice_get, slice_set, Some, refl, sym, ap, subst, ◌∙◌, length-append, arith}
use Rattle.std.proofs.lemmas.List.{length-take}
use Rattle.ds_base.specs.Geometry.{IsGeom}
use Rattle.ds_base.specs.declared.geometry.Geom.{Geom}
use Rattle.ds_base.specs.declared.geometry.Kind.TheVariants.{Fd, Sb, Pb, Fb}
use Rattle.ds_base.specs.declared.names.Key.{Key}
use Rattle.ds_base.specs.declared.sectors.Sector.{Sector}
use Rattle.ds_bitmap.specs.Bits.{Bitmap}
use Rattle.ds_fd.specs.declared.body.Body.{Body}
use Rattle.ds_image_parts.specs.Logical.{laid_over}
use Rattle.ds_image_parts.specs.Looks.{Look}
use Rattle.ds_image_parts.specs.Parts.{Parts, AllSpelled, maps_of}
use Rattle.ds_image_parts.specs.Pending.{Pair}
use Rattle.ds_image_parts.specs.Readings.{ReadsParts}
use Rattle.ds_image.specs.Sound.{StandsFor}
use Rattle.ds_image_parts.proofs.Journaling.LaidOver.{whole-laid_over}
use Rattle.ds_image_tables.proofs.Spelling.Places.{at-append}
use Rattle.ds_image.proofs.Spelling.SoundParts.{each_kind}
use Rattle.ds_ptr.specs.declared.ptr_block.PtrBlock.{PtrBlock}
use Rattle.ds_image_parts.specs.Objects.{tree_of}
use Rattle.ds_tree.specs.Nodes.{FileTree, Object, node_at}
use Rattle.ds_tree.specs.Nodes as nodes
use Rattle.ds_tree.specs.Steps.{has_change}
use Rattle.ds_plan_laws_size.proofs.ResizedTrees.{file-object}
use Rattle.ds_tree.specs.WellFormed.{IsTree}
use Rattle.ds_tree.specs.declared.calls.CallOf.TheVariants.{Resize}
use Rattle.ds_tree.specs.declared.calls.TreeReply.TheVariants.{Sized}
use Rattle.ds_plan_laws_new.specs.Making.{Leaves}
use Rattle.ds_plan_laws_new.proofs.Spelling.{body-at, map-at}
use Rattle.ds_plan_laws_size.specs.Pages.{blocks_in}
use Rattle.ds_plan_laws_size.specs.Ready.{ReadyToResize, resize_parts}
use Rattle.ds_plan_laws_size.specs.Resizing.{ResizesParts, blocks_after}
use Rattle.ds_plan_laws_size.specs.Written.{Written, MapPart, BodyPart, PtrPart, with_parts, put_all, ArePairsOf, CanWrite, CanWriteAll}
use Rattle.ds_plan_laws_size.proofs.MarkedClusters.{marked-is_bits, clusters-remarked}
use Rattle.ds_plan_laws_size.proofs.PointerSectors.{pointers-in_image}
use Rattle.ds_plan_laws_size.proofs.PutAll.{put-spelled}
use Rattle.ds_plan_laws_size.proofs.Resizes.{leaves-resized}
use Rattle.ds_plan_laws_size.proofs.SpelledBlocks.{size-is}
use Rattle.ds_plan_laws_size.proofs.WrittenPages.{pointer-within, others-stay, pages-spell}
use Rattle.ds_plan_laws_size.proofs.Writing.{reads-written}

-- The parts after

-- the parts with these in the place of others
abbrev pub resized : Parts → ℕ → Body → List (ℕ × Bitmap) → List (ℕ × Bitmap) → List (ℕ × PtrBlock) → Parts
resized p o b' pb_maps fb_maps ptrs = record p {
  bodies = slice_set p.bodies o (Some b');
  pb_maps = put_all p.pb_maps pb_maps;
  fb_maps = put_all p.fb_maps fb_maps;
  ptrs = put_all p.ptrs ptrs;
}

parts-joined : (p : Parts) (xs ys : List Written) → with_parts p (xs ++ ys) ≡ with_parts (with_parts p xs) ys
parts-joined p [] ys = refl
parts-joined p (x ∷ xs) ys = parts-joined (with_parts p (x ∷ [])) xs ys

pb-written : (p : Parts) (maps : List (ℕ × Bitmap)) → with_parts p (map (λ (m : ℕ × Bitmap). MapPart Pb m.0 m.1) maps) ≡ record p { pb_maps = put_all p.pb_maps maps }
pb-written p [] = refl
pb-written p (m ∷ maps) = pb-written (record p { pb_maps = slice_set p.pb_maps m.0 (Some m.1) }) maps

fb-written : (p : Parts) (maps : List (ℕ × Bitmap)) → with_parts p (map (λ (m : ℕ × Bitmap). MapPart Fb m.0 m.1) maps) ≡ record p { fb_maps = put_all p.fb_maps maps }
fb-written p [] = refl
fb-written p (m ∷ maps) = fb-written (record p { fb_maps = slice_set p.fb_maps m.0 (Some m.1) }) maps

ptrs-written : (p : Parts) (ptrs : List (ℕ × PtrBlock)) → with_parts p (map (λ (x : ℕ × PtrBlock). PtrPart x.0 x.1) ptrs) ≡ record p { ptrs = put_all p.ptrs ptrs }
ptrs-written p [] = refl
ptrs-written p (x ∷ ptrs) = ptrs-written (record p { ptrs = slice_set p.ptrs x.0 (Some x.1) }) ptrs

resized-is : (p : Parts) (o : ℕ) (b' : Body) (pb_maps fb_maps : List (ℕ × Bitmap)) (ptrs : List (ℕ × PtrBlock))
    → with_parts p (resize_parts o b' pb_maps fb_maps ptrs) ≡ resized p o b' pb_maps fb_maps ptrs
resized-is p o b' pb_maps fb_maps ptrs =
    let pbs = map (λ (m : ℕ × Bitmap). MapPart Pb m.0 m.1) pb_maps in
    let fbs = map (λ (m : ℕ × Bitmap). MapPart Fb m.0 m.1) fb_maps in
    let rest = map (λ (x : ℕ × PtrBlock). PtrPart x.0 x.1) ptrs in
    let p1 : Parts = record p { pb_maps = put_all p.pb_maps pb_maps } in
    let p2 : Parts = record p1 { fb_maps = put_all p.fb_maps fb_maps } in
    let p3 : Parts = record p2 { bodies = slice_set p.bodies o (Some b') } in
    parts-joined p pbs (fbs ++ (BodyPart o b' ∷ rest)) ∙ ap (λ r. with_parts r (fbs ++ (BodyPart o b' ∷ rest))) (pb-written p pb_maps)
    ∙ parts-joined p1 fbs (BodyPart o b' ∷ rest) ∙ ap (λ r. with_parts r (BodyPart o b' ∷ rest)) (fb-written p1 fb_maps)
    ∙ ptrs-written p3 ptrs

-- What can be written

can-joined : (g : Geom) (image : List Sector) (xs ys : List Written) → CanWriteAll g image xs → CanWriteAll g image ys → CanWriteAll g image (xs ++ ys)
can-joined g image xs ys one two i part at = elim (at-append xs ys i part at) [
  | inl front ↦ one i part front
  | inr back ↦ two back.0 part back.2
]

can-mapped : {X : Type 0} (g : Geom) (image : List Sector) (f : X → Written) (xs : List X) → ((i : ℕ) (x : X) → slice_get xs i ≡ Some x → CanWrite g image (f x))
    → CanWriteAll g image (map f xs)
can-mapped g image f [] each i part at = absurd (cc)
can-mapped g image f (x ∷ xs) each zero part at =
    let same : f x ≡ part = cc in
    subst (CanWrite g image) same (each 0 x refl)
can-mapped g image f (x ∷ xs) each (suc i) part at = can-mapped g image f xs (λ j y at. each (suc j) y at) i part at

can-first : (g : Geom) (image : List Sector) (x : Written) (xs : List Written) → CanWrite g image x → CanWriteAll g image xs → CanWriteAll g image (x ∷ xs)
can-first g image x xs one rest zero part at = let same : x ≡ part = cc in subst (CanWrite g image) same one
can-first g image x xs one rest (suc i) part at = rest i part at

module _ (g : Geom) (is : IsGeom g) (image : List Sector) (t : FileTree) (stands : StandsFor g image t)
    (key : Key) (b b' : Body) (size : ℕ) (added pointers : List ℕ) (first : ℕ) (pb_maps fb_maps : List (ℕ × Bitmap)) (ptrs : List (ℕ × PtrBlock))
    (ready : ReadyToResize g stands.parts key.object b b' size added pointers first pb_maps fb_maps ptrs)
    (pairs : List Pair) (are : ArePairsOf g pairs (resize_parts key.object b' pb_maps fb_maps ptrs)) where
  abbrev p : Parts
  p = stands.parts

  abbrev pub parts-after : Parts
  parts-after = resized p key.object b' pb_maps fb_maps ptrs

  abbrev look : Look
  look = slice_get image

  pub object-is : b'.object ≡ key.object
  object-is = ready.body.object ∙ ((stands.reads.bodies.each key.object (body-at g image p stands.reads key.object b ready.body.there).0 b).0 ready.body.there).0

  can-write : CanWriteAll g image (resize_parts key.object b' pb_maps fb_maps ptrs)
  can-write =
      let pbs = map (λ (m : ℕ × Bitmap). MapPart Pb m.0 m.1) pb_maps in
      let fbs = map (λ (m : ℕ × Bitmap). MapPart Fb m.0 m.1) fb_maps in
      let rest = map (λ (x : ℕ × PtrBlock). PtrPart x.0 x.1) ptrs in
      let at-body = body-at g image p stands.reads key.object b ready.body.there in
      can-joined g image pbs (fbs ++ (BodyPart key.object b' ∷ rest))
      (can-mapped g image (λ (m : ℕ × Bitmap). MapPart Pb m.0 m.1) pb_maps (λ i m at.
      let marks = ready.pointer_marks.each i m at in
      record { is = marked-is_bits g look p Pb _ _ m.0 m.1 stands.reads marks; in_image = (map-at g image p stands.reads Pb m.0 marks.before marks.there).1 }))
      (can-joined g image fbs (BodyPart key.object b' ∷ rest)
      (can-mapped g image (λ (m : ℕ × Bitmap). MapPart Fb m.0 m.1) fb_maps (λ i m at.
      let marks = ready.block_marks.each i m at in
      record { is = marked-is_bits g look p Fb _ _ m.0 m.1 stands.reads marks; in_image = (map-at g image p stands.reads Fb m.0 marks.before marks.there).1 }))
      (can-first g image (BodyPart key.object b') rest (record { is = (at-body.0, object-is, ready.body.is_body); in_image = at-body.1 })
      (can-mapped g image (λ (x : ℕ × PtrBlock). PtrPart x.0 x.1) ptrs (λ i x at.
      let page = ready.pages.each i x at in
      let within = pointer-within g look p stands.reads stands.sound key.object b b' size pointers ready.body ready.lists ready.pointers_free page.place x.0 page.listed in
      record { is = (within, page.is_block); in_image = pointers-in_image g image stands.whole x.0 within }))))

  -- the parts that the image then spells
  pub resized-reads : ReadsParts g (slice_get (laid_over image pairs)) parts-after
  resized-reads =
      subst (ReadsParts g (slice_get (laid_over image pairs))) (resized-is p key.object b' pb_maps fb_maps ptrs)
      (reads-written g is image p pairs (resize_parts key.object b' pb_maps fb_maps ptrs) are can-write stands.reads)

  size-after : length (blocks_after p b size added) ≡ size
  size-after =
      omega (
        arith,
        length-append (take size (blocks_in p b)) added,
        length-take size (blocks_in p b),
        size-is g look p key.object b stands.reads stands.sound ready.body.there ready.body.file,
        ready.grows,
      )

  pub resizes-parts : ResizesParts p parts-after key.object b b' size added pointers
  resizes-parts = record {
    body = ready.body;
    bodies = refl;
    subs = refl;
    fd_maps = refl;
    sb_maps = refl;
    maps = each_kind (λ kind. AllSpelled (maps_of parts-after kind)) (stands.sound.maps Fd) (stands.sound.maps Sb)
        (put-spelled p.pb_maps pb_maps (stands.sound.maps Pb)) (put-spelled p.fb_maps fb_maps (stands.sound.maps Fb));
    others = others-stay g look p stands.reads stands.sound key.object b b' size pointers ready.body ready.lists ready.pointers_free added first ptrs ready.pages parts-after refl;
    spells = pages-spell g look p stands.reads stands.sound key.object b b' size pointers ready.body ready.lists ready.pointers_free added first ptrs ready.pages parts-after refl
        size-after ready.direct;
    lists = ready.lists;
    pointers_free = ready.pointers_free;
    pointer_marks = clusters-remarked g look (slice_get (laid_over image pairs)) p Pb _ pointers pb_maps stands.reads (stands.sound.maps Pb) ready.pointer_marks ready.pointers_free (resized-reads.maps Pb);
    blocks_free = ready.blocks_free;
    block_marks = clusters-remarked g look (slice_get (laid_over image pairs)) p Fb _ added fb_maps stands.reads (stands.sound.maps Fb) ready.block_marks ready.blocks_free (resized-reads.maps Fb);
  }

  -- and it stands for what the call makes of the tree
  pub resized-leaves : b.birth ≡ key.birth → (size - b.count) + (b.count - size) ≤ 1024 → Leaves g t (Resize key size) (Sized size) (laid_over image pairs)
  resized-leaves life near =
      subst (λ u. Leaves g u (Resize key size) (Sized size) (laid_over image pairs)) (sym stands.tree)
      (leaves-resized g image (laid_over image pairs) p parts-after stands.reads resized-reads stands.sound key b b' size added pointers resizes-parts life near
      (subst (IsTree g) stands.tree stands.is_tree)
      (whole-laid_over g image pairs stands.whole))

  -- another size changes the tree
  pub resized-changes : size ≢ b.count → has_change t (Resize key size) ≡ true
  resized-changes differs =
      let blocks : length (nodes.blocks_of (node_at (tree_of p) key.object)) ≡ b.count =
      ap (λ (x : Object). length (nodes.blocks_of x.node)) (file-object p key.object b ready.body.there ready.body.file)
      ∙ size-is g look p key.object b stands.reads stands.sound ready.body.there ready.body.file in
      subst (λ u. has_change u (Resize key size) ≡ true) (sym stands.tree)
      (ap not (ne_eqb (length (nodes.blocks_of (node_at (tree_of p) key.object))) size (λ same. differs (sym same ∙ blocks))))
