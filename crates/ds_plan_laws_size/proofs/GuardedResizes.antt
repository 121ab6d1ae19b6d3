-- Whoever holds a file and the clusters of which items are given up or taken holds the guards of all sectors that are written to
-- resize it, before and after.
use Rattle.std.proofs.Common.{◌≡◌, ℕ, zero, suc, ◌+◌, ◌*◌, ◌/◌, ◌%◌, ◌<◌, inl, inr, List, [], ◌∷◌, ◌++◌, map, slice_get, Some, refl, sym, ap, subst, ◌∙◌, arith}
use Rattle.std.specs.Prelude.{All}
use Rattle.std.proofs.lemmas.List.Elements.{All-nil, All-cons}
use Rattle.ds_base.specs.Geometry.{IsGeom, items_of, per_cluster}
use Rattle.ds_base.specs.declared.geometry.Geom.{Geom}
use Rattle.ds_base.specs.declared.geometry.Kind.TheVariants.{Pb, Fb}
use Rattle.ds_base.specs.declared.names.Key.{Key}
use Rattle.ds_base.specs.declared.sectors.Sector.{Sector}
use Rattle.ds_bitmap.specs.Bits.{Bitmap}
use Rattle.ds_fd.specs.declared.body.Body.{Body}
use Rattle.ds_image.specs.Asking.{targets_of}
use Rattle.ds_image_parts.specs.Logical.{laid_over}
use Rattle.ds_image_parts.specs.Looks.{Look}
use Rattle.ds_image_parts.specs.Parts.{Parts}
use Rattle.ds_image_parts.specs.Pending.{Pair}
use Rattle.ds_image_parts.specs.Readings.{ReadsParts}
use Rattle.ds_image.specs.Sound.{StandsFor, IsSound}
use Rattle.ds_image_tables.proofs.Spelling.Places.{at-append, Contains-from_at}
use Rattle.ds_layout.specs.Places.{cluster_lock, place_sector}
use Rattle.ds_layout.specs.declared.places.Place.TheVariants as places
use Rattle.ds_ptr.specs.declared.ptr_block.PtrBlock.{PtrBlock}
use Rattle.ds_tree.specs.Nodes.{FileTree}
use Rattle.ds_image.specs.Guards.{GuardedBy}
use Rattle.ds_image.proofs.SectorGuards.{guard-body, guard-map, guard-ptr_listed, guard-ptr_unlisted}
use Rattle.ds_plan_laws_new.proofs.Spelling.{body-at}
use Rattle.ds_plan_laws_size.specs.Pages.{ptrs_in}
use Rattle.ds_plan_laws_size.specs.Ready.{ReadyToResize, resize_parts}
use Rattle.ds_plan_laws_size.specs.Written.{Written, MapPart, BodyPart, PtrPart, place_of, ArePairsOf}
use Rattle.ds_plan_laws_size.proofs.FileLists.{ptr_list-is}
use Rattle.ds_plan_laws_size.proofs.MarkedClusters.{marked-is_bits}
use Rattle.ds_plan_laws_size.proofs.Resized.{at-file, resized-sound}
use Rattle.ds_plan_laws_size.proofs.StandsResized.{resized, resized-reads, resizes-parts}
use Rattle.ds_plan_laws_size.proofs.WrittenPages.{pointer-was, pointer-within, clear-nowhere}

-- what holds of the place of each part holds of each target
module _ (g : Geom) (P : ℕ → Type 0) where
  pub all-targets : (pairs : List Pair) (parts : List Written) → ArePairsOf g pairs parts
      → ((i : ℕ) (part : Written) → slice_get parts i ≡ Some part → P (place_sector g (place_of part))) → All P (targets_of pairs)
  all-targets [] [] are each = All-nil P
  all-targets [] (part ∷ parts) are each = absurd are
  all-targets (pair ∷ pairs) [] are each = absurd are
  all-targets (pair ∷ pairs) (part ∷ parts) are each =
      All-cons P pair.0 (targets_of pairs) (subst P (sym are.0.target) (each 0 part refl)) (all-targets pairs parts are.1 (λ i x at. each (suc i) x at))

  abbrev pub HoldsOf : List Written → Type 0
  HoldsOf parts = (i : ℕ) (part : Written) → slice_get parts i ≡ Some part → P (place_sector g (place_of part))

  pub of-joined : (xs ys : List Written) → HoldsOf xs → HoldsOf ys → HoldsOf (xs ++ ys)
  of-joined xs ys one two i part at = elim (at-append xs ys i part at) [
    | inl front ↦ one i part front
    | inr back ↦ two back.0 part back.2
  ]

  pub of-mapped : {X : Type 0} (f : X → Written) (xs : List X) → ((i : ℕ) (x : X) → slice_get xs i ≡ Some x → P (place_sector g (place_of (f x)))) → HoldsOf (map f xs)
  of-mapped f [] each i part at = absurd (cc)
  of-mapped f (x ∷ xs) each zero part at =
      let same : f x ≡ part = cc in
      subst (λ y. P (place_sector g (place_of y))) same (each 0 x refl)
  of-mapped f (x ∷ xs) each (suc i) part at = of-mapped f xs (λ j y at. each (suc j) y at) i part at

  pub of-first : (x : Written) (xs : List Written) → P (place_sector g (place_of x)) → HoldsOf xs → HoldsOf (x ∷ xs)
  of-first x xs one rest zero part at = let same : x ≡ part = cc in subst (λ y. P (place_sector g (place_of y))) same one
  of-first x xs one rest (suc i) part at = rest i part at

module _ (g : Geom) (is : IsGeom g) (image : List Sector) (t : FileTree) (stands : StandsFor g image t)
    (key : Key) (b b' : Body) (size : ℕ) (added pointers : List ℕ) (first : ℕ) (pb_maps fb_maps : List (ℕ × Bitmap)) (ptrs : List (ℕ × PtrBlock))
    (ready : ReadyToResize g stands.parts key.object b b' size added pointers first pb_maps fb_maps ptrs)
    (pairs : List Pair) (are : ArePairsOf g pairs (resize_parts key.object b' pb_maps fb_maps ptrs))
    (Held : ℕ → Type 0) (held_object : Held key.object)
    (held_pointers : (i : ℕ) (m : ℕ × Bitmap) → slice_get pb_maps i ≡ Some m → Held (cluster_lock Pb m.0))
    (held_blocks : (i : ℕ) (m : ℕ × Bitmap) → slice_get fb_maps i ≡ Some m → Held (cluster_lock Fb m.0)) where
  abbrev p : Parts
  p = stands.parts

  abbrev look : Look
  look = slice_get image

  abbrev q : Parts
  q = resized p key.object b' pb_maps fb_maps ptrs

  abbrev look' : Look
  look' = slice_get (laid_over image pairs)

  within : (k n : ℕ) → slice_get (ptrs_in b') k ≡ Some n → n < items_of g Pb
  within k n at = pointer-within g look p stands.reads stands.sound key.object b b' size pointers ready.body ready.lists ready.pointers_free k n at

  guarded : (look : Look) (r : Parts) → ReadsParts g look r
      → ((i : ℕ) (x : ℕ × PtrBlock) → slice_get ptrs i ≡ Some x → GuardedBy g look Held (place_sector g (places.PtrBlock x.0)))
      → All (GuardedBy g look Held) (targets_of pairs)
  guarded look r reads pointer =
      let Is = GuardedBy g look Held in
      let pbs = map (λ (m : ℕ × Bitmap). MapPart Pb m.0 m.1) pb_maps in
      let fbs = map (λ (m : ℕ × Bitmap). MapPart Fb m.0 m.1) fb_maps in
      let rest = map (λ (x : ℕ × PtrBlock). PtrPart x.0 x.1) ptrs in
      let object = (body-at g image p stands.reads key.object b ready.body.there).0 in
      all-targets g Is pairs (resize_parts key.object b' pb_maps fb_maps ptrs) are
      (of-joined g Is pbs (fbs ++ (BodyPart key.object b' ∷ rest))
      (of-mapped g Is (λ (m : ℕ × Bitmap). MapPart Pb m.0 m.1) pb_maps (λ i m at. record {
        object = cluster_lock Pb m.0;
        guards = guard-map g look r reads Pb m.0 (marked-is_bits g (slice_get image) p Pb _ _ m.0 m.1 stands.reads (ready.pointer_marks.each i m at)).0;
        held = held_pointers i m at;
      }))
      (of-joined g Is fbs (BodyPart key.object b' ∷ rest)
      (of-mapped g Is (λ (m : ℕ × Bitmap). MapPart Fb m.0 m.1) fb_maps (λ i m at. record {
        object = cluster_lock Fb m.0;
        guards = guard-map g look r reads Fb m.0 (marked-is_bits g (slice_get image) p Fb _ _ m.0 m.1 stands.reads (ready.block_marks.each i m at)).0;
        held = held_blocks i m at;
      }))
      (of-first g Is (BodyPart key.object b') rest (record { object = key.object; guards = guard-body g look r reads key.object object; held = held_object })
      (of-mapped g Is (λ (x : ℕ × PtrBlock). PtrPart x.0 x.1) ptrs pointer))))

  -- a pointer block that is taken has the guard of its cluster before
  fresh-pointer : (j n : ℕ) → n < items_of g Pb → slice_get pointers j ≡ Some n → GuardedBy g look Held (place_sector g (places.PtrBlock n))
  fresh-pointer j n low at =
      let per : ℕ = per_cluster g Pb in
      let found = ready.pointer_marks.all n (inr (Contains-from_at pointers j n at)) in
      let some : 0 < per = grind (arith, low) in
      let small : n % per < per = grind (arith, some) in
      let place : n / per * per + n % per ≡ n = grind (arith, some) in
      record {
        object = cluster_lock Pb (n / per);
        guards = guard-ptr_unlisted g look p stands.reads n (n / per) (n % per) low place small
            (λ k i listed. clear-nowhere g look p stands.reads stands.sound key.object b b' size pointers ready.body ready.lists ready.pointers_free j k i n at listed);
        held = subst (λ c. Held (cluster_lock Pb c)) found.1.2 (held_pointers found.0 found.1.0 found.1.1);
      }

  pub resized-guarded_before : All (GuardedBy g look Held) (targets_of pairs)
  resized-guarded_before =
      guarded look p stands.reads (λ i x at.
      let page = ready.pages.each i x at in
      let low = within page.place x.0 page.listed in
      elim (pointer-was g look p stands.reads stands.sound key.object b b' size pointers ready.body ready.lists ready.pointers_free page.place x.0 page.listed) [
        | inl old ↦ record {
          object = key.object;
          guards = guard-ptr_listed g look p stands.reads key.object page.place x.0 low stands.sound.ptr_owners old;
          held = held_object;
        }
        | inr new ↦ fresh-pointer new.0 x.0 low new.2
      ])

  pub resized-guarded_after : All (GuardedBy g look' Held) (targets_of pairs)
  resized-guarded_after =
      let reads = resized-reads g is image t stands key b b' size added pointers first pb_maps fb_maps ptrs ready pairs are in
      let parts = resizes-parts g is image t stands key b b' size added pointers first pb_maps fb_maps ptrs ready pairs are in
      let sound : IsSound q = resized-sound p q key.object b b' size added pointers parts stands.sound in
      guarded look' q reads (λ i x at.
      let page = ready.pages.each i x at in
      record {
        object = key.object;
        guards = guard-ptr_listed g look' q reads key.object page.place x.0 (within page.place x.0 page.listed) sound.ptr_owners
            (ap (λ l. slice_get l page.place) (ptr_list-is q key.object b' (at-file p q key.object b b' size added pointers parts) ready.body.kind) ∙ page.listed);
        held = held_object;
      })
