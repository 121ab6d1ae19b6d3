-- Pairs that are put in their order write what a file needs for its new size.
use Rattle.std.proofs.Common.{◌≡◌, ◌≢◌, ℕ, zero, suc, ◌<◌, ◌≤◌, inl, inr, true, List, [], ◌∷◌, ◌++◌, map, Some, refl, sym, ap, subst, ◌∙◌, slice_get, append_assoc, arith}
use Rattle.std.proofs.lemmas.List.{append-nil}
use Rattle.ds_base.specs.Geometry.{IsGeom, clusters_of, items_of}
use Rattle.ds_base.specs.declared.geometry.Geom.{Geom}
use Rattle.ds_base.specs.declared.geometry.Kind.{Kind}
use Rattle.ds_base.specs.declared.geometry.Kind.TheVariants.{Fd, Pb, Fb}
use Rattle.ds_base.specs.declared.names.Key.{Key}
use Rattle.ds_base.specs.declared.sectors.Sector.{Sector}
use Rattle.ds_bitmap.specs.Bits.{Bitmap}
use Rattle.ds_image.specs.SeenValues.{HoldsLock}
use Rattle.ds_plan_laws_new.proofs.RightChanges.{right-change}
use Rattle.ds_fd.specs.declared.body.Body.{Body}
use Rattle.ds_image.specs.Asking.{IsRightChange}
use Rattle.ds_image_parts.specs.Parts.{Parts}
use Rattle.ds_image_parts.specs.Pending.{Pair}
use Rattle.ds_image.specs.SeenValues.{SeenValue, has_lock}
use Rattle.ds_image.specs.Sound.{StandsFor}
use Rattle.ds_image_tables.proofs.Spelling.Places.{at-append}
use Rattle.ds_layout.specs.Places.{cluster_lock, descriptors_at, place_sector}
use Rattle.ds_layout.specs.declared.places.Place.TheVariants as places
use Rattle.ds_plan_base.specs.Redos.{body_pair}
use Rattle.ds_ptr.specs.declared.ptr_block.PtrBlock.{PtrBlock}
use Rattle.ds_plan_laws_size.specs.Clusters.{MarksClusters}
use Rattle.ds_plan_laws_size.specs.Pointers.{WritesPages}
use Rattle.ds_plan_laws_size.specs.Ready.{ReadyToResize, resize_parts}
use Rattle.ds_plan_laws_size.specs.Written.{Written, MapPart, BodyPart, PtrPart, IsPairOf, ArePairsOf}
use Rattle.ds_plan_laws_size.proofs.GuardedResizes.{resized-guarded_before, resized-guarded_after}
use Rattle.ds_plan_laws_size.proofs.ResizeTargets.{rising-once}
use Rattle.ds_plan_laws_size.proofs.StandsResized.{resized-changes, resized-leaves}
use Rattle.ds_plan_resize.specs.Files.{difference}
use Rattle.ds_plan_resize.proofs.InOrder.{AreBelow, put_all_by, put_all-map, put_all-behind, sorted-rises, sorted-from, sorted-there}
use Rattle.ds_plan_resize.specs.Ordered.{put_all_in}
use Rattle.ds_plan_resize.specs.Redos.{ptr_pair}
use Rattle.ds_plan_resize.specs.Taking.{map_pair}
use Rattle.ds_tree.specs.Nodes.{FileTree}
use Rattle.ds_tree.specs.declared.calls.CallOf.TheVariants.{Resize}
use Rattle.ds_tree.specs.declared.calls.TreeReply.TheVariants.{Sized}

-- the sector of a bitmap
abbrev pub sector_of : Geom → Kind → ℕ × Bitmap → Pair
sector_of g kind m = map_pair g kind m.0 m.1

pub at-map : {X Y : Type 0} (f : X → Y) (xs : List X) (i : ℕ) (y : Y) → slice_get (map f xs) i ≡ Some y → (x : X) × (slice_get xs i ≡ Some x) × (f x ≡ y)
at-map f [] i y at = absurd cc
at-map f (x ∷ xs) zero y at = (x, refl, (let same : f x ≡ y = cc in same))
at-map f (x ∷ xs) (suc i) y at = at-map f xs i y at

-- Pairs of parts

are-joined : (g : Geom) (xs ys : List Pair) (ps qs : List Written) → ArePairsOf g xs ps → ArePairsOf g ys qs → ArePairsOf g (xs ++ ys) (ps ++ qs)
are-joined g [] ys [] qs one two = two
are-joined g [] ys (p ∷ ps) qs one two = absurd one
are-joined g (x ∷ xs) ys [] qs one two = absurd one
are-joined g (x ∷ xs) ys (p ∷ ps) qs one two = (one.0, are-joined g xs ys ps qs one.1 two)

are-mapped : {X : Type 0} (g : Geom) (f : X → Pair) (h : X → Written) → ((x : X) → IsPairOf g (f x) (h x)) → (xs : List X) → ArePairsOf g (map f xs) (map h xs)
are-mapped g f h each [] = tt
are-mapped g f h each (x ∷ xs) = (each x, are-mapped g f h each xs)

module _ (g : Geom) (o : ℕ) (b' : Body) (object : b'.object ≡ o) (inside : o < items_of g Fd) (pb fb : List (ℕ × Bitmap))
    (pb_within : (i : ℕ) (m : ℕ × Bitmap) → slice_get pb i ≡ Some m → m.0 < clusters_of g Pb)
    (fb_within : (i : ℕ) (m : ℕ × Bitmap) → slice_get fb i ≡ Some m → m.0 < clusters_of g Fb) where
  abbrev maps : List Pair
  maps = map (sector_of g Pb) pb ++ map (sector_of g Fb) fb

  maps-below : (bound : ℕ) → descriptors_at g ≤ bound → AreBelow bound maps
  maps-below bound l i q at = elim (at-append (map (sector_of g Pb) pb) (map (sector_of g Fb) fb) i q at) [
    | inl front ↦
        let m = at-map (sector_of g Pb) pb i q front in
        omega (arith, pb_within i m.0 m.1, ap (λ (x : Pair). x.0) m.2, l)
    | inr back ↦
        let m = at-map (sector_of g Fb) fb back.0 q back.2 in
        omega (arith, fb_within back.0 m.0 m.1, ap (λ (x : Pair). x.0) m.2, l)
  ]

  body-sector : (body_pair g b').0 ≡ place_sector g (places.Body o)
  body-sector = ap (λ n. place_sector g (places.Body n)) object

  module _ (pages : List (ℕ × PtrBlock)) where
    abbrev written : List Pair
    written = body_pair g b' ∷ map (ptr_pair g) pages

    behind-maps : (i : ℕ) (pair : Pair) → slice_get written i ≡ Some pair → AreBelow pair.0 maps
    behind-maps zero pair at =
        let same : body_pair g b' ≡ pair = cc in
        maps-below pair.0 (omega (arith, sym body-sector ∙ ap (λ (x : Pair). x.0) same))
    behind-maps (suc i) pair at =
        let page = at-map (ptr_pair g) pages i pair at in
        maps-below pair.0 (omega (arith, ap (λ (x : Pair). x.0) page.2))

    behind-body : (i : ℕ) (pair : Pair) → slice_get (map (ptr_pair g) pages) i ≡ Some pair → AreBelow pair.0 (body_pair g b' ∷ [])
    behind-body i pair at zero q here =
        let page = at-map (ptr_pair g) pages i pair at in
        let same : body_pair g b' ≡ q = cc in
        omega (arith, ap (λ (x : Pair). x.0) page.2, sym body-sector ∙ ap (λ (x : Pair). x.0) same, inside)
    behind-body i pair at (suc j) q here = absurd cc

    written-in : put_all_in maps written ≡ maps ++ (body_pair g b' ∷ map (ptr_pair g) (put_all_by [] pages))
    written-in =
        ap (λ l. put_all_in l written) (sym (append-nil maps))
        ∙ put_all-behind maps [] written behind-maps
        ∙ ap (λ l. maps ++ l) (put_all-behind (body_pair g b' ∷ []) [] (map (ptr_pair g) pages) behind-body)
        ∙ ap (λ l. maps ++ (body_pair g b' ∷ l))
        (put_all-map (λ n. place_sector g (places.PtrBlock n)) (λ a c less. omega (arith, less)) (ptr_pair g) (λ x. refl) [] pages)

    pub in-order-are : ArePairsOf g (put_all_in maps written) (resize_parts o b' pb fb (put_all_by [] pages))
    in-order-are =
        let rest : List Pair = body_pair g b' ∷ map (ptr_pair g) (put_all_by [] pages) in
        subst (λ pairs. ArePairsOf g pairs (resize_parts o b' pb fb (put_all_by [] pages)))
        (sym (written-in ∙ append_assoc (map (sector_of g Pb) pb) (map (sector_of g Fb) fb) rest))
        (are-joined g (map (sector_of g Pb) pb) (map (sector_of g Fb) fb ++ rest) (map (λ (m : ℕ × Bitmap). MapPart Pb m.0 m.1) pb) _
        (are-mapped g (sector_of g Pb) (λ (m : ℕ × Bitmap). MapPart Pb m.0 m.1) (λ m. record { target = refl; spelled = refl }) pb)
        (are-joined g (map (sector_of g Fb) fb) rest (map (λ (m : ℕ × Bitmap). MapPart Fb m.0 m.1) fb)
        (BodyPart o b' ∷ map (λ (x : ℕ × PtrBlock). PtrPart x.0 x.1) (put_all_by [] pages))
        (are-mapped g (sector_of g Fb) (λ (m : ℕ × Bitmap). MapPart Fb m.0 m.1) (λ m. record { target = refl; spelled = refl }) fb) (
          record { target = body-sector; spelled = refl },
          are-mapped g (ptr_pair g) (λ (x : ℕ × PtrBlock). PtrPart x.0 x.1) (λ x. record { target = refl; spelled = refl }) (put_all_by [] pages),
        )))

-- The order doesn't matter for what is marked and what the pages hold

pub marks-sorted : (g : Geom) (p : Parts) (kind : Kind) (given taken : List ℕ) (maps : List (ℕ × Bitmap)) → MarksClusters g p kind given taken maps
    → MarksClusters g p kind given taken (put_all_by [] maps)
marks-sorted g p kind given taken maps marks = record {
  once = rising-once (put_all_by [] maps) (sorted-rises maps);
  each = λ i m at. let from = sorted-from maps i m at in marks.each from.0 m from.1;
  all = λ x held.
      let found = marks.all x held in
      let there = sorted-there maps marks.once found.0 found.1.0 found.1.1 in
      (there.0, (found.1.0, there.1, found.1.2));
}

pub pages-sorted : (b b' : Body) (blocks : List ℕ) (first : ℕ) (pages : List (ℕ × PtrBlock)) → WritesPages b b' blocks first pages
    → WritesPages b b' blocks first (put_all_by [] pages)
pages-sorted b b' blocks first pages writes = record {
  full_before = writes.full_before;
  full_after = writes.full_after;
  once = rising-once (put_all_by [] pages) (sorted-rises pages);
  each = λ i x at. let from = sorted-from pages i x at in writes.each from.0 x from.1;
  all = λ k n late at.
      let found = writes.all k n late at in
      let there = sorted-there pages writes.once found.0 found.1.0 found.1.1 in
      (there.0, (found.1.0, there.1, found.1.2));
}

-- The change

pub size-right : (g : Geom) → IsGeom g → (seen : SeenValue) (image : List Sector) (t : FileTree) (stands : StandsFor g image t) (key : Key) (b b' : Body) (size : ℕ)
    (added pointers : List ℕ) (first : ℕ) (pb fb : List (ℕ × Bitmap)) (ptrs : List (ℕ × PtrBlock))
    → ReadyToResize g stands.parts key.object b b' size added pointers first pb fb ptrs
    → (pairs : List Pair) → ArePairsOf g pairs (resize_parts key.object b' pb fb ptrs)
    → has_lock seen key.object ≡ true
    → ((i : ℕ) (m : ℕ × Bitmap) → slice_get pb i ≡ Some m → has_lock seen (cluster_lock Pb m.0) ≡ true)
    → ((i : ℕ) (m : ℕ × Bitmap) → slice_get fb i ≡ Some m → has_lock seen (cluster_lock Fb m.0) ≡ true)
    → b.birth ≡ key.birth → difference size b.count ≤ 1024 → size ≢ b.count
    → IsRightChange g (Resize key size) seen image t pairs (Sized size)
size-right g is seen image t stands key b b' size added pointers first pb fb ptrs ready pairs are held held_pb held_fb life near differs =
    right-change g (Resize key size) seen image t pairs (Sized size) refl
    (resized-changes g is image t stands key b b' size added pointers first pb fb ptrs ready pairs are differs) tt
    (resized-leaves g is image t stands key b b' size added pointers first pb fb ptrs ready pairs are life near)
    (resized-guarded_before g is image t stands key b b' size added pointers first pb fb ptrs ready pairs are (HoldsLock seen) held held_pb held_fb)
    (resized-guarded_after g is image t stands key b b' size added pointers first pb fb ptrs ready pairs are (HoldsLock seen) held held_pb held_fb)
