-- A file that grows and one that shrinks are ready for their new size.
use Rattle.std.proofs.Common.{◌≡◌, ℕ, ◌-◌, ◌<◌, ◌≤◌, inl, inr, List, [], ◌∷◌, ◌++◌, length, take, drop, refl, sym, ap, subst, ◌∙◌, arith}
use Rattle.std.proofs.lemmas.Bool.{cases_lt}
use Rattle.std.proofs.lemmas.List.{take_all, drop_all, append-nil}
use Rattle.ds_base.specs.Geometry.{IsGeom, per_cluster}
use Rattle.ds_base.specs.declared.geometry.Geom.{Geom}
use Rattle.ds_base.specs.declared.geometry.GeomField.TheVariants.{Items}
use Rattle.ds_base.specs.declared.geometry.Kind.{Kind}
use Rattle.ds_base.specs.declared.geometry.Kind.TheVariants.{Pb, Fb}
use Rattle.ds_bitmap.specs.Bits.{Bitmap}
use Rattle.ds_fd.specs.Body.{IsBody}
use Rattle.ds_fd.specs.declared.body.Body.{Body}
use Rattle.ds_image_parts.specs.Looks.{Look}
use Rattle.ds_image_parts.specs.Parts.{Parts, bits_in}
use Rattle.ds_image_parts.specs.Readings.{ReadsParts}
use Rattle.ds_image.specs.Sound.{IsSound}
use Rattle.ds_image_tables.proofs.Ownership.Marking.{can-none}
use Rattle.ds_image.proofs.Spelling.Sizes.{body_is}
use Rattle.ds_ptr.specs.declared.ptr_block.PtrBlock.{PtrBlock}
use Rattle.ds_tree.specs.Counts.{pointer_blocks}
use Rattle.ds_plan_laws_size.specs.Clusters.{MarksClusters}
use Rattle.ds_plan_laws_size.specs.Pages.{ptrs_in, blocks_in}
use Rattle.ds_plan_laws_size.specs.Planned.{GrowsFile, ShrinksFile}
use Rattle.ds_plan_laws_size.specs.Ready.{ReadyToResize}
use Rattle.ds_plan_laws_size.specs.Takes.{Take, items_taken, maps_taken}
use Rattle.ds_plan_laws_size.proofs.BuiltPages.{sized-body, sized-pointers, sized-no_pointers, sized-direct}
use Rattle.ds_plan_laws_size.proofs.Paged.{ptrs-length, few-pointers, some-pointers}
use Rattle.ds_plan_laws_size.proofs.SpelledBlocks.{size-is}
use Rattle.ds_plan_laws_size.proofs.TakenItems.{takes-can, takes-marks, gives-marks}

nothing-left : (xs : List ℕ) → length xs ≡ 0 → xs ≡ []
nothing-left [] none = refl
nothing-left (x ∷ xs) none = absurd (omega (arith, none))

-- a file of more blocks has no fewer pointer blocks
pub pointers-rise : (few many : ℕ) → few ≤ many → pointer_blocks few ≤ pointer_blocks many
pointers-rise few many l = elim (cases_lt 96 few) [
  | inl large ↦ omega (arith, l, some-pointers few large, some-pointers many (omega (arith, l, large)))
  | inr small ↦ omega (arith, few-pointers few small)
]

module _ (g : Geom) (look : Look) (p : Parts) (reads : ReadsParts g look p) (sound : IsSound p) (o : ℕ) (b b' : Body) (size first : ℕ) (ptrs : List (ℕ × PtrBlock)) where
  module _ (blocks pointers : List Take) (grows : GrowsFile g p o b b' size blocks pointers first ptrs) where
    abbrev added : List ℕ
    added = items_taken g Fb blocks

    abbrev fresh : List ℕ
    fresh = items_taken g Pb pointers

    is-body : IsBody b
    is-body = body_is g look p o b reads grows.there

    count-is : length (blocks_in p b) ≡ b.count
    count-is = size-is g look p o b reads sound grows.there grows.file

    all-blocks : take size (blocks_in p b) ≡ blocks_in p b
    all-blocks = take_all size (blocks_in p b) (omega (arith, count-is, grows.more))

    pointers-fit : length (ptrs_in b) ≤ pointer_blocks size
    pointers-fit = omega (arith, ptrs-length b is-body grows.file, pointers-rise b.count size grows.more)

    all-pointers : take (pointer_blocks size) (ptrs_in b) ≡ ptrs_in b
    all-pointers = take_all (pointer_blocks size) (ptrs_in b) pointers-fit

    lists-grown : ptrs_in b' ≡ take (pointer_blocks size) (ptrs_in b) ++ fresh
    lists-grown = elim (cases_lt 96 size) [
      | inl large ↦
          sized-pointers b b' size grows.used is-body grows.file grows.has large ∙ grows.many large ∙ ap (λ l. l ++ fresh) (sym all-pointers)
      | inr small ↦
          let none : pointer_blocks size ≡ 0 = few-pointers size small in
          let no-fresh : fresh ≡ [] = nothing-left fresh (omega (arith, grows.pointer_count, none)) in
          let no-old : ptrs_in b ≡ [] = nothing-left (ptrs_in b) (omega (arith, pointers-fit, none)) in
          sized-no_pointers b b' size grows.used is-body grows.file grows.has small
          ∙ sym (ap (λ l. l ++ fresh) (all-pointers ∙ no-old) ∙ no-fresh)
    ]

    -- a file that grows is ready
    pub grown-ready : ReadyToResize g p o b b' size added fresh first (maps_taken pointers) (maps_taken blocks) ptrs
    grown-ready = record {
      body = sized-body b b' size grows.used is-body grows.file grows.has p o grows.there;
      grows = grows.block_count;
      blocks_free = takes-can g look p Fb reads (sound.maps Fb) blocks grows.block_takes;
      pointers_free = takes-can g look p Pb reads (sound.maps Pb) pointers grows.pointer_takes;
      direct = λ small. sized-direct b b' size grows.used is-body grows.file grows.has small ∙ grows.few small ∙ ap (λ l. l ++ added) (sym all-blocks);
      lists = lists-grown;
      pages = grows.pages;
      pointer_marks = subst (λ given. MarksClusters g p Pb given fresh (maps_taken pointers)) (sym (drop_all (pointer_blocks size) (ptrs_in b) pointers-fit))
          (takes-marks g look p Pb reads (sound.maps Pb) pointers grows.pointer_takes);
      block_marks = subst (λ given. MarksClusters g p Fb given added (maps_taken blocks)) (sym (drop_all size (blocks_in p b) (omega (arith, count-is, grows.more))))
          (takes-marks g look p Fb reads (sound.maps Fb) blocks grows.block_takes);
    }

  module _ (pb_maps fb_maps : List (ℕ × Bitmap)) (is_geom : IsGeom g)
      (shrinks : ShrinksFile g p o b b' size first pb_maps fb_maps ptrs) where
    some-items : (kind : Kind) → 0 < per_cluster g kind
    some-items kind =
        let from : 1 ≤ per_cluster g kind = (is_geom (Items kind)).0 in
        omega (arith, from)

    was-body : IsBody b
    was-body = body_is g look p o b reads shrinks.there

    lists-shrunk : ptrs_in b' ≡ take (pointer_blocks size) (ptrs_in b) ++ []
    lists-shrunk = elim (cases_lt 96 size) [
      | inl large ↦
          sized-pointers b b' size shrinks.used was-body shrinks.file shrinks.has large ∙ shrinks.many large
          ∙ sym (append-nil (take (pointer_blocks size) (ptrs_in b)))
      | inr small ↦
          sized-no_pointers b b' size shrinks.used was-body shrinks.file shrinks.has small
          ∙ sym (append-nil (take (pointer_blocks size) (ptrs_in b)) ∙ ap (λ n. take n (ptrs_in b)) (few-pointers size small))
    ]

    -- and one that shrinks
    pub shrunk-ready : ReadyToResize g p o b b' size [] [] first pb_maps fb_maps ptrs
    shrunk-ready = record {
      body = sized-body b b' size shrinks.used was-body shrinks.file shrinks.has p o shrinks.there;
      grows = (let none : size - b.count ≡ 0 = omega (arith, shrinks.less) in sym none);
      blocks_free = can-none (bits_in p.fb_maps);
      pointers_free = can-none (bits_in p.pb_maps);
      direct = λ small. sized-direct b b' size shrinks.used was-body shrinks.file shrinks.has small ∙ shrinks.few small ∙ sym (append-nil (take size (blocks_in p b)));
      lists = lists-shrunk;
      pages = shrinks.pages;
      pointer_marks = gives-marks g look p Pb reads (sound.maps Pb) (some-items Pb) (drop (pointer_blocks size) (ptrs_in b)) pb_maps shrinks.pointer_gives;
      block_marks = gives-marks g look p Fb reads (sound.maps Fb) (some-items Fb) (drop size (blocks_in p b)) fb_maps shrinks.block_gives;
    }
