-- After the changed pointer blocks of a file were written they all have the pages of its blocks, and those of other files stay.
use Rattle.std.proofs.Common.{◌≡◌, ◌≢◌, ℕ, suc, ◌+◌, ◌*◌, ◌<◌, ◌≤◌, ◌⊎◌, inl, inr, false, List, ◌++◌, length, take, drop, slice_get, Some, sym, ap, subst, ◌∙◌, arith}
use Rattle.std.proofs.lemmas.Bool.{cases_lt, false≢true}
use Rattle.std.proofs.lemmas.List.{length-take, take-append-drop}
use Rattle.std.proofs.lemmas.Option.{slice_get_within}
use Rattle.ds_base.specs.Geometry.{items_of}
use Rattle.ds_base.specs.declared.geometry.Geom.{Geom}
use Rattle.ds_base.specs.declared.geometry.Kind.TheVariants.{Pb}
use Rattle.ds_fd.specs.declared.body.Body.{Body}
use Rattle.ds_ptr.specs.declared.ptr_block.PtrBlock.{PtrBlock}
use Rattle.ds_tree.specs.Counts.{pointer_blocks}
use Rattle.ds_image_parts.specs.Looks.{Look}
use Rattle.ds_image_parts.specs.Objects.{addresses_in}
use Rattle.ds_image_tables.specs.Owned.{CanMark}
use Rattle.ds_image_tables.specs.Owns.{IsAt}
use Rattle.ds_image_parts.specs.Parts.{Parts, part_at, bits_in}
use Rattle.ds_image_parts.specs.Readings.{ReadsParts}
use Rattle.ds_image.specs.Sound.{IsSound, ptr_lists}
use Rattle.ds_image.proofs.Ownership.Listed.{bits_length, ptr_listed_within}
use Rattle.ds_image_tables.proofs.Spelling.Places.{at-append, at-append_left, bit-from_at}
use Rattle.ds_image.proofs.Spelling.Sizes.{body_is}
use Rattle.ds_plan_laws_size.specs.Pages.{ptrs_in, blocks_in, IsPage, SpellsBlocks}
use Rattle.ds_plan_laws_size.specs.Pointers.{WritesPages}
use Rattle.ds_plan_laws_size.specs.Resizing.{IsResized, blocks_after}
use Rattle.ds_plan_laws_size.specs.Written.{put_all}
use Rattle.ds_plan_laws_size.proofs.FileLists.{ptr_list-is}
use Rattle.ds_plan_laws_size.proofs.Paged.{ptrs-length, some-pointers}
use Rattle.ds_plan_laws_size.proofs.PutAll.{put-other, put-there}
use Rattle.ds_plan_laws_size.proofs.SpelledBlocks.{spelled-blocks, size-is, page-kept}

module _ (g : Geom) (look : Look) (p : Parts) (reads : ReadsParts g look p) (sound : IsSound p) (o : ℕ) (b b' : Body) (size : ℕ) (pointers : List ℕ)
    (body : IsResized p o b b' size) (lists : ptrs_in b' ≡ take (pointer_blocks size) (ptrs_in b) ++ pointers) (can : CanMark (bits_in p.pb_maps) pointers) where
  abbrev kept : List ℕ
  kept = take (pointer_blocks size) (ptrs_in b)

  -- each pointer block that the file lists then was listed by it, at the same place, or was clear
  pub pointer-was : (k n : ℕ) → slice_get (ptrs_in b') k ≡ Some n
      → IsAt (ptr_lists p) o k n ⊎ ((j : ℕ) × (k ≡ length kept + j) × (slice_get pointers j ≡ Some n))
  pointer-was k n at = elim (at-append kept pointers k n (subst (λ l. slice_get l k ≡ Some n) lists at)) [
    | inl old ↦ inl (
        ap (λ l. slice_get l k) (ptr_list-is p o b body.there body.file)
        ∙ subst (λ l. slice_get l k ≡ Some n) (take-append-drop (pointer_blocks size) (ptrs_in b)) (at-append_left kept (drop (pointer_blocks size) (ptrs_in b)) k n old)
        )
    | inr new ↦ inr new
  ]

  -- a clear item is listed nowhere
  pub clear-nowhere : (j k i n : ℕ) → slice_get pointers j ≡ Some n → IsAt (ptr_lists p) k i n → ⊥
  clear-nowhere j k i n at listed =
      false≢true (sym (bit-from_at (bits_in p.pb_maps) n false (can.clear j n at)) ∙ sound.ptr_owners.marked k i n listed)

  pub pointer-within : (k n : ℕ) → slice_get (ptrs_in b') k ≡ Some n → n < items_of g Pb
  pointer-within k n at = elim (pointer-was k n at) [
    | inl old ↦ ptr_listed_within g look p o k n reads sound old
    | inr new ↦ omega (
      arith,
      slice_get_within (bits_in p.pb_maps) n false (can.clear new.0 n new.2),
      bits_length g look Pb p.pb_maps (reads.maps Pb) (sound.maps Pb),
    )
  ]

  -- no pointer block stands twice in the list
  pub pointers-once : (k l n : ℕ) → slice_get (ptrs_in b') k ≡ Some n → slice_get (ptrs_in b') l ≡ Some n → k ≡ l
  pointers-once k l n one two = elim (pointer-was k n one) [
    | inl old ↦ elim (pointer-was l n two) [
      | inl old' ↦ (sound.ptr_owners.once o k o l n old old').1
      | inr new' ↦ absurd (clear-nowhere new'.0 o k n new'.2 old)
    ]
    | inr new ↦ elim (pointer-was l n two) [
      | inl old' ↦ absurd (clear-nowhere new.0 o l n new.2 old')
      | inr new' ↦ new.1 ∙ ap (λ j. length kept + j) (can.once new.0 new'.0 n new.2 new'.2) ∙ sym new'.1
    ]
  ]

  -- and another object lists none of them
  pub not-others : (k l i n : ℕ) → slice_get (ptrs_in b') l ≡ Some n → k ≢ o → IsAt (ptr_lists p) k i n → ⊥
  not-others k l i n at other listed = elim (pointer-was l n at) [
    | inl old ↦ other (sound.ptr_owners.once k i o l n listed old).0
    | inr new ↦ clear-nowhere new.0 k i n new.2 listed
  ]

  module _ (added : List ℕ) (first : ℕ) (writes : List (ℕ × PtrBlock)) (pages : WritesPages b b' (blocks_after p b size added) first writes)
      (q : Parts) (ptrs : q.ptrs ≡ put_all p.ptrs writes) where
    abbrev blocks : List ℕ
    blocks = blocks_after p b size added

    pub others-stay : (k i n : ℕ) → k ≢ o → IsAt (ptr_lists p) k i n → part_at q.ptrs n ≡ part_at p.ptrs n
    others-stay k i n other listed =
        ap (λ xs. part_at xs n) ptrs
        ∙ put-other p.ptrs writes n (λ j w at same.
        let is = pages.each j w at in
        not-others k is.place i n (is.listed ∙ ap Some same) other listed)

    -- a page from the first changed one on
    late-page : (k n : ℕ) → slice_get (ptrs_in b') k ≡ Some n → first ≤ k → IsPage blocks k (addresses_in (part_at q.ptrs n))
    late-page k n at late =
        let found = pages.all k n late at in
        let w : ℕ × PtrBlock = found.1.0 in
        let is = pages.each found.0 w found.1.1 in
        let place : is.place ≡ k = pointers-once is.place k n (is.listed ∙ ap Some found.1.2) at in
        let within : w.0 < length p.ptrs = omega (arith, pointer-within is.place w.0 is.listed, reads.ptrs.len) in
        let there : part_at q.ptrs n ≡ Some w.1 =
        ap (λ xs. part_at xs n) ptrs ∙ ap (part_at (put_all p.ptrs writes)) (sym found.1.2) ∙ put-there p.ptrs writes found.0 w pages.once found.1.1 within in
        subst (λ r. IsPage blocks k (addresses_in r)) (sym there) (subst (λ l. IsPage blocks l w.1.addresses) place is.page)

    -- and one before it
    early-page : (k n : ℕ) → slice_get (ptrs_in b') k ≡ Some n → k < first → IsPage blocks k (addresses_in (part_at q.ptrs n))
    early-page k n at early =
        let old-size : length (blocks_in p b) ≡ b.count = size-is g look p o b reads sound body.there body.file in
        let there : part_at q.ptrs n ≡ part_at p.ptrs n =
        ap (λ xs. part_at xs n) ptrs
        ∙ put-other p.ptrs writes n (λ j w at' same.
        let is = pages.each j w at' in
        omega (arith, early, is.late, pointers-once is.place k n (is.listed ∙ ap Some same) at)) in
        let inside : 128 * suc k ≤ length (blocks_in p b) = omega (arith, early, pages.full_before, old-size) in
        let below : 128 * suc k ≤ size = omega (arith, early, pages.full_after, body.count) in
        let was : slice_get (ptrs_in b) k ≡ Some n = elim (pointer-was k n at) [
          | inl old ↦ sym (ap (λ l. slice_get l k) (ptr_list-is p o b body.there body.file)) ∙ old
          | inr new ↦
              let many : 128 * suc k ≤ 128 * length kept = kept-many k inside below in
              absurd (omega (arith, new.1, many))
        ] in
        let page = (spelled-blocks g look p o b reads sound body.there body.file).paged (omega (arith, inside)) k n was in
        subst (λ r. IsPage blocks k (addresses_in r)) (sym there) (page-kept (blocks_in p b) added size k (addresses_in (part_at p.ptrs n)) below inside page)
      where
        kept-many : (k : ℕ) → 128 * suc k ≤ length (blocks_in p b) → 128 * suc k ≤ size → 128 * suc k ≤ 128 * length kept
        kept-many k inside below =
            omega (
              arith,
              inside,
              below,
              size-is g look p o b reads sound body.there body.file,
              length-take (pointer_blocks size) (ptrs_in b),
              ptrs-length b (body_is g look p o b reads body.there) body.file,
              some-pointers size (omega (arith, below)),
              some-pointers b.count (omega (arith, inside, size-is g look p o b reads sound body.there body.file)),
            )

    -- so the body and its pointer blocks spell the blocks
    pub pages-spell : length blocks ≡ size → (size ≤ 96 → take size b'.addresses ≡ blocks) → SpellsBlocks q b' blocks
    pages-spell len direct = record {
      count = body.count ∙ sym len;
      direct = λ few. ap (λ n. take n b'.addresses) body.count ∙ direct (omega (arith, len, few));
      paged = λ many k n at. elim (cases_lt k first) [
        | inl early ↦ early-page k n at early
        | inr late ↦ late-page k n at late
      ];
    }
