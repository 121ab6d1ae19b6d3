-- What is written to give a file another size is metadata in its order.
use Rattle.std.proofs.Common.{◌≡◌, ℕ, zero, suc, ◌<◌, List, [], ◌∷◌, length, map, drop, Some, refl, ap, slice_get, arith}
use Rattle.std.specs.Prelude.{All, slice_index}
use Rattle.std.proofs.lemmas.List.{length-map}
use Rattle.std.proofs.lemmas.Option.{slice_get_within, get_or_from_slice_get}
use Rattle.ds_base.specs.Geometry.{clusters_of, items_of}
use Rattle.ds_base.specs.declared.geometry.Geom.{Geom}
use Rattle.ds_base.specs.declared.geometry.Kind.{Kind}
use Rattle.ds_base.specs.declared.geometry.Kind.TheVariants.{Pb}
use Rattle.ds_bitmap.specs.Bits.{Bitmap}
use Rattle.ds_image.specs.Asking.{AreTargets, targets_of}
use Rattle.ds_layout.specs.Metadata.{IsMetadata}
use Rattle.ds_image_parts.specs.Pending.{Pair}
use Rattle.ds_layout.specs.declared.places.Place.TheVariants as places
use Rattle.ds_plan_base.specs.Redos.{body_pair}
use Rattle.ds_ptr.specs.declared.ptr_block.PtrBlock.{PtrBlock}
use Rattle.ds_plan_resize.specs.Blocks.{pointers_from}
use Rattle.ds_plan_resize.specs.Ordered.{put_all_in}
use Rattle.ds_plan_resize.proofs.OrderedPairs.{AreRising, put_all-rises, rising-increasing, put_all-all, put_all-one}
use Rattle.ds_plan_resize.proofs.Ordering.{length-put_all_in}
use Rattle.ds_plan_resize.proofs.PagesWritten.{pages-at}
use Rattle.ds_plan_resize.specs.Redos.{ptr_pair, pages_of, pairs_of, redo_of}
use Rattle.ds_plan_resize.proofs.RightSizes.{at-map, sector_of}
use Rattle.ds_plan_resize.specs.Writable.{IsWritable}
use Rattle.ds_plan_resize.specs.declared.resized.Resized.{Resized}

length-pages : (blocks pointers : List ℕ) → length (pages_of blocks pointers) ≡ length pointers
length-pages blocks [] = refl
length-pages blocks (n ∷ pointers) = ap suc (length-pages (drop 128 blocks) pointers)

-- the sectors of bitmaps are metadata
pub maps-metadata : (g : Geom) (kind : Kind) (maps : List (ℕ × Bitmap)) → ((i : ℕ) (m : ℕ × Bitmap) → slice_get maps i ≡ Some m → m.0 < clusters_of g kind)
    → (i : ℕ) (pair : Pair) → slice_get (map (sector_of g kind) maps) i ≡ Some pair → IsMetadata g pair.0
maps-metadata g kind maps within i pair at =
    let m = at-map (sector_of g kind) maps i pair at in
    record { place = places.Bitmap kind m.0.0; is_place = within i m.0 m.1; here = ap (λ (x : Pair). x.0) m.2; kept = refl }

module _ (g : Geom) (r : Resized) (is : IsWritable g r) where
  abbrev pages : List (ℕ × PtrBlock)
  pages = pages_of r.blocks.list.items (pointers_from r.body r.first)

  pairs-metadata : (i : ℕ) (pair : Pair) → slice_get (pairs_of g r) i ≡ Some pair → IsMetadata g pair.0
  pairs-metadata zero pair at =
      let same : body_pair g r.body ≡ pair = cc in
      record { place = places.Body r.body.object; is_place = is.inside; here = ap (λ (x : Pair). x.0) same; kept = refl }
  pairs-metadata (suc i) pair at =
      let x = at-map (ptr_pair g) pages i pair at in
      let n = (pages-at r.blocks.list.items (pointers_from r.body r.first) i x.0 x.1).0 in
      let within : i < length (pointers_from r.body r.first) = slice_get_within (pointers_from r.body r.first) i x.0.0 n in
      let here : slice_index (pointers_from r.body r.first) i ≡ x.0.0 = get_or_from_slice_get (pointers_from r.body r.first) i x.0.0 0 n in
      let inside : x.0.0 < items_of g Pb = omega (arith, is.pointers i within, here) in
      record { place = places.PtrBlock x.0.0; is_place = inside; here = ap (λ (y : Pair). y.0) x.2; kept = refl }

  -- so they are targets, where the bitmaps rise and are metadata
  pub size-targets : AreRising 0 r.maps.pairs.items → All (IsMetadata g) (targets_of r.maps.pairs.items) → AreTargets g (targets_of (redo_of g r).pairs.items)
  size-targets rise maps =
      let written : List Pair = put_all_in r.maps.pairs.items (pairs_of g r) in
      let count = length-map written (λ (pair : Pair). pair.0) in
      record {
        some = omega (arith, count, put_all-one r.maps.pairs.items (body_pair g r.body) (map (ptr_pair g) pages));
        most = omega (
          arith,
          count,
          length-put_all_in r.maps.pairs.items (pairs_of g r),
          length-map pages (ptr_pair g),
          length-pages r.blocks.list.items (pointers_from r.body r.first),
          is.few,
          is.few_maps,
        );
        rising = rising-increasing 0 written (put_all-rises r.maps.pairs.items (pairs_of g r) rise);
        metadata = put_all-all (IsMetadata g) r.maps.pairs.items (pairs_of g r) maps pairs-metadata;
      }
