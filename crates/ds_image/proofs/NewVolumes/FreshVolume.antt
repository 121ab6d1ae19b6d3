-- A formatted volume has one logical image, the sectors in front of its file blocks, and this stands for the tree that has the root alone.
use Rattle.std.proofs.Common.{◌≡◌, ℕ, zero, suc, ◌^◌, ◌<◌, ◌≤◌, ⊎_elim, true, false, List, [], ◌∷◌, ◌++◌, length, replicate, slice_get, slice_index, slice_index_or, Option, Some, refl, sym, ap, subst, ◌∙◌, arith}
use Rattle.std.proofs.lemmas.Bool.{cases_lt}
use Rattle.std.proofs.lemmas.List.{get_or-replicate, get_or-take, length-replicate, length-set, length-take, length-take-le}
use Rattle.std.proofs.lemmas.Option.{slice_get-get_or, slice_get_within}
use Rattle.std.specs.List.{flat_map}
use Rattle.ds_base.specs.Decoding.{IsDecoded}
use Rattle.ds_base.specs.declared.geometry.Geom.{Geom}
use Rattle.ds_base.specs.declared.geometry.Kind.{Kind}
use Rattle.ds_base.specs.declared.geometry.Kind.TheVariants.{Fd, Sb, Pb, Fb}
use Rattle.ds_base.specs.declared.sectors.Sector.{Sector}
use Rattle.ds_base.specs.Geometry.{IsGeom, clusters_of, per_cluster, items_of}
use Rattle.ds_bitmap.proofs.Bounds.{most_per_cluster}
use Rattle.ds_bitmap.proofs.Packed.{bits_same}
use Rattle.ds_bitmap.specs.Bits.{IsBits, bits_bytes}
use Rattle.ds_bytes.specs.Fields.{zeros, littles, little, padded, AllBelow}
use Rattle.ds_dir.proofs.Laws.{empty_sub, sub_bytes-empty, IsSubBlock-empty, sub_same}
use Rattle.ds_dir.specs.SubBlock.{sub_bytes}
use Rattle.ds_fd.proofs.Laws.{body_same}
use Rattle.ds_fd.specs.Body.{HasWidths, InRanges, IsBody, body_bytes}
use Rattle.ds_layout.proofs.Bounds.{bounds}
use Rattle.ds_layout.specs.Places.{IsPlace, place_sector, blocks_at}
use Rattle.ds_layout.specs.declared.places.Place.{Place}
use Rattle.ds_layout.specs.declared.places.Place.TheVariants as places
use Rattle.ds_marks.proofs.Slots.{slot_same}
use Rattle.ds_marks.specs.Slot.{IsSlot, slot_bytes}
use Rattle.ds_marks.specs.declared.slot.Slot.{Slot}
use Rattle.ds_ptr.proofs.Laws.{ptr_same}
use Rattle.ds_ptr.specs.PtrBlock.{IsPtrBlock, ptr_bytes}
use Rattle.ds_tree.proofs.FreshTree.{fresh-is_tree}
use Rattle.ds_tree.specs.Nodes.{fresh_tree}
use Rattle.ds_image.specs.Formatted.{fresh_slot, fresh_body, fresh_bits, formatted_at, IsFormatted}
use Rattle.ds_image_parts.specs.Logical.{laid_over, IsLogical}
use Rattle.ds_image_parts.specs.Looks.{Look, HasBytes}
use Rattle.ds_layout.proofs.MetadataPlaces.{metadata_within}
use Rattle.ds_layout.specs.Metadata.{is_metadata, front_of}
use Rattle.ds_image_parts.specs.Parts.{maps_of}
use Rattle.ds_image_parts.specs.Pending.{Pair, AreOfSlot, ArePending}
use Rattle.ds_image_parts.specs.Readings.{SpellsSlot, SpellsBody, SpellsBits, SpellsSub, SpellsPtr, IsReading, ReadsParts}
use Rattle.ds_image.specs.Sound.{StandsFor}
use Rattle.ds_image.proofs.NewVolumes.FreshLists.{reading_made, decoded_one, get_or-replicate_same}
use Rattle.ds_image.proofs.NewVolumes.FreshParts.{empty_ptr, fresh_parts, fresh_sound, tree_of-fresh}

-- a free slot in generation 1 is a slot
pub fresh_slot_is : IsSlot fresh_slot
fresh_slot_is = record {
  widths = record { host_size = refl; txn_fits = omega arith };
  ranges = record { generation_from = omega arith; generation_to = omega arith; is_of_state = (refl, refl, refl); is_of_journal = tt };
}

-- the bodies of the root and of descriptors that were never in use are bodies
pub fresh_body_ranges : (o : ℕ) → InRanges (fresh_body o)
unfolding zeros
fresh_body_ranges zero = record { links_are = refl; count_to = omega arith; birth_from = omega arith; birth_to = omega arith; rest_is_zero = refl }
fresh_body_ranges (suc n) = record { links_are = refl; count_to = omega arith; birth_from = omega arith; birth_to = omega arith; rest_is_zero = refl }

pub no_addresses : (n limit : ℕ) → 0 < limit → AllBelow limit (replicate n 0)
no_addresses n limit some i = let zero_there : slice_index (replicate n 0) i ≡ 0 = get_or-replicate_same n i 0 in omega arith

fresh_body_widths : (o : ℕ) → o < 2 ^ 32 → HasWidths (fresh_body o)
fresh_body_widths zero l = record { object_fits = l; links_fit = omega arith; birth_fits = omega arith; count_fits = omega arith; address_count = refl; addresses_fit = no_addresses 96 (2 ^ 32) (omega arith) }
fresh_body_widths (suc n) l = record { object_fits = l; links_fit = omega arith; birth_fits = omega arith; count_fits = omega arith; address_count = refl; addresses_fit = no_addresses 96 (2 ^ 32) (omega arith) }

fresh_body_object : (o : ℕ) → (fresh_body o).object ≡ o
fresh_body_object zero = refl
fresh_body_object (suc n) = refl

-- the bitmaps are bitmaps of their clusters
fresh_bits_are : (g : Geom) (kind : Kind) (cluster : ℕ) → IsBits g kind cluster (fresh_bits g kind cluster)
fresh_bits_are g Fd zero = record { same_kind = refl; same_cluster = refl; count = length-set (replicate (per_cluster g Fd) false) 0 true ∙ length-replicate (per_cluster g Fd) false }
fresh_bits_are g Fd (suc cluster) = record { same_kind = refl; same_cluster = refl; count = length-replicate (per_cluster g Fd) false }
fresh_bits_are g Sb cluster = record { same_kind = refl; same_cluster = refl; count = length-replicate (per_cluster g Sb) false }
fresh_bits_are g Pb cluster = record { same_kind = refl; same_cluster = refl; count = length-replicate (per_cluster g Pb) false }
fresh_bits_are g Fb cluster = record { same_kind = refl; same_cluster = refl; count = length-replicate (per_cluster g Fb) false }

-- a sector of zeros spells a pointer block without addresses
empty_ptr_is : IsPtrBlock empty_ptr
empty_ptr_is = record { count = refl; below = no_addresses 128 (2 ^ 32) (omega arith) }

ptr_bytes-empty : ptr_bytes empty_ptr ≡ replicate 512 0
unfolding ptr_bytes littles little padded zeros
ptr_bytes-empty = refl

-- the bytes at a number are determined
pub same_bytes : (look : Look) (at : ℕ) (a b : List ℕ) → HasBytes look at a → HasBytes look at b → a ≡ b
same_bytes look at a b p q =
    let same : p.0 ≡ q.0 = let first : look at ≡ Some p.0 = p.1 in let second : look at ≡ Some q.0 = q.1 in cc in
    sym p.2 ∙ ap (λ (s : Sector). s.bytes) same ∙ q.2

-- a sector in front of the file blocks is that of the store
front_has : (g : Geom) (sectors : List Sector) (at : ℕ) (bytes : List ℕ) → HasBytes (slice_get sectors) at bytes → at < blocks_at g → HasBytes (slice_get (front_of g sectors)) at bytes
front_has g sectors at bytes h l =
    let s : Sector = h.0 in
    let within : at < length sectors = slice_get_within sectors at s h.1 in
    let inside : at < length (front_of g sectors) =
    ⊎_elim
    (λ (more : length sectors < blocks_at g). omega (arith, length-take (blocks_at g) sectors))
    (λ (less : blocks_at g ≤ length sectors). omega (arith, length-take-le (blocks_at g) sectors less))
    (cases_lt (length sectors) (blocks_at g)) in
    let there : slice_get (front_of g sectors) at ≡ Some s =
    slice_get-get_or (front_of g sectors) at s inside
    ∙ ap Some (get_or-take (blocks_at g) sectors at s l)
    ∙ sym (slice_get-get_or sectors at s within)
    ∙ h.1 in
    (s, there, h.2)

-- empty lists, one after another, are empty
joined_none : (pairs : List (List Pair)) → ((i : ℕ) → i < length pairs → slice_index_or pairs i [] ≡ []) → flat_map (λ list. list) pairs ≡ []
joined_none [] none = refl
joined_none (p ∷ ps) none =
    let here : p ≡ [] = none 0 (omega arith) in
    ap (λ xs. xs ++ flat_map (λ list. list) ps) here ∙ joined_none ps (λ i l. none (suc i) (omega arith))

module _ (g : Geom) (volume : List ℕ) (sectors : List Sector) (is : IsGeom g) (formatted : IsFormatted g volume sectors) where
  abbrev front : Look
  front = slice_get (front_of g sectors)

  metadata_has : (place : Place) → IsPlace g place → is_metadata place ≡ true → HasBytes front (place_sector g place) (formatted_at g volume place)
  metadata_has place h kept = front_has g sectors (place_sector g place) (formatted_at g volume place) (formatted.each place h) (metadata_within g place h kept)

  body_spelled : (o : ℕ) → o < items_of g Fd → IsDecoded (Some (fresh_body o)) (SpellsBody g front o)
  body_spelled o l =
      let few : items_of g Fd ≤ 2048 = (bounds g is).fd_items in
      let body : IsBody (fresh_body o) = record { widths = fresh_body_widths o (omega arith); ranges = fresh_body_ranges o } in
      let has = metadata_has (places.Body o) l refl in
      decoded_one (fresh_body o) (SpellsBody g front o) (fresh_body_object o, body, has)
      (λ w d. body_same w (fresh_body o) d.1 body (same_bytes front (place_sector g (places.Body o)) (body_bytes w) (body_bytes (fresh_body o)) d.2 has))

  map_spelled : (kind : Kind) (c : ℕ) → c < 256 → c < clusters_of g kind → IsDecoded (Some (fresh_bits g kind c)) (SpellsBits g front kind c)
  map_spelled kind c small l =
      let bits = fresh_bits_are g kind c in
      let most = most_per_cluster g kind is in
      let has = metadata_has (places.Bitmap kind c) l refl in
      decoded_one (fresh_bits g kind c) (SpellsBits g front kind c) (bits, has)
      (λ w d.
      bits_same w (fresh_bits g kind c) (omega (arith, d.0.same_cluster)) (omega (arith, bits.same_cluster)) (omega (arith, d.0.count)) (omega (arith, bits.count))
      (same_bytes front (place_sector g (places.Bitmap kind c)) (bits_bytes w) (bits_bytes (fresh_bits g kind c)) d.1 has))

  sub_spelled : (n : ℕ) → n < items_of g Sb → IsDecoded (Some empty_sub) (SpellsSub g front n)
  sub_spelled n l =
      let at : ℕ = place_sector g (places.SubBlock n) in
      let has : HasBytes front at (sub_bytes empty_sub) = subst (HasBytes front at) (sym sub_bytes-empty) (metadata_has (places.SubBlock n) l refl) in
      decoded_one empty_sub (SpellsSub g front n) (IsSubBlock-empty, has)
      (λ w d. sub_same w empty_sub d.0 IsSubBlock-empty (same_bytes front at (sub_bytes w) (sub_bytes empty_sub) d.1 has))

  ptr_spelled : (n : ℕ) → n < items_of g Pb → IsDecoded (Some empty_ptr) (SpellsPtr g front n)
  ptr_spelled n l =
      let at : ℕ = place_sector g (places.PtrBlock n) in
      let has : HasBytes front at (ptr_bytes empty_ptr) = subst (HasBytes front at) (sym ptr_bytes-empty) (metadata_has (places.PtrBlock n) l refl) in
      decoded_one empty_ptr (SpellsPtr g front n) (empty_ptr_is, has)
      (λ w d. ptr_same w empty_ptr d.0 empty_ptr_is (same_bytes front at (ptr_bytes w) (ptr_bytes empty_ptr) d.1 has))

  maps_read : (kind : Kind) → IsReading (clusters_of g kind) (SpellsBits g front kind) (maps_of (fresh_parts g) kind)
  maps_read Fd = reading_made (clusters_of g Fd) (SpellsBits g front Fd) (fresh_bits g Fd) (λ c l. map_spelled Fd c (omega (arith, (bounds g is).fd_clusters)) l)
  maps_read Sb = reading_made (clusters_of g Sb) (SpellsBits g front Sb) (fresh_bits g Sb) (λ c l. map_spelled Sb c (omega (arith, (bounds g is).sb_clusters)) l)
  maps_read Pb = reading_made (clusters_of g Pb) (SpellsBits g front Pb) (fresh_bits g Pb) (λ c l. map_spelled Pb c (omega (arith, (bounds g is).pb_clusters)) l)
  maps_read Fb = reading_made (clusters_of g Fb) (SpellsBits g front Fb) (fresh_bits g Fb) (λ c l. map_spelled Fb c (omega (arith, (bounds g is).fb_clusters)) l)

  fresh_reads : ReadsParts g front (fresh_parts g)
  fresh_reads = record {
    bodies = reading_made (items_of g Fd) (SpellsBody g front) fresh_body body_spelled;
    maps = maps_read;
    subs = reading_made (items_of g Sb) (SpellsSub g front) (λ _. empty_sub) sub_spelled;
    ptrs = reading_made (items_of g Pb) (SpellsPtr g front) (λ _. empty_ptr) ptr_spelled;
  }

  front_whole : blocks_at g ≤ length (front_of g sectors)
  front_whole = omega (arith, length-take-le (blocks_at g) sectors (omega (arith, formatted.size)))

  front_stands : StandsFor g (front_of g sectors) (fresh_tree g)
  front_stands = record {
    parts = fresh_parts g;
    whole = front_whole;
    reads = fresh_reads;
    sound = fresh_sound g is;
    tree = tree_of-fresh g is;
    is_tree = fresh-is_tree g is;
  }

  pub slot_spelled : (number : ℕ) → number < g.slots → IsDecoded (Some fresh_slot) (SpellsSlot g (slice_get sectors) number)
  slot_spelled number l =
      let few : g.slots ≤ 16 = (bounds g is).slots in
      let has = formatted.each (places.Slot number) l in
      decoded_one fresh_slot (SpellsSlot g (slice_get sectors) number) (fresh_slot_is, has)
      (λ w d. (slot_same number number w fresh_slot (omega arith) (omega arith) d.0 fresh_slot_is
      (same_bytes (slice_get sectors) (place_sector g (places.Slot number)) (slot_bytes number w) (slot_bytes number fresh_slot) d.1 has)).1)

  none_pending : (number : ℕ) (pairs : List Pair) → number < g.slots → ArePending g sectors number pairs → pairs ≡ []
  none_pending number pairs l pending =
      let read = slot_spelled number l in
      let same : pending.slot ≡ Some fresh_slot = (pending.decoded fresh_slot).1 ((read fresh_slot).0 refl) in
      let OfSlot : Option Slot → Type 0 = λ slot. AreOfSlot g sectors number slot pairs in
      subst OfSlot same pending.of_slot

  pub pending_none : (number : ℕ) → number < g.slots → ArePending g sectors number []
  pending_none number l = record { slot = Some fresh_slot; decoded = slot_spelled number l; of_slot = refl }

  -- the sectors in front of the file blocks are a logical image of the volume
  pub front_is_logical : IsLogical g sectors (front_of g sectors)
  front_is_logical =
      let none : List (List Pair) = replicate g.slots [] in
      record {
        pairs = none;
        all_pending = record {
          one_each = length-replicate g.slots [];
          pending = λ number l. subst (ArePending g sectors number) (sym (get_or-replicate g.slots number [] [] l)) (pending_none number l);
        };
        laid = ap (laid_over (front_of g sectors)) (sym (joined_none none (λ i l. get_or-replicate_same g.slots i [])));
      }

  -- and there is no other
  only_front : (image : List Sector) → IsLogical g sectors image → image ≡ front_of g sectors
  only_front image logical =
      logical.laid
      ∙ ap (laid_over (front_of g sectors))
      (joined_none logical.pairs
      (λ i l.
      let slot : i < g.slots = omega (arith, logical.all_pending.one_each) in
      none_pending i (slice_index_or logical.pairs i []) slot (logical.all_pending.pending i slot)))

  -- so each logical image of the volume stands for the tree that has the root alone
  pub fresh_stands : (image : List Sector) → IsLogical g sectors image → StandsFor g image (fresh_tree g)
  fresh_stands image logical =
      let Stands : List Sector → Type 0 = λ ss. StandsFor g ss (fresh_tree g) in
      subst Stands (sym (only_front image logical)) front_stands
