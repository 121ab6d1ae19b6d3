-- Pairs laid over sectors, one list after another.
use Rattle.std.proofs.Common.{◌≡◌, ℕ, ◌+◌, ◌<◌, ◌==◌, ⊎_elim, inl, inr, true, if◌then◌else◌, List, [], ◌∷◌, ◌++◌, length, take, get_or, slice_get, slice_set, Option, Some, None, MatchOption, refl, sym, ap, subst, ◌∙◌, cond, eq-eqb, ne_eqb, length-set, arith}
use Rattle.std.specs.BTreeMap.{is_at}
use Rattle.std.specs.Ordering.{nat_cmp}
use Rattle.std.proofs.lemmas.Bool.{cases_lt, cases_eq}
use Rattle.std.proofs.lemmas.List.{length-map, length-take-le, append-nil, get_or_append_left, get_or_at, length_push, map_push, take_more}
use Rattle.std.proofs.lemmas.List.Concat.{flat_map-append}
use Rattle.std.proofs.lemmas.Option.{slice_get-get_or, slice_get_within, get_or_from_slice_get, same_Some}
use Rattle.std.specs.List.{flat_map}
use Rattle.ds_base.specs.Decoding.{IsDecoded}
use Rattle.ds_base.specs.Geometry.{IsGeom, items_of}
use Rattle.ds_base.specs.declared.geometry.Geom.{Geom}
use Rattle.ds_base.specs.declared.geometry.GeomField.TheVariants.{Block, Clusters, Items}
use Rattle.ds_base.specs.declared.geometry.Kind.TheVariants.{Fb}
use Rattle.ds_base.specs.declared.sectors.Sector.{Sector}
use Rattle.ds_jrnl.specs.declared.index.Index.{Index}
use Rattle.ds_layout.specs.Places.{blocks_at, total_of, place_sector}
use Rattle.ds_layout.specs.declared.places.Place.TheVariants as places
use Rattle.ds_marks.specs.declared.slot.Slot.{Slot}
use Rattle.ds_marks.specs.declared.slot.Journal.{Journal}
use Rattle.ds_marks.specs.declared.slot.Journal.TheVariants.{Committed}
use Rattle.ds_image_parts.specs.BadSectors.{HasNoBad}
use Rattle.ds_image_parts.specs.ImageValues.{IsImage}
use Rattle.ds_image_parts.specs.Laying.{Lays, IsCommitted, ArePendingBelow}
use Rattle.ds_image_parts.specs.Logical.{laid_over, IsLogical}
use Rattle.ds_image_parts.specs.Looks.{Look, AreBlocks, IsBlock}
use Rattle.ds_layout.specs.Metadata.{front_of}
use Rattle.ds_image_parts.specs.Pending.{Pair, IsIndexOf, AreJournalled, AreOfJournal, ArePending}
use Rattle.ds_image_parts.specs.Readings.{SpellsSlot}
use Rattle.ds_image_parts.specs.Replaced.{image_of}
use Rattle.ds_image_parts.proofs.Spelling.BadSectors.{bad_index}
use Rattle.ds_image_parts.proofs.Journaling.LaidOver.{slice_get-set, laid_over-append}
use Rattle.ds_image_parts.proofs.Journaling.Replacing.{length-replaced, replaced_none, replaced_set}

-- what is at a place of a list with one more item
pub got_push : {X : Type 0} (P : ℕ → X → Type 0) (xs : List X) (x : X) → ((k : ℕ) (y : X) → slice_get xs k ≡ Some y → P k y)
    → P (length xs) x → (k : ℕ) (y : X) → slice_get (xs ++ x ∷ []) k ≡ Some y → P k y
got_push P xs x before last k y got =
    let is : get_or (xs ++ x ∷ []) k y ≡ y = get_or_from_slice_get (xs ++ x ∷ []) k y y got in
    let small : k < length (xs ++ x ∷ []) = slice_get_within (xs ++ x ∷ []) k y got in
    ⊎_elim
    (λ below. before k y (slice_get-get_or xs k y below ∙ ap Some (sym (get_or_append_left xs (x ∷ []) y k below) ∙ is)))
    (λ above.
    let here : length xs ≡ k = omega (arith, small, length_push xs x) in
    let same : x ≡ y = sym (get_or_at xs x [] y k here) ∙ is in
    subst (λ (z : _). P k z) same (subst (λ (n : ℕ). P n x) here last))
    (cases_lt k (length xs))

-- a sector of 512 bytes put behind others, or in the place of another
pub blocks_push : (xs : List Sector) (s : Sector) → AreBlocks (slice_get xs) → IsBlock s.bytes → AreBlocks (slice_get (xs ++ s ∷ []))
blocks_push xs s before last at t got = got_push (λ k (u : Sector). IsBlock u.bytes) xs s before last at t got

pub blocks_set : (xs : List Sector) (i : ℕ) (s : Sector) → AreBlocks (slice_get xs) → IsBlock s.bytes → AreBlocks (slice_get (slice_set xs i s))
blocks_set xs i s before last at t got =
    let small : at < length xs = omega (arith, slice_get_within (slice_set xs i s) at t got, length-set xs i s) in
    let chosen : (if i == at then Some s else slice_get xs at) ≡ Some t = sym (slice_get-set xs i at s small) ∙ got in
    elim (cases_eq i at) [
      | inl here ↦
          let same : s ≡ t = same_Some s t (rw (eq-eqb i at here) at chosen) in
          subst (λ (u : Sector). IsBlock u.bytes) same last
      | inr apart ↦ before at t (rw (ne_eqb i at apart) at chosen)
    ]

-- one more pair of a journal
pub lays_more : (g : Geom) (sectors : List Sector) (slot : ℕ) (targets : List ℕ) (i : ℕ) (before mid : List Sector) (s : Sector)
    → i < length targets → slice_get sectors (place_sector g (places.Journal slot i)) ≡ Some s → IsBlock s.bytes
    → Lays (AreJournalled g sectors slot (take i targets)) before mid
    → Lays (AreJournalled g sectors slot (take (i + 1) targets)) before (slice_set mid (get_or targets i 0) s)
lays_more g sectors slot targets i before mid s l got block lays =
    let target = get_or targets i 0 in
    let pair : Pair = (target, s) in
    let count : length lays.pairs ≡ i = sym (length-map lays.pairs (λ (p : Pair). p.0)) ∙ ap length lays.are.have_targets ∙ length-take-le i targets (omega arith) in
    record {
      pairs = lays.pairs ++ pair ∷ [];
      are = record {
        have_targets = map_push (λ (p : Pair). p.0) lays.pairs pair ∙ ap (λ xs. xs ++ target ∷ []) lays.are.have_targets ∙ sym (take_more targets i 0 l);
        have_sectors =
            got_push (λ k (p : Pair). slice_get sectors (place_sector g (places.Journal slot k)) ≡ Some p.1) lays.pairs pair lays.are.have_sectors
            (rw count got);
      };
      laid = ap (λ xs. slice_set xs target s) lays.laid ∙ sym (laid_over-append before lays.pairs (pair ∷ []));
      blocks = λ b. blocks_set mid target s (lays.blocks b) block;
    }

-- where no sector is bad the index of a committed journal is found
pub committed_found : (g : Geom) (sectors : List Sector) (number : ℕ) (r : Option Slot) (slot : Slot) (txn count : ℕ) (x : Option Index)
    → number < g.slots → HasNoBad g sectors → IsDecoded r (SpellsSlot g (slice_get sectors) number) → r ≡ Some slot → slot.journal ≡ Committed txn count
    → IsDecoded x (IsIndexOf g sectors number slot.generation txn count) → MatchOption x (ArePending g sectors number []) (IsCommitted g sectors number)
committed_found g sectors number r slot txn count None inside good read is committed index =
    absurd
    (good (place_sector g (places.Journal number 31)) record {
      place = places.Journal number 31;
      is_place = (inside, omega arith);
      here = refl;
      bad = (refl, (bad_index g sectors number r slot txn count None true read is committed index refl).0 refl);
    })
committed_found g sectors number r slot txn count (Some x) inside good read is committed index = record {
  slot = slot;
  txn = txn;
  count = count;
  decoded = subst (λ (o : Option Slot). IsDecoded o (SpellsSlot g (slice_get sectors) number)) is read;
  committed = committed;
  index = (index x).0 refl;
}

-- the pairs of a committed index are pending
pub committed_pending : (g : Geom) (sectors : List Sector) (number : ℕ) (x : Index) (pairs : List Pair)
    → IsCommitted g sectors number x → AreJournalled g sectors number x.targets.items pairs → ArePending g sectors number pairs
committed_pending g sectors number x pairs is are = record {
  slot = Some is.slot;
  decoded = is.decoded;
  of_slot = subst (λ (j : Journal). AreOfJournal g sectors number is.slot.generation j pairs) (sym is.committed) (x, is.index, are);
}

-- what the pairs are may be said in another way
pub lays_as : (Are Then : List Pair → Type 0) (before after : List Sector) → ((pairs : List Pair) → Are pairs → Then pairs)
    → Lays Are before after → Lays Then before after
lays_as Are Then before after to lays = record { pairs = lays.pairs; are = to lays.pairs lays.are; laid = lays.laid; blocks = lays.blocks }

-- the pairs of one more slot
pub lays_slot : (g : Geom) (sectors : List Sector) (n : ℕ) (before mid after : List Sector)
    → Lays (ArePendingBelow g sectors n) before mid → Lays (ArePending g sectors n) mid after → Lays (ArePendingBelow g sectors (n + 1)) before after
lays_slot g sectors n before mid after lays last =
    let lists = lays.are.lists in
    record {
      pairs = lays.pairs ++ last.pairs;
      are = record {
        lists = lists ++ last.pairs ∷ [];
        one_each = length_push lists last.pairs ∙ ap (λ k. k + 1) lays.are.one_each;
        pending = λ number l.
            ⊎_elim
            (λ below. subst (λ (ps : List Pair). ArePending g sectors number ps) (sym (get_or_append_left lists (last.pairs ∷ []) [] number (omega (arith, lays.are.one_each)))) (lays.are.pending number below))
            (λ above.
            let here : n ≡ number = omega arith in
            subst (λ (ps : List Pair). ArePending g sectors number ps) (sym (get_or_at lists last.pairs [] [] number (lays.are.one_each ∙ here)))
            (subst (λ (k : ℕ). ArePending g sectors k last.pairs) here last.are))
            (cases_lt number n);
        joined =
            ap (λ ps. ps ++ last.pairs) lays.are.joined
            ∙ ap (λ ps. flat_map (λ (list : List Pair). list) lists ++ ps) (sym (append-nil last.pairs))
            ∙ sym (flat_map-append (λ (list : List Pair). list) lists (last.pairs ∷ []));
      };
      laid = last.laid ∙ ap (λ xs. laid_over xs last.pairs) lays.laid ∙ sym (laid_over-append before lays.pairs last.pairs);
      blocks = λ b. last.blocks (lays.blocks b);
    }

-- one more pair of a journal, among those that are pending
pub lays_put : (g : Geom) (sectors : List Sector) (slot : ℕ) (targets : List ℕ) (i : ℕ) (before : List Sector) (old new : Look) (s : Sector)
    → i < length targets → slice_get sectors (place_sector g (places.Journal slot i)) ≡ Some s → IsBlock s.bytes
    → ((q : ℕ) → new q ≡ cond (is_at (nat_cmp (get_or targets i 0)) q) (Some s) (old q))
    → Lays (AreJournalled g sectors slot (take i targets)) before (image_of g sectors old)
    → Lays (AreJournalled g sectors slot (take (i + 1) targets)) before (image_of g sectors new)
lays_put g sectors slot targets i before old new s l got block sets lays =
    subst (λ (ys : List Sector). Lays (AreJournalled g sectors slot (take (i + 1) targets)) before ys)
    (sym (replaced_set old new (get_or targets i 0) s (front_of g sectors) sets))
    (lays_more g sectors slot targets i before (image_of g sectors old) s l got block lays)

-- where nothing was pending, what is pending after all slots makes an image of the sectors in front of the file blocks
pub image_pending : (g : Geom) (sectors : List Sector) (old new : Look) → IsGeom g → length sectors ≡ total_of g → ((k : ℕ) → old k ≡ None)
    → AreBlocks (slice_get (front_of g sectors)) → Lays (ArePendingBelow g sectors g.slots) (image_of g sectors old) (image_of g sectors new)
    → IsImage g (image_of g sectors new)
image_pending g sectors old new is size none blocks lays = record {
  is_geom = is;
  size = length-replaced new 0 (front_of g sectors) ∙ length-take-le (blocks_at g) sectors (omega (arith, size));
  blocks = lays.blocks (subst (λ (xs : List Sector). AreBlocks (slice_get xs)) (sym (replaced_none old 0 (front_of g sectors) none)) blocks);
}

-- and that is the logical image
pub logical_laid : (g : Geom) (sectors : List Sector) (old new : Look) → ((k : ℕ) → old k ≡ None)
    → Lays (ArePendingBelow g sectors g.slots) (image_of g sectors old) (image_of g sectors new) → IsLogical g sectors (image_of g sectors new)
logical_laid g sectors old new none lays = record {
  pairs = lays.are.lists;
  all_pending = record { one_each = lays.are.one_each; pending = lays.are.pending };
  laid = lays.laid ∙ ap (laid_over (image_of g sectors old)) lays.are.joined
      ∙ ap (λ xs. laid_over xs (flat_map (λ (list : List Pair). list) lays.are.lists)) (replaced_none old 0 (front_of g sectors) none);
}

-- one more sector is read
pub blocks_more : (sectors : List Sector) (at : ℕ) (s : Sector) → AreBlocks (slice_get (take at sectors)) → slice_get sectors at ≡ Some s → IsBlock s.bytes
    → AreBlocks (slice_get (take (at + 1) sectors))
blocks_more sectors at s before got block =
    let more : take (at + 1) sectors ≡ take at sectors ++ s ∷ [] =
    take_more sectors at s (slice_get_within sectors at s got) ∙ ap (λ t. take at sectors ++ t ∷ []) (get_or_from_slice_get sectors at s s got) in
    subst (λ (xs : List Sector). AreBlocks (slice_get xs)) (sym more) (blocks_push (take at sectors) s before block)

-- a volume has a first file block
pub first_block : (g : Geom) → IsGeom g → (0 < items_of g Fb) × (0 < g.block)
first_block g is = (grind (arith, (is (Clusters Fb)).0, (is (Items Fb)).0), omega (arith, (is Block).0))
