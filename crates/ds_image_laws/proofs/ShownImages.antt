-- What steps of a store make of its image: a commit lays the slot's pairs over it, and no other step changes it.
use Rattle.std.proofs.Common.{◌≡◌, ◌≢◌, ℕ, ◌<◌, ◌≤◌, true, false, List, [], length, get_or, slice_get, slice_set, refl, sym, ap, subst, ◌∙◌, inl, inr, length-set, get_or-set_same, get_or-set_other, length-take-le, arith}
use Rattle.std.proofs.lemmas.Bool.{cases_eq, cases_lt, cases_Bool}
use Rattle.std.proofs.lemmas.List.{get_or_past}
use Rattle.ds_base.specs.declared.geometry.Geom.{Geom}
use Rattle.ds_base.specs.declared.sectors.Sector.{Sector}
use Rattle.ds_layout.specs.Places.{blocks_at}
use Rattle.ds_image_parts.specs.Logical.{laid_over, AreAllPending}
use Rattle.ds_layout.specs.Metadata.{IsMetadata, front_of}
use Rattle.ds_image_parts.specs.Pending.{Pair, ArePending}
use Rattle.ds_layout.proofs.MetadataPlaces.{metadata-before_blocks}
use Rattle.ds_image_parts.proofs.Journaling.LaidOver.{picked, laid_get, written_in_place}
use Rattle.ds_image_parts.proofs.Journaling.OneLogical.{pending_once}
use Rattle.ds_image_laws.specs.Kept.{is_target}
use Rattle.ds_image_laws.specs.Shown.{SameMetadata, Shows, AreInPlace}
use Rattle.ds_image_laws.proofs.PickedPairs.{all_of, picked-none, picked-in_place, picked-by_one, picked-put, targets-none, target-among, slice_get-take, take-set}
use Rattle.ds_image_laws.proofs.Apart.{AreApart}

-- what pairs that are laid over the front of a store make of its metadata
laid-at : (g : Geom) (sectors : List Sector) (pairs : List Pair) (at : ℕ) → blocks_at g ≤ length sectors → IsMetadata g at
    → slice_get (laid_over (front_of g sectors) pairs) at ≡ picked pairs at (slice_get sectors at)
laid-at g sectors pairs at whole is =
    let below : at < blocks_at g = metadata-before_blocks g at is in
    laid_get (front_of g sectors) pairs at (omega (arith, below, length-take-le (blocks_at g) sectors whole))
    ∙ ap (picked pairs at) (slice_get-take (blocks_at g) sectors at below)

-- what an image shows of a sector of metadata
shown-at : (g : Geom) (sectors image : List Sector) (at : ℕ) (shows : Shows g sectors image) → blocks_at g ≤ length sectors → IsMetadata g at
    → slice_get image at ≡ picked (all_of shows.is_logical.pairs) at (slice_get sectors at)
shown-at g sectors image at shows whole is =
    let all : List Pair = all_of shows.is_logical.pairs in
    shows.same at is ∙ ap (λ (l : List Sector). slice_get l at) shows.is_logical.laid ∙ laid-at g sectors all at whole is

-- a sector that no slot has a pair for stands in the store
pub shown-free : (g : Geom) (sectors image : List Sector) (at : ℕ) → blocks_at g ≤ length sectors → IsMetadata g at
    → Shows g sectors image → ((n : ℕ) (pairs : List Pair) → n < g.slots → ArePending g sectors n pairs → is_target pairs at ≡ false)
    → slice_get image at ≡ slice_get sectors at
shown-free g sectors image at whole metadata shows free =
    let lists : List (List Pair) = shows.is_logical.pairs in
    shown-at g sectors image at shows whole metadata
    ∙ picked-none (all_of lists) at (slice_get sectors at)
    (targets-none lists at (λ n. elim (cases_lt n (length lists)) [
      | inl below ↦
          let inside : n < g.slots = omega (arith, below, shows.is_logical.all_pending.one_each) in
          free n (get_or lists n []) inside (shows.is_logical.all_pending.pending n inside)
      | inr past ↦ ap (λ ps. is_target ps at) (get_or_past lists n [] past)
    ]))

-- an image that shows what pending pairs make of the store
shows-from : (g : Geom) (sectors image : List Sector) (lists : List (List Pair)) → AreAllPending g sectors lists → blocks_at g ≤ length sectors
    → ((at : ℕ) → IsMetadata g at → slice_get image at ≡ picked (all_of lists) at (slice_get sectors at)) → Shows g sectors image
shows-from g sectors image lists pending whole at-each = record {
  logical = laid_over (front_of g sectors) (all_of lists);
  is_logical = record { pairs = lists; all_pending = pending; laid = refl };
  same = λ at is. at-each at is ∙ sym (laid-at g sectors (all_of lists) at whole is);
}

-- Steps that change no pending pairs

-- metadata and pending pairs stay
pub shows-kept : (g : Geom) (sectors sectors' image : List Sector) → blocks_at g ≤ length sectors → blocks_at g ≤ length sectors'
    → SameMetadata g sectors sectors' → ((slot : ℕ) (pairs : List Pair) → slot < g.slots → ArePending g sectors slot pairs → ArePending g sectors' slot pairs)
    → Shows g sectors image → Shows g sectors' image
shows-kept g sectors sectors' image whole whole' same kept shows =
    let lists : List (List Pair) = shows.is_logical.pairs in
    let all = shows.is_logical.all_pending in
    shows-from g sectors' image lists
    record { one_each = all.one_each; pending = λ n within. kept n (get_or lists n []) within (all.pending n within) }
    whole'
    (λ at is. shown-at g sectors image at shows whole is ∙ ap (picked (all_of lists) at) (sym (same at is)))

-- a target of pending pairs is written
pub shows-placed : (g : Geom) (sectors image : List Sector) (slot at : ℕ) (pairs : List Pair) (s : Sector) → slot < g.slots
    → ((n : ℕ) (qs : List Pair) → n < g.slots → ArePending g sectors n qs → ArePending g (slice_set sectors at s) n qs)
    → ArePending g sectors slot pairs → is_target pairs at ≡ true → Shows g sectors image → Shows g (slice_set sectors at s) image
shows-placed g sectors image slot at pairs s within kept are target shows =
    let lists : List (List Pair) = shows.is_logical.pairs in
    let all = shows.is_logical.all_pending in
    let here : get_or lists slot [] ≡ pairs = pending_once g sectors slot (get_or lists slot []) pairs (all.pending slot within) are in
    let among : is_target (all_of lists) at ≡ true = target-among lists slot at (ap (λ ps. is_target ps at) here ∙ target) in
    record {
      logical = shows.logical;
      is_logical = record {
        pairs = lists;
        all_pending = record { one_each = all.one_each; pending = λ n inside. kept n (get_or lists n []) inside (all.pending n inside) };
        laid = shows.is_logical.laid
            ∙ sym (ap (λ front. laid_over front (all_of lists)) (take-set (blocks_at g) sectors at s) ∙ written_in_place (front_of g sectors) (all_of lists) at s among);
      };
      same = shows.same;
    }

-- Steps of one slot

module _ (g : Geom) (sectors sectors' image : List Sector) (slot : ℕ) (before later : List Pair) (within : slot < g.slots)
    (whole : blocks_at g ≤ length sectors) (whole' : blocks_at g ≤ length sectors') (same : SameMetadata g sectors sectors')
    (others : (n : ℕ) (pairs : List Pair) → n < g.slots → n ≢ slot → ArePending g sectors n pairs → ArePending g sectors' n pairs)
    (was : ArePending g sectors slot before) (is : ArePending g sectors' slot later) (shows : Shows g sectors image) where
  abbrev lists : List (List Pair)
  lists = shows.is_logical.pairs

  abbrev lists' : List (List Pair)
  lists' = slice_set lists slot later

  count : length lists ≡ g.slots
  count = shows.is_logical.all_pending.one_each

  here : get_or lists slot [] ≡ before
  here = pending_once g sectors slot (get_or lists slot []) before (shows.is_logical.all_pending.pending slot within) was

  here' : get_or lists' slot [] ≡ later
  here' = get_or-set_same lists slot later [] (omega (arith, within, count))

  elsewhere : (n : ℕ) → n ≢ slot → get_or lists' n [] ≡ get_or lists n []
  elsewhere n apart = get_or-set_other lists slot n later [] apart

  pending' : AreAllPending g sectors' lists'
  pending' = record {
    one_each = length-set lists slot later ∙ count;
    pending = λ n inside. elim (cases_eq n slot) [
      | inl same_slot ↦ subst (λ k. ArePending g sectors' k (get_or lists' k [])) (sym same_slot) (subst (λ (ps : List Pair). ArePending g sectors' slot ps) (sym here') is)
      | inr apart ↦
          subst (λ (ps : List Pair). ArePending g sectors' n ps) (sym (elsewhere n apart))
          (others n (get_or lists n []) inside apart (shows.is_logical.all_pending.pending n inside))
    ];
  }

  -- a sector for which the slot has no pair, neither before nor later
  put-same : (at : ℕ) → IsMetadata g at → is_target before at ≡ false → is_target later at ≡ false
      → slice_get image at ≡ picked (all_of lists') at (slice_get sectors' at)
  put-same at is_metadata clear clear' =
      shown-at g sectors image at shows whole is_metadata
      ∙ ap (picked (all_of lists) at) (sym (same at is_metadata))
      ∙ sym (picked-put lists slot later at (slice_get sectors' at) (ap (λ ps. is_target ps at) here ∙ clear) clear')

  -- a sector for which no other slot has a pair
  module _ (at : ℕ) (is_metadata : IsMetadata g at) (alone : (n : ℕ) → n ≢ slot → is_target (get_or lists n []) at ≡ false) where
    alone-before : slice_get image at ≡ picked before at (slice_get sectors at)
    alone-before =
        shown-at g sectors image at shows whole is_metadata
        ∙ picked-by_one lists slot at (slice_get sectors at) alone
        ∙ ap (λ ps. picked ps at (slice_get sectors at)) here

    alone-later : picked (all_of lists') at (slice_get sectors' at) ≡ picked later at (slice_get sectors at)
    alone-later =
        picked-by_one lists' slot at (slice_get sectors' at) (λ n apart. ap (λ ps. is_target ps at) (elsewhere n apart) ∙ alone n apart)
        ∙ ap (λ ps. picked ps at (slice_get sectors' at)) here'
        ∙ ap (picked later at) (same at is_metadata)

  -- no other slot has a pair for a sector for which the slot's pairs that stand apart have one
  alone-by : (pairs : List Pair) → AreApart g sectors slot pairs → (at : ℕ) → is_target pairs at ≡ true → (n : ℕ) → n ≢ slot
      → is_target (get_or lists n []) at ≡ false
  alone-by pairs apart at mine n other = elim (cases_lt n (length lists)) [
    | inl below ↦
        let inside : n < g.slots = omega (arith, below, count) in
        elim (cases_Bool (is_target (get_or lists n []) at)) [
          | inl theirs ↦ absurd (apart n (get_or lists n []) at inside other (shows.is_logical.all_pending.pending n inside) mine theirs)
          | inr clear ↦ clear
        ]
    | inr past ↦ ap (λ ps. is_target ps at) (get_or_past lists n [] past)
  ]

-- a slot's pairs become pending: they are laid over the image
pub shows-committed : (g : Geom) (sectors sectors' image : List Sector) (slot : ℕ) (redo : List Pair) → slot < g.slots
    → blocks_at g ≤ length sectors → blocks_at g ≤ length sectors' → blocks_at g ≤ length image → SameMetadata g sectors sectors'
    → ((n : ℕ) (pairs : List Pair) → n < g.slots → n ≢ slot → ArePending g sectors n pairs → ArePending g sectors' n pairs)
    → ArePending g sectors slot [] → ArePending g sectors' slot redo → AreApart g sectors slot redo
    → Shows g sectors image → Shows g sectors' (laid_over image redo)
shows-committed g sectors sectors' image slot redo within whole whole' wide same others was is apart shows =
    shows-from g sectors' (laid_over image redo) (lists' g sectors sectors' image slot [] redo within whole whole' same others was is shows)
    (pending' g sectors sectors' image slot [] redo within whole whole' same others was is shows) whole'
    (λ at is_metadata.
    let laid : slice_get (laid_over image redo) at ≡ picked redo at (slice_get image at) =
    laid_get image redo at (omega (arith, metadata-before_blocks g at is_metadata, wide)) in
    elim (cases_Bool (is_target redo at)) [
      | inl mine ↦
          let alone = alone-by g sectors sectors' image slot [] redo within whole whole' same others was is shows redo apart at mine in
          laid
          ∙ ap (picked redo at) (alone-before g sectors sectors' image slot [] redo within whole whole' same others was is shows at is_metadata alone)
          ∙ sym (alone-later g sectors sectors' image slot [] redo within whole whole' same others was is shows at is_metadata alone)
      | inr clear ↦
          laid ∙ picked-none redo at (slice_get image at) clear
          ∙ put-same g sectors sectors' image slot [] redo within whole whole' same others was is shows at is_metadata refl clear
    ])

-- a slot's pairs that stand at their sectors are pending no more: the image stays
pub shows-retired : (g : Geom) (sectors sectors' image : List Sector) (slot : ℕ) (redo : List Pair) → slot < g.slots
    → blocks_at g ≤ length sectors → blocks_at g ≤ length sectors' → SameMetadata g sectors sectors'
    → ((n : ℕ) (pairs : List Pair) → n < g.slots → n ≢ slot → ArePending g sectors n pairs → ArePending g sectors' n pairs)
    → ArePending g sectors slot redo → ArePending g sectors' slot [] → AreInPlace sectors redo → AreApart g sectors slot redo
    → Shows g sectors image → Shows g sectors' image
shows-retired g sectors sectors' image slot redo within whole whole' same others was is stand apart shows =
    shows-from g sectors' image (lists' g sectors sectors' image slot redo [] within whole whole' same others was is shows)
    (pending' g sectors sectors' image slot redo [] within whole whole' same others was is shows) whole'
    (λ at is_metadata. elim (cases_Bool (is_target redo at)) [
      | inl mine ↦
          let alone = alone-by g sectors sectors' image slot redo [] within whole whole' same others was is shows redo apart at mine in
          alone-before g sectors sectors' image slot redo [] within whole whole' same others was is shows at is_metadata alone
          ∙ picked-in_place sectors redo at stand
          ∙ sym (alone-later g sectors sectors' image slot redo [] within whole whole' same others was is shows at is_metadata alone)
      | inr clear ↦ put-same g sectors sectors' image slot redo [] within whole whole' same others was is shows at is_metadata clear refl
    ])
