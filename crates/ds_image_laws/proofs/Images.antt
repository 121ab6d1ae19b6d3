-- The image of a store under its steps: a commit makes another of it, and every other step leaves it.
use Rattle.std.proofs.Common.{◌≡◌, ◌≢◌, ℕ, ◌<◌, ◌≤◌, true, false, List, [], length, get_or, slice_get, slice_set, sym, ap, subst, ◌∙◌, inl, inr, arith}
use Rattle.std.specs.Prelude.{All}
use Rattle.std.proofs.lemmas.Bool.{cases_eq, cases_Bool, false≢true}
use Rattle.ds_base.specs.Geometry.{IsGeom}
use Rattle.ds_base.specs.declared.geometry.Geom.{Geom}
use Rattle.ds_base.specs.declared.sectors.Sector.{Sector}
use Rattle.ds_tree.specs.Nodes.{FileTree}
use Rattle.ds_layout.specs.Places.{blocks_at}
use Rattle.ds_image.specs.Guards.{GuardedBy, IsGuard}
use Rattle.ds_image.specs.Asking.{targets_of}
use Rattle.ds_image_parts.specs.Logical.{laid_over}
use Rattle.ds_image_parts.specs.Looks.{Look}
use Rattle.ds_image_parts.specs.Pending.{Pair, ArePending}
use Rattle.ds_image_parts.proofs.Journaling.OneLogical.{pending_once}
use Rattle.ds_image_laws.specs.Kept.{Knows, is_target}
use Rattle.ds_image_laws.specs.Shown.{SameMetadata, Shows, AreInPlace, MakesImage, HoldsImage}
use Rattle.ds_image_laws.proofs.Known.{laid-outside, guarded-kept, knows-kept}
use Rattle.ds_image_laws.proofs.OneGuard.{guard-once, guard-of_metadata}
use Rattle.ds_image_laws.proofs.PickedPairs.{target-holds, targets-each}
use Rattle.ds_image_laws.proofs.ShownImages.{shows-kept, shows-placed, shows-committed, shows-retired, shown-free}
use Rattle.ds_image_laws.proofs.Apart.{AreApart, AreOwnersApart}

-- What is pending

-- a slot's pending pairs are there, and are kept backwards where they are kept
pub pending-there : (g : Geom) (sectors image : List Sector) (n : ℕ) → n < g.slots → Shows g sectors image → (pairs : List Pair) × ArePending g sectors n pairs
pending-there g sectors image n within shows = (get_or shows.is_logical.pairs n [], shows.is_logical.all_pending.pending n within)

pending-back : (g : Geom) (sectors sectors' image : List Sector) (n : ℕ) (pairs : List Pair) → n < g.slots → Shows g sectors image
    → ((qs : List Pair) → ArePending g sectors n qs → ArePending g sectors' n qs) → ArePending g sectors' n pairs → ArePending g sectors n pairs
pending-back g sectors sectors' image n pairs within shows kept are =
    let there = pending-there g sectors image n within shows in
    subst (λ (ps : List Pair). ArePending g sectors n ps) (pending_once g sectors' n there.0 pairs (kept there.0 there.1) are) there.1

module _ (g : Geom) (is : IsGeom g) (sectors image : List Sector) (Names : ℕ → ℕ → Type 0) (t : FileTree) (holds : HoldsImage g sectors Names image t)
    (apart : AreOwnersApart Names) where
  -- pairs under the lock objects of one slot have no target of another's pending pairs
  pub pairs-apart : (slot : ℕ) (pairs : List Pair) → All (GuardedBy g (slice_get image) (Names slot)) (targets_of pairs) → AreApart g sectors slot pairs
  pairs-apart slot pairs guarded other theirs at within different pending mine theirs_too =
      let one = target-holds (GuardedBy g (slice_get image) (Names slot)) pairs at guarded mine in
      let two = target-holds (GuardedBy g (slice_get image) (Names other)) theirs at (holds.guarded other theirs within pending) theirs_too in
      let same : two.object ≡ one.object = guard-once g (slice_get image) at two.object one.object is two.guards one.guards in
      different (apart other slot one.object (subst (Names other) same two.held) one.held)

  -- a sector whose lock object is of one slot, and no target of its pairs, stands in the store
  pub held-stands : (slot at : ℕ) (pairs : List Pair) → blocks_at g ≤ length sectors → ArePending g sectors slot pairs → is_target pairs at ≡ false
      → GuardedBy g (slice_get image) (Names slot) at → slice_get image at ≡ slice_get sectors at
  held-stands slot at pairs whole are clear guard =
      shown-free g sectors image at whole (guard-of_metadata g (slice_get image) at guard.object guard.guards) holds.shows
      (λ n theirs within pending. elim (cases_Bool (is_target theirs at)) [
        | inl found ↦
            let one = target-holds (GuardedBy g (slice_get image) (Names n)) theirs at (holds.guarded n theirs within pending) found in
            let same : one.object ≡ guard.object = guard-once g (slice_get image) at one.object guard.object is one.guards guard.guards in
            let here : n ≡ slot = apart n slot guard.object (subst (Names n) same one.held) guard.held in
            let mine : theirs ≡ pairs = pending_once g sectors slot theirs pairs (subst (λ k. ArePending g sectors k theirs) here pending) are in
            absurd (false≢true (sym clear ∙ ap (λ ps. is_target ps at) (sym mine) ∙ found))
        | inr free ↦ free
      ])

  -- a sector whose lock object is of no slot stands in the store
  pub unowned-stands : (at object : ℕ) → blocks_at g ≤ length sectors → ((n : ℕ) → ¬ Names n object) → IsGuard g (slice_get image) at object
      → slice_get image at ≡ slice_get sectors at
  unowned-stands at object whole unowned guard =
      shown-free g sectors image at whole (guard-of_metadata g (slice_get image) at object guard) holds.shows
      (λ n theirs within pending. elim (cases_Bool (is_target theirs at)) [
        | inl found ↦
            let one = target-holds (GuardedBy g (slice_get image) (Names n)) theirs at (holds.guarded n theirs within pending) found in
            let same : one.object ≡ object = guard-once g (slice_get image) at one.object object is one.guards guard in
            absurd (unowned n (subst (Names n) same one.held))
        | inr free ↦ free
      ])

  -- A commit

  module _ (slot : ℕ) (redo : List Pair) (u : FileTree) (change : MakesImage g (Names slot) image redo u) where
    -- what others know of the image stays true
    pub committed-known : (Held : ℕ → Type 0) (look : Look) → ((object : ℕ) → Held object → ¬ Names slot object) → Knows g Held look image
        → Knows g Held look (laid_over image redo)
    committed-known Held look free knows =
        knows-kept g image (laid_over image redo) Held (Names slot) look holds.stands change.stands
        (laid-outside g (Names slot) image redo is change.before) free knows

    pub holds-committed : (sectors' : List Sector) → slot < g.slots → blocks_at g ≤ length sectors → blocks_at g ≤ length sectors'
        → SameMetadata g sectors sectors'
        → ((n : ℕ) (pairs : List Pair) → n < g.slots → n ≢ slot → ArePending g sectors n pairs → ArePending g sectors' n pairs)
        → ArePending g sectors slot [] → ArePending g sectors' slot redo → HoldsImage g sectors' Names (laid_over image redo) u
    holds-committed sectors' within whole whole' same others was now = record {
      shows = shows-committed g sectors sectors' image slot redo within whole whole' holds.stands.whole same others was now
          (pairs-apart slot redo change.before) holds.shows;
      stands = change.stands;
      guarded = λ n pairs inside are. elim (cases_eq n slot) [
        | inl here ↦
            let mine : redo ≡ pairs = pending_once g sectors' slot redo pairs now (subst (λ k. ArePending g sectors' k pairs) here are) in
            subst (λ k. All (GuardedBy g (slice_get (laid_over image redo)) (Names k)) (targets_of pairs)) (sym here)
            (subst (λ (ps : List Pair). All (GuardedBy g (slice_get (laid_over image redo)) (Names slot)) (targets_of ps)) mine change.after)
        | inr other ↦
            let before = pending-back g sectors sectors' image n pairs inside holds.shows (λ qs. others n qs inside other) are in
            λ k d small. guarded-kept g image (laid_over image redo) (Names n) (Names slot) _ holds.stands change.stands
            (laid-outside g (Names slot) image redo is change.before) (λ object mine theirs. other (apart n slot object mine theirs))
            (holds.guarded n pairs inside before k d small)
      ];
    }

  -- A retire, or a clear

  pub holds-retired : (sectors' : List Sector) (slot : ℕ) (redo : List Pair) → slot < g.slots → blocks_at g ≤ length sectors → blocks_at g ≤ length sectors'
      → SameMetadata g sectors sectors'
      → ((n : ℕ) (pairs : List Pair) → n < g.slots → n ≢ slot → ArePending g sectors n pairs → ArePending g sectors' n pairs)
      → ArePending g sectors slot redo → ArePending g sectors' slot [] → AreInPlace sectors redo → HoldsImage g sectors' Names image t
  holds-retired sectors' slot redo within whole whole' same others was now stand = record {
    shows = shows-retired g sectors sectors' image slot redo within whole whole' same others was now stand
        (pairs-apart slot redo (holds.guarded slot redo within was)) holds.shows;
    stands = holds.stands;
    guarded = λ n pairs inside are. elim (cases_eq n slot) [
      | inl here ↦
          let none : [] ≡ pairs = pending_once g sectors' slot [] pairs now (subst (λ k. ArePending g sectors' k pairs) here are) in
          subst (λ (ps : List Pair). All (GuardedBy g (slice_get image) (Names n)) (targets_of ps)) none (λ k d small. absurd (omega (arith, small)))
      | inr other ↦ holds.guarded n pairs inside (pending-back g sectors sectors' image n pairs inside holds.shows (λ qs. others n qs inside other) are)
    ];
  }

-- Steps that change no pending pairs

module _ (g : Geom) (sectors sectors' image : List Sector) (Names : ℕ → ℕ → Type 0) (t : FileTree) (holds : HoldsImage g sectors Names image t)
    (kept : (n : ℕ) (pairs : List Pair) → n < g.slots → ArePending g sectors n pairs → ArePending g sectors' n pairs) where
  guarded-still : (n : ℕ) (pairs : List Pair) → n < g.slots → ArePending g sectors' n pairs → All (GuardedBy g (slice_get image) (Names n)) (targets_of pairs)
  guarded-still n pairs within are = holds.guarded n pairs within (pending-back g sectors sectors' image n pairs within holds.shows (λ qs. kept n qs within) are)

  pub holds-kept : blocks_at g ≤ length sectors → blocks_at g ≤ length sectors' → SameMetadata g sectors sectors' → HoldsImage g sectors' Names image t
  holds-kept whole whole' same = record {
    shows = shows-kept g sectors sectors' image whole whole' same kept holds.shows;
    stands = holds.stands;
    guarded = guarded-still;
  }

-- a target of pending pairs is written
pub holds-placed : (g : Geom) (sectors image : List Sector) (Names : ℕ → ℕ → Type 0) (t : FileTree) → HoldsImage g sectors Names image t → (slot at : ℕ) (pairs : List Pair) (s : Sector)
    → slot < g.slots → ((n : ℕ) (qs : List Pair) → n < g.slots → ArePending g sectors n qs → ArePending g (slice_set sectors at s) n qs)
    → ArePending g sectors slot pairs → is_target pairs at ≡ true → HoldsImage g (slice_set sectors at s) Names image t
holds-placed g sectors image Names t holds slot at pairs s within kept are target = record {
  shows = shows-placed g sectors image slot at pairs s within kept are target holds.shows;
  stands = holds.stands;
  guarded = guarded-still g sectors (slice_set sectors at s) image Names t holds kept;
}

-- other lock objects are the slots', but of those that protect pending targets each is still one of its slot
pub holds-renamed : (g : Geom) (sectors image : List Sector) (Names Later : ℕ → ℕ → Type 0) (t : FileTree)
    → ((n object : ℕ) (pairs : List Pair) (at : ℕ) → n < g.slots → ArePending g sectors n pairs → is_target pairs at ≡ true
    → IsGuard g (slice_get image) at object → Names n object → Later n object)
    → HoldsImage g sectors Names image t → HoldsImage g sectors Later image t
holds-renamed g sectors image Names Later t still holds = record {
  shows = holds.shows;
  stands = holds.stands;
  guarded = λ n pairs within are. targets-each (GuardedBy g (slice_get image) (Later n)) pairs (λ at found.
      let one = target-holds (GuardedBy g (slice_get image) (Names n)) pairs at (holds.guarded n pairs within are) found in
      record { object = one.object; guards = one.guards; held = still n one.object pairs at within are found one.guards one.held });
}
