-- What a call under way knows stays true at every step of others, and what it is answered is right when it commits or answers.
use Rattle.std.proofs.Common.{◌≡◌, ◌≢◌, ℕ, ◌<◌, ◌≤◌, true, List, [], length, slice_get, slice_set, Some, None, refl, sym, ap, subst, ◌∙◌, inl, inr, length-take-le, arith}
use Rattle.std.specs.Prelude.{All}
use Rattle.std.proofs.lemmas.List.Elements.{All-nil}
use Rattle.ds_base.specs.Decoding.{IsDecoded}
use Rattle.ds_base.specs.Geometry.{IsGeom}
use Rattle.ds_base.specs.declared.geometry.Geom.{Geom}
use Rattle.ds_base.specs.declared.names.Key.{Key}
use Rattle.ds_base.specs.declared.sectors.Sector.{Sector}
use Rattle.ds_jrnl.specs.declared.redo.Redo.{Redo}
use Rattle.ds_tree.specs.Nodes.{FileTree}
use Rattle.ds_tree.specs.Steps.{Does}
use Rattle.ds_tree.specs.declared.calls.CallOf.{CallOf}
use Rattle.ds_tree.specs.declared.calls.TreeReply.{TreeReply}
use Rattle.ds_layout.specs.Places.{blocks_at, IsPlace, place_sector}
use Rattle.ds_layout.specs.declared.places.Place.{Place}
use Rattle.ds_layout.specs.declared.places.Place.TheVariants as places
use Rattle.ds_marks.specs.declared.header.Header.{Header}
use Rattle.ds_marks.specs.declared.slot.Slot.{Slot}
use Rattle.ds_image.specs.Guards.{GuardedBy, IsGuard}
use Rattle.ds_image.specs.SeenValues.{HoldsLock, SeenValue, look_of, with_lock, with_sector}
use Rattle.ds_image.specs.Asking.{targets_of, IsReadable, Keeps}
use Rattle.ds_image_parts.specs.Logical.{laid_over, IsLogical}
use Rattle.ds_image_parts.specs.Looks.{Look}
use Rattle.ds_layout.specs.Metadata.{front_of}
use Rattle.ds_image_parts.specs.Parts.{Parts}
use Rattle.ds_image_parts.specs.Pending.{Pair, ArePending}
use Rattle.ds_image.specs.Planning.{Answers, AllKeep}
use Rattle.ds_image_parts.specs.Readings.{ReadsParts, SpellsSlot}
use Rattle.ds_image.specs.Sound.{StandsFor}
use Rattle.ds_image.specs.declared.asks.Ask.TheVariants.{Odd, Done, Change}
use Rattle.ds_image_parts.proofs.Journaling.LaidOver.{length-laid_over}
use Rattle.ds_image_parts.proofs.Journaling.OneLogical.{logical_once, pending_once}
use Rattle.ds_image_laws.specs.Calls.{CallKnows, Commits}
use Rattle.ds_image_laws.specs.Kept.{Knows, is_target}
use Rattle.ds_image_laws.specs.Owners.{Names}
use Rattle.ds_image_laws.specs.Shown.{IsIdle, MakesImage, HoldsImage}
use Rattle.ds_image_laws.proofs.Images.{held-stands, unowned-stands, committed-known}
use Rattle.ds_image_laws.proofs.KeptPending.{idle-pending}
use Rattle.ds_image_laws.proofs.Known.{has_lock-cases, own-change, all-guarded, knows-locked, knows-read}
use Rattle.ds_image_laws.proofs.OneGuard.{guard-once}
use Rattle.ds_image_laws.proofs.Owners.{owners-apart, names-kept, names-renewed, header-once}
use Rattle.ds_image_laws.proofs.PickedPairs.{all_of, target-holds}
use Rattle.ds_image_laws.proofs.SameImages.{guard-same, logical-stands, shows-logical}
use Rattle.ds_image_laws.proofs.Apart.{IsUnowned}

-- The image at the beginning, and the logical image at any time

-- no slot has pending pairs
pub holds-start : (g : Geom) (sectors image : List Sector) (N : ℕ → ℕ → Type 0) (t : FileTree) → IsLogical g sectors image → StandsFor g image t
    → ((n : ℕ) → n < g.slots → IsIdle g sectors n) → HoldsImage g sectors N image t
holds-start g sectors image N t logical stands idle = record {
  shows = shows-logical g sectors image logical;
  stands = stands;
  guarded = λ n pairs within are.
      subst (λ (ps : List Pair). All (GuardedBy g (slice_get image) (N n)) (targets_of ps))
      (pending_once g sectors n [] pairs (idle-pending g sectors n (idle n within)) are) (All-nil (GuardedBy g (slice_get image) (N n)));
}

module _ (g : Geom) (is : IsGeom g) (sectors image : List Sector) (t : FileTree) (whole : blocks_at g ≤ length sectors)
    (holds : HoldsImage g sectors (Names g sectors) image t) where
  -- the store has a logical image, and it stands for the tree
  pub logical-there : (logical : List Sector) × IsLogical g sectors logical × StandsFor g logical t
  logical-there =
      let logical : List Sector = holds.shows.logical in
      let wide : blocks_at g ≤ length logical =
      subst (λ (l : List Sector). blocks_at g ≤ length l) (sym holds.shows.is_logical.laid)
      (omega (arith, length-laid_over (front_of g sectors) (all_of holds.shows.is_logical.pairs), length-take-le (blocks_at g) sectors whole)) in
      (logical, holds.shows.is_logical, logical-stands g sectors image logical t holds.shows holds.shows.is_logical wide holds.stands)

  -- guards in the logical image are those in the image that shows it
  pub guard-shown : (logical : List Sector) (at object : ℕ) → IsLogical g sectors logical → IsGuard g (slice_get logical) at object → IsGuard g (slice_get image) at object
  guard-shown logical at object is_logical guard =
      let one : holds.shows.logical ≡ logical = logical_once g sectors holds.shows.logical logical holds.shows.is_logical is_logical in
      guard-same g logical image (λ k metadata. holds.shows.same k metadata ∙ ap (λ (l : List Sector). slice_get l k) one) at object guard

  -- while pairs are pending the header of each target's guard names their slot
  pub pending-guarded : (logical : List Sector) (n : ℕ) (pairs : List Pair) (at object : ℕ) → n < g.slots → IsLogical g sectors logical
      → ArePending g sectors n pairs → is_target pairs at ≡ true → IsGuard g (slice_get logical) at object → Names g sectors n object
  pending-guarded logical n pairs at object within is_logical are target guard =
      let held = target-holds (GuardedBy g (slice_get image) (Names g sectors n)) pairs at (holds.guarded n pairs within are) target in
      subst (Names g sectors n) (guard-once g (slice_get image) at held.object object is held.guards (guard-shown logical at object is_logical guard)) held.held

  -- A call under way

  module _ (number : ℕ) (seen : SeenValue) (call : CallKnows g sectors image number seen) where
    -- a write of neither the slot nor the header of a lock that it holds
    pub call-elsewhere : (place : Place) (inside : IsPlace g place) (s : Sector) → places.Slot number ≢ place
        → ((object : ℕ) → HoldsLock seen object → places.Header object ≢ place) → CallKnows g (slice_set sectors (place_sector g place) s) image number seen
    call-elsewhere place inside s slot header = record {
      locks = λ object held. names-kept g is sectors place inside s number object slot (header object held) (call.locks object held);
      knows = call.knows;
    }

    -- the own slot in the same generation
    pub call-renewed : (within : number < g.slots) (s : Sector) (old new : Slot) → IsDecoded (Some old) (SpellsSlot g (slice_get sectors) number)
        → IsDecoded (Some new) (SpellsSlot g (slice_get (slice_set sectors (place_sector g (places.Slot number)) s)) number) → new.generation ≡ old.generation
        → CallKnows g (slice_set sectors (place_sector g (places.Slot number)) s) image number seen
    call-renewed within s old new was now same = record {
      locks = λ object held. names-renewed g is sectors number object s old new within was now same (call.locks object held);
      knows = call.knows;
    }

    -- a commit of another slot
    pub call-committed : (slot : ℕ) (inside : slot < g.slots) (s : Sector) (redo : List Pair) (u : FileTree) → number ≢ slot → MakesImage g (Names g sectors slot) image redo u
        → CallKnows g (slice_set sectors (place_sector g (places.Slot slot)) s) (laid_over image redo) number seen
    call-committed slot inside s redo u apart change = record {
      locks = λ object held. names-kept g is sectors (places.Slot slot) inside s number object (λ e. apart (let same : number ≡ slot = cc in same)) (λ e. absurd (cc)) (call.locks object held);
      knows = committed-known g is sectors image (Names g sectors) t holds (owners-apart g sectors) slot redo u change (HoldsLock seen) (look_of seen)
          (λ object held theirs. apart (owners-apart g sectors number slot object (call.locks object held) theirs)) call.knows;
    }

    -- its own Read, while its slot is idle
    pub call-read : (at : ℕ) (s : Sector) → IsIdle g sectors number → IsReadable g seen at → slice_get sectors at ≡ Some s
        → CallKnows g sectors image number (with_sector seen at s)
    call-read at s idle readable got =
        let guarded = readable.guarded image t holds.stands call.knows.agrees in
        let guard : GuardedBy g (slice_get image) (Names g sectors number) at =
        record { object = guarded.object; guards = guarded.guards; held = call.locks guarded.object guarded.held } in
        let stands : slice_get image at ≡ slice_get sectors at =
        held-stands g is sectors image (Names g sectors) t holds (owners-apart g sectors) number at [] whole (idle-pending g sectors number idle) refl guard in
        record {
          locks = call.locks;
          knows = knows-read g seen at s image t holds.stands readable (stands ∙ got) call.knows;
        }

    -- one more lock, once its header names the slot
    pub call-locked : (object : ℕ) → Names g sectors number object → CallKnows g sectors image number (with_lock seen object)
    call-locked object names = record {
      locks = λ other held. elim (has_lock-cases seen object other held) [
        | inl old ↦ call.locks other old
        | inr same ↦ subst (Names g sectors number) same names
      ];
      knows = knows-locked g seen object image call.knows;
    }

    -- the planner's answers, by what was seen whenever that was

    module _ (asked : CallOf Key) (answers : Answers) (law : AllKeep g asked answers) (p : Parts) (reads : ReadsParts g (look_of seen) p) where
      pub call-change : (redo : Redo) (reply : TreeReply) → answers seen p ≡ Change redo reply → Commits g sectors image t number asked redo.pairs.items reply
      call-change redo reply answered =
          let right = own-change g asked answers seen p redo reply image t law reads answered holds.stands call.knows in
          record {
            u = right.u;
            change = record { does = right.does; unrefused = right.unrefused; changes = right.changes; next_life = right.next_life };
            lays = record {
              stands = right.stands;
              before = all-guarded g seen image (Names g sectors number) (targets_of redo.pairs.items) call.locks right.before;
              after = all-guarded g seen (laid_over image redo.pairs.items) (Names g sectors number) (targets_of redo.pairs.items) call.locks right.after;
            };
          }

      pub call-done : (reply : TreeReply) → answers seen p ≡ Done reply → Does g t asked reply t
      call-done reply answered = (subst (Keeps g asked seen p) answered (law seen p reads)).right image t holds.stands call.knows.agrees

      pub call-never_odd : (at : ℕ) → answers seen p ≢ Odd at
      call-never_odd at answered = (subst (Keeps g asked seen p) answered (law seen p reads)).right image t holds.stands call.knows.agrees

  -- What is noted of an object that nobody owns

  pub unowned-names : (object : ℕ) → IsUnowned g sectors object → (n : ℕ) → ¬ Names g sectors n object
  unowned-names object unowned n names =
      let header : unowned.header ≡ names.header = header-once g (slice_get sectors) object unowned.header names.header unowned.spells names.spells in
      let wrong : None ≡ Some names.owner = sym unowned.none ∙ ap (λ (h : Header). h.owner) header ∙ names.owned in
      absurd (cc)

  -- a commit leaves what is known under objects that nobody owns
  pub noted-committed : (Held : ℕ → Type 0) (look : Look) (slot : ℕ) (redo : List Pair) (u : FileTree) → ((object : ℕ) → Held object → IsUnowned g sectors object)
      → MakesImage g (Names g sectors slot) image redo u → Knows g Held look image → Knows g Held look (laid_over image redo)
  noted-committed Held look slot redo u unowned change knows =
      committed-known g is sectors image (Names g sectors) t holds (owners-apart g sectors) slot redo u change Held look
      (λ object held. unowned-names object (unowned object held) slot) knows

  -- a Read under such objects
  pub noted-read : (seen : SeenValue) (at : ℕ) (s : Sector) → ((object : ℕ) → HoldsLock seen object → IsUnowned g sectors object) → IsReadable g seen at
      → slice_get sectors at ≡ Some s → Knows g (HoldsLock seen) (look_of seen) image → Knows g (HoldsLock (with_sector seen at s)) (look_of (with_sector seen at s)) image
  noted-read seen at s unowned readable got knows =
      let guarded = readable.guarded image t holds.stands knows.agrees in
      let stands : slice_get image at ≡ slice_get sectors at =
      unowned-stands g is sectors image (Names g sectors) t holds (owners-apart g sectors) at guarded.object whole
      (unowned-names guarded.object (unowned guarded.object guarded.held)) guarded.guards in
      knows-read g seen at s image t holds.stands readable (stands ∙ got) knows
