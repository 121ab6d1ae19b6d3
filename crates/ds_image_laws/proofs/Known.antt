-- What a call knows of an image stays true when others change the image under their own locks.
use Rattle.std.proofs.Common.{◌≡◌, ℕ, ◌==◌, ◌||◌, Bool, true, false, if◌then◌else◌, List, [], ◌∷◌, slice_get, slice_set, Option, Some, None, refl, sym, ap, subst, ◌∙◌, inl, inr, ◌⊎◌, ne_eqb}
use Rattle.std.specs.Prelude.{All}
use Rattle.std.specs.Option.{option_or}
use Rattle.std.specs.List.{list_any}
use Rattle.std.proofs.lemmas.Bool.{cases_Bool, cases_eq, false≢true}
use Rattle.std.proofs.lemmas.List.Folds.{list_any-append}
use Rattle.std.proofs.lemmas.Option.{same_Some}
use Rattle.ds_base.specs.Geometry.{IsGeom}
use Rattle.ds_base.specs.declared.geometry.Geom.{Geom}
use Rattle.ds_base.specs.declared.names.Key.{Key}
use Rattle.ds_base.specs.declared.sectors.Sector.{Sector}
use Rattle.ds_tree.specs.Nodes.{FileTree}
use Rattle.ds_tree.specs.declared.calls.CallOf.{CallOf}
use Rattle.ds_tree.specs.declared.calls.TreeReply.{TreeReply}
use Rattle.ds_image_parts.proofs.Journaling.LaidOver.{slice_get-set_other}
use Rattle.ds_image.specs.Guards.{GuardedBy, IsGuard}
use Rattle.ds_image.specs.SeenValues.{HoldsLock, SeenValue, has_lock, look_of, sector_in, with_lock, with_sector}
use Rattle.ds_image.specs.Asking.{targets_of, IsGuarded, IsReadable, IsRightChange, Keeps}
use Rattle.ds_image_parts.specs.Logical.{laid_over}
use Rattle.ds_image_parts.specs.Looks.{Look}
use Rattle.ds_image_parts.specs.Parts.{Parts}
use Rattle.ds_image_parts.specs.Pending.{Pair}
use Rattle.ds_image.specs.Planning.{Answers, AllKeep}
use Rattle.ds_image_parts.specs.Readings.{ReadsParts}
use Rattle.ds_image.specs.Sound.{StandsFor}
use Rattle.ds_image.specs.declared.asks.Ask.TheVariants.{Change}
use Rattle.ds_jrnl.specs.declared.redo.Redo.{Redo}
use Rattle.ds_image.proofs.Seeing.{sector_in-append}
use Rattle.ds_image_laws.specs.Kept.{Knows, is_target}
use Rattle.ds_image_laws.proofs.KeptGuards.{guard-kept}
use Rattle.ds_image_laws.proofs.OneGuard.{guard-once}
use Rattle.ds_image_laws.proofs.PickedPairs.{target-holds, target-later, target-first}
use Rattle.ds_image_laws.proofs.Apart.{AgreeOutside, IsLeft}

-- Pairs whose targets others hold

pub laid-elsewhere : (image : List Sector) (pairs : List Pair) (at : ℕ) → is_target pairs at ≡ false → slice_get (laid_over image pairs) at ≡ slice_get image at
laid-elsewhere image [] at none = refl
laid-elsewhere image (pair ∷ pairs) at none = elim (cases_eq pair.0 at) [
  | inl here ↦ absurd (false≢true (sym none ∙ target-first pair pairs at here))
  | inr apart ↦
      laid-elsewhere (slice_set image pair.0 pair.1) pairs at (sym (target-later pair pairs at apart) ∙ none)
      ∙ slice_get-set_other image pair.0 at pair.1 apart
]

-- a sector that an object of nobody else protects is no target
pub not-target : (g : Geom) (look : Look) (Others : ℕ → Type 0) (pairs : List Pair) (at object : ℕ) → IsGeom g
    → All (GuardedBy g look Others) (targets_of pairs) → IsGuard g look at object → ¬ Others object → is_target pairs at ≡ false
not-target g look Others pairs at object is theirs guard free = elim (cases_Bool (is_target pairs at)) [
  | inl target ↦
      let held : GuardedBy g look Others at = target-holds (GuardedBy g look Others) pairs at theirs target in
      absurd (free (subst Others (guard-once g look at held.object object is held.guards guard) held.held))
  | inr clear ↦ clear
]

-- so pairs whose targets others hold before change nothing else
pub laid-outside : (g : Geom) (Others : ℕ → Type 0) (image : List Sector) (pairs : List Pair) → IsGeom g
    → All (GuardedBy g (slice_get image) Others) (targets_of pairs) → AgreeOutside g Others image (laid_over image pairs)
laid-outside g Others image pairs is theirs at object guard free =
    laid-elsewhere image pairs at (not-target g (slice_get image) Others pairs at object is theirs guard free)

-- and, where others hold the targets afterwards, nothing else was changed
pub laid-outside_back : (g : Geom) (Others : ℕ → Type 0) (image : List Sector) (pairs : List Pair) → IsGeom g
    → All (GuardedBy g (slice_get (laid_over image pairs)) Others) (targets_of pairs) → AgreeOutside g Others (laid_over image pairs) image
laid-outside_back g Others image pairs is theirs at object guard free =
    sym (laid-elsewhere image pairs at (not-target g (slice_get (laid_over image pairs)) Others pairs at object is theirs guard free))

-- A sector that an object of nobody else protects before or after is left

module _ (g : Geom) (is : IsGeom g) (image : List Sector) (pairs : List Pair) {t u : FileTree} (Others : ℕ → Type 0) (stands : StandsFor g image t)
    (stands' : StandsFor g (laid_over image pairs) u) (at object : ℕ) (free : ¬ Others object) where
  pub left-by_guard_before : All (GuardedBy g (slice_get image) Others) (targets_of pairs) → IsGuard g (slice_get image) at object → IsLeft g image pairs at object
  left-by_guard_before theirs guard =
      let clear = not-target g (slice_get image) Others pairs at object is theirs guard free in
      record {
        no_target = clear;
        same = laid-elsewhere image pairs at clear;
        before = guard;
        after = guard-kept g image (laid_over image pairs) Others at object stands stands' (laid-outside g Others image pairs is theirs) free guard;
      }

  pub left-by_guard_after : All (GuardedBy g (slice_get (laid_over image pairs)) Others) (targets_of pairs) → IsGuard g (slice_get (laid_over image pairs)) at object
      → IsLeft g image pairs at object
  left-by_guard_after theirs guard =
      let clear = not-target g (slice_get (laid_over image pairs)) Others pairs at object is theirs guard free in
      record {
        no_target = clear;
        same = laid-elsewhere image pairs at clear;
        before = guard-kept g (laid_over image pairs) image Others at object stands' stands (laid-outside_back g Others image pairs is theirs) free guard;
        after = guard;
      }

-- What is known

pub guarded-as : (g : Geom) (look : Look) (Held Then : ℕ → Type 0) (at : ℕ) → ((object : ℕ) → Held object → Then object) → GuardedBy g look Held at
    → GuardedBy g look Then at
guarded-as g look Held Then at to guard = record { object = guard.object; guards = guard.guards; held = to guard.object guard.held }

-- the lock object of a sector that others don't hold stays the sector's
pub guarded-kept : (g : Geom) (image after : List Sector) {t u : FileTree} (Held Others : ℕ → Type 0) (at : ℕ) → StandsFor g image t → StandsFor g after u
    → AgreeOutside g Others image after → ((object : ℕ) → Held object → ¬ Others object) → GuardedBy g (slice_get image) Held at → GuardedBy g (slice_get after) Held at
guarded-kept g image after Held Others at before later same apart guard = record {
  object = guard.object;
  guards = guard-kept g image after Others at guard.object before later same (apart guard.object guard.held) guard.guards;
  held = guard.held;
}

pub knows-kept : (g : Geom) (image after : List Sector) {t u : FileTree} (Held Others : ℕ → Type 0) (look : Look) → StandsFor g image t → StandsFor g after u
    → AgreeOutside g Others image after → ((object : ℕ) → Held object → ¬ Others object) → Knows g Held look image → Knows g Held look after
knows-kept g image after Held Others look before later same apart knows = record {
  agrees = λ at s known.
      let guard = knows.guarded at s known in
      same at guard.object guard.guards (apart guard.object guard.held) ∙ knows.agrees at s known;
  guarded = λ at s known. guarded-kept g image after Held Others at before later same apart (knows.guarded at s known);
}

-- so what a call has seen still agrees, and its locks still protect it, where others change what they protect
pub seen-kept : (g : Geom) (is : IsGeom g) (image : List Sector) (pairs : List Pair) {t u : FileTree} (seen : SeenValue) (Others : ℕ → Type 0)
    → StandsFor g image t → StandsFor g (laid_over image pairs) u → All (GuardedBy g (slice_get image) Others) (targets_of pairs)
    → ((object : ℕ) → has_lock seen object ≡ true → ¬ Others object) → Knows g (HoldsLock seen) (look_of seen) image
    → Knows g (HoldsLock seen) (look_of seen) (laid_over image pairs)
seen-kept g is image pairs seen Others stands stands' theirs apart =
    knows-kept g image (laid_over image pairs) (HoldsLock seen) Others (look_of seen) stands stands' (laid-outside g Others image pairs is theirs) apart

-- One more lock, and one more sector

pub has_lock-more : (seen : SeenValue) (object other : ℕ) → has_lock seen other ≡ true → has_lock (with_lock seen object) other ≡ true
has_lock-more seen object other held =
    list_any-append (λ x. x == other) seen.locks (object ∷ []) ∙ ap (λ b. b || list_any (λ x. x == other) (object ∷ [])) held

-- a lock that it holds then is the new one, or one that it held
pub has_lock-cases : (seen : SeenValue) (object other : ℕ) → has_lock (with_lock seen object) other ≡ true → (has_lock seen other ≡ true) ⊎ (object ≡ other)
has_lock-cases seen object other held = elim (cases_eq object other) [
  | inl same ↦ inr same
  | inr apart ↦
      let last : list_any (λ x. x == other) (object ∷ []) ≡ false = ap (λ b. b || false) (ne_eqb object other apart) in
      inl (sym (or-false (has_lock seen other)) ∙ ap (λ b. has_lock seen other || b) (sym last) ∙ sym (list_any-append (λ x. x == other) seen.locks (object ∷ [])) ∙ held)
]
  where
    or-false : (b : Bool) → (b || false) ≡ b
    or-false true = refl
    or-false false = refl

pub knows-start : (g : Geom) (Held : ℕ → Type 0) (locks : List ℕ) (image : List Sector) → Knows g Held (look_of (record { locks = locks; sectors = [] })) image
knows-start g Held locks image = record { agrees = λ at s known. absurd (cc); guarded = λ at s known. absurd (cc) }

pub knows-locked : (g : Geom) (seen : SeenValue) (object : ℕ) (image : List Sector) → Knows g (HoldsLock seen) (look_of seen) image
    → Knows g (HoldsLock (with_lock seen object)) (look_of (with_lock seen object)) image
knows-locked g seen object image knows = record {
  agrees = knows.agrees;
  guarded = λ at s known. guarded-as g (slice_get image) (HoldsLock seen) (HoldsLock (with_lock seen object)) at (has_lock-more seen object) (knows.guarded at s known);
}

one-seen : (at k : ℕ) (s u : Sector) (b : Bool) → (at == k) ≡ b → (if b then Some s else None) ≡ Some u → (at ≡ k) × (s ≡ u)
one-seen at k s u false is got = absurd (cc)
one-seen at k s u true is got = elim (cases_eq at k) [
  | inl same ↦ (same, same_Some s u got)
  | inr apart ↦ absurd (false≢true (sym (ne_eqb at k apart) ∙ is))
]

seen-or : (first other : Option Sector) (u : Sector) → option_or first other ≡ Some u → (first ≡ Some u) ⊎ (other ≡ Some u)
seen-or None other u got = inr got
seen-or (Some v) other u got = inl got

-- a sector that may be read, and is read as the image has it
pub knows-read : (g : Geom) (seen : SeenValue) (at : ℕ) (s : Sector) (image : List Sector) (t : FileTree) → StandsFor g image t → IsReadable g seen at
    → slice_get image at ≡ Some s → Knows g (HoldsLock seen) (look_of seen) image
    → Knows g (HoldsLock (with_sector seen at s)) (look_of (with_sector seen at s)) image
knows-read g seen at s image t stands readable there knows =
    let guarded = readable.guarded image t stands knows.agrees in
    let split : (k : ℕ) (u : Sector) → look_of (with_sector seen at s) k ≡ Some u → (look_of seen k ≡ Some u) ⊎ ((at ≡ k) × (s ≡ u)) =
    λ k u known. elim (seen-or (sector_in seen.sectors k) (sector_in ((at, s) ∷ []) k) u (sym (sector_in-append seen.sectors ((at, s) ∷ []) k) ∙ known)) [
      | inl old ↦ inl old
      | inr new ↦ inr (one-seen at k s u (at == k) refl new)
    ] in
    record {
      agrees = λ k u known. elim (split k u known) [
        | inl old ↦ knows.agrees k u old
        | inr new ↦ subst (λ n. slice_get image n ≡ Some u) new.0 (there ∙ ap Some new.1)
      ];
      guarded = λ k u known. elim (split k u known) [
        | inl old ↦ knows.guarded k u old
        | inr new ↦ subst (GuardedBy g (slice_get image) (HoldsLock seen)) new.0 guarded
      ];
    }

-- The planner's answer, at any image that holds what was seen

pub own-change : (g : Geom) (call : CallOf Key) (answers : Answers) (seen : SeenValue) (p : Parts) (redo : Redo) (reply : TreeReply) (image : List Sector) (t : FileTree)
    → AllKeep g call answers → ReadsParts g (look_of seen) p → answers seen p ≡ Change redo reply → StandsFor g image t → Knows g (HoldsLock seen) (look_of seen) image
    → IsRightChange g call seen image t redo.pairs.items reply
own-change g call answers seen p redo reply image t law reads answered stands knows =
    (subst (Keeps g call seen p) answered (law seen p reads)).right image t stands knows.agrees

-- targets whose guards the call holds are guarded by those that it holds
pub all-guarded : (g : Geom) (seen : SeenValue) (image : List Sector) (Held : ℕ → Type 0) (targets : List ℕ) → ((object : ℕ) → HoldsLock seen object → Held object)
    → All (IsGuarded g seen image) targets → All (GuardedBy g (slice_get image) Held) targets
all-guarded g seen image Held targets to all k d within = guarded-as g (slice_get image) (HoldsLock seen) Held _ to (all k d within)
