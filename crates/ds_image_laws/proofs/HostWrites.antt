-- The writes of hosts are steps of the image.
use Rattle.std.proofs.Common.{◌≡◌, ℕ, ◌<◌, ◌≤◌, List, length, slice_get, slice_set, Some, None, refl, sym, ap, subst, ◌∙◌, arith}
use Rattle.std.specs.Prelude.{All}
use Rattle.std.proofs.lemmas.List.{length-map}
use Rattle.std.proofs.lemmas.Option.{same_Some}
use Rattle.ds_base.specs.Decoding.{IsDecoded}
use Rattle.ds_base.specs.Geometry.{IsGeom, items_of}
use Rattle.ds_base.specs.declared.geometry.Geom.{Geom}
use Rattle.ds_base.specs.declared.geometry.Kind.TheVariants.{Fb}
use Rattle.ds_base.specs.declared.names.Key.{Key}
use Rattle.ds_base.specs.declared.sectors.Sector.{Sector}
use Rattle.ds_jrnl.specs.declared.redo.Redo.{Redo}
use Rattle.ds_layout.proofs.Bounds.{bounds}
use Rattle.ds_layout.proofs.SamePlace.{place_within}
use Rattle.ds_layout.specs.Places.{blocks_at, total_of, IsLock, place_sector}
use Rattle.ds_layout.specs.declared.places.Place.TheVariants as places
use Rattle.ds_marks.proofs.Slots.{slot_same}
use Rattle.ds_marks.specs.Slot.{IsSlot, slot_bytes}
use Rattle.ds_marks.specs.declared.header.Header.{Header}
use Rattle.ds_marks.specs.declared.header.Owner.{Owner}
use Rattle.ds_marks.specs.declared.slot.Slot.{Slot}
use Rattle.ds_marks.specs.declared.slot.Journal.{Journal}
use Rattle.ds_marks.specs.declared.slot.Journal.TheVariants.{Idle, Committed}
use Rattle.ds_tree.specs.Nodes.{fresh_tree, FileTree}
use Rattle.ds_tree.specs.declared.calls.CallOf.{CallOf}
use Rattle.ds_tree.specs.declared.calls.TreeReply.{TreeReply}
use Rattle.ds_image.specs.Asking.{targets_of, AreTargets, Keeps}
use Rattle.ds_image.specs.Formatted.{IsFormatted, fresh_slot}
use Rattle.ds_image_parts.specs.Logical.{laid_over}
use Rattle.ds_image_parts.specs.Looks.{Look}
use Rattle.ds_layout.specs.Metadata.{IsMetadata, front_of}
use Rattle.ds_image_parts.specs.Parts.{Parts}
use Rattle.ds_image_parts.specs.Pending.{Pair, AreOfJournal}
use Rattle.ds_image.specs.Planning.{Answers, AllKeep}
use Rattle.ds_image_parts.specs.Readings.{ReadsParts, SpellsHeader, SpellsSlot}
use Rattle.ds_image.specs.SeenValues.{SeenValue, look_of}
use Rattle.ds_image.specs.declared.asks.Ask.TheVariants.{Change}
use Rattle.ds_image.proofs.NewVolumes.FreshVolume.{same_bytes, slot_spelled, front_is_logical, fresh_stands}
use Rattle.ds_image_laws.specs.Calls.{CallKnows, Commits}
use Rattle.ds_image_laws.specs.ImageSteps as steps
use Rattle.ds_image_laws.specs.ImageSteps.{Commit, IsRewritten, ImageStep}
use Rattle.ds_image_laws.specs.HostWrites.{IsForTaking, IsReady}
use Rattle.ds_image_laws.specs.Owners.{Names}
use Rattle.ds_image_laws.specs.Shown.{IsIdle, HoldsImage}
use Rattle.ds_image_laws.proofs.Calls.{holds-start, call-change}
use Rattle.ds_image_laws.proofs.KeptPending.{slot-written}
use Rattle.ds_image_laws.proofs.Owners.{header-once}

slot-once : (g : Geom) (is : IsGeom g) (look : Look) (number : ℕ) (a b : Slot) → number < g.slots → SpellsSlot g look number a → SpellsSlot g look number b → a ≡ b
slot-once g is look number a b within one two =
    let few : g.slots ≤ 16 = (bounds g is).slots in
    (slot_same number number a b (omega (arith, within, few)) (omega (arith, within, few)) one.0 two.0
    (same_bytes look (place_sector g (places.Slot number)) (slot_bytes number a) (slot_bytes number b) one.1 two.1)).1

module _ (g : Geom) (is : IsGeom g) (sectors image : List Sector) (t : FileTree) (s : Sector) where
  -- a header that is for taking
  pub lock-step : (object : ℕ) (h : Header) → IsLock g object → SpellsHeader g (slice_get sectors) object h → IsForTaking g sectors h.owner
      → ImageStep g sectors image t None (slice_set sectors (place_sector g (places.Header object)) s) image t
  lock-step object h lock spells taking = steps.Elsewhere (places.Header object) s lock refl tt
      (λ n other here names.
      let same : other ≡ object = cc in
      let header : h ≡ names.header = header-once g (slice_get sectors) object h names.header spells (subst (λ k. SpellsHeader g (slice_get sectors) k names.header) same names.spells) in
      let over = subst (IsForTaking g sectors) (ap (λ (x : Header). x.owner) header ∙ names.owned) taking in
      let slot : over.slot ≡ names.slot = slot-once g is (slice_get sectors) n over.slot names.slot names.is_slot
      (subst (λ k. SpellsSlot g (slice_get sectors) k over.slot) names.same_slot over.spells) names.spells_slot in
      absurd (omega (arith, over.later, names.same_generation, ap (λ (x : Slot). x.generation) slot)))

  -- a header that its owner gives back, whose slot is idle
  pub free-step : (object : ℕ) (h : Header) (owner : Owner) → IsLock g object → SpellsHeader g (slice_get sectors) object h → h.owner ≡ Some owner
      → IsIdle g sectors owner.slot
      → ImageStep g sectors image t None (slice_set sectors (place_sector g (places.Header object)) s) image t
  free-step object h owner lock spells owned idle = steps.Elsewhere (places.Header object) s lock refl tt
      (λ n other here names.
      let same : other ≡ object = cc in
      let header : h ≡ names.header = header-once g (slice_get sectors) object h names.header spells (subst (λ k. SpellsHeader g (slice_get sectors) k names.header) same names.spells) in
      let mine : owner ≡ names.owner = same_Some owner names.owner (sym owned ∙ ap (λ (x : Header). x.owner) header ∙ names.owned) in
      subst (IsIdle g sectors) (ap (λ (o : Owner). o.slot) mine ∙ names.same_slot) idle)

  -- a sector of an idle slot's journal
  pub journal-step : (number i : ℕ) → number < g.slots → i < 32 → IsIdle g sectors number
      → ImageStep g sectors image t None (slice_set sectors (place_sector g (places.Journal number i)) s) image t
  journal-step number i within small idle = steps.Elsewhere (places.Journal number i) s (within, small) refl idle (λ n object here names. absurd (cc))

  -- a sector of a file block, and the file system information
  pub block-step : (block i : ℕ) → block < items_of g Fb → i < g.block
      → ImageStep g sectors image t None (slice_set sectors (place_sector g (places.Block block i)) s) image t
  block-step block i within small = steps.Elsewhere (places.Block block i) s (within, small) refl tt (λ n object here names. absurd (cc))

  pub info-step : ImageStep g sectors image t None (slice_set sectors (place_sector g places.FsInfo) s) image t
  info-step = steps.Elsewhere places.FsInfo s tt refl tt (λ n object here names. absurd (cc))

  -- a slot that is spelled before and after
  pub rewritten : (number : ℕ) (old new : Slot) → number < g.slots → total_of g ≤ length sectors → IsDecoded (Some old) (SpellsSlot g (slice_get sectors) number)
      → IsSlot new → s.bytes ≡ slot_bytes number new → IsRewritten g sectors number s old new
  rewritten number old new within size was is_slot spelled =
      let few : g.slots ≤ 16 = (bounds g is).slots in
      record {
        within = within;
        was = was;
        now = slot-written g is sectors number s new within (omega (arith, few)) (omega (arith, size, place_within g (places.Slot number) is within)) is_slot spelled;
      }

-- the pairs of a journal that is ready, once it is committed
pub ready-journal : (g : Geom) (sectors : List Sector) (number generation txn count : ℕ) (pairs : List Pair) → AreTargets g (targets_of pairs) → length pairs ≡ count
    → IsReady g sectors number generation txn pairs → AreOfJournal g sectors number generation (Committed txn count) pairs
ready-journal g sectors number generation txn count pairs targets many ready = (
  ready.index,
  record {
    spelled = ready.spells;
    same_slot = ready.same_slot;
    same_generation = ready.same_generation;
    same_txn = ready.same_txn;
    same_count = ap length ready.targets ∙ length-map pairs (λ (p : Pair). p.0) ∙ many;
    metadata = subst (λ xs. All (IsMetadata g) xs) (sym ready.targets) targets.metadata;
  },
  record { have_targets = sym ready.targets; have_sectors = ready.have_sectors },
)

-- a host commits what its planner answered to what it has seen
pub commit-step : (g : Geom) (is : IsGeom g) (sectors image : List Sector) (t : FileTree) (whole : blocks_at g ≤ length sectors)
    → HoldsImage g sectors (Names g sectors) image t → (number : ℕ) (seen : SeenValue) → CallKnows g sectors image number seen
    → (call : CallOf Key) (answers : Answers) → AllKeep g call answers → (p : Parts) → ReadsParts g (look_of seen) p
    → (redo : Redo) (reply : TreeReply) → answers seen p ≡ Change redo reply
    → (s : Sector) (old new : Slot) (txn : ℕ) → IsRewritten g sectors number s old new → old.journal ≡ Idle → new.generation ≡ old.generation
    → new.journal ≡ Committed txn (length redo.pairs.items) → IsReady g sectors number new.generation txn redo.pairs.items
    → (u : FileTree) × ImageStep g sectors image t (Some (record { slot = number; call = call; reply = reply }))
    (slice_set sectors (place_sector g (places.Slot number)) s) (laid_over image redo.pairs.items) u
commit-step g is sectors image t whole holds number seen knows call answers law p reads redo reply answered s old new txn written idle same journal ready =
    let commits : Commits g sectors image t number call redo.pairs.items reply =
    call-change g is sectors image t whole holds number seen knows call answers law p reads redo reply answered in
    let form : AreTargets g (targets_of redo.pairs.items) = (subst (Keeps g call seen p) answered (law seen p reads)).form in
    let of_journal : AreOfJournal g sectors number new.generation new.journal redo.pairs.items =
    subst (λ (j : Journal). AreOfJournal g sectors number new.generation j redo.pairs.items) (sym journal)
    (ready-journal g sectors number new.generation txn (length redo.pairs.items) redo.pairs.items form refl ready) in
    (commits.u, steps.Committed number s old new call redo.pairs.items reply written idle same of_journal commits)

-- the formatted volume
pub fresh-holds : (g : Geom) (volume : List ℕ) (sectors : List Sector) (is : IsGeom g) → IsFormatted g volume sectors
    → HoldsImage g sectors (Names g sectors) (front_of g sectors) (fresh_tree g)
fresh-holds g volume sectors is formatted =
    let logical = front_is_logical g volume sectors is formatted in
    holds-start g sectors (front_of g sectors) (Names g sectors) (fresh_tree g) logical (fresh_stands g volume sectors is formatted (front_of g sectors) logical)
    (λ n within. record { slot = fresh_slot; decoded = slot_spelled g volume sectors is formatted n within; idle = refl })
