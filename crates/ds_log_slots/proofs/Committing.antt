-- What the guard of a commit gives to the image: its pairs are what the call does.
use Rattle.std.proofs.Common.{◌≡◌, ℕ, ◌<◌, ◌≤◌, inl, inr, List, [], ◌∷◌, length, Some, sym, ap, subst, ◌∙◌, arith}
use Rattle.std.specs.Prelude.{slice_get, slice_set}
use Rattle.std.proofs.lemmas.List.{length-map}
use Rattle.std.proofs.lemmas.Option.{slice_get_within}
use Rattle.ds_base.specs.Decoding.{IsDecoded}
use Rattle.ds_base.specs.Geometry.{IsGeom}
use Rattle.ds_base.specs.declared.commands.Command.TheVariants.{Write}
use Rattle.ds_base.specs.declared.commands.Command.{Command}
use Rattle.ds_base.specs.declared.commands.Response.{Response}
use Rattle.ds_base.specs.declared.geometry.Geom.{Geom}
use Rattle.ds_base.specs.declared.names.Key.{Key}
use Rattle.ds_base.specs.declared.sectors.Sector.{Sector}
use Rattle.ds_layout.proofs.Bounds.{bounds}
use Rattle.ds_layout.specs.Places.{blocks_at, total_of, place_sector}
use Rattle.ds_layout.specs.declared.places.Place.TheVariants as places
use Rattle.ds_marks.proofs.Slots.{slot_same}
use Rattle.ds_marks.specs.Slot.{slot_bytes}
use Rattle.ds_marks.specs.declared.slot.Slot.{Slot}
use Rattle.ds_marks.specs.declared.slot.Journal.TheVariants.{Committed}
use Rattle.ds_tree.specs.CallNames.{HasNames}
use Rattle.ds_tree.specs.Nodes.{FileTree}
use Rattle.ds_tree.specs.declared.calls.CallOf.{CallOf}
use Rattle.ds_image.specs.Asking.{Keeps, IsReadable}
use Rattle.ds_image_parts.specs.Logical.{laid_over}
use Rattle.ds_image_parts.specs.Looks.{Look}
use Rattle.ds_image_parts.specs.Pending.{Pair}
use Rattle.ds_image.specs.Planning.{Answers}
use Rattle.ds_image_parts.specs.Readings.{SpellsSlot}
use Rattle.ds_image.specs.SeenValues.{SeenValue}
use Rattle.ds_image.proofs.NewVolumes.FreshVolume.{same_bytes}
use Rattle.ds_image_laws.specs.Calls.{CallKnows}
use Rattle.ds_image_laws.specs.HostWrites.{IsReady}
use Rattle.ds_image_laws.specs.ImageSteps.{ImageStep}
use Rattle.ds_image_laws.specs.Owners.{Names}
use Rattle.ds_image_laws.specs.Shown.{IsIdle, HoldsImage}
use Rattle.ds_image_laws.proofs.Calls.{call-read, call-locked}
use Rattle.ds_image_laws.proofs.HostWrites.{rewritten, commit-step}
use Rattle.ds_conduct.specs.Digests.{Own, Digest}
use Rattle.ds_base.specs.Exchanges.{Exchange, IsLast}
use Rattle.ds_conduct.specs.Exchanges.{WroteOf, written_of, written_with}
use Rattle.ds_conduct.specs.Guards.{Commits}
use Rattle.ds_conduct.specs.Settings.{Setting, AllPlansKeep}
use Rattle.ds_conduct.specs.Journals.{Sees, Took, Found, Given, Passed, Takes, FindsHeld, IsAsked, Journalled}
use Rattle.ds_marks.proofs.SlotIn.{slot_in-is}
use Rattle.ds_conduct.proofs.Spelt.{slot-spells}
use Rattle.ds_log_slots.proofs.Lists.{Contains-cases}

-- what a call wrote last into the own journal stands there
abbrev pub JournalStands : Geom → List Sector → ℕ → List Exchange → Type 0
JournalStands g sectors slot xs = (i : ℕ) (s : Sector) → i < 32 → IsLast (written_of xs) (place_sector g (places.Journal slot i)) s
    → slice_get sectors (place_sector g (places.Journal slot i)) ≡ Some s

-- a planner's answer by what the call has seen is right: what is known of all that it may have been shown
abbrev pub AllKnow : (g : Geom) (own : Own) → Answers → List ℕ → List Sector → List Sector → List Exchange → Type 0
AllKnow g own plan first sectors image xs = (seen : SeenValue) → Sees g own plan first xs seen → CallKnows g sectors image own.slot seen

wrote-first : (x : Exchange) (at : ℕ) (s : Sector) (rest : List Pair) → WroteOf x at s
    → written_with x.command x.response rest ≡ (at, s) ∷ rest
wrote-first x at s rest w = ap (λ (c : Command). written_with c x.response rest) w.command
    ∙ ap (λ (r : Response). written_with (Write at s) r rest) w.response

-- the journal is ready where what was written stands
pub ready-of : (g : Geom) (sectors : List Sector) (own : Own) (txn : ℕ) (pairs : List Pair) (xs : List Exchange)
    → Journalled g own txn pairs xs → JournalStands g sectors own.slot xs
    → IsReady g sectors own.slot own.generation txn pairs
ready-of g sectors own txn pairs xs j stands = record {
  index = j.index;
  spells = (
    j.is_index,
    (
      j.sector,
      stands 31 j.sector (omega arith)
          (record { newer = []; older = written_of j.earlier; parts = written; newest = λ other has. absurd (omega (arith, has.1)) }),
      j.spelled,
    ),
  );
  same_slot = j.same_slot;
  same_generation = j.same_generation;
  same_txn = j.same_txn;
  targets = j.targets;
  have_sectors = λ i pair is.
      let most = j.is_index.ranges.most in
      let same : length j.index.targets.items ≡ length pairs = ap length j.targets ∙ length-map pairs (λ (p : Pair). p.0) in
      let within = slice_get_within pairs i pair is in
      let last = j.have_sectors i pair is in
      stands i pair.1 (omega arith) (record {
        newer = (place_sector g (places.Journal own.slot 31), j.sector) ∷ last.newer;
        older = last.older;
        parts = written ∙ ap (λ l. (place_sector g (places.Journal own.slot 31), j.sector) ∷ l) last.parts;
        newest = λ other has.
            elim (Contains-cases last.newer (place_sector g (places.Journal own.slot 31), j.sector)
            (place_sector g (places.Journal own.slot i), other) has) [
              | inl e ↦ let ats = ap (λ (p : ℕ × Sector). p.0) e in absurd (omega arith)
              | inr before ↦ last.newest other before
            ];
      });
}
  where
    written : written_of xs ≡ (place_sector g (places.Journal own.slot 31), j.sector) ∷ written_of j.earlier
    written = ap written_of j.parts
        ∙ wrote-first j.exchange (place_sector g (places.Journal own.slot 31)) j.sector (written_of j.earlier) j.wrote

slot-once : (g : Geom) (is : IsGeom g) (look : Look) (number : ℕ) (a b : Slot) → number < g.slots → SpellsSlot g look number a
    → SpellsSlot g look number b → a ≡ b
slot-once g is look number a b within one two =
    let few : g.slots ≤ 16 = (bounds g is).slots in
    (slot_same number number a b (omega (arith, within, few)) (omega (arith, within, few)) one.0 two.0
    (same_bytes look (place_sector g (places.Slot number)) (slot_bytes number a) (slot_bytes number b) one.1 two.1)).1

module _ (setting : Setting) (is : IsGeom setting.geom) (law : AllPlansKeep setting) (sectors image : List Sector) (t : FileTree)
    (whole : blocks_at setting.geom ≤ length sectors) (all : total_of setting.geom ≤ length sectors)
    (holds : HoldsImage setting.geom sectors (Names setting.geom sectors) image t) where
  -- a commit that the guard allows, of a call whose words are names, is a step of the image by its call
  pub commit-of : (d : Digest) (now at : ℕ) (verify fresh : Sector) (c : Commits setting d now at verify fresh) → HasNames c.call
      → slice_get sectors at ≡ Some verify
      → AllKnow setting.geom c.renewal.swap.own (setting.plans c.renewal.swap.own.slot c.call) [] sectors image d.exchanges
      → JournalStands setting.geom sectors c.renewal.swap.own.slot d.exchanges
      → (u : FileTree) × ImageStep setting.geom sectors image t
      (Some (record { slot = c.renewal.swap.own.slot; call = c.call; reply = c.reply }))
      (slice_set sectors at fresh) (laid_over image c.pairs) u
  commit-of d now at verify fresh c names found knows stands =
      let w = c.renewal.swap in
      let p = c.planned in
      let n : ℕ = w.own.slot in
      let there : slice_get sectors (place_sector setting.geom (places.Slot n)) ≡ Some verify =
      ap (slice_get sectors) (sym w.place) ∙ found in
      let spells : SpellsSlot setting.geom (slice_get sectors) n w.old =
      slot-spells setting.geom (slice_get sectors) n verify w.old there w.was in
      let decoded : IsDecoded (Some w.old) (SpellsSlot setting.geom (slice_get sectors) n) =
      λ v. (
        λ e. let same : w.old ≡ v = cc in subst (SpellsSlot setting.geom (slice_get sectors) n) same spells,
        λ h. ap Some (slot-once setting.geom is (slice_get sectors) n w.old v w.within spells h),
      ) in
      let fresh_is = slot_in-is n fresh.bytes w.new w.is in
      let ready : IsReady setting.geom sectors n w.new.generation c.txn p.redo.pairs.items =
      subst (λ (ps : List Pair). IsReady setting.geom sectors n w.new.generation c.txn ps) (sym p.same_pairs)
      (subst (λ (k : ℕ). IsReady setting.geom sectors n k c.txn c.pairs) (sym (c.renewal.same_generation ∙ w.was_own))
      (ready-of setting.geom sectors w.own c.txn c.pairs d.exchanges c.journalled stands)) in
      let step = commit-step setting.geom is sectors image t whole holds n p.seen (knows p.seen p.sees) c.call
      (setting.plans c.renewal.swap.own.slot c.call) (law c.renewal.swap.own.slot c.call names) p.parts p.reads p.redo c.reply p.planned
      fresh w.old w.new c.txn
      (rewritten setting.geom is sectors image t fresh n w.old w.new w.within all decoded fresh_is.0 fresh_is.1)
      c.was_idle c.renewal.same_generation
      (c.committed ∙ ap (λ (ps : List Pair). Committed c.txn (length ps)) (sym p.same_pairs)) ready in (
        step.0,
        subst (λ (k : ℕ). ImageStep setting.geom sectors image t (Some (record { slot = n; call = c.call; reply = c.reply }))
            (slice_set sectors k fresh) (laid_over image c.pairs) step.0) (sym w.place)
            (subst (λ (ps : List Pair). ImageStep setting.geom sectors image t
            (Some (record { slot = n; call = c.call; reply = c.reply }))
            (slice_set sectors (place_sector setting.geom (places.Slot n)) fresh) (laid_over image ps) step.0) p.same_pairs step.1),
      )

  -- one exchange more of the host itself: what it took or found held names it, and what it read was asked for
  pub know-more : (own : Own) (call : CallOf Key) → HasNames call → (first : List ℕ) (xs : List Exchange) (x : Exchange)
      → IsIdle setting.geom sectors own.slot
      → ((object : ℕ) → Takes setting.geom own x object → Names setting.geom sectors own.slot object)
      → ((object : ℕ) → FindsHeld setting.geom own x object → Names setting.geom sectors own.slot object)
      → ((at : ℕ) (s : Sector) (seen : SeenValue)
      → IsAsked setting.geom own (setting.plans own.slot call) seen x at s → slice_get sectors at ≡ Some s)
      → AllKnow setting.geom own (setting.plans own.slot call) first sectors image xs
      → AllKnow setting.geom own (setting.plans own.slot call) first sectors image (x ∷ xs)
  know-more own call names first xs x idle took held got knows seen (Took ys before y object sees takes) =
      call-locked setting.geom is sectors image t whole holds own.slot before (knows before sees) object (took object takes)
  know-more own call names first xs x idle took held got knows seen (Found ys before y object sees finds) =
      call-locked setting.geom is sectors image t whole holds own.slot before (knows before sees) object (held object finds)
  know-more own call names first xs x idle took held got knows seen (Given ys before y at s sees asked) =
      let readable : IsReadable setting.geom before at =
      (subst (Keeps setting.geom call before asked.parts) asked.asked (law own.slot call names before asked.parts asked.reads)).form in
      call-read setting.geom is sectors image t whole holds own.slot before (knows before sees) at s idle readable (got at s before asked)
  know-more own call names first xs x idle took held got knows seen (Passed ys before y sees) = knows seen sees
