-- The lease: a generation is broken only 16 ticks after the last Swap of its slot under it.
use Rattle.std.proofs.Common.{◌≡◌, ℕ, suc, zero, ◌+◌, ◌<◌, ◌≤◌, inl, inr, List, [], ◌∷◌, ◌++◌, length, take, refl, sym, ◌∙◌, ap, subst, arith, Some, None}
use Rattle.std.specs.Prelude.{slice_get}
use Rattle.std.specs.List.{Contains}
use Rattle.std.proofs.lemmas.Bool.{cases_eq}
use Rattle.std.proofs.lemmas.List.Elements.{Contains-append_right}
use Rattle.ds_base.specs.declared.geometry.Geom.{Geom}
use Rattle.ds_base.specs.declared.sectors.Sector.{Sector}
use Rattle.ds_marks.specs.Slot.{state_code}
use Rattle.ds_marks.specs.SlotIn.{slot_in}
use Rattle.ds_marks.specs.declared.slot.Slot.{Slot}
use Rattle.ds_watch.specs.Notes.{Note, IsRun, Begun, Again, Passed}
use Rattle.ds_conduct.specs.Digests.{Digest, Own}
use Rattle.ds_conduct.specs.Judging.{IsJudged}
use Rattle.ds_conduct.specs.Marks.{slot_spelled, phase_of, rank_of, rank_at}
use Rattle.ds_conduct.specs.Settings.{Setting}
use Rattle.ds_log.specs.Store.{after_step}
use Rattle.ds_log.specs.Turns.{Part, Turn, sectors_after, last_tick, started, turned, digest}
use Rattle.ds_log.specs.Histories.{IsNext, IsHistory}
use Rattle.ds_log.specs.Volumes.{Volume, setting_of}
use Rattle.ds_log.specs.Effects.{SlotEffect, Still, Moved, OwnChange, SameOwn, NoOwn, FreshOwn, NoteChange, SameNotes, NoNotes, OneNote}
use Rattle.ds_log.specs.Standing.{Apart, IsPast, OwnStands, SlotsHold, NotesHold, LeaseHolds, LastHolds, LeasesHold}
use Rattle.ds_log_slots.proofs.Lists.{Contains-cases, Contains-none, take-next}
use Rattle.ds_log_slots.proofs.Steps.{sector-effect, slot-effect, rank-kept, phase_at-is}
use Rattle.ds_log_slots.proofs.Changes.{own-change, note-change}
use Rattle.ds_log_slots.proofs.Growing.{sectors_after-push, last_tick-push, digest-mover, digest-other, own-started, notes-started}
use Rattle.ds_log_slots.proofs.Slots.{stands-phase, slots-hold}

Contains-more : {X : Type 0} (xs : List X) (y x : X) → Contains xs x → Contains (y ∷ xs) x
Contains-more xs y x (k, within, is) = (suc k, omega (arith, within), is)

-- the note with which a run began
record FirstOf (slot : ℕ) (image : Sector) (since : ℕ) (notes : List Note) : Type 0 where
  first : Note
  there : Contains notes first
  same_slot : first.slot ≡ slot
  same_image : first.image ≡ image
  since_then : first.tick ≡ since

more-first : (slot : ℕ) (image : Sector) (since : ℕ) (note : Note) (notes : List Note) → FirstOf slot image since notes
    → FirstOf slot image since (note ∷ notes)
more-first slot image since note notes f = record {
  first = f.first;
  there = Contains-more notes note f.first f.there;
  same_slot = f.same_slot;
  same_image = f.same_image;
  since_then = f.since_then;
}

run-first : (slot : ℕ) (image : Sector) (since : ℕ) (notes : List Note) → IsRun slot image since notes → FirstOf slot image since notes
run-first slot image since notes (Begun note older slots images ticks before) = record {
  first = note;
  there = (0, omega arith, refl);
  same_slot = slots;
  same_image = images;
  since_then = ticks;
}
run-first slot image since notes (Again note older slots images run) =
    more-first slot image since note older (run-first slot image since older run)
run-first slot image since notes (Passed note older other run) =
    more-first slot image since note older (run-first slot image since older run)

-- the notes of the mover
NotesHold-change : (g : Geom) (old new : List Sector) (now now' : ℕ) (d d' : Digest) → now ≤ now'
    → ((a : ℕ) → a < g.slots → rank_at old a ≤ rank_at new a)
    → NoteChange now' old d d' → NotesHold g old now d → NotesHold g new now' d'
NotesHold-change g old new now now' d d' later up (SameNotes same) h n has within =
    let r = h n (subst (λ l. Contains l n) same has) within in let u = up n.slot within in (omega (arith, r.0), omega (arith, r.1))
NotesHold-change g old new now now' d d' later up (NoNotes none) h n has within =
    absurd (Contains-none n (subst (λ l. Contains l n) none has))
NotesHold-change g old new now now' d d' later up (OneNote b x found other is) h n has within =
    elim (Contains-cases d.notes (record { slot = b; image = x; tick = now' }) n (subst (λ l. Contains l n) is has)) [
      | inl e ↦
          let slots : b ≡ n.slot = ap (λ (m : Note). m.slot) e in
          let images : x ≡ n.image = ap (λ (m : Note). m.image) e in
          let ticks : now' ≡ n.tick = ap (λ (m : Note). m.tick) e in
          let there : slice_get old (2 + n.slot) ≡ Some n.image = ap (λ k. slice_get old (2 + k)) (sym slots) ∙ found ∙ ap Some images in
          let r = ap (λ o. rank_of (slot_spelled n.slot o)) there in
          let u = up n.slot within in (omega arith, omega arith)
      | inr before ↦ let r = h n before within in let u = up n.slot within in (omega (arith, r.0), omega (arith, r.1))
    ]

-- the notes of host k change, and the holder doesn't
LeaseHolds-noted : (old : List Sector) (now' : ℕ) (h k k' : Digest) → NoteChange now' old k k'
    → ((own : Own) → h.own ≡ Some own → own.last ≤ now') → LeaseHolds h k → LeaseHolds h k'
LeaseHolds-noted old now' h k k' (SameNotes same) last lease own n is has slots images =
    lease own n is (subst (λ l. Contains l n) same has) slots images
LeaseHolds-noted old now' h k k' (NoNotes none) last lease own n is has slots images =
    absurd (Contains-none n (subst (λ l. Contains l n) none has))
LeaseHolds-noted old now' h k k' (OneNote b x found other e) last lease own n is has slots images =
    elim (Contains-cases k.notes (record { slot = b; image = x; tick = now' }) n (subst (λ l. Contains l n) e has)) [
      | inl here ↦ let ticks : now' ≡ n.tick = ap (λ (m : Note). m.tick) here in let l = last own is in omega arith
      | inr before ↦ lease own n is before slots images
    ]

-- the holder's own image changes
LeaseHolds-own : (g : Geom) (old new : List Sector) (now now' : ℕ) (h h' k : Digest) → OwnChange g now' old new h h'
    → NotesHold g old now k → LeaseHolds h k → LeaseHolds h' k
LeaseHolds-own g old new now now' h h' k (SameOwn same untouched) notes lease own n is has slots images =
    lease own n (sym same ∙ is) has slots images
LeaseHolds-own g old new now now' h h' k (NoOwn none) notes lease own n is has slots images =
    absurd (let e : None ≡ Some own = sym none ∙ is in cc)
LeaseHolds-own g old new now now' h h' k (FreshOwn o holds fresh) notes lease own n is has slots images =
    let same : o ≡ own = cc in
    let slots' : n.slot ≡ o.slot = slots ∙ sym (ap (λ (x : Own). x.slot) same) in
    let images' : n.image ≡ o.image = images ∙ sym (ap (λ (x : Own). x.image) same) in
    let within' = fresh.within in
    let within : n.slot < g.slots = omega arith in
    let r = (notes n has within).0 in
    let spelled : slot_in n.slot n.image.bytes ≡ Some fresh.slot = ap (λ k. slot_in k n.image.bytes) slots'
    ∙ ap (λ (s : Sector). slot_in o.slot s.bytes) images' ∙ fresh.spelled in
    let v = ap rank_of spelled in
    let w = ap (rank_at old) slots' in
    let high = fresh.higher in
    absurd (omega (arith, r))

-- the last Swap of the mover's slot
LastHolds-own : (g : Geom) (old new : List Sector) (now now' : ℕ) (h h' : Digest) → now ≤ now' → OwnChange g now' old new h h'
    → ((own : Own) → h.own ≡ Some own → OwnStands g old own)
    → LastHolds old now h → LastHolds new now' h'
LastHolds-own g old new now now' h h' later (SameOwn same untouched) stands last own is =
    let before : h.own ≡ Some own = sym same ∙ is in
    let b = last own before in
    let e = ap (λ o. phase_of (slot_spelled own.slot o)) (untouched own before (stands own before).within) in
    (omega (arith, b.0), λ past. let l = b.1 (omega arith) in omega arith)
LastHolds-own g old new now now' h h' later (NoOwn none) stands last own is = absurd (let e : None ≡ Some own = sym none ∙ is in cc)
LastHolds-own g old new now now' h h' later (FreshOwn o holds fresh) stands last own is =
    let same : o ≡ own = cc in
    subst (λ (x : Own). (x.last ≤ now') × (IsPast new x.slot x.generation → x.last + 16 ≤ now')) same (
    let l = fresh.last in
    let p = phase_at-is new o.slot o.image fresh.slot fresh.there fresh.spelled in
    let c = ap state_code fresh.live in
    let n = fresh.generation in
    (omega arith, λ past. absurd (omega arith))
    )

-- another host's generation: where the mover broke it, 16 ticks have passed
LastHolds-other : (g : Geom) (old new : List Sector) (now now' : ℕ) (d h : Digest) → now ≤ now'
    → ((a : ℕ) → a < g.slots → SlotEffect d old new a) → ((own : Own) → h.own ≡ Some own → OwnStands g old own)
    → Apart d h → NotesHold g old now d → LeaseHolds h d → LastHolds old now h → LastHolds new now' h
LastHolds-other g old new now now' d h later effects stands apart notes lease last own is =
    let b = last own is in
    let st = stands own is in (
      omega (arith, b.0),
      λ past. elim st.there [
        | inr was ↦ let l = b.1 was in omega arith
        | inl here ↦ broken (effects own.slot st.within) here past
      ],
    )
  where
    broken : SlotEffect d old new own.slot → slice_get old (2 + own.slot) ≡ Some own.image → IsPast new own.slot own.generation
        → own.last + 16 ≤ now'
    broken (Still same) here past =
        let e = ap (λ o. phase_of (slot_spelled own.slot o)) same in
        let p = stands-phase g old own (stands own is) here in absurd (omega arith)
    broken (Moved verify fresh x y was there was_x is_y move) here past =
        let st : OwnStands g old own = stands own is in
        let same : verify ≡ own.image = cc in
        let image : slot_in own.slot verify.bytes ≡ Some st.slot = ap (λ (s : Sector). slot_in own.slot s.bytes) same ∙ st.spelled in
        let slots : x ≡ st.slot = (let w = was_x in cc) in
        let gens : x.generation ≡ own.generation = ap (λ (s : Slot). s.generation) slots ∙ st.generation in
        elim (move.holder (ap (λ (s : Slot). s.state) slots ∙ st.live)) [
          | inl k ↦ absurd (apart k.own own k.holds is k.same_slot (k.same_generation ∙ gens))
          | inr judged ↦ passed st.within verify same judged.0
        ]
      where
        passed : own.slot < g.slots → (verify : Sector) → verify ≡ own.image → IsJudged d.notes own.slot verify → own.last + 16 ≤ now'
        passed within verify same judged =
            let late : Note = record { slot = own.slot; image = verify; tick = judged.last } in
            let late_in : Contains d.notes late = subst (λ l. Contains l late) (sym judged.parts)
            (Contains-append_right judged.newer (late ∷ judged.older) late (0, omega arith, refl)) in
            let f = run-first own.slot verify judged.stale.since (late ∷ judged.older) judged.stale.run in
            let first_in : Contains d.notes f.first = subst (λ l. Contains l f.first) (sym judged.parts)
            (Contains-append_right judged.newer (late ∷ judged.older) f.first f.there) in
            let l = lease own f.first is first_in f.same_slot (f.same_image ∙ same) in
            let n = (notes late late_in within).1 in
            let then = f.since_then in
            let old_enough = judged.stale.old in omega (arith, n)

-- a beginning keeps all of it
notes-begun : (g : Geom) (s : List Sector) (now : ℕ) (d : Digest) (part : Part) → NotesHold g s now d → NotesHold g s now (started d part)
notes-begun g s now d part h n has within = h n (subst (λ l. Contains l n) (notes-started d part) has) within

lease-begun : (d k : Digest) (part : Part) → LeaseHolds d k → LeaseHolds (started d part) k
lease-begun d k part h own n is has slots images = h own n (sym (own-started d part) ∙ is) has slots images

lease-begun_by : (d k : Digest) (part : Part) → LeaseHolds d k → LeaseHolds d (started k part)
lease-begun_by d k part h own n is has slots images = h own n is (subst (λ l. Contains l n) (notes-started k part) has) slots images

last-begun : (s : List Sector) (now : ℕ) (d : Digest) (part : Part) → LastHolds s now d → LastHolds s now (started d part)
last-begun s now d part h own is = h own (sym (own-started d part) ∙ is)

module _ (volume : Volume) (start : List Sector) where
  LeasesHold-push : (ts : List Turn) (t : Turn) → SlotsHold volume.geom start ts → LeasesHold volume.geom start ts (last_tick ts)
      → IsNext volume start ts t → LeasesHold volume.geom start (ts ++ t ∷ []) t.event.at
  LeasesHold-push ts t slots h next =
      let g : Geom = volume.geom in
      let setting : Setting = setting_of volume t.event.host in
      let s : List Sector = sectors_after start ts in
      let s' : List Sector = after_step s t.event.step in
      let now : ℕ = last_tick ts in
      let now' : ℕ = t.event.at in
      let later : now ≤ now' = next.in_time in
      let d0 : Digest = digest g t.event.host ts in
      let d : Digest = started d0 t.part in
      let d' : Digest = turned g d0 t in
      let effects : (a : ℕ) → a < g.slots → SlotEffect d s s' a =
      λ a within. slot-effect setting d now' s s' a within (sector-effect setting d now' s t.event.step next.obeys (2 + a)) in
      let own_ch : OwnChange g now' s s' d d' = own-change setting s d0 t next.obeys in
      let note_ch : NoteChange now' s d d' = note-change setting s d0 t next.obeys in
      let notes : NotesHold g s now d = notes-begun g s now d0 t.part (h.notes t.event.host) in
      let last : LastHolds s now d = last-begun s now d0 t.part (h.last t.event.host) in
      let stands : (own : Own) → d.own ≡ Some own
      → OwnStands g s own = λ own is. (slots.each t.event.host).own own (sym (own-started d0 t.part) ∙ is) in
      let last' : LastHolds s' now' d' = LastHolds-own g s s' now now' d d' later own_ch stands last in
      let up : (a : ℕ) → a < g.slots → rank_at s a ≤ rank_at s' a = λ a within. rank-kept d s s' a (effects a within) in
      record {
        notes = λ i. subst (λ x. NotesHold g x now' (digest g i (ts ++ t ∷ []))) (sym (sectors_after-push start ts t))
            (elim (cases_eq t.event.host i) [
              | inl is ↦ subst (NotesHold g s' now') (sym (digest-mover g i ts t is))
                  (NotesHold-change g s s' now now' d d' later up note_ch notes)
              | inr other ↦ subst (NotesHold g s' now') (sym (digest-other g i ts t other))
                  (NotesHold-change g s s' now now' (digest g i ts) (digest g i ts) later up (SameNotes refl) (h.notes i))
            ]);
        lease = λ i j. elim (cases_eq t.event.host i) [
          | inl is ↦ subst (λ x. LeaseHolds x (digest g j (ts ++ t ∷ []))) (sym (digest-mover g i ts t is))
              (elim (cases_eq t.event.host j) [
                | inl js ↦ subst (LeaseHolds d') (sym (digest-mover g j ts t js))
                    (LeaseHolds-noted s now' d' d d' note_ch (λ own is. (last' own is).0)
                    (LeaseHolds-own g s s' now now' d d' d own_ch notes (lease-begun d0 d t.part (lease-begun_by d0 d0 t.part
                    (h.lease t.event.host t.event.host)))))
                | inr other ↦ subst (LeaseHolds d') (sym (digest-other g j ts t other))
                    (LeaseHolds-own g s s' now now' d d' (digest g j ts) own_ch (h.notes j)
                    (lease-begun d0 (digest g j ts) t.part (h.lease t.event.host j)))
              ])
          | inr other ↦ subst (λ x. LeaseHolds x (digest g j (ts ++ t ∷ []))) (sym (digest-other g i ts t other))
              (elim (cases_eq t.event.host j) [
                | inl js ↦ subst (LeaseHolds (digest g i ts)) (sym (digest-mover g j ts t js))
                    (LeaseHolds-noted s now' (digest g i ts) d d' note_ch (λ own is. let l = (h.last i own is).0 in omega (arith, l))
                    (lease-begun_by (digest g i ts) d0 t.part (h.lease i t.event.host)))
                | inr other' ↦ subst (LeaseHolds (digest g i ts)) (sym (digest-other g j ts t other')) (h.lease i j)
              ])
        ];
        last = λ i. subst (λ x. LastHolds x now' (digest g i (ts ++ t ∷ []))) (sym (sectors_after-push start ts t))
            (elim (cases_eq t.event.host i) [
              | inl is ↦ subst (LastHolds s' now') (sym (digest-mover g i ts t is)) last'
              | inr other ↦ subst (LastHolds s' now') (sym (digest-other g i ts t other))
                  (LastHolds-other g s s' now now' d (digest g i ts) later effects (slots.each i).own
                  (λ o p is_o is_p. slots.apart t.event.host i other o p (sym (own-started d0 t.part) ∙ is_o) is_p)
                  notes (lease-begun_by (digest g i ts) d0 t.part (h.lease i t.event.host)) (h.last i))
            ]);
      }

  LeasesHold-start : LeasesHold volume.geom start [] 0
  LeasesHold-start = record {
    notes = λ i n has within. absurd (Contains-none n has);
    lease = λ i j own n is has slots images. absurd (Contains-none n has);
    last = λ i own is. cc;
  }

  module _ (turns : List Turn) (history : IsHistory volume start turns) where
    pub leases-hold : (n : ℕ) → n ≤ length turns → LeasesHold volume.geom start (take n turns) (last_tick (take n turns))
    leases-hold zero h = LeasesHold-start
    leases-hold (suc n) h =
        let e : (t : Turn) × (slice_get turns n ≡ Some t)
        × (take (suc n) turns ≡ take n turns ++ t ∷ []) = take-next turns n (omega arith) in
        subst (λ l. LeasesHold volume.geom start l (last_tick l)) (sym e.2)
        (subst (LeasesHold volume.geom start (take n turns ++ e.0 ∷ [])) (sym (last_tick-push (take n turns) e.0))
        (LeasesHold-push (take n turns) e.0 (slots-hold volume start turns history n (omega arith)) (leases-hold n (omega arith))
        (history.each n e.0 e.1)))
