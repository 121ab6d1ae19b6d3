-- What a command and its response make of a host's digest.
use Rattle.std.proofs.Common.{◌≡◌, ◌≢◌, ℕ, suc, ◌+◌, ◌-◌, ◌<◌, ◌&&◌, Bool, true, false, cond, List, [], ◌∷◌, ◌++◌, Option, Some, None}
use Rattle.std.proofs.Common.{refl, sym, ◌∙◌, ap, arith}
use Rattle.std.specs.Prelude.{nat_le, nat_lt, not}
use Rattle.std.specs.List.{Contains}
use Rattle.std.proofs.lemmas.Bool.{eq-eqb, ne_eqb}
use Rattle.std.proofs.lemmas.Bool.Decides.{nat_tests}
use Rattle.std.proofs.lemmas.List.{append-nil}
use Rattle.ds_base.specs.Exchanges.{Exchange}
use Rattle.ds_base.specs.declared.commands.Command.{Command}
use Rattle.ds_base.specs.declared.commands.Command.TheVariants.{Read, Write, Swap}
use Rattle.ds_base.specs.declared.commands.Response.{Response}
use Rattle.ds_base.specs.declared.commands.Response.TheVariants.{Got, Done, Miscompare, Fault}
use Rattle.ds_base.specs.declared.geometry.Geom.{Geom}
use Rattle.ds_base.specs.declared.names.Key.{Key}
use Rattle.ds_base.specs.declared.sectors.Sector.{Sector}
use Rattle.ds_layout.specs.Places.{place_sector}
use Rattle.ds_layout.specs.declared.places.Place.TheVariants as places
use Rattle.ds_marks.specs.HeaderIn.{header_in}
use Rattle.ds_marks.specs.SlotIn.{is_idle, slot_in}
use Rattle.ds_marks.specs.declared.header.Header.{Header}
use Rattle.ds_marks.specs.declared.header.Owner.{Owner}
use Rattle.ds_marks.specs.declared.slot.Journal.TheVariants.{Idle, Committed}
use Rattle.ds_marks.specs.declared.slot.Slot.{Slot}
use Rattle.ds_marks.specs.declared.slot.SlotState.TheVariants.{Free, Live}
use Rattle.ds_watch.specs.Notes.{Note}
use Rattle.ds_conduct.specs.Digests.{Digest, Own, Owed, commits_with, entered, entered_in, is_some, kept_under, noted, noted_at, noted_of}
use Rattle.ds_conduct.specs.Digests.{notes_after, owed_after, owed_by, owed_in, owed_swapped, owed_without, own_after, own_missed}
use Rattle.ds_conduct.specs.Digests.{own_swapped, renewed, renewed_in}
use Rattle.ds_conduct.specs.Marks.{has_committed, has_idle, slot_number}
use Rattle.ds_conduct.specs.declared.answers.HostAnswer.{HostAnswer}
use Rattle.ds_conduct.proofs.Places.{header-beyond, slot_number-beyond, slot_number-of}

-- a host without a generation owes no header and holds no file open
abbrev pub IsBare : Digest → Type 0
IsBare d = d.own ≡ None → (d.owed ≡ []) × (d.files ≡ [])

-- the digest with one exchange more, and these
abbrev pub went_on : Digest → Exchange → Option Own → List Owed → List Key → List Note → Digest
went_on d x own owed files notes = record {
  own = own;
  owed = owed;
  files = files;
  notes = notes;
  call = d.call;
  exchanges = x ∷ d.exchanges;
  answer = d.answer;
}

-- the generation goes on as it was
abbrev pub stays : Digest → Exchange → List Note → Digest
stays d x notes = went_on d x d.own d.owed d.files notes

-- the generation, and all that was held under it, is dropped
abbrev pub drops : Digest → Exchange → Digest
drops d x = went_on d x None [] [] d.notes

-- the sectors before the slots are no slots
pub slot_number-before : (g : Geom) (at : ℕ) → at < 2 → slot_number g at ≡ None
slot_number-before g at h =
    let from : nat_le 2 at ≡ false = grind (arith, nat_tests) in
    ap (λ b. cond (b && nat_lt at (2 + g.slots)) (Some (at - 2)) None) from

kept_under-same : {X : Type 0} (own : Option Own) (list : List X) → (own ≡ None → list ≡ []) → kept_under own list ≡ list
kept_under-same None list none = sym (none refl)
kept_under-same (Some own) list none = refl

dropped_under : {X : Type 0} (own : Option Own) (list : List X) → own ≡ None → kept_under own list ≡ []
dropped_under None list e = refl
dropped_under (Some own) list e = absurd (cc)

pub has_idle-of : (a : ℕ) (bytes : List ℕ) (s : Slot) → slot_in a bytes ≡ Some s → s.journal ≡ Idle → has_idle (slot_in a bytes) ≡ true
has_idle-of a bytes s spelled idle = ap has_idle spelled ∙ ap is_idle idle

pub has_committed-none : (a : ℕ) (bytes : List ℕ) (s : Slot) → slot_in a bytes ≡ Some s → s.journal ≡ Idle
    → has_committed (slot_in a bytes) ≡ false
has_committed-none a bytes s spelled idle = ap has_committed spelled ∙ ap (λ j. not (is_idle j)) idle

pub has_idle-none : (a : ℕ) (bytes : List ℕ) (s : Slot) (txn count : ℕ) → slot_in a bytes ≡ Some s → s.journal ≡ Committed txn count
    → has_idle (slot_in a bytes) ≡ false
has_idle-none a bytes s txn count spelled committed = ap has_idle spelled ∙ ap is_idle committed

pub has_committed-of : (a : ℕ) (bytes : List ℕ) (s : Slot) (txn count : ℕ) → slot_in a bytes ≡ Some s → s.journal ≡ Committed txn count
    → has_committed (slot_in a bytes) ≡ true
has_committed-of a bytes s txn count spelled committed = ap has_committed spelled ∙ ap (λ j. not (is_idle j)) committed

and-false : (b : Bool) → (b && false) ≡ false
and-false true = refl
and-false false = refl

-- only a Swap from an idle journal to a committed transaction is a commit
pub commits-same : (a commits : ℕ) (verify fresh : Sector) → has_committed (slot_in a fresh.bytes) ≡ false
    → commits_with a commits verify fresh ≡ commits
commits-same a commits verify fresh idle =
    ap (λ b. cond (has_idle (slot_in a verify.bytes) && b) (commits + 1) commits) idle
    ∙ ap (λ b. cond b (commits + 1) commits) (and-false (has_idle (slot_in a verify.bytes)))

pub commits-retired : (a commits : ℕ) (verify fresh : Sector) → has_idle (slot_in a verify.bytes) ≡ false
    → commits_with a commits verify fresh ≡ commits
commits-retired a commits verify fresh busy =
    ap (λ b. cond (b && has_committed (slot_in a fresh.bytes)) (commits + 1) commits) busy

pub commits-more : (a commits : ℕ) (verify fresh : Sector) → has_idle (slot_in a verify.bytes) ≡ true
    → has_committed (slot_in a fresh.bytes) ≡ true → commits_with a commits verify fresh ≡ commits + 1
commits-more a commits verify fresh idle committed =
    ap (λ b. cond (b && has_committed (slot_in a fresh.bytes)) (commits + 1) commits) idle
    ∙ ap (λ b. cond b (commits + 1) commits) committed

-- the own slot's image after a Swap that was done
abbrev pub renewed_own : Own → ℕ → Sector → ℕ → Own
renewed_own own now fresh commits =
    record { slot = own.slot; generation = own.generation; image = fresh; last = now; commits = commits }

module _ (g : Geom) (d : Digest) (now : ℕ) where
  abbrev pub exchanged : Command → Response → Exchange
  exchanged command response = record { command = command; response = response; tick = now }

  abbrev notes_now : Command → Response → List Note
  notes_now command response = notes_after g d.own now command response d.notes

  -- by what the exchange makes of the generation, and of the headers that are owed
  noted-by : (command : Command) (response : Response) (own : Option Own) (owed : List Owed)
      → own_after g d.own (is_some d.answer) now command response ≡ own → owed_after g d.owed command response ≡ owed
      → noted g d now command response
      ≡ went_on d (exchanged command response) own (kept_under own owed) (kept_under own d.files) (notes_now command response)
  noted-by command response own owed own-is owed-is =
      ap (λ o. went_on d (exchanged command response) o (kept_under o (owed_after g d.owed command response)) (kept_under o d.files)
      (notes_now command response)) own-is
      ∙ ap (λ l. went_on d (exchanged command response) own (kept_under own l) (kept_under own d.files)
      (notes_now command response)) owed-is

  noted-none : (command : Command) (response : Response) → own_after g d.own (is_some d.answer) now command response ≡ None
      → notes_now command response ≡ d.notes → noted g d now command response ≡ drops d (exchanged command response)
  noted-none command response own-is notes-are =
      noted-by command response None (owed_after g d.owed command response) own-is refl
      ∙ ap (λ l. went_on d (exchanged command response) None [] [] l) notes-are

  stays-by : IsBare d → (x : Exchange) (notes : List Note)
      → went_on d x d.own (kept_under d.own d.owed) (kept_under d.own d.files) notes ≡ stays d x notes
  stays-by bare x notes =
      ap (λ l. went_on d x d.own l (kept_under d.own d.files) notes) (kept_under-same d.own d.owed (λ none. (bare none).0))
      ∙ ap (λ l. went_on d x d.own d.owed l notes) (kept_under-same d.own d.files (λ none. (bare none).1))

  -- whatever was sent and heard
  pub noted-bare : (command : Command) (response : Response) → IsBare (noted g d now command response)
  noted-bare command response none = (
    dropped_under (own_after g d.own (is_some d.answer) now command response) (owed_after g d.owed command response) none,
    dropped_under (own_after g d.own (is_some d.answer) now command response) d.files none,
  )

  -- a Fault drops the generation
  pub fault-drops : (command : Command) → noted g d now command Fault ≡ drops d (exchanged command Fault)
  fault-drops (Read at) = refl
  fault-drops (Write at fresh) = refl
  fault-drops (Swap at verify fresh) = refl

  -- a plain write changes nothing
  pub write-stays : (at : ℕ) (fresh : Sector) → IsBare d
      → noted g d now (Write at fresh) Done ≡ stays d (exchanged (Write at fresh) Done) d.notes
  write-stays at fresh bare = stays-by bare (exchanged (Write at fresh) Done) d.notes

  read-notes : (at : ℕ) (s : Sector) (notes : List Note) → IsBare d → noted_of d.own (slot_number g at) now s d.notes ≡ notes
      → noted g d now (Read at) (Got s) ≡ stays d (exchanged (Read at) (Got s)) notes
  read-notes at s notes bare are =
      stays-by bare (exchanged (Read at) (Got s)) (noted_of d.own (slot_number g at) now s d.notes)
      ∙ ap (λ l. stays d (exchanged (Read at) (Got s)) l) are

  -- a Read of the own slot changes nothing, and nor does one of a sector that is no slot
  pub read-own-stays : (own : Own) (s : Sector) → d.own ≡ Some own → own.slot < g.slots → IsBare d
      → noted g d now (Read (2 + own.slot)) (Got s) ≡ stays d (exchanged (Read (2 + own.slot)) (Got s)) d.notes
  read-own-stays own s holds within bare = read-notes (2 + own.slot) s d.notes bare (ap (λ o. noted_of o
      (slot_number g (2 + own.slot)) now s d.notes) holds ∙ ap (λ k. noted_of (Some own) k now s d.notes) (slot_number-of g own.slot within)
      ∙ ap (λ b. cond b d.notes (record { slot = own.slot; image = s; tick = now } ∷ d.notes)) (eq-eqb own.slot own.slot refl))

  pub read-elsewhere-stays : (at : ℕ) (s : Sector) → slot_number g at ≡ None → IsBare d
      → noted g d now (Read at) (Got s) ≡ stays d (exchanged (Read at) (Got s)) d.notes
  read-elsewhere-stays at s none bare = read-notes at s d.notes bare (ap (λ k. noted_of d.own k now s d.notes) none)

  -- one of another slot is noted
  pub read-slot-noted : (a : ℕ) (s : Sector) → a < g.slots → ((own : Own) → d.own ≡ Some own → own.slot ≢ a) → IsBare d
      → noted g d now (Read (2 + a)) (Got s)
      ≡ stays d (exchanged (Read (2 + a)) (Got s)) (record { slot = a; image = s; tick = now } ∷ d.notes)
  read-slot-noted a s within other bare =
      read-notes (2 + a) s (record { slot = a; image = s; tick = now } ∷ d.notes) bare (ap (λ k. noted_of d.own k now s d.notes)
      (slot_number-of g a within) ∙ by_own d.own other)
    where
      by_own : (o : Option Own) → ((own : Own) → o ≡ Some own → own.slot ≢ a) → noted_at o a now s d.notes
          ≡ record { slot = a; image = s; tick = now } ∷ d.notes
      by_own None apart = refl
      by_own (Some own) apart = ap (λ b. cond b d.notes (record { slot = a; image = s; tick = now } ∷ d.notes))
          (ne_eqb own.slot a (apart own refl))

  -- a Swap of a slot
  module _ (a : ℕ) (within : a < g.slots) (verify fresh : Sector) where
    abbrev slot_swap : Command
    slot_swap = Swap (2 + a) verify fresh

    owed-slot : owed_after g d.owed slot_swap Done ≡ d.owed
    owed-slot = ap (λ k. owed_swapped d.owed k (2 + a) fresh) (slot_number-of g a within)

    slot-done : (own : Option Own) → own_swapped d.own (Some a) now verify fresh ≡ own
        → noted g d now slot_swap Done
        ≡ went_on d (exchanged slot_swap Done) own (kept_under own d.owed) (kept_under own d.files) d.notes
    slot-done own is = noted-by slot_swap Done own d.owed
        (ap (λ k. own_swapped d.own k now verify fresh) (slot_number-of g a within) ∙ is) owed-slot

    slot-missed : (offset : ℕ) → own_missed d.own (Some a) ≡ None → noted g d now slot_swap (Miscompare offset)
        ≡ drops d (exchanged slot_swap (Miscompare offset))
    slot-missed offset is = noted-none slot_swap (Miscompare offset) (by_tail (is_some d.answer)) refl
      where
        by_tail : (b : Bool) → cond b None (own_missed d.own (slot_number g (2 + a))) ≡ None
        by_tail true = refl
        by_tail false = ap (own_missed d.own) (slot_number-of g a within) ∙ is

    -- a host without a generation enters it where its image becomes Live
    pub enter-done : (s : Slot) → d.own ≡ None → slot_in a fresh.bytes ≡ Some s → s.state ≡ Live
        → noted g d now slot_swap Done ≡ went_on d (exchanged slot_swap Done)
        (Some (record { slot = a; generation = s.generation; image = fresh; last = now; commits = 0 })) d.owed d.files d.notes
    enter-done s none spelled live =
        slot-done (Some (record { slot = a; generation = s.generation; image = fresh; last = now; commits = 0 })) (ap (λ o. own_swapped o
        (Some a) now verify fresh) none ∙ ap (entered a now fresh) spelled ∙ ap (entered_in a now fresh s.generation) live)

    pub enter-missed : (offset : ℕ) → d.own ≡ None
        → noted g d now slot_swap (Miscompare offset) ≡ drops d (exchanged slot_swap (Miscompare offset))
    enter-missed offset none = slot-missed offset (ap (λ o. own_missed o (Some a)) none)

    -- the own generation stands while another slot is swapped
    module _ (own : Own) (holds : d.own ≡ Some own) (other : own.slot ≢ a) where
      pub other-done : noted g d now slot_swap Done ≡ stays d (exchanged slot_swap Done) d.notes
      other-done =
          slot-done (Some own) (ap (λ o. own_swapped o (Some a) now verify fresh) holds
          ∙ ap (λ b. cond b (renewed own now fresh (commits_with a own.commits verify fresh) (slot_in a fresh.bytes)) (Some own))
          (ne_eqb own.slot a other))
          ∙ ap (λ o. went_on d (exchanged slot_swap Done) o d.owed d.files d.notes) (sym holds)

      pub other-missed : (offset : ℕ) → d.answer ≡ None
          → noted g d now slot_swap (Miscompare offset) ≡ stays d (exchanged slot_swap (Miscompare offset)) d.notes
      other-missed offset unanswered =
          noted-by slot_swap (Miscompare offset) (Some own) d.owed (ap (λ (w : Option HostAnswer). cond (is_some w) None
          (own_missed d.own (slot_number g (2 + a)))) unanswered ∙ ap (own_missed d.own) (slot_number-of g a within)
          ∙ ap (λ o. own_missed o (Some a)) holds ∙ ap (λ b. cond b None (Some own)) (ne_eqb own.slot a other)) refl
          ∙ ap (λ o. went_on d (exchanged slot_swap (Miscompare offset)) o d.owed d.files d.notes) (sym holds)

  -- a Swap of the own slot
  module _ (own : Own) (holds : d.own ≡ Some own) (within : own.slot < g.slots) (verify fresh : Sector) where
    abbrev own_swap : Command
    own_swap = Swap (2 + own.slot) verify fresh

    own-by : (s : Slot) → slot_in own.slot fresh.bytes ≡ Some s → own_swapped d.own (Some own.slot) now verify fresh
        ≡ renewed_in own now fresh (commits_with own.slot own.commits verify fresh) s.state
    own-by s spelled =
        ap (λ o. own_swapped o (Some own.slot) now verify fresh) holds
        ∙ ap (λ b. cond b (renewed own now fresh (commits_with own.slot own.commits verify fresh)
        (slot_in own.slot fresh.bytes)) (Some own)) (eq-eqb own.slot own.slot refl)
        ∙ ap (renewed own now fresh (commits_with own.slot own.commits verify fresh)) spelled

    -- where its image stays Live the generation goes on with it
    pub own-done : (s : Slot) (commits : ℕ) → slot_in own.slot fresh.bytes ≡ Some s → s.state ≡ Live
        → commits_with own.slot own.commits verify fresh ≡ commits
        → noted g d now own_swap Done
        ≡ went_on d (exchanged own_swap Done) (Some (renewed_own own now fresh commits)) d.owed d.files d.notes
    own-done s commits spelled live same =
        slot-done own.slot within verify fresh (Some (renewed_own own now fresh commits)) (own-by s spelled
        ∙ ap (renewed_in own now fresh (commits_with own.slot own.commits verify fresh)) live
        ∙ ap (λ n. Some (renewed_own own now fresh n)) same)

    pub beat-done : (s : Slot) → slot_in own.slot fresh.bytes ≡ Some s → s.state ≡ Live → s.journal ≡ Idle
        → noted g d now own_swap Done
        ≡ went_on d (exchanged own_swap Done) (Some (renewed_own own now fresh own.commits)) d.owed d.files d.notes
    beat-done s spelled live idle = own-done s own.commits spelled live (commits-same own.slot own.commits verify fresh (has_committed-none
        own.slot fresh.bytes s spelled idle))

    -- where it becomes Free the generation has ended
    pub leave-done : (s : Slot) → slot_in own.slot fresh.bytes ≡ Some s → s.state ≡ Free
        → noted g d now own_swap Done ≡ drops d (exchanged own_swap Done)
    leave-done s spelled free = slot-done own.slot within verify fresh None (own-by s spelled
        ∙ ap (renewed_in own now fresh (commits_with own.slot own.commits verify fresh)) free)

    pub own-missed : (offset : ℕ) → noted g d now own_swap (Miscompare offset) ≡ drops d (exchanged own_swap (Miscompare offset))
    own-missed offset =
        slot-missed own.slot within verify fresh offset (ap (λ o. own_missed o (Some own.slot)) holds ∙ ap (λ b. cond b None (Some own))
        (eq-eqb own.slot own.slot refl))

  -- a Swap of a header
  module _ (own : Own) (holds : d.own ≡ Some own) (object : ℕ) (verify fresh : Sector) where
    abbrev header_swap : Command
    header_swap = Swap (place_sector g (places.Header object)) verify fresh

    no-slot : slot_number g (place_sector g (places.Header object)) ≡ None
    no-slot = slot_number-beyond g (place_sector g (places.Header object)) (header-beyond g object)

    header-done : (h : Header) → header_in fresh.bytes ≡ Some h → noted g d now header_swap Done
        ≡ went_on d (exchanged header_swap Done) d.own (owed_by d.owed (place_sector g (places.Header object)) fresh h.owner)
        d.files d.notes
    header-done h spelled =
        noted-by header_swap Done (Some own) (owed_by d.owed (place_sector g (places.Header object)) fresh h.owner) (ap (λ k. own_swapped
        d.own k now verify fresh) no-slot ∙ holds) (ap (λ k. owed_swapped d.owed k (place_sector g (places.Header object)) fresh) no-slot
        ∙ ap (owed_in d.owed (place_sector g (places.Header object)) fresh) spelled)
        ∙ ap (λ o. went_on d (exchanged header_swap Done) o (owed_by d.owed (place_sector g (places.Header object)) fresh h.owner)
        d.files d.notes) (sym holds)

    -- one that is taken is owed
    pub lock-done : (h : Header) (owner : Owner) → header_in fresh.bytes ≡ Some h → h.owner ≡ Some owner
        → noted g d now header_swap Done ≡ went_on d (exchanged header_swap Done) d.own
        (record { at = place_sector g (places.Header object); image = fresh; is_new = true }
        ∷ owed_without (place_sector g (places.Header object)) d.owed) d.files d.notes
    lock-done h owner spelled owned =
        header-done h spelled ∙ ap (λ w. went_on d (exchanged header_swap Done) d.own
        (owed_by d.owed (place_sector g (places.Header object)) fresh w) d.files d.notes) owned

    -- and one that is given back isn't
    pub free-done : (h : Header) → header_in fresh.bytes ≡ Some h → h.owner ≡ None
        → noted g d now header_swap Done
        ≡ went_on d (exchanged header_swap Done) d.own (owed_without (place_sector g (places.Header object)) d.owed) d.files d.notes
    free-done h spelled none =
        header-done h spelled ∙ ap (λ w. went_on d (exchanged header_swap Done) d.own
        (owed_by d.owed (place_sector g (places.Header object)) fresh w) d.files d.notes) none

    -- one that misses changes nothing before the answer, and in a tail drops the generation
    pub header-missed : (offset : ℕ) → d.answer ≡ None
        → noted g d now header_swap (Miscompare offset) ≡ stays d (exchanged header_swap (Miscompare offset)) d.notes
    header-missed offset unanswered =
        noted-by header_swap (Miscompare offset) (Some own) d.owed (ap (λ (w : Option HostAnswer). cond (is_some w) None
        (own_missed d.own (slot_number g (place_sector g (places.Header object))))) unanswered ∙ ap (own_missed d.own) no-slot ∙ holds) refl
        ∙ ap (λ o. went_on d (exchanged header_swap (Miscompare offset)) o d.owed d.files d.notes) (sym holds)

  -- in a tail any Swap that misses drops the generation
  pub tail-missed : (at offset : ℕ) (verify fresh : Sector) (answer : HostAnswer) → d.answer ≡ Some answer
      → noted g d now (Swap at verify fresh) (Miscompare offset) ≡ drops d (exchanged (Swap at verify fresh) (Miscompare offset))
  tail-missed at offset verify fresh answer told =
      let by_tail : Option HostAnswer → Option Own = λ w. cond (is_some w) None (own_missed d.own (slot_number g at)) in
      noted-none (Swap at verify fresh) (Miscompare offset) (ap by_tail told) refl

-- the headers that are owed, without one
pub owed_without-none : (at : ℕ) (owed : List Owed) → ((o : Owed) → Contains owed o → o.at ≢ at) → owed_without at owed ≡ owed
owed_without-none at [] none = refl
owed_without-none at (o ∷ os) none =
    ap (λ b. cond (not b) (o ∷ owed_without at os) (owed_without at os)) (ne_eqb o.at at (none o (0, omega arith, refl)))
    ∙ ap (λ l. o ∷ l) (owed_without-none at os (λ p has. none p (suc has.0, omega (arith, has.1), has.2)))

pub owed_without-one : (at : ℕ) (xs ys : List Owed) (o : Owed) → o.at ≡ at → ((p : Owed) → Contains xs p → p.at ≢ at)
    → ((p : Owed) → Contains ys p → p.at ≢ at) → owed_without at (xs ++ o ∷ ys) ≡ xs ++ ys
owed_without-one at [] ys o same before after =
    ap (λ b. cond (not b) (o ∷ owed_without at ys) (owed_without at ys)) (eq-eqb o.at at same) ∙ owed_without-none at ys after
owed_without-one at (x ∷ xs) ys o same before after =
    ap (λ b. cond (not b) (x ∷ owed_without at (xs ++ o ∷ ys)) (owed_without at (xs ++ o ∷ ys))) (ne_eqb x.at at
    (before x (0, omega arith, refl)))
    ∙ ap (λ l. x ∷ l) (owed_without-one at xs ys o same (λ p has. before p (suc has.0, omega (arith, has.1), has.2)) after)

pub owed_without-last : (at : ℕ) (xs : List Owed) (o : Owed) → o.at ≡ at → ((p : Owed) → Contains xs p → p.at ≢ at)
    → owed_without at (xs ++ o ∷ []) ≡ xs
owed_without-last at xs o same none =
    owed_without-one at xs [] o same none (λ p has. absurd (let f : ⊥ = omega (arith, has.1) in f)) ∙ append-nil xs
