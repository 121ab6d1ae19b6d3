-- What a host sends and tells that gives a header back, in the tail of a call.
use Rattle.std.proofs.Common.{◌≡◌, ℕ, ◌&&◌, inl, inr, true, false, Option, Some, None, refl, sym, ◌∙◌, ap, subst, arith}
use Rattle.std.specs.Prelude.{⊤, not}
use Rattle.std.specs.List.{Contains}
use Rattle.std.proofs.lemmas.Bool.{and_from, and_parts, eq-eqb, ne_eqb, or_cases, or_left, or_right}
use Rattle.std.proofs.lemmas.Bool.Decides.{nat_tests}
use Rattle.ds_base.specs.declared.commands.Command.{Command}
use Rattle.ds_base.specs.declared.commands.Command.TheVariants.{Swap}
use Rattle.ds_base.specs.declared.commands.Response.TheVariants.{Done, Fault, Miscompare}
use Rattle.ds_base.specs.declared.names.Key.{Key}
use Rattle.ds_base.specs.declared.sectors.Sector.{Sector}
use Rattle.ds_layout.specs.Places.{IsLock, place_sector}
use Rattle.ds_layout.specs.declared.places.Place.TheVariants as places
use Rattle.ds_marks.specs.Header.{IsHeader, header_bytes}
use Rattle.ds_marks.specs.HeaderIn.{header_in}
use Rattle.ds_marks.specs.declared.header.Header.{Header}
use Rattle.ds_marks.proofs.HeaderIn.{header_in-is}
use Rattle.ds_tree.specs.declared.calls.CallOf.TheVariants.{OpenFile}
use Rattle.ds_tree.specs.declared.calls.HostCallOf.{HostCallOf}
use Rattle.ds_tree.specs.declared.calls.HostCallOf.TheVariants as calls
use Rattle.ds_tree.specs.declared.calls.TreeReply.TheVariants.{Gone, Opened}
use Rattle.ds_conduct.specs.Answers.{TellsFault, TellsMiss}
use Rattle.ds_conduct.specs.Conducts.{Answers}
use Rattle.ds_conduct.specs.Digests.{Digest, Own, Owed, noted, owed_without}
use Rattle.ds_conduct.specs.Guards.{ByClose, ByRemove, Closed, Frees, GiveBack, IsClosed, IsHeaderOf, IsOpened, MayGive, MaySend}
use Rattle.ds_conduct.specs.Guards.{OwnIdle, Taken}
use Rattle.ds_conduct.specs.Resting.{closed_file, is_given, is_header_of, opened_file}
use Rattle.ds_conduct.specs.Settings.{Setting}
use Rattle.ds_conduct.specs.declared.answers.HostAnswer.{HostAnswer}
use Rattle.ds_conduct.specs.declared.answers.HostAnswer.TheVariants.{DeviceFault, Plain, Tree}
use Rattle.ds_host_laws.proofs.Digests.{drops, exchanged, free-done, tail-missed, went_on}
use Rattle.ds_host_laws.proofs.Images.{below-replicate, header_in-encoded}

-- a header without its owner, in the same generation
abbrev pub freed_from : Header → Header
freed_from h = record { object = h.object; generation = h.generation; owner = None }

freed-is : (h : Header) → IsHeader h → IsHeader (freed_from h)
freed-is h is = record {
  widths = record { object_fits = is.widths.object_fits; owner_fits = tt };
  ranges = record { generation_to = is.ranges.generation_to; is_owner = tt };
}

freed-spelled : (h : Header) → IsHeader h → header_in (header_bytes (freed_from h)) ≡ Some (freed_from h)
freed-spelled h is = header_in-encoded (freed_from h) (freed-is h is) (below-replicate 16)

-- the answer is that a file was opened
abbrev pub IsOpening : HostAnswer → Type 0
IsOpening (Tree (Opened blocks)) = ⊤
IsOpening answer = ⊥

module _ (setting : Setting) (d : Digest) (now : ℕ) where
  -- the headers that a call took are given back, where it opened no file
  pub gives-taken : (owed : Owed) (answer : HostAnswer) → d.answer ≡ Some answer → (IsOpening answer → ⊥) → owed.is_new ≡ true
      → MayGive setting d now owed
  gives-taken owed answer told other new = Taken new (λ file opened here. other (
      let both : Some (Tree (Opened opened.blocks)) ≡ Some answer = sym opened.answer ∙ told in
      let same : Tree (Opened opened.blocks) ≡ answer = cc in
      subst IsOpening same tt))

  opened-is : (file : Key) → IsOpened setting d now file → opened_file d.call d.answer ≡ Some file
  opened-is file opened =
      ap (λ c. opened_file c d.answer) opened.call ∙ ap (opened_file (Some (calls.Tree (OpenFile file)))) opened.answer

  closed-by : (call : Option (HostCallOf Key)) (answer : Option HostAnswer) (file : Key) → d.call ≡ call → d.answer ≡ answer
      → closed_file call answer ≡ Some file → IsClosed setting d now file
  closed-by (Some (calls.Close key)) (Some Plain) file made told is =
      let same : key ≡ file = cc in subst (IsClosed setting d now) same (ByClose made told)
  closed-by (Some (calls.Tree call)) (Some (Tree (Gone key))) file made told is =
      let same : key ≡ file = cc in subst (IsClosed setting d now) same (ByRemove call made told)
  closed-by call answer file made told is = absurd (let f : ⊥ = cc in f)

  header-of : (file : Option Key) (at : ℕ) → is_header_of setting.geom file at ≡ true
      → (key : Key) × (file ≡ Some key) × IsHeaderOf setting.geom key at
  header-of None at test = absurd (let f : ⊥ = cc in f)
  header-of (Some key) at test = (key, refl, grind (arith, nat_tests))

  -- what the test of a tail says
  pub gives-given : (owed : Owed) → is_given setting.geom d owed ≡ true → MayGive setting d now owed
  gives-given owed test = elim (or_cases (owed.is_new && not (is_header_of setting.geom (opened_file d.call d.answer) owed.at))
      (is_header_of setting.geom (closed_file d.call d.answer) owed.at) test) [
        | inl taken ↦
            let both = and_parts owed.is_new (not (is_header_of setting.geom (opened_file d.call d.answer) owed.at)) taken in
            Taken both.0 (λ file opened here.
            let of : is_header_of setting.geom (opened_file d.call d.answer) owed.at ≡ true =
            ap (λ f. is_header_of setting.geom f owed.at) (opened-is file opened)
            ∙ eq-eqb owed.at (place_sector setting.geom (places.Header file.object)) here in
            let clash : not true ≡ true = ap not (sym of) ∙ both.1 in
            let f : ⊥ = cc in f)
        | inr closed ↦
            let file = header-of (closed_file d.call d.answer) owed.at closed in
            Closed file.0 (closed-by d.call d.answer file.0 refl refl file.1) file.2
      ]

  given-taken : (owed : Owed) → owed.is_new ≡ true → ((file : Key) → IsOpened setting d now file → IsHeaderOf setting.geom file owed.at → ⊥)
      → is_header_of setting.geom (opened_file d.call d.answer) owed.at ≡ false
  given-taken owed new none = by_file (opened_file d.call d.answer) refl
    where
      opened-of : (call : Option (HostCallOf Key)) (answer : Option HostAnswer) (file : Key) → d.call ≡ call → d.answer ≡ answer
          → opened_file call answer ≡ Some file → IsOpened setting d now file
      opened-of (Some (calls.Tree (OpenFile key))) (Some (Tree (Opened blocks))) file made told is =
          let same : key ≡ file = cc in
          subst (IsOpened setting d now) same (record { call = made; blocks = blocks; answer = told })
      opened-of call answer file made told is = absurd (let f : ⊥ = cc in f)

      by_file : (file : Option Key) → opened_file d.call d.answer ≡ file → is_header_of setting.geom file owed.at ≡ false
      by_file None is = refl
      by_file (Some file) is = ne_eqb owed.at (place_sector setting.geom (places.Header file.object)) (λ here. none file
          (opened-of d.call d.answer file refl refl is) here)

  closed-is : (file : Key) → IsClosed setting d now file → closed_file d.call d.answer ≡ Some file
  closed-is file (ByClose call answer) = ap (λ c. closed_file c d.answer) call ∙ ap (closed_file (Some (calls.Close file))) answer
  closed-is file (ByRemove c call answer) = ap (λ c. closed_file c d.answer) call ∙ ap (closed_file (Some (calls.Tree c))) answer

  -- and whatever may be given back passes it
  pub given-gives : (owed : Owed) → MayGive setting d now owed → is_given setting.geom d owed ≡ true
  given-gives owed (Taken new none) =
      or_left (owed.is_new && not (is_header_of setting.geom (opened_file d.call d.answer) owed.at)) (is_header_of setting.geom
      (closed_file d.call d.answer) owed.at) (and_from owed.is_new (not (is_header_of setting.geom
      (opened_file d.call d.answer) owed.at)) new (ap not (given-taken owed new none)))
  given-gives owed (Closed file closed here) =
      or_right (owed.is_new && not (is_header_of setting.geom (opened_file d.call d.answer) owed.at)) (is_header_of setting.geom
      (closed_file d.call d.answer) owed.at) (ap (λ f. is_header_of setting.geom f owed.at) (closed-is file closed)
      ∙ eq-eqb owed.at (place_sector setting.geom (places.Header file.object)) here)

  -- in a tail, with an idle journal, a header is owed that may be given back
  pub record Owes (own : Own) (owed : Owed) (answer : HostAnswer) (object : ℕ) (h : Header) : Type 0 where
    pub holds : d.own ≡ Some own
    pub answered : d.answer ≡ Some answer
    pub idle : OwnIdle setting d now own
    pub taken : Contains d.owed owed
    pub may : MayGive setting d now owed
    pub is_lock : IsLock setting.geom object
    pub here : owed.at ≡ place_sector setting.geom (places.Header object)
    pub spelled : header_in owed.image.bytes ≡ Some h
    pub same_object : h.object ≡ object

  module _ (own : Own) (owed : Owed) (answer : HostAnswer) (object : ℕ) (h : Header) (owes : Owes own owed answer object h)
      (fresh : Sector) (is : fresh.bytes ≡ header_bytes (freed_from h)) where
    abbrev give_swap : Command
    give_swap = Swap (place_sector setting.geom (places.Header object)) owed.image fresh

    fresh-spelled : header_in fresh.bytes ≡ Some (freed_from h)
    fresh-spelled = ap header_in is ∙ freed-spelled h (header_in-is owed.image.bytes h owes.spelled).0

    frees : Frees setting d now (place_sector setting.geom (places.Header object)) owed.image fresh
    frees = record {
      own = own;
      holds = owes.holds;
      answered = (answer, owes.answered);
      idle = owes.idle;
      owed = owed;
      taken = owes.taken;
      may = owes.may;
      same_place = owes.here;
      verified = refl;
      swap = record {
        object = object;
        is_lock = owes.is_lock;
        place = refl;
        old = h;
        new = freed_from h;
        was = owes.spelled;
        is = fresh-spelled;
        was_object = owes.same_object;
        same_object = owes.same_object;
      };
      none = refl;
      same_generation = refl;
    }

    -- its Swap gives it back, and whatever the response is, nothing is told
    pub give-sends : MaySend setting d now give_swap
    give-sends = GiveBack frees

    pub give-tells : Answers setting d now give_swap Done None
    give-tells = record { may = GiveBack frees; tells = refl }

    pub give-missed : (offset : ℕ) → Answers setting d now give_swap (Miscompare offset) None
    give-missed offset = record {
      may = GiveBack frees;
      tells = subst (λ a. TellsMiss setting d now a offset None) (sym owes.answered) refl;
    }

    pub give-faulted : Answers setting d now give_swap Fault None
    give-faulted = record { may = GiveBack frees; tells = subst (λ a. TellsFault a DeviceFault None) (sym owes.answered) refl }

    -- where it was done the header is no longer owed, and otherwise the generation is dropped
    pub give-turns : noted setting.geom d now give_swap Done ≡ went_on d (exchanged setting.geom d now give_swap Done) d.own
        (owed_without (place_sector setting.geom (places.Header object)) d.owed) d.files d.notes
    give-turns = free-done setting.geom d now own owes.holds object owed.image fresh (freed_from h) fresh-spelled refl

    pub give-missed-drops : (offset : ℕ) → noted setting.geom d now give_swap (Miscompare offset)
        ≡ drops d (exchanged setting.geom d now give_swap (Miscompare offset))
    give-missed-drops offset =
        tail-missed setting.geom d now (place_sector setting.geom (places.Header object)) offset owed.image fresh answer owes.answered
