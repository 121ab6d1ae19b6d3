-- Which outcome an image causes, and that it causes no other.
use Rattle.std.proofs.Common.{◌≡◌, ℕ, ◌<◌, ⊎_elim, inl, inr, List, [], ◌∷◌, length, refl, sym, ap, subst, ◌∙◌, arith, Option, Some, None}
use Rattle.std.specs.Prelude.{Result, Ok, Err, IfSome, slice_get}
use Rattle.ds_layout.specs.Volume.{IsVol, vol_bytes}
use Rattle.ds_base.specs.declared.sectors.Sector.{Sector}
use Rattle.ds_log.specs.LogValues.{LogValue}
use Rattle.ds_script.specs.declared.faults.What.TheVariants.{Bytes}
use Rattle.ds_check.specs.declared.findings.Find.{Find}
use Rattle.ds_check.specs.declared.checking.CheckFault.{CheckFault}
use Rattle.ds_check.specs.declared.checking.CheckFault.TheVariants as check_faults
use Rattle.ds_check.specs.Checks.{AreFindingsOf, IsCheckAnswer, IsCheckFault, OrNoMemory, VolumeStands}
use Rattle.ds_check.specs.Texts.{report_text}
use Rattle.ds_check.specs.Volumes.{IsBadImage}
use Rattle.ds_top.specs.declared.commands.Command.TheVariants.{Check, Tree}
use Rattle.ds_top.specs.declared.outcome.Why.{Why}
use Rattle.ds_top.specs.declared.outcome.Why.TheVariants.{Done, TooLarge, BadImage, Memory, Findings}
use Rattle.ds_top.specs.Causes.{CausesCheck, IsFree, OrFree, IsWritten}
use Rattle.ds_top.specs.Images.{IsImage, IsListing, CausesImage, most_image_bytes, why_of_finds}
use Rattle.ds_top.specs.Outcomes.{why_of_check}
use Rattle.ds_top.specs.Promise.{OfInput}
use Rattle.ds_top.specs.Runs.{IsCaused, IsMade, IsRefused, IsCausedByImage, IsMadeOfImage, IsRefusedOfImage, AreFound, TellsFindings, TellsTree, StandVolume}
use Rattle.ds_top.proofs.ImageLaws.{same_image}
use Rattle.ds_top.proofs.RunLaws.{read_to_end}

abbrev CheckResult : Type 0
CheckResult = Result (List Find) CheckFault

abbrev ok : List Find → CheckResult
ok finds = Ok finds

abbrev err : CheckFault → CheckResult
err fault = Err fault

-- no other answer than this one is an answer for the sectors, but for want of memory
abbrev pub IsOnlyCheck : List Sector → CheckResult → Type 0
IsOnlyCheck sectors result = (answer : CheckResult) → IsCheckAnswer sectors answer → OrNoMemory result (result ≡ answer)

same_finds : (sectors : List Sector) (finds other : List Find) → IsOnlyCheck sectors (ok finds) → AreFindingsOf sectors other → finds ≡ other
same_finds sectors finds other only h =
    ⊎_elim (λ (e : ok finds ≡ err check_faults.NoMemory). absurd (cc)) (λ (e : ok finds ≡ ok other). let same : finds ≡ other = cc in same) (only (ok other) h)

not_bad : (sectors : List Sector) (finds : List Find) (at : ℕ) → IsOnlyCheck sectors (ok finds) → IsBadImage sectors at → ⊥
not_bad sectors finds at only h =
    ⊎_elim (λ (e : ok finds ≡ err check_faults.NoMemory). absurd (cc)) (λ (e : ok finds ≡ err (check_faults.BadImage at)). absurd (cc))
    (only (err (check_faults.BadImage at)) h)

no_findings : (sectors : List Sector) (at : ℕ) (finds : List Find) → IsOnlyCheck sectors (err (check_faults.BadImage at)) → AreFindingsOf sectors finds → ⊥
no_findings sectors at finds only h =
    ⊎_elim (λ (e : err (check_faults.BadImage at) ≡ err check_faults.NoMemory). absurd (cc)) (λ (e : err (check_faults.BadImage at) ≡ ok finds). absurd (cc))
    (only (ok finds) h)

same_bad : (sectors : List Sector) (at other : ℕ) → IsOnlyCheck sectors (err (check_faults.BadImage at)) → IsBadImage sectors other → at ≡ other
same_bad sectors at other only h =
    ⊎_elim (λ (e : err (check_faults.BadImage at) ≡ err check_faults.NoMemory). absurd (cc))
    (λ (e : err (check_faults.BadImage at) ≡ err (check_faults.BadImage other)). let same : at ≡ other = cc in same)
    (only (err (check_faults.BadImage other)) h)

-- findings, if there are any, are told by their number
why_of_some : (finds : List Find) → 0 < length finds → why_of_finds finds ≡ Findings (length finds)
why_of_some [] some = absurd (omega (arith, some))
why_of_some (first ∷ more) some = refl

finds_cause : (sectors : List Sector) (left_over : ℕ) (finds : List Find) → left_over ≡ 0 → AreFindingsOf sectors finds
    → CausesImage sectors left_over (why_of_finds finds)
finds_cause sectors left_over [] none h = (none, h)
finds_cause sectors left_over (first ∷ more) none h =
    record { none_behind = none; finds = first ∷ more; findings = h; counted = refl; some = omega arith }

finds_only : (sectors : List Sector) (left_over : ℕ) (finds : List Find) (other : Why) → left_over ≡ 0 → IsOnlyCheck sectors (ok finds)
    → CausesImage sectors left_over other → OrFree (why_of_finds finds) (why_of_finds finds ≡ other)
finds_only sectors left_over finds Done none only h =
    let same : finds ≡ [] = same_finds sectors finds [] only h.1 in
    inr (ap why_of_finds same)
finds_only sectors left_over finds (Findings count) none only h =
    let same : finds ≡ h.finds = same_finds sectors finds h.finds only h.findings in
    inr (ap why_of_finds same ∙ why_of_some h.finds (omega (arith, h.some, h.counted)) ∙ ap Findings (sym h.counted))
finds_only sectors left_over finds (BadImage at) none only (inl bad) = absurd (not_bad sectors finds at only bad)
finds_only sectors left_over finds (BadImage at) none only (inr behind) = absurd (omega (arith, none, behind.some))
finds_only sectors left_over finds _ none only h = absurd h

-- sectors without bytes behind them, and their findings
pub are_found : (sectors : List Sector) (left_over : ℕ) (finds : List Find) → left_over ≡ 0 → AreFindingsOf sectors finds → IsOnlyCheck sectors (ok finds)
    → (finds ≡ [] → VolumeStands sectors) → AreFound sectors left_over finds
are_found sectors left_over finds none h only sound = record {
  none_behind = none;
  findings = h;
  sound = sound;
  caused = record { cause = inr (finds_cause sectors left_over finds none h); only = λ other h. finds_only sectors left_over finds other none only h };
}

behind_only : (sectors : List Sector) (left_over : ℕ) (finds : List Find) (other : Why) → 0 < left_over → IsOnlyCheck sectors (ok finds)
    → CausesImage sectors left_over other → OrFree (BadImage (length sectors)) (BadImage (length sectors) ≡ other)
behind_only sectors left_over finds Done some only h = absurd (omega (arith, some, h.0))
behind_only sectors left_over finds (Findings count) some only h = absurd (omega (arith, some, h.none_behind))
behind_only sectors left_over finds (BadImage at) some only (inl bad) = absurd (not_bad sectors finds at only bad)
behind_only sectors left_over finds (BadImage at) some only (inr behind) = inr (ap BadImage (sym behind.here))
behind_only sectors left_over finds _ some only h = absurd h

-- sectors with bytes behind them
pub behind_refused : (sectors : List Sector) (left_over : ℕ) (finds : List Find) → 0 < left_over → AreFindingsOf sectors finds → IsOnlyCheck sectors (ok finds)
    → IsRefusedOfImage sectors left_over (BadImage (length sectors))
behind_refused sectors left_over finds some h only = record {
  caused = record {
    cause = inr (inr (record { some = some; finds = finds; volume = h; here = refl }));
    only = λ other h. behind_only sectors left_over finds other some only h;
  };
  refusal = tt;
  words = λ e. absurd (cc);
  read = λ e. absurd (cc);
}

bad_only : (sectors : List Sector) (left_over at : ℕ) (other : Why) → IsOnlyCheck sectors (err (check_faults.BadImage at))
    → CausesImage sectors left_over other → OrFree (BadImage at) (BadImage at ≡ other)
bad_only sectors left_over at Done only h = absurd (no_findings sectors at [] only h.1)
bad_only sectors left_over at (Findings count) only h = absurd (no_findings sectors at h.finds only h.findings)
bad_only sectors left_over at (BadImage other) only (inl bad) = inr (ap BadImage (same_bad sectors at other only bad))
bad_only sectors left_over at (BadImage other) only (inr behind) = absurd (no_findings sectors at behind.finds only behind.volume)
bad_only sectors left_over at _ only h = absurd h

-- sectors that aren't those of a volume
pub bad_refused : (sectors : List Sector) (left_over at : ℕ) → IsBadImage sectors at → IsOnlyCheck sectors (err (check_faults.BadImage at))
    → IsRefusedOfImage sectors left_over (BadImage at)
bad_refused sectors left_over at bad only = record {
  caused = record { cause = inr (inl bad); only = λ other h. bad_only sectors left_over at other only h };
  refusal = tt;
  words = λ e. absurd (cc);
  read = λ e. absurd (cc);
}

pub memory_refused_image : (sectors : List Sector) (left_over : ℕ) → IsRefusedOfImage sectors left_over Memory
memory_refused_image sectors left_over = record {
  caused = record { cause = inl tt; only = λ other h. inl tt };
  refusal = tt;
  words = λ e. absurd (cc);
  read = λ e. absurd (cc);
}

-- sectors that weren't checked
pub check_refused : (sectors : List Sector) (left_over : ℕ) (fault : CheckFault) → IsCheckFault sectors fault → IsOnlyCheck sectors (err fault)
    → IsRefusedOfImage sectors left_over (why_of_check fault)
check_refused sectors left_over (check_faults.BadImage at) h only = bad_refused sectors left_over at h only
check_refused sectors left_over check_faults.NoMemory h only = memory_refused_image sectors left_over

-- a run that wrote findings, or that there are none, wrote its output
finds_written : (finds : List Find) → IsWritten (why_of_finds finds)
finds_written [] = tt
finds_written (first ∷ more) = tt

-- the text of what was found
pub finds_made : (sectors : List Sector) (left_over : ℕ) (finds : List Find) (why : Why) (log : Option LogValue) (text : List ℕ) → AreFound sectors left_over finds
    → (why ≡ why_of_finds finds) × (log ≡ None) × (text ≡ report_text finds) → IsMadeOfImage TellsFindings sectors left_over why log text
finds_made sectors left_over finds why log text found made = record {
  none_behind = found.none_behind;
  no_log = made.1;
  tells = record { finds = finds; findings = found.findings; told = made.0; is_report = made.2 };
  written = subst IsWritten (sym made.0) (finds_written finds);
  caused = subst (λ (w : Why). IsCausedByImage sectors left_over w) (sym made.0) found.caused;
}

image_causes : (bytes : List ℕ) (sectors : List Sector) (left_over : ℕ) (why : Why) → IsImage bytes sectors left_over → CausesImage sectors left_over why
    → CausesCheck bytes why
image_causes bytes sectors left_over (TooLarge Bytes) image h = absurd h
image_causes bytes sectors left_over why image h = record { sectors = sectors; left_over = left_over; image = image; causes = h }

image_only : (bytes : List ℕ) (sectors : List Sector) (left_over : ℕ) (why other : Why) → IsImage bytes sectors left_over
    → IsCausedByImage sectors left_over why → CausesCheck bytes other → OrFree why (why ≡ other)
image_only bytes sectors left_over why (TooLarge Bytes) image caused h = absurd (omega (arith, image.few, h))
image_only bytes sectors left_over why other image caused h =
    let same = same_image bytes h.sectors sectors h.left_over left_over h.image image in
    caused.only other (subst (λ (n : ℕ). CausesImage sectors n other) same.1 (subst (λ (list : List Sector). CausesImage list h.left_over other) same.0 h.causes))

image_caused : (bytes : List ℕ) (sectors : List Sector) (left_over : ℕ) (why : Why) → IsImage bytes sectors left_over → IsCausedByImage sectors left_over why
    → IsCaused Check bytes why
image_caused bytes sectors left_over why image caused = record {
  cause = ⊎_elim (λ (free : IsFree why). inl free) (λ h. inr (image_causes bytes sectors left_over why image h)) caused.cause;
  only = λ other h. image_only bytes sectors left_over why other image caused h;
}

input_caused : (left left' : Option (List ℕ)) (sectors : List Sector) (left_over : ℕ) (why : Why) (it : OfInput left left' (λ bytes. IsImage bytes sectors left_over))
    → IsCausedByImage sectors left_over why → IfSome left (λ bytes. IsCaused Check bytes why)
input_caused None left' sectors left_over why it caused = tt
input_caused (Some all) left' sectors left_over why it caused =
    subst (λ (bytes : List ℕ). IsCaused Check bytes why) (sym it.read.0) (image_caused it.input sectors left_over why it.holds caused)

pub image_made : (left left' : Option (List ℕ)) (sectors : List Sector) (left_over : ℕ) (why : Why) (log : Option LogValue) (text : List ℕ)
    → OfInput left left' (λ bytes. IsImage bytes sectors left_over) → IsMadeOfImage TellsFindings sectors left_over why log text → IsMade Check left left' why log text
image_made left left' sectors left_over why log text it made = record {
  made = record {
    input = it.input;
    read = it.read;
    holds = (
      made.no_log,
      record {
        sectors = sectors;
        image = subst (λ (n : ℕ). IsImage it.input sectors n) made.none_behind it.holds;
        holds = made.tells;
      },
    );
  };
  caused = input_caused left left' sectors left_over why it made.caused;
  written = made.written;
}

pub image_refused : (left left' : Option (List ℕ)) (faults faults' : ℕ) (sectors : List Sector) (left_over : ℕ) (why : Why)
    → OfInput left left' (λ bytes. IsImage bytes sectors left_over) → IsRefusedOfImage sectors left_over why → IsRefused Check left left' faults faults' why
image_refused left left' faults faults' sectors left_over why it refused = record {
  caused = input_caused left left' sectors left_over why it refused.caused;
  refusal = refused.refusal;
  words = refused.words;
  read_fault = λ e. absurd (refused.read e);
  whole = λ h. read_to_end left left' _ it;
}

large_only : (bytes : List ℕ) (other : Why) → most_image_bytes < length bytes → CausesCheck bytes other → OrFree (TooLarge Bytes) (TooLarge Bytes ≡ other)
large_only bytes (TooLarge Bytes) over h = inr refl
large_only bytes other over h = absurd (omega (arith, over, h.image.few))

-- an image of too many bytes
pub image_too_large : (bytes : List ℕ) → most_image_bytes < length bytes → IsCaused Check bytes (TooLarge Bytes)
image_too_large bytes over = record { cause = inr over; only = λ other h. large_only bytes other over h }

-- what is caused where an image is checked is caused where it is listed
tree_caused : (left : Option (List ℕ)) (why : Why) → IfSome left (λ bytes. IsCaused Check bytes why) → IfSome left (λ bytes. IsCaused Tree bytes why)
tree_caused None why h = tt
tree_caused (Some bytes) why h = record { cause = h.cause; only = h.only }

pub tree_refused : (left left' : Option (List ℕ)) (faults faults' : ℕ) (why : Why) → IsRefused Check left left' faults faults' why
    → IsRefused Tree left left' faults faults' why
tree_refused left left' faults faults' why it = record {
  caused = tree_caused left why it.caused;
  refusal = it.refusal;
  words = it.words;
  read_fault = it.read_fault;
  whole = it.whole;
}

pub image_listed : (left left' : Option (List ℕ)) (sectors : List Sector) (left_over : ℕ) (why : Why) (log : Option LogValue) (text : List ℕ)
    → OfInput left left' (λ bytes. IsImage bytes sectors left_over) → IsMadeOfImage TellsTree sectors left_over why log text → IsMade Tree left left' why log text
image_listed left left' sectors left_over why log text it made = record {
  made = record {
    input = it.input;
    read = it.read;
    holds = (
      made.no_log,
      record {
        sectors = sectors;
        image = subst (λ (n : ℕ). IsImage it.input sectors n) made.none_behind it.holds;
        holds = made.tells;
      },
    );
  };
  caused = tree_caused left why (input_caused left left' sectors left_over why it made.caused);
  written = made.written;
}

-- a volume in which nothing is found
pub stands_clean : (sectors : List Sector) (left_over : ℕ) (finds : List Find) → finds ≡ [] → AreFound sectors left_over finds → StandVolume sectors
stands_clean sectors left_over finds none found = record {
  geom = found.findings.geom;
  id = found.findings.id;
  volume = found.findings.volume;
  stands = found.sound none found.findings.geom found.findings.id found.findings.volume;
}

tree_made : (sectors : List Sector) (left_over : ℕ) (finds : List Find) (why : Why) (log : Option LogValue) (text : List ℕ) → AreFound sectors left_over finds
    → why ≡ why_of_finds finds → log ≡ None → IsListing sectors finds text → IsMadeOfImage TellsTree sectors left_over why log text
tree_made sectors left_over finds why log text found told no_log listed = record {
  none_behind = found.none_behind;
  no_log = no_log;
  tells = record { finds = finds; findings = found.findings; told = told; is_listing = listed };
  written = subst IsWritten (sym told) (finds_written finds);
  caused = subst (λ (w : Why). IsCausedByImage sectors left_over w) (sym told) found.caused;
}

-- the listing of a volume in which nothing is found
pub listing_made : (sectors : List Sector) (left_over : ℕ) (finds : List Find) (why : Why) (log : Option LogValue) (text : List ℕ) → finds ≡ []
    → AreFound sectors left_over finds → (why ≡ Done) × (log ≡ None) × IsListing sectors [] text → IsMadeOfImage TellsTree sectors left_over why log text
listing_made sectors left_over finds why log text none found made =
    tree_made sectors left_over finds why log text found (made.0 ∙ ap why_of_finds (sym none)) made.1
    (subst (λ (list : List Find). IsListing sectors list text) (sym none) made.2)

listed_finds : (sectors : List Sector) (finds : List Find) (text : List ℕ) → (finds ≡ [] → ⊥) → text ≡ report_text finds → IsListing sectors finds text
listed_finds sectors [] text some is = absurd (some refl)
listed_finds sectors (first ∷ more) text some is = is

-- the text of what was found where a tree was to be listed
pub tree_finds_made : (sectors : List Sector) (left_over : ℕ) (finds : List Find) (why : Why) (log : Option LogValue) (text : List ℕ) → (finds ≡ [] → ⊥)
    → AreFound sectors left_over finds → (why ≡ why_of_finds finds) × (log ≡ None) × (text ≡ report_text finds)
    → IsMadeOfImage TellsTree sectors left_over why log text
tree_finds_made sectors left_over finds why log text some found made =
    tree_made sectors left_over finds why log text found made.0 made.1 (listed_finds sectors finds text some made.2)

-- the first sector of a volume is its information
pub first_volume : (sectors : List Sector) (first : Sector) → Some first ≡ slice_get sectors 0 → (v : StandVolume sectors)
    → IsVol v.geom v.id × (first.bytes ≡ vol_bytes v.geom v.id)
first_volume sectors first is v =
    let info = v.volume.spelled.1 in
    let there : slice_get sectors 0 ≡ Some info.0 = info.1 in
    let same : first ≡ info.0 = cc in
    (v.volume.spelled.0, ap (λ (s : Sector). s.bytes) same ∙ info.2)

pub none_left : {A : Type 0} (list : List A) → length list ≡ 0 → list ≡ []
none_left [] e = refl
none_left (x ∷ list) e = absurd (omega (arith, e))
