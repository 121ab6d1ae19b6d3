-- A text as one volume line: where it is refused, its first line that can't stand is told; where it is read, it is that line alone.
use Rattle.std.proofs.Common.{◌≡◌, ℕ, ◌+◌, ◌≤◌, ◌<◌, ◌⊎◌, inl, inr, Bool, true, false, List, [], ◌∷◌, length, get_or, take, drop, Result, Ok, Err, Some, None, refl, ap, sym, ◌∙◌, subst, arith}
use Rattle.std.specs.Prelude.{nat_lt, if◌then◌else◌}
use Rattle.std.specs.List.{AllZip}
use Rattle.std.proofs.lemmas.Bool.{le-ltb, lt-ltb, cases_lt, cases_order}
use Rattle.ds_base.specs.declared.geometry.Geom.{Geom}
use Rattle.ds_layout.specs.Places.{total_of}
use Rattle.ds_tree.specs.Lines.{Words, lines_of, words_of, is_comment, kept}
use Rattle.ds_tree.specs.Grammar.{most_bytes, Item, Volume, SpellsItem, SpellsVolume}
use Rattle.ds_script.specs.declared.faults.LineFault.{LineFault}
use Rattle.ds_script.specs.declared.faults.LineFault.TheVariants as faults
use Rattle.ds_script.specs.declared.faults.ScriptFault.{ScriptFault}
use Rattle.ds_script.specs.declared.faults.ScriptFault.TheVariants.{BadLine, TooLarge, Stuck, NoMemory}
use Rattle.ds_script.specs.declared.faults.What.{What}
use Rattle.ds_script.specs.declared.faults.What.TheVariants as whats
use Rattle.ds_script.specs.Answers.{IsVolumeText, IsVolumeAnswer, HasBadLine, IsTooLarge}
use Rattle.ds_script.specs.Faults.{most_sectors, Trouble, Bad, Large, in_volume, trouble_at, IsFirst, PassesLimit}
use Rattle.ds_script.specs.Reading.{◌>>=◌, volume_line_at, volume_read, first_read, none_read, only_volume_read, volume_text_read, within_bytes}
use Rattle.ds_script.proofs.LimitLaws.{trouble_not_bytes}
use Rattle.ds_script.proofs.FirstTroubles.{IsGood, good_not_bad, good_not_large, bad_not_large, same_large}
use Rattle.ds_script.proofs.LineOrder.{refusal, passed_stands, IsAt, line_at, trouble_here}
use Rattle.ds_script.proofs.LineSteps.{first_read-none, first_read-passed, first_read-ok, first_read-err, none_read-none, none_read-passed, none_read-kept}
use Rattle.ds_script.proofs.NextKept.{NoneKept, NextKept, is_inside, next_kept, kept_to, kept_around}
use Rattle.ds_script.proofs.Rightly.{ReadsRightly}
use Rattle.ds_script.proofs.TextAnswers.{volume_answered, only_volume_answered}
use Rattle.ds_script.proofs.TextLaws.{VolumeStands, VolumeGives, volume_gives, Lacks, HasFault, first_told, lacks_told}
use Rattle.ds_script.proofs.VolumeLaws.{SaysVolume, volume_line_again}

abbrev Read : Type 0
Read = Result (List ℕ × Geom) ScriptFault

abbrev First : Type 0
First = Result ((List ℕ × Geom) × ℕ × List (List ℕ)) ScriptFault

-- the text is one line that is kept, of a volume that isn't too large
record IsOneLine (lines : List (List ℕ)) (volume : List ℕ × Geom) : Type 0 where
  line : List ℕ
  alone : kept lines ≡ words_of line ∷ []
  says : SaysVolume (words_of line) volume
  few : total_of volume.1 ≤ most_sectors
  stand : (k : ℕ) → trouble_at in_volume lines k ≡ None

-- the first line that can't stand is told
record IsToldFirst (lines : List (List ℕ)) (f : ScriptFault) : Type 0 where
  k : ℕ
  why : Trouble
  first : IsFirst in_volume lines k why
  told : f ≡ refusal (k + 1) why

abbrev TextGives : List (List ℕ) → Read → Type 0
TextGives lines (Ok volume) = IsOneLine lines volume
TextGives lines (Err f) = IsToldFirst lines f ⊎ Lacks lines f

abbrev lines_read : First → Read
lines_read r = r >>= (λ first. only_volume_read first.0 first.1 first.2)

first_passes : (n : ℕ) (line : List ℕ) (behind : List (List ℕ)) → is_comment (words_of line) ≡ true
    → first_read n (line ∷ behind) ≡ first_read (n + 1) behind
first_passes n line behind is = first_read-passed n (line ∷ behind) line behind refl is

none_passes : (n : ℕ) (line : List ℕ) (behind : List (List ℕ)) → is_comment (words_of line) ≡ true
    → none_read n (line ∷ behind) ≡ none_read (n + 1) behind
none_passes n line behind is = none_read-passed n (line ∷ behind) line behind refl is

abbrev NextFirst : List (List ℕ) → Type 0
NextFirst lines = NextKept First first_read lines lines 0

abbrev NoneBehind : List (List ℕ) → List (List ℕ) → ℕ → Type 0
NoneBehind lines behind n = NoneKept (Result Unit ScriptFault) none_read lines behind n

abbrev NextBehind : List (List ℕ) → List (List ℕ) → ℕ → Type 0
NextBehind lines behind n = NextKept (Result Unit ScriptFault) none_read lines behind n

volume_again : (number : ℕ) (ws : Words) (volume : List ℕ × Geom) → SaysVolume ws volume → total_of volume.1 ≤ most_sectors
    → volume_read number ws ≡ Ok volume
unfolding volume_read
volume_again number ws volume says few =
    let fits : nat_lt most_sectors (total_of volume.1) ≡ false = le-ltb _ _ few in rw (volume_line_again ws volume says, fits) refl

volume_large : (number : ℕ) (ws : Words) (volume : List ℕ × Geom) → SaysVolume ws volume → most_sectors < total_of volume.1
    → volume_read number ws ≡ Err (TooLarge whats.Volume)
unfolding volume_read
volume_large number ws volume says many =
    let passes : nat_lt most_sectors (total_of volume.1) ≡ true = lt-ltb _ _ many in rw (volume_line_again ws volume says, passes) refl

module _ (lines : List (List ℕ)) where
  -- The line that is kept first.

  module _ (first : NextFirst lines) where
    abbrev ws : Words
    ws = words_of first.line

    place : IsAt lines first.k first.line first.behind
    place = line_at lines first.k first.line first.behind first.at

    front_to : kept (take (first.k + 1) lines) ≡ ws ∷ []
    front_to = kept_to lines first.k first.line first.behind [] place first.front first.keeps

    -- a line behind it that is kept is bad
    second_bad : (volume : List ℕ × Geom) → VolumeStands ws first.behind volume → NextBehind lines first.behind (first.k + 1)
        → TextGives lines (only_volume_read volume (first.k + 1 + 1) first.behind)
    second_bad volume h second =
        let there = line_at lines second.k second.line second.behind second.at in
        let read : none_read (first.k + 1 + 1) first.behind ≡ Err (BadLine (second.k + 1) faults.Volume) =
        second.walked ∙ none_read-kept (second.k + 1) (second.line ∷ second.behind) second.line second.behind refl second.keeps in
        let bad : trouble_at in_volume lines second.k ≡ Some (Bad faults.Volume) =
        trouble_here in_volume lines second.k second.line second.behind (ws ∷ []) there (second.front ∙ front_to) second.keeps in
        let here : trouble_at in_volume lines first.k ≡ None =
        trouble_here in_volume lines first.k first.line first.behind [] place first.front first.keeps ∙ h.none in
        let told : TextGives lines (Err (BadLine (second.k + 1) faults.Volume)) = inl (record {
          k = second.k;
          why = Bad faults.Volume;
          first = record {
            stands_not = bad;
            first = λ j less. elim (cases_order j first.k) [
              | inl same ↦ ap (trouble_at in_volume lines) same ∙ here
              | inr (inl early) ↦ passed_stands in_volume lines j (first.passed j (omega arith) early)
              | inr (inr late) ↦ passed_stands in_volume lines j (second.passed j (omega (arith, late)) less)
            ];
          };
          told = refl;
        }) in
        subst (λ (r : Result Unit ScriptFault). TextGives lines (r >>= (λ none. Ok volume))) (sym read) told

    -- where there is none, it is the text
    alone_read : (volume : List ℕ × Geom) → VolumeStands ws first.behind volume → NoneBehind lines first.behind (first.k + 1)
        → TextGives lines (only_volume_read volume (first.k + 1 + 1) first.behind)
    alone_read volume h none =
        let read : none_read (first.k + 1 + 1) first.behind ≡ Ok tt = none.walked ∙ none_read-none (length lines + 1) [] refl in
        let here : trouble_at in_volume lines first.k ≡ None =
        trouble_here in_volume lines first.k first.line first.behind [] place first.front first.keeps ∙ h.none in
        let one : IsOneLine lines volume = record {
          line = first.line;
          alone = none.front ∙ front_to;
          says = h.says;
          few = h.few;
          stand = λ j. elim (cases_order j first.k) [
            | inl same ↦ ap (trouble_at in_volume lines) same ∙ here
            | inr (inl early) ↦ passed_stands in_volume lines j (first.passed j (omega arith) early)
            | inr (inr late) ↦ passed_stands in_volume lines j (none.passed j (omega (arith, late)))
          ];
        } in
        subst (λ (r : Result Unit ScriptFault). TextGives lines (r >>= (λ none. Ok volume))) (sym read) one

    behind_gives : (volume : List ℕ × Geom) → VolumeStands ws first.behind volume
        → NoneBehind lines first.behind (first.k + 1) ⊎ NextBehind lines first.behind (first.k + 1)
        → TextGives lines (only_volume_read volume (first.k + 1 + 1) first.behind)
    behind_gives volume h (inl none) = alone_read volume h none
    behind_gives volume h (inr second) = second_bad volume h second

    next_behind : NoneBehind lines first.behind (first.k + 1) ⊎ NextBehind lines first.behind (first.k + 1)
    next_behind =
        let inside : first.k < length lines = is_inside lines first.k first.line first.behind first.at in
        next_kept (Result Unit ScriptFault) none_read none_passes lines first.behind (first.k + 1) place.later (omega (arith, inside))

    volume_then : (r : Read) → volume_read (first.k + 1) ws ≡ r → VolumeGives (first.k + 1) ws first.behind r
        → TextGives lines (lines_read (first_read (first.k + 1) (first.line ∷ first.behind)))
    volume_then (Err f) read h =
        let so = first_read-err (first.k + 1) (first.line ∷ first.behind) first.line first.behind f refl first.keeps read in
        let told : TextGives lines (Err f) = inl (record {
          k = first.k;
          why = h.why;
          first = record {
            stands_not = trouble_here in_volume lines first.k first.line first.behind [] place first.front first.keeps ∙ h.is;
            first = λ j less. passed_stands in_volume lines j (first.passed j (omega arith) less);
          };
          told = h.told;
        }) in
        subst (λ (r : First). TextGives lines (lines_read r)) (sym so) told
    volume_then (Ok volume) read h =
        let so = first_read-ok (first.k + 1) (first.line ∷ first.behind) first.line first.behind volume refl first.keeps read in
        subst (λ (r : First). TextGives lines (lines_read r)) (sym so) (behind_gives volume h next_behind)

  by_first : NoneKept First first_read lines lines 0 ⊎ NextFirst lines → TextGives lines (lines_read (first_read 1 lines))
  by_first (inl none) =
      let so : first_read 1 lines ≡ Err (BadLine (length lines + 1) faults.Volume) =
      none.walked ∙ first_read-none (length lines + 1) [] refl in
      let lacks : TextGives lines (Err (BadLine (length lines + 1) faults.Volume)) = inr (record { none = none.front; told = refl }) in
      subst (λ (r : First). TextGives lines (lines_read r)) (sym so) lacks
  by_first (inr first) =
      subst (λ (r : First). TextGives lines (lines_read r)) (sym first.walked)
      (volume_then first (volume_read (first.k + 1) (words_of first.line)) refl
      (volume_gives (first.k + 1) (words_of first.line) first.behind first.keeps))

  next_first : NoneKept First first_read lines lines 0 ⊎ NextFirst lines
  next_first = next_kept First first_read first_passes lines lines 0 refl (omega arith)

  text_gives : TextGives lines (lines_read (first_read 1 lines))
  text_gives = by_first next_first

  -- A volume line alone is read as it.

  module _ (words : Words) (volume : List ℕ × Geom) (alone : kept lines ≡ words ∷ []) (says : SaysVolume words volume)
      (few : total_of volume.1 ≤ most_sectors) where
    same_words : (first : NextFirst lines) → words_of first.line ≡ words
    same_words first =
        let both : words_of first.line ∷ kept first.behind ≡ words ∷ [] =
        sym (kept_around lines first.k first.line first.behind [] (place first) first.front first.keeps) ∙ alone in
        cc

    one_only : (first : NextFirst lines) → NextBehind lines first.behind (first.k + 1) → ⊥
    one_only first second =
        let there = line_at lines second.k second.line second.behind second.at in
        let both : words_of first.line ∷ words_of second.line ∷ kept second.behind ≡ words ∷ [] =
        sym (kept_around lines second.k second.line second.behind (words_of first.line ∷ []) there (second.front ∙ front_to first) second.keeps) ∙ alone in
        absurd cc

    behind_again : (first : NextFirst lines) → NoneBehind lines first.behind (first.k + 1) ⊎ NextBehind lines first.behind (first.k + 1)
        → none_read (first.k + 1 + 1) first.behind ≡ Ok tt
    behind_again first (inl none) = none.walked ∙ none_read-none (length lines + 1) [] refl
    behind_again first (inr second) = absurd (one_only first second)

    by_first_again : NoneKept First first_read lines lines 0 ⊎ NextFirst lines → lines_read (first_read 1 lines) ≡ Ok volume
    by_first_again (inl none) = let both : words ∷ [] ≡ [] = sym alone ∙ none.front in absurd cc
    by_first_again (inr first) =
        let says_first : SaysVolume (words_of first.line) volume = subst (λ ws. SaysVolume ws volume) (sym (same_words first)) says in
        let read = volume_again (first.k + 1) (words_of first.line) volume says_first few in
        let so : first_read 1 lines ≡ Ok (volume, first.k + 1 + 1, first.behind) =
        first.walked ∙ first_read-ok (first.k + 1) (first.line ∷ first.behind) first.line first.behind volume refl first.keeps read in
        ap lines_read so ∙ ap (λ (r : Result Unit ScriptFault). r >>= (λ none. Ok volume)) (behind_again first (next_behind first))

    again : lines_read (first_read 1 lines) ≡ Ok volume
    again = by_first_again next_first

  -- A volume line alone of a volume that is too large is told.

  module _ (words : Words) (volume : List ℕ × Geom) (alone : kept lines ≡ words ∷ []) (says : SaysVolume words volume)
      (many : most_sectors < total_of volume.1) where
    by_first_told : NoneKept First first_read lines lines 0 ⊎ NextFirst lines → lines_read (first_read 1 lines) ≡ Err (TooLarge whats.Volume)
    by_first_told (inl none) = let both : words ∷ [] ≡ [] = sym alone ∙ none.front in absurd cc
    by_first_told (inr first) =
        let around : words_of first.line ∷ kept first.behind ≡ words ∷ [] =
        sym (kept_around lines first.k first.line first.behind [] (place first) first.front first.keeps) ∙ alone in
        let same : words_of first.line ≡ words = cc in
        let says_first : SaysVolume (words_of first.line) volume = subst (λ ws. SaysVolume ws volume) (sym same) says in
        let read = volume_large (first.k + 1) (words_of first.line) volume says_first many in
        let so : first_read 1 lines ≡ Err (TooLarge whats.Volume) =
        first.walked ∙ first_read-err (first.k + 1) (first.line ∷ first.behind) first.line first.behind (TooLarge whats.Volume) refl first.keeps read in
        ap lines_read so

    large_told : lines_read (first_read 1 lines) ≡ Err (TooLarge whats.Volume)
    large_told = by_first_told next_first

-- What a text of a volume owes.

fault_told : (lines : List (List ℕ)) (f : ScriptFault) → TextGives lines (Err f) → HasFault in_volume lines f
fault_told lines f (inl h) = first_told in_volume lines h.k h.why f h.first h.told
fault_told lines f (inr lacks) = lacks_told in_volume lines f lacks

not_bytes : (before : List Words) (ws : Words) (behind : List (List ℕ)) (b : Bool)
    → (if b then None else in_volume before ws behind) ≡ Some (Large whats.Bytes) → ⊥
not_bytes [] ws behind b e = trouble_not_bytes [] ws behind b e
not_bytes (first ∷ before) ws behind true e = cc
not_bytes (first ∷ before) ws behind false e = cc

no_line_of_bytes : (lines : List (List ℕ)) → PassesLimit in_volume lines whats.Bytes → ⊥
no_line_of_bytes lines h =
    let ws = words_of (get_or lines h.0 []) in
    not_bytes (kept (take h.0 lines)) ws (drop (h.0 + 1) lines) (is_comment ws) h.1.stands_not

-- the words of the one line, and the item that they write out
one_spelled : (R : Words → Item → Type 0) (lines : List Words) (item : Item) → AllZip R lines (item ∷ [])
    → (words : Words) × (lines ≡ words ∷ []) × R words item
one_spelled R [] item h = absurd h
one_spelled R (words ∷ []) item h = (words, refl, h.0)
one_spelled R (words ∷ more ∷ lines) item h = absurd h.1

module _ (bytes : List ℕ) where
  gives : TextGives (lines_of bytes) (volume_text_read bytes)
  unfolding volume_text_read
  gives = text_gives (lines_of bytes)

  gives_so : (r : Read) → volume_text_read bytes ≡ r → TextGives (lines_of bytes) r
  gives_so r e = subst (λ r. TextGives (lines_of bytes) r) e gives

  text_again : (volume : List ℕ × Geom) → IsVolumeText bytes volume.0 volume.1 → volume_text_read bytes ≡ Ok volume
  unfolding volume_text_read
  text_again volume h =
      let one = one_spelled (SpellsItem []) (kept (lines_of bytes)) (Volume volume.0 volume.1) h.spells.lines in
      let says : SaysVolume one.0 volume = record { spells = one.2; four = h.spells.four; geometry = h.spells.geometry } in
      again (lines_of bytes) one.0 volume one.1 says h.few_sectors

  text_takes : length bytes ≤ most_bytes → (volume : List ℕ × Geom) → IsOneLine (lines_of bytes) volume
      → IsVolumeText bytes volume.0 volume.1
  text_takes few volume h = record {
    spells = record {
      lines = subst (λ ks. AllZip (SpellsItem []) ks (Volume volume.0 volume.1 ∷ [])) (sym h.alone) (h.says.spells, tt);
      four = h.says.four;
      geometry = h.says.geometry;
      few_bytes = few;
    };
    few_sectors = h.few;
  }

  one_good : (volume : List ℕ × Geom) → IsOneLine (lines_of bytes) volume → IsGood in_volume (lines_of bytes)
  one_good volume h = record { stands = h.stand; some = λ none. let both : words_of h.line ∷ [] ≡ [] = sym h.alone ∙ none in absurd cc }

  fault_so : (f : ScriptFault) → volume_text_read bytes ≡ Err f → HasFault in_volume (lines_of bytes) f
  fault_so f e = fault_told (lines_of bytes) f (gives_so (Err f) e)

  reads_rightly : length bytes ≤ most_bytes → ReadsRightly in_volume bytes (volume_text_read bytes) (λ v. IsVolumeText bytes v.0 v.1)
  reads_rightly few = record {
    takes = λ v e. text_takes few v (gives_so (Ok v) e);
    again = text_again;
    good = λ v e. one_good v (gives_so (Ok v) e);
    bad = λ number why e. fault_so (BadLine number why) e;
    not_bytes = λ e. no_line_of_bytes (lines_of bytes) (fault_so (TooLarge whats.Bytes) e);
    large = λ what e. fault_so (TooLarge what) e;
    not_stuck = λ host directive e. fault_so (Stuck host directive) e;
    not_memory = λ e. fault_so NoMemory e;
  }

  -- what is read of a volume is the answer
  pub is_answer : (result : Read) → result ≡ within_bytes bytes (volume_text_read bytes) → IsVolumeAnswer bytes result
  is_answer result told = volume_answered bytes reads_rightly result told

  -- and the only one
  pub only_answer : (result : Read) → result ≡ within_bytes bytes (volume_text_read bytes) → (answer : Read) → IsVolumeAnswer bytes answer
      → result ≡ answer
  only_answer result told answer is = only_volume_answered bytes reads_rightly result told answer is

  -- two answers are one
  pub one_answer : (a b : Read) → IsVolumeAnswer bytes a → IsVolumeAnswer bytes b → a ≡ b
  one_answer a b is other =
      let read : Read = within_bytes bytes (volume_text_read bytes) in sym (only_answer read refl a is) ∙ only_answer read refl b other

  module _ (volume : List ℕ × Geom) (spells : SpellsVolume bytes volume.0 volume.1) where
    one_line : (words : Words) × (kept (lines_of bytes) ≡ words ∷ []) × SpellsItem [] words (Volume volume.0 volume.1)
    one_line = one_spelled (SpellsItem []) (kept (lines_of bytes)) (Volume volume.0 volume.1) spells.lines

    line_says : SaysVolume one_line.0 volume
    line_says = record { spells = one_line.2; four = spells.four; geometry = spells.geometry }

    -- the text of a volume that is too large passes that limit
    large_passed : most_sectors < total_of volume.1 → PassesLimit in_volume (lines_of bytes) whats.Volume
    unfolding volume_text_read
    large_passed many =
        (reads_rightly spells.few_bytes).large whats.Volume (large_told (lines_of bytes) one_line.0 volume one_line.1 line_says many)

    lines_good : total_of volume.1 ≤ most_sectors → IsGood in_volume (lines_of bytes)
    lines_good few = (reads_rightly spells.few_bytes).good volume (text_again volume (record { spells = spells; few_sectors = few }))

    -- a line of a text that is spelled isn't bad
    pub spelled_not_bad : (number : ℕ) (why : LineFault) → HasBadLine in_volume bytes number why → ⊥
    spelled_not_bad number why (few, bad) =
        elim (cases_lt most_sectors (total_of volume.1)) [
          | inl many ↦ bad_not_large in_volume (lines_of bytes) number why whats.Volume bad (large_passed many)
          | inr fits ↦ good_not_bad in_volume (lines_of bytes) number why (lines_good fits) bad
        ]

    limit_told : (what : What) → PassesLimit in_volume (lines_of bytes) what → (what ≡ whats.Volume) × (most_sectors < total_of volume.1)
    limit_told what passes =
        elim (cases_lt most_sectors (total_of volume.1)) [
          | inl many ↦ (same_large in_volume (lines_of bytes) what whats.Volume passes (large_passed many), many)
          | inr fits ↦ absurd (good_not_large in_volume (lines_of bytes) what (lines_good fits) passes)
        ]

    -- and of all limits it can only pass that of the volume
    pub spelled_within : (what : What) → IsTooLarge in_volume bytes what → (what ≡ whats.Volume) × (most_sectors < total_of volume.1)
    spelled_within whats.Bytes many = absurd (omega (arith, many, spells.few_bytes))
    spelled_within whats.Hosts (few, passes) = limit_told whats.Hosts passes
    spelled_within whats.Directives (few, passes) = limit_told whats.Directives passes
    spelled_within whats.Steps (few, passes) = limit_told whats.Steps passes
    spelled_within whats.Volume (few, passes) = limit_told whats.Volume passes

-- a text spells at most one volume
pub same_volume : (bytes : List ℕ) (a b : List ℕ × Geom) → SpellsVolume bytes a.0 a.1 → SpellsVolume bytes b.0 b.1 → a ≡ b
same_volume bytes a b h k =
    let one : volume_line_at (one_line bytes a h).0 ≡ Ok a = volume_line_again (one_line bytes a h).0 a (line_says bytes a h) in
    let other : volume_line_at (one_line bytes b k).0 ≡ Ok b = volume_line_again (one_line bytes b k).0 b (line_says bytes b k) in
    let lines : (one_line bytes a h).0 ∷ [] ≡ (one_line bytes b k).0 ∷ [] = sym (one_line bytes a h).1 ∙ (one_line bytes b k).1 in
    let words : (one_line bytes a h).0 ≡ (one_line bytes b k).0 = cc in
    let both : Ok a ≡ Ok b = sym one ∙ (ap volume_line_at words ∙ other) in
    cc
