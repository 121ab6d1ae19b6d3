-- A whole text: where it is refused, the first line that can't stand is told; where it is read, all of them stand.
use Rattle.std.proofs.Common.{◌≡◌, ℕ, ◌+◌, ◌^◌, ◌≤◌, ◌<◌, ◌⊎◌, inl, inr, Bool, true, false, List, [], ◌∷◌, ◌++◌, length, take, drop, Result, Ok, Err, Option, Some, None, refl, ap, sym, ◌∙◌, subst, arith, length-drop}
use Rattle.std.specs.Prelude.{IfOk, codes, decimal, nat_lt, if◌then◌else◌}
use Rattle.std.proofs.lemmas.Bool.{ltb-false, cases_eq, cases_lt}
use Rattle.std.proofs.lemmas.List.{take_all, take-append-drop}
use Rattle.ds_base.specs.declared.geometry.Geom.{Geom}
use Rattle.ds_base.specs.declared.geometry.GeomField.TheVariants as fields
use Rattle.ds_base.specs.declared.geometry.Kind.TheVariants.{Fd, Sb, Pb, Fb}
use Rattle.ds_base.specs.Geometry.{IsGeom, clusters_of, per_cluster}
use Rattle.ds_layout.specs.Places.{total_of}
use Rattle.ds_tree.specs.declared.scenarios.Scenario.{Scenario}
use Rattle.ds_tree.specs.Lines.{Words, lines_of, words_of, is_comment, kept, number_of}
use Rattle.ds_tree.specs.Grammar.{geometry_part}
use Rattle.ds_script.specs.declared.faults.LineFault.{LineFault}
use Rattle.ds_script.specs.declared.faults.LineFault.TheVariants as faults
use Rattle.ds_script.specs.declared.faults.ScriptFault.{ScriptFault}
use Rattle.ds_script.specs.declared.faults.ScriptFault.TheVariants.{BadLine, TooLarge, Stuck, NoMemory}
use Rattle.ds_script.specs.declared.faults.What.{What}
use Rattle.ds_script.specs.declared.faults.What.TheVariants as whats
use Rattle.ds_script.specs.Faults.{most_sectors, line_fault, limit_passed, geometry_of, Trouble, Bad, Large, Judge, in_scenario, trouble_at, IsFirst, IsFirstBad, PassesLimit}
use Rattle.ds_script.specs.Reading.{◌>>=◌, Reads, on_line, volume_line_at, volume_read, first_read, scenario_of, read_from, text_read}
use Rattle.ds_script.proofs.FirstTroubles.{IsGood}
use Rattle.ds_script.proofs.Readers.{fault_in}
use Rattle.ds_script.proofs.WordLaws.{number_of-decimal}
use Rattle.ds_script.proofs.VolumeLaws.{SaysVolume, volume_line_means, volume_line_tells, geom_again, geom_of, sizes_of}
use Rattle.ds_script.proofs.ItemEffects.{wants_call}
use Rattle.ds_script.proofs.StateLaws.{state_first}
use Rattle.ds_script.proofs.LineOrder.{refusal, judged, IsRefused, IsFirstFrom, AllStand, ReadGives, read_from_gives, passed_stands, IsAt, line_at, trouble_here, kept-append, kept_passed, kept_line}

-- The volume line.

number_again : (low high n : ℕ) → (low ≤ n) × (n ≤ high) → high < 2 ^ 64 → number_of (decimal n) ≡ n
number_again low high n within small = number_of-decimal n (omega (arith, within.1, small))

module _ (g : Geom) (is : IsGeom g) where
  abbrev words : List ℕ → Words
  words word = codes "volume" ∷ word ∷ geometry_part g

  part_geometry : (word : List ℕ) → geometry_of (words word) ≡ geom_of (sizes_of g)
  part_geometry word =
      rw (
        number_again 1 16 g.slots (is fields.Slots) (omega arith),
        number_again 1 2048 g.block (is fields.Block) (omega arith),
        number_again 1 8 (clusters_of g Fd) (is (fields.Clusters Fd)) (omega arith),
        number_again 1 256 (per_cluster g Fd) (is (fields.Items Fd)) (omega arith),
        number_again 1 8 (clusters_of g Sb) (is (fields.Clusters Sb)) (omega arith),
        number_again 1 3840 (per_cluster g Sb) (is (fields.Items Sb)) (omega arith),
        number_again 1 8 (clusters_of g Pb) (is (fields.Clusters Pb)) (omega arith),
        number_again 1 3840 (per_cluster g Pb) (is (fields.Items Pb)) (omega arith),
        number_again 1 8 (clusters_of g Fb) (is (fields.Clusters Fb)) (omega arith),
        number_again 1 3840 (per_cluster g Fb) (is (fields.Items Fb)) (omega arith),
      ) refl

pub geometry_same : (ws : Words) (volume : List ℕ × Geom) → SaysVolume ws volume → geometry_of ws ≡ volume.1
geometry_same ws volume says =
    ap geometry_of says.spells.2 ∙ (part_geometry volume.1 says.geometry says.spells.0 ∙ sym (geom_again volume.1 says.four))

-- the volume line stands
pub record VolumeStands (ws : Words) (behind : List (List ℕ)) (volume : List ℕ × Geom) : Type 0 where
  pub none : in_scenario [] ws behind ≡ None
  pub says : SaysVolume ws volume
  pub few : total_of volume.1 ≤ most_sectors

abbrev pub VolumeGives : ℕ → Words → List (List ℕ) → Result (List ℕ × Geom) ScriptFault → Type 0
VolumeGives number ws behind (Ok volume) = VolumeStands ws behind volume
VolumeGives number ws behind (Err f) = IsRefused number (in_scenario [] ws behind) f

abbrev in_limit : Bool → Option What
in_limit b = if b then Some whats.Volume else None

module _ (number : ℕ) (ws : Words) (behind : List (List ℕ)) where
  volume_within : (volume : List ℕ × Geom) → SaysVolume ws volume → (b : Bool) → nat_lt most_sectors (total_of volume.1) ≡ b
      → in_scenario [] ws behind ≡ judged None false (in_limit b)
      → VolumeGives number ws behind (if b then Err (TooLarge whats.Volume) else Ok volume)
  volume_within volume says true e same = record { why = Large whats.Volume; is = same; told = refl }
  volume_within volume says false e same = record { none = same; says = says; few = ltb-false most_sectors (total_of volume.1) e }

  by_volume : (r : Reads (List ℕ × Geom)) → IfOk r (SaysVolume ws) → line_fault [] ws ≡ fault_in r
      → VolumeGives number ws behind
      (on_line number r >>= (λ volume. if nat_lt most_sectors (total_of volume.1) then Err (TooLarge whats.Volume) else Ok volume))
  by_volume (Err why) says e = record {
    why = Bad why;
    is = ap (λ (f : Option LineFault). judged f (wants_call ws behind) (limit_passed [] ws)) e;
    told = refl;
  }
  by_volume (Ok volume) says e =
      volume_within volume says (nat_lt most_sectors (total_of volume.1)) refl
      (ap (λ (f : Option LineFault). judged f (wants_call ws behind) (limit_passed [] ws)) e
      ∙ (ap (λ (b : Bool). judged None b (limit_passed [] ws)) (ap (λ (ws : Words). wants_call ws behind) says.spells.2)
      ∙ ap (λ (g : Geom). judged None false (in_limit (nat_lt most_sectors (total_of g)))) (geometry_same ws volume says)))

  pub volume_gives : is_comment ws ≡ false → VolumeGives number ws behind (volume_read number ws)
  unfolding volume_read
  volume_gives is = by_volume (volume_line_at ws) (volume_line_means ws) (volume_line_tells ws is)

-- The first line that isn't passed over.

-- the volume line was found, and the text goes on behind it
pub record FirstStands (lines : List (List ℕ)) (n : ℕ) (r : (List ℕ × Geom) × ℕ × List (List ℕ)) : Type 0 where
  pub line : List ℕ
  pub m : ℕ
  pub number : r.1 ≡ m + 1
  pub later : drop m lines ≡ r.2
  pub kept_so : kept (take m lines) ≡ words_of line ∷ []
  pub volume : VolumeStands (words_of line) r.2 r.0
  pub stand : (j : ℕ) → n ≤ j → j < m → trouble_at in_scenario lines j ≡ None

-- no line is kept
pub record Lacks (lines : List (List ℕ)) (f : ScriptFault) : Type 0 where
  pub none : kept lines ≡ []
  pub told : f ≡ BadLine (length lines + 1) faults.Volume

abbrev pub FirstGives : List (List ℕ) → ℕ → Result ((List ℕ × Geom) × ℕ × List (List ℕ)) ScriptFault → Type 0
FirstGives lines n (Ok r) = FirstStands lines n r
FirstGives lines n (Err f) = IsFirstFrom lines n f ⊎ Lacks lines f

module _ (lines : List (List ℕ)) (n : ℕ) where
  from_here : trouble_at in_scenario lines n ≡ None → (P : ℕ → Type 0) → P n → ((j : ℕ) → n + 1 ≤ j → P j) → (j : ℕ) → n ≤ j → P j
  from_here stands P here rest j from = elim (cases_eq n j) [
    | inl same ↦ subst P same here
    | inr other ↦ rest j (omega (arith, other, from))
  ]

  first_later : trouble_at in_scenario lines n ≡ None → (r : Result ((List ℕ × Geom) × ℕ × List (List ℕ)) ScriptFault)
      → FirstGives lines (n + 1) r → FirstGives lines n r
  first_later stands (Ok r) h = record {
    line = h.line;
    m = h.m;
    number = h.number;
    later = h.later;
    kept_so = h.kept_so;
    volume = h.volume;
    stand = from_here stands (λ j. j < h.m → trouble_at in_scenario lines j ≡ None) (λ less. stands) h.stand;
  }
  first_later stands (Err f) (inr lacks) = inr lacks
  first_later stands (Err f) (inl h) = inl (record {
    k = h.k;
    from = omega (arith, h.from);
    why = h.why;
    stands_not = h.stands_not;
    first = from_here stands (λ j. j < h.k → trouble_at in_scenario lines j ≡ None) (λ less. stands) h.first;
    told = h.told;
  })

  module _ (line : List ℕ) (behind : List (List ℕ)) (at : IsAt lines n line behind) (so : kept (take n lines) ≡ []) where
    found_here : is_comment (words_of line) ≡ false → (r : Result (List ℕ × Geom) ScriptFault) → VolumeGives (n + 1) (words_of line) behind r
        → FirstGives lines n (r >>= (λ volume. Ok (volume, n + 1 + 1, behind)))
    found_here is (Err f) h = inl (record {
      k = n;
      from = omega arith;
      why = h.why;
      stands_not = trouble_here in_scenario lines n line behind [] at so is ∙ h.is;
      first = λ j from less. absurd (omega (arith, from, less));
      told = h.told;
    })
    found_here is (Ok volume) h = record {
      line = line;
      m = n + 1;
      number = refl;
      later = at.later;
      kept_so = at.kept_more ∙ (ap (λ (ks : List Words). ks ++ kept (line ∷ [])) so ∙ kept_line line is);
      volume = h;
      stand = λ j from less.
          subst (λ i. trouble_at in_scenario lines i ≡ None) (omega (arith, from, less))
          (trouble_here in_scenario lines n line behind [] at so is ∙ h.none);
    }

    first_line : (is_comment (words_of line) ≡ true → FirstGives lines (n + 1) (first_read (n + 1 + 1) behind)) → (b : Bool) → is_comment (words_of line) ≡ b
        → FirstGives lines n (if b then first_read (n + 1 + 1) behind
        else volume_read (n + 1) (words_of line) >>= (λ volume. Ok (volume, n + 1 + 1, behind)))
    first_line rest true is =
        first_later (passed_stands in_scenario lines n (ap (λ (l : List ℕ). is_comment (words_of l)) at.here ∙ is))
        (first_read (n + 1 + 1) behind) (rest is)
    first_line rest false is = found_here is (volume_read (n + 1) (words_of line)) (volume_gives (n + 1) (words_of line) behind is)

  kept_on : (line : List ℕ) (behind : List (List ℕ)) → IsAt lines n line behind → kept (take n lines) ≡ [] → is_comment (words_of line) ≡ true
      → kept (take (n + 1) lines) ≡ []
  kept_on line behind at so is =
      at.kept_more ∙ (ap (λ (ks : List Words). ks ++ kept (line ∷ [])) so ∙ kept_passed line is)

first_read_gives : (lines suffix : List (List ℕ)) (n : ℕ) → drop n lines ≡ suffix → n ≤ length lines → kept (take n lines) ≡ []
    → FirstGives lines n (first_read (n + 1) suffix)
unfolding first_read
first_read_gives lines [] n at within so =
    let all : n ≡ length lines = omega (arith, within, length-drop n lines, ap (λ (ls : List (List ℕ)). length ls) at) in
    inr (record {
      none = ap kept (sym (take_all n lines (omega (arith, all)))) ∙ so;
      told = ap (λ (n : ℕ). BadLine (n + 1) faults.Volume) all;
    })
first_read_gives lines (line ∷ behind) n at within so =
    let place = line_at lines n line behind at in
    let more : n < length lines = omega (arith, length-drop n lines, ap (λ (ls : List (List ℕ)). length ls) at) in
    first_line lines n line behind place so
    (λ is. first_read_gives lines behind (n + 1) place.later (omega (arith, more)) (kept_on lines n line behind place so is))
    (is_comment (words_of line)) refl

-- The whole text.

-- all lines stand, and the scenario is that of the volume line and those behind it
pub record TextStands (lines : List (List ℕ)) (s : Scenario) : Type 0 where
  pub r : (List ℕ × Geom) × ℕ × List (List ℕ)
  pub first : FirstStands lines 0 r
  pub all : AllStand lines first.m (scenario_of r.0) r.2 s

abbrev pub TextGives : List (List ℕ) → Result Scenario ScriptFault → Type 0
TextGives lines (Ok s) = TextStands lines s
TextGives lines (Err f) = IsFirstFrom lines 0 f ⊎ Lacks lines f

module _ (lines : List (List ℕ)) where
  behind_first : (r : (List ℕ × Geom) × ℕ × List (List ℕ)) (first : FirstStands lines 0 r)
      → ReadGives lines first.m (scenario_of r.0) r.2 (read_from (scenario_of r.0) r.1 r.2)
  behind_first r first =
      subst (λ (number : ℕ). ReadGives lines first.m (scenario_of r.0) r.2 (read_from (scenario_of r.0) number r.2)) (sym first.number)
      (read_from_gives lines r.2 first.m (scenario_of r.0) (words_of first.line) [] first.later first.kept_so
      (state_first (scenario_of r.0) refl refl))

  stands_before : (r : (List ℕ × Geom) × ℕ × List (List ℕ)) (first : FirstStands lines 0 r) (read : Result Scenario ScriptFault)
      → ReadGives lines first.m (scenario_of r.0) r.2 read → TextGives lines read
  stands_before r first (Ok s) h = record { r = r; first = first; all = h }
  stands_before r first (Err f) h = inl (record {
    k = h.k;
    from = omega arith;
    why = h.why;
    stands_not = h.stands_not;
    first = λ j from less. elim (cases_lt j first.m) [
      | inl early ↦ first.stand j from early
      | inr late ↦ h.first j late less
    ];
    told = h.told;
  })

  then_lines : (r : Result ((List ℕ × Geom) × ℕ × List (List ℕ)) ScriptFault) → FirstGives lines 0 r
      → TextGives lines (r >>= (λ first. read_from (scenario_of first.0) first.1 first.2))
  then_lines (Err f) h = h
  then_lines (Ok r) h = stands_before r h (read_from (scenario_of r.0) r.1 r.2) (behind_first r h)

pub text_gives : (bytes : List ℕ) → TextGives (lines_of bytes) (text_read bytes)
unfolding text_read
text_gives bytes =
    then_lines (lines_of bytes) (first_read 1 (lines_of bytes)) (first_read_gives (lines_of bytes) (lines_of bytes) 0 refl (omega arith) refl)

-- The fault of a text.

-- the first line that can't stand is told so
abbrev pub HasFault : Judge → List (List ℕ) → ScriptFault → Type 0
HasFault judge lines (BadLine number why) = IsFirstBad judge lines number why
HasFault judge lines (TooLarge what) = PassesLimit judge lines what
HasFault judge lines (Stuck host directive) = ⊥
HasFault judge lines NoMemory = ⊥

abbrev pub IsFaultOf : List (List ℕ) → ScriptFault → Type 0
IsFaultOf lines f = HasFault in_scenario lines f

module _ (judge : Judge) (lines : List (List ℕ)) where
  first_fault_told : (k : ℕ) (why : Trouble) → IsFirst judge lines k why → HasFault judge lines (refusal (k + 1) why)
  first_fault_told k (Bad why) h = inl (k, refl, h)
  first_fault_told k (Large what) h = (k, h)

  pub first_told : (k : ℕ) (why : Trouble) (f : ScriptFault) → IsFirst judge lines k why → f ≡ refusal (k + 1) why → HasFault judge lines f
  first_told k why f first told = subst (λ f. HasFault judge lines f) (sym told) (first_fault_told k why first)

  pub lacks_told : (f : ScriptFault) → Lacks lines f → HasFault judge lines f
  lacks_told f lacks =
      let told : HasFault judge lines (BadLine (length lines + 1) faults.Volume) =
      inr (record { none = lacks.none; at_end = refl; volume = refl }) in
      subst (λ f. HasFault judge lines f) (sym lacks.told) told

pub fault_told : (lines : List (List ℕ)) (f : ScriptFault) → IsFirstFrom lines 0 f ⊎ Lacks lines f → IsFaultOf lines f
fault_told lines f (inl h) =
    first_told in_scenario lines h.k h.why f (record { stands_not = h.stands_not; first = λ j less. h.first j (omega arith) less }) h.told
fault_told lines f (inr lacks) = lacks_told in_scenario lines f lacks

-- A text that is read has no fault.

all_stand : (lines : List (List ℕ)) (s : Scenario) (h : TextStands lines s) (k : ℕ) → trouble_at in_scenario lines k ≡ None
all_stand lines s h k = elim (cases_lt k h.first.m) [
  | inl early ↦ h.first.stand k (omega arith) early
  | inr late ↦ h.all.stand k late
]

some_kept : (lines : List (List ℕ)) (s : Scenario) → TextStands lines s → kept lines ≡ [] → ⊥
some_kept lines s h none =
    let front : kept (take h.first.m lines) ++ kept (drop h.first.m lines) ≡ [] =
    sym (kept-append (take h.first.m lines) (drop h.first.m lines)) ∙ (ap kept (take-append-drop h.first.m lines) ∙ none) in
    let some : words_of h.first.line ∷ ([] ++ kept (drop h.first.m lines)) ≡ [] =
    ap (λ (ks : List Words). ks ++ kept (drop h.first.m lines)) (sym h.first.kept_so) ∙ front in
    absurd cc

pub good_text : (lines : List (List ℕ)) (s : Scenario) → TextStands lines s → IsGood in_scenario lines
good_text lines s h = record { stands = all_stand lines s h; some = some_kept lines s h }
