-- The lines behind the volume line in their order: all of them stand and the scenario grows by each, or the first that can't
-- stand is told.
use Rattle.std.proofs.Common.{◌≡◌, ℕ, ◌+◌, ◌≤◌, ◌<◌, inl, inr, Bool, true, false, not, List, [], ◌∷◌, ◌++◌, length, get_or, take, drop, map, Result, Ok, Err, Option, Some, None, refl, ap, sym, ◌∙◌, subst, arith, length-drop}
use Rattle.std.specs.Prelude.{IfOk, filter, if◌then◌else◌, option_map}
use Rattle.std.specs.Option.{option_map_or}
use Rattle.std.proofs.lemmas.Bool.{cases_eq}
use Rattle.std.proofs.lemmas.List.{map-append, take_more, drop_more, get_or_past}
use Rattle.std.proofs.lemmas.List.Elements.{filter-append}
use Rattle.ds_tree.specs.declared.scenarios.Scenario.{Scenario}
use Rattle.ds_tree.specs.Lines.{Words, words_of, is_comment, kept}
use Rattle.ds_tree.specs.Grammar.{names_of, Item}
use Rattle.ds_script.specs.declared.faults.LineFault.{LineFault}
use Rattle.ds_script.specs.declared.faults.LineFault.TheVariants as faults
use Rattle.ds_script.specs.declared.faults.ScriptFault.{ScriptFault}
use Rattle.ds_script.specs.declared.faults.ScriptFault.TheVariants.{BadLine, TooLarge}
use Rattle.ds_script.specs.declared.faults.What.{What}
use Rattle.std.specs.List.{list_any}
use Rattle.ds_script.specs.Faults.{is_body_line, line_fault, limit_passed, Trouble, Bad, Large, in_scenario, Judge, trouble_at}
use Rattle.ds_script.specs.Reading.{◌>>=◌, Reads, item_at, is_begun, limit_at, with_item, is_unarmed, on_line, line_read, read_from}
use Rattle.ds_script.proofs.Readers.{fault_in}
use Rattle.ds_script.proofs.Fronts.{words_of-none}
use Rattle.ds_script.proofs.ItemLaws.{SaysItem, item_fault, item_means, item_tells}
use Rattle.ds_script.proofs.ItemEffects.{wants_call, unarmed_same}
use Rattle.ds_script.proofs.StateLaws.{IsState, state_more, limit_same}

-- One line.

-- how a line that can't stand is told
abbrev pub refusal : ℕ → Trouble → ScriptFault
refusal number (Bad why) = BadLine number why
refusal number (Large what) = TooLarge what

abbrev pub judged : Option LineFault → Bool → Option What → Option Trouble
judged fault wants limit =
    option_map_or (λ why. Some (Bad why)) (option_map_or (λ why. Some why) fault (if wants then Some faults.Arm else None))
    (option_map Large limit)

pub record IsRefused (number : ℕ) (trouble : Option Trouble) (f : ScriptFault) : Type 0 where
  pub why : Trouble
  pub is : trouble ≡ Some why
  pub told : f ≡ refusal number why

-- the words spell an item that is within the limits, and has its call
pub record IsTaken (s : Scenario) (ws : Words) (behind : List (List ℕ)) (item : Item) : Type 0 where
  pub says : SaysItem (names_of s.hosts) (is_begun s) ws item
  pub armed : is_unarmed item ws behind ≡ false
  pub within : limit_at s item ≡ None

record Takes (s : Scenario) (ws : Words) (behind : List (List ℕ)) (trouble : Option Trouble) (next : Scenario) : Type 0 where
  none : trouble ≡ None
  item : Item
  taken : IsTaken s ws behind item
  more : next ≡ with_item s item

abbrev LineGives : Scenario → ℕ → Words → List (List ℕ) → Option Trouble → Result Scenario ScriptFault → Type 0
LineGives s number ws behind trouble (Ok next) = Takes s ws behind trouble next
LineGives s number ws behind trouble (Err f) = IsRefused number trouble f

module _ (s : Scenario) (number : ℕ) (ws : Words) (behind : List (List ℕ)) where
  abbrev with_taken : Item → Result Scenario ScriptFault
  with_taken item =
      if is_unarmed item ws behind then Err (BadLine number faults.Arm)
      else option_map_or (λ what. Err (TooLarge what)) (limit_at s item) (Ok (with_item s item))

  taken_gives : (item : Item) → SaysItem (names_of s.hosts) (is_begun s) ws item
      → (u : Bool) (l : Option What) → is_unarmed item ws behind ≡ u → limit_at s item ≡ l
      → LineGives s number ws behind (judged None u l)
      (if u then Err (BadLine number faults.Arm) else option_map_or (λ what. Err (TooLarge what)) l (Ok (with_item s item)))
  taken_gives item says true l e f = record { why = Bad faults.Arm; is = refl; told = refl }
  taken_gives item says false (Some what) e f = record { why = Large what; is = refl; told = refl }
  taken_gives item says false None e f = record {
    none = refl;
    item = item;
    taken = record { says = says; armed = e; within = f };
    more = refl;
  }

  module _ (first : Words) (rest : List Words) (state : IsState s rest) where
    item_gives : (r : Reads Item) → IfOk r (SaysItem (names_of s.hosts) (is_begun s) ws) → line_fault (first ∷ rest) ws ≡ fault_in r
        → LineGives s number ws behind (in_scenario (first ∷ rest) ws behind) (on_line number r >>= with_taken)
    item_gives (Err why) says e = record {
      why = Bad why;
      is = ap (λ (f : Option LineFault). judged f (wants_call ws behind) (limit_passed (first ∷ rest) ws)) e;
      told = refl;
    }
    item_gives (Ok item) says e =
        let same : in_scenario (first ∷ rest) ws behind ≡ judged None (is_unarmed item ws behind) (limit_at s item) =
        ap (λ (f : Option LineFault). judged f (wants_call ws behind) (limit_passed (first ∷ rest) ws)) e
        ∙ (ap (λ (b : Bool). judged None b (limit_passed (first ∷ rest) ws))
        (unarmed_same (names_of s.hosts) state.are (is_begun s) ws item behind says)
        ∙ ap (λ (l : Option What). judged None (is_unarmed item ws behind) l) (limit_same s first rest ws item state says)) in
        subst (λ (t : Option Trouble). LineGives s number ws behind t (with_taken item)) (sym same)
        (taken_gives item says (is_unarmed item ws behind) (limit_at s item) refl refl)

fault_same : (s : Scenario) (first : Words) (rest : List Words) → IsState s rest → (w : List ℕ) (ws : Words)
    → line_fault (first ∷ rest) (w ∷ ws) ≡ fault_in (item_at (names_of s.hosts) (is_begun s) (w ∷ ws))
fault_same s first rest state w ws =
    ap (λ (names : Words). item_fault names (list_any is_body_line rest) w ws) state.names
    ∙ (ap (λ (begun : Bool). item_fault (names_of s.hosts) begun w ws) state.begun
    ∙ item_tells (names_of s.hosts) state.are (is_begun s) w ws)

line_gives : (s : Scenario) (number : ℕ) (ws : Words) (behind : List (List ℕ)) (first : Words) (rest : List Words) → IsState s rest
    → is_comment ws ≡ false
    → LineGives s number ws behind (in_scenario (first ∷ rest) ws behind) (line_read s number ws behind)
unfolding line_read
line_gives s number [] behind first rest state is = cc
line_gives s number (w ∷ ws) behind first rest state is =
    item_gives s number (w ∷ ws) behind first rest state (item_at (names_of s.hosts) (is_begun s) (w ∷ ws))
    (item_means (names_of s.hosts) state.are (is_begun s) (w ∷ ws)) (fault_same s first rest state w ws)

-- All lines.

-- the scenario grows by these lines
pub data Continues : Scenario → List (List ℕ) → Scenario → Type 0 where
  done : {s : Scenario} → Continues s [] s
  passed : {s t : Scenario} {line : List ℕ} {behind : List (List ℕ)} → is_comment (words_of line) ≡ true → Continues s behind t
      → Continues s (line ∷ behind) t
  more : {s t : Scenario} {line : List ℕ} {behind : List (List ℕ)} (item : Item) → is_comment (words_of line) ≡ false
      → IsTaken s (words_of line) behind item → Continues (with_item s item) behind t → Continues s (line ∷ behind) t

-- the first of the lines from this one on that can't stand is told
pub record IsFirstFrom (lines : List (List ℕ)) (n : ℕ) (f : ScriptFault) : Type 0 where
  pub k : ℕ
  pub from : n ≤ k
  pub why : Trouble
  pub stands_not : trouble_at in_scenario lines k ≡ Some why
  pub first : (j : ℕ) → n ≤ j → j < k → trouble_at in_scenario lines j ≡ None
  pub told : f ≡ refusal (k + 1) why

pub record AllStand (lines : List (List ℕ)) (n : ℕ) (s : Scenario) (suffix : List (List ℕ)) (t : Scenario) : Type 0 where
  pub stand : (k : ℕ) → n ≤ k → trouble_at in_scenario lines k ≡ None
  pub continues : Continues s suffix t

abbrev pub ReadGives : List (List ℕ) → ℕ → Scenario → List (List ℕ) → Result Scenario ScriptFault → Type 0
ReadGives lines n s suffix (Ok t) = AllStand lines n s suffix t
ReadGives lines n s suffix (Err f) = IsFirstFrom lines n f

pub passed_stands : (judge : Judge) (lines : List (List ℕ)) (k : ℕ) → is_comment (words_of (get_or lines k [])) ≡ true → trouble_at judge lines k ≡ None
passed_stands judge lines k is = rw is refl

pub past_stands : (lines : List (List ℕ)) (k : ℕ) → length lines ≤ k → trouble_at in_scenario lines k ≡ None
past_stands lines k past =
    let none : get_or lines k [] ≡ [] = get_or_past lines k [] past in
    passed_stands in_scenario lines k (ap (λ (line : List ℕ). is_comment (words_of line)) none ∙ ap is_comment (words_of-none [] refl))

module _ (lines : List (List ℕ)) (n : ℕ) (s next : Scenario) (line : List ℕ) (behind : List (List ℕ))
    (stands : trouble_at in_scenario lines n ≡ None) where
  stands_from : (P : ℕ → Type 0) → P n → ((j : ℕ) → n + 1 ≤ j → P j) → (j : ℕ) → n ≤ j → P j
  stands_from P here rest j from = elim (cases_eq n j) [
    | inl same ↦ subst P same here
    | inr other ↦ rest j (omega (arith, other, from))
  ]

  one_more : ((t : Scenario) → Continues next behind t → Continues s (line ∷ behind) t) → (r : Result Scenario ScriptFault)
      → ReadGives lines (n + 1) next behind r → ReadGives lines n s (line ∷ behind) r
  one_more grows (Ok t) h = record {
    stand = stands_from (λ j. trouble_at in_scenario lines j ≡ None) stands h.stand;
    continues = grows t h.continues;
  }
  one_more grows (Err f) h = record {
    k = h.k;
    from = omega (arith, h.from);
    why = h.why;
    stands_not = h.stands_not;
    first = stands_from (λ j. j < h.k → trouble_at in_scenario lines j ≡ None) (λ less. stands) h.first;
    told = h.told;
  }

-- the places of a line in a text
pub record IsAt (lines : List (List ℕ)) (n : ℕ) (line : List ℕ) (behind : List (List ℕ)) : Type 0 where
  pub here : get_or lines n [] ≡ line
  pub later : drop (n + 1) lines ≡ behind
  pub kept_more : kept (take (n + 1) lines) ≡ kept (take n lines) ++ kept (line ∷ [])

pub kept-append : (xs ys : List (List ℕ)) → kept (xs ++ ys) ≡ kept xs ++ kept ys
kept-append xs ys =
    ap (filter (λ (ws : Words). not (is_comment ws))) (map-append words_of xs ys)
    ∙ filter-append (λ (ws : Words). not (is_comment ws)) (map words_of xs) (map words_of ys)

pub line_at : (lines : List (List ℕ)) (n : ℕ) (line : List ℕ) (behind : List (List ℕ)) → drop n lines ≡ line ∷ behind → IsAt lines n line behind
line_at lines n line behind e =
    let within : n < length lines = omega (arith, length-drop n lines, ap (λ (ls : List (List ℕ)). length ls) e) in
    let both = drop_more lines n [] within in
    let here : get_or lines n [] ≡ line = cc in
    let rest : drop (n + 1) lines ≡ behind = cc in
    record {
      here = here;
      later = rest;
      kept_more = ap kept (take_more lines n [] within)
          ∙ (kept-append (take n lines) (get_or lines n [] ∷ [])
          ∙ ap (λ (l : List ℕ). kept (take n lines) ++ kept (l ∷ [])) here);
    }

-- why the line at a place can't stand
pub trouble_here : (judge : Judge) (lines : List (List ℕ)) (n : ℕ) (line : List ℕ) (behind : List (List ℕ)) (before : List Words)
    → IsAt lines n line behind → kept (take n lines) ≡ before → is_comment (words_of line) ≡ false
    → trouble_at judge lines n ≡ judge before (words_of line) behind
trouble_here judge lines n line behind before at kept_so is = rw (at.here, is, kept_so, at.later) refl

pub append_none : (xs : List Words) → xs ++ [] ≡ xs
append_none [] = refl
append_none (x ∷ xs) = ap (λ (ys : List Words). x ∷ ys) (append_none xs)

pub kept_passed : (line : List ℕ) → is_comment (words_of line) ≡ true → kept (line ∷ []) ≡ []
kept_passed line is = rw is refl

pub kept_line : (line : List ℕ) → is_comment (words_of line) ≡ false → kept (line ∷ []) ≡ words_of line ∷ []
kept_line line is = rw is refl

module _ (lines : List (List ℕ)) (n : ℕ) (s : Scenario) (line : List ℕ) (behind : List (List ℕ)) where
  -- where this line is read, and then those behind it
  line_then : is_comment (words_of line) ≡ false
      → ((item : Item) → IsTaken s (words_of line) behind item
      → ReadGives lines (n + 1) (with_item s item) behind (read_from (with_item s item) (n + 1 + 1) behind))
      → (r : Result Scenario ScriptFault) → LineGives s (n + 1) (words_of line) behind (trouble_at in_scenario lines n) r
      → ReadGives lines n s (line ∷ behind) (r >>= (λ next. read_from next (n + 1 + 1) behind))
  line_then is rest (Err f) h = record {
    k = n;
    from = omega arith;
    why = h.why;
    stands_not = h.is;
    first = λ j from less. absurd (omega (arith, from, less));
    told = h.told;
  }
  line_then is rest (Ok next) h =
      one_more lines n s next line behind h.none
      (λ t c. more h.item is h.taken (subst (λ (u : Scenario). Continues u behind t) h.more c))
      (read_from next (n + 1 + 1) behind)
      (subst (λ (u : Scenario). ReadGives lines (n + 1) u behind (read_from u (n + 1 + 1) behind)) (sym h.more) (rest h.item h.taken))

by_comment : (lines : List (List ℕ)) (n : ℕ) (s : Scenario) (line : List ℕ) (behind : List (List ℕ)) (first : Words) (rest : List Words)
    → ((t : Scenario) (others : List Words) → drop (n + 1) lines ≡ behind → kept (take (n + 1) lines) ≡ first ∷ others → IsState t others
    → ReadGives lines (n + 1) t behind (read_from t (n + 1 + 1) behind))
    → drop n lines ≡ line ∷ behind → kept (take n lines) ≡ first ∷ rest → IsState s rest → (b : Bool) → is_comment (words_of line) ≡ b
    → ReadGives lines n s (line ∷ behind) (if b then read_from s (n + 1 + 1) behind
    else line_read s (n + 1) (words_of line) behind >>= (λ next. read_from next (n + 1 + 1) behind))
by_comment lines n s line behind first rest later at so state true is =
    let place = line_at lines n line behind at in
    let stands : trouble_at in_scenario lines n ≡ None =
    passed_stands in_scenario lines n (ap (λ (l : List ℕ). is_comment (words_of l)) place.here ∙ is) in
    one_more lines n s s line behind stands (λ t c. passed is c) (read_from s (n + 1 + 1) behind)
    (later s rest place.later
    (place.kept_more ∙ (ap (λ (ks : List Words). kept (take n lines) ++ ks) (kept_passed line is)
    ∙ (append_none (kept (take n lines)) ∙ so))) state)
by_comment lines n s line behind first rest later at so state false is =
    let place = line_at lines n line behind at in
    line_then lines n s line behind is
    (λ item taken. later (with_item s item) (rest ++ words_of line ∷ []) place.later
    (place.kept_more ∙ (ap (λ (ks : List Words). kept (take n lines) ++ ks) (kept_line line is)
    ∙ ap (λ (ks : List Words). ks ++ words_of line ∷ []) so))
    (state_more s rest (words_of line) item state taken.says))
    (line_read s (n + 1) (words_of line) behind)
    (subst (λ (t : Option Trouble). LineGives s (n + 1) (words_of line) behind t (line_read s (n + 1) (words_of line) behind))
    (sym (trouble_here in_scenario lines n line behind (first ∷ rest) place so is))
    (line_gives s (n + 1) (words_of line) behind first rest state is))

pub read_from_gives : (lines suffix : List (List ℕ)) (n : ℕ) (s : Scenario) (first : Words) (rest : List Words) → drop n lines ≡ suffix
    → kept (take n lines) ≡ first ∷ rest → IsState s rest → ReadGives lines n s suffix (read_from s (n + 1) suffix)
unfolding read_from
read_from_gives lines [] n s first rest at so state = record {
  stand = λ k from. past_stands lines k (omega (arith, from, length-drop n lines, ap (λ (ls : List (List ℕ)). length ls) at));
  continues = done;
}
read_from_gives lines (line ∷ behind) n s first rest at so state =
    by_comment lines n s line behind first rest (λ t others. read_from_gives lines behind (n + 1) t first others) at so state
    (is_comment (words_of line)) refl
