-- A directive about the next call of its host, which the lines behind it don't leave without one, is followed by a call.
use Rattle.std.proofs.Common.{◌≡◌, ◌≢◌, ℕ, zero, suc, ◌+◌, Bool, true, false, not, cond, ◌&&◌, ◌||◌, inl, inr, List, [], ◌∷◌, ◌++◌, length, Some, refl, ap, sym, ◌∙◌, subst, arith, append_assoc}
use Rattle.std.specs.Prelude.{slice_get, filter, codes, nat_le}
use Rattle.std.specs.Str.{bytes_eq}
use Rattle.std.proofs.lemmas.Bool.{and_parts, or_parts, cases_eq, false≢true, not-false}
use Rattle.ds_tree.specs.declared.scenarios.Directive.{Directive}
use Rattle.ds_tree.specs.declared.scenarios.Scenario.{Scenario}
use Rattle.ds_tree.specs.Lines.{Words, words_of, is_comment, is_run, is_word}
use Rattle.ds_tree.specs.Grammar.{names_of, IsNameOf, IsHostName, AreArmed, is_call, is_arming, Item, Volume, Host, Does, Step, SpellsItem}
use Rattle.ds_tree.specs.PlainPass.{list_at}
use Rattle.ds_script.specs.Faults.{begins_with, word_at, is_first_of, call_rows, is_armed}
use Rattle.ds_script.specs.Reading.{is_begun, with_directive, with_item, is_unarmed}
use Rattle.ds_script.proofs.WordLaws.{bytes_eq-other, bytes_eq-same, label_means, is_word-label}
use Rattle.ds_script.proofs.LookupLaws.{AreNames}
use Rattle.ds_script.proofs.ItemLaws.{SaysItem}
use Rattle.ds_script.proofs.ItemEffects.{BeginsAs, directive_begins}
use Rattle.ds_script.proofs.StateLaws.{HasHost, has_host, names_more, are_more, names-with_directive}
use Rattle.ds_script.proofs.LineOrder.{IsTaken, Continues, done, passed, more}
use Rattle.ds_script.proofs.Growth.{at_same, at_other, at_new, none_more, slice_get_more}

-- The runs of a line.

run_first : (w : List ℕ) (ws : Words) → is_run w ≡ true → filter is_run (w ∷ ws) ≡ w ∷ filter is_run ws
run_first w ws is = ap (λ (b : Bool). cond b (w ∷ filter is_run ws) (filter is_run ws)) is

module _ (w line : List ℕ) (behind : List (List ℕ)) (is : is_comment (words_of line) ≡ false) where
  pub armed_later : begins_with w (filter is_run (words_of line)) ≡ false → is_armed w (line ∷ behind) ≡ is_armed w behind
  armed_later other = rw (is, other) refl

  pub armed_here : begins_with w (filter is_run (words_of line)) ≡ true
      → is_armed w (line ∷ behind) ≡ is_first_of call_rows (word_at (filter is_run (words_of line)) 1)
  armed_here same = rw (is, same) refl

label_run : (w : List ℕ) → IsHostName w → is_run w ≡ true
label_run w name =
    let word : is_word w ≡ true = is_word-label w (label_means w name.label) in
    (and_parts (is_run w) (nat_le 1 (length w)) (and_parts (is_run w && nat_le 1 (length w)) (nat_le (length w) 255) word).0).0

-- a host's name isn't one of the words that begin lines of their own
pub not_host : (w : List ℕ) → IsHostName w → bytes_eq (codes "host") w ≡ false
not_host w name =
    let last = or_parts (bytes_eq w (codes "volume") || bytes_eq w (codes "host")) (bytes_eq w (codes "step")) name.free in
    let first = or_parts (bytes_eq w (codes "volume")) (bytes_eq w (codes "host")) last.0 in
    bytes_eq-other (codes "host") w
    (λ e. false≢true (sym first.1 ∙ (ap (λ (v : List ℕ). bytes_eq v (codes "host")) (sym e) ∙ bytes_eq-same (codes "host"))))

pub not_step : (w : List ℕ) → IsHostName w → bytes_eq (codes "step") w ≡ false
not_step w name =
    let last = or_parts (bytes_eq w (codes "volume") || bytes_eq w (codes "host")) (bytes_eq w (codes "step")) name.free in
    bytes_eq-other (codes "step") w
    (λ e. false≢true (sym last.1 ∙ (ap (λ (v : List ℕ). bytes_eq v (codes "step")) (sym e) ∙ bytes_eq-same (codes "step"))))

-- the runs of a directive's line: its host's name, and then its first word
module _ (names : Words) (are : AreNames names) (ws : Words) (host : ℕ) (d : Directive) (spells : SpellsItem names ws (Does host d)) where
  pub does_run : filter is_run ws ≡ spells.0 ∷ filter is_run spells.1
  does_run = ap (filter is_run) spells.3 ∙ run_first spells.0 spells.1 (label_run spells.0 (are.hosts host spells.0 spells.2))

  begins : BeginsAs (is_call d) (is_arming d) spells.1
  begins = directive_begins names spells.1 d spells.4

  second_word : word_at (filter is_run ws) 1 ≡ begins.word
  second_word =
      ap (λ (ws : Words). word_at ws 1)
      (does_run ∙ ap (λ (ws : Words). spells.0 ∷ ws) (ap (filter is_run) begins.is ∙ run_first begins.word begins.rest begins.run))

  -- whether the second of them is the first word of a call
  pub second_is_call : is_first_of call_rows (word_at (filter is_run ws) 1) ≡ is_call d
  second_is_call = ap (is_first_of call_rows) second_word ∙ begins.of_call

  pub begins_own : (w : List ℕ) → IsNameOf names host w → begins_with w (filter is_run ws) ≡ true
  begins_own w h =
      let same : spells.0 ≡ w = let both : Some spells.0 ≡ Some w = sym spells.2 ∙ h in cc in
      ap (begins_with w) does_run ∙ (ap (λ (v : List ℕ). bytes_eq v w) same ∙ bytes_eq-same w)

  pub begins_other : (other : ℕ) (w : List ℕ) → IsNameOf names other w → other ≢ host → begins_with w (filter is_run ws) ≡ false
  begins_other other w h different =
      ap (begins_with w) does_run
      ∙ bytes_eq-other spells.0 w (λ e. different (are.apart other host w h (spells.2 ∙ ap (λ (v : List ℕ). Some v) e)))

-- The lists.

abbrev pub NextIsCall : List Directive → Type 0
NextIsCall [] = ⊥
NextIsCall (d ∷ list) = is_call d ≡ true

record Adds (s : Scenario) (suffix : List (List ℕ)) (t : Scenario) (host : ℕ) : Type 0 where
  new : List Directive
  lists : list_at t.hosts host ≡ list_at s.hosts host ++ new
  armed : AreArmed new
  calls : (w : List ℕ) → IsNameOf (names_of s.hosts) host w → is_armed w suffix ≡ true → NextIsCall new

armed_first : (d : Directive) (list : List Directive) → (is_arming d ≡ true → NextIsCall list) → AreArmed list → AreArmed (d ∷ list)
armed_first d [] first rest zero e same arming =
    let is : d ≡ e = cc in absurd (first (ap is_arming is ∙ arming))
armed_first d (next ∷ list) first rest zero e same arming =
    let is : d ≡ e = cc in (next, refl, first (ap is_arming is ∙ arming))
armed_first d list first rest (suc n) e same arming =
    let h = rest n e same arming in
    let at : suc n + 1 ≡ suc (n + 1) = omega arith in
    (h.0, ap (slice_get (d ∷ list)) at ∙ h.1, h.2)

module _ (s t : Scenario) (line : List ℕ) (behind : List (List ℕ)) (host : ℕ) (are : AreNames (names_of s.hosts)) where
  -- the lines behind add what these do, where this line isn't one of the host
  later : (next : Scenario) (item : Item) → is_comment (words_of line) ≡ false → list_at next.hosts host ≡ list_at s.hosts host
      → ((w : List ℕ) → IsNameOf (names_of s.hosts) host w → IsNameOf (names_of next.hosts) host w)
      → ((w : List ℕ) → IsNameOf (names_of s.hosts) host w → begins_with w (filter is_run (words_of line)) ≡ false)
      → Adds next behind t host → Adds s (line ∷ behind) t host
  later next item is same stays other a = record {
    new = a.new;
    lists = a.lists ∙ ap (λ (ds : List Directive). ds ++ a.new) same;
    armed = a.armed;
    calls = λ w name armed. a.calls w (stays w name) (sym (armed_later w line behind is (other w name)) ∙ armed);
  }

  adds_passed : is_comment (words_of line) ≡ true → Adds s behind t host → Adds s (line ∷ behind) t host
  adds_passed is a =
      let same : (w : List ℕ) → is_armed w (line ∷ behind) ≡ is_armed w behind = λ w. rw is refl in
      record { new = a.new; lists = a.lists; armed = a.armed; calls = λ w name armed. a.calls w name (sym (same w) ∙ armed) }

  adds_host : (name : List ℕ) → is_comment (words_of line) ≡ false → words_of line ≡ codes "host" ∷ name ∷ []
      → Adds (with_item s (Host name)) behind t host → Adds s (line ∷ behind) t host
  adds_host name is spells a =
      later (with_item s (Host name)) (Host name) is (at_new s.hosts name host)
      (λ w h. subst (λ (names : Words). IsNameOf names host w) (sym (names_more s (Host name)))
      (slice_get_more (names_of s.hosts) (name ∷ []) host w h))
      (λ w h. ap (λ (ws : Words). begins_with w (filter is_run ws)) spells ∙ not_host w (are.hosts host w h))
      a

  adds_step : (other count : ℕ) (rest : Words) → is_comment (words_of line) ≡ false → words_of line ≡ codes "step" ∷ rest
      → Adds (with_item s (Step other count)) behind t host → Adds s (line ∷ behind) t host
  adds_step other count rest is spells a =
      later (with_item s (Step other count)) (Step other count) is refl (λ w h. h)
      (λ w h. ap (λ (ws : Words). begins_with w (filter is_run ws)) spells ∙ not_step w (are.hosts host w h))
      a

  module _ (other : ℕ) (d : Directive) (is : is_comment (words_of line) ≡ false)
      (says : SaysItem (names_of s.hosts) (is_begun s) (words_of line) (Does other d))
      (armed : is_unarmed (Does other d) (words_of line) behind ≡ false) (a : Adds (with_item s (Does other d)) behind t host) where
    abbrev word : List ℕ
    word = says.spells.0

    stays : (w : List ℕ) → IsNameOf (names_of s.hosts) host w → IsNameOf (names_of (with_item s (Does other d)).hosts) host w
    stays w h = subst (λ (names : Words). IsNameOf names host w) (sym (names-with_directive s.hosts other d)) h

    adds_other : host ≢ other → Adds s (line ∷ behind) t host
    adds_other different =
        later (with_item s (Does other d)) (Does other d) is (at_other s.hosts host other d different) stays
        (λ w h. begins_other (names_of s.hosts) are (words_of line) other d says.spells host w h different)
        a

    called : (w : List ℕ) → IsNameOf (names_of s.hosts) other w → is_armed w (line ∷ behind) ≡ true → is_call d ≡ true
    called w h found =
        sym (second_is_call (names_of s.hosts) are (words_of line) other d says.spells)
        ∙ (sym (armed_here w line behind is (begins_own (names_of s.hosts) are (words_of line) other d says.spells w h)) ∙ found)

    arms : is_arming d ≡ true → is_armed word behind ≡ true
    arms arming =
        let here : (is_arming d && not (is_armed word behind)) ≡ false =
        ap (λ (ws : Words). is_unarmed (Does other d) ws behind) (sym says.spells.3) ∙ armed in
        let only : not (is_armed word behind) ≡ false = ap (λ (b : Bool). b && not (is_armed word behind)) (sym arming) ∙ here in
        not-false (is_armed word behind) only

    adds_own : host ≡ other → Adds s (line ∷ behind) t host
    adds_own own =
        let name : IsNameOf (names_of s.hosts) host word = subst (λ (h : ℕ). IsNameOf (names_of s.hosts) h word) (sym own) says.spells.2 in
        let there : HasHost s (Does other d) = has_host s (is_begun s) (words_of line) (Does other d) says in
        let pushed : list_at (with_directive s.hosts other d) host ≡ list_at s.hosts host ++ d ∷ [] =
        ap (list_at (with_directive s.hosts other d)) own
        ∙ (at_same s.hosts other d there ∙ ap (λ (h : ℕ). list_at s.hosts h ++ d ∷ []) (sym own)) in
        record {
          new = d ∷ a.new;
          lists = a.lists ∙ (ap (λ (ds : List Directive). ds ++ a.new) pushed ∙ append_assoc (list_at s.hosts host) (d ∷ []) a.new);
          armed = armed_first d a.new (λ arming. a.calls word (stays word name) (arms arming)) a.armed;
          calls = λ w h found. called w (subst (λ (i : ℕ). IsNameOf (names_of s.hosts) i w) own h) found;
        }

    adds_does : Adds s (line ∷ behind) t host
    adds_does = elim (cases_eq host other) [ inl own ↦ adds_own own | inr different ↦ adds_other different ]

  adds_item : (item : Item) → is_comment (words_of line) ≡ false → IsTaken s (words_of line) behind item
      → Adds (with_item s item) behind t host → Adds s (line ∷ behind) t host
  adds_item (Volume id g) is taken a = absurd taken.says.stands
  adds_item (Host name) is taken a = adds_host name is taken.says.spells a
  adds_item (Step other count) is taken a = adds_step other count _ is taken.says.spells.2 a
  adds_item (Does other d) is taken a = adds_does other d is taken.says taken.armed a

adds : (s t : Scenario) (suffix : List (List ℕ)) (host : ℕ) → Continues s suffix t → AreNames (names_of s.hosts) → Adds s suffix t host
adds s t [] host done are = record {
  new = [];
  lists = none_more (list_at s.hosts host);
  armed = λ n d e. absurd cc;
  calls = λ w name found. absurd (false≢true found);
}
adds s t (line ∷ behind) host (passed is rest) are = adds_passed s t line behind host are is (adds s t behind host rest are)
adds s t (line ∷ behind) host (more item is taken rest) are =
    adds_item s t line behind host are item is taken
    (adds (with_item s item) t behind host rest (are_more s item are taken.says.stands))

-- the list of a host that had none at first
pub new_is_armed : (s t : Scenario) (suffix : List (List ℕ)) (host : ℕ) → Continues s suffix t → AreNames (names_of s.hosts)
    → list_at s.hosts host ≡ [] → AreArmed (list_at t.hosts host)
new_is_armed s t suffix host rest are none =
    let a = adds s t suffix host rest are in
    subst (λ (list : List Directive). AreArmed list) (sym (a.lists ∙ ap (λ (ds : List Directive). ds ++ a.new) none)) a.armed
