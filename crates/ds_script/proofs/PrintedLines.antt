-- Lines with single blanks between their words and a line feed at their end: they are read as those words.
use Rattle.std.proofs.Common.{◌≡◌, ℕ, Bool, true, false, not, ◌==◌, List, [], ◌∷◌, ◌++◌, refl, ap, ◌∙◌, append_assoc, arith}
use Rattle.std.specs.Prelude.{codes}
use Rattle.std.specs.List.{list_all, flat_map, join_by, AllByRecursion}
use Rattle.std.proofs.lemmas.Bool.{and_parts, and_from, not-true, false≢true}
use Rattle.std.proofs.lemmas.Bool.Decides.{nat_tests}
use Rattle.std.proofs.lemmas.List.Folds.{list_all-append}
use Rattle.ds_tree.specs.Lines.{Words, onto_first, lines_of, words_of, is_blank, is_visible, begins_visible, is_word, is_comment, kept, kept_lines}
use Rattle.ds_script.specs.Printed.{behind_blanks, line_text}
use Rattle.ds_script.proofs.WordLaws.{all_like}

-- Where a line ends.

abbrev is_no_feed : ℕ → Bool
is_no_feed b = not (b == 10)

line_in_front : (line rest : List ℕ) → list_all is_no_feed line ≡ true → lines_of (line ++ 10 ∷ rest) ≡ line ∷ lines_of rest
unfolding lines_of
line_in_front [] rest none = refl
line_in_front (b ∷ bs) rest none =
    let parts = and_parts (is_no_feed b) (list_all is_no_feed bs) none in
    rw (not-true (b == 10) parts.0, line_in_front bs rest parts.1) refl

-- The words of a line.

visible_no_blank : (b : ℕ) → is_visible b ≡ true → is_blank b ≡ false
visible_no_blank b visible = grind (arith, nat_tests)

-- a visible byte, before another or at the end of its run
run_goes_on : (b : ℕ) (bs : List ℕ) → is_visible b ≡ true → begins_visible bs ≡ true → words_of (b ∷ bs) ≡ onto_first b (words_of bs)
unfolding words_of
run_goes_on b bs visible more = rw (visible_no_blank b visible, visible, more) refl

run_ends : (b : ℕ) (bs : List ℕ) → is_visible b ≡ true → begins_visible bs ≡ false → words_of (b ∷ bs) ≡ (b ∷ []) ∷ words_of bs
unfolding words_of
run_ends b bs visible end = rw (visible_no_blank b visible, visible, end) refl

run_in_front : (b : ℕ) (bs rest : List ℕ) → list_all is_visible (b ∷ bs) ≡ true → begins_visible rest ≡ false
    → words_of (b ∷ bs ++ rest) ≡ (b ∷ bs) ∷ words_of rest
run_in_front b [] rest run end = run_ends b rest (and_parts (is_visible b) true run).0 end
run_in_front b (c ∷ cs) rest run end =
    let parts = and_parts (is_visible b) (list_all is_visible (c ∷ cs)) run in
    let next = (and_parts (is_visible c) (list_all is_visible cs) parts.1).0 in
    run_goes_on b (c ∷ cs ++ rest) parts.0 next ∙ ap (onto_first b) (run_in_front c cs rest parts.1 end)

word_in_front : (w rest : List ℕ) → is_word w ≡ true → begins_visible rest ≡ false → words_of (w ++ rest) ≡ w ∷ words_of rest
word_in_front [] rest is end = absurd (false≢true is)
word_in_front (b ∷ bs) rest is end =
    run_in_front b bs rest (word_run (b ∷ bs) is) end
  where
    word_run : (w : List ℕ) → is_word w ≡ true → list_all is_visible w ≡ true
    word_run w is = grind (arith, nat_tests)

blank_begins : (ws : Words) → begins_visible (behind_blanks ws) ≡ false
blank_begins [] = refl
blank_begins (w ∷ ws) = refl

words_behind : (ws : Words) → list_all is_word ws ≡ true → words_of (behind_blanks ws) ≡ ws
unfolding words_of
words_behind [] all = refl
words_behind (w ∷ ws) all =
    let parts = and_parts (is_word w) (list_all is_word ws) all in
    word_in_front w (behind_blanks ws) parts.0 (blank_begins ws) ∙ ap (λ (vs : Words). w ∷ vs) (words_behind ws parts.1)

-- Lines as they are printed.

-- words that a line may have, the first of which doesn't make it one that is passed over
pub record AreOfLine (ws : Words) : Type 0 where
  pub words : list_all is_word ws ≡ true
  pub stay : is_comment ws ≡ false

abbrev joined : Words → List ℕ
joined ws = join_by (λ w. w) (codes " ") ws

words_joined : (ws : Words) → list_all is_word ws ≡ true → words_of (joined ws) ≡ ws
unfolding words_of
words_joined [] all = refl
words_joined (w ∷ ws) all =
    let parts = and_parts (is_word w) (list_all is_word ws) all in
    word_in_front w (behind_blanks ws) parts.0 (blank_begins ws) ∙ ap (λ (vs : Words). w ∷ vs) (words_behind ws parts.1)

word_no_feed : (w : List ℕ) → is_word w ≡ true → list_all is_no_feed w ≡ true
word_no_feed w is =
    let run : list_all is_visible w ≡ true = grind (arith, nat_tests) in
    all_like is_visible is_no_feed visible_no_feed w run
  where
    visible_no_feed : (b : ℕ) → is_visible b ≡ true → is_no_feed b ≡ true
    visible_no_feed b visible = grind (arith, nat_tests)

behind_no_feed : (ws : Words) → list_all is_word ws ≡ true → list_all is_no_feed (behind_blanks ws) ≡ true
behind_no_feed [] all = refl
behind_no_feed (w ∷ ws) all =
    let parts = and_parts (is_word w) (list_all is_word ws) all in
    list_all-append is_no_feed w (behind_blanks ws)
    ∙ and_from (list_all is_no_feed w) (list_all is_no_feed (behind_blanks ws)) (word_no_feed w parts.0) (behind_no_feed ws parts.1)

joined_no_feed : (ws : Words) → list_all is_word ws ≡ true → list_all is_no_feed (joined ws) ≡ true
joined_no_feed [] all = refl
joined_no_feed (w ∷ ws) all =
    let parts = and_parts (is_word w) (list_all is_word ws) all in
    list_all-append is_no_feed w (behind_blanks ws)
    ∙ and_from (list_all is_no_feed w) (list_all is_no_feed (behind_blanks ws)) (word_no_feed w parts.0) (behind_no_feed ws parts.1)

line_kept : (ws : Words) (rest : List ℕ) → AreOfLine ws → kept_lines (line_text ws ++ rest) ≡ ws ∷ kept_lines rest
line_kept ws rest line =
    let front : lines_of (line_text ws ++ rest) ≡ joined ws ∷ lines_of rest =
    ap lines_of (append_assoc (joined ws) (codes "\n") rest) ∙ line_in_front (joined ws) rest (joined_no_feed ws line.words) in
    ap kept front ∙ rw (words_joined ws line.words, line.stay) refl

-- the lines of a printed text
pub lines_kept : (lines : List Words) → AllByRecursion AreOfLine lines → kept_lines (flat_map line_text lines) ≡ lines
unfolding lines_of
lines_kept [] all = refl
lines_kept (ws ∷ lines) all =
    line_kept ws (flat_map line_text lines) all.0 ∙ ap (λ (ks : List Words). ws ∷ ks) (lines_kept lines all.1)
