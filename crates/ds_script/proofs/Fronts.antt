-- The first line of a text, and the first word of a line, from the front.
use Rattle.std.proofs.Common.{◌≡◌, ℕ, suc, ◌+◌, ◌<◌, max, Bool, true, false, ◌==◌, ◌&&◌, List, [], ◌∷◌, length, get_or, take, drop, refl, ap, sym, subst, arith}
use Rattle.std.proofs.lemmas.Bool.Decides.{nat_tests}
use Rattle.std.specs.List.{prefix_len, position_or_len}
use Rattle.ds_tree.specs.Lines.{lines_of, words_of, onto_first, is_blank, is_visible, begins_visible}
use Rattle.ds_script.specs.Fronts.{is_line_feed, begins_blank}

pub lines_of-none : (bs : List ℕ) → length bs ≡ 0 → lines_of bs ≡ []
unfolding lines_of
lines_of-none [] none = refl
lines_of-none (b ∷ bs) none = absurd (omega (arith, none))

pub words_of-none : (bs : List ℕ) → length bs ≡ 0 → words_of bs ≡ []
unfolding words_of
words_of-none [] none = refl
words_of-none (b ∷ bs) none = absurd (omega (arith, none))

-- a blank in front of a line adds no word
pub words_of-past_blank : (bs : List ℕ) (d : ℕ) → 0 < length bs → is_blank (get_or bs 0 d) ≡ true → words_of (drop 1 bs) ≡ words_of bs
unfolding words_of
words_of-past_blank [] d some blank = absurd (omega (arith, some))
words_of-past_blank (b ∷ bs) d some blank = rw blank refl

words_of-alone : (b : ℕ) (bs : List ℕ) → is_blank b ≡ false → (is_visible b && begins_visible bs) ≡ false
    → words_of (b ∷ bs) ≡ (b ∷ []) ∷ words_of bs
unfolding words_of
words_of-alone b bs other ends = rw (other, ends) refl

words_of-onto : (b : ℕ) (bs : List ℕ) → is_blank b ≡ false → (is_visible b && begins_visible bs) ≡ true
    → words_of (b ∷ bs) ≡ onto_first b (words_of bs)
unfolding words_of
words_of-onto b bs other more = rw (other, more) refl

take_next : (n b : ℕ) (bs : List ℕ) → take (1 + n) (b ∷ bs) ≡ b ∷ take n bs
take_next n b bs = let e : 1 + n ≡ suc n = omega arith in rw e refl

drop_next : (n b : ℕ) (bs : List ℕ) → drop (1 + n) (b ∷ bs) ≡ drop n bs
drop_next n b bs = let e : 1 + n ≡ suc n = omega arith in rw e refl

-- the lines of a text whose first has n bytes
abbrev BeginsLine : ℕ → List ℕ → Type 0
BeginsLine n bs = lines_of bs ≡ take n bs ∷ lines_of (drop 1 (drop n bs))

line_from : (b : ℕ) (bs : List ℕ) (feed : Bool) → (b == 10) ≡ feed → (0 < length bs → BeginsLine (position_or_len is_line_feed bs) bs)
    → BeginsLine (position_or_len is_line_feed (b ∷ bs)) (b ∷ bs)
unfolding lines_of
line_from b bs true e rest = rw e refl
line_from b [] false e rest = rw e refl
line_from b (c ∷ cs) false e rest =
    let n = position_or_len is_line_feed (c ∷ cs) in
    let behind = rest (omega arith) in
    rw (e, take_next n b (c ∷ cs), drop_next n b (c ∷ cs)) (ap (onto_first b) behind)

pub lines_front : (bs : List ℕ) → 0 < length bs → BeginsLine (position_or_len is_line_feed bs) bs
lines_front [] some = absurd (omega (arith, some))
lines_front (b ∷ bs) some = line_from b bs (b == 10) refl (lines_front bs)

-- the words of a line whose first has n bytes
abbrev BeginsWord : ℕ → List ℕ → Type 0
BeginsWord n bs = words_of bs ≡ take n bs ∷ words_of (drop n bs)

-- a visible byte is no blank
visible_first : (b : ℕ) (bs : List ℕ) → begins_visible (b ∷ bs) ≡ true → begins_blank (b ∷ bs) ≡ false
visible_first b bs visible = grind (arith, nat_tests)

at_least_one : (n : ℕ) → max (1 + n) 1 ≡ 1 + n
at_least_one n = grind arith

word_from : (b : ℕ) (bs : List ℕ) (visible more : Bool) → is_blank b ≡ false → is_visible b ≡ visible → begins_visible bs ≡ more
    → (begins_blank bs ≡ false → 0 < length bs → BeginsWord (max (prefix_len is_visible bs) 1) bs)
    → BeginsWord (max (prefix_len is_visible (b ∷ bs)) 1) (b ∷ bs)
word_from b bs false more other e f rest = rw e (words_of-alone b bs other (rw e refl))
word_from b [] true more other e f rest = rw e (words_of-alone b [] other (rw e refl))
word_from b (c ∷ cs) true false other e f rest = rw (e, f) (words_of-alone b (c ∷ cs) other (rw (e, f) refl))
word_from b (c ∷ cs) true true other e f rest =
    let n = prefix_len is_visible cs in
    let length_behind : max (prefix_len is_visible (c ∷ cs)) 1 ≡ 1 + n = rw f (at_least_one n) in
    let behind : BeginsWord (1 + n) (c ∷ cs) =
    subst (λ m. BeginsWord m (c ∷ cs)) length_behind (rest (visible_first c cs f) (omega arith)) in
    let length_here : max (prefix_len is_visible (b ∷ c ∷ cs)) 1 ≡ 1 + (1 + n) = rw (e, f) (at_least_one (1 + n)) in
    let here : BeginsWord (1 + (1 + n)) (b ∷ c ∷ cs) =
    rw (take_next (1 + n) b (c ∷ cs), drop_next (1 + n) b (c ∷ cs), words_of-onto b (c ∷ cs) other (rw (e, f) refl), behind) refl in
    subst (λ m. BeginsWord m (b ∷ c ∷ cs)) (sym length_here) here

pub words_front : (bs : List ℕ) → begins_blank bs ≡ false → 0 < length bs → BeginsWord (max (prefix_len is_visible bs) 1) bs
words_front [] other some = absurd (omega (arith, some))
words_front (b ∷ bs) other some = word_from b bs (is_visible b) (begins_visible bs) other refl refl (words_front bs)

pub ruleset fronts = (lines_of-none, words_of-none, words_of-past_blank, lines_front, words_front)
