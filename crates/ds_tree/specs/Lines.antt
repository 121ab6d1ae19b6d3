-- The lines and words of a text of bytes, and the words that are numbers.
use Rattle.std.specs.Prelude.{ℕ, ◌+◌, ◌-◌, ◌*◌, Bool, true, false, not, ◌==◌, ◌&&◌, ◌||◌, nat_le, if◌then◌else◌, List, [], ◌∷◌, length, map, filter}
use Rattle.std.specs.List.{list_all}

-- a word is a list of bytes, and a line is read as a list of words
abbrev pub Words : Type 0
Words = List (List ℕ)

-- the byte in front of the first of these lists
abbrev pub onto_first : ℕ → List (List ℕ) → List (List ℕ)
onto_first b [] = (b ∷ []) ∷ []
onto_first b (w ∷ ws) = (b ∷ w) ∷ ws

-- the lines of a text, each without the line feed that ends it; none begins after a last line feed
unfoldable pub lines_of : List ℕ → List (List ℕ)
lines_of [] = []
lines_of (b ∷ bs) = if b == 10 then [] ∷ lines_of bs else onto_first b (lines_of bs)

-- space, tab and carriage return
abbrev pub is_blank : ℕ → Bool
is_blank b = b == 32 || b == 9 || b == 13

-- the bytes that words are made of: those of ASCII that print, but for the space
abbrev pub is_visible : ℕ → Bool
is_visible b = nat_le 33 b && nat_le b 126

abbrev pub begins_visible : List ℕ → Bool
begins_visible [] = false
begins_visible (b ∷ bs) = is_visible b

-- the words of a line: the longest runs of visible bytes, and each byte that is neither visible nor a blank as one of its own
unfoldable pub words_of : List ℕ → Words
words_of [] = []
words_of (b ∷ bs) =
    if is_blank b then words_of bs
    else if is_visible b && begins_visible bs then onto_first b (words_of bs)
    else (b ∷ []) ∷ words_of bs

abbrev pub is_run : List ℕ → Bool
is_run w = list_all is_visible w

-- whether a word may stand in a line: 1 to 255 visible bytes
abbrev pub is_word : List ℕ → Bool
is_word w = is_run w && nat_le 1 (length w) && nat_le (length w) 255

-- whether the line of these words is passed over: it has none, or its first byte that isn't a blank is `#`
abbrev pub is_comment : Words → Bool
is_comment [] = true
is_comment ([] ∷ ws) = false
is_comment ((b ∷ w) ∷ ws) = b == 35

-- the words of the lines that aren't passed over
abbrev pub kept : List (List ℕ) → List Words
kept lines = filter (λ ws. not (is_comment ws)) (map words_of lines)

-- the same of a text
abbrev pub kept_lines : List ℕ → List Words
kept_lines bytes = kept (lines_of bytes)

abbrev pub is_digit : ℕ → Bool
is_digit b = nat_le 48 b && nat_le b 57

abbrev pub is_empty : List ℕ → Bool
is_empty [] = true
is_empty (b ∷ bs) = false

-- whether a word is a number: decimal digits without a leading zero, or `0`
abbrev pub is_number : List ℕ → Bool
is_number [] = false
is_number (b ∷ bs) = list_all is_digit (b ∷ bs) && (not (b == 48) || is_empty bs)

-- the number that these digits write when they follow those of n
unfoldable pub value_from : ℕ → List ℕ → ℕ
value_from n [] = n
value_from n (b ∷ bs) = value_from (10 * n + (b - 48)) bs

-- the number that a word of digits is
abbrev pub number_of : List ℕ → ℕ
number_of w = value_from 0 w

-- whether a word is a number in this range
abbrev pub is_number_in : ℕ → ℕ → List ℕ → Bool
is_number_in low high w = is_number w && nat_le low (number_of w) && nat_le (number_of w) high
