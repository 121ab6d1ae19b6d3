-- What is owed by the fields whose words are looked up, and by keywords.
use Rattle.std.proofs.Common.{◌≡◌, ℕ, ◌<◌, Bool, true, false, cond, ◌||◌, List, [], ◌∷◌, length, get_or, map, Ok, Err, Option, Some, None, refl, ap, sym, ◌∙◌, arith}
use Rattle.std.specs.Prelude.{if◌then◌else◌, IfOk, position, find, is_some, nat_lt}
use Rattle.std.specs.List.{list_any, position_or_len}
use Rattle.std.specs.Option.{option_map_or}
use Rattle.std.specs.Str.{bytes_eq}
use Rattle.std.proofs.lemmas.Bool.Decides.{nat_tests}
use Rattle.std.proofs.lemmas.List.Quantifiers.{position-Some}
use Rattle.std.proofs.lemmas.List.Sums.{position_or_len_is}
use Rattle.std.proofs.lemmas.Option.{get_or_from_slice_get, slice_get-get_or, slice_get_within}
use Rattle.uuid.specs.Text.{parsed}
use Rattle.ds_tree.specs.declared.scenarios.Point.{Point}
use Rattle.ds_tree.specs.declared.scenarios.Point.TheVariants as points
use Rattle.ds_tree.specs.Lines.{Words, is_word}
use Rattle.ds_tree.specs.Grammar.{point_word, IsHostName, IsIdWord, IsNameOf, AreDistinct}
use Rattle.ds_script.specs.declared.faults.LineFault.{LineFault}
use Rattle.ds_script.specs.declared.faults.LineFault.TheVariants as faults
use Rattle.ds_script.specs.Faults.{Class, Shape, Keyword, KnownHost, PointName, Id, Then, suits, fault_of, is_among, point_words}
use Rattle.ds_script.specs.Reading.{◌>>=◌, Reads, Reader, word_at, host_named, host_at, all_points, point_named, point_at, id_at, keyword_at}
use Rattle.ds_script.proofs.Readers.{by_word, before, fault_in, IsPick, IsField, IsLine, Behind, then_line, line_same}
use Rattle.ds_script.proofs.WordLaws.{label_means, is_word-label, bytes_eq-same, bytes_eq-means, bytes_eq-other}
use Rattle.ds_script.proofs.FieldLaws.{picked}

-- A pick by what is found.

-- what was found, and else this fault
abbrev found : (A : Type 0) → LineFault → Option A → Reads A
found A fault o = option_map_or (λ x. Ok x) o (Err fault)

found_behind : (A : Type 0) (fault : LineFault) (ws : Words) (o : Option A)
    → option_map_or (λ x. Ok (x, ws)) o (Err fault) ≡ (found A fault o >>= before ws)
found_behind A fault ws (Some x) = refl
found_behind A fault ws None = refl

found_means : (A : Type 0) (fault : LineFault) (P : A → Type 0) (o : Option A) → ((x : A) → o ≡ Some x → P x) → IfOk (found A fault o) P
found_means A fault P (Some x) h = h x refl
found_means A fault P None h = tt

found_tells : (A : Type 0) (fault : LineFault) (o : Option A) → (if is_some o then None else Some fault) ≡ fault_in (found A fault o)
found_tells A fault (Some x) = refl
found_tells A fault None = refl

-- the field of the words that are found
module _ (A : Type 0) (names : Words) (class : Class) (find : List ℕ → Option A) (fault : LineFault) (Means : List ℕ → A → Type 0)
    (same_test : (w : List ℕ) → suits names class w ≡ is_some (find w)) (same_fault : (w : List ℕ) → fault_of class w ≡ fault)
    (means : (w : List ℕ) (x : A) → is_word w ≡ true → find w ≡ Some x → Means w x)
    (word : (w : List ℕ) (x : A) → Means w x → is_word w ≡ true)
    (finds : (w : List ℕ) (x : A) → Means w x → find w ≡ Some x) where
  tells_found : (w : List ℕ) → (if suits names class w then None else Some (fault_of class w)) ≡ fault_in (found A fault (find w))
  tells_found w = rw (same_test w, same_fault w) (found_tells A fault (find w))

  found_pick : IsPick A names class (λ w. found A fault (find w)) Means
  found_pick = record {
    means = λ w is. found_means A fault (Means w) (find w) (λ x e. means w x is e);
    word = word;
    picks = λ w x h. ap (found A fault) (finds w x h);
    tells = tells_found;
  }

-- Hosts.

-- the names of hosts: each is one, and no two are the same
pub record AreNames (names : Words) : Type 0 where
  pub hosts : (i : ℕ) (name : List ℕ) → IsNameOf names i name → IsHostName name
  pub apart : AreDistinct names

any_first : (p : List ℕ → Bool) (x : List ℕ) (xs : Words) (b : Bool) → p x ≡ b → list_any p xs ≡ nat_lt (position_or_len p xs) (length xs)
    → list_any p (x ∷ xs) ≡ nat_lt (position_or_len p (x ∷ xs)) (length (x ∷ xs))
any_first p x xs true e same = rw e (grind (arith, nat_tests))
any_first p x xs false e same = rw (e, same) (grind (arith, nat_tests))

any_position : (p : List ℕ → Bool) (xs : Words) → list_any p xs ≡ nat_lt (position_or_len p xs) (length xs)
any_position p [] = refl
any_position p (x ∷ xs) = any_first p x xs (p x) refl (any_position p xs)

is_some-cond : (A : Type 0) (x : A) (b : Bool) → is_some (cond b (Some x) None) ≡ b
is_some-cond A x true = refl
is_some-cond A x false = refl

pub is_among-found : (names : Words) (w : List ℕ) → is_among w names ≡ is_some (host_named names w)
is_among-found names w =
    any_position (bytes_eq w) names
    ∙ sym (is_some-cond ℕ (position_or_len (bytes_eq w) names) (nat_lt (position_or_len (bytes_eq w) names) (length names)))

pub host_named-means : (names : Words) (w : List ℕ) (host : ℕ) → host_named names w ≡ Some host → IsNameOf names host w
host_named-means names w host e =
    let at = position-Some (bytes_eq w) names host [] e in
    slice_get-get_or names host [] at.0 ∙ ap Some (sym (bytes_eq-means w (get_or names host []) at.1))

position_from : (p : List ℕ → Bool) (xs : Words) (i : ℕ) → position_or_len p xs ≡ i → i < length xs → position p xs ≡ Some i
position_from p xs i e less =
    let there : nat_lt i (length xs) ≡ true = grind (arith, nat_tests, less) in rw (e, there) refl

pub host_named-from : (names : Words) → AreNames names → (w : List ℕ) (host : ℕ) → IsNameOf names host w → host_named names w ≡ Some host
host_named-from names are w host is =
    let within = slice_get_within names host w is in
    position_from (bytes_eq w) names host
    (position_or_len_is (bytes_eq w) names host [] (omega (arith, within))
    (λ k less. bytes_eq-other w (get_or names k [])
    (λ e. absurd (omega (arith, less, are.apart k host w (slice_get-get_or names k [] (omega (arith, less, within)) ∙ ap Some (sym e)) is))))
    (λ less. ap (bytes_eq w) (get_or_from_slice_get names host w [] is) ∙ bytes_eq-same w))
    within

host_same : (names ws : Words) → host_at names ws ≡ by_word (λ w. found ℕ faults.Host (host_named names w)) ws
unfolding host_at
host_same names ws =
    picked ℕ (λ w. found ℕ faults.Host (host_named names w))
    (λ w. option_map_or (λ host. Ok (host, w.1)) (host_named names w.0) (Err faults.Host))
    (λ w ws. found_behind ℕ faults.Host ws (host_named names w)) ws

-- a word is the name of a host
abbrev pub IsHostWord : Words → List ℕ → ℕ → Type 0
IsHostWord names w host = IsNameOf names host w

pub host_field : (names : Words) → AreNames names → IsField ℕ names KnownHost (host_at names) (IsHostWord names)
host_field names are = record {
  pick = λ w. found ℕ faults.Host (host_named names w);
  is_pick = found_pick ℕ names KnownHost (host_named names) faults.Host (IsHostWord names) (is_among-found names) (λ w. refl)
      (λ w host is e. host_named-means names w host e)
      (λ w host h. is_word-label w (label_means w (are.hosts host w h).label))
      (host_named-from names are);
  same = host_same names;
}

-- Points.

find_means : (A : Type 0) (p : A → Bool) (xs : List A) (x : A) → find p xs ≡ Some x → p x ≡ true
find_means A p [] x e = cc
find_means A p (y ∷ ys) x e = at_first (p y) refl (find_means A p ys x) e
  where
    at_first : (b : Bool) → p y ≡ b → (find p ys ≡ Some x → p x ≡ true) → cond b (Some y) (find p ys) ≡ Some x → p x ≡ true
    at_first true is rest e = let same : y ≡ x = cc in ap p (sym same) ∙ is
    at_first false is rest e = rest e

any_found : (A : Type 0) (p : List ℕ → Bool) (f : A → List ℕ) (xs : List A) → list_any p (map f xs) ≡ is_some (find (λ x. p (f x)) xs)
any_found A p f [] = refl
any_found A p f (x ∷ xs) = at_first x xs (p (f x)) (any_found A p f xs)
  where
    at_first : (x : A) (xs : List A) (b : Bool) → list_any p (map f xs) ≡ is_some (find (λ x. p (f x)) xs)
        → (b || list_any p (map f xs)) ≡ is_some (cond b (Some x) (find (λ x. p (f x)) xs))
    at_first x xs true e = refl
    at_first x xs false e = e

abbrev pub IsPointWord : List ℕ → Point → Type 0
IsPointWord w point = w ≡ point_word point

point_named-means : (w : List ℕ) (point : Point) → point_named w ≡ Some point → IsPointWord w point
unfolding point_named
point_named-means w point e =
    bytes_eq-means w (point_word point) (find_means Point (λ p. bytes_eq w (point_word p)) all_points point e)

point_named-word : (point : Point) → point_named (point_word point) ≡ Some point
unfolding point_named
point_named-word points.Enter = refl
point_named-word points.Leave = refl
point_named-word points.Beat = refl
point_named-word points.Commit = refl
point_named-word points.Retire = refl
point_named-word points.Read = refl
point_named-word points.Lock = refl
point_named-word points.Free = refl
point_named-word points.Index = refl
point_named-word points.Place = refl
point_named-word points.Break = refl
point_named-word points.Clear = refl

is_word-point : (point : Point) → is_word (point_word point) ≡ true
is_word-point points.Enter = refl
is_word-point points.Leave = refl
is_word-point points.Beat = refl
is_word-point points.Commit = refl
is_word-point points.Retire = refl
is_word-point points.Read = refl
is_word-point points.Lock = refl
is_word-point points.Free = refl
is_word-point points.Index = refl
is_word-point points.Place = refl
is_word-point points.Break = refl
is_word-point points.Clear = refl

point_test : (w : List ℕ) → is_among w point_words ≡ is_some (point_named w)
unfolding point_named
point_test w = any_found Point (bytes_eq w) point_word all_points

point_same : (ws : Words) → point_at ws ≡ by_word (λ w. found Point faults.Point (point_named w)) ws
unfolding point_at
point_same ws =
    picked Point (λ w. found Point faults.Point (point_named w))
    (λ w. option_map_or (λ point. Ok (point, w.1)) (point_named w.0) (Err faults.Point))
    (λ w ws. found_behind Point faults.Point ws (point_named w)) ws

pub point_field : (names : Words) → IsField Point names PointName point_at IsPointWord
point_field names = record {
  pick = λ w. found Point faults.Point (point_named w);
  is_pick = found_pick Point names PointName point_named faults.Point IsPointWord point_test (λ w. refl)
      (λ w point is e. point_named-means w point e)
      (λ w point h. ap is_word h ∙ is_word-point point)
      (λ w point h. ap point_named h ∙ point_named-word point);
  same = point_same;
}

-- Ids.

id_same : (ws : Words) → id_at ws ≡ by_word (λ w. found (List ℕ) faults.Uuid (parsed w)) ws
unfolding id_at
id_same ws =
    picked (List ℕ) (λ w. found (List ℕ) faults.Uuid (parsed w))
    (λ w. option_map_or (λ id. Ok (id, w.1)) (parsed w.0) (Err faults.Uuid))
    (λ w ws. found_behind (List ℕ) faults.Uuid ws (parsed w)) ws

pub id_field : (names : Words) → IsField (List ℕ) names Id id_at IsIdWord
id_field names = record {
  pick = λ w. found (List ℕ) faults.Uuid (parsed w);
  is_pick = found_pick (List ℕ) names Id parsed faults.Uuid IsIdWord (λ w. refl) (λ w. refl)
      (λ w id is e. record { whole = is; reads = e })
      (λ w id h. h.whole)
      (λ w id h. h.reads);
  same = id_same;
}

-- Keywords.

abbrev pub IsKeyword : List ℕ → List ℕ → Unit {0} → Type 0
IsKeyword word w x = w ≡ word

abbrev no_value : Words → Reads (Unit {0} × Words)
no_value behind = Ok (tt, behind)

-- a keyword as a field without a value of its own
abbrev keyword_reader : List ℕ → Reader (Unit {0})
keyword_reader word ws = keyword_at word ws >>= no_value

abbrev is_said : Bool → Reads (Unit {0})
is_said b = if b then Ok tt else Err faults.Word

abbrev keyword_pick : List ℕ → List ℕ → Reads (Unit {0})
keyword_pick word w = is_said (bytes_eq w word)

keyword_behind : (ws : Words) (b : Bool) → ((if b then Ok ws else Err faults.Word) >>= no_value) ≡ (is_said b >>= before ws)
keyword_behind ws true = refl
keyword_behind ws false = refl

twice : (A B C : Type 0) (r : Reads A) (f : A → Reads B) (g : B → Reads C) → ((r >>= f) >>= g) ≡ (r >>= (λ x. f x >>= g))
twice A B C (Ok x) f g = refl
twice A B C (Err e) f g = refl

keyword_same : (word : List ℕ) (ws : Words) → keyword_reader word ws ≡ by_word (keyword_pick word) ws
unfolding keyword_at
keyword_same word ws =
    twice (List ℕ × Words) Words (Unit {0} × Words) (word_at ws) (λ w. if bytes_eq w.0 word then Ok w.1 else Err faults.Word)
    no_value
    ∙ picked (Unit {0}) (keyword_pick word)
    (λ w. (if bytes_eq w.0 word then Ok w.1 else Err faults.Word) >>= no_value)
    (λ w ws. keyword_behind ws (bytes_eq w word)) ws

keyword_means : (word w : List ℕ) (b : Bool) → (b ≡ true → w ≡ word) → IfOk (is_said b) (IsKeyword word w)
keyword_means word w true h = h refl
keyword_means word w false h = tt

keyword_tells : (b : Bool) → (if b then None else Some faults.Word) ≡ fault_in (is_said b)
keyword_tells true = refl
keyword_tells false = refl

keyword_field : (names : Words) (word : List ℕ) → is_word word ≡ true → IsField (Unit {0}) names (Keyword word) (keyword_reader word) (IsKeyword word)
keyword_field names word is = record {
  pick = keyword_pick word;
  is_pick = record {
    means = λ w _. keyword_means word w (bytes_eq w word) (bytes_eq-means w word);
    word = λ w x h. ap is_word h ∙ is;
    picks = λ w x h. ap (keyword_pick word) h ∙ ap is_said (bytes_eq-same word);
    tells = λ w. keyword_tells (bytes_eq w word);
  };
  same = keyword_same word;
}

-- a keyword, and then a line
abbrev pub BehindKeyword : (B : Type 0) → List ℕ → (Words → B → Type 0) → Words → B → Type 0
BehindKeyword B word Next = Behind (Unit {0}) B (IsKeyword word) (λ x. Next)

pub keyword_line : (B : Type 0) (names : Words) (word : List ℕ) (shape : Shape) (next : Words → Reads B) (Next : Words → B → Type 0)
    → is_word word ≡ true → IsLine B names shape next Next
    → IsLine B names (Then (Keyword word) shape) (λ ws. keyword_at word ws >>= next) (BehindKeyword B word Next)
keyword_line B names word shape next Next is line =
    line_same B names (Then (Keyword word) shape) (λ ws. keyword_reader word ws >>= (λ r. next r.1)) (λ ws. keyword_at word ws >>= next)
    (BehindKeyword B word Next)
    (then_line (Unit {0}) B names (IsKeyword word) (λ x. Next) (λ x. next) (Keyword word) shape (keyword_reader word)
    (keyword_field names word is) (λ x. line))
    (λ ws. sym (twice Words (Unit {0} × Words) B (keyword_at word ws) no_value (λ r. next r.1)))
