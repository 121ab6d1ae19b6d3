-- Lines that are written in one way: what they say is made of values, each of which has one word.
use Rattle.std.proofs.Common.{◌≡◌, ℕ, List, [], ◌∷◌, Ok, Err, Option, Some, None, refl, ap, sym, ◌∙◌, subst, true}
use Rattle.std.specs.Prelude.{IfOk, IfSome}
use Rattle.ds_tree.specs.Lines.{Words, is_word}
use Rattle.ds_script.specs.Faults.{Class, Shape, End, Then, Maybe, Keyword, first_fault}
use Rattle.ds_script.specs.Reading.{◌>>=◌, Reads, Reader, keyword_at, end_at}
use Rattle.ds_script.proofs.Readers.{fault_in, IsField, IsLine, Behind, AtEnd, IfOk-like, then_line, end_line, line_like}
use Rattle.ds_script.proofs.LookupLaws.{BehindKeyword, keyword_line}

-- words that are those of a value which fits, and what is made of it
pub record Written (V B : Type 0) (words : V → Words) (Fit : V → Type 0) (make : V → B) (ws : Words) (y : B) : Type 0 where
  pub value : V
  pub is : ws ≡ words value
  pub fits : Fit value
  pub made : y ≡ make value

-- a word means a value where it is the word of that value, which fits
pub record HasOneWord (A : Type 0) (Means : List ℕ → A → Type 0) (spell : A → List ℕ) (Fit : A → Type 0) : Type 0 where
  pub is : (w : List ℕ) (x : A) → Means w x → w ≡ spell x
  pub fits : (w : List ℕ) (x : A) → Means w x → Fit x
  pub means : (x : A) → Fit x → Means (spell x) x

-- no more words
pub written_end : (B : Type 0) (names : Words) (y : B)
    → IsLine B names End (end_at y) (Written (Unit {0}) B (λ v. []) (λ v. Unit {0}) (λ v. y))
written_end B names y =
    line_like B names End (end_at y) (AtEnd B y) (Written (Unit {0}) B (λ v. []) (λ v. Unit {0}) (λ v. y)) (end_line B names y)
    (λ ws z h. record { value = tt; is = h.none; fits = tt; made = h.value })
    (λ ws z h. record { none = h.is; value = h.made })

-- a field, and then the others
module _ (A V B : Type 0) (names : Words) (class : Class) (shape : Shape) (read : Reader A) (next : A → Words → Reads B)
    (Means : List ℕ → A → Type 0) (spell : A → List ℕ) (First : A → Type 0) (words : V → Words) (Fit : V → Type 0) (make : A → V → B) where
  abbrev pub WrittenThen : Words → B → Type 0
  WrittenThen = Written (A × V) B (λ v. spell v.0 ∷ words v.1) (λ v. First v.0 × Fit v.1) (λ v. make v.0 v.1)

  abbrev Next : A → Words → B → Type 0
  Next x = Written V B words Fit (make x)

  there : HasOneWord A Means spell First → (ws : Words) (y : B) → Behind A B Means Next ws y → WrittenThen ws y
  there one ws y h =
      let word = one.is h.word h.value h.first in
      record {
        value = (h.value, h.next.value);
        is = h.is ∙ (ap (λ (w : List ℕ). w ∷ h.rest) word ∙ ap (λ (ws : Words). spell h.value ∷ ws) h.next.is);
        fits = (one.fits h.word h.value h.first, h.next.fits);
        made = h.next.made;
      }

  back : HasOneWord A Means spell First → (ws : Words) (y : B) → WrittenThen ws y → Behind A B Means Next ws y
  back one ws y h = record {
    word = spell h.value.0;
    value = h.value.0;
    rest = words h.value.1;
    is = h.is;
    first = one.means h.value.0 h.fits.0;
    next = record { value = h.value.1; is = refl; fits = h.fits.1; made = h.made };
  }

  pub written_then : IsField A names class read Means → HasOneWord A Means spell First
      → ((x : A) → IsLine B names shape (next x) (Written V B words Fit (make x)))
      → IsLine B names (Then class shape) (λ ws. read ws >>= (λ r. next r.0 r.1)) WrittenThen
  written_then field one lines =
      line_like B names (Then class shape) (λ ws. read ws >>= (λ r. next r.0 r.1)) (Behind A B Means Next) WrittenThen
      (then_line A B names Means Next next class shape read field lines) (there one) (back one)

-- a keyword, and then a line
module _ (V B : Type 0) (names : Words) (word : List ℕ) (shape : Shape) (next : Words → Reads B)
    (words : V → Words) (Fit : V → Type 0) (make : V → B) where
  abbrev pub WrittenBehind : Words → B → Type 0
  WrittenBehind = Written V B (λ v. word ∷ words v) Fit make

  pub written_keyword : is_word word ≡ true → IsLine B names shape next (Written V B words Fit make)
      → IsLine B names (Then (Keyword word) shape) (λ ws. keyword_at word ws >>= next) WrittenBehind
  written_keyword is line =
      line_like B names (Then (Keyword word) shape) (λ ws. keyword_at word ws >>= next) (BehindKeyword B word (Written V B words Fit make))
      WrittenBehind (keyword_line B names word shape next (Written V B words Fit make) is line)
      (λ ws y h. record {
        value = h.next.value;
        is = h.is ∙ (ap (λ (w : List ℕ). w ∷ h.rest) h.first ∙ ap (λ (ws : Words). word ∷ ws) h.next.is);
        fits = h.next.fits;
        made = h.next.made;
      })
      (λ ws y h. record {
        word = word;
        value = tt;
        rest = words h.value;
        is = h.is;
        first = refl;
        next = record { value = h.value; is = refl; fits = h.fits; made = h.made };
      })

-- A last part that may be left out.

-- a keyword and a name, if words are left
unfoldable pub optional_at : List ℕ → Reader (List ℕ) → Reader (Option (List ℕ))
optional_at word name_at [] = Ok (None, [])
optional_at word name_at (w ∷ ws) = keyword_at word (w ∷ ws) >>= (λ behind. name_at behind >>= (λ name. Ok (Some name.0, name.1)))

pub twice : (A B C D : Type 0) (r : Reads A) (f : A → Reads B) (g : A → B → Reads C) (h : C → Reads D)
    → ((r >>= (λ x. f x >>= g x)) >>= h) ≡ (r >>= (λ x. f x >>= (λ y. g x y >>= h)))
twice A B C D (Err e) f g h = refl
twice A B C D (Ok x) f g h = once (f x)
  where
    once : (r : Reads B) → ((r >>= g x) >>= h) ≡ (r >>= (λ y. g x y >>= h))
    once (Ok y) = refl
    once (Err e) = refl

module _ (B : Type 0) (names : Words) (word : List ℕ) (class : Class) (name_at : Reader (List ℕ)) (Means : List ℕ → List ℕ → Type 0)
    (Fit : List ℕ → Type 0) (part : Option (List ℕ) → Words) (make : Option (List ℕ) → B) where
  abbrev optional_end : Words → Reads B
  optional_end ws = optional_at word name_at ws >>= (λ bind. end_at (make bind.0) bind.1)

  abbrev pub WrittenOptional : Words → B → Type 0
  WrittenOptional = Written (Option (List ℕ)) B part (λ bind. IfSome bind Fit) make

  abbrev named_end : Words → Reads B
  named_end behind = name_at behind >>= (λ name. end_at (make (Some name.0)) name.1)

  abbrev given : Words → Reads B
  given ws = keyword_at word ws >>= named_end

  abbrev Given : Words → B → Type 0
  Given = Written (List ℕ × Unit {0}) B (λ v. word ∷ v.0 ∷ []) (λ v. Fit v.0 × Unit {0}) (λ v. make (Some v.0))

  optional_given : (w : List ℕ) (ws : Words) → optional_end (w ∷ ws) ≡ given (w ∷ ws)
  unfolding optional_at
  optional_given w ws =
      twice Words (List ℕ × Words) (Option (List ℕ) × Words) B (keyword_at word (w ∷ ws)) name_at (λ behind name. Ok (Some name.0, name.1))
      (λ bind. end_at (make bind.0) bind.1)

  module _ (line : IsLine B names (Then (Keyword word) (Then class End)) given Given) (none : part None ≡ [])
      (some : (name : List ℕ) → part (Some name) ≡ word ∷ name ∷ []) where
    optional_means : (ws : Words) → IfOk (optional_end ws) (WrittenOptional ws)
    unfolding optional_at end_at
    optional_means [] = record { value = None; is = sym none; fits = tt; made = refl }
    optional_means (w ∷ ws) =
        subst (λ (r : Reads B). IfOk r (WrittenOptional (w ∷ ws))) (sym (optional_given w ws))
        (IfOk-like (Given (w ∷ ws)) (WrittenOptional (w ∷ ws)) (given (w ∷ ws))
        (λ y h. record { value = Some h.value.0; is = h.is ∙ sym (some h.value.0); fits = h.fits.0; made = h.made })
        (line.means (w ∷ ws)))

    optional_tells : (ws : Words) → first_fault names (Maybe (Then (Keyword word) (Then class End))) ws ≡ fault_in (optional_end ws)
    unfolding optional_at end_at first_fault
    optional_tells [] = refl
    optional_tells (w ∷ ws) = line.tells (w ∷ ws) ∙ ap fault_in (sym (optional_given w ws))

    from_value : (ws : Words) (y : B) (bind : Option (List ℕ)) → ws ≡ part bind → IfSome bind Fit → y ≡ make bind → optional_end ws ≡ Ok y
    unfolding optional_at end_at
    from_value ws y None is fits made = ap optional_end (is ∙ none) ∙ ap (λ (z : B). Ok z) (sym made)
    from_value ws y (Some name) is fits made =
        ap optional_end (is ∙ some name) ∙ (optional_given word (name ∷ [])
        ∙ line.again (word ∷ name ∷ []) y (record { value = (name, tt); is = refl; fits = (fits, tt); made = made }))

    pub written_optional : IsLine B names (Maybe (Then (Keyword word) (Then class End))) optional_end WrittenOptional
    written_optional = record {
      means = optional_means;
      again = λ ws y h. from_value ws y h.value h.is h.fits h.made;
      tells = optional_tells;
    }
