-- What is owed by a reader of words: what it reads is what the words mean, words that mean something are read as it, and the
-- fault that it tells is that of the table.
use Rattle.std.proofs.Common.{◌≡◌, ℕ, Bool, true, false, not, List, [], ◌∷◌, Ok, Err, Option, Some, None, refl, ap, sym, ◌∙◌, subst}
use Rattle.std.specs.Prelude.{if◌then◌else◌, IfOk}
use Rattle.ds_tree.specs.Lines.{Words, is_word}
use Rattle.ds_script.specs.declared.faults.LineFault.{LineFault}
use Rattle.ds_script.specs.declared.faults.LineFault.TheVariants as faults
use Rattle.ds_script.specs.Faults.{Class, Shape, End, Then, suits, fault_of, first_fault}
use Rattle.ds_script.specs.Reading.{◌>>=◌, Reads, Reader, word_at, end_at}

-- the fault that was told
abbrev pub fault_in : {A : Type 0} → Reads A → Option LineFault
fault_in (Ok x) = None
fault_in (Err f) = Some f

-- what was read and the words behind it
abbrev pub before : {A : Type 0} → Words → A → Reads (A × Words)
before ws x = Ok (x, ws)

-- the reader of one word by what the word is
abbrev pub by_word : {A : Type 0} → (List ℕ → Reads A) → Reader A
by_word pick [] = Err faults.Count
by_word pick (w ∷ ws) = if is_word w then pick w >>= before ws else Err faults.Word

-- a word that may stand in a line, and the words behind it
abbrev pub taken : List ℕ → Words → Bool → Reads (List ℕ × Words)
taken w ws b = if b then Ok (w, ws) else Err faults.Word

-- what one word is, at the place of a class
pub record IsPick (A : Type 0) (names : Words) (class : Class) (pick : List ℕ → Reads A) (Means : List ℕ → A → Type 0) : Type 0 where
  pub means : (w : List ℕ) → is_word w ≡ true → IfOk (pick w) (Means w)
  pub word : (w : List ℕ) (x : A) → Means w x → is_word w ≡ true
  pub picks : (w : List ℕ) (x : A) → Means w x → pick w ≡ Ok x
  pub tells : (w : List ℕ) → (if suits names class w then None else Some (fault_of class w)) ≡ fault_in (pick w)

-- a reader of one word
pub record IsField (A : Type 0) (names : Words) (class : Class) (read : Reader A) (Means : List ℕ → A → Type 0) : Type 0 where
  pub pick : List ℕ → Reads A
  pub is_pick : IsPick A names class pick Means
  pub same : (ws : Words) → read ws ≡ by_word pick ws

-- a reader of all words of a shape
pub record IsLine (A : Type 0) (names : Words) (shape : Shape) (read : Words → Reads A) (Means : Words → A → Type 0) : Type 0 where
  pub means : (ws : Words) → IfOk (read ws) (Means ws)
  pub again : (ws : Words) (x : A) → Means ws x → read ws ≡ Ok x
  pub tells : (ws : Words) → first_fault names shape ws ≡ fault_in (read ws)

-- A field, and then the others.

-- the words begin with one that means a value, and the others mean something behind that value
pub record Behind (A B : Type 0) (First : List ℕ → A → Type 0) (Next : A → Words → B → Type 0) (ws : Words) (y : B) : Type 0 where
  pub word : List ℕ
  pub value : A
  pub rest : Words
  pub is : ws ≡ word ∷ rest
  pub first : First word value
  pub next : Next value rest y

pub IfOk-like : {A : Type 0} (P Q : A → Type 0) (r : Reads A) → ((x : A) → P x → Q x) → IfOk r P → IfOk r Q
IfOk-like P Q (Ok x) like h = like x h
IfOk-like P Q (Err f) like h = tt

module _ (A B : Type 0) (names : Words) (First : List ℕ → A → Type 0) (Next : A → Words → B → Type 0) (next : A → Words → Reads B) where
  then_means : (w : List ℕ) (ws : Words) → ((x : A) → IfOk (next x ws) (Next x ws)) → (b : Bool) (r : Reads A) → (b ≡ true → IfOk r (First w))
      → IfOk ((if b then r >>= before ws else Err faults.Word) >>= (λ r. next r.0 r.1)) (Behind A B First Next (w ∷ ws))
  then_means w ws rest false r here = tt
  then_means w ws rest true (Err f) here = tt
  then_means w ws rest true (Ok x) here =
      IfOk-like (Next x ws) (Behind A B First Next (w ∷ ws)) (next x ws)
      (λ y h. record { word = w; value = x; rest = ws; is = refl; first = here refl; next = h }) (rest x)

  then_tells : (ws : Words) (fault : LineFault) (more : Option LineFault) → (b s : Bool) (r : Reads A)
      → (if s then None else Some fault) ≡ fault_in r → ((x : A) → more ≡ fault_in (next x ws))
      → (if not b then Some faults.Word else if s then more else Some fault)
      ≡ fault_in ((if b then r >>= before ws else Err faults.Word) >>= (λ r. next r.0 r.1))
  then_tells ws fault more false s r here rest = refl
  then_tells ws fault more true true (Ok x) here rest = rest x
  then_tells ws fault more true true (Err f) here rest = cc
  then_tells ws fault more true false (Ok x) here rest = cc
  then_tells ws fault more true false (Err f) here rest = here

  then_again : (w : List ℕ) (ws : Words) (x : A) (y : B) → (b : Bool) (r : Reads A) → b ≡ true → r ≡ Ok x → next x ws ≡ Ok y
      → ((if b then r >>= before ws else Err faults.Word) >>= (λ r. next r.0 r.1)) ≡ Ok y
  then_again w ws x y b r is found more = rw (is, found) more

  module _ (class : Class) (shape : Shape) (read : Reader A) (field : IsField A names class read First)
      (lines : (x : A) → IsLine B names shape (next x) (Next x)) where
    abbrev read_then : Words → Reads B
    read_then ws = read ws >>= (λ r. next r.0 r.1)

    abbrev picked_then : Words → Reads B
    picked_then ws = by_word field.pick ws >>= (λ r. next r.0 r.1)

    same : (ws : Words) → read_then ws ≡ picked_then ws
    same ws = ap (λ (s : Reads (A × Words)). s >>= (λ r. next r.0 r.1)) (field.same ws)

    picked_means : (ws : Words) → IfOk (picked_then ws) (Behind A B First Next ws)
    picked_means [] = tt
    picked_means (w ∷ ws) = then_means w ws (λ x. (lines x).means ws) (is_word w) (field.pick w) (field.is_pick.means w)

    picked_tells : (ws : Words) → first_fault names (Then class shape) ws ≡ fault_in (picked_then ws)
    unfolding first_fault
    picked_tells [] = refl
    picked_tells (w ∷ ws) =
        then_tells ws (fault_of class w) (first_fault names shape ws) (is_word w) (suits names class w) (field.pick w)
        (field.is_pick.tells w) (λ x. (lines x).tells ws)

    read_again : (ws : Words) (y : B) → Behind A B First Next ws y → read_then ws ≡ Ok y
    read_again ws y h =
        ap read_then h.is ∙ (same (h.word ∷ h.rest)
        ∙ then_again h.word h.rest h.value y (is_word h.word) (field.pick h.word) (field.is_pick.word h.word h.value h.first)
        (field.is_pick.picks h.word h.value h.first) ((lines h.value).again h.rest y h.next))

    pub then_line : IsLine B names (Then class shape) read_then (Behind A B First Next)
    then_line = record {
      means = λ ws. subst (λ (r : Reads B). IfOk r (Behind A B First Next ws)) (sym (same ws)) (picked_means ws);
      again = read_again;
      tells = λ ws. picked_tells ws ∙ ap fault_in (sym (same ws));
    }

-- The end of a line.

-- no more words, and this value
pub record AtEnd (A : Type 0) (x : A) (ws : Words) (y : A) : Type 0 where
  pub none : ws ≡ []
  pub value : y ≡ x

end_means : (A : Type 0) (x : A) (ws : Words) → IfOk (end_at x ws) (AtEnd A x ws)
unfolding end_at
end_means A x [] = record { none = refl; value = refl }
end_means A x (w ∷ ws) = end_bad A x (w ∷ ws) (is_word w)
  where
    end_bad : (A : Type 0) (x : A) (ws : Words) (b : Bool) → IfOk (if b then Err faults.Count else Err faults.Word) (AtEnd A x ws)
    end_bad A x ws true = tt
    end_bad A x ws false = tt

end_tells : (A : Type 0) (names : Words) (x : A) (ws : Words) → first_fault names End ws ≡ fault_in (end_at x ws)
unfolding first_fault end_at
end_tells A names x [] = refl
end_tells A names x (w ∷ ws) = end_bad A x (is_word w)
  where
    end_bad : (A : Type 0) (x : A) (b : Bool) → (if b then Some faults.Count else Some faults.Word)
        ≡ fault_in {A = A} (if b then Err faults.Count else Err faults.Word)
    end_bad A x true = refl
    end_bad A x false = refl

end_again : (A : Type 0) (x : A) (ws : Words) (y : A) → AtEnd A x ws y → end_at x ws ≡ Ok y
unfolding end_at
end_again A x ws y h = rw (h.none, h.value) refl

pub end_line : (A : Type 0) (names : Words) (x : A) → IsLine A names End (end_at x) (AtEnd A x)
end_line A names x = record { means = end_means A x; again = end_again A x; tells = end_tells A names x }

-- Other words for the same.

-- what the words mean, said otherwise
pub line_like : (A : Type 0) (names : Words) (shape : Shape) (read : Words → Reads A) (Means Like : Words → A → Type 0)
    → IsLine A names shape read Means
    → ((ws : Words) (x : A) → Means ws x → Like ws x) → ((ws : Words) (x : A) → Like ws x → Means ws x) → IsLine A names shape read Like
line_like A names shape read Means Like line there back = record {
  means = λ ws. IfOk-like (Means ws) (Like ws) (read ws) (there ws) (line.means ws);
  again = λ ws x h. line.again ws x (back ws x h);
  tells = line.tells;
}

-- a reader that gives the same
pub line_same : (A : Type 0) (names : Words) (shape : Shape) (read same : Words → Reads A) (Means : Words → A → Type 0)
    → IsLine A names shape read Means → ((ws : Words) → same ws ≡ read ws) → IsLine A names shape same Means
line_same A names shape read same Means line equal = record {
  means = λ ws. subst (λ (r : Reads A). IfOk r (Means ws)) (sym (equal ws)) (line.means ws);
  again = λ ws x h. equal ws ∙ line.again ws x h;
  tells = λ ws. line.tells ws ∙ ap fault_in (sym (equal ws));
}

-- A line by its first word.

module _ (A : Type 0) (body : List ℕ × Words → Reads A) (w : List ℕ) (ws : Words) where
  taken_means : (P : A → Type 0) → IfOk (body (w, ws)) P → (b : Bool) → IfOk (taken w ws b >>= body) P
  taken_means P h true = h
  taken_means P h false = tt

  taken_tells : (more : Option LineFault) → more ≡ fault_in (body (w, ws)) → (b : Bool)
      → (if not b then Some faults.Word else more) ≡ fault_in (taken w ws b >>= body)
  taken_tells more told true = told
  taken_tells more told false = refl

  pub first_word_means : (P : A → Type 0) → IfOk (body (w, ws)) P → IfOk (word_at (w ∷ ws) >>= body) P
  unfolding word_at
  first_word_means P h = taken_means P h (is_word w)

  pub first_word_tells : (more : Option LineFault) → more ≡ fault_in (body (w, ws))
      → (if not (is_word w) then Some faults.Word else more) ≡ fault_in (word_at (w ∷ ws) >>= body)
  unfolding word_at
  first_word_tells more told = taken_tells more told (is_word w)

  pub first_word_again : is_word w ≡ true → (word_at (w ∷ ws) >>= body) ≡ body (w, ws)
  unfolding word_at
  first_word_again is = rw is refl
