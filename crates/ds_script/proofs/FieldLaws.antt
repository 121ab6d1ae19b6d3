-- What each field of a line owes.
use Rattle.std.proofs.Common.{◌≡◌, ℕ, ◌^◌, ◌<◌, Bool, true, false, not, ◌&&◌, ◌||◌, List, [], ◌∷◌, Ok, Err, Some, None, refl, ap, ◌∙◌, arith}
use Rattle.std.specs.Prelude.{codes, if◌then◌else◌, IfOk}
use Rattle.std.specs.Str.{bytes_eq}
use Rattle.std.proofs.lemmas.Bool.{and_parts, false≢true, not-true}
use Rattle.ds_base.specs.declared.geometry.GeomField.{GeomField}
use Rattle.ds_base.specs.declared.geometry.GeomField.TheVariants as fields
use Rattle.ds_base.specs.declared.geometry.Kind.TheVariants.{Fd, Sb, Pb, Fb}
use Rattle.ds_base.specs.Geometry.{most_of}
use Rattle.ds_tree.specs.declared.variables.Spoken.{Spoken}
use Rattle.ds_tree.specs.declared.variables.Spoken.TheVariants.{Root, Var}
use Rattle.ds_tree.specs.Lines.{Words, is_word, is_number, number_of, is_number_in}
use Rattle.ds_tree.specs.Grammar.{key_word, landing_word, FitsKey, FitsWord, IsHostName, is_label, is_reserved}
use Rattle.ds_tree.specs.Variables.{IsVariable}
use Rattle.ds_script.specs.declared.faults.LineFault.{LineFault}
use Rattle.ds_script.specs.declared.faults.LineFault.TheVariants as faults
use Rattle.ds_script.specs.Faults.{Class, AnyWord, Key, Variable, FreshHost, Landing, Number, Size, suits, fault_of, is_among, is_variable}
use Rattle.ds_script.specs.Reading.{◌>>=◌, Reads, word_at, number_at, key_at, variable_at, fresh_host_at, landing_at, size_at}
use Rattle.ds_script.proofs.Readers.{by_word, before, fault_in, IsPick, IsField}
use Rattle.ds_script.proofs.WordLaws.{IsNumberWord, is_word-decimal, is_number_in-means, is_number_in-decimal, number_of-decimal, label_means, label_from, label-variable, is_word-label, variable_means, variable_from, bytes_eq-means, bytes_eq-other}

-- A reader that goes on from a word as it is picked reads by that word.

from_word : (A : Type 0) (pick : List ℕ → Reads A) (w : List ℕ) (ws : Words) (body : List ℕ × Words → Reads (A × Words)) (b : Bool)
    → body (w, ws) ≡ (pick w >>= before ws)
    → ((if b then Ok (w, ws) else Err faults.Word) >>= body) ≡ (if b then pick w >>= before ws else Err faults.Word)
from_word A pick w ws body true e = e
from_word A pick w ws body false e = refl

pub picked : (A : Type 0) (pick : List ℕ → Reads A) (body : List ℕ × Words → Reads (A × Words))
    → ((w : List ℕ) (ws : Words) → body (w, ws) ≡ (pick w >>= before ws)) → (ws : Words) → (word_at ws >>= body) ≡ by_word pick ws
unfolding word_at
picked A pick body same [] = refl
picked A pick body same (w ∷ ws) = from_word A pick w ws body (is_word w) (same w ws)

-- Picks by one test.

-- this value of a word that passes, and else this fault
abbrev tested : (A : Type 0) → (List ℕ → Bool) → (List ℕ → A) → (List ℕ → LineFault) → List ℕ → Reads A
tested A test value fault w = if test w then Ok (value w) else Err (fault w)

tested_behind : (A : Type 0) (x : A) (fault : LineFault) (ws : Words) (b : Bool)
    → (if b then Ok (x, ws) else Err fault) ≡ ((if b then Ok x else Err fault) >>= before ws)
tested_behind A x fault ws true = refl
tested_behind A x fault ws false = refl

tested_means : (A : Type 0) (x : A) (fault : LineFault) (P : A → Type 0) (b : Bool) → (b ≡ true → P x) → IfOk {E = LineFault} (if b then Ok x else Err fault) P
tested_means A x fault P true h = h refl
tested_means A x fault P false h = tt

tested_tells : (A : Type 0) (x : A) (fault : LineFault) (b : Bool) → (if b then None else Some fault) ≡ fault_in {A = A} (if b then Ok x else Err fault)
tested_tells A x fault true = refl
tested_tells A x fault false = refl

-- the field of the words that pass a test
module _ (A : Type 0) (names : Words) (class : Class) (test : List ℕ → Bool) (value : List ℕ → A) (fault : List ℕ → LineFault)
    (Means : List ℕ → A → Type 0)
    (same_test : (w : List ℕ) → suits names class w ≡ test w) (same_fault : (w : List ℕ) → fault_of class w ≡ fault w)
    (means : (w : List ℕ) → is_word w ≡ true → test w ≡ true → Means w (value w))
    (word : (w : List ℕ) (x : A) → Means w x → is_word w ≡ true)
    (passes : (w : List ℕ) (x : A) → Means w x → (test w ≡ true) × (value w ≡ x)) where
  picks_tested : (w : List ℕ) (x : A) → Means w x → tested A test value fault w ≡ Ok x
  picks_tested w x h = let e = passes w x h in rw (e.0, e.1) refl

  tells_tested : (w : List ℕ) → (if suits names class w then None else Some (fault_of class w)) ≡ fault_in (tested A test value fault w)
  tells_tested w = rw (same_test w, same_fault w) (tested_tells A (value w) (fault w) (test w))

  tested_pick : IsPick A names class (tested A test value fault) Means
  tested_pick = record {
    means = λ w is. tested_means A (value w) (fault w) (Means w) (test w) (means w is);
    word = word;
    picks = picks_tested;
    tells = tells_tested;
  }

-- The fields.

-- a word as it is
pub record IsWord (w x : List ℕ) : Type 0 where
  pub is : w ≡ x
  pub word : FitsWord x

word_same : (ws : Words) → word_at ws ≡ by_word (λ w. Ok w) ws
unfolding word_at
word_same [] = refl
word_same (w ∷ ws) = refl

pub word_field : (names : Words) → IsField (List ℕ) names AnyWord word_at IsWord
word_field names = record {
  pick = tested (List ℕ) (λ w. true) (λ w. w) (λ w. faults.Word);
  is_pick = tested_pick (List ℕ) names AnyWord (λ w. true) (λ w. w) (λ w. faults.Word) IsWord (λ w. refl) (λ w. refl)
      (λ w is e. record { is = refl; word = is })
      (λ w x h. ap is_word h.is ∙ h.word)
      (λ w x h. (refl, h.is));
  same = word_same;
}

number_same : (low high : ℕ) (ws : Words) → number_at low high ws ≡ by_word (tested ℕ (is_number_in low high) number_of (λ w. faults.Number)) ws
unfolding number_at
number_same low high ws =
    picked ℕ (tested ℕ (is_number_in low high) number_of (λ w. faults.Number))
    (λ w. if is_number_in low high w.0 then Ok (number_of w.0, w.1) else Err faults.Number)
    (λ w ws. tested_behind ℕ (number_of w) faults.Number ws (is_number_in low high w)) ws

pub number_field : (names : Words) (low high : ℕ) → high < 2 ^ 64 → IsField ℕ names (Number low high) (number_at low high) (IsNumberWord low high)
number_field names low high small = record {
  pick = tested ℕ (is_number_in low high) number_of (λ w. faults.Number);
  is_pick = tested_pick ℕ names (Number low high) (is_number_in low high) number_of (λ w. faults.Number) (IsNumberWord low high)
      (λ w. refl) (λ w. refl)
      (λ w is e. is_number_in-means low high small w e)
      (λ w n h. ap is_word h.is ∙ is_word-decimal n (omega (arith, small, h.most)))
      (λ w n h. (
        ap (is_number_in low high) h.is ∙ is_number_in-decimal low high small n h.least h.most,
        ap number_of h.is ∙ number_of-decimal n (omega (arith, small, h.most)),
      ));
  same = number_same low high;
}

-- a variable
pub record IsVariableWord (w x : List ℕ) : Type 0 where
  pub is : w ≡ x
  pub variable : IsVariable x

variable_same : (ws : Words) → variable_at ws ≡ by_word (tested (List ℕ) is_variable (λ w. w) (λ w. faults.Variable)) ws
unfolding variable_at
variable_same ws =
    picked (List ℕ) (tested (List ℕ) is_variable (λ w. w) (λ w. faults.Variable))
    (λ w. if is_variable w.0 then Ok (w.0, w.1) else Err faults.Variable)
    (λ w ws. tested_behind (List ℕ) w faults.Variable ws (is_variable w)) ws

pub variable_field : (names : Words) → IsField (List ℕ) names Variable variable_at IsVariableWord
variable_field names = record {
  pick = tested (List ℕ) is_variable (λ w. w) (λ w. faults.Variable);
  is_pick = tested_pick (List ℕ) names Variable is_variable (λ w. w) (λ w. faults.Variable) IsVariableWord (λ w. refl) (λ w. refl)
      (λ w is e. record { is = refl; variable = variable_means w e })
      (λ w x h. ap is_word h.is ∙ is_word-label x (label-variable x h.variable))
      (λ w x h. (ap is_variable h.is ∙ variable_from x h.variable, h.is));
  same = variable_same;
}

-- the sizes of the geometry
size_fault : List ℕ → LineFault
size_fault w = if is_number w then faults.Geom else faults.Number

size_behind : (n : ℕ) (ws : Words) (b c : Bool)
    → (if b then Ok (n, ws) else if c then Err faults.Geom else Err faults.Number)
    ≡ ((if b then Ok n else Err (if c then faults.Geom else faults.Number)) >>= before ws)
size_behind n ws true c = refl
size_behind n ws false true = refl
size_behind n ws false false = refl

size_same : (field : GeomField) (ws : Words) → size_at field ws ≡ by_word (tested ℕ (is_number_in 1 (most_of field)) number_of size_fault) ws
unfolding size_at size_fault
size_same field ws =
    picked ℕ (tested ℕ (is_number_in 1 (most_of field)) number_of size_fault)
    (λ w. if is_number_in 1 (most_of field) w.0 then Ok (number_of w.0, w.1) else if is_number w.0 then Err faults.Geom else Err faults.Number)
    (λ w ws. size_behind (number_of w) ws (is_number_in 1 (most_of field) w) (is_number w)) ws

size_small : (field : GeomField) → most_of field < 2 ^ 64
size_small fields.Slots = omega arith
size_small fields.Block = omega arith
size_small (fields.Clusters kind) = omega arith
size_small (fields.Items Fd) = omega arith
size_small (fields.Items Sb) = omega arith
size_small (fields.Items Pb) = omega arith
size_small (fields.Items Fb) = omega arith

pub size_field : (names : Words) (field : GeomField) → IsField ℕ names (Size field) (size_at field) (IsNumberWord 1 (most_of field))
unfolding size_fault
size_field names field =
    let small : most_of field < 2 ^ 64 = size_small field in
    record {
      pick = tested ℕ (is_number_in 1 (most_of field)) number_of size_fault;
      is_pick = tested_pick ℕ names (Size field) (is_number_in 1 (most_of field)) number_of size_fault (IsNumberWord 1 (most_of field))
          (λ w. refl) (λ w. refl)
          (λ w is e. is_number_in-means 1 (most_of field) small w e)
          (λ w n h. ap is_word h.is ∙ is_word-decimal n (omega (arith, small, h.most)))
          (λ w n h. (
            ap (is_number_in 1 (most_of field)) h.is ∙ is_number_in-decimal 1 (most_of field) small n h.least h.most,
            ap number_of h.is ∙ number_of-decimal n (omega (arith, small, h.most)),
          ));
      same = size_same field;
    }

-- a host's name that isn't taken
pub record IsFreshWord (names : Words) (w x : List ℕ) : Type 0 where
  pub is : w ≡ x
  pub name : IsHostName x
  pub fresh : is_among x names ≡ false

abbrev is_fresh : Words → List ℕ → Bool
is_fresh names w = is_label w && not (is_reserved w) && not (is_among w names)

fresh_same : (names ws : Words) → fresh_host_at names ws ≡ by_word (tested (List ℕ) (is_fresh names) (λ w. w) (λ w. faults.Host)) ws
unfolding fresh_host_at
fresh_same names ws =
    picked (List ℕ) (tested (List ℕ) (is_fresh names) (λ w. w) (λ w. faults.Host))
    (λ w. if is_fresh names w.0 then Ok (w.0, w.1) else Err faults.Host)
    (λ w ws. tested_behind (List ℕ) w faults.Host ws (is_fresh names w)) ws

fresh_means : (names : Words) (w : List ℕ) → is_fresh names w ≡ true → IsFreshWord names w w
fresh_means names w e =
    let parts = and_parts (is_label w && not (is_reserved w)) (not (is_among w names)) e in
    let name = and_parts (is_label w) (not (is_reserved w)) parts.0 in
    record {
      is = refl;
      name = record { label = name.0; free = not-true (is_reserved w) name.1 };
      fresh = not-true (is_among w names) parts.1;
    }

fresh_from : (names : Words) (w : List ℕ) → IsFreshWord names w w → is_fresh names w ≡ true
fresh_from names w h = rw (h.name.label, h.name.free, h.fresh) refl

pub fresh_field : (names : Words) → IsField (List ℕ) names FreshHost (fresh_host_at names) (IsFreshWord names)
fresh_field names = record {
  pick = tested (List ℕ) (is_fresh names) (λ w. w) (λ w. faults.Host);
  is_pick = tested_pick (List ℕ) names FreshHost (is_fresh names) (λ w. w) (λ w. faults.Host) (IsFreshWord names) (λ w. refl) (λ w. refl)
      (λ w is e. fresh_means names w e)
      (λ w x h. ap is_word h.is ∙ is_word-label x (label_means x h.name.label))
      (λ w x h. (
        ap (is_fresh names) h.is ∙ fresh_from names x (record { is = refl; name = h.name; fresh = h.fresh }),
        h.is,
      ));
  same = fresh_same names;
}

-- Two tests.

-- a key
pub record IsKeyWord (w : List ℕ) (key : Spoken) : Type 0 where
  pub is : w ≡ key_word key
  pub fits : FitsKey key

abbrev key_of : List ℕ → Reads Spoken
key_of w = if bytes_eq w (codes "root") then Ok Root else if is_variable w then Ok (Var w) else Err faults.Variable

key_behind : (w : List ℕ) (ws : Words) (b c : Bool)
    → (if b then Ok (Root, ws) else if c then Ok (Var w, ws) else Err faults.Variable)
    ≡ ((if b then Ok Root else if c then Ok (Var w) else Err faults.Variable) >>= before ws)
key_behind w ws true c = refl
key_behind w ws false true = refl
key_behind w ws false false = refl

key_same : (ws : Words) → key_at ws ≡ by_word key_of ws
unfolding key_at
key_same ws =
    picked Spoken key_of
    (λ w. if bytes_eq w.0 (codes "root") then Ok (Root, w.1) else if is_variable w.0 then Ok (Var w.0, w.1) else Err faults.Variable)
    (λ w ws. key_behind w ws (bytes_eq w (codes "root")) (is_variable w)) ws

key_means : (w : List ℕ) (b c : Bool) → (b ≡ true → w ≡ codes "root") → (c ≡ true → IsVariable w)
    → IfOk {E = LineFault} (if b then Ok Root else if c then Ok (Var w) else Err faults.Variable) (IsKeyWord w)
key_means w true c root variable = record { is = root refl; fits = tt }
key_means w false true root variable = record { is = refl; fits = variable refl }
key_means w false false root variable = tt

key_word-is : (w : List ℕ) (key : Spoken) → IsKeyWord w key → is_word w ≡ true
key_word-is w Root h = ap is_word h.is
key_word-is w (Var name) h = ap is_word h.is ∙ is_word-label name (label-variable name h.fits)

key_picks : (w : List ℕ) (key : Spoken) → IsKeyWord w key → key_of w ≡ Ok key
key_picks w Root h = ap key_of h.is
key_picks w (Var name) h =
    ap key_of h.is ∙ rw (bytes_eq-other name (codes "root") h.fits.not_root, label_from name (label-variable name h.fits)) refl

key_tells : (w : List ℕ) (root label : Bool) → (root ≡ true → label ≡ true)
    → (if label then None else Some faults.Variable)
    ≡ fault_in {A = Spoken} (if root then Ok Root else if label && not root then Ok (Var w) else Err faults.Variable)
key_tells w true true is = refl
key_tells w true false is = absurd (false≢true (is refl))
key_tells w false true is = refl
key_tells w false false is = refl

pub key_field : (names : Words) → IsField Spoken names Key key_at IsKeyWord
key_field names = record {
  pick = key_of;
  is_pick = record {
    means = λ w is. key_means w (bytes_eq w (codes "root")) (is_variable w) (bytes_eq-means w (codes "root")) (variable_means w);
    word = key_word-is;
    picks = key_picks;
    tells = λ w. key_tells w (bytes_eq w (codes "root")) (is_label w) (λ e. ap is_label (bytes_eq-means w (codes "root") e));
  };
  same = key_same;
}

-- whether a fault comes with its effect
abbrev landing_of : List ℕ → Reads Bool
landing_of w = if bytes_eq w (codes "landed") then Ok true else if bytes_eq w (codes "lost") then Ok false else Err faults.Word

landing_behind : (ws : Words) (b c : Bool)
    → (if b then Ok (true, ws) else if c then Ok (false, ws) else Err faults.Word)
    ≡ ((if b then Ok true else if c then Ok false else Err faults.Word) >>= before ws)
landing_behind ws true c = refl
landing_behind ws false true = refl
landing_behind ws false false = refl

landing_same : (ws : Words) → landing_at ws ≡ by_word landing_of ws
unfolding landing_at
landing_same ws =
    picked Bool landing_of
    (λ w. if bytes_eq w.0 (codes "landed") then Ok (true, w.1) else if bytes_eq w.0 (codes "lost") then Ok (false, w.1) else Err faults.Word)
    (λ w ws. landing_behind ws (bytes_eq w (codes "landed")) (bytes_eq w (codes "lost"))) ws

abbrev pub IsLandingWord : List ℕ → Bool → Type 0
IsLandingWord w landed = w ≡ landing_word landed

landing_means : (w : List ℕ) (b c : Bool) → (b ≡ true → w ≡ codes "landed") → (c ≡ true → w ≡ codes "lost")
    → IfOk {E = LineFault} (if b then Ok true else if c then Ok false else Err faults.Word) (IsLandingWord w)
landing_means w true c lands lost = lands refl
landing_means w false true lands lost = lost refl
landing_means w false false lands lost = tt

landing_word-is : (w : List ℕ) (landed : Bool) → IsLandingWord w landed → is_word w ≡ true
landing_word-is w true h = ap is_word h
landing_word-is w false h = ap is_word h

landing_picks : (w : List ℕ) (landed : Bool) → IsLandingWord w landed → landing_of w ≡ Ok landed
landing_picks w true h = ap landing_of h
landing_picks w false h = ap landing_of h

landing_tells : (b c : Bool)
    → (if b || (c || false) then None else Some faults.Word)
    ≡ fault_in {A = Bool} (if b then Ok true else if c then Ok false else Err faults.Word)
landing_tells true c = refl
landing_tells false true = refl
landing_tells false false = refl

pub landing_field : (names : Words) → IsField Bool names Landing landing_at IsLandingWord
landing_field names = record {
  pick = landing_of;
  is_pick = record {
    means = λ w is. landing_means w (bytes_eq w (codes "landed")) (bytes_eq w (codes "lost"))
        (bytes_eq-means w (codes "landed")) (bytes_eq-means w (codes "lost"));
    word = landing_word-is;
    picks = landing_picks;
    tells = λ w. landing_tells (bytes_eq w (codes "landed")) (bytes_eq w (codes "lost"));
  };
  same = landing_same;
}
