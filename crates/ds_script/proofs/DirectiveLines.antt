-- The lines of directives, by the fields that they have.
use Rattle.std.proofs.Common.{◌≡◌, ℕ, ◌^◌, ◌≤◌, ◌<◌, Bool, List, [], ◌∷◌, length, get_or, Ok, Option, Some, refl, ap, sym, arith}
use Rattle.std.specs.Prelude.{IfSome, codes, decimal}
use Rattle.std.proofs.lemmas.Option.{get_or_from_slice_get, slice_get-get_or, slice_get_within}
use Rattle.ds_tree.specs.declared.scenarios.Directive.{Directive}
use Rattle.ds_tree.specs.declared.scenarios.Point.{Point}
use Rattle.ds_tree.specs.declared.variables.Spoken.{Spoken}
use Rattle.ds_tree.specs.Lines.{Words}
use Rattle.ds_tree.specs.Grammar.{most_directives, key_word, point_word, landing_word, as_part, after_part, FitsKey, FitsWord}
use Rattle.ds_tree.specs.Variables.{IsVariable}
use Rattle.ds_script.specs.Faults.{End, Then, Maybe, Keyword, AnyWord, Key, Variable, KnownHost, PointName, Landing, Number, named, binding, awaited}
use Rattle.ds_script.specs.Reading.{◌>>=◌, Reads, word_at, end_at, number_at, key_at, variable_at, host_at, point_at, landing_at, as_at, after_at, awaited_at}
use Rattle.ds_script.proofs.Readers.{IsLine, line_same}
use Rattle.ds_script.proofs.WordLaws.{IsNumberWord}
use Rattle.ds_script.proofs.FieldLaws.{IsWord, IsVariableWord, IsKeyWord, IsLandingWord, word_field, variable_field, number_field, key_field, landing_field}
use Rattle.ds_script.proofs.LookupLaws.{AreNames, IsHostWord, host_field, IsPointWord, point_field}
use Rattle.ds_script.proofs.Written.{Written, HasOneWord, written_end, written_then, written_keyword, optional_at, written_optional, twice}

-- The words of values.

word_one : HasOneWord (List ℕ) IsWord (λ w. w) FitsWord
word_one = record { is = λ w x h. h.is; fits = λ w x h. h.word; means = λ x h. record { is = refl; word = h } }

variable_one : HasOneWord (List ℕ) IsVariableWord (λ w. w) IsVariable
variable_one = record { is = λ w x h. h.is; fits = λ w x h. h.variable; means = λ x h. record { is = refl; variable = h } }

key_one : HasOneWord Spoken IsKeyWord key_word FitsKey
key_one = record { is = λ w x h. h.is; fits = λ w x h. h.fits; means = λ x h. record { is = refl; fits = h } }

abbrev pub IsWithin : ℕ → ℕ → ℕ → Type 0
IsWithin low high n = (low ≤ n) × (n ≤ high)

pub number_one : (low high : ℕ) → HasOneWord ℕ (IsNumberWord low high) decimal (IsWithin low high)
number_one low high = record {
  is = λ w n h. h.is;
  fits = λ w n h. (h.least, h.most);
  means = λ n h. record { is = refl; least = h.0; most = h.1 };
}

abbrev pub Any : (A : Type 0) → A → Type 0
Any A x = Unit {0}

point_one : HasOneWord Point IsPointWord point_word (Any Point)
point_one = record { is = λ w p h. h; fits = λ w p h. tt; means = λ p h. refl }

landing_one : HasOneWord Bool IsLandingWord landing_word (Any Bool)
landing_one = record { is = λ w b h. h; fits = λ w b h. tt; means = λ b h. refl }

-- the name of the host with this number
abbrev pub name_at : Words → ℕ → List ℕ
name_at names host = get_or names host []

pub host_one : (names : Words) → HasOneWord ℕ (IsHostWord names) (name_at names) (λ host. host < length names)
host_one names = record {
  is = λ w host h. sym (get_or_from_slice_get names host w [] h);
  fits = λ w host h. slice_get_within names host w h;
  means = λ host h. slice_get-get_or names host [] h;
}

-- The last parts.

as_same : (ws : Words) → as_at ws ≡ optional_at (codes "as") variable_at ws
unfolding as_at optional_at
as_same [] = refl
as_same (w ∷ ws) = refl

after_same : (ws : Words) → after_at ws ≡ optional_at (codes "after") word_at ws
unfolding after_at optional_at
after_same [] = refl
after_same (w ∷ ws) = refl

module _ (names : Words) (make : Option (List ℕ) → Directive) where
  as_line : IsLine Directive names (Maybe (Then (Keyword (codes "as")) (Then Variable End))) (λ ws. as_at ws >>= (λ bind. end_at (make bind.0) bind.1))
      (Written (Option (List ℕ)) Directive as_part (λ bind. IfSome bind IsVariable) make)
  as_line =
      line_same Directive names _ (λ ws. optional_at (codes "as") variable_at ws >>= (λ bind. end_at (make bind.0) bind.1))
      (λ ws. as_at ws >>= (λ bind. end_at (make bind.0) bind.1)) _
      (written_optional Directive names (codes "as") Variable variable_at IsVariableWord IsVariable as_part make
      (written_keyword _ Directive names (codes "as") _ _ _ _ _ refl
      (written_then _ _ _ names Variable End variable_at (λ name. end_at (make (Some name))) _ _ _ _ _ _ (variable_field names) variable_one
      (λ name. written_end Directive names (make (Some name)))))
      refl (λ name. refl))
      (λ ws. ap (λ (r : Reads (Option (List ℕ) × Words)). r >>= (λ bind. end_at (make bind.0) bind.1)) (as_same ws))

  after_line : IsLine Directive names (Maybe (Then (Keyword (codes "after")) (Then AnyWord End)))
      (λ ws. after_at ws >>= (λ after. end_at (make after.0) after.1))
      (Written (Option (List ℕ)) Directive after_part (λ after. IfSome after FitsWord) make)
  after_line =
      line_same Directive names _ (λ ws. optional_at (codes "after") word_at ws >>= (λ after. end_at (make after.0) after.1))
      (λ ws. after_at ws >>= (λ after. end_at (make after.0) after.1)) _
      (written_optional Directive names (codes "after") AnyWord word_at IsWord FitsWord after_part make
      (written_keyword _ Directive names (codes "after") _ _ _ _ _ refl
      (written_then _ _ _ names AnyWord End word_at (λ name. end_at (make (Some name))) _ _ _ _ _ _ (word_field names) word_one
      (λ name. written_end Directive names (make (Some name)))))
      refl (λ name. refl))
      (λ ws. ap (λ (r : Reads (Option (List ℕ) × Words)). r >>= (λ after. end_at (make after.0) after.1)) (after_same ws))

-- The lines of calls, by their fields.

module _ (names : Words) where
  pub key_line : (make : Spoken → Directive)
      → IsLine Directive names (Then Key End) (λ ws. key_at ws >>= (λ key. end_at (make key.0) key.1))
      (Written (Spoken × Unit {0}) Directive (λ v. key_word v.0 ∷ []) (λ v. FitsKey v.0 × Unit {0}) (λ v. make v.0))
  key_line make =
      written_then _ _ _ names Key End key_at (λ key. end_at (make key)) _ _ _ _ _ _ (key_field names) key_one
      (λ key. written_end Directive names (make key))

  pub key_number_line : (low high : ℕ) → high < 2 ^ 64 → (make : Spoken → ℕ → Directive)
      → IsLine Directive names (Then Key (Then (Number low high) End))
      (λ ws. key_at ws >>= (λ key. number_at low high key.1 >>= (λ n. end_at (make key.0 n.0) n.1)))
      (Written (Spoken × (ℕ × Unit {0})) Directive (λ v. key_word v.0 ∷ decimal v.1.0 ∷ [])
      (λ v. FitsKey v.0 × (IsWithin low high v.1.0 × Unit {0})) (λ v. make v.0 v.1.0))
  key_number_line low high small make =
      written_then _ _ _ names Key _ key_at (λ key ws. number_at low high ws >>= (λ n. end_at (make key n.0) n.1)) _ _ _ _ _ _
      (key_field names) key_one
      (λ key. written_then _ _ _ names (Number low high) End (number_at low high) (λ n. end_at (make key n)) _ _ _ _ _ _
      (number_field names low high small) (number_one low high)
      (λ n. written_end Directive names (make key n)))

  pub named_line : (make : Spoken → List ℕ → Directive)
      → IsLine Directive names (named End) (λ ws. key_at ws >>= (λ dir. word_at dir.1 >>= (λ name. end_at (make dir.0 name.0) name.1)))
      (Written (Spoken × (List ℕ × Unit {0})) Directive (λ v. key_word v.0 ∷ v.1.0 ∷ [])
      (λ v. FitsKey v.0 × (FitsWord v.1.0 × Unit {0})) (λ v. make v.0 v.1.0))
  named_line make =
      written_then _ _ _ names Key _ key_at (λ dir ws. word_at ws >>= (λ name. end_at (make dir name.0) name.1)) _ _ _ _ _ _
      (key_field names) key_one
      (λ dir. written_then _ _ _ names AnyWord End word_at (λ name. end_at (make dir name)) _ _ _ _ _ _ (word_field names) word_one
      (λ name. written_end Directive names (make dir name)))

  pub binding_line : (make : Spoken → List ℕ → Option (List ℕ) → Directive)
      → IsLine Directive names binding
      (λ ws. key_at ws >>= (λ dir. word_at dir.1 >>= (λ name. as_at name.1 >>= (λ bind. end_at (make dir.0 name.0 bind.0) bind.1))))
      (Written (Spoken × (List ℕ × Option (List ℕ))) Directive (λ v. key_word v.0 ∷ v.1.0 ∷ as_part v.1.1)
      (λ v. FitsKey v.0 × (FitsWord v.1.0 × IfSome v.1.1 IsVariable)) (λ v. make v.0 v.1.0 v.1.1))
  binding_line make =
      written_then _ _ _ names Key _ key_at
      (λ dir ws. word_at ws >>= (λ name. as_at name.1 >>= (λ bind. end_at (make dir name.0 bind.0) bind.1))) _ _ _ _ _ _
      (key_field names) key_one
      (λ dir. written_then _ _ _ names AnyWord _ word_at (λ name ws. as_at ws >>= (λ bind. end_at (make dir name bind.0) bind.1)) _ _ _ _ _ _
      (word_field names) word_one (λ name. as_line names (make dir name)))

  pub after_key_line : (make : Spoken → Option (List ℕ) → Directive)
      → IsLine Directive names (Then Key (Maybe (Then (Keyword (codes "after")) (Then AnyWord End))))
      (λ ws. key_at ws >>= (λ dir. after_at dir.1 >>= (λ after. end_at (make dir.0 after.0) after.1)))
      (Written (Spoken × Option (List ℕ)) Directive (λ v. key_word v.0 ∷ after_part v.1)
      (λ v. FitsKey v.0 × IfSome v.1 FitsWord) (λ v. make v.0 v.1))
  after_key_line make =
      written_then _ _ _ names Key _ key_at (λ dir ws. after_at ws >>= (λ after. end_at (make dir after.0) after.1)) _ _ _ _ _ _
      (key_field names) key_one (λ dir. after_line names (make dir))

  pub named_twice_line : (make : Spoken → List ℕ → Spoken → List ℕ → Directive)
      → IsLine Directive names (named (named End))
      (λ ws. key_at ws >>= (λ dir. word_at dir.1 >>= (λ name. key_at name.1 >>= (λ to. word_at to.1
      >>= (λ fresh. end_at (make dir.0 name.0 to.0 fresh.0) fresh.1)))))
      (Written (Spoken × (List ℕ × (Spoken × (List ℕ × Unit {0})))) Directive
      (λ v. key_word v.0 ∷ v.1.0 ∷ key_word v.1.1.0 ∷ v.1.1.1.0 ∷ [])
      (λ v. FitsKey v.0 × (FitsWord v.1.0 × (FitsKey v.1.1.0 × (FitsWord v.1.1.1.0 × Unit {0}))))
      (λ v. make v.0 v.1.0 v.1.1.0 v.1.1.1.0))
  named_twice_line make =
      written_then _ _ _ names Key _ key_at
      (λ dir ws. word_at ws >>= (λ name. key_at name.1 >>= (λ to. word_at to.1 >>= (λ fresh. end_at (make dir name.0 to.0 fresh.0) fresh.1))))
      _ _ _ _ _ _ (key_field names) key_one
      (λ dir. written_then _ _ _ names AnyWord _ word_at
      (λ name ws. key_at ws >>= (λ to. word_at to.1 >>= (λ fresh. end_at (make dir name to.0 fresh.0) fresh.1)))
      _ _ _ _ _ _ (word_field names) word_one (λ name. named_line (make dir name)))

  pub two_numbers_line : (low high least most : ℕ) → high < 2 ^ 64 → most < 2 ^ 64 → (make : Spoken → ℕ → ℕ → Directive)
      → IsLine Directive names (Then Key (Then (Number low high) (Then (Number least most) End)))
      (λ ws. key_at ws >>= (λ key. number_at low high key.1 >>= (λ n. number_at least most n.1 >>= (λ m. end_at (make key.0 n.0 m.0) m.1))))
      (Written (Spoken × (ℕ × (ℕ × Unit {0}))) Directive (λ v. key_word v.0 ∷ decimal v.1.0 ∷ decimal v.1.1.0 ∷ [])
      (λ v. FitsKey v.0 × (IsWithin low high v.1.0 × (IsWithin least most v.1.1.0 × Unit {0}))) (λ v. make v.0 v.1.0 v.1.1.0))
  two_numbers_line low high least most small slight make =
      written_then _ _ _ names Key _ key_at
      (λ key ws. number_at low high ws >>= (λ n. number_at least most n.1 >>= (λ m. end_at (make key n.0 m.0) m.1))) _ _ _ _ _ _
      (key_field names) key_one
      (λ key. written_then _ _ _ names (Number low high) _ (number_at low high)
      (λ n ws. number_at least most ws >>= (λ m. end_at (make key n m.0) m.1)) _ _ _ _ _ _
      (number_field names low high small) (number_one low high)
      (λ n. written_then _ _ _ names (Number least most) End (number_at least most) (λ m. end_at (make key n m)) _ _ _ _ _ _
      (number_field names least most slight) (number_one least most)
      (λ m. written_end Directive names (make key n m))))

  -- The lines of other directives.

  pub number_line : (low high : ℕ) → high < 2 ^ 64 → (make : ℕ → Directive)
      → IsLine Directive names (Then (Number low high) End) (λ ws. number_at low high ws >>= (λ n. end_at (make n.0) n.1))
      (Written (ℕ × Unit {0}) Directive (λ v. decimal v.0 ∷ []) (λ v. IsWithin low high v.0 × Unit {0}) (λ v. make v.0))
  number_line low high small make =
      written_then _ _ _ names (Number low high) End (number_at low high) (λ n. end_at (make n)) _ _ _ _ _ _
      (number_field names low high small) (number_one low high) (λ n. written_end Directive names (make n))

  pub point_line : (make : Point → Directive)
      → IsLine Directive names (Then PointName End) (λ ws. point_at ws >>= (λ point. end_at (make point.0) point.1))
      (Written (Point × Unit {0}) Directive (λ v. point_word v.0 ∷ []) (λ v. Any Point v.0 × Unit {0}) (λ v. make v.0))
  point_line make =
      written_then _ _ _ names PointName End point_at (λ point. end_at (make point)) _ _ _ _ _ _
      (point_field names) point_one (λ point. written_end Directive names (make point))

  pub landing_line : (make : Point → Bool → Directive)
      → IsLine Directive names (Then PointName (Then Landing End))
      (λ ws. point_at ws >>= (λ point. landing_at point.1 >>= (λ landed. end_at (make point.0 landed.0) landed.1)))
      (Written (Point × (Bool × Unit {0})) Directive (λ v. point_word v.0 ∷ landing_word v.1.0 ∷ [])
      (λ v. Any Point v.0 × (Any Bool v.1.0 × Unit {0})) (λ v. make v.0 v.1.0))
  landing_line make =
      written_then _ _ _ names PointName _ point_at (λ point ws. landing_at ws >>= (λ landed. end_at (make point landed.0) landed.1)) _ _ _ _ _ _
      (point_field names) point_one
      (λ point. written_then _ _ _ names Landing End landing_at (λ landed. end_at (make point landed)) _ _ _ _ _ _
      (landing_field names) landing_one (λ landed. written_end Directive names (make point landed)))

  -- a host, and a number of this range
  abbrev host_number : ℕ → ℕ → (A : Type 0) → (ℕ → ℕ → A) → Words → Reads A
  host_number low high A make ws = host_at names ws >>= (λ host. number_at low high host.1 >>= (λ n. end_at (make host.0 n.0) n.1))

  pub host_number_line : AreNames names → (low high : ℕ) → high < 2 ^ 64 → (A : Type 0) (make : ℕ → ℕ → A)
      → IsLine A names (Then KnownHost (Then (Number low high) End)) (host_number low high A make)
      (Written (ℕ × (ℕ × Unit {0})) A (λ v. name_at names v.0 ∷ decimal v.1.0 ∷ [])
      (λ v. (v.0 < length names) × (IsWithin low high v.1.0 × Unit {0})) (λ v. make v.0 v.1.0))
  host_number_line are low high small A make =
      written_then _ _ _ names KnownHost _ (host_at names) (λ host ws. number_at low high ws >>= (λ n. end_at (make host n.0) n.1)) _ _ _ _ _ _
      (host_field names are) (host_one names)
      (λ host. written_then _ _ _ names (Number low high) End (number_at low high) (λ n. end_at (make host n)) _ _ _ _ _ _
      (number_field names low high small) (number_one low high) (λ n. written_end A names (make host n)))

  awaited_same : (make : ℕ → ℕ → Directive) (ws : Words)
      → (awaited_at names ws >>= (λ awaited. end_at (make awaited.0.0 awaited.0.1) awaited.1)) ≡ host_number 1 most_directives Directive make ws
  unfolding awaited_at
  awaited_same make ws =
      twice (ℕ × Words) (ℕ × Words) ((ℕ × ℕ) × Words) Directive (host_at names ws)
      (λ host. number_at 1 most_directives host.1) (λ host directive. Ok ((host.0, directive.0), directive.1)) (λ awaited. end_at (make awaited.0.0 awaited.0.1) awaited.1)

  pub awaited_line : AreNames names → (make : ℕ → ℕ → Directive)
      → IsLine Directive names awaited (λ ws. awaited_at names ws >>= (λ awaited. end_at (make awaited.0.0 awaited.0.1) awaited.1))
      (Written (ℕ × (ℕ × Unit {0})) Directive (λ v. name_at names v.0 ∷ decimal v.1.0 ∷ [])
      (λ v. (v.0 < length names) × (IsWithin 1 most_directives v.1.0 × Unit {0})) (λ v. make v.0 v.1.0))
  awaited_line are make =
      line_same Directive names awaited (host_number 1 most_directives Directive make) _ _
      (host_number_line are 1 most_directives (omega arith) Directive make) (awaited_same make)

  pub held_line : AreNames names → (make : Point → ℕ → ℕ → Directive)
      → IsLine Directive names (Then PointName awaited)
      (λ ws. point_at ws >>= (λ point. awaited_at names point.1 >>= (λ awaited. end_at (make point.0 awaited.0.0 awaited.0.1) awaited.1)))
      (Written (Point × (ℕ × (ℕ × Unit {0}))) Directive (λ v. point_word v.0 ∷ name_at names v.1.0 ∷ decimal v.1.1.0 ∷ [])
      (λ v. Any Point v.0 × ((v.1.0 < length names) × (IsWithin 1 most_directives v.1.1.0 × Unit {0}))) (λ v. make v.0 v.1.0 v.1.1.0))
  held_line are make =
      written_then _ _ _ names PointName _ point_at
      (λ point ws. awaited_at names ws >>= (λ awaited. end_at (make point awaited.0.0 awaited.0.1) awaited.1)) _ _ _ _ _ _
      (point_field names) point_one (λ point. awaited_line are (make point))
