-- The words of a printed line spell what the line says, and each may stand in a line.
use Rattle.std.proofs.Common.{◌≡◌, ℕ, zero, suc, ◌^◌, ◌≤◌, ◌<◌, Bool, true, false, List, [], ◌∷◌, ◌++◌, length, Option, Some, None, refl, ◌∙◌, arith}
use Rattle.std.specs.Prelude.{codes, decimal, if◌then◌else◌, IfSome}
use Rattle.std.specs.List.{list_all}
use Rattle.std.proofs.lemmas.Bool.{and_from}
use Rattle.std.proofs.lemmas.Bool.Decides.{nat_tests}
use Rattle.std.proofs.lemmas.List.Folds.{list_all-append}
use Rattle.std.proofs.lemmas.Option.{slice_get-get_or}
use Rattle.uuid.specs.Text.{by_index, hyphenated_text, lower, hyphen, hex_digit, nibble, is_hyphen_place, digit_place}
use Rattle.uuid.proofs.TextLemmas.{by_index_length, nibble_small}
use Rattle.ds_base.specs.declared.geometry.Geom.{Geom}
use Rattle.ds_base.specs.declared.geometry.Kind.TheVariants.{Fd, Sb, Pb, Fb}
use Rattle.ds_base.specs.declared.geometry.GeomField.{GeomField}
use Rattle.ds_base.specs.declared.geometry.GeomField.TheVariants as fields
use Rattle.ds_base.specs.Geometry.{IsGeom, value_of, most_of}
use Rattle.ds_tree.specs.declared.calls.CallOf.{CallOf}
use Rattle.ds_tree.specs.declared.calls.CallOf.TheVariants as calls
use Rattle.ds_tree.specs.declared.calls.HostCallOf.{HostCallOf}
use Rattle.ds_tree.specs.declared.calls.HostCallOf.TheVariants as host_calls
use Rattle.ds_tree.specs.declared.scenarios.Directive.{Directive}
use Rattle.ds_tree.specs.declared.scenarios.Directive.TheVariants as directives
use Rattle.ds_tree.specs.declared.scenarios.Point.{Point}
use Rattle.ds_tree.specs.declared.scenarios.Point.TheVariants as points
use Rattle.ds_tree.specs.declared.variables.Spoken.{Spoken}
use Rattle.ds_tree.specs.declared.variables.Spoken.TheVariants.{Root, Var}
use Rattle.ds_tree.specs.Lines.{Words, is_visible, is_word}
use Rattle.ds_tree.specs.Variables.{IsVariable}
use Rattle.ds_tree.specs.Grammar.{point_word, landing_word, key_word, as_part, after_part, geometry_part, tree_call_words, call_words, SpellsTreeCall, SpellsCall, IsNameOf, Spells, FitsKey, FitsWord, FitsTreeCall, FitsCall, GivesKey, IsAwaited, Fits}
use Rattle.ds_script.specs.Printed.{name_at, directive_words}
use Rattle.ds_script.proofs.WordLaws.{is_word-from, is_word-decimal, is_word-label, label-variable, label_means}
use Rattle.ds_script.proofs.LookupLaws.{AreNames}

-- Words that may stand in a line.

abbrev pub MayStand : Words → Type 0
MayStand ws = list_all is_word ws ≡ true

pub more_words : (w : List ℕ) (ws : Words) → is_word w ≡ true → MayStand ws → MayStand (w ∷ ws)
more_words w ws is all = and_from (is_word w) (list_all is_word ws) is all

parts_stand : (front ws : Words) → MayStand front → MayStand ws → MayStand (front ++ ws)
parts_stand front ws some all = list_all-append is_word front ws ∙ and_from (list_all is_word front) (list_all is_word ws) some all

is_word-key : (key : Spoken) → FitsKey key → is_word (key_word key) ≡ true
is_word-key Root fits = refl
is_word-key (Var name) fits = is_word-label name (label-variable name fits)

is_word-point : (point : Point) → is_word (point_word point) ≡ true
is_word-point points.Enter = refl
is_word-point points.Leave = refl
is_word-point points.Beat = refl
is_word-point points.Commit = refl
is_word-point points.Retire = refl
is_word-point points.Read = refl
is_word-point points.Lock = refl
is_word-point points.Free = refl
is_word-point points.Index = refl
is_word-point points.Place = refl
is_word-point points.Break = refl
is_word-point points.Clear = refl

is_word-landing : (landed : Bool) → is_word (landing_word landed) ≡ true
is_word-landing true = refl
is_word-landing false = refl

as_stands : (call : HostCallOf Spoken) (bind : Option (List ℕ)) → IfSome bind (λ name. IsVariable name × GivesKey call) → MayStand (as_part bind)
as_stands call None fits = refl
as_stands call (Some name) fits = more_words (codes "as") (name ∷ []) refl (more_words name [] (is_word-label name (label-variable name fits.0)) refl)

after_stands : (after : Option (List ℕ)) → IfSome after FitsWord → MayStand (after_part after)
after_stands None fits = refl
after_stands (Some name) fits = more_words (codes "after") (name ∷ []) refl (more_words name [] fits refl)

-- The words of calls.

small_word : (n : ℕ) → n < 2 ^ 32 → is_word (decimal n) ≡ true
small_word n small = is_word-decimal n (omega (arith, small))

-- a first word and a key, and then others
keyed : (word : List ℕ) (key : Spoken) (ws : Words) → is_word word ≡ true → FitsKey key → MayStand ws → MayStand (word ∷ key_word key ∷ ws)
keyed word key ws is fits all = more_words word (key_word key ∷ ws) is (more_words (key_word key) ws (is_word-key key fits) all)

tree_call_stands : (call : CallOf Spoken) → FitsTreeCall call → MayStand (tree_call_words call)
tree_call_stands (calls.Mkdir dir name) fits = keyed (codes "mkdir") dir (name ∷ []) refl fits.0 (more_words name [] fits.1 refl)
tree_call_stands (calls.Create dir name) fits = keyed (codes "create") dir (name ∷ []) refl fits.0 (more_words name [] fits.1 refl)
tree_call_stands (calls.Lookup dir name) fits = keyed (codes "lookup") dir (name ∷ []) refl fits.0 (more_words name [] fits.1 refl)
tree_call_stands (calls.List dir after) fits = keyed (codes "list") dir (after_part after) refl fits.0 (after_stands after fits.1)
tree_call_stands (calls.Stat key) fits = keyed (codes "stat") key [] refl fits refl
tree_call_stands (calls.Map file page) fits = keyed (codes "map") file (decimal page ∷ []) refl fits.0 (more_words (decimal page) [] (small_word page fits.1) refl)
tree_call_stands (calls.Resize file blocks) fits = keyed (codes "resize") file (decimal blocks ∷ []) refl fits.0 (more_words (decimal blocks) [] (small_word blocks fits.1) refl)
tree_call_stands (calls.Remove dir name) fits = keyed (codes "remove") dir (name ∷ []) refl fits.0 (more_words name [] fits.1 refl)
tree_call_stands (calls.Rmdir dir name) fits = keyed (codes "rmdir") dir (name ∷ []) refl fits.0 (more_words name [] fits.1 refl)
tree_call_stands (calls.Rename dir name to fresh) fits =
    keyed (codes "rename") dir (name ∷ key_word to ∷ fresh ∷ []) refl fits.0
    (more_words name (key_word to ∷ fresh ∷ []) fits.1
    (more_words (key_word to) (fresh ∷ []) (is_word-key to fits.2) (more_words fresh [] fits.3 refl)))
tree_call_stands (calls.OpenFile file) fits = keyed (codes "open") file [] refl fits refl
tree_call_stands (calls.At file index) fits = absurd fits

call_stands : (call : HostCallOf Spoken) → FitsCall call → MayStand (call_words call)
call_stands (host_calls.Tree call) fits = tree_call_stands call fits
call_stands host_calls.Register fits = refl
call_stands host_calls.Unregister fits = refl
call_stands host_calls.Beat fits = refl
call_stands host_calls.Scan fits = refl
call_stands (host_calls.Close file) fits = keyed (codes "close") file [] refl fits refl
call_stands (host_calls.Put file sector fill) fits =
    keyed (codes "put") file (decimal sector ∷ decimal fill ∷ []) refl fits.0
    (more_words (decimal sector) (decimal fill ∷ []) (small_word sector fits.1)
    (more_words (decimal fill) [] (small_word fill (omega (arith, fits.2))) refl))
call_stands (host_calls.Get file sector) fits =
    keyed (codes "get") file (decimal sector ∷ []) refl fits.0 (more_words (decimal sector) [] (small_word sector fits.1) refl)

tree_call_spelled : (call : CallOf Spoken) → FitsTreeCall call → SpellsTreeCall (tree_call_words call) call
tree_call_spelled (calls.Mkdir dir name) fits = refl
tree_call_spelled (calls.Create dir name) fits = refl
tree_call_spelled (calls.Lookup dir name) fits = refl
tree_call_spelled (calls.List dir after) fits = refl
tree_call_spelled (calls.Stat key) fits = refl
tree_call_spelled (calls.Map file page) fits = refl
tree_call_spelled (calls.Resize file blocks) fits = refl
tree_call_spelled (calls.Remove dir name) fits = refl
tree_call_spelled (calls.Rmdir dir name) fits = refl
tree_call_spelled (calls.Rename dir name to fresh) fits = refl
tree_call_spelled (calls.OpenFile file) fits = refl
tree_call_spelled (calls.At file index) fits = fits

call_spelled : (call : HostCallOf Spoken) → FitsCall call → SpellsCall (call_words call) call
call_spelled (host_calls.Tree call) fits = tree_call_spelled call fits
call_spelled host_calls.Register fits = refl
call_spelled host_calls.Unregister fits = refl
call_spelled host_calls.Beat fits = refl
call_spelled host_calls.Scan fits = refl
call_spelled (host_calls.Close file) fits = refl
call_spelled (host_calls.Put file sector fill) fits = refl
call_spelled (host_calls.Get file sector) fits = refl

-- The words of directives, where the hosts have these names.

module _ (names : Words) (are : AreNames names) where
  pub name_there : (host : ℕ) → host < length names → IsNameOf names host (name_at names host)
  name_there host within = slice_get-get_or names host [] within

  pub is_word-name : (host : ℕ) → host < length names → is_word (name_at names host) ≡ true
  is_word-name host within =
      is_word-label (name_at names host) (label_means (name_at names host) (are.hosts host (name_at names host) (name_there host within)).label)

  awaited_stands : (host number : ℕ) → IsAwaited (length names) host number → MayStand (name_at names host ∷ decimal number ∷ [])
  awaited_stands host number is =
      more_words (name_at names host) (decimal number ∷ []) (is_word-name host is.is_host)
      (more_words (decimal number) [] (small_word number (omega (arith, is.most))) refl)

  pub directive_stands : (d : Directive) → Fits (length names) d → MayStand (directive_words names d)
  directive_stands (directives.Call call bind) fits = parts_stand (call_words call) (as_part bind) (call_stands call fits.0) (as_stands call bind fits.1)
  directive_stands (directives.Tick ticks) fits =
      more_words (codes "tick") (decimal ticks ∷ []) refl (more_words (decimal ticks) [] (small_word ticks (omega (arith, fits.1))) refl)
  directive_stands (directives.Wait host number) fits =
      more_words (codes "wait") (name_at names host ∷ decimal number ∷ []) refl (awaited_stands host number fits)
  directive_stands (directives.Hold point host number) fits =
      more_words (codes "hold") (point_word point ∷ name_at names host ∷ decimal number ∷ []) refl
      (more_words (point_word point) (name_at names host ∷ decimal number ∷ []) (is_word-point point) (awaited_stands host number fits))
  directive_stands (directives.Crash point) fits =
      more_words (codes "crash") (point_word point ∷ []) refl (more_words (point_word point) [] (is_word-point point) refl)
  directive_stands (directives.Fail point landed) fits =
      more_words (codes "fail") (point_word point ∷ landing_word landed ∷ []) refl
      (more_words (point_word point) (landing_word landed ∷ []) (is_word-point point)
      (more_words (landing_word landed) [] (is_word-landing landed) refl))
  directive_stands directives.Die fits = refl
  directive_stands directives.Return fits = refl

  pub directive_spelled : (d : Directive) → Fits (length names) d → Spells names (directive_words names d) d
  directive_spelled (directives.Call call bind) fits = (call_words call, call_spelled call fits.0, refl)
  directive_spelled (directives.Tick ticks) fits = refl
  directive_spelled (directives.Wait host number) fits = (name_at names host, name_there host fits.is_host, refl)
  directive_spelled (directives.Hold point host number) fits = (name_at names host, name_there host fits.is_host, refl)
  directive_spelled (directives.Crash point) fits = refl
  directive_spelled (directives.Fail point landed) fits = refl
  directive_spelled directives.Die fits = refl
  directive_spelled directives.Return fits = refl

-- The words of a volume.

digit_visible : (d : ℕ) → d < 16 → is_visible (hex_digit lower d) ≡ true
digit_visible d small = grind (arith, nat_tests)

id_visible : (id : List ℕ) (k : ℕ) (b : Bool) → is_visible (if b then hyphen else hex_digit lower (nibble id k)) ≡ true
id_visible id k true = refl
id_visible id k false = digit_visible (nibble id k) (nibble_small id k)

all_by_index : (p : ℕ → Bool) (f : ℕ → ℕ) → ((k : ℕ) → p (f k) ≡ true) → (n : ℕ) → list_all p (by_index n f) ≡ true
unfolding by_index
all_by_index p f each zero = refl
all_by_index p f each (suc n) =
    list_all-append p (by_index n f) (f n ∷ [])
    ∙ and_from (list_all p (by_index n f)) (list_all p (f n ∷ [])) (all_by_index p f each n) (and_from (p (f n)) true (each n) refl)

pub is_word-id : (id : List ℕ) → is_word (hyphenated_text lower id) ≡ true
is_word-id id =
    let long : length (hyphenated_text lower id) ≡ 36 = by_index_length 36 _ in
    is_word-from (hyphenated_text lower id)
    (all_by_index is_visible (λ k. if is_hyphen_place k then hyphen else hex_digit lower (nibble id (digit_place k)))
    (λ k. id_visible id (digit_place k) (is_hyphen_place k)) 36)
    (omega (arith, long)) (omega (arith, long))

size_word : (g : Geom) (field : GeomField) → IsGeom g → is_word (decimal (value_of g field)) ≡ true
size_word g field is = is_word-decimal (value_of g field) (omega (arith, is field, most_small field))
  where
    most_small : (field : GeomField) → most_of field ≤ 3840
    most_small fields.Slots = omega arith
    most_small fields.Block = omega arith
    most_small (fields.Clusters kind) = omega arith
    most_small (fields.Items Fd) = omega arith
    most_small (fields.Items Sb) = omega arith
    most_small (fields.Items Pb) = omega arith
    most_small (fields.Items Fb) = omega arith

pub geometry_stands : (g : Geom) → IsGeom g → list_all is_word (geometry_part g) ≡ true
geometry_stands g is =
    rw (
      size_word g fields.Slots is,
      size_word g fields.Block is,
      size_word g (fields.Clusters Fd) is,
      size_word g (fields.Items Fd) is,
      size_word g (fields.Clusters Sb) is,
      size_word g (fields.Items Sb) is,
      size_word g (fields.Clusters Pb) is,
      size_word g (fields.Items Pb) is,
      size_word g (fields.Clusters Fb) is,
      size_word g (fields.Items Fb) is,
    ) refl
