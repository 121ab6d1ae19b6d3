-- A directive by its first word: what it means, what it spells, and the fault of it.
use Rattle.std.proofs.Common.{◌≡◌, ℕ, Bool, true, false, not, cond, List, [], ◌∷◌, ◌++◌, length, map, Ok, Err, Option, Some, None, refl, ap, sym, ◌∙◌, subst}
use Rattle.std.specs.Prelude.{IfOk, IfSome, codes, decimal, find, if◌then◌else◌}
use Rattle.std.specs.Option.{option_map_or}
use Rattle.std.specs.Str.{bytes_eq}
use Rattle.std.proofs.lemmas.Option.{get_or_from_slice_get}
use Rattle.ds_tree.specs.declared.calls.CallOf.{CallOf}
use Rattle.ds_tree.specs.declared.calls.CallOf.TheVariants as calls
use Rattle.ds_tree.specs.declared.calls.HostCallOf.{HostCallOf}
use Rattle.ds_tree.specs.declared.calls.HostCallOf.TheVariants as host_calls
use Rattle.ds_tree.specs.declared.scenarios.Directive.{Directive}
use Rattle.ds_tree.specs.declared.scenarios.Directive.TheVariants as directives
use Rattle.ds_tree.specs.declared.variables.Spoken.{Spoken}
use Rattle.ds_tree.specs.declared.call_kinds.CallKind.{CallKind}
use Rattle.ds_tree.specs.CallKinds.{all_kinds, kind_word, kind_named}
use Rattle.ds_tree.specs.Lines.{Words, is_word}
use Rattle.ds_tree.specs.Grammar.{as_part, point_word, SpellsCall, SpellsTreeCall, Spells, Fits, FitsCall, FitsTreeCall, GivesKey, IsNameOf}
use Rattle.ds_tree.specs.Variables.{IsVariable}
use Rattle.ds_script.specs.declared.faults.LineFault.{LineFault}
use Rattle.ds_script.specs.declared.faults.LineFault.TheVariants as faults
use Rattle.ds_script.specs.Faults.{Shape, first_fault, Row, row, directive_rows, directive_fault}
use Rattle.ds_script.specs.Reading.{◌>>=◌, Reads, word_at, end_at, register_at, unregister_at, beat_at, scan_at, die_at, return_at, call_at, directive_named, arming_named, other_named, directive_at}
use Rattle.ds_script.proofs.Readers.{fault_in, taken}
use Rattle.ds_script.proofs.WordLaws.{bytes_eq-means}
use Rattle.ds_script.proofs.LookupLaws.{AreNames}
use Rattle.ds_script.proofs.DirectiveLines.{name_at}
use Rattle.ds_script.proofs.DirectiveLaws.{Says, IsDirective, register, unregister, beat, scan, mkdirs, creates, lookups, lists, stats, maps, resizes, removes, rmdirs, renames, opens, closes, puts, gets, holds, crashes, fails, ticks, waits, dies, returns}
use Rattle.ds_script.proofs.DirectiveLaws.{mkdirs_again, creates_again, lookups_again, lists_again, stats_again, maps_again, resizes_again, removes_again, rmdirs_again, renames_again, opens_again, closes_again, puts_again, gets_again, holds_again, crashes_again, fails_again, ticks_again, waits_again}

-- A table of directives.

-- a directive's first word, its shape and its reader, with what they owe
pub record Entry (names : Words) : Type 0 where
  pub word : List ℕ
  pub shape : Shape
  pub read : Words → Reads Directive
  pub is : IsDirective names word shape read

abbrev row_of : {names : Words} → Entry names → Row
row_of e = row e.word e.shape

-- the reading by the first entry with this word
abbrev by_entry : {names : Words} → List (Entry names) → List ℕ → Words → Reads Directive
by_entry [] w ws = Err faults.Word
by_entry (e ∷ es) w ws = if bytes_eq w e.word then e.read ws else by_entry es w ws

-- the reading by the first kind of call with this word, or else another
abbrev by_kind : List ℕ → Words → Reads Directive → List CallKind → Reads Directive
by_kind w ws other [] = other
by_kind w ws other (kind ∷ kinds) = if bytes_eq w (kind_word kind) then call_at kind ws else by_kind w ws other kinds

module _ (w : List ℕ) (ws : Words) (other : Reads Directive) where
  kind_same : (kind : CallKind) (found : Option CallKind) (more : Reads Directive)
      → option_map_or (λ kind. call_at kind ws) found other ≡ more → (b : Bool)
      → option_map_or (λ kind. call_at kind ws) (cond b (Some kind) found) other ≡ cond b (call_at kind ws) more
  kind_same kind found more same true = refl
  kind_same kind found more same false = same

  kinds_same : (kinds : List CallKind)
      → option_map_or (λ kind. call_at kind ws) (find (λ kind. bytes_eq w (kind_word kind)) kinds) other ≡ by_kind w ws other kinds
  kinds_same [] = refl
  kinds_same (kind ∷ kinds) = kind_same kind _ _ (kinds_same kinds) (bytes_eq w (kind_word kind))

module _ (names : Words) where
  entry_means : (e : Entry names) (w : List ℕ) (ws : Words) (rest : Reads Directive) → IfOk rest (Says names (w ∷ ws))
      → (b : Bool) → bytes_eq w e.word ≡ b → IfOk (if b then e.read ws else rest) (Says names (w ∷ ws))
  entry_means e w ws rest more false is = more
  entry_means e w ws rest more true is =
      let P : List ℕ → Type 0 = λ v. IfOk (e.read ws) (Says names (v ∷ ws)) in
      subst P (sym (bytes_eq-means w e.word is)) (e.is.means ws)

  table_means : (es : List (Entry names)) (w : List ℕ) (ws : Words) → IfOk (by_entry es w ws) (Says names (w ∷ ws))
  table_means [] w ws = tt
  table_means (e ∷ es) w ws = entry_means e w ws (by_entry es w ws) (table_means es w ws) (bytes_eq w e.word) refl

  -- the first fault of words by a row
  abbrev by_row : Words → Option Row → Option LineFault
  by_row ws r = option_map_or (λ r. first_fault names r.shape ws) r (Some faults.Word)

  entry_tells : (e : Entry names) (ws : Words) (more : Option Row) (rest : Reads Directive) → by_row ws more ≡ fault_in rest
      → (b : Bool) → by_row ws (cond b (Some (row_of e)) more) ≡ fault_in (if b then e.read ws else rest)
  entry_tells e ws more rest told true = e.is.tells ws
  entry_tells e ws more rest told false = told

  table_tells : (es : List (Entry names)) (w : List ℕ) (ws : Words)
      → by_row ws (find (λ r. bytes_eq w r.word) (map row_of es)) ≡ fault_in (by_entry es w ws)
  table_tells [] w ws = refl
  table_tells (e ∷ es) w ws =
      entry_tells e ws (find (λ r. bytes_eq w r.word) (map row_of es)) (by_entry es w ws) (table_tells es w ws) (bytes_eq w e.word)

  -- The table of all directives.

  abbrev entry : (word : List ℕ) (shape : Shape) {read : Words → Reads Directive} → IsDirective names word shape read → Entry names
  entry word shape {read} is = record { word = word; shape = shape; read = read; is = is }

  module _ (are : AreNames names) where
    abbrev table : List (Entry names)
    table =
        entry _ _ (register names)
        ∷ entry _ _ (unregister names)
        ∷ entry _ _ (beat names)
        ∷ entry _ _ (scan names)
        ∷ entry _ _ (mkdirs names)
        ∷ entry _ _ (creates names)
        ∷ entry _ _ (lookups names)
        ∷ entry _ _ (lists names)
        ∷ entry _ _ (stats names)
        ∷ entry _ _ (maps names)
        ∷ entry _ _ (resizes names)
        ∷ entry _ _ (removes names)
        ∷ entry _ _ (rmdirs names)
        ∷ entry _ _ (renames names)
        ∷ entry _ _ (opens names)
        ∷ entry _ _ (closes names)
        ∷ entry _ _ (puts names)
        ∷ entry _ _ (gets names)
        ∷ entry _ _ (holds names are)
        ∷ entry _ _ (crashes names)
        ∷ entry _ _ (fails names)
        ∷ entry _ _ (ticks names)
        ∷ entry _ _ (waits names are)
        ∷ entry _ _ (dies names)
        ∷ entry _ _ (returns names) ∷ []

    named_same : (w : List ℕ) (ws : Words) → directive_named names w ws ≡ by_entry table w ws
    unfolding directive_named kind_named call_at arming_named other_named
    named_same w ws = kinds_same w ws (arming_named names w ws) all_kinds

    word_means : (w : List ℕ) (ws : Words) (b : Bool)
        → IfOk (taken w ws b >>= (λ w. directive_named names w.0 w.1)) (Says names (w ∷ ws))
    word_means w ws false = tt
    word_means w ws true = subst (λ (r : Reads Directive). IfOk r (Says names (w ∷ ws))) (sym (named_same w ws)) (table_means table w ws)

    -- what is read is spelled so and fits
    pub directive_means : (ws : Words) → IfOk (directive_at names ws) (Says names ws)
    unfolding directive_at word_at
    directive_means [] = tt
    directive_means (w ∷ ws) = word_means w ws (is_word w)

    word_tells : (w : List ℕ) (ws : Words) (b : Bool)
        → (if not b then Some faults.Word else by_row ws (find (λ r. bytes_eq w r.word) directive_rows))
        ≡ fault_in (taken w ws b >>= (λ w. directive_named names w.0 w.1))
    word_tells w ws false = refl
    word_tells w ws true = table_tells table w ws ∙ ap fault_in (sym (named_same w ws))

    -- and the fault that is told is the first
    pub directive_tells : (ws : Words) → directive_fault names ws ≡ fault_in (directive_at names ws)
    unfolding directive_at word_at
    directive_tells [] = refl
    directive_tells (w ∷ ws) = word_tells w ws (is_word w)

  -- What is spelled is read.

  append_none : (ws : Words) → ws ++ [] ≡ ws
  append_none [] = refl
  append_none (w ∷ ws) = ap (λ (vs : Words). w ∷ vs) (append_none ws)

  from_front : (front words part ws : Words) (d : Directive) → ws ≡ front ++ part → front ≡ words
      → directive_at names (words ++ part) ≡ Ok d → directive_at names ws ≡ Ok d
  from_front front words part ws d is spells read =
      ap (directive_at names) (is ∙ ap (λ (f : Words). f ++ part) spells) ∙ read

  -- a call that can bind nothing
  from_call : (front words ws : Words) (call : HostCallOf Spoken) (bind : Option (List ℕ)) → ws ≡ front ++ as_part bind → front ≡ words
      → IfSome bind (λ name. IsVariable name × ⊥) → directive_at names words ≡ Ok (directives.Call call None)
      → directive_at names ws ≡ Ok (directives.Call call bind)
  from_call front words ws call (Some name) is spells bound read = absurd bound.1
  from_call front words ws call None is spells bound read =
      ap (directive_at names) (is ∙ (append_none front ∙ spells)) ∙ read

  bound_variable : (call : HostCallOf Spoken) (bind : Option (List ℕ)) → IfSome bind (λ name. IsVariable name × GivesKey call) → IfSome bind IsVariable
  bound_variable call None h = tt
  bound_variable call (Some name) h = h.0

  tree_call_again : (call : CallOf Spoken) (bind : Option (List ℕ)) (front ws : Words) → ws ≡ front ++ as_part bind
      → SpellsTreeCall front call → FitsTreeCall call → IfSome bind (λ name. IsVariable name × GivesKey (host_calls.Tree call))
      → directive_at names ws ≡ Ok (directives.Call (host_calls.Tree call) bind)
  unfolding directive_at word_at directive_named kind_named call_at arming_named other_named
  tree_call_again (calls.Mkdir dir name) bind front ws is spells fits bound =
      from_front front _ (as_part bind) ws _ is spells
      (mkdirs_again names dir name bind fits.0 fits.1 (bound_variable (host_calls.Tree (calls.Mkdir dir name)) bind bound))
  tree_call_again (calls.Create dir name) bind front ws is spells fits bound =
      from_front front _ (as_part bind) ws _ is spells
      (creates_again names dir name bind fits.0 fits.1 (bound_variable (host_calls.Tree (calls.Create dir name)) bind bound))
  tree_call_again (calls.Lookup dir name) bind front ws is spells fits bound =
      from_front front _ (as_part bind) ws _ is spells
      (lookups_again names dir name bind fits.0 fits.1 (bound_variable (host_calls.Tree (calls.Lookup dir name)) bind bound))
  tree_call_again (calls.List dir after) bind front ws is spells fits bound =
      from_call front _ ws _ bind is spells bound (lists_again names dir after fits.0 fits.1)
  tree_call_again (calls.Stat key) bind front ws is spells fits bound =
      from_call front _ ws _ bind is spells bound (stats_again names key fits)
  tree_call_again (calls.Map file page) bind front ws is spells fits bound =
      from_call front _ ws _ bind is spells bound (maps_again names file page fits.0 fits.1)
  tree_call_again (calls.Resize file blocks) bind front ws is spells fits bound =
      from_call front _ ws _ bind is spells bound (resizes_again names file blocks fits.0 fits.1)
  tree_call_again (calls.Remove dir name) bind front ws is spells fits bound =
      from_call front _ ws _ bind is spells bound (removes_again names dir name fits.0 fits.1)
  tree_call_again (calls.Rmdir dir name) bind front ws is spells fits bound =
      from_call front _ ws _ bind is spells bound (rmdirs_again names dir name fits.0 fits.1)
  tree_call_again (calls.Rename dir name to fresh) bind front ws is spells fits bound =
      from_call front _ ws _ bind is spells bound (renames_again names dir name to fresh fits.0 fits.1 fits.2 fits.3)
  tree_call_again (calls.OpenFile file) bind front ws is spells fits bound =
      from_call front _ ws _ bind is spells bound (opens_again names file fits)
  tree_call_again (calls.At file index) bind front ws is spells fits bound = absurd spells

  call_again : (call : HostCallOf Spoken) (bind : Option (List ℕ)) (front ws : Words) → ws ≡ front ++ as_part bind
      → SpellsCall front call → FitsCall call → IfSome bind (λ name. IsVariable name × GivesKey call)
      → directive_at names ws ≡ Ok (directives.Call call bind)
  unfolding directive_at word_at directive_named kind_named call_at arming_named other_named register_at unregister_at beat_at scan_at end_at
  call_again (host_calls.Tree call) bind front ws is spells fits bound = tree_call_again call bind front ws is spells fits bound
  call_again host_calls.Register bind front ws is spells fits bound = from_call front _ ws _ bind is spells bound refl
  call_again host_calls.Unregister bind front ws is spells fits bound = from_call front _ ws _ bind is spells bound refl
  call_again host_calls.Beat bind front ws is spells fits bound = from_call front _ ws _ bind is spells bound refl
  call_again host_calls.Scan bind front ws is spells fits bound = from_call front _ ws _ bind is spells bound refl
  call_again (host_calls.Close file) bind front ws is spells fits bound =
      from_call front _ ws _ bind is spells bound (closes_again names file fits)
  call_again (host_calls.Put file sector fill) bind front ws is spells fits bound =
      from_call front _ ws _ bind is spells bound (puts_again names file sector fill fits.0 fits.1 fits.2)
  call_again (host_calls.Get file sector) bind front ws is spells fits bound =
      from_call front _ ws _ bind is spells bound (gets_again names file sector fits.0 fits.1)

  named : (host : ℕ) (word : List ℕ) → IsNameOf names host word → word ≡ name_at names host
  named host word is = sym (get_or_from_slice_get names host word [] is)

  pub directive_again : AreNames names → (ws : Words) (d : Directive) → Spells names ws d → Fits (length names) d → directive_at names ws ≡ Ok d
  unfolding directive_at word_at directive_named kind_named call_at arming_named other_named die_at return_at end_at
  directive_again are ws (directives.Call call bind) spells fits = call_again call bind spells.0 ws spells.2 spells.1 fits.0 fits.1
  directive_again are ws (directives.Tick n) spells fits = ap (directive_at names) spells ∙ ticks_again names n fits
  directive_again are ws (directives.Wait host directive) spells fits =
      ap (directive_at names) (spells.2 ∙ ap (λ (w : List ℕ). codes "wait" ∷ w ∷ decimal directive ∷ []) (named host spells.0 spells.1))
      ∙ waits_again names are host directive fits
  directive_again are ws (directives.Hold point host directive) spells fits =
      ap (directive_at names)
      (spells.2 ∙ ap (λ (w : List ℕ). codes "hold" ∷ point_word point ∷ w ∷ decimal directive ∷ []) (named host spells.0 spells.1))
      ∙ holds_again names are point host directive fits
  directive_again are ws (directives.Crash point) spells fits = ap (directive_at names) spells ∙ crashes_again names point
  directive_again are ws (directives.Fail point landed) spells fits = ap (directive_at names) spells ∙ fails_again names point landed
  directive_again are ws directives.Die spells fits = ap (directive_at names) spells
  directive_again are ws directives.Return spells fits = ap (directive_at names) spells
