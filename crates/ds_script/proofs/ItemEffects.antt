-- What a line adds: the measures by which the table of faults sees it are those of the item that it spells.
use Rattle.std.proofs.Common.{◌≡◌, ℕ, ◌^◌, ◌<◌, Bool, true, false, not, ◌&&◌, ◌||◌, List, [], ◌∷◌, ◌++◌, refl, ap, sym, ◌∙◌, subst, arith}
use Rattle.std.specs.Prelude.{codes, decimal}
use Rattle.std.specs.Str.{bytes_eq}
use Rattle.std.proofs.lemmas.Bool.{or_parts}
use Rattle.ds_tree.specs.declared.calls.CallOf.{CallOf}
use Rattle.ds_tree.specs.declared.calls.CallOf.TheVariants as calls
use Rattle.ds_tree.specs.declared.calls.HostCallOf.{HostCallOf}
use Rattle.ds_tree.specs.declared.calls.HostCallOf.TheVariants as host_calls
use Rattle.ds_tree.specs.declared.scenarios.Directive.{Directive}
use Rattle.ds_tree.specs.declared.scenarios.Directive.TheVariants as directives
use Rattle.ds_tree.specs.declared.variables.Spoken.{Spoken}
use Rattle.ds_tree.specs.Lines.{Words, is_run}
use Rattle.ds_tree.specs.Grammar.{as_part, Spells, SpellsCall, SpellsTreeCall, is_call, is_arming, is_reserved, Item, Volume, Host, Does, Step}
use Rattle.ds_script.specs.Faults.{is_host_line, is_step_line, is_directive_line, word_at, names_in, turns_of, is_first_of, arming_rows, call_rows, is_arming_line, is_armed}
use Rattle.ds_script.specs.Reading.{is_unarmed}
use Rattle.ds_script.proofs.WordLaws.{number_of-decimal}
use Rattle.ds_script.proofs.LookupLaws.{AreNames}
use Rattle.ds_script.proofs.ItemLaws.{SaysItem}

-- The first word of a directive.

abbrev pub first_of : Words → List ℕ
first_of ws = word_at ws 0

-- the words begin with that of a directive, which is that of a call or not, and of one about the next call or not
pub record BeginsAs (call arming : Bool) (ws : Words) : Type 0 where
  pub word : List ℕ
  pub rest : Words
  pub is : ws ≡ word ∷ rest
  pub of_call : is_first_of call_rows word ≡ call
  pub of_arming : is_first_of arming_rows word ≡ arming
  pub run : is_run word ≡ true

begins_as : (call arming : Bool) (word : List ℕ) (rest ws : Words) → ws ≡ word ∷ rest → is_first_of call_rows word ≡ call
    → is_first_of arming_rows word ≡ arming → is_run word ≡ true → BeginsAs call arming ws
begins_as call arming word rest ws is is_call_word is_arming_word is_run_word =
    record { word = word; rest = rest; is = is; of_call = is_call_word; of_arming = is_arming_word; run = is_run_word }

tree_call_begins : (call : CallOf Spoken) (ws : Words) → SpellsTreeCall ws call → BeginsAs true false ws
tree_call_begins (calls.Mkdir dir name) ws h = begins_as _ _ _ _ ws h refl refl refl
tree_call_begins (calls.Create dir name) ws h = begins_as _ _ _ _ ws h refl refl refl
tree_call_begins (calls.Lookup dir name) ws h = begins_as _ _ _ _ ws h refl refl refl
tree_call_begins (calls.List dir after) ws h = begins_as _ _ _ _ ws h refl refl refl
tree_call_begins (calls.Stat key) ws h = begins_as _ _ _ _ ws h refl refl refl
tree_call_begins (calls.Map file page) ws h = begins_as _ _ _ _ ws h refl refl refl
tree_call_begins (calls.Resize file blocks) ws h = begins_as _ _ _ _ ws h refl refl refl
tree_call_begins (calls.Remove dir name) ws h = begins_as _ _ _ _ ws h refl refl refl
tree_call_begins (calls.Rmdir dir name) ws h = begins_as _ _ _ _ ws h refl refl refl
tree_call_begins (calls.Rename dir name to fresh) ws h = begins_as _ _ _ _ ws h refl refl refl
tree_call_begins (calls.OpenFile file) ws h = begins_as _ _ _ _ ws h refl refl refl
tree_call_begins (calls.At file index) ws h = absurd h

call_begins : (call : HostCallOf Spoken) (ws : Words) → SpellsCall ws call → BeginsAs true false ws
call_begins (host_calls.Tree call) ws h = tree_call_begins call ws h
call_begins host_calls.Register ws h = begins_as _ _ _ _ ws h refl refl refl
call_begins host_calls.Unregister ws h = begins_as _ _ _ _ ws h refl refl refl
call_begins host_calls.Beat ws h = begins_as _ _ _ _ ws h refl refl refl
call_begins host_calls.Scan ws h = begins_as _ _ _ _ ws h refl refl refl
call_begins (host_calls.Close file) ws h = begins_as _ _ _ _ ws h refl refl refl
call_begins (host_calls.Put file sector fill) ws h = begins_as _ _ _ _ ws h refl refl refl
call_begins (host_calls.Get file sector) ws h = begins_as _ _ _ _ ws h refl refl refl

pub directive_begins : (names ws : Words) (d : Directive) → Spells names ws d → BeginsAs (is_call d) (is_arming d) ws
directive_begins names ws (directives.Call call bind) h =
    let front = call_begins call h.0 h.1 in
    begins_as true false front.word (front.rest ++ as_part bind) ws (h.2 ∙ ap (λ (f : Words). f ++ as_part bind) front.is)
    front.of_call front.of_arming front.run
directive_begins names ws (directives.Tick n) h = begins_as _ _ _ _ ws h refl refl refl
directive_begins names ws (directives.Wait host directive) h = begins_as _ _ _ _ ws h.2 refl refl refl
directive_begins names ws (directives.Hold point host directive) h = begins_as _ _ _ _ ws h.2 refl refl refl
directive_begins names ws (directives.Crash point) h = begins_as _ _ _ _ ws h refl refl refl
directive_begins names ws (directives.Fail point landed) h = begins_as _ _ _ _ ws h refl refl refl
directive_begins names ws directives.Die h = begins_as _ _ _ _ ws h refl refl refl
directive_begins names ws directives.Return h = begins_as _ _ _ _ ws h refl refl refl

-- whether the first word of a directive is that of one about the next call
pub first_is_arming : (names ws : Words) (d : Directive) → Spells names ws d → is_first_of arming_rows (first_of ws) ≡ is_arming d
first_is_arming names ws d h =
    let begins = directive_begins names ws d h in
    ap (λ (ws : Words). is_first_of arming_rows (first_of ws)) begins.is ∙ begins.of_arming

-- The measures of an item.

abbrev pub is_host : Item → Bool
is_host (Host name) = true
is_host _ = false

abbrev pub is_does : Item → Bool
is_does (Does host d) = true
is_does _ = false

abbrev pub is_step : Item → Bool
is_step (Step host count) = true
is_step _ = false

abbrev pub names_added : Item → Words
names_added (Host name) = name ∷ []
names_added _ = []

abbrev pub turns_added : Item → ℕ
turns_added (Step host count) = count
turns_added _ = 0

-- the line is of the kind of the item
pub record IsKindOf (ws : Words) (item : Item) : Type 0 where
  pub host : is_host_line ws ≡ is_host item
  pub directive : is_directive_line ws ≡ is_does item
  pub step : is_step_line ws ≡ is_step item
  pub names : names_in (ws ∷ []) ≡ names_added item
  pub turns : turns_of ws ≡ turns_added item

kind_of_host : (name : List ℕ) → IsKindOf (codes "host" ∷ name ∷ []) (Host name)
kind_of_host name = record { host = refl; directive = refl; step = refl; names = refl; turns = refl }

kind_of_step : (host count : ℕ) (w : List ℕ) → count < 2 ^ 64 → IsKindOf (codes "step" ∷ w ∷ decimal count ∷ []) (Step host count)
kind_of_step host count w small = record { host = refl; directive = refl; step = refl; names = refl; turns = number_of-decimal count small }

kind_of_does : (host : ℕ) (d : Directive) (w : List ℕ) (ws : Words) → is_reserved w ≡ false → IsKindOf (w ∷ ws) (Does host d)
kind_of_does host d w ws free =
    let last = or_parts (bytes_eq w (codes "volume") || bytes_eq w (codes "host")) (bytes_eq w (codes "step")) free in
    let first = or_parts (bytes_eq w (codes "volume")) (bytes_eq w (codes "host")) last.0 in
    let no_host : bytes_eq w (codes "host") ≡ false = first.1 in
    let no_step : bytes_eq w (codes "step") ≡ false = last.1 in
    record { host = no_host; directive = ap not free; step = no_step; names = rw no_host refl; turns = rw no_step refl }

pub kind_of : (names : Words) → AreNames names → (begun : Bool) (ws : Words) (item : Item) → SaysItem names begun ws item → IsKindOf ws item
kind_of names are begun ws (Volume id g) h = absurd h.stands
kind_of names are begun ws (Host name) h = subst (λ ws. IsKindOf ws (Host name)) (sym h.spells) (kind_of_host name)
kind_of names are begun ws (Step host count) h =
    subst (λ ws. IsKindOf ws (Step host count)) (sym h.spells.2) (kind_of_step host count h.spells.0 (omega (arith, h.stands.2)))
kind_of names are begun ws (Does host d) h =
    subst (λ ws. IsKindOf ws (Does host d)) (sym h.spells.3)
    (kind_of_does host d h.spells.0 h.spells.1 (are.hosts host h.spells.0 h.spells.2).free)

-- A directive that the lines behind it leave without a call.

abbrev pub wants_call : Words → List (List ℕ) → Bool
wants_call ws behind = is_arming_line ws && not (is_armed (word_at ws 0) behind)

pub unarmed_same : (names : Words) → AreNames names → (begun : Bool) (ws : Words) (item : Item) (behind : List (List ℕ))
    → SaysItem names begun ws item → wants_call ws behind ≡ is_unarmed item ws behind
unarmed_same names are begun ws (Volume id g) behind h = absurd h.stands
unarmed_same names are begun ws (Host name) behind h =
    ap (λ (ws : Words). wants_call ws behind) h.spells
unarmed_same names are begun ws (Step host count) behind h = ap (λ (ws : Words). wants_call ws behind) h.spells.2
unarmed_same names are begun ws (Does host d) behind h =
    let free : is_reserved h.spells.0 ≡ false = (are.hosts host h.spells.0 h.spells.2).free in
    let arming : is_first_of arming_rows (first_of h.spells.1) ≡ is_arming d = first_is_arming names h.spells.1 d h.spells.4 in
    let here : wants_call (h.spells.0 ∷ h.spells.1) behind ≡ (is_arming d && not (is_armed h.spells.0 behind)) =
    ap (λ (b : Bool). (not b && is_first_of arming_rows (first_of h.spells.1)) && not (is_armed h.spells.0 behind)) free
    ∙ ap (λ (b : Bool). b && not (is_armed h.spells.0 behind)) arming in
    ap (λ (ws : Words). wants_call ws behind) h.spells.3
    ∙ (here ∙ ap (λ (ws : Words). is_unarmed (Does host d) ws behind) (sym h.spells.3))
