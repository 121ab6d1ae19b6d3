-- Which texts are scenarios: how each line of a scenario is written, and which scenarios there are.
use Rattle.std.specs.Prelude.{◌≡◌, ℕ, ◌+◌, ◌^◌, ◌≤◌, ◌<◌, Bool, true, false, nat_le, nat_eq, if◌then◌else◌, ◌&&◌, ◌||◌, List, [], ◌∷◌, ◌++◌, length, map, sum_by, filter_map, slice_get, codes, decimal, Option, Some, None, IfSome, IsTrue}
use Rattle.std.specs.List.{list_all, AllByRecursion, AllZip}
use Rattle.std.specs.Str.{bytes_eq}
use Rattle.uuid.specs.Text.{parsed}
use Rattle.ds_base.specs.declared.geometry.Geom.{Geom}
use Rattle.ds_base.specs.declared.geometry.Kind.{Kind}
use Rattle.ds_base.specs.declared.geometry.Kind.TheVariants.{Fd, Sb, Pb, Fb}
use Rattle.ds_base.specs.Geometry.{IsGeom, clusters_of, per_cluster}
use Rattle.ds_tree.specs.declared.call_kinds.CallKind.TheVariants as kinds
use Rattle.ds_tree.specs.declared.calls.CallOf.{CallOf}
use Rattle.ds_tree.specs.declared.calls.CallOf.TheVariants as calls
use Rattle.ds_tree.specs.declared.calls.HostCallOf.{HostCallOf}
use Rattle.ds_tree.specs.declared.calls.HostCallOf.TheVariants as host_calls
use Rattle.ds_tree.specs.declared.scenarios.Directive.{Directive}
use Rattle.ds_tree.specs.declared.scenarios.Directive.TheVariants as directives
use Rattle.ds_tree.specs.declared.scenarios.HostPlan.{HostPlan}
use Rattle.ds_tree.specs.declared.scenarios.Point.{Point}
use Rattle.ds_tree.specs.declared.scenarios.Point.TheVariants as points
use Rattle.ds_tree.specs.declared.scenarios.Scenario.{Scenario}
use Rattle.ds_tree.specs.declared.variables.Spoken.{Spoken}
use Rattle.ds_tree.specs.declared.variables.Spoken.TheVariants.{Root, Var}
use Rattle.ds_tree.specs.CallKinds.{kind_word}
use Rattle.ds_tree.specs.Lines.{Words, is_word, kept_lines}
use Rattle.ds_tree.specs.Variables.{IsVariable, is_lower_or_digit}

-- The limits of a scenario.

abbrev pub most_bytes : ℕ
most_bytes = 1048576

abbrev pub most_hosts : ℕ
most_hosts = 16

-- the directives of all hosts
abbrev pub most_directives : ℕ
most_directives = 4096

-- the turns that all `step` lines ask for
abbrev pub most_steps : ℕ
most_steps = 1000000

-- the turns that one `step` line asks for
abbrev pub most_turns : ℕ
most_turns = 65536

abbrev pub most_ticks : ℕ
most_ticks = 1000000

-- The words of a line.

abbrev pub point_word : Point → List ℕ
point_word points.Enter = codes "enter"
point_word points.Leave = codes "leave"
point_word points.Beat = codes "beat"
point_word points.Commit = codes "commit"
point_word points.Retire = codes "retire"
point_word points.Read = codes "read"
point_word points.Lock = codes "lock"
point_word points.Free = codes "free"
point_word points.Index = codes "index"
point_word points.Place = codes "place"
point_word points.Break = codes "break"
point_word points.Clear = codes "clear"

-- whether a fault comes with its command's effect
abbrev pub landing_word : Bool → List ℕ
landing_word landed = if landed then codes "landed" else codes "lost"

abbrev pub key_word : Spoken → List ℕ
key_word Root = codes "root"
key_word (Var name) = name

abbrev pub as_part : Option (List ℕ) → Words
as_part None = []
as_part (Some name) = codes "as" ∷ name ∷ []

abbrev pub after_part : Option (List ℕ) → Words
after_part None = []
after_part (Some name) = codes "after" ∷ name ∷ []

-- the words of a call on the file tree; there are none for the reading of a block's number, which no text asks for
abbrev pub tree_call_words : CallOf Spoken → Words
tree_call_words (calls.Mkdir dir name) = kind_word kinds.Mkdir ∷ key_word dir ∷ name ∷ []
tree_call_words (calls.Create dir name) = kind_word kinds.Create ∷ key_word dir ∷ name ∷ []
tree_call_words (calls.Lookup dir name) = kind_word kinds.Lookup ∷ key_word dir ∷ name ∷ []
tree_call_words (calls.List dir after) = kind_word kinds.List ∷ key_word dir ∷ after_part after
tree_call_words (calls.Stat key) = kind_word kinds.Stat ∷ key_word key ∷ []
tree_call_words (calls.Map file page) = kind_word kinds.Map ∷ key_word file ∷ decimal page ∷ []
tree_call_words (calls.Resize file blocks) = kind_word kinds.Resize ∷ key_word file ∷ decimal blocks ∷ []
tree_call_words (calls.Remove dir name) = kind_word kinds.Remove ∷ key_word dir ∷ name ∷ []
tree_call_words (calls.Rmdir dir name) = kind_word kinds.Rmdir ∷ key_word dir ∷ name ∷ []
tree_call_words (calls.Rename dir name to fresh) = kind_word kinds.Rename ∷ key_word dir ∷ name ∷ key_word to ∷ fresh ∷ []
tree_call_words (calls.OpenFile file) = kind_word kinds.Open ∷ key_word file ∷ []
tree_call_words (calls.At file index) = []

abbrev pub call_words : HostCallOf Spoken → Words
call_words (host_calls.Tree call) = tree_call_words call
call_words host_calls.Register = kind_word kinds.Register ∷ []
call_words host_calls.Unregister = kind_word kinds.Unregister ∷ []
call_words host_calls.Beat = kind_word kinds.Beat ∷ []
call_words host_calls.Scan = kind_word kinds.Scan ∷ []
call_words (host_calls.Close file) = kind_word kinds.Close ∷ key_word file ∷ []
call_words (host_calls.Put file sector fill) = kind_word kinds.Put ∷ key_word file ∷ decimal sector ∷ decimal fill ∷ []
call_words (host_calls.Get file sector) = kind_word kinds.Get ∷ key_word file ∷ decimal sector ∷ []

-- the words write out this call on the file tree
abbrev pub SpellsTreeCall : Words → CallOf Spoken → Type 0
SpellsTreeCall ws (calls.At file index) = ⊥
SpellsTreeCall ws call = ws ≡ tree_call_words call

-- the words write out this call
abbrev pub SpellsCall : Words → HostCallOf Spoken → Type 0
SpellsCall ws (host_calls.Tree call) = SpellsTreeCall ws call
SpellsCall ws call = ws ≡ call_words call

-- this word is the name of the host with this number
abbrev pub IsNameOf : Words → ℕ → List ℕ → Type 0
IsNameOf names host word = slice_get names host ≡ Some word

-- the words write out this directive, where the hosts have these names
abbrev pub Spells : Words → Words → Directive → Type 0
Spells names ws (directives.Call call bind) = (front : Words) × SpellsCall front call × (ws ≡ front ++ as_part bind)
Spells names ws (directives.Tick ticks) = ws ≡ codes "tick" ∷ decimal ticks ∷ []
Spells names ws (directives.Wait host directive) =
    (word : List ℕ) × IsNameOf names host word × (ws ≡ codes "wait" ∷ word ∷ decimal directive ∷ [])
Spells names ws (directives.Hold point host directive) =
    (word : List ℕ) × IsNameOf names host word × (ws ≡ codes "hold" ∷ point_word point ∷ word ∷ decimal directive ∷ [])
Spells names ws (directives.Crash point) = ws ≡ codes "crash" ∷ point_word point ∷ []
Spells names ws (directives.Fail point landed) = ws ≡ codes "fail" ∷ point_word point ∷ landing_word landed ∷ []
Spells names ws directives.Die = ws ≡ codes "die" ∷ []
Spells names ws directives.Return = ws ≡ codes "return" ∷ []

-- Which directives there are.

abbrev pub FitsKey : Spoken → Type 0
FitsKey Root = Unit {0}
FitsKey (Var name) = IsVariable name

abbrev pub FitsWord : List ℕ → Type 0
FitsWord name = IsTrue (is_word name)

abbrev pub FitsTreeCall : CallOf Spoken → Type 0
FitsTreeCall (calls.Mkdir dir name) = FitsKey dir × FitsWord name
FitsTreeCall (calls.Create dir name) = FitsKey dir × FitsWord name
FitsTreeCall (calls.Lookup dir name) = FitsKey dir × FitsWord name
FitsTreeCall (calls.List dir after) = FitsKey dir × IfSome after FitsWord
FitsTreeCall (calls.Stat key) = FitsKey key
FitsTreeCall (calls.Map file page) = FitsKey file × (page < 2 ^ 32)
FitsTreeCall (calls.Resize file blocks) = FitsKey file × (blocks < 2 ^ 32)
FitsTreeCall (calls.Remove dir name) = FitsKey dir × FitsWord name
FitsTreeCall (calls.Rmdir dir name) = FitsKey dir × FitsWord name
FitsTreeCall (calls.Rename dir name to fresh) = FitsKey dir × FitsWord name × FitsKey to × FitsWord fresh
FitsTreeCall (calls.OpenFile file) = FitsKey file
FitsTreeCall (calls.At file index) = ⊥

abbrev pub FitsCall : HostCallOf Spoken → Type 0
FitsCall (host_calls.Tree call) = FitsTreeCall call
FitsCall host_calls.Register = Unit {0}
FitsCall host_calls.Unregister = Unit {0}
FitsCall host_calls.Beat = Unit {0}
FitsCall host_calls.Scan = Unit {0}
FitsCall (host_calls.Close file) = FitsKey file
FitsCall (host_calls.Put file sector fill) = FitsKey file × (sector < 2 ^ 32) × (fill < 256)
FitsCall (host_calls.Get file sector) = FitsKey file × (sector < 2 ^ 32)

-- the calls whose reply can give a key to a variable
abbrev pub GivesKey : HostCallOf Spoken → Type 0
GivesKey (host_calls.Tree (calls.Mkdir dir name)) = Unit {0}
GivesKey (host_calls.Tree (calls.Create dir name)) = Unit {0}
GivesKey (host_calls.Tree (calls.Lookup dir name)) = Unit {0}
GivesKey _ = ⊥

-- a directive of a host that is waited for: its number counts from 1, and may be above the length of that host's list
pub record IsAwaited (hosts host directive : ℕ) : Type 0 where
  pub is_host : host < hosts
  pub from_one : 1 ≤ directive
  pub most : directive ≤ most_directives

-- the directive is one of a scenario with so many hosts
abbrev pub Fits : ℕ → Directive → Type 0
Fits hosts (directives.Call call bind) = FitsCall call × IfSome bind (λ name. IsVariable name × GivesKey call)
Fits hosts (directives.Tick ticks) = (1 ≤ ticks) × (ticks ≤ most_ticks)
Fits hosts (directives.Wait host directive) = IsAwaited hosts host directive
Fits hosts (directives.Hold point host directive) = IsAwaited hosts host directive
Fits hosts (directives.Crash point) = Unit {0}
Fits hosts (directives.Fail point landed) = Unit {0}
Fits hosts directives.Die = Unit {0}
Fits hosts directives.Return = Unit {0}

-- Which scenarios there are.

abbrev pub is_call : Directive → Bool
is_call (directives.Call call bind) = true
is_call _ = false

-- whether a directive is about the next call of its host
abbrev pub is_arming : Directive → Bool
is_arming (directives.Hold point host directive) = true
is_arming (directives.Crash point) = true
is_arming (directives.Fail point landed) = true
is_arming _ = false

-- each directive that is about the next call is followed by a call
abbrev pub AreArmed : List Directive → Type 0
AreArmed list = (n : ℕ) (d : Directive) → slice_get list n ≡ Some d → IsTrue (is_arming d)
    → (next : Directive) × (slice_get list (n + 1) ≡ Some next) × IsTrue (is_call next)

-- whether a word is 1 to 16 lower-case letters and digits that begin with a letter
abbrev pub is_label : List ℕ → Bool
is_label [] = false
is_label (b ∷ bs) = nat_le 97 b && list_all is_lower_or_digit (b ∷ bs) && nat_le (length (b ∷ bs)) 16

-- the words that begin lines of their own
abbrev pub is_reserved : List ℕ → Bool
is_reserved w = bytes_eq w (codes "volume") || bytes_eq w (codes "host") || bytes_eq w (codes "step")

pub record IsHostName (name : List ℕ) : Type 0 where
  pub label : is_label name ≡ true
  pub free : is_reserved name ≡ false

-- no two hosts have the same name
abbrev pub AreDistinct : Words → Type 0
AreDistinct names = (i j : ℕ) (name : List ℕ) → IsNameOf names i name → IsNameOf names j name → i ≡ j

abbrev pub names_of : List HostPlan → Words
names_of plans = map (λ plan. plan.name) plans

-- a geometry has four counts of clusters and four of items
pub record HasFourKinds (g : Geom) : Type 0 where
  pub clusters : length g.clusters ≡ 4
  pub items : length g.items ≡ 4

-- the list of a host's directives, in a scenario with so many hosts
pub record IsPlan (hosts : ℕ) (plan : HostPlan) : Type 0 where
  pub name : IsHostName plan.name
  pub fit : AllByRecursion (Fits hosts) plan.list
  pub armed : AreArmed plan.list

-- so many turns of a host
abbrev pub IsStep : ℕ → ℕ × ℕ → Type 0
IsStep hosts step = (step.0 < hosts) × (1 ≤ step.1) × (step.1 ≤ most_turns)

-- a scenario within its limits
pub record IsScenario (s : Scenario) : Type 0 where
  pub four : HasFourKinds s.geom
  pub geometry : IsGeom s.geom
  pub plans : AllByRecursion (IsPlan (length s.hosts)) s.hosts
  pub apart : AreDistinct (names_of s.hosts)
  pub steps : AllByRecursion (IsStep (length s.hosts)) s.steps
  pub few_hosts : length s.hosts ≤ most_hosts
  pub few_directives : sum_by (λ plan. length plan.list) s.hosts ≤ most_directives
  pub few_steps : sum_by (λ step. step.1) s.steps ≤ most_steps

-- The lines of a text.

-- what a line says: the volume, a host's name, a directive of a host, or so many turns of a host
pub data Item : Type 0 where
  Volume : List ℕ → Geom → Item
  Host : List ℕ → Item
  Does : ℕ → Directive → Item
  Step : ℕ → ℕ → Item

-- the words for the clusters of a kind, and the items of each
abbrev pub kind_part : Geom → Kind → Words
kind_part g kind = decimal (clusters_of g kind) ∷ decimal (per_cluster g kind) ∷ []

abbrev pub geometry_part : Geom → Words
geometry_part g =
    codes "slots" ∷ decimal g.slots ∷ codes "block" ∷ decimal g.block
    ∷ codes "fd" ∷ kind_part g Fd ++ codes "sb" ∷ kind_part g Sb ++ codes "pb" ∷ kind_part g Pb ++ codes "fb" ∷ kind_part g Fb

-- a word that is read as this id, in one of the forms that an id has
pub record IsIdWord (word id : List ℕ) : Type 0 where
  pub whole : IsTrue (is_word word)
  pub reads : parsed word ≡ Some id

-- the words of a line write out this item, where the hosts have these names
abbrev pub SpellsItem : Words → Words → Item → Type 0
SpellsItem names ws (Volume id g) = (word : List ℕ) × IsIdWord word id × (ws ≡ codes "volume" ∷ word ∷ geometry_part g)
SpellsItem names ws (Host name) = ws ≡ codes "host" ∷ name ∷ []
SpellsItem names ws (Does host d) = (word : List ℕ) × (rest : Words) × IsNameOf names host word × (ws ≡ word ∷ rest) × Spells names rest d
SpellsItem names ws (Step host count) =
    (word : List ℕ) × IsNameOf names host word × (ws ≡ codes "step" ∷ word ∷ decimal count ∷ [])

-- a directive or so many turns
abbrev pub IsOfBody : Item → Type 0
IsOfBody (Volume id g) = ⊥
IsOfBody (Host name) = ⊥
IsOfBody (Does host d) = Unit {0}
IsOfBody (Step host count) = Unit {0}

-- the directive of this host that an item is
abbrev pub directive_of : ℕ → Item → Option Directive
directive_of host (Volume id g) = None
directive_of host (Host name) = None
directive_of host (Does other d) = if nat_eq host other then Some d else None
directive_of host (Step other count) = None

abbrev pub step_of : Item → Option (ℕ × ℕ)
step_of (Volume id g) = None
step_of (Host name) = None
step_of (Does host d) = None
step_of (Step host count) = Some (host, count)

-- The text is this scenario: its lines that aren't passed over are that of the volume, those of the hosts, and then the
-- directives of each host in their order and the `step` lines in theirs.
pub record SpellsText (bytes : List ℕ) (s : Scenario) : Type 0 where
  pub body : List Item
  pub of_body : AllByRecursion IsOfBody body
  pub lines : AllZip (SpellsItem (names_of s.hosts)) (kept_lines bytes)
      (Volume s.volume s.geom ∷ map Host (names_of s.hosts) ++ body)
  pub lists : (host : ℕ) (plan : HostPlan) → slice_get s.hosts host ≡ Some plan → plan.list ≡ filter_map (directive_of host) body
  pub steps : s.steps ≡ filter_map step_of body
  pub is_scenario : IsScenario s
  pub few_bytes : length bytes ≤ most_bytes

-- The text has one line that isn't passed over, and it is that of a volume with this id and this geometry.
pub record SpellsVolume (bytes id : List ℕ) (g : Geom) : Type 0 where
  pub lines : AllZip (SpellsItem []) (kept_lines bytes) (Volume id g ∷ [])
  pub four : HasFourKinds g
  pub geometry : IsGeom g
  pub few_bytes : length bytes ≤ most_bytes
