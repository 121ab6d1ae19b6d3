-- What is wrong with a text of a scenario: the first line that is bad or passes a limit, and why.
use Rattle.std.specs.Prelude.{◌≡◌, ℕ, ◌+◌, ◌<◌, ◌⊎◌, Bool, true, false, not, ◌&&◌, ◌||◌, nat_le, nat_lt, if◌then◌else◌, List, [], ◌∷◌, ◌++◌, length, map, filter, count_by, sum_by, find, take, drop, slice_index_or, codes, Option, Some, None, option_map, is_some}
use Rattle.std.specs.List.{list_any}
use Rattle.std.specs.Option.{option_map_or}
use Rattle.std.specs.Str.{bytes_eq}
use Rattle.uuid.specs.Text.{parsed}
use Rattle.ds_base.specs.declared.geometry.Geom.{Geom}
use Rattle.ds_base.specs.declared.geometry.Kind.{Kind}
use Rattle.ds_base.specs.declared.geometry.Kind.TheVariants.{Fd, Sb, Pb, Fb}
use Rattle.ds_base.specs.declared.geometry.GeomField.{GeomField}
use Rattle.ds_base.specs.declared.geometry.GeomField.TheVariants as fields
use Rattle.ds_base.specs.Geometry.{most_of}
use Rattle.ds_layout.specs.Places.{total_of}
use Rattle.ds_tree.specs.declared.call_kinds.CallKind.{CallKind}
use Rattle.ds_tree.specs.declared.call_kinds.CallKind.TheVariants as kinds
use Rattle.ds_tree.specs.CallKinds.{all_kinds, kind_word}
use Rattle.ds_tree.specs.Lines.{Words, words_of, is_run, is_word, is_comment, kept, is_number, number_of, is_number_in}
use Rattle.ds_tree.specs.Grammar.{most_hosts, most_directives, most_steps, most_turns, most_ticks, is_label, is_reserved}
use Rattle.ds_script.specs.declared.faults.LineFault.{LineFault}
use Rattle.ds_script.specs.declared.faults.LineFault.TheVariants as faults
use Rattle.ds_script.specs.declared.faults.What.{What}
use Rattle.ds_script.specs.declared.faults.What.TheVariants as whats

-- The places of a line.

-- what a word must be at its place in a line
pub data Class : Type 0 where
  Keyword : List ℕ → Class
  AnyWord : Class
  Key : Class
  Variable : Class
  KnownHost : Class
  FreshHost : Class
  PointName : Class
  Landing : Class
  Number : ℕ → ℕ → Class
  Size : GeomField → Class
  Id : Class

-- the words of a line from some place on: no more of them, one of a class and then more, or either no more or these
pub data Shape : Type 0 where
  End : Shape
  Then : Class → Shape → Shape
  Maybe : Shape → Shape

abbrev pub is_among : List ℕ → List (List ℕ) → Bool
is_among w words = list_any (bytes_eq w) words

abbrev pub is_variable : List ℕ → Bool
is_variable w = is_label w && not (bytes_eq w (codes "root"))

abbrev pub point_words : Words
point_words =
    codes "enter" ∷ codes "leave" ∷ codes "beat" ∷ codes "commit" ∷ codes "retire" ∷ codes "read" ∷ codes "lock" ∷ codes "free"
    ∷ codes "index" ∷ codes "place" ∷ codes "break" ∷ codes "clear" ∷ []

-- whether a word may stand where this class is due, and the hosts so far have these names
abbrev pub suits : Words → Class → List ℕ → Bool
suits names (Keyword word) w = bytes_eq w word
suits names AnyWord w = true
suits names Key w = is_label w
suits names Variable w = is_variable w
suits names KnownHost w = is_among w names
suits names FreshHost w = is_label w && not (is_reserved w) && not (is_among w names)
suits names PointName w = is_among w point_words
suits names Landing w = is_among w (codes "landed" ∷ codes "lost" ∷ [])
suits names (Number low high) w = is_number_in low high w
suits names (Size field) w = is_number_in 1 (most_of field) w
suits names Id w = is_some (parsed w)

-- the fault of a word that doesn't suit its place
abbrev pub fault_of : Class → List ℕ → LineFault
fault_of (Keyword word) w = faults.Word
fault_of AnyWord w = faults.Word
fault_of Key w = faults.Variable
fault_of Variable w = faults.Variable
fault_of KnownHost w = faults.Host
fault_of FreshHost w = faults.Host
fault_of PointName w = faults.Point
fault_of Landing w = faults.Word
fault_of (Number low high) w = faults.Number
fault_of (Size field) w = if is_number w then faults.Geom else faults.Number
fault_of Id w = faults.Uuid

-- the first fault, from left to right, of words where this shape is due; a word that can't stand in any line is told at its place
unfoldable pub first_fault : Words → Shape → Words → Option LineFault
first_fault names End [] = None
first_fault names End (w ∷ ws) = if is_word w then Some faults.Count else Some faults.Word
first_fault names (Then class more) [] = Some faults.Count
first_fault names (Then class more) (w ∷ ws) =
    if not (is_word w) then Some faults.Word
    else if suits names class w then first_fault names more ws
    else Some (fault_of class w)
first_fault names (Maybe more) [] = None
first_fault names (Maybe more) (w ∷ ws) = first_fault names more (w ∷ ws)

-- The shapes of lines.

-- a first word, and the shape of the words after it
pub record Row : Type 0 where
  pub word : List ℕ
  pub shape : Shape

abbrev pub row : List ℕ → Shape → Row
row word shape = record { word = word; shape = shape }

abbrev pub named : Shape → Shape
named more = Then Key (Then AnyWord more)

-- a name in a directory, and a variable for the key if wanted
abbrev pub binding : Shape
binding = named (Maybe (Then (Keyword (codes "as")) (Then Variable End)))

-- any number of four bytes
abbrev pub count : Class
count = Number 0 4294967295

-- a host, and the number of one of its directives
abbrev pub awaited : Shape
awaited = Then KnownHost (Then (Number 1 most_directives) End)

-- the words behind that of a call
abbrev pub call_shape : CallKind → Shape
call_shape kinds.Register = End
call_shape kinds.Unregister = End
call_shape kinds.Beat = End
call_shape kinds.Scan = End
call_shape kinds.Mkdir = binding
call_shape kinds.Create = binding
call_shape kinds.Lookup = binding
call_shape kinds.List = Then Key (Maybe (Then (Keyword (codes "after")) (Then AnyWord End)))
call_shape kinds.Stat = Then Key End
call_shape kinds.Map = Then Key (Then count End)
call_shape kinds.Resize = Then Key (Then count End)
call_shape kinds.Remove = named End
call_shape kinds.Rmdir = named End
call_shape kinds.Rename = named (named End)
call_shape kinds.Open = Then Key End
call_shape kinds.Close = Then Key End
call_shape kinds.Put = Then Key (Then count (Then (Number 0 255) End))
call_shape kinds.Get = Then Key (Then count End)

-- the directives that are calls
abbrev pub call_rows : List Row
call_rows = map (λ kind. row (kind_word kind) (call_shape kind)) all_kinds

-- those that are about the next call
abbrev pub arming_rows : List Row
arming_rows =
    row (codes "hold") (Then PointName awaited)
    ∷ row (codes "crash") (Then PointName End)
    ∷ row (codes "fail") (Then PointName (Then Landing End))
    ∷ []

abbrev pub other_rows : List Row
other_rows =
    row (codes "tick") (Then (Number 1 most_ticks) End)
    ∷ row (codes "wait") awaited
    ∷ row (codes "die") End
    ∷ row (codes "return") End
    ∷ []

abbrev pub directive_rows : List Row
directive_rows = call_rows ++ arming_rows ++ other_rows

-- a keyword, and the two sizes of a kind
abbrev pub kind_shape : List ℕ → Kind → Shape → Shape
kind_shape word kind more = Then (Keyword word) (Then (Size (fields.Clusters kind)) (Then (Size (fields.Items kind)) more))

-- the words of a volume line behind the first
abbrev pub volume_shape : Shape
volume_shape =
    Then Id (Then (Keyword (codes "slots")) (Then (Size fields.Slots) (Then (Keyword (codes "block")) (Then (Size fields.Block)
    (kind_shape (codes "fd") Fd (kind_shape (codes "sb") Sb (kind_shape (codes "pb") Pb (kind_shape (codes "fb") Fb End))))))))

abbrev pub host_shape : Shape
host_shape = Then FreshHost End

abbrev pub step_shape : Shape
step_shape = Then KnownHost (Then (Number 1 most_turns) End)

-- The causes of a line.

abbrev pub begins_with : List ℕ → Words → Bool
begins_with word [] = false
begins_with word (w ∷ ws) = bytes_eq w word

abbrev pub is_host_line : Words → Bool
is_host_line ws = begins_with (codes "host") ws

abbrev pub is_step_line : Words → Bool
is_step_line ws = begins_with (codes "step") ws

-- a line that begins with the name of a host
abbrev pub is_directive_line : Words → Bool
is_directive_line [] = false
is_directive_line (w ∷ ws) = not (is_reserved w)

abbrev pub is_body_line : Words → Bool
is_body_line ws = is_step_line ws || is_directive_line ws

abbrev pub word_at : Words → ℕ → List ℕ
word_at ws i = slice_index_or ws i []

-- the names of the hosts that these lines declare
abbrev pub names_in : List Words → Words
names_in before = map (λ ws. word_at ws 1) (filter is_host_line before)

-- the first fault of words where a directive is due
abbrev pub directive_fault : Words → Words → Option LineFault
directive_fault names [] = Some faults.Count
directive_fault names (w ∷ ws) =
    if not (is_word w) then Some faults.Word
    else option_map_or (λ r. first_fault names r.shape ws) (find (λ r. bytes_eq w r.word) directive_rows) (Some faults.Word)

-- the first fault of the words of a line behind these lines, from left to right
abbrev pub line_fault : List Words → Words → Option LineFault
line_fault before [] = None
line_fault [] (w ∷ ws) =
    if not (is_word w) then Some faults.Word
    else if bytes_eq w (codes "volume") then first_fault [] volume_shape ws
    else Some faults.Volume
line_fault (first ∷ before) (w ∷ ws) =
    if not (is_word w) then Some faults.Word
    else if bytes_eq w (codes "volume") then Some faults.Volume
    else if bytes_eq w (codes "host") then (if list_any is_body_line before then Some faults.Host else first_fault (names_in before) host_shape ws)
    else if bytes_eq w (codes "step") then first_fault (names_in before) step_shape ws
    else if is_among w (names_in before) then directive_fault (names_in before) ws
    else Some faults.Host

abbrev pub is_first_of : List Row → List ℕ → Bool
is_first_of rows w = list_any (λ r. bytes_eq w r.word) rows

-- whether the line is a directive about its host's next call
abbrev pub is_arming_line : Words → Bool
is_arming_line ws = is_directive_line ws && is_first_of arming_rows (word_at ws 1)

-- whether the next of these lines whose first word is this host has the word of a call as its second, whatever else stands
-- in any of them
abbrev pub is_armed : List ℕ → List (List ℕ) → Bool
is_armed host behind =
    option_map_or (λ ws. is_first_of call_rows (word_at ws 1)) (find (begins_with host) (map (filter is_run) (kept behind))) false

-- the cause for which a line is bad, where these lines that aren't passed over stand before it and these lines follow: the first
-- fault of its words, and only then the want of a call
abbrev pub cause_of : List Words → Words → List (List ℕ) → Option LineFault
cause_of before ws behind =
    option_map_or (λ why. Some why)
    (line_fault before ws)
    (if is_arming_line ws && not (is_armed (word_at ws 0) behind) then Some faults.Arm else None)

-- The limits.

-- the most sectors of a volume
abbrev pub most_sectors : ℕ
most_sectors = 131072

abbrev pub number_at : Words → ℕ → ℕ
number_at ws i = number_of (word_at ws i)

-- the geometry of a volume line
abbrev pub geometry_of : Words → Geom
geometry_of ws =
    record {
      slots = number_at ws 3;
      block = number_at ws 5;
      clusters = number_at ws 7 ∷ number_at ws 10 ∷ number_at ws 13 ∷ number_at ws 16 ∷ [];
      items = number_at ws 8 ∷ number_at ws 11 ∷ number_at ws 14 ∷ number_at ws 17 ∷ [];
    }

-- the turns of a host that a line asks for
abbrev pub turns_of : Words → ℕ
turns_of ws = if is_step_line ws then number_at ws 2 else 0

-- the limit that a line passes which is good in itself, where these lines stand before it
abbrev pub limit_passed : List Words → Words → Option What
limit_passed [] ws = if nat_lt most_sectors (total_of (geometry_of ws)) then Some whats.Volume else None
limit_passed (first ∷ before) ws =
    if is_host_line ws && nat_le most_hosts (count_by is_host_line before) then Some whats.Hosts
    else if is_directive_line ws && nat_le most_directives (count_by is_directive_line before) then Some whats.Directives
    else if is_step_line ws && nat_lt most_steps (sum_by turns_of before + turns_of ws) then Some whats.Steps
    else None

-- The first line that can't stand.

-- why a line can't stand
pub data Trouble : Type 0 where
  Bad : LineFault → Trouble
  Large : What → Trouble

-- why the words of a line can't stand between these lines that aren't passed over and these that follow
abbrev pub Judge : Type 0
Judge = List Words → Words → List (List ℕ) → Option Trouble

-- in a scenario: it is bad, or else it passes a limit
abbrev pub in_scenario : Judge
in_scenario before ws behind =
    option_map_or (λ why. Some (Bad why)) (cause_of before ws behind) (option_map Large (limit_passed before ws))

-- in a text of one volume line: the same for that line, and any line behind it is bad
abbrev pub in_volume : Judge
in_volume [] ws behind = in_scenario [] ws behind
in_volume (first ∷ before) ws behind = Some (Bad faults.Volume)

-- why the line at this index can't stand; one that is passed over always can
abbrev pub trouble_at : Judge → List (List ℕ) → ℕ → Option Trouble
trouble_at judge lines k =
    let ws = words_of (slice_index_or lines k []) in
    if is_comment ws then None else judge (kept (take k lines)) ws (drop (k + 1) lines)

-- this line is the first that can't stand, for this cause
pub record IsFirst (judge : Judge) (lines : List (List ℕ)) (k : ℕ) (trouble : Trouble) : Type 0 where
  pub stands_not : trouble_at judge lines k ≡ Some trouble
  pub first : (other : ℕ) → other < k → trouble_at judge lines other ≡ None

-- all lines are passed over, so the volume line is wanting at their end
pub record LacksVolume (lines : List (List ℕ)) (number : ℕ) (why : LineFault) : Type 0 where
  pub none : kept lines ≡ []
  pub at_end : number ≡ length lines + 1
  pub volume : why ≡ faults.Volume

-- the line with this number is the first bad one, for this cause; lines are counted from 1
abbrev pub IsFirstBad : Judge → List (List ℕ) → ℕ → LineFault → Type 0
IsFirstBad judge lines number why =
    ((k : ℕ) × (number ≡ k + 1) × IsFirst judge lines k (Bad why)) ⊎ LacksVolume lines number why

-- the first line that can't stand passes this limit
abbrev pub PassesLimit : Judge → List (List ℕ) → What → Type 0
PassesLimit judge lines what = (k : ℕ) × IsFirst judge lines k (Large what)
