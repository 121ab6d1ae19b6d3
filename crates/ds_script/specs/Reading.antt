-- How the lines of a scenario are read: each reader takes what it reads from the front of the words of a line, and leaves the
-- words behind it, or tells the first fault.
use Rattle.std.specs.Prelude.{ℕ, zero, suc, ◌+◌, Bool, true, false, not, ◌&&◌, ◌||◌, nat_le, nat_lt, if◌then◌else◌, List, [], ◌∷◌, ◌++◌, length, sum_by, position, find, codes, Option, Some, None, Result, Ok, Err}
use Rattle.std.specs.Option.{option_map_or}
use Rattle.std.specs.Str.{bytes_eq}
use Rattle.uuid.specs.Text.{parsed}
use Rattle.ds_base.specs.declared.geometry.Geom.{Geom}
use Rattle.ds_base.specs.declared.geometry.Kind.{Kind}
use Rattle.ds_base.specs.declared.geometry.Kind.TheVariants.{Fd, Sb, Pb, Fb}
use Rattle.ds_base.specs.declared.geometry.GeomField.{GeomField}
use Rattle.ds_base.specs.declared.geometry.GeomField.TheVariants as fields
use Rattle.ds_base.specs.Geometry.{most_of}
use Rattle.ds_layout.specs.Places.{total_of}
use Rattle.ds_tree.specs.declared.call_kinds.CallKind.{CallKind}
use Rattle.ds_tree.specs.declared.call_kinds.CallKind.TheVariants as kinds
use Rattle.ds_tree.specs.declared.calls.CallOf.{CallOf}
use Rattle.ds_tree.specs.declared.calls.CallOf.TheVariants as calls
use Rattle.ds_tree.specs.declared.calls.HostCallOf.{HostCallOf}
use Rattle.ds_tree.specs.declared.calls.HostCallOf.TheVariants as host_calls
use Rattle.ds_tree.specs.declared.scenarios.Directive.{Directive}
use Rattle.ds_tree.specs.declared.scenarios.Directive.TheVariants as directives
use Rattle.ds_tree.specs.declared.scenarios.HostPlan.{HostPlan}
use Rattle.ds_tree.specs.declared.scenarios.Point.{Point}
use Rattle.ds_tree.specs.declared.scenarios.Point.TheVariants as points
use Rattle.ds_tree.specs.declared.scenarios.Scenario.{Scenario}
use Rattle.ds_tree.specs.declared.variables.Spoken.{Spoken}
use Rattle.ds_tree.specs.declared.variables.Spoken.TheVariants.{Root, Var}
use Rattle.ds_tree.specs.CallKinds.{kind_named}
use Rattle.ds_tree.specs.Lines.{Words, lines_of, words_of, is_word, is_comment, is_number, number_of, is_number_in}
use Rattle.ds_tree.specs.Grammar.{most_bytes, most_hosts, most_directives, most_steps, most_turns, most_ticks, point_word, is_arming, is_label, is_reserved, names_of, Item, Volume, Host, Does, Step}
use Rattle.ds_script.specs.declared.faults.LineFault.{LineFault}
use Rattle.ds_script.specs.declared.faults.LineFault.TheVariants as faults
use Rattle.ds_script.specs.declared.faults.ScriptFault.{ScriptFault}
use Rattle.ds_script.specs.declared.faults.ScriptFault.TheVariants.{BadLine, TooLarge}
use Rattle.ds_script.specs.declared.faults.What.{What}
use Rattle.ds_script.specs.declared.faults.What.TheVariants as whats
use Rattle.ds_script.specs.Faults.{is_among, is_variable, is_armed, most_sectors}

infixl 10 ◌>>=◌
abbrev pub ◌>>=◌ : {F A B : Type 0} → Result A F → (A → Result B F) → Result B F
Ok x >>= f = f x
Err e >>= f = Err e

-- what is left of a fault of the words, or what was read
abbrev pub Reads : Type 0 → Type 0
Reads A = Result A LineFault

-- what was read from the front of some words, and the words behind it
abbrev pub Reader : Type 0 → Type 0
Reader A = Words → Reads (A × Words)

abbrev pub bad : {A : Type 0} → LineFault → Reads A
bad why = Err why

-- The fields of a line.

unfoldable pub word_at : Reader (List ℕ)
word_at [] = Err faults.Count
word_at (w ∷ ws) = if is_word w then Ok (w, ws) else Err faults.Word

-- what was read, where no words are left
unfoldable pub end_at : {A : Type 0} → A → Words → Reads A
end_at x [] = Ok x
end_at x (w ∷ ws) = if is_word w then Err faults.Count else Err faults.Word

-- the words behind a keyword
unfoldable pub keyword_at : List ℕ → Words → Reads Words
keyword_at word ws = do
  w ← word_at ws
  if bytes_eq w.0 word then Ok w.1 else Err faults.Word

unfoldable pub number_at : ℕ → ℕ → Reader ℕ
number_at low high ws = do
  w ← word_at ws
  if is_number_in low high w.0 then Ok (number_of w.0, w.1) else Err faults.Number

-- a number of four bytes
abbrev pub count_at : Reader ℕ
count_at ws = number_at 0 4294967295 ws

unfoldable pub key_at : Reader Spoken
key_at ws = do
  w ← word_at ws
  if bytes_eq w.0 (codes "root") then Ok (Root, w.1)
      else if is_variable w.0 then Ok (Var w.0, w.1)
      else Err faults.Variable

unfoldable pub variable_at : Reader (List ℕ)
variable_at ws = do
  w ← word_at ws
  if is_variable w.0 then Ok (w.0, w.1) else Err faults.Variable

-- the number of the host with this name
abbrev pub host_named : Words → List ℕ → Option ℕ
host_named names w = position (bytes_eq w) names

unfoldable pub host_at : Words → Reader ℕ
host_at names ws = do
  w ← word_at ws
  option_map_or (λ host. Ok (host, w.1)) (host_named names w.0) (Err faults.Host)

-- a host's name that isn't taken
unfoldable pub fresh_host_at : Words → Reader (List ℕ)
fresh_host_at names ws = do
  w ← word_at ws
  if is_label w.0 && not (is_reserved w.0) && not (is_among w.0 names) then Ok (w.0, w.1) else Err faults.Host

abbrev pub all_points : List Point
all_points =
    points.Enter ∷ points.Leave ∷ points.Beat ∷ points.Commit ∷ points.Retire ∷ points.Read ∷ points.Lock ∷ points.Free
    ∷ points.Index ∷ points.Place ∷ points.Break ∷ points.Clear ∷ []

unfoldable pub point_named : List ℕ → Option Point
point_named w = find (λ p. bytes_eq w (point_word p)) all_points

unfoldable pub point_at : Reader Point
point_at ws = do
  w ← word_at ws
  option_map_or (λ point. Ok (point, w.1)) (point_named w.0) (Err faults.Point)

-- whether a fault comes with its command's effect
unfoldable pub landing_at : Reader Bool
landing_at ws = do
  w ← word_at ws
  if bytes_eq w.0 (codes "landed") then Ok (true, w.1)
      else if bytes_eq w.0 (codes "lost") then Ok (false, w.1)
      else Err faults.Word

-- the variable that takes the key, if words are left
unfoldable pub as_at : Reader (Option (List ℕ))
as_at [] = Ok (None, [])
as_at (w ∷ ws) = do
  behind ← keyword_at (codes "as") (w ∷ ws)
  name ← variable_at behind
  Ok (Some name.0, name.1)

-- the word behind which a list begins, if words are left
unfoldable pub after_at : Reader (Option (List ℕ))
after_at [] = Ok (None, [])
after_at (w ∷ ws) = do
  behind ← keyword_at (codes "after") (w ∷ ws)
  name ← word_at behind
  Ok (Some name.0, name.1)

-- a size of the geometry
unfoldable pub size_at : GeomField → Reader ℕ
size_at field ws = do
  w ← word_at ws
  if is_number_in 1 (most_of field) w.0 then Ok (number_of w.0, w.1)
      else if is_number w.0 then Err faults.Geom
      else Err faults.Number

unfoldable pub id_at : Reader (List ℕ)
id_at ws = do
  w ← word_at ws
  option_map_or (λ id. Ok (id, w.1)) (parsed w.0) (Err faults.Uuid)

-- The directives: each from the words behind its first.

-- the directive of a call whose reply binds no variable
abbrev pub unbound : HostCallOf Spoken → Directive
unbound call = directives.Call call None

-- the same of a call on the tree, and of one whose reply may bind one
abbrev pub on_tree : CallOf Spoken → Directive
on_tree call = unbound (host_calls.Tree call)

abbrev pub binding_on_tree : CallOf Spoken → Option (List ℕ) → Directive
binding_on_tree call bind = directives.Call (host_calls.Tree call) bind

unfoldable pub register_at : Words → Reads Directive
register_at ws = end_at (unbound host_calls.Register) ws

unfoldable pub unregister_at : Words → Reads Directive
unregister_at ws = end_at (unbound host_calls.Unregister) ws

unfoldable pub beat_at : Words → Reads Directive
beat_at ws = end_at (unbound host_calls.Beat) ws

unfoldable pub scan_at : Words → Reads Directive
scan_at ws = end_at (unbound host_calls.Scan) ws

unfoldable pub mkdir_at : Words → Reads Directive
mkdir_at ws = do
  dir ← key_at ws
  name ← word_at dir.1
  bind ← as_at name.1
  end_at (binding_on_tree (calls.Mkdir dir.0 name.0) bind.0) bind.1

unfoldable pub create_at : Words → Reads Directive
create_at ws = do
  dir ← key_at ws
  name ← word_at dir.1
  bind ← as_at name.1
  end_at (binding_on_tree (calls.Create dir.0 name.0) bind.0) bind.1

unfoldable pub lookup_at : Words → Reads Directive
lookup_at ws = do
  dir ← key_at ws
  name ← word_at dir.1
  bind ← as_at name.1
  end_at (binding_on_tree (calls.Lookup dir.0 name.0) bind.0) bind.1

unfoldable pub list_at : Words → Reads Directive
list_at ws = do
  dir ← key_at ws
  after ← after_at dir.1
  end_at (on_tree (calls.List dir.0 after.0)) after.1

unfoldable pub stat_at : Words → Reads Directive
stat_at ws = do
  key ← key_at ws
  end_at (on_tree (calls.Stat key.0)) key.1

unfoldable pub map_at : Words → Reads Directive
map_at ws = do
  file ← key_at ws
  page ← count_at file.1
  end_at (on_tree (calls.Map file.0 page.0)) page.1

unfoldable pub resize_at : Words → Reads Directive
resize_at ws = do
  file ← key_at ws
  blocks ← count_at file.1
  end_at (on_tree (calls.Resize file.0 blocks.0)) blocks.1

unfoldable pub remove_at : Words → Reads Directive
remove_at ws = do
  dir ← key_at ws
  name ← word_at dir.1
  end_at (on_tree (calls.Remove dir.0 name.0)) name.1

unfoldable pub rmdir_at : Words → Reads Directive
rmdir_at ws = do
  dir ← key_at ws
  name ← word_at dir.1
  end_at (on_tree (calls.Rmdir dir.0 name.0)) name.1

unfoldable pub rename_at : Words → Reads Directive
rename_at ws = do
  dir ← key_at ws
  name ← word_at dir.1
  to ← key_at name.1
  fresh ← word_at to.1
  end_at (on_tree (calls.Rename dir.0 name.0 to.0 fresh.0)) fresh.1

unfoldable pub open_at : Words → Reads Directive
open_at ws = do
  file ← key_at ws
  end_at (on_tree (calls.OpenFile file.0)) file.1

unfoldable pub close_at : Words → Reads Directive
close_at ws = do
  file ← key_at ws
  end_at (unbound (host_calls.Close file.0)) file.1

unfoldable pub put_at : Words → Reads Directive
put_at ws = do
  file ← key_at ws
  sector ← count_at file.1
  fill ← number_at 0 255 sector.1
  end_at (unbound (host_calls.Put file.0 sector.0 fill.0)) fill.1

unfoldable pub get_at : Words → Reads Directive
get_at ws = do
  file ← key_at ws
  sector ← count_at file.1
  end_at (unbound (host_calls.Get file.0 sector.0)) sector.1

-- a host, and the number of one of its directives
unfoldable pub awaited_at : Words → Reader (ℕ × ℕ)
awaited_at names ws = do
  host ← host_at names ws
  directive ← number_at 1 most_directives host.1
  Ok ((host.0, directive.0), directive.1)

unfoldable pub hold_at : Words → Words → Reads Directive
hold_at names ws = do
  point ← point_at ws
  awaited ← awaited_at names point.1
  end_at (directives.Hold point.0 awaited.0.0 awaited.0.1) awaited.1

unfoldable pub crash_at : Words → Reads Directive
crash_at ws = do
  point ← point_at ws
  end_at (directives.Crash point.0) point.1

unfoldable pub fail_at : Words → Reads Directive
fail_at ws = do
  point ← point_at ws
  landed ← landing_at point.1
  end_at (directives.Fail point.0 landed.0) landed.1

unfoldable pub tick_at : Words → Reads Directive
tick_at ws = do
  ticks ← number_at 1 most_ticks ws
  end_at (directives.Tick ticks.0) ticks.1

unfoldable pub wait_at : Words → Words → Reads Directive
wait_at names ws = do
  awaited ← awaited_at names ws
  end_at (directives.Wait awaited.0.0 awaited.0.1) awaited.1

unfoldable pub die_at : Words → Reads Directive
die_at ws = end_at directives.Die ws

unfoldable pub return_at : Words → Reads Directive
return_at ws = end_at directives.Return ws

-- a directive by its first word
unfoldable pub other_named : Words → List ℕ → Words → Reads Directive
other_named names w ws =
    if bytes_eq w (codes "tick") then tick_at ws
    else if bytes_eq w (codes "wait") then wait_at names ws
    else if bytes_eq w (codes "die") then die_at ws
    else if bytes_eq w (codes "return") then return_at ws
    else Err faults.Word

unfoldable pub arming_named : Words → List ℕ → Words → Reads Directive
arming_named names w ws =
    if bytes_eq w (codes "hold") then hold_at names ws
    else if bytes_eq w (codes "crash") then crash_at ws
    else if bytes_eq w (codes "fail") then fail_at ws
    else other_named names w ws

-- a call by its kind
unfoldable pub call_at : CallKind → Words → Reads Directive
call_at kinds.Register ws = register_at ws
call_at kinds.Unregister ws = unregister_at ws
call_at kinds.Beat ws = beat_at ws
call_at kinds.Scan ws = scan_at ws
call_at kinds.Mkdir ws = mkdir_at ws
call_at kinds.Create ws = create_at ws
call_at kinds.Lookup ws = lookup_at ws
call_at kinds.List ws = list_at ws
call_at kinds.Stat ws = stat_at ws
call_at kinds.Map ws = map_at ws
call_at kinds.Resize ws = resize_at ws
call_at kinds.Remove ws = remove_at ws
call_at kinds.Rmdir ws = rmdir_at ws
call_at kinds.Rename ws = rename_at ws
call_at kinds.Open ws = open_at ws
call_at kinds.Close ws = close_at ws
call_at kinds.Put ws = put_at ws
call_at kinds.Get ws = get_at ws

unfoldable pub directive_named : Words → List ℕ → Words → Reads Directive
directive_named names w ws = option_map_or (λ kind. call_at kind ws) (kind_named w) (arming_named names w ws)

unfoldable pub directive_at : Words → Words → Reads Directive
directive_at names ws = do
  w ← word_at ws
  directive_named names w.0 w.1

-- The lines: each from the words behind its first.

-- a keyword, and the size that it names
unfoldable pub named_size_at : List ℕ → GeomField → Reader ℕ
named_size_at word field ws = do
  behind ← keyword_at word ws
  size_at field behind

-- the clusters of a kind, and the items of each
unfoldable pub kind_at : List ℕ → Kind → Reader (ℕ × ℕ)
kind_at word kind ws = do
  clusters ← named_size_at word (fields.Clusters kind) ws
  items ← size_at (fields.Items kind) clusters.1
  Ok ((clusters.0, items.0), items.1)

unfoldable pub geometry_at : Words → Reads Geom
geometry_at ws = do
  slots ← named_size_at (codes "slots") fields.Slots ws
  block ← named_size_at (codes "block") fields.Block slots.1
  fd ← kind_at (codes "fd") Fd block.1
  sb ← kind_at (codes "sb") Sb fd.1
  pb ← kind_at (codes "pb") Pb sb.1
  fb ← kind_at (codes "fb") Fb pb.1
  end_at
      (record {
        slots = slots.0;
        block = block.0;
        clusters = fd.0.0 ∷ sb.0.0 ∷ pb.0.0 ∷ fb.0.0 ∷ [];
        items = fd.0.1 ∷ sb.0.1 ∷ pb.0.1 ∷ fb.0.1 ∷ [];
      })
      fb.1

unfoldable pub volume_at : Words → Reads (List ℕ × Geom)
volume_at ws = do
  id ← id_at ws
  geom ← geometry_at id.1
  Ok (id.0, geom)

-- the first line that isn't passed over
unfoldable pub volume_line_at : Words → Reads (List ℕ × Geom)
volume_line_at ws = do
  w ← word_at ws
  if bytes_eq w.0 (codes "volume") then volume_at w.1 else Err faults.Volume

unfoldable pub host_line_at : Words → Words → Reads Item
host_line_at names ws = do
  name ← fresh_host_at names ws
  end_at (Host name.0) name.1

unfoldable pub step_at : Words → Words → Reads Item
step_at names ws = do
  host ← host_at names ws
  count ← number_at 1 most_turns host.1
  end_at (Step host.0 count.0) count.1

-- a directive of the host with this name
unfoldable pub does_at : Words → List ℕ → Words → Reads Item
does_at names w ws =
    option_map_or
    (λ host. do
      directive ← directive_at names ws
      Ok (Does host directive))
    (host_named names w)
    (Err faults.Host)

-- a host's line is bad where a directive or a `step` line has come before
abbrev pub host_line_after : Bool → Words → Words → Reads Item
host_line_after begun names ws = if begun then Err faults.Host else host_line_at names ws

-- a later line, where the hosts so far have these names, and a directive or a `step` line has come before or not
unfoldable pub item_at : Words → Bool → Words → Reads Item
item_at names begun ws = do
  w ← word_at ws
  if bytes_eq w.0 (codes "volume") then Err faults.Volume
      else if bytes_eq w.0 (codes "host") then host_line_after begun names w.1
      else if bytes_eq w.0 (codes "step") then step_at names w.1
      else does_at names w.0 w.1

-- The text.

abbrev pub count_of_directives : Scenario → ℕ
count_of_directives s = sum_by (λ plan. length plan.list) s.hosts

abbrev pub count_of_turns : Scenario → ℕ
count_of_turns s = sum_by (λ step. step.1) s.steps

-- whether a directive or a `step` line has come
abbrev pub is_begun : Scenario → Bool
is_begun s = nat_lt 0 (count_of_directives s) || nat_lt 0 (length s.steps)

-- the limit that one item more passes
abbrev pub limit_at : Scenario → Item → Option What
limit_at s (Volume id geom) = None
limit_at s (Host name) = if nat_le most_hosts (length s.hosts) then Some whats.Hosts else None
limit_at s (Does host d) = if nat_le most_directives (count_of_directives s) then Some whats.Directives else None
limit_at s (Step host count) = if nat_lt most_steps (count_of_turns s + count) then Some whats.Steps else None

-- one directive more for the host with this number
abbrev pub with_directive : List HostPlan → ℕ → Directive → List HostPlan
with_directive [] host d = []
with_directive (plan ∷ plans) zero d = record plan { list = plan.list ++ d ∷ [] } ∷ plans
with_directive (plan ∷ plans) (suc host) d = plan ∷ with_directive plans host d

-- one item more
abbrev pub with_item : Scenario → Item → Scenario
with_item s (Volume id geom) = s
with_item s (Host name) = record s { hosts = s.hosts ++ record { name = name; list = [] } ∷ [] }
with_item s (Does host d) = record s { hosts = with_directive s.hosts host d }
with_item s (Step host count) = record s { steps = s.steps ++ (host, count) ∷ [] }

-- whether an item is a directive that these lines behind it leave without a call
abbrev pub is_unarmed : Item → Words → List (List ℕ) → Bool
is_unarmed (Volume id geom) ws behind = false
is_unarmed (Host name) ws behind = false
is_unarmed (Does host d) [] behind = false
is_unarmed (Does host d) (w ∷ ws) behind = is_arming d && not (is_armed w behind)
is_unarmed (Step host count) ws behind = false

-- what was read of the line with this number
abbrev pub on_line : {A : Type 0} → ℕ → Reads A → Result A ScriptFault
on_line number (Ok x) = Ok x
on_line number (Err why) = Err (BadLine number why)

-- one line more, with these words, before these lines
unfoldable pub line_read : Scenario → ℕ → Words → List (List ℕ) → Result Scenario ScriptFault
line_read s number ws behind = do
  item ← on_line number (item_at (names_of s.hosts) (is_begun s) ws)
  if is_unarmed item ws behind then Err (BadLine number faults.Arm)
      else option_map_or (λ what. Err (TooLarge what)) (limit_at s item) (Ok (with_item s item))

-- the lines behind the volume line; the first has this number
unfoldable pub read_from : Scenario → ℕ → List (List ℕ) → Result Scenario ScriptFault
read_from s number [] = Ok s
read_from s number (line ∷ behind) =
    if is_comment (words_of line) then read_from s (number + 1) behind
    else line_read s number (words_of line) behind >>= (λ next. read_from next (number + 1) behind)

-- the volume line, where it is the line with this number
unfoldable pub volume_read : ℕ → Words → Result (List ℕ × Geom) ScriptFault
volume_read number ws = do
  volume ← on_line number (volume_line_at ws)
  if nat_lt most_sectors (total_of volume.1) then Err (TooLarge whats.Volume) else Ok volume

-- what a text has at first: the volume line, and the lines behind it, the first of which has this number
unfoldable pub first_read : ℕ → List (List ℕ) → Result ((List ℕ × Geom) × ℕ × List (List ℕ)) ScriptFault
first_read number [] = Err (BadLine number faults.Volume)
first_read number (line ∷ behind) =
    if is_comment (words_of line) then first_read (number + 1) behind
    else volume_read number (words_of line) >>= (λ volume. Ok (volume, number + 1, behind))

abbrev pub scenario_of : List ℕ × Geom → Scenario
scenario_of volume = record { volume = volume.0; geom = volume.1; hosts = []; steps = [] }

-- a text as a scenario
unfoldable pub text_read : List ℕ → Result Scenario ScriptFault
text_read bytes = do
  first ← first_read 1 (lines_of bytes)
  read_from (scenario_of first.0) first.1 first.2

-- no line of these that isn't passed over; the first has this number
unfoldable pub none_read : ℕ → List (List ℕ) → Result Unit ScriptFault
none_read number [] = Ok tt
none_read number (line ∷ behind) =
    if is_comment (words_of line) then none_read (number + 1) behind else Err (BadLine number faults.Volume)

-- a volume, where there is none of these lines
abbrev pub only_volume_read : List ℕ × Geom → ℕ → List (List ℕ) → Result (List ℕ × Geom) ScriptFault
only_volume_read volume number lines = none_read number lines >>= (λ none. Ok volume)

-- a text as one volume line
unfoldable pub volume_text_read : List ℕ → Result (List ℕ × Geom) ScriptFault
volume_text_read bytes = do
  first ← first_read 1 (lines_of bytes)
  only_volume_read first.0 first.1 first.2

-- where there aren't too many bytes
abbrev pub within_bytes : {A : Type 0} → List ℕ → Result A ScriptFault → Result A ScriptFault
within_bytes bytes read = if nat_lt most_bytes (length bytes) then Err (TooLarge whats.Bytes) else read
