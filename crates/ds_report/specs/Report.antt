-- The report of a run: a part for each event, the number of changes, and the listing of the file tree.
use Rattle.std.specs.Prelude.{ℕ, ◌+◌, ◌==◌, if◌then◌else◌, List, [], ◌++◌, filter, take, reverse, codes, decimal, slice_get, slice_index, Option, Some, None}
use Rattle.std.specs.List.{flat_map, filter_map, enumerate_from}
use Rattle.ds_base.specs.declared.commands.Command.TheVariants.{Read}
use Rattle.ds_base.specs.declared.commands.Response.TheVariants.{Got}
use Rattle.ds_conduct.specs.declared.answers.HostAnswer.{HostAnswer}
use Rattle.ds_conduct.specs.declared.answers.HostAnswer.TheVariants as answers
use Rattle.ds_tree.specs.declared.calls.TreeReply.TheVariants as replies
use Rattle.ds_tree.specs.declared.calls.HostCallOf.TheVariants as host_calls
use Rattle.ds_tree.specs.declared.scenarios.Directive.{Directive}
use Rattle.ds_tree.specs.declared.scenarios.Directive.TheVariants as directives
use Rattle.ds_tree.specs.declared.scenarios.Scenario.{Scenario}
use Rattle.ds_text.specs.Lines.{line}
use Rattle.ds_tree.specs.CallKinds.{call_word}
use Rattle.ds_tree.specs.Nodes.{FileTree}
use Rattle.ds_log.specs.declared.logs.Event.{Event}
use Rattle.ds_log.specs.declared.logs.Reply.{Reply}
use Rattle.ds_log.specs.declared.logs.Step.{Step}
use Rattle.ds_log.specs.declared.logs.Step.TheVariants.{Sent}
use Rattle.ds_log.specs.Follows.{is_event_of}
use Rattle.ds_log.specs.Store.{change_count}
use Rattle.ds_log.specs.Scripts.{directive_at}
use Rattle.ds_report.specs.Answers.{answer_text, item_text, place_text}
use Rattle.ds_report.specs.Hosts.{host_name}
use Rattle.ds_report.specs.Slots.{slot_line}
use Rattle.ds_report.specs.Listing.{listing_of}

-- the first word of a call's directive; only calls are answered
abbrev pub word_of : Option Directive → List ℕ
word_of (Some (directives.Call call bind)) = call_word call
word_of _ = []

-- the first byte that an event of this directive read, if it read a sector
abbrev pub byte_of : ℕ → ℕ → Event → Option ℕ
byte_of host directive e = if is_event_of host directive e then byte_got e.step else None where
  byte_got : Step → Option ℕ
  byte_got (Sent under (Read at) (Got sector) landed took) = Some (slice_index sector.bytes 0)
  byte_got _ = None

-- the first byte that the last Read of this directive gave
abbrev pub byte_read : List Event → ℕ → ℕ → Option ℕ
byte_read events host directive = slice_get (filter_map (byte_of host directive) (reverse events)) 0

-- the byte that was read for a block, after a blank; no other answer tells one
abbrev pub got_text : HostAnswer → Option ℕ → List ℕ
got_text (answers.Tree (replies.AtBlock block)) (Some byte) = item_text byte
got_text _ _ = []

-- the byte that a `get` read; no other directive tells one
abbrev pub read_text : Option Directive → List Event → Reply → List ℕ
read_text (Some (directives.Call (host_calls.Get file sector) bind)) past r = got_text r.answer (byte_read past r.host r.directive)
read_text _ past r = []

-- the host, the number and the first word of a directive, each with a blank after it
abbrev pub directive_text : List ℕ → ℕ → Option Directive → List ℕ
directive_text host number directive = host ++ codes " " ++ decimal number ++ codes " " ++ word_of directive ++ codes " "

-- the answer, the byte that was read if one is told, and the place if it has one
abbrev pub outcome_text : Option Directive → List Event → Reply → List ℕ
outcome_text directive past r = answer_text r.answer ++ read_text directive past r ++ place_text r.answer r.place

-- the line of a reply to its directive, with the events up to the reply
abbrev pub answered_line : List ℕ → Option Directive → List Event → Reply → List ℕ
answered_line host directive past r = line (directive_text host r.directive directive ++ outcome_text directive past r)

abbrev pub reply_line : Scenario → List Event → Reply → List ℕ
reply_line s past r = answered_line (host_name s r.host) (directive_at s r.host r.directive) past r

abbrev pub death_line : Scenario → Event → List ℕ
death_line s e = if e.dies then line (host_name s e.host ++ codes " dies") else []

-- the replies that are given in the event with this index
abbrev pub given_in : List Reply → ℕ → List Reply
given_in replies n = filter (λ r. r.event == n) replies

-- what is told of an event: what it did to a slot, the replies that are given in it, and the death of its host
abbrev pub event_part : Scenario → List Event → List Reply → ℕ × Event → List ℕ
event_part s events replies e =
    slot_line s e.1 ++ flat_map (λ r. reply_line s (take (e.0 + 1) events) r) (given_in replies e.0) ++ death_line s e.1

-- a part for each event, in order
abbrev pub parts_of : Scenario → List Event → List Reply → List ℕ
parts_of s events replies = flat_map (λ e. event_part s events replies e) (enumerate_from 0 events)

-- the report of a run of a scenario that ended with this tree
abbrev pub report_of : Scenario → List Event → List Reply → FileTree → List ℕ
report_of s events replies t = parts_of s events replies ++ line (codes "changes " ++ decimal (change_count events)) ++ listing_of t
