-- A call that only reads changes nothing.
use Rattle.std.proofs.Common.{◌≡◌, ℕ, Result, Ok, Err}
use Rattle.ds_base.specs.declared.geometry.Geom.{Geom}
use Rattle.ds_base.specs.declared.names.Key.{Key}
use Rattle.ds_image.specs.SeenValues.{SeenValue}
use Rattle.ds_image.specs.declared.asks.Ask.TheVariants as asks
use Rattle.ds_image_parts.specs.Parts.{Parts}
use Rattle.ds_jrnl.specs.declared.redo.Redo.{Redo}
use Rattle.ds_plan_base.specs.Steps.{settled}
use Rattle.ds_plan_base.specs.Stops.{reply_of}
use Rattle.ds_plan_base.specs.declared.stops.Stop.{Stop}
use Rattle.ds_plan_base.specs.declared.stops.Stop.TheVariants as stops
use Rattle.ds_plan_calls.specs.Calls.{IsReadCall, plan_for}
use Rattle.ds_plan_dirs.specs.Answers as dirs
use Rattle.ds_plan_dirs.specs.declared.reading.ReadCall.TheVariants as kept
use Rattle.ds_plan_reads.specs.Answers as reading
use Rattle.ds_plan_reads.specs.declared.questions.Question.TheVariants as questions
use Rattle.ds_tree.specs.declared.calls.CallOf.{CallOf}
use Rattle.ds_tree.specs.declared.calls.CallOf.TheVariants as calls
use Rattle.ds_tree.specs.declared.calls.TreeReply.{TreeReply}

-- an answer that is known is no change, nor is what is asked for till then
settled_changes_nothing : (known : Result TreeReply Stop) (redo : Redo) (reply : TreeReply) → settled known ≡ asks.Change redo reply → ⊥
settled_changes_nothing (Ok done) redo reply is = let wrong : asks.Done done ≡ asks.Change redo reply = is in cc
settled_changes_nothing (Err (stops.Lock object)) redo reply is = let wrong : asks.Lock object ≡ asks.Change redo reply = is in cc
settled_changes_nothing (Err (stops.Read at)) redo reply is = let wrong : asks.Read at ≡ asks.Change redo reply = is in cc
settled_changes_nothing (Err (stops.Odd at)) redo reply is = let wrong : asks.Odd at ≡ asks.Change redo reply = is in cc
settled_changes_nothing (Err (stops.Worn object)) redo reply is = let wrong : asks.Worn object ≡ asks.Change redo reply = is in cc
settled_changes_nothing (Err (stops.Done ending)) redo reply is =
    let wrong : asks.Done (reply_of ending) ≡ asks.Change redo reply = is in cc

-- what a call that only reads asks for is no change
pub reads_change_nothing : (g : Geom) (slot : ℕ) (call : CallOf Key) → IsReadCall call
    → (seen : SeenValue) (p : Parts) (redo : Redo) (reply : TreeReply) → plan_for g slot call seen p ≡ asks.Change redo reply → ⊥
reads_change_nothing g slot (calls.Lookup dir name) only seen p =
    settled_changes_nothing (dirs.known_by g seen p (kept.Lookup dir name))
reads_change_nothing g slot (calls.List dir above) only seen p = settled_changes_nothing (dirs.known_by g seen p (kept.List dir above))
reads_change_nothing g slot (calls.Stat key) only seen p = settled_changes_nothing (reading.known_by g seen p key questions.Stat)
reads_change_nothing g slot (calls.Map file page) only seen p =
    settled_changes_nothing (reading.known_by g seen p file (questions.Map page))
reads_change_nothing g slot (calls.OpenFile file) only seen p =
    settled_changes_nothing (reading.known_by g seen p file questions.OpenFile)
reads_change_nothing g slot (calls.At file index) only seen p =
    settled_changes_nothing (reading.known_by g seen p file (questions.At index))
reads_change_nothing g slot (calls.Mkdir dir name) only seen p = absurd only
reads_change_nothing g slot (calls.Create dir name) only seen p = absurd only
reads_change_nothing g slot (calls.Resize file size) only seen p = absurd only
reads_change_nothing g slot (calls.Remove dir name) only seen p = absurd only
reads_change_nothing g slot (calls.Rmdir dir name) only seen p = absurd only
reads_change_nothing g slot (calls.Rename dir name to fresh) only seen p = absurd only
