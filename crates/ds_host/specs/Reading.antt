-- Calls on the tree that only read it.
use Rattle.std.specs.Prelude.{◌≡◌, ⊤}
use Rattle.ds_base.specs.declared.names.Key.{Key}
use Rattle.ds_image.specs.Planning.{Answers}
use Rattle.ds_image.specs.SeenValues.{SeenValue}
use Rattle.ds_image.specs.declared.asks.Ask.TheVariants.{Change}
use Rattle.ds_image_parts.specs.Parts.{Parts}
use Rattle.ds_jrnl.specs.declared.redo.Redo.{Redo}
use Rattle.ds_tree.specs.declared.calls.CallOf.{CallOf}
use Rattle.ds_tree.specs.declared.calls.CallOf.TheVariants as calls
use Rattle.ds_tree.specs.declared.calls.TreeReply.{TreeReply}

abbrev pub IsReading : CallOf Key → Type 0
IsReading (calls.Lookup dir name) = ⊤
IsReading (calls.List dir after) = ⊤
IsReading (calls.Stat key) = ⊤
IsReading (calls.Map file page) = ⊤
IsReading call = ⊥

-- a planner with these answers asks for no change
abbrev pub NeverChanges : Answers → Type 0
NeverChanges answers = (seen : SeenValue) (p : Parts) (redo : Redo) (reply : TreeReply) → answers seen p ≡ Change redo reply → ⊥
