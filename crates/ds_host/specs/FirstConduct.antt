-- What the first host does.
use Rattle.std.specs.Prelude.{◌≡◌, ℕ, true, List, Option, Some, None, MatchOption}
use Rattle.ds_base.specs.declared.sectors.Sector.{Sector}
use Rattle.ds_base.specs.declared.names.Key.{Key}
use Rattle.ds_base.specs.declared.commands.Command.TheVariants.{Read, Swap}
use Rattle.ds_base.specs.declared.commands.Response.{Response}
use Rattle.ds_base.specs.declared.commands.Response.TheVariants.{Got, Done, Miscompare}
use Rattle.ds_base.specs.declared.commands.Next.{Next}
use Rattle.ds_base.specs.declared.commands.Next.TheVariants as nexts
use Rattle.ds_base.specs.Names.{IsName}
use Rattle.ds_tree.specs.declared.calls.CallOf.{CallOf}
use Rattle.ds_tree.specs.declared.calls.CallOf.TheVariants as calls
use Rattle.ds_tree.specs.declared.calls.HostCallOf.{HostCallOf}
use Rattle.ds_tree.specs.declared.calls.HostCallOf.TheVariants as host_calls
use Rattle.ds_tree.specs.declared.calls.TreeReply.{TreeReply}
use Rattle.ds_tree.specs.declared.calls.TreeReply.TheVariants as replies
use Rattle.ds_tree.specs.Nodes.{root_key}
use Rattle.ds_dir.specs.declared.sub_block.Entry.{Entry}
use Rattle.ds_dir.specs.declared.sub_block.SubBlock.{SubBlock}
use Rattle.ds_dir.specs.SubBlock.{IsSubBlock, sub_bytes}
use Rattle.ds_conduct.specs.declared.answers.HostAnswer.{HostAnswer}
use Rattle.ds_conduct.specs.declared.answers.HostAnswer.TheVariants as answers
use Rattle.ds_host.specs.declared.first_host.RootCall.{RootCall}
use Rattle.ds_host.specs.declared.first_host.RootCall.TheVariants.{Create, Lookup}
use Rattle.ds_host.specs.declared.first_host.Stage.{Stage}
use Rattle.ds_host.specs.declared.first_host.Stage.TheVariants.{Rest, Reading, Filling}
use Rattle.ds_host.specs.FirstStates.{FirstState}
use Rattle.ds_host.specs.Rooms.{entry_named, with_entry, has_free_room, next_key, file_entry}

-- a sector spells a sub-block
abbrev pub SpellsRooms : Sector → SubBlock → Type 0
SpellsRooms sector block = IsSubBlock block × (sector.bytes ≡ sub_bytes block)

-- a call on the root directory, as a call on the file tree
abbrev pub tree_call : RootCall → CallOf Key
tree_call (Create name) = calls.Create root_key name
tree_call (Lookup name) = calls.Lookup root_key name

-- a call that the first host is given: a registration, or once it is registered a call on the root directory
abbrev pub IsFirstCall : FirstState → HostCallOf Key → Type 0
IsFirstCall host host_calls.Register = Unit {0}
IsFirstCall host (host_calls.Tree (calls.Create dir name)) = (host.registered ≡ true) × (dir ≡ root_key) × IsName name
IsFirstCall host (host_calls.Tree (calls.Lookup dir name)) = (host.registered ≡ true) × (dir ≡ root_key) × IsName name
IsFirstCall host _ = ⊥

abbrev pub at_stage : FirstState → Stage → FirstState
at_stage host stage = record { registered = host.registered; stage = stage }

-- a registration is answered at once; any other call begins
abbrev pub Begins : FirstState → HostCallOf Key → Option HostAnswer → FirstState → Type 0
Begins old host_calls.Register answer new =
    (answer ≡ Some (answers.Registered 0 1)) × (new ≡ record { registered = true; stage = Rest })
Begins old (host_calls.Tree (calls.Create dir name)) answer new =
    (answer ≡ None) × (new ≡ at_stage old (Reading (Create name)))
Begins old (host_calls.Tree (calls.Lookup dir name)) answer new =
    (answer ≡ None) × (new ≡ at_stage old (Reading (Lookup name)))
Begins old _ answer new = ⊥

-- what the host does next
abbrev pub due : FirstState → Next
due host = due_at host.stage where
  due_at : Stage → Next
  due_at Rest = nexts.Rest
  due_at (Reading call) = nexts.Send (Read 0)
  due_at (Filling name key verify fresh) = nexts.Send (Swap 0 verify fresh)

-- the entry of a name, or that there is none
abbrev pub reply_to_lookup : Option Entry → TreeReply
reply_to_lookup None = replies.NotFound
reply_to_lookup (Some e) = replies.Found e.key e.kind

-- the call is answered so, or not yet, and the host comes to a stage
abbrev pub Goes : Option HostAnswer → Stage → Option HostAnswer → Stage → Type 0
Goes answer stage expected_answer expected_stage = (answer ≡ expected_answer) × (stage ≡ expected_stage)

-- an image with a new entry is to be swapped in
pub record Fills (name : List ℕ) (image : Sector) (block : SubBlock) (answer : Option HostAnswer) (stage : Stage) : Type 0 where
  pub fresh : Sector
  pub goes : Goes answer stage None (Filling name (next_key block.rooms) image fresh)
  pub spelled : SpellsRooms fresh (record { rooms = with_entry (file_entry name (next_key block.rooms)) block.rooms })

-- what a call does once it has read these rooms
abbrev pub ReadsRooms : RootCall → Sector → SubBlock → Option HostAnswer → Stage → Type 0
ReadsRooms (Lookup name) image block answer stage =
    Goes answer stage (Some (answers.Tree (reply_to_lookup (entry_named name block.rooms)))) Rest
ReadsRooms (Create name) image block answer stage =
    MatchOption (entry_named name block.rooms)
    (Fills name image block answer stage)
    (λ _. Goes answer stage (Some (answers.Tree replies.Exists)) Rest)

-- what the host does with a sector that it has read: one that spells no sub-block is told as damaged
pub record Reads (call : RootCall) (image : Sector) (answer : Option HostAnswer) (stage : Stage) : Type 0 where
  pub spelled : (block : SubBlock) → SpellsRooms image block → ReadsRooms call image block answer stage
  pub damaged : ((block : SubBlock) → SpellsRooms image block → ⊥) → Goes answer stage (Some (answers.Damaged 0)) Rest

-- what the host does with a response at a stage
abbrev pub Takes : Stage → Response → Option HostAnswer → Stage → Type 0
Takes (Reading call) (Got image) answer stage = Reads call image answer stage
Takes (Filling name key verify fresh) Done answer stage = Goes answer stage (Some (answers.Tree (replies.Made key))) Rest
Takes (Filling name key verify fresh) (Miscompare offset) answer stage = Goes answer stage None (Reading (Create name))
Takes _ _ answer stage = ⊥

-- a read for a new entry finds its name or a free room
abbrev pub HasPlaceFor : RootCall → Sector → Type 0
HasPlaceFor (Lookup name) image = Unit {0}
HasPlaceFor (Create name) image =
    (block : SubBlock) → SpellsRooms image block → entry_named name block.rooms ≡ None → has_free_room block.rooms ≡ true

-- a response that may come at a stage
abbrev pub MayTake : Stage → Response → Type 0
MayTake (Reading call) (Got image) = HasPlaceFor call image
MayTake (Filling name key verify fresh) Done = Unit {0}
MayTake (Filling name key verify fresh) (Miscompare offset) = Unit {0}
MayTake _ _ = ⊥

-- the names of a call under way are names
abbrev pub IsRootCall : RootCall → Type 0
IsRootCall (Create name) = IsName name
IsRootCall (Lookup name) = IsName name
