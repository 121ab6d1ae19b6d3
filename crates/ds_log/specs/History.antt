-- The history of a log: its changes in order, and where its replies stand.
use Rattle.std.specs.Prelude.{◌≡◌, ℕ, ◌+◌, ◌≤◌, ◌<◌, ◌⊎◌, true, List, length, take, slice_get, Option, Some, None}
use Rattle.ds_base.specs.declared.geometry.Geom.{Geom}
use Rattle.ds_base.specs.declared.names.Key.{Key}
use Rattle.ds_tree.specs.declared.calls.CallOf.{CallOf}
use Rattle.ds_tree.specs.declared.calls.TreeReply.{TreeReply}
use Rattle.ds_tree.specs.Nodes.{FileTree, fresh_tree}
use Rattle.ds_tree.specs.Steps.{Does}
use Rattle.ds_conduct.specs.declared.answers.HostAnswer.{HostAnswer}
use Rattle.ds_conduct.specs.declared.answers.HostAnswer.TheVariants.{Tree, Registered}
use Rattle.ds_log.specs.declared.logs.Event.{Event}
use Rattle.ds_log.specs.declared.logs.Reply.{Reply}
use Rattle.ds_log.specs.Rules.{Rules}
use Rattle.ds_log.specs.Commits.{commits, commits_next}
use Rattle.ds_log.specs.Moments.{EachEvent}

-- the tree calls that hosts make, by host and number of directive
abbrev pub Calls : Type 0
Calls = ℕ → ℕ → Option (CallOf Key)

-- a change of the tree: whose it is, and the call with its reply
pub record Change : Type 0 where
  pub host : ℕ
  pub directive : ℕ
  pub call : CallOf Key
  pub reply : TreeReply

-- the change of the call to which an event belongs, with the reply that the log has
pub record IsChangeOf (calls : Calls) (replies : List Reply) (e : Event) (c : Change) : Type 0 where
  pub host : c.host ≡ e.host
  pub directive : c.directive ≡ e.directive
  pub call : calls e.host e.directive ≡ Some c.call
  pub given : (i : ℕ) × ((r : Reply) × (slice_get replies i ≡ Some r) × (r.host ≡ e.host) × (r.directive ≡ e.directive)
      × (r.answer ≡ Tree c.reply))

-- change k is that of commit k, and there is no other
pub record IsWholeOrNot (rules : Rules) (calls : Calls) (events : List Event) (replies : List Reply) (changes : List Change) : Type 0 where
  pub count : length changes ≡ commits rules events
  pub each : EachEvent (λ past e. commits_next rules past e ≡ true
      → (c : Change) × (slice_get changes (commits rules past) ≡ Some c) × IsChangeOf calls replies e c) events

abbrev pub IsOf : ℕ → ℕ → Event → Type 0
IsOf host directive e = (e.host ≡ host) × (e.directive ≡ directive)

-- the event with this index is the first of a call
pub record IsFirstEvent (events : List Event) (host directive n : ℕ) : Type 0 where
  pub event : Event
  pub there : slice_get events n ≡ Some event
  pub is_of : IsOf host directive event
  pub none_before : (m : ℕ) (e : Event) → m < n → slice_get events m ≡ Some e → IsOf host directive e → ⊥

-- the reply is that of the change just before its place
pub record StandsAtChange (changes : List Change) (r : Reply) (x : TreeReply) (p : ℕ) : Type 0 where
  pub before : ℕ
  pub change : Change
  pub place : p ≡ before + 1
  pub there : slice_get changes before ≡ Some change
  pub host : change.host ≡ r.host
  pub directive : change.directive ≡ r.directive
  pub reply : change.reply ≡ x

-- the call has no change, and the reply is right at the tree of its place, which it leaves
pub record StandsAtTree (g : Geom) (trees : List FileTree) (changes : List Change) (call : CallOf Key) (r : Reply) (x : TreeReply)
    (p : ℕ) : Type 0 where
  pub no_change : (k : ℕ) (c : Change) → slice_get changes k ≡ Some c → c.host ≡ r.host → c.directive ≡ r.directive → ⊥
  pub tree : FileTree
  pub there : slice_get trees p ≡ Some tree
  pub right : Does g tree call x tree

-- an answer of the file tree has a place in the history, inside its call
pub record HasPlace (rules : Rules) (g : Geom) (calls : Calls) (events : List Event) (trees : List FileTree) (changes : List Change)
    (r : Reply) (x : TreeReply) : Type 0 where
  pub p : ℕ
  pub call : CallOf Key
  pub place : r.place ≡ Some p
  pub is_call : calls r.host r.directive ≡ Some call
  pub stands : StandsAtChange changes r x p ⊎ StandsAtTree g trees changes call r x p
  pub from : (n : ℕ) → IsFirstEvent events r.host r.directive n → commits rules (take n events) ≤ p
  pub to : p ≤ commits rules (take (r.event + 1) events)

-- where a reply stands: an answer of the file tree has a place; a registration has none, and answers no tree call; and there
-- are no other answers
abbrev pub Stands : Rules → Geom → Calls → List Event → List FileTree → List Change → Reply → HostAnswer → Type 0
Stands rules g calls events trees changes r (Tree x) = HasPlace rules g calls events trees changes r x
Stands rules g calls events trees changes r (Registered slot generation) = (r.place ≡ None) × (calls r.host r.directive ≡ None)
Stands rules g calls events trees changes r _ = ⊥

-- a reply is given in an event of its call
pub record IsGiven (events : List Event) (r : Reply) : Type 0 where
  pub event : Event
  pub there : slice_get events r.event ≡ Some event
  pub is_of : IsOf r.host r.directive event

-- the trees follow each other by the changes, each from the one before
pub record AreSteps (g : Geom) (trees : List FileTree) (changes : List Change) : Type 0 where
  pub first : slice_get trees 0 ≡ Some (fresh_tree g)
  pub count : length trees ≡ length changes + 1
  pub each : (k : ℕ) (c : Change) → slice_get changes k ≡ Some c
      → (t : FileTree) × ((u : FileTree) × (slice_get trees k ≡ Some t) × (slice_get trees (k + 1) ≡ Some u) × Does g t c.call c.reply u)

-- the history is one of a file tree: the changes are steps from the fresh tree, each reply stands in it at a place inside its
-- call, places don't fall along the replies of a host, and no call has two changes or two replies
pub record IsLegal (rules : Rules) (g : Geom) (calls : Calls) (events : List Event) (replies : List Reply) (trees : List FileTree)
    (changes : List Change) : Type 0 where
  pub steps : AreSteps g trees changes
  pub given : (i : ℕ) (r : Reply) → slice_get replies i ≡ Some r → IsGiven events r
  pub stands : (i : ℕ) (r : Reply) → slice_get replies i ≡ Some r → Stands rules g calls events trees changes r r.answer
  pub in_order : (i j : ℕ) (r s : Reply) (p q : ℕ) → i < j → slice_get replies i ≡ Some r → slice_get replies j ≡ Some s → r.host ≡ s.host
      → r.place ≡ Some p → s.place ≡ Some q → p ≤ q
  pub one_reply : (i j : ℕ) (r s : Reply) → slice_get replies i ≡ Some r → slice_get replies j ≡ Some s → r.host ≡ s.host
      → r.directive ≡ s.directive → i ≡ j
  pub one_change : (i j : ℕ) (c d : Change) → slice_get changes i ≡ Some c → slice_get changes j ≡ Some d → c.host ≡ d.host
      → c.directive ≡ d.directive → i ≡ j
