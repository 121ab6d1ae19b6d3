-- What a log keeps of the file tree, whatever the turns of the hosts.
use Rattle.std.specs.Prelude.{◌≡◌, List, slice_get, Some}
use Rattle.ds_base.specs.declared.geometry.Geom.{Geom}
use Rattle.ds_tree.specs.Nodes.{FileTree}
use Rattle.ds_log.specs.declared.logs.Event.{Event}
use Rattle.ds_log.specs.declared.logs.Reply.{Reply}
use Rattle.ds_log.specs.Rules.{Rules}
use Rattle.ds_log.specs.Store.{store}
use Rattle.ds_log.specs.Commits.{commits}
use Rattle.ds_log.specs.Moments.{AtEveryMoment}
use Rattle.ds_log.specs.History.{Calls, Change, IsWholeOrNot, IsLegal}

-- at a moment the device stands for the tree of the commits so far
pub record StandsAfter (rules : Rules) (trees : List FileTree) (events : List Event) : Type 0 where
  pub tree : FileTree
  pub there : slice_get trees (commits rules events) ≡ Some tree
  pub stands : rules.StandsFor (store rules.start events) tree

-- the reported calls stand in one legal history of a file tree: a committed call is in it whole and an uncommitted one not
-- at all, and at every moment the device stands for the tree of the commits so far
pub record Headline (rules : Rules) (g : Geom) (calls : Calls) (events : List Event) (replies : List Reply) : Type 0 where
  pub trees : List FileTree
  pub changes : List Change
  pub whole : IsWholeOrNot rules calls events replies changes
  pub legal : IsLegal rules g calls events replies trees changes
  pub image : AtEveryMoment (StandsAfter rules trees) events
