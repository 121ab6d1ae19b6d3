-- What the parts of a replay come to.
use Rattle.std.proofs.Common.{◌≡◌, ℕ, List, length, ap, sym, subst, ◌∙◌, arith, Some}
use Rattle.std.specs.Prelude.{slice_get}
use Rattle.std.proofs.Math.Seq.{take-length}
use Rattle.ds_base.specs.declared.geometry.Geom.{Geom}
use Rattle.ds_tree.specs.declared.scenarios.Scenario.{Scenario}
use Rattle.ds_tree.specs.Nodes.{FileTree}
use Rattle.ds_tree.specs.FirstForm.{first_geom, IsFirstForm}
use Rattle.ds_log.specs.declared.logs.Event.{Event}
use Rattle.ds_log.specs.declared.logs.Reply.{Reply}
use Rattle.ds_log.specs.LogValues.{LogValue}
use Rattle.ds_log.specs.Store.{store, change_count}
use Rattle.ds_log.specs.Commits.{commits}
use Rattle.ds_log.specs.History.{Calls}
use Rattle.ds_log.specs.Headline.{StandsAfter, Headline}
use Rattle.ds_log.specs.Scripts.{calls_of}
use Rattle.ds_log.specs.Follows.{Follows, IsAtEnd, InReplayOrder}
use Rattle.ds_world.specs.FirstRules.{first_rules}
use Rattle.ds_report.specs.Report.{report_of}
use Rattle.ds_top.specs.Promise.{IsReplayOf}

-- the tree of the last commit is the one for which the device stands at the end
last_of : (g : Geom) (calls : Calls) (events : List Event) (replies : List Reply) (h : Headline first_rules g calls events replies) (t : FileTree)
    → ((u : FileTree) → first_rules.StandsFor (store first_rules.start events) u → u ≡ t) → slice_get h.trees (commits first_rules events) ≡ Some t
last_of g calls events replies h t only =
    let P : List Event → Type 0 = StandsAfter first_rules h.trees in
    let now : StandsAfter first_rules h.trees events = subst P (take-length events) (h.image (length events) (omega arith)) in
    now.there ∙ ap Some (only now.tree now.stands)

whole_replay : (s : Scenario) (log : LogValue) (t : FileTree) (text : List ℕ) → Headline first_rules s.geom (calls_of s log.replies) log.events log.replies
    → Follows first_rules.start s log.events log.replies → IsAtEnd s log.events log.replies → InReplayOrder (length s.hosts) s.steps log.events
    → change_count log.events ≡ commits first_rules log.events → ((u : FileTree) → first_rules.StandsFor (store first_rules.start log.events) u → u ≡ t)
    → text ≡ report_of s log.events log.replies t → IsReplayOf s log text
whole_replay s log t text headline follows at_end in_order' changes only is_report = record {
  follows = follows;
  at_end = at_end;
  in_order = in_order';
  headline = headline;
  last = t;
  is_last = last_of s.geom (calls_of s log.replies) log.events log.replies headline t only;
  changes = changes;
  is_report = is_report;
}

-- what a world's log promises, said of the scenario that it was made from
pub replayed : (s w : Scenario) (log kept : LogValue) (t : FileTree) (text : List ℕ) → IsFirstForm s → w ≡ s → kept ≡ log
    → Headline first_rules first_geom (calls_of w log.replies) log.events log.replies → Follows first_rules.start w log.events log.replies
    → IsAtEnd w log.events log.replies → InReplayOrder (length w.hosts) w.steps log.events → change_count log.events ≡ commits first_rules log.events
    → ((u : FileTree) → first_rules.StandsFor (store first_rules.start log.events) u → u ≡ t) → text ≡ report_of s log.events log.replies t → IsReplayOf s kept text
replayed s w log kept t text form same is headline follows at_end order changes only is_report =
    let geom : first_geom ≡ s.geom = sym form.geom in
    let H : Scenario → Type 0 = λ x. Headline first_rules first_geom (calls_of x log.replies) log.events log.replies in
    let G : Geom → Type 0 = λ g. Headline first_rules g (calls_of s log.replies) log.events log.replies in
    let F : Scenario → Type 0 = λ x. Follows first_rules.start x log.events log.replies in
    let E : Scenario → Type 0 = λ x. IsAtEnd x log.events log.replies in
    let O : Scenario → Type 0 = λ x. InReplayOrder (length x.hosts) x.steps log.events in
    let K : LogValue → Type 0 = λ x. IsReplayOf s x text in
    subst K (sym is) (whole_replay s log t text (subst G geom (subst H same headline)) (subst F same follows) (subst E same at_end) (subst O same order) changes only is_report)
