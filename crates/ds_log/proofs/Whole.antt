-- Commits and changes of a log with one event or one reply more, and the trees for which the device stands.
use Rattle.std.proofs.Common.{◌≡◌, ℕ, true, false, List, [], ◌∷◌, ◌++◌, ap, sym, ◌∙◌, arith, Some}
use Rattle.std.specs.Prelude.{slice_get}
use Rattle.std.proofs.lemmas.Bool.{false≢true}
use Rattle.ds_tree.specs.Nodes.{FileTree}
use Rattle.ds_log.specs.declared.logs.Event.{Event}
use Rattle.ds_log.specs.declared.logs.Reply.{Reply}
use Rattle.ds_log.specs.Rules.{Rules}
use Rattle.ds_log.specs.Commits.{commits, commits_next}
use Rattle.ds_log.specs.History.{Calls, Change, IsChangeOf, IsWholeOrNot}
use Rattle.ds_log.specs.Headline.{StandsAfter}
use Rattle.ds_log.proofs.Pushes.{length-push, get-push_old, get-push_last}
use Rattle.ds_log.proofs.Growing.{EachEvent-push, commits-push_none, commits-push_one}

module _ (rules : Rules) (calls : Calls) where
  -- the commit that an event is has its change
  abbrev pub HasChange : List Reply → List Change → List Event → Event → Type 0
  HasChange replies changes past e =
      commits_next rules past e ≡ true → (c : Change) × (slice_get changes (commits rules past) ≡ Some c) × IsChangeOf calls replies e c

  IsChangeOf-reply : (replies : List Reply) (r : Reply) (e : Event) (c : Change) → IsChangeOf calls replies e c
      → IsChangeOf calls (replies ++ r ∷ []) e c
  IsChangeOf-reply replies r e c is = record {
    host = is.host;
    directive = is.directive;
    call = is.call;
    given = (
      is.given.0,
      (is.given.1.0, get-push_old replies r is.given.1.0 is.given.0 is.given.1.1, is.given.1.2, is.given.1.3, is.given.1.4),
    );
  }

  pub whole-reply : (events : List Event) (replies : List Reply) (changes : List Change) (r : Reply)
      → IsWholeOrNot rules calls events replies changes → IsWholeOrNot rules calls events (replies ++ r ∷ []) changes
  whole-reply events replies changes r whole = record {
    count = whole.count;
    each = λ n e at commits. let was = whole.each n e at commits in (was.0, was.1, IsChangeOf-reply replies r e was.0 was.2);
  }

  pub whole-event : (events : List Event) (replies : List Reply) (changes : List Change) (e : Event) → commits_next rules events e ≡ false
      → IsWholeOrNot rules calls events replies changes → IsWholeOrNot rules calls (events ++ e ∷ []) replies changes
  whole-event events replies changes e none whole = record {
    count = whole.count ∙ sym (commits-push_none rules events e none);
    each = EachEvent-push (HasChange replies changes) events e whole.each (λ commits. absurd (false≢true (sym none ∙ commits)));
  }

  -- a commit with its change and its reply
  pub whole-commit : (events : List Event) (replies : List Reply) (changes : List Change) (e : Event) (c : Change)
      → commits_next rules events e ≡ true
      → IsChangeOf calls replies e c → IsWholeOrNot rules calls events replies changes
      → IsWholeOrNot rules calls (events ++ e ∷ []) replies (changes ++ c ∷ [])
  whole-commit events replies changes e c is change whole = record {
    count = omega (arith, length-push changes c, whole.count, commits-push_one rules events e is);
    each = EachEvent-push (HasChange replies (changes ++ c ∷ [])) events e
        (λ n d at commits. let was = whole.each n d at commits in (was.0, get-push_old changes c was.0 _ was.1, was.2))
        (λ _. (c, ap (λ (k : ℕ). slice_get (changes ++ c ∷ []) k) (sym whole.count) ∙ get-push_last changes c, change));
  }

-- a moment keeps its tree when a tree is added
pub StandsAfter-tree : (rules : Rules) (trees : List FileTree) (u : FileTree) (events : List Event) → StandsAfter rules trees events
    → StandsAfter rules (trees ++ u ∷ []) events
StandsAfter-tree rules trees u events stands = record {
  tree = stands.tree;
  there = get-push_old trees u stands.tree _ stands.there;
  stands = stands.stands;
}
