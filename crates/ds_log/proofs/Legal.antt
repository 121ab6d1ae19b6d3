-- A legal history with one event, one change or one reply more.
use Rattle.std.proofs.Common.{◌≡◌, ℕ, ◌+◌, ◌≤◌, inl, inr, List, [], ◌∷◌, ◌++◌, length, ap, sym, subst, ◌∙◌, arith, Some}
use Rattle.std.specs.Prelude.{slice_get}
use Rattle.ds_base.specs.declared.geometry.Geom.{Geom}
use Rattle.ds_tree.specs.declared.calls.TreeReply.{TreeReply}
use Rattle.ds_tree.specs.Nodes.{FileTree}
use Rattle.ds_tree.specs.Steps.{Does}
use Rattle.ds_conduct.specs.declared.answers.HostAnswer.{HostAnswer}
use Rattle.ds_conduct.specs.declared.answers.HostAnswer.TheVariants.{Tree, Registered}
use Rattle.ds_log.specs.declared.logs.Event.{Event}
use Rattle.ds_log.specs.declared.logs.Reply.{Reply}
use Rattle.ds_log.specs.Rules.{Rules}
use Rattle.ds_log.specs.Commits.{commits}
use Rattle.ds_log.specs.History.{Calls, Change, IsOf, IsFirstEvent, HasPlace, Stands, IsGiven, AreSteps, IsLegal}
use Rattle.ds_log.proofs.Pushes.{length-push, get-push_old, get-push_last, get-push_cases, get-within, take-push}

pub IsGiven-push : (events : List Event) (e : Event) (r : Reply) → IsGiven events r → IsGiven (events ++ e ∷ []) r
IsGiven-push events e r given = record {
  event = given.event;
  there = get-push_old events e given.event r.event given.there;
  is_of = given.is_of;
}

-- the first event of a call that has an event already isn't the new one
first_is_old : (events : List Event) (e : Event) (host directive n m : ℕ) (d : Event) → slice_get events m ≡ Some d → IsOf host directive d
    → IsFirstEvent (events ++ e ∷ []) host directive n → (n ≤ length events) × IsFirstEvent events host directive n
first_is_old events e host directive n m d there is_of first =
    elim (get-push_cases events e first.event n first.there) [
      | inl old ↦ (
        omega (arith, get-within events n first.event old),
        record {
          event = first.event;
          there = old;
          is_of = first.is_of;
          none_before = λ k c less at. first.none_before k c less (get-push_old events e c k at);
        },
      )
      | inr last ↦ absurd
          (first.none_before m d (omega (arith, get-within events m d there, last.0)) (get-push_old events e d m there) is_of)
    ]

module _ (rules : Rules) (g : Geom) (calls : Calls) where
  HasPlace-event : (events : List Event) (e : Event) (trees : List FileTree) (changes : List Change) (r : Reply) (x : TreeReply)
      → IsGiven events r → HasPlace rules g calls events trees changes r x → HasPlace rules g calls (events ++ e ∷ []) trees changes r x
  HasPlace-event events e trees changes r x given place = record {
    p = place.p;
    call = place.call;
    place = place.place;
    is_call = place.is_call;
    stands = place.stands;
    from = λ n first.
        let old = first_is_old events e r.host r.directive n r.event given.event given.there given.is_of first in
        let P : List Event → Type 0 = λ past. commits rules past ≤ place.p in
        subst P (sym (take-push events e n old.0)) (place.from n old.1);
    to =
        let within = get-within events r.event given.event given.there in
        let P : List Event → Type 0 = λ past. place.p ≤ commits rules past in
        subst P (sym (take-push events e (r.event + 1) (omega arith))) place.to;
  }

  Stands-event : (events : List Event) (e : Event) (trees : List FileTree) (changes : List Change) (r : Reply) (answer : HostAnswer)
      → IsGiven events r → Stands rules g calls events trees changes r answer
      → Stands rules g calls (events ++ e ∷ []) trees changes r answer
  Stands-event events e trees changes r (Tree x) given stands = HasPlace-event events e trees changes r x given stands
  Stands-event events e trees changes r (Registered slot generation) given stands = stands
  Stands-event events e trees changes r _ given stands = absurd stands

  pub IsLegal-event : (events : List Event) (replies : List Reply) (trees : List FileTree) (changes : List Change) (e : Event)
      → IsLegal rules g calls events replies trees changes → IsLegal rules g calls (events ++ e ∷ []) replies trees changes
  IsLegal-event events replies trees changes e legal = record {
    steps = legal.steps;
    given = λ i r at. IsGiven-push events e r (legal.given i r at);
    stands = λ i r at. Stands-event events e trees changes r r.answer (legal.given i r at) (legal.stands i r at);
    in_order = legal.in_order;
    one_reply = legal.one_reply;
    one_change = legal.one_change;
  }

  -- the trees and changes go on, by a change of a call that has no reply
  HasPlace-change : (events : List Event) (trees : List FileTree) (changes : List Change) (c : Change) (u : FileTree) (r : Reply)
      (x : TreeReply)
      → (c.host ≡ r.host → c.directive ≡ r.directive → ⊥) → HasPlace rules g calls events trees changes r x
      → HasPlace rules g calls events (trees ++ u ∷ []) (changes ++ c ∷ []) r x
  HasPlace-change events trees changes c u r x other place = record {
    p = place.p;
    call = place.call;
    place = place.place;
    is_call = place.is_call;
    stands = elim place.stands [
      | inl at ↦ inl (record {
        before = at.before;
        change = at.change;
        place = at.place;
        there = get-push_old changes c at.change at.before at.there;
        host = at.host;
        directive = at.directive;
        reply = at.reply;
      })
      | inr at ↦ inr (record {
        no_change = λ k b there host directive. elim (get-push_cases changes c b k there) [
          | inl old ↦ at.no_change k b old host directive
          | inr last ↦ other (ap (λ (y : Change). y.host) last.1 ∙ host) (ap (λ (y : Change). y.directive) last.1 ∙ directive)
        ];
        tree = at.tree;
        there = get-push_old trees u at.tree place.p at.there;
        right = at.right;
      })
    ];
    from = place.from;
    to = place.to;
  }

  Stands-change : (events : List Event) (trees : List FileTree) (changes : List Change) (c : Change) (u : FileTree) (r : Reply)
      (answer : HostAnswer)
      → (c.host ≡ r.host → c.directive ≡ r.directive → ⊥) → Stands rules g calls events trees changes r answer
      → Stands rules g calls events (trees ++ u ∷ []) (changes ++ c ∷ []) r answer
  Stands-change events trees changes c u r (Tree x) other stands = HasPlace-change events trees changes c u r x other stands
  Stands-change events trees changes c u r (Registered slot generation) other stands = stands
  Stands-change events trees changes c u r _ other stands = absurd stands

  AreSteps-change : (trees : List FileTree) (changes : List Change) (c : Change) (t u : FileTree)
      → slice_get trees (length changes) ≡ Some t
      → Does g t c.call c.reply u → AreSteps g trees changes → AreSteps g (trees ++ u ∷ []) (changes ++ c ∷ [])
  AreSteps-change trees changes c t u last does steps = record {
    first = get-push_old trees u _ 0 steps.first;
    count = omega (arith, steps.count, length-push trees u, length-push changes c);
    each = λ k b at. elim (get-push_cases changes c b k at) [
      | inl old ↦
          let step = steps.each k b old in
          (step.0, (step.1.0, get-push_old trees u step.0 k step.1.1, get-push_old trees u step.1.0 (k + 1) step.1.2, step.1.3))
      | inr now ↦
          let end : k + 1 ≡ length trees = omega (arith, steps.count, now.0) in
          let P : Change → Type 0 = λ y. Does g t y.call y.reply u in (
            t,
            (
              u,
              get-push_old trees u t k (ap (λ (n : ℕ). slice_get trees n) now.0 ∙ last),
              ap (λ (n : ℕ). slice_get (trees ++ u ∷ []) n) end ∙ get-push_last trees u,
              subst P now.1 does,
            ),
          )
    ];
  }

  pub IsLegal-change : (events : List Event) (replies : List Reply) (trees : List FileTree) (changes : List Change) (c : Change)
      (t u : FileTree)
      → slice_get trees (length changes) ≡ Some t → Does g t c.call c.reply u
      → ((i : ℕ) (r : Reply) → slice_get replies i ≡ Some r → c.host ≡ r.host → c.directive ≡ r.directive → ⊥)
      → ((i : ℕ) (b : Change) → slice_get changes i ≡ Some b → b.host ≡ c.host → b.directive ≡ c.directive → ⊥)
      → IsLegal rules g calls events replies trees changes → IsLegal rules g calls events replies (trees ++ u ∷ []) (changes ++ c ∷ [])
  IsLegal-change events replies trees changes c t u last does no_reply no_change legal = record {
    steps = AreSteps-change trees changes c t u last does legal.steps;
    given = legal.given;
    stands = λ i r at. Stands-change events trees changes c u r r.answer (no_reply i r at) (legal.stands i r at);
    in_order = legal.in_order;
    one_reply = legal.one_reply;
    one_change = λ i j a b at there host directive. elim (get-push_cases changes c a i at) [
      | inl old ↦ elim (get-push_cases changes c b j there) [
        | inl too ↦ legal.one_change i j a b old too host directive
        | inr now ↦ absurd
            (no_change i a old (host ∙ sym (ap (λ (y : Change). y.host) now.1)) (directive ∙ sym (ap (λ (y : Change). y.directive) now.1)))
      ]
      | inr now ↦ elim (get-push_cases changes c b j there) [
        | inl too ↦ absurd
            (no_change j b too (sym host ∙ sym (ap (λ (y : Change). y.host) now.1))
            (sym directive ∙ sym (ap (λ (y : Change). y.directive) now.1)))
        | inr too ↦ now.0 ∙ sym too.0
      ]
    ];
  }

  pub IsLegal-reply : (events : List Event) (replies : List Reply) (trees : List FileTree) (changes : List Change) (r : Reply)
      → IsGiven events r → Stands rules g calls events trees changes r r.answer
      → ((i : ℕ) (q : Reply) → slice_get replies i ≡ Some q → q.host ≡ r.host → q.directive ≡ r.directive → ⊥)
      → ((i : ℕ) (q : Reply) (m n : ℕ) → slice_get replies i ≡ Some q → q.host ≡ r.host → q.place ≡ Some m → r.place ≡ Some n → m ≤ n)
      → IsLegal rules g calls events replies trees changes → IsLegal rules g calls events (replies ++ r ∷ []) trees changes
  IsLegal-reply events replies trees changes r given stands no_reply later legal = record {
    steps = legal.steps;
    given = λ i q at. elim (get-push_cases replies r q i at) [
      | inl old ↦ legal.given i q old
      | inr now ↦ let P : Reply → Type 0 = λ y. IsGiven events y in subst P now.1 given
    ];
    stands = λ i q at. elim (get-push_cases replies r q i at) [
      | inl old ↦ legal.stands i q old
      | inr now ↦ let P : Reply → Type 0 = λ y. Stands rules g calls events trees changes y y.answer in subst P now.1 stands
    ];
    in_order = λ i j a b m n less at there host place after. elim (get-push_cases replies r b j there) [
      | inl old ↦ elim (get-push_cases replies r a i at) [
        | inl too ↦ legal.in_order i j a b m n less too old host place after
        | inr now ↦ absurd (omega (arith, get-within replies j b old, now.0))
      ]
      | inr now ↦ elim (get-push_cases replies r a i at) [
        | inl too ↦ later i a m n too (host ∙ sym (ap (λ (y : Reply). y.host) now.1)) place (ap (λ (y : Reply). y.place) now.1 ∙ after)
        | inr too ↦ absurd (omega (arith, now.0, too.0))
      ]
    ];
    one_reply = λ i j a b at there host directive. elim (get-push_cases replies r a i at) [
      | inl old ↦ elim (get-push_cases replies r b j there) [
        | inl too ↦ legal.one_reply i j a b old too host directive
        | inr now ↦ absurd
            (no_reply i a old (host ∙ sym (ap (λ (y : Reply). y.host) now.1)) (directive ∙ sym (ap (λ (y : Reply). y.directive) now.1)))
      ]
      | inr now ↦ elim (get-push_cases replies r b j there) [
        | inl too ↦ absurd
            (no_reply j b too (sym host ∙ sym (ap (λ (y : Reply). y.host) now.1))
            (sym directive ∙ sym (ap (λ (y : Reply). y.directive) now.1)))
        | inr too ↦ now.0 ∙ sym too.0
      ]
    ];
    one_change = legal.one_change;
  }
