-- The steps of the loops of a replay.
use Rattle.std.proofs.Common.{
  ◌≡◌,
  ℕ,
  suc,
  ◌+◌,
  ◌<◌,
  ◌⊎◌,
  inl,
  inr,
  Bool,
  true,
  false,
  List,
  [],
  length,
  refl,
  ap,
  sym,
  subst,
  ◌∙◌,
  arith,
  add-one,
  Option,
  Some,
}
use Rattle.std.proofs.lemmas.Bool.{cases_lt}
use Rattle.std.specs.Prelude.{slice_get}
use Rattle.ds_base.specs.declared.sectors.Sector.{Sector}
use Rattle.ds_tree.specs.PlainPass.{PassesAll}
use Rattle.ds_tree.specs.declared.scenarios.Scenario.{Scenario}
use Rattle.ds_log.specs.declared.moves.Moved.{Moved}
use Rattle.ds_log.specs.declared.moves.Moved.TheVariants as moves
use Rattle.ds_log.proofs.Growing.{Each-push}
use Rattle.ds_log_order.specs.Follows.{IsFollowing, IsNext}
use Rattle.ds_log_order.specs.HostFacts.{HostFacts}
use Rattle.ds_log_order.specs.LogProgress.{progresses}
use Rattle.ds_log_order.specs.Order.{InReplayOrder, IsTurn, Moves, Round, Stays, StepLines, Turns, TurnsOf}
use Rattle.ds_log_order.specs.Told.{Told}
use Rattle.ds_log_order.specs.Turned.{GoesOn, HasDrained, HasGone, HasGoneRound, HasRun, HasStepped, HasTurned, Turned}
use Rattle.ds_log_order.specs.TurnsLeft.{turns_in}
use Rattle.ds_log_order.specs.Waiting.{IsStill}
use Rattle.ds_log_order.proofs.Ending.{turns-fall}
use Rattle.ds_log_order.proofs.Waiting.{all_ended}

module _ (facts : HostFacts) (start : List Sector) (s : Scenario) where
  pub turned-is_turn : (host : ℕ) (moved : Moved) (past after : List Told) → Turned facts start s host moved past after
      → IsTurn facts s.hosts host past after
  turned-is_turn host moves.Event past after (t, own, next, e) = Moves t own e
  turned-is_turn host moves.Resting past after (rests, e) = Stays (inr rests) e
  turned-is_turn host moves.Ended past after (ended, e) = Stays (inl ended) e

  pub turned-follows : (host : ℕ) (moved : Moved) (past after : List Told) → Turned facts start s host moved past after
      → IsFollowing facts start s past → IsFollowing facts start s after
  turned-follows host moves.Event past after (t, own, next, e) follows =
      subst (IsFollowing facts start s) (sym e) (Each-push (IsNext facts start s) past t follows next)
  turned-follows host moves.Resting past after (rests, e) follows = subst (IsFollowing facts start s) (sym e) follows
  turned-follows host moves.Ended past after (ended, e) follows = subst (IsFollowing facts start s) (sym e) follows

  -- turns of a host
  pub turned_none : (host : ℕ) (log : List Told) → HasTurned facts start s host 0 log log
  turned_none host log = record { turns = refl; follows = λ f. f }

  pub turned_more : (host count : ℕ) (moved : Moved) (before between after : List Told) → HasTurned facts start s host count before between
      → Turned facts start s host moved between after → HasTurned facts start s host (count + 1) before after
  turned_more host count moved before between after so_far is = record {
    turns = subst (λ (n : ℕ). Turns facts s.hosts host n before after) (sym (add-one count))
        (between, so_far.turns, turned-is_turn host moved between after is);
    follows = λ f. turned-follows host moved between after is (so_far.follows f);
  }

  -- the step lines
  pub stepped_none : (steps : List (ℕ × ℕ)) (log : List Told) → HasStepped facts start s steps 0 log log
  stepped_none steps log = record { lines = refl; follows = λ f. f }

  pub stepped_more : (steps : List (ℕ × ℕ)) (count : ℕ) (step : ℕ × ℕ) (before between after : List Told)
      → slice_get steps count ≡ Some step
      → HasStepped facts start s steps count before between → HasTurned facts start s step.0 step.1 between after
      → HasStepped facts start s steps (count + 1) before after
  stepped_more steps count step before between after here so_far is = record {
    lines = subst (λ (n : ℕ). StepLines facts s.hosts steps n before after) (sym (add-one count))
        (between, so_far.lines, subst (λ (o : Option (ℕ × ℕ)). TurnsOf facts s.hosts o between after) (sym here) is.turns);
    follows = λ f. is.follows (so_far.follows f);
  }

  goes-same : (log : List Told) → GoesOn facts start s false log log
  goes-same log = record { follows = λ f. f; same = λ e. refl; fewer = λ e. absurd cc }

  goes-on : (one two any : Bool) (before between after : List Told) → (any ≡ false → (one ≡ false) × (two ≡ false))
      → GoesOn facts start s one before between → GoesOn facts start s two between after
      → (any ≡ true → (one ≡ true) ⊎ (two ≡ true)) → GoesOn facts start s any before after
  goes-on one two any before between after none first second some = record {
    follows = λ f. second.follows (first.follows f);
    same = λ e. second.same (none e).1 ∙ first.same (none e).0;
    fewer = λ e. lower one two refl refl (some e);
  } where
    lower : (a b : Bool) → one ≡ a → two ≡ b → (one ≡ true) ⊎ (two ≡ true) → turns_in facts s after < turns_in facts s before
    lower true true p q so = omega (arith, first.fewer p, second.fewer q)
    lower true false p q so = omega (arith, first.fewer p, ap (turns_in facts s) (second.same q))
    lower false true p q so = omega (arith, second.fewer q, ap (turns_in facts s) (first.same p))
    lower false false p q (inl t) = absurd cc
    lower false false p q (inr t) = absurd cc

  -- the turns of a host until it rests or has ended
  pub record HasMoved (host : ℕ) (any : Bool) (before after : List Told) : Type 0 where
    pub count : ℕ
    pub turned : HasTurned facts start s host count before after
    pub goes : GoesOn facts start s any before after

  pub moved_none : (host : ℕ) (log : List Told) → HasMoved host false log log
  moved_none host log = record { count = 0; turned = turned_none host log; goes = goes-same log }

  event-goes : (host : ℕ) (past after : List Told) → Turned facts start s host moves.Event past after → GoesOn facts start s true past after
  event-goes host past after is = record {
    follows = turned-follows host moves.Event past after is;
    same = λ e. absurd cc;
    fewer = λ e. omega (arith, turns-fall facts start s past is.0 is.2, ap (turns_in facts s) is.3);
  }

  pub moved_more : (host : ℕ) (any : Bool) (before between after : List Told) → HasMoved host any before between
      → Turned facts start s host moves.Event between after → HasMoved host true before after
  moved_more host any before between after so_far is = record {
    count = so_far.count + 1;
    turned = turned_more host so_far.count moves.Event before between after so_far.turned is;
    goes = goes-on any true true before between after (λ e. absurd cc) so_far.goes (event-goes host between after is) (λ e. inr refl);
  }

  pub moved_falls : (host : ℕ) (past after : List Told) → Turned facts start s host moves.Event past after
      → turns_in facts s after < turns_in facts s past
  moved_falls host past after is = (event-goes host past after is).fewer refl

  moved-still : (host : ℕ) (any : Bool) (before between after : List Told) → HasMoved host any before between
      → IsStill s.hosts (progresses facts s.hosts between) host → after ≡ between → HasRun facts start s host any before after
  moved-still host any before between after so_far still e = record {
    runs = record {
      count = so_far.count;
      turns = subst (λ (l : List Told). Turns facts s.hosts host so_far.count before l) (sym e) so_far.turned.turns;
      still = subst (λ (l : List Told). IsStill s.hosts (progresses facts s.hosts l) host) (sym e) still;
    };
    goes = subst (λ (l : List Told). GoesOn facts start s any before l) (sym e) so_far.goes;
  }

  pub moved_rests : (host : ℕ) (any : Bool) (before between after : List Told) → HasMoved host any before between
      → Turned facts start s host moves.Resting between after → HasRun facts start s host any before after
  moved_rests host any before between after so_far is = moved-still host any before between after so_far (inr is.0) is.1

  pub moved_ends : (host : ℕ) (any : Bool) (before between after : List Told) → HasMoved host any before between
      → Turned facts start s host moves.Ended between after → HasRun facts start s host any before after
  moved_ends host any before between after so_far is = moved-still host any before between after so_far (inl is.0) is.1

  -- a round
  pub gone_none : (log : List Told) → HasGone facts start s 0 false log log
  gone_none log = record { round = refl; goes = goes-same log; still = λ e host below. absurd (omega arith) }

  gone-round : (host : ℕ) (any one : Bool) (before between after : List Told) → HasGone facts start s host any before between
      → HasRun facts start s host one between after → Round facts s.hosts (host + 1) before after
  gone-round host any one before between after so_far is =
      subst (λ (n : ℕ). Round facts s.hosts n before after) (sym (add-one host)) (between, so_far.round, is.runs)

  pub gone_moved : (host : ℕ) (any : Bool) (before between after : List Told) → HasGone facts start s host any before between
      → HasRun facts start s host true between after → HasGone facts start s (host + 1) true before after
  gone_moved host any before between after so_far is = record {
    round = gone-round host any true before between after so_far is;
    goes = goes-on any true true before between after (λ e. absurd cc) so_far.goes is.goes (λ e. inr refl);
    still = λ e. absurd cc;
  }

  pub gone_still : (host : ℕ) (any : Bool) (before between after : List Told) → HasGone facts start s host any before between
      → HasRun facts start s host false between after → HasGone facts start s (host + 1) any before after
  gone_still host any before between after so_far is = record {
    round = gone-round host any false before between after so_far is;
    goes = goes-on any false any before between after (λ e. (e, refl)) so_far.goes is.goes (λ e. inl e);
    still = λ e h below. elim (cases_lt h host) [
      | inl before_it ↦ subst (λ (l : List Told). IsStill s.hosts (progresses facts s.hosts l) h) (sym (is.goes.same refl))
          (so_far.still e h before_it)
      | inr here ↦ let same : host ≡ h = omega arith in
          subst (λ (k : ℕ). IsStill s.hosts (progresses facts s.hosts after) k) same is.runs.still
    ];
  }

  -- the drain
  pub record HasGoneRounds (before after : List Told) : Type 0 where
    pub rounds : ℕ
    pub gone : HasGoneRound facts start s rounds before after

  pub rounds_none : (log : List Told) → HasGoneRounds log log
  rounds_none log = record { rounds = 0; gone = record { drain = refl; follows = λ f. f } }

  pub rounds_more : (any : Bool) (before between after : List Told) → HasGoneRounds before between
      → HasGone facts start s (length s.hosts) any between after → HasGoneRounds before after
  rounds_more any before between after so_far is = record {
    rounds = suc so_far.rounds;
    gone = record { drain = (between, so_far.gone.drain, is.round); follows = λ f. is.goes.follows (so_far.gone.follows f) };
  }

  pub rounds_end : PassesAll s.hosts → (before between after : List Told) → HasGoneRounds before between
      → HasGone facts start s (length s.hosts) false between after → HasDrained facts start s before after
  rounds_end passes before between after so_far is =
      let all = rounds_more false before between after so_far is in
      record {
        rounds = all.rounds;
        drain = all.gone.drain;
        ended = all_ended facts s.hosts passes after (is.still refl);
        follows = all.gone.follows;
      }

  -- a whole replay
  none-follows : IsFollowing facts start s []
  none-follows n t at = absurd cc

  pub replay-follows : (before between after : List Told) → before ≡ [] → HasStepped facts start s s.steps (length s.steps) before between
      → HasDrained facts start s between after → IsFollowing facts start s after
  replay-follows before between after e stepped drained =
      drained.follows (stepped.follows (subst (IsFollowing facts start s) (sym e) none-follows))

  pub replay-order : (before between after : List Told) → before ≡ [] → HasStepped facts start s s.steps (length s.steps) before between
      → HasDrained facts start s between after → InReplayOrder facts s after
  replay-order before between after e stepped drained = record {
    stepped = between;
    steps = subst (λ (l : List Told). StepLines facts s.hosts s.steps (length s.steps) l between) e stepped.lines;
    rounds = drained.rounds;
    drain = drained.drain;
    ended = drained.ended;
  }
