-- Who holds no generation owes no header; so the test of a digest says whether its host rests.
use Rattle.std.proofs.Common.{◌≡◌, ℕ, Bool, true, false, cond, List, [], ◌∷◌, Option, Some, None, refl, ap}
use Rattle.std.specs.Prelude.{◌==◌, if◌then◌else◌}
use Rattle.ds_base.specs.declared.geometry.Geom.{Geom}
use Rattle.ds_conduct.specs.declared.answers.HostAnswer.{HostAnswer}
use Rattle.ds_log.specs.declared.logs.Step.{Step}
use Rattle.ds_log.specs.declared.logs.Step.TheVariants.{Local, Sent}
use Rattle.ds_conduct.specs.Digests.{Digest, Own, Owed, fresh_digest, dropped, is_lease_lost, is_some, kept_under, lost, olds, own_after, owed_after, told, told_by}
use Rattle.ds_conduct.specs.Guards.{MayRest}
use Rattle.ds_conduct.specs.Settings.{Setting}
use Rattle.ds_conduct.specs.Resting.{rests}
use Rattle.ds_conduct.proofs.Rests.{rests-MayRest}
use Rattle.ds_log.specs.Turns.{Part, Begins, Goes, Aside, Turn, started, stood, stepped, turned, digest_from, digest}

abbrev pub NoneOwed : Digest → Type 0
NoneOwed d = d.own ≡ None → d.owed ≡ []

kept-none : (own : Option Own) (owed : List Owed) → own ≡ None → kept_under own owed ≡ []
kept-none None owed none = refl
kept-none (Some own) owed none = cc

cond-owed : (b : Bool) (x y : Digest) → NoneOwed x → NoneOwed y → NoneOwed (cond b x y)
cond-owed true x y p q = p
cond-owed false x y p q = q

dropped-owed : (d : Digest) → NoneOwed (dropped d)
dropped-owed d none = refl

pub started-owed : (d : Digest) (part : Part) → NoneOwed d → NoneOwed (started d part)
started-owed d (Begins call) h none = ap olds (h none)
started-owed d Goes h none = h none
started-owed d Aside h none = h none

stood-owed : (d : Digest) (part : Part) → NoneOwed d → NoneOwed (stood d part)
stood-owed d (Begins call) h = h
stood-owed d Goes h = cond-owed (is_some d.answer) (dropped d) d (dropped-owed d) h
stood-owed d Aside h = h

told-owed : (d : Digest) (answer : Option HostAnswer) → NoneOwed d → NoneOwed (told answer d)
told-owed d None h = h
told-owed d (Some answer) h = cond-owed (is_lease_lost answer) (dropped (told_by answer d)) (told_by answer d)
    (dropped-owed (told_by answer d)) h

lost-owed : (d : Digest) (dies : Bool) → NoneOwed d → NoneOwed (lost dies d)
lost-owed d true h none = refl
lost-owed d false h none = h none

module _ (g : Geom) where
  stepped-owed : (d : Digest) (part : Part) (now : ℕ) (step : Step) → NoneOwed d → NoneOwed (stepped g d part now step)
  stepped-owed d part now Local h none = stood-owed d part h none
  stepped-owed d part now (Sent under c r landed took) h none = kept-none (own_after g d.own (is_some d.answer) now c r)
      (owed_after g d.owed c r) none

  turned-owed : (d : Digest) (t : Turn) → NoneOwed d → NoneOwed (turned g d t)
  turned-owed d t h =
      let x : Digest = stepped g (started d t.part) t.part t.event.at t.event.step in
      lost-owed (told t.answer x) t.event.dies (told-owed x t.answer (stepped-owed (started d t.part) t.part t.event.at t.event.step
      (started-owed d t.part h)))

  digest_from-owed : (i : ℕ) (d : Digest) (ts : List Turn) → NoneOwed d → NoneOwed (digest_from g i d ts)
  digest_from-owed i d [] h = h
  digest_from-owed i d (t ∷ ts) h = digest_from-owed i (if t.event.host == i then turned g d t else d) ts (cond-owed (t.event.host == i)
      (turned g d t) d (turned-owed d t h) h)

  pub none-owed : (i : ℕ) (ts : List Turn) → (digest g i ts).own ≡ None → (digest g i ts).owed ≡ []
  none-owed i ts = digest_from-owed i fresh_digest ts (λ none. refl)

-- a host rests where the test says so
pub digest-rests : (setting : Setting) (now i : ℕ) (ts : List Turn) → rests setting.geom (digest setting.geom i ts) ≡ true
    → MayRest setting (digest setting.geom i ts) now
digest-rests setting now i ts test = rests-MayRest setting (digest setting.geom i ts) now test (none-owed setting.geom i ts)
