-- Where a host rests, and where it goes on.
use Rattle.std.proofs.Common.{◌≡◌, zero, suc, ◌&&◌, Bool, true, false, List, [], ◌∷◌, Option, Some, None, refl, ◌∙◌, ap, subst, arith}
use Rattle.std.specs.Prelude.{◌||◌, not}
use Rattle.std.specs.List.{Contains, list_any}
use Rattle.std.proofs.lemmas.Bool.{and_from, and_right, or_right}
use Rattle.ds_base.specs.declared.geometry.Geom.{Geom}
use Rattle.ds_base.specs.declared.names.Key.{Key}
use Rattle.ds_tree.specs.declared.calls.HostCallOf.{HostCallOf}
use Rattle.ds_marks.specs.SlotIn.{slot_in}
use Rattle.ds_conduct.specs.Digests.{Digest, Own, Owed, is_some}
use Rattle.ds_conduct.specs.Marks.{has_idle}
use Rattle.ds_conduct.specs.Resting.{is_done, is_given, rests}
use Rattle.ds_conduct.specs.declared.answers.HostAnswer.{HostAnswer}

any-none : (p : Owed → Bool) (xs : List Owed) → ((o : Owed) → Contains xs o → p o ≡ false) → list_any p xs ≡ false
any-none p [] none = refl
any-none p (x ∷ xs) none =
    ap (λ b. b || list_any p xs) (none x (0, omega arith, refl))
    ∙ any-none p xs (λ o has. none o (suc has.0, omega (arith, has.1), has.2))

any-one : (p : Owed → Bool) (xs : List Owed) (o : Owed) → Contains xs o → p o ≡ true → list_any p xs ≡ true
any-one p [] o (k, within, is) test = absurd (let f : ⊥ = omega (arith, within) in f)
any-one p (x ∷ xs) o (zero, within, is) test = ap (λ b. b || list_any p xs) (ap p is ∙ test)
any-one p (x ∷ xs) o (suc k, within, is) test = or_right (p x) (list_any p xs) (any-one p xs o (k, omega (arith, within), is) test)

-- the own journal is idle, if a generation is held
abbrev pub IsIdleUnder : Option Own → Type 0
IsIdleUnder own = (held : Own) → own ≡ Some held → has_idle (slot_in held.slot held.image.bytes) ≡ true

module _ (g : Geom) (d : Digest) where
  -- between two calls, with an idle journal and no header that a tail gives back, it rests
  done-when : IsIdleUnder d.own → ((o : Owed) → Contains d.owed o → is_given g d o ≡ false) → is_done g d d.own ≡ true
  done-when idle none = by_own d.own refl
    where
      by_own : (own : Option Own) → d.own ≡ own → is_done g d own ≡ true
      by_own None is = refl
      by_own (Some own) is = and_from (has_idle (slot_in own.slot own.image.bytes)) (not (list_any (is_given g d) d.owed)) (idle own is)
          (ap not (any-none (is_given g d) d.owed none))

  pub rests-before : d.call ≡ None → IsIdleUnder d.own → ((o : Owed) → Contains d.owed o → is_given g d o ≡ false) → rests g d ≡ true
  rests-before none idle given =
      ap (λ (c : Option (HostCallOf Key)). (not (is_some c) || is_some d.answer) && is_done g d d.own) none ∙ done-when idle given

  pub rests-answered : (answer : HostAnswer) → d.answer ≡ Some answer → IsIdleUnder d.own
      → ((o : Owed) → Contains d.owed o → is_given g d o ≡ false) → rests g d ≡ true
  rests-answered answer told idle given = and_from (not (is_some d.call) || is_some d.answer) (is_done g d d.own) (or_right (not (is_some
      d.call)) (is_some d.answer) (ap is_some told)) (done-when idle given)

  none-owed : d.owed ≡ [] → (o : Owed) → Contains d.owed o → is_given g d o ≡ false
  none-owed none o has = absurd (let h : Contains [] o = subst (λ l. Contains l o) none has in let f : ⊥ = omega (arith, h.1) in f)

  -- where no header is owed
  pub rests-before-none : d.call ≡ None → IsIdleUnder d.own → d.owed ≡ [] → rests g d ≡ true
  rests-before-none none idle owed = rests-before none idle (none-owed owed)

  pub rests-answered-none : (answer : HostAnswer) → d.answer ≡ Some answer → IsIdleUnder d.own → d.owed ≡ [] → rests g d ≡ true
  rests-answered-none answer told idle owed = rests-answered answer told idle (none-owed owed)

  -- without a generation there is nothing to do
  pub rests-bare : (answer : HostAnswer) → d.answer ≡ Some answer → d.own ≡ None → rests g d ≡ true
  rests-bare answer told none = and_from (not (is_some d.call) || is_some d.answer) (is_done g d d.own) (or_right (not (is_some d.call))
      (is_some d.answer) (ap is_some told)) (ap (is_done g d) none)

  -- before the answer it goes on
  pub goes-on-unanswered : (call : HostCallOf Key) → d.call ≡ Some call → d.answer ≡ None → rests g d ≡ false
  goes-on-unanswered call made unanswered =
      ap (λ (c : Option (HostCallOf Key)). (not (is_some c) || is_some d.answer) && is_done g d d.own) made
      ∙ ap (λ (w : Option HostAnswer). is_some w && is_done g d d.own) unanswered

  -- in a tail it goes on while a header is given back, or the journal has a committed transaction
  pub goes-on-gives : (own : Own) (o : Owed) → d.own ≡ Some own → Contains d.owed o → is_given g d o ≡ true → rests g d ≡ false
  goes-on-gives own o holds has given =
      and_right (not (is_some d.call) || is_some d.answer) (is_done g d d.own) (ap (is_done g d) holds
      ∙ and_right (has_idle (slot_in own.slot own.image.bytes)) (not (list_any (is_given g d) d.owed)) (ap not (any-one (is_given g d)
      d.owed o has given)))

  pub goes-on-committed : (own : Own) → d.own ≡ Some own → has_idle (slot_in own.slot own.image.bytes) ≡ false → rests g d ≡ false
  goes-on-committed own holds busy = and_right (not (is_some d.call) || is_some d.answer) (is_done g d d.own) (ap (is_done g d) holds
      ∙ ap (λ b. b && not (list_any (is_given g d) d.owed)) busy)
