-- The pass of a run that takes a lock: how it goes on with one more exchange.
use Rattle.std.proofs.Common.{◌≡◌, ◌≢◌, ℕ, Bool, true, false, List, [], ◌∷◌, ◌++◌, refl, sym, ap, subst, ◌∙◌}
use Rattle.std.proofs.lemmas.List.{append-nil}
use Rattle.ds_base.specs.Exchanges.{Exchange}
use Rattle.ds_base.specs.declared.commands.Response.{Response}
use Rattle.ds_base.specs.declared.commands.Response.TheVariants.{Got, Done, Miscompare, Fault}
use Rattle.ds_base.specs.declared.sectors.Sector.{Sector}
use Rattle.ds_lock.specs.Locking.{HasNoMiss, IsAfterMiss, IsNoMiss, IsShown, Misses, header_image, lock_sector, read_of}
use Rattle.ds_lock.specs.Stages.{IsPass}
use Rattle.ds_lock.specs.declared.steps.Wanted.{Wanted}
use Rattle.ds_marks.specs.declared.header.Header.{Header}
use Rattle.ds_marks.proofs.Headers.{header_same}

pub head-same : {X : Type 0} (xs ys : List X) (x y : X) → x ∷ xs ≡ y ∷ ys → x ≡ y
head-same xs ys x y same = cc

pub tail-same : {X : Type 0} (xs ys : List X) (x y : X) → x ∷ xs ≡ y ∷ ys → xs ≡ ys
tail-same xs ys x y same = cc

-- the last elements of one list are one
pub last-same : {X : Type 0} (ls ms : List X) (a b : X) → ls ++ a ∷ [] ≡ ms ++ b ∷ [] → a ≡ b
last-same [] [] a b same = cc
last-same [] (y ∷ []) a b same = absurd cc
last-same [] (y ∷ z ∷ ms) a b same = absurd cc
last-same (x ∷ []) [] a b same = absurd cc
last-same (x ∷ z ∷ ls) [] a b same = absurd cc
last-same (x ∷ ls) (y ∷ ms) a b same = last-same ls ms a b (cc)

-- the last element stands behind another one
pub last-behind : {X : Type 0} (front older ls : List X) (x a : X) → x ≢ a → front ++ x ∷ older ≡ ls ++ a ∷ []
    → (middle : List X) × (older ≡ middle ++ a ∷ [])
last-behind [] older [] x a differs same = absurd (differs (cc))
last-behind [] older (y ∷ ls) x a differs same = (ls, cc)
last-behind (z ∷ []) older [] x a differs same = absurd cc
last-behind (z ∷ u ∷ front) older [] x a differs same = absurd cc
last-behind (z ∷ front) older (y ∷ ls) x a differs same = last-behind front older ls x a differs (cc)

missed-not : (w : Wanted) (x : Exchange) (earlier : List Exchange) → Misses w x earlier → IsNoMiss x.response → ⊥
missed-not w x earlier misses none = subst (λ (y : Exchange). IsNoMiss y.response) misses.is none

none-behind : (ls cs : List Exchange) (a : Exchange) → HasNoMiss (ls ++ a ∷ cs) → IsNoMiss a.response
none-behind [] cs a none = none.0
none-behind (x ∷ ls) cs a none = none-behind ls cs a none.1

-- one miss has one place
one-miss : (ls ms cs ds : List Exchange) (a b : Exchange) → ls ++ a ∷ cs ≡ ms ++ b ∷ ds → HasNoMiss ls → HasNoMiss ms
    → (IsNoMiss a.response → ⊥) → (IsNoMiss b.response → ⊥) → ls ≡ ms
one-miss [] [] cs ds a b same none nor is is' = refl
one-miss [] (y ∷ ms) cs ds a b same none nor is is' =
    let first : y ≡ a = cc in absurd (is (subst (λ (z : Exchange). IsNoMiss z.response) first nor.0))
one-miss (x ∷ ls) [] cs ds a b same none nor is is' =
    let first : x ≡ b = cc in absurd (is' (subst (λ (z : Exchange). IsNoMiss z.response) first none.0))
one-miss (x ∷ ls) (y ∷ ms) cs ds a b same none nor is is' =
    let first : x ≡ y = cc in
    let rest : ls ≡ ms = one-miss ls ms cs ds a b (cc) none.1 nor.1 is is' in
    cc

-- where a Swap missed before the pass, one missed
pub has-missed : (w : Wanted) (xs pass : List Exchange) → IsAfterMiss w xs pass → HasNoMiss xs → ⊥
has-missed w xs pass is none = missed-not w is.first is.earlier is.misses (none-behind pass is.earlier is.first (subst HasNoMiss is.parts
    none))

-- what came before the pass
pub pass-front : (w : Wanted) (missed : Bool) (xs pass : List Exchange) → IsPass w missed xs pass
    → (older : List Exchange) × (xs ≡ pass ++ older)
pass-front w false xs pass is = ([], is.0 ∙ sym (append-nil pass))
pass-front w true xs pass is = (is.first ∷ is.earlier, is.parts)

-- one more exchange lengthens the pass, or is a Swap that misses
pub data IsPassAfter (x : Exchange) (pass after : List Exchange) : Type 0 where
  Longer : after ≡ x ∷ pass → IsNoMiss x.response → IsPassAfter x pass after
  Anew : after ≡ [] → (IsNoMiss x.response → ⊥) → IsPassAfter x pass after

module _ (w : Wanted) (x : Exchange) (xs pass : List Exchange) where
  pass-missed : (missed : Bool) (after : List Exchange) → IsPass w missed xs pass → (is : IsAfterMiss w (x ∷ xs) after)
      → IsPassAfter x pass after
  pass-missed missed [] before is =
      let first : x ≡ is.first = let same : x ∷ xs ≡ is.first ∷ is.earlier = is.parts in cc in
      Anew refl (λ none. missed-not w is.first is.earlier is.misses (subst (λ (z : Exchange). IsNoMiss z.response) first none))
  pass-missed false (y ∷ after) before is =
      let same : x ∷ xs ≡ y ∷ (after ++ is.first ∷ is.earlier) = is.parts in
      let rest : pass ≡ after ++ is.first ∷ is.earlier = let e : xs ≡ pass = before.0 in cc in
      absurd (missed-not w is.first is.earlier is.misses (none-behind after is.earlier is.first (subst HasNoMiss rest before.1)))
  pass-missed true (y ∷ after) before is =
      let same : x ∷ xs ≡ y ∷ (after ++ is.first ∷ is.earlier) = is.parts in
      let first : y ≡ x = cc in
      let behind : xs ≡ after ++ is.first ∷ is.earlier = tail-same xs (after ++ is.first ∷ is.earlier) x y same in
      let rest : after ++ is.first ∷ is.earlier ≡ pass ++ before.first ∷ before.earlier = sym behind ∙ before.parts in
      let one : after ≡ pass = one-miss after pass is.earlier before.earlier is.first before.first rest is.none_since.1 before.none_since
      (missed-not w is.first is.earlier is.misses) (missed-not w before.first before.earlier before.misses) in
      Longer (cc) (subst (λ (z : Exchange). IsNoMiss z.response) first is.none_since.0)

  pass-unmissed : (missed : Bool) (after : List Exchange) → IsPass w missed xs pass → x ∷ xs ≡ after → HasNoMiss after
      → IsPassAfter x pass after
  pass-unmissed false after before same none =
      let e : xs ≡ pass = before.0 in
      Longer (cc) (subst HasNoMiss (sym same) none).0
  pass-unmissed true after before same none =
      absurd (missed-not w before.first before.earlier before.misses
      (none-behind pass before.earlier before.first (subst HasNoMiss before.parts (subst HasNoMiss (sym same) none).1)))

  pub pass-after : (missed missed' : Bool) (after : List Exchange) → IsPass w missed xs pass → IsPass w missed' (x ∷ xs) after
      → IsPassAfter x pass after
  pass-after missed false after before is = pass-unmissed missed after before is.0 is.1
  pass-after missed true after before is = pass-missed missed after before is

abbrev sector_given : Sector → Response → Sector
sector_given other (Got sector) = sector
sector_given other Done = other
sector_given other (Miscompare offset) = other
sector_given other Fault = other

-- a header that stays shown is the same one
pub shown-same : (w : Wanted) (x : Exchange) (pass : List Exchange) (h k : Header) → IsShown w pass h → IsShown w (x ∷ pass) k → h ≡ k
shown-same w x pass h k one other =
    let at : ℕ = lock_sector w.geom w.object in
    let lists : (x ∷ one.later) ++ read_of at (header_image h) one.tick ∷ [] ≡ other.later ++ read_of at (header_image k) other.tick ∷ [] =
    ap (λ (l : List Exchange). x ∷ l) (sym one.parts) ∙ other.parts in
    let reads = last-same (x ∷ one.later) other.later (read_of at (header_image h) one.tick)
    (read_of at (header_image k) other.tick) lists in
    header_same h k one.is_header other.is_header
    (ap (λ (y : Exchange). (sector_given (header_image h) y.response).bytes) reads)
