-- A planner that asks only for what it may keeps the law of planners.
use Rattle.std.proofs.Common.{◌≡◌, ℕ, ◌≤◌, true, false, nat_eq, List, length, None, sym, subst}
use Rattle.std.specs.List.{list_any}
use Rattle.ds_base.specs.declared.geometry.Geom.{Geom}
use Rattle.ds_base.specs.declared.names.Key.{Key}
use Rattle.ds_base.specs.declared.sectors.Sector.{Sector}
use Rattle.ds_image.specs.Asking.{Agrees, HasForm, IsRight, Keeps}
use Rattle.ds_image_parts.specs.Parts.{Parts}
use Rattle.ds_image.specs.Planning.{Answers, AllAreFew}
use Rattle.ds_image_parts.specs.Readings.{ReadsParts}
use Rattle.ds_image.specs.SeenValues.{SeenValue, has_lock, look_of}
use Rattle.ds_image.specs.Sound.{StandsFor}
use Rattle.ds_image.specs.declared.asks.Ask.{Ask}
use Rattle.ds_image.specs.declared.asks.Ask.TheVariants as asks
use Rattle.ds_image.specs.Locks.{IsAllowed}
use Rattle.ds_plan_base.proofs.PlanAsks.{PlanAsks}
use Rattle.ds_plan_base.proofs.Growing.{Grows, few_of}
use Rattle.ds_tree.specs.Nodes.{FileTree}
use Rattle.ds_tree.specs.declared.calls.CallOf.{CallOf}

module _ (g : Geom) (slot : ℕ) (call : CallOf Key) (MayHold MayRead : SeenValue → Parts → ℕ → Type 0) where
  -- each answer has its form
  form_of : (seen : SeenValue) (p : Parts) (ask : Ask) → PlanAsks g slot call MayHold MayRead seen p ask → HasForm g call seen p ask
  form_of seen p (asks.Lock object) is = (is.is_lock, is.free)
  form_of seen p (asks.Read at) is = is.readable
  form_of seen p (asks.Odd at) is = is.read
  form_of seen p (asks.Worn object) is = is
  form_of seen p (asks.Done reply) is = is.block
  form_of seen p (asks.Change redo reply) is = is.targets

  -- and is right for each image that agrees with what was seen
  right_of : (seen : SeenValue) (p : Parts) (ask : Ask) → PlanAsks g slot call MayHold MayRead seen p ask
      → (image : List Sector) (t : FileTree) → StandsFor g image t → Agrees seen image → IsRight g call seen image t ask
  right_of seen p (asks.Lock object) is image t stands agrees = tt
  right_of seen p (asks.Read at) is image t stands agrees = tt
  right_of seen p (asks.Odd at) is image t stands agrees = is.none image t stands agrees
  right_of seen p (asks.Worn object) is image t stands agrees = tt
  right_of seen p (asks.Done reply) is image t stands agrees = is.does image t stands agrees
  right_of seen p (asks.Change redo reply) is image t stands agrees = is.right image t stands agrees

  pub plan_keeps : (seen : SeenValue) (p : Parts) (ask : Ask) → PlanAsks g slot call MayHold MayRead seen p ask → Keeps g call seen p ask
  plan_keeps seen p ask is = record { form = form_of seen p ask is; right = right_of seen p ask is }

  -- only allowed locks are asked for
  pub plan_allowed : (seen : SeenValue) (p : Parts) (ask : Ask) → PlanAsks g slot call MayHold MayRead seen p ask → IsAllowed g slot call p ask
  plan_allowed seen p (asks.Lock object) is = is.allowed
  plan_allowed seen p (asks.Read at) is = tt
  plan_allowed seen p (asks.Odd at) is = tt
  plan_allowed seen p (asks.Worn object) is = tt
  plan_allowed seen p (asks.Done reply) is = tt
  plan_allowed seen p (asks.Change redo reply) is = tt

  lock-asked : (seen : SeenValue) (p : Parts) (object : ℕ) (ask : Ask) → asks.Lock object ≡ ask → PlanAsks g slot call MayHold MayRead seen p ask
      → (has_lock seen object ≡ false) × MayHold seen p object
  lock-asked seen p object ask same is =
      let good : PlanAsks g slot call MayHold MayRead seen p (asks.Lock object) = subst (PlanAsks g slot call MayHold MayRead seen p) (sym same) is in
      (good.free, good.one)

  read-asked : (seen : SeenValue) (p : Parts) (at : ℕ) (ask : Ask) → asks.Read at ≡ ask → PlanAsks g slot call MayHold MayRead seen p ask
      → (look_of seen at ≡ None) × MayRead seen p at
  read-asked seen p at ask same is =
      let good : PlanAsks g slot call MayHold MayRead seen p (asks.Read at) = subst (PlanAsks g slot call MayHold MayRead seen p) (sym same) is in
      (good.readable.unread, good.one)

  -- where what it may come to hold and read stays so, and is in short lists, few locks and sectors are asked for
  pub plan_few : (answers : Answers) → ((seen : SeenValue) (p : Parts) → ReadsParts g (look_of seen) p → PlanAsks g slot call MayHold MayRead seen p (answers seen p))
      → ((seen next : SeenValue) (p q : Parts) → Grows seen next → ReadsParts g (look_of seen) p → ReadsParts g (look_of next) q → (object : ℕ) → MayHold seen p object → MayHold next q object)
      → ((seen next : SeenValue) (p q : Parts) → Grows seen next → ReadsParts g (look_of seen) p → ReadsParts g (look_of next) q → (at : ℕ) → MayRead seen p at → MayRead next q at)
      → (lock_list sector_list : SeenValue → Parts → List ℕ)
      → ((seen : SeenValue) (p : Parts) → ReadsParts g (look_of seen) p → (k : ℕ) → MayHold seen p k → list_any (nat_eq k) (lock_list seen p) ≡ true)
      → ((seen : SeenValue) (p : Parts) → ReadsParts g (look_of seen) p → (k : ℕ) → MayRead seen p k → list_any (nat_eq k) (sector_list seen p) ≡ true)
      → ((seen : SeenValue) (p : Parts) → ReadsParts g (look_of seen) p → length (lock_list seen p) ≤ 22)
      → ((seen : SeenValue) (p : Parts) → ReadsParts g (look_of seen) p → length (sector_list seen p) ≤ 255)
      → AllAreFew g answers
  plan_few answers each locks_stay sectors_stay =
      few_of g answers MayHold MayRead (record {
        locks = λ seen p reads object asked. lock-asked seen p object (answers seen p) asked (each seen p reads);
        sectors = λ seen p reads at asked. read-asked seen p at (answers seen p) asked (each seen p reads);
        locks_stay = locks_stay;
        sectors_stay = sectors_stay;
      })
