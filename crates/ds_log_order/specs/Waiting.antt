-- For whom a host rests, and when its turn is an event.
use Rattle.std.specs.Prelude.{◌≡◌, ℕ, ◌≤◌, ◌<◌, ◌⊎◌, min, List, length, slice_get, Option, Some, None}
use Rattle.ds_tree.specs.PlainPass.{list_at}
use Rattle.ds_tree.specs.declared.scenarios.Directive.{Directive}
use Rattle.ds_tree.specs.declared.scenarios.Directive.TheVariants as directives
use Rattle.ds_tree.specs.declared.scenarios.HostPlan.{HostPlan}
use Rattle.ds_log_order.specs.Progress.{at_start}
use Rattle.ds_log_order.specs.declared.progress.Arm.{Arm}
use Rattle.ds_log_order.specs.declared.progress.Arm.TheVariants as arms
use Rattle.ds_log_order.specs.declared.progress.Progress.{Progress}
use Rattle.ds_log_order.specs.declared.progress.Stance.{Stance}
use Rattle.ds_log_order.specs.declared.progress.Stance.TheVariants as stances

-- for which host a hold that has bitten lets a host wait, and until which of its directives
abbrev pub bitten_of : Arm → Option (ℕ × ℕ)
bitten_of (arms.Bitten host number) = Some (host, number)
bitten_of _ = None

-- for which host a host waits now, if it does, and until which of its directives
abbrev pub waits : Option Directive → Arm → Option (ℕ × ℕ)
waits (Some (directives.Wait host number)) arm = Some (host, number)
waits (Some (directives.Call call bind)) arm = bitten_of arm
waits _ arm = None

module _ (plans : List HostPlan) (at : ℕ → Progress) where
  -- the directive that a host carries out next
  abbrev pub due : ℕ → Option Directive
  due host = slice_get (list_at plans host) (at host).finished

  -- a host has finished the directive with this number, or its whole list
  abbrev pub HasFinished : ℕ → ℕ → Type 0
  HasFinished host number = min number (length (list_at plans host)) ≤ (at host).finished

  -- a host's list is at its end
  abbrev pub HasEnded : ℕ → Type 0
  HasEnded host = length (list_at plans host) ≤ (at host).finished

  -- a host rests: its wait, or a hold that has bitten, isn't met
  pub record IsResting (host : ℕ) : Type 0 where
    pub other : ℕ
    pub number : ℕ
    pub for_it : waits (due host) (at host).arm ≡ Some (other, number)
    pub ahead : (at other).finished < min number (length (list_at plans other))

  -- a turn of the host is nothing
  abbrev pub IsStill : ℕ → Type 0
  IsStill host = HasEnded host ⊎ IsResting host

  -- a turn of the host is an event: it carries out this directive, for which it needn't rest
  pub record IsGoing (host : ℕ) (directive : Directive) : Type 0 where
    pub is_due : due host ≡ Some directive
    pub met : (other number : ℕ) → waits (Some directive) (at host).arm ≡ Some (other, number) → HasFinished other number

  -- which of the three holds
  abbrev pub Stands : ℕ → Stance → Type 0
  Stands host stances.Ended = HasEnded host
  Stands host stances.Resting = IsResting host
  Stands host stances.Going = (directive : Directive) × IsGoing host directive

-- the progress of a host that may be in a list; one that isn't has done nothing
abbrev pub progress_of : Option Progress → Progress
progress_of None = at_start
progress_of (Some p) = p

-- the progress of a host, as a list has it
abbrev pub progress_in : List Progress → ℕ → Progress
progress_in kept host = progress_of (slice_get kept host)
