-- What holds at each moment of a log.
use Rattle.std.specs.Prelude.{◌≡◌, ℕ, ◌≤◌, List, length, take, slice_get, Some}
use Rattle.ds_log.specs.declared.logs.Event.{Event}

-- at every moment, which is a front of the log
abbrev pub AtEveryMoment : (List Event → Type 0) → List Event → Type 0
AtEveryMoment P events = (n : ℕ) → n ≤ length events → P (take n events)

-- of each element of a list, with those before it
abbrev pub Each : {A : Type 0} → (List A → A → Type 0) → List A → Type 0
Each {A} P xs = (n : ℕ) (x : A) → slice_get xs n ≡ Some x → P (take n xs) x

-- of each event, with those before it
abbrev pub EachEvent : (List Event → Event → Type 0) → List Event → Type 0
EachEvent P events = Each P events
