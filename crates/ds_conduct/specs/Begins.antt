-- How a call begins: it is answered at once, or commands follow.
use Rattle.std.specs.Prelude.{◌≡◌, ◌≢◌, ◌+◌, ◌^◌, ◌<◌, ◌≤◌, [], length, Option, None, Some, ⊤}
use Rattle.std.specs.List.{Contains}
use Rattle.ds_base.specs.declared.names.Key.{Key}
use Rattle.ds_marks.specs.SlotIn.{slot_in}
use Rattle.ds_marks.specs.declared.slot.Slot.{Slot}
use Rattle.ds_tree.specs.CallNames.{HasNames}
use Rattle.ds_tree.specs.declared.calls.CallOf.TheVariants.{OpenFile}
use Rattle.ds_tree.specs.declared.calls.HostCallOf.{HostCallOf}
use Rattle.ds_tree.specs.declared.calls.HostCallOf.TheVariants as calls
use Rattle.ds_conduct.specs.Digests.{Own, Digest}
use Rattle.ds_conduct.specs.declared.answers.HostAnswer.{HostAnswer}
use Rattle.ds_conduct.specs.declared.answers.HostAnswer.TheVariants.{BadName, NotOpen, OpenFull, StillOpen, Unregistered, WornOut}

-- the words of the call are names
abbrev pub AreNames : HostCallOf Key → Type 0
AreNames (calls.Tree call) = HasNames call
AreNames call = ⊤

-- the call needs no generation
abbrev pub IsRegister : HostCallOf Key → Type 0
IsRegister calls.Register = ⊤
IsRegister call = ⊥

-- the call is for a file that isn't held open
abbrev pub IsNotOpen : Digest → HostCallOf Key → Type 0
IsNotOpen d (calls.Close file) = Contains d.files file → ⊥
IsNotOpen d (calls.Put file sector fill) = Contains d.files file → ⊥
IsNotOpen d (calls.Get file sector) = Contains d.files file → ⊥
IsNotOpen d call = ⊥

-- a file is held open that may not be: any, or one of the same object
abbrev pub IsStillOpen : Digest → HostCallOf Key → Type 0
IsStillOpen d calls.Unregister = d.files ≢ []
IsStillOpen d (calls.Tree (OpenFile file)) = (other : Key) × Contains d.files other × (other.object ≡ file.object)
IsStillOpen d call = ⊥

-- as many files are held open as may be
abbrev pub IsOpenFull : Digest → HostCallOf Key → Type 0
IsOpenFull d (calls.Tree (OpenFile file)) = 16 ≤ length d.files
IsOpenFull d call = ⊥

-- the own slot's stamp hasn't room for a call
pub record IsStampWorn (d : Digest) : Type 0 where
  pub own : Own
  pub holds : d.own ≡ Some own
  pub image : Slot
  pub spelled : slot_in own.slot own.image.bytes ≡ Some image
  pub worn : 2 ^ 62 < image.stamp + 4096

-- what is looked at before this answer doesn't hold
abbrev pub IsRegistered : Digest → HostCallOf Key → Type 0
IsRegistered d call = AreNames call × (d.own ≡ None → IsRegister call)

abbrev pub IsOpenEnough : Digest → HostCallOf Key → Type 0
IsOpenEnough d call = IsRegistered d call × (IsNotOpen d call → ⊥) × (IsStillOpen d call → ⊥) × (IsOpenFull d call → ⊥)

-- the answer with which a call ends at once, exactly where it does: the first whose condition holds
abbrev pub BeginsWith : Digest → HostCallOf Key → Option HostAnswer → Type 0
BeginsWith d call None = IsOpenEnough d call × (IsStampWorn d → ⊥)
BeginsWith d call (Some BadName) = AreNames call → ⊥
BeginsWith d call (Some Unregistered) = AreNames call × (d.own ≡ None) × (IsRegister call → ⊥)
BeginsWith d call (Some NotOpen) = IsRegistered d call × IsNotOpen d call
BeginsWith d call (Some StillOpen) = IsRegistered d call × (IsNotOpen d call → ⊥) × IsStillOpen d call
BeginsWith d call (Some OpenFull) = IsRegistered d call × (IsNotOpen d call → ⊥) × (IsStillOpen d call → ⊥) × IsOpenFull d call
BeginsWith d call (Some WornOut) = IsOpenEnough d call × IsStampWorn d
BeginsWith d call (Some answer) = ⊥
