-- The taking of a lock as a part of a call: what holds while it goes on, and what its end shows.
use Rattle.std.specs.Prelude.{◌≡◌, ◌≢◌, ℕ, ◌^◌, ◌<◌, true, List, [], ◌∷◌, ◌++◌, length, Some, None}
use Rattle.ds_base.specs.Exchanges.{Exchange, IsLast, seen_of}
use Rattle.ds_base.specs.declared.commands.Response.TheVariants.{Got}
use Rattle.ds_base.specs.declared.geometry.Geom.{Geom}
use Rattle.ds_base.specs.declared.sectors.Sector.{Sector}
use Rattle.ds_conduct.specs.Causes.{ReadsSlot}
use Rattle.ds_conduct.specs.Digests.{Digest, Own}
use Rattle.ds_conduct.specs.Exchanges.{SwapOf}
use Rattle.ds_conduct.specs.Guards.{MayBreak}
use Rattle.ds_conduct.specs.Headers.{owner_of}
use Rattle.ds_conduct.specs.Settings.{Setting}
use Rattle.ds_lock.specs.Locking.{header_image, lock_sector, read_of, slot_image, slot_sector, taken_from}
use Rattle.ds_lock.specs.Stages.{Agrees, IsWanted, LockValue}
use Rattle.ds_lock.specs.declared.steps.Wanted.{Wanted}
use Rattle.ds_marks.specs.Header.{IsHeader}
use Rattle.ds_marks.specs.declared.header.Header.{Header}
use Rattle.ds_marks.specs.declared.slot.Slot.{Slot}
use Rattle.ds_marks.specs.declared.slot.SlotState.{SlotState}
use Rattle.ds_marks.specs.declared.slot.SlotState.TheVariants.{Live, Breaking}

-- the first of these exchanges is a Read that gave the header
pub record HasBegun (w : Wanted) (xs : List Exchange) : Type 0 where
  pub later : List Exchange
  pub sector : Sector
  pub tick : ℕ
  pub parts : xs ≡ later ++ read_of (lock_sector w.geom w.object) sector tick ∷ []

-- a call that isn't answered yet takes a lock by this run: it has sent and heard xs since the run began, and ys before
pub record IsTaking (setting : Setting) (d : Digest) (own : Own) (run : LockValue) (xs ys : List Exchange) : Type 0 where
  pub geom : run.wanted.geom ≡ setting.geom
  pub owner : run.wanted.own ≡ owner_of setting own
  pub is_wanted : IsWanted run.wanted
  pub host_size : length setting.host ≡ 16
  pub holds : d.own ≡ Some own
  pub unanswered : d.answer ≡ None
  pub parts : d.exchanges ≡ xs ++ ys
  pub agrees : Agrees run xs
  -- where a Swap missed, the run had begun with its header
  pub begun : run.missed ≡ true → HasBegun run.wanted xs

-- the lock is the host's by the newest exchange: a Swap that took the header, or a Read that found it held
pub data IsGot (w : Wanted) (x : Exchange) : Type 0 where
  Taken : (h : Header) → IsHeader h → h.object ≡ w.object → h.generation < 2 ^ 62
      → SwapOf x (lock_sector w.geom w.object) (header_image h) (header_image (taken_from w.own h)) → IsGot w x
  Found : (sector : Sector) → x.response ≡ Got sector → IsGot w x

-- a slot that is to be broken is live, or is being broken
pub data IsBreakable : SlotState → Type 0 where
  OfLive : IsBreakable Live
  OfBreaking : (by generation : ℕ) → IsBreakable (Breaking by generation)

-- a Read gave this image of a slot of others, which is to be broken
pub record ReadsBreakable (g : Geom) (own : Own) (xs : List Exchange) (slot : ℕ) (image : Slot) : Type 0 where
  pub reads : ReadsSlot g xs slot image
  pub other : slot ≢ own.slot
  pub breakable : IsBreakable image.state
  pub room : image.generation < 2 ^ 62

-- the call may break this slot, as it stood when it was shown last
pub record MayBeBroken (setting : Setting) (d : Digest) (now slot : ℕ) (image : Slot) : Type 0 where
  pub last : IsLast (seen_of d.exchanges) (slot_sector setting.geom slot) (slot_image slot image)
  pub may : MayBreak setting d now last.newer slot (slot_image slot image) image.state
