-- What every event keeps: the image of the store, what calls know of it, objects under other locks, and the history.
use Rattle.std.proofs.Common.{◌≡◌, ◌≢◌, ℕ, ◌≤◌, List, length, Option, Some, None, refl, ◌∙◌, length-set, arith}
use Rattle.ds_base.specs.Geometry.{IsGeom}
use Rattle.ds_base.specs.declared.geometry.Geom.{Geom}
use Rattle.ds_base.specs.declared.sectors.Sector.{Sector}
use Rattle.ds_layout.specs.Places.{blocks_at, place_sector}
use Rattle.ds_layout.specs.declared.places.Place.TheVariants as places
use Rattle.ds_tree.specs.Nodes.{FileTree, object_at}
use Rattle.ds_image.specs.SeenValues.{HoldsLock, SeenValue, look_of}
use Rattle.ds_image_parts.specs.Looks.{Look}
use Rattle.ds_image_laws.specs.Calls.{CallKnows}
use Rattle.ds_image_laws.specs.ImageSteps.{Commit, IsFree, ImageStep, Elsewhere, Placed, Renewed, Retired, Committed, with_commit, ImageRun, Begun, Went, DoAll, DoNone, DoOne}
use Rattle.ds_image_laws.specs.Kept.{Knows}
use Rattle.ds_image_laws.specs.Owners.{Names}
use Rattle.ds_image_laws.specs.Shown.{HoldsImage}
use Rattle.ds_image_laws.proofs.Images.{committed-known}
use Rattle.ds_image_laws.proofs.KeptObjects.{object-kept}
use Rattle.ds_image_laws.proofs.Known.{laid-outside}
use Rattle.ds_image_laws.proofs.Owners.{owners-apart}
use Rattle.ds_image_laws.proofs.Steps.{step-elsewhere, step-put, step-renewed, step-retired, step-committed}

-- the store keeps its size
pub step-length : (g : Geom) (sectors image : List Sector) (t : FileTree) (commit : Option Commit) (sectors' image' : List Sector) (u : FileTree)
    → ImageStep g sectors image t commit sectors' image' u → length sectors' ≡ length sectors
step-length g sectors image t _ _ _ _ (Elsewhere place s inside not harmless idle) = length-set sectors (place_sector g place) s
step-length g sectors image t _ _ _ _ (Placed slot pairs i pair within are got) = length-set sectors pair.0 pair.1
step-length g sectors image t _ _ _ _ (Renewed slot s old new written generation journal) = length-set sectors (place_sector g (places.Slot slot)) s
step-length g sectors image t _ _ _ _ (Retired slot s old new pairs written are stand idle) = length-set sectors (place_sector g (places.Slot slot)) s
step-length g sectors image t _ _ _ _ (Committed slot s old new call pairs reply written idle generation journal commits) = length-set sectors (place_sector g (places.Slot slot)) s

-- the image of the store
pub step-holds : (g : Geom) (is : IsGeom g) (sectors image : List Sector) (t : FileTree) (commit : Option Commit) (sectors' image' : List Sector) (u : FileTree)
    → blocks_at g ≤ length sectors → HoldsImage g sectors (Names g sectors) image t → ImageStep g sectors image t commit sectors' image' u
    → HoldsImage g sectors' (Names g sectors') image' u
step-holds g is sectors image t _ _ _ _ whole holds (Elsewhere place s inside not harmless idle) =
    step-elsewhere g is sectors image t whole holds place inside s not harmless idle
step-holds g is sectors image t _ _ _ _ whole holds (Placed slot pairs i pair within are got) =
    step-put g is sectors image t whole holds slot pairs i pair within are got
step-holds g is sectors image t _ _ _ _ whole holds (Renewed slot s old new written generation journal) =
    step-renewed g is sectors image t whole holds slot written.within s old new written.was written.now generation journal
step-holds g is sectors image t _ _ _ _ whole holds (Retired slot s old new pairs written are stand idle) =
    step-retired g is sectors image t whole holds slot written.within s old new written.was written.now pairs are stand idle
step-holds g is sectors image t _ _ _ _ whole holds (Committed slot s old new call pairs reply written idle generation journal commits) =
    step-committed g is sectors image t whole holds slot written.within s old new written.was written.now pairs commits.u idle generation journal commits.lays

-- what is known under lock objects that aren't the committer's
pub step-knows : (g : Geom) (is : IsGeom g) (sectors image : List Sector) (t : FileTree) (commit : Option Commit) (sectors' image' : List Sector) (u : FileTree)
    (Held : ℕ → Type 0) (look : Look) → HoldsImage g sectors (Names g sectors) image t → ImageStep g sectors image t commit sectors' image' u
    → ((object : ℕ) → Held object → IsFree g sectors commit object) → Knows g Held look image → Knows g Held look image'
step-knows g is sectors image t _ _ _ _ Held look holds (Elsewhere place s inside not harmless idle) free knows = knows
step-knows g is sectors image t _ _ _ _ Held look holds (Placed slot pairs i pair within are got) free knows = knows
step-knows g is sectors image t _ _ _ _ Held look holds (Renewed slot s old new written generation journal) free knows = knows
step-knows g is sectors image t _ _ _ _ Held look holds (Retired slot s old new pairs written are stand idle) free knows = knows
step-knows g is sectors image t _ _ _ _ Held look holds (Committed slot s old new call pairs reply written idle generation journal commits) free knows =
    committed-known g is sectors image (Names g sectors) t holds (owners-apart g sectors) slot pairs commits.u commits.lays Held look free knows

-- an object whose lock isn't the committer's
pub step-object : (g : Geom) (is : IsGeom g) (sectors image : List Sector) (t : FileTree) (commit : Option Commit) (sectors' image' : List Sector) (u : FileTree) (object : ℕ)
    → HoldsImage g sectors (Names g sectors) image t → ImageStep g sectors image t commit sectors' image' u → IsFree g sectors commit object
    → object_at u object ≡ object_at t object
step-object g is sectors image t _ _ _ _ object holds (Elsewhere place s inside not harmless idle) free = refl
step-object g is sectors image t _ _ _ _ object holds (Placed slot pairs i pair within are got) free = refl
step-object g is sectors image t _ _ _ _ object holds (Renewed slot s old new written generation journal) free = refl
step-object g is sectors image t _ _ _ _ object holds (Retired slot s old new pairs written are stand idle) free = refl
step-object g is sectors image t _ _ _ _ object holds (Committed slot s old new call pairs reply written idle generation journal commits) free =
    object-kept g image _ t commits.u (Names g sectors slot) object holds.stands commits.lays.stands
    (laid-outside g (Names g sectors slot) image pairs is commits.lays.before) free

-- a lock object of another slot is not one of who commits
pub free-of_others : (g : Geom) (sectors : List Sector) (c : Option Commit) (number : ℕ) → ((d : Commit) → c ≡ Some d → d.slot ≢ number)
    → (object : ℕ) → Names g sectors number object → IsFree g sectors c object
free-of_others g sectors None number apart object names = tt
free-of_others g sectors (Some d) number apart object names = λ theirs. apart d refl (owners-apart g sectors d.slot number object theirs names)

-- a call of a host whose slot doesn't commit, and whose locks name its slot after the event
pub step-call : (g : Geom) (is : IsGeom g) (sectors image : List Sector) (t : FileTree) (commit : Option Commit) (sectors' image' : List Sector) (u : FileTree)
    (number : ℕ) (seen : SeenValue) → HoldsImage g sectors (Names g sectors) image t → ImageStep g sectors image t commit sectors' image' u
    → ((c : Commit) → commit ≡ Some c → c.slot ≢ number) → ((object : ℕ) → HoldsLock seen object → Names g sectors' number object)
    → CallKnows g sectors image number seen → CallKnows g sectors' image' number seen
step-call g is sectors image t commit sectors' image' u number seen holds step other locks call = record {
  locks = locks;
  knows = step-knows g is sectors image t commit sectors' image' u (HoldsLock seen) (look_of seen) holds step
      (λ object held. free-of_others g sectors commit number other object (call.locks object held)) call.knows;
}

-- Runs

pub run-length : (g : Geom) (sectors image : List Sector) (t : FileTree) (commits : List Commit) (sectors' image' : List Sector) (u : FileTree)
    → ImageRun g sectors image t commits sectors' image' u → length sectors' ≡ length sectors
run-length g sectors image t _ _ _ _ Begun = refl
run-length g sectors image t _ _ _ _ (Went commits one one_image u commit two two_image v run step) =
    step-length g one one_image u commit two two_image v step ∙ run-length g sectors image t commits one one_image u run

pub run-holds : (g : Geom) (is : IsGeom g) (sectors image : List Sector) (t : FileTree) (commits : List Commit) (sectors' image' : List Sector) (u : FileTree)
    → blocks_at g ≤ length sectors → HoldsImage g sectors (Names g sectors) image t → ImageRun g sectors image t commits sectors' image' u
    → HoldsImage g sectors' (Names g sectors') image' u
run-holds g is sectors image t _ _ _ _ whole holds Begun = holds
run-holds g is sectors image t _ _ _ _ whole holds (Went commits one one_image u commit two two_image v run step) =
    step-holds g is one one_image u commit two two_image v (omega (arith, whole, run-length g sectors image t commits one one_image u run))
    (run-holds g is sectors image t commits one one_image u whole holds run) step

-- the tree is what the committed calls make of the first one after another, each with its reply
step-history : (g : Geom) (start : FileTree) (commits : List Commit) (sectors image : List Sector) (t : FileTree) (commit : Option Commit) (sectors' image' : List Sector) (u : FileTree)
    → ImageStep g sectors image t commit sectors' image' u → DoAll g start commits t → DoAll g start (with_commit commits commit) u
step-history g start commits sectors image t _ _ _ _ (Elsewhere place s inside not harmless idle) done = done
step-history g start commits sectors image t _ _ _ _ (Placed slot pairs i pair within are got) done = done
step-history g start commits sectors image t _ _ _ _ (Renewed slot s old new written generation journal) done = done
step-history g start commits sectors image t _ _ _ _ (Retired slot s old new pairs written are stand idle) done = done
step-history g start commits sectors image t _ _ _ _ (Committed slot s old new call pairs reply written idle generation journal commits') done =
    DoOne commits t (record { slot = slot; call = call; reply = reply }) commits'.u done commits'.change

pub run-history : (g : Geom) (sectors image : List Sector) (t : FileTree) (commits : List Commit) (sectors' image' : List Sector) (u : FileTree)
    → ImageRun g sectors image t commits sectors' image' u → DoAll g t commits u
run-history g sectors image t _ _ _ _ Begun = DoNone
run-history g sectors image t _ _ _ _ (Went commits one one_image u commit two two_image v run step) =
    step-history g t commits one one_image u commit two two_image v step (run-history g sectors image t commits one one_image u run)
