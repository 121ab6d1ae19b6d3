-- The laws of a store that has an image, from what the steps and their runs keep.
use Rattle.std.proofs.Common.{List, refl, sym, subst, arith}
use Rattle.ds_base.specs.declared.sectors.Sector.{Sector}
use Rattle.ds_image.specs.SeenValues.{HoldsLock, look_of}
use Rattle.ds_image.specs.Sound.{StandsFor}
use Rattle.ds_image_parts.proofs.Journaling.OneLogical.{logical_once}
use Rattle.ds_image_laws.specs.ImageSteps.{Elsewhere, Placed, Renewed, Retired, Committed}
use Rattle.ds_image_laws.specs.Laws.{AlikeByMetadata, PendingApart, FreeStands, StepKeepsImage, GuardsStay, SeenStays, ObjectsStay, FormattedHasImage, LogicalStands, RunDoesAll, PlannersAreRight}
use Rattle.ds_image_laws.specs.Owners.{Names}
use Rattle.ds_image_laws.proofs.Calls.{logical-there, call-done}
use Rattle.ds_image_laws.proofs.HostWrites.{commit-step, fresh-holds}
use Rattle.ds_image_laws.proofs.ImageSteps.{run-history, run-holds, run-length, step-holds, step-knows, step-length, step-object, free-of_others}
use Rattle.ds_image_laws.proofs.Images.{pairs-apart}
use Rattle.ds_image_laws.proofs.KeptGuards.{guard-kept}
use Rattle.ds_image_laws.proofs.Known.{laid-outside}
use Rattle.ds_image_laws.proofs.Owners.{owners-apart}
use Rattle.ds_image_laws.proofs.SameImages.{reads-same, guard-same, stands-same}
use Rattle.ds_image_laws.proofs.ShownImages.{shown-free}

pub alike-by_metadata : AlikeByMetadata
alike-by_metadata g image other whole same = record {
  stands = λ t. stands-same g image other same t whole;
  reads = reads-same g image other same;
  guards = guard-same g image other same;
}

pub pending-apart : PendingApart
pending-apart g sectors image t has one other ps qs within within' apart are theirs at mine =
    pairs-apart g has.is_geom sectors image (Names g sectors) t has.holds (owners-apart g sectors) one ps (has.holds.guarded one ps within are) other qs at within'
    (λ e. apart (sym e)) theirs mine

pub free-stands : FreeStands
free-stands g sectors image t has at metadata free = shown-free g sectors image at has.whole metadata has.holds.shows free

pub step-has_image : StepKeepsImage
step-has_image g sectors image t commit sectors' image' u has step = record {
  is_geom = has.is_geom;
  whole = omega (arith, has.whole, step-length g sectors image t commit sectors' image' u step);
  holds = step-holds g has.is_geom sectors image t commit sectors' image' u has.whole has.holds step;
}

pub guards-stay : GuardsStay
guards-stay g sectors image t _ _ _ _ has (Elsewhere place s inside not harmless idle) at object free guard = (guard, refl)
guards-stay g sectors image t _ _ _ _ has (Placed slot pairs i pair within are got) at object free guard = (guard, refl)
guards-stay g sectors image t _ _ _ _ has (Renewed slot s old new written generation journal) at object free guard = (guard, refl)
guards-stay g sectors image t _ _ _ _ has (Retired slot s old new pairs written are stand idle) at object free guard = (guard, refl)
guards-stay g sectors image t _ _ _ _ has (Committed slot s old new call pairs reply written idle generation journal commits) at object free guard =
    let outside = laid-outside g (Names g sectors slot) image pairs has.is_geom commits.lays.before in (
      guard-kept g image _ (Names g sectors slot) at object has.holds.stands commits.lays.stands outside free guard,
      outside at object guard free,
    )

pub seen-stays : SeenStays
seen-stays g sectors image t commit sectors' image' u has step number seen call other =
    step-knows g has.is_geom sectors image t commit sectors' image' u (HoldsLock seen) (look_of seen) has.holds step
    (λ object held. free-of_others g sectors commit number other object (call.locks object held)) call.knows

pub objects-stay : ObjectsStay
objects-stay g sectors image t commit sectors' image' u has step object free =
    step-object g has.is_geom sectors image t commit sectors' image' u object has.holds step free

pub formatted-has_image : FormattedHasImage
formatted-has_image g volume sectors is formatted = record {
  is_geom = is;
  whole = omega (arith, formatted.size);
  holds = fresh-holds g volume sectors is formatted;
}

pub logical-stands : LogicalStands
logical-stands g sectors image t has =
    let there = logical-there g has.is_geom sectors image t has.whole has.holds in
    record {
      logical = there.0;
      is_logical = there.1;
      each = λ other is. subst (λ (l : List Sector). StandsFor g l t) (logical_once g sectors there.0 other there.1 is) there.2;
    }

pub run-does_all : RunDoesAll
run-does_all g sectors image t commits sectors' image' u has run = (
  record {
    is_geom = has.is_geom;
    whole = omega (arith, has.whole, run-length g sectors image t commits sectors' image' u run);
    holds = run-holds g has.is_geom sectors image t commits sectors' image' u has.whole has.holds run;
  },
  run-history g sectors image t commits sectors' image' u run,
)

pub planners-are_right : PlannersAreRight
planners-are_right g sectors image t number seen call answers p has knows law reads = record {
  done = λ reply answered. call-done g has.is_geom sectors image t has.whole has.holds number seen knows call answers law p reads reply answered;
  committed = λ redo reply s old new txn answered written idle same journal ready.
      commit-step g has.is_geom sectors image t has.whole has.holds number seen knows call answers law p reads redo reply answered s old new txn written idle same journal ready;
}
