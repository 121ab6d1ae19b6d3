-- What a host sends and tells that renews its own slot, or leaves it, between two transactions.
use Rattle.std.proofs.Common.{◌≡◌, ℕ, ◌+◌, ◌^◌, ◌<◌, [], Option, Some, None, refl, sym, subst}
use Rattle.ds_base.specs.Geometry.{IsGeom}
use Rattle.ds_base.specs.declared.commands.Command.{Command}
use Rattle.ds_base.specs.declared.commands.Command.TheVariants.{Swap}
use Rattle.ds_base.specs.declared.commands.Next.TheVariants.{Send}
use Rattle.ds_base.specs.declared.commands.Response.{Response}
use Rattle.ds_base.specs.declared.commands.Response.TheVariants.{Got, Done, Miscompare, Fault}
use Rattle.ds_base.specs.declared.sectors.Sector.{Sector}
use Rattle.ds_bytes.specs.Fields.{AllBelow}
use Rattle.ds_marks.specs.Slot.{IsSlot, slot_bytes}
use Rattle.ds_marks.specs.SlotIn.{slot_in}
use Rattle.ds_marks.specs.declared.slot.Slot.{Slot}
use Rattle.ds_reg.specs.Registering.{beaten_from, left_from}
use Rattle.ds_reg.specs.Stages.{EndsOwn, FitsStage, IsOwnCall, IsOwnImage, IsRun, RegValue, Takes, due, image_sector, told_by}
use Rattle.ds_reg.specs.declared.calls.RegCall.{RegCall}
use Rattle.ds_reg.specs.declared.calls.RegCall.TheVariants as wants
use Rattle.ds_reg.specs.declared.calls.RegEnd.{RegEnd}
use Rattle.ds_reg.specs.declared.calls.RegEnd.TheVariants as ends
use Rattle.ds_reg.specs.declared.steps.Stage.{Stage}
use Rattle.ds_reg.specs.declared.steps.Stage.TheVariants as stages
use Rattle.ds_reg.specs.declared.steps.Went.TheVariants as went
use Rattle.ds_tree.specs.declared.calls.HostCallOf.TheVariants as calls
use Rattle.ds_conduct.specs.Answers.{TellsBeat, TellsFault, TellsMiss}
use Rattle.ds_conduct.specs.Conducts.{Answers}
use Rattle.ds_conduct.specs.Digests.{Digest, Own, noted}
use Rattle.ds_conduct.specs.Guards.{Beat, Beats, Leave, Leaves, MaySend, SwapsOwn}
use Rattle.ds_conduct.specs.Settings.{Setting}
use Rattle.ds_conduct.specs.declared.answers.HostAnswer.{HostAnswer}
use Rattle.ds_conduct.specs.declared.answers.HostAnswer.TheVariants as answers
use Rattle.ds_host_laws.proofs.Digests.{beat-done, drops, exchanged, leave-done, renewed_own, went_on}
use Rattle.ds_host_laws.proofs.Images.{below-replicate, slot_in-encoded}
use Rattle.ds_host_laws.proofs.Slots.{few-slots, is_slot-beaten, is_slot-left}

-- before the answer a host holds this image, which is Live and idle, in its own slot
pub record HoldsIdle (setting : Setting) (d : Digest) (own : Own) (image : Slot) : Type 0 where
  pub is_geom : IsGeom setting.geom
  pub holds : d.own ≡ Some own
  pub unanswered : d.answer ≡ None
  pub is_own : IsOwnImage setting.geom own.slot image
  pub written : own.image ≡ image_sector own.slot image
  pub same_generation : image.generation ≡ own.generation
  pub bytes : AllBelow 256 image.host

-- what the response was where a run for the own slot ends so
abbrev pub IsOwnEnd : RegCall → RegEnd → Response → Type 0
IsOwnEnd (wants.Beat slot image) ends.Beaten response = response ≡ Done
IsOwnEnd (wants.Leave slot image) ends.Left response = response ≡ Done
IsOwnEnd call (ends.Fenced offset) response = response ≡ Miscompare offset
IsOwnEnd call ends.Faulted response = response ≡ Fault
IsOwnEnd call end response = ⊥

ended : (a b : RegEnd) → went.Ended a ≡ went.Ended b → a ≡ b
ended a b is = cc

end-is : (call : RegCall) (response : Response) (end : RegEnd) → IsOwnCall call → EndsOwn call response (went.Ended end)
    → IsOwnEnd call end response
end-is wants.Enter response end own is = absurd own
end-is (wants.Beat slot image) (Got s) end own is = absurd is
end-is (wants.Beat slot image) Done end own is = subst (λ e. IsOwnEnd (wants.Beat slot image) e Done) (sym (ended end ends.Beaten is)) refl
end-is (wants.Beat slot image) (Miscompare offset) end own is =
    subst (λ e. IsOwnEnd (wants.Beat slot image) e (Miscompare offset)) (sym (ended end (ends.Fenced offset) is)) refl
end-is (wants.Beat slot image) Fault end own is =
    subst (λ e. IsOwnEnd (wants.Beat slot image) e Fault) (sym (ended end ends.Faulted is)) refl
end-is (wants.Leave slot image) (Got s) end own is = absurd is
end-is (wants.Leave slot image) Done end own is = subst (λ e. IsOwnEnd (wants.Leave slot image) e Done) (sym (ended end ends.Left is)) refl
end-is (wants.Leave slot image) (Miscompare offset) end own is =
    subst (λ e. IsOwnEnd (wants.Leave slot image) e (Miscompare offset)) (sym (ended end (ends.Fenced offset) is)) refl
end-is (wants.Leave slot image) Fault end own is =
    subst (λ e. IsOwnEnd (wants.Leave slot image) e Fault) (sym (ended end ends.Faulted is)) refl

goes-not-on : (call : RegCall) (response : Response) (stage : Stage) → EndsOwn call response (went.On stage) → ⊥
goes-not-on call (Got s) stage is = is
goes-not-on call Done stage is = let f : ⊥ = cc in f
goes-not-on call (Miscompare offset) stage is = let f : ⊥ = cc in f
goes-not-on call Fault stage is = let f : ⊥ = cc in f

-- the command that a run for the own slot sends
abbrev pub own_command : RegCall → Option Command
own_command wants.Enter = None
own_command (wants.Beat slot image) = Some (Swap (2 + slot) (image_sector slot image) (image_sector slot (beaten_from image)))
own_command (wants.Leave slot image) = Some (Swap (2 + slot) (image_sector slot image) (image_sector slot (left_from image)))

module _ (run : RegValue) (command : Command) (response : Response) where
  at-own : (call : RegCall) (stage : Stage) → IsOwnCall call → FitsStage run.geom call stage
      → due (record { geom = run.geom; host = run.host; call = call; stage = stage }) stage ≡ Send command → stage ≡ stages.Own
  at-own call (stages.Looking slot missed) own fits is = absurd (let e : call ≡ wants.Enter = fits.1 in subst IsOwnCall e own)
  at-own call (stages.Entering slot image found missed) own fits is =
      absurd (let e : call ≡ wants.Enter = fits.3 in subst IsOwnCall e own)
  at-own call stages.Own own fits is = refl
  at-own call stages.Over own fits is = absurd (let f : ⊥ = cc in f)

  module _ (is_run : IsRun run) (own : IsOwnCall run.call) (is_due : due run run.stage ≡ Send command) where
    is-own : run.stage ≡ stages.Own
    is-own = at-own run.call run.stage own is_run.fits is_due

    -- a run for the own slot sends this
    pub own-sends : own_command run.call ≡ Some command
    own-sends = by_call run.call own (subst (λ s. due run s ≡ Send command) is-own is_due)
      where
        by_call : (call : RegCall) → IsOwnCall call
            → due (record { geom = run.geom; host = run.host; call = call; stage = stages.Own }) stages.Own ≡ Send command
            → own_command call ≡ Some command
        by_call wants.Enter own is = absurd own
        by_call (wants.Beat slot image) own is = cc
        by_call (wants.Leave slot image) own is = cc

    -- and ends at once, by the response
    pub own-ends : (stage : Stage) (end : RegEnd) → Takes run.geom run.call run.stage response (told_by (Some end) stage)
        → IsOwnEnd run.call end response
    own-ends stage end takes =
        end-is run.call response end own (subst (λ s. Takes run.geom run.call s response (went.Ended end)) is-own takes)

    pub own-ended : (stage : Stage) → Takes run.geom run.call run.stage response (told_by None stage) → ⊥
    own-ended stage takes =
        goes-not-on run.call response stage (subst (λ s. Takes run.geom run.call s response (went.On stage)) is-own takes)

fault-tells : (d : Digest) → d.answer ≡ None → TellsFault d.answer answers.DeviceFault (Some answers.DeviceFault)
fault-tells d none = subst (λ a. TellsFault a answers.DeviceFault (Some answers.DeviceFault)) (sym none) refl

module _ (setting : Setting) (d : Digest) (now : ℕ) (own : Own) (image : Slot) (held : HoldsIdle setting d own image) where
  abbrev old : Sector
  old = image_sector own.slot image

  small : own.slot < 256
  small = few-slots setting.geom own.slot held.is_geom held.is_own.within

  miss-tells : (offset : ℕ) → TellsMiss setting d now d.answer offset (Some (answers.Fenced offset))
  miss-tells offset =
      subst (λ a. TellsMiss setting d now a offset (Some (answers.Fenced offset))) (sym held.unanswered) refl

  pub old-spelled : slot_in own.slot (slot_bytes own.slot image) ≡ Some image
  old-spelled = slot_in-encoded own.slot image small held.is_own.is_slot held.bytes

  -- a Swap of the own slot to another image
  abbrev swaps : (new : Slot) → slot_in own.slot (slot_bytes own.slot new) ≡ Some new
      → SwapsOwn setting d now (2 + own.slot) old (image_sector own.slot new)
  swaps new spelled = record {
    own = own;
    holds = held.holds;
    within = held.is_own.within;
    place = refl;
    verified = sym held.written;
    old = image;
    new = new;
    was = old-spelled;
    is = spelled;
    was_live = held.is_own.live;
    was_own = held.same_generation;
  }

  module _ (less : image.stamp < 2 ^ 62) where
    pub beaten-is : IsSlot (beaten_from image)
    beaten-is = is_slot-beaten image held.is_own.is_slot held.is_own.live less

    pub beaten-spelled : slot_in own.slot (slot_bytes own.slot (beaten_from image)) ≡ Some (beaten_from image)
    beaten-spelled = slot_in-encoded own.slot (beaten_from image) small beaten-is held.bytes

    -- a beat
    abbrev pub beats : Beats setting d now (2 + own.slot) old (image_sector own.slot (beaten_from image))
    beats = record {
      renewal = record {
        swap = swaps (beaten_from image) beaten-spelled;
        live = held.is_own.live;
        same_generation = refl;
        same_host = refl;
        stamp = refl;
      };
      unanswered = held.unanswered;
      was_idle = held.is_own.idle;
      idle = held.is_own.idle;
    }

    abbrev beat_swap : Command
    beat_swap = Swap (2 + own.slot) old (image_sector own.slot (beaten_from image))

    pub beat-sends : MaySend setting d now beat_swap
    beat-sends = Beat beats

    pub beat-tells : (answer : Option HostAnswer) → TellsBeat setting d now own answer → Answers setting d now beat_swap Done answer
    beat-tells answer tells = record { may = Beat beats; tells = tells }

    pub beat-fenced : (offset : ℕ) → Answers setting d now beat_swap (Miscompare offset) (Some (answers.Fenced offset))
    beat-fenced offset = record { may = Beat beats; tells = miss-tells offset }

    pub beat-faulted : Answers setting d now beat_swap Fault (Some answers.DeviceFault)
    beat-faulted = record { may = Beat beats; tells = fault-tells d held.unanswered }

    -- and the own image is the new one then
    pub beat-turns : noted setting.geom d now beat_swap Done ≡ went_on d (exchanged setting.geom d now beat_swap Done)
        (Some (renewed_own own now (image_sector own.slot (beaten_from image)) own.commits)) d.owed d.files d.notes
    beat-turns =
        beat-done setting.geom d now own held.holds held.is_own.within old (image_sector own.slot (beaten_from image)) (beaten_from image)
        beaten-spelled held.is_own.live held.is_own.idle

  module _ (less : image.generation < 2 ^ 62) where
    pub left-spelled : slot_in own.slot (slot_bytes own.slot (left_from image)) ≡ Some (left_from image)
    left-spelled =
        slot_in-encoded own.slot (left_from image) small (is_slot-left image held.is_own.is_slot less) (below-replicate 16)

    abbrev leave_swap : Command
    leave_swap = Swap (2 + own.slot) old (image_sector own.slot (left_from image))

    pub leave-turns : noted setting.geom d now leave_swap Done ≡ drops d (exchanged setting.geom d now leave_swap Done)
    leave-turns =
        leave-done setting.geom d now own held.holds held.is_own.within old (image_sector own.slot (left_from image)) (left_from image)
        left-spelled refl

    module _ (call : d.call ≡ Some calls.Unregister) (none_open : d.files ≡ []) where
      abbrev pub leaves : Leaves setting d now (2 + own.slot) old (image_sector own.slot (left_from image))
      leaves = record {
        call = call;
        unanswered = held.unanswered;
        none_open = none_open;
        swap = swaps (left_from image) left-spelled;
        was_idle = held.is_own.idle;
        free = refl;
        generation = refl;
      }

      pub leave-sends : MaySend setting d now leave_swap
      leave-sends = Leave leaves

      pub leave-tells : Answers setting d now leave_swap Done (Some answers.Plain)
      leave-tells = record { may = Leave leaves; tells = refl }

      pub leave-fenced : (offset : ℕ) → Answers setting d now leave_swap (Miscompare offset) (Some (answers.Fenced offset))
      leave-fenced offset = record { may = Leave leaves; tells = miss-tells offset }

      pub leave-faulted : Answers setting d now leave_swap Fault (Some answers.DeviceFault)
      leave-faulted = record { may = Leave leaves; tells = fault-tells d held.unanswered }
