-- What a response makes of the stage at which it came.
use Rattle.std.proofs.Common.{◌≡◌, ℕ, inl, inr, List, [], ◌∷◌, refl, sym, ap, subst}
use Rattle.ds_base.specs.Exchanges.{Exchange}
use Rattle.ds_base.specs.declared.commands.Command.{Command}
use Rattle.ds_base.specs.declared.commands.Command.TheVariants.{Read, Swap}
use Rattle.ds_base.specs.declared.commands.Next.{Next}
use Rattle.ds_base.specs.declared.commands.Next.TheVariants as nexts
use Rattle.ds_base.specs.declared.commands.Response.{Response}
use Rattle.ds_base.specs.declared.commands.Response.TheVariants.{Got, Done, Miscompare}
use Rattle.ds_base.specs.declared.sectors.Sector.{Sector}
use Rattle.ds_marks.specs.declared.header.Header.{Header}
use Rattle.ds_marks.specs.declared.header.Owner.{Owner}
use Rattle.ds_marks.specs.declared.slot.Slot.{Slot}
use Rattle.ds_watch.specs.Notes.{Note}
use Rattle.ds_lock.specs.Locking.{IsEarlier, IsNoMiss, IsOwned, header_image, lock_sector, slot_sector, taken_from}
use Rattle.ds_lock.specs.Stages.{Goes, GoesBy, HasSeen, due_at, noted_at, with_note}
use Rattle.ds_lock.specs.declared.ends.LockEnd.TheVariants as ends
use Rattle.ds_lock.specs.declared.steps.Stage.{Stage}
use Rattle.ds_lock.specs.declared.steps.Stage.TheVariants as stages
use Rattle.ds_lock.specs.declared.steps.Wanted.{Wanted}
use Rattle.ds_lock.specs.declared.steps.Went.{Went}
use Rattle.ds_lock.specs.declared.steps.Went.TheVariants as went
use Rattle.ds_lock.proofs.Shown.{shown-last}

abbrev command_of : Next → Command
command_of (nexts.Send command) = command
command_of nexts.Rest = Read 0
command_of (nexts.Late now last) = Read 0

-- what was read is no miss
goes-by : (w : Wanted) (notes : List Note) (now : ℕ) (x : Exchange) (pass : List Exchange) (next : Went) → IsNoMiss x.response
    → Goes w notes now (x ∷ pass) next
    → GoesBy w notes now x pass next
goes-by w notes now x pass (went.On stage) none goes = (none, goes)
goes-by w notes now x pass (went.Ended end) none goes = (none, goes)
goes-by w notes now x pass (went.Breaks h slot s) none goes = (none, goes)
goes-by w notes now x pass went.Missed none goes = absurd goes

module _ (w : Wanted) (stage : Stage) (response : Response) (command : Command) (notes : List Note) (now : ℕ) (pass : List Exchange)
    (next : Went) where
  abbrev From : Stage → Response → Command → Type 0
  From stage response command =
      GoesBy w (noted_at w stage response now notes) now (record { command = command; response = response; tick = now }) pass next

  from : (stage' : Stage) (response' : Response) (command' : Command) → stage ≡ stage' → response ≡ response'
      → due_at w stage' ≡ nexts.Send command'
      → due_at w stage ≡ nexts.Send command → From stage' response' command' → From stage response command
  from stage' response' command' e0 e1 due' due goes =
      subst (λ v. From v response command) (sym e0)
      (subst (λ v. From stage' v command) (sym e1)
      (subst (λ v. From stage' response' v)
      (ap command_of (subst (λ v. nexts.Send command' ≡ v) (subst (λ v. due_at w v ≡ nexts.Send command) e0 due) (sym due')))
      goes))

  pub header-goes : (sector : Sector) → stage ≡ stages.Header → response ≡ Got sector
      → Goes w notes now (record { command = Read (lock_sector w.geom w.object); response = Got sector; tick = now } ∷ []) next
      → due_at w stage ≡ nexts.Send command → HasSeen w stage pass → From stage response command
  header-goes sector e0 e1 goes due seen =
      from stages.Header (Got sector) (Read (lock_sector w.geom w.object)) e0 e1 refl due
      (subst (λ p. GoesBy w notes now (record { command = Read (lock_sector w.geom w.object); response = Got sector; tick = now }) p next)
      (sym (subst (λ v. HasSeen w v pass) e0 seen))
      (goes-by w notes now (record { command = Read (lock_sector w.geom w.object); response = Got sector; tick = now }) [] next tt goes))

  pub owner-goes : (sector : Sector) (h : Header) (o : Owner) → stage ≡ stages.Owner h o → response ≡ Got sector
      → (IsOwned w pass h o → IsEarlier w o
      → Goes w (with_note w o.slot sector now notes) now (record {
        command = Read (slot_sector w.geom o.slot);
        response = Got sector;
        tick = now;
      } ∷ pass) next)
      → due_at w stage ≡ nexts.Send command → HasSeen w stage pass → From stage response command
  owner-goes sector h o e0 e1 goes due seen =
      from (stages.Owner h o) (Got sector) (Read (slot_sector w.geom o.slot)) e0 e1 refl due
      (goes-by w (with_note w o.slot sector now notes) now (record {
        command = Read (slot_sector w.geom o.slot);
        response = Got sector;
        tick = now;
      }) pass next tt
      (goes (subst (λ v. HasSeen w v pass) e0 seen).0 (subst (λ v. HasSeen w v pass) e0 seen).2))

  pub breaker-goes : (sector : Sector) (h : Header) (slot by generation : ℕ) (s : Slot) → stage ≡ stages.Breaker h slot s by generation
      → response ≡ Got sector
      → (HasSeen w (stages.Breaker h slot s by generation) pass
      → Goes w (with_note w by sector now notes) now (record { command = Read (slot_sector w.geom by); response = Got sector; tick = now }
      ∷ pass) next)
      → due_at w stage ≡ nexts.Send command → HasSeen w stage pass → From stage response command
  breaker-goes sector h slot by generation s e0 e1 goes due seen =
      from (stages.Breaker h slot s by generation) (Got sector) (Read (slot_sector w.geom by)) e0 e1 refl due
      (goes-by w (with_note w by sector now notes) now (record {
        command = Read (slot_sector w.geom by);
        response = Got sector;
        tick = now;
      }) pass next tt
      (goes (subst (λ v. HasSeen w v pass) e0 seen)))

module _ (w : Wanted) (stage : Stage) (response : Response) (command : Command) (notes : List Note) (now : ℕ) (pass : List Exchange) where
  -- the Swap took the header
  pub taken-goes : (h : Header) → stage ≡ stages.Taking h → response ≡ Done → due_at w stage ≡ nexts.Send command → HasSeen w stage pass
      → From w stage response command notes now pass (went.Ended ends.Got) stage response command
  taken-goes h e0 e1 due seen =
      let shown = subst (λ v. HasSeen w v pass) e0 seen in
      from w stage response command notes now pass (went.Ended ends.Got) (stages.Taking h) Done
      (Swap (lock_sector w.geom w.object) (header_image h) (header_image (taken_from w.own h))) e0 e1 refl due
      (tt, inr (record { header = h; tick = now; earlier = pass; newest = refl; shown = shown.0; loose = shown.1; room = shown.2 }))

  -- or it found another header in place
  pub missed-goes : (h : Header) (offset : ℕ) → stage ≡ stages.Taking h → response ≡ Miscompare offset
      → due_at w stage ≡ nexts.Send command → HasSeen w stage pass
      → From w stage response command notes now pass went.Missed stage response command
  missed-goes h offset e0 e1 due seen =
      let shown = subst (λ v. HasSeen w v pass) e0 seen in
      from w stage response command notes now pass went.Missed (stages.Taking h) (Miscompare offset)
      (Swap (lock_sector w.geom w.object) (header_image h) (header_image (taken_from w.own h))) e0 e1 refl due
      (record {
        at = lock_sector w.geom w.object;
        verify = header_image h;
        fresh = header_image (taken_from w.own h);
        offset = offset;
        tick = now;
        is = refl;
        contended = inl refl;
        last = shown-last w pass h shown.0;
      })
