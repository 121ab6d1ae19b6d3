-- The name is put at its place, and the first 32 names stay.
use Rattle.std.proofs.Common.{◌≡◌, length, sym, ap, ◌∙◌, arith}
use Rattle.std.proofs.lemmas.Bool.Decides.{nat_tests}
use Rattle.ds_plan_dirs.specs.Pages.{place_in}
use Rattle.ds_plan_dirs.proofs.PagesMade.{put_none, put_end, put_popped, put_into_room}
use Rattle.ds_plan_dirs.proofs.listing.put.Goals.{then-is_full+else-place-eq32, else-is_full}
use Rattle.ds_plan_dirs.proofs.listing.put.Goals as goal

pub returns-in_default : goal.returns-in_default
returns-in_default c =
    put_none c.args.name.now c.args.key c.args.names.now.items (omega (arith, ap length c.as_slice.ensures.value, c.as_slice.ensures.fits))
    (ap (λ l. place_in l c.args.name.now) (sym c.as_slice.ensures.value) ∙ sym c.in_default.ensures.place)

pub returns-then-place-eq32 : goal.returns-then-place-eq32
returns-then-place-eq32 c =
    let full : length c.args.names.now.items ≡ 32 = grind (arith, nat_tests, c.is_full.ensures.value, c.if-is_full.true) in
    put_end c.args.name.now c.args.key c.args.names.now.items c.in-Some.place full
    (ap (λ l. place_in l c.args.name.now) (sym c.as_slice.ensures.value) ∙ sym c.in-Some.ensures.place) c.if-place-eq32.true

pub returns : goal.returns
returns c =
    let old = c.args.names.now.items in
    let s = c.as_slice.result.now in
    let within = c.in-Some.ensures.within in
    rw (c.insert.ensures.items, c.copy_of.ensures.same)
    (elim c.if-is_full.branch [
      | then-is_full+else-place-eq32 w ↦
          let full : length old ≡ 32 = grind (arith, nat_tests, c.is_full.ensures.value, w.if-is_full.true) in
          rw w.names-is
          (put_popped c.args.name.now c.args.key old s w.pop.new.self.items c.in-Some.place c.as_slice.ensures.value full w.pop.ensures.rest (sym c.in-Some.ensures.place) within w.if-place-eq32.false)
      | else-is_full w ↦
          rw w.names-is
          (put_into_room c.args.name.now c.args.key old s c.in-Some.place c.as_slice.ensures.value
          (omega (arith, ap length c.as_slice.ensures.value, c.as_slice.ensures.fits))
          (λ full. grind (arith, nat_tests, c.is_full.ensures.value, w.if-is_full.false, full)) (sym c.in-Some.ensures.place))
    ])
