use Rattle.std.proofs.Common.{◌≡◌, ◌≢◌, ◌-◌, ◌+◌, ◌*◌, ◌≤◌, length, arith}
use Rattle.std.proofs.lemmas.Grind.{common_steps}
use Rattle.std.proofs.lemmas.Bool.Decides.{nat_tests}
use Rattle.ds_top.proofs.ImageLaws.{IsPartRead-more, IsPartRead-next, too_many, within, count_within}
use Rattle.ds_top.proofs.image_input.read_image.Goals as goal

pub returns-then-len-eq-MOST_SECTORS-clause-large :
    goal.returns-then-len-eq-MOST_SECTORS-clause-large
returns-then-len-eq-MOST_SECTORS-clause-large g c =
    λ e. too_many _ _ _ _ _ c.loop-n.sectors.items _ c.next.new.buf c.loop-n.filled c.in-Got.n c.loop-n.invariant c.in-Got.ensures.gives.0 c.in-Got.ensures.gives.1
    c.in-Got.ensures.gives.2 (omega arith)

pub loop-n-smaller-then-filled-eq512 : goal.loop-n-smaller-then-filled-eq512
loop-n-smaller-then-filled-eq512 g c =
    let all : length c.loop-n.sectors.items * 512 + c.loop-n.filled ≤ 67108864 = within _ _ _ _ _ _ _ c.loop-n.invariant in
    let short = c.loop-n.invariant.short in
    let more : length c.push.new.self.items ≡ length c.loop-n.sectors.items + 1 = grind (arith, common_steps) in
    let room : length c.loop-n.sectors.items ≢ 131072 = grind (arith, nat_tests) in
    omega (arith, all, short, more, room)

pub loop-n-preserved-then-filled-eq512 : goal.loop-n-preserved-then-filled-eq512
loop-n-preserved-then-filled-eq512 g c =
    let long : length c.next.new.buf ≡ 512 - c.loop-n.filled = omega (arith, c.next.auto.buf) in
    let full : c.loop-n.filled + c.in-Got.n ≡ 512 = grind (arith, nat_tests) in
    let room : length c.loop-n.sectors.items ≢ 131072 = grind (arith, nat_tests) in
    IsPartRead-next _ _ _ _ _ _ c.loop-n.sectors.items _ _ c.next.new.buf c.loop-n.filled c.in-Got.n c.loop-n.invariant long c.in-Got.ensures.gives.1 c.in-Got.ensures.gives.2 c.in-Got.ensures.faults full room (grind (arith, common_steps))

pub loop-n-smaller : goal.loop-n-smaller
loop-n-smaller g c =
    let all : length c.loop-n.sectors.items * 512 + c.loop-n.filled ≤ 67108864 = within _ _ _ _ _ _ _ c.loop-n.invariant in
    let short = c.loop-n.invariant.short in
    let some = c.in-Got.ensures.gives.0 in
    let room : length c.loop-n.sectors.items ≢ 131072 = grind (arith, nat_tests) in
    omega (arith, all, short, some, room)

pub loop-n-preserved : goal.loop-n-preserved
loop-n-preserved g c =
    let long : length c.next.new.buf ≡ 512 - c.loop-n.filled = omega (arith, c.next.auto.buf) in
    let unfilled : c.loop-n.filled + c.in-Got.n ≢ 512 = grind (arith, nat_tests) in
    let room : length c.loop-n.sectors.items ≢ 131072 = grind (arith, nat_tests) in
    IsPartRead-more _ _ _ _ _ _ c.loop-n.sectors.items _ c.next.new.buf c.loop-n.filled c.in-Got.n c.loop-n.invariant long c.in-Got.ensures.gives.1 c.in-Got.ensures.gives.2 c.in-Got.ensures.faults unfilled room

pub returns-in-End-clause-count : goal.returns-in-End-clause-count
returns-in-End-clause-count g c = count_within _ _ _ _ c.loop-n.sectors.items _ _ c.loop-n.invariant
