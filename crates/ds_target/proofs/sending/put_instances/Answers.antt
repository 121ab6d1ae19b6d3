use Rattle.std.proofs.Common.{◌≡◌, ℕ, ◌-◌, ◌++◌, ◌≤◌, List, length, take, drop, arith, ◌∙◌, ap, length-take, length-drop, length-append}
use Rattle.std.proofs.lemmas.List.{take_at, drop_at, drop_all, append-nil, length-take-le}
use Rattle.std.proofs.lemmas.Slice.{take-put_mid_below}
use borrow.Rule.Slice.PartMut.{put_mid, post_of}
use Rattle.ds_target.proofs.sending.put_instances.Goals as goal

-- what is put behind the front leaves it
front_stays : (front rest back : List ℕ) (k : ℕ) → length front ≡ 512 → take 512 (put_mid 512 k (front ++ rest) back) ≡ front
front_stays front rest back k whole =
    let long : 512 ≤ length (front ++ rest) = omega (arith, length-append front rest) in
    take-put_mid_below 512 k (front ++ rest) back 512 (omega arith) long ∙ take_at front rest 512 whole

-- and, put to the end, is all behind the front
back_is : (all back : List ℕ) → 512 ≤ length all → drop 512 (put_mid 512 (length all - 512) all back) ≡ back
back_is all back long =
    let behind : List ℕ → List ℕ = λ rest. back ++ rest in
    drop_at (take 512 all) (back ++ post_of 512 (length all - 512) all) 512 (length-take-le 512 all long)
    ∙ ap behind (drop_all (length all - 512) (drop 512 all) (omega (arith, length-drop 512 all))) ∙ append-nil back

pub slice_bounds-copy_from_slice-end-2 : goal.slice_bounds-copy_from_slice-end-2
slice_bounds-copy_from_slice-end-2 c = omega (arith, length-take 512 c.args.out.now)

pub copy_from_slice-requires : goal.copy_from_slice-requires
copy_from_slice-requires c = omega (arith, length-take 512 c.args.out.now)

pub returns-clause-front : goal.returns-clause-front
returns-clause-front c =
    front_stays c.copy_from_slice.new.self _ c.copy_from_slice-2.new.self _
    (c.copy_from_slice.ensures.len ∙ length-take-le 512 c.args.out.now (omega arith))
    ∙ c.copy_from_slice.ensures.after

pub returns-clause-back : goal.returns-clause-back
returns-clause-back c =
    back_is (c.copy_from_slice.new.self ++ drop 512 c.args.out.now) c.copy_from_slice-2.new.self
    (omega (arith, length-append c.copy_from_slice.new.self (drop 512 c.args.out.now), c.copy_from_slice.ensures.len, length-take 512 c.args.out.now))
    ∙ c.copy_from_slice-2.ensures.after
