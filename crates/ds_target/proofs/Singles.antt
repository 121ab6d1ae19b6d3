-- Commands of no block, and of one: what they do to the sectors and how they are answered.
use Rattle.std.proofs.Common.{◌≡◌, ℕ, ◌<◌, ◌+◌, ◌++◌, Bool, true, false, cond, List, [], ◌∷◌, length, take, drop, refl, ap, sym, ◌∙◌, subst, arith, ltb, not, ◌&&◌, ◌*◌, length-drop}
use Rattle.std.specs.Prelude.{Some, None, Result, Ok, slice_get, slice_set, slice_index, MatchBool, if◌then◌else◌}
use Rattle.std.proofs.lemmas.Bool.{le-ltb, MatchBool-at_false}
use Rattle.std.proofs.lemmas.List.{get_or-take, take-take, take_all, drop_all, append-nil}
use Rattle.std.proofs.lemmas.Option.{slice_get-get_or}
use Rattle.std.proofs.Math.ListN.{get_or}
use Rattle.ds_base.specs.declared.sectors.Sector.{Sector}
use Rattle.ds_base.specs.declared.commands.Command.TheVariants.{Swap as SwapOne}
use Rattle.ds_base.specs.declared.commands.Response.{Response}
use Rattle.ds_base.specs.declared.commands.Response.TheVariants.{Done, Miscompare as Differs}
use Rattle.ds_base.specs.Device.{holds_image, stored, Answers, IsFirstDifference}
use Rattle.ds_base.proofs.DeviceLaws.{same_from_bytes}
use Rattle.ds_scsi.specs.declared.command_blocks.Cdb.{Cdb}
use Rattle.ds_scsi.specs.declared.command_blocks.Cdb.TheVariants.{Read, Write, Swap}
use Rattle.ds_scsi.specs.declared.command_blocks.CdbFault.{CdbFault}
use Rattle.ds_scsi.specs.declared.sense_data.Sense.TheVariants.{Miscompare}
use Rattle.ds_scsi.specs.SenseData.{sense_bytes}
use Rattle.ds_lun.specs.Devices.{writes_of}
use Rattle.ds_target.specs.declared.execution.ScsiReply.{ScsiReply}
use Rattle.ds_target.specs.Blocks.{bytes_from, images_in, overwritten}
use Rattle.ds_target.specs.Execution.{count_of, is_verified, written, sectors_after, blocks_written, data_in, Replies, TellsMismatch, good}
use Rattle.ds_target.proofs.Runs.{overwritten_none, overwritten_one, bytes_from_one}
use Rattle.ds_target.proofs.Comparing.{is_verified_one, stored_one}

chosen_same : (b : Bool) (xs ys : List Sector) → xs ≡ ys → ys ≡ (if b then xs else ys)
chosen_same true xs ys same = sym same
chosen_same false xs ys same = refl

written_none : (sectors : List Sector) (form : Cdb) (out : List ℕ) → count_of form ≡ 0 → written sectors form out ≡ sectors
unfolding images_in
written_none sectors (Read lba count) out none = refl
written_none sectors (Write lba count) out none =
    ap (λ (n : ℕ). overwritten sectors lba (images_in n out)) none ∙ overwritten_none sectors lba
written_none sectors (Swap lba count) out none =
    ap (λ (n : ℕ). overwritten sectors lba (images_in n (drop (512 * count) out))) none ∙ overwritten_none sectors lba

-- a command of no blocks leaves the sectors
pub sectors_after_none : (sectors : List Sector) (form : Cdb) (out : List ℕ) → count_of form ≡ 0
    → sectors ≡ sectors_after sectors (Ok form) out
sectors_after_none sectors form out none = chosen_same _ _ sectors (written_none sectors form out none)

in_range_one : (sectors : List Sector) (at : ℕ) → at < length sectors → ltb (length sectors) (at + 1) ≡ false
in_range_one sectors at within = le-ltb (length sectors) (at + 1) (omega arith)

-- a READ of one block that is there sends that block
pub read_one : (sectors : List Sector) (at : ℕ) (read : Result Cdb CdbFault) (out old into : List ℕ) (reply : ScsiReply)
    → at < length sectors → read ≡ Ok (Read at 1) → length old ≡ 512
    → Replies sectors read out reply → into ≡ data_in sectors read ++ drop reply.sent old
    → slice_get sectors at ≡ Some (record { bytes = into })
read_one sectors at read out old into reply within is whole replies sends =
    let nobody : Sector = record { bytes = [] } in
    let s : Sector = get_or sectors at nobody in
    let held : slice_get sectors at ≡ Some s = slice_get-get_or sectors at nobody within in
    let range : ltb (length sectors) (at + 1) ≡ false = in_range_one sectors at within in
    let by_read : Result Cdb CdbFault → Type 0 = λ r. Replies sectors r out reply in
    let done : reply ≡ good 512 = MatchBool-at_false _ _ range (subst by_read is replies) in
    let by_data : Result Cdb CdbFault → List ℕ = λ r. data_in sectors r ++ drop reply.sent old in
    let chosen : Bool → List ℕ = λ b. cond b [] (bytes_from sectors at 1) ++ drop reply.sent old in
    let sent : ℕ → List ℕ = λ n. bytes_from sectors at 1 ++ drop n old in
    let rest : List ℕ → List ℕ = λ xs. bytes_from sectors at 1 ++ xs in
    let same : into ≡ s.bytes =
    sends ∙ ap by_data is ∙ ap chosen range ∙ ap sent (ap (λ (r : ScsiReply). r.sent) done)
    ∙ ap rest (drop_all 512 old (omega arith)) ∙ append-nil (bytes_from sectors at 1) ∙ bytes_from_one sectors at s held in
    held ∙ ap Some (same_from_bytes s (record { bytes = into }) (sym same))

-- a WRITE of one block that is there stores it
pub write_one : (sectors : List Sector) (at : ℕ) (read : Result Cdb CdbFault) (fresh : Sector)
    → at < length sectors → read ≡ Ok (Write at 1) → length fresh.bytes ≡ 512
    → sectors_after sectors read fresh.bytes ≡ slice_set sectors at fresh
unfolding images_in
write_one sectors at read fresh within is whole =
    let image : Sector = record { bytes = take 512 fresh.bytes } in
    let all : image ≡ fresh = same_from_bytes image fresh (take_all 512 fresh.bytes (omega arith)) in
    let by_read : Result Cdb CdbFault → List Sector = λ r. sectors_after sectors r fresh.bytes in
    let chosen : Bool → List Sector = λ b. cond (not b && true) (overwritten sectors at (image ∷ [])) sectors in
    ap by_read is ∙ ap chosen (in_range_one sectors at within)
    ∙ overwritten_one sectors at image within ∙ ap (λ (s : Sector). slice_set sectors at s) all

-- a COMPARE AND WRITE of one block that is there is the Swap of that sector
pub swap_one : (sectors : List Sector) (at : ℕ) (read : Result Cdb CdbFault) (out : List ℕ) (verify fresh : Sector)
    → at < length sectors → read ≡ Ok (Swap at 1)
    → take 512 out ≡ verify.bytes → drop 512 out ≡ fresh.bytes → length out ≡ 1024
    → sectors_after sectors read out ≡ stored sectors (SwapOne at verify fresh)
swap_one sectors at read out verify fresh within is verify_is fresh_is whole =
    let by_read : Result Cdb CdbFault → List Sector = λ r. sectors_after sectors r out in
    let held : Bool = is_verified sectors (Swap at 1) out in
    let chosen : Bool → List Sector = λ b. cond (not b && held) (written sectors (Swap at 1) out) sectors in
    let rest : take 512 (drop 512 out) ≡ drop 512 out = take_all 512 (drop 512 out) (omega (arith, length-drop 512 out)) in
    ap by_read is ∙ ap chosen (in_range_one sectors at within)
    ∙ sym (stored_one sectors at out verify fresh within (sym verify_is) (sym (rest ∙ fresh_is)))

none_chosen : (b : Bool) → cond {A = ℕ} b 0 0 ≡ 0
none_chosen true = refl
none_chosen false = refl

-- a READ writes nothing
pub reads_one : (sectors : List Sector) (at : ℕ) (read : Result Cdb CdbFault) (out : List ℕ) → read ≡ Ok (Read at 1) → blocks_written sectors read out ≡ 0
reads_one sectors at read out is =
    let by_read : Result Cdb CdbFault → ℕ = λ r. blocks_written sectors r out in
    ap by_read is ∙ none_chosen _

-- a WRITE of one block that is there writes one
pub writes_one : (sectors : List Sector) (at : ℕ) (read : Result Cdb CdbFault) (out : List ℕ) → at < length sectors → read ≡ Ok (Write at 1) → blocks_written sectors read out ≡ 1
writes_one sectors at read out within is =
    let by_read : Result Cdb CdbFault → ℕ = λ r. blocks_written sectors r out in
    let chosen : Bool → ℕ = λ b. cond (not b && true) 1 0 in
    ap by_read is ∙ ap chosen (in_range_one sectors at within)

-- a COMPARE AND WRITE of one block that is there writes as many as that Swap
pub swaps_one : (sectors : List Sector) (at : ℕ) (read : Result Cdb CdbFault) (out : List ℕ) (verify fresh : Sector) → at < length sectors
    → read ≡ Ok (Swap at 1) → take 512 out ≡ verify.bytes → blocks_written sectors read out ≡ writes_of sectors (SwapOne at verify fresh)
swaps_one sectors at read out verify fresh within is verify_is =
    let by_read : Result Cdb CdbFault → ℕ = λ r. blocks_written sectors r out in
    let held : Bool = is_verified sectors (Swap at 1) out in
    let chosen : Bool → ℕ = λ b. cond (not b && held) 1 0 in
    let as_held : Bool → ℕ = λ b. cond b 1 0 in
    ap by_read is ∙ ap chosen (in_range_one sectors at within) ∙ ap as_held (is_verified_one sectors at out verify within (sym verify_is))

-- a difference from the Data-Out buffer is one from the verify instance
difference_out : (xs image out : List ℕ) (offset : ℕ) → take 512 out ≡ image → offset < 512
    → IsFirstDifference xs out offset → IsFirstDifference xs image offset
difference_out xs image out offset is within difference = record {
  within = difference.within;
  differs = λ same. difference.differs
      (same ∙ sym (ap (λ (ys : List ℕ). slice_index ys offset) is) ∙ get_or-take 512 out offset 0 within);
  same_before = difference.same_before ∙ sym (take-take offset 512 out (omega arith)) ∙ ap (λ (ys : List ℕ). take offset ys) is;
}

told : (sectors : List Sector) (at : ℕ) (out : List ℕ) (verify fresh : Sector) (reply : ScsiReply) (response : Response) (held : Bool)
    → at < length sectors → take 512 out ≡ verify.bytes → held ≡ holds_image (slice_get sectors at) verify
    → MatchBool held (reply ≡ good 0) (TellsMismatch sectors (Swap at 1) out reply)
    → (reply.sense ≡ None → response ≡ Done)
    → ((offset : ℕ) → offset < 512 → reply.sense ≡ Some (sense_bytes (Miscompare offset)) → response ≡ Differs offset)
    → Answers sectors (SwapOne at verify fresh) response
told sectors at out verify fresh reply response true within verify_is same ends done differs =
    let P : Response → Type 0 = λ r. Answers sectors (SwapOne at verify fresh) r in
    subst P (sym (done (ap (λ (r : ScsiReply). r.sense) ends))) (sym same)
told sectors at out verify fresh reply response false within verify_is same (offset, small, difference, ends) done differs =
    let P : Response → Type 0 = λ r. Answers sectors (SwapOne at verify fresh) r in
    let s : Sector = get_or sectors at verify in
    let is : slice_get sectors at ≡ Some s = slice_get-get_or sectors at verify within in
    let Q : List ℕ → Type 0 = λ xs. IsFirstDifference xs out offset in
    let bytes : IsFirstDifference s.bytes out offset = subst Q (bytes_from_one sectors at s is) difference in
    subst P (sym (differs offset small (ap (λ (r : ScsiReply). r.sense) ends)))
    (s, is, difference_out s.bytes verify.bytes out offset verify_is small bytes)

-- and is answered as that Swap
pub swap_one_answers : (sectors : List Sector) (at : ℕ) (read : Result Cdb CdbFault) (out : List ℕ) (verify fresh : Sector) (reply : ScsiReply) (response : Response)
    → at < length sectors → read ≡ Ok (Swap at 1) → take 512 out ≡ verify.bytes
    → Replies sectors read out reply
    → (reply.sense ≡ None → response ≡ Done)
    → ((offset : ℕ) → offset < 512 → reply.sense ≡ Some (sense_bytes (Miscompare offset)) → response ≡ Differs offset)
    → Answers sectors (SwapOne at verify fresh) response
swap_one_answers sectors at read out verify fresh reply response within is verify_is replies done differs =
    let by_read : Result Cdb CdbFault → Type 0 = λ r. Replies sectors r out reply in
    told sectors at out verify fresh reply response (is_verified sectors (Swap at 1) out) within verify_is
    (is_verified_one sectors at out verify within (sym verify_is))
    (MatchBool-at_false _ _ (in_range_one sectors at within) (subst by_read is replies)) done differs
