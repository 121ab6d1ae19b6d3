-- Comparing and writing one block is the Swap of one sector.
use Rattle.std.proofs.Common.{◌≡◌, ℕ, ◌<◌, Bool, true, false, List, [], ◌∷◌, length, take, drop, refl, ap, sym, ◌∙◌, subst, arith}
use Rattle.std.specs.Prelude.{Option, Some, None, slice_get, slice_set, slice_index, MatchOption, IfSome, if◌then◌else◌}
use Rattle.std.specs.Str.{bytes_eq}
use Rattle.std.proofs.lemmas.List.{get_or-take, take-take}
use Rattle.std.proofs.lemmas.Option.{slice_get-get_or}
use Rattle.std.proofs.lemmas.Slice.Eq.{bytes_eq-Decides}
use Rattle.std.proofs.Math.ListN.{get_or}
use Rattle.ds_base.specs.declared.sectors.Sector.{Sector}
use Rattle.ds_base.specs.declared.commands.Command.TheVariants.{Swap as SwapOne}
use Rattle.ds_base.specs.Device.{holds_image, stored, IsFirstDifference}
use Rattle.ds_scsi.specs.declared.command_blocks.Cdb.TheVariants.{Swap}
use Rattle.ds_target.specs.Blocks.{bytes_from, images_in, overwritten}
use Rattle.ds_target.specs.Execution.{is_verified, written}
use Rattle.ds_target.proofs.Runs.{bytes_from_one, overwritten_one}

-- whether the sector holds the verify instance
pub is_verified_one : (sectors : List Sector) (at : ℕ) (out : List ℕ) (verify : Sector)
    → at < length sectors → verify.bytes ≡ take 512 out
    → is_verified sectors (Swap at 1) out ≡ holds_image (slice_get sectors at) verify
is_verified_one sectors at out verify within same =
    let s : Sector = get_or sectors at verify in
    let is : slice_get sectors at ≡ Some s = slice_get-get_or sectors at verify within in
    let by_sector : List ℕ → Bool = λ xs. bytes_eq xs (take 512 out) in
    let by_image : List ℕ → Bool = λ ys. bytes_eq s.bytes ys in
    let by_held : Option Sector → Bool = λ held. holds_image held verify in
    ap by_sector (bytes_from_one sectors at s is) ∙ ap by_image (sym same) ∙ sym (ap by_held is)

-- the sectors after it
pub stored_one : (sectors : List Sector) (at : ℕ) (out : List ℕ) (verify fresh : Sector)
    → at < length sectors → verify.bytes ≡ take 512 out → fresh.bytes ≡ take 512 (drop 512 out)
    → stored sectors (SwapOne at verify fresh)
    ≡ (if is_verified sectors (Swap at 1) out then written sectors (Swap at 1) out else sectors)
unfolding images_in
stored_one sectors at out verify fresh within verify_is fresh_is =
    let held : Bool = holds_image (slice_get sectors at) verify in
    let by_test : Bool → List Sector = λ b. if b then slice_set sectors at fresh else sectors in
    let by_written : List Sector → List Sector = λ all. if is_verified sectors (Swap at 1) out then all else sectors in
    let by_image : List ℕ → List Sector = λ bytes. overwritten sectors at (record { bytes = bytes } ∷ []) in
    ap by_test (sym (is_verified_one sectors at out verify within verify_is))
    ∙ ap by_written (sym (overwritten_one sectors at fresh within) ∙ ap by_image fresh_is)

-- lists that differ aren't equal
unequal : (xs ys : List ℕ) (offset : ℕ) (b : Bool) → IsFirstDifference xs ys offset → (b ≡ true → xs ≡ ys) → b ≡ false
unequal xs ys offset true difference same =
    absurd (difference.differs (ap (λ (zs : List ℕ). slice_index zs offset) (same refl)))
unequal xs ys offset false difference same = refl

-- a difference from the verify instance is one from the Data-Out buffer
difference_in : (xs image out : List ℕ) (offset : ℕ) → image ≡ take 512 out → offset < 512
    → IsFirstDifference xs image offset → IsFirstDifference xs out offset
difference_in xs image out offset is within difference = record {
  within = difference.within;
  differs = λ same. difference.differs (same ∙ sym (ap (λ (ys : List ℕ). slice_index ys offset) is ∙ get_or-take 512 out offset 0 within));
  same_before = difference.same_before ∙ ap (λ (ys : List ℕ). take offset ys) is ∙ take-take offset 512 out (omega arith);
}

-- what is told of it
pub told_one : (sectors : List Sector) (at : ℕ) (out : List ℕ) (verify : Sector) (answer : Option ℕ)
    → at < length sectors → verify.bytes ≡ take 512 out
    → MatchOption answer (holds_image (slice_get sectors at) verify ≡ true)
    (λ offset. (s : Sector) × (slice_get sectors at ≡ Some s) × IsFirstDifference s.bytes verify.bytes offset)
    → IfSome answer (λ offset. offset < 512)
    → MatchOption answer (is_verified sectors (Swap at 1) out ≡ true)
    (λ offset. (is_verified sectors (Swap at 1) out ≡ false) × (offset < 512) × IsFirstDifference (bytes_from sectors at 1) out offset)
told_one sectors at out verify None within same told small = is_verified_one sectors at out verify within same ∙ told
told_one sectors at out verify (Some offset) within same (s, is, difference) small =
    let by_held : Option Sector → Bool = λ held. holds_image held verify in
    let far : IsFirstDifference s.bytes out offset = difference_in s.bytes verify.bytes out offset same small difference in
    let bytes : s.bytes ≡ bytes_from sectors at 1 = sym (bytes_from_one sectors at s is) in
    let P : List ℕ → Type 0 = λ xs. IsFirstDifference xs out offset in (
      is_verified_one sectors at out verify within same ∙ ap by_held is
          ∙ unequal s.bytes verify.bytes offset (bytes_eq s.bytes verify.bytes) difference (bytes_eq-Decides s.bytes verify.bytes).0,
      small,
      subst P bytes far,
    )
