-- What a command does to the sectors, as layers above cite it.
use Rattle.std.proofs.Common.{◌≡◌, ℕ, ◌<◌, Bool, true, false, List, length, refl, ap, sym, subst, ◌∙◌, length-set, arith}
use Rattle.std.specs.Prelude.{Option, Some, None, slice_get, slice_set, slice_index, if◌then◌else◌}
use Rattle.std.proofs.lemmas.List.{get_or-take}
use Rattle.std.proofs.lemmas.Bool.{false≢true}
use Rattle.std.proofs.lemmas.Slice.Eq.{bytes_eq-Decides}
use Rattle.ds_base.specs.declared.sectors.Sector.{Sector}
use Rattle.ds_base.specs.declared.commands.Command.{Command}
use Rattle.ds_base.specs.declared.commands.Command.TheVariants.{Read, Write, Swap}
use Rattle.ds_base.specs.declared.commands.Response.{Response}
use Rattle.ds_base.specs.declared.commands.Response.TheVariants.{Got, Done, Miscompare, Fault}
use Rattle.ds_base.specs.Device.{holds_image, stored, Answers, IsFirstDifference, IsTheAnswer}

-- two sectors with the same bytes are the same sector
pub same_from_bytes : (s t : Sector) → s.bytes ≡ t.bytes → s ≡ t
same_from_bytes s t e = let make : List ℕ → Sector = λ bytes. record { bytes = bytes } in ap make e

-- where an image is found, it is the sector that stands there
pub found_image : (o : Option Sector) (image : Sector) → holds_image o image ≡ true → o ≡ Some image
found_image None image h = absurd (false≢true h)
found_image (Some s) image h = ap Some (same_from_bytes s image ((bytes_eq-Decides s.bytes image.bytes).0 h))

-- the same, with the sector named
pub sector_of_image : (o : Option Sector) (image : Sector) → holds_image o image ≡ true → (s : Sector) × (o ≡ Some s) × (s ≡ image)
sector_of_image o image h = (image, found_image o image h, refl)

pub holds_image-itself : (s : Sector) → holds_image (Some s) s ≡ true
holds_image-itself s = (bytes_eq-Decides s.bytes s.bytes).1 refl

pub holds_image-found : (o : Option Sector) (image : Sector) → o ≡ Some image → holds_image o image ≡ true
holds_image-found o image e = ap (λ p. holds_image p image) e ∙ holds_image-itself image

-- a Swap that finds its image stores the fresh sector
pub stored-swap_holds : (sectors : List Sector) (at : ℕ) (verify fresh : Sector) → holds_image (slice_get sectors at) verify ≡ true → stored sectors (Swap at verify fresh) ≡ slice_set sectors at fresh
stored-swap_holds sectors at verify fresh h = ap (λ b. if b then slice_set sectors at fresh else sectors) h

-- a Swap that does not find its image leaves the sectors
pub stored-swap_differs : (sectors : List Sector) (at : ℕ) (verify fresh : Sector) → holds_image (slice_get sectors at) verify ≡ false → stored sectors (Swap at verify fresh) ≡ sectors
stored-swap_differs sectors at verify fresh h = ap (λ b. if b then slice_set sectors at fresh else sectors) h

length-chosen : (b : Bool) (xs ys : List Sector) → length xs ≡ length ys → length (if b then xs else ys) ≡ length ys
length-chosen true xs ys e = e
length-chosen false xs ys e = refl

-- no command changes how many sectors there are
pub length-stored : (sectors : List Sector) (command : Command) → length (stored sectors command) ≡ length sectors
length-stored sectors (Read at) = refl
length-stored sectors (Write at fresh) = length-set sectors at fresh
length-stored sectors (Swap at verify fresh) =
    length-chosen (holds_image (slice_get sectors at) verify) _ _ (length-set sectors at fresh)

none_earlier : (xs ys : List ℕ) (i j : ℕ) → IsFirstDifference xs ys i → IsFirstDifference xs ys j → i < j → ⊥
none_earlier xs ys i j first second less =
    first.differs (sym (get_or-take j xs i 0 less) ∙ ap (λ (zs : List ℕ). slice_index zs i) second.same_before ∙ get_or-take j ys i 0 less)

-- two lists have one first difference
pub one_first_difference : (xs ys : List ℕ) (i j : ℕ) → IsFirstDifference xs ys i → IsFirstDifference xs ys j → i ≡ j
one_first_difference xs ys i j first second =
    omega (arith, none_earlier xs ys i j first second, none_earlier xs ys j i second first)

-- a list does not differ from itself
pub no_difference : (xs : List ℕ) (i : ℕ) → IsFirstDifference xs xs i → ⊥
no_difference xs i difference = difference.differs refl

-- a sector that an option holds is one
one_held : (o : Option Sector) (s t : Sector) → o ≡ Some s → o ≡ Some t → s ≡ t
one_held o s t first second = let same : Some s ≡ Some t = sym first ∙ second in cc

-- an image in place is no mismatch
no_mismatch : (sectors : List Sector) (at : ℕ) (verify s : Sector) (offset : ℕ) → holds_image (slice_get sectors at) verify ≡ true
    → slice_get sectors at ≡ Some s → IsFirstDifference s.bytes verify.bytes offset → ⊥
no_mismatch sectors at verify s offset held is difference =
    let P : Sector → Type 0 = λ t. IsFirstDifference t.bytes verify.bytes offset in
    no_difference verify.bytes offset (subst P (one_held _ s verify is (found_image _ verify held)) difference)

-- a command has one answer
pub one_answer : (sectors : List Sector) (command : Command) (response : Response) → Answers sectors command response → IsTheAnswer sectors command response
one_answer sectors (Read at) (Got s) is (Got t) also = ap Got (one_held _ s t is also)
one_answer sectors (Write at fresh) Done is Done also = refl
one_answer sectors (Swap at verify fresh) Done is Done also = refl
one_answer sectors (Swap at verify fresh) Done is (Miscompare offset) (s, there, differs) = absurd (no_mismatch sectors at verify s offset is there differs)
one_answer sectors (Swap at verify fresh) (Miscompare offset) (s, there, differs) Done also = absurd (no_mismatch sectors at verify s offset also there differs)
one_answer sectors (Swap at verify fresh) (Miscompare i) (s, there, differs) (Miscompare j) (t, found, differs_too) =
    let P : Sector → Type 0 = λ x. IsFirstDifference x.bytes verify.bytes j in
    ap Miscompare (one_first_difference s.bytes verify.bytes i j differs (subst P (one_held _ t s found there) differs_too))
one_answer sectors (Read at) Done is other also = absurd is
one_answer sectors (Read at) (Miscompare offset) is other also = absurd is
one_answer sectors (Read at) Fault is other also = absurd is
one_answer sectors (Read at) (Got s) is Done also = absurd also
one_answer sectors (Read at) (Got s) is (Miscompare offset) also = absurd also
one_answer sectors (Read at) (Got s) is Fault also = absurd also
one_answer sectors (Write at fresh) (Got s) is other also = absurd is
one_answer sectors (Write at fresh) (Miscompare offset) is other also = absurd is
one_answer sectors (Write at fresh) Fault is other also = absurd is
one_answer sectors (Write at fresh) Done is (Got s) also = absurd also
one_answer sectors (Write at fresh) Done is (Miscompare offset) also = absurd also
one_answer sectors (Write at fresh) Done is Fault also = absurd also
one_answer sectors (Swap at verify fresh) (Got s) is other also = absurd is
one_answer sectors (Swap at verify fresh) Fault is other also = absurd is
one_answer sectors (Swap at verify fresh) Done is (Got s) also = absurd also
one_answer sectors (Swap at verify fresh) Done is Fault also = absurd also
one_answer sectors (Swap at verify fresh) (Miscompare i) is (Got s) also = absurd also
one_answer sectors (Swap at verify fresh) (Miscompare i) is Fault also = absurd also
