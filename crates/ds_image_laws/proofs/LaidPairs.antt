-- Pairs without a common target are laid in any order, and pairs that stand at their sectors lay nothing.
use Rattle.std.proofs.Common.{◌≡◌, ℕ, ◌<◌, List, length, slice_get, Option, sym, ap, ◌∙◌, inl, inr, arith}
use Rattle.std.proofs.lemmas.Bool.{cases_Bool}
use Rattle.std.proofs.lemmas.List.{same_lists}
use Rattle.std.proofs.lemmas.Option.{same_Some, slice_get-get_or}
use Rattle.ds_base.specs.declared.sectors.Sector.{Sector}
use Rattle.ds_image_parts.specs.Logical.{laid_over}
use Rattle.ds_image_parts.specs.Pending.{Pair}
use Rattle.ds_image_parts.proofs.Journaling.LaidOver.{picked, laid_get, length-laid_over}
use Rattle.ds_image_laws.specs.Kept.{is_target}
use Rattle.ds_image_laws.specs.Laws.{ShareNoTarget}
use Rattle.ds_image_laws.specs.Shown.{AreInPlace}
use Rattle.ds_image_laws.proofs.PickedPairs.{picked-none, picked-in_place}

lists-by_places : (xs ys : List Sector) → length xs ≡ length ys → ((k : ℕ) → k < length xs → slice_get xs k ≡ slice_get ys k) → xs ≡ ys
lists-by_places xs ys count same =
    same_lists xs ys count
    (λ k d l. same_Some _ _ (sym (slice_get-get_or xs k d l) ∙ same k l ∙ slice_get-get_or ys k d (omega (arith, l, count))))

-- a pair for the sector is in one of the lists at most
picked-in_any_order : (ps qs : List Pair) (at : ℕ) (there : Option Sector) → ShareNoTarget ps qs
    → picked qs at (picked ps at there) ≡ picked ps at (picked qs at there)
picked-in_any_order ps qs at there apart = elim (cases_Bool (is_target ps at)) [
  | inl mine ↦ elim (cases_Bool (is_target qs at)) [
    | inl theirs ↦ absurd (apart at mine theirs)
    | inr clear ↦ picked-none qs at (picked ps at there) clear ∙ ap (picked ps at) (sym (picked-none qs at there clear))
  ]
  | inr clear ↦ ap (picked qs at) (picked-none ps at there clear) ∙ sym (picked-none ps at (picked qs at there) clear)
]

pub laid-in_any_order : (sectors : List Sector) (ps qs : List Pair) → ShareNoTarget ps qs
    → laid_over (laid_over sectors ps) qs ≡ laid_over (laid_over sectors qs) ps
laid-in_any_order sectors ps qs apart =
    let one : length (laid_over sectors ps) ≡ length sectors = length-laid_over sectors ps in
    let two : length (laid_over sectors qs) ≡ length sectors = length-laid_over sectors qs in
    let both : length (laid_over (laid_over sectors ps) qs) ≡ length sectors = length-laid_over (laid_over sectors ps) qs ∙ one in
    let back : length (laid_over (laid_over sectors qs) ps) ≡ length sectors = length-laid_over (laid_over sectors qs) ps ∙ two in
    lists-by_places (laid_over (laid_over sectors ps) qs) (laid_over (laid_over sectors qs) ps) (both ∙ sym back)
    (λ k l.
    let within : k < length sectors = omega (arith, l, both) in
    laid_get (laid_over sectors ps) qs k (omega (arith, within, one))
    ∙ ap (picked qs k) (laid_get sectors ps k within)
    ∙ picked-in_any_order ps qs k (slice_get sectors k) apart
    ∙ sym (laid_get (laid_over sectors qs) ps k (omega (arith, within, two)) ∙ ap (picked ps k) (laid_get sectors qs k within)))

pub laid-in_place : (sectors : List Sector) (pairs : List Pair) → AreInPlace sectors pairs → laid_over sectors pairs ≡ sectors
laid-in_place sectors pairs stand =
    let count : length (laid_over sectors pairs) ≡ length sectors = length-laid_over sectors pairs in
    lists-by_places (laid_over sectors pairs) sectors count
    (λ k l. laid_get sectors pairs k (omega (arith, l, count)) ∙ picked-in_place sectors pairs k stand)
