-- What a descriptor says: its tail, and what stands past the last descriptor.
use Rattle.std.proofs.Common.{◌≡◌, ℕ, ◌-◌, ◌<◌, ◌≤◌, List, take, drop, length, min, Option, None, Some, refl, sym, ap, ◌∙◌, subst, inl, inr, arith}
use Rattle.std.specs.List.{flat_map}
use Rattle.std.specs.Prelude.{IsSome}
use Rattle.std.proofs.lemmas.Bool.{cases_lt}
use Rattle.std.proofs.lemmas.List.{take_rest, drop_min, get_or_past}
use Rattle.std.proofs.lemmas.List.Elements.{All-nil}
use Rattle.ds_fd.specs.declared.body.Body.{Body}
use Rattle.ds_image_parts.specs.Objects.{addresses_in, ptrs_of, tail_of}
use Rattle.ds_image_parts.specs.Parts.{Parts, part_at}
use Rattle.ds_image.specs.Sound.{IsNamedRight}
use Rattle.ds_image.specs.SoundObjects.{count_in, IsSoundObject}
use Rattle.ds_image.proofs.FileTrees.NamesApart.{apart-none}

pub rest-from_min : {X : Type 0} (xs : List X) (at n : ℕ) → at ≡ min n (length xs) → take (length xs - at) (drop at xs) ≡ drop n xs
rest-from_min xs at n is = take_rest xs at ∙ ap (λ k. drop k xs) is ∙ drop_min n xs

-- a file's tail is what its pointer blocks have past its count
pub tail-is : (p : Parts) (body : Option Body)
    → tail_of p body ≡ drop (count_in body) (flat_map (λ n. addresses_in (part_at p.ptrs n)) (ptrs_of body))
tail-is p None = refl
tail-is p (Some b) = refl

-- where no body is spelled all is sound
pub nothing-sound : (p : Parts) → IsSoundObject p None
nothing-sound p = record {
  subs = All-nil (λ n. IsSome (part_at p.subs n));
  ptrs = All-nil (λ n. IsSome (part_at p.ptrs n));
  names = apart-none;
  entries = All-nil (IsNamedRight p);
  tails = λ i. refl;
}

-- what holds of each descriptor, and past the last, holds by every number
pub all-sound : (p : Parts) (n : ℕ) → length p.bodies ≤ n → ((o : ℕ) → o < n → IsSoundObject p (part_at p.bodies o)) → (o : ℕ)
    → IsSoundObject p (part_at p.bodies o)
all-sound p n past each o = elim (cases_lt o n) [
  | inl below ↦ each o below
  | inr above ↦ subst (IsSoundObject p) (sym (get_or_past p.bodies o None (omega (arith)))) (nothing-sound p)
]
