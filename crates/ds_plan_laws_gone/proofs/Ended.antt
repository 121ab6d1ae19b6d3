-- The body of a descriptor that is no longer in use.
use Rattle.std.proofs.Common.{◌≡◌, ℕ, ◌-◌, zero, suc, ◌<◌, ◌≤◌, ◌^◌, length, drop, None, lit<, sym, ap, subst, ◌∙◌, arith}
use Rattle.std.proofs.lemmas.List.{length-replicate}
use Rattle.ds_bytes.specs.Fields.{zeros, AllBelow}
use Rattle.ds_fd.specs.Body.{IsBody, links_of, most_count, least_birth, addresses_used}
use Rattle.ds_fd.specs.declared.body.Body.{Body}

zeros-below : (limit n : ℕ) → 0 < limit → AllBelow limit (zeros n)
unfolding zeros
zeros-below limit zero some i = some
zeros-below limit (suc n) some zero = some
zeros-below limit (suc n) some (suc i) = zeros-below limit n some i

length-zeros : (n : ℕ) → length (zeros n) ≡ n
unfolding zeros
length-zeros n = length-replicate n 0

-- a body without kind, links, count and addresses, of the same descriptor in the same life
pub ended-is_body : (old new : Body) → IsBody old → new.object ≡ old.object → new.kind ≡ None → new.links ≡ 0 → new.birth ≡ old.birth → new.count ≡ 0
    → new.addresses ≡ zeros 96 → IsBody new
ended-is_body old new is object kind links birth count addresses = record {
  widths = record {
    object_fits = omega (arith, object, is.widths.object_fits);
    links_fit = omega (arith, links);
    birth_fits = omega (arith, birth, is.widths.birth_fits);
    count_fits = omega (arith, count);
    address_count = ap length addresses ∙ length-zeros 96;
    addresses_fit = subst (AllBelow (2 ^ 32)) (sym addresses) (zeros-below (2 ^ 32) 96 (lit< tt));
  };
  ranges = record {
    links_are = links ∙ ap links_of (sym kind);
    count_to = subst (λ k. new.count ≤ most_count k) (sym kind) (omega (arith, count));
    birth_from = subst (λ k. least_birth k ≤ new.birth) (sym kind) (omega arith);
    birth_to = omega (arith, birth, is.ranges.birth_to);
    rest_is_zero = subst (λ k. drop (addresses_used k new.count) new.addresses ≡ zeros (96 - addresses_used k new.count)) (sym kind) addresses;
  };
}
