-- A free item is one of the geometry, and a directory's body that grows can be spelled.
use Rattle.std.proofs.Common.{◌≡◌, ℕ, zero, suc, ◌+◌, ◌-◌, ◌^◌, ◌<◌, ◌≤◌, List, [], ◌∷◌, drop, slice_set, replicate, refl, sym, ap, subst, ◌∙◌, length-set, arith}
use Rattle.std.proofs.lemmas.List.{drop-set-lt, drop-replicate}
use Rattle.std.proofs.lemmas.Nat.{mul-add-lt}
use Rattle.std.proofs.lemmas.Option.{slice_get_within}
use Rattle.ds_base.specs.Geometry.{clusters_of, per_cluster, items_of}
use Rattle.ds_base.specs.declared.geometry.Geom.{Geom}
use Rattle.ds_base.specs.declared.geometry.Kind.{Kind}
use Rattle.ds_bytes.specs.Fields.{zeros, AllBelow}
use Rattle.ds_fd.specs.Body.{IsBody, most_count, addresses_used}
use Rattle.ds_fd.specs.declared.body.Body.{Body}
use Rattle.ds_plan_base.specs.Items.{IsFreeItem, number_of}
use Rattle.ds_plan_base.specs.Objects.{CanGrow}
use Rattle.ds_plan_base.specs.Redos.{body_grown}
use Rattle.ds_plan_base.specs.declared.items.FreeItem.{FreeItem}

-- a free item is one of the geometry
pub item-within : (g : Geom) (kind : Kind) (free : FreeItem) → IsFreeItem g kind free → number_of g kind free < items_of g kind
item-within g kind free is =
    let item : free.item < per_cluster g kind = omega (arith, slice_get_within free.map.used free.item _ is.is_free, is.is_bits.count) in
    omega (arith, mul-add-lt free.cluster (per_cluster g kind) free.item (clusters_of g kind) is.cluster item)

pub zeros-are : (n : ℕ) → replicate n 0 ≡ zeros n
unfolding zeros
zeros-are n = refl

-- a directory's body with one sub-block more
grown-rest : (xs : List ℕ) (count n : ℕ) → count < 96 → drop count xs ≡ zeros (96 - count) → drop (count + 1) (slice_set xs count n) ≡ zeros (96 - (count + 1))
grown-rest xs count n few rest =
    let fewer : 96 - count - 1 ≡ 96 - (count + 1) = omega (arith, few) in
    drop-set-lt (count + 1) xs count n (omega arith)
    ∙ drop-more xs count
    ∙ ap (drop 1) (rest ∙ sym (zeros-are (96 - count)))
    ∙ drop-replicate 1 (96 - count) 0
    ∙ ap (λ k. replicate k 0) fewer
    ∙ zeros-are (96 - (count + 1))
  where
    drop-next : (xs : List ℕ) (k : ℕ) → drop (suc k) xs ≡ drop 1 (drop k xs)
    drop-next xs zero = refl
    drop-next [] (suc k) = refl
    drop-next (x ∷ xs) (suc k) = drop-next xs k

    drop-more : (xs : List ℕ) (k : ℕ) → drop (k + 1) xs ≡ drop 1 (drop k xs)
    drop-more xs k = let one : k + 1 ≡ suc k = omega arith in ap (λ j. drop j xs) one ∙ drop-next xs k

set-below : (limit : ℕ) (xs : List ℕ) (at x : ℕ) → x < limit → AllBelow limit xs → AllBelow limit (slice_set xs at x)
set-below limit [] at x l all i = all i
set-below limit (y ∷ xs) zero x l all zero = l
set-below limit (y ∷ xs) zero x l all (suc i) = all (suc i)
set-below limit (y ∷ xs) (suc at) x l all zero = all 0
set-below limit (y ∷ xs) (suc at) x l all (suc i) = set-below limit xs at x l (λ k. all (suc k)) i

pub grown-is_body : (dir : Body) (n : ℕ) → CanGrow dir → n < 2 ^ 32 → IsBody (body_grown dir n)
grown-is_body dir n can l =
    let is = can.is_body in
    record {
      widths = record {
        object_fits = is.widths.object_fits;
        links_fit = is.widths.links_fit;
        birth_fits = is.widths.birth_fits;
        count_fits = omega (arith, can.few);
        address_count = length-set dir.addresses dir.count n ∙ is.widths.address_count;
        addresses_fit = set-below (2 ^ 32) dir.addresses dir.count n l is.widths.addresses_fit;
      };
      ranges = record {
        links_are = is.ranges.links_are;
        count_to = subst (λ kind. dir.count + 1 ≤ most_count kind) (sym can.is_dir) (omega (arith, can.few));
        birth_from = is.ranges.birth_from;
        birth_to = is.ranges.birth_to;
        rest_is_zero =
            let used : drop dir.count dir.addresses ≡ zeros (96 - dir.count) =
            subst (λ kind. drop (addresses_used kind dir.count) dir.addresses ≡ zeros (96 - addresses_used kind dir.count)) can.is_dir is.ranges.rest_is_zero in
            subst (λ kind. drop (addresses_used kind (dir.count + 1)) (slice_set dir.addresses dir.count n) ≡ zeros (96 - addresses_used kind (dir.count + 1))) (sym can.is_dir)
            (grown-rest dir.addresses dir.count n can.few used);
      };
    }
