-- Bodies that planners make: that of an empty object, and that of a directory with one sub-block more.
use Rattle.std.proofs.Common.{◌≡◌, ℕ, ◌+◌, ◌-◌, ◌^◌, ◌<◌, ◌≤◌, List, length, drop, get_or, replicate, slice_set, Some, refl, sym, ap, subst, ◌∙◌, length-set, get_or-set_same, get_or-set_other, inl, inr, arith}
use Rattle.std.proofs.lemmas.Bool.{cases_eq}
use Rattle.std.proofs.lemmas.List.{drop-replicate, drop-set-lt, drop-drop}
use Rattle.ds_base.specs.declared.names.NodeKind.{NodeKind}
use Rattle.ds_base.specs.declared.names.NodeKind.TheVariants as kinds
use Rattle.ds_bytes.specs.Fields.{AllBelow, zeros}
use Rattle.ds_fd.specs.Body.{IsBody, links_of, most_count, least_birth, addresses_used}
use Rattle.ds_fd.specs.declared.body.Body.{Body}
use Rattle.ds_plan_laws_new.specs.Bodies.{IsEmptyBody, IsGrownBody}
use Rattle.ds_image.proofs.NewVolumes.FreshVolume.{no_addresses}

none-used : (kind : NodeKind) → addresses_used (Some kind) 0 ≡ 0
none-used kinds.Dir = refl
none-used kinds.File = refl

few-links : (kind : NodeKind) → links_of (Some kind) < 2 ^ 32
few-links kinds.Dir = omega arith
few-links kinds.File = omega arith

-- such a body is one
pub empty-is_body : (b : Body) (o : ℕ) (kind : NodeKind) (birth : ℕ) → o < 2 ^ 32 → 1 ≤ birth → birth ≤ 2 ^ 62 → IsEmptyBody b o kind birth → IsBody b
unfolding zeros
empty-is_body b o kind birth small from to is = record {
  widths = record {
    object_fits = omega (arith, is.object, small);
    links_fit = omega (arith, is.links, few-links kind);
    birth_fits = omega (arith, is.birth_is, to);
    count_fits = omega (arith, is.count);
    address_count = ap length is.addresses;
    addresses_fit = subst (AllBelow (2 ^ 32)) (sym is.addresses) (no_addresses 96 (2 ^ 32) (omega arith));
  };
  ranges = record {
    links_are = is.links ∙ ap links_of (sym is.kind_is);
    count_to = omega (arith, is.count);
    birth_from = subst (λ k. least_birth k ≤ b.birth) (sym is.kind_is) (omega (arith, is.birth_is, from));
    birth_to = omega (arith, is.birth_is, to);
    rest_is_zero =
        let used : addresses_used b.kind b.count ≡ 0 = ap (λ k. addresses_used k b.count) is.kind_is ∙ ap (addresses_used (Some kind)) is.count ∙ none-used kind in
        ap (λ n. drop n b.addresses) used ∙ is.addresses ∙ ap (λ n. zeros (96 - n)) (sym used);
  };
}

below-set : (limit : ℕ) (xs : List ℕ) (i n : ℕ) → n < limit → i < length xs → AllBelow limit xs → AllBelow limit (slice_set xs i n)
below-set limit xs i n small within below k = elim (cases_eq k i) [
  | inl here ↦ subst (λ x. x < limit) (sym (ap (λ j. get_or (slice_set xs i n) j 0) here ∙ get_or-set_same xs i n 0 within)) small
  | inr other ↦ subst (λ x. x < limit) (sym (get_or-set_other xs i k n 0 other)) (below k)
]

-- behind one address more the others are zero still
rest-behind : (addresses : List ℕ) (count n : ℕ) → drop (count + 1) (slice_set addresses count n) ≡ drop 1 (drop count addresses)
rest-behind addresses count n = drop-set-lt (count + 1) addresses count n (omega arith) ∙ sym (drop-drop 1 count addresses)

rest-zero : (all count : ℕ) → drop {A = ℕ} 1 (replicate (all - count) 0) ≡ replicate (all - (count + 1)) 0
rest-zero all count =
    let less : all - count - 1 ≡ all - (count + 1) = omega arith in
    subst (λ k. drop {A = ℕ} 1 (replicate (all - count) 0) ≡ replicate k 0) less (drop-replicate 1 (all - count) 0)

rest-set : (addresses : List ℕ) (count n : ℕ) → drop count addresses ≡ replicate (96 - count) 0
    → drop (count + 1) (slice_set addresses count n) ≡ replicate (96 - (count + 1)) 0
rest-set addresses count n before = rest-behind addresses count n ∙ ap (drop 1) before ∙ rest-zero 96 count

-- such a body is one, where there was an address left
pub grown-is_body : (b dir : Body) (n : ℕ) → IsBody dir → dir.kind ≡ Some kinds.Dir → dir.count < 96 → n < 2 ^ 32 → IsGrownBody b dir n → IsBody b
unfolding zeros
grown-is_body b dir n body dir_is room small is =
    let kind_is : b.kind ≡ Some kinds.Dir = is.kind_is ∙ dir_is in
    let wide : length dir.addresses ≡ 96 = body.widths.address_count in
    let links : dir.links ≡ 0 = body.ranges.links_are ∙ ap links_of dir_is in
    record {
      widths = record {
        object_fits = omega (arith, is.object, body.widths.object_fits);
        links_fit = omega (arith, is.links, links);
        birth_fits = omega (arith, is.birth, body.widths.birth_fits);
        count_fits = omega (arith, is.count, room);
        address_count = ap length is.addresses ∙ length-set dir.addresses dir.count n ∙ wide;
        addresses_fit = subst (AllBelow (2 ^ 32)) (sym is.addresses) (below-set (2 ^ 32) dir.addresses dir.count n small (omega (arith, wide, room)) body.widths.addresses_fit);
      };
      ranges = record {
        links_are = is.links ∙ links ∙ sym (ap links_of kind_is);
        count_to = subst (λ k. b.count ≤ most_count k) (sym kind_is) (omega (arith, is.count, room));
        birth_from = subst (λ k. least_birth k ≤ b.birth) (sym is.kind_is) (omega (arith, is.birth, body.ranges.birth_from));
        birth_to = omega (arith, is.birth, body.ranges.birth_to);
        rest_is_zero =
            let before : drop dir.count dir.addresses ≡ replicate (96 - dir.count) 0 = subst (λ k. drop (addresses_used k dir.count) dir.addresses ≡ replicate (96 - addresses_used k dir.count) 0) dir_is body.ranges.rest_is_zero in
            let used : addresses_used b.kind b.count ≡ dir.count + 1 = ap (λ k. addresses_used k b.count) kind_is ∙ is.count in
            subst (λ k. drop k b.addresses ≡ replicate (96 - k) 0) (sym used) (subst (λ l. drop (dir.count + 1) l ≡ replicate (96 - (dir.count + 1)) 0) (sym is.addresses) (rest-set dir.addresses dir.count n before));
      };
    }
