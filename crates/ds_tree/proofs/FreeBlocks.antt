-- The free blocks: no two are equal, none is a file's, and there are as many as the counts say.
use Rattle.std.proofs.Common.{◌≡◌, ◌≢◌, ℕ, suc, zero, ◌+◌, ◌<◌, ◌≤◌, cond, Bool, true, false, List, [], ◌∷◌, length, take, filter, nat_eq, refl, sym, ap, subst, ◌∙◌, arith}
use Rattle.std.specs.Prelude.{All, Contains, not, Option, Some, None}
use Rattle.std.specs.List.{AllByRecursion, IsDistinct, list_any, range_with_len, sum_by, flat_map}
use Rattle.std.proofs.lemmas.Bool.{ne_eqb, eq-eqb, eqb-true, false≢true}
use Rattle.std.proofs.lemmas.Cmp.{nat_eq_equiv}
use Rattle.std.proofs.lemmas.List.{length-take, length-append}
use Rattle.std.proofs.lemmas.List.Elements.{filter_passes, All-filter, All-take, All-weaker}
use Rattle.std.proofs.lemmas.List.Folds.{list_any-from_Any, Any-from_list_any}
use Rattle.std.proofs.lemmas.List.Filters.{length-filter_both}
use Rattle.std.proofs.lemmas.List.FromFn.{length-range_with_len, get_or-range_with_len}
use Rattle.std.proofs.lemmas.List.Sums.{sum_by-cons}
use Rattle.std.proofs.lemmas.Map.Made.{length-le_from_is_member}
use Rattle.ds_base.specs.declared.geometry.Geom.{Geom}
use Rattle.ds_base.specs.declared.geometry.Kind.TheVariants.{Fb}
use Rattle.ds_base.specs.Geometry.{items_of}
use Rattle.ds_tree.specs.Nodes.{Node, Dir, File, Object, FileTree, blocks_of, all_blocks}
use Rattle.ds_tree.specs.Counts.{node_uses, free_of}
use Rattle.ds_tree.specs.Lowest.{free_blocks}

apart-above : (p : ℕ → Bool) (x a n : ℕ) → x < a → AllByRecursion (λ y. nat_eq x y ≡ false) (filter p (range_with_len a n))
apart-above p x a zero h = tt
apart-above p x a (suc n) h =
    let differ : x ≢ a = λ e. absurd (omega arith) in
    let rest = apart-above p x (a + 1) n (omega arith) in
    elim (p a) as (λ b. AllByRecursion (λ y. nat_eq x y ≡ false) (cond b (a ∷ filter p (range_with_len (a + 1) n)) (filter p (range_with_len (a + 1) n)))) [
      | true ↦ (ne_eqb x a differ, rest)
      | false ↦ rest
    ]

apart-numbers : (p : ℕ → Bool) (a n : ℕ) → IsDistinct nat_eq (filter p (range_with_len a n))
unfolding IsDistinct
apart-numbers p a zero = tt
apart-numbers p a (suc n) =
    let rest = apart-numbers p (a + 1) n in
    elim (p a) as (λ b. IsDistinct nat_eq (cond b (a ∷ filter p (range_with_len (a + 1) n)) (filter p (range_with_len (a + 1) n)))) [
      | true ↦ (apart-above p a (a + 1) n (omega arith), rest)
      | false ↦ rest
    ]

take-all : (P : ℕ → Type 0) (k : ℕ) (xs : List ℕ) → AllByRecursion P xs → AllByRecursion P (take k xs)
take-all P zero xs h = tt
take-all P (suc k) [] h = tt
take-all P (suc k) (x ∷ xs) h = (h.0, take-all P k xs h.1)

take-apart : (k : ℕ) (xs : List ℕ) → IsDistinct nat_eq xs → IsDistinct nat_eq (take k xs)
unfolding IsDistinct
take-apart zero xs h = tt
take-apart (suc k) [] h = tt
take-apart (suc k) (x ∷ xs) h = (take-all _ k xs h.0, take-apart k xs h.1)

below : (n : ℕ) → All (λ b. b < n) (range_with_len 0 n)
below n = λ k d h.
    let short : k < n = subst (λ m. k < m) (length-range_with_len 0 n) h in
    let is = get_or-range_with_len 0 n k d short in
    omega (arith, is, short)

not_true : (b : Bool) → not b ≡ true → b ≡ false
not_true true h = absurd (cc)
not_true false h = refl

not_held : (xs : List ℕ) (b : ℕ) → list_any (nat_eq b) xs ≡ false → ¬ Contains xs b
not_held xs b none held =
    false≢true (sym none ∙ list_any-from_Any (nat_eq b) xs (held.0, b, held.1, held.2, eq-eqb b b refl))

module _ (g : Geom) (t : FileTree) where
  pub free-in_range : (k : ℕ) → All (λ b. b < items_of g Fb) (take k (free_blocks g t))
  free-in_range k = All-take (λ b. b < items_of g Fb) k (free_blocks g t) (All-filter _ (λ b. b < items_of g Fb) (range_with_len 0 (items_of g Fb)) (below (items_of g Fb)))

  pub free-not_held : (k : ℕ) → All (λ b. ¬ Contains (all_blocks t) b) (take k (free_blocks g t))
  free-not_held k = All-take (λ b. ¬ Contains (all_blocks t) b) k (free_blocks g t)
      (All-weaker (λ b. not (list_any (nat_eq b) (all_blocks t)) ≡ true) (λ b. ¬ Contains (all_blocks t) b)
      (λ b passes. not_held (all_blocks t) b (not_true _ passes)) (free_blocks g t) (filter_passes _ (range_with_len 0 (items_of g Fb))))

  pub free-apart : (k : ℕ) → IsDistinct nat_eq (take k (free_blocks g t))
  free-apart k = take-apart k (free_blocks g t) (apart-numbers _ 0 (items_of g Fb))

pub used-length : (objects : List Object) → sum_by (λ o. node_uses Fb o.node) objects ≡ length (flat_map (λ o. blocks_of o.node) objects)
used-length [] = refl
used-length (o ∷ os) = sum_by-cons (λ (o : Object). node_uses Fb o.node) o os
    ∙ omega (arith, used-length os, one o.node, length-append (blocks_of o.node) (flat_map (λ o. blocks_of o.node) os))
  where
    one : (n : Option Node) → node_uses Fb n ≡ length (blocks_of n)
    one None = refl
    one (Some (Dir entries rooms)) = refl
    one (Some (File blocks)) = refl

held-only : (xs ns : List ℕ) (q : ℕ) → list_any (nat_eq q) (filter (λ b. list_any (nat_eq b) xs) ns) ≡ true → list_any (nat_eq q) xs ≡ true
held-only xs ns q is =
    let a = Any-from_list_any (nat_eq q) (filter (λ b. list_any (nat_eq b) xs) ns) is in
    ap (λ y. list_any (nat_eq y) xs) (eqb-true q a.1 a.4 ∙ sym a.3) ∙ filter_passes (λ b. list_any (nat_eq b) xs) ns a.0 a.1 a.2

-- there are at least as many free blocks as the counts say
pub free-enough : (g : Geom) (t : FileTree) → free_of g t Fb ≤ length (free_blocks g t)
free-enough g t =
    let blocks = all_blocks t in
    let numbers = range_with_len 0 (items_of g Fb) in
    let held = filter (λ b. list_any (nat_eq b) blocks) numbers in
    let few : length held ≤ length blocks = length-le_from_is_member nat_eq_equiv held blocks (apart-numbers _ 0 (items_of g Fb)) (held-only blocks numbers) in
    let both : length held + length (free_blocks g t) ≡ length numbers =
    length-filter_both (λ b. list_any (nat_eq b) blocks) (λ b. not (list_any (nat_eq b) blocks)) (λ b. refl) numbers in
    omega (arith, few, both, length-range_with_len 0 (items_of g Fb), used-length t.objects)

pub free-length : (g : Geom) (t : FileTree) (k : ℕ) → k ≤ free_of g t Fb → length (take k (free_blocks g t)) ≡ k
free-length g t k h = omega (arith, length-take k (free_blocks g t), free-enough g t, h)
