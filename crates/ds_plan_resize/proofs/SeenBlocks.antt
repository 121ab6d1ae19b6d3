-- Where the blocks of a file were seen.
use Rattle.std.proofs.Common.{◌≡◌, ℕ, zero, suc, ◌+◌, ◌*◌, ◌/◌, ◌%◌, ◌<◌, ◌≤◌, inl, inr, true, false, nat_le, if◌then◌else◌, List, [], ◌∷◌, length, take, Some, refl, ap, ◌∙◌, slice_get, arith}
use Rattle.std.specs.Prelude.{slice_index}
use Rattle.std.specs.List.{flat_map}
use Rattle.std.proofs.lemmas.Bool.Decides.{nat_tests}
use Rattle.std.proofs.lemmas.Option.{slice_get_within, get_or_from_slice_get}
use Rattle.ds_fd.specs.declared.body.Body.{Body}
use Rattle.ds_image_parts.specs.Objects.{addresses_in}
use Rattle.ds_image_parts.specs.Parts.{Parts, part_at}
use Rattle.ds_image_tables.proofs.Spelling.Places.{at-append}
use Rattle.ds_image.specs.Locks.{block_seen}
use Rattle.ds_plan_resize.specs.Blocks.{pointers_in, pointers_from}
use Rattle.ds_plan_resize.proofs.PagesWritten.{dropped-at}
use Rattle.ds_tree.specs.Counts.{pointer_blocks}

pub took-at : (n : ℕ) (xs : List ℕ) (i x : ℕ) → slice_get (take n xs) i ≡ Some x → slice_get xs i ≡ Some x
took-at zero xs i x at = absurd cc
took-at (suc n) [] i x at = absurd cc
took-at (suc n) (y ∷ xs) zero x at = at
took-at (suc n) (y ∷ xs) (suc i) x at = took-at n xs i x at

-- an item of joined pages is one of its page
page-at : (f : ℕ → List ℕ) (ns : List ℕ) → ((i n : ℕ) → slice_get ns i ≡ Some n → length (f n) ≡ 128) → (j x : ℕ) → slice_get (flat_map f ns) j ≡ Some x
    → (k : ℕ) × ((n : ℕ) × (slice_get ns k ≡ Some n) × ((i : ℕ) × (i < 128) × (j ≡ 128 * k + i) × (slice_get (f n) i ≡ Some x)))
page-at f [] wide j x at = absurd cc
page-at f (n ∷ ns) wide j x at = elim (at-append (f n) (flat_map f ns) j x at) [
  | inl front ↦
      let within = slice_get_within (f n) j x front in
      (0, (n, refl, (j, omega (arith, within, wide 0 n refl), omega arith, front)))
  | inr back ↦
      let rest = page-at f ns (λ i m at. wide (suc i) m at) back.0 x back.2 in
      (suc rest.0, (rest.1.0, rest.1.1, (rest.1.2.0, rest.1.2.1, omega (arith, back.1, wide 0 n refl, rest.1.2.2), rest.1.2.3)))
]

-- up to 96 blocks stand in the body
pub small-seen : (p : Parts) (b : Body) (j x : ℕ) → b.count ≤ 96 → slice_get (take b.count b.addresses) j ≡ Some x → block_seen p b j ≡ Some x
small-seen p b j x small at =
    let test : nat_le b.count 96 ≡ true = grind (arith, nat_tests, small) in
    ap (λ t. if t then slice_get b.addresses j else slice_get (addresses_in (part_at p.ptrs (slice_index b.addresses (j / 128)))) (j % 128)) test ∙ took-at b.count b.addresses j x at

-- more in its pointer blocks
pub large-seen : (p : Parts) (b : Body) (first count j x : ℕ) → 96 < b.count
    → ((i n : ℕ) → slice_get (pointers_from b first) i ≡ Some n → length (addresses_in (part_at p.ptrs n)) ≡ 128)
    → slice_get (take count (flat_map (λ n. addresses_in (part_at p.ptrs n)) (pointers_from b first))) j ≡ Some x → block_seen p b (128 * first + j) ≡ Some x
large-seen p b first count j x large wide at =
    let f : ℕ → List ℕ = λ n. addresses_in (part_at p.ptrs n) in
    let found = page-at f (pointers_from b first) wide j x (took-at count (flat_map f (pointers_from b first)) j x at) in
    let k : ℕ = found.0 in
    let n : ℕ = found.1.0 in
    let i : ℕ = found.1.2.0 in
    let small : i < 128 = found.1.2.1 in
    let place : j ≡ 128 * k + i = found.1.2.2 in
    let page : (128 * first + j) / 128 ≡ first + k = omega (arith, place, small) in
    let item : (128 * first + j) % 128 ≡ i = omega (arith, place, small) in
    let listed : slice_get (pointers_in b) (first + k) ≡ Some n = dropped-at (pointers_in b) first k n found.1.1 in
    let here : slice_index b.addresses (first + k) ≡ n =
    get_or_from_slice_get b.addresses (first + k) n 0 (took-at (pointer_blocks b.count) b.addresses (first + k) n listed) in
    let test : nat_le b.count 96 ≡ false = grind (arith, nat_tests, large) in
    ap (λ t. if t then slice_get b.addresses (128 * first + j) else slice_get (f (slice_index b.addresses ((128 * first + j) / 128))) ((128 * first + j) % 128)) test
    ∙ ap (λ m. slice_get (f (slice_index b.addresses m)) ((128 * first + j) % 128)) page
    ∙ ap (λ m. slice_get (f m) ((128 * first + j) % 128)) here
    ∙ ap (slice_get (f n)) item
    ∙ found.1.2.3
