-- Pages and bodies as a planner puts them together.
use Rattle.std.proofs.Common.{◌≡◌, ℕ, ◌+◌, ◌-◌, ◌*◌, ◌/◌, ◌<◌, ◌≤◌, false, true, nat_le, inl, inr, List, [], ◌++◌, length, take, drop, slice_get, Some, refl, sym, ap, subst, ◌∙◌, length-append, length-take-le, length-drop, arith}
use Rattle.std.specs.List.{flat_map}
use Rattle.std.specs.Prelude.{slice_index}
use Rattle.std.proofs.Math.Seq.{drop-append_seam, take-append_seam}
use Rattle.std.proofs.lemmas.Bool.{cases_lt}
use Rattle.std.proofs.lemmas.Bool.Decides.{nat_tests}
use Rattle.std.proofs.lemmas.List.{get_or-take, get_or-drop, ext_get_or, get_or_append_left, get_or-append_right, length-take, length-replicate}
use Rattle.std.proofs.lemmas.Option.{slice_get-get_or, slice_get_within, get_or_from_slice_get}
use Rattle.ds_base.specs.declared.names.NodeKind.TheVariants as kinds
use Rattle.ds_bytes.specs.Fields.{zeros}
use Rattle.ds_fd.specs.Body.{IsBody, least_birth, links_of, most_count, addresses_used}
use Rattle.ds_fd.specs.declared.body.Body.{Body}
use Rattle.ds_image_parts.specs.Parts.{Parts, part_at}
use Rattle.ds_tree.specs.Counts.{pointer_blocks}
use Rattle.ds_plan_laws_size.specs.Pages.{ptrs_in, IsPage}
use Rattle.ds_plan_laws_size.specs.Planned.{HasSize}
use Rattle.ds_plan_laws_size.specs.Resizing.{IsResized}
use Rattle.ds_plan_laws_size.proofs.Paged.{joined-list, few-pointers, some-pointers}

-- a page of a cut list with numbers behind it: those of the list up to the cut, and then those behind it
pub page-mixed : (blocks added : List ℕ) (size k : ℕ) (page : List ℕ) → length page ≡ 128
    → ((i : ℕ) → i < 128 → 128 * k + i < length (take size blocks) → slice_index page i ≡ slice_index blocks (128 * k + i))
    → ((i : ℕ) → i < 128 → length (take size blocks) ≤ 128 * k + i → slice_index page i ≡ slice_index added (128 * k + i - length (take size blocks)))
    → IsPage (take size blocks ++ added) k page
page-mixed blocks added size k page count front back = record {
  count = count;
  each = λ i small. elim (cases_lt (128 * k + i) (length (take size blocks))) [
    | inl low ↦ front i small low ∙ sym (
        get_or_append_left (take size blocks) added 0 (128 * k + i) low
        ∙ get_or-take size blocks (128 * k + i) 0 (omega (arith, low, length-take size blocks))
        )
    | inr high ↦ back i small high ∙ sym (get_or-append_right (take size blocks) added (length (take size blocks)) (128 * k + i) 0 refl high)
  ];
}

-- a file's first blocks are those of its first page
pub page-front : (blocks page : List ℕ) (size : ℕ) → size ≤ 128 → size ≤ length blocks → IsPage blocks 0 page → take size blocks ≡ take size page
page-front blocks page size small inside is =
    let len : length (take size blocks) ≡ size = length-take-le size blocks inside in
    let len' : length (take size page) ≡ size = length-take-le size page (omega (arith, small, is.count)) in
    ext_get_or 0 (take size blocks) (take size page) (len ∙ sym len') (λ i l.
    let low : i < size = omega (arith, l, len) in
    let place : 128 * 0 + i ≡ i = omega arith in
    get_or-take size blocks i 0 low ∙ ap (slice_index blocks) (sym place) ∙ sym (is.each i (omega (arith, low, small))) ∙ sym (get_or-take size page i 0 low))

-- pages of a list from one on are those of the rest of the list
page-later : (blocks : List ℕ) (first k : ℕ) (page : List ℕ) → IsPage blocks (first + k) page → IsPage (drop (128 * first) blocks) k page
page-later blocks first k page is = record {
  count = is.count;
  each = λ i small.
      let place : 128 * (first + k) + i ≡ 128 * first + (128 * k + i) = omega arith in
      is.each i small ∙ ap (slice_index blocks) place ∙ sym (get_or-drop (128 * first) blocks (128 * k + i) 0);
}

-- so the blocks from one page on are those of the last pointer blocks
pub pages-joined : (f : ℕ → List ℕ) (ns blocks : List ℕ) (first : ℕ) → length blocks ≤ 128 * length ns
    → ((k n : ℕ) → first ≤ k → slice_get ns k ≡ Some n → IsPage blocks k (f n))
    → take (length blocks - 128 * first) (flat_map f (drop first ns)) ≡ drop (128 * first) blocks
pages-joined f ns blocks first fits pages =
    let rest : List ℕ = drop (128 * first) blocks in
    let len : length rest ≡ length blocks - 128 * first = length-drop (128 * first) blocks in
    let len' : length (drop first ns) ≡ length ns - first = length-drop first ns in
    ap (λ n. take n (flat_map f (drop first ns))) (sym len)
    ∙ joined-list f (drop first ns) rest (omega (arith, fits, len, len'))
    (λ k n at. page-later blocks first k (f n) (pages (first + k) n (omega arith) (at-dropped ns first k n at)))
  where
    at-dropped : (xs : List ℕ) (m k n : ℕ) → slice_get (drop m xs) k ≡ Some n → slice_get xs (m + k) ≡ Some n
    at-dropped xs m k n at =
        let within : k < length (drop m xs) = slice_get_within (drop m xs) k n at in
        slice_get-get_or xs (m + k) n (omega (arith, within, length-drop m xs))
        ∙ ap Some (sym (get_or-drop m xs k n) ∙ get_or_from_slice_get (drop m xs) k n n at)

-- The body of a file with another size

length-zeros : (n : ℕ) → length (zeros n) ≡ n
unfolding zeros
length-zeros n = length-replicate n 0

used-most : (size : ℕ) → size ≤ 12288 → addresses_used (Some kinds.File) size ≤ 96
used-most size most = elim (cases_lt 96 size) [
  | inl many ↦ let test : nat_le size 96 ≡ false = grind (arith, nat_tests, many) in rw test (omega (arith, most))
  | inr few ↦ let test : nat_le size 96 ≡ true = grind (arith, nat_tests, few) in rw test few
]

module _ (b b' : Body) (size : ℕ) (used : List ℕ) (is : IsBody b) (file : b.kind ≡ Some kinds.File) (has : HasSize b b' size used) where
  used-few : length used ≤ 96
  used-few = omega (arith, has.many, used-most size has.most)

  file-after : b'.kind ≡ Some kinds.File
  file-after = has.kind ∙ file

  many-after : addresses_used b'.kind b'.count ≡ length used
  many-after = ap (λ kind. addresses_used kind b'.count) file-after ∙ ap (addresses_used (Some kinds.File)) has.count ∙ sym has.many

  pub sized-is_body : IsBody b'
  sized-is_body = record {
    widths = record {
      object_fits = omega (arith, has.object, is.widths.object_fits);
      links_fit = omega (arith, has.links, is.widths.links_fit);
      birth_fits = omega (arith, has.birth, is.widths.birth_fits);
      count_fits = omega (arith, has.count, has.most);
      address_count = ap length has.addresses ∙ length-append used (zeros (96 - length used)) ∙ omega (arith, length-zeros (96 - length used), used-few);
      addresses_fit = has.below;
    };
    ranges = record {
      links_are = has.links ∙ is.ranges.links_are ∙ ap links_of (sym has.kind);
      count_to = subst (λ kind. b'.count ≤ most_count kind) (sym file-after) (omega (arith, has.count, has.most));
      birth_from = subst (λ kind. least_birth kind ≤ b'.birth) (sym has.kind) (omega (arith, has.birth, is.ranges.birth_from));
      birth_to = omega (arith, has.birth, is.ranges.birth_to);
      rest_is_zero =
          ap (λ n. drop n b'.addresses) many-after ∙ ap (drop (length used)) has.addresses ∙ drop-append_seam used (zeros (96 - length used))
          ∙ ap (λ n. zeros (96 - n)) (sym many-after);
    };
  }

  pub sized-body : (p : Parts) (o : ℕ) → part_at p.bodies o ≡ Some b → IsResized p o b b' size
  sized-body p o there = record {
    there = there;
    file = file;
    is_body = sized-is_body;
    object = has.object;
    kind = file-after;
    birth = has.birth;
    count = has.count;
  }

  front-is : take (length used) b'.addresses ≡ used
  front-is = ap (take (length used)) has.addresses ∙ take-append_seam used (zeros (96 - length used))

  -- above 96 blocks the addresses are the pointer blocks
  pub sized-pointers : 96 < size → ptrs_in b' ≡ used
  sized-pointers many =
      let test : nat_le size 96 ≡ false = grind (arith, nat_tests, many) in
      let as-many : (size + 127) / 128 ≡ length used = sym (has.many ∙ (rw test refl)) in
      ap (λ n. take n b'.addresses) (ap pointer_blocks has.count ∙ some-pointers size many ∙ as-many) ∙ front-is

  -- and else there are none, and they are the blocks
  pub sized-no_pointers : size ≤ 96 → ptrs_in b' ≡ []
  sized-no_pointers few = ap (λ n. take n b'.addresses) (few-pointers b'.count (omega (arith, few, has.count)))

  pub sized-direct : size ≤ 96 → take size b'.addresses ≡ used
  sized-direct few =
      let test : nat_le size 96 ≡ true = grind (arith, nat_tests, few) in
      let as-many : size ≡ length used = sym (has.many ∙ (rw test refl)) in
      ap (λ n. take n b'.addresses) as-many ∙ front-is
