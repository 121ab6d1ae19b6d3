-- The blocks of a file are those that its body and its pointer blocks spell.
use Rattle.std.proofs.Common.{◌≡◌, ℕ, zero, suc, ◌+◌, ◌-◌, ◌*◌, ◌/◌, ◌%◌, ◌<◌, ◌≤◌, Bool, true, false, nat_le, if◌then◌else◌, inl, inr, List, [], length, take, drop, get_or, slice_get, Some, refl, sym, ap, subst, ◌∙◌, length-take-le, arith}
use Rattle.std.specs.List.{flat_map}
use Rattle.std.proofs.lemmas.Bool.{cases_lt}
use Rattle.std.proofs.lemmas.Bool.Decides.{nat_tests}
use Rattle.std.proofs.lemmas.List.{get_or_past, get_or-take, get_or-drop, ext_get_or}
use Rattle.std.proofs.lemmas.Option.{slice_get-get_or, slice_get_within, get_or_from_slice_get}
use Rattle.ds_base.specs.declared.names.NodeKind.TheVariants as kinds
use Rattle.ds_fd.specs.Body.{IsBody, most_count}
use Rattle.ds_fd.specs.declared.body.Body.{Body}
use Rattle.ds_tree.specs.Counts.{pointer_blocks}
use Rattle.ds_image_parts.specs.Objects.{addresses_in, pointed_by, tail_by}
use Rattle.ds_image_parts.specs.Parts.{Parts, part_at}
use Rattle.ds_image.specs.Sound.{AreZero}
use Rattle.ds_image.proofs.Spelling.Sizes.{length-flat_map_each, many_pointers}
use Rattle.ds_image.proofs.Bits.{flat-get}
use Rattle.ds_plan_laws_size.specs.Pages.{ptrs_in, blocks_in, IsPage, SpellsBlocks}

-- Lists put together of pages

module _ (f : ℕ → List ℕ) (ns list : List ℕ) (fits : length list ≤ 128 * length ns) where
  joined-length : ((k n : ℕ) → slice_get ns k ≡ Some n → length (f n) ≡ 128) → length (flat_map f ns) ≡ 128 * length ns
  joined-length wide = length-flat_map_each f 128 ns wide

  -- the number at a place of a page
  page-place : ((k n : ℕ) → slice_get ns k ≡ Some n → length (f n) ≡ 128) → (k i n : ℕ) → slice_get ns k ≡ Some n → i < 128
      → get_or (flat_map f ns) (128 * k + i) 0 ≡ get_or (f n) i 0
  page-place wide k i n at small =
      let place : 128 * k + i ≡ k * 128 + i = omega arith in
      ap (λ x. get_or (flat_map f ns) x 0) place ∙ flat-get f 128 ns k i 0 0 wide (slice_get_within ns k n at) small
      ∙ ap (λ m. get_or (f m) i 0) (get_or_from_slice_get ns k n 0 at)

  module _ (pages : (k n : ℕ) → slice_get ns k ≡ Some n → IsPage list k (f n)) where
    wide-pages : (k n : ℕ) → slice_get ns k ≡ Some n → length (f n) ≡ 128
    wide-pages k n at = (pages k n at).count

    -- they have the list's numbers, and zeros behind it
    pub joined-at : (x : ℕ) → get_or (flat_map f ns) x 0 ≡ get_or list x 0
    joined-at x = elim (cases_lt x (length (flat_map f ns))) [
      | inl within ↦
          let k : ℕ = x / 128 in
          let place : 128 * k + x % 128 ≡ x = omega arith in
          let small : x % 128 < 128 = omega arith in
          let low : k < length ns = omega (arith, within, joined-length wide-pages, place) in
          let at : slice_get ns k ≡ Some (get_or ns k 0) = slice_get-get_or ns k 0 low in
          ap (λ y. get_or (flat_map f ns) y 0) (sym place) ∙ page-place wide-pages k (x % 128) (get_or ns k 0) at small
          ∙ (pages k (get_or ns k 0) at).each (x % 128) small ∙ ap (λ y. get_or list y 0) place
      | inr past ↦ get_or_past (flat_map f ns) x 0 past ∙ sym (get_or_past list x 0 (omega (arith, fits, past, joined-length wide-pages)))
    ]

    pub joined-list : take (length list) (flat_map f ns) ≡ list
    joined-list =
        let len : length (take (length list) (flat_map f ns)) ≡ length list = length-take-le (length list) (flat_map f ns) (omega (arith, fits, joined-length wide-pages)) in
        ext_get_or 0 (take (length list) (flat_map f ns)) list len
        (λ i l. get_or-take (length list) (flat_map f ns) i 0 (omega (arith, l, len)) ∙ joined-at i)

    pub joined-tail : AreZero (drop (length list) (flat_map f ns))
    joined-tail i = get_or-drop (length list) (flat_map f ns) i 0 ∙ joined-at (length list + i) ∙ get_or_past list (length list + i) 0 (omega arith)

  -- and where they have them, each is a page
  pub page-of : ((k n : ℕ) → slice_get ns k ≡ Some n → length (f n) ≡ 128) → take (length list) (flat_map f ns) ≡ list → AreZero (drop (length list) (flat_map f ns))
      → (k n : ℕ) → slice_get ns k ≡ Some n → IsPage list k (f n)
  page-of wide front tail k n at = record {
    count = wide k n at;
    each = λ i small. sym (page-place wide k i n at small) ∙ same (128 * k + i);
  }
    where
      same : (x : ℕ) → get_or (flat_map f ns) x 0 ≡ get_or list x 0
      same x = elim (cases_lt x (length list)) [
        | inl within ↦ sym (get_or-take (length list) (flat_map f ns) x 0 within) ∙ ap (λ l. get_or l x 0) front
        | inr past ↦
            let split : length list + (x - length list) ≡ x = omega arith in
            ap (λ y. get_or (flat_map f ns) y 0) (sym split) ∙ sym (get_or-drop (length list) (flat_map f ns) (x - length list) 0)
            ∙ tail (x - length list) ∙ sym (get_or_past list x 0 past)
      ]

-- The pointer blocks of a body

pub few-pointers : (count : ℕ) → count ≤ 96 → pointer_blocks count ≡ 0
few-pointers count few = let test : nat_le count 96 ≡ true = grind (arith, nat_tests) in rw test refl

pub some-pointers : (count : ℕ) → 96 < count → pointer_blocks count ≡ (count + 127) / 128
some-pointers count many = let test : nat_le count 96 ≡ false = grind (arith, nat_tests) in rw test refl

module _ (b : Body) (is : IsBody b) (file : b.kind ≡ Some kinds.File) where
  pub count-most : b.count ≤ 12288
  count-most = subst (λ k. b.count ≤ most_count k) file is.ranges.count_to

  pub ptrs-length : length (ptrs_in b) ≡ pointer_blocks b.count
  ptrs-length = length-take-le (pointer_blocks b.count) b.addresses (omega (arith, many_pointers b.count count-most, is.widths.address_count))

  module _ (p : Parts) (blocks : List ℕ) (spells : SpellsBlocks p b blocks) where
    abbrev pointed : ℕ → List ℕ
    pointed n = addresses_in (part_at p.ptrs n)

    fits : 96 < length blocks → length blocks ≤ 128 * length (ptrs_in b)
    fits many = omega (arith, ptrs-length, spells.count, some-pointers b.count (omega (arith, many, spells.count)))

    -- such a file has just these blocks
    pub blocks-are : blocks_in p b ≡ blocks
    blocks-are =
        let chosen : Bool → List ℕ = λ test. take b.count (if test then b.addresses else pointed_by p b (Some kinds.File)) in
        elim (cases_lt 96 (length blocks)) as (λ _. blocks_in p b ≡ blocks) [
          | inl many ↦
              let test : nat_le b.count 96 ≡ false = grind (arith, nat_tests, spells.count, many) in
              ap chosen test ∙ ap (λ n. take n (pointed_by p b (Some kinds.File))) spells.count
              ∙ joined-list pointed (ptrs_in b) blocks (fits many) (spells.paged many)
          | inr few ↦
              let test : nat_le b.count 96 ≡ true = grind (arith, nat_tests, spells.count, few) in
              ap chosen test ∙ spells.direct few
        ]

    -- and its last pointer block has zeros behind them
    pub tail-is_zero : AreZero (tail_by p b (Some kinds.File))
    tail-is_zero = elim (cases_lt 96 (length blocks)) as (λ _. AreZero (tail_by p b (Some kinds.File))) [
      | inl many ↦ subst (λ n. AreZero (drop n (pointed_by p b (Some kinds.File)))) (sym spells.count)
          (joined-tail pointed (ptrs_in b) blocks (fits many) (spells.paged many))
      | inr few ↦
          let none : ptrs_in b ≡ [] = ap (λ n. take n b.addresses) (few-pointers b.count (omega (arith, few, spells.count))) in
          subst (λ (ns : List ℕ). AreZero (drop b.count (flat_map pointed ns))) (sym none) (nothing b.count)
    ]
      where
        nothing : (n : ℕ) → AreZero (drop n [])
        nothing zero i = refl
        nothing (suc n) i = refl
