-- In parts that agree with one another the pointer blocks of a file have the pages of its blocks.
use Rattle.std.proofs.Common.{◌≡◌, ℕ, suc, ◌+◌, ◌*◌, ◌≤◌, Bool, true, false, nat_le, if◌then◌else◌, List, ◌++◌, length, take, drop, slice_get, Some, refl, sym, ap, subst, ◌∙◌, arith}
use Rattle.std.specs.List.{flat_map}
use Rattle.std.proofs.lemmas.Bool.Decides.{nat_tests}
use Rattle.std.proofs.lemmas.List.{get_or-take, get_or_append_left, length-take}
use Rattle.ds_base.specs.declared.geometry.Geom.{Geom}
use Rattle.ds_base.specs.declared.names.NodeKind.TheVariants as kinds
use Rattle.ds_fd.specs.declared.body.Body.{Body}
use Rattle.ds_image_parts.specs.Looks.{Look}
use Rattle.ds_image_parts.specs.Objects.{addresses_in, pointed_by, tail_by}
use Rattle.ds_image_parts.specs.Parts.{Parts, part_at}
use Rattle.ds_image_parts.specs.Readings.{ReadsParts}
use Rattle.ds_image.specs.Sound.{IsSound, AreZero}
use Rattle.ds_image.proofs.Spelling.Sizes.{body_is, file_size, ptr_length}
use Rattle.ds_plan_laws_size.specs.Pages.{ptrs_in, blocks_in, IsPage, SpellsBlocks}
use Rattle.ds_plan_laws_size.proofs.FileLists.{ptr_list-is, tail-of_file}
use Rattle.ds_plan_laws_size.proofs.Paged.{page-of, ptrs-length, some-pointers}

module _ (g : Geom) (look : Look) (p : Parts) (o : ℕ) (b : Body) (reads : ReadsParts g look p) (sound : IsSound p) (there : part_at p.bodies o ≡ Some b)
    (file : b.kind ≡ Some kinds.File) where
  abbrev pointed : ℕ → List ℕ
  pointed n = addresses_in (part_at p.ptrs n)

  abbrev blocks : List ℕ
  blocks = blocks_in p b

  pub size-is : length blocks ≡ b.count
  size-is = file_size g look p o b reads sound there file

  wide : (k n : ℕ) → slice_get (ptrs_in b) k ≡ Some n → length (pointed n) ≡ 128
  wide k n at = ptr_length g look p n (part_at p.ptrs n) reads refl (sound.ptrs o k n (ap (λ l. slice_get l k) (ptr_list-is p o b there file) ∙ at))

  tail-zero : AreZero (tail_by p b (Some kinds.File))
  tail-zero = subst AreZero (tail-of_file p o b there file) (sound.tails o)

  pub spelled-blocks : SpellsBlocks p b (blocks_in p b)
  spelled-blocks =
      let chosen : Bool → List ℕ = λ test. take b.count (if test then b.addresses else pointed_by p b (Some kinds.File)) in
      record {
        count = sym size-is;
        direct = λ few.
            let test : nat_le b.count 96 ≡ true = grind (arith, nat_tests, size-is, few) in
            sym (ap chosen test);
        paged = λ many.
            let test : nat_le b.count 96 ≡ false = grind (arith, nat_tests, size-is, many) in
            page-of pointed (ptrs_in b) blocks
            (omega (arith, ptrs-length b (body_is g look p o b reads there) file, size-is, some-pointers b.count (omega (arith, many, size-is)))) wide
            (ap (λ n. take n (flat_map pointed (ptrs_in b))) size-is ∙ sym (ap chosen test))
            (subst (λ n. AreZero (drop n (flat_map pointed (ptrs_in b)))) (sym size-is) tail-zero);
      }

-- a page that a cut and more blocks behind it don't reach stays a page
pub page-kept : (blocks added : List ℕ) (size k : ℕ) (page : List ℕ) → 128 * suc k ≤ size → 128 * suc k ≤ length blocks → IsPage blocks k page
    → IsPage (take size blocks ++ added) k page
page-kept blocks added size k page below inside is = record {
  count = is.count;
  each = λ i small. is.each i small ∙ sym (
      get_or_append_left (take size blocks) added 0 (128 * k + i) (omega (arith, length-take size blocks, below, inside))
      ∙ get_or-take size blocks (128 * k + i) 0 (omega (arith, below))
      );
}
