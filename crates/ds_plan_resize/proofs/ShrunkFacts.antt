-- A file that shrinks can be written.
use Rattle.std.proofs.Common.{◌≡◌, ℕ, ◌+◌, ◌-◌, ◌*◌, ◌/◌, ◌%◌, ◌^◌, ◌<◌, ◌≤◌, inl, inr, false, nat_le, if◌then◌else◌, List, length, take, drop, Some, sym, ap, subst, ◌∙◌, length-drop, length-take-le, arith}
use Rattle.std.proofs.lemmas.Bool.{cases_lt}
use Rattle.std.proofs.lemmas.Bool.Decides.{nat_tests}
use Rattle.std.proofs.lemmas.List.{get_or-take, get_or-drop, length-take}
use Rattle.ds_base.specs.Geometry.{items_of}
use Rattle.ds_base.specs.declared.geometry.Geom.{Geom}
use Rattle.ds_base.specs.declared.geometry.Kind.TheVariants.{Pb}
use Rattle.ds_base.specs.declared.names.NodeKind.TheVariants as kinds
use Rattle.ds_bytes.specs.Fields.{AllBelow}
use Rattle.ds_fd.specs.Body.{IsBody}
use Rattle.ds_fd.specs.declared.body.Body.{Body}
use Rattle.ds_jrnl.specs.declared.redo.Redo.{Redo}
use Rattle.ds_plan_laws_size.specs.Planned.{HasSize}
use Rattle.ds_plan_laws_size.proofs.BuiltPages.{sized-is_body, sized-pointers, sized-no_pointers}
use Rattle.ds_plan_laws_size.proofs.ReadyFiles.{pointers-rise}
use Rattle.ds_plan_resize.specs.Blocks.{AreItems, pointers_in, pointers_from}
use Rattle.ds_plan_resize.specs.Files.{CanResize}
use Rattle.ds_plan_resize.specs.Redos.{used_by}
use Rattle.ds_plan_resize.specs.Shrinking.{shrunk}
use Rattle.ds_plan_resize.specs.Writable.{IsWritable}
use Rattle.ds_plan_resize.specs.declared.blocks.Blocks.{Blocks}
use Rattle.ds_plan_resize.specs.declared.resized.Resized.{Resized}
use Rattle.ds_plan_resize.proofs.GrownFacts.{pages-few, pointers-count, sized-has}
use Rattle.ds_tree.specs.Counts.{pointer_blocks}

-- the first of these from a place on are some of these from that place on
taken-items : (g : Geom) (first count : ℕ) (xs : List ℕ) → AreItems g Pb (drop first xs) → AreItems g Pb (drop first (take count xs))
taken-items g first count xs are i l =
    let within : first + i < count = omega (arith, l, length-drop first (take count xs), length-take count xs) in
    let inside : i < length (drop first xs) = omega (arith, l, length-drop first (take count xs), length-take count xs, length-drop first xs) in
    subst (λ n. n < items_of g Pb) (get_or-drop first xs i 0 ∙ sym (get_or-take count xs (first + i) 0 within) ∙ sym (get_or-drop first (take count xs) i 0)) (are i inside)

module _ (g : Geom) (size : ℕ) (b : Body) (old : Blocks) (maps : Redo) (can : CanResize g size b) (shrinks : size ≤ b.count)
    (old_count : length old.list.items ≡ b.count - 128 * (size / 128)) (old_in : AreItems g Pb (pointers_from b (size / 128))) (few_maps : length maps.pairs.items ≤ 16) where
  abbrev first : ℕ
  first = size / 128

  abbrev blocks : List ℕ
  blocks = take (size % 128) old.list.items

  abbrev pointers : List ℕ
  pointers = take (pointer_blocks size) (pointers_in b)

  abbrev r : Resized
  r = shrunk b size old maps

  pub enough-blocks : size % 128 ≤ length old.list.items
  enough-blocks = omega (arith, old_count, shrinks)

  pub enough-pointers : pointer_blocks size ≤ length (pointers_in b)
  enough-pointers = omega (arith, pointers-count b can.is_body can.is_file, pointers-rise size b.count shrinks)

  blocks-length : length blocks ≡ size % 128
  blocks-length = length-take-le (size % 128) old.list.items enough-blocks

  module _ (below : AllBelow (2 ^ 32) r.body.addresses) where
    pub has-size : HasSize b r.body size (used_by size blocks pointers)
    has-size = sized-has b size blocks pointers can.most (λ small. omega (arith, blocks-length, small))
        (λ large. length-take-le (pointer_blocks size) (pointers_in b) enough-pointers) below

    is-body : IsBody r.body
    is-body = sized-is_body b r.body size (used_by size blocks pointers) can.is_body can.is_file has-size

    pointers-after : (96 < size) → pointers_in r.body ≡ pointers
    pointers-after large =
        let test : nat_le size 96 ≡ false = grind (arith, nat_tests, large) in
        sized-pointers b r.body size (used_by size blocks pointers) can.is_body can.is_file has-size large
        ∙ ap (λ t. if t then blocks else pointers) test

    are-items : AreItems g Pb (pointers_from r.body first)
    are-items = elim (cases_lt 96 size) [
      | inl large ↦
          subst (AreItems g Pb) (sym (ap (drop first) (pointers-after large))) (taken-items g first (pointer_blocks size) (pointers_in b) old_in)
      | inr small ↦ λ i l.
          let none = sized-no_pointers b r.body size (used_by size blocks pointers) can.is_body can.is_file has-size small in
          absurd (omega (arith, l, length-drop first (pointers_in r.body), ap (length {A = ℕ}) none))
    ]

    pub shrunk-writable : IsWritable g r
    shrunk-writable = record {
      inside = can.inside;
      is_body = is-body;
      pointers = are-items;
      few = omega (arith, length-drop first (pointers_in r.body), pointers-count r.body is-body can.is_file, pages-few size size (omega arith) (omega arith));
      few_maps = few_maps;
    }

-- the pages that are read are fewer than ten
pub read-few : (b : Body) (few : ℕ) → IsBody b → b.kind ≡ Some kinds.File → few ≤ b.count → b.count ≤ few + 1024 → length (pointers_from b (few / 128)) ≤ 9
read-few b few is file l near = omega (arith, length-drop (few / 128) (pointers_in b), pointers-count b is file, pages-few few b.count l near)
