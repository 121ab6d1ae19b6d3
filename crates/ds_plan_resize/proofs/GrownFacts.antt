-- A file that grows can be written.
use Rattle.std.proofs.Common.{◌≡◌, ℕ, ◌+◌, ◌-◌, ◌*◌, ◌/◌, ◌^◌, ◌<◌, ◌≤◌, inl, inr, Bool, true, false, nat_le, if◌then◌else◌, List, [], ◌++◌, length, drop, Some, refl, sym, ap, subst, ◌∙◌, length-append, length-drop, arith}
use Rattle.std.proofs.lemmas.Bool.{cases_lt}
use Rattle.std.proofs.lemmas.Bool.Decides.{nat_tests}
use Rattle.std.proofs.lemmas.List.{drop-append-le}
use Rattle.ds_base.specs.declared.geometry.Geom.{Geom}
use Rattle.ds_base.specs.declared.geometry.Kind.TheVariants.{Pb, Fb}
use Rattle.ds_base.specs.declared.names.NodeKind.TheVariants as kinds
use Rattle.ds_bytes.specs.Fields.{AllBelow}
use Rattle.ds_fd.specs.Body.{IsBody}
use Rattle.ds_fd.specs.declared.body.Body.{Body}
use Rattle.ds_plan_laws_size.specs.Planned.{HasSize}
use Rattle.ds_plan_laws_size.proofs.BuiltPages.{sized-is_body, sized-pointers, sized-no_pointers}
use Rattle.ds_plan_laws_size.proofs.Paged.{ptrs-length, few-pointers, some-pointers}
use Rattle.ds_plan_laws_size.proofs.ReadyFiles.{pointers-rise}
use Rattle.ds_plan_resize.specs.Blocks.{AreItems, pointers_in, pointers_from}
use Rattle.ds_plan_resize.specs.Files.{CanResize}
use Rattle.ds_plan_resize.specs.Growing.{grown}
use Rattle.ds_plan_resize.specs.Ordered.{in_order}
use Rattle.ds_plan_resize.specs.Redos.{body_sized, used_by}
use Rattle.ds_plan_resize.specs.Taking.{IsTaken}
use Rattle.ds_plan_resize.specs.Writable.{IsWritable}
use Rattle.ds_plan_resize.specs.declared.blocks.Blocks.{Blocks}
use Rattle.ds_plan_resize.specs.declared.resized.Resized.{Resized}
use Rattle.ds_plan_resize.specs.declared.taking.Taken.{Taken}
use Rattle.ds_plan_resize.proofs.Clusters.{joined-items}
use Rattle.ds_plan_resize.proofs.Ordering.{length-put_all_in}
use Rattle.ds_tree.specs.Counts.{pointer_blocks}

-- a file of this kind has a pointer block for each 128 blocks, from the page on fewer than ten
pub pages-few : (few many : ℕ) → few ≤ many → many ≤ few + 1024 → pointer_blocks many - few / 128 ≤ 9
pages-few few many l near = elim (cases_lt 96 many) [
  | inl large ↦ omega (arith, some-pointers many large, l, near)
  | inr small ↦ omega (arith, few-pointers many small)
]

pub pointers-count : (b : Body) → IsBody b → b.kind ≡ Some kinds.File → length (pointers_in b) ≡ pointer_blocks b.count
pointers-count b is file = ptrs-length b is file

-- the pages before the first that changes are full
pub first-listed : (count : ℕ) → count / 128 ≤ pointer_blocks count
first-listed count = elim (cases_lt 96 count) [
  | inl large ↦ omega (arith, some-pointers count large)
  | inr small ↦ omega (arith, small)
]

-- the body with the new size can be spelled
pub sized-has : (b : Body) (size : ℕ) (blocks pointers : List ℕ) → size ≤ 12288 → (size ≤ 96 → length blocks ≡ size) → (96 < size → length pointers ≡ pointer_blocks size)
    → AllBelow (2 ^ 32) (body_sized b size (used_by size blocks pointers)).addresses → HasSize b (body_sized b size (used_by size blocks pointers)) size (used_by size blocks pointers)
sized-has b size blocks pointers most few many below = record {
  object = refl;
  kind = refl;
  links = refl;
  birth = refl;
  count = refl;
  most = most;
  addresses = refl;
  many = by (nat_le size 96) refl;
  below = below;
}
  where
    by : (t : Bool) → nat_le size 96 ≡ t → length (if t then blocks else pointers) ≡ (if t then size else (size + 127) / 128)
    by true test = few (grind (arith, nat_tests, test))
    by false test =
        let large : 96 < size = grind (arith, nat_tests, test) in
        many large ∙ some-pointers size large

module _ (g : Geom) (size : ℕ) (b : Body) (old : Blocks) (added fresh : Taken) (can : CanResize g size b) (grows : b.count ≤ size)
    (old_count : length old.list.items ≡ b.count - 128 * (b.count / 128)) (old_in : AreItems g Pb (pointers_from b (b.count / 128)))
    (added_is : IsTaken g Fb (size - b.count) added) (fresh_is : IsTaken g Pb (pointer_blocks size - pointer_blocks b.count) fresh) where
  abbrev first : ℕ
  first = b.count / 128

  abbrev pointers : List ℕ
  pointers = pointers_in b ++ fresh.numbers.items

  abbrev r : Resized
  r = grown b size old added fresh

  pub blocks-length : length (old.list.items ++ added.numbers.items) ≡ size - 128 * first
  blocks-length = omega (arith, length-append old.list.items added.numbers.items, old_count, added_is.many, grows)

  pub pointers-length : length pointers ≡ pointer_blocks size
  pointers-length =
      omega (
        arith,
        length-append (pointers_in b) fresh.numbers.items,
        pointers-count b can.is_body can.is_file,
        fresh_is.many,
        pointers-rise b.count size grows,
      )

  module _ (below : AllBelow (2 ^ 32) r.body.addresses) where
    pub has-size : HasSize b r.body size (used_by size (old.list.items ++ added.numbers.items) pointers)
    has-size = sized-has b size (old.list.items ++ added.numbers.items) pointers can.most
        (λ small. omega (arith, blocks-length, small, grows)) (λ large. pointers-length) below

    is-body : IsBody r.body
    is-body = sized-is_body b r.body size (used_by size (old.list.items ++ added.numbers.items) pointers) can.is_body can.is_file has-size

    pointers-after : (96 < size) → pointers_in r.body ≡ pointers
    pointers-after large =
        let test : nat_le size 96 ≡ false = grind (arith, nat_tests, large) in
        sized-pointers b r.body size (used_by size (old.list.items ++ added.numbers.items) pointers) can.is_body can.is_file has-size large
        ∙ ap (λ t. if t then old.list.items ++ added.numbers.items else pointers) test

    are-items : AreItems g Pb (pointers_from r.body first)
    are-items = elim (cases_lt 96 size) [
      | inl large ↦
          let inside : first ≤ length (pointers_in b) = omega (arith, first-listed b.count, pointers-count b can.is_body can.is_file) in
          subst (AreItems g Pb) (sym (ap (drop first) (pointers-after large) ∙ drop-append-le first (pointers_in b) fresh.numbers.items inside))
          (joined-items g Pb (pointers_from b first) fresh.numbers.items old_in fresh_is.items)
      | inr small ↦ λ i l.
          let none = sized-no_pointers b r.body size (used_by size (old.list.items ++ added.numbers.items) pointers) can.is_body can.is_file has-size small in
          absurd (omega (arith, l, length-drop first (pointers_in r.body), ap (length {A = ℕ}) none))
    ]

    pub grown-writable : IsWritable g r
    grown-writable = record {
      inside = can.inside;
      is_body = is-body;
      pointers = are-items;
      few = omega (
        arith,
        length-drop first (pointers_in r.body),
        pointers-count r.body is-body can.is_file,
        pages-few b.count size grows (omega (arith, can.near, grows)),
      );
      few_maps = omega (
        arith,
        length-put_all_in (in_order fresh.maps.items) added.maps.items,
        length-put_all_in [] fresh.maps.items,
        added_is.few_maps,
        fresh_is.few_maps,
      );
    }
