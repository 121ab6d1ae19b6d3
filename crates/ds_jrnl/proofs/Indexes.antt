-- What is read of a sector that spells an index is that index.
use Rattle.std.proofs.Common.{◌≡◌, ℕ, zero, suc, ◌-◌, ◌^◌, ◌<◌, ◌≤◌, true, false, List, [], ◌∷◌, ◌++◌, length, slice_index, take, Option, Some, None, IsSome, IfSome, ◌↔◌, refl, sym, ap, ◌∙◌, arith}
use Rattle.std.proofs.lemmas.List.{length-append, take_at}
use Rattle.ds_bytes.specs.Fields.{zeros, front, spelled, FieldsFit, AllBelow}
use Rattle.ds_bytes.proofs.Fronts.{front-padded}
use Rattle.ds_bytes.proofs.Little.{length-zeros}
use Rattle.ds_bytes.proofs.Readings.{AllBelow-take}
use Rattle.ds_bytes.proofs.SameFields.{length-spelled, read_same}
use Rattle.ds_jrnl.specs.Index.{HasWidths, IsIndex, index_fields, index_bytes}
use Rattle.ds_jrnl.specs.IndexParts.{part_fields, index_of}
use Rattle.ds_jrnl.specs.declared.index.Index.{Index}
use Rattle.ds_jrnl.specs.declared.index_parts.IndexParts.{IndexParts}

below_zeros : (limit n : ℕ) → 0 < limit → AllBelow limit (zeros n)
unfolding zeros
below_zeros limit zero h = λ i. h
below_zeros limit (suc n) h = λ i. elim i as (λ k. slice_index (zeros (suc n)) k < limit) [ zero ↦ h | suc k ↦ below_zeros limit n h k ]

below_append : (limit : ℕ) (xs ys : List ℕ) → AllBelow limit xs → AllBelow limit ys → AllBelow limit (xs ++ ys)
below_append limit [] ys h k = k
below_append limit (x ∷ xs) ys h k =
    λ i. elim i as (λ j. slice_index (x ∷ (xs ++ ys)) j < limit) [ zero ↦ h 0 | suc j ↦ below_append limit xs ys (λ m. h (suc m)) k j ]

pub index_fields_fit : (x : Index) → IsIndex x → FieldsFit (index_fields x)
index_fields_fit x h =
    let targets = x.targets.items in
    let most : length x.targets.items ≤ 31 = h.ranges.most in
    let count : length (x.targets.items ++ zeros (31 - length x.targets.items)) ≡ 31 = omega (arith, length-append x.targets.items (zeros (31 - length x.targets.items)), length-zeros (31 - length x.targets.items)) in (
      refl,
      (
        h.widths.slot_fits,
        (
          omega arith,
          (
            length-zeros 2,
            (
              h.widths.generation_fits,
              (
                h.widths.txn_fits,
                ((count, below_append (2 ^ 32) x.targets.items (zeros (31 - length x.targets.items)) h.widths.targets_fit (below_zeros (2 ^ 32) (31 - length x.targets.items) (omega arith))), tt),
              ),
            ),
          ),
        ),
      ),
    )

-- what was read has the widths of its types
pub widths_of : (p : IndexParts) → FieldsFit (part_fields p) → HasWidths (index_of p)
widths_of p fits = record {
  slot_fits = fits.1.0;
  generation_fits = fits.1.1.1.1.0;
  txn_fits = fits.1.1.1.1.1.0;
  targets_fit = AllBelow-take (2 ^ 32) p.count p.words (omega arith) fits.1.1.1.1.1.1.0.1;
}

same_index : (a b : Index) → a.slot ≡ b.slot → a.generation ≡ b.generation → a.txn ≡ b.txn → a.targets.items ≡ b.targets.items → a ≡ b
same_index a b p q r s =
    let made : Index = record { slot = a.slot; generation = a.generation; txn = a.txn; targets = record { items = a.targets.items } } in
    let same : made ≡ b = rw (p, q, r, s) refl in
    same

-- the targets, of which there are as many as the count says
held : (count : ℕ) (words items : List ℕ) (k : ℕ) → count ≡ length items → words ≡ items ++ zeros k → take count words ≡ items
held count words items k len e = ap (take count) e ∙ take_at items (zeros k) count (sym len)

pub record Named (p : IndexParts) (x : Index) : Type 0 where
  pub most : p.count ≤ 31
  pub same : index_of p ≡ x

named : (p : IndexParts) (x : Index) → IsIndex x → part_fields p ≡ index_fields x → Named p x
named p x h same =
    let slot : p.slot ≡ x.slot = cc in
    let count : p.count ≡ length x.targets.items = cc in
    let generation : p.generation ≡ x.generation = cc in
    let txn : p.txn ≡ x.txn = cc in
    let words : p.words ≡ x.targets.items ++ zeros (31 - length x.targets.items) = cc in
    let most : length x.targets.items ≤ 31 = h.ranges.most in
    record {
      most = omega arith;
      same = same_index (index_of p) x slot generation txn (held p.count p.words x.targets.items (31 - length x.targets.items) count words);
    }

pub names_index : (bytes : List ℕ) (p : IndexParts) (x : Index) → FieldsFit (part_fields p) → IsIndex x → front 148 bytes ≡ spelled (part_fields p) → bytes ≡ index_bytes x → Named p x
unfolding index_bytes
names_index bytes p x fits h read e =
    named p x h (read_same 148 (part_fields p) (index_fields x) bytes refl refl fits (index_fields_fit x h) read e)

-- two indexes that are spelled alike are one
pub index_same : (a b : Index) → IsIndex a → IsIndex b → index_bytes a ≡ index_bytes b → a ≡ b
unfolding index_bytes
index_same a b h k e =
    let fits = index_fields_fit a h in
    let read = front-padded 148 (spelled (index_fields a)) (length-spelled (index_fields a) fits) in
    let same : index_fields a ≡ index_fields b = read_same 148 (index_fields a) (index_fields b) (index_bytes a) refl refl fits (index_fields_fit b k) read e in
    let slot : a.slot ≡ b.slot = cc in
    let count : length a.targets.items ≡ length b.targets.items = cc in
    let generation : a.generation ≡ b.generation = cc in
    let txn : a.txn ≡ b.txn = cc in
    let words : a.targets.items ++ zeros (31 - length a.targets.items) ≡ b.targets.items ++ zeros (31 - length b.targets.items) = cc in
    let front_a : take (length a.targets.items) (a.targets.items ++ zeros (31 - length a.targets.items)) ≡ a.targets.items = take_at a.targets.items (zeros (31 - length a.targets.items)) (length a.targets.items) refl in
    same_index a b slot generation txn (sym front_a ∙ held (length a.targets.items) (a.targets.items ++ zeros (31 - length a.targets.items)) b.targets.items (31 - length b.targets.items) count words)

pub some_named : (r : Option Index) (p : IndexParts) (x : Index) → (IsSome r ↔ (p.count ≤ 31)) → IfSome r (λ y. y ≡ index_of p) → Named p x → r ≡ Some x
some_named None p x fits value n =
    let none : false ≡ true = fits.1 n.most in
    cc
some_named (Some y) p x fits value n = ap Some (value ∙ n.same)
