-- What layers above rest on of pointer blocks and their sectors.
use Rattle.std.proofs.Common.{◌≡◌, ℕ, List, ◌++◌, length, Option, Some, refl, sym, ap, subst, ◌∙◌, arith}
use Rattle.ds_base.specs.Decoding.{IsDecoded}
use Rattle.ds_bytes.specs.Fields.{AllBelow, littles, front, FieldsFit, spelled}
use Rattle.ds_bytes.proofs.Fronts.{front_none, front_all, front-padded, padded_full}
use Rattle.ds_bytes.proofs.Readings.{numbers_at}
use Rattle.ds_bytes.proofs.SameFields.{length-spelled, read_same}
use Rattle.ds_ptr.specs.PtrBlock.{IsPtrBlock, ptr_fields, ptr_bytes}
use Rattle.ds_ptr.specs.declared.ptr_block.PtrBlock.{PtrBlock}

ptr_fields_fit : (p : PtrBlock) → IsPtrBlock p → FieldsFit (ptr_fields p)
ptr_fields_fit p h = ((h.count, h.below), tt)

-- the addresses that were read of a sector spell it
pub read_whole : (bytes : List ℕ) (p : PtrBlock) → length bytes ≡ 512 → front 512 bytes ≡ front 0 bytes ++ littles 4 p.addresses → bytes ≡ ptr_bytes p
unfolding ptr_bytes
read_whole bytes p len read =
    let all : bytes ≡ littles 4 p.addresses =
    sym (front_all bytes) ∙ ap (λ n. front n bytes) len ∙ read ∙ ap (λ r. r ++ littles 4 p.addresses) (front_none bytes) in
    all ∙ sym (padded_full (littles 4 p.addresses) (sym (ap length all) ∙ len))

-- two pointer blocks that are spelled alike are one
pub ptr_same : (a b : PtrBlock) → IsPtrBlock a → IsPtrBlock b → ptr_bytes a ≡ ptr_bytes b → a ≡ b
unfolding ptr_bytes
ptr_same a b h k e =
    let read = front-padded 512 (spelled (ptr_fields a)) (length-spelled (ptr_fields a) (ptr_fields_fit a h)) in
    let same : ptr_fields a ≡ ptr_fields b =
    read_same 512 (ptr_fields a) (ptr_fields b) (ptr_bytes a) refl refl (ptr_fields_fit a h) (ptr_fields_fit b k) read e in
    let addresses : a.addresses ≡ b.addresses = cc in
    let made : List ℕ → PtrBlock = λ addresses. record { addresses = addresses } in
    ap made addresses

-- every 512 bytes spell a pointer block
pub ptr_reading : (bytes : List ℕ) → length bytes ≡ 512 → AllBelow 256 bytes → (p : PtrBlock) × IsPtrBlock p × (bytes ≡ ptr_bytes p)
ptr_reading bytes len below =
    let numbers = numbers_at 0 4 128 bytes (omega arith) (record { within = omega arith; are_bytes = below }) in
    let p : PtrBlock = record { addresses = numbers.values } in
    (p, record { count = numbers.count; below = numbers.below }, read_whole bytes p len numbers.read)

-- so a decoder's answer is there
pub ptr_decoded : (bytes : List ℕ) → length bytes ≡ 512 → AllBelow 256 bytes → (r : Option PtrBlock) × IsDecoded r (λ p. IsPtrBlock p × (bytes ≡ ptr_bytes p))
ptr_decoded bytes len below =
    let reading = ptr_reading bytes len below in
    let p : PtrBlock = reading.0 in
    let is : IsPtrBlock p = reading.1 in
    let spelled : bytes ≡ ptr_bytes p = reading.2 in
    (Some p, λ q. (λ e. subst (λ (v : PtrBlock). IsPtrBlock v × (bytes ≡ ptr_bytes v)) (let same : p ≡ q = cc in same) (is, spelled), λ d. ap Some (ptr_same p q is d.0 (sym spelled ∙ d.1))))
