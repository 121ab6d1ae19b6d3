-- A block is read as a command exactly where it asks for it.
use Rattle.std.proofs.Common.{◌≡◌, ℕ, ◌≤◌, Bool, true, false, not, ◌||◌, List, length, Result, Ok, refl, ap, sym, ◌∙◌, subst, arith}
use Rattle.std.specs.Prelude.{◌==◌, ◌↔◌, nat_lt, slice_index, if◌then◌else◌}
use Rattle.std.proofs.lemmas.Bool.{ltb-false, le-ltb, eqb-true, eq-eqb, ne_eqb, not-false, true≢false, false≢true}
use Rattle.ds_scsi.specs.declared.command_blocks.Cdb.{Cdb}
use Rattle.ds_scsi.specs.declared.command_blocks.Cdb.TheVariants.{Read, Write, Swap}
use Rattle.ds_scsi.specs.declared.command_blocks.CdbFault.{CdbFault}
use Rattle.ds_scsi.specs.declared.command_blocks.CdbFault.TheVariants.{ShortCdb, BadOpcode, BadField}
use Rattle.ds_scsi.specs.CommandBlocks.{is_operation, lba_at, transfer_length_at, number_of_blocks_at, protection_at, refuse, transfer_at, compare_and_write_at, cdb_at, IsBlock, Asks}

-- what isn't refused goes on
refuse_not : (b : Bool) (fault : CdbFault) (next answer : Result Cdb CdbFault) → b ≡ false → next ≡ answer → refuse b fault next ≡ answer
refuse_not b fault next answer holds_not same = ap (λ (v : Bool). refuse v fault next) holds_not ∙ same

refuse_ok : (b : Bool) (fault : CdbFault) (next : Result Cdb CdbFault) (form : Cdb) → refuse b fault next ≡ Ok form
    → (b ≡ false) × (next ≡ Ok form)
refuse_ok true fault next form same = absurd (cc)
refuse_ok false fault next form same = (refl, same)

-- the looks that every command passes
block_reads : (bytes : List ℕ) (code lba : ℕ) (answer : Result Cdb CdbFault) → IsBlock bytes code lba → is_operation code ≡ true
    → (if code == 0x89 then compare_and_write_at bytes else transfer_at bytes) ≡ answer → cdb_at bytes ≡ answer
unfolding cdb_at
block_reads bytes code lba answer block known then_is =
    let at : ℕ → Result Cdb CdbFault = λ c. if c == 0x89 then compare_and_write_at bytes else transfer_at bytes in
    let some : (length bytes ≡ 0) → ⊥ = λ e. omega (arith, block.long) in
    refuse_not (length bytes == 0) ShortCdb _ answer (ne_eqb (length bytes) 0 some)
    (refuse_not (not (is_operation (slice_index bytes 0))) BadOpcode _ answer
    (ap (λ (c : ℕ). not (is_operation c)) block.operation ∙ ap not known)
    (refuse_not (nat_lt (length bytes) 16) ShortCdb _ answer (le-ltb (length bytes) 16 block.long)
    (refuse_not (not (protection_at bytes == 0)) (BadField 1) _ answer
    (ap not (eq-eqb (protection_at bytes) 0 block.unprotected))
    (ap at block.operation ∙ then_is))))

transfer_reads : (bytes : List ℕ) (code lba count : ℕ) → IsBlock bytes code lba → transfer_length_at bytes ≡ count → count ≤ 256
    → transfer_at bytes ≡ Ok (if code == 0x88 then Read lba count else Write lba count)
transfer_reads bytes code lba count block count_is limit =
    let made : ℕ → ℕ → ℕ → Result Cdb CdbFault = λ c l n. Ok (if c == 0x88 then Read l n else Write l n) in
    let short : transfer_length_at bytes ≤ 256 = subst (λ (n : ℕ). n ≤ 256) (sym count_is) limit in
    refuse_not (nat_lt 256 (transfer_length_at bytes)) (BadField 10) _ _ (le-ltb 256 (transfer_length_at bytes) short)
    (ap (λ (c : ℕ). made c (lba_at bytes) (transfer_length_at bytes)) block.operation
    ∙ ap (λ (l : ℕ). made code l (transfer_length_at bytes)) block.address
    ∙ ap (λ (n : ℕ). made code lba n) count_is)

asked_reads : (bytes : List ℕ) (form : Cdb) → Asks bytes form → cdb_at bytes ≡ Ok form
asked_reads bytes (Read lba count) (block, count_is, limit) =
    block_reads bytes 0x88 lba _ block refl (transfer_reads bytes 0x88 lba count block count_is limit)
asked_reads bytes (Write lba count) (block, count_is, limit) =
    block_reads bytes 0x8a lba _ block refl (transfer_reads bytes 0x8a lba count block count_is limit)
asked_reads bytes (Swap lba count) (block, count_is, limit) =
    let made : ℕ → ℕ → Result Cdb CdbFault = λ l n. Ok (Swap l n) in
    let short : number_of_blocks_at bytes ≤ 1 = subst (λ (n : ℕ). n ≤ 1) (sym count_is) limit in
    block_reads bytes 0x89 lba _ block refl
    (refuse_not (nat_lt 1 (number_of_blocks_at bytes)) (BadField 13) _ _ (le-ltb 1 (number_of_blocks_at bytes) short)
    (ap (λ (l : ℕ). made l (number_of_blocks_at bytes)) block.address ∙ ap (λ (n : ℕ). made lba n) count_is))

-- of three codes, neither the first nor the last
second_code : (a b c : Bool) → (a || b || c) ≡ true → a ≡ false → c ≡ false → b ≡ true
second_code true b c any no_a no_c = absurd (true≢false no_a)
second_code false true c any no_a no_c = refl
second_code false false true any no_a no_c = absurd (true≢false no_c)
second_code false false false any no_a no_c = absurd (false≢true any)

same_form : (form form' : Cdb) → ◌≡◌ {A = Result Cdb CdbFault} (Ok form) (Ok form') → form ≡ form'
same_form form form' same = cc

-- a READ or a WRITE that was read was asked for
transfer_asked : (bytes : List ℕ) (form : Cdb) (is_read : Bool) → 16 ≤ length bytes → protection_at bytes ≡ 0
    → is_operation (slice_index bytes 0) ≡ true → (slice_index bytes 0 == 0x89) ≡ false → (slice_index bytes 0 == 0x88) ≡ is_read
    → transfer_length_at bytes ≤ 256
    → (if is_read then Read (lba_at bytes) (transfer_length_at bytes) else Write (lba_at bytes) (transfer_length_at bytes)) ≡ form
    → Asks bytes form
transfer_asked bytes form true long unprotected known not_swap read limit same =
    let P : Cdb → Type 0 = λ f. Asks bytes f in
    subst P same
    (record { long = long; operation = eqb-true (slice_index bytes 0) 0x88 read; unprotected = unprotected; address = refl }, refl, limit)
transfer_asked bytes form false long unprotected known not_swap read limit same =
    let P : Cdb → Type 0 = λ f. Asks bytes f in
    let write : (slice_index bytes 0 == 0x8a) ≡ true =
    second_code (slice_index bytes 0 == 0x88) (slice_index bytes 0 == 0x8a) (slice_index bytes 0 == 0x89) known read not_swap in
    subst P same
    (record { long = long; operation = eqb-true (slice_index bytes 0) 0x8a write; unprotected = unprotected; address = refl }, refl, limit)

by_code : (bytes : List ℕ) (form : Cdb) (is_swap : Bool) → 16 ≤ length bytes → protection_at bytes ≡ 0
    → is_operation (slice_index bytes 0) ≡ true → (slice_index bytes 0 == 0x89) ≡ is_swap
    → (if is_swap then compare_and_write_at bytes else transfer_at bytes) ≡ Ok form → Asks bytes form
by_code bytes form true long unprotected known swap same =
    let P : Cdb → Type 0 = λ f. Asks bytes f in
    let passed = refuse_ok (nat_lt 1 (number_of_blocks_at bytes)) (BadField 13) _ form same in
    subst P (same_form _ form passed.1) (
      record { long = long; operation = eqb-true (slice_index bytes 0) 0x89 swap; unprotected = unprotected; address = refl },
      refl,
      ltb-false 1 (number_of_blocks_at bytes) passed.0,
    )
by_code bytes form false long unprotected known swap same =
    let passed = refuse_ok (nat_lt 256 (transfer_length_at bytes)) (BadField 10) _ form same in
    transfer_asked bytes form (slice_index bytes 0 == 0x88) long unprotected known swap refl
    (ltb-false 256 (transfer_length_at bytes) passed.0) (same_form _ form passed.1)

read_asked : (bytes : List ℕ) (form : Cdb) → cdb_at bytes ≡ Ok form → Asks bytes form
unfolding cdb_at
read_asked bytes form same =
    let some = refuse_ok (length bytes == 0) ShortCdb _ form same in
    let known = refuse_ok (not (is_operation (slice_index bytes 0))) BadOpcode _ form some.1 in
    let long = refuse_ok (nat_lt (length bytes) 16) ShortCdb _ form known.1 in
    let unprotected = refuse_ok (not (protection_at bytes == 0)) (BadField 1) _ form long.1 in
    by_code bytes form (slice_index bytes 0 == 0x89) (ltb-false (length bytes) 16 long.0)
    (eqb-true (protection_at bytes) 0 (not-false (protection_at bytes == 0) unprotected.0))
    (not-false (is_operation (slice_index bytes 0)) known.0) refl unprotected.1

-- both ways
pub cdb_at-asks : (bytes : List ℕ) (form : Cdb) → (cdb_at bytes ≡ Ok form) ↔ Asks bytes form
cdb_at-asks bytes form = (read_asked bytes form, asked_reads bytes form)
