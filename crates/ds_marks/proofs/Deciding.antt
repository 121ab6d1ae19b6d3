-- Tests that decide facts, and how such tests are joined.
use Rattle.std.proofs.Common.{◌≡◌, ℕ, ◌<◌, ◌≤◌, Bool, true, false, ◌&&◌, Option, Some, None, Decides, refl, sym, arith}
use Rattle.std.specs.Prelude.{◌==◌, nat_le, nat_lt, ◌^◌}
use Rattle.std.proofs.lemmas.Bool.Decides.{nat_tests}
use Rattle.ds_base.specs.Decoding.{IsDecoded}
use Rattle.ds_marks.specs.SlotIn.{is_count}

pub first : (a b : Bool) → (a && b) ≡ true → a ≡ true
first true b p = refl
first false b p = absurd (cc)

pub second : (a b : Bool) → (a && b) ≡ true → b ≡ true
second true b p = p
second false b p = absurd (cc)

pub both : (a b : Bool) → a ≡ true → b ≡ true → (a && b) ≡ true
both true b p q = q
both false b p q = absurd (cc)

pub decides_both : {P Q : Type 0} (a b : Bool) → Decides a P → Decides b Q → Decides (a && b) (P × Q)
decides_both a b d e = (λ p. (d.0 (first a b p), e.0 (second a b p)), λ h. both a b (d.1 h.0) (e.1 h.1))

pub decides_as : {P Q : Type 0} (a : Bool) → (P → Q) → (Q → P) → Decides a P → Decides a Q
decides_as a there back d = (λ p. there (d.0 p), λ q. d.1 (back q))

pub decides_eq : (m n : ℕ) → Decides (m == n) (m ≡ n)
decides_eq m n = (λ p. grind (arith, nat_tests), λ p. grind (arith, nat_tests))

pub decides_le : (m n : ℕ) → Decides (nat_le m n) (m ≤ n)
decides_le m n = (λ p. grind (arith, nat_tests), λ p. grind (arith, nat_tests))

pub decides_lt : (m n : ℕ) → Decides (nat_lt m n) (m < n)
decides_lt m n = (λ p. grind (arith, nat_tests), λ p. grind (arith, nat_tests))

pub decides_count : (n : ℕ) → Decides (is_count n) ((1 ≤ n) × (n ≤ 2 ^ 62))
decides_count n = decides_both (nat_le 1 n) (nat_le n (2 ^ 62)) (decides_le 1 n) (decides_le n (2 ^ 62))

-- two answers of a decoder are one
pub decoded_same : {V : Type 0} (a b : Option V) (Describes : V → Type 0) → IsDecoded a Describes → IsDecoded b Describes → a ≡ b
decoded_same None None Describes p q = refl
decoded_same None (Some y) Describes p q = (p y).1 ((q y).0 refl)
decoded_same (Some x) b Describes p q = sym ((q x).1 ((p x).0 refl))
