-- Which bytes a name has.
use Rattle.std.proofs.Common.{◌≡◌, ℕ, true, List, [], ◌∷◌, All, Contains, arith}
use Rattle.std.specs.List.{list_all}
use Rattle.std.proofs.lemmas.Bool.{and_parts}
use Rattle.std.proofs.lemmas.Bool.Decides.{nat_tests}
use Rattle.std.proofs.lemmas.List.Elements.{All-contains, All-cons, All-nil}
use Rattle.ds_base.specs.Names.{IsName, IsPrinted, is_name_byte}

pub IsPrinted-name_byte : (b : ℕ) → is_name_byte b ≡ true → IsPrinted b
IsPrinted-name_byte b h = (grind (arith, nat_tests), grind (arith, nat_tests))

All-printed : (bytes : List ℕ) → list_all is_name_byte bytes ≡ true → All IsPrinted bytes
All-printed [] h = All-nil IsPrinted
All-printed (b ∷ bytes) h =
    let parts = and_parts (is_name_byte b) (list_all is_name_byte bytes) h in
    All-cons IsPrinted b bytes (IsPrinted-name_byte b parts.0) (All-printed bytes parts.1)

pub IsName-printed : (bytes : List ℕ) → IsName bytes → All IsPrinted bytes
IsName-printed bytes name = All-printed bytes name.of_name_bytes

pub IsName-no_blank : (bytes : List ℕ) → IsName bytes → Contains bytes 32 → ⊥
IsName-no_blank bytes name found = absurd (omega (arith, All-contains IsPrinted bytes 32 (IsName-printed bytes name) found))

pub IsName-no_line_feed : (bytes : List ℕ) → IsName bytes → Contains bytes 10 → ⊥
IsName-no_line_feed bytes name found = absurd (omega (arith, All-contains IsPrinted bytes 10 (IsName-printed bytes name) found))
