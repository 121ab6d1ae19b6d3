-- What a decoder answers.
use Rattle.std.specs.Prelude.{◌≡◌, ◌↔◌, Option, Some}

-- exactly the value that meets the description: Some v where v meets it, and None where no value does
abbrev pub IsDecoded : {V : Type 0} → Option V → (V → Type 0) → Type 0
IsDecoded {V = V} answer Describes = (v : V) → (answer ≡ Some v) ↔ Describes v
