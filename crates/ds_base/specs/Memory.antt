-- What a source and a sink over memory are to their callers.
use Rattle.std.specs.Prelude.{ℕ, List}

-- the bytes still to come; the numbers of the calls that fail; how many calls there were, and how many failed
pub record SourceState : Type 0 where
  pub left : List ℕ
  pub failing : List ℕ
  pub calls : ℕ
  pub faults : ℕ

-- the bytes taken so far, and how many can be taken in all; the rest as for a source
pub record SinkState : Type 0 where
  pub taken : List ℕ
  pub room : ℕ
  pub failing : List ℕ
  pub calls : ℕ
  pub faults : ℕ
