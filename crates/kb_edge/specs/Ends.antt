-- What the ends in memory are.
use Rattle.std.specs.Prelude.{ℕ, List}

-- a source in memory: the bytes left, the most that a read gives, the calls that fail, the calls and faults so far
pub record SourceState : Type 0 where
  pub left : List ℕ
  pub piece : ℕ
  pub failing : List ℕ
  pub calls : ℕ
  pub faults : ℕ

-- a sink in memory: the bytes held, the most that it holds, the calls that fail, the calls and faults so far
pub record SinkState : Type 0 where
  pub held : List ℕ
  pub room : ℕ
  pub failing : List ℕ
  pub calls : ℕ
  pub faults : ℕ
