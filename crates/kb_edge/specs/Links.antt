-- When a link loses a call, and which side it then has armed.
use Rattle.std.specs.Prelude.{◌≡◌, ◌↔◌, Option, None, Some, IfSome, IsSomeAnd, Result, IsErr, OnOk, OnErr, ℕ}
use Rattle.kb_edge.specs.declared.link.Side.{Side}

-- a link in memory: the side that is armed, and the faults so far
pub record LinkState : Type 0 where
  pub armed : Option Side
  pub faults : ℕ

-- a call of this side is lost exactly where the side is armed: then none is armed, else what was armed stays
pub record IsLostAt {T E : Type 0} (side : Side) (before now : Option Side) (result : Result T E) : Type 0 where
  pub lost : IsErr result ↔ before ≡ Some side
  pub disarmed : OnErr result (now ≡ None)
  pub stays : OnOk result (now ≡ before)

-- where a link tells what is armed, it loses a call of this side so, and tells it afterwards too
abbrev pub LosesAt : {T E : Type 0} → Side → Option (Option Side) → Option (Option Side) → Result T E → Type 0
LosesAt side old new result = IfSome old (λ before. IsSomeAnd new (λ now. IsLostAt side before now result))
