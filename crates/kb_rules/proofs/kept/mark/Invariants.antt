use Rattle.std.proofs.Common.{◌≡◌, ◌+◌, ℕ, length}
use Rattle.kb_rules.specs.Code.{mark}
use Rattle.kb_rules.proofs.kept.mark.Given as goal

-- the steps that are left give what the whole walk gives
abbrev pub invariant-loop : goal.invariant-loop
invariant-loop l = (n : ℕ) → n + l.counter ≡ length l.ups → mark l.ups n l.at l.kept.items ≡ mark l.ups (length l.ups) l.fn.from l.fn.kept.items
