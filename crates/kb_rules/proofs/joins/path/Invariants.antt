use Rattle.std.proofs.Common.{◌≡◌, ◌+◌, ℕ, ◌++◌, length}
use Rattle.kb_rules.specs.Hosting.{path_of}
use Rattle.kb_rules.proofs.joins.path.Given as goal

-- the path so far, with the steps that are left
abbrev pub invariant-loop : goal.invariant-loop
invariant-loop l = (n : ℕ) → n + l.counter ≡ length l.ups → l.path.items ++ path_of l.ups l.known n l.at ≡ path_of l.ups l.known (length l.ups) l.fn.from
