use Rattle.std.proofs.Common.{◌≡◌, ◌+◌, ℕ}
use Rattle.std.specs.FinMap as map
use Rattle.kb_ops.specs.Trees.{look}
use Rattle.kb_snap.proofs.Forgets.{forgotten}
use Rattle.kb_snap.proofs.pointers.Pointers.forget.Given as goal

-- what is left to forget leads on from here
abbrev pub invariant-rows : goal.invariant-rows
invariant-rows l = (n : ℕ) → n + l.counter ≡ map.len l.table.tree → forgotten (look l.table.tree) n l.from l.self ≡ forgotten (look l.table.tree) (map.len l.table.tree) l.fn.id l.fn.self
