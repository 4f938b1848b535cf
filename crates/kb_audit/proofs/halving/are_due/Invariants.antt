use Rattle.std.proofs.Common.{take}
use Rattle.std.specs.List.{AllByRecursion}
use Rattle.kb_keys.specs.declared.halves.Half.{Half}
use Rattle.kb_audit.specs.Halving.{IsDue}
use Rattle.kb_audit.proofs.halving.are_due.Given as goal

abbrev pub invariant-list : goal.invariant-list
invariant-list l = AllByRecursion (λ (h : Half). IsDue l.secrets l.policy l.halves h.device h.generation) (take l.half-index l.list)
