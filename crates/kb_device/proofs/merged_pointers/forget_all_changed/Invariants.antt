use Rattle.std.proofs.Common.{◌≡◌, Some, take}
use Rattle.std.specs.List.{AllByRecursion}
use Rattle.std.specs.FinMap.{get}
use Rattle.kb_blocks.specs.declared.pointer.Ptr.{Ptr}
use Rattle.kb_name.specs.declared.ids.NodeId.{NodeId}
use Rattle.kb_device.specs.Left.{StaysBeside}
use Rattle.kb_device.proofs.merged_pointers.forget_all_changed.Given as goal

abbrev pub invariant-loop-row : goal.invariant-loop-row
invariant-loop-row l = (q : NodeId) (p : Ptr) → get l.pointers q ≡ Some p → (get l.fn.pointers q ≡ Some p) × AllByRecursion (StaysBeside l.old.tree q) (take l.row-index l.rows)
