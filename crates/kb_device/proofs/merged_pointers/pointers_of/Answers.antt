use Rattle.std.proofs.Common.{◌≡◌, Some, None, ap, sym, ◌∙◌}
use Rattle.std.specs.FinMap.{get, get-empty}
use Rattle.kb_name.specs.Nodes.{node_cmp}
use Rattle.kb_device.proofs.merged_pointers.pointers_of.Goals as goal

pub loop-row-init : goal.loop-row-init
loop-row-init c q p is = (let no : None ≡ Some p = sym (ap (λ m. get m q) c.new-left.ensures ∙ get-empty node_cmp q) ∙ is in cc)
