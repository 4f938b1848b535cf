-- Node ids: their order, and when two are the same.
use Rattle.std.specs.Prelude.{Bool, ◌&&◌, nat_eq}
use Rattle.std.specs.declared.cmp.Ordering.{Ordering}
use Rattle.std.specs.Ordering.{nat_cmp, ordering_then}
use Rattle.kb_name.specs.declared.ids.NodeId.{NodeId}

abbrev pub root : NodeId
root = record { device = 0; seq = 0; part = 0 }

abbrev pub same_node : NodeId → NodeId → Bool
same_node a b = nat_eq a.device b.device && (nat_eq a.seq b.seq && nat_eq a.part b.part)

-- by device, then seq, then part
abbrev pub node_cmp : NodeId → NodeId → Ordering
node_cmp a b = ordering_then (nat_cmp a.device b.device) (ordering_then (nat_cmp a.seq b.seq) (nat_cmp a.part b.part))
