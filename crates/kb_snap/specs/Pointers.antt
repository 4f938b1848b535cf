-- Pointers that are kept, by the ids of their rows.
use Rattle.std.specs.Prelude.{◌≡◌, ℕ, List, Some, refl}
use Rattle.std.specs.Coded.{Coded, code_by, coded×, coded_ℕ, coded_list}
use Rattle.std.specs.FinMap.{FinMap, get, code}
use Rattle.kb_name.specs.declared.ids.NodeId.{NodeId}
use Rattle.kb_name.specs.Nodes.{node_cmp}
use Rattle.kb_ops.specs.Codes.{coded_node}
use Rattle.kb_ops.specs.Rows.{Look}
use Rattle.kb_blocks.specs.declared.pointer.Ptr.{Ptr}
use Rattle.kb_files.specs.Files.{Vault}
use Rattle.kb_snap.specs.Holds.{Holds}

abbrev pub Kept : Type 0
Kept = FinMap node_cmp Ptr

abbrev pub coded_ptr : Coded Ptr
coded_ptr = code_by (List ℕ × ℕ) (coded× (coded_list coded_ℕ) coded_ℕ) (λ p. (p.id, p.generation)) (λ c. record { id = c.0; generation = c.1 }) (λ _. refl)

abbrev pub coded_kept : Coded Kept
coded_kept = code coded_node coded_ptr

-- each kept pointer holds its row, with all below it
abbrev pub AllHold : Vault → Look → Kept → Type 0
AllHold vault look kept = (q : NodeId) (p : Ptr) → get kept q ≡ Some p → Holds vault look q p
