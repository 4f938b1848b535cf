-- How many blocks a pick makes of a file that was written.
use Rattle.std.specs.Prelude.{◌≡◌, ℕ, ◌+◌, ◌*◌, ◌/◌, ◌≤◌, List, ◌∷◌, length, IsSome, Some, Ok}
use Rattle.kb_name.specs.declared.ids.NodeId.{NodeId}
use Rattle.kb_name.specs.Nodes.{root}
use Rattle.kb_ops.specs.declared.rows.Row.{Row}
use Rattle.kb_ops.specs.declared.rows.Op.{Op}
use Rattle.kb_ops.specs.declared.rows.Change.TheVariants.{Sync}
use Rattle.kb_ops.specs.Trees.{look, apply}
use Rattle.kb_ops.specs.Find.{find_from}
use Rattle.kb_snap.specs.Chains.{Chain}
use Rattle.kb_folder.specs.Chains.{Names}
use Rattle.kb_folder.specs.Puts.{Held}
use Rattle.kb_device.specs.Journals.{Journal}
use Rattle.kb_device.specs.Parts.{Part, IsOpenAt}
use Rattle.kb_device.specs.Counting.{reach, IsPlainWrite}
use Rattle.kb_device.specs.Inside.{Inside}
use Rattle.kb_device.specs.Stands.{Member, DeviceStands}
use Rattle.kb_device.specs.declared.answers.Picked.{Picked}

-- Where the picked operation writes a file of the known revision's tree, or gives it another length, the file has a path of so
-- many names, and the device has a cache: the request has at most three blocks for each 4,096 bytes that the change reaches over,
-- six more, and one for each name.
abbrev pub PicksFew : (List ℕ → List ℕ → List ℕ) → (List ℕ → List ℕ → List ℕ) → (List ℕ → List ℕ) → List ℕ → Names → Member → Picked → Type 0
PicksFew sealed signed hashed seed names v picked =
    (d : ℕ) (f : Held) (c : Chain) (p : Part) (j : Journal) (op : Op) (rest : List Op) (node : NodeId) (offset : ℕ) (bytes : List ℕ) (long : ℕ) (row : Row) (path : List (List ℕ)) (s : Inside)
    → v.inside ≡ Some s → IsSome s.cache → DeviceStands sealed signed hashed seed names d f c v p → IsOpenAt p j → j.queue ≡ op ∷ rest → op.change ≡ Sync node offset bytes long
    → look p.base node ≡ Some row → find_from (apply op p.base) root path ≡ Ok node → IsPlainWrite (length row.bytes) offset bytes long
    → length picked.request.blocks ≤ 3 * (reach (length row.bytes) offset bytes long / 4096 + 2) + length path
