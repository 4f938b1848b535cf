-- No operation is spelled by many bytes.
use Rattle.std.proofs.Common.{◌≡◌, ◌≤◌, ℕ, Bool, true, false, not, eqb, leb, List, ◌++◌, length, Option, Some, None, arith, length-append}
use Rattle.std.proofs.lemmas.Bool.{leb-true}
use Rattle.kb_name.specs.Names.{is_name}
use Rattle.kb_name.specs.declared.ids.NodeId.{NodeId}
use Rattle.kb_ops.specs.declared.rows.Op.{Op as Operation}
use Rattle.kb_ops.specs.declared.rows.Change.{Change}
use Rattle.kb_ops.specs.declared.rows.Change.TheVariants.{Create, Remove, Rename, Sync, Exec, Touch}
use Rattle.kb_ops.specs.Grammar.{op_text, fields_text, name_text, kind_text, bytes_text, flag_text, replaced_text, MeetsRules, IsProper}
use Rattle.kb_wire.specs.Fields.{u32_text}
use Rattle.kb_journal.proofs.Good.{both}

name_short : (name : List ℕ) → is_name name ≡ true → length name ≤ 255
name_short name is = leb-true (length name) 255 (both (leb (length name) 255) _ (both (not (eqb (length name) 0)) _ is).1).0

flag_size : (b : Bool) → length (flag_text b) ≤ 1
flag_size true = omega arith
flag_size false = omega arith

replaced_size : (o : Option NodeId) → length (replaced_text o) ≤ 9
replaced_size None = omega arith
replaced_size (Some n) = omega arith

fields_short : (change : Change) → MeetsRules change → length (fields_text change) ≤ 66000
fields_short (Create parent name kind bytes) m = omega (arith, name_short name m.0, m.1.few, length-append (name_text name) (kind_text kind ++ bytes_text bytes), length-append name (kind_text kind ++ bytes_text bytes))
fields_short (Remove node) m = omega arith
fields_short (Rename node parent name replaced) m = omega (arith, name_short name m.0, length-append name (replaced_text replaced), replaced_size replaced)
fields_short (Sync node offset bytes size) m = omega (arith, m.few, length-append bytes (u32_text size))
fields_short (Exec node on) m = omega (arith, flag_size on)
fields_short (Touch node mtime) m = omega arith

pub op_short : (op : Operation) → IsProper op → length (op_text op) ≤ 99999
op_short op is = omega (arith, fields_short op.change is.change)
