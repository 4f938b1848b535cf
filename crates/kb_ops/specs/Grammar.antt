-- How an operation is spelled, and which operations are.
use Rattle.std.specs.Prelude.{◌≡◌, ◌≢◌, ℕ, ◌^◌, ◌<◌, ◌≤◌, Bool, true, false, List, [], ◌++◌, length, Option, Some, None, Result, Ok, Err}
use Rattle.kb_name.specs.declared.ids.NodeId.{NodeId}
use Rattle.kb_name.specs.Names.{is_name}
use Rattle.kb_name.specs.Moments.{last_second}
use Rattle.kb_name.specs.Nodes.{root}
use Rattle.kb_wire.specs.Fields.{u8_text, u16_text, u32_text, u64_text}
use Rattle.kb_ops.specs.declared.values.Kind.{Kind}
use Rattle.kb_ops.specs.declared.values.Kind.TheVariants.{Link}
use Rattle.kb_ops.specs.declared.faults.OpFault.{OpFault}
use Rattle.kb_ops.specs.declared.faults.OpFault.TheVariants.{BadOp, Memory}
use Rattle.kb_ops.specs.declared.rows.Op.{Op}
use Rattle.kb_ops.specs.declared.rows.Change.{Change}
use Rattle.kb_ops.specs.declared.rows.Change.TheVariants.{Create, Remove, Rename, Sync, Exec, Touch}
use Rattle.kb_ops.specs.Codes.{kind_number}
use Rattle.kb_ops.specs.Trees.{IsWrite}

-- ---- fields

-- device, seq and part
abbrev pub node_text : NodeId → List ℕ
node_text n = u16_text n.device ++ (u32_text n.seq ++ u16_text n.part)

-- the length as one byte, and the bytes
abbrev pub name_text : List ℕ → List ℕ
name_text name = u8_text (length name) ++ name

-- the length as four bytes, and the bytes
abbrev pub bytes_text : List ℕ → List ℕ
bytes_text bytes = u32_text (length bytes) ++ bytes

-- 0 for a Dir, 1 for a File, 2 for a Link
abbrev pub kind_text : Kind → List ℕ
kind_text kind = u8_text (kind_number kind)

abbrev pub flag_text : Bool → List ℕ
flag_text false = u8_text 0
flag_text true = u8_text 1

-- 0, or 1 and a node id
abbrev pub replaced_text : Option NodeId → List ℕ
replaced_text None = u8_text 0
replaced_text (Some gone) = u8_text 1 ++ node_text gone

-- ---- operations

abbrev pub tag_of : Change → ℕ
tag_of (Create parent name kind bytes) = 1
tag_of (Remove node) = 2
tag_of (Rename node parent name replaced) = 3
tag_of (Sync node offset bytes size) = 4
tag_of (Exec node on) = 5
tag_of (Touch node mtime) = 6

-- what stands behind the tag
abbrev pub fields_text : Change → List ℕ
fields_text (Create parent name kind bytes) = node_text parent ++ (name_text name ++ (kind_text kind ++ bytes_text bytes))
fields_text (Remove node) = node_text node
fields_text (Rename node parent name replaced) = node_text node ++ (node_text parent ++ (name_text name ++ replaced_text replaced))
fields_text (Sync node offset bytes size) = node_text node ++ (u32_text offset ++ (bytes_text bytes ++ u32_text size))
fields_text (Exec node on) = node_text node ++ flag_text on
fields_text (Touch node mtime) = node_text node ++ u64_text mtime

abbrev pub change_text : Change → List ℕ
change_text change = u8_text (tag_of change) ++ fields_text change

-- device, seq, moment, and what is changed
abbrev pub op_text : Op → List ℕ
op_text op = u16_text op.device ++ (u32_text op.seq ++ (u64_text op.moment ++ change_text op.change))

-- ---- which operations are spelled

-- the numbers have room in their fields, as the values of the program always do
pub record IsNode (n : NodeId) : Type 0 where
  pub device : n.device < 2 ^ 16
  pub seq : n.seq < 2 ^ 32
  pub part : n.part < 2 ^ 16

abbrev pub MayBeNode : Option NodeId → Type 0
MayBeNode None = Unit {0}
MayBeNode (Some n) = IsNode n

abbrev pub HasRoom : Change → Type 0
HasRoom (Create parent name kind bytes) = IsNode parent
HasRoom (Remove node) = IsNode node
HasRoom (Rename node parent name replaced) = IsNode node × IsNode parent × MayBeNode replaced
HasRoom (Sync node offset bytes size) = IsNode node
HasRoom (Exec node on) = IsNode node
HasRoom (Touch node mtime) = IsNode node × (mtime ≤ last_second)

-- a new row has bytes only as a Link, and then at most 1,024
pub record IsNew (kind : Kind) (bytes : List ℕ) : Type 0 where
  pub empty : kind ≢ Link → bytes ≡ []
  pub few : length bytes ≤ 1024

-- the root isn't moved or replaced, and a row doesn't replace itself
pub record IsMove (node : NodeId) (replaced : Option NodeId) : Type 0 where
  pub moves : node ≢ root
  pub keeps_root : replaced ≢ Some root
  pub other : replaced ≢ Some node

-- the further rules: names are names, and the root isn't removed
abbrev pub MeetsRules : Change → Type 0
MeetsRules (Create parent name kind bytes) = (is_name name ≡ true) × IsNew kind bytes
MeetsRules (Remove node) = node ≢ root
MeetsRules (Rename node parent name replaced) = (is_name name ≡ true) × IsMove node replaced
MeetsRules (Sync node offset bytes size) = IsWrite offset bytes size
MeetsRules (Exec node on) = Unit {0}
MeetsRules (Touch node mtime) = Unit {0}

abbrev pub IsChange : Change → Type 0
IsChange change = HasRoom change × MeetsRules change

-- the device and the seq are at least 1
pub record IsProper (op : Op) : Type 0 where
  pub device : 1 ≤ op.device
  pub seq : 1 ≤ op.seq
  pub change : MeetsRules op.change

pub record IsOp (op : Op) : Type 0 where
  pub device : op.device < 2 ^ 16
  pub seq : op.seq < 2 ^ 32
  pub moment : op.moment ≤ last_second
  pub change : HasRoom op.change
  pub proper : IsProper op

-- a change with this tag, as it stands behind it
abbrev pub HasTag : ℕ → Change → Type 0
HasTag tag change = IsChange change × (tag_of change ≡ tag)

-- the bytes spell no operation
abbrev pub IsNoOp : List ℕ → Type 0
IsNoOp bytes = (op : Op) → IsOp op → bytes ≢ op_text op

-- the operation was read, unless memory ran out
abbrev pub DecodesTo : Op → Result Op OpFault → Type 0
DecodesTo op (Ok read) = read ≡ op
DecodesTo op (Err Memory) = Unit {0}
DecodesTo op (Err BadOp) = ⊥

-- the bytes that spell an operation decode to it
abbrev pub ReadsBack : List ℕ → Result Op OpFault → Type 0
ReadsBack bytes result = (op : Op) → IsOp op → bytes ≡ op_text op → DecodesTo op result
