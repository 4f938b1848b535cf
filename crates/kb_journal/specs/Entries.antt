-- What the payloads of a journal are, and how each is spelled.
use Rattle.std.specs.Prelude.{◌≡◌, ◌≢◌, ◌<◌, ◌^◌, ℕ, List, ◌++◌, length, Result, Ok, Err}
use Rattle.kb_wire.specs.Fields.{u8_text, u32_text}
use Rattle.kb_ops.specs.Grammar.{op_text, flag_text, IsOp}
use Rattle.kb_journal.specs.declared.entries.Entry.{Entry}
use Rattle.kb_journal.specs.declared.entries.EntryFault.{EntryFault}
use Rattle.kb_journal.specs.declared.entries.EntryFault.TheVariants.{BadEntry, Memory}
use Rattle.kb_journal.specs.declared.entries.Entry.TheVariants.{Op, Landed, Branched, Merged, Head}

-- a tag and its fields
abbrev pub entry_text : Entry → List ℕ
entry_text (Op op) = u8_text 1 ++ op_text op
entry_text (Landed number hash) = u8_text 2 ++ (u32_text number ++ hash)
entry_text Branched = u8_text 3
entry_text (Merged number hash count) = u8_text 4 ++ (u32_text number ++ (hash ++ u32_text count))
entry_text (Head number hash seq mark) = u8_text 5 ++ (u32_text number ++ (hash ++ (u32_text seq ++ flag_text mark)))

-- a revision's number and its hash
pub record IsRevision (number : ℕ) (hash : List ℕ) : Type 0 where
  pub fits : number < 2 ^ 32
  pub size : length hash ≡ 32

-- the fields have room for their values, and an operation is one
abbrev pub IsEntry : Entry → Type 0
IsEntry (Op op) = IsOp op
IsEntry (Landed number hash) = IsRevision number hash
IsEntry Branched = Unit {0}
IsEntry (Merged number hash count) = IsRevision number hash × (count < 2 ^ 32)
IsEntry (Head number hash seq mark) = IsRevision number hash × (seq < 2 ^ 32)

-- the bytes spell no payload
abbrev pub IsNoEntry : List ℕ → Type 0
IsNoEntry bytes = (e : Entry) → IsEntry e → bytes ≢ entry_text e

-- the entry that was read is the one that the bytes spell, and the bytes spell none where they are bad
abbrev pub ReadsEntry : List ℕ → Result Entry EntryFault → Type 0
ReadsEntry bytes (Ok e) = IsEntry e × (bytes ≡ entry_text e)
ReadsEntry bytes (Err BadEntry) = IsNoEntry bytes
ReadsEntry bytes (Err Memory) = Unit {0}
