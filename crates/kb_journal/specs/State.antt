-- The state of a journal, and how a list of payloads leads to it.
use Rattle.std.specs.Prelude.{◌≡◌, ℕ, ◌+◌, Bool, true, false, ◌&&◌, ◌||◌, not, nat_lt, nat_le, ◌==◌, List, [], ◌∷◌, ◌++◌, length, drop, replicate, sum_by, map}
use Rattle.kb_ops.specs.declared.rows.Op.{Op as Operation}
use Rattle.kb_ops.specs.Grammar.{op_text}
use Rattle.kb_log.specs.Images.{HasList}
use Rattle.kb_log.specs.LogList.{area_size}
use Rattle.kb_journal.specs.declared.entries.Entry.{Entry}
use Rattle.kb_journal.specs.declared.entries.Entry.TheVariants.{Op, Landed, Branched, Merged, Head}
use Rattle.kb_journal.specs.Entries.{entry_text, IsEntry}

-- the known revision's number and hash, the seq before the queue, the branch mark, and the queue
pub record State : Type 0 where
  pub known : ℕ
  pub hash : List ℕ
  pub base : ℕ
  pub mark : Bool
  pub queue : List Operation

-- the state of a new disk
abbrev pub empty : State
empty = record { known = 0; hash = replicate 32 0; base = 0; mark = false; queue = [] }

-- the seq of the last operation
abbrev pub last_seq : State → ℕ
last_seq s = s.base + length s.queue

-- the queue has no operation of another device
abbrev pub takes_device : List Operation → ℕ → Bool
takes_device [] device = true
takes_device (op ∷ queue) device = device == op.device

-- whether a payload may come in this state
abbrev pub allows : State → Entry → Bool
allows s (Op op) = op.seq == last_seq s + 1 && (nat_lt (length s.queue) 4096 && takes_device s.queue op.device)
allows s (Landed number hash) = nat_lt 0 (length s.queue) && (not s.mark && number == s.known + 1)
allows s Branched = nat_lt 0 (length s.queue) && not s.mark
allows s (Merged number hash count) = nat_lt 0 count && (nat_le count (length s.queue) && nat_lt s.known number)
allows s (Head number hash seq mark) = length s.queue == 0 && (nat_le s.known number && nat_le (last_seq s) seq)

-- the state after a payload
abbrev pub done : State → Entry → State
done s (Op op) = record s { queue = s.queue ++ op ∷ [] }
done s (Landed number hash) = record s { known = number; hash = hash; base = s.base + 1; queue = drop 1 s.queue }
done s Branched = record s { mark = true }
done s (Merged number hash count) = record { known = number; hash = hash; base = s.base + count; mark = false; queue = drop count s.queue }
done s (Head number hash seq mark) = record { known = number; hash = hash; base = seq; mark = mark; queue = [] }

-- the payload is in the grammar, it may come in the one state, and it leads to the other
pub record Steps (s : State) (payload : List ℕ) (t : State) : Type 0 where
  pub entry : Entry
  pub is : IsEntry entry
  pub spelled : payload ≡ entry_text entry
  pub allowed : allows s entry ≡ true
  pub after : done s entry ≡ t

-- the payloads lead from the one state to the other, one after another
abbrev pub Leads : State → List (List ℕ) → State → Type 0
Leads s [] t = s ≡ t
Leads s (p ∷ ps) t = (m : State) × Steps s p m × Leads m ps t

-- the bytes of the compacted text: one head, one operation for each queued one, and a closed gate
abbrev pub use_of : List Operation → ℕ
use_of queue = 48 + sum_by (λ op. 6 + length (op_text op)) queue

-- the compacted text fits the area, and a set mark has a queue
abbrev pub is_whole : ℕ → State → Bool
is_whole area s = nat_le (use_of s.queue) area && (not s.mark || nat_lt 0 (length s.queue))

-- the bytes of a disk have this state
abbrev pub HasState : State → List ℕ → Type 0
HasState s image = (ps : List (List ℕ)) × HasList ps image × Leads empty ps s × (is_whole (area_size (length image)) s ≡ true)

-- the bytes of a disk are no journal
abbrev pub IsNoJournal : List ℕ → Type 0
IsNoJournal image = (s : State) → HasState s image → ⊥

-- ---- the compacted list

-- the payload of a queued operation
abbrev pub queued_text : Operation → List ℕ
queued_text op = entry_text (Op op)

-- one head, and the queue
abbrev pub compacted : State → List (List ℕ)
compacted s = entry_text (Head s.known s.hash s.base s.mark) ∷ map queued_text s.queue
