-- What a device keeps in its journal, without bytes, and how notes change it.
use Rattle.std.specs.Prelude.{ℕ, ◌+◌, ◌==◌, Bool, false, true, List, [], ◌∷◌, ◌++◌, length, drop, filter, max, nat_lt, if◌then◌else◌}
use Rattle.std.specs.Option.{option_map_or, unwrap_or}
use Rattle.kb_ops.specs.declared.rows.Op.{Op}
use Rattle.kb_journal.specs.State.{State}
use Rattle.kb_snap.specs.Chains.{Chain, ops_of, seq_of_last, first_own, last_own}

-- The number of the known revision, the seq before the queue, the branch mark, and the queue. A disk's journal also has
-- the hash of the known revision, which a chain without bytes can't say.
pub record Journal : Type 0 where
  pub known : ℕ
  pub base : ℕ
  pub mark : Bool
  pub queue : List Op

-- the same of a journal with its hash
abbrev pub plain : State → Journal
plain s = record { known = s.known; base = s.base; mark = s.mark; queue = s.queue }

-- that of a new disk
abbrev pub blank : Journal
blank = record { known = 0; base = 0; mark = false; queue = [] }

-- the seq of the last operation
abbrev pub last_seq : Journal → ℕ
last_seq j = j.base + length j.queue

-- an operation stands behind the queue
abbrev pub queued : Op → Journal → Journal
queued op j = record j { queue = j.queue ++ op ∷ [] }

-- the revision is known, and the first operations of the queue, which it holds, leave
abbrev pub taken : ℕ → ℕ → Journal → Journal
taken number count j = record { known = number; base = j.base + count; mark = false; queue = drop count j.queue }

-- the queue is a branch
abbrev pub branched : Journal → Journal
branched j = record j { mark = true }

-- where the chain has operations of the device beyond the known revision, the revision that holds them is known
abbrev pub taken_over : ℕ → Chain → Journal → Journal
taken_over d c j = option_map_or (λ (own : ℕ × ℕ). taken own.0 own.1 j) (first_own d j.known (drop j.known c)) j

-- where no operation waits, the last revision is known
abbrev pub caught_up : Chain → Journal → Journal
caught_up c j = if length j.queue == 0 then record j { known = length c } else j

-- the state that an opening goes on with
abbrev pub resumed : ℕ → Chain → Journal → Journal
resumed d c j = caught_up c (taken_over d c j)

-- The state that a restore makes of a kept one. The operations that landed since leave the queue; where the chain has
-- revisions with operations of the device beyond the known one, the last of them is known, and the mark is clear.
abbrev pub returned : ℕ → Chain → Journal → Journal
returned d c j =
    let last = seq_of_last (ops_of d c) in
    let own = last_own d j.known (drop j.known c) in
    record { known = unwrap_or own j.known; base = max last j.base; mark = option_map_or (λ (n : ℕ). false) own j.mark; queue = filter (λ (op : Op). nat_lt last op.seq) j.queue }
