use Rattle.std.proofs.Common.{◌≡◌, ◌≤◌, ◌+◌, ◌-◌, length, vec_len}
use Rattle.std.specs.Io.KnownBytes.{Consumes}
use Rattle.kb_top.specs.declared.input.TheConstants.{SCRIPT_LIMIT}
use Rattle.kb_top.proofs.input.read_all.Given as goal

-- the bytes so far were consumed
abbrev pub invariant-pieces : goal.invariant-pieces
invariant-pieces g l =
    (vec_len l.bytes ≤ SCRIPT_LIMIT + 1) × Consumes (g.S.Source.left l.fn.source) (g.S.Source.left l.source) l.bytes.items
    × (g.S.Source.faults l.fn.source ≤ g.S.Source.faults l.source) × (length l.buffer ≡ 4096)

abbrev pub decreases-pieces : goal.decreases-pieces
decreases-pieces g l = SCRIPT_LIMIT + 1 - vec_len l.bytes
