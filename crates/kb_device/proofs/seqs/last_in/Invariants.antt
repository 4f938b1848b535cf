use Rattle.std.proofs.Common.{◌≡◌, take}
use Rattle.kb_device.specs.Fresh.{last_in}
use Rattle.kb_device.proofs.seqs.last_in.Given as goal

abbrev pub invariant-loop-row : goal.invariant-loop-row
invariant-loop-row l = l.last ≡ last_in l.d (take l.row-index l.rows)
