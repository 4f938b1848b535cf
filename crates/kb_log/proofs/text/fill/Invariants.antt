use Rattle.std.proofs.Common.{◌≡◌, ◌≤◌, ◌++◌, drop}
use Rattle.std.specs.Prelude.{vec_capacity}
use Rattle.kb_log.specs.Pieces.{pieces, AreEnds, records_text}
use Rattle.kb_log.proofs.text.fill.Given as goal

abbrev pub invariant-loop-end : goal.invariant-loop-end
invariant-loop-end l = record {
  so_far : l.text.items ++ records_text (pieces l.from l.bytes (drop l.end-index l.ends)) ≡ records_text (pieces 0 l.bytes l.ends);
  are : AreEnds l.from l.bytes (drop l.end-index l.ends);
  room : vec_capacity l.fn.text ≤ vec_capacity l.text;
}
