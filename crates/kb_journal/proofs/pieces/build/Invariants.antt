use Rattle.std.proofs.Common.{◌≡◌, ◌+◌, ◌≤◌, ◌∷◌, take, drop, length}
use Rattle.std.specs.Prelude.{vec_len, vec_capacity, sum_by}
use Rattle.kb_log.specs.LogList.{lists_of}
use Rattle.kb_log.specs.Pieces.{pieces, AreEnds}
use Rattle.kb_journal.specs.declared.entries.Entry.TheVariants.{Head}
use Rattle.kb_journal.specs.Entries.{entry_text}
use Rattle.kb_journal.specs.State.{use_of}
use Rattle.kb_journal.proofs.pieces.build.Given as goal

abbrev pub invariant-loop-text : goal.invariant-loop-text
invariant-loop-text l = record {
  are : AreEnds 0 l.bytes.items l.ends.items;
  so_far : pieces 0 l.bytes.items l.ends.items ≡ entry_text (Head l.held.known l.held.hash l.held.base l.held.mark) ∷ lists_of (take l.text-index l.held.texts.items);
  count : vec_len l.ends ≡ l.text-index + 1;
  fits : vec_len l.bytes + sum_by (λ (p : _). length p) (lists_of (drop l.text-index l.held.texts.items)) ≤ use_of l.held.ops.items;
  room : vec_capacity l.fn.bytes ≤ vec_capacity l.bytes;
  ends_room : vec_capacity l.fn.ends ≤ vec_capacity l.ends;
}
