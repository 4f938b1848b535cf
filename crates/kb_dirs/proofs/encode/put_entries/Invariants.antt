use Rattle.std.proofs.Common.{◌≡◌, ◌++◌, take, drop}
use Rattle.std.specs.List.{AllByRecursion}
use Rattle.kb_dirs.specs.Dirs.{entries_text, IsEntry}
use Rattle.kb_dirs.proofs.encode.put_entries.Given as goal

abbrev pub invariant-loop-entry : goal.invariant-loop-entry
invariant-loop-entry l = record {
  text : l.writer ++ entries_text (drop l.entry-index l.entries) ≡ l.fn.writer ++ entries_text l.entries;
  room : AllByRecursion IsEntry (take l.entry-index l.entries);
}
