use Rattle.std.proofs.Common.{◌≡◌, ◌++◌, length}
use Rattle.std.specs.List.{AllByRecursion}
use Rattle.kb_dirs.specs.Dirs.{entries_text, IsEntry, AreOrdered}
use Rattle.kb_dirs.proofs.decode.take_entries.Given as goal

abbrev pub invariant-entries : goal.invariant-entries
invariant-entries l = record {
  size : length l.entries.items ≡ l._i;
  each : AllByRecursion IsEntry l.entries.items;
  ordered : AreOrdered l.entries.items;
  read : l.fn.reader ≡ entries_text l.entries.items ++ l.reader;
}
