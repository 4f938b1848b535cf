use Rattle.std.proofs.Common.{◌≡◌, ◌++◌, ◌*◌, ◌-◌, length}
use Rattle.kb_files.specs.Files.{ptrs_of}
use Rattle.kb_files.proofs.index.ptrs_of.Given as goal

abbrev pub invariant-ptrs : goal.invariant-ptrs
invariant-ptrs l = record {
  size : length l.rest ≡ 36 * (l.count - l._i);
  read : l.ptrs.items ++ ptrs_of (l.count - l._i) l.rest ≡ ptrs_of l.count l.bytes;
}
