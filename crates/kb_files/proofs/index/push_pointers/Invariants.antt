use Rattle.std.proofs.Common.{◌≡◌, ◌++◌, drop}
use Rattle.kb_files.specs.Files.{pointers}
use Rattle.kb_files.proofs.index.push_pointers.Given as goal

abbrev pub invariant-loop-ptr : goal.invariant-loop-ptr
invariant-loop-ptr l = l.out.items ++ pointers (drop l.ptr-index l.ptrs) ≡ l.fn.out.items ++ pointers l.ptrs
