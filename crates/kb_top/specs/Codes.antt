-- The exit status of a program.
use Rattle.std.specs.Prelude.{ℕ}
use Rattle.kb_top.specs.declared.status.Status.{Status}
use Rattle.kb_top.specs.declared.status.Status.TheVariants.{Done, Usage, Script, ReadFault, WriteFault, Memory}

abbrev pub code_of : Status → ℕ
code_of Done = 0
code_of Usage = 2
code_of Script = 3
code_of ReadFault = 4
code_of WriteFault = 5
code_of Memory = 6
