-- Answers that are right for whatever stands.
use Rattle.std.specs.Prelude.{Result, Ok, Err}
use Rattle.kb_files.specs.Opens.{Blocks, Refuses}
use Rattle.kb_files.specs.declared.loading.LoadFault.{LoadFault}

-- Of whatever meets the first fact, the answer is right by the second. It was refused only where nothing meets the first: as missing where no bytes stand under the id, as a bad block where some do, or for want of memory.
abbrev pub Tells : {X Y : Type 0} → Blocks → (X → Type 0) → (Y → X → Type 0) → Result Y LoadFault → Type 0
Tells {X} blocks P Q (Ok y) = (x : X) → P x → Q y x
Tells blocks P Q (Err e) = Refuses blocks P e
