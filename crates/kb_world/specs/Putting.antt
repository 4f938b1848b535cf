-- Why a put is refused, as it is printed.
use Rattle.std.specs.Prelude.{◌≡◌, ℕ, Bool, true, false, Result, Err}
use Rattle.kb_chain.specs.declared.states.PutRefusal.{PutRefusal}
use Rattle.kb_chain.specs.declared.states.PutRefusal.TheVariants as why
use Rattle.kb_lines.specs.declared.reasons.Reason.{Reason}
use Rattle.kb_snap.specs.Answers.{PutFault}
use Rattle.kb_folder.specs.Goes.{Means}
use Rattle.kb_world.specs.Printed.{put_reason}

-- the reason is that of the machine's refusal, where there is one
abbrev pub IsReason : PutRefusal → Reason → Type 0
IsReason refusal reason = (fault : PutFault) → Means (Err refusal) (Err fault) → put_reason fault ≡ reason

-- memory ran out at the put
abbrev pub lacks_memory : Result ℕ PutRefusal → Bool
lacks_memory (Err why.Memory) = true
lacks_memory put = false
